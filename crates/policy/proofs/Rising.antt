-- The list of the members of a set, and a loop that goes along it.
use Rattle.std.proofs.Common.{◌/◌, ◌≢◌, eqb, bit_and, ◌≡◌, ℕ, zero, suc, ◌+◌, ◌-◌, ◌<◌, ◌≤◌, Bool, true, false, cond, List, [], ◌∷◌, drop, sym, refl, ap, ◌∙◌, ⊎_elim, arith}
use Rattle.std.specs.Int.{bit_at}
use Rattle.std.proofs.lemmas.Nat.Bits.{bit_at_lowest, bit_at-suc, bit_at-lt, bit_at_and}
use Rattle.std.proofs.lemmas.Bool.{cases_lt, eqb-true, eqb-false}
use Rattle.policy.specs.Members.{has, NextIn, rising, members_from}

-- the first of a list of members, or 32 where there is none
abbrev pub first : List ℕ → ℕ
first [] = 32
first (i ∷ rest) = i

module _ (set : ℕ) where
  -- numbers that are no members are passed over
  pub passed_over : (d low n : ℕ) → ((k : ℕ) → low ≤ k → k < low + d → has set k ≡ false) → rising set low (d + n) ≡ rising set (low + d) n
  passed_over zero low n h =
      let e : 0 + n ≡ n = omega arith in
      let f : low + 0 ≡ low = omega arith in
      rw (e, f) refl
  passed_over (suc d) low n h =
      let e : suc d + n ≡ suc (d + n) = omega arith in
      let f : low + suc d ≡ (low + 1) + d = omega arith in
      let off : has set low ≡ false = h low (omega arith) (omega arith) in
      rw (e, f, off) (passed_over d (low + 1) n (λ k l m. h k (omega arith) (omega arith)))

  -- the next member, or the end, is not passed by
  pub next_past : (low r : ℕ) → low ≤ 32 → NextIn set low r → low ≤ r
  next_past low r h n = ⊎_elim (λ (l : r < 32). n.onward l) (λ (l : 32 ≤ r). omega arith) (cases_lt r 32)

  -- to the next member, or to the end
  pub none_from : (low : ℕ) → NextIn set low 32 → members_from set low ≡ []
  none_from low n =
      let e : 32 - low ≡ (32 - low) + 0 = omega arith in
      rw e (passed_over (32 - low) low 0 (λ k l m. n.skipped k l (omega arith)))

  pub one_from : (low i : ℕ) → low ≤ 32 → NextIn set low i → i < 32 → members_from set low ≡ i ∷ members_from set (i + 1)
  one_from low i l n h =
      let on = n.onward h in
      let e : 32 - low ≡ (i - low) + suc (32 - (i + 1)) = omega arith in
      let f : low + (i - low) ≡ i = omega arith in
      let at : has set i ≡ true = n.member h in
      let skip = passed_over (i - low) low (suc (32 - (i + 1))) (λ k l m. n.skipped k l (omega arith)) in
      ap (rising set low) e ∙ (skip ∙ (rw f (rw at refl)))

  next_or_later : (n low : ℕ) → low + suc n ≡ 32 → (b : Bool) → has set low ≡ b → NextIn set (low + 1) (first (rising set (low + 1) n))
      → NextIn set low (first (cond b (low ∷ rising set (low + 1) n) (rising set (low + 1) n)))
  next_or_later n low e true on r =
      record {
        within = omega arith;
        onward = λ h. omega arith;
        skipped = λ k h l. absurd (omega arith);
        member = λ h. on;
      }
  next_or_later n low e false off r =
      record {
        within = r.within;
        onward = λ h. omega (arith, r.onward h);
        skipped = λ k h l.
            ⊎_elim
            (λ (u : low < k). r.skipped k (omega arith) l)
            (λ (u : k ≤ low). let at : k ≡ low = omega arith in rw at off)
            (cases_lt low k);
        member = r.member;
      }

  -- the first of the members from a number on is the next member
  next_first : (n low : ℕ) → low + n ≡ 32 → NextIn set low (first (rising set low n))
  next_first zero low e =
      record {
        within = omega arith;
        onward = λ h. omega arith;
        skipped = λ k h l. absurd (omega arith);
        member = λ h. absurd (omega arith);
      }
  next_first (suc n) low e = next_or_later n low e (has set low) refl (next_first n (low + 1) (omega arith))

  to_next : (low next : ℕ) → low ≤ 32 → NextIn set low next → members_from set low ≡ members_from set next
  to_next low next h n =
      let on = next_past low next h n in
      let e : 32 - low ≡ (next - low) + (32 - next) = omega (arith, n.within) in
      let f : low + (next - low) ≡ next = omega arith in
      ap (rising set low) e ∙ (passed_over (next - low) low (32 - next) (λ k l m. n.skipped k l (omega arith)) ∙ rw f refl)

  -- a loop goes along the members: what is left are those from its first on
  pub record Along (rest : List ℕ) : Type 0 where
    pub from_first : rest ≡ members_from set (first rest)

  pub along_from : (low : ℕ) (rest : List ℕ) → low ≤ 32 → rest ≡ members_from set low → Along rest × NextIn set low (first rest)
  along_from low rest h e =
      let n = next_first (32 - low) low (omega arith) in
      rw e (record { from_first = to_next low (first (members_from set low)) h n }, n)

  below : (i : ℕ) (more : List ℕ) → i ∷ more ≡ members_from set i → i < 32
  below i more e =
      ⊎_elim
      (λ (l : i < 32). l)
      (λ (l : 32 ≤ i). let z : 32 - i ≡ 0 = omega arith in let none : i ∷ more ≡ [] = e ∙ ap (rising set i) z in absurd (cc))
      (cases_lt i 32)

  -- a turn of the loop, at i, with more to come
  pub record Turn (i : ℕ) (more : List ℕ) : Type 0 where
    pub within : i < 32
    pub member : has set i ≡ true
    pub next : NextIn set (i + 1) (first more)
    pub along : Along more

  pub turn : (rest more : List ℕ) (i : ℕ) → Along rest → rest ≡ i ∷ more → Turn i more
  turn rest more i a e =
      let all : i ∷ more ≡ members_from set i = sym e ∙ (a.from_first ∙ ap (λ r. members_from set (first r)) e) in
      let low : i < 32 = below i more all in
      let n : NextIn set i i = rw (sym all) at (next_first (32 - i) i (omega arith)) in
      let rest_is : more ≡ members_from set (i + 1) = ap (drop 1) (all ∙ one_from i i (omega arith) n low) in
      let (along, next) = along_from (i + 1) more (omega arith) rest_is in
      record { within = low; member = n.member low; next = next; along = along }

others_same : (set rest low n : ℕ) → ((k : ℕ) → low ≤ k → k < low + n → has rest k ≡ has set k) → rising rest low n ≡ rising set low n
others_same set rest low zero h = refl
others_same set rest low (suc n) h =
    let on : has rest low ≡ has set low = h low (omega arith) (omega arith) in
    let more = others_same set rest (low + 1) n (λ k l m. h k (omega arith) (omega arith)) in
    rw (on, more) refl

-- the lowest bit of a number that is not 0 is gone from the number before it, and the bits above are the same
even_half : (n : ℕ) → bit_at n 0 ≡ 0 → (n - 1) / 2 ≡ n / 2 - 1
even_half n e = omega (arith, bit_at_lowest n)

gone_before : (i n : ℕ) → bit_at n i ≡ 1 → ((k : ℕ) → k < i → bit_at n k ≡ 0) → bit_at (n - 1) i ≡ 0
gone_before zero n on off = omega (arith, bit_at_lowest n, bit_at_lowest (n - 1))
gone_before (suc i) n on off =
    bit_at-suc (n - 1) i
    ∙ (ap (λ m. bit_at m i) (even_half n (off 0 (omega arith)))
    ∙ gone_before i (n / 2) (sym (bit_at-suc n i) ∙ on) (λ k l. sym (bit_at-suc n k) ∙ off (suc k) (omega arith)))

same_before : (i k n : ℕ) → i < k → bit_at n i ≡ 1 → ((k : ℕ) → k < i → bit_at n k ≡ 0) → bit_at (n - 1) k ≡ bit_at n k
same_before i zero n l on off = absurd (omega arith)
same_before zero (suc k) n l on off =
    let odd : (n - 1) / 2 ≡ n / 2 = omega (arith, bit_at_lowest n) in
    bit_at-suc (n - 1) k ∙ (ap (λ m. bit_at m k) odd ∙ sym (bit_at-suc n k))
same_before (suc i) (suc k) n l on off =
    bit_at-suc (n - 1) k
    ∙ (ap (λ m. bit_at m k) (even_half n (off 0 (omega arith)))
    ∙ (same_before i k (n / 2) (omega arith) (sym (bit_at-suc n i) ∙ on) (λ k l. sym (bit_at-suc n k) ∙ off (suc k) (omega arith))
    ∙ sym (bit_at-suc n k)))

-- without its lowest member, a set has its other members
module _ (set i : ℕ) (n : NextIn set 0 i) (l : i < 32) where
  abbrev pub others : ℕ
  others = bit_and set (set - 1)

  on : bit_at set i ≡ 1
  on = eqb-true (bit_at set i) 1 (n.member l)

  off : (k : ℕ) → k < i → bit_at set k ≡ 0
  off k h = let b : bit_at set k ≢ 1 = eqb-false (bit_at set k) 1 (n.skipped k (omega arith) h) in omega (arith, bit_at-lt set k)

  none_below : (k : ℕ) → k ≤ i → has others k ≡ false
  none_below k h =
      ⊎_elim
      (λ (lt : k < i). let none : bit_at others k ≡ 0 = omega (arith, bit_at_and set (set - 1) k, off k lt) in rw none refl)
      (λ (ge : i ≤ k). let at : k ≡ i = omega arith in let none : bit_at others i ≡ 0 = omega (arith, bit_at_and set (set - 1) i, gone_before i set on off) in rw (at, none) refl)
      (cases_lt k i)

  same_above : (k : ℕ) → i + 1 ≤ k → k < (i + 1) + (32 - (i + 1)) → has others k ≡ has set k
  same_above k h m = let same : bit_at others k ≡ bit_at set k = omega (arith, bit_at_and set (set - 1) k, same_before i k set (omega arith) on off) in ap (λ b. eqb b 1) same

  pub others_from : members_from set 0 ≡ i ∷ members_from others 0
  others_from =
      let e : 32 - 0 ≡ (i + 1) + (32 - (i + 1)) = omega arith in
      let f : 0 + (i + 1) ≡ i + 1 = omega arith in
      let skip = passed_over others (i + 1) 0 (32 - (i + 1)) (λ k u m. none_below k (omega arith)) in
      let same = others_same set others (i + 1) (32 - (i + 1)) same_above in
      one_from set 0 i (omega arith) n l ∙ ap (λ t. i ∷ t) (sym (ap (rising others 0) e ∙ (skip ∙ rw f same)))
