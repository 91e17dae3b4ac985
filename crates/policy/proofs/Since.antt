-- What has passed since the latest release is the age.
use Rattle.std.proofs.Common.{◌≡◌, ℕ, ◌+◌, ◌-◌, ◌*◌, ◌/◌, ◌%◌, ◌<◌, ◌≤◌, true, ltb, List, get_or, is_some, Some, None, Option, sym, ap, ◌∙◌, ⊎_elim, mod-eq_of_lt, arith}
use native.Mathlib.Nat.{add-mod, zero-mod}
use Rattle.std.proofs.lemmas.Nat.{div-add-mod', mod_below, mod-mul-add}
use Rattle.std.proofs.lemmas.Bool.{cases_lt, and_parts}
use Rattle.task.specs.declared.entry.Entry.{Entry}
use Rattle.policy.specs.Ages.{age_of}
use Rattle.policy.specs.Dispatch.{since, is_active, Asking, Known}
use Rattle.policy.specs.Releases.{Released, Latest}
use Rattle.policy.specs.Sets.{left_of, word_of}
use Rattle.policy.proofs.Words.{word_has}

-- the age only rises, by less than what is left of the period
pub age_rises : (a d T : ℕ) → a % T + d < T → (a + d) % T ≡ a % T + d
age_rises a d T h =
    let small : d % T ≡ d = mod-eq_of_lt (omega arith) in
    add-mod a d T ∙ (ap (λ x. (a % T + x) % T) small ∙ mod-eq_of_lt h)

-- what is past a whole number of periods and less than one more
pub past_whole : (O T b t : ℕ) → O ≤ b → (b - O) % T ≡ 0 → b ≤ t → t < b + T → (t - O) % T ≡ t - b
past_whole O T b t o w l h =
    let split : t - O ≡ (b - O) + (t - b) = omega arith in
    ap (λ x. x % T) split ∙ (age_rises (b - O) (t - b) T (omega arith) ∙ omega arith)

pub released_at : (e : Entry) (t : ℕ) → 1 ≤ e.period → e.period ≤ 60000 → e.offset ≤ t → Released e t (t - (t - e.offset) % e.period)
released_at e t p q h =
    let x = t - e.offset in
    let T = e.period in
    let split = div-add-mod' x T in
    let low = mod_below x T (omega arith) in
    let rest : (t - x % T) - e.offset ≡ x / T * T + 0 = omega arith in
    record {
      begun = omega arith;
      whole = ap (λ n. n % T) rest ∙ mod-mul-add (x / T) T 0 (omega arith);
      recent = omega arith;
      first = λ l. absurd (omega arith);
      short = q;
    }

module _ (e : Entry) (t b : ℕ) (r : Released e t b) where
  pub age_is : t - b ≡ age_of (Some e) t
  age_is =
      ⊎_elim
      (λ (l : t < b).
      let z : t - e.offset ≡ 0 = omega (arith, r.first l) in
      let y : t - b ≡ 0 = omega arith in
      y ∙ sym (ap (λ x. x % e.period) z ∙ zero-mod e.period))
      (λ (l : b ≤ t). sym (past_whole e.offset e.period b t r.begun r.whole l r.recent))
      (cases_lt t b)

  pub since_is : since b t ≡ age_of (Some e) t
  since_is = mod-eq_of_lt (omega (arith, r.recent, r.short)) ∙ age_is

since_of : (o : Option Entry) (t b : ℕ) → Latest o t b → is_some o ≡ true → since b t ≡ age_of o t
since_of None t b r h = absurd (cc)
since_of (Some e) t b r h = since_is e t b r

-- the active jobs are tasks', and their ages count from the latest releases
pub asking_at : (at : ℕ → Option Entry) (left : List ℕ) (set : ℕ) (released : List ℕ) (t : ℕ) → set ≡ word_of (is_active at left) 32
    → ((i : ℕ) → i < 32 → Latest (at i) t (get_or released i 0)) → Asking at set released t
asking_at at left set released t e r i h on =
    let some = (and_parts (is_some (at i)) (ltb 0 (left_of left i)) (sym (word_has (is_active at left) set i e h) ∙ on)).0 in
    (some, since_of (at i) t (get_or released i 0) (r i h) some)

pub known_at : (at : ℕ → Option Entry) (left : List ℕ) (set : ℕ) (released : List ℕ) (t : ℕ) → set ≡ word_of (is_active at left) 32
    → ((i : ℕ) → i < 32 → Latest (at i) t (get_or released i 0)) → Known at left set released t
known_at at left set released t e r =
    record {
      set_is = e;
      ages_are = λ i h on. since_of (at i) t (get_or released i 0) (r i h) (and_parts (is_some (at i)) (ltb 0 (left_of left i)) on).0;
    }
