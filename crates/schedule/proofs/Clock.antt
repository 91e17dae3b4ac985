-- Ages, releases and deadlines a whole number of periods later.
use Rattle.std.proofs.Common.{◌≡◌, ℕ, ◌+◌, ◌-◌, ◌%◌, ◌<◌, ◌≤◌, true, ◌&&◌, eqb, leb, sym, ap, ◌∙◌, ⊎_elim, add-zero, mod-eq_of_lt, arith}
use native.Mathlib.Nat.{add-mod, mod-mod, mod_self}
use Rattle.std.proofs.lemmas.Bool.{leb-true, eqb-true, le-leb, eq-eqb, and_parts, and_from, cases_lt}
use Rattle.schedule.specs.Plan.{Plan}
use Rattle.schedule.specs.Schedule.{age, release_at, deadline_at}

add_whole : (x P T : ℕ) → P % T ≡ 0 → (x + P) % T ≡ x % T
add_whole x P T e = add-mod x P T ∙ rw (e, add-zero) (mod-mod x T)

module _ (p : Plan) (i : ℕ) where
  -- a release, in numbers
  pub released : (t : ℕ) → release_at p i t ≡ true → (p.offset i ≤ t) × (age p i t ≡ 0)
  released t e =
      let (a, b) = and_parts (leb (p.offset i) t) (eqb (age p i t) 0) e in
      (leb-true (p.offset i) t a, eqb-true (age p i t) 0 b)

  releases : (t : ℕ) → p.offset i ≤ t → age p i t ≡ 0 → release_at p i t ≡ true
  releases t h e = and_from (leb (p.offset i) t) (eqb (age p i t) 0) (le-leb (p.offset i) t h) (eq-eqb (age p i t) 0 e)

  -- a deadline, in numbers
  ended : (t : ℕ) → deadline_at p i t ≡ true → (p.deadline i ≤ t) × (p.offset i ≤ t - p.deadline i) × (age p i (t - p.deadline i) ≡ 0)
  ended t e =
      let (_, q) = and_parts (p.present i) (leb (p.deadline i) t && release_at p i (t - p.deadline i)) e in
      let (a, b) = and_parts (leb (p.deadline i) t) (release_at p i (t - p.deadline i)) q in
      let (h, k) = released (t - p.deadline i) b in
      (leb-true (p.deadline i) t a, h, k)

  ended_here : (t : ℕ) → deadline_at p i t ≡ true → p.present i ≡ true
  ended_here t e = (and_parts (p.present i) (leb (p.deadline i) t && release_at p i (t - p.deadline i)) e).0

  ends : (t : ℕ) → p.present i ≡ true → p.deadline i ≤ t → release_at p i (t - p.deadline i) ≡ true → deadline_at p i t ≡ true
  ends t on h e = and_from (p.present i) (leb (p.deadline i) t && release_at p i (t - p.deadline i)) on (and_from (leb (p.deadline i) t) (release_at p i (t - p.deadline i)) (le-leb (p.deadline i) t h) e)

  -- s is a whole number of periods
  module _ (s : ℕ) (whole : s % p.period i ≡ 0) where
    pub age_again : (t : ℕ) → p.offset i ≤ t → age p i (t + s) ≡ age p i t
    age_again t h =
        let e : t + s - p.offset i ≡ (t - p.offset i) + s = omega arith in
        rw e (add_whole (t - p.offset i) s (p.period i) whole)

    pub release_again : (t : ℕ) → release_at p i t ≡ true → release_at p i (t + s) ≡ true
    release_again t e = let (h, k) = released t e in releases (t + s) (omega arith) (age_again t h ∙ k)

    pub release_back : (t : ℕ) → p.offset i ≤ t → release_at p i (t + s) ≡ true → release_at p i t ≡ true
    release_back t h e = releases t h (sym (age_again t h) ∙ (released (t + s) e).1)

    pub deadline_again : (t : ℕ) → deadline_at p i t ≡ true → deadline_at p i (t + s) ≡ true
    deadline_again t e =
        let (d, h, k) = ended t e in
        let q : t + s - p.deadline i ≡ (t - p.deadline i) + s = omega arith in
        ends (t + s) (ended_here t e) (omega arith) (rw q (release_again (t - p.deadline i) (releases (t - p.deadline i) h k)))

    -- between its first release and its first deadline a task has no deadline, nor has it one that much later
    no_deadline : (t : ℕ) → p.deadline i ≤ p.period i → p.offset i < t → t < p.offset i + p.deadline i → deadline_at p i (t + s) ≡ true → ⊥
    no_deadline t hd h l e =
        let (d, o, k) = ended (t + s) e in
        let x : ℕ = t - p.offset i in
        let y : ℕ = t + s - p.deadline i - p.offset i in
        let split : x + s ≡ p.deadline i + y = omega arith in
        let here : x ≡ x % p.period i = sym (mod-eq_of_lt (omega arith)) in
        let there : x ≡ p.deadline i % p.period i = here ∙ sym (add_whole x s (p.period i) whole) ∙ ap (λ z. z % p.period i) split ∙ add_whole (p.deadline i) y (p.period i) k in
        ⊎_elim
        (λ (lt : p.deadline i < p.period i). let q : p.deadline i % p.period i ≡ p.deadline i = mod-eq_of_lt lt in omega arith)
        (λ (ge : p.period i ≤ p.deadline i).
        let same : p.deadline i ≡ p.period i = omega arith in
        let q : p.deadline i % p.period i ≡ 0 = ap (λ z. z % p.period i) same ∙ mod_self (p.period i) in
        omega arith)
        (cases_lt (p.deadline i) (p.period i))

    pub deadline_back : (t : ℕ) → p.deadline i ≤ p.period i → p.offset i < t → deadline_at p i (t + s) ≡ true → deadline_at p i t ≡ true
    deadline_back t hd h e =
        ⊎_elim
        (λ (l : t < p.offset i + p.deadline i). absurd (no_deadline t hd h l e))
        (λ (g : p.offset i + p.deadline i ≤ t).
        let q : t + s - p.deadline i ≡ (t - p.deadline i) + s = omega arith in
        let (d, o, k) = ended (t + s) e in
        let b : release_at p i ((t - p.deadline i) + s) ≡ true = releases ((t - p.deadline i) + s) (omega arith) (rw q at k) in
        ends t (ended_here (t + s) e) (omega arith) (release_back (t - p.deadline i) (omega arith) b))
        (cases_lt t (p.offset i + p.deadline i))
