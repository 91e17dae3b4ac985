-- From the latest release to the next: which instants are releases and deadlines.
use Rattle.std.proofs.Common.{◌≡◌, ℕ, ◌+◌, ◌-◌, ◌%◌, ◌<◌, ◌≤◌, true, false, eqb, leb, Some, sym, ap, ◌∙◌, ⊎_elim, arith}
use native.Mathlib.Nat.{add-mod_right}
use Rattle.std.proofs.lemmas.Bool.{cases_lt, cases_eq, cases_Bool, and_from, and_parts, and_right, le-leb, leb-true, eqb-true, eq-eqb, ne_eqb}
use Rattle.task.specs.declared.entry.Entry.{Entry}
use Rattle.policy.specs.Releases.{Released}
use Rattle.policy.proofs.Since.{age_rises, past_whole}
use Rattle.trial.specs.Places.{releases, is_due, Calm}

-- two whole numbers of periods less than a period apart are the same
same_after : (x y T : ℕ) → x % T ≡ 0 → y % T ≡ 0 → y ≤ x → x < y + T → x ≡ y
same_after x y T p q h l =
    let split : x ≡ y + (x - y) = omega arith in
    let e : x % T ≡ y % T + (x - y) = ap (λ n. n % T) split ∙ age_rises y (x - y) T (omega arith) in
    omega arith

only_whole : (x y T : ℕ) → x % T ≡ 0 → y % T ≡ 0 → x < y + T → y < x + T → x ≡ y
only_whole x y T p q l m =
    ⊎_elim
    (λ (h : x < y). sym (same_after y x T q p (omega arith) m))
    (λ (h : y ≤ x). same_after x y T p q h l)
    (cases_lt x y)

module _ (e : Entry) (s b : ℕ) (r : Released e s b) where
  pub release_there : releases (Some e) b ≡ true
  release_there = and_from (leb e.offset b) (eqb ((b - e.offset) % e.period) 0) (le-leb e.offset b r.begun) (eq-eqb _ 0 r.whole)

  pub whole_again : ((b + e.period) - e.offset) % e.period ≡ 0
  whole_again =
      let split : (b + e.period) - e.offset ≡ (b - e.offset) + e.period = omega (arith, r.begun) in
      ap (λ x. x % e.period) split ∙ (add-mod_right (b - e.offset) e.period ∙ r.whole)

  -- a period after a release is the next one
  pub release_again : releases (Some e) (b + e.period) ≡ true
  release_again = and_from (leb e.offset (b + e.period)) (eqb (((b + e.period) - e.offset) % e.period) 0) (le-leb e.offset (b + e.period) (omega (arith, r.begun))) (eq-eqb _ 0 whole_again)

  module _ (t : ℕ) (after : s < t) where
    pub release_past : b < t → t ≤ b + e.period → eqb (t - b) e.period ≡ releases (Some e) t
    release_past h l =
        ⊎_elim
        (λ (q : t - b ≡ e.period). let at : t ≡ b + e.period = omega arith in eq-eqb (t - b) e.period q ∙ sym (ap (releases (Some e)) at ∙ release_again))
        (λ (q : t - b ≡ e.period → ⊥).
        let less : t < b + e.period = ⊎_elim (λ (m : t < b + e.period). m) (λ (m : b + e.period ≤ t). absurd (q (omega arith))) (cases_lt t (b + e.period)) in
        let age = past_whole e.offset e.period b t r.begun r.whole (omega arith) less in
        ne_eqb (t - b) e.period q ∙ sym (and_right (leb e.offset t) (eqb ((t - e.offset) % e.period) 0) (ne_eqb _ 0 (λ z. omega arith))))
        (cases_eq (t - b) e.period)

    module _ (some : 1 ≤ e.deadline) (fits : e.deadline ≤ e.period) where
      due_where : b < t → t ≤ b + e.period → is_due (Some e) t ≡ true → t - b ≡ e.deadline
      due_where h l d =
          let (late, there) = and_parts (leb e.deadline t) (releases (Some e) (t - e.deadline)) d in
          let (begun, whole) = and_parts (leb e.offset (t - e.deadline)) (eqb (((t - e.deadline) - e.offset) % e.period) 0) there in
          let x = leb-true e.deadline t late in
          let y = leb-true e.offset (t - e.deadline) begun in
          let q : (t - e.deadline) - e.offset ≡ b - e.offset = only_whole ((t - e.deadline) - e.offset) (b - e.offset) e.period (eqb-true _ 0 whole) r.whole (omega (arith, r.begun)) (omega (arith, r.begun)) in
          omega (arith, r.begun)

      pub due_past : b < t → t ≤ b + e.period → eqb (t - b) e.deadline ≡ is_due (Some e) t
      due_past h l =
          ⊎_elim
          (λ (q : t - b ≡ e.deadline).
          let at : t - e.deadline ≡ b = omega arith in
          eq-eqb (t - b) e.deadline q ∙ sym (and_from (leb e.deadline t) (releases (Some e) (t - e.deadline)) (le-leb e.deadline t (omega arith)) (ap (releases (Some e)) at ∙ release_there)))
          (λ (q : t - b ≡ e.deadline → ⊥).
          ⊎_elim
          (λ (d : is_due (Some e) t ≡ true). absurd (q (due_where h l d)))
          (λ (d : is_due (Some e) t ≡ false). ne_eqb (t - b) e.deadline q ∙ sym d)
          (cases_Bool (is_due (Some e) t)))
          (cases_eq (t - b) e.deadline)

      pub calm_between : b < t → t < b + e.period → (t - b ≡ e.deadline → ⊥) → Calm (Some e) t
      calm_between h l ne =
          record {
            no_release = sym (release_past h (omega arith)) ∙ ne_eqb (t - b) e.period (λ z. omega arith);
            no_deadline = sym (due_past h (omega arith)) ∙ ne_eqb (t - b) e.deadline ne;
          }
