-- The jobs that are active after a slot.
use Rattle.std.proofs.Common.{◌≡◌, ◌≢◌, ℕ, ◌-◌, ◌<◌, Bool, true, false, cond, not, ◌&&◌, eqb, ltb, List, is_some, Option, sym, refl, ap, ◌∙◌, ⊎_elim, arith}
use Rattle.std.proofs.lemmas.Bool.{ne_eqb, cases_eq, cases_Bool, lt-ltb}
use Rattle.std.proofs.Math.Bool.{and-true, and-false}
use Rattle.task.specs.declared.entry.Entry.{Entry}
use Rattle.policy.specs.Dispatch.{is_active}
use Rattle.policy.specs.Members.{has}
use Rattle.policy.specs.Sets.{left_of}
use Rattle.trial.specs.Slots.{worked, is_finished}

-- a job that had something left has so still, unless it finished
left_after : (s r : Bool) (x y : ℕ) → y ≡ cond r (x - 1) x → ((s && ltb 0 x) && not (r && eqb y 0)) ≡ (s && ltb 0 y)
left_after false r x y e = refl
left_after true false x y e = ap (λ b. b && true) (ap (ltb 0) (sym e)) ∙ and-true (ltb 0 y)
left_after true true x y e =
    ⊎_elim
    (λ (z : y ≡ 0). rw z (and-false (ltb 0 x)))
    (λ (ne : y ≢ 0). rw (ne_eqb y 0 ne, lt-ltb 0 y (omega arith), lt-ltb 0 x (omega arith)) refl)
    (cases_eq y 0)

module _ (ran : ℕ) (left end : List ℕ) (is : (i : ℕ) → i < 32 → left_of end i ≡ worked ran left i) where
  pub active_after : (at : ℕ → Option Entry) (i : ℕ) → i < 32 → (is_active at left i && not (is_finished ran end i)) ≡ is_active at end i
  active_after at i h = left_after (is_some (at i)) (has ran i) (left_of left i) (left_of end i) (is i h)

  -- where each job that ran has something left, the same jobs are active
  pub same_active : ((i : ℕ) → i < 32 → has ran i ≡ true → 0 < left_of end i) → ((i : ℕ) → i < 32 → has ran i ≡ true → 0 < left_of left i) → (at : ℕ → Option Entry) (i : ℕ) → i < 32 → is_active at end i ≡ is_active at left i
  same_active some was at i h =
      ap (λ b. is_some (at i) && b)
      (⊎_elim
      (λ (on : has ran i ≡ true). lt-ltb 0 (left_of end i) (some i h on) ∙ sym (lt-ltb 0 (left_of left i) (was i h on)))
      (λ (off : has ran i ≡ false). ap (ltb 0) (is i h ∙ ap (λ b. cond b (left_of left i - 1) (left_of left i)) off))
      (cases_Bool (has ran i)))
