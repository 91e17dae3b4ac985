-- What the parts of a slot come to together.
use Rattle.std.proofs.Common.{◌≡◌, ℕ, ◌+◌, ◌-◌, ◌<◌, Bool, true, false, cond, ltb, List, is_some, Option, sym, ap, ◌∙◌, subst}
use Rattle.std.proofs.lemmas.Bool.{and_parts, ltb-true}
use Rattle.schedule.specs.Plan.{Plan, plain}
use Rattle.schedule.specs.Schedule.{deadline_at, opened, has_cpu}
use Rattle.task.specs.declared.entry.Entry.{Entry}
use Rattle.task.specs.declared.task.Task.{Task}
use Rattle.task.specs.Tables.{entry_at}
use Rattle.policy.specs.Members.{has}
use Rattle.policy.specs.Plans.{plan_of}
use Rattle.policy.specs.Sets.{word_of, left_of}
use Rattle.policy.proofs.Words.{word_has, word_same}
use Rattle.trial.specs.declared.trial.Trial.{Trial}
use Rattle.trial.specs.Places.{opens, misses, Calm}
use Rattle.trial.specs.Slots.{worked, Ticked, Passes}
use Rattle.trial.specs.Trials.{after_slot, missing}
use Rattle.trial.proofs.Grouping.{calm_opens}

-- the trial with `end` left of its jobs
abbrev pub with_left : Trial → List ℕ → Trial
with_left b end = record { cpus = b.cpus; start = b.start; span = b.span; instant = b.instant; last = b.last; next = b.next; left = end; saved = b.saved; ran = b.ran }

module _ {K : Type 0} (keyed : Entry → ℕ → K) (le : K → K → Bool) (at : ℕ → Option Entry) (a : Trial) where
  abbrev plan : Plan
  plan = plan_of keyed le at

  -- a job that is chosen has something left
  pub some_left : (ran : ℕ) → ran ≡ word_of (has_cpu plan a.cpus a.instant (left_of a.left)) 32 → (i : ℕ) → i < 32 → has ran i ≡ true → 0 < left_of a.left i
  some_left ran ran_is i h on =
      let runs : has_cpu plan a.cpus a.instant (left_of a.left) i ≡ true = sym (word_has (has_cpu plan a.cpus a.instant (left_of a.left)) ran i ran_is h) ∙ on in
      let active = (and_parts (is_some (at i)) _ runs).1 in
      ltb-true 0 (left_of a.left i) (and_parts (ltb 0 (left_of a.left i)) _ active).0

  -- each job of the running set lost 1
  module _ (ran : ℕ) (end : List ℕ) (ran_is : ran ≡ word_of (has_cpu plan a.cpus a.instant (left_of a.left)) 32) (w : (i : ℕ) → i < 32 → left_of end i ≡ worked ran a.left i) where
    pub worked_is : (i : ℕ) → i < 32 → left_of end i ≡ after_slot plan a i
    worked_is i h = w i h ∙ ap (λ b. cond b (left_of a.left i - 1) (left_of a.left i)) (word_has (has_cpu plan a.cpus a.instant (left_of a.left)) ran i ran_is h)

  module _ (rest : List ℕ) (is : (i : ℕ) → i < 32 → left_of rest i ≡ after_slot plan a i) where
    -- rules 1 and 2 of each place
    pub opened_is : (end : List ℕ) → ((i : ℕ) → i < 32 → left_of end i ≡ opens (at i) (a.instant + 1) (left_of rest i))
        → (i : ℕ) → i < 32 → left_of end i ≡ opened plan (plain plan a.cpus) i (a.instant + 1) (after_slot plan a i)
    opened_is end o i h = o i h ∙ ap (opens (at i) (a.instant + 1)) (is i h)

    pub missed_is : (i : ℕ) → i < 32 → misses (at i) (a.instant + 1) (left_of rest i) ≡ missing plan a i
    missed_is i h = ap (misses (at i) (a.instant + 1)) (is i h)

    -- where the new instant is calm nothing more happens, and no job comes to its deadline
    module _ (calm : (i : ℕ) → i < 32 → Calm (at i) (a.instant + 1)) where
      pub calm_is : (i : ℕ) → i < 32 → left_of rest i ≡ opened plan (plain plan a.cpus) i (a.instant + 1) (after_slot plan a i)
      calm_is i h = is i h ∙ calm_opens (at i) (a.instant + 1) (after_slot plan a i) (calm i h)

      pub none_due : 0 ≡ word_of (λ i. deadline_at plan i (a.instant + 1)) 32
      unfolding word_of
      none_due = word_same (λ (k : ℕ). false) (λ i. deadline_at plan i (a.instant + 1)) 32 (λ i h. sym (calm i h).no_deadline)

  -- what rules 1 and 2 make of the trial after rule 3
  module _ (b : Trial) (t : Ticked plan a b) (end : List ℕ) where
    pub passes_of : a.instant < 1000000000000000 → ((i : ℕ) → i < 32 → left_of end i ≡ opened plan (plain plan a.cpus) i (a.instant + 1) (after_slot plan a i))
        → (due : ℕ) → due ≡ word_of (λ i. deadline_at plan i (a.instant + 1)) 32 → Passes plan a due (with_left b end)
    passes_of early left_is due d =
        record {
          moved = record { early = early; cpus_kept = t.cpus_kept; start_kept = t.start_kept; span_kept = t.span_kept; later = t.later; ran_is = t.ran_is; left_is = left_is };
          boundaries = record { next_kept = t.boundaries.next_kept; last_kept = t.boundaries.last_kept; saved_kept = t.boundaries.saved_kept };
          due_is = d;
        }

-- what a slot comes to is the same for the same tasks, and so is what a word tells of the jobs that miss
abbrev pub Tells : {K : Type 0} → (Entry → ℕ → K) → (K → K → Bool) → List (Option Task) → Trial → (due missed : ℕ) → Type 0
Tells keyed le ts a due missed = (i : ℕ) → i < 32 → has due i ≡ true → has missed i ≡ missing (plan_of keyed le (entry_at ts)) a i

pub tells_on : {K : Type 0} (keyed : Entry → ℕ → K) (le : K → K → Bool) (ts us : List (Option Task)) → ts ≡ us → (a : Trial) (due missed : ℕ) → Tells keyed le ts a due missed → Tells keyed le us a due missed
tells_on keyed le ts us e a due missed = subst (λ vs. Tells keyed le vs a due missed) e

pub passes_on : {K : Type 0} (keyed : Entry → ℕ → K) (le : K → K → Bool) (ts us : List (Option Task)) → ts ≡ us → (a : Trial) (due : ℕ) (b : Trial)
    → Passes (plan_of keyed le (entry_at ts)) a due b → Passes (plan_of keyed le (entry_at us)) a due b
passes_on keyed le ts us e a due b = subst (λ vs. Passes (plan_of keyed le (entry_at vs)) a due b) e
