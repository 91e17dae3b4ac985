use Rattle.std.proofs.Common.{◌≡◌, ℕ, ◌+◌, ◌-◌, ◌<◌, ◌≤◌, false, ◌⊎◌, List, min, Option, sym, refl, ap, ◌∙◌, subst, inl, inr, ⊎_elim, arith, rules}
use Rattle.std.proofs.lemmas.Bool.{both_ways, cases_lt}
use Rattle.task.specs.declared.task.Task.{Task}
use Rattle.task.specs.Tables.{entry_at}
use Rattle.policy.specs.Members.{has}
use Rattle.policy.specs.Plans.{plan_of}
use Rattle.policy.proofs.Each.{EachTo, each_start, each_more}
use Rattle.policy.proofs.Rising.{first, along_from, turn}
use Rattle.trial.specs.declared.trial.Trial.{Trial}
use Rattle.trial.specs.Slots.{Watched}
use Rattle.trial.specs.Trials.{NonePasses, missing, Undecided, here, on}
use Rattle.trial.proofs.Boundaries.{none_misses, lowest_misses, undecided_at, between_now, repeated_now, moved_on, passed_now}
use Rattle.trial.proofs.Slotwise.{passes_on, tells_on}
use Rattle.trial.proofs.Watching.{watched_still}
use Rattle.trial.proofs.trial.Trial.run.Goals as goal
use Rattle.trial.proofs.trial.Trial.run.Goals.{then-self+else-from-self, else-from-self-via-then-from-self+else-agrees, else-from-self-via-else-from-self, else-self}

pub returns-then-self-ge-LAST_INSTANT : goal.returns-then-self-ge-LAST_INSTANT
returns-then-self-ge-LAST_INSTANT g c = (0, here, omega arith, inr (omega arith))

pub invariant_of-watch : goal.invariant_of-watch
invariant_of-watch g c =
    let k = c.new-calendar.ensures in
    record {
      sized = search rules;
      onward = omega arith;
      latest = k.latest;
      calm_is = λ i h v p q. absurd (omega (arith, k.events i h));
      grouped = λ r h i x. omega (arith, k.soonest r h, k.events i (omega (arith, x.1)));
      soonest = λ r h. omega (arith, k.soonest r h);
    }

pub slots-init : goal.slots-init
slots-init g c = (here, record { tasks_are = refl; begun = omega arith; not_over = omega arith; active_is = c.new-calendar.ensures.active; few_are = c.fits-few.ensures.0; are_few = c.fits-few.ensures.1 }, refl)

pub pass-due-requires-clause-watched : goal.pass-due-requires-clause-watched
pass-due-requires-clause-watched g c =
    let p = g.P.Policy in
    let s = c.slots.invariant.1 in
    let W : List (Option Task) → Type 0 = λ ts. Watched ts c.slots.self c.slots.watch in
    subst W (sym s.tasks_are) s

pub pass-due-requires-clause-instant : goal.pass-due-requires-clause-instant
pass-due-requires-clause-instant g c =
    let p = g.P.Policy in
    let plan = plan_of (p.keyed c.args.policy.now) (p.precedes c.args.policy.now) (entry_at c.args.tasks.now) in
    omega (arith, undecided_at plan c.args.self.now c.slots.invariant.0, c.min-most.ensures, c.from.ensures)

pub returns-after-slots : goal.returns-after-slots
returns-after-slots g c =
    let p = g.P.Policy in
    let plan = plan_of (p.keyed c.args.policy.now) (p.precedes c.args.policy.now) (entry_at c.args.tasks.now) in
    let a = c.args.self.now in
    let at = undecided_at plan a c.slots.invariant.0 in
    let made : c.slots.counter ≡ min (1000000000000000 - a.instant) c.args.n = omega (arith, c.min-most.ensures, c.from.ensures) in
    let all : (c.slots.counter ≡ c.args.n) ⊎ (1000000000000000 ≤ c.slots.self.instant) =
    ⊎_elim
    (λ (l : 1000000000000000 - a.instant < c.args.n). inr (omega (arith, at, made, c.if-self-ge-LAST_INSTANT.false)))
    (λ (m : c.args.n ≤ 1000000000000000 - a.instant). inl (omega (arith, made)))
    (cases_lt (1000000000000000 - a.instant) c.args.n) in
    rw c.slots.invariant.2 (c.slots.counter, c.slots.invariant.0, omega (arith, made), all)

pub loop-i-init : goal.loop-i-init
loop-i-init g c =
    let rest = c.into_iter-i-iterator.result in
    let (along, n) = along_from c.pass-due.result 0 rest (omega arith) (c.into_iter-i-iterator.ensures.into_iter_gives ∙ c.members_of-i-items.ensures) in
    (tt, tt, along, each_start c.pass-due.result (λ k. has c.pass-due.new.watch.calendar.missed k ≡ false) (first rest) n, c.slots.invariant.2)

pub missed-requires : goal.missed-requires
missed-requires g c = (turn c.pass-due.result c.loop-i.i-iterator c.next.new.self c.in-Some.i c.loop-i.invariant.2 c.in-Some.ensures.steps).within

pub overflow_cast-outcome : goal.overflow_cast-outcome
overflow_cast-outcome g c =
    let t = turn c.pass-due.result c.loop-i.i-iterator c.next.new.self c.in-Some.i c.loop-i.invariant.2 c.in-Some.ensures.steps in
    omega (arith, t.within)

pub loop-i-preserved : goal.loop-i-preserved
loop-i-preserved g c =
    let due = c.pass-due.result in
    let i = c.in-Some.i in
    let more = c.next.new.self in
    let steps = c.in-Some.ensures.steps in
    let t = turn due c.loop-i.i-iterator more i c.loop-i.invariant.2 steps in
    let InTime : ℕ → Type 0 = λ k. has c.pass-due.new.watch.calendar.missed k ≡ false in
    (tt, tt, t.along, each_more due InTime i more t (subst (EachTo due InTime) (ap first steps) c.loop-i.invariant.3) (sym c.missed.ensures ∙ c.if-missed.false), c.loop-i.invariant.4)

pub slots-preserved : goal.slots-preserved
slots-preserved g c =
    let p = g.P.Policy in
    let plan = plan_of (p.keyed c.args.policy.now) (p.precedes c.args.policy.now) (entry_at c.args.tasks.now) in
    let a = c.slots.self in
    let b = c.pass-due.new.self in
    let due = c.pass-due.result in
    let s = passes_on (p.keyed c.args.policy.now) (p.precedes c.args.policy.now) c.slots.watch.tasks.now c.args.tasks.now c.slots.invariant.1.tasks_are a due b c.pass-due.ensures.passes in
    let late = c.pass-due.new.watch.calendar.missed in
    let tells = tells_on (p.keyed c.args.policy.now) (p.precedes c.args.policy.now) c.slots.watch.tasks.now c.args.tasks.now c.slots.invariant.1.tasks_are a due late c.pass-due.ensures.missed in
    let none : NonePasses (missing plan a) = none_misses plan a due s.due_is late tells (first c.loop-i.i-iterator) (ap first c.in-None.ensures.steps.0) c.loop-i.invariant.3 in
    let C : Trial → Type 0 = λ d. Undecided plan c.args.self.now (c.slots.counter + 1) d × Watched c.args.tasks.now d c.pass-due.new.watch in
    let W : List (Option Task) → Type 0 = λ ts. Watched ts b c.pass-due.new.watch in
    let still : W c.args.tasks.now = subst W c.slots.invariant.1.tasks_are c.pass-due.ensures.watched in
    let goes : C c.if-self.self =
    elim c.if-self.branch [
      | then-self+else-from-self w ↦
          let d = w.keep.new.self in
          let k = w.keep.ensures in
          let u = on c.slots.invariant.0 (moved_on plan a due b s d k) (none, inl (passed_now plan a due b s d k w.if-self.true (λ l q. elim w.else-from-self.branch [ else-from-self-via-then-from-self+else-agrees v ↦ both_ways _ v.if-agrees.false (v.agrees.ensures.1 q) | else-from-self-via-else-from-self v ↦ omega (arith, v.if-from-self.false) ]))) in
          subst C (sym w.self-is) (u, watched_still c.args.tasks.now b d c.pass-due.new.watch still k)
      | else-self w ↦ subst C (sym w.self-is) (on c.slots.invariant.0 s.moved (none, inr (between_now plan a due b s w.if-self.false)), still)
    ] in
    (goes.0, goes.1, c.loop-i.invariant.4)

pub returns-then-missed : goal.returns-then-missed
returns-then-missed g c =
    let p = g.P.Policy in
    let plan = plan_of (p.keyed c.args.policy.now) (p.precedes c.args.policy.now) (entry_at c.args.tasks.now) in
    let a = c.slots.self in
    let due = c.pass-due.result in
    let i = c.in-Some.i in
    let s = passes_on (p.keyed c.args.policy.now) (p.precedes c.args.policy.now) c.slots.watch.tasks.now c.args.tasks.now c.slots.invariant.1.tasks_are a due c.pass-due.new.self c.pass-due.ensures.passes in
    let steps = c.in-Some.ensures.steps in
    let t = turn due c.loop-i.i-iterator c.next.new.self i c.loop-i.invariant.2 steps in
    let late = c.pass-due.new.watch.calendar.missed in
    let tells = tells_on (p.keyed c.args.policy.now) (p.precedes c.args.policy.now) c.slots.watch.tasks.now c.args.tasks.now c.slots.invariant.1.tasks_are a due late c.pass-due.ensures.missed in
    (c.slots.counter, a, c.slots.invariant.0, omega arith, s.moved, (lowest_misses plan a due s.due_is late tells i (first c.loop-i.i-iterator) (ap first steps) t.within t.member c.loop-i.invariant.3 (sym c.missed.ensures ∙ c.if-missed.true), s.boundaries))

pub returns-then-agrees : goal.returns-then-agrees
returns-then-agrees g c =
    let p = g.P.Policy in
    let plan = plan_of (p.keyed c.args.policy.now) (p.precedes c.args.policy.now) (entry_at c.args.tasks.now) in
    let a = c.slots.self in
    let b = c.pass-due.new.self in
    let due = c.pass-due.result in
    let s = passes_on (p.keyed c.args.policy.now) (p.precedes c.args.policy.now) c.slots.watch.tasks.now c.args.tasks.now c.slots.invariant.1.tasks_are a due b c.pass-due.ensures.passes in
    let late = c.pass-due.new.watch.calendar.missed in
    let tells = tells_on (p.keyed c.args.policy.now) (p.precedes c.args.policy.now) c.slots.watch.tasks.now c.args.tasks.now c.slots.invariant.1.tasks_are a due late c.pass-due.ensures.missed in
    let none : NonePasses (missing plan a) = none_misses plan a due s.due_is late tells (first c.loop-i.i-iterator) (ap first c.in-None.ensures.steps.0) c.loop-i.invariant.3 in
    (c.slots.counter, a, c.slots.invariant.0, omega arith, s.moved, (none, repeated_now plan a due b s c.if-self.true (omega (arith, c.from.ensures, c.if-from-self.true)) (c.agrees.ensures.0 c.if-agrees.true), s.boundaries.last_kept, s.boundaries.next_kept))
