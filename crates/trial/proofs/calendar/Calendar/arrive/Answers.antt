use Rattle.std.proofs.Common.{◌<◌, subst, refl, arith}
use Rattle.task.specs.Tables.{entry_at}
use Rattle.policy.proofs.Words.{none_has, word_is}
use Rattle.trial.specs.Calendars.{Arrived}
use Rattle.trial.specs.Places.{is_due}
use Rattle.trial.specs.declared.calendar.Calendar.{Calendar}
use Rattle.trial.proofs.Grouping.{none_changed, none_swept, group_awaits, group_due, group_missed, group_left, group_passed_by, one_swept}
use Rattle.trial.proofs.calendar.Calendar.arrive.Goals as goal
use Rattle.trial.proofs.calendar.Calendar.arrive.Goals.{then-self-g, else-self-g}

-- the calendar at the beginning, where no job is due and none has missed
abbrev cleared : Calendar → Calendar
cleared c = record { released = c.released; events = c.events; soonest = c.soonest; active = c.active; due = 0; missed = 0 }

pub loop-g-init : goal.loop-g-init
loop-g-init c = none_swept (entry_at c.args.tasks.now) c.args.t (cleared c.args.self.now) c.args.left.now c.requires.soonest

pub arrive_group-requires-clause-awaits : goal.arrive_group-requires-clause-awaits
arrive_group-requires-clause-awaits c =
    let a = c.args in
    let l = c.loop-g in
    group_awaits (entry_at a.tasks.now) a.t (cleared a.self.now) a.left.now l.self l.left l.g (omega arith) l.invariant
    (λ i h. let w = c.requires.awaits i h in record { latest = w.latest; calm = w.calm; active_is = w.active_is })

pub arrive_group-requires-clause-none_missed : goal.arrive_group-requires-clause-none_missed
arrive_group-requires-clause-none_missed c =
    let a = c.args in
    let l = c.loop-g in
    group_missed (entry_at a.tasks.now) a.t (cleared a.self.now) a.left.now l.self l.left l.g (omega arith) l.invariant none_has

pub arrive_group-requires-clause-none_due : goal.arrive_group-requires-clause-none_due
arrive_group-requires-clause-none_due c =
    let a = c.args in
    let l = c.loop-g in
    group_due (entry_at a.tasks.now) a.t (cleared a.self.now) a.left.now l.self l.left l.g (omega arith) l.invariant none_has

pub loop-g-preserved : goal.loop-g-preserved
loop-g-preserved c =
    let a = c.args in
    let l = c.loop-g in
    let at = entry_at a.tasks.now in
    let low : l.g < 4 = omega arith in
    elim c.if-self-g.branch [
      | then-self-g x ↦
          let p = x.arrive_group in
          rw (x.self-is, x.left-is)
          (one_swept at a.t (cleared a.self.now) a.left.now l.self l.left l.g low l.invariant p.new.self p.new.left
          (λ i h. subst (λ r. Arrived at a.t r p.new.self p.new.left i) (group_left at a.t (cleared a.self.now) a.left.now l.self l.left l.g low l.invariant i h) (p.ensures.arrived i h))
          p.ensures.others p.ensures.soonest p.ensures.later p.ensures.groups)
      | else-self-g x ↦
          rw (x.self-is, x.left-is)
          (one_swept at a.t (cleared a.self.now) a.left.now l.self l.left l.g low l.invariant l.self l.left
          (group_passed_by at a.t (cleared a.self.now) a.left.now l.self l.left l.g low l.invariant c.requires.later
          (λ i h. let w = c.requires.awaits i h in record { latest = w.latest; calm = w.calm; active_is = w.active_is })
          none_has none_has (omega (arith, x.if-self-g.false)))
          (λ i h out. none_changed l.self l.left i) (l.invariant.soon l.g low) (omega (arith, x.if-self-g.false)) (λ h m ne. refl))
    ]

pub returns-clause-arrived : goal.returns-clause-arrived
returns-clause-arrived c i h = c.loop-g.invariant.arrived i (omega arith)

pub returns-clause-soonest : goal.returns-clause-soonest
returns-clause-soonest c = c.loop-g.invariant.soon

pub returns-clause-later : goal.returns-clause-later
returns-clause-later c g h = c.loop-g.invariant.later g (omega arith)

pub returns-clause-due : goal.returns-clause-due
returns-clause-due c =
    let a = c.args in
    word_is (λ i. is_due (entry_at a.tasks.now i) a.t) c.loop-g.self.due (omega arith) (λ i h. (c.loop-g.invariant.arrived i (omega arith)).due_is)
