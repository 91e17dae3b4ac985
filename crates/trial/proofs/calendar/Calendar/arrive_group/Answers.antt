use Rattle.std.proofs.Common.{◌≡◌, ◌+◌, ◌*◌, ◌<◌, ◌≤◌, ◌⊎◌, length, set, refl, inl, inr, ⊎_elim, arith, rules, get_or-set_same, get_or-set_other}
use Rattle.std.proofs.lemmas.Bool.{cases_lt}
use Rattle.task.specs.Tables.{entry_at}
use Rattle.policy.specs.Sets.{left_of}
use Rattle.trial.specs.Calendars.{InGroup}
use Rattle.trial.proofs.Grouping.{none_changed, only_soonest, stays_on, arrived_still, none_gone, awaits_here, quiet_here, arrives_here, one_gone}
use Rattle.trial.proofs.calendar.Calendar.arrive_group.Goals as goal
use Rattle.trial.proofs.calendar.Calendar.arrive_group.Goals.{then-self-i, else-self-i}

pub loop-i-init : goal.loop-i-init
loop-i-init c = none_gone (entry_at c.args.tasks.now) c.args.t c.args.g c.args.self.now c.args.left.now (omega (arith, c.requires.early))

pub arrive_place-requires-clause-latest : goal.arrive_place-requires-clause-latest
arrive_place-requires-clause-latest c =
    let here : InGroup c.args.g c.loop-i.i = (omega arith, omega arith) in
    (awaits_here (entry_at c.args.tasks.now) c.args.t c.args.g c.args.self.now c.args.left.now c.loop-i.self c.loop-i.left c.loop-i.soonest c.loop-i.i here (omega (arith, c.requires.group)) c.loop-i.invariant (c.requires.awaits c.loop-i.i here)).latest

pub loop-i-preserved : goal.loop-i-preserved
loop-i-preserved c =
    let at = entry_at c.args.tasks.now in
    let l = c.loop-i in
    let i = l.i in
    let here : InGroup c.args.g i = (omega arith, omega arith) in
    let low : i < 32 = omega (arith, c.requires.group) in
    elim c.if-self-i.branch [
      | then-self-i x ↦
          let p = x.arrive_place in
          rw (c.min-soonest.ensures, x.self-is, x.left-is)
          (one_gone at c.args.t c.args.g c.args.self.now c.args.left.now l.self l.left l.soonest i here low l.invariant p.new.self p.new.left
          (arrives_here at c.args.t c.args.g c.args.self.now c.args.left.now l.self l.left l.soonest i here low l.invariant p.new.self p.new.left p.ensures.arrived) p.ensures.others p.ensures.soonest)
      | else-self-i x ↦
          rw (c.min-soonest.ensures, x.self-is, x.left-is)
          (one_gone at c.args.t c.args.g c.args.self.now c.args.left.now l.self l.left l.soonest i here low l.invariant l.self l.left
          (quiet_here at c.args.t c.args.g c.args.self.now c.args.left.now l.self l.left l.soonest i here low l.invariant c.requires.later (c.requires.awaits i here) (c.requires.none_due i here) (c.requires.none_missed i here) (omega (arith, x.if-self-i.false)))
          (λ k h ne. none_changed l.self l.left k) refl)
    ]

pub returns-clause-arrived : goal.returns-clause-arrived
returns-clause-arrived c i h =
    let l = c.loop-i in
    arrived_still l.self _ l.left l.left i (only_soonest l.self (set l.self.soonest c.args.g l.soonest) l.left i) (entry_at c.args.tasks.now) c.args.t (left_of c.args.left.now i) (l.invariant.arrived i h.0 (omega (arith, h.1)))

pub returns-clause-others : goal.returns-clause-others
returns-clause-others c i h out =
    let l = c.loop-i in
    let outside : (i < 8 * c.args.g) ⊎ (8 * c.args.g + 8 ≤ i) =
    ⊎_elim
    (λ (x : i < 8 * c.args.g). inl x)
    (λ (x : 8 * c.args.g ≤ i). inr (⊎_elim (λ (y : i < 8 * c.args.g + 8). absurd (out (x, y))) (λ (y : 8 * c.args.g + 8 ≤ i). y) (cases_lt i (8 * c.args.g + 8))))
    (cases_lt i (8 * c.args.g)) in
    stays_on l.self _ l.left l.left i (only_soonest l.self (set l.self.soonest c.args.g l.soonest) l.left i) c.args.self.now c.args.left.now
    (l.invariant.others i h (⊎_elim (λ (x : i < 8 * c.args.g). inl x) (λ (x : 8 * c.args.g + 8 ≤ i). inr (omega arith)) outside))

pub returns-clause-soonest : goal.returns-clause-soonest
returns-clause-soonest c i h =
    let l = c.loop-i in
    let four : length l.self.soonest ≡ 4 = search rules in
    omega (arith, get_or-set_same l.self.soonest c.args.g l.soonest 0 (omega (arith, four, c.requires.group)), l.invariant.soon i h.0 (omega (arith, h.1)))

pub returns-clause-later : goal.returns-clause-later
returns-clause-later c =
    let l = c.loop-i in
    let four : length l.self.soonest ≡ 4 = search rules in
    omega (arith, get_or-set_same l.self.soonest c.args.g l.soonest 0 (omega (arith, four, c.requires.group)), l.invariant.later)

pub returns-clause-groups : goal.returns-clause-groups
returns-clause-groups c h low ne = rw get_or-set_other (rw c.loop-i.invariant.groups refl)
