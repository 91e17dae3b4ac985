-- A job takes a free CPU, or that of the last that runs, or waits.
use Rattle.std.proofs.Common.{◌≡◌, ◌+◌, ◌-◌, Some, sym, subst, arith}
use Rattle.policy.specs.declared.choosing.Job.{Job}
use Rattle.policy.specs.Slots.{RunOfMet, RunSoFar}
use Rattle.policy.proofs.Kept.{one_placed_met, one_waits_met, one_displaces_met, others_inside_met, none_for_it_met, one_placed, one_waits, one_displaces, none_for_it, last_is, none_is}
use Rattle.policy.proofs.slot.Slot.admit.Goals as goal
use Rattle.policy.proofs.slot.Slot.admit.Goals.{in_default-via-in-Some+else-stands_before, in_default-via-in_default}

pub returns-then-contest-gt0-clause-so_far : goal.returns-then-contest-gt0-clause-so_far
returns-then-contest-gt0-clause-so_far g c =
    let p = g.P.Policy in
    let laws = g.met.P.Policy in
    let s = c.args.self.now in
    let job = c.args.job in
    let n = c.args.contest in
    let R : Job g.row.P-Key.Denot → Type 0 = λ j. RunOfMet p.keyed p.precedes s (job.place + 1) (record { rest = n.rest; set = c.placed.result; last = Some j; free = n.free - 1 }) in
    subst R (sym c.later.ensures) (one_placed_met p.keyed p.precedes s (laws.total s.policy.now) (laws.transitive s.policy.now) n job c.requires.place c.requires.rest c.requires.key c.requires.so_far c.placed.result c.placed.ensures (omega (arith, c.placed.type_inv)) (n.free - 1) (omega (arith, c.if-contest-gt0.true)))

pub returns-in-Some-clause-so_far : goal.returns-in-Some-clause-so_far
returns-in-Some-clause-so_far g c =
    let p = g.P.Policy in
    let laws = g.met.P.Policy in
    let s = c.args.self.now in
    let job = c.args.job in
    let n = c.args.contest in
    let last = last_is p.keyed p.precedes s n.set 32 n.last c.in-Some.last c.in-Some.is c.requires.so_far.last in
    let R : Job g.row.P-Key.Denot → Type 0 = λ j. RunOfMet p.keyed p.precedes s (job.place + 1) (record { rest = n.rest; set = c.placed-in-Some.result; last = Some j; free = 0 }) in
    subst R (sym c.later-in-Some.ensures) (one_displaces_met p.keyed p.precedes s (laws.total s.policy.now) (laws.transitive s.policy.now) n job c.requires.place c.requires.rest c.requires.key c.requires.so_far (omega (arith, c.if-contest-gt0.false)) c.in-Some.last last (sym c.if-stands_before.ensures) c.placed-others.result c.placed-others.ensures c.placed-in-Some.result c.placed-in-Some.ensures (omega (arith, c.placed-in-Some.type_inv)) c.last_of-second.result.0 c.last_of-second.ensures.last)

pub last_of-second-requires : goal.last_of-second-requires
last_of-second-requires g c =
    let p = g.P.Policy in
    let laws = g.met.P.Policy in
    let s = c.args.self.now in
    let n = c.args.contest in
    let last = last_is p.keyed p.precedes s n.set 32 n.last c.in-Some.last c.in-Some.is c.requires.so_far.last in
    others_inside_met p.keyed p.precedes s (laws.total s.policy.now) (laws.transitive s.policy.now) n c.args.job c.requires.place c.requires.rest c.requires.key c.requires.so_far (omega (arith, c.if-contest-gt0.false)) c.in-Some.last last (sym c.if-stands_before.ensures) c.placed-others.result c.placed-others.ensures

pub returns-in_default-clause-so_far : goal.returns-in_default-clause-so_far
returns-in_default-clause-so_far g c =
    let p = g.P.Policy in
    let laws = g.met.P.Policy in
    let s = c.args.self.now in
    let job = c.args.job in
    let n = c.args.contest in
    let none_free : n.free ≡ 0 = omega (arith, c.if-contest-gt0.false) in
    elim c.in_default.branch [
      | in_default-via-in-Some+else-stands_before w ↦
          one_waits_met p.keyed p.precedes s (laws.total s.policy.now) (laws.transitive s.policy.now) n job c.requires.place c.requires.rest c.requires.key c.requires.so_far none_free w.in-Some.last (last_is p.keyed p.precedes s n.set 32 n.last w.in-Some.last w.in-Some.is c.requires.so_far.last) (sym w.if-stands_before.ensures) c.requires.so_far.last
      | in_default-via-in_default w ↦ none_for_it_met p.keyed p.precedes s (laws.total s.policy.now) (laws.transitive s.policy.now) n job c.requires.place c.requires.rest c.requires.key c.requires.so_far none_free (none_is p.keyed p.precedes s n.set 32 n.last w.in_default.not-Some c.requires.so_far.last) c.requires.so_far.last
    ]

-- The same where all that run are below it.
pub returns-then-contest-gt0-clause-in_turn : goal.returns-then-contest-gt0-clause-in_turn
returns-then-contest-gt0-clause-in_turn g c r =
    let p = g.P.Policy in
    let laws = g.met.P.Policy in
    let s = c.args.self.now in
    let job = c.args.job in
    let n = c.args.contest in
    let R : Job g.row.P-Key.Denot → Type 0 = λ j. RunSoFar p.keyed p.precedes s (job.place + 1) (record { rest = n.rest; set = c.placed.result; last = Some j; free = n.free - 1 }) in
    subst R (sym c.later.ensures) (one_placed p.keyed p.precedes s (laws.total s.policy.now) (laws.transitive s.policy.now) n job c.requires.place c.requires.key r c.placed.result c.placed.ensures (omega (arith, c.placed.type_inv)) (n.free - 1) (omega (arith, c.if-contest-gt0.true)))

pub returns-in-Some-clause-in_turn : goal.returns-in-Some-clause-in_turn
returns-in-Some-clause-in_turn g c r =
    let p = g.P.Policy in
    let laws = g.met.P.Policy in
    let s = c.args.self.now in
    let job = c.args.job in
    let n = c.args.contest in
    let last = last_is p.keyed p.precedes s n.set 32 n.last c.in-Some.last c.in-Some.is r.last in
    let R : Job g.row.P-Key.Denot → Type 0 = λ j. RunSoFar p.keyed p.precedes s (job.place + 1) (record { rest = n.rest; set = c.placed-in-Some.result; last = Some j; free = 0 }) in
    subst R (sym c.later-in-Some.ensures) (one_displaces p.keyed p.precedes s (laws.total s.policy.now) (laws.transitive s.policy.now) n job c.requires.place c.requires.key r (omega (arith, c.if-contest-gt0.false)) c.in-Some.last last (sym c.if-stands_before.ensures) c.placed-others.result c.placed-others.ensures c.placed-in-Some.result c.placed-in-Some.ensures (omega (arith, c.placed-in-Some.type_inv)) c.last_of-second.result.0 c.last_of-second.ensures.last)

pub returns-in_default-clause-in_turn : goal.returns-in_default-clause-in_turn
returns-in_default-clause-in_turn g c r =
    let p = g.P.Policy in
    let laws = g.met.P.Policy in
    let s = c.args.self.now in
    let job = c.args.job in
    let n = c.args.contest in
    let none_free : n.free ≡ 0 = omega (arith, c.if-contest-gt0.false) in
    elim c.in_default.branch [
      | in_default-via-in-Some+else-stands_before w ↦
          one_waits p.keyed p.precedes s (laws.total s.policy.now) (laws.transitive s.policy.now) n job c.requires.place c.requires.key r none_free w.in-Some.last (last_is p.keyed p.precedes s n.set 32 n.last w.in-Some.last w.in-Some.is r.last) (sym w.if-stands_before.ensures) r.last
      | in_default-via-in_default w ↦ none_for_it p.keyed p.precedes s (laws.total s.policy.now) (laws.transitive s.policy.now) n job c.requires.place c.requires.key r none_free (none_is p.keyed p.precedes s n.set 32 n.last w.in_default.not-Some r.last) r.last
    ]
