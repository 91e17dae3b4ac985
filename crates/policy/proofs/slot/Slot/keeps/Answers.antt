-- The set has one job for each CPU, the others of it stand before its last, and nobody else does.
use Rattle.std.proofs.Common.{not, sym, ◌∙◌, arith}
use Rattle.std.proofs.lemmas.Bool.{and_parts, ltb-true}
use Rattle.policy.specs.Dispatch.{count_ahead}
use Rattle.policy.specs.Members.{has}
use Rattle.policy.specs.Slots.{keys_of}
use Rattle.policy.proofs.Kept.{last_is, one_less, kept_runs}
use Rattle.policy.proofs.Words.{without_has}
use Rattle.policy.proofs.slot.Slot.keeps.Goals as goal

pub overflow_sub-count : goal.overflow_sub-count
overflow_sub-count g c =
    let p = g.P.Policy in
    let s = c.args.self.now in
    let last = last_is p.keyed p.precedes s c.args.set 32 c.args.last.now c.in-Some.last c.in-Some.is c.requires.last in
    (one_less p.keyed p.precedes s (g.met.P.Policy.total s.policy.now) (g.met.P.Policy.transitive s.policy.now) c.args.set (omega (arith, c.ranges.set.fits)) c.in-Some.last c.requires.within last c.args.count c.requires.count).0

pub few_ahead-requires-clause-rest : goal.few_ahead-requires-clause-rest
few_ahead-requires-clause-rest g c i h on =
    let s = c.args.self.now in
    (and_parts (has s.jobs i) (not (has c.args.set i)) (sym (without_has s.jobs c.args.set i (omega (arith, c.ranges.set.fits)) h) ∙ on)).0

pub few_ahead-requires-clause-known : goal.few_ahead-requires-clause-known
few_ahead-requires-clause-known g c =
    let p = g.P.Policy in
    let s = c.args.self.now in
    let last = last_is p.keyed p.precedes s c.args.set 32 c.args.last.now c.in-Some.last c.in-Some.is c.requires.last in
    (one_less p.keyed p.precedes s (g.met.P.Policy.total s.policy.now) (g.met.P.Policy.transitive s.policy.now) c.args.set (omega (arith, c.ranges.set.fits)) c.in-Some.last c.requires.within last c.args.count c.requires.count).1

pub returns-in-Some : goal.returns-in-Some
returns-in-Some g c few =
    let p = g.P.Policy in
    let s = c.args.self.now in
    let last = last_is p.keyed p.precedes s c.args.set 32 c.args.last.now c.in-Some.last c.in-Some.is c.requires.last in
    kept_runs p.keyed p.precedes s (g.met.P.Policy.total s.policy.now) (g.met.P.Policy.transitive s.policy.now) c.args.set (omega (arith, c.ranges.set.fits)) c.in-Some.last c.requires.within last
    (sym c.requires.count ∙ c.if-count-self.true)
    (ltb-true (count_ahead (p.precedes s.policy.now) (keys_of p.keyed s) c.in-Some.last.key c.in-Some.last.place) s.cpus (sym c.few_ahead.ensures ∙ few))
