-- The jobs that are kept run at first, and those that are not are the rest.
use Rattle.std.proofs.Common.{◌≡◌, ℕ, false, ⊎_elim, ◌-◌, ◌<◌, ◌^◌, None, not, ◌&&◌, sym, ap, ◌∙◌, w32, arith}
use Rattle.std.proofs.lemmas.Bool.{and_from, and_parts, both_ways}
use Rattle.std.proofs.Math.Bool.{and-true}
use lib.Bits.{bit_and}
use Rattle.std.specs.Int.{bit_not}
use Rattle.schedule.proofs.Counts.{count_zero}
use Rattle.policy.specs.Members.{has}
use Rattle.policy.proofs.Kept.{all_below, kept_first}
use Rattle.policy.proofs.Words.{none_has, without_has}
use Rattle.policy.proofs.slot.Slot.begin.Goals as goal

pub returns-then-count-self-clause-so_far : goal.returns-then-count-self-clause-so_far
returns-then-count-self-clause-so_far g c =
    let p = g.P.Policy in
    let laws = g.met.P.Policy in
    let s = c.args.self.now in
    kept_first p.keyed p.precedes s (laws.total s.policy.now) (laws.transitive s.policy.now) 0 s.jobs
    (λ i h. sym (ap (λ b. has s.jobs i && not b) (none_has i) ∙ and-true (has s.jobs i)))
    (λ i h on. absurd (both_ways (has 0 i) (none_has i) on))
    None (λ i h. none_has i) s.cpus
    (omega (arith, count_zero 32 (has 0) (λ i h on. both_ways (has 0 i) (none_has i) on)))
    (omega arith)

pub returns-clause-so_far : goal.returns-clause-so_far
returns-clause-so_far g c =
    let p = g.P.Policy in
    let laws = g.met.P.Policy in
    let s = c.args.self.now in
    let kept = c.args.kept in
    let low : kept < 2 ^ 32 = omega (arith, c.ranges.kept.fits) in
    kept_first p.keyed p.precedes s (laws.total s.policy.now) (laws.transitive s.policy.now) kept (bit_and s.jobs (bit_not w32 kept))
    (λ i h. without_has s.jobs kept i low h)
    c.requires.kept c.args.last c.requires.last (s.cpus - c.args.count)
    (omega (arith, c.requires.count))
    (omega (arith, low))

pub returns-clause-rest : goal.returns-clause-rest
returns-clause-rest g c i h on =
    let s = c.args.self.now in
    let low : c.args.kept < 2 ^ 32 = omega (arith, c.ranges.kept.fits) in
    (and_parts (has s.jobs i) (not (has c.args.kept i)) (sym (without_has s.jobs c.args.kept i low h) ∙ on)).0

-- Where the choice begins with none, none runs at first, and the rest are all jobs.
pub returns-then-count-self-clause-none : goal.returns-then-count-self-clause-none
returns-then-count-self-clause-none g c none =
    let p = g.P.Policy in
    let laws = g.met.P.Policy in
    let s = c.args.self.now in (
      all_below p.keyed p.precedes s (laws.total s.policy.now) (laws.transitive s.policy.now) 0 (record { rest = s.jobs; set = 0; last = None; free = s.cpus }) (omega arith)
          (λ i h on. absurd (both_ways (has 0 i) (none_has i) on))
          (returns-then-count-self-clause-so_far g c),
      λ i h on. on,
    )

pub returns-clause-none : goal.returns-clause-none
returns-clause-none g c none =
    let p = g.P.Policy in
    let laws = g.met.P.Policy in
    let s = c.args.self.now in
    let kept = c.args.kept in
    let low : kept < 2 ^ 32 = omega (arith, c.ranges.kept.fits) in
    let empty : kept ≡ 0 = ⊎_elim (λ (e : kept ≡ 0). e) (λ (few : s.cpus < c.args.count). absurd (omega (arith, few, c.if-count-self.false))) none in
    let out : (i : ℕ) → has kept i ≡ false = λ i. ap (λ w. has w i) empty ∙ none_has i in (
      all_below p.keyed p.precedes s (laws.total s.policy.now) (laws.transitive s.policy.now) 0 (record { rest = bit_and s.jobs (bit_not w32 kept); set = kept; last = c.args.last; free = s.cpus - c.args.count }) (omega arith)
          (λ i h on. absurd (both_ways (has kept i) (out i) on))
          (returns-clause-so_far g c),
      λ i h on. without_has s.jobs kept i low h ∙ and_from (has s.jobs i) (not (has kept i)) on (ap not (out i)),
    )
