use Rattle.std.proofs.Common.{ℕ, ◌<◌, sym, subst}
use Rattle.schedule.proofs.Multiples.{gcd_positive}
use Rattle.trial.proofs.cycle.lcm.Goals as goal

pub nonzero_div-a : goal.nonzero_div-a
nonzero_div-a c = let P : ℕ → Type 0 = λ n. 0 < n in subst P (sym c.gcd.ensures) (gcd_positive c.args.a c.args.b c.requires.0)
