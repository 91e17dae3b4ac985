-- The age is what has passed since the latest release.
use Rattle.std.proofs.Common.{◌≡◌, ℕ, ◌-◌, ◌%◌, Option, sym, ◌∙◌, subst, arith}
use Rattle.task.specs.declared.task.Task.{Task}
use Rattle.task.specs.Tables.{entry_of}
use Rattle.policy.specs.Releases.{Latest, Released}
use Rattle.policy.proofs.Since.{released_at}
use Rattle.policy.proofs.release.latest_release.Goals as goal

pub returns-else-t-offset : goal.returns-else-t-offset
returns-else-t-offset c =
    let task = c.in-Some.task in
    let e = task.figures in
    let t = c.args.t in
    let age : c.from.result ≡ (t - e.offset) % e.period = c.from.ensures ∙ c.age.ensures in
    let R : ℕ → Type 0 = λ n. Released e t (t - n) in
    let here = released_at e t (omega (arith, task.runs, task.fits, task.constrained)) task.bounded (omega arith) in
    let L : Option Task → Type 0 = λ o. Latest (entry_of o) t (t - c.from.result) in
    subst L (sym c.in-Some.is) (subst R (sym age) here)
