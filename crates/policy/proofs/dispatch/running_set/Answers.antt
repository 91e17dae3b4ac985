-- The active jobs and their ages are known, and a plan under a policy is ranked.
use Rattle.task.specs.Tables.{entry_at}
use Rattle.std.proofs.Common.{arith}
use Rattle.policy.specs.Sets.{left_of}
use Rattle.policy.proofs.Ranks.{as_many_run}
use Rattle.policy.proofs.Running.{few_run}
use Rattle.policy.proofs.Since.{asking_at, known_at}
use Rattle.policy.proofs.dispatch.running_set.Goals as goal

pub invariant_of-slot : goal.invariant_of-slot
invariant_of-slot g c =
    let a = c.args in
    record { asking = asking_at (entry_at a.tasks.now) a.left.now c.active_set-jobs.result c.latest_releases.result a.instant c.active_set-jobs.ensures c.latest_releases.ensures }

pub returns : goal.returns
returns g c =
    let p = g.P.Policy in
    let laws = g.met.P.Policy in
    let a = c.args in
    let at = entry_at a.tasks.now in
    let same = c.running.ensures a.left.now (known_at at a.left.now c.active_set-jobs.result c.latest_releases.result a.instant c.active_set-jobs.ensures c.latest_releases.ensures) in
    record {
      set = same;
      count = as_many_run (p.keyed a.policy.now) (p.precedes a.policy.now) (laws.total a.policy.now) (laws.transitive a.policy.now) at a.cpus a.instant (left_of a.left.now) c.running.result same;
    }

-- where the active jobs are few all of them run
pub returns-then-jobs-from-clause-set : goal.returns-then-jobs-from-clause-set
returns-then-jobs-from-clause-set g c =
    let p = g.P.Policy in
    let a = c.args in
    few_run (p.keyed a.policy.now) (p.precedes a.policy.now) (entry_at a.tasks.now) a.left.now a.cpus a.instant c.active_set-jobs.result c.active_set-jobs.ensures (omega arith)

pub returns-then-jobs-from-clause-count : goal.returns-then-jobs-from-clause-count
returns-then-jobs-from-clause-count g c =
    let p = g.P.Policy in
    let laws = g.met.P.Policy in
    let a = c.args in
    let at = entry_at a.tasks.now in
    let same = few_run (p.keyed a.policy.now) (p.precedes a.policy.now) at a.left.now a.cpus a.instant c.active_set-jobs.result c.active_set-jobs.ensures (omega arith) in
    as_many_run (p.keyed a.policy.now) (p.precedes a.policy.now) (laws.total a.policy.now) (laws.transitive a.policy.now) at a.cpus a.instant (left_of a.left.now) c.active_set-jobs.result same
