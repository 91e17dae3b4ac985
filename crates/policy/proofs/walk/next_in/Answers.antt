-- The zeros below the lowest bit of the rest are passed over.
use Rattle.std.proofs.Common.{◌/◌, ◌^◌, ◌<◌, arith, rules}
use Rattle.std.proofs.lemmas.Nat.{shr_le}
use Rattle.policy.proofs.Walking.{none_on, next_on, next_within}
use Rattle.policy.proofs.walk.next_in.Goals as goal

pub returns-then-rest-eq0-clause-next : goal.returns-then-rest-eq0-clause-next
returns-then-rest-eq0-clause-next c = none_on c.args.set c.args.low (omega arith) (omega arith)

pub returns : goal.returns
returns c =
    let s = c.args.set in
    let low = c.args.low in
    let fits : s < 2 ^ 32 = search rules in
    let rest : s / 2 ^ low < 2 ^ 32 = omega (arith, shr_le s low) in
    let some : 0 < s / 2 ^ low = omega arith in
    record { next = next_on s low fits rest some; found = next_within s low fits rest some }

pub returns-then-rest-eq0-clause-found : goal.returns-then-rest-eq0-clause-found
returns-then-rest-eq0-clause-found c = search rules
