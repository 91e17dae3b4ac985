use Rattle.std.proofs.Common.{set, Some, ap, ◌∙◌, length-set}
use Rattle.std.proofs.lemmas.List.{map-set}
use Rattle.task.specs.Tables.{entry_of, entries}
use Rattle.task.proofs.Holding.{table_more}
use Rattle.task.proofs.table.Table.enter.Goals as goal

pub invariant_of-self : goal.invariant_of-self
invariant_of-self c =
    let t = c.args.self.now in
    let a = c.in_ok-task.ensures in
    let p = table_more t.tasks c.in_ok-task.task c.args.entry t.places a.1 a.0 t.numbered t.distinct in
    rw c.from.ensures (record { places = length-set t.tasks c.args.entry.number (Some c.in_ok-task.task) ∙ t.places; numbered = p.0; distinct = p.1 })

pub returns-clause-enters : goal.returns-clause-enters
returns-clause-enters c =
    let a = c.in_ok-task.ensures in
    rw c.from.ensures (a.0, map-set entry_of c.args.self.now.tasks c.args.entry.number (Some c.in_ok-task.task) ∙ ap (λ x. set (entries c.args.self.now.tasks) c.args.entry.number (Some x)) a.1)
