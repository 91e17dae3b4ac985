use Rattle.std.proofs.Common.{◌≡◌, true, get_or, is_some, None, sym, ◌∙◌, subst, arith, length-set}
use Rattle.task.specs.Tables.{entries}
use Rattle.task.proofs.Steps.{entry_there}
use Rattle.task.proofs.Leaving.{may_go, entries_less, table_less}
use Rattle.task.proofs.table.Table.withdraw.Goals as goal

pub invariant_of-self : goal.invariant_of-self
invariant_of-self c =
    let t = c.args.self.now in
    let p = table_less t.tasks c.args.number t.numbered t.distinct in
    rw c.from-place.ensures (length-set t.tasks c.args.number None ∙ t.places, (p.0, (p.1, tt)))

pub returns-clause-withdraws : goal.returns-clause-withdraws
returns-clause-withdraws c =
    let s = entries c.args.self.now.tasks in
    let there = entry_there c.args.self.now.tasks c.from-place.result _ _ (omega (arith, c.from-place.ensures)) (sym c.if-is_none.ensures) in
    rw c.from-place.ensures (may_go s c.args.number (omega arith) (subst (λ n. is_some (get_or s n None) ≡ true) c.from-place.ensures there), entries_less c.args.self.now.tasks c.args.number)
