use Rattle.std.proofs.Common.{rules, ◌≡◌, Ok, Err, ◌-◌, [], ◌∷◌, ◌++◌, length, sym, inr}
use Rattle.std.proofs.lemmas.Result.{err_from_is_err_and}
use Rattle.task.specs.Tables.{entries, table_of}
use Rattle.sheet.proofs.Going.{breaks, entry_refused, entry_taken, went_on, next_some}
use Rattle.sheet.proofs.decode.read_records.Goals as goal

pub returns-in_err-entry : goal.returns-in_err-entry
returns-in_err-entry c =
    let p = err_from_is_err_and c.from_residual-in_err-entry.result c.from_residual-in_err-entry.ensures.1 in
    let inv = c.loop-entry.invariant in
    rw (p.1, p.2) (inr (breaks c.args.bytes.now c.loop-entry.rest.now c.in_ok-cpus.cpus inv.0 _ c.in_ok-cpus.ensures.1 inv.1 inv.2
    (c.in_err-entry.ensures (table_of inv.0))))

pub returns-in_err-map_err : goal.returns-in_err-map_err
returns-in_err-map_err c =
    let p = err_from_is_err_and c.from_residual-in_err-map_err.result c.from_residual-in_err-map_err.ensures.1 in
    let inv = c.loop-entry.invariant in
    let place = length c.args.bytes.now - length c.loop-entry.rest.now in
    let x = c.in_err-map_err.field-0.0 in
    let q : (c.enter.result ≡ Err x.refusal) × (x.place ≡ place) = search rules in
    let w = next_some place c.loop-entry.rest.now c.in_ok-entry.field-0 (c.in-Some.entry, c.in-Some.after) c.in-Some.is c.in_ok-entry.ensures in
    let f = entry_refused (table_of inv.0) (entries c.enter.new.self.tasks) c.in-Some.entry place c.loop-entry.rest.now c.in-Some.after.now c.enter.result x.refusal (rw (sym inv.3) c.enter.ensures.enters) q.0 w in
    rw (p.1, p.2, q.1) (inr (breaks c.args.bytes.now c.loop-entry.rest.now c.in_ok-cpus.cpus inv.0 _ c.in_ok-cpus.ensures.1 inv.1 inv.2 f))

pub loop-entry-preserved : goal.loop-entry-preserved
loop-entry-preserved c =
    let inv = c.loop-entry.invariant in
    let place = length c.args.bytes.now - length c.loop-entry.rest.now in
    let q : c.enter.result ≡ Ok c.in_ok-map_err.field-0 = search rules in
    let w = next_some place c.loop-entry.rest.now c.in_ok-entry.field-0 (c.in-Some.entry, c.in-Some.after) c.in-Some.is c.in_ok-entry.ensures in
    let a = entry_taken (entries c.loop-entry.table.tasks) (entries c.enter.new.self.tasks) c.in-Some.entry c.enter.result c.in_ok-map_err.field-0 c.enter.ensures.enters q in
    let g = went_on c.args.bytes.now c.loop-entry.rest.now c.in-Some.after.now c.in_ok-cpus.cpus place inv.0 c.in-Some.entry (entries c.loop-entry.table.tasks) (entries c.enter.new.self.tasks) inv.1 inv.2 inv.3 w a.0 a.1 in
    (inv.0 ++ c.in-Some.entry ∷ [], g.0, g.1, g.2)

pub returns-in_default : goal.returns-in_default
returns-in_default c = search rules
