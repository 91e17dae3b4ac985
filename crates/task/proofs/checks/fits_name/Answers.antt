use Rattle.std.proofs.Common.{◌∙◌, sym, rules, tests}
use Rattle.std.proofs.lemmas.Bool.{ne_eqb}
use Rattle.std.proofs.lemmas.Iterator.{YieldsList-from_slice}
use Rattle.std.proofs.lemmas.Iterator.Search.{all_from_yields_List}
use Rattle.task.proofs.Steps.{is_printable, printable_all}
use Rattle.task.proofs.checks.fits_name.Goals as goal

pub returns-then-name-ne32 : goal.returns-then-name-ne32
returns-then-name-ne32 c =
    rw (ne_eqb _ 32 c.if-name-ne32.true)
    (all_from_yields_List is_printable _ _ c.all.result c.all.ensures.ran (YieldsList-from_slice c.args.name.now cc) (λ x b q k. search (rules, tests)) ∙ sym (printable_all c.args.name.now))
