use Rattle.std.proofs.Common.{◌∙◌, sym, rules, tests}
use Rattle.std.specs.Option.{option_to_list}
use Rattle.std.proofs.lemmas.Iterator.{YieldsList-from_slice}
use Rattle.std.proofs.lemmas.Iterator.Adapters.{YieldsList-from_flatten}
use Rattle.std.proofs.lemmas.Iterator.Search.{any_from_yields_List}
use Rattle.task.proofs.Flattened.{place_gives}
use Rattle.task.proofs.Steps.{is_named, bears_any}
use Rattle.task.proofs.checks.bears_name.Goals as goal

pub returns : goal.returns
returns c =
    any_from_yields_List (is_named c.args.name.now) _ _ c.any.result c.any.ensures.ran
    (YieldsList-from_flatten _ _ (λ y. y.now) option_to_list (λ x j b. place_gives j x.now b.0 b.1) (YieldsList-from_slice c.args.tasks.now cc) c.flatten.ensures.front c.flatten.ensures.back c.flatten.ensures.done)
    (λ x b q k. search (rules, tests)) ∙ sym (bears_any c.args.tasks.now c.args.name.now)
