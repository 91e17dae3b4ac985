use Rattle.std.proofs.Common.{rules, tests}
use Rattle.std.proofs.lemmas.Iterator.{YieldsList-from_slice}
use Rattle.std.proofs.lemmas.Iterator.Search.{all_from_yields_List}
use Rattle.hex.specs.Hex.{is_hex_digit}
use Rattle.judge.proofs.Spelled.{same_digits}
use Rattle.judge.proofs.spelling.is_hex.Goals as goal

pub returns : goal.returns
returns c =
    all_from_yields_List is_hex_digit _ _ c.all.result c.all.ensures.ran (YieldsList-from_slice c.args.word.now cc)
    (λ x b q k. rw (← same_digits x.now) (search (rules, tests)))
