use Rattle.std.proofs.Common.{rules, sym, ◌∙◌, ⊎_elim}
use Rattle.judge.proofs.Spelled.{spelled, by_digits, no_digits}
use Rattle.judge.proofs.spelling.read_sheet.Goals as goal

pub returns-in-Ok : goal.returns-in-Ok
returns-in-Ok c = sym (by_digits c.args.line.now _ c.without_return-word.ensures (sym c.if-is_hyphen.ensures) ∙ spelled _ _ c.in-Ok.ensures.ok)

pub returns-in_default : goal.returns-in_default
returns-in_default c =
    let digits = by_digits c.args.line.now _ c.without_return-word.ensures (sym c.if-is_hyphen.ensures) in
    ⊎_elim (λ memory. absurd (c.in_default.not-OutOfMemory memory)) (λ bad. sym (digits ∙ spelled _ _ bad)) c.in-Err.ensures.err

pub returns-in-OutOfMemory : goal.returns-in-OutOfMemory
returns-in-OutOfMemory c = search rules

pub returns-then-is_hyphen : goal.returns-then-is_hyphen
returns-then-is_hyphen c = search rules

pub returns-then-not-is_hex : goal.returns-then-not-is_hex
returns-then-not-is_hex c =
    let word = c.without_return-word.result.now in
    let digits = by_digits c.args.line.now word c.without_return-word.ensures (sym c.if-is_hyphen.ensures) in
    sym (digits ∙ no_digits word (sym c.if-not-is_hex.ensures))
