-- Any input has one text at most.
use Rattle.std.proofs.Common.{◌≡◌, ℕ, ◌<◌, List, [], ◌++◌, length, Option, Some, None, unwrap_or, refl, sym, ap, ap₂, subst, ◌∙◌, arith, rules, append_assoc, append-nil}
use Rattle.std.specs.Io.BufRead.{first_piece, drop_through}
use Rattle.report.specs.Reports.{Report}
use Rattle.report.proofs.Single.{one_text}
use Rattle.judge.specs.Printing.{Printed, judged, unreadable, PrintedBefore, none, and_then, OneOutput}

differ : (o : Option (List ℕ)) (x : List ℕ) → o ≡ Some x → o ≡ None → ⊥
differ o x e f = search rules

printed_once : (line a b : List ℕ) → Printed line a → Printed line b → a ≡ b
printed_once line a b (judged {sheet} e r) (judged {sheet = s} f q) =
    let same = ap (λ o. unwrap_or o []) (sym e ∙ f) in
    one_text s a b (subst (λ t. Report t a) same r) q
printed_once line a b (judged {sheet} e r) (unreadable f) = absurd (differ _ sheet e f)
printed_once line a b (unreadable e) (judged {sheet} f q) = absurd (differ _ sheet f e)
printed_once line a b (unreadable e) (unreadable f) = refl

-- what is printed from here to the end
data Rest : List ℕ → List ℕ → Type 0 where
  done : Rest [] []
  more : {left line text : List ℕ} → 0 < length left → Printed (first_piece 10 left) line → Rest (drop_through 10 left) text → Rest left (line ++ text)

onward : (input left text rest : List ℕ) → PrintedBefore input left text → Rest left rest → Rest input (text ++ rest)
onward input left text rest none r = r
onward input left text rest (and_then {left = l} {text = t} {line} p some own) r =
    subst (Rest input) (sym (append_assoc t line rest)) (onward input l t (line ++ rest) p (more some own r))

one_rest : (left a b : List ℕ) → Rest left a → Rest left b → a ≡ b
one_rest left a b done done = refl
one_rest left a b done (more some own r) = absurd (omega arith)
one_rest left a b (more some own r) done = absurd (omega arith)
one_rest left a b (more {line} {text} some own r) (more {line = m} {text = u} one own' r') =
    ap₂ (λ x y. x ++ y) (printed_once _ line m own own') (one_rest _ text u r r')

pub one_output : OneOutput
one_output input a b p q =
    sym (append-nil a) ∙ one_rest input (a ++ []) (b ++ []) (onward input [] a [] p done) (onward input [] b [] q done) ∙ append-nil b
