-- What writing one line, and the lines one after another, comes to.
use Rattle.std.proofs.Common.{◌≡◌, ℕ, List, [], ◌++◌, Option, Some, None, IfSome, Result, Ok, Err, Vec, Global, vec_items, sym, ap, subst, ◌∙◌, ◌<◌, length, rules, append_assoc, append-nil}
use Rattle.std.specs.declared.io.Error.{Error}
use Rattle.std.specs.Io.BufRead.{first_piece, drop_through}
use Rattle.std.specs.Io.Iter.{YieldsKnownPiece}
use Rattle.std.specs.Io.KnownBytes.{Keeps, Appends}
use Rattle.streams.specs.declared.failure.Failure.{Failure}
use Rattle.streams.specs.declared.failure.Failure.TheVariants.{Input, Output, Memory}
use Rattle.judge.specs.Printing.{Printed, PrintedBefore, none, and_then, WritesText, PrintsLine, PrintsRead, PrintsLines}

-- a line is printed by writing the text that is printed for it
pub told : (line text : List ℕ) (before after : Option (List ℕ)) (r : Result (Unit {0}) Failure) → Printed line text → WritesText text before after r → PrintsLine line before after r
told line text before after (Ok t) p w = (text, p, w)
told line text before after (Err (Input e)) p w = absurd w
told line text before after (Err (Output e)) p w = tt
told line text before after (Err Memory) p w = absurd w

-- what is left of an input, where that is known, and what an output has got for the lines before
abbrev pub Standing : (input : List ℕ) (left before after : Option (List ℕ)) → Type 0
Standing input left before after = (rest text : List ℕ) × (left ≡ Some rest) × PrintedBefore input rest text × Appends before after text

pub weaker : (o : Option (List ℕ)) (P Q : List ℕ → Type 0) → ((xs : List ℕ) → P xs → Q xs) → IfSome o P → IfSome o Q
weaker None P Q f h = tt
weaker (Some xs) P Q f h = f xs h

-- nothing is printed before the first line
nothing : (held : Option (List ℕ)) → Appends held held []
nothing None = tt
nothing (Some xs) = sym (append-nil xs)

pub begins : (known left held : Option (List ℕ)) → left ≡ known → IfSome known (λ input. Standing input left held held)
begins None left held e = tt
begins (Some input) left held e = (input, [], e, none, nothing held)

kept : (a b c : Option (List ℕ)) (text : List ℕ) → Appends a b text → Keeps b c → Appends a c text
kept None b c text h k = tt
kept (Some x) None c text h k = absurd h
kept (Some x) (Some y) None text h k = absurd k
kept (Some x) (Some y) (Some z) text h k = k ∙ h

grown : (a b c : Option (List ℕ)) (text line : List ℕ) → Appends a b text → Appends b c line → Appends a c (text ++ line)
grown None b c text line h k = tt
grown (Some x) None c text line h k = absurd h
grown (Some x) (Some y) None text line h k = absurd k
grown (Some x) (Some y) (Some z) text line h k = k ∙ ap (λ t. t ++ line) h ∙ append_assoc x text line

-- where nothing more is printed, what was printed before stands, whichever failure it is
stands : (input : List ℕ) (left a b c : Option (List ℕ)) (f : Failure) → Standing input left a b → Keeps b c → PrintsLines input a c (Err f)
stands input left a b c (Input e) s k = (s.0, s.1, s.3, kept a b c s.1 s.4 k)
stands input left a b c (Output e) s k = tt
stands input left a b c Memory s k = (s.0, s.1, s.3, kept a b c s.1 s.4 k)

-- a line that fails ends the printing
pub stops : (input : List ℕ) (left a b c : Option (List ℕ)) (line : Result (Vec ℕ Global) Error) (f : Failure) → Standing input left a b → PrintsRead line b c (Err f) → PrintsLines input a c (Err f)
stops input left a b c (Ok line) (Input e) s p = stands input left a b c (Input e) s p
stops input left a b c (Ok line) (Output e) s p = tt
stops input left a b c (Ok line) Memory s p = stands input left a b c Memory s p
stops input left a b c (Err e) f s p = stands input left a b c f s p.1

at_known : (o : Option (List ℕ)) (xs : List ℕ) (P : List ℕ → Type 0) → o ≡ Some xs → IfSome o P → P xs
at_known o xs P e = subst (λ q. IfSome q P) e

-- a line that is printed leads on to the next
pub goes_on : (input : List ℕ) (left next a b c : Option (List ℕ)) (line : Result (Vec ℕ Global) Error) (t : Unit {0}) → Standing input left a b
    → YieldsKnownPiece vec_items (first_piece 10) 10 left (Some line) next → PrintsRead line b c (Ok t) → Standing input next a c
goes_on input left next a b c (Ok line) t s y p =
    let rest = s.0 in
    let here = at_known left rest (λ xs. (0 < length xs) × (vec_items line ≡ first_piece 10 xs)) s.2 y.0 in
    let dropped = at_known left rest (λ xs. next ≡ Some (drop_through 10 xs)) s.2 y.1 in
    let printed = subst (λ l. Printed l p.0) here.1 p.1 in
    (drop_through 10 rest, s.1 ++ p.0, dropped, and_then s.3 here.0 printed, grown a b c s.1 p.0 s.4 p.2)
goes_on input left next a b c (Err e) t s y p = search rules
