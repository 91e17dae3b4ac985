-- The bytes of a name one by one, and the places of a table one by one.
use Rattle.std.proofs.Common.{◌≡◌, ℕ, ◌<◌, Bool, ◌&&◌, ◌||◌, leb, List, [], ◌∷◌, length, get_or, is_some, Some, None, Option, sym, refl, ap, ◌∙◌}
use Rattle.std.specs.List.{list_all, list_any, flat_map}
use Rattle.std.specs.Option.{option_to_list}
use Rattle.std.specs.Str.{bytes_eq}
use Rattle.std.proofs.lemmas.List.{get_or_default}
use Rattle.std.proofs.Math.ListN.{get_or-map}
use Rattle.task.specs.declared.task.Task.{Task}
use Rattle.task.specs.Names.{printable}
use Rattle.task.specs.Rules.{bears}
use Rattle.task.specs.Tables.{entry_of, entries}

-- a byte that a name may have
abbrev pub is_printable : ℕ → Bool
is_printable b = leb 32 b && leb b 126

pub printable_all : (bs : List ℕ) → printable bs ≡ list_all is_printable bs
printable_all [] = refl
printable_all (b ∷ bs) = ap (λ r. is_printable b && r) (printable_all bs)

-- a task bears the name
abbrev pub is_named : List ℕ → Task → Bool
is_named name t = bytes_eq t.figures.name name

pub bears_any : (ss : List (Option Task)) (name : List ℕ) → bears (entries ss) name ≡ list_any (is_named name) (flat_map option_to_list ss)
bears_any [] name = refl
bears_any (None ∷ ss) name = bears_any ss name
bears_any (Some t ∷ ss) name = ap (λ r. is_named name t || r) (bears_any ss name)

some_of : (o : Option Task) → is_some (entry_of o) ≡ is_some o
some_of None = refl
some_of (Some t) = refl

-- a place has an entry where it has a task
pub entry_there : (ss : List (Option Task)) (i : ℕ) (d : Option Task) (b : Bool) → i < length ss → b ≡ is_some (get_or ss i d) → is_some (get_or (entries ss) i None) ≡ b
entry_there ss i d b l h = ap is_some (get_or-map entry_of ss i None) ∙ (some_of (get_or ss i None) ∙ (ap is_some (get_or_default ss i None d l) ∙ sym h))
