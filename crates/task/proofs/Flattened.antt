-- What comes of the places of a table one after another, where the empty ones are passed over.
use Rattle.std.proofs.Common.{◌≡◌, Bool, true, false, List, [], ◌∷◌, length, Some, None, Option, refl, subst, cond, Bor}
use Rattle.std.specs.Bool.{MatchBool}
use Rattle.std.specs.Option.{option_to_list}
use Rattle.std.specs.Iterator.Adapters.{option_iter_item, option_iter_done, option_iter_steps}
use Rattle.std.specs.declared.option.Iter.{OptionIter}
use Rattle.std.proofs.lemmas.Iterator.{YieldsList}
use Rattle.std.proofs.lemmas.Iterator.Consumers.{YieldsList-from_shown}

abbrev left_of_place : {X : Type 0} → Bool → Option X → List X
left_of_place done o = cond done [] (option_to_list o)

ended : {X : Type 0} (done : Bool) (o : Option X) (r : Option (Bor X)) → MatchBool done (r ≡ None) (None ≡ o) → length (left_of_place done o) ≡ 0
ended true o r h = refl
ended false None r h = refl
ended false (Some x) r h = absurd (cc)

came : {X : Type 0} (done : Bool) (o p : Option X) (after : Bool) (x : Bor X) → after ≡ true → MatchBool done (Some x ≡ None) (Some x.now ≡ o) → left_of_place done o ≡ x.now ∷ left_of_place after p
came true o p after x e h = absurd (cc)
came false None p after x e h = absurd (cc)
came false (Some y) p after x e h = rw e (cc)

-- a place gives its task, or nothing
pub place_gives : {X : Type 0} (s : OptionIter X) (o : Option X) → option_iter_item s ≡ o → option_iter_done s ≡ false → YieldsList option_iter_steps (λ y. y.now) s (option_to_list o)
place_gives {X} s o e f =
    subst (YieldsList option_iter_steps (λ y. y.now) s) (rw (f, e) refl)
    (YieldsList-from_shown option_iter_steps (λ y. y.now) (λ u. left_of_place (option_iter_done u) (option_iter_item u))
    (λ u t h. ended (option_iter_done u) (option_iter_item u) None h.1)
    (λ u x t h. came (option_iter_done u) (option_iter_item u) (option_iter_item t) (option_iter_done t) x h.0 h.1) s)
