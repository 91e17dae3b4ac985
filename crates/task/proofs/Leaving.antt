-- A task that is withdrawn leaves the other places as they were, and may return.
use Rattle.std.proofs.Common.{◌≡◌, ℕ, zero, suc, ◌≤◌, true, List, [], ◌∷◌, get_or, set, is_some, Some, None, Option, sym, refl, ap, ◌∙◌, subst}
use Rattle.std.proofs.lemmas.List.{map-set}
use Rattle.std.proofs.Math.ListN.{get_or-map}
use Rattle.std.proofs.lemmas.Bool.{le-ltb}
use Rattle.task.specs.declared.entry.Entry.{Entry}
use Rattle.task.specs.declared.task.Task.{Task}
use Rattle.task.specs.Rules.{withdraw_refusal, without_entry}
use Rattle.task.specs.Tables.{entry_of, entries, InBounds, Numbered, Distinct}
use Rattle.task.specs.Theorems.{WithdrawnMayReturn}
use Rattle.task.proofs.Obeying.{never, unrefused}
use Rattle.task.proofs.Holding.{both, same_at, nobody}

pub may_go : (s : List (Option Entry)) (n : ℕ) → n ≤ 31 → is_some (get_or s n None) ≡ true → withdraw_refusal s n ≡ None
may_go s n l h = rw (le-ltb 31 n l, h)

-- the place is empty
gone : (s : List (Option Entry)) (n : ℕ) → get_or (without_entry s n) n None ≡ None
gone [] n = refl
gone (o ∷ s) zero = refl
gone (o ∷ s) (suc n) = gone s n

-- what stands in a place stood there before
stood : (s : List (Option Entry)) (n i : ℕ) (e : Entry) → get_or (without_entry s n) i None ≡ Some e → get_or s i None ≡ Some e
stood [] n i e h = h
stood (o ∷ s) zero zero e h = never None h refl
stood (o ∷ s) zero (suc i) e h = h
stood (o ∷ s) (suc n) zero e h = h
stood (o ∷ s) (suc n) (suc i) e h = stood s n i e h

numbered_less : (s : List (Option Entry)) (n : ℕ) → Numbered s → Numbered (without_entry s n)
numbered_less s n w i e h = w i e (stood s n i e h)

distinct_less : (s : List (Option Entry)) (n : ℕ) → Distinct s → Distinct (without_entry s n)
distinct_less s n w i j h =
    let p = both (get_or (without_entry s n) i None) (get_or (without_entry s n) j None) h in
    w i j (same_at (get_or s i None) (get_or s j None) p.0 p.1 (stood s n i p.0 p.2) (stood s n j p.1 p.3) p.4)

pub entries_less : (ss : List (Option Task)) (n : ℕ) → entries (set ss n None) ≡ without_entry (entries ss) n
entries_less ss n = map-set entry_of ss n None

-- a task withdrawn from a table keeps the places and the names apart
pub table_less : (ss : List (Option Task)) (n : ℕ) → Numbered (entries ss) → Distinct (entries ss) → Numbered (entries (set ss n None)) × Distinct (entries (set ss n None))
table_less ss n a b =
    let q = sym (entries_less ss n) in
    (subst Numbered q (numbered_less (entries ss) n a), subst Distinct q (distinct_less (entries ss) n b))

-- the bounds of a task are those of its entry
bounds_of : (u : Task) → InBounds u.figures
bounds_of u = record {
  number = u.numbered;
  eight = u.eight;
  named = u.named;
  rank = u.ranked;
  offset = u.begins;
  runs = u.runs;
  runtime = u.fits;
  deadline = u.constrained;
  period = u.bounded;
}

bounds_in : (o : Option Task) (e : Entry) → entry_of o ≡ Some e → InBounds e
bounds_in None e h = never (Some e) refl (sym h)
bounds_in (Some u) e h = let q : u.figures ≡ e = cc in subst InBounds q (bounds_of u)

-- each entry of a table is in bounds
pub bounds_at : (ss : List (Option Task)) (n : ℕ) (e : Entry) → get_or (entries ss) n None ≡ Some e → InBounds e
bounds_at ss n e h = bounds_in (get_or ss n None) e (sym (get_or-map entry_of ss n None) ∙ h)

pub withdrawn_may_return : WithdrawnMayReturn
withdrawn_may_return t n e h =
    let s = entries t.tasks in
    let q : e.number ≡ n = t.numbered n e h in
    unrefused (without_entry s n) e (bounds_at t.tasks n e h) (record {
      free = ap (λ k. get_or (without_entry s n) k None) q ∙ gone s n;
      new = nobody (without_entry s n) e.name (λ k b p m.
          let j : k ≡ n = t.distinct k n (same_at (get_or s k None) (get_or s n None) b e (stood s n k b p) h m) in
          never (get_or (without_entry s n) k None) p (ap (λ i. get_or (without_entry s n) i None) j ∙ gone s n));
    })
