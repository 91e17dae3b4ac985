-- The entries of a table in rising task numbers, and the table that they make again.
use Rattle.std.proofs.Common.{◌≡◌, ℕ, suc, ◌+◌, ◌≤◌, ◌⊎◌, List, [], ◌∷◌, ◌++◌, length, get_or, replicate, map, Bor, Some, None, Option, sym, refl, ap, ◌∙◌, inl, inr, ⊎_elim, append_assoc, arith}
use Rattle.std.specs.List.{flat_map}
use Rattle.std.specs.Option.{option_to_list}
use Rattle.std.proofs.lemmas.List.Folds.{flat_map-map}
use Rattle.std.proofs.lemmas.List.{set_at, length_push, length-map}
use Rattle.task.specs.declared.entry.Entry.{Entry}
use Rattle.task.specs.declared.task.Task.{Task}
use Rattle.task.specs.declared.table.Table.{Table}
use Rattle.task.specs.Tables.{entry_of, entries, InBounds, Apart, Obey, Numbered, filled, table_of}
use Rattle.task.proofs.Holding.{same_at}
use Rattle.task.proofs.Leaving.{bounds_at}
use Rattle.sheet.specs.Format.{tk}
use Rattle.sheet.specs.Encoding.{listed}

-- there are no more tasks than places
pub no_more : (ss : List (Option Task)) → length (flat_map option_to_list ss) ≤ length ss
no_more [] = omega arith
no_more (None ∷ ss) = let h = no_more ss in omega arith
no_more (Some t ∷ ss) = let h = no_more ss in omega arith

-- the records of the tasks, where the empty places are passed over
records_listed : (ss : List (Option Task)) → flat_map (λ t. tk t.figures) (flat_map option_to_list ss) ≡ flat_map tk (listed (entries ss))
records_listed [] = refl
records_listed (None ∷ ss) = records_listed ss
records_listed (Some t ∷ ss) = ap (λ z. tk t.figures ++ z) (records_listed ss)

pub lent_listed : (ts : List (Bor Task)) (ss : List (Option Task)) → map (λ t. t.now) ts ≡ flat_map option_to_list ss → flat_map (λ t. tk t.now.figures) ts ≡ flat_map tk (listed (entries ss))
lent_listed ts ss h = sym (flat_map-map (λ t. tk t.figures) (λ t. t.now) ts) ∙ (ap (flat_map (λ t. tk t.figures)) h ∙ records_listed ss)

-- an entry shares neither its number nor its name with any in these places
abbrev Alone : Entry → List (Option Entry) → Type 0
Alone e s = (i : ℕ) (b : Entry) → get_or s i None ≡ Some b → (e.number ≡ b.number → ⊥) × (e.name ≡ b.name → ⊥)

apart_listed : (s : List (Option Entry)) (e : Entry) → Alone e s → Apart e (listed s)
apart_listed [] e h = tt
apart_listed (None ∷ s) e h = apart_listed s e (λ i b p. h (suc i) b p)
apart_listed (Some b ∷ s) e h = ((h 0 b refl).0, (h 0 b refl).1, apart_listed s e (λ i b p. h (suc i) b p))

-- entries that share a number or a name stand in one place
abbrev Single : List (Option Entry) → Type 0
Single s = (i j : ℕ) (a b : Entry) → get_or s i None ≡ Some a → get_or s j None ≡ Some b → (a.number ≡ b.number) ⊎ (a.name ≡ b.name) → i ≡ j

single_rest : (o : Option Entry) (s : List (Option Entry)) → Single (o ∷ s) → Single s
single_rest o s h i j a b p q r = let e : suc i ≡ suc j = h (suc i) (suc j) a b p q r in omega arith

alone_first : (e : Entry) (s : List (Option Entry)) → Single (Some e ∷ s) → Alone e s
alone_first e s h i b p =
    let never : (e.number ≡ b.number) ⊎ (e.name ≡ b.name) → ⊥ = λ q. let z : 0 ≡ suc i = h 0 (suc i) e b refl p q in omega arith in
    (λ q. never (inl q), λ q. never (inr q))

obey_listed : (s : List (Option Entry)) → ((i : ℕ) (e : Entry) → get_or s i None ≡ Some e → InBounds e) → Single s → Obey (listed s)
obey_listed [] w h = tt
obey_listed (None ∷ s) w h = obey_listed s (λ i e p. w (suc i) e p) (single_rest None s h)
obey_listed (Some e ∷ s) w h = (w 0 e refl, apart_listed s e (alone_first e s h), obey_listed s (λ i e p. w (suc i) e p) (single_rest (Some e) s h))

-- the entries of a table obey the rules
pub table_obeys : (t : Table) → Obey (listed (entries t.tasks))
table_obeys t =
    let s = entries t.tasks in
    obey_listed s (bounds_at t.tasks) (λ i j a b p q. ⊎_elim
    (λ n. sym (t.numbered i a p) ∙ (n ∙ t.numbered j b q))
    (λ n. t.distinct i j (same_at (get_or s i None) (get_or s j None) a b p q n)))

-- the entries in these places have the numbers from n on
abbrev From : ℕ → List (Option Entry) → Type 0
From n s = (i : ℕ) (e : Entry) → get_or s i None ≡ Some e → e.number ≡ n + i

from_more : (f : List (Option Entry)) (o : Option Entry) (s : List (Option Entry)) → From (length f) (o ∷ s) → From (length (f ++ o ∷ [])) s
from_more f o s w i e h = let z = w (suc i) e h in let l : length (f ++ o ∷ []) ≡ length f + 1 = length_push f o in omega arith

one_on : (f : List (Option Entry)) (o : Option Entry) (s : List (Option Entry)) → filled ((f ++ o ∷ []) ++ replicate (length s) None) (listed s) ≡ (f ++ o ∷ []) ++ s
    → filled (f ++ o ∷ replicate (length s) None) (listed s) ≡ f ++ o ∷ s
one_on f o s h = ap (λ z. filled z (listed s)) (sym (append_assoc f (o ∷ []) (replicate (length s) None))) ∙ (h ∙ append_assoc f (o ∷ []) s)

-- empty places after some others, filled with the entries of as many places, are these places
refill : (s f : List (Option Entry)) → From (length f) s → filled (f ++ replicate (length s) None) (listed s) ≡ f ++ s
refill [] f w = refl
refill (None ∷ s) f w = one_on f None s (refill s (f ++ None ∷ []) (from_more f None s w))
refill (Some x ∷ s) f w =
    let n : length f ≡ x.number = let z = w 0 x refl in omega arith in
    ap (λ z. filled z (listed s)) (set_at f None (replicate (length s) None) (Some x) x.number n) ∙ one_on f (Some x) s (refill s (f ++ Some x ∷ []) (from_more f (Some x) s w))

-- the table of a numbered table's entries is the table itself
told_again : (s : List (Option Entry)) → length s ≡ 32 → Numbered s → table_of (listed s) ≡ s
told_again s l w = ap (λ k. filled (replicate k None) (listed s)) (sym l) ∙ refill s [] (λ i e p. let z = w i e p in omega arith)

pub table_again : (t : Table) → table_of (listed (entries t.tasks)) ≡ entries t.tasks
table_again t = told_again (entries t.tasks) (length-map t.tasks entry_of ∙ t.places) t.numbered
