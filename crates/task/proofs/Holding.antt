-- Tables keep their places and names apart, and hold just what they took.
use Rattle.std.proofs.Common.{◌≡◌, ℕ, suc, ◌<◌, ◌≤◌, false, ◌≢◌, ◌⊎◌, List, [], ◌∷◌, length, get_or, set, Some, None, Option, sym, refl, ap, ◌∙◌, subst, inl, inr, ⊎_elim, arith, length-set, get_or-set_other, get_or-set_same}
use Rattle.std.specs.Str.{bytes_eq}
use Rattle.std.proofs.lemmas.List.{get_or-replicate, get_or_past, length-map, map-set}
use Rattle.std.proofs.lemmas.Bool.{both_ways, cases_eq, cases_lt, or_from}
use Rattle.task.specs.declared.entry.Entry.{Entry}
use Rattle.task.specs.declared.task.Task.{Task}
use Rattle.task.specs.Rules.{bears, entry_refusal, no_tasks, with_entry}
use Rattle.task.specs.Tables.{entry_of, entries, Obey, Numbered, SameName, Distinct, filled, In}
use Rattle.task.specs.Theorems.{HoldsJustThese, TakesJustLawfulEntries}
use Rattle.task.proofs.Obeying.{never, bounds_from, unrefused, differ, bears_has, filled_other}

none_there : (n : ℕ) → get_or no_tasks n None ≡ None
none_there n = ⊎_elim (λ h. get_or-replicate 32 n None None h) (λ h. get_or_past no_tasks n None h) (cases_lt n 32)

pub numbered_none : Numbered no_tasks
numbered_none i e h = never (get_or no_tasks i None) h (none_there i)

-- two places of one name have tasks
pub both : (a b : Option Entry) → SameName a b → (x : Entry) × (y : Entry) × (a ≡ Some x) × (b ≡ Some y) × (x.name ≡ y.name)
both None b s = absurd s
both (Some x) None s = absurd s
both (Some x) (Some y) s = (x, y, refl, refl, s)

pub distinct_none : Distinct no_tasks
distinct_none i j s = never (get_or no_tasks i None) (both (get_or no_tasks i None) (get_or no_tasks j None) s).2 (none_there i)

-- what stands in a place after one more entry: the entry, or what stood there
in_place : (s : List (Option Entry)) (e : Entry) (n : ℕ) (x : Entry) → e.number < length s → get_or (with_entry s e) n None ≡ Some x
    → ((n ≡ e.number) × (x ≡ e)) ⊎ (get_or s n None ≡ Some x)
in_place s e n x l h = ⊎_elim
    (λ q. let y : get_or (with_entry s e) n None ≡ Some e = ap (λ k. get_or (with_entry s e) k None) q ∙ get_or-set_same s e.number (Some e) None l in
    inl (q, let z : Some x ≡ Some e = sym h ∙ y in cc))
    (λ d. let o : n ≢ e.number = d in inr (sym (get_or-set_other s e.number n (Some e) None o) ∙ h))
    (cases_eq n e.number)

pub numbered_more : (s : List (Option Entry)) (e : Entry) → length s ≡ 32 → e.number ≤ 31 → Numbered s → Numbered (with_entry s e)
numbered_more s e l k w i x h = ⊎_elim
    (λ q. ap (λ z. z.number) q.1 ∙ sym q.0)
    (λ o. w i x o)
    (in_place s e i x (omega arith) h)

same_name : {A : Type 0} (s : List (Option Entry)) (e : Entry) (n : ℕ) (b : Entry) → bears s e.name ≡ false → get_or s n None ≡ Some b → b.name ≡ e.name → A
same_name s e n b k h q = absurd (both_ways (bears s e.name) k (bears_has s n b e.name h q))

pub same_at : (o p : Option Entry) (a b : Entry) → o ≡ Some a → p ≡ Some b → a.name ≡ b.name → SameName o p
same_at o p a b h k q = rw (h, k) q

pub distinct_more : (s : List (Option Entry)) (e : Entry) → length s ≡ 32 → e.number ≤ 31 → bears s e.name ≡ false → Distinct s → Distinct (with_entry s e)
distinct_more s e l k f w i j h =
    let p = both (get_or (with_entry s e) i None) (get_or (with_entry s e) j None) h in
    let a : Entry = p.0 in
    let b : Entry = p.1 in
    let q : a.name ≡ b.name = p.4 in
    ⊎_elim
    (λ x. ⊎_elim
    (λ y. x.0 ∙ sym y.0)
    (λ y. same_name s e j b f y (sym q ∙ ap (λ z. z.name) x.1))
    (in_place s e j b (omega arith) p.3))
    (λ x. ⊎_elim
    (λ y. same_name s e i a f x (q ∙ ap (λ z. z.name) y.1))
    (λ y. w i j (same_at (get_or s i None) (get_or s j None) a b x y q))
    (in_place s e j b (omega arith) p.3))
    (in_place s e i a (omega arith) p.2)

-- a task entered into a table keeps the places and the names apart
pub table_more : (ss : List (Option Task)) (t : Task) (e : Entry) → length ss ≡ 32 → t.figures ≡ e → entry_refusal (entries ss) e ≡ None
    → Numbered (entries ss) → Distinct (entries ss)
    → Numbered (entries (set ss e.number (Some t))) × Distinct (entries (set ss e.number (Some t)))
table_more ss t e l q h a b =
    let p = bounds_from (entries ss) e (ap (λ x. length x.name) (sym q) ∙ t.eight) (subst (λ x. x.rank ≤ 255) q t.ranked) h in
    let z : length (entries ss) ≡ 32 = length-map ss entry_of ∙ l in
    let s : with_entry (entries ss) e ≡ entries (set ss e.number (Some t)) = sym (map-set entry_of ss e.number (Some t) ∙ ap (λ x. set (entries ss) e.number (Some x)) q) in (
      subst Numbered s (numbered_more (entries ss) e z p.0.number a),
      subst Distinct s (distinct_more (entries ss) e z p.0.number p.1.new b),
    )

held : (es : List Entry) (s : List (Option Entry)) (e : Entry) → length s ≡ 32 → Obey es → In e es → get_or (filled s es) e.number None ≡ Some e
held [] s e l o i = absurd i
held (x ∷ xs) s e l o (inl q) =
    let n : x.number ≤ 31 = o.0.number in
    let b : x.number < length s = omega arith in
    subst (λ (z : Entry). get_or (filled (with_entry s x) xs) z.number None ≡ Some z) (sym q)
    (filled_other xs (with_entry s x) x o.1 ∙ get_or-set_same s x.number (Some x) None b)
held (x ∷ xs) s e l o (inr i) = held xs (with_entry s x) e (length-set s x.number (Some x) ∙ l) o.2 i

in_filled : (es : List Entry) (s : List (Option Entry)) (i : ℕ) (e : Entry) → length s ≡ 32 → Obey es → get_or (filled s es) i None ≡ Some e → In e es ⊎ (get_or s i None ≡ Some e)
in_filled [] s i e l o h = inr h
in_filled (x ∷ xs) s i e l o h =
    let n : x.number ≤ 31 = o.0.number in
    let b : x.number < length s = omega arith in
    ⊎_elim
    (λ m. inl (inr m))
    (λ k. ⊎_elim (λ q. inl (inl q.1)) (λ m. inr m) (in_place s x i e b k))
    (in_filled xs (with_entry s x) i e (length-set s x.number (Some x) ∙ l) o.2 h)

pub holds_just_these : HoldsJustThese
holds_just_these es o e = (
  held es no_tasks e refl o,
  λ i h. ⊎_elim (λ m. m) (λ s. never (get_or no_tasks i None) s (none_there i)) (in_filled es no_tasks i e refl o h),
)

pub nobody : (ss : List (Option Entry)) (name : List ℕ) → ((k : ℕ) (b : Entry) → get_or ss k None ≡ Some b → b.name ≡ name → ⊥) → bears ss name ≡ false
nobody [] name h = refl
nobody (None ∷ ss) name h = nobody ss name (λ k b p. h (suc k) b p)
nobody (Some u ∷ ss) name h = or_from (bytes_eq u.name name) (bears ss name) (differ u.name name (h 0 u refl)) (nobody ss name (λ k b p. h (suc k) b p))

pub takes_just_lawful_entries : TakesJustLawfulEntries
takes_just_lawful_entries s e l r = (
  λ h. let p = bounds_from s e l r h in (p.0, (p.1.free, λ n b k q. same_name s e n b p.1.new k q)),
  λ w f. unrefused s e w (record { free = f.0; new = nobody s e.name f.1 }),
)
