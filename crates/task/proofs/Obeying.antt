-- What a table refuses, and the rules that the entries it takes obey.
use Rattle.std.proofs.Common.{◌≡◌, ℕ, zero, suc, ◌+◌, ◌<◌, ◌≤◌, Bool, true, false, cond, eqb, ltb, ◌≢◌, List, [], ◌∷◌, ◌++◌, length, get_or, set, is_some, Some, None, Option, sym, refl, ap, ◌∙◌, arith, length-set, get_or-set_other, get_or-set_same}
use Rattle.std.specs.Str.{bytes_eq}
use Rattle.std.proofs.lemmas.List.{get_or-replicate}
use Rattle.std.proofs.lemmas.Bool.{both_ways, false_from_ne_true, or_parts, or_from, or_left, or_right, ltb-false, eqb-false, le-ltb, ne_eqb, not-false}
use Rattle.std.proofs.lemmas.Slice.Eq.{bytes_eq-Decides}
use Rattle.task.specs.declared.entry.Entry.{Entry}
use Rattle.task.specs.declared.refusal.Refusal.TheVariants.{CpusOutOfRange}
use Rattle.task.specs.Names.{is_name}
use Rattle.task.specs.Rules.{outside, bears, cpus_refusal, entry_refusal, no_tasks, with_entry}
use Rattle.task.specs.Tables.{InBounds, Apart, Obey, filled, table_of}

pub never : {X : Type 0} {x : X} {A : Type 0} (o : Option X) → o ≡ Some x → o ≡ None → A
never o p q = absurd (cc)

pub cond_none : {X : Type 0} (b : Bool) (x : X) (o : Option X) → cond b (Some x) o ≡ None → (b ≡ false) × (o ≡ None)
cond_none true x o e = never (Some x) refl e
cond_none false x o e = (refl, e)

pub none_of : {X : Type 0} (o : Option X) → is_some o ≡ false → o ≡ None
none_of None e = refl
none_of (Some x) e = absurd (both_ways true e refl)

pub differ : (xs ys : List ℕ) → (xs ≡ ys → ⊥) → bytes_eq xs ys ≡ false
differ xs ys n = false_from_ne_true (bytes_eq xs ys) (λ t. n ((bytes_eq-Decides xs ys).0 t))

same : (xs ys : List ℕ) → xs ≡ ys → bytes_eq xs ys ≡ true
same xs ys e = (bytes_eq-Decides xs ys).1 e

-- the number and the name are free
pub record Clear (s : List (Option Entry)) (e : Entry) : Type 0 where
  pub free : get_or s e.number None ≡ None
  pub new : bears s e.name ≡ false

pub inside : (n limit : ℕ) → outside n limit ≡ false → (1 ≤ n) × (n ≤ limit)
inside n limit h =
    let p = or_parts (eqb n 0) (ltb limit n) h in
    (let q : n ≡ 0 → ⊥ = eqb-false n 0 p.0 in omega arith, ltb-false limit n p.1)

pub from_inside : (n limit : ℕ) → 1 ≤ n → n ≤ limit → outside n limit ≡ false
from_inside n limit a b =
    let q : n ≡ 0 → ⊥ = λ z. omega arith in
    or_from (eqb n 0) (ltb limit n) (ne_eqb n 0 q) (le-ltb limit n b)

pub cpus_inside : (cpus : ℕ) → cpus_refusal cpus ≡ None → (1 ≤ cpus) × (cpus ≤ 8)
cpus_inside cpus h = inside cpus 8 (cond_none (outside cpus 8) CpusOutOfRange None h).0

-- an entry that a table does not refuse is in bounds, and its number and name are free
pub bounds_from : (s : List (Option Entry)) (e : Entry) → length e.name ≡ 8 → e.rank ≤ 255 → entry_refusal s e ≡ None → InBounds e × Clear s e
bounds_from s e l r h =
    let number = cond_none _ _ _ h in
    let taken = cond_none _ _ _ number.1 in
    let named = cond_none _ _ _ taken.1 in
    let bears = cond_none _ _ _ named.1 in
    let period = cond_none _ _ _ bears.1 in
    let deadline = cond_none _ _ _ period.1 in
    let runtime = cond_none _ _ _ deadline.1 in
    let offset = cond_none _ _ _ runtime.1 in
    let runs = inside e.runtime e.deadline runtime.0 in (
      record {
        number = ltb-false 31 e.number number.0;
        eight = l;
        named = not-false (is_name e.name) named.0;
        rank = r;
        offset = ltb-false 1000000 e.offset offset.0;
        runs = runs.0;
        runtime = runs.1;
        deadline = (inside e.deadline e.period deadline.0).1;
        period = (inside e.period 60000 period.0).1;
      },
      record { free = none_of (get_or s e.number None) taken.0; new = bears.0 },
    )

-- .. and a table refuses no such entry
pub unrefused : (s : List (Option Entry)) (e : Entry) → InBounds e → Clear s e → entry_refusal s e ≡ None
unrefused s e w k =
    rw (
      le-ltb 31 e.number w.number,
      k.free,
      w.named,
      k.new,
      from_inside e.period 60000 (omega (arith, w.runs, w.runtime, w.deadline)) w.period,
      from_inside e.deadline e.period (omega (arith, w.runs, w.runtime)) w.deadline,
      from_inside e.runtime e.deadline w.runs w.runtime,
      le-ltb 1000000 e.offset w.offset,
    )

pub bears_has : (ss : List (Option Entry)) (i : ℕ) (t : Entry) (name : List ℕ) → get_or ss i None ≡ Some t → t.name ≡ name → bears ss name ≡ true
bears_has [] i t name e f = never (Some t) refl (sym e)
bears_has (None ∷ ss) zero t name e f = never (Some t) refl (sym e)
bears_has (Some u ∷ ss) zero t name e f =
    let g : u ≡ t = cc in
    or_left (bytes_eq u.name name) (bears ss name) (same u.name name (ap (λ z. z.name) g ∙ f))
bears_has (None ∷ ss) (suc i) t name e f = bears_has ss i t name e f
bears_has (Some u ∷ ss) (suc i) t name e f = or_right (bytes_eq u.name name) (bears ss name) (bears_has ss i t name e f)

bears_set : (ss : List (Option Entry)) (i : ℕ) (t : Entry) (name : List ℕ) → bears ss name ≡ false → bytes_eq t.name name ≡ false → bears (set ss i (Some t)) name ≡ false
bears_set [] i t name h f = refl
bears_set (None ∷ ss) zero t name h f = or_from (bytes_eq t.name name) (bears ss name) f h
bears_set (Some u ∷ ss) zero t name h f = or_from (bytes_eq t.name name) (bears ss name) f (or_parts (bytes_eq u.name name) (bears ss name) h).1
bears_set (None ∷ ss) (suc i) t name h f = bears_set ss i t name h f
bears_set (Some u ∷ ss) (suc i) t name h f =
    let p = or_parts (bytes_eq u.name name) (bears ss name) h in
    or_from (bytes_eq u.name name) (bears (set ss i (Some t)) name) p.0 (bears_set ss i t name p.1 f)

-- one more entry leaves the number and the name of another free
pub clear_more : (s : List (Option Entry)) (x e : Entry) → (e.number ≡ x.number → ⊥) → (e.name ≡ x.name → ⊥) → Clear s e → Clear (with_entry s x) e
clear_more s x e a b k = record {
  free = let o : e.number ≢ x.number = a in get_or-set_other s x.number e.number (Some x) None o ∙ k.free;
  new = bears_set s x.number x e.name k.new (differ x.name e.name (λ z. b (sym z)));
}

pub filled_other : (es : List Entry) (s : List (Option Entry)) (e : Entry) → Apart e es → get_or (filled s es) e.number None ≡ get_or s e.number None
filled_other [] s e a = refl
filled_other (x ∷ xs) s e a =
    let o : e.number ≢ x.number = a.0 in
    filled_other xs (with_entry s x) e a.2 ∙ get_or-set_other s x.number e.number (Some x) None o

apart_from_clear : (es : List Entry) (s : List (Option Entry)) (e : Entry) → length s ≡ 32 → Obey es → Clear (filled s es) e → Apart e es
apart_from_clear [] s e l o k = tt
apart_from_clear (x ∷ xs) s e l o k =
    let n : x.number ≤ 31 = o.0.number in
    let i : x.number < length s = omega arith in
    let f : get_or (filled (with_entry s x) xs) x.number None ≡ Some x =
    filled_other xs (with_entry s x) x o.1 ∙ get_or-set_same s x.number (Some x) None i in (
      (λ q. never (get_or (filled (with_entry s x) xs) x.number None) f (ap (λ j. get_or (filled (with_entry s x) xs) j None) (sym q) ∙ k.free)),
      (λ q. both_ways (bears (filled (with_entry s x) xs) e.name) k.new (bears_has (filled (with_entry s x) xs) x.number x e.name f (sym q))),
      apart_from_clear xs (with_entry s x) e (length-set s x.number (Some x) ∙ l) o.2 k,
    )

apart_push : (es : List Entry) (x e : Entry) → Apart x es → (x.number ≡ e.number → ⊥) → (x.name ≡ e.name → ⊥) → Apart x (es ++ e ∷ [])
apart_push [] x e a p q = (p, q, tt)
apart_push (y ∷ ys) x e a p q = (a.0, a.1, apart_push ys x e a.2 p q)

obey_push : (es : List Entry) (e : Entry) → Obey es → InBounds e → Apart e es → Obey (es ++ e ∷ [])
obey_push [] e o w a = (w, tt, tt)
obey_push (x ∷ xs) e o w a =
    (o.0, apart_push xs x e o.1 (λ z. a.0 (sym z)) (λ z. a.1 (sym z)), obey_push xs e o.2 w a.2)

pub filled_push : (es : List Entry) (s : List (Option Entry)) (e : Entry) → filled s (es ++ e ∷ []) ≡ with_entry (filled s es) e
filled_push [] s e = refl
filled_push (x ∷ xs) s e = filled_push xs (with_entry s x) e

-- an entry that the table does not refuse joins those that obey
pub obey_more : (es : List Entry) (e : Entry) → Obey es → length e.name ≡ 8 → e.rank ≤ 255 → entry_refusal (table_of es) e ≡ None → Obey (es ++ e ∷ [])
obey_more es e o l r h =
    let p = bounds_from (table_of es) e l r h in
    obey_push es e o p.0 (apart_from_clear es no_tasks e refl o p.1)

clear_none : (e : Entry) → e.number ≤ 31 → Clear no_tasks e
clear_none e h = record { free = get_or-replicate 32 e.number None None (omega arith); new = refl }

-- each entry is taken by the table that those before it make
abbrev pub Taken : List (Option Entry) → List Entry → Type 0
Taken s [] = Unit {0}
Taken s (e ∷ es) = InBounds e × (entry_refusal s e ≡ None) × Taken (with_entry s e) es

abbrev AllClear : List (Option Entry) → List Entry → Type 0
AllClear s [] = Unit {0}
AllClear s (e ∷ es) = Clear s e × AllClear s es

all_more : (es : List Entry) (s : List (Option Entry)) (x : Entry) → Apart x es → AllClear s es → AllClear (with_entry s x) es
all_more [] s x a k = tt
all_more (e ∷ es) s x a k = (clear_more s x e (λ z. a.0 (sym z)) (λ z. a.1 (sym z)) k.0, all_more es s x a.2 k.1)

taken_from : (es : List Entry) (s : List (Option Entry)) → Obey es → AllClear s es → Taken s es
taken_from [] s o k = tt
taken_from (e ∷ es) s o k = (o.0, unrefused s e o.0 k.0, taken_from es (with_entry s e) o.2 (all_more es s e o.1 k.1))

all_none : (es : List Entry) → Obey es → AllClear no_tasks es
all_none [] o = tt
all_none (e ∷ es) o = (clear_none e o.0.number, all_none es o.2)

pub taken : (es : List Entry) → Obey es → Taken no_tasks es
taken es o = taken_from es no_tasks o (all_none es o)

-- how many places have tasks
abbrev count : List (Option Entry) → ℕ
count [] = 0
count (None ∷ ss) = count ss
count (Some e ∷ ss) = suc (count ss)

count_within : (ss : List (Option Entry)) → count ss ≤ length ss
count_within [] = omega arith
count_within (None ∷ ss) = let h = count_within ss in omega arith
count_within (Some e ∷ ss) = let h = count_within ss in omega arith

count_set : (ss : List (Option Entry)) (i : ℕ) (e : Entry) → i < length ss → get_or ss i None ≡ None → count (set ss i (Some e)) ≡ suc (count ss)
count_set [] i e l h = absurd (omega arith)
count_set (None ∷ ss) zero e l h = refl
count_set (Some u ∷ ss) zero e l h = never (Some u) refl h
count_set (None ∷ ss) (suc i) e l h = count_set ss i e (omega arith) h
count_set (Some u ∷ ss) (suc i) e l h = ap suc (count_set ss i e (omega arith) h)

count_filled : (es : List Entry) (s : List (Option Entry)) → length s ≡ 32 → Taken s es → count s + length es ≤ 32
count_filled [] s l t = let h = count_within s in omega arith
count_filled (e ∷ es) s l t =
    let p = bounds_from s e t.0.eight t.0.rank t.1 in
    let n : e.number ≤ 31 = t.0.number in
    let c : count (with_entry s e) ≡ suc (count s) = count_set s e.number e (omega arith) p.1.free in
    let h = count_filled es (with_entry s e) (length-set s e.number (Some e) ∙ l) t.2 in
    omega arith

-- entries that obey the rules are at most 32
pub at_most_32 : (es : List Entry) → Obey es → length es ≤ 32
at_most_32 es o = let h = count_filled es no_tasks refl (taken es o) in omega arith
