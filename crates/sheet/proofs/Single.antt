-- Any bytes have one answer, and a sheet decodes to what it tells.
use Rattle.std.proofs.Common.{◌≡◌, ℕ, ◌≤◌, true, false, List, [], ◌∷◌, ◌++◌, length, get_or, drop, Some, None, Ok, Err, Option, sym, refl, ap, ◌∙◌, subst, inl, inr, append_assoc, arith}
use Rattle.std.specs.List.{flat_map}
use Rattle.std.proofs.lemmas.Bool.{le-ltb}
use Rattle.task.specs.declared.entry.Entry.{Entry}
use Rattle.task.specs.Rules.{entry_refusal, with_entry, no_tasks}
use Rattle.task.specs.Tables.{InBounds, Obey, filled, table_of}
use Rattle.task.specs.Theorems.{HoldsJust}
use Rattle.task.proofs.Obeying.{never, from_inside, Taken, taken}
use Rattle.task.proofs.Holding.{holds_just_these}
use Rattle.sheet.specs.declared.fault.LoadFault.{LoadFault}
use Rattle.sheet.specs.Format.{cp, tk, en, front, SheetOf}
use Rattle.sheet.specs.Faults.{fault_at, refused_at}
use Rattle.sheet.specs.Decoding.{Tells, Breaks, Decodes}
use Rattle.sheet.specs.Theorems.{OneAnswer, DecodesExactly}
use Rattle.sheet.proofs.Codes.{body, read_again, same_entry}
use Rattle.sheet.proofs.Records.{judged_in}

-- no record TK that the table takes begins here
abbrev Halts : List (Option Entry) → List ℕ → Type 0
Halts t u = (e : Entry) (x : List ℕ) → InBounds e → entry_refusal t e ≡ None → u ≡ tk e ++ x → ⊥

halts_fault : (t : List (Option Entry)) (p : ℕ) (u : List ℕ) (f : LoadFault) → fault_at false t p u ≡ Some f → Halts t u
halts_fault t p u f h e x w n q =
    let b = read_again e x w.eight in
    let k : fault_at false t p u ≡ None = ap (fault_at false t p) q ∙ (judged_in (body e x) t p b.long ∙ (ap (λ z. refused_at p (entry_refusal t z)) b.entry ∙ ap (refused_at p) n)) in
    never (fault_at false t p u) h k

halts_en : (t : List (Option Entry)) → Halts t en
halts_en t e x w n q = let z : ◌≡◌ {A = ℕ} 69 84 = ap (λ (l : List ℕ). get_or l 0 0) q in omega arith

-- two ways to read records that end the same bytes are one
walk : (es fs : List Entry) (s : List (Option Entry)) (u v : List ℕ) → Taken s es → Taken s fs → Halts (filled s es) u → Halts (filled s fs) v → flat_map tk es ++ u ≡ flat_map tk fs ++ v → (es ≡ fs) × (u ≡ v)
walk [] [] s u v a b h k e = (refl, e)
walk [] (y ∷ ys) s u v a b h k e = absurd (h y (flat_map tk ys ++ v) b.0 b.1 (e ∙ append_assoc (tk y) (flat_map tk ys) v))
walk (x ∷ xs) [] s u v a b h k e = absurd (k x (flat_map tk xs ++ u) a.0 a.1 (sym e ∙ append_assoc (tk x) (flat_map tk xs) u))
walk (x ∷ xs) (y ∷ ys) s u v a b h k e =
    let p = same_entry x y (flat_map tk xs ++ u) (flat_map tk ys ++ v) a.0.eight b.0.eight (sym (append_assoc (tk x) (flat_map tk xs) u) ∙ (e ∙ append_assoc (tk y) (flat_map tk ys) v)) in
    let r = walk xs ys (with_entry s x) u v a.2 (subst (λ (z : Entry). Taken (with_entry s z) ys) (sym p.0) b.2) h (subst (λ (z : Entry). Halts (filled (with_entry s z) ys) v) (sym p.0) k) p.1 in
    (ap (λ z. z ∷ xs) p.0 ∙ ap (λ z. y ∷ z) r.0, r.1)

good_opening : (cpus : ℕ) (rest : List ℕ) → 1 ≤ cpus → cpus ≤ 8 → fault_at true no_tasks 0 (cp cpus ++ rest) ≡ None
good_opening cpus rest a b = let l : 1 ≤ length (cpus ∷ rest) = omega arith in rw (le-ltb (length (cpus ∷ rest)) 1 l, from_inside cpus 8 a b)

-- how bytes begin, up to where the reading halts
record Begins (bytes : List ℕ) : Type 0 where
  cpus : ℕ
  told : List Entry
  rest : List ℕ
  some : 1 ≤ cpus
  few : cpus ≤ 8
  obey : Obey told
  read : bytes ≡ front cpus told ++ rest
  halts : Halts (table_of told) rest

one_way : (bytes : List ℕ) (a b : Begins bytes) → (a.cpus ≡ b.cpus) × (a.told ≡ b.told) × (a.rest ≡ b.rest)
one_way bytes a b =
    let e = sym a.read ∙ b.read in
    let w = walk a.told b.told no_tasks a.rest b.rest (taken a.told a.obey) (taken b.told b.obey) a.halts b.halts (ap (drop 3) e) in
    (ap (λ (l : List ℕ). get_or l 2 0) e, w.0, w.1)

abbrev from_tells : (bytes : List ℕ) (cpus : ℕ) (t : List (Option Entry)) → Tells bytes cpus t → Begins bytes
from_tells bytes cpus t l = record {
  cpus = cpus;
  told = l.told;
  rest = en;
  some = l.sheet.some;
  few = l.sheet.few;
  obey = l.sheet.obey;
  read = l.sheet.is;
  halts = halts_en (table_of l.told);
}

abbrev from_breaks : (bytes : List ℕ) (f : LoadFault) → Breaks bytes f → Begins bytes
from_breaks bytes f k = record {
  cpus = k.cpus;
  told = k.told;
  rest = k.rest;
  some = k.some;
  few = k.few;
  obey = k.obey;
  read = k.read;
  halts = halts_fault (table_of k.told) (length (front k.cpus k.told)) k.rest f k.fault;
}

not_first : {A : Type 0} (bytes : List ℕ) (f : LoadFault) → Begins bytes → fault_at true no_tasks 0 bytes ≡ Some f → A
not_first bytes f b h = never (fault_at true no_tasks 0 bytes) h (ap (fault_at true no_tasks 0) b.read ∙ good_opening b.cpus (flat_map tk b.told ++ b.rest) b.some b.few)

-- bytes tell one table ..
pub both_tell : (bytes : List ℕ) (c d : ℕ) (t s : List (Option Entry)) → Tells bytes c t → Tells bytes d s → (c ≡ d) × (t ≡ s)
both_tell bytes c d t s a b =
    let w = one_way bytes (from_tells bytes c t a) (from_tells bytes d s b) in
    (w.0, a.holds ∙ (ap table_of w.1 ∙ sym b.holds))

tells_breaks : {A : Type 0} (bytes : List ℕ) (c : ℕ) (t : List (Option Entry)) (f : LoadFault) → Tells bytes c t → Breaks bytes f → A
tells_breaks bytes c t f a b =
    let w = one_way bytes (from_tells bytes c t a) (from_breaks bytes f b) in
    let T = table_of b.told in
    let p = length (front b.cpus b.told) in
    never (fault_at false T p b.rest) b.fault (ap (fault_at false T p) (sym w.2))

both_break : (bytes : List ℕ) (f g : LoadFault) → Breaks bytes f → Breaks bytes g → f ≡ g
both_break bytes f g a b =
    let w = one_way bytes (from_breaks bytes f a) (from_breaks bytes g b) in
    let F : ℕ → List Entry → List ℕ → Option LoadFault = λ c es r. fault_at false (table_of es) (length (front c es)) r in
    let e : Some f ≡ Some g = sym a.fault ∙ (ap (λ c. F c a.told a.rest) w.0 ∙ (ap (λ es. F b.cpus es a.rest) w.1 ∙ (ap (F b.cpus b.told) w.2 ∙ b.fault))) in
    cc

-- .. and not a table and a fault
pub tells_or_faulty : {A : Type 0} (bytes : List ℕ) (c : ℕ) (t : List (Option Entry)) (f : LoadFault) → Tells bytes c t → Decodes bytes (Err f) → A
tells_or_faulty bytes c t f a (inl k) = not_first bytes f (from_tells bytes c t a) k
tells_or_faulty bytes c t f a (inr k) = tells_breaks bytes c t f a k

pub one_answer : OneAnswer
one_answer bytes (Ok q) (Ok r) a b =
    let w = both_tell bytes q.0 r.0 q.1 r.1 a b in
    ap (λ z. Ok (z, q.1)) w.0 ∙ ap (λ z. Ok (r.0, z)) w.1
one_answer bytes (Ok q) (Err g) a b = tells_or_faulty bytes q.0 q.1 g a b
one_answer bytes (Err f) (Ok r) a b = tells_or_faulty bytes r.0 r.1 f b a
one_answer bytes (Err f) (Err g) (inl h) (inl k) = let e : Some f ≡ Some g = sym h ∙ k in cc
one_answer bytes (Err f) (Err g) (inl h) (inr k) = not_first bytes f (from_breaks bytes g k) h
one_answer bytes (Err f) (Err g) (inr h) (inl k) = not_first bytes g (from_breaks bytes f h) k
one_answer bytes (Err f) (Err g) (inr h) (inr k) = ap Err (both_break bytes f g h k)

-- a sheet decodes to its CPUs and the table of its entries
pub sheet_decodes : (bytes : List ℕ) (cpus : ℕ) (es : List Entry) → SheetOf cpus es bytes → Decodes bytes (Ok (cpus, table_of es))
sheet_decodes bytes cpus es s = record { told = es; sheet = s; holds = refl }

holds_at : (es : List Entry) (places : List (Option Entry)) → Obey es → places ≡ table_of es → HoldsJust es places
holds_at es places o q = subst (HoldsJust es) (sym q) (holds_just_these es o)

pub decodes_exactly : DecodesExactly
decodes_exactly bytes cpus = (
  λ places l. (l.told, l.sheet, holds_at l.told places l.sheet.obey l.holds),
  λ es a s. (λ d. one_answer bytes a (Ok (cpus, table_of es)) d (sheet_decodes bytes cpus es s), λ q. subst (Decodes bytes) (sym q) (sheet_decodes bytes cpus es s)),
)
