-- The first 4,096 bytes have the same answer as all.
use Rattle.std.proofs.Common.{◌≡◌, ℕ, ◌+◌, ◌-◌, ◌≤◌, Bool, true, false, cond, not, List, [], ◌∷◌, ◌++◌, length, get_or, take, drop, Some, None, Ok, Err, Option, sym, refl, ap, ◌∙◌, subst, inl, inr, ⊎_elim, arith, length-append, take-append-drop}
use lib.Seq.{take-append-add}
use Rattle.std.proofs.lemmas.List.{length-take-le, take_all}
use Rattle.std.proofs.lemmas.Bool.{lt-ltb, le-ltb, cases_lt}
use Rattle.task.specs.declared.entry.Entry.{Entry}
use Rattle.task.specs.Rules.{entry_refusal, no_tasks}
use Rattle.task.specs.Tables.{table_of}
use Rattle.sheet.specs.declared.fault.SheetFault.TheVariants.{OutOfOrder}
use Rattle.sheet.specs.declared.fault.LoadFault.{LoadFault}
use Rattle.sheet.specs.declared.fault.LoadFault.TheVariants.{Sheet}
use Rattle.sheet.specs.Format.{Mark, Cp, Tk, En, en, front, entry_in}
use Rattle.sheet.specs.Faults.{mark_of, refused_at, marked_fault, fault_at}
use Rattle.sheet.specs.Decoding.{Tells, Breaks}
use Rattle.sheet.specs.Theorems.{PrefixSuffices}
use Rattle.sheet.proofs.Codes.{spread, front_length}

-- twenty bytes tell an entry, whatever follows
entry_more : (x y : List ℕ) → 20 ≤ length x → entry_in (x ++ y) ≡ entry_in x
entry_more x y h = subst (λ (z : List ℕ). entry_in (z ++ y) ≡ entry_in z) (sym (spread x h)) refl

first_more : (x y : List ℕ) → 1 ≤ length x → get_or (x ++ y) 0 0 ≡ get_or x 0 0
first_more [] y h = absurd (omega arith)
first_more (a ∷ x) y h = refl

-- a record's fault is decided by its mark and 21 bytes more
marked_more : (first : Bool) (t : List (Option Entry)) (p : ℕ) (m : Option Mark) (x y : List ℕ) → 21 ≤ length x → marked_fault first t p m (x ++ y) ≡ marked_fault first t p m x
marked_more first t p None x y h = refl
marked_more first t p (Some Cp) x y h =
    let l : length (x ++ y) ≡ length x + length y = length-append x y in
    rw (le-ltb (length (x ++ y)) 1 (omega arith), le-ltb (length x) 1 (omega arith), first_more x y (omega arith))
marked_more first t p (Some Tk) x y h =
    let l : length (x ++ y) ≡ length x + length y = length-append x y in
    rw (le-ltb (length (x ++ y)) 20 (omega arith), le-ltb (length x) 20 (omega arith))
    (ap (λ (e : Entry). cond (not (not first)) (Some (Sheet OutOfOrder p)) (refused_at p (entry_refusal t e))) (entry_more x y (omega arith)))
marked_more first t p (Some En) x y h =
    let l : length (x ++ y) ≡ length x + length y = length-append x y in
    rw (lt-ltb 0 (length (x ++ y)) (omega arith), lt-ltb 0 (length x) (omega arith), le-ltb (length (x ++ y)) 0 (omega arith), le-ltb (length x) 0 (omega arith))

fault_more : (first : Bool) (t : List (Option Entry)) (p : ℕ) (x y : List ℕ) → 23 ≤ length x → fault_at first t p (x ++ y) ≡ fault_at first t p x
fault_more first t p [] y h = absurd (omega arith)
fault_more first t p (a ∷ []) y h = absurd (omega arith)
fault_more first t p (a ∷ b ∷ x) y h = marked_more first t p (mark_of a b) x y (omega arith)

-- 23 bytes decide the fault of a record
fault_cut : (first : Bool) (t : List (Option Entry)) (p n : ℕ) (x : List ℕ) → 23 ≤ n → fault_at first t p (take n x) ≡ fault_at first t p x
fault_cut first t p n x h = ⊎_elim
    (λ l. let k : length (take n x) ≡ n = length-take-le n x (omega arith) in
    sym (ap (fault_at first t p) (sym (take-append-drop n x)) ∙ fault_more first t p (take n x) (drop n x) (omega arith)))
    (λ l. ap (fault_at first t p) (take_all n x l))
    (cases_lt n (length x))

tells_cut : (bytes : List ℕ) (cpus : ℕ) (places : List (Option Entry)) → Tells bytes cpus places → Tells (take 4096 bytes) cpus places
tells_cut bytes cpus places l =
    let a : length bytes ≡ length (front cpus l.told) + 2 = ap length l.sheet.is ∙ length-append (front cpus l.told) en in
    let b = front_length cpus l.told l.sheet.obey in
    subst (λ (z : List ℕ). Tells z cpus places) (sym (take_all 4096 bytes (omega arith))) l

breaks_cut : (bytes : List ℕ) (f : LoadFault) → Breaks bytes f → Breaks (take 4096 bytes) f
breaks_cut bytes f k =
    let w = front k.cpus k.told in
    let b : length w ≤ 707 = front_length k.cpus k.told k.obey in
    let n : ℕ = 4096 - length w in
    let c : 4096 ≡ length w + n = omega arith in
    record {
      cpus = k.cpus;
      told = k.told;
      rest = take n k.rest;
      some = k.some;
      few = k.few;
      obey = k.obey;
      read = ap (take 4096) k.read ∙ (ap (λ m. take m (w ++ k.rest)) c ∙ take-append-add w k.rest n);
      fault = fault_cut false (table_of k.told) (length w) n k.rest (omega arith) ∙ k.fault;
    }

pub prefix_suffices : PrefixSuffices
prefix_suffices bytes (Ok q) l = tells_cut bytes q.0 q.1 l
prefix_suffices bytes (Err f) (inl h) = inl (fault_cut true no_tasks 0 4096 bytes (omega arith) ∙ h)
prefix_suffices bytes (Err f) (inr k) = inr (breaks_cut bytes f k)
