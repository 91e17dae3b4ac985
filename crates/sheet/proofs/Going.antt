-- How a decoding goes on from record to record, and why it stops.
use Rattle.std.proofs.Common.{◌≡◌, ℕ, ◌+◌, ◌-◌, ◌≤◌, false, List, [], ◌∷◌, ◌++◌, length, Some, None, Ok, Err, Option, Result, sym, ap, ◌∙◌, subst, append_assoc, arith, length-append, Bor}
use Rattle.std.proofs.lemmas.List.{flat_map_more}
use Rattle.task.specs.declared.entry.Entry.{Entry}
use Rattle.task.specs.declared.refusal.Refusal.{Refusal}
use Rattle.task.specs.Rules.{cpus_refusal, entry_refusal, with_entry, no_tasks}
use Rattle.task.specs.Tables.{Obey, table_of, Enters}
use Rattle.task.proofs.Obeying.{cpus_inside, obey_more, filled_push}
use Rattle.sheet.specs.declared.fault.LoadFault.{LoadFault}
use Rattle.sheet.specs.declared.fault.LoadFault.TheVariants.{Refused}
use Rattle.sheet.specs.Format.{cp, tk, front}
use Rattle.sheet.specs.Faults.{fault_at, refused_at}
use Rattle.sheet.specs.Reading.{Reads, Next}
use Rattle.sheet.specs.Decoding.{Breaks}

pub place_is : (s f rest : List ℕ) → s ≡ f ++ rest → (length rest ≤ length s) × (length s - length rest ≡ length f)
place_is s f rest e =
    let l : length s ≡ length f + length rest = ap length e ∙ length-append f rest in
    (omega arith, omega arith)

pub breaks : (s rest : List ℕ) (cpus : ℕ) (es : List Entry) (f : LoadFault) → cpus_refusal cpus ≡ None → Obey es → s ≡ front cpus es ++ rest
    → fault_at false (table_of es) (length s - length rest) rest ≡ Some f → Breaks s f
breaks s rest cpus es f h o e w =
    let c = cpus_inside cpus h in
    record {
      cpus = cpus;
      told = es;
      rest = rest;
      some = c.0;
      few = c.1;
      obey = o;
      read = e;
      fault = subst (λ (p : ℕ). fault_at false (table_of es) p rest ≡ Some f) (place_is s (front cpus es) rest e).1 w;
    }

-- the table refused the entry
pub entry_refused : {U : Type 0} (t t' : List (Option Entry)) (e : Entry) (place : ℕ) (bytes rest : List ℕ) (r : Result U Refusal) (x : Refusal)
    → Enters t e t' r → r ≡ Err x → Reads place bytes e rest → fault_at false t place bytes ≡ Some (Refused x place)
entry_refused t t' e place bytes rest (Ok v) x a h w = absurd (cc)
entry_refused t t' e place bytes rest (Err y) x a h w =
    let f : y ≡ x = cc in
    w.judged t ∙ ap (refused_at place) (a.0 ∙ ap Some f)

-- the table took it
pub entry_taken : {U : Type 0} (t t' : List (Option Entry)) (e : Entry) (r : Result U Refusal) (v : U)
    → Enters t e t' r → r ≡ Ok v → (entry_refusal t e ≡ None) × (t' ≡ with_entry t e)
entry_taken t t' e (Ok w) v a h = a
entry_taken t t' e (Err x) v a h = absurd (cc)

pub front_more : (cpus : ℕ) (es : List Entry) (e : Entry) (rest : List ℕ) → front cpus es ++ (tk e ++ rest) ≡ front cpus (es ++ e ∷ []) ++ rest
front_more cpus es e rest = sym (append_assoc (front cpus es) (tk e) rest) ∙ ap (λ v. v ++ rest) (flat_map_more tk (cp cpus) es e)

-- what a decoding has come to, one record on
pub went_on : (s bytes rest : List ℕ) (cpus place : ℕ) (es : List Entry) (e : Entry) (t t' : List (Option Entry)) → Obey es → s ≡ front cpus es ++ bytes → t ≡ table_of es → Reads place bytes e rest
    → entry_refusal t e ≡ None → t' ≡ with_entry t e
    → Obey (es ++ e ∷ []) × (s ≡ front cpus (es ++ e ∷ []) ++ rest) × (t' ≡ table_of (es ++ e ∷ []))
went_on s bytes rest cpus place es e t t' o h g w n m = (
  obey_more es e o w.typed.name (let r = w.typed.rank in omega arith) (ap (λ z. entry_refusal z e) (sym g) ∙ n),
  h ∙ (ap (λ v. front cpus es ++ v) w.is ∙ front_more cpus es e rest),
  m ∙ (ap (λ z. with_entry z e) g ∙ sym (filled_push es no_tasks e)),
)

pub next_some : (place : ℕ) (bytes : List ℕ) (o : Option (Entry × Bor (List ℕ))) (q : Entry × Bor (List ℕ)) → o ≡ Some q → Next place bytes o → Reads place bytes q.0 q.1.now
next_some place bytes o q e w = subst (Next place bytes) e w
