-- What is read of single records.
use Rattle.std.proofs.Common.{◌≡◌, ℕ, suc, ◌-◌, ◌<◌, ◌≤◌, false, List, ◌∷◌, length, get_or, drop, Option, sym, subst, arith, length-drop}
use Rattle.std.proofs.lemmas.List.{length-take-le}
use Rattle.std.proofs.lemmas.Bool.{le-ltb}
use Rattle.task.specs.declared.entry.Entry.{Entry}
use Rattle.task.specs.Rules.{entry_refusal}
use Rattle.sheet.specs.Format.{entry_in}
use Rattle.sheet.specs.Faults.{fault_at, refused_at}
use Rattle.sheet.specs.Reading.{Typed, Reads}
use Rattle.sheet.proofs.Codes.{written_again}

typed_in : (s : List ℕ) → 20 ≤ length s → ((i : ℕ) → get_or s i 0 < 256) → Typed (entry_in s)
typed_in s h f =
    let f10 = f 10 in let f11 = f 11 in let f12 = f 12 in let f13 = f 13 in let f14 = f 14 in
    let f15 = f 15 in let f16 = f 16 in let f17 = f 17 in let f18 = f 18 in let f19 = f 19 in
    let l : length (drop 1 s) ≡ length s - 1 = length-drop 1 s in
    record {
      number = f 0;
      name = length-take-le 8 (drop 1 s) (omega arith);
      rank = f 9;
      offset = omega arith;
      runtime = omega arith;
      deadline = omega arith;
      period = omega arith;
    }

pub judged_in : (s : List ℕ) (t : List (Option Entry)) (place : ℕ) → 20 ≤ length s → fault_at false t place (84 ∷ 75 ∷ s) ≡ refused_at place (entry_refusal t (entry_in s))
judged_in s t place h = rw (le-ltb (length s) 20 h)

pub reads_in : (place : ℕ) (s : List ℕ) → 20 ≤ length s → ((i : ℕ) → get_or s i 0 < 256) → Reads place (84 ∷ 75 ∷ s) (entry_in s) (drop 20 s)
reads_in place s h f = record { is = written_again s h f; typed = typed_in s h f; judged = λ t. judged_in s t place h }

pub reads_as : (place : ℕ) (bytes s : List ℕ) (e : Entry) (rest : List ℕ) → ((i : ℕ) → get_or bytes i 0 < 256) → bytes ≡ 84 ∷ 75 ∷ s → 20 ≤ length s → e ≡ entry_in s → rest ≡ drop 20 s → Reads place bytes e rest
reads_as place bytes s e rest f m h p q =
    let g : (i : ℕ) → get_or s i 0 < 256 = λ i. subst (λ (b : List ℕ). get_or b (suc (suc i)) 0 < 256) m (f (suc (suc i))) in
    subst (λ (b : List ℕ). Reads place b e rest) (sym m)
    (subst (λ (x : Entry). Reads place (84 ∷ 75 ∷ s) x rest) (sym p)
    (subst (λ (r : List ℕ). Reads place (84 ∷ 75 ∷ s) (entry_in s) r) (sym q) (reads_in place s h g)))
