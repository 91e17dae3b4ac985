-- What is wrong with a record, and where.
use Rattle.std.specs.Prelude.{ℕ, ◌+◌, Bool, false, cond, not, ◌&&◌, List, [], ◌∷◌, ◌++◌, length, codes, decimal, Some, None, Option, ◌==◌, nat_lt, slice_index}
use Rattle.task.specs.declared.entry.Entry.{Entry}
use Rattle.task.specs.declared.refusal.Refusal.{Refusal}
use Rattle.task.specs.Refusals.{number_of}
use Rattle.task.specs.Rules.{cpus_refusal, entry_refusal}
use Rattle.sheet.specs.declared.fault.SheetFault.{SheetFault}
use Rattle.sheet.specs.declared.fault.SheetFault.TheVariants.{NoMark, UnknownMark, OutOfOrder, CutShort, Trailing}
use Rattle.sheet.specs.declared.fault.LoadFault.{LoadFault}
use Rattle.sheet.specs.declared.fault.LoadFault.TheVariants.{Sheet, Refused}
use Rattle.sheet.specs.Format.{Mark, Cp, Tk, En, entry_in}

-- the number of each fault of the form
abbrev pub sheet_number_of : SheetFault → ℕ
sheet_number_of NoMark = 3
sheet_number_of UnknownMark = 4
sheet_number_of OutOfOrder = 5
sheet_number_of CutShort = 6
sheet_number_of Trailing = 7

-- the number of a fault of either kind
abbrev pub fault_number : LoadFault → ℕ
fault_number (Sheet fault place) = sheet_number_of fault
fault_number (Refused refusal place) = number_of refusal

-- the place of a fault
abbrev pub fault_place : LoadFault → ℕ
fault_place (Sheet fault place) = place
fault_place (Refused refusal place) = place

-- how a fault is printed: S for one of the form, T for a refusal, then its number and its place
abbrev pub fault_text : LoadFault → List ℕ
fault_text (Sheet fault place) = ((codes "S " ++ decimal (sheet_number_of fault)) ++ codes " ") ++ decimal place
fault_text (Refused refusal place) = ((codes "T " ++ decimal (number_of refusal)) ++ codes " ") ++ decimal place

-- the mark that two bytes are
abbrev pub mark_of : ℕ → ℕ → Option Mark
mark_of a b = cond (a == 67 && b == 80) (Some Cp) (cond (a == 84 && b == 75) (Some Tk) (cond (a == 69 && b == 78) (Some En) None))

-- whether a record may stand here: CP is the first, and no other is
abbrev pub in_order : Bool → Mark → Bool
in_order first Cp = first
in_order first Tk = not first
in_order first En = not first

-- how many bytes a record has after its mark
abbrev pub body_size : Mark → ℕ
body_size Cp = 1
body_size Tk = 20
body_size En = 0

-- whether bytes follow the last record
abbrev pub trails : Mark → List ℕ → Bool
trails Cp body = false
trails Tk body = false
trails En body = nat_lt 0 (length body)

-- why what the record says is refused, given the table that the records before it made
abbrev pub refused : Mark → List (Option Entry) → List ℕ → Option Refusal
refused Cp t body = cpus_refusal (slice_index body 0)
refused Tk t body = entry_refusal t (entry_in body)
refused En t body = None

-- a refusal, if there is one, beside a place
abbrev pub refused_at : ℕ → Option Refusal → Option LoadFault
refused_at place None = None
refused_at place (Some x) = Some (Refused x place)

-- the fault of a record with this mark, if it has one, in the order of the checks
abbrev pub marked_fault : Bool → List (Option Entry) → ℕ → Option Mark → List ℕ → Option LoadFault
marked_fault first t place None body = Some (Sheet UnknownMark place)
marked_fault first t place (Some m) body =
    cond (not (in_order first m)) (Some (Sheet OutOfOrder place))
    (cond (nat_lt (length body) (body_size m)) (Some (Sheet CutShort place))
    (cond (trails m body) (Some (Sheet Trailing (place + 2)))
    (refused_at place (refused m t body))))

-- the fault of the record that is due at the place, if it has one, where the bytes are what is left of the sheet
abbrev pub fault_at : Bool → List (Option Entry) → ℕ → List ℕ → Option LoadFault
fault_at first t place [] = Some (Sheet NoMark place)
fault_at first t place (a ∷ []) = Some (Sheet NoMark place)
fault_at first t place (a ∷ b ∷ body) = marked_fault first t place (mark_of a b) body
