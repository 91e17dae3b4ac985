-- The tables that obey the rules, and what a table of tasks says: the entries of its tasks, place by place.
use Rattle.std.specs.Prelude.{◌≡◌, ℕ, ◌≤◌, true, ◌⊎◌, List, [], ◌∷◌, map, length, Some, None, Ok, Err, Option, Result, ◌≢◌, slice_index_or}
use Rattle.task.specs.declared.entry.Entry.{Entry}
use Rattle.task.specs.declared.task.Task.{Task}
use Rattle.task.specs.declared.refusal.Refusal.{Refusal}
use Rattle.task.specs.Names.{is_name}
use Rattle.task.specs.Rules.{entry_refusal, withdraw_refusal, no_tasks, with_entry, without_entry}

-- the entry of the task in a place
abbrev pub entry_of : Option Task → Option Entry
entry_of None = None
entry_of (Some t) = Some t.figures

-- the entry of task i
abbrev pub entry_at : List (Option Task) → ℕ → Option Entry
entry_at tasks i = entry_of (slice_index_or tasks i None)

-- the entries of all tasks
abbrev pub entries : List (Option Task) → List (Option Entry)
entries tasks = map entry_of tasks

-- the bounds of an entry by itself
pub record InBounds (e : Entry) : Type 0 where
  pub number : e.number ≤ 31
  pub eight : length e.name ≡ 8
  pub named : is_name e.name ≡ true
  pub rank : e.rank ≤ 255
  pub offset : e.offset ≤ 1000000
  pub runs : 1 ≤ e.runtime
  pub runtime : e.runtime ≤ e.deadline
  pub deadline : e.deadline ≤ e.period
  pub period : e.period ≤ 60000

-- an entry shares neither its number nor its name with any of these
abbrev pub Apart : Entry → List Entry → Type 0
Apart e [] = Unit {0}
Apart e (x ∷ xs) = (e.number ≢ x.number) × (e.name ≢ x.name) × Apart e xs

-- the task rules, of a list of entries: each is in bounds, and no two share a number or a name
abbrev pub Obey : List Entry → Type 0
Obey [] = Unit {0}
Obey (e ∷ es) = InBounds e × Apart e es × Obey es

-- a table has each task in the place of its number ..
abbrev pub Numbered : List (Option Entry) → Type 0
Numbered places = (i : ℕ) (e : Entry) → slice_index_or places i None ≡ Some e → e.number ≡ i

-- two places have tasks, and of one name
abbrev pub SameName : Option Entry → Option Entry → Type 0
SameName None o = ⊥
SameName (Some a) None = ⊥
SameName (Some a) (Some b) = a.name ≡ b.name

-- .. and no two tasks of one name
abbrev pub Distinct : List (Option Entry) → Type 0
Distinct places = (i j : ℕ) → SameName (slice_index_or places i None) (slice_index_or places j None) → i ≡ j

-- a table with these entries put into it, each in its place
abbrev pub filled : List (Option Entry) → List Entry → List (Option Entry)
filled places [] = places
filled places (e ∷ es) = filled (with_entry places e) es

-- the table of just these entries
abbrev pub table_of : List Entry → List (Option Entry)
table_of es = filled no_tasks es

-- one of these entries
abbrev pub In : Entry → List Entry → Type 0
In e [] = ⊥
In e (x ∷ xs) = (e ≡ x) ⊎ In e xs

-- what admitting an entry to a table answers: the task of the entry, or the refusal
abbrev pub Admits : List (Option Entry) → Entry → Result Task Refusal → Type 0
Admits places e (Ok t) = (entry_refusal places e ≡ None) × (t.figures ≡ e)
Admits places e (Err r) = entry_refusal places e ≡ Some r

-- what entering does to a table, by its answer
abbrev pub Enters : {U : Type 0} → List (Option Entry) → Entry → List (Option Entry) → Result U Refusal → Type 0
Enters before e after (Ok _) = (entry_refusal before e ≡ None) × (after ≡ with_entry before e)
Enters before e after (Err r) = (entry_refusal before e ≡ Some r) × (after ≡ before)

-- what withdrawing the task of this number does to a table, by its answer
abbrev pub Withdraws : {U : Type 0} → List (Option Entry) → ℕ → List (Option Entry) → Result U Refusal → Type 0
Withdraws before n after (Ok _) = (withdraw_refusal before n ≡ None) × (after ≡ without_entry before n)
Withdraws before n after (Err r) = (withdraw_refusal before n ≡ Some r) × (after ≡ before)
