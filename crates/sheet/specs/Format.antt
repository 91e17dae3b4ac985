-- The bytes of a sheet: how records are written, and what they say.
use Rattle.std.specs.Prelude.{◌≡◌, ℕ, ◌+◌, ◌*◌, ◌/◌, ◌%◌, ◌≤◌, List, [], ◌∷◌, ◌++◌, take, drop, slice_index}
use Rattle.std.specs.List.{flat_map}
use Rattle.task.specs.declared.entry.Entry.{Entry}
use Rattle.task.specs.Tables.{Obey}

-- the two bytes of a number, the high byte first
abbrev pub be16 : ℕ → List ℕ
be16 n = (n / 256) ∷ (n % 256) ∷ []

-- the four bytes of a number, the high byte first
abbrev pub be32 : ℕ → List ℕ
be32 n = (n / 16777216) ∷ (n / 65536 % 256) ∷ (n / 256 % 256) ∷ (n % 256) ∷ []

-- the marks of the records
pub data Mark : Type 0 where
  Cp : Mark
  Tk : Mark
  En : Mark

-- the bytes of the marks: the letters CP, TK and EN
abbrev pub mark_bytes : Mark → List ℕ
mark_bytes Cp = 67 ∷ 80 ∷ []
mark_bytes Tk = 84 ∷ 75 ∷ []
mark_bytes En = 69 ∷ 78 ∷ []

-- the first record: the mark and the number of CPUs
abbrev pub cp : ℕ → List ℕ
cp cpus = mark_bytes Cp ++ cpus ∷ []

-- the figures of a record TK after its name
abbrev pub fields : Entry → List ℕ
fields e = e.rank ∷ (be32 e.offset ++ (be16 e.runtime ++ (be16 e.deadline ++ be16 e.period)))

-- the record of an entry: the mark, the number, the name and the other figures
abbrev pub tk : Entry → List ℕ
tk e = mark_bytes Tk ++ e.number ∷ (e.name ++ fields e)

-- the last record: the mark alone
abbrev pub en : List ℕ
en = mark_bytes En

-- a sheet up to some record: the record CP, and the records of some entries, one after another
abbrev pub front : ℕ → List Entry → List ℕ
front cpus es = cp cpus ++ flat_map tk es

-- the bytes are a sheet: one record CP with 1 to 8 CPUs, the records TK of entries that obey the task rules, and one record EN
pub record SheetOf (cpus : ℕ) (es : List Entry) (bytes : List ℕ) : Type 0 where
  pub some : 1 ≤ cpus
  pub few : cpus ≤ 8
  pub obey : Obey es
  pub is : bytes ≡ front cpus es ++ en

-- the number that two bytes from a place on are
abbrev pub at16 : List ℕ → ℕ → ℕ
at16 bs i = slice_index bs i * 256 + slice_index bs (i + 1)

-- the number that four bytes from a place on are
abbrev pub at32 : List ℕ → ℕ → ℕ
at32 bs i = slice_index bs i * 16777216 + (slice_index bs (i + 1) * 65536 + (slice_index bs (i + 2) * 256 + slice_index bs (i + 3)))

-- the entry that the bytes after a mark TK tell
abbrev pub entry_in : List ℕ → Entry
entry_in bs = record {
  number = slice_index bs 0;
  name = take 8 (drop 1 bs);
  rank = slice_index bs 9;
  offset = at32 bs 10;
  runtime = at16 bs 14;
  deadline = at16 bs 16;
  period = at16 bs 18;
}
