-- A record TK and the entry that it tells.
use Rattle.std.proofs.Common.{◌≡◌, ℕ, ◌+◌, ◌*◌, ◌/◌, ◌%◌, ◌<◌, ◌≤◌, List, [], ◌∷◌, ◌++◌, length, get_or, take, drop, sym, refl, ap, ◌∙◌, subst, arith, length-append}
use Rattle.std.proofs.lemmas.List.{drop_all}
use Rattle.task.specs.declared.entry.Entry.{Entry}
use Rattle.std.specs.List.{flat_map}
use Rattle.task.specs.Tables.{Obey}
use Rattle.task.proofs.Obeying.{at_most_32}
use Rattle.sheet.specs.Format.{be16, be32, cp, fields, tk, front, entry_in}
use Rattle.sheet.proofs.Opened.{from_reads}

-- the first twenty bytes of a list, one by one
pub spread : (s : List ℕ) → 20 ≤ length s → s ≡ get_or s 0 0 ∷ get_or s 1 0 ∷ get_or s 2 0 ∷ get_or s 3 0 ∷ get_or s 4 0 ∷ get_or s 5 0 ∷ get_or s 6 0 ∷ get_or s 7 0 ∷ get_or s 8 0 ∷ get_or s 9 0 ∷ get_or s 10 0 ∷ get_or s 11 0 ∷ get_or s 12 0 ∷ get_or s 13 0 ∷ get_or s 14 0 ∷ get_or s 15 0 ∷ get_or s 16 0 ∷ get_or s 17 0 ∷ get_or s 18 0 ∷ get_or s 19 0 ∷ drop 20 s
spread s h = from_reads (get_or s 0 0 ∷ get_or s 1 0 ∷ get_or s 2 0 ∷ get_or s 3 0 ∷ get_or s 4 0 ∷ get_or s 5 0 ∷ get_or s 6 0 ∷ get_or s 7 0 ∷ get_or s 8 0 ∷ get_or s 9 0 ∷ get_or s 10 0 ∷ get_or s 11 0 ∷ get_or s 12 0 ∷ get_or s 13 0 ∷ get_or s 14 0 ∷ get_or s 15 0 ∷ get_or s 16 0 ∷ get_or s 17 0 ∷ get_or s 18 0 ∷ get_or s 19 0 ∷ []) s 0 h
    (refl, (refl, (refl, (refl, (refl, (refl, (refl, (refl, (refl, (refl, (refl, (refl, (refl, (refl, (refl, (refl, (refl, (refl, (refl, (refl, tt))))))))))))))))))))

-- the first eight, of eight
spread8 : (s : List ℕ) → length s ≡ 8 → s ≡ get_or s 0 0 ∷ get_or s 1 0 ∷ get_or s 2 0 ∷ get_or s 3 0 ∷ get_or s 4 0 ∷ get_or s 5 0 ∷ get_or s 6 0 ∷ get_or s 7 0 ∷ []
spread8 s l =
    let firsts = get_or s 0 0 ∷ get_or s 1 0 ∷ get_or s 2 0 ∷ get_or s 3 0 ∷ get_or s 4 0 ∷ get_or s 5 0 ∷ get_or s 6 0 ∷ get_or s 7 0 ∷ [] in
    from_reads firsts s 0 (omega arith) (refl, (refl, (refl, (refl, (refl, (refl, (refl, (refl, tt)))))))) ∙ ap (λ z. firsts ++ z) (drop_all 8 s (omega arith))

split16 : (a b : ℕ) → b < 256 → be16 (a * 256 + b) ≡ a ∷ b ∷ []
split16 a b h =
    let p : (a * 256 + b) / 256 ≡ a = omega arith in
    let q : (a * 256 + b) % 256 ≡ b = omega arith in
    rw (p, q)

split32 : (a b c d : ℕ) → b < 256 → c < 256 → d < 256 → be32 (a * 16777216 + (b * 65536 + (c * 256 + d))) ≡ a ∷ b ∷ c ∷ d ∷ []
split32 a b c d h i j =
    let p : (a * 16777216 + (b * 65536 + (c * 256 + d))) / 16777216 ≡ a = omega arith in
    let q : (a * 16777216 + (b * 65536 + (c * 256 + d))) / 65536 % 256 ≡ b = omega arith in
    let r : (a * 16777216 + (b * 65536 + (c * 256 + d))) / 256 % 256 ≡ c = omega arith in
    let s : (a * 16777216 + (b * 65536 + (c * 256 + d))) % 256 ≡ d = omega arith in
    rw (p, q, r, s)

-- what a record tells is written as it was read
pub written_again : (s : List ℕ) → 20 ≤ length s → ((i : ℕ) → get_or s i 0 < 256) → 84 ∷ 75 ∷ s ≡ tk (entry_in s) ++ drop 20 s
written_again s h f =
    let e = spread s h in
    let n : take 8 (drop 1 s) ≡ get_or s 1 0 ∷ get_or s 2 0 ∷ get_or s 3 0 ∷ get_or s 4 0 ∷ get_or s 5 0 ∷ get_or s 6 0 ∷ get_or s 7 0 ∷ get_or s 8 0 ∷ [] = ap (λ z. take 8 (drop 1 z)) e in
    let o = split32 (get_or s 10 0) (get_or s 11 0) (get_or s 12 0) (get_or s 13 0) (f 11) (f 12) (f 13) in
    let a = split16 (get_or s 14 0) (get_or s 15 0) (f 15) in
    let b = split16 (get_or s 16 0) (get_or s 17 0) (f 17) in
    let c = split16 (get_or s 18 0) (get_or s 19 0) (f 19) in
    ap (λ z. 84 ∷ 75 ∷ z) (e ∙ sym (rw n (cc)))

-- the bytes after the mark TK of an entry's record, and what follows them
abbrev pub body : Entry → List ℕ → List ℕ
body e x = e.number ∷ ((e.name ++ fields e) ++ x)

pub record Back (e : Entry) (x : List ℕ) : Type 0 where
  pub entry : entry_in (body e x) ≡ e
  pub rest : drop 20 (body e x) ≡ x
  pub long : 20 ≤ length (body e x)

-- what is written is read again as it was
pub read_again : (e : Entry) (x : List ℕ) → length e.name ≡ 8 → Back e x
read_again e x l =
    let named : List ℕ → Entry = λ n. record { number = e.number; name = n; rank = e.rank; offset = e.offset; runtime = e.runtime; deadline = e.deadline; period = e.period } in
    let B : List ℕ → Type 0 = λ n. Back (named n) x in
    let o : e.offset / 16777216 * 16777216 + (e.offset / 65536 % 256 * 65536 + (e.offset / 256 % 256 * 256 + e.offset % 256)) ≡ e.offset = omega arith in
    let k : e.runtime / 256 * 256 + e.runtime % 256 ≡ e.runtime = omega arith in
    let d : e.deadline / 256 * 256 + e.deadline % 256 ≡ e.deadline = omega arith in
    let p : e.period / 256 * 256 + e.period % 256 ≡ e.period = omega arith in
    subst B (sym (spread8 e.name l)) (record { entry = rw (o, k, d, p); rest = refl; long = omega arith })

-- two records that begin the same bytes are the same
pub same_entry : (e e' : Entry) (x x' : List ℕ) → length e.name ≡ 8 → length e'.name ≡ 8 → tk e ++ x ≡ tk e' ++ x' → (e ≡ e') × (x ≡ x')
same_entry e e' x x' l l' h =
    let b : body e x ≡ body e' x' = ap (drop 2) h in
    let r = read_again e x l in
    let r' = read_again e' x' l' in
    (sym r.entry ∙ (ap entry_in b ∙ r'.entry), sym r.rest ∙ (ap (drop 20) b ∙ r'.rest))

-- how long the records of entries are together
pub joined_length : (es : List Entry) → Obey es → length (flat_map tk es) ≡ 22 * length es
joined_length [] o = refl
joined_length (e ∷ es) o =
    let n : length e.name ≡ 8 = o.0.eight in
    let a : length (tk e ++ flat_map tk es) ≡ length (tk e) + length (flat_map tk es) = length-append (tk e) (flat_map tk es) in
    let b : length (e.name ++ fields e) ≡ length e.name + length (fields e) = length-append e.name (fields e) in
    let h = joined_length es o.2 in
    omega arith

-- a sheet up to any record is at most 707 bytes long
pub front_length : (cpus : ℕ) (es : List Entry) → Obey es → length (front cpus es) ≤ 707
front_length cpus es o =
    let a : length (front cpus es) ≡ 3 + length (flat_map tk es) = length-append (cp cpus) (flat_map tk es) in
    let h = joined_length es o in
    let m = at_most_32 es o in
    omega arith
