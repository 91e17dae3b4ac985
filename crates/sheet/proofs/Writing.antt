-- How what was written goes on.
use Rattle.std.proofs.Common.{◌≡◌, ℕ, ◌+◌, ◌-◌, ◌/◌, ◌%◌, ◌<◌, ◌≤◌, List, [], ◌∷◌, ◌++◌, length, take, drop, sym, ap, ◌∙◌, subst, ⊎_elim, append_assoc, append-nil, arith, length-append, take-append-drop}
use Rattle.std.proofs.lemmas.List.{take_all, take-append-le, length-take-le}
use Rattle.std.proofs.lemmas.Bool.{cases_lt}
use Rattle.std.proofs.Math.Seq.{take-append-add}
use Rattle.std.specs.Int.{to_be_bytes, w16, w32}
use Rattle.task.specs.declared.entry.Entry.{Entry}
use Rattle.sheet.specs.Buffers.{Written, BeginsWith}
use Rattle.sheet.specs.Format.{be16, be32, fields, tk}

-- one text after another
pub text_more : (at mid end : ℕ) (ds es b a z : List ℕ) → Written at ds b a mid → Written mid es a z end → Written at (ds ++ es) b z end
text_more at mid end ds es b a z w v = record {
  upto = omega (arith, length-append ds es, w.upto, v.upto);
  front = v.front ∙ (ap (λ x. x ++ es) w.front ∙ append_assoc (take at b) ds es);
  back = λ n h. v.back n h ∙ w.back n (omega (arith, v.upto));
}

-- one text after another, each as far as there is room for it
pub text_cut : (at mid end : ℕ) (ds es b a z : List ℕ) → length a ≡ length b → Written at (take (length b - at) ds) b a mid → Written mid (take (length a - mid) es) a z end
    → Written at (take (length b - at) (ds ++ es)) b z end
text_cut at mid end ds es b a z l w v = ⊎_elim
    (λ h.
    let m : length (take (length b - at) ds) ≡ length b - at = length-take-le _ ds (omega arith) in
    let k : length a - mid ≡ 0 = omega (arith, w.upto) in
    subst (λ x. Written at x b z end) (ap (λ n. take (length b - at) ds ++ take n es) k ∙ (append-nil _ ∙ sym (take-append-le (length b - at) ds es (omega arith))))
    (text_more at mid end _ _ b a z w v))
    (λ h.
    let e : take (length b - at) ds ≡ ds = take_all _ ds h in
    let k : length b - at ≡ length ds + (length a - mid) = omega (arith, w.upto, ap length e) in
    subst (λ x. Written at x b z end) (ap (λ x. x ++ take (length a - mid) es) e ∙ (sym (take-append-add ds es (length a - mid)) ∙ ap (λ n. take n (ds ++ es)) (sym k)))
    (text_more at mid end _ _ b a z w v))
    (cases_lt (length b - at) (length ds))

-- a text that there is room for is written whole
pub text_whole : (at end : ℕ) (ds b a : List ℕ) → at + length ds ≤ length b → Written at (take (length b - at) ds) b a end → Written at ds b a end
text_whole at end ds b a h w = subst (λ x. Written at x b a end) (take_all (length b - at) ds (omega arith)) w

-- from the beginning: the text, and then what was there
pub from_start : (end : ℕ) (ds b a : List ℕ) → Written 0 ds b a end → BeginsWith ds b a end
from_start end ds b a w = record { long = omega (arith, w.upto); bytes = sym (take-append-drop end a) ∙ (ap (λ x. x ++ drop end a) w.front ∙ ap (λ x. ds ++ x) (w.back end (omega arith))) }

-- the same text under another name
pub as_text : (at end : ℕ) (ds es b a : List ℕ) → ds ≡ es → Written at ds b a end → Written at es b a end
as_text at end ds es b a e w = subst (λ (x : List ℕ). Written at x b a end) e w

-- the bytes of a number of two bytes or four
pub two_bytes : (n m : ℕ) (bs : List ℕ) → bs ≡ to_be_bytes w16 n → n ≡ m → n < 65536 → bs ≡ be16 m
two_bytes n m bs b e h = let f : n / 256 % 256 ≡ n / 256 = omega arith in b ∙ (rw f (ap be16 e))

pub four_bytes : (n m : ℕ) (bs : List ℕ) → bs ≡ to_be_bytes w32 n → n ≡ m → n < 4294967296 → bs ≡ be32 m
four_bytes n m bs b e h = let f : n / 16777216 % 256 ≡ n / 16777216 = omega arith in b ∙ (rw f (ap be32 e))

-- texts that were written one after another, as one
pub regroup : (m n r o c d t : List ℕ) → (((((m ++ n) ++ r) ++ o) ++ c) ++ d) ++ t ≡ m ++ (n ++ (r ++ (o ++ (c ++ (d ++ (t ++ []))))))
regroup m n r o c d t = simp (append_assoc, append-nil)

-- the parts of a record TK, one after another
pub parts : (e : Entry) (number rank : ℕ) (name offset runtime deadline period : List ℕ)
    → number ≡ e.number → name ≡ e.name → rank ≡ e.rank → offset ≡ be32 e.offset → runtime ≡ be16 e.runtime → deadline ≡ be16 e.deadline → period ≡ be16 e.period
    → 84 ∷ 75 ∷ number ∷ (name ++ rank ∷ (offset ++ (runtime ++ (deadline ++ (period ++ []))))) ≡ tk e
parts e number rank name offset runtime deadline period n m r o c d t = rw (n, m, r, o, c, d, t)

-- a record TK is as long as any
pub record_length : (e : Entry) → length e.name ≡ 8 → length (tk e) ≡ 22
record_length e n = omega (arith, n, length-append e.name (fields e))
