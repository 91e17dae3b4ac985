-- What a slice pattern `[c, d, .., rest @ ..]` says of the whole slice.
use Rattle.std.proofs.Common.{◌≡◌, ℕ, suc, ◌+◌, ◌-◌, ◌<◌, ◌≤◌, List, [], ◌∷◌, ◌++◌, length, take, drop, sym, ap, ◌∙◌, add-zero, add-suc, arith, length-drop, take_all, drop-cons}
use Rattle.std.proofs.lemmas.Slice.Eq.{HasBytesAt}

-- the bytes of xs stand in s from i on, so what follows i is xs and then the rest
pub from_reads : (xs s : List ℕ) (i : ℕ) → i + length xs ≤ length s → HasBytesAt s i xs → drop i s ≡ xs ++ drop (i + length xs) s
from_reads [] s i h r = rw add-zero
from_reads (x ∷ xs) s i h r =
    let lt : i < length s = omega (arith, add-suc i (length xs)) in
    let le : suc i + length xs ≤ length s = omega (arith, add-suc i (length xs)) in
    let e : suc i + length xs ≡ i + suc (length xs) = omega arith in
    let d = drop-cons s i 0 lt in
    let t = from_reads xs s (suc i) le r.1 in
    d ∙ (ap (λ v. v ∷ drop (suc i) s) r.0 ∙ ap (λ v. x ∷ v) (t ∙ ap (λ k. xs ++ drop k s) e))

-- what a pattern's `rest @ ..` is
pub opened : (xs s : List ℕ) (n : ℕ) → n ≡ length xs → n ≤ length s → HasBytesAt s 0 xs → s ≡ xs ++ take (length s - n) (drop n s)
opened xs s n e h r =
    let le : 0 + length xs ≤ length s = omega arith in
    let k : 0 + length xs ≡ n = omega arith in
    let a = take_all (length s - n) (drop n s) (rw length-drop (omega arith)) in
    from_reads xs s 0 le r ∙ (ap (λ k. xs ++ drop k s) k ∙ ap (λ v. xs ++ v) (sym a))
