-- A line that was written into the rest of a buffer stands at its place in the whole.
use Rattle.std.proofs.Common.{◌≡◌, ℕ, ◌+◌, ◌-◌, ◌≤◌, nat_lt, Bool, cond, Some, None, Ok, Err, List, ◌++◌, length, take, drop, sym, refl, ap, ◌∙◌, append_assoc, append-nil, arith, length-append, length-drop, take-append-drop}
use borrow.Rule.Slice.PartMut.{put_mid}
use Rattle.std.proofs.lemmas.List.{length-take-le, take_all, take-append-le, drop-drop, drop_all}
use Rattle.std.proofs.lemmas.Slice.{take-put_mid, drop-put_mid, drop-append-drop}
use Rattle.std.proofs.lemmas.Bool.{le-ltb}
use Rattle.task.specs.declared.entry.Entry.{Entry}
use Rattle.task.specs.declared.refusal.Refusal.TheVariants.{BufferTooShort}
use Rattle.sheet.specs.Buffers.{Written, BeginsWith}
use Rattle.bench.specs.Lines.{verdict_line, fault_line}
use Rattle.report.specs.declared.line.Line.TheVariants.{OfVerdict, OfFault}
use Rattle.report.specs.Prints.{Prints}
use Rattle.report.specs.Writes.{WritesLine}

module _ (a n : ℕ) (xs ys text : List ℕ) (fits : a ≤ length xs) (size : length ys ≡ length xs - a) (is : BeginsWith text (take (length xs - a) (drop a xs)) ys n) (room : n ≤ length xs - a) where
  abbrev after : List ℕ
  after = put_mid a (length xs - a) xs ys

  whole : after ≡ take a xs ++ ys
  whole =
      sym (take-append-drop (a + length ys) after)
      ∙ (ap (λ z. z ++ drop (a + length ys) after) (take-put_mid a (length xs - a) xs ys (a + length ys) refl fits)
      ∙ (ap (λ z. (take a xs ++ ys) ++ z) (drop-put_mid a (length xs - a) xs ys (a + length ys) (omega arith) fits size ∙ drop_all (a + length ys) xs (omega arith)) ∙ append-nil (take a xs ++ ys)))

  rest : drop n (take (length xs - a) (drop a xs)) ≡ drop (a + n) xs
  rest = ap (drop n) (take_all (length xs - a) (drop a xs) (let l : length (drop a xs) ≡ length xs - a = length-drop a xs in omega arith)) ∙ drop-drop n a xs

  parts : after ≡ (take a xs ++ text) ++ drop (a + n) xs
  parts = whole ∙ (ap (λ z. take a xs ++ z) (is.bytes ∙ ap (λ z. text ++ z) rest) ∙ sym (append_assoc (take a xs) text (drop (a + n) xs)))

  long : length (take a xs ++ text) ≡ a + n
  long = length-append (take a xs) text ∙ (let l : length (take a xs) ≡ a = length-take-le a xs fits in let m : n ≡ length text = is.long in omega arith)

  pub line_at : Written a text xs after (a + n)
  line_at =
      record {
        upto = let m : n ≡ length text = is.long in omega arith;
        front = ap (take (a + n)) parts ∙ (take-append-le (a + n) (take a xs ++ text) (drop (a + n) xs) (let l = long in omega arith) ∙ take_all (a + n) (take a xs ++ text) (let l = long in omega arith));
        back = λ m h. ap (drop m) parts ∙ drop-append-drop (a + n) xs (take a xs ++ text) m h long;
      }

-- a buffer of so many bytes is not too short
pub has_room : (n room : ℕ) → n ≤ room → cond (nat_lt room n) (Some BufferTooShort) None ≡ None
has_room n room h = ap (λ b. cond b (Some BufferTooShort) None) (le-ltb room n h)

-- what judging did to the rest of a buffer, seen in the whole
module _ {K : Type 0} (keyed : Entry → ℕ → K) (le : K → K → Bool) (bytes : List ℕ) (a : ℕ) (xs ys : List ℕ) (room : a + 48 ≤ length xs) (size : length ys ≡ length (take (length xs - a) (drop a xs))) where
  part : length ys ≡ length xs - a
  part = size ∙ length-take-le (length xs - a) (drop a xs) (let l : length (drop a xs) ≡ length xs - a = length-drop a xs in omega arith)

  pub verdict_at : (n : ℕ) → Prints keyed le bytes (take (length xs - a) (drop a xs)) ys (Ok (OfVerdict n)) → WritesLine keyed le bytes a xs (put_mid a (length xs - a) xs ys) (Ok (a + n))
  verdict_at n (r, (v, j, b, h)) = (v, j, line_at a n xs ys (verdict_line v) (omega arith) part b (omega arith), omega arith)

  pub fault_at : (n : ℕ) → Prints keyed le bytes (take (length xs - a) (drop a xs)) ys (Ok (OfFault n)) → WritesLine keyed le bytes a xs (put_mid a (length xs - a) xs ys) (Err (record { length = n }))
  fault_at n (r, (f, j, b, h)) = (f, j, line_at a n xs ys (fault_line f) (omega arith) part b (omega arith), h)
