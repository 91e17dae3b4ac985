-- A log has one book, and no other.
use Rattle.std.proofs.Common.{◌≡◌, ℕ, Bool, true, false, List, sym, ap, ◌∙◌, subst, inl, inr}
use Rattle.sheet.proofs.Single.{both_tell, tells_or_faulty}
use Rattle.bench.specs.Book.{Book, with_table, NotesLoad, Notes, Kept}
use Rattle.bench.specs.Calls.{Call, entering, withdrawing, loading, saving, starting, running_for, halting, asking_verdict, asking_set, asking_line, Log, no_calls, and_then}

one_load : (started : Bool) (b : Book) (sheet : List ℕ) (c d : Book) → NotesLoad started b sheet c → NotesLoad started b sheet d → c ≡ d
one_load true b sheet c d p q = p ∙ sym q
one_load false b sheet c d (inl x) (inl y) =
    x.3 ∙ (ap (with_table b) (both_tell sheet x.0 y.0 x.1 y.1 x.2 y.2).1 ∙ sym y.3)
one_load false b sheet c d (inl x) (inr y) = tells_or_faulty sheet x.0 x.1 y.0 x.2 y.1
one_load false b sheet c d (inr x) (inl y) = tells_or_faulty sheet y.0 y.1 x.0 y.2 x.1
one_load false b sheet c d (inr x) (inr y) = x.2 ∙ sym y.2

one_note : (b : Book) (call : Call) (c d : Book) → Notes b call c → Notes b call d → c ≡ d
one_note b (entering e) c d p q = p ∙ sym q
one_note b (withdrawing i) c d p q = p ∙ sym q
one_note b (loading sheet) c d p q = one_load b.started b sheet c d p q
one_note b (saving cpus buffer) c d p q = p ∙ sym q
one_note b (starting m) c d p q = p ∙ sym q
one_note b (running_for n) c d p q = p ∙ sym q
one_note b halting c d p q = p ∙ sym q
one_note b asking_verdict c d p q = p ∙ sym q
one_note b asking_set c d p q = p ∙ sym q
one_note b (asking_line buffer) c d p q = p ∙ sym q

pub one_book : (log : Log) (b c : Book) → Kept log b → Kept log c → b ≡ c
one_book no_calls b c p q = p ∙ sym q
one_book (and_then log call answer) b c p q =
    let same : p.0 ≡ q.0 = one_book log p.0 q.0 p.1 q.1 in
    let N : Book → Type 0 = λ x. Notes x call b in
    let n : N q.0 = subst N same p.2 in
    one_note q.0 call b c n q.2
