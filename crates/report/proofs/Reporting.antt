-- Four lines make a report, or the first alone.
use Rattle.std.proofs.Common.{◌≡◌, ℕ, ◌+◌, zero-add, Bool, leb, List, ◌++◌, Ok, Err, Result, subst}
use Rattle.task.specs.declared.entry.Entry.{Entry}
use Rattle.bench.specs.declared.verdict.Verdict.{Verdict}
use Rattle.bench.specs.Lines.{verdict_line, fault_line}
use Rattle.sheet.specs.Buffers.{Written, BeginsWith}
use Rattle.sheet.proofs.Writing.{text_more, from_start}
use Rattle.policy.specs.Keys.{rank_of, time_to_deadline, heavy_key, heavy_first}
use Rattle.report.specs.declared.report.Faulted.{Faulted}
use Rattle.report.specs.Reports.{Report, VerdictsOfSheet, verdicts, fault}
use lib.Signed.{le_z}
use Rattle.report.proofs.Single.{never_faulty}
use Rattle.report.specs.Prints.{VerdictOfSheet}
use Rattle.report.specs.Writes.{WritesLine, WritesReport}

-- the text of four verdicts, a line after another
module _ (bytes : List ℕ) (d r hd hr : Verdict) (js : VerdictsOfSheet bytes d r hd hr) (before a b c after : List ℕ) (n₁ n₂ n₃ n₄ : ℕ)
    (w₁ : Written 0 (verdict_line d) before a n₁) (w₂ : Written n₁ (verdict_line r) a b n₂) (w₃ : Written n₂ (verdict_line hd) b c n₃) (w₄ : Written n₃ (verdict_line hr) c after n₄) where
  pub four_lines : (text : List ℕ) × Report bytes text × BeginsWith text before after n₄
  four_lines =
      let lines = (verdict_line d ++ verdict_line r) ++ verdict_line hd in
      let w = text_more 0 n₃ n₄ lines (verdict_line hr) before c after (text_more 0 n₂ n₃ (verdict_line d ++ verdict_line r) (verdict_line hd) before b c (text_more 0 n₁ n₂ (verdict_line d) (verdict_line r) before a b w₁ w₂) w₃) w₄ in
      (lines ++ verdict_line hr, verdicts js, from_start n₄ (lines ++ verdict_line hr) before after w)

-- a sheet that is judged under one policy is judged under every other
pub judged_again : {A K L : Type 0} (keyed : Entry → ℕ → K) (le : K → K → Bool) (bytes : List ℕ) (v : Verdict) → VerdictOfSheet keyed le bytes v
    → (keyed' : Entry → ℕ → L) (le' : L → L → Bool) (at : ℕ) (before after : List ℕ) (f : Faulted) → WritesLine keyed' le' bytes at before after (Err f) → A
judged_again keyed le bytes v j keyed' le' at before after f (d, x, w, h) = never_faulty keyed le bytes v d j x

-- the first line alone
pub fault_alone : {K : Type 0} (keyed : Entry → ℕ → K) (le : K → K → Bool) (bytes before after : List ℕ) (f : Faulted)
    → WritesLine keyed le bytes 0 before after (Err f) → WritesReport bytes before after (Err f)
fault_alone keyed le bytes before after f (d, x, w, short) = (fault_line d, fault x, subst (BeginsWith (fault_line d) before after) (zero-add f.length) (from_start (0 + f.length) (fault_line d) before after w))

-- three verdicts, and what is written after them
pub last_line : (bytes : List ℕ) (x y : ℕ) → x ≡ 1 → y ≡ 2 → (before a b c after : List ℕ) (n₁ n₂ n₃ : ℕ)
    → WritesLine time_to_deadline le_z bytes 0 before a (Ok n₁) → WritesLine rank_of leb bytes n₁ a b (Ok n₂)
    → WritesLine (heavy_key x y time_to_deadline) (heavy_first le_z) bytes n₂ b c (Ok n₃)
    → (r : Result ℕ Faulted) → WritesLine (heavy_key x y rank_of) (heavy_first leb) bytes n₃ c after r
    → WritesReport bytes before after r
last_line bytes x y ex ey before a b c after n₁ n₂ n₃ (d, i, w, s) p q (Err u) r = judged_again time_to_deadline le_z bytes d i (heavy_key x y rank_of) (heavy_first leb) n₃ c after u r
last_line bytes x y ex ey before a b c after n₁ n₂ n₃ p q r (Ok n₄) s =
    let H : ℕ → ℕ → Type 0 = λ x y. VerdictOfSheet (heavy_key x y time_to_deadline) (heavy_first le_z) bytes r.0 in
    let L : ℕ → ℕ → Type 0 = λ x y. VerdictOfSheet (heavy_key x y rank_of) (heavy_first leb) bytes s.0 in
    let js : VerdictsOfSheet bytes p.0 q.0 r.0 s.0 = record {
      deadline = p.1;
      rank = q.1;
      heavy_deadline = subst (λ k. H 1 k) ey (subst (λ k. H k y) ex r.1);
      heavy_rank = subst (λ k. L 1 k) ey (subst (λ k. L k y) ex s.1);
    } in
    four_lines bytes p.0 q.0 r.0 s.0 js before a b c after n₁ n₂ n₃ n₄ p.2 q.2 r.2 s.2
