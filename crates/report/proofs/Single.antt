-- Any bytes have one text: one verdict under each policy, or one fault.
use Rattle.std.proofs.Common.{◌≡◌, ℕ, Bool, false, List, Some, None, Err, Option, sym, refl, ap, ◌∙◌, subst}
use Rattle.task.specs.declared.entry.Entry.{Entry}
use Rattle.sheet.proofs.Single.{both_tell, tells_or_faulty, one_answer}
use Rattle.policy.specs.Plans.{plan_of}
use Rattle.bench.specs.declared.fault.Fault.{Fault}
use Rattle.bench.specs.declared.verdict.Verdict.{Verdict}
use Rattle.bench.specs.declared.verdict.Verdict.TheVariants.{Holds, Missed, Running}
use Rattle.bench.specs.Judged.{OnlyVerdict}
use Rattle.bench.specs.Lines.{fault_line}
use Rattle.bench.specs.Modes.{meaning}
use Rattle.bench.specs.Refusing.{placed}
use Rattle.bench.specs.Steps.{start_refusal}
use Rattle.report.specs.Prints.{Faulty, no_sheet, no_start, VerdictOfSheet}
use Rattle.report.specs.Reports.{verdicts, fault, OneText}

-- a sheet that is judged under one policy has no fault
pub never_faulty : {A K : Type 0} (keyed : Entry → ℕ → K) (le : K → K → Bool) (bytes : List ℕ) (v : Verdict) (f : Fault) → VerdictOfSheet keyed le bytes v → Faulty bytes f → A
never_faulty keyed le bytes v f j (no_sheet {f = g} d) = tells_or_faulty bytes j.cpus j.places g j.decoded d
never_faulty keyed le bytes v f j (no_start {cpus} {places} {e} d s) =
    let (q, r) = both_tell bytes cpus j.cpus places j.places d j.decoded in
    let n : start_refusal false (placed places) cpus ≡ None = ap (λ c. start_refusal false (placed places) c) q ∙ (ap (λ (p : List (Option Entry)). start_refusal false (placed p) j.cpus) r ∙ j.starts) in
    absurd (let y : Some e ≡ None = sym s ∙ n in cc)

-- one verdict
same_verdict : (v w : Verdict) → meaning w ≡ meaning v → v ≡ w
same_verdict (Holds a b) (Holds c d) e = cc
same_verdict (Holds a b) (Missed i t) e = absurd (cc)
same_verdict (Holds a b) (Running s) e = absurd (cc)
same_verdict (Missed i t) (Holds a b) e = absurd (cc)
same_verdict (Missed i t) (Missed j u) e = cc
same_verdict (Missed i t) (Running s) e = absurd (cc)
same_verdict (Running s) (Holds a b) e = absurd (cc)
same_verdict (Running s) (Missed i t) e = absurd (cc)
same_verdict (Running s) (Running u) e = cc

one_verdict : {K : Type 0} (keyed : Entry → ℕ → K) (le : K → K → Bool) (bytes : List ℕ) (v w : Verdict) → VerdictOfSheet keyed le bytes v → VerdictOfSheet keyed le bytes w → v ≡ w
one_verdict keyed le bytes v w x y =
    let (q, r) = both_tell bytes y.cpus x.cpus y.places x.places y.decoded x.decoded in
    let A : ℕ → Type 0 = λ m. OnlyVerdict (plan_of keyed le (placed y.places)) m 1000000000 w in
    let B : List (Option Entry) → Type 0 = λ p. OnlyVerdict (plan_of keyed le (placed p)) x.cpus 1000000000 w in
    let z : OnlyVerdict (plan_of keyed le (placed x.places)) x.cpus 1000000000 w = subst B r (subst A q y.judged) in
    same_verdict v w (x.judged.no_other z.judged.instant (meaning w) z.judged.settles)

-- one fault
one_fault : (bytes : List ℕ) (f g : Fault) → Faulty bytes f → Faulty bytes g → f ≡ g
one_fault bytes f g (no_sheet {f = k} d) (no_sheet {f = l} e) = let q = one_answer bytes (Err k) (Err l) d e in cc
one_fault bytes f g (no_sheet {f = k} d) (no_start {cpus} {places} {e = l} e s) = tells_or_faulty bytes cpus places k e d
one_fault bytes f g (no_start {cpus} {places} {e = k} d s) (no_sheet {f = l} e) = tells_or_faulty bytes cpus places l d e
one_fault bytes f g (no_start {cpus = m} {places = p} {e = k} d s) (no_start {cpus = n} {places = q} {e = l} e t) =
    let (x, y) = both_tell bytes m n p q d e in
    let same : start_refusal false (placed p) m ≡ start_refusal false (placed q) n = ap (λ c. start_refusal false (placed p) c) x ∙ ap (λ (z : List (Option Entry)). start_refusal false (placed z) n) y in
    let both : Some k ≡ Some l = sym s ∙ (same ∙ t) in
    cc

-- one text
pub one_text : OneText
one_text bytes a b (verdicts {d} {r} {hd} {hr} x) (verdicts {d = d'} {r = r'} {hd = hd'} {hr = hr'} y) =
    let p = one_verdict _ _ bytes d d' x.deadline y.deadline in
    let q = one_verdict _ _ bytes r r' x.rank y.rank in
    let s = one_verdict _ _ bytes hd hd' x.heavy_deadline y.heavy_deadline in
    let t = one_verdict _ _ bytes hr hr' x.heavy_rank y.heavy_rank in
    rw (p, q, s, t) refl
one_text bytes a b (verdicts {d} x) (fault {f} y) = never_faulty _ _ bytes d f x.deadline y
one_text bytes a b (fault {f} x) (verdicts {d} y) = never_faulty _ _ bytes d f y.deadline x
one_text bytes a b (fault {f} x) (fault {f = g} y) = ap fault_line (one_fault bytes f g x y)
