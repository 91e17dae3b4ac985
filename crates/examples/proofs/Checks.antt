-- A row by one test that computes, and the rows of a table one after the other.
use Rattle.std.proofs.Common.{◌≡◌, ℕ, zero, suc, ◌*◌, ◌<◌, ◌≤◌, Bool, true, false, not, ◌&&◌, eqb, ltb, leb, List, [], ◌∷◌, length, get_or, Option, None, is_some, sym, refl, ap, ◌∙◌, mul_comm, mul-le-mul, mul-pos, zero-mul, arith}
use Rattle.std.specs.List.{AllByRecursion}
use Rattle.std.proofs.lemmas.Bool.{and_parts, not-true, leb-true, ltb-true, eqb-true, lt-ltb, le-ltb}
use Rattle.schedule.specs.Counting.{count_below}
use Rattle.schedule.specs.Plan.{Plan, plain}
use Rattle.schedule.specs.Schedule.{has_cpu, config}
use Rattle.schedule.specs.Verdict.{Verdict, Fixes}
use Rattle.schedule.proofs.Same.{has_cpu_same}
use Rattle.task.specs.declared.entry.Entry.{Entry}
use Rattle.task.specs.Rules.{cpus_refusal}
use Rattle.task.specs.Tables.{InBounds}
use Rattle.task.proofs.Obeying.{none_of}
use Rattle.policy.specs.Keys.{is_heavy}
use Rattle.policy.specs.Sets.{left_of, word_of}
use Rattle.policy.proofs.Words.{word_same}
use Rattle.trial.specs.Cycles.{table_period}
use Rattle.bench.specs.Steps.{start_refusal}
use Rattle.bench.proofs.Refusing.{too_long_refused}
use Rattle.examples.specs.Policies.{Policy, entry_in, plan_under}
use Rattle.examples.specs.Kinds.{Row, VerdictAfter, LeftAt, RunningFrom, HeavyAt, AllHeavyAt, NoneHeavyAt, MayStart, TooLongToStart, Right}
use Rattle.examples.proofs.Below.{every_below, at_each}
use Rattle.examples.proofs.Trace.{trace, trace_known, open_all, opens_so}
use Rattle.examples.proofs.Verdicts.{fixes_test, fixes_so, config_computed, config_so}

abbrev same_test : Bool → Bool → Bool
same_test true b = b
same_test false b = not b

same_so : (a b : Bool) → same_test a b ≡ true → a ≡ b
same_so true b e = sym e
same_so false true e = e
same_so false false e = refl

none_so : {A : Type 0} (r : Option A) → not (is_some r) ≡ true → r ≡ None
none_so r e = none_of r (not-true (is_some r) e)

no_entry : (es : List Entry) (i : ℕ) → length es ≤ i → is_some (entry_in es i) ≡ false
no_entry [] i h = refl
no_entry (e ∷ es) zero h = absurd (omega arith)
no_entry (e ∷ es) (suc i) h = no_entry es i (omega arith)

-- what is left in the places of a table, at the instants up to s
abbrev pub history : Plan → (m n s : ℕ) → List (List ℕ)
history p m n s = trace p m n s 0 []

abbrev pub right_test : Row → Bool
right_test (VerdictAfter policy m table s v) = let p = plan_under policy table in leb (length table) 32 && fixes_test p m (length table) (history p m (length table) s) s v
right_test (LeftAt policy m table t ls) =
    let p = plan_under policy table in
    let h = history p m (length table) t in
    leb (length table) 32 && every_below (length table) (λ i. eqb (config_computed p m h t i) (left_of ls i))
right_test (RunningFrom policy m table t set) =
    let p = plan_under policy table in
    let cs = open_all p m (length table) t (get_or (history p m (length table) t) t []) in
    leb (length table) 32 && eqb (word_of (has_cpu p m t (left_of cs)) 32) set
right_test (HeavyAt a b e heavy) = same_test (is_heavy a b e) heavy
right_test (AllHeavyAt a b) = eqb a 0 && ltb 0 b
right_test (NoneHeavyAt a b) = leb b a
right_test (MayStart m table period) = eqb (table_period (entry_in table)) period && not (is_some (start_refusal false (entry_in table) m))
right_test (TooLongToStart m table period) = eqb (table_period (entry_in table)) period && (not (is_some (cpus_refusal m)) && (ltb 0 (count_below 32 (λ i. is_some (entry_in table i))) && ltb 10000000 (table_period (entry_in table))))

module _ (policy : Policy) (m : ℕ) (table : List Entry) (fits : length table ≤ 32) where
  abbrev p : Plan
  p = plan_under policy table

  abbrev n : ℕ
  n = length table

  verdict_so : (s : ℕ) (v : Verdict) → fixes_test p m n (history p m n s) s v ≡ true → Fixes p (plain p m) s v
  verdict_so s v e = fixes_so p m n s fits (no_entry table) (history p m n s) (trace_known p m n fits (no_entry table) s) v e

  left_so : (t : ℕ) (ls : List ℕ) → every_below n (λ i. eqb (config_computed p m (history p m n t) t i) (left_of ls i)) ≡ true → (i : ℕ) → i < n → config p (plain p m) t i ≡ left_of ls i
  left_so t ls e i l =
      sym (config_so p m n t fits (no_entry table) (history p m n t) (trace_known p m n fits (no_entry table) t) t i (omega arith))
      ∙ eqb-true _ _ (at_each n (λ i. eqb (config_computed p m (history p m n t) t i) (left_of ls i)) e i l)

  set_so : (t set : ℕ) → eqb (word_of (has_cpu p m t (left_of (open_all p m n t (get_or (history p m n t) t [])))) 32) set ≡ true → word_of (has_cpu p m t (config p (plain p m) t)) 32 ≡ set
  set_so t set e =
      let ls : List ℕ = get_or (history p m n t) t [] in
      let cs : List ℕ = open_all p m n t ls in
      word_same (has_cpu p m t (config p (plain p m) t)) (has_cpu p m t (left_of cs)) 32
      (λ i l. has_cpu_same p m t (config p (plain p m) t) (left_of cs) (λ j _. sym (opens_so p m n fits (no_entry table) t ls (trace_known p m n fits (no_entry table) t t (omega arith)) j)) i l)
      ∙ eqb-true (word_of (has_cpu p m t (left_of cs)) 32) set e

all_heavy : (a b : ℕ) → a ≡ 0 → 0 < b → (e : Entry) → InBounds e → is_heavy a b e ≡ true
all_heavy a b none some e h =
    let left : a * e.period ≡ 0 = ap (λ x. x * e.period) none ∙ zero-mul e.period in
    let right : 0 < e.runtime * b = mul-pos h.runs some in
    lt-ltb (a * e.period) (e.runtime * b) (omega arith)

none_heavy : (a b : ℕ) → b ≤ a → (e : Entry) → InBounds e → is_heavy a b e ≡ false
none_heavy a b whole e h =
    let fits : e.runtime ≤ e.period = omega (arith, h.runtime, h.deadline) in
    le-ltb (a * e.period) (e.runtime * b) (omega (arith, mul-le-mul fits whole, mul_comm e.period a))

pub right_so : (r : Row) → right_test r ≡ true → Right r
right_so (VerdictAfter policy m table s v) e = let (f, g) = and_parts _ _ e in verdict_so policy m table (leb-true _ _ f) s v g
right_so (LeftAt policy m table t ls) e = let (f, g) = and_parts _ _ e in left_so policy m table (leb-true _ _ f) t ls g
right_so (RunningFrom policy m table t set) e = let (f, g) = and_parts _ _ e in set_so policy m table (leb-true _ _ f) t set g
right_so (HeavyAt a b t heavy) e = same_so (is_heavy a b t) heavy e
right_so (AllHeavyAt a b) e = let (f, g) = and_parts _ _ e in all_heavy a b (eqb-true _ _ f) (ltb-true _ _ g)
right_so (NoneHeavyAt a b) e = none_heavy a b (leb-true _ _ e)
right_so (MayStart m table period) e = let (f, g) = and_parts _ _ e in (eqb-true _ _ f, none_so _ g)
right_so (TooLongToStart m table period) e =
    let (f, g) = and_parts _ _ e in
    let (cpus, more) = and_parts (not (is_some (cpus_refusal m))) _ g in
    let (some, long) = and_parts (ltb 0 (count_below 32 (λ i. is_some (entry_in table i)))) _ more in
    (eqb-true _ _ f, too_long_refused (entry_in table) m (none_so (cpus_refusal m) cpus) (λ none. omega (arith, none, ltb-true 0 _ some)) (ltb-true 10000000 _ long))

abbrev pub all_right_test : List Row → Bool
all_right_test [] = true
all_right_test (r ∷ rs) = right_test r && all_right_test rs

pub all_right_so : (rs : List Row) → all_right_test rs ≡ true → AllByRecursion Right rs
all_right_so [] e = tt
all_right_so (r ∷ rs) e = let (f, g) = and_parts (right_test r) (all_right_test rs) e in (right_so r f, all_right_so rs g)
