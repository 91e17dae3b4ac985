-- A bench agrees with the book of its log, call by call; so that its answers are those that the book calls for.
use Rattle.std.proofs.Common.{◌≡◌, ℕ, ◌+◌, Bool, true, false, ◌⊎◌, List, Some, None, Ok, Err, Option, Result, sym, refl, ap, ◌∙◌, subst, ap₂, inl, inr}
use Rattle.std.proofs.lemmas.Bool.{both_ways}
use Rattle.schedule.specs.Plan.{Plan}
use Rattle.task.specs.declared.entry.Entry.{Entry}
use Rattle.task.specs.declared.refusal.Refusal.{Refusal}
use Rattle.task.specs.Rules.{with_entry, without_entry}
use Rattle.task.specs.Tables.{entry_at, entries}
use Rattle.sheet.specs.declared.fault.LoadFault.{LoadFault}
use Rattle.sheet.specs.Encoding.{sheet_of}
use Rattle.policy.specs.Plans.{plan_of}
use Rattle.bench.specs.declared.mode.Mode.{Mode}
use Rattle.bench.specs.declared.mode.Mode.TheVariants.{Open, Running}
use Rattle.bench.specs.declared.verdict.Verdict.{Verdict}
use Rattle.bench.specs.Book.{Book, blank, with_table, when_started, when_run, when_halted, foreseen, unless, NotesLoad, Notes, Kept}
use Rattle.bench.specs.Calls.{Call, entering, withdrawing, loading, saving, starting, running_for, halting, asking_verdict, asking_set, asking_line, Answer, Log, no_calls, and_then}
use Rattle.bench.specs.Judged.{OnlyVerdict, SetShown}
use Rattle.bench.specs.Law.{plan_in, Right, AllRight, Lawful, Made}
use Rattle.bench.specs.Lines.{verdict_line, Writes, WritesLine}
use Rattle.bench.specs.Modes.{is_started, verdict_of}
use Rattle.bench.specs.Refusing.{placed, refusal, wants_open}
use Rattle.bench.specs.Steps.{View, with_mode, New, start_refusal, open_refusal, IsLoadFault, Loads, Starts, Lines, RanFor, GoesOn}
use Rattle.bench.specs.EachCall.{with_tasks, turned_down, Enters, Withdraws, Saves, Halts, TellsVerdict, TellsSet, Step}
use Rattle.bench.proofs.Booking.{one_book}
use Rattle.bench.proofs.Judging.{Where, goes_where, fresh_where, where_started, where_only, where_shown}
use Rattle.bench.proofs.Placing.{placed_entries}

-- a call that wants an open bench, and is taken
open_then : (started : Bool) (o : Option Refusal) → wants_open started o ≡ None → started ≡ false
open_then true o e = absurd (cc)
open_then false o e = refl

-- a call that wants a started bench, and is taken
started_then : (started : Bool) → open_refusal started ≡ None → started ≡ true
started_then true e = refl
started_then false e = absurd (cc)

notes_fault : (started : Bool) (b : Book) (sheet : List ℕ) (f : LoadFault) → IsLoadFault started sheet f → NotesLoad started b sheet b
notes_fault true b sheet f h = refl
notes_fault false b sheet f h = inr (f, h, refl)

module _ {P K : Type 0} (keyed : P → Entry → ℕ → K) (le : P → K → K → Bool) (policy : P)
    (total : (a b : K) → (le policy a b ≡ true) ⊎ (le policy b a ≡ true))
    (trans : (a b c : K) → le policy a b ≡ true → le policy b c ≡ true → le policy a c ≡ true) where
  abbrev On : (m n : ℕ) → View P → Type 0
  On m n v = Where (keyed policy) (le policy) v.tasks m n v.mode

  -- an open book's bench is open, and a started book's stands on the schedule
  abbrev StandsAs : (started : Bool) (m n : ℕ) → View P → Type 0
  StandsAs false m n v = v.mode ≡ Open
  StandsAs true m n v = On m n v

  pub record Agrees (b : Book) (v : View P) : Type 0 where
    pub policy_is : v.policy ≡ policy
    pub table_is : entries v.tasks ≡ b.table
    pub stands : StandsAs b.started b.cpus b.slots v

  -- what a call answers is right, and there is a book after it that agrees with the bench after it
  abbrev Goes : Book → (call : Call) → Answer call → View P → Type 0
  Goes b call r u = Right (keyed policy) (le policy) b call r × ((c : Book) × Notes b call c × Agrees c u)

  by_started : (started : Bool) (m n : ℕ) (v : View P) → StandsAs started m n v → is_started v.mode ≡ started
  by_started false m n v e = ap is_started e
  by_started true m n v i = where_started (keyed policy) (le policy) v.tasks m n v.mode i

  stands_open : (started : Bool) (m n : ℕ) (v u : View P) → started ≡ false → u.mode ≡ v.mode → StandsAs started m n v → StandsAs started m n u
  stands_open false m n v u e same st = same ∙ st
  stands_open true m n v u e same st = absurd (both_ways true e refl)

  stands_on : (started : Bool) (m n : ℕ) (v : View P) → started ≡ true → StandsAs started m n v → On m n v
  stands_on false m n v e st = absurd (both_ways false refl e)
  stands_on true m n v e st = st

  stands_so : (started : Bool) (m n : ℕ) (v : View P) → started ≡ true → On m n v → StandsAs started m n v
  stands_so false m n v e i = absurd (both_ways false refl e)
  stands_so true m n v e i = i

  module _ (b : Book) (v : View P) (a : Agrees b v) where
    started_is : is_started v.mode ≡ b.started
    started_is = by_started b.started b.cpus b.slots v a.stands

    foreseen_is : (call : Call) (o : Option Refusal) → turned_down v call ≡ o → foreseen b call ≡ o
    foreseen_is call o h = sym (ap₂ (λ s t. refusal s t call) started_is a.table_is) ∙ h

    plan_is : plan_of (keyed policy) (le policy) (entry_at v.tasks) ≡ plan_in (keyed policy) (le policy) b
    plan_is = ap (λ at. plan_of (keyed policy) (le policy) at) (sym (placed_entries v.tasks) ∙ ap placed a.table_is)

    same_agrees : (u : View P) → u ≡ v → Agrees b u
    same_agrees u e = subst (Agrees b) (sym e) a

    noted : (o : Option Refusal) (new : Book) (call : Call) → foreseen b call ≡ o → unless o new b ≡ unless (foreseen b call) new b
    noted o new call f = ap (λ x. unless x new b) (sym f)

    is_open : (o : Option Refusal) → wants_open (is_started v.mode) o ≡ None → b.started ≡ false
    is_open o h = sym started_is ∙ open_then (is_started v.mode) o h

    is_on : open_refusal (is_started v.mode) ≡ None → b.started ≡ true
    is_on h = sym started_is ∙ started_then (is_started v.mode) h

    foreseen_start : (m : ℕ) (o : Option Refusal) → start_refusal (is_started v.mode) (entry_at v.tasks) m ≡ o → foreseen b (starting m) ≡ o
    foreseen_start m o h = foreseen_is (starting m) o (ap (λ at. start_refusal (is_started v.mode) at m) (placed_entries v.tasks) ∙ h)

    -- another table on an open bench
    retabled : (u : View P) (table : List (Option Entry)) → b.started ≡ false → entries u.tasks ≡ table → u ≡ with_tasks v u.tasks → Agrees (with_table b table) u
    retabled u table e t same =
        record {
          policy_is = ap (λ w. w.policy) same ∙ a.policy_is;
          table_is = t;
          stands = stands_open b.started b.cpus b.slots v u e (ap (λ w. w.mode) same) a.stands;
        }

    entered : (e : Entry) (r : Result (Unit {0}) Refusal) (u : View P) → Enters v e r u → Goes b (entering e) r u
    entered e (Ok x) u s =
        let f = foreseen_is (entering e) None s.0 in
        let table = with_entry b.table e in
        (f, (with_table b table, noted None (with_table b table) (entering e) f, retabled u table (is_open _ s.0) (s.1 ∙ ap (λ t. with_entry t e) a.table_is) s.2))
    entered e (Err x) u s =
        let f = foreseen_is (entering e) (Some x) s.0 in
        (f, (b, noted (Some x) (with_table b (with_entry b.table e)) (entering e) f, same_agrees u s.1))

    withdrawn : (i : ℕ) (r : Result (Unit {0}) Refusal) (u : View P) → Withdraws v i r u → Goes b (withdrawing i) r u
    withdrawn i (Ok x) u s =
        let f = foreseen_is (withdrawing i) None s.0 in
        let table = without_entry b.table i in
        (f, (with_table b table, noted None (with_table b table) (withdrawing i) f, retabled u table (is_open _ s.0) (s.1 ∙ ap (λ t. without_entry t i) a.table_is) s.2))
    withdrawn i (Err x) u s =
        let f = foreseen_is (withdrawing i) (Some x) s.0 in
        (f, (b, noted (Some x) (with_table b (without_entry b.table i)) (withdrawing i) f, same_agrees u s.1))

    loaded : (sheet : List ℕ) (r : Result ℕ LoadFault) (u : View P) → Loads v sheet r u → Goes b (loading sheet) r u
    loaded sheet (Ok cpus) u s =
        let e = sym started_is ∙ ap is_started s.0 in
        let same : u ≡ with_tasks v u.tasks = s.2 ∙ ap (λ mode. record { policy = v.policy; tasks = u.tasks; mode = mode }) (sym s.0) in
        let c = with_table b (entries u.tasks) in
        let N : Bool → Type 0 = λ x. NotesLoad x b sheet c in
        let n : N false = inl (cpus, entries u.tasks, s.1, refl) in
        ((e, (entries u.tasks, s.1)), (c, subst N (sym e) n, retabled u (entries u.tasks) e refl same))
    loaded sheet (Err f) u s =
        let F : Bool → Type 0 = λ x. IsLoadFault x sheet f in
        let h : F b.started = subst F started_is s.0 in
        (h, (b, notes_fault b.started b sheet f h, same_agrees u s.1))

    saved : (cpus : ℕ) (before after : List ℕ) (r : Result ℕ Refusal) → Saves v cpus before after r → Writes (foreseen b (saving cpus before)) (sheet_of cpus b.table) before after r
    saved cpus before after r s =
        let T : List (Option Entry) → Type 0 = λ t. Writes (turned_down v (saving cpus before)) (sheet_of cpus t) before after r in
        let W : Option Refusal → Type 0 = λ o. Writes o (sheet_of cpus b.table) before after r in
        subst W (sym (foreseen_is (saving cpus before) (turned_down v (saving cpus before)) refl)) (subst T a.table_is s)

    began : (m : ℕ) (r : Result (Unit {0}) Refusal) (u : View P) → Starts v m r u → Goes b (starting m) r u
    began m (Ok x) u s =
        let f = foreseen_start m None s.0 in
        let O : View P → Type 0 = On m 0 in
        let i : O (with_mode v (Running s.1.0)) = fresh_where (keyed policy) (le policy) v.tasks m s.1.0 s.1.1 in (
          f,
          (
            when_started b m,
            noted None (when_started b m) (starting m) f,
            record {
              policy_is = ap (λ w. w.policy) s.1.2 ∙ a.policy_is;
              table_is = ap (λ w. entries w.tasks) s.1.2 ∙ a.table_is;
              stands = subst O (sym s.1.2) i;
            },
          ),
        )
    began m (Err x) u s =
        let f = foreseen_start m (Some x) s.0 in
        (f, (b, noted (Some x) (when_started b m) (starting m) f, same_agrees u s.1))

    -- the verdict of a bench that agrees with a book, by the book's plan
    judged_so : (m n : ℕ) (mode : Mode) (y : Verdict) → Where (keyed policy) (le policy) v.tasks m n mode → y ≡ verdict_of mode → OnlyVerdict (plan_in (keyed policy) (le policy) b) m n y
    judged_so m n mode y i e =
        let J : Plan → Type 0 = λ p. OnlyVerdict p m n y in
        let Y : Verdict → Type 0 = OnlyVerdict (plan_of (keyed policy) (le policy) (entry_at v.tasks)) m n in
        subst J plan_is (subst Y (sym e) (where_only (keyed policy) (le policy) v.tasks m n mode i))

    ran : (n : ℕ) (r : Result Verdict Refusal) (u : View P) → RanFor keyed le v n r u → Goes b (running_for n) r u
    ran n (Ok y) u s =
        let f = foreseen_is (running_for n) None s.0 in
        let e = is_on s.0 in
        let G : P → Type 0 = λ q. GoesOn (plan_of (keyed q) (le q) (entry_at v.tasks)) v.mode n u.mode in
        let g : G policy = subst G a.policy_is s.1 in
        let w = goes_where (keyed policy) (le policy) v.tasks b.cpus b.slots n v.mode u.mode (stands_on b.started b.cpus b.slots v e a.stands) g in
        let O : View P → Type 0 = On b.cpus (b.slots + n) in
        let i : O (with_mode v u.mode) = w in (
          (f, judged_so b.cpus (b.slots + n) u.mode y w s.3),
          (
            when_run b n,
            noted None (when_run b n) (running_for n) f,
            record {
              policy_is = ap (λ x. x.policy) s.2 ∙ a.policy_is;
              table_is = ap (λ x. entries x.tasks) s.2 ∙ a.table_is;
              stands = stands_so b.started b.cpus (b.slots + n) u e (subst O (sym s.2) i);
            },
          ),
        )
    ran n (Err x) u s =
        let f = foreseen_is (running_for n) (Some x) s.0 in
        ((f, tt), (b, noted (Some x) (when_run b n) (running_for n) f, same_agrees u s.1))

    halted : (r : Result (Unit {0}) Refusal) (u : View P) → Halts v r u → Goes b halting r u
    halted (Ok x) u s =
        let f = foreseen_is halting None s.0 in (
          f,
          (
            when_halted b,
            noted None (when_halted b) halting f,
            record {
              policy_is = ap (λ w. w.policy) s.1 ∙ a.policy_is;
              table_is = ap (λ w. entries w.tasks) s.1 ∙ a.table_is;
              stands = ap (λ w. w.mode) s.1;
            },
          ),
        )
    halted (Err x) u s =
        let f = foreseen_is halting (Some x) s.0 in
        (f, (b, noted (Some x) (when_halted b) halting f, same_agrees u s.1))

    told : (r : Result Verdict Refusal) → TellsVerdict v r → Right (keyed policy) (le policy) b asking_verdict r
    told (Ok y) s =
        let e = is_on s.0 in
        (foreseen_is asking_verdict None s.0, judged_so b.cpus b.slots v.mode y (stands_on b.started b.cpus b.slots v e a.stands) s.1)
    told (Err x) s = (foreseen_is asking_verdict (Some x) s, tt)

    shown : (r : Result (ℕ × ℕ) Refusal) → TellsSet v r → Right (keyed policy) (le policy) b asking_set r
    shown (Ok q) s =
        let e = is_on s.0 in
        let i = stands_on b.started b.cpus b.slots v e a.stands in
        let S : Plan → Type 0 = λ p. SetShown p b.cpus b.slots q.0 q.1 in
        (foreseen_is asking_set None s.0, subst S plan_is (where_shown (keyed policy) (le policy) v.tasks b.cpus total trans b.slots v.mode i q.0 q.1 s.1 s.2))
    shown (Err x) s = (foreseen_is asking_set (Some x) s, tt)

    lined : (before after : List ℕ) (r : Result ℕ Refusal) → Lines v before after r → Right (keyed policy) (le policy) b (asking_line before) (record { answer = r; buffer = after })
    lined before after r s =
        let W : Option Refusal → Type 0 = λ o. WritesLine o (verdict_line (verdict_of v.mode)) before after r in (
          verdict_of v.mode,
          (λ e. judged_so b.cpus b.slots v.mode (verdict_of v.mode) (stands_on b.started b.cpus b.slots v e a.stands) refl),
          subst W (sym (foreseen_is (asking_line before) (turned_down v (asking_line before)) refl)) s,
        )

    goes : (call : Call) (r : Answer call) (u : View P) → Step keyed le v call r u → Goes b call r u
    goes (entering e) r u s = entered e r u s
    goes (withdrawing i) r u s = withdrawn i r u s
    goes (loading sheet) r u s = loaded sheet r u s
    goes (saving cpus before) r u s = (saved cpus before r.buffer r.answer s.0, (b, refl, same_agrees u s.1))
    goes (starting m) r u s = began m r u s
    goes (running_for n) r u s = ran n r u s
    goes halting r u s = halted r u s
    goes asking_verdict r u s = (told r s.0, (b, refl, same_agrees u s.1))
    goes asking_set r u s = (shown r s.0, (b, refl, same_agrees u s.1))
    goes (asking_line before) r u s = (lined before r.buffer r.answer s.0, (b, refl, same_agrees u s.1))

  new_agrees : (v : View P) → New policy v → Agrees blank v
  new_agrees v n = record { policy_is = n.policy_is; table_is = n.no_task; stands = n.is_open }

  -- whatever calls were made of a bench, all answers were right, and it agrees with the book of the log
  made_agrees : (log : Log) (v : View P) → Made keyed le policy log v → AllRight (keyed policy) (le policy) log × ((b : Book) × Kept log b × Agrees b v)
  made_agrees no_calls v n = (tt, (blank, refl, new_agrees v n))
  made_agrees (and_then log call answer) u m =
      let v = m.0 in
      let (past, before) = made_agrees log v m.1 in
      let b = before.0 in
      let g = goes b v before.2 call answer u m.2 in
      let R : Book → Type 0 = λ c. Right (keyed policy) (le policy) c call answer in
      ((past, λ c k. subst R (one_book log b c before.1 k) g.0), (g.1.0, (b, before.1, g.1.1), g.1.2))

  pub lawful : (log : Log) (v u : View P) (call : Call) (answer : Answer call) → Made keyed le policy log v → Step keyed le v call answer u → Lawful (keyed policy) (le policy) log call answer
  lawful log v u call answer m s =
      let (past, before) = made_agrees log v m in
      let b = before.0 in
      record {
        past = past;
        book = b;
        kept = before.1;
        one_book = λ c k. one_book log c b k before.1;
        right = (goes b v before.2 call answer u s).0;
      }
