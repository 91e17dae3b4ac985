-- The last of the jobs of a set, and a set that has one for each CPU and whose last no other job stands before.
use Rattle.std.proofs.Common.{inl, inr, ◌≡◌, ◌≢◌, ℕ, ◌+◌, ◌-◌, ◌<◌, ◌≤◌, ◌^◌, Bool, true, false, cond, ◌⊎◌, not, ◌&&◌, eqb, List, get_or, is_some, Some, None, Option, sym, refl, ap, ◌∙◌, subst, w32, ⊎_elim, arith}
use Rattle.std.proofs.lemmas.Bool.{both_ways, and_from, and_parts, and_right, cases_Bool, cases_eq, cases_lt, eq-eqb, ne_eqb, lt-ltb, le-ltb}
use lib.Bits.{bit_and}
use Rattle.std.specs.Int.{bit_not}
use Rattle.schedule.specs.Counting.{count_below}
use Rattle.schedule.proofs.Sums.{count_mono, count_lt, count_one_more}
use Rattle.schedule.proofs.Counts.{count_zero}
use Rattle.task.specs.declared.entry.Entry.{Entry}
use Rattle.task.specs.Tables.{entry_at}
use Rattle.policy.specs.declared.slot.Slot.{Slot}
use Rattle.policy.specs.declared.choosing.Contest.{Contest}
use Rattle.policy.specs.declared.choosing.Job.{Job}
use Rattle.policy.specs.Dispatch.{key_at, since, ahead_of, count_ahead}
use Rattle.policy.specs.Members.{has, NextIn, Within}
use Rattle.policy.specs.Order.{stands_before}
use Rattle.policy.specs.Slots.{keys_of, later_of, LastOf, LastTo, Met, RunOfMet, RunSoFar, Runs}
use Rattle.policy.proofs.Ranks.{before_itself, before_total, before_through}
use Rattle.policy.proofs.Rising.{first, Turn, next_past}
use Rattle.policy.proofs.Running.{runs_at, runs_of, set_by_ages}
use Rattle.policy.proofs.Words.{none_has, without_has, word_is}

pub same_some : {A : Type 0} (o : Option A) (a b : A) → o ≡ Some a → o ≡ Some b → a ≡ b
same_some o a b e f = let g : Some a ≡ Some b = sym e ∙ f in cc

key_some : {K : Type 0} (keyed : Entry → ℕ → K) (o : Option Entry) (age : ℕ) → is_some o ≡ true → (k : K) × (key_at keyed o age ≡ Some k)
key_some keyed None age h = absurd (cc)
key_some keyed (Some e) age h = (keyed e age, refl)

module _ {P K : Type 0} (keyed : P → Entry → ℕ → K) (le : P → K → K → Bool) (s : Slot P) where
  -- what the last is, where there is one, and where there is none
  pub last_is : (set n : ℕ) (o : Option (Job K)) (job : Job K) → o ≡ Some job → LastTo keyed le s set n o → LastOf keyed le s set n job
  last_is set n o job e h = subst (LastTo keyed le s set n) e h

  pub none_is : (set n : ℕ) (o : Option (Job K)) → ((job : Job K) → o ≡ Some job → ⊥) → LastTo keyed le s set n o → (i : ℕ) → i < n → has set i ≡ false
  none_is set n None e h = h
  none_is set n (Some job) e h = absurd (e job refl)

  -- who is in the slot's set has a key, and nobody else
  pub key_there : (i : ℕ) → i < 32 → has s.jobs i ≡ true → (k : K) × (keys_of keyed s i ≡ Some k)
  key_there i h on =
      let (k, e) = key_some (keyed s.policy.now) (entry_at s.tasks.now i) (since (get_or s.released.now i 0) s.instant) (s.asking i h on).0 in
      (k, ap (λ b. cond b (key_at (keyed s.policy.now) (entry_at s.tasks.now i) (since (get_or s.released.now i 0) s.instant)) None) on ∙ e)

  there_of : (i : ℕ) (k : K) → keys_of keyed s i ≡ Some k → has s.jobs i ≡ true
  there_of i k e =
      ⊎_elim
      (λ (on : has s.jobs i ≡ true). on)
      (λ (off : has s.jobs i ≡ false). let n : None ≡ Some k = sym (ap (λ b. cond b (key_at (keyed s.policy.now) (entry_at s.tasks.now i) (since (get_or s.released.now i 0) s.instant)) None) off) ∙ e in absurd (cc))
      (cases_Bool (has s.jobs i))

  module _ (total : (a b : K) → (le s.policy.now a b ≡ true) ⊎ (le s.policy.now b a ≡ true)) (trans : (a b c : K) → le s.policy.now a b ≡ true → le s.policy.now b c ≡ true → le s.policy.now a c ≡ true) where
    abbrev before : K → ℕ → K → ℕ → Bool
    before = stands_before (le s.policy.now)

    -- of two jobs one stands before the other
    other_way : (a b : K) (i j : ℕ) → i ≢ j → before a i b j ≡ false → before b j a i ≡ true
    other_way a b i j ne behind =
        ⊎_elim
        (λ (first : before a i b j ≡ true). absurd (both_ways (before a i b j) behind first))
        (λ (first : before b j a i ≡ true). first)
        (before_total (le s.policy.now) total a b i j ne)

    -- 1. the last of a set that gets a member more
    module _ (set more n m : ℕ) (job : Job K) (low : job.place < m) (longer : n ≤ m) (is : has more job.place ≡ true) (key : keys_of keyed s job.place ≡ Some job.key)
        (kept : (i : ℕ) → i < n → has set i ≡ true → (i ≢ job.place) × (has more i ≡ true))
        (only : (i : ℕ) → i < m → has more i ≡ true → i ≢ job.place → (i < n) × (has set i ≡ true)) where
      pub later_last : (o : Option (Job K)) → LastTo keyed le s set n o → LastOf keyed le s more m (later_of (le s.policy.now) o job)
      later_last None none =
          record {
            place = low;
            member = is;
            key = key;
            others = λ i k h mem ne e. let was = only i h mem ne in absurd (both_ways (has set i) (none i was.0) was.1);
          }
      later_last (Some a) last =
          let was = kept a.place last.place last.member in
          ⊎_elim
          (λ (first : before job.key job.place a.key a.place ≡ true).
          let L : Bool → Type 0 = λ b. LastOf keyed le s more m (cond b a job) in
          subst L (sym first) (record {
            place = omega (arith, last.place);
            member = was.1;
            key = last.key;
            others = λ i k h mem apart e.
                ⊎_elim
                (λ (at : i ≡ job.place).
                let same : job.key ≡ k = same_some (keys_of keyed s i) job.key k (ap (keys_of keyed s) at ∙ key) e in
                ap (λ n. before k n a.key a.place) at ∙ (ap (λ q. before q job.place a.key a.place) (sym same) ∙ first))
                (λ (off : i ≢ job.place). let old = only i h mem off in last.others i k old.0 old.1 apart e)
                (cases_eq i job.place);
          }))
          (λ (behind : before job.key job.place a.key a.place ≡ false).
          let L : Bool → Type 0 = λ b. LastOf keyed le s more m (cond b a job) in
          let first : before a.key a.place job.key job.place ≡ true = other_way job.key a.key job.place a.place (λ q. was.0 (sym q)) behind in
          subst L (sym behind) (record {
            place = low;
            member = is;
            key = key;
            others = λ i k h mem apart e.
                let old = only i h mem apart in
                ⊎_elim
                (λ (at : i ≡ a.place).
                let same : a.key ≡ k = same_some (keys_of keyed s i) a.key k (ap (keys_of keyed s) at ∙ last.key) e in
                ap (λ n. before k n job.key job.place) at ∙ (ap (λ q. before q a.place job.key job.place) (sym same) ∙ first))
                (λ (off : i ≢ a.place). before_through (le s.policy.now) trans k a.key job.key i a.place job.place (last.others i k old.0 old.1 off e) first)
                (cases_eq i a.place);
          }))
          (cases_Bool (before job.key job.place a.key a.place))

    -- a loop along the members of a set that takes the later one again and again
    module _ (set : ℕ) where
      pub none_yet : (rest : List ℕ) → NextIn set 0 (first rest) → LastTo keyed le s set (first rest) None
      none_yet rest n i h = n.skipped i (omega arith) h

      pub one_later : (i : ℕ) (more : List ℕ) → Turn set i more → (o : Option (Job K)) (job : Job K) → job.place ≡ i → keys_of keyed s i ≡ Some job.key → LastTo keyed le s set i o → LastTo keyed le s set (first more) (Some (later_of (le s.policy.now) o job))
      one_later i more t o job at key last =
          let up = next_past set (i + 1) (first more) (omega (arith, t.within)) t.next in
          later_last set set i (first more) job (omega arith) (omega arith) (ap (has set) at ∙ t.member) (ap (keys_of keyed s) at ∙ key)
          (λ k l mem. (λ q. omega arith, mem))
          (λ k l mem ne. (
            ⊎_elim
                (λ (low : k < i). low)
                (λ (high : i ≤ k). absurd (both_ways (has set k) (t.next.skipped k (let q : k ≢ i = λ e. ne (e ∙ sym at) in omega arith) l) mem))
                (cases_lt k i),
            mem,
          ))
          o last

    -- 2. a set each of whose members stands before each other job, with a CPU for each member and none free while another job is there, is that of the jobs that run
    module _ (set : ℕ) (inside : (i : ℕ) → i < 32 → has set i ≡ true → has s.jobs i ≡ true)
        (ahead : (i j : ℕ) (k l : K) → i < 32 → j < 32 → has set i ≡ true → has set j ≡ false → keys_of keyed s i ≡ Some k → keys_of keyed s j ≡ Some l → before k i l j ≡ true)
        (room : count_below 32 (has set) ≤ s.cpus)
        (full : (j : ℕ) → j < 32 → has s.jobs j ≡ true → has set j ≡ false → s.cpus ≤ count_below 32 (has set)) where
      ahead_member : (i x : ℕ) (k : K) (o : Option K) → i < 32 → x < 32 → has set i ≡ true → keys_of keyed s i ≡ Some k → keys_of keyed s x ≡ o → ahead_of (le s.policy.now) o x k i ≡ true → has set x ≡ true
      ahead_member i x k None hi hx on e f h = absurd (cc)
      ahead_member i x k (Some l) hi hx on e f h =
          ⊎_elim
          (λ (in_set : has set x ≡ true). in_set)
          (λ (off : has set x ≡ false). absurd (both_ways (before l x l x) (before_itself (le s.policy.now) l x) (before_through (le s.policy.now) trans l k l x i x h (ahead i x k l hi hx on off e f))))
          (cases_Bool (has set x))

      runs_in : (i : ℕ) (k : K) → i < 32 → has set i ≡ true → keys_of keyed s i ≡ Some k → runs_of (le s.policy.now) (keys_of keyed s) s.cpus i ≡ true
      runs_in i k h on e =
          ap (runs_at (le s.policy.now) (keys_of keyed s) s.cpus i) e
          ∙ lt-ltb (count_ahead (le s.policy.now) (keys_of keyed s) k i) s.cpus
          (omega (
            arith,
            room,
            count_lt 32 (λ x. ahead_of (le s.policy.now) (keys_of keyed s x) x k i) (has set) i h
                (λ x l q. ahead_member i x k (keys_of keyed s x) h l on e refl q)
                (ap (λ o. ahead_of (le s.policy.now) o i k i) e ∙ before_itself (le s.policy.now) k i)
                on,
          ))

      waits_out : (i : ℕ) (o : Option K) → i < 32 → has set i ≡ false → keys_of keyed s i ≡ o → runs_at (le s.policy.now) (keys_of keyed s) s.cpus i o ≡ false
      waits_out i None h off e = refl
      waits_out i (Some k) h off e =
          le-ltb (count_ahead (le s.policy.now) (keys_of keyed s) k i) s.cpus
          (omega (
            arith,
            full i h (there_of i k e) off,
            count_mono 32 (has set) (λ x. ahead_of (le s.policy.now) (keys_of keyed s x) x k i)
                (λ x l on.
                let (q, f) = key_there x l (inside x l on) in
                ap (λ o. ahead_of (le s.policy.now) o x k i) f ∙ ahead x i q k l h on off f e),
          ))

      member_runs : (i : ℕ) → i < 32 → has set i ≡ runs_of (le s.policy.now) (keys_of keyed s) s.cpus i
      member_runs i h =
          ⊎_elim
          (λ (on : has set i ≡ true). let (k, e) = key_there i h (inside i h on) in on ∙ sym (runs_in i k h on e))
          (λ (off : has set i ≡ false). off ∙ sym (waits_out i (keys_of keyed s i) h off refl))
          (cases_Bool (has set i))

      pub front_runs : set < 2 ^ 32 → Runs keyed le s set
      front_runs low left known =
          word_is (runs_of (le s.policy.now) (keys_of keyed s) s.cpus) set low member_runs
          ∙ set_by_ages (keyed s.policy.now) (le s.policy.now) (entry_at s.tasks.now) left s.jobs s.released.now s.cpus s.instant known

    -- 3. a set with one job for each CPU, whose last has fewer jobs before it than there are CPUs: none of the rest stands before it
    abbrev NoneBefore : (set : ℕ) → Job K → Type 0
    NoneBefore set job = (i : ℕ) (k : K) → i < 32 → has set i ≡ true → keys_of keyed s i ≡ Some k → before k i job.key job.place ≡ false

    module _ (set : ℕ) (low : set < 2 ^ 32) (job : Job K) (inside : Within set s.jobs) (last : LastOf keyed le s set 32 job) where
      abbrev rest : ℕ
      rest = bit_and s.jobs (bit_not w32 set)

      others : (i : ℕ) → i < 32 → has rest i ≡ (has s.jobs i && not (has set i))
      others i h = without_has s.jobs set i (omega arith) h

      abbrev pub ahead_last : ℕ → Bool
      ahead_last j = ahead_of (le s.policy.now) (keys_of keyed s j) j job.key job.place

      -- the others of the set stand before its last, and nobody else outside of the rest does
      other_ahead : (i : ℕ) → i < 32 → has set i ≡ true → i ≢ job.place → ahead_last i ≡ true
      other_ahead i h on ne = let (k, e) = key_there i h (inside i h on) in ap (λ o. ahead_of (le s.policy.now) o i job.key job.place) e ∙ last.others i k h on ne e

      not_itself : ahead_last job.place ≡ false
      not_itself = ap (λ o. ahead_of (le s.policy.now) o job.place job.key job.place) last.key ∙ before_itself (le s.policy.now) job.key job.place

      ahead_there : (i : ℕ) (o : Option K) → keys_of keyed s i ≡ o → ahead_of (le s.policy.now) o i job.key job.place ≡ true → has s.jobs i ≡ true
      ahead_there i None e h = absurd (cc)
      ahead_there i (Some k) e h = there_of i k e

      abbrev known : ℕ → Bool
      known j = ahead_last j && not (has rest j)

      known_is : (i : ℕ) → i < 32 → i ≢ job.place → known i ≡ has set i
      known_is i h ne =
          ⊎_elim
          (λ (on : has set i ≡ true).
          let out : has rest i ≡ false = others i h ∙ and_right (has s.jobs i) (not (has set i)) (ap not on) in
          and_from (ahead_last i) (not (has rest i)) (other_ahead i h on ne) (ap not out) ∙ sym on)
          (λ (off : has set i ≡ false).
          ⊎_elim
          (λ (up : ahead_last i ≡ true).
          let in_rest : has rest i ≡ true = others i h ∙ and_from (has s.jobs i) (not (has set i)) (ahead_there i (keys_of keyed s i) refl up) (ap not off) in
          and_right (ahead_last i) (not (has rest i)) (ap not in_rest) ∙ sym off)
          (λ (down : ahead_last i ≡ false). ap (λ b. b && not (has rest i)) down ∙ sym off)
          (cases_Bool (ahead_last i)))
          (cases_Bool (has set i))

      known_count : count_below 32 (has set) ≡ count_below 32 known + 1
      known_count = count_one_more 32 known (has set) job.place last.place (λ i h ne. known_is i h ne) (ap (λ b. b && not (has rest job.place)) not_itself) last.member

      pub one_less : (count : ℕ) → count ≡ count_below 32 (has set) → (1 ≤ count) × (count - 1 ≡ count_below 32 known)
      one_less count e = (omega (arith, known_count), omega (arith, known_count))

      module _ (busy : count_below 32 (has set) ≡ s.cpus) (few : count_ahead (le s.policy.now) (keys_of keyed s) job.key job.place < s.cpus) where
        none_before : NoneBefore rest job
        none_before i k h on e =
            ⊎_elim
            (λ (up : before k i job.key job.place ≡ true).
            let more : count_below 32 known < count_below 32 ahead_last =
            count_lt 32 known ahead_last i h (λ j l q. (and_parts (ahead_last j) (not (has rest j)) q).0) (and_right (ahead_last i) (not (has rest i)) (ap not on)) (ap (λ o. ahead_of (le s.policy.now) o i job.key job.place) e ∙ up) in
            absurd (omega (arith, known_count)))
            (λ (down : before k i job.key job.place ≡ false). down)
            (cases_Bool (before k i job.key job.place))

        kept_ahead : (i j : ℕ) (k l : K) → i < 32 → j < 32 → has set i ≡ true → has set j ≡ false → keys_of keyed s i ≡ Some k → keys_of keyed s j ≡ Some l → before k i l j ≡ true
        kept_ahead i j k l hi hj on off e f =
            let apart : j ≢ job.place = λ q. both_ways (has set j) off (ap (has set) q ∙ last.member) in
            let in_rest : has rest j ≡ true = others j hj ∙ and_from (has s.jobs j) (not (has set j)) (there_of j l f) (ap not off) in
            let past : before job.key job.place l j ≡ true = other_way l job.key j job.place apart (none_before j l hj in_rest f) in
            ⊎_elim
            (λ (at : i ≡ job.place).
            let same : job.key ≡ k = same_some (keys_of keyed s i) job.key k (ap (keys_of keyed s) at ∙ last.key) e in
            ap (λ n. before k n l j) at ∙ (ap (λ q. before q job.place l j) (sym same) ∙ past))
            (λ (ne : i ≢ job.place). before_through (le s.policy.now) trans k job.key l i job.place j (last.others i k hi on ne e) past)
            (cases_eq i job.place)

        pub kept_runs : Runs keyed le s set
        kept_runs = front_runs set inside kept_ahead (omega (arith, busy)) (λ j h on off. omega (arith, busy)) low

    -- 4. the jobs one after another: at first those that are kept run, and the others are still to come
    module _ (kept rest : ℕ) (rest_is : (i : ℕ) → i < 32 → has rest i ≡ (has s.jobs i && not (has kept i))) (inside : Within kept s.jobs) where
      pub kept_first : (o : Option (Job K)) → LastTo keyed le s kept 32 o → (free : ℕ) → count_below 32 (has kept) + free ≡ s.cpus → kept < 4294967296
          → RunOfMet keyed le s 0 (record { rest = rest; set = kept; last = o; free = free })
      kept_first o last free places word =
          record {
            inside = λ i h on. (inside i h on, inr (rest_is i h ∙ and_right (has s.jobs i) (not (has kept i)) (ap not on)));
            ahead = λ i j k l h m met on off e f. absurd (both_ways (has kept j) off (all_in j m met (there_of j l f)));
            places = places;
            free = λ some i h met on. all_in i h met on;
            last = last;
            word = word;
          }
        where
          all_in : (j : ℕ) → j < 32 → (j < 0) ⊎ (has rest j ≡ false) → has s.jobs j ≡ true → has kept j ≡ true
          all_in j h met on =
              ⊎_elim
              (λ (l : j < 0). absurd (omega arith))
              (λ (off : has rest j ≡ false).
              ⊎_elim
              (λ (in_kept : has kept j ≡ true). in_kept)
              (λ (out : has kept j ≡ false). absurd (both_ways (has rest j) off (rest_is j h ∙ and_from (has s.jobs j) (not (has kept j)) on (ap not out))))
              (cases_Bool (has kept j)))
              met

    -- what was gone through stays so
    still_met : (c : Contest K) (n m j : ℕ) → n ≤ m → Met c n j → Met c m j
    still_met c n m j up met = ⊎_elim (λ (l : j < n). inl (omega arith)) (λ (off : has c.rest j ≡ false). inr off) met

    -- numbers that are not of the rest change nothing
    pub run_on_met : (n m : ℕ) (c : Contest K) → n ≤ m → ((i : ℕ) → n ≤ i → i < m → has c.rest i ≡ false) → RunOfMet keyed le s n c → RunOfMet keyed le s m c
    run_on_met n m c up none r =
        record {
          inside = λ i h on. let was = r.inside i h on in (was.0, still_met c n m i up was.1);
          ahead = λ i j k l h low met on off e f. r.ahead i j k l h low (was_met j met) on off e f;
          places = r.places;
          free = λ some i h met on. r.free some i h (was_met i met) on;
          last = r.last;
          word = r.word;
        }
      where
        was_met : (j : ℕ) → Met c m j → Met c n j
        was_met j met =
            ⊎_elim
            (λ (low : j < m). ⊎_elim (λ (l : j < n). inl l) (λ (h : n ≤ j). inr (none j h low)) (cases_lt j n))
            (λ (off : has c.rest j ≡ false). inr off)
            met

    -- what is said of the jobs gone through is said of those below n, where all that run are below n
    pub all_below : (n : ℕ) (c : Contest K) → n ≤ 32 → ((i : ℕ) → i < 32 → has c.set i ≡ true → i < n) → RunOfMet keyed le s n c → RunSoFar keyed le s n c
    all_below n c top below r =
        record {
          inside = λ i h on. ((r.inside i h on).0, below i h on);
          ahead = λ i j k l h m on off e f. r.ahead i j k l h (omega (arith, top, m)) (inl m) on off e f;
          places = r.places;
          free = λ some i m on. r.free some i (omega (arith, top, m)) (inl m) on;
          last = r.last;
          word = r.word;
        }

    -- what is said of those below n is then said of those below m, where as much is said of the jobs gone through
    pub still_below : (n m : ℕ) (c : Contest K) → n ≤ m → m ≤ 32 → RunSoFar keyed le s n c → RunOfMet keyed le s m c → RunSoFar keyed le s m c
    still_below n m c up top was r = all_below m c top (λ i h on. omega (arith, up, (was.inside i h on).1)) r

    -- at the end it is so of all, and those of the set are the ones that run
    pub all_run : (c : Contest K) → RunSoFar keyed le s 32 c → Runs keyed le s c.set
    all_run c r =
        front_runs c.set (λ i h on. (r.inside i h on).0) (λ i j k l h m on off e f. r.ahead i j k l h m on off e f) (omega (arith, r.places))
        (λ j h on off.
        ⊎_elim
        (λ (some : 0 < c.free). absurd (both_ways (has c.set j) off (r.free some j h on)))
        (λ (none : c.free ≤ 0). omega (arith, r.places))
        (cases_lt 0 c.free))
        (omega (arith, r.word))

    pub all_run_met : (c : Contest K) → RunOfMet keyed le s 32 c → Runs keyed le s c.set
    all_run_met c r = all_run c (all_below 32 c (omega arith) (λ i h on. h) r)

    -- one job more, at n ..
    module _ (c : Contest K) (job : Job K) (low : job.place < 32) (new : has c.rest job.place ≡ true) (key : keys_of keyed s job.place ≡ Some job.key) (r : RunOfMet keyed le s job.place c) where
      abbrev n : ℕ
      n = job.place

      out : has c.set n ≡ false
      out =
          ⊎_elim
          (λ (on : has c.set n ≡ true). ⊎_elim (λ (l : n < n). absurd (omega arith)) (λ (gone : has c.rest n ≡ false). absurd (both_ways (has c.rest n) gone new)) (r.inside n low on).1)
          (λ (off : has c.set n ≡ false). off)
          (cases_Bool (has c.set n))

      here : has s.jobs n ≡ true
      here = there_of n job.key key

      -- who but it was gone through now was so before
      met_before : (j : ℕ) → j ≢ n → Met c (n + 1) j → Met c n j
      met_before j ne met = ⊎_elim (λ (l : j < n + 1). inl (omega arith)) (λ (off : has c.rest j ≡ false). inr off) met

      -- .. where a CPU is free
      module _ (set : ℕ) (is : (i : ℕ) → i < 32 → has set i ≡ cond (eqb i n) true (has c.set i)) where
        with_same : (i : ℕ) → i < 32 → i ≢ n → has set i ≡ has c.set i
        with_same i h ne = is i h ∙ ap (λ b. cond b true (has c.set i)) (ne_eqb i n ne)

        with_it : has set n ≡ true
        with_it = is n low ∙ ap (λ b. cond b true (has c.set n)) (eq-eqb n n refl)

        was_in : (i : ℕ) → i < 32 → i ≢ n → has set i ≡ true → has c.set i ≡ true
        was_in i h ne on = sym (with_same i h ne) ∙ on

        pub one_placed_met : set < 4294967296 → (free : ℕ) → c.free ≡ free + 1 → RunOfMet keyed le s (n + 1) (record { rest = c.rest; set = set; last = Some (later_of (le s.policy.now) c.last job); free = free })
        one_placed_met word free f =
            record {
              inside = λ i h on.
                  ⊎_elim
                  (λ (at : i ≡ n). (ap (has s.jobs) at ∙ here, inl (omega arith)))
                  (λ (ne : i ≢ n). let was = r.inside i h (was_in i h ne on) in (was.0, still_met c n (n + 1) i (omega arith) was.1))
                  (cases_eq i n);
              ahead = λ i j k l h m met on off e g. absurd (both_ways (has set j) off (all_in j m met (there_of j l g)));
              places = omega (arith, r.places, f, count_one_more 32 (has c.set) (has set) n low (λ i h ne. sym (with_same i h ne)) out with_it);
              free = λ some i m met on. all_in i m met on;
              last = later_last c.set set 32 32 job low (omega arith) with_it key (λ i h on. let ne : i ≢ n = λ q. both_ways (has c.set i) (ap (has c.set) q ∙ out) on in (ne, with_same i h ne ∙ on)) (λ i h on ne. (h, was_in i h ne on)) c.last r.last;
              word = word;
            }
          where
            all_in : (j : ℕ) → j < 32 → Met c (n + 1) j → has s.jobs j ≡ true → has set j ≡ true
            all_in j m met on =
                ⊎_elim
                (λ (at : j ≡ n). ap (has set) at ∙ with_it)
                (λ (ne : j ≢ n). with_same j m ne ∙ r.free (omega (arith, f)) j m (met_before j ne met) on)
                (cases_eq j n)

      -- .. where no CPU is free, and a job runs last
      module _ (none_free : c.free ≡ 0) (a : Job K) (last : LastOf keyed le s c.set 32 a) where
        -- that stays before it
        pub one_waits_met : before job.key n a.key a.place ≡ false → LastTo keyed le s c.set 32 c.last → RunOfMet keyed le s (n + 1) c
        one_waits_met behind lasts =
            let apart : n ≢ a.place = λ q. both_ways (has c.set n) out (ap (has c.set) q ∙ last.member) in
            let past : before a.key a.place job.key n ≡ true = other_way job.key a.key n a.place apart behind in
            record {
              inside = λ i h on. let was = r.inside i h on in (was.0, still_met c n (n + 1) i (omega arith) was.1);
              ahead = λ i j k l h m met on off e g.
                  ⊎_elim
                  (λ (at : j ≡ n).
                  let same : job.key ≡ l = same_some (keys_of keyed s j) job.key l (ap (keys_of keyed s) at ∙ key) g in
                  ap (λ x. before k i l x) at ∙ (ap (λ q. before k i q n) (sym same) ∙ before_new i k h on e past))
                  (λ (ne : j ≢ n). r.ahead i j k l h m (met_before j ne met) on off e g)
                  (cases_eq j n);
              places = r.places;
              free = λ some. absurd (omega (arith, none_free));
              last = lasts;
              word = r.word;
            }
          where
            before_new : (i : ℕ) (k : K) → i < 32 → has c.set i ≡ true → keys_of keyed s i ≡ Some k → before a.key a.place job.key n ≡ true → before k i job.key n ≡ true
            before_new i k h on e past =
                ⊎_elim
                (λ (at : i ≡ a.place).
                let same : a.key ≡ k = same_some (keys_of keyed s i) a.key k (ap (keys_of keyed s) at ∙ last.key) e in
                ap (λ x. before k x job.key n) at ∙ (ap (λ q. before q a.place job.key n) (sym same) ∙ past))
                (λ (ne : i ≢ a.place). before_through (le s.policy.now) trans k a.key job.key i a.place n (last.others i k h on ne e) past)
                (cases_eq i a.place)

        -- that waits now
        module _ (goes : before job.key n a.key a.place ≡ true) (others : ℕ) (without : (i : ℕ) → i < 32 → has others i ≡ cond (eqb i a.place) false (has c.set i)) where
          left_in : (i : ℕ) → i < 32 → i ≢ a.place → has others i ≡ has c.set i
          left_in i h ne = without i h ∙ ap (λ b. cond b false (has c.set i)) (ne_eqb i a.place ne)

          gone : has others a.place ≡ false
          gone = without a.place last.place ∙ ap (λ b. cond b false (has c.set a.place)) (eq-eqb a.place a.place refl)

          -- a member of the rest was one, and is not the last
          other : (i : ℕ) → i < 32 → has others i ≡ true → (i ≢ a.place) × (has c.set i ≡ true)
          other i h on =
              let ne : i ≢ a.place = λ q. both_ways (has others i) (ap (has others) q ∙ gone) on in
              (ne, sym (left_in i h ne) ∙ on)

          pub others_inside_met : Within others s.jobs
          others_inside_met i h on = (r.inside i h (other i h on).1).0

          module _ (set : ℕ) (is : (i : ℕ) → i < 32 → has set i ≡ cond (eqb i n) true (has others i)) where
            set_same : (i : ℕ) → i < 32 → i ≢ n → has set i ≡ has others i
            set_same i h ne = is i h ∙ ap (λ b. cond b true (has others i)) (ne_eqb i n ne)

            set_it : has set n ≡ true
            set_it = is n low ∙ ap (λ b. cond b true (has others n)) (eq-eqb n n refl)

            others_out : has others n ≡ false
            others_out =
                ⊎_elim
                (λ (on : has others n ≡ true). absurd (both_ways (has c.set n) out (other n low on).1))
                (λ (off : has others n ≡ false). off)
                (cases_Bool (has others n))

            first_of : (i : ℕ) (k : K) → i < 32 → has set i ≡ true → keys_of keyed s i ≡ Some k → before k i a.key a.place ≡ true
            first_of i k h on e =
                ⊎_elim
                (λ (at : i ≡ n).
                let same : job.key ≡ k = same_some (keys_of keyed s i) job.key k (ap (keys_of keyed s) at ∙ key) e in
                ap (λ x. before k x a.key a.place) at ∙ (ap (λ q. before q n a.key a.place) (sym same) ∙ goes))
                (λ (ne : i ≢ n). let was = other i h (sym (set_same i h ne) ∙ on) in last.others i k h was.1 was.0 e)
                (cases_eq i n)

            pub one_displaces_met : set < 4294967296 → (o : Option (Job K)) → LastTo keyed le s others 32 o → RunOfMet keyed le s (n + 1) (record { rest = c.rest; set = set; last = Some (later_of (le s.policy.now) o job); free = 0 })
            one_displaces_met word o lasts =
                record {
                  inside = λ i h on.
                      ⊎_elim
                      (λ (at : i ≡ n). (ap (has s.jobs) at ∙ here, inl (omega arith)))
                      (λ (ne : i ≢ n). let was = r.inside i h (other i h (sym (set_same i h ne) ∙ on)).1 in (was.0, still_met c n (n + 1) i (omega arith) was.1))
                      (cases_eq i n);
                  ahead = λ i j k l h m met on off e g.
                      let first : before k i a.key a.place ≡ true = first_of i k h on e in
                      ⊎_elim
                      (λ (at : j ≡ a.place).
                      let same : a.key ≡ l = same_some (keys_of keyed s j) a.key l (ap (keys_of keyed s) at ∙ last.key) g in
                      ap (λ x. before k i l x) at ∙ (ap (λ q. before k i q a.place) (sym same) ∙ first))
                      (λ (ne : j ≢ a.place).
                      let apart : j ≢ n = λ q. both_ways (has set j) off (ap (has set) q ∙ set_it) in
                      let was_out : has c.set j ≡ false = sym (left_in j m ne) ∙ (sym (set_same j m apart) ∙ off) in
                      before_through (le s.policy.now) trans k a.key l i a.place j first (r.ahead a.place j a.key l last.place m (met_before j apart met) last.member was_out last.key g))
                      (cases_eq j a.place);
                  places = omega (
                    arith,
                    r.places,
                    none_free,
                    count_one_more 32 (has others) (has set) n low (λ i h ne. sym (set_same i h ne)) others_out set_it,
                    count_one_more 32 (has others) (has c.set) a.place last.place (λ i h ne. left_in i h ne) gone last.member,
                  );
                  free = λ some. absurd (omega arith);
                  last = later_last others set 32 32 job low (omega arith) set_it key (λ i h on. let ne : i ≢ n = λ q. both_ways (has others i) (ap (has others) q ∙ others_out) on in (ne, set_same i h ne ∙ on)) (λ i h on ne. (h, sym (set_same i h ne) ∙ on)) o lasts;
                  word = word;
                }

      -- .. where there is no CPU at all
      pub none_for_it_met : c.free ≡ 0 → ((i : ℕ) → i < 32 → has c.set i ≡ false) → LastTo keyed le s c.set 32 c.last → RunOfMet keyed le s (n + 1) c
      none_for_it_met none_free empty lasts =
          record {
            inside = λ i h on. absurd (both_ways (has c.set i) (empty i h) on);
            ahead = λ i j k l h m met on. absurd (both_ways (has c.set i) (empty i h) on);
            places = r.places;
            free = λ some. absurd (omega (arith, none_free));
            last = lasts;
            word = r.word;
          }

    -- 5. the same of the jobs below a number: as RunSoFar says nothing of the rest, that may be taken for all of the slot's jobs
    abbrev from_all : Contest K → Contest K
    from_all c = record { rest = s.jobs; set = c.set; last = c.last; free = c.free }

    below_there : (n j : ℕ) → (j < n) ⊎ (has s.jobs j ≡ false) → has s.jobs j ≡ true → j < n
    below_there n j met on = ⊎_elim (λ (l : j < n). l) (λ (off : has s.jobs j ≡ false). absurd (both_ways (has s.jobs j) off on)) met

    met_so_far : (n : ℕ) (c : Contest K) → RunSoFar keyed le s n c → RunOfMet keyed le s n (from_all c)
    met_so_far n c r =
        record {
          inside = λ i h on. let was = r.inside i h on in (was.0, inl was.1);
          ahead = λ i j k l h low met on off e f. r.ahead i j k l h (below_there n j met (there_of j l f)) on off e f;
          places = r.places;
          free = λ some i h met on. r.free some i (below_there n i met on) on;
          last = r.last;
          word = r.word;
        }

    so_far_met : (m : ℕ) (c : Contest K) → m ≤ 32 → RunOfMet keyed le s m (from_all c) → RunSoFar keyed le s m c
    so_far_met m c top r =
        let a = all_below m (from_all c) top (λ i h on. let was = r.inside i h on in below_there m i was.1 was.0) r in
        record { inside = a.inside; ahead = a.ahead; places = a.places; free = a.free; last = a.last; word = a.word }

    pub none_run : {rest : ℕ} (n : ℕ) → NextIn s.jobs 0 n → RunSoFar keyed le s n (record { rest = rest; set = 0; last = None; free = s.cpus })
    none_run n next =
        record {
          inside = λ i h on. absurd (both_ways (has 0 i) (none_has i) on);
          ahead = λ i j k l h m on. absurd (both_ways (has 0 i) (none_has i) on);
          places = omega (arith, count_zero 32 (has 0) (λ i h on. both_ways (has 0 i) (none_has i) on));
          free = λ some i h on. absurd (both_ways (has s.jobs i) (next.skipped i (omega arith) h) on);
          last = λ i h. none_has i;
          word = omega arith;
        }

    -- numbers that have no job change nothing
    pub run_on : (n m : ℕ) (c : Contest K) → n ≤ m → m ≤ 32 → ((i : ℕ) → n ≤ i → i < m → has s.jobs i ≡ false) → RunSoFar keyed le s n c → RunSoFar keyed le s m c
    run_on n m c up top none r = so_far_met m c top (run_on_met n m (from_all c) up none (met_so_far n c r))

    -- one job more
    module _ (c : Contest K) (job : Job K) (low : job.place < 32) (key : keys_of keyed s job.place ≡ Some job.key) (r : RunSoFar keyed le s job.place c) where
      job_there : has s.jobs job.place ≡ true
      job_there = there_of job.place job.key key

      was_met : RunOfMet keyed le s job.place (from_all c)
      was_met = met_so_far job.place c r

      module _ (set : ℕ) (is : (i : ℕ) → i < 32 → has set i ≡ cond (eqb i job.place) true (has c.set i)) where
        pub one_placed : set < 4294967296 → (free : ℕ) → c.free ≡ free + 1 → RunSoFar keyed le s (job.place + 1) (record { rest = c.rest; set = set; last = Some (later_of (le s.policy.now) c.last job); free = free })
        one_placed word free f =
            so_far_met (job.place + 1) (record { rest = c.rest; set = set; last = Some (later_of (le s.policy.now) c.last job); free = free }) (omega (arith, low))
            (one_placed_met (from_all c) job low job_there key was_met set is word free f)

      module _ (none_free : c.free ≡ 0) (a : Job K) (last : LastOf keyed le s c.set 32 a) where
        pub one_waits : before job.key job.place a.key a.place ≡ false → LastTo keyed le s c.set 32 c.last → RunSoFar keyed le s (job.place + 1) c
        one_waits behind lasts = so_far_met (job.place + 1) c (omega (arith, low)) (one_waits_met (from_all c) job low job_there key was_met none_free a last behind lasts)

        module _ (goes : before job.key job.place a.key a.place ≡ true) (others : ℕ) (without : (i : ℕ) → i < 32 → has others i ≡ cond (eqb i a.place) false (has c.set i)) where
          pub others_inside : Within others s.jobs
          others_inside = others_inside_met (from_all c) job low job_there key was_met none_free a last goes others without

          module _ (set : ℕ) (is : (i : ℕ) → i < 32 → has set i ≡ cond (eqb i job.place) true (has others i)) where
            pub one_displaces : set < 4294967296 → (o : Option (Job K)) → LastTo keyed le s others 32 o → RunSoFar keyed le s (job.place + 1) (record { rest = c.rest; set = set; last = Some (later_of (le s.policy.now) o job); free = 0 })
            one_displaces word o lasts =
                so_far_met (job.place + 1) (record { rest = c.rest; set = set; last = Some (later_of (le s.policy.now) o job); free = 0 }) (omega (arith, low))
                (one_displaces_met (from_all c) job low job_there key was_met none_free a last goes others without set is word o lasts)

      pub none_for_it : c.free ≡ 0 → ((i : ℕ) → i < 32 → has c.set i ≡ false) → LastTo keyed le s c.set 32 c.last → RunSoFar keyed le s (job.place + 1) c
      none_for_it none_free empty lasts = so_far_met (job.place + 1) c (omega (arith, low)) (none_for_it_met (from_all c) job low job_there key was_met none_free empty lasts)
