-- How a slot ends: which jobs miss, and whether the new instant is a boundary.
use Rattle.std.proofs.Common.{◌≡◌, ℕ, ◌+◌, ◌<◌, ◌≤◌, true, false, ◌&&◌, ltb, sym, ap, ◌∙◌, subst, ⊎_elim, arith}
use Rattle.std.proofs.lemmas.Bool.{cases_Bool}
use Rattle.schedule.specs.Plan.{Plan}
use Rattle.schedule.specs.Schedule.{deadline_at}
use Rattle.policy.specs.Members.{has}
use Rattle.policy.proofs.Each.{EachTo}
use Rattle.policy.specs.Sets.{left_of, word_of}
use Rattle.policy.proofs.Words.{word_has}
use Rattle.trial.specs.declared.trial.Trial.{Trial}
use Rattle.trial.specs.Slots.{Passes, Marked}
use Rattle.trial.specs.Trials.{NonePasses, Lowest, Equal, after_slot, missing, Moved, Between, Passed, Repeated, Undecided, here, on}

-- Jobs that come to their deadlines, and those of them that miss: a loop along the former finds the lowest of the latter.
module _ (p : Plan) (a : Trial) (due : ℕ) (is : due ≡ word_of (λ i. deadline_at p i (a.instant + 1)) 32) where
  in_time : (i : ℕ) → i < 32 → has due i ≡ false → missing p a i ≡ false
  in_time i h off = ap (λ x. x && ltb 0 (after_slot p a i)) (sym (word_has (λ i. deadline_at p i (a.instant + 1)) due i is h) ∙ off)

  up_to : (n : ℕ) → n ≤ 32 → EachTo due (λ k. missing p a k ≡ false) n → (i : ℕ) → i < n → missing p a i ≡ false
  up_to n top each i l =
      ⊎_elim
      (λ (on : has due i ≡ true). each i l on)
      (λ (off : has due i ≡ false). in_time i (omega arith) off)
      (cases_Bool (has due i))

  module _ (missed : ℕ) (tells : (i : ℕ) → i < 32 → has due i ≡ true → has missed i ≡ missing p a i) where
    in_time_to : (n : ℕ) → n ≤ 32 → EachTo due (λ k. has missed k ≡ false) n → EachTo due (λ k. missing p a k ≡ false) n
    in_time_to n top each k l there = sym (tells k (omega arith) there) ∙ each k l there

    pub none_misses : (n : ℕ) → n ≡ 32 → EachTo due (λ k. has missed k ≡ false) n → NonePasses (missing p a)
    none_misses n all each i h = up_to n (omega arith) (in_time_to n (omega arith) each) i (omega arith)

    pub lowest_misses : (i n : ℕ) → n ≡ i → i < 32 → has due i ≡ true → EachTo due (λ k. has missed k ≡ false) n → has missed i ≡ true → Lowest (missing p a) i
    lowest_misses i n at h there each late = (h, sym (tells i h there) ∙ late, λ j l. up_to n (omega arith) (in_time_to n (omega arith) each) j (omega arith))

-- after n undecided slots
pub undecided_at : (p : Plan) (a : Trial) {b : Trial} {n : ℕ} → Undecided p a n b → b.instant ≡ a.instant + n
undecided_at p a here = omega arith
undecided_at p a (on ch mv told) = omega (arith, undecided_at p a ch, mv.later)

module _ (p : Plan) (a : Trial) (due : ℕ) (b : Trial) (s : Passes p a due b) where
  pub between_now : (b.instant ≡ b.next → ⊥) → Between a b
  between_now ne =
      record {
        not_yet = λ e. ne (s.moved.later ∙ (sym e ∙ sym s.boundaries.next_kept));
        kept = s.boundaries;
      }

  at_next : b.instant ≡ b.next → a.next ≡ a.instant + 1
  at_next e = sym s.boundaries.next_kept ∙ (sym e ∙ s.moved.later)

  pub repeated_now : b.instant ≡ b.next → b.start < b.next → Equal b.left b.saved → Repeated a b
  repeated_now e l q =
      record {
        kept = s.boundaries;
        reached = at_next e;
        second = omega (arith, s.boundaries.next_kept, s.moved.start_kept);
        equal = subst (Equal b.left) s.boundaries.saved_kept q;
      }

  module _ (c : Trial) (k : Marked b c) where
    pub moved_on : Moved p a c
    moved_on =
        record {
          early = s.moved.early;
          cpus_kept = k.cpus_kept ∙ s.moved.cpus_kept;
          start_kept = k.start_kept ∙ s.moved.start_kept;
          span_kept = k.span_kept ∙ s.moved.span_kept;
          later = k.instant_kept ∙ s.moved.later;
          ran_is = k.ran_kept ∙ s.moved.ran_is;
          left_is = λ i h. ap (λ xs. left_of xs i) k.left_kept ∙ s.moved.left_is i h;
        }

    pub passed_now : b.instant ≡ b.next → (b.start < b.next → ¬ Equal b.left b.saved) → Passed a c
    passed_now e differ =
        record {
          reached = at_next e;
          next_is = omega (arith, k.next_is, s.boundaries.next_kept, s.moved.span_kept);
          last_is = k.last_is ∙ s.boundaries.next_kept;
          saved_is = k.saved_is ∙ sym k.left_kept;
          differs = λ l q. differ (omega (arith, s.boundaries.next_kept, s.moved.start_kept)) (subst (Equal b.left) (sym s.boundaries.saved_kept) (subst (λ xs. Equal xs a.saved) k.left_kept q));
        }
