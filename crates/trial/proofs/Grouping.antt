-- An event, place by place: rules 1 and 2, the latest releases, and until when nothing happens after it.
use Rattle.std.proofs.Common.{◌≡◌, ◌≢◌, ℕ, ◌+◌, ◌-◌, ◌*◌, ◌<◌, ◌≤◌, false, cond, ◌⊎◌, ◌&&◌, ltb, List, get_or, min, is_some, Option, sym, refl, ap, ap₂, ◌∙◌, subst, inl, inr, ⊎_elim, arith}
use Rattle.std.proofs.lemmas.Bool.{cases_eq, cases_lt}
use Rattle.task.specs.declared.entry.Entry.{Entry}
use Rattle.policy.specs.Dispatch.{is_active}
use Rattle.policy.specs.Members.{has}
use Rattle.policy.specs.Plans.{time_of}
use Rattle.policy.specs.Releases.{Latest}
use Rattle.policy.specs.Sets.{left_of}
use Rattle.trial.specs.declared.calendar.Calendar.{Calendar}
use Rattle.trial.specs.Calendars.{Awaits, Arrived, Stays, InGroup, Soonest}
use Rattle.trial.specs.Places.{opens, misses, Calm, CalmUntil}
use Rattle.trial.proofs.Watching.{stays}

-- where an instant is calm, rules 1 and 2 leave a job as it is, and it does not miss
pub calm_opens : (o : Option Entry) (t r : ℕ) → Calm o t → r ≡ opens o t r
calm_opens o t r q = sym (ap₂ (λ x y. cond x (time_of o) (cond y 0 r)) q.no_release q.no_deadline)

calm_misses : (o : Option Entry) (t r : ℕ) → Calm o t → misses o t r ≡ false
calm_misses o t r q = ap (λ x. x && ltb 0 r) q.no_deadline

-- 1. a place that is as it was, where at most the first events of the groups are new
abbrev pub with_soonest : Calendar → List ℕ → Calendar
with_soonest c soonest = record { released = c.released; events = c.events; soonest = soonest; active = c.active; due = c.due; missed = c.missed }

pub only_soonest : (c : Calendar) (soonest left : List ℕ) (i : ℕ) → Stays c left (with_soonest c soonest) left i
only_soonest c soonest left i = record { released_kept = refl; events_kept = refl; left_kept = refl; active_kept = refl; due_kept = refl; missed_kept = refl }

pub none_changed : (c : Calendar) (left : List ℕ) (i : ℕ) → Stays c left c left i
none_changed c left i = only_soonest c c.soonest left i

module _ (c d : Calendar) (left end : List ℕ) (i : ℕ) (s : Stays c left d end i) where
  pub stays_on : (b : Calendar) (was : List ℕ) → Stays b was c left i → Stays b was d end i
  stays_on b was r =
      record {
        released_kept = s.released_kept ∙ r.released_kept;
        events_kept = s.events_kept ∙ r.events_kept;
        left_kept = s.left_kept ∙ r.left_kept;
        active_kept = s.active_kept ∙ r.active_kept;
        due_kept = s.due_kept ∙ r.due_kept;
        missed_kept = s.missed_kept ∙ r.missed_kept;
      }

  module _ (at : ℕ → Option Entry) (t : ℕ) where
    same_active : has c.active i ≡ is_active at left i → has d.active i ≡ is_active at end i
    same_active e = s.active_kept ∙ (e ∙ ap (λ r. is_some (at i) && ltb 0 r) (sym s.left_kept))

    pub awaits_still : Awaits at t c left i → Awaits at t d end i
    awaits_still a =
        record {
          latest = subst (Latest (at i) (t - 1)) (sym s.released_kept) a.latest;
          calm = subst (CalmUntil (at i) (t - 1)) (sym s.events_kept) a.calm;
          active_is = same_active a.active_is;
        }

    pub arrived_still : (r : ℕ) → Arrived at t r c left i → Arrived at t r d end i
    arrived_still r a =
        record {
          latest = subst (Latest (at i) t) (sym s.released_kept) a.latest;
          later = omega (arith, a.later, s.events_kept);
          calm = subst (CalmUntil (at i) t) (sym s.events_kept) a.calm;
          left_is = s.left_kept ∙ a.left_is;
          active_is = same_active a.active_is;
          due_is = s.due_kept ∙ a.due_is;
          missed_is = s.missed_kept ∙ a.missed_is;
        }

module _ (at : ℕ → Option Entry) (t : ℕ) where
  -- 2. a place without an event
  pub passes_by : 0 < t → (c : Calendar) (left : List ℕ) (i : ℕ) → Awaits at t c left i → has c.due i ≡ false → has c.missed i ≡ false → t < get_or c.events i 0 → Arrived at t (left_of left i) c left i
  passes_by on c left i a none_due none l =
      let now : (t - 1) + 1 ≡ t = omega arith in
      let calm : Calm (at i) t = a.calm t (omega arith) l in
      record {
        latest = subst (λ u. Latest (at i) u (get_or c.released i 0)) now (stays (at i) (t - 1) (get_or c.released i 0) a.latest (subst (Calm (at i)) (sym now) calm));
        later = l;
        calm = λ v m n. a.calm v (omega arith) n;
        left_is = calm_opens (at i) t (left_of left i) calm;
        active_is = a.active_is;
        due_is = none_due ∙ sym calm.no_deadline;
        missed_is = none ∙ sym (calm_misses (at i) t (left_of left i) calm);
      }

  -- 3. the places of a group, one after another: what is so of those before i
  module _ (g : ℕ) (b : Calendar) (was : List ℕ) where
    pub record Gone (c : Calendar) (left : List ℕ) (soonest i : ℕ) : Type 0 where
      pub arrived : (k : ℕ) → 8 * g ≤ k → k < i → Arrived at t (left_of was k) c left k
      pub others : (k : ℕ) → k < 32 → (k < 8 * g) ⊎ (i ≤ k) → Stays b was c left k
      pub soon : (k : ℕ) → 8 * g ≤ k → k < i → soonest ≤ get_or c.events k 0
      pub later : t < soonest
      pub groups : c.soonest ≡ b.soonest

    pub none_gone : t < 18446744073709551615 → Gone b was 18446744073709551615 (8 * g)
    none_gone l =
        record {
          arrived = λ k h l. absurd (omega arith);
          others = λ k h l. none_changed b was k;
          soon = λ k h l. absurd (omega arith);
          later = l;
          groups = refl;
        }

    module _ (c : Calendar) (left : List ℕ) (soonest i : ℕ) (here : InGroup g i) (low : i < 32) (q : Gone c left soonest i) where
      unchanged : Stays b was c left i
      unchanged = q.others i low (inr (omega arith))

      pub awaits_here : Awaits at t b was i → Awaits at t c left i
      awaits_here a = awaits_still b c was left i unchanged at t a

      pub quiet_here : 0 < t → Awaits at t b was i → has b.due i ≡ false → has b.missed i ≡ false → t < get_or c.events i 0 → Arrived at t (left_of was i) c left i
      quiet_here on a none_due none l =
          let same : left_of left i ≡ left_of was i = unchanged.left_kept in
          subst (λ r. Arrived at t r c left i) same (passes_by on c left i (awaits_here a) (unchanged.due_kept ∙ none_due) (unchanged.missed_kept ∙ none) l)

      pub arrives_here : (d : Calendar) (end : List ℕ) → Arrived at t (left_of left i) d end i → Arrived at t (left_of was i) d end i
      arrives_here d end a = subst (λ r. Arrived at t r d end i) unchanged.left_kept a

      pub one_gone : (d : Calendar) (end : List ℕ) → Arrived at t (left_of was i) d end i → ((k : ℕ) → k < 32 → k ≢ i → Stays c left d end k) → d.soonest ≡ c.soonest
          → Gone d end (min soonest (get_or d.events i 0)) (i + 1)
      one_gone d end a s e =
          record {
            arrived =
                λ k h l.
                ⊎_elim
                (λ (x : k ≡ i). let same : i ≡ k = omega arith in subst (λ n. Arrived at t (left_of was n) d end n) same a)
                (λ (ne : k ≢ i). arrived_still c d left end k (s k (omega arith) ne) at t (left_of was k) (q.arrived k h (omega arith)))
                (cases_eq k i);
            others = λ k h l. let ne : k ≢ i = ⊎_elim (λ (x : k < 8 * g). omega arith) (λ (x : i + 1 ≤ k). omega arith) l in stays_on c d left end k (s k h ne) b was (q.others k h (⊎_elim (λ (x : k < 8 * g). inl x) (λ (x : i + 1 ≤ k). inr (omega arith)) l));
            soon =
                λ k h l.
                ⊎_elim
                (λ (x : k ≡ i). let same : i ≡ k = omega arith in subst (λ n. min soonest (get_or d.events i 0) ≤ get_or d.events n 0) same (omega arith))
                (λ (ne : k ≢ i). omega (arith, q.soon k h (omega arith), (s k (omega arith) ne).events_kept))
                (cases_eq k i);
            later = omega (arith, q.later, a.later);
            groups = e ∙ q.groups;
          }

  -- 4. the groups, one after another: what is so of those before g
  module _ (b : Calendar) (was : List ℕ) where
    pub record Swept (c : Calendar) (left : List ℕ) (g : ℕ) : Type 0 where
      pub arrived : (i : ℕ) → i < 8 * g → Arrived at t (left_of was i) c left i
      pub others : (i : ℕ) → i < 32 → 8 * g ≤ i → Stays b was c left i
      pub soon : (h : ℕ) → h < 4 → Soonest c.soonest c.events h
      pub later : (h : ℕ) → h < g → t < get_or c.soonest h 0

    pub none_swept : ((h : ℕ) → h < 4 → Soonest b.soonest b.events h) → Swept b was 0
    none_swept soon =
        record {
          arrived = λ i h. absurd (omega arith);
          others = λ i h l. none_changed b was i;
          soon = soon;
          later = λ h l. absurd (omega arith);
        }

    module _ (c : Calendar) (left : List ℕ) (g : ℕ) (low : g < 4) (q : Swept c left g) where
      unswept : (i : ℕ) → InGroup g i → Stays b was c left i
      unswept i h = q.others i (omega (arith, h.1)) h.0

      pub group_awaits : ((i : ℕ) → i < 32 → Awaits at t b was i) → (i : ℕ) → InGroup g i → Awaits at t c left i
      group_awaits a i h = awaits_still b c was left i (unswept i h) at t (a i (omega (arith, h.1)))

      pub group_missed : ((i : ℕ) → has b.missed i ≡ false) → (i : ℕ) → InGroup g i → has c.missed i ≡ false
      group_missed none i h = (unswept i h).missed_kept ∙ none i

      pub group_due : ((i : ℕ) → has b.due i ≡ false) → (i : ℕ) → InGroup g i → has c.due i ≡ false
      group_due none i h = (unswept i h).due_kept ∙ none i

      pub group_left : (i : ℕ) → InGroup g i → left_of left i ≡ left_of was i
      group_left i h = (unswept i h).left_kept

      -- a group with no event
      pub group_passed_by : 0 < t → ((i : ℕ) → i < 32 → Awaits at t b was i) → ((i : ℕ) → has b.due i ≡ false) → ((i : ℕ) → has b.missed i ≡ false) → t < get_or c.soonest g 0
          → (i : ℕ) → InGroup g i → Arrived at t (left_of was i) c left i
      group_passed_by on a none_due none l i h =
          subst (λ r. Arrived at t r c left i) (group_left i h)
          (passes_by on c left i (group_awaits a i h) (group_due none_due i h) (group_missed none i h) (omega (arith, l, q.soon g low i h)))

      module _ (d : Calendar) (end : List ℕ) (here : (i : ℕ) → InGroup g i → Arrived at t (left_of was i) d end i)
          (rest : (i : ℕ) → i < 32 → (InGroup g i → ⊥) → Stays c left d end i)
          (soonest : Soonest d.soonest d.events g) (next : t < get_or d.soonest g 0)
          (same : (h : ℕ) → h < 4 → h ≢ g → get_or d.soonest h 0 ≡ get_or c.soonest h 0) where
        outside : (h i : ℕ) → InGroup h i → h ≢ g → InGroup g i → ⊥
        outside h i x ne y = ne (omega (arith, x.0, x.1, y.0, y.1))

        before : (i : ℕ) → i < 8 * g → InGroup g i → ⊥
        before i l y = omega (arith, y.0)

        pub one_swept : Swept d end (g + 1)
        one_swept =
            record {
              arrived =
                  λ i h.
                  ⊎_elim
                  (λ (l : i < 8 * g). arrived_still c d left end i (rest i (omega arith) (before i l)) at t (left_of was i) (q.arrived i l))
                  (λ (m : 8 * g ≤ i). here i (m, omega arith))
                  (cases_lt i (8 * g));
              others = λ i h l. stays_on c d left end i (rest i h (λ y. omega (arith, y.1))) b was (q.others i h (omega arith));
              soon =
                  λ h l.
                  ⊎_elim
                  (λ (e : h ≡ g). let back : g ≡ h = omega arith in subst (λ n. Soonest d.soonest d.events n) back soonest)
                  (λ (ne : h ≢ g). λ i x. omega (arith, same h l ne, q.soon h l i x, (rest i (omega (arith, x.1)) (outside h i x ne)).events_kept))
                  (cases_eq h g);
              later =
                  λ h l.
                  ⊎_elim
                  (λ (e : h ≡ g). let back : g ≡ h = omega arith in subst (λ n. t < get_or d.soonest n 0) back next)
                  (λ (ne : h ≢ g). omega (arith, same h (omega arith) ne, q.later h (omega arith)))
                  (cases_eq h g);
            }
