-- What a watch says goes on through a calm instant, and where the trial stays.
use Rattle.std.specs.Prelude.{count_ones}
use Rattle.std.proofs.Common.{◌≡◌, true, ℕ, zero, suc, ◌+◌, ◌-◌, ◌/◌, ◌<◌, ◌≤◌, List, get_or, Some, None, Option, sym, ap, ◌∙◌, subst, ⊎_elim, arith}
use Rattle.std.proofs.lemmas.Bool.{both_ways, cases_lt}
use Rattle.task.specs.declared.entry.Entry.{Entry}
use Rattle.task.specs.declared.task.Task.{Task}
use Rattle.task.specs.Tables.{entry_at}
use Rattle.policy.specs.Dispatch.{is_active}
use Rattle.policy.specs.Members.{has}
use Rattle.policy.specs.Releases.{Released, Latest}
use Rattle.trial.specs.declared.trial.Trial.{Trial}
use Rattle.trial.specs.declared.watch.Watch.{Watch}
use Rattle.trial.specs.Calendars.{InGroup}
use Rattle.trial.specs.Places.{releases, Calm}
use Rattle.trial.specs.Slots.{Watched, Marked}
use Rattle.trial.proofs.Ages.{release_again}

goes_on : (e : Entry) (t b : ℕ) → Released e t b → Calm (Some e) (t + 1) → Released e (t + 1) b
goes_on e t b r c =
    record {
      begun = r.begun;
      whole = r.whole;
      recent =
          ⊎_elim
          (λ (l : t + 1 < b + e.period). l)
          (λ (l : b + e.period ≤ t + 1). let at : b + e.period ≡ t + 1 = omega (arith, r.recent) in absurd (both_ways (releases (Some e) (t + 1)) c.no_release (ap (releases (Some e)) (sym at) ∙ release_again e t b r)))
          (cases_lt (t + 1) (b + e.period));
      first = λ l. r.first (omega arith);
      short = r.short;
    }

pub stays : (o : Option Entry) (t b : ℕ) → Latest o t b → Calm o (t + 1) → Latest o (t + 1) b
stays None t b r c = r
stays (Some e) t b r c = goes_on e t b r c

-- and so through as many as are calm
stays_long : (o : Option Entry) (s b d : ℕ) → Latest o s b → ((v : ℕ) → s < v → v ≤ s + d → Calm o v) → Latest o (s + d) b
stays_long o s b zero r c = let at : s ≡ s + 0 = omega arith in let L : ℕ → Type 0 = λ t. Latest o t b in subst L at r
stays_long o s b (suc d) r c =
    let L : ℕ → Type 0 = λ t. Latest o t b in
    let at : s + d + 1 ≡ s + suc d = omega arith in
    subst L at (stays o (s + d) b (stays_long o s b d r (λ v l m. c v l (omega arith))) (c (s + d + 1) (omega arith) (omega arith)))

pub stays_until : (o : Option Entry) (s t b : ℕ) → s ≤ t → Latest o s b → ((v : ℕ) → s < v → v ≤ t → Calm o v) → Latest o t b
stays_until o s t b h r c =
    let at : s + (t - s) ≡ t = omega arith in
    let L : ℕ → Type 0 = λ t. Latest o t b in
    subst L at (stays_long o s b (t - s) r (λ v l m. c v l (omega arith)))

-- a watch waits for no event that comes later than a place's
group_of : (i : ℕ) → InGroup (i / 8) i
group_of i = (omega arith, omega arith)

pub calm_before : (w : Watch) (i : ℕ) → i < 32 → w.calm ≤ get_or w.calendar.events i 0
calm_before w i h = let g : i / 8 < 4 = omega arith in omega (arith, w.soonest (i / 8) g, w.grouped (i / 8) g i (group_of i))

-- the latest releases that a watch has are so still before the next event
pub latest_before : (w : Watch) (i t : ℕ) → i < 32 → w.since ≤ t → t < w.calm → Latest (entry_at w.tasks.now i) t (get_or w.calendar.released i 0)
latest_before w i t h l m = stays_until (entry_at w.tasks.now i) w.since t (get_or w.calendar.released i 0) l (w.latest i h) (λ v p q. w.calm_is i h v p (omega (arith, calm_before w i h)))

-- where the trial stays, what a watch says of its instants and its active jobs stays so, also of a watch that may deny that
-- there are CPUs for all of them where there are
pub watch_stays : (tasks : List (Option Task)) (a b : Trial) (w : Watch) → Marked a b
    → w.since ≤ a.instant → a.instant < w.calm → ((i : ℕ) → i < 32 → has w.calendar.active i ≡ is_active (entry_at tasks) a.left i) → (w.few ≡ true → count_ones w.calendar.active ≤ a.cpus)
    → (w.since ≤ b.instant) × (b.instant < w.calm) × ((i : ℕ) → i < 32 → has w.calendar.active i ≡ is_active (entry_at tasks) b.left i) × (w.few ≡ true → count_ones w.calendar.active ≤ b.cpus)
watch_stays tasks a b w k begun calm active few = (
  omega (arith, begun, k.instant_kept),
  omega (arith, calm, k.instant_kept),
  λ i h. active i h ∙ ap (λ xs. is_active (entry_at tasks) xs i) (sym k.left_kept),
  λ h. omega (arith, few h, k.cpus_kept),
)

-- where the trial stays, it is watched still
pub watched_still : (tasks : List (Option Task)) (a b : Trial) (w : Watch) → Watched tasks a w → Marked a b → Watched tasks b w
watched_still tasks a b w s k =
    let t = watch_stays tasks a b w k s.begun s.not_over s.active_is s.few_are in
    record { tasks_are = s.tasks_are; begun = t.0; not_over = t.1; active_is = t.2; few_are = t.3; are_few = λ h. s.are_few (omega (arith, h, k.cpus_kept)) }
