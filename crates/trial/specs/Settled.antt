-- What a watch knows of its instants is a fact: it has one proof at most.
use Rattle.std.specs.Prelude.{ℕ, ◌<◌, ◌≤◌, Some, None, List, Option, slice_index}
use Rattle.std.specs.Coded.{Coded-set, coded_bool, coded_ℕ, Π_prop, →_prop, le_prop}
use Rattle.task.specs.declared.entry.Entry.{Entry}
use Rattle.task.specs.declared.task.Task.{Task}
use Rattle.task.specs.Tables.{entry_at}
use Rattle.policy.specs.Releases.{Released, Latest}
use Rattle.trial.specs.Calendars.{Soonest}
use Rattle.trial.specs.Places.{Calm, CalmUntil}

released_prop : (e : Entry) (t b : ℕ) → IsProp (Released e t b)
released_prop e t b x y =
    λ i. record {
      begun = le_prop x.begun y.begun i;
      whole = Coded-set coded_ℕ _ _ x.whole y.whole i;
      recent = le_prop x.recent y.recent i;
      first = →_prop (Coded-set coded_ℕ _ _) x.first y.first i;
      short = le_prop x.short y.short i;
    }

place_prop : (o : Option Entry) (t b : ℕ) → IsProp (Latest o t b)
place_prop None t b = Coded-set coded_ℕ _ _
place_prop (Some e) t b = released_prop e t b

instant_prop : (o : Option Entry) (t : ℕ) → IsProp (Calm o t)
instant_prop o t x y =
    λ i. record {
      no_release = Coded-set coded_bool _ _ x.no_release y.no_release i;
      no_deadline = Coded-set coded_bool _ _ x.no_deadline y.no_deadline i;
    }

pub latest_prop : (tasks : List (Option Task)) (t : ℕ) (released : List ℕ) → IsProp ((i : ℕ) → i < 32 → Latest (entry_at tasks i) t (slice_index released i))
latest_prop tasks t released = Π_prop (λ i. →_prop (place_prop (entry_at tasks i) t (slice_index released i)))

pub calm_prop : (tasks : List (Option Task)) (t : ℕ) (events : List ℕ) → IsProp ((i : ℕ) → i < 32 → CalmUntil (entry_at tasks i) t (slice_index events i))
calm_prop tasks t events = Π_prop (λ i. →_prop (Π_prop (λ v. →_prop (→_prop (instant_prop (entry_at tasks i) v)))))

pub grouped_prop : (soonest events : List ℕ) → IsProp ((g : ℕ) → g < 4 → Soonest soonest events g)
grouped_prop soonest events = Π_prop (λ g. →_prop (Π_prop (λ i. →_prop le_prop)))

pub soonest_prop : (calm : ℕ) (soonest : List ℕ) → IsProp ((g : ℕ) → g < 4 → calm ≤ slice_index soonest g)
soonest_prop calm soonest = Π_prop (λ g. →_prop le_prop)
