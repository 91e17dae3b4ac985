-- The theorems of the endless schedule, each under a sentence that says what it means.
use Rattle.std.specs.Prelude.{◌≡◌, ℕ, suc, ◌+◌, ◌<◌, ◌≤◌, min, true}
use Rattle.schedule.specs.Counting.{count_below}
use Rattle.schedule.specs.Plan.{Plan, Sound, Ranked, Way, plain, Lighter, whole_time}
use Rattle.schedule.specs.Hyperperiod.{last_offset, hyperperiod, LeastCommonMultiple, LargestOffset}
use Rattle.schedule.specs.Schedule.{age, release_at, deadline_at, opened, active, has_cpu, slot, config, NeverMisses, boundary, Agree}
use Rattle.schedule.specs.Verdict.{NoMissBy, Verdict, Fixes}
use Rattle.schedule.specs.Judgement.{Settles, Promises}

-- The computed hyperperiod is the smallest positive number that every period divides ..
abbrev pub HyperperiodIsLeast : Type 0
HyperperiodIsLeast = (p : Plan) → Sound p → LeastCommonMultiple p (hyperperiod p)

-- .. and the computed Omax is the largest offset.
abbrev pub LastOffsetIsLargest : Type 0
LastOffsetIsLargest = (p : Plan) → LargestOffset p (last_offset p)

-- At most m jobs run in a slot: as many as there are CPUs, or all that are active where those are fewer.
abbrev pub AtMostMRun : Type 0
AtMostMRun =
    (p : Plan) → Ranked p → (m t : ℕ) (c : ℕ → ℕ)
    → count_below p.tasks (has_cpu p m t c) ≡ min m (count_below p.tasks (active p c))

-- Less load stays less over a slot: where no job has more left, there are as many CPUs or more, and each active job of the
-- lighter load is as old in both, then after the slot no job has more left ..
abbrev pub LessStaysLessOverASlot : Type 0
LessStaysLessOverASlot =
    (p : Plan) (m m' t t' : ℕ) (c c' : ℕ → ℕ)
    → m' ≤ m
    → ((i : ℕ) → i < p.tasks → c i ≤ c' i)
    → ((i : ℕ) → i < p.tasks → 0 < c i → age p i t ≡ age p i t')
    → (i : ℕ) → i < p.tasks → slot p m t c i ≤ slot p m' t' c' i

-- .. and over rules 1 and 2, where what the lighter load releases the other releases too, no smaller, and where a deadline
-- of the heavier load is one of the lighter's.
abbrev pub LessStaysLessAtAnInstant : Type 0
LessStaysLessAtAnInstant =
    (p : Plan) (w w' : Way) (i t t' r r' : ℕ)
    → (w.kept i ≡ true → release_at p i t ≡ true → (w'.kept i ≡ true) × (release_at p i t' ≡ true))
    → w.demand i t ≤ w'.demand i t'
    → (deadline_at p i t' ≡ true → 0 < r → deadline_at p i t ≡ true)
    → r ≤ w'.demand i t'
    → r ≤ r'
    → opened p w i t r ≤ opened p w' i t' r'

-- Growth: a hyperperiod later no job has less left.
abbrev pub Growth : Type 0
Growth =
    (p : Plan) → Sound p → (m t i : ℕ) → i < p.tasks
    → config p (plain p m) t i ≤ config p (plain p m) (t + hyperperiod p) i

-- The bound: among the first W + 1 pairs of neighbouring boundaries one agrees.
abbrev pub SomeBoundariesAgree : Type 0
SomeBoundariesAgree = (p : Plan) → Sound p → (m : ℕ) → (k : ℕ) × (k ≤ whole_time p) × Agree p (plain p m) k

-- Repetition: from agreeing boundaries on the schedule repeats with the hyperperiod ..
abbrev pub Repetition : Type 0
Repetition =
    (p : Plan) → Sound p → (m k : ℕ) → Agree p (plain p m) k
    → (t i : ℕ) → boundary p k ≤ t → i < p.tasks → config p (plain p m) (t + hyperperiod p) i ≡ config p (plain p m) t i

-- .. so that where no job has missed by the later of them none ever does.
abbrev pub NoMissLasts : Type 0
NoMissLasts =
    (p : Plan) → Sound p → (m k : ℕ) → Agree p (plain p m) k
    → NoMissBy p (plain p m) (boundary p (suc k)) → NeverMisses p (plain p m)

-- Sustainability: where no job misses in the plain way, none misses in a lighter way on as many CPUs or more.
abbrev pub Sustainability : Type 0
Sustainability =
    (p : Plan) (m : ℕ) → NeverMisses p (plain p m)
    → (w : Way) → Lighter p w → m ≤ w.cpus → NeverMisses p w

-- One verdict: after s slots there is one verdict, and no other.
abbrev pub OneVerdict : Type 0
OneVerdict =
    (p : Plan) → Sound p → (w : Way) (s : ℕ)
    → ((v : Verdict) × Fixes p w s v) × ((u v : Verdict) → Fixes p w s u → Fixes p w s v → u ≡ v)

-- A verdict that a trial of n slots comes to keeps the promises, ..
abbrev pub SettledVerdictsPromise : Type 0
SettledVerdictsPromise = (p : Plan) → Sound p → (m n s : ℕ) (v : Verdict) → Settles p m n s v → Promises p m n v

-- .. and there is one such verdict, and no other.
abbrev pub OneSettledVerdict : Type 0
OneSettledVerdict =
    (p : Plan) → Sound p → (m n : ℕ)
    → ((s : ℕ) × (v : Verdict) × Settles p m n s v)
    × ((s u : ℕ) (v w : Verdict) → Settles p m n s v → Settles p m n u w → (s ≡ u) × (v ≡ w))
