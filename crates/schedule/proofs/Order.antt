-- Less load stays less, over a slot and over rules 1 and 2.
use Rattle.std.proofs.Common.{◌≡◌, ℕ, ◌-◌, ◌<◌, ◌≤◌, Bool, true, cond, ◌&&◌, ltb, arith}
use Rattle.std.proofs.lemmas.Bool.{ltb-true, lt-ltb, and_parts, and_from}
use Rattle.std.proofs.lemmas.Bool.Decides.{nat_tests}
use Rattle.schedule.specs.Counting.{count_below}
use Rattle.schedule.specs.Schedule.{age, release_at, deadline_at, stands_ahead}
use Rattle.schedule.specs.Claims.{LessStaysLessOverASlot, LessStaysLessAtAnInstant}
use Rattle.schedule.proofs.Sums.{count_mono}

-- a job with c left, of which u stand ahead, against one with c' and u'
one_slot : (b : Bool) (m m' c c' u u' : ℕ) → m' ≤ m → c ≤ c' → (0 < c → u ≤ u') → cond (b && (ltb 0 c && ltb u m)) (c - 1) c ≤ cond (b && (ltb 0 c' && ltb u' m')) (c' - 1) c'
one_slot b m m' c c' u u' hm hc hu = grind (arith, nat_tests)

pub less_stays_less_over_a_slot : LessStaysLessOverASlot
less_stays_less_over_a_slot p m m' t t' c c' hm hc ha i hi =
    one_slot (p.present i) m m' (c i) (c' i) (count_below p.tasks (stands_ahead p t c i)) (count_below p.tasks (stands_ahead p t' c' i)) hm (hc i hi) (λ on. count_mono p.tasks (stands_ahead p t c i) (stands_ahead p t' c' i) (ahead on))
  where
    ahead : 0 < c i → (j : ℕ) → j < p.tasks → stands_ahead p t c i j ≡ true → stands_ahead p t' c' i j ≡ true
    ahead on j hj e =
        let (a, b) = and_parts (ltb 0 (c j)) (p.before j (age p j t) i (age p i t)) e in
        let live : 0 < c j = ltb-true 0 (c j) a in
        and_from (ltb 0 (c' j)) (p.before j (age p j t') i (age p i t')) (lt-ltb 0 (c' j) (omega (arith, hc j hj))) (rw (← ha j hj live, ← ha i hi on) b)

opening : (k a f k' a' f' : Bool) (d d' r r' : ℕ)
    → (k ≡ true → a ≡ true → (k' ≡ true) × (a' ≡ true))
    → d ≤ d'
    → (f' ≡ true → 0 < r → f ≡ true)
    → r ≤ d'
    → r ≤ r'
    → cond (k && a) d (cond f 0 r) ≤ cond (k' && a') d' (cond f' 0 r')
opening k a f k' a' f' d d' r r' hk hd hf h h' = grind arith

pub less_stays_less_at_an_instant : LessStaysLessAtAnInstant
less_stays_less_at_an_instant p w w' i t t' r r' hk hd hf h h' =
    opening (w.kept i) (release_at p i t) (deadline_at p i t) (w'.kept i) (release_at p i t') (deadline_at p i t') (w.demand i t) (w'.demand i t') r r' hk hd hf h h'
