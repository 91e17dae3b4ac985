-- Sums and counts below a number, term by term.
use Rattle.std.proofs.Common.{◌≡◌, ◌≢◌, ℕ, zero, suc, ◌+◌, ◌*◌, ◌<◌, ◌≤◌, Bool, true, false, cond, ◌⊎◌, sym, refl, ap, ◌∙◌, inl, inr, ⊎_elim, le_antisymm, add-one, arith}
use Rattle.std.proofs.lemmas.Bool.{cases_lt, cond-true, cond-false}
use Rattle.schedule.specs.Counting.{sum_below, count_below}

pub sum_mono : (n : ℕ) (f g : ℕ → ℕ) → ((i : ℕ) → i < n → f i ≤ g i) → sum_below n f ≤ sum_below n g
unfolding sum_below
sum_mono zero f g h = omega arith
sum_mono (suc n) f g h = omega (arith, h n (omega arith), sum_mono n f g (λ i l. h i (omega arith)))

one_mono : (a b : Bool) → (a ≡ true → b ≡ true) → cond a 1 0 ≤ cond b 1 0
one_mono true b h = rw (h refl) (omega arith)
one_mono false b h = omega arith

pub count_mono : (n : ℕ) (a b : ℕ → Bool) → ((i : ℕ) → i < n → a i ≡ true → b i ≡ true) → count_below n a ≤ count_below n b
count_mono n a b h = sum_mono n (λ j. cond (a j) 1 0) (λ j. cond (b j) 1 0) (λ i l. one_mono (a i) (b i) (h i l))

-- term by term no less: the same terms, or a larger sum
pub sum_same_or_more : (n : ℕ) (f g : ℕ → ℕ) → ((i : ℕ) → i < n → f i ≤ g i) → ((i : ℕ) → i < n → f i ≡ g i) ⊎ (sum_below n f < sum_below n g)
unfolding sum_below
sum_same_or_more zero f g h = inl (λ i l. omega arith)
sum_same_or_more (suc n) f g h =
    let last : f n ≤ g n = h n (omega arith) in
    let rest : sum_below n f ≤ sum_below n g = sum_mono n f g (λ i l. h i (omega arith)) in
    ⊎_elim
    (λ (less : f n < g n). inr (omega arith))
    (λ (more : g n ≤ f n).
    ⊎_elim
    (λ (same : (i : ℕ) → i < n → f i ≡ g i).
    inl (λ i l. ⊎_elim (λ (b : i < n). same i b) (λ (e : n ≤ i). let q : i ≡ n = omega arith in rw q (omega arith)) (cases_lt i n)))
    (λ (b : sum_below n f < sum_below n g). inr (omega arith))
    (sum_same_or_more n f g (λ i l. h i (omega arith))))
    (cases_lt (f n) (g n))

pub sum_none : (f : ℕ → ℕ) → sum_below 0 f ≡ 0
unfolding sum_below
sum_none f = refl

pub sum_more : (n : ℕ) (f : ℕ → ℕ) → sum_below (n + 1) f ≡ f n + sum_below n f
unfolding sum_below
sum_more n f = rw add-one refl

-- terms of at most c each
pub sum_bounded : (n c : ℕ) (f : ℕ → ℕ) → ((i : ℕ) → i < n → f i ≤ c) → sum_below n f ≤ n * c
unfolding sum_below
sum_bounded zero c f h = omega arith
sum_bounded (suc n) c f h = omega (arith, h n (omega arith), sum_bounded n c f (λ i l. h i (omega arith)))

-- a term is no more than the sum
pub term_small : (n : ℕ) (f : ℕ → ℕ) (i : ℕ) → i < n → f i ≤ sum_below n f
unfolding sum_below
term_small zero f i h = absurd (omega arith)
term_small (suc n) f i h =
    ⊎_elim
    (λ (l : i < n). omega (arith, term_small n f i l))
    (λ (g : n ≤ i). let e : i ≡ n = omega arith in rw e (omega arith))
    (cases_lt i n)

pub count_none : (b : ℕ → Bool) → count_below 0 b ≡ 0
count_none b = sum_none (λ j. cond (b j) 1 0)

pub count_more : (n : ℕ) (b : ℕ → Bool) → count_below (n + 1) b ≡ cond (b n) 1 0 + count_below n b
count_more n b = sum_more n (λ j. cond (b j) 1 0)

pub count_same : (n : ℕ) (a b : ℕ → Bool) → ((i : ℕ) → i < n → a i ≡ b i) → count_below n a ≡ count_below n b
count_same n a b h = le_antisymm (count_mono n a b (λ i l e. sym (h i l) ∙ e)) (count_mono n b a (λ i l e. h i l ∙ e))

-- what passes the one test passes the other, and j passes only the other
pub count_lt : (n : ℕ) (a b : ℕ → Bool) (j : ℕ) → j < n → ((i : ℕ) → i < n → a i ≡ true → b i ≡ true) → a j ≡ false → b j ≡ true → count_below n a < count_below n b
unfolding sum_below
count_lt zero a b j l h no_a yes_b = absurd (omega arith)
count_lt (suc n) a b j l h no_a yes_b =
    ⊎_elim
    (λ (k : j < n). omega (arith, one_mono (a n) (b n) (h n (omega arith)), count_lt n a b j k (λ i q. h i (omega arith)) no_a yes_b))
    (λ (k : n ≤ j).
    let e : n ≡ j = omega arith in
    omega (arith, cond-false {A = ℕ} (a n) 1 0 (ap a e ∙ no_a), cond-true {A = ℕ} (b n) 1 0 (ap b e ∙ yes_b), count_mono n a b (λ i q. h i (omega arith))))
    (cases_lt j n)

-- one number more passes
pub count_one_more : (n : ℕ) (a b : ℕ → Bool) (j : ℕ) → j < n → ((i : ℕ) → i < n → i ≢ j → a i ≡ b i) → a j ≡ false → b j ≡ true → count_below n b ≡ count_below n a + 1
unfolding sum_below
count_one_more zero a b j l h no_a yes_b = absurd (omega arith)
count_one_more (suc n) a b j l h no_a yes_b =
    ⊎_elim
    (λ (k : j < n). omega (arith, ap (λ x. cond {A = ℕ} x 1 0) (h n (omega arith) (λ e. omega arith)), count_one_more n a b j k (λ i q. h i (omega arith)) no_a yes_b))
    (λ (k : n ≤ j).
    let e : n ≡ j = omega arith in
    omega (arith, cond-false {A = ℕ} (a n) 1 0 (ap a e ∙ no_a), cond-true {A = ℕ} (b n) 1 0 (ap b e ∙ yes_b), count_same n a b (λ i q. h i (omega arith) (λ f. omega arith))))
    (cases_lt j n)

-- a longer count is no less
pub count_upto : (b : ℕ → Bool) (d n : ℕ) → count_below n b ≤ count_below (n + d) b
unfolding sum_below
count_upto b zero n = let e : n + 0 ≡ n = omega arith in rw e (omega arith)
count_upto b (suc d) n = let e : n + suc d ≡ suc (n + d) = omega arith in rw e (omega (arith, count_upto b d n))

-- from a number on nothing passes, so that a longer count is the same
pub count_stops : (test : ℕ → Bool) (d n : ℕ) → ((k : ℕ) → n ≤ k → k < n + d → test k ≡ false) → count_below (n + d) test ≡ count_below n test
unfolding sum_below
count_stops test zero n h = let e : n + 0 ≡ n = omega arith in rw e refl
count_stops test (suc d) n h =
    let e : n + suc d ≡ suc (n + d) = omega arith in
    rw e (omega (arith, cond-false {A = ℕ} (test (n + d)) 1 0 (h (n + d) (omega arith) (omega arith)), count_stops test d n (λ k l m. h k l (omega arith))))
