-- Greatest common divisors and least common multiples, by what they divide.
use Rattle.std.proofs.Common.{◌≡◌, ℕ, ◌+◌, ◌*◌, ◌/◌, ◌%◌, ◌<◌, sym, ap, ◌∙◌, subst, mul_assoc, mul_comm, add-mul, mul-pos}
use Prim.Native.Nat.{◌∣◌}
use native.Mathlib.Nat.{div-add-mod, dvd_refl, dvd-zero, dvd-add_iff_right, dvd-mod_iff, dvd-mul_right, dvd-mul_left, dvd-mul_left_of_dvd, mul-dvd-mul_left, mul-dvd-mul_right, mul-div_cancel', dvd_of_mul-dvd-mul_left, pos_of_dvd_of_pos}

-- g is the greatest common divisor of a and b: what divides a and b divides it, also where all three are multiplied
pub record Greatest (a b g : ℕ) : Type 0 where
  pub left : g ∣ a
  pub right : g ∣ b
  pub scaled : (d k : ℕ) → d ∣ a * k → d ∣ b * k → d ∣ g * k

-- l is the least common multiple of a and b: it divides each other
pub record Least (a b l : ℕ) : Type 0 where
  pub positive : 0 < l
  pub left : a ∣ l
  pub right : b ∣ l
  pub least : (m : ℕ) → a ∣ m → b ∣ m → l ∣ m

-- a divisor of x * k and y * k divides (x % y) * k
rest_scaled : (d k x y : ℕ) → d ∣ x * k → d ∣ y * k → d ∣ (x % y) * k
rest_scaled d k x y p q =
    let e : x * k ≡ (x / y) * (y * k) + (x % y) * k
    = ap (λ v. v * k) (sym (div-add-mod x y)) ∙ (add-mul (y * (x / y)) (x % y) k ∙ ap (λ v. v + (x % y) * k) (ap (λ v. v * k) (mul_comm y (x / y)) ∙ mul_assoc (x / y) y k)) in
    let h : d ∣ (x / y) * (y * k) = dvd-mul_left_of_dvd d q (x / y) in
    let P : ℕ → Type 0 = λ v. d ∣ v in
    (dvd-add_iff_right d h).1 (subst P e p)

pub greatest_end : (a : ℕ) → Greatest a 0 a
greatest_end a = record { left = dvd_refl a; right = dvd-zero a; scaled = λ d k p q. p }

pub greatest_step : (a b g : ℕ) → Greatest b (a % b) g → Greatest a b g
greatest_step a b g h =
    record { left = (dvd-mod_iff g h.left).0 h.right; right = h.left; scaled = λ d k p q. h.scaled d k q (rest_scaled d k a b p q) }

pub least_from_greatest : (a b g : ℕ) → 0 < a → 0 < b → Greatest a b g → Least a b ((a / g) * b)
least_from_greatest a b g pa pb h =
    let pg : 0 < g = pos_of_dvd_of_pos h.left pa in
    let ea : g * (a / g) ≡ a = mul-div_cancel' g h.left in
    let eb : g * (b / g) ≡ b = mul-div_cancel' g h.right in
    let gl : g * ((a / g) * b) ≡ a * b = sym (mul_assoc g (a / g) b) ∙ ap (λ v. v * b) ea in
    let al : a * (b / g) ≡ (a / g) * b
    = ap (λ v. v * (b / g)) (sym ea ∙ mul_comm g (a / g)) ∙ (mul_assoc (a / g) g (b / g) ∙ ap (λ v. (a / g) * v) eb) in
    let A : ℕ → Type 0 = λ v. a ∣ v in
    let Q : ℕ → Type 0 = λ v. a / g ∣ v in
    record {
      positive = mul-pos (pos_of_dvd_of_pos (subst Q ea (dvd-mul_left (a / g) g)) pa) pb;
      left = subst A al (dvd-mul_right a (b / g));
      right = dvd-mul_left b (a / g);
      least =
          λ m p q.
          let D : ℕ → Type 0 = λ v. v ∣ g * m in
          let B : ℕ → Type 0 = λ v. a * b ∣ v in
          let u : a * b ∣ a * m = mul-dvd-mul_left b a q in
          let v : a * b ∣ b * m = subst B (mul_comm m b) (mul-dvd-mul_right a p b) in
          dvd_of_mul-dvd-mul_left ((a / g) * b) pg (subst D (sym gl) (h.scaled (a * b) m u v));
    }
