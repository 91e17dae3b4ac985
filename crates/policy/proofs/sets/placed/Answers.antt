use Rattle.std.proofs.Common.{◌≡◌, ◌≢◌, eqb, refl, ap, ⊎_elim, w32, arith}
use Rattle.std.proofs.lemmas.Nat.Bits.{bit_at_set_same, bit_at_set_other, bit_at_clear_same, bit_at_clear_other}
use Rattle.std.proofs.lemmas.Bool.{cases_eq, eq-eqb, ne_eqb}
use Rattle.policy.proofs.sets.placed.Goals as goal

pub returns-then-member : goal.returns-then-member
returns-then-member c k h =
    ⊎_elim
    (λ (e : k ≡ c.args.i). rw (e, eq-eqb c.args.i c.args.i refl, c.if-member.true) (ap (λ n. eqb n 1) (bit_at_set_same w32 c.args.set c.args.i (omega (arith, c.if-i-ge32.false)))))
    (λ (ne : k ≢ c.args.i). rw (ne_eqb k c.args.i ne) (ap (λ n. eqb n 1) (bit_at_set_other w32 c.args.set c.args.i (omega (arith, c.if-i-ge32.false)) k ne)))
    (cases_eq k c.args.i)

pub returns-else-member : goal.returns-else-member
returns-else-member c k h =
    ⊎_elim
    (λ (e : k ≡ c.args.i). rw (e, eq-eqb c.args.i c.args.i refl, c.if-member.false) (ap (λ n. eqb n 1) (bit_at_clear_same w32 c.args.set c.args.i (omega (arith, c.if-i-ge32.false)))))
    (λ (ne : k ≢ c.args.i). rw (ne_eqb k c.args.i ne) (ap (λ n. eqb n 1) (bit_at_clear_other w32 c.args.set c.args.i (omega (arith, c.if-i-ge32.false)) k h ne)))
    (cases_eq k c.args.i)
