-- The word so far holds the places so far that pass.
use Rattle.std.proofs.Common.{◌≡◌, ℕ, ◌<◌, Bool}
use Rattle.policy.specs.Sets.{word_of}
use Rattle.policy.proofs.sets.set_of.Given as goal

abbrev pub invariant-loop-i : goal.invariant-loop-i
invariant-loop-i g l = (passes : ℕ → Bool) → ((i : ℕ) (told : Bool) → i < 32 → goal.F-post g l.test i told → told ≡ passes i) → l.set ≡ word_of passes l.i
