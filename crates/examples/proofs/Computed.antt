-- The whole table by one test, which antt computes.
use Rattle.std.proofs.Common.{◌≡◌, true, refl}
use Rattle.schedule.specs.Counting.{sum_below, largest_below}
use Rattle.schedule.specs.Hyperperiod.{gcd_within, lcm_below}
use Rattle.policy.specs.Sets.{word_of}
use Rattle.examples.specs.Rows.{rows, AllRight}
use Rattle.examples.proofs.Checks.{all_right_test, all_right_so}

computed : all_right_test rows ≡ true
unfolding sum_below largest_below gcd_within lcm_below word_of
computed = refl

pub all_right : AllRight
all_right = all_right_so rows computed
