-- Each theorem of the endless schedule, by its proof.
use Rattle.schedule.proofs.Hyperperiods.{hyperperiod_is_least, last_offset_is_largest}
use Rattle.schedule.proofs.Ranks.{at_most_m_run}
use Rattle.schedule.proofs.Order.{less_stays_less_over_a_slot, less_stays_less_at_an_instant}
use Rattle.schedule.proofs.Grows.{growth, some_boundaries_agree}
use Rattle.schedule.proofs.Repeats.{repetition, no_miss_lasts}
use Rattle.schedule.proofs.Sustains.{sustainability}
use Rattle.schedule.proofs.Verdicts.{one_verdict}
use Rattle.schedule.proofs.Tells.{settled_verdicts_promise, one_settled_verdict}
use Rattle.schedule.proofs.theorems.Goals as goal

pub returns : goal.returns
returns c =
    record {
      hyperperiod_is_least = hyperperiod_is_least;
      last_offset_is_largest = last_offset_is_largest;
      at_most_m_run = at_most_m_run;
      less_stays_less_over_a_slot = less_stays_less_over_a_slot;
      less_stays_less_at_an_instant = less_stays_less_at_an_instant;
      growth = growth;
      some_boundaries_agree = some_boundaries_agree;
      repetition = repetition;
      no_miss_lasts = no_miss_lasts;
      sustainability = sustainability;
      one_verdict = one_verdict;
      settled_verdicts_promise = settled_verdicts_promise;
      one_settled_verdict = one_settled_verdict;
    }
