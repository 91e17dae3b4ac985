-- The jobs that ran and are active are among the slot's.
use Rattle.std.proofs.Common.{ℕ, sym, ◌∙◌}
use lib.Bits.{bit_and}
use Rattle.std.proofs.lemmas.Bool.{and_parts}
use Rattle.policy.specs.Members.{has, Within}
use Rattle.policy.proofs.Words.{both_has}
use Rattle.policy.proofs.slot.Slot.running.Goals as goal

kept_within : (jobs ran : ℕ) → Within (bit_and jobs ran) jobs
kept_within jobs ran i h on = (and_parts (has jobs i) (has ran i) (sym (both_has jobs ran i) ∙ on)).0

pub last_of-last-requires : goal.last_of-last-requires
last_of-last-requires g c = kept_within c.args.self.now.jobs c.args.ran

pub keeps-requires-clause-within : goal.keeps-requires-clause-within
keeps-requires-clause-within g c = kept_within c.args.self.now.jobs c.args.ran

pub contest-requires-clause-kept : goal.contest-requires-clause-kept
contest-requires-clause-kept g c = kept_within c.args.self.now.jobs c.args.ran
