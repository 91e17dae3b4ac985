-- Without the lowest member, what is left are the others.
use Rattle.std.proofs.Common.{◌≡◌, ◌<◌, [], ◌∷◌, length, sym, ◌∙◌, arith}
use Rattle.policy.specs.Members.{members_from}
use Rattle.policy.proofs.Rising.{none_from, others, others_from}
use Rattle.policy.proofs.walk.MembersIterator.next.Goals as goal

pub returns-in_err-i-clause-steps : goal.returns-in_err-i-clause-steps
returns-in_err-i-clause-steps c =
    let none : c.args.self.now ≡ [] = sym c.self.view_is ∙ none_from c.self.inside.rest 0 (c.in_err-i.ensures).next in
    rw c.from_residual.ensures (none, none)

pub returns : goal.returns
returns c =
    let s = c.self.inside in
    let i = c.in_ok-i.i in
    let n = (c.in_ok-i.ensures).next in
    let low = (c.in_ok-i.ensures).found in
    let one : c.args.self.now ≡ i ∷ members_from (others s.rest i n low) 0 = sym c.self.view_is ∙ others_from s.rest i n low in
    let fewer : length (members_from (others s.rest i n low) 0) < length c.args.self.now = rw one (omega arith) in
    record {
      steps = one;
      goes = record { on = λ _. (tt, tt, fewer); keeps = tt; rests = λ _. tt };
    }
