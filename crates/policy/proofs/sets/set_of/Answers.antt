-- Each place that passes sets its bit.
use Rattle.std.proofs.Common.{◌≡◌, ◌∙◌, sym}
use Rattle.policy.proofs.Words.{word_none, word_set, word_keep}
use Rattle.policy.proofs.sets.set_of.Goals as goal
use Rattle.policy.proofs.sets.set_of.Goals.{then-test, else-test}

pub loop-i-init : goal.loop-i-init
loop-i-init g c passes told = sym (word_none passes)

pub loop-i-preserved : goal.loop-i-preserved
loop-i-preserved g c passes told =
    let i = c.loop-i.i in
    let here : c.test.result ≡ passes i = told i c.test.result c.loop-i-test.true c.test.ensures in
    let so_far = c.loop-i.invariant passes told in
    elim c.if-test.branch [
      | then-test w ↦ w.set-is ∙ word_set passes i c.loop-i.set c.loop-i-test.true so_far (sym here ∙ w.if-test.true)
      | else-test w ↦ w.set-is ∙ word_keep passes i c.loop-i.set so_far (sym here ∙ w.if-test.false)
    ]
