use Rattle.std.proofs.Common.{arith}
use Rattle.std.specs.Option.{option_to_list}
use Rattle.std.proofs.lemmas.Iterator.{YieldsList-from_slice}
use Rattle.std.proofs.lemmas.Iterator.Adapters.{YieldsList-from_flatten}
use Rattle.std.proofs.lemmas.Iterator.Consumers.{YieldsList-at, YieldsList-turn, YieldsList-end}
use Rattle.task.proofs.Flattened.{place_gives}
use Rattle.sheet.proofs.Listing.{no_more, lent_listed}
use Rattle.sheet.proofs.Writing.{as_text}
use Rattle.sheet.proofs.encode.put_tasks.Goals as goal

pub put_task-end-requires : goal.put_task-end-requires
put_task-end-requires c =
    let e = c.flatten-task-items.ensures in
    let r = YieldsList-from_flatten _ _ (λ y. y.now) option_to_list (λ x j b. place_gives j x.now b.0 b.1) (YieldsList-from_slice c.args.tasks.now cc) e.front e.back e.done in
    let t = YieldsList-turn (YieldsList-at c.into_iter-task-iterator.ensures.into_iter_gives r) c.loop-task.yielded _ c.loop-task.yielded_by _ _ c.in-Some.task c.in-Some.is c.next.ensures.steps in
    omega (arith, no_more c.args.tasks.now, t.0, c.loop-task.invariant.1)

pub returns : goal.returns
returns c =
    let e = c.flatten-task-items.ensures in
    let r = YieldsList-from_flatten _ _ (λ y. y.now) option_to_list (λ x j b. place_gives j x.now b.0 b.1) (YieldsList-from_slice c.args.tasks.now cc) e.front e.back e.done in
    let t = YieldsList-end (YieldsList-at c.into_iter-task-iterator.ensures.into_iter_gives r) c.loop-task.yielded _ c.loop-task.yielded_by _ _ c.in-None.is c.next.ensures.steps in
    record {
      written = as_text c.args.at _ _ _ _ _ (lent_listed c.loop-task.yielded c.args.tasks.now t.0) c.loop-task.invariant.0;
      next = omega (arith, no_more c.args.tasks.now, t.1, c.loop-task.invariant.1);
    }
