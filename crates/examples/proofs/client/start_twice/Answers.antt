-- The calls that were made, the last one first; the law speaks of the bench after them.
use Rattle.bench.specs.Steps.{view}
use Rattle.examples.proofs.Telling.{law_tells}
use Rattle.examples.proofs.client.start_twice.Goals as goal

pub returns-clause-law : goal.returns-clause-law
returns-clause-law c =
    c.verdict-verdict.ensures.law _ _ (
      view c.run-first_run.new.self,
      (
        view c.start-restarted.new.self,
        (
          view c.enter-added.new.self,
          (
            view c.halt-halted.new.self,
            (
              view c.enter-early.new.self,
              (
                view c.run-ran_on.new.self,
                (
                  view c.run-ran.new.self,
                  (
                    view c.start-started.new.self,
                    (
                      view c.load-loaded.new.self,
                      (
                        view c.enter-again.new.self,
                        (
                          view c.enter-entered.new.self,
                          (
                            view c.new-bench.result,
                            c.new-bench.ensures,
                            c.enter-entered.ensures,
                          ),
                          c.enter-again.ensures,
                        ),
                        c.load-loaded.ensures.step,
                      ),
                      c.start-started.ensures,
                    ),
                    c.run-ran.ensures.step,
                  ),
                  c.run-ran_on.ensures.step,
                ),
                c.enter-early.ensures,
              ),
              c.halt-halted.ensures,
            ),
            c.enter-added.ensures,
          ),
          c.start-restarted.ensures,
        ),
        c.run-first_run.ensures.step,
      ),
      c.run-second_run.ensures.step,
    )

pub returns-clause-told : goal.returns-clause-told
returns-clause-told c = law_tells _ (returns-clause-law c)

pub returns-clause-by_law_alone : goal.returns-clause-by_law_alone
returns-clause-by_law_alone c = law_tells
