-- What a slot knows of its jobs is a fact: it has one proof at most.

use Rattle.std.specs.Prelude.{ℕ, List, Option}
use Rattle.std.specs.Coded.{Coded-set, coded_bool, coded_ℕ, Π_prop, →_prop, ×_prop}
use Rattle.task.specs.declared.entry.Entry.{Entry}
use Rattle.policy.specs.Dispatch.{Asking}

pub asking_prop : (at : ℕ → Option Entry) (set : ℕ) (released : List ℕ) (t : ℕ) → IsProp (Asking at set released t)
asking_prop at set released t = Π_prop (λ i. →_prop (→_prop (×_prop (Coded-set coded_bool _ _) (Coded-set coded_ℕ _ _))))
