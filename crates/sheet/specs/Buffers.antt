-- Text that is written into a buffer.
use Rattle.std.specs.Prelude.{◌≡◌, ℕ, ◌+◌, ◌≤◌, List, ◌++◌, length, take, drop}
use Rattle.std.specs.Borrow.{Bor}
use Rattle.std.specs.List.{flat_map}

-- lent pieces, one after another
abbrev pub joined : List (Bor (List ℕ)) → List ℕ
joined pieces = flat_map (λ p. p.now) pieces

-- `text` was written at `at`, up to `end`; what stood before and after it is as it was
pub record Written (at : ℕ) (text before after : List ℕ) (end : ℕ) : Type 0 where
  pub upto : end ≡ at + length text
  pub front : take end after ≡ take at before ++ text
  pub back : (n : ℕ) → end ≤ n → drop n after ≡ drop n before

-- `text`, of n bytes, was written from the buffer's beginning, and every later byte is as it was
pub record BeginsWith (text before after : List ℕ) (n : ℕ) : Type 0 where
  pub long : n ≡ length text
  pub bytes : after ≡ text ++ drop n before
