-- A time, as a caller lends it and as a card has it.
-- Assumes nothing.
use Rattle.std.specs.Prelude.{ℕ}

-- seconds, and nanoseconds past them
pub record Time : Type 0 where
  pub seconds : ℕ
  pub nanoseconds : ℕ
