-- What a change gives: a number and the store that is left.
-- Assumes nothing.
use Rattle.std.specs.Prelude.{[], ℕ}
use Rattle.rules.specs.Store.{Store}
use Rattle.rules.specs.Refusal.{Result}

-- a number with count 0, and the store that was left
abbrev pub numbered : (number : ℕ) (left : Store) → Result
numbered number left = record { number = number; count = 0; store = left; out = [] }
