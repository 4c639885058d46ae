-- Two maps of the same blocks, bit by bit: a test that each block of a range is to pass.
-- Assumes nothing.
use Rattle.std.specs.Prelude.{◌≡◌, Bool, not, ◌&&◌, ◌||◌, List, ℕ, ◌+◌, ◌%◌, ◌<◌, length}
use Rattle.rules.specs.Bytes.{bit_set}
use Rattle.bitmap.specs.Map.{bit_of}

-- the maps have as many bytes, in whole words of 64 bits
abbrev pub SameWords : List ℕ → List ℕ → Type 0
SameWords m x = (length m % 8 ≡ 0) × (length x ≡ length m)

-- the bit is set in the first map and clear in the second
unfoldable pub only : List ℕ → List ℕ → ℕ → Bool
only m x k = bit_set m k && not (bit_set x k)

-- the bit is clear in the second map, or set in the first too
unfoldable pub inside : List ℕ → List ℕ → ℕ → Bool
inside m x k = not (bit_set x k) || bit_set m k

-- of the 64 bits from a on, those that pass the test are the ones that are set in the word
pub record Holds (f : ℕ → Bool) (a w : ℕ) : Type 0 where
  pub bits : (j : ℕ) → j < 64 → bit_of w j ≡ f (a + j)
