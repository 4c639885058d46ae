-- Maps of bits, in the terms of the rules: a map with a range of its bits made alike, and the next bit of a kind.
-- Assumes nothing.
use Rattle.std.specs.Prelude.{◌≡◌, Bool, not, ◌&&◌, List, ℕ, ◌*◌, ◌/◌, ◌%◌, ◌^◌, ◌≤◌, ◌<◌, eqb, leb, ltb, length, Option, MatchOption}
use Rattle.rules.specs.Lists.{pick◌then◌else◌}
use Rattle.rules.specs.Bytes.{bit_set, byte_of, bit_bytes}

-- bit k of a number is set
unfoldable pub bit_of : ℕ → ℕ → Bool
bit_of x k = eqb (x / 2 ^ k % 2) 1

-- k is from a on and before e
unfoldable pub within : ℕ → ℕ → ℕ → Bool
within a e k = leb a k && ltb k e

-- the bits from a to e are bits of the map
abbrev pub InMap : List ℕ → ℕ → ℕ → Type 0
InMap m a e = (a ≤ e) × (e ≤ 8 * length m)

-- a byte with its bit k as b says
unfoldable pub with_bit : ℕ → ℕ → Bool → ℕ
with_bit x k b = byte_of 8 (λ j. pick eqb j k then b else bit_of x j) 0

-- a map with its bits from a to e as b says, and the others as they were
unfoldable pub with_bits : Bool → List ℕ → ℕ → ℕ → List ℕ
with_bits b m a e = bit_bytes (length m) (λ k. pick within a e k then b else bit_set m k) 0

-- r is the first bit of the 64 of a word that is b, or 64
pub record First (w : ℕ) (b : Bool) (r : ℕ) : Type 0 where
  pub most : r ≤ 64
  pub before : (j : ℕ) → j < r → bit_of w j ≡ not b
  pub found : r < 64 → bit_of w r ≡ b

-- r is the first bit of the map from a on that is b, or e where none before it is
pub record Next (m : List ℕ) (b : Bool) (a e r : ℕ) : Type 0 where
  pub least : a ≤ r
  pub most : r ≤ e
  pub before : (k : ℕ) → a ≤ k → k < r → bit_set m k ≡ not b
  pub found : r < e → bit_set m r ≡ b

-- r is the first bit of the map from a on and before e that is b, and there is none where nothing stands there
abbrev pub NextBefore : List ℕ → Bool → ℕ → ℕ → Option ℕ → Type 0
NextBefore m b a e r = MatchOption r (Next m b a e e) (λ n. (n < e) × Next m b a e n)
