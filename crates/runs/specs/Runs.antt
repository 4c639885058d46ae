-- Runs of clear bits in a map, and the words and bytes by which they are sought.
-- Assumes nothing.
use Rattle.std.specs.Prelude.{◌≡◌, ℕ, ◌+◌, ◌-◌, ◌*◌, ◌^◌, ◌<◌, ◌≤◌, Bool, true, false, not, List, Option, MatchOption}
use Rattle.rules.specs.Lists.{all, range}
use Rattle.rules.specs.Bytes.{bit_set}
use Rattle.bitmap.specs.Map.{bit_of}

-- a bit of the map is clear
unfoldable pub clear : List ℕ → ℕ → Bool
clear map b = not (bit_set map b)

-- Bit j of r is set where the n bits of the word from j on are clear. A bit past the word's 64 counts as set: the inverse of the word has none there.
pub record Starts (w n r : ℕ) : Type 0 where
  pub each : (j : ℕ) → bit_of r j ≡ all (bit_of (2 ^ 64 - 1 - w)) (range j n)

-- r is the highest set bit from p on and before e, and nothing where none is set
abbrev pub LastSet : List ℕ → ℕ → ℕ → Option ℕ → Type 0
LastSet map p e r =
    MatchOption r ((k : ℕ) → p ≤ k → k < e → bit_set map k ≡ false)
    (λ q. (p ≤ q) × (q < e) × (bit_set map q ≡ true) × ((k : ℕ) → q < k → k < e → bit_set map k ≡ false))

-- r is the sixteen bits of the map from bit 16 k on
pub record Half (map : List ℕ) (k r : ℕ) : Type 0 where
  pub each : (j : ℕ) → j < 16 → bit_of r j ≡ bit_set map (16 * k + j)

-- r is zero where for some m the bits from m on of x and those below m of z are clear: sixteen side by side over two halves
pub record Meets (x z r : ℕ) : Type 0 where
  pub each : (m : ℕ) → ((j : ℕ) → m ≤ j → j < 16 → bit_of x j ≡ false) → ((j : ℕ) → j < m → j < 16 → bit_of z j ≡ false) → r ≡ 0

-- r says so where that is so of a half of the map, from one to another, and the next
pub record AnyMeets (map : List ℕ) (i end : ℕ) (r : Bool) : Type 0 where
  pub each : (k m : ℕ) → i ≤ k → k < end → ((j : ℕ) → m ≤ j → j < 16 → bit_set map (16 * k + j) ≡ false) → ((j : ℕ) → j < m → j < 16 → bit_set map (16 * (k + 1) + j) ≡ false) → r ≡ true

-- no n clear bits that end before e begin from a on and before p
pub record Passed (map : List ℕ) (n a e p : ℕ) : Type 0 where
  pub least : a ≤ p
  pub most : p ≤ e
  pub before : (b : ℕ) → a ≤ b → b < p → b + n ≤ e → all (clear map) (range b n) ≡ false

-- n clear bits begin at p that end before e, and none from a on and before p
pub record LowestAt (map : List ℕ) (n a e p : ℕ) : Type 0 where
  pub passed : Passed map n a e p
  pub inside : p + n ≤ e
  pub found : all (clear map) (range p n) ≡ true

-- r is the first place from a on at which n clear bits begin that end before e, and nothing where there is none
abbrev pub Lowest : List ℕ → ℕ → ℕ → ℕ → Option ℕ → Type 0
Lowest map n a e r = MatchOption r (Passed map n a e e) (LowestAt map n a e)
