-- CRC-32C as a register of 32 bits that takes the message byte by byte, and the tables by which it takes sixteen bytes at once.
--
-- The register is the remainder of the polynomial division so far: its lowest bit is the coefficient of x^31, and the generator less x^32
-- reads from the low bit up. `proofs/Division.antt` shows that this is the division of the rules.
-- Assumes nothing.
use Rattle.std.specs.Prelude.{List, [], ◌∷◌, ℕ, zero, suc, ◌+◌, ◌*◌, ◌/◌, ◌%◌, ◌<◌, ◌≡◌, get_or}
use Rattle.std.specs.Int.Bits.{bit_xor}

-- the generator less x^32
abbrev pub feedback : ℕ
feedback = 0x82F63B78

-- one step of the division: times x, less the generator where x^32 comes up
unfoldable pub turn : ℕ → ℕ
turn r = bit_xor (r / 2) (r % 2 * feedback)

-- n steps of it
unfoldable pub turns : ℕ → ℕ → ℕ
turns zero r = r
turns (suc n) r = turns n (turn r)

-- the register after these bytes
unfoldable pub fed : ℕ → List ℕ → ℕ
fed r [] = r
fed r (b ∷ bs) = fed (turns 8 (bit_xor r b)) bs

-- the register before the first byte: all ones
abbrev pub begun : ℕ
begun = 0xFFFFFFFF

-- the checksum that a register stands for: its complement
unfoldable pub finished : ℕ → ℕ
finished r = bit_xor r 0xFFFFFFFF

-- entry k of the tables: the byte k % 256 after k / 256 + 1 bytes' worth of steps
unfoldable pub entry : ℕ → ℕ
entry k = turns (8 * (k / 256 + 1)) (k % 256)

-- t is the sixteen tables, one behind the other
pub record Tables (t : List ℕ) : Type 0 where
  pub holds : (k : ℕ) → k < 4096 → get_or t k 0 ≡ entry k
