-- CRC-32C as RFC 3720 states it (12.1 and B.4): the remainder of a polynomial division over the bits of the message.
--
-- A polynomial with coefficients modulo 2 is the list of its coefficients, the highest power first.
-- Assumes nothing.
use mathlib.Core.List.{List, [], ◌∷◌, ◌++◌, map, flat_map, reverse}
use Rattle.std.specs.Prelude.{ℕ, zero, suc, ◌+◌, ◌*◌, ◌/◌, ◌%◌, length, get_or, take, drop, replicate}

-- the n low bits of a number, the lowest first
unfoldable pub bits : ℕ → ℕ → List ℕ
bits zero v = []
bits (suc n) v = v % 2 ∷ bits n (v / 2)

-- the number whose bits these are, the lowest first
unfoldable pub from_bits : List ℕ → ℕ
from_bits [] = 0
from_bits (b ∷ bs) = b + 2 * from_bits bs

-- the generator 0x11EDC6F41: x^32 and 32 coefficients below it
unfoldable pub generator : List ℕ
generator = reverse (bits 33 0x11EDC6F41)

-- the message: its bits in the order of its bytes, the low bit of each byte first, are the coefficients from the highest power down
unfoldable pub message : List ℕ → List ℕ
message bytes = flat_map (bits 8) bytes

-- the other value of a coefficient
unfoldable pub complement : ℕ → ℕ
complement c = (c + 1) % 2

-- the message times x^32, its first 32 coefficients complemented
unfoldable pub dividend : List ℕ → List ℕ
dividend m = map complement (take 32 (m ++ replicate 32 0)) ++ drop 32 (m ++ replicate 32 0)

-- p less c times g, the leading coefficients of both aligned (modulo 2 a difference is a sum)
unfoldable pub less_times : ℕ → List ℕ → List ℕ → List ℕ
less_times c [] p = p
less_times c (g ∷ gs) [] = []
less_times c (g ∷ gs) (a ∷ p) = (a + c * g) % 2 ∷ less_times c gs p

-- n steps of long division by the generator: the multiple of it that clears p's leading coefficient is taken off
unfoldable pub divide : ℕ → List ℕ → List ℕ
divide zero p = p
divide (suc n) p = divide n (drop 1 (less_times (get_or p 0 0) generator p))

-- one step for each coefficient of the message leaves the remainder; complemented, with its coefficient of x^31 as the low bit, it is the CRC
unfoldable pub crc32c : List ℕ → ℕ
crc32c bytes = from_bits (map complement (divide (length (message bytes)) (dividend (message bytes))))
