-- Numbers in bytes: both byte orders, fields packed most significant bit first, single bits, and parts of a buffer.
-- Assumes nothing.
use Rattle.std.specs.Prelude.{List, [], ◌∷◌, ◌++◌, Bool, ℕ, zero, suc, ◌+◌, ◌*◌, ◌/◌, ◌%◌, ◌^◌, ◌-◌, ◌<◌, eqb, length, take, drop, get_or, replicate}
use Rattle.rules.specs.Lists.{pick◌then◌else◌, all}

-- each element is a byte
abbrev pub Bytes : List ℕ → Type 0
Bytes s = (i : ℕ) → get_or s i 0 < 256

-- big-endian: the most significant byte first
unfoldable pub be : List ℕ → ℕ
be [] = 0
be (b ∷ bs) = b * 256 ^ length bs + be bs

-- little-endian: the least significant byte first
unfoldable pub le : List ℕ → ℕ
le [] = 0
le (b ∷ bs) = b + 256 * le bs

-- v in n bytes, big-endian
unfoldable pub be_digits : ℕ → ℕ → List ℕ
be_digits zero v = []
be_digits (suc n) v = v / 256 ^ n % 256 ∷ be_digits n v

-- v in n bytes, little-endian
unfoldable pub le_digits : ℕ → ℕ → List ℕ
le_digits zero v = []
le_digits (suc n) v = v % 256 ∷ le_digits n (v / 256)

-- the n bytes of s from the place at on
unfoldable pub part : ℕ → ℕ → List ℕ → List ℕ
part at n s = take n (drop at s)

-- s with xs in place of the bytes from the place at on
unfoldable pub patch : List ℕ → ℕ → List ℕ → List ℕ
patch s at xs = take at s ++ xs ++ drop (at + length xs) s

-- the first n pieces of w bytes each
unfoldable pub pieces : ℕ → ℕ → List ℕ → List (List ℕ)
pieces w zero bytes = []
pieces w (suc n) bytes = take w bytes ∷ pieces w n (drop w bytes)

-- every byte is zero
unfoldable pub all_zero : List ℕ → Bool
all_zero s = all (λ b. eqb b 0) s

-- s with zeros behind it, n bytes in all
unfoldable pub padded : ℕ → List ℕ → List ℕ
padded n s = s ++ replicate (n - length s) 0

-- the bits of fields that stand side by side
unfoldable pub bits_of : List ℕ → ℕ
bits_of [] = 0
bits_of (w ∷ ws) = w + bits_of ws

-- the fields of these widths in a number, the first in its most significant bits
unfoldable pub unpack : List ℕ → ℕ → List ℕ
unpack [] n = []
unpack (w ∷ ws) n = n / 2 ^ bits_of ws % 2 ^ w ∷ unpack ws n

-- the number that has these values in its fields
unfoldable pub pack : List ℕ → List ℕ → ℕ
pack [] vs = 0
pack (w ∷ ws) [] = 0
pack (w ∷ ws) (v ∷ vs) = v * 2 ^ bits_of ws + pack ws vs

-- "bit n mod 8 of byte n div 8, counted from the low bit", set; past the last byte none is
unfoldable pub bit_set : List ℕ → ℕ → Bool
bit_set s n = eqb (get_or s (n / 8) 0 / 2 ^ (n % 8) % 2) 1

-- the number of n bits whose bit i, from the low end, is set where f (k + i) holds
unfoldable pub byte_of : ℕ → (ℕ → Bool) → ℕ → ℕ
byte_of zero f k = 0
byte_of (suc n) f k = (pick f k then 1 else 0) + 2 * byte_of n f (suc k)

-- n bytes: bit i of them, as `bit_set` counts, is set where f (k + i) holds
unfoldable pub bit_bytes : ℕ → (ℕ → Bool) → ℕ → List ℕ
bit_bytes zero f k = []
bit_bytes (suc n) f k = byte_of 8 f k ∷ bit_bytes n f (8 + k)
