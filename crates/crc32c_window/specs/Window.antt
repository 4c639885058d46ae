-- A window over the bytes last fed that stands for the register: a byte is added (exclusive or) where a multiple of the generator with few
-- terms allows, further on in the message, and what is left of the message is never longer than the window.
-- Assumes nothing.
use Rattle.std.specs.Prelude.{List, [], ◌∷◌, ℕ, zero, suc, ◌<◌, ◌≡◌, get_or}
use Rattle.std.specs.Int.Bits.{bit_xor}
use Rattle.crc32c_tables.specs.Register.{turns}

-- the sum of the bytes of a history at some places, the newest byte at place 0
unfoldable pub tap_sum : List ℕ → List ℕ → ℕ
tap_sum [] h = 0
tap_sum (k ∷ ks) h = bit_xor (get_or h k 0) (tap_sum ks h)

-- the register that a history stands for, the newest byte first: what was fed is the byte in it with the sum at the places added
unfoldable pub stands : List ℕ → List ℕ → ℕ
stands ks [] = 0
stands ks (v ∷ h) = turns 8 (bit_xor (stands ks h) (bit_xor v (tap_sum ks h)))

-- the n bytes of w below place e, from the highest down
unfoldable pub latest : List ℕ → ℕ → ℕ → List ℕ
latest w e zero = []
latest w zero (suc n) = []
latest w (suc e) (suc n) = get_or w e 0 ∷ latest w e n

-- the places of y^528 + y^400 + y^224 + y^175 + y^103 + 1, a multiple of the generator where y is x^8: 528 less each exponent, less one
abbrev pub taps : List ℕ
taps = 127 ∷ 303 ∷ 352 ∷ 424 ∷ 527 ∷ []

-- the register that the 528 bytes of w below place e stand for
unfoldable pub register_at : List ℕ → ℕ → ℕ
register_at w e = stands taps (latest w e 528)

-- the first n bytes are zero
pub record Clear (w : List ℕ) (n : ℕ) : Type 0 where
  pub zeros : (j : ℕ) → j < n → get_or w j 0 ≡ 0
