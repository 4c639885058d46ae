-- The division of the rules is the register: a polynomial's coefficients, the highest power first, are the bits of a number from the lowest up,
-- and a step of the long division is a step of the register.
-- Assumes nothing.
use mathlib.Core.Path.{◌≡◌, refl, sym, ap, ap₂, ◌∙◌}
use mathlib.Core.List.{List, [], ◌∷◌, ◌++◌, map, flat_map}
use Prim.Native.Nat.{ℕ, zero, suc, ◌+◌, ◌-◌, ◌*◌, ◌/◌, ◌%◌, ◌^◌, ◌<◌}
use native.Mathlib.Nat.{pow-suc, mul_assoc, mul_comm, add-zero, zero-add, suc-add, add_comm, mul-zero, one-mul, zero-mul}
use native.Mathlib.Omega.{arith}
use lib.ListN.{length, get_or, take, drop, replicate}
use lib.Pow.{pow_pos, pow-add}
use lib.Bits.{bit_xor, xor_zero_l, xor_zero_r, xor_comm, xor_lt}
use Rattle.rules.specs.Bytes.{le, Bytes}
use Rattle.rules.specs.Crc32c.{bits, from_bits, generator, message, complement, dividend, less_times, divide, crc32c}
use Rattle.rules.proofs.ByteLaws.{le-lt}
use Rattle.crc32c_tables.specs.Register.{feedback, turn, turns, fed, begun, finished}
use Rattle.crc32c_tables.proofs.XorLaws.{xor-half, xor_low}
use Rattle.crc32c_tables.proofs.RegisterLaws.{fed-lt, fed-le}

length-bits : (n v : ℕ) → length (bits n v) ≡ n
unfolding bits
length-bits zero v = refl
length-bits (suc n) v = ap suc (length-bits n (v / 2))

pub from_bits-bits : (n v : ℕ) → v < 2 ^ n → from_bits (bits n v) ≡ v
unfolding from_bits bits
from_bits-bits zero v h = omega arith
from_bits-bits (suc n) v h =
    let p : 2 ^ suc n ≡ 2 ^ n * 2 = pow-suc 2 n in
    rw (from_bits-bits n (v / 2) (omega arith)) (omega arith)

-- ---- the step

-- c times a polynomial of k coefficients, taken off, is an exclusive or
less_times-bits : (k n c g x : ℕ) → c < 2 → g < 2 ^ k → less_times c (bits k g) (bits (k + n) x) ≡ bits (k + n) (bit_xor x (c * g))
unfolding less_times bits
less_times-bits zero n c g x l h =
    let z : g ≡ 0 = omega arith in
    rw (z, mul-zero c, xor_zero_r x) refl
less_times-bits (suc k) n zero g x l h =
    let p : 2 ^ suc k ≡ 2 ^ k * 2 = pow-suc 2 k in
    let e : (x % 2 + 0 * (g % 2)) % 2 ≡ x % 2 = omega arith in
    rw (suc-add k n, zero-mul g, xor_zero_r x)
    (ap₂ (λ (a : ℕ) (t : List ℕ). a ∷ t) e (less_times-bits k n 0 (g / 2) (x / 2) l (omega arith) ∙ rw (zero-mul (g / 2), xor_zero_r (x / 2)) refl))
less_times-bits (suc k) n (suc zero) g x l h =
    let p : 2 ^ suc k ≡ 2 ^ k * 2 = pow-suc 2 k in
    let e : (x % 2 + 1 * (g % 2)) % 2 ≡ (x + g) % 2 = omega arith in
    rw (suc-add k n, one-mul g, xor_low x g, xor-half x g)
    (ap₂ (λ (a : ℕ) (t : List ℕ). a ∷ t) e (less_times-bits k n 1 (g / 2) (x / 2) l (omega arith) ∙ rw (one-mul (g / 2)) refl))
less_times-bits (suc k) n (suc (suc c)) g x l h = absurd (omega arith)

generator-bits : generator ≡ 1 ∷ bits 32 feedback
unfolding generator bits
generator-bits = refl

-- one step of the long division, on 32 + n coefficients below the leading one
divide-step : (n y : ℕ) → drop 1 (less_times (get_or (bits (suc (32 + n)) y) 0 0) generator (bits (suc (32 + n)) y)) ≡ bits (32 + n) (turn y)
unfolding less_times bits turn
divide-step n y = rw generator-bits (less_times-bits 32 n (y % 2) feedback (y / 2) (omega arith) (omega arith))

-- n steps leave the 32 coefficients of the register after n turns
pub divide-turns : (n y : ℕ) → divide n (bits (32 + n) y) ≡ bits 32 (turns n y)
unfolding divide turns
divide-turns zero y = refl
divide-turns (suc n) y =
    let e : 32 + suc n ≡ suc (32 + n) = omega arith in
    rw e (ap (divide n) (divide-step n y) ∙ divide-turns n (turn y))

-- ---- the dividend

-- the bits of a number in two
bits-append : (m n x y : ℕ) → x < 2 ^ m → bits (m + n) (x + 2 ^ m * y) ≡ bits m x ++ bits n y
unfolding bits
bits-append zero n x y h =
    let e : x + 2 ^ 0 * y ≡ y = omega arith in
    rw (zero-add n, e) refl
bits-append (suc m) n x y h =
    let p : 2 ^ suc m ≡ 2 ^ m * 2 = pow-suc 2 m in
    let q : x + 2 ^ m * 2 * y ≡ x + 2 ^ m * y * 2 = rw (mul_assoc (2 ^ m) 2 y, mul_comm 2 y, ← mul_assoc (2 ^ m) y 2) refl in
    let l : (x + 2 ^ m * y * 2) % 2 ≡ x % 2 = omega arith in
    let h2 : (x + 2 ^ m * y * 2) / 2 ≡ x / 2 + 2 ^ m * y = omega arith in
    rw (suc-add m n, p, q, l, h2, bits-append m n (x / 2) y (omega arith)) refl

-- the message is the bits of its number
pub message-bits : (bs : List ℕ) → Bytes bs → message bs ≡ bits (8 * length bs) (le bs)
unfolding message flat_map le bits
message-bits [] b = refl
message-bits (x ∷ xs) b =
    let e : 8 * suc (length xs) ≡ 8 + 8 * length xs = omega arith in
    rw (e, bits-append 8 (8 * length xs) x (le xs) (b 0)) (ap (λ (t : List ℕ). bits 8 x ++ t) (message-bits xs (λ i. b (suc i))))

-- the other value of the first k coefficients is an exclusive or with k ones
complement-bits : (k n x : ℕ) → map complement (take k (bits (k + n) x)) ++ drop k (bits (k + n) x) ≡ bits (k + n) (bit_xor (2 ^ k - 1) x)
unfolding bits complement
complement-bits zero n x = rw (zero-add n, xor_zero_l x) refl
complement-bits (suc k) n x =
    let p : 2 ^ suc k ≡ 2 ^ k * 2 = pow-suc 2 k in
    let pos : 0 < 2 ^ k = pow_pos k in
    let e : (2 ^ suc k - 1 + x) % 2 ≡ (x % 2 + 1) % 2 = omega arith in
    let h : (2 ^ suc k - 1) / 2 ≡ 2 ^ k - 1 = omega arith in
    rw (suc-add k n, xor_low (2 ^ suc k - 1) x, xor-half (2 ^ suc k - 1) x, e, h, ← complement-bits k n (x / 2)) refl

-- bytes' worth of bits
pow-bytes : (n : ℕ) → 256 ^ n ≡ 2 ^ (8 * n)
pow-bytes zero = refl
pow-bytes (suc n) =
    let e : 8 * suc n ≡ 8 * n + 8 = omega arith in
    rw (pow-suc 256 n, pow-bytes n, e, pow-add 2 (8 * n) 8) refl

no_bits : bits 32 0 ≡ replicate 32 0
unfolding bits
no_bits = refl

-- the message times x^32 with its first 32 coefficients complemented
pub dividend-bits : (bs : List ℕ) → Bytes bs → dividend (message bs) ≡ bits (32 + 8 * length bs) (bit_xor begun (le bs))
unfolding dividend
dividend-bits bs b =
    let l : le bs < 2 ^ (8 * length bs) = rw (pow-bytes (length bs)) at (le-lt bs b) in
    let m : message bs ++ replicate 32 0 ≡ bits (32 + 8 * length bs) (le bs) =
    rw (message-bits bs b, ← no_bits) (sym (bits-append (8 * length bs) 32 (le bs) 0 l) ∙ rw (mul-zero (2 ^ (8 * length bs)), add-zero (le bs), add_comm (8 * length bs) 32) refl) in
    rw m (complement-bits 32 (8 * length bs) (le bs))

-- ---- the theorem

complement-all : (r : ℕ) → map complement (bits 32 r) ≡ bits 32 (bit_xor 0xFFFFFFFF r)
unfolding bits
complement-all r = complement-bits 32 0 r

-- the complement of 32 coefficients
finished-bits : (r : ℕ) → r < 2 ^ 32 → from_bits (map complement (bits 32 r)) ≡ finished r
unfolding finished
finished-bits r h =
    let e : map complement (bits 32 r) ≡ bits 32 (bit_xor r 0xFFFFFFFF) = complement-all r ∙ ap (bits 32) (xor_comm 0xFFFFFFFF r) in
    rw e (from_bits-bits 32 (bit_xor r 0xFFFFFFFF) (xor_lt 32 r 0xFFFFFFFF h (omega arith)))

-- what is begun, fed and finished is the checksum
pub crc32c-fed : (bs : List ℕ) → Bytes bs → finished (fed begun bs) ≡ crc32c bs
unfolding crc32c
crc32c-fed bs b =
    let l : length (message bs) ≡ 8 * length bs = ap length (message-bits bs b) ∙ length-bits (8 * length bs) (le bs) in
    sym
    (rw (l, dividend-bits bs b, divide-turns (8 * length bs) (bit_xor begun (le bs)), ← fed-le bs begun b)
    (finished-bits (fed begun bs) (fed-lt bs begun b (omega arith))))
