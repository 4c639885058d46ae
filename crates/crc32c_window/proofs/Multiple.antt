-- The multiple of the generator, by computation on one bit: the highest bit of a byte with 524 bytes behind it is the highest of the register.
-- By linearity a byte is then at the top of the register, three bytes later in its lowest byte, and with the last place met it is gone.
-- Assumes nothing.
use mathlib.Core.Path.{◌≡◌, refl, sym, ap, ap₂, ◌∙◌}
use mathlib.Core.List.{List}
use Prim.Native.Nat.{ℕ, zero, suc, ◌+◌, ◌*◌, ◌/◌, ◌%◌, ◌^◌, ◌<◌}
use native.Mathlib.Nat.{pow-suc, mul_assoc, mul_comm, add-zero, add-suc, suc-add, zero-mul, one-mul, mul-one, add-mul}
use native.Mathlib.Omega.{arith}
use lib.Bits.{bit_xor, xor_zero_r, xor_self, xor_shifted, xor_block}
use lib.Pow.{pow_pos, pow-add}
use Rattle.crc32c_tables.specs.Register.{turn, turns}
use Rattle.crc32c_window.specs.Window.{taps}
use Rattle.crc32c_tables.proofs.RegisterLaws.{turns-shift}
use Rattle.crc32c_window.proofs.HistoryLaws.{where?, tapped, share, share-xor, share-turns, share-zero, turns-zero}

-- ---- by computation

-- the share when m bytes more have come in, from v at n bytes on: counted up, so that it computes without a deep call
unfoldable later : List ℕ → ℕ → ℕ → ℕ → ℕ → ℕ
later ks n zero v o = v
later ks n (suc m) v o = later ks (suc n) m (turns 8 (bit_xor v (tapped ks n o))) o

later-share : (ks : List ℕ) (n m o : ℕ) → later ks n m (share ks n o) o ≡ share ks (n + m) o
unfolding later share
later-share ks n zero o = rw (add-zero n) refl
later-share ks n (suc m) o = later-share ks (suc n) m o ∙ rw (add-suc n m, suc-add n m) refl

highest-bit : later taps 0 524 (turns 8 128) 128 ≡ 0x80000000
unfolding later tapped where? turns turn
highest-bit = refl

share-highest : share taps 524 128 ≡ 128 * 2 ^ 24
unfolding share
share-highest = sym (later-share taps 0 524 128) ∙ highest-bit

-- ---- from one bit to the byte

-- shifts are linear
shift-xor : (x y t : ℕ) → bit_xor (x * 2 ^ t) (y * 2 ^ t) ≡ bit_xor x y * 2 ^ t
shift-xor x y t =
    let e : (z : ℕ) → z * 2 ^ t + 0 ≡ z * 2 ^ t = λ z. add-zero (z * 2 ^ t) in
    ap₂ bit_xor (sym (e x)) (sym (e y)) ∙ xor_block t x y 0 0 (pow_pos t) (pow_pos t) ∙ e (bit_xor x y)

-- the low bit apart
low-apart : (m o : ℕ) → o * 2 ^ m ≡ bit_xor (o / 2 * 2 ^ suc m) (o % 2 * 2 ^ m)
low-apart m o =
    let p : 2 ^ suc m ≡ 2 ^ m * 2 = pow-suc 2 m in
    let d : o / 2 * 2 ^ suc m + o % 2 * 2 ^ m ≡ (o / 2 * 2 + o % 2) * 2 ^ m = rw p (gather (o / 2) (o % 2) (2 ^ m)) in
    let w : o / 2 * 2 + o % 2 ≡ o = omega arith in
    sym (xor_shifted (o / 2) (suc m) (o % 2 * 2 ^ m) (below (o % 2) (omega arith)) ∙ d ∙ ap (λ (x : ℕ). x * 2 ^ m) w)
  where
    below : (b : ℕ) → b < 2 → b * 2 ^ m < 2 ^ suc m
    below zero h = rw (zero-mul (2 ^ m)) (pow_pos (suc m))
    below (suc zero) h =
        let q : zero < 2 ^ m = pow_pos m in
        rw (one-mul (2 ^ m), pow-suc 2 m) (omega arith)
    below (suc (suc b)) h = absurd (omega arith)

    gather : (a b x : ℕ) → a * (x * 2) + b * x ≡ (a * 2 + b) * x
    gather a b x = ap (λ (y : ℕ). y + b * x) (ap (λ (y : ℕ). a * y) (mul_comm x 2) ∙ sym (mul_assoc a 2 x)) ∙ sym (add-mul (a * 2) b x)

module _ (ks : List ℕ) (n : ℕ) (highest : share ks n 128 ≡ 128 * 2 ^ 24) where
  -- the bit k is 7 - k steps behind the highest
  one_bit : (k m : ℕ) → k + m ≡ 7 → share ks n (2 ^ k) ≡ 2 ^ k * 2 ^ 24
  one_bit k m q =
      let e : 2 ^ k * 2 ^ m ≡ 128 = sym (pow-add 2 k m) ∙ ap (λ (x : ℕ). 2 ^ x) q in
      ap (share ks n) (sym (turns-shift m (2 ^ k)) ∙ ap (turns m) e) ∙ share-turns ks n m 128
      ∙ ap (turns m) (highest ∙ past (2 ^ k) (2 ^ m) (2 ^ 24) 128 e) ∙ turns-shift m (2 ^ k * 2 ^ 24)
    where
      past : (a b c d : ℕ) → a * b ≡ d → d * c ≡ a * c * b
      past a b c d e = ap (λ (x : ℕ). x * c) (sym e) ∙ mul_assoc a b c ∙ ap (λ (x : ℕ). a * x) (mul_comm b c) ∙ sym (mul_assoc a c b)

  bit : (k m b : ℕ) → k + m ≡ 7 → b < 2 → share ks n (b * 2 ^ k) ≡ b * 2 ^ k * 2 ^ 24
  bit k m zero e h = rw (zero-mul (2 ^ k)) (share-zero ks n)
  bit k m (suc zero) e h = rw (one-mul (2 ^ k)) (one_bit k m e)
  bit k m (suc (suc b)) e h = absurd (omega arith)

  -- the k highest bits of a byte
  bits-high : (k m o : ℕ) → k + m ≡ 8 → o < 2 ^ k → share ks n (o * 2 ^ m) ≡ o * 2 ^ m * 2 ^ 24
  bits-high zero m o e h =
      let z : o ≡ 0 = omega arith in
      rw (z, zero-mul (2 ^ m)) (share-zero ks n)
  bits-high (suc k) m o e h =
      let p : 2 ^ suc k ≡ 2 ^ k * 2 = pow-suc 2 k in
      let x : o * 2 ^ m ≡ bit_xor (o / 2 * 2 ^ suc m) (o % 2 * 2 ^ m) = low-apart m o in
      ap (share ks n) x ∙ share-xor ks n (o / 2 * 2 ^ suc m) (o % 2 * 2 ^ m)
      ∙ ap₂ bit_xor (bits-high k (suc m) (o / 2) (omega arith) (omega arith)) (bit m k (o % 2) (omega arith) (omega arith))
      ∙ shift-xor (o / 2 * 2 ^ suc m) (o % 2 * 2 ^ m) 24 ∙ ap (λ (y : ℕ). y * 2 ^ 24) (sym x)

  -- the byte
  at_top : (o : ℕ) → o < 256 → share ks n o ≡ o * 2 ^ 24
  at_top o h = rw (mul-one o) at (bits-high 8 0 o refl h)

-- a byte lower with each byte that comes in behind it, where no place is met
byte-lower : (ks : List ℕ) (n o a b : ℕ) → share ks n o ≡ o * a → a ≡ b * 2 ^ 8 → tapped ks n o ≡ 0 → share ks (suc n) o ≡ o * b
unfolding share
byte-lower ks n o a b p e q =
    ap (turns 8) (ap₂ bit_xor p q ∙ xor_zero_r (o * a) ∙ ap (λ (x : ℕ). o * x) e ∙ sym (mul_assoc o b (2 ^ 8))) ∙ turns-shift 8 (o * b)

-- the oldest four bytes of a window are the four bytes of the register
pub share-524 : (o : ℕ) → o < 256 → share taps 524 o ≡ o * 2 ^ 24
share-524 o h = at_top taps 524 share-highest o h

pub share-525 : (o : ℕ) → o < 256 → share taps 525 o ≡ o * 2 ^ 16
unfolding tapped where?
share-525 o h = byte-lower taps 524 o (2 ^ 24) (2 ^ 16) (share-524 o h) refl refl

pub share-526 : (o : ℕ) → o < 256 → share taps 526 o ≡ o * 2 ^ 8
unfolding tapped where?
share-526 o h = byte-lower taps 525 o (2 ^ 16) (2 ^ 8) (share-525 o h) refl refl

pub share-527 : (o : ℕ) → o < 256 → share taps 527 o ≡ o
unfolding tapped where?
share-527 o h = byte-lower taps 526 o (2 ^ 8) 1 (share-526 o h) refl refl ∙ mul-one o

-- and with one byte more the last place is met, and nothing is left
pub share-gone : (o : ℕ) → o < 256 → share taps 528 o ≡ 0
unfolding share tapped where?
share-gone o h = rw (share-527 o h, xor_zero_r o, xor_self o) (turns-zero 8)
