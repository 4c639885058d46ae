-- Laws of the bits of a number: set, cleared and inverted, of a byte put together from its bits, of a word of bytes, and of the
-- count of trailing zeros.
-- Assumes nothing.
use mathlib.Core.Path.{◌≡◌, refl, sym, ap, ◌∙◌}
use mathlib.Core.Bool.{Bool, true, false, not, ◌&&◌, ◌||◌}
use mathlib.Core.List.{List, [], ◌∷◌}
use Prim.Native.Nat.{ℕ, zero, suc, ◌+◌, ◌-◌, ◌*◌, ◌/◌, ◌%◌, ◌^◌, ◌≤◌, ◌<◌, max, min}
use native.Mathlib.Nat.{zero-add, suc-add, one-mul, pow-suc, div-one, zero-div, not-suc-le-zero, mul_assoc, mul_comm}
use native.Mathlib.Decide.{dec_lt}
use native.Mathlib.Numerals.{one-add}
use native.Mathlib.Omega.{arith}
use lib.Bits.{bit_and, bit_or, and_shr, or_shr, and_step, or_step, or_lt, and_lt}
use lib.Count.{count_trailing_zeros, under}
use Rattle.std.proofs.lemmas.Nat.{trailing_le}
use lib.Dec.{eqb, eqb-zero-suc, eqb-suc-zero, eqb-suc-suc}
use lib.ListN.{get_or}
use lib.Pow.{pow-lt, shl_exact, shr-shr}
use Rattle.rules.specs.Lists.{pick◌then◌else◌}
use Rattle.rules.specs.Bytes.{le, Bytes, byte_of}
use Rattle.rules.proofs.ListLaws.{if-cases}
use Rattle.rules.proofs.BitLaws.{byte_of-lt, same_bits}
use Rattle.rules.proofs.BitLaws as rules
use Rattle.bitmap.specs.Map.{bit_of, with_bit, First}

-- ---- one bit after the other

-- the lowest bit
pub bit-low : (x : ℕ) → bit_of x 0 ≡ eqb (x % 2) 1
unfolding bit_of
bit-low x = rw (div-one x) refl

-- a higher bit is one of the half
pub bit-half : (x j : ℕ) → bit_of x (suc j) ≡ bit_of (x / 2) j
unfolding bit_of
bit-half x j = ap (λ (y : ℕ). eqb (y % 2) 1) (ap (λ (e : ℕ). x / 2 ^ e) (sym (one-add j)) ∙ sym (shr-shr x 1 j))

-- zero has no bit set
pub bit-zero : (j : ℕ) → bit_of 0 j ≡ false
unfolding bit_of
bit-zero j = rw (zero-div (2 ^ j)) refl

-- a low bit is the number that its test says
pub low-one : (p : ℕ) → p < 2 → (pick eqb p 1 then 1 else 0) ≡ p
unfolding pick◌then◌else◌
low-one zero h = refl
low-one (suc zero) h = refl
low-one (suc (suc p)) h = absurd (omega arith)

-- numbers of n bits are equal if their bits are
pub bits-same : (n x y : ℕ) → x < 2 ^ n → y < 2 ^ n → ((j : ℕ) → j < n → bit_of x j ≡ bit_of y j) → x ≡ y
unfolding bit_of
bits-same n x y h k e =
    same_bits n x y h k
    (λ j l. sym (low-one (x / 2 ^ j % 2) (omega arith)) ∙ ap (λ (b : Bool). pick b then 1 else 0) (e j l) ∙ low-one (y / 2 ^ j % 2) (omega arith))

-- ---- what an operation does to a bit

-- the lowest bits of an or: the greater of the two
low_or : (p q : ℕ) → p < 2 → q < 2 → eqb (max p q) 1 ≡ eqb p 1 || eqb q 1
low_or zero zero h k = refl
low_or zero (suc zero) h k = refl
low_or (suc zero) zero h k = refl
low_or (suc zero) (suc zero) h k = refl
low_or zero (suc (suc q)) h k = absurd (omega arith)
low_or (suc zero) (suc (suc q)) h k = absurd (omega arith)
low_or (suc (suc p)) q h k = absurd (omega arith)

-- the lowest bits of an and: the lesser of the two
low_and : (p q : ℕ) → p < 2 → q < 2 → eqb (min p q) 1 ≡ eqb p 1 && eqb q 1
low_and zero zero h k = refl
low_and zero (suc zero) h k = refl
low_and (suc zero) zero h k = refl
low_and (suc zero) (suc zero) h k = refl
low_and zero (suc (suc q)) h k = absurd (omega arith)
low_and (suc zero) (suc (suc q)) h k = absurd (omega arith)
low_and (suc (suc p)) q h k = absurd (omega arith)

-- a bit of an or
pub bit-or : (a b j : ℕ) → bit_of (bit_or a b) j ≡ bit_of a j || bit_of b j
unfolding bit_of
bit-or a b j =
    let x : ℕ = a / 2 ^ j in
    let y : ℕ = b / 2 ^ j in
    let e : bit_or x y % 2 ≡ max (x % 2) (y % 2) = rw (or_step x y) (omega arith) in
    rw (or_shr a b j, e) (low_or (x % 2) (y % 2) (omega arith) (omega arith))

-- a bit of an and
pub bit-and : (a b j : ℕ) → bit_of (bit_and a b) j ≡ bit_of a j && bit_of b j
unfolding bit_of
bit-and a b j =
    let x : ℕ = a / 2 ^ j in
    let y : ℕ = b / 2 ^ j in
    let e : bit_and x y % 2 ≡ min (x % 2) (y % 2) = rw (and_step x y) (omega arith) in
    rw (and_shr a b j, e) (low_and (x % 2) (y % 2) (omega arith) (omega arith))

-- the lowest bit inverted
low-not : (p : ℕ) → p < 2 → eqb (1 - p) 1 ≡ not (eqb p 1)
low-not zero h = refl
low-not (suc zero) h = refl
low-not (suc (suc p)) h = absurd (omega arith)

-- the bits of the inverted number
pub bit_not : (n x j : ℕ) → x < 2 ^ n → j < n → bit_of (2 ^ n - 1 - x) j ≡ not (bit_of x j)
bit_not zero x j h l = absurd (not-suc-le-zero l)
bit_not (suc n) x zero h l =
    let p : 2 ^ suc n ≡ 2 ^ n * 2 = pow-suc 2 n in
    let lo : (2 ^ suc n - 1 - x) % 2 ≡ 1 - x % 2 = omega arith in
    rw (bit-low (2 ^ suc n - 1 - x), bit-low x, lo) (low-not (x % 2) (omega arith))
bit_not (suc n) x (suc j) h l =
    let p : 2 ^ suc n ≡ 2 ^ n * 2 = pow-suc 2 n in
    let hi : (2 ^ suc n - 1 - x) / 2 ≡ 2 ^ n - 1 - x / 2 = omega arith in
    rw (bit-half (2 ^ suc n - 1 - x) j, bit-half x j, hi) (bit_not n (x / 2) j (omega arith) (omega arith))

-- half of a power of two is the one before
half_pow : (k : ℕ) → 2 ^ suc k / 2 ≡ 2 ^ k
half_pow k = rw (pow-suc 2 k) (omega arith)

-- a power of two has the one bit
pub bit-pow : (k j : ℕ) → bit_of (2 ^ k) j ≡ eqb j k
bit-pow zero zero = bit-low 1
bit-pow zero (suc j) = bit-half 1 j ∙ bit-zero j ∙ sym (eqb-suc-zero j)
bit-pow (suc k) zero =
    let z : 2 ^ suc k % 2 ≡ 0 = rw (pow-suc 2 k) (omega arith) in
    bit-low (2 ^ suc k) ∙ rw (z, eqb-zero-suc k) refl
bit-pow (suc k) (suc j) = bit-half (2 ^ suc k) j ∙ rw (half_pow k, eqb-suc-suc j k) (bit-pow k j)

-- ---- a number put together from its bits

-- its bit j is test k + j
pub bit-byte_of : (n : ℕ) (f : ℕ → Bool) (k j : ℕ) → j < n → bit_of (byte_of n f k) j ≡ f (k + j)
unfolding bit_of
bit-byte_of n f k j h =
    rw (rules.bit-byte_of n f k j h) (if-cases (λ (x : ℕ). eqb x 1 ≡ f (k + j)) (f (k + j)) 1 0 (λ e. sym e) (λ e. sym e))

-- ---- a byte with one bit as asked

-- an or with a test chooses by it
or-if : (a c : Bool) → a || c ≡ (pick c then true else a)
unfolding pick◌then◌else◌
or-if true true = refl
or-if true false = refl
or-if false true = refl
or-if false false = refl

-- so does an and with its inverse
and-if : (a c : Bool) → a && not c ≡ (pick c then false else a)
unfolding pick◌then◌else◌
and-if true true = refl
and-if true false = refl
and-if false true = refl
and-if false false = refl

-- one shifted by k
one_shifted : (k : ℕ) → k < 8 → 1 * 2 ^ k % 2 ^ 8 ≡ 2 ^ k
one_shifted k h = shl_exact {a = 1} 1 k 8 (omega arith) (omega arith) ∙ one-mul (2 ^ k)

-- an or with the one bit sets it
bit-set : (x k : ℕ) → x < 256 → k < 8 → bit_or x (1 * 2 ^ k % 2 ^ 8) ≡ with_bit x k true
unfolding with_bit
bit-set x k h l =
    let f : ℕ → Bool = λ j. pick eqb j k then true else bit_of x j in
    rw (one_shifted k l)
    (bits-same 8 (bit_or x (2 ^ k)) (byte_of 8 f 0) (or_lt 8 x (2 ^ k) h (pow-lt l)) (byte_of-lt 8 f 0)
    (λ j p. bit-or x (2 ^ k) j ∙ rw (bit-pow k j) (or-if (bit_of x j) (eqb j k)) ∙ sym (bit-byte_of 8 f 0 j p ∙ ap f (zero-add j))))

-- an and with all the others clears it
bit-cleared : (x k : ℕ) → x < 256 → k < 8 → bit_and x (2 ^ 8 - 1 - 1 * 2 ^ k % 2 ^ 8) ≡ with_bit x k false
unfolding with_bit
bit-cleared x k h l =
    let f : ℕ → Bool = λ j. pick eqb j k then false else bit_of x j in
    rw (one_shifted k l)
    (bits-same 8 (bit_and x (2 ^ 8 - 1 - 2 ^ k)) (byte_of 8 f 0) (and_lt 8 x (2 ^ 8 - 1 - 2 ^ k) h (omega arith)) (byte_of-lt 8 f 0)
    (λ j p. bit-and x (2 ^ 8 - 1 - 2 ^ k) j ∙ rw (bit_not 8 (2 ^ k) j (pow-lt l) p, bit-pow k j) (and-if (bit_of x j) (eqb j k)) ∙ sym (bit-byte_of 8 f 0 j p ∙ ap f (zero-add j))))

-- ---- a word of bytes

-- low bits below what is added above them
pub bit_below : (w x y j : ℕ) → j < w → bit_of (x + 2 ^ w * y) j ≡ bit_of x j
bit_below zero x y j h = absurd (not-suc-le-zero h)
bit_below (suc w) x y zero h =
    let p : 2 ^ suc w * y ≡ 2 ^ w * y * 2 = rw (pow-suc 2 w, mul_assoc (2 ^ w) 2 y, mul_comm 2 y, ← mul_assoc (2 ^ w) y 2) refl in
    let e : (x + 2 ^ w * y * 2) % 2 ≡ x % 2 = omega arith in
    rw (bit-low (x + 2 ^ suc w * y), bit-low x, p, e) refl
bit_below (suc w) x y (suc j) h =
    let p : 2 ^ suc w * y ≡ 2 ^ w * y * 2 = rw (pow-suc 2 w, mul_assoc (2 ^ w) 2 y, mul_comm 2 y, ← mul_assoc (2 ^ w) y 2) refl in
    let e : (x + 2 ^ w * y * 2) / 2 ≡ x / 2 + 2 ^ w * y = omega arith in
    rw (bit-half (x + 2 ^ suc w * y) j, bit-half x j, p, e) (bit_below w (x / 2) y j (omega arith))

-- and what is added above them
pub bit-above : (w x y j : ℕ) → x < 2 ^ w → bit_of (x + 2 ^ w * y) (w + j) ≡ bit_of y j
bit-above zero x y j h =
    let e : x + 2 ^ 0 * y ≡ y = omega arith in
    rw (e, zero-add j) refl
bit-above (suc w) x y j h =
    let p : 2 ^ suc w * y ≡ 2 ^ w * y * 2 = rw (pow-suc 2 w, mul_assoc (2 ^ w) 2 y, mul_comm 2 y, ← mul_assoc (2 ^ w) y 2) refl in
    let q : 2 ^ suc w ≡ 2 ^ w * 2 = pow-suc 2 w in
    let e : (x + 2 ^ w * y * 2) / 2 ≡ x / 2 + 2 ^ w * y = omega arith in
    rw (suc-add w j, bit-half (x + 2 ^ suc w * y) (w + j), p, e) (bit-above w (x / 2) y j (omega arith))

-- a bit of a number in bytes is one of its byte
pub bit_le : (s : List ℕ) → Bytes s → (q r : ℕ) → r < 8 → bit_of (le s) (8 * q + r) ≡ bit_of (get_or s q 0) r
unfolding le
bit_le [] b q r h = bit-zero (8 * q + r) ∙ sym (bit-zero r)
bit_le (x ∷ xs) b zero r h = rw (zero-add r) (bit_below 8 x (le xs) r h)
bit_le (x ∷ xs) b (suc q) r h =
    let e : 8 * suc q + r ≡ 8 + (8 * q + r) = omega arith in
    rw e (bit-above 8 x (le xs) (8 * q + r) (b 0) ∙ bit_le xs (λ i. b (suc i)) q r h)

-- ---- trailing zeros

-- the bits below are clear
trailing-before : (k x j : ℕ) → j < count_trailing_zeros k x → bit_of x j ≡ false
unfolding count_trailing_zeros
trailing-before zero x j h = absurd (not-suc-le-zero h)
trailing-before (suc k) x j h = go j (x % 2) refl (λ i l. trailing-before k (x / 2) i l) h
  where
    go : (j d : ℕ) → x % 2 ≡ d → ((i : ℕ) → i < count_trailing_zeros k (x / 2) → bit_of (x / 2) i ≡ false) → j < under d (count_trailing_zeros k (x / 2)) → bit_of x j ≡ false
    go j (suc d) e r h = absurd (not-suc-le-zero h)
    go zero zero e r h = bit-low x ∙ rw e refl
    go (suc i) zero e r h = bit-half x i ∙ r i (omega arith)

-- and the bit that is reached is set
trailing-found : (k x : ℕ) → count_trailing_zeros k x < k → bit_of x (count_trailing_zeros k x) ≡ true
unfolding count_trailing_zeros
trailing-found zero x h = absurd (not-suc-le-zero h)
trailing-found (suc k) x h = go (x % 2) refl (omega arith) (trailing-found k (x / 2)) h
  where
    go : (d : ℕ) → x % 2 ≡ d → d < 2 → (count_trailing_zeros k (x / 2) < k → bit_of (x / 2) (count_trailing_zeros k (x / 2)) ≡ true) → under d (count_trailing_zeros k (x / 2)) < suc k → bit_of x (under d (count_trailing_zeros k (x / 2))) ≡ true
    go zero e l r h = bit-half x (count_trailing_zeros k (x / 2)) ∙ r (omega arith)
    go (suc zero) e l r h = bit-low x ∙ rw e refl
    go (suc (suc d)) e l r h = absurd (omega arith)

-- so they lead to the first set bit
first-set : (w : ℕ) → First w true (count_trailing_zeros 64 w)
first-set w = record { most = trailing_le 64 w; before = λ j h. trailing-before 64 w j h; found = λ h. trailing-found 64 w h }

-- an inversion on the other side
pub not-swap : (a b : Bool) → not a ≡ b → a ≡ not b
not-swap true b e = ap not e
not-swap false b e = ap not e

-- and those of the inverted word to the first clear one
first-clear : (w : ℕ) → w < 2 ^ 64 → First w false (count_trailing_zeros 64 (2 ^ 64 - 1 - w))
first-clear w l =
    let f : First (2 ^ 64 - 1 - w) true (count_trailing_zeros 64 (2 ^ 64 - 1 - w)) = first-set (2 ^ 64 - 1 - w) in
    record {
      most = f.most;
      before = λ j h. not-swap (bit_of w j) false (sym (bit_not 64 w j l (omega (arith, f.most))) ∙ f.before j h);
      found = λ h. not-swap (bit_of w (count_trailing_zeros 64 (2 ^ 64 - 1 - w))) true (sym (bit_not 64 w (count_trailing_zeros 64 (2 ^ 64 - 1 - w)) l h) ∙ f.found h);
    }

-- ---- a word of bits that are alike

-- each of its bits
pub bit-alike : (b : Bool) (j : ℕ) → j < 64 → bit_of (pick b then 0xffffffffffffffff else 0) j ≡ b
unfolding pick◌then◌else◌
bit-alike true j h = bit_not 64 0 j (omega arith) h ∙ rw (bit-zero j) refl
bit-alike false j h = bit-zero j

-- and of a byte
pub byte-alike : (b : Bool) (j : ℕ) → j < 8 → bit_of (pick b then 255 else 0) j ≡ b
unfolding pick◌then◌else◌
byte-alike true j h = bit_not 8 0 j (omega arith) h ∙ rw (bit-zero j) refl
byte-alike false j h = bit-zero j

-- it is a word
pub alike-lt : (b : Bool) → (pick b then 0xffffffffffffffff else 0) < 2 ^ 64
unfolding pick◌then◌else◌
alike-lt true = omega arith
alike-lt false = omega arith

-- a word whose bits are all of the other kind has none
pub first-none : (w : ℕ) (b : Bool) → w ≡ (pick not b then 0xffffffffffffffff else 0) → First w b 64
first-none w b e = record { most = omega arith; before = λ j h. ap (λ (x : ℕ). bit_of x j) e ∙ bit-alike (not b) j h; found = λ h. absurd (omega arith) }

-- and any other word has one
pub first_some : (w : ℕ) (b : Bool) (v t : ℕ) → v ≡ (pick not b then 0xffffffffffffffff else 0) → (w ≡ v → ⊥) → w < 2 ^ 64 → First w b t → t < 64
first_some w b v t e d l f = go (dec_lt t 64)
  where
    go : Dec (t < 64) → t < 64
    go (yes h) = h
    go (no h) =
        let n : 64 ≤ t = omega arith in
        let s : w ≡ (pick not b then 0xffffffffffffffff else 0) = bits-same 64 w (pick not b then 0xffffffffffffffff else 0) l (alike-lt (not b)) (λ j g. f.before j (omega arith) ∙ sym (bit-alike (not b) j g)) in
        absurd (d (s ∙ sym e))

-- ---- in the shape of the functions' needs

-- where the bit is to be set
pub set-asked : (x k : ℕ) (b : Bool) → b ≡ true → x < 256 → k < 8 → bit_or x (1 * 2 ^ k % 2 ^ 8) ≡ with_bit x k b
set-asked x k b e h l = rw e (bit-set x k h l)

-- where it is to be cleared
pub clear-asked : (x k : ℕ) (b : Bool) → b ≡ false → x < 256 → k < 8 → bit_and x (2 ^ 8 - 1 - 1 * 2 ^ k % 2 ^ 8) ≡ with_bit x k b
clear-asked x k b e h l = rw e (bit-cleared x k h l)

-- where a set bit is looked for
pub first-set-asked : (w : ℕ) (b : Bool) → b ≡ true → First w b (count_trailing_zeros 64 w)
first-set-asked w b e = rw e (first-set w)

-- where a clear one is
pub first-clear-asked : (w : ℕ) (b : Bool) → b ≡ false → w < 2 ^ 64 → First w b (count_trailing_zeros 64 (2 ^ 64 - 1 - w))
first-clear-asked w b e h = rw e (first-clear w h)
