-- Laws of numbers in bytes, in the shape in which code reads and stores them: two numbers side by side, a part of a slice written, and the
-- library's bytes of a number. The laws of the numbers, parts and patches themselves are those of rules.
-- Assumes nothing.
use mathlib.Core.Path.{◌≡◌, refl, sym, ap, ap₂, ◌∙◌}
use mathlib.Core.List.{List, [], ◌∷◌, ◌++◌, append-nil, append_assoc}
use Prim.Native.Nat.{ℕ, zero, suc, ◌+◌, ◌-◌, ◌*◌, ◌/◌, ◌%◌, ◌^◌, ◌≤◌, ◌<◌}
use native.Mathlib.Nat.{add-sub_cancel_left, suc-add, zero-add, add_comm, mul_assoc, mul_comm, pow-suc, div-one, div-div-eq-div-mul}
use native.Mathlib.Omega.{arith}
use lib.Arith.{digits_div}
use lib.Pow.{pow-add}
use lib.ListN.{length, take, drop}
use lib.Seq.{take-take, drop-drop, drop-length}
use Rattle.rules.specs.Bytes.{be, le, be_digits, le_digits, part, patch}
use Rattle.std.specs.Int.{byte_at, bytes_low_first, bytes_high_first}
use Rattle.rules.proofs.ByteLaws.{be-append, be-be_digits-fits, be_digits-above, le-le_digits-fits, length_part, part-add}

-- ---- big-endian

-- a number put together of two is written as the one behind the other
pub be_digits-add : (n m a b : ℕ) → b < 256 ^ m → be_digits (n + m) (a * 256 ^ m + b) ≡ be_digits n a ++ be_digits m b
unfolding be_digits
be_digits-add zero m a b h = rw zero-add (be_digits-above m a b)
be_digits-add (suc n) m a b h =
    let q : (a * 256 ^ m + b) / 256 ^ (n + m) ≡ a / 256 ^ n = rw (add_comm n m, pow-add 256 m n, ← div-div-eq-div-mul (a * 256 ^ m + b) (256 ^ m) (256 ^ n), digits_div a h) refl in
    rw (suc-add n m, q, be_digits-add n m a b h) refl

-- ---- little-endian

-- the number of two lists one behind the other
pub le-append : (xs ys : List ℕ) → le (xs ++ ys) ≡ le xs + 256 ^ length xs * le ys
unfolding le
le-append [] ys = omega arith
le-append (x ∷ xs) ys =
    let e : 256 ^ suc (length xs) * le ys ≡ 256 * (256 ^ length xs * le ys) = rw (pow-suc 256 (length xs), mul_comm (256 ^ length xs) 256, mul_assoc 256 (256 ^ length xs) (le ys)) refl in
    rw (le-append xs ys, e) (omega arith)

-- ---- a part

pub part-is : (at n : ℕ) (s : List ℕ) → part at n s ≡ take n (drop at s)
unfolding part
part-is at n s = refl

-- two numbers side by side are one
pub be-two : (s : List ℕ) (at n m : ℕ) → at + (n + m) ≤ length s → be (part at (n + m) s) ≡ be (part at n s) * 256 ^ m + be (part (at + n) m s)
be-two s at n m h = rw (part-add s at n m, be-append (part at n s) (part (at + n) m s), length_part s (at + n) m (omega arith)) refl

-- the first n of the n from at on
pub part-front : (s : List ℕ) (at n : ℕ) → take n (take (at + n - at) (drop at s)) ≡ part at n s
unfolding part
part-front s at n = rw (add-sub_cancel_left at n) (take-take n n (drop at s) (omega arith))

-- ---- a patch

-- what a write of xs to s[at..at + k] leaves
pub patch-mid : (s xs ys : List ℕ) (at k : ℕ) → ys ≡ xs → k ≡ length xs → take at s ++ (ys ++ drop k (drop at s)) ≡ patch s at xs
unfolding patch
patch-mid s xs ys at k e n = rw (e, n, drop-drop (length xs) at s) (sym (append_assoc (take at s) xs (drop (at + length xs) s)))

-- a patch as long as the whole
pub patch-whole : (s xs : List ℕ) → length xs ≡ length s → patch s 0 xs ≡ xs
unfolding patch
patch-whole s xs e = rw (zero-add (length xs), e, drop-length s) (append-nil xs)

-- ---- the library's bytes of a number

-- bytes from the highest down
high-digits : (k v : ℕ) → bytes_high_first k v ≡ be_digits k v
unfolding be_digits
high-digits zero v = refl
high-digits (suc zero) v = rw (div-one v) refl
high-digits (suc (suc k)) v = ap (λ (t : List ℕ). v / 256 ^ suc k % 256 ∷ t) (high-digits (suc k) v)

-- bytes from byte i upward
low-digits : (i k v : ℕ) → bytes_low_first i k v ≡ le_digits k (v / 256 ^ i)
unfolding le_digits
low-digits i zero v = refl
low-digits i (suc k) v =
    let q : v / 256 ^ i / 256 ≡ v / 256 ^ suc i = rw pow-suc (div-div-eq-div-mul v (256 ^ i) 256) in
    ap₂ (λ (x : ℕ) (t : List ℕ). x ∷ t) (byte i v) (low-digits (suc i) k v ∙ ap (le_digits k) (sym q))
  where
    byte : (j x : ℕ) → byte_at j x ≡ x / 256 ^ j % 256
    byte zero x = rw (div-one x) refl
    byte (suc j) x = refl

-- what the library's methods write
pub be-bytes : (k v : ℕ) (xs : List ℕ) → xs ≡ bytes_high_first k v → xs ≡ be_digits k v
be-bytes k v xs e = e ∙ high-digits k v

pub le-bytes : (k v : ℕ) (xs : List ℕ) → xs ≡ bytes_low_first 0 k v → xs ≡ le_digits k v
le-bytes k v xs e = e ∙ low-digits 0 k v ∙ ap (le_digits k) (div-one v)

-- a number whose bytes these are
pub be-read : (k n : ℕ) (s : List ℕ) → bytes_high_first k n ≡ s → n < 256 ^ k → n ≡ be s
be-read k n s e h = sym (be-be_digits-fits k n h) ∙ ap be (sym (be-bytes k n s (sym e)))

pub le-read : (k n : ℕ) (s : List ℕ) → bytes_low_first 0 k n ≡ s → n < 256 ^ k → n ≡ le s
le-read k n s e h = sym (le-le_digits-fits k n h) ∙ ap le (sym (le-bytes k n s (sym e)))
