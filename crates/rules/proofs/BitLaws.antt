-- Laws of single bits in bytes.
-- Assumes nothing.
use mathlib.Core.Path.{◌≡◌, refl, sym, ap, ◌∙◌}
use mathlib.Core.List.{List}
use mathlib.Core.Bool.{Bool, true, false}
use Prim.Native.Nat.{ℕ, zero, suc, ◌+◌, ◌*◌, ◌/◌, ◌%◌, ◌^◌, ◌≤◌, ◌<◌}
use native.Mathlib.Nat.{add-zero, add-suc, suc-add, zero-div, div-one, div-div-eq-div-mul, div-lt_iff_lt-mul, pow-suc, pow-succ', mod-lt, not-suc-le-zero, le_of_suc-le-suc}
use native.Mathlib.Omega.{arith}
use lib.Dec.{eqb}
use lib.ListN.{length, get_or, replicate, get_or-eq_default}
use lib.Seq.{ext_get_or}
use borrow.Author.Tests.{eqb-true, eqb-false}
use Rattle.rules.specs.Lists.{pick◌then◌else◌}
use Rattle.rules.specs.Bytes.{Bytes, bit_set, byte_of, bit_bytes}
use Rattle.rules.proofs.ListLaws.{test-cases, get_or-same}
use Rattle.rules.proofs.ByteLaws.{bytes-cons}

-- a test as a bit
bit-lt : (b : Bool) → (pick b then 1 else 0) < 2
unfolding pick◌then◌else◌
bit-lt true = omega arith
bit-lt false = omega arith

-- the bit says the test
bit_is : (b : Bool) → eqb (pick b then 1 else 0) 1 ≡ b
unfolding pick◌then◌else◌
bit_is true = refl
bit_is false = refl

-- n bits make a number below 2 ^ n
pub byte_of-lt : (n : ℕ) (f : ℕ → Bool) (k : ℕ) → byte_of n f k < 2 ^ n
unfolding byte_of
byte_of-lt zero f k = omega arith
byte_of-lt (suc n) f k =
    let b : (pick f k then 1 else 0) < 2 = bit-lt (f k) in
    let h : byte_of n f (suc k) < 2 ^ n = byte_of-lt n f (suc k) in
    rw (pow-succ' 2 n) (omega arith)

-- a shift by one more bit
shift_suc : (x i : ℕ) → x / 2 ^ suc i ≡ x / 2 / 2 ^ i
shift_suc x i = rw (pow-succ' 2 i) (sym (div-div-eq-div-mul x 2 (2 ^ i)))

-- bit i of the number is test k + i
pub bit-byte_of : (n : ℕ) (f : ℕ → Bool) (k i : ℕ) → i < n → byte_of n f k / 2 ^ i % 2 ≡ (pick f (k + i) then 1 else 0)
unfolding byte_of
bit-byte_of zero f k i l = absurd (not-suc-le-zero l)
bit-byte_of (suc n) f k zero l =
    let b : (pick f k then 1 else 0) < 2 = bit-lt (f k) in
    rw (add-zero k, div-one ((pick f k then 1 else 0) + 2 * byte_of n f (suc k))) (omega arith)
bit-byte_of (suc n) f k (suc i) l =
    let b : (pick f k then 1 else 0) < 2 = bit-lt (f k) in
    let d : ((pick f k then 1 else 0) + 2 * byte_of n f (suc k)) / 2 ≡ byte_of n f (suc k) = omega arith in
    rw (shift_suc ((pick f k then 1 else 0) + 2 * byte_of n f (suc k)) i, d, add-suc k i, ← suc-add k i) (bit-byte_of n f (suc k) i (le_of_suc-le-suc l))

-- so many bytes
pub length-bit_bytes : (n : ℕ) (f : ℕ → Bool) (k : ℕ) → length (bit_bytes n f k) ≡ n
unfolding bit_bytes
length-bit_bytes zero f k = refl
length-bit_bytes (suc n) f k = ap suc (length-bit_bytes n f (8 + k))

-- each is a byte
pub bytes-bit_bytes : (n : ℕ) (f : ℕ → Bool) (k : ℕ) → Bytes (bit_bytes n f k)
unfolding bit_bytes
bytes-bit_bytes zero f k i = omega arith
bytes-bit_bytes (suc n) f k i = bytes-cons (byte_of 8 f k) (bit_bytes n f (8 + k)) (byte_of-lt 8 f k) (bytes-bit_bytes n f (8 + k)) i

-- the byte at a place
pub get_or-bit_bytes : (n : ℕ) (f : ℕ → Bool) (k j : ℕ) → j < n → get_or (bit_bytes n f k) j 0 ≡ byte_of 8 f (k + 8 * j)
unfolding bit_bytes
get_or-bit_bytes zero f k j l = absurd (not-suc-le-zero l)
get_or-bit_bytes (suc n) f k zero l = rw (add-zero k) refl
get_or-bit_bytes (suc n) f k (suc j) l = get_or-bit_bytes n f (8 + k) j (le_of_suc-le-suc l) ∙ ap (byte_of 8 f) (omega arith)

-- bit i of the bytes is test k + i
pub bit_set-bit_bytes : (n : ℕ) (f : ℕ → Bool) (k i : ℕ) → i < 8 * n → bit_set (bit_bytes n f k) i ≡ f (k + i)
unfolding bit_set
bit_set-bit_bytes n f k i l =
    let e : k + 8 * (i / 8) + i % 8 ≡ k + i = omega arith in
    rw (get_or-bit_bytes n f k (i / 8) (omega arith), bit-byte_of 8 f (k + 8 * (i / 8)) (i % 8) (omega arith), e) (bit_is (f (k + i)))

-- past the last byte no bit is set
pub bit_set-past : (s : List ℕ) (i : ℕ) → 8 * length s ≤ i → bit_set s i ≡ false
unfolding bit_set
bit_set-past s i l = rw (get_or-eq_default s 0 {n = i / 8} (omega arith), zero-div (2 ^ (i % 8))) refl

-- no bit of zeros is set
pub bits-zero : (n i : ℕ) → bit_set (replicate n 0) i ≡ false
unfolding bit_set
bits-zero n i = rw (get_or-same {A = ℕ} n 0 (i / 8), zero-div (2 ^ (i % 8))) refl

-- numbers below 2 ^ n with the same n bits are one
pub same_bits : (n x y : ℕ) → x < 2 ^ n → y < 2 ^ n → ((i : ℕ) → i < n → x / 2 ^ i % 2 ≡ y / 2 ^ i % 2) → x ≡ y
same_bits zero x y p q h = omega arith
same_bits (suc n) x y p q h =
    let p' : x / 2 < 2 ^ n = (div-lt_iff_lt-mul {k = 2} (omega arith)).1 (rw pow-suc at p) in
    let q' : y / 2 < 2 ^ n = (div-lt_iff_lt-mul {k = 2} (omega arith)).1 (rw pow-suc at q) in
    let r : x % 2 ≡ y % 2 = rw (div-one x, div-one y) at (h 0 (omega arith)) in
    let t : x / 2 ≡ y / 2 = same_bits n (x / 2) (y / 2) p' q' (λ i l. rw (shift_suc x i, shift_suc y i) at (h (suc i) (omega arith))) in
    omega arith

-- two bits are one where their tests are
same_test : (a b : ℕ) → a < 2 → b < 2 → eqb a 1 ≡ eqb b 1 → a ≡ b
same_test a b p q e =
    test-cases (a ≡ b) (eqb b 1)
    (λ t. eqb-true a 1 (e ∙ t) ∙ sym (eqb-true b 1 t))
    (λ t. let u : a ≡ 1 → ⊥ = eqb-false a 1 (e ∙ t) in let v : b ≡ 1 → ⊥ = eqb-false b 1 t in omega arith)

-- bytes with the same bits are the same
pub bits-ext : (s t : List ℕ) → Bytes s → Bytes t → length s ≡ length t → ((i : ℕ) → i < 8 * length s → bit_set s i ≡ bit_set t i) → s ≡ t
unfolding bit_set
bits-ext s t b c e h = ext_get_or 0 s t e (λ j l. same_bits 8 (get_or s j 0) (get_or t j 0) (b j) (c j) (λ i m. bit j i l m))
  where
    bit : (j i : ℕ) → j < length s → i < 8 → get_or s j 0 / 2 ^ i % 2 ≡ get_or t j 0 / 2 ^ i % 2
    bit j i l m =
        let d : (8 * j + i) / 8 ≡ j = omega arith in
        let r : (8 * j + i) % 8 ≡ i = omega arith in
        same_test (get_or s j 0 / 2 ^ i % 2) (get_or t j 0 / 2 ^ i % 2) (mod-lt (get_or s j 0 / 2 ^ i) (omega arith)) (mod-lt (get_or t j 0 / 2 ^ i) (omega arith))
        (rw (d, r) at (h (8 * j + i) (omega arith)))

-- bytes are those that their bits make
pub bit_bytes-bit_set : (s : List ℕ) → Bytes s → bit_bytes (length s) (bit_set s) 0 ≡ s
bit_bytes-bit_set s b =
    let e : length (bit_bytes (length s) (bit_set s) 0) ≡ length s = length-bit_bytes (length s) (bit_set s) 0 in
    bits-ext (bit_bytes (length s) (bit_set s) 0) s (bytes-bit_bytes (length s) (bit_set s) 0) b e
    (λ i l. bit_set-bit_bytes (length s) (bit_set s) 0 i (omega arith) ∙ ap (bit_set s) (omega arith))

-- tests that agree on the bits make the same bytes
pub bit_bytes-same : (n : ℕ) (f g : ℕ → Bool) (k m : ℕ) → ((i : ℕ) → i < 8 * n → f (k + i) ≡ g (m + i)) → bit_bytes n f k ≡ bit_bytes n g m
bit_bytes-same n f g k m h =
    let e : length (bit_bytes n f k) ≡ n = length-bit_bytes n f k in
    bits-ext (bit_bytes n f k) (bit_bytes n g m) (bytes-bit_bytes n f k) (bytes-bit_bytes n g m) (e ∙ sym (length-bit_bytes n g m))
    (λ i l. let l' : i < 8 * n = omega arith in bit_set-bit_bytes n f k i l' ∙ h i l' ∙ sym (bit_set-bit_bytes n g m i l'))
