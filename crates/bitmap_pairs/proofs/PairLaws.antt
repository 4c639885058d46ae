-- Laws of words of bits that fail a test: made of a word of each of two maps, cut to a part, and put together.
-- Assumes nothing.
use mathlib.Core.Path.{◌≡◌, refl, sym, ap, ◌∙◌}
use mathlib.Core.Bool.{Bool, true, false, not, ◌&&◌, ◌||◌}
use mathlib.Core.List.{List}
use Prim.Native.Nat.{ℕ, zero, suc, ◌+◌, ◌-◌, ◌*◌, ◌/◌, ◌%◌, ◌^◌, ◌≤◌, ◌<◌}
use native.Mathlib.Nat.{zero-mul, suc-mul, mul_comm, eq_of_mul-eq-mul_right, mul-mod_left, mod-lt, div-add-mod', add_comm}
use native.Mathlib.Omega.{arith}
use borrow.Author.Tests.{eqb-true, eq-eqb, not-true, not-false}
use lib.Bits.{bit_and, bit_or, and_lt}
use lib.Dec.{eqb}
use lib.ListN.{length}
use lib.Pow.{pow_pos, shr_lt, shl-shr, shr-shr, mod-pow-add}
use Rattle.rules.specs.Lists.{pick◌then◌else◌, all, range}
use Rattle.rules.specs.Bytes.{le, part, Bytes, bit_set}
use Rattle.rules.proofs.ListLaws.{and_left, and_right, and_intro, all_append, all-range-at, all-range-of, range-add}
use Rattle.bitmap.specs.Map.{bit_of}
use Rattle.bitmap_pairs.specs.Pair.{only, inside, Holds}
use Rattle.bitmap.proofs.BitLaws.{bit-zero, bit-or, bit-and, bit_not, bit_below, bit-alike, bits-same}
use Rattle.bitmap.proofs.MapLaws.{word-bit}

-- ---- tests

-- two tests that pass together are one
pub same_tests : (a b : Bool) → (a ≡ true → b ≡ true) → (b ≡ true → a ≡ true) → a ≡ b
same_tests true b f g = sym (f refl)
same_tests false true f g = g refl
same_tests false false f g = refl

-- a number is zero where a test passes
zero-says : (x : ℕ) (b : Bool) → (x ≡ 0 → b ≡ true) → (b ≡ true → x ≡ 0) → eqb x 0 ≡ b
zero-says x b f g = same_tests (eqb x 0) b (λ e. f (eqb-true x 0 e)) (λ e. eq-eqb x 0 (g e))

-- a test of one range is that of another
range_same : (f g : ℕ → Bool) (a b n : ℕ) → ((i : ℕ) → i < n → f (a + i) ≡ g (b + i)) → all f (range a n) ≡ all g (range b n)
range_same f g a b n h =
    same_tests (all f (range a n)) (all g (range b n))
    (λ e. all-range-of g b n (λ i l. sym (h i l) ∙ all-range-at f a n e i l))
    (λ e. all-range-of f a n (λ i l. h i l ∙ all-range-at g b n e i l))

-- a range in two parts
pub all-add : (f : ℕ → Bool) (a n m : ℕ) → all f (range a (n + m)) ≡ (all f (range a n) && all f (range (a + n) m))
all-add f a n m = ap (all f) (range-add a n m) ∙ all_append f (range a n) (range (a + n) m)

-- two parts one behind the other
pub all_two : (f : ℕ → Bool) (a s e : ℕ) → a ≤ s → s ≤ e → all f (range a (e - a)) ≡ (all f (range a (s - a)) && all f (range s (e - s)))
all_two f a s e p q =
    let d : e - a ≡ (s - a) + (e - s) = omega arith in
    let g : a + (s - a) ≡ s = omega arith in
    rw (d, all-add f a (s - a) (e - s), g) refl

-- no bit
pub all_none : (f : ℕ → Bool) (a : ℕ) → all f (range a 0) ≡ true
unfolding all range
all_none f a = refl

-- ---- bits of a word

-- a bit of the shifted word
bit_shifted : (w s j : ℕ) → bit_of (w / 2 ^ s) j ≡ bit_of w (s + j)
unfolding bit_of
bit_shifted w s j = rw (shr-shr w s j) refl

-- the low bits
bit-low-part : (y n j : ℕ) → j < n → bit_of (y % 2 ^ n) j ≡ bit_of y j
bit-low-part y n j h =
    let e : y % 2 ^ n + 2 ^ n * (y / 2 ^ n) ≡ y = ap (λ (z : ℕ). y % 2 ^ n + z) (mul_comm (2 ^ n) (y / 2 ^ n)) ∙ add_comm (y % 2 ^ n) (y / 2 ^ n * 2 ^ n) ∙ div-add-mod' y (2 ^ n) in
    sym (bit_below n (y % 2 ^ n) (y / 2 ^ n) j h) ∙ ap (λ (z : ℕ). bit_of z j) e

-- a word of which only the low n bits stay, moved to its high end
moved : (y n : ℕ) → n ≤ 64 → y * 2 ^ (64 - n) % 2 ^ 64 ≡ y % 2 ^ n * 2 ^ (64 - n)
moved y n h =
    let k : n + (64 - n) ≡ 64 = omega arith in
    let z : y * 2 ^ (64 - n) % 2 ^ (64 - n) ≡ 0 = mul-mod_left y (2 ^ (64 - n)) in
    let g : y * 2 ^ (64 - n) % 2 ^ (n + (64 - n)) ≡ y % 2 ^ n * 2 ^ (64 - n) + 0 =
    mod-pow-add (y * 2 ^ (64 - n)) n (64 - n) ∙ rw (shl-shr y (64 - n), z) refl in
    ap (λ (e : ℕ). y * 2 ^ (64 - n) % 2 ^ e) (sym k) ∙ g ∙ omega arith

-- the test of the bits of a word from bit s on
high-clear : (w s : ℕ) → s ≤ 64 → w < 2 ^ 64 → eqb (w / 2 ^ s) 0 ≡ all (λ j. not (bit_of w j)) (range s (64 - s))
high-clear w s h l =
    let e : 64 - s + s ≡ 64 = omega arith in
    let k : w < 2 ^ (64 - s + s) = rw e l in
    zero-says (w / 2 ^ s) (all (λ j. not (bit_of w j)) (range s (64 - s)))
    (λ z. all-range-of (λ j. not (bit_of w j)) s (64 - s) (λ i o. ap not (sym (bit_shifted w s i) ∙ ap (λ (x : ℕ). bit_of x i) z ∙ bit-zero i)))
    (λ z. bits-same (64 - s) (w / 2 ^ s) 0 (shr_lt (64 - s) s k) (pow_pos (64 - s))
    (λ j o. bit_shifted w s j ∙ not-true (bit_of w (s + j)) (all-range-at (λ j. not (bit_of w j)) s (64 - s) z j o) ∙ sym (bit-zero j)))

-- a product with a number above zero that is zero
left-zero : (x p : ℕ) → 0 < p → x * p ≡ 0 → x ≡ 0
left-zero zero p l e = refl
left-zero (suc x) p l e = absurd (omega (arith, suc-mul x p))

-- the test of n bits of a word
pub clear-part : (w s n : ℕ) → n ≤ 64 → eqb (w / 2 ^ s * 2 ^ (64 - n) % 2 ^ 64) 0 ≡ all (λ j. not (bit_of w j)) (range s n)
clear-part w s n h =
    zero-says (w / 2 ^ s * 2 ^ (64 - n) % 2 ^ 64) (all (λ j. not (bit_of w j)) (range s n))
    (λ e. let z : w / 2 ^ s % 2 ^ n ≡ 0 = left-zero (w / 2 ^ s % 2 ^ n) (2 ^ (64 - n)) (pow_pos (64 - n)) (sym (moved (w / 2 ^ s) n h) ∙ e) in
    all-range-of (λ j. not (bit_of w j)) s n
    (λ i l. ap not (sym (bit_shifted w s i) ∙ sym (bit-low-part (w / 2 ^ s) n i l) ∙ ap (λ (x : ℕ). bit_of x i) z ∙ bit-zero i)))
    (λ e. let z : w / 2 ^ s % 2 ^ n ≡ 0 =
    bits-same n (w / 2 ^ s % 2 ^ n) 0 (mod-lt (w / 2 ^ s) (pow_pos n)) (pow_pos n)
    (λ j l. bit-low-part (w / 2 ^ s) n j l ∙ bit_shifted w s j ∙ not-true (bit_of w (s + j)) (all-range-at (λ j. not (bit_of w j)) s n e j l) ∙ sym (bit-zero j)) in
    moved (w / 2 ^ s) n h ∙ rw (z, zero-mul (2 ^ (64 - n))) refl)

-- numbers are equal where a test passes
equal-says : (x y : ℕ) (b : Bool) → (x ≡ y → b ≡ true) → (b ≡ true → x ≡ y) → eqb x y ≡ b
equal-says x y b f g = same_tests (eqb x y) b (λ e. f (eqb-true x y e)) (λ e. eq-eqb x y (g e))

-- every bit of the word of ones is set
bit-ones : (j : ℕ) → j < 64 → bit_of 0xffffffffffffffff j ≡ true
bit-ones j h = unfold pick◌then◌else◌ in bit-alike true j h

-- the test of n bits of a word, that all are set
pub set-part : (w s n : ℕ) → n ≤ 64 → eqb (w / 2 ^ s * 2 ^ (64 - n) % 2 ^ 64) (0xffffffffffffffff * 2 ^ (64 - n) % 2 ^ 64) ≡ all (bit_of w) (range s n)
set-part w s n h =
    equal-says (w / 2 ^ s * 2 ^ (64 - n) % 2 ^ 64) (0xffffffffffffffff * 2 ^ (64 - n) % 2 ^ 64) (all (bit_of w) (range s n))
    (λ e. let z : w / 2 ^ s % 2 ^ n ≡ 0xffffffffffffffff % 2 ^ n =
    eq_of_mul-eq-mul_right (2 ^ (64 - n)) (pow_pos (64 - n)) (w / 2 ^ s % 2 ^ n) (0xffffffffffffffff % 2 ^ n) (sym (moved (w / 2 ^ s) n h) ∙ e ∙ moved 0xffffffffffffffff n h) in
    all-range-of (bit_of w) s n
    (λ i l. sym (bit_shifted w s i) ∙ sym (bit-low-part (w / 2 ^ s) n i l) ∙ ap (λ (x : ℕ). bit_of x i) z ∙ bit-low-part 0xffffffffffffffff n i l ∙ bit-ones i (omega arith)))
    (λ e. let z : w / 2 ^ s % 2 ^ n ≡ 0xffffffffffffffff % 2 ^ n =
    bits-same n (w / 2 ^ s % 2 ^ n) (0xffffffffffffffff % 2 ^ n) (mod-lt (w / 2 ^ s) (pow_pos n)) (mod-lt 0xffffffffffffffff (pow_pos n))
    (λ j l. bit-low-part (w / 2 ^ s) n j l ∙ bit_shifted w s j ∙ all-range-at (bit_of w) s n e j l ∙ sym (bit-low-part 0xffffffffffffffff n j l ∙ bit-ones j (omega arith))) in
    moved (w / 2 ^ s) n h ∙ ap (λ (x : ℕ). x * 2 ^ (64 - n)) z ∙ sym (moved 0xffffffffffffffff n h))

-- the test of n bits of the word of those that pass
pub holds-part : (f : ℕ → Bool) (a w s n : ℕ) (r : Bool) → Holds f a w → s + n ≤ 64 → r ≡ all (bit_of w) (range s n) → r ≡ all f (range (a + s) n)
holds-part f a w s n r h l e = e ∙ range_same (bit_of w) f s (a + s) n (λ i m. h.bits (s + i) (omega arith) ∙ ap f (omega arith))

-- a word all of whose bits pass
holds-all : (f : ℕ → Bool) (a w : ℕ) → w < 2 ^ 64 → Holds f a w → eqb w 0xffffffffffffffff ≡ all f (range a 64)
holds-all f a w l h =
    equal-says w 0xffffffffffffffff (all f (range a 64))
    (λ e. all-range-of f a 64 (λ i m. sym (h.bits i m) ∙ ap (λ (x : ℕ). bit_of x i) e ∙ bit-ones i m))
    (λ e. bits-same 64 w 0xffffffffffffffff l (omega arith) (λ j m. h.bits j m ∙ all-range-at f a 64 e j m ∙ sym (bit-ones j m)))

-- a word put together of two has all bits where both have
and-ones : (x y : ℕ) → x < 2 ^ 64 → y < 2 ^ 64 → eqb (bit_and x y) 0xffffffffffffffff ≡ (eqb x 0xffffffffffffffff && eqb y 0xffffffffffffffff)
and-ones x y l m =
    equal-says (bit_and x y) 0xffffffffffffffff (eqb x 0xffffffffffffffff && eqb y 0xffffffffffffffff)
    (λ e. and_intro (eqb x 0xffffffffffffffff) (eqb y 0xffffffffffffffff)
    (eq-eqb x 0xffffffffffffffff (bits-same 64 x 0xffffffffffffffff l (omega arith) (λ j h. and_left (bit_of x j) (bit_of y j) (bits e j h) ∙ sym (bit-ones j h))))
    (eq-eqb y 0xffffffffffffffff (bits-same 64 y 0xffffffffffffffff m (omega arith) (λ j h. and_right (bit_of x j) (bit_of y j) (bits e j h) ∙ sym (bit-ones j h)))))
    (λ e. bits-same 64 (bit_and x y) 0xffffffffffffffff (and_lt 64 x y l m) (omega arith)
    (λ j h. bit-and x y j
    ∙ rw (eqb-true x 0xffffffffffffffff (and_left (eqb x 0xffffffffffffffff) (eqb y 0xffffffffffffffff) e), eqb-true y 0xffffffffffffffff (and_right (eqb x 0xffffffffffffffff) (eqb y 0xffffffffffffffff) e), bit-ones j h) refl))
  where
    bits : bit_and x y ≡ 0xffffffffffffffff → (j : ℕ) → j < 64 → (bit_of x j && bit_of y j) ≡ true
    bits e j h = sym (bit-and x y j) ∙ ap (λ (z : ℕ). bit_of z j) e ∙ bit-ones j h

-- a word without a bit that fails
fails-none : (f : ℕ → Bool) (a w : ℕ) → w < 2 ^ 64 → Holds (λ k. not (f k)) a w → eqb w 0 ≡ all f (range a 64)
fails-none f a w l h =
    zero-says w (all f (range a 64))
    (λ e. all-range-of f a 64 (λ i m. not-false (f (a + i)) (sym (h.bits i m) ∙ ap (λ (x : ℕ). bit_of x i) e ∙ bit-zero i)))
    (λ e. bits-same 64 w 0 l (omega arith) (λ j m. h.bits j m ∙ ap not (all-range-at f a 64 e j m) ∙ sym (bit-zero j)))

-- a word put together of two is zero where both are
or-zero : (x y : ℕ) → x < 2 ^ 64 → y < 2 ^ 64 → eqb (bit_or x y) 0 ≡ (eqb x 0 && eqb y 0)
or-zero x y l m =
    zero-says (bit_or x y) (eqb x 0 && eqb y 0)
    (λ e. and_intro (eqb x 0) (eqb y 0)
    (eq-eqb x 0 (bits-same 64 x 0 l (omega arith) (λ j h. first (bit_of x j) (bit_of y j) (bits e j) ∙ sym (bit-zero j))))
    (eq-eqb y 0 (bits-same 64 y 0 m (omega arith) (λ j h. second (bit_of x j) (bit_of y j) (bits e j) ∙ sym (bit-zero j)))))
    (λ e. rw (eqb-true x 0 (and_left (eqb x 0) (eqb y 0) e), eqb-true y 0 (and_right (eqb x 0) (eqb y 0) e)) refl)
  where
    bits : bit_or x y ≡ 0 → (j : ℕ) → (bit_of x j || bit_of y j) ≡ false
    bits e j = sym (bit-or x y j) ∙ ap (λ (z : ℕ). bit_of z j) e ∙ bit-zero j

    first : (a b : Bool) → (a || b) ≡ false → a ≡ false
    first true b e = e
    first false b e = refl

    second : (a b : Bool) → (a || b) ≡ false → b ≡ false
    second true true e = e
    second true false e = refl
    second false b e = e

-- ---- the loop over words

-- after one word more
pub failed-more : (f : ℕ → Bool) (a b k t w : ℕ) → eqb t 0 ≡ all f (range a (64 * k)) → Holds (λ j. not (f j)) b w → b ≡ a + 64 * k → t < 2 ^ 64 → w < 2 ^ 64 → eqb (bit_or t w) 0 ≡ all f (range a (64 * (k + 1)))
failed-more f a b k t w e h g l m =
    let d : 64 * (k + 1) ≡ 64 * k + 64 = omega arith in
    or-zero t w l m ∙ rw (d, all-add f a (64 * k) 64, ← g, e, fails-none f b w m h) refl

-- the same of words of the bits that pass
pub passed-more : (f : ℕ → Bool) (a b k t w : ℕ) → eqb t 0xffffffffffffffff ≡ all f (range a (64 * k)) → Holds f b w → b ≡ a + 64 * k → t < 2 ^ 64 → w < 2 ^ 64
    → eqb (bit_and t w) 0xffffffffffffffff ≡ all f (range a (64 * (k + 1)))
passed-more f a b k t w e h g l m =
    let d : 64 * (k + 1) ≡ 64 * k + 64 = omega arith in
    and-ones t w l m ∙ rw (d, all-add f a (64 * k) 64, ← g, e, holds-all f b w m h) refl

-- the same of the bits from byte i on and before byte k, and one word more
pub failed-bytes : (f : ℕ → Bool) (i k t w : ℕ) → eqb t 0 ≡ all f (range (8 * i) (8 * (k - i))) → Holds (λ j. not (f j)) (8 * k) w → t < 2 ^ 64 → w < 2 ^ 64 → i ≤ k
    → eqb (bit_or t w) 0 ≡ all f (range (8 * i) (8 * (k + 8 - i)))
failed-bytes f i k t w e h l m o =
    let d : 8 * (k + 8 - i) ≡ 8 * (k - i) + 64 = omega arith in
    let g : 8 * i + 8 * (k - i) ≡ 8 * k = omega arith in
    or-zero t w l m ∙ rw (d, all-add f (8 * i) (8 * (k - i)) 64, g, e, fails-none f (8 * k) w m h) refl

-- the same of those that pass
pub passed-bytes : (f : ℕ → Bool) (i k t w : ℕ) → eqb t 0xffffffffffffffff ≡ all f (range (8 * i) (8 * (k - i))) → Holds f (8 * k) w → t < 2 ^ 64 → w < 2 ^ 64 → i ≤ k
    → eqb (bit_and t w) 0xffffffffffffffff ≡ all f (range (8 * i) (8 * (k + 8 - i)))
passed-bytes f i k t w e h l m o =
    let d : 8 * (k + 8 - i) ≡ 8 * (k - i) + 64 = omega arith in
    let g : 8 * i + 8 * (k - i) ≡ 8 * k = omega arith in
    and-ones t w l m ∙ rw (d, all-add f (8 * i) (8 * (k - i)) 64, g, e, holds-all f (8 * k) w m h) refl

-- ---- the words of two maps

-- the first bit of byte i
byte-first : (i : ℕ) → i ≡ 8 * i / 8
byte-first i = omega arith

-- a word of the first map, and one of the second inverted: the bits that are only in the first map
pub holds-only : (m x : List ℕ) (i a b : ℕ) → a ≡ le (part i 8 m) → b ≡ le (part i 8 x) → b < 2 ^ 64 → Bytes m → Bytes x → Holds (only m x) (8 * i) (bit_and a (2 ^ 64 - 1 - b))
unfolding only
holds-only m x i a b p q o c d = record { bits = λ j h. bit-and a (2 ^ 64 - 1 - b) j ∙ rw (bit_not 64 b j o h, bit m a p c j h, bit x b q d j h) refl }
  where
    bit : (s : List ℕ) (w : ℕ) → w ≡ le (part i 8 s) → Bytes s → (j : ℕ) → j < 64 → bit_of w j ≡ bit_set s (8 * i + j)
    bit s w e y j h = word-bit s (8 * i) w j (rw (← byte-first i) e) (omega arith) y h

-- the maps the other way round: the bits that are not inside the first map
pub holds-outside : (m x : List ℕ) (a w : ℕ) → Holds (only x m) a w → Holds (λ k. not (inside m x k)) a w
unfolding only inside
holds-outside m x a w h = record { bits = λ j l. h.bits j l ∙ outside (bit_set m (a + j)) (bit_set x (a + j)) }
  where
    outside : (u v : Bool) → (v && not u) ≡ not (not v || u)
    outside true true = refl
    outside true false = refl
    outside false true = refl
    outside false false = refl

-- ---- in the shape of the functions' needs

-- bits of one word, the word that holds bit a
pub holds_of : (f : ℕ → Bool) (a w n : ℕ) (r : Bool) → Holds f (8 * (a / 64 * 8)) w → r ≡ all (bit_of w) (range (a % 64) n) → a % 64 + n ≤ 64 → r ≡ all f (range a n)
holds_of f a w n r h e l =
    let d : 8 * (a / 64 * 8) + a % 64 ≡ a = omega arith in
    rw d at (holds-part f (8 * (a / 64 * 8)) w (a % 64) n r h l e)

-- no bit from a to e
pub none_of : (f : ℕ → Bool) (a e : ℕ) → a ≡ e → true ≡ all f (range a (e - a))
none_of f a e d =
    let z : e - a ≡ 0 = omega arith in
    rw z (sym (all_none f a))

-- three parts: the first fails
pub first-fails : (f : ℕ → Bool) (a n e : ℕ) (r : Bool) → r ≡ all f (range a n) → not r ≡ true → a + n ≤ e → false ≡ all f (range a (e - a))
first-fails f a n e r p q l =
    let d : a + n - a ≡ n = omega arith in
    let z : all f (range a (a + n - a)) ≡ false = rw d (sym p ∙ not-true r q) in
    rw (all_two f a (a + n) e (omega arith) l, z) refl

-- the words between fail
pub words-fail : (f : ℕ → Bool) (a s t e : ℕ) (r : Bool) → r ≡ all f (range (8 * (s / 8)) (8 * (t / 8 - s / 8))) → not r ≡ true → s % 8 ≡ 0 → t % 8 ≡ 0 → a ≤ s → s ≤ t → t ≤ e → false ≡ all f (range a (e - a))
words-fail f a s t e r p q x y u v w =
    let d : 8 * (s / 8) ≡ s = omega arith in
    let g : 8 * (t / 8 - s / 8) ≡ t - s = omega arith in
    let z : all f (range s (t - s)) ≡ false = sym (rw (d, g) at p) ∙ not-true r q in
    rw (all_two f a s e u (omega arith), all_two f s t e v w, z) (sym (none (all f (range a (s - a)))))
  where
    none : (b : Bool) → (b && false) ≡ false
    none true = refl
    none false = refl

-- both pass: it is left to the last
pub last-part : (f : ℕ → Bool) (a n s t e : ℕ) (r q o : Bool) → s ≡ a + n → r ≡ all f (range a n) → not r ≡ false → q ≡ all f (range (8 * (s / 8)) (8 * (t / 8 - s / 8))) → not q ≡ false
    → s % 8 ≡ 0 → t % 8 ≡ 0 → s ≤ t → t ≤ e → o ≡ all f (range t (e - t)) → o ≡ all f (range a (e - a))
last-part f a n s t e r q o z p k g h x y v w i =
    let d : 8 * (s / 8) ≡ s = omega arith in
    let b : 8 * (t / 8 - s / 8) ≡ t - s = omega arith in
    let c : s - a ≡ n = omega arith in
    let u : all f (range s (t - s)) ≡ true = sym (rw (d, b) at g) ∙ not-false q h in
    rw (all_two f a s e (omega arith) (omega arith), all_two f s t e v w, c, u, ← p, not-false r k) i

-- past the last word nothing is left
pub clear_none : (m : List ℕ) (a : ℕ) → a % 64 ≡ 0 → a ≤ 8 * length m → 8 * length m < a + 64 → length m % 8 ≡ 0 → eqb (a % 64) 0 ≡ all (λ k. not (bit_set m k)) (range a (8 * length m - a))
clear_none m a z l h o =
    let d : 8 * length m - a ≡ 0 = omega arith in
    rw d (eq-eqb (a % 64) 0 z ∙ sym (all_none (λ k. not (bit_set m k)) a))

-- the rest of the last word
pub clear-last : (m : List ℕ) (a w : ℕ) → w ≡ le (part (a / 64 * 8) 8 m) → (a % 64 ≡ 0 → ⊥) → a ≤ 8 * length m → 8 * length m < a + 64 → length m % 8 ≡ 0 → w < 2 ^ 64 → Bytes m
    → eqb (w / 2 ^ (a % 64)) 0 ≡ all (λ k. not (bit_set m k)) (range a (8 * length m - a))
clear-last m a w p z l h o y c =
    let k : length m ≡ 8 * (length m / 8) = omega arith in
    let u : length m / 8 ≤ a / 64 + 1 = omega arith in
    let v : a / 64 + 1 ≤ length m / 8 = omega arith in
    let d : 8 * length m - a ≡ 64 - a % 64 = omega arith in
    rw d (high-clear w (a % 64) (omega arith) y ∙ range_same (λ j. not (bit_of w j)) (λ k. not (bit_set m k)) (a % 64) a (64 - a % 64) (λ i g. ap not (bit i (omega arith))))
  where
    bit : (i : ℕ) → a % 64 + i < 64 → bit_of w (a % 64 + i) ≡ bit_set m (a + i)
    bit i g =
        let e : 8 * (a / 64 * 8) + (a % 64 + i) ≡ a + i = omega arith in
        rw e at (word-bit m (8 * (a / 64 * 8)) w (a % 64 + i) (rw (← byte-first (a / 64 * 8)) p) (omega arith) c g)
