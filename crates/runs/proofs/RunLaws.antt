-- Laws of runs of clear bits: where they begin in a word, and that no place at which one begins is passed over.
-- Assumes nothing.
use Rattle.std.proofs.Common.{◌≡◌, ℕ, zero, suc, ◌+◌, ◌-◌, ◌*◌, ◌/◌, ◌%◌, ◌^◌, ◌<◌, ◌≤◌, Bool, true, false, not, ◌&&◌, ◌||◌, eqb, List, [], ◌∷◌, get_or, sym, refl, ap, ◌∙◌, add-one, arith, pow_mono, shr-shr, eq-eqb, ne_eqb}
use Rattle.std.specs.Int.{from_le_bytes, w16}
use Rattle.std.specs.Prelude.{Option, Some, None}
use mathlib.Core.Bool.{and-false}
use native.Mathlib.Nat.{div-eq_of_lt}
use native.Mathlib.Decide.{dec_lt}
use borrow.Author.Tests.{eqb-false, not-true}
use lib.Bits.{bit_and, bit_or, or_lt, and_lt}
use lib.Pow.{mod-pow-add}
use Rattle.rules.specs.Lists.{pick◌then◌else◌, all, range}
use Rattle.rules.specs.Bytes.{le, part, Bytes, bit_set}
use Rattle.rules.proofs.ListLaws.{test-cases, clash, order-cases, and_left, and_right, and_intro, or_left, or_right, all-range-at, all-range-of}
use Rattle.rules.proofs.CountLaws.{same_test}
use Rattle.bitmap.specs.Map.{bit_of, First}
use Rattle.bitmap.proofs.BitLaws.{bit-low, bit-half, bit-zero, bit-or, bit-and, bit_not, bit-alike, bit_below, bit-above, bits-same, first_some}
use Rattle.bitmap.proofs.MapLaws.{bit_set-is, word-bit}
use Rattle.runs.specs.Runs.{clear, Starts, Half, Meets, AnyMeets, Passed, LowestAt, Lowest}

-- ---- where runs begin in a word

-- a test of the numbers from j on, in two runs that meet or lie over each other
all-over : (f : ℕ → Bool) (j k s : ℕ) → s ≤ k → (all f (range j k) && all f (range (s + j) k)) ≡ all f (range j (k + s))
all-over f j k s l =
    same_test (all f (range j k) && all f (range (s + j) k)) (all f (range j (k + s)))
    (λ h. all-range-of f j (k + s) (λ i m. place i m (and_left (all f (range j k)) (all f (range (s + j) k)) h) (and_right (all f (range j k)) (all f (range (s + j) k)) h)))
    (λ h. and_intro (all f (range j k)) (all f (range (s + j) k)) (all-range-of f j k (λ i m. all-range-at f j (k + s) h i (omega arith)))
    (all-range-of f (s + j) k (λ i m. ap f (omega arith) ∙ all-range-at f j (k + s) h (s + i) (omega arith))))
  where
    place : (i : ℕ) → i < k + s → all f (range j k) ≡ true → all f (range (s + j) k) ≡ true → f (j + i) ≡ true
    place i m p q =
        order-cases (f (j + i) ≡ true) i k (λ u. all-range-at f j k p i u)
        (λ u. ap f (omega arith) ∙ all-range-at f (s + j) k q (i - s) (omega arith)) (λ u. ap f (omega arith) ∙ all-range-at f (s + j) k q (i - s) (omega arith))

-- runs of one bit begin where the inverse has one
starts-one : (w : ℕ) → Starts w 1 (2 ^ 64 - 1 - w)
starts-one w =
    record {
      each = λ j. same_test (bit_of (2 ^ 64 - 1 - w) j) (all (bit_of (2 ^ 64 - 1 - w)) (range j 1))
          (λ h. all-range-of (bit_of (2 ^ 64 - 1 - w)) j 1 (λ i l. ap (bit_of (2 ^ 64 - 1 - w)) (omega arith) ∙ h))
          (λ h. ap (bit_of (2 ^ 64 - 1 - w)) (omega arith) ∙ all-range-at (bit_of (2 ^ 64 - 1 - w)) j 1 h 0 (omega arith));
    }

-- a run of k + s bits is two of k that begin s apart
starts_more : (w k s m : ℕ) → s ≤ k → Starts w k m → Starts w (k + s) (bit_and m (m / 2 ^ s))
starts_more w k s m l h =
    record {
      each = λ j. bit-and m (m / 2 ^ s) j ∙ rw (shifted j, h.each j, h.each (s + j)) (all-over (bit_of (2 ^ 64 - 1 - w)) j k s l);
    }
  where
    shifted : (j : ℕ) → bit_of (m / 2 ^ s) j ≡ bit_of m (s + j)
    shifted j = unfold bit_of in rw (shr-shr m s j) refl

-- so a run of x bits is two of the greater half
starts-half : (w x s m : ℕ) → s ≡ x / 2 → Starts w (x - s) m → Starts w x (bit_and m (m / 2 ^ s))
starts-half w x s m e h =
    let d : x - s + s ≡ x = omega arith in
    ap-run d (starts_more w (x - s) s m (omega arith) h)
  where
    ap-run : x - s + s ≡ x → Starts w (x - s + s) (bit_and m (m / 2 ^ s)) → Starts w x (bit_and m (m / 2 ^ s))
    ap-run d g = rw d at g

-- the greater half of some
half-some : (x s k : ℕ) → s ≡ x / 2 → 0 < x → x ≤ 2 * k → (0 < x - s) × (x - s ≤ k)
half-some x s k e p q = omega arith

-- halved four times up to sixteen are one
halved : (n s t u v : ℕ) → 0 < n → n ≤ 16 → s ≡ n / 2 → t ≡ (n - s) / 2 → u ≡ (n - s - t) / 2 → v ≡ (n - s - t - u) / 2 → n - s - t - u - v ≡ 1
halved n s t u v p q ds dt du dv =
    let a : (0 < n - s) × (n - s ≤ 8) = half-some n s 8 ds p q in
    let b : (0 < n - s - t) × (n - s - t ≤ 4) = half-some (n - s) t 4 dt a.0 a.1 in
    let c : (0 < n - s - t - u) × (n - s - t - u ≤ 2) = half-some (n - s - t) u 2 du b.0 b.1 in
    let d : (0 < n - s - t - u - v) × (n - s - t - u - v ≤ 1) = half-some (n - s - t - u) v 1 dv c.0 c.1 in
    one (n - s - t - u - v) d.0 d.1
  where
    one : (x : ℕ) → 0 < x → x ≤ 1 → x ≡ 1
    one x g h = omega arith

-- four times, from one bit on
pub starts-four : (w n s t u v : ℕ) → 0 < n → n ≤ 16 → s ≡ n / 2 → t ≡ (n - s) / 2 → u ≡ (n - s - t) / 2 → v ≡ (n - s - t - u) / 2
    → (one two four eight : ℕ) → one ≡ 2 ^ 64 - 1 - w → two ≡ bit_and one (one / 2 ^ v) → four ≡ bit_and two (two / 2 ^ u) → eight ≡ bit_and four (four / 2 ^ t) → Starts w n (bit_and eight (eight / 2 ^ s))
starts-four w n s t u v p q ds dt du dv one two four eight e e2 e4 e8 =
    let a : Starts w (n - s - t - u - v) one = rw (halved n s t u v p q ds dt du dv, e) (starts-one w) in
    let b : Starts w (n - s - t - u) two = rw e2 (starts-half w (n - s - t - u) v one dv a) in
    let c : Starts w (n - s - t) four = rw e4 (starts-half w (n - s - t) u two du b) in
    let d : Starts w (n - s) eight = rw e8 (starts-half w (n - s) t four dt c) in
    starts-half w n s eight ds d

-- ---- a word of the map

-- a bit of a map is clear
clear-is : (map : List ℕ) (b : ℕ) (x : Bool) → bit_set map b ≡ x → clear map b ≡ not x
unfolding clear
clear-is map b x e = ap not e

-- bits that are not all clear, by one of them that is set
not-clear : (map : List ℕ) (b n k : ℕ) → bit_set map k ≡ true → b ≤ k → k < b + n → all (clear map) (range b n) ≡ false
not-clear map b n k h p q =
    test-cases (all (clear map) (range b n) ≡ false) (all (clear map) (range b n))
    (λ t. absurd (clash (clear-is map k true h) (ap (clear map) (omega arith) ∙ all-range-at (clear map) b n t (k - b) (omega arith)))) (λ t. t)

-- a word has no bit past its 64
bit_past : (x j : ℕ) → x < 2 ^ 64 → 64 ≤ j → bit_of x j ≡ false
unfolding bit_of
bit_past x j h l =
    let m : 2 ^ 64 ≤ 2 ^ j = pow_mono l in
    let z : x / 2 ^ j ≡ 0 = div-eq_of_lt (omega arith) in
    rw z refl

-- a word read at p
module _ (map : List ℕ) (p w : ℕ) (e : w ≡ le (part (p / 8) 8 map)) (a : p % 8 ≡ 0) (c : Bytes map) (o : w < 2 ^ 64) where
  -- a bit of its inverse is a clear one of the map
  inverse-clear : (j : ℕ) → j < 64 → bit_of (2 ^ 64 - 1 - w) j ≡ clear map (p + j)
  unfolding clear
  inverse-clear j l = bit_not 64 w j o l ∙ ap not (word-bit map p w j e a c l)

  -- the n bits from j on, where they lie in the word
  inside-clear : (n j : ℕ) → j + n ≤ 64 → all (bit_of (2 ^ 64 - 1 - w)) (range j n) ≡ all (clear map) (range (p + j) n)
  inside-clear n j l =
      same_test (all (bit_of (2 ^ 64 - 1 - w)) (range j n)) (all (clear map) (range (p + j) n))
      (λ h. all-range-of (clear map) (p + j) n (λ i m. ap (clear map) (omega arith) ∙ sym (inverse-clear (j + i) (omega arith)) ∙ all-range-at (bit_of (2 ^ 64 - 1 - w)) j n h i m))
      (λ h. all-range-of (bit_of (2 ^ 64 - 1 - w)) j n (λ i m. inverse-clear (j + i) (omega arith) ∙ ap (clear map) (omega arith) ∙ all-range-at (clear map) (p + j) n h i m))

  -- a run that begins in it lies in it
  inside-word : (n j : ℕ) → 0 < n → all (bit_of (2 ^ 64 - 1 - w)) (range j n) ≡ true → j + n ≤ 64
  inside-word n j l h = go (dec_lt 64 (j + n))
    where
      go : Dec (64 < j + n) → j + n ≤ 64
      go (yes m) = absurd (clash (bit_past (2 ^ 64 - 1 - w) (j + (n - 1)) (omega arith) (omega arith)) (all-range-at (bit_of (2 ^ 64 - 1 - w)) j n h (n - 1) (omega arith)))
      go (no m) = omega arith

  module _ (n m : ℕ) (s : Starts w n m) where
    -- no run begins where the word of beginnings has no bit
    start-no : (b : ℕ) → p ≤ b → b + n ≤ p + 64 → bit_of m (b - p) ≡ false → all (clear map) (range b n) ≡ false
    start-no b l h z =
        let d : p + (b - p) ≡ b = omega arith in
        ap (λ (x : ℕ). all (clear map) (range x n)) (sym d) ∙ sym (inside-clear n (b - p) (omega arith)) ∙ sym (s.each (b - p)) ∙ z

    -- and one where it has
    start-yes : (j : ℕ) → 0 < n → bit_of m j ≡ true → (j + n ≤ 64) × (all (clear map) (range (p + j) n) ≡ true)
    start-yes j l z =
        let h : all (bit_of (2 ^ 64 - 1 - w)) (range j n) ≡ true = sym (s.each j) ∙ z in
        let k : j + n ≤ 64 = inside-word n j l h in
        (k, sym (inside-clear n j k) ∙ h)

-- ---- places passed over

-- at first
pub passed_none : (map : List ℕ) (n a e : ℕ) → a ≤ e → Passed map n a e a
passed_none map n a e l = record { least = omega arith; most = l; before = λ b p q r. absurd (omega arith) }

-- more are passed over
passed_on : (map : List ℕ) (n a e p q : ℕ) → Passed map n a e p → p ≤ q → q ≤ e → ((b : ℕ) → p ≤ b → b < q → b + n ≤ e → all (clear map) (range b n) ≡ false) → Passed map n a e q
passed_on map n a e p q s l m h =
    let o : a ≤ p = s.least in
    record { least = omega arith; most = m; before = λ b u v w. go b u v w (dec_lt b p) }
  where
    go : (b : ℕ) → a ≤ b → b < q → b + n ≤ e → Dec (b < p) → all (clear map) (range b n) ≡ false
    go b u v w (yes x) = s.before b u x w
    go b u v w (no x) = h b (omega arith) v w

-- the lowest run is sought from there on
pub lowest-on : (map : List ℕ) (n a e p : ℕ) (r : Option ℕ) → Passed map n a e p → Lowest map n p e r → Lowest map n a e r
lowest-on map n a e p None s t = passed_on map n a e p e s s.most (omega arith) t.before
lowest-on map n a e p (Some q) s t =
    let u : Passed map n p e q = t.passed in
    record { passed = passed_on map n a e p q s u.least u.most u.before; inside = t.inside; found = t.found }

-- and where too few bits are left there is none
pub lowest-none : (map : List ℕ) (n a e p : ℕ) → Passed map n a e p → e - p < n → Lowest map n a e None
lowest-none map n a e p s l =
    let m : p ≤ e = s.most in
    passed_on map n a e p e s m (omega arith) (λ b u v w. absurd (omega arith))

-- ---- bit by bit

-- a window with no set bit is a run, and the lowest
pub window-clear : (map : List ℕ) (n a e p : ℕ) → Passed map n a e p → n ≤ e - p → ((k : ℕ) → p ≤ k → k < p + n → bit_set map k ≡ false) → LowestAt map n a e p
window-clear map n a e p s l h =
    let m : p ≤ e = s.most in
    record { passed = s; inside = omega arith; found = all-range-of (clear map) p n (λ i k. clear-is map (p + i) false (h (p + i) (omega arith) (omega arith))) }

-- where it has one, no run begins up to it
pub window-set : (map : List ℕ) (n a e p q : ℕ) → Passed map n a e p → n ≤ e - p → p ≤ q → q < p + n → bit_set map q ≡ true → Passed map n a e (q + 1)
window-set map n a e p q s l u v h =
    let m : p ≤ e = s.most in
    passed_on map n a e p (q + 1) s (omega arith) (omega arith) (λ b x y z. not-clear map b n q h (omega arith) (omega arith))

-- ---- by words

-- a word with every bit set
pub word-full : (map : List ℕ) (n a e p w : ℕ) → 0 < n → Passed map n a e p → 64 ≤ e - p → w ≡ le (part (p / 8) 8 map) → p % 8 ≡ 0 → Bytes map → w ≡ 0xffffffffffffffff → Passed map n a e (p + 64)
word-full map n a e p w o s l d z c f =
    let m : p ≤ e = s.most in
    passed_on map n a e p (p + 64) s (omega arith) (omega arith)
    (λ b x y v. not-clear map b n b (ap (bit_set map) (omega arith) ∙ sym (word-bit map p w (b - p) d z c (omega arith)) ∙ ap (λ (y : ℕ). bit_of y (b - p)) f ∙ (unfold pick◌then◌else◌ in bit-alike true (b - p) (omega arith))) (omega arith) (omega arith))

-- a word in which a run begins
pub word-run : (map : List ℕ) (n a e p w m t : ℕ) → 0 < n → Passed map n a e p → 64 ≤ e - p → w ≡ le (part (p / 8) 8 map) → p % 8 ≡ 0 → Bytes map → w < 2 ^ 64
    → Starts w n m → (m ≡ 0 → ⊥) → m < 2 ^ 64 → First m true t → LowestAt map n a e (p + t)
word-run map n a e p w m t o s l d z c f g h i k =
    let u : p ≤ e = s.most in
    let v : t < 64 = first_some m true 0 t (unfold pick◌then◌else◌ in refl) h i k in
    let r : (t + n ≤ 64) × (all (clear map) (range (p + t) n) ≡ true) = start-yes map p w d z c f n m g t o (k.found v) in
    let x : t + n ≤ 64 = r.0 in
    record {
      passed = passed_on map n a e p (p + t) s (omega arith) (omega arith) (λ b q y w'. start-no map p w d z c f n m g b q (omega arith) (k.before (b - p) (omega arith)));
      inside = omega arith;
      found = r.1;
    }

-- a word in which none begins
pub word_none : (map : List ℕ) (n a e p w m : ℕ) → n ≤ 16 → Passed map n a e p → 64 ≤ e - p → w ≡ le (part (p / 8) 8 map) → p % 8 ≡ 0 → Bytes map → w < 2 ^ 64
    → Starts w n m → m ≡ 0 → Passed map n a e (p + 48)
word_none map n a e p w m o s l d z c f g h =
    let u : p ≤ e = s.most in
    passed_on map n a e p (p + 48) s (omega arith) (omega arith)
    (λ b q y v. start-no map p w d z c f n m g b q (omega arith) (ap (λ (x : ℕ). bit_of x (b - p)) h ∙ bit-zero (b - p)))

-- ---- by sixteen bits

-- a number of which so many low bits are clear, and one that makes with it a multiple of a power of two: the same bits of that are clear
negative-low : (n m z w : ℕ) → (w + z) % 2 ^ n ≡ 0 → ((j : ℕ) → j < m → j < n → bit_of z j ≡ false) → (j : ℕ) → j < m → j < n → bit_of w j ≡ false
negative-low zero m z w e h j l k = absurd (omega arith)
negative-low (suc n) zero z w e h j l k = absurd (omega arith)
negative-low (suc n) (suc m) z w e h j l k =
    let y : z % 2 ≡ 0 = even z (h 0 (omega arith) (omega arith)) in
    let u : (w + z) / 2 % 2 ^ n * 2 + (w + z) % 2 ≡ 0 = sym (mod-pow-add (w + z) n 1) ∙ ap (λ (k : ℕ). (w + z) % 2 ^ k) (add-one n) ∙ e in
    let v : (w + z) % 2 ≡ 0 = omega arith in
    let q : (w / 2 + z / 2) % 2 ^ n ≡ 0 = ap (λ (x : ℕ). x % 2 ^ n) (omega arith) ∙ none ((w + z) / 2 % 2 ^ n) ((w + z) % 2) u in
    go j l k (omega arith) (λ i a b. negative-low n m (z / 2) (w / 2) q (λ i' a' b'. sym (bit-half z i') ∙ h (suc i') (omega arith) (omega arith)) i a b)
  where
    even : (x : ℕ) → bit_of x 0 ≡ false → x % 2 ≡ 0
    even x g = let d : x % 2 ≡ 1 → ⊥ = eqb-false (x % 2) 1 (sym (bit-low x) ∙ g) in omega arith

    none : (x y : ℕ) → x * 2 + y ≡ 0 → x ≡ 0
    none x y g = omega arith

    go : (j : ℕ) → j < suc m → j < suc n → w % 2 ≡ 0 → ((i : ℕ) → i < m → i < n → bit_of (w / 2) i ≡ false) → bit_of w j ≡ false
    go zero l k a r = bit-low w ∙ ne_eqb (w % 2) 1 (λ b. omega arith)
    go (suc i) l k a r = bit-half w i ∙ r i (omega arith) (omega arith)

-- no bit of sixteen is set
no_bits : (x : ℕ) → x < 65536 → ((j : ℕ) → j < 16 → bit_of x j ≡ false) → x ≡ 0
no_bits x h k = bits-same 16 x 0 h (omega arith) (λ j l. k j l ∙ sym (bit-zero j))

-- the bits of a half from one on, and those of the next from its lowest set one on, do not meet
pub meets-zero : (x z w : ℕ) → x < 65536 → z < 65536 → w < 65536 → (w + z) % 2 ^ 16 ≡ 0 → Meets x z (bit_and x (bit_or z w))
meets-zero x z w hx hz hw e =
    record {
      each = λ m p r. no_bits (bit_and x (bit_or z w)) (and_lt 16 x (bit_or z w) hx (or_lt 16 z w hz hw))
          (λ j l. bit-and x (bit_or z w) j ∙ rw (bit-or z w j) (apart m j l p r));
    }
  where
    apart : (m j : ℕ) → j < 16 → ((i : ℕ) → m ≤ i → i < 16 → bit_of x i ≡ false) → ((i : ℕ) → i < m → i < 16 → bit_of z i ≡ false) → (bit_of x j && (bit_of z j || bit_of w j)) ≡ false
    apart m j l p r = go (dec_lt j m)
      where
        go : Dec (j < m) → (bit_of x j && (bit_of z j || bit_of w j)) ≡ false
        go (yes a) = rw (r j a l, negative-low 16 m z w e r j a l) (and-false (bit_of x j))
        go (no a) = rw (p j (omega arith) l) refl

-- two bytes side by side are a half of the map
pub half-bits : (map : List ℕ) (k r : ℕ) → Bytes map → r ≡ from_le_bytes w16 (get_or map (2 * k) 0 ∷ get_or map (2 * k + 1) 0 ∷ []) → Half map k r
half-bits map k r c e = record { each = λ j l. ap (λ (x : ℕ). bit_of x j) (e ∙ omega arith) ∙ go j l (dec_lt j 8) }
  where
    of-byte : (i j : ℕ) → j < 8 → bit_of (get_or map i 0) j ≡ bit_set map (8 * i + j)
    of-byte i j l =
        let q : (8 * i + j) / 8 ≡ i = omega arith in
        let r : (8 * i + j) % 8 ≡ j = omega arith in
        sym (bit_set-is map (8 * i + j) ∙ rw (q, r) refl)

    go : (j : ℕ) → j < 16 → Dec (j < 8) → bit_of (get_or map (2 * k) 0 + 256 * get_or map (2 * k + 1) 0) j ≡ bit_set map (16 * k + j)
    go j l (yes a) = bit_below 8 (get_or map (2 * k) 0) (get_or map (2 * k + 1) 0) j a ∙ of-byte (2 * k) j a ∙ ap (bit_set map) (omega arith)
    go j l (no a) =
        let d : j ≡ 8 + (j - 8) = omega arith in
        ap (bit_of (get_or map (2 * k) 0 + 256 * get_or map (2 * k + 1) 0)) d ∙ bit-above 8 (get_or map (2 * k) 0) (get_or map (2 * k + 1) 0) (j - 8) (c (2 * k)) ∙ of-byte (2 * k + 1) (j - 8) (omega arith) ∙ ap (bit_set map) (omega arith)

-- none looked at
pub meets-none : (map : List ℕ) (i : ℕ) (r : Bool) → AnyMeets map i i r
meets-none map i r = record { each = λ k m p q. absurd (omega arith) }

-- one more
pub meets-more : (map : List ℕ) (i k x z v : ℕ) (r : Bool) → AnyMeets map i k r → Half map k x → Half map (k + 1) z → Meets x z v → AnyMeets map i (k + 1) (r || eqb v 0)
meets-more map i k x z v r h hx hz a =
    record {
      each = λ j n p q u w. order-cases ((r || eqb v 0) ≡ true) j k (λ o. or_left r (eqb v 0) (h.each j n p o u w)) (λ o. or_right r (eqb v 0) (this j n o u w)) (λ o. absurd (omega arith));
    }
  where
    this : (j n : ℕ) → j ≡ k → ((i' : ℕ) → n ≤ i' → i' < 16 → bit_set map (16 * j + i') ≡ false) → ((i' : ℕ) → i' < n → i' < 16 → bit_set map (16 * (j + 1) + i') ≡ false) → eqb v 0 ≡ true
    this j n o u w =
        eq-eqb v 0
        (a.each n (λ i' b c. hx.each i' c ∙ ap (λ (y : ℕ). bit_set map (16 * y + i')) (sym o) ∙ u i' b c) (λ i' b c. hz.each i' c ∙ ap (λ (y : ℕ). bit_set map (16 * (y + 1) + i')) (sym o) ∙ w i' b c))

-- all of them
pub meets-all : (map : List ℕ) (i end k : ℕ) (r : Bool) → AnyMeets map i k r → end ≤ k → AnyMeets map i end r
meets-all map i end k r h l = record { each = λ j m p q. h.each j m p (omega arith) }

-- where that is so of none of them no sixteen clear bits begin in them
pub halves-passed : (map : List ℕ) (a e i last : ℕ) (r : Bool) → i ≡ a / 16 → a % 16 ≡ 0 → i ≤ last → 16 * last ≤ e → AnyMeets map i last r → r ≡ false → Passed map 16 a e (16 * last) × (16 * last % 8 ≡ 0)
halves-passed map a e i last r ei z l m h d = (
  record {
    least = omega arith;
    most = m;
    before = λ b p q w. test-cases (all (clear map) (range b 16) ≡ false) (all (clear map) (range b 16))
        (λ t. absurd (clash d (h.each (b / 16) (b % 16) (omega arith) (omega arith) (λ j u v. inside b (16 * (b / 16) + j) t (omega arith) (omega arith)) (λ j u v. inside b (16 * (b / 16 + 1) + j) t (omega arith) (omega arith)))))
        (λ t. t);
  },
  omega arith,
)
  where
    -- a bit of the window is clear
    inside : (b k : ℕ) → all (clear map) (range b 16) ≡ true → b ≤ k → k < b + 16 → bit_set map k ≡ false
    inside b k t p q = not-true (bit_set map k) (unfold clear in ap (clear map) (omega arith) ∙ all-range-at (clear map) b 16 t (k - b) (omega arith))

-- the lowest run is sought behind what is passed over
pub lowest-passed : (map : List ℕ) (n a e p : ℕ) (r : Option ℕ) → n ≡ 16 → Passed map 16 a e p → Lowest map n p e r → Lowest map n a e r
lowest-passed map n a e p r o s t = lowest-on map n a e p r (rw o s) t
