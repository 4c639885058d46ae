-- The long division of `Crc32c` is a division: what it divides is the generator times a quotient, plus what it leaves, and of that there are 32
-- coefficients, so that its degree is below the generator's.
-- Assumes nothing.
use mathlib.Core.Path.{◌≡◌, refl, sym, ap, ◌∙◌}
use mathlib.Core.List.{List, [], ◌∷◌, ◌++◌, map, flat_map}
use Prim.Native.Nat.{ℕ, zero, suc, ◌+◌, ◌-◌, ◌*◌, ◌/◌, ◌%◌, ◌≤◌, ◌<◌}
use native.Mathlib.Nat.{le_of_suc-le-suc, not-suc-le-zero, sub-zero, mod-lt}
use native.Mathlib.Omega.{arith}
use lib.ListN.{length, get_or, take, drop, replicate, length-append, length-take, length-drop, length-map}
use Rattle.rules.specs.Crc32c.{bits, generator, message, complement, dividend, less_times, divide}

-- each coefficient is 0 or 1
abbrev Coefficients : List ℕ → Type 0
Coefficients p = (i : ℕ) → get_or p i 0 < 2

-- the coefficients of the quotient, the highest power first
unfoldable pub quotient : ℕ → List ℕ → List ℕ
quotient zero p = []
quotient (suc n) p = get_or p 0 0 ∷ quotient n (drop 1 (less_times (get_or p 0 0) generator p))

-- the generator times a polynomial q, plus r: each coefficient of q puts the generator in at its own power
unfoldable pub times_plus : List ℕ → List ℕ → List ℕ
times_plus [] r = r
times_plus (c ∷ q) r = less_times c generator (0 ∷ times_plus q r)

-- the generator's coefficients below x^32
lower : List ℕ
lower = drop 1 generator

-- its leading coefficient is 1
generator-is : generator ≡ 1 ∷ lower
unfolding lower generator bits
generator-is = refl

-- modulo 2, a multiple taken off twice is nothing taken off
twice : (c : ℕ) (gs p : List ℕ) → Coefficients p → less_times c gs (less_times c gs p) ≡ p
unfolding less_times
twice c [] p h = refl
twice c (g ∷ gs) [] h = refl
twice c (g ∷ gs) (a ∷ p) h =
    let l : a < 2 = h 0 in
    let e : ((a + c * g) % 2 + c * g) % 2 ≡ a = omega arith in
    rw (e, twice c gs p (λ i. h (suc i))) refl

pub length-less_times : (c : ℕ) (gs p : List ℕ) → length (less_times c gs p) ≡ length p
unfolding less_times
length-less_times c [] p = refl
length-less_times c (g ∷ gs) [] = refl
length-less_times c (g ∷ gs) (a ∷ p) = ap suc (length-less_times c gs p)

coefficients-less_times : (c : ℕ) (gs p : List ℕ) → Coefficients p → Coefficients (less_times c gs p)
unfolding less_times
coefficients-less_times c [] p h i = h i
coefficients-less_times c (g ∷ gs) [] h i = h i
coefficients-less_times c (g ∷ gs) (a ∷ p) h zero = mod-lt (a + c * g) (omega arith)
coefficients-less_times c (g ∷ gs) (a ∷ p) h (suc i) = coefficients-less_times c gs p (λ j. h (suc j)) i

-- one step on c ∷ p
step_is : (c : ℕ) (p : List ℕ) → drop 1 (less_times c generator (c ∷ p)) ≡ less_times c lower p
unfolding less_times
step_is c p = rw generator-is refl

-- and back
step_back : (c : ℕ) (p : List ℕ) → c < 2 → Coefficients p → less_times c generator (0 ∷ less_times c lower p) ≡ c ∷ p
unfolding less_times
step_back c p l h =
    let e : (0 + c * 1) % 2 ≡ c = omega arith in
    rw (generator-is, e, twice c lower p h) refl

-- what is divided is the generator times the quotient, plus the remainder
pub division : (n : ℕ) (p : List ℕ) → n ≤ length p → Coefficients p → times_plus (quotient n p) (divide n p) ≡ p
unfolding quotient divide times_plus
division zero p l h = refl
division (suc n) [] l h = absurd (not-suc-le-zero l)
division (suc n) (c ∷ p) l h =
    let q : Coefficients (less_times c lower p) = coefficients-less_times c lower p (λ i. h (suc i)) in
    let m : n ≤ length (less_times c lower p) = rw (length-less_times c lower p) (le_of_suc-le-suc l) in
    rw (step_is c p, division n (less_times c lower p) m q) (step_back c p (h 0) (λ i. h (suc i)))

-- each step leaves a coefficient less
pub length-divide : (n : ℕ) (p : List ℕ) → length (divide n p) ≡ length p - n
unfolding divide
length-divide zero p = sym (sub-zero (length p))
length-divide (suc n) p =
    length-divide n (drop 1 (less_times (get_or p 0 0) generator p))
    ∙ rw (length-drop 1 (less_times (get_or p 0 0) generator p), length-less_times (get_or p 0 0) generator p) (omega arith)

-- ---- the division of a message

coefficients-append : (p q : List ℕ) → Coefficients p → Coefficients q → Coefficients (p ++ q)
coefficients-append [] q h k i = k i
coefficients-append (a ∷ p) q h k zero = h 0
coefficients-append (a ∷ p) q h k (suc i) = coefficients-append p q (λ j. h (suc j)) k i

coefficients-complement : (p : List ℕ) → Coefficients (map complement p)
unfolding complement
coefficients-complement [] i = omega arith
coefficients-complement (a ∷ p) zero = mod-lt (a + 1) (omega arith)
coefficients-complement (a ∷ p) (suc i) = coefficients-complement p i

coefficients-drop : (n : ℕ) (p : List ℕ) → Coefficients p → Coefficients (drop n p)
coefficients-drop zero p h i = h i
coefficients-drop (suc n) [] h i = h i
coefficients-drop (suc n) (a ∷ p) h i = coefficients-drop n p (λ j. h (suc j)) i

coefficients-zeros : (n : ℕ) → Coefficients (replicate n 0)
coefficients-zeros zero i = omega arith
coefficients-zeros (suc n) zero = omega arith
coefficients-zeros (suc n) (suc i) = coefficients-zeros n i

coefficients-bits : (n v : ℕ) → Coefficients (bits n v)
unfolding bits
coefficients-bits zero v i = omega arith
coefficients-bits (suc n) v zero = mod-lt v (omega arith)
coefficients-bits (suc n) v (suc i) = coefficients-bits n (v / 2) i

coefficients-message : (bytes : List ℕ) → Coefficients (message bytes)
unfolding message flat_map
coefficients-message [] i = omega arith
coefficients-message (b ∷ bs) i = coefficients-append (bits 8 b) (flat_map (bits 8) bs) (coefficients-bits 8 b) (coefficients-message bs) i

coefficients-dividend : (m : List ℕ) → Coefficients m → Coefficients (dividend m)
unfolding dividend
coefficients-dividend m h =
    coefficients-append (map complement (take 32 (m ++ replicate 32 0))) (drop 32 (m ++ replicate 32 0))
    (coefficients-complement (take 32 (m ++ replicate 32 0)))
    (coefficients-drop 32 (m ++ replicate 32 0) (coefficients-append m (replicate 32 0) h (coefficients-zeros 32)))

length-dividend : (m : List ℕ) → length (dividend m) ≡ length m + 32
unfolding dividend
length-dividend m =
    length-append (map complement (take 32 (m ++ replicate 32 0))) (drop 32 (m ++ replicate 32 0))
    ∙ simp (length-map, length-take, length-drop, length-append) (omega arith)

-- the remainder of the CRC's dividend by the generator: the dividend is a multiple of the generator plus it, and it has 32 coefficients
pub record Remainder (p r : List ℕ) : Type 0 where
  pub factor : List ℕ
  pub division : times_plus factor r ≡ p
  pub short : length r ≡ 32

pub crc-divides : (bytes : List ℕ) → Remainder (dividend (message bytes)) (divide (length (message bytes)) (dividend (message bytes)))
crc-divides bytes =
    let m : List ℕ = message bytes in
    let e : length (dividend m) ≡ length m + 32 = length-dividend m in
    record {
      factor = quotient (length m) (dividend m);
      division = division (length m) (dividend m) (rw e (omega arith)) (coefficients-dividend m (coefficients-message bytes));
      short = length-divide (length m) (dividend m) ∙ rw e (omega arith);
    }
