-- Laws of the register: its steps are linear over exclusive or, so that tables of the single bytes give the steps of a whole word; parts fed
-- one after the other are their concatenation fed.
-- Assumes nothing.
use mathlib.Core.Path.{◌≡◌, refl, sym, ap, ap₂, ◌∙◌}
use mathlib.Core.List.{List, [], ◌∷◌, ◌++◌, append-nil, append_assoc}
use Prim.Native.Nat.{ℕ, zero, suc, ◌+◌, ◌*◌, ◌/◌, ◌%◌, ◌^◌, ◌≤◌, ◌<◌}
use native.Mathlib.Nat.{add_comm, zero-mul, suc-mul, pow-suc, mul_assoc, zero-add, suc-add}
use native.Mathlib.Omega.{arith}
use lib.ListN.{length, get_or, take, drop, take-append-drop}
use lib.Seq.{drop-cons, drop-drop, take_all}
use lib.Bits.{bit_xor, xor_zero_r, xor_comm, xor_shifted, xor_lt}
use Rattle.std.proofs.lemmas.List.{drop_all, take_more}
use Rattle.std.proofs.lemmas.List.Folds.{concat-append}
use Rattle.std.specs.List.{concat, fold}
use Rattle.std.specs.Simd.{first_chunks}
use Rattle.rules.specs.Bytes.{le, le_digits, Bytes, part}
use Rattle.rules.proofs.ByteLaws.{length-le_digits, bytes-le_digits, le-part-lt, le-le_digits-fits, bytes-append, length_part, bytes_drop}
use Rattle.words.proofs.NumberLaws.{le-append, part-is}
use Rattle.crc32c_tables.specs.Register.{feedback, turn, turns, fed, entry, Tables}
use Rattle.crc32c_tables.proofs.XorLaws.{xor-half, xor_low, xor_assoc, xor-swap}

-- ---- the steps

-- the generator, taken for a sum of two bits, is taken for each
generator-sum : (x y : ℕ) → x < 2 → y < 2 → (x + y) % 2 * feedback ≡ bit_xor (x * feedback) (y * feedback)
generator-sum zero zero p q = refl
generator-sum zero (suc zero) p q = refl
generator-sum (suc zero) zero p q = refl
generator-sum (suc zero) (suc zero) p q = refl
generator-sum zero (suc (suc y)) p q = absurd (omega arith)
generator-sum (suc zero) (suc (suc y)) p q = absurd (omega arith)
generator-sum (suc (suc x)) y p q = absurd (omega arith)

turn-xor : (a b : ℕ) → turn (bit_xor a b) ≡ bit_xor (turn a) (turn b)
unfolding turn
turn-xor a b =
    let e : (a + b) % 2 ≡ (a % 2 + b % 2) % 2 = omega arith in
    rw (xor-half a b, xor_low a b, e, generator-sum (a % 2) (b % 2) (omega arith) (omega arith))
    (xor-swap (a / 2) (b / 2) (a % 2 * feedback) (b % 2 * feedback))

pub turns-xor : (n a b : ℕ) → turns n (bit_xor a b) ≡ bit_xor (turns n a) (turns n b)
unfolding turns
turns-xor zero a b = refl
turns-xor (suc n) a b = ap (turns n) (turn-xor a b) ∙ turns-xor n (turn a) (turn b)

pub turns-add : (m n r : ℕ) → turns (m + n) r ≡ turns n (turns m r)
unfolding turns
turns-add zero n r = rw (zero-add n) refl
turns-add (suc m) n r = rw (suc-add m n) (turns-add m n (turn r))

turn_even : (x : ℕ) → turn (x * 2) ≡ x
unfolding turn
turn_even x =
    let h : x * 2 / 2 ≡ x = omega arith in
    let l : x * 2 % 2 ≡ 0 = omega arith in
    rw (h, l) (xor_zero_r x)

-- what is n places above the register is in it after n steps
pub turns-shift : (n x : ℕ) → turns n (x * 2 ^ n) ≡ x
unfolding turns
turns-shift zero x = omega arith
turns-shift (suc n) x = ap (turns n) (rw (pow-suc 2 n, ← mul_assoc x (2 ^ n) 2) (turn_even (x * 2 ^ n))) ∙ turns-shift n x

-- a number in two: n low places, and what is above them
pub turns-split : (n m x y : ℕ) → x < 2 ^ n → turns (n + m) (y * 2 ^ n + x) ≡ bit_xor (turns (n + m) x) (turns m y)
turns-split n m x y h =
    ap (turns (n + m)) (sym (xor_shifted y n x h) ∙ xor_comm (y * 2 ^ n) x)
    ∙ turns-xor (n + m) x (y * 2 ^ n)
    ∙ ap (bit_xor (turns (n + m) x)) (turns-add n m (y * 2 ^ n) ∙ ap (turns m) (turns-shift n y))

-- the low byte apart
turns-byte : (n y : ℕ) → turns (8 + n) y ≡ bit_xor (turns (8 + n) (y % 256)) (turns n (y / 256))
turns-byte n y =
    let e : y ≡ y / 256 * 2 ^ 8 + y % 256 = omega arith in
    ap (turns (8 + n)) e ∙ turns-split 8 n (y % 256) (y / 256) (omega arith)

-- the register stays within its 32 bits
turn-lt : (r : ℕ) → r < 2 ^ 32 → turn r < 2 ^ 32
unfolding turn
turn-lt r h = xor_lt 32 (r / 2) (r % 2 * feedback) (omega arith) (omega arith)

turns-lt : (n r : ℕ) → r < 2 ^ 32 → turns n r < 2 ^ 32
unfolding turns
turns-lt zero r h = h
turns-lt (suc n) r h = turns-lt n (turn r) (turn-lt r h)

pub fed-lt : (bs : List ℕ) (r : ℕ) → Bytes bs → r < 2 ^ 32 → fed r bs < 2 ^ 32
unfolding fed
fed-lt [] r b h = h
fed-lt (x ∷ xs) r b h = fed-lt xs (turns 8 (bit_xor r x)) (λ i. b (suc i)) (turns-lt 8 (bit_xor r x) (xor_lt 32 r x h (omega (arith, b 0))))

-- ---- the bytes

-- bytes that are due later may be put in at once
pub fed-le : (bs : List ℕ) (r : ℕ) → Bytes bs → fed r bs ≡ turns (8 * length bs) (bit_xor r (le bs))
unfolding fed le turns
fed-le [] r b = sym (xor_zero_r r)
fed-le (x ∷ xs) r b = fed-le xs (turns 8 (bit_xor r x)) (λ i. b (suc i)) ∙ sym (later (8 * length xs) (8 * suc (length xs)) (le xs) (b 0) (omega arith))
  where
    later : (m k y : ℕ) → x < 256 → k ≡ 8 + m → turns k (bit_xor r (x + 256 * y)) ≡ turns m (bit_xor (turns 8 (bit_xor r x)) y)
    later m k y h e =
        let a : x + 256 * y ≡ y * 2 ^ 8 + x = omega arith in
        let z : bit_xor r (x + 256 * y) ≡ bit_xor (bit_xor r x) (y * 2 ^ 8) =
        ap (bit_xor r) (a ∙ sym (xor_shifted y 8 x h) ∙ xor_comm (y * 2 ^ 8) x) ∙ sym (xor_assoc r x (y * 2 ^ 8)) in
        rw (e, z, turns-add 8 m (bit_xor (bit_xor r x) (y * 2 ^ 8)), turns-xor 8 (bit_xor r x) (y * 2 ^ 8), turns-shift 8 y) refl

-- parts fed one after the other
pub fed-append : (r : ℕ) (xs ys : List ℕ) → fed r (xs ++ ys) ≡ fed (fed r xs) ys
unfolding fed
fed-append r [] ys = refl
fed-append r (x ∷ xs) ys = fed-append (turns 8 (bit_xor r x)) xs ys

-- ---- the tables

entry_at : (k j : ℕ) → j < 256 → entry (256 * k + j) ≡ turns (8 + 8 * k) j
unfolding entry
entry_at k j h =
    let d : (256 * k + j) / 256 ≡ k = omega arith in
    let m : (256 * k + j) % 256 ≡ j = omega arith in
    let e : 8 * (k + 1) ≡ 8 + 8 * k = omega arith in
    rw (d, m, e) refl

-- eight steps by the first table
pub turns-entry : (y : ℕ) → turns 8 y ≡ bit_xor (entry (y % 256)) (y / 256)
unfolding turns
turns-entry y = turns-byte 0 y ∙ ap (λ (x : ℕ). bit_xor x (y / 256)) (sym (entry_at 0 (y % 256) (omega arith)) ∙ ap entry (zero-add (y % 256)))

-- what the code looks up for these bytes, the lowest first
abbrev pub looked : List ℕ → List ℕ → ℕ
looked t [] = 0
looked t (x ∷ []) = get_or t x 0
looked t (x ∷ y ∷ ys) = bit_xor (looked t (y ∷ ys)) (get_or t (256 * suc (length ys) + x) 0)

looked-turns : (t : List ℕ) (x : ℕ) (xs : List ℕ) → Tables t → length xs < 16 → Bytes (x ∷ xs) → looked t (x ∷ xs) ≡ turns (8 * suc (length xs)) (le (x ∷ xs))
unfolding le
looked-turns t x [] z l b =
    let e : x ≡ 256 * 0 + x = omega arith in
    let v : x + 256 * 0 ≡ x = omega arith in
    rw v (z.holds x (omega (arith, b 0)) ∙ ap entry e ∙ entry_at 0 x (b 0))
looked-turns t x (y ∷ ys) z l b =
    let k : ℕ = suc (length ys) in
    let m : 8 * suc k ≡ 8 + 8 * k = omega arith in
    let lo : (x + 256 * le (y ∷ ys)) % 256 ≡ x = omega (arith, b 0) in
    let hi : (x + 256 * le (y ∷ ys)) / 256 ≡ le (y ∷ ys) = omega (arith, b 0) in
    rw m
    (ap₂ bit_xor (looked-turns t y ys z (omega arith) (λ i. b (suc i))) (z.holds (256 * k + x) (omega (arith, b 0)) ∙ entry_at k x (b 0))
    ∙ xor_comm (turns (8 * k) (le (y ∷ ys))) (turns (8 + 8 * k) x)
    ∙ sym (turns-byte (8 * k) (x + 256 * le (y ∷ ys)) ∙ ap₂ (λ (i j : ℕ). bit_xor (turns (8 + 8 * k) i) (turns (8 * k) j)) lo hi))

-- ---- in the shape of the functions' needs

pub byte-law : (t : List ℕ) (y : ℕ) → Tables t → bit_xor (get_or t (y % 256) 0) (y / 256) ≡ turns 8 y
byte-law t y z = rw (z.holds (y % 256) (omega arith)) (sym (turns-entry y))

-- the n elements from k on, one by one
abbrev pub run : List ℕ → ℕ → ℕ → List ℕ
run s k zero = []
run s k (suc n) = get_or s k 0 ∷ run s (suc k) n

run-drop : (s : List ℕ) (k n : ℕ) → length s ≡ k + n → run s k n ≡ drop k s
run-drop s k zero h = sym (drop_all k s (omega arith))
run-drop s k (suc n) h = ap (λ (t : List ℕ). get_or s k 0 ∷ t) (run-drop s (suc k) n (omega arith)) ∙ sym (drop-cons s k 0 (omega arith))

-- what the code looks up for the sixteen bytes p, where y stands for the first four
abbrev pub pair_looked : List ℕ → List ℕ → List ℕ → ℕ
pair_looked t y p = looked t (run y 0 4 ++ run p 4 12)

-- a number of four bytes is put into the lowest four
xor-into : (v u c : ℕ) → c < 2 ^ 32 → v < 2 ^ 32 → bit_xor c (v + 2 ^ 32 * u) ≡ bit_xor v c + 2 ^ 32 * u
xor-into v u c hc hv =
    let a : v + 2 ^ 32 * u ≡ u * 2 ^ 32 + v = omega arith in
    let z : bit_xor v c + 2 ^ 32 * u ≡ u * 2 ^ 32 + bit_xor v c = omega arith in
    rw (a, z)
    (ap (bit_xor c) (sym (xor_shifted u 32 v hv) ∙ xor_comm (u * 2 ^ 32) v) ∙ sym (xor_assoc c v (u * 2 ^ 32)) ∙ ap (λ (y : ℕ). bit_xor y (u * 2 ^ 32)) (xor_comm c v)
    ∙ xor_comm (bit_xor v c) (u * 2 ^ 32) ∙ xor_shifted u 32 (bit_xor v c) (xor_lt 32 v c hv hc))

-- sixteen bytes: the register is put into the first four
pub pair-law : (t y p : List ℕ) (c v : ℕ) → Tables t → length p ≡ 16 → Bytes p → c < 2 ^ 32 → v ≡ le (part 0 4 p) → y ≡ le_digits 4 (bit_xor v c) → pair_looked t y p ≡ fed c p
pair-law t y p c v z n b h q e =
    let x : ℕ = bit_xor v c in
    let hv : v < 2 ^ 32 = rw q (le-part-lt p 0 4 (omega arith) b) in
    let ly : length y ≡ 4 = ap length e ∙ length-le_digits 4 x in
    let by : Bytes y = rw e (bytes-le_digits 4 x) in
    let parts : run y 0 4 ++ run p 4 12 ≡ y ++ drop 4 p = ap₂ (λ (i j : List ℕ). i ++ j) (run-drop y 0 4 ly) (run-drop p 4 12 n) in
    let low : le p ≡ v + 2 ^ 32 * le (drop 4 p) =
    ap le (sym (ap (λ (s : List ℕ). s ++ drop 4 p) (part-is 0 4 p) ∙ take-append-drop 4 p))
    ∙ rw (le-append (part 0 4 p) (drop 4 p), length_part p 0 4 (omega arith), ← q) refl in
    let sum : le (y ++ drop 4 p) ≡ bit_xor c (le p) =
    rw (le-append y (drop 4 p), ly, e, le-le_digits-fits 4 x (xor_lt 32 v c hv h), low) (sym (xor-into v (le (drop 4 p)) c h hv)) in
    looked-turns t (get_or y 0 0) (run y 1 3 ++ run p 4 12) z (omega arith) (rw parts (bytes-append y (drop 4 p) by (bytes_drop 4 p b)))
    ∙ rw (parts, sum) (sym (fed-le p c b ∙ rw n refl))

-- the loop over the sixteens: at its start, and after a turn
pub none-fed : (ps : List (List ℕ)) (r : ℕ) → r ≡ fed r (concat (take 0 ps))
unfolding fed
none-fed ps r = refl

pub pair-more : (ps : List (List ℕ)) (i r c x : ℕ) → c ≡ fed r (concat (take i ps)) → x ≡ fed c (get_or ps i []) → i < length ps → x ≡ fed r (concat (take (i + 1) ps))
pair-more ps i r c x p q h =
    rw (take_more ps i [] h, concat-append (take i ps) (get_or ps i [] ∷ []), append-nil (get_or ps i []), fed-append r (concat (take i ps)) (get_or ps i []), ← p) q

pub all-pairs : (ps : List (List ℕ)) (i r c : ℕ) → c ≡ fed r (concat (take i ps)) → length ps ≤ i → c ≡ fed r (concat ps)
all-pairs ps i r c p h = rw (take_all i ps h) at p

-- the single bytes
pub bytes-fed : (r : ℕ) (s : List ℕ) → fold (λ c b. turns 8 (bit_xor c b)) r s ≡ fed r s
unfolding fed
bytes-fed r [] = refl
bytes-fed r (b ∷ bs) = bytes-fed (turns 8 (bit_xor r b)) bs

-- the sixteens and what is left
chunks-drop : (n k : ℕ) (s : List ℕ) → concat (first_chunks n k s) ++ drop (k * n) s ≡ s
chunks-drop n zero s = rw (zero-mul n) refl
chunks-drop n (suc k) s =
    let e : suc k * n ≡ n + k * n = suc-mul k n ∙ add_comm (k * n) n in
    rw (e, append_assoc, ← drop-drop (k * n) n s, chunks-drop n k (drop n s)) (take-append-drop n s)

pub both-fed : (s t : List ℕ) (ps : List (List ℕ)) (k r c x : ℕ) → ps ≡ first_chunks 16 k s → t ≡ drop (k * 16) s → c ≡ fed r (concat ps) → x ≡ fold (λ d b. turns 8 (bit_xor d b)) c t → x ≡ fed r s
both-fed s t ps k r c x f g p q =
    q ∙ bytes-fed c t ∙ rw (p, f, g) (sym (fed-append r (concat (first_chunks 16 k s)) (drop (k * 16) s)) ∙ ap (fed r) (chunks-drop 16 k s))
