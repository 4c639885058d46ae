-- Laws of numbers in bytes, over any width, and of parts of a buffer.
-- Assumes nothing.
use mathlib.Core.Path.{◌≡◌, refl, sym, ap, ◌∙◌}
use mathlib.Core.List.{List, [], ◌∷◌, ◌++◌, append_assoc, append-nil}
use mathlib.Core.Bool.{true}
use Prim.Native.Nat.{ℕ, zero, suc, ◌+◌, ◌*◌, ◌-◌, ◌/◌, ◌%◌, ◌^◌, ◌≤◌, ◌<◌}
use native.Mathlib.Nat.{add-zero, add-suc, suc-add, zero-add, add_assoc, add-mul, mul_assoc, mul_comm, pow-suc, mod-lt, mod-one, mod-eq_of_lt, one-le-pow, mul-add-div_right, mul-add-mod_self_right}
use native.Mathlib.Omega.{arith}
use lib.Arith.{mod-mul, digits_lt, digits_div}
use lib.Pow.{pow-add}
use lib.Dec.{eqb}
use lib.ListN.{length, take, drop, get_or, set, replicate, length-append, length-take, length-drop, length-replicate, take-append-drop, get_or-append}
use lib.Seq.{drop-cons, take-add, drop-drop, take-take, take_all, take-length, take-nil, take_at, drop_at, take-append-le, drop-append-le, drop-append-add, get_or-take, get_or-drop, length-take-le, sets, sets-eq, length-sets}
use borrow.Author.Tests.{eqb-true}
use Rattle.rules.specs.Lists.{all}
use Rattle.rules.specs.Bytes.{Bytes, be, le, be_digits, le_digits, part, patch, all_zero, padded}
use Rattle.rules.proofs.ListLaws.{and_left, and_right, and_intro, all_append}

-- ---- numbers in bytes

-- a power of 256 is not zero
pub pow256-pos : (n : ℕ) → 0 < 256 ^ n
pow256-pos n = one-le-pow n 256 (omega arith)

-- one more byte is one more factor
pow256-suc : (n : ℕ) → 256 ^ suc n ≡ 256 * 256 ^ n
pow256-suc n = pow-suc 256 n ∙ mul_comm (256 ^ n) 256

-- n bytes big-endian are n bytes
pub length-be_digits : (n v : ℕ) → length (be_digits n v) ≡ n
unfolding be_digits
length-be_digits zero v = refl
length-be_digits (suc n) v = ap suc (length-be_digits n v)

-- n bytes little-endian are n bytes
pub length-le_digits : (n v : ℕ) → length (le_digits n v) ≡ n
unfolding le_digits
length-le_digits zero v = refl
length-le_digits (suc n) v = ap suc (length-le_digits n (v / 256))

-- each of them is a byte
pub bytes-be_digits : (n v : ℕ) → Bytes (be_digits n v)
unfolding be_digits
bytes-be_digits zero v i = omega arith
bytes-be_digits (suc n) v zero = mod-lt (v / 256 ^ n) (omega arith)
bytes-be_digits (suc n) v (suc i) = bytes-be_digits n v i

-- each of them is a byte, little-endian
pub bytes-le_digits : (n v : ℕ) → Bytes (le_digits n v)
unfolding le_digits
bytes-le_digits zero v i = omega arith
bytes-le_digits (suc n) v zero = mod-lt v (omega arith)
bytes-le_digits (suc n) v (suc i) = bytes-le_digits n (v / 256) i

-- what n bytes say of any number, big-endian
pub be-be_digits : (n v : ℕ) → be (be_digits n v) ≡ v % 256 ^ n
unfolding be be_digits
be-be_digits zero v = sym (mod-one v)
be-be_digits (suc n) v =
    rw (be-be_digits n v, length-be_digits n v, pow256-suc n) (sym (mod-mul v {m = 256} {c = 256 ^ n} (omega arith) (pow256-pos n)))

-- and of one that fits
pub be-be_digits-fits : (n v : ℕ) → v < 256 ^ n → be (be_digits n v) ≡ v
be-be_digits-fits n v h = be-be_digits n v ∙ mod-eq_of_lt h

-- what n bytes say of any number, little-endian
pub le-le_digits : (n v : ℕ) → le (le_digits n v) ≡ v % 256 ^ n
unfolding le le_digits
le-le_digits zero v = sym (mod-one v)
le-le_digits (suc n) v =
    rw (le-le_digits n (v / 256), pow-suc 256 n, mod-mul v {m = 256 ^ n} {c = 256} (pow256-pos n) (omega arith)) (omega arith)

-- and of one that fits
pub le-le_digits-fits : (n v : ℕ) → v < 256 ^ n → le (le_digits n v) ≡ v
le-le_digits-fits n v h = le-le_digits n v ∙ mod-eq_of_lt h

-- bytes say a number below the power of their length, big-endian
pub be-lt : (s : List ℕ) → Bytes s → be s < 256 ^ length s
unfolding be
be-lt [] b = omega arith
be-lt (x ∷ xs) b = rw (pow256-suc (length xs)) (digits_lt (b 0) (be-lt xs (λ i. b (suc i))))

-- and little-endian
pub le-lt : (s : List ℕ) → Bytes s → le s < 256 ^ length s
unfolding le
le-lt [] b = omega arith
le-lt (x ∷ xs) b =
    let p : le xs * 256 + x < 256 ^ length xs * 256 = digits_lt (le-lt xs (λ i. b (suc i))) (b 0) in
    rw (pow-suc 256 (length xs)) (omega arith)

-- two runs of bytes make one number, big-endian
pub be-append : (xs ys : List ℕ) → be (xs ++ ys) ≡ be xs * 256 ^ length ys + be ys
unfolding be
be-append [] ys = omega arith
be-append (x ∷ xs) ys =
    rw (be-append xs ys, length-append xs ys, pow-add 256 (length xs) (length ys), ← mul_assoc x (256 ^ length xs) (256 ^ length ys), add-mul) (rw (← add_assoc) refl)

-- digits above the n lowest are not written
pub be_digits-above : (n a v : ℕ) → be_digits n (a * 256 ^ n + v) ≡ be_digits n v
unfolding be_digits
be_digits-above zero a v = refl
be_digits-above (suc n) a v =
    let e : a * 256 ^ suc n ≡ a * 256 * 256 ^ n = rw (pow256-suc n) (sym (mul_assoc a 256 (256 ^ n))) in
    rw (e, mul-add-div_right (pow256-pos n) (a * 256) v, mul-add-mod_self_right a 256 (v / 256 ^ n), be_digits-above n (a * 256) v) refl

-- bytes are the digits of the number that they say, big-endian
pub be_digits-be : (s : List ℕ) → Bytes s → be_digits (length s) (be s) ≡ s
unfolding be be_digits
be_digits-be [] b = refl
be_digits-be (x ∷ xs) b =
    let lt : be xs < 256 ^ length xs = be-lt xs (λ i. b (suc i)) in
    rw (digits_div x lt, mod-eq_of_lt (b 0), be_digits-above (length xs) x (be xs), be_digits-be xs (λ i. b (suc i))) refl

-- the same for bytes of a stated length
pub be_digits-be-at : (n : ℕ) (s : List ℕ) → length s ≡ n → Bytes s → be_digits n (be s) ≡ s
be_digits-be-at n s e b = rw (← e) (be_digits-be s b)

-- and little-endian
pub le_digits-le : (s : List ℕ) → Bytes s → le_digits (length s) (le s) ≡ s
unfolding le le_digits
le_digits-le [] b = refl
le_digits-le (x ∷ xs) b =
    let p : x < 256 = b 0 in
    let m : (x + 256 * le xs) % 256 ≡ x = omega arith in
    let d : (x + 256 * le xs) / 256 ≡ le xs = omega arith in
    rw (m, d, le_digits-le xs (λ i. b (suc i))) refl

-- the same for bytes of a stated length
pub le_digits-le-at : (n : ℕ) (s : List ℕ) → length s ≡ n → Bytes s → le_digits n (le s) ≡ s
le_digits-le-at n s e b = rw (← e) (le_digits-le s b)

-- ---- bytes

-- no bytes
pub bytes-nil : Bytes []
bytes-nil i = omega arith

-- one byte more
pub bytes-cons : (x : ℕ) (s : List ℕ) → x < 256 → Bytes s → Bytes (x ∷ s)
bytes-cons x s h b zero = h
bytes-cons x s h b (suc i) = b i

-- two runs of bytes
pub bytes-append : (xs ys : List ℕ) → Bytes xs → Bytes ys → Bytes (xs ++ ys)
bytes-append [] ys b c i = c i
bytes-append (x ∷ xs) ys b c zero = b 0
bytes-append (x ∷ xs) ys b c (suc i) = bytes-append xs ys (λ j. b (suc j)) c i

-- the first n of them
pub bytes_take : (n : ℕ) (s : List ℕ) → Bytes s → Bytes (take n s)
bytes_take zero s b i = omega arith
bytes_take (suc n) [] b i = omega arith
bytes_take (suc n) (x ∷ s) b zero = b 0
bytes_take (suc n) (x ∷ s) b (suc i) = bytes_take n s (λ j. b (suc j)) i

-- those behind the first n
pub bytes_drop : (n : ℕ) (s : List ℕ) → Bytes s → Bytes (drop n s)
bytes_drop n s b i = rw (get_or-drop n s i 0) (b (n + i))

-- a part of them
pub bytes-part : (s : List ℕ) (a n : ℕ) → Bytes s → Bytes (part a n s)
unfolding part
bytes-part s a n b = bytes_take n (drop a s) (bytes_drop a s b)

-- one byte many times
pub bytes-replicate : (n x : ℕ) → x < 256 → Bytes (replicate n x)
bytes-replicate zero x h i = omega arith
bytes-replicate (suc n) x h zero = h
bytes-replicate (suc n) x h (suc i) = bytes-replicate n x h i

-- bytes put in place of others
pub bytes-patch : (s : List ℕ) (a : ℕ) (xs : List ℕ) → Bytes s → Bytes xs → Bytes (patch s a xs)
unfolding patch
bytes-patch s a xs b c =
    bytes-append (take a s ++ xs) (drop (a + length xs) s) (bytes-append (take a s) xs (bytes_take a s b) c) (bytes_drop (a + length xs) s b)

-- zeros behind them
pub bytes-padded : (n : ℕ) (s : List ℕ) → Bytes s → Bytes (padded n s)
unfolding padded
bytes-padded n s b = bytes-append s (replicate (n - length s) 0) b (bytes-replicate (n - length s) 0 (omega arith))

-- ---- parts

-- a part that lies in the buffer has its length
pub length_part : (s : List ℕ) (a n : ℕ) → a + n ≤ length s → length (part a n s) ≡ n
unfolding part
length_part s a n h = simp (length-take, length-drop) (omega arith)

-- a byte of a part
pub get_d_part : (s : List ℕ) (a n i : ℕ) → i < n → get_or (part a n s) i 0 ≡ get_or s (a + i) 0
unfolding part
get_d_part s a n i h = get_or-take n (drop a s) i 0 h ∙ get_or-drop a s i 0

-- what a part says is below the power of its length, big-endian
pub be-part-lt : (s : List ℕ) (a n : ℕ) → a + n ≤ length s → Bytes s → be (part a n s) < 256 ^ n
be-part-lt s a n h b = rw (length_part s a n h) at (be-lt (part a n s) (bytes-part s a n b))

-- and little-endian
pub le-part-lt : (s : List ℕ) (a n : ℕ) → a + n ≤ length s → Bytes s → le (part a n s) < 256 ^ n
le-part-lt s a n h b = rw (length_part s a n h) at (le-lt (part a n s) (bytes-part s a n b))

-- a part is the digits of the number that it says, big-endian
pub be_digits-part : (s : List ℕ) (a n : ℕ) → a + n ≤ length s → Bytes s → be_digits n (be (part a n s)) ≡ part a n s
be_digits-part s a n h b = be_digits-be-at n (part a n s) (length_part s a n h) (bytes-part s a n b)

-- and little-endian
pub le_digits-part : (s : List ℕ) (a n : ℕ) → a + n ≤ length s → Bytes s → le_digits n (le (part a n s)) ≡ part a n s
le_digits-part s a n h b = le_digits-le-at n (part a n s) (length_part s a n h) (bytes-part s a n b)

-- no bytes
pub part_none : (s : List ℕ) (a : ℕ) → part a 0 s ≡ []
unfolding part
part_none s a = refl

-- all of them
pub part-all : (s : List ℕ) (n : ℕ) → length s ≤ n → part 0 n s ≡ s
unfolding part
part-all s n h = take_all n s h

-- the first byte of a part, and the rest
pub part-suc : (s : List ℕ) (a n : ℕ) → a < length s → part a (suc n) s ≡ get_or s a 0 ∷ part (suc a) n s
unfolding part
part-suc s a n h = rw (drop-cons s a 0 h) refl

-- two parts side by side
pub part-add : (s : List ℕ) (a n m : ℕ) → part a (n + m) s ≡ part a n s ++ part (a + n) m s
unfolding part
part-add s a n m = take-add n m (drop a s) ∙ rw (drop-drop n a s) refl

-- what is left of the first b + n behind the first b
pub drop-take : (b n : ℕ) (s : List ℕ) → drop b (take (b + n) s) ≡ take n (drop b s)
drop-take zero n s = rw (zero-add n) refl
drop-take (suc b) n [] = rw (suc-add b n) (sym (take-nil n))
drop-take (suc b) n (x ∷ s) = rw (suc-add b n) (drop-take b n s)

-- a part of a part
pub part-part : (s : List ℕ) (a n b m : ℕ) → b + m ≤ n → part b m (part a n s) ≡ part (a + b) m s
unfolding part
part-part s a n b m h =
    let e : n ≡ b + (n - b) = omega arith in
    rw (e, drop-take b (n - b) (drop a s), drop-drop b a s) (take-take m (n - b) (drop (a + b) s) (omega arith))

-- what stands behind a part
pub part-drop : (s : List ℕ) (a n b : ℕ) → part a n (drop b s) ≡ part (b + a) n s
unfolding part
part-drop s a n b = rw (drop-drop a b s) refl

-- a part inside the first of two runs
pub part_left : (xs ys : List ℕ) (a n : ℕ) → a + n ≤ length xs → part a n (xs ++ ys) ≡ part a n xs
unfolding part
part_left xs ys a n h =
    let l : n ≤ length (drop a xs) = simp length-drop (omega arith) in
    rw (drop-append-le a xs ys (omega arith)) (take-append-le n (drop a xs) ys l)

-- a part inside the second
pub part_right : (xs ys : List ℕ) (a n : ℕ) → length xs ≤ a → part a n (xs ++ ys) ≡ part (a - length xs) n ys
unfolding part
part_right xs ys a n h =
    let e : length xs + (a - length xs) ≡ a = omega arith in
    ap (λ (k : ℕ). take n (drop k (xs ++ ys))) (sym e) ∙ rw (drop-append-add xs ys (a - length xs)) refl

-- the first of two runs
pub part-first : (xs ys : List ℕ) (n : ℕ) → length xs ≡ n → part 0 n (xs ++ ys) ≡ xs
unfolding part
part-first xs ys n e = take_at xs ys n e

-- the second
pub part-last : (xs ys : List ℕ) (a n : ℕ) → length xs ≡ a → length ys ≡ n → part a n (xs ++ ys) ≡ ys
unfolding part
part-last xs ys a n e f = rw (drop_at xs ys a e, ← f) (take-length ys)

-- the middle one of three
pub part-middle : (xs ys zs : List ℕ) (a n : ℕ) → length xs ≡ a → length ys ≡ n → part a n (xs ++ ys ++ zs) ≡ ys
part-middle xs ys zs a n e f =
    part_left (xs ++ ys) zs a n (rw length-append (omega arith)) ∙ part-last xs ys a n e f

-- ---- bytes put in place of others

-- a patch is one store after the other
patch-sets : (s : List ℕ) (a : ℕ) (xs : List ℕ) → a + length xs ≤ length s → sets s a xs ≡ patch s a xs
unfolding patch
patch-sets s a xs h = sets-eq xs s a h

-- a patch that lies in the buffer keeps its length
pub length-patch : (s : List ℕ) (a : ℕ) (xs : List ℕ) → a + length xs ≤ length s → length (patch s a xs) ≡ length s
length-patch s a xs h = rw (← patch-sets s a xs h) (length-sets s a xs)

-- what stands in front of the patched bytes
pub take-patch : (s : List ℕ) (a n : ℕ) (xs : List ℕ) → n ≤ a → a ≤ length s → take n (patch s a xs) ≡ take n s
unfolding patch
take-patch s a n xs l h =
    let f : length (take a s) ≡ a = length-take-le a s h in
    rw (append_assoc (take a s) xs (drop (a + length xs) s), take-append-le n (take a s) (xs ++ drop (a + length xs) s) (omega arith)) (take-take n a s l)

-- the patched bytes, and what stands behind them
pub drop-patch : (s : List ℕ) (a : ℕ) (xs : List ℕ) → a ≤ length s → drop a (patch s a xs) ≡ xs ++ drop (a + length xs) s
unfolding patch
drop-patch s a xs h =
    rw (append_assoc (take a s) xs (drop (a + length xs) s)) (drop_at (take a s) (xs ++ drop (a + length xs) s) a (length-take-le a s h))

-- what stands behind them
pub drop-patch-behind : (s : List ℕ) (a n : ℕ) (xs : List ℕ) → a + length xs ≤ n → a + length xs ≤ length s → drop n (patch s a xs) ≡ drop n s
drop-patch-behind s a n xs l h =
    let e : n ≡ a + (length xs + (n - (a + length xs))) = omega arith in
    let f : a + length xs + (n - (a + length xs)) ≡ n = omega arith in
    ap (λ (k : ℕ). drop k (patch s a xs)) e
    ∙ sym (drop-drop (length xs + (n - (a + length xs))) a (patch s a xs))
    ∙ rw (drop-patch s a xs (omega arith), drop-append-add xs (drop (a + length xs) s) (n - (a + length xs)), drop-drop (n - (a + length xs)) (a + length xs) s, f) refl

-- the patched bytes are there
pub part-patch : (s : List ℕ) (a n : ℕ) (xs : List ℕ) → length xs ≡ n → a + n ≤ length s → part a n (patch s a xs) ≡ xs
unfolding part
part-patch s a n xs e h = rw (drop-patch s a xs (omega arith)) (take_at xs (drop (a + length xs) s) n e)

-- a part in front of the patched bytes is kept
pub part-patch-before : (s : List ℕ) (a b n : ℕ) (xs : List ℕ) → b + n ≤ a → a ≤ length s → part b n (patch s a xs) ≡ part b n s
unfolding part
part-patch-before s a b n xs l h = sym (drop-take b n (patch s a xs)) ∙ rw (take-patch s a (b + n) xs l h) (drop-take b n s)

-- a part behind them is kept
pub part-patch-behind : (s : List ℕ) (a b n : ℕ) (xs : List ℕ) → a + length xs ≤ b → a + length xs ≤ length s → part b n (patch s a xs) ≡ part b n s
unfolding part
part-patch-behind s a b n xs l h = rw (drop-patch-behind s a b xs l h) refl

-- a byte in front of the patched ones is kept
pub get_or-patch-before : (s : List ℕ) (a i : ℕ) (xs : List ℕ) → i < a → a ≤ length s → get_or (patch s a xs) i 0 ≡ get_or s i 0
get_or-patch-before s a i xs l h =
    sym (get_or-take a (patch s a xs) i 0 l) ∙ rw (take-patch s a a xs (omega arith) h) (get_or-take a s i 0 l)

-- one of the patched bytes
pub get_or-patch : (s : List ℕ) (a i : ℕ) (xs : List ℕ) → i < length xs → a ≤ length s → get_or (patch s a xs) (a + i) 0 ≡ get_or xs i 0
get_or-patch s a i xs l h =
    sym (get_or-drop a (patch s a xs) i 0) ∙ rw (drop-patch s a xs h) (get_or-append xs (drop (a + length xs) s) 0 i l)

-- a byte behind them is kept
pub get_or-patch-behind : (s : List ℕ) (a i : ℕ) (xs : List ℕ) → a + length xs ≤ i → a + length xs ≤ length s → get_or (patch s a xs) i 0 ≡ get_or s i 0
get_or-patch-behind s a i xs l h =
    ap (λ (k : ℕ). get_or (patch s a xs) k 0) (sym (add-zero i)) ∙ sym (get_or-drop i (patch s a xs) 0 0)
    ∙ rw (drop-patch-behind s a i xs l h) (get_or-drop i s 0 0 ∙ ap (λ (k : ℕ). get_or s k 0) (add-zero i))

-- no bytes put in
pub patch-none : (s : List ℕ) (a : ℕ) → patch s a [] ≡ s
unfolding patch
patch-none s a = rw (add-zero a, append-nil) (take-append-drop a s)

-- a part put back where it stood
pub patch-part : (s : List ℕ) (a n : ℕ) → a + n ≤ length s → patch s a (part a n s) ≡ s
unfolding patch part
patch-part s a n h =
    let e : length (take n (drop a s)) ≡ n = unfold part in length_part s a n h in
    rw (e, ← take-add a n s) (take-append-drop (a + n) s)

-- stores one after the other, in two runs
sets-append : (s : List ℕ) (a : ℕ) (xs ys : List ℕ) → sets s a (xs ++ ys) ≡ sets (sets s a xs) (a + length xs) ys
sets-append s a [] ys = rw add-zero refl
sets-append s a (x ∷ xs) ys = rw (add-suc a (length xs), ← suc-add a (length xs)) (sets-append (set s a x) (suc a) xs ys)

-- two patches side by side, the left one made first
pub patch-patch : (s : List ℕ) (a b : ℕ) (xs ys : List ℕ) → b ≡ a + length xs → b + length ys ≤ length s → patch (patch s a xs) b ys ≡ patch s a (xs ++ ys)
patch-patch s a b xs ys e h =
    let h1 : a + length xs ≤ length s = omega arith in
    let h2 : a + length xs + length ys ≤ length (sets s a xs) = rw length-sets (omega arith) in
    let h3 : a + length (xs ++ ys) ≤ length s = rw length-append (omega arith) in
    rw (e, ← patch-sets s a xs h1, ← patch-sets (sets s a xs) (a + length xs) ys h2, ← patch-sets s a (xs ++ ys) h3) (sym (sets-append s a xs ys))

-- the right one made first
pub patch-before : (s : List ℕ) (a b : ℕ) (xs ys : List ℕ) → b ≡ a + length xs → b ≤ length s → patch (patch s b ys) a xs ≡ patch s a (xs ++ ys)
unfolding patch
patch-before s a b xs ys e h =
    let n : a + length (xs ++ ys) ≡ b + length ys = rw length-append (omega arith) in
    let t : take a (take b s ++ ys ++ drop (b + length ys) s) ≡ take a s = take-patch s b a ys (omega arith) h in
    let d : drop (a + length xs) (take b s ++ ys ++ drop (b + length ys) s) ≡ ys ++ drop (b + length ys) s = rw (← e) (drop-patch s b ys h) in
    rw (n, t, d, ← append_assoc (take a s ++ xs) ys (drop (b + length ys) s)) (rw (append_assoc (take a s) xs ys) refl)

-- two patches of the same place: the second stays
pub patch-again : (s : List ℕ) (a : ℕ) (xs ys : List ℕ) → length xs ≡ length ys → a + length xs ≤ length s → patch (patch s a xs) a ys ≡ patch s a ys
unfolding patch
patch-again s a xs ys e h =
    let t : take a (take a s ++ xs ++ drop (a + length xs) s) ≡ take a s = take-patch s a a xs (omega arith) (omega arith) in
    let d : drop (a + length ys) (take a s ++ xs ++ drop (a + length xs) s) ≡ drop (a + length ys) s = drop-patch-behind s a (a + length ys) xs (omega arith) h in
    rw (t, d) refl

-- ---- zeros

-- zeros are all zero
pub all_zero-replicate : (n : ℕ) → all_zero (replicate n 0) ≡ true
unfolding all_zero all
all_zero-replicate zero = refl
all_zero-replicate (suc n) = all_zero-replicate n

-- what is all zero is zeros
pub zeros_of : (s : List ℕ) → all_zero s ≡ true → s ≡ replicate (length s) 0
unfolding all_zero all
zeros_of [] h = refl
zeros_of (x ∷ s) h =
    rw (eqb-true x 0 (and_left (eqb x 0) (all (λ b. eqb b 0) s) h), ← zeros_of s (and_right (eqb x 0) (all (λ b. eqb b 0) s) h)) refl

-- of two runs
pub all_zero-append : (xs ys : List ℕ) → all_zero xs ≡ true → all_zero ys ≡ true → all_zero (xs ++ ys) ≡ true
unfolding all_zero
all_zero-append xs ys p q = all_append (λ b. eqb b 0) xs ys ∙ and_intro (all (λ b. eqb b 0) xs) (all (λ b. eqb b 0) ys) p q

-- behind the first n
pub all_zero-drop : (n : ℕ) (s : List ℕ) → all_zero s ≡ true → all_zero (drop n s) ≡ true
unfolding all_zero all
all_zero-drop zero s h = h
all_zero-drop (suc n) [] h = refl
all_zero-drop (suc n) (x ∷ s) h = all_zero-drop n s (and_right (eqb x 0) (all (λ b. eqb b 0) s) h)

-- zeros behind s make n bytes
pub length-padded : (n : ℕ) (s : List ℕ) → length s ≤ n → length (padded n s) ≡ n
unfolding padded
length-padded n s h = rw (length-append, length-replicate) (omega arith)

-- the bytes in front of the zeros
pub take-padded : (n : ℕ) (s : List ℕ) (k : ℕ) → length s ≡ k → take k (padded n s) ≡ s
unfolding padded
take-padded n s k e = take_at s (replicate (n - length s) 0) k e

-- the zeros
pub drop-padded : (n : ℕ) (s : List ℕ) (k : ℕ) → length s ≡ k → drop k (padded n s) ≡ replicate (n - k) 0
unfolding padded
drop-padded n s k e = drop_at s (replicate (n - length s) 0) k e ∙ rw e refl

-- bytes that are zeros behind the first k are those k, padded
pub padded-take : (s : List ℕ) (k : ℕ) → k ≤ length s → all_zero (drop k s) ≡ true → padded (length s) (take k s) ≡ s
unfolding padded
padded-take s k h z =
    let e : replicate (length s - length (take k s)) 0 ≡ drop k s =
    rw (length-take-le k s h, ← length-drop k s) (sym (zeros_of (drop k s) z)) in
    rw e (take-append-drop k s)
