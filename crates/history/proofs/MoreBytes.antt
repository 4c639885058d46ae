-- Laws of buffers that the laws of write and grow rest on: zeros behind a list, parts of it, and what is put in past its end.
-- Assumes nothing.
use mathlib.Core.Path.{◌≡◌, sym, ap, ◌∙◌}
use mathlib.Core.List.{List, [], ◌++◌, append-nil, append_assoc}
use Prim.Native.Nat.{ℕ, ◌+◌, ◌-◌, min, max, ◌≤◌, ◌<◌}
use native.Mathlib.Nat.{zero-add}
use native.Mathlib.Decide.{dec_le, dec_lt}
use native.Mathlib.Omega.{arith}
use lib.ListN.{length, take, drop, get_or, replicate, length-append, length-take, length-drop, length-replicate, get_or-replicate, take-append-drop, replicate-append-replicate, drop_of_length-le, get_or-append, get_or-eq_default}
use lib.Seq.{take_all, get_or-append-add, get_or-drop, ext_get_or}
use Rattle.rules.specs.Bytes.{part, patch, padded}
use Rattle.rules.proofs.ListLaws.{get_or-same}
use Rattle.rules.proofs.ByteLaws.{get_d_part, part-part}

-- ---- zeros behind a list

-- they are not seen
pub get_or-padded : (n : ℕ) (s : List ℕ) (i : ℕ) → get_or (padded n s) i 0 ≡ get_or s i 0
unfolding padded
get_or-padded n s i = go (dec_lt i (length s))
  where
    go : Dec (i < length s) → get_or (s ++ replicate (n - length s) 0) i 0 ≡ get_or s i 0
    go (yes l) = get_or-append s (replicate (n - length s) 0) 0 i l
    go (no l) =
        let e : length s + (i - length s) ≡ i = omega arith in
        sym (ap (λ (k : ℕ). get_or (s ++ replicate (n - length s) 0) k 0) e) ∙ get_or-append-add s (replicate (n - length s) 0) (i - length s) 0 ∙ get_or-same (n - length s) 0 (i - length s)
        ∙ sym (get_or-eq_default s 0 {n = i} (omega arith))

-- a list that is long enough gets none
pub padded-whole : (n : ℕ) (s : List ℕ) → length s ≡ n → padded n s ≡ s
unfolding padded
padded-whole n s e =
    let z : n - length s ≡ 0 = omega arith in
    rw z (append-nil s)

-- a list in two parts, each with its zeros
pub padded-split : (k m : ℕ) (ys : List ℕ) → length ys ≤ k + m → padded k (take k ys) ++ padded m (drop k ys) ≡ padded (k + m) ys
unfolding padded
padded-split k m ys l = go (dec_le k (length ys))
  where
    go : Dec (k ≤ length ys) → (take k ys ++ replicate (k - length (take k ys)) 0) ++ (drop k ys ++ replicate (m - length (drop k ys)) 0) ≡ ys ++ replicate (k + m - length ys) 0
    go (yes h) =
        let a : k - length (take k ys) ≡ 0 = simp length-take (omega arith) in
        let b : m - length (drop k ys) ≡ k + m - length ys = simp length-drop (omega arith) in
        rw (a, b, append-nil (take k ys)) (sym (append_assoc (take k ys) (drop k ys) (replicate (k + m - length ys) 0)) ∙ ap (λ (xs : List ℕ). xs ++ replicate (k + m - length ys) 0) (take-append-drop k ys))
    go (no h) =
        let a : take k ys ≡ ys = take_all k ys (omega arith) in
        let b : drop k ys ≡ [] = drop_of_length-le ys {i = k} (omega arith) in
        let c : (k - length ys) + (m - 0) ≡ k + m - length ys = omega arith in
        rw (a, b) (append_assoc ys (replicate (k - length ys) 0) (replicate (m - 0) 0)
        ∙ ap (λ (xs : List ℕ). ys ++ xs) (replicate-append-replicate (k - length ys) (m - 0) 0 ∙ ap (λ (n : ℕ). replicate n 0) c))

-- ---- parts

-- how long a part is
pub length-part-min : (s : List ℕ) (a n : ℕ) → length (part a n s) ≡ min n (length s - a)
unfolding part
length-part-min s a n = length-take n (drop a s) ∙ ap (min n) (length-drop a s)

-- a part of the first n bytes, where it ends among them
pub part_cut : (a m n : ℕ) (s : List ℕ) → a + m ≤ n → part a m (take n s) ≡ part a m s
unfolding part
part_cut a m n s h = part-part s 0 n a m h ∙ ap (λ (k : ℕ). part k m s) (zero-add a)

-- a part of zeros
pub zero-part : (s : List ℕ) (a n : ℕ) → ((j : ℕ) → j < n → get_or s (a + j) 0 ≡ 0) → part a n s ≡ replicate (length (part a n s)) 0
zero-part s a n h =
    ext_get_or 0 (part a n s) (replicate (length (part a n s)) 0) (sym (length-replicate {A = ℕ} (length (part a n s)) 0))
    (λ i l. let q : i < n = omega (arith, length-part-min s a n) in
    get_d_part s a n i q ∙ h i q ∙ sym (get_or-replicate {A = ℕ} (length (part a n s)) i 0 0 l))

-- ---- what is put in

-- behind it the bytes are as before
pub get_or-patch-after : (s : List ℕ) (a i : ℕ) (xs : List ℕ) → a ≤ length s → a + length xs ≤ i → get_or (patch s a xs) i 0 ≡ get_or s i 0
unfolding patch
get_or-patch-after s a i xs l h =
    let n : length (take a s ++ xs) ≡ a + length xs = length-append (take a s) xs ∙ ap (λ (k : ℕ). k + length xs) (length-take a s ∙ (omega arith)) in
    let e : length (take a s ++ xs) + (i - (a + length xs)) ≡ i = omega arith in
    let f : a + length xs + (i - (a + length xs)) ≡ i = omega arith in
    sym (ap (λ (k : ℕ). get_or (take a s ++ xs ++ drop (a + length xs) s) k 0) e)
    ∙ get_or-append-add (take a s ++ xs) (drop (a + length xs) s) (i - (a + length xs)) 0
    ∙ get_or-drop (a + length xs) s (i - (a + length xs)) 0 ∙ ap (λ (k : ℕ). get_or s k 0) f

-- it may end past the end
pub length-patch-past : (s : List ℕ) (a : ℕ) (xs : List ℕ) → a ≤ length s → length (patch s a xs) ≡ max (length s) (a + length xs)
unfolding patch
length-patch-past s a xs l =
    length-append (take a s ++ xs) (drop (a + length xs) s) ∙ ap (λ (k : ℕ). k + length (drop (a + length xs) s)) (length-append (take a s) xs)
    ∙ (rw (length-take a s, length-drop (a + length xs) s) (omega arith))
