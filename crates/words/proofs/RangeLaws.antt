-- Laws of a range of bytes as a patch: what the loops that copy, fill, test and move have done so far, and after one byte more.
-- Assumes nothing.
use mathlib.Core.Path.{◌≡◌, refl, sym, ap, ◌∙◌}
use mathlib.Core.Bool.{Bool, true, false, ◌&&◌}
use mathlib.Core.List.{List, [], ◌∷◌, ◌++◌}
use Prim.Native.Nat.{ℕ, zero, suc, ◌+◌, ◌-◌, ◌≤◌, ◌<◌}
use native.Mathlib.Nat.{add-suc, suc-add, sub_self}
use native.Mathlib.Numerals.{add-one}
use native.Mathlib.Omega.{arith}
use borrow.Author.Tests.{ne_eqb}
use lib.Bits.{bit_or, or_zero_l, or_add_and, and_le_r}
use lib.Dec.{eqb, eqb-suc-zero}
use Rattle.std.specs.List.{fold}
use lib.ListN.{length, take, drop, get_or, set, length-append}
use lib.Seq.{sets-eq, length-take-le, set-append_left, take-suc, take-set-lt, take-suc-set, append_snoc}
use Rattle.rules.specs.Lists.{all}
use Rattle.rules.specs.Bytes.{part, patch, all_zero}
use Rattle.rules.proofs.ByteLaws.{get_or-patch-before, get_or-patch-behind, length_part, length-patch, part-add, part_none, part-suc, patch-none, patch-patch}

-- ---- a patch

-- one store
pub set-patch : (s : List ℕ) (at x : ℕ) → at < length s → set s at x ≡ patch s at (x ∷ [])
unfolding patch
set-patch s at x h = sets-eq (x ∷ []) s at (omega arith)

-- one store behind a patch
pub patch-snoc : (s : List ℕ) (at j x : ℕ) (xs : List ℕ) → j ≡ at + length xs → j < length s → set (patch s at xs) j x ≡ patch s at (xs ++ (x ∷ []))
patch-snoc s at j x xs e h =
    set-patch (patch s at xs) j x (rw (length-patch s at xs (omega arith)) h) ∙ patch-patch s at j xs (x ∷ []) e (omega arith)

-- one store before a patch
pub patch-cons : (s : List ℕ) (at j x : ℕ) (xs : List ℕ) → j ≡ suc at → j + length xs ≤ length s → set (patch s j xs) at x ≡ patch s at (x ∷ xs)
unfolding patch
patch-cons s at j x xs e h =
    let l : at < length (take (suc at) s) = rw (length-take-le (suc at) s (omega arith)) (omega arith) in
    let m : at < length (take (suc at) s ++ xs) = rw length-append (omega arith) in
    let one : set (take (suc at) s) at x ≡ take at s ++ (x ∷ []) = sym (take-set-lt (suc at) s at x (omega arith)) ∙ take-suc-set s at x (omega arith) in
    rw e
    (set-append_left (take (suc at) s ++ xs) (drop (suc at + length xs) s) at x m
    ∙ rw (set-append_left (take (suc at) s) xs at x l, one, append_snoc (take at s) x xs, suc-add at (length xs), ← add-suc at (length xs)) refl)

-- a part with the byte behind it
pub part-snoc : (s : List ℕ) (at n : ℕ) → at + n < length s → part at (n + 1) s ≡ part at n s ++ (get_or s (at + n) 0 ∷ [])
part-snoc s at n h =
    part-add s at n 1 ∙ ap (λ (t : List ℕ). part at n s ++ t) (part-suc s (at + n) 0 (omega arith) ∙ ap (λ (t : List ℕ). get_or s (at + n) 0 ∷ t) (part_none s (suc (at + n))))

-- ---- the loops

-- moved up, from the right end: j falls from e
pub up_none : (s : List ℕ) (e k : ℕ) → s ≡ patch s (e + k) (part e (e - e) s)
up_none s e k = sym (rw (sub_self e, part_none s e) (patch-none s (e + k)))

pub up_more : (s₀ s : List ℕ) (j k e : ℕ) → s ≡ patch s₀ (j + k) (part j (e - j) s₀) → 0 < j → j ≤ e → e + k ≤ length s₀
    → set s (j - 1 + k) (get_or s (j - 1) 0) ≡ patch s₀ (j - 1 + k) (part (j - 1) (e - (j - 1)) s₀)
up_more s₀ s j k e q p l h =
    let n : length (part j (e - j) s₀) ≡ e - j = length_part s₀ j (e - j) (omega arith) in
    let one : part (j - 1) (suc (e - j)) s₀ ≡ get_or s₀ (j - 1) 0 ∷ part j (e - j) s₀ =
    part-suc s₀ (j - 1) (e - j) (omega arith) ∙ ap (λ (m : ℕ). get_or s₀ (j - 1) 0 ∷ part m (e - j) s₀) (omega arith) in
    let w : e - (j - 1) ≡ suc (e - j) = omega arith in
    rw (q, get_or-patch-before s₀ (j + k) (j - 1) (part j (e - j) s₀) (omega arith) (omega arith), w, one)
    (patch-cons s₀ (j - 1 + k) (j + k) (get_or s₀ (j - 1) 0) (part j (e - j) s₀) (omega arith) (omega arith))

-- moved down, from the left end: i rises from a
pub down-none : (s : List ℕ) (a k : ℕ) → s ≡ patch s (a - k) (part a (a - a) s)
down-none s a k = sym (rw (sub_self a, part_none s a) (patch-none s (a - k)))

pub down-more : (s₀ s : List ℕ) (a i k : ℕ) → s ≡ patch s₀ (a - k) (part a (i - a) s₀) → k ≤ a → a ≤ i → i < length s₀
    → set s (i - k) (get_or s i 0) ≡ patch s₀ (a - k) (part a (i + 1 - a) s₀)
down-more s₀ s a i k q p l h =
    let n : length (part a (i - a) s₀) ≡ i - a = length_part s₀ a (i - a) (omega arith) in
    let w : i + 1 - a ≡ i - a + 1 = omega arith in
    let x : a + (i - a) ≡ i = omega arith in
    rw (q, get_or-patch-behind s₀ (a - k) i (part a (i - a) s₀) (omega arith) (omega arith), w, part-snoc s₀ a (i - a) (omega arith), x)
    (patch-snoc s₀ (a - k) (i - k) (get_or s₀ i 0) (part a (i - a) s₀) (omega arith) (omega arith))

-- ---- zeros

and-true : (b : Bool) → b && true ≡ b
and-true true = refl
and-true false = refl

-- the bits of two numbers are all clear if those of both are
pub or-zero : (a b : ℕ) → eqb (bit_or a b) 0 ≡ eqb a 0 && eqb b 0
or-zero zero b = rw (or_zero_l b) refl
or-zero (suc a) b = rw (eqb-suc-zero a) (ne_eqb (bit_or (suc a) b) 0 (λ e. omega (arith, or_add_and (suc a) b, and_le_r (suc a) b)))

-- the bytes put together are zero if each of them is
pub or-all : (a : ℕ) (xs : List ℕ) → eqb (fold bit_or a xs) 0 ≡ eqb a 0 && all_zero xs
unfolding all_zero all
or-all a [] = sym (and-true (eqb a 0))
or-all a (x ∷ xs) = or-all (bit_or a x) xs ∙ rw (or-zero a x) (and-assoc (eqb a 0) (eqb x 0) (all (λ b. eqb b 0) xs))
  where
    and-assoc : (p q r : Bool) → (p && q) && r ≡ p && (q && r)
    and-assoc true q r = refl
    and-assoc false q r = refl

-- ---- a copy of another slice

-- nothing of it yet
pub copied-none : (s x : List ℕ) (at : ℕ) → s ≡ patch s at (take 0 x)
copied-none s x at = sym (patch-none s at)

-- one byte more
pub copied-more : (s₀ s x : List ℕ) (at i : ℕ) → s ≡ patch s₀ at (take i x) → at + length x ≤ length s₀ → i < length x
    → set s (at + i) (get_or x i 0) ≡ patch s₀ at (take (i + 1) x)
copied-more s₀ s x at i e h l =
    let n : length (take i x) ≡ i = length-take-le i x (omega arith) in
    let t : take (i + 1) x ≡ take i x ++ (get_or x i 0 ∷ []) = rw add-one (take-suc x i 0 l) in
    rw (e, t) (patch-snoc s₀ at (at + i) (get_or x i 0) (take i x) (omega arith) (omega arith))

-- a copy of a part of another slice
pub copied-part : (s x u : List ℕ) (at from n : ℕ) → u ≡ patch s at (take (from + n - from) (drop from x)) → u ≡ patch s at (part from n x)
unfolding part
copied-part s x u at from n e =
    let w : from + n - from ≡ n = omega arith in
    rw w at e
