-- Laws of a map of bits: ranges of it made alike one behind the other, the next bit of a kind, how many are set, and the loops that go over it in words
-- and bits.
-- Assumes nothing.
use mathlib.Core.Path.{◌≡◌, refl, sym, ap, ap₂, ◌∙◌}
use mathlib.Core.Bool.{Bool, true, false, not, and-false}
use mathlib.Core.List.{List, [], ◌∷◌}
use Rattle.std.proofs.Common.{append_assoc, add-one}
use Rattle.std.proofs.lemmas.List.{drop-drop, length-replicate, get_or-replicate}
use Rattle.std.specs.Prelude.{Option, Some, None, MatchOption}
use Rattle.std.specs.Option.{is_some}
use Rattle.std.specs.List.{range_with_len}
use Rattle.std.specs.List as std
use borrow.Rule.Slice.PartMut.{put_mid}
use Prim.Native.Nat.{ℕ, zero, suc, ◌+◌, ◌-◌, ◌*◌, ◌/◌, ◌%◌, ◌^◌, ◌≤◌, ◌<◌}
use native.Mathlib.Nat.{add-zero, zero-add, add-suc, suc-add, pow-suc}
use native.Mathlib.Decide.{dec_lt, ℕ_discrete}
use native.Mathlib.Numerals.{one-add}
use native.Mathlib.Omega.{arith}
use borrow.Author.Tests.{eq-eqb, ne_eqb, le-leb, lt-leb, lt-ltb, le-ltb}
use lib.Arith.{lt-one}
use lib.Count.{ones, ones_step}
use lib.Dec.{eqb, leb}
use lib.ListN.{length, get_or, set, take, drop, replicate, length-set}
use lib.Seq.{get_or-set_same, get_or-set_other}
use Rattle.rules.specs.Lists.{pick◌then◌else◌, all, filter, count, range}
use Rattle.rules.specs.Bytes.{le, part, patch, Bytes, bit_set}
use Rattle.rules.proofs.ListLaws.{test-cases, clash, if-cases, range-add, length-range, all-range-at, all-range-of, count-append, count_yes, count_no, count-le}
use Rattle.rules.proofs.ByteLaws.{bytes-part, get_d_part, length-patch, get_or-patch, get_or-patch-before, get_or-patch-behind, length_part}
use Rattle.rules.proofs.BitLaws.{byte_of-lt, length-bit_bytes, bytes-bit_bytes, bit_set-bit_bytes, bits-ext}
use Rattle.bitmap.specs.Map.{bit_of, within, with_bit, with_bits, First, Next, NextBefore}
use Rattle.bitmap.proofs.BitLaws.{bit-low, bit-half, bit-byte_of, bit_le, byte-alike, low-one, first-none, first_some, not-swap}

-- a bit of a map is one of its byte
pub bit_set-is : (m : List ℕ) (n : ℕ) → bit_set m n ≡ bit_of (get_or m (n / 8) 0) (n % 8)
unfolding bit_set bit_of
bit_set-is m n = refl

-- ---- a range of bits made alike

-- a place inside
within-yes : (a e k : ℕ) → a ≤ k → k < e → within a e k ≡ true
unfolding within
within-yes a e k p q = rw (le-leb a k p, lt-ltb k e q) refl

-- a place before
within-before : (a e k : ℕ) → k < a → within a e k ≡ false
unfolding within
within-before a e k p = rw (lt-leb a k p) refl

-- a place behind
within-after : (a e k : ℕ) → e ≤ k → within a e k ≡ false
unfolding within
within-after a e k p = rw (le-ltb k e p) (and-false (leb a k))

-- the map keeps its length
pub length-with_bits : (b : Bool) (m : List ℕ) (a e : ℕ) → length (with_bits b m a e) ≡ length m
unfolding with_bits
length-with_bits b m a e = length-bit_bytes (length m) (λ k. pick within a e k then b else bit_set m k) 0

-- it is of bytes
pub bytes-with_bits : (b : Bool) (m : List ℕ) (a e : ℕ) → Bytes (with_bits b m a e)
unfolding with_bits
bytes-with_bits b m a e = bytes-bit_bytes (length m) (λ k. pick within a e k then b else bit_set m k) 0

-- what each bit is afterwards
pub bit_set-with_bits : (b : Bool) (m : List ℕ) (a e k : ℕ) → k < 8 * length m → bit_set (with_bits b m a e) k ≡ (pick within a e k then b else bit_set m k)
unfolding with_bits
bit_set-with_bits b m a e k h = bit_set-bit_bytes (length m) (λ k. pick within a e k then b else bit_set m k) 0 k h ∙ ap (λ (i : ℕ). pick within a e i then b else bit_set m i) (zero-add k)

-- inside it is as asked
pub bit_set-inside : (b : Bool) (m : List ℕ) (a e k : ℕ) → k < 8 * length m → a ≤ k → k < e → bit_set (with_bits b m a e) k ≡ b
unfolding pick◌then◌else◌
bit_set-inside b m a e k h p q = bit_set-with_bits b m a e k h ∙ rw (within-yes a e k p q) refl

-- before it is as it was
pub bit_set-before : (b : Bool) (m : List ℕ) (a e k : ℕ) → k < 8 * length m → k < a → bit_set (with_bits b m a e) k ≡ bit_set m k
unfolding pick◌then◌else◌
bit_set-before b m a e k h p = bit_set-with_bits b m a e k h ∙ rw (within-before a e k p) refl

-- and behind too
pub bit_set-after : (b : Bool) (m : List ℕ) (a e k : ℕ) → k < 8 * length m → e ≤ k → bit_set (with_bits b m a e) k ≡ bit_set m k
unfolding pick◌then◌else◌
bit_set-after b m a e k h p = bit_set-with_bits b m a e k h ∙ rw (within-after a e k p) refl

-- a map whose bits are so is that map
pub is-with_bits : (b : Bool) (m l : List ℕ) (a e : ℕ) → length l ≡ length m → Bytes l
    → ((k : ℕ) → k < 8 * length m → a ≤ k → k < e → bit_set l k ≡ b)
    → ((k : ℕ) → k < 8 * length m → k < a → bit_set l k ≡ bit_set m k)
    → ((k : ℕ) → k < 8 * length m → e ≤ k → bit_set l k ≡ bit_set m k)
    → l ≡ with_bits b m a e
is-with_bits b m l a e n c i p q =
    bits-ext l (with_bits b m a e) c (bytes-with_bits b m a e) (n ∙ sym (length-with_bits b m a e)) (λ k h. go k (rw n at h) (dec_lt k a) (dec_lt k e))
  where
    go : (k : ℕ) → k < 8 * length m → Dec (k < a) → Dec (k < e) → bit_set l k ≡ bit_set (with_bits b m a e) k
    go k h (yes x) d = p k h x ∙ sym (bit_set-before b m a e k h x)
    go k h (no x) (yes y) = i k h (omega arith) y ∙ sym (bit_set-inside b m a e k h (omega arith) y)
    go k h (no x) (no y) = q k h (omega arith) ∙ sym (bit_set-after b m a e k h (omega arith))

-- no bit
pub with_none : (b : Bool) (m : List ℕ) (a : ℕ) → Bytes m → m ≡ with_bits b m a a
with_none b m a c = is-with_bits b m m a a refl c (λ k h p q. absurd (omega arith)) (λ k h p. refl) (λ k h p. refl)

-- equal maps have equal bits
of : {x y : List ℕ} (k : ℕ) → x ≡ y → bit_set x k ≡ bit_set y k
of k e = ap (λ (m : List ℕ). bit_set m k) e

-- two ranges one behind the other are one
pub with-with : (b : Bool) (m l t : List ℕ) (a n e : ℕ) → l ≡ with_bits b m a n → t ≡ with_bits b l n e → a ≤ n → n ≤ e → t ≡ with_bits b m a e
with-with b m l t a n e p q x y =
    let s : length l ≡ length m = ap length p ∙ length-with_bits b m a n in
    let z : length t ≡ length m = ap length q ∙ length-with_bits b l n e ∙ s in
    is-with_bits b m t a e z (rw q (bytes-with_bits b l n e))
    (λ k h u v. inside k (rw s h) h u v (dec_lt k n))
    (λ k h u. of k q ∙ bit_set-before b l n e k (rw s h) (omega arith) ∙ of k p ∙ bit_set-before b m a n k h u)
    (λ k h u. of k q ∙ bit_set-after b l n e k (rw s h) u ∙ of k p ∙ bit_set-after b m a n k h (omega arith))
  where
    inside : (k : ℕ) → k < 8 * length l → k < 8 * length m → a ≤ k → k < e → Dec (k < n) → bit_set t k ≡ b
    inside k h g u v (yes w) = of k q ∙ bit_set-before b l n e k h w ∙ of k p ∙ bit_set-inside b m a n k g u w
    inside k h g u v (no w) = of k q ∙ bit_set-inside b l n e k h (omega arith) v

-- ---- one bit

-- a byte stored among bytes
pub bytes-set : (m : List ℕ) (i r : ℕ) → i < length m → Bytes m → r < 256 → Bytes (set m i r)
bytes-set m i r h b l j = go (ℕ_discrete j i)
  where
    go : Dec (j ≡ i) → get_or (set m i r) j 0 < 256
    go (yes e) = rw (e, get_or-set_same m i r 0 h) l
    go (no d) = rw (get_or-set_other m i j r 0 d) (b j)

-- a bit of the byte that was stored
pub bit_set-set-same : (m : List ℕ) (i r k : ℕ) → i < length m → k / 8 ≡ i → bit_set (set m i r) k ≡ bit_of r (k % 8)
bit_set-set-same m i r k h e = bit_set-is (set m i r) k ∙ rw (e, get_or-set_same m i r 0 h) refl

-- a bit of any other byte
pub bit_set-set-other : (m : List ℕ) (i r k : ℕ) → (k / 8 ≡ i → ⊥) → bit_set (set m i r) k ≡ bit_set m k
bit_set-set-other m i r k d = bit_set-is (set m i r) k ∙ rw (get_or-set_other m i (k / 8) r 0 d) (sym (bit_set-is m k))

-- the bits of a byte with one as asked
bit-with_bit : (x k j : ℕ) (b : Bool) → j < 8 → bit_of (with_bit x k b) j ≡ (pick eqb j k then b else bit_of x j)
unfolding with_bit
bit-with_bit x k j b h = bit-byte_of 8 (λ j. pick eqb j k then b else bit_of x j) 0 j h ∙ ap (λ (i : ℕ). pick eqb i k then b else bit_of x i) (zero-add j)

-- the one that was asked for
bit-asked : (x k : ℕ) (b : Bool) → k < 8 → bit_of (with_bit x k b) k ≡ b
unfolding pick◌then◌else◌
bit-asked x k b h = bit-with_bit x k k b h ∙ rw (eq-eqb k k refl) refl

-- and the others
bit_kept : (x k j : ℕ) (b : Bool) → j < 8 → (j ≡ k → ⊥) → bit_of (with_bit x k b) j ≡ bit_of x j
unfolding pick◌then◌else◌
bit_kept x k j b h d = bit-with_bit x k j b h ∙ rw (ne_eqb j k d) refl

-- it is a byte
with_bit-lt : (x k : ℕ) (b : Bool) → with_bit x k b < 256
unfolding with_bit
with_bit-lt x k b = byte_of-lt 8 (λ j. pick eqb j k then b else bit_of x j) 0

-- the store of one bit
pub put_one : (b : Bool) (m : List ℕ) (n r : ℕ) → r ≡ with_bit (get_or m (n / 8) 0) (n % 8) b → n < 8 * length m → Bytes m → set m (n / 8) r ≡ with_bits b m n (n + 1)
put_one b m n r e h c =
    let l : n / 8 < length m = omega arith in
    is-with_bits b m (set m (n / 8) r) n (n + 1) (length-set m (n / 8) r) (bytes-set m (n / 8) r l c (rw e (with_bit-lt (get_or m (n / 8) 0) (n % 8) b)))
    (λ k g p q. this k (omega arith))
    (λ k g p. other k (λ z. omega arith) (ℕ_discrete (k / 8) (n / 8)))
    (λ k g p. other k (λ z. omega arith) (ℕ_discrete (k / 8) (n / 8)))
  where
    this : (k : ℕ) → k ≡ n → bit_set (set m (n / 8) r) k ≡ b
    this k z =
        ap (bit_set (set m (n / 8) r)) z
        ∙ bit_set-set-same m (n / 8) r n (omega arith) refl
        ∙ ap (λ (x : ℕ). bit_of x (n % 8)) e
        ∙ bit-asked (get_or m (n / 8) 0) (n % 8) b (omega arith)

    other : (k : ℕ) → (k ≡ n → ⊥) → Dec (k / 8 ≡ n / 8) → bit_set (set m (n / 8) r) k ≡ bit_set m k
    other k d (no z) = bit_set-set-other m (n / 8) r k z
    other k d (yes z) =
        bit_set-set-same m (n / 8) r k (omega arith) z
        ∙ ap (λ (x : ℕ). bit_of x (k % 8)) e
        ∙ bit_kept (get_or m (n / 8) 0) (n % 8) (k % 8) b (omega arith) (λ y. d (omega arith))
        ∙ ap (λ (i : ℕ). bit_of (get_or m i 0) (k % 8)) (sym z)
        ∙ sym (bit_set-is m k)

-- ---- a word of bits

-- the bits of a word that was read
pub word-bit : (m : List ℕ) (n w j : ℕ) → w ≡ le (part (n / 8) 8 m) → n % 8 ≡ 0 → Bytes m → j < 64 → bit_of w j ≡ bit_set m (n + j)
word-bit m n w j e z c h =
    let k : j ≡ 8 * (j / 8) + j % 8 = omega arith in
    let q : (n + j) / 8 ≡ n / 8 + j / 8 = omega arith in
    let r : (n + j) % 8 ≡ j % 8 = omega arith in
    ap₂ bit_of e k
    ∙ bit_le (part (n / 8) 8 m) (bytes-part m (n / 8) 8 c) (j / 8) (j % 8) (omega arith)
    ∙ ap (λ (x : ℕ). bit_of x (j % 8)) (get_d_part m (n / 8) 8 (j / 8) (omega arith))
    ∙ sym (bit_set-is m (n + j) ∙ rw (q, r) refl)

-- a part put back is a patch
put_mid-patch : (m xs : List ℕ) (a k : ℕ) → length xs ≡ k → put_mid a k m xs ≡ patch m a xs
unfolding patch
put_mid-patch m xs a k h = rw (drop-drop k a m, ← append_assoc (take a m) xs (drop (a + k) m), ← h) refl

-- a byte whose bits are alike, in each place of a part
fill-bytes : (b : Bool) (m l : List ℕ) (i k v : ℕ) → l ≡ patch m i (replicate k v) → ((j : ℕ) → j < 8 → bit_of v j ≡ b) → i + k ≤ length m → Bytes l → l ≡ with_bits b m (8 * i) (8 * (i + k))
fill-bytes b m l i k v q u h c =
    let d : length (replicate k v) ≡ k = length-replicate k v in
    let s : length l ≡ length m = ap length q ∙ length-patch m i (replicate k v) (omega arith) in
    is-with_bits b m l (8 * i) (8 * (i + k)) s c
    (λ n g y w. inside n d y w)
    (λ n g y. other n (rw q (get_or-patch-before m i (n / 8) (replicate k v) (omega arith) (omega arith))))
    (λ n g y. other n (rw q (get_or-patch-behind m i (n / 8) (replicate k v) (omega arith) (omega arith))))
  where
    inside : (n : ℕ) → length (replicate k v) ≡ k → 8 * i ≤ n → n < 8 * (i + k) → bit_set l n ≡ b
    inside n d y w =
        let r : i + (n / 8 - i) ≡ n / 8 = omega arith in
        let g : get_or l (n / 8) 0 ≡ v = rw (q, ← r, get_or-patch m i (n / 8 - i) (replicate k v) (omega arith) (omega arith)) (get_or-replicate k (n / 8 - i) v 0 (omega arith)) in
        bit_set-is l n ∙ rw g (u (n % 8) (omega arith))

    other : (n : ℕ) → get_or l (n / 8) 0 ≡ get_or m (n / 8) 0 → bit_set l n ≡ bit_set m n
    other n g = bit_set-is l n ∙ ap (λ (y : ℕ). bit_of y (n % 8)) g ∙ sym (bit_set-is m n)

-- ---- what fills a range

-- after one bit more
pub fill-bit : (b : Bool) (m₀ m l : List ℕ) (a n : ℕ) → m ≡ with_bits b m₀ a n → l ≡ with_bits b m n (n + 1) → a ≤ n → l ≡ with_bits b m₀ a (n + 1)
fill-bit b m₀ m l a n p q x = with-with b m₀ m l a n (n + 1) p q x (omega arith)

-- whole bytes
pub fill-part : (b : Bool) (m xs : List ℕ) (a e v : ℕ) → xs ≡ replicate (length (take (e / 8 - a / 8) (drop (a / 8) m))) v → v ≡ (pick b then 255 else 0) → a % 8 ≡ 0 → e % 8 ≡ 0 → a ≤ e → e ≤ 8 * length m
    → Bytes (put_mid (a / 8) (e / 8 - a / 8) m xs) → put_mid (a / 8) (e / 8 - a / 8) m xs ≡ with_bits b m a e
unfolding part
fill-part b m xs a e v q u x y z w c =
    let k : ℕ = e / 8 - a / 8 in
    let n : length (take k (drop (a / 8) m)) ≡ k = length_part m (a / 8) k (omega arith) in
    let r : xs ≡ replicate k v = rw n at q in
    let l : put_mid (a / 8) k m xs ≡ patch m (a / 8) (replicate k v) = rw r (put_mid-patch m (replicate k v) (a / 8) k (length-replicate k v)) in
    let s : 8 * (a / 8) ≡ a = omega arith in
    let t : 8 * (a / 8 + k) ≡ e = omega arith in
    rw (s, t) at (fill-bytes b m (put_mid (a / 8) k m xs) (a / 8) k v l (λ j h. ap (λ (n : ℕ). bit_of n j) u ∙ byte-alike b j h) (omega arith) c)

-- three parts one behind the other
pub fill-three : (b : Bool) (m u v l : List ℕ) (a s t e : ℕ) → u ≡ with_bits b m a s → v ≡ with_bits b u s t → l ≡ with_bits b v t e → a ≤ s → s ≤ t → t ≤ e → l ≡ with_bits b m a e
fill-three b m u v l a s t e p q r x y z = with-with b m v l a t e (with-with b m u v a s t p q x y) r (omega arith) z

-- ---- the next bit of a kind

-- found before the end of a part, it is found in the whole
pub next-stop : (m : List ℕ) (b : Bool) (a s e r : ℕ) → Next m b a s r → r < s → s ≤ e → Next m b a e r
next-stop m b a s e r f h l = record { least = f.least; most = omega arith; before = f.before; found = λ u. f.found h }

-- not found in a part, it is the one found behind it
pub next-on : (m : List ℕ) (b : Bool) (a s e r t : ℕ) → Next m b a s r → s ≤ r → Next m b s e t → Next m b a e t
next-on m b a s e r t f h g =
    record { least = omega (arith, f.least, f.most, g.least); most = g.most; before = λ k p q. go k p q (dec_lt k r); found = g.found }
  where
    go : (k : ℕ) → a ≤ k → k < t → Dec (k < r) → bit_set m k ≡ not b
    go k p q (yes l) = f.before k p l
    go k p q (no l) = g.before k (omega arith) q

-- found by a look at each bit
pub next_found : (m : List ℕ) (b : Bool) (a e : ℕ) (r : Option ℕ) → a ≤ e
    → MatchOption r ((k : ℕ) → a ≤ k → k < e → bit_set m k ≡ not b) (λ n. (a ≤ n) × (n < e) × (bit_set m n ≡ b) × ((k : ℕ) → a ≤ k → k < n → bit_set m k ≡ not b))
    → NextBefore m b a e r
next_found m b a e None l h = record { least = l; most = omega arith; before = h; found = λ u. absurd (omega arith) }
next_found m b a e (Some n) l h = (h.1, record { least = h.0; most = omega arith; before = h.3; found = λ u. h.2 })

-- the first of a part, and where that has none the first behind it
pub next_else : (m : List ℕ) (b : Bool) (a s e : ℕ) (x r : Option ℕ) (P : Type 0) → NextBefore m b a s x → s ≤ e → MatchOption x P (λ n. r ≡ Some n) → (P → NextBefore m b s e r) → NextBefore m b a e r
next_else m b a s e (Some n) r P h l g f = rw g (omega arith, next-stop m b a s e n h.1 h.0 l)
next_else m b a s e None None P h l g f = next-on m b a s e s e h (omega arith) (f g)
next_else m b a s e None (Some n) P h l g f = ((f g).0, next-on m b a s e s n h (omega arith) (f g).1)

-- the first bit of a word is the next bit of the map
pub word_next : (m : List ℕ) (b : Bool) (n w t : ℕ) → w ≡ le (part (n / 8) 8 m) → n % 8 ≡ 0 → Bytes m → First w b t → Next m b n (n + 64) (n + t)
word_next m b n w t e z c f =
    let l : t ≤ 64 = f.most in
    record {
      least = omega arith;
      most = omega arith;
      before = λ k p q. behind k p (omega arith) (f.before (k - n) (omega arith));
      found = λ u. let h : t < 64 = omega arith in sym (word-bit m n w t e z c h) ∙ f.found h;
    }
  where
    behind : (k : ℕ) → n ≤ k → k - n < 64 → bit_of w (k - n) ≡ not b → bit_set m k ≡ not b
    behind k p q g =
        let y : n + (k - n) ≡ k = omega arith in
        ap (bit_set m) (sym y) ∙ sym (word-bit m n w (k - n) e z c q) ∙ g

-- the word at bit n has the bit: it is not the word v, which has none
pub word-found : (m : List ℕ) (b : Bool) (a e n w v t : ℕ) → Next m b a n n → w ≡ le (part (n / 8) 8 m) → w < 2 ^ 64 → v ≡ (pick not b then 0xffffffffffffffff else 0) → (w ≡ v → ⊥) → First w b t → Bytes m → n % 8 ≡ 0 → n + 64 ≤ e
    → (n + t < e) × Next m b a e (n + t)
word-found m b a e n w v t f q h p d g c z l =
    let u : t < 64 = first_some w b v t p d h g in
    (omega arith, next-on m b a n e n (n + t) f (omega arith) (next-stop m b n (n + 64) e (n + t) (word_next m b n w t q z c g) (omega arith) l))

-- or it is that word
pub word-passed : (m : List ℕ) (b : Bool) (a n w v : ℕ) → Next m b a n n → w ≡ le (part (n / 8) 8 m) → v ≡ (pick not b then 0xffffffffffffffff else 0) → w ≡ v → Bytes m → n % 8 ≡ 0 → Next m b a (n + 64) (n + 64)
word-passed m b a n w v f q p d c z = next-on m b a n (n + 64) n (n + 64) f (omega arith) (word_next m b n w 64 q z c (first-none w b (d ∙ p)))

-- the bit of a word, or none
pub word-one : (m : List ℕ) (b : Bool) (n w t : ℕ) → w ≡ le (part (n / 8) 8 m) → n % 8 ≡ 0 → Bytes m → First w b t → 64 ≤ t → Next m b n (n + 64) (n + 64)
word-one m b n w t e z c f h =
    let s : t ≡ 64 = omega (arith, f.most) in
    rw s at (word_next m b n w t e z c f)

-- ---- a test of each bit of a range

-- there is no next bit of the other kind if the test passes at every bit
next-all : (m : List ℕ) (b : Bool) (f : ℕ → Bool) (a e : ℕ) (r : Option ℕ) (t : Bool) → NextBefore m b a e r → is_some r ≡ not t → ((k : ℕ) → bit_set m k ≡ not b → f k ≡ true) → ((k : ℕ) → bit_set m k ≡ b → f k ≡ false) → a ≤ e
    → t ≡ all f (range a (e - a))
next-all m b f a e None t x h p q l =
    not-swap t false (sym h) ∙ sym (all-range-of f a (e - a) (λ i g. p (a + i) (x.before (a + i) (omega arith) (omega arith))))
next-all m b f a e (Some n) t x h p q l =
    let v : n < e = x.0 in
    let o : a ≤ n = x.1.least in
    let y : a + (n - a) ≡ n = omega arith in
    not-swap t true (sym h)
    ∙ sym (test-cases (all f (range a (e - a)) ≡ false) (all f (range a (e - a)))
    (λ z. absurd (clash (q n (x.1.found v)) (ap f (sym y) ∙ all-range-at f a (e - a) z (n - a) (omega arith)))) (λ z. z))

-- every bit is set if there is no clear one
pub next-all-set : (m : List ℕ) (a e : ℕ) (r : Option ℕ) (t : Bool) → NextBefore m false a e r → is_some r ≡ not t → a ≤ e → t ≡ all (bit_set m) (range a (e - a))
next-all-set m a e r t x h l = next-all m false (bit_set m) a e r t x h (λ k p. p) (λ k p. p) l

-- every bit is clear if there is no set one
pub next-all-clear : (m : List ℕ) (a e : ℕ) (r : Option ℕ) (t : Bool) → NextBefore m true a e r → is_some r ≡ not t → a ≤ e → t ≡ all (λ k. not (bit_set m k)) (range a (e - a))
next-all-clear m a e r t x h l = next-all m true (λ k. not (bit_set m k)) a e r t x h (λ k p. ap not p) (λ k p. ap not p) l

-- ---- how many

-- two ranges one behind the other
count_add : (f : ℕ → Bool) (a n k : ℕ) → count f (range a (n + k)) ≡ count f (range a n) + count f (range (a + n) k)
count_add f a n k = ap (count f) (range-add a n k) ∙ count-append f (range a n) (range (a + n) k)

-- the first bit, and those behind it
count-front : (f : ℕ → Bool) (a n : ℕ) → count f (range a (suc n)) ≡ (pick f a then 1 else 0) + count f (range (suc a) n)
unfolding range
count-front f a n =
    if-cases (λ (x : ℕ). count f (a ∷ range (suc a) n) ≡ x + count f (range (suc a) n)) (f a) 1 0
    (λ e. count_yes f a (range (suc a) n) e ∙ sym (one-add (count f (range (suc a) n))))
    (λ e. count_no f a (range (suc a) n) e ∙ sym (zero-add (count f (range (suc a) n))))

-- the bits of a word, one by one, are as many as its ones
count_ones : (f : ℕ → Bool) (s k w : ℕ) → w < 2 ^ k → ((j : ℕ) → j < k → f (s + j) ≡ bit_of w j) → count f (range s k) ≡ ones w
unfolding count filter range ones
count_ones f s zero w h e = rw (lt-one h) refl
count_ones f s (suc k) w h e =
    let p : 2 ^ suc k ≡ 2 ^ k * 2 = pow-suc 2 k in
    let z : f s ≡ eqb (w % 2) 1 = ap f (sym (add-zero s)) ∙ e 0 (omega arith) ∙ bit-low w in
    count-front f s k
    ∙ ap₂ (λ (x y : ℕ). x + y)
    (rw z (low-one (w % 2) (omega arith)))
    (count_ones f (suc s) k (w / 2) (omega arith) (λ j l. ap f (suc-add s j ∙ sym (add-suc s j)) ∙ e (suc j) (omega arith) ∙ bit-half w j))
    ∙ sym (ones_step w)

-- no word yet
pub count_none : (f : ℕ → Bool) (a : ℕ) → 0 ≡ count f (range a (64 * 0))
unfolding count filter range
count_none f a = refl

-- the library's ranges and filters are those of the rules
range_same : (a n : ℕ) → range_with_len a n ≡ range a n
unfolding range
range_same a zero = refl
range_same a (suc n) = ap (λ (xs : List ℕ). a ∷ xs) (rw add-one (range_same (suc a) n))

filter_same : (f : ℕ → Bool) (xs : List ℕ) → std.filter f xs ≡ filter f xs
unfolding filter
filter_same f [] = refl
filter_same f (x ∷ xs) = if-cases (λ (ys : List ℕ). std.filter f (x ∷ xs) ≡ ys) (f x) (x ∷ filter f xs) (filter f xs) (λ e. rw e (ap (λ (ys : List ℕ). x ∷ ys) (filter_same f xs))) (λ e. rw e (filter_same f xs))

-- bit by bit
pub count_bits : (f : ℕ → Bool) (a e r : ℕ) → r ≡ length (std.filter f (range_with_len a (e - a))) → r ≡ count f (range a (e - a))
unfolding count
count_bits f a e r h = h ∙ ap length (filter_same f (range_with_len a (e - a)) ∙ ap (filter f) (range_same a (e - a)))

-- after one word more
pub count_word : (m : List ℕ) (a i t w : ℕ) → t ≡ count (bit_set m) (range a (8 * i - a)) → w ≡ le (part i 8 m) → w < 2 ^ 64 → a ≤ 8 * i → Bytes m
    → t + ones w ≡ count (bit_set m) (range a (8 * (i + 8) - a))
count_word m a i t w e q h l c =
    let d : 8 * (i + 8) - a ≡ 8 * i - a + 64 = omega arith in
    let y : a + (8 * i - a) ≡ 8 * i = omega arith in
    let z : i ≡ 8 * i / 8 = omega arith in
    let p : w ≡ le (part (8 * i / 8) 8 m) = rw (← z) q in
    rw (d, count_add (bit_set m) a (8 * i - a) 64, y, e, count_ones (bit_set m) (8 * i) 64 w h (λ j g. sym (word-bit m (8 * i) w j p (omega arith) c g))) refl

-- the same of so many whole words from a on
pub count_words : (m : List ℕ) (a k t w : ℕ) → t ≡ count (bit_set m) (range a (64 * k)) → w ≡ le (part (a / 8 + 8 * k) 8 m) → w < 2 ^ 64 → a % 8 ≡ 0 → Bytes m
    → t + ones w ≡ count (bit_set m) (range a (64 * (k + 1)))
count_words m a k t w e q h z c =
    let x : 64 * k ≡ 8 * (a / 8 + 8 * k) - a = omega arith in
    let y : 8 * (a / 8 + 8 * k + 8) - a ≡ 64 * (k + 1) = omega arith in
    rw y at (count_word m a (a / 8 + 8 * k) t w (rw x at e) q h (omega arith) c)

-- at most every bit is set
pub count_most : (f : ℕ → Bool) (a n t : ℕ) → t ≡ count f (range a n) → t ≤ n
count_most f a n t e = omega (arith, count-le f (range a n), length-range a n)

-- three parts one behind the other
pub count-three : (f : ℕ → Bool) (a s t e x y z : ℕ) → x ≡ count f (range a (s - a)) → y ≡ count f (range s (t - s)) → z ≡ count f (range t (e - t)) → a ≤ s → s ≤ t → t ≤ e → x + y + z ≡ count f (range a (e - a))
count-three f a s t e x y z p q r u v w =
    let d : e - a ≡ s - a + (t - s) + (e - t) = omega arith in
    let g : a + (s - a) ≡ s = omega arith in
    let h : a + (s - a + (t - s)) ≡ t = omega arith in
    rw (d, count_add f a (s - a + (t - s)) (e - t), h, count_add f a (s - a) (t - s), g, p, q, r) refl
