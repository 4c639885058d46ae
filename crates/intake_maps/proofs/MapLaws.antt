-- Laws of refusal 2's rules on the maps: over each extent of a book, over the maps alone, and what they are of the rules.
-- Assumes nothing.
use mathlib.Core.Path.{◌≡◌, refl, sym, ap, ◌∙◌}
use mathlib.Core.Bool.{and_comm, Bool, true, false, not, ◌&&◌, and-false, and-true}
use mathlib.Core.List.{List, []}
use Prim.Native.Nat.{ℕ, ◌+◌, ◌-◌, ◌*◌, ◌≤◌, ◌<◌}
use native.Mathlib.Nat.{add-zero, zero-add}
use Rattle.std.specs.Prelude.{MatchBool}
use Rattle.std.specs.List.{AllWithin, HoldsAt, range_with_len}
use Rattle.std.proofs.lemmas.List.FromFn.{length-range_with_len, get_or-range_with_len}
use native.Mathlib.Omega.{arith}
use borrow.Author.Tests.{ltb-true, leb-true, le-leb, lt-leb}
use lib.Dec.{leb, ltb}
use lib.ListN.{length}
use Rattle.rules.specs.Lists.{all, range}
use Rattle.rules.specs.Bytes.{part, bit_set}
use Rattle.rules.specs.Extent.{Extent, extent_bytes, decode_extent}
use Rattle.rules.specs.Map.{map_bytes}
use Rattle.rules.specs.Book.{decode_book}
use Rattle.rules.specs.Integrity.{none_past}
use Rattle.rules.proofs.ListLaws.{test-cases, clash, and_left, and_right, and_intro, or_left, all-at, all_of, all-weaken, all-range-at, all-range-of}
use Rattle.rules.proofs.BookLaws.{length-decode_book}
use Rattle.rules.proofs.PassLaws.{all-and}
use Rattle.bitmap_pairs.specs.Pair.{only, inside}
use Rattle.bitmap_pairs.proofs.PairLaws.{same_tests, all_two}
use Rattle.book.specs.Places.{record_at}
use Rattle.book.proofs.SearchLaws.{record-at}
use Rattle.intake_maps.specs.MapTests.{mappable, blocks_mappable, extent_mappable, maps_alone, maps_right, placed, Paired, MapsSized}

-- ---- a test of each record of a book

module _ {A : Type 0} (f : A → Bool) (decode : List ℕ → A) (w : ℕ) (s : List ℕ) (n : ℕ) where
  -- it passes at a place where it passes at all
  pub book-at : (i : ℕ) → all f (decode_book decode w n s) ≡ true → i < n → f (record_at decode w s i) ≡ true
  book-at i h l =
      let e : length (decode_book decode w n s) ≡ n = length-decode_book decode w n s in
      ap f (sym (record-at decode w s n i (decode []) l)) ∙ all-at f (decode_book decode w n s) h i (decode []) (omega arith)

  -- a walk over the places answers whether it passes at all
  pub book-tested : (r : Bool)
      → MatchBool r (AllWithin (λ i. f (record_at decode w s i) ≡ true) (range_with_len 0 (n - 0)) 0 (length (range_with_len 0 (n - 0))))
      ((k : ℕ) × (k < length (range_with_len 0 (n - 0))) × HoldsAt (λ i. f (record_at decode w s i) ≡ false) (range_with_len 0 (n - 0)) k)
      → r ≡ all f (decode_book decode w n s)
  book-tested true t =
      let e : length (decode_book decode w n s) ≡ n = length-decode_book decode w n s in
      sym (all_of f (decode_book decode w n s) (decode [])
      (λ j m.
      let l : j < n - 0 = omega arith in
      ap f (record-at decode w s n j (decode []) (omega arith)) ∙ ap (λ i. f (record_at decode w s i)) (sym (get_or-range_with_len 0 (n - 0) j 0 l ∙ zero-add j)) ∙ t j 0 (omega arith) (rw (length-range_with_len 0 (n - 0)) l)))
  book-tested false (k, l, t) =
      let m : k < n = omega (arith, length-range_with_len 0 (n - 0)) in
      let e : f (record_at decode w s k) ≡ false = rw (get_or-range_with_len 0 (n - 0) k 0 (omega arith), zero-add k) at (t 0) in
      test-cases (false ≡ all f (decode_book decode w n s)) (all f (decode_book decode w n s)) (λ h. absurd (clash e (book-at k h m))) (λ h. sym h)

-- ---- the blocks of an extent

-- the first is reserved
pub first-reserved : (r : ℕ) (u x : List ℕ) (a n : ℕ) → 0 < n → a < r → false ≡ blocks_mappable r u x a n
unfolding blocks_mappable mappable
first-reserved r u x a n z l =
    test-cases (false ≡ all (λ k. only u x k && leb r k) (range a n)) (all (λ k. only u x k && leb r k) (range a n))
    (λ h. absurd (clash (rw (add-zero a) (lt-leb r a l)) (and_right (only u x (a + 0)) (leb r (a + 0)) (all-range-at (λ k. only u x k && leb r k) a n h 0 z))))
    (λ h. sym h)

-- none is
pub none-reserved : (r : ℕ) (u x : List ℕ) (a n : ℕ) (m : Bool) → r ≤ a → m ≡ all (only u x) (range a n) → m ≡ blocks_mappable r u x a n
unfolding blocks_mappable mappable
none-reserved r u x a n m l e =
    e
    ∙ same_tests (all (only u x) (range a n)) (all (λ k. only u x k && leb r k) (range a n))
    (λ h. all-and (only u x) (leb r) (range a n) h (all-range-of (leb r) a n (λ i g. le-leb r (a + i) (omega arith))))
    (λ h. all-weaken (only u x) (λ k. only u x k && leb r k) (range a n) (λ k g. and_left (only u x k) (leb r k) g) h)

-- the same of a range by its end
pub none-reserved-to : (r : ℕ) (u x : List ℕ) (a n : ℕ) (m : Bool) → r ≤ a → m ≡ all (only u x) (range a (a + n - a)) → m ≡ blocks_mappable r u x a n
none-reserved-to r u x a n m l e =
    let d : a + n - a ≡ n = omega arith in
    none-reserved r u x a n m l (rw d at e)

-- an extent that has blocks on the device
pub placed-count : (b : ℕ) (e : Extent) → placed b e ≡ true → 0 < e.count
unfolding placed
placed-count b e h = ltb-true 0 e.count (and_left (ltb 0 e.count) (leb (e.physical + e.count) b) h)

-- they end on it
pub placed_end : (b : ℕ) (e : Extent) → placed b e ≡ true → e.physical + e.count ≤ b
unfolding placed
placed_end b e h = leb-true (e.physical + e.count) b (and_right (ltb 0 e.count) (leb (e.physical + e.count) b) h)

-- a greater device has them too
pub placed-more : (b c : ℕ) (es : List Extent) → b ≤ c → all (placed b) es ≡ true → all (placed c) es ≡ true
unfolding placed
placed-more b c es l h =
    all-weaken (placed c) (placed b) es
    (λ e p. and_intro (ltb 0 e.count) (leb (e.physical + e.count) c) (and_left (ltb 0 e.count) (leb (e.physical + e.count) b) p)
    (le-leb (e.physical + e.count) c (omega (arith, leb-true (e.physical + e.count) b (and_right (ltb 0 e.count) (leb (e.physical + e.count) b) p))))) h

module _ (s : List ℕ) (i : ℕ) (e : Extent) (q : e ≡ decode_extent (part (33 * i) extent_bytes s)) where
  -- the extent in hand is the one at the place
  here : record_at decode_extent extent_bytes s i ≡ e
  unfolding record_at
  here = sym q

  -- it has blocks
  pub here-count : (b : ℕ) → placed b (record_at decode_extent extent_bytes s i) ≡ true → 0 < e.count
  here-count b h = placed-count b e (rw here at h)

  -- they lie on the device
  pub here_end : (b : ℕ) → placed b (record_at decode_extent extent_bytes s i) ≡ true → e.physical + e.count ≤ b
  here_end b h = placed_end b e (rw here at h)

  -- their test is the one of the record at the place
  pub here-test : (r : ℕ) (u x : List ℕ) (m : Bool) → m ≡ blocks_mappable r u x e.physical e.count → m ≡ extent_mappable r u x (record_at decode_extent extent_bytes s i)
  unfolding extent_mappable
  here-test r u x m p = rw here p

-- ---- the maps alone

module _ {b r : ℕ} {u x : List ℕ} (s : MapsSized b r u x) where
  -- whole words, as many in each
  pub sized-paired : Paired u x
  unfolding map_bytes
  sized-paired = record { whole = omega (arith, s.used_fits); same = s.retired_fits ∙ sym s.used_fits; bits = omega (arith, s.used_fits, s.most) }

  -- the blocks' bits end in the last word
  pub sized-from : b ≤ 8 * length u
  unfolding map_bytes
  sized-from = omega (arith, s.used_fits)

module _ (b r : ℕ) (u x : List ℕ) (s : MapsSized b r u x) where
  -- where no retired bit is past the last block, all bits are inside where those of the blocks are
  inside-whole : all (λ k. not (bit_set x k)) (range b (8 * length x - b)) ≡ true → all (inside u x) (range 0 (8 * length u)) ≡ all (inside u x) (range 0 b)
  inside-whole h =
      let p : all (inside u x) (range b (8 * length u - b)) ≡ true =
      all-weaken (inside u x) (λ k. not (bit_set x k)) (range b (8 * length u - b)) (λ k g. unfold inside in or_left (not (bit_set x k)) (bit_set u k) g) (rw (sized-paired s).same at h) in
      let c : 8 * length u - 0 ≡ 8 * length u = omega arith in
      let a : b - 0 ≡ b = omega arith in
      (rw (c, a) at (all_two (inside u x) 0 b (8 * length u) (omega arith) (sized-from s))) ∙ rw p (and-true (all (inside u x) (range 0 b)))

  -- the rules by the tests of whole words, the tails first
  pub maps_alone_is : maps_alone b r u x
      ≡ (all (λ k. not (bit_set u k)) (range b (8 * length u - b))
      && all (λ k. not (bit_set x k)) (range b (8 * length x - b))
      && all (inside u x) (range 0 (8 * length u))
      && all (only u x) (range 0 (r - 0)))
  unfolding maps_alone none_past
  maps_alone_is =
      let c : r - 0 ≡ r = omega arith in
      rw c
      (turn (all (only u x) (range 0 r)) (all (inside u x) (range 0 b)) (all (λ k. not (bit_set u k)) (range b (8 * length u - b)))
      (all (λ k. not (bit_set x k)) (range b (8 * length x - b))) (all (inside u x) (range 0 (8 * length u))) inside-whole)
    where
      turn : (o i a c w : Bool) → (c ≡ true → w ≡ i) → (o && i && (a && c)) ≡ (a && c && w && o)
      turn o i false c w h = rw (and-false (o && i)) refl
      turn o i true false w h = rw (and-false (o && i)) refl
      turn true i true true w h = rw (h refl, and-true i) refl
      turn false i true true w h = rw (and-false w) refl

-- ---- both

-- the maps alone are tested first
pub maps_right_is : (b r : ℕ) (u x : List ℕ) (es : List Extent) → maps_right b r u x es ≡ (maps_alone b r u x && all (extent_mappable r u x) es)
unfolding maps_right
maps_right_is b r u x es = and_comm (all (extent_mappable r u x) es) (maps_alone b r u x)
