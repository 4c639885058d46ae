-- Laws of blocks that are mapped at two places: a look into a map, the extents of a book by their places, and one extent more.
-- Assumes nothing.
use mathlib.Core.Path.{◌≡◌, refl, sym, ap, ◌∙◌}
use mathlib.Core.Bool.{Bool, true, false, not, ◌&&◌, ◌||◌}
use mathlib.Core.List.{List, [], ◌∷◌, ◌++◌, flat_map, append-nil}
use Prim.Native.Nat.{ℕ, suc, ◌+◌, ◌-◌, ◌*◌, ◌≤◌, ◌<◌}
use native.Mathlib.Omega.{arith}
use borrow.Author.Tests.{leb-true, ltb-true, ltb-false}
use lib.Dec.{eqb, leb, ltb}
use lib.ListN.{length, drop, get_or, replicate, length-replicate}
use Rattle.rules.specs.Lists.{all, any, count, member, range}
use Rattle.rules.specs.Bytes.{part, bit_set}
use Rattle.rules.specs.Sizes.{most_blocks}
use Rattle.rules.specs.Extent.{Extent, extent_bytes, decode_extent}
use Rattle.rules.specs.Book.{decode_book}
use Rattle.rules.specs.Integrity.{mapped_blocks}
use Rattle.rules.proofs.BitLaws.{bits-zero}
use Rattle.rules.proofs.ListLaws.{test-cases, clash, and_left, and_right, or_right, all_append, any-index, any_at, length-range, get_or-range, count-append, member-append}
use Rattle.rules.proofs.CountLaws.{flat_map-append, member-count, member-nil, member-range-of, member-range-in, Once, once-range, count-nil}
use Rattle.rules.proofs.BookLaws.{decode_book-add, decode_book-suc, decode_book-none}
use Rattle.bitmap.specs.Map.{with_bits}
use Rattle.bitmap.proofs.MapLaws.{length-with_bits, bit_set-inside, bit_set-before, bit_set-after}
use Rattle.format.specs.declared.extent.Extent.{Extent as ExtentStruct}
use Rattle.format.specs.Records.{extent_of}
use Rattle.book.specs.Places.{record_at}
use Rattle.sharing.specs.Sharing.{seen_bytes, TellsShared, Looked, Seen}

-- ---- a look into a map

-- where not every element fails a test, some element passes it
some-passes : {A : Type 0} (f : A → Bool) (xs : List A) → not (all (λ x. not (f x)) xs) ≡ any f xs
unfolding all any
some-passes f [] = refl
some-passes f (x ∷ xs) = turned (f x) (all (λ y. not (f y)) xs) ∙ ap (λ (b : Bool). f x || b) (some-passes f xs)
  where
    turned : (a b : Bool) → not (not a && b) ≡ (a || not b)
    turned true b = refl
    turned false b = refl

module _ (m : List ℕ) (a e : ℕ) (r : Bool) (p : r ≡ all (λ k. not (bit_set m k)) (range a (e - a))) where
  -- what was asked tells whether a block is marked
  asked : not r ≡ any (bit_set m) (range a (e - a))
  asked = ap not p ∙ some-passes (bit_set m) (range a (e - a))

  -- one is: the map stays
  pub look-found : not r ≡ true → Looked true m m a (e - a)
  look-found z = record { found = sym z ∙ asked; marks = λ q. absurd (clash q refl); size = refl }

  -- none is: they are marked
  pub look-marks : (t : List ℕ) → not r ≡ false → t ≡ with_bits true m a e → a ≤ e → Looked false m t a (e - a)
  look-marks t z q l =
      let d : e ≡ a + (e - a) = omega arith in
      record { found = sym z ∙ asked; marks = λ _. q ∙ ap (with_bits true m a) d; size = ap length q ∙ length-with_bits true m a e }

-- ---- an extent in hand

module _ (s : List ℕ) (i : ℕ) (x : ExtentStruct) (q : extent_of x ≡ decode_extent (part (33 * i) extent_bytes s)) where
  -- its first block is that of the extent at the place
  here-first : x.physical ≡ (record_at decode_extent extent_bytes s i).physical
  unfolding record_at extent_of
  here-first = ap (λ (e : Extent). e.physical) q

  -- and it has as many
  here-count : x.count ≡ (record_at decode_extent extent_bytes s i).count
  unfolding record_at extent_of
  here-count = ap (λ (e : Extent). e.count) q

  -- it ends on a device
  pub here_end : (record_at decode_extent extent_bytes s i).physical + (record_at decode_extent extent_bytes s i).count ≤ most_blocks → x.physical + x.count ≤ most_blocks
  here_end l = omega (arith, l, here-first, here-count)

  -- a look at its blocks is one at those of the extent at the place
  pub here-looked : (r : Bool) (m t : List ℕ) → Looked r m t x.physical (x.physical + x.count - x.physical)
      → Looked r m t (record_at decode_extent extent_bytes s i).physical (record_at decode_extent extent_bytes s i).count
  here-looked r m t h =
      let d : x.physical + x.count - x.physical ≡ x.count = omega arith in
      rw (← here-first, ← here-count) (rw d at h)

-- ---- the extents of a book

module _ (s : List ℕ) (i : ℕ) where
  -- the extent at the place
  abbrev here : Extent
  here = record_at decode_extent extent_bytes s i

  -- the m extents behind it
  abbrev behind : ℕ → List Extent
  behind m = decode_book decode_extent extent_bytes m (drop extent_bytes (drop (extent_bytes * i) s))

  -- those before it, it, and those behind it
  book-here : (n : ℕ) → i < n → decode_book decode_extent extent_bytes n s ≡ decode_book decode_extent extent_bytes i s ++ (here ∷ behind (n - suc i))
  unfolding record_at part
  book-here n l =
      let e : n ≡ i + suc (n - suc i) = omega arith in
      ap (λ (k : ℕ). decode_book decode_extent extent_bytes k s) e
      ∙ decode_book-add decode_extent extent_bytes i (suc (n - suc i)) s
      ∙ ap (λ (t : List Extent). decode_book decode_extent extent_bytes i s ++ t) (decode_book-suc decode_extent extent_bytes (n - suc i) (drop (extent_bytes * i) s))

  -- it ends on a device where all do
  pub here_on : (n : ℕ) → all (λ e. leb (e.physical + e.count) most_blocks) (decode_book decode_extent extent_bytes n s) ≡ true → i < n → here.physical + here.count ≤ most_blocks
  unfolding all
  here_on n h l =
      let f : Extent → Bool = λ e. leb (e.physical + e.count) most_blocks in
      let t : all f (decode_book decode_extent extent_bytes i s ++ (here ∷ behind (n - suc i))) ≡ true = ap (all f) (sym (book-here n l)) ∙ h in
      let u : all f (here ∷ behind (n - suc i)) ≡ true =
      and_right (all f (decode_book decode_extent extent_bytes i s)) (all f (here ∷ behind (n - suc i))) (sym (all_append f (decode_book decode_extent extent_bytes i s) (here ∷ behind (n - suc i))) ∙ t) in
      leb-true (here.physical + here.count) most_blocks (and_left (f here) (all f (behind (n - suc i))) u)

  -- the blocks of those before it, its own, and others
  mapped-here : (n : ℕ) → i < n
      → mapped_blocks (decode_book decode_extent extent_bytes n s) ≡ mapped_blocks (decode_book decode_extent extent_bytes i s) ++ (range here.physical here.count ++ mapped_blocks (behind (n - suc i)))
  unfolding mapped_blocks flat_map
  mapped-here n l =
      ap mapped_blocks (book-here n l) ∙ flat_map-append (λ e. range e.physical e.count) (decode_book decode_extent extent_bytes i s) (here ∷ behind (n - suc i))

  -- the blocks of one extent more
  mapped-more : mapped_blocks (decode_book decode_extent extent_bytes (i + 1) s) ≡ mapped_blocks (decode_book decode_extent extent_bytes i s) ++ range here.physical here.count
  unfolding mapped_blocks flat_map
  mapped-more =
      let z : i + 1 - suc i ≡ 0 = omega arith in
      let w : behind (i + 1 - suc i) ≡ [] = ap behind z ∙ decode_book-none decode_extent extent_bytes (drop extent_bytes (drop (extent_bytes * i) s)) in
      mapped-here (i + 1) (omega arith)
      ∙ ap (λ (t : List Extent). mapped_blocks (decode_book decode_extent extent_bytes i s) ++ (range here.physical here.count ++ mapped_blocks t)) w
      ∙ ap (λ (t : List ℕ). mapped_blocks (decode_book decode_extent extent_bytes i s) ++ t) (append-nil (range here.physical here.count))

-- ---- numbers that are marked

-- a member stands in the list once or more
member-some : (b : ℕ) (xs : List ℕ) → member b xs ≡ true → 0 < count (eqb b) xs
member-some b xs h = ltb-true 0 (count (eqb b) xs) (sym (member-count b xs) ∙ h)

-- another number never
member-never : (b : ℕ) (xs : List ℕ) → member b xs ≡ false → count (eqb b) xs ≤ 0
member-never b xs h = ltb-false 0 (count (eqb b) xs) (sym (member-count b xs) ∙ h)

module _ (m xs : List ℕ) (a n : ℕ) (h : (b : ℕ) → b < 8 * length m → bit_set m b ≡ member b xs) (l : a + n ≤ 8 * length m) where
  -- a number of the range is not among the marked ones
  unmarked : any (bit_set m) (range a n) ≡ false → (b : ℕ) → member b (range a n) ≡ true → member b xs ≡ false
  unmarked z b t =
      let i : (a ≤ b) × (b < a + n) = member-range-in b a n t in
      let w : bit_set m b ≡ member b xs = h b (omega arith) in
      test-cases (member b xs ≡ false) (bit_set m b) (λ e. absurd (clash z (some_in b e i.0 i.1))) (λ e. sym w ∙ e)
    where
      some_in : (b : ℕ) → bit_set m b ≡ true → a ≤ b → b < a + n → any (bit_set m) (range a n) ≡ true
      some_in b e p q =
          let d : b - a < n = omega arith in
          let g : a + (b - a) ≡ b = omega arith in
          any_at (bit_set m) (range a n) (b - a) 0 (rw (length-range a n) d) (ap (bit_set m) (get_or-range a n (b - a) 0 d ∙ g) ∙ e)

  -- where none of a range is marked, no number stands twice
  once_more : Once xs → any (bit_set m) (range a n) ≡ false → Once (xs ++ range a n)
  once_more o z b =
      let c : count (eqb b) (xs ++ range a n) ≡ count (eqb b) xs + count (eqb b) (range a n) = count-append (eqb b) xs (range a n) in
      let p : count (eqb b) xs ≤ 1 = o b in
      let q : count (eqb b) (range a n) ≤ 1 = once-range a n b in
      test-cases (count (eqb b) (xs ++ range a n) ≤ 1) (member b (range a n))
      (λ t. let u : count (eqb b) xs ≤ 0 = member-never b xs (unmarked z b t) in omega arith)
      (λ t. let u : count (eqb b) (range a n) ≤ 0 = member-never b (range a n) t in omega arith)

  -- with the range marked, the numbers of both are
  bits-more : (t : List ℕ) → t ≡ with_bits true m a (a + n) → (b : ℕ) → b < 8 * length m → bit_set t b ≡ member b (xs ++ range a n)
  bits-more t e b k =
      let w : bit_set m b ≡ member b xs = h b k in
      let g : bit_set t b ≡ bit_set (with_bits true m a (a + n)) b = ap (λ (u : List ℕ). bit_set u b) e in
      let v : member b (xs ++ range a n) ≡ (member b xs || member b (range a n)) = member-append b xs (range a n) in
      test-cases (bit_set t b ≡ member b (xs ++ range a n)) (member b (range a n))
      (λ p. let i : (a ≤ b) × (b < a + n) = member-range-in b a n p in
      g ∙ bit_set-inside true m a (a + n) b k i.0 i.1 ∙ sym (v ∙ or_right (member b xs) (member b (range a n)) p))
      (λ p. g ∙ outside b k p ∙ w ∙ sym (v ∙ rw p (or-false (member b xs))))
    where
      or-false : (x : Bool) → (x || false) ≡ x
      or-false true = refl
      or-false false = refl

      outside : (b : ℕ) → b < 8 * length m → member b (range a n) ≡ false → bit_set (with_bits true m a (a + n)) b ≡ bit_set m b
      outside b k p =
          test-cases (bit_set (with_bits true m a (a + n)) b ≡ bit_set m b) (ltb b a)
          (λ u. bit_set-before true m a (a + n) b k (ltb-true b a u))
          (λ u. let d : a ≤ b = ltb-false b a u in
          test-cases (bit_set (with_bits true m a (a + n)) b ≡ bit_set m b) (ltb b (a + n))
          (λ x. absurd (clash p (member-range-of b a n d (ltb-true b (a + n) x))))
          (λ x. bit_set-after true m a (a + n) b k (ltb-false b (a + n) x)))

  -- where one of the range is marked, a number stands twice
  stands-twice : any (bit_set m) (range a n) ≡ true → (ys : List ℕ) → (b : ℕ) × (1 < count (eqb b) (xs ++ (range a n ++ ys)))
  stands-twice z ys =
      let f : (i : ℕ) × (i < length (range a n)) × (bit_set m (get_or (range a n) i 0) ≡ true) = any-index (bit_set m) (range a n) 0 z in
      twice-at f.0 (rw (length-range a n) at f.1) f.2
    where
      twice-at : (i : ℕ) → i < n → bit_set m (get_or (range a n) i 0) ≡ true → (b : ℕ) × (1 < count (eqb b) (xs ++ (range a n ++ ys)))
      twice-at i k e =
          let b : ℕ = a + i in
          let w : bit_set m b ≡ true = ap (bit_set m) (sym (get_or-range a n i 0 k)) ∙ e in
          let p : 0 < count (eqb b) xs = member-some b xs (sym (h b (omega arith)) ∙ w) in
          let q : 0 < count (eqb b) (range a n) = member-some b (range a n) (member-range-of b a n (omega arith) (omega arith)) in
          let c : count (eqb b) (xs ++ (range a n ++ ys)) ≡ count (eqb b) xs + count (eqb b) (range a n ++ ys) = count-append (eqb b) xs (range a n ++ ys) in
          let d : count (eqb b) (range a n ++ ys) ≡ count (eqb b) (range a n) + count (eqb b) ys = count-append (eqb b) (range a n) ys in
          (b, omega (arith, p, q, c, d))

-- ---- the walk

-- before any extent
pub seen_none : (s m : List ℕ) → m ≡ replicate seen_bytes 0 → Seen m (decode_book decode_extent extent_bytes 0 s)
unfolding mapped_blocks flat_map
seen_none s m e =
    rw (decode_book-none decode_extent extent_bytes s)
    (record { size = ap length e ∙ length-replicate {A = ℕ} seen_bytes 0; once = λ b. rw (count-nil (eqb b)) (omega arith); bits = λ b l. rw e (bits-zero seen_bytes b ∙ sym (member-nil b)) })

module _ (s m t : List ℕ) (i : ℕ) (r : Bool) (h : Seen m (decode_book decode_extent extent_bytes i s)) (k : Looked r m t (record_at decode_extent extent_bytes s i).physical (record_at decode_extent extent_bytes s i).count)
    (l : (record_at decode_extent extent_bytes s i).physical + (record_at decode_extent extent_bytes s i).count ≤ most_blocks) where
  -- its blocks have a bit in the map
  inside-map : (record_at decode_extent extent_bytes s i).physical + (record_at decode_extent extent_bytes s i).count ≤ 8 * length m
  inside-map = omega (arith, l, h.size)

  -- after one extent more
  pub seen_more : r ≡ false → Seen t (decode_book decode_extent extent_bytes (i + 1) s)
  seen_more z = record {
    size = k.size ∙ h.size;
    once = rw (mapped-more s i) (once_more m (mapped_blocks (decode_book decode_extent extent_bytes i s)) (here s i).physical (here s i).count h.bits inside-map h.once (sym k.found ∙ z));
    bits = λ b u. rw (mapped-more s i) (bits-more m (mapped_blocks (decode_book decode_extent extent_bytes i s)) (here s i).physical (here s i).count h.bits inside-map t (k.marks z) b (rw k.size at u));
  }

  -- one of its blocks was seen
  pub seen_twice : (n : ℕ) → r ≡ true → i < n → TellsShared true (decode_book decode_extent extent_bytes n s)
  seen_twice n z u = record {
    apart = λ e. absurd (clash e refl);
    together = λ _. rw (mapped-here s i n u) (stands-twice m (mapped_blocks (decode_book decode_extent extent_bytes i s)) (here s i).physical (here s i).count h.bits inside-map (sym k.found ∙ z) (mapped_blocks (behind s i (n - suc i))));
  }

-- after all of them
pub seen_end : (s m : List ℕ) (n i : ℕ) → Seen m (decode_book decode_extent extent_bytes i s) → n ≤ i → i ≤ n → TellsShared false (decode_book decode_extent extent_bytes n s)
seen_end s m n i h l u =
    let e : n ≡ i = omega arith in
    record { apart = λ _. rw e h.once; together = λ z. absurd (clash refl z) }
