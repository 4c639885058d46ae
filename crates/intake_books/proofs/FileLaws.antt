-- Laws of a walk through cards and extents side by side: both ascend, so the card of an extent stands at or behind that of the extent before it.
-- Assumes nothing.
use mathlib.Core.Path.{◌≡◌, sym, ap, ◌∙◌}
use mathlib.Core.Bool.{Bool, true, false, not, ◌&&◌}
use mathlib.Core.List.{List, []}
use Prim.Native.Nat.{ℕ, zero, suc, ◌+◌, ◌-◌, ◌*◌, ◌≤◌, ◌<◌}
use native.Mathlib.Decide.{dec_lt}
use native.Mathlib.Nat.{zero-add, add-zero, add-suc}
use native.Mathlib.Omega.{arith}
use borrow.Author.Tests.{eqb-true, eq-eqb, not-false, ltb-true, ltb-false, lt-ltb}
use lib.Dec.{eqb, ltb, leb}
use lib.ListN.{length}
use Rattle.rules.specs.Lists.{range, all, any, ascending, begun}
use Rattle.rules.specs.Sizes.{block_bytes}
use Rattle.rules.specs.Bytes.{part}
use Rattle.rules.specs.Card.{Card, card_bytes, decode_card, card_before}
use Rattle.rules.specs.Extent.{Extent, extent_bytes, decode_extent, extent_before, extent_end}
use Rattle.rules.specs.Book.{decode_book}
use Rattle.rules.specs.Integrity.{in_file}
use Rattle.rules.proofs.ListLaws.{test-cases, order-cases, and_left, and_right, and_intro, any_at, any-index, ascending-at, all-range-at, all-range-of, pair_before-cases}
use Rattle.rules.proofs.ScanLaws.{same_test, scan-none, scan-more, scan-not, scan-done}
use Rattle.rules.proofs.BookLaws.{length-decode_book}
use Rattle.format.specs.declared.extent.Extent.{Extent as ExtentStruct}
use Rattle.format.specs.Records.{extent_of}
use Rattle.book.specs.Places.{record_at}
use Rattle.book.proofs.SearchLaws.{record-at}
use Rattle.intake_books.specs.BookTests.{in_file_of, in_file_at, files_right, CardFrom, SameFile}
use Rattle.intake_books.proofs.WalkLaws.{all-places}

-- ---- numbers that ascend with a book

module _ {A : Type 0} (before : A → A → Bool) (g : A → ℕ) (decode : List ℕ → A) (w n : ℕ) (s : List ℕ) (h : ascending before (decode_book decode w n s) ≡ true) where
  -- from one record to the next
  next : (i : ℕ) → suc i < n → before (record_at decode w s i) (record_at decode w s (suc i)) ≡ true
  next i l =
      let len : length (decode_book decode w n s) ≡ n = length-decode_book decode w n s in
      rw (← record-at decode w s n i (decode []) (omega arith), ← record-at decode w s n (suc i) (decode []) l) (ascending-at before (decode_book decode w n s) h i (decode []) (omega arith))

  -- over any number of records
  pub climb : ((x y : A) → before x y ≡ true → g x ≤ g y) → (a d : ℕ) → a + d < n → g (record_at decode w s a) ≤ g (record_at decode w s (a + d))
  climb up a zero l = rw (add-zero a) (omega arith)
  climb up a (suc d) l =
      let below : g (record_at decode w s a) ≤ g (record_at decode w s (a + d)) = climb up a d (omega arith) in
      let step : g (record_at decode w s (a + d)) ≤ g (record_at decode w s (suc (a + d))) = up _ _ (next (a + d) (omega arith)) in
      rw (add-suc a d) (omega arith)

-- objects of cards ascend
card-up : (c d : Card) → card_before c d ≡ true → c.object < d.object
unfolding card_before
card-up c d h = ltb-true c.object d.object h

-- those of extents do not fall
extent-up : (e f : Extent) → extent_before e f ≡ true → e.object ≤ f.object
unfolding extent_before
extent-up e f h = pair_before-cases (e.object ≤ f.object) e.object e.logical f.object f.logical h (λ l. omega arith) (λ q l. omega arith)

-- ---- the card of an extent

module _ (n : ℕ) (s : List ℕ) (h : ascending card_before (decode_book decode_card card_bytes n s) ≡ true) (e : Extent) (r : ℕ) (l : r ≤ n)
    (below : (k : ℕ) → k < r → (record_at decode_card card_bytes s k).object < e.object)
    (there : r < n → e.object ≤ (record_at decode_card card_bytes s r).object) where
  -- cards behind the place are of other objects
  behind : (k : ℕ) → r < k → k < n → e.object < (record_at decode_card card_bytes s k).object
  behind k a b =
      let one : (record_at decode_card card_bytes s r).object < (record_at decode_card card_bytes s (suc r)).object = card-up _ _ (next card_before (λ c. c.object) decode_card card_bytes n s h r (omega arith)) in
      let q : suc r + (k - suc r) ≡ k = omega arith in
      let more : (record_at decode_card card_bytes s (suc r)).object ≤ (record_at decode_card card_bytes s (suc r + (k - suc r))).object =
      climb card_before (λ c. c.object) decode_card card_bytes n s h (λ c d t. le (card-up c d t)) (suc r) (k - suc r) (omega arith) in
      let same : (record_at decode_card card_bytes s (suc r)).object ≤ (record_at decode_card card_bytes s k).object = rw q at more in
      let at_least : e.object ≤ (record_at decode_card card_bytes s r).object = there (omega arith) in
      omega arith
    where
      le : {a b : ℕ} → a < b → a ≤ b
      le t = omega arith

  -- only the card at the place may be the extent's
  only : (k : ℕ) → k < n → in_file_of e (record_at decode_card card_bytes s k) ≡ true → k ≡ r
  unfolding in_file_of
  only k b t =
      let o : (record_at decode_card card_bytes s k).object ≡ e.object = eqb-true _ _ (and_left _ _ t) in
      order-cases (k ≡ r) k r
      (λ a. let x : (record_at decode_card card_bytes s k).object < e.object = below k a in absurd (omega arith))
      (λ a. a)
      (λ a. let x : e.object < (record_at decode_card card_bytes s k).object = behind k a b in absurd (omega arith))

  -- so the test of that card is the test of the book
  pub file-there : in_file (decode_book decode_card card_bytes n s) e ≡ in_file_at e n s r
  unfolding in_file
  file-there =
      let cs : List Card = decode_book decode_card card_bytes n s in
      let len : length cs ≡ n = length-decode_book decode_card card_bytes n s in
      same_test (any (in_file_of e) cs) (ltb r n && in_file_of e (record_at decode_card card_bytes s r))
      (λ t.
      let f = any-index (in_file_of e) cs (decode_card []) t in
      let k : ℕ = f.0 in
      let b : k < n = omega (arith, f.1) in
      let p : in_file_of e (record_at decode_card card_bytes s k) ≡ true = rw (← record-at decode_card card_bytes s n k (decode_card []) b) f.2 in
      let q : k ≡ r = only k b p in
      and_intro (ltb r n) (in_file_of e (record_at decode_card card_bytes s r)) (lt-ltb r n (omega arith)) (rw (← q) p))
      (λ t.
      let b : r < n = ltb-true r n (and_left (ltb r n) (in_file_of e (record_at decode_card card_bytes s r)) t) in
      any_at (in_file_of e) cs r (decode_card []) (omega arith) (rw (record-at decode_card card_bytes s n r (decode_card []) b) (and_right (ltb r n) (in_file_of e (record_at decode_card card_bytes s r)) t)))

-- ---- the walk

-- the cards in front of place j are below every extent from place i on
abbrev pub Passed : (cards : List ℕ) (m : ℕ) (extents : List ℕ) (j i : ℕ) → Type 0
Passed cards m extents j i = (k : ℕ) → k < j → (a : ℕ) → i ≤ a → a < m → (record_at decode_card card_bytes cards k).object < (record_at decode_extent extent_bytes extents a).object

-- none is passed yet
pub passed_none : (cards : List ℕ) (m : ℕ) (extents : List ℕ) → Passed cards m extents 0 0
passed_none cards m extents k l = absurd (omega arith)

-- the extents in front of a place lie in their files
abbrev pub Filed : (n : ℕ) (cards extents : List ℕ) (i : ℕ) → Type 0
Filed n cards extents i = all (λ a. in_file (decode_book decode_card card_bytes n cards) (record_at decode_extent extent_bytes extents a)) (range 0 i) ≡ true

-- none is looked at yet
pub filed-none : (n : ℕ) (cards extents : List ℕ) → Filed n cards extents 0
filed-none n cards extents = scan-none (λ a. in_file (decode_book decode_card card_bytes n cards) (record_at decode_extent extent_bytes extents a)) 0

module _ (n : ℕ) (cards : List ℕ) (m : ℕ) (extents : List ℕ) (i j r : ℕ) (x : ExtentStruct) (p : Passed cards m extents j i) (l : i < m) (q : extent_of x ≡ decode_extent (part (extent_bytes * i) extent_bytes extents)) (f : CardFrom x.object n j cards r) where
  -- the extent in hand
  here : extent_of x ≡ record_at decode_extent extent_bytes extents i
  unfolding record_at
  here = q

  -- its object
  object_of : x.object ≡ (record_at decode_extent extent_bytes extents i).object
  unfolding extent_of
  object_of = ap (λ (z : Extent). z.object) here

  -- every card in front of the place found is below it
  below : (k : ℕ) → k < r → (record_at decode_card card_bytes cards k).object < x.object
  below k a = test-cases ((record_at decode_card card_bytes cards k).object < x.object) (ltb k j)
      (λ t. rw object_of (p k (ltb-true k j t) i (omega arith) l))
      (λ t. f.below k (ltb-false k j t) a)

  -- and so below every extent behind it
  pub passed-more : ascending extent_before (decode_book decode_extent extent_bytes m extents) ≡ true → Passed cards m extents r (i + 1)
  passed-more h k a b c d =
      let y : (record_at decode_card card_bytes cards k).object < x.object = below k a in
      let o : x.object ≡ (record_at decode_extent extent_bytes extents i).object = object_of in
      let s : i + (b - i) ≡ b = omega arith in
      let z : (record_at decode_extent extent_bytes extents i).object ≤ (record_at decode_extent extent_bytes extents (i + (b - i))).object =
      climb extent_before (λ z. z.object) decode_extent extent_bytes m extents h extent-up i (b - i) (omega arith) in
      let u : (record_at decode_extent extent_bytes extents i).object ≤ (record_at decode_extent extent_bytes extents b).object = rw s at z in
      omega arith

  module _ (h : ascending card_before (decode_book decode_card card_bytes n cards) ≡ true) (t : Bool) (u : t ≡ in_file_at (extent_of x) n cards r) where
    -- the test of the card at the place is the rule
    tested : t ≡ in_file (decode_book decode_card card_bytes n cards) (record_at decode_extent extent_bytes extents i)
    unfolding extent_of
    tested = u ∙ sym (file-there n cards h (extent_of x) r f.most below f.there) ∙ ap (in_file (decode_book decode_card card_bytes n cards)) here

    -- one more lies in its file
    pub filed-more : not t ≡ false → Filed n cards extents i → Filed n cards extents (i + 1)
    filed-more v g = scan-more (λ a. in_file (decode_book decode_card card_bytes n cards) (record_at decode_extent extent_bytes extents a)) i t g tested v

    -- one does not
    pub filed-not : not t ≡ true → false ≡ files_right n cards m extents
    unfolding files_right
    filed-not v =
        scan-not (λ a. in_file (decode_book decode_card card_bytes n cards) (record_at decode_extent extent_bytes extents a)) m i t l tested v
        ∙ all-places decode_extent extent_bytes extents (in_file (decode_book decode_card card_bytes n cards)) m

    module _ (v : not t ≡ false) where
      -- the card at the place, by its test
      at-card : (ltb r n ≡ true) × ((record_at decode_card card_bytes cards r).object ≡ x.object)
      unfolding in_file_at in_file_of extent_of
      at-card =
          let c : Card = record_at decode_card card_bytes cards r in
          let b : Bool = eqb c.object x.object in
          let k : (ltb r n && in_file_of (extent_of x) c) ≡ true = sym u ∙ not-false t v in
          let w : in_file_of (extent_of x) c ≡ true = and_right (ltb r n) (in_file_of (extent_of x) c) k in
          (and_left (ltb r n) (in_file_of (extent_of x) c) k, eqb-true c.object x.object (and_left b (leb (extent_end (extent_of x)) (begun c.size block_bytes)) w))

      -- an extent of the same file that ends within its blocks lies in it too
      same_in : (limit : ℕ) → limit ≡ begun (record_at decode_card card_bytes cards r).size block_bytes → (e : Extent) → e.object ≡ x.object → leb (extent_end e) limit ≡ true
          → in_file (decode_book decode_card card_bytes n cards) e ≡ true
      unfolding in_file_at in_file_of
      same_in limit b e o w =
          let c : Card = record_at decode_card card_bytes cards r in
          file-there n cards h e r f.most (λ k a. rw o (below k a)) (λ a. rw o (f.there a))
          ∙ and_intro (ltb r n) (eqb c.object e.object && leb (extent_end e) (begun c.size block_bytes)) at-card.0
          (and_intro (eqb c.object e.object) (leb (extent_end e) (begun c.size block_bytes)) (eq-eqb c.object e.object (at-card.1 ∙ sym o)) (rw (← b) w))

      -- so all of them do
      pub filed-through : (limit k : ℕ) → limit ≡ begun (record_at decode_card card_bytes cards r).size block_bytes → SameFile x.object limit m (i + 1) extents k
          → Filed n cards extents i → Filed n cards extents k
      filed-through limit k b s g =
          all-range-of (λ a. in_file (decode_book decode_card card_bytes n cards) (record_at decode_extent extent_bytes extents a)) 0 k (λ a y. go a y (dec_lt a (i + 1)))
        where
          go : (a : ℕ) → a < k → Dec (a < i + 1) → in_file (decode_book decode_card card_bytes n cards) (record_at decode_extent extent_bytes extents (0 + a)) ≡ true
          go a y (yes z) = all-range-at (λ a. in_file (decode_book decode_card card_bytes n cards) (record_at decode_extent extent_bytes extents a)) 0 (i + 1) (filed-more v g) a z
          go a y (no z) =
              let w = s.within a (omega arith) y in
              rw (zero-add a) (same_in limit b (record_at decode_extent extent_bytes extents a) w.0 w.1)

  -- cards that are below every extent from a place on are below those further on
  pub passed_on : ascending extent_before (decode_book decode_extent extent_bytes m extents) ≡ true → (k : ℕ) → i + 1 ≤ k → Passed cards m extents r k
  passed_on h k b c d a z w = passed-more h c d a (omega arith) w

-- a card that was tested and passed is one of the n
pub card-there : (e : Extent) (n r : ℕ) (s : List ℕ) (t : Bool) → t ≡ in_file_at e n s r → not t ≡ false → r < n
unfolding in_file_at
card-there e n r s t u v = ltb-true r n (and_left (ltb r n) (in_file_of e (record_at decode_card card_bytes s r)) (sym u ∙ not-false t v))

-- all do
pub filed-done : (n : ℕ) (cards : List ℕ) (m : ℕ) (extents : List ℕ) (i : ℕ) → m ≤ i → Filed n cards extents i → true ≡ files_right n cards m extents
unfolding files_right
filed-done n cards m extents i l g =
    scan-done (λ a. in_file (decode_book decode_card card_bytes n cards) (record_at decode_extent extent_bytes extents a)) m i l g
    ∙ all-places decode_extent extent_bytes extents (in_file (decode_book decode_card card_bytes n cards)) m

-- ---- the extents of one file

-- the extents from place a to i are of an object and end by a limit
abbrev pub Within : (object limit a : ℕ) (s : List ℕ) (i : ℕ) → Type 0
Within object limit a s i = (k : ℕ) → a ≤ k → k < i
    → ((record_at decode_extent extent_bytes s k).object ≡ object) × (leb (extent_end (record_at decode_extent extent_bytes s k)) limit ≡ true)

-- none yet
pub within_none : (object limit a : ℕ) (s : List ℕ) → Within object limit a s a
within_none object limit a s k l h = absurd (omega arith)

-- one more
pub within_more : (object limit a : ℕ) (s : List ℕ) (i : ℕ) (x : ExtentStruct) (t : Bool) → Within object limit a s i → extent_of x ≡ decode_extent (part (extent_bytes * i) extent_bytes s)
    → x.object ≡ object → t ≡ leb (extent_end (extent_of x)) limit → not t ≡ false → Within object limit a s (i + 1)
within_more object limit a s i x t u q o e v k l h = test-cases _ (ltb k i)
    (λ y. u k l (ltb-true k i y))
    (λ y.
    let z : k ≡ i = omega (arith, ltb-false k i y) in
    let w : extent_of x ≡ record_at decode_extent extent_bytes s i = unfold record_at in q in
    rw z (sym (object_is x w) ∙ o, ap (λ (f : Extent). leb (extent_end f) limit) (sym w) ∙ sym e ∙ not-false t v))
  where
    object_is : {f : Extent} (y : ExtentStruct) → extent_of y ≡ f → y.object ≡ f.object
    object_is y p = unfold extent_of in ap (λ (f : Extent). f.object) p

-- it ends here
pub same_here : (object limit m a : ℕ) (s : List ℕ) (i : ℕ) → Within object limit a s i → a ≤ i → i ≤ m → SameFile object limit m a s i
same_here object limit m a s i u l h = record { least = l; most = h; within = u }

-- or with the book
pub same_end : (object limit m a : ℕ) (s : List ℕ) (i : ℕ) → Within object limit a s i → a ≤ m → m ≤ i → i ≤ m → SameFile object limit m a s m
same_end object limit m a s i u l h g = record { least = l; most = omega arith; within = λ k b c. u k b (omega arith) }

-- ---- the search for a card

-- the cards from place a to i are below an object
abbrev pub Under : (object a : ℕ) (s : List ℕ) (i : ℕ) → Type 0
Under object a s i = (k : ℕ) → a ≤ k → k < i → (record_at decode_card card_bytes s k).object < object

-- none yet
pub under_none : (object a : ℕ) (s : List ℕ) → Under object a s a
under_none object a s k l h = absurd (omega arith)

module _ (object a : ℕ) (s : List ℕ) (i : ℕ) (u : Under object a s i) (x : ℕ) (q : x ≡ (decode_card (part (card_bytes * i) card_bytes s)).object) where
  -- the object that was read is that of the record
  object-here : (record_at decode_card card_bytes s i).object ≡ x
  unfolding record_at
  object-here = sym q

  -- one more
  pub under_more : x < object → Under object a s (i + 1)
  under_more f k l h = test-cases ((record_at decode_card card_bytes s k).object < object) (ltb k i)
      (λ t. u k l (ltb-true k i t))
      (λ t.
      let z : k ≡ i = omega (arith, ltb-false k i t) in
      let o : (record_at decode_card card_bytes s k).object ≡ x = rw z object-here in
      omega arith)

  -- it stands here
  pub from-here : (n : ℕ) → a ≤ i → i < n → object ≤ x → CardFrom object n a s i
  from-here n l h f = record { least = l; most = omega arith; below = u; there = λ t. rw object-here f }

-- it stands nowhere
pub from_end : (object a n : ℕ) (s : List ℕ) (i : ℕ) → Under object a s i → a ≤ n → n ≤ i → CardFrom object n a s n
from_end object a n s i u l h = record { least = l; most = omega arith; below = λ k b c. u k b (omega arith); there = λ t. absurd (omega arith) }
