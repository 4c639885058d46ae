-- Laws of a scan that compares neighbours in a book, over any width and any order.
-- Assumes nothing.
use mathlib.Core.Path.{◌≡◌, refl, sym, ap, ◌∙◌}
use mathlib.Core.Bool.{Bool, true, false, not, ◌&&◌, and_assoc}
use mathlib.Core.List.{List, [], ◌∷◌, ◌++◌}
use Prim.Native.Nat.{ℕ, zero, suc, ◌+◌, ◌-◌, ◌*◌, ◌≤◌, ◌<◌}
use native.Mathlib.Decide.{ℕ_discrete}
use native.Mathlib.Omega.{arith}
use lib.Dec.{eqb, ltb}
use borrow.Author.Tests.{not-true, not-false}
use lib.ListN.{length, take, drop, get_or, length-drop}
use Rattle.std.proofs.lemmas.List.{take-append-drop}
use lib.Seq.{take_all, take-take, drop-drop}
use Rattle.std.specs.Prelude.{MatchBool}
use Rattle.std.specs.List.{AllWithin, HoldsAt}
use Rattle.std.specs.Simd.{first_chunks}
use Rattle.rules.specs.Lists.{all, ascending, pair_before, neighbours}
use Rattle.rules.specs.Bytes.{part, all_zero}
use Rattle.rules.specs.Card.{card_bytes, decode_card, card_before}
use Rattle.rules.specs.Extent.{Extent, extent_bytes, decode_extent, extent_before}
use Rattle.rules.specs.Group.{group_bytes, decode_group, group_before}
use Rattle.rules.specs.Book.{decode_book}
use Rattle.rules.specs.Integrity.{apart}
use Rattle.rules.proofs.ListLaws.{test-cases, clash, all_append, all_of, all-at, ascending-at, ascending-of}
use Rattle.rules.proofs.BookLaws.{length-decode_book, decode_book-none}
use Rattle.book.specs.Places.{record_at, follows}
use Rattle.book.proofs.SearchLaws.{record-at}

-- each of the first i records stands before the next of them
abbrev pub Follow : {A : Type 0} → (A → A → Bool) → (List ℕ → A) → ℕ → List ℕ → ℕ → Type 0
Follow before decode w s i = (j : ℕ) → suc j < i → before (record_at decode w s j) (record_at decode w s (suc j)) ≡ true

module _ {A : Type 0} (before : A → A → Bool) (decode : List ℕ → A) (w : ℕ) (s : List ℕ) where
  -- one record alone
  pub follow-none : Follow before decode w s 1
  follow-none j l = absurd (omega arith)

  -- one more
  pub follow-more : (i : ℕ) (m : Bool) → 0 < i → Follow before decode w s i → m ≡ before (record_at decode w s (i - 1)) (record_at decode w s i) → not m ≡ false → Follow before decode w s (i + 1)
  follow-more i m z h e t j l = go (ℕ_discrete (suc j) i)
    where
      go : Dec (suc j ≡ i) → before (record_at decode w s j) (record_at decode w s (suc j)) ≡ true
      go (yes q) =
          let k : i - 1 ≡ j = omega arith in
          let g : before (record_at decode w s (i - 1)) (record_at decode w s i) ≡ true = sym e ∙ not-false m t in
          ap (λ (x : ℕ). before (record_at decode w s j) (record_at decode w s x)) q ∙ ap (λ (x : ℕ). before (record_at decode w s x) (record_at decode w s i)) (sym k) ∙ g
      go (no q) = h j (omega arith)

  module _ (n : ℕ) where
    -- neighbours in the book
    pair-at : (j : ℕ) → suc j < n → before (get_or (decode_book decode w n s) j (decode [])) (get_or (decode_book decode w n s) (suc j) (decode [])) ≡ before (record_at decode w s j) (record_at decode w s (suc j))
    pair-at j l = rw (record-at decode w s n j (decode []) (omega arith), record-at decode w s n (suc j) (decode []) l) refl

    -- all were compared
    pub ordered-all : (i : ℕ) → n ≤ i → Follow before decode w s i → true ≡ ascending before (decode_book decode w n s)
    ordered-all i l h =
        let len : length (decode_book decode w n s) ≡ n = length-decode_book decode w n s in
        sym (ascending-of before (decode_book decode w n s) (decode []) (λ j k. pair-at j (omega arith) ∙ h j (omega arith)))

    -- two were out of order
    pub ordered-not : (i : ℕ) (m : Bool) → 0 < i → i < n → m ≡ before (record_at decode w s (i - 1)) (record_at decode w s i) → not m ≡ true → false ≡ ascending before (decode_book decode w n s)
    ordered-not i m z l e t =
        let len : length (decode_book decode w n s) ≡ n = length-decode_book decode w n s in
        let k : suc (i - 1) ≡ i = omega arith in
        let g : before (record_at decode w s (i - 1)) (record_at decode w s (suc (i - 1))) ≡ false = ap (λ (x : ℕ). before (record_at decode w s (i - 1)) (record_at decode w s x)) k ∙ sym e ∙ not-true m t in
        test-cases (false ≡ ascending before (decode_book decode w n s)) (ascending before (decode_book decode w n s))
        (λ u. absurd (clash g (sym (pair-at (i - 1) (omega arith)) ∙ ascending-at before (decode_book decode w n s) u (i - 1) (decode []) (omega arith))))
        (λ u. sym u)

-- two orders at once are both
pub ascending-both : {A : Type 0} (f g : A → A → Bool) (xs : List A) → ascending (λ x y. f x y && g x y) xs ≡ (ascending f xs && ascending g xs)
unfolding neighbours
ascending-both f g [] = refl
ascending-both f g (x ∷ []) = refl
ascending-both f g (x ∷ y ∷ ys) = rw (ascending-both f g (y ∷ ys)) (swap (f x y) (g x y) (ascending f (y ∷ ys)) (ascending g (y ∷ ys)))
  where
    swap : (a b c d : Bool) → ((a && b) && (c && d)) ≡ ((a && c) && (b && d))
    swap false b c d = refl
    swap true true c d = refl
    swap true false true d = refl
    swap true false false d = refl

-- order and overlap are what one scan tests
pub follows_both : (es : List Extent) (m : Bool) → m ≡ ascending follows es → m ≡ (ascending extent_before es && neighbours apart es)
unfolding follows
follows_both es m e = e ∙ ascending-both extent_before apart es

-- no record, or one
pub follows-empty : (n : ℕ) (s : List ℕ) → n ≡ 0 → true ≡ (ascending extent_before (decode_book decode_extent extent_bytes n s) && neighbours apart (decode_book decode_extent extent_bytes n s))
unfolding neighbours
follows-empty n s e = rw (e, decode_book-none decode_extent 33 s) refl

-- the objects of two cards
pub cards-pair : (s : List ℕ) (i a b : ℕ) → a ≡ (decode_card (part (card_bytes * (i - 1)) card_bytes s)).object → b ≡ (decode_card (part (card_bytes * i) card_bytes s)).object
    → ltb a b ≡ card_before (record_at decode_card card_bytes s (i - 1)) (record_at decode_card card_bytes s i)
unfolding record_at card_before
cards-pair s i a b p q = rw (p, q) refl

module _ (s : List ℕ) (n i : ℕ) (m : Bool) (a b : Extent) (z : 0 < i) (p : a ≡ record_at decode_extent extent_bytes s (i - 1)) (q : b ≡ decode_extent (part (33 * i) extent_bytes s)) (e : m ≡ follows a b) where
  -- the test of the one before and the one at a place
  step : m ≡ follows (record_at decode_extent extent_bytes s (i - 1)) (record_at decode_extent extent_bytes s i)
  unfolding record_at
  step = e ∙ rw (p, q) refl

  -- passed
  pub extents-more : Follow follows decode_extent extent_bytes s i → not m ≡ false → Follow follows decode_extent extent_bytes s (i + 1)
  extents-more h t = follow-more follows decode_extent extent_bytes s i m z h step t

  -- failed
  pub extents-not : i < n → not m ≡ true → false ≡ (ascending extent_before (decode_book decode_extent extent_bytes n s) && neighbours apart (decode_book decode_extent extent_bytes n s))
  extents-not l t = follows_both (decode_book decode_extent extent_bytes n s) false (ordered-not follows decode_extent extent_bytes s n i m z l step t)

-- all extents were compared
pub extents-all : (s : List ℕ) (n i : ℕ) → n ≤ i → Follow follows decode_extent extent_bytes s i → true ≡ (ascending extent_before (decode_book decode_extent extent_bytes n s) && neighbours apart (decode_book decode_extent extent_bytes n s))
extents-all s n i l h = follows_both (decode_book decode_extent extent_bytes n s) true (ordered-all follows decode_extent extent_bytes s n i l h)

-- the first extent
pub extent-first : (s : List ℕ) (a : Extent) → a ≡ decode_extent (part 0 extent_bytes s) → a ≡ record_at decode_extent extent_bytes s (1 - 1)
unfolding record_at
extent-first s a e = e

-- the one that comes to be the one before
pub extent-next : (s : List ℕ) (i : ℕ) (a : Extent) → a ≡ decode_extent (part (33 * i) extent_bytes s) → a ≡ record_at decode_extent extent_bytes s (i + 1 - 1)
unfolding record_at
extent-next s i a e = let k : i + 1 - 1 ≡ i = omega arith in rw k e

-- the keys of two groups
pub groups-pair : (s : List ℕ) (i a b c d : ℕ) (m : Bool) → a ≡ (decode_group (part (1073 * (i - 1)) group_bytes s)).object → b ≡ (decode_group (part (1073 * (i - 1)) group_bytes s)).number
    → c ≡ (decode_group (part (1073 * i) group_bytes s)).object → d ≡ (decode_group (part (1073 * i) group_bytes s)).number → m ≡ pair_before a b c d
    → m ≡ group_before (record_at decode_group group_bytes s (i - 1)) (record_at decode_group group_bytes s i)
unfolding record_at group_before
groups-pair s i a b c d m p q r t e = e ∙ rw (p, q, r, t) refl

-- ---- the zeros behind so many bytes

-- of two lists together
zero-append : (xs ys : List ℕ) → all_zero (xs ++ ys) ≡ (all_zero xs && all_zero ys)
unfolding all_zero
zero-append xs ys = all_append (λ b. eqb b 0) xs ys

-- a test of each element, up to the first that fails
all-asked : {A : Type 0} (f : A → Bool) (d : A) (xs : List A) (r : Bool) → MatchBool r (AllWithin (λ x. f x ≡ true) xs 0 (length xs)) ((k : ℕ) × (k < length xs) × HoldsAt (λ x. f x ≡ false) xs k) → r ≡ all f xs
all-asked f d xs true h = sym (all_of f xs d (λ i l. h i d (omega arith) l))
all-asked f d xs false (k, l, h) = test-cases (false ≡ all f xs) (all f xs) (λ t. absurd (clash (h d) (all-at f xs t k d l))) (λ t. sym t)

-- a stretch is zero, as it is tested
abbrev pub zero_stretch : List ℕ → Bool
zero_stretch x = all_zero (part 0 4096 x)

-- so many stretches, and what is left behind them
stretches-zero : (k : ℕ) (xs : List ℕ) → (all zero_stretch (first_chunks 4096 k xs) && all_zero (drop (k * 4096) xs)) ≡ all_zero xs
unfolding all
stretches-zero zero xs = refl
stretches-zero (suc k) xs =
    let t : part 0 4096 (take 4096 xs) ≡ take 4096 xs = unfold part in take-take 4096 4096 xs (omega arith) in
    let d : drop (suc k * 4096) xs ≡ drop (k * 4096) (drop 4096 xs) = sym (drop-drop (k * 4096) 4096 xs ∙ ap (λ (n : ℕ). drop n xs) (omega arith)) in
    let a : all_zero xs ≡ (all_zero (take 4096 xs) && all_zero (drop 4096 xs)) = ap all_zero (sym (take-append-drop 4096 xs)) ∙ zero-append (take 4096 xs) (drop 4096 xs) in
    rw (t, d, a, ← stretches-zero k (drop 4096 xs)) (and_assoc (all_zero (take 4096 xs)) (all zero_stretch (first_chunks 4096 k (drop 4096 xs))) (all_zero (drop (k * 4096) (drop 4096 xs))))

-- all that stands behind the first bytes
pub zero-behind : (s : List ℕ) (used : ℕ) → all_zero (take (length s - used) (drop used s)) ≡ all_zero (drop used s)
zero-behind s used = ap all_zero (take_all (length s - used) (drop used s) (simp length-drop (omega arith)))

module _ (k : ℕ) (xs : List ℕ) (cs : List (List ℕ)) (p : cs ≡ first_chunks 4096 k xs) (r : Bool)
    (h : MatchBool r (AllWithin (λ x. zero_stretch x ≡ true) cs 0 (length cs)) ((k : ℕ) × (k < length cs) × HoldsAt (λ x. zero_stretch x ≡ false) cs k)) where
  -- the stretches are zero: it is left to the rest
  pub zero-rest : (rest : List ℕ) (m : Bool) → rest ≡ drop (k * 4096) xs → r ≡ true → m ≡ all_zero (part 0 (length rest - 0) rest) → m ≡ all_zero xs
  zero-rest rest m q t e =
      let a : all zero_stretch (first_chunks 4096 k xs) ≡ true = ap (all zero_stretch) (sym p) ∙ sym (all-asked zero_stretch [] cs r h) ∙ t in
      let w : part 0 (length rest - 0) rest ≡ rest = unfold part in take_all (length rest - 0) rest (omega arith) in
      e ∙ ap all_zero (w ∙ q) ∙ sym (rw a at (sym (stretches-zero k xs)))

  -- one is not
  pub zero-not : r ≡ false → r ≡ all_zero xs
  zero-not t =
      let a : all zero_stretch (first_chunks 4096 k xs) ≡ false = ap (all zero_stretch) (sym p) ∙ sym (all-asked zero_stretch [] cs r h) ∙ t in
      t ∙ rw a at (stretches-zero k xs)
