-- Laws of a scan through a book, over any width and any test: what is known after some records, and what was found where it ends.
-- Assumes nothing.
use mathlib.Core.Path.{◌≡◌, refl, sym, ap, ◌∙◌}
use mathlib.Core.Bool.{Bool, true, false, not}
use mathlib.Core.List.{List, [], ◌∷◌, get_last?}
use mathlib.Core.Option.{some}
use Rattle.std.specs.Prelude.{Option, Some, None, MatchOption}
use Prim.Native.Nat.{ℕ, zero, suc, ◌+◌, ◌-◌, ◌*◌, ◌≤◌, ◌<◌}
use native.Mathlib.Omega.{arith}
use borrow.Author.Count.{below_more}
use borrow.Author.Tests.{eq-eqb, ne_eqb, not-false}
use lib.Dec.{eqb}
use lib.ListN.{length, get_or}
use Rattle.rules.specs.Lists.{pick◌then◌else◌, any, filter}
use Rattle.rules.specs.Bytes.{part}
use Rattle.rules.specs.Card.{card_bytes, decode_card}
use Rattle.rules.specs.Extent.{extent_bytes, decode_extent, covers}
use Rattle.rules.specs.Group.{group_bytes, decode_group}
use Rattle.rules.specs.Book.{decode_book}
use Rattle.rules.specs.Inspect.{floor_extent}
use Rattle.rules.proofs.ListLaws.{if-true, if-false, test-cases, clash, any-index, filter-yes, filter-no, filter_none, find_at, find_none}
use Rattle.rules.proofs.BookLaws.{length-decode_book, get_or-decode_book}
use Rattle.format.specs.declared.extent.Extent.{Extent as ExtentStruct}
use Rattle.format.specs.Records.{extent_of}
use Rattle.halving.specs.Halving.{Parted}
use Rattle.book.specs.Places.{record_at, found_in, first_place, last_place, leading, FoundFirst, FloorExtent, card_is, extent_up_to, group_is}

-- ---- lists

module _ {A : Type 0} (f : A → Bool) (d : A) where
  -- no element passes
  any_none : (xs : List A) → ((j : ℕ) → j < length xs → f (get_or xs j d) ≡ false) → any f xs ≡ false
  any_none xs h = test-cases (any f xs ≡ false) (any f xs) (λ t. let r = any-index f xs d t in absurd (clash (h r.0 r.1) r.2)) (λ t. t)

  -- then none is the first
  first-none : (xs : List A) → ((j : ℕ) → j < length xs → f (get_or xs j d) ≡ false) → first_place f xs ≡ None
  unfolding first_place pick◌then◌else◌
  first-none [] h = refl
  first-none (x ∷ xs) h = rw (h 0 (omega arith), first-none xs (λ j l. h (suc j) (omega arith))) refl

  -- an element passes, and none in front of it
  first-at : (xs : List A) (i : ℕ) → i < length xs → f (get_or xs i d) ≡ true → ((j : ℕ) → j < i → f (get_or xs j d) ≡ false) → first_place f xs ≡ Some i
  unfolding first_place pick◌then◌else◌
  first-at [] i l t h = absurd (omega arith)
  first-at (x ∷ xs) zero l t h = rw t refl
  first-at (x ∷ xs) (suc i) l t h = rw (h 0 (omega arith), first-at xs i (omega arith) t (λ j m. h (suc j) (omega arith))) refl

  -- no element passes, so none is the last
  last_none : (xs : List A) → ((j : ℕ) → j < length xs → f (get_or xs j d) ≡ false) → last_place f xs ≡ None
  unfolding last_place pick◌then◌else◌
  last_none [] h = refl
  last_none (x ∷ xs) h = rw (last_none xs (λ j l. h (suc j) (omega arith)), h 0 (omega arith)) refl

  -- an element passes, and none behind it
  last-at : (xs : List A) (i : ℕ) → i < length xs → f (get_or xs i d) ≡ true → ((j : ℕ) → suc i ≤ j → j < length xs → f (get_or xs j d) ≡ false) → last_place f xs ≡ Some i
  unfolding last_place pick◌then◌else◌
  last-at [] i l t h = absurd (omega arith)
  last-at (x ∷ xs) zero l t h = rw (last_none xs (λ j m. h (suc j) (omega arith) (omega arith)), t) refl
  last-at (x ∷ xs) (suc i) l t h = rw (last-at xs i (omega arith) t (λ j m n. h (suc j) (omega arith) (omega arith))) refl

  -- the last of a longer list
  last_cons : (x y : A) (ys : List A) → get_last? ys ≡ some y → get_last? (x ∷ ys) ≡ some y
  last_cons x y [] e = let z : ◌≡◌ {A = ℕ} 0 1 = cc in absurd (omega arith)
  last_cons x y (b ∷ l) e = e

  -- it is the last that the test keeps
  filter-last : (xs : List A) (i : ℕ) → i < length xs → f (get_or xs i d) ≡ true → ((j : ℕ) → suc i ≤ j → j < length xs → f (get_or xs j d) ≡ false) → get_last? (filter f xs) ≡ some (get_or xs i d)
  filter-last [] i l t h = absurd (omega arith)
  filter-last (x ∷ xs) zero l t h =
      rw (filter-yes f x xs t, filter_none f xs (any_none xs (λ j m. h (suc j) (omega arith) (omega arith)))) refl
  filter-last (x ∷ xs) (suc i) l t h =
      let r : get_last? (filter f xs) ≡ some (get_or xs i d) = filter-last xs i (omega arith) t (λ j m n. h (suc j) (omega arith) (omega arith)) in
      test-cases (get_last? (filter f (x ∷ xs)) ≡ some (get_or xs i d)) (f x) (λ e. rw (filter-yes f x xs e) (last_cons x (get_or xs i d) (filter f xs) r)) (λ e. rw (filter-no f x xs e) r)

  -- so many pass in front of the first that does not
  leading-is : (xs : List A) (i : ℕ) → i ≤ length xs → ((j : ℕ) → j < i → f (get_or xs j d) ≡ true) → (i < length xs → f (get_or xs i d) ≡ false) → leading f xs ≡ i
  unfolding leading pick◌then◌else◌
  leading-is [] i l h g = omega arith
  leading-is (x ∷ xs) zero l h g = rw (g (omega arith)) refl
  leading-is (x ∷ xs) (suc i) l h g = rw (h 0 (omega arith), leading-is xs i (omega arith) (λ j m. h (suc j) (omega arith)) (λ m. g (omega arith))) refl

  -- what stands in front passes
  pub leading-passes : (xs : List A) (j : ℕ) → j < leading f xs → f (get_or xs j d) ≡ true
  unfolding leading
  leading-passes [] j l = absurd (omega arith)
  leading-passes (x ∷ xs) zero l =
      test-cases (f x ≡ true) (f x) (λ t. t) (λ t. absurd (omega (arith, rw (if-false (f x) (suc (leading f xs)) 0 t) at l)))
  leading-passes (x ∷ xs) (suc j) l =
      test-cases (f (get_or xs j d) ≡ true) (f x) (λ t. leading-passes xs j (omega (arith, rw (if-true (f x) (suc (leading f xs)) 0 t) at l)))
      (λ t. absurd (omega (arith, rw (if-false (f x) (suc (leading f xs)) 0 t) at l)))

  -- and the next does not
  pub leading-fails : (xs : List A) → leading f xs < length xs → f (get_or xs (leading f xs) d) ≡ false
  unfolding leading
  leading-fails [] l = absurd (omega arith)
  leading-fails (x ∷ xs) l =
      test-cases (f (get_or (x ∷ xs) (pick f x then suc (leading f xs) else 0) d) ≡ false) (f x)
      (λ t. rw (if-true (f x) (suc (leading f xs)) 0 t) (leading-fails xs (omega (arith, rw (if-true (f x) (suc (leading f xs)) 0 t) at l))))
      (λ t. rw (if-false (f x) (suc (leading f xs)) 0 t) t)

-- ---- books

-- the last record that passes the test was found
pub record FoundLast {A : Type 0} (f : A → Bool) (decode : List ℕ → A) (w n : ℕ) (s : List ℕ) (r : Option ℕ) : Type 0 where
  pub place : r ≡ last_place f (decode_book decode w n s)
  pub found : found_in decode w s r ≡ get_last? (filter f (decode_book decode w n s))
  pub within : (i : ℕ) → r ≡ Some i → i < n

-- the records from i to n fail the test
abbrev pub FailBehind : {A : Type 0} → (A → Bool) → (List ℕ → A) → ℕ → ℕ → List ℕ → ℕ → Type 0
FailBehind f decode w n s i = (j : ℕ) → i ≤ j → j < n → f (record_at decode w s j) ≡ false

-- the first i records pass it
abbrev pub Passes : {A : Type 0} → (A → Bool) → (List ℕ → A) → ℕ → List ℕ → ℕ → Type 0
Passes f decode w s i = (j : ℕ) → j < i → f (record_at decode w s j) ≡ true

-- a place that was found is the one that was answered
same_place : (n i j : ℕ) → i < n → Some i ≡ Some j → j < n
same_place n i j l e = let q : i ≡ j = cc in omega arith

-- where none was found none was answered
no_place : (n j : ℕ) → ◌≡◌ {A = Option ℕ} None (Some j) → j < n
no_place n j e = let z : ◌≡◌ {A = ℕ} 0 1 = cc in absurd (omega arith)

module _ {A : Type 0} (decode : List ℕ → A) (w : ℕ) (s : List ℕ) where
  -- the record at a place of the book
  pub record-at : (n i : ℕ) (d : A) → i < n → get_or (decode_book decode w n s) i d ≡ record_at decode w s i
  unfolding record_at
  record-at n i d l = get_or-decode_book decode w n s i d l

  module _ (f : A → Bool) where
    -- a test of a record is one of the book's
    test_at : (n i : ℕ) (b : Bool) → i < n → f (record_at decode w s i) ≡ b → f (get_or (decode_book decode w n s) i (decode [])) ≡ b
    test_at n i b l e = ap f (record-at n i (decode []) l) ∙ e

    -- one more passes
    pub passes-more : (i : ℕ) (m : Bool) → Passes f decode w s i → m ≡ f (record_at decode w s i) → not m ≡ false → Passes f decode w s (i + 1)
    passes-more i m h e t = below_more (λ j. f (record_at decode w s j) ≡ true) i h (sym e ∙ not-false m t)

    module _ (n : ℕ) where
      -- the first was found, or there is none
      pub found-first : (r : Option ℕ) → MatchOption r ((k : ℕ) → 0 ≤ k → k < n → f (record_at decode w s k) ≡ false) (λ i. (0 ≤ i) × (i < n) × (f (record_at decode w s i) ≡ true) × ((k : ℕ) → 0 ≤ k → k < i → f (record_at decode w s k) ≡ false))
          → FoundFirst f decode w n s r
      unfolding found_in
      found-first (Some i) h =
          let b : List A = decode_book decode w n s in
          let len : length b ≡ n = length-decode_book decode w n s in
          let l : i < n = h.1 in
          let here : f (get_or b i (decode [])) ≡ true = test_at n i true l h.2 in
          let front : (j : ℕ) → j < i → f (get_or b j (decode [])) ≡ false = λ j k. test_at n j false (omega arith) (h.3 j (omega arith) k) in
          record {
            place = sym (first-at f (decode []) b i (omega arith) here front);
            found = sym (find_at f b i (decode []) (omega arith) here front ∙ ap some (record-at n i (decode []) l));
            within = λ j q. same_place n i j l q;
          }
      found-first None h =
          let b : List A = decode_book decode w n s in
          let len : length b ≡ n = length-decode_book decode w n s in
          let all : (j : ℕ) → j < length b → f (get_or b j (decode [])) ≡ false = λ j k. test_at n j false (omega arith) (h j (omega arith) (omega arith)) in
          record { place = sym (first-none f (decode []) b all); found = sym (find_none f b (any_none f (decode []) b all)); within = λ j q. no_place n j q }

      -- the last was found
      pub found-last : (i : ℕ) (m : Bool) → 0 < i → i ≤ n → FailBehind f decode w n s i → m ≡ f (record_at decode w s (i - 1)) → m ≡ true → FoundLast f decode w n s (Some (i - 1))
      unfolding found_in
      found-last i m z l h e t =
          let b : List A = decode_book decode w n s in
          let len : length b ≡ n = length-decode_book decode w n s in
          let here : f (get_or b (i - 1) (decode [])) ≡ true = test_at n (i - 1) true (omega arith) (sym e ∙ t) in
          let rest : (j : ℕ) → suc (i - 1) ≤ j → j < length b → f (get_or b j (decode [])) ≡ false = λ j k o. test_at n j false (omega arith) (h j (omega arith) (omega arith)) in
          record {
            place = sym (last-at f (decode []) b (i - 1) (omega arith) here rest);
            found = sym (filter-last f (decode []) b (i - 1) (omega arith) here rest ∙ ap some (record-at n (i - 1) (decode []) (omega arith)));
            within = λ j q. same_place n (i - 1) j (omega arith) q;
          }

      -- none was
      pub found-no-last : (i : ℕ) → i ≤ 0 → FailBehind f decode w n s i → FoundLast f decode w n s None
      unfolding found_in
      found-no-last i l h =
          let b : List A = decode_book decode w n s in
          let len : length b ≡ n = length-decode_book decode w n s in
          let all : (j : ℕ) → j < length b → f (get_or b j (decode [])) ≡ false = λ j k. test_at n j false (omega arith) (h j (omega arith) (omega arith)) in
          record { place = sym (last_none f (decode []) b all); found = rw (filter_none f b (any_none f (decode []) b all)) refl; within = λ j q. no_place n j q }

      -- where a place parts those that pass from the others, so many stand in front
      pub leading-parted : (place : ℕ) → Parted (λ j. f (record_at decode w s j)) n place → place ≡ leading f (decode_book decode w n s)
      leading-parted place h =
          let b : List A = decode_book decode w n s in
          let len : length b ≡ n = length-decode_book decode w n s in
          sym (leading-is f (decode []) b place (omega (arith, h.most)) (λ j k. test_at n j true (omega (arith, h.most)) (h.front j k))
          (λ k. test_at n place false (omega arith) (h.behind place (omega arith) (omega arith))))

-- of extents up to a block that is the last one from there
pub floor-extent : (object block n : ℕ) (s : List ℕ) (r : Option ℕ) → FoundLast (extent_up_to object block) decode_extent extent_bytes n s r → FloorExtent object block n s r
unfolding floor_extent
floor-extent object block n s r h = record { place = h.place; found = h.found; within = h.within }

-- ---- the tests of one record

module _ (s : List ℕ) (i object : ℕ) where
  module _ (x : ℕ) (e : x ≡ (decode_card (part (card_bytes * i) card_bytes s)).object) where
    -- an object that was read is that of the record
    card-object : x ≡ (record_at decode_card card_bytes s i).object
    unfolding record_at
    card-object = e

    -- so it is the one that is looked for if the record is
    pub card-is : eqb x object ≡ card_is object (record_at decode_card card_bytes s i)
    card-is = ap (λ (a : ℕ). eqb a object) card-object

  -- an extent in hand maps the block that the record does
  pub extent-covers : (x : ℕ) (c : ExtentStruct) → extent_of c ≡ decode_extent (part (33 * i) extent_bytes s) → (m : Bool) → m ≡ covers object x (extent_of c) → m ≡ covers object x (record_at decode_extent extent_bytes s i)
  unfolding record_at
  extent-covers x c e m p = p ∙ ap (covers object x) e

  module _ (x a : ℕ) (e : a ≡ (decode_group (part (1073 * i) group_bytes s)).object) where
    -- a group of another file
    pub group-other : (a ≡ object → ⊥) → eqb a object ≡ group_is object x (record_at decode_group group_bytes s i)
    unfolding record_at
    group-other n = rw (← e, ne_eqb a object n) refl

    -- of this one
    pub group-is : (b : ℕ) → b ≡ (decode_group (part (1073 * i) group_bytes s)).number → a ≡ object → eqb b x ≡ group_is object x (record_at decode_group group_bytes s i)
    unfolding record_at
    group-is b f o = rw (← e, eq-eqb a object o, ← f) refl
