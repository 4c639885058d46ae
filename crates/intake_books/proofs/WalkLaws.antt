-- Laws of a walk through a book that looks at each record and the one before it, over any width and any tests.
-- Assumes nothing.
use mathlib.Core.Path.{◌≡◌, refl, sym, ap, ◌∙◌}
use mathlib.Core.Bool.{Bool, true, false, not, ◌&&◌, ◌||◌}
use mathlib.Core.List.{List, [], ◌∷◌}
use Prim.Native.Nat.{ℕ, zero, suc, ◌+◌, ◌-◌, ◌*◌, ◌<◌}
use native.Mathlib.Nat.{zero-add}
use native.Mathlib.Omega.{arith}
use borrow.Author.Tests.{ne_eqb}
use lib.Dec.{eqb}
use lib.ListN.{length, get_or}
use Rattle.rules.specs.Lists.{pick◌then◌else◌, range, all, neighbours}
use Rattle.rules.specs.Bytes.{part, pieces}
use Rattle.rules.specs.Book.{decode_book}
use Rattle.rules.proofs.ListLaws.{if-false, and_left, and_right, and_intro, all-at, all_of, all_map, all-range-at, all-range-of, ascending-at, ascending-of}
use Rattle.rules.proofs.ScanLaws.{same_test, scan-none, scan-more}
use Rattle.rules.proofs.BookLaws.{length-pieces, get_or-pieces, length-decode_book}
use Rattle.book.specs.Places.{record_at}
use Rattle.book.proofs.SearchLaws.{record-at}
use Rattle.intake_books.specs.BookTests.{record_kept}

-- ---- tests of lists

-- pairs of tests in another order
pub interchange : (a b c d : Bool) → ((a && b) && (c && d)) ≡ ((a && c) && (b && d))
interchange false b c d = refl
interchange true true c d = refl
interchange true false true d = refl
interchange true false false d = refl

-- two tests of each element
pub all_both : {A : Type 0} (f g : A → Bool) (xs : List A) → all (λ x. f x && g x) xs ≡ (all f xs && all g xs)
unfolding all
all_both f g [] = refl
all_both f g (x ∷ xs) = rw (all_both f g xs) (interchange (f x) (g x) (all f xs) (all g xs))

-- a test of each record is one of its bytes
pub all-records : {A : Type 0} (decode : List ℕ → A) (w n : ℕ) (s : List ℕ) (f : A → Bool) → all f (decode_book decode w n s) ≡ all (λ p. f (decode p)) (pieces w n s)
unfolding decode_book
all-records decode w n s f = all_map f decode (pieces w n s)

-- ---- a walk

module _ {A : Type 0} (decode : List ℕ → A) (w : ℕ) (s : List ℕ) where
  -- a test of the records, one after the other
  pub all-places : (f : A → Bool) (n : ℕ) → all (λ i. f (record_at decode w s i)) (range 0 n) ≡ all f (decode_book decode w n s)
  all-places f n =
      let len : length (decode_book decode w n s) ≡ n = length-decode_book decode w n s in
      let same : (i : ℕ) → i < n → f (get_or (decode_book decode w n s) i (decode [])) ≡ f (record_at decode w s (0 + i)) = λ i l. rw (record-at decode w s n i (decode []) l, zero-add i) refl in
      same_test (all (λ i. f (record_at decode w s i)) (range 0 n)) (all f (decode_book decode w n s))
      (λ h. all_of f (decode_book decode w n s) (decode []) (λ i l. same i (omega arith) ∙ all-range-at (λ i. f (record_at decode w s i)) 0 n h i (omega arith)))
      (λ h. all-range-of (λ i. f (record_at decode w s i)) 0 n (λ i l. sym (same i l) ∙ all-at f (decode_book decode w n s) h i (decode []) (omega arith)))

  module _ (one : List ℕ → Bool) (pair : A → A → Bool) where
    -- the test of the record in front
    pub first-kept : (m : Bool) → m ≡ one (part (w * 0) w s) → m ≡ record_kept one pair decode w s 0
    unfolding record_kept pick◌then◌else◌
    first-kept m e = e ∙ right (one (part (w * 0) w s))
      where
        right : (b : Bool) → b ≡ (b && true)
        right true = refl
        right false = refl

    -- and of one behind others
    next-kept : (i : ℕ) → record_kept one pair decode w s (suc i) ≡ (one (part (w * suc i) w s) && pair (record_at decode w s i) (record_at decode w s (suc i)))
    unfolding record_kept
    next-kept i =
        let k : suc i - 1 ≡ i = omega arith in
        rw (if-false (eqb (suc i) 0) true (pair (record_at decode w s (suc i - 1)) (record_at decode w s (suc i))) (ne_eqb (suc i) 0 (λ e. absurd (omega arith))), k) refl

    module _ (n : ℕ) where
      -- each was tested: each passes the test of its bytes
      walked_one : all (record_kept one pair decode w s) (range 0 n) ≡ true → all one (pieces w n s) ≡ true
      unfolding record_kept
      walked_one h =
          let len : length (pieces w n s) ≡ n = length-pieces w n s in
          all_of one (pieces w n s) []
          (λ i l.
          ap one (get_or-pieces w n s i (omega arith))
          ∙ and_left (one (part (w * i) w s)) _ (rw (zero-add i) at (all-range-at (record_kept one pair decode w s) 0 n h i (omega arith))))

      -- and each pair the test of neighbours
      walked-pairs : all (record_kept one pair decode w s) (range 0 n) ≡ true → neighbours pair (decode_book decode w n s) ≡ true
      walked-pairs h =
          let len : length (decode_book decode w n s) ≡ n = length-decode_book decode w n s in
          ascending-of pair (decode_book decode w n s) (decode [])
          (λ i l.
          rw (record-at decode w s n i (decode []) (omega arith), record-at decode w s n (suc i) (decode []) (omega arith))
          (and_right (one (part (w * suc i) w s)) (pair (record_at decode w s i) (record_at decode w s (suc i)))
          (sym (next-kept i) ∙ (rw (zero-add (suc i)) at (all-range-at (record_kept one pair decode w s) 0 n h (suc i) (omega arith))))))

      -- the other way
      kept_at : all one (pieces w n s) ≡ true → neighbours pair (decode_book decode w n s) ≡ true → (i : ℕ) → i < n → record_kept one pair decode w s i ≡ true
      kept_at g h zero l =
          let len : length (pieces w n s) ≡ n = length-pieces w n s in
          sym (first-kept (one (part (w * 0) w s)) refl) ∙ ap one (sym (get_or-pieces w n s 0 l)) ∙ all-at one (pieces w n s) g 0 [] (omega arith)
      kept_at g h (suc i) l =
          let len : length (pieces w n s) ≡ n = length-pieces w n s in
          let many : length (decode_book decode w n s) ≡ n = length-decode_book decode w n s in
          let p : one (part (w * suc i) w s) ≡ true = ap one (sym (get_or-pieces w n s (suc i) l)) ∙ all-at one (pieces w n s) g (suc i) [] (omega arith) in
          let q : pair (record_at decode w s i) (record_at decode w s (suc i)) ≡ true =
          rw (← record-at decode w s n i (decode []) (omega arith), ← record-at decode w s n (suc i) (decode []) l) (ascending-at pair (decode_book decode w n s) h i (decode []) (omega arith)) in
          next-kept i ∙ and_intro _ _ p q

      -- the records that are tested one after the other are the book
      pub walk-all : all (record_kept one pair decode w s) (range 0 n) ≡ (all one (pieces w n s) && neighbours pair (decode_book decode w n s))
      walk-all =
          same_test (all (record_kept one pair decode w s) (range 0 n)) (all one (pieces w n s) && neighbours pair (decode_book decode w n s))
          (λ h. and_intro _ _ (walked_one h) (walked-pairs h))
          (λ h. all-range-of (record_kept one pair decode w s) 0 n (λ i l. rw (zero-add i) (kept_at (and_left (all one (pieces w n s)) (neighbours pair (decode_book decode w n s)) h) (and_right (all one (pieces w n s)) (neighbours pair (decode_book decode w n s)) h) i l)))

-- ---- one step

-- the record passes its own test, and is the first or the one with the record before it
pub kept_is : {A : Type 0} (one : List ℕ → Bool) (pair : A → A → Bool) (decode : List ℕ → A) (w : ℕ) (s : List ℕ) (i : ℕ)
    → record_kept one pair decode w s i ≡ (one (part (w * i) w s) && (eqb i 0 || pair (record_at decode w s (i - 1)) (record_at decode w s i)))
unfolding record_kept pick◌then◌else◌
kept_is one pair decode w s i = ap (λ (b : Bool). one (part (w * i) w s) && b) (choice (eqb i 0) (pair (record_at decode w s (i - 1)) (record_at decode w s i)))
  where
    choice : (a b : Bool) → (pick a then true else b) ≡ (a || b)
    choice true b = refl
    choice false b = refl

-- records passed, one after the other
abbrev pub Kept : {A : Type 0} → (List ℕ → Bool) → (A → A → Bool) → (List ℕ → A) → ℕ → List ℕ → ℕ → Type 0
Kept one pair decode w s i = all (record_kept one pair decode w s) (range 0 i) ≡ true

module _ {A : Type 0} (one : List ℕ → Bool) (pair : A → A → Bool) (decode : List ℕ → A) (w : ℕ) (s : List ℕ) where
  -- none yet
  pub kept-none : Kept one pair decode w s 0
  kept-none = scan-none (record_kept one pair decode w s) 0

  -- one more
  pub kept_more : (i : ℕ) (m : Bool) → Kept one pair decode w s i → m ≡ record_kept one pair decode w s i → not m ≡ false → Kept one pair decode w s (i + 1)
  kept_more i m h e t = scan-more (record_kept one pair decode w s) i m h e t
