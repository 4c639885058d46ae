-- A record put into a book at its place: the records before it, it, and the others; and the bytes of a book after an exchange are those that say its records.
-- Assumes nothing.
use mathlib.Core.Path.{◌≡◌, refl, sym, ap}
use mathlib.Core.List.{List, [], ◌∷◌, ◌++◌}
use mathlib.Core.Bool.{Bool, true, ◌&&◌}
use Prim.Native.Nat.{ℕ, zero, suc, ◌+◌, ◌-◌, ◌*◌, ◌≤◌}
use lib.ListN.{length, take, drop}
use Rattle.rules.specs.Lists.{all, insert}
use Rattle.rules.specs.Bytes.{Bytes, pieces}
use Rattle.rules.specs.Book.{decode_book, encode_book}
use Rattle.rules.proofs.ListLaws.{test-cases, if-true, if-false, and_left, and_right, and_intro, all_append}
use Rattle.rules.proofs.BookLaws.{Whole, encode-whole}
use Rattle.book.specs.Places.{leading, Spliced}
use Rattle.book.proofs.SpliceLaws.{spliced-records}

-- x put in at its place stands behind those that stand before it
pub insert-leading : {A : Type 0} (before : A → A → Bool) (x : A) (xs : List A)
    → insert before x xs ≡ take (leading (λ y. before y x) xs) xs ++ (x ∷ []) ++ drop (leading (λ y. before y x) xs) xs
unfolding insert leading
insert-leading before x [] = refl
insert-leading {A} before x (y ∷ ys) =
    test-cases _ (before y x)
    (λ t. rw (if-true (before y x) (y ∷ insert before x ys) (x ∷ y ∷ ys) t, if-true (before y x) (suc (leading (λ z. before z x) ys)) 0 t)
    (ap (λ (zs : List A). y ∷ zs) (insert-leading before x ys)))
    (λ t. rw (if-false (before y x) (y ∷ insert before x ys) (x ∷ y ∷ ys) t, if-false (before y x) (suc (leading (λ z. before z x) ys)) 0 t) refl)

-- a test that passes at every element passes at the first of them
all_take : {A : Type 0} (f : A → Bool) (i : ℕ) (xs : List A) → all f xs ≡ true → all f (take i xs) ≡ true
unfolding all
all_take f zero xs h = refl
all_take f (suc i) [] h = refl
all_take f (suc i) (x ∷ xs) h = and_intro (f x) (all f (take i xs)) (and_left (f x) (all f xs) h) (all_take f i xs (and_right (f x) (all f xs) h))

-- and at the others
all_drop : {A : Type 0} (f : A → Bool) (i : ℕ) (xs : List A) → all f xs ≡ true → all f (drop i xs) ≡ true
unfolding all
all_drop f zero xs h = h
all_drop f (suc i) [] h = refl
all_drop f (suc i) (x ∷ xs) h = all_drop f i xs (and_right (f x) (all f xs) h)

module _ {A : Type 0} (encode : A → List ℕ) (decode : List ℕ → A) (w : ℕ) (fixed : List ℕ → Bool)
    (both : (p : List ℕ) → length p ≡ w → Bytes p → fixed p ≡ true → encode (decode p) ≡ p) where
  -- a book whose bytes say its records says, after an exchange of records whose bytes say them, those after the exchange
  pub spliced-book : (n i k m : ℕ) (s x t : List ℕ) → Whole w n fixed s → all fixed (pieces w m x) ≡ true → w * (n - k + m) ≤ length s → Bytes t → Spliced w n i k m s x t
      → t ≡ encode_book encode (length s) (take i (decode_book decode w n s) ++ decode_book decode w m x ++ drop (i + k) (decode_book decode w n s))
  spliced-book n i k m s x t h f l b e =
      let q : Whole w (n - k + m) fixed t = record {
        places = rw e.size l;
        zeros = e.zeros h.zeros;
        records = rw e.records tests;
      } in
      sym (rw (e.size, spliced-records decode w n i k m s x t e) at (encode-whole encode decode w (n - k + m) fixed t both q b))
    where
      tests : all fixed (take i (pieces w n s) ++ pieces w m x ++ drop (i + k) (pieces w n s)) ≡ true
      tests = rw (all_append fixed (take i (pieces w n s) ++ pieces w m x) (drop (i + k) (pieces w n s)), all_append fixed (take i (pieces w n s)) (pieces w m x))
          (and_intro (all fixed (take i (pieces w n s)) && all fixed (pieces w m x)) (all fixed (drop (i + k) (pieces w n s)))
          (and_intro (all fixed (take i (pieces w n s))) (all fixed (pieces w m x)) (all_take fixed i (pieces w n s) h.records) f)
          (all_drop fixed (i + k) (pieces w n s) h.records))
