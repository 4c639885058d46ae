-- Laws of the inner call enter: its tests by their numbers, and the card book with one card more.
-- Assumes nothing.
use mathlib.Core.Path.{◌≡◌, refl, sym, ap, ap₂, ◌∙◌}
use mathlib.Core.Bool.{Bool, true, false}
use mathlib.Core.List.{List, [], ◌∷◌, ◌++◌, append-nil}
use Prim.Native.Nat.{ℕ, ◌+◌, ◌*◌, ◌/◌, ◌^◌, ◌≤◌, ◌<◌}
use native.Mathlib.Omega.{arith}
use borrow.Author.Tests.{le-leb, lt-leb}
use lib.Dec.{leb}
use lib.ListN.{length, take, drop}
use lib.Seq.{take_all}
use Rattle.rules.specs.Lists.{pick◌then◌else◌, given, all, find, insert, ascending}
use Rattle.rules.specs.Bytes.{Bytes, patch, pieces}
use Rattle.rules.specs.Time.{Time}
use Rattle.rules.specs.Card.{Card, card_bytes, decode_card, encode_card, card_spare_zero, card_before}
use Rattle.rules.specs.Book.{decode_book, encode_book, book_places}
use Rattle.rules.specs.Refusal.{number_of}
use Rattle.rules.specs.Refusal.Refusal.{card_exists, bad_time, no_card_place}
use Rattle.rules.specs.Arguments.{time_wrong}
use Rattle.rules.specs.Enter.{new_card}
use Rattle.rules.proofs.ListLaws.{if-true, if-false}
use Rattle.rules.proofs.BookLaws.{Whole, length-decode_book, decode_book-one, decode_book-none}
use Rattle.rules.proofs.EnterLaws.{new-fits}
use Rattle.rules.proofs.CardLaws.{encode-decode_card, decode-encode_card, length-encode_card, spare-encode_card}
use Rattle.words.proofs.NumberLaws.{patch-whole}
use Rattle.book.specs.Places.{found_in, leading, card_is, card_under, FoundFirst, Spliced}
use Rattle.std.proofs.Common.{Option, Some, None}
use Rattle.book.proofs.InsertLaws.{insert-leading, spliced-book}
use Rattle.format.specs.declared.card.Card as struct
use Rattle.std.specs.Prelude.{Ok, Err}
use Rattle.std.specs.Option.{is_some}
use Rattle.format.specs.declared.refusal.Refusal.TheVariants.{CardExists, BadTime, NoCardPlace}
use Rattle.format.specs.Refusals.{number_in, refusal_of}
use Rattle.format.specs.Records.{card_of, CardFits}
use Rattle.format.proofs.RecordLaws.{card-in-range, fits_said}
use Rattle.store.specs.Buffers.{enter_number, CardsRight}

-- ---- the tests

module _ (cs : List Card) (places object : ℕ) (time : Time) where
  -- the object has a card
  number-4 : given (find (card_is object) cs) ≡ true → number_of card_exists ≡ enter_number cs places object time
  unfolding enter_number
  number-4 g = sym (if-true (given (find (card_is object) cs)) (number_of card_exists) _ g)

  -- it has none, and the time is wrong
  number-7 : given (find (card_is object) cs) ≡ false → time_wrong time ≡ true → number_of bad_time ≡ enter_number cs places object time
  unfolding enter_number
  number-7 g t = sym (if-false (given (find (card_is object) cs)) (number_of card_exists) _ g ∙ if-true (time_wrong time) (number_of bad_time) _ t)

  -- it has none, the time is right, and there is no place or some
  number-8 : given (find (card_is object) cs) ≡ false → time_wrong time ≡ false → (b : Bool) → leb places (length cs) ≡ b → (pick b then number_of no_card_place else 0) ≡ enter_number cs places object time
  unfolding enter_number
  number-8 g t b e =
      sym (if-false (given (find (card_is object) cs)) (number_of card_exists) _ g ∙ if-false (time_wrong time) (number_of bad_time) _ t
      ∙ ap (λ (c : Bool). pick c then number_of no_card_place else 0) e)

-- whether a search's answer stands for a record
given-found : (s : List ℕ) (f : Option ℕ) → given (found_in decode_card card_bytes s f) ≡ is_some f
unfolding found_in given
given-found s None = refl
given-found s (Some i) = refl

module _ (n object : ℕ) (s : List ℕ) (time : Time) (f : Option ℕ) (h : FoundFirst (card_is object) decode_card card_bytes n s f) (o : Bool) (p : o ≡ is_some f) where
  -- whether a card was found
  found : given (find (card_is object) (decode_book decode_card card_bytes n s)) ≡ o
  found = sym (ap given h.found) ∙ given-found s f ∙ sym p

  -- refusal 4
  pub enter-4 : o ≡ true → number_in {A = Unit {0}} (Err CardExists) ≡ enter_number (decode_book decode_card card_bytes n s) (book_places card_bytes s) object time
  unfolding number_in refusal_of
  enter-4 q = number-4 _ _ object time (found ∙ q)

  module _ (q : o ≡ false) where
    -- refusal 7
    pub enter-7 : (r : Bool) → r ≡ time_wrong time → r ≡ true → number_in {A = Unit {0}} (Err BadTime) ≡ enter_number (decode_book decode_card card_bytes n s) (book_places card_bytes s) object time
    unfolding number_in refusal_of
    enter-7 r e t = number-7 _ _ object time (found ∙ q) (sym e ∙ t)

    -- refusal 8
    pub enter-8 : (r : Bool) → r ≡ time_wrong time → r ≡ false → length s / card_bytes ≤ n → number_in {A = Unit {0}} (Err NoCardPlace) ≡ enter_number (decode_book decode_card card_bytes n s) (book_places card_bytes s) object time
    unfolding book_places pick◌then◌else◌ number_in refusal_of
    enter-8 r e t l =
        number-8 _ _ object time (found ∙ q) (sym e ∙ t) true
        (le-leb (length s / card_bytes) (length (decode_book decode_card card_bytes n s)) (rw (length-decode_book decode_card card_bytes n s) l))

    -- none of them
    pub enter-0 : (r : Bool) → r ≡ time_wrong time → r ≡ false → n < length s / card_bytes → number_in {A = Unit {0}} (Ok tt) ≡ enter_number (decode_book decode_card card_bytes n s) (book_places card_bytes s) object time
    unfolding book_places pick◌then◌else◌ number_in refusal_of
    enter-0 r e t l =
        number-8 _ _ object time (found ∙ q) (sym e ∙ t) false
        (lt-leb (length s / card_bytes) (length (decode_book decode_card card_bytes n s)) (rw (length-decode_book decode_card card_bytes n s) l))

-- ---- the card book

-- the struct of a new card fits
pub new-said : (c : struct.Card) (object : ℕ) (time : Time) → card_of c ≡ new_card object time → object < 2 ^ 64 → time.seconds < 2 ^ 63 → time.nanoseconds < 2 ^ 30 → CardFits c
new-said c object time e o s n = fits_said c (new_card object time) e (new-fits object time o (record { seconds = s; nanoseconds = n }))

module _ (c : struct.Card) (o : c.object < 2 ^ 64) (f : CardFits c) (z x : List ℕ) (lz : length z ≡ card_bytes) (e : x ≡ patch z 0 (encode_card (card_of c))) where
  -- the buffer in which the card was written has its bytes
  card-bytes : x ≡ encode_card (card_of c)
  card-bytes = e ∙ patch-whole z (encode_card (card_of c)) (length-encode_card (card_of c) ∙ sym lz)

  -- it says one card
  card-says : decode_book decode_card card_bytes 1 x ≡ card_of c ∷ []
  card-says =
      ap (decode_book decode_card card_bytes 1) (card-bytes ∙ sym (append-nil (encode_card (card_of c))))
      ∙ decode_book-one decode_card card_bytes 0 (encode_card (card_of c)) [] (length-encode_card (card_of c))
      ∙ ap₂ ◌∷◌ (decode-encode_card (card_of c) (card-in-range c o f)) (decode_book-none decode_card card_bytes [])

  -- with its spare bits zero
  card-spare : all card_spare_zero (pieces card_bytes 1 x) ≡ true
  unfolding all pieces
  card-spare =
      let l : length x ≡ card_bytes = ap length card-bytes ∙ length-encode_card (card_of c) in
      let q : take card_bytes x ≡ x = take_all card_bytes x (omega (arith, l)) in
      rw (q, card-bytes, spare-encode_card (card_of c) (card-in-range c o f)) refl

  -- the cards before it, it, and the others
  put_in : (cs : List Card) → insert card_before (card_of c) cs ≡ take (leading (card_under c.object) cs) cs ++ (card_of c ∷ []) ++ drop (leading (card_under c.object) cs) cs
  unfolding card_before card_of
  put_in cs = insert-leading card_before (card_of c) cs

  -- put in at its place
  pub inserted : (n i : ℕ) (s t : List ℕ) → CardsRight n s → card_bytes * (n + 1) ≤ length s → Bytes t
      → ((ascending card_before (decode_book decode_card card_bytes n s) ≡ true → i ≡ leading (card_under c.object) (decode_book decode_card card_bytes n s)) × (i ≤ n))
      → Spliced card_bytes n i 0 1 s x t → t ≡ encode_book encode_card (length s) (insert card_before (card_of c) (decode_book decode_card card_bytes n s))
  inserted n i s t r l b p h =
      let cs : List Card = decode_book decode_card card_bytes n s in
      let w : Whole card_bytes n card_spare_zero s = record { places = r.places; zeros = r.zeros; records = r.spare } in
      let k : i + 0 ≡ i = omega arith in
      let m : t ≡ encode_book encode_card (length s) (take i cs ++ decode_book decode_card card_bytes 1 x ++ drop (i + 0) cs) =
      spliced-book encode_card decode_card card_bytes card_spare_zero encode-decode_card n i 0 1 s x t w card-spare (omega (arith, l)) b h in
      let q : insert card_before (card_of c) cs ≡ take i cs ++ (card_of c ∷ []) ++ drop i cs = rw (p.0 r.order) (put_in cs) in
      m ∙ ap (encode_book encode_card (length s)) (rw (card-says, k, q) refl)
