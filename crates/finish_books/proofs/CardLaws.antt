-- Laws of the card book after a change.
-- Assumes nothing.
use mathlib.Core.Path.{◌≡◌, refl, sym, ap, ◌∙◌}
use mathlib.Core.List.{List}
use mathlib.Core.Bool.{true, false}
use Prim.Native.Nat.{ℕ, ◌*◌, ◌^◌, ◌<◌}
use native.Mathlib.Omega.{arith}
use borrow.Author.Tests.{eqb-true, ne_eqb, ltb-true, lt-ltb}
use lib.ListN.{length, get_or, set}
use Rattle.rules.specs.Lists.{any, given, ascending}
use Rattle.rules.specs.Bytes.{Bytes, part, patch}
use Rattle.rules.specs.Time.{Time}
use Rattle.rules.specs.Card.{Card, card_bytes, decode_card, encode_card, card_spare_zero, card_before}
use Rattle.rules.specs.Book.{decode_book, encode_book}
use Rattle.rules.specs.Units.{Change}
use Rattle.rules.specs.Finish.{changed_card, finished_cards}
use Rattle.rules.proofs.ListLaws.{clash, find-passes, find-given}
use Rattle.rules.proofs.BookLaws.{Whole, length-decode_book, get_or-decode_book}
use Rattle.rules.proofs.CardLaws.{encode-decode_card, decode-encode_card, fits-decode_card, length-encode_card, spare-encode_card}
use Rattle.rules.proofs.CardLaws as rules
use Rattle.book.specs.Places.{record_at, found_in, card_is, FoundFirst}
use Rattle.std.proofs.Common.{Option, Some, None}
use Rattle.format.specs.declared.card.Card as struct
use Rattle.format.specs.Records.{card_of, CardFits}
use Rattle.format.proofs.RecordLaws.{fits_said}
use Rattle.finish_books.specs.Buffers.{CardsRight}
use Rattle.finish_books.proofs.PutLaws.{put-book, map-one}

-- the card that was found stands at its place among the first n, and is the object's
pub card-found : (n object : ℕ) (s : List ℕ) (r : Option ℕ) (i : ℕ) → FoundFirst (card_is object) decode_card card_bytes n s r → r ≡ Some i
    → (i < n) × (card_is object (record_at decode_card card_bytes s i) ≡ true)
unfolding found_in
card-found n object s r i h e = (
  h.within i e,
  find-passes (card_is object) (decode_book decode_card card_bytes n s) (record_at decode_card card_bytes s i) (sym h.found ∙ ap (found_in decode_card card_bytes s) e),
)

-- where the object has a card, it is found
pub card-not-nothing : (n object : ℕ) (s : List ℕ) (r : Option ℕ) → FoundFirst (card_is object) decode_card card_bytes n s r → r ≡ None
    → any (card_is object) (decode_book decode_card card_bytes n s) ≡ true → ⊥
unfolding found_in given
card-not-nothing n object s r h e a =
    clash (sym (find-given (card_is object) (decode_book decode_card card_bytes n s)) ∙ sym (ap given h.found) ∙ ap (λ (f : Option ℕ). given (found_in decode_card card_bytes s f)) e) a

-- cards ascend, and no two are of one object
before-trans : (x y z : Card) → card_before x y ≡ true → card_before y z ≡ true → card_before x z ≡ true
unfolding card_before
before-trans x y z p q = lt-ltb x.object z.object (omega (arith, ltb-true x.object y.object p, ltb-true y.object z.object q))

-- a card behind the object's is not the object's
other-card : (object : ℕ) (x y : Card) → card_is object x ≡ true → card_before x y ≡ true → card_is object y ≡ false
unfolding card_before
other-card object x y p q = ne_eqb y.object object (λ e. omega (arith, eqb-true x.object object p, ltb-true x.object y.object q, e))

module _ (c : Change) (allocated : ℕ) (time : Time) where
  -- the changed cards are the old ones with the one at its place changed
  cards-set : (cs : List Card) (i : ℕ) (d : Card) → ascending card_before cs ≡ true → i < length cs → card_is c.object (get_or cs i d) ≡ true
      → finished_cards c allocated time cs ≡ set cs i (changed_card c.new_size allocated time (get_or cs i d))
  unfolding finished_cards
  cards-set cs i d a l t = map-one card_before (card_is c.object) (changed_card c.new_size allocated time) before-trans (other-card c.object) cs i d a l t

-- the struct that is written says the card that was read, changed
pub change-put : (size allocated : ℕ) (time : Time) (s t : List ℕ) (i : ℕ) (c d : struct.Card) → card_of c ≡ decode_card (part (card_bytes * i) card_bytes s) → card_of d ≡ changed_card size allocated time (card_of c)
    → t ≡ patch s (card_bytes * i) (encode_card (card_of d)) → t ≡ patch s (card_bytes * i) (encode_card (changed_card size allocated time (record_at decode_card card_bytes s i)))
unfolding record_at
change-put size allocated time s t i c d p q r = r ∙ ap (λ (k : Card). patch s (card_bytes * i) (encode_card k)) (q ∙ ap (changed_card size allocated time) p)

-- what a change sets
module _ (size allocated : ℕ) (time : Time) (z : size < 2 ^ 63) (a : allocated < 2 ^ 35) (m : time.seconds < 2 ^ 63) (n : time.nanoseconds < 2 ^ 30) where
  -- a card that was read and changed is in range
  changed-in-range : (s : List ℕ) → rules.CardFits (changed_card size allocated time (decode_card s))
  unfolding changed_card
  changed-in-range s =
      let f : rules.CardFits (decode_card s) = fits-decode_card s in
      record { object = f.object; size = z; allocated = a; changed = record { seconds = m; nanoseconds = n }; created = f.created }

  -- so is the struct that says it
  pub changed-fits : (s : List ℕ) (c d : struct.Card) → card_of c ≡ decode_card s → card_of d ≡ changed_card size allocated time (card_of c) → CardFits d
  changed-fits s c d p e = fits_said d (changed_card size allocated time (decode_card s)) (e ∙ ap (changed_card size allocated time) p) (changed-in-range s)

  -- a changed card, written over the one that was read, leaves the changed cards
  pub card-written : (object k i : ℕ) (s t : List ℕ) → CardsRight k s → i < k → card_is object (record_at decode_card card_bytes s i) ≡ true
      → Bytes t → t ≡ patch s (card_bytes * i) (encode_card (changed_card size allocated time (record_at decode_card card_bytes s i))) → (c : Change) → c.object ≡ object → c.new_size ≡ size
      → t ≡ encode_book encode_card (length s) (finished_cards c allocated time (decode_book decode_card card_bytes k s))
  card-written object k i s t r l h b q c eo es =
      let old : Card = record_at decode_card card_bytes s i in
      let new : Card = changed_card size allocated time old in
      let f : rules.CardFits new = unfold record_at in changed-in-range (part (card_bytes * i) card_bytes s) in
      let cs : List Card = decode_book decode_card card_bytes k s in
      let w : Whole card_bytes k card_spare_zero s = record { places = r.places; zeros = r.zeros; records = r.spare } in
      let put : t ≡ encode_book encode_card (length s) (set cs i (decode_card (encode_card new))) =
      put-book encode_card decode_card card_bytes card_spare_zero encode-decode_card k i s (encode_card new) t w l (length-encode_card new) (spare-encode_card new f) b q in
      let there : get_or cs i old ≡ old = unfold record_at in get_or-decode_book decode_card card_bytes k s i old l in
      let mine : card_is c.object (get_or cs i old) ≡ true = rw (there, eo) h in
      let same : new ≡ changed_card c.new_size allocated time (get_or cs i old) = rw (there, es) refl in
      put ∙ ap (encode_book encode_card (length s))
      (rw (decode-encode_card new f) (ap (set cs i) same ∙ sym (cards-set c allocated time cs i old r.order (rw (length-decode_book decode_card card_bytes k s) l) mine)))
