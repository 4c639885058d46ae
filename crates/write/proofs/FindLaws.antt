-- Laws of the search for a file: where its card stands, and that what was read of it is what the store says.
-- Assumes nothing.
use mathlib.Core.Path.{◌≡◌, sym, ap}
use mathlib.Core.List.{List}
use mathlib.Core.Option.{none, some}
use Prim.Native.Nat.{ℕ, ◌+◌, ◌*◌, ◌≤◌, ◌<◌}
use native.Mathlib.Omega.{arith}
use lib.ListN.{length}
use borrow.Author.Tests.{eqb-true}
use Rattle.rules.specs.Lists.{find}
use Rattle.rules.specs.Bytes.{part}
use Rattle.rules.specs.Head.{Head, head_bytes, decode_head}
use Rattle.rules.specs.Card.{Card, card_bytes, decode_card}
use Rattle.rules.specs.Book.{decode_book, decode_books, book_places}
use Rattle.rules.specs.Store.{Store, decode, decode_with, card_of}
use Rattle.rules.proofs.ListLaws.{find-passes}
use Rattle.rules.proofs.PassLaws.{passes-head, passes-room}
use Rattle.format.specs.declared.head.Head as head
use Rattle.format.specs.declared.card.Card as card
use Rattle.format.specs.Records as records
use Rattle.std.proofs.Common.{Option, Some, None}
use Rattle.book.specs.Places.{record_at, found_in, FoundFirst, card_is}
use Rattle.write.specs.Call.{CardThere, FileFound, StoreReady}

-- ---- the code

module _ (bytes : List ℕ) (h : head.Head) (d : records.head_of h ≡ decode_head bytes) where
  -- the number of cards that was read is the head's
  pub head-cards : h.cards ≡ (decode_head bytes).cards
  unfolding records.head_of
  head-cards = ap (λ (k : Head). k.cards) d

  module _ (cards : List ℕ) (object : ℕ) (f : Option ℕ) (k : FoundFirst (card_is object) decode_card card_bytes h.cards cards f) where
    -- a card that was found stands among those that the head counts
    pub card-within : (i : ℕ) → f ≡ Some i → card_bytes * (decode_head bytes).cards ≤ length cards → card_bytes * i + card_bytes ≤ length cards
    card-within i q l =
        let w : i < h.cards = k.within i q in
        omega (arith, w, l, head-cards)

    -- none was found
    pub file-none : f ≡ None → FileFound bytes cards object None
    unfolding found_in FileFound
    file-none q =
        let z : none ≡ find (card_is object) (decode_book decode_card card_bytes (decode_head bytes).cards cards) = rw (q, head-cards) at k.found in
        sym z

    -- one was
    pub file-some : (i : ℕ) (c : card.Card) → f ≡ Some i → records.card_of c ≡ decode_card (part (card_bytes * i) card_bytes cards) → records.CardFits c
        → CardThere bytes cards object c.size c.allocated
    unfolding found_in record_at records.card_of
    file-some i c q e w =
        let z : some (decode_card (part (card_bytes * i) card_bytes cards)) ≡ find (card_is object) (decode_book decode_card card_bytes (decode_head bytes).cards cards) = rw (q, head-cards) at k.found in
        record {
          card = decode_card (part (card_bytes * i) card_bytes cards);
          found = sym z;
          size_is = sym (ap (λ (x : Card). x.size) e);
          count_is = sym (ap (λ (x : Card). x.allocated) e);
          short = omega (arith, w.size);
          most = omega (arith, w.allocated);
        }

-- ---- the store

module _ (s : Store) where
  -- what the search asks for
  pub find-ready : StoreReady s → (length s.head ≡ head_bytes) × (card_bytes * (decode_head s.head).cards ≤ length s.cards)
  unfolding book_places
  find-ready r = (passes-head s r.passes, omega (arith, (passes-room s r.passes).cards))

  module _ (object : ℕ) where
    -- the store has no card for the object
    pub card-missing : FileFound s.head s.cards object None → card_of (decode s) object ≡ none
    unfolding FileFound card_of decode decode_with decode_books
    card-missing f = f

    module _ (size allocated : ℕ) (t : CardThere s.head s.cards object size allocated) where
      -- the store has it
      pub card-known : card_of (decode s) object ≡ some t.card
      unfolding card_of decode decode_with decode_books
      card-known = t.found

      -- it is the object's
      pub card-object : t.card.object ≡ object
      card-object = eqb-true t.card.object object (find-passes (card_is object) (decode_book decode_card card_bytes (decode_head s.head).cards s.cards) t.card t.found)
