-- Laws of what a read gives: by its length, and by the card that is found.
-- Assumes nothing.
use mathlib.Core.Path.{◌≡◌, sym, ap, ◌∙◌}
use mathlib.Core.List.{List}
use mathlib.Core.Option.{some, none}
use Prim.Native.Nat.{ℕ, ◌+◌, ◌*◌, ◌%◌, ◌≤◌, ◌<◌}
use native.Mathlib.Omega.{arith}
use lib.Dec.{eqb}
use lib.ListN.{length}
use borrow.Author.Tests.{eq-eqb, ne_eqb}
use Rattle.rules.specs.Lists.{find}
use Rattle.rules.specs.Sizes.{unit_bytes, most_transfer}
use Rattle.rules.specs.Bytes.{part}
use Rattle.rules.specs.Head.{Head, decode_head}
use Rattle.rules.specs.Card.{card_bytes, decode_card}
use Rattle.rules.specs.Book.{decode_book}
use Rattle.rules.specs.Refusal.{number_of}
use Rattle.rules.specs.Read.{read_length}
use Rattle.rules.proofs.ListLaws.{if-true, if-false, maybe-some, maybe-none}
use Rattle.format.specs.declared.head.Head as struct
use Rattle.format.specs.Records.{head_of}
use Rattle.std.proofs.Common.{Option, Some, None}
use Rattle.book.specs.Places.{record_at, found_in, FoundFirst, card_is}
use Rattle.read.specs.Range.{Readable}
use Rattle.read.specs.Gives.{gives, gives_checked, checked_units, gives_sized, gives_read}

-- ---- lengths

-- a read that gets some bytes lies in the file, in the buffer and in the limit
pub read-within : (size offset room n : ℕ) → n ≡ read_length size offset room → (n ≡ 0 → ⊥) → (0 < n) × (n ≤ most_transfer) × (offset + n ≤ size) × (n ≤ room)
unfolding read_length
read-within size offset room n e z = (omega (arith, z), omega (arith, e), omega (arith, e, z), omega (arith, e))

module _ (image uuid extents groups : List ℕ) (e g object offset : ℕ) (out : List ℕ) (size n : ℕ) (q : n ≡ read_length size offset (length out)) where
  -- a read that gets no byte
  pub sized-none : n ≡ 0 → gives 0 0 out ≡ gives_sized image uuid extents groups e g object offset out size
  unfolding gives_sized
  sized-none z = sym (if-true (eqb (read_length size offset (length out)) 0) (gives 0 0 out) _ (eq-eqb (read_length size offset (length out)) 0 (sym q ∙ z)))

  -- one that gets some
  pub sized-some : (n ≡ 0 → ⊥) → (number count : ℕ) (filled : List ℕ)
      → gives number count filled ≡ gives_checked (offset % unit_bytes) n out (checked_units image uuid extents groups e g object size offset n)
      → gives number count filled ≡ gives_sized image uuid extents groups e g object offset out size
  unfolding gives_sized
  sized-some z number count filled h =
      h ∙ ap (λ (m : ℕ). gives_checked (offset % unit_bytes) m out (checked_units image uuid extents groups e g object size offset m)) q
      ∙ sym (if-false (eqb (read_length size offset (length out)) 0) (gives 0 0 out) _ (ne_eqb (read_length size offset (length out)) 0 (λ y. z (q ∙ y))))

-- ---- the card

module _ (head : List ℕ) (h : struct.Head) (d : head_of h ≡ decode_head head) where
  -- the numbers of the decoded head are those that the head has
  pub head-cards : h.cards ≡ (decode_head head).cards
  unfolding head_of
  head-cards = ap (λ (k : Head). k.cards) d

  -- the books in which it counts its records
  pub head-books : (image extents groups : List ℕ) → Readable image extents groups (decode_head head).extents (decode_head head).groups → Readable image extents groups h.extents h.groups
  unfolding head_of
  head-books image extents groups r =
      let x : h.extents ≡ (decode_head head).extents = ap (λ (k : Head). k.extents) d in
      let y : h.groups ≡ (decode_head head).groups = ap (λ (k : Head). k.groups) d in
      rw (x, y) r

  module _ (cards : List ℕ) (object : ℕ) (f : Option ℕ) (k : FoundFirst (card_is object) decode_card card_bytes h.cards cards f) where
    -- a card that was found stands among those that the head counts
    pub card-within : (i : ℕ) → f ≡ Some i → card_bytes * (decode_head head).cards ≤ length cards → card_bytes * i + card_bytes ≤ length cards
    card-within i q l =
        let w : i < h.cards = k.within i q in
        omega (arith, w, l, head-cards)

    module _ (image extents groups : List ℕ) (offset : ℕ) (out : List ℕ) where
      -- none is found
      pub read_none : f ≡ None → gives 3 0 out ≡ gives_read image head cards extents groups object offset out
      unfolding gives_read found_in number_of head_of
      read_none q =
          let z : none ≡ find (card_is object) (decode_book decode_card card_bytes (decode_head head).cards cards) = rw (q, head-cards) at k.found in
          sym (maybe-none _ _ _ (sym z))

      -- one is
      pub read_some : (i size number count : ℕ) (filled : List ℕ) → f ≡ Some i → size ≡ (decode_card (part (card_bytes * i) card_bytes cards)).size
          → gives number count filled ≡ gives_sized image h.uuid extents groups h.extents h.groups object offset out size
          → gives number count filled ≡ gives_read image head cards extents groups object offset out
      unfolding gives_read found_in record_at head_of
      read_some i size number count filled q s e =
          let z : some (decode_card (part (card_bytes * i) card_bytes cards)) ≡ find (card_is object) (decode_book decode_card card_bytes (decode_head head).cards cards) = rw (q, head-cards) at k.found in
          e ∙ ap (λ (m : Head). gives_sized image m.uuid extents groups m.extents m.groups object offset out size) d
          ∙ ap (gives_sized image (decode_head head).uuid extents groups (decode_head head).extents (decode_head head).groups object offset out) s
          ∙ sym (maybe-some _ _ _ (decode_card (part (card_bytes * i) card_bytes cards)) (sym z))
