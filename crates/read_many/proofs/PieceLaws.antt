-- Laws of one of many reads: the number that refuses it is that of a single read, and so is its piece.
-- Assumes nothing.
use mathlib.Core.Path.{◌≡◌, refl, sym, ap, ◌∙◌}
use mathlib.Core.List.{List, ◌++◌, map}
use mathlib.Core.Option.{Option, none, some}
use Prim.Native.Nat.{ℕ, ◌+◌, ◌-◌, ◌*◌, ◌/◌, ◌%◌}
use native.Mathlib.Omega.{arith}
use lib.Dec.{eqb}
use lib.ListN.{length, drop}
use borrow.Author.Tests.{eqb-true, eqb-false}
use Rattle.rules.specs.Lists.{maybe, find, range, begun}
use Rattle.rules.specs.Sizes.{unit_blocks, unit_bytes}
use Rattle.rules.specs.Bytes.{part}
use Rattle.rules.specs.Extent.{mapping}
use Rattle.rules.specs.Head.{decode_head}
use Rattle.rules.specs.Card.{Card, card_bytes, decode_card}
use Rattle.rules.specs.Book.{decode_book}
use Rattle.rules.specs.Refusal.{number_of}
use Rattle.rules.specs.Refusal.Refusal.{no_card}
use Rattle.rules.specs.Units.{units_of}
use Rattle.rules.specs.Read.{Checked, read_length}
use Rattle.rules.specs.Read.Checked.{failed, bytes}
use Rattle.rules.specs.Answers.{checked_number}
use Rattle.rules.specs.Triples.{Triple}
use Rattle.rules.proofs.ListLaws.{test-cases, if-true, if-false, maybe-some}
use Rattle.rules.proofs.ByteLaws.{part_none}
use Rattle.rules.proofs.UnitListLaws.{units_of-some, units_of-none}
use Rattle.mapping.specs.Entries.{extents_in}
use Rattle.image.specs.Blocks.{blocks_bytes}
use Rattle.read.specs.Range.{Readable, checked_range}
use Rattle.read.specs.Gives.{Gives, gives, gives_checked, checked_units, gives_sized, gives_read}
use Rattle.read.proofs.HandedLaws.{as_entries, entries-as}
use Rattle.read.proofs.RangeLaws.{range-done}
use Rattle.read.proofs.GivesLaws.{read-within}
use Rattle.read_checks.specs.Reads.{Looked, first_number, unit_number, units_read, sized_number, card_in, read_number, SizeIs}
use Rattle.read_checks.proofs.StretchLaws.{first-none}
use Rattle.read_checks.proofs.CheckedLaws.{number-sized}
use Rattle.pieces.specs.Pieces.{unit_bytes_of, piece_of}
use Rattle.read_many.proofs.UnitNumbers.{range-numbers}

-- the number of a read whose units were checked
checked-number : (a n : ℕ) (out : List ℕ) (c : Checked) → (gives_checked a n out c).number ≡ checked_number c
unfolding gives_checked checked_number
checked-number a n out (failed r) = refl
checked-number a n out (bytes xs) = refl

module _ (b : Looked) (t : Triple) (piece : List ℕ) (w : length piece ≡ t.len) where
  -- a single read of a file of this size
  abbrev pub single : ℕ → Gives
  single size = gives_sized b.image (decode_head b.head).uuid b.extents b.groups (decode_head b.head).extents (decode_head b.head).groups t.object t.offset piece size

  -- its units, checked
  abbrev units : ℕ → ℕ → Checked
  units size n = checked_units b.image (decode_head b.head).uuid b.extents b.groups (decode_head b.head).extents (decode_head b.head).groups t.object size t.offset n

  -- it gets as many bytes as the triple says
  same_length : (size : ℕ) → read_length size t.offset (length piece) ≡ read_length size t.offset t.len
  same_length size = ap (read_length size t.offset) w

  -- the number of its units, at once and one by one
  units_number : (size n : ℕ) → n ≡ read_length size t.offset t.len → (n ≡ 0 → ⊥) → checked_number (units size n) ≡ sized_number b t size
  unfolding checked_units sized_number unit_number units_read
  units_number size n e z =
      range-numbers b.image (decode_head b.head).uuid b.extents b.groups (decode_head b.head).extents (decode_head b.head).groups t.object size (begun (t.offset + n) unit_bytes - t.offset / unit_bytes) (t.offset / unit_bytes)
      ∙ ap (first_number (unit_number b t.object size)) (sym (ap (λ (m : ℕ). units_of t.offset (t.offset + m)) (sym e) ∙ units_of-some t.offset (t.offset + n) (omega (arith, z))))

  -- a read that gets no byte is not refused
  none_number : (size : ℕ) → read_length size t.offset t.len ≡ 0 → sized_number b t size ≡ 0
  unfolding sized_number units_read
  none_number size z = ap (first_number (unit_number b t.object size)) (units_of-none t.offset (t.offset + read_length size t.offset t.len) (omega (arith, z))) ∙ first-none (unit_number b t.object size)

  -- the number of the read
  single-number : (size : ℕ) → (single size).number ≡ sized_number b t size
  unfolding gives_sized
  single-number size =
      let n : ℕ = read_length size t.offset (length piece) in
      let g : Gives = gives_checked (t.offset % unit_bytes) n piece (units size n) in
      test-cases _ (eqb n 0)
      (λ e. ap (λ (x : Gives). x.number) (if-true (eqb n 0) (gives 0 0 piece) g e) ∙ sym (none_number size (sym (same_length size) ∙ eqb-true n 0 e)))
      (λ e. ap (λ (x : Gives). x.number) (if-false (eqb n 0) (gives 0 0 piece) g e) ∙ checked-number (t.offset % unit_bytes) n piece (units size n) ∙ units_number size n (same_length size) (eqb-false n 0 e))

  -- its piece, where it is not refused
  single-out : (size : ℕ) → sized_number b t size ≡ 0 → Readable b.image b.extents b.groups (decode_head b.head).extents (decode_head b.head).groups
      → piece_of b.image b.extents (decode_head b.head).extents t.object t.offset size piece ≡ (single size).out
  unfolding gives_sized piece_of unit_bytes_of
  single-out size z d =
      let n : ℕ = read_length size t.offset (length piece) in
      let k : ℕ = begun (t.offset + n) unit_bytes - t.offset / unit_bytes in
      let g : Gives = gives_checked (t.offset % unit_bytes) n piece (units size n) in
      let m : List (Option ℕ) = map (mapping (extents_in (decode_head b.head).extents b.extents) t.object) (range (t.offset / unit_bytes * unit_blocks) (k * unit_blocks)) in
      test-cases _ (eqb n 0)
      (λ e. nothing n (t.offset % unit_bytes) (blocks_bytes b.image m) (eqb-true n 0 e) ∙ sym (ap (λ (x : Gives). x.out) (if-true (eqb n 0) (gives 0 0 piece) g e)))
      (λ e. let y : n ≡ 0 → ⊥ = eqb-false n 0 e in
      let u : checked_number (units size n) ≡ 0 = units_number size n (same_length size) y ∙ z in
      let r = read-within size t.offset (length piece) n refl y in
      let h : gives 0 n (part (t.offset % unit_bytes) n (blocks_bytes b.image m) ++ drop n piece) ≡ g =
      range-done b.image (decode_head b.head).uuid b.extents b.groups (decode_head b.head).extents (decode_head b.head).groups t.object size t.offset n k refl piece 0 (sym (given size n u)) refl d r.2 (as_entries m) (part (t.offset % unit_bytes) n (blocks_bytes b.image m) ++ drop n piece) (entries-as m)
      (ap (λ (x : List (Option ℕ)). part (t.offset % unit_bytes) n (blocks_bytes b.image x) ++ drop n piece) (sym (entries-as m))) in
      ap (λ (x : Gives). x.out) h ∙ sym (ap (λ (x : Gives). x.out) (if-false (eqb n 0) (gives 0 0 piece) g e)))
    where
      nothing : (n a : ℕ) (xs : List ℕ) → n ≡ 0 → part a n xs ++ drop n piece ≡ piece
      nothing n a xs q = rw (q, part_none xs a) refl

      given : (size n : ℕ) → checked_number (units size n) ≡ 0 → checked_number (checked_range b.image (decode_head b.head).uuid b.extents b.groups (decode_head b.head).extents (decode_head b.head).groups t.object size (t.offset / unit_bytes) (begun (t.offset + n) unit_bytes - t.offset / unit_bytes)) ≡ 0
      given size n u = unfold checked_units in u

  module _ (cards : List ℕ) where
    -- a single read by the card that is found
    abbrev pub read : Gives
    read = gives_read b.image b.head cards b.extents b.groups t.object t.offset piece

    -- the number of a single read
    pub read_number_lem : read.number ≡ read_number b cards t
    unfolding gives_read read_number card_in
    read_number_lem = go (find (λ c. eqb c.object t.object) (decode_book decode_card card_bytes (decode_head b.head).cards cards))
      where
        go : (o : Option Card) → (maybe (gives (number_of no_card) 0 piece) (λ c. single c.size) o).number ≡ maybe (number_of no_card) (λ c. sized_number b t c.size) o
        go none = unfold maybe in refl
        go (some c) = unfold maybe in single-number c.size

    -- its piece
    pub read_out : (size : ℕ) → SizeIs b.head cards t size → read_number b cards t ≡ 0
        → Readable b.image b.extents b.groups (decode_head b.head).extents (decode_head b.head).groups
        → piece_of b.image b.extents (decode_head b.head).extents t.object t.offset size piece ≡ read.out
    unfolding gives_read
    read_out size s z d =
        single-out size (sym (number-sized b cards t size s) ∙ z) d
        ∙ ap (λ (x : Gives). x.out) (ap single s.size ∙ sym (maybe-some (gives (number_of no_card) 0 piece) (λ c. single c.size) (find (λ c. eqb c.object t.object) (decode_book decode_card card_bytes (decode_head b.head).cards cards)) s.card (unfold card_in in s.found)))
