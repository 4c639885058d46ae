-- Document 01: "Cards ascend by object, extents and groups by key, each book packed, zeros after its last record."
-- A book (document 01's word) is a buffer of records of one width; each width of bytes in it is a place.
-- Assumes nothing.
use mathlib.Core.List.{List, map, flat_map}
use Rattle.std.specs.Prelude.{Bool, ℕ, ◌*◌, ◌/◌, length, drop}
use Rattle.rules.specs.Bytes.{pieces, padded, all_zero}
use Rattle.rules.specs.Card.{Card, card_bytes, decode_card}
use Rattle.rules.specs.Extent.{Extent, extent_bytes, decode_extent}
use Rattle.rules.specs.Group.{Group, group_bytes, decode_group}

-- the three books, as lists of records
pub record Books : Type 0 where
  pub cards : List Card
  pub extents : List Extent
  pub groups : List Group

-- the three books as they are lent: a buffer each, and how many records it holds
pub record LentBooks : Type 0 where
  pub cards : List ℕ
  pub card_count : ℕ
  pub extents : List ℕ
  pub extent_count : ℕ
  pub groups : List ℕ
  pub group_count : ℕ

-- the first n records of a book
unfoldable pub decode_book : {A : Type 0} → (List ℕ → A) → ℕ → ℕ → List ℕ → List A
decode_book decode width n bytes = map decode (pieces width n bytes)

-- the records that the lent books hold
unfoldable pub decode_books : LentBooks → Books
decode_books l = record {
  cards = decode_book decode_card card_bytes l.card_count l.cards;
  extents = decode_book decode_extent extent_bytes l.extent_count l.extents;
  groups = decode_book decode_group group_bytes l.group_count l.groups;
}

-- the places of a book: its records of this width, full or empty
unfoldable pub book_places : ℕ → List ℕ → ℕ
book_places width book = length book / width

-- a book of so many bytes: the records packed, zeros after the last
unfoldable pub encode_book : {A : Type 0} → (A → List ℕ) → ℕ → List A → List ℕ
encode_book encode size rs = padded size (flat_map encode rs)

-- zeros after the last of n records
unfoldable pub zero_behind : ℕ → ℕ → List ℕ → Bool
zero_behind width n bytes = all_zero (drop (width * n) bytes)
