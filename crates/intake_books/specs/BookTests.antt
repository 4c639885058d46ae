-- Refusal 2 on the books, a book at a time, in the words of rules; and as tests of one record after the other, over any width.
-- Assumes nothing.
use Rattle.std.specs.Prelude.{◌≡◌, List, Bool, true, ◌&&◌, ℕ, ◌+◌, ◌-◌, ◌*◌, ◌≤◌, ◌<◌, eqb, ltb, leb}
use Rattle.rules.specs.Lists.{pick◌then◌else◌, all, neighbours, ascending, begun}
use Rattle.rules.specs.Sizes.{block_bytes}
use Rattle.rules.specs.Bytes.{part, pieces}
use Rattle.rules.specs.Card.{Card, card_bytes, decode_card, card_spare_zero, card_before}
use Rattle.rules.specs.Extent.{Extent, extent_bytes, decode_extent, extent_fixed, extent_before, extent_end}
use Rattle.rules.specs.Group.{group_bytes, decode_group, group_fixed, absent_zero, group_before}
use Rattle.rules.specs.Book.{LentBooks, decode_book, zero_behind}
use Rattle.rules.specs.Integrity.{card_times_right, apart, in_file}
use Rattle.book.specs.Places.{record_at}

-- the books in these buffers, with so many records
abbrev pub lent_as : (cards : List ℕ) (card_count : ℕ) (extents : List ℕ) (extent_count : ℕ) (groups : List ℕ) (group_count : ℕ) → LentBooks
lent_as cards card_count extents extent_count groups group_count = record {
  cards = cards;
  card_count = card_count;
  extents = extents;
  extent_count = extent_count;
  groups = groups;
  group_count = group_count;
}

-- ---- one record

-- the bytes of a card: the spare bit is zero, and the time is one
abbrev pub card_right : List ℕ → Bool
card_right p = card_spare_zero p && card_times_right (decode_card p)

-- the bytes of an extent: its fixed bytes, and it is not empty and lies on a device of so many blocks
abbrev pub extent_right : ℕ → List ℕ → Bool
extent_right blocks p =
    extent_fixed p
    && (ltb 0 (decode_extent p).count && leb ((decode_extent p).physical + (decode_extent p).count) blocks)

-- the bytes of a group: its fixed byte, and no slot that is not present but not zero
abbrev pub group_right : List ℕ → Bool
group_right p = group_fixed p && absent_zero p

-- the record at a place passes a test of its bytes, and one with the record before it
unfoldable pub record_kept : {A : Type 0} → (List ℕ → Bool) → (A → A → Bool) → (List ℕ → A) → ℕ → List ℕ → ℕ → Bool
record_kept one pair decode w s i =
    one (part (w * i) w s) && (pick eqb i 0 then true else pair (record_at decode w s (i - 1)) (record_at decode w s i))

-- ---- one book

-- n cards, one by one and with their neighbours
unfoldable pub cards_kept : ℕ → List ℕ → Bool
cards_kept n s =
    all card_spare_zero (pieces card_bytes n s)
    && ascending card_before (decode_book decode_card card_bytes n s)
    && all card_times_right (decode_book decode_card card_bytes n s)

-- n extents, on a device of so many blocks
unfoldable pub extents_kept : ℕ → ℕ → List ℕ → Bool
extents_kept blocks n s =
    all extent_fixed (pieces extent_bytes n s)
    && ascending extent_before (decode_book decode_extent extent_bytes n s)
    && all (λ e. ltb 0 e.count) (decode_book decode_extent extent_bytes n s)
    && neighbours apart (decode_book decode_extent extent_bytes n s)
    && all (λ e. leb (e.physical + e.count) blocks) (decode_book decode_extent extent_bytes n s)

-- n groups
unfoldable pub groups_kept : ℕ → List ℕ → Bool
groups_kept n s =
    all group_fixed (pieces group_bytes n s)
    && ascending group_before (decode_book decode_group group_bytes n s)
    && all absent_zero (pieces group_bytes n s)

-- a book of n cards
abbrev pub cards_right : ℕ → List ℕ → Bool
cards_right n s = zero_behind card_bytes n s && cards_kept n s

-- a book of n extents
abbrev pub extents_right : ℕ → ℕ → List ℕ → Bool
extents_right blocks n s = zero_behind extent_bytes n s && extents_kept blocks n s

-- a book of n groups
abbrev pub groups_right : ℕ → List ℕ → Bool
groups_right n s = zero_behind group_bytes n s && groups_kept n s

-- ---- extents in their files

-- each of m extents lies within the blocks of its file's size, and its file is one of n cards
unfoldable pub files_right : (n : ℕ) (cards : List ℕ) (m : ℕ) (extents : List ℕ) → Bool
files_right n cards m extents =
    all (in_file (decode_book decode_card card_bytes n cards)) (decode_book decode_extent extent_bytes m extents)

-- an extent lies in the file of a card
abbrev pub in_file_of : Extent → Card → Bool
in_file_of e c = eqb c.object e.object && leb (extent_end e) (begun c.size block_bytes)

-- it lies in the file of the card at a place, if one of n cards stands there
abbrev pub in_file_at : Extent → ℕ → List ℕ → ℕ → Bool
in_file_at e n s i = ltb i n && in_file_of e (record_at decode_card card_bytes s i)

-- from the place a on, r is the first of n cards whose object is not below this one
pub record CardFrom (object n a : ℕ) (s : List ℕ) (r : ℕ) : Type 0 where
  pub least : a ≤ r
  pub most : r ≤ n
  pub below : (k : ℕ) → a ≤ k → k < r → (record_at decode_card card_bytes s k).object < object
  pub there : r < n → object ≤ (record_at decode_card card_bytes s r).object

-- from the place a up to r, m at most, extents are of this object and end at the block limit or before
pub record SameFile (object limit m a : ℕ) (s : List ℕ) (r : ℕ) : Type 0 where
  pub least : a ≤ r
  pub most : r ≤ m
  pub within : (k : ℕ) → a ≤ k → k < r
      → ((record_at decode_extent extent_bytes s k).object ≡ object) × (leb (extent_end (record_at decode_extent extent_bytes s k)) limit ≡ true)
