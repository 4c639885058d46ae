-- Refusal 1 over lengths and numbers alone: what its rules ask of buffers of so many bytes, and of a head.
-- Assumes nothing.
use Rattle.std.specs.Prelude.{length, Bool, ◌&&◌, ℕ, ◌/◌, ◌%◌, eqb, leb}
use Rattle.rules.specs.Sizes.{block_bytes, most_blocks, most_places}
use Rattle.rules.specs.Head.{Head}
use Rattle.rules.specs.Card.{card_bytes}
use Rattle.rules.specs.Extent.{extent_bytes}
use Rattle.rules.specs.Group.{group_bytes}
use Rattle.rules.specs.Map.{map_bytes}
use Rattle.rules.specs.Store.{Store}
use Rattle.intake_lengths.specs.declared.Lengths.{Lengths}
use Rattle.intake_lengths.specs.declared.Room.{Room}

-- an image of n bytes is 1 to 65,536 whole blocks
abbrev pub image_right : ℕ → Bool
image_right n = eqb (n % block_bytes) 0 && leb 1 (n / block_bytes) && leb (n / block_bytes) most_blocks

-- a book of n bytes is whole records, and has no more places than it may
abbrev pub book_right : ℕ → ℕ → Bool
book_right width n = eqb (n % width) 0 && leb (n / width) most_places

-- the three books
abbrev pub books_right : (cards extents groups : ℕ) → Bool
books_right cards extents groups = book_right card_bytes cards && book_right extent_bytes extents && book_right group_bytes groups

-- both maps fit an image of so many blocks
abbrev pub maps_fit : (blocks used retired : ℕ) → Bool
maps_fit blocks used retired = eqb used (map_bytes blocks) && eqb retired (map_bytes blocks)

-- the buffers but for the head
abbrev pub buffers_right : (image cards extents groups used retired : ℕ) → Bool
buffers_right image cards extents groups used retired =
    image_right image && maps_fit (image / block_bytes) used retired && books_right cards extents groups

-- a head of a store of so many blocks, with so many places in its books
abbrev pub head_right : (blocks cards extents groups : ℕ) → Head → Bool
head_right blocks cards extents groups h =
    (eqb h.blocks blocks && leb h.reserved h.blocks)
    && (leb h.cards cards && leb h.extents extents && leb h.groups groups)

-- the lengths of a store's buffers but for the head
abbrev pub lengths_of : Store → Lengths
lengths_of s = record {
  image = length s.image;
  cards = length s.cards;
  extents = length s.extents;
  groups = length s.groups;
  used = length s.used;
  retired = length s.retired;
}

-- what buffers of these lengths have room for
abbrev pub room_of : Lengths → Room
room_of l = record {
  blocks = l.image / block_bytes;
  cards = l.cards / card_bytes;
  extents = l.extents / extent_bytes;
  groups = l.groups / group_bytes;
}
