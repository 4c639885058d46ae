-- Refusal 2, word by word, computed by the checker: a small store, broken in one way, and beside them what passes.
-- Assumes nothing.
use mathlib.Core.Path.{◌≡◌, refl}
use mathlib.Core.List.{[], ◌∷◌}
use mathlib.Core.Bool.{Bool, true, false}
use Prim.Native.Nat.{ℕ}
use lib.ListN.{set}
use Rattle.rules.specs.Time.{Time}
use Rattle.rules.specs.Card.{Card}
use Rattle.rules.specs.Extent.{Extent}
use Rattle.rules.specs.Group.{empty_group}
use Rattle.rules.specs.Store.{Store, lent}
use Rattle.rules.specs.Integrity.{books_broken, maps_broken}
use Rattle.rules.specs.Call.Call.{look}
use Rattle.rules.specs.Call.Look.{fill}
use Rattle.worked.proofs.Stores.{small, zeroth, answer, extent, card, time, mapped, card_byte, extent_byte, group_byte, with_cards, with_files, with_groups, computed}

-- a store's fill; whether a rule of the books is broken; whether one of the maps is
abbrev pub Told : Type 0
Told = (ℕ × ℕ) × Bool × Bool

-- what is told of a store
pub told : Store → Told
told s = (answer (look fill) s, books_broken s, maps_broken s)

-- no rule is broken, and so many of a thousand usable blocks are used
pub sound : ℕ → Told
sound n = ((0, n), false, false)

-- refused: a rule of the books, one of the maps, or one of each
pub books : Told
books = ((2, 0), true, false)

pub maps : Told
maps = ((2, 0), false, true)

pub both : Told
both = ((2, 0), true, true)

-- file 7, made at another time
pub made_at : Time → Card
made_at created = record { object = 7; size = 8; allocated = 1; changed = time 12 13; created = created }

-- file 6, with no bytes
pub six : Card
six = record { object = 6; size = 0; allocated = 0; changed = time 1 1; created = time 1 1 }

-- file 8, of one byte
pub eight : Card
eight = record { object = 8; size = 1; allocated = 1; changed = time 1 1; created = time 1 1 }

-- its extent, at the device's block 1, and one at its second block
pub eighth : ℕ → Extent
eighth logical = record { object = 8; logical = logical; physical = 1; count = 1 }

-- every block used, none retired
pub full : Store → Store
full s = mapped 15 0 s

-- the store with a bit in the last byte of its used map, and of its retired map
pub last_bits : ℕ → ℕ → Store → Store
last_bits used retired s =
    lent s.image s.head s.cards s.extents s.groups (set s.used 7 used) (set s.retired 7 retired)

pub record Broken : Type 0 where
  -- "order": a card behind one that it stands before, and one twice; in order it passes
  pub ordered : told (with_cards (six ∷ card 8 1 12 13 ∷ []) (small 1 2)) ≡ sound 333
  pub order : told (with_cards (card 8 1 12 13 ∷ six ∷ []) (small 1 2)) ≡ books
  pub twice : told (with_cards (card 8 1 12 13 ∷ card 8 1 12 13 ∷ []) (small 1 2)) ≡ books
  -- an extent of file 8 before one of file 7
  pub extents-ordered : told (full (with_files (card 8 1 12 13 ∷ eight ∷ []) (extent 0 3 1 ∷ eighth 0 ∷ []) (small 2 1))) ≡ sound 1000
  pub extents-order : told (full (with_files (card 8 1 12 13 ∷ eight ∷ []) (eighth 0 ∷ extent 0 3 1 ∷ []) (small 2 1))) ≡ books
  -- a group of file 7 before one of file 6, group 1 before group 0, and group 0 twice
  pub groups-ordered : told (with_groups (empty_group 6 1 ∷ zeroth 1 ∷ []) (small 1 2)) ≡ sound 333
  pub groups-numbered : told (with_groups (zeroth 1 ∷ empty_group 7 1 ∷ []) (small 1 2)) ≡ sound 333
  pub groups-order : told (with_groups (zeroth 1 ∷ empty_group 6 1 ∷ []) (small 1 2)) ≡ books
  pub groups-number : told (with_groups (empty_group 7 1 ∷ zeroth 1 ∷ []) (small 1 2)) ≡ books
  pub groups-twice : told (with_groups (zeroth 1 ∷ zeroth 1 ∷ []) (small 1 2)) ≡ books
  -- "zeros after the last record": the first byte behind it and the book's last
  pub behind : told (card_byte 48 1 (small 1 2)) ≡ books
  pub behind-last : told (card_byte 95 1 (small 1 2)) ≡ books
  pub behind-extents : told (extent_byte 33 1 (small 2 1)) ≡ books
  pub behind-extents-last : told (extent_byte 65 1 (small 2 1)) ≡ books
  pub behind-groups : told (group_byte 1073 1 (small 1 2)) ≡ books
  pub behind-groups-last : told (group_byte 2145 1 (small 1 2)) ≡ books
  -- "fixed or spare bytes": the first and the last of the card's 36 spare bits, the extent's 3 and its zeros, the group's 4
  pub spare-first : told (card_byte 43 104 (small 1 2)) ≡ books
  pub spare-last : told (card_byte 47 1 (small 1 2)) ≡ books
  pub extent-tag : told (extent_byte 8 5 (small 1 2)) ≡ books
  pub extent-zero : told (extent_byte 29 1 (small 1 2)) ≡ books
  pub extent-zeros : told (extent_byte 32 1 (small 1 2)) ≡ books
  pub group_tag : told (group_byte 8 3 (small 1 2)) ≡ books
  -- the bit before the creation's seconds was spare before W-205: it is the first of them
  pub creation-first : told (card_byte 31 27 (small 1 2)) ≡ sound 333
  -- "nanoseconds 1,000,000,000 or more"
  pub last-nanosecond : told (with_cards (card 8 1 12 999999999 ∷ []) (small 1 2)) ≡ sound 333
  pub nanoseconds : told (with_cards (card 8 1 12 1000000000 ∷ []) (small 1 2)) ≡ books
  -- and the creation's
  pub creation-last-nanosecond : told (with_cards (made_at (time 5 999999999) ∷ []) (small 1 2)) ≡ sound 333
  pub creation-nanoseconds : told (with_cards (made_at (time 5 1000000000) ∷ []) (small 1 2)) ≡ books
  -- "an extent with count 0"
  pub empty : told (with_files (card 8 1 12 13 ∷ []) (extent 0 3 0 ∷ []) (small 1 2)) ≡ books
  -- "overlapping its neighbour in the file"; one of another file does not
  pub beside : told (full (with_files (card 8192 2 12 13 ∷ []) (extent 0 1 1 ∷ extent 1 3 1 ∷ []) (small 2 1))) ≡ sound 1000
  pub overlapping : told (full (with_files (card 8192 3 12 13 ∷ []) (extent 0 1 2 ∷ extent 1 3 1 ∷ []) (small 2 1))) ≡ books
  pub elsewhere : told (full (with_files (card 8192 2 12 13 ∷ eight ∷ []) (extent 0 2 2 ∷ eighth 0 ∷ []) (small 2 1))) ≡ sound 1000
  -- "past the device": what it maps there is not used either
  pub to-device : told (full (with_files (card 8 1 12 13 ∷ []) (extent 0 3 1 ∷ []) (small 1 2))) ≡ sound 1000
  pub past-device : told (full (with_files (card 8 1 12 13 ∷ []) (extent 0 4 1 ∷ []) (small 1 2))) ≡ both
  -- "or past the blocks of its file's size, or without a card"
  pub at_size : told (full (with_files (card 4097 1 12 13 ∷ []) (extent 1 3 1 ∷ []) (small 1 2))) ≡ sound 1000
  pub past-size : told (full (with_files (card 4096 1 12 13 ∷ []) (extent 1 3 1 ∷ []) (small 1 2))) ≡ books
  pub cardless : told (with_files [] (extent 0 3 1 ∷ []) (small 1 2)) ≡ books
  -- a card of another file, of enough size
  pub other-card : told (full (with_files (card 8 1 12 13 ∷ []) (eighth 0 ∷ []) (small 1 2))) ≡ books
  -- "a slot not present but not zero": the second slot's first byte, the last one's last
  pub slot : told (group_byte 53 1 (small 1 2)) ≡ books
  pub last-slot : told (group_byte 1072 1 (small 1 2)) ≡ books
  -- "a mapped block not used, or retired": block 3 is mapped
  pub mapped-unused : told (mapped 1 0 (small 1 2)) ≡ maps
  pub mapped-retired : told (mapped 9 8 (small 1 2)) ≡ maps
  -- "or reserved": block 0 is
  pub mapped-reserved : told (with_files (card 8 1 12 13 ∷ []) (extent 0 0 1 ∷ []) (small 1 2)) ≡ maps
  -- "a reserved block not used, or retired"
  pub reserved-unused : told (mapped 8 0 (small 1 2)) ≡ maps
  pub reserved-retired : told (mapped 9 1 (small 1 2)) ≡ maps
  -- "a retired block not used": block 1; used it passes
  pub retired-used : told (mapped 11 2 (small 1 2)) ≡ sound 666
  pub retired-unused : told (mapped 9 2 (small 1 2)) ≡ maps
  -- "a bit past the last block": the one after it, and the map's last; in each map alone
  pub used-past : told (mapped 25 0 (small 1 2)) ≡ maps
  pub used-last : told (last_bits 128 0 (small 1 2)) ≡ maps
  pub retired-past : told (mapped 9 16 (small 1 2)) ≡ maps
  pub retired-last : told (last_bits 0 128 (small 1 2)) ≡ maps

pub broken : Broken
unfolding computed told sound books maps both made_at six eight eighth full last_bits
broken = record {
  ordered = refl;
  order = refl;
  twice = refl;
  extents-ordered = refl;
  extents-order = refl;
  groups-ordered = refl;
  groups-numbered = refl;
  groups-order = refl;
  groups-number = refl;
  groups-twice = refl;
  behind = refl;
  behind-last = refl;
  behind-extents = refl;
  behind-extents-last = refl;
  behind-groups = refl;
  behind-groups-last = refl;
  spare-first = refl;
  spare-last = refl;
  extent-tag = refl;
  extent-zero = refl;
  extent-zeros = refl;
  group_tag = refl;
  creation-first = refl;
  last-nanosecond = refl;
  nanoseconds = refl;
  creation-last-nanosecond = refl;
  creation-nanoseconds = refl;
  empty = refl;
  beside = refl;
  overlapping = refl;
  elsewhere = refl;
  to-device = refl;
  past-device = refl;
  at_size = refl;
  past-size = refl;
  cardless = refl;
  other-card = refl;
  slot = refl;
  last-slot = refl;
  mapped-unused = refl;
  mapped-retired = refl;
  mapped-reserved = refl;
  reserved-unused = refl;
  reserved-retired = refl;
  retired-used = refl;
  retired-unused = refl;
  used-past = refl;
  used-last = refl;
  retired-past = refl;
  retired-last = refl;
}
