-- Blocks and checksums in arrays, each there or not, as the code carries them: 0 is none, and any other entry is one more than what it stands for.
-- Assumes nothing.
use Rattle.std.specs.Prelude.{◌≡◌, true, List, map, ℕ, zero, suc, ◌+◌, ◌*◌, ◌/◌, ◌%◌, ◌≤◌, ltb, leb, length, get_or}
use Rattle.std.proofs.Math.Option.{Option, none, some}
use Rattle.rules.specs.Lists.{maybe, all, find, ascending, neighbours}
use Rattle.rules.specs.Sizes.{block_bytes, group_units, most_blocks, most_places}
use Rattle.rules.specs.Extent.{Extent, extent_bytes, decode_extent, extent_before}
use Rattle.rules.specs.Group.{Group, checksum_slot}
use Rattle.rules.specs.Book.{decode_book}
use Rattle.rules.specs.Integrity.{apart}
use Rattle.rules.specs.Finish.{is_group}

-- what an entry stands for
unfoldable pub entry_of : ℕ → Option ℕ
entry_of zero = none
entry_of (suc p) = some p

-- what an array of them does
unfoldable pub entries : List ℕ → List (Option ℕ)
entries xs = map entry_of xs

-- each block that the entries name lies in the image
pub record Inside (image blocks : List ℕ) : Type 0 where
  pub each : (i : ℕ) → get_or blocks i 0 * block_bytes ≤ length image

-- the extents of a book of n
abbrev pub extents_in : ℕ → List ℕ → List Extent
extents_in n book = decode_book decode_extent extent_bytes n book

-- a book of n extents that keeps its rules, on a device of so many blocks
pub record ExtentsRight (blocks n : ℕ) (book : List ℕ) : Type 0 where
  pub places : extent_bytes * n ≤ length book
  pub few : n ≤ most_places
  pub order : ascending extent_before (extents_in n book) ≡ true
  pub filled : all (λ e. ltb 0 e.count) (extents_in n book) ≡ true
  pub apart : neighbours apart (extents_in n book) ≡ true
  pub device : all (λ e. leb (e.physical + e.count) blocks) (extents_in n book) ≡ true
  pub most : blocks ≤ most_blocks

-- the checksum that groups have for a unit of an object's file
unfoldable pub slot_of : List Group → ℕ → ℕ → Option ℕ
slot_of gs object unit = maybe none (λ g. checksum_slot g (unit % group_units)) (find (is_group object (unit / group_units)) gs)
