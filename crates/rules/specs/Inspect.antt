-- Refusals 9 to 12, and what a unit that is read holds: `inspect_unit`.
-- Assumes nothing.
use mathlib.Core.List.{List, [], map, flat_map, get_last?}
use Rattle.std.specs.Prelude.{Bool, false, not, ◌&&◌, ℕ, ◌+◌, ◌-◌, ◌*◌, ◌/◌, ◌%◌, eqb, ltb, leb, take, drop}
use Rattle.std.proofs.Math.Option.{Option, none}
use Rattle.rules.specs.Lists.{pick◌then◌else◌, maybe, given, range, all, filter, find, begun}
use Rattle.rules.specs.Sizes.{block_bytes, unit_blocks, group_units}
use Rattle.rules.specs.Bytes.{all_zero}
use Rattle.rules.specs.Extent.{Extent, extent_end, mapping}
use Rattle.rules.specs.Group.{checksum_slot}
use Rattle.rules.specs.Checksum.{unit_checksum}
use Rattle.rules.specs.Store.{Volume, block_at}
use Rattle.rules.specs.Refusal.{Refusal}
use Rattle.rules.specs.Refusal.Refusal.{no_checksum, not_backed, nonzero_past_end, checksum_differs}
use Rattle.rules.specs.Units.{valid_length}

-- "the object's last extent starting at or before" a block (a floor, as of ordered maps)
unfoldable pub floor_extent : List Extent → ℕ → ℕ → Option Extent
floor_extent es object block = get_last? (filter (λ e. eqb e.object object && leb e.logical block) es)

-- what reading a unit finds: a refusal, a hole, or the unit's checked valid bytes
pub data Inspected : Type 0 where
  damaged : Refusal → Inspected
  hole : Inspected
  checked : List ℕ → Inspected

-- a file of a volume
module _ (v : Volume) (object : ℕ) where
  -- the checksum in the slot of a unit
  unfoldable pub checksum_of : ℕ → Option ℕ
  checksum_of unit =
      maybe none (λ g. checksum_slot g (unit % group_units))
      (find (λ g. eqb g.object object && eqb g.number (unit / group_units)) v.books.groups)

  -- 9: the floor of the unit's last block "ends past its first"
  unfoldable pub backed_under : ℕ → Bool
  backed_under unit =
      maybe false (λ e. ltb (unit * unit_blocks) (extent_end e))
      (floor_extent v.books.extents object (unit * unit_blocks + (unit_blocks - 1)))

  -- where the first n blocks of a unit are on the device, each mapped or not
  unfoldable pub unit_mapping : ℕ → ℕ → List (Option ℕ)
  unit_mapping unit n = map (mapping v.books.extents object) (range (unit * unit_blocks) n)

  -- a unit of it, where the file has this size
  module _ (size unit : ℕ) where
    -- the blocks that hold the unit's valid bytes
    unfoldable pub valid_mapping : List (Option ℕ)
    valid_mapping = unit_mapping unit (begun (valid_length size unit) block_bytes)

    -- the bytes of the mapped ones
    unfoldable pub backed_bytes : List ℕ
    backed_bytes = flat_map (maybe [] (block_at v.image)) valid_mapping

    -- the unit's valid bytes
    unfoldable pub valid_bytes : List ℕ
    valid_bytes = take (valid_length size unit) backed_bytes

    -- not 10: "fully backed up to its valid length"
    unfoldable pub fully_backed : Bool
    fully_backed = all given valid_mapping

    -- not 11: each "backed byte after the valid length in the last block" is zero
    unfoldable pub zero_past_end : Bool
    zero_past_end = all_zero (drop (valid_length size unit) backed_bytes)

    -- not 12: the checksum is that of the valid bytes
    unfoldable pub checksum_right : ℕ → Bool
    checksum_right crc = eqb crc (unit_checksum v.uuid object unit valid_bytes)

    -- refusals 10 to 12 in their order, for a unit with a slot
    unfoldable pub inspect_slot : ℕ → Inspected
    inspect_slot crc =
        pick not fully_backed then damaged not_backed
        else pick not zero_past_end then damaged nonzero_past_end
        else pick not (checksum_right crc) then damaged checksum_differs
        else checked valid_bytes

    -- `inspect_unit`: the unit, read. One with no slot is a hole, after refusal 9
    unfoldable pub inspect_unit : Inspected
    inspect_unit = maybe (pick backed_under unit then damaged no_checksum else hole) inspect_slot (checksum_of unit)
