-- Refusals 9 to 12 of a unit whose slot and blocks have been looked up: the rules' `inspect_unit` with the books put aside.
-- Assumes nothing.
use mathlib.Core.List.{List, [], ◌∷◌, flat_map}
use Rattle.std.specs.Prelude.{not, ℕ, suc, eqb, take, drop}
use Rattle.std.proofs.Math.Option.{Option}
use Rattle.rules.specs.Lists.{pick◌then◌else◌, maybe, given, all, any, begun}
use Rattle.rules.specs.Sizes.{block_bytes, unit_blocks}
use Rattle.rules.specs.Bytes.{all_zero}
use Rattle.rules.specs.Checksum.{unit_checksum}
use Rattle.rules.specs.Store.{block_at}
use Rattle.rules.specs.Refusal.Refusal.{no_checksum, not_backed, nonzero_past_end, checksum_differs}
use Rattle.rules.specs.Units.{valid_length}
use Rattle.rules.specs.Inspect.{Inspected}
use Rattle.rules.specs.Inspect.Inspected.{damaged, hole, checked}
use Rattle.rules.specs.Read.{Checked, then_units}
use Rattle.rules.specs.Read.Checked.{bytes}

-- the bytes of the blocks that are there
unfoldable pub bytes_at : List ℕ → List (Option ℕ) → List ℕ
bytes_at image mapped = flat_map (maybe [] (block_at image)) mapped

-- a unit of object's file of this size, on this image; mapped says where its blocks are, valid or not
module _ (image uuid : List ℕ) (object size unit : ℕ) (mapped : List (Option ℕ)) where
  -- where those are that hold its valid bytes
  unfoldable pub valid_blocks : List (Option ℕ)
  valid_blocks = take (begun (valid_length size unit) block_bytes) mapped

  -- its valid bytes
  unfoldable pub valid_of : List ℕ
  valid_of = take (valid_length size unit) (bytes_at image valid_blocks)

  -- refusals 10 to 12, for a unit with a slot
  unfoldable pub slot_mapped : ℕ → Inspected
  slot_mapped crc =
      pick not (all given valid_blocks) then damaged not_backed
      else pick not (all_zero (drop (valid_length size unit) (bytes_at image valid_blocks))) then damaged nonzero_past_end
      else pick not (eqb crc (unit_checksum uuid object unit valid_of)) then damaged checksum_differs
      else checked valid_of

  -- the unit, read: one with no slot is a hole, after refusal 9
  unfoldable pub inspect_mapped : Option ℕ → Inspected
  inspect_mapped slot = maybe (pick any given mapped then damaged no_checksum else hole) slot_mapped slot

-- units one after another from this one on, each with its slot and its sixteen blocks
unfoldable pub check_mapped : (image uuid : List ℕ) (object size unit : ℕ) → List (Option ℕ) → List (Option ℕ) → Checked
check_mapped image uuid object size unit [] mapped = bytes []
check_mapped image uuid object size unit (slot ∷ slots) mapped =
    then_units (valid_length size unit) (inspect_mapped image uuid object size unit (take unit_blocks mapped) slot)
    (check_mapped image uuid object size (suc unit) slots (drop unit_blocks mapped))
