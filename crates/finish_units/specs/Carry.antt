-- A plan's arrays, and the volume and the change that they tell of.
-- Assumes nothing.
use Rattle.std.specs.Prelude.{◌≡◌, true, false, List, map, ℕ, ◌+◌, ◌*◌, ◌≤◌, ◌<◌, length, take, get_or}
use Rattle.rules.specs.Lists.{begun}
use Rattle.rules.specs.Sizes.{block_bytes, unit_blocks, unit_bytes}
use Rattle.rules.specs.Bytes.{part}
use Rattle.rules.specs.Store.{Volume}
use Rattle.rules.specs.Units.{Change, valid_length, reads_old}
use Rattle.rules.specs.Inspect.{unit_mapping, checksum_of, inspect_unit}
use Rattle.rules.specs.Kept.{blocks_after}
use Rattle.rules.specs.Answers.{inspected_number}
use Rattle.rules.specs.Rewrite.{Rewritten}
use Rattle.rules.specs.Finish.{new_blocks, finished_image}
use Rattle.rules.proofs.ListLaws.{Each}
use Rattle.rules.proofs.PassLaws.{Lawful}
use Rattle.mapping.specs.Entries.{entry_of, entries, Inside}
use Rattle.kept.specs.Change.{IsChange}
use Rattle.rewrite.specs.Plan.{kept_by, laid_units}
use Rattle.finish_units.specs.Units.{UnitWritten}

-- the most units of a change: those that a write of the most bytes touches, and the old tail unit before them
abbrev pub most_units : ℕ
most_units = 18

-- the arrays fit: a slot for each unit and sixteen entries in each of the others; each unit begins in the file as it will be, and its blocks lie in the image
pub record UnitsFit (image : List ℕ) (after : ℕ) (units slots old kept blocks : List ℕ) : Type 0 where
  pub few : length units ≤ most_units
  pub slot_each : length slots ≡ length units
  pub old_each : length old ≡ unit_blocks * length units
  pub kept_each : length kept ≡ unit_blocks * length units
  pub blocks_each : length blocks ≡ unit_blocks * length units
  pub begins : (j : ℕ) → j < length units → get_or units j 0 * unit_bytes < after
  pub old_inside : Inside image old
  pub blocks_inside : (j i : ℕ) → j < length units → i < begun (valid_length after (get_or units j 0)) block_bytes → (get_or blocks (unit_blocks * j + i) 0 + 1) * block_bytes ≤ length image

-- they tell of this change on this volume: what was looked up of each unit, what it keeps, that the units that were read passed, and that new blocks were free
pub record CarriesFor (limit : ℕ) (v : Volume) (c : Change) (image uuid : List ℕ) (object before after start : ℕ) (written units slots old kept blocks : List ℕ) : Type 0 where
  pub lawful : Lawful v
  pub image_is : v.image ≡ image
  pub uuid_is : v.uuid ≡ uuid
  pub object_is : c.object ≡ object
  pub bytes_is : c.bytes ≡ written
  pub change : IsChange c before after start (length written)
  pub mapped : (j : ℕ) → j < length units → entries (part (unit_blocks * j) unit_blocks old) ≡ unit_mapping v c.object (get_or units j 0) unit_blocks
  pub slot : (j : ℕ) → j < length units → entry_of (get_or slots j 0) ≡ checksum_of v c.object (get_or units j 0)
  pub keeps : (j : ℕ) → j < length units → entries (part (unit_blocks * j) (blocks_after c (get_or units j 0)) kept) ≡ kept_by limit v c (get_or units j 0)
  pub passed : (j : ℕ) → j < length units → reads_old c (get_or units j 0) ≡ true → inspected_number (inspect_unit v c.object c.old_size (get_or units j 0)) ≡ 0
  pub free : Each (λ b. v.used b ≡ false) (new_blocks (laid_units limit v c units blocks))

-- the unit at place j of the arrays was carried out on an image
abbrev pub WrittenAt : Change → (after : ℕ) (uuid : List ℕ) (object : ℕ) (units slots old kept blocks : List ℕ) (j : ℕ) (image : List ℕ) (r : ℕ) (left : List ℕ) → Type 0
WrittenAt c after uuid object units slots old kept blocks j image r left =
    UnitWritten c (get_or units j 0) (get_or slots j 0) uuid object (part (unit_blocks * j) unit_blocks old)
    (part (unit_blocks * j) (begun (valid_length after (get_or units j 0)) block_bytes) kept) (part (unit_blocks * j) (begun (valid_length after (get_or units j 0)) block_bytes) blocks)
    image r left

-- n rewritten units were carried out: the image is what the rules make of it, and the checksums stand in order at the head of an array
pub record CarriedOut (rs : List Rewritten) (n : ℕ) (image left crcs : List ℕ) : Type 0 where
  pub image_is : left ≡ finished_image rs image
  pub sums : take n crcs ≡ map (λ r. r.checksum) rs
