-- A volume and a change that the arguments of a plan describe, and what they must keep.
-- Assumes nothing.
use Rattle.std.specs.Prelude.{◌≡◌, true, List, ℕ, ◌*◌, ◌^◌, ◌≤◌, ◌<◌, length, get_or}
use Rattle.rules.specs.Sizes.{block_bytes, unit_blocks, unit_bytes, most_blocks}
use Rattle.rules.specs.Bytes.{part, bit_set}
use Rattle.rules.specs.Store.{Volume}
use Rattle.rules.specs.Units.{Change, touches}
use Rattle.rules.specs.Inspect.{unit_mapping, checksum_of}
use Rattle.rules.proofs.PassLaws.{Lawful}
use Rattle.mapping.specs.Entries.{entry_of, entries}
use Rattle.kept.specs.Change.{IsChange}
use Rattle.kept.specs.declared.Change as numbers

-- the change has these numbers, and is one of this object's file on a volume with this image, this uuid and so many blocks
pub record Described (image uuid : List ℕ) (total object : ℕ) (n : numbers.Change) (v : Volume) (c : Change) : Type 0 where
  pub lawful : Lawful v
  pub image_is : v.image ≡ image
  pub uuid_is : v.uuid ≡ uuid
  pub blocks_is : v.blocks ≡ total
  pub object_is : c.object ≡ object
  pub change : IsChange c n.old_size n.new_size n.offset n.len

-- what was looked up of a unit: its slot and its old blocks
pub record LookedUp (v : Volume) (c : Change) (unit slot : ℕ) (old : List ℕ) : Type 0 where
  pub mapped : entries old ≡ unit_mapping v c.object unit unit_blocks
  pub checksum : entry_of slot ≡ checksum_of v c.object unit

-- all of a plan's arguments: slots has an entry for each unit, old has sixteen, and map says what is used. Each unit but the first is touched
pub record PlanFor (image uuid map : List ℕ) (total object : ℕ) (n : numbers.Change) (units slots old : List ℕ) (v : Volume) (c : Change) : Type 0 where
  pub described : Described image uuid total object n v c
  pub used : (b : ℕ) → b < total → bit_set map b ≡ v.used b
  pub each : (i : ℕ) → i < length units → LookedUp v c (get_or units i 0) (get_or slots i 0) (part (unit_blocks * i) unit_blocks old)
  pub touched : (i : ℕ) → 0 < i → i < length units → touches c (get_or units i 0) ≡ true

-- entries of blocks, each one of so many blocks
pub record BlocksOf (total : ℕ) (old : List ℕ) : Type 0 where
  pub each : (i : ℕ) → get_or old i 0 ≤ total

-- a device of so many blocks, whose bytes stand in the image and whose bits in the map
pub record DeviceFits (image map : List ℕ) (total : ℕ) : Type 0 where
  pub some : 0 < total
  pub most : total ≤ most_blocks
  pub bytes : total * block_bytes ≤ length image
  pub bits : total ≤ 8 * length map

-- the arrays of a plan: a slot for each unit, and sixteen entries in each of the others; each unit begins in the file as it will be
pub record ArraysFit (new-size total : ℕ) (units slots old kept blocks : List ℕ) : Type 0 where
  pub slot_each : length slots ≡ length units
  pub old_each : length old ≡ unit_blocks * length units
  pub kept_each : length kept ≡ unit_blocks * length units
  pub blocks_each : length blocks ≡ unit_blocks * length units
  pub begins : (i : ℕ) → get_or units i 0 * unit_bytes ≤ new-size
  pub slot_most : (i : ℕ) → get_or slots i 0 ≤ 2 ^ 32
  pub old_most : BlocksOf total old
