-- The bytes that a rewritten unit gets, told by what was looked up of it, and what writing it does.
-- Assumes nothing.
use Rattle.std.specs.Prelude.{◌≡◌, not, ◌&&◌, List, ℕ, eqb, take}
use Rattle.rules.specs.Lists.{pick◌then◌else◌}
use Rattle.rules.specs.Checksum.{unit_checksum}
use Rattle.rules.specs.Units.{Change, reads_old, valid_length, assembled}
use Rattle.rules.specs.Finish.{write_new}
use Rattle.mapping.specs.Entries.{entries}
use Rattle.image.specs.Blocks.{blocks_bytes}

-- how many old bytes it is put together from: where they were read and the unit has a checksum, all valid ones
unfoldable pub held_count : Change → (unit slot : ℕ) → ℕ
held_count c unit slot = pick not (eqb slot 0) && reads_old c unit then valid_length c.old_size unit else 0

-- its new bytes, with the old ones taken out of an image
unfoldable pub new_bytes : Change → (image : List ℕ) (unit slot : ℕ) (old : List ℕ) → List ℕ
new_bytes c image unit slot old = assembled c unit (take (held_count c unit slot) (blocks_bytes image (entries old)))

-- a unit of a change was carried out on an image: r is the checksum of its new bytes, and these stand in its new blocks
pub record UnitWritten (c : Change) (unit slot : ℕ) (uuid : List ℕ) (object : ℕ) (old kept blocks image : List ℕ) (r : ℕ) (left : List ℕ) : Type 0 where
  pub checksum : r ≡ unit_checksum uuid object unit (new_bytes c image unit slot old)
  pub written : left ≡ write_new (new_bytes c image unit slot old) 0 (entries kept) blocks image
