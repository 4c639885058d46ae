-- A range of a file's units, looked up in lent books and checked.
-- Assumes nothing.
use Rattle.std.specs.Prelude.{List, map, ℕ, ◌*◌, ◌/◌, ◌≤◌, length}
use Rattle.rules.specs.Lists.{range}
use Rattle.rules.specs.Sizes.{block_bytes, unit_blocks}
use Rattle.rules.specs.Extent.{mapping}
use Rattle.rules.specs.Group.{group_bytes, decode_group}
use Rattle.rules.specs.Book.{decode_book}
use Rattle.rules.specs.Read.{Checked}
use Rattle.mapping.specs.Entries.{extents_in, ExtentsRight, slot_of}
use Rattle.inspect.specs.Mapped.{check_mapped}

-- books of e extents and g groups in which a file of the image can be looked up
pub record Readable (image extents groups : List ℕ) (e g : ℕ) : Type 0 where
  pub right : ExtentsRight (length image / block_bytes) e extents
  pub places : group_bytes * g ≤ length groups

-- what such books have for k units of object's file from first on, checked
unfoldable pub checked_range : (image uuid extents groups : List ℕ) (e g object size first k : ℕ) → Checked
checked_range image uuid extents groups e g object size first k =
    check_mapped image uuid object size first (map (slot_of (decode_book decode_group group_bytes g groups) object) (range first k))
    (map (mapping (extents_in e extents) object) (range (first * unit_blocks) (k * unit_blocks)))
