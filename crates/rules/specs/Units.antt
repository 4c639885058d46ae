-- Document 01, "Rules of a call": a change to a file, and the units that it rewrites.
-- Assumes nothing.
use Rattle.std.specs.Prelude.{List, [], ◌∷◌, ◌++◌, Bool, not, ◌&&◌, ℕ, ◌+◌, ◌-◌, ◌*◌, ◌/◌, ◌%◌, min, max, eqb, ltb, leb, length, take}
use Rattle.rules.specs.Lists.{pick◌then◌else◌, range, filter, member, begun}
use Rattle.rules.specs.Sizes.{unit_bytes, most_transfer}
use Rattle.rules.specs.Bytes.{part, patch, padded}

-- a change to object's file of oldSize bytes: it ends at newSize then, and the bytes stand from offset on; a grow writes none
pub record Change : Type 0 where
  pub object : ℕ
  pub old_size : ℕ
  pub new_size : ℕ
  pub offset : ℕ
  pub bytes : List ℕ

-- where the written bytes end
unfoldable pub change_end : Change → ℕ
change_end c = c.offset + length c.bytes

-- "at most 1,048,576 bytes are taken"
unfoldable pub clipped : List ℕ → List ℕ
clipped bytes = take most_transfer bytes

-- what a write of some bytes does to a file of this size
unfoldable pub write_change : ℕ → ℕ → ℕ → List ℕ → Change
write_change object size offset bytes = record {
  object = object;
  old_size = size;
  new_size = max size (offset + length (clipped bytes));
  offset = offset;
  bytes = clipped bytes;
}

-- what a grow does
unfoldable pub grow_change : ℕ → ℕ → ℕ → Change
grow_change object size new_size = record { object = object; old_size = size; new_size = new_size; offset = 0; bytes = [] }

-- the units in which the file's bytes lie from one place up to another, the latter not included; none where there is no byte between
unfoldable pub units_of : ℕ → ℕ → List ℕ
units_of from to = pick ltb from to then range (from / unit_bytes) (begun to unit_bytes - from / unit_bytes) else []

-- the units in which written bytes lie
unfoldable pub touched_units : Change → List ℕ
touched_units c = units_of c.offset (change_end c)

-- the old tail unit, "if partial"
unfoldable pub partial_tail : ℕ → List ℕ
partial_tail size = pick eqb (size % unit_bytes) 0 then [] else size / unit_bytes ∷ []

-- "Units: those touched, and before them the old tail unit if the file grows, its size is not a multiple of 65,536 and that unit is not touched."
unfoldable pub write_units : Change → List ℕ
write_units c =
    (pick ltb c.old_size c.new_size then filter (λ u. not (member u (touched_units c))) (partial_tail c.old_size) else [])
    ++ touched_units c

-- "Grow: [..] only the old tail unit, if partial, is rewritten."
unfoldable pub grow_units : Change → List ℕ
grow_units c = partial_tail c.old_size

-- the valid length of a unit in a file of this size: none where the file ends before the unit
unfoldable pub valid_length : ℕ → ℕ → ℕ
valid_length size unit = min (size - unit * unit_bytes) unit_bytes

-- a written byte falls between these places of the file, the second not included
unfoldable pub written_in : Change → ℕ → ℕ → Bool
written_in c from to = ltb (max c.offset from) (min (change_end c) to)

-- "the write does [..] cover all of" a unit's old bytes
unfoldable pub covers_old : Change → ℕ → Bool
covers_old c unit = leb c.offset (unit * unit_bytes) && leb (unit * unit_bytes + valid_length c.old_size unit) (change_end c)

-- "Its old bytes are read and checked if there are any and the write does not cover all of them."
unfoldable pub reads_old : Change → ℕ → Bool
reads_old c unit = ltb 0 (valid_length c.old_size unit) && not (covers_old c unit)

-- the written bytes that fall into a unit stand from here in the file
unfoldable pub written_from : Change → ℕ → ℕ
written_from c unit = max c.offset (unit * unit_bytes)

-- up to here, not included
unfoldable pub written_to : Change → ℕ → ℕ
written_to c unit = min (change_end c) (unit * unit_bytes + unit_bytes)

-- that part of the caller's bytes
unfoldable pub written_part : Change → ℕ → List ℕ
written_part c unit = part (written_from c unit - c.offset) (written_to c unit - written_from c unit) c.bytes

-- a written byte falls into the unit
unfoldable pub touches : Change → ℕ → Bool
touches c unit = written_in c (unit * unit_bytes) (unit * unit_bytes + unit_bytes)

-- "the assembled unit": the old bytes (none where they were not read), zeros up to the new valid length, and over them the caller's part
unfoldable pub assembled : Change → ℕ → List ℕ → List ℕ
assembled c unit old =
    pick touches c unit
    then patch (padded (valid_length c.new_size unit) old) (written_from c unit - unit * unit_bytes) (written_part c unit)
    else padded (valid_length c.new_size unit) old
