-- A change to a file as code carries it: four numbers. The bytes themselves say nothing of the units, of what is read and of what is kept.
-- Assumes nothing.
use Rattle.std.specs.Prelude.{◌≡◌, Bool, not, ◌&&◌, List, [], ◌∷◌, ℕ, suc, ◌+◌, ◌*◌, ◌/◌, ◌%◌, ◌≤◌, min, max, eqb, ltb, leb, length}
use Rattle.rules.specs.Lists.{pick◌then◌else◌}
use Rattle.rules.specs.Sizes.{block_bytes, unit_bytes, most_size, most_transfer}
use Rattle.rules.specs.Units.{Change, change_end, valid_length}

-- a change with these numbers
pub record IsChange (c : Change) (before after start len : ℕ) : Type 0 where
  pub old : c.old_size ≡ before
  pub new : c.new_size ≡ after
  pub from : c.offset ≡ start
  pub written : length c.bytes ≡ len

-- numbers that an accepted write or grow has
pub record ChangeFits (before after start len : ℕ) : Type 0 where
  pub size : after ≤ most_size
  pub grows : before ≤ after
  pub inside : start + len ≤ after
  pub most : len ≤ most_transfer

-- a byte of those from start up to end falls between two places, the second not included
unfoldable pub written_between : (start end from to : ℕ) → Bool
written_between start end from to = ltb (max start from) (min end to)

-- the written bytes are all of a unit's new bytes
unfoldable pub covers_new : Change → ℕ → Bool
covers_new c unit = leb c.offset (unit * unit_bytes) && leb (unit * unit_bytes + valid_length c.new_size unit) (change_end c)

-- block i of the unit that begins at the place from lies in the first settled bytes of the unit, and no written byte falls in it
unfoldable pub intact_at : (settled start end from i : ℕ) → Bool
intact_at settled start end from i =
    leb (suc i * block_bytes) settled && not (written_between start end (from + i * block_bytes) (from + suc i * block_bytes))

-- the old tail unit of a file that grows, where it is partial and before the first unit that is touched
unfoldable pub tail_units : (before after first : ℕ) → List ℕ
tail_units before after first =
    pick ltb before after && (not (eqb (before % unit_bytes) 0) && ltb (before / unit_bytes) first) then before / unit_bytes ∷ [] else []
