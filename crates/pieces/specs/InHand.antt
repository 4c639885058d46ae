-- The blocks of a stretch of a file, in hand at the front of an array.
-- Assumes nothing.
use Rattle.std.specs.Prelude.{◌≡◌, Bool, ◌&&◌, List, map, ℕ, ◌*◌, ◌≤◌, eqb, leb, take}
use Rattle.rules.specs.Lists.{range}
use Rattle.rules.specs.Sizes.{unit_blocks}
use Rattle.rules.specs.Extent.{mapping}
use Rattle.mapping.specs.Entries.{entries, extents_in}

-- the units that a read touches at most
abbrev pub most_units : ℕ
most_units = 17

-- so many units of object's file from first on, as a book of e extents maps them; where there are none, nothing is said
pub record InHand (extents : List ℕ) (e object first units : ℕ) (blocks : List ℕ) : Type 0 where
  pub few : units ≤ most_units
  pub mapped : entries (take (units * unit_blocks) blocks) ≡ map (mapping (extents_in e extents) object) (range (first * unit_blocks) (units * unit_blocks))

-- a stretch of have units of held's file from start on starts with the k units of object's file from first on
unfoldable pub starts_with : (held start have object first k : ℕ) → Bool
starts_with held start have object first k = eqb held object && (eqb start first && leb k have)
