-- The keys of a book's records, over the width of a record: an object and a number, each 8 bytes big-endian, with a byte between them. Extents and groups
-- begin with one. A card begins with its object: held against a number of 0, what stands at the place of its number does not matter.
-- Assumes nothing.
use Rattle.std.specs.Prelude.{Bool, ◌&&◌, ◌||◌, not, List, ℕ, ◌+◌, ◌-◌, ◌*◌, eqb}
use Rattle.rules.specs.Bytes.{be, part}
use Rattle.rules.specs.Lists.{pair_before}

-- a key of a and b stands before that of object and number, or, where `equal` says so, is the same
unfoldable pub reaches : Bool → ℕ → ℕ → ℕ → ℕ → Bool
reaches equal object number a b = pair_before a b object number || (equal && eqb a object && eqb b number)

-- the object of the record at a place
unfoldable pub object_at : ℕ → List ℕ → ℕ → ℕ
object_at w s i = be (part (w * i) 8 s)

-- its number
unfoldable pub number_at : ℕ → List ℕ → ℕ → ℕ
number_at w s i = be (part (w * i + 9) 8 s)

-- the record at a place stands before the key, or at it
unfoldable pub reached : Bool → ℕ → ℕ → ℕ → List ℕ → ℕ → Bool
reached equal object number w s i = reaches equal object number (object_at w s i) (number_at w s i)

-- a record stands in front of a place, and is one of the object
unfoldable pub owned_before : ℕ → ℕ → List ℕ → ℕ → Bool
owned_before object w s place = not (eqb place 0) && eqb (object_at w s (place - 1)) object
