-- Room in a book for the groups that a change leaves.
-- Assumes nothing.
use Rattle.std.specs.Prelude.{◌≡◌, List, ℕ, ◌*◌, ◌≤◌, length}
use Rattle.rules.specs.Group.{group_bytes}
use Rattle.finish_books.specs.Groups.{groups_in, set_slots}

-- a book of g groups has room for those of the units, whatever their checksums are: these are not known before the units are put together
pub record RoomFor (object : ℕ) (units : List ℕ) (g : ℕ) (groups : List ℕ) : Type 0 where
  pub fits : (sums : List ℕ) → length units ≡ length sums → group_bytes * length (set_slots object units sums (groups_in g groups)) ≤ length groups
