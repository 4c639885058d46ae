-- The units of a file in a book of checksum groups: which of them have a slot, and where a walk over them stands.
-- Assumes nothing.
use Rattle.std.specs.Prelude.{◌≡◌, Bool, true, false, not, ◌&&◌, List, ℕ, ◌-◌, ◌*◌, ◌/◌, ◌%◌, ◌≤◌, ◌<◌, eqb, ltb, length}
use Rattle.rules.specs.Lists.{pick◌then◌else◌, maybe, given, range, filter, find, ascending}
use Rattle.rules.specs.Sizes.{group_units}
use Rattle.rules.specs.Group.{Group, group_bytes, decode_group, group_before, checksum_slot}
use Rattle.rules.specs.Book.{decode_book}
use Rattle.rules.specs.Stretches.{Stretch, stretches, most_number}
use Rattle.halving.specs.Halving.{Parted}
use Rattle.book.specs.Places.{record_at, group_is, group_under}

-- r is the first number from a on at which a test is b, or e where none before it is
pub record NextOf (f : ℕ → Bool) (b : Bool) (a e r : ℕ) : Type 0 where
  pub least : a ≤ r
  pub most : r ≤ e
  pub before : (k : ℕ) → a ≤ k → k < r → f k ≡ not b
  pub found : r < e → f r ≡ b

-- the groups of a book of n
abbrev pub groups_in : ℕ → List ℕ → List Group
groups_in n book = decode_book decode_group group_bytes n book

-- a book of n groups that keeps its order
pub record GroupsRight (n : ℕ) (book : List ℕ) : Type 0 where
  pub places : group_bytes * n ≤ length book
  pub order : ascending group_before (groups_in n book) ≡ true

-- groups have a slot for a unit of an object's file
unfoldable pub slotted : List Group → ℕ → ℕ → Bool
slotted gs object unit = maybe false (λ g. given (checksum_slot g (unit % group_units))) (find (group_is object (unit / group_units)) gs)

-- the place in a book of n of the first group that is not in front of that of a unit
abbrev pub Placed : (n : ℕ) (book : List ℕ) (object unit place : ℕ) → Type 0
Placed n book object unit place = Parted (λ i. group_under object (unit / group_units) (record_at decode_group group_bytes book i)) n place

-- the number of the group at a place, where it is one of the object's; else the greatest of all numbers
unfoldable pub number_at : (n : ℕ) (book : List ℕ) (object place : ℕ) → ℕ
number_at n book object place =
    pick ltb place n && eqb (record_at decode_group group_bytes book place).object object then (record_at decode_group group_bytes book place).number
    else most_number

-- the stretch of so many units from one on
abbrev pub stretch : ℕ → ℕ → Stretch
stretch first units = record { first = first; units = units }

-- the stretches of the units that pass a test, from one on up to another, the latter not included
abbrev pub stretches_from : (ℕ → Bool) → ℕ → ℕ → List Stretch
stretches_from f a e = stretches (filter f (range a (e - a)))
