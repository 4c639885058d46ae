-- The group book of a change: what is known of it, the units whose checksums are set, the groups that are missing for them, and the slots set one after another.
-- Assumes nothing.
use Rattle.std.specs.Prelude.{◌≡◌, Bool, true, false, ◌&&◌, List, [], ◌∷◌, ℕ, zero, suc, ◌+◌, ◌*◌, ◌/◌, ◌^◌, ◌≤◌, ◌<◌, length, get_or}
use Rattle.rules.specs.Lists.{any, all, insert, ascending}
use Rattle.rules.specs.Sizes.{group_units}
use Rattle.rules.specs.Bytes.{pieces}
use Rattle.rules.specs.Group.{Group, group_bytes, decode_group, group_fixed, absent_zero, group_before, empty_group}
use Rattle.rules.specs.Book.{decode_book, zero_behind}
use Rattle.rules.specs.Finish.{with_group, set_slot}
use Rattle.book.specs.Places.{record_at, group_is}

-- the groups of a book of n
abbrev pub groups_in : ℕ → List ℕ → List Group
groups_in n book = decode_book decode_group group_bytes n book

-- a group's fixed byte is right, and each slot that is not present is zero
abbrev pub group_right : List ℕ → Bool
group_right bytes = group_fixed bytes && absent_zero bytes

-- a book of n groups that keeps its rules
pub record GroupsRight (n : ℕ) (groups : List ℕ) : Type 0 where
  pub places : group_bytes * n ≤ length groups
  pub order : ascending group_before (groups_in n groups) ≡ true
  pub zeros : zero_behind group_bytes n groups ≡ true
  pub fixed : all group_right (pieces group_bytes n groups) ≡ true

-- such a book of so many bytes, with these groups
pub record GroupsSay (n size : ℕ) (gs : List Group) (groups : List ℕ) : Type 0 where
  pub bytes : length groups ≡ size
  pub right : GroupsRight n groups
  pub says : groups_in n groups ≡ gs

-- the groups have one for each of the units
pub record AllThere (object : ℕ) (units : List ℕ) (gs : List Group) : Type 0 where
  pub each : (k : ℕ) → k < length units → any (group_is object (get_or units k 0 / group_units)) gs ≡ true

-- the units of a change: at most eighteen, one behind the other; where the first lies further down, its group is there
pub record UnitsRight (object : ℕ) (gs : List Group) (units : List ℕ) : Type 0 where
  pub few : length units ≤ 18
  pub rises : 1 < length units → get_or units 0 0 < get_or units 1 0
  pub next : (k : ℕ) → 1 ≤ k → suc k < length units → get_or units (suc k) 0 ≡ suc (get_or units k 0)
  pub apart : 1 < length units → (get_or units 1 0 ≡ suc (get_or units 0 0) → ⊥) → any (group_is object (get_or units 0 0 / group_units)) gs ≡ true

-- so many empty groups of an object put in, from a number on
unfoldable pub added : (object number count : ℕ) → List Group → List Group
added object number zero gs = gs
added object number (suc k) gs = added object (suc number) k (insert group_before (empty_group object number) gs)

-- the checksums of units set, one after another
unfoldable pub set_slots : ℕ → (units crcs : List ℕ) → List Group → List Group
set_slots object [] crcs gs = gs
set_slots object (u ∷ units) [] gs = gs
set_slots object (u ∷ units) (c ∷ crcs) gs = set_slots object units crcs (set_slot object u c gs)

-- where the units behind each other begin, and the groups of those in front of them are there
pub record StretchFrom (object : ℕ) (gs : List Group) (units : List ℕ) (start : ℕ) : Type 0 where
  pub within : start < length units
  pub steps : (k : ℕ) → start + k < length units → get_or units (start + k) 0 ≡ get_or units start 0 + k
  pub front : (k : ℕ) → k < start → any (group_is object (get_or units k 0 / group_units)) gs ≡ true

-- the groups of an object, so many from a number on, are missing
pub record Gone (object number count : ℕ) (gs : List Group) : Type 0 where
  pub few : count ≤ 2
  pub each : (k : ℕ) → k < count → any (group_is object (number + k)) gs ≡ false

-- of two groups of an object, neighbours or one, those that are missing
pub record MissingOf (object a b : ℕ) (gs : List Group) (number count : ℕ) : Type 0 where
  pub gone : Gone object number count gs
  pub least : a ≤ number
  pub most : number ≤ b
  pub both : added object number count gs ≡ with_group object b (with_group object a gs)

-- the groups that are missing for units: with them every unit has its group, and it is the same to put them in before the slots are set
pub record MissingFor (object : ℕ) (units : List ℕ) (gs : List Group) (number count : ℕ) : Type 0 where
  pub gone : Gone object number count gs
  pub small : number < 2 ^ 63
  pub there : AllThere object units (added object number count gs)
  pub same : (crcs : List ℕ) → length units ≡ length crcs → set_slots object units crcs (added object number count gs) ≡ set_slots object units crcs gs

-- the place, where it is one of the book's, is that of the group
pub record PlaceKnown (object number n place : ℕ) (groups : List ℕ) : Type 0 where
  pub known : place < n → group_is object number (record_at decode_group group_bytes groups place) ≡ true
