-- What the code answers of one unit, and of the units so far.
-- Assumes nothing.
use Rattle.std.specs.Prelude.{List, Bool, ◌||◌, ℕ, ◌+◌, ◌-◌, ltb, length}
use Rattle.std.proofs.Math.Option.{Option}
use Rattle.rules.specs.Lists.{pick◌then◌else◌}
use Rattle.rules.specs.Sizes.{most_allocated}
use Rattle.rules.specs.Refusal.{number_of}
use Rattle.rules.specs.Refusal.Refusal.{no_space, count_disagrees}
use Rattle.rules.specs.Units.{Change, touches, reads_old}
use Rattle.rules.specs.Inspect.{Inspected}
use Rattle.rules.specs.Inspect.Inspected.{damaged, hole, checked}
use Rattle.rules.specs.Kept.{wanted, superseded}
use Rattle.rules.specs.Allocation.{allocate_data, too_few}
use Rattle.rewrite.specs.declared.Old.{Old}
use Rattle.rewrite.specs.declared.Old.TheVariants.{Refused, Untouched, Unread, Verified}

-- what is known of a unit that was read and found to be this
unfoldable pub read_as : Change → ℕ → Inspected → Old
read_as c unit (damaged r) = Refused (number_of r)
read_as c unit hole = pick touches c unit then Unread else Untouched
read_as c unit (checked xs) = Verified

-- what is known of a unit that reading would find to be this
unfoldable pub old_as : Change → ℕ → Inspected → Old
old_as c unit i = pick reads_old c unit then read_as c unit i else Unread

-- a count of blocks after a unit that loses so many and gains so many
unfoldable pub count_after : (allocated gone new : ℕ) → ℕ
count_after allocated gone new = allocated - gone + new

-- refusal 14
unfoldable pub count_wrong : (allocated gone new : ℕ) → Bool
count_wrong allocated gone new = ltb allocated gone || ltb most_allocated (count_after allocated gone new)

-- a device of so many blocks, after units that took some and left a hint
module _ (total : ℕ) (used : ℕ → Bool) (taken : List ℕ) (hint : ℕ) where
  -- the blocks that a unit is given that keeps these
  unfoldable pub given_blocks : List (Option ℕ) → List ℕ
  given_blocks kept = allocate_data total used hint taken (wanted kept)

  -- the number of the refusal of a unit with these old blocks that keeps these, 13 or 14, or 0; before it there was this count
  unfoldable pub lay_number : (allocated : ℕ) (old kept : List (Option ℕ)) → ℕ
  lay_number allocated old kept =
      pick too_few total used taken (wanted kept) then number_of no_space
      else pick count_wrong allocated (length (superseded old kept)) (length (given_blocks kept)) then number_of count_disagrees
      else 0
