-- The slot of a unit in a group that was found, or was not.
-- Assumes nothing.
use Rattle.std.specs.Prelude.{◌≡◌, List, ℕ, ◌+◌, ◌*◌, ◌≤◌, length, Option, Some}
use Rattle.std.proofs.Math.Option.{none}
use Rattle.std.proofs.Math.Option as option
use Rattle.rules.specs.Lists.{maybe}
use Rattle.rules.specs.Group.{Group, group_bytes, checksum_slot}

-- the checksum in slot k of a group, if there is one
unfoldable pub slot_in : option.Option Group → ℕ → option.Option ℕ
slot_in g k = maybe none (λ x. checksum_slot x k) g

-- a group that was found lies in the book's bytes
pub record GroupWithin (s : List ℕ) (r : Option ℕ) : Type 0 where
  pub each : (i : ℕ) → r ≡ Some i → group_bytes * i + group_bytes ≤ length s
