-- What a checksum group in hand says: the slots of its presence bits and values, and the group of rules that it stands for under a key.
-- Assumes nothing.
use Rattle.std.specs.Prelude.{◌≡◌, Bool, ◌||◌, ℕ, ◌-◌, ◌≤◌, ◌<◌, eqb, get_or, drop, Option, Some, None}
use mathlib.Core.List.{List, ◌++◌, map, flat_map, zip_with}
use Rattle.std.proofs.Math.Option.{none, some}
use Rattle.std.proofs.Math.Option as option
use Rattle.rules.specs.Lists.{pick◌then◌else◌, maybe, range}
use Rattle.rules.specs.Sizes.{group_units}
use Rattle.rules.specs.Bytes.{le, part, pieces, bit_set}
use Rattle.rules.specs.Group.{Group, presence, slot_bytes, slot_values}
use Rattle.checksum_group.specs.declared.ChecksumGroup as group

-- the bytes of a group's presence bits
abbrev pub presence_bytes : ℕ
presence_bytes = 32

-- the bytes of a slot
abbrev pub slot_width : ℕ
slot_width = 4

-- the slots of presence bytes and slot values: present where the bit is set, whatever value stands where it is not
unfoldable pub slots_from : List ℕ → List ℕ → List (option.Option ℕ)
slots_from present values =
    zip_with (λ bit crc. pick bit then some crc else none) (map (bit_set present) (range 0 group_units)) values

-- the slots that a checksum group in hand says
unfoldable pub slots_of : group.ChecksumGroup → List (option.Option ℕ)
slots_of g = slots_from g.present g.slots

-- the group that it says under a key
unfoldable pub group_of : ℕ → ℕ → group.ChecksumGroup → Group
group_of object number g = record { object = object; number = number; slots = slots_of g }

-- the checksum that a slot says, if it is present
unfoldable pub crc_of : Option ℕ → option.Option ℕ
crc_of (Some crc) = some crc
crc_of None = none

-- the value that is written for a slot: zero where it is not present
unfoldable pub value_of : option.Option ℕ → ℕ
value_of slot = maybe 0 (λ crc. crc) slot

-- a group's value: presence bytes, and behind them the slots
abbrev pub value_bytes : List (option.Option ℕ) → List ℕ
value_bytes slots = presence slots ++ flat_map slot_bytes slots

-- the 256 values of 4 bytes little-endian from a place on
unfoldable pub values_at : List ℕ → ℕ → List ℕ
values_at s at = map le (pieces 4 group_units (drop at s))

-- slot n of a group's bytes is present, or zero
unfoldable pub slot_right : List ℕ → ℕ → Bool
slot_right bytes n = bit_set (part 17 32 bytes) n || eqb (get_or (slot_values bytes) n 0) 0

-- so many bytes there are up to the last that is not zero
pub record UpTo (present : List ℕ) (used : ℕ) : Type 0 where
  pub most : used ≤ 32
  pub behind : (i : ℕ) → used ≤ i → i < 32 → get_or present i 0 ≡ 0
  pub last : 0 < used → get_or present (used - 1) 0 ≡ 0 → ⊥
