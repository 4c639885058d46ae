-- Document 01, "Group": the checksums of 256 units of a file. Made by `set_checksum_slot`, read by `checksum_slot`.
-- Assumes nothing.
use mathlib.Core.List.{List, [], ◌∷◌, ◌++◌, map, flat_map, zip_with}
use Rattle.std.specs.Prelude.{Bool, ◌||◌, ℕ, suc, eqb, take, drop, get_or, set, replicate}
use Rattle.std.proofs.Math.Option.{Option, none, some}
use Rattle.rules.specs.Lists.{pick◌then◌else◌, maybe, given, range, all, pair_before}
use Rattle.rules.specs.Sizes.{group_units}
use Rattle.rules.specs.Bytes.{be, le, be_digits, le_digits, part, pieces, bit_set, bit_bytes}

-- the checksums of object's units from number * 256 on, each present or not
pub record Group : Type 0 where
  pub object : ℕ
  pub number : ℕ
  pub slots : List (Option ℕ)

-- "1,073 bytes"
abbrev pub group_bytes : ℕ
group_bytes = 1073

-- "`group_key` (as above with byte 4 and the group number)"
unfoldable pub group_key : ℕ → ℕ → List ℕ
group_key object number = be_digits 8 object ++ (4 ∷ be_digits 8 number)

-- "32 bytes of presence bits": slot n has bit n mod 8 of byte n div 8
unfoldable pub presence : List (Option ℕ) → List ℕ
presence slots = bit_bytes 32 (λ n. given (get_or slots n none)) 0

-- "256 slots of 4 bytes little-endian", zero where not present
unfoldable pub slot_bytes : Option ℕ → List ℕ
slot_bytes slot = le_digits 4 (maybe 0 (λ crc. crc) slot)

-- the 1,073 bytes that say it
unfoldable pub encode_group : Group → List ℕ
encode_group g = group_key g.object g.number ++ presence g.slots ++ flat_map slot_bytes g.slots

-- the values in the slots' bytes
unfoldable pub slot_values : List ℕ → List ℕ
slot_values bytes = map le (pieces 4 group_units (drop 49 bytes))

-- the presence bits
unfoldable pub presence_bits : List ℕ → List Bool
presence_bits bytes = map (bit_set (part 17 32 bytes)) (range 0 group_units)

-- what the 1,073 bytes say
unfoldable pub decode_group : List ℕ → Group
decode_group bytes = record {
  object = be (part 0 8 bytes);
  number = be (part 9 8 bytes);
  slots = zip_with (λ present crc. pick present then some crc else none) (presence_bits bytes) (slot_values bytes);
}

-- the fixed byte: the 4 of the key
unfoldable pub group_fixed : List ℕ → Bool
group_fixed bytes = eqb (get_or bytes 8 0) 4

-- no "slot not present but not zero"
unfoldable pub absent_zero : List ℕ → Bool
absent_zero bytes = all (λ ok. ok) (zip_with (λ present crc. present || eqb crc 0) (presence_bits bytes) (slot_values bytes))

-- "extents and groups by key"
unfoldable pub group_before : Group → Group → Bool
group_before g h = pair_before g.object g.number h.object h.number

-- a group with no slot present
unfoldable pub empty_group : ℕ → ℕ → Group
empty_group object number = record { object = object; number = number; slots = replicate group_units none }

-- `checksum_slot`: the checksum in slot n, if it is present
unfoldable pub checksum_slot : Group → ℕ → Option ℕ
checksum_slot g n = get_or g.slots n none

-- `set_checksum_slot`: the group with slot n set, or cleared
unfoldable pub set_checksum_slot : Group → ℕ → Option ℕ → Group
set_checksum_slot g n crc = record { object = g.object; number = g.number; slots = set g.slots n crc }

-- how many slots there are up to the last present one
unfoldable pub up_to_present : List (Option ℕ) → ℕ
up_to_present [] = 0
up_to_present (s ∷ ss) = pick eqb (up_to_present ss) 0 then (pick given s then 1 else 0) else suc (up_to_present ss)

-- "`compact_group` keeps the slots up to the last present one": a group's value, shortened
unfoldable pub compact_group : Group → List ℕ
compact_group g = presence g.slots ++ flat_map slot_bytes (take (up_to_present g.slots) g.slots)
