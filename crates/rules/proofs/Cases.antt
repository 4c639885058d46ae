-- Document 01, "Cases": P1 to P11 as one table, by computation of the definitions, and two beside P8 and P9.
-- Assumes nothing.
use mathlib.Core.Path.{◌≡◌, refl}
use mathlib.Core.List.{List, [], ◌∷◌}
use mathlib.Core.Bool.{true, false}
use mathlib.Core.Option.{Option, none, some}
use Prim.Native.Nat.{ℕ, ◌*◌}
use lib.ListN.{length, replicate}
use Rattle.rules.specs.Sizes.{most_runs}
use Rattle.rules.specs.Extent.{Extent, joins}
use Rattle.rules.specs.Group.{Group, empty_group, set_checksum_slot, compact_group}
use Rattle.rules.specs.Units.{write_change, grow_change, write_units}
use Rattle.rules.specs.Kept.{retained_blocks}
use Rattle.rules.proofs.Opened.{opened}

-- a group with these slots present
pub group_with : List ℕ → Group
group_with [] = empty_group 7 0
group_with (n ∷ ns) = set_checksum_slot (group_with ns) n (some 1)

-- the length of its compact form
pub compact_length : List ℕ → ℕ
compact_length ns = length (compact_group (group_with ns))

-- an extent of file 7
pub extent : ℕ → ℕ → ℕ → Extent
extent logical physical count = record { object = 7; logical = logical; physical = physical; count = count }

-- what is kept of n full blocks at these places, checked, by a change that writes none of them
pub kept_of : List (Option ℕ) → List (Option ℕ)
kept_of old = retained_blocks most_runs (grow_change 7 (4096 * length old) (4096 * length old)) 0 true old

-- the same of five full blocks at 10, 20, 30, 40 and 50, by so many bytes written from this place on
pub kept_by : ℕ → ℕ → List (Option ℕ)
kept_by offset n =
    retained_blocks most_runs (write_change 7 (4096 * 5) offset (replicate n 1)) 0 true (some 10 ∷ some 20 ∷ some 30 ∷ some 40 ∷ some 50 ∷ [])

-- the units of one byte written into a file of this size
pub units_of_byte : ℕ → ℕ → List ℕ
units_of_byte size offset = write_units (write_change 7 size offset (1 ∷ []))

pub record Table : Type 0 where
  pub p1 : compact_length [] ≡ 32
  pub p2 : compact_length (0 ∷ []) ≡ 36
  pub p3 : compact_length (0 ∷ 9 ∷ []) ≡ 72
  pub p4 : compact_length (255 ∷ []) ≡ 1056
  pub p5 : joins (extent 0 10 4) (extent 4 14 2) ≡ true
  pub p6 : joins (extent 0 10 4) (extent 4 15 2) ≡ false
  pub p7 : joins (extent 0 0 4294967295) (extent 4294967295 4294967295 1) ≡ false
  pub p8 : kept_of (some 10 ∷ some 20 ∷ some 30 ∷ some 40 ∷ []) ≡ some 10 ∷ some 20 ∷ some 30 ∷ some 40 ∷ []
  pub p9 : kept_of (some 10 ∷ some 20 ∷ some 30 ∷ some 40 ∷ some 50 ∷ []) ≡ none ∷ none ∷ none ∷ none ∷ none ∷ []
  -- beside P8 and P9: two blocks written side by side are one run of four, one of them alone is one of five
  pub p8-new : kept_by 12287 2 ≡ some 10 ∷ some 20 ∷ none ∷ none ∷ some 50 ∷ []
  pub p9-new : kept_by 8192 1 ≡ none ∷ none ∷ none ∷ none ∷ none ∷ []
  pub p10 : units_of_byte 70000 200000 ≡ 1 ∷ 3 ∷ []
  pub p11 : units_of_byte 65536 200000 ≡ 3 ∷ []

pub cases : Table
unfolding opened group_with compact_length extent kept_of kept_by units_of_byte
cases = record {
  p1 = refl;
  p2 = refl;
  p3 = refl;
  p4 = refl;
  p5 = refl;
  p6 = refl;
  p7 = refl;
  p8 = refl;
  p9 = refl;
  p8-new = refl;
  p9-new = refl;
  p10 = refl;
  p11 = refl;
}
