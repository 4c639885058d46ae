-- The arrays in which the units of a change have their blocks side by side: sixteen to a unit, of which the last may have fewer.
-- Assumes nothing.
use Rattle.std.specs.Prelude.{◌≡◌, List, [], ◌∷◌, ℕ, ◌+◌, take, drop}
use Rattle.rules.specs.Sizes.{unit_blocks}
use Rattle.rules.specs.Store.{Volume}
use Rattle.rules.specs.Units.{Change}
use Rattle.rules.specs.Inspect.{unit_mapping}
use Rattle.rules.specs.Kept.{blocks_after}
use Rattle.mapping.specs.Entries.{entries}
use Rattle.rewrite.specs.Plan.{kept_by}

-- the blocks that units have after a change
unfoldable pub flat_blocks : Change → List ℕ → ℕ
flat_blocks c [] = 0
flat_blocks c (u ∷ []) = blocks_after c u
flat_blocks c (u ∷ w ∷ us) = unit_blocks + flat_blocks c (w ∷ us)

-- every unit but the last has all of its blocks
abbrev pub AllWhole : Change → List ℕ → Type 0
AllWhole c [] = Unit {0}
AllWhole c (u ∷ []) = Unit {0}
AllWhole c (u ∷ w ∷ us) = (blocks_after c u ≡ unit_blocks) × AllWhole c (w ∷ us)

-- an array has what each unit keeps
abbrev pub KeptIn : ℕ → Volume → Change → List ℕ → List ℕ → Type 0
KeptIn limit v c [] ks = Unit {0}
KeptIn limit v c (u ∷ us) ks = (entries (take (blocks_after c u) ks) ≡ kept_by limit v c u) × KeptIn limit v c us (drop unit_blocks ks)

-- an array has where each unit's blocks were
abbrev pub OldIn : Volume → ℕ → List ℕ → List ℕ → Type 0
OldIn v object [] os = Unit {0}
OldIn v object (u ∷ us) os = (entries (take unit_blocks os) ≡ unit_mapping v object u unit_blocks) × OldIn v object us (drop unit_blocks os)
