-- What is known of the units that a change writes before their bytes are.
-- Assumes nothing.
use mathlib.Core.Path.{◌≡◌, refl, ap}
use mathlib.Core.List.{List, [], ◌∷◌, map}
use Prim.Native.Nat.{ℕ}
use lib.ListN.{drop}
use Rattle.rules.specs.Sizes.{unit_blocks}
use Rattle.rules.specs.Store.{Volume}
use Rattle.rules.specs.Units.{Change}
use Rattle.rewrite.specs.Plan.{laid_unit, laid_units}

-- units laid out have their numbers
pub laid-numbers : (limit : ℕ) (v : Volume) (c : Change) (us bs : List ℕ) → map (λ r. r.unit) (laid_units limit v c us bs) ≡ us
unfolding laid_units laid_unit
laid-numbers limit v c [] bs = refl
laid-numbers limit v c (u ∷ us) bs = ap (λ (ws : List ℕ). u ∷ ws) (laid-numbers limit v c us (drop unit_blocks bs))
