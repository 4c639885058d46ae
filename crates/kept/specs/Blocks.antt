-- The old blocks of a unit that it no longer has, as entries of arrays.
-- Assumes nothing.
use Rattle.std.specs.Prelude.{Bool, not, ◌&&◌, List, ℕ, eqb, get_or}

-- an old entry is a block, and those that are kept have none at its place
unfoldable pub superseded_at : (entry : ℕ) (kept : List ℕ) (i : ℕ) → Bool
superseded_at entry kept i = not (eqb entry 0) && eqb (get_or kept i 0) 0
