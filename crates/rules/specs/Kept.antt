-- Document 01: which blocks of a rewritten unit are kept, and the runs that its blocks form. `retained_blocks` and `runs`.
--
-- What becomes of a unit's blocks is a list with an entry for each: the block on the device that is kept there, or none.
-- Assumes nothing.
use Rattle.std.specs.Prelude.{List, [], ◌∷◌, map, Bool, true, false, not, ◌&&◌, ℕ, suc, ◌+◌, ◌*◌, min, eqb, leb, length, get_or, replicate}
use Rattle.std.proofs.Math.Option.{Option, none, some}
use Rattle.rules.specs.Lists.{pick◌then◌else◌, given, range, count, begun}
use Rattle.rules.specs.Sizes.{block_bytes, unit_bytes}
use Rattle.rules.specs.Units.{Change, valid_length, written_in}

-- "it lies wholly inside both old and new valid length, and no written byte falls in it"; i counts the unit's blocks
unfoldable pub intact : Change → ℕ → ℕ → Bool
intact c unit i =
    leb (suc i * block_bytes) (min (valid_length c.old_size unit) (valid_length c.new_size unit))
    && not (written_in c (unit * unit_bytes + i * block_bytes) (unit * unit_bytes + suc i * block_bytes))

-- the blocks that a unit has after the change
unfoldable pub blocks_after : Change → ℕ → ℕ
blocks_after c unit = begun (valid_length c.new_size unit) block_bytes

-- "A block is kept if the old unit was checked, it is mapped, it lies wholly inside both old and new valid length, and no written byte falls in it."
unfoldable pub candidates : Change → ℕ → Bool → List (Option ℕ) → List (Option ℕ)
candidates c unit verified old =
    map (λ i. pick verified && intact c unit i then get_or old i none else none) (range 0 (blocks_after c unit))

-- "Kept neighbours with adjoining physical blocks continue a run, and so do two not kept; every other pair breaks it."
unfoldable pub continues : Option ℕ → Option ℕ → Bool
continues none none = true
continues none (some q) = false
continues (some p) none = false
continues (some p) (some q) = eqb q (suc p)

-- "The count of runs is written as a recursion over the number of blocks."
unfoldable pub runs : List (Option ℕ) → ℕ
runs [] = 0
runs (b ∷ []) = 1
runs (a ∷ b ∷ bs) = (pick continues a b then 0 else 1) + runs (b ∷ bs)

-- "If the unit's blocks then form over four runs, none is kept." The limit of runs is a parameter
unfoldable pub within_limit : ℕ → List (Option ℕ) → List (Option ℕ)
within_limit limit kept = pick leb (runs kept) limit then kept else replicate (length kept) none

-- `retained_blocks`: what is kept of a unit whose old blocks lie at these places
unfoldable pub retained_blocks : ℕ → Change → ℕ → Bool → List (Option ℕ) → List (Option ℕ)
retained_blocks limit c unit verified old = within_limit limit (candidates c unit verified old)

-- the blocks that a unit wants anew: one for each that is not kept
unfoldable pub wanted : List (Option ℕ) → ℕ
wanted kept = count (λ b. not (given b)) kept

-- "The blocks taken for a unit are assigned ascending": where the unit's blocks are then, the new ones in the places not kept
unfoldable pub assigned : List (Option ℕ) → List ℕ → List ℕ
assigned [] new = []
assigned (some p ∷ kept) new = p ∷ assigned kept new
assigned (none ∷ kept) [] = []
assigned (none ∷ kept) (b ∷ new) = b ∷ assigned kept new

-- the unit's old blocks that it no longer has, each place once; kept may have fewer entries than old
unfoldable pub superseded : List (Option ℕ) → List (Option ℕ) → List ℕ
superseded [] kept = []
superseded (none ∷ old) [] = superseded old []
superseded (none ∷ old) (k ∷ kept) = superseded old kept
superseded (some p ∷ old) [] = p ∷ superseded old []
superseded (some p ∷ old) (none ∷ kept) = p ∷ superseded old kept
superseded (some p ∷ old) (some q ∷ kept) = superseded old kept
