-- W-207: "a unit keeps old blocks only at two runs or fewer", told from outside: of where a unit's blocks are before a call and after it.
--
-- `Kept` says what the calls keep, from the change that they make. Here is what can be seen of it in the books.
-- Assumes nothing.
use Rattle.std.specs.Prelude.{◌≡◌, ◌⊎◌, List, [], ◌∷◌, false, ℕ, ◌≤◌, eqb}
use Rattle.std.proofs.Math.Option.{Option, none, some}
use Rattle.rules.specs.Lists.{pick◌then◌else◌, maybe}
use Rattle.rules.specs.Sizes.{unit_blocks, most_runs, archive_runs}
use Rattle.rules.specs.Store.{Volume}
use Rattle.rules.specs.Inspect.{unit_mapping}
use Rattle.rules.specs.Kept.{runs}
use Rattle.rules.specs.Call.{Call}
use Rattle.rules.specs.Call.Call.{fresh, enter, write, write_archive, grow, settle, look}

-- an entry for each block that a unit has after: the block of the device that was in its place before too, or none
unfoldable pub stayed : (before after : List (Option ℕ)) → List (Option ℕ)
stayed [] after = []
stayed (o ∷ before) [] = []
stayed (o ∷ before) (none ∷ after) = stayed before after
stayed (o ∷ before) (some p ∷ after) = (pick maybe false (eqb p) o then some p else none) ∷ stayed before after

-- where a unit's blocks are
abbrev pub unit_places : Volume → ℕ → ℕ → List (Option ℕ)
unit_places v object unit = unit_mapping v object unit unit_blocks

-- each unit of each file is where it was, or what stayed of it forms, with the blocks that did not, at most so many runs
abbrev pub StaysWithin : ℕ → (before after : Volume) → Type 0
StaysWithin limit before after =
    (object unit : ℕ) → (unit_places after object unit ≡ unit_places before object unit)
    ⊎ (runs (stayed (unit_places before object unit) (unit_places after object unit)) ≤ limit)

-- the runs to which a call holds what it keeps of a unit: "Simulators keep the limit of four", and grow does. The other calls keep all of a unit or nothing
unfoldable pub kept_runs : Call → ℕ
kept_runs (fresh uuid reserved) = 0
kept_runs (enter object time) = 0
kept_runs (write object offset bytes time) = most_runs
kept_runs (write_archive object offset bytes time) = archive_runs
kept_runs (grow object size time) = most_runs
kept_runs settle = 0
kept_runs (look l) = 0
