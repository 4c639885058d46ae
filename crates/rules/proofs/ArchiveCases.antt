-- Document 02, W-207: the archive writer's limit, by computation of the definitions: what is kept of a unit at each limit, what stays of it, and the step of
-- the plain arrays.
-- Assumes nothing.
use mathlib.Core.Path.{◌≡◌, refl}
use mathlib.Core.List.{List, [], ◌∷◌, ◌++◌, map}
use mathlib.Core.Bool.{true, false}
use mathlib.Core.Option.{Option, none, some}
use Prim.Native.Nat.{ℕ, ◌*◌}
use lib.ListN.{replicate}
use Rattle.rules.specs.Lists.{range}
use Rattle.rules.specs.Sizes.{most_runs, archive_runs}
use Rattle.rules.specs.Time.{Time}
use Rattle.rules.specs.Store.{Store}
use Rattle.rules.specs.Refusal.{result}
use Rattle.rules.specs.Units.{write_change}
use Rattle.rules.specs.Kept.{runs, retained_blocks}
use Rattle.rules.specs.Stays.{stayed, kept_runs}
use Rattle.rules.specs.Write.{write_outcome}
use Rattle.rules.specs.Call.{call}
use Rattle.rules.specs.Call.Look.{fill}
use Rattle.rules.specs.Call.Call.{fresh, enter, write, write_archive, grow, settle, look}
use Rattle.rules.specs.Plain.{File, accepted}
use Rattle.rules.proofs.Opened.{opened}

-- so many blocks of the device from this one on, each at its place of the unit
pub piece : ℕ → ℕ → List (Option ℕ)
piece first n = map some (range first n)

-- so many that are not kept
pub anew : ℕ → List (Option ℕ)
anew n = replicate n none

-- what a write of blocks a to a + n - 1 keeps, at this limit, of a whole unit that was checked and lies there
pub keeps : ℕ → ℕ → ℕ → List (Option ℕ) → List (Option ℕ)
keeps limit a n old = retained_blocks limit (write_change 7 65536 (a * 4096) (replicate (n * 4096) 1)) 0 true old

-- the same of a unit with this many full blocks before the write
pub keeps_of : ℕ → ℕ → ℕ → ℕ → List (Option ℕ) → List (Option ℕ)
keeps_of limit full a n old = retained_blocks limit (write_change 7 (full * 4096) (a * 4096) (replicate (n * 4096) 1)) 0 true old

-- a time
pub noon : Time
noon = record { seconds = 12; nanoseconds = 0 }

pub record Table : Type 0 where
  -- "only at two runs or fewer. Simulators keep the limit of four."
  pub two : archive_runs ≡ 2
  pub four : most_runs ≡ 4
  -- a block in the middle of a unit in one piece: kept, new and kept are three runs
  pub middle-write : keeps most_runs 5 1 (piece 100 16) ≡ piece 100 5 ++ anew 1 ++ piece 106 10
  pub middle-archive : keeps archive_runs 5 1 (piece 100 16) ≡ anew 16
  pub middle-three : keeps 3 5 1 (piece 100 16) ≡ piece 100 5 ++ anew 1 ++ piece 106 10
  -- at the unit's edge there are two, and two not kept beside each other are one
  pub first-archive : keeps archive_runs 0 1 (piece 100 16) ≡ anew 1 ++ piece 101 15
  pub last-archive : keeps archive_runs 15 1 (piece 100 16) ≡ piece 100 15 ++ anew 1
  pub first-ones : keeps archive_runs 0 3 (piece 100 16) ≡ anew 3 ++ piece 103 13
  pub all-anew : keeps archive_runs 0 16 (piece 100 16) ≡ anew 16
  -- a limit of one keeps nothing beside a new block
  pub first_one : keeps 1 0 1 (piece 100 16) ≡ anew 16
  -- it is the unit's runs after the change that count, not those before: of a unit in two pieces the last block written leaves three, the second piece two
  pub seam-write : keeps most_runs 15 1 (piece 100 8 ++ piece 200 8) ≡ piece 100 8 ++ piece 200 7 ++ anew 1
  pub seam-archive : keeps archive_runs 15 1 (piece 100 8 ++ piece 200 8) ≡ anew 16
  pub seam-second : keeps archive_runs 8 8 (piece 100 8 ++ piece 200 8) ≡ piece 100 8 ++ anew 8
  -- and of one in three pieces, which is over the limit, the last two written leave two
  pub three-pieces : keeps archive_runs 6 10 (piece 100 6 ++ piece 200 5 ++ piece 300 5) ≡ piece 100 6 ++ anew 10
  pub three-middle : keeps archive_runs 6 5 (piece 100 6 ++ piece 200 5 ++ piece 300 5) ≡ anew 16
  -- a unit that grows: eight blocks that lie in one piece, and eight new ones behind them; with a block between that was never written
  pub grows : keeps_of archive_runs 8 8 8 (piece 100 8) ≡ piece 100 8 ++ anew 8
  pub grows-apart : keeps_of archive_runs 8 9 7 (piece 100 8) ≡ piece 100 8 ++ anew 8
  pub grows-seam : keeps_of archive_runs 8 8 8 (piece 100 4 ++ piece 200 4) ≡ anew 16
  -- a unit whose last block is not full: that block spans the old valid length and is not kept
  pub partial : retained_blocks archive_runs (write_change 7 5000 8192 (replicate 4096 1)) 0 true (piece 100 2) ≡ piece 100 1 ++ anew 2
  -- nothing is kept of a unit that was not checked
  pub unchecked : retained_blocks archive_runs (write_change 7 65536 0 (replicate 4096 1)) 0 false (piece 100 16) ≡ anew 16
  -- what stayed: a block in its place; not one in another's; nothing of a place that has no block after
  pub stay-some : stayed (piece 100 3) (some 100 ∷ some 7 ∷ some 102 ∷ []) ≡ some 100 ∷ none ∷ some 102 ∷ []
  pub stay-moved : stayed (some 1 ∷ some 2 ∷ []) (some 2 ∷ some 1 ∷ []) ≡ none ∷ none ∷ []
  pub stay-new : stayed (some 1 ∷ none ∷ []) (some 1 ∷ some 2 ∷ []) ≡ some 1 ∷ none ∷ []
  pub stay-gone : stayed (some 1 ∷ some 2 ∷ []) (some 1 ∷ none ∷ []) ≡ some 1 ∷ []
  -- so is seen what the two writes do to a unit in one piece with a block written in its middle, where 300 on are free
  pub seen-write : runs (stayed (piece 100 16) (piece 100 5 ++ piece 300 1 ++ piece 106 10)) ≡ 3
  pub seen-archive : runs (stayed (piece 100 16) (piece 300 16)) ≡ 1
  -- the limits of the calls
  pub of-write : kept_runs (write 7 0 [] noon) ≡ 4
  pub of-archive : kept_runs (write_archive 7 0 [] noon) ≡ 2
  pub of-grow : kept_runs (grow 7 0 noon) ≡ 4
  pub of-fresh : kept_runs (fresh [] 0) ≡ 0
  pub of-enter : kept_runs (enter 7 noon) ≡ 0
  pub of-settle : kept_runs settle ≡ 0
  pub of-fill : kept_runs (look fill) ≡ 0

pub cases : Table
unfolding opened piece anew keeps keeps_of noon
cases = record {
  two = refl;
  four = refl;
  middle-write = refl;
  middle-archive = refl;
  middle-three = refl;
  first-archive = refl;
  last-archive = refl;
  first-ones = refl;
  all-anew = refl;
  first_one = refl;
  seam-write = refl;
  seam-archive = refl;
  seam-second = refl;
  three-pieces = refl;
  three-middle = refl;
  grows = refl;
  grows-apart = refl;
  grows-seam = refl;
  partial = refl;
  unchecked = refl;
  stay-some = refl;
  stay-moved = refl;
  stay-new = refl;
  stay-gone = refl;
  seen-write = refl;
  seen-archive = refl;
  of-write = refl;
  of-archive = refl;
  of-grow = refl;
  of-fresh = refl;
  of-enter = refl;
  of-settle = refl;
  of-fill = refl;
}

-- the call is a write with the limit of two
pub archive-limit : (object offset : ℕ) (bytes : List ℕ) (time : Time) (s : Store)
    → call (write_archive object offset bytes time) s ≡ result s [] (write_outcome 2 object offset bytes time s)
unfolding call
archive-limit object offset bytes time s = refl

-- "In the plain arrays it takes write's step", whatever is written
pub same_step : (object offset : ℕ) (bytes : List ℕ) (time : Time) (files : List File)
    → accepted (write_archive object offset bytes time) files ≡ accepted (write object offset bytes time) files
unfolding accepted
same_step object offset bytes time files = refl
