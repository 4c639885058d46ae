-- Kept and new blocks side by side, computed by the checker: what counts as one run and what breaks it, four runs and five, and what a whole write
-- leaves where it falls between blocks that are kept, a simulator's and the archive writer's.
-- Assumes nothing.
use mathlib.Core.Path.{◌≡◌, refl, ap}
use mathlib.Core.List.{List, [], ◌∷◌, map}
use mathlib.Core.Bool.{true, false, ◌||◌}
use mathlib.Core.Option.{Option, none, some}
use Prim.Native.Nat.{ℕ, ◌*◌}
use lib.Dec.{eqb}
use lib.ListN.{replicate}
use Rattle.rules.specs.Lists.{pick◌then◌else◌, member}
use Rattle.rules.specs.Sizes.{most_runs, archive_runs}
use Rattle.rules.specs.Extent.{Extent}
use Rattle.rules.specs.Group.{empty_group, set_checksum_slot}
use Rattle.rules.specs.Time.{Time}
use Rattle.rules.specs.Store.{Store, Volume}
use Rattle.rules.specs.Refusal.{first_case, result}
use Rattle.rules.specs.Arguments.{is_past_limit, is_below_size, time_wrong}
use Rattle.rules.specs.Integrity.{mapped_blocks}
use Rattle.rules.specs.Units.{Change, write_change, grow_change, write_units, grow_units}
use Rattle.rules.specs.Kept.{runs, retained_blocks}
use Rattle.rules.specs.Inspect.{Inspected, inspect_unit}
use Rattle.rules.specs.Inspect.Inspected.{checked}
use Rattle.rules.specs.Rewrite.{Plan, Progress, rewrite_units, after_read, and_then}
use Rattle.rules.specs.Finish.{new_blocks, superseded_blocks, finished_extents}
use Rattle.rules.specs.Answers.{plan_units, plan_number, plan_allocated}
use Rattle.rules.specs.Write.{write_outcome, grow_file, plan_of, carried_out}
use Rattle.rules.specs.Call.{call}
use Rattle.rules.specs.Call.Call.{write}
use Rattle.worked.proofs.Stores.{time, extent, card, computed}

-- so many bytes from this place on, written into file 7 of five full blocks
pub into : ℕ → ℕ → Change
into offset n = write_change 7 (5 * 4096) offset (replicate n 1)

-- what such a write keeps of checked blocks at these places
pub keeps : ℕ → ℕ → List ℕ → List (Option ℕ)
keeps offset n old = retained_blocks most_runs (into offset n) 0 true (map some old)

pub record Counted : Type 0 where
  pub no_block : runs [] ≡ 0
  pub one : runs (some 10 ∷ []) ≡ 1
  pub one-new : runs (none ∷ []) ≡ 1
  -- "Kept neighbours with adjoining physical blocks continue a run, and so do two not kept"
  pub adjoining : runs (some 10 ∷ some 11 ∷ []) ≡ 1
  pub two-new : runs (none ∷ none ∷ []) ≡ 1
  -- "every other pair breaks it"
  pub apart : runs (some 10 ∷ some 12 ∷ []) ≡ 2
  pub backwards : runs (some 11 ∷ some 10 ∷ []) ≡ 2
  pub same : runs (some 10 ∷ some 10 ∷ []) ≡ 2
  pub kept_new : runs (some 10 ∷ none ∷ []) ≡ 2
  pub new-kept : runs (none ∷ some 10 ∷ []) ≡ 2
  pub mixed : runs (some 10 ∷ some 11 ∷ none ∷ none ∷ none ∷ some 12 ∷ some 13 ∷ some 20 ∷ none ∷ []) ≡ 5
  -- the write falls into the third block, into the third and fourth, and into the last
  pub three : keeps (2 * 4096) 1 (10 ∷ 11 ∷ 12 ∷ 13 ∷ 14 ∷ []) ≡ some 10 ∷ some 11 ∷ none ∷ some 13 ∷ some 14 ∷ []
  pub four : keeps 12287 2 (10 ∷ 20 ∷ 30 ∷ 40 ∷ 50 ∷ []) ≡ some 10 ∷ some 20 ∷ none ∷ none ∷ some 50 ∷ []
  pub four-tail : keeps (4 * 4096) 1 (10 ∷ 11 ∷ 20 ∷ 30 ∷ 40 ∷ []) ≡ some 10 ∷ some 11 ∷ some 20 ∷ some 30 ∷ none ∷ []
  -- "If the unit's blocks then form over four runs, none is kept."
  pub five : keeps (2 * 4096) 1 (10 ∷ 20 ∷ 30 ∷ 40 ∷ 50 ∷ []) ≡ none ∷ none ∷ none ∷ none ∷ none ∷ []

pub counted : Counted
unfolding computed into keeps
counted = record {
  no_block = refl;
  one = refl;
  one-new = refl;
  adjoining = refl;
  two-new = refl;
  apart = refl;
  backwards = refl;
  same = refl;
  kept_new = refl;
  new-kept = refl;
  mixed = refl;
  three = refl;
  four = refl;
  four-tail = refl;
  five = refl;
}

-- ---- a whole write, whatever the file's bytes are and their checksum is

-- a volume of so many blocks, block 0 reserved, with file 7 of five full blocks in these extents
pub five_of : ℕ → (uuid image : List ℕ) → ℕ → List Extent → Volume
five_of blocks uuid image crc es = record {
  uuid = uuid;
  blocks = blocks;
  reserved = 1;
  hint = 0;
  books = record { cards = card 20480 5 12 13 ∷ []; extents = es; groups = set_checksum_slot (empty_group 7 0) 0 (some crc) ∷ [] };
  used = λ n. eqb n 0 || member n (mapped_blocks es);
  retired = λ n. false;
  image = image;
}

-- one of twelve blocks
pub five_blocks : (uuid image : List ℕ) → ℕ → List Extent → Volume
five_blocks = five_of 12

-- what its first unit finds
pub start : Progress
start = record { taken = []; hint = 0; allocated = 5 }

-- what is told of a plan over these extents: its number, what each unit keeps, the new and the superseded blocks, the extents and the count left
pub told : List Extent → Plan → ℕ × List (List (Option ℕ)) × List ℕ × List ℕ × List Extent × Option ℕ
told es p =
    (plan_number p, map (λ r. r.kept) (plan_units p), new_blocks (plan_units p), superseded_blocks (plan_units p), finished_extents 7 (plan_units p) es, plan_allocated p)

-- the plan of a write with this limit, and the same where the unit's reading is given
pub planned : ℕ → Volume → Change → Plan
planned limit v c = rewrite_units limit v c (write_units c) start

pub from_read : ℕ → Volume → Change → Inspected → Plan
from_read limit v c i = and_then start (after_read limit v c 0 start i) (λ q. rewrite_units limit v c [] q)

-- file 7 at the device's blocks 1, 3, 5, 6 and 8, and at 1 to 5
pub scattered : List Extent
scattered = extent 0 1 1 ∷ extent 1 3 1 ∷ extent 2 5 2 ∷ extent 4 8 1 ∷ []

pub straight : List Extent
straight = extent 0 1 5 ∷ []

-- where the old unit was checked, two bytes across the third and fourth block leave four runs: the two move to blocks 9 and 10, the lowest
-- two free ones side by side
pub four_runs : (uuid image old : List ℕ) (crc : ℕ) → inspect_unit (five_blocks uuid image crc scattered) 7 20480 0 ≡ checked old
    → told scattered (planned most_runs (five_blocks uuid image crc scattered) (into 12287 2))
    ≡ (
      0,
      (some 1 ∷ some 3 ∷ none ∷ none ∷ some 8 ∷ []) ∷ [],
      9 ∷ 10 ∷ [],
      5 ∷ 6 ∷ [],
      extent 0 1 1 ∷ extent 1 3 1 ∷ extent 2 9 2 ∷ extent 4 8 1 ∷ [],
      some 5,
    )
unfolding computed into told planned from_read five_of five_blocks start scattered
four_runs uuid image old crc h = ap (λ i. told scattered (from_read most_runs (five_blocks uuid image crc scattered) (into 12287 2) i)) h

-- a byte into the third alone leaves five: all five move, to the first free blocks, as no five of them lie side by side
pub five-runs : (uuid image old : List ℕ) (crc : ℕ) → inspect_unit (five_blocks uuid image crc scattered) 7 20480 0 ≡ checked old
    → told scattered (planned most_runs (five_blocks uuid image crc scattered) (into 8192 1))
    ≡ (
      0,
      (none ∷ none ∷ none ∷ none ∷ none ∷ []) ∷ [],
      2 ∷ 4 ∷ 7 ∷ 9 ∷ 10 ∷ [],
      1 ∷ 3 ∷ 5 ∷ 6 ∷ 8 ∷ [],
      extent 0 2 1 ∷ extent 1 4 1 ∷ extent 2 7 1 ∷ extent 3 9 2 ∷ [],
      some 5,
    )
unfolding computed into told planned from_read five_of five_blocks start scattered
five-runs uuid image old crc h = ap (λ i. told scattered (from_read most_runs (five_blocks uuid image crc scattered) (into 8192 1) i)) h

-- kept, new, kept: one extent is cut in three
pub three-runs : (uuid image old : List ℕ) (crc : ℕ) → inspect_unit (five_blocks uuid image crc straight) 7 20480 0 ≡ checked old
    → told straight (planned most_runs (five_blocks uuid image crc straight) (into 8192 1))
    ≡ (0, (some 1 ∷ some 2 ∷ none ∷ some 4 ∷ some 5 ∷ []) ∷ [], 6 ∷ [], 3 ∷ [], extent 0 1 2 ∷ extent 2 6 1 ∷ extent 3 4 2 ∷ [], some 5)
unfolding computed into told planned from_read five_of five_blocks start straight
three-runs uuid image old crc h = ap (λ i. told straight (from_read most_runs (five_blocks uuid image crc straight) (into 8192 1) i)) h

-- ---- W-207: the archive writer, on the same stores

-- kept, new, kept are over its limit: all five move, and lie in one piece again
pub archive-middle : (uuid image old : List ℕ) (crc : ℕ) → inspect_unit (five_blocks uuid image crc straight) 7 20480 0 ≡ checked old
    → told straight (planned archive_runs (five_blocks uuid image crc straight) (into 8192 1))
    ≡ (0, (none ∷ none ∷ none ∷ none ∷ none ∷ []) ∷ [], 6 ∷ 7 ∷ 8 ∷ 9 ∷ 10 ∷ [], 1 ∷ 2 ∷ 3 ∷ 4 ∷ 5 ∷ [], extent 0 6 5 ∷ [], some 5)
unfolding computed into told planned from_read five_of five_blocks start straight
archive-middle uuid image old crc h = ap (λ i. told straight (from_read archive_runs (five_blocks uuid image crc straight) (into 8192 1) i)) h

-- at the unit's edge it keeps what a simulator's write keeps
pub archive-edge : (uuid image old : List ℕ) (crc : ℕ) → inspect_unit (five_blocks uuid image crc straight) 7 20480 0 ≡ checked old
    → told straight (planned archive_runs (five_blocks uuid image crc straight) (into 0 1))
    ≡ (0, (none ∷ some 2 ∷ some 3 ∷ some 4 ∷ some 5 ∷ []) ∷ [], 6 ∷ [], 1 ∷ [], extent 0 6 1 ∷ extent 1 2 4 ∷ [], some 5)
unfolding computed into told planned from_read five_of five_blocks start straight
archive-edge uuid image old crc h = ap (λ i. told straight (from_read archive_runs (five_blocks uuid image crc straight) (into 0 1) i)) h

-- it wants more blocks: where four are free a simulator's write is accepted and this one refused by 13
pub four-free : (uuid image old : List ℕ) (crc : ℕ) → inspect_unit (five_of 10 uuid image crc straight) 7 20480 0 ≡ checked old
    → told straight (planned most_runs (five_of 10 uuid image crc straight) (into 8192 1))
    ≡ (0, (some 1 ∷ some 2 ∷ none ∷ some 4 ∷ some 5 ∷ []) ∷ [], 6 ∷ [], 3 ∷ [], extent 0 1 2 ∷ extent 2 6 1 ∷ extent 3 4 2 ∷ [], some 5)
unfolding computed into told planned from_read five_of start straight
four-free uuid image old crc h = ap (λ i. told straight (from_read most_runs (five_of 10 uuid image crc straight) (into 8192 1) i)) h

pub archive-full : (uuid image old : List ℕ) (crc : ℕ) → inspect_unit (five_of 10 uuid image crc straight) 7 20480 0 ≡ checked old
    → plan_number (planned archive_runs (five_of 10 uuid image crc straight) (into 8192 1)) ≡ 13
unfolding computed into planned from_read five_of start straight
archive-full uuid image old crc h = ap (λ i. plan_number (from_read archive_runs (five_of 10 uuid image crc straight) (into 8192 1) i)) h

-- ---- the limit that these calls give is four; the archive writer's stands in `rules`, beside its other cases

pub write-limit : (object offset : ℕ) (xs : List ℕ) (t : Time) (s : Store)
    → call (write object offset xs t) s ≡ result s [] (write_outcome 4 object offset xs t s)
unfolding call
write-limit object offset xs t s = refl

-- a grow by one byte
pub grow-limit : (s : Store)
    → grow_file 20480 (time 8 9) s (card 20479 5 12 13)
    ≡ carried_out 0 (grow_change 7 20479 20480) (time 8 9) s (plan_of 4 grow_units (grow_change 7 20479 20480) (card 20479 5 12 13) s)
unfolding grow_file pick◌then◌else◌ first_case is_past_limit is_below_size time_wrong card
grow-limit s = refl
