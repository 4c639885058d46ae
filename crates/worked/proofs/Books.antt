-- Document 01, "Books", computed by the checker: what a rewritten unit's blocks leave of the extents, and the slot that its checksum gets.
-- Assumes nothing.
use mathlib.Core.Path.{◌≡◌, refl}
use mathlib.Core.List.{List, [], ◌∷◌, map}
use mathlib.Core.Option.{Option, none, some}
use Prim.Native.Nat.{ℕ, ◌^◌, ◌-◌}
use Rattle.rules.specs.Lists.{range}
use Rattle.rules.specs.Extent.{Extent, device_end}
use Rattle.rules.specs.Group.{Group, empty_group, checksum_slot}
use Rattle.rules.specs.Rewrite.{Rewritten}
use Rattle.rules.specs.Finish.{cut_unit, call_runs, take_in, finished_extents, set_slot, finished_groups}
use Rattle.worked.proofs.Stores.{extent, computed}

-- an extent of file 8
pub eighth : ℕ → ℕ → ℕ → Extent
eighth logical physical count = record { object = 8; logical = logical; physical = physical; count = count }

-- a unit at these blocks
pub at-blocks : ℕ → List ℕ → Rewritten
at-blocks unit blocks = record { unit = unit; bytes = []; checksum = 1; kept = []; blocks = blocks; new = []; superseded = [] }

-- groups by their keys, and their slot 2
pub keys : List Group → List (ℕ × ℕ × Option ℕ)
keys gs = map (λ g. (g.object, g.number, checksum_slot g 2)) gs

pub record Left : Type 0 where
  -- "An extent answers its own [..] device end, the latter saturating"
  pub device-end : device_end (extent 0 10 4) ≡ 57344
  pub device-below : device_end (extent 0 (2 ^ 52 - 2) 1) ≡ 18446744073709547520
  pub device-saturated : device_end (extent 0 (2 ^ 52 - 1) 1) ≡ 18446744073709551615
  -- "a rewritten unit's blocks leave the old extents, whose other parts stay"
  pub cut : cut_unit 7 1 (extent 0 100 40 ∷ eighth 16 200 16 ∷ []) ≡ extent 0 100 16 ∷ extent 32 132 8 ∷ eighth 16 200 16 ∷ []
  pub cut-tail : cut_unit 7 1 (extent 10 100 10 ∷ extent 20 300 5 ∷ []) ≡ extent 10 100 6 ∷ []
  pub cut-head : cut_unit 7 1 (extent 16 100 17 ∷ []) ≡ extent 32 116 1 ∷ []
  pub cut-none : cut_unit 7 1 (extent 0 100 16 ∷ extent 32 200 1 ∷ extent 40 300 2 ∷ []) ≡ extent 0 100 16 ∷ extent 32 200 1 ∷ extent 40 300 2 ∷ []
  -- "Over the call, its units' blocks adjoining in file and device form runs"
  pub one_unit : call_runs 7 (at-blocks 0 (4 ∷ 5 ∷ 7 ∷ 8 ∷ []) ∷ []) ≡ extent 0 4 2 ∷ extent 2 7 2 ∷ []
  pub two-units : call_runs 7 (at-blocks 0 (range 100 16) ∷ at-blocks 1 (116 ∷ 118 ∷ []) ∷ []) ≡ extent 0 100 17 ∷ extent 17 118 1 ∷ []
  pub not-beside : call_runs 7 (at-blocks 0 (100 ∷ []) ∷ at-blocks 1 (101 ∷ []) ∷ []) ≡ extent 0 100 1 ∷ extent 16 101 1 ∷ []
  -- "each run, ascending, takes in the extent after it if they join, then the one before"
  pub both : take_in (extent 2 12 2) (extent 0 10 2 ∷ extent 4 14 2 ∷ []) ≡ extent 0 10 6 ∷ []
  pub after : take_in (extent 2 12 2) (extent 0 11 2 ∷ extent 4 14 2 ∷ []) ≡ extent 0 11 2 ∷ extent 2 12 4 ∷ []
  pub before : take_in (extent 2 12 2) (extent 0 10 2 ∷ extent 4 15 2 ∷ []) ≡ extent 0 10 4 ∷ extent 4 15 2 ∷ []
  pub neither : take_in (extent 2 12 2) (extent 0 10 1 ∷ extent 5 15 2 ∷ []) ≡ extent 0 10 1 ∷ extent 2 12 2 ∷ extent 5 15 2 ∷ []
  pub other-file : take_in (extent 2 12 2) (eighth 4 14 2 ∷ []) ≡ extent 2 12 2 ∷ eighth 4 14 2 ∷ []
  -- where the counts do not allow both, the one after
  pub after_first : take_in (extent 4294967290 4294967290 3) (extent 0 0 4294967290 ∷ extent 4294967293 4294967293 4 ∷ [])
      ≡ extent 0 0 4294967290 ∷ extent 4294967290 4294967290 7 ∷ []
  -- a unit between others
  pub finished : finished_extents 7 (at-blocks 1 (116 ∷ 117 ∷ []) ∷ []) (extent 0 100 16 ∷ extent 16 50 2 ∷ []) ≡ extent 0 100 18 ∷ []
  -- "The unit's slot gets its checksum, in a group added if missing"
  pub slot : keys (set_slot 7 258 5 (empty_group 6 1 ∷ empty_group 7 1 ∷ empty_group 8 1 ∷ [])) ≡ (6, 1, none) ∷ (7, 1, some 5) ∷ (8, 1, none) ∷ []
  pub added : keys (set_slot 7 258 5 (empty_group 7 0 ∷ empty_group 7 2 ∷ [])) ≡ (7, 0, none) ∷ (7, 1, some 5) ∷ (7, 2, none) ∷ []
  -- each unit its own
  pub slots : keys (finished_groups 7 (at-blocks 2 [] ∷ at-blocks 258 [] ∷ []) []) ≡ (7, 0, some 1) ∷ (7, 1, some 1) ∷ []

pub left : Left
unfolding computed eighth at-blocks keys
left = record {
  device-end = refl;
  device-below = refl;
  device-saturated = refl;
  cut = refl;
  cut-tail = refl;
  cut-head = refl;
  cut-none = refl;
  one_unit = refl;
  two-units = refl;
  not-beside = refl;
  both = refl;
  after = refl;
  before = refl;
  neither = refl;
  other-file = refl;
  after_first = refl;
  finished = refl;
  slot = refl;
  added = refl;
  slots = refl;
}
