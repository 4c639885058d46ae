-- Document 01, "New blocks", and document 02, W-208, computed by the checker: the order of the groups, where each is searched from, which run is the
-- first, and which blocks a unit gets.
-- Assumes nothing.
use mathlib.Core.Path.{◌≡◌, refl}
use mathlib.Core.List.{List, [], ◌∷◌}
use mathlib.Core.Bool.{Bool, true, false, not, ◌&&◌, ◌||◌}
use mathlib.Core.Option.{none, some}
use Prim.Native.Nat.{ℕ}
use lib.Dec.{ltb, leb}
use Rattle.rules.specs.Lists.{any, range}
use Rattle.rules.specs.Allocation.{allocation_groups, group_order, group_end, cursor, searched, found_first, too_few, run_in, first_run, allocate_data, hint_after}
use Rattle.rules.specs.Rewrite.{Progress, Rewritten, after}
use Rattle.worked.proofs.Stores.{computed}

-- the first blocks, so many, are used
pub below : ℕ → ℕ → Bool
below n b = ltb b n

-- all blocks are used but those of these runs, each from one block to before another
pub but : List (ℕ × ℕ) → ℕ → Bool
but runs b = not (any (λ r. leb r.0 b && ltb b r.1) runs)

-- single blocks, and one run of sixteen
pub scattered : List (ℕ × ℕ)
scattered = (3, 4) ∷ (10, 26) ∷ (30, 31) ∷ (32, 33) ∷ []

-- two blocks in the first group, and runs of sixteen and of two in the second
pub far : List (ℕ × ℕ)
far = (100, 102) ∷ (16394, 16410) ∷ (16424, 16426) ∷ []

-- a unit that took block 9 and gave up two
pub moved : Rewritten
moved = record { unit = 0; bytes = []; checksum = 0; kept = []; blocks = 9 ∷ []; new = 9 ∷ []; superseded = 4 ∷ 5 ∷ [] }

-- what passes from it to the next
pub passed : Progress → List ℕ × ℕ × ℕ
passed p = (p.taken, p.hint, p.allocated)

pub record New : Type 0 where
  -- "Allocation group: 16,384 blocks."
  pub one-group : allocation_groups 16384 ≡ 1
  pub two-groups : allocation_groups 16385 ≡ 2
  pub four-groups : allocation_groups 65536 ≡ 4
  -- "groups from the hint modulo their number, cyclic"
  pub cyclic : group_order 4 2 ≡ 2 ∷ 3 ∷ 0 ∷ 1 ∷ []
  pub modulo : group_order 2 3 ≡ 1 ∷ 0 ∷ []
  -- the last group may be shorter
  pub whole : group_end 40000 1 ≡ 32768
  pub shorter : group_end 16390 1 ≡ 16390
  -- "from after the highest block taken by this call in that group (from its start if none, or if that was its last)"
  pub from_start : cursor 8 [] 0 ≡ 0
  pub from-after : cursor 8 (3 ∷ 5 ∷ 4 ∷ []) 0 ≡ 6
  pub from_last : cursor 8 (7 ∷ []) 0 ≡ 0
  pub from_second : cursor 16390 (5 ∷ []) 1 ≡ 16384
  -- "then around"
  pub around : searched 8 (5 ∷ []) 0 ≡ 6 ∷ 7 ∷ 0 ∷ 1 ∷ 2 ∷ 3 ∷ 4 ∷ 5 ∷ []
  pub around-second : searched 16390 (16386 ∷ []) 1 ≡ 16387 ∷ 16388 ∷ 16389 ∷ 16384 ∷ 16385 ∷ 16386 ∷ []
  -- "the present rule": three blocks after 5 and around, blocks 0 and 1 used: 6, 7 and 2, "assigned ascending"
  pub ascending : found_first 8 (below 2) 0 (5 ∷ []) 3 ≡ 2 ∷ 6 ∷ 7 ∷ []
  -- those taken are not found again
  pub taken : found_first 8 (below 2) 0 (5 ∷ 6 ∷ []) 4 ≡ 2 ∷ 3 ∷ 4 ∷ 7 ∷ []
  -- W-208: "Before the present rule [..] a run": of the same blocks 2, 3 and 4 are one
  pub run : allocate_data 8 (below 2) 0 (5 ∷ []) 3 ≡ 2 ∷ 3 ∷ 4 ∷ []
  -- "at least as long as wanted": no four are, and the present rule is left
  pub no_run : allocate_data 8 (below 2) 0 (5 ∷ []) 4 ≡ 2 ∷ 3 ∷ 6 ∷ 7 ∷ []
  -- "free blocks, none taken by this call": 2 to 4 are one without 4
  pub run-taken : allocate_data 8 (below 2) 0 (4 ∷ []) 3 ≡ 5 ∷ 6 ∷ 7 ∷ []
  -- "the lowest such run", not the longest, and its first blocks
  pub run-lowest : allocate_data 16 (but ((2, 4) ∷ (5, 9) ∷ [])) 0 [] 2 ≡ 2 ∷ 3 ∷ []
  pub run-first : allocate_data 16 (but ((2, 4) ∷ (5, 9) ∷ [])) 0 [] 3 ≡ 5 ∷ 6 ∷ 7 ∷ []
  -- one that ends with the group, and one that would end behind it
  pub run-last : run_in 8 (λ b. ltb 4 b) 3 0 ≡ some 5
  pub run_past : run_in 8 (λ b. ltb 5 b) 3 0 ≡ none
  -- a last group that is shorter
  pub run-shorter : run_in 16390 (λ b. ltb 16386 b) 3 1 ≡ some 16387
  pub run-behind : run_in 16390 (λ b. ltb 16387 b) 3 1 ≡ none
  -- one block is a run, and none wanted are none
  pub run-one : allocate_data 8 (below 3) 0 (3 ∷ []) 1 ≡ 4 ∷ []
  pub run-nothing : allocate_data 8 (below 3) 0 [] 0 ≡ []
  -- "from the hint, cyclic, and in the first group that has a run": the second has one, and then only the first has
  pub run-hint : first_run 16390 (λ b. ltb b 5 || ltb 16386 b) 3 1 ≡ some 16387
  pub run-around : first_run 16390 (λ b. ltb b 5 || ltb 16387 b) 3 1 ≡ some 0
  -- it is the lowest of the first group even where the second has a lower hint and a longer one
  pub run-turn : first_run 16390 (λ b. ltb b 2 || ltb 9 b) 3 0 ≡ some 10
  -- the cursor shows: units of 16 and 2 take 10 to 25, and then, as no two of those left lie side by side, the first ones behind the highest taken
  pub cursor-first : allocate_data 33 (but scattered) 0 [] 16 ≡ range 10 16
  pub cursor-second : allocate_data 33 (but scattered) 0 (range 10 16) 2 ≡ 30 ∷ 32 ∷ []
  -- a run over a group's edge is none: "A run does not cross a group's end"
  pub over-edge : allocate_data 16390 (but ((5, 6) ∷ (7, 8) ∷ (16382, 16386) ∷ [])) 0 [] 4 ≡ 5 ∷ 7 ∷ 16382 ∷ 16383 ∷ []
  -- the hint shows from unit to unit: units of 16 and 2, of which the first finds its run in the second group, and the second begins there
  pub hint-first : allocate_data 16426 (but far) 0 [] 16 ≡ range 16394 16
  pub hint-moves : hint_after 0 (range 16394 16) ≡ 1
  pub hint-second : allocate_data 16426 (but far) 1 (range 16394 16) 2 ≡ 16424 ∷ 16425 ∷ []
  -- and with the head's hint it would not
  pub hint-head : allocate_data 16426 (but far) 0 (range 16394 16) 2 ≡ 100 ∷ 101 ∷ []
  -- 13: as many as are wanted are enough
  pub enough : too_few 8 (below 2) (5 ∷ []) 5 ≡ false
  pub too_few_lem : too_few 8 (below 2) (5 ∷ []) 6 ≡ true
  -- "The hint becomes the group of the last one so assigned, if any."
  pub hint-none : hint_after 3 [] ≡ 3
  pub hint-last : hint_after 3 (5 ∷ 16390 ∷ []) ≡ 1
  -- from unit to unit
  pub passes : passed (after (record { taken = 7 ∷ []; hint = 3; allocated = 10 }) moved) ≡ (7 ∷ 9 ∷ [], 0, 9)

pub new : New
unfolding computed below but scattered far moved passed
new = record {
  one-group = refl;
  two-groups = refl;
  four-groups = refl;
  cyclic = refl;
  modulo = refl;
  whole = refl;
  shorter = refl;
  from_start = refl;
  from-after = refl;
  from_last = refl;
  from_second = refl;
  around = refl;
  around-second = refl;
  ascending = refl;
  taken = refl;
  run = refl;
  no_run = refl;
  run-taken = refl;
  run-lowest = refl;
  run-first = refl;
  run-last = refl;
  run_past = refl;
  run-shorter = refl;
  run-behind = refl;
  run-one = refl;
  run-nothing = refl;
  run-hint = refl;
  run-around = refl;
  run-turn = refl;
  cursor-first = refl;
  cursor-second = refl;
  over-edge = refl;
  hint-first = refl;
  hint-moves = refl;
  hint-second = refl;
  hint-head = refl;
  enough = refl;
  too_few_lem = refl;
  hint-none = refl;
  hint-last = refl;
  passes = refl;
}
