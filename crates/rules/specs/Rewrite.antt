-- Document 01: what `rewrite_unit` makes of each unit of a change, and refusals 9 to 14 "unit by unit, ascending; the first found is given".
-- Assumes nothing.
use Rattle.std.specs.Prelude.{List, [], ◌∷◌, ◌++◌, Bool, true, false, ◌||◌, ℕ, ◌+◌, ◌-◌, ltb, length}
use Rattle.std.proofs.Math.Option.{Option}
use Rattle.rules.specs.Lists.{pick◌then◌else◌}
use Rattle.rules.specs.Sizes.{unit_blocks, most_allocated}
use Rattle.rules.specs.Checksum.{unit_checksum}
use Rattle.rules.specs.Store.{Volume}
use Rattle.rules.specs.Refusal.{Refusal}
use Rattle.rules.specs.Refusal.Refusal.{no_space, count_disagrees}
use Rattle.rules.specs.Units.{Change, touches, reads_old, assembled}
use Rattle.rules.specs.Inspect.{Inspected, inspect_unit, unit_mapping}
use Rattle.rules.specs.Inspect.Inspected.{damaged, hole, checked}
use Rattle.rules.specs.Kept.{retained_blocks, wanted, assigned, superseded}
use Rattle.rules.specs.Allocation.{allocate_data, too_few, hint_after}

-- what passes from unit to unit: the blocks that the call took, the hint, and the card's count
pub record Progress : Type 0 where
  pub taken : List ℕ
  pub hint : ℕ
  pub allocated : ℕ

-- what a rewritten unit becomes: its valid bytes and their checksum, what it keeps (an entry for each of its blocks), where its blocks are,
-- the new ones among them, and the old ones that it no longer has
pub record Rewritten : Type 0 where
  pub unit : ℕ
  pub bytes : List ℕ
  pub checksum : ℕ
  pub kept : List (Option ℕ)
  pub blocks : List ℕ
  pub new : List ℕ
  pub superseded : List ℕ

-- what becomes of a unit: a refusal, nothing ("An untouched hole stays a hole."), or a new mapping and checksum
pub data Step : Type 0 where
  stopped : Refusal → Step
  untouched : Step
  rewritten : Rewritten → Step

-- "the card's count loses superseded blocks and gains new ones"; each place is counted. Where the difference would be cut off, 14 refuses
unfoldable pub allocated_after : ℕ → Rewritten → ℕ
allocated_after n r = n - length r.superseded + length r.new

-- 14: "The blocks this unit retires exceed the card's count as the earlier units left it, or the new count exceeds 34,359,738,367."
unfoldable pub is_count_off : ℕ → Rewritten → Bool
is_count_off n r = ltb n (length r.superseded) || ltb most_allocated (allocated_after n r)

-- refusal 14 for a unit that was laid out
unfoldable pub counted : Progress → Rewritten → Step
counted p r = pick is_count_off p.allocated r then stopped count_disagrees else rewritten r

-- a unit of a change to a file of a volume
module _ (v : Volume) (c : Change) (unit : ℕ) where
  -- with these valid bytes, kept blocks and new blocks
  unfoldable pub lay_out : List ℕ → List (Option ℕ) → List ℕ → Rewritten
  lay_out bytes kept new = record {
    unit = unit;
    bytes = bytes;
    checksum = unit_checksum v.uuid c.object unit bytes;
    kept = kept;
    blocks = assigned kept new;
    new = new;
    superseded = superseded (unit_mapping v c.object unit unit_blocks) kept;
  }

  -- refusal 13, then the blocks, where it keeps these
  unfoldable pub allocate_unit : Progress → List ℕ → List (Option ℕ) → Step
  allocate_unit p bytes kept =
      pick too_few v.blocks v.used p.taken (wanted kept) then stopped no_space
      else counted p (lay_out bytes kept (allocate_data v.blocks v.used p.hint p.taken (wanted kept)))

-- the same, with a limit of runs, and what the units before it left
module _ (limit : ℕ) (v : Volume) (c : Change) (unit : ℕ) (p : Progress) where
  -- from these old bytes: none where they were not read, and verified where they were checked
  unfoldable pub rewrite_from : Bool → List ℕ → Step
  rewrite_from verified old =
      allocate_unit v c unit p (assembled c unit old)
      (retained_blocks limit c unit verified (unit_mapping v c.object unit unit_blocks))

  -- where it was read
  unfoldable pub after_read : Inspected → Step
  after_read (damaged r) = stopped r
  after_read hole = pick touches c unit then rewrite_from false [] else untouched
  after_read (checked old) = rewrite_from true old

  -- `rewrite_unit`: "Its old bytes are read and checked if there are any and the write does not cover all of them."
  unfoldable pub rewrite_unit : Step
  rewrite_unit =
      pick reads_old c unit then after_read (inspect_unit v c.object c.old_size unit) else rewrite_from false []

-- what the next unit finds
unfoldable pub after : Progress → Rewritten → Progress
after p r = record {
  taken = p.taken ++ r.new;
  hint = hint_after p.hint r.new;
  allocated = allocated_after p.allocated r;
}

-- what becomes of a change's units: the first refusal, or the rewritten units ascending and what they leave
pub data Plan : Type 0 where
  refused : Refusal → Plan
  planned : List Rewritten → Progress → Plan

-- a rewritten unit, and the plan of those after it
unfoldable pub prepend : Rewritten → Plan → Plan
prepend r (refused e) = refused e
prepend r (planned rs p) = planned (r ∷ rs) p

-- a unit, and then those after it with what it left
unfoldable pub and_then : Progress → Step → (Progress → Plan) → Plan
and_then p (stopped r) next = refused r
and_then p untouched next = next p
and_then p (rewritten r) next = prepend r (next (after p r))

-- `rewrite_units`: each unit in turn; ascending, as the lists of units are
unfoldable pub rewrite_units : ℕ → Volume → Change → List ℕ → Progress → Plan
rewrite_units limit v c [] p = planned [] p
rewrite_units limit v c (u ∷ us) p = and_then p (rewrite_unit limit v c u p) (λ q. rewrite_units limit v c us q)
