-- The search for clear bits: what a run of the map adds to the blocks taken so far.
-- Assumes nothing.
use Rattle.std.specs.Prelude.{◌≡◌, true, ◌&&◌, ℕ, ◌+◌, ◌-◌, ◌*◌, ◌%◌, ◌≤◌, ◌<◌, ltb, length, take, get_or, MatchOption}
use Rattle.std.specs.Prelude as std
use Rattle.std.proofs.Math.Option.{Option, none, some}
use mathlib.Core.List.{List, [], ◌∷◌, ◌++◌, flat_map}
use Rattle.rules.specs.Sizes.{unit_blocks, most_blocks}
use Rattle.rules.specs.Lists.{pick◌then◌else◌, maybe, range, filter, insert}
use Rattle.rules.specs.Bytes.{bit_set}
use Rattle.rules.specs.Allocation.{allocation_groups, group_start, group_end, first_run}
use Rattle.runs.specs.Runs.{clear}
use Rattle.allocation.specs.declared.taken.Taken.{Taken}

-- a map of a device's blocks, of which there are at most as many as a store has
abbrev pub OnMap : ℕ → List ℕ → Type 0
OnMap blocks map = (blocks ≤ most_blocks) × (blocks ≤ 8 * length map)

-- an answer of the code is the one of the rules
abbrev pub Says : std.Option ℕ → Option ℕ → Type 0
Says r o = MatchOption r (o ≡ none) (λ b. o ≡ some b)

-- the clear bits from one place on and before another
unfoldable pub clear_bits : List ℕ → ℕ → ℕ → List ℕ
clear_bits map from end = filter (clear map) (range from (end - from))

-- every bit between two places before an end is set
pub record Skipped (map : List ℕ) (from end r : ℕ) : Type 0 where
  pub least : from ≤ r
  pub most : r ≤ end
  pub before : (k : ℕ) → from ≤ k → k < r → bit_set map k ≡ true

-- blocks put in at their places, one after another
unfoldable pub inserts : List ℕ → List ℕ → List ℕ
inserts ys [] = ys
inserts ys (z ∷ zs) = inserts (insert ltb z ys) zs

-- where the search between two places starts: at what is past the highest block taken there, and at the first place where that is none of them
unfoldable pub start_at : ℕ → ℕ → ℕ → ℕ
start_at start end past = pick ltb start past && ltb past end then past else start

-- the clear bits of a group in the order of the search: from there on, then around
unfoldable pub group_bits : List ℕ → ℕ → ℕ → ℕ → List ℕ
group_bits map blocks past g =
    let from : ℕ = start_at (group_start g) (group_end blocks g) past in
    clear_bits map from (group_end blocks g) ++ clear_bits map (group_start g) from

-- the clear bits of the groups from the i-th of their order on, by what is past the highest block taken in each
unfoldable pub bits_from : List ℕ → ℕ → ℕ → List ℕ → ℕ → List ℕ
bits_from map blocks hint past i =
    let groups : ℕ = allocation_groups blocks in
    flat_map (λ k. let g : ℕ = (hint % groups + k) % groups in group_bits map blocks (get_or past g 0) g) (range i (groups - i))

-- the first of them, ascending
unfoldable pub found_bits : List ℕ → ℕ → ℕ → List ℕ → ℕ → List ℕ
found_bits map blocks hint past want = inserts [] (take want (bits_from map blocks hint past 0))

-- the first bits of the first run of clear ones, and those where there is none
unfoldable pub chosen_bits : List ℕ → ℕ → ℕ → List ℕ → ℕ → List ℕ
chosen_bits map blocks hint past want =
    maybe (found_bits map blocks hint past want) (λ b. range b want) (first_run blocks (clear map) want hint)

-- the blocks that are held
abbrev pub held : Taken → List ℕ
held t = take t.count t.blocks

-- they are at most so many, and stand in an array of a unit's
pub record Room (most : ℕ) (t : Taken) : Type 0 where
  pub fits : t.count ≤ most
  pub places : length t.blocks ≡ unit_blocks

-- each of them is below a bound
pub record Within (bound : ℕ) (t : Taken) : Type 0 where
  pub each : (i : ℕ) → i < t.count → get_or t.blocks i 0 < bound

-- each number of a list is below a bound
abbrev pub EachBelow : ℕ → List ℕ → Type 0
EachBelow bound xs = (i : ℕ) → i < length xs → get_or xs i 0 < bound

-- those that were held and then the others, as many as wanted
pub record Collected (want : ℕ) (ys zs : List ℕ) (r : Taken) : Type 0 where
  pub list : held r ≡ take want (ys ++ zs)
  pub room : Room want r

-- those that were held, ascending
pub record Sorted (t r : Taken) : Type 0 where
  pub list : held r ≡ inserts [] (held t)
  pub count : r.count ≡ t.count
  pub places : length r.blocks ≡ unit_blocks

-- these blocks, at most so many, each below a bound
pub record Chosen (want bound : ℕ) (bs : List ℕ) (r : Taken) : Type 0 where
  pub list : held r ≡ bs
  pub room : Room want r
  pub within : Within bound r
