-- What checking the reads of a list one after another finds.
-- Assumes nothing.
use Rattle.std.specs.Prelude.{◌≡◌, ℕ, ◌+◌, ◌/◌, ◌≤◌, ◌<◌, length, get_or}
use mathlib.Core.List.{List, flat_map}
use Rattle.rules.specs.Triples.{triple_bytes, decode_triples}
use Rattle.rules.specs.Lists.{pick◌then◌else◌, any}
use Rattle.rules.specs.ReadMany.{Pair, same_pair, different}
use Rattle.triples.specs.Triple.{triple_at}
use Rattle.read_checks.specs.Reads.{Looked, first_number, unit_number, units_read, read_number, pairs_touched, pair_is, pairs_before, new_units, SizeIs}

-- the first i reads are right, and the sizes of their files noted
pub record Earlier (b : Looked) (cards list sizes : List ℕ) (i : ℕ) : Type 0 where
  pub right : (j : ℕ) → j < i → read_number b cards (triple_at list j) ≡ 0
  pub noted : (j : ℕ) → j < i → SizeIs b.head cards (triple_at list j) (get_or sizes j 0)

-- a unit of object's file of this size was checked, after `made` inspections: r refuses it, and c were made by then,
-- whether it is refused or not: one more where it is in none of these pairs
pub record NewChecked (b : Looked) (object size unit : ℕ) (ps : List Pair) (made r c : ℕ) : Type 0 where
  pub number : r ≡ unit_number b object size unit
  pub count : c ≡ made + (pick any (same_pair (pair_is object unit)) ps then 0 else 1)

-- units of it were, after `made` inspections: r refuses the first that is refused, and c were made by then, at most
-- `limit` more: where none is refused, one for each that is in none of these pairs
pub record UnitsChecked (b : Looked) (object size : ℕ) (us : List ℕ) (ps : List Pair) (made limit r c : ℕ) : Type 0 where
  pub number : r ≡ first_number (unit_number b object size) us
  pub count : r ≡ 0 → c ≡ made + new_units ps object us
  pub most : c ≤ made + limit

-- the i-th read was checked, after `made` inspections: r refuses it, c were made by then, and the sizes are `left`.
-- A unit was inspected for each that no read before it touches
pub record ReadChecked (b : Looked) (cards list sizes : List ℕ) (i made : ℕ) (left : List ℕ) (r c : ℕ) : Type 0 where
  pub number : r ≡ read_number b cards (triple_at list i)
  pub room : length left ≡ length sizes
  pub kept : (j : ℕ) → j < i → get_or left j 0 ≡ get_or sizes j 0
  pub noted : r ≡ 0 → SizeIs b.head cards (triple_at list i) (get_or left i 0)
  pub count : r ≡ 0 → c ≡ made + new_units (pairs_before list sizes i) (triple_at list i).object (units_read (triple_at list i) (get_or left i 0))
  pub most : c ≤ made + 17

-- all were, r refuses them and c inspections were made: the first refusal, or as many inspections as there are different units, and every size
pub record ListChecked (b : Looked) (cards list left : List ℕ) (r c : ℕ) : Type 0 where
  pub number : r ≡ first_number (read_number b cards) (decode_triples list)
  pub count : r ≡ 0 → c ≡ different (flat_map (pairs_touched b.head cards) (decode_triples list))
  pub noted : r ≡ 0 → (j : ℕ) → j < length list / triple_bytes → SizeIs b.head cards (triple_at list j) (get_or left j 0)
