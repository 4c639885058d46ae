-- What holds of every call by the shape of its result alone: a refused call leaves what it was lent, and a number other than 0 comes with count 0.
-- Assumes nothing.
use mathlib.Core.Path.{◌≡◌, refl}
use mathlib.Core.Logic.{◌⊎◌, inl, inr}
use mathlib.Core.List.{List, []}
use Prim.Native.Nat.{ℕ, ◌≤◌}
use native.Mathlib.Omega.{arith}
use Rattle.rules.specs.Store.{Store}
use Rattle.rules.specs.Refusal.{Refusal, Outcome, Result, number_of, result}
use Rattle.rules.specs.Refusal.Refusal.{wrong_length, broken_rule, no_card, card_exists, past_limit, below_size, bad_time, no_card_place, no_checksum, not_backed, nonzero_past_end, checksum_differs, no_space, count_disagrees, no_group_place, no_extent_place, bad_reads, bad_batch, bad_range}
use Rattle.rules.specs.Refusal.Outcome.{refuse, accept}
use Rattle.rules.specs.Call.{Call, call}
use Rattle.rules.specs.Call.Look.{read, read_many, data_stretches, fill}
use Rattle.rules.specs.Call.Call.{fresh, enter, write, write_archive, grow, settle, look}

-- document 01's numbers are 1 to 16, and document 02's go on from there
pub record Numbered (n : ℕ) : Type 0 where
  pub least : 1 ≤ n
  pub most : n ≤ 19

pub numbered : (r : Refusal) → Numbered (number_of r)
unfolding number_of
numbered wrong_length = record { least = omega arith; most = omega arith }
numbered broken_rule = record { least = omega arith; most = omega arith }
numbered no_card = record { least = omega arith; most = omega arith }
numbered card_exists = record { least = omega arith; most = omega arith }
numbered past_limit = record { least = omega arith; most = omega arith }
numbered below_size = record { least = omega arith; most = omega arith }
numbered bad_time = record { least = omega arith; most = omega arith }
numbered no_card_place = record { least = omega arith; most = omega arith }
numbered no_checksum = record { least = omega arith; most = omega arith }
numbered not_backed = record { least = omega arith; most = omega arith }
numbered nonzero_past_end = record { least = omega arith; most = omega arith }
numbered checksum_differs = record { least = omega arith; most = omega arith }
numbered no_space = record { least = omega arith; most = omega arith }
numbered count_disagrees = record { least = omega arith; most = omega arith }
numbered no_group_place = record { least = omega arith; most = omega arith }
numbered no_extent_place = record { least = omega arith; most = omega arith }
numbered bad_reads = record { least = omega arith; most = omega arith }
numbered bad_batch = record { least = omega arith; most = omega arith }
numbered bad_range = record { least = omega arith; most = omega arith }

-- a refused call: its number is one of the documents', its count 0, and the store and the output buffer are those lent
pub record Unchanged (s : Store) (out : List ℕ) (r : Result) : Type 0 where
  pub number : Numbered r.number
  pub count : r.count ≡ 0
  pub store : r.store ≡ s
  pub buffer : r.out ≡ out

-- a call is accepted or leaves all as it was
pub result-cases : (s : Store) (out : List ℕ) (o : Outcome) → ((result s out o).number ≡ 0) ⊎ Unchanged s out (result s out o)
unfolding result
result-cases s out (refuse r) = inr (record { number = numbered r; count = refl; store = refl; buffer = refl })
result-cases s out (accept n left filled) = inl refl

-- the output buffer that a call lends, besides the store
unfoldable pub lent_out : Call → List ℕ
lent_out (fresh uuid reserved) = []
lent_out (enter object time) = []
lent_out (write object offset bytes time) = []
lent_out (write_archive object offset bytes time) = []
lent_out (grow object size time) = []
lent_out settle = []
lent_out (look (read object offset out)) = out
lent_out (look (read_many list out)) = out
lent_out (look (data_stretches object first units out)) = out
lent_out (look fill) = []

-- so is every public one
pub call-cases : (c : Call) (s : Store) → ((call c s).number ≡ 0) ⊎ Unchanged s (lent_out c) (call c s)
unfolding call lent_out
call-cases (fresh uuid reserved) s = result-cases s [] _
call-cases (enter object time) s = result-cases s [] _
call-cases (write object offset bytes time) s = result-cases s [] _
call-cases (write_archive object offset bytes time) s = result-cases s [] _
call-cases (grow object size time) s = result-cases s [] _
call-cases settle s = result-cases s [] _
call-cases (look (read object offset out)) s = result-cases s out _
call-cases (look (read_many list out)) s = result-cases s out _
call-cases (look (data_stretches object first units out)) s = result-cases s out _
call-cases (look fill) s = result-cases s [] _
