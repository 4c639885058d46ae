-- What one write of a batch does to the store, and what the batch gives past refusals 1 and 2.
-- Assumes nothing.
use Rattle.std.specs.Prelude.{◌≡◌, List, [], ◌∷◌, ℕ}
use Rattle.rules.specs.Time.{Time}
use Rattle.rules.specs.Store.{Store}
use Rattle.rules.specs.Refusal.{Result, ◌when◌}
use Rattle.rules.specs.Refusal.Refusal.{bad_batch}
use Rattle.rules.specs.Triples.{decode_triples}
use Rattle.rules.specs.Batch.{batch_wrong, batch_from, unless}
use Rattle.rules.specs.Call.{call}
use Rattle.rules.specs.Call.Call.{write}

-- a write was done as a call: its number, and the store that it left
pub record Wrote (object offset : ℕ) (bytes : List ℕ) (seconds nanoseconds : ℕ) (s : Store) (number : ℕ) (left : Store) : Type 0 where
  pub number_is : number ≡ (call (write object offset bytes (record { seconds = seconds; nanoseconds = nanoseconds })) s).number
  pub left_is : left ≡ (call (write object offset bytes (record { seconds = seconds; nanoseconds = nanoseconds })) s).store

-- what a batch gives where refusals 1 and 2 do not come: 18, or what its writes give
unfoldable pub batch_tried : (list bytes : List ℕ) (time : Time) → Store → Result
batch_tried list bytes time s = unless ((bad_batch when batch_wrong list bytes) ∷ []) s (batch_from (decode_triples list) bytes time 0 s)
