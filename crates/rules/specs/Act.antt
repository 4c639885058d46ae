-- What a user does to a store: one of the calls that are done whole or not at all, or a batch of writes, which can stop after some of them.
-- Assumes nothing.
use Rattle.std.specs.Prelude.{List, Bool, not, ℕ, eqb}
use Rattle.rules.specs.Lists.{any}
use Rattle.rules.specs.Bytes.{Bytes}
use Rattle.rules.specs.Time.{Time}
use Rattle.rules.specs.Store.{Store}
use Rattle.rules.specs.Refusal.{Result}
use Rattle.rules.specs.Batch.{batch_cases, write_batch}
use Rattle.rules.specs.Call.{Call, InRange, WordTime, call}

-- a batch lends its list of triples, the bytes of all of them joined, and one time
pub data Act : Type 0 where
  whole : Call → Act
  batch : (list bytes : List ℕ) (time : Time) → Act

-- the arguments are numbers of 64 bits and bytes
abbrev pub ActInRange : Act → Type 0
ActInRange (whole c) = InRange c
ActInRange (batch list bytes time) = Bytes list × Bytes bytes × WordTime time

-- what an act gives
unfoldable pub act : Act → Store → Result
act (whole c) s = call c s
act (batch list bytes time) s = write_batch list bytes time s

-- a call was refused
unfoldable pub was_refused : Result → Bool
was_refused r = not (eqb r.number 0)

-- whether an act was refused. A batch is by 1, 2 and 18 alone: where it stops "this is not a refused call"
unfoldable pub act_refused : Act → Store → Bool
act_refused (whole c) s = was_refused (call c s)
act_refused (batch list bytes time) s = any (λ c. c.holds) (batch_cases list bytes s)

-- "the number of [parts] that the call answers": the writes done of a batch. Of no other act does the step speak of parts done
unfoldable pub parts_done : Act → Store → ℕ
parts_done (whole c) s = 0
parts_done (batch list bytes time) s = (write_batch list bytes time s).count
