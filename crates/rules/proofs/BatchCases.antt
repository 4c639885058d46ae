-- Document 02, W-204: a batch of writes, by computation of the definitions: what refuses the list, which refusal wins, what stops a batch, and which of
-- its writes the plain arrays take.
-- Assumes nothing.
use mathlib.Core.Path.{◌≡◌, refl}
use mathlib.Core.Bool.{Bool, true, false}
use mathlib.Core.List.{List, [], ◌∷◌, ◌++◌}
use Prim.Native.Nat.{ℕ, ◌*◌}
use lib.ListN.{replicate}
use Rattle.rules.specs.Time.{Time}
use Rattle.rules.specs.Head.{encode_head}
use Rattle.rules.specs.Store.{Store, lent}
use Rattle.rules.specs.Refusal.{Result, number_of}
use Rattle.rules.specs.Refusal.Refusal.{no_space, bad_batch}
use Rattle.rules.specs.Refusal.Outcome.{refuse, accept}
use Rattle.rules.specs.Batch.{length_over, batch_wrong, batch_gives, after_write}
use Rattle.rules.specs.Act.{act, act_refused}
use Rattle.rules.specs.Act.Act.{batch}
use Rattle.rules.specs.Plain.{File, step}
use Rattle.rules.proofs.Opened.{opened}
use Rattle.rules.proofs.ManyCases.{triple, laid, longest}

-- the time of the batches
pub noon : Time
noon = record { seconds = 12; nanoseconds = 0 }

-- a store without a buffer: of it nothing is asked
pub nowhere : Store
nowhere = lent [] [] [] [] [] [] []

-- number, count, and whether it was refused, on a store of one block with no card; the first byte of its used map is a parameter
pub answers_on : ℕ → List ℕ → List ℕ → ℕ × ℕ × Bool
answers_on used list bytes = answers (lent (replicate 4096 0)
    (encode_head (record { uuid = replicate 16 0; blocks = 1; reserved = 0; hint = 0; cards = 0; extents = 0; groups = 0 })) [] [] []
    (used ∷ replicate 7 0) (replicate 8 0))
  where
    answers : Store → ℕ × ℕ × Bool
    answers s = ((act (batch list bytes noon) s).number, (act (batch list bytes noon) s).count, act_refused (batch list bytes noon) s)

-- what a batch of three writes is after its second, which left this store
pub third : ℕ → Store → Result
third done left = batch_gives 0 done left

-- the plain array of file 7
pub files : List File
files = record { object = 7; created = noon; bytes = 1 ∷ 2 ∷ 3 ∷ [] } ∷ []

-- of two writes to it, and a third to a file that there is none of, so many were done
pub after : ℕ → List File
after done = step (record { act = batch (laid 7 1 1 ++ laid 7 4 2 ++ laid 9 0 1) (8 ∷ 9 ∷ 6 ∷ 5 ∷ []) noon; refused = false; done = done }) files

pub record Table : Type 0 where
  pub number : number_of bad_batch ≡ 18
  -- "not whole triples": a byte too few, and one too many; no triple at all is whole
  pub short : batch_wrong (replicate 23 0) [] ≡ true
  pub long : batch_wrong (replicate 25 0) [] ≡ true
  pub whole : batch_wrong (replicate 24 0) [] ≡ false
  pub empty : batch_wrong [] [] ≡ false
  -- "has more than 64": writes of no byte, so that nothing else is wrong
  pub most : batch_wrong (replicate (64 * 24) 0) [] ≡ false
  pub more : batch_wrong (replicate (65 * 24) 0) [] ≡ true
  -- "a length exceeds 1,048,576": each alone
  pub longest-write : length_over (triple 7 0 1048576 ∷ triple 7 0 1048576 ∷ []) ≡ false
  pub too_long : length_over (triple 7 0 1 ∷ triple 7 0 1048577 ∷ []) ≡ true
  -- "the lengths do not add up to the bytes": fewer, and more
  pub equal : batch_wrong (laid 7 0 1 ++ laid 7 0 2) (0 ∷ 0 ∷ 0 ∷ []) ≡ false
  pub below : batch_wrong (laid 7 0 1 ++ laid 7 0 1) (0 ∷ 0 ∷ 0 ∷ []) ≡ true
  pub above : batch_wrong (laid 7 0 1 ++ laid 7 0 3) (0 ∷ 0 ∷ 0 ∷ []) ≡ true
  pub no-triple : batch_wrong [] (0 ∷ []) ≡ true
  -- the sum has no bound: this would be 1 in 64 bits
  pub wraps : batch_wrong (longest ++ laid 7 0 2) (0 ∷ []) ≡ true
  -- "tried after 2", and before the writes; a batch that stops at its first write is not refused
  pub after-2 : answers_on 3 (0 ∷ []) [] ≡ (2, 0, true)
  pub before-3 : answers_on 0 (laid 7 0 1) [] ≡ (18, 0, true)
  pub stopped-first : answers_on 0 (laid 7 0 1) (1 ∷ []) ≡ (3, 0, false)
  pub none_written : answers_on 0 [] [] ≡ (0, 0, false)
  -- "stops at the first that is refused": after one write, the store that it left and the count of writes
  pub stops : after_write 1 nowhere (refuse no_space) third ≡ batch_gives 13 1 nowhere
  pub goes_on : after_write 1 nowhere (accept 4096 nowhere []) third ≡ batch_gives 0 2 nowhere
  -- "the writes done, in order": the plain array takes so many
  pub none-taken : after 0 ≡ files
  pub one-taken : after 1 ≡ record { object = 7; created = noon; bytes = 1 ∷ 8 ∷ 3 ∷ [] } ∷ []
  pub two-taken : after 2 ≡ record { object = 7; created = noon; bytes = 1 ∷ 8 ∷ 3 ∷ 0 ∷ 9 ∷ 6 ∷ [] } ∷ []

pub cases : Table
unfolding opened triple laid longest noon nowhere answers_on third files after
cases = record {
  number = refl;
  short = refl;
  long = refl;
  whole = refl;
  empty = refl;
  most = refl;
  more = refl;
  longest-write = refl;
  too_long = refl;
  equal = refl;
  below = refl;
  above = refl;
  no-triple = refl;
  wraps = refl;
  after-2 = refl;
  before-3 = refl;
  stopped-first = refl;
  none_written = refl;
  stops = refl;
  goes_on = refl;
  none-taken = refl;
  one-taken = refl;
  two-taken = refl;
}
