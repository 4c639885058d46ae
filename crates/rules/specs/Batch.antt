-- Document 02, W-204: a batch of writes.
-- Assumes nothing.
use Rattle.std.specs.Prelude.{List, [], ◌∷◌, ◌++◌, Bool, not, ◌||◌, ℕ, suc, eqb, ltb, length, take, drop}
use Rattle.rules.specs.Lists.{pick◌then◌else◌, any}
use Rattle.rules.specs.Sizes.{most_transfer, most_runs}
use Rattle.rules.specs.Time.{Time}
use Rattle.rules.specs.Store.{Store}
use Rattle.rules.specs.Refusal.{Case, Outcome, Result, ◌when◌, number_of}
use Rattle.rules.specs.Refusal.Refusal.{bad_batch}
use Rattle.rules.specs.Refusal.Outcome.{refuse, accept}
use Rattle.rules.specs.Integrity.{store_cases}
use Rattle.rules.specs.Write.{write_outcome}
use Rattle.rules.specs.Triples.{Triple, decode_triples, list_wrong, lengths_of}

-- "a length exceeds 1,048,576"
unfoldable pub length_over : List Triple → Bool
length_over ts = any (λ t. ltb most_transfer t.len) ts

-- 18: "the list is not whole triples, has more than 64, a length exceeds 1,048,576 or the lengths do not add up to the bytes"
unfoldable pub batch_wrong : List ℕ → List ℕ → Bool
batch_wrong list bytes =
    list_wrong list || length_over (decode_triples list) || not (eqb (lengths_of (decode_triples list)) (length bytes))

-- the refusals of the call: 1 and 2, and 18 "tried after 2"
unfoldable pub batch_cases : List ℕ → List ℕ → Store → List Case
batch_cases list bytes s = store_cases s ++ ((bad_batch when batch_wrong list bytes) ∷ [])

-- what a batch gives: the number of writes done, the store that they left, and what stopped it, or 0
abbrev pub batch_gives : (number done : ℕ) → Store → Result
batch_gives number done s = record { number = number; count = done; store = s; out = [] }

-- "it stops at the first that is refused: the earlier ones remain, and the count says how many were done and the returned number what stopped it"
unfoldable pub after_write : ℕ → Store → Outcome → (ℕ → Store → Result) → Result
after_write done s (refuse r) next = batch_gives (number_of r) done s
after_write done s (accept n left out) next = next (suc done) left

-- "single writes in list order", each of the bytes that are next, with all its refusals: 1 and 2 too are tried before each. "0 if all were done"
unfoldable pub batch_from : List Triple → List ℕ → Time → ℕ → Store → Result
batch_from [] bytes time done s = batch_gives 0 done s
batch_from (t ∷ ts) bytes time done s =
    after_write done s (write_outcome most_runs t.object t.offset (take t.len bytes) time s)
    (batch_from ts (drop t.len bytes) time)

-- the first case that holds gives its number with count 0 and leaves the store as lent
unfoldable pub unless : List Case → Store → Result → Result
unless [] s next = next
unless (c ∷ cs) s next = pick c.holds then batch_gives (number_of c.refusal) 0 s else unless cs s next

-- what a batch gives. It is neither refused nor accepted where it stops after some writes, so it has no `Outcome`
unfoldable pub write_batch : List ℕ → List ℕ → Time → Store → Result
write_batch list bytes time s = unless (batch_cases list bytes s) s (batch_from (decode_triples list) bytes time 0 s)
