-- Document 02, W-201: many reads in one call.
-- Assumes nothing.
use mathlib.Core.List.{List, [], ◌∷◌, ◌++◌, map, flat_map}
use Rattle.std.specs.Prelude.{Bool, ◌&&◌, ◌||◌, ℕ, ◌+◌, eqb, ltb, length, take, drop}
use Rattle.rules.specs.Lists.{pick◌then◌else◌, maybe, any}
use Rattle.rules.specs.Store.{Store, Volume, decode, card_of}
use Rattle.rules.specs.Refusal.{Outcome, ◌when◌, first_case}
use Rattle.rules.specs.Refusal.Refusal.{bad_reads}
use Rattle.rules.specs.Refusal.Outcome.{refuse, accept}
use Rattle.rules.specs.Integrity.{store_cases}
use Rattle.rules.specs.Arguments.{with_card}
use Rattle.rules.specs.Units.{units_of}
use Rattle.rules.specs.Read.{read_length, read_file}
use Rattle.rules.specs.Triples.{Triple, decode_triples, list_wrong, lengths_of}

-- 17: "the list is not whole triples, has more than 64, or its lengths exceed the output"
unfoldable pub reads_wrong : List ℕ → List ℕ → Bool
reads_wrong list out = list_wrong list || ltb (length out) (lengths_of (decode_triples list))

-- a piece that was read goes before what the reads behind it give
unfoldable pub with_piece : List ℕ → Outcome → Outcome
with_piece piece (refuse r) = refuse r
with_piece piece (accept answer left rest) = accept answer left (piece ++ rest)

-- "The first read in list order that would be refused refuses the whole call."
unfoldable pub then_reads : Outcome → Outcome → Outcome
then_reads (refuse r) next = refuse r
then_reads (accept n left piece) next = with_piece piece next

-- "one output buffer whose pieces lie one after another in list order. Each piece is what a single read into a buffer of that length gives, and its
-- unread rest is unchanged."; refusal 3 and those of the units, triple by triple
unfoldable pub read_all : ℕ → Store → List Triple → List ℕ → Outcome
read_all answer s [] out = accept answer s out
read_all answer s (t ∷ ts) out =
    then_reads (with_card (decode s) t.object (read_file t.offset s (take t.len out))) (read_all answer s ts (drop t.len out))

-- "pairs of object and unit"
pub record Pair : Type 0 where
  pub object : ℕ
  pub unit : ℕ

-- the pairs in which the n bytes from offset on of object's file lie
unfoldable pub pairs_of : ℕ → ℕ → ℕ → List Pair
pairs_of object offset n = map (λ u. record { object = object; unit = u }) (units_of offset (offset + n))

-- the pairs that a read touches: "a byte handed out lies there, in a hole or not"
unfoldable pub touched_by : Volume → Triple → List Pair
touched_by v t = maybe [] (λ c. pairs_of t.object t.offset (read_length c.size t.offset t.len)) (card_of v t.object)

-- two pairs are the same
unfoldable pub same_pair : Pair → Pair → Bool
same_pair p q = eqb p.object q.object && eqb p.unit q.unit

-- how many different pairs there are: each is counted where it stands last
unfoldable pub different : List Pair → ℕ
different [] = 0
different (p ∷ ps) = (pick any (same_pair p) ps then 0 else 1) + different ps

-- "the number of different pairs of object and unit that the reads touch"
unfoldable pub units_touched : Volume → List Triple → ℕ
units_touched v ts = different (flat_map (touched_by v) ts)

-- refusals 1 and 2, 17 "tried after 2", then those of the reads
unfoldable pub read_many_outcome : List ℕ → List ℕ → Store → Outcome
read_many_outcome list out s =
    first_case (store_cases s)
    (first_case ((bad_reads when reads_wrong list out) ∷ [])
    (read_all (units_touched (decode s) (decode_triples list)) s (decode_triples list) out))
