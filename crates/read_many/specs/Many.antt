-- What many reads give, refusals 1 and 2 past: the rules' call, told of the buffers that it looks into.
-- Assumes nothing.
use mathlib.Core.List.{List, [], ◌∷◌, ◌++◌, flat_map}
use Rattle.std.specs.Prelude.{ℕ, eqb, take, drop}
use Rattle.rules.specs.Lists.{pick◌then◌else◌}
use Rattle.rules.specs.Refusal.{number_of}
use Rattle.rules.specs.Refusal.Refusal.{bad_reads}
use Rattle.rules.specs.Triples.{Triple, decode_triples}
use Rattle.rules.specs.ReadMany.{reads_wrong, different}
use Rattle.read.specs.Gives.{Gives, gives, gives_read}
use Rattle.read_checks.specs.Reads.{Looked, first_number, read_number, pairs_touched}

module _ (b : Looked) (cards : List ℕ) where
  -- the buffer after reads into its pieces, one after another, each as a single read leaves it
  unfoldable pub handed_all : List Triple → List ℕ → List ℕ
  handed_all [] out = out
  handed_all (t ∷ ts) out =
      (gives_read b.image b.head cards b.extents b.groups t.object t.offset (take t.len out)).out ++ handed_all ts (drop t.len out)

  -- the reads of a list: the first refusal, or the number of different units and the buffer
  unfoldable pub gives_all : List Triple → List ℕ → Gives
  gives_all ts out =
      pick eqb (first_number (read_number b cards) ts) 0 then gives 0 (different (flat_map (pairs_touched b.head cards) ts)) (handed_all ts out)
      else gives (first_number (read_number b cards) ts) 0 out

  -- 17 first
  unfoldable pub gives_many : List ℕ → List ℕ → Gives
  gives_many list out = pick reads_wrong list out then gives (number_of bad_reads) 0 out else gives_all (decode_triples list) out
