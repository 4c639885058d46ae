-- The public calls as one type: each with its arguments and without the store's buffers.
-- Assumes nothing.
use Rattle.std.specs.Prelude.{List, [], ◌∷◌, ℕ, ◌<◌, ◌^◌}
use Rattle.rules.specs.Sizes.{most_runs, archive_runs}
use Rattle.rules.specs.Bytes.{Bytes}
use Rattle.rules.specs.Time.{Time}
use Rattle.rules.specs.Store.{Store}
use Rattle.rules.specs.Refusal.{Result, result}
use Rattle.rules.specs.Fresh.{fresh_outcome}
use Rattle.rules.specs.Enter.{enter_outcome}
use Rattle.rules.specs.Write.{write_outcome, grow_outcome}
use Rattle.rules.specs.Read.{read_outcome}
use Rattle.rules.specs.ReadMany.{read_many_outcome}
use Rattle.rules.specs.Stretches.{stretches_outcome}
use Rattle.rules.specs.Settle.{settle_outcome, fill_outcome}

-- the calls that leave the store as it is; a read and a list of stretches lend their output buffer, and many reads lend their list too
pub data Look : Type 0 where
  read : (object offset : ℕ) (out : List ℕ) → Look
  read_many : (list out : List ℕ) → Look
  data_stretches : (object first units : ℕ) (out : List ℕ) → Look
  fill : Look

-- "fresh, enter (a new file), write, grow, read, settle, fill", and what document 02 adds
pub data Call : Type 0 where
  fresh : (uuid : List ℕ) (reserved : ℕ) → Call
  enter : (object : ℕ) (time : Time) → Call
  write : (object offset : ℕ) (bytes : List ℕ) (time : Time) → Call
  write_archive : (object offset : ℕ) (bytes : List ℕ) (time : Time) → Call
  grow : (object size : ℕ) (time : Time) → Call
  settle : Call
  look : Look → Call

-- a number that a caller can lend
abbrev pub Word : ℕ → Type 0
Word n = n < 2 ^ 64

-- a time that one can
abbrev pub WordTime : Time → Type 0
WordTime t = Word t.seconds × Word t.nanoseconds

-- the arguments are numbers of 64 bits and bytes
abbrev pub LookInRange : Look → Type 0
LookInRange (read object offset out) = Word object × Word offset × Bytes out
LookInRange (read_many list out) = Bytes list × Bytes out
LookInRange (data_stretches object first units out) = Word object × Word first × Word units × Bytes out
LookInRange fill = Unit {0}

-- so for every call; nothing else is assumed of one
abbrev pub InRange : Call → Type 0
InRange (fresh uuid reserved) = Bytes uuid × Word reserved
InRange (enter object time) = Word object × WordTime time
InRange (write object offset bytes time) = Word object × Word offset × Bytes bytes × WordTime time
InRange (write_archive object offset bytes time) = Word object × Word offset × Bytes bytes × WordTime time
InRange (grow object size time) = Word object × Word size × WordTime time
InRange settle = Unit {0}
InRange (look l) = LookInRange l

-- what a call gives: what a write keeps of a unit is held to `most_runs`, and that is all in which an archive writer's is another; reads and lists of
-- stretches alone lend a buffer besides the store that they may change
unfoldable pub call : Call → Store → Result
call (fresh uuid reserved) s = result s [] (fresh_outcome uuid reserved s)
call (enter object time) s = result s [] (enter_outcome object time s)
call (write object offset bytes time) s = result s [] (write_outcome most_runs object offset bytes time s)
call (write_archive object offset bytes time) s = result s [] (write_outcome archive_runs object offset bytes time s)
call (grow object size time) s = result s [] (grow_outcome object size time s)
call settle s = result s [] (settle_outcome s)
call (look (read object offset out)) s = result s out (read_outcome object offset out s)
call (look (read_many list out)) s = result s out (read_many_outcome list out s)
call (look (data_stretches object first units out)) s = result s out (stretches_outcome object first units out s)
call (look fill) s = result s [] (fill_outcome s)

-- the store after the calls
unfoldable pub run : List Call → Store → Store
run [] s = s
run (c ∷ cs) s = run cs (call c s).store
