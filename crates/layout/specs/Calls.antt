-- Document 01, the program `layout`: its calls.
-- Assumes nothing.
use Rattle.std.specs.Prelude.{List, [], ◌∷◌, ◌++◌, replicate}
use Rattle.rules.specs.Time.{Time}
use Rattle.rules.specs.Call.{Call}
use Rattle.rules.specs.Call.Call.{fresh, enter, write, grow, settle}

-- the time lent to each
abbrev pub moment : Time
moment = record { seconds = 1700000000; nanoseconds = 0 }

-- "Store: 8 blocks, 1 reserved. It enters file 7"
unfoldable pub beginning : List Call
beginning = fresh (replicate 16 7) 1 ∷ enter 7 moment ∷ []

-- "writes 9,000 bytes at 0, writes 10 at 5,000"
unfoldable pub writes : List Call
writes = write 7 0 (replicate 9000 1) moment ∷ write 7 5000 (replicate 10 2) moment ∷ []

-- "grows to 20,000 (refused 13), settles, grows again"
unfoldable pub grows : List Call
grows = grow 7 20000 moment ∷ settle ∷ grow 7 20000 moment ∷ []

-- all of them
unfoldable pub layout_calls : List Call
layout_calls = beginning ++ writes ++ grows
