-- `batch::write_all` meets its contract. The loop keeps: the writes from here on do to this store what all of them do to the first.
-- Assumes nothing.
use mathlib.Core.Path.{◌≡◌}
use Prim.Native.Nat.{◌≤◌}
use lib.ListN.{length}
use Rattle.lent.specs.Lent.{store_of, SamePlaces}
use Rattle.batch.proofs.BatchLaws.{Between}
use Rattle.batch.proofs.write_all.Given as goal

abbrev pub invariant-loop-i : goal.invariant-loop-i
invariant-loop-i l =
    (l.i ≤ l.n) × SamePlaces l.initial.store l.store × Between l.list l.bytes l.seconds l.nanoseconds l.shared (store_of l.initial.store) l.again l.i l.at (store_of l.store)
