-- `intake_books::files_right` meets its contract.
-- Assumes nothing.
use Rattle.intake_books.proofs.FileLaws.{Passed, Filed}
use Prim.Native.Nat.{◌-◌, ◌≤◌}
use Rattle.intake_books.proofs.files_right.Given as goal

abbrev pub invariant-loop-i : goal.invariant-loop-i
invariant-loop-i l =
    (l.j ≤ l.n) × (l.i ≤ l.m) × Passed l.cards l.m l.extents l.j l.i × Filed l.n l.cards l.extents l.i

abbrev pub decreases-loop-i : goal.decreases-loop-i
decreases-loop-i l = l.m - l.i
