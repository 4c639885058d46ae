-- `intake_books::same_file` meets its contract.
-- Assumes nothing.
use Rattle.intake_books.proofs.FileLaws.{Within}
use Prim.Native.Nat.{◌≤◌}
use Rattle.intake_books.proofs.same_file.Given as goal

abbrev pub invariant-loop-i : goal.invariant-loop-i
invariant-loop-i l = (l.a ≤ l.i) × (l.i ≤ l.m) × Within l.object l.limit l.a l.s l.i
