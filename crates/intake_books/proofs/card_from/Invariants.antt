-- `intake_books::card_from` meets its contract.
-- Assumes nothing.
use Prim.Native.Nat.{◌≤◌}
use Rattle.intake_books.proofs.FileLaws.{Under}
use Rattle.intake_books.proofs.card_from.Given as goal

abbrev pub invariant-loop-i : goal.invariant-loop-i
invariant-loop-i l = (l.a ≤ l.i) × (l.i ≤ l.n) × Under l.object l.a l.s l.i
