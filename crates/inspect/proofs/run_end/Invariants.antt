-- `inspect::run_end` meets its contract. The loop keeps: the entries from `i` up to `e` are a run.
-- Assumes nothing.
use Rattle.inspect.specs.Runs.{Run}
use Rattle.inspect.proofs.run_end.Given as goal

abbrev pub invariant-loop-e : goal.invariant-loop-e
invariant-loop-e l = Run l.blocks l.i l.e
