-- `rewrite::rewrite_units` meets its contract. The invariant: the plan of all units is that of the units so far, put before the plan of the rest.
-- Assumes nothing.
use Rattle.rewrite.proofs.WalkLaws.{Walk}
use Rattle.rewrite.proofs.rewrite_units.Given as goal

abbrev pub invariant-loop-i : goal.invariant-loop-i
invariant-loop-i l =
    Walk l.image l.uuid l.initial.map l.initial.kept l.initial.blocks l.total l.limit l.object l.change l.units l.slots l.old l.hint l.allocated l.w l.map l.kept l.blocks l.progress l.skip l.i
