use mathlib.Core.Path.{◌∙◌}
use Rattle.std.proofs.lemmas.List.{nil_from_length}
use Rattle.crc32c_window.proofs.WindowLaws.{pushed_more, pushed-all}
use Rattle.crc32c_window.proofs.push.Goals as goal

pub loop-piece-preserved : goal.loop-piece-preserved
loop-piece-preserved c =
    let steps = c.in-Some.ensures.steps in
    (steps.0 ∙ c.loop-piece.invariant.0, pushed_more _ _ _ _ _ _ _ c.loop-piece.invariant.1 c.push_piece.ensures steps.1.0)

pub returns : goal.returns
returns c = pushed-all _ _ _ _ c.loop-piece.invariant.1 (nil_from_length _ c.in-None.ensures.steps.1.0)
