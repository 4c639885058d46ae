use mathlib.Core.Path.{sym, ◌∙◌}
use native.Mathlib.Omega.{arith}
use Rattle.kept.proofs.RunLaws.{runs-few, runs_same, runs-more}
use Rattle.kept.proofs.kept.+runs.Goals as goal

pub returns-then-n-lt2 : goal.returns-then-n-lt2
returns-then-n-lt2 t c = runs-few _ _ c.requires c.if-n-lt2.true

pub returns-then-continues : goal.returns-then-continues
returns-then-continues t c = runs_same _ _ _ c.requires (omega arith) c.runs-before.ensures (sym c.if-continues.true ∙ c.continues.ensures)

pub returns : goal.returns
returns t c = runs-more _ _ _ c.requires (omega arith) c.runs-before.ensures (sym c.if-continues.false ∙ c.continues.ensures)
