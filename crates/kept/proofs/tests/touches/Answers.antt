-- `kept::tests::touches` meets its contract. Assumes nothing.
use mathlib.Core.Path.{sym, ◌∙◌}
use Rattle.kept.proofs.ChangeLaws.{touches-is}
use Rattle.kept.proofs.tests.touches.Goals as goal

pub returns-clause-value_2 : goal.returns-clause-value_2
returns-clause-value_2 c = λ ch before after is. c.written_in.ensures ∙ sym (touches-is ch _ _ _ _ is _)
