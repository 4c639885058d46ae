-- `kept::tests::written_part` meets its contract. Assumes nothing.
use Rattle.kept.proofs.ChangeLaws.{placed_at, part-order, part-inside}
use Rattle.kept.proofs.tests.written_part.Goals as goal

pub overflow_sub-result-2 : goal.overflow_sub-result-2
overflow_sub-result-2 c = part-order _ _ _ _ _ c.requires.unit_bytes_value c.written_from-from.ensures c.written_to-to.ensures

pub returns-clause-placed : goal.returns-clause-placed
returns-clause-placed c = λ ch before after is. placed_at ch _ _ _ _ is _ _ _ c.written_from-from.ensures c.written_to-to.ensures

pub returns-clause-count_bound : goal.returns-clause-count_bound
returns-clause-count_bound c = part-inside _ _ _ _ _ c.requires.unit_bytes_value c.written_from-from.ensures c.written_to-to.ensures
