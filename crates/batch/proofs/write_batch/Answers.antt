-- `batch::write_batch` meets its contract.
-- Assumes nothing.
use mathlib.Core.Path.{sym, ◌∙◌}
use Rattle.rules.specs.Refusal.{number_of}
use Rattle.format.specs.Refusals.{refusal_of}
use Rattle.batch_tests.proofs.TestLaws.{lengths-add, list-short}
use Rattle.batch.proofs.BatchLaws.{extents-placed, unshared-all, batch-refused, batch-tried}
use Rattle.batch.proofs.write_batch.Goals as goal

pub returns-then-batch_wrong-clause-done : goal.returns-then-batch_wrong-clause-done
unfolding refusal_of number_of
returns-then-batch_wrong-clause-done c = rw c.number.ensures (batch-refused _ _ _ _ _ c.batch_wrong.ensures c.if-batch_wrong.true)

pub tests_again-shared-requires : goal.tests_again-shared-requires
tests_again-shared-requires c = extents-placed _ c.requires

pub write_all-requires : goal.write_all-requires
write_all-requires c =
    let w = sym c.batch_wrong.ensures ∙ c.if-batch_wrong.false in
    record { store_ready = c.requires; unshared = λ e. unshared-all _ c.requires (c.tests_again-shared.ensures.left_out e); list_value = lengths-add _ _ w; triple_bytes_len_bound = list-short _ _ w }

pub returns-clause-done : goal.returns-clause-done
returns-clause-done c = batch-tried _ _ _ _ _ c.batch_wrong.ensures c.if-batch_wrong.false _ c.write_all.ensures.done
