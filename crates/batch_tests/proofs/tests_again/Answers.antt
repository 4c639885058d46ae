-- `batch_tests::tests_again` meets its contract.
-- Assumes nothing.
use Rattle.batch_tests.proofs.TestLaws.{head-counts, counted-tells, single-again}
use Rattle.batch_tests.proofs.tests_again.Goals as goal

pub returns-then-list-le-TRIPLE_BYTES : goal.returns-then-list-le-TRIPLE_BYTES
returns-then-list-le-TRIPLE_BYTES c = single-again _ _ c.if-list-le-TRIPLE_BYTES.true

pub shared_blocks-requires : goal.shared_blocks-requires
shared_blocks-requires c = record { n_in_bounds = (head-counts _ _ c.requires _ c.decode_head.ensures.0).0; extents_value = (head-counts _ _ c.requires _ c.decode_head.ensures.0).1 }

pub returns-else-list-le-TRIPLE_BYTES : goal.returns-else-list-le-TRIPLE_BYTES
returns-else-list-le-TRIPLE_BYTES c = counted-tells _ _ _ _ c.decode_head.ensures.0 _ c.shared_blocks.ensures
