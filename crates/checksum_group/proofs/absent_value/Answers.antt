-- `checksum_group::absent_value` meets its contract.
-- Assumes nothing.
use borrow.Author.Rules.{rules}
use Rattle.checksum_group.proofs.SlotLaws.{product-fits, absent-value}
use Rattle.checksum_group.proofs.absent_value.Goals as goal

pub overflow_mul-result : goal.overflow_mul-result
overflow_mul-result c = search (product-fits, rules)

pub returns : goal.returns
returns c = search (absent-value, rules)
