-- `finish_extents::runs::single_at` meets its contract.
-- Assumes nothing.
use native.Mathlib.Omega.{arith}
use borrow.Author.Rules.{rules}
use Rattle.finish_extents.proofs.SingleLaws.{single-read}
use Rattle.finish_extents.proofs.runs.single_at.Goals as goal

pub single-requires : goal.single-requires
single-requires c = (c.requires.small _, omega arith)

pub returns : goal.returns
returns c = search (single-read, rules)
