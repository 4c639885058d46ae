-- `format::extent::Extent::joined` meets its contract.
-- Assumes nothing.
use native.Mathlib.Omega.{arith}
use borrow.Author.Rules.{rules}
use Rattle.rules.specs.Extent.{joined}
use Rattle.format.proofs.TestLaws.{joins-sum}
use Rattle.format.specs.Records.{extent_of}
use Rattle.format.proofs.extent.Extent.joined.Goals as goal

pub overflow_add-result : goal.overflow_add-result
overflow_add-result c = omega (arith, joins-sum _ _ c.requires)

pub returns : goal.returns
unfolding joined extent_of
returns c = search rules
