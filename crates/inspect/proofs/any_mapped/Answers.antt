-- `inspect::any_mapped` meets its contract.
-- Assumes nothing.
use Rattle.std.proofs.Common.{◌∙◌, rules, tests, not, nat_eq}
use Rattle.std.proofs.lemmas.Iterator.{YieldsList-from_slice}
use Rattle.std.proofs.lemmas.Iterator.Search.{any_from_yields_List}
use Rattle.inspect.proofs.BlockLaws.{any-entries}
use Rattle.inspect.proofs.any_mapped.Goals as goal

pub returns : goal.returns
returns c =
    any_from_yields_List (λ x. not (nat_eq x 0)) _ _ c.any.result c.any.ensures.ran (YieldsList-from_slice c.args.blocks.now cc) (λ x b q k. search (rules, tests))
    ∙ any-entries c.args.blocks.now
