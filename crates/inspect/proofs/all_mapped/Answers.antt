-- `inspect::all_mapped` meets its contract.
-- Assumes nothing.
use Rattle.std.proofs.Common.{◌∙◌, rules, tests, not, nat_eq, take}
use Rattle.std.proofs.lemmas.Iterator.{YieldsList-from_slice}
use Rattle.std.proofs.lemmas.Iterator.Search.{all_from_yields_List}
use Rattle.inspect.proofs.BlockLaws.{all-first}
use Rattle.inspect.proofs.all_mapped.Goals as goal

pub returns : goal.returns
returns c =
    all_from_yields_List (λ x. not (nat_eq x 0)) _ _ c.all.result c.all.ensures.ran (YieldsList-from_slice (take c.args.n c.args.blocks.now) cc) (λ x b q k. search (rules, tests))
    ∙ all-first c.args.n c.args.blocks.now
