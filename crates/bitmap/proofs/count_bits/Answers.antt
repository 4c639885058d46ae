-- `bitmap::count_bits` meets its contract.
-- Assumes nothing.
use Rattle.std.proofs.Common.{rules, tests, refl}
use Rattle.std.proofs.lemmas.Iterator.{YieldsList-from_range}
use Rattle.std.proofs.lemmas.Iterator.Consumers.{count_from_yields_List, YieldsList-from_filter, YieldsList-at}
use Rattle.rules.specs.Bytes.{bit_set}
use Rattle.bitmap.proofs.MapLaws.{count_bits}
use Rattle.bitmap.proofs.count_bits.Goals as goal

pub returns : goal.returns
returns c =
    count_bits (bit_set c.args.m.now) _ _ _
    (count_from_yields_List _ _ c.count.ensures.ran
    (YieldsList-from_filter _ (bit_set c.args.m.now) (YieldsList-at c.filter.ensures.source (YieldsList-from_range _ _ _ refl refl)) c.filter.ensures.closure (λ x r q k. search (rules, tests))))
