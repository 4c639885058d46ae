-- `bitmap::next_bits` meets its contract.
-- Assumes nothing.
use Rattle.std.proofs.Common.{rules, tests, ◌≡◌, not, arith}
use Rattle.std.proofs.lemmas.Iterator.{first_from_Range}
use Rattle.rules.specs.Bytes.{bit_set}
use Rattle.bitmap.proofs.MapLaws.{next_found}
use Rattle.bitmap.proofs.next_bits.Goals as goal

pub returns : goal.returns
returns c =
    next_found _ _ _ _ _ (omega arith)
    (first_from_Range _ _ _ _ (λ k. bit_set c.args.m.now k ≡ c.args.value) (λ k. bit_set c.args.m.now k ≡ not c.args.value) c.find.ensures.ran (λ x q k. search (rules, tests)) (λ x q k. search (rules, tests)))
