-- `read_many::read_many` meets its contract.
-- Assumes nothing.
use mathlib.Core.Path.{refl}
use Rattle.rules.specs.Refusal.{number_of}
use Rattle.format.specs.Refusals.{refusal_of, number_in, count_in}
use Rattle.read_many.proofs.ManyLaws.{few-triples, lengths-fit, many-wrong, many-right}
use Rattle.read_many.proofs.read_many.Goals as goal

pub returns-then-reads_wrong : goal.returns-then-reads_wrong
unfolding number_in count_in refusal_of number_of
returns-then-reads_wrong c = many-wrong _ _ _ _ _ c.reads_wrong.ensures c.if-reads_wrong.true

pub read_all-requires : goal.read_all-requires
read_all-requires c = let w = c.reads_wrong.ensures in let f = c.if-reads_wrong.false in record { read_ready = c.requires; triple_bytes_len_bound = (few-triples _ _ _ w f, refl); list_in_bounds = lengths-fit _ _ _ w f }

pub returns : goal.returns
returns c = many-right _ _ _ _ _ c.reads_wrong.ensures c.if-reads_wrong.false _ c.read_all.ensures
