-- `stretches::data_stretches` meets its contract.
-- Assumes nothing.
use native.Mathlib.Omega.{arith}
use Rattle.read.proofs.GivesLaws.{head-cards, card-within}
use Rattle.format.specs.Refusals.{number_in, count_in, refusal_of}
use Rattle.rules.specs.Refusal.{number_of}
use Rattle.stretches.proofs.ListLaws.{head-groups, list-none, list-some}
use Rattle.stretches.proofs.data_stretches.Goals as goal

pub find_card-requires : goal.find_card-requires
find_card-requires c = omega (arith, c.requires.places, head-cards _ _ c.decode_head-h.ensures.0)

pub overflow_mul-i : goal.overflow_mul-i
overflow_mul-i c = let w = card-within _ _ c.decode_head-h.ensures.0 _ _ _ c.find_card.ensures _ c.in-Some.is c.requires.places in omega (arith, w)

pub card_size-size-requires : goal.card_size-size-requires
card_size-size-requires c = card-within _ _ c.decode_head-h.ensures.0 _ _ _ c.find_card.ensures _ c.in-Some.is c.requires.places

pub list_file-requires : goal.list_file-requires
list_file-requires c = head-groups _ _ c.decode_head-h.ensures.0 _ c.requires.right

pub returns-in-Some : goal.returns-in-Some
returns-in-Some c =
    list-some _ _ c.decode_head-h.ensures.0 _ _ _ c.find_card.ensures _ _ _ _ _ _ _ _ _
    c.in-Some.is c.card_size-size.ensures.0 c.list_file.ensures

pub returns-in-None : goal.returns-in-None
unfolding number_in count_in refusal_of number_of
returns-in-None c = list-none _ _ c.decode_head-h.ensures.0 _ _ _ c.find_card.ensures _ _ _ _ c.in-None.is
