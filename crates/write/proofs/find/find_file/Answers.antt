-- `write::find::find_file` meets its contract.
-- Assumes nothing.
use native.Mathlib.Omega.{arith}
use Rattle.write.proofs.FindLaws.{head-cards, card-within, file-some, file-none}
use Rattle.write.specs.Call.{FileFound}
use Rattle.write.proofs.find.find_file.Goals as goal

pub find_card-requires : goal.find_card-requires
find_card-requires c = omega (arith, c.requires.1, head-cards _ _ c.decode_head-h.ensures.0)

pub overflow_mul-i : goal.overflow_mul-i
overflow_mul-i c = let w = card-within _ _ c.decode_head-h.ensures.0 _ _ _ c.find_card.ensures _ c.in-Some.is c.requires.1 in omega (arith, w)

pub decode_card-card-requires : goal.decode_card-card-requires
decode_card-card-requires c = card-within _ _ c.decode_head-h.ensures.0 _ _ _ c.find_card.ensures _ c.in-Some.is c.requires.1

pub returns-in-Some : goal.returns-in-Some
unfolding FileFound
returns-in-Some c = file-some _ _ c.decode_head-h.ensures.0 _ _ _ c.find_card.ensures _ _ c.in-Some.is c.decode_card-card.ensures.0 c.decode_card-card.ensures.1

pub returns-in-None : goal.returns-in-None
returns-in-None c = file-none _ _ c.decode_head-h.ensures.0 _ _ _ c.find_card.ensures c.in-None.is
