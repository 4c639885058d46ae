-- `read_checks::check_read` meets its contract.
-- Assumes nothing.
use mathlib.Core.Path.{refl}
use native.Mathlib.Omega.{arith}
use Rattle.rules.specs.Refusal.{number_of}
use Rattle.format.specs.Refusals.{refusal_of, number_in}
use Rattle.read_checks.proofs.CheckedLaws.{earlier-right, card-there, size-found, number-none, checked-none, checked-some}
use Rattle.read_checks.proofs.check_read.Goals as goal

pub overflow_mul-c : goal.overflow_mul-c
overflow_mul-c c = let p = c.requires in let w = card-there _ _ _ _ _ p.n_value _ c.triple_at-x.ensures _ c.find_card.ensures _ c.in-Some.is p.read_ready.places in omega (arith, w)

pub card_size-size-requires : goal.card_size-size-requires
card_size-size-requires c = let p = c.requires in card-there _ _ _ _ _ p.n_value _ c.triple_at-x.ensures _ c.find_card.ensures _ c.in-Some.is p.read_ready.places

pub check_sized-r-requires : goal.check_sized-r-requires
check_sized-r-requires c = let p = c.requires in let r = p.read_ready in record { tables = p.tables; w_len = p.w_len; head_len = r.width; readable = r.books; triple_bytes_in_bounds = (p.triple_bytes_in_bounds.0, omega (arith, p.triple_bytes_in_bounds.1, p.triple_bytes_in_bounds.2)); made_bound = p.made_bound; by_index = earlier-right _ _ _ _ _ _ p.earlier (size-found _ _ _ _ _ p.n_value _ c.triple_at-x.ensures _ c.find_card.ensures _ _ c.in-Some.is c.card_size-size.ensures.0) }

pub returns-in-Some : goal.returns-in-Some
returns-in-Some c = let p = c.requires in checked-some _ _ _ _ _ _ _ _ _ (omega (arith, p.triple_bytes_in_bounds.1, p.triple_bytes_in_bounds.2)) (size-found _ _ _ _ _ p.n_value _ c.triple_at-x.ensures _ c.find_card.ensures _ _ c.in-Some.is c.card_size-size.ensures.0) c.check_sized-r.ensures

pub returns-in-None : goal.returns-in-None
unfolding number_in refusal_of number_of
returns-in-None c = let p = c.requires in checked-none _ _ _ _ _ _ (number-none _ _ _ _ _ p.n_value _ c.triple_at-x.ensures _ c.find_card.ensures _ refl c.in-None.is)
