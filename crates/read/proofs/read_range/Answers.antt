-- `read::read_range` meets its contract.
-- Assumes nothing.
use native.Mathlib.Omega.{arith}
use mathlib.Core.Path.{refl}
use Rattle.std.proofs.lemmas.Result.{err_from_is_err_and}
use Rattle.format.specs.Refusals.{number_in, count_in}
use Rattle.format.proofs.RefusalLaws.{refusal-positive}
use Rattle.read.proofs.RangeLaws.{range_inside, range-refused, range-done}
use Rattle.read.proofs.read_range.Goals as goal

pub returns-in_err-check_range : goal.returns-in_err-check_range
unfolding number_in count_in
returns-in_err-check_range c =
    let e = err_from_is_err_and c.from_residual.result c.from_residual.ensures.1 in
    let r = c.in_err-check_range in
    rw (e.1, e.2) (range-refused _ _ _ _ _ _ _ _ _ _ _ c.requires.k_value _ _ r.ensures.0 (λ z. absurd (omega (arith, z, refusal-positive r.field-0.0))))

pub hand_out-requires : goal.hand_out-requires
hand_out-requires c = let p = c.requires in record { n_bound = omega (arith, p.blocks_len, p.k_value, p.n_nonzero); n_in_bounds = p.n_in_bounds; inside = range_inside _ _ _ _ _ p.readable _ _ _ _ c.in_ok-check_range.ensures.1 }

pub returns : goal.returns
unfolding number_in count_in
returns c = let p = c.requires in let r = c.in_ok-check_range.ensures in range-done _ _ _ _ _ _ _ _ _ _ _ p.k_value _ 0 r.0 refl p.readable p.n_nonzero.1 _ _ r.1 c.hand_out.ensures
