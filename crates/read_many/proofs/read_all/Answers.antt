-- `read_many::read_all` meets its contract.
-- Assumes nothing.
use mathlib.Core.Path.{refl, ◌∙◌}
use native.Mathlib.Omega.{arith}
use Rattle.std.proofs.lemmas.Result.{err_from_is_err_and}
use Rattle.format.specs.Refusals.{number_in, count_in}
use Rattle.format.proofs.RefusalLaws.{refusal-positive}
use Rattle.read.proofs.GivesLaws.{head-books}
use Rattle.read_many.proofs.ManyLaws.{all-refused, all_done}
use Rattle.read_many.proofs.read_all.Goals as goal

pub returns-in_err-made : goal.returns-in_err-made
unfolding number_in count_in
returns-in_err-made c =
    let e = err_from_is_err_and c.from_residual.result c.from_residual.ensures.1 in
    let r = c.in_err-made in
    rw (e.1, e.2) (all-refused _ _ _ _ _ _ _ r.ensures (λ z. absurd (omega (arith, z, refusal-positive r.field-0.0))))

pub hand_out_pieces-requires : goal.hand_out_pieces-requires
hand_out_pieces-requires c = let p = c.requires in record { extents_right = (head-books _ _ c.decode_head-h.ensures.0 _ _ _ p.read_ready.books).right; list_in_bounds = p.list_in_bounds; triple_bytes_in_bounds = omega (arith, p.triple_bytes_len_bound.0, c.check_list.auto.sizes ∙ p.triple_bytes_len_bound.1) }

pub returns : goal.returns
unfolding number_in count_in
returns c = let p = c.requires in all_done _ _ _ _ _ 0 _ c.in_ok-made.ensures refl _ c.decode_head-h.ensures.0 p.read_ready.books p.list_in_bounds _ c.hand_out_pieces.ensures
