-- `read_checks::check_stretch` meets its contract.
-- Assumes nothing.
use Rattle.std.proofs.lemmas.Result.{err_from_is_err_and}
use Rattle.format.specs.Refusals.{number_in}
use Rattle.format.proofs.RefusalLaws.{refusal-positive}
use Rattle.read_checks.proofs.StretchLaws.{passed_none, passed-stop, passed-more, passed-all}
use Rattle.read_checks.proofs.check_stretch.Goals as goal

pub loop-j-init : goal.loop-j-init
loop-j-init c = passed_none _ _ _ _ _ _ _

pub returns-in_err-check_new : goal.returns-in_err-check_new
unfolding number_in
returns-in_err-check_new c =
    let e = err_from_is_err_and c.from_residual.result c.from_residual.ensures.1 in
    let r = c.in_err-check_new in
    rw (e.1, e.2) (passed-stop _ _ _ _ _ _ _ _ _ c.loop-j.invariant c.loop-j-test.true _ _ r.ensures (refusal-positive r.field-0.0))

pub loop-j-preserved : goal.loop-j-preserved
unfolding number_in
loop-j-preserved c = passed-more _ _ _ _ _ _ _ _ _ c.loop-j.invariant c.loop-j-test.true _ c.in_ok-check_new.ensures

pub returns : goal.returns
unfolding number_in
returns c = passed-all _ _ _ _ _ _ _ _ _ c.loop-j.invariant c.loop-j-test.false
