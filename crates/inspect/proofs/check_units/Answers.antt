use native.Mathlib.Omega.{arith}
use Rattle.std.proofs.lemmas.Result.{err_from_is_err_and}
use Rattle.format.specs.Refusals.{number_in}
use Rattle.inspect.proofs.AnswerLaws.{number-begun, number_more, number-refused, number-done}
use Rattle.inspect.proofs.check_units.Goals as goal

pub loop-k-init : goal.loop-k-init
loop-k-init c = number-begun _ _ _ _ _ _ _

pub returns-in_err-inspect_unit : goal.returns-in_err-inspect_unit
unfolding number_in
returns-in_err-inspect_unit c =
    let p = err_from_is_err_and c.from_residual.result c.from_residual.ensures.1 in
    rw (p.1, p.2) (number-refused _ _ _ _ _ _ _ c.loop-k.k _ _ c.loop-k-test.true c.loop-k.invariant c.in_err-inspect_unit.ensures)

pub loop-k-preserved : goal.loop-k-preserved
loop-k-preserved c = number_more _ _ _ _ _ _ _ c.loop-k.k _ _ c.loop-k-test.true c.loop-k.invariant c.in_ok-inspect_unit.ensures

pub returns : goal.returns
unfolding number_in
returns c = number-done _ _ _ _ _ _ _ c.loop-k.k _ (omega arith) c.loop-k.invariant
