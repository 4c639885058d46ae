-- `read_checks::check_reads` meets its contract.
-- Assumes nothing.
use mathlib.Core.Path.{refl}
use native.Mathlib.Omega.{arith}
use Rattle.std.proofs.lemmas.Result.{err_from_is_err_and}
use Rattle.format.specs.Refusals.{number_in, count_in}
use Rattle.format.proofs.RefusalLaws.{refusal-positive}
use Rattle.read_checks.proofs.CheckedLaws.{list-none, list-stop, list-more, list_all}
use Rattle.read_checks.proofs.check_reads.Goals as goal

pub loop-i-init : goal.loop-i-init
loop-i-init c = let p = c.requires in list-none _ _ _ _ p.triple_bytes_len_bound.1

pub returns-in_err-check_read : goal.returns-in_err-check_read
unfolding number_in count_in
returns-in_err-check_read c =
    let e = err_from_is_err_and c.from_residual.result c.from_residual.ensures.1 in
    let r = c.in_err-check_read in
    rw (e.1, e.2) (list-stop _ _ _ _ _ _ c.loop-i.invariant _ _ _ r.ensures c.loop-i-test.true (λ z. absurd (omega (arith, z, refusal-positive r.field-0.0))) 0)

pub loop-i-preserved : goal.loop-i-preserved
unfolding number_in count_in
loop-i-preserved c = list-more _ _ _ _ _ _ c.loop-i.invariant _ 0 _ c.in_ok-check_read.ensures c.loop-i-test.true refl

pub returns : goal.returns
unfolding number_in count_in
returns c = let i = c.loop-i.invariant in list_all _ _ _ _ _ _ i (omega arith) c.loop-i-test.false
