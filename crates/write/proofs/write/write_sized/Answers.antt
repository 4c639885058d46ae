-- `write::write::write_sized` meets its contract.
-- Assumes nothing.
use native.Mathlib.Omega.{arith}
use mathlib.Core.Path.{refl, sym, ◌∙◌}
use Rattle.format.specs.Refusals.{number_in}
use Rattle.format.proofs.RefusalLaws.{refusal-positive}
use lib.Seq.{length-take-le}
use Rattle.write.proofs.WriteLaws.{sized-empty, sized-refused, sized-ready, sized-stopped, sized-done}
use Rattle.write.proofs.write.write_sized.Goals as goal

pub returns-then-bytes-eq0-clause-written : goal.returns-then-bytes-eq0-clause-written
returns-then-bytes-eq0-clause-written c = sized-empty _ _ _ _ c.requires _ _ _ _ _ c.if-bytes-eq0.true

pub returns-in-Err-clause-written : goal.returns-in-Err-clause-written
unfolding number_in
returns-in-Err-clause-written c = sized-refused _ _ _ _ c.requires _ _ _ _ _ c.if-bytes-eq0.false _ c.taken-len.ensures _ (c.number.ensures ∙ c.in-Err.ensures) (λ z. omega (arith, z, c.number.ensures, refusal-positive c.in-Err.r))

pub slice_bounds-write_taken-end : goal.slice_bounds-write_taken-end
slice_bounds-write_taken-end c = sym (length-take-le _ _ (omega (arith, c.taken-len.ensures)))

pub write_taken-number-requires : goal.write_taken-number-requires
unfolding number_in
write_taken-number-requires c = record { file_ready = c.requires; taken = sized-ready _ _ _ _ c.requires 0 _ _ _ _ c.if-bytes-eq0.false _ c.taken-len.ensures _ c.in_default.ensures refl }

pub returns-then-number-ne0-clause-written : goal.returns-then-number-ne0-clause-written
unfolding number_in
returns-then-number-ne0-clause-written c = sized-stopped _ _ _ _ c.requires _ _ _ _ _ c.if-bytes-eq0.false _ c.taken-len.ensures _ c.in_default.ensures refl _ _ c.write_taken-number.ensures.written c.if-number-ne0.true

pub returns-clause-written : goal.returns-clause-written
unfolding number_in
returns-clause-written c = sized-done _ _ _ _ c.requires _ _ _ _ _ c.if-bytes-eq0.false _ c.taken-len.ensures _ c.in_default.ensures refl _ _ c.write_taken-number.ensures.written c.if-number-ne0.false
