-- `write::grow::grow_file` meets its contract.
-- Assumes nothing.
use mathlib.Core.Path.{refl, ◌∙◌}
use native.Mathlib.Omega.{arith}
use Rattle.rules.specs.Refusal.{number_of}
use Rattle.format.specs.Refusals.{number_in, refusal_of}
use Rattle.format.proofs.RefusalLaws.{refusal-positive}
use Rattle.write.proofs.FindLaws.{find-ready}
use Rattle.write.proofs.GrowLaws.{grow-missing, grow-refused, grow-same, the-file, larger-ready, larger-done}
use Rattle.write.proofs.grow.grow_file.Goals as goal

pub find_in-requires : goal.find_in-requires
find_in-requires c = find-ready _ c.requires

pub returns-in_default-clause-grown : goal.returns-in_default-clause-grown
unfolding refusal_of number_of
returns-in_default-clause-grown c = rw c.number.ensures (grow-missing _ c.requires _ _ _ _ c.in_default.ensures)

pub returns-in-Err-clause-grown : goal.returns-in-Err-clause-grown
unfolding number_in
returns-in-Err-clause-grown c = grow-refused _ c.requires _ _ _ _ _ c.in-Some.ensures _ (c.number-in-Err.ensures ∙ c.in-Err.ensures) (λ z. omega (arith, z, c.number-in-Err.ensures, refusal-positive c.in-Err.r))

pub returns-then-size-old_size-clause-grown : goal.returns-then-size-old_size-clause-grown
unfolding number_in
returns-then-size-old_size-clause-grown c = grow-same _ c.requires _ _ _ _ _ c.in-Some.ensures _ c.in_default-grow_refused.ensures refl c.if-size-old_size.true

pub grow_to-requires : goal.grow_to-requires
unfolding number_in
grow_to-requires c = let p = c.requires in record { file_ready = the-file _ p _ _ _ _ _ c.in-Some.ensures _ c.in_default-grow_refused.ensures; old_size_lt_size = larger-ready _ p _ _ _ _ _ c.in-Some.ensures _ c.in_default-grow_refused.ensures refl c.if-size-old_size.false }

pub returns-clause-grown : goal.returns-clause-grown
unfolding number_in
returns-clause-grown c = larger-done _ c.requires _ _ _ _ _ c.in-Some.ensures _ c.in_default-grow_refused.ensures refl c.if-size-old_size.false _ _ c.grow_to.ensures.grown
