-- An answer made from a Result says what the Result does.
-- Assumes nothing.
use mathlib.Core.Path.{refl}
use Rattle.format.specs.Refusals.{number_in, count_in}
use Rattle.volume.proofs.AnswerFromResultU64Refusal.from.Goals as goal

pub returns-in-Ok : goal.returns-in-Ok
unfolding number_in count_in
returns-in-Ok c = rw c.in-Ok.is (refl, refl)

pub returns-in-Err : goal.returns-in-Err
unfolding number_in count_in
returns-in-Err c = rw c.in-Err.is (c.number.ensures, refl)
