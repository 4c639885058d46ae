-- `finish_books::groups::stretch` meets its contract.
-- Assumes nothing.
use Rattle.finish_books.proofs.MissingLaws.{stretch-one, stretch-all, stretch-second}
use native.Mathlib.Omega.{arith}
use Rattle.finish_books.proofs.groups.stretch.Goals as goal

pub returns-then-units-lt2 : goal.returns-then-units-lt2
returns-then-units-lt2 c = λ object gs h. stretch-one _ object gs h (omega arith) (omega arith)

pub overflow_sub-units : goal.overflow_sub-units
overflow_sub-units c = omega (arith, c.requires.1 (omega arith))

pub returns-then-units-eq1 : goal.returns-then-units-eq1
returns-then-units-eq1 c = λ object gs h. stretch-all _ object gs h (omega arith) c.if-units-eq1.true

pub returns : goal.returns
returns c = λ object gs h. stretch-second _ object gs h (omega arith) c.if-units-eq1.false
