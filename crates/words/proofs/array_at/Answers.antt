use mathlib.Core.Path.{◌∙◌}
use Rattle.words.proofs.NumberLaws.{part-front}
use Rattle.words.proofs.array_at.Goals as goal

pub returns : goal.returns
returns g c = (rw c.unwrap.ensures at c.first_chunk.ensures.cases).same ∙ part-front _ _ _
