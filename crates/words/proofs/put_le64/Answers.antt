use mathlib.Core.Path.{◌∙◌, ap}
use Rattle.rules.specs.Bytes.{patch}
use Rattle.words.proofs.NumberLaws.{le-bytes}
use Rattle.words.proofs.put_le64.Goals as goal

pub returns : goal.returns
returns c = c.put_array.ensures ∙ ap (patch _ _) (le-bytes 8 _ _ c.to_le_bytes.ensures)
