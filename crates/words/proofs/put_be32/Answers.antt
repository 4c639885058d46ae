use mathlib.Core.Path.{◌∙◌, ap}
use Rattle.rules.specs.Bytes.{patch}
use Rattle.words.proofs.NumberLaws.{be-bytes}
use Rattle.words.proofs.put_be32.Goals as goal

pub returns : goal.returns
returns c = c.put_array.ensures ∙ ap (patch _ _) (be-bytes 4 _ _ c.to_be_bytes.ensures)
