use mathlib.Core.Path.{◌∙◌, ap}
use Rattle.std.proofs.lemmas.Nat.{le_bytes_8}
use Rattle.rules.specs.Bytes.{le}
use Rattle.words.proofs.NumberLaws.{le-read}
use borrow.Author.Rules.{rules}
use Rattle.words.proofs.le64.Goals as goal

pub returns : goal.returns
returns c = le-read 8 _ _ (le_bytes_8 _ _ (search rules) (search rules) c.from_le_bytes.ensures) (search rules) ∙ ap le c.array_at.ensures
