use mathlib.Core.Path.{◌∙◌, ap}
use Rattle.std.proofs.lemmas.Nat.{be_bytes_4}
use Rattle.rules.specs.Bytes.{be}
use Rattle.words.proofs.NumberLaws.{be-read}
use borrow.Author.Rules.{rules}
use Rattle.words.proofs.be32.Goals as goal

pub returns : goal.returns
returns c = be-read 4 _ _ (be_bytes_4 _ _ (search rules) (search rules) c.from_be_bytes.ensures) (search rules) ∙ ap be c.array_at.ensures
