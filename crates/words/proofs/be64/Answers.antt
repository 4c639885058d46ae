use mathlib.Core.Path.{◌∙◌, ap}
use Rattle.std.proofs.lemmas.Nat.{be_bytes_8}
use Rattle.rules.specs.Bytes.{be}
use Rattle.words.proofs.NumberLaws.{be-read}
use borrow.Author.Rules.{rules}
use Rattle.words.proofs.be64.Goals as goal

pub returns : goal.returns
returns c = be-read 8 _ _ (be_bytes_8 _ _ (search rules) (search rules) c.from_be_bytes.ensures) (search rules) ∙ ap be c.array_at.ensures
