use Rattle.words.proofs.NumberLaws.{patch-mid}
use borrow.Author.Rules.{rules}
use Rattle.words.proofs.range.zero.Goals as goal

pub returns : goal.returns
returns c = patch-mid _ _ _ _ _ (search rules) (search rules)
