use Rattle.words.proofs.NumberLaws.{patch-mid}
use borrow.Author.Rules.{rules}
use Rattle.words.proofs.put_array.Goals as goal

pub returns : goal.returns
returns g c = patch-mid _ _ _ _ _ c.copy_from_slice.ensures.after (search rules)
