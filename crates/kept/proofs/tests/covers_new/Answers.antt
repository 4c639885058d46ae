-- `kept::tests::covers_new` meets its contract. Each return is one law of the test. Assumes nothing.
use borrow.Author.Tests.{lt-leb}
use Rattle.kept.proofs.ChangeLaws.{covers-not, covers-so}
use Rattle.kept.proofs.tests.covers_new.Goals as goal

pub returns-then-offset-start : goal.returns-then-offset-start
returns-then-offset-start c = λ ch before is. (covers-so ch _ _ _ _ is _ _ c.valid_length.ensures.0 c.if-offset-start.true)

pub returns-else-offset-start : goal.returns-else-offset-start
returns-else-offset-start c = λ ch before is. rw (lt-leb _ _ c.if-offset-start.false) (covers-not ch _ _ _ _ is _ c.if-offset-start.false)
