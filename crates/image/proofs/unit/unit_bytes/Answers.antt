use mathlib.Core.Path.{sym}
use Rattle.rules.proofs.ListLaws.{if-false}
use Rattle.image.proofs.UnitLaws.{covered-part}
use borrow.Author.Rules.{rules}
use Rattle.image.proofs.unit.unit_bytes.Goals as goal

pub returns-then-covered : goal.returns-then-covered
returns-then-covered c = search (covered-part, rules)

pub returns-else-covered : goal.returns-else-covered
returns-else-covered c = sym (if-false _ _ _ c.if-covered.false)
