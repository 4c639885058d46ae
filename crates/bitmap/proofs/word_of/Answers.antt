-- `bitmap::word_of` meets its contract.
-- Assumes nothing.
use Rattle.rules.proofs.ListLaws.{if-true, if-false}
use mathlib.Core.Path.{sym}
use Rattle.bitmap.proofs.word_of.Goals as goal

pub returns-then-value : goal.returns-then-value
returns-then-value c = sym (if-true _ _ _ c.if-value.true)

pub returns : goal.returns
returns c = sym (if-false _ _ _ c.if-value.false)
