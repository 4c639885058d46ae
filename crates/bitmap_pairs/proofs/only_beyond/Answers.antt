-- `bitmap_pairs::only_beyond` meets its contract: three parts one behind the other.
-- Assumes nothing.
use mathlib.Core.Path.{refl}
use native.Mathlib.Omega.{arith}
use Rattle.bitmap_pairs.proofs.PairLaws.{none_of, first-fails, words-fail, last-part}
use mathlib.Core.Bool.{not}
use mathlib.Core.Path.{ap, ◌∙◌}
use borrow.Author.Tests.{eq-eqb}
use Rattle.bitmap_pairs.proofs.only_beyond.Goals as goal

pub returns-then-not-only_in_word : goal.returns-then-not-only_in_word
returns-then-not-only_in_word c = first-fails _ _ _ _ _ c.only_in_word.ensures (ap not c.if-not-only_in_word.true) (omega arith)

pub returns-then-not-only_in_words : goal.returns-then-not-only_in_words
returns-then-not-only_in_words c = words-fail _ _ _ _ _ _ c.only_in_words.ensures (ap not c.if-not-only_in_words.true) (omega arith) (omega arith) (omega arith) (omega arith) (omega arith)

pub returns-then-t-e : goal.returns-then-t-e
returns-then-t-e c = last-part _ _ _ _ _ _ _ _ _ refl c.only_in_word.ensures (ap not c.if-not-only_in_word.false) c.only_in_words.ensures (ap not c.if-not-only_in_words.false) (omega arith) (omega arith) (omega arith) (omega arith) (eq-eqb _ _ c.if-t-e.true ∙ none_of _ _ _ c.if-t-e.true)

pub returns-else-t-e : goal.returns-else-t-e
returns-else-t-e c = last-part _ _ _ _ _ _ _ _ _ refl c.only_in_word.ensures (ap not c.if-not-only_in_word.false) c.only_in_words.ensures (ap not c.if-not-only_in_words.false) (omega arith) (omega arith) (omega arith) (omega arith) c.only_in_word-else-t-e.ensures
