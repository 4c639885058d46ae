-- `fields::put_card` meets its contract.
-- Assumes nothing.
use borrow.Author.Rules.{rules}
use Rattle.fields.proofs.FieldLaws.{words-none, words-more}
use Rattle.fields.proofs.put_card.Goals as goal

pub loop-i-init : goal.loop-i-init
loop-i-init c = words-none _ c.card_words-words.result _

pub loop-i-preserved : goal.loop-i-preserved
loop-i-preserved c = words-more _ _ _ _ _ _ c.loop-i.invariant c.put_be64.ensures (search rules) (search rules) (search rules)
