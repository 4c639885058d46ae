use Rattle.intake_books.proofs.FileLaws.{passed_none, passed_on, filed-none, card-there, filed-through, filed-not, filed-done}
use native.Mathlib.Omega.{arith}
use borrow.Author.Rules.{rules}
use mathlib.Core.Bool.{not}
use mathlib.Core.Path.{ap}
use Rattle.intake_books.proofs.files_right.Goals as goal

pub loop-i-init : goal.loop-i-init
loop-i-init c = search (passed_none, filed-none, rules)

pub returns-then-not-in_file : goal.returns-then-not-in_file
returns-then-not-in_file c = search (filed-not, rules)

pub file_blocks-limit-requires : goal.file_blocks-limit-requires
file_blocks-limit-requires c = omega (arith, card-there _ _ _ _ _ c.in_file.ensures (ap not c.if-not-in_file.false))

pub loop-i-preserved : goal.loop-i-preserved
loop-i-preserved c = (search rules, search rules, search (passed_on, rules), filed-through _ _ _ _ _ _ _ _ c.loop-i.invariant.2 c.loop-i-test.true c.decode_extent-e.ensures c.card_from-j.ensures c.requires.cards_value _ c.in_file.ensures (ap not c.if-not-in_file.false) _ _ c.file_blocks-limit.ensures c.same_file-i.ensures c.loop-i.invariant.3)

pub returns : goal.returns
returns c = search (filed-done, rules)
