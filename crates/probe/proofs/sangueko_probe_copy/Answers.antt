use borrow.Author.Rules.{rules}
use Rattle.probe.proofs.ProbeLaws.{whole-zero, copied-yes, copied-no}
use Rattle.probe.proofs.sangueko_probe_copy.Goals as goal

pub returns-then-to-from : goal.returns-then-to-from
returns-then-to-from c = search (whole-zero, copied-yes, copied-no, rules)

pub returns-else-to-from : goal.returns-else-to-from
returns-else-to-from c = search (whole-zero, copied-yes, copied-no, rules)
