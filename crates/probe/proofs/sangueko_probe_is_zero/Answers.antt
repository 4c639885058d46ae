use borrow.Author.Rules.{rules}
use Rattle.probe.proofs.ProbeLaws.{whole-zero, copied-yes, copied-no}
use Rattle.probe.proofs.sangueko_probe_is_zero.Goals as goal

pub returns : goal.returns
returns c = search (whole-zero, copied-yes, copied-no, rules)
