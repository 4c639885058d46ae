use Rattle.format.proofs.RefusalLaws.{tag-number}
use Rattle.format.proofs.refusal.Refusal.number.Goals as goal

pub returns : goal.returns
returns c = tag-number c.args.self
