-- `kept::blocks::wanted` meets its contract. Assumes nothing.
use Rattle.std.proofs.Common.{◌≡◌, sym, ◌∙◌, rules, ◌==◌}
use Rattle.std.specs.List.{count_by}
use Rattle.std.proofs.lemmas.List.Sums.{count_by-le-length}
use Rattle.kept.proofs.BlocksLaws.{wanted-zeros}
use Rattle.kept.proofs.blocks.wanted.Goals as goal

pub returns : goal.returns
returns c =
    let zeros : c.count.result ≡ count_by (λ e. e == 0) c.args.kept.now = search rules in
    (zeros ∙ sym (wanted-zeros _), rw zeros (count_by-le-length _ _))
