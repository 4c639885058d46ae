-- `inspect::check_units` meets its contract. The loop keeps: the first refusal is that of the units from the `k`-th on.
-- Assumes nothing.
use mathlib.Core.Path.{◌≡◌}
use Rattle.mapping.specs.Entries.{entries}
use Rattle.inspect.specs.Mapped.{check_mapped}
use Rattle.rules.specs.Answers.{checked_number}
use Rattle.inspect.specs.Answer.{number_from}
use Rattle.inspect.proofs.check_units.Given as goal

abbrev pub invariant-loop-k : goal.invariant-loop-k
invariant-loop-k l =
    checked_number (check_mapped l.image l.uuid l.object l.size l.first (entries l.slots) (entries l.blocks)) ≡ number_from l.image l.uuid l.object l.size l.first l.slots l.blocks l.k
