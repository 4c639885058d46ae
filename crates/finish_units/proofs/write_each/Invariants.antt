-- `finish_units::write_each` meets its contract. The loop keeps: the units before `j` are carried out. Assumes nothing.
use mathlib.Core.Path.{◌≡◌}
use lib.ListN.{length}
use Rattle.finish_units.proofs.CarryLaws.{Writing}
use Rattle.finish_units.proofs.write_each.Given as goal

abbrev pub invariant-loop-j : goal.invariant-loop-j
invariant-loop-j l =
    Writing l.object l.change.old_size l.change.new_size l.change.offset l.uuid l.bytes l.units l.slots l.old l.kept l.blocks l.initial.image l.initial.crcs l.image l.crcs l.j × (length l.buffer ≡ length l.initial.buffer)
