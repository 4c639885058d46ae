-- `finish_books::groups::set_slots` meets its contract.
-- Assumes nothing.
use Prim.Native.Nat.{◌≤◌}
use lib.ListN.{length, take}
use Rattle.rules.specs.Bytes.{Bytes}
use Rattle.finish_books.specs.Groups.{groups_in, GroupsSay, PlaceKnown, set_slots}
use Rattle.finish_books.proofs.groups.set_slots.Given as goal

abbrev pub invariant-loop-i : goal.invariant-loop-i
invariant-loop-i l =
    (l.i ≤ length l.units) × GroupsSay l.n (length l.initial.groups) (set_slots l.object (take l.i l.units) (take l.i l.crcs) (groups_in l.n l.initial.groups)) l.groups × PlaceKnown l.object l.number l.n l.place l.groups × Bytes l.groups
