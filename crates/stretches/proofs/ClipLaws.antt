-- The units of a range that hold data are those with a slot up to where the range or the file ends: the walk's end.
-- Assumes nothing.
use mathlib.Core.Path.{◌≡◌, ap, ◌∙◌}
use mathlib.Core.Bool.{false, and-true, and-false}
use mathlib.Core.List.{List, append-nil}
use Prim.Native.Nat.{ℕ, ◌+◌, ◌-◌, ◌*◌, min, ◌≤◌, ◌<◌}
use native.Mathlib.Omega.{arith}
use borrow.Author.Tests.{lt-ltb, le-ltb}
use Rattle.rules.specs.Lists.{filter, range, begun}
use Rattle.rules.specs.Sizes.{unit_bytes}
use Rattle.rules.specs.Group.{Group}
use Rattle.rules.specs.Stretches.{stretches}
use Rattle.rules.proofs.ListLaws.{filter-append, range-add, each_weaken}
use Rattle.rules.proofs.CountLaws.{filter-each, filter-nothing, each-range}
use Rattle.presence.specs.Units.{slotted, stretches_from}
use Rattle.stretches.specs.Lists.{holds, stretches_in}

module _ (gs : List Group) (object size : ℕ) where
  -- before the end a unit holds data where it has a slot
  holds-before : (u : ℕ) → u < begun size unit_bytes → holds gs object size u ≡ slotted gs object u
  unfolding holds
  holds-before u l = rw (lt-ltb (u * unit_bytes) size (omega (arith, l))) (and-true (slotted gs object u))

  -- behind it none does
  holds-behind : (u : ℕ) → begun size unit_bytes ≤ u → holds gs object size u ≡ false
  unfolding holds
  holds-behind u l = rw (le-ltb (u * unit_bytes) size (omega (arith, l))) (and-false (slotted gs object u))

  -- the units of the range that hold data
  clipped : (first units end : ℕ) → end ≡ min (first + units) (begun size unit_bytes) → filter (holds gs object size) (range first units) ≡ filter (slotted gs object) (range first (end - first))
  clipped first units end e =
      ap (filter (holds gs object size)) (ap (range first) length-is ∙ range-add first (end - first) (units - (end - first)))
      ∙ filter-append (holds gs object size) (range first (end - first)) (range (first + (end - first)) (units - (end - first)))
      ∙ rw (
        filter-nothing (holds gs object size) (each_weaken (λ u l. holds-behind u (omega (arith, l.0, l.1, e))) (each-range (first + (end - first)) (units - (end - first)))),
        filter-each (holds gs object size) (slotted gs object) (each_weaken (λ u l. holds-before u (omega (arith, l.0, l.1, e))) (each-range first (end - first))),
      ) (append-nil (filter (slotted gs object) (range first (end - first))))
    where
      length-is : units ≡ end - first + (units - (end - first))
      length-is = omega (arith, e)

  -- so their stretches are those of the walk
  pub clipped-stretches : (first units end : ℕ) → end ≡ min (first + units) (begun size unit_bytes) → stretches_in gs object size first units ≡ stretches_from (slotted gs object) first end
  unfolding stretches_in
  clipped-stretches first units end e = ap stretches (clipped first units end e)
