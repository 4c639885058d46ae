use Rattle.rules.specs.Bytes.{part, patch}
use Prim.Native.Nat.{◌-◌}
use mathlib.Core.Path.{◌≡◌}
use Rattle.words.proofs.range.move_down.Given as goal

abbrev pub invariant-loop-i : goal.invariant-loop-i
invariant-loop-i l = l.s ≡ patch l.initial.s (l.a - l.k) (part l.a (l.i - l.a) l.initial.s)
