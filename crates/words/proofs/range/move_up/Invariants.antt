use Rattle.rules.specs.Bytes.{part, patch}
use Prim.Native.Nat.{◌≤◌, ◌-◌, ◌+◌}
use mathlib.Core.Path.{◌≡◌}
use Rattle.words.proofs.range.move_up.Given as goal

abbrev pub invariant-loop-j : goal.invariant-loop-j
invariant-loop-j l = (l.a ≤ l.j) × (l.s ≡ patch l.initial.s (l.j + l.k) (part l.j (l.e - l.j) l.initial.s))
