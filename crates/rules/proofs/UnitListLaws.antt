-- The units of a range of a file's bytes are those in which one of its bytes lies.
-- Assumes nothing.
use mathlib.Core.Path.{◌≡◌, sym, ◌∙◌}
use mathlib.Core.List.{[]}
use mathlib.Core.Bool.{Bool}
use Prim.Native.Nat.{ℕ, ◌+◌, ◌-◌, ◌*◌, ◌/◌, min, max, ◌≤◌, ◌<◌}
use native.Mathlib.Decide.{dec_lt}
use native.Mathlib.Omega.{arith}
use lib.Dec.{ltb}
use borrow.Author.Tests.{ltb-true, lt-ltb, le-ltb}
use Rattle.rules.specs.Lists.{range, member, any, begun}
use Rattle.rules.specs.Sizes.{unit_bytes}
use Rattle.rules.specs.Units.{units_of}
use Rattle.rules.proofs.ListLaws.{clash, if-true, if-false, test-cases}
use Rattle.rules.proofs.CountLaws.{member-range-of, member-range-in}

module _ (from to : ℕ) where
  -- a range with a byte
  pub units_of-some : from < to → units_of from to ≡ range (from / unit_bytes) (begun to unit_bytes - from / unit_bytes)
  unfolding units_of
  units_of-some l = if-true (ltb from to) _ [] (lt-ltb from to l)

  -- one with none
  pub units_of-none : to ≤ from → units_of from to ≡ []
  unfolding units_of
  units_of-none l = if-false (ltb from to) _ [] (le-ltb from to l)

  -- a byte of the range lies in the unit
  abbrev pub lies : ℕ → Bool
  lies u = ltb (max from (u * unit_bytes)) (min to (u * unit_bytes + unit_bytes))

  -- a unit is one of them where a byte of the range lies in it, for every range
  pub units_of-lies : (u : ℕ) → member u (units_of from to) ≡ lies u
  units_of-lies u = go (dec_lt from to)
    where
      among : from < to → member u (range (from / unit_bytes) (begun to unit_bytes - from / unit_bytes)) ≡ lies u
      among l = test-cases _ (lies u)
          (λ t. let b = ltb-true (max from (u * unit_bytes)) (min to (u * unit_bytes + unit_bytes)) t in
          member-range-of u (from / unit_bytes) (begun to unit_bytes - from / unit_bytes) (omega (arith, b)) (omega (arith, b)) ∙ sym t)
          (λ t. test-cases _ (member u (range (from / unit_bytes) (begun to unit_bytes - from / unit_bytes)))
          (λ m. let b = member-range-in u (from / unit_bytes) (begun to unit_bytes - from / unit_bytes) m in
          absurd (clash t (lt-ltb (max from (u * unit_bytes)) (min to (u * unit_bytes + unit_bytes)) (omega (arith, l, b.0, b.1)))))
          (λ m. m ∙ sym t))

      go : Dec (from < to) → member u (units_of from to) ≡ lies u
      go (yes l) = rw (units_of-some l) (among l)
      go (no l) = rw (units_of-none (omega arith)) (unfold member any in sym (le-ltb (max from (u * unit_bytes)) (min to (u * unit_bytes + unit_bytes)) (omega arith)))
