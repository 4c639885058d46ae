-- Laws of the tests on keys and extents, in the shape in which code makes them: each return of a function is one law.
-- Assumes nothing.
use mathlib.Core.Path.{◌≡◌, refl, sym}
use mathlib.Core.Bool.{Bool, true, false, ◌&&◌, ◌||◌}
use Prim.Native.Nat.{ℕ, ◌+◌, ◌≤◌}
use native.Mathlib.Omega.{arith}
use borrow.Author.Tests.{leb-true, eq-eqb, ne_eqb, le-ltb}
use lib.Dec.{eqb, leb, ltb}
use Rattle.rules.specs.Lists.{pair_before}
use Rattle.rules.specs.Extent.{extent_end, joins}
use Rattle.rules.proofs.ListLaws.{and_right}
use Rattle.format.specs.declared.extent.Extent.{Extent}
use Rattle.format.specs.Records.{extent_of}

-- ---- numbers

-- keys with the same first number
pub before-equal : (a b c d : ℕ) → a ≡ c → ltb b d ≡ pair_before a b c d
unfolding pair_before
before-equal a b c d e = rw (eq-eqb a c e, le-ltb a c (omega arith)) refl

-- keys with different first numbers
pub before-other : (a b c d : ℕ) → (a ≡ c → ⊥) → ltb a c ≡ pair_before a b c d
unfolding pair_before
before-other a b c d n = rw (ne_eqb a c n) (sym (or-false (ltb a c)))
  where
    or-false : (x : Bool) → (x || false) ≡ x
    or-false true = refl
    or-false false = refl

-- ---- extents

module _ (e f : Extent) where
  -- the counts of two that join have a sum
  pub joins-sum : joins (extent_of e) (extent_of f) ≡ true → e.count + f.count ≤ 4294967295
  unfolding joins extent_of extent_end
  joins-sum t = leb-true (e.count + f.count) 4294967295 (and_right (eqb e.object f.object && eqb (extent_end (extent_of e)) f.logical && eqb (e.physical + e.count) f.physical) (leb (e.count + f.count) 4294967295) t)
