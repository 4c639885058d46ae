-- Laws of the inner call fill: the quotient, by cases.
-- Assumes nothing.
use mathlib.Core.Path.{◌≡◌, sym}
use Prim.Native.Nat.{ℕ, ◌*◌, ◌/◌}
use borrow.Author.Tests.{eq-eqb, ne_eqb}
use lib.Dec.{eqb}
use Rattle.rules.specs.Settle.{per_mille}
use Rattle.rules.proofs.ListLaws.{if-true, if-false}

-- no block can be used
pub none-usable : (used usable : ℕ) → usable ≡ 0 → 0 ≡ per_mille used usable
unfolding per_mille
none-usable used usable e = sym (if-true {A = ℕ} (eqb usable 0) 0 (used * 1000 / usable) (eq-eqb usable 0 e))

-- some can
pub some-usable : (used usable : ℕ) → (usable ≡ 0 → ⊥) → used * 1000 / usable ≡ per_mille used usable
unfolding per_mille
some-usable used usable d = sym (if-false {A = ℕ} (eqb usable 0) 0 (used * 1000 / usable) (ne_eqb usable 0 d))
