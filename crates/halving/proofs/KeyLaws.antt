-- Laws of one look at a record's key, in the shape in which the code makes it, and of the object that is remembered.
-- Assumes nothing.
use mathlib.Core.Path.{◌≡◌, refl, sym, ◌∙◌}
use mathlib.Core.Bool.{Bool, true, false, not, ◌&&◌, ◌||◌}
use mathlib.Core.List.{List}
use Prim.Native.Nat.{ℕ, suc, ◌+◌, ◌-◌, ◌*◌, ◌≤◌, ◌<◌}
use native.Mathlib.Omega.{arith}
use borrow.Author.Tests.{eqb-true, eqb-false, eq-eqb, ne_eqb, le-ltb}
use lib.Dec.{eqb, ltb}
use Rattle.rules.specs.Bytes.{be, part}
use Rattle.std.proofs.Common.{Some, None}
use Rattle.rules.specs.Lists.{pick◌then◌else◌, pair_before}
use Rattle.rules.proofs.ListLaws.{if-true, if-false, test-cases, clash, and_left, and_right, or_cases, or_left, pair_before-trans}
use Rattle.format.proofs.TestLaws.{before-equal, before-other}
use Rattle.halving.specs.Keys.{reaches, object_at, number_at, reached, owned_before}
use Rattle.halving.proofs.HalvingLaws.{Falls, falls-steps}

-- ---- one look

-- a test or none
pub or-none : (x : Bool) → (x || false) ≡ x
or-none true = refl
or-none false = refl

-- a test and none
and_none : (x : Bool) → (x && false) ≡ false
and_none true = refl
and_none false = refl

-- where the object is the same and the number is another
none_at_all : (x : Bool) → (x && true && false) ≡ false
none_at_all true = refl
none_at_all false = refl

-- where both are the same
all-of-it : (x : Bool) → x ≡ (false || x && true && true)
all-of-it true = refl
all-of-it false = refl

module _ (equal : Bool) (object number : ℕ) where
  module _ (a : ℕ) (x : List ℕ) (e : a ≡ be x) where
    -- a record of another object
    pub look-other : (b : ℕ) → (a ≡ object → ⊥) → ltb a object ≡ reaches equal object number (be x) b
    unfolding reaches
    look-other b n = rw (← e, ne_eqb a object n, and_none equal) (before-other a b object number n ∙ sym (or-none (pair_before a b object number)))

    -- which it is not
    pub look-not-same : (a ≡ object → ⊥) → false ≡ eqb (be x) object
    look-not-same n = rw (← e) (sym (ne_eqb a object n))

    -- one of this object
    pub look-same : a ≡ object → true ≡ eqb (be x) object
    look-same o = rw (← e) (sym (eq-eqb a object o))

    module _ (b : ℕ) (y : List ℕ) (f : b ≡ be y) where
      -- with another number
      pub look-number : a ≡ object → (b ≡ number → ⊥) → ltb b number ≡ reaches equal object number (be x) (be y)
      unfolding reaches
      look-number o n = rw (← e, ← f, eq-eqb a object o, ne_eqb b number n, none_at_all equal) (before-equal a b object number o ∙ sym (or-none (pair_before a b object number)))

      -- with this one
      pub look-key : a ≡ object → b ≡ number → equal ≡ reaches equal object number (be x) (be y)
      unfolding reaches
      look-key o n = rw (← e, ← f, eq-eqb a object o, eq-eqb b number n, ← before-equal a b object number o, le-ltb b number (omega arith)) (all-of-it equal)

-- ---- the places of a book

module _ (equal : Bool) (object number w : ℕ) (s : List ℕ) (i : ℕ) where
  -- a look at a place says whether it is reached
  pub reached-at : (t : Bool) → t ≡ reaches equal object number (be (part (w * i) 8 s)) (be (part (w * i + 9) 8 s)) → t ≡ reached equal object number w s i
  unfolding reached object_at number_at
  reached-at t e = e

-- no record stands in front of the first
pub owned-none : (object w : ℕ) (s : List ℕ) → false ≡ owned_before object w s 0
unfolding owned_before
owned-none object w s = refl

-- the one that was looked at stands in front of the next
pub owned-next : (object w : ℕ) (s : List ℕ) (i : ℕ) (t : Bool) → t ≡ eqb (be (part (w * i) 8 s)) object → t ≡ owned_before object w s (i + 1)
unfolding owned_before object_at
owned-next object w s i t e = let q : i + 1 - 1 ≡ i = omega arith in rw (ne_eqb (i + 1) 0 (λ z. omega arith), q) e

module _ (object w : ℕ) (s : List ℕ) (place : ℕ) (t : Bool) (e : t ≡ owned_before object w s place) where
  -- where one of the object stands in front of a place, the place is not the first
  pub owned-in-front : t ≡ true → 1 ≤ place
  unfolding owned_before
  owned-in-front p =
      test-cases (1 ≤ place) (eqb place 0)
      (λ z. absurd (clash (rw z refl) (and_left (not (eqb place 0)) (eqb (object_at w s (place - 1)) object) (sym e ∙ p))))
      (λ z. let d = eqb-false place 0 z in omega arith)

  -- that record was found
  pub found-some : t ≡ true → Some (place - 1) ≡ (pick owned_before object w s place then Some (place - 1) else None)
  found-some p = sym (if-true (owned_before object w s place) (Some (place - 1)) None (sym e ∙ p))

  -- none was
  pub found-none : t ≡ false → None ≡ (pick owned_before object w s place then Some (place - 1) else None)
  found-none p = sym (if-false (owned_before object w s place) (Some (place - 1)) None (sym e ∙ p))

-- ---- keys in order

-- a key before one that is reached is reached
reaches-before : (equal : Bool) (object number a b c d : ℕ) → pair_before a b c d ≡ true → reaches equal object number c d ≡ true → reaches equal object number a b ≡ true
unfolding reaches
reaches-before equal object number a b c d p r =
    or_left (pair_before a b object number) (equal && eqb a object && eqb b number)
    (or_cases (pair_before a b object number ≡ true) (pair_before c d object number) (equal && eqb c object && eqb d number) r
    (λ q. pair_before-trans a b c d object number p q)
    (λ q. let o : c ≡ object = eqb-true c object (and_right equal (eqb c object) (and_left (equal && eqb c object) (eqb d number) q)) in
    let k : d ≡ number = eqb-true d number (and_right (equal && eqb c object) (eqb d number) q) in
    rw (← o, ← k) p))

-- where keys ascend, those that are reached stand in front
pub falls-ordered : (equal : Bool) (object number w : ℕ) (s : List ℕ) (n : ℕ)
    → ((i : ℕ) → suc i < n → pair_before (object_at w s i) (number_at w s i) (object_at w s (suc i)) (number_at w s (suc i)) ≡ true)
    → Falls (reached equal object number w s) n
unfolding reached
falls-ordered equal object number w s n h =
    falls-steps (reached equal object number w s) n (λ i l t.
    reaches-before equal object number (object_at w s i) (number_at w s i) (object_at w s (suc i)) (number_at w s (suc i)) (h i l) t)
