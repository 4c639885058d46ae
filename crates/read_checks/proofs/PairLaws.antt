-- Laws of pairs of object and unit: which are the same, and how many different ones there are when units of a file come after others.
-- Assumes nothing.
use mathlib.Core.Path.{◌≡◌, refl, sym, ap, ◌∙◌}
use mathlib.Core.Bool.{Bool, true, false, not, ◌||◌}
use mathlib.Core.List.{List, [], ◌∷◌, ◌++◌, map, append_assoc, append-nil}
use Prim.Native.Nat.{ℕ, zero, suc, ◌+◌, ◌-◌, ◌/◌, ◌≤◌, ◌<◌}
use native.Mathlib.Decide.{dec_lt}
use native.Mathlib.Omega.{arith}
use lib.Dec.{eqb}
use borrow.Author.Tests.{eqb-true, eq-eqb, ne_eqb}
use Rattle.rules.specs.Lists.{pick◌then◌else◌, any, member, count, range, begun}
use Rattle.rules.specs.ReadMany.{Pair, pairs_of, same_pair, different}
use Rattle.rules.proofs.ListLaws.{test-cases, and_left, and_right, and_intro, any_append, each_weaken}
use Rattle.rules.proofs.CountLaws.{same_test, count-each, count-nil, count-cons, each-range}
use Rattle.rules.specs.Sizes.{unit_bytes}
use Rattle.rules.specs.Units.{units_of}
use Rattle.rules.specs.Read.{read_length}
use Rattle.rules.specs.Triples.{Triple}
use Rattle.rules.proofs.UnitListLaws.{units_of-some, units_of-none}
use Rattle.read_checks.specs.Reads.{pair_is, units_read, pairs_read, new_units}

-- ---- the same pair

-- pairs that are the same are equal
pub same-pair : (p q : Pair) → same_pair p q ≡ true → p ≡ q
unfolding same_pair
same-pair p q e =
    let o : p.object ≡ q.object = eqb-true p.object q.object (and_left (eqb p.object q.object) (eqb p.unit q.unit) e) in
    let u : p.unit ≡ q.unit = eqb-true p.unit q.unit (and_right (eqb p.object q.object) (eqb p.unit q.unit) e) in
    λ i. record { object = o i; unit = u i }

-- and equal ones the same
pub pair_same : (p q : Pair) → p ≡ q → same_pair p q ≡ true
unfolding same_pair
pair_same p q e =
    and_intro (eqb p.object q.object) (eqb p.unit q.unit)
    (eq-eqb p.object q.object (ap (λ (x : Pair). x.object) e)) (eq-eqb p.unit q.unit (ap (λ (x : Pair). x.unit) e))

-- it does not matter which is named first
same-turned : (p q : Pair) → same_pair p q ≡ same_pair q p
same-turned p q = same_test (same_pair p q) (same_pair q p) (λ e. pair_same q p (sym (same-pair p q e))) (λ e. pair_same p q (sym (same-pair q p e)))

-- among units of the same file
pub pair-among : (object unit : ℕ) (us : List ℕ) → any (same_pair (pair_is object unit)) (map (pair_is object) us) ≡ member unit us
unfolding any member same_pair
pair-among object unit [] = refl
pair-among object unit (u ∷ us) = rw (eq-eqb object object refl, pair-among object unit us) refl

-- among units of another file
pub pair-other : (object unit o : ℕ) → (o ≡ object → ⊥) → (us : List ℕ) → any (same_pair (pair_is object unit)) (map (pair_is o) us) ≡ false
unfolding any same_pair
pair-other object unit o d [] = refl
pair-other object unit o d (u ∷ us) = rw (ne_eqb object o (λ e. d (sym e)), pair-other object unit o d us) refl

-- ---- one pair more

-- one more pair is a different one where it does not stand before
pub different-more : (ps : List Pair) (p : Pair) → different (ps ++ p ∷ []) ≡ different ps + (pick any (same_pair p) ps then 0 else 1)
unfolding different any
different-more [] p = if_none (pick false then 0 else 1)
  where
    if_none : (n : ℕ) → n + 0 ≡ 0 + n
    if_none n = omega arith
different-more (x ∷ xs) p =
    let a : Bool = any (same_pair x) xs in
    let b : Bool = any (same_pair p) xs in
    let d : ℕ = different xs in
    let l : different ((x ∷ xs) ++ p ∷ []) ≡ (pick (a || (same_pair x p || false)) then 0 else 1) + (d + (pick b then 0 else 1)) = rw (any_append (same_pair x) xs (p ∷ []), different-more xs p) refl in
    let r : different (x ∷ xs) + (pick any (same_pair p) (x ∷ xs) then 0 else 1) ≡ ((pick a then 0 else 1) + d) + (pick (same_pair p x || b) then 0 else 1) = refl in
    test-cases _ (same_pair x p)
    (λ e. let q : x ≡ p = same-pair x p e in
    let s : a ≡ b = ap (λ (y : Pair). any (same_pair y) xs) q in
    l ∙ same-joined a b d s (same_pair x p) e ∙ sym (r ∙ ap (λ (c : Bool). ((pick a then 0 else 1) + d) + (pick (c || b) then 0 else 1)) (same-turned p x)))
    (λ e. l ∙ same-apart a b d (same_pair x p) e ∙ sym (r ∙ ap (λ (c : Bool). ((pick a then 0 else 1) + d) + (pick (c || b) then 0 else 1)) (same-turned p x)))
  where
    same-joined : (a b : Bool) (d : ℕ) → a ≡ b → (c : Bool) → c ≡ true → (pick (a || (c || false)) then 0 else 1) + (d + (pick b then 0 else 1)) ≡ ((pick a then 0 else 1) + d) + (pick (c || b) then 0 else 1)
    same-joined true true d s c e = unfold pick◌then◌else◌ in rw e (omega arith)
    same-joined false false d s c e = unfold pick◌then◌else◌ in rw e (omega arith)
    same-joined true false d s c e = unfold pick◌then◌else◌ in absurd (omega (arith, ap {A = Bool} {B = ℕ} (λ x. pick x then 0 else 1) s))
    same-joined false true d s c e = unfold pick◌then◌else◌ in absurd (omega (arith, ap {A = Bool} {B = ℕ} (λ x. pick x then 0 else 1) s))

    same-apart : (a b : Bool) (d : ℕ) (c : Bool) → c ≡ false → (pick (a || (c || false)) then 0 else 1) + (d + (pick b then 0 else 1)) ≡ ((pick a then 0 else 1) + d) + (pick (c || b) then 0 else 1)
    same-apart true b d c e = unfold pick◌then◌else◌ in rw e (omega arith)
    same-apart false b d c e = unfold pick◌then◌else◌ in rw e (omega arith)

-- ---- units of a file after other pairs

-- no unit is new among none
pub new_none : (ps : List Pair) (object : ℕ) → new_units ps object [] ≡ 0
unfolding new_units
new_none ps object = count-nil (λ u. not (any (same_pair (pair_is object u)) ps))

-- the first unit, and the others
pub new-cons : (ps : List Pair) (object u : ℕ) (us : List ℕ) → new_units ps object (u ∷ us) ≡ (pick any (same_pair (pair_is object u)) ps then 0 else 1) + new_units ps object us
unfolding new_units
new-cons ps object u us = count-cons (λ x. not (any (same_pair (pair_is object x)) ps)) u us ∙ ap (λ (k : ℕ). k + count (λ x. not (any (same_pair (pair_is object x)) ps)) us) (turned (any (same_pair (pair_is object u)) ps))
  where
    turned : (b : Bool) → ◌≡◌ {A = ℕ} (pick not b then 1 else 0) (pick b then 0 else 1)
    turned true = unfold pick◌then◌else◌ in refl
    turned false = unfold pick◌then◌else◌ in refl

-- a unit before all of them makes none of them older
new-behind : (ps : List Pair) (object first k : ℕ) → new_units (ps ++ pair_is object first ∷ []) object (range (suc first) k) ≡ new_units ps object (range (suc first) k)
unfolding new_units
new-behind ps object first k =
    count-each (λ u. not (any (same_pair (pair_is object u)) (ps ++ pair_is object first ∷ []))) (λ u. not (any (same_pair (pair_is object u)) ps))
    (each_weaken (λ u h. ap not (any_append (same_pair (pair_is object u)) ps (pair_is object first ∷ []) ∙ apart u h.0)) (each-range (suc first) k))
  where
    or_nothing : (a : Bool) → (a || (false || false)) ≡ a
    or_nothing true = refl
    or_nothing false = refl

    apart : (u : ℕ) → suc first ≤ u → (any (same_pair (pair_is object u)) ps || any (same_pair (pair_is object u)) (pair_is object first ∷ [])) ≡ any (same_pair (pair_is object u)) ps
    apart u l = unfold any same_pair in rw (ne_eqb u first (λ e. absurd (omega (arith, e, l))), eq-eqb object object refl) (or_nothing (any (same_pair (pair_is object u)) ps))

-- the different pairs after units of a file came: those before, and the new units
pub different-units : (k : ℕ) (ps : List Pair) (object first : ℕ) → different (ps ++ map (pair_is object) (range first k)) ≡ different ps + new_units ps object (range first k)
unfolding range
different-units zero ps object first = rw (append-nil ps, new_none ps object) (omega arith)
different-units (suc k) ps object first =
    let q : Pair = pair_is object first in
    let qs : List Pair = map (pair_is object) (range (suc first) k) in
    let n : ℕ = new_units ps object (range (suc first) k) in
    let j : ps ++ map (pair_is object) (range first (suc k)) ≡ (ps ++ q ∷ []) ++ qs = sym (append_assoc ps (q ∷ []) qs) in
    let h : different ((ps ++ q ∷ []) ++ qs) ≡ different (ps ++ q ∷ []) + n = different-units k (ps ++ q ∷ []) object (suc first) ∙ ap (λ (m : ℕ). different (ps ++ q ∷ []) + m) (new-behind ps object first k) in
    let w : new_units ps object (range first (suc k)) ≡ (pick any (same_pair q) ps then 0 else 1) + n = new-cons ps object first (range (suc first) k) in
    let m : different (ps ++ q ∷ []) ≡ different ps + (pick any (same_pair q) ps then 0 else 1) = different-more ps q in
    ap different j ∙ h ∙ omega (arith, w, m)

-- so for the units of a read
pub different-read : (ps : List Pair) (t : Triple) (size : ℕ) → different (ps ++ pairs_read t size) ≡ different ps + new_units ps t.object (units_read t size)
unfolding pairs_read pairs_of units_read
different-read ps t size = go (dec_lt t.offset to)
  where
    to : ℕ
    to = t.offset + read_length size t.offset t.len

    none : different (ps ++ []) ≡ different ps + new_units ps t.object []
    none = unfold range in different-units 0 ps t.object 0

    go : Dec (t.offset < to) → different (ps ++ map (pair_is t.object) (units_of t.offset to)) ≡ different ps + new_units ps t.object (units_of t.offset to)
    go (yes l) = rw (units_of-some t.offset to l) (different-units (begun to unit_bytes - t.offset / unit_bytes) ps t.object (t.offset / unit_bytes))
    go (no l) = rw (units_of-none t.offset to (omega (arith, l))) none
