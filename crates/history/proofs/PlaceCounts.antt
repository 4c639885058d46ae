-- The places of a file, counted by where the file's blocks are mapped: block by block, unit by unit, and for a list of units.
-- Assumes nothing.
use mathlib.Core.Path.{◌≡◌, refl, sym, ap, ◌∙◌}
use mathlib.Core.List.{List, [], ◌∷◌, map, flat_map}
use mathlib.Core.Bool.{Bool, false, ◌&&◌, ◌||◌, and-false, and-or_distrib_left}
use mathlib.Core.Option.{Option, none, some}
use Prim.Native.Nat.{ℕ, ◌+◌, ◌-◌, ◌*◌, ◌/◌}
use native.Mathlib.Omega.{arith}
use lib.Dec.{eqb}
use borrow.Author.Tests.{eqb-true, eq-eqb}
use Rattle.rules.specs.Lists.{pick◌then◌else◌, range, filter, count, member}
use Rattle.rules.specs.Sizes.{unit_blocks}
use Rattle.rules.specs.Extent.{Extent, covers, block_of, mapping}
use Rattle.rules.specs.Demand.{Place, places_of}
use Rattle.rules.proofs.ListLaws.{clash, test-cases, if-true, if-false, and_left, and_right, and_intro, count-append, each-any, each_weaken}
use Rattle.rules.proofs.CountLaws.{same_test, count-each, count_none, count-range-one, member-cons, member-nil, member-range-of, member-range-in, each-range, Once, once-range, once-head, once-tail, count-cons}
use Rattle.history.proofs.ApartLaws.{Pairs, pairs-none, pairs-more, Ahead, earlier}
use Rattle.history.proofs.MappingLaws.{Covers, covers-true, covers_of, beside-apart, mapping-yes, mapping-no, mapping-nil, mapping-none}
use Rattle.rules.proofs.KeptLaws.{there}
use Rattle.history.proofs.MoreLists.{count-either, count_map}

-- ---- counting

-- the sum of a number for each element
unfoldable pub total : (ℕ → ℕ) → List ℕ → ℕ
total f [] = 0
total f (x ∷ xs) = f x + total f xs

-- where the numbers are the same so is the sum
pub total-each : (f g : ℕ → ℕ) → ((x : ℕ) → f x ≡ g x) → (xs : List ℕ) → total f xs ≡ total g xs
unfolding total
total-each f g e [] = refl
total-each f g e (x ∷ xs) = omega (arith, e x, total-each f g e xs)

module _ {A : Type 0} where
  -- those whose number stands in a list of distinct ones: number by number
  count-members : (t : A → Bool) (k : A → ℕ) (xs : List A) (ls : List ℕ) → Once ls
      → count (λ x. t x && member (k x) ls) xs ≡ total (λ l. count (λ x. t x && eqb (k x) l) xs) ls
  unfolding total
  count-members t k xs [] o = count_none (λ x. t x && member (k x) []) (each-any {P = λ x. (t x && member (k x) []) ≡ false} (λ x. rw (member-nil (k x)) (and-false (t x))) xs)
  count-members t k xs (l ∷ ls) o =
      count-each (λ x. t x && member (k x) (l ∷ ls)) (λ x. (t x && eqb (k x) l) || (t x && member (k x) ls)) (each-any {P = λ x. (t x && member (k x) (l ∷ ls)) ≡ ((t x && eqb (k x) l) || (t x && member (k x) ls))} (λ x. rw (member-cons (k x) l ls) (and-or_distrib_left (t x) (eqb (k x) l) (member (k x) ls))) xs)
      ∙ count-either (λ x. t x && eqb (k x) l) (λ x. t x && member (k x) ls)
      (λ x e. apart x (eqb-true (k x) l (and_right (t x) (eqb (k x) l) e))) xs
      ∙ ap (λ (n : ℕ). count (λ x. t x && eqb (k x) l) xs + n) (count-members t k xs ls (once-tail l ls o))
    where
      apart : (x : A) → k x ≡ l → (t x && member (k x) ls) ≡ false
      apart x e = rw (e, once-head l ls o) (and-false (t x))

-- ---- one block of a file

-- how often a test passes at what may stand there
unfoldable hits : (ℕ → Bool) → Option ℕ → ℕ
hits g none = 0
hits g (some p) = pick g p then 1 else 0

-- those that are there, counted
count-there : (g : ℕ → Bool) (f : ℕ → Option ℕ) (ls : List ℕ) → count g (there (map f ls)) ≡ total (λ l. hits g (f l)) ls
unfolding total
count-there g f [] = unfold there count filter in refl
count-there g f (l ∷ ls) = go (f l) (count-there g f ls)
  where
    go : (o : Option ℕ) → count g (there (map f ls)) ≡ total (λ l. hits g (f l)) ls → count g (there (o ∷ map f ls)) ≡ hits g o + total (λ l. hits g (f l)) ls
    go none e = unfold there hits in omega (arith, e)
    go (some p) e = unfold there hits in (count-cons g p (there (map f ls)) ∙ ap (λ (n : ℕ). (pick g p then 1 else 0) + n) e)

module _ (g : ℕ → Bool) (object block : ℕ) where
  -- the place is this block of this file, and what stands there passes
  abbrev at_block : Place → Bool
  at_block p = (eqb p.object object && g p.block) && eqb p.logical block

  -- an extent has such a place where it covers the block
  count-covered : (e : Extent) → Covers object block e → count at_block (places_of e) ≡ hits g (some (block_of block e))
  unfolding places_of hits block_of
  count-covered e c =
      let i : ℕ = block - e.logical in
      count_map at_block _ (range 0 e.count)
      ∙ test-cases (count (λ j. at_block (record { object = e.object; logical = e.logical + j; block = e.physical + j })) (range 0 e.count) ≡ (pick g (e.physical + i) then 1 else 0)) (g (e.physical + i))
      (λ t. count-each _ (eqb i) (each_weaken (λ j l. same_test _ (eqb i j)
      (λ h. eq-eqb i j (let y : e.logical + j ≡ block = eqb-true (e.logical + j) block (and_right (eqb e.object object && g (e.physical + j)) (eqb (e.logical + j) block) h) in omega (arith, c.low)))
      (λ h. let y : i ≡ j = eqb-true i j h in
      and_intro (eqb e.object object && g (e.physical + j)) (eqb (e.logical + j) block)
      (and_intro (eqb e.object object) (g (e.physical + j)) (eq-eqb e.object object c.file) (rw y at t)) (eq-eqb (e.logical + j) block (omega (arith, c.low)))))
      (each-range 0 e.count))
      ∙ count-range-one i 0 e.count (omega arith) (omega (arith, c.low, c.high)) ∙ sym (if-true (g (e.physical + i)) 1 0 t))
      (λ t. count_none _ (each_weaken (λ j l. test-cases (at_block (record { object = e.object; logical = e.logical + j; block = e.physical + j }) ≡ false) (at_block (record { object = e.object; logical = e.logical + j; block = e.physical + j }))
      (λ h. let y : e.logical + j ≡ block = eqb-true (e.logical + j) block (and_right (eqb e.object object && g (e.physical + j)) (eqb (e.logical + j) block) h) in
      let z : j ≡ i = omega (arith, c.low) in
      absurd (clash t (rw z at (and_right (eqb e.object object) (g (e.physical + j)) (and_left (eqb e.object object && g (e.physical + j)) (eqb (e.logical + j) block) h)))))
      (λ h. h)) (each-range 0 e.count))
      ∙ sym (if-false (g (e.physical + i)) 1 0 t))

  -- and none where it does not
  count-uncovered : (e : Extent) → (Covers object block e → ⊥) → count at_block (places_of e) ≡ 0
  unfolding places_of
  count-uncovered e n =
      count_map at_block _ (range 0 e.count)
      ∙ count_none _ (each_weaken (λ j l. test-cases (at_block (record { object = e.object; logical = e.logical + j; block = e.physical + j }) ≡ false) (at_block (record { object = e.object; logical = e.logical + j; block = e.physical + j }))
      (λ h. let y : e.logical + j ≡ block = eqb-true (e.logical + j) block (and_right (eqb e.object object && g (e.physical + j)) (eqb (e.logical + j) block) h) in
      absurd (n (record {
        file = eqb-true e.object object (and_left (eqb e.object object) (g (e.physical + j)) (and_left (eqb e.object object && g (e.physical + j)) (eqb (e.logical + j) block) h));
        low = omega arith;
        high = omega (arith, l.1);
      }))) (λ h. h)) (each-range 0 e.count))

  -- the places of a block of a file are where it is mapped
  count-block : {es : List Extent} → Pairs Ahead es → count at_block (flat_map places_of es) ≡ hits g (mapping es object block)
  unfolding flat_map
  count-block pairs-none = rw (mapping-nil object block) (unfold hits count filter in refl)
  count-block (pairs-more {x = e} {xs = es} a h) =
      count-append at_block (places_of e) (flat_map places_of es)
      ∙ test-cases (count at_block (places_of e) + count at_block (flat_map places_of es) ≡ hits g (mapping (e ∷ es) object block)) (covers object block e)
      (λ t. let z : mapping es object block ≡ none = mapping-none object block (each_weaken (λ f q d. beside-apart (earlier q) (covers-true t) d) a) in
      rw (count-covered e (covers-true t), count-block h, z, mapping-yes object block e es t) (unfold hits in omega arith))
      (λ t. rw (count-uncovered e (λ c. clash t (covers_of c)), mapping-no object block e es t, count-block h) (omega arith))

-- ---- the units of a file

-- the block lies in the unit
in-unit : (l u : ℕ) → eqb (l / unit_blocks) u ≡ member l (range (u * unit_blocks) unit_blocks)
in-unit l u =
    same_test (eqb (l / unit_blocks) u) (member l (range (u * unit_blocks) unit_blocks))
    (λ e. let q : l / unit_blocks ≡ u = eqb-true (l / unit_blocks) u e in member-range-of l (u * unit_blocks) unit_blocks (omega arith) (omega arith))
    (λ m. let q = member-range-in l (u * unit_blocks) unit_blocks m in eq-eqb (l / unit_blocks) u (omega arith))

module _ (g : ℕ → Bool) (object : ℕ) {es : List Extent} (a : Pairs Ahead es) where
  -- the place is of this file, and what stands there passes
  abbrev of-file : Place → Bool
  of-file p = eqb p.object object && g p.block

  -- the places of a unit are where its blocks are mapped
  count-unit : (u : ℕ) → count (λ p. of-file p && eqb (p.logical / unit_blocks) u) (flat_map places_of es) ≡ count g (there (map (mapping es object) (range (u * unit_blocks) unit_blocks)))
  count-unit u =
      count-each (λ p. of-file p && eqb (p.logical / unit_blocks) u) (λ p. of-file p && member p.logical (range (u * unit_blocks) unit_blocks))
      (each-any (λ p. ap (λ (b : Bool). of-file p && b) (in-unit p.logical u)) (flat_map places_of es))
      ∙ count-members of-file (λ p. p.logical) (flat_map places_of es) (range (u * unit_blocks) unit_blocks) (once-range (u * unit_blocks) unit_blocks)
      ∙ total-each (λ l. count (λ p. of-file p && eqb p.logical l) (flat_map places_of es)) (λ l. hits g (mapping es object l)) (λ l. count-block g object l a) (range (u * unit_blocks) unit_blocks)
      ∙ sym (count-there g (mapping es object) (range (u * unit_blocks) unit_blocks))

  -- so are those of distinct units
  pub count-units : (us : List ℕ) → Once us → count (λ p. of-file p && member (p.logical / unit_blocks) us) (flat_map places_of es)
      ≡ total (λ u. count g (there (map (mapping es object) (range (u * unit_blocks) unit_blocks)))) us
  count-units us o =
      count-members of-file (λ p. p.logical / unit_blocks) (flat_map places_of es) us o
      ∙ total-each (λ u. count (λ p. of-file p && eqb (p.logical / unit_blocks) u) (flat_map places_of es)) _ count-unit us
