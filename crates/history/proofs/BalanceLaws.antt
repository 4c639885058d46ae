-- The places of the files after a change, counted: those of the file lose the superseded blocks and gain the new ones, and those of other files stay.
-- Assumes nothing.
use mathlib.Core.Path.{◌≡◌, refl, sym, ap, ◌∙◌}
use mathlib.Core.List.{List, [], ◌∷◌, ◌++◌, map, flat_map}
use mathlib.Core.Bool.{Bool, true, false, not, ◌&&◌, ◌||◌, and-false, and_comm}
use Prim.Native.Nat.{ℕ, suc, ◌+◌, ◌*◌, ◌/◌, ◌≤◌}
use native.Mathlib.Omega.{arith}
use lib.Dec.{eqb, ltb}
use borrow.Author.Tests.{eqb-true}
use Rattle.rules.specs.Lists.{all, filter, count, member, ascending, neighbours}
use Rattle.rules.specs.Sizes.{unit_blocks}
use Rattle.rules.specs.Store.{Volume}
use Rattle.rules.specs.Inspect.{unit_mapping}
use Rattle.rules.specs.Units.{Change}
use Rattle.rules.specs.Rewrite.{Rewritten}
use Rattle.rules.specs.Finish.{new_blocks, superseded_blocks, finished_extents}
use Rattle.rules.specs.Demand.{Place, places_of}
use Rattle.rules.proofs.ListLaws.{test-cases, and_intro, count-append, count_no, ascending-first, ascending-tail, Each, each_none, each_more, each-any}
use Rattle.rules.proofs.CountLaws.{count-each, count_none, member-cons, member-nil, count-cons, count-nil}
use Rattle.history.proofs.Rewritten.{outside, block_places, new_places, Apart}
use Rattle.history.proofs.ApartLaws.{laid_of}
use Rattle.history.proofs.ExtentsAfter.{places-after}
use Rattle.history.proofs.ImageAfter.{new-cons}
use Rattle.history.proofs.GroupsAfter.{unit_before}
use Rattle.rules.proofs.KeptLaws.{there, count-superseded, count-assigned}
use Rattle.history.proofs.PlaceCounts.{total, count-units}
use Rattle.history.proofs.UnitLaws.{valid-blocks}
use Rattle.history.proofs.PlanLaws.{unit_old, length-old}
use Rattle.history.proofs.PlannedLaws.{Made, superseded-cons}
use Rattle.history.proofs.MoreLists.{count-parts, once-ascending}

-- the units that are rewritten
abbrev units_in : List Rewritten → List ℕ
units_in rs = map (λ r. r.unit) rs

-- a block lies in one of them, or outside
not-outside : (rs : List Rewritten) (l : ℕ) → not (outside rs l) ≡ member (l / unit_blocks) (units_in rs)
unfolding outside all
not-outside [] l = sym (member-nil (l / unit_blocks))
not-outside (r ∷ rs) l =
    test-cases (not (not (eqb (l / unit_blocks) r.unit) && outside rs l) ≡ member (l / unit_blocks) (r.unit ∷ units_in rs)) (eqb (l / unit_blocks) r.unit)
    (λ e. rw (member-cons (l / unit_blocks) r.unit (units_in rs), e) refl)
    (λ e. rw (member-cons (l / unit_blocks) r.unit (units_in rs), e) (not-outside rs l))

-- the rewritten units ascend
ascending-units : (rs : List Rewritten) → ascending unit_before rs ≡ true → ascending ltb (units_in rs) ≡ true
unfolding neighbours
ascending-units [] a = refl
ascending-units (r ∷ []) a = refl
ascending-units (r ∷ t ∷ rs) a =
    and_intro (ltb r.unit t.unit) (ascending ltb (units_in (t ∷ rs))) (ascending-first unit_before r t rs a) (ascending-units (t ∷ rs) (ascending-tail unit_before r (t ∷ rs) a))

-- the kept blocks of all units
unfoldable kept_in : List Rewritten → List ℕ
kept_in [] = []
kept_in (r ∷ rs) = there r.kept ++ kept_in rs

module _ (v : Volume) (c : Change) (g h : ℕ → Bool) where
  -- the place is of a file that is meant, and its block passes
  abbrev meant : Place → Bool
  meant p = h p.object && g p.block

  -- what the units had are the superseded and the kept blocks
  count-gone : {rs : List Rewritten} → Each (Made v c) rs → total (λ u. count g (there (unit_old v c u))) (units_in rs) ≡ count g (superseded_blocks rs) + count g (kept_in rs)
  unfolding total kept_in
  count-gone each_none = unfold superseded_blocks flat_map in omega (arith, count-nil g)
  count-gone (each_more {x = r} {xs = rs} m k) =
      let d = m.placed in
      let e : count g (there (unit_old v c r.unit)) ≡ count g r.superseded + count g (there r.kept) =
      count-superseded g (unit_old v c r.unit) r.kept d.keeps (omega (arith, d.wide, length-old v c r.unit, valid-blocks c.new_size r.unit))
      ∙ ap (λ (xs : List ℕ). count g xs + count g (there r.kept)) (sym d.gone) in
      let i : total (λ u. count g (there (unit_old v c u))) (units_in rs) ≡ count g (superseded_blocks rs) + count g (kept_in rs) = count-gone k in
      rw (superseded-cons r rs) (omega (arith, e, i, count-append g r.superseded (superseded_blocks rs), count-append g (there r.kept) (kept_in rs)))

  -- the places of blocks one behind the other
  count-behind : (object : ℕ) → h object ≡ true → (l : ℕ) (bs : List ℕ) → count meant (block_places object l bs) ≡ count g bs
  unfolding block_places
  count-behind object t l [] = omega (arith, count-nil meant, count-nil g)
  count-behind object t l (b ∷ bs) =
      count-cons meant _ (block_places object (suc l) bs) ∙ (rw (t, count-behind object t (suc l) bs) (sym (count-cons g b bs)))

  -- what they have are the new and the kept blocks
  count-made : (object : ℕ) → h object ≡ true → {rs : List Rewritten} → Each (Made v c) rs → count meant (new_places object rs) ≡ count g (new_blocks rs) + count g (kept_in rs)
  unfolding new_places kept_in
  count-made object t each_none = unfold new_blocks flat_map in omega (arith, count-nil g, count-nil meant)
  count-made object t (each_more {x = r} {xs = rs} m k) =
      let d = m.placed.laid in
      let e : count g r.blocks ≡ count g r.new + count g (there r.kept) = ap (count g) d.blocks ∙ count-assigned g r.kept r.new d.many in
      let i : count meant (new_places object rs) ≡ count g (new_blocks rs) + count g (kept_in rs) = count-made object t k in
      rw (new-cons r rs) (omega (
        arith,
        e,
        i,
        count-append g r.new (new_blocks rs),
        count-append g (there r.kept) (kept_in rs),
        count-append meant (block_places object (r.unit * unit_blocks) r.blocks) (new_places object rs),
        count-behind object t (r.unit * unit_blocks) r.blocks,
      ))

  -- places of no meant file
  count-unmeant : (object : ℕ) → h object ≡ false → (l : ℕ) (bs : List ℕ) → count meant (block_places object l bs) ≡ 0
  unfolding block_places
  count-unmeant object t l [] = count-nil meant
  count-unmeant object t l (b ∷ bs) = count_no meant _ (block_places object (suc l) bs) (ap (λ (x : Bool). x && g b) t) ∙ count-unmeant object t (suc l) bs

  -- nor has any new place
  count-unmade : (object : ℕ) → h object ≡ false → (rs : List Rewritten) → count meant (new_places object rs) ≡ 0
  unfolding new_places
  count-unmade object t [] = count-nil meant
  count-unmade object t (r ∷ rs) =
      let i : count meant (new_places object rs) ≡ 0 = count-unmade object t rs in
      omega (arith, i, count-append meant (block_places object (r.unit * unit_blocks) r.blocks) (new_places object rs), count-unmeant object t (r.unit * unit_blocks) r.blocks)

  module _ (rs : List Rewritten) (a : Apart v.books.extents) where
    -- all places before the change
    abbrev ps : List Place
    ps = flat_map places_of v.books.extents

    -- the place lies in no rewritten unit
    abbrev spares : Place → Bool
    spares p = not (eqb p.object c.object) || outside rs p.logical

    -- meant places in rewritten units
    inside_is : h c.object ≡ true → (p : Place) → (not (spares p) && meant p) ≡ ((eqb p.object c.object && g p.block) && member (p.logical / unit_blocks) (units_in rs))
    inside_is t p =
        test-cases ((not (spares p) && meant p) ≡ ((eqb p.object c.object && g p.block) && member (p.logical / unit_blocks) (units_in rs))) (eqb p.object c.object)
        (λ e. let q : p.object ≡ c.object = eqb-true p.object c.object e in
        rw (e, q, t, not-outside rs p.logical) (and_comm (member (p.logical / unit_blocks) (units_in rs)) (g p.block)))
        (λ e. rw e refl)

    -- those before are those outside, the superseded and the kept
    split : h c.object ≡ true → Each (Made v c) rs → ascending unit_before rs ≡ true
        → count meant ps ≡ count meant (filter spares ps) + (count g (superseded_blocks rs) + count g (kept_in rs))
    split t m o =
        count-parts meant spares ps
        ∙ ap (λ (n : ℕ). count meant (filter spares ps) + n)
        (count-each (λ p. not (spares p) && meant p) (λ p. (eqb p.object c.object && g p.block) && member (p.logical / unit_blocks) (units_in rs)) (each-any (inside_is t) ps)
        ∙ count-units g c.object (laid_of v.books.extents a).ahead (units_in rs) (once-ascending (units_in rs) (ascending-units rs o)) ∙ (unfold unit_mapping in count-gone m))

    -- meant places after the change
    pub balance : h c.object ≡ true → Each (Made v c) rs → ascending unit_before rs ≡ true
        → count meant (flat_map places_of (finished_extents c.object rs v.books.extents)) + count g (superseded_blocks rs) ≡ count meant ps + count g (new_blocks rs)
    balance t m o = omega (arith, places-after c.object rs v.books.extents meant, split t m o, count-made c.object t m)

    -- superseded blocks were places
    pub superseded-places : h c.object ≡ true → Each (Made v c) rs → ascending unit_before rs ≡ true → count g (superseded_blocks rs) ≤ count meant ps
    superseded-places t m o = omega (arith, split t m o)

    -- places of other files stay
    pub balance-other : h c.object ≡ false → count meant (flat_map places_of (finished_extents c.object rs v.books.extents)) ≡ count meant ps
    balance-other t =
        let z : count (λ p. not (spares p) && meant p) ps ≡ 0 = count_none (λ p. not (spares p) && meant p) (each-any none ps) in
        omega (arith, places-after c.object rs v.books.extents meant, count-parts meant spares ps, z, count-unmade c.object t rs)
      where
        none : (p : Place) → (not (spares p) && meant p) ≡ false
        none p =
            test-cases ((not (spares p) && meant p) ≡ false) (eqb p.object c.object)
            (λ e. let q : p.object ≡ c.object = eqb-true p.object c.object e in ap (λ (b : Bool). not (spares p) && (b && g p.block)) (ap h q ∙ t) ∙ and-false (not (spares p)))
            (λ e. rw e refl)
