-- From places to extents: what holds at every place of a book, told of its extents' ends and of the device's blocks that they map.
-- Assumes nothing.
use mathlib.Core.Path.{◌≡◌, refl, sym, ap, ◌∙◌}
use mathlib.Core.List.{List, [], ◌∷◌, ◌++◌, map, flat_map, map-append}
use mathlib.Core.Bool.{Bool, true, not, ◌||◌}
use Prim.Native.Nat.{ℕ, suc, ◌+◌, ◌-◌, ◌<◌}
use native.Mathlib.Nat.{zero-add}
use native.Mathlib.Omega.{arith}
use lib.Dec.{eqb, ltb, leb}
use lib.ListN.{length, get_or, length-map}
use borrow.Author.Tests.{ltb-true, le-leb}
use Rattle.rules.specs.Lists.{range, all, filter, count}
use Rattle.rules.specs.Extent.{Extent, extent_end}
use Rattle.rules.specs.Integrity.{mapped_blocks}
use Rattle.rules.specs.Rewrite.{Rewritten}
use Rattle.rules.specs.Finish.{finished_extents}
use Rattle.rules.specs.Demand.{Place, places_of}
use Rattle.rules.proofs.ListLaws.{or_cases, or_left, or_right, all_map, length-range, get_or-map-range, Each, each_at, each_of, each_all, each_both}
use Rattle.rules.proofs.PassLaws.{all-each}
use Rattle.history.proofs.Rewritten.{outside, block_places, new_places, Apart}
use Rattle.history.proofs.ApartLaws.{laid_of, each-split}
use Rattle.history.proofs.PlaceLaws.{places-stretch}
use Rattle.history.proofs.ExtentsAfter.{each-place-after}
use Rattle.history.proofs.MoreLists.{count_map, count_turn}

-- ---- one extent

-- the place of an extent's i-th block
abbrev pub place_at : Extent → ℕ → Place
place_at e i = record { object = e.object; logical = e.logical + i; block = e.physical + i }

-- there are as many as it has blocks
length-places : (e : Extent) → length (places_of e) ≡ e.count
unfolding places_of
length-places e = length-map (range 0 e.count) (place_at e) ∙ length-range 0 e.count

module _ {Q : Place → Type 0} (e : Extent) where
  -- what holds at each holds at the i-th
  pub place_at-each : Each Q (places_of e) → (i : ℕ) → i < e.count → Q (place_at e i)
  unfolding places_of
  place_at-each h i l =
      let q : get_or (map (place_at e) (range 0 e.count)) i (place_at e 0) ≡ place_at e i = get_or-map-range (place_at e) 0 e.count i (place_at e 0) l ∙ ap (place_at e) (zero-add i) in
      rw q at (each_at h i (place_at e 0) (omega (arith, length-places e)))

  -- and the other way round
  pub places-each : ((i : ℕ) → i < e.count → Q (place_at e i)) → Each Q (places_of e)
  unfolding places_of
  places-each h =
      each_of (map (place_at e) (range 0 e.count)) (place_at e 0) (λ i l.
      let m : i < e.count = omega (arith, length-places e) in
      let q : get_or (map (place_at e) (range 0 e.count)) i (place_at e 0) ≡ place_at e i = get_or-map-range (place_at e) 0 e.count i (place_at e 0) m ∙ ap (place_at e) (zero-add i) in
      rw q (h i m))

-- ---- a book

-- what follows for an extent from its last place
pub each-last-place : {P : Extent → Type 0} {Q : Place → Type 0} (es : List Extent) → Apart es → ((e : Extent) → 0 < e.count → Q (place_at e (e.count - 1)) → P e)
    → Each Q (flat_map places_of es) → Each P es
each-last-place {P} {Q} es a f h =
    each_both {Q = λ e. Each Q (places_of e)} (λ e n q. f e n (place_at-each e q (e.count - 1) (omega arith))) (laid_of es a).filled (each-split places_of es h)

-- extents whose places lie on the device end on it
pub device-places : (n : ℕ) (es : List Extent) → Apart es → all (λ p. ltb p.block n) (flat_map places_of es) ≡ true → all (λ e. leb (e.physical + e.count) n) es ≡ true
device-places n es a h =
    all-each (λ e. leb (e.physical + e.count) n)
    (each-last-place es a (λ e m q. le-leb (e.physical + e.count) n (omega (arith, m, ltb-true (e.physical + (e.count - 1)) n q)))
    (each_all (λ p. ltb p.block n) (λ p t. t) (flat_map places_of es) h))

-- extents of a file whose places lie before a block of it end before it
pub file-places : (object n : ℕ) (es : List Extent) → Apart es → all (λ p. not (eqb p.object object) || ltb p.logical n) (flat_map places_of es) ≡ true
    → all (λ e. not (eqb e.object object) || leb (extent_end e) n) es ≡ true
unfolding extent_end
file-places object n es a h =
    all-each (λ e. not (eqb e.object object) || leb (e.logical + e.count) n)
    (each-last-place es a (λ e m q. or_cases ((not (eqb e.object object) || leb (e.logical + e.count) n) ≡ true) (not (eqb e.object object)) (ltb (e.logical + (e.count - 1)) n) q
    (λ t. or_left (not (eqb e.object object)) (leb (e.logical + e.count) n) t)
    (λ t. or_right (not (eqb e.object object)) (leb (e.logical + e.count) n) (le-leb (e.logical + e.count) n (omega (arith, m, ltb-true (e.logical + (e.count - 1)) n t)))))
    (each_all (λ p. not (eqb p.object object) || ltb p.logical n) (λ p t. t) (flat_map places_of es) h))

-- ---- the blocks of the device

-- the blocks of a stretch's places
map-block_places : (object logical : ℕ) (bs : List ℕ) → map (λ p. p.block) (block_places object logical bs) ≡ bs
unfolding block_places
map-block_places object logical [] = refl
map-block_places object logical (b ∷ bs) = ap (λ (xs : List ℕ). b ∷ xs) (map-block_places object (suc logical) bs)

-- the blocks that extents map are those of their places
mapped-are : (es : List Extent) → mapped_blocks es ≡ map (λ p. p.block) (flat_map places_of es)
unfolding mapped_blocks flat_map
mapped-are [] = refl
mapped-are (e ∷ es) =
    rw (map-append (λ (p : Place). p.block) (places_of e) (flat_map places_of es), places-stretch e, map-block_places e.object e.logical (range e.physical e.count))
    (ap (λ (xs : List ℕ). range e.physical e.count ++ xs) (mapped-are es))

-- a test of them is one of their places
pub mapped-places : (f : ℕ → Bool) (es : List Extent) → all f (mapped_blocks es) ≡ all (λ p. f p.block) (flat_map places_of es)
mapped-places f es = ap (all f) (mapped-are es) ∙ all_map f (λ p. p.block) (flat_map places_of es)

-- a block stands among them once for each place that has it
pub mapped-count : (b : ℕ) (es : List Extent) → count (eqb b) (mapped_blocks es) ≡ count (λ p. eqb p.block b) (flat_map places_of es)
mapped-count b es = sym (count_turn b (mapped_blocks es)) ∙ ap (count (λ x. eqb x b)) (mapped-are es) ∙ count_map (λ x. eqb x b) (λ p. p.block) (flat_map places_of es)

-- it passes at the finished extents where it passes at the old places outside the rewritten units and at the new ones
pub mapped-after : (f : ℕ → Bool) (object : ℕ) (rs : List Rewritten) (es : List Extent)
    → Each (λ p. f p.block ≡ true) (filter (λ p. not (eqb p.object object) || outside rs p.logical) (flat_map places_of es)) → Each (λ p. f p.block ≡ true) (new_places object rs)
    → all f (mapped_blocks (finished_extents object rs es)) ≡ true
mapped-after f object rs es h g = mapped-places f (finished_extents object rs es) ∙ all-each (λ p. f p.block) (each-place-after object rs es h g)
