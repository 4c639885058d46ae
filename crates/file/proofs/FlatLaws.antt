-- What the units of a plan have together, told by arrays in which their blocks stand side by side: all blocks, the new ones, and those that they no longer have.
-- Assumes nothing.
use mathlib.Core.Path.{◌≡◌, refl, sym, ap, ap₂, ◌∙◌}
use mathlib.Core.List.{List, [], ◌∷◌, ◌++◌, flat_map, append-nil, map-append}
use mathlib.Core.Option.{Option, none, some}
use mathlib.Core.Bool.{true}
use Prim.Native.Nat.{ℕ, zero, suc, ◌-◌, ◌*◌, ◌≤◌, ◌<◌}
use native.Mathlib.Omega.{arith}
use lib.Dec.{ltb}
use borrow.Author.Tests.{ltb-true}
use lib.ListN.{length, take, drop, length-map, length-drop, take-append-drop}
use lib.Seq.{take-add, take_all, length-take-le}
use Rattle.rules.specs.Lists.{ascending}
use Rattle.rules.specs.Sizes.{unit_blocks, unit_bytes}
use Rattle.rules.specs.Store.{Volume}
use Rattle.rules.specs.Units.{Change, valid_length}
use Rattle.rules.specs.Inspect.{unit_mapping}
use Rattle.rules.specs.Kept.{blocks_after, superseded}
use Rattle.rules.specs.Finish.{new_blocks, superseded_blocks}
use Rattle.rules.proofs.ListLaws.{Each, each_more, ascending-first, ascending-tail}
use Rattle.mapping.specs.Entries.{entry_of, entries}
use Rattle.rewrite.specs.Plan as plan
use Rattle.rewrite.specs.Plan.{laid_unit, laid_units, kept_by}
use Rattle.finish_books.specs.Buffers.{new_of}
use Rattle.file.specs.Flat.{flat_blocks, AllWhole, KeptIn, OldIn}

-- ---- lists side by side

-- new blocks of a unit, told by what is kept or by its entries
new-entries : (ks bs : List ℕ) → plan.new_of (entries ks) bs ≡ new_of ks bs
unfolding plan.new_of new_of entries entry_of
new-entries [] bs = refl
new-entries (zero ∷ ks) [] = refl
new-entries (suc k ∷ ks) [] = refl
new-entries (zero ∷ ks) (b ∷ bs) = ap (λ x. b ∷ x) (new-entries ks bs)
new-entries (suc k ∷ ks) (b ∷ bs) = new-entries ks bs

-- new blocks of stretches side by side
new-append : (ks bs ls cs : List ℕ) → length ks ≡ length bs → new_of (ks ++ ls) (bs ++ cs) ≡ new_of ks bs ++ new_of ls cs
unfolding new_of
new-append [] [] ls cs e = refl
new-append [] (b ∷ bs) ls cs e = absurd (omega (arith, e))
new-append (k ∷ ks) [] ls cs e = absurd (omega (arith, e))
new-append (zero ∷ ks) (b ∷ bs) ls cs e = ap (λ x. b ∷ x) (new-append ks bs ls cs (omega (arith, e)))
new-append (suc k ∷ ks) (b ∷ bs) ls cs e = new-append ks bs ls cs (omega (arith, e))

-- superseded blocks of stretches side by side
superseded-append : (os ks ps ls : List (Option ℕ)) → length os ≡ length ks → superseded (os ++ ps) (ks ++ ls) ≡ superseded os ks ++ superseded ps ls
unfolding superseded
superseded-append [] [] ps ls e = refl
superseded-append [] (k ∷ ks) ps ls e = absurd (omega (arith, e))
superseded-append (o ∷ os) [] ps ls e = absurd (omega (arith, e))
superseded-append (none ∷ os) (k ∷ ks) ps ls e = superseded-append os ks ps ls (omega (arith, e))
superseded-append (some p ∷ os) (none ∷ ks) ps ls e = ap (λ x. p ∷ x) (superseded-append os ks ps ls (omega (arith, e)))
superseded-append (some p ∷ os) (some q ∷ ks) ps ls e = superseded-append os ks ps ls (omega (arith, e))

-- entries of stretches side by side
entries-append : (xs ys : List ℕ) → entries (xs ++ ys) ≡ entries xs ++ entries ys
unfolding entries
entries-append xs ys = map-append entry_of xs ys

-- as many entries as there are places
length-entries : (xs : List ℕ) → length (entries xs) ≡ length xs
unfolding entries
length-entries xs = length-map xs entry_of

-- ---- the units of a plan

module _ (limit : ℕ) (v : Volume) (c : Change) where
  -- their blocks, one behind the other
  pub flat-blocks : (us bs : List ℕ) → AllWhole c us → flat_map (λ r. r.blocks) (laid_units limit v c us bs) ≡ take (flat_blocks c us) bs
  unfolding laid_units laid_unit flat_blocks flat_map
  flat-blocks [] bs w = refl
  flat-blocks (u ∷ []) bs w = append-nil (take (blocks_after c u) bs)
  flat-blocks (u ∷ t ∷ us) bs w =
      ap₂ ◌++◌ (ap (λ n. take n bs) w.0) (flat-blocks (t ∷ us) (drop unit_blocks bs) w.1)
      ∙ sym (take-add unit_blocks (flat_blocks c (t ∷ us)) bs)

  -- the new ones among them
  pub flat-new : (us ks bs : List ℕ) → AllWhole c us → KeptIn limit v c us ks → unit_blocks * length us ≤ length ks → unit_blocks * length us ≤ length bs
      → new_blocks (laid_units limit v c us bs) ≡ new_of (take (flat_blocks c us) ks) (take (flat_blocks c us) bs)
  unfolding laid_units laid_unit flat_blocks new_blocks new_of flat_map
  flat-new [] ks bs w k l m = refl
  flat-new (u ∷ []) ks bs w k l m =
      append-nil (plan.new_of (kept_by limit v c u) (take (blocks_after c u) bs))
      ∙ ap (λ x. plan.new_of x (take (blocks_after c u) bs)) (sym k.0)
      ∙ new-entries (take (blocks_after c u) ks) (take (blocks_after c u) bs)
  flat-new (u ∷ t ∷ us) ks bs w k l m =
      let first : plan.new_of (kept_by limit v c u) (take (blocks_after c u) bs) ≡ new_of (take unit_blocks ks) (take unit_blocks bs) =
      ap (λ x. plan.new_of x (take (blocks_after c u) bs)) (sym k.0)
      ∙ new-entries (take (blocks_after c u) ks) (take (blocks_after c u) bs)
      ∙ ap (λ n. new_of (take n ks) (take n bs)) w.0 in
      let a : length (take unit_blocks ks) ≡ unit_blocks = length-take-le unit_blocks ks (omega (arith, l)) in
      let b : length (take unit_blocks bs) ≡ unit_blocks = length-take-le unit_blocks bs (omega (arith, m)) in
      let x : length (drop unit_blocks ks) ≡ length ks - unit_blocks = length-drop unit_blocks ks in
      let y : length (drop unit_blocks bs) ≡ length bs - unit_blocks = length-drop unit_blocks bs in
      ap₂ ◌++◌ first (flat-new (t ∷ us) (drop unit_blocks ks) (drop unit_blocks bs) w.1 k.1 (omega (arith, l, x)) (omega (arith, m, y)))
      ∙ sym (new-append (take unit_blocks ks) (take unit_blocks bs) _ _ (a ∙ sym b))
      ∙ ap₂ new_of (sym (take-add unit_blocks (flat_blocks c (t ∷ us)) ks)) (sym (take-add unit_blocks (flat_blocks c (t ∷ us)) bs))

  -- the old ones that they no longer have
  pub flat-superseded : (us os ks bs : List ℕ) → AllWhole c us → OldIn v c.object us os → KeptIn limit v c us ks → unit_blocks * length us ≡ length os
      → unit_blocks * length us ≤ length ks
      → superseded_blocks (laid_units limit v c us bs) ≡ superseded (entries os) (entries (take (flat_blocks c us) ks))
  unfolding laid_units laid_unit flat_blocks superseded_blocks superseded flat_map
  flat-superseded [] [] ks bs w o k l m = unfold entries in refl
  flat-superseded [] (x ∷ os) ks bs w o k l m = absurd (omega (arith, l))
  flat-superseded (u ∷ []) os ks bs w o k l m =
      append-nil _ ∙ sym (ap₂ superseded (ap entries (sym (take_all unit_blocks os (omega (arith, l)))) ∙ o.0) k.0)
  flat-superseded (u ∷ t ∷ us) os ks bs w o k l m =
      let a : length (take unit_blocks os) ≡ unit_blocks = length-take-le unit_blocks os (omega (arith, l)) in
      let b : length (take unit_blocks ks) ≡ unit_blocks = length-take-le unit_blocks ks (omega (arith, m)) in
      let x : length (drop unit_blocks os) ≡ length os - unit_blocks = length-drop unit_blocks os in
      let y : length (drop unit_blocks ks) ≡ length ks - unit_blocks = length-drop unit_blocks ks in
      let first : superseded (entries (take unit_blocks os)) (entries (take unit_blocks ks)) ≡ superseded (unit_mapping v c.object u unit_blocks) (kept_by limit v c u) =
      ap₂ superseded o.0 (ap (λ n. entries (take n ks)) (sym w.0) ∙ k.0) in
      let e : length (entries (take unit_blocks os)) ≡ length (entries (take unit_blocks ks)) =
      length-entries (take unit_blocks os) ∙ a ∙ sym b ∙ sym (length-entries (take unit_blocks ks)) in
      ap₂ ◌++◌ (sym first) (flat-superseded (t ∷ us) (drop unit_blocks os) (drop unit_blocks ks) (drop unit_blocks bs) w.1 o.1 k.1 (omega (arith, l, x)) (omega (arith, m, y)))
      ∙ sym (superseded-append (entries (take unit_blocks os)) (entries (take unit_blocks ks)) _ _ e)
      ∙ ap₂ superseded
      (sym (entries-append (take unit_blocks os) (drop unit_blocks os)) ∙ ap entries (take-append-drop unit_blocks os))
      (sym (entries-append (take unit_blocks ks) (take (flat_blocks c (t ∷ us)) (drop unit_blocks ks))) ∙ ap entries (sym (take-add unit_blocks (flat_blocks c (t ∷ us)) ks)))

-- a unit before another of the file has all of its blocks
whole_before : (c : Change) (u t : ℕ) → u < t → t * unit_bytes < c.new_size → blocks_after c u ≡ unit_blocks
unfolding blocks_after valid_length
whole_before c u t h k = omega (arith, h, k)

-- so have all units of a change but the last
pub all_whole : (c : Change) (us : List ℕ) → ascending ltb us ≡ true → Each (λ u. u * unit_bytes < c.new_size) us → AllWhole c us
all_whole c [] a h = tt
all_whole c (u ∷ []) a h = tt
all_whole c (u ∷ t ∷ us) a (each_more p (each_more q h)) =
    (whole_before c u t (ltb-true u t (ascending-first ltb u t us a)) q, all_whole c (t ∷ us) (ascending-tail ltb u (t ∷ us) a) (each_more q h))
