-- Refusals 13 and 14 of a unit, and what it is where neither comes.
-- Assumes nothing.
use mathlib.Core.Path.{◌≡◌, refl, sym, ap, ◌∙◌}
use mathlib.Core.Bool.{Bool, true, false, not}
use mathlib.Core.List.{List, [], ◌∷◌, ◌++◌}
use mathlib.Core.Option.{Option, none}
use Prim.Native.Nat.{ℕ, zero, suc, ◌+◌, ◌-◌, ◌≤◌, ◌<◌}
use native.Mathlib.Nat.{sub-zero, suc-sub-suc}
use native.Mathlib.Omega.{arith}
use lib.Dec.{ltb}
use lib.ListN.{length, take, get_or, replicate}
use borrow.Author.Tests.{not-true, not-false, lt-ltb, le-ltb}
use Rattle.rules.specs.Sizes.{unit_blocks, most_allocated}
use Rattle.rules.specs.Refusal.{number_of}
use Rattle.rules.specs.Units.{Change}
use Rattle.rules.specs.Kept.{wanted, superseded, blocks_after, retained_blocks}
use Rattle.rules.specs.Allocation.{too_few}
use Rattle.rules.proofs.ListLaws.{if-true, if-false, or_left, or_right}
use Rattle.mapping.specs.Entries.{entry_of, entries}
use Rattle.kept.specs.Retained.{FromOld, Retained}
use Rattle.rewrite.specs.declared.Given.{Given}
use Rattle.rewrite.specs.declared.UnitPlan.{UnitPlan}
use Rattle.rewrite.specs.Steps.{given_blocks, count_after, count_wrong, lay_number}
use Rattle.rewrite.specs.Given.{Gives, Lays}

-- entries that name no block
none_named : (kept : List ℕ) → ((i : ℕ) → get_or kept i 0 ≡ 0) → entries kept ≡ replicate (length kept) none
unfolding entries entry_of
none_named [] z = refl
none_named (x ∷ kept) z = let e : x ≡ 0 = z 0 in rw (e, none_named kept (λ i. z (suc i))) refl

-- entries of which none is behind the first n
kept_whole : (kept : List ℕ) (n : ℕ) → n ≤ length kept → ((i : ℕ) → n ≤ i → get_or kept i 0 ≡ 0) → entries kept ≡ entries (take n kept) ++ replicate (length kept - n) none
unfolding entries
kept_whole kept zero l z = rw (sub-zero (length kept)) (none_named kept (λ i. z i (omega arith)))
kept_whole [] (suc n) l z = absurd (omega arith)
kept_whole (x ∷ kept) (suc n) l z =
    rw (suc-sub-suc (length kept) n) (ap (λ (t : List (Option ℕ)). entry_of x ∷ t) (kept_whole kept n (omega arith) (λ i m. z (suc i) (omega arith))))

module _ (total : ℕ) (used : ℕ → Bool) (taken : List ℕ) (hint allocated : ℕ) (old keep : List (Option ℕ)) where
  -- the number where there are too few blocks
  number-full : too_few total used taken (wanted keep) ≡ true → lay_number total used taken hint allocated old keep ≡ 13
  unfolding lay_number number_of
  number-full e = if-true (too_few total used taken (wanted keep)) _ _ e

  -- where the count disagrees
  number-wrong : too_few total used taken (wanted keep) ≡ false → count_wrong allocated (length (superseded old keep)) (length (given_blocks total used taken hint keep)) ≡ true
      → lay_number total used taken hint allocated old keep ≡ 14
  unfolding lay_number number_of
  number-wrong e f = if-false (too_few total used taken (wanted keep)) _ _ e ∙ if-true (count_wrong allocated (length (superseded old keep)) (length (given_blocks total used taken hint keep))) _ _ f

  -- and where neither is so
  number-right : too_few total used taken (wanted keep) ≡ false → count_wrong allocated (length (superseded old keep)) (length (given_blocks total used taken hint keep)) ≡ false
      → lay_number total used taken hint allocated old keep ≡ 0
  unfolding lay_number number_of
  number-right e f = if-false (too_few total used taken (wanted keep)) _ _ e ∙ if-false (count_wrong allocated (length (superseded old keep)) (length (given_blocks total used taken hint keep))) _ _ f

-- the tests of refusal 14
module _ (allocated gone new : ℕ) where
  -- more blocks are retired than are counted
  wrong-fewer : allocated < gone → count_wrong allocated gone new ≡ true
  unfolding count_wrong
  wrong-fewer l = or_left (ltb allocated gone) (ltb most_allocated (count_after allocated gone new)) (lt-ltb allocated gone l)

  -- more would be counted than can be
  wrong-more : most_allocated < allocated - gone + new → count_wrong allocated gone new ≡ true
  unfolding count_wrong count_after
  wrong-more l = or_right (ltb allocated gone) (ltb most_allocated (allocated - gone + new)) (lt-ltb most_allocated (allocated - gone + new) l)

  -- neither
  wrong-not : gone ≤ allocated → allocated - gone + new ≤ most_allocated → count_wrong allocated gone new ≡ false
  unfolding count_wrong count_after
  wrong-not l m = rw (le-ltb allocated gone l) (le-ltb most_allocated (allocated - gone + new) m)

-- a unit of a change, what it keeps, and the blocks that it is given
module _ (total : ℕ) (used : ℕ → Bool) (taken : List ℕ) (hint allocated limit : ℕ) (c : Change) (unit : ℕ) (verified : Bool) (old kept map blocks : List ℕ) (n : ℕ)
    (g : Given) (r : UnitPlan) (t : Retained limit c unit verified old kept n) (h : Gives total used taken hint (entries (take n kept)) n map blocks g) where
  -- what it is given, by that
  gives : Gives total used taken hint (retained_blocks limit c unit verified (entries old)) (blocks_after c unit) map blocks g
  gives = rw t.count at (rw t.list at h)

  -- the answer
  abbrev pub Answer : Type 0
  Answer = Lays total used taken hint allocated (entries old) (retained_blocks limit c unit verified (entries old)) (blocks_after c unit) map kept blocks r

  -- refusal 13
  pub lays-full : not g.enough ≡ true → r.number ≡ 13 → Answer
  lays-full e q =
      let few : too_few total used taken (wanted (retained_blocks limit c unit verified (entries old))) ≡ true =
      not-false (too_few total used taken (wanted (retained_blocks limit c unit verified (entries old)))) (sym gives.enough_is ∙ not-true g.enough e) in
      record {
        number_is = q ∙ sym (number-full total used taken hint allocated (entries old) (retained_blocks limit c unit verified (entries old)) few);
        done = λ z. absurd (omega (arith, q, z));
      }

  module _ (e : not g.enough ≡ false) (gone : ℕ) (s : gone ≡ length (superseded (entries old) (entries (take n kept)))) where
    -- there are enough blocks
    enough : too_few total used taken (wanted (retained_blocks limit c unit verified (entries old))) ≡ false
    enough = not-true (too_few total used taken (wanted (retained_blocks limit c unit verified (entries old)))) (sym gives.enough_is ∙ not-false g.enough e)

    -- the blocks retired
    gone-is : gone ≡ length (superseded (entries old) (retained_blocks limit c unit verified (entries old)))
    gone-is = s ∙ ap (λ (x : List (Option ℕ)). length (superseded (entries old) x)) t.list

    -- the test of refusal 14, by the numbers that the code has
    test-is : count_wrong allocated gone g.count
        ≡ count_wrong allocated (length (superseded (entries old) (retained_blocks limit c unit verified (entries old)))) (length (given_blocks total used taken hint (retained_blocks limit c unit verified (entries old))))
    test-is = ap (λ (x : ℕ). count_wrong allocated x g.count) gone-is
        ∙ ap (count_wrong allocated (length (superseded (entries old) (retained_blocks limit c unit verified (entries old))))) gives.count_is

    -- refusal 14
    lays-wrong : count_wrong allocated gone g.count ≡ true → r.number ≡ 14 → Answer
    lays-wrong w q = record {
      number_is = q ∙ sym (number-wrong total used taken hint allocated (entries old) (retained_blocks limit c unit verified (entries old)) enough (sym test-is ∙ w));
      done = λ z. absurd (omega (arith, q, z));
    }

    -- by what is retired
    pub lays-fewer : allocated < gone → r.number ≡ 14 → Answer
    lays-fewer l q = lays-wrong (wrong-fewer allocated gone g.count l) q

    -- and by what would be counted
    pub lays_more : most_allocated < allocated - gone + g.count → r.number ≡ 14 → Answer
    lays_more l q = lays-wrong (wrong-more allocated gone g.count l) q

    -- neither
    pub lays-done : gone ≤ allocated → allocated - gone + g.count ≤ most_allocated → r.number ≡ 0 → r.progress.hint ≡ g.hint → r.progress.allocated ≡ allocated - gone + g.count
        → r.progress.cursors.past ≡ g.cursors.past → length kept ≡ unit_blocks → FromOld old kept n → Answer
    unfolding count_after
    lays-done l m q eh ea ep k f = record {
      number_is = q ∙ sym (number-right total used taken hint allocated (entries old) (retained_blocks limit c unit verified (entries old)) enough (sym test-is ∙ wrong-not allocated gone g.count l m));
      done = λ z. record {
        hint_is = eh ∙ gives.hint_is;
        count_is = ea ∙ ap (λ (x : ℕ). allocated - x + g.count) gone-is ∙ ap (λ (x : ℕ). allocated - length (superseded (entries old) (retained_blocks limit c unit verified (entries old))) + x) gives.count_is;
        carried = rw ep gives.carried;
        keeps =
            kept_whole kept n (omega (arith, k, f.few)) f.rest
            ∙ ap (λ (x : List (Option ℕ)). x ++ replicate (length kept - n) none) t.list
            ∙ ap (λ (x : ℕ). retained_blocks limit c unit verified (entries old) ++ replicate (x - n) none) k
            ∙ ap (λ (x : ℕ). retained_blocks limit c unit verified (entries old) ++ replicate (unit_blocks - x) none) t.count;
        placed = gives.placed (not-false g.enough e);
      };
    }
