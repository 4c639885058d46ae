-- Laws of the search of held extents: the entry through one of them, the first that has one, and an array of entries filled from its front.
-- Assumes nothing.
use mathlib.Core.Path.{◌≡◌, refl, sym, ap, ◌∙◌}
use mathlib.Core.Bool.{Bool, true, false, not}
use mathlib.Core.List.{List, [], ◌∷◌}
use Prim.Native.Nat.{ℕ, zero, suc, ◌+◌, ◌-◌, ◌≤◌, ◌<◌}
use native.Mathlib.Decide.{ℕ_discrete}
use native.Mathlib.Numerals.{add-one}
use native.Mathlib.Omega.{arith}
use borrow.Author.Tests.{not-true, not-false}
use lib.ListN.{length, get_or, set, take, drop, drop_of_length-le}
use lib.Seq.{drop-cons, length-take-le, get_or-take, get_or-set_same, get_or-set_other}
use Rattle.rules.specs.Lists.{pick◌then◌else◌}
use Rattle.rules.specs.Sizes.{most_blocks}
use Rattle.rules.specs.Extent.{covers, block_of}
use Rattle.rules.proofs.ListLaws.{if-true, if-false}
use Rattle.history.proofs.MappingLaws.{Covers, covers-true}
use Rattle.format.specs.declared.extent.Extent.{Extent}
use Rattle.format.specs.Records.{extent_of}
use Rattle.held.specs.Held.{no_extent, OnDevice, HeldRight, entry_through, or_else, held_entry, Mapped}

-- ---- one extent

module _ (object block : ℕ) (e : Extent) (t : Bool) (u : t ≡ covers object block (extent_of e)) where
  -- it does not map the block
  pub through_not : not t ≡ true → 0 ≡ entry_through object block e
  unfolding entry_through
  through_not v = sym (if-false (covers object block (extent_of e)) (block_of block (extent_of e) + 1) 0 (sym u ∙ not-true t v))

  module _ (v : not t ≡ false) where
    -- it does
    pub through-yes : (p r : ℕ) → p ≡ block_of block (extent_of e) → r ≡ p + 1 → r ≡ entry_through object block e
    unfolding entry_through
    through-yes p r q s = s ∙ ap (λ (x : ℕ). x + 1) q ∙ sym (if-true (covers object block (extent_of e)) (block_of block (extent_of e) + 1) 0 (sym u ∙ not-false t v))

    lies : Covers object block (extent_of e)
    lies = covers-true (sym u ∙ not-false t v)

    -- the block is not before its start
    pub through-low : (extent_of e).logical ≤ block
    through-low = lies.low

    -- and is on the device
    pub through-device : OnDevice e → block_of block (extent_of e) < most_blocks
    unfolding block_of extent_of
    through-device d = go lies
      where
        go : Covers object block (extent_of e) → e.physical + (block - e.logical) < most_blocks
        go c = omega (arith, c.low, c.high, d)

-- ---- the first that has an entry

-- the first i of k held extents map no such block
abbrev pub Passed : (object block k : ℕ) (ys : List Extent) (i : ℕ) → Type 0
Passed object block k ys i = (i ≤ k) × (held_entry object block (take k ys) ≡ held_entry object block (drop i (take k ys)))

module _ (object block k : ℕ) (ys : List Extent) (room : k ≤ length ys) where
  -- none is looked at yet
  pub passed_none : Passed object block k ys 0
  passed_none = (omega arith, refl)

  module _ (i : ℕ) (p : Passed object block k ys i) where
    module _ (l : i < k) (r : ℕ) (e : r ≡ entry_through object block (get_or ys i no_extent)) where
      -- the next is looked at
      next : held_entry object block (take k ys) ≡ or_else r (held_entry object block (drop (i + 1) (take k ys)))
      unfolding held_entry
      next =
          let n : length (take k ys) ≡ k = length-take-le k ys room in
          let g : get_or (take k ys) i no_extent ≡ get_or ys i no_extent = get_or-take k ys i no_extent l in
          p.1
          ∙ ap (held_entry object block) (drop-cons (take k ys) i no_extent (omega arith))
          ∙ ap (λ (x : Extent). or_else (entry_through object block x) (held_entry object block (drop (suc i) (take k ys)))) g
          ∙ ap (λ (x : ℕ). or_else x (held_entry object block (drop (suc i) (take k ys)))) (sym e)
          ∙ ap (λ (x : ℕ). or_else r (held_entry object block (drop x (take k ys)))) (sym (add-one i))

      -- it has one
      pub passed_here : (r ≡ 0 → ⊥) → r ≡ held_entry object block (take k ys)
      passed_here n = sym (next ∙ kept r (held_entry object block (drop (i + 1) (take k ys))) n)
        where
          kept : (x y : ℕ) → (x ≡ 0 → ⊥) → or_else x y ≡ x
          kept zero y m = absurd (m refl)
          kept (suc x) y m = unfold or_else in refl

      -- it has none
      pub passed-more : r ≡ 0 → Passed object block k ys (i + 1)
      passed-more z = (omega arith, next ∙ ap (λ (x : ℕ). or_else x (held_entry object block (drop (i + 1) (take k ys)))) z ∙ other)
        where
          other : or_else 0 (held_entry object block (drop (i + 1) (take k ys))) ≡ held_entry object block (drop (i + 1) (take k ys))
          other = unfold or_else in refl

    -- no one has
    pub passed-all : k ≤ i → 0 ≡ held_entry object block (take k ys)
    passed-all l =
        let n : length (take k ys) ≡ k = length-take-le k ys room in
        sym (p.1 ∙ ap (held_entry object block) (drop_of_length-le (take k ys) (let m : length (take k ys) ≤ i = omega arith in m)) ∙ none_left)
      where
        none_left : held_entry object block [] ≡ 0
        none_left = unfold held_entry in refl

-- ---- an array of entries

module _ (object first : ℕ) (held : List Extent) (xs : List ℕ) where
  -- none is entered yet
  pub mapped-none : Mapped object first held xs 0
  mapped-none j l = absurd (omega arith)

  -- one more
  pub mapped-more : (i x : ℕ) → i < length xs → Mapped object first held xs i → x ≡ held_entry object (first + i) held → Mapped object first held (set xs i x) (i + 1)
  mapped-more i x l h e j k = go (ℕ_discrete j i)
    where
      go : Dec (j ≡ i) → get_or (set xs i x) j 0 ≡ held_entry object (first + j) held
      go (yes q) = rw (q, get_or-set_same xs i x 0 l) e
      go (no q) = rw (get_or-set_other xs i j x 0 q) (h j (omega arith))
