-- Laws of entries: an array of them filled from its front, and what the entries of mapped blocks keep within.
-- Assumes nothing.
use mathlib.Core.Path.{◌≡◌, refl, sym, ap, ◌∙◌}
use mathlib.Core.Bool.{true}
use mathlib.Core.List.{List, [], ◌∷◌, map}
use mathlib.Core.Option.{Option, none, some, none-ne-some}
use Prim.Native.Nat.{ℕ, zero, suc, ◌+◌, ◌-◌, ◌*◌, ◌≤◌, ◌<◌}
use native.Mathlib.Decide.{ℕ_discrete, dec_lt}
use native.Mathlib.Omega.{arith}
use borrow.Author.Tests.{leb-true}
use lib.Dec.{leb}
use lib.ListN.{length, take, drop, get_or, set, length-drop, length-map, get_or-eq_default}
use lib.Seq.{length-take-le, get_or-take, get_or-drop, get_or-set_same, get_or-set_other}
use Rattle.rules.specs.Lists.{maybe, range, all, find}
use Rattle.rules.specs.Sizes.{block_bytes, most_blocks}
use Rattle.rules.specs.Extent.{Extent, covers, block_of, mapping}
use Rattle.rules.proofs.ListLaws.{length-range, get_d_map, get_or-map-range, all-mem, find-passes, find-mem}
use Rattle.history.proofs.MappingLaws.{Covers, covers-true}
use Rattle.mapping.specs.Entries.{entry_of, entries, Inside, extents_in, ExtentsRight}

-- ---- an array filled from its front

-- the first i entries stand for what f says from first on
abbrev pub Filled : (ℕ → Option ℕ) → ℕ → List ℕ → ℕ → Type 0
Filled f first xs i = (j : ℕ) → j < i → entry_of (get_or xs j 0) ≡ f (first + j)

module _ (f : ℕ → Option ℕ) (first : ℕ) (xs : List ℕ) where
  -- none is filled yet
  pub filled_none : Filled f first xs 0
  filled_none j l = absurd (omega arith)

  -- one more
  pub filled_more : (i x : ℕ) → i < length xs → Filled f first xs i → entry_of x ≡ f (first + i) → Filled f first (set xs i x) (i + 1)
  filled_more i x l h e j k = go (ℕ_discrete j i)
    where
      go : Dec (j ≡ i) → entry_of (get_or (set xs i x) j 0) ≡ f (first + j)
      go (yes q) = rw (q, get_or-set_same xs i x 0 l) e
      go (no q) = rw (get_or-set_other xs i j x 0 q) (h j (omega arith))

-- all of them
pub filled-all : (f : ℕ → Option ℕ) (first : ℕ) (xs : List ℕ) → Filled f first xs (length xs) → entries xs ≡ map f (range first (length xs))
unfolding entries range
filled-all f first [] h = refl
filled-all f first (x ∷ xs) h = go (h 0 (omega arith)) (filled-all f (suc first) xs (λ j l. h (suc j) (omega arith) ∙ ap f (let q : first + suc j ≡ suc first + j = omega arith in q)))
  where
    go : entry_of x ≡ f (first + 0) → map entry_of xs ≡ map f (range (suc first) (length xs)) → map entry_of (x ∷ xs) ≡ map f (first ∷ range (suc first) (length xs))
    go a b = let z : first + 0 ≡ first = omega arith in cc

-- ---- entries that are known

module _ (f : ℕ → Option ℕ) (first n : ℕ) (xs : List ℕ) (same : entries xs ≡ map f (range first n)) where
  -- there are as many
  pub entries-length : length xs ≡ n
  unfolding entries
  entries-length = sym (length-map xs entry_of) ∙ ap length same ∙ length-map (range first n) f ∙ length-range first n

  -- one of them
  pub entry_at : (i : ℕ) → i < n → entry_of (get_or xs i 0) ≡ f (first + i)
  unfolding entries
  entry_at i l =
      let q : length xs ≡ n = entries-length in
      sym (get_d_map entry_of xs i none 0 (omega arith)) ∙ ap (λ (ys : List (Option ℕ)). get_or ys i none) same ∙ get_or-map-range f first n i none l

  -- some side by side
  pub entries-part : (a m : ℕ) → a + m ≤ n → entries (take m (drop a xs)) ≡ map f (range (first + a) m)
  entries-part a m l =
      let q : length xs ≡ n = entries-length in
      let d : length (drop a xs) ≡ length xs - a = length-drop a xs in
      let k : length (take m (drop a xs)) ≡ m = length-take-le m (drop a xs) (omega arith) in
      filled-all f (first + a) (take m (drop a xs)) (λ j h. get_d_part j (omega arith) ∙ ap f (let z : first + (a + j) ≡ first + a + j = omega arith in z)) ∙ ap (λ (z : ℕ). map f (range (first + a) z)) k
    where
      get_d_part : (j : ℕ) → j < m → entry_of (get_or (take m (drop a xs)) j 0) ≡ f (first + (a + j))
      get_d_part j h = rw (get_or-take m (drop a xs) j 0 h, get_or-drop a xs j 0) (entry_at (a + j) (omega arith))

-- ---- what the entries of mapped blocks keep within

-- a block that extents on a device map is one of the device
pub mapped-below : (d : ℕ) (es : List Extent) (object block p : ℕ) → all (λ e. leb (e.physical + e.count) d) es ≡ true → mapping es object block ≡ some p → p < d
unfolding mapping maybe block_of
mapped-below d es object block p h e = go (find (covers object block) es) refl e
  where
    go : (o : Option Extent) → find (covers object block) es ≡ o → maybe none (λ x. some (block_of block x)) o ≡ some p → p < d
    go none q r = absurd (none-ne-some p r)
    go (some x) q r =
        let c : Covers object block x = covers-true (find-passes (covers object block) es x q) in
        let l : x.physical + x.count ≤ d = leb-true _ _ (all-mem (λ e. leb (e.physical + e.count) d) h (find-mem (covers object block) es x q)) in
        let s : x.physical + (block - x.logical) ≡ p = cc in
        omega (arith, c.low, c.high)

-- so an entry that stands for what they map is at most the number of its blocks
entry-most : (d : ℕ) (es : List Extent) (object block x : ℕ) → all (λ e. leb (e.physical + e.count) d) es ≡ true → entry_of x ≡ mapping es object block → x ≤ d
unfolding entry_of
entry-most d es object block zero h e = omega arith
entry-most d es object block (suc p) h e = mapped-below d es object block p h (sym e)

module _ (d : ℕ) (es : List Extent) (object first : ℕ) (xs : List ℕ) (h : all (λ e. leb (e.physical + e.count) d) es ≡ true)
    (n : ℕ) (same : entries xs ≡ map (mapping es object) (range first n)) where
  -- and so are all entries of a stretch
  pub entries-most : (i : ℕ) → get_or xs i 0 ≤ d
  entries-most i = go (dec_lt i n)
    where
      go : Dec (i < n) → get_or xs i 0 ≤ d
      go (yes l) = entry-most d es object (first + i) (get_or xs i 0) h (entry_at (mapping es object) first n xs same i l)
      go (no l) =
          let q : length xs ≡ n = entries-length (mapping es object) first n xs same in
          rw (get_or-eq_default xs 0 {n = i} (omega arith)) (omega arith)

-- the blocks that a book maps lie in the image of its device
pub mapped-inside : (d n object first m : ℕ) (book blocks image : List ℕ) → ExtentsRight d n book
    → entries blocks ≡ map (mapping (extents_in n book) object) (range first m) → d * block_bytes ≤ length image → Inside image blocks
mapped-inside d n object first m book blocks image r e l = record {
  each = λ i. let k : get_or blocks i 0 ≤ d = entries-most d (extents_in n book) object first blocks r.device m e i in omega arith;
}

-- and are at most as many as the most of a store
pub mapped-most : (d n object first m : ℕ) (book blocks : List ℕ) → ExtentsRight d n book
    → entries blocks ≡ map (mapping (extents_in n book) object) (range first m) → (i : ℕ) → get_or blocks i 0 ≤ most_blocks
mapped-most d n object first m book blocks r e i =
    let k : get_or blocks i 0 ≤ d = entries-most d (extents_in n book) object first blocks r.device m e i in omega (arith, r.most)
