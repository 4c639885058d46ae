-- Laws of the loop that hands out bytes of blocks: what one piece is, and what stands at the head of the buffer after so many bytes.
-- Assumes nothing.
use mathlib.Core.Path.{◌≡◌, refl, sym, ◌∙◌}
use mathlib.Core.List.{List, ◌++◌}
use Prim.Native.Nat.{ℕ, zero, suc, ◌+◌, ◌-◌, ◌*◌, ◌/◌, ◌%◌, min, ◌≤◌, ◌<◌}
use native.Mathlib.Omega.{arith}
use lib.ListN.{length, drop, get_or, replicate, length-replicate, replicate-append-replicate}
use Rattle.rules.specs.Lists.{maybe}
use Rattle.rules.specs.Sizes.{block_bytes}
use Rattle.rules.specs.Bytes.{part, patch}
use Rattle.rules.specs.Store.{block_at}
use Rattle.rules.proofs.ByteLaws.{length_part, part-add, part-middle, part_none, part-part, patch-none, patch-patch}
use Rattle.mapping.specs.Entries.{entry_of, entries, Inside}
use Rattle.image.specs.Blocks.{block_or_zeros, blocks_bytes}
use Rattle.image.proofs.BlockLaws.{length-blocks_bytes, part-of-block}

-- ---- one piece

-- a part of zeros is zeros
pub part-zeros : (k a m : ℕ) → a + m ≤ k → part a m (replicate k 0) ≡ replicate m 0
part-zeros k a m h =
    let w : a + m + (k - (a + m)) ≡ k = omega arith in
    let e : replicate {A = ℕ} k 0 ≡ replicate a 0 ++ replicate m 0 ++ replicate (k - (a + m)) 0 =
    sym (rw (replicate-append-replicate {A = ℕ} a m 0, replicate-append-replicate {A = ℕ} (a + m) (k - (a + m)) 0, w) refl) in
    rw e (part-middle (replicate a 0) (replicate m 0) (replicate (k - (a + m)) 0) a m (length-replicate {A = ℕ} a 0) (length-replicate {A = ℕ} m 0))

-- zeros for a block that is not mapped
pub piece-zeros : (image s t : List ℕ) (x place m d : ℕ) → x ≡ 0 → place + m ≤ block_bytes → t ≡ patch s d (replicate (d + m - d) 0)
    → t ≡ patch s d (part place m (block_or_zeros image (entry_of x)))
unfolding block_or_zeros entry_of maybe
piece-zeros image s t x place m d z h e =
    let w : d + m - d ≡ m = omega arith in
    let q : t ≡ patch s d (replicate m 0) = rw w at e in
    rw (z, part-zeros block_bytes place m h) q

-- bytes of the image for one that is
pub piece-mapped : (image s t : List ℕ) (x place m d : ℕ) → (x ≡ 0 → ⊥) → place + m ≤ block_bytes → t ≡ patch s d (part ((x - 1) * block_bytes + place) m image)
    → t ≡ patch s d (part place m (block_or_zeros image (entry_of x)))
unfolding block_or_zeros entry_of maybe block_at
piece-mapped image s t zero place m d z h e = absurd (z refl)
piece-mapped image s t (suc b) place m d z h e =
    let w : suc b - 1 ≡ b = omega arith in
    let q : t ≡ patch s d (part (b * block_bytes + place) m image) = rw w at e in
    rw (part-part image (b * block_bytes) block_bytes place m h) q

-- ---- the pieces so far

-- none yet
pub out_none : (s t : List ℕ) (at : ℕ) → s ≡ patch s 0 (part at 0 t)
out_none s t at = sym (rw (part_none t at) (patch-none s 0))

module _ (image xs s₀ : List ℕ) (at n : ℕ) (inside : Inside image xs) (f : at + n ≤ block_bytes * length xs) (g : n ≤ length s₀) where
  -- a piece more
  pub out-more : (s t : List ℕ) (d i place m : ℕ) → s ≡ patch s₀ 0 (part at d (blocks_bytes image (entries xs))) → d < n
      → i ≡ at / block_bytes + (at % block_bytes + d) / block_bytes → place ≡ (at % block_bytes + d) % block_bytes → m ≡ min (block_bytes - place) (n - d)
      → t ≡ patch s d (part place m (block_or_zeros image (entry_of (get_or xs i 0)))) → t ≡ patch s₀ 0 (part at (d + m) (blocks_bytes image (entries xs)))
  out-more s t d i place m e l p q r u =
      let b : List ℕ = blocks_bytes image (entries xs) in
      let w : length b ≡ block_bytes * length xs = length-blocks_bytes image xs inside in
      let k : at + d ≡ i * block_bytes + place = omega arith in
      let j : part (at + d) m b ≡ part place m (block_or_zeros image (entry_of (get_or xs i 0))) =
      rw k (part-of-block image xs inside i place m (omega arith) (omega arith)) in
      let v : length (part at d b) ≡ d = length_part b at d (omega arith) in
      let y : length (part (at + d) m b) ≡ m = length_part b (at + d) m (omega arith) in
      u ∙ rw (e, ← j, part-add b at d m) (patch-patch s₀ 0 d (part at d b) (part (at + d) m b) (omega arith) (omega arith))

  -- all of them
  pub out-all : (s : List ℕ) (d : ℕ) → s ≡ patch s₀ 0 (part at d (blocks_bytes image (entries xs))) → d ≤ n → n ≤ d
      → s ≡ part at n (blocks_bytes image (entries xs)) ++ drop n s₀
  unfolding patch
  out-all s d e l h =
      let b : List ℕ = blocks_bytes image (entries xs) in
      let z : d ≡ n = omega arith in
      let w : length b ≡ block_bytes * length xs = length-blocks_bytes image xs inside in
      let v : 0 + length (part at n b) ≡ n = omega (arith, length_part b at n (omega arith)) in
      let q : s ≡ part at n b ++ drop (0 + length (part at n b)) s₀ = rw z at e in
      rw v at q
