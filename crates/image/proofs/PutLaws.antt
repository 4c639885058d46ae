-- Laws of a unit's new blocks: what one written block is, what the loop over them keeps, and what is as before.
-- Assumes nothing.
use mathlib.Core.Path.{◌≡◌, refl, sym, ◌∙◌}
use mathlib.Core.List.{List, [], ◌∷◌}
use mathlib.Core.Option.{Option, none, some}
use Prim.Native.Nat.{ℕ, zero, suc, ◌+◌, ◌-◌, ◌*◌, min, ◌≤◌, ◌<◌}
use native.Mathlib.Decide.{dec_le}
use native.Mathlib.Omega.{arith}
use lib.ListN.{length, take, drop, get_or, replicate, length-drop, length-replicate, drop_of_length-le}
use lib.Seq.{drop-cons, take_all, take-nil}
use Rattle.rules.specs.Sizes.{block_bytes}
use Rattle.rules.specs.Bytes.{part, patch, padded}
use Rattle.rules.specs.Store.{block_at}
use Rattle.rules.specs.Finish.{write_block, write_new}
use Rattle.rules.proofs.ListLaws.{order-cases}
use Rattle.rules.proofs.ByteLaws.{length-padded, length_part, length-patch, part-patch-before, part-patch-behind, patch-patch}
use Rattle.history.proofs.MoreBytes.{length-part-min}
use Rattle.mapping.specs.Entries.{entry_of, entries}

-- ---- one block

-- a part, from where and for as long as there are bytes
part-there : (s : List ℕ) (a n f m : ℕ) → f ≡ min a (length s) → m ≡ min n (length s - f) → part f m s ≡ part a n s
unfolding part
part-there s a n f m p q = go (dec_le a (length s)) (dec_le n (length s - a))
  where
    go : Dec (a ≤ length s) → Dec (n ≤ length s - a) → take m (drop f s) ≡ take n (drop a s)
    go (yes h) (yes k) =
        let x : f ≡ a = omega arith in
        let y : m ≡ n = omega arith in
        rw (x, y) refl
    go (yes h) (no k) =
        let x : f ≡ a = omega arith in
        let l : length (drop a s) ≤ m = rw length-drop (omega arith) in
        let r : length (drop a s) ≤ n = rw length-drop (omega arith) in
        rw x (take_all m (drop a s) l ∙ sym (take_all n (drop a s) r))
    go (no h) k =
        let x : drop f s ≡ [] = drop_of_length-le s {i = f} (omega arith) in
        let y : drop a s ≡ [] = drop_of_length-le s {i = a} (omega arith) in
        rw (x, y, take-nil m, take-nil n) refl

-- a block's bytes copied, and zeros behind them
pub block_written : (s x t bytes : List ℕ) (b i f m : ℕ) → (b + 1) * block_bytes ≤ length s → f ≡ min (i * block_bytes) (length bytes) → m ≡ min block_bytes (length bytes - f)
    → x ≡ patch s (b * block_bytes) (part f m bytes) → t ≡ patch x (b * block_bytes + m) (replicate (b * block_bytes + block_bytes - (b * block_bytes + m)) 0)
    → t ≡ write_block s b (part (i * block_bytes) block_bytes bytes)
unfolding write_block padded
block_written s x t bytes b i f m h p q e g =
    let y : part f m bytes ≡ part (i * block_bytes) block_bytes bytes = part-there bytes (i * block_bytes) block_bytes f m p q in
    let z : length (part f m bytes) ≡ m = length_part bytes f m (omega arith) in
    let w : b * block_bytes + block_bytes - (b * block_bytes + m) ≡ block_bytes - m = omega arith in
    let v : length (replicate {A = ℕ} (block_bytes - m) 0) ≡ block_bytes - m = length-replicate {A = ℕ} (block_bytes - m) 0 in
    rw (← y, z) (g ∙ rw (e, w) (patch-patch s (b * block_bytes) (b * block_bytes + m) (part f m bytes) (replicate (block_bytes - m) 0) (omega arith) (omega arith)))

-- ---- the blocks so far

module _ (bytes kept blocks s₀ : List ℕ) where
  -- the first entry at a place, and the others
  entries-drop : (i : ℕ) → i < length kept → entries (drop i kept) ≡ entry_of (get_or kept i 0) ∷ entries (drop (suc i) kept)
  unfolding entries
  entries-drop i l = rw (drop-cons kept i 0 l) refl

  -- the image when the blocks before i are written: those from i on make of it what all make of the image at first
  abbrev pub Put : List ℕ → ℕ → Type 0
  Put s i = write_new bytes i (entries (drop i kept)) (drop i blocks) s ≡ write_new bytes 0 (entries kept) blocks s₀

  module _ (same : length kept ≡ length blocks) where
    -- a new block more
    pub put-new : (s t : List ℕ) (i : ℕ) → Put s i → i < length blocks → get_or kept i 0 ≡ 0 → t ≡ write_block s (get_or blocks i 0) (part (i * block_bytes) block_bytes bytes) → Put t (i + 1)
    unfolding write_new entry_of
    put-new s t i h l z e =
        let n : i + 1 ≡ suc i = omega arith in
        rw (n, e) (sym (rw (entries-drop i (omega arith), z, drop-cons blocks i 0 l) refl) ∙ h)

    -- one that is kept
    pub put-kept : (s t : List ℕ) (i : ℕ) → Put s i → i < length blocks → (get_or kept i 0 ≡ 0 → ⊥) → t ≡ s → Put t (i + 1)
    put-kept s t i h l z e =
        let n : i + 1 ≡ suc i = omega arith in
        rw (n, e) (sym (step (get_or kept i 0) z) ∙ sym (rw (entries-drop i (omega arith), drop-cons blocks i 0 l) refl) ∙ h)
      where
        step : (k : ℕ) → (k ≡ 0 → ⊥) → write_new bytes i (entry_of k ∷ entries (drop (suc i) kept)) (get_or blocks i 0 ∷ drop (suc i) blocks) s
            ≡ write_new bytes (suc i) (entries (drop (suc i) kept)) (drop (suc i) blocks) s
        step zero f = absurd (f refl)
        step (suc p) f = unfold write_new entry_of in refl

    -- all of them
    pub put_all : (s : List ℕ) (i : ℕ) → Put s i → length blocks ≤ i → s ≡ write_new bytes 0 (entries kept) blocks s₀
    unfolding write_new entries
    put_all s i h l = sym (rw (drop_of_length-le kept {i = i} (omega arith)) refl) ∙ h

-- ---- what stays

module _ (image : List ℕ) (b : ℕ) (bytes : List ℕ) (l : length bytes ≤ block_bytes) (f : (b + 1) * block_bytes ≤ length image) where
  -- a written block leaves the length
  length-write_block : length (write_block image b bytes) ≡ length image
  unfolding write_block
  length-write_block = length-patch image (b * block_bytes) (padded block_bytes bytes) (omega (arith, length-padded block_bytes bytes l))

  -- and every other block
  block_at-other : (c : ℕ) → (b ≡ c → ⊥) → block_at (write_block image b bytes) c ≡ block_at image c
  unfolding block_at write_block
  block_at-other c d =
      let e : length (padded block_bytes bytes) ≡ block_bytes = length-padded block_bytes bytes l in
      order-cases (part (c * block_bytes) block_bytes (write_block image b bytes) ≡ part (c * block_bytes) block_bytes image) b c
      (λ h. part-patch-behind image (b * block_bytes) (c * block_bytes) block_bytes (padded block_bytes bytes) (omega arith) (omega arith))
      (λ h. absurd (d h))
      (λ h. part-patch-before image (b * block_bytes) (c * block_bytes) block_bytes (padded block_bytes bytes) (omega arith) (omega arith))

module _ (bytes : List ℕ) where
  -- the i-th block of a unit's bytes fits in a block
  short : (i : ℕ) → length (part (i * block_bytes) block_bytes bytes) ≤ block_bytes
  short i = omega (arith, length-part-min bytes (i * block_bytes) block_bytes)

  -- a unit's new blocks leave the image as long as it was
  pub length-write_new : (i : ℕ) (kept : List (Option ℕ)) (blocks image : List ℕ) → ((j : ℕ) → j < length blocks → (get_or blocks j 0 + 1) * block_bytes ≤ length image)
      → length (write_new bytes i kept blocks image) ≡ length image
  unfolding write_new
  length-write_new i [] blocks image f = refl
  length-write_new i (k ∷ kept) [] image f = refl
  length-write_new i (some p ∷ kept) (b ∷ blocks) image f = length-write_new (suc i) kept blocks image (λ j l. f (suc j) (omega arith))
  length-write_new i (none ∷ kept) (b ∷ blocks) image f =
      let e : length (write_block image b (part (i * block_bytes) block_bytes bytes)) ≡ length image = length-write_block image b (part (i * block_bytes) block_bytes bytes) (short i) (f 0 (omega arith)) in
      length-write_new (suc i) kept blocks (write_block image b (part (i * block_bytes) block_bytes bytes)) (λ j l. rw e (f (suc j) (omega arith))) ∙ e

  -- a block that is none of the new ones is as before
  pub other-write_new : (i : ℕ) (kept : List (Option ℕ)) (blocks image : List ℕ) → ((j : ℕ) → j < length blocks → (get_or blocks j 0 + 1) * block_bytes ≤ length image)
      → (c : ℕ) → ((j : ℕ) → j < length blocks → get_or kept j none ≡ none → get_or blocks j 0 ≡ c → ⊥) → block_at (write_new bytes i kept blocks image) c ≡ block_at image c
  unfolding write_new
  other-write_new i [] blocks image f c d = refl
  other-write_new i (k ∷ kept) [] image f c d = refl
  other-write_new i (some p ∷ kept) (b ∷ blocks) image f c d =
      other-write_new (suc i) kept blocks image (λ j l. f (suc j) (omega arith)) c (λ j l. d (suc j) (omega arith))
  other-write_new i (none ∷ kept) (b ∷ blocks) image f c d =
      let e : length (write_block image b (part (i * block_bytes) block_bytes bytes)) ≡ length image = length-write_block image b (part (i * block_bytes) block_bytes bytes) (short i) (f 0 (omega arith)) in
      other-write_new (suc i) kept blocks (write_block image b (part (i * block_bytes) block_bytes bytes)) (λ j l. rw e (f (suc j) (omega arith))) c (λ j l. d (suc j) (omega arith))
      ∙ block_at-other image b (part (i * block_bytes) block_bytes bytes) (short i) (f 0 (omega arith)) c (d 0 (omega arith) refl)
