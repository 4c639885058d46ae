-- The image that a change leaves: a new block has its part of its unit's bytes, zeros behind them, and every other block is as before.
-- Assumes nothing.
use mathlib.Core.Path.{◌≡◌, refl, sym, ap, ◌∙◌}
use mathlib.Core.List.{List, [], ◌∷◌, ◌++◌, flat_map, Memᴰ}
use mathlib.Core.Bool.{true, false, ◌||◌}
use mathlib.Core.Option.{Option, none, some, none-ne-some}
use Prim.Native.Nat.{ℕ, zero, suc, ◌+◌, ◌*◌, ◌≤◌, ◌<◌}
use native.Mathlib.Omega.{arith}
use lib.Dec.{eqb}
use lib.ListN.{length, get_or}
use borrow.Author.Tests.{eqb-false}
use Rattle.rules.specs.Lists.{member}
use Rattle.rules.specs.Sizes.{block_bytes}
use Rattle.rules.specs.Bytes.{part, padded}
use Rattle.rules.specs.Store.{block_at}
use Rattle.rules.specs.Kept.{wanted, assigned}
use Rattle.rules.specs.Rewrite.{Rewritten}
use Rattle.rules.specs.Finish.{new_blocks, write_block, write_new, finished_image}
use Rattle.rules.proofs.ListLaws.{order-cases, or-none-left, or-none-right, or_right, member-append, Each, each_none, each_more}
use Rattle.rules.proofs.ByteLaws.{length-padded, length-patch, part-patch, part-patch-before, part-patch-behind}
use Rattle.rules.proofs.CountLaws.{member-cons, member-first, Once, once-head, once-tail}
use Rattle.history.proofs.MoreBytes.{length-part-min}
use Rattle.history.proofs.MoreLists.{once-apart, once-left, once-right}
use Rattle.rules.proofs.KeptLaws.{wanted-some, wanted-none}

-- ---- one block

module _ (image : List ℕ) (b : ℕ) (bytes : List ℕ) (l : length bytes ≤ block_bytes) (f : suc b * block_bytes ≤ length image) where
  -- a written block leaves the length
  length-write_block : length (write_block image b bytes) ≡ length image
  unfolding write_block
  length-write_block = length-patch image (b * block_bytes) (padded block_bytes bytes) (omega (arith, length-padded block_bytes bytes l))

  -- the block has the bytes, zeros behind them
  block_at-written : block_at (write_block image b bytes) b ≡ padded block_bytes bytes
  unfolding block_at write_block
  block_at-written = part-patch image (b * block_bytes) block_bytes (padded block_bytes bytes) (length-padded block_bytes bytes l) (omega arith)

  -- every other is as before
  block_at-other : (c : ℕ) → (c ≡ b → ⊥) → block_at (write_block image b bytes) c ≡ block_at image c
  unfolding block_at write_block
  block_at-other c d =
      let e : length (padded block_bytes bytes) ≡ block_bytes = length-padded block_bytes bytes l in
      order-cases (part (c * block_bytes) block_bytes (write_block image b bytes) ≡ part (c * block_bytes) block_bytes image) c b
      (λ h. part-patch-before image (b * block_bytes) (c * block_bytes) block_bytes (padded block_bytes bytes) (omega arith) (omega arith))
      (λ h. absurd (d h))
      (λ h. part-patch-behind image (b * block_bytes) (c * block_bytes) block_bytes (padded block_bytes bytes) (omega arith) (omega arith))

-- ---- a unit's blocks

module _ (n : ℕ) (bytes : List ℕ) where
  -- the i-th part of a unit's bytes
  abbrev piece : ℕ → List ℕ
  piece i = part (i * block_bytes) block_bytes bytes

  -- it fits in a block
  short : (i : ℕ) → length (piece i) ≤ block_bytes
  short i = omega (arith, length-part-min bytes (i * block_bytes) block_bytes)

  -- the image with a unit's new blocks written has the same length
  length-write_new : (i : ℕ) (kept : List (Option ℕ)) {new : List ℕ} → Each (λ b. b < n) new → (image : List ℕ) → n * block_bytes ≤ length image
      → length (write_new bytes i kept (assigned kept new) image) ≡ length image
  unfolding write_new assigned
  length-write_new i [] h image f = refl
  length-write_new i (some p ∷ kept) h image f = length-write_new (suc i) kept h image f
  length-write_new i (none ∷ kept) each_none image f = refl
  length-write_new i (none ∷ kept) (each_more {x = b} l h) image f =
      let e : length (write_block image b (piece i)) ≡ length image = length-write_block image b (piece i) (short i) (omega arith) in
      length-write_new (suc i) kept h (write_block image b (piece i)) (rw e f) ∙ e

  -- a block that is not new is as before
  other-write_new : (i : ℕ) (kept : List (Option ℕ)) {new : List ℕ} → Each (λ b. b < n) new → (image : List ℕ) → n * block_bytes ≤ length image
      → (c : ℕ) → member c new ≡ false → block_at (write_new bytes i kept (assigned kept new) image) c ≡ block_at image c
  unfolding write_new assigned
  other-write_new i [] h image f c m = refl
  other-write_new i (some p ∷ kept) h image f c m = other-write_new (suc i) kept h image f c m
  other-write_new i (none ∷ kept) each_none image f c m = refl
  other-write_new i (none ∷ kept) (each_more {x = b} {xs = new} l h) image f c m =
      let t : (eqb c b || member c new) ≡ false = sym (member-cons c b new) ∙ m in
      let e : length (write_block image b (piece i)) ≡ length image = length-write_block image b (piece i) (short i) (omega arith) in
      other-write_new (suc i) kept h (write_block image b (piece i)) (rw e f) c (or-none-right (eqb c b) (member c new) t)
      ∙ block_at-other image b (piece i) (short i) (omega arith) c (eqb-false c b (or-none-left (eqb c b) (member c new) t))

  -- a new one has its part of the bytes
  new-write_new : (i : ℕ) (kept : List (Option ℕ)) {new : List ℕ} → Each (λ b. b < n) new → (image : List ℕ) → n * block_bytes ≤ length image
      → Once new → length new ≡ wanted kept → (j : ℕ) → j < length kept → get_or kept j none ≡ none
      → block_at (write_new bytes i kept (assigned kept new) image) (get_or (assigned kept new) j 0) ≡ padded block_bytes (piece (i + j))
  unfolding write_new assigned
  new-write_new i [] h image f o w j l k = absurd (omega arith)
  new-write_new i (some p ∷ kept) h image f o w zero l k = absurd (none-ne-some p (sym k))
  new-write_new i (some p ∷ kept) h image f o w (suc j) l k =
      let e : suc i + j ≡ i + suc j = omega arith in
      new-write_new (suc i) kept h image f o (w ∙ wanted-some p kept) j (omega arith) k
      ∙ ap (λ (x : ℕ). padded block_bytes (piece x)) e
  new-write_new i (none ∷ kept) each_none image f o w j l k =
      absurd (omega (arith, w, wanted-none kept))
  new-write_new i (none ∷ kept) (each_more {x = b} {xs = new} q h) image f o w zero l k =
      let e : length (write_block image b (piece i)) ≡ length image = length-write_block image b (piece i) (short i) (omega arith) in
      let z : i ≡ i + 0 = omega arith in
      other-write_new (suc i) kept h (write_block image b (piece i)) (rw e f) b (once-head b new o)
      ∙ block_at-written image b (piece i) (short i) (omega arith)
      ∙ ap (λ (x : ℕ). padded block_bytes (piece x)) z
  new-write_new i (none ∷ kept) (each_more {x = b} {xs = new} q h) image f o w (suc j) l k =
      let e : length (write_block image b (piece i)) ≡ length image = length-write_block image b (piece i) (short i) (omega arith) in
      let g : suc i + j ≡ i + suc j = omega arith in
      let y : length new ≡ wanted kept = omega (arith, w, wanted-none kept) in
      new-write_new (suc i) kept h (write_block image b (piece i)) (rw e f) (once-tail b new o) y j (omega arith) k
      ∙ ap (λ (x : ℕ). padded block_bytes (piece x)) g

-- ---- a call's units

-- a unit was laid out: its blocks are the kept ones with the new ones between them, as many as are wanted, each one of the n blocks of the device
pub record LaidOut (n : ℕ) (r : Rewritten) : Type 0 where
  pub blocks : r.blocks ≡ assigned r.kept r.new
  pub many : length r.new ≡ wanted r.kept
  pub below : Each (λ b. b < n) r.new

-- the new blocks of the first unit, and of the others
pub new-cons : (r : Rewritten) (rs : List Rewritten) → new_blocks (r ∷ rs) ≡ r.new ++ new_blocks rs
unfolding new_blocks flat_map
new-cons r rs = refl

-- a new block stands among the new ones
pub assigned-new : (kept : List (Option ℕ)) (new : List ℕ) → length new ≡ wanted kept → (j : ℕ) → j < length kept → get_or kept j none ≡ none
    → member (get_or (assigned kept new) j 0) new ≡ true
unfolding assigned
assigned-new [] new w j l k = absurd (omega arith)
assigned-new (some p ∷ kept) new w zero l k = absurd (none-ne-some p (sym k))
assigned-new (some p ∷ kept) new w (suc j) l k = assigned-new kept new (w ∙ wanted-some p kept) j (omega arith) k
assigned-new (none ∷ kept) [] w j l k = absurd (omega (arith, w, wanted-none kept))
assigned-new (none ∷ kept) (b ∷ new) w zero l k = member-first b new
assigned-new (none ∷ kept) (b ∷ new) w (suc j) l k =
    let y : length new ≡ wanted kept = omega (arith, w, wanted-none kept) in
    let c : ℕ = get_or (assigned kept new) j 0 in
    member-cons c b new ∙ or_right (eqb c b) (member c new) (assigned-new kept new y j (omega arith) k)

module _ (n : ℕ) where
  -- a rewritten unit leaves the image as long as it was
  length-unit : (r : Rewritten) → LaidOut n r → (image : List ℕ) → n * block_bytes ≤ length image → length (write_new r.bytes 0 r.kept r.blocks image) ≡ length image
  length-unit r a image f = rw a.blocks (length-write_new n r.bytes 0 r.kept a.below image f)

  -- the image has the length that it had
  pub length-finished_image : {rs : List Rewritten} → Each (LaidOut n) rs → (image : List ℕ) → n * block_bytes ≤ length image → length (finished_image rs image) ≡ length image
  unfolding finished_image
  length-finished_image each_none image f = refl
  length-finished_image (each_more {x = r} a h) image f =
      let e : length (write_new r.bytes 0 r.kept r.blocks image) ≡ length image = length-unit r a image f in
      length-finished_image h _ (rw e f) ∙ e

  -- a block that is new for no unit is as before
  pub other-finished_image : {rs : List Rewritten} → Each (LaidOut n) rs → (image : List ℕ) → n * block_bytes ≤ length image → (c : ℕ) → member c (new_blocks rs) ≡ false
      → block_at (finished_image rs image) c ≡ block_at image c
  unfolding finished_image
  other-finished_image each_none image f c m = refl
  other-finished_image (each_more {x = r} {xs = rs} a h) image f c m =
      let t : (member c r.new || member c (new_blocks rs)) ≡ false = sym (member-append c r.new (new_blocks rs)) ∙ sym (ap (member c) (new-cons r rs)) ∙ m in
      let e : length (write_new r.bytes 0 r.kept r.blocks image) ≡ length image = length-unit r a image f in
      other-finished_image h _ (rw e f) c (or-none-right (member c r.new) (member c (new_blocks rs)) t)
      ∙ (rw a.blocks (other-write_new n r.bytes 0 r.kept a.below image f c (or-none-left (member c r.new) (member c (new_blocks rs)) t)))

  -- a unit's new block has its part of the unit's bytes
  pub new-finished_image : {rs : List Rewritten} → Each (LaidOut n) rs → (image : List ℕ) → n * block_bytes ≤ length image → Once (new_blocks rs)
      → (r : Rewritten) → Memᴰ r rs → (j : ℕ) → j < length r.kept → get_or r.kept j none ≡ none
      → block_at (finished_image rs image) (get_or r.blocks j 0) ≡ padded block_bytes (part (j * block_bytes) block_bytes r.bytes)
  unfolding finished_image
  new-finished_image each_none image f o r m j l k = elim m [ ]
  new-finished_image (each_more {x = t} {xs = rs} a h) image f o r (Memᴰ.tail m) j l k =
      let e : length (write_new t.bytes 0 t.kept t.blocks image) ≡ length image = length-unit t a image f in
      new-finished_image h _ (rw e f) (once-right t.new (new_blocks rs) (rw (new-cons t rs) at o)) r m j l k
  new-finished_image (each_more {x = t} {xs = rs} a h) image f o r (Memᴰ.head q) j l k =
      let o' : Once (t.new ++ new_blocks rs) = rw (new-cons t rs) at o in
      let e : length (write_new t.bytes 0 t.kept t.blocks image) ≡ length image = length-unit t a image f in
      let l' : j < length t.kept = rw q at l in
      let k' : get_or t.kept j none ≡ none = rw q at k in
      let m : member (get_or t.blocks j 0) t.new ≡ true = rw a.blocks (assigned-new t.kept t.new a.many j l' k') in
      let z : j ≡ 0 + j = omega arith in
      rw q (other-finished_image h _ (rw e f) (get_or t.blocks j 0) (once-apart t.new (new_blocks rs) o' (get_or t.blocks j 0) m)
      ∙ (rw a.blocks (new-write_new n t.bytes 0 t.kept a.below image f (once-left t.new (new_blocks rs) o') a.many j l' k'))
      ∙ ap (λ (x : ℕ). padded block_bytes (part (x * block_bytes) block_bytes t.bytes)) (sym z))
