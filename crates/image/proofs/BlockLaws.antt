-- Laws of the bytes of a file's blocks, where some of them are not mapped: how many they are, where a block's bytes stand among them, and when two
-- images have the same ones.
-- Assumes nothing.
use mathlib.Core.Path.{◌≡◌, refl, sym, ap, ◌∙◌}
use mathlib.Core.Bool.{true, false, false≢true}
use mathlib.Core.List.{List, [], ◌∷◌, ◌++◌, flat_map, map, map-append}
use Prim.Native.Nat.{ℕ, zero, suc, ◌+◌, ◌-◌, ◌*◌, ◌≤◌, ◌<◌}
use native.Mathlib.Omega.{arith}
use lib.ListN.{length, take, drop, get_or, replicate, length-append, length-replicate, replicate-append-replicate, take-append-drop}
use lib.Seq.{get_or-drop, take-add, take_at, drop_at, take-take}
use Rattle.rules.specs.Lists.{maybe, given, all, any}
use Rattle.rules.specs.Sizes.{block_bytes}
use Rattle.rules.specs.Bytes.{part}
use Rattle.rules.specs.Store.{block_at}
use Rattle.rules.proofs.ByteLaws.{length_part, part_left, part_right}
use Rattle.rules.proofs.CountLaws.{flat_map-append}
use Rattle.mapping.specs.Entries.{entry_of, entries, Inside}
use Rattle.image.specs.Blocks.{block_or_zeros, blocks_bytes}

-- ---- one block

-- a block that lies in the image has its length
pub length-block_at : (image : List ℕ) (b : ℕ) → suc b * block_bytes ≤ length image → length (block_at image b) ≡ block_bytes
unfolding block_at
length-block_at image b h = length_part image (b * block_bytes) block_bytes (omega arith)

-- and so do the zeros of one that is not mapped
pub length-block_or_zeros : (image : List ℕ) (x : ℕ) → x * block_bytes ≤ length image → length (block_or_zeros image (entry_of x)) ≡ block_bytes
unfolding block_or_zeros entry_of maybe
length-block_or_zeros image zero h = length-replicate {A = ℕ} block_bytes 0
length-block_or_zeros image (suc b) h = length-block_at image b h

-- ---- blocks one after another

-- the first block's bytes, and those of the others
pub blocks-cons : (image : List ℕ) (x : ℕ) (xs : List ℕ) → blocks_bytes image (entries (x ∷ xs)) ≡ block_or_zeros image (entry_of x) ++ blocks_bytes image (entries xs)
unfolding blocks_bytes entries flat_map
blocks-cons image x xs = refl

-- the entries behind the first
pub inside-tail : (image : List ℕ) (x : ℕ) (xs : List ℕ) → Inside image (x ∷ xs) → Inside image xs
inside-tail image x xs h = record { each = λ i. h.each (suc i) }

-- they are so many
pub length-blocks_bytes : (image xs : List ℕ) → Inside image xs → length (blocks_bytes image (entries xs)) ≡ block_bytes * length xs
length-blocks_bytes image [] h = unfold blocks_bytes entries flat_map in refl
length-blocks_bytes image (x ∷ xs) h =
    let p : length (block_or_zeros image (entry_of x)) ≡ block_bytes = length-block_or_zeros image x (h.each 0) in
    let q : length (blocks_bytes image (entries xs)) ≡ block_bytes * length xs = length-blocks_bytes image xs (inside-tail image x xs h) in
    rw (blocks-cons image x xs, length-append) (omega arith)

-- a part of them that lies in one block
pub part-of-block : (image xs : List ℕ) → Inside image xs → (i place m : ℕ) → i < length xs → place + m ≤ block_bytes
    → part (i * block_bytes + place) m (blocks_bytes image (entries xs)) ≡ part place m (block_or_zeros image (entry_of (get_or xs i 0)))
part-of-block image [] h i place m l f = absurd (omega arith)
part-of-block image (x ∷ xs) h zero place m l f =
    let p : length (block_or_zeros image (entry_of x)) ≡ block_bytes = length-block_or_zeros image x (h.each 0) in
    let z : 0 * block_bytes + place ≡ place = omega arith in
    rw (z, blocks-cons image x xs) (part_left (block_or_zeros image (entry_of x)) (blocks_bytes image (entries xs)) place m (omega arith))
part-of-block image (x ∷ xs) h (suc i) place m l f =
    let p : length (block_or_zeros image (entry_of x)) ≡ block_bytes = length-block_or_zeros image x (h.each 0) in
    let z : suc i * block_bytes + place - length (block_or_zeros image (entry_of x)) ≡ i * block_bytes + place = omega arith in
    rw (blocks-cons image x xs)
    (part_right (block_or_zeros image (entry_of x)) (blocks_bytes image (entries xs)) (suc i * block_bytes + place) m (omega arith)
    ∙ ap (λ (k : ℕ). part k m (blocks_bytes image (entries xs))) z
    ∙ part-of-block image xs (inside-tail image x xs h) i place m (omega arith) f)

-- the first k blocks' bytes, and those of the others
pub blocks-split : (image xs : List ℕ) (k : ℕ) → blocks_bytes image (entries xs) ≡ blocks_bytes image (entries (take k xs)) ++ blocks_bytes image (entries (drop k xs))
unfolding blocks_bytes entries
blocks-split image xs k =
    ap (λ (ys : List ℕ). flat_map (block_or_zeros image) (map entry_of ys)) (sym (take-append-drop k xs))
    ∙ ap (flat_map (block_or_zeros image)) (map-append entry_of (take k xs) (drop k xs))
    ∙ flat_map-append (block_or_zeros image) (map entry_of (take k xs)) (map entry_of (drop k xs))

-- the first k entries lie in the image where all do
pub inside_take : (image xs : List ℕ) (k : ℕ) → Inside image xs → Inside image (take k xs)
inside_take image xs k h = record { each = λ i. go xs k (λ j. h.each j) i }
  where
    go : (ys : List ℕ) (n : ℕ) → ((j : ℕ) → get_or ys j 0 * block_bytes ≤ length image) → (i : ℕ) → get_or (take n ys) i 0 * block_bytes ≤ length image
    go ys zero f i = omega arith
    go [] (suc n) f i = omega arith
    go (y ∷ ys) (suc n) f zero = f 0
    go (y ∷ ys) (suc n) f (suc i) = go ys n (λ j. f (suc j)) i

-- and so do those behind them
pub inside-drop : (image xs : List ℕ) (k : ℕ) → Inside image xs → Inside image (drop k xs)
inside-drop image xs k h = record { each = λ i. rw (get_or-drop k xs i 0) (h.each (k + i)) }

-- ---- mapped and not

-- the bytes of the first blocks, where these are mapped
mapped-bytes : (image xs : List ℕ) (k : ℕ) → Inside image xs → k ≤ length xs → all given (take k (entries xs)) ≡ true
    → flat_map (maybe [] (block_at image)) (take k (entries xs)) ≡ take (block_bytes * k) (blocks_bytes image (entries xs))
unfolding entries all given
mapped-bytes image xs zero h l a = unfold flat_map in refl
mapped-bytes image [] (suc k) h l a = absurd (omega arith)
mapped-bytes image (zero ∷ xs) (suc k) h l a = absurd (false≢true (unfold entry_of in a))
mapped-bytes image (suc b ∷ xs) (suc k) h l a =
    let p : length (block_at image b) ≡ block_bytes = length-block_at image b (h.each 0) in
    let m : block_bytes * suc k ≡ block_bytes + block_bytes * k = omega arith in
    let q : blocks_bytes image (entries (suc b ∷ xs)) ≡ block_at image b ++ blocks_bytes image (entries xs) = blocks-cons image (suc b) xs ∙ (unfold block_or_zeros entry_of maybe in refl) in
    let r : flat_map (maybe [] (block_at image)) (take k (entries xs)) ≡ take (block_bytes * k) (blocks_bytes image (entries xs)) =
    mapped-bytes image xs k (inside-tail image (suc b) xs h) (omega arith) (unfold entry_of in a) in
    rw (m, q, take-add block_bytes (block_bytes * k) (block_at image b ++ blocks_bytes image (entries xs)), take_at (block_at image b) (blocks_bytes image (entries xs)) block_bytes p, drop_at (block_at image b) (blocks_bytes image (entries xs)) block_bytes p, ← r)
    (unfold flat_map entry_of maybe in refl)

-- the first n bytes, where the blocks that they begin are mapped
pub take-mapped : (image xs : List ℕ) (k n : ℕ) → Inside image xs → k ≤ length xs → all given (take k (entries xs)) ≡ true → n ≤ block_bytes * k
    → take n (flat_map (maybe [] (block_at image)) (take k (entries xs))) ≡ take n (blocks_bytes image (entries xs))
take-mapped image xs k n h l a f = rw (mapped-bytes image xs k h l a) (take-take n (block_bytes * k) (blocks_bytes image (entries xs)) f)

-- zeros, where none is mapped
pub blocks-holes : (image xs : List ℕ) → any given (entries xs) ≡ false → blocks_bytes image (entries xs) ≡ replicate (block_bytes * length xs) 0
unfolding entries any given
blocks-holes image [] e = unfold blocks_bytes flat_map in refl
blocks-holes image (suc b ∷ xs) e = absurd (false≢true (sym (unfold entry_of in e)))
blocks-holes image (zero ∷ xs) e =
    let m : block_bytes * suc (length xs) ≡ block_bytes + block_bytes * length xs = omega arith in
    let q : blocks_bytes image (entries (zero ∷ xs)) ≡ replicate block_bytes 0 ++ blocks_bytes image (entries xs) = blocks-cons image zero xs ∙ (unfold block_or_zeros entry_of maybe in refl) in
    let r : blocks_bytes image (entries xs) ≡ replicate (block_bytes * length xs) 0 = blocks-holes image xs (unfold entry_of in e) in
    rw (q, r, m) (replicate-append-replicate block_bytes (block_bytes * length xs) 0)

-- ---- two images

-- entries lie in an image where they do in another of its length
pub inside-same : (s t xs : List ℕ) → length t ≡ length s → Inside s xs → Inside t xs
inside-same s t xs e h = record { each = λ i. rw e (h.each i) }

-- a block's bytes are the same on two images that agree on it
same-entry : (s t : List ℕ) (x : ℕ) → ((b : ℕ) → x ≡ suc b → block_at s b ≡ block_at t b) → block_or_zeros s (entry_of x) ≡ block_or_zeros t (entry_of x)
unfolding block_or_zeros entry_of maybe
same-entry s t zero h = refl
same-entry s t (suc b) h = h b refl

-- and so are those of blocks, where they agree on the mapped ones
pub same_blocks : (s t xs : List ℕ) → ((i b : ℕ) → i < length xs → get_or xs i 0 ≡ suc b → block_at s b ≡ block_at t b)
    → blocks_bytes s (entries xs) ≡ blocks_bytes t (entries xs)
same_blocks s t [] h = unfold blocks_bytes entries flat_map in refl
same_blocks s t (x ∷ xs) h =
    let p : block_or_zeros s (entry_of x) ≡ block_or_zeros t (entry_of x) = same-entry s t x (λ b e. h 0 b (omega arith) e) in
    let q : blocks_bytes s (entries xs) ≡ blocks_bytes t (entries xs) = same_blocks s t xs (λ i b l e. h (suc i) b (omega arith) e) in
    rw (blocks-cons s x xs, blocks-cons t x xs, p, q) refl
