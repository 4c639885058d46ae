-- The blocks of rewritten units as the code carries them: the runs of a call are all its blocks, each as an extent of its own, joined from the right.
-- Assumes nothing.
use mathlib.Core.Path.{◌≡◌, refl, sym, ap, ◌∙◌}
use mathlib.Core.List.{List, [], ◌∷◌, ◌++◌, map, flat_map, map-append}
use mathlib.Core.Bool.{true, ◌&&◌}
use Prim.Native.Nat.{ℕ, zero, suc, ◌+◌, ◌-◌, ◌*◌, ◌/◌, ◌%◌, ◌≤◌, ◌<◌}
use native.Mathlib.Omega.{arith}
use lib.Dec.{eqb, ltb, leb}
use lib.ListN.{length, get_or, length-append, get_or-append}
use lib.Seq.{get_or-append-add}
use borrow.Author.Tests.{eqb-true, ltb-true, leb-true}
use Rattle.rules.specs.Lists.{range, neighbours, ascending}
use Rattle.rules.specs.Sizes.{unit_blocks}
use Rattle.rules.specs.Extent.{Extent}
use Rattle.rules.specs.Rewrite.{Rewritten}
use Rattle.rules.specs.Finish.{start_runs, call_runs}
use Rattle.rules.proofs.ListLaws.{range-add, Each, each_more, each_all, ascending-first, ascending-tail}
use Rattle.history.proofs.Rewritten.{block_places, new_places, Units}
use Rattle.history.proofs.RunLaws.{single}
use Rattle.format.specs.Records.{extent_of}
use Rattle.finish_extents.specs.Stretch.{Describes, end_block, one_block, single_at, singles, push_all, Pushed, PushedAll}
use Rattle.finish_extents.proofs.JoinLaws.{total, meet_all, push-more}
use Rattle.finish_extents.proofs.StretchLaws.{units_end}

-- ---- the runs

-- a unit's blocks before others
start-singles : (object logical : ℕ) (bs : List ℕ) (xs : List Extent) → start_runs object logical bs (meet_all xs) ≡ meet_all (map single (block_places object logical bs) ++ xs)
unfolding start_runs block_places meet_all
start-singles object logical [] xs = refl
start-singles object logical (b ∷ bs) xs = rw (start-singles object (suc logical) bs xs) refl

-- all units' blocks
call-singles : (object : ℕ) (rs : List Rewritten) → call_runs object rs ≡ meet_all (map single (new_places object rs))
unfolding call_runs new_places
call-singles object [] = unfold meet_all in refl
call-singles object (r ∷ rs) =
    rw (call-singles object rs) (start-singles object (r.unit * unit_blocks) r.blocks (map single (new_places object rs)) ∙ ap meet_all (sym (map-append single (block_places object (r.unit * unit_blocks) r.blocks) (new_places object rs))))

-- ---- by their numbers

-- two functions that agree on as many numbers
map-shift : {A : Type 0} (f g : ℕ → A) (a b n : ℕ) → ((k : ℕ) → k < n → f (a + k) ≡ g (b + k)) → map f (range a n) ≡ map g (range b n)
unfolding range
map-shift f g a b zero h = refl
map-shift {A} f g a b (suc n) h =
    let x : f a ≡ g b = rw (add-zero a, add-zero b) at (h 0 (omega arith)) in
    rw x (ap (λ (ys : List A). g b ∷ ys) (map-shift f g (suc a) (suc b) n (λ k l. rw (shifted a k, shifted b k) at (h (suc k) (omega arith)))))
  where
    shifted : (c k : ℕ) → c + suc k ≡ suc c + k
    shifted c k = omega arith

    add-zero : (c : ℕ) → c + 0 ≡ c
    add-zero c = omega arith

-- a stretch of blocks
stretch-singles : (object logical : ℕ) (bs : List ℕ)
    → map single (block_places object logical bs) ≡ map (λ k. record { object = object; logical = logical + k; physical = get_or bs k 0; count = 1 }) (range 0 (length bs))
unfolding block_places range
stretch-singles object logical [] = refl
stretch-singles object logical (b ∷ bs) =
    let z : logical + 0 ≡ logical = omega arith in
    rw (z, stretch-singles object (suc logical) bs)
    (ap (λ (xs : List Extent). record { object = object; logical = logical; physical = b; count = 1 } ∷ xs)
    (map-shift (λ k. record { object = object; logical = suc logical + k; physical = get_or bs k 0; count = 1 }) (λ k. record { object = object; logical = logical + k; physical = get_or (b ∷ bs) k 0; count = 1 }) 0 1 (length bs)
    (λ k l. let p : 0 + k ≡ k = omega arith in let q : 1 + k ≡ suc k = omega arith in let w : suc logical + k ≡ logical + suc k = omega arith in rw (p, q, w) refl)))

-- a block of the first unit
mine : (object u : ℕ) (us bs ys : List ℕ) (k : ℕ) → length bs ≤ unit_blocks → k < length bs
    → ◌≡◌ {A = Extent} (record { object = object; logical = u * unit_blocks + (0 + k); physical = get_or bs (0 + k) 0; count = 1 }) (single_at object (u ∷ us) (bs ++ ys) (0 + k))
unfolding single_at
mine object u us bs ys k l m =
    let z : 0 + k ≡ k = omega arith in
    let d : k / unit_blocks ≡ 0 = omega arith in
    let e : k % unit_blocks ≡ k = omega arith in
    rw (z, d, e, get_or-append bs ys 0 k m) refl

-- one of the others
others : (object u : ℕ) (us bs ys : List ℕ) (k : ℕ) → length bs ≡ unit_blocks → single_at object us ys (0 + k) ≡ single_at object (u ∷ us) (bs ++ ys) (0 + length bs + k)
unfolding single_at
others object u us bs ys k w =
    let z : 0 + k ≡ k = omega arith in
    let y : 0 + length bs + k ≡ length bs + k = omega arith in
    let d : (length bs + k) / unit_blocks ≡ suc (k / unit_blocks) = omega arith in
    let e : (length bs + k) % unit_blocks ≡ k % unit_blocks = omega arith in
    rw (z, y, d, e, get_or-append-add bs ys k 0) refl

-- a unit's blocks before those of others: it has 16 where there are others
unit-singles : (object u : ℕ) (us bs ys : List ℕ) → length bs ≤ unit_blocks → (0 < length ys → length bs ≡ unit_blocks)
    → map single (block_places object (u * unit_blocks) bs) ++ singles object us ys (length ys) ≡ singles object (u ∷ us) (bs ++ ys) (length (bs ++ ys))
unfolding singles
unit-singles object u us bs ys l h =
    let f : ℕ → Extent = single_at object (u ∷ us) (bs ++ ys) in
    let own : ℕ → Extent = λ k. record { object = object; logical = u * unit_blocks + k; physical = get_or bs k 0; count = 1 } in
    let first : map own (range 0 (length bs)) ≡ map f (range 0 (length bs)) = map-shift own f 0 0 (length bs) (λ k m. mine object u us bs ys k l m) in
    let later : map (single_at object us ys) (range 0 (length ys)) ≡ map f (range (0 + length bs) (length ys)) = map-shift (single_at object us ys) f 0 (0 + length bs) (length ys) (λ k m. others object u us bs ys k (h (omega arith))) in
    rw (stretch-singles object (u * unit_blocks) bs, first, later, length-append, range-add 0 (length bs) (length ys)) (sym (map-append f (range 0 (length bs)) (range (0 + length bs) (length ys))))

-- the places of all units are those of their blocks by number
places-singles : (object : ℕ) (rs : List Rewritten) → neighbours (λ r t. eqb (length r.blocks) unit_blocks) rs ≡ true → Each (λ r. length r.blocks ≤ unit_blocks) rs
    → map single (new_places object rs) ≡ singles object (map (λ r. r.unit) rs) (flat_map (λ r. r.blocks) rs) (length (flat_map (λ r. r.blocks) rs))
unfolding new_places flat_map
places-singles object [] f m = unfold singles range in refl
places-singles object (r ∷ rs) f (each_more k m) =
    let us : List ℕ = map (λ t. t.unit) rs in
    let ys : List ℕ = flat_map (λ t. t.blocks) rs in
    map-append single (block_places object (r.unit * unit_blocks) r.blocks) (new_places object rs)
    ∙ rw (places-singles object rs (ascending-tail (λ s t. eqb (length s.blocks) unit_blocks) r rs f) m) (unit-singles object r.unit us r.blocks ys k (full rs f))
  where
    full : (ts : List Rewritten) → neighbours (λ s t. eqb (length s.blocks) unit_blocks) (r ∷ ts) ≡ true → 0 < length (flat_map (λ t. t.blocks) ts) → length r.blocks ≡ unit_blocks
    full [] g n = absurd (omega arith)
    full (t ∷ ts) g n = eqb-true (length r.blocks) unit_blocks (ascending-first (λ s x. eqb (length s.blocks) unit_blocks) r t ts g)

-- extents of one block each
many : (f : ℕ → Extent) → ((k : ℕ) (xs : List Extent) → total (f k ∷ xs) ≡ suc (total xs)) → (a m : ℕ) → total (map f (range a m)) ≡ m
unfolding range
many f h a zero = unfold total in refl
many f h a (suc m) = h a (map f (range (suc a) m)) ∙ ap suc (many f h (suc a) m)

-- each is one block
pub total-singles : (object : ℕ) (us bs : List ℕ) (n : ℕ) → total (singles object us bs n) ≡ n
unfolding singles
total-singles object us bs n = many (single_at object us bs) one 0 n
  where
    one : (f : ℕ) (xs : List Extent) → total (single_at object us bs f ∷ xs) ≡ suc (total xs)
    one f xs = unfold total single_at in omega arith

-- one more of them
pub singles-more : (object : ℕ) (us bs : List ℕ) (n : ℕ) → singles object us bs (n + 1) ≡ singles object us bs n ++ (single_at object us bs n ∷ [])
unfolding singles range
singles-more object us bs n =
    rw (range-add 0 n 1) (map-append (single_at object us bs) (range 0 n) (range (0 + n) 1) ∙ (let z : 0 + n ≡ n = omega arith in rw z refl))

-- none of them
pub singles-none : (object : ℕ) (us bs : List ℕ) → singles object us bs 0 ≡ []
unfolding singles range
singles-none object us bs = refl

-- ---- the units

-- the order of units is that of their numbers
in_order : (rs : List Rewritten) → ascending (λ r t. ltb r.unit t.unit) rs ≡ ascending ltb (map (λ r. r.unit) rs)
unfolding neighbours
in_order [] = refl
in_order (r ∷ []) = refl
in_order (r ∷ t ∷ rs) = ap (λ b. ltb r.unit t.unit && b) (in_order (t ∷ rs))

-- units described as ascending are such as a plan gives
pub units_of : {us bs : List ℕ} (rs : List Rewritten) → Describes us bs rs → ascending ltb us ≡ true → Units rs
units_of {us} {bs} rs d o = record {
  order = in_order rs ∙ rw d.units o;
  filled = each_all (λ r. ltb 0 (length r.blocks)) (λ r t. ltb-true 0 (length r.blocks) t) rs d.filled;
  most = each_all (λ r. leb (length r.blocks) unit_blocks) (λ r t. leb-true (length r.blocks) unit_blocks t) rs d.most;
}

-- the runs of units described so
pub described-runs : (object : ℕ) {us bs : List ℕ} (rs : List Rewritten) → Describes us bs rs → call_runs object rs ≡ meet_all (singles object us bs (length bs))
described-runs object {us} {bs} rs d =
    call-singles object rs
    ∙ ap meet_all (places-singles object rs d.full (each_all (λ r. leb (length r.blocks) unit_blocks) (λ r t. leb-true (length r.blocks) unit_blocks t) rs d.most) ∙ rw (d.units, d.blocks) refl)

-- the end of the last of them
pub end_of : (c : ℕ) (us : List ℕ) → 0 < length us → units_end c us ≡ end_block us
unfolding units_end
end_of c [] n = absurd (omega arith)
end_of c (u ∷ []) n = omega arith
end_of c (u ∷ v ∷ us) n =
    let p : length (u ∷ v ∷ us) - 1 ≡ suc (length (v ∷ us) - 1) = omega arith in
    rw p (end_of (suc u * unit_blocks) (v ∷ us) (omega arith))

-- ---- as the code makes them

-- a block of a unit
pub single-made : (object unit offset block logical : ℕ) → logical ≡ unit * 16 + offset
    → extent_of (record { object = object; logical = logical; physical = block; count = 1 }) ≡ one_block object (unit * unit_blocks + offset) block
unfolding extent_of one_block
single-made object unit offset block logical q = ap (λ (l : ℕ). record { object = object; logical = l; physical = block; count = 1 }) q

-- block f of all of them
pub single-read : (object : ℕ) (us bs : List ℕ) (f : ℕ) (x : Extent) (u o b : ℕ) → u ≡ get_or us (f / 16) 0 → o ≡ f % 16 → b ≡ get_or bs f 0 → x ≡ one_block object (u * unit_blocks + o) b → x ≡ single_at object us bs f
unfolding single_at one_block
single-read object us bs f x u o b p q r h = h ∙ rw (p, q, r) refl

-- none put behind others
pub blocks-none : (object : ℕ) (us bs : List ℕ) (n : ℕ) (s : List ℕ) → PushedAll n s (singles object us bs 0) n s
blocks-none object us bs n s es h = rw (singles-none object us bs) (unfold push_all in h)

-- one more
pub blocks_more : (object : ℕ) (us bs : List ℕ) (n m k f : ℕ) (s t v : List ℕ) (x : Extent) → PushedAll n s (singles object us bs f) m t → x ≡ single_at object us bs f → Pushed m t x k v
    → PushedAll n s (singles object us bs (f + 1)) k v
blocks_more object us bs n m k f s t v x h q p es g =
    rw (singles-more object us bs f, push-more es (singles object us bs f) (single_at object us bs f), ← q) (p (push_all es (singles object us bs f)) (h es g))

-- all of them
pub blocks-all : (object : ℕ) (us bs : List ℕ) (n m f : ℕ) (s t : List ℕ) → f ≤ length bs → length bs ≤ f → PushedAll n s (singles object us bs f) m t → PushedAll n s (singles object us bs (length bs)) m t
blocks-all object us bs n m f s t l k h = let q : length bs ≡ f = omega arith in rw q h
