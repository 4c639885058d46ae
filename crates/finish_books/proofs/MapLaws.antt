-- Laws of the two maps after a change: the blocks set one after another, and the new and the superseded blocks of units side by side.
-- Assumes nothing.
use mathlib.Core.Path.{◌≡◌, refl, sym, ap, ◌∙◌}
use mathlib.Core.List.{List, [], ◌∷◌, ◌++◌, map, flat_map, append-nil, map-append}
use mathlib.Core.Bool.{Bool, true, false, not, ◌&&◌, ◌||◌, or_assoc, or-false, or-true}
use mathlib.Core.Option.{Option, none, some}
use Prim.Native.Nat.{ℕ, zero, suc, ◌+◌, ◌-◌, ◌*◌, ◌≤◌, ◌<◌}
use native.Mathlib.Nat.{zero-add}
use native.Mathlib.Numerals.{add-one}
use native.Mathlib.Omega.{arith}
use borrow.Author.Tests.{eqb-true, eqb-false, eq-eqb, ne_eqb}
use lib.Dec.{eqb}
use lib.ListN.{length, take, drop, get_or, length-map}
use lib.Seq.{drop-nil, take-suc, take_all, take_at, drop_at, length-take-le}
use Rattle.rules.specs.Lists.{member}
use Rattle.rules.specs.Bytes.{Bytes, bit_set, bit_bytes}
use Rattle.rules.specs.Map.{map_bytes, encode_map}
use Rattle.rules.specs.Kept.{superseded, wanted, assigned}
use Rattle.rules.specs.Rewrite.{Rewritten}
use Rattle.rules.specs.Finish.{new_blocks, superseded_blocks}
use Rattle.rules.proofs.ListLaws.{order-cases, test-cases, if-true, if-false, member-append, clash, and_left, and_right, and_intro, Each, each_none, each_more}
use Rattle.rules.proofs.CountLaws.{member-cons, member-nil}
use Rattle.rules.proofs.BitLaws.{length-bit_bytes, bytes-bit_bytes, bit_set-bit_bytes, bits-ext}
use Rattle.rules.proofs.KeptLaws.{wanted-some, wanted-none, wanted-most}
use Rattle.bitmap.specs.Map.{with_bits}
use Rattle.bitmap.proofs.MapLaws.{length-with_bits, bytes-with_bits, bit_set-inside, bit_set-before, bit_set-after}
use Rattle.mapping.specs.Entries.{entry_of, entries}
use Rattle.finish_books.specs.Buffers.{new_of, gone_at, marked_if, NewInside, OldInside}

-- ---- blocks set in a map

-- a map with more blocks set in it
pub record Marked (before new after : List ℕ) : Type 0 where
  pub places : length after ≡ length before
  pub bytes : Bytes after
  pub bits : (b : ℕ) → b < 8 * length before → bit_set after b ≡ (bit_set before b || member b new)

-- no block is set
marked-nothing : (m : List ℕ) → Bytes m → Marked m [] m
marked-nothing m c = record { places = refl; bytes = c; bits = λ b l. sym (ap (λ (t : Bool). bit_set m b || t) (member-nil b) ∙ or-false (bit_set m b)) }

-- one more is
marked_next : (m new a t : List ℕ) (x : ℕ) → Marked m new a → x < 8 * length m → t ≡ with_bits true a x (x + 1) → Marked m (new ++ (x ∷ [])) t
marked_next m new a t x h w e =
    record {
      places = ap length e ∙ length-with_bits true a x (x + 1) ∙ h.places;
      bytes = rw e (bytes-with_bits true a x (x + 1));
      bits = λ b k. bit b k;
    }
  where
    more : (b : ℕ) → member b (new ++ (x ∷ [])) ≡ (member b new || eqb b x)
    more b = member-append b new (x ∷ []) ∙ ap (λ (t : Bool). member b new || t) (member-cons b x [] ∙ rw (member-nil b) (or-false (eqb b x)))

    bit : (b : ℕ) → b < 8 * length m → bit_set t b ≡ (bit_set m b || member b (new ++ (x ∷ [])))
    bit b k =
        let p : length a ≡ length m = h.places in
        rw (e, more b, ← or_assoc (bit_set m b) (member b new) (eqb b x), ← h.bits b k)
        (order-cases (bit_set (with_bits true a x (x + 1)) b ≡ (bit_set a b || eqb b x)) b x
        (λ q. bit_set-before true a x (x + 1) b (omega arith) q ∙ sym (rw (ne_eqb b x (λ d. omega arith)) (or-false (bit_set a b))))
        (λ q. bit_set-inside true a x (x + 1) b (omega arith) (omega arith) (omega arith) ∙ sym (rw (eq-eqb b x q) (or-true (bit_set a b))))
        (λ q. bit_set-after true a x (x + 1) b (omega arith) (omega arith) ∙ sym (rw (ne_eqb b x (λ d. omega arith)) (or-false (bit_set a b)))))

-- the map is then that of the blocks that were set and these
pub marked-map : (m new a : List ℕ) → Marked m new a → (b : ℕ) → length m ≡ map_bytes b → a ≡ encode_map b (λ n. bit_set m n || member n new)
unfolding encode_map
marked-map m new a h b n =
    let f : ℕ → Bool = λ k. bit_set m k || member k new in
    let p : length a ≡ length m = h.places in
    bits-ext a (bit_bytes (map_bytes b) f 0) h.bytes (bytes-bit_bytes (map_bytes b) f 0) (p ∙ n ∙ sym (length-bit_bytes (map_bytes b) f 0))
    (λ k l. h.bits k (omega arith) ∙ sym (bit_set-bit_bytes (map_bytes b) f 0 k (rw (← n, ← p) l) ∙ ap f (zero-add k)))

-- the bound of the blocks stays
pub new-inside : (m new a kept blocks : List ℕ) → Marked m new a → NewInside (8 * length m) kept blocks → NewInside (8 * length a) kept blocks
new-inside m new a kept blocks h w = let p : length a ≡ length m = h.places in rw p w

-- and of the old ones
pub old_inside : (m new a old : List ℕ) → Marked m new a → OldInside (8 * length m) old → OldInside (8 * length a) old
old_inside m new a old h w = let p : length a ≡ length m = h.places in rw p w

-- a block that is set, or not
pub marked-yes : (b : Bool) (x : ℕ) (m t : List ℕ) → b ≡ true → t ≡ with_bits true m x (x + 1) → t ≡ marked_if b x m
unfolding marked_if
marked-yes b x m t y e = e ∙ sym (if-true b (with_bits true m x (x + 1)) m y)

-- not
pub marked-no : (b : Bool) (x : ℕ) (m : List ℕ) → b ≡ false → m ≡ marked_if b x m
unfolding marked_if
marked-no b x m y = sym (if-false b (with_bits true m x (x + 1)) m y)

-- ---- the new blocks

-- those of some units, and of the ones after them
new_of-append : (k j b d : List ℕ) → length k ≡ length b → new_of (k ++ j) (b ++ d) ≡ new_of k b ++ new_of j d
unfolding new_of
new_of-append [] j [] d e = refl
new_of-append [] j (x ∷ b) d e = absurd (omega arith)
new_of-append (x ∷ k) j [] d e = absurd (omega arith)
new_of-append (zero ∷ k) j (y ∷ b) d e = ap (λ (t : List ℕ). y ∷ t) (new_of-append k j b d (omega arith))
new_of-append (suc p ∷ k) j (y ∷ b) d e = new_of-append k j b d (omega arith)

-- one place
one-new : (k b : ℕ) → k ≡ 0 → new_of (k ∷ []) (b ∷ []) ≡ b ∷ []
unfolding new_of
one-new zero b e = refl
one-new (suc p) b e = absurd (omega arith)

-- where a block is kept there is no new one
one_kept : (k b : ℕ) → (k ≡ 0 → ⊥) → new_of (k ∷ []) (b ∷ []) ≡ []
unfolding new_of
one_kept zero b d = absurd (d refl)
one_kept (suc p) b d = refl

module _ (kept blocks : List ℕ) (f : ℕ) (same : length kept ≡ length blocks) (l : f < length kept) where
  -- the new blocks of one place more
  new_split : new_of (take (f + 1) kept) (take (f + 1) blocks) ≡ new_of (take f kept) (take f blocks) ++ new_of (get_or kept f 0 ∷ []) (get_or blocks f 0 ∷ [])
  new_split =
      let a : length (take f kept) ≡ f = length-take-le f kept (omega arith) in
      let b : length (take f blocks) ≡ f = length-take-le f blocks (omega arith) in
      rw (add-one f, take-suc kept f 0 l, take-suc blocks f 0 (rw same at l))
      (new_of-append (take f kept) (get_or kept f 0 ∷ []) (take f blocks) (get_or blocks f 0 ∷ []) (a ∙ sym b))

  -- it is set in the map where it is new
  used-one : (m a t : List ℕ) → Marked m (new_of (take f kept) (take f blocks)) a → get_or kept f 0 ≡ 0 → get_or blocks f 0 < 8 * length m → t ≡ with_bits true a (get_or blocks f 0) (get_or blocks f 0 + 1)
      → Marked m (new_of (take (f + 1) kept) (take (f + 1) blocks)) t
  used-one m a t h z w e = rw (new_split, one-new (get_or kept f 0) (get_or blocks f 0) z) (marked_next m (new_of (take f kept) (take f blocks)) a t (get_or blocks f 0) h w e)

  -- and not where it is kept
  used-same : (m a : List ℕ) → Marked m (new_of (take f kept) (take f blocks)) a → (get_or kept f 0 ≡ 0 → ⊥) → Marked m (new_of (take (f + 1) kept) (take (f + 1) blocks)) a
  used-same m a h d = rw (new_split, one_kept (get_or kept f 0) (get_or blocks f 0) d, append-nil (new_of (take f kept) (take f blocks))) h

  -- so one place more is marked
  pub used-more : (m a t : List ℕ) → Marked m (new_of (take f kept) (take f blocks)) a → NewInside (8 * length m) kept blocks → t ≡ marked_if (eqb (get_or kept f 0) 0) (get_or blocks f 0) a
      → Marked m (new_of (take (f + 1) kept) (take (f + 1) blocks)) t
  unfolding marked_if
  used-more m a t h w e =
      test-cases (Marked m (new_of (take (f + 1) kept) (take (f + 1) blocks)) t) (eqb (get_or kept f 0) 0)
      (λ y. let z : get_or kept f 0 ≡ 0 = eqb-true (get_or kept f 0) 0 y in
      used-one m a t h z (w.each f l z) (e ∙ if-true (eqb (get_or kept f 0) 0) (with_bits true a (get_or blocks f 0) (get_or blocks f 0 + 1)) a y))
      (λ y. rw (e ∙ if-false (eqb (get_or kept f 0) 0) (with_bits true a (get_or blocks f 0) (get_or blocks f 0 + 1)) a y) (used-same m a h (eqb-false (get_or kept f 0) 0 y)))

-- before the first place
pub used-none : (m kept blocks : List ℕ) → Bytes m → Marked m (new_of (take 0 kept) (take 0 blocks)) m
unfolding new_of
used-none m kept blocks c = marked-nothing m c

-- behind the last
pub used_all : (kept blocks : List ℕ) (f : ℕ) (m a : List ℕ) → Marked m (new_of (take f kept) (take f blocks)) a → length kept ≡ length blocks → length kept ≤ f → Marked m (new_of kept blocks) a
used_all kept blocks f m a h e l = rw (take_all f kept l, take_all f blocks (rw e at l)) at h

-- ---- the superseded blocks

-- where nothing is kept, those of some places, and of the ones after them
superseded-whole : (o p : List (Option ℕ)) → superseded (o ++ p) [] ≡ superseded o [] ++ superseded p []
unfolding superseded
superseded-whole [] p = refl
superseded-whole (none ∷ o) p = superseded-whole o p
superseded-whole (some y ∷ o) p = ap (λ (t : List ℕ). y ∷ t) (superseded-whole o p)

-- those of some places, and of the ones after them
superseded-append : (o p k : List (Option ℕ)) → superseded (o ++ p) k ≡ superseded o (take (length o) k) ++ superseded p (drop (length o) k)
unfolding superseded
superseded-append [] p k = refl
superseded-append (none ∷ o) p [] = superseded-whole o p
superseded-append (none ∷ o) p (x ∷ k) = superseded-append o p k
superseded-append (some y ∷ o) p [] = ap (λ (t : List ℕ). y ∷ t) (superseded-whole o p)
superseded-append (some y ∷ o) p (none ∷ k) = ap (λ (t : List ℕ). y ∷ t) (superseded-append o p k)
superseded-append (some y ∷ o) p (some z ∷ k) = superseded-append o p k

-- what is kept behind the last place does not matter
superseded-cut : (o k : List (Option ℕ)) → superseded o (take (length o) k) ≡ superseded o k
unfolding superseded
superseded-cut o k =
    sym (append-nil (superseded o (take (length o) k))) ∙ sym (superseded-append o [] k) ∙ ap (λ (t : List (Option ℕ)). superseded t k) (append-nil o)

-- one place: its block is superseded where nothing is kept there
one-gone : (x f : ℕ) (kept : List ℕ) → (x ≡ 0 → ⊥) → get_or kept f 0 ≡ 0 → superseded (entry_of x ∷ []) (drop f (entries kept)) ≡ (x - 1) ∷ []
unfolding superseded entry_of entries
one-gone zero f kept d z = absurd (d refl)
one-gone (suc x) f [] d z = rw (drop-nil f) (ap (λ (y : ℕ). y ∷ []) (omega arith))
one-gone (suc x) zero (zero ∷ kept) d z = ap (λ (y : ℕ). y ∷ []) (omega arith)
one-gone (suc x) zero (suc k ∷ kept) d z = absurd (omega arith)
one-gone (suc x) (suc f) (k ∷ kept) d z = one-gone (suc x) f kept d z

-- and not where something is, or no block stood there
one-stays : (x f : ℕ) (kept : List ℕ) → ((x ≡ 0 → ⊥) → get_or kept f 0 ≡ 0 → ⊥) → superseded (entry_of x ∷ []) (drop f (entries kept)) ≡ []
unfolding superseded entry_of entries
one-stays zero f kept e = nothing (drop f (entries kept))
  where
    nothing : (k : List (Option ℕ)) → superseded (none ∷ []) k ≡ []
    nothing [] = refl
    nothing (x ∷ k) = refl
one-stays (suc x) f [] e = absurd (e (λ z. omega arith) refl)
one-stays (suc x) zero (zero ∷ kept) e = absurd (e (λ z. omega arith) refl)
one-stays (suc x) zero (suc k ∷ kept) e = refl
one-stays (suc x) (suc f) (k ∷ kept) e = one-stays (suc x) f kept e

module _ (old kept : List ℕ) (f : ℕ) (l : f < length old) where
  -- the superseded blocks of one place more
  gone-split : superseded (entries (take (f + 1) old)) (entries kept) ≡ superseded (entries (take f old)) (entries kept) ++ superseded (entry_of (get_or old f 0) ∷ []) (drop f (entries kept))
  unfolding entries
  gone-split =
      let o : List (Option ℕ) = map entry_of (take f old) in
      let n : length o ≡ f = length-map (take f old) entry_of ∙ length-take-le f old (omega arith) in
      rw (add-one f, take-suc old f 0 l, map-append entry_of (take f old) (get_or old f 0 ∷ []))
      (superseded-append o (entry_of (get_or old f 0) ∷ []) (map entry_of kept) ∙ rw (superseded-cut o (map entry_of kept), n) refl)

  -- the block is set in the map where it is superseded
  retired-one : (m a t : List ℕ) (g : Bool) → Marked m (superseded (entries (take f old)) (entries kept)) a → g ≡ gone_at old kept f → g ≡ true → get_or old f 0 ≤ 8 * length m
      → t ≡ with_bits true a (get_or old f 0 - 1) (get_or old f 0 - 1 + 1) → Marked m (superseded (entries (take (f + 1) old)) (entries kept)) t
  unfolding gone_at
  retired-one m a t g h q y w e =
      let gone : (not (eqb (get_or old f 0) 0) && eqb (get_or kept f 0) 0) ≡ true = sym q ∙ y in
      let d : get_or old f 0 ≡ 0 → ⊥ = λ z. clash (ap not (eq-eqb (get_or old f 0) 0 z)) (and_left (not (eqb (get_or old f 0) 0)) (eqb (get_or kept f 0) 0) gone) in
      let z : get_or kept f 0 ≡ 0 = eqb-true (get_or kept f 0) 0 (and_right (not (eqb (get_or old f 0) 0)) (eqb (get_or kept f 0) 0) gone) in
      rw (gone-split, one-gone (get_or old f 0) f kept d z) (marked_next m (superseded (entries (take f old)) (entries kept)) a t (get_or old f 0 - 1) h (omega arith) e)

  -- and not where it is not
  retired-same : (m a : List ℕ) (g : Bool) → Marked m (superseded (entries (take f old)) (entries kept)) a → g ≡ gone_at old kept f → g ≡ false
      → Marked m (superseded (entries (take (f + 1) old)) (entries kept)) a
  unfolding gone_at
  retired-same m a g h q y = rw (gone-split, one-stays (get_or old f 0) f kept (λ d z. clash (sym q ∙ y) (and_intro (not (eqb (get_or old f 0) 0)) (eqb (get_or kept f 0) 0) (ap not (ne_eqb (get_or old f 0) 0 d)) (eq-eqb (get_or kept f 0) 0 z))), append-nil (superseded (entries (take f old)) (entries kept))) h

  -- so one place more is marked
  pub retired-more : (m a t : List ℕ) → Marked m (superseded (entries (take f old)) (entries kept)) a → OldInside (8 * length m) old → t ≡ marked_if (gone_at old kept f) (get_or old f 0 - 1) a
      → Marked m (superseded (entries (take (f + 1) old)) (entries kept)) t
  unfolding marked_if
  retired-more m a t h w e =
      test-cases (Marked m (superseded (entries (take (f + 1) old)) (entries kept)) t) (gone_at old kept f)
      (λ y. retired-one m a t (gone_at old kept f) h refl y (w.each f) (e ∙ if-true (gone_at old kept f) (with_bits true a (get_or old f 0 - 1) (get_or old f 0 - 1 + 1)) a y))
      (λ y. rw (e ∙ if-false (gone_at old kept f) (with_bits true a (get_or old f 0 - 1) (get_or old f 0 - 1 + 1)) a y) (retired-same m a (gone_at old kept f) h refl y))

-- there is a block where there is one that is superseded
pub gone-block : (old kept : List ℕ) (f : ℕ) (g : Bool) → g ≡ gone_at old kept f → g ≡ true → 0 < get_or old f 0
unfolding gone_at
gone-block old kept f g q y =
    let gone : (not (eqb (get_or old f 0) 0) && eqb (get_or kept f 0) 0) ≡ true = sym q ∙ y in
    let d : get_or old f 0 ≡ 0 → ⊥ = λ z. clash (ap not (eq-eqb (get_or old f 0) 0 z)) (and_left (not (eqb (get_or old f 0) 0)) (eqb (get_or kept f 0) 0) gone) in
    omega arith

-- before the first place
pub retired-none : (m old kept : List ℕ) → Bytes m → Marked m (superseded (entries (take 0 old)) (entries kept)) m
unfolding superseded entries
retired-none m old kept c = marked-nothing m c

-- behind the last
pub retired-all : (old kept : List ℕ) (f : ℕ) (m a : List ℕ) → Marked m (superseded (entries (take f old)) (entries kept)) a → length old ≤ f → Marked m (superseded (entries old) (entries kept)) a
retired-all old kept f m a h l = rw (take_all f old l) at h

-- ---- of the rewritten units

-- the blocks in whose place nothing is kept
new_from : List (Option ℕ) → List ℕ → List ℕ
new_from [] blocks = []
new_from (k ∷ kept) [] = []
new_from (none ∷ kept) (b ∷ blocks) = b ∷ new_from kept blocks
new_from (some p ∷ kept) (b ∷ blocks) = new_from kept blocks

-- they are the new ones
new_of-from : (kept blocks : List ℕ) → new_of kept blocks ≡ new_from (entries kept) blocks
unfolding new_of new_from entries entry_of
new_of-from [] blocks = refl
new_of-from (zero ∷ kept) [] = refl
new_of-from (suc p ∷ kept) [] = refl
new_of-from (zero ∷ kept) (b ∷ blocks) = ap (λ (t : List ℕ). b ∷ t) (new_of-from kept blocks)
new_of-from (suc p ∷ kept) (b ∷ blocks) = new_of-from kept blocks

-- of a unit and of those after it
from-assigned : (k j : List (Option ℕ)) (new d : List ℕ) → length new ≡ wanted k → new_from (k ++ j) (assigned k new ++ d) ≡ new ++ new_from j d
unfolding new_from assigned
from-assigned [] j [] d e = refl
from-assigned [] j (b ∷ new) d e = absurd (omega (arith, wanted-most [], e))
from-assigned (none ∷ k) j [] d e = absurd (omega (arith, wanted-none k, e))
from-assigned (none ∷ k) j (b ∷ new) d e = ap (λ (t : List ℕ). b ∷ t) (from-assigned k j new d (omega (arith, wanted-none k, e)))
from-assigned (some p ∷ k) j new d e = from-assigned k j new d (e ∙ wanted-some p k)

-- a rewritten unit whose blocks are those that it keeps and, in the other places, the new ones
pub record Assigned (r : Rewritten) : Type 0 where
  pub blocks : r.blocks ≡ assigned r.kept r.new
  pub wanted : length r.new ≡ wanted r.kept

-- the new blocks of a call
new-from : {rs : List Rewritten} → Each Assigned rs → new_from (flat_map (λ r. r.kept) rs) (flat_map (λ r. r.blocks) rs) ≡ new_blocks rs
unfolding new_blocks new_from flat_map
new-from each_none = refl
new-from (each_more {x = r} {xs = rs} h w) =
    ap (λ (t : List ℕ). new_from (r.kept ++ flat_map (λ r. r.kept) rs) (t ++ flat_map (λ r. r.blocks) rs)) h.blocks
    ∙ from-assigned r.kept (flat_map (λ r. r.kept) rs) r.new (flat_map (λ r. r.blocks) rs) h.wanted
    ∙ ap (λ (t : List ℕ). r.new ++ t) (new-from w)

-- the new blocks that the arrays say are those of the call
pub new-blocks : (kept blocks : List ℕ) {rs : List Rewritten} → entries kept ≡ flat_map (λ r. r.kept) rs → blocks ≡ flat_map (λ r. r.blocks) rs → Each Assigned rs → new_of kept blocks ≡ new_blocks rs
new-blocks kept blocks p q h = new_of-from kept blocks ∙ rw (p, q) (new-from h)

module _ (olds : Rewritten → List (Option ℕ)) where
  -- every unit but the last keeps as many places as it had
  pub data Aligned : List Rewritten → Type 0 where
    aligned-none : Aligned []
    aligned-last : {r : Rewritten} → Aligned (r ∷ [])
    aligned-more : {r t : Rewritten} {rs : List Rewritten} → length (olds r) ≡ length r.kept → Aligned (t ∷ rs) → Aligned (r ∷ t ∷ rs)

  -- the superseded blocks of a call
  superseded-from : {rs : List Rewritten} → Aligned rs → Each (λ r. r.superseded ≡ superseded (olds r) r.kept) rs
      → superseded (flat_map olds rs) (flat_map (λ r. r.kept) rs) ≡ superseded_blocks rs
  unfolding superseded_blocks superseded flat_map
  superseded-from aligned-none each_none = refl
  superseded-from (aligned-last {r = r}) (each_more h each_none) =
      rw (append-nil (olds r), append-nil r.kept, append-nil r.superseded) (sym h)
  superseded-from (aligned-more {r = r} {t = t} {rs = rs} e a) (each_more h w) =
      superseded-append (olds r) (flat_map olds (t ∷ rs)) (r.kept ++ flat_map (λ r. r.kept) (t ∷ rs))
      ∙ rw (take_at r.kept (flat_map (λ r. r.kept) (t ∷ rs)) (length (olds r)) (sym e), drop_at r.kept (flat_map (λ r. r.kept) (t ∷ rs)) (length (olds r)) (sym e), ← h, superseded-from a w) refl

  -- those that the arrays say are those of the call
  pub superseded-blocks : (old kept : List ℕ) {rs : List Rewritten} → entries old ≡ flat_map olds rs → entries kept ≡ flat_map (λ r. r.kept) rs → Aligned rs
      → Each (λ r. r.superseded ≡ superseded (olds r) r.kept) rs → superseded (entries old) (entries kept) ≡ superseded_blocks rs
  superseded-blocks old kept p q a h = rw (p, q) (superseded-from a h)
