-- Laws of the steps that hold extents ahead and look blocks up in them: each in the words of its function's contract.
-- Assumes nothing.
use mathlib.Core.Path.{◌≡◌, refl, sym, ap, ◌∙◌}
use mathlib.Core.Bool.{Bool, true, false, not, ◌&&◌, ◌||◌}
use mathlib.Core.List.{List, [], ◌∷◌, map}
use mathlib.Core.Option.{some}
use Prim.Native.Nat.{ℕ, suc, ◌+◌, ◌-◌, ◌*◌, ◌≤◌, ◌<◌}
use native.Mathlib.Omega.{arith}
use borrow.Author.Count.{below_more}
use borrow.Author.Tests.{eq-eqb, ne_eqb, not-true, not-false, ltb-true, lt-ltb, le-ltb, leb-true, le-leb}
use lib.Dec.{eqb, ltb, leb}
use lib.ListN.{length, get_or, set, take}
use lib.Seq.{get_or-set_same, get_or-set_other}
use Rattle.rules.specs.Lists.{range, ascending, pair_before}
use Rattle.rules.specs.Bytes.{part}
use Rattle.rules.specs.Sizes.{most_blocks}
use Rattle.rules.specs.Extent.{Extent, extent_bytes, decode_extent, extent_before, extent_end, covers, block_of, mapping}
use Rattle.rules.proofs.ListLaws.{test-cases, clash, if-true, if-false, and_left, and_right, and_intro, or_cases, or_left, pair_before-first}
use Rattle.history.proofs.MappingLaws.{mapping-yes, mapping-no, mapping-nil}
use Rattle.format.specs.declared.extent.Extent.{Extent as ExtentStruct}
use Rattle.format.specs.Records.{extent_of}
use Rattle.held.specs.Held.{no_extent, OnDevice, HeldRight, entry_through, or_else, held_entry, Mapped}
use Rattle.halving.specs.Halving.{Parted}
use Rattle.halving.specs.Keys.{reaches}
use Rattle.std.proofs.Common.{Option, Some, None}
use Rattle.book.specs.Places.{record_at, extent_reached, reached_at, SearchedBook}
use Rattle.book.proofs.HalvesLaws.{up-to-reached, reached-cases, searched-own, searched-other}
use Rattle.mapping.specs.Entries.{entry_of, entries, extents_in, ExtentsRight}
use Rattle.mapping.specs.Held.{most_stretch, lies_before, starts_before, StretchFrom, held_at, held_of, RoomAhead, HeldAhead}
use Rattle.mapping.proofs.EntryLaws.{filled-all}
use Rattle.mapping.proofs.StretchLaws.{front_of, behind-of, front-of-floor, Starting, few-ahead, held-mapping, device-at, not-ended}

-- ---- the tests of one extent

module _ (s : List ℕ) (i object x : ℕ) (c : ExtentStruct) (e : extent_of c ≡ decode_extent (part (33 * i) extent_bytes s)) where
  -- an extent of another object
  pub lies-other : (c.object ≡ object → ⊥) → ltb c.object object ≡ lies_before object x (record_at decode_extent extent_bytes s i)
  unfolding record_at lies_before extent_of
  lies-other n =
      let o : c.object ≡ (decode_extent (part (33 * i) extent_bytes s)).object = ap (λ (r : Extent). r.object) e in
      rw (← o, ne_eqb c.object object n) (or-false (ltb c.object object))
    where
      or-false : (b : Bool) → b ≡ (b || false)
      or-false true = refl
      or-false false = refl

  -- one of this object
  pub lies_same : c.object ≡ object → (m : Bool) → m ≡ leb (extent_end (extent_of c)) x → m ≡ lies_before object x (record_at decode_extent extent_bytes s i)
  unfolding record_at lies_before
  lies_same q m p = p ∙ rw (← e) (same_object c q)
    where
      same_object : (d : ExtentStruct) → d.object ≡ object → leb (extent_end (extent_of d)) x ≡ (ltb (extent_of d).object object || (eqb (extent_of d).object object && leb (extent_end (extent_of d)) x))
      same_object d r = unfold extent_of in rw (eq-eqb d.object object r, le-ltb d.object object (omega arith)) refl

module _ (object x : ℕ) (c : ExtentStruct) where
  -- an extent of another object starts nowhere in the file
  pub starts_other : (c.object ≡ object → ⊥) → false ≡ starts_before object x (extent_of c)
  unfolding starts_before extent_of
  starts_other n = rw (ne_eqb c.object object n) refl

  -- one of this object
  pub starts-same : c.object ≡ object → ltb c.logical x ≡ starts_before object x (extent_of c)
  unfolding starts_before extent_of
  starts-same q = rw (eq-eqb c.object object q) refl

-- ---- the search for the place

-- an extent that lies before a block is reached
lies-reached : (object block : ℕ) (e : Extent) → lies_before object block e ≡ true → extent_reached object block e ≡ true
unfolding lies_before reaches extent_end
lies-reached object block e h =
    or_cases (extent_reached object block e ≡ true) (ltb e.object object) (eqb e.object object && leb (e.logical + e.count) block) h
    (λ t. or_left (pair_before e.object e.logical object block) _ (pair_before-first e.object e.logical object block (ltb-true e.object object t)))
    (λ t. let l : e.logical + e.count ≤ block = leb-true (e.logical + e.count) block (and_right (eqb e.object object) (leb (e.logical + e.count) block) t) in
    up-to-reached object block e (and_intro (eqb e.object object) (leb e.logical block) (and_left (eqb e.object object) (leb (e.logical + e.count) block) t) (le-leb e.logical block (omega arith))))

-- one of a lower object lies before it
lower-lies : (object block : ℕ) (e : Extent) → e.object < object → lies_before object block e ≡ true
unfolding lies_before
lower-lies object block e l = or_left (ltb e.object object) (eqb e.object object && leb (extent_end e) block) (lt-ltb e.object object l)

module _ {m n : ℕ} {s : List ℕ} (r : ExtentsRight m n s) {object block : ℕ} {found : Option ℕ} {place rounds : ℕ}
    (d : ascending extent_before (extents_in n s) ≡ true → Parted (reached_at object block s) n place) (b : SearchedBook object block n s found place rounds) where
  -- from the place on no extent lies before the block
  none-lies : (j : ℕ) → place ≤ j → j < n → lies_before object block (record_at decode_extent extent_bytes s j) ≡ false
  none-lies j l k =
      test-cases (lies_before object block (record_at decode_extent extent_bytes s j) ≡ false) (lies_before object block (record_at decode_extent extent_bytes s j))
      (λ t. absurd (clash ((d r.order).behind j l k) (lies-reached object block (record_at decode_extent extent_bytes s j) t))) (λ t. t)

  -- where none was found all in front of it do
  pub stretch-none : found ≡ None → StretchFrom object block n s place
  stretch-none e = record { most = (d r.order).most; front = λ j l. front j l; behind = none-lies }
    where
      front : (j : ℕ) → j < place → lies_before object block (record_at decode_extent extent_bytes s j) ≡ true
      front j l =
          let k : ℕ = place - 1 in
          front_of r object block k (omega (arith, (d r.order).most))
          (reached-cases object block (record_at decode_extent extent_bytes s k) (lies_before object block (record_at decode_extent extent_bytes s k) ≡ true) ((d r.order).front k (omega arith))
          (λ q. lower-lies object block (record_at decode_extent extent_bytes s k) q)
          (λ q _. absurd (searched-other b e (omega arith) q))) j (omega arith)

  module _ (i : ℕ) (e : found ≡ Some i) where
    -- the floor is one of the book
    pub floor-within : i < n
    floor-within = let q = (searched-own b i e).0 in omega (arith, (d r.order).most)

    module _ (t : Bool) (u : t ≡ lies_before object block (record_at decode_extent extent_bytes s i)) where
      -- the floor ends behind the block
      pub stretch-floor : not t ≡ true → StretchFrom object block n s i
      stretch-floor v =
          let q = searched-own b i e in
          record {
            most = omega (arith, floor-within);
            front = reached-cases object block (record_at decode_extent extent_bytes s i) ((j : ℕ) → j < i → lies_before object block (record_at decode_extent extent_bytes s j) ≡ true) ((d r.order).front i (omega (arith, q.0)))
                (λ l. absurd (omega (arith, q.1))) (λ o l. front-of-floor r object block i floor-within o l);
            behind = behind-of r object block i (sym u ∙ not-true t v);
          }

      -- or there or before
      pub stretch-next : not t ≡ false → StretchFrom object block n s place
      stretch-next v =
          let q = searched-own b i e in
          record {
            most = (d r.order).most;
            front = λ j l. front_of r object block i floor-within (sym u ∙ not-false t v) j (omega (arith, q.0));
            behind = none-lies;
          }

-- ---- the array

-- the first k extents from a place on are held, and start before limit
pub record Holding (object limit n : ℕ) (s : List ℕ) (place : ℕ) (a : List ExtentStruct) (k : ℕ) : Type 0 where
  pub within : place + k ≤ n
  pub starting : Starting object limit s place k
  pub same : (i : ℕ) → i < k → held_at a i ≡ record_at decode_extent extent_bytes s (place + i)

module _ (object limit n : ℕ) (s : List ℕ) (place : ℕ) (a : List ExtentStruct) where
  -- none is held yet
  pub holding-none : place ≤ n → Holding object limit n s place a 0
  holding-none l = record { within = omega arith; starting = λ i k. absurd (omega arith); same = λ i k. absurd (omega arith) }

  module _ (k : ℕ) (h : Holding object limit n s place a k) (c : ExtentStruct) (e : extent_of c ≡ decode_extent (part (33 * (place + k)) extent_bytes s)) (t : Bool) (u : t ≡ starts_before object limit (extent_of c)) where
    -- the test of the extent in hand is that of the record
    tested : t ≡ starts_before object limit (record_at decode_extent extent_bytes s (place + k))
    unfolding record_at
    tested = u ∙ ap (starts_before object limit) e

    -- there is room for one more
    pub holding-room : {m : ℕ} → ExtentsRight m n s → RoomAhead object limit n s place → k < n - place → not t ≡ false → k < most_stretch
    holding-room r q l v = few-ahead r q k (omega (arith, h.within)) h.starting (sym tested ∙ not-false t v)

    -- one more is held
    pub holding-more : k < length a → k < n - place → not t ≡ false → Holding object limit n s place (set a k c) (k + 1)
    unfolding record_at held_at
    holding-more m l v = record {
      within = omega (arith, h.within);
      starting = below_more (λ i. starts_before object limit (record_at decode_extent extent_bytes s (place + i)) ≡ true) k h.starting (sym tested ∙ not-false t v);
      same = below_more (λ i. held_at (set a k c) i ≡ record_at decode_extent extent_bytes s (place + i)) k
          (λ i q. ap extent_of (get_or-set_other a k i c no_extent (λ z. omega arith)) ∙ h.same i q)
          (ap extent_of (get_or-set_same a k c no_extent m) ∙ e);
    }

    -- the next is not to be held
    pub holding-stops : length a ≡ most_stretch → k ≤ most_stretch → not t ≡ true → HeldAhead object limit n s place a k
    holding-stops z l v = record { within = h.within; room = omega arith; same = h.same; stops = λ q. sym tested ∙ not-true t v }

  -- the book ends
  pub holding-ends : (k : ℕ) → Holding object limit n s place a k → n - place ≤ k → length a ≡ most_stretch → k ≤ most_stretch → HeldAhead object limit n s place a k
  holding-ends k h g z l = record { within = h.within; room = omega arith; same = h.same; stops = λ q. absurd (omega (arith, h.within)) }

-- ---- the lookup

-- the entry by held extents is what they map
pub entry-held : (object block : ℕ) (es : List ExtentStruct) → entry_of (held_entry object block es) ≡ mapping (map extent_of es) object block
unfolding held_entry entry_of
entry-held object block [] = sym (mapping-nil object block)
entry-held object block (e ∷ es) = test-cases (entry_of (or_else (entry_through object block e) (held_entry object block es)) ≡ mapping (extent_of e ∷ map extent_of es) object block) (covers object block (extent_of e))
    (λ t. yes-it t ∙ sym (mapping-yes object block (extent_of e) (map extent_of es) t))
    (λ t. no-it t ∙ entry-held object block es ∙ sym (mapping-no object block (extent_of e) (map extent_of es) t))
  where
    yes-it : covers object block (extent_of e) ≡ true → entry_of (or_else (entry_through object block e) (held_entry object block es)) ≡ some (block_of block (extent_of e))
    yes-it t = unfold entry_through or_else entry_of in
        let q : block_of block (extent_of e) + 1 ≡ suc (block_of block (extent_of e)) = omega arith in
        rw (if-true (covers object block (extent_of e)) (block_of block (extent_of e) + 1) 0 t, q) refl

    no-it : covers object block (extent_of e) ≡ false → entry_of (or_else (entry_through object block e) (held_entry object block es)) ≡ entry_of (held_entry object block es)
    no-it t = unfold entry_through or_else in rw (if-false (covers object block (extent_of e)) (block_of block (extent_of e) + 1) 0 t) refl

-- ---- the whole

module _ {n : ℕ} {s : List ℕ} (r : ExtentsRight most_blocks n s) {object : ℕ} where
  -- the first extent of a stretch ends behind its first block
  pub room-ahead : (first size place limit : ℕ) → size ≤ most_stretch → limit ≡ first + size → StretchFrom object first n s place → RoomAhead object limit n s place
  unfolding extent_end
  room-ahead first size place limit l q f = record { near = λ k o. let e = not-ended object first _ (f.behind place (omega arith) k) o in omega (arith, e) }

  -- what is held is on the device
  pub held-right : (limit place : ℕ) (a : List ExtentStruct) (k : ℕ) → HeldAhead object limit n s place a k → HeldRight k a
  held-right limit place a k h = record { room = h.room; device = λ i l. go i l (device-at r (place + i) (omega (arith, h.within))) }
    where
      go : (i : ℕ) → i < k → (record_at decode_extent extent_bytes s (place + i)).physical + (record_at decode_extent extent_bytes s (place + i)).count ≤ most_blocks → OnDevice (get_or a i no_extent)
      go i l d =
          let q : (held_at a i).physical + (held_at a i).count ≤ most_blocks = rw (← h.same i l) at d in
          unfold held_at extent_of in q

  -- the entries by the held extents are those by the book
  pub stretch-mapped : (first size place limit : ℕ) (a : List ExtentStruct) (k : ℕ) (blocks : List ℕ) → limit ≡ first + size → StretchFrom object first n s place → HeldAhead object limit n s place a k
      → length blocks ≡ size → Mapped object first (take k a) blocks (length blocks)
      → entries blocks ≡ map (mapping (extents_in n s) object) (range first size)
  stretch-mapped first size place limit a k blocks q f h z e =
      rw (← z) (filled-all (mapping (extents_in n s) object) first blocks (λ j l.
      ap entry_of (e j l) ∙ entry-held object (first + j) (take k a) ∙ mapped-so j ∙ held-mapping r first k (first + j) a f h (omega arith) (omega arith)))
    where
      mapped-so : (j : ℕ) → mapping (map extent_of (take k a)) object (first + j) ≡ mapping (held_of k a) object (first + j)
      mapped-so j = unfold held_of in refl
