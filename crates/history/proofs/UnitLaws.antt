-- A unit that is read: what a hole and a checked unit say of the books and the image, and what makes a unit one or the other.
-- Assumes nothing.
use mathlib.Core.Path.{◌≡◌, refl, sym, ap, ◌∙◌, fun_ext}
use mathlib.Core.List.{List, [], ◌∷◌, ◌++◌, map, flat_map}
use mathlib.Core.Bool.{true, false, not}
use mathlib.Core.Option.{Option, none, some, none-ne-some, some-injective}
use Prim.Native.Nat.{ℕ, zero, suc, ◌+◌, ◌-◌, ◌*◌, ◌≤◌, ◌<◌}
use native.Mathlib.Omega.{arith}
use lib.Dec.{eqb, leb}
use lib.ListN.{length, take, drop, get_or, length-drop}
use borrow.Author.Tests.{eq-eqb, leb-true, not-false}
use Rattle.rules.specs.Lists.{pick◌then◌else◌, maybe, given, range, all, find, begun}
use Rattle.rules.specs.Sizes.{block_bytes, unit_blocks}
use Rattle.rules.specs.Bytes.{part, padded, all_zero}
use Rattle.rules.specs.Extent.{Extent, covers, block_of, mapping}
use Rattle.rules.specs.Checksum.{unit_checksum}
use Rattle.rules.specs.Store.{Volume, block_at}
use Rattle.rules.specs.Units.{valid_length}
use Rattle.rules.specs.Refusal.Refusal.{no_checksum}
use Rattle.rules.specs.Inspect.{Inspected, checksum_of, backed_under, unit_mapping, valid_mapping, backed_bytes, valid_bytes, fully_backed, zero_past_end, checksum_right, inspect_slot, inspect_unit}
use Rattle.rules.specs.Inspect.Inspected.{damaged, hole, checked}
use Rattle.rules.proofs.ListLaws.{clash, test-cases, if-true, if-false, if-cases, maybe-some, maybe-none, all-mem, find-mem, find-passes, get_or-map-range, Each, each_none, each_more, each-any, each_weaken, each_map, map_each}
use Rattle.rules.proofs.CountLaws.{each-range, flat_map-each}
use Rattle.rules.proofs.ByteLaws.{length_part, part-first, part_right, part-drop, take-padded, drop-padded, all_zero-replicate}
use Rattle.history.proofs.MappingLaws.{covers-true}
use Rattle.history.proofs.MoreBytes.{padded-split, part_cut}

-- ---- blocks one behind the other

module _ (f : ℕ → List ℕ) where
  -- of blocks that are all there and whole, the i-th is found at its place
  part-blocks : {os : List (Option ℕ)} → Each (λ o. (p : ℕ) → o ≡ some p → length (f p) ≡ block_bytes) os → all given os ≡ true
      → (i p : ℕ) → get_or os i none ≡ some p → part (i * block_bytes) block_bytes (flat_map (maybe [] f) os) ≡ f p
  unfolding all given flat_map maybe
  part-blocks each_none a i p e = absurd (none-ne-some p e)
  part-blocks (each_more {x = none} {xs = os} l h) a i p e = absurd (clash refl a)
  part-blocks (each_more {x = some q} {xs = os} l h) a zero p e =
      let r : q ≡ p = some-injective q p e in
      part-first (f q) (flat_map (maybe [] f) os) block_bytes (l q refl) ∙ ap f r
  part-blocks (each_more {x = some q} {xs = os} l h) a (suc i) p e =
      let r : suc i * block_bytes - length (f q) ≡ i * block_bytes = omega (arith, l q refl) in
      let k = part-blocks h a i p e in
      part_right (f q) (flat_map (maybe [] f) os) (suc i * block_bytes) block_bytes (omega (arith, l q refl)) ∙ ap (λ (n : ℕ). part n block_bytes (flat_map (maybe [] f) os)) r ∙ k

  -- blocks that each have their part of some bytes have these together, zeros behind them
  blocks-padded : (bs ys : List ℕ) → length ys ≤ length bs * block_bytes → ((i : ℕ) → i < length bs → f (get_or bs i 0) ≡ padded block_bytes (part (i * block_bytes) block_bytes ys))
      → flat_map (maybe [] f) (map some bs) ≡ padded (length bs * block_bytes) ys
  blocks-padded [] [] l h = unfold flat_map padded in refl
  blocks-padded [] (y ∷ ys) l h = absurd (omega arith)
  blocks-padded (b ∷ bs) ys l h =
      let r = blocks-padded bs (drop block_bytes ys) (simp length-drop (omega arith)) (λ i m. h (suc i) (omega arith)
      ∙ ap (padded block_bytes) (ap (λ (k : ℕ). part k block_bytes ys) (omega arith) ∙ sym (part-drop ys (i * block_bytes) block_bytes block_bytes))) in
      let z : f b ≡ padded block_bytes (take block_bytes ys) = h 0 (omega arith) ∙ (unfold part in refl) in
      step r z (padded-split block_bytes (length bs * block_bytes) ys (omega arith))
    where
      step : flat_map (maybe [] f) (map some bs) ≡ padded (length bs * block_bytes) (drop block_bytes ys) → f b ≡ padded block_bytes (take block_bytes ys)
          → padded block_bytes (take block_bytes ys) ++ padded (length bs * block_bytes) (drop block_bytes ys) ≡ padded (block_bytes + length bs * block_bytes) ys
          → flat_map (maybe [] f) (map some (b ∷ bs)) ≡ padded (suc (length bs) * block_bytes) ys
      step r z p = unfold flat_map maybe in (ap (λ (xs : List ℕ). f b ++ xs) r ∙ ap (λ (xs : List ℕ). xs ++ padded (length bs * block_bytes) (drop block_bytes ys)) z ∙ p
          ∙ ap (λ (n : ℕ). padded n ys) (omega arith))

-- a function that gives the elements of a list
map-elements : (f : ℕ → Option ℕ) (bs : List ℕ) (a : ℕ) → ((i : ℕ) → i < length bs → f (a + i) ≡ some (get_or bs i 0)) → map f (range a (length bs)) ≡ map some bs
unfolding range
map-elements f [] a h = refl
map-elements f (b ∷ bs) a h =
    let x : f a ≡ some b = ap f (omega arith) ∙ h 0 (omega arith) in
    let y : map f (range (suc a) (length bs)) ≡ map some bs = map-elements f bs (suc a) (λ i l. ap f (omega arith) ∙ h (suc i) (omega arith)) in
    rw (x, y) refl

-- some elements are all there
all-given : (bs : List ℕ) → all given (map some bs) ≡ true
unfolding all given
all-given [] = refl
all-given (b ∷ bs) = all-given bs

-- ---- where a file's block is

-- a mapped block is on the device
pub mapping-below : (n : ℕ) (es : List Extent) → all (λ e. leb (e.physical + e.count) n) es ≡ true → (object block p : ℕ) → mapping es object block ≡ some p → p < n
unfolding mapping block_of
mapping-below n es h object block p = go (find (covers object block) es) refl
  where
    go : (o : Option Extent) → find (covers object block) es ≡ o → maybe none (λ e. some (block_of block e)) (find (covers object block) es) ≡ some p → p < n
    go none q e = absurd (none-ne-some p (sym (maybe-none none (λ e. some (block_of block e)) (find (covers object block) es) q) ∙ e))
    go (some e) q m =
        let c = covers-true (find-passes (covers object block) es e q) in
        let d : e.physical + e.count ≤ n = leb-true (e.physical + e.count) n (all-mem (λ e. leb (e.physical + e.count) n) h (find-mem (covers object block) es e q)) in
        let k : block_of block e ≡ p = some-injective (block_of block e) p (sym (maybe-some none (λ e. some (block_of block e)) (find (covers object block) es) e q) ∙ m) in
        omega (arith, c.low, c.high, d, k)

-- a block of the device has its bytes
pub length-block_at : (image : List ℕ) (n b : ℕ) → length image ≡ n * block_bytes → b < n → length (block_at image b) ≡ block_bytes
unfolding block_at
length-block_at image n b e l = length_part image (b * block_bytes) block_bytes (omega arith)

-- ---- holes

-- a unit that was read as a hole has no slot, and nothing backs it
pub hole-means : (v : Volume) (object size unit : ℕ) → inspect_unit v object size unit ≡ hole → (checksum_of v object unit ≡ none) × (backed_under v object unit ≡ false)
unfolding inspect_unit
hole-means v object size unit = go (checksum_of v object unit) refl
  where
    no_slot : (crc : ℕ) → inspect_slot v object size unit crc ≡ hole → ⊥
    no_slot crc = unfold inspect_slot in
        if-cases (λ (i : Inspected). i ≡ hole → ⊥) (not (fully_backed v object size unit)) _ _ (λ t e. let z : ◌≡◌ {A = ℕ} 0 1 = cc in omega arith)
        (λ t. if-cases (λ (i : Inspected). i ≡ hole → ⊥) (not (zero_past_end v object size unit)) _ _ (λ s e. let z : ◌≡◌ {A = ℕ} 0 1 = cc in omega arith)
        (λ s. if-cases (λ (i : Inspected). i ≡ hole → ⊥) (not (checksum_right v object size unit crc)) _ _ (λ r e. let z : ◌≡◌ {A = ℕ} 0 1 = cc in omega arith)
        (λ r e. let z : ◌≡◌ {A = ℕ} 0 1 = cc in omega arith)))

    go : (o : Option ℕ) → checksum_of v object unit ≡ o
        → maybe (pick backed_under v object unit then damaged no_checksum else hole) (inspect_slot v object size unit) (checksum_of v object unit) ≡ hole
        → (checksum_of v object unit ≡ none) × (backed_under v object unit ≡ false)
    go none e h = (
      e,
      test-cases (backed_under v object unit ≡ false) (backed_under v object unit)
          (λ t. let q = sym (if-true (backed_under v object unit) (damaged no_checksum) hole t) in
          let r = maybe-none (pick backed_under v object unit then damaged no_checksum else hole) (inspect_slot v object size unit) (checksum_of v object unit) e in
          let z : ◌≡◌ {A = ℕ} 0 1 = cc (q ∙ sym r ∙ h) in absurd (omega arith)) (λ t. t),
    )
    go (some crc) e h = absurd (no_slot crc (sym (maybe-some (pick backed_under v object unit then damaged no_checksum else hole) (inspect_slot v object size unit) (checksum_of v object unit) crc e) ∙ h))

-- and one without a slot that nothing backs is a hole
pub makes-hole : (v : Volume) (object size unit : ℕ) → checksum_of v object unit ≡ none → backed_under v object unit ≡ false → inspect_unit v object size unit ≡ hole
unfolding inspect_unit
makes-hole v object size unit e b =
    maybe-none (pick backed_under v object unit then damaged no_checksum else hole) (inspect_slot v object size unit) (checksum_of v object unit) e
    ∙ if-false (backed_under v object unit) (damaged no_checksum) hole b

-- ---- checked units

-- what a unit that was checked says
pub record CheckedUnit (v : Volume) (object size unit : ℕ) (ys : List ℕ) : Type 0 where
  pub backed : fully_backed v object size unit ≡ true
  pub bytes : ys ≡ valid_bytes v object size unit

-- a unit that was read as checked says so
pub checked-means : (v : Volume) (object size unit : ℕ) (ys : List ℕ) → inspect_unit v object size unit ≡ checked ys → CheckedUnit v object size unit ys
unfolding inspect_unit inspect_slot
checked-means v object size unit ys = go (checksum_of v object unit) refl
  where
    R : Type 0
    R = CheckedUnit v object size unit ys

    slot : (crc : ℕ) → inspect_slot v object size unit crc ≡ checked ys → R
    slot crc =
        if-cases (λ (i : Inspected). i ≡ checked ys → R) (not (fully_backed v object size unit)) _ _ (λ t e. let z : ◌≡◌ {A = ℕ} 0 1 = cc in absurd (omega arith))
        (λ t. if-cases (λ (i : Inspected). i ≡ checked ys → R) (not (zero_past_end v object size unit)) _ _ (λ s e. let z : ◌≡◌ {A = ℕ} 0 1 = cc in absurd (omega arith))
        (λ s. if-cases (λ (i : Inspected). i ≡ checked ys → R) (not (checksum_right v object size unit crc)) _ _ (λ r e. let z : ◌≡◌ {A = ℕ} 0 1 = cc in absurd (omega arith))
        (λ r e. record { backed = not-false (fully_backed v object size unit) t; bytes = cc })))

    bare : (pick backed_under v object unit then damaged no_checksum else hole) ≡ checked ys → R
    bare = if-cases (λ (i : Inspected). i ≡ checked ys → R) (backed_under v object unit) (damaged no_checksum) hole
        (λ t e. let z : ◌≡◌ {A = ℕ} 0 1 = cc in absurd (omega arith)) (λ t e. let z : ◌≡◌ {A = ℕ} 0 1 = cc in absurd (omega arith))

    go : (o : Option ℕ) → checksum_of v object unit ≡ o
        → maybe (pick backed_under v object unit then damaged no_checksum else hole) (inspect_slot v object size unit) (checksum_of v object unit) ≡ checked ys → R
    go none e h = bare (sym (maybe-none (pick backed_under v object unit then damaged no_checksum else hole) (inspect_slot v object size unit) (checksum_of v object unit) e) ∙ h)
    go (some crc) e h = slot crc (sym (maybe-some (pick backed_under v object unit then damaged no_checksum else hole) (inspect_slot v object size unit) (checksum_of v object unit) crc e) ∙ h)

-- the blocks of a unit, one of them
pub get_or-mapped : (v : Volume) (object unit n i : ℕ) → i < n → get_or (unit_mapping v object unit n) i none ≡ mapping v.books.extents object (unit * unit_blocks + i)
unfolding unit_mapping
get_or-mapped v object unit n i l = get_or-map-range (mapping v.books.extents object) (unit * unit_blocks) n i none l

-- a unit has at most 16 blocks that are valid
pub valid-blocks : (size unit : ℕ) → begun (valid_length size unit) block_bytes ≤ unit_blocks
unfolding valid_length
valid-blocks size unit = omega arith

-- a whole block of a checked unit has its part of the unit's bytes
pub checked-block : (v : Volume) (object size unit : ℕ) (ys : List ℕ) → CheckedUnit v object size unit ys
    → ((block p : ℕ) → mapping v.books.extents object block ≡ some p → length (block_at v.image p) ≡ block_bytes)
    → (i p : ℕ) → suc i * block_bytes ≤ valid_length size unit → mapping v.books.extents object (unit * unit_blocks + i) ≡ some p
    → part (i * block_bytes) block_bytes ys ≡ block_at v.image p
unfolding valid_bytes fully_backed backed_bytes valid_mapping unit_mapping
checked-block v object size unit ys c w i p l m =
    let n : ℕ = begun (valid_length size unit) block_bytes in
    let os : List (Option ℕ) = map (mapping v.books.extents object) (range (unit * unit_blocks) n) in
    let q : i < n = omega arith in
    let g : get_or os i none ≡ some p = get_or-map-range (mapping v.books.extents object) (unit * unit_blocks) n i none q ∙ m in
    let e : Each (λ o. (p : ℕ) → o ≡ some p → length (block_at v.image p) ≡ block_bytes) os = each_map (mapping v.books.extents object) (each-any (λ b p h. w b p h) (range (unit * unit_blocks) n)) in
    ap (part (i * block_bytes) block_bytes) c.bytes ∙ within (flat_map (maybe [] (block_at v.image)) os) (valid_length size unit) (omega arith) ∙ part-blocks (block_at v.image) e c.backed i p g
  where
    within : (s : List ℕ) (n : ℕ) → i * block_bytes + block_bytes ≤ n → part (i * block_bytes) block_bytes (take n s) ≡ part (i * block_bytes) block_bytes s
    within s n h = part_cut (i * block_bytes) block_bytes n s h

-- a slot whose tests pass
slot-checked : (v : Volume) (object size unit crc : ℕ) → fully_backed v object size unit ≡ true → zero_past_end v object size unit ≡ true → checksum_right v object size unit crc ≡ true
    → inspect_slot v object size unit crc ≡ checked (valid_bytes v object size unit)
unfolding inspect_slot pick◌then◌else◌
slot-checked v object size unit crc a z r = rw (a, z, r) refl

module _ (w : Volume) (object size unit : ℕ) (bs ys : List ℕ) (l : length ys ≡ valid_length size unit) (n : length bs ≡ begun (length ys) block_bytes)
    (m : (i : ℕ) → i < length bs → mapping w.books.extents object (unit * unit_blocks + i) ≡ some (get_or bs i 0))
    (b : (i : ℕ) → i < length bs → block_at w.image (get_or bs i 0) ≡ padded block_bytes (part (i * block_bytes) block_bytes ys)) where
  -- the unit's valid blocks are these
  made-mapping : valid_mapping w object size unit ≡ map some bs
  unfolding valid_mapping unit_mapping
  made-mapping =
      let k : begun (valid_length size unit) block_bytes ≡ length bs = ap (λ (x : ℕ). begun x block_bytes) (sym l) ∙ sym n in
      ap (λ (x : ℕ). map (mapping w.books.extents object) (range (unit * unit_blocks) x)) k ∙ map-elements (mapping w.books.extents object) bs (unit * unit_blocks) m

  -- the bytes of the unit's valid blocks are these, zeros behind them
  made_bytes : backed_bytes w object size unit ≡ padded (length bs * block_bytes) ys
  unfolding backed_bytes
  made_bytes = ap (flat_map (maybe [] (block_at w.image))) made-mapping ∙ blocks-padded (block_at w.image) bs ys (omega arith) b

  -- a unit whose blocks have these bytes, zeros behind them, and whose slot has their checksum, is read as they are
  pub makes-checked : checksum_of w object unit ≡ some (unit_checksum w.uuid object unit ys) → inspect_unit w object size unit ≡ checked ys
  unfolding inspect_unit checksum_right
  makes-checked s =
      let crc : ℕ = unit_checksum w.uuid object unit ys in
      let a : fully_backed w object size unit ≡ true = unfold fully_backed in (ap (all given) made-mapping ∙ all-given bs) in
      let z : zero_past_end w object size unit ≡ true = unfold zero_past_end in
      (ap (λ (xs : List ℕ). all_zero (drop (valid_length size unit) xs)) made_bytes ∙ ap all_zero (drop-padded (length bs * block_bytes) ys (valid_length size unit) l) ∙ all_zero-replicate (length bs * block_bytes - valid_length size unit)) in
      let t : valid_bytes w object size unit ≡ ys = unfold valid_bytes in (ap (take (valid_length size unit)) made_bytes ∙ take-padded (length bs * block_bytes) ys (valid_length size unit) l) in
      let r : checksum_right w object size unit crc ≡ true = (ap (λ (x : List ℕ). eqb crc (unit_checksum w.uuid object unit x)) t ∙ eq-eqb crc crc refl) in
      maybe-some (pick backed_under w object unit then damaged no_checksum else hole) (inspect_slot w object size unit) (checksum_of w object unit) crc s
      ∙ slot-checked w object size unit crc a z r ∙ ap checked t

-- ---- units that stay

-- a unit is found the same where its slot is, where it is backed alike, and where a slot finds the same
inspect-from : (w v : Volume) (object a b unit : ℕ) → checksum_of w object unit ≡ checksum_of v object unit → backed_under w object unit ≡ backed_under v object unit
    → ((crc : ℕ) → inspect_slot w object a unit crc ≡ inspect_slot v object b unit crc) → inspect_unit w object a unit ≡ inspect_unit v object b unit
unfolding inspect_unit
inspect-from w v object a b unit s u h =
    rw (s, u) (ap (λ (f : ℕ → Inspected). maybe (pick backed_under v object unit then damaged no_checksum else hole) f (checksum_of v object unit)) (fun_ext h))

-- only the valid length counts
pub inspect-valid : (v : Volume) (object a b unit : ℕ) → valid_length a unit ≡ valid_length b unit → inspect_unit v object a unit ≡ inspect_unit v object b unit
inspect-valid v object a b unit e = inspect-from v v object a b unit refl refl slot
  where
    slot : (crc : ℕ) → inspect_slot v object a unit crc ≡ inspect_slot v object b unit crc
    slot crc = unfold inspect_slot fully_backed zero_past_end checksum_right valid_bytes backed_bytes valid_mapping in rw e refl

-- two volumes say the same of a unit
pub record SameUnit (w v : Volume) (object unit : ℕ) : Type 0 where
  pub uuid : w.uuid ≡ v.uuid
  pub slot : checksum_of w object unit ≡ checksum_of v object unit
  pub under : backed_under w object unit ≡ backed_under v object unit
  pub mapped : (i : ℕ) → i < unit_blocks → mapping w.books.extents object (unit * unit_blocks + i) ≡ mapping v.books.extents object (unit * unit_blocks + i)
  pub image : (i p : ℕ) → i < unit_blocks → mapping v.books.extents object (unit * unit_blocks + i) ≡ some p → block_at w.image p ≡ block_at v.image p

module _ (w v : Volume) (object size unit : ℕ) (s : SameUnit w v object unit) where
  -- a valid block is one of the unit's
  near : (b : ℕ) → (unit * unit_blocks ≤ b) × (b < unit * unit_blocks + begun (valid_length size unit) block_bytes)
      → (b - unit * unit_blocks < unit_blocks) × (unit * unit_blocks + (b - unit * unit_blocks) ≡ b)
  near b h = (omega (arith, h, valid-blocks size unit), omega (arith, h.0))

  -- its blocks are the same
  same-mapping : valid_mapping w object size unit ≡ valid_mapping v object size unit
  unfolding valid_mapping unit_mapping
  same-mapping =
      map_each (mapping w.books.extents object) (mapping v.books.extents object)
      (each_weaken (λ b h. rw (near b h).1 at (s.mapped (b - unit * unit_blocks) (near b h).0)) (each-range (unit * unit_blocks) (begun (valid_length size unit) block_bytes)))

  -- and have the same bytes
  same_bytes : backed_bytes w object size unit ≡ backed_bytes v object size unit
  unfolding backed_bytes
  same_bytes = rw same-mapping (flat_map-each (maybe [] (block_at w.image)) (maybe [] (block_at v.image)) each)
    where
      one : (o : Option ℕ) → ((p : ℕ) → o ≡ some p → block_at w.image p ≡ block_at v.image p) → maybe [] (block_at w.image) o ≡ maybe [] (block_at v.image) o
      one none h = unfold maybe in refl
      one (some p) h = unfold maybe in h p refl

      each : Each (λ o. maybe [] (block_at w.image) o ≡ maybe [] (block_at v.image) o) (valid_mapping v object size unit)
      each = unfold valid_mapping unit_mapping in each_map (mapping v.books.extents object)
          (each_weaken (λ b h. one (mapping v.books.extents object b) (λ p e. s.image (b - unit * unit_blocks) p (near b h).0 (rw (near b h).1 e)))
          (each-range (unit * unit_blocks) (begun (valid_length size unit) block_bytes)))

  -- the tests of a slot find the same
  same-slot : (crc : ℕ) → inspect_slot w object size unit crc ≡ inspect_slot v object size unit crc
  unfolding inspect_slot checksum_right
  same-slot crc =
      let a : fully_backed w object size unit ≡ fully_backed v object size unit = unfold fully_backed in ap (all given) same-mapping in
      let z : zero_past_end w object size unit ≡ zero_past_end v object size unit = unfold zero_past_end in ap (λ (xs : List ℕ). all_zero (drop (valid_length size unit) xs)) same_bytes in
      let t : valid_bytes w object size unit ≡ valid_bytes v object size unit = unfold valid_bytes in ap (take (valid_length size unit)) same_bytes in
      rw (a, z, t, s.uuid) refl

  -- so it is found the same in both
  pub inspect-unit-same : inspect_unit w object size unit ≡ inspect_unit v object size unit
  inspect-unit-same = inspect-from w v object size size unit s.slot s.under same-slot
