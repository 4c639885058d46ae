-- What the parts that carry out a plan need of its units: that arrays describe them, what is kept and what was old in them, and that the file has nothing between them.
-- Assumes nothing.
use mathlib.Core.Path.{◌≡◌, refl, sym, ap, ◌∙◌}
use mathlib.Core.List.{List, [], ◌∷◌, map}
use mathlib.Core.Bool.{Bool, true, ◌&&◌}
use mathlib.Core.Option.{Option, none, some, none-ne-some}
use Prim.Native.Nat.{ℕ, zero, suc, ◌+◌, ◌-◌, ◌*◌, ◌/◌, ◌%◌, ◌^◌, ◌≤◌, ◌<◌}
use native.Mathlib.Decide.{dec_lt}
use native.Mathlib.Omega.{arith}
use lib.Dec.{eqb, ltb, leb}
use borrow.Author.Tests.{lt-ltb, le-leb, eq-eqb, eqb-true, leb-true, ltb-true}
use lib.ListN.{length, take, drop, get_or, length-drop}
use lib.Seq.{drop-drop, length-take-le}
use Rattle.rules.specs.Lists.{pick◌then◌else◌, given, all, any, find, member, range, neighbours, ascending, begun}
use Rattle.rules.specs.Sizes.{block_bytes, unit_blocks, unit_bytes, group_units, most_size}
use Rattle.rules.specs.Bytes.{part}
use Rattle.rules.specs.Card.{Card, card_before}
use Rattle.rules.specs.Extent.{Extent, extent_before, extent_end, mapping}
use Rattle.rules.specs.Group.{Group, group_before, checksum_slot}
use Rattle.rules.specs.Store.{Volume, card_of}
use Rattle.rules.specs.Integrity.{ordered, in_file, in_files}
use Rattle.rules.specs.Units.{Change, valid_length}
use Rattle.rules.specs.Refusal.Refusal.{no_checksum}
use Rattle.rules.specs.Inspect.{Inspected, checksum_of, backed_under, unit_mapping, inspect_slot, inspect_unit}
use Rattle.rules.specs.Inspect.Inspected.{damaged, hole, checked}
use Rattle.rules.specs.Kept.{blocks_after}
use Rattle.rules.proofs.ListLaws.{if-cases, maybe-cases, find-given, ascending-at, Each, each_none, each_more, each_at, each_all, each_weaken, and_left, and_right, and_intro, or_left, any-index, length-range, get_or-range}
use Rattle.rules.proofs.CountLaws.{member-cons, member-range-of}
use Rattle.rules.proofs.PassLaws.{each-passed, Lawful}
use Rattle.history.proofs.MappingLaws.{mapping-none}
use Rattle.history.proofs.CardsAfter.{card-only}
use Rattle.book.specs.Places.{group_is}
use Rattle.mapping.specs.Entries.{entries}
use Rattle.rewrite.specs.Plan.{laid_unit, laid_units, kept_by}
use Rattle.finish_extents.specs.Stretch.{Describes, Planned}
use Rattle.finish_books.specs.Groups.{UnitsRight}
use Rattle.file.specs.Flat.{flat_blocks, AllWhole, KeptIn, OldIn}
use Rattle.file.proofs.FlatLaws.{flat-blocks}

-- ---- arrays that describe the units of a plan

-- a unit that begins before the file's end has a block
after-some : (c : Change) (u : ℕ) → u * unit_bytes < c.new_size → 0 < blocks_after c u
unfolding blocks_after valid_length
after-some c u h = omega (arith, h)

-- no unit has over sixteen
after-most : (c : Change) (u : ℕ) → blocks_after c u ≤ unit_blocks
unfolding blocks_after valid_length
after-most c u = omega arith

module _ (limit : ℕ) (v : Volume) (c : Change) where
  -- the numbers of the units
  laid-units : (us bs : List ℕ) → map (λ r. r.unit) (laid_units limit v c us bs) ≡ us
  unfolding laid_units laid_unit
  laid-units [] bs = refl
  laid-units (u ∷ us) bs = ap (λ x. u ∷ x) (laid-units us (drop unit_blocks bs))

  -- a unit has as many blocks as it wants
  laid-length : (u : ℕ) (bs : List ℕ) → unit_blocks ≤ length bs → length (laid_unit limit v c u bs).blocks ≡ blocks_after c u
  unfolding laid_unit
  laid-length u bs m = let a : blocks_after c u ≤ unit_blocks = after-most c u in length-take-le (blocks_after c u) bs (omega (arith, m, a))

  -- every unit but the last has sixteen
  laid-full : (us bs : List ℕ) → AllWhole c us → unit_blocks * length us ≤ length bs → neighbours (λ r t. eqb (length r.blocks) unit_blocks) (laid_units limit v c us bs) ≡ true
  unfolding laid_units neighbours
  laid-full [] bs w m = refl
  laid-full (u ∷ []) bs w m = refl
  laid-full (u ∷ t ∷ us) bs w m =
      let y : length (drop unit_blocks bs) ≡ length bs - unit_blocks = length-drop unit_blocks bs in
      and_intro (eqb (length (laid_unit limit v c u bs).blocks) unit_blocks)
      (neighbours (λ r t. eqb (length r.blocks) unit_blocks) (laid_units limit v c (t ∷ us) (drop unit_blocks bs)))
      (eq-eqb (length (laid_unit limit v c u bs).blocks) unit_blocks (laid-length u bs (omega (arith, m)) ∙ w.0))
      (laid-full (t ∷ us) (drop unit_blocks bs) w.1 (omega (arith, m, y)))

  -- a test of the number of blocks that 1 to 16 pass is passed by each
  laid-all : (f : ℕ → Bool) → ((n : ℕ) → 0 < n → n ≤ unit_blocks → f n ≡ true) → (us bs : List ℕ) → Each (λ u. u * unit_bytes < c.new_size) us → unit_blocks * length us ≤ length bs
      → all (λ r. f (length r.blocks)) (laid_units limit v c us bs) ≡ true
  unfolding laid_units all
  laid-all f p [] bs each_none m = refl
  laid-all f p (u ∷ us) bs (each_more h hs) m =
      let y : length (drop unit_blocks bs) ≡ length bs - unit_blocks = length-drop unit_blocks bs in
      and_intro (f (length (laid_unit limit v c u bs).blocks))
      (all (λ r. f (length r.blocks)) (laid_units limit v c us (drop unit_blocks bs)))
      (ap f (laid-length u bs (omega (arith, m))) ∙ p (blocks_after c u) (after-some c u h) (after-most c u))
      (laid-all f p us (drop unit_blocks bs) hs (omega (arith, m, y)))

  -- the numbers of the units, and the first blocks of the array, describe what they become
  pub describes : (us bs : List ℕ) → AllWhole c us → Each (λ u. u * unit_bytes < c.new_size) us → unit_blocks * length us ≤ length bs
      → Describes us (take (flat_blocks c us) bs) (laid_units limit v c us bs)
  describes us bs w h m = record {
    units = laid-units us bs;
    blocks = flat-blocks limit v c us bs w;
    full = laid-full us bs w m;
    filled = laid-all (ltb 0) (λ n a b. lt-ltb 0 n a) us bs h m;
    most = laid-all (λ n. leb n unit_blocks) (λ n a b. le-leb n unit_blocks b) us bs h m;
  }

-- ---- what is kept and what was old, unit by unit

-- the part of an array behind its first sixteen
part-behind : (j n : ℕ) (s : List ℕ) → part (unit_blocks * j) n (drop unit_blocks s) ≡ part (unit_blocks * suc j) n s
unfolding part
part-behind j n s =
    let e : unit_blocks + unit_blocks * j ≡ unit_blocks * suc j = omega arith in
    ap (take n) (drop-drop (unit_blocks * j) unit_blocks s ∙ ap (λ (k : ℕ). drop k s) e)

-- an array that has what each unit keeps at the unit's place has all that they keep
pub kept_in : (limit : ℕ) (v : Volume) (c : Change) (us ks : List ℕ)
    → ((j : ℕ) → j < length us → entries (part (unit_blocks * j) (blocks_after c (get_or us j 0)) ks) ≡ kept_by limit v c (get_or us j 0)) → KeptIn limit v c us ks
unfolding part
kept_in limit v c [] ks h = tt
kept_in limit v c (u ∷ us) ks h = (
  h 0 (omega arith),
  kept_in limit v c us (drop unit_blocks ks) (λ j l. ap entries (part-behind j (blocks_after c (get_or us j 0)) ks) ∙ h (suc j) (omega (arith, l))),
)

-- one that has where each unit's blocks were, at the unit's place, has where all were
pub old-in : (v : Volume) (object : ℕ) (us os : List ℕ)
    → ((j : ℕ) → j < length us → entries (part (unit_blocks * j) unit_blocks os) ≡ unit_mapping v object (get_or us j 0) unit_blocks) → OldIn v object us os
unfolding part
old-in v object [] os h = tt
old-in v object (u ∷ us) os h = (
  h 0 (omega arith),
  old-in v object us (drop unit_blocks os) (λ j l. ap entries (part-behind j unit_blocks os) ∙ h (suc j) (omega (arith, l))),
)

-- ---- what the file has between the units

module _ (v : Volume) (object : ℕ) (card : Card) (lawful : Lawful v) (known : card_of v object ≡ some card) where
  -- the file's card is its only one
  only-card : Each (λ x. x.object ≡ object → x ≡ card) v.books.cards
  unfolding ordered card_of
  only-card =
      let o = each-passed (ascending card_before v.books.cards) (ascending extent_before v.books.extents ∷ ascending group_before v.books.groups ∷ []) lawful.order in
      card-only object card v.books.cards o.0 known

  -- an extent of the file ends with the file's blocks
  extent-ends : (e : Extent) → in_file v.books.cards e ≡ true → e.object ≡ object → e.logical + e.count ≤ begun card.size block_bytes
  unfolding in_file extent_end
  extent-ends e t o =
      let i = any-index (λ x. eqb x.object e.object && leb (e.logical + e.count) (begun x.size block_bytes)) v.books.cards card t in
      let x : Card = get_or v.books.cards i.0 card in
      let y : x.object ≡ e.object = eqb-true x.object e.object (and_left (eqb x.object e.object) (leb (e.logical + e.count) (begun x.size block_bytes)) i.2) in
      let z : x ≡ card = each_at only-card i.0 card i.1 (y ∙ o) in
      let s : x.size ≡ card.size = ap (λ (a : Card). a.size) z in
      omega (arith, s, leb-true (e.logical + e.count) (begun x.size block_bytes) (and_right (eqb x.object e.object) (leb (e.logical + e.count) (begun x.size block_bytes)) i.2))

  -- no block of the file is mapped past its end
  pub mapping-past : (b : ℕ) → begun card.size block_bytes ≤ b → mapping v.books.extents object b ≡ none
  unfolding in_files
  mapping-past b l =
      mapping-none object b (each_weaken (λ e t m. omega (arith, l, m.high, extent-ends e t m.file)) (each_all (in_file v.books.cards) (λ e t. t) v.books.extents lawful.files))

  -- units that begin with the one in which the file ended: behind it the file has nothing
  pub extents-planned-tailed : (t : ℕ) (ws us bs : List ℕ) → us ≡ t ∷ ws → card.size ≤ (t + 1) * unit_bytes → 0 < length us → length us ≤ 18 → length bs ≤ unit_blocks * length us
      → ascending ltb us ≡ true → Each (λ u. u < 2 ^ 47) us → Planned object us bs v.books.extents
  extents-planned-tailed t ws us bs e z s f m a h = record {
    some = s;
    few = f;
    fit = m;
    order = a;
    small = each_at h (length us - 1) 0 (omega (arith, s));
    clear = λ b l k n. rw e (clear b (let q : get_or us 0 0 ≡ t = ap (λ (xs : List ℕ). get_or xs 0 0) e in omega (arith, l, q)) n (dec_lt b ((t + 1) * unit_blocks)));
  }
    where
      clear : (b : ℕ) → t * unit_blocks ≤ b → (mapping v.books.extents object b ≡ none → ⊥) → Dec (b < (t + 1) * unit_blocks) → member (b / unit_blocks) (t ∷ ws) ≡ true
      clear b l n (yes k) = member-cons (b / unit_blocks) t ws ∙ or_left (eqb (b / unit_blocks) t) (member (b / unit_blocks) ws) (eq-eqb (b / unit_blocks) t (omega (arith, l, k)))
      clear b l n (no k) = absurd (n (mapping-past b (omega (arith, z, k))))

-- the first of consecutive numbers
range-start : (f k : ℕ) → 0 < k → get_or (range f k) 0 0 ≡ f
range-start f k l = let q : f + 0 ≡ f = omega arith in get_or-range f k 0 0 l ∙ q

-- the last
range-end : (f k : ℕ) → 0 < k → get_or (range f k) (length (range f k) - 1) 0 ≡ f + (k - 1)
range-end f k l = ap (λ (n : ℕ). get_or (range f k) (n - 1) 0) (length-range f k) ∙ get_or-range f k (k - 1) 0 (omega (arith, l))

-- consecutive units: nothing lies between them
pub extents-planned-range : (object : ℕ) (es : List Extent) (f k : ℕ) (us bs : List ℕ) → us ≡ range f k → 0 < length us → length us ≤ 18 → length bs ≤ unit_blocks * length us
    → ascending ltb us ≡ true → Each (λ u. u < 2 ^ 47) us → Planned object us bs es
extents-planned-range object es f k us bs e s w m a h =
    let c : length us ≡ k = ap (λ (xs : List ℕ). length xs) e ∙ length-range f k in
    let p : 0 < k = omega (arith, c, s) in
    let q : get_or us 0 0 ≡ f = ap (λ (xs : List ℕ). get_or xs 0 0) e ∙ range-start f k p in
    let r : get_or us (length us - 1) 0 ≡ f + (k - 1) = ap (λ (xs : List ℕ). get_or xs (length xs - 1) 0) e ∙ range-end f k p in
    record {
      some = s;
      few = w;
      fit = m;
      order = a;
      small = each_at h (length us - 1) 0 (omega (arith, s));
      clear = λ b i j n. rw e (member-range-of (b / unit_blocks) f k (omega (arith, i, q)) (omega (arith, j, r, p)));
    }

-- units that begin before the end of a file as long as one may be have numbers whose blocks are counted in 64 bits
pub units_small : (size : ℕ) {us : List ℕ} → size ≤ most_size → Each (λ u. u * unit_bytes < size) us → Each (λ u. u < 2 ^ 47) us
units_small size m h = each_weaken (λ u l. omega (arith, m, l)) h

-- ---- units one behind the other

-- consecutive units
pub units-right-range : (object : ℕ) (gs : List Group) (f k : ℕ) (us : List ℕ) → us ≡ range f k → length us ≤ 18 → UnitsRight object gs us
units-right-range object gs f k us e w = record {
  few = w;
  rises = λ l. omega (arith, place 0 (omega (arith, l)), place 1 l);
  next = λ j a l. omega (arith, place j (omega (arith, l)), place (suc j) l);
  apart = λ l n. absurd (n (omega (arith, place 0 (omega (arith, l)), place 1 l)));
}
  where
    place : (i : ℕ) → i < length us → get_or us i 0 ≡ f + i
    place i l =
        let c : length us ≡ k = ap (λ (xs : List ℕ). length xs) e ∙ length-range f k in
        ap (λ (xs : List ℕ). get_or xs i 0) e ∙ get_or-range f k i 0 (omega (arith, c, l))

-- such with another unit before them, whose group is there
pub units-right-tailed : (object : ℕ) (gs : List Group) (t f k : ℕ) (us : List ℕ) → us ≡ t ∷ range f k → length us ≤ 18 → ascending ltb us ≡ true
    → any (group_is object (t / group_units)) gs ≡ true → UnitsRight object gs us
units-right-tailed object gs t f k us e w a g = record {
  few = w;
  rises = λ l. ltb-true (get_or us 0 0) (get_or us 1 0) (ascending-at ltb us a 0 0 l);
  next = steps;
  apart = λ l n. ap (λ (xs : List ℕ). any (group_is object (get_or xs 0 0 / group_units)) gs) e ∙ g;
}
  where
    place : (i : ℕ) → suc i < length us → get_or us (suc i) 0 ≡ f + i
    place i l =
        let c : length us ≡ suc (length (range f k)) = ap (λ (xs : List ℕ). length xs) e in
        let d : length (range f k) ≡ k = length-range f k in
        ap (λ (xs : List ℕ). get_or xs (suc i) 0) e ∙ get_or-range f k i 0 (omega (arith, c, d, l))

    steps : (j : ℕ) → 1 ≤ j → suc j < length us → get_or us (suc j) 0 ≡ suc (get_or us j 0)
    steps zero b l = absurd (omega (arith, b))
    steps (suc i) b l = omega (arith, place i (omega (arith, l)), place (suc i) l)

-- a unit that has a checksum has its group
pub slot-group : (v : Volume) (object unit crc : ℕ) → checksum_of v object unit ≡ some crc → any (group_is object (unit / group_units)) v.books.groups ≡ true
unfolding checksum_of given
slot-group v object unit crc =
    maybe-cases (λ (x : Option ℕ). x ≡ some crc → any (group_is object (unit / group_units)) v.books.groups ≡ true) none (λ g. checksum_slot g (unit % group_units))
    (find (group_is object (unit / group_units)) v.books.groups)
    (λ n h. absurd (none-ne-some crc h))
    (λ g h c. sym (find-given (group_is object (unit / group_units)) v.books.groups) ∙ ap given h)

-- so has one that was read and checked
pub checked-group : (v : Volume) (object size unit : ℕ) (ys : List ℕ) → inspect_unit v object size unit ≡ checked ys → any (group_is object (unit / group_units)) v.books.groups ≡ true
unfolding inspect_unit
checked-group v object size unit ys =
    maybe-cases (λ (i : Inspected). i ≡ checked ys → any (group_is object (unit / group_units)) v.books.groups ≡ true)
    (pick backed_under v object unit then damaged no_checksum else hole) (inspect_slot v object size unit) (checksum_of v object unit)
    (λ n. if-cases (λ (i : Inspected). i ≡ checked ys → any (group_is object (unit / group_units)) v.books.groups ≡ true) (backed_under v object unit) (damaged no_checksum) hole
    (λ t e. let z : ◌≡◌ {A = ℕ} 0 1 = cc in absurd (omega arith)) (λ t e. let z : ◌≡◌ {A = ℕ} 0 1 = cc in absurd (omega arith)))
    (λ crc h e. slot-group v object unit crc h)
