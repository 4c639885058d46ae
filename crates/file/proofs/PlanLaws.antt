-- The plan of a change over lent buffers: the copy of the map, the arrays once they are looked up, and the answer.
-- Assumes nothing.
use mathlib.Core.Path.{◌≡◌, refl, sym, ap, ◌∙◌}
use mathlib.Core.Bool.{Bool}
use mathlib.Core.List.{List, ◌++◌, map}
use mathlib.Core.Option.{Option}
use Prim.Native.Nat.{ℕ, ◌+◌, ◌*◌, ◌/◌, ◌%◌, ◌^◌, ◌≤◌, ◌<◌}
use native.Mathlib.Decide.{dec_lt}
use native.Mathlib.Nat.{le_refl}
use native.Mathlib.Omega.{arith}
use lib.ListN.{length, take, drop, get_or, get_or-eq_default}
use lib.Seq.{take_at}
use Rattle.rules.specs.Lists.{range}
use Rattle.rules.specs.Sizes.{block_bytes, unit_blocks, most_size}
use Rattle.rules.specs.Bytes.{part, patch}
use Rattle.rules.specs.Map.{map_bytes}
use Rattle.rules.specs.Extent.{Extent, mapping}
use Rattle.rules.specs.Group.{Group, group_bytes, decode_group}
use Rattle.rules.specs.Book.{decode_book}
use Rattle.rules.specs.Store.{Volume}
use Rattle.rules.specs.Units.{Change}
use Rattle.rules.specs.Rewrite.{Progress}
use Rattle.rules.proofs.ByteLaws.{part-all, get_d_part}
use Rattle.mapping.specs.Entries.{extents_in, ExtentsRight, slot_of}
use Rattle.mapping.proofs.EntryLaws.{entries-most}
use Rattle.mapping.proofs.LookupLaws.{checksum-slot, unit-mapping}
use Rattle.rewrite.specs.Arguments.{LookedUp, PlanFor, BlocksOf, DeviceFits, ArraysFit}
use Rattle.rewrite.specs.Answers.{from_card, UnitsPlanned}
use Rattle.kept.specs.declared.Change as numbers
use Rattle.rewrite.specs.declared.Plan as answer
use Rattle.file.specs.LookUp.{EachBlock, EachUnit}
use Rattle.file.specs.Planned.{PlanReady, PlanRoom, ChangeFor, UnitsSettled, ChangePlanned}

-- ---- the copy of the map

-- the front of the room into which a map was copied
pub map-copied : (room used copied : List ℕ) → copied ≡ patch room 0 (part 0 (length used) used) → take (length used) copied ≡ used
unfolding patch
map-copied room used copied e =
    let p : part 0 (length used) used ≡ used = part-all used (length used) (le_refl (length used)) in
    let q : patch room 0 used ≡ used ++ drop (0 + length used) room = refl in
    ap (take (length used)) (e ∙ ap (patch room 0) p ∙ q) ∙ take_at used (drop (0 + length used) room) (length used) refl

-- it has the bits that the map has
pub device-copied : (image used copied : List ℕ) (total : ℕ) → copied ≡ used → DeviceFits image used total → DeviceFits image copied total
device-copied image used copied total e h = rw e h

module _ (limit : ℕ) (v : Volume) (c : Change) (units : List ℕ) (p : Progress) (kept blocks : List ℕ) (r : answer.Plan) where
  -- an answer without its map
  units-settled : (map : List ℕ) → UnitsPlanned limit v c units p map kept blocks r → UnitsSettled limit v c units p kept blocks r
  units-settled map g =
      record {
        number = g.number;
        done = λ z. let a = g.done z in record { left = a.left; hint = a.hint; allocated = a.allocated; plan = a.plan; placed = a.placed; first = a.first };
      }

  -- the same for one that was made with a copy of the used map
  pub copy-settled : (image uuid used copied map : List ℕ) (total object : ℕ) (n : numbers.Change) (slots old : List ℕ) → copied ≡ used
      → (PlanFor image uuid copied total object n units slots old v c → UnitsPlanned limit v c units p map kept blocks r)
      → PlanFor image uuid used total object n units slots old v c → UnitsSettled limit v c units p kept blocks r
  copy-settled image uuid used copied map total object n slots old e f h = units-settled map (f (rw e h))

-- ---- what is looked up

module _ (image extents groups used : List ℕ) (e g : ℕ) (r : PlanReady image extents groups used e g) where
  -- the device of the buffers
  pub ready-device : DeviceFits image used (length image / block_bytes)
  unfolding map_bytes
  ready-device = record { some = r.some; most = r.right.most; bytes = omega arith; bits = omega (arith, r.map) }

  -- and the length of its map
  pub ready-map : length used ≤ 8192
  unfolding map_bytes
  ready-map = omega (arith, r.map, r.right.most)

-- the number of a unit of a file
pub unit-below : (size : ℕ) (units slots old kept blocks : List ℕ) → size ≤ most_size → PlanRoom size units slots old kept blocks → (k : ℕ) → get_or units k 0 < 2 ^ 48
unit-below size units slots old kept blocks m a k = omega (arith, m, a.begins k)

-- the entries of all units are blocks of the device
pub old-blocks : (d e object : ℕ) (extents units old : List ℕ) → ExtentsRight d e extents → length old ≡ unit_blocks * length units
    → EachBlock (mapping (extents_in e extents) object) (length units) units old → BlocksOf d old
old-blocks d e object extents units old x l b = record { each = λ i. go i (dec_lt i (unit_blocks * length units)) }
  where
    go : (i : ℕ) → Dec (i < unit_blocks * length units) → get_or old i 0 ≤ d
    go i (yes h) =
        let k : get_or (part (unit_blocks * (i / 16)) unit_blocks old) (i % 16) 0 ≤ d =
        entries-most d (extents_in e extents) object (get_or units (i / 16) 0 * unit_blocks) (part (unit_blocks * (i / 16)) unit_blocks old) x.device unit_blocks (b.each (i / 16) (omega (arith, h))) (i % 16) in
        let q : get_or (part (unit_blocks * (i / 16)) unit_blocks old) (i % 16) 0 ≡ get_or old (unit_blocks * (i / 16) + i % 16) 0 = get_d_part old (unit_blocks * (i / 16)) unit_blocks (i % 16) (omega arith) in
        let s : unit_blocks * (i / 16) + i % 16 ≡ i = omega arith in
        let t : get_or (part (unit_blocks * (i / 16)) unit_blocks old) (i % 16) 0 ≡ get_or old i 0 = q ∙ ap (λ y. get_or old y 0) s in
        omega (arith, k, t)
    go i (no h) = rw (get_or-eq_default old 0 {n = i} (omega (arith, l, h))) (omega arith)

-- the arrays are those of a plan
pub arrays-looked : (size d e object : ℕ) (extents units slots old kept blocks : List ℕ) (f : ℕ → Option ℕ) → ExtentsRight d e extents
    → PlanRoom size units slots old kept blocks → EachBlock (mapping (extents_in e extents) object) (length units) units old → EachUnit f (length units) units slots
    → ArraysFit size d units slots old kept blocks
arrays-looked size d e object extents units slots old kept blocks f x a b u = record {
  slot_each = a.slot_each;
  old_each = a.old_each;
  kept_each = a.kept_each;
  blocks_each = a.blocks_each;
  begins = a.begins;
  slot_most = λ i. go i (dec_lt i (length units));
  old_most = old-blocks d e object extents units old x a.old_each b;
}
  where
    go : (i : ℕ) → Dec (i < length units) → get_or slots i 0 ≤ 2 ^ 32
    go i (yes h) = u.most i h
    go i (no h) = rw (get_or-eq_default slots 0 {n = i} (omega (arith, a.slot_each, h))) (omega arith)

-- the same room after the lookups
pub room_after : (size : ℕ) (units slots old kept blocks slots-left old-left : List ℕ) → PlanRoom size units slots old kept blocks
    → length slots-left ≡ length slots → length old-left ≡ length old → PlanRoom size units slots-left old-left kept blocks
room_after size units slots old kept blocks slots-left old-left a s o =
    record { slot_each = s ∙ a.slot_each; old_each = o ∙ a.old_each; kept_each = a.kept_each; blocks_each = a.blocks_each; begins = a.begins }

module _ (image uuid extents groups used : List ℕ) (e g object : ℕ) (n : numbers.Change) (units slots old : List ℕ) (v : Volume) (c : Change)
    (h : ChangeFor image uuid extents groups used e g object n units v c)
    (b : EachBlock (mapping (extents_in e extents) object) (length units) units old)
    (u : EachUnit (slot_of (decode_book decode_group group_bytes g groups) object) (length units) units slots) where
  -- each unit is looked up in the volume
  each-looked : (i : ℕ) → i < length units → LookedUp v c (get_or units i 0) (get_or slots i 0) (part (unit_blocks * i) unit_blocks old)
  each-looked i l = record {
    mapped = b.each i l ∙ ap (λ (es : List Extent). map (mapping es object) (range (get_or units i 0 * unit_blocks) unit_blocks)) (sym h.extents_is)
        ∙ ap (λ (o : ℕ). map (mapping v.books.extents o) (range (get_or units i 0 * unit_blocks) unit_blocks)) (sym h.described.object_is)
        ∙ sym (unit-mapping v c.object (get_or units i 0) unit_blocks);
    checksum = u.each i l ∙ ap (λ (gs : List Group). slot_of gs object (get_or units i 0)) (sym h.groups_is)
        ∙ ap (λ (o : ℕ). slot_of v.books.groups o (get_or units i 0)) (sym h.described.object_is)
        ∙ sym (checksum-slot v c.object (get_or units i 0));
  }

  -- so the plan of the units is the plan of the change
  pub change-planned : (limit hint allocated : ℕ) (kept blocks : List ℕ) (r : answer.Plan)
      → (PlanFor image uuid used (length image / block_bytes) object n units slots old v c → UnitsSettled limit v c units (from_card hint allocated) kept blocks r)
      → ChangePlanned limit v c units hint allocated slots old kept blocks r
  change-planned limit hint allocated kept blocks r f =
      let s : UnitsSettled limit v c units (from_card hint allocated) kept blocks r =
      f (record { described = h.described; used = λ k l. ap (λ (m : ℕ → Bool). m k) (sym h.used_is); each = each-looked; touched = h.touched }) in
      record { each = each-looked; number = s.number; done = s.done }
