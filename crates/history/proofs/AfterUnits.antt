-- The units of the volume that a change leaves: a rewritten one is read as the plain array's new bytes, and every other as before.
-- Assumes nothing.
use mathlib.Core.Path.{◌≡◌, refl, sym, ap, ◌∙◌}
use mathlib.Core.List.{List, [], ◌∷◌, map, flat_map, Memᴰ}
use mathlib.Core.Bool.{Bool, true, false, not, ◌&&◌}
use mathlib.Core.Option.{Option, none, some, none-ne-some, some-injective}
use Prim.Native.Nat.{ℕ, ◌+◌, ◌-◌, ◌*◌, ◌/◌, ◌%◌, ◌≤◌, ◌<◌}
use native.Mathlib.Decide.{ℕ_discrete}
use native.Mathlib.Omega.{arith}
use lib.Dec.{eqb, leb}
use lib.ListN.{length, get_or, get_elem?}
use borrow.Author.Tests.{eqb-true, eq-eqb, ne_eqb}
use Rattle.rules.specs.Time.{Time}
use Rattle.rules.specs.Lists.{pick◌then◌else◌, given, range, all, any, member, ascending, begun}
use Rattle.rules.specs.Sizes.{block_bytes, unit_blocks, group_units}
use Rattle.rules.specs.Bytes.{part, padded}
use Rattle.rules.specs.Extent.{Extent, covers, block_of, mapping}
use Rattle.rules.specs.Checksum.{unit_checksum}
use Rattle.rules.specs.Store.{Volume, block_at}
use Rattle.rules.specs.Integrity.{mapped_blocks}
use Rattle.rules.specs.Units.{Change}
use Rattle.rules.specs.Inspect.{unit_mapping, inspect_unit}
use Rattle.rules.specs.Inspect.Inspected.{checked}
use Rattle.rules.specs.Rewrite.{Progress, Rewritten}
use Rattle.rules.specs.Finish.{new_blocks, finished_extents, finished_image, finished}
use Rattle.rules.proofs.ListLaws.{clash, test-cases, if-true, if-false, and_left, and_right, all_append, all-range-at, map_each, ascending-tail, Each, each-any, each_weaken}
use Rattle.rules.proofs.CountLaws.{each-range, Once}
use Rattle.rules.proofs.PassLaws.{Lawful, all-each, mappable, mapped-all}
use Rattle.history.proofs.Rewritten.{new_mapping, outside, Units, Apart, apart-lawful, new_mapping-in, new_mapping-behind, new_mapping-outside}
use Rattle.history.proofs.MappingLaws.{covers-true, mapping-yes, mapping-no, mapping-nil}
use Rattle.history.proofs.ExtentsAfter.{apart-after, mapping-after}
use Rattle.history.proofs.BackedLaws.{backed-mapping}
use Rattle.history.proofs.ImageAfter.{LaidOut, other-finished_image, new-finished_image}
use Rattle.history.proofs.GroupsAfter.{unit_before, units-later, checksum-slot, slot-finished-other, slot-finished-same}
use Rattle.rules.proofs.KeptLaws.{length-assigned, assigned-kept}
use Rattle.history.proofs.UnitLaws.{get_or-mapped, makes-checked, SameUnit, valid-blocks}
use Rattle.history.proofs.ChangeLaws.{UnitsOf, Becomes, valid-new}
use Rattle.history.proofs.PlanLaws.{UnitRight, StaysHole, Planned, unit_part}
use Rattle.history.proofs.PlannedLaws.{Made, planned-made, planned-right, planned-order, planned-free, planned-once, made-blocks, units-made}
use Rattle.history.proofs.MoreLists.{each-mem, get_elem-some}

-- what passes at all mapped blocks passes where a file's block is
pub mapping-all : (f : ℕ → Bool) (es : List Extent) → all f (mapped_blocks es) ≡ true → (object block p : ℕ) → mapping es object block ≡ some p → f p ≡ true
unfolding mapped_blocks flat_map
mapping-all f [] h object block p e = absurd (none-ne-some p (sym (mapping-nil object block) ∙ e))
mapping-all f (x ∷ es) h object block p e =
    let a : (all f (range x.physical x.count) && all f (mapped_blocks es)) ≡ true = sym (all_append f (range x.physical x.count) (mapped_blocks es)) ∙ h in
    test-cases (f p ≡ true) (covers object block x)
    (λ t. let c = covers-true t in
    let q : x.physical + (block - x.logical) ≡ p = unfold block_of in some-injective (block_of block x) p (sym (mapping-yes object block x es t) ∙ e) in
    rw q at (all-range-at f x.physical x.count (and_left (all f (range x.physical x.count)) (all f (mapped_blocks es)) a) (block - x.logical) (omega (arith, c.low, c.high))))
    (λ t. mapping-all f es (and_right (all f (range x.physical x.count)) (all f (mapped_blocks es)) a) object block p (sym (mapping-no object block x es t) ∙ e))

-- a block of a rewritten unit is where it has it
new_mapping-mem : (rs : List Rewritten) → ascending unit_before rs ≡ true → (r : Rewritten) → Memᴰ r rs → (block : ℕ) (old : Option ℕ) → block / unit_blocks ≡ r.unit
    → new_mapping rs block old ≡ get_elem? r.blocks (block % unit_blocks)
new_mapping-mem [] a r m block old q = elim m [ ]
new_mapping-mem (t ∷ rs) a r (Memᴰ.head e) block old q = rw e (new_mapping-in t rs block old (eq-eqb (block / unit_blocks) t.unit (rw e at q)))
new_mapping-mem (t ∷ rs) a r (Memᴰ.tail m) block old q =
    new_mapping-behind t rs block old (ne_eqb (block / unit_blocks) t.unit (λ z. omega (arith, each-mem (units-later t rs a) m)))
    ∙ new_mapping-mem rs (ascending-tail unit_before t rs a) r m block old q

-- a block of none of them is outside
outside_of : {rs : List Rewritten} (block : ℕ) → Each (λ r. block / unit_blocks ≡ r.unit → ⊥) rs → outside rs block ≡ true
unfolding outside
outside_of block h = all-each (λ r. not (eqb (block / unit_blocks) r.unit)) (each_weaken (λ r d. ap not (ne_eqb (block / unit_blocks) r.unit d)) h)

-- rewritten units of a change to a lawful volume: of the file, ascending, and their new blocks were free and are new once
pub record Carrying (v : Volume) (c : Change) (rs : List Rewritten) : Type 0 where
  pub lawful : Lawful v
  pub made : Each (Made v c) rs
  pub order : ascending unit_before rs ≡ true
  pub free : (b : ℕ) → member b (new_blocks rs) ≡ true → (b < v.blocks) × (v.used b ≡ false)
  pub once : Once (new_blocks rs)
  pub image : v.blocks * block_bytes ≤ length v.image

-- so are those of a plan that is carried out
pub carrying : {v : Volume} {c : Change} {Hole : ℕ → Type 0} {Right : Rewritten → Type 0} {us : List ℕ} {p : Progress} {rs : List Rewritten} {q : Progress}
    → Lawful v → v.blocks * block_bytes ≤ length v.image → UnitsOf c us → Planned v c Hole Right us p rs q → Carrying v c rs
carrying l i u d = record {
  lawful = l;
  made = planned-made d u.within;
  order = planned-order d u.ordered;
  free = λ b m. let f = planned-free d b m in (f.below, f.unused);
  once = planned-once d;
  image = i;
}

-- what is known of the change besides, where a plain array tells the file
pub record Filling (v : Volume) (c : Change) (xs ys : List ℕ) (us : List ℕ) (p : Progress) (rs : List Rewritten) (q : Progress) : Type 0 where
  pub becomes : Becomes c xs ys
  pub units : UnitsOf c us
  pub planned : Planned v c (StaysHole v c ys) (UnitRight v ys) us p rs q
  pub slots : Each (λ g. length g.slots ≡ group_units) v.books.groups

module _ {v : Volume} {c : Change} {rs : List Rewritten} (d : Carrying v c rs) where
  -- each is laid out
  pub laid-all : Each (LaidOut v.blocks) rs
  laid-all = each_weaken (λ r m. m.placed.laid) d.made

  -- one to sixteen blocks each
  units-all : Units rs
  units-all = units-made d.made d.order

  -- the extents before the change do not overlap
  pub apart-old : Apart v.books.extents
  apart-old = apart-lawful v d.lawful

  -- nor do those after it
  pub apart-new : Apart (finished_extents c.object rs v.books.extents)
  apart-new = apart-after c.object rs v.books.extents units-all apart-old

  -- a mapped block is used, and so not new
  pub mapped-used : (object block b : ℕ) → mapping v.books.extents object block ≡ some b → v.used b ≡ true
  mapped-used object block b m =
      and_left (v.used b) (not (v.retired b)) (and_left (v.used b && not (v.retired b)) (leb v.reserved b)
      (mapping-all (mappable v) v.books.extents (mapped-all v d.lawful.mapped) object block b m))

  -- a mapped block is not new
  mapped-kept : (object block b : ℕ) → mapping v.books.extents object block ≡ some b → member b (new_blocks rs) ≡ false
  mapped-kept object block b m =
      test-cases (member b (new_blocks rs) ≡ false) (member b (new_blocks rs)) (λ t. absurd (clash (d.free b t).1 (mapped-used object block b m))) (λ t. t)

  -- a mapped block keeps its bytes
  mapped-bytes : (object block b : ℕ) → mapping v.books.extents object block ≡ some b → block_at (finished_image rs v.image) b ≡ block_at v.image b
  mapped-bytes object block b m = other-finished_image v.blocks laid-all v.image d.image b (mapped-kept object block b m)

  -- a block of another file, or of no rewritten unit, stays where it is
  mapping-stays : (o b : ℕ) → (o ≡ c.object → Each (λ r. b / unit_blocks ≡ r.unit → ⊥) rs) → mapping (finished_extents c.object rs v.books.extents) o b ≡ mapping v.books.extents o b
  mapping-stays o b h =
      mapping-after c.object rs v.books.extents units-all apart-old o b
      ∙ test-cases ((pick eqb o c.object then new_mapping rs b (mapping v.books.extents o b) else mapping v.books.extents o b) ≡ mapping v.books.extents o b) (eqb o c.object)
      (λ t. if-true (eqb o c.object) _ _ t ∙ new_mapping-outside rs b (mapping v.books.extents o b) (outside_of b (h (eqb-true o c.object t))))
      (λ t. if-false (eqb o c.object) _ _ t)

  -- so all blocks of such a unit
  pub places-stay : (o u : ℕ) → (o ≡ c.object → Each (λ r. u ≡ r.unit → ⊥) rs)
      → map (mapping (finished_extents c.object rs v.books.extents) o) (range (u * unit_blocks) unit_blocks) ≡ map (mapping v.books.extents o) (range (u * unit_blocks) unit_blocks)
  places-stay o u h =
      map_each (mapping (finished_extents c.object rs v.books.extents) o) (mapping v.books.extents o)
      (each_weaken (λ b k. mapping-stays o b (λ e. each_weaken (λ r n z. n (omega (arith, k.0, k.1))) (h e))) (each-range (u * unit_blocks) unit_blocks))

  -- a block of a rewritten unit is where the unit has it, and past those that it has there is none
  pub mapping-moves : (r : Rewritten) → Memᴰ r rs → (i : ℕ) → i < unit_blocks
      → mapping (finished_extents c.object rs v.books.extents) c.object (r.unit * unit_blocks + i) ≡ get_elem? r.blocks i
  mapping-moves r m i l =
      let e : (r.unit * unit_blocks + i) / unit_blocks ≡ r.unit = omega arith in
      let z : (r.unit * unit_blocks + i) % unit_blocks ≡ i = omega arith in
      mapping-after c.object rs v.books.extents units-all apart-old c.object (r.unit * unit_blocks + i)
      ∙ if-true (eqb c.object c.object) _ _ (eq-eqb c.object c.object refl)
      ∙ new_mapping-mem rs d.order r m (r.unit * unit_blocks + i) _ e ∙ ap (get_elem? r.blocks) z

  module _ (time : Time) (q : Progress) where
    -- the volume that is left
    abbrev left : Volume
    left = finished c time rs q v

    -- a unit that is not rewritten is the same
    pub unit-stays : (o u : ℕ) → (o ≡ c.object → Each (λ r. u ≡ r.unit → ⊥) rs) → SameUnit left v o u
    unfolding finished
    unit-stays o u h = record {
      uuid = refl;
      slot = checksum-slot left o u ∙ slot-finished-other c.object o u (others (ℕ_discrete o c.object)) v.books.groups ∙ sym (checksum-slot v o u);
      under = backed-mapping left o u apart-new ∙ ap (any given) blocks ∙ sym (backed-mapping v o u apart-old);
      mapped = λ i l. mapping-stays o (u * unit_blocks + i) (near i l);
      image = λ i b l m. mapped-bytes o (u * unit_blocks + i) b m;
    }
      where
        near : (i : ℕ) → i < unit_blocks → o ≡ c.object → Each (λ r. (u * unit_blocks + i) / unit_blocks ≡ r.unit → ⊥) rs
        near i l e = each_weaken (λ r n z. n (omega arith)) (h e)

        others : Dec (o ≡ c.object) → Each (λ r. o ≡ c.object → u ≡ r.unit → ⊥) rs
        others (yes e) = each_weaken (λ r n z. n) (h e)
        others (no n) = each-any (λ r z. absurd (n z)) rs

        blocks : unit_mapping left o u unit_blocks ≡ unit_mapping v o u unit_blocks
        blocks = unfold unit_mapping in places-stay o u h

    -- a rewritten unit has the array's new bytes
    pub unit-new : {xs ys us : List ℕ} {p : Progress} → Filling v c xs ys us p rs q → (r : Rewritten) → Memᴰ r rs → inspect_unit left c.object c.new_size r.unit ≡ checked (unit_part r.unit ys)
    unfolding finished
    unit-new {xs} {ys} f r m =
        makes-checked left c.object c.new_size u r.blocks (unit_part u ys) (sym (valid-new c xs ys f.becomes u))
        (made-blocks k ∙ ap (λ (n : ℕ). begun n block_bytes) (valid-new c xs ys f.becomes u)) mapped blocks
        (checksum-slot left c.object u ∙ slot-finished-same c.object rs d.order v.books.groups f.slots r m ∙ ap some (k.placed.checksum ∙ ap (unit_checksum v.uuid c.object u) g.bytes))
      where
        k : Made v c r
        k = each-mem d.made m

        g : UnitRight v ys r
        g = each-mem (planned-right f.planned) m

        u : ℕ
        u = r.unit

        long : length r.blocks ≡ length r.kept
        long = ap length k.placed.laid.blocks ∙ length-assigned r.kept r.new k.placed.laid.many

        few : length r.blocks ≤ unit_blocks
        few = omega (arith, made-blocks k, valid-blocks c.new_size u)

        mapped : (i : ℕ) → i < length r.blocks → mapping (finished_extents c.object rs v.books.extents) c.object (u * unit_blocks + i) ≡ some (get_or r.blocks i 0)
        mapped i l = mapping-moves r m i (omega (arith, few)) ∙ get_elem-some r.blocks i l

        blocks : (i : ℕ) → i < length r.blocks → block_at (finished_image rs v.image) (get_or r.blocks i 0) ≡ padded block_bytes (part (i * block_bytes) block_bytes (unit_part u ys))
        blocks i l = go (get_or r.kept i none) refl
          where
            go : (o : Option ℕ) → get_or r.kept i none ≡ o → block_at (finished_image rs v.image) (get_or r.blocks i 0) ≡ padded block_bytes (part (i * block_bytes) block_bytes (unit_part u ys))
            go none e =
                new-finished_image v.blocks laid-all v.image d.image d.once r m i (omega (arith, long)) e
                ∙ ap (λ (zs : List ℕ). padded block_bytes (part (i * block_bytes) block_bytes zs)) g.bytes
            go (some b) e =
                let n : get_or r.blocks i 0 ≡ b = ap (λ (bs : List ℕ). get_or bs i 0) k.placed.laid.blocks ∙ assigned-kept r.kept r.new k.placed.laid.many i b e in
                let o : mapping v.books.extents c.object (u * unit_blocks + i) ≡ some b = sym (get_or-mapped v c.object u unit_blocks i (omega (arith, few))) ∙ k.placed.keeps i b e in
                ap (block_at (finished_image rs v.image)) n ∙ mapped-bytes c.object (u * unit_blocks + i) b o ∙ g.same i b e
