-- The answer to one unit, by what is known of its old bytes and by what it is given.
-- Assumes nothing.
use mathlib.Core.Path.{◌≡◌, refl, sym, ap, subst, ◌∙◌}
use mathlib.Core.Bool.{Bool, true, false}
use mathlib.Core.List.{List}
use mathlib.Core.Option.{Option, none, some}
use Prim.Native.Nat.{ℕ, ◌+◌, ◌*◌, ◌<◌}
use native.Mathlib.Omega.{arith}
use lib.ListN.{length, get_or}
use lib.Seq.{get_or-take}
use Rattle.rules.specs.Lists.{member}
use Rattle.rules.specs.Sizes.{unit_blocks}
use Rattle.rules.specs.Store.{Volume}
use Rattle.rules.specs.Integrity.{on_device}
use Rattle.rules.specs.Units.{Change, assembled}
use Rattle.rules.specs.Inspect.{inspect_unit, unit_mapping}
use Rattle.rules.specs.Kept.{blocks_after, retained_blocks, wanted, assigned}
use Rattle.rules.specs.Allocation.{allocate_data}
use Rattle.rules.specs.Rewrite.{Progress, Rewritten, lay_out, allocate_unit, rewrite_unit, after, allocated_after}
use Rattle.rules.specs.Rewrite.Step.{rewritten}
use Rattle.rules.specs.Answers.{step_number}
use Rattle.rules.proofs.ListLaws.{clash}
use Rattle.rules.proofs.CountLaws.{member-each}
use Rattle.rules.proofs.PassLaws.{Lawful}
use Rattle.rules.proofs.KeptLaws.{assigned-kept, retained-for, length_retained}
use Rattle.rules.proofs.AllocationLaws.{each-allocate_data}
use Rattle.history.proofs.ImageAfter.{assigned-new}
use Rattle.history.proofs.UnitLaws.{mapping-below, get_or-mapped, valid-blocks}
use Rattle.mapping.specs.Entries.{entry_of, entries, Inside}
use Rattle.allocation.specs.Carried.{Carried}
use Rattle.inspect.specs.Mapped.{inspect_mapped}
use Rattle.inspect.proofs.InspectLaws.{inspect-mapped}
use Rattle.rewrite.specs.declared.Old.{Old}
use Rattle.rewrite.specs.declared.Old.TheVariants.{Refused, Untouched}
use Rattle.kept.specs.declared.Change as numbers
use Rattle.rewrite.specs.declared.Progress as code
use Rattle.rewrite.specs.declared.UnitPlan.{UnitPlan}
use Rattle.rewrite.specs.Plan.{old_bytes, verified, kept_by, laid_unit}
use Rattle.rewrite.specs.Steps.{old_as, given_blocks, count_after}
use Rattle.rewrite.specs.Arguments.{Described, LookedUp, BlocksOf, DeviceFits}
use Rattle.rewrite.specs.Given.{Lays}
use Rattle.rewrite.specs.Answers.{Carries, Relaid, UnitPlanned}
use Rattle.rewrite.proofs.PlanLaws.{lay_out-laid, OldMeans, old-means, lay-number, lay_done}

module _ (limit : ℕ) (v : Volume) (c : Change) (unit : ℕ) (p : Progress) where
  -- a refusal
  pub unit-refused : (map kept blocks : List ℕ) (r : UnitPlan) (n : ℕ) → OldMeans limit v c unit p (Refused n) → r.number ≡ n → UnitPlanned limit v c unit p map kept blocks r
  unit-refused map kept blocks r n h e = record {
    number = h.0 ∙ sym e;
    hole = λ z f. absurd (omega (arith, h.1, e, z));
    done = λ z f. absurd (omega (arith, h.1, e, z));
  }

  -- a hole that stays one
  pub unit-hole : (map kept blocks : List ℕ) (r : UnitPlan) → OldMeans limit v c unit p Untouched → r.number ≡ 0 → r.rewritten ≡ false → Carries v p map r.progress
      → UnitPlanned limit v c unit p map kept blocks r
  unfolding step_number
  unit-hole map kept blocks r h e f k = record {
    number = ap step_number h.0 ∙ sym e;
    hole = λ z g. record { step = h.0; apart = h.1; carries = k };
    done = λ z g. absurd (clash f g);
  }

  -- a kept block is one of the device
  kept-below : Lawful v → (k q : ℕ) → k < unit_blocks → get_or (kept_by limit v c unit) k none ≡ some q → q < v.blocks
  unfolding kept_by on_device
  kept-below l k q m e =
      mapping-below v.blocks v.books.extents l.device c.object (unit * unit_blocks + k) q
      (sym (get_or-mapped v c.object unit unit_blocks k m) ∙ (retained-for limit c unit (verified v c unit) (unit_mapping v c.object unit unit_blocks) k q e).old)

  -- a unit keeps entries for as many blocks as it has
  length-kept : length (kept_by limit v c unit) ≡ blocks_after c unit
  unfolding kept_by
  length-kept = length_retained limit c unit (verified v c unit) (unit_mapping v c.object unit unit_blocks)

  -- the blocks of a unit that was laid out are those of the device
  placed_below : Lawful v → length (given_blocks v.blocks v.used p.taken p.hint (kept_by limit v c unit)) ≡ wanted (kept_by limit v c unit) → (k : ℕ) → k < blocks_after c unit
      → get_or (assigned (kept_by limit v c unit) (given_blocks v.blocks v.used p.taken p.hint (kept_by limit v c unit))) k 0 < v.blocks
  unfolding given_blocks blocks_after
  placed_below l w k m = go (get_or (kept_by limit v c unit) k none) refl
    where
      new : List ℕ
      new = allocate_data v.blocks v.used p.hint p.taken (wanted (kept_by limit v c unit))

      go : (o : Option ℕ) → get_or (kept_by limit v c unit) k none ≡ o → get_or (assigned (kept_by limit v c unit) new) k 0 < v.blocks
      go none e =
          (member-each (λ b. (b < v.blocks) × (v.used b ≡ false) × (member b p.taken ≡ false)) (each-allocate_data v.blocks v.used p.hint p.taken (wanted (kept_by limit v c unit)))
          (get_or (assigned (kept_by limit v c unit) new) k 0) (assigned-new (kept_by limit v c unit) new w k (omega (arith, m, length-kept)) e)).0
      go (some q) e = rw (assigned-kept (kept_by limit v c unit) new w k q e) (kept-below l k q (omega (arith, m, valid-blocks c.new_size unit)) e)

  -- a unit that was laid out
  module _ (law : Lawful v) (w : rewrite_unit limit v c unit p ≡ allocate_unit v c unit p (assembled c unit (old_bytes v c unit)) (kept_by limit v c unit)) (map kept blocks : List ℕ) (r : UnitPlan)
      (h : Lays v.blocks v.used p.taken p.hint p.allocated (unit_mapping v c.object unit unit_blocks) (kept_by limit v c unit) (blocks_after c unit) map kept blocks r) where
    -- what it becomes
    relaid : r.number ≡ 0 → Relaid limit v c unit p map kept blocks r.progress
    unfolding after allocated_after count_after lay_out
    relaid z =
        let new : List ℕ = given_blocks v.blocks v.used p.taken p.hint (kept_by limit v c unit) in
        let d = h.done z in
        let l = lay_done limit v c unit p (assembled c unit (old_bytes v c unit)) (kept_by limit v c unit) (sym h.number_is ∙ z) in
        let same : lay_out v c unit (assembled c unit (old_bytes v c unit)) (kept_by limit v c unit) new ≡ laid_unit limit v c unit blocks = lay_out-laid limit v c unit new blocks d.placed l.1 in
        let k : Carries v (after p (lay_out v c unit (assembled c unit (old_bytes v c unit)) (kept_by limit v c unit) new)) map r.progress =
        record { hint = sym d.hint_is; allocated = sym d.count_is; taken = d.carried } in
        record {
          step = w ∙ l.0 ∙ ap rewritten same;
          placed = record {
            keeps = d.keeps;
            below = λ j m. rw (sym (get_or-take (blocks_after c unit) blocks j 0 m) ∙ ap (λ (x : List ℕ). get_or x j 0) d.placed) (placed_below law l.1 j m);
          };
          carries = subst (λ (x : Rewritten). Carries v (after p x) map r.progress) same k;
        }

    -- the answer to it
    pub unit-laid : r.rewritten ≡ true → UnitPlanned limit v c unit p map kept blocks r
    unit-laid f = record {
      number = ap step_number w ∙ lay-number limit v c unit p (assembled c unit (old_bytes v c unit)) (kept_by limit v c unit) ∙ sym h.number_is;
      hole = λ z g. absurd (clash g f);
      done = λ z g. relaid z;
    }

-- ---- the arguments of a unit

-- the blocks that the entries name lie in the image
pub inside-device : (image map old : List ℕ) (total : ℕ) → DeviceFits image map total → BlocksOf total old → Inside image old
inside-device image map old total d b = record { each = λ i. omega (arith, d.bytes, b.each i) }

-- the blocks taken, by the number of blocks that the arguments have
pub carried-total : (image uuid : List ℕ) (total object : ℕ) (n : numbers.Change) (v : Volume) (c : Change) (p : Progress) (map : List ℕ) (left : code.Progress)
    → Described image uuid total object n v c → Carries v p map left → Carried total v.used p.taken map left.cursors.past
carried-total image uuid total object n v c p map left d k =
    subst (λ (x : ℕ). Carried x v.used p.taken map left.cursors.past) d.blocks_is k.taken

-- what is known of the unit is what the rules read
module _ (image uuid : List ℕ) (total object : ℕ) (n : numbers.Change) (unit slot : ℕ) (old : List ℕ) (v : Volume) (c : Change) (d : Described image uuid total object n v c)
    (l : LookedUp v c unit slot old) where
  -- reading the unit
  read_is : inspect_mapped image uuid object n.old_size unit (entries old) (entry_of slot) ≡ inspect_unit v c.object c.old_size unit
  read_is =
      rw (l.mapped, l.checksum, ← d.change.old, ← d.object_is, ← d.image_is, ← d.uuid_is) (sym (inspect-mapped v c.object c.old_size d.lawful unit))

  -- what becomes of it
  pub means-read : (limit : ℕ) (p : Progress) (o : Old) → o ≡ old_as c unit (inspect_mapped image uuid object n.old_size unit (entries old) (entry_of slot)) → OldMeans limit v c unit p o
  means-read limit p o e = rw (e ∙ ap (old_as c unit) read_is) (old-means limit v c unit p)

  -- a unit that was laid out, by the arguments
  pub lays-read : (limit : ℕ) (p : Progress) (b : Bool) → verified v c unit ≡ b → (map₀ map kept blocks : List ℕ) (left : code.Progress) (r : UnitPlan) → Carries v p map₀ left
      → Lays total v.used p.taken left.hint left.allocated (entries old) (retained_blocks limit c unit b (entries old)) (blocks_after c unit) map kept blocks r
      → Lays v.blocks v.used p.taken p.hint p.allocated (unit_mapping v c.object unit unit_blocks) (kept_by limit v c unit) (blocks_after c unit) map kept blocks r
  unfolding kept_by
  lays-read limit p b e map₀ map kept blocks left r k h =
      let U : List (Option ℕ) = unit_mapping v c.object unit unit_blocks in
      let m : ℕ = blocks_after c unit in
      let by-mapping : Lays total v.used p.taken left.hint left.allocated U (retained_blocks limit c unit b U) m map kept blocks r =
      subst (λ (x : List (Option ℕ)). Lays total v.used p.taken left.hint left.allocated x (retained_blocks limit c unit b x) m map kept blocks r) l.mapped h in
      let by-verified : Lays total v.used p.taken left.hint left.allocated U (kept_by limit v c unit) m map kept blocks r =
      subst (λ (x : Bool). Lays total v.used p.taken left.hint left.allocated U (retained_blocks limit c unit x U) m map kept blocks r) (sym e) by-mapping in
      let by_blocks : Lays v.blocks v.used p.taken left.hint left.allocated U (kept_by limit v c unit) m map kept blocks r =
      subst (λ (x : ℕ). Lays x v.used p.taken left.hint left.allocated U (kept_by limit v c unit) m map kept blocks r) (sym d.blocks_is) by-verified in
      let by-hint : Lays v.blocks v.used p.taken p.hint left.allocated U (kept_by limit v c unit) m map kept blocks r =
      subst (λ (x : ℕ). Lays v.blocks v.used p.taken x left.allocated U (kept_by limit v c unit) m map kept blocks r) (sym k.hint) by_blocks in
      subst (λ (x : ℕ). Lays v.blocks v.used p.taken p.hint x U (kept_by limit v c unit) m map kept blocks r) (sym k.allocated) by-hint
