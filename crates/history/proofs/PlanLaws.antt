-- The plan of a change: on any volume, where each rewritten unit's blocks are; and under what is known of the file no unit is refused but for want of blocks,
-- and what its bytes become.
-- Assumes nothing.
use mathlib.Core.Path.{◌≡◌, refl, sym, ap, subst, ◌∙◌}
use mathlib.Core.List.{List, [], ◌∷◌}
use mathlib.Core.Bool.{Bool, true, false, not}
use mathlib.Core.Option.{Option, none, some}
use Prim.Native.Nat.{ℕ, ◌+◌, ◌-◌, ◌*◌, ◌≤◌, ◌<◌}
use native.Mathlib.Omega.{arith}
use lib.Dec.{ltb}
use lib.ListN.{length, get_or, replicate, length-map}
use borrow.Author.Tests.{ltb-true, le-ltb}
use Rattle.rules.specs.Lists.{range, member, begun}
use Rattle.rules.specs.Sizes.{block_bytes, unit_blocks, unit_bytes, most_allocated}
use Rattle.rules.specs.Bytes.{part, padded}
use Rattle.rules.specs.Extent.{mapping}
use Rattle.rules.specs.Checksum.{unit_checksum}
use Rattle.rules.specs.Store.{Volume, block_at}
use Rattle.rules.specs.Refusal.{Refusal}
use Rattle.rules.specs.Refusal.Refusal.{no_space, count_disagrees}
use Rattle.rules.specs.Units.{Change, touches, reads_old, covers_old, assembled, valid_length}
use Rattle.rules.specs.Inspect.{Inspected, inspect_unit, unit_mapping}
use Rattle.rules.specs.Inspect.Inspected.{damaged, hole, checked}
use Rattle.rules.specs.Kept.{blocks_after, retained_blocks, wanted, superseded}
use Rattle.rules.specs.Allocation.{allocate_data, too_few}
use Rattle.rules.specs.Rewrite.{Progress, Rewritten, Step, Plan, lay_out, allocated_after, is_count_off, counted, allocate_unit, rewrite_from, after_read, rewrite_unit, after, prepend, and_then, rewrite_units}
use Rattle.rules.specs.Rewrite.Step.{stopped, untouched, rewritten}
use Rattle.rules.specs.Rewrite.Plan.{refused, planned}
use Rattle.rules.proofs.ListLaws.{clash, if-cases, and_left, length-range, Each, each_weaken, get_or-same}
use Rattle.rules.proofs.ByteLaws.{length_part, get_d_part}
use Rattle.rules.proofs.CountLaws.{Once}
use Rattle.rules.proofs.AllocationLaws.{each-allocate_data, length-allocate_data, ascending-allocate_data}
use Rattle.history.proofs.ReadLaws.{UnitIs, is-hole, is-checked, FileIs}
use Rattle.history.proofs.ImageAfter.{LaidOut}
use Rattle.rules.proofs.KeptLaws.{there, Keeps, KeptFor, KeptRight, count-superseded, length_retained, retained-for, kept-right, wanted-most}
use Rattle.history.proofs.PlaceCounts.{total}
use Rattle.history.proofs.UnitLaws.{get_or-mapped, CheckedUnit, checked-means, checked-block, valid-blocks}
use Rattle.history.proofs.ChangeLaws.{Becomes, Stays, stays-checked, stays-zeros, stays-unread, assembled-is, valid-new, valid-old, untouched-zeros, settled-part, settled-whole}
use Rattle.history.proofs.MoreLists.{count-all, once-ascending}
use Rattle.history.proofs.MoreBytes.{length-part-min, padded-whole}

-- the bytes of a unit in a plain array
abbrev pub unit_part : ℕ → List ℕ → List ℕ
unit_part u ys = part (u * unit_bytes) unit_bytes ys

-- the blocks that a unit has had
abbrev pub unit_old : Volume → Change → ℕ → List (Option ℕ)
unit_old v c u = unit_mapping v c.object u unit_blocks

-- where a rewritten unit's blocks are, from what it found, and the checksum of its bytes
pub record Placed (v : Volume) (c : Change) (p : Progress) (u : ℕ) (r : Rewritten) : Type 0 where
  pub unit : r.unit ≡ u
  pub checksum : r.checksum ≡ unit_checksum v.uuid c.object u r.bytes
  pub laid : LaidOut v.blocks r
  pub wide : length r.kept ≡ begun (valid_length c.new_size u) block_bytes
  pub keeps : Keeps r.kept (unit_old v c u)
  pub free : Each (λ b. (b < v.blocks) × (v.used b ≡ false) × (member b p.taken ≡ false)) r.new
  pub once : Once r.new
  pub gone : r.superseded ≡ superseded (unit_old v c u) r.kept

-- its bytes are the plain array's, and so are those of the blocks that it keeps
pub record UnitRight (v : Volume) (ys : List ℕ) (r : Rewritten) : Type 0 where
  pub bytes : r.bytes ≡ unit_part r.unit ys
  pub same : (i q : ℕ) → get_or r.kept i none ≡ some q → block_at v.image q ≡ padded block_bytes (part (i * block_bytes) block_bytes (unit_part r.unit ys))

-- a unit that stays a hole
pub record StaysHole (v : Volume) (c : Change) (ys : List ℕ) (u : ℕ) : Type 0 where
  pub found : inspect_unit v c.object c.old_size u ≡ hole
  pub zeros : unit_part u ys ≡ replicate (length (unit_part u ys)) 0

-- nothing is told
abbrev pub Untold : {A : Type 0} → A → Type 0
Untold x = Unit {0}

-- what is carried out of a change's units, with what is told of each that stays a hole and of each that is rewritten
pub data Planned (v : Volume) (c : Change) (Hole : ℕ → Type 0) (Right : Rewritten → Type 0) : List ℕ → Progress → List Rewritten → Progress → Type 0 where
  plan-end : {p : Progress} → Planned v c Hole Right [] p [] p
  plan-hole : {u : ℕ} {us : List ℕ} {p q : Progress} {rs : List Rewritten} → Hole u → Planned v c Hole Right us p rs q → Planned v c Hole Right (u ∷ us) p rs q
  plan-unit : {u : ℕ} {us : List ℕ} {p q : Progress} {r : Rewritten} {rs : List Rewritten} → Placed v c p u r → is_count_off p.allocated r ≡ false → Right r
      → Planned v c Hole Right us (after p r) rs q → Planned v c Hole Right (u ∷ us) p (r ∷ rs) q

module _ (v : Volume) (c : Change) (Stop : Refusal → Type 0) (Hole : ℕ → Type 0) (Right : Rewritten → Type 0) where
  -- what becomes of a unit: refused, a hole that stays, or rewritten, with what is told of each
  abbrev StepIs : Progress → ℕ → Step → Type 0
  StepIs p u (stopped r) = Stop r
  StepIs p u untouched = Hole u
  StepIs p u (rewritten r) = Placed v c p u r × (is_count_off p.allocated r ≡ false) × Right r

  -- what becomes of all units
  abbrev pub PlanIs : List ℕ → Progress → Plan → Type 0
  PlanIs us p (refused r) = Stop r
  PlanIs us p (planned rs q) = Planned v c Hole Right us p rs q

  -- what becomes of all is told from what becomes of each, where E is what is enough for those that are left
  module _ (limit : ℕ) (E : List ℕ → Progress → Type 0) (skip : (u : ℕ) (us : List ℕ) (p : Progress) → E (u ∷ us) p → E us p)
      (spend : (u : ℕ) (us : List ℕ) (p : Progress) (r : Rewritten) → Placed v c p u r → E (u ∷ us) p → E us (after p r))
      (step : (u : ℕ) (us : List ℕ) (p : Progress) → E (u ∷ us) p → StepIs p u (rewrite_unit limit v c u p)) where
    module _ (u : ℕ) (us : List ℕ) (p : Progress) where
      -- a hole before the others
      hole-is : Hole u → (k : Plan) → PlanIs us p k → PlanIs (u ∷ us) p k
      hole-is h (refused r) x = x
      hole-is h (planned rs q) x = plan-hole h x

      -- a rewritten unit before the others
      prepend-is : (r : Rewritten) → StepIs p u (rewritten r) → (k : Plan) → PlanIs us (after p r) k → PlanIs (u ∷ us) p (prepend r k)
      unfolding prepend
      prepend-is r h (refused e) x = x
      prepend-is r h (planned rs q) x = plan-unit h.0 h.1 h.2 x

      -- a unit, and then those after it
      then_is : E (u ∷ us) p → (s : Step) → StepIs p u s → ((q : Progress) → E us q → PlanIs us q (rewrite_units limit v c us q)) → PlanIs (u ∷ us) p (and_then p s (λ q. rewrite_units limit v c us q))
      unfolding and_then
      then_is e (stopped r) h next = h
      then_is e untouched h next = hole-is h (rewrite_units limit v c us p) (next p (skip u us p e))
      then_is e (rewritten r) h next = prepend-is r h (rewrite_units limit v c us (after p r)) (next (after p r) (spend u us p r h.0 e))

    -- all units
    plan-from : (us : List ℕ) (p : Progress) → E us p → PlanIs us p (rewrite_units limit v c us p)
    unfolding rewrite_units
    plan-from [] p e = plan-end
    plan-from (u ∷ us) p e = then_is u us p e (rewrite_unit limit v c u p) (step u us p e) (λ q. plan-from us q)

-- the card's count is at least that of the units' old blocks, and far below the limit
pub record Enough (v : Volume) (c : Change) (us : List ℕ) (p : Progress) : Type 0 where
  pub least : total (λ u. length (there (unit_old v c u))) us ≤ p.allocated
  pub most : p.allocated + unit_blocks * length us ≤ most_allocated

-- there are as many entries of a unit's old blocks as it can have
pub length-old : (v : Volume) (c : Change) (u : ℕ) → length (unit_old v c u) ≡ unit_blocks
unfolding unit_mapping
length-old v c u = length-map (range (u * unit_blocks) unit_blocks) (mapping v.books.extents c.object) ∙ length-range (u * unit_blocks) unit_blocks

-- a unit supersedes no more blocks than it had
superseded-most : {v : Volume} {c : Change} {p : Progress} {u : ℕ} {r : Rewritten} → Placed v c p u r → length r.superseded ≤ length (there (unit_old v c u))
superseded-most {v} {c} {p} {u} {r} d =
    rw d.gone (omega (
      arith,
      count-superseded (λ b. true) (unit_old v c u) r.kept d.keeps (omega (arith, d.wide, length-old v c u, valid-blocks c.new_size u)),
      count-all (superseded (unit_old v c u) r.kept),
      count-all (there (unit_old v c u)),
    ))

-- enough for those after a hole
enough-hole : (v : Volume) (c : Change) (u : ℕ) (us : List ℕ) (p : Progress) → Enough v c (u ∷ us) p → Enough v c us p
unfolding total
enough-hole v c u us p e = record { least = omega (arith, e.least); most = omega (arith, e.most) }

-- enough for those after a rewritten unit
enough-unit : {v : Volume} {c : Change} {u : ℕ} (us : List ℕ) {p : Progress} {r : Rewritten} → Placed v c p u r → Enough v c (u ∷ us) p → Enough v c us (after p r)
unfolding total after allocated_after
enough-unit {v} {c} {u} us {p} {r} d e =
    let g : length r.superseded ≤ length (there (unit_old v c u)) = superseded-most d in
    let n : length r.new ≤ unit_blocks = omega (arith, d.laid.many, wanted-most r.kept, d.wide, valid-blocks c.new_size u) in
    record { least = omega (arith, e.least, g); most = omega (arith, e.most, n) }

-- ---- one unit, on any volume

module _ (limit : ℕ) (v : Volume) (c : Change) (u : ℕ) (p : Progress) where
  module _ (verified : Bool) (old : List ℕ) where
    -- what a unit keeps that is assembled from these old bytes, verified or not
    abbrev kept_from : List (Option ℕ)
    kept_from = retained_blocks limit c u verified (unit_old v c u)

    -- there are too few blocks for what it wants
    abbrev full_for : Bool
    full_for = too_few v.blocks v.used p.taken (wanted kept_from)

    -- its new blocks
    abbrev new_from : List ℕ
    new_from = allocate_data v.blocks v.used p.hint p.taken (wanted kept_from)

    -- what it becomes
    abbrev laid_from : Rewritten
    laid_from = lay_out v c u (assembled c u old) kept_from new_from

    -- its blocks are where they should be
    placed-from : full_for ≡ false → Placed v c p u laid_from
    placed-from t = unfold lay_out in record {
      unit = refl;
      checksum = refl;
      laid = record { blocks = refl; many = length-allocate_data v.blocks v.used p.hint p.taken (wanted kept_from) t; below = each_weaken (λ b h. h.0) free };
      wide = unfold blocks_after in length_retained limit c u verified (unit_old v c u);
      keeps = λ i q h. (retained-for limit c u verified (unit_old v c u) i q h).old;
      free = free;
      once = once-ascending new_from (ascending-allocate_data v.blocks v.used p.hint p.taken (wanted kept_from));
      gone = refl;
    }
      where
        free : Each (λ b. (b < v.blocks) × (v.used b ≡ false) × (member b p.taken ≡ false)) new_from
        free = each-allocate_data v.blocks v.used p.hint p.taken (wanted kept_from)

    -- so it is refused for want of blocks or for the card's count, or rewritten
    from_is : (Stop : Refusal → Type 0) (Hole : ℕ → Type 0) (Right : Rewritten → Type 0) → Stop no_space → (full_for ≡ false → is_count_off p.allocated laid_from ≡ true → Stop count_disagrees)
        → Right laid_from → StepIs v c Stop Hole Right p u (rewrite_from limit v c u p verified old)
    unfolding rewrite_from allocate_unit counted
    from_is Stop Hole Right full wrong right =
        if-cases (StepIs v c Stop Hole Right p u) full_for (stopped no_space) _ (λ t. full)
        (λ t. if-cases (StepIs v c Stop Hole Right p u) (is_count_off p.allocated laid_from) (stopped count_disagrees) (rewritten laid_from) (wrong t) (λ d. (placed-from t, d, right)))

  -- where something holds of whatever it can become, and nothing else is told
  module _ (Right : Rewritten → Type 0) (right : (verified : Bool) (old : List ℕ) → Right (laid_from verified old)) where
    -- a unit that was read
    read-any : (i : Inspected) → StepIs v c Untold Untold Right p u (after_read limit v c u p i)
    unfolding after_read
    read-any (damaged r) = tt
    read-any hole =
        if-cases (StepIs v c Untold Untold Right p u) (touches c u) _ untouched (λ t. from_is false [] Untold Untold Right tt (λ f d. tt) (right false [])) (λ t. tt)
    read-any (checked old) = from_is true old Untold Untold Right tt (λ f d. tt) (right true old)

    -- and any unit
    unit-any : StepIs v c Untold Untold Right p u (rewrite_unit limit v c u p)
    unfolding rewrite_unit
    unit-any =
        if-cases (StepIs v c Untold Untold Right p u) (reads_old c u) _ _
        (λ t. read-any (inspect_unit v c.object c.old_size u)) (λ t. from_is false [] Untold Untold Right tt (λ f d. tt) (right false []))

-- the units of any plan on any volume are placed, if it is carried out
pub plan-any : (limit : ℕ) (v : Volume) (c : Change) (us : List ℕ) (p : Progress) → PlanIs v c Untold Untold Untold us p (rewrite_units limit v c us p)
plan-any limit v c us p =
    plan-from v c Untold Untold Untold limit (λ us p. Unit {0}) (λ u us p e. tt) (λ u us p r d e. tt) (λ u us p e. unit-any limit v c u p Untold (λ b old. tt)) us p tt

-- what a rewritten unit keeps is right, and in no more runs than the limit
pub record KeepsRight (limit : ℕ) (v : Volume) (c : Change) (r : Rewritten) : Type 0 where
  pub verified : Bool
  pub right : KeptRight limit c r.unit verified (unit_old v c r.unit) r.kept

-- so it is with all units of any plan
pub plan-kept : (limit : ℕ) → 1 ≤ limit → (v : Volume) (c : Change) (us : List ℕ) (p : Progress) → PlanIs v c Untold Untold (KeepsRight limit v c) us p (rewrite_units limit v c us p)
plan-kept limit l v c us p =
    plan-from v c Untold Untold (KeepsRight limit v c) limit (λ us p. Unit {0}) (λ u us p e. tt) (λ u us p r d e. tt)
    (λ u us p e. unit-any limit v c u p (KeepsRight limit v c) (λ b old. unfold lay_out in record { verified = b; right = kept-right limit l c u b (unit_old v c u) })) us p tt

-- ---- where the file is known

-- refused for want of blocks
abbrev pub WantsBlocks : Refusal → Type 0
WantsBlocks r = r ≡ no_space

-- what is known of the file: its plain array and what it becomes, its units, and that its blocks are whole
pub record Known (v : Volume) (c : Change) (xs ys : List ℕ) : Type 0 where
  pub becomes : Becomes c xs ys
  pub file : FileIs v c.object xs
  pub whole : (block q : ℕ) → mapping v.books.extents c.object block ≡ some q → length (block_at v.image q) ≡ block_bytes

module _ (limit : ℕ) (v : Volume) (c : Change) (xs ys : List ℕ) (k : Known v c xs ys) where
  -- what becomes of a unit
  abbrev StepRight : Progress → ℕ → Step → Type 0
  StepRight = StepIs v c WantsBlocks (StaysHole v c ys) (UnitRight v ys)

  module _ (u : ℕ) (p : Progress) where
    -- the unit's share of what is enough
    record Share : Type 0 where
      least : length (there (unit_old v c u)) ≤ p.allocated
      most : p.allocated + unit_blocks ≤ most_allocated

    -- a unit assembled from these old bytes, verified or not
    rewritten-from : Share → (verified : Bool) (old : List ℕ) → Stays c xs ys k.becomes u old
        → ((i q : ℕ) → KeptFor c u verified (unit_old v c u) i q → block_at v.image q ≡ padded block_bytes (part (i * block_bytes) block_bytes (unit_part u ys)))
        → StepRight p u (rewrite_from limit v c u p verified old)
    rewritten-from e verified old s same =
        from_is limit v c u p verified old WantsBlocks (StaysHole v c ys) (UnitRight v ys) refl (λ t d. absurd (clash (agrees t) d))
        (unfold lay_out in record { bytes = assembled-is c xs ys k.becomes u old s; same = λ i q h. same i q (retained-for limit c u verified (unit_old v c u) i q h) })
      where
        agrees : full_for limit v c u p verified old ≡ false → is_count_off p.allocated (laid_from limit v c u p verified old) ≡ false
        agrees t =
            let d = placed-from limit v c u p verified old t in
            let r : Rewritten = laid_from limit v c u p verified old in
            unfold is_count_off allocated_after in
            rw (le-ltb p.allocated (length r.superseded) (omega (arith, superseded-most d, e.least)))
            (le-ltb most_allocated (p.allocated - length r.superseded + length r.new) (omega (arith, e.most, d.laid.many, wanted-most r.kept, d.wide, valid-blocks c.new_size u)))

    -- a unit that is not verified keeps nothing
    keeps-none : (i q : ℕ) → KeptFor c u false (unit_old v c u) i q → block_at v.image q ≡ padded block_bytes (part (i * block_bytes) block_bytes (unit_part u ys))
    keeps-none i q h = absurd (clash refl h.checked)

    -- a checked one keeps blocks that have the array's bytes
    keeps-checked : CheckedUnit v c.object c.old_size u (unit_part u xs) → (i q : ℕ) → KeptFor c u true (unit_old v c u) i q
        → block_at v.image q ≡ padded block_bytes (part (i * block_bytes) block_bytes (unit_part u ys))
    keeps-checked d i q h =
        let w = settled-whole c xs ys k.becomes u i h.unwritten in
        let l : i < unit_blocks = omega (arith, w.0, valid-old c xs ys k.becomes u, length-part-min xs (u * unit_bytes) unit_bytes) in
        let m : mapping v.books.extents c.object (u * unit_blocks + i) ≡ some q = sym (get_or-mapped v c.object u unit_blocks i l) ∙ h.old in
        let n : length (part (i * block_bytes) block_bytes (unit_part u ys)) ≡ block_bytes = length_part (unit_part u ys) (i * block_bytes) block_bytes (omega (arith, w.1, valid-new c xs ys k.becomes u)) in
        sym (checked-block v c.object c.old_size u (unit_part u xs) d k.whole i q w.0 m) ∙ settled-part c xs ys k.becomes u i h.unwritten
        ∙ sym (padded-whole block_bytes (part (i * block_bytes) block_bytes (unit_part u ys)) n)

    -- a unit that was read
    read_is : Share → {i : Inspected} → UnitIs (unit_part u xs) i → inspect_unit v c.object c.old_size u ≡ i → StepRight p u (after_read limit v c u p i)
    unfolding after_read
    read_is e (is-checked {ys = zs} q) h =
        let d : inspect_unit v c.object c.old_size u ≡ checked (unit_part u xs) = h ∙ ap checked (sym q) in
        rw (← q) (rewritten-from e true (unit_part u xs) (stays-checked c xs ys k.becomes u) (keeps-checked (checked-means v c.object c.old_size u (unit_part u xs) d)))
    read_is e (is-hole q) h =
        if-cases (StepRight p u) (touches c u) _ untouched
        (λ t. rewritten-from e false [] (stays-zeros c xs ys k.becomes u zeros) keeps-none)
        (λ t. record { found = h; zeros = untouched-zeros c xs ys k.becomes u t zeros })
      where
        zeros : (j : ℕ) → j < unit_bytes → get_or xs (u * unit_bytes + j) 0 ≡ 0
        zeros j l = sym (get_d_part xs (u * unit_bytes) unit_bytes j l) ∙ ap (λ (zs : List ℕ). get_or zs j 0) q ∙ get_or-same (length (unit_part u xs)) 0 j

    -- a unit that is to be rewritten
    unit-is : Share → StepRight p u (rewrite_unit limit v c u p)
    unfolding rewrite_unit
    unit-is e =
        if-cases (StepRight p u) (reads_old c u) (after_read limit v c u p (inspect_unit v c.object c.old_size u)) _
        (λ t. let l : u * unit_bytes < length xs = unfold reads_old in omega (arith, ltb-true 0 (valid_length c.old_size u) (and_left (ltb 0 (valid_length c.old_size u)) (not (covers_old c u)) t), valid-old c xs ys k.becomes u, length-part-min xs (u * unit_bytes) unit_bytes) in
        read_is e (subst (λ (n : ℕ). UnitIs (unit_part u xs) (inspect_unit v c.object n u)) (sym k.becomes.old) (k.file u l)) refl)
        (λ t. rewritten-from e false [] (stays-unread c xs ys k.becomes u t) keeps-none)

  -- a unit's share, and enough for those after it
  share : (u : ℕ) (us : List ℕ) (p : Progress) → Enough v c (u ∷ us) p → Share u p
  unfolding total
  share u us p e = record { least = omega (arith, e.least); most = omega (arith, e.most) }

  -- what becomes of all units
  pub plan-is : (us : List ℕ) (p : Progress) → Enough v c us p → PlanIs v c WantsBlocks (StaysHole v c ys) (UnitRight v ys) us p (rewrite_units limit v c us p)
  plan-is = plan-from v c WantsBlocks (StaysHole v c ys) (UnitRight v ys) limit (Enough v c) (enough-hole v c) (λ u us p r. enough-unit us) (λ u us p e. unit-is u p (share u us p e))
