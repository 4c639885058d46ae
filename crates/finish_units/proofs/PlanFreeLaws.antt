-- What a plan that is not refused says of its units: those that were read passed, the new blocks were free, and every block lies on the device.
-- Assumes nothing.
use mathlib.Core.Path.{◌≡◌, refl, sym, ap, ◌∙◌}
use mathlib.Core.Bool.{Bool, true, false}
use mathlib.Core.List.{List, [], ◌∷◌, ◌++◌, map}
use mathlib.Core.Option.{Option, none, some, none-ne-some}
use Prim.Native.Nat.{ℕ, suc, ◌+◌, ◌-◌, ◌*◌, ◌≤◌, ◌<◌}
use native.Mathlib.Decide.{dec_lt}
use native.Mathlib.Omega.{arith}
use lib.ListN.{length, take, drop, get_or, replicate, length-map, get_or-eq_default}
use lib.Seq.{take_at, take-take}
use Rattle.rules.specs.Lists.{range, begun}
use Rattle.rules.specs.Sizes.{block_bytes, unit_blocks}
use Rattle.rules.specs.Bytes.{part}
use Rattle.rules.specs.Store.{Volume}
use Rattle.rules.specs.Refusal.{Refusal}
use Rattle.rules.specs.Refusal.Refusal.{no_space, count_disagrees}
use Rattle.rules.specs.Integrity.{on_device}
use Rattle.rules.specs.Units.{Change, touches, reads_old, assembled, valid_length}
use Rattle.rules.specs.Inspect.{Inspected, inspect_unit, unit_mapping}
use Rattle.rules.specs.Inspect.Inspected.{damaged, hole, checked}
use Rattle.rules.specs.Kept.{blocks_after, retained_blocks, wanted, assigned}
use Rattle.rules.specs.Allocation.{allocate_data, too_few}
use Rattle.rules.specs.Rewrite.{Progress, Rewritten, Step, Plan, lay_out, is_count_off, counted, allocate_unit, rewrite_from, after_read, rewrite_unit, after, prepend, and_then, rewrite_units}
use Rattle.rules.specs.Rewrite.Step.{stopped, untouched, rewritten}
use Rattle.rules.specs.Rewrite.Plan.{refused, planned}
use Rattle.rules.specs.Answers.{inspected_number, plan_units}
use Rattle.rules.specs.Finish.{new_blocks}
use Rattle.rules.proofs.ListLaws.{if-true, if-cases, length-range, Each, each_none, each_more, each_at, each_weaken}
use Rattle.rules.proofs.ByteLaws.{length_part, get_d_part}
use Rattle.rules.proofs.PassLaws.{Lawful}
use Rattle.rules.proofs.KeptLaws.{length_retained, retained-for}
use Rattle.rules.proofs.AllocationLaws.{each-allocate_data}
use Rattle.history.proofs.ApartLaws.{each-flat_map}
use Rattle.history.proofs.UnitLaws.{get_or-mapped, mapping-below, valid-blocks}
use Rattle.mapping.specs.Entries.{entry_of, entries}
use Rattle.rewrite.specs.Plan.{verified, kept_by, laid_unit, laid_units}
use Rattle.finish_units.proofs.OldLaws.{take-map}
use Rattle.finish_units.proofs.CarryLaws.{get_or-laid, length-laid}

-- ---- one unit

-- the new blocks of a rewritten unit were free, and all its blocks lie on the device
pub record Sound (v : Volume) (r : Rewritten) : Type 0 where
  pub free : Each (λ b. (b < v.blocks) × (v.used b ≡ false)) r.new
  pub below : Each (λ b. b < v.blocks) r.blocks

-- what becomes of a unit is sound where it is rewritten
abbrev SoundStep : Volume → Step → Type 0
SoundStep v (stopped r) = Unit {0}
SoundStep v untouched = Unit {0}
SoundStep v (rewritten r) = Sound v r

-- kept blocks that lie below n, with new ones that do between them
assigned-below : (n : ℕ) (kept : List (Option ℕ)) (new : List ℕ) → ((i p : ℕ) → get_or kept i none ≡ some p → p < n) → Each (λ b. b < n) new → Each (λ b. b < n) (assigned kept new)
unfolding assigned
assigned-below n [] new h e = each_none
assigned-below n (some p ∷ kept) new h e = each_more (h 0 p refl) (assigned-below n kept new (λ i. h (suc i)) e)
assigned-below n (none ∷ kept) [] h e = each_none
assigned-below n (none ∷ kept) (b ∷ new) h (each_more x e) = each_more x (assigned-below n kept new (λ i. h (suc i)) e)

module _ (v : Volume) (lawful : Lawful v) where
  -- where a unit's block is, it lies on the device
  mapped-below : (object unit i p : ℕ) → get_or (unit_mapping v object unit unit_blocks) i none ≡ some p → p < v.blocks
  mapped-below object unit i p = go (dec_lt i unit_blocks)
    where
      long : length (unit_mapping v object unit unit_blocks) ≡ unit_blocks
      long = unfold unit_mapping in length-map (range (unit * unit_blocks) unit_blocks) _ ∙ length-range (unit * unit_blocks) unit_blocks

      go : Dec (i < unit_blocks) → get_or (unit_mapping v object unit unit_blocks) i none ≡ some p → p < v.blocks
      go (yes l) e = mapping-below v.blocks v.books.extents (unfold on_device in lawful.device) object (unit * unit_blocks + i) p (sym (get_or-mapped v object unit unit_blocks i l) ∙ e)
      go (no l) e = absurd (none-ne-some p (sym (get_or-eq_default (unit_mapping v object unit unit_blocks) none {n = i} (omega (arith, long, l))) ∙ e))

  module _ (limit : ℕ) (c : Change) (unit : ℕ) (p : Progress) where
    -- a unit that is given blocks
    sound-allocated : (bytes : List ℕ) (b : Bool) → SoundStep v (allocate_unit v c unit p bytes (retained_blocks limit c unit b (unit_mapping v c.object unit unit_blocks)))
    unfolding allocate_unit counted lay_out
    sound-allocated bytes b =
        let old : List (Option ℕ) = unit_mapping v c.object unit unit_blocks in
        let kept : List (Option ℕ) = retained_blocks limit c unit b old in
        let new : List ℕ = allocate_data v.blocks v.used p.hint p.taken (wanted kept) in
        let e : Each (λ x. (x < v.blocks) × (v.used x ≡ false)) new = each_weaken (λ x h. (h.0, h.1)) (each-allocate_data v.blocks v.used p.hint p.taken (wanted kept)) in
        if-cases (SoundStep v) (too_few v.blocks v.used p.taken (wanted kept)) (stopped no_space) (counted p (lay_out v c unit bytes kept new)) (λ t. tt)
        (λ t. if-cases (SoundStep v) (is_count_off p.allocated (lay_out v c unit bytes kept new)) (stopped count_disagrees) (rewritten (lay_out v c unit bytes kept new)) (λ s. tt)
        (λ s. record {
          free = e;
          below = assigned-below v.blocks kept new (λ i q h. mapped-below c.object unit i q (retained-for limit c unit b old i q h).old) (each_weaken (λ x h. h.0) e);
        }))

    -- from any old bytes
    sound-from : (b : Bool) (old : List ℕ) → SoundStep v (rewrite_from limit v c unit p b old)
    unfolding rewrite_from
    sound-from b old = sound-allocated (assembled c unit old) b

    -- a unit that was read
    sound-read : (i : Inspected) → SoundStep v (after_read limit v c unit p i)
    unfolding after_read
    sound-read (damaged r) = tt
    sound-read hole = if-cases (SoundStep v) (touches c unit) (rewrite_from limit v c unit p false []) untouched (λ t. sound-from false []) (λ t. tt)
    sound-read (checked xs) = sound-from true xs

    -- any unit
    sound-unit : SoundStep v (rewrite_unit limit v c unit p)
    unfolding rewrite_unit
    sound-unit =
        if-cases (SoundStep v) (reads_old c unit) (after_read limit v c unit p (inspect_unit v c.object c.old_size unit)) (rewrite_from limit v c unit p false [])
        (λ t. sound-read (inspect_unit v c.object c.old_size unit)) (λ t. sound-from false [])

-- a unit that is not refused passed where it was read
passed-unit : (limit : ℕ) (v : Volume) (c : Change) (unit : ℕ) (p : Progress) → ((r : Refusal) → rewrite_unit limit v c unit p ≡ stopped r → ⊥) → reads_old c unit ≡ true
    → inspected_number (inspect_unit v c.object c.old_size unit) ≡ 0
unfolding rewrite_unit after_read inspected_number
passed-unit limit v c unit p n t = go (inspect_unit v c.object c.old_size unit) refl
  where
    go : (i : Inspected) → inspect_unit v c.object c.old_size unit ≡ i → inspected_number i ≡ 0
    go (damaged r) e =
        absurd (n r (if-true (reads_old c unit) (after_read limit v c unit p (inspect_unit v c.object c.old_size unit)) (rewrite_from limit v c unit p false []) t ∙ ap (after_read limit v c unit p) e))
    go hole e = refl
    go (checked xs) e = refl

-- ---- all of them

-- a plan that is not refused goes on from each unit
goes_on : (p : Progress) (s : Step) (next : Progress → Plan) (rs : List Rewritten) (q : Progress) → and_then p s next ≡ planned rs q → (r : Refusal) → s ≡ stopped r → ⊥
unfolding and_then
goes_on p (stopped x) next rs q e r h = let z : ◌≡◌ {A = ℕ} 0 1 = cc in omega arith
goes_on p untouched next rs q e r h = let z : ◌≡◌ {A = ℕ} 0 1 = cc in omega arith
goes_on p (rewritten x) next rs q e r h = let z : ◌≡◌ {A = ℕ} 0 1 = cc in omega arith

-- to the units behind it, which are planned too
goes_to : (v : Volume) (p : Progress) (s : Step) (next : Progress → Plan) (rs : List Rewritten) (q : Progress) → and_then p s next ≡ planned rs q
    → (t : Progress) × (ts : List Rewritten) × (next t ≡ planned ts q) × (SoundStep v s → Each (Sound v) ts → Each (Sound v) rs)
unfolding and_then
goes_to v p (stopped x) next rs q e = let z : ◌≡◌ {A = ℕ} 0 1 = cc in absurd (omega arith)
goes_to v p untouched next rs q e = (p, rs, e, λ s h. h)
goes_to v p (rewritten r) next rs q e = go (next (after p r)) refl e
  where
    go : (plan : Plan) → next (after p r) ≡ plan → prepend r plan ≡ planned rs q
        → (t : Progress) × (ts : List Rewritten) × (next t ≡ planned ts q) × (Sound v r → Each (Sound v) ts → Each (Sound v) rs)
    go (refused x) n h = let z : ◌≡◌ {A = ℕ} 0 1 = unfold prepend in cc in absurd (omega arith)
    go (planned ts t) n h =
        let x : t ≡ q = unfold prepend in cc in
        let y : r ∷ ts ≡ rs = unfold prepend in cc in
        (after p r, ts, n ∙ ap (planned ts) x, λ s g. rw (← y) (each_more s g))

module _ (limit : ℕ) (v : Volume) (c : Change) where
  -- every unit that was read passed
  pub planned-passed : (us : List ℕ) (p q : Progress) (rs : List Rewritten) → rewrite_units limit v c us p ≡ planned rs q
      → Each (λ u. reads_old c u ≡ true → inspected_number (inspect_unit v c.object c.old_size u) ≡ 0) us
  unfolding rewrite_units
  planned-passed [] p q rs e = each_none
  planned-passed (u ∷ us) p q rs e =
      let s : Step = rewrite_unit limit v c u p in
      let h = goes_to v p s (λ t. rewrite_units limit v c us t) rs q e in
      each_more (passed-unit limit v c u p (goes_on p s (λ t. rewrite_units limit v c us t) rs q e)) (planned-passed us h.0 q h.1 h.2)

  -- every rewritten unit is sound
  pub planned-sound : Lawful v → (us : List ℕ) (p q : Progress) (rs : List Rewritten) → rewrite_units limit v c us p ≡ planned rs q → Each (Sound v) rs
  unfolding rewrite_units plan_units
  planned-sound l [] p q rs e = rw (← ap plan_units e) each_none
  planned-sound l (u ∷ us) p q rs e =
      let h = goes_to v p (rewrite_unit limit v c u p) (λ t. rewrite_units limit v c us t) rs q e in
      h.3 (sound-unit v l limit c u p) (planned-sound l us h.0 q h.1 h.2)

  -- so that the new blocks were free
  pub planned-free : Lawful v → (us : List ℕ) (p q : Progress) (rs : List Rewritten) → rewrite_units limit v c us p ≡ planned rs q → Each (λ b. (b < v.blocks) × (v.used b ≡ false)) (new_blocks rs)
  unfolding new_blocks
  planned-free l us p q rs e = each-flat_map (λ (r : Rewritten). r.new) (each_weaken (λ r h. h.free) (planned-sound l us p q rs e))

  -- and that the blocks in a plan's array lie in the image
  pub planned-inside : Lawful v → (us units blocks image : List ℕ) (p q : Progress) (next : ℕ) → rewrite_units limit v c us p ≡ planned (laid_units limit v c units blocks) q
      → v.blocks * block_bytes ≤ length image → c.new_size ≡ next → length blocks ≡ unit_blocks * length units
      → (j i : ℕ) → j < length units → i < begun (valid_length next (get_or units j 0)) block_bytes → (get_or blocks (unit_blocks * j + i) 0 + 1) * block_bytes ≤ length image
  unfolding laid_unit blocks_after part
  planned-inside l us units blocks image p q next e f n m j i k o =
      let u : ℕ = get_or units j 0 in
      let r : Rewritten = laid_unit limit v c u (drop (unit_blocks * j) blocks) in
      let k' : j < length (laid_units limit v c units blocks) = omega (arith, length-laid limit v c units blocks, k) in
      let s : Sound v (get_or (laid_units limit v c units blocks) j r) = each_at (planned-sound l us p q (laid_units limit v c units blocks) e) j r k' in
      let t : Sound v r = rw (get_or-laid limit v c units blocks j r k) at s in
      let nb : ℕ = blocks_after c u in
      let w : nb ≡ begun (valid_length next u) block_bytes = rw n refl in
      let x : length (part (unit_blocks * j) nb blocks) ≡ nb = length_part blocks (unit_blocks * j) nb (omega (arith, m, k, w, valid-blocks next u)) in
      let y : get_or (part (unit_blocks * j) nb blocks) i 0 < v.blocks = each_at t.below i 0 (omega (arith, x, w, o)) in
      omega (arith, get_d_part blocks (unit_blocks * j) nb i (omega (arith, w, o)), y, f)

-- ---- what is kept, in an array

-- sixteen entries with nothing behind what a unit keeps: the first are what it keeps
pub kept-first : (limit : ℕ) (v : Volume) (c : Change) (unit a : ℕ) (kept : List ℕ) → entries (part a unit_blocks kept) ≡ kept_by limit v c unit ++ replicate (unit_blocks - blocks_after c unit) none
    → entries (part a (blocks_after c unit) kept) ≡ kept_by limit v c unit
unfolding entries part
kept-first limit v c unit a kept e =
    let n : ℕ = blocks_after c unit in
    let l : n ≤ unit_blocks = unfold blocks_after in valid-blocks c.new_size unit in
    let k : length (kept_by limit v c unit) ≡ n = unfold kept_by in length_retained limit c unit (verified v c unit) (unit_mapping v c.object unit unit_blocks) in
    ap (map entry_of) (sym (take-take n unit_blocks (drop a kept) l)) ∙ sym (take-map entry_of n (take unit_blocks (drop a kept)))
    ∙ ap (take n) e ∙ take_at (kept_by limit v c unit) (replicate (unit_blocks - n) none) n k
