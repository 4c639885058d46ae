-- The old bytes of a unit: what its old blocks hold is what the rules read of it, and blocks that were free do not change them.
-- Assumes nothing.
use mathlib.Core.Path.{◌≡◌, refl, sym, ap, ◌∙◌}
use mathlib.Core.Bool.{true, false, not, ◌&&◌}
use mathlib.Core.List.{List, [], ◌∷◌, map, flat_map}
use mathlib.Core.Option.{Option, none, some, none-ne-some}
use Prim.Native.Nat.{ℕ, zero, suc, ◌+◌, ◌-◌, ◌*◌, ◌<◌}
use native.Mathlib.Omega.{arith}
use lib.Dec.{leb}
use lib.ListN.{length, take, get_or}
use lib.Seq.{take_at}
use Rattle.rules.specs.Lists.{pick◌then◌else◌, maybe, given, range, all, begun}
use Rattle.rules.specs.Sizes.{block_bytes, unit_blocks}
use Rattle.rules.specs.Extent.{mapping}
use Rattle.rules.specs.Store.{Volume, block_at}
use Rattle.rules.specs.Refusal.Refusal.{no_checksum}
use Rattle.rules.specs.Units.{Change, reads_old, valid_length, assembled}
use Rattle.rules.specs.Inspect.{Inspected, inspect_unit, inspect_slot, checksum_of, backed_under, unit_mapping, valid_mapping, fully_backed, backed_bytes, valid_bytes}
use Rattle.rules.specs.Inspect.Inspected.{damaged, hole, checked}
use Rattle.rules.specs.Answers.{inspected_number}
use Rattle.rules.proofs.ListLaws.{if-true, if-false, if-cases, maybe-none, test-cases, and_left, length-range, range-add, get_d_map}
use Rattle.rules.proofs.PassLaws.{Lawful, mappable, mapped-all}
use Rattle.rules.proofs.Refused.{numbered}
use Rattle.history.proofs.UnitLaws.{hole-means, CheckedUnit, checked-means, get_or-mapped, valid-blocks}
use Rattle.history.proofs.AfterUnits.{mapping-all}
use Rattle.mapping.specs.Entries.{entry_of, entries, Inside}
use Rattle.image.specs.Blocks.{blocks_bytes}
use Rattle.image.proofs.BlockLaws.{take-mapped, same_blocks}
use Rattle.rewrite.specs.Plan.{found_bytes, old_read, old_bytes}
use Rattle.finish_units.specs.Units.{held_count, new_bytes}
use Rattle.finish_units.proofs.UnitLaws.{held-hole, held-unread, held_all}

-- ---- entries

-- an entry that stands for nothing is 0
entry-none : (x : ℕ) → entry_of x ≡ none → x ≡ 0
unfolding entry_of
entry-none zero e = refl
entry-none (suc p) e = absurd (none-ne-some p (sym e))

-- and 0 stands for nothing
none-entry : (x : ℕ) → x ≡ 0 → entry_of x ≡ none
unfolding entry_of
none-entry x e = rw e refl

-- ---- the blocks of the valid bytes

-- the first of what a function gives
pub take-map : {A B : Type 0} (f : A → B) (n : ℕ) (xs : List A) → take n (map f xs) ≡ map f (take n xs)
take-map f zero xs = refl
take-map f (suc n) [] = refl
take-map f (suc n) (x ∷ xs) = ap (λ ys. f x ∷ ys) (take-map f n xs)

module _ (v : Volume) (object size unit : ℕ) where
  -- they are the first of the unit's blocks
  valid-first : take (begun (valid_length size unit) block_bytes) (unit_mapping v object unit unit_blocks) ≡ valid_mapping v object size unit
  unfolding valid_mapping unit_mapping
  valid-first =
      let n : ℕ = begun (valid_length size unit) block_bytes in
      let e : unit_blocks ≡ n + (unit_blocks - n) = omega (arith, valid-blocks size unit) in
      let r : take n (range (unit * unit_blocks) (n + (unit_blocks - n))) ≡ range (unit * unit_blocks) n =
      ap (take n) (range-add (unit * unit_blocks) n (unit_blocks - n)) ∙ take_at (range (unit * unit_blocks) n) (range (unit * unit_blocks + n) (unit_blocks - n)) n (length-range (unit * unit_blocks) n) in
      take-map (mapping v.books.extents object) n (range (unit * unit_blocks) unit_blocks)
      ∙ ap (map (mapping v.books.extents object)) (ap (λ (m : ℕ). take n (range (unit * unit_blocks) m)) e ∙ r)

  -- a unit without a slot is not checked
  unchecked : (xs : List ℕ) → checksum_of v object unit ≡ none → inspect_unit v object size unit ≡ checked xs → ⊥
  unfolding inspect_unit
  unchecked xs e h =
      if-cases (λ (i : Inspected). i ≡ checked xs → ⊥) (backed_under v object unit) (damaged no_checksum) hole
      (λ t q. let z : ◌≡◌ {A = ℕ} 0 1 = cc in omega arith) (λ t q. let z : ◌≡◌ {A = ℕ} 0 1 = cc in omega arith)
      (sym (maybe-none (pick backed_under v object unit then damaged no_checksum else hole) (inspect_slot v object size unit) (checksum_of v object unit) e) ∙ h)

-- ---- what a unit's old blocks hold

module _ (v : Volume) (c : Change) (unit slot : ℕ) (old : List ℕ) (m : entries old ≡ unit_mapping v c.object unit unit_blocks) where
  -- on the volume's image it is what the rules read
  module _ (inside : Inside v.image old) (many : length old ≡ unit_blocks) (s : entry_of slot ≡ checksum_of v c.object unit) where
    -- a unit that is read, and what it is found to be
    read-old : (i : Inspected) → inspect_unit v c.object c.old_size unit ≡ i → reads_old c unit ≡ true → inspected_number i ≡ 0
        → take (held_count c unit slot) (blocks_bytes v.image (entries old)) ≡ found_bytes i
    unfolding inspected_number found_bytes
    read-old (damaged r) e t n = absurd (omega (arith, n, (numbered r).least))
    read-old hole e t n =
        let z : slot ≡ 0 = entry-none slot (s ∙ (hole-means v c.object c.old_size unit e).0) in
        rw (← held-hole c unit slot z) refl
    read-old (checked xs) e t n =
        let k : CheckedUnit v c.object c.old_size unit xs = checked-means v c.object c.old_size unit xs e in
        let size : ℕ = valid_length c.old_size unit in
        let z : slot ≡ 0 → ⊥ = λ z. unchecked v c.object c.old_size unit xs (sym s ∙ none-entry slot z) e in
        let h : size ≡ held_count c unit slot = held_all c unit slot true size c.old_size z (sym t) refl refl refl in
        let f : take (begun size block_bytes) (entries old) ≡ valid_mapping v c.object c.old_size unit = ap (take (begun size block_bytes)) m ∙ valid-first v c.object c.old_size unit in
        let a : all given (take (begun size block_bytes) (entries old)) ≡ true = ap (all given) f ∙ backed-all k.backed in
        rw (← h) (sym (take-mapped v.image old (begun size block_bytes) size inside (omega (arith, many, valid-blocks c.old_size unit)) a (omega arith))
        ∙ ap (λ (os : List (Option ℕ)). take size (flat_map (maybe [] (block_at v.image)) os)) f ∙ bytes-valid ∙ sym k.bytes)
      where
        backed-all : fully_backed v c.object c.old_size unit ≡ true → all given (valid_mapping v c.object c.old_size unit) ≡ true
        backed-all b = unfold fully_backed in b

        bytes-valid : take (valid_length c.old_size unit) (flat_map (maybe [] (block_at v.image)) (valid_mapping v c.object c.old_size unit)) ≡ valid_bytes v c.object c.old_size unit
        bytes-valid = unfold valid_bytes backed_bytes in refl

    -- any unit that passed where it was read
    held-old : (reads_old c unit ≡ true → inspected_number (inspect_unit v c.object c.old_size unit) ≡ 0)
        → take (held_count c unit slot) (blocks_bytes v.image (entries old)) ≡ old_bytes v c unit
    unfolding old_bytes old_read found_bytes
    held-old n =
        test-cases (take (held_count c unit slot) (blocks_bytes v.image (entries old)) ≡ found_bytes (old_read v c unit)) (reads_old c unit)
        (λ t. read-old (inspect_unit v c.object c.old_size unit) refl t (n t) ∙ ap found_bytes (sym (if-true (reads_old c unit) (inspect_unit v c.object c.old_size unit) hole t)))
        (λ t. ap (λ (k : ℕ). take k (blocks_bytes v.image (entries old))) (sym (held-unread c unit slot false (sym t) refl))
        ∙ ap found_bytes (sym (if-false (reads_old c unit) (inspect_unit v c.object c.old_size unit) hole t)))

  -- a mapped block is used
  mapped-used : Lawful v → (i b : ℕ) → i < unit_blocks → i < length old → get_or old i 0 ≡ suc b → v.used b ≡ true
  mapped-used l i b k n e =
      let a : get_or (entries old) i none ≡ some b = unfold entries entry_of in get_d_map entry_of old i none 0 n ∙ ap entry_of e in
      let q : mapping v.books.extents c.object (unit * unit_blocks + i) ≡ some b = sym (get_or-mapped v c.object unit unit_blocks i k) ∙ ap (λ (os : List (Option ℕ)). get_or os i none) (sym m) ∙ a in
      and_left (v.used b) (not (v.retired b)) (and_left (v.used b && not (v.retired b)) (leb v.reserved b)
      (mapping-all (mappable v) v.books.extents (mapped-all v l.mapped) c.object (unit * unit_blocks + i) b q))

  -- so that an image on which used blocks are as they were gives the same new bytes
  pub new-bytes : (image : List ℕ) → Lawful v → ((b : ℕ) → v.used b ≡ true → block_at image b ≡ block_at v.image b) → Inside v.image old → length old ≡ unit_blocks
      → entry_of slot ≡ checksum_of v c.object unit → (reads_old c unit ≡ true → inspected_number (inspect_unit v c.object c.old_size unit) ≡ 0)
      → new_bytes c image unit slot old ≡ assembled c unit (old_bytes v c unit)
  unfolding new_bytes
  new-bytes image l same inside many s n =
      let b : blocks_bytes image (entries old) ≡ blocks_bytes v.image (entries old) = same_blocks image v.image old (λ i b k e. same b (mapped-used l i b (omega (arith, many, k)) k e)) in
      ap (λ (x : List ℕ). assembled c unit (take (held_count c unit slot) x)) b ∙ ap (assembled c unit) (held-old inside many s n)
