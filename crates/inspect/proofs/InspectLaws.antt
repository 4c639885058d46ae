-- What callers of `inspect_unit` and `check_units` use: the rules' tests of a volume's units are those of looked-up slots and blocks, and what each answer says.
-- Assumes nothing.
use mathlib.Core.Path.{◌≡◌, refl, sym, ap, ◌∙◌}
use mathlib.Core.Bool.{Bool, true, false, not, false≢true}
use mathlib.Core.Option.{Option, none, some}
use mathlib.Core.List.{List, map}
use Prim.Native.Nat.{ℕ, zero, suc, ◌+◌, ◌-◌, ◌*◌, ◌<◌}
use native.Mathlib.Decide.{dec_lt}
use native.Mathlib.Omega.{arith}
use lib.Dec.{eqb}
use lib.ListN.{length, take, drop, get_or, get_or-eq_default}
use lib.Seq.{take_at, drop_at}
use borrow.Author.Tests.{eqb-true}
use Rattle.rules.specs.Lists.{pick◌then◌else◌, maybe, given, range, all, any, begun}
use Rattle.rules.specs.Sizes.{block_bytes, unit_blocks}
use Rattle.rules.specs.Bytes.{all_zero}
use Rattle.rules.specs.Checksum.{unit_checksum}
use Rattle.rules.specs.Extent.{mapping}
use Rattle.rules.specs.Store.{Volume}
use Rattle.rules.specs.Refusal.{Refusal, number_of}
use Rattle.rules.specs.Refusal.Refusal.{no_checksum, not_backed, nonzero_past_end, checksum_differs}
use Rattle.rules.specs.Units.{valid_length}
use Rattle.rules.specs.Inspect.{checksum_of, backed_under, unit_mapping, valid_mapping, backed_bytes, valid_bytes, fully_backed, zero_past_end, checksum_right, inspect_slot, inspect_unit}
use Rattle.rules.specs.Inspect.Inspected.{damaged, hole, checked}
use Rattle.rules.specs.Read as read
use Rattle.rules.specs.Read.{check_units}
use Rattle.rules.specs.Read.Checked.{failed, bytes}
use Rattle.rules.proofs.ListLaws.{none-at, length-range, range-add}
use Rattle.rules.proofs.PassLaws.{Lawful}
use Rattle.rules.proofs.Refused.{numbered}
use Rattle.history.proofs.Rewritten.{apart-lawful}
use Rattle.history.proofs.BackedLaws.{backed-mapping}
use Rattle.history.proofs.UnitLaws.{valid-blocks}
use Rattle.inspect.specs.Mapped.{bytes_at, valid_blocks, valid_of, slot_mapped, inspect_mapped, check_mapped}
use Rattle.rules.specs.Answers.{checked_number}
use Rattle.inspect.proofs.BlockLaws.{take-map, drop-map, not-false}

-- ---- the units of a volume

-- the first of the numbers from one on
take_range : (first n m : ℕ) → take n (range first (n + m)) ≡ range first n
take_range first n m = ap (take n) (range-add first n m) ∙ take_at (range first n) (range (first + n) m) n (length-range first n)

-- and the others
drop-range : (first n m : ℕ) → drop n (range first (n + m)) ≡ range (first + n) m
drop-range first n m = ap (drop n) (range-add first n m) ∙ drop_at (range first n) (range (first + n) m) n (length-range first n)

module _ (v : Volume) (object size : ℕ) where
  -- the blocks that hold a unit's valid bytes are the first of the unit's
  valid-mapping : (unit : ℕ) → valid_mapping v object size unit ≡ valid_blocks v.image v.uuid object size unit (unit_mapping v object unit unit_blocks)
  unfolding valid_mapping unit_mapping valid_blocks
  valid-mapping unit =
      let n : ℕ = begun (valid_length size unit) block_bytes in
      let e : unit_blocks ≡ n + (unit_blocks - n) = omega (arith, valid-blocks size unit) in
      sym (take-map (mapping v.books.extents object) n (range (unit * unit_blocks) unit_blocks)
      ∙ ap (map (mapping v.books.extents object)) (ap (λ (m : ℕ). take n (range (unit * unit_blocks) m)) e ∙ take_range (unit * unit_blocks) n (unit_blocks - n)))

  -- so the tests of a unit with a slot are the same
  slot-mapped : (unit crc : ℕ) → inspect_slot v object size unit crc ≡ slot_mapped v.image v.uuid object size unit (unit_mapping v object unit unit_blocks) crc
  unfolding inspect_slot slot_mapped fully_backed zero_past_end checksum_right valid_bytes backed_bytes valid_of bytes_at
  slot-mapped unit crc = rw (valid-mapping unit) refl

  -- and of every unit
  pub inspect-mapped : Lawful v → (unit : ℕ)
      → inspect_unit v object size unit ≡ inspect_mapped v.image v.uuid object size unit (unit_mapping v object unit unit_blocks) (checksum_of v object unit)
  unfolding inspect_unit inspect_mapped
  inspect-mapped l unit = go (checksum_of v object unit)
    where
      go : (slot : Option ℕ) → maybe (pick backed_under v object unit then damaged no_checksum else hole) (inspect_slot v object size unit) slot
          ≡ maybe (pick any given (unit_mapping v object unit unit_blocks) then damaged no_checksum else hole) (slot_mapped v.image v.uuid object size unit (unit_mapping v object unit unit_blocks)) slot
      go none = unfold maybe in rw (backed-mapping v object unit (apart-lawful v l)) refl
      go (some crc) = unfold maybe in slot-mapped unit crc

  -- units one after another
  pub check-mapped : Lawful v → (n first : ℕ)
      → check_units v object size (range first n)
      ≡ check_mapped v.image v.uuid object size first (map (checksum_of v object) (range first n)) (map (mapping v.books.extents object) (range (first * unit_blocks) (n * unit_blocks)))
  unfolding check_units check_mapped range unit_mapping
  check-mapped l zero first = refl
  check-mapped l (suc n) first =
      let f : ℕ → Option ℕ = mapping v.books.extents object in
      let e : suc n * unit_blocks ≡ unit_blocks + n * unit_blocks = omega arith in
      let d : first * unit_blocks + unit_blocks ≡ suc first * unit_blocks = omega arith in
      let a : take unit_blocks (map f (range (first * unit_blocks) (unit_blocks + n * unit_blocks))) ≡ unit_mapping v object first unit_blocks =
      take-map f unit_blocks (range (first * unit_blocks) (unit_blocks + n * unit_blocks)) ∙ ap (map f) (take_range (first * unit_blocks) unit_blocks (n * unit_blocks)) in
      let b : drop unit_blocks (map f (range (first * unit_blocks) (unit_blocks + n * unit_blocks))) ≡ map f (range (suc first * unit_blocks) (n * unit_blocks)) =
      drop-map f unit_blocks (range (first * unit_blocks) (unit_blocks + n * unit_blocks)) ∙ ap (map f) (drop-range (first * unit_blocks) unit_blocks (n * unit_blocks) ∙ ap (λ (m : ℕ). range m (n * unit_blocks)) d) in
      rw (e, a, b, inspect-mapped l first, check-mapped l n (suc first)) refl

-- ---- what it says of a unit that it is a hole, or checked

-- none of a list is given: nothing stands at any place of it
none-given : (mapped : List (Option ℕ)) → any given mapped ≡ false → (i : ℕ) → get_or mapped i none ≡ none
unfolding given
none-given mapped t i = go (dec_lt i (length mapped))
  where
    absent : (o : Option ℕ) → given o ≡ false → o ≡ none
    absent none e = refl
    absent (some p) e = absurd (false≢true (sym e))

    go : Dec (i < length mapped) → get_or mapped i none ≡ none
    go (yes l) = absent (get_or mapped i none) (none-at given mapped t i none l)
    go (no l) = get_or-eq_default mapped none {n = i} (omega arith)

-- a unit with its slot and its sixteen blocks
module _ (image uuid : List ℕ) (object size unit : ℕ) (mapped : List (Option ℕ)) (slot : Option ℕ) where
  -- it is checked: its blocks are there, zeros follow its valid bytes, and its slot has their checksum
  pub record IsChecked : Type 0 where
    pub found : inspect_mapped image uuid object size unit mapped slot ≡ checked (valid_of image uuid object size unit mapped)
    pub backed : all given (valid_blocks image uuid object size unit mapped) ≡ true
    pub zeros : all_zero (drop (valid_length size unit) (bytes_at image (valid_blocks image uuid object size unit mapped))) ≡ true
    pub slotted : slot ≡ some (unit_checksum uuid object unit (valid_of image uuid object size unit mapped))

  -- it is a hole: it has no slot, and none of its blocks is there
  pub record IsHole : Type 0 where
    pub found : inspect_mapped image uuid object size unit mapped slot ≡ hole
    pub unslotted : slot ≡ none
    pub unmapped : (i : ℕ) → get_or mapped i none ≡ none

module _ (image uuid : List ℕ) (object size unit : ℕ) (mapped : List (Option ℕ)) where
  -- a unit with a slot is no hole: three tests in a row give none
  not-hole : (a b c : Bool) (p q r : Refusal) (xs : List ℕ) → (pick a then damaged p else pick b then damaged q else pick c then damaged r else checked xs) ≡ hole → ⊥
  unfolding pick◌then◌else◌
  not-hole true b c p q r xs h = cc
  not-hole false true c p q r xs h = cc
  not-hole false false true p q r xs h = cc
  not-hole false false false p q r xs h = cc

  -- three tests in a row, none of which refused
  none-refused : (a b c : Bool) (p q r : Refusal) (xs ys : List ℕ) → (pick a then damaged p else pick b then damaged q else pick c then damaged r else checked xs) ≡ checked ys
      → (a ≡ false) × (b ≡ false) × (c ≡ false) × (ys ≡ xs)
  unfolding pick◌then◌else◌
  none-refused true b c p q r xs ys h = absurd (cc)
  none-refused false true c p q r xs ys h = absurd (cc)
  none-refused false false true p q r xs ys h = absurd (cc)
  none-refused false false false p q r xs ys h = (refl, refl, refl, cc)

  -- the tests of refusals 11 and 12
  abbrev nonzero : Bool
  nonzero = not (all_zero (drop (valid_length size unit) (bytes_at image (valid_blocks image uuid object size unit mapped))))

  abbrev differs : ℕ → Bool
  differs crc = not (eqb crc (unit_checksum uuid object unit (valid_of image uuid object size unit mapped)))

  -- a unit that is checked: what its blocks, its bytes and its slot are
  pub answer-checked : (slot : Option ℕ) (xs : List ℕ) → inspect_mapped image uuid object size unit mapped slot ≡ checked xs
      → IsChecked image uuid object size unit mapped slot × (xs ≡ valid_of image uuid object size unit mapped)
  unfolding inspect_mapped slot_mapped maybe pick◌then◌else◌
  answer-checked none xs h = absurd (go (any given mapped) h)
    where
      go : (b : Bool) → (pick b then damaged no_checksum else hole) ≡ checked xs → ⊥
      go true e = cc
      go false e = cc
  answer-checked (some crc) xs h =
      let a : Bool = all given (valid_blocks image uuid object size unit mapped) in
      let b : Bool = all_zero (drop (valid_length size unit) (bytes_at image (valid_blocks image uuid object size unit mapped))) in
      let x : ℕ = unit_checksum uuid object unit (valid_of image uuid object size unit mapped) in
      let t = none-refused (not a) nonzero (differs crc) not_backed nonzero_past_end checksum_differs (valid_of image uuid object size unit mapped) xs h in (
        record {
          found = rw (t.0, t.1, t.2) refl;
          backed = not-false a t.0;
          zeros = not-false b t.1;
          slotted = ap some (eqb-true crc x (not-false (eqb crc x) t.2));
        },
        t.3,
      )

  -- the blocks of a unit that is checked are there, and it has their valid bytes
  pub checked-backed : (slot : Option ℕ) (xs : List ℕ) → inspect_mapped image uuid object size unit mapped slot ≡ checked xs
      → (all given (valid_blocks image uuid object size unit mapped) ≡ true) × (xs ≡ valid_of image uuid object size unit mapped)
  checked-backed slot xs h =
      let t = answer-checked slot xs h in
      (t.0.backed, t.1)

  -- a hole: it has no slot, and none of its blocks is there
  pub answer-hole : (slot : Option ℕ) → inspect_mapped image uuid object size unit mapped slot ≡ hole → IsHole image uuid object size unit mapped slot
  unfolding inspect_mapped slot_mapped maybe pick◌then◌else◌
  answer-hole none h =
      let t : any given mapped ≡ false = go (any given mapped) h in
      record { found = h; unslotted = refl; unmapped = none-given mapped t }
    where
      go : (b : Bool) → (pick b then damaged no_checksum else hole) ≡ hole → b ≡ false
      go true e = absurd (cc)
      go false e = refl
  answer-hole (some crc) h =
      absurd (not-hole (not (all given (valid_blocks image uuid object size unit mapped))) nonzero (differs crc) not_backed nonzero_past_end checksum_differs (valid_of image uuid object size unit mapped) h)

  -- none of the blocks of a hole is there
  pub hole-unmapped : (slot : Option ℕ) → inspect_mapped image uuid object size unit mapped slot ≡ hole → (i : ℕ) → get_or mapped i none ≡ none
  hole-unmapped slot h = (answer-hole slot h).unmapped

-- units one after another, none of which was refused
pub check-zero : (x : read.Checked) → checked_number x ≡ 0 → (xs : List ℕ) × (x ≡ bytes xs)
unfolding checked_number
check-zero (failed r) e = absurd (omega (arith, (numbered r).least))
check-zero (bytes xs) e = (xs, refl)

-- one that was refused: its number is a refusal's
pub check-refused : (x : read.Checked) → (checked_number x ≡ 0 → ⊥) → (r : Refusal) × (x ≡ failed r) × (checked_number x ≡ number_of r)
unfolding checked_number
check-refused (failed r) d = (r, refl, refl)
check-refused (bytes xs) d = absurd (d refl)
