-- The units of a read checked at once, or each by itself: the same number refuses them.
-- Assumes nothing.
use mathlib.Core.Path.{◌≡◌, refl, sym, ap, ◌∙◌}
use mathlib.Core.List.{List, [], ◌∷◌, ◌++◌, map}
use mathlib.Core.Option.{Option}
use Prim.Native.Nat.{ℕ, zero, suc, ◌+◌, ◌*◌}
use native.Mathlib.Omega.{arith}
use lib.Dec.{eqb}
use lib.ListN.{take, drop}
use lib.Seq.{take_at, drop_at}
use borrow.Author.Tests.{ne_eqb}
use Rattle.rules.specs.Lists.{pick◌then◌else◌, range}
use Rattle.rules.specs.Sizes.{unit_blocks}
use Rattle.rules.specs.Extent.{mapping}
use Rattle.rules.specs.Group.{group_bytes, decode_group}
use Rattle.rules.specs.Book.{decode_book}
use Rattle.rules.specs.Refusal.{number_of}
use Rattle.rules.specs.Units.{valid_length}
use Rattle.rules.specs.Inspect.{Inspected}
use Rattle.rules.specs.Inspect.Inspected.{damaged, hole, checked}
use Rattle.rules.specs.Read.{Checked, follow, then_units}
use Rattle.rules.specs.Read.Checked.{failed, bytes}
use Rattle.rules.specs.Answers.{inspected_number, checked_number}
use Rattle.rules.proofs.Refused.{numbered}
use Rattle.rules.proofs.ListLaws.{if-false, length-range, range-add}
use Rattle.mapping.specs.Entries.{extents_in, slot_of}
use Rattle.inspect.specs.Mapped.{inspect_mapped, check_mapped}
use Rattle.inspect.proofs.BlockLaws.{take-map, drop-map}
use Rattle.read.specs.Range.{checked_range}
use Rattle.read_checks.specs.Reads.{first_number}

-- a unit's number, or that of the units behind it
then-number : (valid : ℕ) (x : Inspected) (rest : Checked) → checked_number (then_units valid x rest) ≡ (pick eqb (inspected_number x) 0 then checked_number rest else inspected_number x)
unfolding then_units checked_number inspected_number
then-number valid (damaged r) rest = sym (if-false (eqb (number_of r) 0) (checked_number rest) (number_of r) (ne_eqb (number_of r) 0 (λ e. absurd (omega (arith, e, (numbered r).least)))))
then-number valid hole (failed r) = unfold follow pick◌then◌else◌ in refl
then-number valid hole (bytes xs) = unfold follow pick◌then◌else◌ in refl
then-number valid (checked ys) (failed r) = unfold follow pick◌then◌else◌ in refl
then-number valid (checked ys) (bytes xs) = unfold follow pick◌then◌else◌ in refl

-- of a unit with none behind it
last-number : (valid : ℕ) (x : Inspected) → checked_number (then_units valid x (bytes [])) ≡ inspected_number x
unfolding then_units checked_number inspected_number
last-number valid (damaged r) = refl
last-number valid hole = unfold follow in refl
last-number valid (checked ys) = unfold follow in refl

module _ (image uuid extents groups : List ℕ) (e g object size : ℕ) where
  -- a unit, looked up
  looked : ℕ → Inspected
  looked unit = inspect_mapped image uuid object size unit (map (mapping (extents_in e extents) object) (range (unit * unit_blocks) unit_blocks)) (slot_of (decode_book decode_group group_bytes g groups) object unit)

  -- the first unit, and the others
  range-then : (n first : ℕ) → checked_range image uuid extents groups e g object size first (suc n)
      ≡ then_units (valid_length size first) (looked first) (checked_range image uuid extents groups e g object size (suc first) n)
  unfolding checked_range check_mapped looked
  range-then n first =
      let f : ℕ → Option ℕ = mapping (extents_in e extents) object in
      let s : ℕ → Option ℕ = slot_of (decode_book decode_group group_bytes g groups) object in
      let a : suc n * unit_blocks ≡ unit_blocks + n * unit_blocks = omega arith in
      let d : first * unit_blocks + unit_blocks ≡ suc first * unit_blocks = omega arith in
      let j : range (first * unit_blocks) (unit_blocks + n * unit_blocks) ≡ range (first * unit_blocks) unit_blocks ++ range (first * unit_blocks + unit_blocks) (n * unit_blocks) = range-add (first * unit_blocks) unit_blocks (n * unit_blocks) in
      let t : take unit_blocks (map f (range (first * unit_blocks) (unit_blocks + n * unit_blocks))) ≡ map f (range (first * unit_blocks) unit_blocks) =
      take-map f unit_blocks (range (first * unit_blocks) (unit_blocks + n * unit_blocks)) ∙ ap (map f) (ap (take unit_blocks) j ∙ take_at (range (first * unit_blocks) unit_blocks) (range (first * unit_blocks + unit_blocks) (n * unit_blocks)) unit_blocks (length-range (first * unit_blocks) unit_blocks)) in
      let b : drop unit_blocks (map f (range (first * unit_blocks) (unit_blocks + n * unit_blocks))) ≡ map f (range (suc first * unit_blocks) (n * unit_blocks)) =
      drop-map f unit_blocks (range (first * unit_blocks) (unit_blocks + n * unit_blocks)) ∙ ap (map f) (ap (drop unit_blocks) j ∙ drop_at (range (first * unit_blocks) unit_blocks) (range (first * unit_blocks + unit_blocks) (n * unit_blocks)) unit_blocks (length-range (first * unit_blocks) unit_blocks) ∙ ap (λ (m : ℕ). range m (n * unit_blocks)) d) in
      let c : range first (suc n) ≡ first ∷ range (suc first) n = unfold range in refl in
      rw (c, a, t, b) refl

  -- the number of one unit
  one_number : (first : ℕ) → checked_number (checked_range image uuid extents groups e g object size first 1) ≡ inspected_number (looked first)
  one_number first =
      let z : checked_range image uuid extents groups e g object size (suc first) 0 ≡ bytes [] = unfold checked_range check_mapped range in refl in
      ap checked_number (range-then 0 first ∙ ap (then_units (valid_length size first) (looked first)) z) ∙ last-number (valid_length size first) (looked first)

  -- the number of units one after another is the first number of theirs
  pub range-numbers : (n first : ℕ) → checked_number (checked_range image uuid extents groups e g object size first n)
      ≡ first_number (λ u. checked_number (checked_range image uuid extents groups e g object size u 1)) (range first n)
  range-numbers zero first = unfold checked_range check_mapped range first_number checked_number in refl
  range-numbers (suc n) first =
      ap checked_number (range-then n first)
      ∙ then-number (valid_length size first) (looked first) (checked_range image uuid extents groups e g object size (suc first) n)
      ∙ joined (one_number first) (range-numbers n (suc first))
    where
      joined : checked_number (checked_range image uuid extents groups e g object size first 1) ≡ inspected_number (looked first)
          → checked_number (checked_range image uuid extents groups e g object size (suc first) n) ≡ first_number (λ u. checked_number (checked_range image uuid extents groups e g object size u 1)) (range (suc first) n)
          → (pick eqb (inspected_number (looked first)) 0 then checked_number (checked_range image uuid extents groups e g object size (suc first) n) else inspected_number (looked first))
          ≡ first_number (λ u. checked_number (checked_range image uuid extents groups e g object size u 1)) (range first (suc n))
      joined o h = unfold range first_number in rw (sym o, h) refl
