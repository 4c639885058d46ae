-- Laws of a range of units that is looked up and checked.
-- Assumes nothing.
use mathlib.Core.Path.{◌≡◌, refl, sym, ap, ◌∙◌}
use mathlib.Core.List.{List, ◌++◌, map}
use mathlib.Core.Option.{Option}
use Prim.Native.Nat.{ℕ, ◌+◌, ◌-◌, ◌*◌, ◌/◌, ◌%◌, ◌≤◌}
use native.Mathlib.Omega.{arith}
use lib.ListN.{length, drop, length-map}
use Rattle.rules.specs.Lists.{range, begun}
use Rattle.rules.specs.Sizes.{block_bytes, unit_blocks, unit_bytes}
use Rattle.rules.specs.Bytes.{part}
use Rattle.rules.specs.Extent.{mapping}
use Rattle.rules.specs.Group.{group_bytes, decode_group}
use Rattle.rules.specs.Book.{decode_book}
use Rattle.rules.specs.Read.{Checked}
use Rattle.rules.specs.Read.Checked.{failed, bytes}
use Rattle.rules.proofs.ListLaws.{length-range}
use Rattle.mapping.specs.Entries.{entry_of, entries, Inside, extents_in, slot_of}
use Rattle.mapping.proofs.EntryLaws.{mapped-inside}
use Rattle.rules.specs.Answers.{checked_number}
use Rattle.inspect.specs.Mapped.{check_mapped}
use Rattle.inspect.proofs.InspectLaws.{check-zero}
use Rattle.image.specs.Blocks.{blocks_bytes}
use Rattle.read.specs.Range.{Readable, checked_range}
use Rattle.read.specs.Gives.{gives, gives_checked, checked_units}
use Rattle.read.proofs.HandedLaws.{handed_out}

-- the blocks that were looked up lie in the image
pub range_inside : (image extents groups : List ℕ) (e g : ℕ) → Readable image extents groups e g → (object first m : ℕ) (blocks : List ℕ)
    → entries blocks ≡ map (mapping (extents_in e extents) object) (range first m) → Inside image blocks
range_inside image extents groups e g r object first m blocks q =
    mapped-inside (length image / block_bytes) e object first m extents blocks image r.right q (omega arith)

-- units checked with what was looked up
pub range-checked : (image uuid extents groups blocks : List ℕ) (e g object size first k m j r : ℕ) → m ≡ k * unit_blocks → j ≡ k
    → entries blocks ≡ map (mapping (extents_in e extents) object) (range (first * unit_blocks) m)
    → r ≡ checked_number (check_mapped image uuid object size first (map (slot_of (decode_book decode_group group_bytes g groups) object) (range first j)) (entries blocks))
    → (r ≡ checked_number (checked_range image uuid extents groups e g object size first k))
    × (entries blocks ≡ map (mapping (extents_in e extents) object) (range (first * unit_blocks) (k * unit_blocks)))
unfolding checked_range
range-checked image uuid extents groups blocks e g object size first k m j r a b q h =
    let f : entries blocks ≡ map (mapping (extents_in e extents) object) (range (first * unit_blocks) (k * unit_blocks)) = rw a at q in
    (h ∙ rw (b, f) refl, f)

-- ---- what a read gives

module _ (image uuid extents groups : List ℕ) (e g object size offset n k : ℕ) (u : k ≡ begun (offset + n) unit_bytes - offset / unit_bytes) (out : List ℕ) where
  -- the range is that of the units that the read touches
  units-are : checked_range image uuid extents groups e g object size (offset / unit_bytes) k ≡ checked_units image uuid extents groups e g object size offset n
  unfolding checked_units
  units-are = ap (checked_range image uuid extents groups e g object size (offset / unit_bytes)) u

  module _ (r : ℕ) (q : r ≡ checked_number (checked_range image uuid extents groups e g object size (offset / unit_bytes) k)) where
    -- a read that is refused
    pub range-refused : (r ≡ 0 → ⊥) → gives r 0 out ≡ gives_checked (offset % unit_bytes) n out (checked_units image uuid extents groups e g object size offset n)
    range-refused z = go (checked_units image uuid extents groups e g object size offset n) (q ∙ ap checked_number units-are)
      where
        go : (c : Checked) → r ≡ checked_number c → gives r 0 out ≡ gives_checked (offset % unit_bytes) n out c
        go (failed f) h = unfold checked_number gives_checked in ap (λ (m : ℕ). gives m 0 out) h
        go (bytes xs) h = absurd (z (unfold checked_number in h))

    -- one whose bytes were handed out of the blocks that were looked up
    pub range-done : r ≡ 0 → Readable image extents groups e g → offset + n ≤ size → (blocks filled : List ℕ)
        → entries blocks ≡ map (mapping (extents_in e extents) object) (range (offset / unit_bytes * unit_blocks) (k * unit_blocks))
        → filled ≡ part (offset % unit_bytes) n (blocks_bytes image (entries blocks)) ++ drop n out
        → gives 0 n filled ≡ gives_checked (offset % unit_bytes) n out (checked_units image uuid extents groups e g object size offset n)
    unfolding checked_range gives_checked entries
    range-done z d l blocks filled m h =
        let first : ℕ = offset / unit_bytes in
        let a : ℕ = offset % unit_bytes in
        let slots : List (Option ℕ) = map (slot_of (decode_book decode_group group_bytes g groups) object) (range first k) in
        let x = check-zero (checked_range image uuid extents groups e g object size first k) (sym q ∙ z) in
        let c : check_mapped image uuid object size first slots (entries blocks) ≡ bytes x.0 = rw m x.1 in
        let w : Inside image blocks = range_inside image extents groups e g d object (first * unit_blocks) (k * unit_blocks) blocks m in
        let i : length blocks ≡ k * unit_blocks =
        sym (length-map blocks entry_of) ∙ ap length m ∙ length-map (range (first * unit_blocks) (k * unit_blocks)) (mapping (extents_in e extents) object) ∙ length-range (first * unit_blocks) (k * unit_blocks) in
        let j : length slots ≡ k = length-map (range first k) (slot_of (decode_book decode_group group_bytes g groups) object) ∙ length-range first k in
        let y : part a n x.0 ≡ part a n (blocks_bytes image (entries blocks)) = handed_out image uuid object size first slots blocks x.0 a n w (omega (arith, i, j)) (omega (arith, l)) (omega (arith, u, j)) c in
        ap (gives 0 n) (h ∙ ap (λ (ys : List ℕ). ys ++ drop n out) (sym y)) ∙ sym (ap (gives_checked a n out) (sym units-are ∙ x.1))
