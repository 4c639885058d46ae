-- Laws of the slots of one group: the next that is present, or is not, told of its presence bits, and of the units.
-- Assumes nothing.
use mathlib.Core.Path.{◌≡◌, refl, sym, ap, ◌∙◌}
use mathlib.Core.Bool.{Bool, not, ◌&&◌}
use mathlib.Core.List.{List}
use Prim.Native.Nat.{ℕ, ◌+◌, ◌-◌, ◌*◌, ◌/◌, ◌%◌, ◌≤◌, ◌<◌}
use native.Mathlib.Omega.{arith}
use lib.Dec.{eqb, ltb}
use lib.ListN.{take, drop}
use borrow.Author.Tests.{le-ltb, lt-ltb, eq-eqb, ne_eqb}
use Rattle.rules.specs.Lists.{given}
use Rattle.rules.specs.Sizes.{group_units}
use Rattle.rules.specs.Bytes.{part, bit_set}
use Rattle.rules.specs.Group.{group_bytes, decode_group, checksum_slot}
use Rattle.rules.specs.Stretches.{most_number}
use Rattle.rules.proofs.ListLaws.{if-true, if-false}
use Rattle.bitmap.specs.Map.{Next}
use Rattle.checksum_group.specs.Slots.{values_at}
use Rattle.checksum_group.proofs.SlotLaws.{given-slots, group-read, length-values_at}
use Rattle.book.specs.Places.{record_at}
use Rattle.presence.specs.Units.{NextOf, number_at}

-- a slot is present where its bit is set
present-bit : (s : List ℕ) (at j : ℕ) → j < 256 → given (checksum_slot (decode_group (part at group_bytes s)) j) ≡ bit_set (part (at + 17) 32 s) j
unfolding checksum_slot
present-bit s at j l =
    rw (← group-read s (part (at + 17) 32 s) (values_at s (at + 49)) at refl refl)
    (given-slots (part (at + 17) 32 s) (values_at s (at + 49)) j (length-values_at s (at + 49)) l)

-- so the next slot is at the next bit
pub slot_next : (s : List ℕ) (at k r : ℕ) (b v : Bool) → b ≡ v → Next (take (at + 49 - (at + 17)) (drop (at + 17) s)) v k 256 r
    → NextOf (λ j. given (checksum_slot (decode_group (part at group_bytes s)) j)) b k group_units r
unfolding part
slot_next s at k r b v q h = record {
  least = h.least;
  most = h.most;
  before = λ j l m. present-bit s at j (omega (arith, m, h.most)) ∙ ap (λ (x : List ℕ). bit_set x j) (sym bits) ∙ h.before j l m ∙ ap not (sym q);
  found = λ l. present-bit s at r l ∙ ap (λ (x : List ℕ). bit_set x r) (sym bits) ∙ h.found l ∙ sym q;
}
  where
    bits : take (at + 49 - (at + 17)) (drop (at + 17) s) ≡ part (at + 17) 32 s
    bits = let w : at + 49 - (at + 17) ≡ 32 = omega arith in ap (λ (x : ℕ). take x (drop (at + 17) s)) w

-- and the next unit of the group at a place at the next slot
pub unit-next : (s : List ℕ) (place : ℕ) (b : Bool) (unit k : ℕ) → NextOf (λ j. given (checksum_slot (decode_group (part (1073 * place) group_bytes s)) j)) b (unit % group_units) group_units k
    → NextOf (λ u. given (checksum_slot (record_at decode_group group_bytes s place) (u % group_units))) b unit (unit / group_units * group_units + group_units) (unit - unit % group_units + k)
unfolding record_at
unit-next s place b unit k h = record {
  least = omega (arith, h.least);
  most = omega (arith, h.most);
  before = λ u l m. h.before (u % group_units) (omega (arith, l, m, h.most)) (omega (arith, l, m, h.most));
  found = λ l. let e : (unit - unit % group_units + k) % group_units ≡ k = omega (arith, l) in
      ap (λ (j : ℕ). given (checksum_slot (decode_group (part (1073 * place) group_bytes s)) j)) e ∙ h.found (omega (arith, l));
}

-- ---- the number of the group at a place

module _ (n : ℕ) (s : List ℕ) (object place : ℕ) where
  -- none, past the last
  pub number_past : n ≤ place → most_number ≡ number_at n s object place
  unfolding number_at
  number_past l = sym (if-false (ltb place n && eqb (record_at decode_group group_bytes s place).object object) (record_at decode_group group_bytes s place).number most_number (rw (le-ltb place n l) refl))

  -- none, of another object
  pub number-other : (o : ℕ) → o ≡ (decode_group (part (1073 * place) group_bytes s)).object → place < n → (o ≡ object → ⊥) → most_number ≡ number_at n s object place
  unfolding number_at record_at
  number-other o e l d = sym (if-false (ltb place n && eqb (record_at decode_group group_bytes s place).object object) (record_at decode_group group_bytes s place).number most_number
      (rw (lt-ltb place n l) (ne_eqb (record_at decode_group group_bytes s place).object object (λ q. d (e ∙ q)))))

  -- the group's
  pub number-here : (o m : ℕ) → o ≡ (decode_group (part (1073 * place) group_bytes s)).object → place < n → o ≡ object → m ≡ (decode_group (part (1073 * place) group_bytes s)).number → m ≡ number_at n s object place
  unfolding number_at record_at
  number-here o m e l d q = q ∙ sym (if-true (ltb place n && eqb (record_at decode_group group_bytes s place).object object) (record_at decode_group group_bytes s place).number most_number
      (rw (lt-ltb place n l) (eq-eqb (record_at decode_group group_bytes s place).object object (sym e ∙ d))))
