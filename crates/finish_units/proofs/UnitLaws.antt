-- One rewritten unit: how many old bytes it is put together from, what the assembled unit is, and which bytes are taken.
-- Assumes nothing.
use mathlib.Core.Path.{◌≡◌, refl, sym, ap, ◌∙◌}
use mathlib.Core.Bool.{Bool, true, false, not, ◌&&◌, and-false, false≢true}
use mathlib.Core.List.{List, []}
use Prim.Native.Nat.{ℕ, ◌+◌, ◌-◌, ◌*◌, ◌≤◌, ◌<◌}
use native.Mathlib.Omega.{arith}
use lib.Dec.{eqb, leb}
use lib.ListN.{length, take, drop, replicate, length-take, length-replicate}
use borrow.Author.Tests.{eq-eqb, ne_eqb, leb-true, not-false}
use Rattle.rules.specs.Lists.{pick◌then◌else◌}
use Rattle.rules.specs.Checksum.{unit_checksum}
use Rattle.rules.specs.Bytes.{part, patch, padded}
use Rattle.rules.specs.Units.{Change, change_end, reads_old, touches, valid_length, written_from, written_to, written_part, assembled}
use Rattle.rules.specs.Finish.{write_new}
use Rattle.rules.proofs.ListLaws.{if-true, if-false, if-cases, and_left, and_right}
use Rattle.rules.proofs.ByteLaws.{patch-none}
use Rattle.history.proofs.MoreBytes.{length-part-min}
use Rattle.mapping.specs.Entries.{entries}
use Rattle.kept.specs.Change.{IsChange, ChangeFits, covers_new}
use Rattle.kept.specs.Placed.{Placed}
use Rattle.kept.specs.declared.tests.Part.{Part}
use Rattle.kept.proofs.PartLaws.{part-fits, covered-from, covered-count, assembled-covered}
use Rattle.image.specs.Blocks.{blocks_bytes}
use Rattle.finish_units.specs.Units.{held_count, new_bytes, UnitWritten}

-- ---- the old bytes

module _ (c : Change) (unit slot : ℕ) where
  -- a unit without a checksum holds none
  pub held-hole : slot ≡ 0 → 0 ≡ held_count c unit slot
  unfolding held_count pick◌then◌else◌
  held-hole e = rw (eq-eqb slot 0 e) refl

  -- nor does one whose old bytes are not read
  pub held-unread : (b : Bool) → b ≡ reads_old c unit → not b ≡ true → 0 ≡ held_count c unit slot
  unfolding held_count
  held-unread true e n = absurd (false≢true n)
  held-unread false e n = sym (if-false (not (eqb slot 0) && reads_old c unit) (valid_length c.old_size unit) 0 (rw (← e) (and-false (not (eqb slot 0)))))

  -- one that was read holds all
  pub held_all : (b : Bool) (m before : ℕ) → (slot ≡ 0 → ⊥) → b ≡ reads_old c unit → not b ≡ false → m ≡ valid_length before unit → c.old_size ≡ before → m ≡ held_count c unit slot
  unfolding held_count
  held_all true m before z e n v o = v ∙ ap (λ (k : ℕ). valid_length k unit) (sym o) ∙ sym (if-true (not (eqb slot 0) && reads_old c unit) (valid_length c.old_size unit) 0 (rw (← e, ne_eqb slot 0 z) refl))
  held_all false m before z e n v o = absurd (false≢true (sym n))

  -- they are no more than the old valid length
  pub held-most : held_count c unit slot ≤ valid_length c.old_size unit
  unfolding held_count
  held-most = if-cases (λ (n : ℕ). n ≤ valid_length c.old_size unit) (not (eqb slot 0) && reads_old c unit) (valid_length c.old_size unit) 0 (λ e. omega arith) (λ e. omega arith)

-- ---- a change by its numbers

-- some change with these numbers
abbrev change : (before after start len : ℕ) → Change
change before after start len = record { object = 0; old_size = before; new_size = after; offset = start; bytes = replicate len 0 }

-- it has them
is-change : (before after start len : ℕ) → IsChange (change before after start len) before after start len
is-change before after start len = record { old = refl; new = refl; from = refl; written = length-replicate {A = ℕ} len 0 }

module _ (before after start len : ℕ) (fits : ChangeFits before after start len) where
  -- what a unit holds is no more than its new valid length
  pub held_fits : (unit slot n : ℕ) → ((c : Change) (after : ℕ) → IsChange c before after start len → n ≡ held_count c unit slot) → n ≤ valid_length after unit
  unfolding valid_length
  held_fits unit slot n h =
      omega (arith, h (change before after start len) after (is-change before after start len), held-most (change before after start len) unit slot, fits.grows)

  -- the caller's part of a touched unit stands in its new bytes
  pub part-within : (unit : ℕ) (p : Part) (b : Bool) → ((c : Change) (before after : ℕ) → IsChange c before after start len → b ≡ touches c unit) → not b ≡ false
      → ((c : Change) (before after : ℕ) → IsChange c before after start len → Placed c unit p) → p.at + p.count ≤ valid_length after unit
  part-within unit p b t n h =
      let c : Change = change before after start len in
      let is : IsChange c before after start len = is-change before after start len in
      let q : Placed c unit p = h c before after is in
      let y : touches c unit ≡ true = sym (t c before after is) ∙ not-false b n in
      let ends : change_end c ≤ after = unfold change_end in omega (arith, fits.inside, is.written) in
      let f : written_from c unit - unit * 65536 + (written_to c unit - written_from c unit) ≤ valid_length after unit = part-fits c unit ends y in
      rw (q.at', q.count) f

-- ---- the assembled unit

module _ (c : Change) (image : List ℕ) (unit slot : ℕ) (old : List ℕ) where
  -- a unit that is not touched
  pub assembled-apart : (s : List ℕ) (b : Bool) (m n after : ℕ) (w : List ℕ) → c.new_size ≡ after → b ≡ touches c unit → not b ≡ true → m ≡ held_count c unit slot → n ≡ valid_length after unit
      → w ≡ [] → take n s ≡ patch (padded n (take m (blocks_bytes image (entries old)))) 0 w → take (valid_length after unit) s ≡ new_bytes c image unit slot old
  unfolding new_bytes assembled
  assembled-apart s true m n after w o e t p q z h = absurd (false≢true t)
  assembled-apart s false m n after w o e t p q z h =
      let a : List ℕ = padded n (take m (blocks_bytes image (entries old))) in
      let g : take n s ≡ a = h ∙ ap (patch a 0) z ∙ patch-none a 0 in
      let r : n ≡ valid_length c.new_size unit = q ∙ ap (λ (k : ℕ). valid_length k unit) (sym o) in
      rw (← q) (g ∙ rw (p, r) (sym (if-false (touches c unit) _ _ (sym e))))

  -- one that is
  pub assembled-touched : (s bytes : List ℕ) (b : Bool) (m n after : ℕ) (p : Part) → c.new_size ≡ after → c.bytes ≡ bytes → b ≡ touches c unit → not b ≡ false → m ≡ held_count c unit slot
      → n ≡ valid_length after unit → Placed c unit p
      → take n s ≡ patch (padded n (take m (blocks_bytes image (entries old)))) p.at (take (p.from + p.count - p.from) (drop p.from bytes))
      → take (valid_length after unit) s ≡ new_bytes c image unit slot old
  unfolding new_bytes assembled written_part part
  assembled-touched s bytes false m n after p o d e t i q h g = absurd (false≢true (sym t))
  assembled-touched s bytes true m n after p o d e t i q h g =
      let k : p.from + p.count - p.from ≡ p.count = omega arith in
      let r : n ≡ valid_length c.new_size unit = q ∙ ap (λ (k : ℕ). valid_length k unit) (sym o) in
      rw (← q) (g ∙ rw (k, h.from, h.count, h.at', ← d, i, r) (sym (if-true (touches c unit) _ _ (sym e))))

  -- its old bytes are no longer than its new valid length
  old-fits : (before after start len : ℕ) → IsChange c before after start len → ChangeFits before after start len → length (take (held_count c unit slot) (blocks_bytes image (entries old))) ≤ valid_length c.new_size unit
  old-fits before after start len is fits =
      let g : c.old_size ≤ c.new_size = rw (is.old, is.new) fits.grows in
      let l : valid_length c.old_size unit ≤ valid_length c.new_size unit = unfold valid_length in omega (arith, g) in
      rw length-take (omega (arith, held-most c unit slot, l))

  -- the bytes that are taken are the unit's new bytes
  pub taken-new : (before after start n : ℕ) (bytes s t : List ℕ) (b : Bool) (from : ℕ) → IsChange c before after start (length bytes) → ChangeFits before after start (length bytes)
      → unit * 65536 < after → c.bytes ≡ bytes → b ≡ covers_new c unit → n ≡ valid_length after unit → (b ≡ true → from ≡ unit * 65536 - start)
      → (b ≡ false → take (valid_length after unit) t ≡ new_bytes c image unit slot old) → s ≡ (pick b then part from n bytes else take n t) → s ≡ new_bytes c image unit slot old
  unfolding new_bytes written_part change_end pick◌then◌else◌
  taken-new before after start n bytes s t false from is fits l d e v f g h = h ∙ ap (λ (k : ℕ). take k t) v ∙ g refl
  taken-new before after start n bytes s t true from is fits l d e v f g h =
      let ends : change_end c ≤ c.new_size = rw (is.from, is.written, is.new) fits.inside in
      let begins : unit * 65536 < c.new_size = rw is.new l in
      let a : assembled c unit (take (held_count c unit slot) (blocks_bytes image (entries old))) ≡ written_part c unit =
      assembled-covered c unit ends begins (sym e) (take (held_count c unit slot) (blocks_bytes image (entries old))) (old-fits before after start (length bytes) is fits) in
      let x : written_from c unit - c.offset ≡ from = rw (covered-from c unit ends begins (sym e), is.from) (sym (f refl)) in
      let y : written_to c unit - written_from c unit ≡ n = covered-count c unit ends begins (sym e) ∙ rw is.new (sym v) in
      let w : written_part c unit ≡ part from n bytes = rw (x, y, d) refl in
      h ∙ sym w ∙ sym a

  -- so that the unit is written
  pub unit-written : (before after start n : ℕ) (bytes s t : List ℕ) (b : Bool) (from : ℕ) → IsChange c before after start (length bytes) → ChangeFits before after start (length bytes)
      → unit * 65536 < after → c.bytes ≡ bytes → b ≡ covers_new c unit → n ≡ valid_length after unit → (b ≡ true → (from ≡ unit * 65536 - start) × (from + valid_length after unit ≤ length bytes))
      → (b ≡ false → take (valid_length after unit) t ≡ new_bytes c image unit slot old) → s ≡ (pick b then part from n bytes else take n t)
      → (uuid : List ℕ) (object : ℕ) (kept blocks : List ℕ) (r : ℕ) (left : List ℕ) → r ≡ unit_checksum uuid object unit s → left ≡ write_new s 0 (entries kept) blocks image
      → UnitWritten c unit slot uuid object old kept blocks image r left
  unit-written before after start n bytes s t b from is fits l d e v f g h uuid object kept blocks r left x y =
      let q : s ≡ new_bytes c image unit slot old = taken-new before after start n bytes s t b from is fits l d e v (λ w. (f w).0) g h in
      record {
        checksum = x ∙ ap (unit_checksum uuid object unit) q;
        written = y ∙ ap (λ (w : List ℕ). write_new w 0 (entries kept) blocks image) q;
      }

-- they are no more than a unit has
pub taken-most : (b : Bool) (from n : ℕ) (bytes t s : List ℕ) → n ≤ 65536 → s ≡ (pick b then part from n bytes else take n t) → length s ≤ 65536
taken-most b from n bytes t s l e =
    rw e (if-cases (λ (w : List ℕ). length w ≤ 65536) b (part from n bytes) (take n t) (λ x. omega (arith, length-part-min bytes from n)) (λ x. rw length-take (omega arith)))

-- ---- a covered unit among the caller's bytes

-- a write that covers a unit begins no later and goes as far
pub covers-means : (b : Bool) (after start unit len : ℕ) → ((c : Change) (before : ℕ) → IsChange c before after start len → b ≡ covers_new c unit) → b ≡ true
    → (start ≤ unit * 65536) × (unit * 65536 + valid_length after unit ≤ start + len)
unfolding covers_new change_end
covers-means b after start unit len h t =
    let c : Change = change 0 after start len in
    let e : covers_new c unit ≡ true = sym (h c 0 (is-change 0 after start len)) ∙ t in
    let x : Bool = leb start (unit * 65536) in
    let y : Bool = leb (unit * 65536 + valid_length after unit) (start + length c.bytes) in (
      leb-true start (unit * 65536) (and_left x y e),
      omega (arith, leb-true (unit * 65536 + valid_length after unit) (start + length c.bytes) (and_right x y e), length-replicate {A = ℕ} len 0),
    )
