-- The units of a write and of a grow are those of a change: few, ascending, in the file, and each but the first is touched.
-- Assumes nothing.
use mathlib.Core.Path.{◌≡◌, refl, ap, ◌∙◌}
use mathlib.Core.Bool.{true, false, not, and-false}
use mathlib.Core.List.{List, [], ◌∷◌}
use Prim.Native.Nat.{ℕ, zero, suc, ◌+◌, ◌-◌, ◌*◌, ◌/◌, ◌%◌, min, max, ◌≤◌, ◌<◌}
use native.Mathlib.Omega.{arith}
use lib.Dec.{eqb, ltb, leb}
use lib.ListN.{length, get_or}
use borrow.Author.Tests.{eqb-false, lt-ltb, le-ltb, lt-leb}
use Rattle.rules.specs.Lists.{range, begun, neighbours}
use Rattle.rules.specs.Sizes.{unit_bytes, most_transfer}
use Rattle.rules.specs.Units.{Change, change_end, partial_tail, write_units, grow_units, valid_length, written_in, covers_old, reads_old, touches}
use Rattle.rules.proofs.ListLaws.{if-cases, length-range, get_or-range, each_none, each_more}
use Rattle.kept.proofs.UnitsLaws.{Shape, write_shape, touched-few, write-ascending, write-within}
use Rattle.kept.proofs.UnitsLaws.Shape.{bare, tailed as behind}
use Rattle.change.specs.Change.{Lie, ChangeUnits}
use Rattle.change.specs.Change.Lie.{run, tailed}
use Rattle.write.specs.Call.{grow_of}

-- ---- a write

module _ (c : Change) where
  -- the old tail unit is read where the file ends inside it and the written bytes begin behind its first
  tail-read : (c.old_size % unit_bytes ≡ 0 → ⊥) → c.old_size / unit_bytes < c.offset / unit_bytes → reads_old c (c.old_size / unit_bytes) ≡ true
  unfolding reads_old covers_old valid_length
  tail-read z l =
      let u : ℕ = c.old_size / unit_bytes in
      let v : ltb 0 (min (c.old_size - u * unit_bytes) unit_bytes) ≡ true = lt-ltb 0 (min (c.old_size - u * unit_bytes) unit_bytes) (omega (arith, z)) in
      let f : leb c.offset (u * unit_bytes) ≡ false = lt-leb c.offset (u * unit_bytes) (omega (arith, l)) in
      rw (v, f) refl

  -- a unit before the one in which the written bytes begin is not touched
  before-apart : (u : ℕ) → u < c.offset / unit_bytes → touches c u ≡ false
  unfolding touches written_in
  before-apart u l = le-ltb (max c.offset (u * unit_bytes)) (min (change_end c) (u * unit_bytes + unit_bytes)) (omega (arith, l))

  -- those from it on up to the last are
  run-touched : 0 < length c.bytes → (i : ℕ) → i < begun (change_end c) unit_bytes - c.offset / unit_bytes → touches c (c.offset / unit_bytes + i) ≡ true
  unfolding touches written_in change_end
  run-touched s i l =
      let u : ℕ = c.offset / unit_bytes + i in
      lt-ltb (max c.offset (u * unit_bytes)) (min (c.offset + length c.bytes) (u * unit_bytes + unit_bytes)) (omega (arith, l, s))

  module _ (s : 0 < length c.bytes) (m : length c.bytes ≤ most_transfer) (new : c.new_size ≡ max c.old_size (change_end c)) where
    -- the first touched unit
    abbrev first : ℕ
    first = c.offset / unit_bytes

    -- how many are touched
    abbrev many : ℕ
    many = begun (change_end c) unit_bytes - c.offset / unit_bytes

    -- at most 18
    write-few : length (write_units c) ≤ 18
    write-few = go (write_shape c s new)
      where
        go : Shape c first many → length (write_units c) ≤ 18
        go (bare e) = rw e (omega (arith, length-range first many, touched-few c s m))
        go (behind e l b z g) = rw e (omega (arith, length-range first many, touched-few c s m))

    -- each but the first is touched
    write-touched : (i : ℕ) → 0 < i → i < length (write_units c) → touches c (get_or (write_units c) i 0) ≡ true
    write-touched i p l = go (write_shape c s new) i p l
      where
        go : Shape c first many → (i : ℕ) → 0 < i → i < length (write_units c) → touches c (get_or (write_units c) i 0) ≡ true
        go (bare e) i p l =
            let k : i < many = omega (arith, length-range first many, rw e at l) in
            rw (e, get_or-range first many i 0 k) (run-touched s i k)
        go (behind e t b z g) zero p l = absurd (omega (arith, p))
        go (behind e t b z g) (suc i) p l =
            let n : suc i < suc (length (range first many)) = rw e at l in
            let k : i < many = omega (arith, length-range first many, n) in
            rw e (ap (touches c) (get_or-range first many i 0 k) ∙ run-touched s i k)

    -- how they lie
    write-lie : Lie c (write_units c)
    write-lie = go (write_shape c s new)
      where
        go : Shape c first many → Lie c (write_units c)
        go (bare e) = run first many e
        go (behind e t b z g) = tailed first many e (tail-read z t) (before-apart (c.old_size / unit_bytes) t)

    -- a write's units
    pub units-write : ChangeUnits c (write_units c)
    units-write = record {
      few = write-few;
      order = write-ascending c s new;
      within = write-within c s new;
      touched = write-touched;
      lie = write-lie;
    }

-- ---- a grow

module _ (object old size : ℕ) where
  -- its change
  abbrev gc : Change
  gc = grow_of object old size

  -- the old tail unit is read where the file ends inside it
  grow-read : (old % unit_bytes ≡ 0 → ⊥) → reads_old gc (old / unit_bytes) ≡ true
  unfolding reads_old covers_old valid_length change_end
  grow-read z =
      let u : ℕ = old / unit_bytes in
      let v : ltb 0 (min (old - u * unit_bytes) unit_bytes) ≡ true = lt-ltb 0 (min (old - u * unit_bytes) unit_bytes) (omega (arith, z)) in
      let f : leb (u * unit_bytes + min (old - u * unit_bytes) unit_bytes) 0 ≡ false = lt-leb (u * unit_bytes + min (old - u * unit_bytes) unit_bytes) 0 (omega (arith, z)) in
      rw (v, f) (ap not (and-false (leb 0 (u * unit_bytes))))

  -- no unit is touched
  grow-apart : (u : ℕ) → touches gc u ≡ false
  unfolding touches written_in change_end
  grow-apart u = le-ltb (max 0 (u * unit_bytes)) (min (0 + 0) (u * unit_bytes + unit_bytes)) (omega arith)

  -- a grow's units
  pub units-grow : old < size → ChangeUnits gc (grow_units gc)
  unfolding grow_units partial_tail
  units-grow l =
      if-cases (λ (us : List ℕ). ChangeUnits gc us) (eqb (old % unit_bytes) 0) [] (old / unit_bytes ∷ [])
      (λ e. record {
        few = omega arith;
        order = unfold neighbours in refl;
        within = each_none;
        touched = λ i p k. absurd (omega (arith, k));
        lie = run 0 0 (unfold range in refl);
      })
      (λ e. record {
        few = omega arith;
        order = unfold neighbours in refl;
        within = each_more {x = old / unit_bytes} (omega (arith, l)) each_none;
        touched = λ i p k. absurd (omega (arith, p, k));
        lie = tailed 0 0 (unfold range in refl) (grow-read (eqb-false (old % unit_bytes) 0 e)) (grow-apart (old / unit_bytes));
      })
