-- A change by its numbers: each test of the rules over a change is one over its numbers, and each return of the code's tests is one law.
-- Assumes nothing.
use mathlib.Core.Path.{◌≡◌, refl}
use mathlib.Core.Bool.{Bool, true, false, not}
use Prim.Native.Nat.{ℕ, suc, ◌+◌, ◌-◌, ◌*◌, ◌≤◌, ◌<◌, min, max}
use native.Mathlib.Omega.{arith}
use lib.Dec.{ltb, leb}
use borrow.Author.Tests.{ltb-true, leb-true, leb-false, lt-ltb, le-ltb, lt-leb, le-leb}
use Rattle.rules.specs.Lists.{begun}
use Rattle.rules.specs.Sizes.{block_bytes, unit_bytes}
use Rattle.rules.specs.Units.{Change, change_end, valid_length, written_in, covers_old, reads_old, written_from, written_to, touches}
use Rattle.rules.specs.Kept.{intact, blocks_after}
use Rattle.rules.proofs.ListLaws.{test-cases}
use Rattle.kept.specs.Change.{IsChange, written_between, intact_at, covers_new}
use Rattle.kept.specs.Placed.{Placed}

-- ---- the rules' tests by the numbers of a change

-- less is not at least
ltb-not : (a b : ℕ) → ltb a b ≡ not (leb b a)
ltb-not a b =
    test-cases (ltb a b ≡ not (leb b a)) (leb b a)
    (λ t. rw t (le-ltb a b (leb-true b a t))) (λ t. rw t (lt-ltb a b (leb-false b a t)))

module _ (c : Change) (before after start len : ℕ) (h : IsChange c before after start len) where
  -- a written byte falls between two places
  pub written_in-is : (from to : ℕ) → written_in c from to ≡ written_between start (start + len) from to
  unfolding written_in written_between change_end
  written_in-is from to = rw (h.from, h.written) refl

  -- a block is intact
  pub intact-is : (unit i : ℕ) → intact c unit i ≡ intact_at (min (valid_length before unit) (valid_length after unit)) start (start + len) (unit * unit_bytes) i
  unfolding intact intact_at written_in written_between change_end
  intact-is unit i = rw (h.old, h.new, h.from, h.written) refl

  -- the unit's blocks after the change, by its valid length
  pub blocks-are : (unit : ℕ) → begun (valid_length after unit) block_bytes ≡ blocks_after c unit
  unfolding blocks_after
  blocks-are unit = rw h.new refl

  -- a written byte falls into a unit
  pub touches-is : (unit : ℕ) → touches c unit ≡ written_between start (start + len) (unit * 65536) (unit * 65536 + 65536)
  unfolding touches
  touches-is unit = written_in-is (unit * 65536) (unit * 65536 + 65536)

  module _ (unit v : ℕ) (e : v ≡ valid_length before unit) where
    -- a unit without old bytes is not read
    pub reads_nothing : v ≡ 0 → false ≡ reads_old c unit
    unfolding reads_old
    reads_nothing z = rw (h.old, ← e, z) refl

    -- what is old before the written bytes is read
    pub reads-front : (v ≡ 0 → ⊥) → unit * 65536 < start → true ≡ reads_old c unit
    unfolding reads_old covers_old change_end
    reads-front n l = rw (h.old, h.from, ← e, lt-ltb 0 v (omega arith), lt-leb start (unit * 65536) l) refl

    -- what is old behind them is
    pub reads_end : (v ≡ 0 → ⊥) → start ≤ unit * 65536 → ltb (start + len) (unit * 65536 + v) ≡ reads_old c unit
    unfolding reads_old covers_old change_end
    reads_end n l = rw (h.old, h.from, h.written, ← e, lt-ltb 0 v (omega arith), le-leb start (unit * 65536) l) (ltb-not (start + len) (unit * 65536 + v))

  -- a write that begins inside the unit does not cover it
  pub covers-not : (unit : ℕ) → unit * 65536 < start → false ≡ covers_new c unit
  unfolding covers_new
  covers-not unit l = rw (h.from, lt-leb start (unit * 65536) l) refl

  -- one that begins before it does where it goes so far
  pub covers-so : (unit v : ℕ) → v ≡ valid_length after unit → start ≤ unit * 65536 → leb (unit * 65536 + v) (start + len) ≡ covers_new c unit
  unfolding covers_new change_end
  covers-so unit v e l = rw (h.new, h.from, h.written, ← e, le-leb start (unit * 65536) l) refl

  -- the caller's part by the places where it begins and ends in the file
  pub placed_at : (unit f t : ℕ) → f ≡ max start (unit * 65536) → t ≡ min (start + len) (unit * 65536 + 65536)
      → Placed c unit (record { from = f - start; count = t - f; at = f - unit * 65536 })
  unfolding written_from written_to change_end
  placed_at unit f t p q = record { from = rw (h.from, p) refl; count = rw (h.from, h.written, p, q) refl; at' = rw (h.from, p) refl }

module _ (start len unit f t : ℕ) (w : written_between start (start + len) (unit * 65536) (unit * 65536 + 65536) ≡ true) (p : f ≡ max start (unit * 65536)) (q : t ≡ min (start + len) (unit * 65536 + 65536)) where
  -- it begins before it ends
  pub part-order : f ≤ t
  unfolding written_between
  part-order = omega (arith, ltb-true (max start (unit * 65536)) (min (start + len) (unit * 65536 + 65536)) w, p, q)

  -- its places stand in the caller's bytes and in the unit
  pub part-inside : (f - start + (t - f) ≤ len) × (f - unit * 65536 + (t - f) ≤ 65536)
  part-inside = (omega (arith, part-order, p, q), omega (arith, part-order, p, q))

-- ---- an intact block

module _ (settled start end from i : ℕ) where
  -- the block is inside both valid lengths
  pub intact-inside : i * 4096 + 4096 ≤ settled → (w : Bool) → w ≡ written_between start end (from + i * 4096) (from + i * 4096 + 4096) → not w ≡ intact_at settled start end from i
  unfolding intact_at
  intact-inside l w e =
      let d : from + suc i * 4096 ≡ from + i * 4096 + 4096 = omega arith in
      rw (d, ← e, le-leb (suc i * 4096) settled (omega arith)) refl

  -- it is not
  pub intact-outside : settled < i * 4096 + 4096 → leb (i * 4096 + 4096) settled ≡ intact_at settled start end from i
  unfolding intact_at
  intact-outside l = rw (lt-leb (i * 4096 + 4096) settled l, lt-leb (suc i * 4096) settled (omega arith)) refl
