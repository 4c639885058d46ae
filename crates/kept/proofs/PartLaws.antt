-- Laws of the caller's part of a unit: how long it is, that it stands in the unit's new bytes, and that a part that covers them all is the unit.
-- Assumes nothing.
use mathlib.Core.Path.{◌≡◌, ap, ◌∙◌}
use mathlib.Core.Bool.{true}
use mathlib.Core.List.{List, [], ◌++◌, append-nil}
use Prim.Native.Nat.{ℕ, ◌+◌, ◌-◌, ◌*◌, ◌≤◌, ◌<◌, min, max}
use native.Mathlib.Omega.{arith}
use lib.Dec.{leb}
use lib.ListN.{length, drop, drop_of_length-le}
use borrow.Author.Tests.{ltb-true, leb-true, lt-ltb}
use Rattle.rules.specs.Bytes.{patch, padded}
use Rattle.rules.specs.Units.{Change, change_end, valid_length, written_in, written_from, written_to, written_part, touches, assembled}
use Rattle.rules.proofs.ListLaws.{and_left, and_right, if-true}
use Rattle.rules.proofs.ByteLaws.{length_part, length-padded}
use Rattle.kept.specs.Change.{covers_new}

-- bytes over all that there are
patch-whole : (s xs : List ℕ) → length s ≤ length xs → patch s 0 xs ≡ xs
unfolding patch
patch-whole s xs l =
    let z : drop (0 + length xs) s ≡ [] = drop_of_length-le s {i = 0 + length xs} (omega arith) in
    ap (λ (ys : List ℕ). xs ++ ys) z ∙ append-nil xs

module _ (c : Change) (unit : ℕ) where
  -- a unit that is touched: its written bytes begin before they end
  pub touched-order : touches c unit ≡ true → written_from c unit < written_to c unit
  unfolding touches written_in written_from written_to
  touched-order t = ltb-true (max c.offset (unit * 65536)) (min (change_end c) (unit * 65536 + 65536)) t

  -- the caller's part is as long as that
  pub part_length : touches c unit ≡ true → length (written_part c unit) ≡ written_to c unit - written_from c unit
  unfolding written_part
  part_length t =
      let l : written_from c unit < written_to c unit = touched-order t in
      let i : written_from c unit - c.offset + (written_to c unit - written_from c unit) ≤ length c.bytes = unfold written_from written_to change_end in omega (arith, l) in
      length_part c.bytes (written_from c unit - c.offset) (written_to c unit - written_from c unit) i

  module _ (ends : change_end c ≤ c.new_size) where
    -- it stands in the unit's new bytes
    pub part-fits : touches c unit ≡ true → written_from c unit - unit * 65536 + (written_to c unit - written_from c unit) ≤ valid_length c.new_size unit
    unfolding written_from written_to valid_length
    part-fits t =
        let l : written_from c unit < written_to c unit = touched-order t in
        omega (arith, l, ends)

    module _ (begins : unit * 65536 < c.new_size) (covers : covers_new c unit ≡ true) where
      -- the write begins no later than the unit
      first : c.offset ≤ unit * 65536
      unfolding covers_new
      first = leb-true c.offset (unit * 65536) (and_left (leb c.offset (unit * 65536)) (leb (unit * 65536 + valid_length c.new_size unit) (change_end c)) covers)

      -- and goes as far as its new bytes
      last : unit * 65536 + valid_length c.new_size unit ≤ change_end c
      unfolding covers_new
      last = leb-true (unit * 65536 + valid_length c.new_size unit) (change_end c) (and_right (leb c.offset (unit * 65536)) (leb (unit * 65536 + valid_length c.new_size unit) (change_end c)) covers)

      -- a unit that is covered is touched
      pub covered-touches : touches c unit ≡ true
      unfolding touches written_in valid_length
      covered-touches =
          lt-ltb (max c.offset (unit * 65536)) (min (change_end c) (unit * 65536 + 65536)) (omega (arith, first, last, begins))

      -- the part begins where the unit does
      pub covered-from : written_from c unit ≡ unit * 65536
      unfolding written_from
      covered-from = omega (arith, first)

      -- it is as long as the new bytes
      pub covered-count : written_to c unit - written_from c unit ≡ valid_length c.new_size unit
      unfolding written_to valid_length
      covered-count =
          let f : written_from c unit ≡ unit * 65536 = covered-from in
          let l : unit * 65536 + valid_length c.new_size unit ≤ change_end c = last in
          omega (arith, f, l, ends)

      -- whatever the old bytes are, the unit is the caller's part
      pub assembled-covered : (old : List ℕ) → length old ≤ valid_length c.new_size unit → assembled c unit old ≡ written_part c unit
      unfolding assembled
      assembled-covered old o =
          let v : ℕ = valid_length c.new_size unit in
          let z : written_from c unit - unit * 65536 ≡ 0 = omega (arith, covered-from) in
          let n : length (written_part c unit) ≡ v = part_length covered-touches ∙ covered-count in
          let m : length (padded v old) ≡ v = length-padded v old o in
          if-true (touches c unit) (patch (padded v old) (written_from c unit - unit * 65536) (written_part c unit)) (padded v old) covered-touches
          ∙ rw z (patch-whole (padded v old) (written_part c unit) (omega arith))
