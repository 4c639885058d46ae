-- The call read.
-- Assumes nothing.
use Rattle.std.specs.Prelude.{List, [], ◌∷◌, ◌++◌, ℕ, ◌+◌, ◌-◌, ◌%◌, min, eqb, length, drop, replicate}
use Rattle.rules.specs.Lists.{pick◌then◌else◌}
use Rattle.rules.specs.Sizes.{unit_bytes, most_transfer}
use Rattle.rules.specs.Bytes.{part}
use Rattle.rules.specs.Card.{Card}
use Rattle.rules.specs.Store.{Store, Volume, decode}
use Rattle.rules.specs.Refusal.{Refusal, Outcome, first_case}
use Rattle.rules.specs.Refusal.Outcome.{refuse, accept}
use Rattle.rules.specs.Units.{valid_length, units_of}
use Rattle.rules.specs.Inspect.{Inspected, inspect_unit}
use Rattle.rules.specs.Inspect.Inspected.{damaged, hole, checked}
use Rattle.rules.specs.Integrity.{store_cases}
use Rattle.rules.specs.Arguments.{with_card}

-- "0 at or past the end or for an empty buffer; else at most 1,048,576 bytes": the bytes that a read gets of a file of this size
unfoldable pub read_length : ℕ → ℕ → ℕ → ℕ
read_length size offset room = min (min (size - offset) room) most_transfer

-- what checking units one after another finds: the first refusal, or all their valid bytes, a hole's zeros included
pub data Checked : Type 0 where
  failed : Refusal → Checked
  bytes : List ℕ → Checked

-- a unit's bytes before those of the units after it
unfoldable pub follow : List ℕ → Checked → Checked
follow xs (failed r) = failed r
follow xs (bytes ys) = bytes (xs ++ ys)

-- a unit that was read, and then the others
unfoldable pub then_units : ℕ → Inspected → Checked → Checked
then_units valid (damaged r) rest = failed r
then_units valid hole rest = follow (replicate valid 0) rest
then_units valid (checked xs) rest = follow xs rest

-- "All units are checked before a byte is handed out"; 9 to 12 unit by unit, ascending
unfoldable pub check_units : Volume → ℕ → ℕ → List ℕ → Checked
check_units v object size [] = bytes []
check_units v object size (u ∷ us) = then_units (valid_length size u) (inspect_unit v object size u) (check_units v object size us)

-- n bytes from a place of the checked bytes on, at the head of the output buffer; the rest of it stays
unfoldable pub hand_out : ℕ → ℕ → Store → List ℕ → Checked → Outcome
hand_out at n s out (failed r) = refuse r
hand_out at n s out (bytes xs) = accept n s (part at n xs ++ drop n out)

-- the units that a read of n bytes touches, checked, and its bytes handed out
unfoldable pub read_units : ℕ → ℕ → Store → List ℕ → Card → Outcome
read_units offset n s out card =
    hand_out (offset % unit_bytes) n s out (check_units (decode s) card.object card.size (units_of offset (offset + n)))

-- a read that gets no byte tries none of 9 to 12
unfoldable pub read_file : ℕ → Store → List ℕ → Card → Outcome
read_file offset s out card =
    pick eqb (read_length card.size offset (length out)) 0 then accept 0 s out
    else read_units offset (read_length card.size offset (length out)) s out card

-- refusals 1 to 3, then those of the units
unfoldable pub read_outcome : ℕ → ℕ → List ℕ → Store → Outcome
read_outcome object offset out s = first_case (store_cases s) (with_card (decode s) object (read_file offset s out))
