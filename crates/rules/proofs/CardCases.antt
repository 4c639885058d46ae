-- Document 02, W-205: the two times on a card, by computation of the definitions: what enter and a change set, where the fields stand, and what refusal 2 tests.
-- Assumes nothing.
use mathlib.Core.Path.{◌≡◌, refl}
use mathlib.Core.List.{List}
use mathlib.Core.Bool.{true, false}
use Prim.Native.Nat.{ℕ}
use lib.ListN.{replicate, set}
use Rattle.rules.specs.Time.{Time}
use Rattle.rules.specs.Card.{Card, card_bytes, card_widths, decode_card, card_spare_zero}
use Rattle.rules.specs.Book.{book_places}
use Rattle.rules.specs.Bytes.{bits_of}
use Rattle.rules.specs.Integrity.{card_times_right}
use Rattle.rules.specs.Enter.{new_card}
use Rattle.rules.specs.Finish.{changed_card}
use Rattle.rules.proofs.Opened.{opened}

-- so many seconds, and nanoseconds
abbrev pub at : ℕ → ℕ → Time
at seconds nanoseconds = record { seconds = seconds; nanoseconds = nanoseconds }

-- a card with these times
pub timed : (size allocated : ℕ) (changed created : Time) → Card
timed size allocated changed created =
    record { object = 7; size = size; allocated = allocated; changed = changed; created = created }

-- the bytes of a card that are zero but for this one
pub one : ℕ → ℕ → List ℕ
one place byte = set (replicate card_bytes 0) place byte

-- the creation time that bytes say
pub created : List ℕ → Time
created bytes = (decode_card bytes).created

pub record Table : Type 0 where
  -- "Enter sets both times to the lent one; write and grow set only the first."
  pub enter-both : new_card 7 (at 5 6) ≡ timed 0 0 (at 5 6) (at 5 6)
  pub change-first : changed_card 9 1 (at 8 4) (new_card 7 (at 5 6)) ≡ timed 9 1 (at 8 4) (at 5 6)
  pub change-again : changed_card 9 2 (at 1 2) (changed_card 9 1 (at 8 4) (new_card 7 (at 5 6))) ≡ timed 9 2 (at 1 2) (at 5 6)
  -- "The card grows to 48 bytes": 384 bits, and 96 bytes are two places
  pub bits : bits_of card_widths ≡ 384
  pub places : book_places card_bytes (replicate 96 0) ≡ 2
  -- "its first 255 bits as before": the last of them is the last of the nanoseconds; the next is the first of the creation's seconds
  pub nanosecond : (decode_card (one 31 2)).changed ≡ at 0 1
  pub first-second : created (one 31 1) ≡ at 4611686018427387904 0
  pub last-second : created (one 39 4) ≡ at 1 0
  pub first-nanosecond : created (one 39 2) ≡ at 0 536870912
  pub last-nanosecond : created (one 43 16) ≡ at 0 1
  -- "then 36 zero bits": the first and the last of them, and the bit before
  pub no-spare : card_spare_zero (one 43 16) ≡ true
  pub first-spare : card_spare_zero (one 43 8) ≡ false
  pub last-spare : card_spare_zero (one 47 1) ≡ false
  -- "refusal 2 tests the new nanoseconds and spare bits too": each nanoseconds alone
  pub both_right : card_times_right (timed 0 0 (at 0 999999999) (at 0 999999999)) ≡ true
  pub first-wrong : card_times_right (timed 0 0 (at 0 1000000000) (at 0 0)) ≡ false
  pub second-wrong : card_times_right (timed 0 0 (at 0 0) (at 0 1000000000)) ≡ false

pub cases : Table
unfolding opened timed one created
cases = record {
  enter-both = refl;
  change-first = refl;
  change-again = refl;
  bits = refl;
  places = refl;
  nanosecond = refl;
  first-second = refl;
  last-second = refl;
  first-nanosecond = refl;
  last-nanosecond = refl;
  no-spare = refl;
  first-spare = refl;
  last-spare = refl;
  both_right = refl;
  first-wrong = refl;
  second-wrong = refl;
}
