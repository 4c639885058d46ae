-- What a change and a read span, computed by the checker: clipping, units, the blocks that may be kept, the bytes that a read gets, and what refusal 9
-- asks of the extents.
-- Assumes nothing.
use mathlib.Core.Path.{◌≡◌, refl}
use mathlib.Core.List.{List, [], ◌∷◌}
use mathlib.Core.Bool.{true, false}
use mathlib.Core.Option.{Option, none, some}
use Prim.Native.Nat.{ℕ}
use lib.ListN.{length}
use lib.Seq.{length-take-le}
use native.Mathlib.Omega.{arith}
use Rattle.rules.specs.Lists.{pick◌then◌else◌}
use Rattle.rules.specs.Sizes.{most_runs}
use Rattle.rules.specs.Card.{Card}
use Rattle.rules.specs.Extent.{Extent}
use Rattle.rules.specs.Store.{Store, Volume}
use Rattle.rules.specs.Units.{clipped, units_of, write_change, grow_change, write_units, grow_units, valid_length}
use Rattle.rules.specs.Kept.{retained_blocks, superseded}
use Rattle.rules.specs.Inspect.{backed_under}
use Rattle.rules.specs.Inspect.Inspected.{damaged, hole, checked}
use Rattle.rules.specs.Read.{read_length, then_units}
use Rattle.rules.specs.Read.Checked.{failed, bytes}
use Rattle.rules.specs.Refusal.Refusal.{no_checksum, checksum_differs}
use Rattle.rules.specs.Refusal.{first_case}
use Rattle.rules.specs.Arguments.{is_past_limit, time_wrong}
use Rattle.rules.specs.Write.{write_file, plan_of, carried_out}
use Rattle.worked.proofs.Stores.{time, extent, computed}

-- a volume of these extents
pub over : List Extent → Volume
over es = record {
  uuid = [];
  blocks = 1;
  reserved = 0;
  hint = 0;
  books = record { cards = []; extents = es; groups = [] };
  used = λ n. true;
  retired = λ n. false;
  image = [];
}

-- the units of one byte written at this place into a file of this size
pub units_of_byte : ℕ → ℕ → List ℕ
units_of_byte size offset = write_units (write_change 7 size offset (1 ∷ []))

-- what a change of the size keeps of a unit at blocks 10 and 11
pub keeps_of : ℕ → ℕ → List (Option ℕ)
keeps_of old new = retained_blocks most_runs (grow_change 7 old new) 0 true (some 10 ∷ some 11 ∷ [])

pub record Spans : Type 0 where
  -- "the object's last extent starting at or before the unit's last block ends past its first"
  pub under_all : backed_under (over (extent 0 100 20 ∷ [])) 7 1 ≡ true
  pub under_last : backed_under (over (extent 31 100 1 ∷ [])) 7 1 ≡ true
  pub under_first : backed_under (over (extent 0 100 17 ∷ [])) 7 1 ≡ true
  pub before : backed_under (over (extent 0 100 16 ∷ [])) 7 1 ≡ false
  pub behind : backed_under (over (extent 32 100 1 ∷ [])) 7 1 ≡ false
  pub last-counts : backed_under (over (extent 0 100 2 ∷ extent 16 200 1 ∷ [])) 7 1 ≡ true
  pub other-file : backed_under (over (extent 0 100 20 ∷ [])) 8 1 ≡ false
  -- the units of a stretch of bytes
  pub no_byte : units_of 65536 65536 ≡ []
  pub last_byte : units_of 65535 65536 ≡ 0 ∷ []
  pub across : units_of 65535 65537 ≡ 0 ∷ 1 ∷ []
  pub next : units_of 65536 65537 ≡ 1 ∷ []
  -- the old tail unit: touched, so not twice; the file does not grow; a whole one
  pub tail-touched : units_of_byte 70000 70000 ≡ 1 ∷ []
  pub no-growth : units_of_byte 70000 0 ≡ 0 ∷ []
  pub whole-tail : grow_units (grow_change 7 65536 70000) ≡ []
  pub grown-tail : grow_units (grow_change 7 65537 70000) ≡ 1 ∷ []
  -- valid lengths
  pub valid-whole : valid_length 70000 0 ≡ 65536
  pub valid-part : valid_length 70000 1 ≡ 4464
  pub valid-none : valid_length 70000 2 ≡ 0
  -- a block that was not full is not kept; one that was is
  pub not_full : keeps_of 4095 8192 ≡ none ∷ none ∷ []
  pub full : keeps_of 4096 8192 ≡ some 10 ∷ none ∷ []
  pub second-part : keeps_of 4100 4200 ≡ some 10 ∷ none ∷ []
  pub not_after : keeps_of 8192 5000 ≡ some 10 ∷ none ∷ []
  -- nor is one of a unit that was not checked
  pub unchecked : retained_blocks most_runs (grow_change 7 8192 8192) 0 false (some 10 ∷ some 11 ∷ []) ≡ none ∷ none ∷ []
  -- an old block past those that the unit has then
  pub past : superseded (some 1 ∷ some 2 ∷ none ∷ some 3 ∷ []) (none ∷ some 2 ∷ []) ≡ 1 ∷ 3 ∷ []
  -- "0 at or past the end or for an empty buffer; else at most 1,048,576 bytes"
  pub read-end : read_length 10 10 5 ≡ 0
  pub read_past : read_length 10 11 5 ≡ 0
  pub read-empty : read_length 10 0 0 ≡ 0
  pub read-rest : read_length 10 3 100 ≡ 7
  pub read-room : read_length 10 3 4 ≡ 4
  pub read-most : read_length 2000000 0 2000000 ≡ 1048576
  -- units of a read one after another: a hole's zeros, the first refusal, and none handed out before one
  pub hole-bytes : then_units 3 hole (bytes (1 ∷ [])) ≡ bytes (0 ∷ 0 ∷ 0 ∷ 1 ∷ [])
  pub first-refusal : then_units 3 (damaged no_checksum) (failed checksum_differs) ≡ failed no_checksum
  pub later-refusal : then_units 3 (checked (1 ∷ 2 ∷ 3 ∷ [])) (failed checksum_differs) ≡ failed checksum_differs

pub spans : Spans
unfolding computed over units_of_byte keeps_of
spans = record {
  under_all = refl;
  under_last = refl;
  under_first = refl;
  before = refl;
  behind = refl;
  last-counts = refl;
  other-file = refl;
  no_byte = refl;
  last_byte = refl;
  across = refl;
  next = refl;
  tail-touched = refl;
  no-growth = refl;
  whole-tail = refl;
  grown-tail = refl;
  valid-whole = refl;
  valid-part = refl;
  valid-none = refl;
  not_full = refl;
  full = refl;
  second-part = refl;
  not_after = refl;
  unchecked = refl;
  past = refl;
  read-end = refl;
  read_past = refl;
  read-empty = refl;
  read-rest = refl;
  read-room = refl;
  read-most = refl;
  hole-bytes = refl;
  first-refusal = refl;
  later-refusal = refl;
}

-- "at most 1,048,576 bytes are taken": one more is not
pub clips : (given : List ℕ) → length given ≡ 1048577 → length (clipped given) ≡ 1048576
unfolding computed
clips given h = length-take-le 1048576 given (omega (arith, h))

-- 5: "would end, after clipping": such a write up to the last byte that a file can have is carried out, and answers what was taken
pub after-clipping : (given : List ℕ) → length given ≡ 1048577 → (s : Store) (card : Card)
    → write_file most_runs 9223372036853727231 given (time 8 9) s card
    ≡ carried_out 1048576 (write_change card.object card.size 9223372036853727231 given) (time 8 9) s
    (plan_of most_runs write_units (write_change card.object card.size 9223372036853727231 given) card s)
unfolding write_file pick◌then◌else◌ first_case is_past_limit time_wrong
after-clipping given h s card = rw (h, clips given h) refl
