-- Document 02, W-206: which parts of a file hold data. A stretch is that document's word for units that follow one another.
-- Assumes nothing.
use Rattle.std.specs.Prelude.{◌≡◌, Bool, true, ◌&&◌, ◌||◌, ℕ, suc, ◌+◌, ◌*◌, ◌≤◌, ◌<◌, eqb, ltb, leb, length, drop}
use mathlib.Core.List.{List, [], ◌∷◌, ◌++◌, flat_map}
use Rattle.rules.specs.Lists.{pick◌then◌else◌, given, range, all, filter, count, neighbours}
use Rattle.rules.specs.Sizes.{unit_bytes}
use Rattle.rules.specs.Bytes.{le, le_digits, part}
use Rattle.rules.specs.Card.{Card}
use Rattle.rules.specs.Store.{Store, Volume, decode}
use Rattle.rules.specs.Refusal.{Outcome, ◌when◌, first_case}
use Rattle.rules.specs.Refusal.Refusal.{bad_range}
use Rattle.rules.specs.Refusal.Outcome.{accept}
use Rattle.rules.specs.Integrity.{store_cases}
use Rattle.rules.specs.Arguments.{with_card}
use Rattle.rules.specs.Inspect.{checksum_of}

-- "first unit and number of units"
pub record Stretch : Type 0 where
  pub first : ℕ
  pub units : ℕ

-- a unit of the card's file "with a slot that starts before the file's end"
unfoldable pub holds_data : Volume → Card → ℕ → Bool
holds_data v c unit = given (checksum_of v c.object unit) && ltb (unit * unit_bytes) c.size

-- a unit in front of stretches: it makes the first one longer where that starts right behind it, and else is one by itself
unfoldable pub extend : ℕ → List Stretch → List Stretch
extend unit [] = record { first = unit; units = 1 } ∷ []
extend unit (r ∷ rs) =
    pick eqb (suc unit) r.first then record { first = unit; units = suc r.units } ∷ rs
    else record { first = unit; units = 1 } ∷ r ∷ rs

-- "each maximal stretch of consecutive units", of units that ascend
unfoldable pub stretches : List ℕ → List Stretch
stretches [] = []
stretches (unit ∷ units) = extend unit (stretches units)

-- "for one file and a range of units": those that hold data, within the range. One that goes on past the range's edge is cut there, as "no other unit
-- lies in any"
unfoldable pub stretches_of : Volume → Card → (first units : ℕ) → List Stretch
stretches_of v c first units = stretches (filter (holds_data v c) (range first units))

-- ---- the pairs in the output

-- "pairs of 64-bit numbers": a pair's bytes
abbrev pub stretch_bytes : ℕ
stretch_bytes = 16

-- the bytes that say it
unfoldable pub encode_stretch : Stretch → List ℕ
encode_stretch r = le_digits 8 r.first ++ le_digits 8 r.units

-- what the bytes say
unfoldable pub decode_stretch : List ℕ → Stretch
decode_stretch bytes = record { first = le (part 0 8 bytes); units = le (part 8 8 bytes) }

-- ---- the call

-- the greatest number of 64 bits
abbrev pub most_number : ℕ
most_number = 18446744073709551615

-- 19: "when the range's first unit plus length passes 18,446,744,073,709,551,615 or the output has no place for all pairs"
unfoldable pub range_wrong : (first units : ℕ) → List Stretch → List ℕ → Bool
range_wrong first units rs out = ltb most_number (first + units) || ltb (length out) (stretch_bytes * length rs)

-- "The answer is the number of pairs; the output behind them is unchanged."
unfoldable pub list_stretches : Store → List ℕ → List Stretch → Outcome
list_stretches s out rs = accept (length rs) s (flat_map encode_stretch rs ++ drop (stretch_bytes * length rs) out)

-- 19, "tried after 3", and the pairs
unfoldable pub stretches_file : (first units : ℕ) → Store → List ℕ → Card → Outcome
stretches_file first units s out card =
    first_case ((bad_range when range_wrong first units (stretches_of (decode s) card first units) out) ∷ [])
    (list_stretches s out (stretches_of (decode s) card first units))

-- "Refusals 1 to 3 apply first."
unfoldable pub stretches_outcome : (object first units : ℕ) → List ℕ → Store → Outcome
stretches_outcome object first units out s = first_case (store_cases s) (with_card (decode s) object (stretches_file first units s out))

-- ---- the document's words

-- the unit lies in the stretch
unfoldable pub lies_in : ℕ → Stretch → Bool
lies_in unit r = leb r.first unit && ltb unit (r.first + r.units)

-- a stretch ends in front of another, and does not adjoin it: a unit that lies in neither is between them
unfoldable pub ends_before : Stretch → Stretch → Bool
ends_before r q = ltb (r.first + r.units) q.first

-- what document 02 says of the stretches of a range, whatever makes a unit hold data. That `stretches_of` gives such is `stretches-right`, and that no
-- other list is `stretches-only`, in `proofs/StretchLaws`
pub record StretchesRight (holds : ℕ → Bool) (first units : ℕ) (rs : List Stretch) : Type 0 where
  -- "Every unit of the range with a slot that starts before the file's end lies in one pair"
  pub each : (u : ℕ) → first ≤ u → u < first + units → holds u ≡ true → count (lies_in u) rs ≡ 1
  -- "no other unit lies in any"
  pub other : (u : ℕ) → (first ≤ u → u < first + units → holds u ≡ true → ⊥) → count (lies_in u) rs ≡ 0
  -- "pairs ascend", and each is maximal: no two adjoin
  pub apart : neighbours ends_before rs ≡ true
  -- a pair has a unit
  pub filled : all (λ r. ltb 0 r.units) rs ≡ true
