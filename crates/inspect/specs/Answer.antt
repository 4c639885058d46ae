-- What the code answers for a unit that is read, and for units one after another: the rules' answers without the bytes.
-- Assumes nothing.
use Rattle.std.specs.Prelude.{◌≡◌, List, ℕ, ◌+◌, ◌*◌, take, drop, get_or, Result, Ok, Err}
use Rattle.rules.specs.Sizes.{unit_blocks}
use Rattle.rules.specs.Inspect as rules
use Rattle.rules.specs.Inspect.Inspected.{damaged, hole, checked}
use Rattle.rules.specs.Answers.{checked_number}
use Rattle.format.specs.Refusals.{refusal_of}
use Rattle.format.specs.declared.refusal.Refusal.{Refusal}
use Rattle.mapping.specs.Entries.{entry_of, entries}
use Rattle.inspect.specs.Mapped.{inspect_mapped, check_mapped}
use Rattle.inspect.specs.declared.Inspected.{Inspected}
use Rattle.inspect.specs.declared.Inspected.TheVariants.{Hole, Checked}

-- the answer for a unit that was read and found to be this: its refusal, a hole, or that its bytes are right where they stand
abbrev pub Answers : Result Inspected Refusal → rules.Inspected → Type 0
Answers (Err r) i = i ≡ damaged (refusal_of r)
Answers (Ok Hole) i = i ≡ hole
Answers (Ok Checked) i = (xs : List ℕ) × (i ≡ checked xs)

-- units from first on, with arrays of slots and blocks, sixteen for each
module _ (image uuid : List ℕ) (object size first : ℕ) (slots blocks : List ℕ) where
  -- the k-th of them, as it is found
  abbrev pub unit_found : ℕ → rules.Inspected
  unit_found k = inspect_mapped image uuid object size (first + k) (take unit_blocks (drop (unit_blocks * k) (entries blocks))) (entry_of (get_or slots k 0))

  -- the number of the first refusal from the k-th on, or 0
  unfoldable pub number_from : ℕ → ℕ
  number_from k = checked_number (check_mapped image uuid object size (first + k) (drop k (entries slots)) (drop (unit_blocks * k) (entries blocks)))
