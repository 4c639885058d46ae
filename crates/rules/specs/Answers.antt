-- For an answer that code gives as an enum: document 01's number for each of its cases, and its values.
-- Assumes nothing.
use Rattle.std.specs.Prelude.{List, [], ℕ}
use Rattle.std.proofs.Math.Option.{Option, none, some}
use Rattle.rules.specs.Refusal.{Refusal, Outcome, number_of}
use Rattle.rules.specs.Refusal.Outcome.{refuse, accept}
use Rattle.rules.specs.Inspect.{Inspected}
use Rattle.rules.specs.Inspect.Inspected.{damaged, hole, checked}
use Rattle.rules.specs.Rewrite.{Step, Plan, Rewritten}
use Rattle.rules.specs.Rewrite.Step.{stopped, untouched, rewritten}
use Rattle.rules.specs.Rewrite.Plan.{refused, planned}
use Rattle.rules.specs.Read.{Checked}
use Rattle.rules.specs.Read.Checked.{failed, bytes}

-- the number of a test that found a refusal, or 0
unfoldable pub found_number : Option Refusal → ℕ
found_number none = 0
found_number (some r) = number_of r

-- a call: its refusal's number, or 0
unfoldable pub outcome_number : Outcome → ℕ
outcome_number (refuse r) = number_of r
outcome_number (accept n left out) = 0

-- a unit that was read: 9 to 12, or 0
unfoldable pub inspected_number : Inspected → ℕ
inspected_number (damaged r) = number_of r
inspected_number hole = 0
inspected_number (checked xs) = 0

-- its valid bytes; a hole has none of its own
unfoldable pub inspected_bytes : Inspected → Option (List ℕ)
inspected_bytes (damaged r) = none
inspected_bytes hole = none
inspected_bytes (checked xs) = some xs

-- a unit that was to be rewritten: 9 to 14, or 0
unfoldable pub step_number : Step → ℕ
step_number (stopped r) = number_of r
step_number untouched = 0
step_number (rewritten r) = 0

-- what it becomes; an untouched hole becomes nothing
unfoldable pub step_unit : Step → Option Rewritten
step_unit (stopped r) = none
step_unit untouched = none
step_unit (rewritten r) = some r

-- all units of a change: the number of the first refusal, or 0
unfoldable pub plan_number : Plan → ℕ
plan_number (refused r) = number_of r
plan_number (planned rs p) = 0

-- the rewritten units
unfoldable pub plan_units : Plan → List Rewritten
plan_units (refused r) = []
plan_units (planned rs p) = rs

-- the hint that they leave; none where one is refused
unfoldable pub plan_hint : Plan → Option ℕ
plan_hint (refused r) = none
plan_hint (planned rs p) = some p.hint

-- the card's count that they leave
unfoldable pub plan_allocated : Plan → Option ℕ
plan_allocated (refused r) = none
plan_allocated (planned rs p) = some p.allocated

-- all units of a read: the number of the first refusal, or 0
unfoldable pub checked_number : Checked → ℕ
checked_number (failed r) = number_of r
checked_number (bytes xs) = 0

-- their valid bytes
unfoldable pub checked_bytes : Checked → List ℕ
checked_bytes (failed r) = []
checked_bytes (bytes xs) = xs
