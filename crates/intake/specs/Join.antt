-- Refusals 1 and 2 together: the number of the first that comes, and what the second may take for granted after the first.
-- Assumes nothing.
use Rattle.std.specs.Prelude.{◌≡◌, List, [], ℕ, ◌*◌, ◌≤◌, length}
use Rattle.rules.specs.Head.{head_bytes, decode_head}
use Rattle.rules.specs.Card.{card_bytes}
use Rattle.rules.specs.Extent.{extent_bytes}
use Rattle.rules.specs.Group.{group_bytes}
use Rattle.rules.specs.Store.{Store}
use Rattle.rules.specs.Refusal.{first_case}
use Rattle.rules.specs.Refusal.Outcome.{accept}
use Rattle.rules.specs.Answers.{outcome_number}
use Rattle.rules.specs.Integrity.{store_cases}
use Rattle.intake_maps.specs.MapTests.{MapsSized}

-- the number of the first of refusals 1 and 2 whose case holds, or 0
unfoldable pub store_number : Store → ℕ
store_number s = outcome_number (first_case (store_cases s) (accept 0 s []))

-- the lengths are right for what the head says: so it is where refusal 1 did not come
pub record LengthsRight (head cards extents groups used retired : List ℕ) : Type 0 where
  pub head_fits : length head ≡ head_bytes
  pub cards_fit : card_bytes * (decode_head head).cards ≤ length cards
  pub extents_fit : extent_bytes * (decode_head head).extents ≤ length extents
  pub groups_fit : group_bytes * (decode_head head).groups ≤ length groups
  pub maps_fit : MapsSized (decode_head head).blocks (decode_head head).reserved used retired
