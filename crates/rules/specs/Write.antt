-- The calls write and grow: "Both change their units by `rewrite_unit`."
-- Assumes nothing.
use Rattle.std.specs.Prelude.{List, [], ◌∷◌, Bool, ℕ, ◌+◌, eqb, ltb, length}
use Rattle.rules.specs.Lists.{pick◌then◌else◌}
use Rattle.rules.specs.Sizes.{most_runs}
use Rattle.rules.specs.Time.{Time}
use Rattle.rules.specs.Card.{Card}
use Rattle.rules.specs.Extent.{extent_bytes}
use Rattle.rules.specs.Group.{group_bytes}
use Rattle.rules.specs.Book.{book_places}
use Rattle.rules.specs.Store.{Store, Volume, decode, encode_into}
use Rattle.rules.specs.Refusal.{Case, Outcome, ◌when◌, first_case}
use Rattle.rules.specs.Refusal.Refusal.{past_limit, below_size, bad_time, no_group_place, no_extent_place}
use Rattle.rules.specs.Refusal.Outcome.{refuse, accept}
use Rattle.rules.specs.Integrity.{store_cases}
use Rattle.rules.specs.Arguments.{with_card, is_past_limit, is_below_size, time_wrong}
use Rattle.rules.specs.Units.{Change, clipped, write_change, grow_change, write_units, grow_units}
use Rattle.rules.specs.Rewrite.{Plan, rewrite_units}
use Rattle.rules.specs.Rewrite.Plan.{refused, planned}
use Rattle.rules.specs.Finish.{finished}

-- 15: "The finished group book would not fit."
unfoldable pub groups_full : Volume → Store → Bool
groups_full v s = ltb (book_places group_bytes s.groups) (length v.books.groups)

-- 16: "The finished extent book would not fit."
unfoldable pub extents_full : Volume → Store → Bool
extents_full v s = ltb (book_places extent_bytes s.extents) (length v.books.extents)

-- the two in their order, for a finished volume
unfoldable pub fit_cases : Volume → Store → List Case
fit_cases v s = (no_group_place when groups_full v s) ∷ (no_extent_place when extents_full v s) ∷ []

-- the plan of a change: its first unit finds no block taken, the head's hint and the card's count
unfoldable pub plan_of : ℕ → (Change → List ℕ) → Change → Card → Store → Plan
plan_of limit units c card s =
    rewrite_units limit (decode s) c (units c) (record { taken = []; hint = (decode s).hint; allocated = card.allocated })

-- the planned units carried out, or the refusal of one of them
unfoldable pub carried_out : ℕ → Change → Time → Store → Plan → Outcome
carried_out answer c time s (refused r) = refuse r
carried_out answer c time s (planned rs p) =
    first_case (fit_cases (finished c time rs p (decode s)) s) (accept answer (encode_into s (finished c time rs p (decode s))) [])

-- "Write: empty bytes answer 0 and change nothing. Otherwise at most 1,048,576 bytes are taken, and that count is the answer."
-- 5: "A non-empty write would end, after clipping, past 9,223,372,036,854,775,807"; 7 for a non-empty write
unfoldable pub write_file : ℕ → ℕ → List ℕ → Time → Store → Card → Outcome
write_file limit offset bytes time s card =
    pick eqb (length bytes) 0 then accept 0 s []
    else first_case ((past_limit when is_past_limit (offset + length (clipped bytes))) ∷ (bad_time when time_wrong time) ∷ [])
    (carried_out (length (clipped bytes)) (write_change card.object card.size offset bytes) time s
    (plan_of limit write_units (write_change card.object card.size offset bytes) card s))

-- what becomes of a write; the limit of runs is a parameter
unfoldable pub write_outcome : ℕ → ℕ → ℕ → List ℕ → Time → Store → Outcome
write_outcome limit object offset bytes time s =
    first_case (store_cases s) (with_card (decode s) object (write_file limit offset bytes time s))

-- "Grow: equal size changes nothing, not even the time"
-- 5: "or grow asks for more than that"; 6: "Grow asks for less than the present size."; 7 for "a grow that changes the size"
unfoldable pub grow_file : ℕ → Time → Store → Card → Outcome
grow_file size time s card =
    first_case ((past_limit when is_past_limit size) ∷ (below_size when is_below_size size card) ∷ [])
    (pick eqb size card.size then accept 0 s []
    else first_case ((bad_time when time_wrong time) ∷ [])
    (carried_out 0 (grow_change card.object card.size size) time s
    (plan_of most_runs grow_units (grow_change card.object card.size size) card s)))

-- what becomes of a grow
unfoldable pub grow_outcome : ℕ → ℕ → Time → Store → Outcome
grow_outcome object size time s = first_case (store_cases s) (with_card (decode s) object (grow_file size time s))
