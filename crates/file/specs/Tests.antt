-- The numbers of write's and grow's own refusals, past refusals 1 to 3.
-- Assumes nothing.
use Rattle.std.specs.Prelude.{ℕ, eqb, ltb}
use Rattle.rules.specs.Lists.{pick◌then◌else◌}
use Rattle.rules.specs.Time.{Time}
use Rattle.rules.specs.Refusal.{number_of}
use Rattle.rules.specs.Refusal.Refusal.{past_limit, below_size, bad_time}
use Rattle.rules.specs.Arguments.{is_past_limit, time_wrong}

-- of a write that is not empty and would end here: 5, 7 or none
unfoldable pub write_number : (end : ℕ) → Time → ℕ
write_number end time = pick is_past_limit end then number_of past_limit else pick time_wrong time then number_of bad_time else 0

-- of a grow of a file of one size to another: 5, 6, 7 or none
unfoldable pub grow_number : (old new : ℕ) → Time → ℕ
grow_number old new time =
    pick is_past_limit new then number_of past_limit else pick ltb new old then number_of below_size else pick eqb new old then 0 else pick time_wrong time then number_of bad_time else 0
