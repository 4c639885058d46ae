-- The calls settle and fill: document 01's settle, and fill as document 02 has it (W-202), over the blocks that are not reserved.
-- Assumes nothing.
use Rattle.std.specs.Prelude.{[], false, not, ◌&&◌, ℕ, ◌-◌, ◌*◌, ◌/◌, eqb, leb}
use Rattle.rules.specs.Lists.{pick◌then◌else◌, count, range}
use Rattle.rules.specs.Store.{Store, Volume, decode, encode_into, with_maps}
use Rattle.rules.specs.Refusal.{Outcome, first_case}
use Rattle.rules.specs.Refusal.Outcome.{accept}
use Rattle.rules.specs.Integrity.{store_cases}

-- "settle, which clears both bits of every retired block"
unfoldable pub settled : Volume → Volume
settled v = with_maps (λ n. v.used n && not (v.retired n)) (λ n. false) v

-- "and answers how many"
unfoldable pub retired_blocks : Volume → ℕ
retired_blocks v = count v.retired (range 0 v.blocks)

-- refusals 1 and 2
unfoldable pub settle_outcome : Store → Outcome
settle_outcome s = first_case (store_cases s) (accept (retired_blocks (decode s)) (encode_into s (settled (decode s))) [])

-- "Fill divides by blocks minus reserved": W-202's "what they can use"
unfoldable pub usable_blocks : Volume → ℕ
usable_blocks v = v.blocks - v.reserved

-- "and counts used blocks that are not reserved"
unfoldable pub used_usable : Volume → ℕ
used_usable v = count (λ n. v.used n && leb v.reserved n) (range 0 v.blocks)

-- document 01's "times 1,000, divided by [..], rounded down". W-202: "When every block is reserved the answer is 0."
unfoldable pub per_mille : ℕ → ℕ → ℕ
per_mille used usable = pick eqb usable 0 then 0 else used * 1000 / usable

-- refusals 1 and 2; the store stays
unfoldable pub fill_outcome : Store → Outcome
fill_outcome s = first_case (store_cases s) (accept (per_mille (used_usable (decode s)) (usable_blocks (decode s))) s [])
