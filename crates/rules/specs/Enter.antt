-- The call enter: a new file.
-- Assumes nothing.
use Rattle.std.specs.Prelude.{List, [], ◌∷◌, ℕ}
use Rattle.rules.specs.Lists.{insert}
use Rattle.rules.specs.Time.{Time}
use Rattle.rules.specs.Card.{Card, card_before}
use Rattle.rules.specs.Store.{Store, Volume, decode, encode_into, with_books}
use Rattle.rules.specs.Refusal.{Case, Outcome, ◌when◌, first_case}
use Rattle.rules.specs.Refusal.Refusal.{card_exists, bad_time, no_card_place}
use Rattle.rules.specs.Refusal.Outcome.{accept}
use Rattle.rules.specs.Integrity.{store_cases}
use Rattle.rules.specs.Arguments.{has_card, time_wrong, cards_full}

-- "Enter adds a card of size 0 with no blocks and the lent time."; W-205: "Enter sets both times to the lent one"
unfoldable pub new_card : ℕ → Time → Card
new_card object time = record { object = object; size = 0; allocated = 0; changed = time; created = time }

-- the volume with it
unfoldable pub entered : Card → Volume → Volume
entered c v =
    with_books (record { cards = insert card_before c v.books.cards; extents = v.books.extents; groups = v.books.groups }) v

-- refusals 4, 7 and 8
unfoldable pub enter_cases : ℕ → Time → Store → List Case
enter_cases object time s =
    (card_exists when has_card (decode s) object)
    ∷ (bad_time when time_wrong time)
    ∷ (no_card_place when cards_full (decode s) s)
    ∷ []

-- refusals 1, 2 and those; "Fresh, enter and grow answer 0."
unfoldable pub enter_outcome : ℕ → Time → Store → Outcome
enter_outcome object time s =
    first_case (store_cases s) (first_case (enter_cases object time s)
    (accept 0 (encode_into s (entered (new_card object time) (decode s))) []))
