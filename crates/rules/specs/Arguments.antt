-- Refusals 3 to 8: what a call's arguments ask of the books.
-- Assumes nothing.
use Rattle.std.specs.Prelude.{Bool, ◌||◌, ℕ, ltb, leb, length}
use Rattle.rules.specs.Lists.{maybe, given}
use Rattle.rules.specs.Sizes.{most_size, most_seconds, nanoseconds_bound}
use Rattle.rules.specs.Time.{Time}
use Rattle.rules.specs.Card.{Card, card_bytes}
use Rattle.rules.specs.Book.{book_places}
use Rattle.rules.specs.Store.{Store, Volume, card_of}
use Rattle.rules.specs.Refusal.{Outcome}
use Rattle.rules.specs.Refusal.Refusal.{no_card}
use Rattle.rules.specs.Refusal.Outcome.{refuse}

-- 3: "Write, grow or read names an object with no card."; else the call goes on with the card
unfoldable pub with_card : Volume → ℕ → (Card → Outcome) → Outcome
with_card v object next = maybe (refuse no_card) next (card_of v object)

-- 4: "Enter names an object that has one."
unfoldable pub has_card : Volume → ℕ → Bool
has_card v object = given (card_of v object)

-- 5: "A non-empty write would end, after clipping, past 9,223,372,036,854,775,807, or grow asks for more than that."
unfoldable pub is_past_limit : ℕ → Bool
is_past_limit end = ltb most_size end

-- 6: "Grow asks for less than the present size."
unfoldable pub is_below_size : ℕ → Card → Bool
is_below_size size card = ltb size card.size

-- 7: "seconds above 9,223,372,036,854,775,807 or nanoseconds 1,000,000,000 or more"
unfoldable pub time_wrong : Time → Bool
time_wrong t = ltb most_seconds t.seconds || leb nanoseconds_bound t.nanoseconds

-- 8: "Enter finds no free card place."
unfoldable pub cards_full : Volume → Store → Bool
cards_full v s = leb (book_places card_bytes s.cards) (length v.books.cards)
