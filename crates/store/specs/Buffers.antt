-- What the inner calls make of single buffers.
-- Assumes nothing.
use Rattle.std.specs.Prelude.{◌≡◌, true, List, ℕ, suc, ◌+◌, ◌*◌, ◌^◌, ◌≤◌, ◌<◌, eqb, leb, length}
use Rattle.rules.specs.Lists.{pick◌then◌else◌, given, all, find, ascending}
use Rattle.rules.specs.Bytes.{pieces}
use Rattle.rules.specs.Time.{Time}
use Rattle.rules.specs.Head.{Head, head_bytes, decode_head}
use Rattle.rules.specs.Card.{Card, card_bytes, decode_card, card_spare_zero, card_before}
use Rattle.rules.specs.Book.{decode_book, zero_behind}
use Rattle.rules.specs.Refusal.{number_of}
use Rattle.rules.specs.Refusal.Refusal.{card_exists, bad_time, no_card_place}
use Rattle.rules.specs.Arguments.{time_wrong}

-- the head that fresh writes
unfoldable pub fresh_head : List ℕ → ℕ → ℕ → Head
fresh_head uuid blocks reserved =
    record { uuid = uuid; blocks = blocks; reserved = reserved; hint = 0; cards = 0; extents = 0; groups = 0 }

-- a head that counts one card more
unfoldable pub one_card_more : Head → Head
one_card_more h = record {
  uuid = h.uuid;
  blocks = h.blocks;
  reserved = h.reserved;
  hint = h.hint;
  cards = suc h.cards;
  extents = h.extents;
  groups = h.groups;
}

-- the number of refusal 4, 7 or 8 for a new file among these cards, in a book of so many places; or 0
unfoldable pub enter_number : List Card → ℕ → ℕ → Time → ℕ
enter_number cs places object time =
    pick given (find (λ c. eqb c.object object) cs) then number_of card_exists
    else pick time_wrong time then number_of bad_time
    else pick leb places (length cs) then number_of no_card_place
    else 0

-- a book of n cards that keeps its rules
pub record CardsRight (n : ℕ) (cards : List ℕ) : Type 0 where
  pub places : card_bytes * n ≤ length cards
  pub order : ascending card_before (decode_book decode_card card_bytes n cards) ≡ true
  pub zeros : zero_behind card_bytes n cards ≡ true
  pub spare : all card_spare_zero (pieces card_bytes n cards) ≡ true

-- a head and a book of n cards into which a new file's card can be put
pub record EnterReady (head cards : List ℕ) (n : ℕ) (time : Time) : Type 0 where
  pub width : length head ≡ head_bytes
  pub few : (decode_head head).cards + 1 < 2 ^ 20
  pub right : CardsRight n cards
  pub room : card_bytes * (n + 1) ≤ length cards
  pub early : time.seconds < 2 ^ 63
  pub part : time.nanoseconds < 2 ^ 30
