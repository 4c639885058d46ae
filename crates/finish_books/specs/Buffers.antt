-- What a change needs of single buffers, and what it leaves of them.
-- Assumes nothing.
use Rattle.std.specs.Prelude.{◌≡◌, Bool, true, not, ◌&&◌, List, [], ◌∷◌, ℕ, zero, suc, ◌+◌, ◌*◌, ◌≤◌, ◌<◌, eqb, length, get_or}
use Rattle.rules.specs.Lists.{pick◌then◌else◌, all, ascending}
use Rattle.rules.specs.Bytes.{pieces}
use Rattle.rules.specs.Head.{Head}
use Rattle.rules.specs.Card.{card_bytes, decode_card, card_spare_zero, card_before}
use Rattle.rules.specs.Book.{decode_book, zero_behind}
use Rattle.bitmap.specs.Map.{with_bits}

-- a book of n cards that keeps its rules
pub record CardsRight (n : ℕ) (cards : List ℕ) : Type 0 where
  pub places : card_bytes * n ≤ length cards
  pub order : ascending card_before (decode_book decode_card card_bytes n cards) ≡ true
  pub zeros : zero_behind card_bytes n cards ≡ true
  pub spare : all card_spare_zero (pieces card_bytes n cards) ≡ true

-- a head with another hint and other numbers of extents and groups
unfoldable pub finished_head : (hint extents groups : ℕ) → Head → Head
finished_head hint extents groups h = record {
  uuid = h.uuid;
  blocks = h.blocks;
  reserved = h.reserved;
  hint = hint;
  cards = h.cards;
  extents = extents;
  groups = groups;
}

-- the new blocks among those of units side by side: where no block is kept
unfoldable pub new_of : (kept blocks : List ℕ) → List ℕ
new_of [] blocks = []
new_of (k ∷ kept) [] = []
new_of (zero ∷ kept) (b ∷ blocks) = b ∷ new_of kept blocks
new_of (suc p ∷ kept) (b ∷ blocks) = new_of kept blocks

-- each of them is below a bound
pub record NewInside (bound : ℕ) (kept blocks : List ℕ) : Type 0 where
  pub each : (f : ℕ) → f < length kept → get_or kept f 0 ≡ 0 → get_or blocks f 0 < bound

-- an old block stood at a place, and none is kept there
unfoldable pub gone_at : (old kept : List ℕ) → ℕ → Bool
gone_at old kept f = not (eqb (get_or old f 0) 0) && eqb (get_or kept f 0) 0

-- each old block is below a bound
pub record OldInside (bound : ℕ) (old : List ℕ) : Type 0 where
  pub each : (f : ℕ) → get_or old f 0 ≤ bound

-- a map in which a block is set, or not
unfoldable pub marked_if : Bool → ℕ → List ℕ → List ℕ
marked_if b n m = pick b then with_bits true m n (n + 1) else m
