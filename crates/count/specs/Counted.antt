-- What the count of a card becomes, and the card with it.
-- Assumes nothing.
use Rattle.std.specs.Prelude.{ℕ, ◌+◌, ◌-◌, ◌^◌, ◌≤◌, ◌<◌}
use Rattle.format.specs.declared.card.Card.{Card}

-- no more is given up than was counted, and what is given fits
abbrev pub CountFits : (allocated gone given : ℕ) → Type 0
CountFits allocated gone given = (gone ≤ allocated) × (allocated + given < 2 ^ 64)

-- the blocks counted, less those given up, with those given
abbrev pub counted_of : (allocated gone given : ℕ) → ℕ
counted_of allocated gone given = allocated - gone + given

-- the card with another count, and its other fields as they were
abbrev pub with_count : Card → ℕ → Card
with_count c allocated = record c { allocated = allocated }

-- the card with that count
abbrev pub card_counted : Card → (gone given : ℕ) → Card
card_counted c gone given = with_count c (counted_of c.allocated gone given)
