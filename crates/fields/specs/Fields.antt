-- Document 01, "Head" and "Card": the values of the packed fields in their order, and that they keep within their widths.
-- Assumes nothing.
use Rattle.std.specs.Prelude.{List, [], ◌∷◌, ℕ, ◌+◌, ◌*◌, ◌^◌, ◌<◌}
use Rattle.std.specs.List.{fold}
use Rattle.fields.specs.declared.Head.{Head}
use Rattle.fields.specs.declared.Card.{Card}

-- a head's fields in the order of the rules' headWidths
abbrev pub head_values : Head → List ℕ
head_values h = h.blocks ∷ h.reserved ∷ h.hint ∷ h.cards ∷ h.extents ∷ h.groups ∷ []

-- each of a head's fields is within its width
pub record HeadFits (h : Head) : Type 0 where
  pub blocks : h.blocks < 2 ^ 17
  pub reserved : h.reserved < 2 ^ 17
  pub hint : h.hint < 2 ^ 2
  pub cards : h.cards < 2 ^ 20
  pub extents : h.extents < 2 ^ 20
  pub groups : h.groups < 2 ^ 20

-- words of 64 bits as one number, the first the most significant
abbrev pub joined : List ℕ → ℕ
joined [] = 0
joined (w ∷ ws) = fold (λ n x. n * 2 ^ 64 + x) w ws

-- a card's fields in the order of the rules' cardWidths
abbrev pub card_values : Card → List ℕ
card_values c =
    c.object
    ∷ c.size
    ∷ c.allocated
    ∷ c.seconds
    ∷ c.nanoseconds
    ∷ c.created_seconds
    ∷ c.created_nanoseconds
    ∷ c.spare
    ∷ []

-- each of a card's fields is within its width; object has the whole of a word
pub record CardFits (c : Card) : Type 0 where
  pub size : c.size < 2 ^ 63
  pub allocated : c.allocated < 2 ^ 35
  pub seconds : c.seconds < 2 ^ 63
  pub nanoseconds : c.nanoseconds < 2 ^ 30
  pub created_seconds : c.created_seconds < 2 ^ 63
  pub created_nanoseconds : c.created_nanoseconds < 2 ^ 30
  pub spare : c.spare < 2 ^ 36
