-- What the structs of this crate say: for each the record of rules that it stands for, and that its fields keep within their widths.
-- Assumes nothing.
use Rattle.std.specs.Prelude.{List, [], ◌∷◌, ℕ, ◌^◌, ◌<◌}
use Rattle.rules.specs.Head.{Head}
use Rattle.rules.specs.Time.{Time}
use Rattle.rules.specs.Card.{Card}
use Rattle.rules.specs.Extent.{Extent}
use Rattle.format.specs.declared.head.Head as head
use Rattle.format.specs.declared.card.Time as time
use Rattle.format.specs.declared.card.Card as card
use Rattle.format.specs.declared.extent.Extent as extent

-- the bytes of a key
abbrev pub key_bytes : ℕ
key_bytes = 17

-- the head that the struct says
unfoldable pub head_of : head.Head → Head
head_of h = record {
  uuid = h.uuid;
  blocks = h.blocks;
  reserved = h.reserved;
  hint = h.hint;
  cards = h.cards;
  extents = h.extents;
  groups = h.groups;
}

-- its fields behind the uuid, in the order of the rules' widths
abbrev pub packed_head : head.Head → List ℕ
packed_head h = h.blocks ∷ h.reserved ∷ h.hint ∷ h.cards ∷ h.extents ∷ h.groups ∷ []

-- each of a head's fields is within its width
pub record HeadFits (h : head.Head) : Type 0 where
  pub blocks : h.blocks < 2 ^ 17
  pub reserved : h.reserved < 2 ^ 17
  pub hint : h.hint < 2 ^ 2
  pub cards : h.cards < 2 ^ 20
  pub extents : h.extents < 2 ^ 20
  pub groups : h.groups < 2 ^ 20

-- the time that the struct says
abbrev pub time_of : time.Time → Time
time_of t = record { seconds = t.seconds; nanoseconds = t.nanoseconds }

-- the card that the struct says
unfoldable pub card_of : card.Card → Card
card_of c = record {
  object = c.object;
  size = c.size;
  allocated = c.allocated;
  changed = time_of c.changed;
  created = time_of c.created;
}

-- its fields and the spare bits, in the order of the rules' widths
abbrev pub packed_card : card.Card → ℕ → List ℕ
packed_card c spare =
    c.object
    ∷ c.size
    ∷ c.allocated
    ∷ c.changed.seconds
    ∷ c.changed.nanoseconds
    ∷ c.created.seconds
    ∷ c.created.nanoseconds
    ∷ spare
    ∷ []

-- each of a card's fields is within its width; object has the whole of a word
pub record CardFits (c : card.Card) : Type 0 where
  pub size : c.size < 2 ^ 63
  pub allocated : c.allocated < 2 ^ 35
  pub seconds : c.changed.seconds < 2 ^ 63
  pub nanoseconds : c.changed.nanoseconds < 2 ^ 30
  pub created_seconds : c.created.seconds < 2 ^ 63
  pub created_nanoseconds : c.created.nanoseconds < 2 ^ 30

-- the extent that the struct says
unfoldable pub extent_of : extent.Extent → Extent
extent_of e = record { object = e.object; logical = e.logical; physical = e.physical; count = e.count }
