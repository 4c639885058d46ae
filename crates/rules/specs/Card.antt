-- Document 01, "Card", in place of the inode record: made by enter, read by all. Document 02 puts the creation time on it (W-205).
-- Assumes nothing.
use Rattle.std.specs.Prelude.{List, [], ◌∷◌, Bool, ℕ, eqb, ltb, get_or}
use Rattle.rules.specs.Bytes.{be, be_digits, pack, unpack}
use Rattle.rules.specs.Time.{Time}

-- what a card (document 01's word for a file's record) says: the file's object, its size, the blocks that it has, the time of its last change, and the one
-- at which it was made
pub record Card : Type 0 where
  pub object : ℕ
  pub size : ℕ
  pub allocated : ℕ
  pub changed : Time
  pub created : Time

-- W-205: "The card grows to 48 bytes"
abbrev pub card_bytes : ℕ
card_bytes = 48

-- "most significant first: object 64, size 63, allocated blocks 35, seconds 63, nanoseconds 30", then W-205: "its first 255 bits as before, then
-- creation seconds 63 bits and nanoseconds 30, then 36 zero bits"
abbrev pub card_widths : List ℕ
card_widths = 64 ∷ 63 ∷ 35 ∷ 63 ∷ 30 ∷ 63 ∷ 30 ∷ 36 ∷ []

-- the fields of a card's bytes, in their order
unfoldable pub card_fields : List ℕ → List ℕ
card_fields bytes = unpack card_widths (be bytes)

-- what a card's bytes say
unfoldable pub decode_card : List ℕ → Card
decode_card bytes = record {
  object = get_or (card_fields bytes) 0 0;
  size = get_or (card_fields bytes) 1 0;
  allocated = get_or (card_fields bytes) 2 0;
  changed = record { seconds = get_or (card_fields bytes) 3 0; nanoseconds = get_or (card_fields bytes) 4 0 };
  created = record { seconds = get_or (card_fields bytes) 5 0; nanoseconds = get_or (card_fields bytes) 6 0 };
}

-- the bytes that say it, the spare bits zero
unfoldable pub encode_card : Card → List ℕ
encode_card c =
    be_digits card_bytes
    (pack card_widths
    (c.object
    ∷ c.size
    ∷ c.allocated
    ∷ c.changed.seconds
    ∷ c.changed.nanoseconds
    ∷ c.created.seconds
    ∷ c.created.nanoseconds
    ∷ 0
    ∷ []))

-- the 36 spare bits are zero
unfoldable pub card_spare_zero : List ℕ → Bool
card_spare_zero bytes = eqb (get_or (card_fields bytes) 7 0) 0

-- "Cards ascend by object"
unfoldable pub card_before : Card → Card → Bool
card_before c d = ltb c.object d.object
