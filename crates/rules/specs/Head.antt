-- Document 01, "Head": made by fresh, read by all.
-- Assumes nothing.
use Rattle.std.specs.Prelude.{List, [], ◌∷◌, ◌++◌, ℕ, take, drop, get_or}
use Rattle.rules.specs.Bytes.{be, be_digits, pack, unpack}

-- what a head says: the store's uuid, its blocks, how many of them are reserved, the allocation group to begin in, and the numbers of records
pub record Head : Type 0 where
  pub uuid : List ℕ
  pub blocks : ℕ
  pub reserved : ℕ
  pub hint : ℕ
  pub cards : ℕ
  pub extents : ℕ
  pub groups : ℕ

-- "28 bytes, fields packed most significant bit first"
abbrev pub head_bytes : ℕ
head_bytes = 28

-- "uuid 128 bits"
abbrev pub uuid_bytes : ℕ
uuid_bytes = 16

-- behind the uuid: "blocks 17, reserved 17, hint 2 (allocation group), then the numbers of cards, extents and groups, 20 each"
abbrev pub head_widths : List ℕ
head_widths = 17 ∷ 17 ∷ 2 ∷ 20 ∷ 20 ∷ 20 ∷ []

-- the fields behind the uuid, in their order
unfoldable pub head_fields : List ℕ → List ℕ
head_fields bytes = unpack head_widths (be (drop uuid_bytes bytes))

-- what the 28 bytes say
unfoldable pub decode_head : List ℕ → Head
decode_head bytes = record {
  uuid = take uuid_bytes bytes;
  blocks = get_or (head_fields bytes) 0 0;
  reserved = get_or (head_fields bytes) 1 0;
  hint = get_or (head_fields bytes) 2 0;
  cards = get_or (head_fields bytes) 3 0;
  extents = get_or (head_fields bytes) 4 0;
  groups = get_or (head_fields bytes) 5 0;
}

-- the 28 bytes that say it
unfoldable pub encode_head : Head → List ℕ
encode_head h =
    h.uuid ++ be_digits 12 (pack head_widths (h.blocks ∷ h.reserved ∷ h.hint ∷ h.cards ∷ h.extents ∷ h.groups ∷ []))
