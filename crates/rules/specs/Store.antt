-- The store in its two views: the lent buffers, and what they say.
-- Assumes nothing.
use Rattle.std.specs.Prelude.{List, Bool, ℕ, ◌/◌, ◌*◌, eqb, length}
use Rattle.std.proofs.Math.Option.{Option, none, some}
use Rattle.rules.specs.Lists.{maybe, find}
use Rattle.rules.specs.Time.{Time}
use Rattle.rules.specs.Sizes.{block_bytes}
use Rattle.rules.specs.Bytes.{part, bit_set, Bytes}
use Rattle.rules.specs.Head.{Head, decode_head, encode_head}
use Rattle.rules.specs.Card.{Card, encode_card}
use Rattle.rules.specs.Extent.{encode_extent}
use Rattle.rules.specs.Group.{encode_group}
use Rattle.rules.specs.Map.{encode_map}
use Rattle.rules.specs.Book.{Books, LentBooks, decode_books, encode_book}

-- "The store's buffers are the image, the head, the three books, both maps": "Each call lends the whole store."
pub record Store : Type 0 where
  pub image : List ℕ
  pub head : List ℕ
  pub cards : List ℕ
  pub extents : List ℕ
  pub groups : List ℕ
  pub used : List ℕ
  pub retired : List ℕ

-- the store of these buffers, in the order in which a call is lent them
abbrev pub lent : (image head cards extents groups used retired : List ℕ) → Store
lent image head cards extents groups used retired = record {
  image = image;
  head = head;
  cards = cards;
  extents = extents;
  groups = groups;
  used = used;
  retired = retired;
}

-- every buffer is one of bytes
pub record StoreBytes (s : Store) : Type 0 where
  pub image : Bytes s.image
  pub head : Bytes s.head
  pub cards : Bytes s.cards
  pub extents : Bytes s.extents
  pub groups : Bytes s.groups
  pub used : Bytes s.used
  pub retired : Bytes s.retired

-- what the buffers say
pub record Volume : Type 0 where
  pub uuid : List ℕ
  pub blocks : ℕ
  pub reserved : ℕ
  pub hint : ℕ
  pub books : Books
  pub used : ℕ → Bool
  pub retired : ℕ → Bool
  pub image : List ℕ

-- the store's books, with the numbers of records that a head has
abbrev pub lent_books : Head → Store → LentBooks
lent_books h s = record {
  cards = s.cards;
  card_count = h.cards;
  extents = s.extents;
  extent_count = h.extents;
  groups = s.groups;
  group_count = h.groups;
}

-- the volume that the store with this head says
unfoldable pub decode_with : Head → Store → Volume
decode_with h s = record {
  uuid = h.uuid;
  blocks = h.blocks;
  reserved = h.reserved;
  hint = h.hint;
  books = decode_books (lent_books h s);
  used = bit_set s.used;
  retired = bit_set s.retired;
  image = s.image;
}

-- what the store says
unfoldable pub decode : Store → Volume
decode s = decode_with (decode_head s.head) s

-- the volume with other books, maps, image and hint
abbrev pub remade : Books → (used retired : ℕ → Bool) → (image : List ℕ) → (hint : ℕ) → Volume → Volume
remade books used retired image hint v = record {
  uuid = v.uuid;
  blocks = v.blocks;
  reserved = v.reserved;
  hint = hint;
  books = books;
  used = used;
  retired = retired;
  image = image;
}

-- with other books alone
abbrev pub with_books : Books → Volume → Volume
with_books books v = remade books v.used v.retired v.image v.hint v

-- with other maps alone
abbrev pub with_maps : (used retired : ℕ → Bool) → Volume → Volume
with_maps used retired v = remade v.books used retired v.image v.hint v

-- the head of a volume
unfoldable pub head_of : Volume → Head
head_of v = record {
  uuid = v.uuid;
  blocks = v.blocks;
  reserved = v.reserved;
  hint = v.hint;
  cards = length v.books.cards;
  extents = length v.books.extents;
  groups = length v.books.groups;
}

-- the buffers that say it, the books of the same sizes as those of the store s
unfoldable pub encode_into : Store → Volume → Store
encode_into s v = record {
  image = v.image;
  head = encode_head (head_of v);
  cards = encode_book encode_card (length s.cards) v.books.cards;
  extents = encode_book encode_extent (length s.extents) v.books.extents;
  groups = encode_book encode_group (length s.groups) v.books.groups;
  used = encode_map v.blocks v.used;
  retired = encode_map v.blocks v.retired;
}

-- the whole blocks of the image
unfoldable pub image_blocks : Store → ℕ
image_blocks s = length s.image / block_bytes

-- the bytes of one block of an image
unfoldable pub block_at : List ℕ → ℕ → List ℕ
block_at image block = part (block * block_bytes) block_bytes image

-- an object's card
unfoldable pub card_of : Volume → ℕ → Option Card
card_of v object = find (λ c. eqb c.object object) v.books.cards

-- when its file was made, as the card says
unfoldable pub created_of : Volume → ℕ → Option Time
created_of v object = maybe none (λ c. some c.created) (card_of v object)
