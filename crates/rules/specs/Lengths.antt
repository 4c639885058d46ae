-- Refusal 1: "A length is wrong".
-- Assumes nothing.
use Rattle.std.specs.Prelude.{List, Bool, not, ◌&&◌, ℕ, ◌%◌, eqb, leb, length}
use Rattle.rules.specs.Sizes.{block_bytes, most_blocks, most_places}
use Rattle.rules.specs.Head.{Head, head_bytes, uuid_bytes, decode_head}
use Rattle.rules.specs.Card.{card_bytes}
use Rattle.rules.specs.Extent.{extent_bytes}
use Rattle.rules.specs.Group.{group_bytes}
use Rattle.rules.specs.Map.{map_bytes}
use Rattle.rules.specs.Book.{book_places}
use Rattle.rules.specs.Store.{Store, image_blocks}

-- not: "the image is not 1 to 65,536 whole blocks"
unfoldable pub image_fits : Store → Bool
image_fits s = eqb (length s.image % block_bytes) 0 && leb 1 (image_blocks s) && leb (image_blocks s) most_blocks

-- not: "a map does not fit it"
unfoldable pub map_fits : Store → List ℕ → Bool
map_fits s map = eqb (length map) (map_bytes (image_blocks s))

-- not: "a book is not whole records or has over 1,048,575 places"
unfoldable pub book_fits : ℕ → List ℕ → Bool
book_fits width book = eqb (length book % width) 0 && leb (book_places width book) most_places

-- the buffers but for the head
unfoldable pub buffers_fit : Store → Bool
buffers_fit s =
    image_fits s
    && (map_fits s s.used && map_fits s s.retired)
    && (book_fits card_bytes s.cards && book_fits extent_bytes s.extents && book_fits group_bytes s.groups)

-- not: "a head is not 28 bytes"
unfoldable pub head_length : Store → Bool
head_length s = eqb (length s.head) head_bytes

-- not: the head "has blocks other than the image's [..], or reserved exceeds blocks"
unfoldable pub head_fits : Store → Head → Bool
head_fits s h = eqb h.blocks (image_blocks s) && leb h.reserved h.blocks

-- not: "record numbers above the places"
unfoldable pub counts_fit : Store → Head → Bool
counts_fit s h =
    leb h.cards (book_places card_bytes s.cards)
    && leb h.extents (book_places extent_bytes s.extents)
    && leb h.groups (book_places group_bytes s.groups)

-- the case of refusal 1 for every call but fresh
unfoldable pub length_wrong : Store → Bool
length_wrong s =
    not (buffers_fit s && head_length s && head_fits s (decode_head s.head) && counts_fit s (decode_head s.head))

-- the case of refusal 1 for fresh, which does not read the head: "fresh's uuid is not 16 bytes", and reserved is the lent number
unfoldable pub fresh_length_wrong : List ℕ → ℕ → Store → Bool
fresh_length_wrong uuid reserved s =
    not (buffers_fit s && eqb (length uuid) uuid_bytes && head_length s && leb reserved (image_blocks s))
