-- The stores of the worked examples, and what is looked at in them.
-- Assumes nothing.
use mathlib.Core.List.{List, [], ◌∷◌, ◌++◌}
use mathlib.Core.Option.{some}
use Prim.Native.Nat.{ℕ, ◌*◌}
use lib.ListN.{replicate}
use Rattle.rules.specs.Bytes.{patch, padded, bit_set}
use Rattle.rules.specs.Time.{Time}
use Rattle.rules.specs.Head.{encode_head}
use Rattle.rules.specs.Card.{Card, card_bytes}
use Rattle.rules.specs.Extent.{Extent, extent_bytes}
use Rattle.rules.specs.Group.{Group, group_bytes, empty_group, set_checksum_slot}
use Rattle.rules.specs.Book.{Books}
use Rattle.rules.specs.Store.{Store, lent, decode, encode_into, with_books}
use Rattle.rules.specs.Call.{Call, call, run}
use Rattle.rules.specs.Call.Call.{fresh, enter, write, grow, settle}
use Rattle.rules.proofs.Opened.{opened}

-- a store of so many blocks, and books of so many places, all zeros
unfoldable pub zeros : ℕ → ℕ → ℕ → ℕ → Store
zeros blocks cards extents groups =
    lent (replicate (blocks * 4096) 0) (replicate 28 0) (replicate (cards * card_bytes) 0) (replicate (extents * extent_bytes) 0)
    (replicate (groups * group_bytes) 0)
    (replicate 8 0) (replicate 8 0)

-- so many seconds, and nanoseconds
abbrev pub time : ℕ → ℕ → Time
time seconds nanoseconds = record { seconds = seconds; nanoseconds = nanoseconds }

unfoldable pub uuid : List ℕ
uuid = replicate 16 1

-- file 7 with the bytes 1 to 5
unfoldable pub written : Store
written = run (fresh uuid 1 ∷ enter 7 (time 5 6) ∷ write 7 0 (1 ∷ 2 ∷ 3 ∷ 4 ∷ 5 ∷ []) (time 8 9) ∷ []) (zeros 4 2 1 2)

-- 1 2 9 9 5
unfoldable pub overwritten : Store
overwritten = run (write 7 2 (9 ∷ 9 ∷ []) (time 10 11) ∷ []) written

-- 1 2 9 9 5 0 0 0
unfoldable pub grown : Store
grown = run (grow 7 8 (time 12 13) ∷ []) overwritten

-- and its retired blocks free again
unfoldable pub done : Store
done = run (settle ∷ []) grown

-- ---- what is looked at

-- a call's number and count
unfoldable pub answer : Call → Store → ℕ × ℕ
answer c s = ((call c s).number, (call c s).count)

-- what its books hold
unfoldable pub extents : Store → List Extent
extents s = (decode s).books.extents

unfoldable pub cards : Store → List Card
cards s = (decode s).books.cards

-- an extent of file 7: its logical and physical blocks, and their number
unfoldable pub extent : ℕ → ℕ → ℕ → Extent
extent logical physical count = record { object = 7; logical = logical; physical = physical; count = count }

-- a card of file 7, made when the history enters it
unfoldable pub card : ℕ → ℕ → ℕ → ℕ → Card
card size allocated seconds nanoseconds =
    record { object = 7; size = size; allocated = allocated; changed = time seconds nanoseconds; created = time 5 6 }

-- ---- damaged copies

-- the store with another head
unfoldable pub with_head : List ℕ → Store → Store
with_head head s = lent s.image head s.cards s.extents s.groups s.used s.retired

-- with a head of these blocks, reserved ones and records
unfoldable pub headed : (blocks reserved cards extents groups : ℕ) → Store → Store
headed blocks reserved cards extents groups s =
    with_head (encode_head (record {
      uuid = uuid;
      blocks = blocks;
      reserved = reserved;
      hint = 0;
      cards = cards;
      extents = extents;
      groups = groups;
    })) s

-- with these maps, the first byte of each: the blocks of these stores are few
unfoldable pub mapped : ℕ → ℕ → Store → Store
mapped used retired s =
    lent s.image s.head s.cards s.extents s.groups (used ∷ replicate 7 0) (retired ∷ replicate 7 0)

-- with another byte in its image
unfoldable pub image_byte : ℕ → ℕ → Store → Store
image_byte at b s = lent (patch s.image at (b ∷ [])) s.head s.cards s.extents s.groups s.used s.retired

-- in its card book
unfoldable pub card_byte : ℕ → ℕ → Store → Store
card_byte at b s = lent s.image s.head (patch s.cards at (b ∷ [])) s.extents s.groups s.used s.retired

-- in its extent book
unfoldable pub extent_byte : ℕ → ℕ → Store → Store
extent_byte at b s = lent s.image s.head s.cards (patch s.extents at (b ∷ [])) s.groups s.used s.retired

-- in its group book
unfoldable pub group_byte : ℕ → ℕ → Store → Store
group_byte at b s = lent s.image s.head s.cards s.extents (patch s.groups at (b ∷ [])) s.used s.retired

-- with these books
unfoldable pub booked : List Card → List Extent → List Group → Store → Store
booked cs es gs s = encode_into s (with_books (record { cards = cs; extents = es; groups = gs }) (decode s))

-- with these cards
unfoldable pub with_cards : List Card → Store → Store
with_cards cs s = booked cs (decode s).books.extents (decode s).books.groups s

-- with these cards and extents
unfoldable pub with_files : List Card → List Extent → Store → Store
with_files cs es s = booked cs es (decode s).books.groups s

-- with these groups
unfoldable pub with_groups : List Group → Store → Store
with_groups gs s = booked (decode s).books.cards (decode s).books.extents gs s

-- file 8 entered too
unfoldable pub second : Store → Store
second s = run (enter 8 (time 1 1) ∷ []) s

-- ---- stores made from their records: no call is computed for them

-- a group of file 7 with this checksum of its first unit
unfoldable pub zeroth : ℕ → Group
zeroth crc = set_checksum_slot (empty_group 7 0) 0 (some crc)

-- the store of this volume's records, block 0 reserved, hint 0 and none retired; its books have two card places and so many of extents and groups
unfoldable pub made : (blocks extents groups : ℕ) → Books → (used : ℕ) → (image : List ℕ) → Store
made blocks extents groups books used image = encode_into (zeros blocks 2 extents groups) (record {
  uuid = uuid;
  blocks = blocks;
  reserved = 1;
  hint = 0;
  books = books;
  used = bit_set (used ∷ []);
  retired = bit_set [];
  image = image;
})

-- file 7 as the history of `Run` leaves it; the places are parameters
unfoldable pub small : ℕ → ℕ → Store
small extents groups =
    made 4 extents groups (record { cards = card 8 1 12 13 ∷ []; extents = extent 0 3 1 ∷ []; groups = zeroth 3593734301 ∷ [] }) 9
    (padded 4096 []
    ++ padded 4096 (1 ∷ 2 ∷ 3 ∷ 4 ∷ 5 ∷ [])
    ++ padded 4096 (1 ∷ 2 ∷ 9 ∷ 9 ∷ 5 ∷ [])
    ++ padded 4096 (1 ∷ 2 ∷ 9 ∷ 9 ∷ 5 ∷ 0 ∷ 0 ∷ 0 ∷ []))

-- ---- all of them opened by one name, with every definition of `rules`

unfoldable pub computed : Unit {0}
unfolding opened zeros uuid written overwritten grown done answer extents cards extent card with_head headed mapped image_byte card_byte extent_byte group_byte booked with_cards with_files with_groups second zeroth made small
computed = tt
