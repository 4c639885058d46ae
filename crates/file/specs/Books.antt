-- What a change leaves of each buffer but the image and the groups, in the words of the functions that change them.
-- Assumes nothing.
use Rattle.std.specs.Prelude.{◌≡◌, ◌||◌, List, ℕ, ◌+◌, length}
use Rattle.rules.specs.Lists.{member}
use Rattle.rules.specs.Bytes.{bit_set}
use Rattle.rules.specs.Map.{map_bytes, encode_map}
use Rattle.rules.specs.Head.{decode_head, encode_head}
use Rattle.rules.specs.Card.{card_bytes, decode_card, encode_card}
use Rattle.rules.specs.Extent.{encode_extent}
use Rattle.rules.specs.Book.{decode_book, encode_book}
use Rattle.rules.specs.Units.{Change}
use Rattle.rules.specs.Rewrite.{Rewritten}
use Rattle.rules.specs.Kept.{superseded}
use Rattle.rules.specs.Finish.{finished_cards, finished_extents}
use Rattle.mapping.specs.Entries.{entries, extents_in}
use Rattle.finish_books.specs.Buffers.{new_of, finished_head}
use Rattle.finish_extents.specs.Stretch.{Describes, Finished}

-- the maps: the new blocks are used, and the old ones that are not kept are retired
pub record MapsLeft (used retired old kept blocks used_after retired_after : List ℕ) : Type 0 where
  pub used_left : (b : ℕ) → length used ≡ map_bytes b → used_after ≡ encode_map b (λ k. bit_set used k || member k (new_of kept blocks))
  pub retired_left : (b : ℕ) → length retired ≡ map_bytes b
      → retired_after ≡ encode_map b (λ k. bit_set retired k || member k (superseded (entries old) (entries kept)))

-- the book of m extents: for whatever units the exchange was made, it has their finished extents
pub record ExtentsLeft (m place cut count : ℕ) (made extents after : List ℕ) : Type 0 where
  pub extents_left : (o : ℕ) (vs cs : List ℕ) (qs : List Rewritten) → Finished o vs cs (extents_in m extents) place (place + cut) count made → Describes vs cs qs
      → after ≡ encode_book encode_extent (length extents) (finished_extents o qs (extents_in m extents))

-- the cards, of which there are n, and the head with its new numbers of extents and groups
pub record RecordsLeft (n object size allocated seconds nanoseconds hint extents groups : ℕ) (head cards head_after cards_after : List ℕ) : Type 0 where
  pub head_left : head_after ≡ encode_head (finished_head hint extents groups (decode_head head))
  pub cards_left : (d : Change) → d.object ≡ object → d.new_size ≡ size
      → cards_after ≡ encode_book encode_card (length cards) (finished_cards d allocated (record { seconds = seconds; nanoseconds = nanoseconds }) (decode_book decode_card card_bytes n cards))
