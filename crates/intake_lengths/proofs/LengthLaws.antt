-- Refusal 1 of the rules is the tests of the lengths and of what the head says.
use Rattle.std.proofs.Common.{◌≡◌, refl, ap, not, ◌&&◌, List, ℕ, ◌/◌, eqb, leb, length}
use Rattle.std.proofs.Math.Bool.{and_assoc}
use Rattle.rules.specs.Head.{Head, decode_head}
use Rattle.rules.specs.Card.{card_bytes}
use Rattle.rules.specs.Extent.{extent_bytes}
use Rattle.rules.specs.Group.{group_bytes}
use Rattle.rules.specs.Book.{book_places}
use Rattle.rules.specs.Store.{Store, image_blocks}
use Rattle.rules.specs.Lengths.{image_fits, map_fits, book_fits, buffers_fit, head_length, head_fits, counts_fit, length_wrong, fresh_length_wrong}
use Rattle.intake_lengths.specs.LengthTests.{buffers_right, head_right}

module _ (s : Store) where
  -- the tests of the lengths are those of the rules
  pub buffers-are : buffers_fit s ≡ buffers_right (length s.image) (length s.cards) (length s.extents) (length s.groups) (length s.used) (length s.retired)
  unfolding buffers_fit image_fits map_fits book_fits image_blocks book_places
  buffers-are = refl

  -- so are those of the head
  pub head-is : (h : Head)
      → (head_fits s h && counts_fit s h) ≡ head_right (length s.image / 4096) (length s.cards / card_bytes) (length s.extents / extent_bytes) (length s.groups / group_bytes) h
  unfolding head_fits counts_fit image_blocks book_places
  head-is h = refl

  -- of every call but fresh
  pub wrong_is : length_wrong s
      ≡ not (buffers_right (length s.image) (length s.cards) (length s.extents) (length s.groups) (length s.used) (length s.retired)
      && eqb (length s.head) 28
      && head_right (length s.image / 4096) (length s.cards / card_bytes) (length s.extents / extent_bytes) (length s.groups / group_bytes) (decode_head s.head))
  unfolding length_wrong buffers_fit image_fits map_fits book_fits head_length head_fits counts_fit image_blocks book_places
  wrong_is =
      ap not (and_assoc (buffers_fit s && head_length s) (head_fits s (decode_head s.head)) (counts_fit s (decode_head s.head)))

  -- of fresh
  pub fresh_wrong_is : (u : List ℕ) (n : ℕ)
      → fresh_length_wrong u n s
      ≡ not (buffers_right (length s.image) (length s.cards) (length s.extents) (length s.groups) (length s.used) (length s.retired)
      && eqb (length u) 16
      && eqb (length s.head) 28
      && leb n (length s.image / 4096))
  unfolding fresh_length_wrong buffers_fit image_fits map_fits book_fits head_length image_blocks book_places
  fresh_wrong_is u n = refl
