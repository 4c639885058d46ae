-- The store that a change leaves, buffer by buffer.
-- Assumes nothing.
use mathlib.Core.Path.{◌≡◌, refl, sym, ap, ◌∙◌}
use mathlib.Core.Bool.{◌||◌}
use mathlib.Core.List.{List}
use Prim.Native.Nat.{ℕ}
use lib.ListN.{length, length-map}
use Rattle.rules.specs.Lists.{member}
use Rattle.rules.specs.Bytes.{bit_set}
use Rattle.rules.specs.Time.{Time}
use Rattle.rules.specs.Head.{Head, decode_head, encode_head}
use Rattle.rules.specs.Card.{card_bytes, decode_card, encode_card}
use Rattle.rules.specs.Extent.{extent_bytes, decode_extent, encode_extent}
use Rattle.rules.specs.Group.{group_bytes, decode_group, encode_group}
use Rattle.rules.specs.Map.{encode_map}
use Rattle.rules.specs.Book.{decode_book, decode_books, encode_book}
use Rattle.rules.specs.Store.{Store, decode, decode_with, head_of, encode_into}
use Rattle.rules.specs.Units.{Change}
use Rattle.rules.specs.Rewrite.{Rewritten, Progress}
use Rattle.rules.specs.Finish.{finished, finished_cards, finished_extents, finished_groups, finished_image, new_blocks, superseded_blocks}
use Rattle.rules.proofs.BookLaws.{length-decode_book}

-- each buffer is what the change leaves of it
pub record Left (c : Change) (time : Time) (rs : List Rewritten) (p : Progress) (s t : Store) : Type 0 where
  pub image : t.image ≡ finished_image rs s.image
  pub head : (e g : ℕ) → e ≡ length (finished_extents c.object rs (decode s).books.extents) → g ≡ length (finished_groups c.object rs (decode s).books.groups)
      → t.head ≡ encode_head (record {
        uuid = (decode_head s.head).uuid;
        blocks = (decode_head s.head).blocks;
        reserved = (decode_head s.head).reserved;
        hint = p.hint;
        cards = (decode_head s.head).cards;
        extents = e;
        groups = g;
      })
  pub cards : t.cards ≡ encode_book encode_card (length s.cards) (finished_cards c p.allocated time (decode s).books.cards)
  pub extents : t.extents ≡ encode_book encode_extent (length s.extents) (finished_extents c.object rs (decode s).books.extents)
  pub groups : t.groups ≡ encode_book encode_group (length s.groups) (finished_groups c.object rs (decode s).books.groups)
  pub used : t.used ≡ encode_map (decode s).blocks (λ n. bit_set s.used n || member n (new_blocks rs))
  pub retired : t.retired ≡ encode_map (decode s).blocks (λ n. bit_set s.retired n || member n (superseded_blocks rs))

-- such a store is the finished one
pub left-store : (c : Change) (time : Time) (rs : List Rewritten) (p : Progress) (s t : Store) → Left c time rs p s t
    → encode_into s (finished c time rs p (decode s)) ≡ t
unfolding encode_into finished head_of finished_cards decode decode_with decode_books
left-store c time rs p s t l =
    let h : Head = decode_head s.head in
    let n : length (finished_cards c p.allocated time (decode_book decode_card card_bytes h.cards s.cards)) ≡ h.cards =
    length-map (decode_book decode_card card_bytes h.cards s.cards) _ ∙ length-decode_book decode_card card_bytes h.cards s.cards in
    sym (λ i. record {
      image = l.image i;
      head = (l.head _ _ refl refl ∙ ap encode_head (λ j. record {
        uuid = h.uuid;
        blocks = h.blocks;
        reserved = h.reserved;
        hint = p.hint;
        cards = sym n j;
        extents = length (finished_extents c.object rs (decode_book decode_extent extent_bytes h.extents s.extents));
        groups = length (finished_groups c.object rs (decode_book decode_group group_bytes h.groups s.groups));
      })) i;
      cards = l.cards i;
      extents = l.extents i;
      groups = l.groups i;
      used = l.used i;
      retired = l.retired i;
    })
