-- The buffers that a call leaves, told one by one: those that it does not change are the lent ones. One law for every call: a store of bytes that passes
-- refusals 1 and 2 is, buffer by buffer, what its volume is encoded as.
-- Assumes nothing.
use mathlib.Core.Path.{◌≡◌, refl, ap}
use mathlib.Core.List.{List, [], flat_map}
use mathlib.Core.Bool.{false, not, ◌&&◌}
use Prim.Native.Nat.{ℕ, ◌-◌}
use native.Mathlib.Omega.{arith}
use lib.Dec.{ltb}
use lib.ListN.{length, replicate}
use Rattle.rules.specs.Lists.{insert}
use Rattle.rules.specs.Bytes.{padded}
use Rattle.rules.specs.Head.{encode_head}
use Rattle.rules.specs.Card.{Card, card_before, encode_card}
use Rattle.rules.specs.Extent.{encode_extent}
use Rattle.rules.specs.Group.{encode_group}
use Rattle.rules.specs.Map.{encode_map}
use Rattle.rules.specs.Book.{encode_book}
use Rattle.rules.specs.Store.{Store, lent, StoreBytes, decode, decode_with, head_of, encode_into, image_blocks}
use Rattle.rules.specs.Fresh.{fresh_volume}
use Rattle.rules.specs.Enter.{entered}
use Rattle.rules.specs.Settle.{settled}
use Rattle.rules.proofs.PassLaws.{Passes, encode-after-decode}

-- the store's buffers are those that say its volume
pub record Again (s : Store) : Type 0 where
  pub head : encode_head (head_of (decode s)) ≡ s.head
  pub cards : encode_book encode_card (length s.cards) (decode s).books.cards ≡ s.cards
  pub extents : encode_book encode_extent (length s.extents) (decode s).books.extents ≡ s.extents
  pub groups : encode_book encode_group (length s.groups) (decode s).books.groups ≡ s.groups
  pub used : encode_map (decode s).blocks (decode s).used ≡ s.used
  pub retired : encode_map (decode s).blocks (decode s).retired ≡ s.retired

-- so it is with a store that passes
pub again : (s : Store) → Passes s → StoreBytes s → Again s
unfolding encode_into
again s p b =
    let e : encode_into s (decode s) ≡ s = encode-after-decode s p b in
    record {
      head = ap (λ (t : Store). t.head) e;
      cards = ap (λ (t : Store). t.cards) e;
      extents = ap (λ (t : Store). t.extents) e;
      groups = ap (λ (t : Store). t.groups) e;
      used = ap (λ (t : Store). t.used) e;
      retired = ap (λ (t : Store). t.retired) e;
    }

-- a book with no record is zeros
empty-book : {A : Type 0} (encode : A → List ℕ) (size : ℕ) → encode_book encode size [] ≡ replicate size 0
unfolding encode_book padded flat_map
empty-book encode size = let e : size - 0 ≡ size = omega arith in ap (λ (n : ℕ). replicate n 0) e

-- what fresh leaves
pub fresh-left : (uuid : List ℕ) (reserved : ℕ) (s : Store) → encode_into s (fresh_volume uuid reserved s) ≡ lent s.image (encode_head (head_of (fresh_volume uuid reserved s)))
    (replicate (length s.cards) 0) (replicate (length s.extents) 0) (replicate (length s.groups) 0)
    (encode_map (image_blocks s) (λ n. ltb n reserved)) (encode_map (image_blocks s) (λ n. false))
unfolding encode_into fresh_volume
fresh-left uuid reserved s =
    rw (empty-book encode_card (length s.cards), empty-book encode_extent (length s.extents), empty-book encode_group (length s.groups)) refl

module _ (s : Store) (p : Passes s) (b : StoreBytes s) where
  -- what enter leaves: another head and another card book
  pub enter-left : (c : Card) → encode_into s (entered c (decode s)) ≡ lent s.image (encode_head (head_of (entered c (decode s))))
      (encode_book encode_card (length s.cards) (insert card_before c (decode s).books.cards)) s.extents s.groups s.used s.retired
  unfolding encode_into entered
  enter-left c =
      let a : Again s = again s p b in
      let m : (decode s).image ≡ s.image = unfold decode decode_with in refl in
      rw (a.extents, a.groups, a.used, a.retired, m) refl

  -- what settle leaves: other maps
  pub settle-left : encode_into s (settled (decode s)) ≡ lent s.image s.head s.cards s.extents s.groups
      (encode_map (decode s).blocks (λ n. (decode s).used n && not ((decode s).retired n))) (encode_map (decode s).blocks (λ n. false))
  unfolding encode_into settled
  settle-left =
      let a : Again s = again s p b in
      let m : (decode s).image ≡ s.image = unfold decode decode_with in refl in
      let h : encode_head (head_of (settled (decode s))) ≡ s.head = unfold settled head_of in a.head in
      rw (h, a.cards, a.extents, a.groups, m) refl
