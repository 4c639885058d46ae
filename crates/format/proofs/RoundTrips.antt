-- Records written and read again at their place, and read and written again: the laws of rules on bytes, at a place of a slice, for what the
-- code's structs say. The head has its buffer to itself, so the laws of rules are those of the code as they stand.
-- Assumes nothing.
use mathlib.Core.Path.{◌≡◌, ap, ◌∙◌}
use mathlib.Core.Bool.{true}
use mathlib.Core.List.{List}
use Prim.Native.Nat.{ℕ, ◌+◌, ◌^◌, ◌≤◌, ◌<◌}
use lib.ListN.{length}
use Rattle.rules.specs.Bytes.{Bytes, part, patch}
use Rattle.rules.specs.Card.{card_bytes, decode_card, encode_card, card_spare_zero}
use Rattle.rules.specs.Extent.{extent_bytes, decode_extent, encode_extent, extent_fixed}
use Rattle.rules.proofs.ByteLaws.{bytes-part, length_part, part-patch, patch-part}
use Rattle.rules.proofs.CardLaws.{decode-encode_card, encode-decode_card, length-encode_card}
use Rattle.rules.proofs.ExtentLaws.{decode-encode_extent, encode-decode_extent, length-encode_extent}
use Rattle.format.specs.declared.card.Card.{Card}
use Rattle.format.specs.declared.extent.Extent.{Extent}
use Rattle.format.specs.Records.{card_of, CardFits, extent_of}
use Rattle.format.proofs.RecordLaws.{card-in-range}

module _ {A : Type 0} (encode : A → List ℕ) (decode : List ℕ → A) (w : ℕ) (s : List ℕ) (at : ℕ) (l : at + w ≤ length s) where
  -- what is written at a place is read there
  pub read-written : (r : A) → length (encode r) ≡ w → decode (encode r) ≡ r → decode (part at w (patch s at (encode r))) ≡ r
  read-written r e d = ap decode (part-patch s at w (encode r) e l) ∙ d

  -- what is read at a place and written there changes nothing
  pub written_read : encode (decode (part at w s)) ≡ part at w s → patch s at (encode (decode (part at w s))) ≡ s
  written_read e = ap (patch s at) e ∙ patch-part s at w l

module _ (s : List ℕ) (at : ℕ) where
  -- an extent that is written is read; its fields are of 64 bits, and of 32
  pub extent-back : (e : Extent) → at + extent_bytes ≤ length s → e.object < 2 ^ 64 → e.logical < 2 ^ 64 → e.physical < 2 ^ 64 → e.count < 2 ^ 32
      → decode_extent (part at extent_bytes (patch s at (encode_extent (extent_of e)))) ≡ extent_of e
  unfolding extent_of
  extent-back e l o b p c =
      read-written encode_extent decode_extent extent_bytes s at l (extent_of e) (length-encode_extent (extent_of e))
      (decode-encode_extent (extent_of e) (record { object = o; logical = b; physical = p; count = c }))

  -- one that is read and written changes nothing
  pub extent-kept : at + extent_bytes ≤ length s → Bytes s → extent_fixed (part at extent_bytes s) ≡ true
      → patch s at (encode_extent (decode_extent (part at extent_bytes s))) ≡ s
  extent-kept l b x =
      written_read encode_extent decode_extent extent_bytes s at l
      (encode-decode_extent (part at extent_bytes s) (length_part s at extent_bytes l) (bytes-part s at extent_bytes b) x)

  -- a card that is written is read
  pub card-back : (c : Card) → at + card_bytes ≤ length s → c.object < 2 ^ 64 → CardFits c
      → decode_card (part at card_bytes (patch s at (encode_card (card_of c)))) ≡ card_of c
  card-back c l o f =
      read-written encode_card decode_card card_bytes s at l (card_of c) (length-encode_card (card_of c)) (decode-encode_card (card_of c) (card-in-range c o f))

  -- one that is read and written changes nothing
  pub card-kept : at + card_bytes ≤ length s → Bytes s → card_spare_zero (part at card_bytes s) ≡ true
      → patch s at (encode_card (decode_card (part at card_bytes s))) ≡ s
  card-kept l b x =
      written_read encode_card decode_card card_bytes s at l
      (encode-decode_card (part at card_bytes s) (length_part s at card_bytes l) (bytes-part s at card_bytes b) x)
