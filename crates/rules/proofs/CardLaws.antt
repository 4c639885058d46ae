-- A card: what its bytes say is what was written, and the other way round.
-- Assumes nothing.
use mathlib.Core.Path.{◌≡◌, refl, sym, ap, ◌∙◌}
use mathlib.Core.List.{List, [], ◌∷◌}
use mathlib.Core.Bool.{true}
use Prim.Native.Nat.{ℕ, ◌*◌, ◌^◌, ◌<◌}
use native.Mathlib.Omega.{arith}
use lib.ListN.{length, get_or}
use borrow.Author.Tests.{eqb-true}
use Rattle.rules.specs.Time.{Time}
use Rattle.rules.specs.Bytes.{Bytes, be, be_digits, bits_of, pack, unpack}
use Rattle.rules.specs.Card.{Card, card_bytes, card_widths, card_fields, decode_card, encode_card, card_spare_zero}
use Rattle.rules.proofs.ByteLaws.{length-be_digits, bytes-be_digits}
use Rattle.rules.proofs.FieldLaws.{Fit, fit_none, fit-one, fit_at, fit-unpack, unpack-bytes, pack-bytes}
use Rattle.rules.proofs.BookLaws.{Codes}

-- both numbers of a time are in the range that a card has for them
pub record TimeFits (t : Time) : Type 0 where
  pub seconds : t.seconds < 2 ^ 63
  pub nanoseconds : t.nanoseconds < 2 ^ 30

-- every field of the card is in its range
pub record CardFits (c : Card) : Type 0 where
  pub object : c.object < 2 ^ 64
  pub size : c.size < 2 ^ 63
  pub allocated : c.allocated < 2 ^ 35
  pub changed : TimeFits c.changed
  pub created : TimeFits c.created

-- the fields in their order, the spare bits zero
values : Card → List ℕ
values c = c.object ∷ c.size ∷ c.allocated ∷ c.changed.seconds ∷ c.changed.nanoseconds ∷ c.created.seconds ∷ c.created.nanoseconds ∷ 0 ∷ []

-- they fit their widths
fit-card : (c : Card) → CardFits c → Fit card_widths (values c)
unfolding values
fit-card c f =
    fit-one f.object (fit-one f.size (fit-one f.allocated (fit-one f.changed.seconds (fit-one f.changed.nanoseconds
    (fit-one f.created.seconds (fit-one f.created.nanoseconds (fit-one {w = 36} {v = 0} (omega arith) fit_none)))))))

-- the widths fill the card's bytes
filled : bits_of card_widths ≡ 8 * card_bytes
unfolding bits_of
filled = refl

-- the fields that were written are read
fields-encode_card : (c : Card) → CardFits c → card_fields (encode_card c) ≡ values c
unfolding card_fields encode_card values
fields-encode_card c f = unpack-bytes card_bytes card_widths filled (fit-card c f)

-- the card that was written is read
pub decode-encode_card : (c : Card) → CardFits c → decode_card (encode_card c) ≡ c
unfolding decode_card values
decode-encode_card c f =
    let v : card_fields (encode_card c) ≡ values c = fields-encode_card c f in
    λ i. record {
      object = get_or (v i) 0 0;
      size = get_or (v i) 1 0;
      allocated = get_or (v i) 2 0;
      changed = record { seconds = get_or (v i) 3 0; nanoseconds = get_or (v i) 4 0 };
      created = record { seconds = get_or (v i) 5 0; nanoseconds = get_or (v i) 6 0 };
    }

-- the bytes that were read are written
pub encode-decode_card : (s : List ℕ) → length s ≡ card_bytes → Bytes s → card_spare_zero s ≡ true → encode_card (decode_card s) ≡ s
unfolding decode_card encode_card card_fields card_spare_zero unpack
encode-decode_card s e b z =
    let v : List ℕ = unpack card_widths (be s) in
    let n : get_or v 7 0 ≡ 0 = eqb-true (get_or v 7 0) 0 z in
    ap (λ (x : ℕ). be_digits card_bytes (pack card_widths (get_or v 0 0 ∷ get_or v 1 0 ∷ get_or v 2 0 ∷ get_or v 3 0 ∷ get_or v 4 0 ∷ get_or v 5 0 ∷ get_or v 6 0 ∷ x ∷ []))) (sym n)
    ∙ pack-bytes card_bytes card_widths filled s e b

-- what a card's bytes say is in range
pub fits-decode_card : (s : List ℕ) → CardFits (decode_card s)
unfolding decode_card card_fields
fits-decode_card s =
    let f : Fit card_widths (unpack card_widths (be s)) = fit-unpack card_widths (be s) in
    record {
      object = fit_at f 0 (omega arith);
      size = fit_at f 1 (omega arith);
      allocated = fit_at f 2 (omega arith);
      changed = record { seconds = fit_at f 3 (omega arith); nanoseconds = fit_at f 4 (omega arith) };
      created = record { seconds = fit_at f 5 (omega arith); nanoseconds = fit_at f 6 (omega arith) };
    }

-- a card takes as many bytes
pub length-encode_card : (c : Card) → length (encode_card c) ≡ card_bytes
unfolding encode_card
length-encode_card c = length-be_digits card_bytes _

-- each of them a byte
pub bytes-encode_card : (c : Card) → Bytes (encode_card c)
unfolding encode_card
bytes-encode_card c = bytes-be_digits card_bytes _

-- the spare bits are written zero
pub spare-encode_card : (c : Card) → CardFits c → card_spare_zero (encode_card c) ≡ true
unfolding card_spare_zero values
spare-encode_card c f = rw (fields-encode_card c f) refl

-- a book may hold it
pub codes-card : (c : Card) → CardFits c → Codes encode_card decode_card card_bytes c
codes-card c f = record { wide = length-encode_card c; back = decode-encode_card c f }
