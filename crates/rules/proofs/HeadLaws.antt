-- The head: what its bytes say is what was written, and the other way round.
-- Assumes nothing.
use mathlib.Core.Path.{◌≡◌, refl, ap, ◌∙◌}
use mathlib.Core.List.{List, [], ◌∷◌, ◌++◌}
use Prim.Native.Nat.{ℕ, ◌*◌, ◌^◌, ◌<◌}
use native.Mathlib.Omega.{arith}
use lib.ListN.{length, take, drop, get_or, length-append, length-drop, take-append-drop}
use lib.Seq.{take_at, drop_at, length-take-le}
use Rattle.rules.specs.Bytes.{Bytes, be, be_digits, bits_of, pack, unpack}
use Rattle.rules.specs.Head.{Head, head_bytes, uuid_bytes, head_widths, head_fields, decode_head, encode_head}
use Rattle.rules.proofs.ByteLaws.{length-be_digits, bytes-be_digits, bytes-append, bytes_take, bytes_drop}
use Rattle.rules.proofs.FieldLaws.{Fit, fit_none, fit-one, fit_at, fit-unpack, unpack-bytes, pack-bytes}

-- every field of the head is in its range
pub record HeadFits (h : Head) : Type 0 where
  pub uuid_length : length h.uuid ≡ uuid_bytes
  pub uuid : Bytes h.uuid
  pub blocks : h.blocks < 2 ^ 17
  pub reserved : h.reserved < 2 ^ 17
  pub hint : h.hint < 2 ^ 2
  pub cards : h.cards < 2 ^ 20
  pub extents : h.extents < 2 ^ 20
  pub groups : h.groups < 2 ^ 20

-- the fields behind the uuid, in their order
values : Head → List ℕ
values h = h.blocks ∷ h.reserved ∷ h.hint ∷ h.cards ∷ h.extents ∷ h.groups ∷ []

-- they fit their widths
fit-head : (h : Head) → HeadFits h → Fit head_widths (values h)
unfolding values
fit-head h f = fit-one f.blocks (fit-one f.reserved (fit-one f.hint (fit-one f.cards (fit-one f.extents (fit-one f.groups fit_none)))))

-- the widths fill 12 bytes
twelve : bits_of head_widths ≡ 8 * 12
unfolding bits_of
twelve = refl

-- the fields that were written are read
fields-encode_head : (h : Head) → HeadFits h → head_fields (encode_head h) ≡ values h
unfolding head_fields encode_head values
fields-encode_head h f =
    rw (drop_at h.uuid (be_digits 12 (pack head_widths (values h))) uuid_bytes f.uuid_length) (unpack-bytes 12 head_widths twelve (fit-head h f))

-- the head that was written is read
pub decode-encode_head : (h : Head) → HeadFits h → decode_head (encode_head h) ≡ h
unfolding decode_head values
decode-encode_head h f =
    let u : take uuid_bytes (encode_head h) ≡ h.uuid = unfold encode_head in take_at h.uuid (be_digits 12 (pack head_widths (values h))) uuid_bytes f.uuid_length in
    let v : head_fields (encode_head h) ≡ values h = fields-encode_head h f in
    λ i. record {
      uuid = u i;
      blocks = get_or (v i) 0 0;
      reserved = get_or (v i) 1 0;
      hint = get_or (v i) 2 0;
      cards = get_or (v i) 3 0;
      extents = get_or (v i) 4 0;
      groups = get_or (v i) 5 0;
    }

-- the bytes that were read are written
pub encode-decode_head : (s : List ℕ) → length s ≡ head_bytes → Bytes s → encode_head (decode_head s) ≡ s
unfolding decode_head encode_head head_fields unpack
encode-decode_head s e b =
    let p : be_digits 12 (pack head_widths (unpack head_widths (be (drop uuid_bytes s)))) ≡ drop uuid_bytes s =
    pack-bytes 12 head_widths twelve (drop uuid_bytes s) (rw (length-drop uuid_bytes s, e) refl) (bytes_drop uuid_bytes s b) in
    ap (λ (t : List ℕ). take uuid_bytes s ++ t) p ∙ take-append-drop uuid_bytes s

-- what 28 bytes say is in range
pub fits-decode_head : (s : List ℕ) → length s ≡ head_bytes → Bytes s → HeadFits (decode_head s)
unfolding decode_head head_fields
fits-decode_head s e b =
    let f : Fit head_widths (unpack head_widths (be (drop uuid_bytes s))) = fit-unpack head_widths (be (drop uuid_bytes s)) in
    record {
      uuid_length = length-take-le uuid_bytes s (omega arith);
      uuid = bytes_take uuid_bytes s b;
      blocks = fit_at f 0 (omega arith);
      reserved = fit_at f 1 (omega arith);
      hint = fit_at f 2 (omega arith);
      cards = fit_at f 3 (omega arith);
      extents = fit_at f 4 (omega arith);
      groups = fit_at f 5 (omega arith);
    }

-- a head takes 28 bytes
pub length-encode_head : (h : Head) → length h.uuid ≡ uuid_bytes → length (encode_head h) ≡ head_bytes
unfolding encode_head
length-encode_head h e = rw (length-append, e, length-be_digits) refl

-- each of them a byte
pub bytes-encode_head : (h : Head) → Bytes h.uuid → Bytes (encode_head h)
unfolding encode_head
bytes-encode_head h b = bytes-append h.uuid _ b (bytes-be_digits 12 _)
