-- A group: what its bytes say is what was written, and the other way round.
-- Assumes nothing.
use mathlib.Core.Path.{◌≡◌, refl, sym, ap, ◌∙◌}
use mathlib.Core.List.{List, [], ◌∷◌, ◌++◌, map, flat_map, zip_with, append_assoc, append-nil}
use mathlib.Core.Bool.{Bool, true, false, ◌||◌}
use mathlib.Core.Option.{Option, none, some}
use Prim.Native.Nat.{ℕ, ◌*◌, ◌^◌, ◌≤◌, ◌<◌}
use native.Mathlib.Nat.{zero-add}
use native.Mathlib.Omega.{arith}
use lib.Dec.{eqb}
use lib.ListN.{length, drop, get_or, length-append, length-drop, length-map, take-append-drop}
use lib.Seq.{ext_get_or, take_all, drop_at}
use borrow.Author.Tests.{eqb-true, eq-eqb}
use Rattle.rules.specs.Lists.{pick◌then◌else◌, maybe, given, range, all}
use Rattle.rules.specs.Sizes.{group_units}
use Rattle.rules.specs.Bytes.{pieces, Bytes, be, le, le_digits, part, bit_set, bit_bytes}
use Rattle.rules.specs.Group.{Group, group_bytes, group_key, presence, slot_bytes, encode_group, slot_values, presence_bits, decode_group, group_fixed, absent_zero}
use Rattle.rules.proofs.ListLaws.{Each, each_none, each_more, each-any, each_both, each_map, and_left, and_right, length-range, get_d_map, get_or-map-range, get_or-zip_with, length-zip_with}
use Rattle.rules.proofs.ByteLaws.{be-part-lt, length-le_digits, bytes-le_digits, bytes-append, bytes-part, bytes_drop, le-le_digits-fits, le_digits-le-at, le-lt, length_part, part-add, part-middle}
use Rattle.rules.proofs.BitLaws.{length-bit_bytes, bytes-bit_bytes, bit_set-bit_bytes, bits-ext}
use Rattle.rules.proofs.KeyLaws.{key, length-key, bytes-key, key-first, key-second, key-tag, key_of}
use Rattle.rules.proofs.BookLaws.{Codes, length-pieces, wide-pieces, bytes-pieces, length-flat_map, bytes-flat_map, pieces-flat_map, flat_map-pieces}

-- the value that a slot's bytes hold: zero where it is not present
abbrev pub slot_value : Option ℕ → ℕ
slot_value slot = maybe 0 (λ crc. crc) slot

-- the slot of a presence bit and a value
abbrev slot_of : Bool → ℕ → Option ℕ
slot_of present crc = pick present then some crc else none

-- every field of the group is in its range
pub record GroupFits (g : Group) : Type 0 where
  pub object : g.object < 2 ^ 64
  pub number : g.number < 2 ^ 64
  pub slots : length g.slots ≡ group_units
  pub values : Each (λ slot. slot_value slot < 2 ^ 32) g.slots

-- ---- slots, over any number of them

-- the bits of slots are whether they are present
bits-presence : (m n : ℕ) (slots : List (Option ℕ)) → length slots ≡ n → n ≤ 8 * m → map (bit_set (bit_bytes m (λ i. given (get_or slots i none)) 0)) (range 0 n) ≡ map given slots
bits-presence m n slots q h =
    let f : ℕ → Bool = λ i. given (get_or slots i none) in
    let b : ℕ → Bool = bit_set (bit_bytes m f 0) in
    let e : length (map b (range 0 n)) ≡ n = length-map (range 0 n) b ∙ length-range 0 n in
    ext_get_or false (map b (range 0 n)) (map given slots) (e ∙ sym q ∙ sym (length-map slots given))
    (λ i l. get_or-map-range b 0 n i false (omega arith) ∙ ap b (zero-add i) ∙ bit_set-bit_bytes m f 0 i (omega arith) ∙ ap f (zero-add i) ∙ sym (get_d_map given slots i false none (omega arith)))

-- a slot's bytes say its value
value-slot_bytes : {slots : List (Option ℕ)} → Each (λ slot. slot_value slot < 2 ^ 32) slots → map le (map slot_bytes slots) ≡ map slot_value slots
unfolding slot_bytes
value-slot_bytes each_none = refl
value-slot_bytes (each_more {x = x} h r) = rw (le-le_digits-fits 4 (slot_value x) h, value-slot_bytes r) refl

-- slots come back from their bits and values
slots-back : (slots : List (Option ℕ)) → zip_with slot_of (map given slots) (map slot_value slots) ≡ slots
unfolding zip_with given maybe pick◌then◌else◌
slots-back [] = refl
slots-back (none ∷ slots) = ap (λ (t : List (Option ℕ)). none ∷ t) (slots-back slots)
slots-back (some crc ∷ slots) = ap (λ (t : List (Option ℕ)). some crc ∷ t) (slots-back slots)

-- a slot that is not present has the value zero
absent-zero : (slots : List (Option ℕ)) → all (λ ok. ok) (zip_with (λ present crc. present || eqb crc 0) (map given slots) (map slot_value slots)) ≡ true
unfolding zip_with given maybe all
absent-zero [] = refl
absent-zero (none ∷ slots) = absent-zero slots
absent-zero (some crc ∷ slots) = absent-zero slots

-- four bytes say a value in range
word_lt : (p : List ℕ) → length p ≡ 4 → Bytes p → le p < 2 ^ 32
word_lt p w c = rw w at (le-lt p c)

-- a slot with a value in range has its value in range
slot_lt : (present : Bool) (crc : ℕ) → crc < 2 ^ 32 → slot_value (slot_of present crc) < 2 ^ 32
unfolding maybe pick◌then◌else◌
slot_lt true crc h = h
slot_lt false crc h = omega arith

-- values in range make slots in range
slots-lt : (bits : List Bool) {values : List ℕ} → Each (λ crc. crc < 2 ^ 32) values → Each (λ slot. slot_value slot < 2 ^ 32) (zip_with slot_of bits values)
unfolding zip_with
slots-lt [] h = each_none
slots-lt (b ∷ bits) each_none = each_none
slots-lt (b ∷ bits) (each_more {x = crc} h r) = each_more (slot_lt b crc h) (slots-lt bits r)

-- a slot is present where its bit is
given-slot_of : (present : Bool) (crc : ℕ) → given (slot_of present crc) ≡ present
unfolding given pick◌then◌else◌
given-slot_of true crc = refl
given-slot_of false crc = refl

-- a value that is zero where it is not present is written as it is
slot_bytes-of : (present : Bool) (crc : ℕ) → (present || eqb crc 0) ≡ true → slot_bytes (slot_of present crc) ≡ le_digits 4 crc
unfolding slot_bytes maybe pick◌then◌else◌
slot_bytes-of true crc h = refl
slot_bytes-of false crc h = rw (eqb-true crc 0 h) refl

-- and so are all of them
slot_bytes-all : (bits : List Bool) (values : List ℕ) → length bits ≡ length values → all (λ ok. ok) (zip_with (λ present crc. present || eqb crc 0) bits values) ≡ true
    → flat_map slot_bytes (zip_with slot_of bits values) ≡ flat_map (le_digits 4) values
unfolding zip_with flat_map all
slot_bytes-all [] [] e h = refl
slot_bytes-all [] (v ∷ values) e h = absurd (omega arith)
slot_bytes-all (b ∷ bits) [] e h = absurd (omega arith)
slot_bytes-all (b ∷ bits) (v ∷ values) e h =
    let ok : Bool = b || eqb v 0 in
    let rest : Bool = all (λ x. x) (zip_with (λ present crc. present || eqb crc 0) bits values) in
    rw (slot_bytes-of b v (and_left ok rest h), slot_bytes-all bits values (omega arith) (and_right ok rest h)) refl

-- ---- a group's bytes

-- the key of a group
abbrev key_run : Group → List ℕ
key_run g = key g.object 4 g.number

-- the key, the presence bits and the slots make up a group's bytes
runs : (g : Group) → encode_group g ≡ key_run g ++ presence g.slots ++ flat_map slot_bytes g.slots
unfolding encode_group group_key key
runs g = refl

-- the key, and what stands behind it
behind-key : (g : Group) → encode_group g ≡ key_run g ++ (presence g.slots ++ flat_map slot_bytes g.slots)
behind-key g = runs g ∙ append_assoc (key_run g) (presence g.slots) (flat_map slot_bytes g.slots)

-- 32 bytes of presence bits
length-presence : (slots : List (Option ℕ)) → length (presence slots) ≡ 32
unfolding presence
length-presence slots = length-bit_bytes 32 (λ n. given (get_or slots n none)) 0

-- the bytes in front of the slots
length_front : (g : Group) → length (key_run g ++ presence g.slots) ≡ 49
length_front g = rw (length-append, length-key g.object 4 g.number, length-presence g.slots) refl

-- four bytes for each slot
wide-slots : (slots : List (Option ℕ)) → Each (λ slot. length (slot_bytes slot) ≡ 4) slots
unfolding slot_bytes
wide-slots slots = each-any (λ slot. length-le_digits 4 (slot_value slot)) slots

-- each of them a byte
bytes-slots : (slots : List (Option ℕ)) → Each (λ slot. Bytes (slot_bytes slot)) slots
unfolding slot_bytes
bytes-slots slots = each-any (λ slot. bytes-le_digits 4 (slot_value slot)) slots

-- the presence bits that were written are read
bits-encode_group : (g : Group) → length g.slots ≡ group_units → presence_bits (encode_group g) ≡ map given g.slots
unfolding presence_bits
bits-encode_group g e =
    let p : part 17 32 (encode_group g) ≡ presence g.slots = rw (runs g)
    (part-middle (key_run g) (presence g.slots) (flat_map slot_bytes g.slots) 17 32 (length-key g.object 4 g.number) (length-presence g.slots)) in
    ap (λ (t : List ℕ). map (bit_set t) (range 0 group_units)) p ∙ (unfold presence in bits-presence 32 group_units g.slots e (omega arith))

-- the values that were written are read
values-encode_group : (g : Group) → length g.slots ≡ group_units → Each (λ slot. slot_value slot < 2 ^ 32) g.slots → slot_values (encode_group g) ≡ map slot_value g.slots
unfolding slot_values
values-encode_group g e h =
    let d : drop 49 (encode_group g) ≡ flat_map slot_bytes g.slots = rw (runs g) (drop_at (key_run g ++ presence g.slots) (flat_map slot_bytes g.slots) 49 (length_front g)) in
    let p : pieces 4 group_units (flat_map slot_bytes g.slots) ≡ map slot_bytes g.slots =
    rw (e, append-nil (flat_map slot_bytes g.slots)) at (pieces-flat_map slot_bytes 4 [] (wide-slots g.slots)) in
    rw (d, p) (value-slot_bytes h)

-- the group that was written is read
pub decode-encode_group : (g : Group) → GroupFits g → decode_group (encode_group g) ≡ g
unfolding decode_group
decode-encode_group g f =
    let r : List ℕ = presence g.slots ++ flat_map slot_bytes g.slots in
    let o : be (part 0 8 (encode_group g)) ≡ g.object = rw (behind-key g) (key-first g.object 4 g.number r f.object) in
    let n : be (part 9 8 (encode_group g)) ≡ g.number = rw (behind-key g) (key-second g.object 4 g.number r f.number) in
    let s : zip_with slot_of (presence_bits (encode_group g)) (slot_values (encode_group g)) ≡ g.slots =
    rw (bits-encode_group g f.slots, values-encode_group g f.slots f.values) (slots-back g.slots) in
    λ i. record { object = o i; number = n i; slots = s i }

-- so many presence bits
length-presence_bits : (s : List ℕ) → length (presence_bits s) ≡ group_units
unfolding presence_bits
length-presence_bits s = length-map (range 0 group_units) (bit_set (part 17 32 s)) ∙ length-range 0 group_units

-- the presence bit at a place
get_or-presence_bits : (s : List ℕ) (i : ℕ) → i < group_units → get_or (presence_bits s) i false ≡ bit_set (part 17 32 s) i
unfolding presence_bits
get_or-presence_bits s i l = get_or-map-range (bit_set (part 17 32 s)) 0 group_units i false l ∙ ap (bit_set (part 17 32 s)) (zero-add i)

-- so many values
length-slot_values : (s : List ℕ) → length (slot_values s) ≡ group_units
unfolding slot_values
length-slot_values s = length-map (pieces 4 group_units (drop 49 s)) le ∙ length-pieces 4 group_units (drop 49 s)

-- the slots' bytes
length-behind : (s : List ℕ) → length s ≡ group_bytes → length (drop 49 s) ≡ 4 * group_units
length-behind s e = rw (length-drop 49 s, e) refl

-- the presence bits that were read are written
presence-decode_group : (s : List ℕ) → length s ≡ group_bytes → Bytes s → presence (decode_group s).slots ≡ part 17 32 s
unfolding presence decode_group
presence-decode_group s e b =
    let slots : List (Option ℕ) = zip_with slot_of (presence_bits s) (slot_values s) in
    let f : ℕ → Bool = λ i. given (get_or slots i none) in
    let n : length (bit_bytes 32 f 0) ≡ 32 = length-bit_bytes 32 f 0 in
    let lb : length (presence_bits s) ≡ group_units = length-presence_bits s in
    let lv : length (slot_values s) ≡ group_units = length-slot_values s in
    bits-ext (bit_bytes 32 f 0) (part 17 32 s) (bytes-bit_bytes 32 f 0) (bytes-part s 17 32 b) (n ∙ sym (length_part s 17 32 (omega arith)))
    (λ i l. bit_set-bit_bytes 32 f 0 i (omega arith) ∙ ap f (zero-add i)
    ∙ ap given (get_or-zip_with slot_of (presence_bits s) (slot_values s) i false 0 none (omega arith) (omega arith))
    ∙ given-slot_of (get_or (presence_bits s) i false) (get_or (slot_values s) i 0)
    ∙ get_or-presence_bits s i (omega arith))

-- each value that was read is written as it stood
flat_map-slot_values : (s : List ℕ) → length s ≡ group_bytes → Bytes s → flat_map (le_digits 4) (slot_values s) ≡ drop 49 s
unfolding slot_values
flat_map-slot_values s e b =
    let n : length (drop 49 s) ≡ 4 * group_units = length-behind s e in
    flat_map-pieces (le_digits 4) 4 le group_units (drop 49 s)
    (each_both (λ p w c. le_digits-le-at 4 p w c) (wide-pieces 4 group_units (drop 49 s) (omega arith)) (bytes-pieces 4 group_units (drop 49 s) (bytes_drop 49 s b)))
    ∙ take_all (4 * group_units) (drop 49 s) (omega arith)

-- each value that was read is in range
slot_values-lt : (s : List ℕ) → length s ≡ group_bytes → Bytes s → Each (λ crc. crc < 2 ^ 32) (slot_values s)
unfolding slot_values
slot_values-lt s e b =
    let n : length (drop 49 s) ≡ 4 * group_units = length-behind s e in
    each_map le (each_both (λ p w c. word_lt p w c) (wide-pieces 4 group_units (drop 49 s) (omega arith)) (bytes-pieces 4 group_units (drop 49 s) (bytes_drop 49 s b)))

-- the slots that were read are written
slots-decode_group : (s : List ℕ) → length s ≡ group_bytes → Bytes s → absent_zero s ≡ true → flat_map slot_bytes (decode_group s).slots ≡ drop 49 s
unfolding decode_group absent_zero
slots-decode_group s e b z =
    slot_bytes-all (presence_bits s) (slot_values s) (length-presence_bits s ∙ sym (length-slot_values s)) z ∙ flat_map-slot_values s e b

-- the bytes that were read are written
pub encode-decode_group : (s : List ℕ) → length s ≡ group_bytes → Bytes s → group_fixed s ≡ true → absent_zero s ≡ true → encode_group (decode_group s) ≡ s
encode-decode_group s e b x z =
    let k : key_run (decode_group s) ≡ part 0 17 s = unfold decode_group group_fixed in key_of s 4 (omega arith) b (eqb-true (get_or s 8 0) 4 x) in
    runs (decode_group s)
    ∙ rw (k, presence-decode_group s e b, slots-decode_group s e b z, ← part-add s 0 17 32) (unfold part in take-append-drop 49 s)

-- what 1,073 bytes say is in range
pub fits-decode_group : (s : List ℕ) → length s ≡ group_bytes → Bytes s → GroupFits (decode_group s)
unfolding decode_group
fits-decode_group s e b =
    record {
      object = be-part-lt s 0 8 (omega arith) b;
      number = be-part-lt s 9 8 (omega arith) b;
      slots = length-zip_with slot_of group_units (presence_bits s) (slot_values s) (length-presence_bits s) (length-slot_values s);
      values = slots-lt (presence_bits s) (slot_values-lt s e b);
    }

-- a group takes 1,073 bytes
pub length-encode_group : (g : Group) → length g.slots ≡ group_units → length (encode_group g) ≡ group_bytes
length-encode_group g e = rw (runs g, length-append, length_front g, length-flat_map slot_bytes 4 (wide-slots g.slots), e) refl

-- each of them a byte
pub bytes-encode_group : (g : Group) → Bytes (encode_group g)
bytes-encode_group g =
    let k : Bytes (key_run g) = bytes-key g.object 4 g.number (omega arith) in
    let p : Bytes (presence g.slots) = unfold presence in bytes-bit_bytes 32 (λ n. given (get_or g.slots n none)) 0 in
    let v : Bytes (flat_map slot_bytes g.slots) = bytes-flat_map slot_bytes (bytes-slots g.slots) in
    rw (runs g) (bytes-append (key_run g ++ presence g.slots) (flat_map slot_bytes g.slots) (bytes-append (key_run g) (presence g.slots) k p) v)

-- the fixed byte is written
pub fixed-encode_group : (g : Group) → group_fixed (encode_group g) ≡ true
unfolding group_fixed
fixed-encode_group g =
    eq-eqb (get_or (encode_group g) 8 0) 4 (rw (behind-key g) (key-tag g.object 4 g.number (presence g.slots ++ flat_map slot_bytes g.slots)))

-- zeros are written where no slot is present
pub absent-encode_group : (g : Group) → GroupFits g → absent_zero (encode_group g) ≡ true
unfolding absent_zero
absent-encode_group g f = rw (bits-encode_group g f.slots, values-encode_group g f.slots f.values) (absent-zero g.slots)

-- a book may hold it
pub codes-group : (g : Group) → GroupFits g → Codes encode_group decode_group group_bytes g
codes-group g f = record { wide = length-encode_group g f.slots; back = decode-encode_group g f }
