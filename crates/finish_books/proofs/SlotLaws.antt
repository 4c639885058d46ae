-- A checksum put into its slot where the group stands: the bytes are then those of the group with the slot set.
-- Assumes nothing.
use mathlib.Core.Path.{◌≡◌, refl, sym, ap, ◌∙◌}
use mathlib.Core.Bool.{true}
use mathlib.Core.List.{List, [], ◌∷◌, ◌++◌, flat_map, append_assoc}
use mathlib.Core.Option.{Option, none, some}
use Prim.Native.Nat.{ℕ, zero, suc, ◌+◌, ◌-◌, ◌*◌, ◌/◌, ◌%◌, ◌^◌, ◌≤◌, ◌<◌}
use native.Mathlib.Decide.{ℕ_discrete}
use native.Mathlib.Nat.{zero-add, add_assoc, mod-lt}
use native.Mathlib.Omega.{arith}
use lib.Bits.{bit_or, or_lt}
use lib.ListN.{length, take, drop, get_or, set, length-append, length-set, get_or-append}
use lib.Seq.{get_or-set_same, get_or-set_other, take-take, drop-drop, take-append-le, take-append-add, drop-append-le, drop-append-add, get_or-append-add}
use Rattle.rules.specs.Lists.{maybe, given}
use Rattle.rules.specs.Sizes.{group_units}
use Rattle.rules.specs.Bytes.{Bytes, le_digits, part, patch, bit_set}
use Rattle.rules.specs.Group.{Group, group_bytes, group_key, presence, slot_bytes, encode_group, decode_group, group_fixed, absent_zero, set_checksum_slot}
use Rattle.rules.proofs.ListLaws.{each_of, each_at, and_left, and_right}
use Rattle.rules.proofs.ByteLaws.{length-be_digits, length-le_digits, get_d_part, bytes-part, length_part, drop-take, patch-part, patch-before, part-patch-before, part-patch, patch-again, length-patch}
use Rattle.rules.proofs.BitLaws.{length-bit_bytes, bytes-bit_bytes, bit_set-bit_bytes, bits-ext}
use Rattle.rules.proofs.GroupLaws.{GroupFits, slot_value, encode-decode_group, fits-decode_group}
use Rattle.checksum_group.proofs.SlotLaws.{set_here, set_there}
use Rattle.words.proofs.NumberLaws.{patch-whole}
use Rattle.words.proofs.RangeLaws.{set-patch}
use Rattle.finish_books.specs.Groups.{group_right}

-- ---- bytes

-- four bytes for a slot
four : (x : Option ℕ) → length (slot_bytes x) ≡ 4
unfolding slot_bytes
four x = length-le_digits 4 (maybe 0 (λ crc. crc) x)

-- the first of a part
part-front : (s : List ℕ) (at w a : ℕ) → a ≤ w → take a (part at w s) ≡ part at a s
unfolding part
part-front s at w a l = take-take a w (drop at s) l

-- the others
part-back : (s : List ℕ) (at b m : ℕ) → drop b (part at (b + m) s) ≡ part (at + b) m s
unfolding part
part-back s at b m = rw (drop-take b m (drop at s), drop-drop b at s) refl

-- a patch, the other way round
patch-is : (s : List ℕ) (a : ℕ) (zs : List ℕ) → patch s a zs ≡ take a s ++ (zs ++ drop (a + length zs) s)
unfolding patch
patch-is s a zs = append_assoc (take a s) zs (drop (a + length zs) s)

-- a patch of a part is a patch of the whole
patch-inside : (s : List ℕ) (at w a : ℕ) (zs : List ℕ) → at + w ≤ length s → a + length zs ≤ w → patch s (at + a) zs ≡ patch s at (patch (part at w s) a zs)
patch-inside s at w a zs h l =
    let n : ℕ = a + length zs in
    let A : List ℕ = part at a s in
    let B : List ℕ = part (at + n) (w - n) s in
    let u : w ≡ n + (w - n) = omega arith in
    let lb : length B ≡ w - n = length_part s (at + n) (w - n) (omega arith) in
    let la : length A ≡ a = length_part s at a (omega arith) in
    let t : List ℕ = patch s (at + a) zs in
    let front : take a (part at w s) ≡ A = part-front s at w a (omega arith) in
    let back : drop n (part at w s) ≡ B = ap (λ (k : ℕ). drop n (part at k s)) u ∙ part-back s at n (w - n) in
    let whole : patch (part at w s) a zs ≡ A ++ (zs ++ B) = patch-is (part at w s) a zs ∙ rw (front, back) refl in
    let lz : length (zs ++ B) ≡ length zs + (w - n) = rw (length-append, lb) refl in
    let one : patch s (at + a) (zs ++ B) ≡ t =
    sym (patch-before s (at + a) (at + n) zs B (omega arith) (omega arith)) ∙ ap (λ (v : List ℕ). patch v (at + a) zs) (patch-part s (at + n) (w - n) (omega arith)) in
    let lt : length t ≡ length s = length-patch s (at + a) zs (omega arith) in
    let same : part at a t ≡ A = part-patch-before s (at + a) at a zs (omega arith) (omega arith) in
    sym (ap (patch s at) whole ∙ sym (patch-before s at (at + a) A (zs ++ B) (omega arith) (omega arith)) ∙ ap (λ (v : List ℕ). patch v at A) one
    ∙ ap (patch t at) (sym same) ∙ patch-part t at a (omega arith))

-- two patches of a part are one of the whole
patch-twice : (s t : List ℕ) (at w a b : ℕ) (xs ys : List ℕ) → at + w ≤ length s → a + length xs ≤ w → b + length ys ≤ w → t ≡ patch (patch s (at + a) xs) (at + b) ys
    → t ≡ patch s at (patch (patch (part at w s) a xs) b ys)
patch-twice s t at w a b xs ys h l m e =
    let p : List ℕ = part at w s in
    let lp : length p ≡ w = length_part s at w h in
    let q : List ℕ = patch p a xs in
    let lq : length q ≡ w = length-patch p a xs (omega arith) ∙ lp in
    let r : List ℕ = patch q b ys in
    let lr : length r ≡ w = length-patch q b ys (omega arith) ∙ lq in
    let v : List ℕ = patch s at q in
    let lv : length v ≡ length s = length-patch s at q (omega arith) in
    let first : patch s (at + a) xs ≡ v = patch-inside s at w a xs h l in
    e ∙ ap (λ (z : List ℕ). patch z (at + b) ys) first
    ∙ patch-inside v at w b ys (omega arith) m
    ∙ ap (λ (z : List ℕ). patch v at (patch z b ys)) (part-patch s at w q lq h)
    ∙ patch-again s at q r (lq ∙ sym lr) (omega arith)

-- a patch in the last part of a list
pub patch-behind : (xs ys zs : List ℕ) (n a : ℕ) → length xs ≡ n → patch (xs ++ ys) (n + a) zs ≡ xs ++ patch ys a zs
unfolding patch
patch-behind xs ys zs n a e =
    rw (← e, take-append-add xs ys a, add_assoc (length xs) a (length zs), drop-append-add xs ys (a + length zs))
    (append_assoc (xs ++ take a ys) zs (drop (a + length zs) ys) ∙ append_assoc xs (take a ys) (zs ++ drop (a + length zs) ys)
    ∙ ap (λ (t : List ℕ). xs ++ t) (sym (append_assoc (take a ys) zs (drop (a + length zs) ys))))

-- in the first
pub patch-ahead : (xs ys zs : List ℕ) (a : ℕ) → a + length zs ≤ length xs → patch (xs ++ ys) a zs ≡ patch xs a zs ++ ys
unfolding patch
patch-ahead xs ys zs a l =
    rw (take-append-le a xs ys (omega arith), drop-append-le (a + length zs) xs ys l) (sym (append_assoc (take a xs ++ zs) (drop (a + length zs) xs) ys))

-- ---- the slots of a group

-- the bytes of a checksum
value-bytes : (crc : ℕ) → slot_bytes (some crc) ≡ le_digits 4 crc
unfolding slot_bytes maybe
value-bytes crc = refl

-- the bytes of a list of slots with one set
values-set : (slots : List (Option ℕ)) (n : ℕ) (x : Option ℕ) → n < length slots → flat_map slot_bytes (set slots n x) ≡ patch (flat_map slot_bytes slots) (4 * n) (slot_bytes x)
unfolding flat_map
values-set [] n x l = absurd (omega arith)
values-set (y ∷ slots) zero x l =
    let a : length (slot_bytes x) ≡ 4 = four x in
    let b : length (slot_bytes y) ≡ 4 = four y in
    sym (patch-ahead (slot_bytes y) (flat_map slot_bytes slots) (slot_bytes x) (4 * 0) (omega arith)
    ∙ ap (λ (t : List ℕ). t ++ flat_map slot_bytes slots) (patch-whole (slot_bytes y) (slot_bytes x) (a ∙ sym b)))
values-set (y ∷ slots) (suc n) x l =
    let m : 4 * suc n ≡ 4 + 4 * n = omega arith in
    rw (values-set slots n x (omega arith), m) (sym (patch-behind (slot_bytes y) (flat_map slot_bytes slots) (slot_bytes x) 4 (4 * n) (four y)))

-- a byte with one more bit set
abbrev pub with_one : ℕ → ℕ → ℕ
with_one byte k = bit_or byte (1 * 2 ^ k % 2 ^ 8)

-- it is a byte
one-lt : (byte k : ℕ) → byte < 256 → with_one byte k < 256
one-lt byte k l = or_lt 8 byte (1 * 2 ^ k % 2 ^ 8) l (mod-lt (1 * 2 ^ k) (omega arith))

-- a byte put among bytes
bytes-set : (m : List ℕ) (i x : ℕ) → i < length m → Bytes m → x < 256 → Bytes (set m i x)
bytes-set m i x h b l j = go (ℕ_discrete j i)
  where
    go : Dec (j ≡ i) → get_or (set m i x) j 0 < 256
    go (yes e) = rw (e, get_or-set_same m i x 0 h) l
    go (no d) = rw (get_or-set_other m i j x 0 d) (b j)

-- the presence bytes have a bit for each slot
presence-bit : (slots : List (Option ℕ)) (i : ℕ) → i < 256 → bit_set (presence slots) i ≡ given (get_or slots i none)
unfolding presence
presence-bit slots i l = bit_set-bit_bytes 32 (λ n. given (get_or slots n none)) 0 i (omega arith) ∙ ap (λ (k : ℕ). given (get_or slots k none)) (zero-add i)

-- they are 32
length-presence : (slots : List (Option ℕ)) → length (presence slots) ≡ 32
unfolding presence
length-presence slots = length-bit_bytes 32 (λ n. given (get_or slots n none)) 0

-- bytes
bytes-presence : (slots : List (Option ℕ)) → Bytes (presence slots)
unfolding presence
bytes-presence slots = bytes-bit_bytes 32 (λ n. given (get_or slots n none)) 0

-- the presence bytes with a slot set
presence-set : (slots : List (Option ℕ)) (n crc : ℕ) → length slots ≡ group_units → n < group_units
    → presence (set slots n (some crc)) ≡ set (presence slots) (n / 8) (with_one (get_or (presence slots) (n / 8) 0) (n % 8))
unfolding given
presence-set slots n crc e l =
    let p : List ℕ = presence slots in
    let v : ℕ = with_one (get_or p (n / 8) 0) (n % 8) in
    let lp : length p ≡ 32 = length-presence slots in
    let lq : length (presence (set slots n (some crc))) ≡ 32 = length-presence (set slots n (some crc)) in
    bits-ext (presence (set slots n (some crc))) (set p (n / 8) v) (bytes-presence (set slots n (some crc)))
    (bytes-set p (n / 8) v (omega arith) (bytes-presence slots) (one-lt (get_or p (n / 8) 0) (n % 8) (bytes-presence slots (n / 8))))
    (lq ∙ sym (length-set p (n / 8) v ∙ lp)) (λ i m. presence-bit (set slots n (some crc)) i (omega arith) ∙ bit i (omega arith) (ℕ_discrete i n))
  where
    bit : (i : ℕ) → i < 256 → Dec (i ≡ n) → given (get_or (set slots n (some crc)) i none) ≡ bit_set (set (presence slots) (n / 8) (with_one (get_or (presence slots) (n / 8) 0) (n % 8))) i
    bit i m (yes d) =
        rw (d, get_or-set_same slots n (some crc) none (omega arith)) (sym (set_here (presence slots) n (omega (arith, length-presence slots))))
    bit i m (no d) =
        rw (get_or-set_other slots n i (some crc) none d) (sym (set_there (presence slots) n (omega (arith, length-presence slots)) i d ∙ presence-bit slots i m))

-- ---- a group

-- the bytes of a group with a slot set, over its three parts
parts-set : (k p v : List ℕ) (j a x : ℕ) (zs : List ℕ) → length k ≡ 17 → length p ≡ 32 → j < 32
    → k ++ set p j x ++ patch v a zs ≡ patch (patch (k ++ p ++ v) (17 + j) (x ∷ [])) (49 + a) zs
parts-set k p v j a x zs e f l =
    let b : length (set p j x) ≡ 32 = length-set p j x ∙ f in
    let c : length (k ++ set p j x) ≡ 49 = rw (length-append, e, b) refl in
    let d : length (k ++ p) ≡ 49 = rw (length-append, e, f) refl in
    sym (ap (λ (t : List ℕ). patch t (49 + a) zs)
    (patch-ahead (k ++ p) v (x ∷ []) (17 + j) (omega arith)
    ∙ ap (λ (t : List ℕ). t ++ v) (patch-behind k p (x ∷ []) 17 j e ∙ ap (λ (t : List ℕ). k ++ t) (sym (set-patch p j x (omega arith)))))
    ∙ patch-behind (k ++ set p j x) v zs 49 a c)

-- a byte of the middle part
parts_at : (k p v : List ℕ) (j : ℕ) → length k ≡ 17 → length p ≡ 32 → j < 32 → get_or (k ++ p ++ v) (17 + j) 0 ≡ get_or p j 0
parts_at k p v j e f l =
    ap (λ (t : List ℕ). get_or t (17 + j) 0) (append_assoc k p v) ∙ ap (λ (n : ℕ). get_or (k ++ (p ++ v)) (n + j) 0) (sym e) ∙ get_or-append-add k (p ++ v) j 0
    ∙ get_or-append p v 0 j (omega arith)

-- a key has 17 bytes
pub length-group_key : (object number : ℕ) → length (group_key object number) ≡ 17
unfolding group_key
length-group_key object number = rw (length-append, length-be_digits) (ap (λ (n : ℕ). 8 + suc n) (length-be_digits 8 number))

-- the bytes of a group with a slot set
slot-encoded : (g : Group) (n crc : ℕ) → length g.slots ≡ group_units → n < group_units
    → encode_group (set_checksum_slot g n (some crc)) ≡ patch (patch (encode_group g) (17 + n / 8) (with_one (get_or (encode_group g) (17 + n / 8) 0) (n % 8) ∷ [])) (49 + 4 * n) (le_digits 4 crc)
unfolding encode_group set_checksum_slot
slot-encoded g n crc e l =
    let k : List ℕ = group_key g.object g.number in
    let p : List ℕ = presence g.slots in
    let v : List ℕ = flat_map slot_bytes g.slots in
    let lk : length k ≡ 17 = length-group_key g.object g.number in
    let lp : length p ≡ 32 = length-presence g.slots in
    rw (presence-set g.slots n crc e l, values-set g.slots n (some crc) (omega arith), value-bytes crc, parts_at k p v (n / 8) lk lp (omega arith))
    (parts-set k p v (n / 8) (4 * n) (with_one (get_or p (n / 8) 0) (n % 8)) (le_digits 4 crc) lk lp (omega arith))

-- a group whose checksum is in range stays in range
pub fits-slot : (g : Group) (n crc : ℕ) → crc < 2 ^ 32 → GroupFits g → GroupFits (set_checksum_slot g n (some crc))
unfolding set_checksum_slot
fits-slot g n crc c f =
    record {
      object = f.object;
      number = f.number;
      slots = length-set g.slots n (some crc) ∙ f.slots;
      values = each_of (set g.slots n (some crc)) none (λ i l. value i (rw (length-set g.slots n (some crc)) at l) (ℕ_discrete i n));
    }
  where
    value : (i : ℕ) → i < length g.slots → Dec (i ≡ n) → slot_value (get_or (set g.slots n (some crc)) i none) < 2 ^ 32
    value i l (yes e) = rw (e, get_or-set_same g.slots n (some crc) none (rw e at l)) (unfold maybe in c)
    value i l (no d) = rw (get_or-set_other g.slots n i (some crc) none d) (each_at f.values i none l)

-- ---- as the code does it

-- a byte and four put in leave the length
pub slot-length : (s t : List ℕ) (b v a crc : ℕ) → t ≡ patch (set s b v) a (le_digits 4 crc) → a + 4 ≤ length s → length t ≡ length s
slot-length s t b v a crc e l =
    let n : length (set s b v) ≡ length s = length-set s b v in
    let d : length (le_digits 4 crc) ≡ 4 = length-le_digits 4 crc in
    ap length e ∙ length-patch (set s b v) a (le_digits 4 crc) (omega arith) ∙ n

module _ (s : List ℕ) (at n crc : ℕ) (h : at + group_bytes ≤ length s) (b : Bytes s) (r : group_right (part at group_bytes s) ≡ true) where
  -- the group that stands there
  abbrev there : Group
  there = decode_group (part at group_bytes s)

  -- it is in range
  fits-there : GroupFits there
  fits-there = fits-decode_group (part at group_bytes s) (length_part s at group_bytes h) (bytes-part s at group_bytes b)

  -- its bytes say it
  bytes-there : encode_group there ≡ part at group_bytes s
  bytes-there =
      let p : List ℕ = part at group_bytes s in
      encode-decode_group p (length_part s at group_bytes h) (bytes-part s at group_bytes b) (and_left (group_fixed p) (absent_zero p) r) (and_right (group_fixed p) (absent_zero p) r)

  -- the bit and the four bytes put where they stand are the group with the slot set
  pub slot-put : (x t : List ℕ) → n < group_units → x ≡ set s (at + 17 + n / 8) (with_one (get_or s (at + 17 + n / 8) 0) (n % 8)) → t ≡ patch x (at + 49 + 4 * n) (le_digits 4 crc)
      → t ≡ patch s at (encode_group (set_checksum_slot (decode_group (part at group_bytes s)) n (some crc)))
  slot-put x t l e q =
      let p : List ℕ = part at group_bytes s in
      let v : ℕ = with_one (get_or s (at + 17 + n / 8) 0) (n % 8) in
      let i : at + 17 + n / 8 ≡ at + (17 + n / 8) = omega arith in
      let j : at + 49 + 4 * n ≡ at + (49 + 4 * n) = omega arith in
      let y : get_or p (17 + n / 8) 0 ≡ get_or s (at + 17 + n / 8) 0 = get_d_part s at group_bytes (17 + n / 8) (omega arith) ∙ ap (λ (k : ℕ). get_or s k 0) (sym i) in
      let d : length (le_digits 4 crc) ≡ 4 = length-le_digits 4 crc in
      let z : t ≡ patch (patch s (at + (17 + n / 8)) (v ∷ [])) (at + (49 + 4 * n)) (le_digits 4 crc) =
      q ∙ ap (λ (k : ℕ). patch x k (le_digits 4 crc)) j ∙ ap (λ (w : List ℕ). patch w (at + (49 + 4 * n)) (le_digits 4 crc)) (e ∙ set-patch s (at + 17 + n / 8) v (omega arith) ∙ ap (λ (k : ℕ). patch s k (v ∷ [])) i) in
      patch-twice s t at group_bytes (17 + n / 8) (49 + 4 * n) (v ∷ []) (le_digits 4 crc) h (omega arith) (omega arith) z
      ∙ ap (patch s at) (sym (rw (bytes-there, y) at (slot-encoded there n crc fits-there.slots l)))
