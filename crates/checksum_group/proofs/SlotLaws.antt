-- Laws of a checksum group: its slots one by one, after one is set or cleared, up to the last present one, and in a record's bytes.
-- Assumes nothing.
use mathlib.Core.Path.{◌≡◌, refl, sym, ap, ◌∙◌}
use mathlib.Core.Bool.{Bool, true, false, ◌&&◌, ◌||◌}
use mathlib.Core.List.{List, [], ◌∷◌, ◌++◌, map, zip_with, flat_map, append-nil, append_assoc}
use mathlib.Core.Option.{Option, none, some}
use Prim.Native.Nat.{ℕ, zero, suc, ◌+◌, ◌-◌, ◌*◌, ◌/◌, ◌%◌, ◌^◌, ◌≤◌, ◌<◌, min, max}
use native.Mathlib.Nat.{zero-add, add-zero, one-mul, mul-one, mul-zero, div-eq_of_lt, zero-div, mod-lt, pow-suc, lt_of_lt_of_le}
use native.Mathlib.Decide.{ℕ_discrete}
use native.Mathlib.Numerals.{add-one}
use native.Mathlib.Omega.{arith}
use borrow.Author.Tests.{eqb-true, eq-eqb, ne_eqb}
use lib.Bits.{bit_or, bit_and, or_shr, or_step, and_shr, and_step}
use lib.Count.{count_leading_zeros, leading_top}
use lib.Dec.{eqb, eqb-suc-zero}
use lib.ListN.{length, take, drop, get_or, set, replicate, length-append, length-set, length-map, length-replicate}
use lib.Pow.{pow_mono, high, shl_exact}
use lib.Seq.{ext_get_or, get_or-set_same, get_or-set_other, take-suc, take_all, take-take, drop-drop, length-take-le}
use Rattle.rules.specs.Lists.{pick◌then◌else◌, maybe, given, range, all}
use Rattle.rules.specs.Bytes.{Bytes, be, le, le_digits, part, patch, pieces, bit_set}
use Rattle.rules.specs.Group.{Group, group_bytes, group_key, presence, slot_bytes, slot_values, presence_bits, decode_group, encode_group, absent_zero, group_fixed, up_to_present, compact_group}
use Rattle.rules.proofs.ListLaws.{Each, each-any, if-cases, if-true, if-false, or_left, all-at, all_of, all-range-at, all-range-of, length-range, length-zip_with, get_d_map, get_or-map-range, get_or-zip_with}
use Rattle.rules.proofs.ScanLaws.{same_test, scan-none, scan-add, scan-suc}
use Rattle.rules.proofs.ByteLaws.{length-be_digits, drop-take, get_d_part, length-le_digits, length_part, part-drop, part-part, patch-none, patch-patch}
use Rattle.rules.proofs.BitLaws.{length-bit_bytes, bit_bytes-same, bit_bytes-bit_set}
use Rattle.rules.proofs.BookLaws.{get_or-pieces, length-flat_map, length-pieces, pieces-same}
use Rattle.words.proofs.NumberLaws.{patch-whole}
use Rattle.words.proofs.RangeLaws.{or-zero}
use Rattle.checksum_group.specs.Slots.{slots_from, value_of, values_at, slot_right, UpTo}
use Rattle.rules.proofs.CountLaws.{flat_map-append}

-- the slot of a presence bit and a value
abbrev slot_if : Bool → ℕ → Option ℕ
slot_if present crc = pick present then some crc else none

-- ---- the slots, one by one

-- so many
pub length-slots : (p v : List ℕ) → length v ≡ 256 → length (slots_from p v) ≡ 256
unfolding slots_from
length-slots p v e =
    length-zip_with slot_if 256 (map (bit_set p) (range 0 256)) v (length-map (range 0 256) (bit_set p) ∙ length-range 0 256) e

-- the slot at a place
pub get_or-slots : (p v : List ℕ) (i : ℕ) → length v ≡ 256 → i < 256 → get_or (slots_from p v) i none ≡ slot_if (bit_set p i) (get_or v i 0)
unfolding slots_from
get_or-slots p v i e l =
    let n : length (map (bit_set p) (range 0 256)) ≡ 256 = length-map (range 0 256) (bit_set p) ∙ length-range 0 256 in
    get_or-zip_with slot_if (map (bit_set p) (range 0 256)) v i false 0 none (omega arith) (omega arith)
    ∙ ap (λ (b : Bool). slot_if b (get_or v i 0)) (get_or-map-range (bit_set p) 0 256 i false l ∙ ap (bit_set p) (zero-add i))

-- a slot is present where its bit is set
given-slot_if : (b : Bool) (x : ℕ) → given (slot_if b x) ≡ b
unfolding given pick◌then◌else◌
given-slot_if true x = refl
given-slot_if false x = refl

-- whether the slot at a place is present
pub given-slots : (p v : List ℕ) (i : ℕ) → length v ≡ 256 → i < 256 → given (get_or (slots_from p v) i none) ≡ bit_set p i
given-slots p v i e l = ap given (get_or-slots p v i e l) ∙ given-slot_if (bit_set p i) (get_or v i 0)

-- the presence bytes that such slots are written with
pub presence-slots : (p v : List ℕ) → length p ≡ 32 → length v ≡ 256 → Bytes p → presence (slots_from p v) ≡ p
unfolding presence
presence-slots p v m e b =
    bit_bytes-same 32 (λ n. given (get_or (slots_from p v) n none)) (bit_set p) 0 0 (λ i l. given-slots p v (0 + i) e (omega arith))
    ∙ rw m at (bit_bytes-bit_set p b)

-- a list of one value has it everywhere
get_d_replicate : {A : Type 0} (n : ℕ) (d : A) (i : ℕ) → get_or (replicate n d) i d ≡ d
get_d_replicate zero d i = refl
get_d_replicate (suc n) d zero = refl
get_d_replicate (suc n) d (suc i) = get_d_replicate n d i

-- no bit set, no slot present
pub empty-slots : slots_from (replicate 32 0) (replicate 256 0) ≡ replicate 256 none
empty-slots =
    let z : List ℕ = replicate 256 0 in
    let w : List ℕ = replicate 32 0 in
    let e : length z ≡ 256 = length-replicate {A = ℕ} 256 0 in
    let n : length (slots_from w z) ≡ 256 = length-slots w z e in
    let b : (i : ℕ) → bit_set w i ≡ false = λ i. unfold bit_set in rw (get_d_replicate {A = ℕ} 32 0 (i / 8), zero-div (2 ^ (i % 8))) refl in
    ext_get_or none (slots_from w z) (replicate 256 none) (n ∙ sym (length-replicate {A = Option ℕ} 256 none))
    (λ i l. get_or-slots w z i e (omega arith) ∙ if-false (bit_set w i) (some (get_or z i 0)) none (b i) ∙ sym (get_d_replicate 256 none i))

-- four bytes for each slot
wide : (slots : List (Option ℕ)) → Each (λ slot. length (slot_bytes slot) ≡ 4) slots
unfolding slot_bytes
wide slots = each-any (λ slot. length-le_digits 4 (maybe 0 (λ crc. crc) slot)) slots

module _ (p v : List ℕ) (n : ℕ) (e : length v ≡ 256) (l : n < 256) (m : Bool) (q : m ≡ eqb (get_or p (n / 8) 0 / 2 ^ (n % 8) % 2) 1) where
  -- a slot whose bit was found set
  pub slot-present : m ≡ true → some (get_or v n 0) ≡ get_or (slots_from p v) n none
  slot-present t =
      let r : bit_set p n ≡ m = unfold bit_set in sym q in
      sym (get_or-slots p v n e l ∙ if-true (bit_set p n) (some (get_or v n 0)) none (r ∙ t))

  -- and one whose bit was not
  pub slot-absent : m ≡ false → none ≡ get_or (slots_from p v) n none
  slot-absent t =
      let r : bit_set p n ≡ m = unfold bit_set in sym q in
      sym (get_or-slots p v n e l ∙ if-false (bit_set p n) (some (get_or v n 0)) none (r ∙ t))

  -- what is written for the one
  pub value-present : m ≡ true → get_or v n 0 ≡ value_of (get_or (slots_from p v) n none)
  unfolding value_of maybe
  value-present t = rw (← slot-present t) refl

  -- and for the other
  pub value-absent : m ≡ false → 0 ≡ value_of (get_or (slots_from p v) n none)
  unfolding value_of maybe
  value-absent t = rw (← slot-absent t) refl

-- ---- one slot set or cleared

-- the bits of two numbers together
bit-or : (a b j : ℕ) → bit_or a b / 2 ^ j % 2 ≡ max (a / 2 ^ j % 2) (b / 2 ^ j % 2)
bit-or a b j = rw (or_shr a b j) (low (a / 2 ^ j) (b / 2 ^ j))
  where
    low : (x y : ℕ) → bit_or x y % 2 ≡ max (x % 2) (y % 2)
    low x y = rw (or_step x y) (omega arith)

-- the bits that two numbers share
bit-and : (a b j : ℕ) → bit_and a b / 2 ^ j % 2 ≡ min (a / 2 ^ j % 2) (b / 2 ^ j % 2)
bit-and a b j = rw (and_shr a b j) (low (a / 2 ^ j) (b / 2 ^ j))
  where
    low : (x y : ℕ) → bit_and x y % 2 ≡ min (x % 2) (y % 2)
    low x y = rw (and_step x y) (omega arith)

-- bit j of the byte that has bit k alone
one_right : ℕ → ℕ → Bool
one_right k j = eqb (2 ^ k / 2 ^ j % 2) (pick eqb j k then 1 else 0)

-- the same of the byte that has all bits but k
rest_right : ℕ → ℕ → Bool
rest_right k j = eqb ((2 ^ 8 - 1 - 2 ^ k) / 2 ^ j % 2) (pick eqb j k then 0 else 1)

-- the 64 cases of the one
one_table : all (λ k. all (one_right k) (range 0 8)) (range 0 8) ≡ true
unfolding all range one_right pick◌then◌else◌
one_table = refl

-- and of the other
rest-table : all (λ k. all (rest_right k) (range 0 8)) (range 0 8) ≡ true
unfolding all range rest_right pick◌then◌else◌
rest-table = refl

-- a table at a place
at_table : (f : ℕ → ℕ → Bool) → all (λ k. all (f k) (range 0 8)) (range 0 8) ≡ true → (k j : ℕ) → k < 8 → j < 8 → f k j ≡ true
at_table f t k j l m =
    ap (f k) (sym (zero-add j)) ∙ all-range-at (f k) 0 8 (rw (zero-add k) at (all-range-at (λ x. all (f x) (range 0 8)) 0 8 t k l)) j m

-- so only bit k of it is set
one_bit : (k j : ℕ) → k < 8 → j < 8 → 2 ^ k / 2 ^ j % 2 ≡ (pick eqb j k then 1 else 0)
unfolding one_right
one_bit k j l m = eqb-true (2 ^ k / 2 ^ j % 2) (pick eqb j k then 1 else 0) (at_table one_right one_table k j l m)

-- and here only bit k is not
rest-bit : (k j : ℕ) → k < 8 → j < 8 → (2 ^ 8 - 1 - 2 ^ k) / 2 ^ j % 2 ≡ (pick eqb j k then 0 else 1)
unfolding rest_right
rest-bit k j l m = eqb-true ((2 ^ 8 - 1 - 2 ^ k) / 2 ^ j % 2) (pick eqb j k then 0 else 1) (at_table rest_right rest-table k j l m)

-- a byte stored in a map leaves the bits alone that it does not change
module _ (m : List ℕ) (n v : ℕ) (h : n < 8 * length m) where
  -- the bit is as the new byte has it
  bit-here : (b : Bool) → eqb (v / 2 ^ (n % 8) % 2) 1 ≡ b → bit_set (set m (n / 8) v) n ≡ b
  unfolding bit_set
  bit-here b e = rw (get_or-set_same m (n / 8) v 0 (omega arith)) e

  -- any other bit is as it was
  bit-there : ((j : ℕ) → j < 8 → (j ≡ n % 8 → ⊥) → v / 2 ^ j % 2 ≡ get_or m (n / 8) 0 / 2 ^ j % 2) → (i : ℕ) → (i ≡ n → ⊥) → bit_set (set m (n / 8) v) i ≡ bit_set m i
  unfolding bit_set
  bit-there f i d = go (ℕ_discrete (i / 8) (n / 8))
    where
      go : Dec (i / 8 ≡ n / 8) → eqb (get_or (set m (n / 8) v) (i / 8) 0 / 2 ^ (i % 8) % 2) 1 ≡ eqb (get_or m (i / 8) 0 / 2 ^ (i % 8) % 2) 1
      go (yes e) = rw (e, get_or-set_same m (n / 8) v 0 (omega arith), f (i % 8) (omega arith) (λ q. d (omega arith))) refl
      go (no e) = rw (get_or-set_other m (n / 8) (i / 8) v 0 e) refl

-- the byte as the code makes it: a one shifted to its place
shifted : (n : ℕ) → 1 * 2 ^ (n % 8) % 2 ^ 8 ≡ 2 ^ (n % 8)
shifted n = rw (shl_exact {a = 1} 1 (n % 8) 8 (omega arith) (omega arith), one-mul (2 ^ (n % 8))) refl

-- the bit set
pub set_here : (m : List ℕ) (n : ℕ) → n < 8 * length m → bit_set (set m (n / 8) (bit_or (get_or m (n / 8) 0) (1 * 2 ^ (n % 8) % 2 ^ 8))) n ≡ true
set_here m n h =
    bit-here m n (bit_or (get_or m (n / 8) 0) (1 * 2 ^ (n % 8) % 2 ^ 8)) h true
    (rw (shifted n, bit-or (get_or m (n / 8) 0) (2 ^ (n % 8)) (n % 8), one_bit (n % 8) (n % 8) (omega arith) (omega arith), eq-eqb (n % 8) (n % 8) refl)
    (unfold pick◌then◌else◌ in eq-eqb (max (get_or m (n / 8) 0 / 2 ^ (n % 8) % 2) 1) 1 (omega (arith, mod-lt (get_or m (n / 8) 0 / 2 ^ (n % 8)) {m = 2} (omega arith)))))

-- any other bit is as it was
pub set_there : (m : List ℕ) (n : ℕ) → n < 8 * length m → (i : ℕ) → (i ≡ n → ⊥) → bit_set (set m (n / 8) (bit_or (get_or m (n / 8) 0) (1 * 2 ^ (n % 8) % 2 ^ 8))) i ≡ bit_set m i
set_there m n h =
    bit-there m n (bit_or (get_or m (n / 8) 0) (1 * 2 ^ (n % 8) % 2 ^ 8)) h
    (λ j l d. rw (shifted n, bit-or (get_or m (n / 8) 0) (2 ^ (n % 8)) j, one_bit (n % 8) j (omega arith) l, ne_eqb j (n % 8) d) (unfold pick◌then◌else◌ in omega arith))

-- the bit cleared
pub clear-here : (m : List ℕ) (n : ℕ) → n < 8 * length m → bit_set (set m (n / 8) (bit_and (get_or m (n / 8) 0) (2 ^ 8 - 1 - 1 * 2 ^ (n % 8) % 2 ^ 8))) n ≡ false
clear-here m n h =
    bit-here m n (bit_and (get_or m (n / 8) 0) (2 ^ 8 - 1 - 1 * 2 ^ (n % 8) % 2 ^ 8)) h false
    (rw (shifted n, bit-and (get_or m (n / 8) 0) (2 ^ 8 - 1 - 2 ^ (n % 8)) (n % 8), rest-bit (n % 8) (n % 8) (omega arith) (omega arith), eq-eqb (n % 8) (n % 8) refl)
    (unfold pick◌then◌else◌ in ne_eqb (min (get_or m (n / 8) 0 / 2 ^ (n % 8) % 2) 0) 1 (λ e. omega arith)))

-- any other bit is as it was
pub clear-there : (m : List ℕ) (n : ℕ) → n < 8 * length m → (i : ℕ) → (i ≡ n → ⊥) → bit_set (set m (n / 8) (bit_and (get_or m (n / 8) 0) (2 ^ 8 - 1 - 1 * 2 ^ (n % 8) % 2 ^ 8))) i ≡ bit_set m i
clear-there m n h =
    bit-there m n (bit_and (get_or m (n / 8) 0) (2 ^ 8 - 1 - 1 * 2 ^ (n % 8) % 2 ^ 8)) h
    (λ j l d. rw (shifted n, bit-and (get_or m (n / 8) 0) (2 ^ 8 - 1 - 2 ^ (n % 8)) j, rest-bit (n % 8) j (omega arith) l, ne_eqb j (n % 8) d)
    (unfold pick◌then◌else◌ in omega (arith, mod-lt (get_or m (n / 8) 0 / 2 ^ j) {m = 2} (omega arith))))

-- the slots after one bit and one value are set
slots_set : (p q v : List ℕ) (n x : ℕ) (b : Bool) → length v ≡ 256 → n < 256 → bit_set q n ≡ b → ((i : ℕ) → (i ≡ n → ⊥) → bit_set q i ≡ bit_set p i) → slots_from q (set v n x) ≡ set (slots_from p v) n (slot_if b x)
slots_set p q v n x b e l here there =
    let e' : length (set v n x) ≡ 256 = length-set v n x ∙ e in
    let s : length (slots_from p v) ≡ 256 = length-slots p v e in
    let t : length (slots_from q (set v n x)) ≡ 256 = length-slots q (set v n x) e' in
    ext_get_or none (slots_from q (set v n x)) (set (slots_from p v) n (slot_if b x)) (t ∙ sym (length-set (slots_from p v) n (slot_if b x) ∙ s))
    (λ i m. each i (omega arith) (ℕ_discrete i n))
  where
    each : (i : ℕ) → i < 256 → Dec (i ≡ n) → get_or (slots_from q (set v n x)) i none ≡ get_or (set (slots_from p v) n (slot_if b x)) i none
    each i m (yes d) =
        rw (d, get_or-slots q (set v n x) n (length-set v n x ∙ e) l, here, get_or-set_same v n x 0 (omega arith)) (sym (get_or-set_same (slots_from p v) n (slot_if b x) none (omega (arith, length-slots p v e))))
    each i m (no d) =
        rw (get_or-slots q (set v n x) i (length-set v n x ∙ e) m, there i d, get_or-set_other v n i x 0 d) (sym (get_or-set_other (slots_from p v) n i (slot_if b x) none d ∙ get_or-slots p v i e m))

-- as the code does it
pub with-slot : (p v : List ℕ) (n x : ℕ) → length p ≡ 32 → length v ≡ 256 → n < 256
    → slots_from (set p (n / 8) (bit_or (get_or p (n / 8) 0) (1 * 2 ^ (n % 8) % 2 ^ 8))) (set v n x) ≡ set (slots_from p v) n (some x)
with-slot p v n x m e l =
    slots_set p (set p (n / 8) (bit_or (get_or p (n / 8) 0) (1 * 2 ^ (n % 8) % 2 ^ 8))) v n x true e l (set_here p n (omega arith)) (set_there p n (omega arith))
    ∙ (unfold pick◌then◌else◌ in refl)

-- and where it clears a slot
pub without-slot : (p v : List ℕ) (n x : ℕ) → length p ≡ 32 → length v ≡ 256 → n < 256
    → slots_from (set p (n / 8) (bit_and (get_or p (n / 8) 0) (2 ^ 8 - 1 - 1 * 2 ^ (n % 8) % 2 ^ 8))) (set v n x) ≡ set (slots_from p v) n none
without-slot p v n x m e l =
    slots_set p (set p (n / 8) (bit_and (get_or p (n / 8) 0) (2 ^ 8 - 1 - 1 * 2 ^ (n % 8) % 2 ^ 8))) v n x false e l (clear-here p n (omega arith)) (clear-there p n (omega arith))
    ∙ (unfold pick◌then◌else◌ in refl)

-- ---- up to the last present slot

module _ (p : List ℕ) where
  -- behind the last presence byte there is none
  pub used-none : (k : ℕ) → 32 ≤ k → k < 32 → get_or p k 0 ≡ 0
  used-none k l m = absurd (omega arith)

  module _ (i : ℕ) (h : (k : ℕ) → i ≤ k → k < 32 → get_or p k 0 ≡ 0) where
    -- one zero byte more
    pub used-more : 0 < i → get_or p (i - 1) 0 ≡ 0 → (k : ℕ) → i - 1 ≤ k → k < 32 → get_or p k 0 ≡ 0
    used-more z e k l m = go (ℕ_discrete k (i - 1))
      where
        go : Dec (k ≡ i - 1) → get_or p k 0 ≡ 0
        go (yes d) = rw d e
        go (no d) = h k (omega arith) m

    -- the last that is not zero
    pub used-here : i ≤ 32 → (get_or p (i - 1) 0 ≡ 0 → ⊥) → UpTo p i
    used-here l d = record { most = l; behind = h; last = λ z e. d e }

    -- all are zero
    pub used_all : i ≤ 0 → UpTo p 0
    used_all l = record { most = omega arith; behind = λ k a b. h k (omega arith) b; last = λ z e. omega arith }

-- where the last present slot stands right before c
pub up_to-is : (ss : List (Option ℕ)) (c : ℕ) → c ≤ length ss → ((i : ℕ) → c ≤ i → i < length ss → given (get_or ss i none) ≡ false) → ((k : ℕ) → c ≡ suc k → given (get_or ss k none) ≡ true) → up_to_present ss ≡ c
unfolding up_to_present pick◌then◌else◌
up_to-is [] c l f g = omega arith
up_to-is (s ∷ ss) zero l f g =
    let r : up_to_present ss ≡ 0 = up_to-is ss zero (omega arith) (λ i a b. f (suc i) (omega arith) (omega arith)) (λ k e. absurd (omega arith)) in
    rw (r, f 0 (omega arith) (omega arith)) refl
up_to-is (s ∷ ss) (suc zero) l f g =
    let r : up_to_present ss ≡ 0 = up_to-is ss zero (omega arith) (λ i a b. f (suc i) (omega arith) (omega arith)) (λ k e. absurd (omega arith)) in
    rw (r, g 0 refl) refl
up_to-is (s ∷ ss) (suc (suc c)) l f g =
    let r : up_to_present ss ≡ suc c = up_to-is ss (suc c) (omega arith) (λ i a b. f (suc i) (omega arith) (omega arith)) (λ k e. g (suc k) (ap suc e)) in
    rw (r, eqb-suc-zero c) refl

-- a bit that is read as zero is not set
bit-zero : (p : List ℕ) (i : ℕ) → get_or p (i / 8) 0 / 2 ^ (i % 8) ≡ 0 → bit_set p i ≡ false
unfolding bit_set
bit-zero p i e = rw e refl

-- a byte's highest bit
top_bit : (a j : ℕ) → 2 ^ j ≤ a → a < 2 ^ suc j → a / 2 ^ j ≡ 1
top_bit a j l h =
    let r : a - 2 ^ j < 2 ^ j = omega (arith, pow-suc 2 j) in
    let e : 1 * 2 ^ j + (a - 2 ^ j) ≡ a = omega arith in
    rw e at (high 1 j r)

-- none of the presence bytes is used
pub compact-none : (p v : List ℕ) (used : ℕ) → length v ≡ 256 → UpTo p used → used ≡ 0 → 32 ≡ 32 + 4 * up_to_present (slots_from p v)
compact-none p v used e u z =
    let n : length (slots_from p v) ≡ 256 = length-slots p v e in
    let r : up_to_present (slots_from p v) ≡ 0 =
    up_to-is (slots_from p v) 0 (omega arith)
    (λ i a b. given-slots p v i e (omega arith) ∙ bit-zero p i (rw (u.behind (i / 8) (omega arith) (omega arith)) (zero-div (2 ^ (i % 8)))))
    (λ k d. absurd (omega arith)) in
    omega arith

-- behind the highest bit of the last used byte none is set
bits_above : (p : List ℕ) (used j i : ℕ) → UpTo p used → get_or p (used - 1) 0 < 2 ^ suc j → 0 < used → j < 8 → 8 * (used - 1) + suc j ≤ i → i < 256 → bit_set p i ≡ false
bits_above p used j i u h z m l r = bit-zero p i (go (ℕ_discrete (i / 8) (used - 1)))
  where
    go : Dec (i / 8 ≡ used - 1) → get_or p (i / 8) 0 / 2 ^ (i % 8) ≡ 0
    go (yes e) = rw e (div-eq_of_lt (lt_of_lt_of_le h (pow_mono {i = suc j} {j = i % 8} (omega arith))))
    go (no e) = rw (u.behind (i / 8) (omega arith) (omega arith)) (zero-div (2 ^ (i % 8)))

-- that bit is
bit-top : (p : List ℕ) (used j k : ℕ) → 2 ^ j ≤ get_or p (used - 1) 0 → get_or p (used - 1) 0 < 2 ^ suc j → j < 8 → 8 * (used - 1) + suc j ≡ suc k → bit_set p k ≡ true
unfolding bit_set
bit-top p used j k l h m e =
    let d : k / 8 ≡ used - 1 = omega arith in
    let r : k % 8 ≡ j = omega arith in
    rw (d, r, top_bit (get_or p (used - 1) 0) j l h) refl

-- the last used one ends at its highest bit
pub compact-some : (p v : List ℕ) (used top : ℕ) → length v ≡ 256 → UpTo p used → (used ≡ 0 → ⊥) → top ≡ 8 - count_leading_zeros 8 (get_or p (used - 1) 0) → get_or p (used - 1) 0 < 256
    → 32 + 4 * (8 * (used - 1) + top) ≡ 32 + 4 * up_to_present (slots_from p v)
compact-some p v used top e u z o b =
    let l : used ≤ 32 = u.most in
    let w : 0 < used = omega arith in
    let pos : 0 < get_or p (used - 1) 0 = positive (get_or p (used - 1) 0) (u.last w) in
    let t : (j : ℕ) × (count_leading_zeros 8 (get_or p (used - 1) 0) + suc j ≡ 8) × (2 ^ j ≤ get_or p (used - 1) 0) × (get_or p (used - 1) 0 < 2 ^ suc j) =
    leading_top 8 (get_or p (used - 1) 0) pos b in
    let j : ℕ = t.0 in
    let q : count_leading_zeros 8 (get_or p (used - 1) 0) + suc j ≡ 8 = t.1 in
    let n : length (slots_from p v) ≡ 256 = length-slots p v e in
    let r : up_to_present (slots_from p v) ≡ 8 * (used - 1) + suc j =
    up_to-is (slots_from p v) (8 * (used - 1) + suc j) (omega arith)
    (λ i x y. given-slots p v i e (omega arith) ∙ bits_above p used j i u t.3 w (omega arith) x (omega arith))
    (λ k d. given-slots p v k e (omega arith) ∙ bit-top p used j k t.2 t.3 (omega arith) d) in
    omega arith
  where
    positive : (a : ℕ) → (a ≡ 0 → ⊥) → 0 < a
    positive a f = omega arith

-- the last present slot is one of them
up_to-le : (ss : List (Option ℕ)) → up_to_present ss ≤ length ss
unfolding up_to_present
up_to-le [] = omega arith
up_to-le (s ∷ ss) =
    let r : up_to_present ss ≤ length ss = up_to-le ss in
    if-cases (λ n. n ≤ length (s ∷ ss)) (eqb (up_to_present ss) 0) (pick given s then 1 else 0) (suc (up_to_present ss))
    (λ e. if-cases (λ n. n ≤ length (s ∷ ss)) (given s) 1 0 (λ d. omega arith) (λ d. omega arith))
    (λ e. omega arith)

-- the length of a group's value as it is kept: what `compact_group` answers
pub length-compact : (g : Group) → length (compact_group g) ≡ 32 + 4 * up_to_present g.slots
unfolding compact_group presence
length-compact g =
    rw (length-append, length-bit_bytes 32 (λ n. given (get_or g.slots n none)) 0, length-flat_map slot_bytes 4 (wide (take (up_to_present g.slots) g.slots)), length-take-le (up_to_present g.slots) g.slots (up_to-le g.slots)) refl

-- ---- a group's bytes at their place

module _ (s : List ℕ) (at : ℕ) where
  -- the presence bits
  pub present-at : part 17 32 (part at group_bytes s) ≡ part (at + 17) 32 s
  present-at = part-part s at 1073 17 32 (omega arith)

  -- the values
  pub values-at : slot_values (part at group_bytes s) ≡ values_at s (at + 49)
  unfolding slot_values values_at part
  values-at =
      let e : drop 49 (take 1073 (drop at s)) ≡ take 1024 (drop (at + 49) s) = drop-take 49 1024 (drop at s) ∙ ap (take 1024) (drop-drop 49 at s) in
      ap (map le) (pieces-same 4 256 (drop 49 (take 1073 (drop at s))) (drop (at + 49) s) (ap (take 1024) e ∙ take-take 1024 1024 (drop (at + 49) s) (omega arith)))

  -- the value at a place
  pub get_or-values_at : (i : ℕ) → i < 256 → get_or (values_at s at) i 0 ≡ le (part (at + 4 * i) 4 s)
  unfolding values_at
  get_or-values_at i l =
      let n : length (pieces 4 256 (drop at s)) ≡ 256 = length-pieces 4 256 (drop at s) in
      get_d_map le (pieces 4 256 (drop at s)) i 0 [] (omega arith) ∙ ap le (get_or-pieces 4 256 (drop at s) i l ∙ part-drop s (4 * i) 4 at)

  -- so many values
  pub length-values_at : length (values_at s at) ≡ 256
  unfolding values_at
  length-values_at = length-map (pieces 4 256 (drop at s)) le ∙ length-pieces 4 256 (drop at s)

  -- values that were read one by one
  pub values-read : (v : List ℕ) → length v ≡ 256 → ((k : ℕ) → k < 256 → get_or v k 0 ≡ le (part (at + 4 * k) 4 s)) → v ≡ values_at s at
  values-read v e f = ext_get_or 0 v (values_at s at) (e ∙ sym length-values_at) (λ i l. f i (omega arith) ∙ sym (get_or-values_at i (omega arith)))

-- one value more
pub values-more : (v : List ℕ) (f : ℕ → ℕ) (i x : ℕ) → i < length v → ((k : ℕ) → k < i → get_or v k 0 ≡ f k) → x ≡ f i → (k : ℕ) → k < i + 1 → get_or (set v i x) k 0 ≡ f k
values-more v f i x l h e k m = go (ℕ_discrete k i)
  where
    go : Dec (k ≡ i) → get_or (set v i x) k 0 ≡ f k
    go (yes d) = rw (d, get_or-set_same v i x 0 l) e
    go (no d) = get_or-set_other v i k x 0 d ∙ h k (omega arith)

-- the slots of a record
pub group-read : (s p v : List ℕ) (at : ℕ) → p ≡ part (at + 17) 32 s → v ≡ values_at s (at + 49) → slots_from p v ≡ (decode_group (part at group_bytes s)).slots
unfolding slots_from decode_group presence_bits
group-read s p v at e f = rw (e, f, present-at s at, values-at s at) refl

-- a value and a bit: the product with the inverted bit is zero where the bit is set, or the value zero
product : (v bit : ℕ) → bit < 2 → eqb (v * (1 - bit)) 0 ≡ (eqb bit 1 || eqb v 0)
product v zero l = ap (λ (n : ℕ). eqb n 0) (mul-one v)
product v (suc zero) l = ap (λ (n : ℕ). eqb n 0) (mul-zero v)
product v (suc (suc bit)) l = absurd (omega arith)

-- it is no more than the value
pub product-fits : (v y c : ℕ) → v < 2 ^ 32 → c ≡ 1 - y → v * c < 2 ^ 32
product-fits v y zero l e = rw (mul-zero v) (omega arith)
product-fits v y (suc zero) l e = rw (mul-one v) l
product-fits v y (suc (suc c)) l e = absurd (omega arith)

module _ (s : List ℕ) (at n : ℕ) (l : n < 256) where
  -- a presence bit in the record's bytes
  pub bit-at-place : bit_set (part 17 32 (part at group_bytes s)) n ≡ eqb (get_or s (at + 17 + n / 8) 0 / 2 ^ (n % 8) % 2) 1
  unfolding bit_set
  bit-at-place = rw (present-at s at, get_d_part s (at + 17) 32 (n / 8) (omega arith)) refl

  -- a value there
  pub value-at-place : get_or (slot_values (part at group_bytes s)) n 0 ≡ le (part (at + 49 + 4 * n) 4 s)
  value-at-place = rw (values-at s at) (get_or-values_at s (at + 49) n l)

  -- a slot there
  pub slot-at-place : get_or (decode_group (part at group_bytes s)).slots n none ≡ slot_if (eqb (get_or s (at + 17 + n / 8) 0 / 2 ^ (n % 8) % 2) 1) (le (part (at + 49 + 4 * n) 4 s))
  slot-at-place =
      rw (← group-read s (part (at + 17) 32 s) (values_at s (at + 49)) at refl refl, get_or-slots (part (at + 17) 32 s) (values_at s (at + 49)) n (length-values_at s (at + 49)) l, ← present-at s at, bit-at-place, get_or-values_at s (at + 49) n l) refl

  module _ (m : Bool) (e : m ≡ eqb (get_or s (at + 17 + n / 8) 0 / 2 ^ (n % 8) % 2) 1) where
    -- a slot whose bit was found set
    pub read-present : (x : ℕ) → m ≡ true → x ≡ le (part (at + 49 + 4 * n) 4 s) → some x ≡ get_or (decode_group (part at group_bytes s)).slots n none
    unfolding pick◌then◌else◌
    read-present x t v = sym (slot-at-place ∙ rw (← e, t, ← v) refl)

    -- and one whose bit was not
    pub read-absent : m ≡ false → none ≡ get_or (decode_group (part at group_bytes s)).slots n none
    unfolding pick◌then◌else◌
    read-absent t = sym (slot-at-place ∙ rw (← e, t) refl)

  -- the value where the bit is clear, and zero where it is set
  pub absent-value : (x c : ℕ) → x ≡ le (part (at + 49 + 4 * n) 4 s) → c ≡ 1 - get_or s (at + 17 + n / 8) 0 / 2 ^ (n % 8) % 2 → eqb (x * c) 0 ≡ slot_right (part at group_bytes s) n
  unfolding slot_right
  absent-value x c p q = rw (p, q, bit-at-place, value-at-place) (product (le (part (at + 49 + 4 * n) 4 s)) (get_or s (at + 17 + n / 8) 0 / 2 ^ (n % 8) % 2) (mod-lt _ (omega arith)))

-- the test of a record's slots, at a place
test-slots : (b : List ℕ) (n : ℕ) → n < 256 → get_or (zip_with (λ present crc. present || eqb crc 0) (presence_bits b) (slot_values b)) n true ≡ slot_right b n
unfolding presence_bits slot_right
test-slots b n l =
    let p : length (map (bit_set (part 17 32 b)) (range 0 256)) ≡ 256 = length-map (range 0 256) (bit_set (part 17 32 b)) ∙ length-range 0 256 in
    let v : length (slot_values b) ≡ 256 = unfold slot_values in length-map (pieces 4 256 (drop 49 b)) le ∙ length-pieces 4 256 (drop 49 b) in
    get_or-zip_with (λ present crc. present || eqb crc 0) (map (bit_set (part 17 32 b)) (range 0 256)) (slot_values b) n false 0 true (omega arith) (omega arith)
    ∙ ap (λ (x : Bool). x || eqb (get_or (slot_values b) n 0) 0) (get_or-map-range (bit_set (part 17 32 b)) 0 256 n false l ∙ ap (bit_set (part 17 32 b)) (zero-add n))

-- so many tests
length-tests : (b : List ℕ) → length (zip_with (λ present crc. present || eqb crc 0) (presence_bits b) (slot_values b)) ≡ 256
unfolding presence_bits slot_values
length-tests b =
    length-zip_with (λ present crc. present || eqb crc 0) 256 (map (bit_set (part 17 32 b)) (range 0 256)) (map le (pieces 4 256 (drop 49 b)))
    (length-map (range 0 256) (bit_set (part 17 32 b)) ∙ length-range 0 256) (length-map (pieces 4 256 (drop 49 b)) le ∙ length-pieces 4 256 (drop 49 b))

-- the tests of all slots
absent-scan : (p : List ℕ) → all (slot_right p) (range 0 256) ≡ absent_zero p
unfolding absent_zero
absent-scan p =
    let ts : List Bool = zip_with (λ present crc. present || eqb crc 0) (presence_bits p) (slot_values p) in
    let len : length ts ≡ 256 = length-tests p in
    same_test (all (slot_right p) (range 0 256)) (all (λ ok. ok) ts)
    (λ h. all_of (λ ok. ok) ts true (λ i l. test-slots p i (omega arith) ∙ ap (slot_right p) (sym (zero-add i)) ∙ all-range-at (slot_right p) 0 256 h i (omega arith)))
    (λ h. all-range-of (slot_right p) 0 256 (λ i l. ap (slot_right p) (zero-add i) ∙ sym (test-slots p i l) ∙ all-at (λ ok. ok) ts h i true (omega arith)))

module _ (p : List ℕ) where
  module _ (a : ℕ) where
    -- no slot yet
    pub slots-from : eqb 0 0 ≡ all (slot_right p) (range a 0)
    slots-from = sym (scan-none (slot_right p) a)

    -- one more
    pub slots_next : (k x v : ℕ) → eqb x 0 ≡ all (slot_right p) (range a k) → eqb v 0 ≡ slot_right p (a + k) → eqb (bit_or x v) 0 ≡ all (slot_right p) (range a (k + 1))
    slots_next k x v e f = or-zero x v ∙ rw (e, f) (sym (scan-suc (slot_right p) a k))

    -- eight
    pub slots-eight : (k x : ℕ) → k ≤ 8 → 8 ≤ k → eqb x 0 ≡ all (slot_right p) (range a k) → eqb x 0 ≡ all (slot_right p) (range a 8)
    slots-eight k x l h e = let q : k ≡ 8 = omega arith in rw q at e

  -- no byte of them yet
  pub bytes-none : eqb 0 0 ≡ all (slot_right p) (range 0 (8 * 0))
  bytes-none = sym (scan-none (slot_right p) 0)

  -- one more
  pub bytes-more : (b x v : ℕ) → eqb x 0 ≡ all (slot_right p) (range 0 (8 * b)) → eqb v 0 ≡ all (slot_right p) (range (8 * b) 8) → eqb (bit_or x v) 0 ≡ all (slot_right p) (range 0 (8 * (b + 1)))
  bytes-more b x v e f =
      let q : 8 * (b + 1) ≡ 8 * b + 8 = omega arith in
      or-zero x v ∙ rw (e, f, q) (sym (scan-add (slot_right p) 0 (8 * b) 8 ∙ ap (λ (n : ℕ). all (slot_right p) (range 0 (8 * b)) && all (slot_right p) (range n 8)) (zero-add (8 * b))))

  -- all
  pub bytes-all : (b x : ℕ) → b ≤ 32 → 32 ≤ b → eqb x 0 ≡ all (slot_right p) (range 0 (8 * b)) → eqb x 0 ≡ absent_zero p
  bytes-all b x l h e = let q : b ≡ 32 = omega arith in (rw q at e) ∙ absent-scan p

-- every bit of a full byte is set
full-bits : (k : ℕ) → k < 8 → eqb (255 / 2 ^ k % 2) 1 ≡ true
unfolding all range
full-bits k l = ap (λ (n : ℕ). eqb (255 / 2 ^ n % 2) 1) (sym (zero-add k)) ∙ all-range-at (λ n. eqb (255 / 2 ^ n % 2) 1) 0 8 refl k l

-- so that all its slots are right
pub full-byte : (s : List ℕ) (at b : ℕ) → b < 32 → get_or s (at + 17 + b) 0 ≡ 255 → eqb 0 0 ≡ all (slot_right (part at group_bytes s)) (range (8 * b) 8)
unfolding slot_right
full-byte s at b l e =
    sym (all-range-of (slot_right (part at group_bytes s)) (8 * b) 8
    (λ k g.
    let q : (8 * b + k) / 8 ≡ b = omega arith in
    let r : (8 * b + k) % 8 ≡ k = omega arith in
    or_left (bit_set (part 17 32 (part at group_bytes s)) (8 * b + k)) (eqb (get_or (slot_values (part at group_bytes s)) (8 * b + k) 0) 0)
    (bit-at-place s at (8 * b + k) (omega arith) ∙ rw (q, r, e) (full-bits k g))))

-- ---- slots written

-- none yet
pub slots-none : (s p v : List ℕ) (at : ℕ) → s ≡ patch s at (flat_map slot_bytes (take 0 (slots_from p v)))
unfolding flat_map
slots-none s p v at = sym (patch-none s at)

-- the bytes of one slot
one-slot : (slot : Option ℕ) (x : ℕ) → x ≡ value_of slot → flat_map slot_bytes (slot ∷ []) ≡ le_digits 4 x
unfolding flat_map slot_bytes value_of
one-slot slot x y = append-nil (le_digits 4 (maybe 0 (λ crc. crc) slot)) ∙ ap (le_digits 4) (sym y)

-- one slot more
pub slots-more : (s₀ s t p v : List ℕ) (at i x : ℕ) → length v ≡ 256 → i < 256 → at + 1024 ≤ length s₀ → s ≡ patch s₀ at (flat_map slot_bytes (take i (slots_from p v))) → x ≡ value_of (get_or (slots_from p v) i none) → t ≡ patch s (at + 4 * i) (le_digits 4 x)
    → t ≡ patch s₀ at (flat_map slot_bytes (take (i + 1) (slots_from p v)))
slots-more s₀ s t p v at i x e l h q y r =
    let ss : List (Option ℕ) = slots_from p v in
    let n : length ss ≡ 256 = length-slots p v e in
    let m : length (take i ss) ≡ i = length-take-le i ss (omega arith) in
    let k : length (flat_map slot_bytes (take i ss)) ≡ 4 * i = length-flat_map slot_bytes 4 (wide (take i ss)) ∙ ap (λ (j : ℕ). 4 * j) m in
    let w : flat_map slot_bytes (get_or ss i none ∷ []) ≡ le_digits 4 x = one-slot (get_or ss i none) x y in
    let d : length (le_digits 4 x) ≡ 4 = length-le_digits 4 x in
    let c : flat_map slot_bytes (take (i + 1) ss) ≡ flat_map slot_bytes (take i ss) ++ le_digits 4 x =
    rw (add-one i, take-suc ss i none (omega arith), flat_map-append slot_bytes (take i ss) (get_or ss i none ∷ []), w) refl in
    r ∙ ap (λ (b : List ℕ). patch b (at + 4 * i) (le_digits 4 x)) q ∙ rw c (patch-patch s₀ at (at + 4 * i) (flat_map slot_bytes (take i ss)) (le_digits 4 x) (omega arith) (omega arith))

-- all of them
pub slots-done : (s₀ s p v : List ℕ) (at i : ℕ) → length v ≡ 256 → i ≤ 256 → 256 ≤ i → s ≡ patch s₀ at (flat_map slot_bytes (take i (slots_from p v))) → s ≡ patch s₀ at (flat_map slot_bytes (slots_from p v))
slots-done s₀ s p v at i e l h q =
    q ∙ ap (λ (ss : List (Option ℕ)). patch s₀ at (flat_map slot_bytes ss)) (take_all i (slots_from p v) (omega (arith, length-slots p v e)))

-- the presence bytes of a record, copied
pub copied-whole : (n at : ℕ) (s x : List ℕ) → at + n ≤ length s → x ≡ patch (replicate n 0) 0 (part at n s) → x ≡ part at n s
copied-whole n at s x l e = e ∙ patch-whole (replicate n 0) (part at n s) (length_part s at n l ∙ sym (length-replicate {A = ℕ} n 0))

-- a group under its key
pub group-same : (object number : ℕ) (a b : List (Option ℕ)) → a ≡ b → ◌≡◌ {A = Group} (record { object = object; number = number; slots = a }) (record { object = object; number = number; slots = b })
group-same object number a b e = λ i. record { object = object; number = number; slots = e i }

-- the first number of a record's key
pub group-object : (s : List ℕ) (at x : ℕ) → x ≡ be (part at 8 s) → x ≡ (decode_group (part at group_bytes s)).object
unfolding decode_group
group-object s at x e = e ∙ ap be (ap (λ (k : ℕ). part k 8 s) (sym (add-zero at)) ∙ sym (part-part s at 1073 0 8 (omega arith)))

-- and the second
pub group-number : (s : List ℕ) (at x : ℕ) → x ≡ be (part (at + 9) 8 s) → x ≡ (decode_group (part at group_bytes s)).number
unfolding decode_group
group-number s at x e = e ∙ ap be (sym (part-part s at 1073 9 8 (omega arith)))

-- the byte between them
pub group_tag : (s : List ℕ) (at : ℕ) → eqb (get_or s (at + 8) 0) 4 ≡ group_fixed (part at group_bytes s)
unfolding group_fixed
group_tag s at = rw (get_d_part s at 1073 8 (omega arith)) refl

-- presence bytes and slots, written side by side
pub value-put : (s x t p v : List ℕ) (at : ℕ) → length p ≡ 32 → length v ≡ 256 → Bytes p → at + 1056 ≤ length s → x ≡ patch s at p → t ≡ patch x (at + 32) (flat_map slot_bytes (slots_from p v))
    → t ≡ patch s at (presence (slots_from p v) ++ flat_map slot_bytes (slots_from p v))
value-put s x t p v at lp lv b l e f =
    let z : List ℕ = flat_map slot_bytes (slots_from p v) in
    let lz : length z ≡ 1024 = length-flat_map slot_bytes 4 (wide (slots_from p v)) ∙ ap (λ (j : ℕ). 4 * j) (length-slots p v lv) in
    f ∙ ap (λ (c : List ℕ). patch c (at + 32) z) e ∙ patch-patch s at (at + 32) p z (omega arith) (omega arith) ∙ rw (presence-slots p v lp lv b) refl

-- the key and the value, written side by side
pub group-put : (s x t : List ℕ) (ss : List (Option ℕ)) (at object number : ℕ) → length ss ≡ 256 → at + group_bytes ≤ length s → x ≡ patch s at (group_key object number)
    → t ≡ patch x (at + 17) (presence ss ++ flat_map slot_bytes ss) → t ≡ patch s at (encode_group (record { object = object; number = number; slots = ss }))
unfolding encode_group
group-put s x t ss at object number n l e f =
    let k : List ℕ = group_key object number in
    let p : List ℕ = presence ss in
    let z : List ℕ = flat_map slot_bytes ss in
    let lk : length k ≡ 17 = unfold group_key in rw (length-append, length-be_digits 8 object, length-be_digits 8 number) refl in
    let lp : length p ≡ 32 = unfold presence in length-bit_bytes 32 (λ n. given (get_or ss n none)) 0 in
    let lz : length z ≡ 1024 = length-flat_map slot_bytes 4 (wide ss) ∙ ap (λ (j : ℕ). 4 * j) n in
    let lpz : length (p ++ z) ≡ 1056 = rw (length-append, lp, lz) refl in
    f ∙ ap (λ (c : List ℕ). patch c (at + 17) (p ++ z)) e ∙ patch-patch s at (at + 17) k (p ++ z) (omega arith) (omega arith) ∙ ap (patch s at) (sym (append_assoc k p z))
