-- The window in the shape of its functions' needs: the register put in, bytes taken in, the bytes moved down, and the message that is left.
-- Assumes nothing.
use mathlib.Core.Path.{◌≡◌, refl, sym, ap, ap₂, ◌∙◌}
use mathlib.Core.List.{List, [], ◌∷◌, ◌++◌}
use Prim.Native.Nat.{ℕ, zero, suc, ◌+◌, ◌-◌, ◌*◌, ◌/◌, ◌%◌, ◌^◌, ◌≤◌, ◌<◌}
use native.Mathlib.Nat.{add-zero, add-suc, add_comm, zero-add, sub_self}
use native.Mathlib.Omega.{arith}
use lib.Bits.{bit_xor, xor_zero_l, xor_zero_r, xor_shifted}
use lib.ListN.{length, get_or, set, take, replicate, length-append, length-replicate}
use lib.Seq.{take_all}
use Rattle.std.proofs.lemmas.List.{take_more, take_more_set}
use Rattle.rules.specs.Bytes.{le_digits, part, patch}
use Rattle.rules.proofs.ByteLaws.{length-le_digits, length_part, get_d_part, get_or-patch, get_or-patch-before, patch-before}
use Rattle.crc32c_tables.specs.Register.{turns, fed}
use Rattle.crc32c_window.specs.Window.{tap_sum, stands, latest, taps, register_at, Clear}
use Rattle.crc32c_tables.proofs.XorLaws.{xor_assoc}
use Rattle.crc32c_tables.proofs.RegisterLaws.{fed-append}
use Rattle.crc32c_window.proofs.HistoryLaws.{share, share-zero, stands-snoc, stands-cons, stands-next, stands-zeros, get_or-zeros}
use Rattle.crc32c_window.proofs.LatestLaws.{length-latest, latest-cons, latest-snoc, latest-moved, latest-zeros, latest-new, get_or-latest}
use Rattle.crc32c_window.proofs.Multiple.{share-524, share-525, share-526, share-527, share-gone}

-- a patch from the first byte on
get_or-first : (s xs : List ℕ) (j : ℕ) → j < length xs → get_or (patch s 0 xs) j 0 ≡ get_or xs j 0
get_or-first s xs j h = ap (λ (k : ℕ). get_or (patch s 0 xs) k 0) (sym (zero-add j)) ∙ get_or-patch s 0 j xs h (omega arith)

-- ---- the register put in

-- the oldest of n + 1 bytes apart, at place j
oldest : (w : List ℕ) (n j x y : ℕ) → 528 ≡ suc n + j → stands taps (latest w 528 n) ≡ x → share taps n (get_or w j 0) ≡ y → stands taps (latest w 528 (suc n)) ≡ bit_xor x y
oldest w n j x y q p s =
    let l : length (latest w 528 n) ≡ n = length-latest w 528 n (omega arith) in
    ap (stands taps) (latest-snoc w 528 n j q) ∙ stands-snoc taps (latest w 528 n) (get_or w j 0) ∙ ap₂ bit_xor p (ap (λ (k : ℕ). share taps k (get_or w j 0)) l ∙ s)

-- four bytes and zeros behind them stand for the number of the four bytes
four_bytes : (w : List ℕ) (b0 b1 b2 b3 : ℕ) → get_or w 0 0 ≡ b0 → get_or w 1 0 ≡ b1 → get_or w 2 0 ≡ b2 → get_or w 3 0 ≡ b3
    → b0 < 256 → b1 < 256 → b2 < 256 → b3 < 256 → ((j : ℕ) → 4 ≤ j → j < 528 → get_or w j 0 ≡ 0)
    → stands taps (latest w 528 528) ≡ ((b3 * 256 + b2) * 256 + b1) * 256 + b0
four_bytes w b0 b1 b2 b3 e0 e1 e2 e3 h0 h1 h2 h3 z =
    let x4 : stands taps (latest w 528 524) ≡ 0 = ap (stands taps) (latest-zeros w 4 528 524 (omega arith) z) ∙ stands-zeros taps 524 in
    let x3 : stands taps (latest w 528 525) ≡ b3 * 2 ^ 24 = oldest w 524 3 0 (b3 * 2 ^ 24) refl x4 (rw e3 (share-524 b3 h3)) ∙ xor_zero_l (b3 * 2 ^ 24) in
    let x2 : stands taps (latest w 528 526) ≡ (b3 * 256 + b2) * 2 ^ 16 =
    oldest w 525 2 (b3 * 2 ^ 24) (b2 * 2 ^ 16) refl x3 (rw e2 (share-525 b2 h2)) ∙ xor_shifted b3 24 (b2 * 2 ^ 16) (omega arith) ∙ omega arith in
    let x1 : stands taps (latest w 528 527) ≡ ((b3 * 256 + b2) * 256 + b1) * 2 ^ 8 =
    oldest w 526 1 ((b3 * 256 + b2) * 2 ^ 16) (b1 * 2 ^ 8) refl x2 (rw e1 (share-526 b1 h1)) ∙ xor_shifted (b3 * 256 + b2) 16 (b1 * 2 ^ 8) (omega arith) ∙ omega arith in
    oldest w 527 0 (((b3 * 256 + b2) * 256 + b1) * 2 ^ 8) b0 refl x1 (rw e0 (share-527 b0 h0)) ∙ xor_shifted ((b3 * 256 + b2) * 256 + b1) 8 b0 (omega arith)

-- the register little-endian and zeros behind it stand for the register
digits-stand : (c : ℕ) → c < 2 ^ 32 → stands taps (latest (le_digits 4 c ++ replicate 524 0) 528 528) ≡ c
unfolding le_digits
digits-stand c h =
    four_bytes (le_digits 4 c ++ replicate 524 0) (c % 256) (c / 256 % 256) (c / 256 / 256 % 256) (c / 256 / 256 / 256 % 256) refl refl refl refl
    (omega arith) (omega arith) (omega arith) (omega arith) behind ∙ omega arith
  where
    behind : (j : ℕ) → 4 ≤ j → j < 528 → get_or (le_digits 4 c ++ replicate 524 0) j 0 ≡ 0
    behind zero p q = absurd (omega arith)
    behind (suc zero) p q = absurd (omega arith)
    behind (suc (suc zero)) p q = absurd (omega arith)
    behind (suc (suc (suc zero))) p q = absurd (omega arith)
    behind (suc (suc (suc (suc j)))) p q = get_or-zeros 524 j

pub register-set : (w x y : List ℕ) (c : ℕ) → x ≡ patch w 4 (replicate (528 - 4) 0) → y ≡ patch x 0 (le_digits 4 c) → length w ≡ 4624 → c < 2 ^ 32
    → register_at y 528 ≡ c
unfolding register_at
register-set w x y c p q l h =
    let d : List ℕ = le_digits 4 c ++ replicate 524 0 in
    let n4 : length (le_digits 4 c) ≡ 4 = length-le_digits 4 c in
    let n : length d ≡ 528 = rw length-append (omega arith) in
    let e : y ≡ patch w 0 d = q ∙ rw p (patch-before w 0 4 (le_digits 4 c) (replicate 524 0) (omega arith) (omega arith)) in
    ap (stands taps) (latest-moved d y 0 528 528 (omega arith) (λ j g. rw (e, add-zero j) (get_or-first w d j (omega arith)))) ∙ digits-stand c h

-- ---- bytes taken in

pub taken_none : (w s : List ℕ) → register_at w (528 + 0) ≡ fed (register_at w 528) (take 0 s)
unfolding fed
taken_none w s = refl

-- the bytes that are added, as the code reads them, where all of a history or its newest 528 bytes are looked at
added-taps : (w : List ℕ) (i e n : ℕ) → e ≡ 528 + i → 528 ≤ n → n ≤ e
    → tap_sum taps (latest w e n) ≡ bit_xor (bit_xor (bit_xor (bit_xor (get_or w (i + 400) 0) (get_or w (i + 224) 0)) (get_or w (i + 175) 0)) (get_or w (i + 103) 0)) (get_or w i 0)
unfolding tap_sum
added-taps w i e n q l h =
    rw (
      get_or-latest w e n 127 (i + 400) (omega arith) (omega arith),
      get_or-latest w e n 303 (i + 224) (omega arith) (omega arith),
      get_or-latest w e n 352 (i + 175) (omega arith) (omega arith),
      get_or-latest w e n 424 (i + 103) (omega arith) (omega arith),
      get_or-latest w e n 527 i (omega arith) (omega arith),
      xor_zero_r (get_or w i 0),
    ) (simp xor_assoc)

pub added-is : (w : List ℕ) (i : ℕ)
    → bit_xor (bit_xor (bit_xor (bit_xor (get_or w (i + 400) 0) (get_or w (i + 224) 0)) (get_or w (i + 175) 0)) (get_or w (i + 103) 0)) (get_or w i 0) ≡ tap_sum taps (latest w (528 + i) 528)
added-is w i = sym (added-taps w i (528 + i) 528 refl (omega arith) (omega arith))

-- one byte
fed-one : (r v : ℕ) → fed r (v ∷ []) ≡ turns 8 (bit_xor r v)
unfolding fed
fed-one r v = refl

-- one byte more
fed-byte : (s : List ℕ) (i r : ℕ) → i < length s → fed r (take (i + 1) s) ≡ turns 8 (bit_xor (fed r (take i s)) (get_or s i 0))
fed-byte s i r h = rw (take_more s i 0 h, fed-append r (take i s) (get_or s i 0 ∷ [])) (fed-one (fed r (take i s)) (get_or s i 0))

pub taken_more : (w s : List ℕ) (i r a : ℕ) → register_at w (528 + i) ≡ fed r (take i s) → a ≡ tap_sum taps (latest w (528 + i) 528) → get_or w i 0 < 256 → i + 528 < length w → i < length s
    → register_at (set w (i + 528) (bit_xor (get_or s i 0) a)) (528 + (i + 1)) ≡ fed r (take (i + 1) s)
unfolding register_at
taken_more w s i r a p t o hw hs =
    let m : i + 528 ≡ 528 + i = omega arith in
    let b : 528 + (i + 1) ≡ suc (528 + i) = omega arith in
    let l : length h ≡ 527 = length-latest w (528 + i) 527 (omega arith) in
    let q : latest w (528 + i) 528 ≡ h ++ (get_or w i 0 ∷ []) = latest-snoc w (528 + i) 527 i refl in
    let z : share taps (suc (length h)) (get_or w i 0) ≡ 0 = rw l (share-gone (get_or w i 0) o) in
    let e : bit_xor x a ≡ bit_xor x (tap_sum taps (h ++ (get_or w i 0 ∷ []))) = ap (bit_xor x) (t ∙ ap (tap_sum taps) q) in
    rw (m, b)
    (ap (stands taps) (latest-new w (528 + i) 527 (bit_xor x a) (omega arith))
    ∙ stands-next taps h (get_or w i 0) (bit_xor x a) x z e
    ∙ ap (λ (y : ℕ). turns 8 (bit_xor y x)) (ap (stands taps) (sym q) ∙ p) ∙ sym (fed-byte s i r hs))
  where
    h : List ℕ
    h = latest w (528 + i) 527

    x : ℕ
    x = get_or s i 0

-- ---- moved down

pub moved : (w v : List ℕ) (n r : ℕ) → v ≡ patch w (n - n) (part n (n + 528 - n) w) → register_at w (528 + n) ≡ r → n + 528 ≤ length w → register_at v 528 ≡ r
unfolding register_at
moved w v n r e p l =
    let z : n - n ≡ 0 = sub_self n in
    let d : n + 528 - n ≡ 528 = omega arith in
    let k : length (part n 528 w) ≡ 528 = length_part w n 528 l in
    let q : v ≡ patch w 0 (part n 528 w) = rw (z, d) at e in
    ap (stands taps) (latest-moved w v n 528 528 (omega arith)
    (λ j g. rw (q, add_comm j n) (get_or-first w (part n 528 w) j (omega arith) ∙ get_d_part w n 528 j g))) ∙ p

-- ---- piece after piece

-- the pieces that are left give the rest of the register
pub pushed_more : (r x y : ℕ) (all piece rest s : List ℕ) → fed x all ≡ fed r s → y ≡ fed x piece → all ≡ piece ++ rest → fed y rest ≡ fed r s
pushed_more r x y all piece rest s p q e = rw q (sym (fed-append x piece rest) ∙ ap (fed x) (sym e) ∙ p)

pub pushed-all : (r x : ℕ) (rest s : List ℕ) → fed x rest ≡ fed r s → rest ≡ [] → x ≡ fed r s
unfolding fed
pushed-all r x rest s p e = rw e at p

-- ---- the message that is left

-- zeros below the history add nothing
stands-trim : (z : List ℕ) (n a m : ℕ) → m ≤ a → ((j : ℕ) → j < a → get_or z j 0 ≡ 0) → stands taps (latest z (n + a) (n + m)) ≡ stands taps (latest z (n + a) n)
stands-trim z n a zero l h = rw (add-zero n) refl
stands-trim z n a (suc m) l h =
    let p : latest z (n + a) (suc (n + m)) ≡ latest z (n + a) (n + m) ++ (get_or z (a - suc m) 0 ∷ []) = latest-snoc z (n + a) (n + m) (a - suc m) (omega arith) in
    let o : get_or z (a - suc m) 0 ≡ 0 = h (a - suc m) (omega arith) in
    rw (add-suc n m)
    (ap (stands taps) p ∙ rw o (stands-snoc taps (latest z (n + a) (n + m)) 0
    ∙ rw (share-zero taps (length (latest z (n + a) (n + m)))) (xor_zero_r (stands taps (latest z (n + a) (n + m))))) ∙ stands-trim z n a m (omega arith) h)

pub settled-none : (z u : List ℕ) → Clear z 528 → fed 0 (take 0 u) ≡ stands taps (latest z (528 + 0) (528 + 0))
unfolding fed stands latest
settled-none z u k = sym (stands-trim z 0 528 528 (omega arith) k.zeros)

pub settled-more : (z u : List ℕ) (j a : ℕ) → fed 0 (take j u) ≡ stands taps (latest z (528 + j) (528 + j)) → a ≡ tap_sum taps (latest z (528 + j) 528) → j < length u
    → fed 0 (take (j + 1) (set u j (bit_xor (get_or z (j + 528) 0) a))) ≡ stands taps (latest z (528 + (j + 1)) (528 + (j + 1)))
settled-more z u j a p q h =
    let b : 528 + (j + 1) ≡ suc (528 + j) = omega arith in
    let t : tap_sum taps (latest z (528 + j) (528 + j)) ≡ a = added-taps z j (528 + j) (528 + j) refl (omega arith) (omega arith) ∙ added-is z j ∙ sym q in
    stored (bit_xor (get_or z (j + 528) 0) a)
    ∙ rw (b, add_comm j 528, p, ← t)
    (sym (ap (stands taps) (latest-cons z (528 + j) (528 + j)) ∙ stands-cons taps (get_or z (528 + j) 0) (latest z (528 + j) (528 + j))))
  where
    stored : (v : ℕ) → fed 0 (take (j + 1) (set u j v)) ≡ turns 8 (bit_xor (fed 0 (take j u)) v)
    stored v = rw (take_more_set u j v h) (fed-append 0 (take j u) (v ∷ []) ∙ fed-one (fed 0 (take j u)) v)

pub settled-all : (z u : List ℕ) (j : ℕ) → fed 0 (take j u) ≡ stands taps (latest z (528 + j) (528 + j)) → 528 ≤ j → j ≤ 528 → length u ≡ 528 → Clear z 528
    → fed 0 u ≡ register_at z 1056
unfolding register_at
settled-all z u j p g l n k =
    let e : j ≡ 528 = omega arith in
    ap (fed 0) (sym (take_all j u (omega arith))) ∙ p ∙ rw e (stands-trim z 528 528 528 (omega arith) k.zeros)

-- the history over zeros
pub lifted-clear : (w z : List ℕ) → z ≡ patch (replicate 1056 0) 528 (part 0 528 w) → Clear z 528
lifted-clear w z e =
    let l : length {A = ℕ} (replicate 1056 0) ≡ 1056 = length-replicate {A = ℕ} 1056 0 in
    record { zeros = λ j h. rw e (get_or-patch-before (replicate 1056 0) 528 j (part 0 528 w) h (omega arith) ∙ get_or-zeros 1056 j) }

pub left : (w z u : List ℕ) (r : ℕ) → z ≡ patch (replicate 1056 0) 528 (part 0 528 w) → fed 0 u ≡ register_at z 1056 → r ≡ fed 0 u → length w ≡ 4624 → r ≡ register_at w 528
unfolding register_at
left w z u r e p q l =
    let k : length (part 0 528 w) ≡ 528 = length_part w 0 528 (omega arith) in
    let m : length {A = ℕ} (replicate 1056 0) ≡ 1056 = length-replicate {A = ℕ} 1056 0 in
    q ∙ p ∙ sym (ap (stands taps) (latest-moved z w 528 528 528 (omega arith)
    (λ j g. rw (e, add_comm j 528) (sym (get_or-patch (replicate 1056 0) 528 j (part 0 528 w) (omega arith) (omega arith) ∙ get_d_part w 0 528 j g ∙ ap (λ (i : ℕ). get_or w i 0) (zero-add j))))))
