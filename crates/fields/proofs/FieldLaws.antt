-- Laws of packed fields in the words that hold them: those of head and card, with the fields that lie across a seam between two words.
-- Assumes nothing.
use mathlib.Core.Path.{◌≡◌, refl, sym, ap, ap₂, ◌∙◌}
use mathlib.Core.List.{List, [], ◌∷◌, ◌++◌}
use Prim.Native.Nat.{ℕ, ◌+◌, ◌*◌, ◌/◌, ◌%◌, ◌^◌, ◌≤◌, ◌<◌}
use native.Mathlib.Nat.{zero-add, add-mul, add_assoc, mul_assoc, mod-lt}
use native.Mathlib.Omega.{arith}
use lib.Arith.{digits_lt}
use lib.ListN.{length, take, get_or}
use Rattle.std.proofs.Common.{rules}
use Rattle.std.proofs.lemmas.List.{places, same_lists, take_more}
use Rattle.std.proofs.lemmas.List.Sums.{fold-append}
use lib.Pow.{pow_pos, pow-add, high, low, split, shr_lt, mod-pow-add}
use Rattle.rules.specs.Bytes.{be, be_digits, part, patch, bits_of, unpack, pack}
use Rattle.rules.specs.Head.{head_widths}
use Rattle.rules.specs.Card.{card_bytes, card_widths}
use Rattle.rules.proofs.ByteLaws.{length-be_digits, patch-none, patch-patch}
use Rattle.rules.proofs.FieldLaws.{Fit, fit_none, fit-one, unpack-pack}
use Rattle.fields.specs.Fields.{joined}
use Rattle.words.proofs.NumberLaws.{be-two, be_digits-add}

-- values that keep within their widths are the fields of the number that they pack to
fields-of : (ws vs : List ℕ) (n : ℕ) → Fit ws vs → n ≡ pack ws vs → vs ≡ unpack ws n
fields-of ws vs n h e = sym (rw e (unpack-pack h))

-- ---- a seam: a field of i high bits from one word and l low bits from the next

-- two fields side by side
pub join-lt : (j k : ℕ) {hi lo : ℕ} → hi < 2 ^ j → lo < 2 ^ k → hi * 2 ^ k + lo < 2 ^ (j + k)
join-lt j k p q = rw (pow-add 2 j k) (digits_lt p q)

module _ (u v i l k : ℕ) (h : v < 2 ^ (l + k)) where
  pub seam-lt : u % 2 ^ i * 2 ^ l + v / 2 ^ k < 2 ^ (i + l)
  seam-lt = join-lt i l (mod-lt u (pow_pos i)) (shr_lt l k h)

  seam-high : (u % 2 ^ i * 2 ^ l + v / 2 ^ k) / 2 ^ l ≡ u % 2 ^ i
  seam-high = high (u % 2 ^ i) l (shr_lt l k h)

  seam-low : (u % 2 ^ i * 2 ^ l + v / 2 ^ k) % 2 ^ l ≡ v / 2 ^ k
  seam-low = low (u % 2 ^ i) l (shr_lt l k h)

-- ---- a head: a word of 64 bits and one of 32

module _ (b r h c x g : ℕ) where
  -- the two words of what is packed
  pub head-words : (b * 2 ^ 47 + r * 2 ^ 30 + h * 2 ^ 28 + c * 2 ^ 8 + x / 2 ^ 12) * 2 ^ 32 + (x % 2 ^ 12 * 2 ^ 20 + g) ≡ pack head_widths (b ∷ r ∷ h ∷ c ∷ x ∷ g ∷ [])
  unfolding pack bits_of
  head-words = omega arith

-- five parts of a word, put together from the lowest up
five : (a b c d e m28 m30 m47 n : ℕ) → m28 ≡ d + e → m30 ≡ c + m28 → m47 ≡ b + m30 → a + m47 ≡ n → a + b + c + d + e ≡ n
five a b c d e m28 m30 m47 n p q r t = omega arith

pub head-fields : (w0 w1 : ℕ) → w0 < 2 ^ 64 → w1 < 2 ^ 32
    → (w0 / 2 ^ 47 ∷ w0 / 2 ^ 30 % 2 ^ 17 ∷ w0 / 2 ^ 28 % 2 ^ 2 ∷ w0 / 2 ^ 8 % 2 ^ 20 ∷ (w0 % 2 ^ 8 * 2 ^ 12 + w1 / 2 ^ 20) ∷ w1 % 2 ^ 20 ∷ []) ≡ unpack head_widths (w0 * 2 ^ 32 + w1)
head-fields w0 w1 h0 h1 =
    let x : ℕ = w0 % 2 ^ 8 * 2 ^ 12 + w1 / 2 ^ 20 in
    let hi : w0 / 2 ^ 47 * 2 ^ 47 + w0 / 2 ^ 30 % 2 ^ 17 * 2 ^ 30 + w0 / 2 ^ 28 % 2 ^ 2 * 2 ^ 28 + w0 / 2 ^ 8 % 2 ^ 20 * 2 ^ 8 + x / 2 ^ 12 ≡ w0 =
    five _ _ _ _ _ _ _ _ _ (mod-pow-add w0 20 8 ∙ ap (λ (m : ℕ). w0 / 2 ^ 8 % 2 ^ 20 * 2 ^ 8 + m) (sym (seam-high w0 w1 8 12 20 h1))) (mod-pow-add w0 2 28) (mod-pow-add w0 17 30) (split w0 47) in
    let lo : x % 2 ^ 12 * 2 ^ 20 + w1 % 2 ^ 20 ≡ w1 = ap (λ (m : ℕ). m * 2 ^ 20 + w1 % 2 ^ 20) (seam-low w0 w1 8 12 20 h1) ∙ split w1 20 in
    fields-of head_widths _ (w0 * 2 ^ 32 + w1)
    (fit-one (shr_lt 17 47 h0) (fit-one (mod-lt _ (pow_pos 17)) (fit-one (mod-lt _ (pow_pos 2)) (fit-one (mod-lt _ (pow_pos 20)) (fit-one (seam-lt w0 w1 8 12 20 h1) (fit-one (mod-lt w1 (pow_pos 20)) fit_none))))))
    (ap₂ (λ (p q : ℕ). p * 2 ^ 32 + q) (sym hi) (sym lo) ∙ head-words (w0 / 2 ^ 47) (w0 / 2 ^ 30 % 2 ^ 17) (w0 / 2 ^ 28 % 2 ^ 2) (w0 / 2 ^ 8 % 2 ^ 20) x (w1 % 2 ^ 20))

-- ---- a card: six words of 64 bits

-- six words as one number, the first the most significant
abbrev pub six_words : ℕ → ℕ → ℕ → ℕ → ℕ → ℕ → ℕ
six_words w0 w1 w2 w3 w4 w5 = ((((w0 * 2 ^ 64 + w1) * 2 ^ 64 + w2) * 2 ^ 64 + w3) * 2 ^ 64 + w4) * 2 ^ 64 + w5

-- a word more: what stands whole before the seam is shifted, and what the seam cut is joined
carry : (h k m t w : ℕ) {r : ℕ} → t * m + w ≡ r → (h * k + t) * m + w ≡ h * (k * m) + r
carry h k m t w {r} e = ap (λ (n : ℕ). n + w) (add-mul (h * k) t m) ∙ add_assoc (h * k * m) (t * m) w ∙ ap₂ (λ (i j : ℕ). i + j) (mul_assoc h k m) e

module _ (o z a s n x y p : ℕ) where
  -- the words of what is packed
  pub card-words :
      six_words o (z * 2 + a / 2 ^ 34) (a % 2 ^ 34 * 2 ^ 30 + s / 2 ^ 33) (s % 2 ^ 33 * 2 ^ 31 + n * 2 + x / 2 ^ 62) (x % 2 ^ 62 * 2 ^ 2 + y / 2 ^ 28) (y % 2 ^ 28 * 2 ^ 36 + p)
      ≡ pack card_widths (o ∷ z ∷ a ∷ s ∷ n ∷ x ∷ y ∷ p ∷ [])
  unfolding pack bits_of
  card-words =
      let t2 : ℕ = a * 2 ^ 30 + s / 2 ^ 33 in
      let t3 : ℕ = s * 2 ^ 31 + n * 2 + x / 2 ^ 62 in
      let t4 : ℕ = x * 2 ^ 2 + y / 2 ^ 28 in
      let w2 : ℕ = a % 2 ^ 34 * 2 ^ 30 + s / 2 ^ 33 in
      let w3 : ℕ = s % 2 ^ 33 * 2 ^ 31 + n * 2 + x / 2 ^ 62 in
      let w4 : ℕ = x % 2 ^ 62 * 2 ^ 2 + y / 2 ^ 28 in
      let w5 : ℕ = y % 2 ^ 28 * 2 ^ 36 + p in
      let s2 : (z * 2 + a / 2 ^ 34) * 2 ^ 64 + w2 ≡ z * 2 ^ 65 + t2 = omega arith in
      let s3 : t2 * 2 ^ 64 + w3 ≡ a * 2 ^ 94 + t3 = omega arith in
      let s4 : t3 * 2 ^ 64 + w4 ≡ s * 2 ^ 95 + (n * 2 ^ 65 + t4) = omega arith in
      let s5 : t4 * 2 ^ 64 + w5 ≡ x * 2 ^ 66 + (y * 2 ^ 36 + (p * 2 ^ 0 + 0)) = omega arith in
      let w : ℕ = 2 ^ 64 in
      let e2 : (o * w + (z * 2 + a / 2 ^ 34)) * w + w2 ≡ o * 2 ^ 128 + (z * 2 ^ 65 + t2) = carry o w w _ w2 s2 in
      let e3 : (o * 2 ^ 128 + (z * 2 ^ 65 + t2)) * w + w3 ≡ o * 2 ^ 192 + (z * 2 ^ 129 + (a * 2 ^ 94 + t3)) = carry o (2 ^ 128) w _ w3 (carry z (2 ^ 65) w t2 w3 s3) in
      let e4 : (o * 2 ^ 192 + (z * 2 ^ 129 + (a * 2 ^ 94 + t3))) * w + w4 ≡ o * 2 ^ 256 + (z * 2 ^ 193 + (a * 2 ^ 158 + (s * 2 ^ 95 + (n * 2 ^ 65 + t4)))) =
      carry o (2 ^ 192) w _ w4 (carry z (2 ^ 129) w _ w4 (carry a (2 ^ 94) w t3 w4 s4)) in
      ap (λ (m : ℕ). ((m * w + w3) * w + w4) * w + w5) e2 ∙ ap (λ (m : ℕ). (m * w + w4) * w + w5) e3 ∙ ap (λ (m : ℕ). m * w + w5) e4
      ∙ carry o (2 ^ 256) w _ w5 (carry z (2 ^ 193) w _ w5 (carry a (2 ^ 158) w _ w5 (carry s (2 ^ 95) w _ w5 (carry n (2 ^ 65) w t4 w5 s5))))

-- three parts of a word
three : (a b c m n : ℕ) → m ≡ b + c → a + m ≡ n → a + b + c ≡ n
three a b c m n p q = omega arith

-- equal words make one number; the first is the same in both
six : (o : ℕ) {a b c d e : ℕ} (p q r s t : ℕ) → a ≡ p → b ≡ q → c ≡ r → d ≡ s → e ≡ t → six_words o a b c d e ≡ six_words o p q r s t
six o p q r s t h i j k l = rw (h, i, j, k, l) refl

module _ (w0 w1 w2 w3 w4 w5 : ℕ) (h0 : w0 < 2 ^ 64) (h1 : w1 < 2 ^ 64) (h2 : w2 < 2 ^ 64) (h3 : w3 < 2 ^ 64) (h4 : w4 < 2 ^ 64) (h5 : w5 < 2 ^ 64) where
  -- the fields in the words
  pub card-fields :
      (w0 ∷ w1 / 2 ∷ (w1 % 2 * 2 ^ 34 + w2 / 2 ^ 30) ∷ (w2 % 2 ^ 30 * 2 ^ 33 + w3 / 2 ^ 31) ∷ w3 / 2 % 2 ^ 30 ∷ (w3 % 2 * 2 ^ 62 + w4 / 2 ^ 2) ∷ (w4 % 2 ^ 2 * 2 ^ 28 + w5 / 2 ^ 36) ∷ w5 % 2 ^ 36 ∷ [])
      ≡ unpack card_widths (six_words w0 w1 w2 w3 w4 w5)
  card-fields =
      let a : ℕ = w1 % 2 * 2 ^ 34 + w2 / 2 ^ 30 in
      let s : ℕ = w2 % 2 ^ 30 * 2 ^ 33 + w3 / 2 ^ 31 in
      let x : ℕ = w3 % 2 * 2 ^ 62 + w4 / 2 ^ 2 in
      let y : ℕ = w4 % 2 ^ 2 * 2 ^ 28 + w5 / 2 ^ 36 in
      let e1 : w1 / 2 * 2 + a / 2 ^ 34 ≡ w1 = ap (λ (m : ℕ). w1 / 2 * 2 + m) (seam-high w1 w2 1 34 30 h2) ∙ split w1 1 in
      let e2 : a % 2 ^ 34 * 2 ^ 30 + s / 2 ^ 33 ≡ w2 = ap₂ (λ (l r : ℕ). l * 2 ^ 30 + r) (seam-low w1 w2 1 34 30 h2) (seam-high w2 w3 30 33 31 h3) ∙ split w2 30 in
      let e3 : s % 2 ^ 33 * 2 ^ 31 + w3 / 2 % 2 ^ 30 * 2 + x / 2 ^ 62 ≡ w3 =
      ap₂ (λ (l r : ℕ). l * 2 ^ 31 + w3 / 2 % 2 ^ 30 * 2 + r) (seam-low w2 w3 30 33 31 h3) (seam-high w3 w4 1 62 2 h4) ∙ three _ _ _ _ _ (mod-pow-add w3 30 1) (split w3 31) in
      let e4 : x % 2 ^ 62 * 2 ^ 2 + y / 2 ^ 28 ≡ w4 = ap₂ (λ (l r : ℕ). l * 2 ^ 2 + r) (seam-low w3 w4 1 62 2 h4) (seam-high w4 w5 2 28 36 h5) ∙ split w4 2 in
      let e5 : y % 2 ^ 28 * 2 ^ 36 + w5 % 2 ^ 36 ≡ w5 = ap (λ (m : ℕ). m * 2 ^ 36 + w5 % 2 ^ 36) (seam-low w4 w5 2 28 36 h5) ∙ split w5 36 in
      fields-of card_widths _ (six_words w0 w1 w2 w3 w4 w5)
      (fit-one h0 (fit-one (shr_lt 63 1 h1) (fit-one (seam-lt w1 w2 1 34 30 h2) (fit-one (seam-lt w2 w3 30 33 31 h3) (fit-one (mod-lt _ (pow_pos 30))
      (fit-one (seam-lt w3 w4 1 62 2 h4) (fit-one (seam-lt w4 w5 2 28 36 h5) (fit-one (mod-lt w5 (pow_pos 36)) fit_none))))))))
      (sym (six w0 w1 w2 w3 w4 w5 e1 e2 e3 e4 e5) ∙ card-words w0 (w1 / 2) a s (w3 / 2 % 2 ^ 30) x y (w5 % 2 ^ 36))

-- the fields in an array of six words
pub card-of : (w : List ℕ) → length w ≡ 6 → ((i : ℕ) → get_or w i 0 < 2 ^ 64) → (let w0 : ℕ = get_or w 0 0 in let w1 : ℕ = get_or w 1 0 in let w2 : ℕ = get_or w 2 0 in let w3 : ℕ = get_or w 3 0 in let w4 : ℕ = get_or w 4 0 in let w5 : ℕ = get_or w 5 0 in
    (w0 ∷ w1 / 2 ∷ (w1 % 2 * 2 ^ 34 + w2 / 2 ^ 30) ∷ (w2 % 2 ^ 30 * 2 ^ 33 + w3 / 2 ^ 31) ∷ w3 / 2 % 2 ^ 30 ∷ (w3 % 2 * 2 ^ 62 + w4 / 2 ^ 2) ∷ (w4 % 2 ^ 2 * 2 ^ 28 + w5 / 2 ^ 36) ∷ w5 % 2 ^ 36 ∷ [])
    ≡ unpack card_widths (joined w))
card-of w n h =
    let e : w ≡ get_or w 0 0 ∷ get_or w 1 0 ∷ get_or w 2 0 ∷ get_or w 3 0 ∷ get_or w 4 0 ∷ get_or w 5 0 ∷ [] = same_lists _ _ (search (rules, places)) (λ k d l. grind (arith, places)) in
    card-fields _ _ _ _ _ _ (h 0) (h 1) (h 2) (h 3) (h 4) (h 5) ∙ ap (λ (v : List ℕ). unpack card_widths (joined v)) (sym e)

-- ---- in the slice

pub head_read : (s vs : List ℕ) (at w0 w1 : ℕ) → at + 12 ≤ length s → w0 ≡ be (part at 8 s) → w1 ≡ be (part (at + 8) 4 s) → vs ≡ unpack head_widths (w0 * 2 ^ 32 + w1)
    → vs ≡ unpack head_widths (be (part at 12 s))
head_read s vs at w0 w1 h p q e = rw (be-two s at 8 4 h, ← p, ← q) e

pub card-read : (s vs : List ℕ) (at w0 w1 w2 w3 w4 w5 : ℕ) → at + card_bytes ≤ length s
    → w0 ≡ be (part at 8 s) → w1 ≡ be (part (at + 8) 8 s) → w2 ≡ be (part (at + 16) 8 s) → w3 ≡ be (part (at + 24) 8 s) → w4 ≡ be (part (at + 32) 8 s) → w5 ≡ be (part (at + 40) 8 s)
    → vs ≡ unpack card_widths (six_words w0 w1 w2 w3 w4 w5) → vs ≡ unpack card_widths (be (part at card_bytes s))
card-read s vs at w0 w1 w2 w3 w4 w5 h p0 p1 p2 p3 p4 p5 e =
    rw (be-two s at 40 8 h, be-two s at 32 8 (omega arith), be-two s at 24 8 (omega arith), be-two s at 16 8 (omega arith), be-two s at 8 8 (omega arith), ← p0, ← p1, ← p2, ← p3, ← p4, ← p5) e

-- two numbers written side by side are one
put_two : (s x y : List ℕ) (at j n m a b : ℕ) → x ≡ patch s at (be_digits n a) → y ≡ patch x j (be_digits m b) → j ≡ at + n → b < 256 ^ m → at + (n + m) ≤ length s
    → y ≡ patch s at (be_digits (n + m) (a * 256 ^ m + b))
put_two s x y at j n m a b p q e h l =
    let k : length (be_digits n a) ≡ n = length-be_digits n a in
    let k' : length (be_digits m b) ≡ m = length-be_digits m b in
    q ∙ rw p (patch-patch s at j (be_digits n a) (be_digits m b) (omega arith) (omega arith)) ∙ ap (patch s at) (sym (be_digits-add n m a b h))

pub head-put : (s x y : List ℕ) (at w0 w1 n : ℕ) → x ≡ patch s at (be_digits 8 w0) → y ≡ patch x (at + 8) (be_digits 4 w1) → at + 12 ≤ length s → w1 < 2 ^ 32 → w0 * 2 ^ 32 + w1 ≡ n
    → y ≡ patch s at (be_digits 12 n)
head-put s x y at w0 w1 n p q l h e = rw (← e) (put_two s x y at (at + 8) 8 4 w0 w1 p q refl h l)

-- ---- words written one behind the other

joined-snoc : (ws : List ℕ) (w : ℕ) → joined (ws ++ (w ∷ [])) ≡ joined ws * 2 ^ 64 + w
joined-snoc [] w = sym (zero-add w)
joined-snoc (v ∷ ws) w = fold-append _ v ws (w ∷ [])

pub words-none : (s ws : List ℕ) (at : ℕ) → s ≡ patch s at (be_digits (8 * 0) (joined (take 0 ws)))
unfolding be_digits
words-none s ws at = sym (patch-none s at)

pub words-more : (s x y ws : List ℕ) (at i : ℕ) → x ≡ patch s at (be_digits (8 * i) (joined (take i ws))) → y ≡ patch x (at + 8 * i) (be_digits 8 (get_or ws i 0)) → i < length ws
    → get_or ws i 0 < 2 ^ 64 → at + (8 * i + 8) ≤ length s
    → y ≡ patch s at (be_digits (8 * (i + 1)) (joined (take (i + 1) ws)))
words-more s x y ws at i p q h b l =
    let e : 8 * (i + 1) ≡ 8 * i + 8 = omega arith in
    rw (e, take_more ws i 0 h, joined-snoc) (put_two s x y at (at + 8 * i) (8 * i) 8 (joined (take i ws)) (get_or ws i 0) p q refl b l)
