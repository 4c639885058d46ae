-- Laws of fields packed side by side, over any widths, and of such fields in bytes. Powers stay powers throughout.
-- Assumes nothing.
use mathlib.Core.Path.{◌≡◌, refl, sym, ap, ◌∙◌}
use mathlib.Core.List.{List, [], ◌∷◌}
use Prim.Native.Nat.{ℕ, zero, suc, ◌+◌, ◌*◌, ◌/◌, ◌%◌, ◌^◌, ◌<◌}
use native.Mathlib.Nat.{mul_assoc, mul-suc, mul-add-div_right, mul-add-mod_self_right, mod-eq_of_lt, mod-lt, mod-one, pow-suc, not-suc-le-zero, le_of_suc-le-suc}
use native.Mathlib.Omega.{arith}
use lib.Arith.{digits_lt, digits_div}
use lib.Pow.{pow_pos, pow-add, mod-pow-add}
use lib.ListN.{length, get_or}
use Rattle.rules.specs.Bytes.{Bytes, be, be_digits, bits_of, pack, unpack}
use Rattle.rules.proofs.ByteLaws.{be-lt, be-be_digits-fits, be_digits-be-at}

-- as many values as widths, and each value fits its width
pub data Fit : List ℕ → List ℕ → Type 0 where
  fit_none : Fit [] []
  fit-one : {w v : ℕ} {ws vs : List ℕ} → v < 2 ^ w → Fit ws vs → Fit (w ∷ ws) (v ∷ vs)

-- a value fits the width at its place
pub fit_at : {ws vs : List ℕ} → Fit ws vs → (i : ℕ) → i < length ws → get_or vs i 0 < 2 ^ get_or ws i 0
fit_at fit_none i l = absurd (not-suc-le-zero l)
fit_at (fit-one h f) zero l = h
fit_at (fit-one h f) (suc i) l = fit_at f i (le_of_suc-le-suc l)

-- packed values fit the bits of all fields
pub pack-lt : {ws vs : List ℕ} → Fit ws vs → pack ws vs < 2 ^ bits_of ws
unfolding pack bits_of
pack-lt fit_none = omega arith
pack-lt (fit-one {w = w} {ws = ws} h f) = rw (pow-add 2 w (bits_of ws)) (digits_lt h (pack-lt f))

-- what stands above the fields is not read
pub unpack-above : (ws : List ℕ) (a n : ℕ) → unpack ws (a * 2 ^ bits_of ws + n) ≡ unpack ws n
unfolding unpack bits_of
unpack-above [] a n = refl
unpack-above (w ∷ ws) a n =
    let e : a * 2 ^ (w + bits_of ws) ≡ a * 2 ^ w * 2 ^ bits_of ws = rw (pow-add 2 w (bits_of ws)) (sym (mul_assoc a (2 ^ w) (2 ^ bits_of ws))) in
    rw (e, mul-add-div_right (pow_pos (bits_of ws)) (a * 2 ^ w) n, mul-add-mod_self_right a (2 ^ w) (n / 2 ^ bits_of ws), unpack-above ws (a * 2 ^ w) n) refl

-- packed values come back
pub unpack-pack : {ws vs : List ℕ} → Fit ws vs → unpack ws (pack ws vs) ≡ vs
unfolding unpack pack
unpack-pack fit_none = refl
unpack-pack (fit-one {w = w} {v = v} {ws = ws} {vs = vs} h f) =
    rw (digits_div v (pack-lt f), mod-eq_of_lt h, unpack-above ws v (pack ws vs), unpack-pack f) refl

-- the fields of any number, packed again: what the fields hold of it
pub pack-unpack : (ws : List ℕ) (n : ℕ) → pack ws (unpack ws n) ≡ n % 2 ^ bits_of ws
unfolding unpack pack bits_of
pack-unpack [] n = sym (mod-one n)
pack-unpack (w ∷ ws) n = rw (pack-unpack ws n) (sym (mod-pow-add n w (bits_of ws)))

-- and of a number that fits
pub pack-unpack-fits : (ws : List ℕ) (n : ℕ) → n < 2 ^ bits_of ws → pack ws (unpack ws n) ≡ n
pack-unpack-fits ws n h = pack-unpack ws n ∙ mod-eq_of_lt h

-- what is read fits
pub fit-unpack : (ws : List ℕ) (n : ℕ) → Fit ws (unpack ws n)
unfolding unpack
fit-unpack [] n = fit_none
fit-unpack (w ∷ ws) n = fit-one (mod-lt (n / 2 ^ bits_of ws) (pow_pos w)) (fit-unpack ws n)

-- a field for each width
pub length-unpack : (ws : List ℕ) (n : ℕ) → length (unpack ws n) ≡ length ws
unfolding unpack
length-unpack [] n = refl
length-unpack (w ∷ ws) n = ap suc (length-unpack ws n)

-- a byte has eight bits
pub pow256 : (n : ℕ) → 256 ^ n ≡ 2 ^ (8 * n)
pow256 zero = refl
pow256 (suc n) = rw (pow-suc 256 n, pow256 n, mul-suc 8 n, pow-add 2 (8 * n) 8) refl

-- the fields of n bytes: n bytes of packed values say these values
module _ (n : ℕ) (ws : List ℕ) (e : bits_of ws ≡ 8 * n) where
  pub unpack-bytes : {vs : List ℕ} → Fit ws vs → unpack ws (be (be_digits n (pack ws vs))) ≡ vs
  unpack-bytes {vs} f =
      let h : pack ws vs < 256 ^ n = rw (pow256 n, ← e) (pack-lt f) in
      rw (be-be_digits-fits n (pack ws vs) h) (unpack-pack f)

  -- and n bytes are the packed values that they say
  pub pack-bytes : (s : List ℕ) → length s ≡ n → Bytes s → be_digits n (pack ws (unpack ws (be s))) ≡ s
  pack-bytes s l b =
      let h : be s < 2 ^ bits_of ws = rw (e, ← pow256 n, ← l) (be-lt s b) in
      rw (pack-unpack-fits ws (be s) h) (be_digits-be-at n s l b)
