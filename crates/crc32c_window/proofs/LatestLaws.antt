-- Laws of the bytes below a place of a buffer, from the highest down.
-- Assumes nothing.
use mathlib.Core.Path.{◌≡◌, refl, ap, ap₂}
use mathlib.Core.List.{List, [], ◌∷◌, ◌++◌}
use Prim.Native.Nat.{ℕ, zero, suc, ◌+◌, ◌≤◌, ◌<◌}
use native.Mathlib.Nat.{not-suc-le-zero, le_of_suc-le-suc}
use native.Mathlib.Omega.{arith}
use lib.ListN.{length, get_or, set, replicate}
use lib.Seq.{get_or-set_same, get_or-set_other}
use Rattle.crc32c_window.specs.Window.{latest}

pub length-latest : (w : List ℕ) (e n : ℕ) → n ≤ e → length (latest w e n) ≡ n
unfolding latest
length-latest w e zero h = refl
length-latest w zero (suc n) h = absurd (not-suc-le-zero h)
length-latest w (suc e) (suc n) h = ap suc (length-latest w e n (le_of_suc-le-suc h))

-- the highest apart
pub latest-cons : (w : List ℕ) (e n : ℕ) → latest w (suc e) (suc n) ≡ get_or w e 0 ∷ latest w e n
unfolding latest
latest-cons w e n = refl

-- the lowest apart
pub latest-snoc : (w : List ℕ) (e n j : ℕ) → e ≡ suc n + j → latest w e (suc n) ≡ latest w e n ++ (get_or w j 0 ∷ [])
unfolding latest
latest-snoc w zero n j q = absurd (omega arith)
latest-snoc w (suc e) zero j q =
    let p : e ≡ j = omega arith in
    rw p refl
latest-snoc w (suc e) (suc n) j q = ap (λ (t : List ℕ). get_or w e 0 ∷ t) (latest-snoc w e n j (omega arith))

pub get_or-latest : (w : List ℕ) (e n k j : ℕ) → e ≡ suc k + j → k < n → get_or (latest w e n) k 0 ≡ get_or w j 0
unfolding latest
get_or-latest w e zero k j q h = absurd (not-suc-le-zero h)
get_or-latest w zero (suc n) k j q h = absurd (omega arith)
get_or-latest w (suc e) (suc n) zero j q h =
    let p : e ≡ j = omega arith in
    rw p refl
get_or-latest w (suc e) (suc n) (suc k) j q h = get_or-latest w e n k j (omega arith) (le_of_suc-le-suc h)

-- two buffers that agree on these bytes, k places apart
pub latest-moved : (w v : List ℕ) (k e n : ℕ) → n ≤ e → ((j : ℕ) → j < e → get_or v j 0 ≡ get_or w (j + k) 0) → latest v e n ≡ latest w (e + k) n
unfolding latest
latest-moved w v k e zero l h = refl
latest-moved w v k zero (suc n) l h = absurd (not-suc-le-zero l)
latest-moved w v k (suc e) (suc n) l h =
    let p : suc e + k ≡ suc (e + k) = omega arith in
    rw p (ap₂ (λ (x : ℕ) (t : List ℕ). x ∷ t) (h e (omega arith)) (latest-moved w v k e n (le_of_suc-le-suc l) (λ j q. h j (omega arith))))

-- zeros from place a on
pub latest-zeros : (w : List ℕ) (a e n : ℕ) → a + n ≤ e → ((j : ℕ) → a ≤ j → j < e → get_or w j 0 ≡ 0) → latest w e n ≡ replicate n 0
unfolding latest
latest-zeros w a e zero l h = refl
latest-zeros w a zero (suc n) l h = absurd (omega arith)
latest-zeros w a (suc e) (suc n) l h =
    ap₂ (λ (x : ℕ) (t : List ℕ). x ∷ t) (h e (omega arith) (omega arith)) (latest-zeros w a e n (omega arith) (λ j p q. h j p (omega arith)))

-- a store at the place or above it changes nothing below it
latest-set : (w : List ℕ) (e n k v : ℕ) → e ≤ k → latest (set w k v) e n ≡ latest w e n
unfolding latest
latest-set w e zero k v h = refl
latest-set w zero (suc n) k v h = refl
latest-set w (suc e) (suc n) k v h =
    ap₂ (λ (x : ℕ) (t : List ℕ). x ∷ t) (get_or-set_other w k e v 0 (λ p. absurd (omega (arith, p)))) (latest-set w e n k v (omega arith))

-- a store at the place is the highest byte below the next
pub latest-new : (w : List ℕ) (e n v : ℕ) → e < length w → latest (set w e v) (suc e) (suc n) ≡ v ∷ latest w e n
unfolding latest
latest-new w e n v h = ap₂ (λ (x : ℕ) (t : List ℕ). x ∷ t) (get_or-set_same w e v 0 h) (latest-set w e n e v (omega arith))
