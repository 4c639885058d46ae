-- Laws of a history: what its oldest byte adds to the register, and that a new byte comes in while the oldest goes, where that has come to nothing.
-- Assumes nothing.
use mathlib.Core.Path.{◌≡◌, refl, sym, ap, ◌∙◌}
use mathlib.Core.List.{List, [], ◌∷◌, ◌++◌}
use mathlib.Core.Bool.{Bool, true, false}
use Prim.Native.Nat.{ℕ, zero, suc}
use native.Mathlib.Nat.{add_comm}
use lib.Bits.{bit_xor, xor_zero_l, xor_zero_r, xor_self}
use lib.Dec.{eqb, eqb-suc-suc, eqb-zero-suc, eqb-suc-zero}
use lib.ListN.{length, get_or, replicate}
use Rattle.crc32c_tables.specs.Register.{turn, turns}
use Rattle.crc32c_window.specs.Window.{tap_sum, stands}
use Rattle.crc32c_tables.proofs.XorLaws.{xor_assoc, xor-swap}
use Rattle.crc32c_tables.proofs.RegisterLaws.{turns-xor, turns-add}

-- a byte, where a test says so
unfoldable pub where? : Bool → ℕ → ℕ
where? true o = o
where? false o = 0

-- a byte, if n is one of the places
unfoldable pub tapped : List ℕ → ℕ → ℕ → ℕ
tapped [] n o = 0
tapped (k ∷ ks) n o = bit_xor (where? (eqb k n) o) (tapped ks n o)

-- what a byte adds to the register when n bytes have come in behind it
unfoldable pub share : List ℕ → ℕ → ℕ → ℕ
share ks zero o = turns 8 o
share ks (suc n) o = turns 8 (bit_xor (share ks n o) (tapped ks n o))

-- ---- the oldest byte apart

get_or-snoc : (h : List ℕ) (o k : ℕ) → get_or (h ++ (o ∷ [])) k 0 ≡ bit_xor (get_or h k 0) (where? (eqb k (length h)) o)
unfolding where?
get_or-snoc [] o zero = sym (xor_zero_l o)
get_or-snoc [] o (suc k) = rw (eqb-suc-zero k) refl
get_or-snoc (x ∷ h) o zero = rw (eqb-zero-suc (length h)) (sym (xor_zero_r x))
get_or-snoc (x ∷ h) o (suc k) = rw (eqb-suc-suc k (length h)) (get_or-snoc h o k)

tap_sum-snoc : (ks h : List ℕ) (o : ℕ) → tap_sum ks (h ++ (o ∷ [])) ≡ bit_xor (tap_sum ks h) (tapped ks (length h) o)
unfolding tap_sum tapped
tap_sum-snoc [] h o = refl
tap_sum-snoc (k ∷ ks) h o =
    rw (get_or-snoc h o k, tap_sum-snoc ks h o)
    (xor-swap (get_or h k 0) (where? (eqb k (length h)) o) (tap_sum ks h) (tapped ks (length h) o))

tap_sum-none : (ks : List ℕ) → tap_sum ks [] ≡ 0
unfolding tap_sum
tap_sum-none [] = refl
tap_sum-none (k ∷ ks) = rw (tap_sum-none ks) refl

pub stands-snoc : (ks h : List ℕ) (o : ℕ) → stands ks (h ++ (o ∷ [])) ≡ bit_xor (stands ks h) (share ks (length h) o)
unfolding stands share
stands-snoc ks [] o = rw (tap_sum-none ks, xor_zero_r o, xor_zero_l o, xor_zero_l (turns 8 o)) refl
stands-snoc ks (v ∷ h) o =
    rw (stands-snoc ks h o, tap_sum-snoc ks h o, apart (stands ks h) (share ks (length h) o) (tap_sum ks h) (tapped ks (length h) o))
    (turns-xor 8 (bit_xor (stands ks h) (bit_xor v (tap_sum ks h))) (bit_xor (share ks (length h) o) (tapped ks (length h) o)))
  where
    apart : (a b t p : ℕ) → bit_xor (bit_xor a b) (bit_xor v (bit_xor t p)) ≡ bit_xor (bit_xor a (bit_xor v t)) (bit_xor b p)
    apart a b t p = ap (bit_xor (bit_xor a b)) (sym (xor_assoc v t p)) ∙ xor-swap a b (bit_xor v t) p

-- ---- a byte more

pub stands-cons : (ks : List ℕ) (v : ℕ) (h : List ℕ) → stands ks (v ∷ h) ≡ turns 8 (bit_xor (stands ks h) (bit_xor v (tap_sum ks h)))
unfolding stands
stands-cons ks v h = refl

-- x comes in as v, and the oldest byte o goes
pub stands-next : (ks h : List ℕ) (o v x : ℕ) → share ks (suc (length h)) o ≡ 0 → v ≡ bit_xor x (tap_sum ks (h ++ (o ∷ [])))
    → stands ks (v ∷ h) ≡ turns 8 (bit_xor (stands ks (h ++ (o ∷ []))) x)
stands-next ks h o v x z e =
    let q : bit_xor (stands ks (v ∷ h)) (share ks (suc (length h)) o) ≡ stands ks (v ∷ h) = rw z (xor_zero_r (stands ks (v ∷ h))) in
    sym q ∙ sym (stands-snoc ks (v ∷ h) o) ∙ stands-cons ks v (h ++ (o ∷ [])) ∙ ap (λ (y : ℕ). turns 8 (bit_xor (stands ks (h ++ (o ∷ []))) y)) back
  where
    back : bit_xor v (tap_sum ks (h ++ (o ∷ []))) ≡ x
    back =
        rw e (xor_assoc x (tap_sum ks (h ++ (o ∷ []))) (tap_sum ks (h ++ (o ∷ [])))
        ∙ rw (xor_self (tap_sum ks (h ++ (o ∷ [])))) (xor_zero_r x))

-- ---- zeros

pub turns-zero : (n : ℕ) → turns n 0 ≡ 0
unfolding turns turn
turns-zero zero = refl
turns-zero (suc n) = turns-zero n

pub get_or-zeros : (m k : ℕ) → get_or {A = ℕ} (replicate m 0) k 0 ≡ 0
get_or-zeros zero k = refl
get_or-zeros (suc m) zero = refl
get_or-zeros (suc m) (suc k) = get_or-zeros m k

tap_sum-zeros : (ks : List ℕ) (m : ℕ) → tap_sum ks (replicate m 0) ≡ 0
unfolding tap_sum
tap_sum-zeros [] m = refl
tap_sum-zeros (k ∷ ks) m = rw (get_or-zeros m k, tap_sum-zeros ks m) refl

pub stands-zeros : (ks : List ℕ) (m : ℕ) → stands ks (replicate m 0) ≡ 0
unfolding stands
stands-zeros ks zero = refl
stands-zeros ks (suc m) = rw (stands-zeros ks m, tap_sum-zeros ks m) (turns-zero 8)

-- ---- a byte's share is linear in the byte, and the register's steps may be taken before it

where-xor : (b : Bool) (x y : ℕ) → where? b (bit_xor x y) ≡ bit_xor (where? b x) (where? b y)
unfolding where?
where-xor true x y = refl
where-xor false x y = refl

where-turns : (b : Bool) (m x : ℕ) → where? b (turns m x) ≡ turns m (where? b x)
unfolding where?
where-turns true m x = refl
where-turns false m x = sym (turns-zero m)

tapped-xor : (ks : List ℕ) (n x y : ℕ) → tapped ks n (bit_xor x y) ≡ bit_xor (tapped ks n x) (tapped ks n y)
unfolding tapped
tapped-xor [] n x y = refl
tapped-xor (k ∷ ks) n x y =
    rw (where-xor (eqb k n) x y, tapped-xor ks n x y) (xor-swap (where? (eqb k n) x) (where? (eqb k n) y) (tapped ks n x) (tapped ks n y))

tapped-turns : (ks : List ℕ) (n m x : ℕ) → tapped ks n (turns m x) ≡ turns m (tapped ks n x)
unfolding tapped
tapped-turns [] n m x = sym (turns-zero m)
tapped-turns (k ∷ ks) n m x =
    rw (where-turns (eqb k n) m x, tapped-turns ks n m x) (sym (turns-xor m (where? (eqb k n) x) (tapped ks n x)))

turns-swap : (m n x : ℕ) → turns m (turns n x) ≡ turns n (turns m x)
turns-swap m n x = sym (turns-add n m x) ∙ rw (add_comm n m) (turns-add m n x)

pub share-xor : (ks : List ℕ) (n x y : ℕ) → share ks n (bit_xor x y) ≡ bit_xor (share ks n x) (share ks n y)
unfolding share
share-xor ks zero x y = turns-xor 8 x y
share-xor ks (suc n) x y =
    rw (share-xor ks n x y, tapped-xor ks n x y)
    (ap (turns 8) (xor-swap (share ks n x) (share ks n y) (tapped ks n x) (tapped ks n y))
    ∙ turns-xor 8 (bit_xor (share ks n x) (tapped ks n x)) (bit_xor (share ks n y) (tapped ks n y)))

pub share-turns : (ks : List ℕ) (n m x : ℕ) → share ks n (turns m x) ≡ turns m (share ks n x)
unfolding share
share-turns ks zero m x = turns-swap 8 m x
share-turns ks (suc n) m x =
    rw (share-turns ks n m x, tapped-turns ks n m x)
    (ap (turns 8) (sym (turns-xor m (share ks n x) (tapped ks n x))) ∙ turns-swap 8 m (bit_xor (share ks n x) (tapped ks n x)))

pub share-zero : (ks : List ℕ) (n : ℕ) → share ks n 0 ≡ 0
share-zero ks n = share-xor ks n 0 0 ∙ xor_self (share ks n 0)
