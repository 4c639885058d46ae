-- Laws of exclusive or that lib.Bits lacks: half of it and its low bit, and that it may be regrouped.
-- Assumes nothing.
use mathlib.Core.Path.{◌≡◌, refl, sym, ap, ◌∙◌}
use Prim.Native.Nat.{ℕ, zero, suc, ◌+◌, ◌*◌, ◌/◌, ◌%◌, ◌<◌}
use native.Mathlib.Nat.{mod-add-mod, add-mod-mod, add_assoc}
use native.Mathlib.Omega.{arith}
use lib.Arith.{bin_ind}
use lib.Bits.{bit_xor, differ, xor_step, xor_comm, xor_zero_l, xor_shr}

-- of two bits, the sum without its carry
differ-sum : (x y : ℕ) → x < 2 → y < 2 → differ x y ≡ (x + y) % 2
differ-sum zero zero p q = refl
differ-sum zero (suc zero) p q = refl
differ-sum (suc zero) zero p q = refl
differ-sum (suc zero) (suc zero) p q = refl
differ-sum zero (suc (suc y)) p q = absurd (omega arith)
differ-sum (suc zero) (suc (suc y)) p q = absurd (omega arith)
differ-sum (suc (suc x)) y p q = absurd (omega arith)

pub xor-half : (a b : ℕ) → bit_xor a b / 2 ≡ bit_xor (a / 2) (b / 2)
xor-half a b = xor_shr a b 1

pub xor_low : (a b : ℕ) → bit_xor a b % 2 ≡ (a + b) % 2
xor_low a b =
    let e : bit_xor a b ≡ bit_xor (a / 2) (b / 2) * 2 + (a % 2 + b % 2) % 2 = xor_step a b ∙ ap (λ (d : ℕ). bit_xor (a / 2) (b / 2) * 2 + d) (differ-sum (a % 2) (b % 2) (omega arith) (omega arith)) in
    omega arith

-- two numbers are equal if their halves and their low bits are
pub by-half : (x y : ℕ) → x / 2 ≡ y / 2 → x % 2 ≡ y % 2 → x ≡ y
by-half x y p q = omega arith

-- the low bits of sums without a carry, regrouped
low-assoc : (a b c x y : ℕ) → x % 2 ≡ (a + b) % 2 → y % 2 ≡ (b + c) % 2 → (x + c) % 2 ≡ (a + y) % 2
low-assoc a b c x y p q =
    sym (mod-add-mod x 2 c)
    ∙ ap (λ (d : ℕ). (d + c) % 2) p
    ∙ mod-add-mod (a + b) 2 c
    ∙ ap (λ (d : ℕ). d % 2) (add_assoc a b c)
    ∙ sym (add-mod-mod a (b + c) 2)
    ∙ ap (λ (d : ℕ). (a + d) % 2) (sym q)
    ∙ add-mod-mod a y 2

pub xor_assoc : (a b c : ℕ) → bit_xor (bit_xor a b) c ≡ bit_xor a (bit_xor b c)
xor_assoc a = bin_ind (λ (n : ℕ). (b c : ℕ) → bit_xor (bit_xor n b) c ≡ bit_xor n (bit_xor b c)) base step a
  where
    base : (b c : ℕ) → bit_xor (bit_xor zero b) c ≡ bit_xor zero (bit_xor b c)
    base b c = rw (xor_zero_l b, xor_zero_l (bit_xor b c)) refl

    step : (n : ℕ) → ((b c : ℕ) → bit_xor (bit_xor (n / 2) b) c ≡ bit_xor (n / 2) (bit_xor b c)) → (b c : ℕ) → bit_xor (bit_xor n b) c ≡ bit_xor n (bit_xor b c)
    step n ih b c =
        by-half (bit_xor (bit_xor n b) c) (bit_xor n (bit_xor b c))
        (rw (xor-half (bit_xor n b) c, xor-half n b, xor-half n (bit_xor b c), xor-half b c) (ih (b / 2) (c / 2)))
        (xor_low (bit_xor n b) c ∙ low-assoc n b c (bit_xor n b) (bit_xor b c) (xor_low n b) (xor_low b c) ∙ sym (xor_low n (bit_xor b c)))

-- four regrouped: the first with the third
pub xor-swap : (a b c d : ℕ) → bit_xor (bit_xor a b) (bit_xor c d) ≡ bit_xor (bit_xor a c) (bit_xor b d)
xor-swap a b c d =
    xor_assoc a b (bit_xor c d)
    ∙ ap (bit_xor a) (sym (xor_assoc b c d) ∙ ap (λ (x : ℕ). bit_xor x d) (xor_comm b c) ∙ xor_assoc c b d)
    ∙ sym (xor_assoc a c (bit_xor b d))
