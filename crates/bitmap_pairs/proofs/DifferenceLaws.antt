-- Laws of a map from which another's bits are taken, byte after byte.
-- Assumes nothing.
use Rattle.std.proofs.Common.{◌≡◌, refl, sym, ap, ◌∙◌, Bool, List, ℕ, ◌+◌, ◌-◌, ◌*◌, ◌/◌, ◌%◌, ◌^◌, ◌≤◌, ◌<◌, length, get_or, set, zero-add, arith}
use native.Mathlib.Decide.{ℕ_discrete}
use lib.Bits.{bit_and, and_lt}
use lib.ListN.{length-set}
use Rattle.rules.specs.Bytes.{Bytes, bit_set, bit_bytes}
use Rattle.rules.proofs.BitLaws.{length-bit_bytes, bytes-bit_bytes, bit_set-bit_bytes, bits-ext}
use Rattle.bitmap.proofs.BitLaws.{bit-and, bit_not}
use Rattle.bitmap.proofs.MapLaws.{bytes-set, bit_set-is, bit_set-set-same, bit_set-set-other}
use Rattle.bitmap_pairs.specs.Pair.{only}

-- the bits of the bytes before i are cleared, the others are as they were
pub record Clearing (m₀ x m : List ℕ) (i : ℕ) : Type 0 where
  pub size : length m ≡ length m₀
  pub bytes : Bytes m
  pub before : (k : ℕ) → k < 8 * i → bit_set m k ≡ only m₀ x k
  pub behind : (k : ℕ) → 8 * i ≤ k → bit_set m k ≡ bit_set m₀ k

-- before the first byte
pub clearing-none : (m x : List ℕ) → Bytes m → Clearing m x m 0
clearing-none m x b = record { size = refl; bytes = b; before = λ k h. absurd (omega arith); behind = λ k h. refl }

-- after one byte more
pub clearing-more : (m₀ x m : List ℕ) (i : ℕ) → Clearing m₀ x m i → i < length m → get_or x i 0 < 256 → Clearing m₀ x (set m i (bit_and (get_or m i 0) (2 ^ 8 - 1 - get_or x i 0))) (i + 1)
unfolding only
clearing-more m₀ x m i h l o = record { size = length-set m i v ∙ h.size; bytes = bytes-set m i v l h.bytes (and_lt 8 (get_or m i 0) (2 ^ 8 - 1 - get_or x i 0) (h.bytes i) (omega arith)); before = λ k u. go k u (ℕ_discrete (k / 8) i); behind = λ k u. bit_set-set-other m i v k (λ e. omega arith) ∙ h.behind k (omega arith) }
  where
    v : ℕ
    v = bit_and (get_or m i 0) (2 ^ 8 - 1 - get_or x i 0)

    -- a bit of the byte
    here : (k : ℕ) → k / 8 ≡ i → bit_set (set m i v) k ≡ only m₀ x k
    here k e =
        bit_set-set-same m i v k l e ∙ bit-and (get_or m i 0) (2 ^ 8 - 1 - get_or x i 0) (k % 8)
        ∙ rw (bit_not 8 (get_or x i 0) (k % 8) o (omega arith), ← e, ← bit_set-is m k, ← bit_set-is x k, h.behind k (omega arith)) refl

    go : (k : ℕ) → k < 8 * (i + 1) → Dec (k / 8 ≡ i) → bit_set (set m i v) k ≡ only m₀ x k
    go k u (yes e) = here k e
    go k u (no d) = bit_set-set-other m i v k d ∙ h.before k (omega arith)

-- after the last byte
pub clearing-all : (m₀ x m : List ℕ) (i : ℕ) → Clearing m₀ x m i → length m₀ ≤ i → m ≡ bit_bytes (length m₀) (only m₀ x) 0
clearing-all m₀ x m i h l =
    let f : ℕ → Bool = only m₀ x in
    bits-ext m (bit_bytes (length m₀) f 0) h.bytes (bytes-bit_bytes (length m₀) f 0) (h.size ∙ sym (length-bit_bytes (length m₀) f 0))
    (λ k p. h.before k (omega (arith, h.size)) ∙ sym (bit_set-bit_bytes (length m₀) f 0 k (omega (arith, h.size)) ∙ ap f (zero-add k)))
