-- Laws of what the inner calls leave: zeros, zeros of which the first bits are set, one map less another, and fresh's head.
-- Assumes nothing.
use mathlib.Core.Path.{◌≡◌, sym, ap, ◌∙◌}
use mathlib.Core.Bool.{Bool, true, false, not, ◌&&◌}
use mathlib.Core.List.{List}
use Prim.Native.Nat.{ℕ, ◌-◌, ◌*◌, ◌%◌, ◌≤◌, ◌<◌}
use native.Mathlib.Decide.{dec_lt}
use native.Mathlib.Nat.{zero-add}
use native.Mathlib.Omega.{arith}
use borrow.Author.Tests.{lt-ltb, le-ltb}
use lib.Dec.{ltb}
use lib.ListN.{length, take, replicate, length-replicate}
use lib.Seq.{take_all}
use Rattle.rules.specs.Lists.{count, range}
use Rattle.rules.specs.Bytes.{Bytes, bit_set, bit_bytes}
use Rattle.rules.specs.Head.{uuid_bytes, encode_head}
use Rattle.rules.specs.Map.{map_bytes, encode_map}
use Rattle.rules.proofs.ByteLaws.{bytes-replicate}
use Rattle.rules.proofs.BitLaws.{length-bit_bytes, bytes-bit_bytes, bit_set-bit_bytes, bits-ext, bits-zero}
use Rattle.bitmap.specs.Map.{with_bits}
use Rattle.bitmap_pairs.specs.Pair.{only}
use Rattle.format.specs.Records.{head_of}
use Rattle.store.specs.Buffers.{fresh_head}
use Rattle.bitmap.proofs.MapLaws.{length-with_bits, bytes-with_bits, bit_set-inside, bit_set-after}

-- a map has a bit for each of its blocks
pub map-holds : (blocks n : ℕ) → n ≡ map_bytes blocks → blocks ≤ 8 * n
unfolding map_bytes
map-holds blocks n e = omega (arith, e)

-- and is of whole words
pub map_whole : (blocks n : ℕ) → n ≡ map_bytes blocks → n % 8 ≡ 0
unfolding map_bytes
map_whole blocks n e = omega (arith, e)

-- a map of the right length whose bits are f's is f's
is-map : (blocks : ℕ) (f : ℕ → Bool) (m : List ℕ) → length m ≡ map_bytes blocks → Bytes m → ((k : ℕ) → k < 8 * length m → bit_set m k ≡ f k) → m ≡ encode_map blocks f
unfolding encode_map
is-map blocks f m n b h =
    bits-ext m (bit_bytes (map_bytes blocks) f 0) b (bytes-bit_bytes (map_bytes blocks) f 0) (n ∙ sym (length-bit_bytes (map_bytes blocks) f 0))
    (λ k l. h k l ∙ sym (bit_set-bit_bytes (map_bytes blocks) f 0 k (rw (← n) l) ∙ ap f (zero-add k)))

-- zeros are the map of no block
pub zero-map : (blocks w : ℕ) (t : List ℕ) → w ≡ map_bytes blocks → t ≡ replicate w 0 → t ≡ encode_map blocks (λ n. false)
zero-map blocks w t n e =
    is-map blocks (λ k. false) t (ap length e ∙ length-replicate {A = ℕ} w 0 ∙ n) (rw e (bytes-replicate w 0 (omega arith))) (λ k l. rw e (bits-zero w k))

-- zeros of which the first bits are set are the map of the first blocks
pub first-map : (blocks reserved w : ℕ) (z t : List ℕ) → w ≡ map_bytes blocks → z ≡ replicate w 0 → t ≡ with_bits true z 0 reserved → t ≡ encode_map blocks (λ n. ltb n reserved)
first-map blocks reserved w z t n e p =
    let lz : length z ≡ w = ap length e ∙ length-replicate {A = ℕ} w 0 in
    let lt : length t ≡ length z = ap length p ∙ length-with_bits true z 0 reserved in
    is-map blocks (λ k. ltb k reserved) t (lt ∙ lz ∙ n) (rw p (bytes-with_bits true z 0 reserved)) (λ k l. go k (rw lt at l) (dec_lt k reserved))
  where
    go : (k : ℕ) → k < 8 * length z → Dec (k < reserved) → bit_set t k ≡ ltb k reserved
    go k l (yes q) = ap (λ (m : List ℕ). bit_set m k) p ∙ bit_set-inside true z 0 reserved k l (omega arith) q ∙ sym (lt-ltb k reserved q)
    go k l (no q) =
        ap (λ (m : List ℕ). bit_set m k) p ∙ bit_set-after true z 0 reserved k l (omega arith) ∙ ap (λ (m : List ℕ). bit_set m k) e ∙ bits-zero w k
        ∙ sym (le-ltb k reserved (omega arith))

-- one map less another is the map of the blocks that are in the first alone
pub less-map : (blocks : ℕ) (u r t : List ℕ) → length u ≡ map_bytes blocks → t ≡ bit_bytes (length u) (only u r) 0 → t ≡ encode_map blocks (λ n. bit_set u n && not (bit_set r n))
unfolding encode_map only
less-map blocks u r t n e = e ∙ ap (λ (w : ℕ). bit_bytes w (λ k. bit_set u k && not (bit_set r k)) 0) n

-- a count from 0 on
pub count-from : (f : ℕ → Bool) (n r : ℕ) → r ≡ count f (range 0 (n - 0)) → r ≡ count f (range 0 n)
count-from f n r e = let z : n - 0 ≡ n = omega arith in rw z at e

-- ---- the head

-- a uuid of 16 bytes is its first 16
pub whole-uuid : (uuid : List ℕ) (r : List ℕ) → length uuid ≡ uuid_bytes → r ≡ take uuid_bytes uuid → r ≡ uuid
whole-uuid uuid r l e = e ∙ take_all uuid_bytes uuid (omega (arith, l))

-- a head that was made of a uuid and two numbers is fresh's
pub fresh-head-is : (uuid r t : List ℕ) (blocks reserved : ℕ) → length uuid ≡ uuid_bytes → r ≡ take uuid_bytes uuid
    → t ≡ encode_head (head_of (record { uuid = r; blocks = blocks; reserved = reserved; hint = 0; cards = 0; extents = 0; groups = 0 })) → t ≡ encode_head (fresh_head uuid blocks reserved)
unfolding fresh_head head_of
fresh-head-is uuid r t blocks reserved l e q = q ∙ ap (λ (u : List ℕ). encode_head (record { uuid = u; blocks = blocks; reserved = reserved; hint = 0; cards = 0; extents = 0; groups = 0 })) (whole-uuid uuid r l e)

-- ---- numbers

-- zeros have a bit for each of so many blocks
pub zeros-hold : (blocks reserved w : ℕ) (z : List ℕ) → w ≡ map_bytes blocks → z ≡ replicate w 0 → reserved ≤ blocks → reserved ≤ 8 * length z
zeros-hold blocks reserved w z n e l = let k : length z ≡ w = ap length e ∙ length-replicate {A = ℕ} w 0 in omega (arith, map-holds blocks w n, k)
