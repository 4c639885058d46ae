-- What the probes' answers come to, from what the functions behind them ensure.
-- Assumes nothing.
use mathlib.Core.Path.{◌≡◌, refl, sym, ap, ◌∙◌}
use mathlib.Core.Bool.{Bool, not}
use mathlib.Core.List.{List, ◌++◌}
use Prim.Native.Nat.{ℕ, zero, suc, ◌+◌, ◌-◌, ◌*◌, ◌≤◌, ◌<◌}
use native.Mathlib.Nat.{sub-zero, le_refl}
use native.Mathlib.Omega.{arith}
use borrow.Author.Tests.{eq-eqb, ne_eqb, le-leb, lt-leb}
use lib.Dec.{eqb, leb}
use lib.ListN.{length, take, drop}
use lib.Seq.{take-add, take_all}
use Rattle.rules.specs.Lists.{all, count, range}
use Rattle.rules.specs.Bytes.{Bytes, part, patch, all_zero, bit_set}
use Rattle.rules.specs.Crc32c.{crc32c}
use Rattle.rules.proofs.ByteLaws.{bytes-nil, bytes-append, part-all}
use Rattle.rules.proofs.ListLaws.{if-true, if-false, if-cases}
use Rattle.words.proofs.NumberLaws.{patch-whole}
use Rattle.crc32c_tables.specs.Register.{fed, begun, finished}
use Rattle.crc32c.specs.Unit.{UnitFed}
use Rattle.crc32c.specs.declared.unit.Running.{Running}
use Rattle.crc32c_tables.proofs.Division.{crc32c-fed}
use Rattle.crc32c.proofs.Running.{fed-more}
use Rattle.probe.specs.Probe.{repeated, copied, map_bits, count_set, all_clear}

-- the loop that feeds the same bytes again and again
pub repeated-none : (s : List ℕ) (c : ℕ) → c ≡ begun → c ≡ fed begun (repeated 0 s)
unfolding fed repeated
repeated-none s c e = e

pub repeated-more : (s : List ℕ) (i c d : ℕ) → c ≡ fed begun (repeated i s) → d ≡ fed c s → d ≡ fed begun (repeated (i + 1) s)
unfolding repeated
repeated-more s i c d p q =
    let e : i + 1 ≡ suc i = omega arith in
    rw e (fed-more c d (repeated i s) s p q)

bytes-repeated : (n : ℕ) (s : List ℕ) → Bytes s → Bytes (repeated n s)
unfolding repeated
bytes-repeated zero s b = bytes-nil
bytes-repeated (suc n) s b = bytes-append (repeated n s) s (bytes-repeated n s b) b

pub repeated-all : (s : List ℕ) (i n c r : ℕ) → c ≡ fed begun (repeated i s) → i ≡ n → r ≡ finished c → Bytes s → r ≡ crc32c (repeated n s)
repeated-all s i n c r p e q b = q ∙ rw (p, e) (crc32c-fed (repeated n s) (bytes-repeated n s b))

-- one piece more of a unit, and all of them
pub pieces_more : (state : Running) (w uuid s : List ℕ) (object unit n at end : ℕ) → at ≤ end
    → UnitFed state w uuid object unit n (take at s ++ take (end - at) (drop at s)) → UnitFed state w uuid object unit n (take end s)
pieces_more state w uuid s object unit n at end l f =
    let e : at + (end - at) ≡ end = omega arith in
    let q : take at s ++ take (end - at) (drop at s) ≡ take end s = sym (take-add at (end - at) s) ∙ ap (λ (k : ℕ). take k s) e in
    rw q at f

pub pieces-all : (state : Running) (w uuid s : List ℕ) (object unit at : ℕ) → length s ≤ at → UnitFed state w uuid object unit (length s) (take at s)
    → UnitFed state w uuid object unit (length s) s
pieces-all state w uuid s object unit at l f = rw (take_all at s l) at f

-- a test of the part that is the whole is a test of the whole
pub whole-zero : (s : List ℕ) (r : Bool) → r ≡ all_zero (part 0 (length s - 0) s) → r ≡ all_zero s
whole-zero s r e = e ∙ rw (sub-zero (length s), part-all s (length s) (le_refl (length s))) refl

-- buffers of one length
pub copied-yes : (s x t : List ℕ) → t ≡ patch s 0 x → length s ≡ length x → t ≡ copied s x
unfolding copied
copied-yes s x t e l =
    e ∙ patch-whole s x (sym l) ∙ sym (if-true (eqb (length s) (length x)) x s (eq-eqb (length s) (length x) l))

-- buffers of two lengths
pub copied-no : (s x : List ℕ) → (length s ≡ length x → ⊥) → s ≡ copied s x
unfolding copied
copied-no s x n = sym (if-false (eqb (length s) (length x)) x s (ne_eqb (length s) (length x) n))

-- a map that a store may have, and one that is too long
pub bits-yes : (map : List ℕ) → length map ≤ 8192 → 8 * length map ≡ map_bits map
unfolding map_bits
bits-yes map h = sym (if-true (leb (length map) 8192) (8 * length map) 0 (le-leb (length map) 8192 h))

pub bits-no : (map : List ℕ) → 8192 < length map → 0 ≡ map_bits map
unfolding map_bits
bits-no map h = sym (if-false (leb (length map) 8192) (8 * length map) 0 (lt-leb (length map) 8192 h))

-- they lie in the map
pub bits_inside : (map : List ℕ) (n : ℕ) → n ≡ map_bits map → n ≤ 8 * length map
unfolding map_bits
bits_inside map n e =
    rw e (if-cases (λ m. m ≤ 8 * length map) (leb (length map) 8192) (8 * length map) 0 (λ q. omega arith) (λ q. omega arith))

-- what the functions over a range say of all of them
pub counted : (map : List ℕ) (n r : ℕ) → n ≡ map_bits map → r ≡ count (bit_set map) (range 0 (n - 0)) → r ≡ count_set map
unfolding count_set
counted map n r e q = q ∙ rw (sub-zero n, e) refl

pub cleared : (map : List ℕ) (n : ℕ) (r : Bool) → n ≡ map_bits map → r ≡ all (λ k. not (bit_set map k)) (range 0 (n - 0)) → r ≡ all_clear map
unfolding all_clear
cleared map n r e q = q ∙ rw (sub-zero n, e) refl
