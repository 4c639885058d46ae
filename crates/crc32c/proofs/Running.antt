-- A running checksum in the shape of its callers' needs: begun, fed in parts and finished it is the checksum of the parts' concatenation.
-- Assumes nothing.
use mathlib.Core.Path.{◌≡◌, refl, sym, ◌∙◌}
use mathlib.Core.List.{List, ◌++◌, append_assoc}
use Prim.Native.Nat.{ℕ}
use native.Mathlib.Omega.{arith}
use lib.ListN.{length, length-append}
use Rattle.rules.specs.Bytes.{be_digits, patch, Bytes}
use Rattle.rules.specs.Crc32c.{crc32c}
use Rattle.rules.specs.Checksum.{unit_checksum}
use Rattle.rules.proofs.ByteLaws.{length-be_digits, bytes-be_digits, bytes-append, patch-patch}
use Rattle.words.proofs.NumberLaws.{patch-whole}
use Rattle.crc32c_tables.specs.Register.{fed, begun, finished}
use Rattle.crc32c.specs.Unit.{before}
use Rattle.crc32c_tables.proofs.RegisterLaws.{fed-append}
use Rattle.crc32c_tables.proofs.Division.{crc32c-fed}

-- one part more
pub fed-more : (c d : ℕ) (xs ys : List ℕ) → c ≡ fed begun xs → d ≡ fed c ys → d ≡ fed begun (xs ++ ys)
fed-more c d xs ys p q = q ∙ rw p (sym (fed-append begun xs ys))

-- the whole at once
pub crc-whole : (c d r : ℕ) (s : List ℕ) → c ≡ begun → d ≡ fed c s → r ≡ finished d → Bytes s → r ≡ crc32c s
crc-whole c d r s p q e b = e ∙ rw (q, p) (crc32c-fed s b)

-- the last part
pub crc-parts : (c d r : ℕ) (xs ys : List ℕ) → c ≡ fed begun xs → d ≡ fed c ys → r ≡ finished d → Bytes xs → Bytes ys → r ≡ crc32c (xs ++ ys)
crc-parts c d r xs ys p q e bx by = e ∙ rw (fed-more c d xs ys p q) (crc32c-fed (xs ++ ys) (bytes-append xs ys bx by))

bytes-before : (uuid : List ℕ) (object unit valid : ℕ) → Bytes uuid → Bytes (before uuid object unit valid)
bytes-before uuid object unit valid b =
    bytes-append (uuid ++ be_digits 8 object ++ be_digits 8 unit) (be_digits 4 valid)
    (bytes-append (uuid ++ be_digits 8 object) (be_digits 8 unit) (bytes-append uuid (be_digits 8 object) b (bytes-be_digits 8 object)) (bytes-be_digits 8 unit))
    (bytes-be_digits 4 valid)

-- the three numbers, written one behind the other into twenty bytes
numbers : (z x y p : List ℕ) (object unit valid : ℕ) → length z ≡ 20 → x ≡ patch z 0 (be_digits 8 object) → y ≡ patch x 8 (be_digits 8 unit) → p ≡ patch y 16 (be_digits 4 valid)
    → p ≡ be_digits 8 object ++ be_digits 8 unit ++ be_digits 4 valid
numbers z x y p object unit valid n e f g =
    let l : length (be_digits 8 object) ≡ 8 = length-be_digits 8 object in
    let m : length (be_digits 8 unit) ≡ 8 = length-be_digits 8 unit in
    let k : length (be_digits 4 valid) ≡ 4 = length-be_digits 4 valid in
    let lm : length (be_digits 8 object ++ be_digits 8 unit) ≡ 16 = rw length-append (omega arith) in
    let lmk : length (be_digits 8 object ++ be_digits 8 unit ++ be_digits 4 valid) ≡ length z = rw length-append (omega arith) in
    let a : y ≡ patch z 0 (be_digits 8 object ++ be_digits 8 unit) = f ∙ rw e (patch-patch z 0 8 (be_digits 8 object) (be_digits 8 unit) (omega arith) (omega arith)) in
    g ∙ rw a (patch-patch z 0 16 (be_digits 8 object ++ be_digits 8 unit) (be_digits 4 valid) (omega arith) (omega arith)) ∙ patch-whole z (be_digits 8 object ++ be_digits 8 unit ++ be_digits 4 valid) lmk

pub unit-begun : (uuid z x y p : List ℕ) (object unit valid b c r : ℕ) → length z ≡ 20 → x ≡ patch z 0 (be_digits 8 object) → y ≡ patch x 8 (be_digits 8 unit) → p ≡ patch y 16 (be_digits 4 valid)
    → b ≡ begun → c ≡ fed b uuid → r ≡ fed c p → r ≡ fed begun (before uuid object unit valid)
unit-begun uuid z x y p object unit valid b c r n e f g hb hc hr =
    hr ∙ rw (hc, hb, numbers z x y p object unit valid n e f g)
    (sym (fed-append begun uuid (be_digits 8 object ++ be_digits 8 unit ++ be_digits 4 valid))
    ∙ rw (← append_assoc uuid (be_digits 8 object ++ be_digits 8 unit) (be_digits 4 valid), ← append_assoc uuid (be_digits 8 object) (be_digits 8 unit)) refl)

-- a unit's checksum
pub crc-unit : (uuid s : List ℕ) (object unit c d r : ℕ) → c ≡ fed begun (before uuid object unit (length s)) → d ≡ fed c s → r ≡ finished d → Bytes uuid → Bytes s
    → r ≡ unit_checksum uuid object unit s
unfolding unit_checksum
crc-unit uuid s object unit c d r p q e bu bs =
    crc-parts c d r (before uuid object unit (length s)) s p q e (bytes-before uuid object unit (length s) bu) bs
