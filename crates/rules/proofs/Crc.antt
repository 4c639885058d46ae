-- RFC 3720's check value: CRC-32C of the nine bytes "123456789", by computation of the definition.
-- Assumes nothing.
use mathlib.Core.Path.{◌≡◌, refl}
use mathlib.Core.List.{[], ◌∷◌}
use Rattle.rules.specs.Crc32c.{crc32c}
use Rattle.rules.proofs.Opened.{opened}

pub check-value : crc32c (0x31 ∷ 0x32 ∷ 0x33 ∷ 0x34 ∷ 0x35 ∷ 0x36 ∷ 0x37 ∷ 0x38 ∷ 0x39 ∷ []) ≡ 0xE3069283
unfolding opened
check-value = refl
