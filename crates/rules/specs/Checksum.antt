-- Document 01, "Unit checksum".
-- Assumes nothing.
use Rattle.std.specs.Prelude.{List, ◌++◌, ℕ, length}
use Rattle.rules.specs.Bytes.{be_digits}
use Rattle.rules.specs.Crc32c.{crc32c}

-- "CRC-32C of RFC 3720 over uuid, object (8 bytes big-endian), unit (8 big-endian), valid length (4 big-endian) and the valid bytes"
unfoldable pub unit_checksum : List ℕ → ℕ → ℕ → List ℕ → ℕ
unit_checksum uuid object unit bytes =
    crc32c (uuid ++ be_digits 8 object ++ be_digits 8 unit ++ be_digits 4 (length bytes) ++ bytes)
