-- Document 01, "Block maps": used and retired, a bit for each block of the store.
-- Assumes nothing.
use Rattle.std.specs.Prelude.{List, Bool, ℕ, ◌*◌}
use Rattle.rules.specs.Lists.{begun}
use Rattle.rules.specs.Bytes.{bit_bytes}

-- "8 bytes for each 64 blocks begun"
unfoldable pub map_bytes : ℕ → ℕ
map_bytes blocks = 8 * begun blocks 64

-- the map of the blocks that f holds of; "bit n as in a group"
unfoldable pub encode_map : ℕ → (ℕ → Bool) → List ℕ
encode_map blocks f = bit_bytes (map_bytes blocks) f 0
