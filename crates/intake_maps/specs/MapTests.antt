-- The maps' rules of refusal 2 over the extents, two maps and two numbers.
-- Assumes nothing.
use Rattle.std.specs.Prelude.{◌≡◌, Bool, ◌&&◌, List, ℕ, ◌+◌, ◌*◌, ◌%◌, ◌^◌, ◌≤◌, ◌<◌, leb, ltb, length}
use Rattle.rules.specs.Lists.{all, range}
use Rattle.rules.specs.Sizes.{most_blocks}
use Rattle.rules.specs.Extent.{Extent}
use Rattle.rules.specs.Map.{map_bytes}
use Rattle.rules.specs.Integrity.{none_past}
use Rattle.bitmap_pairs.specs.Pair.{only, inside}

-- the block may be mapped: used, not retired and not reserved
unfoldable pub mappable : (reserved : ℕ) (used retired : List ℕ) → ℕ → Bool
mappable reserved used retired n = only used retired n && leb reserved n

-- each of so many blocks from a place on may be
unfoldable pub blocks_mappable : (reserved : ℕ) (used retired : List ℕ) → ℕ → ℕ → Bool
blocks_mappable reserved used retired first count = all (mappable reserved used retired) (range first count)

-- each block of the extent may be
unfoldable pub extent_mappable : (reserved : ℕ) (used retired : List ℕ) → Extent → Bool
extent_mappable reserved used retired e = blocks_mappable reserved used retired e.physical e.count

-- the rules on the maps without the extents
unfoldable pub maps_alone : (blocks reserved : ℕ) (used retired : List ℕ) → Bool
maps_alone blocks reserved used retired =
    all (only used retired) (range 0 reserved)
    && all (inside used retired) (range 0 blocks)
    && (none_past blocks used && none_past blocks retired)

-- the rules on the maps
unfoldable pub maps_right : (blocks reserved : ℕ) (used retired : List ℕ) → List Extent → Bool
maps_right blocks reserved used retired es = all (extent_mappable reserved used retired) es && maps_alone blocks reserved used retired

-- the extent has blocks, and they lie on a device of so many
unfoldable pub placed : ℕ → Extent → Bool
placed blocks e = ltb 0 e.count && leb (e.physical + e.count) blocks

-- two maps of as many whole words, whose bits are counted in 64 bits
pub record Paired (used retired : List ℕ) : Type 0 where
  pub whole : length used % 8 ≡ 0
  pub same : length retired ≡ length used
  pub bits : 8 * length used < 2 ^ 64

-- both maps fit a store of so many blocks, so many of them reserved
pub record MapsSized (blocks reserved : ℕ) (used retired : List ℕ) : Type 0 where
  pub used_fits : length used ≡ map_bytes blocks
  pub retired_fits : length retired ≡ map_bytes blocks
  pub most : blocks ≤ most_blocks
  pub within : reserved ≤ blocks
