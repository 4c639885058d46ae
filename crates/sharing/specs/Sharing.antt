-- Blocks that are mapped at two places: what the answer tells, and what a map says of the blocks that were seen.
-- Assumes nothing.
use Rattle.std.specs.Prelude.{◌≡◌, Bool, true, false, List, ℕ, ◌+◌, ◌*◌, ◌<◌, eqb, length}
use Rattle.rules.specs.Lists.{any, count, member, range}
use Rattle.rules.specs.Bytes.{bit_set}
use Rattle.rules.specs.Extent.{Extent}
use Rattle.rules.specs.Integrity.{mapped_blocks}
use Rattle.rules.proofs.CountLaws.{Once}
use Rattle.bitmap.specs.Map.{with_bits}

-- a map of the most blocks has so many bytes
abbrev pub seen_bytes : ℕ
seen_bytes = 8192

-- the answer tells whether a block is mapped at two places: where it is no, none is; where it is yes, one is
pub record TellsShared (r : Bool) (es : List Extent) : Type 0 where
  pub apart : r ≡ false → Once (mapped_blocks es)
  pub together : r ≡ true → (b : ℕ) × (1 < count (eqb b) (mapped_blocks es))

-- the answer tells whether one of the n blocks from a on is marked in the map m; where none is, they are marked in t too
pub record Looked (r : Bool) (m t : List ℕ) (a n : ℕ) : Type 0 where
  pub found : r ≡ any (bit_set m) (range a n)
  pub marks : r ≡ false → t ≡ with_bits true m a (a + n)
  pub size : length t ≡ length m

-- no block is mapped at two places, and those that are mapped are marked
pub record Seen (m : List ℕ) (es : List Extent) : Type 0 where
  pub size : length m ≡ seen_bytes
  pub once : Once (mapped_blocks es)
  pub bits : (b : ℕ) → b < 8 * length m → bit_set m b ≡ member b (mapped_blocks es)
