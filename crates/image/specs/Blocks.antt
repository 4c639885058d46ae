-- The bytes of a file's blocks, where some of them are not mapped.
-- Assumes nothing.
use mathlib.Core.List.{List, flat_map}
use Rattle.std.proofs.Math.Option.{Option}
use Rattle.std.specs.Prelude.{ℕ, replicate}
use Rattle.rules.specs.Lists.{maybe}
use Rattle.rules.specs.Sizes.{block_bytes}
use Rattle.rules.specs.Store.{block_at}

-- a block's bytes, zeros where it is not mapped
unfoldable pub block_or_zeros : List ℕ → Option ℕ → List ℕ
block_or_zeros image block = maybe (replicate block_bytes 0) (block_at image) block

-- those of blocks one after another
unfoldable pub blocks_bytes : List ℕ → List (Option ℕ) → List ℕ
blocks_bytes image mapped = flat_map (block_or_zeros image) mapped
