-- The first n entries of a unit as the blocks that hold its valid bytes, and runs of adjoining ones among them.
-- Assumes nothing.
use Rattle.std.specs.Prelude.{◌≡◌, List, ℕ, ◌+◌, ◌-◌, ◌*◌, min, ◌≤◌, ◌<◌, length, take, get_or}
use Rattle.rules.specs.Sizes.{block_bytes}
use Rattle.mapping.specs.Entries.{entries}
use Rattle.inspect.specs.Mapped.{bytes_at}

-- n entries name a block each, and the blocks lie in the image
pub record Backed (image blocks : List ℕ) (n : ℕ) : Type 0 where
  pub given : (i : ℕ) → i < n → 0 < get_or blocks i 0
  pub inside : (i : ℕ) → get_or blocks i 0 * block_bytes ≤ length image
  pub most : n ≤ length blocks

-- the bytes of those blocks
unfoldable pub backed_bytes : List ℕ → List ℕ → ℕ → List ℕ
backed_bytes image blocks n = bytes_at image (take n (entries blocks))

-- those of them in front of block i, of which only so many are valid
unfoldable pub bytes_before : List ℕ → List ℕ → (n valid i : ℕ) → List ℕ
bytes_before image blocks n valid i = take (min (i * block_bytes) valid) (backed_bytes image blocks n)

-- from place i up to place e, not included, each entry is one more than the one before it
pub record Run (blocks : List ℕ) (i e : ℕ) : Type 0 where
  pub next : (j : ℕ) → i ≤ j → j < e → get_or blocks j 0 ≡ get_or blocks i 0 + (j - i)
