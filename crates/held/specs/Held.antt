-- Extents held in an array, and the entry of a block by them.
-- Assumes nothing.
use Rattle.std.specs.Prelude.{◌≡◌, List, [], ◌∷◌, ℕ, zero, suc, ◌+◌, ◌≤◌, ◌<◌, length, get_or}
use Rattle.rules.specs.Lists.{pick◌then◌else◌}
use Rattle.rules.specs.Sizes.{most_blocks}
use Rattle.rules.specs.Extent.{covers, block_of}
use Rattle.format.specs.declared.extent.Extent.{Extent}
use Rattle.format.specs.Records.{extent_of}

-- an extent of nothing, which stands for what lies behind the last
abbrev pub no_extent : Extent
no_extent = record { object = 0; logical = 0; physical = 0; count = 0 }

-- an extent lies on a device of the most blocks
abbrev pub OnDevice : Extent → Type 0
OnDevice e = e.physical + e.count ≤ most_blocks

-- k extents are held, each on such a device
pub record HeldRight (k : ℕ) (held : List Extent) : Type 0 where
  pub room : k ≤ length held
  pub device : (i : ℕ) → i < k → OnDevice (get_or held i no_extent)

-- the entry of a block of object's file through one extent
unfoldable pub entry_through : (object block : ℕ) → Extent → ℕ
entry_through object block e = pick covers object block (extent_of e) then block_of block (extent_of e) + 1 else 0

-- an entry, or where it is 0 another
unfoldable pub or_else : ℕ → ℕ → ℕ
or_else zero y = y
or_else (suc x) y = suc x

-- the entry through the first of the extents that maps the block
unfoldable pub held_entry : (object block : ℕ) → List Extent → ℕ
held_entry object block [] = 0
held_entry object block (e ∷ es) = or_else (entry_through object block e) (held_entry object block es)

-- the first i of the numbers are the entries of the blocks of object's file from first on
abbrev pub Mapped : (object first : ℕ) (held : List Extent) (xs : List ℕ) (i : ℕ) → Type 0
Mapped object first held xs i = (j : ℕ) → j < i → get_or xs j 0 ≡ held_entry object (first + j) held
