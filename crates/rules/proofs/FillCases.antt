-- Document 02, W-202: fill over the blocks left, by computation of the definitions: what is counted, what it is divided by, and the quotient.
-- Assumes nothing.
use mathlib.Core.Path.{◌≡◌, refl}
use mathlib.Core.List.{List, [], ◌∷◌}
use Prim.Native.Nat.{ℕ}
use Rattle.rules.specs.Bytes.{bit_set}
use Rattle.rules.specs.Store.{Volume}
use Rattle.rules.specs.Settle.{usable_blocks, used_usable, per_mille}
use Rattle.rules.proofs.Opened.{opened}

-- a volume of so many blocks and reserved ones, without files; the bytes of its maps
pub bare : (blocks reserved : ℕ) (used retired : List ℕ) → Volume
bare blocks reserved used retired = record {
  uuid = [];
  blocks = blocks;
  reserved = reserved;
  hint = 0;
  books = record { cards = []; extents = []; groups = [] };
  used = bit_set used;
  retired = bit_set retired;
  image = [];
}

-- what fill answers of it
pub fill_of : Volume → ℕ
fill_of v = per_mille (used_usable v) (usable_blocks v)

-- the maps of `layout`'s store after its last step: 8 blocks, of which 0 is reserved, 1 to 4 and 6 are the file's, 5 is retired and 7 is free
pub layout : Volume
layout = bare 8 1 (127 ∷ []) (32 ∷ [])

pub record Table : Type 0 where
  -- "therefore shows six of seven, 857"
  pub six : used_usable layout ≡ 6
  pub of-seven : usable_blocks layout ≡ 7
  pub layout-fill : fill_of layout ≡ 857
  -- the same maps with no block reserved, and with all that are used: seven of eight, and none of one
  pub none-reserved : fill_of (bare 8 0 (127 ∷ []) (32 ∷ [])) ≡ 875
  pub only-reserved : fill_of (bare 8 7 (127 ∷ []) []) ≡ 0
  -- the first block behind the reserved ones, and the last of all
  pub first : used_usable (bare 10 3 (15 ∷ 0 ∷ []) []) ≡ 1
  pub last : used_usable (bare 10 3 (7 ∷ 2 ∷ []) []) ≡ 1
  -- what is behind the last block does not count
  pub past : used_usable (bare 10 3 (7 ∷ 4 ∷ []) []) ≡ 0
  -- "When every block is reserved the answer is 0."
  pub all-reserved : fill_of (bare 8 8 (255 ∷ []) []) ≡ 0
  pub one-reserved : fill_of (bare 1 1 (1 ∷ []) []) ≡ 0
  pub no-divisor : per_mille 1 0 ≡ 0
  -- one block that is not reserved: free and used
  pub one_free : fill_of (bare 1 0 (0 ∷ []) []) ≡ 0
  pub one-used : fill_of (bare 1 0 (1 ∷ []) []) ≡ 1000
  -- rounded down: 62.5, 187.5 and 999.98 of a thousand
  pub one-of-sixteen : per_mille 1 16 ≡ 62
  pub three-of-sixteen : per_mille 3 16 ≡ 187
  pub nearly-all : per_mille 65534 65535 ≡ 999

pub cases : Table
unfolding opened bare fill_of layout
cases = record {
  six = refl;
  of-seven = refl;
  layout-fill = refl;
  none-reserved = refl;
  only-reserved = refl;
  first = refl;
  last = refl;
  past = refl;
  all-reserved = refl;
  one-reserved = refl;
  no-divisor = refl;
  one_free = refl;
  one-used = refl;
  one-of-sixteen = refl;
  three-of-sixteen = refl;
  nearly-all = refl;
}
