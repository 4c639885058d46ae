-- Document 01, "Extent": made and read by file.rs. A stretch of a file's blocks that lie side by side on the device.
-- Assumes nothing.
use Rattle.std.specs.Prelude.{List, [], ◌∷◌, ◌++◌, Bool, ◌&&◌, ℕ, ◌+◌, ◌-◌, ◌*◌, ◌^◌, min, eqb, leb, ltb, get_or}
use Rattle.std.proofs.Math.Option.{Option, none, some}
use Rattle.rules.specs.Lists.{find, maybe, pair_before}
use Rattle.rules.specs.Sizes.{block_bytes, most_extent}
use Rattle.rules.specs.Bytes.{be, le, be_digits, le_digits, part, all_zero}

-- count blocks of object's file, from its block logical on, stand at the device's blocks from physical on
pub record Extent : Type 0 where
  pub object : ℕ
  pub logical : ℕ
  pub physical : ℕ
  pub count : ℕ

-- "33 bytes"
abbrev pub extent_bytes : ℕ
extent_bytes = 33

-- "`extent_key` (object 8 bytes big-endian, byte 3, logical block 8 big-endian)"
unfoldable pub extent_key : ℕ → ℕ → List ℕ
extent_key object logical = be_digits 8 object ++ (3 ∷ be_digits 8 logical)

-- "`encode_extent` (physical block 8 little-endian, count 4 little-endian, four zero bytes)", behind its key
unfoldable pub encode_extent : Extent → List ℕ
encode_extent e =
    extent_key e.object e.logical ++ le_digits 8 e.physical ++ le_digits 4 e.count ++ (0 ∷ 0 ∷ 0 ∷ 0 ∷ [])

-- what the 33 bytes say
unfoldable pub decode_extent : List ℕ → Extent
decode_extent bytes = record {
  object = be (part 0 8 bytes);
  logical = be (part 9 8 bytes);
  physical = le (part 17 8 bytes);
  count = le (part 25 4 bytes);
}

-- the fixed bytes: the 3 of the key, and the four zeros
unfoldable pub extent_fixed : List ℕ → Bool
extent_fixed bytes = eqb (get_or bytes 8 0) 3 && all_zero (part 29 4 bytes)

-- "extents and groups by key": keys as bytes ascend where object and block do
unfoldable pub extent_before : Extent → Extent → Bool
extent_before e f = pair_before e.object e.logical f.object f.logical

-- "An extent answers its own end": the file's block after it
unfoldable pub extent_end : Extent → ℕ
extent_end e = e.logical + e.count

-- "and device end, the latter saturating": the device's byte after it, at most 2^64 - 1
unfoldable pub device_end : Extent → ℕ
device_end e = min ((e.physical + e.count) * block_bytes) (2 ^ 64 - 1)

-- "Two extents of one object join when logical and physical ends both meet the next starts without overflow and the counts add to at
-- most 4,294,967,295." The ends are numbers without a bound here; one that meets a start of 64 bits did not overflow.
unfoldable pub joins : Extent → Extent → Bool
joins e f =
    eqb e.object f.object
    && eqb (extent_end e) f.logical
    && eqb (e.physical + e.count) f.physical
    && leb (e.count + f.count) most_extent

-- the two as one
unfoldable pub joined : Extent → Extent → Extent
joined e f = record { object = e.object; logical = e.logical; physical = e.physical; count = e.count + f.count }

-- the extent maps this block of object's file
unfoldable pub covers : ℕ → ℕ → Extent → Bool
covers object block e = eqb e.object object && leb e.logical block && ltb block (extent_end e)

-- where an extent that covers the file's block has it on the device
unfoldable pub block_of : ℕ → Extent → ℕ
block_of block e = e.physical + (block - e.logical)

-- where object's file has its block on the device, if it is mapped
unfoldable pub mapping : List Extent → ℕ → ℕ → Option ℕ
mapping es object block = maybe none (λ e. some (block_of block e)) (find (covers object block) es)
