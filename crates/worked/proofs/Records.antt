-- The records byte by byte: each with fields of its own, against bytes that were written out from document 01's sentences.
-- Assumes nothing.
use mathlib.Core.Path.{◌≡◌, refl}
use mathlib.Core.List.{List, [], ◌∷◌, ◌++◌}
use mathlib.Core.Bool.{◌||◌}
use mathlib.Core.Option.{some}
use Prim.Native.Nat.{ℕ}
use lib.Dec.{eqb}
use lib.ListN.{length, take, replicate}
use Rattle.rules.specs.Lists.{range}
use Rattle.rules.specs.Head.{Head, encode_head, decode_head}
use Rattle.rules.specs.Card.{Card, encode_card, decode_card}
use Rattle.rules.specs.Extent.{Extent, encode_extent, decode_extent}
use Rattle.rules.specs.Group.{Group, empty_group, set_checksum_slot, encode_group}
use Rattle.rules.specs.Map.{map_bytes, encode_map}
use Rattle.worked.proofs.Stores.{time, computed}

-- a head, and its 28 bytes
pub head : Head
head = record { uuid = range 1 16; blocks = 65536; reserved = 5; hint = 3; cards = 1000000; extents = 2; groups = 7 }

pub head_laid : List ℕ
head_laid = range 1 16 ++ (128 ∷ 0 ∷ 0 ∷ 1 ∷ 127 ∷ 66 ∷ 64 ∷ 0 ∷ 0 ∷ 32 ∷ 0 ∷ 7 ∷ [])

-- a card: object 0x0102030405060708, size 0x1112131415161718, 0x312345678 blocks, changed at 0x2122232425262728 seconds, made at 0x5152535455565758
-- seconds and 0x32345679 nanoseconds, and its 48 bytes
pub card : Card
card = record {
  object = 72623859790382856;
  size = 1230066625199609624;
  allocated = 13190321784;
  changed = time 2387509390608836392 999999999;
  created = time 5859837686836516696 842290809;
}

pub card_laid : List ℕ
card_laid =
    range 1 8
    ++ (34 ∷ 36 ∷ 38 ∷ 40 ∷ 42 ∷ 44 ∷ 46 ∷ 48 ∷ [])
    ++ (196 ∷ 141 ∷ 21 ∷ 158 ∷ 16 ∷ 145 ∷ 17 ∷ 146 ∷ [])
    ++ (18 ∷ 147 ∷ 19 ∷ 148 ∷ 119 ∷ 53 ∷ 147 ∷ 255 ∷ [])
    ++ (69 ∷ 73 ∷ 77 ∷ 81 ∷ 85 ∷ 89 ∷ 93 ∷ 99 ∷ [])
    ++ (35 ∷ 69 ∷ 103 ∷ 144 ∷ 0 ∷ 0 ∷ 0 ∷ 0 ∷ [])

-- an extent: the same object, logical block 0x1112131415161718, physical 0x2122232425262728, count 0x31323334, and its 33 bytes
pub extent : Extent
extent = record { object = 72623859790382856; logical = 1230066625199609624; physical = 2387509390608836392; count = 825373492 }

pub extent_laid : List ℕ
extent_laid =
    range 1 8 ++ (3 ∷ range 17 8) ++ (40 ∷ 39 ∷ 38 ∷ 37 ∷ 36 ∷ 35 ∷ 34 ∷ 33 ∷ 52 ∷ 51 ∷ 50 ∷ 49 ∷ 0 ∷ 0 ∷ 0 ∷ 0 ∷ [])

-- a group of the same object and number with slots 0 and 9, and its bytes up to the latter
pub group : Group
group = set_checksum_slot (set_checksum_slot (empty_group 72623859790382856 1230066625199609624) 0 (some 825373492)) 9 (some 5)

pub group_laid : List ℕ
group_laid =
    range 1 8 ++ (4 ∷ range 17 8) ++ (1 ∷ 2 ∷ replicate 30 0) ++ (52 ∷ 51 ∷ 50 ∷ 49 ∷ replicate 32 0) ++ (5 ∷ 0 ∷ 0 ∷ 0 ∷ [])

pub record Laid : Type 0 where
  pub head-laid : encode_head head ≡ head_laid
  pub head_read : decode_head head_laid ≡ head
  pub card-laid : encode_card card ≡ card_laid
  pub card-read : decode_card card_laid ≡ card
  pub extent-laid : encode_extent extent ≡ extent_laid
  pub extent-read : decode_extent extent_laid ≡ extent
  pub group-laid : take 89 (encode_group group) ≡ group_laid
  pub group-length : length (encode_group group) ≡ 1073
  -- "8 bytes for each 64 blocks begun"
  pub map-one : map_bytes 1 ≡ 8
  pub map_whole : map_bytes 64 ≡ 8
  pub map-begun : map_bytes 65 ≡ 16
  -- blocks 0, 9 and 69
  pub map-laid : encode_map 70 (λ n. eqb n 0 || eqb n 9 || eqb n 69) ≡ 1 ∷ 2 ∷ 0 ∷ 0 ∷ 0 ∷ 0 ∷ 0 ∷ 0 ∷ 32 ∷ 0 ∷ 0 ∷ 0 ∷ 0 ∷ 0 ∷ 0 ∷ 0 ∷ []

pub laid : Laid
unfolding computed head head_laid card card_laid extent extent_laid group group_laid
laid = record {
  head-laid = refl;
  head_read = refl;
  card-laid = refl;
  card-read = refl;
  extent-laid = refl;
  extent-read = refl;
  group-laid = refl;
  group-length = refl;
  map-one = refl;
  map_whole = refl;
  map-begun = refl;
  map-laid = refl;
}
