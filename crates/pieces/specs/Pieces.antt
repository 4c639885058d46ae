-- The pieces of a buffer into which many reads hand out their bytes, told of the image and the extents alone.
-- Assumes nothing.
use Rattle.std.specs.Prelude.{List, [], ◌∷◌, ◌++◌, map, ℕ, ◌+◌, ◌-◌, ◌*◌, ◌/◌, ◌%◌, length, take, drop, get_or}
use Rattle.rules.specs.Lists.{range, begun}
use Rattle.rules.specs.Sizes.{unit_blocks, unit_bytes}
use Rattle.rules.specs.Bytes.{part}
use Rattle.rules.specs.Extent.{mapping}
use Rattle.rules.specs.Triples.{Triple}
use Rattle.rules.specs.Read.{read_length}
use Rattle.mapping.specs.Entries.{extents_in}
use Rattle.image.specs.Blocks.{blocks_bytes}

-- an image, and a book of e extents
module _ (image extents : List ℕ) (e : ℕ) where
  -- the bytes of the units in which the n bytes from offset on of object's file lie, zeros where no block is mapped
  unfoldable pub unit_bytes_of : (object offset n : ℕ) → List ℕ
  unit_bytes_of object offset n =
      blocks_bytes image (map (mapping (extents_in e extents) object) (range (offset / unit_bytes * unit_blocks) ((begun (offset + n) unit_bytes - offset / unit_bytes) * unit_blocks)))

  -- a piece after a read into it of object's file of this size, from offset on: what the read gets, and the rest as it was
  unfoldable pub piece_of : (object offset size : ℕ) → List ℕ → List ℕ
  piece_of object offset size piece =
      part (offset % unit_bytes) (read_length size offset (length piece)) (unit_bytes_of object offset (read_length size offset (length piece)))
      ++ drop (read_length size offset (length piece)) piece

  -- a buffer after the reads of triples into its pieces, one after another; the files' sizes stand beside the triples
  unfoldable pub pieces_of : List Triple → List ℕ → List ℕ → List ℕ
  pieces_of [] sizes out = out
  pieces_of (t ∷ ts) sizes out = piece_of t.object t.offset (get_or sizes 0 0) (take t.len out) ++ pieces_of ts (drop 1 sizes) (drop t.len out)
