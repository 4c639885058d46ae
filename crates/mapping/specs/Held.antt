-- The extents of a stretch of a file, held ahead: where they start in the book, and how they stand in an array.
-- Assumes nothing.
use Rattle.std.specs.Prelude.{◌≡◌, Bool, true, false, ◌&&◌, ◌||◌, List, map, ℕ, ◌+◌, ◌≤◌, ◌<◌, eqb, ltb, leb, length, take, get_or}
use Rattle.rules.specs.Extent.{Extent, extent_bytes, decode_extent, extent_end}
use Rattle.format.specs.declared.extent.Extent.{Extent as ExtentStruct}
use Rattle.format.specs.Records.{extent_of}
use Rattle.book.specs.Places.{record_at}
use Rattle.held.specs.Held.{no_extent}

-- the most blocks of a stretch: those of a read, and of the units about its ends
abbrev pub most_stretch : ℕ
most_stretch = 288

-- an extent lies before a block of object's file: it is of a lower object, or of this one and ends there or before
unfoldable pub lies_before : ℕ → ℕ → Extent → Bool
lies_before object block e = ltb e.object object || (eqb e.object object && leb (extent_end e) block)

-- an extent of object's file that starts before a block
unfoldable pub starts_before : ℕ → ℕ → Extent → Bool
starts_before object block e = eqb e.object object && ltb e.logical block

-- the place r parts the n extents of a book: those before it lie before the block, no other does
pub record StretchFrom (object block n : ℕ) (s : List ℕ) (r : ℕ) : Type 0 where
  pub most : r ≤ n
  pub front : (j : ℕ) → j < r → lies_before object block (record_at decode_extent extent_bytes s j) ≡ true
  pub behind : (j : ℕ) → r ≤ j → j < n → lies_before object block (record_at decode_extent extent_bytes s j) ≡ false

-- the extent held at a place
unfoldable pub held_at : List ExtentStruct → ℕ → Extent
held_at a i = extent_of (get_or a i no_extent)

-- the first k
unfoldable pub held_of : ℕ → List ExtentStruct → List Extent
held_of k a = map extent_of (take k a)

-- from a place of the book on all extents of object's file that start before limit have room in the array: the first of them ends so near to it
pub record RoomAhead (object limit n : ℕ) (s : List ℕ) (place : ℕ) : Type 0 where
  pub near : place < n → (record_at decode_extent extent_bytes s place).object ≡ object → limit < extent_end (record_at decode_extent extent_bytes s place) + most_stretch

-- the k extents from the place on are held; they are object's, and the next is not, or starts at limit or behind it
pub record HeldAhead (object limit n : ℕ) (s : List ℕ) (place : ℕ) (a : List ExtentStruct) (k : ℕ) : Type 0 where
  pub within : place + k ≤ n
  pub room : k ≤ length a
  pub same : (i : ℕ) → i < k → held_at a i ≡ record_at decode_extent extent_bytes s (place + i)
  pub stops : place + k < n → starts_before object limit (record_at decode_extent extent_bytes s (place + k)) ≡ false
