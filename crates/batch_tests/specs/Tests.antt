-- The extents that are looked at for blocks that are shared, and what is told of them.
-- Assumes nothing.
use Rattle.std.specs.Prelude.{◌≡◌, ◌⊎◌, Bool, true, false, List, ℕ, ◌+◌, ◌*◌, ◌≤◌, ◌<◌, eqb, leb, length}
use Rattle.rules.specs.Lists.{all, count}
use Rattle.rules.specs.Sizes.{most_blocks}
use Rattle.rules.specs.Head.{head_bytes, decode_head}
use Rattle.rules.specs.Extent.{Extent, extent_bytes, decode_extent}
use Rattle.rules.specs.Book.{decode_book}
use Rattle.rules.specs.Integrity.{mapped_blocks}
use Rattle.rules.specs.Triples.{triple_bytes}
use Rattle.rules.proofs.CountLaws.{Once}

-- the extents that the head counts
abbrev pub extents_counted : (head extents : List ℕ) → List Extent
extents_counted head extents = decode_book decode_extent extent_bytes (decode_head head).extents extents

-- they have their places, and lie on a device
pub record ExtentsPlaced (head extents : List ℕ) : Type 0 where
  pub width : length head ≡ head_bytes
  pub room : extent_bytes * (decode_head head).extents ≤ length extents
  pub device : all (λ e. leb (e.physical + e.count) most_blocks) (extents_counted head extents) ≡ true

-- whether the tests have to be made again between the writes of a list: not where no block is mapped twice, and only where one is or the list has no
-- second write
pub record TellsAgain (r : Bool) (list : List ℕ) (es : List Extent) : Type 0 where
  pub left_out : r ≡ false → Once (mapped_blocks es)
  pub made : r ≡ true → (length list ≤ triple_bytes) ⊎ ((b : ℕ) × (1 < count (eqb b) (mapped_blocks es)))
