-- Document 01, "Books": what the rewritten units of a call leave of the books, the maps and the image.
-- Assumes nothing.
use mathlib.Core.List.{List, [], ◌∷◌, ◌++◌, map, flat_map}
use Rattle.std.specs.Prelude.{Bool, not, ◌&&◌, ◌||◌, ℕ, suc, ◌+◌, ◌-◌, ◌*◌, ◌/◌, ◌%◌, min, max, eqb, ltb}
use Rattle.std.proofs.Math.Option.{Option, none, some}
use Rattle.rules.specs.Lists.{pick◌then◌else◌, any, filter, insert, member}
use Rattle.rules.specs.Sizes.{block_bytes, unit_blocks, group_units}
use Rattle.rules.specs.Bytes.{part, patch, padded}
use Rattle.rules.specs.Time.{Time}
use Rattle.rules.specs.Card.{Card}
use Rattle.rules.specs.Extent.{Extent, extent_before, extent_end, joins, joined}
use Rattle.rules.specs.Group.{Group, group_before, empty_group, set_checksum_slot}
use Rattle.rules.specs.Store.{Volume, remade}
use Rattle.rules.specs.Units.{Change}
use Rattle.rules.specs.Rewrite.{Rewritten, Progress}

-- ---- the extents

-- an extent's part before one of its blocks
unfoldable pub up_to : Extent → ℕ → Extent
up_to e block = record { object = e.object; logical = e.logical; physical = e.physical; count = block - e.logical }

-- its part from one of its blocks on
unfoldable pub from : Extent → ℕ → Extent
from e block =
    record { object = e.object; logical = block; physical = e.physical + (block - e.logical); count = extent_end e - block }

-- what an extent has before a block of its file: nothing, a part of it, or all
unfoldable pub part_before : Extent → ℕ → List Extent
part_before e block = pick ltb e.logical block then up_to e (min (extent_end e) block) ∷ [] else []

-- what it has from a block of its file on
unfoldable pub part_from : Extent → ℕ → List Extent
part_from e block = pick ltb block (extent_end e) then from e (max e.logical block) ∷ [] else []

-- "a rewritten unit's blocks leave the old extents, whose other parts stay"
unfoldable pub cut_unit : ℕ → ℕ → List Extent → List Extent
cut_unit object unit es =
    flat_map (λ e. pick eqb e.object object then part_before e (unit * unit_blocks) ++ part_from e (suc unit * unit_blocks) else e ∷ []) es

-- an extent before others: one with the first of them where they join
unfoldable pub meet : Extent → List Extent → List Extent
meet e [] = e ∷ []
meet e (f ∷ fs) = pick joins e f then joined e f ∷ fs else e ∷ f ∷ fs

-- a rewritten unit's blocks, each as an extent of its own, before runs that follow them
unfoldable pub start_runs : ℕ → ℕ → List ℕ → List Extent → List Extent
start_runs object logical [] rs = rs
start_runs object logical (b ∷ bs) rs =
    meet (record { object = object; logical = logical; physical = b; count = 1 }) (start_runs object (suc logical) bs rs)

-- "Over the call, its units' blocks adjoining in file and device form runs"
unfoldable pub call_runs : ℕ → List Rewritten → List Extent
call_runs object [] = []
call_runs object (r ∷ rs) = start_runs object (r.unit * unit_blocks) r.blocks (call_runs object rs)

-- extents, the last of which joins the first of those that follow where it can
unfoldable pub attach : List Extent → List Extent → List Extent
attach [] fs = fs
attach (e ∷ []) fs = meet e fs
attach (e ∷ d ∷ es) fs = e ∷ attach (d ∷ es) fs

-- "each run, ascending, takes in the extent after it if they join, then the one before"
unfoldable pub take_in : Extent → List Extent → List Extent
take_in run es = attach (filter (λ e. extent_before e run) es) (meet run (filter (λ e. not (extent_before e run)) es))

-- the old extents without the rewritten units' blocks
unfoldable pub cut_units : ℕ → List Rewritten → List Extent → List Extent
cut_units object [] es = es
cut_units object (r ∷ rs) es = cut_units object rs (cut_unit object r.unit es)

-- the runs taken in, one after another
unfoldable pub take_in_all : List Extent → List Extent → List Extent
take_in_all [] es = es
take_in_all (run ∷ runs) es = take_in_all runs (take_in run es)

-- the finished extents
unfoldable pub finished_extents : ℕ → List Rewritten → List Extent → List Extent
finished_extents object rs es = take_in_all (call_runs object rs) (cut_units object rs es)

-- ---- the groups

-- the group is this one of object's
unfoldable pub is_group : ℕ → ℕ → Group → Bool
is_group object number g = eqb g.object object && eqb g.number number

-- "in a group added if missing"
unfoldable pub with_group : ℕ → ℕ → List Group → List Group
with_group object number gs = pick any (is_group object number) gs then gs else insert group_before (empty_group object number) gs

-- "The unit's slot gets its checksum"
unfoldable pub set_slot : ℕ → ℕ → ℕ → List Group → List Group
set_slot object unit crc gs =
    map (λ g. pick is_group object (unit / group_units) g then set_checksum_slot g (unit % group_units) (some crc) else g)
    (with_group object (unit / group_units) gs)

-- the finished groups
unfoldable pub finished_groups : ℕ → List Rewritten → List Group → List Group
finished_groups object [] gs = gs
finished_groups object (r ∷ rs) gs = finished_groups object rs (set_slot object r.unit r.checksum gs)

-- ---- the cards

-- a card after a change to its file: the new size, the count and the time; W-205: "write and grow set only the first", the creation time stays
unfoldable pub changed_card : ℕ → ℕ → Time → Card → Card
changed_card size allocated time d =
    record { object = d.object; size = size; allocated = allocated; changed = time; created = d.created }

-- the finished cards
unfoldable pub finished_cards : Change → ℕ → Time → List Card → List Card
finished_cards c allocated time cs =
    map (λ d. pick eqb d.object c.object then changed_card c.new_size allocated time d else d) cs

-- ---- the maps and the image

-- all new blocks of the call
unfoldable pub new_blocks : List Rewritten → List ℕ
new_blocks rs = flat_map (λ r. r.new) rs

-- all superseded ones
unfoldable pub superseded_blocks : List Rewritten → List ℕ
superseded_blocks rs = flat_map (λ r. r.superseded) rs

-- a block of the image written, "zero past the valid length"
unfoldable pub write_block : List ℕ → ℕ → List ℕ → List ℕ
write_block image block bytes = patch image (block * block_bytes) (padded block_bytes bytes)

-- a unit's new blocks written, the i-th and those after it; what is kept stays as it is
unfoldable pub write_new : List ℕ → ℕ → List (Option ℕ) → List ℕ → List ℕ → List ℕ
write_new bytes i [] blocks image = image
write_new bytes i (k ∷ kept) [] image = image
write_new bytes i (some p ∷ kept) (b ∷ blocks) image = write_new bytes (suc i) kept blocks image
write_new bytes i (none ∷ kept) (b ∷ blocks) image =
    write_new bytes (suc i) kept blocks (write_block image b (part (i * block_bytes) block_bytes bytes))

-- "A new block is zero past the valid length; no other image byte changes."
unfoldable pub finished_image : List Rewritten → List ℕ → List ℕ
finished_image [] image = image
finished_image (r ∷ rs) image = finished_image rs (write_new r.bytes 0 r.kept r.blocks image)

-- the volume that a change leaves: "Superseded blocks become retired and stay used until settle"
unfoldable pub finished : Change → Time → List Rewritten → Progress → Volume → Volume
finished c time rs p v = remade (record {
  cards = finished_cards c p.allocated time v.books.cards;
  extents = finished_extents c.object rs v.books.extents;
  groups = finished_groups c.object rs v.books.groups;
}) (λ n. v.used n || member n (new_blocks rs)) (λ n. v.retired n || member n (superseded_blocks rs))
    (finished_image rs v.image) p.hint v
