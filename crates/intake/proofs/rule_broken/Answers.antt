-- `intake::rule_broken` meets its contract: the books first, and where they keep the rules the maps.
-- Assumes nothing.
use mathlib.Core.Path.{◌∙◌}
use mathlib.Core.List.{[]}
use Rattle.format.specs.Records.{head_of}
use Rattle.intake.proofs.JoinLaws.{cards-here, extents-here, groups-here, sized-here, broken-books, whole-books, broken-maps}
use Rattle.intake.proofs.rule_broken.Goals as goal

pub decode_head-h-requires : goal.decode_head-h-requires
decode_head-h-requires c = c.requires.head_fits

pub books_broken-requires : goal.books_broken-requires
unfolding head_of
books_broken-requires c = let w = c.requires in let q = c.decode_head-h.ensures.0 in (cards-here [] _ _ _ _ _ _ _ q w, extents-here [] _ _ _ _ _ _ _ q w, groups-here [] _ _ _ _ _ _ _ q w)

pub returns-then-books_broken : goal.returns-then-books_broken
unfolding head_of
returns-then-books_broken c = c.if-books_broken.true ∙ broken-books [] _ _ _ _ _ _ _ c.decode_head-h.ensures.0 _ c.books_broken.ensures c.if-books_broken.true

pub maps_broken-requires : goal.maps_broken-requires
unfolding head_of
maps_broken-requires c = let w = c.requires in let q = c.decode_head-h.ensures.0 in record { maps_sized = sized-here [] _ _ _ _ _ _ _ q w; n_in_bounds = extents-here [] _ _ _ _ _ _ _ q w; extents_value = whole-books [] _ _ _ _ [] [] _ q _ c.books_broken.ensures c.if-books_broken.false }

pub returns-else-books_broken : goal.returns-else-books_broken
unfolding head_of
returns-else-books_broken c = broken-maps [] _ _ _ _ _ _ _ c.decode_head-h.ensures.0 _ _ c.books_broken.ensures c.if-books_broken.false c.maps_broken.ensures
