-- Refusal 2: "A book or map (not for fresh) breaks a rule". Two tests, of the books and of the maps; each names its rules in document 01's order.
-- Those of the books ask for the books alone, and the number of blocks: some rules speak of the bytes of lent books l, others of their records b.
-- Assumes nothing.
use mathlib.Core.List.{List, [], ◌∷◌, flat_map}
use Rattle.std.specs.Prelude.{Bool, not, ◌&&◌, ◌||◌, ℕ, ◌+◌, ◌*◌, ◌-◌, eqb, ltb, leb, length}
use Rattle.rules.specs.Lists.{all, any, range, neighbours, ascending, begun}
use Rattle.rules.specs.Sizes.{block_bytes, nanoseconds_bound}
use Rattle.rules.specs.Bytes.{pieces, bit_set}
use Rattle.rules.specs.Head.{decode_head}
use Rattle.rules.specs.Card.{Card, card_bytes, card_spare_zero, card_before}
use Rattle.rules.specs.Extent.{Extent, extent_bytes, extent_fixed, extent_before, extent_end}
use Rattle.rules.specs.Group.{group_bytes, group_fixed, absent_zero, group_before}
use Rattle.rules.specs.Book.{Books, LentBooks, decode_books, zero_behind}
use Rattle.rules.specs.Store.{Store, Volume, decode, lent_books}
use Rattle.rules.specs.Refusal.{Case, ◌when◌}
use Rattle.rules.specs.Refusal.Refusal.{wrong_length, broken_rule}
use Rattle.rules.specs.Lengths.{length_wrong}

-- "order": ascending is strict, so that no key stands twice
unfoldable pub ordered : Books → Bool
ordered b = ascending card_before b.cards && ascending extent_before b.extents && ascending group_before b.groups

-- "zeros after the last record"
unfoldable pub packed : LentBooks → Bool
packed l =
    zero_behind card_bytes l.card_count l.cards
    && zero_behind extent_bytes l.extent_count l.extents
    && zero_behind group_bytes l.group_count l.groups

-- "fixed or spare bytes"
unfoldable pub fixed_right : LentBooks → Bool
fixed_right l =
    all card_spare_zero (pieces card_bytes l.card_count l.cards)
    && all extent_fixed (pieces extent_bytes l.extent_count l.extents)
    && all group_fixed (pieces group_bytes l.group_count l.groups)

-- a card's nanoseconds are fewer than a second has; W-205: "refusal 2 tests the new nanoseconds [..] too"
unfoldable pub card_times_right : Card → Bool
card_times_right c = ltb c.changed.nanoseconds nanoseconds_bound && ltb c.created.nanoseconds nanoseconds_bound

-- not: "nanoseconds 1,000,000,000 or more"
unfoldable pub times_right : Books → Bool
times_right b = all card_times_right b.cards

-- not: "an extent with count 0"
unfoldable pub none_empty : Books → Bool
none_empty b = all (λ e. ltb 0 e.count) b.extents

-- two neighbours in the book are not of one file, or the first ends where the second starts or before
unfoldable pub apart : Extent → Extent → Bool
apart e f = not (eqb e.object f.object) || leb (extent_end e) f.logical

-- not: "overlapping its neighbour in the file"
unfoldable pub no_overlap : Books → Bool
no_overlap b = neighbours apart b.extents

-- not: "past the device"
unfoldable pub on_device : ℕ → Books → Bool
on_device blocks b = all (λ e. leb (e.physical + e.count) blocks) b.extents

-- the extent lies within the blocks of its file's size, and the file has a card
unfoldable pub in_file : List Card → Extent → Bool
in_file cards e = any (λ c. eqb c.object e.object && leb (extent_end e) (begun c.size block_bytes)) cards

-- not: "past the blocks of its file's size, or without a card"
unfoldable pub in_files : Books → Bool
in_files b = all (in_file b.cards) b.extents

-- not: "a slot not present but not zero"
unfoldable pub slots_right : LentBooks → Bool
slots_right l = all absent_zero (pieces group_bytes l.group_count l.groups)

-- the rules on bytes
unfoldable pub bytes_keep_rules : LentBooks → Bool
bytes_keep_rules l = packed l && fixed_right l && slots_right l

-- the rules on records
unfoldable pub records_keep_rules : ℕ → Books → Bool
records_keep_rules blocks b = ordered b && times_right b && none_empty b && no_overlap b && on_device blocks b && in_files b

-- the books keep the rules
unfoldable pub books_keep_rules : ℕ → LentBooks → Bool
books_keep_rules blocks l = bytes_keep_rules l && records_keep_rules blocks (decode_books l)

-- the books break a rule
unfoldable pub books_broken : Store → Bool
books_broken s = not (books_keep_rules (decode_head s.head).blocks (lent_books (decode_head s.head) s))

-- the device's blocks that extents map, a block once for each place that it has
unfoldable pub mapped_blocks : List Extent → List ℕ
mapped_blocks es = flat_map (λ e. range e.physical e.count) es

-- not: "a mapped block not used"
unfoldable pub mapped_used : Volume → Bool
mapped_used v = all v.used (mapped_blocks v.books.extents)

-- not: "or retired"
unfoldable pub mapped_live : Volume → Bool
mapped_live v = all (λ n. not (v.retired n)) (mapped_blocks v.books.extents)

-- not: "or reserved"
unfoldable pub mapped_unreserved : Volume → Bool
mapped_unreserved v = all (leb v.reserved) (mapped_blocks v.books.extents)

-- the three
unfoldable pub mapped_right : Volume → Bool
mapped_right v = mapped_used v && mapped_live v && mapped_unreserved v

-- not: "a reserved block not used, or retired"
unfoldable pub reserved_right : Volume → Bool
reserved_right v = all (λ n. v.used n && not (v.retired n)) (range 0 v.reserved)

-- not: "a retired block not used"
unfoldable pub retired_right : Volume → Bool
retired_right v = all (λ n. not (v.retired n) || v.used n) (range 0 v.blocks)

-- not: "a bit past the last block"
unfoldable pub none_past : ℕ → List ℕ → Bool
none_past blocks map = all (λ n. not (bit_set map n)) (range blocks (8 * length map - blocks))

-- the maps keep the rules
unfoldable pub maps_keep_rules : Volume → Store → Bool
maps_keep_rules v s =
    mapped_right v
    && reserved_right v
    && retired_right v
    && (none_past v.blocks s.used && none_past v.blocks s.retired)

-- the maps break a rule
unfoldable pub maps_broken : Store → Bool
maps_broken s = not (maps_keep_rules (decode s) s)

-- the case of refusal 2
unfoldable pub rule_broken : Store → Bool
rule_broken s = books_broken s || maps_broken s

-- refusals 1 and 2, which every call but fresh tries first
unfoldable pub store_cases : Store → List Case
store_cases s = (wrong_length when length_wrong s) ∷ (broken_rule when rule_broken s) ∷ []
