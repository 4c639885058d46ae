-- The extents of a book that a change exchanges, and those that it puts in their place.
-- Assumes nothing.
use Rattle.std.specs.Prelude.{◌≡◌, Bool, true, false, ◌&&◌, ℕ, zero, suc, ◌+◌, ◌-◌, ◌*◌, ◌/◌, ◌%◌, ◌^◌, ◌≤◌, ◌<◌, min, eqb, ltb, leb, length, take, drop, get_or}
use mathlib.Core.List.{List, [], ◌∷◌, ◌++◌, map, flat_map}
use Rattle.std.proofs.Math.Option.{none}
use Rattle.rules.specs.Lists.{pick◌then◌else◌, all, member, range, neighbours, ascending}
use Rattle.rules.specs.Sizes.{unit_blocks}
use Rattle.rules.specs.Bytes.{pieces}
use Rattle.rules.specs.Extent.{Extent, extent_bytes, encode_extent, decode_extent, extent_fixed, extent_end, joins, mapping}
use Rattle.rules.specs.Book.{decode_book, zero_behind}
use Rattle.rules.specs.Rewrite.{Rewritten}
use Rattle.rules.specs.Finish.{up_to, part_from, attach, finished_extents}
use Rattle.book.specs.Places.{record_at}

-- ---- the units of a change

-- numbers of units, and all their blocks one after another, are those of rewritten units: each but the last has 16 blocks, and that has 1 to 16
pub record Describes (us bs : List ℕ) (rs : List Rewritten) : Type 0 where
  pub units : map (λ r. r.unit) rs ≡ us
  pub blocks : flat_map (λ r. r.blocks) rs ≡ bs
  pub full : neighbours (λ r t. eqb (length r.blocks) unit_blocks) rs ≡ true
  pub filled : all (λ r. ltb 0 (length r.blocks)) rs ≡ true
  pub most : all (λ r. leb (length r.blocks) unit_blocks) rs ≡ true

-- the file's block where the first unit starts
abbrev pub first_block : List ℕ → ℕ
first_block us = get_or us 0 0 * unit_blocks

-- the one where the last ends
abbrev pub end_block : List ℕ → ℕ
end_block us = (get_or us (length us - 1) 0 + 1) * unit_blocks

-- what the code is given of the units of a change to a file of object, and of what its extents have between the first and the last: nothing that is in no unit
pub record Planned (object : ℕ) (us bs : List ℕ) (es : List Extent) : Type 0 where
  pub some : 0 < length us
  pub few : length us ≤ 18
  pub fit : length bs ≤ unit_blocks * length us
  pub order : ascending ltb us ≡ true
  pub small : get_or us (length us - 1) 0 < 2 ^ 47
  pub clear : (b : ℕ) → first_block us ≤ b → b < end_block us → (mapping es object b ≡ none → ⊥) → member (b / unit_blocks) us ≡ true

-- each unit's number is such that its blocks are counted in 64 bits
abbrev pub Small : List ℕ → Type 0
Small us = (i : ℕ) → get_or us i 0 < 2 ^ 47

-- a block of the file of object as an extent of its own
unfoldable pub one_block : ℕ → ℕ → ℕ → Extent
one_block object logical block = record { object = object; logical = logical; physical = block; count = 1 }

-- block f of all of them as an extent of its own
unfoldable pub single_at : ℕ → List ℕ → List ℕ → ℕ → Extent
single_at object us bs f =
    record { object = object; logical = get_or us (f / unit_blocks) 0 * unit_blocks + f % unit_blocks; physical = get_or bs f 0; count = 1 }

-- the first n of them
unfoldable pub singles : ℕ → List ℕ → List ℕ → ℕ → List Extent
singles object us bs n = map (single_at object us bs) (range 0 n)

-- ---- joined from the left

-- extents before one more: the last of them and it are one where they join
unfoldable pub push : List Extent → Extent → List Extent
push es e = attach es (e ∷ [])

-- more of them, one by one
unfoldable pub push_all : List Extent → List Extent → List Extent
push_all es [] = es
push_all es (x ∷ xs) = push_all (push es x) xs

-- the first of a buffer's pieces are the bytes of these extents, and say them
pub record Made (count : ℕ) (made : List ℕ) (es : List Extent) : Type 0 where
  pub written : pieces extent_bytes count made ≡ map encode_extent es
  pub read : decode_book decode_extent extent_bytes count made ≡ es

-- the last of the extents in a buffer joins one more
unfoldable pub joins_last : ℕ → List ℕ → Extent → Bool
joins_last zero made e = false
joins_last (suc i) made e = joins (record_at decode_extent extent_bytes made i) e

-- whatever extents a buffer had, it has them with one more put behind them
abbrev pub Pushed : ℕ → List ℕ → Extent → ℕ → List ℕ → Type 0
Pushed n s e m t = (es : List Extent) → Made n s es → Made m t (push es e)

-- with many more
abbrev pub PushedAll : ℕ → List ℕ → List Extent → ℕ → List ℕ → Type 0
PushedAll n s xs m t = (es : List Extent) → Made n s es → Made m t (push_all es xs)

-- ---- what is left at the two ends

-- an extent's part before a block of the file of object; one of another file is left whole
unfoldable pub before : ℕ → ℕ → Extent → Extent
before object block e = pick eqb e.object object then up_to e (min (extent_end e) block) else e

-- an extent's part from a block of the file of object on, if there is one
unfoldable pub rest : ℕ → ℕ → Extent → List Extent
rest object block e = pick eqb e.object object then part_from e block else []

-- an extent is of the file of object and ends behind a block of it
unfoldable pub reaches_past : ℕ → ℕ → Extent → Bool
reaches_past object block e = eqb e.object object && ltb block (extent_end e)

-- an extent of nothing, which stands for one that a book does not have
abbrev pub blank : Extent
blank = record { object = 0; logical = 0; physical = 0; count = 0 }

-- what the extent in front of place i has before the block; nothing where there is none
unfoldable pub left_of : ℕ → ℕ → List Extent → ℕ → List Extent
left_of object block es zero = []
left_of object block es (suc i) = before object block (get_or es i blank) ∷ []

-- what it has from the block on
unfoldable pub rest_of : ℕ → ℕ → List Extent → ℕ → List Extent
rest_of object block es zero = []
rest_of object block es (suc i) = rest object block (get_or es i blank)

-- the extent in front of place i is of the file of object and ends behind the block
unfoldable pub reaches_at : ℕ → ℕ → List Extent → ℕ → Bool
reaches_at object block es zero = false
reaches_at object block es (suc i) = reaches_past object block (get_or es i blank)

-- extents told as one at most, and those of a book from place k on
pub record Tail (xs es : List Extent) (k : ℕ) (right : List Extent) : Type 0 where
  pub parts : xs ≡ right ++ drop k es
  pub ended : length right ≡ 0 → drop k es ≡ []
  pub one : length right ≤ 1

-- a buffer has extents with that one put behind them
pub record Behind (xs es ms : List Extent) (count : ℕ) (made : List ℕ) (k : ℕ) : Type 0 where
  pub right : List Extent
  pub tail : Tail xs es k right
  pub held : Made count made (attach ms right)

-- whatever extents it had
abbrev pub Closes : List Extent → List Extent → ℕ → List ℕ → ℕ → List ℕ → ℕ → Type 0
Closes xs es n s m t k = (ms : List Extent) → Made n s ms → Behind xs es ms m t k

-- ---- the exchange

-- the first pieces of a buffer are the bytes of the extents that they say
abbrev pub Written : ℕ → List ℕ → Type 0
Written count made = pieces extent_bytes count made ≡ map encode_extent (decode_book decode_extent extent_bytes count made)

-- the finished extents of any units so described are those of the book with what a buffer has in place of those from one place up to another
pub record Finished (object : ℕ) (us bs : List ℕ) (es : List Extent) (place next count : ℕ) (made : List ℕ) : Type 0 where
  pub written : Written count made
  pub finished : (rs : List Rewritten) → Describes us bs rs → finished_extents object rs es ≡ take place es ++ decode_book decode_extent extent_bytes count made ++ drop next es

-- a book whose bytes say its n extents and nothing else: the fixed bytes of each are right, and zeros stand behind the last
pub record WholeBook (n : ℕ) (book : List ℕ) : Type 0 where
  pub places : extent_bytes * n ≤ length book
  pub zeros : zero_behind extent_bytes n book ≡ true
  pub records : all extent_fixed (pieces extent_bytes n book) ≡ true
