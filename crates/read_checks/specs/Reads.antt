-- Many reads, told of the buffers that they look into: the number that refuses each of them, and the units that they touch.
-- Assumes nothing.
use Rattle.std.specs.Prelude.{◌≡◌, not, ℕ, ◌+◌, eqb, get_or}
use mathlib.Core.List.{List, [], ◌∷◌, flat_map}
use Rattle.std.proofs.Math.Option.{Option, some}
use Rattle.rules.specs.Lists.{pick◌then◌else◌, maybe, any, find, count, range}
use Rattle.rules.specs.Head.{decode_head}
use Rattle.rules.specs.Card.{Card, card_bytes, decode_card}
use Rattle.rules.specs.Book.{decode_book}
use Rattle.rules.specs.Refusal.{number_of}
use Rattle.rules.specs.Refusal.Refusal.{no_card}
use Rattle.rules.specs.Units.{units_of}
use Rattle.rules.specs.Read.{read_length}
use Rattle.rules.specs.Answers.{checked_number}
use Rattle.rules.specs.Triples.{Triple}
use Rattle.rules.specs.ReadMany.{Pair, pairs_of, same_pair}
use Rattle.triples.specs.Triple.{triple_at}
use Rattle.read.specs.Range.{checked_range}

-- the buffers that a unit is looked up in
pub record Looked : Type 0 where
  pub image : List ℕ
  pub head : List ℕ
  pub extents : List ℕ
  pub groups : List ℕ

-- the four as one
abbrev pub looked : (image head extents groups : List ℕ) → Looked
looked image head extents groups = record { image = image; head = head; extents = extents; groups = groups }

-- the first number that is not 0, or 0
unfoldable pub first_number : {A : Type 0} → (A → ℕ) → List A → ℕ
first_number f [] = 0
first_number f (x ∷ xs) = pick eqb (f x) 0 then first_number f xs else f x

-- the number that refuses a unit of object's file of this size, 9 to 12, or 0
unfoldable pub unit_number : Looked → (object size unit : ℕ) → ℕ
unit_number b object size unit =
    checked_number (checked_range b.image (decode_head b.head).uuid b.extents b.groups (decode_head b.head).extents (decode_head b.head).groups object size unit 1)

-- the units that a read of a file of this size touches
unfoldable pub units_read : Triple → ℕ → List ℕ
units_read t size = units_of t.offset (t.offset + read_length size t.offset t.len)

-- the same with their object
unfoldable pub pairs_read : Triple → ℕ → List Pair
pairs_read t size = pairs_of t.object t.offset (read_length size t.offset t.len)

-- the number that refuses the read
unfoldable pub sized_number : Looked → Triple → ℕ → ℕ
sized_number b t size = first_number (unit_number b t.object size) (units_read t size)

-- the card of an object, as the head counts them
unfoldable pub card_in : (head cards : List ℕ) → ℕ → Option Card
card_in head cards object = find (λ c. eqb c.object object) (decode_book decode_card card_bytes (decode_head head).cards cards)

-- refusal 3, or the number of the read
unfoldable pub read_number : Looked → List ℕ → Triple → ℕ
read_number b cards t = maybe (number_of no_card) (λ c. sized_number b t c.size) (card_in b.head cards t.object)

-- the pairs that the read touches, none where there is no card
unfoldable pub pairs_touched : (head cards : List ℕ) → Triple → List Pair
pairs_touched head cards t = maybe [] (λ c. pairs_read t c.size) (card_in head cards t.object)

-- ---- the reads before one of a list, the sizes of whose files have been noted

-- a unit of object's file
abbrev pub pair_is : (object unit : ℕ) → Pair
pair_is object unit = record { object = object; unit = unit }

-- the pairs that the first i reads touch
unfoldable pub pairs_before : (list sizes : List ℕ) → ℕ → List Pair
pairs_before list sizes i = flat_map (λ j. pairs_read (triple_at list j) (get_or sizes j 0)) (range 0 i)

-- how many of some units of object's file are in none of these pairs
unfoldable pub new_units : List Pair → ℕ → List ℕ → ℕ
new_units ps object us = count (λ u. not (any (same_pair (pair_is object u)) ps)) us

-- the size of a read's file
pub record SizeIs (head cards : List ℕ) (t : Triple) (n : ℕ) : Type 0 where
  pub card : Card
  pub found : card_in head cards t.object ≡ some card
  pub size : n ≡ card.size
