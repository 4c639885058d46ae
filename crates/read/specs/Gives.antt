-- What a read gives, refusals 1 and 2 past: the rules' read, told of the buffers that it looks into.
-- Assumes nothing.
use Rattle.std.specs.Prelude.{◌≡◌, List, ◌++◌, ℕ, ◌+◌, ◌-◌, ◌*◌, ◌/◌, ◌%◌, ◌≤◌, eqb, length, drop}
use Rattle.rules.specs.Lists.{pick◌then◌else◌, maybe, find, begun}
use Rattle.rules.specs.Sizes.{unit_bytes}
use Rattle.rules.specs.Bytes.{part}
use Rattle.rules.specs.Head.{head_bytes, decode_head}
use Rattle.rules.specs.Card.{card_bytes, decode_card}
use Rattle.rules.specs.Book.{decode_book}
use Rattle.rules.specs.Refusal.{number_of}
use Rattle.rules.specs.Refusal.Refusal.{no_card}
use Rattle.rules.specs.Read.{Checked, read_length}
use Rattle.rules.specs.Read.Checked.{failed, bytes}
use Rattle.read.specs.Range.{Readable, checked_range}

-- its number, its count, and its output buffer
pub record Gives : Type 0 where
  pub number : ℕ
  pub count : ℕ
  pub out : List ℕ

-- the three as one
abbrev pub gives : (number count : ℕ) (out : List ℕ) → Gives
gives number count out = record { number = number; count = count; out = out }

-- n bytes from a place of the checked ones on, at the head of the output buffer; a refused read leaves it
unfoldable pub gives_checked : ℕ → ℕ → List ℕ → Checked → Gives
gives_checked at n out (failed r) = gives (number_of r) 0 out
gives_checked at n out (bytes xs) = gives 0 n (part at n xs ++ drop n out)

-- the units of object's file that the n bytes from offset on touch, checked
unfoldable pub checked_units : (image uuid extents groups : List ℕ) (e g object size offset n : ℕ) → Checked
checked_units image uuid extents groups e g object size offset n =
    checked_range image uuid extents groups e g object size (offset / unit_bytes) (begun (offset + n) unit_bytes - offset / unit_bytes)

-- a read of a file of this size
unfoldable pub gives_sized : (image uuid extents groups : List ℕ) (e g object offset : ℕ) (out : List ℕ) (size : ℕ) → Gives
gives_sized image uuid extents groups e g object offset out size =
    pick eqb (read_length size offset (length out)) 0 then gives 0 0 out
    else gives_checked (offset % unit_bytes) (read_length size offset (length out)) out
    (checked_units image uuid extents groups e g object size offset (read_length size offset (length out)))

-- a read of object's file, after refusal 3
unfoldable pub gives_read : (image head cards extents groups : List ℕ) (object offset : ℕ) (out : List ℕ) → Gives
gives_read image head cards extents groups object offset out =
    maybe (gives (number_of no_card) 0 out)
    (λ c. gives_sized image (decode_head head).uuid extents groups (decode_head head).extents (decode_head head).groups object offset out c.size)
    (find (λ c. eqb c.object object) (decode_book decode_card card_bytes (decode_head head).cards cards))

-- a head and books in which a file of the image can be looked up
pub record ReadReady (image head cards extents groups : List ℕ) : Type 0 where
  pub width : length head ≡ head_bytes
  pub places : card_bytes * (decode_head head).cards ≤ length cards
  pub books : Readable image extents groups (decode_head head).extents (decode_head head).groups
