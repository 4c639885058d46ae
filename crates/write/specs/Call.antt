-- What the calls write and grow are lent past refusals 1 and 2, the file that they change, and what they answer.
-- Assumes nothing.
use Rattle.std.specs.Prelude.{◌≡◌, Option, Some, None, List, [], ℕ, ◌+◌, ◌^◌, max, ◌≤◌, ◌<◌, length}
use Rattle.std.proofs.Math.Option.{none, some}
use Rattle.rules.specs.Lists.{find}
use Rattle.rules.specs.Sizes.{most_size, most_transfer, most_allocated, most_runs}
use Rattle.rules.specs.Head.{decode_head}
use Rattle.rules.specs.Card.{Card, card_bytes, decode_card}
use Rattle.rules.specs.Book.{decode_book}
use Rattle.rules.specs.Store.{Store, StoreBytes, decode}
use Rattle.rules.specs.Refusal.{Result, result}
use Rattle.rules.specs.Units.{Change, write_units, grow_units}
use Rattle.rules.specs.Rewrite.{rewrite_units}
use Rattle.rules.specs.Write.{carried_out}
use Rattle.rules.proofs.PassLaws.{Passes}
use Rattle.book.specs.Places.{card_is}
use Rattle.rewrite.specs.Answers.{from_card}
use Rattle.write.specs.declared.find.File.{File}

-- a store in seven buffers that passes refusals 1 and 2
pub record StoreReady (s : Store) : Type 0 where
  pub passes : Passes s
  pub lent_bytes : StoreBytes s

-- a number and a count, and the store that was left
abbrev pub answered : (number count : ℕ) (left : Store) → Result
answered number count left = record { number = number; count = count; store = left; out = [] }

-- ---- the file

-- a card with this size and this count of blocks, each within its width, stands for the object among the cards that the head counts
pub record CardThere (head cards : List ℕ) (object size allocated : ℕ) : Type 0 where
  pub card : Card
  pub found : find (card_is object) (decode_book decode_card card_bytes (decode_head head).cards cards) ≡ some card
  pub size_is : card.size ≡ size
  pub count_is : card.allocated ≡ allocated
  pub short : size ≤ most_size
  pub most : allocated ≤ most_allocated

-- what a search for an object's card says: that there is none, or its size and its count of blocks
unfoldable pub FileFound : (head cards : List ℕ) (object : ℕ) → Option File → Type 0
FileFound head cards object None = find (card_is object) (decode_book decode_card card_bytes (decode_head head).cards cards) ≡ none
FileFound head cards object (Some f) = CardThere head cards object f.size f.allocated

-- a file of a store that passes
pub record FileReady (s : Store) (object size allocated : ℕ) : Type 0 where
  pub ready : StoreReady s
  pub there : CardThere s.head s.cards object size allocated

-- ---- the change

-- what a write of bytes that are all taken does to a file of this size
abbrev pub write_of : (object size offset : ℕ) (bytes : List ℕ) → Change
write_of object size offset bytes =
    record { object = object; old_size = size; new_size = max size (offset + length bytes); offset = offset; bytes = bytes }

-- what a grow does to it
abbrev pub grow_of : (object old size : ℕ) → Change
grow_of object old size = record { object = object; old_size = old; new_size = size; offset = 0; bytes = [] }

-- what becomes of the first
abbrev pub written : (limit : ℕ) (s : Store) (object size allocated offset : ℕ) (bytes : List ℕ) (seconds nanoseconds : ℕ) → Result
written limit s object size allocated offset bytes seconds nanoseconds =
    result s [] (carried_out 0 (write_of object size offset bytes) (record { seconds = seconds; nanoseconds = nanoseconds }) s
    (rewrite_units limit (decode s) (write_of object size offset bytes) (write_units (write_of object size offset bytes)) (from_card (decode s).hint allocated)))

-- and of the second
abbrev pub grown : (s : Store) (object old allocated size seconds nanoseconds : ℕ) → Result
grown s object old allocated size seconds nanoseconds =
    result s [] (carried_out 0 (grow_of object old size) (record { seconds = seconds; nanoseconds = nanoseconds }) s
    (rewrite_units most_runs (decode s) (grow_of object old size) (grow_units (grow_of object old size)) (from_card (decode s).hint allocated)))

-- some bytes that a write takes all of, and that end in a file
pub record Taken (offset : ℕ) (bytes : List ℕ) : Type 0 where
  pub some' : 0 < length bytes
  pub few : length bytes ≤ most_transfer
  pub end : offset + length bytes ≤ most_size

-- a time that a card can have
pub record TimeFits (seconds nanoseconds : ℕ) : Type 0 where
  pub early : seconds < 2 ^ 63
  pub part : nanoseconds < 2 ^ 30
