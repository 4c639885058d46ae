-- What a list of stretches gives, refusals 1 and 2 past: the rules' list, told of the buffers that it looks into.
-- Assumes nothing.
use Rattle.std.specs.Prelude.{◌≡◌, Bool, ◌&&◌, ℕ, ◌*◌, ◌≤◌, eqb, ltb, length, drop}
use mathlib.Core.List.{List, ◌++◌, flat_map}
use Rattle.rules.specs.Lists.{pick◌then◌else◌, maybe, find, filter, range}
use Rattle.rules.specs.Sizes.{unit_bytes}
use Rattle.rules.specs.Head.{head_bytes, decode_head}
use Rattle.rules.specs.Card.{card_bytes, decode_card}
use Rattle.rules.specs.Group.{Group}
use Rattle.rules.specs.Book.{decode_book}
use Rattle.rules.specs.Refusal.{number_of}
use Rattle.rules.specs.Refusal.Refusal.{no_card, bad_range}
use Rattle.rules.specs.Stretches.{Stretch, stretches, stretch_bytes, encode_stretch, range_wrong}
use Rattle.read.specs.Gives.{Gives, gives}
use Rattle.presence.specs.Units.{GroupsRight, groups_in, slotted}

-- a unit of a file of this size has a slot in the groups and starts before the end
unfoldable pub holds : List Group → (object size unit : ℕ) → Bool
holds gs object size unit = slotted gs object unit && ltb (unit * unit_bytes) size

-- the stretches of such units in a range
unfoldable pub stretches_in : List Group → (object size first units : ℕ) → List Stretch
stretches_in gs object size first units = stretches (filter (holds gs object size) (range first units))

-- the list of these stretches, after refusal 19
unfoldable pub lists_pairs : (first units : ℕ) → List ℕ → List Stretch → Gives
lists_pairs first units out rs =
    pick range_wrong first units rs out then gives (number_of bad_range) 0 out
    else gives 0 (length rs) (flat_map encode_stretch rs ++ drop (stretch_bytes * length rs) out)

-- that of a file of this size
abbrev pub lists_file : List Group → (object first units : ℕ) (out : List ℕ) (size : ℕ) → Gives
lists_file gs object first units out size = lists_pairs first units out (stretches_in gs object size first units)

-- that of object's file, after refusal 3
unfoldable pub lists_object : (head cards groups : List ℕ) (object first units : ℕ) (out : List ℕ) → Gives
lists_object head cards groups object first units out =
    maybe (gives (number_of no_card) 0 out) (λ c. lists_file (groups_in (decode_head head).groups groups) object first units out c.size)
    (find (λ c. eqb c.object object) (decode_book decode_card card_bytes (decode_head head).cards cards))

-- a head and books in which a file's slots can be looked up
pub record ListReady (head cards groups : List ℕ) : Type 0 where
  pub width : length head ≡ head_bytes
  pub places : card_bytes * (decode_head head).cards ≤ length cards
  pub right : GroupsRight (decode_head head).groups groups
