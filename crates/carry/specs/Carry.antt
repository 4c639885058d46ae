-- A change by its numbers, what is known of it once it is planned and before it is decided whether its books fit, and the plans that its arrays tell of.
-- Assumes nothing.
use Rattle.std.specs.Prelude.{◌≡◌, true, List, ℕ, ◌+◌, ◌*◌, ◌^◌, ◌≤◌, ◌<◌, ltb, length, get_or}
use Rattle.std.proofs.Math.Option.{some}
use Rattle.rules.specs.Lists.{ascending, begun}
use Rattle.rules.specs.Sizes.{block_bytes, unit_blocks, unit_bytes}
use Rattle.rules.specs.Card.{Card}
use Rattle.rules.specs.Head.{decode_head}
use Rattle.rules.specs.Store.{Store, StoreBytes, decode, card_of}
use Rattle.rules.specs.Units.{Change, valid_length}
use Rattle.rules.specs.Rewrite.{Progress, Plan}
use Rattle.rules.specs.Rewrite.Plan.{planned}
use Rattle.rules.proofs.ListLaws.{Each}
use Rattle.rules.proofs.PassLaws.{Passes}
use Rattle.mapping.specs.Entries.{extents_in}
use Rattle.kept.specs.Change.{ChangeFits}
use Rattle.rewrite.specs.Plan.{laid_units}
use Rattle.rewrite.specs.Arguments.{BlocksOf}
use Rattle.finish_units.specs.Carry.{CarriesFor}
use Rattle.finish_books.specs.Groups.{groups_in, UnitsRight}
use Rattle.finish_extents.specs.Stretch.{Planned}

-- the change of object's file with these numbers and bytes
abbrev pub change_of : (object before after start : ℕ) → List ℕ → Change
change_of object before after start bytes =
    record { object = object; old_size = before; new_size = after; offset = start; bytes = bytes }

-- a store that passes with these numbers of records, the card of one of its files, a change of it, and arrays that fit its units: each begins in the file as it
-- will be, the file has nothing between them, and every block that is named lies on the device
pub record CarryReady (s : Store) (n m g object before after start : ℕ) (bytes : List ℕ) (allocated seconds nanoseconds hint : ℕ) (us slots old kept blocks : List ℕ) : Type 0 where
  pub passes : Passes s
  pub lent_bytes : StoreBytes s
  pub cards : n ≡ (decode_head s.head).cards
  pub extents : m ≡ (decode_head s.head).extents
  pub groups : g ≡ (decode_head s.head).groups
  pub card : Card
  pub known : card_of (decode s) object ≡ some card
  pub fits : ChangeFits before after start (length bytes)
  pub count : allocated < 2 ^ 35
  pub early : seconds < 2 ^ 63
  pub part : nanoseconds < 2 ^ 30
  pub group : hint < 2 ^ 2
  pub few : length us ≤ 18
  pub order : ascending ltb us ≡ true
  pub within : Each (λ u. u * unit_bytes < after) us
  pub right : UnitsRight object (groups_in g s.groups) us
  pub clear : (bs : List ℕ) → 0 < length us → length bs ≤ unit_blocks * length us → Planned object us bs (extents_in m s.extents)
  pub slot_each : length slots ≡ length us
  pub old_each : length old ≡ unit_blocks * length us
  pub kept_each : length kept ≡ unit_blocks * length us
  pub blocks_each : length blocks ≡ unit_blocks * length us
  pub old_most : BlocksOf (decode s).blocks old
  pub below : (j i : ℕ) → j < length us → i < begun (valid_length after (get_or us j 0)) block_bytes → get_or blocks (unit_blocks * j + i) 0 < (decode s).blocks

-- the arrays tell of this change, and k is its plan
pub record CarryFor (limit : ℕ) (s : Store) (c : Change) (p : Progress) (k : Plan) (uuid : List ℕ) (object before after start : ℕ) (bytes : List ℕ) (allocated hint : ℕ)
    (us slots old kept blocks : List ℕ) : Type 0 where
  pub carries : CarriesFor limit (decode s) c s.image uuid object before after start bytes us slots old kept blocks
  pub plan : k ≡ planned (laid_units limit (decode s) c us blocks) p
  pub count_is : allocated ≡ p.allocated
  pub hint_is : hint ≡ p.hint
