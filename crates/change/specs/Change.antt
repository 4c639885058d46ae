-- A change to a file as the calls write and grow make it: its units, and what is known before it is planned.
-- Assumes nothing.
use Rattle.std.specs.Prelude.{◌≡◌, true, false, List, [], ◌∷◌, ℕ, ◌*◌, ◌/◌, ◌^◌, ◌≤◌, ◌<◌, ltb, length, get_or}
use Rattle.std.proofs.Math.Option.{some}
use Rattle.rules.specs.Lists.{range, ascending}
use Rattle.rules.specs.Sizes.{unit_blocks, unit_bytes, most_allocated}
use Rattle.rules.specs.Head.{decode_head}
use Rattle.rules.specs.Card.{Card}
use Rattle.rules.specs.Store.{Store, StoreBytes, decode, card_of}
use Rattle.rules.specs.Refusal.{Result, result}
use Rattle.rules.specs.Units.{Change, touches, reads_old}
use Rattle.rules.specs.Rewrite.{rewrite_units}
use Rattle.rules.specs.Write.{carried_out}
use Rattle.rules.proofs.ListLaws.{Each}
use Rattle.rules.proofs.PassLaws.{Passes}
use Rattle.kept.specs.Change.{ChangeFits}
use Rattle.rewrite.specs.Answers.{from_card}
use Rattle.kept.specs.declared.Change as numbers
use Rattle.carry.specs.Carry.{change_of}

-- how a change's units lie in the file
pub data Lie (c : Change) (us : List ℕ) : Type 0 where
  -- one behind the other
  run : (f k : ℕ) → us ≡ range f k → Lie c us
  -- such, and before them the old tail unit, which is read and into which no written byte falls
  tailed : (f k : ℕ) → us ≡ c.old_size / unit_bytes ∷ range f k → reads_old c (c.old_size / unit_bytes) ≡ true → touches c (c.old_size / unit_bytes) ≡ false → Lie c us

-- the units of a change: each but the first is touched
pub record ChangeUnits (c : Change) (us : List ℕ) : Type 0 where
  pub few : length us ≤ 18
  pub order : ascending ltb us ≡ true
  pub within : Each (λ u. u * unit_bytes < c.new_size) us
  pub touched : (i : ℕ) → 0 < i → i < length us → touches c (get_or us i 0) ≡ true
  pub lie : Lie c us

-- a store that passes, the card of one of its files, and a change of that file
pub record ChangeReady (s : Store) (object : ℕ) (n : numbers.Change) (bytes : List ℕ) (allocated seconds nanoseconds : ℕ) (us : List ℕ) : Type 0 where
  pub passes : Passes s
  pub lent_bytes : StoreBytes s
  pub card : Card
  pub known : card_of (decode s) object ≡ some card
  pub size : card.size ≡ n.old_size
  pub count : card.allocated ≡ allocated
  pub most : allocated ≤ most_allocated
  pub long : n.len ≡ length bytes
  pub fits : ChangeFits n.old_size n.new_size n.offset n.len
  pub early : seconds < 2 ^ 63
  pub part : nanoseconds < 2 ^ 30
  pub units : ChangeUnits (change_of object n.old_size n.new_size n.offset bytes) us

-- the head's numbers of records, its hint and the uuid
pub record HeadSays (s : Store) (n m g hint : ℕ) (uuid : List ℕ) : Type 0 where
  pub cards : n ≡ (decode_head s.head).cards
  pub extents : m ≡ (decode_head s.head).extents
  pub groups : g ≡ (decode_head s.head).groups
  pub hint_is : hint ≡ (decode s).hint
  pub uuid_is : (decode s).uuid ≡ uuid

-- arrays for the plan of units: a slot for each, and sixteen entries in each of the others
pub record ArraysEach (us slots old kept blocks : List ℕ) : Type 0 where
  pub slot_each : length slots ≡ length us
  pub old_each : length old ≡ unit_blocks * length us
  pub kept_each : length kept ≡ unit_blocks * length us
  pub blocks_each : length blocks ≡ unit_blocks * length us

-- what becomes of it
abbrev pub changed : (limit : ℕ) (s : Store) (object : ℕ) (n : numbers.Change) (bytes : List ℕ) (allocated seconds nanoseconds : ℕ) (us : List ℕ) → Result
changed limit s object n bytes allocated seconds nanoseconds us =
    result s [] (carried_out 0 (change_of object n.old_size n.new_size n.offset bytes) (record { seconds = seconds; nanoseconds = nanoseconds }) s
    (rewrite_units limit (decode s) (change_of object n.old_size n.new_size n.offset bytes) us (from_card (decode s).hint allocated)))
