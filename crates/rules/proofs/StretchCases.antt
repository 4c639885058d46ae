-- Document 02, W-206: which parts hold data, by computation of the definitions: which units hold data, what makes a stretch, where it is cut, what 19
-- refuses, which refusal wins, and how a pair is laid down.
-- Assumes nothing.
use mathlib.Core.Path.{◌≡◌, refl}
use mathlib.Core.List.{List, [], ◌∷◌, ◌++◌}
use mathlib.Core.Bool.{true, false}
use mathlib.Core.Option.{some}
use Prim.Native.Nat.{ℕ, ◌*◌, ◌+◌}
use lib.ListN.{replicate}
use Rattle.rules.specs.Sizes.{unit_bytes}
use Rattle.rules.specs.Head.{encode_head}
use Rattle.rules.specs.Card.{Card}
use Rattle.rules.specs.Group.{Group, empty_group, set_checksum_slot}
use Rattle.rules.specs.Store.{lent, Volume}
use Rattle.rules.specs.Refusal.{number_of}
use Rattle.rules.specs.Refusal.Refusal.{bad_range}
use Rattle.rules.specs.Stretches.{Stretch, holds_data, stretches, stretches_of, encode_stretch, decode_stretch, most_number, range_wrong}
use Rattle.rules.specs.Call.{call}
use Rattle.rules.specs.Call.Call.{look}
use Rattle.rules.specs.Call.Look.{data_stretches}
use Rattle.rules.proofs.Opened.{opened}

-- a stretch
abbrev pub pair : ℕ → ℕ → Stretch
pair first units = record { first = first; units = units }

-- a group of an object with these slots present; their checksums are 0, which is one as good as any
pub group : ℕ → ℕ → List ℕ → Group
group object number [] = empty_group object number
group object number (n ∷ ns) = set_checksum_slot (group object number ns) n (some 0)

-- the card of file 7 with this size
pub card : ℕ → Card
card size = record { object = 7; size = size; allocated = 0; changed = record { seconds = 0; nanoseconds = 0 }; created = record { seconds = 0; nanoseconds = 0 } }

-- a volume that has these groups
pub slotted : List Group → Volume
slotted groups = record {
  uuid = [];
  blocks = 1;
  reserved = 0;
  hint = 0;
  books = record { cards = []; extents = []; groups = groups };
  used = λ n. false;
  retired = λ n. false;
  image = [];
}

-- slots 3, 4 and 255 of group 0, and 0 and 2 of group 1: units 3, 4, 255, 256 and 258
pub two : Volume
two = slotted (group 7 0 (3 ∷ 4 ∷ 255 ∷ []) ∷ group 7 1 (0 ∷ 2 ∷ []) ∷ [])

-- the stretches of file 7 there, where it has so many units and bytes more
pub listed : (units bytes first n : ℕ) → List Stretch
listed units bytes first n = stretches_of two (card (units * unit_bytes + bytes)) first n

-- the number that a list of stretches gives on a store of one block, with no card; the first byte of its used map is a parameter
pub number_on : ℕ → ℕ → ℕ → List ℕ → ℕ
number_on used first units out =
    (call (look (data_stretches 9 first units out)) (lent (replicate 4096 0)
    (encode_head (record { uuid = replicate 16 0; blocks = 1; reserved = 0; hint = 0; cards = 0; extents = 0; groups = 0 })) [] [] []
    (used ∷ replicate 7 0) (replicate 8 0))).number

pub record Table : Type 0 where
  pub number : number_of bad_range ≡ 19
  -- "each maximal stretch of consecutive units"
  pub none : stretches [] ≡ []
  pub one : stretches (5 ∷ []) ≡ pair 5 1 ∷ []
  pub joined : stretches (5 ∷ 6 ∷ 7 ∷ []) ≡ pair 5 3 ∷ []
  pub gap : stretches (5 ∷ 7 ∷ []) ≡ pair 5 1 ∷ pair 7 1 ∷ []
  pub both : stretches (0 ∷ 1 ∷ 3 ∷ 4 ∷ 5 ∷ 9 ∷ []) ≡ pair 0 2 ∷ pair 3 3 ∷ pair 9 1 ∷ []
  -- "with a slot that starts before the file's end": a checksum of 0 is one; another file's slot is none; the end is a unit's first byte or the one behind
  pub has-slot : holds_data two (card (10 * unit_bytes)) 3 ≡ true
  pub has-none : holds_data two (card (10 * unit_bytes)) 2 ≡ false
  pub other-file : holds_data (slotted (group 8 0 (3 ∷ []) ∷ [])) (card (10 * unit_bytes)) 3 ≡ false
  pub at-end : holds_data two (card (3 * unit_bytes)) 3 ≡ false
  pub before-end : holds_data two (card (3 * unit_bytes + 1)) 3 ≡ true
  -- units 255 and 256 stand in two groups and are one stretch
  pub across : listed 300 0 254 6 ≡ pair 255 2 ∷ pair 258 1 ∷ []
  pub first_group : listed 300 0 0 6 ≡ pair 3 2 ∷ []
  -- "no other unit lies in any": cut where the range starts, where it ends, and at both
  pub cut-front : listed 300 0 256 2 ≡ pair 256 1 ∷ []
  pub cut-behind : listed 300 0 250 6 ≡ pair 255 1 ∷ []
  pub cut-both : listed 300 0 4 1 ≡ pair 4 1 ∷ []
  pub no-units : listed 300 0 3 0 ≡ []
  -- and where the file ends: in the middle of a stretch, and before all of it
  pub cut-end : listed 256 0 250 10 ≡ pair 255 1 ∷ []
  pub last_byte : listed 256 1 250 10 ≡ pair 255 2 ∷ []
  pub all_past : listed 3 0 0 10 ≡ []
  -- "when the range's first unit plus length passes 18,446,744,073,709,551,615": a sum without a bound
  pub most-none : range_wrong most_number 0 [] [] ≡ false
  pub most-one : range_wrong most_number 1 [] [] ≡ true
  pub one-most : range_wrong 1 most_number [] [] ≡ true
  pub zero-most : range_wrong 0 most_number [] [] ≡ false
  pub twice_most : range_wrong most_number most_number [] [] ≡ true
  -- "or the output has no place for all pairs": 16 bytes each, more may be there
  pub room-none : range_wrong 0 9 [] [] ≡ false
  pub room-short : range_wrong 0 9 (pair 3 2 ∷ []) (replicate 15 0) ≡ true
  pub room-just : range_wrong 0 9 (pair 3 2 ∷ []) (replicate 16 0) ≡ false
  pub room-more : range_wrong 0 9 (pair 3 2 ∷ []) (replicate 17 0) ≡ false
  pub room-two : range_wrong 0 9 (pair 3 2 ∷ pair 7 1 ∷ []) (replicate 31 0) ≡ true
  -- "pairs of 64-bit numbers, first unit and number of units", least significant byte first: 513 and 772
  pub laid : encode_stretch (pair 513 772) ≡ (1 ∷ 2 ∷ replicate 6 0) ++ (4 ∷ 3 ∷ replicate 6 0)
  pub back : decode_stretch ((1 ∷ 2 ∷ replicate 6 0) ++ (4 ∷ 3 ∷ replicate 6 0)) ≡ pair 513 772
  -- 19 is "tried after 3", and "Refusals 1 to 3 apply first": 2 for a bit of the map past the last block
  pub r2-3 : number_on 2 0 1 [] ≡ 2
  pub r2-19 : number_on 2 most_number 1 [] ≡ 2
  pub r3-19 : number_on 0 most_number 1 [] ≡ 3
  pub r3 : number_on 0 0 1 [] ≡ 3

pub cases : Table
unfolding opened group card slotted two listed number_on
cases = record {
  number = refl;
  none = refl;
  one = refl;
  joined = refl;
  gap = refl;
  both = refl;
  has-slot = refl;
  has-none = refl;
  other-file = refl;
  at-end = refl;
  before-end = refl;
  across = refl;
  first_group = refl;
  cut-front = refl;
  cut-behind = refl;
  cut-both = refl;
  no-units = refl;
  cut-end = refl;
  last_byte = refl;
  all_past = refl;
  most-none = refl;
  most-one = refl;
  one-most = refl;
  zero-most = refl;
  twice_most = refl;
  room-none = refl;
  room-short = refl;
  room-just = refl;
  room-more = refl;
  room-two = refl;
  laid = refl;
  back = refl;
  r2-3 = refl;
  r2-19 = refl;
  r3-19 = refl;
  r3 = refl;
}
