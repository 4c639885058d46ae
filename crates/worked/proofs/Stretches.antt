-- Document 02, W-206: which parts hold data, whole calls computed by the checker on the store of `Run` and on copies of it. Every case gives the number,
-- the count and the whole buffer; that a look leaves the store is a law for every call.
-- Assumes nothing.
use mathlib.Core.Path.{◌≡◌, refl}
use mathlib.Core.List.{List, [], ◌∷◌, ◌++◌}
use mathlib.Core.Option.{some}
use Prim.Native.Nat.{ℕ, ◌*◌, ◌+◌}
use lib.ListN.{replicate}
use Rattle.rules.specs.Bytes.{le_digits}
use Rattle.rules.specs.Group.{Group, empty_group, set_checksum_slot}
use Rattle.rules.specs.Store.{Store}
use Rattle.rules.specs.Call.{call}
use Rattle.rules.specs.Call.Call.{look}
use Rattle.rules.specs.Call.Look.{data_stretches}
use Rattle.worked.proofs.Stores.{small, time, card, with_head, mapped, with_cards, with_groups, computed}
use Rattle.worked.proofs.ReadMany.{given, refused}

-- the stretches of an object's units from one on, into so many bytes of 77
pub listed : Store → (object first units room : ℕ) → ℕ × ℕ × List ℕ
listed s object first units room = given (call (look (data_stretches object first units (replicate room 77))) s)

-- a pair's bytes
pub pair : ℕ → ℕ → List ℕ
pair first units = le_digits 8 first ++ le_digits 8 units

-- file 7 with the bytes 1 2 9 9 5 0 0 0: one unit
pub one : Store
one = small 1 2

-- a group of file 7 with these slots present
pub group : ℕ → List ℕ → Group
group number [] = empty_group 7 number
group number (n ∷ ns) = set_checksum_slot (group number ns) n (some 5)

-- file 7 with so many bytes, of which the first block alone is there, and with slots for units 0, 1, 255, 256 and 258
pub wide : ℕ → Store
wide size = with_groups (group 0 (0 ∷ 1 ∷ 255 ∷ []) ∷ group 1 (0 ∷ 2 ∷ []) ∷ []) (with_cards (card size 1 12 13 ∷ []) (small 1 2))

-- file 8 beside file 7, a hole of this size
pub two : ℕ → Store
two size = with_cards (card 8 1 12 13 ∷ record { object = 8; size = size; allocated = 0; changed = time 1 1; created = time 1 1 } ∷ []) (small 1 2)

-- 300 units
abbrev pub long : ℕ
long = 300 * 65536

pub record Lists : Type 0 where
  -- a written unit is a stretch of one; what is behind its pair stays
  pub single : listed one 7 0 1 16 ≡ (0, 1, pair 0 1)
  pub rest : listed one 7 0 9 18 ≡ (0, 1, pair 0 1 ++ (77 ∷ 77 ∷ []))
  -- the range leaves it out, or has no unit: nothing is written, and no room is asked for
  pub outside : listed one 7 1 9 3 ≡ (0, 0, replicate 3 77)
  pub no-units : listed one 7 0 0 0 ≡ (0, 0, [])
  pub last-number : listed one 7 18446744073709551615 0 1 ≡ (0, 0, 77 ∷ [])
  -- a file that was only grown has none
  pub hole : listed (two 65537) 8 0 5 16 ≡ (0, 0, replicate 16 77)
  -- units 255 and 256 are one pair, though their slots stand in two groups; slots of units that lie past the end are in none
  pub across : listed (wide long) 7 254 5 40 ≡ (0, 2, pair 255 2 ++ pair 258 1 ++ replicate 8 77)
  pub past_end : listed (wide (256 * 65536)) 7 254 5 16 ≡ (0, 1, pair 255 1)
  pub last_byte : listed (wide (256 * 65536 + 1)) 7 254 5 16 ≡ (0, 1, pair 255 2)
  pub first-unit : listed (wide 8) 7 0 5 16 ≡ (0, 1, pair 0 1)
  -- cut where the range starts and where it ends
  pub cut-front : listed (wide long) 7 1 3 16 ≡ (0, 1, pair 1 1)
  pub cut-behind : listed (wide long) 7 0 1 16 ≡ (0, 1, pair 0 1)
  -- 19: "the output has no place for all pairs", and then not one is written
  pub short : listed one 7 0 1 15 ≡ refused 19 15
  pub short-two : listed (wide long) 7 254 5 31 ≡ refused 19 31
  -- "the range's first unit plus length passes 18,446,744,073,709,551,615"
  pub past-numbers : listed one 7 18446744073709551615 1 16 ≡ refused 19 16
  -- 3 before 19, and 1 and 2 before both: a head of 27 bytes, and a reserved block that is not used
  pub r3 : listed one 9 0 1 16 ≡ refused 3 16
  pub r3-19 : listed one 9 18446744073709551615 1 16 ≡ refused 3 16
  pub r3-none : listed one 9 0 0 0 ≡ refused 3 0
  pub r1-19 : listed (with_head (replicate 27 0) one) 9 18446744073709551615 1 1 ≡ refused 1 1
  pub r2-19 : listed (mapped 8 0 one) 9 18446744073709551615 1 1 ≡ refused 2 1

pub lists : Lists
unfolding computed given refused listed pair one group wide two
lists = record {
  single = refl;
  rest = refl;
  outside = refl;
  no-units = refl;
  last-number = refl;
  hole = refl;
  across = refl;
  past_end = refl;
  last_byte = refl;
  first-unit = refl;
  cut-front = refl;
  cut-behind = refl;
  short = refl;
  short-two = refl;
  past-numbers = refl;
  r3 = refl;
  r3-19 = refl;
  r3-none = refl;
  r1-19 = refl;
  r2-19 = refl;
}
