-- Document 01, "Demand 3": a single claim about every list of calls on a store that fresh made, batches of writes among them. Stated here, proved in the crate `history`.
-- Assumes nothing.
use Rattle.std.specs.Prelude.{◌≡◌, true, false, ℕ, ◌+◌, ◌*◌, ◌≤◌, ◌<◌, eqb, ltb, length, drop}
use mathlib.Core.List.{List, [], ◌∷◌, ◌++◌, map, flat_map, Memᴰ}
use Rattle.std.proofs.Math.Option.{some}
use Rattle.rules.specs.Lists.{pick◌then◌else◌, range, any, count, member}
use Rattle.rules.specs.Sizes.{unit_bytes}
use Rattle.rules.specs.Bytes.{part, all_zero}
use Rattle.rules.specs.Card.{Card}
use Rattle.rules.specs.Extent.{Extent}
use Rattle.rules.specs.Book.{decode_book}
use Rattle.rules.specs.Store.{Store, StoreBytes, Volume, decode, image_blocks, created_of}
use Rattle.rules.specs.Refusal.{Result}
use Rattle.rules.specs.Triples.{decode_triples}
use Rattle.rules.specs.ReadMany.{different}
use Rattle.rules.specs.Stretches.{Stretch, stretch_bytes, decode_stretch, lies_in}
use Rattle.rules.specs.Call.{Call, InRange, call}
use Rattle.rules.specs.Call.Look.{read, read_many, data_stretches}
use Rattle.rules.specs.Call.Call.{fresh, enter, write, write_archive, grow, settle, look}
use Rattle.rules.specs.Act.{Act, ActInRange, act, act_refused, parts_done}
use Rattle.rules.specs.Act.Act.{whole, batch}
use Rattle.rules.specs.Stays.{StaysWithin, kept_runs}
use Rattle.rules.specs.Plain.{Fed, File, plain, file_bytes, file_created, plain_read, plain_many, plain_pairs}

-- ---- a list of calls

-- the store after the acts
unfoldable pub after_acts : List Act → Store → Store
after_acts [] s = s
after_acts (a ∷ acts) s = after_acts acts (act a s).store

-- what the plain arrays are fed of them
unfoldable pub fed : List Act → Store → List Fed
fed [] s = []
fed (a ∷ acts) s = record { act = a; refused = act_refused a s; done = parts_done a s } ∷ fed acts (act a s).store

-- the number that a fresh gives
unfoldable pub given_reserved : Call → ℕ → ℕ
given_reserved (fresh uuid reserved) n = reserved
given_reserved (enter object time) n = n
given_reserved (write object offset bytes time) n = n
given_reserved (write_archive object offset bytes time) n = n
given_reserved (grow object size time) n = n
given_reserved settle n = n
given_reserved (look l) n = n

-- a batch gives none
unfoldable pub act_reserved : Act → ℕ → ℕ
act_reserved (whole c) n = given_reserved c n
act_reserved (batch list bytes time) n = n

-- "the number given to the last accepted fresh", n before these calls
unfoldable pub last_reserved : List Fed → ℕ → ℕ
last_reserved [] n = n
last_reserved (f ∷ fs) n = last_reserved fs (pick f.refused then n else act_reserved f.act n)

-- every act of the list is in range
pub data AllInRange : List Act → Type 0 where
  none : AllInRange []
  one : {a : Act} {acts : List Act} → ActInRange a → AllInRange acts → AllInRange (a ∷ acts)

-- ---- places

-- "Place: object and logical block", and the block of the device that stands there
pub record Place : Type 0 where
  pub object : ℕ
  pub logical : ℕ
  pub block : ℕ

-- "an extent with logical l, physical p and count n puts block p + i at its object's place l + i, for each i below n"
unfoldable pub places_of : Extent → List Place
places_of e = map (λ i. record { object = e.object; logical = e.logical + i; block = e.physical + i }) (range 0 e.count)

-- the places of all files
unfoldable pub places : Volume → List Place
places v = flat_map places_of v.books.extents

-- a block's holders: being reserved, free, retired, and each place of each file that holds it, counted together
unfoldable pub holders : ℕ → Volume → ℕ → ℕ
holders reserved v b =
    (pick ltb b reserved then 1 else 0)
    + (pick v.used b then 0 else 1)
    + (pick v.retired b then 1 else 0)
    + count (λ p. eqb p.block b) (places v)

-- the places of an object's file
unfoldable pub file_places : Volume → ℕ → ℕ
file_places v object = count (λ p. eqb p.object object) (places v)

-- ---- the claim

-- what a read gave is what the plain array of its object has there, and the rest of its buffer is as it was
pub record PlainAnswer (files : List File) (object offset : ℕ) (out : List ℕ) (r : Result) : Type 0 where
  pub bytes : List ℕ
  pub known : file_bytes files object ≡ some bytes
  pub count : r.count ≡ length (plain_read bytes offset (length out))
  pub buffer : r.out ≡ plain_read bytes offset (length out) ++ drop r.count out

-- what the reads of a list gave in one call, its count and its whole buffer, is what the plain arrays say
pub record PlainAnswers (files : List File) (list out : List ℕ) (r : Result) : Type 0 where
  -- "the number of different pairs of object and unit that the reads touch"
  pub count : r.count ≡ different (flat_map (plain_pairs files) (decode_triples list))
  pub buffer : plain_many files (decode_triples list) out ≡ some r.out

-- the pairs that a list of stretches gave, read from its output buffer
unfoldable pub pairs_given : Result → List Stretch
pairs_given r = decode_book decode_stretch stretch_bytes r.count r.out

-- what a list of stretches gave, held against the plain array of its object: what lies in no pair can be skipped
pub record PlainStretches (files : List File) (object first units : ℕ) (r : Result) : Type 0 where
  pub bytes : List ℕ
  pub known : file_bytes files object ≡ some bytes
  -- W-206: "to skip holes": a unit of the range that lies in no pair is zeros there, as far as the array goes
  pub holes : (u : ℕ) → first ≤ u → u < first + units → any (lies_in u) (pairs_given r) ≡ false → all_zero (part (u * unit_bytes) unit_bytes bytes) ≡ true
  -- and one that lies in a pair is in the range and starts before the array's end
  pub within : (u : ℕ) → any (lies_in u) (pairs_given r) ≡ true → (first ≤ u) × (u < first + units) × (u * unit_bytes < length bytes)

-- the refusals that never come: "2, 9 to 12 and 14"
abbrev pub never_numbers : List ℕ
never_numbers = 2 ∷ 9 ∷ 10 ∷ 11 ∷ 12 ∷ 14 ∷ []

-- a store that calls left, the plain arrays after the same calls, and the number given to the last accepted fresh. Four clauses are the demand's
-- own, W-201's is the first of them for many reads, W-206's is about what no stretch lists, W-205's about the time on each card that no later call
-- sets, and W-207's about what a call keeps of a unit; plain arrays, places, reserved and retired are as document 01 defines them
pub record Sound (files : List File) (reserved : ℕ) (s : Store) : Type 0 where
  -- "reads give the plain array's bytes": every read that is accepted, from any place into any buffer
  pub reads : (object offset : ℕ) (out : List ℕ) → InRange (look (read object offset out)) → (call (look (read object offset out)) s).number ≡ 0
      → PlainAnswer files object offset out (call (look (read object offset out)) s)
  -- so many reads in one call, of any list into any buffer: the count and the whole buffer are what the plain arrays say
  pub reads_many : (list out : List ℕ) → InRange (look (read_many list out)) → (call (look (read_many list out)) s).number ≡ 0
      → PlainAnswers files list out (call (look (read_many list out)) s)
  -- every list of stretches that is accepted, of any range into any buffer, leaves out nothing but zeros
  pub stretches : (object first units : ℕ) (out : List ℕ) → InRange (look (data_stretches object first units out)) → (call (look (data_stretches object first units out)) s).number ≡ 0
      → PlainStretches files object first units (call (look (data_stretches object first units out)) s)
  -- "every block is in exactly one place": reserved, free, retired, or at one place of one file
  pub one_place : (b : ℕ) → b < image_blocks s → holders reserved (decode s) b ≡ 1
  -- "card counts are right": each card's allocated blocks are the places of its file
  pub counts : (c : Card) → Memᴰ c (decode s).books.cards → c.allocated ≡ file_places (decode s) c.object
  -- there is a card for each plain array and for nothing else, and it says when the file was entered, whatever was done to it since
  pub created : (object : ℕ) → created_of (decode s) object ≡ file_created files object
  -- W-207: every call that is accepted leaves each unit where it was, or what stays of it in no more runs than the call's limit
  pub stays : (c : Call) → InRange c → (call c s).number ≡ 0 → StaysWithin (kept_runs c) (decode s) (decode (call c s).store)
  -- "refusals 2, 9 to 12 and 14 never come": not to any call that could be the next, and no batch is stopped by one of them
  pub never : (a : Act) → ActInRange a → member (act a s).number never_numbers ≡ false

-- demand 3: for every store of bytes, every fresh accepted on it, and every list of calls
abbrev pub Demand3 : Type 0
Demand3 =
    (s : Store) → StoreBytes s
    → (uuid : List ℕ) (reserved : ℕ) → InRange (fresh uuid reserved) → (call (fresh uuid reserved) s).number ≡ 0
    → (acts : List Act) → AllInRange acts
    → Sound
    (plain (fed acts (call (fresh uuid reserved) s).store) [])
    (last_reserved (fed acts (call (fresh uuid reserved) s).store) reserved)
    (after_acts acts (call (fresh uuid reserved) s).store)
