-- Document 02, W-201: many reads in one call, by computation of the definitions: what refuses the list, how a triple is read, which pairs of object
-- and unit are counted, which refusal wins, and what the plain arrays say of the buffer.
-- Assumes nothing.
use mathlib.Core.Path.{◌≡◌, refl}
use mathlib.Core.List.{List, [], ◌∷◌, ◌++◌}
use mathlib.Core.Bool.{true, false}
use mathlib.Core.Option.{none, some}
use Prim.Native.Nat.{ℕ, ◌*◌}
use lib.ListN.{replicate}
use Rattle.rules.specs.Lists.{range}
use Rattle.rules.specs.Head.{encode_head}
use Rattle.rules.specs.Store.{lent, Volume}
use Rattle.rules.specs.Refusal.{Outcome, number_of}
use Rattle.rules.specs.Refusal.Refusal.{no_card, checksum_differs, bad_reads}
use Rattle.rules.specs.Refusal.Outcome.{refuse, accept}
use Rattle.rules.specs.Triples.{Triple, decode_triple, decode_triples}
use Rattle.rules.specs.ReadMany.{Pair, reads_wrong, then_reads, pairs_of, different, units_touched}
use Rattle.rules.specs.Call.{call}
use Rattle.rules.specs.Call.Call.{look}
use Rattle.rules.specs.Call.Look.{read_many}
use Rattle.rules.specs.Plain.{File, plain_many}
use Rattle.rules.proofs.Opened.{opened}

-- a triple
unfoldable pub triple : ℕ → ℕ → ℕ → Triple
triple object offset len = record { object = object; offset = offset; len = len }

-- its bytes, for numbers below 256
unfoldable pub laid : ℕ → ℕ → ℕ → List ℕ
laid object offset len = (object ∷ replicate 7 0) ++ (offset ∷ replicate 7 0) ++ (len ∷ replicate 7 0)

-- the bytes of a read of 2^64 - 1 bytes, the most that a triple can ask for
unfoldable pub longest : List ℕ
longest = replicate 16 0 ++ replicate 8 255

-- a pair of object and unit
pub pair : ℕ → ℕ → Pair
pair object unit = record { object = object; unit = unit }

-- a volume that has one card, of file 7 with this size
pub sized : ℕ → Volume
sized size = record {
  uuid = [];
  blocks = 1;
  reserved = 0;
  hint = 0;
  books = record {
    cards = record { object = 7; size = size; allocated = 0; changed = record { seconds = 0; nanoseconds = 0 }; created = record { seconds = 0; nanoseconds = 0 } } ∷ [];
    extents = [];
    groups = [];
  };
  used = λ n. false;
  retired = λ n. false;
  image = [];
}

-- a read that is accepted with this answer and buffer; of the store nothing is asked here
pub gave : ℕ → List ℕ → Outcome
gave n out = accept n (lent [] [] [] [] [] [] []) out

-- the number that many reads give on a store of one block, with no card; the first byte of its used map is a parameter
pub number_on : ℕ → List ℕ → List ℕ → ℕ
number_on used list out =
    (call (look (read_many list out)) (lent (replicate 4096 0)
    (encode_head (record { uuid = replicate 16 0; blocks = 1; reserved = 0; hint = 0; cards = 0; extents = 0; groups = 0 })) [] [] []
    (used ∷ replicate 7 0) (replicate 8 0))).number

-- the plain arrays of files 7 and 8
pub files : List File
files = file 7 (1 ∷ 2 ∷ 3 ∷ []) ∷ file 8 (4 ∷ []) ∷ []
  where
    file : ℕ → List ℕ → File
    file object bytes = record { object = object; created = record { seconds = 0; nanoseconds = 0 }; bytes = bytes }

pub record Table : Type 0 where
  pub number : number_of bad_reads ≡ 17
  -- "not whole triples": a byte too few, and one too many; no triple at all is whole
  pub short : reads_wrong (replicate 23 0) [] ≡ true
  pub long : reads_wrong (replicate 25 0) [] ≡ true
  pub whole : reads_wrong (replicate 24 0) [] ≡ false
  pub empty : reads_wrong [] [] ≡ false
  -- "has more than 64": reads of no byte, so that nothing else is wrong
  pub most : reads_wrong (replicate (64 * 24) 0) [] ≡ false
  pub more : reads_wrong (replicate (65 * 24) 0) [] ≡ true
  -- "its lengths exceed the output": together, not each alone; they need not fill it
  pub equal : reads_wrong (laid 7 0 1 ++ laid 7 0 2) (0 ∷ 0 ∷ 0 ∷ []) ≡ false
  pub below : reads_wrong (laid 7 0 1 ++ laid 7 0 1) (0 ∷ 0 ∷ 0 ∷ []) ≡ false
  pub above : reads_wrong (laid 7 0 1 ++ laid 7 0 3) (0 ∷ 0 ∷ 0 ∷ []) ≡ true
  pub above-none : reads_wrong (laid 7 0 1) [] ≡ true
  -- the sum has no bound: the last two would be 0 and 1 in 64 bits, for which there is room
  pub longest-two : reads_wrong (longest ++ longest) (0 ∷ []) ≡ true
  pub longest-empty : reads_wrong (longest ++ longest) [] ≡ true
  pub longest-none : reads_wrong (longest ++ laid 7 0 1) [] ≡ true
  pub longest-one : reads_wrong (longest ++ laid 7 0 2) (0 ∷ []) ≡ true
  -- "(object, offset, length)", each "8 bytes [..], little-endian": 0x0807060504030201, 0x1817161514131211 and 0x2827262524232221
  pub decoded : decode_triple (range 1 8 ++ range 17 8 ++ range 33 8) ≡ triple 578437695752307201 1735880461161533969 2893323226570760737
  pub in_order : decode_triples (laid 7 1 2 ++ laid 8 3 4) ≡ triple 7 1 2 ∷ triple 8 3 4 ∷ []
  pub none-decoded : decode_triples [] ≡ []
  -- the pairs in which bytes lie: no byte, the last one of a unit, the first of the next, and both
  pub no_byte : pairs_of 7 65536 0 ≡ []
  pub last_byte : pairs_of 7 65535 1 ≡ pair 7 0 ∷ []
  pub next-byte : pairs_of 7 65536 1 ≡ pair 7 1 ∷ []
  pub across : pairs_of 7 65535 2 ≡ pair 7 0 ∷ pair 7 1 ∷ []
  -- "the number of different pairs": two equal ones; two with the unit alone in common, and with the object alone; one that comes again later
  pub no-pair : different [] ≡ 0
  pub same : different (pair 7 0 ∷ pair 7 0 ∷ []) ≡ 1
  pub two-objects : different (pair 7 0 ∷ pair 8 0 ∷ []) ≡ 2
  pub two-units : different (pair 7 0 ∷ pair 7 1 ∷ []) ≡ 2
  pub again : different (pair 7 0 ∷ pair 8 0 ∷ pair 7 0 ∷ []) ≡ 2
  pub thrice : different (pair 7 0 ∷ pair 7 0 ∷ pair 7 0 ∷ []) ≡ 1
  -- "that the reads touch (a byte handed out lies there [..])": up to the end, none at it or for no byte, and none where there is no card
  pub to_end : units_touched (sized 65537) (triple 7 65535 9 ∷ []) ≡ 2
  pub at-end : units_touched (sized 65536) (triple 7 65535 9 ∷ []) ≡ 1
  pub past_end : units_touched (sized 65536) (triple 7 65536 9 ∷ []) ≡ 0
  pub of-no-byte : units_touched (sized 65536) (triple 7 0 0 ∷ []) ≡ 0
  pub cardless : units_touched (sized 65536) (triple 9 0 1 ∷ []) ≡ 0
  pub overlapping : units_touched (sized 200000) (triple 7 0 65537 ∷ triple 7 65536 65537 ∷ triple 7 9 1 ∷ []) ≡ 3
  -- a read of 2 MiB gets the first MiB alone
  pub most-units : units_touched (sized 2097152) (triple 7 0 2097152 ∷ []) ≡ 16
  -- "The first read in list order that would be refused refuses the whole call."
  pub first-refused : then_reads (refuse checksum_differs) (refuse no_card) ≡ refuse checksum_differs
  pub refused-first : then_reads (refuse no_card) (gave 2 (5 ∷ 6 ∷ [])) ≡ refuse no_card
  pub refused-later : then_reads (gave 1 (4 ∷ [])) (refuse no_card) ≡ refuse no_card
  -- "pieces lie one after another in list order"; the answer is the whole call's, not a single read's
  pub accepted : then_reads (gave 1 (4 ∷ [])) (gave 2 (5 ∷ 6 ∷ [])) ≡ gave 2 (4 ∷ 5 ∷ 6 ∷ [])
  -- 17 is "tried after 2", for which a bit of the map is past the last block, and before 3, which a read of no byte gets too
  pub r2-17 : number_on 2 (0 ∷ []) [] ≡ 2
  pub r17-3 : number_on 0 (laid 9 0 1) [] ≡ 17
  pub r3-empty : number_on 0 (laid 9 0 0) [] ≡ 3
  pub none_read : number_on 0 [] [] ≡ 0
  -- the plain arrays' buffer: the pieces, what is behind them, the "unread rest", and an object that has no array
  pub plain-pieces : plain_many files (triple 8 0 1 ∷ triple 7 1 2 ∷ []) (91 ∷ 92 ∷ 93 ∷ 94 ∷ []) ≡ some (4 ∷ 2 ∷ 3 ∷ 94 ∷ [])
  pub plain-rest : plain_many files (triple 7 2 2 ∷ triple 8 0 1 ∷ []) (91 ∷ 92 ∷ 93 ∷ []) ≡ some (3 ∷ 92 ∷ 4 ∷ [])
  pub plain_end : plain_many files (triple 7 3 1 ∷ []) (91 ∷ []) ≡ some (91 ∷ [])
  pub plain-empty : plain_many files [] (91 ∷ []) ≡ some (91 ∷ [])
  pub plain-unknown : plain_many files (triple 7 0 1 ∷ triple 9 0 0 ∷ []) (91 ∷ []) ≡ none

pub cases : Table
unfolding opened triple laid longest pair sized gave number_on files
cases = record {
  number = refl;
  short = refl;
  long = refl;
  whole = refl;
  empty = refl;
  most = refl;
  more = refl;
  equal = refl;
  below = refl;
  above = refl;
  above-none = refl;
  longest-two = refl;
  longest-empty = refl;
  longest-none = refl;
  longest-one = refl;
  decoded = refl;
  in_order = refl;
  none-decoded = refl;
  no_byte = refl;
  last_byte = refl;
  next-byte = refl;
  across = refl;
  no-pair = refl;
  same = refl;
  two-objects = refl;
  two-units = refl;
  again = refl;
  thrice = refl;
  to_end = refl;
  at-end = refl;
  past_end = refl;
  of-no-byte = refl;
  cardless = refl;
  overlapping = refl;
  most-units = refl;
  first-refused = refl;
  refused-first = refl;
  refused-later = refl;
  accepted = refl;
  r2-17 = refl;
  r17-3 = refl;
  r3-empty = refl;
  none_read = refl;
  plain-pieces = refl;
  plain-rest = refl;
  plain_end = refl;
  plain-empty = refl;
  plain-unknown = refl;
}
