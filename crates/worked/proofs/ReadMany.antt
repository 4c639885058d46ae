-- Document 02, W-201: many reads in one call, whole calls computed by the checker on the store of `Run` and on copies of it. Every case gives the
-- number, the count and the whole buffer; that a look leaves the store is a law for every call.
-- Assumes nothing.
use mathlib.Core.Path.{◌≡◌, refl}
use mathlib.Core.List.{List, [], ◌∷◌, ◌++◌}
use Prim.Native.Nat.{ℕ, ◌*◌}
use lib.ListN.{replicate}
use Rattle.rules.specs.Bytes.{le_digits}
use Rattle.rules.specs.Store.{Store}
use Rattle.rules.specs.Refusal.{Result}
use Rattle.rules.specs.Call.{call}
use Rattle.rules.specs.Call.Call.{look}
use Rattle.rules.specs.Call.Look.{read_many}
use Rattle.worked.proofs.Stores.{small, time, card, with_head, mapped, image_byte, with_cards, computed}

-- a triple's bytes
unfoldable pub triple : ℕ → ℕ → ℕ → List ℕ
triple object offset len = le_digits 8 object ++ le_digits 8 offset ++ le_digits 8 len

-- a call's number, its count and the buffer that it leaves
unfoldable pub given : Result → ℕ × ℕ × List ℕ
given r = (r.number, r.count, r.out)

-- many reads into so many bytes of 77
pub reads : Store → List ℕ → ℕ → ℕ × ℕ × List ℕ
reads s list room = given (call (look (read_many list (replicate room 77))) s)

-- refused with this number: the count is 0, and the buffer is as it was lent
unfoldable pub refused : ℕ → ℕ → ℕ × ℕ × List ℕ
refused number room = (number, 0, replicate room 77)

-- file 7 with the bytes 1 2 9 9 5 0 0 0
pub one : Store
one = small 1 2

-- beside it file 8, a hole of this size
pub two : ℕ → Store
two size = with_cards (card 8 1 12 13 ∷ record { object = 8; size = size; allocated = 0; changed = time 1 1; created = time 1 1 } ∷ []) (small 1 2)

-- with a byte of file 7 changed, so that its checksum differs
pub damaged : Store
damaged = image_byte (3 * 4096) 0 (two 5)

pub record Reads : Type 0 where
  -- an empty list is accepted: no pair, and no byte
  pub empty : reads one [] 1 ≡ (0, 0, 77 ∷ [])
  -- one read, as `Run` has it: "what a single read into a buffer of that length gives"
  pub single : reads one (triple 7 4 6) 6 ≡ (0, 1, 5 ∷ 0 ∷ 0 ∷ 0 ∷ 77 ∷ 77 ∷ [])
  -- two reads in one unit are one pair; what is behind the pieces stays
  pub one_unit : reads one (triple 7 3 2 ++ triple 7 0 2) 6 ≡ (0, 1, 9 ∷ 5 ∷ 1 ∷ 2 ∷ 77 ∷ 77 ∷ [])
  -- "its unread rest is unchanged": the next piece begins behind it
  pub rest : reads one (triple 7 6 3 ++ triple 7 0 1) 5 ≡ (0, 1, 0 ∷ 0 ∷ 77 ∷ 1 ∷ 77 ∷ [])
  -- no byte is handed out at the end, past it, or for no length: no pair; the last byte is one
  pub none-touched : reads one (triple 7 8 1 ++ triple 7 9 1 ++ triple 7 18446744073709551615 1 ++ triple 7 0 0) 4 ≡ (0, 0, 77 ∷ 77 ∷ 77 ∷ 77 ∷ [])
  pub last : reads one (triple 7 7 1) 1 ≡ (0, 1, 0 ∷ [])
  -- a hole counts, and the same unit of two objects is two pairs
  pub hole : reads (two 5) (triple 8 3 9) 9 ≡ (0, 1, 0 ∷ 0 ∷ replicate 7 77)
  pub two-objects : reads (two 5) (triple 7 0 1 ++ triple 8 0 1 ++ triple 7 4 1) 3 ≡ (0, 2, 1 ∷ 0 ∷ 5 ∷ [])
  -- two units of one object are two pairs, each counted once
  pub two-units : reads (two 65537) (triple 8 65535 9 ++ triple 8 0 1 ++ triple 8 65536 1) 11 ≡ (0, 2, 0 ∷ 0 ∷ replicate 7 77 ++ (0 ∷ 0 ∷ []))
  -- 3 refuses the whole call, and the piece before it is not written; it is tried for a read of no byte too
  pub r3 : reads one (triple 7 0 2 ++ triple 9 0 2) 4 ≡ refused 3 4
  pub r3-first : reads one (triple 9 0 2 ++ triple 7 0 2) 4 ≡ refused 3 4
  pub r3-empty : reads one (triple 9 0 0) 1 ≡ refused 3 1
  pub r3-object : reads one (triple 18446744073709551615 0 1) 1 ≡ refused 3 1
  -- 12 likewise, where a byte of the unit is wanted; else it is not tried
  pub r12 : reads damaged (triple 8 0 1 ++ triple 7 4 1) 2 ≡ refused 12 2
  pub not-tried : reads damaged (triple 8 0 1 ++ triple 7 8 1 ++ triple 7 0 0) 2 ≡ (0, 1, 0 ∷ 77 ∷ [])
  -- "The first read in list order that would be refused": not the first by number
  pub r12-3 : reads damaged (triple 7 0 1 ++ triple 9 0 1) 2 ≡ refused 12 2
  pub r3-12 : reads damaged (triple 9 0 1 ++ triple 7 0 1) 2 ≡ refused 3 2
  -- 17 before 3: not whole triples, over 64, and lengths that exceed the output
  pub r17-bytes : reads one (triple 9 0 0 ++ (0 ∷ [])) 1 ≡ refused 17 1
  pub r17-most : reads one (triple 9 0 0 ++ replicate (64 * 24) 0) 1 ≡ refused 17 1
  pub r17-lengths : reads one (triple 9 0 1 ++ triple 7 0 1) 1 ≡ refused 17 1
  -- lengths that together would be 1 in 64 bits
  pub r17-sum : reads one (triple 7 0 18446744073709551615 ++ triple 7 0 2) 1 ≡ refused 17 1
  -- 17 before 12
  pub r17-12 : reads damaged (triple 7 0 2) 1 ≡ refused 17 1
  -- 1 and 2 before 17: a head of 27 bytes, and a reserved block that is not used
  pub r1-17 : reads (with_head (replicate 27 0) one) (0 ∷ []) 1 ≡ refused 1 1
  pub r2-17 : reads (mapped 8 0 one) (0 ∷ []) 1 ≡ refused 2 1
  -- an empty list too is refused on such a store
  pub r2-empty : reads (mapped 8 0 one) [] 1 ≡ refused 2 1

pub many : Reads
unfolding computed triple given reads refused one two damaged
many = record {
  empty = refl;
  single = refl;
  one_unit = refl;
  rest = refl;
  none-touched = refl;
  last = refl;
  hole = refl;
  two-objects = refl;
  two-units = refl;
  r3 = refl;
  r3-first = refl;
  r3-empty = refl;
  r3-object = refl;
  r12 = refl;
  not-tried = refl;
  r12-3 = refl;
  r3-12 = refl;
  r17-bytes = refl;
  r17-most = refl;
  r17-lengths = refl;
  r17-sum = refl;
  r17-12 = refl;
  r1-17 = refl;
  r2-17 = refl;
  r2-empty = refl;
}
