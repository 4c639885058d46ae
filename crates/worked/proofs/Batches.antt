-- Document 02, W-204: batches of writes computed by the checker on the store of `Run`, which has two free blocks, and on copies of it.
-- Assumes nothing.
use mathlib.Core.Path.{◌≡◌, refl}
use mathlib.Core.Bool.{Bool, true, false}
use mathlib.Core.List.{List, [], ◌∷◌, ◌++◌}
use Prim.Native.Nat.{ℕ}
use lib.ListN.{replicate}
use Rattle.rules.specs.Time.{Time}
use Rattle.rules.specs.Card.{Card}
use Rattle.rules.specs.Extent.{Extent}
use Rattle.rules.specs.Store.{Store}
use Rattle.rules.specs.Call.{call}
use Rattle.rules.specs.Call.Call.{look}
use Rattle.rules.specs.Call.Look.{read}
use Rattle.rules.specs.Act.{act, act_refused}
use Rattle.rules.specs.Act.Act.{batch}
use Rattle.worked.proofs.Stores.{small, time, card, extent, extents, cards, with_head, with_files, mapped, computed}
use Rattle.worked.proofs.ReadMany.{triple}

-- a batch of this list, these bytes and this time: its number, its count, and whether it was refused
pub answers : Time → Store → List ℕ → List ℕ → ℕ × ℕ × Bool
answers t s list bytes = ((act (batch list bytes t) s).number, (act (batch list bytes t) s).count, act_refused (batch list bytes t) s)

-- at 20 seconds and 21 nanoseconds
pub gives : Store → List ℕ → List ℕ → ℕ × ℕ × Bool
gives = answers (time 20 21)

-- what it leaves: the extents, the cards, and file 7 read into eight bytes
pub leaves : Store → List ℕ → List ℕ → List Extent × List Card × List ℕ
leaves s list bytes = looked (act (batch list bytes (time 20 21)) s).store
  where
    looked : Store → List Extent × List Card × List ℕ
    looked t = (extents t, cards t, (call (look (read 7 0 (replicate 8 77))) t).out)

-- file 7 with the bytes 1 2 9 9 5 0 0 0, in block 3
pub one : Store
one = small 1 2

-- a card of file 8
pub card8 : Card
card8 = record { object = 8; size = 8; allocated = 1; changed = time 1 1; created = time 1 1 }

-- an extent of it
pub extent8 : Extent
extent8 = record { object = 8; logical = 0; physical = 3; count = 1 }

-- beside it file 8 with the same block: the store passes refusal 2
pub shared : Store
shared = with_files (card 8 1 12 13 ∷ card8 ∷ []) (extent 0 3 1 ∷ extent8 ∷ []) (small 2 2)

-- a whole write to file 7, and a byte to file 8
pub both : List ℕ
both = triple 7 0 8 ++ triple 8 0 1

-- their bytes
pub nine : List ℕ
nine = 1 ∷ 1 ∷ 1 ∷ 1 ∷ 1 ∷ 1 ∷ 1 ∷ 1 ∷ 2 ∷ []

pub record Batches : Type 0 where
  -- no write: nothing is done, and it is not refused
  pub none : gives one [] [] ≡ (0, 0, false)
  -- one write, and two: the count is that of writes, and the second finds what the first left
  pub single : gives one (triple 7 0 2) (4 ∷ 6 ∷ []) ≡ (0, 1, false)
  pub two : gives one (triple 7 0 2 ++ triple 7 7 1) (4 ∷ 6 ∷ 8 ∷ []) ≡ (0, 2, false)
  pub two-left : leaves one (triple 7 0 2 ++ triple 7 7 1) (4 ∷ 6 ∷ 8 ∷ []) ≡ (extent 0 2 1 ∷ [], card 8 1 20 21 ∷ [], 4 ∷ 6 ∷ 9 ∷ 9 ∷ 5 ∷ 0 ∷ 0 ∷ 8 ∷ [])
  -- a third finds no free block: it is stopped by 13, and the two before it remain
  pub r13 : gives one (triple 7 0 2 ++ triple 7 7 1 ++ triple 7 1 1) (4 ∷ 6 ∷ 8 ∷ 3 ∷ []) ≡ (13, 2, false)
  pub r13-left : leaves one (triple 7 0 2 ++ triple 7 7 1 ++ triple 7 1 1) (4 ∷ 6 ∷ 8 ∷ 3 ∷ []) ≡ (extent 0 2 1 ∷ [], card 8 1 20 21 ∷ [], 4 ∷ 6 ∷ 9 ∷ 9 ∷ 5 ∷ 0 ∷ 0 ∷ 8 ∷ [])
  -- stopped by 3: none is done behind it, and with none done before it "this is not a refused call"
  pub r3 : gives one (triple 7 0 1 ++ triple 9 0 1 ++ triple 7 1 1) (4 ∷ 5 ∷ 6 ∷ []) ≡ (3, 1, false)
  pub r3-left : leaves one (triple 7 0 1 ++ triple 9 0 1 ++ triple 7 1 1) (4 ∷ 5 ∷ 6 ∷ []) ≡ (extent 0 1 1 ∷ [], card 8 1 20 21 ∷ [], 4 ∷ 2 ∷ 9 ∷ 9 ∷ 5 ∷ 0 ∷ 0 ∷ 0 ∷ [])
  pub r3-first : gives one (triple 9 0 1) (5 ∷ []) ≡ (3, 0, false)
  -- empty writes count, and need no time; 3 is tried for them
  pub empty : gives one (triple 7 0 0 ++ triple 7 9 0) [] ≡ (0, 2, false)
  pub empty-late : answers (time 0 1000000000) one (triple 7 0 0 ++ triple 7 9 0) [] ≡ (0, 2, false)
  pub late : answers (time 0 1000000000) one (triple 7 0 0 ++ triple 7 9 1) (1 ∷ []) ≡ (7, 1, false)
  pub r3-empty : gives one (triple 7 0 0 ++ triple 9 0 0) [] ≡ (3, 1, false)
  -- two files share a block: the first write retires it, and the second is stopped by 2
  pub r2-second : gives shared both nine ≡ (2, 1, false)
  -- 18, before 3: not whole triples; lengths that do not add up, by one, or wrapped in 64 bits
  pub r18-short : gives one (replicate 23 0) [] ≡ (18, 0, true)
  pub r18-long : gives one (triple 9 0 0 ++ (0 ∷ [])) [] ≡ (18, 0, true)
  pub r18-fewer : gives one (triple 9 0 1) [] ≡ (18, 0, true)
  pub r18-more : gives one (triple 7 0 1) (1 ∷ 2 ∷ []) ≡ (18, 0, true)
  pub r18-none : gives one [] (1 ∷ []) ≡ (18, 0, true)
  pub r18-wraps : gives one (triple 7 0 5 ++ triple 7 0 18446744073709551613) (1 ∷ 2 ∷ []) ≡ (18, 0, true)
  -- 1 and 2 before 18, and for no write at all
  pub r1-18 : gives (with_head (replicate 27 0) one) (0 ∷ []) [] ≡ (1, 0, true)
  pub r2-18 : gives (mapped 8 0 one) (0 ∷ []) [] ≡ (2, 0, true)
  pub r2-none : gives (mapped 8 0 one) [] [] ≡ (2, 0, true)

pub batches : Batches
unfolding computed triple answers gives leaves one card8 extent8 shared both nine
batches = record {
  none = refl;
  single = refl;
  two = refl;
  two-left = refl;
  r13 = refl;
  r13-left = refl;
  r3 = refl;
  r3-left = refl;
  r3-first = refl;
  empty = refl;
  empty-late = refl;
  late = refl;
  r3-empty = refl;
  r2-second = refl;
  r18-short = refl;
  r18-long = refl;
  r18-fewer = refl;
  r18-more = refl;
  r18-none = refl;
  r18-wraps = refl;
  r1-18 = refl;
  r2-18 = refl;
  r2-none = refl;
}
