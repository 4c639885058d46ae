-- The creation time (W-205), computed by the checker: what the calls make of a card's two times; and stores whose cards have the 32 bytes of before W-205,
-- which are not converted.
-- Assumes nothing.
use mathlib.Core.Path.{◌≡◌, refl}
use mathlib.Core.List.{List, [], ◌∷◌, ◌++◌}
use Prim.Native.Nat.{ℕ}
use lib.ListN.{replicate}
use Rattle.rules.specs.Time.{Time}
use Rattle.rules.specs.Card.{Card}
use Rattle.rules.specs.Store.{Store, lent}
use Rattle.rules.specs.Call.{run}
use Rattle.rules.specs.Call.Call.{fresh, enter, write, look}
use Rattle.rules.specs.Call.Look.{fill}
use Rattle.worked.proofs.Stores.{zeros, time, uuid, written, grown, done, second, small, answer, cards, card, headed, computed}

-- file 7 just entered
pub entered : Store
entered = run (fresh uuid 1 ∷ enter 7 (time 5 6) ∷ []) (zeros 4 2 1 2)

-- a card of object 7 or 8 with no block or one, and its times
pub timed : (object size allocated : ℕ) → (changed created : Time) → Card
timed object size allocated changed created =
    record { object = object; size = size; allocated = allocated; changed = changed; created = created }

-- the store with these bytes as its card book
pub carded : List ℕ → Store → Store
carded book s = lent s.image s.head book s.extents s.groups s.used s.retired

-- file 7 of `small` in 32 bytes: 8 bytes in one block, changed at 12 seconds and 13 nanoseconds
pub old_seven : List ℕ
old_seven =
    replicate 7 0 ++ (7 ∷ []) ++ replicate 7 0 ++ (16 ∷ []) ++ replicate 4 0 ++ (64 ∷ 0 ∷ 0 ∷ 0 ∷ []) ++ (0 ∷ 0 ∷ 0 ∷ 6 ∷ 0 ∷ 0 ∷ 0 ∷ 26 ∷ [])

-- file 8, empty, changed at 1 second and 1 nanosecond
pub old_eight : List ℕ
old_eight = replicate 7 0 ++ (8 ∷ []) ++ replicate 16 0 ++ (0 ∷ 0 ∷ 0 ∷ 0 ∷ 128 ∷ 0 ∷ 0 ∷ 2 ∷ [])

pub record Created : Type 0 where
  -- "Enter sets both times to the lent one"
  pub enter-both : cards entered ≡ timed 7 0 0 (time 5 6) (time 5 6) ∷ []
  -- "write and grow set only the first"; settle sets none
  pub write-first : cards written ≡ timed 7 5 1 (time 8 9) (time 5 6) ∷ []
  pub grow_first : cards grown ≡ timed 7 8 1 (time 12 13) (time 5 6) ∷ []
  pub settle-none : cards done ≡ cards grown
  -- a file that is changed later than another was made leaves that one's times alone
  pub others-stay : cards (run (write 8 0 (1 ∷ []) (time 14 15) ∷ []) (second (small 2 2))) ≡ card 8 1 12 13 ∷ timed 8 1 1 (time 14 15) (time 1 1) ∷ []
  -- "one that passes 1 and 2 is read as 48-byte cards": one card in 96 bytes does, and was made at 0
  pub old-one : answer (look fill) (carded (old_seven ++ replicate 64 0) (small 1 2)) ≡ (0, 333)
  pub old-one-read : cards (carded (old_seven ++ replicate 64 0) (small 1 2)) ≡ timed 7 8 1 (time 12 13) (time 0 0) ∷ []
  -- the second of two is cut where it is no card, and three are more than the places
  pub old-two : answer (look fill) (headed 4 1 2 1 1 (carded (old_seven ++ old_eight ++ replicate 32 0) (small 1 2))) ≡ (2, 0)
  pub old-three : answer (look fill) (headed 4 1 3 1 1 (carded (old_seven ++ old_eight ++ old_eight) (small 1 2))) ≡ (1, 0)
  -- 64 bytes are no whole places
  pub old-short : answer (look fill) (carded (old_seven ++ replicate 32 0) (small 1 2)) ≡ (1, 0)

pub created : Created
unfolding computed entered timed carded old_seven old_eight
created = record {
  enter-both = refl;
  write-first = refl;
  grow_first = refl;
  settle-none = refl;
  others-stay = refl;
  old-one = refl;
  old-one-read = refl;
  old-two = refl;
  old-three = refl;
  old-short = refl;
}
