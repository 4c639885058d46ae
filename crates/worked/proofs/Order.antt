-- Refusals in checking order, computed by the checker: calls for which two of them hold, and what is tried of none. `Refused` has each alone.
-- Assumes nothing.
use mathlib.Core.Path.{◌≡◌, refl}
use mathlib.Core.List.{[], ◌∷◌}
use Prim.Native.Nat.{ℕ, ◌+◌, ◌*◌}
use lib.ListN.{replicate}
use Rattle.rules.specs.Head.{encode_head}
use Rattle.rules.specs.Time.{Time}
use Rattle.rules.specs.Card.{Card}
use Rattle.rules.specs.Store.{Store, decode}
use Rattle.rules.specs.Call.{call, run}
use Rattle.rules.specs.Call.Call.{enter, write, grow, look}
use Rattle.rules.specs.Call.Look.{read, fill}
use Rattle.worked.proofs.Stores.{uuid, time, small, answer, extents, extent, card, with_head, mapped, image_byte, with_cards, second, computed}

-- no time
pub never : Time
never = time 1 1000000000

-- file 8 with no bytes and this count
pub eight : ℕ → Card
eight n = record { object = 8; size = 0; allocated = n; changed = time 1 1; created = time 1 1 }

-- the small store with hint 1, which is none of its groups
pub hinted : Store
hinted = with_head (encode_head (record { uuid = uuid; blocks = 4; reserved = 1; hint = 1; cards = 1; extents = 1; groups = 1 })) (small 1 2)

-- file 8 of five bytes that are a hole
pub holed : Store
holed = run (grow 8 5 (time 2 2) ∷ []) (second (small 2 2))

pub record Order : Type 0 where
  -- 1 before 2, 2 before 3
  pub r1-2 : answer (look fill) (with_head (replicate 27 0) (mapped 8 0 (small 1 2))) ≡ (1, 0)
  pub r2-3 : answer (look (read 9 0 [])) (mapped 8 0 (small 1 2)) ≡ (2, 0)
  -- 3 before 5, 6 and 7
  pub r3-5 : answer (write 9 9223372036854775807 (1 ∷ []) never) (small 1 2) ≡ (3, 0)
  pub r3-7 : answer (grow 9 1 never) (small 1 2) ≡ (3, 0)
  -- 4 before 7, 4 before 8, 7 before 8
  pub r4-7 : answer (enter 7 never) (small 1 2) ≡ (4, 0)
  pub r4-8 : answer (enter 7 (time 5 6)) (second (small 1 2)) ≡ (4, 0)
  pub r7-8 : answer (enter 9 never) (second (small 1 2)) ≡ (7, 0)
  -- 5 before 7, 6 before 7
  pub r5-7 : answer (write 7 9223372036854775807 (1 ∷ []) never) (small 1 2) ≡ (5, 0)
  pub r5-7-grow : answer (grow 7 9223372036854775808 never) (small 1 2) ≡ (5, 0)
  pub r6-7 : answer (grow 7 7 never) (small 1 2) ≡ (6, 0)
  -- 7 for "a grow that changes the size" and "a non-empty write" alone
  pub r7-grow : answer (grow 7 9 never) (small 1 2) ≡ (7, 0)
  pub equal-grow : answer (grow 7 8 never) (small 1 2) ≡ (0, 0)
  pub empty-write : answer (write 7 9223372036854775807 [] never) (small 1 2) ≡ (0, 0)
  -- the last second that a card has
  pub last-second : answer (enter 8 (time 9223372036854775807 999999999)) (small 1 2) ≡ (0, 0)
  -- 7 before 12, 11 before 12, 12 before 13
  pub r7-12 : answer (write 7 1 (1 ∷ []) never) (image_byte (3 * 4096) 0 (small 1 2)) ≡ (7, 0)
  pub r11-12 : answer (look (read 7 0 (0 ∷ []))) (image_byte (3 * 4096 + 8) 1 (image_byte (3 * 4096) 0 (small 1 2))) ≡ (11, 0)
  pub r12-13 : answer (write 7 1 (1 ∷ []) (time 8 9)) (image_byte (3 * 4096) 0 (mapped 15 6 (small 1 2))) ≡ (12, 0)
  -- a write that leaves an old byte reads them all: from the second on, and up to the last but one
  pub r12-first : answer (write 7 1 (replicate 7 1) (time 8 9)) (image_byte (3 * 4096) 0 (small 1 2)) ≡ (12, 0)
  pub r12-last : answer (write 7 0 (replicate 7 1) (time 8 9)) (image_byte (3 * 4096) 0 (small 1 2)) ≡ (12, 0)
  -- 13 before 14, 14 before 15, 15 before 16
  pub r13-14 : answer (write 7 0 (1 ∷ []) (time 8 9)) (mapped 15 6 (with_cards (card 8 0 12 13 ∷ []) (small 1 2))) ≡ (13, 0)
  pub r14-15 : answer (write 8 0 (1 ∷ []) (time 8 9)) (with_cards (card 8 1 12 13 ∷ eight 34359738367 ∷ []) (small 1 1)) ≡ (14, 0)
  pub r15-16 : answer (write 8 0 (1 ∷ []) (time 8 9)) (second (small 1 1)) ≡ (15, 0)
  -- 14: the highest count that a card has
  pub highest : answer (write 8 0 (1 ∷ []) (time 8 9)) (with_cards (card 8 1 12 13 ∷ eight 34359738366 ∷ []) (small 2 2)) ≡ (0, 1)
  -- 15 and 16: both books full, and fit
  pub fits : answer (write 8 0 (1 ∷ []) (time 8 9)) (second (small 2 2)) ≡ (0, 1)
  -- "An untouched hole stays a hole."; one that is touched does not
  pub hole : extents (run (grow 8 9 (time 3 3) ∷ []) holed) ≡ extent 0 3 1 ∷ []
  pub touched : (call (look (read 8 0 (replicate 6 77))) (run (write 8 2 (1 ∷ []) (time 3 3) ∷ []) holed)).out ≡ 0 ∷ 0 ∷ 1 ∷ 0 ∷ 0 ∷ 77 ∷ []
  -- a change that takes no block leaves the hint; one that does sets it
  pub hint-stays : (decode (run (grow 8 5 (time 2 2) ∷ []) (second hinted))).hint ≡ 1
  pub hint-set : (decode (run (write 7 0 (1 ∷ []) (time 8 9) ∷ []) hinted)).hint ≡ 0

pub order : Order
unfolding computed never eight hinted holed
order = record {
  r1-2 = refl;
  r2-3 = refl;
  r3-5 = refl;
  r3-7 = refl;
  r4-7 = refl;
  r4-8 = refl;
  r7-8 = refl;
  r5-7 = refl;
  r5-7-grow = refl;
  r6-7 = refl;
  r7-grow = refl;
  equal-grow = refl;
  empty-write = refl;
  last-second = refl;
  r7-12 = refl;
  r11-12 = refl;
  r12-13 = refl;
  r12-first = refl;
  r12-last = refl;
  r13-14 = refl;
  r14-15 = refl;
  r15-16 = refl;
  highest = refl;
  fits = refl;
  hole = refl;
  touched = refl;
  hint-stays = refl;
  hint-set = refl;
}
