-- A call for each refusal, computed by the checker: on the store of `Run` and on damaged copies of it.
-- Assumes nothing.
use mathlib.Core.Path.{◌≡◌, refl}
use mathlib.Core.List.{[], ◌∷◌}
use Prim.Native.Nat.{◌+◌, ◌*◌}
use lib.ListN.{replicate}
use Rattle.rules.specs.Call.Call.{enter, write, grow, settle, look}
use Rattle.rules.specs.Call.Look.{read}
use Rattle.worked.proofs.Stores.{time, small, answer, card, with_head, mapped, image_byte, with_cards, with_files, with_groups, second, computed}

pub record Refused : Type 0 where
  -- a head of 27 bytes; `WrongLengths` has the other words
  pub r1 : answer settle (with_head (replicate 27 0) (small 1 2)) ≡ (1, 0)
  -- the reserved block is not used; `BrokenRules` has the other words
  pub r2 : answer settle (mapped 8 0 (small 1 2)) ≡ (2, 0)
  pub r3 : answer (look (read 9 0 (0 ∷ []))) (small 1 2) ≡ (3, 0)
  pub r3-empty : answer (write 9 0 [] (time 8 9)) (small 1 2) ≡ (3, 0)
  pub r4 : answer (enter 7 (time 5 6)) (small 1 2) ≡ (4, 0)
  -- "Offset 9,223,372,036,854,775,806: one byte passes refusal 5, two do not." One byte is refused later: the old tail unit wants 16 blocks
  pub r5-one : answer (write 7 9223372036854775806 (1 ∷ []) (time 8 9)) (small 1 2) ≡ (13, 0)
  pub r5-two : answer (write 7 9223372036854775806 (1 ∷ 2 ∷ []) (time 8 9)) (small 1 2) ≡ (5, 0)
  pub r5-grow : answer (grow 7 9223372036854775808 (time 8 9)) (small 1 2) ≡ (5, 0)
  pub r6 : answer (grow 7 7 (time 8 9)) (small 1 2) ≡ (6, 0)
  pub r7 : answer (write 7 0 (1 ∷ []) (time 8 1000000000)) (small 1 2) ≡ (7, 0)
  pub r7-seconds : answer (enter 8 (time 9223372036854775808 0)) (small 1 2) ≡ (7, 0)
  pub r8 : answer (enter 9 (time 5 6)) (second (small 1 2)) ≡ (8, 0)
  pub r9 : answer (look (read 7 0 (0 ∷ []))) (with_groups [] (small 1 2)) ≡ (9, 0)
  pub r9-grow : answer (grow 7 9 (time 8 9)) (with_groups [] (small 1 2)) ≡ (9, 0)
  pub r10 : answer (look (read 7 0 (0 ∷ []))) (with_files (card 8 1 12 13 ∷ []) [] (small 1 2)) ≡ (10, 0)
  pub r11 : answer (look (read 7 0 (0 ∷ []))) (image_byte (3 * 4096 + 8) 1 (small 1 2)) ≡ (11, 0)
  pub r12 : answer (look (read 7 0 (0 ∷ []))) (image_byte (3 * 4096) 0 (small 1 2)) ≡ (12, 0)
  -- a write that covers all old bytes reads none of them
  pub r12-not : answer (write 7 0 (replicate 8 1) (time 8 9)) (image_byte (3 * 4096) 0 (small 1 2)) ≡ (0, 8)
  -- before settle blocks 1 and 2 are retired and 3 is the file's
  pub r13 : answer (write 7 0 (1 ∷ []) (time 8 9)) (mapped 15 6 (small 1 2)) ≡ (13, 0)
  pub r14 : answer (write 7 0 (1 ∷ []) (time 8 9)) (with_cards (card 8 0 12 13 ∷ []) (small 1 2)) ≡ (14, 0)
  pub r14-high : answer (write 8 0 (1 ∷ []) (time 8 9))
      (with_cards (card 8 1 12 13 ∷ record { object = 8; size = 0; allocated = 34359738367; changed = time 1 1; created = time 1 1 } ∷ []) (small 1 2)) ≡ (14, 0)
  pub r15 : answer (write 8 0 (1 ∷ []) (time 8 9)) (second (small 2 1)) ≡ (15, 0)
  pub r16 : answer (write 8 0 (1 ∷ []) (time 8 9)) (second (small 1 2)) ≡ (16, 0)

pub refused : Refused
unfolding computed
refused = record {
  r1 = refl;
  r2 = refl;
  r3 = refl;
  r3-empty = refl;
  r4 = refl;
  r5-one = refl;
  r5-two = refl;
  r5-grow = refl;
  r6 = refl;
  r7 = refl;
  r7-seconds = refl;
  r8 = refl;
  r9 = refl;
  r9-grow = refl;
  r10 = refl;
  r11 = refl;
  r12 = refl;
  r12-not = refl;
  r13 = refl;
  r14 = refl;
  r14-high = refl;
  r15 = refl;
  r16 = refl;
}
