-- W-202 as whole calls, computed by the checker: fill over the blocks that are not reserved.
-- Assumes nothing.
use mathlib.Core.Path.{◌≡◌, refl}
use mathlib.Core.List.{[], ◌∷◌}
use Prim.Native.Nat.{ℕ, ◌*◌}
use lib.ListN.{replicate}
use Rattle.rules.specs.Store.{Store}
use Rattle.rules.specs.Call.Call.{look}
use Rattle.rules.specs.Call.Look.{fill}
use Rattle.worked.proofs.Stores.{answer, extent, card, headed, mapped, booked, zeroth, made, small, computed}

-- `layout`'s store of 8 blocks after its last step, made from its records: block 0 is reserved, 1, 4, 2, 3 and 6 are the file's, and 5 is retired,
-- since the second grow moved the file's last block. The image and the checksum are no part of it: fill reads neither
pub layout : Store
layout =
    mapped 127 32 (made 8 5 1 (record {
      cards = card 20000 5 5 0 ∷ [];
      extents = extent 0 1 1 ∷ extent 1 4 1 ∷ extent 2 2 2 ∷ extent 4 6 1 ∷ [];
      groups = zeroth 1 ∷ [];
    }) 127 (replicate (8 * 4096) 0))

-- a store of four blocks without files: so many reserved, and the bits of the used and of the retired ones
pub bare : (reserved used retired : ℕ) → Store
bare reserved used retired = headed 4 reserved 0 0 0 (mapped used retired (booked [] [] [] (small 1 2)))

pub record Fills : Type 0 where
  -- "After its last step the `layout` store of document 01 therefore shows six of seven, 857."
  pub layout-full : answer (look fill) layout ≡ (0, 857)
  -- "Fill divides by blocks minus reserved": one used block of four, of three, of two and of one
  pub of_four : answer (look fill) (bare 0 8 0) ≡ (0, 250)
  pub of_three : answer (look fill) (bare 1 9 0) ≡ (0, 333)
  pub of_two : answer (look fill) (bare 2 11 0) ≡ (0, 500)
  pub of_one : answer (look fill) (bare 3 15 0) ≡ (0, 1000)
  -- "and counts used blocks that are not reserved": the first block behind the reserved ones counts as the last does
  pub first-behind : answer (look fill) (bare 2 7 0) ≡ (0, 500)
  pub none-used : answer (look fill) (bare 3 7 0) ≡ (0, 0)
  pub all-used : answer (look fill) (bare 1 15 0) ≡ (0, 1000)
  -- a retired block is used until settle
  pub one-retired : answer (look fill) (bare 1 11 2) ≡ (0, 666)
  pub both-retired : answer (look fill) (bare 1 11 10) ≡ (0, 666)
  -- "When every block is reserved the answer is 0."
  pub all-reserved : answer (look fill) (bare 4 15 0) ≡ (0, 0)

pub fills : Fills
unfolding computed layout bare
fills = record {
  layout-full = refl;
  of_four = refl;
  of_three = refl;
  of_two = refl;
  of_one = refl;
  first-behind = refl;
  none-used = refl;
  all-used = refl;
  one-retired = refl;
  both-retired = refl;
  all-reserved = refl;
}
