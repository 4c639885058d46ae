-- A file of two blocks and a byte written into its second: the first block is kept, computed by the checker. A store of six blocks, one of them reserved.
-- Assumes nothing.
use mathlib.Core.Path.{◌≡◌, refl}
use mathlib.Core.List.{List, [], ◌∷◌, ◌++◌}
use Prim.Native.Nat.{ℕ, ◌*◌}
use lib.ListN.{replicate}
use Rattle.rules.specs.Bytes.{padded}
use Rattle.rules.specs.Card.{Card}
use Rattle.rules.specs.Extent.{Extent}
use Rattle.rules.specs.Store.{Store}
use Rattle.rules.specs.Call.{run}
use Rattle.rules.specs.Call.Call.{write, settle}
use Rattle.worked.proofs.Stores.{time, made, zeroth, answer, extents, cards, extent, card, computed}

-- 4,100 ones in blocks 1 and 2, with their checksum
pub two_blocks : Store
two_blocks =
    made 6 2 1 (record { cards = card 4100 2 8 9 ∷ []; extents = extent 0 1 2 ∷ []; groups = zeroth 2229844407 ∷ [] }) 7
    (padded (6 * 4096) (replicate 4096 0 ++ replicate 4100 1))

-- extents, cards, and the answer of settle
pub seen : Store → List Extent × List Card × (ℕ × ℕ)
seen s = (extents s, cards s, answer settle s)

-- a byte at 4,098: block 0 of the file stays at 1, its block 1 moves to 3, and block 2 of the device waits for settle
pub kept : seen (run (write 7 4098 (2 ∷ []) (time 10 11) ∷ []) two_blocks) ≡ (extent 0 1 1 ∷ extent 1 3 1 ∷ [], card 4100 2 10 11 ∷ [], (0, 1))
unfolding computed seen two_blocks
kept = refl
