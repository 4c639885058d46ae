-- What is handed out is what the rules say: where all units of a read pass, its bytes can be taken from the blocks themselves.
-- Assumes nothing.
use mathlib.Core.Path.{◌≡◌, refl, ap, ◌∙◌}
use mathlib.Core.List.{List, [], ◌∷◌, map}
use mathlib.Core.Option.{Option, none, some}
use Prim.Native.Nat.{ℕ, suc, ◌+◌, ◌-◌, ◌*◌, min, ◌≤◌}
use native.Mathlib.Omega.{arith}
use lib.ListN.{length, take, length-map}
use Rattle.rules.specs.Lists.{maybe}
use Rattle.rules.specs.Sizes.{unit_blocks, unit_bytes}
use Rattle.rules.specs.Bytes.{part}
use Rattle.rules.specs.Read.Checked.{bytes}
use Rattle.history.proofs.MoreBytes.{part_cut}
use Rattle.mapping.specs.Entries.{entry_of, entries, Inside}
use Rattle.inspect.specs.Mapped.{check_mapped}
use Rattle.inspect.proofs.FoundLaws.{blocks_found, found-bytes}
use Rattle.image.specs.Blocks.{block_or_zeros, blocks_bytes}

-- checksums that are there or not, as entries of an array
unfoldable pub as_entries : List (Option ℕ) → List ℕ
as_entries os = map (maybe 0 suc) os

-- the entries stand for them
pub entries-as : (os : List (Option ℕ)) → entries (as_entries os) ≡ os
unfolding as_entries entries entry_of maybe
entries-as [] = refl
entries-as (none ∷ os) = ap (λ (ps : List (Option ℕ)). none ∷ ps) (entries-as os)
entries-as (some p ∷ os) = ap (λ (ps : List (Option ℕ)). some p ∷ ps) (entries-as os)

-- the bytes of a read that lies in the file, and in the units that pass, are those of the units' blocks
pub handed_out : (image uuid : List ℕ) (object size first : ℕ) (slots : List (Option ℕ)) (blocks xs : List ℕ) (a n : ℕ) → Inside image blocks → length blocks ≡ unit_blocks * length slots
    → first * unit_bytes + (a + n) ≤ size → a + n ≤ unit_bytes * length slots → check_mapped image uuid object size first slots (entries blocks) ≡ bytes xs
    → part a n xs ≡ part a n (blocks_bytes image (entries blocks))
unfolding blocks_bytes block_or_zeros as_entries
handed_out image uuid object size first slots blocks xs a n i l f k e =
    let s : List ℕ = as_entries slots in
    let c : length s ≡ length slots = length-map slots (maybe 0 suc) in
    let d : check_mapped image uuid object size first (entries s) (entries blocks) ≡ bytes xs = rw (entries-as slots) e in
    let m : ℕ = min (size - first * unit_bytes) (unit_bytes * length s) in
    let b : xs ≡ take m (blocks_found image (entries blocks)) = found-bytes image uuid object size first s blocks xs i (omega (arith, l, c)) d in
    ap (part a n) b ∙ part_cut a n m (blocks_found image (entries blocks)) (omega (arith, c))
