-- Laws of entries: an array of numbers of which 0 is no block, as a list of blocks that are there or not.
-- Assumes nothing.
use mathlib.Core.Path.{◌≡◌, refl, ap}
use mathlib.Core.List.{List, [], ◌∷◌, ◌++◌, map-append}
use mathlib.Core.Option.{Option, none, some}
use Prim.Native.Nat.{ℕ, zero, suc, ◌+◌, ◌-◌, ◌<◌}
use native.Mathlib.Numerals.{add-one}
use native.Mathlib.Omega.{arith}
use lib.ListN.{length, take, get_or, replicate, length-map}
use lib.Seq.{take-suc}
use Rattle.rules.proofs.ListLaws.{get_d_map}
use Rattle.mapping.specs.Entries.{entry_of, entries}

-- one entry more
pub entries-last : (xs : List ℕ) (i : ℕ) → i < length xs → entries (take (i + 1) xs) ≡ entries (take i xs) ++ (entry_of (get_or xs i 0) ∷ [])
unfolding entries
entries-last xs i l = rw (add-one i, take-suc xs i 0 l) (map-append entry_of (take i xs) (get_or xs i 0 ∷ []))

-- as many entries as numbers
pub length-entries : (xs : List ℕ) → length (entries xs) ≡ length xs
unfolding entries
length-entries xs = length-map xs entry_of

-- the entry at a place
pub get_or-entries : (xs : List ℕ) (i : ℕ) → i < length xs → get_or (entries xs) i none ≡ entry_of (get_or xs i 0)
unfolding entries
get_or-entries xs i l = get_d_map entry_of xs i none 0 l

-- an entry of nothing
pub entry-none : (e : ℕ) → e ≡ 0 → entry_of e ≡ none
unfolding entry_of
entry-none zero q = refl
entry-none (suc e) q = absurd (omega arith)

-- an entry of a block
pub entry-some : (e : ℕ) → (e ≡ 0 → ⊥) → entry_of e ≡ some (e - 1)
unfolding entry_of
entry-some zero n = absurd (n refl)
entry-some (suc e) n = let d : suc e - 1 ≡ e = omega arith in rw d refl

-- of two lists joined
pub entries-append : (xs ys : List ℕ) → entries (xs ++ ys) ≡ entries xs ++ entries ys
unfolding entries
entries-append xs ys = map-append entry_of xs ys

-- entries that are all none
pub entries_none : (n : ℕ) → entries (replicate n 0) ≡ replicate n none
unfolding entries entry_of
entries_none zero = refl
entries_none (suc n) = ap (λ (os : List (Option ℕ)). none ∷ os) (entries_none n)
