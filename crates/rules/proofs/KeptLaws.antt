-- What a rewritten unit keeps: kept blocks stand where they stood, and old blocks, superseded ones, new ones and kept ones are counted against each other.
-- Assumes nothing.
use mathlib.Core.Path.{◌≡◌, refl, sym, ap, ◌∙◌}
use mathlib.Core.List.{List, [], ◌∷◌}
use mathlib.Core.Bool.{Bool, true, false, not, ◌&&◌}
use mathlib.Core.Option.{Option, none, some, none-ne-some, some-injective}
use Prim.Native.Nat.{ℕ, zero, suc, ◌+◌, ◌*◌, ◌≤◌, ◌<◌, min}
use native.Mathlib.Nat.{zero-add}
use native.Mathlib.Decide.{dec_lt}
use native.Mathlib.Omega.{arith}
use lib.Dec.{leb}
use borrow.Author.Tests.{leb-true, not-true}
use lib.ListN.{length, get_or, replicate, length-map, length-replicate, get_or-eq_default}
use Rattle.rules.specs.Lists.{pick◌then◌else◌, given, range, count}
use Rattle.rules.specs.Sizes.{block_bytes, unit_bytes}
use Rattle.rules.specs.Units.{Change, valid_length, written_in}
use Rattle.rules.specs.Kept.{intact, continues, blocks_after, candidates, runs, within_limit, retained_blocks, wanted, assigned, superseded}
use Rattle.rules.proofs.ListLaws.{get_or-same, if-cases, and_left, and_right, count_yes, count_no, count-le, length-range, get_or-map-range}
use Rattle.rules.proofs.CountLaws.{count-cons, count-nil}

-- the blocks that are there
unfoldable pub there : List (Option ℕ) → List ℕ
there [] = []
there (none ∷ os) = there os
there (some p ∷ os) = p ∷ there os

-- ---- kept, new and superseded blocks

-- a kept block is not wanted anew
pub wanted-some : (p : ℕ) (kept : List (Option ℕ)) → wanted (some p ∷ kept) ≡ wanted kept
unfolding wanted given
wanted-some p kept = count_no (λ b. not (given b)) (some p) kept refl

-- one that is not kept is
pub wanted-none : (kept : List (Option ℕ)) → wanted (none ∷ kept) ≡ suc (wanted kept)
unfolding wanted given
wanted-none kept = count_yes (λ b. not (given b)) none kept refl

-- no more are wanted than there are entries
pub wanted-most : (kept : List (Option ℕ)) → wanted kept ≤ length kept
unfolding wanted
wanted-most kept = count-le (λ (b : Option ℕ). not (given b)) kept

-- each kept block stands where it stood
abbrev pub Keeps : List (Option ℕ) → List (Option ℕ) → Type 0
Keeps kept old = (i p : ℕ) → get_or kept i none ≡ some p → get_or old i none ≡ some p

module _ (g : ℕ → Bool) where
  -- the old blocks are the superseded ones and the kept ones
  pub count-superseded : (old kept : List (Option ℕ)) → Keeps kept old → length kept ≤ length old → count g (there old) ≡ count g (superseded old kept) + count g (there kept)
  unfolding there superseded
  count-superseded [] [] k l = omega (arith, count-nil g)
  count-superseded [] (x ∷ kept) k l = absurd (omega arith)
  count-superseded (none ∷ old) [] k l = count-superseded old [] (λ i p e. absurd (none-ne-some p e)) (omega arith)
  count-superseded (none ∷ old) (none ∷ kept) k l = count-superseded old kept (λ i p e. k (suc i) p e) (omega arith)
  count-superseded (none ∷ old) (some q ∷ kept) k l = absurd (none-ne-some q (k 0 q refl))
  count-superseded (some p ∷ old) [] k l =
      let h : count g (there old) ≡ count g (superseded old []) + count g (there []) = count-superseded old [] (λ i p e. absurd (none-ne-some p e)) (omega arith) in
      rw (count-cons g p (there old), count-cons g p (superseded old [])) (omega arith)
  count-superseded (some p ∷ old) (none ∷ kept) k l =
      let h : count g (there old) ≡ count g (superseded old kept) + count g (there kept) = count-superseded old kept (λ i p e. k (suc i) p e) (omega arith) in
      rw (count-cons g p (there old), count-cons g p (superseded old kept)) (omega arith)
  count-superseded (some p ∷ old) (some q ∷ kept) k l =
      let h : count g (there old) ≡ count g (superseded old kept) + count g (there kept) = count-superseded old kept (λ i p e. k (suc i) p e) (omega arith) in
      let e : p ≡ q = some-injective p q (k 0 q refl) in
      rw (count-cons g p (there old), count-cons g q (there kept), e) (omega arith)

  -- the blocks that a unit has are the new ones and the kept ones
  pub count-assigned : (kept : List (Option ℕ)) (new : List ℕ) → length new ≡ wanted kept → count g (assigned kept new) ≡ count g new + count g (there kept)
  unfolding there assigned
  count-assigned [] [] w = omega (arith, count-nil g)
  count-assigned [] (b ∷ new) w = absurd (omega (arith, w, wanted-most []))
  count-assigned (some p ∷ kept) new w =
      let h : count g (assigned kept new) ≡ count g new + count g (there kept) = count-assigned kept new (w ∙ wanted-some p kept) in
      rw (count-cons g p (assigned kept new), count-cons g p (there kept)) (omega arith)
  count-assigned (none ∷ kept) [] w = absurd (omega (arith, w, wanted-none kept))
  count-assigned (none ∷ kept) (b ∷ new) w =
      let y : length new ≡ wanted kept = omega (arith, w, wanted-none kept) in
      let h : count g (assigned kept new) ≡ count g new + count g (there kept) = count-assigned kept new y in
      rw (count-cons g b (assigned kept new), count-cons g b new) (omega arith)

-- a unit has a block for each entry
pub length-assigned : (kept : List (Option ℕ)) (new : List ℕ) → length new ≡ wanted kept → length (assigned kept new) ≡ length kept
unfolding assigned
length-assigned [] new w = refl
length-assigned (some p ∷ kept) new w = ap suc (length-assigned kept new (w ∙ wanted-some p kept))
length-assigned (none ∷ kept) [] w = absurd (omega (arith, w, wanted-none kept))
length-assigned (none ∷ kept) (b ∷ new) w =
    let y : length new ≡ wanted kept = omega (arith, w, wanted-none kept) in
    ap suc (length-assigned kept new y)

-- a kept block is where it was kept
pub assigned-kept : (kept : List (Option ℕ)) (new : List ℕ) → length new ≡ wanted kept → (i p : ℕ) → get_or kept i none ≡ some p → get_or (assigned kept new) i 0 ≡ p
unfolding assigned
assigned-kept [] new w i p e = absurd (none-ne-some p e)
assigned-kept (some q ∷ kept) new w zero p e = some-injective q p e
assigned-kept (some q ∷ kept) new w (suc i) p e = assigned-kept kept new (w ∙ wanted-some q kept) i p e
assigned-kept (none ∷ kept) [] w i p e = absurd (omega (arith, w, wanted-none kept))
assigned-kept (none ∷ kept) (b ∷ new) w zero p e = absurd (none-ne-some p e)
assigned-kept (none ∷ kept) (b ∷ new) w (suc i) p e =
    let y : length new ≡ wanted kept = omega (arith, w, wanted-none kept) in
    assigned-kept kept new y i p e

-- ---- what is kept

-- a block is kept for these reasons
pub record KeptFor (c : Change) (unit : ℕ) (verified : Bool) (before : List (Option ℕ)) (i p : ℕ) : Type 0 where
  pub checked : verified ≡ true
  pub unwritten : intact c unit i ≡ true
  pub old : get_or before i none ≡ some p

module _ (limit : ℕ) (c : Change) (unit : ℕ) (verified : Bool) (old : List (Option ℕ)) where
  -- one entry of the candidates
  candidate : ℕ → Option ℕ
  candidate i = pick verified && intact c unit i then get_or old i none else none

  -- a candidate has these reasons
  candidate-for : (i p : ℕ) → candidate i ≡ some p → KeptFor c unit verified old i p
  unfolding candidate
  candidate-for i p =
      if-cases (λ (o : Option ℕ). o ≡ some p → KeptFor c unit verified old i p) (verified && intact c unit i) (get_or old i none) none
      (λ t e. record { checked = and_left verified (intact c unit i) t; unwritten = and_right verified (intact c unit i) t; old = e })
      (λ t e. absurd (none-ne-some p e))

  -- there is an entry for each of the unit's blocks
  length-candidates : length (candidates c unit verified old) ≡ blocks_after c unit
  unfolding candidates
  length-candidates = length-map (range 0 (blocks_after c unit)) _ ∙ length-range 0 (blocks_after c unit)

  -- so of what is kept
  pub length_retained : length (retained_blocks limit c unit verified old) ≡ blocks_after c unit
  unfolding retained_blocks within_limit
  length_retained =
      let ks : List (Option ℕ) = candidates c unit verified old in
      if-cases (λ (xs : List (Option ℕ)). length xs ≡ blocks_after c unit) (leb (runs ks) limit) ks (replicate (length ks) none)
      (λ e. length-candidates) (λ e. length-replicate {A = Option ℕ} (length ks) none ∙ length-candidates)

  -- one that stands among the candidates
  candidates-for : (i p : ℕ) → get_or (candidates c unit verified old) i none ≡ some p → KeptFor c unit verified old i p
  unfolding candidates candidate
  candidates-for i p e = go (dec_lt i (blocks_after c unit))
    where
      go : Dec (i < blocks_after c unit) → KeptFor c unit verified old i p
      go (yes l) = candidate-for i p (sym (get_or-map-range candidate 0 (blocks_after c unit) i none l ∙ ap candidate (zero-add i)) ∙ e)
      go (no l) =
          absurd (none-ne-some p (sym (get_or-eq_default (candidates c unit verified old) none {n = i} (omega (arith, length-candidates))) ∙ e))

  -- every kept block has them
  pub retained-for : (i p : ℕ) → get_or (retained_blocks limit c unit verified old) i none ≡ some p → KeptFor c unit verified old i p
  unfolding retained_blocks within_limit
  retained-for i p =
      let ks : List (Option ℕ) = candidates c unit verified old in
      if-cases (λ (xs : List (Option ℕ)). get_or xs i none ≡ some p → KeptFor c unit verified old i p) (leb (runs ks) limit) ks (replicate (length ks) none)
      (λ t e. candidates-for i p e) (λ t e. absurd (none-ne-some p (sym (get_or-same {A = Option ℕ} (length ks) none i) ∙ e)))

-- ---- runs

-- blocks of which none is kept are one run, or none
runs_none : (n : ℕ) → runs (replicate n none) ≤ 1
unfolding runs continues pick◌then◌else◌
runs_none zero = omega arith
runs_none (suc zero) = omega arith
runs_none (suc (suc n)) = omega (arith, runs_none (suc n))

-- what is kept of a unit forms no more runs than the limit
retained-runs : (limit : ℕ) → 1 ≤ limit → (c : Change) (unit : ℕ) (verified : Bool) (old : List (Option ℕ)) → runs (retained_blocks limit c unit verified old) ≤ limit
unfolding retained_blocks within_limit
retained-runs limit l c unit verified old =
    let ks : List (Option ℕ) = candidates c unit verified old in
    if-cases (λ (xs : List (Option ℕ)). runs xs ≤ limit) (leb (runs ks) limit) ks (replicate (length ks) none)
    (λ e. leb-true (runs ks) limit e) (λ e. omega (arith, l, runs_none (length ks)))

-- ---- the fact about kept blocks

-- what is kept of a unit's old blocks, and in at most so many runs
pub record KeptRight (limit : ℕ) (c : Change) (unit : ℕ) (verified : Bool) (old kept : List (Option ℕ)) : Type 0 where
  -- an entry for each block that the unit has after the change
  pub many : length kept ≡ blocks_after c unit
  -- a kept block is an old one in its place
  pub place : Keeps kept old
  -- of a unit that was checked
  pub checked : (i p : ℕ) → get_or kept i none ≡ some p → verified ≡ true
  -- inside both lengths
  pub inside : (i p : ℕ) → get_or kept i none ≡ some p → suc i * block_bytes ≤ min (valid_length c.old_size unit) (valid_length c.new_size unit)
  -- and unwritten
  pub unwritten : (i p : ℕ) → get_or kept i none ≡ some p → written_in c (unit * unit_bytes + i * block_bytes) (unit * unit_bytes + suc i * block_bytes) ≡ false
  pub few : runs kept ≤ limit

-- what an intact block is
intact-means : (c : Change) (unit i : ℕ) → intact c unit i ≡ true
    → (suc i * block_bytes ≤ min (valid_length c.old_size unit) (valid_length c.new_size unit))
    × (written_in c (unit * unit_bytes + i * block_bytes) (unit * unit_bytes + suc i * block_bytes) ≡ false)
unfolding intact
intact-means c unit i t =
    let valid : ℕ = min (valid_length c.old_size unit) (valid_length c.new_size unit) in
    let written : Bool = written_in c (unit * unit_bytes + i * block_bytes) (unit * unit_bytes + suc i * block_bytes) in
    (leb-true (suc i * block_bytes) valid (and_left (leb (suc i * block_bytes) valid) (not written) t), not-true written (and_right (leb (suc i * block_bytes) valid) (not written) t))

-- W-207: "The fact about kept blocks is to be proved for a limit from 1 to 4, and both callers use it." It holds for every limit from 1 on; a limit of 0 is
-- none, since a unit of which nothing is kept is one run
pub kept-right : (limit : ℕ) → 1 ≤ limit → (c : Change) (unit : ℕ) (verified : Bool) (old : List (Option ℕ)) → KeptRight limit c unit verified old (retained_blocks limit c unit verified old)
kept-right limit l c unit verified old = record {
  many = length_retained limit c unit verified old;
  place = λ i p e. (why i p e).old;
  checked = λ i p e. (why i p e).checked;
  inside = λ i p e. (intact-means c unit i (why i p e).unwritten).0;
  unwritten = λ i p e. (intact-means c unit i (why i p e).unwritten).1;
  few = retained-runs limit l c unit verified old;
}
  where
    why : (i p : ℕ) → get_or (retained_blocks limit c unit verified old) i none ≡ some p → KeptFor c unit verified old i p
    why = retained-for limit c unit verified old
