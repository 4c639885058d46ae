-- The bytes that checked units give a reader: those of their blocks one after another, zeros where a block is not mapped, up to the file's end.
-- Assumes nothing.
use mathlib.Core.Path.{◌≡◌, refl, sym, ap, ◌∙◌}
use mathlib.Core.Bool.{true, false≢true}
use mathlib.Core.Option.{Option, none, some}
use mathlib.Core.List.{List, [], ◌∷◌, ◌++◌, map, flat_map, append-nil}
use Prim.Native.Nat.{ℕ, zero, suc, ◌+◌, ◌-◌, ◌*◌, min, ◌≤◌, ◌<◌}
use native.Mathlib.Decide.{dec_lt}
use native.Mathlib.Omega.{arith}
use lib.ListN.{length, take, drop, get_or, replicate, length-append, length-take, length-drop, length-replicate, length-map, take-append-drop, replicate-append-replicate, get_or-map, get_or-eq_default}
use lib.Seq.{get_or-take, get_or-drop, length-take-le, take_all, take_at, take-append-le, take-append-add}
use Rattle.rules.specs.Lists.{maybe, given, all, begun}
use Rattle.rules.specs.Sizes.{block_bytes, unit_blocks, unit_bytes}
use Rattle.rules.specs.Store.{block_at}
use Rattle.rules.specs.Refusal.{Refusal, number_of}
use Rattle.rules.specs.Units.{valid_length}
use Rattle.rules.specs.Inspect as rules
use Rattle.rules.specs.Inspect.Inspected.{damaged, hole, checked}
use Rattle.rules.specs.Read as read
use Rattle.rules.specs.Read.{follow, then_units}
use Rattle.rules.specs.Read.Checked.{failed, bytes}
use Rattle.rules.specs.Answers.{checked_bytes}
use Rattle.rules.proofs.Refused.{numbered}
use Rattle.rules.proofs.CountLaws.{flat_map-append}
use Rattle.history.proofs.UnitLaws.{valid-blocks}
use Rattle.mapping.specs.Entries.{entry_of, entries, Inside}
use Rattle.inspect.specs.Mapped.{bytes_at, valid_blocks, valid_of, inspect_mapped, check_mapped}
use Rattle.rules.specs.Answers.{checked_number}
use Rattle.inspect.proofs.BlockLaws.{length-block}
use Rattle.inspect.proofs.InspectLaws.{checked-backed, hole-unmapped}

-- zeros behind zeros
zeros-add : (n m k : ℕ) → n + m ≡ k → replicate {A = ℕ} n 0 ++ replicate m 0 ≡ replicate k 0
zeros-add n m k e = replicate-append-replicate n m 0 ∙ ap (λ (l : ℕ). replicate {A = ℕ} l 0) e

-- the first of zeros
zeros-take : (n m : ℕ) → n ≤ m → take n (replicate {A = ℕ} m 0) ≡ replicate n 0
zeros-take n m l =
    let e : n + (m - n) ≡ m = omega arith in
    ap (take n) (sym (zeros-add n (m - n) m e)) ∙ take_at (replicate {A = ℕ} n 0) (replicate (m - n) 0) n (length-replicate {A = ℕ} n 0)

-- units one after another of which one was refused gave no bytes
failed-none : (r : Refusal) (xs : List ℕ) → failed r ≡ bytes xs → ⊥
unfolding checked_number
failed-none r xs e = let z : number_of r ≡ 0 = ap checked_number e in omega (arith, (numbered r).least)

-- a unit's bytes come first, and those of the others behind them
then_found : (valid : ℕ) (x : rules.Inspected) (rest : read.Checked) (us xs : List ℕ) → (x ≡ hole → replicate valid 0 ≡ us) → ((zs : List ℕ) → x ≡ checked zs → zs ≡ us)
    → then_units valid x rest ≡ bytes xs → (ys : List ℕ) × (rest ≡ bytes ys) × (xs ≡ us ++ ys)
unfolding then_units follow checked_bytes
then_found valid (damaged r) rest us xs f g e = absurd (failed-none r xs e)
then_found valid hole (failed r) us xs f g e = absurd (failed-none r xs e)
then_found valid hole (bytes ys) us xs f g e = (ys, refl, ap checked_bytes (sym e) ∙ ap (λ (zs : List ℕ). zs ++ ys) (f refl))
then_found valid (checked zs) (failed r) us xs f g e = absurd (failed-none r xs e)
then_found valid (checked zs) (bytes ys) us xs f g e = (ys, refl, ap checked_bytes (sym e) ∙ ap (λ (ws : List ℕ). ws ++ ys) (g zs refl))

-- two lists joined, of which the first is cut only where nothing of the second is taken
take-both : (n m k : ℕ) (xs ys : List ℕ) → length xs ≡ k → n ≤ k → (n < k → m ≡ 0) → take n xs ++ take m ys ≡ take (n + m) (xs ++ ys)
take-both n m k xs ys e l h = go (dec_lt n k)
  where
    go : Dec (n < k) → take n xs ++ take m ys ≡ take (n + m) (xs ++ ys)
    go (yes q) =
        let z : m ≡ 0 = h q in
        let w : n + m ≡ n = omega arith in
        rw (w, z) (append-nil (take n xs) ∙ sym (take-append-le n xs ys (omega arith)))
    go (no q) =
        let w : n ≡ length xs = omega arith in
        rw (take_all n xs (omega arith)) (sym (ap (λ (i : ℕ). take (i + m) (xs ++ ys)) w ∙ take-append-add xs ys m))

module _ (image : List ℕ) where
  -- a block's bytes, zeros where it is not mapped
  abbrev block_found : Option ℕ → List ℕ
  block_found o = maybe (replicate block_bytes 0) (block_at image) o

  -- those of blocks one after another
  abbrev pub blocks_found : List (Option ℕ) → List ℕ
  blocks_found mapped = flat_map block_found mapped

  -- each block is whole
  abbrev Whole : List (Option ℕ) → Type 0
  Whole mapped = (i : ℕ) → length (block_found (get_or mapped i none)) ≡ block_bytes

  -- one that is not mapped is
  whole-none : length (block_found none) ≡ block_bytes
  unfolding maybe
  whole-none = length-replicate {A = ℕ} block_bytes 0

  -- so are the first of such
  whole_take : (n : ℕ) (mapped : List (Option ℕ)) → Whole mapped → Whole (take n mapped)
  whole_take n mapped h i = go (dec_lt i n)
    where
      go : Dec (i < n) → length (block_found (get_or (take n mapped) i none)) ≡ block_bytes
      go (yes l) = rw (get_or-take n mapped i none l) (h i)
      go (no l) = rw (get_or-eq_default (take n mapped) none {n = i} (simp length-take (omega arith))) whole-none

  -- and the rest
  whole_drop : (n : ℕ) (mapped : List (Option ℕ)) → Whole mapped → Whole (drop n mapped)
  whole_drop n mapped h i = rw (get_or-drop n mapped i none) (h (n + i))

  -- how many bytes there are
  length_found : (mapped : List (Option ℕ)) → Whole mapped → length (blocks_found mapped) ≡ length mapped * block_bytes
  unfolding flat_map
  length_found [] h = refl
  length_found (o ∷ mapped) h =
      let r : length (blocks_found mapped) ≡ length mapped * block_bytes = length_found mapped (λ i. h (suc i)) in
      length-append (block_found o) (blocks_found mapped) ∙ omega (arith, r, h 0)

  -- blocks that are all mapped
  found-given : (mapped : List (Option ℕ)) → all given mapped ≡ true → bytes_at image mapped ≡ blocks_found mapped
  unfolding bytes_at flat_map all given maybe
  found-given [] h = refl
  found-given (none ∷ mapped) h = absurd (false≢true h)
  found-given (some p ∷ mapped) h = ap (λ (xs : List ℕ). block_at image p ++ xs) (found-given mapped h)

  -- blocks none of which is
  found_none : (mapped : List (Option ℕ)) → ((i : ℕ) → get_or mapped i none ≡ none) → blocks_found mapped ≡ replicate (length mapped * block_bytes) 0
  unfolding flat_map maybe
  found_none [] h = refl
  found_none (o ∷ mapped) h =
      let e : o ≡ none = h 0 in
      rw (e, found_none mapped (λ i. h (suc i))) (zeros-add block_bytes (length mapped * block_bytes) (suc (length mapped) * block_bytes) (omega arith))

  -- the bytes of blocks in two parts
  found-split : (n : ℕ) (mapped : List (Option ℕ)) → blocks_found mapped ≡ blocks_found (take n mapped) ++ blocks_found (drop n mapped)
  found-split n mapped = ap blocks_found (sym (take-append-drop n mapped)) ∙ flat_map-append block_found (take n mapped) (drop n mapped)

  -- ---- a unit

  module _ (uuid : List ℕ) (object size unit : ℕ) (mapped : List (Option ℕ)) (slot : Option ℕ) (most : length mapped ≡ unit_blocks) (whole : Whole mapped) where
    -- a hole's zeros
    hole-found : inspect_mapped image uuid object size unit mapped slot ≡ hole → replicate (valid_length size unit) 0 ≡ take (valid_length size unit) (blocks_found mapped)
    unfolding valid_length
    hole-found e =
        sym (rw (found_none mapped (hole-unmapped image uuid object size unit mapped slot e), most) (zeros-take (valid_length size unit) (unit_blocks * block_bytes) (omega arith)))

    -- the bytes of a unit that is checked
    checked-found : (xs : List ℕ) → inspect_mapped image uuid object size unit mapped slot ≡ checked xs → xs ≡ take (valid_length size unit) (blocks_found mapped)
    unfolding valid_of valid_blocks
    checked-found xs e =
        let h = checked-backed image uuid object size unit mapped slot xs e in
        let n : ℕ = begun (valid_length size unit) block_bytes in
        let l : length (blocks_found (take n mapped)) ≡ n * block_bytes =
        length_found (take n mapped) (whole_take n mapped whole) ∙ ap (λ (k : ℕ). k * block_bytes) (length-take-le n mapped (omega (arith, valid-blocks size unit))) in
        h.1
        ∙ ap (take (valid_length size unit)) (found-given (take n mapped) h.0)
        ∙ sym (ap (take (valid_length size unit)) (found-split n mapped) ∙ take-append-le (valid_length size unit) (blocks_found (take n mapped)) (blocks_found (drop n mapped)) (omega arith))

  -- ---- units one after another

  check-found : (uuid : List ℕ) (object size : ℕ) (slots : List (Option ℕ)) (unit : ℕ) (mapped : List (Option ℕ)) (xs : List ℕ) → length mapped ≡ unit_blocks * length slots → Whole mapped
      → check_mapped image uuid object size unit slots mapped ≡ bytes xs → xs ≡ take (min (size - unit * unit_bytes) (unit_bytes * length slots)) (blocks_found mapped)
  unfolding check_mapped checked_bytes valid_length
  check-found uuid object size [] unit mapped xs l h e =
      let z : min (size - unit * unit_bytes) (unit_bytes * 0) ≡ 0 = omega arith in
      rw z (ap checked_bytes (sym e))
  check-found uuid object size (slot ∷ slots) unit mapped xs l h e =
      let first : List (Option ℕ) = take unit_blocks mapped in
      let others : List (Option ℕ) = drop unit_blocks mapped in
      let a : length (take unit_blocks mapped) ≡ unit_blocks = length-take-le unit_blocks mapped (omega arith) in
      let b : length (drop unit_blocks mapped) ≡ unit_blocks * length slots = length-drop unit_blocks mapped ∙ omega arith in
      let w : Whole first = whole_take unit_blocks mapped h in
      let n : ℕ = valid_length size unit in
      let m : ℕ = min (size - suc unit * unit_bytes) (unit_bytes * length slots) in
      let t = then_found n (inspect_mapped image uuid object size unit first slot) (check_mapped image uuid object size (suc unit) slots others) (take n (blocks_found first)) xs
      (hole-found uuid object size unit first slot a w) (checked-found uuid object size unit first slot a w) e in
      let r : t.0 ≡ take m (blocks_found others) = check-found uuid object size slots (suc unit) others t.0 b (whole_drop unit_blocks mapped h) t.1 in
      let k : n + m ≡ min (size - unit * unit_bytes) (unit_bytes * suc (length slots)) = omega arith in
      let c : length (blocks_found first) ≡ unit_bytes = length_found first w ∙ omega arith in
      t.2 ∙ ap (λ (ys : List ℕ). take n (blocks_found first) ++ ys) r
      ∙ take-both n m unit_bytes (blocks_found first) (blocks_found others) c (omega arith) (λ q. omega arith)
      ∙ ap (λ (ys : List ℕ). take (n + m) ys) (sym (found-split unit_blocks mapped)) ∙ ap (λ (i : ℕ). take i (blocks_found mapped)) k

  -- ---- blocks in an array

  -- what an entry names is whole where it lies in the image
  whole-entry : (x : ℕ) → x * block_bytes ≤ length image → length (block_found (entry_of x)) ≡ block_bytes
  unfolding entry_of maybe
  whole-entry zero l = whole-none
  whole-entry (suc p) l = length-block image p l

  -- the bytes of units that `check_units` did not refuse
  pub found-bytes : (uuid : List ℕ) (object size first : ℕ) (slots blocks xs : List ℕ) → Inside image blocks → length blocks ≡ unit_blocks * length slots
      → check_mapped image uuid object size first (entries slots) (entries blocks) ≡ bytes xs
      → xs ≡ take (min (size - first * unit_bytes) (unit_bytes * length slots)) (blocks_found (entries blocks))
  unfolding entries entry_of
  found-bytes uuid object size first slots blocks xs s l e =
      let k : length (map entry_of slots) ≡ length slots = length-map slots entry_of in
      let d : length (map entry_of blocks) ≡ length blocks = length-map blocks entry_of in
      let w : Whole (map entry_of blocks) = λ i. rw (get_or-map entry_of blocks i 0) (whole-entry (get_or blocks i 0) (s.each i)) in
      rw k at (check-found uuid object size (map entry_of slots) first (map entry_of blocks) xs (d ∙ l ∙ ap (λ (n : ℕ). unit_blocks * n) (sym k)) w e)
