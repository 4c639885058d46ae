-- Laws of runs in the shape in which code counts them: by the last pair of blocks.
-- Assumes nothing.
use mathlib.Core.Path.{◌≡◌, refl, sym, ap, ◌∙◌}
use mathlib.Core.Bool.{Bool, true, false, not}
use mathlib.Core.List.{List, [], ◌∷◌}
use Prim.Native.Nat.{ℕ, zero, suc, ◌+◌, ◌-◌, ◌≤◌, ◌<◌}
use native.Mathlib.Nat.{add_assoc, add_comm, add-zero, le_of_suc-le-suc}
use native.Mathlib.Numerals.{add-one}
use native.Mathlib.Omega.{arith}
use lib.Dec.{eqb}
use lib.ListN.{length, take, get_or}
use borrow.Author.Tests.{not-true, not-false}
use Rattle.std.specs.declared.option.Option as code
use Rattle.std.specs.Prelude.{Some, None, MatchOption, is_some}
use Rattle.std.specs.Option.{option_eq}
use Rattle.rules.specs.Lists.{pick◌then◌else◌}
use Rattle.rules.proofs.ListLaws.{if-true, if-false}
use Rattle.rules.specs.Kept.{continues, runs}
use Rattle.mapping.specs.Entries.{entry_of, entries}
use Rattle.kept.proofs.EntryLaws.{entry-none, entry-some}

-- ---- two blocks

-- the first is not kept
pub continues-none : (a b : ℕ) (o : code.Option ℕ) (r : Bool) → a ≡ 0 → MatchOption o (b ≡ 0) (λ q. q + 1 ≡ b) → is_some o ≡ not r → r ≡ continues (entry_of a) (entry_of b)
unfolding continues entry_of
continues-none a b None r e h n = rw (entry-none a e, entry-none b h) (not-false r (sym n))
continues-none a b (Some q) r e h n = rw (entry-none a e, entry-some b (λ z. omega arith)) (not-true r (sym n))

-- it is
pub continues-some : (a b p : ℕ) (o : code.Option ℕ) (r : Bool) → p + 1 ≡ a → MatchOption o (b ≡ 0) (λ q. q + 1 ≡ b) → r ≡ option_eq eqb o (Some (p + 1)) → r ≡ continues (entry_of a) (entry_of b)
unfolding continues entry_of
continues-some a b p None r e h n = rw (entry-some a (λ z. omega arith), entry-none b h) n
continues-some a b p (Some q) r e h n =
    let l : a - 1 ≡ p = omega arith in
    let m : b - 1 ≡ q = omega arith in
    rw (entry-some a (λ z. omega arith), entry-some b (λ z. omega arith), l, m, ← add-one p) n

-- ---- runs

-- none and one
pub runs-few : (xs : List ℕ) (n : ℕ) → n ≤ length xs → n < 2 → (n ≡ runs (entries (take n xs))) × (n ≤ n)
unfolding runs entries
runs-few xs zero l m = (refl, omega arith)
runs-few [] (suc n) l m = absurd (omega arith)
runs-few (x ∷ xs) (suc zero) l m = (refl, omega arith)
runs-few (x ∷ xs) (suc (suc n)) l m = absurd (omega arith)

-- one block more, by the last pair
pub runs_last : (xs : List ℕ) (m : ℕ) → suc m < length xs
    → runs (entries (take (suc (suc m)) xs)) ≡ runs (entries (take (suc m) xs)) + (pick continues (entry_of (get_or xs m 0)) (entry_of (get_or xs (suc m) 0)) then 0 else 1)
unfolding runs entries
runs_last [] m l = absurd (omega arith)
runs_last (x ∷ []) m l = absurd (omega arith)
runs_last (x ∷ y ∷ ys) zero l = add_comm (pick continues (entry_of x) (entry_of y) then 0 else 1) 1
runs_last (x ∷ y ∷ []) (suc m) l = absurd (omega arith)
runs_last (x ∷ y ∷ z ∷ zs) (suc m) l =
    let one : ℕ = pick continues (entry_of x) (entry_of y) then 0 else 1 in
    ap (λ (k : ℕ). one + k) (runs_last (y ∷ z ∷ zs) m (le_of_suc-le-suc l)) ∙ sym (add_assoc one _ _)

module _ (xs : List ℕ) (n before : ℕ) (few : n ≤ length xs) (more : 2 ≤ n) (h : (before ≡ runs (entries (take (n - 1) xs))) × (before ≤ n - 1)) where
  -- the last pair's place
  last : runs (entries (take n xs)) ≡ before + (pick continues (entry_of (get_or xs (n - 2) 0)) (entry_of (get_or xs (n - 1) 0)) then 0 else 1)
  last =
      let e : n ≡ suc (suc (n - 2)) = omega arith in
      let d : n - 1 ≡ suc (n - 2) = omega arith in
      let t : runs (entries (take (suc (n - 2)) xs)) ≡ before = rw (← d) (sym h.0) in
      rw d (ap (λ (k : ℕ). runs (entries (take k xs))) e ∙ runs_last xs (n - 2) (omega arith)
      ∙ ap (λ (k : ℕ). k + (pick continues (entry_of (get_or xs (n - 2) 0)) (entry_of (get_or xs (suc (n - 2)) 0)) then 0 else 1)) t)

  -- the last block continues the run of the one before it
  pub runs_same : true ≡ continues (entry_of (get_or xs (n - 2) 0)) (entry_of (get_or xs (n - 1) 0)) → (before ≡ runs (entries (take n xs))) × (before ≤ n)
  runs_same t = (sym (last ∙ ap (λ (k : ℕ). before + k) (if-true _ 0 1 (sym t)) ∙ add-zero before), omega (arith, h.1))

  -- it begins one
  pub runs-more : false ≡ continues (entry_of (get_or xs (n - 2) 0)) (entry_of (get_or xs (n - 1) 0)) → (before + 1 ≡ runs (entries (take n xs))) × (before + 1 ≤ n)
  runs-more t = (sym (last ∙ ap (λ (k : ℕ). before + k) (if-false _ 0 1 (sym t))), omega (arith, h.1))
