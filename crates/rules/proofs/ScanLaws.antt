-- Laws of a test of the numbers of a range, one after the other: what a loop has tested so far, and after one more.
-- Assumes nothing.
use mathlib.Core.Path.{◌≡◌, refl, sym, ap, ◌∙◌}
use mathlib.Core.Bool.{Bool, true, false, not, ◌&&◌}
use Prim.Native.Nat.{ℕ, ◌+◌, ◌≤◌, ◌<◌}
use native.Mathlib.Nat.{zero-add}
use native.Mathlib.Omega.{arith}
use borrow.Author.Tests.{not-true, not-false}
use Rattle.rules.specs.Lists.{range, all}
use Rattle.rules.proofs.ListLaws.{test-cases, clash, and_intro, all_append, range-add, all-range-at, all-range-of}

-- two tests that pass together are one
pub same_test : (a b : Bool) → (a ≡ true → b ≡ true) → (b ≡ true → a ≡ true) → a ≡ b
same_test true b f g = sym (f refl)
same_test false true f g = g refl
same_test false false f g = refl

module _ (f : ℕ → Bool) where
  -- a range in two parts
  pub scan-add : (first n m : ℕ) → all f (range first (n + m)) ≡ (all f (range first n) && all f (range (first + n) m))
  scan-add first n m = ap (all f) (range-add first n m) ∙ all_append f (range first n) (range (first + n) m)

  -- one number
  pub scan-one : (a : ℕ) → all f (range a 1) ≡ f a
  unfolding all range
  scan-one a = one (f a)
    where
      one : (b : Bool) → (b && true) ≡ b
      one true = refl
      one false = refl

  -- one number more
  pub scan-suc : (first n : ℕ) → all f (range first (n + 1)) ≡ (all f (range first n) && f (first + n))
  scan-suc first n = scan-add first n 1 ∙ ap (λ (b : Bool). all f (range first n) && b) (scan-one (first + n))

  -- none yet
  pub scan-none : (first : ℕ) → all f (range first 0) ≡ true
  unfolding all range
  scan-none first = refl

  -- one more passed
  pub scan-more : (i : ℕ) (m : Bool) → all f (range 0 i) ≡ true → m ≡ f i → not m ≡ false → all f (range 0 (i + 1)) ≡ true
  scan-more i m h e t = scan-suc 0 i ∙ and_intro (all f (range 0 i)) (f (0 + i)) h (ap f (zero-add i) ∙ sym e ∙ not-false m t)

  -- one did not pass
  pub scan-not : (n i : ℕ) (m : Bool) → i < n → m ≡ f i → not m ≡ true → false ≡ all f (range 0 n)
  scan-not n i m l e t =
      let h : f (0 + i) ≡ false = ap f (zero-add i) ∙ sym e ∙ not-true m t in
      test-cases (false ≡ all f (range 0 n)) (all f (range 0 n)) (λ u. absurd (clash h (all-range-at f 0 n u i l))) (λ u. sym u)

  -- all passed
  pub scan-done : (n i : ℕ) → n ≤ i → all f (range 0 i) ≡ true → true ≡ all f (range 0 n)
  scan-done n i l h = sym (all-range-of f 0 n (λ k g. all-range-at f 0 i h k (omega arith)))
