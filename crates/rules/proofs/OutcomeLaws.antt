-- What becomes of a call, by its tests in turn: the first that holds refuses it, and an accepted call passed them all.
-- Assumes nothing.
use mathlib.Core.Path.{◌≡◌, refl}
use mathlib.Core.List.{List, [], ◌∷◌}
use mathlib.Core.Bool.{true, false}
use Prim.Native.Nat.{ℕ}
use native.Mathlib.Omega.{arith}
use Rattle.rules.specs.Integrity.{store_cases}
use Rattle.rules.specs.Store.{Store}
use Rattle.rules.specs.Refusal.{Refusal, Case, Outcome, number_of, first_case, result}
use Rattle.rules.specs.Refusal.Outcome.{refuse}
use Rattle.rules.proofs.ListLaws.{clash, if-cases, Each, each_none, each_more, each-any}
use Rattle.rules.proofs.PassLaws.{Passes}
use Rattle.rules.proofs.Refused.{Numbered, numbered}

-- no case holds
abbrev pub NoneHolds : List Case → Type 0
NoneHolds [] = Unit {0}
NoneHolds (c ∷ cs) = (c.holds ≡ false) × NoneHolds cs

-- what every case that holds refuses with has, and what the call goes on with has where none holds
pub first_of-cases : (P : Outcome → Type 0) {cases : List Case} (next : Outcome)
    → Each (λ c. c.holds ≡ true → P (refuse c.refusal)) cases → (NoneHolds cases → P next) → P (first_case cases next)
unfolding first_case
first_of-cases P next each_none h = h tt
first_of-cases P next (each_more {x = c} {xs = cs} g gs) h =
    if-cases P c.holds (refuse c.refusal) (first_case cs next) g (λ e. first_of-cases P next gs (λ k. h (e, k)))

-- a refused call does not have the number 0
pub never-zero : (s : Store) (out : List ℕ) (r : Refusal) → (result s out (refuse r)).number ≡ 0 → ⊥
unfolding result
never-zero s out r e = let n : Numbered (number_of r) = numbered r in omega (arith, n.least)

-- an accepted call went on, and what it went on with was accepted
pub accepted-cases : (s : Store) (out : List ℕ) (P : Outcome → Type 0) (cases : List Case) (next : Outcome)
    → (NoneHolds cases → (result s out next).number ≡ 0 → P next) → (result s out (first_case cases next)).number ≡ 0 → P (first_case cases next)
accepted-cases s out P cases next h =
    first_of-cases (λ o. (result s out o).number ≡ 0 → P o) next (each-any (λ c q e. absurd (never-zero s out c.refusal e)) cases) h

-- where no case held, the call went on
pub record Through (cases : List Case) (o next : Outcome) : Type 0 where
  pub none : NoneHolds cases
  pub goes_on : o ≡ next

-- an accepted call
pub through : (s : Store) (out : List ℕ) (cases : List Case) (next : Outcome) → (result s out (first_case cases next)).number ≡ 0
    → Through cases (first_case cases next) next
through s out cases next = accepted-cases s out (λ o. Through cases o next) cases next (λ n e. record { none = n; goes_on = refl })

-- where refusals 1 and 2 do not come the store passes
pub store-passes : (s : Store) → NoneHolds (store_cases s) → Passes s
unfolding store_cases
store-passes s n = record { lengths = n.0; rules = n.1.0 }

-- a store that passes refusals 1 and 2 lets every call go on
pub goes_on : (s : Store) (next : Outcome) → Passes s → first_case (store_cases s) next ≡ next
unfolding store_cases
goes_on s next p =
    first_of-cases (λ o. o ≡ next) next (each_more (λ h. absurd (clash p.lengths h)) (each_more (λ h. absurd (clash p.rules h)) each_none)) (λ n. refl)
