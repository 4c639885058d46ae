-- A change's number and the answer of the call that makes it: the refusals are the same, and where there is none the call answers its count.
-- Assumes nothing.
use mathlib.Core.Path.{◌≡◌, ap, ◌∙◌}
use mathlib.Core.List.{List, [], ◌∷◌}
use Prim.Native.Nat.{ℕ}
use Rattle.rules.specs.Time.{Time}
use Rattle.rules.specs.Store.{Store, decode, encode_into}
use Rattle.rules.specs.Refusal.{Refusal, Case, Result, Outcome, first_case, result}
use Rattle.rules.specs.Refusal.Outcome.{refuse, accept}
use Rattle.rules.specs.Units.{Change}
use Rattle.rules.specs.Rewrite.{Plan}
use Rattle.rules.specs.Rewrite.Plan.{refused, planned}
use Rattle.rules.specs.Finish.{finished}
use Rattle.rules.specs.Write.{fit_cases, carried_out}
use Rattle.rules.proofs.ListLaws.{if-true, if-false, if-cases}
use Rattle.rules.proofs.OutcomeLaws.{never-zero}
use Rattle.file.specs.Change.{numbered}
use Rattle.write.specs.Call.{answered}

-- what a number and the store that was left tell of an outcome with this count
pub record Answers (s : Store) (a n : ℕ) (t : Store) (o : Outcome) : Type 0 where
  pub accepted : n ≡ 0 → answered 0 a t ≡ result s [] o
  pub stopped : (n ≡ 0 → ⊥) → answered n 0 t ≡ result s [] o

module _ (s : Store) (a n : ℕ) (t : Store) where
  -- a refusal
  refused-answers : (r : Refusal) → numbered n t ≡ result s [] (refuse r) → Answers s a n t (refuse r)
  refused-answers r e = record {
    accepted = λ z. absurd (never-zero s [] r (rw (ap (λ (x : Result). x.number) e) at z));
    stopped = λ z. e;
  }

  -- the tests in turn
  tests-answer : (cases : List Case) (left : Store) → numbered n t ≡ result s [] (first_case cases (accept 0 left [])) → Answers s a n t (first_case cases (accept a left []))
  unfolding first_case result
  tests-answer [] left e = record {
    accepted = λ z. ap (λ (x : Result). answered 0 a x.store) e;
    stopped = λ z. absurd (z (ap (λ (x : Result). x.number) e));
  }
  tests-answer (c ∷ cs) left e =
      let yes : Outcome = refuse c.refusal in
      let go : Outcome = first_case cs (accept 0 left []) in
      let next : Outcome = first_case cs (accept a left []) in
      if-cases (λ (o : Outcome). Answers s a n t o) c.holds yes next
      (λ h. refused-answers c.refusal (e ∙ ap (result s []) (if-true c.holds yes go h)))
      (λ h. tests-answer cs left (e ∙ ap (result s []) (if-false c.holds yes go h)))

  -- a change that was planned
  pub change-answers : (c : Change) (time : Time) (k : Plan) → numbered n t ≡ result s [] (carried_out 0 c time s k) → Answers s a n t (carried_out a c time s k)
  unfolding carried_out
  change-answers c time (refused r) e = refused-answers r e
  change-answers c time (planned rs p) e = tests-answer (fit_cases (finished c time rs p (decode s)) s) (encode_into s (finished c time rs p (decode s))) e
