-- What becomes of a change by the number of its fit: refused by 15 or 16, or carried out.
-- Assumes nothing.
use mathlib.Core.Path.{◌≡◌, ap, ◌∙◌}
use mathlib.Core.List.{List, []}
use Prim.Native.Nat.{ℕ}
use native.Mathlib.Omega.{arith}
use Rattle.rules.specs.Time.{Time}
use Rattle.rules.specs.Head.{decode_head}
use Rattle.rules.specs.Book.{decode_books}
use Rattle.rules.specs.Store.{Store, decode, decode_with, encode_into}
use Rattle.rules.specs.Refusal.{result}
use Rattle.rules.specs.Refusal.Outcome.{accept}
use Rattle.rules.specs.Units.{Change}
use Rattle.rules.specs.Rewrite.{Rewritten, Progress, Plan}
use Rattle.rules.specs.Rewrite.Plan.{planned}
use Rattle.rules.specs.Finish.{finished}
use Rattle.rules.specs.Write.{carried_out}
use Rattle.finish_extents.specs.Stretch.{Describes}
use Rattle.finish_fit.specs.Fits.{Fits}
use Rattle.finish_fit.proofs.FitLaws.{fit-cases}
use Rattle.file.specs.Change.{numbered}
use Rattle.file.proofs.OutcomeLaws.{groups-refused, extents-refused, carried-done}

module _ (answer : ℕ) (c : Change) (time : Time) (s : Store) (rs : List Rewritten) (p : Progress) (k : Plan) (e : k ≡ planned rs p)
    {object g m : ℕ} {us bs : List ℕ} {number left place cut count : ℕ} {made : List ℕ} (file : object ≡ c.object) (groups : g ≡ (decode_head s.head).groups)
    (extents : m ≡ (decode_head s.head).extents) (f : Fits object us bs g s.groups m s.extents number left place cut count made) (d : Describes us bs rs) where
  -- said of the store
  said : Fits c.object us bs (decode_head s.head).groups s.groups (decode_head s.head).extents s.extents number left place cut count made
  said = rw (file, groups, extents) at f

  -- a number that is not 0 is the planned change's, and the store is left
  pub fit_refused : (number ≡ 0 → ⊥) → numbered number s ≡ result s [] (carried_out answer c time s k)
  unfolding finished decode decode_with decode_books
  fit_refused z =
      fit-cases said rs d (numbered number s ≡ result s [] (carried_out answer c time s k))
      (λ q a. ap (λ (n : ℕ). numbered n s) q ∙ groups-refused answer c time s rs p k e a)
      (λ q a b. ap (λ (n : ℕ). numbered n s) q ∙ extents-refused answer c time s rs p k e a b)
      (λ q a b. absurd (z q))

  -- with 0 it is carried out
  pub fit-carried : number ≡ 0 → carried_out answer c time s k ≡ accept answer (encode_into s (finished c time rs p (decode s))) []
  unfolding finished decode decode_with decode_books
  fit-carried z =
      fit-cases said rs d (carried_out answer c time s k ≡ accept answer (encode_into s (finished c time rs p (decode s))) [])
      (λ q a. absurd (omega (arith, z, q)))
      (λ q a b. absurd (omega (arith, z, q)))
      (λ q a b. carried-done answer c time s rs p k e a b)
