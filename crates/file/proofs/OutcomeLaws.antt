-- A change by its plan: refused by one of its units, by 15 or 16, or carried out.
-- Assumes nothing.
use mathlib.Core.Path.{◌≡◌, refl, sym, ap, ◌∙◌}
use mathlib.Core.Bool.{true, false}
use mathlib.Core.List.{List, []}
use Prim.Native.Nat.{ℕ, ◌≤◌, ◌<◌}
use borrow.Author.Tests.{lt-ltb, le-ltb}
use lib.ListN.{length}
use Rattle.rules.specs.Lists.{pick◌then◌else◌}
use Rattle.rules.specs.Time.{Time}
use Rattle.rules.specs.Extent.{extent_bytes}
use Rattle.rules.specs.Group.{group_bytes}
use Rattle.rules.specs.Book.{book_places}
use Rattle.rules.specs.Store.{Store, Volume, decode, encode_into}
use Rattle.rules.specs.Refusal.{number_of, first_case, result}
use Rattle.rules.specs.Refusal.Outcome.{refuse, accept}
use Rattle.rules.specs.Refusal.Refusal.{no_group_place, no_extent_place}
use Rattle.rules.specs.Units.{Change}
use Rattle.rules.specs.Rewrite.{Rewritten, Progress, Plan}
use Rattle.rules.specs.Rewrite.Plan.{refused, planned}
use Rattle.rules.specs.Finish.{finished}
use Rattle.rules.specs.Write.{groups_full, extents_full, fit_cases, carried_out}
use Rattle.rules.specs.Answers.{plan_number}
use Rattle.rules.proofs.ListLaws.{if-true, if-false}
use Rattle.file.specs.Change.{numbered}

module _ (answer : ℕ) (c : Change) (time : Time) (s : Store) where
  -- a plan that is refused gives its number and leaves the store
  pub plan-refused : (k : Plan) (n : ℕ) → n ≡ plan_number k → (n ≡ 0 → ⊥) → numbered n s ≡ result s [] (carried_out answer c time s k)
  unfolding plan_number carried_out result
  plan-refused (refused r) n e z = rw e refl
  plan-refused (planned rs p) n e z = absurd (z e)

  module _ (rs : List Rewritten) (p : Progress) where
    -- the volume that is left where the change is carried out
    abbrev left : Volume
    left = finished c time rs p (decode s)

    -- 15
    pub groups-refused : (k : Plan) → k ≡ planned rs p → book_places group_bytes s.groups < length left.books.groups
        → numbered 15 s ≡ result s [] (carried_out answer c time s k)
    unfolding carried_out fit_cases groups_full first_case result number_of
    groups-refused k e h =
        let t : groups_full left s ≡ true = lt-ltb _ _ h in
        rw e (sym (ap (result s []) (if-true (groups_full left s) (refuse no_group_place) _ t)))

    -- 16
    pub extents-refused : (k : Plan) → k ≡ planned rs p → length left.books.groups ≤ book_places group_bytes s.groups
        → book_places extent_bytes s.extents < length left.books.extents → numbered 16 s ≡ result s [] (carried_out answer c time s k)
    unfolding carried_out fit_cases groups_full extents_full first_case result number_of
    extents-refused k e g h =
        let f : groups_full left s ≡ false = le-ltb _ _ g in
        let t : extents_full left s ≡ true = lt-ltb _ _ h in
        rw e (sym (ap (result s []) (if-false (groups_full left s) (refuse no_group_place) _ f ∙ if-true (extents_full left s) (refuse no_extent_place) _ t)))

    -- it is carried out
    pub carried-done : (k : Plan) → k ≡ planned rs p → length left.books.groups ≤ book_places group_bytes s.groups
        → length left.books.extents ≤ book_places extent_bytes s.extents
        → carried_out answer c time s k ≡ accept answer (encode_into s left) []
    unfolding carried_out fit_cases groups_full extents_full first_case
    carried-done k e g h =
        let f : groups_full left s ≡ false = le-ltb _ _ g in
        let t : extents_full left s ≡ false = le-ltb _ _ h in
        rw e (if-false (groups_full left s) (refuse no_group_place) _ f ∙ if-false (extents_full left s) (refuse no_extent_place) _ t)
