-- The blocks that a unit is given are those of the rules.
-- Assumes nothing.
use mathlib.Core.Path.{◌≡◌, sym, ap, ◌∙◌}
use mathlib.Core.Bool.{Bool, true, false, not}
use mathlib.Core.List.{List, ◌++◌}
use mathlib.Core.Option.{Option}
use Prim.Native.Nat.{ℕ, ◌≤◌, ◌<◌}
use native.Mathlib.Omega.{arith}
use lib.ListN.{length, take}
use borrow.Author.Tests.{lt-ltb, le-ltb}
use Rattle.rules.specs.Kept.{wanted, assigned}
use Rattle.rules.specs.Allocation.{too_few, allocate_data}
use Rattle.rules.proofs.ListLaws.{clash}
use Rattle.rules.proofs.AllocationLaws.{length-allocate_data, too_few-allocate_data}
use Rattle.allocation.specs.Carried.{Carried, Allocates}
use Rattle.allocation.specs.declared.Allocated.{Allocated}
use Rattle.rewrite.specs.declared.Given.{Given}
use Rattle.rewrite.specs.Steps.{given_blocks}
use Rattle.rewrite.specs.Given.{Gives}

module _ (total : ℕ) (used : ℕ → Bool) (taken : List ℕ) (hint : ℕ) (kept : List (Option ℕ)) (n want : ℕ) (map blocks : List ℕ) (a : Allocated) (r : Given)
    (w : want ≡ wanted kept) (h : Allocates total used hint taken want a) (k : Carried total used (taken ++ allocate_data total used hint taken want) map a.cursors.past)
    (ec : r.count ≡ a.taken.count) (eh : r.hint ≡ a.hint) (ep : r.cursors.past ≡ a.cursors.past) where
  -- the answer for what the unit wants
  asked : Allocates total used hint taken (wanted kept) a
  asked = rw w at h

  -- and what the next unit finds
  left : Carried total used (taken ++ allocate_data total used hint taken (wanted kept)) map r.cursors.past
  left = rw ep (rw w at k)

  -- there are enough
  pub gives-enough : want ≤ a.taken.count → r.enough ≡ true → take n blocks ≡ assigned kept (take (wanted kept) a.taken.blocks) → Gives total used taken hint kept n map blocks r
  unfolding given_blocks
  gives-enough e g p =
      let few : too_few total used taken (wanted kept) ≡ false =
      too_few-allocate_data total used hint taken (wanted kept) ∙ le-ltb (length (allocate_data total used hint taken (wanted kept))) (wanted kept) (omega (arith, e, w, asked.count)) in
      let many : a.taken.count ≡ wanted kept = asked.count ∙ length-allocate_data total used hint taken (wanted kept) few in
      let new : take (wanted kept) a.taken.blocks ≡ allocate_data total used hint taken (wanted kept) = ap (λ (x : ℕ). take x a.taken.blocks) (sym many) ∙ asked.given in
      record {
        enough_is = g ∙ sym (ap not few);
        count_is = ec ∙ asked.count;
        hint_is = eh ∙ asked.hinted;
        carried = left;
        placed = λ y. p ∙ ap (assigned kept) new;
      }

  -- there are not
  pub gives-few : a.taken.count < want → r.enough ≡ false → Gives total used taken hint kept n map blocks r
  unfolding given_blocks
  gives-few e g = record {
    enough_is = g ∙ sym (ap not full);
    count_is = ec ∙ asked.count;
    hint_is = eh ∙ asked.hinted;
    carried = left;
    placed = λ y. absurd (clash g y);
  }
    where
      full : too_few total used taken (wanted kept) ≡ true
      full = too_few-allocate_data total used hint taken (wanted kept) ∙ lt-ltb (length (allocate_data total used hint taken (wanted kept))) (wanted kept) (omega (arith, e, w, asked.count))
