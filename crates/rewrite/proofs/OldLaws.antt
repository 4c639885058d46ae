-- What is known of a unit's old bytes, by what reading it answers.
-- Assumes nothing.
use mathlib.Core.Path.{◌≡◌, refl, sym, ap, ◌∙◌}
use mathlib.Core.Bool.{Bool, true, false, not, ◌&&◌}
use Prim.Native.Nat.{ℕ, ◌*◌, ◌<◌, ◌-◌, min}
use native.Mathlib.Omega.{arith}
use lib.Dec.{ltb}
use lib.ListN.{replicate, length-replicate}
use borrow.Author.Tests.{ltb-true, not-true, not-false}
use Rattle.rules.specs.Sizes.{unit_bytes}
use Rattle.rules.specs.Units.{Change, touches, reads_old, covers_old, valid_length}
use Rattle.rules.specs.Inspect as rules
use Rattle.rules.specs.Inspect.Inspected.{damaged, hole, checked}
use Rattle.rules.proofs.ListLaws.{if-true, if-false, and_left}
use Rattle.kept.specs.Change.{IsChange}
use Rattle.std.proofs.Common.{Ok, Err}
use Rattle.rules.specs.Refusal.{number_of}
use Rattle.format.specs.Refusals.{refusal_of}
use Rattle.format.specs.declared.refusal.Refusal.{Refusal}
use Rattle.inspect.specs.Answer.{Answers}
use Rattle.inspect.specs.declared.Inspected.TheVariants.{Hole, Checked}
use Rattle.rewrite.specs.declared.Old.TheVariants.{Refused, Untouched, Unread, Verified}
use Rattle.rewrite.specs.Steps.{read_as, old_as}

-- a unit whose old bytes are read has some
pub reads-inside : (old new start len unit : ℕ) (b : Bool) → ((c : Change) → IsChange c old new start len → b ≡ reads_old c unit) → not b ≡ false → unit * unit_bytes < old
unfolding reads_old valid_length
reads-inside old new start len unit b h e =
    let c : Change = record { object = 0; old_size = old; new_size = new; offset = start; bytes = replicate len 0 } in
    let k : IsChange c old new start len = record { old = refl; new = refl; from = refl; written = length-replicate len 0 } in
    let r : (ltb 0 (min (old - unit * unit_bytes) unit_bytes) && not (covers_old c unit)) ≡ true = sym (h c k) ∙ not-false b e in
    omega (arith, ltb-true 0 (min (old - unit * unit_bytes) unit_bytes) (and_left (ltb 0 (min (old - unit * unit_bytes) unit_bytes)) (not (covers_old c unit)) r))

module _ (c : Change) (unit : ℕ) (i : rules.Inspected) (b : Bool) (h : b ≡ reads_old c unit) where
  -- a unit that is not read
  pub old-unread : not b ≡ true → Unread ≡ old_as c unit i
  unfolding old_as
  old-unread e = sym (if-false (reads_old c unit) (read_as c unit i) Unread (sym h ∙ not-true b e))

  module _ (e : not b ≡ false) where
    -- a unit that is read
    old-read : read_as c unit i ≡ old_as c unit i
    unfolding old_as
    old-read = sym (if-true (reads_old c unit) (read_as c unit i) Unread (sym h ∙ not-false b e))

    -- a refusal
    pub old-refused : (n : ℕ) (r : Refusal) → n ≡ number_of (refusal_of r) → Answers (Err r) i → Refused n ≡ old_as c unit i
    unfolding read_as
    old-refused n r m q = sym (ap (read_as c unit) q ∙ ap Refused (sym m)) ∙ old-read

    -- right bytes
    pub old-verified : Answers (Ok Checked) i → Verified ≡ old_as c unit i
    unfolding read_as
    old-verified q = sym (ap (read_as c unit) q.1) ∙ old-read

    -- a hole that is touched
    pub old-touched : Answers (Ok Hole) i → (t : Bool) → t ≡ touches c unit → t ≡ true → Unread ≡ old_as c unit i
    unfolding read_as
    old-touched q t f g = sym (ap (read_as c unit) q ∙ if-true (touches c unit) Unread Untouched (sym f ∙ g)) ∙ old-read

    -- one that is not
    pub old-untouched : Answers (Ok Hole) i → (t : Bool) → t ≡ touches c unit → t ≡ false → Untouched ≡ old_as c unit i
    unfolding read_as
    old-untouched q t f g = sym (ap (read_as c unit) q ∙ if-false (touches c unit) Unread Untouched (sym f ∙ g)) ∙ old-read
