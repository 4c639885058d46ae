-- The sixteen entries of one unit, lent from an array of all.
-- Assumes nothing.
use mathlib.Core.Path.{◌≡◌, refl, sym, ap, subst, ◌∙◌}
use mathlib.Core.List.{List, append_assoc}
use Prim.Native.Nat.{ℕ, ◌+◌, ◌-◌, ◌*◌, ◌≤◌, ◌<◌}
use native.Mathlib.Decide.{dec_lt}
use native.Mathlib.Omega.{arith}
use borrow.Rule.Slice.PartMut.{put_mid, post_of, Post-is}
use lib.ListN.{length, take, drop, get_or, length-take, get_or-eq_default}
use lib.Seq.{get_or-take, get_or-drop}
use Rattle.rules.specs.Sizes.{unit_blocks}
use Rattle.rules.specs.Bytes.{part, patch}
use Rattle.rules.specs.Store.{Volume}
use Rattle.rules.specs.Units.{Change}
use Rattle.rules.specs.Rewrite.{Progress}
use Rattle.rules.proofs.ByteLaws.{length-patch, part-patch, length_part}
use Rattle.kept.specs.declared.Change as numbers
use Rattle.rewrite.specs.declared.Progress as code
use Rattle.rewrite.specs.declared.UnitPlan.{UnitPlan}
use Rattle.rewrite.specs.Arguments.{Described, LookedUp, BlocksOf}
use Rattle.rewrite.specs.Answers.{Carries, ChangedAt, UnitPlanned}

module _ (s u : List ℕ) (i : ℕ) (l : unit_blocks * i + unit_blocks ≤ length s) (k : length u ≡ unit_blocks) where
  -- put back, they are a patch
  put-patch : put_mid (unit_blocks * i) (unit_blocks * i + unit_blocks - unit_blocks * i) s u ≡ patch s (unit_blocks * i) u
  unfolding patch
  put-patch =
      let z : post_of (unit_blocks * i) (unit_blocks * i + unit_blocks - unit_blocks * i) s ≡ drop (unit_blocks * i + unit_blocks) s = Post-is (unit_blocks * i) (unit_blocks * i + unit_blocks) s (omega arith) in
      rw (z, k, ← append_assoc (take (unit_blocks * i) s) u (drop (unit_blocks * i + unit_blocks) s)) refl

  -- they are those that were put back
  put-part : part (unit_blocks * i) unit_blocks (put_mid (unit_blocks * i) (unit_blocks * i + unit_blocks - unit_blocks * i) s u) ≡ u
  put-part = ap (part (unit_blocks * i) unit_blocks) put-patch ∙ part-patch s (unit_blocks * i) unit_blocks u k l

  -- and no other entry has changed
  put-changed : ChangedAt i s (put_mid (unit_blocks * i) (unit_blocks * i + unit_blocks - unit_blocks * i) s u)
  put-changed = record {
    rest = put-patch ∙ ap (patch s (unit_blocks * i)) (sym put-part);
    long = ap (λ (x : List ℕ). length x) put-patch ∙ length-patch s (unit_blocks * i) u (omega (arith, l, k));
  }

-- lent to be read
module _ (s : List ℕ) (i : ℕ) where
  -- they are the part
  pub lent-part : take (unit_blocks * i + unit_blocks - unit_blocks * i) (drop (unit_blocks * i) s) ≡ part (unit_blocks * i) unit_blocks s
  unfolding part
  lent-part = let e : unit_blocks * i + unit_blocks - unit_blocks * i ≡ unit_blocks = omega arith in ap (λ (x : ℕ). take x (drop (unit_blocks * i) s)) e

  -- and are sixteen
  pub lent_length : unit_blocks * i + unit_blocks ≤ length s → length (take (unit_blocks * i + unit_blocks - unit_blocks * i) (drop (unit_blocks * i) s)) ≡ unit_blocks
  lent_length l = ap (λ (x : List ℕ). length x) lent-part ∙ length_part s (unit_blocks * i) unit_blocks l

  -- each names one of the device's blocks, where all do
  pub lent-blocks : (total : ℕ) → BlocksOf total s → BlocksOf total (take (unit_blocks * i + unit_blocks - unit_blocks * i) (drop (unit_blocks * i) s))
  lent-blocks total b = record { each = λ j. go j (dec_lt j (unit_blocks * i + unit_blocks - unit_blocks * i)) }
    where
      go : (j : ℕ) → Dec (j < unit_blocks * i + unit_blocks - unit_blocks * i) → get_or (take (unit_blocks * i + unit_blocks - unit_blocks * i) (drop (unit_blocks * i) s)) j 0 ≤ total
      go j (yes l) = rw (get_or-take (unit_blocks * i + unit_blocks - unit_blocks * i) (drop (unit_blocks * i) s) j 0 l, get_or-drop (unit_blocks * i) s j 0) (b.each (unit_blocks * i + j))
      go j (no l) =
          let m : length (take (unit_blocks * i + unit_blocks - unit_blocks * i) (drop (unit_blocks * i) s)) ≤ j =
          rw (length-take (unit_blocks * i + unit_blocks - unit_blocks * i) (drop (unit_blocks * i) s)) (omega (arith, l)) in
          rw (get_or-eq_default (take (unit_blocks * i + unit_blocks - unit_blocks * i) (drop (unit_blocks * i) s)) 0 m) (omega arith)

-- the answer to it, with what it keeps and its blocks put back
module _ (image uuid : List ℕ) (total object : ℕ) (n : numbers.Change) (limit unit slot i : ℕ) (old map₀ map : List ℕ) (left : code.Progress) (ks bs : List ℕ) (r : UnitPlan)
    (h : (v : Volume) (c : Change) (p : Progress) → Described image uuid total object n v c → LookedUp v c unit slot (take (unit_blocks * i + unit_blocks - unit_blocks * i) (drop (unit_blocks * i) old))
    → Carries v p map₀ left → UnitPlanned limit v c unit p map ks bs r)
    (kept blocks : List ℕ) (a : unit_blocks * i + unit_blocks ≤ length kept) (b : length ks ≡ unit_blocks) (d : unit_blocks * i + unit_blocks ≤ length blocks) (e : length bs ≡ unit_blocks) where
  -- no other entry has changed
  pub put-apart : ChangedAt i kept (put_mid (unit_blocks * i) (unit_blocks * i + unit_blocks - unit_blocks * i) kept ks)
      × ChangedAt i blocks (put_mid (unit_blocks * i) (unit_blocks * i + unit_blocks - unit_blocks * i) blocks bs)
  put-apart = (put-changed kept ks i a b, put-changed blocks bs i d e)

  -- the answer
  pub put-planned : (v : Volume) (c : Change) (p : Progress) → Described image uuid total object n v c → LookedUp v c unit slot (part (unit_blocks * i) unit_blocks old) → Carries v p map₀ left
      → UnitPlanned limit v c unit p map (part (unit_blocks * i) unit_blocks (put_mid (unit_blocks * i) (unit_blocks * i + unit_blocks - unit_blocks * i) kept ks))
      (part (unit_blocks * i) unit_blocks (put_mid (unit_blocks * i) (unit_blocks * i + unit_blocks - unit_blocks * i) blocks bs)) r
  put-planned v c p x l k =
      subst (λ (y : List ℕ). UnitPlanned limit v c unit p map (part (unit_blocks * i) unit_blocks (put_mid (unit_blocks * i) (unit_blocks * i + unit_blocks - unit_blocks * i) kept ks)) y r) (sym (put-part blocks bs i d e))
      (subst (λ (y : List ℕ). UnitPlanned limit v c unit p map y bs r) (sym (put-part kept ks i a b))
      (h v c p x (subst (λ (y : List ℕ). LookedUp v c unit slot y) (sym (lent-part old i)) l) k))
