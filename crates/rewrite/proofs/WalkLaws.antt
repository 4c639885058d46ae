-- The loop over the units of a change.
-- Assumes nothing.
use mathlib.Core.Path.{◌≡◌, refl, sym, subst, ◌∙◌}
use mathlib.Core.Bool.{true, false}
use mathlib.Core.List.{List, [], ◌∷◌}
use Prim.Native.Nat.{ℕ, ◌+◌, ◌*◌, ◌≤◌, ◌<◌}
use native.Mathlib.Omega.{arith}
use lib.ListN.{length, get_or}
use Rattle.rules.specs.Sizes.{unit_blocks, most_allocated}
use Rattle.rules.specs.Bytes.{part}
use Rattle.rules.specs.Store.{Volume}
use Rattle.rules.specs.Units.{Change}
use Rattle.rules.specs.Rewrite.{Progress}
use Rattle.rules.proofs.ListLaws.{test-cases}
use Rattle.allocation.specs.Carried.{Carried}
use Rattle.allocation.proofs.MarkLaws.{carried_none}
use Rattle.kept.specs.declared.Change as numbers
use Rattle.rewrite.specs.declared.Progress as code
use Rattle.rewrite.specs.declared.UnitPlan.{UnitPlan}
use Rattle.rewrite.specs.declared.Plan as answer
use Rattle.rewrite.specs.Arguments.{Described, LookedUp, PlanFor, DeviceFits, ArraysFit}
use Rattle.rewrite.specs.Answers.{from_card, Carries, ChangedAt, UnitPlanned, Planning, UnitsPlanned}
use Rattle.rewrite.proofs.LoopLaws.{planning-none, planning-refused, planning-hole, planning-done, planning-all}

-- the arguments that stay as they are
module _ (image uuid map₀ kept₀ blocks₀ : List ℕ) (total limit object : ℕ) (n : numbers.Change) (units slots old : List ℕ) (hint allocated : ℕ) where
  -- what holds after the first i units
  pub record Walk (w map kept blocks : List ℕ) (left : code.Progress) (skip i : ℕ) : Type 0 where
    pub bound : i ≤ length units
    pub few : skip ≤ i
    pub count : left.allocated ≤ most_allocated
    pub window : length w ≡ 4624
    pub map-long : length map ≡ length map₀
    pub kept-long : length kept ≡ length kept₀
    pub blocks-long : length blocks ≡ length blocks₀
    pub planning : (v : Volume) (c : Change) → PlanFor image uuid map₀ total object n units slots old v c → Planning limit v c units (from_card hint allocated) i skip map kept blocks left

  -- before the first
  pub walk_none : (w : List ℕ) (left : code.Progress) → length w ≡ 4624 → allocated ≤ most_allocated → left.hint ≡ hint → left.allocated ≡ allocated
      → left.cursors.past ≡ 0 ∷ 0 ∷ 0 ∷ 0 ∷ [] → Walk w map₀ kept₀ blocks₀ left 0 0
  walk_none w left l m eh ea ep = record {
    bound = omega arith;
    few = omega arith;
    count = omega (arith, m, ea);
    window = l;
    map-long = refl;
    kept-long = refl;
    blocks-long = refl;
    planning = λ v c h. planning-none limit v c units (from_card hint allocated) map₀ kept₀ blocks₀ left (record {
      hint = sym eh;
      allocated = sym ea;
      taken =
          subst (λ (x : List ℕ). Carried v.blocks v.used [] map₀ x) (sym ep)
          (carried_none v.blocks v.used map₀ (λ b l. h.used b (subst (λ (x : ℕ). b < x) h.described.blocks_is l)));
    });
  }

  module _ (w map kept blocks : List ℕ) (left : code.Progress) (skip i : ℕ) (k : Walk w map kept blocks left skip i) where
    -- the map is as long as it was
    pub walk-device : DeviceFits image map₀ total → DeviceFits image map total
    walk-device d = record { some = d.some; most = d.most; bytes = d.bytes; bits = omega (arith, d.bits, k.map-long) }

    -- and so are the arrays
    pub walk-arrays : (new-size : ℕ) → ArraysFit new-size total units slots old kept₀ blocks₀ → ArraysFit new-size total units slots old kept blocks
    walk-arrays new-size a = record {
      slot_each = a.slot_each;
      old_each = a.old_each;
      kept_each = k.kept-long ∙ a.kept_each;
      blocks_each = k.blocks-long ∙ a.blocks_each;
      begins = a.begins;
      slot_most = a.slot_most;
      old_most = a.old_most;
    }

    -- the answer to the next unit
    module _ (map₁ kept₁ blocks₁ : List ℕ) (r : UnitPlan)
        (h : (v : Volume) (c : Change) (p : Progress) → Described image uuid total object n v c → LookedUp v c (get_or units i 0) (get_or slots i 0) (part (unit_blocks * i) unit_blocks old)
        → Carries v p map left → UnitPlanned limit v c (get_or units i 0) p map₁ (part (unit_blocks * i) unit_blocks kept₁) (part (unit_blocks * i) unit_blocks blocks₁) r)
        (l : i < length units) where
      -- of the volume and the change
      unit-at : (v : Volume) (c : Change) (g : PlanFor image uuid map₀ total object n units slots old v c)
          → UnitPlanned limit v c (get_or units i 0) (k.planning v c g).left map₁ (part (unit_blocks * i) unit_blocks kept₁) (part (unit_blocks * i) unit_blocks blocks₁) r
      unit-at v c g = h v c (k.planning v c g).left g.described (g.each i l) (k.planning v c g).carries

      -- a refusal
      pub walk_refused : 0 < r.number → (a : answer.Plan) → a.number ≡ r.number → (v : Volume) (c : Change) → PlanFor image uuid map₀ total object n units slots old v c
          → UnitsPlanned limit v c units (from_card hint allocated) map₁ kept₁ blocks₁ a
      walk_refused z a e v c g = record {
        number = planning-refused limit v c units (from_card hint allocated) i skip map kept blocks left l k.few (k.planning v c g) r.number (unit-at v c g).number z ∙ sym e;
        done = λ f. absurd (omega (arith, z, e, f));
      }

      -- none
      pub walk_more : r.number ≡ 0 → (w₁ : List ℕ) → length w₁ ≡ 4624 → length map₁ ≡ length map → ChangedAt i kept kept₁ → ChangedAt i blocks blocks₁
          → unit_blocks * length units ≤ length kept₀ → unit_blocks * length units ≤ length blocks₀ → r.progress.allocated ≤ most_allocated
          → (skip₁ : ℕ) → (r.rewritten ≡ true → skip₁ ≡ skip) → (r.rewritten ≡ false → skip₁ ≡ skip + 1) → skip₁ ≤ skip + 1
          → Walk w₁ map₁ kept₁ blocks₁ r.progress skip₁ (i + 1)
      walk_more z w₁ lw lm ek eb lk lb ac skip₁ et ef es = record {
        bound = omega (arith, l);
        few = omega (arith, es, k.few);
        count = ac;
        window = lw;
        map-long = lm ∙ k.map-long;
        kept-long = ek.long ∙ k.kept-long;
        blocks-long = eb.long ∙ k.blocks-long;
        planning = λ v c g. test-cases (Planning limit v c units (from_card hint allocated) (i + 1) skip₁ map₁ kept₁ blocks₁ r.progress) r.rewritten
            (λ f. subst (λ (x : ℕ). Planning limit v c units (from_card hint allocated) (i + 1) x map₁ kept₁ blocks₁ r.progress) (sym (et f))
            (planning-done limit v c units (from_card hint allocated) i skip map kept blocks left l k.few (k.planning v c g) map₁ kept₁ blocks₁ r.progress
            (omega (arith, lk, k.kept-long)) (omega (arith, lb, k.blocks-long)) ek eb ((unit-at v c g).done z f)))
            (λ f. subst (λ (x : ℕ). Planning limit v c units (from_card hint allocated) (i + 1) x map₁ kept₁ blocks₁ r.progress) (sym (ef f))
            (planning-hole limit v c units (from_card hint allocated) i skip map kept blocks left l k.few (k.planning v c g) (λ y. g.touched i y l) map₁ kept₁ blocks₁ r.progress
            ((unit-at v c g).hole z f)));
      }

    -- all of them
    pub walk-all : length units ≤ i → (a : answer.Plan) → a.number ≡ 0 → a.skip ≡ skip → a.hint ≡ left.hint → a.allocated ≡ left.allocated → (v : Volume) (c : Change)
        → PlanFor image uuid map₀ total object n units slots old v c → UnitsPlanned limit v c units (from_card hint allocated) map kept blocks a
    walk-all e a en es eh ea v c g =
        planning-all limit v c units (from_card hint allocated) i skip map kept blocks left e k.bound k.few (k.planning v c g) a en es eh ea
