-- Units cut out of a book: what is left of an extent lies within it, has none of the units' blocks, and has all its others where they were.
-- Assumes nothing.
use mathlib.Core.Path.{◌≡◌, refl, sym, ap, ◌∙◌}
use mathlib.Core.List.{List, [], ◌∷◌, ◌++◌, flat_map}
use mathlib.Core.Bool.{true, false, not}
use mathlib.Core.Option.{some}
use Prim.Native.Nat.{ℕ, suc, ◌+◌, ◌*◌, ◌/◌, ◌≤◌, ◌<◌, min, max}
use native.Mathlib.Decide.{dec_lt}
use native.Mathlib.Omega.{arith}
use lib.Dec.{eqb, ltb}
use borrow.Author.Tests.{eqb-true, eqb-false, ne_eqb, ltb-true, lt-ltb, not-true}
use Rattle.rules.specs.Lists.{pick◌then◌else◌, all}
use Rattle.rules.specs.Sizes.{unit_blocks}
use Rattle.rules.specs.Extent.{Extent, extent_end, covers, block_of, mapping}
use Rattle.rules.specs.Rewrite.{Rewritten}
use Rattle.rules.specs.Finish.{up_to, from, part_before, part_from, cut_unit, cut_units}
use Rattle.rules.proofs.ListLaws.{test-cases, clash, if-true, if-cases, and_left, and_right, and_intro, Each, each_none, each_more, each_append, each_weaken, each_both, each-any}
use Rattle.history.proofs.Rewritten.{outside}
use Rattle.history.proofs.ApartLaws.{Pairs, pairs-none, pairs-more, pairs-append, each-flat_map, Ahead, other, same, Laid}
use Rattle.history.proofs.MappingLaws.{Covers, covers-true, covers_of, or_else, mapping-yes, mapping-no, mapping-nil, mapping-none, mapping-append, mapping-cons}

-- ---- one extent

-- x is a part of e, with a block
pub record Within (x e : Extent) : Type 0 where
  pub object : x.object ≡ e.object
  pub low : e.logical ≤ x.logical
  pub high : x.logical + x.count ≤ e.logical + e.count
  pub place : x.physical + e.logical ≡ e.physical + x.logical
  pub filled : 0 < x.count

-- a part's blocks are the extent's
pub within-covers : {object block : ℕ} {x e : Extent} → Within x e → Covers object block x → Covers object block e
within-covers w c = record { file = sym w.object ∙ c.file; low = omega (arith, w.low, c.low); high = omega (arith, w.high, c.high) }

-- parts of extents one before the other are so
pub within-ahead : {x y e f : Extent} → Within x e → Within y f → Ahead e f → Ahead x y
within-ahead w z (other p) = other (omega (arith, w.object, z.object))
within-ahead w z (same p l) = same (w.object ∙ p ∙ sym z.object) (omega (arith, w.high, z.low))

-- the part before a block lies before it
before-within : (e : Extent) (block : ℕ) → 0 < e.count → Each (λ x. Within x e × (x.logical + x.count ≤ block)) (part_before e block)
unfolding part_before up_to extent_end
before-within e block n =
    if-cases (Each (λ x. Within x e × (x.logical + x.count ≤ block))) (ltb e.logical block) (up_to e (min (e.logical + e.count) block) ∷ []) []
    (λ t. let l : e.logical < block = ltb-true e.logical block t in
    each_more (record { object = refl; low = omega arith; high = omega arith; place = refl; filled = omega arith }, omega arith) each_none)
    (λ t. each_none)

-- the part from a block on does not
from-within : (e : Extent) (block : ℕ) → 0 < e.count → Each (λ x. Within x e × (block ≤ x.logical)) (part_from e block)
unfolding part_from from extent_end
from-within e block n =
    if-cases (Each (λ x. Within x e × (block ≤ x.logical))) (ltb block (e.logical + e.count)) (from e (max e.logical block) ∷ []) []
    (λ t. let l : block < e.logical + e.count = ltb-true block (e.logical + e.count) t in
    each_more (record { object = refl; low = omega arith; high = omega arith; place = omega arith; filled = omega arith }, omega arith) each_none)
    (λ t. each_none)

-- the part before a block is one extent or none
before-pairs : (e : Extent) (block : ℕ) → Pairs Ahead (part_before e block)
unfolding part_before
before-pairs e block =
    if-cases (Pairs Ahead) (ltb e.logical block) (up_to e (min (extent_end e) block) ∷ []) [] (λ t. pairs-more each_none pairs-none) (λ t. pairs-none)

-- the part from a block on too
from-pairs : (e : Extent) (block : ℕ) → Pairs Ahead (part_from e block)
unfolding part_from
from-pairs e block =
    if-cases (Pairs Ahead) (ltb block (extent_end e)) (from e (max e.logical block) ∷ []) [] (λ t. pairs-more each_none pairs-none) (λ t. pairs-none)

-- the part before a block has the extent's blocks before it
before-mapping : (e : Extent) (block object n : ℕ) → n < block → Covers object n e → mapping (part_before e block) object n ≡ some (block_of n e)
unfolding part_before
before-mapping e block object n l c =
    let x : Extent = up_to e (min (extent_end e) block) in
    let k : Covers object n x = unfold up_to extent_end in record { file = c.file; low = c.low; high = omega (arith, c.low, c.high) } in
    rw (if-true (ltb e.logical block) (x ∷ []) [] (lt-ltb e.logical block (omega (arith, c.low))))
    (mapping-yes object n x [] (covers_of k) ∙ (unfold block_of up_to in refl))

-- the part from a block on has those from it on
from-mapping : (e : Extent) (block object n : ℕ) → block ≤ n → Covers object n e → mapping (part_from e block) object n ≡ some (block_of n e)
unfolding part_from
from-mapping e block object n l c =
    let x : Extent = from e (max e.logical block) in
    let k : Covers object n x = unfold from extent_end in record { file = c.file; low = omega (arith, c.low); high = omega (arith, c.low, c.high) } in
    let t : ltb block (extent_end e) ≡ true = unfold extent_end in lt-ltb block (e.logical + e.count) (omega (arith, c.high)) in
    rw (if-true (ltb block (extent_end e)) (x ∷ []) [] t)
    (mapping-yes object n x [] (covers_of k) ∙ ap some (unfold block_of from in omega (arith, c.low)))

-- what a unit cut out leaves of an extent
abbrev pub cut_one : ℕ → ℕ → Extent → List Extent
cut_one object unit e = pick eqb e.object object then part_before e (unit * unit_blocks) ++ part_from e (suc unit * unit_blocks) else e ∷ []

-- a book is cut extent by extent
pub cut-each : (object unit : ℕ) (es : List Extent) → cut_unit object unit es ≡ flat_map (cut_one object unit) es
unfolding cut_unit
cut-each object unit es = refl

-- the extent has no block of the unit
abbrev pub Off : ℕ → ℕ → Extent → Type 0
Off object unit x = (b : ℕ) → Covers object b x → eqb (b / unit_blocks) unit ≡ false

module _ (object unit : ℕ) (e : Extent) (n : 0 < e.count) where
  -- the two parts
  abbrev parts : List Extent
  parts = part_before e (unit * unit_blocks) ++ part_from e (suc unit * unit_blocks)

  -- what is left lies within
  pub one-within : Each (λ x. Within x e) (cut_one object unit e)
  one-within =
      if-cases (Each (λ x. Within x e)) (eqb e.object object) parts (e ∷ [])
      (λ t. each_append (each_weaken (λ x w. w.0) (before-within e (unit * unit_blocks) n)) (each_weaken (λ x w. w.0) (from-within e (suc unit * unit_blocks) n)))
      (λ t. each_more (record { object = refl; low = omega arith; high = omega arith; place = refl; filled = n }) each_none)

  -- one before the other
  one-pairs : Pairs Ahead (cut_one object unit e)
  one-pairs =
      if-cases (Pairs Ahead) (eqb e.object object) parts (e ∷ [])
      (λ t. pairs-append (before-pairs e (unit * unit_blocks)) (from-pairs e (suc unit * unit_blocks))
      (each_weaken (λ x w. each_weaken (λ y z. same (w.0.object ∙ sym z.0.object) (omega (arith, w.1, z.1))) (from-within e (suc unit * unit_blocks) n)) (before-within e (unit * unit_blocks) n)))
      (λ t. pairs-more each_none pairs-none)

  -- without the unit's blocks
  one-off : Each (Off object unit) (cut_one object unit e)
  one-off =
      if-cases (Each (Off object unit)) (eqb e.object object) parts (e ∷ [])
      (λ t. each_append
      (each_weaken (λ x w b c. ne_eqb (b / unit_blocks) unit (λ q. omega (arith, w.1, c.high))) (before-within e (unit * unit_blocks) n))
      (each_weaken (λ x w b c. ne_eqb (b / unit_blocks) unit (λ q. omega (arith, w.1, c.low))) (from-within e (suc unit * unit_blocks) n)))
      (λ t. each_more (λ b c. absurd (eqb-false e.object object t c.file)) each_none)

  -- with every other block where it was
  one-mapping : (o b : ℕ) → (o ≡ object → eqb (b / unit_blocks) unit ≡ false) → mapping (cut_one object unit e) o b ≡ mapping (e ∷ []) o b
  one-mapping o b h =
      if-cases (λ (xs : List Extent). mapping xs o b ≡ mapping (e ∷ []) o b) (eqb e.object object) parts (e ∷ [])
      (λ t. test-cases (mapping parts o b ≡ mapping (e ∷ []) o b) (covers o b e) (λ c. there t (covers-true c) ∙ sym (mapping-yes o b e [] c))
      (λ c. mapping-none o b (each_append
      (each_weaken (λ x w d. clash c (covers_of (within-covers w.0 d))) (before-within e (unit * unit_blocks) n))
      (each_weaken (λ x w d. clash c (covers_of (within-covers w.0 d))) (from-within e (suc unit * unit_blocks) n)))
      ∙ sym (mapping-no o b e [] c ∙ mapping-nil o b)))
      (λ t. refl)
    where
      there : eqb e.object object ≡ true → Covers o b e → mapping parts o b ≡ some (block_of b e)
      there t c = go (dec_lt b (unit * unit_blocks))
        where
          k : b / unit_blocks ≡ unit → ⊥
          k = eqb-false (b / unit_blocks) unit (h (sym c.file ∙ eqb-true e.object object t))

          go : Dec (b < unit * unit_blocks) → mapping parts o b ≡ some (block_of b e)
          go (yes l) =
              mapping-append o b (part_before e (unit * unit_blocks)) (part_from e (suc unit * unit_blocks))
              ∙ ap (λ m. or_else m (mapping (part_from e (suc unit * unit_blocks)) o b)) (before-mapping e (unit * unit_blocks) o b l c) ∙ (unfold or_else in refl)
          go (no l) =
              mapping-append o b (part_before e (unit * unit_blocks)) (part_from e (suc unit * unit_blocks))
              ∙ ap (λ m. or_else m (mapping (part_from e (suc unit * unit_blocks)) o b))
              (mapping-none o b (each_weaken (λ x w d. omega (arith, w.1, d.high, l)) (before-within e (unit * unit_blocks) n)))
              ∙ (unfold or_else in from-mapping e (suc unit * unit_blocks) o b (omega (arith, k, l)) c)

-- ---- a book

-- what holds of an extent holds of its parts
abbrev pub Kept : (Extent → Type 0) → Type 0
Kept P = (x e : Extent) → Within x e → P e → P x

-- what holds of each extent holds of each that is left
pub each-cut_unit : {P : Extent → Type 0} → Kept P → (object unit : ℕ) {es : List Extent} → Each (λ e. 0 < e.count) es → Each P es → Each P (cut_unit object unit es)
each-cut_unit {P} k object unit {es} n h =
    rw (cut-each object unit es) (each-flat_map (cut_one object unit) (each_both (λ e m p. each_weaken (λ x w. k x e w p) (one-within object unit e m)) n h))

-- what is left is laid as the book was
laid-cut_ones : (object unit : ℕ) {es : List Extent} → Each (λ e. 0 < e.count) es → Pairs Ahead es → Pairs Ahead (flat_map (cut_one object unit) es)
unfolding flat_map
laid-cut_ones object unit each_none pairs-none = pairs-none
laid-cut_ones object unit (each_more {x = e} {xs = es} m n) (pairs-more p h) =
    pairs-append (one-pairs object unit e m) (laid-cut_ones object unit n h)
    (each_weaken (λ x w. each-flat_map (cut_one object unit) (each_both (λ f k a. each_weaken (λ y z. within-ahead w z a) (one-within object unit f k)) n p)) (one-within object unit e m))

-- and each extent of it has a block
pub laid-cut_unit : (object unit : ℕ) {es : List Extent} → Laid es → Laid (cut_unit object unit es)
laid-cut_unit object unit {es} l = record {
  filled = each-cut_unit (λ x e w p. w.filled) object unit l.filled l.filled;
  ahead = rw (cut-each object unit es) (laid-cut_ones object unit l.filled l.ahead);
}

-- it has none of the unit's blocks
off-cut_unit : (object unit : ℕ) {es : List Extent} → Each (λ e. 0 < e.count) es → Each (Off object unit) (cut_unit object unit es)
off-cut_unit object unit {es} n = rw (cut-each object unit es) (each-flat_map (cut_one object unit) (each_weaken (λ e m. one-off object unit e m) n))

-- and every other where it was
mapping-cut_ones : (object unit : ℕ) {es : List Extent} → Each (λ e. 0 < e.count) es → (o b : ℕ) → (o ≡ object → eqb (b / unit_blocks) unit ≡ false)
    → mapping (flat_map (cut_one object unit) es) o b ≡ mapping es o b
unfolding flat_map
mapping-cut_ones object unit each_none o b h = refl
mapping-cut_ones object unit (each_more {x = e} {xs = es} m n) o b h =
    mapping-append o b (cut_one object unit e) (flat_map (cut_one object unit) es)
    ∙ rw (one-mapping object unit e m o b h, mapping-cut_ones object unit n o b h) (sym (mapping-cons o b e es))

-- ---- many units

-- what holds of each extent holds of each that is left
pub each-cut_units : {P : Extent → Type 0} → Kept P → (object : ℕ) (rs : List Rewritten) {es : List Extent} → Each (λ e. 0 < e.count) es → Each P es → Each P (cut_units object rs es)
unfolding cut_units
each-cut_units k object [] n h = h
each-cut_units k object (r ∷ rs) n h =
    each-cut_units k object rs (each-cut_unit (λ x e w p. w.filled) object r.unit n n) (each-cut_unit k object r.unit n h)

-- what is left is laid as the book was
pub laid-cut_units : (object : ℕ) (rs : List Rewritten) {es : List Extent} → Laid es → Laid (cut_units object rs es)
unfolding cut_units
laid-cut_units object [] l = l
laid-cut_units object (r ∷ rs) l = laid-cut_units object rs (laid-cut_unit object r.unit l)

-- all of it lies outside the units
pub off-cut_units : (object : ℕ) (rs : List Rewritten) {es : List Extent} → Laid es → Each (λ x. (b : ℕ) → Covers object b x → outside rs b ≡ true) (cut_units object rs es)
unfolding cut_units outside all
off-cut_units object [] {es} l = each-any (λ x b c. refl) es
off-cut_units object (r ∷ rs) {es} l =
    each_both (λ x p q b c. and_intro (not (eqb (b / unit_blocks) r.unit)) (outside rs b) (ap not (p b c)) (q b c))
    (each-cut_units {P = Off object r.unit} (λ x e w p b c. p b (within-covers w c)) object rs (laid-cut_unit object r.unit l).filled (off-cut_unit object r.unit l.filled))
    (off-cut_units object rs (laid-cut_unit object r.unit l))

-- and what lies outside is where it was
pub mapping-cut_units : (object : ℕ) (rs : List Rewritten) {es : List Extent} → Laid es → (o b : ℕ) → (o ≡ object → outside rs b ≡ true) → mapping (cut_units object rs es) o b ≡ mapping es o b
unfolding cut_units outside all
mapping-cut_units object [] l o b h = refl
mapping-cut_units object (r ∷ rs) {es} l o b h =
    mapping-cut_units object rs (laid-cut_unit object r.unit l) o b (λ q. and_right (not (eqb (b / unit_blocks) r.unit)) (outside rs b) (h q))
    ∙ (rw (cut-each object r.unit es) (mapping-cut_ones object r.unit l.filled o b (λ q. not-true (eqb (b / unit_blocks) r.unit) (and_left (not (eqb (b / unit_blocks) r.unit)) (outside rs b) (h q)))))
