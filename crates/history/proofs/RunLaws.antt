-- The runs that rewritten units make: they lie one behind the other, in the units and nowhere else, and have the units' new blocks.
-- Assumes nothing.
use mathlib.Core.Path.{◌≡◌, refl, sym, ap, ◌∙◌}
use mathlib.Core.List.{List, [], ◌∷◌}
use mathlib.Core.Bool.{true, false, not, ◌&&◌, and-false}
use mathlib.Core.Option.{none, some}
use Prim.Native.Nat.{ℕ, zero, suc, ◌+◌, ◌-◌, ◌*◌, ◌/◌, ◌%◌, ◌≤◌, ◌<◌, max}
use native.Mathlib.Decide.{dec_lt, dec_le}
use native.Mathlib.Omega.{arith}
use lib.Dec.{eqb}
use lib.ListN.{length, get_elem?}
use borrow.Author.Tests.{eqb-true, eqb-false, eq-eqb}
use Rattle.rules.specs.Lists.{all}
use Rattle.rules.specs.Sizes.{unit_blocks}
use Rattle.rules.specs.Extent.{Extent, joined, block_of, mapping}
use Rattle.rules.specs.Rewrite.{Rewritten}
use Rattle.rules.specs.Finish.{start_runs, call_runs, cut_units}
use Rattle.rules.specs.Demand.{Place}
use Rattle.rules.proofs.ListLaws.{test-cases, clash, order-cases, Each, each_none, each_more, each_append, each_weaken, each_both, each-any}
use Rattle.history.proofs.Rewritten.{each_first, new_mapping, outside, block_places, new_places, Units, units-tail, units-behind, new_mapping-in, new_mapping-behind}
use Rattle.history.proofs.ApartLaws.{Pairs, pairs-none, each-front, each_back, Ahead, other, same, Beside, earlier, later, Laid}
use Rattle.history.proofs.MeetLaws.{Closed, each-meet, filled-joined, pairs-meet, Between}
use Rattle.history.proofs.MappingLaws.{Covers, covers_of, covers-not, or_else, or_else-none, mapping-yes, mapping-no, mapping-nil, mapping-none, mapping-meet, joined-only}
use Rattle.history.proofs.CutLaws.{laid-cut_units, off-cut_units}

-- ---- new places

-- what holds at each block of a stretch, given what holds of the blocks
pub each-block_places : {P : ℕ → Type 0} {Q : Place → Type 0} (object logical : ℕ) {bs : List ℕ} → Each P bs
    → ((l b : ℕ) → logical ≤ l → l < logical + length bs → P b → Q (record { object = object; logical = l; block = b })) → Each Q (block_places object logical bs)
unfolding block_places
each-block_places object logical each_none h = each_none
each-block_places object logical (each_more {x = b} p g) h =
    each_more (h logical b (omega arith) (omega arith) p) (each-block_places object (suc logical) g (λ l c m k q. h l c (omega arith) (omega arith) q))

-- whatever they are
pub each-stretch : {Q : Place → Type 0} (object logical : ℕ) (bs : List ℕ)
    → ((l b : ℕ) → logical ≤ l → l < logical + length bs → Q (record { object = object; logical = l; block = b })) → Each Q (block_places object logical bs)
each-stretch object logical bs h = each-block_places {P = λ b. Unit {0}} object logical (each-any (λ b. tt) bs) (λ l b m n q. h l b m n)

-- what holds at each block of each unit
pub each-new_places : {Q : Place → Type 0} (object : ℕ) {rs : List Rewritten} → Each (λ r. Each Q (block_places object (r.unit * unit_blocks) r.blocks)) rs → Each Q (new_places object rs)
unfolding new_places
each-new_places object each_none = each_none
each-new_places object (each_more p h) = each_append p (each-new_places object h)

-- the same of units that end at or before a block of the file, given what holds of their blocks
pub each-new : {P : ℕ → Type 0} {Q : Place → Type 0} (object n : ℕ) → ((l b : ℕ) → l < n → P b → Q (record { object = object; logical = l; block = b }))
    → {rs : List Rewritten} → Each (λ r. r.unit * unit_blocks + length r.blocks ≤ n) rs → Each (λ r. Each P r.blocks) rs → Each Q (new_places object rs)
each-new object n f h g =
    each-new_places object (each_both (λ r k p. each-block_places object (r.unit * unit_blocks) p (λ l b u w q. f l b (omega arith) q)) h g)

-- new places lie in rewritten units
pub new-inside : (object : ℕ) {rs : List Rewritten} → Each (λ r. length r.blocks ≤ unit_blocks) rs → Each (λ p. outside rs p.logical ≡ false) (new_places object rs)
unfolding new_places outside all
new-inside object each_none = each_none
new-inside object (each_more {x = r} {xs = rs} m h) =
    each_append
    (each-stretch object (r.unit * unit_blocks) r.blocks
    (λ l b k n. ap (λ t. not t && outside rs l) (eq-eqb (l / unit_blocks) r.unit (omega arith))))
    (each_weaken (λ p q. ap (λ t. not (eqb (p.logical / unit_blocks) r.unit) && t) q ∙ and-false (not (eqb (p.logical / unit_blocks) r.unit))) (new-inside object h))

-- a place as an extent
abbrev pub single : Place → Extent
single p = record { object = p.object; logical = p.logical; physical = p.block; count = 1 }

-- ---- what holds of each run

module _ {P : Extent → Type 0} (c : Closed P) where
  -- a stretch before other runs
  each-start_runs : (object logical : ℕ) (bs : List ℕ) (fs : List Extent) → Each (λ p. P (single p)) (block_places object logical bs) → Each P fs → Each P (start_runs object logical bs fs)
  unfolding start_runs block_places
  each-start_runs object logical [] fs g h = h
  each-start_runs object logical (b ∷ bs) fs (each_more p g) h = each-meet c _ _ p (each-start_runs object (suc logical) bs fs g h)

  -- what holds of each new place as an extent, and of the two halves of a join as one
  pub each-call_runs : (object : ℕ) (rs : List Rewritten) → Each (λ p. P (single p)) (new_places object rs) → Each P (call_runs object rs)
  unfolding call_runs new_places
  each-call_runs object [] h = each_none
  each-call_runs object (r ∷ rs) h =
      each-start_runs object (r.unit * unit_blocks) r.blocks (call_runs object rs)
      (each-front (block_places object (r.unit * unit_blocks) r.blocks) (new_places object rs) h)
      (each-call_runs object rs (each_back (block_places object (r.unit * unit_blocks) r.blocks) (new_places object rs) h))

-- an extent of the file, from a block on
abbrev From : ℕ → ℕ → Extent → Type 0
From object first x = (x.object ≡ object) × (first ≤ x.logical)

-- two that join are so where both are
from-joined : (object first : ℕ) → Closed (From object first)
unfolding joined
from-joined object first e f j p q = p

-- runs of units from one on
from-call_runs : (object first : ℕ) {rs : List Rewritten} → Each (λ r. first ≤ r.unit * unit_blocks) rs → Each (From object first) (call_runs object rs)
from-call_runs object first {rs} h =
    each-call_runs (from-joined object first) object rs
    (each-new_places object (each_weaken (λ r k. each-stretch object (r.unit * unit_blocks) r.blocks (λ l b m n. (refl, omega arith))) h))

-- ---- one behind the other

-- a stretch before runs that lie behind it
pairs-start_runs : (object logical : ℕ) (bs : List ℕ) {fs : List Extent} → Each (From object (logical + length bs)) fs → Pairs Ahead fs → Pairs Ahead (start_runs object logical bs fs)
unfolding start_runs
pairs-start_runs object logical [] g h = h
pairs-start_runs object logical (b ∷ bs) {fs} g h =
    let k : Each (From object (suc logical + length bs)) fs = each_weaken (λ x q. (q.0, omega (arith, q.1))) g in
    let s : Each (From object (suc logical)) (start_runs object (suc logical) bs fs) =
    each-start_runs (from-joined object (suc logical)) object (suc logical) bs fs
    (each-stretch object (suc logical) bs (λ l x m n. (refl, m))) (each_weaken (λ x q. (q.0, omega (arith, q.1))) g) in
    pairs-meet _ (each_weaken (λ x q. same (sym q.0) (omega (arith, q.1))) s) (pairs-start_runs object (suc logical) bs k h)

-- the stretches of ascending units
pairs-call_runs : (object : ℕ) (rs : List Rewritten) → Units rs → Pairs Ahead (call_runs object rs)
unfolding call_runs
pairs-call_runs object [] u = pairs-none
pairs-call_runs object (r ∷ rs) u =
    let m : length r.blocks ≤ unit_blocks = each_first u.most in
    pairs-start_runs object (r.unit * unit_blocks) r.blocks
    (from-call_runs object (r.unit * unit_blocks + length r.blocks) (each_weaken (λ t l. omega (arith, m, l)) (units-behind u)))
    (pairs-call_runs object rs (units-tail u))

-- the runs are laid as extents of a book are
pub laid-call_runs : (object : ℕ) (rs : List Rewritten) → Units rs → Laid (call_runs object rs)
laid-call_runs object rs u = record {
  filled = each-call_runs filled-joined object rs (each-any (λ p. omega arith) (new_places object rs));
  ahead = pairs-call_runs object rs u;
}

-- ---- in the units and nowhere else

-- every block of a run lies in a rewritten unit
inside-call_runs : (object : ℕ) (rs : List Rewritten) → Units rs → Each (λ x. (b : ℕ) → Covers object b x → outside rs b ≡ false) (call_runs object rs)
inside-call_runs object rs u =
    each-call_runs (λ e f j p q b c. joined-only object b (outside rs b ≡ false) e f j c (p b) (q b)) object rs
    (each_weaken (λ p q b c. let e : b ≡ p.logical = omega (arith, c.low, c.high) in rw e q) (new-inside object u.most))

-- a run and an extent outside the units
beside-of : (object : ℕ) (rs : List Rewritten) (x e : Extent) → x.object ≡ object → 0 < x.count → 0 < e.count
    → ((b : ℕ) → Covers object b x → outside rs b ≡ false) → ((b : ℕ) → Covers object b e → outside rs b ≡ true) → Beside x e
beside-of object rs x e q n m i o =
    order-cases (Beside x e) e.object x.object (λ l. later (other l))
    (λ k. go k (dec_le (e.logical + e.count) x.logical) (dec_le (x.logical + x.count) e.logical))
    (λ l. earlier (other l))
  where
    go : e.object ≡ x.object → Dec (e.logical + e.count ≤ x.logical) → Dec (x.logical + x.count ≤ e.logical) → Beside x e
    go k (yes l) d = later (same k l)
    go k (no l) (yes h) = earlier (same (sym k) h)
    go k (no l) (no h) = absurd (clash
        (i (max e.logical x.logical) (record { file = q; low = omega arith; high = omega arith }))
        (o (max e.logical x.logical) (record { file = k ∙ q; low = omega arith; high = omega arith })))

-- the runs lie between what cutting left
pub between-after : (object : ℕ) (rs : List Rewritten) (es : List Extent) → Units rs → Laid es → Between (call_runs object rs) (cut_units object rs es)
between-after object rs es u l =
    let inside : Extent → Type 0 = λ x. (b : ℕ) → Covers object b x → outside rs b ≡ false in
    let g : Each (λ x. (0 < x.count) × inside x) (call_runs object rs) = each_both (λ x n i. (n, i)) (laid-call_runs object rs u).filled (inside-call_runs object rs u) in
    each_both {P = From object 0} {Q = λ x. (0 < x.count) × inside x}
    (λ x f k. each_both (λ e m o. beside-of object rs x e f.0 k.0 m k.1 o) (laid-cut_units object rs l).filled (off-cut_units object rs l))
    (from-call_runs object 0 (each-any (λ r. omega arith) rs)) g

-- ---- the units' new blocks

-- past its end a list has nothing
get_elem-past : (bs : List ℕ) (i : ℕ) → length bs ≤ i → get_elem? bs i ≡ none
get_elem-past [] i h = refl
get_elem-past (b ∷ bs) zero h = absurd (omega arith)
get_elem-past (b ∷ bs) (suc i) h = get_elem-past bs i (omega arith)

-- a stretch has its blocks, and then what the runs behind it have
start-mapping : (object logical : ℕ) (bs : List ℕ) (fs : List Extent) (i : ℕ)
    → mapping (start_runs object logical bs fs) object (logical + i) ≡ or_else (get_elem? bs i) (mapping fs object (logical + i))
unfolding start_runs or_else
start-mapping object logical [] fs i = refl
start-mapping object logical (b ∷ bs) fs zero =
    let x : Extent = record { object = object; logical = logical; physical = b; count = 1 } in
    mapping-meet object (logical + 0) x (start_runs object (suc logical) bs fs)
    ∙ mapping-yes object (logical + 0) x (start_runs object (suc logical) bs fs) (covers_of (record { file = refl; low = omega arith; high = omega arith }))
    ∙ ap some (unfold block_of in omega arith)
start-mapping object logical (b ∷ bs) fs (suc i) =
    let x : Extent = record { object = object; logical = logical; physical = b; count = 1 } in
    let e : logical + suc i ≡ suc logical + i = omega arith in
    mapping-meet object (logical + suc i) x (start_runs object (suc logical) bs fs)
    ∙ mapping-no object (logical + suc i) x (start_runs object (suc logical) bs fs) (covers-not object (logical + suc i) x (λ c. omega (arith, c.high)))
    ∙ rw e (start-mapping object (suc logical) bs fs i)

-- before it there is what they have
start-before : (object logical : ℕ) (bs : List ℕ) (fs : List Extent) (b : ℕ) → b < logical → mapping (start_runs object logical bs fs) object b ≡ mapping fs object b
unfolding start_runs
start-before object logical [] fs b l = refl
start-before object logical (a ∷ bs) fs b l =
    let x : Extent = record { object = object; logical = logical; physical = a; count = 1 } in
    mapping-meet object b x (start_runs object (suc logical) bs fs)
    ∙ mapping-no object b x (start_runs object (suc logical) bs fs) (covers-not object b x (λ c. omega (arith, c.low)))
    ∙ start-before object (suc logical) bs fs b (omega arith)

-- the runs have the new blocks
pub mapping-call_runs : (object : ℕ) (rs : List Rewritten) → Units rs → (b : ℕ) → mapping (call_runs object rs) object b ≡ new_mapping rs b none
unfolding call_runs
mapping-call_runs object [] u b = mapping-nil object b ∙ (unfold new_mapping in refl)
mapping-call_runs object (r ∷ rs) u b =
    step (mapping-call_runs object rs (units-tail u) b)
  where
    fs : List Extent
    fs = call_runs object rs

    there : eqb (b / unit_blocks) r.unit ≡ true → mapping (start_runs object (r.unit * unit_blocks) r.blocks fs) object b ≡ new_mapping (r ∷ rs) b none
    there t =
        let q : b / unit_blocks ≡ r.unit = eqb-true (b / unit_blocks) r.unit t in
        let e : r.unit * unit_blocks + b % unit_blocks ≡ b = omega arith in
        let n : mapping fs object b ≡ none =
        mapping-none object b (each_weaken (λ x k c. omega (arith, k.1, c.low, q)) (from-call_runs object (suc r.unit * unit_blocks) (each_weaken (λ t l. omega (arith, l)) (units-behind u)))) in
        (rw e at (start-mapping object (r.unit * unit_blocks) r.blocks fs (b % unit_blocks)))
        ∙ rw n (or_else-none (get_elem? r.blocks (b % unit_blocks))) ∙ sym (new_mapping-in r rs b none t)

    elsewhere : eqb (b / unit_blocks) r.unit ≡ false → Dec (b < r.unit * unit_blocks) → mapping (start_runs object (r.unit * unit_blocks) r.blocks fs) object b ≡ mapping fs object b
    elsewhere t (yes l) = start-before object (r.unit * unit_blocks) r.blocks fs b l
    elsewhere t (no l) =
        let q : b / unit_blocks ≡ r.unit → ⊥ = eqb-false (b / unit_blocks) r.unit t in
        let m : length r.blocks ≤ unit_blocks = each_first u.most in
        let e : r.unit * unit_blocks + (b - r.unit * unit_blocks) ≡ b = omega arith in
        (rw e at (start-mapping object (r.unit * unit_blocks) r.blocks fs (b - r.unit * unit_blocks)))
        ∙ rw (get_elem-past r.blocks (b - r.unit * unit_blocks) (omega arith)) (unfold or_else in refl)

    step : mapping fs object b ≡ new_mapping rs b none → mapping (start_runs object (r.unit * unit_blocks) r.blocks fs) object b ≡ new_mapping (r ∷ rs) b none
    step h =
        test-cases (mapping (start_runs object (r.unit * unit_blocks) r.blocks fs) object b ≡ new_mapping (r ∷ rs) b none) (eqb (b / unit_blocks) r.unit) there
        (λ t. elsewhere t (dec_lt b (r.unit * unit_blocks)) ∙ h ∙ sym (new_mapping-behind r rs b none t))

-- and no block of another file
pub mapping-call_runs-other : (object : ℕ) (rs : List Rewritten) (o b : ℕ) → (o ≡ object → ⊥) → mapping (call_runs object rs) o b ≡ none
mapping-call_runs-other object rs o b d =
    mapping-none o b (each_weaken (λ x k c. d (sym c.file ∙ k.0)) (from-call_runs object 0 (each-any (λ r. omega arith) rs)))
