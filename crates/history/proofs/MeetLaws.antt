-- Runs taken in: extents that join become one, and what holds of both halves of a join holds of all; the extents stay one behind the other.
-- Assumes nothing.
use mathlib.Core.Path.{◌≡◌, ◌∙◌}
use mathlib.Core.List.{List, [], ◌∷◌, ◌++◌}
use mathlib.Core.Bool.{Bool, true, false, not}
use Prim.Native.Nat.{◌+◌, ◌≤◌, ◌<◌}
use native.Mathlib.Omega.{arith}
use lib.Dec.{eqb, leb}
use borrow.Author.Tests.{eqb-true, leb-true, not-true}
use Rattle.rules.specs.Lists.{filter}
use Rattle.rules.specs.Sizes.{most_extent}
use Rattle.rules.specs.Extent.{Extent, extent_before, extent_end, joins, joined}
use Rattle.rules.specs.Finish.{meet, attach, take_in, take_in_all}
use Rattle.rules.proofs.ListLaws.{test-cases, clash, if-cases, pair_before-cases, pair_before-first, pair_before-second, Each, each_none, each_more, each_weaken, each_both}
use Rattle.rules.proofs.PassLaws.{each-passed}
use Rattle.history.proofs.ApartLaws.{Pairs, pairs-none, pairs-more, each-filter, each-kept, filter_parts, pairs-filter, Ahead, other, same, Beside, earlier, later, ahead-trans, before_of, Laid, laid-first, laid-ahead, laid-tail}

-- what it says that two extents join
pub record Joining (e f : Extent) : Type 0 where
  pub object : e.object ≡ f.object
  pub logical : e.logical + e.count ≡ f.logical
  pub physical : e.physical + e.count ≡ f.physical
  pub most : e.count + f.count ≤ most_extent

-- the test says so
pub joins_true : (e f : Extent) → joins e f ≡ true → Joining e f
unfolding joins extent_end
joins_true e f h =
    let t = each-passed (eqb e.object f.object) (eqb (e.logical + e.count) f.logical ∷ eqb (e.physical + e.count) f.physical ∷ leb (e.count + f.count) most_extent ∷ []) h in
    record {
      object = eqb-true e.object f.object t.0;
      logical = eqb-true (e.logical + e.count) f.logical t.1.0;
      physical = eqb-true (e.physical + e.count) f.physical t.1.1.0;
      most = leb-true (e.count + f.count) most_extent t.1.1.1.0;
    }

-- what holds of two extents that join holds of the two as one
abbrev pub Closed : (Extent → Type 0) → Type 0
Closed P = (e f : Extent) → Joining e f → P e → P f → P (joined e f)

-- ---- what holds of each

module _ {P : Extent → Type 0} (c : Closed P) where
  -- an extent before others
  pub each-meet : (e : Extent) (fs : List Extent) → P e → Each P fs → Each P (meet e fs)
  unfolding meet
  each-meet e [] p h = each_more p h
  each-meet e (f ∷ fs) p (each_more q h) =
      if-cases (Each P) (joins e f) (joined e f ∷ fs) (e ∷ f ∷ fs)
      (λ j. each_more (c e f (joins_true e f j) p q) h) (λ j. each_more p (each_more q h))

  -- extents before others
  pub each-attach : (es fs : List Extent) → Each P es → Each P fs → Each P (attach es fs)
  unfolding attach
  each-attach [] fs g h = h
  each-attach (e ∷ []) fs (each_more p g) h = each-meet e fs p h
  each-attach (e ∷ d ∷ es) fs (each_more p g) h = each_more p (each-attach (d ∷ es) fs g h)

  -- a run taken in
  pub each-take_in : (run : Extent) (es : List Extent) → P run → Each P es → Each P (take_in run es)
  unfolding take_in
  each-take_in run es p h =
      each-attach (filter (λ e. extent_before e run) es) (meet run (filter (λ e. not (extent_before e run)) es)) (each-filter (λ e. extent_before e run) h)
      (each-meet run (filter (λ e. not (extent_before e run)) es) p (each-filter (λ e. not (extent_before e run)) h))

  -- runs taken in
  pub each-take_in_all : (runs es : List Extent) → Each P runs → Each P es → Each P (take_in_all runs es)
  unfolding take_in_all
  each-take_in_all [] es g h = h
  each-take_in_all (run ∷ runs) es (each_more p g) h = each-take_in_all runs (take_in run es) g (each-take_in run es p h)

-- ---- one behind the other

-- an extent with a block is closed under joining
pub filled-joined : Closed (λ e. 0 < e.count)
unfolding joined
filled-joined e f j p q = omega arith

-- before the first of two that join is before both
pub ahead-joined : (d e f : Extent) → Ahead d e → Ahead d (joined e f)
unfolding joined
ahead-joined d e f (other p) = other p
ahead-joined d e f (same p l) = same p l

-- behind the second is behind both
pub joined-ahead : (e f g : Extent) → Joining e f → Ahead f g → Ahead (joined e f) g
unfolding joined
joined-ahead e f g j (other p) = other (omega (arith, j.object))
joined-ahead e f g j (same p l) = same (j.object ∙ p) (omega (arith, j.logical))

-- beside both, an extent with a block is beside the two as one
pub beside-joined : (d : Extent) → 0 < d.count → Closed (Beside d)
beside-joined d n e f j (earlier a) q = earlier (ahead-joined d e f a)
beside-joined d n e f j (later a) (later b) = later (joined-ahead e f d j b)
beside-joined d n e f j (later (other p)) (earlier (other q)) = absurd (omega (arith, j.object))
beside-joined d n e f j (later (other p)) (earlier (same q l)) = absurd (omega (arith, j.object))
beside-joined d n e f j (later (same p k)) (earlier (other q)) = absurd (omega (arith, j.object))
beside-joined d n e f j (later (same p k)) (earlier (same q l)) = absurd (omega (arith, j.logical))

-- an extent before others
pub pairs-meet : (e : Extent) {fs : List Extent} → Each (Ahead e) fs → Pairs Ahead fs → Pairs Ahead (meet e fs)
unfolding meet
pairs-meet e a pairs-none = pairs-more a pairs-none
pairs-meet e (each_more {x = f} {xs = fs} a b) (pairs-more p h) =
    if-cases (Pairs Ahead) (joins e f) (joined e f ∷ fs) (e ∷ f ∷ fs)
    (λ j. pairs-more (each_weaken (λ g q. joined-ahead e f g (joins_true e f j) q) p) h) (λ j. pairs-more (each_more a b) (pairs-more p h))

-- extents before others
pairs-attach : {es : List Extent} (fs : List Extent) → Pairs Ahead es → Pairs Ahead fs → Each (λ e. Each (Ahead e) fs) es → Pairs Ahead (attach es fs)
unfolding attach
pairs-attach fs pairs-none k each_none = k
pairs-attach fs (pairs-more {x = e} each_none pairs-none) k (each_more a each_none) = pairs-meet e a k
pairs-attach fs (pairs-more {x = e} (each_more {x = d} {xs = es} p q) h) k (each_more a g) =
    pairs-more (each-attach (λ x y j u v. ahead-joined e x y u) (d ∷ es) fs (each_more p q) a) (pairs-attach fs h k g)

-- ---- a run taken in

module _ (run : Extent) where
  -- the test that tells those before the run
  abbrev early : Extent → Bool
  early e = extent_before e run

  -- an extent that stands before the run and is beside it lies before it
  early-ahead : (e : Extent) → 0 < run.count → early e ≡ true → Beside run e → Ahead e run
  unfolding extent_before
  early-ahead e n b (later a) = a
  early-ahead e n b (earlier (other p)) = absurd (pair_before-cases ⊥ e.object e.logical run.object run.logical b (λ l. omega arith) (λ q l. omega arith))
  early-ahead e n b (earlier (same p k)) = absurd (pair_before-cases ⊥ e.object e.logical run.object run.logical b (λ l. omega arith) (λ q l. omega arith))

  -- one that does not lies behind it
  late-behind : (e : Extent) → 0 < e.count → not (early e) ≡ true → Beside run e → Ahead run e
  late-behind e n b (earlier a) = a
  late-behind e n b (later a) = absurd (clash (not-true (early e) b) (before_of e run n a))

  -- behind an extent that does not stand before the run none does
  late-stays : (e f : Extent) → Ahead e f → early e ≡ false → early f ≡ false
  unfolding extent_before
  late-stays e f a b =
      test-cases (early f ≡ false) (early f)
      (λ t. absurd (clash b (pair_before-cases (early e ≡ true) f.object f.logical run.object run.logical t (λ l. first a l) (λ q l. second a q l)))) (λ t. t)
    where
      first : Ahead e f → f.object < run.object → early e ≡ true
      first (other p) l = pair_before-first e.object e.logical run.object run.logical (omega arith)
      first (same p k) l = pair_before-first e.object e.logical run.object run.logical (omega arith)

      second : Ahead e f → f.object ≡ run.object → f.logical < run.logical → early e ≡ true
      second (other p) q l = pair_before-first e.object e.logical run.object run.logical (omega arith)
      second (same p k) q l = pair_before-second e.object e.logical run.object run.logical (p ∙ q) (omega arith)

  -- the extents of a book that stand before the run
  abbrev pub front : List Extent → List Extent
  front es = filter early es

  -- and those that do not stand before it
  abbrev pub back : List Extent → List Extent
  back es = filter (λ e. not (early e)) es

  module _ {es : List Extent} (l : Laid es) (n : 0 < run.count) (b : Each (Beside run) es) where
    -- they are the book's two parts
    pub run-parts : front es ++ back es ≡ es
    run-parts = filter_parts early late-stays l.ahead

    -- the front lies before the run
    front-ahead : Each (λ e. Ahead e run) (front es)
    front-ahead = each_both (λ e t k. early-ahead e n t k) (each-kept early es) (each-filter early b)

    -- and the back behind it
    back-behind : Each (Ahead run) (back es)
    back-behind =
        let late : Extent → Bool = λ e. not (early e) in
        let h : Each (λ e. late e ≡ true → Ahead run e) es = each_both (λ e m k t. late-behind e m t k) l.filled b in
        each_both {P = λ e. late e ≡ true → Ahead run e} (λ e m t. m t) (each-filter late h) (each-kept late es)

    -- the book with the run is laid as the book was
    pub laid-take_in : Laid (take_in run es)
    laid-take_in = record {
      filled = each-take_in filled-joined run es n l.filled;
      ahead = unfold take_in in pairs-attach (meet run (back es)) (pairs-filter early l.ahead) (pairs-meet run back-behind (pairs-filter (λ e. not (early e)) l.ahead))
          (each_weaken (λ e a. each-meet (λ x y j u v. ahead-joined e x y u) run (back es) a (each_weaken (λ f k. ahead-trans e run f a k) back-behind)) front-ahead);
    }

-- ---- runs taken in

-- runs that are beside every extent of a book
abbrev pub Between : List Extent → List Extent → Type 0
Between runs es = Each (λ run. Each (Beside run) es) runs

-- are so after one of them was taken in
pub between-take_in : (run : Extent) {runs : List Extent} (es : List Extent) → Each (Ahead run) runs → Each (λ d. 0 < d.count) runs → Between runs es → Between runs (take_in run es)
between-take_in run es each_none each_none each_none = each_none
between-take_in run es (each_more {x = d} a g) (each_more n h) (each_more b k) =
    each_more (each-take_in (beside-joined d n) run es (later a) b) (between-take_in run es g h k)

-- the book with the runs is laid as the book was
pub laid-take_in_all : (runs : List Extent) {es : List Extent} → Laid runs → Laid es → Between runs es → Laid (take_in_all runs es)
unfolding take_in_all
laid-take_in_all [] r l b = l
laid-take_in_all (run ∷ runs) {es} r l (each_more b k) =
    let n : 0 < run.count = laid-first r in
    laid-take_in_all runs (laid-tail r) (laid-take_in run l n b) (between-take_in run es (laid-ahead r) (laid-tail r).filled k)
