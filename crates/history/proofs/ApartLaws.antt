-- Extents one behind the other: what refusal 2 says of neighbours in a book holds of every two of its extents, and the other way round.
-- Assumes nothing.
use mathlib.Core.Path.{◌≡◌, refl, sym, ap, ◌∙◌}
use mathlib.Core.List.{List, [], ◌∷◌, ◌++◌, flat_map}
use mathlib.Core.Bool.{Bool, true, false, not}
use Prim.Native.Nat.{◌+◌, ◌≤◌, ◌<◌}
use native.Mathlib.Omega.{arith}
use lib.Dec.{eqb, ltb, leb}
use borrow.Author.Tests.{eqb-false, ltb-true, lt-ltb, leb-true, le-leb, ne_eqb, not-true}
use Rattle.rules.specs.Lists.{filter, ascending, neighbours}
use Rattle.rules.specs.Extent.{Extent, extent_before, extent_end}
use Rattle.rules.specs.Integrity.{apart}
use Rattle.rules.proofs.ListLaws.{test-cases, if-cases, and_intro, or_cases, or_left, or_right, filter-yes, filter-no, pair_before-cases, pair_before-first, pair_before-second, ascending-first, ascending-tail, Each, each_none, each_more, each_all, each_append, each_weaken}
use Rattle.rules.proofs.PassLaws.{all-each}
use Rattle.rules.proofs.CountLaws.{filter-nothing}
use Rattle.history.proofs.Rewritten.{each_first, each-rest, Apart}

-- ---- lists

-- each element stands in the relation to all behind it
pub data Pairs {A : Type 0} (R : A → A → Type 0) : List A → Type 0 where
  pairs-none : Pairs R []
  pairs-more : {x : A} {xs : List A} → Each (R x) xs → Pairs R xs → Pairs R (x ∷ xs)

module _ {A : Type 0} where
  -- what is kept of elements that have a property has it
  pub each-filter : {P : A → Type 0} (f : A → Bool) {xs : List A} → Each P xs → Each P (filter f xs)
  unfolding filter
  each-filter f each_none = each_none
  each-filter {P} f (each_more {x = x} {xs = xs} p h) =
      let r : Each P (filter f xs) = each-filter f h in
      if-cases (Each P) (f x) (x ∷ filter f xs) (filter f xs) (λ e. each_more p r) (λ e. r)

  -- and passed the test
  pub each-kept : (f : A → Bool) (xs : List A) → Each (λ x. f x ≡ true) (filter f xs)
  unfolding filter
  each-kept f [] = each_none
  each-kept f (x ∷ xs) =
      let r : Each (λ y. f y ≡ true) (filter f xs) = each-kept f xs in
      if-cases (Each (λ y. f y ≡ true)) (f x) (x ∷ filter f xs) (filter f xs) (λ e. each_more e r) (λ e. r)

  -- two lists joined: the first has what both have
  pub each-front : {P : A → Type 0} (xs ys : List A) → Each P (xs ++ ys) → Each P xs
  each-front [] ys h = each_none
  each-front (x ∷ xs) ys (each_more p h) = each_more p (each-front xs ys h)

  -- and so has the second
  pub each_back : {P : A → Type 0} (xs ys : List A) → Each P (xs ++ ys) → Each P ys
  each_back [] ys h = h
  each_back (x ∷ xs) ys (each_more p h) = each_back xs ys h

  -- lists of lists
  pub each-flat_map : {B : Type 0} {P : B → Type 0} (s : A → List B) {xs : List A} → Each (λ x. Each P (s x)) xs → Each P (flat_map s xs)
  unfolding flat_map
  each-flat_map s each_none = each_none
  each-flat_map s (each_more p h) = each_append p (each-flat_map s h)

  -- what is kept stands so too
  pub pairs-filter : {R : A → A → Type 0} (f : A → Bool) {xs : List A} → Pairs R xs → Pairs R (filter f xs)
  unfolding filter
  pairs-filter f pairs-none = pairs-none
  pairs-filter {R} f (pairs-more {x = x} {xs = xs} p h) =
      let r : Pairs R (filter f xs) = pairs-filter f h in
      if-cases (Pairs R) (f x) (x ∷ filter f xs) (filter f xs) (λ e. pairs-more (each-filter f p) r) (λ e. r)

  -- two lists joined
  pub pairs-append : {R : A → A → Type 0} {xs ys : List A} → Pairs R xs → Pairs R ys → Each (λ x. Each (R x) ys) xs → Pairs R (xs ++ ys)
  pairs-append pairs-none k each_none = k
  pairs-append (pairs-more p h) k (each_more q g) = pairs-more (each_append p q) (pairs-append h k g)

  -- where a test that fails at an element fails at all behind it, what passes and what does not are the list's two parts
  pub filter_parts : {R : A → A → Type 0} (f : A → Bool) → ((x y : A) → R x y → f x ≡ false → f y ≡ false) → {xs : List A} → Pairs R xs
      → filter f xs ++ filter (λ x. not (f x)) xs ≡ xs
  filter_parts f k pairs-none = unfold filter in refl
  filter_parts f k (pairs-more {x = x} {xs = xs} p h) =
      test-cases (filter f (x ∷ xs) ++ filter (λ y. not (f y)) (x ∷ xs) ≡ x ∷ xs) (f x)
      (λ e. rw (filter-yes f x xs e, filter-no (λ y. not (f y)) x xs (ap not e)) (ap (λ (ys : List A). x ∷ ys) (filter_parts f k h)))
      (λ e. rw (filter-no f x xs e, filter-yes (λ y. not (f y)) x xs (ap not e), filter-nothing f (each_weaken (λ y r. k x y r e) p))
      (ap (λ (ys : List A). x ∷ ys) (ap (λ (zs : List A). zs ++ filter (λ y. not (f y)) xs) (sym (filter-nothing f (each_weaken (λ y r. k x y r e) p))) ∙ filter_parts f k h)))

-- lists of lists told apart again
pub each-split : {A B : Type 0} {P : B → Type 0} (s : A → List B) (xs : List A) → Each P (flat_map s xs) → Each (λ x. Each P (s x)) xs
unfolding flat_map
each-split s [] h = each_none
each-split s (x ∷ xs) h = each_more (each-front (s x) (flat_map s xs) h) (each-split s xs (each_back (s x) (flat_map s xs) h))

-- ---- extents

-- e ends before f starts, or is of a file before f's
pub data Ahead (e f : Extent) : Type 0 where
  other : e.object < f.object → Ahead e f
  same : e.object ≡ f.object → e.logical + e.count ≤ f.logical → Ahead e f

-- one of two extents lies before the other
pub data Beside (e f : Extent) : Type 0 where
  earlier : Ahead e f → Beside e f
  later : Ahead f e → Beside e f

-- an extent before one that is before a third
pub ahead-trans : (e f g : Extent) → Ahead e f → Ahead f g → Ahead e g
ahead-trans e f g (other p) (other q) = other (omega arith)
ahead-trans e f g (other p) (same q k) = other (omega arith)
ahead-trans e f g (same p h) (other q) = other (omega arith)
ahead-trans e f g (same p h) (same q k) = same (p ∙ q) (omega arith)

-- neighbours in a book that refusal 2 passes
ahead_of : (e f : Extent) → extent_before e f ≡ true → apart e f ≡ true → Ahead e f
unfolding extent_before apart extent_end
ahead_of e f b c = pair_before-cases (Ahead e f) e.object e.logical f.object f.logical b other
    (λ q l. or_cases (Ahead e f) (not (eqb e.object f.object)) (leb (e.logical + e.count) f.logical) c
    (λ n. absurd (eqb-false e.object f.object (not-true (eqb e.object f.object) n) q))
    (λ k. same q (leb-true (e.logical + e.count) f.logical k)))

-- an extent with a block stands before one that it lies before
pub before_of : (e f : Extent) → 0 < e.count → Ahead e f → extent_before e f ≡ true
unfolding extent_before
before_of e f n (other p) = pair_before-first e.object e.logical f.object f.logical p
before_of e f n (same p l) = pair_before-second e.object e.logical f.object f.logical p (omega arith)

-- and does not overlap it
clear_of : (e f : Extent) → Ahead e f → apart e f ≡ true
unfolding apart extent_end
clear_of e f (other p) = or_left (not (eqb e.object f.object)) (leb (e.logical + e.count) f.logical) (ap not (ne_eqb e.object f.object (λ q. omega arith)))
clear_of e f (same p l) = or_right (not (eqb e.object f.object)) (leb (e.logical + e.count) f.logical) (le-leb (e.logical + e.count) f.logical l)

-- every extent has a block, and lies before all behind it
pub record Laid (es : List Extent) : Type 0 where
  pub filled : Each (λ e. 0 < e.count) es
  pub ahead : Pairs Ahead es

-- the first of them has a block
pub laid-first : {e : Extent} {es : List Extent} → Laid (e ∷ es) → 0 < e.count
laid-first l = each_first l.filled

-- lies before the others
pub laid-ahead : {e : Extent} {es : List Extent} → Laid (e ∷ es) → Each (Ahead e) es
laid-ahead {e} {es} l = go l.ahead
  where
    go : Pairs Ahead (e ∷ es) → Each (Ahead e) es
    go (pairs-more p h) = p

-- and the others are laid so themselves
pub laid-tail : {e : Extent} {es : List Extent} → Laid (e ∷ es) → Laid es
laid-tail {e} {es} l = record { filled = each-rest l.filled; ahead = go l.ahead }
  where
    go : Pairs Ahead (e ∷ es) → Pairs Ahead es
    go (pairs-more p h) = h

-- the order of neighbours is that of all
ahead-all : (es : List Extent) → ascending extent_before es ≡ true → neighbours apart es ≡ true → Pairs Ahead es
ahead-all [] h k = pairs-none
ahead-all (e ∷ []) h k = pairs-more each_none pairs-none
ahead-all (e ∷ f ∷ es) h k =
    step (ahead_of e f (ascending-first extent_before e f es h) (ascending-first apart e f es k))
    (ahead-all (f ∷ es) (ascending-tail extent_before e (f ∷ es) h) (ascending-tail apart e (f ∷ es) k))
  where
    step : Ahead e f → Pairs Ahead (f ∷ es) → Pairs Ahead (e ∷ f ∷ es)
    step a (pairs-more p r) = pairs-more (each_more a (each_weaken (λ g q. ahead-trans e f g a q) p)) (pairs-more p r)

-- books that refusal 2 passes are laid so
pub laid_of : (es : List Extent) → Apart es → Laid es
laid_of es a = record {
  filled = each_all (λ e. ltb 0 e.count) (λ e q. ltb-true 0 e.count q) es a.filled;
  ahead = ahead-all es a.order a.apart;
}

-- extents laid so are in order
order-of : {es : List Extent} → Each (λ e. 0 < e.count) es → Pairs Ahead es → ascending extent_before es ≡ true
unfolding neighbours
order-of each_none pairs-none = refl
order-of (each_more n each_none) (pairs-more p pairs-none) = refl
order-of (each_more {x = e} n (each_more {x = f} {xs = es} m h)) (pairs-more (each_more a p) (pairs-more q r)) =
    and_intro (extent_before e f) (ascending extent_before (f ∷ es)) (before_of e f n a) (order-of (each_more m h) (pairs-more q r))

-- and do not overlap
clear-all : {es : List Extent} → Pairs Ahead es → neighbours apart es ≡ true
unfolding neighbours
clear-all pairs-none = refl
clear-all (pairs-more each_none pairs-none) = refl
clear-all (pairs-more {x = e} (each_more {x = f} {xs = es} a p) (pairs-more q r)) =
    and_intro (apart e f) (neighbours apart (f ∷ es)) (clear_of e f a) (clear-all (pairs-more q r))

-- so refusal 2 passes them
pub apart_of : (es : List Extent) → Laid es → Apart es
apart_of es l = record {
  order = order-of l.filled l.ahead;
  filled = all-each (λ e. ltb 0 e.count) (each_weaken (λ e n. lt-ltb 0 e.count n) l.filled);
  apart = clear-all l.ahead;
}
