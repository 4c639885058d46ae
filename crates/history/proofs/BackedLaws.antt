-- Refusal 9's test of a unit: the last extent at or before the unit's last block ends past its first exactly where one of the unit's blocks is mapped.
-- Assumes nothing.
use mathlib.Core.Path.{◌≡◌, refl, sym, ap, ◌∙◌}
use mathlib.Core.List.{List, [], ◌∷◌, get_last?}
use mathlib.Core.Bool.{Bool, true, false, ◌&&◌}
use mathlib.Core.Option.{Option, none, some, none-ne-some, some-injective}
use Prim.Native.Nat.{ℕ, ◌+◌, ◌-◌, ◌*◌, ◌/◌, ◌≤◌, ◌<◌, max}
use native.Mathlib.Omega.{arith}
use lib.Dec.{eqb, ltb, leb}
use lib.ListN.{length, get_or}
use borrow.Author.Tests.{eqb-true, eq-eqb, leb-true, le-leb, ltb-true, ltb-false}
use Rattle.rules.specs.Lists.{given, range, any, filter}
use Rattle.rules.specs.Sizes.{unit_blocks}
use Rattle.rules.specs.Extent.{Extent, extent_end, covers, block_of, mapping}
use Rattle.rules.specs.Store.{Volume}
use Rattle.rules.specs.Inspect.{floor_extent, backed_under, unit_mapping}
use Rattle.rules.proofs.ListLaws.{test-cases, clash, maybe-cases, maybe-some, and_left, and_right, and_intro, any-map, filter-yes, filter-no, any-index, none-at, length-range, get_or-range, Each, each_none, each_more, each_weaken}
use Rattle.rules.proofs.CountLaws.{same_test}
use Rattle.history.proofs.Rewritten.{each_first, each-rest, Apart}
use Rattle.history.proofs.ApartLaws.{Pairs, pairs-none, pairs-more, pairs-filter, each-filter, each-kept, Ahead, other, same, laid_of}
use Rattle.history.proofs.MappingLaws.{Covers, covers_of, mapping-yes, mapping-no, mapping-none}

-- ---- lists

module _ {A : Type 0} where
  -- the last element has what each has
  each_last : {P : A → Type 0} {xs : List A} → Each P xs → (x : A) → get_last? xs ≡ some x → P x
  each_last each_none x e = absurd (none-ne-some x e)
  each_last {P} (each_more {x = y} p each_none) x e = rw (some-injective x y (sym e)) p
  each_last (each_more p (each_more q h)) x e = each_last (each_more q h) x e

  -- what each has that passes a test, each has if it passes
  each-passing : {P : A → Type 0} (f : A → Bool) (xs : List A) → Each P (filter f xs) → Each (λ x. f x ≡ true → P x) xs
  each-passing f [] h = each_none
  each-passing {P} f (x ∷ xs) h =
      test-cases (Each (λ y. f y ≡ true → P y) (x ∷ xs)) (f x)
      (λ t. let k : Each P (x ∷ filter f xs) = rw (filter-yes f x xs t) at h in each_more (λ q. each_first k) (each-passing f xs (each-rest k)))
      (λ t. each_more (λ q. absurd (clash t q)) (each-passing f xs (rw (filter-no f x xs t) at h)))

-- ---- the last extent

-- of extents of one file one that lies before another ends before it
reach-one : (object : ℕ) (d e : Extent) → d.object ≡ object → e.object ≡ object → Ahead d e → d.logical + d.count ≤ e.logical + e.count
reach-one object d e p q (other l) = absurd (omega arith)
reach-one object d e p q (same k l) = omega arith

-- so the last reaches furthest
last-reach : (object : ℕ) {xs : List Extent} → Each (λ e. e.object ≡ object) xs → Pairs Ahead xs → (f : Extent) → get_last? xs ≡ some f → Each (λ e. e.logical + e.count ≤ f.logical + f.count) xs
last-reach object each_none pairs-none f q = each_none
last-reach object (each_more {x = e} o each_none) (pairs-more p pairs-none) f q =
    let d : e.logical + e.count ≡ f.logical + f.count = ap (λ (x : Extent). x.logical + x.count) (some-injective e f q) in
    each_more {x = e} (omega arith) each_none
last-reach object (each_more {x = e} o (each_more {x = d} m n)) (pairs-more p (pairs-more g h)) f q =
    let r = last-reach object (each_more m n) (pairs-more g h) f q in
    let k : d.logical + d.count ≤ f.logical + f.count = each_first r in
    each_more {x = e} (omega (arith, reach-one object e d o m (each_first p))) r

-- a list without a last element has none
none_last : {P : Extent → Type 0} (xs : List Extent) → get_last? xs ≡ none → Each P xs
none_last [] q = each_none
none_last (x ∷ xs) q = absurd (none-ne-some _ (sym q))

-- ---- the unit

-- where no block of some kind is mapped no extent has one
none-covers : (object : ℕ) (Q : ℕ → Type 0) (es : List Extent) → ((b : ℕ) → Q b → mapping es object b ≡ none) → Each (λ e. (b : ℕ) → Q b → Covers object b e → ⊥) es
none-covers object Q [] h = each_none
none-covers object Q (e ∷ es) h =
    each_more (λ b q c. none-ne-some (block_of b e) (sym (h b q) ∙ mapping-yes object b e es (covers_of c)))
    (none-covers object Q es (λ b q. test-cases (mapping es object b ≡ none) (covers object b e)
    (λ t. absurd (none-ne-some (block_of b e) (sym (h b q) ∙ mapping-yes object b e es t))) (λ t. sym (mapping-no object b e es t) ∙ h b q)))

module _ (v : Volume) (object unit : ℕ) (a : Apart v.books.extents) where
  -- the test that finds the extents of the file at or before the unit's last block
  abbrev early : Extent → Bool
  early e = eqb e.object object && leb e.logical (unit * unit_blocks + (unit_blocks - 1))

  -- for books that refusal 2 passes the test fails where none of the unit's blocks is mapped
  pub none-unbacked : ((b : ℕ) → b / unit_blocks ≡ unit → mapping v.books.extents object b ≡ none) → backed_under v object unit ≡ false
  unfolding backed_under floor_extent extent_end
  none-unbacked h =
      let es : List Extent = v.books.extents in
      let n : Each (λ e. (b : ℕ) → b / unit_blocks ≡ unit → Covers object b e → ⊥) (filter early es) = each-filter early (none-covers object (λ b. b / unit_blocks ≡ unit) es h) in
      maybe-cases (λ t. t ≡ false) false (λ e. ltb (unit * unit_blocks) (e.logical + e.count)) (get_last? (filter early es)) (λ q. refl)
      (λ e q. test-cases (ltb (unit * unit_blocks) (e.logical + e.count) ≡ false) (ltb (unit * unit_blocks) (e.logical + e.count))
      (λ t. absurd (past e (each_last (each-kept early es) e q) (each_last (each-filter early (laid_of es a).filled) e q) (ltb-true (unit * unit_blocks) (e.logical + e.count) t) (each_last n e q))) (λ t. t))
    where
      past : (e : Extent) → early e ≡ true → 0 < e.count → unit * unit_blocks < e.logical + e.count → ((b : ℕ) → b / unit_blocks ≡ unit → Covers object b e → ⊥) → ⊥
      past e t n l k =
          let last : ℕ = unit * unit_blocks + (unit_blocks - 1) in
          let m : e.logical ≤ unit * unit_blocks + (unit_blocks - 1) = leb-true e.logical last (and_right (eqb e.object object) (leb e.logical last) t) in
          let b : ℕ = max e.logical (unit * unit_blocks) in
          k b (omega arith) (record { file = eqb-true e.object object (and_left (eqb e.object object) (leb e.logical last) t); low = omega arith; high = omega arith })

  -- and none of them is mapped where it fails
  pub unbacked-none : backed_under v object unit ≡ false → (b : ℕ) → b / unit_blocks ≡ unit → mapping v.books.extents object b ≡ none
  unfolding backed_under floor_extent extent_end
  unbacked-none h b q = mapping-none object b (each_weaken (λ e k c. k (passes e c) c) (each-passing early es (go (get_last? (filter early es)) refl)))
    where
      es : List Extent
      es = v.books.extents

      passes : (e : Extent) → Covers object b e → early e ≡ true
      passes e c =
          let last : ℕ = unit * unit_blocks + (unit_blocks - 1) in
          and_intro (eqb e.object object) (leb e.logical last) (eq-eqb e.object object c.file) (le-leb e.logical last (omega (arith, c.low)))

      files : Each (λ e. e.object ≡ object) (filter early es)
      files = each_weaken (λ e t. eqb-true e.object object (and_left (eqb e.object object) (leb e.logical (unit * unit_blocks + (unit_blocks - 1))) t)) (each-kept early es)

      go : (o : Option Extent) → get_last? (filter early es) ≡ o → Each (λ e. Covers object b e → ⊥) (filter early es)
      go none p = none_last (filter early es) p
      go (some f) p =
          let t : ltb (unit * unit_blocks) (f.logical + f.count) ≡ false = sym (maybe-some false (λ e. ltb (unit * unit_blocks) (e.logical + e.count)) (get_last? (filter early es)) f p) ∙ h in
          let l : f.logical + f.count ≤ unit * unit_blocks = ltb-false (unit * unit_blocks) (f.logical + f.count) t in
          each_weaken (λ e k c. omega (arith, c.high, k, l, q)) (last-reach object files (pairs-filter early (laid_of es a).ahead) f p)

  -- in one line: it passes exactly if some block of the unit is mapped
  pub backed-mapping : backed_under v object unit ≡ any given (unit_mapping v object unit unit_blocks)
  unfolding unit_mapping given
  backed-mapping =
      same_test (backed_under v object unit) (any f blocks) (λ t. test-cases (any f blocks ≡ true) (any f blocks) (λ q. q) (λ q. absurd (clash (none-unbacked (nothing q)) t)))
      (λ t. test-cases (backed_under v object unit ≡ true) (backed_under v object unit) (λ q. q) (λ q. absurd (something q t)))
      ∙ sym (any-map given (mapping v.books.extents object) blocks)
    where
      blocks : List ℕ
      blocks = range (unit * unit_blocks) unit_blocks

      f : ℕ → Bool
      f b = given (mapping v.books.extents object b)

      absent : (o : Option ℕ) → given o ≡ false → o ≡ none
      absent none q = refl
      absent (some x) q = absurd (clash q refl)

      nothing : any f blocks ≡ false → (b : ℕ) → b / unit_blocks ≡ unit → mapping v.books.extents object b ≡ none
      nothing q b e =
          let i : ℕ = b - unit * unit_blocks in
          let n : length (range (unit * unit_blocks) unit_blocks) ≡ unit_blocks = length-range (unit * unit_blocks) unit_blocks in
          let k : get_or (range (unit * unit_blocks) unit_blocks) i 0 ≡ b = get_or-range (unit * unit_blocks) unit_blocks i 0 (omega arith) ∙ omega arith in
          absent (mapping v.books.extents object b) (sym (ap f k) ∙ none-at f blocks q i 0 (omega arith))

      something : backed_under v object unit ≡ false → any f blocks ≡ true → ⊥
      something q t =
          let r = any-index f blocks 0 t in
          let n : length (range (unit * unit_blocks) unit_blocks) ≡ unit_blocks = length-range (unit * unit_blocks) unit_blocks in
          let l : r.0 < unit_blocks = omega (arith, r.1) in
          let k : get_or (range (unit * unit_blocks) unit_blocks) r.0 0 ≡ unit * unit_blocks + r.0 = get_or-range (unit * unit_blocks) unit_blocks r.0 0 l in
          clash (ap given (unbacked-none q (unit * unit_blocks + r.0) (omega arith))) (sym (ap f k) ∙ r.2)
