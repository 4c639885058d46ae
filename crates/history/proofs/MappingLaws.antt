-- Where a block of a file is on the device, told by a book's extents one by one; taking in runs adds what they map to what the book does.
-- Assumes nothing.
use mathlib.Core.Path.{◌≡◌, refl, sym, ap, ◌∙◌}
use mathlib.Core.List.{List, [], ◌∷◌, ◌++◌}
use mathlib.Core.Bool.{true, false, ◌&&◌}
use mathlib.Core.Option.{Option, none, some, none-ne-some}
use Prim.Native.Nat.{ℕ, ◌+◌, ◌≤◌, ◌<◌}
use native.Mathlib.Decide.{dec_lt}
use native.Mathlib.Omega.{arith}
use lib.Dec.{eqb, leb, ltb}
use borrow.Author.Tests.{eqb-true, eq-eqb, leb-true, le-leb, ltb-true, lt-ltb}
use Rattle.rules.specs.Lists.{pick◌then◌else◌, maybe, filter, find}
use Rattle.rules.specs.Extent.{Extent, extent_before, extent_end, joins, joined, covers, block_of, mapping}
use Rattle.rules.specs.Finish.{meet, attach, take_in, take_in_all}
use Rattle.rules.proofs.ListLaws.{test-cases, clash, if-true, if-false, and_left, and_right, and_intro, find-yes, find-no, Each, each_none, each_more, each_weaken}
use Rattle.history.proofs.ApartLaws.{Ahead, other, same, Beside, earlier, later, Laid, laid-first, laid-ahead, laid-tail, each-filter}
use Rattle.history.proofs.MeetLaws.{Joining, joins_true, front, back, run-parts, laid-take_in, Between, between-take_in}

-- ---- one extent

-- the block lies in the extent
pub record Covers (object block : ℕ) (e : Extent) : Type 0 where
  pub file : e.object ≡ object
  pub low : e.logical ≤ block
  pub high : block < e.logical + e.count

-- the test says so
pub covers-true : {object block : ℕ} {e : Extent} → covers object block e ≡ true → Covers object block e
unfolding covers extent_end
covers-true {object} {block} {e} h =
    let g : (eqb e.object object && leb e.logical block) ≡ true = and_left (eqb e.object object && leb e.logical block) (ltb block (e.logical + e.count)) h in
    record {
      file = eqb-true e.object object (and_left (eqb e.object object) (leb e.logical block) g);
      low = leb-true e.logical block (and_right (eqb e.object object) (leb e.logical block) g);
      high = ltb-true block (e.logical + e.count) (and_right (eqb e.object object && leb e.logical block) (ltb block (e.logical + e.count)) h);
    }

-- and passes where it is so
pub covers_of : {object block : ℕ} {e : Extent} → Covers object block e → covers object block e ≡ true
unfolding covers extent_end
covers_of {object} {block} {e} c =
    and_intro (eqb e.object object && leb e.logical block) (ltb block (e.logical + e.count))
    (and_intro (eqb e.object object) (leb e.logical block) (eq-eqb e.object object c.file) (le-leb e.logical block c.low))
    (lt-ltb block (e.logical + e.count) c.high)

-- it fails where it is not
pub covers-not : (object block : ℕ) (e : Extent) → (Covers object block e → ⊥) → covers object block e ≡ false
covers-not object block e n = test-cases (covers object block e ≡ false) (covers object block e) (λ t. absurd (n (covers-true t))) (λ t. t)

-- no block lies in two extents beside each other
pub beside-apart : {object block : ℕ} {e f : Extent} → Beside e f → Covers object block e → Covers object block f → ⊥
beside-apart (earlier (other p)) c d = omega (arith, c.file, d.file)
beside-apart (earlier (same p l)) c d = omega (arith, c.high, d.low)
beside-apart (later (other p)) c d = omega (arith, c.file, d.file)
beside-apart (later (same p l)) c d = omega (arith, c.low, d.high)

-- ---- many

-- the one, and the other where it is not there
unfoldable pub or_else : Option ℕ → Option ℕ → Option ℕ
or_else none y = y
or_else (some x) y = some x

-- nothing behind
pub or_else-none : (a : Option ℕ) → or_else a none ≡ a
unfolding or_else
or_else-none none = refl
or_else-none (some x) = refl

-- of three in any grouping
pub or_else-assoc : (a b c : Option ℕ) → or_else (or_else a b) c ≡ or_else a (or_else b c)
unfolding or_else
or_else-assoc none b c = refl
or_else-assoc (some x) b c = refl

module _ (object block : ℕ) where
  -- an extent that has the block
  pub mapping-yes : (e : Extent) (es : List Extent) → covers object block e ≡ true → mapping (e ∷ es) object block ≡ some (block_of block e)
  unfolding mapping maybe
  mapping-yes e es c = rw (find-yes (covers object block) e es c) refl

  -- one that does not
  pub mapping-no : (e : Extent) (es : List Extent) → covers object block e ≡ false → mapping (e ∷ es) object block ≡ mapping es object block
  unfolding mapping
  mapping-no e es c = rw (find-no (covers object block) e es c) refl

  -- no extents have none
  pub mapping-nil : mapping [] object block ≡ none
  unfolding mapping maybe find filter
  mapping-nil = refl

  -- nor have extents that do not have this one
  pub mapping-none : {es : List Extent} → Each (λ e. Covers object block e → ⊥) es → mapping es object block ≡ none
  mapping-none each_none = mapping-nil
  mapping-none (each_more {x = e} {xs = es} n h) = mapping-no e es (covers-not object block e n) ∙ mapping-none h

  -- an extent before others
  pub mapping-cons : (e : Extent) (es : List Extent) → mapping (e ∷ es) object block ≡ or_else (mapping (e ∷ []) object block) (mapping es object block)
  unfolding or_else
  mapping-cons e es =
      test-cases (mapping (e ∷ es) object block ≡ or_else (mapping (e ∷ []) object block) (mapping es object block)) (covers object block e)
      (λ c. rw (mapping-yes e es c, mapping-yes e [] c) refl)
      (λ c. rw (mapping-no e es c, mapping-no e [] c, mapping-nil) refl)

  -- of two lists joined
  pub mapping-append : (es fs : List Extent) → mapping (es ++ fs) object block ≡ or_else (mapping es object block) (mapping fs object block)
  unfolding or_else
  mapping-append [] fs = rw mapping-nil refl
  mapping-append (e ∷ es) fs =
      test-cases (mapping (e ∷ (es ++ fs)) object block ≡ or_else (mapping (e ∷ es) object block) (mapping fs object block)) (covers object block e)
      (λ c. rw (mapping-yes e (es ++ fs) c, mapping-yes e es c) refl)
      (λ c. rw (mapping-no e (es ++ fs) c, mapping-no e es c) (mapping-append es fs))

  -- two that join have what the first has
  joined-yes : (e f : Extent) → Joining e f → Covers object block e → Covers object block (joined e f)
  unfolding joined
  joined-yes e f j c = record { file = c.file; low = c.low; high = omega (arith, c.high) }

  -- and what the second has
  joined-also : (e f : Extent) → Joining e f → Covers object block f → Covers object block (joined e f)
  unfolding joined
  joined-also e f j c = record { file = j.object ∙ c.file; low = omega (arith, c.low, j.logical); high = omega (arith, c.high, j.logical) }

  -- and no more
  pub joined-only : (P : Type 0) (e f : Extent) → Joining e f → Covers object block (joined e f) → (Covers object block e → P) → (Covers object block f → P) → P
  unfolding joined
  joined-only P e f j c g h = go (dec_lt block (e.logical + e.count))
    where
      go : Dec (block < e.logical + e.count) → P
      go (yes l) = g (record { file = c.file; low = c.low; high = l })
      go (no l) = h (record { file = sym j.object ∙ c.file; low = omega (arith, j.logical); high = omega (arith, j.logical, c.high) })

  -- the first's blocks are where they were
  joined-first : (e f : Extent) → block_of block (joined e f) ≡ block_of block e
  unfolding block_of joined
  joined-first e f = refl

  -- and so are the second's
  joined-second : (e f : Extent) → Joining e f → Covers object block f → block_of block (joined e f) ≡ block_of block f
  unfolding block_of joined
  joined-second e f j c = omega (arith, j.logical, j.physical, c.low)

  -- so the two as one map what they mapped
  mapping-joined : (e f : Extent) (fs : List Extent) → Joining e f → mapping (joined e f ∷ fs) object block ≡ mapping (e ∷ f ∷ fs) object block
  mapping-joined e f fs j =
      let P : Type 0 = mapping (joined e f ∷ fs) object block ≡ mapping (e ∷ f ∷ fs) object block in
      test-cases P (covers object block e)
      (λ c. rw (mapping-yes (joined e f) fs (covers_of (joined-yes e f j (covers-true c))), mapping-yes e (f ∷ fs) c) (ap some (joined-first e f)))
      (λ c. test-cases P (covers object block f)
      (λ d. rw (mapping-yes (joined e f) fs (covers_of (joined-also e f j (covers-true d))), mapping-no e (f ∷ fs) c, mapping-yes f fs d) (ap some (joined-second e f j (covers-true d))))
      (λ d. rw (mapping-no (joined e f) fs (covers-not object block (joined e f) (λ k. joined-only ⊥ e f j k (λ q. clash c (covers_of q)) (λ q. clash d (covers_of q)))), mapping-no e (f ∷ fs) c, mapping-no f fs d) refl))

  -- so joining changes nothing
  pub mapping-meet : (e : Extent) (fs : List Extent) → mapping (meet e fs) object block ≡ mapping (e ∷ fs) object block
  unfolding meet
  mapping-meet e [] = refl
  mapping-meet e (f ∷ fs) =
      test-cases (mapping (pick joins e f then joined e f ∷ fs else e ∷ f ∷ fs) object block ≡ mapping (e ∷ f ∷ fs) object block) (joins e f)
      (λ j. rw (if-true (joins e f) (joined e f ∷ fs) (e ∷ f ∷ fs) j) (mapping-joined e f fs (joins_true e f j)))
      (λ j. rw (if-false (joins e f) (joined e f ∷ fs) (e ∷ f ∷ fs) j) refl)

  -- nor does attaching
  pub mapping-attach : (es fs : List Extent) → mapping (attach es fs) object block ≡ mapping (es ++ fs) object block
  unfolding attach
  mapping-attach [] fs = refl
  mapping-attach (e ∷ []) fs = mapping-meet e fs
  mapping-attach (e ∷ d ∷ es) fs = mapping-cons e (attach (d ∷ es) fs) ∙ ap (or_else (mapping (e ∷ []) object block)) (mapping-attach (d ∷ es) fs) ∙ sym (mapping-cons e (d ∷ es ++ fs))

  -- ---- runs

  -- of what is not there twice the order is free
  swap : (a b c : Option ℕ) → ((x : ℕ) → b ≡ some x → a ≡ none) → or_else a (or_else b c) ≡ or_else b (or_else a c)
  unfolding or_else
  swap none none c h = refl
  swap none (some x) c h = refl
  swap (some y) none c h = refl
  swap (some y) (some x) c h = absurd (none-ne-some y (sym (h x refl)))

  -- what an extent has, none beside it has
  beside_none : (e : Extent) {es : List Extent} → Each (Beside e) es → (x : ℕ) → mapping (e ∷ []) object block ≡ some x → mapping es object block ≡ none
  beside_none e b x q =
      test-cases (mapping _ object block ≡ none) (covers object block e)
      (λ c. mapping-none (each_weaken (λ f k d. beside-apart k (covers-true c) d) b))
      (λ c. absurd (let z : none ≡ some x = sym (mapping-no e [] c ∙ mapping-nil) ∙ q in none-ne-some x z))

  -- a run taken in
  pub mapping-take_in : (run : Extent) (es : List Extent) → Laid es → 0 < run.count → Each (Beside run) es → mapping (take_in run es) object block ≡ mapping (run ∷ es) object block
  unfolding take_in
  mapping-take_in run es l n b =
      let m : List Extent → Option ℕ = λ fs. mapping fs object block in
      let a : m (attach (front run es) (meet run (back run es))) ≡ or_else (m (front run es)) (or_else (m (run ∷ [])) (m (back run es))) =
      mapping-attach (front run es) (meet run (back run es)) ∙ mapping-append (front run es) (meet run (back run es)) ∙ ap (or_else (m (front run es))) (mapping-meet run (back run es) ∙ mapping-cons run (back run es)) in
      a ∙ swap (m (front run es)) (m (run ∷ [])) (m (back run es)) (beside_none run (each-filter (λ e. extent_before e run) b))
      ∙ ap (or_else (m (run ∷ []))) (sym (mapping-append (front run es) (back run es)) ∙ ap m (run-parts run l n b)) ∙ sym (mapping-cons run es)

  -- runs taken in
  pub mapping-take_in_all : (runs es : List Extent) → Laid runs → Laid es → Between runs es
      → mapping (take_in_all runs es) object block ≡ or_else (mapping runs object block) (mapping es object block)
  unfolding take_in_all
  mapping-take_in_all [] es r l b = rw mapping-nil (unfold or_else in refl)
  mapping-take_in_all (run ∷ runs) es r l (each_more b k) =
      let m : List Extent → Option ℕ = λ fs. mapping fs object block in
      let n : 0 < run.count = laid-first r in
      let a : Each (Ahead run) runs = laid-ahead r in
      mapping-take_in_all runs (take_in run es) (laid-tail r) (laid-take_in run l n b) (between-take_in run es a (laid-tail r).filled k)
      ∙ ap (or_else (m runs)) (mapping-take_in run es l n b ∙ mapping-cons run es)
      ∙ swap (m runs) (m (run ∷ [])) (m es) (beside_none run (each_weaken (λ f p. earlier p) a))
      ∙ sym (or_else-assoc (m (run ∷ [])) (m runs) (m es)) ∙ ap (λ o. or_else o (m es)) (sym (mapping-cons run runs))
