-- The extents of a book that keeps its rules lie one behind the other: a place parts those before a block from the others, and the few that are
-- held ahead from there map a stretch as the book does.
-- Assumes nothing.
use mathlib.Core.Path.{◌≡◌, refl, sym, ap, ◌∙◌}
use mathlib.Core.Bool.{Bool, true, false, ◌&&◌}
use mathlib.Core.List.{List, [], ◌∷◌, map}
use mathlib.Core.Option.{none, some}
use Prim.Native.Nat.{ℕ, zero, suc, ◌+◌, ◌≤◌, ◌<◌}
use native.Mathlib.Decide.{ℕ_discrete, dec_lt}
use native.Mathlib.Omega.{arith}
use borrow.Author.Tests.{eqb-true, eq-eqb, ltb-true, lt-ltb, leb-true, le-leb}
use lib.Dec.{eqb, ltb, leb}
use lib.ListN.{length, take, get_or, length-map}
use lib.Seq.{length-take-le, get_or-take}
use Rattle.rules.specs.Lists.{maybe, find}
use Rattle.rules.specs.Extent.{Extent, extent_bytes, decode_extent, extent_end, covers, block_of, mapping}
use Rattle.rules.proofs.ListLaws.{test-cases, clash, and_left, and_right, and_intro, or_cases, or_left, or_right, all-at, get_d_map, find-yes, find-no, each_at}
use Rattle.rules.proofs.BookLaws.{length-decode_book}
use Rattle.history.proofs.ApartLaws.{Pairs, pairs-none, pairs-more, Ahead, other, same, Laid, laid_of}
use Rattle.history.proofs.MappingLaws.{Covers, covers-not}
use Rattle.format.specs.declared.extent.Extent.{Extent as ExtentStruct}
use Rattle.format.specs.Records.{extent_of}
use Rattle.held.specs.Held.{no_extent}
use Rattle.book.specs.Places.{record_at}
use Rattle.book.proofs.SearchLaws.{record-at}
use Rattle.mapping.specs.Entries.{extents_in, ExtentsRight}
use Rattle.mapping.specs.Held.{most_stretch, lies_before, starts_before, StretchFrom, held_at, held_of, RoomAhead, HeldAhead}

-- ---- lists

-- of elements that stand so to all behind them any two do
pairs-at : {A : Type 0} {R : A → A → Type 0} {xs : List A} → Pairs R xs → (d : A) (i j : ℕ) → i < j → j < length xs → R (get_or xs i d) (get_or xs j d)
pairs-at pairs-none d i j l k = absurd (omega arith)
pairs-at (pairs-more p h) d zero zero l k = absurd (omega arith)
pairs-at (pairs-more p h) d zero (suc j) l k = each_at p j d (omega arith)
pairs-at (pairs-more p h) d (suc i) zero l k = absurd (omega arith)
pairs-at (pairs-more p h) d (suc i) (suc j) l k = pairs-at h d i j (omega arith) (omega arith)

-- where only a part of a list may have an element that passes the test, the first is that of the part
find-middle : {A : Type 0} (f : A → Bool) (d : A) (xs : List A) (p : ℕ) (ys : List A) → p + length ys ≤ length xs
    → ((i : ℕ) → i < length ys → get_or ys i d ≡ get_or xs (p + i) d)
    → ((j : ℕ) → j < p → f (get_or xs j d) ≡ false)
    → ((j : ℕ) → p + length ys ≤ j → j < length xs → f (get_or xs j d) ≡ false)
    → find f xs ≡ find f ys
find-middle f d [] p [] l e a b = refl
find-middle f d [] p (y ∷ ys) l e a b = absurd (omega arith)
find-middle f d (x ∷ xs) (suc p) ys l e a b =
    find-no f x xs (a 0 (omega arith))
    ∙ find-middle f d xs p ys (omega arith) (λ i k. e i k ∙ ap (λ (m : ℕ). get_or (x ∷ xs) m d) (let q : suc p + i ≡ suc (p + i) = omega arith in q)) (λ j k. a (suc j) (omega arith)) (λ j k m. b (suc j) (omega arith) (omega arith))
find-middle f d (x ∷ xs) zero [] l e a b =
    find-no f x xs (b 0 (omega arith) (omega arith))
    ∙ find-middle f d xs zero [] (omega arith) (λ i k. absurd (omega arith)) (λ j k. absurd (omega arith)) (λ j k m. b (suc j) (omega arith) (omega arith))
find-middle f d (x ∷ xs) zero (y ∷ ys) l e a b =
    let q : y ≡ x = e 0 (omega arith) in
    test-cases (find f (x ∷ xs) ≡ find f (y ∷ ys)) (f x)
    (λ t. find-yes f x xs t ∙ ap some (sym q) ∙ sym (find-yes f y ys (ap f q ∙ t)))
    (λ t. find-no f x xs t
    ∙ find-middle f d xs zero ys (omega arith) (λ i k. e (suc i) (omega arith) ∙ ap (λ (m : ℕ). get_or (x ∷ xs) m d) (let r : zero + suc i ≡ suc (zero + i) = omega arith in r)) (λ j k. absurd (omega arith)) (λ j k m. b (suc j) (omega arith) (omega arith))
    ∙ sym (find-no f y ys (ap f q ∙ t)))

-- ---- the tests of an extent

-- the ways to lie before a block
data Under (object block : ℕ) (e : Extent) : Type 0 where
  lower : e.object < object → Under object block e
  ended : e.object ≡ object → e.logical + e.count ≤ block → Under object block e

module _ (object block : ℕ) (e : Extent) where
  -- the test says so
  under-true : lies_before object block e ≡ true → Under object block e
  unfolding lies_before extent_end
  under-true h =
      or_cases (Under object block e) (ltb e.object object) (eqb e.object object && leb (e.logical + e.count) block) h
      (λ t. lower (ltb-true _ _ t))
      (λ t. ended (eqb-true e.object object (and_left (eqb e.object object) (leb (e.logical + e.count) block) t))
      (leb-true _ _ (and_right (eqb e.object object) (leb (e.logical + e.count) block) t)))

  -- and passes where it is so
  under_of : Under object block e → lies_before object block e ≡ true
  unfolding lies_before extent_end
  under_of (lower l) = or_left (ltb e.object object) (eqb e.object object && leb (e.logical + e.count) block) (lt-ltb _ _ l)
  under_of (ended q l) =
      or_right (ltb e.object object) (eqb e.object object && leb (e.logical + e.count) block)
      (and_intro (eqb e.object object) (leb (e.logical + e.count) block) (eq-eqb _ _ q) (le-leb _ _ l))

  -- an extent that does not lie before the block is of no lower object
  not_lower : lies_before object block e ≡ false → object ≤ e.object
  not_lower h = go (dec_lt e.object object)
    where
      go : Dec (e.object < object) → object ≤ e.object
      go (yes l) = absurd (clash h (under_of (lower l)))
      go (no l) = omega arith

  -- and if it is of this one it ends behind the block
  pub not-ended : lies_before object block e ≡ false → e.object ≡ object → block < e.logical + e.count
  not-ended h q = go (dec_lt block (e.logical + e.count))
    where
      go : Dec (block < e.logical + e.count) → block < e.logical + e.count
      go (yes l) = l
      go (no l) = absurd (clash h (under_of (ended q (omega arith))))

  -- an extent that starts before a block
  starts-true : starts_before object block e ≡ true → (e.object ≡ object) × (e.logical < block)
  unfolding starts_before
  starts-true h =
      (eqb-true e.object object (and_left (eqb e.object object) (ltb e.logical block) h), ltb-true e.logical block (and_right (eqb e.object object) (ltb e.logical block) h))

  -- one of this object that does not starts there or behind it
  not-starts : starts_before object block e ≡ false → e.object ≡ object → block ≤ e.logical
  unfolding starts_before
  not-starts h q = go (dec_lt e.logical block)
    where
      go : Dec (e.logical < block) → block ≤ e.logical
      go (yes l) = absurd (clash h (and_intro (eqb e.object object) (ltb e.logical block) (eq-eqb _ _ q) (lt-ltb _ _ l)))
      go (no l) = omega arith

-- what lies ahead of an extent before a block lies before it too
under-ahead : (object block : ℕ) (e f : Extent) → Ahead e f → Under object block f → Under object block e
under-ahead object block e f (other p) (lower l) = lower (omega arith)
under-ahead object block e f (other p) (ended q l) = lower (omega arith)
under-ahead object block e f (same p k) (lower l) = lower (omega arith)
under-ahead object block e f (same p k) (ended q l) = ended (p ∙ q) (omega arith)

-- an extent before a block does not map one from there on
under-covers : (object block b : ℕ) (e : Extent) → block ≤ b → Under object block e → covers object b e ≡ false
under-covers object block b e k u = covers-not object b e (λ c. go c u)
  where
    go : Covers object b e → Under object block e → ⊥
    go c (lower l) = omega (arith, c.file)
    go c (ended q l) = omega (arith, c.high)

-- ---- a book that keeps its rules

-- the k extents from a place on are object's and start before limit
abbrev pub Starting : (object limit : ℕ) (s : List ℕ) (place k : ℕ) → Type 0
Starting object limit s place k = (i : ℕ) → i < k → starts_before object limit (record_at decode_extent extent_bytes s (place + i)) ≡ true

module _ {m n : ℕ} {s : List ℕ} (r : ExtentsRight m n s) where
  -- its extents are laid one behind the other
  laid : Laid (extents_in n s)
  laid = laid_of (extents_in n s) (record { order = r.order; filled = r.filled; apart = r.apart })

  -- any two
  ahead-at : (i j : ℕ) → i < j → j < n → Ahead (record_at decode_extent extent_bytes s i) (record_at decode_extent extent_bytes s j)
  ahead-at i j l k =
      let len : length (extents_in n s) ≡ n = length-decode_book decode_extent extent_bytes n s in
      rw (← record-at decode_extent extent_bytes s n i (decode_extent []) (omega arith), ← record-at decode_extent extent_bytes s n j (decode_extent []) k)
      (pairs-at laid.ahead (decode_extent []) i j l (omega arith))

  -- each has a block
  filled_at : (i : ℕ) → i < n → 0 < (record_at decode_extent extent_bytes s i).count
  filled_at i l =
      let len : length (extents_in n s) ≡ n = length-decode_book decode_extent extent_bytes n s in
      rw (← record-at decode_extent extent_bytes s n i (decode_extent []) l) (each_at laid.filled i (decode_extent []) (omega arith))

  -- and is on the device
  pub device-at : (i : ℕ) → i < n → (record_at decode_extent extent_bytes s i).physical + (record_at decode_extent extent_bytes s i).count ≤ m
  device-at i l =
      let len : length (extents_in n s) ≡ n = length-decode_book decode_extent extent_bytes n s in
      rw (← record-at decode_extent extent_bytes s n i (decode_extent []) l)
      (leb-true _ _ (all-at (λ e. leb (e.physical + e.count) m) (extents_in n s) r.device i (decode_extent []) (omega arith)))

  module _ (object block : ℕ) where
    -- those in front of one that lies before a block lie before it too
    pub front_of : (i : ℕ) → i < n → lies_before object block (record_at decode_extent extent_bytes s i) ≡ true
        → (j : ℕ) → j < i + 1 → lies_before object block (record_at decode_extent extent_bytes s j) ≡ true
    front_of i l h j k = go (ℕ_discrete j i)
      where
        go : Dec (j ≡ i) → lies_before object block (record_at decode_extent extent_bytes s j) ≡ true
        go (yes q) = rw q h
        go (no q) = under_of object block _ (under-ahead object block _ _ (ahead-at j i (omega arith) l) (under-true object block _ h))

    -- and those behind one that does not do not
    pub behind-of : (i : ℕ) → lies_before object block (record_at decode_extent extent_bytes s i) ≡ false
        → (j : ℕ) → i ≤ j → j < n → lies_before object block (record_at decode_extent extent_bytes s j) ≡ false
    behind-of i h j k l = test-cases (lies_before object block (record_at decode_extent extent_bytes s j) ≡ false) (lies_before object block (record_at decode_extent extent_bytes s j))
        (λ t. absurd (clash h (front_of j l t i (omega arith))))
        (λ t. t)

    -- one of the object that starts at the block or before has all in front of it before the block
    pub front-of-floor : (i : ℕ) → i < n → (record_at decode_extent extent_bytes s i).object ≡ object → (record_at decode_extent extent_bytes s i).logical ≤ block
        → (j : ℕ) → j < i → lies_before object block (record_at decode_extent extent_bytes s j) ≡ true
    front-of-floor i l o h j k = under_of object block _ (go (ahead-at j i k l))
      where
        go : Ahead (record_at decode_extent extent_bytes s j) (record_at decode_extent extent_bytes s i) → Under object block (record_at decode_extent extent_bytes s j)
        go (other p) = lower (omega arith)
        go (same p q) = ended (p ∙ o) (omega arith)

  -- ---- held ahead

  module _ {object limit place : ℕ} where
    module _ (room : RoomAhead object limit n s place) where
      -- each ends behind the one before
      far : (k : ℕ) → place + k < n → Starting object limit s place (suc k) → limit + k < (record_at decode_extent extent_bytes s (place + k)).logical + (record_at decode_extent extent_bytes s (place + k)).count + most_stretch
      unfolding extent_end
      far zero l h =
          let q : place + 0 ≡ place = omega arith in
          let a = starts-true object limit _ (h 0 (omega arith)) in
          let o : (record_at decode_extent extent_bytes s place).object ≡ object = rw q at a.0 in
          let z : limit < (record_at decode_extent extent_bytes s place).logical + (record_at decode_extent extent_bytes s place).count + most_stretch = room.near (omega arith) o in
          rw q (omega arith)
      far (suc k) l h = go (far k (omega arith) (λ i m. h i (omega arith))) (ahead-at (place + k) (place + suc k) (omega arith) l)
        where
          go : limit + k < (record_at decode_extent extent_bytes s (place + k)).logical + (record_at decode_extent extent_bytes s (place + k)).count + most_stretch
              → Ahead (record_at decode_extent extent_bytes s (place + k)) (record_at decode_extent extent_bytes s (place + suc k))
              → limit + suc k < (record_at decode_extent extent_bytes s (place + suc k)).logical + (record_at decode_extent extent_bytes s (place + suc k)).count + most_stretch
          go f (other p) =
              let a = starts-true object limit _ (h k (omega arith)) in
              let b = starts-true object limit _ (h (suc k) (omega arith)) in
              absurd (omega (arith, a.0, b.0))
          go f (same p e) = omega (arith, filled_at (place + suc k) l)

      -- so they are no more than a stretch has blocks
      pub few-ahead : (k : ℕ) → place + k < n → Starting object limit s place k → starts_before object limit (record_at decode_extent extent_bytes s (place + k)) ≡ true → k < most_stretch
      few-ahead zero l h t = omega arith
      few-ahead (suc k) l h t = go (ahead-at (place + k) (place + suc k) (omega arith) l)
        where
          go : Ahead (record_at decode_extent extent_bytes s (place + k)) (record_at decode_extent extent_bytes s (place + suc k)) → suc k < most_stretch
          go (other p) =
              let a = starts-true object limit _ (h k (omega arith)) in
              let b = starts-true object limit _ t in
              absurd (omega (arith, a.0, b.0))
          go (same p e) =
              let b = starts-true object limit _ t in
              omega (arith, far k (omega arith) h, b.1)

    -- those behind the held ones do not map a block before limit
    past-held : (first k b : ℕ) → StretchFrom object first n s place → (place + k < n → starts_before object limit (record_at decode_extent extent_bytes s (place + k)) ≡ false)
        → b < limit → (j : ℕ) → place + k ≤ j → j < n → covers object b (record_at decode_extent extent_bytes s j) ≡ false
    past-held first k b f t l j a c = covers-not object b (record_at decode_extent extent_bytes s j) (λ v. go v (ℕ_discrete j (place + k)))
      where
        stop : place + k < n → Covers object b (record_at decode_extent extent_bytes s (place + k)) → ⊥
        stop e v = omega (arith, v.low, not-starts object limit (record_at decode_extent extent_bytes s (place + k)) (t e) v.file)

        behind : Covers object b (record_at decode_extent extent_bytes s j) → Ahead (record_at decode_extent extent_bytes s (place + k)) (record_at decode_extent extent_bytes s j) → ⊥
        behind v (other p) = omega (arith, v.file, not_lower object first (record_at decode_extent extent_bytes s (place + k)) (f.behind (place + k) (omega arith) (omega arith)))
        behind v (same p e) =
            omega (arith, v.low, not-starts object limit (record_at decode_extent extent_bytes s (place + k)) (t (omega arith)) (p ∙ v.file))

        go : Covers object b (record_at decode_extent extent_bytes s j) → Dec (j ≡ place + k) → ⊥
        go v (yes q) = stop (omega arith) (rw q at v)
        go v (no q) = behind v (ahead-at (place + k) j (omega arith) c)

    -- so the held extents map a stretch as the book does
    pub held-mapping : (first k b : ℕ) (a : List ExtentStruct) → StretchFrom object first n s place → HeldAhead object limit n s place a k → first ≤ b → b < limit
        → mapping (held_of k a) object b ≡ mapping (extents_in n s) object b
    unfolding mapping held_of held_at
    held-mapping first k b a f h l u =
        let es : List Extent = extents_in n s in
        let d : Extent = decode_extent [] in
        let len : length es ≡ n = length-decode_book decode_extent extent_bytes n s in
        let tl : length (take k a) ≡ k = length-take-le k a h.room in
        let hl : length (map extent_of (take k a)) ≡ k = length-map (take k a) extent_of ∙ tl in
        let e : (i : ℕ) → i < k → get_or (map extent_of (take k a)) i d ≡ get_or es (place + i) d =
        λ i m. get_d_map extent_of (take k a) i d no_extent (omega arith) ∙ ap extent_of (get_or-take k a i no_extent m) ∙ h.same i m ∙ sym (record-at decode_extent extent_bytes s n (place + i) d (omega (arith, h.within))) in
        ap (maybe none (λ x. some (block_of b x)))
        (sym (find-middle (covers object b) d es place (map extent_of (take k a)) (omega (arith, h.within))
        (λ i m. e i (omega arith))
        (λ j m. ap (covers object b) (record-at decode_extent extent_bytes s n j d (omega (arith, f.most))) ∙ under-covers object first b _ l (under-true object first _ (f.front j m)))
        (λ j m c. ap (covers object b) (record-at decode_extent extent_bytes s n j d (omega arith)) ∙ past-held first k b f h.stops u j (omega arith) (omega arith))))
