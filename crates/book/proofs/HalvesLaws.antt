-- Laws of the searches by halves in the three books: what `halving` says of keys, said of cards, extents and groups.
-- Assumes nothing.
use mathlib.Core.Path.{◌≡◌, refl, sym, ap, ◌∙◌}
use mathlib.Core.Bool.{Bool, true, false, not, ◌&&◌, ◌||◌}
use mathlib.Core.List.{List, []}
use Rattle.std.specs.Prelude.{Option, Some, None}
use Prim.Native.Nat.{ℕ, suc, ◌+◌, ◌-◌, ◌*◌, ◌≤◌, ◌<◌}
use native.Mathlib.Nat.{add-zero}
use native.Mathlib.Omega.{arith}
use borrow.Author.Tests.{eqb-true, eqb-false, eq-eqb, ne_eqb, ltb-true, ltb-false, leb-true, le-leb, le-ltb}
use lib.Dec.{eqb, leb, ltb}
use lib.ListN.{length}
use Rattle.rules.specs.Lists.{pick◌then◌else◌, ascending, pair_before}
use Rattle.rules.specs.Bytes.{Bytes, be, part}
use Rattle.rules.specs.Sizes.{most_places}
use Rattle.rules.specs.Card.{card_bytes, decode_card, card_before}
use Rattle.rules.specs.Extent.{Extent, extent_bytes, decode_extent, extent_before}
use Rattle.rules.specs.Group.{group_bytes, decode_group, group_before}
use Rattle.rules.specs.Book.{decode_book}
use Rattle.rules.proofs.ListLaws.{if-true, if-false, test-cases, clash, and_left, and_right, and_intro, or_cases, or_left, or_right, ascending-at, Each, each-any, each_weaken, pair_before-cases, pair_before-first, pair_before-second}
use Rattle.rules.proofs.ByteLaws.{part-part}
use Rattle.rules.proofs.BookLaws.{length-decode_book}
use Rattle.format.proofs.CardWords.{object-read}
use Rattle.checksum_group.proofs.SlotLaws.{group-object as object-of-group, group-number as number-of-group}
use Rattle.halving.specs.Halving.{looked, ends_at, Parted}
use Rattle.halving.specs.Keys.{reaches, object_at, number_at, reached, owned_before}
use Rattle.halving.proofs.HalvingLaws.{Falls, parted, parted-as, ends-within, looked-same, ends_same, ends-each}
use Rattle.halving.proofs.KeyLaws.{or-none, owned-in-front, falls-ordered}
use Rattle.book.specs.Places.{record_at, leading, FloorExtent, card_under, extent_under, extent_up_to, extent_reached, reached_at, own_before, SearchedBook, group_under}
use Rattle.book.proofs.SearchLaws.{FailBehind, record-at, leading-parted, found-last, found-no-last, floor-extent}

-- ---- keys

module _ (s : List ℕ) (i : ℕ) where
  -- the object of an extent is that of its key
  extent-object : (record_at decode_extent extent_bytes s i).object ≡ object_at extent_bytes s i
  unfolding record_at decode_extent object_at
  extent-object = ap be (part-part s (33 * i) 33 0 8 (omega arith) ∙ ap (λ (k : ℕ). part k 8 s) (add-zero (33 * i)))

  -- and its block the number
  extent-number : (record_at decode_extent extent_bytes s i).logical ≡ number_at extent_bytes s i
  unfolding record_at decode_extent number_at
  extent-number = ap be (part-part s (33 * i) 33 9 8 (omega arith))

  -- the same of a group
  group-object : (record_at decode_group group_bytes s i).object ≡ object_at group_bytes s i
  unfolding record_at object_at
  group-object = sym (object-of-group s (1073 * i) (be (part (1073 * i) 8 s)) refl)

  -- both numbers of it
  group-number : (record_at decode_group group_bytes s i).number ≡ number_at group_bytes s i
  unfolding record_at number_at
  group-number = sym (number-of-group s (1073 * i) (be (part (1073 * i + 9) 8 s)) refl)

  -- the object of a card, where its bytes are bytes
  card-object : Bytes s → card_bytes * i + card_bytes ≤ length s → (record_at decode_card card_bytes s i).object ≡ object_at card_bytes s i
  unfolding record_at object_at
  card-object b l = sym (object-read s (card_bytes * i) b l (be (part (card_bytes * i) 8 s)) refl)

-- ---- tests of a record

module _ (s : List ℕ) (object number i : ℕ) where
  -- the key of an extent is reached where the extent is
  extent-reached : reached true object number extent_bytes s i ≡ reached_at object number s i
  unfolding reached
  extent-reached = rw (extent-object s i, extent-number s i) refl

  -- and stands under another where the extent does
  extent-under : reached false object number extent_bytes s i ≡ extent_under object number (record_at decode_extent extent_bytes s i)
  unfolding reached reaches
  extent-under = rw (extent-object s i, extent-number s i) (or-none (pair_before (object_at extent_bytes s i) (number_at extent_bytes s i) object number))

  -- the same of a group
  group-under : reached false object number group_bytes s i ≡ group_under object number (record_at decode_group group_bytes s i)
  unfolding reached reaches
  group-under = rw (group-object s i, group-number s i) (or-none (pair_before (object_at group_bytes s i) (number_at group_bytes s i) object number))

-- of a card only the object counts: no number stands under 0
card-under : (s : List ℕ) (object i : ℕ) → Bytes s → card_bytes * i + card_bytes ≤ length s → reached false object 0 card_bytes s i ≡ card_under object (record_at decode_card card_bytes s i)
unfolding reached reaches pair_before
card-under s object i b l =
    rw (card-object s i b l, le-ltb (number_at card_bytes s i) 0 (omega arith)) (go (ltb (object_at card_bytes s i) object) (eqb (object_at card_bytes s i) object))
  where
    go : (x y : Bool) → ((x || (y && false)) || false) ≡ x
    go true y = refl
    go false true = refl
    go false false = refl

-- ---- books in order

-- of an ordered book each record stands before the next
ordered_at : {A : Type 0} (before : A → A → Bool) (decode : List ℕ → A) (w : ℕ) (s : List ℕ) (n : ℕ) → ascending before (decode_book decode w n s) ≡ true
    → (i : ℕ) → suc i < n → before (record_at decode w s i) (record_at decode w s (suc i)) ≡ true
ordered_at before decode w s n h i l =
    let len : length (decode_book decode w n s) ≡ n = length-decode_book decode w n s in
    let p = ascending-at before (decode_book decode w n s) h i (decode []) (omega arith) in
    rw (record-at decode w s n i (decode []) (omega arith), record-at decode w s n (suc i) (decode []) l) at p

module _ (equal : Bool) (object number n : ℕ) (s : List ℕ) where
  -- extents that are reached stand in front
  extents-fall : ascending extent_before (decode_book decode_extent extent_bytes n s) ≡ true → Falls (reached equal object number extent_bytes s) n
  unfolding extent_before
  extents-fall h = falls-ordered equal object number extent_bytes s n (λ i l.
      let p = ordered_at extent_before decode_extent extent_bytes s n h i l in
      rw (← extent-object s i, ← extent-number s i, ← extent-object s (suc i), ← extent-number s (suc i)) p)

  -- and so do groups
  groups-fall : ascending group_before (decode_book decode_group group_bytes n s) ≡ true → Falls (reached equal object number group_bytes s) n
  unfolding group_before
  groups-fall h = falls-ordered equal object number group_bytes s n (λ i l.
      let p = ordered_at group_before decode_group group_bytes s n h i l in
      rw (← group-object s i, ← group-number s i, ← group-object s (suc i), ← group-number s (suc i)) p)

  -- and cards
  cards-fall : Bytes s → card_bytes * n ≤ length s → ascending card_before (decode_book decode_card card_bytes n s) ≡ true → Falls (reached equal object number card_bytes s) n
  unfolding card_before
  cards-fall b m h = falls-ordered equal object number card_bytes s n (λ i l.
      let p = ordered_at card_before decode_card card_bytes s n h i l in
      pair_before-first (object_at card_bytes s i) (number_at card_bytes s i) (object_at card_bytes s (suc i)) (number_at card_bytes s (suc i))
      (rw (← card-object s i b (omega arith), ← card-object s (suc i) b (omega arith)) (ltb-true _ _ p)))

-- ---- the first record at a key or behind it

module _ (n : ℕ) (s : List ℕ) (object : ℕ) (r : ℕ) where
  -- an extent
  pub first-extent : (logical : ℕ) → r ≡ ends_at (reached false object logical extent_bytes s) 0 (looked (reached false object logical extent_bytes s) n)
      → (ascending extent_before (decode_book decode_extent extent_bytes n s) ≡ true → r ≡ leading (extent_under object logical) (decode_book decode_extent extent_bytes n s)) × (r ≤ n)
  first-extent logical e =
      let f : ℕ → Bool = reached false object logical extent_bytes s in (
        λ h. leading-parted decode_extent extent_bytes s (extent_under object logical) n r
            (parted-as f (λ j. extent_under object logical (record_at decode_extent extent_bytes s j)) n r (λ i l. extent-under s object logical i) (rw e (parted f n (extents-fall false object logical n s h)))),
        rw e (ends-within f n),
      )

  -- a group
  pub first_group : (number : ℕ) → r ≡ ends_at (reached false object number group_bytes s) 0 (looked (reached false object number group_bytes s) n)
      → (ascending group_before (decode_book decode_group group_bytes n s) ≡ true → r ≡ leading (group_under object number) (decode_book decode_group group_bytes n s)) × (r ≤ n)
  first_group number e =
      let f : ℕ → Bool = reached false object number group_bytes s in (
        λ h. leading-parted decode_group group_bytes s (group_under object number) n r
            (parted-as f (λ j. group_under object number (record_at decode_group group_bytes s j)) n r (λ i l. group-under s object number i) (rw e (parted f n (groups-fall false object number n s h)))),
        rw e (ends-within f n),
      )

  -- a card
  pub first-card : Bytes s → card_bytes * n ≤ length s → r ≡ ends_at (reached false object 0 card_bytes s) 0 (looked (reached false object 0 card_bytes s) n)
      → (ascending card_before (decode_book decode_card card_bytes n s) ≡ true → r ≡ leading (card_under object) (decode_book decode_card card_bytes n s)) × (r ≤ n)
  first-card b m e =
      let f : ℕ → Bool = reached false object 0 card_bytes s in (
        λ h. leading-parted decode_card card_bytes s (card_under object) n r
            (parted-as f (λ j. card_under object (record_at decode_card card_bytes s j)) n r (λ i l. card-under s object i b (omega arith)) (rw e (parted f n (cards-fall false object 0 n s b m h)))),
        rw e (ends-within f n),
      )

-- ---- the floor

module _ (object block : ℕ) (x : Extent) where
  -- an extent of the object that starts at the block or before is reached
  pub up-to-reached : extent_up_to object block x ≡ true → extent_reached object block x ≡ true
  unfolding reaches
  up-to-reached h =
      let o : x.object ≡ object = eqb-true x.object object (and_left (eqb x.object object) (leb x.logical block) h) in
      let l : x.logical ≤ block = leb-true x.logical block (and_right (eqb x.object object) (leb x.logical block) h) in
      test-cases (extent_reached object block x ≡ true) (eqb x.logical block)
      (λ e. or_right (pair_before x.object x.logical object block) (true && eqb x.object object && eqb x.logical block) (and_intro (true && eqb x.object object) (eqb x.logical block) (eq-eqb x.object object o) e))
      (λ e. let d = eqb-false x.logical block e in
      or_left (pair_before x.object x.logical object block) (true && eqb x.object object && eqb x.logical block) (pair_before-second x.object x.logical object block o (omega arith)))

  -- an extent that is reached is of a lower object, or of this one and starts at the block or before
  pub reached-cases : (P : Type 0) → extent_reached object block x ≡ true → (x.object < object → P) → (x.object ≡ object → x.logical ≤ block → P) → P
  unfolding reaches
  reached-cases P h lower own =
      or_cases P (pair_before x.object x.logical object block) (true && eqb x.object object && eqb x.logical block) h
      (λ p. pair_before-cases P x.object x.logical object block p lower (λ o l. own o (omega arith)))
      (λ p. let o : x.object ≡ object = eqb-true x.object object (and_left (eqb x.object object) (eqb x.logical block) p) in
      let l : x.logical ≡ block = eqb-true x.logical block (and_right (eqb x.object object) (eqb x.logical block) p) in
      own o (omega arith))

  -- one of the object that is reached
  own-up-to : extent_reached object block x ≡ true → x.object ≡ object → extent_up_to object block x ≡ true
  own-up-to h o = reached-cases (extent_up_to object block x ≡ true) h (λ l. absurd (omega arith))
      (λ q l. and_intro (eqb x.object object) (leb x.logical block) (eq-eqb x.object object o) (le-leb x.logical block l))

module _ (object : ℕ) (s : List ℕ) (place : ℕ) where
  -- the object remembered with the keys is that of the extents
  own_same : owned_before object extent_bytes s place ≡ own_before object s place
  unfolding owned_before own_before
  own_same = rw (extent-object s (place - 1)) refl

  module _ (t : Bool) (e : t ≡ owned_before object extent_bytes s place) where
    -- where it is remembered, an extent stands in front
    pub own-some : t ≡ true → 1 ≤ place
    own-some p = owned-in-front object extent_bytes s place t e p

    -- and is one of the object
    own-object : t ≡ true → (record_at decode_extent extent_bytes s (place - 1)).object ≡ object
    unfolding own_before
    own-object p =
        eqb-true _ _ (and_right (not (eqb place 0)) (eqb (record_at decode_extent extent_bytes s (place - 1)).object object) (sym own_same ∙ sym e ∙ p))

    -- where it is not, the one in front is none of its own
    not_own : t ≡ false → 0 < place → (record_at decode_extent extent_bytes s (place - 1)).object ≡ object → ⊥
    unfolding own_before
    not_own p l o =
        clash (sym own_same ∙ sym e ∙ p)
        (and_intro (not (eqb place 0)) (eqb (record_at decode_extent extent_bytes s (place - 1)).object object) (rw (ne_eqb place 0 (λ z. omega arith)) refl) (eq-eqb _ _ o))

module _ (object block n : ℕ) (s : List ℕ) (place : ℕ) (e : place ≡ ends_at (reached true object block extent_bytes s) 0 (looked (reached true object block extent_bytes s) n)) where
  -- the place parts the extents of an ordered book
  pub parted-extents : ascending extent_before (decode_book decode_extent extent_bytes n s) ≡ true → Parted (reached_at object block s) n place
  parted-extents h =
      parted-as (reached true object block extent_bytes s) (reached_at object block s) n place (λ i l. extent-reached s object block i)
      (rw e (parted (reached true object block extent_bytes s) n (extents-fall true object block n s h)))

  module _ (t : Bool) (o : t ≡ owned_before object extent_bytes s place) where
    -- behind it no extent of the object starts at the block or before
    none-behind : Parted (reached_at object block s) n place → FailBehind (extent_up_to object block) decode_extent extent_bytes n s place
    none-behind h j l k =
        test-cases (extent_up_to object block (record_at decode_extent extent_bytes s j) ≡ false) (extent_up_to object block (record_at decode_extent extent_bytes s j))
        (λ p. absurd (clash (h.behind j l k) (up-to-reached object block (record_at decode_extent extent_bytes s j) p))) (λ p. p)

    -- the floor is the extent in front of it
    pub floor-at : t ≡ true → ascending extent_before (decode_book decode_extent extent_bytes n s) ≡ true → FloorExtent object block n s (Some (place - 1))
    floor-at p h =
        let q : Parted (reached_at object block s) n place = parted-extents h in
        let l : 1 ≤ place = own-some object s place t o p in
        floor-extent object block n s (Some (place - 1))
        (found-last decode_extent extent_bytes s (extent_up_to object block) n place true l q.most (none-behind q)
        (sym (own-up-to object block (record_at decode_extent extent_bytes s (place - 1)) (q.front (place - 1) (omega arith)) (own-object object s place t o p))) refl)

    -- an extent of the object in front of it would have the one there of the object too
    none_before : t ≡ false → ascending extent_before (decode_book decode_extent extent_bytes n s) ≡ true → (j : ℕ) → j < place → (record_at decode_extent extent_bytes s j).object ≡ object → ⊥
    none_before p h j l q =
        let d : Parted (reached_at object block s) n place = parted-extents h in
        let k : ℕ = place - 1 in
        reached-cases object block (record_at decode_extent extent_bytes s k) ⊥ (d.front k (omega arith))
        (λ m. lower m)
        (λ m _. not_own object s place t o p (omega arith) m)
      where
        under : (i : ℕ) → (record_at decode_extent extent_bytes s i).object < object → reached false object 0 extent_bytes s i ≡ true
        under i m = extent-under s object 0 i ∙ pair_before-first (record_at decode_extent extent_bytes s i).object (record_at decode_extent extent_bytes s i).logical object 0 m

        lower : (record_at decode_extent extent_bytes s (place - 1)).object < object → ⊥
        lower m =
            test-cases ⊥ (eqb j (place - 1))
            (λ z. let w : j ≡ place - 1 = eqb-true j (place - 1) z in let v = rw w at q in omega (arith, v))
            (λ z. let w = eqb-false j (place - 1) z in
            let v : extent_under object 0 (record_at decode_extent extent_bytes s j) ≡ true = sym (extent-under s object 0 j) ∙ extents-fall false object 0 n s h j (place - 1) (omega arith) (omega (arith, (parted-extents h).most)) (under (place - 1) m) in
            pair_before-cases ⊥ (record_at decode_extent extent_bytes s j).object (record_at decode_extent extent_bytes s j).logical object 0 v (λ u. omega (arith, q)) (λ u y. omega arith))

    -- there is none
    pub floor-none : t ≡ false → ascending extent_before (decode_book decode_extent extent_bytes n s) ≡ true → FloorExtent object block n s None
    floor-none p h =
        floor-extent object block n s None
        (found-no-last decode_extent extent_bytes s (extent_up_to object block) n 0 (omega arith) (λ j l k.
        test-cases (extent_up_to object block (record_at decode_extent extent_bytes s j) ≡ false) (extent_up_to object block (record_at decode_extent extent_bytes s j))
        (λ u. test-cases (extent_up_to object block (record_at decode_extent extent_bytes s j) ≡ false) (ltb j place)
        (λ v. absurd (none_before p h j (ltb-true j place v) (eqb-true _ _ (and_left (eqb (record_at decode_extent extent_bytes s j).object object) (leb (record_at decode_extent extent_bytes s j).logical block) u))))
        (λ v. none-behind (parted-extents h) j (ltb-false j place v) k))
        (λ u. u)))

  module _ (found : Option ℕ) (o : found ≡ (pick owned_before object extent_bytes s place then Some (place - 1) else None)) where
    -- what the search found is the floor
    pub floor-found : ascending extent_before (decode_book decode_extent extent_bytes n s) ≡ true → FloorExtent object block n s found
    floor-found h =
        test-cases (FloorExtent object block n s found) (owned_before object extent_bytes s place)
        (λ t. rw (o ∙ if-true (owned_before object extent_bytes s place) (Some (place - 1)) None t) (floor-at true (sym t) refl h))
        (λ t. rw (o ∙ if-false (owned_before object extent_bytes s place) (Some (place - 1)) None t) (floor-none false (sym t) refl h))

    module _ (rounds : ℕ) (c : rounds ≡ length (looked (reached true object block extent_bytes s) n)) (few : n ≤ most_places → rounds ≤ 20) (m : n ≤ most_places) where
      -- the places looked at, told by the extents
      same-looked : looked (reached_at object block s) n ≡ looked (reached true object block extent_bytes s) n
      same-looked = looked-same (reached true object block extent_bytes s) (reached_at object block s) n (each-any (λ i. extent-reached s object block i) (looked (reached true object block extent_bytes s) n))

      -- and the place
      same_end : place ≡ ends_at (reached_at object block s) 0 (looked (reached_at object block s) n)
      same_end =
          e ∙ rw same-looked (sym (ends_same (reached true object block extent_bytes s) (reached_at object block s) 0 (looked (reached true object block extent_bytes s) n)
          (each-any (λ i. extent-reached s object block i) (looked (reached true object block extent_bytes s) n))))

      -- what the search did
      pub searched-found : SearchedBook object block n s found place rounds
      searched-found = record { most = few m; looks = rw same-looked c; ends = same_end; answer = rw (← own_same object s place) o }

-- ---- what a search that was made says

module _ {object block n : ℕ} {s : List ℕ} {found : Option ℕ} {place rounds : ℕ} (h : SearchedBook object block n s found place rounds) where
  -- the extent that was found stands in front of the place, and is one of the object
  pub searched-own : (i : ℕ) → found ≡ Some i → (place ≡ i + 1) × ((record_at decode_extent extent_bytes s i).object ≡ object)
  searched-own i e =
      let a : Some i ≡ (pick own_before object s place then Some (place - 1) else None) = rw e at h.answer in
      test-cases ((place ≡ i + 1) × ((record_at decode_extent extent_bytes s i).object ≡ object)) (own_before object s place)
      (λ t. let q : Some i ≡ Some (place - 1) = a ∙ if-true (own_before object s place) (Some (place - 1)) None t in
      let k : i ≡ place - 1 = cc in
      let l : 1 ≤ place = own-some object s place true (sym t ∙ sym (own_same object s place)) refl in
      (omega arith, rw k (own-object object s place true (sym t ∙ sym (own_same object s place)) refl)))
      (λ t. let q : Some i ≡ None = a ∙ if-false (own_before object s place) (Some (place - 1)) None t in let z : ◌≡◌ {A = ℕ} 0 1 = cc in absurd (omega arith))

  -- where none was found, the one in front of the place is of another
  pub searched-other : found ≡ None → 0 < place → (record_at decode_extent extent_bytes s (place - 1)).object ≡ object → ⊥
  searched-other e l =
      let a : None ≡ (pick own_before object s place then Some (place - 1) else None) = rw e at h.answer in
      test-cases ((record_at decode_extent extent_bytes s (place - 1)).object ≡ object → ⊥) (own_before object s place)
      (λ t. let q : None ≡ Some (place - 1) = a ∙ if-true (own_before object s place) (Some (place - 1)) None t in let z : ◌≡◌ {A = ℕ} 0 1 = cc in absurd (omega arith))
      (λ t. not_own object s place false (sym t ∙ sym (own_same object s place)) refl l)

-- ---- nothing but the extents looked at decides

-- the extents at a place of two books have the same key
pub record SameKey (s t : List ℕ) (i : ℕ) : Type 0 where
  pub objects : (record_at decode_extent extent_bytes s i).object ≡ (record_at decode_extent extent_bytes t i).object
  pub blocks : (record_at decode_extent extent_bytes s i).logical ≡ (record_at decode_extent extent_bytes t i).logical

module _ {object block n : ℕ} {s t : List ℕ} {x y : Option ℕ} {p q c d : ℕ} (a : SearchedBook object block n s x p c) (b : SearchedBook object block n t y q d)
    (h : Each (SameKey s t) (looked (reached_at object block s) n)) where
  -- the same extents are reached
  same-reached : Each (λ i. reached_at object block s i ≡ reached_at object block t i) (looked (reached_at object block s) n)
  same-reached = each_weaken (λ i k. rw (k.objects, k.blocks) refl) h

  -- the search ends at the same place
  same_place : p ≡ q
  same_place =
      a.ends ∙ sym (b.ends ∙ rw (looked-same (reached_at object block s) (reached_at object block t) n same-reached)
      (ends_same (reached_at object block s) (reached_at object block t) 0 (looked (reached_at object block s) n) same-reached))

  -- with the same object in front of it
  same-own : own_before object s p ≡ own_before object t p
  unfolding own_before
  same-own = rw a.ends (ends-each (SameKey s t) (λ k. own_before object s k ≡ own_before object t k) (reached_at object block s)
      (λ i k. let z : i + 1 - 1 ≡ i = omega arith in rw (z, k.objects) refl) 0 (looked (reached_at object block s) n) refl h)

  -- two searches in books that have the same keys where one of them looks answer the same, after as many rounds
  pub decided : (x ≡ y) × (p ≡ q) × (c ≡ d)
  decided = (
    a.answer ∙ rw (same-own, same_place) refl ∙ sym b.answer,
    same_place,
    a.looks ∙ ap (λ (is : List ℕ). length is) (sym (looked-same (reached_at object block s) (reached_at object block t) n same-reached)) ∙ sym b.looks,
  )
