-- The rules of refusal 2 on the books are the tests of each book and of the extents in their files; those of a book are a walk through its records.
-- Assumes nothing.
use mathlib.Core.Path.{◌≡◌, refl, sym, ap, ◌∙◌}
use mathlib.Core.Bool.{Bool, true, false, not, ◌&&◌, and-false}
use mathlib.Core.List.{List}
use Prim.Native.Nat.{ℕ, ◌+◌, ◌≤◌, ◌<◌}
use native.Mathlib.Omega.{arith}
use lib.Dec.{ltb, leb}
use Rattle.rules.specs.Lists.{range, all, neighbours, ascending}
use Rattle.rules.specs.Bytes.{part, pieces}
use Rattle.rules.specs.Card.{card_bytes, decode_card, card_spare_zero, card_before}
use Rattle.rules.specs.Extent.{Extent, extent_bytes, decode_extent, extent_fixed, extent_before}
use Rattle.rules.specs.Group.{group_bytes, decode_group, group_fixed, absent_zero, group_before}
use Rattle.rules.specs.Book.{decode_book, decode_books, zero_behind}
use Rattle.rules.specs.Integrity.{ordered, packed, fixed_right, card_times_right, times_right, none_empty, apart, no_overlap, on_device, in_file, in_files, slots_right, bytes_keep_rules, records_keep_rules, books_keep_rules}
use Rattle.rules.proofs.ListLaws.{and_left, and_right}
use Rattle.rules.proofs.ScanLaws.{scan-not, scan-done}
use Rattle.book.specs.Places.{follows}
use Rattle.book.proofs.OrderLaws.{ascending-both}
use Rattle.intake_books.specs.BookTests.{lent_as, card_right, extent_right, group_right, record_kept, cards_kept, extents_kept, groups_kept, cards_right, extents_right, groups_right, files_right}
use Rattle.intake_books.proofs.WalkLaws.{all_both, all-records, first-kept, walk-all, Kept, kept-none, kept_more}

-- ---- cards

cards-walk : (n : ℕ) (s : List ℕ) → all (record_kept card_right card_before decode_card card_bytes s) (range 0 n) ≡ cards_kept n s
unfolding card_right cards_kept
cards-walk n s =
    let ps : List (List ℕ) = pieces card_bytes n s in
    walk-all decode_card card_bytes s card_right card_before n
    ∙ ap (λ (b : Bool). b && ascending card_before (decode_book decode_card card_bytes n s)) (all_both card_spare_zero (λ p. card_times_right (decode_card p)) ps)
    ∙ rw (← all-records decode_card card_bytes n s card_times_right) (turn (all card_spare_zero ps) (all card_times_right (decode_book decode_card card_bytes n s)) (ascending card_before (decode_book decode_card card_bytes n s)))
  where
    turn : (a b c : Bool) → ((a && b) && c) ≡ ((a && c) && b)
    turn false b c = refl
    turn true true true = refl
    turn true true false = refl
    turn true false true = refl
    turn true false false = refl

module _ (n : ℕ) (s : List ℕ) (i : ℕ) where
  -- a card did not pass
  pub cards-not : (m : Bool) → i < n → m ≡ record_kept card_right card_before decode_card card_bytes s i → not m ≡ true → false ≡ cards_kept n s
  cards-not m l e t = scan-not (record_kept card_right card_before decode_card card_bytes s) n i m l e t ∙ cards-walk n s

  -- all passed
  pub cards-done : n ≤ i → all (record_kept card_right card_before decode_card card_bytes s) (range 0 i) ≡ true → true ≡ cards_kept n s
  cards-done l h = scan-done (record_kept card_right card_before decode_card card_bytes s) n i l h ∙ cards-walk n s

-- ---- groups

groups-walk : (n : ℕ) (s : List ℕ) → all (record_kept group_right group_before decode_group group_bytes s) (range 0 n) ≡ groups_kept n s
unfolding group_right groups_kept
groups-walk n s =
    let ps : List (List ℕ) = pieces group_bytes n s in
    walk-all decode_group group_bytes s group_right group_before n
    ∙ ap (λ (b : Bool). b && ascending group_before (decode_book decode_group group_bytes n s)) (all_both group_fixed absent_zero ps)
    ∙ turn (all group_fixed ps) (all absent_zero ps) (ascending group_before (decode_book decode_group group_bytes n s))
  where
    turn : (a b c : Bool) → ((a && b) && c) ≡ ((a && c) && b)
    turn false b c = refl
    turn true true true = refl
    turn true true false = refl
    turn true false true = refl
    turn true false false = refl

module _ (n : ℕ) (s : List ℕ) (i : ℕ) where
  -- a group did not pass
  pub groups-not : (m : Bool) → i < n → m ≡ record_kept group_right group_before decode_group group_bytes s i → not m ≡ true → false ≡ groups_kept n s
  groups-not m l e t = scan-not (record_kept group_right group_before decode_group group_bytes s) n i m l e t ∙ groups-walk n s

  -- all passed
  pub groups-done : n ≤ i → all (record_kept group_right group_before decode_group group_bytes s) (range 0 i) ≡ true → true ≡ groups_kept n s
  groups-done l h = scan-done (record_kept group_right group_before decode_group group_bytes s) n i l h ∙ groups-walk n s

-- ---- extents

module _ (blocks n : ℕ) (s : List ℕ) where
  -- none is empty, and each lies on the device
  extents-one : all (extent_right blocks) (pieces extent_bytes n s)
      ≡ (all extent_fixed (pieces extent_bytes n s) && (all (λ e. ltb 0 e.count) (decode_book decode_extent extent_bytes n s) && all (λ e. leb (e.physical + e.count) blocks) (decode_book decode_extent extent_bytes n s)))
  unfolding extent_right
  extents-one =
      let ps : List (List ℕ) = pieces extent_bytes n s in
      all_both extent_fixed (λ p. ltb 0 (decode_extent p).count && leb ((decode_extent p).physical + (decode_extent p).count) blocks) ps
      ∙ ap (λ (b : Bool). all extent_fixed ps && b)
      (all_both (λ p. ltb 0 (decode_extent p).count) (λ p. leb ((decode_extent p).physical + (decode_extent p).count) blocks) ps
      ∙ rw (all-records decode_extent extent_bytes n s (λ e. ltb 0 e.count), all-records decode_extent extent_bytes n s (λ e. leb (e.physical + e.count) blocks)) refl)

  extents-walk : all (record_kept (extent_right blocks) follows decode_extent extent_bytes s) (range 0 n) ≡ extents_kept blocks n s
  unfolding extents_kept follows
  extents-walk =
      walk-all decode_extent extent_bytes s (extent_right blocks) follows n
      ∙ rw (extents-one, ascending-both extent_before apart (decode_book decode_extent extent_bytes n s))
      (turn (all extent_fixed (pieces extent_bytes n s)) (all (λ e. ltb 0 e.count) (decode_book decode_extent extent_bytes n s)) (all (λ e. leb (e.physical + e.count) blocks) (decode_book decode_extent extent_bytes n s))
      (ascending extent_before (decode_book decode_extent extent_bytes n s)) (neighbours apart (decode_book decode_extent extent_bytes n s)))
    where
      turn : (f c d o a : Bool) → ((f && (c && d)) && (o && a)) ≡ ((((f && o) && c) && a) && d)
      turn false c d o a = refl
      turn true true true true true = refl
      turn true true true true false = refl
      turn true true true false a = refl
      turn true true false true true = refl
      turn true true false true false = refl
      turn true true false false a = refl
      turn true false d true a = refl
      turn true false d false a = refl

  module _ (i : ℕ) where
    -- an extent did not pass
    pub extents-not : (m : Bool) → i < n → m ≡ record_kept (extent_right blocks) follows decode_extent extent_bytes s i → not m ≡ true → false ≡ extents_kept blocks n s
    extents-not m l e t = scan-not (record_kept (extent_right blocks) follows decode_extent extent_bytes s) n i m l e t ∙ extents-walk

    -- all passed
    pub extents-done : n ≤ i → all (record_kept (extent_right blocks) follows decode_extent extent_bytes s) (range 0 i) ≡ true → true ≡ extents_kept blocks n s
    extents-done l h = scan-done (record_kept (extent_right blocks) follows decode_extent extent_bytes s) n i l h ∙ extents-walk

module _ (blocks n : ℕ) (s : List ℕ) where
  -- no extent
  pub extents-none : n ≡ 0 → true ≡ extents_kept blocks n s
  extents-none z = extents-done blocks n s 0 (omega arith) (kept-none (extent_right blocks) follows decode_extent extent_bytes s)

  module _ (m : Bool) (e : m ≡ extent_right blocks (part 0 extent_bytes s)) where
    -- the first did not pass
    pub extents-first-not : (n ≡ 0 → ⊥) → not m ≡ true → false ≡ extents_kept blocks n s
    extents-first-not z t = extents-not blocks n s 0 m (omega arith) (first-kept decode_extent extent_bytes s (extent_right blocks) follows m e) t

    -- it passed
    pub extents-first : not m ≡ false → Kept (extent_right blocks) follows decode_extent extent_bytes s 1
    extents-first t =
        kept_more (extent_right blocks) follows decode_extent extent_bytes s 0 m (kept-none (extent_right blocks) follows decode_extent extent_bytes s)
        (first-kept decode_extent extent_bytes s (extent_right blocks) follows m e) t

-- ---- all books

-- the rules by the book are the rules in document 01's order
sorted : (zc ze zg fc fe fg sl oc oe og t c a d i : Bool)
    → ((((zc && ze) && zg) && ((fc && fe) && fg) && sl) && ((((((oc && oe) && og) && t) && c) && a) && d && i))
    ≡ ((zc && ((fc && oc) && t)) && ((ze && ((((fe && oe) && c) && a) && d)) && ((zg && ((fg && og) && sl)) && i)))
sorted false ze zg fc fe fg sl oc oe og t c a d i = refl
sorted true false zg fc fe fg sl oc oe og t c a d i = simp and-false refl
sorted true true false fc fe fg sl oc oe og t c a d i = simp and-false refl
sorted true true true false fe fg sl oc oe og t c a d i = refl
sorted true true true true false fg sl oc oe og t c a d i = simp and-false refl
sorted true true true true true false sl oc oe og t c a d i = simp and-false refl
sorted true true true true true true false oc oe og t c a d i = simp and-false refl
sorted true true true true true true true false oe og t c a d i = refl
sorted true true true true true true true true false og t c a d i = simp and-false refl
sorted true true true true true true true true true false t c a d i = rw (and-false ((c && a) && d), and-false t) refl
sorted true true true true true true true true true true false c a d i = refl
sorted true true true true true true true true true true true false a d i = refl
sorted true true true true true true true true true true true true false d i = refl
sorted true true true true true true true true true true true true true false i = refl
sorted true true true true true true true true true true true true true true i = refl

module _ (blocks : ℕ) (cards : List ℕ) (n : ℕ) (extents : List ℕ) (m : ℕ) (groups : List ℕ) (k : ℕ) where
  -- the tests of the books are the rules
  pub books_kept : books_keep_rules blocks (lent_as cards n extents m groups k) ≡ (cards_right n cards && (extents_right blocks m extents && (groups_right k groups && files_right n cards m extents)))
  unfolding books_keep_rules bytes_keep_rules records_keep_rules decode_books ordered packed fixed_right times_right none_empty no_overlap on_device in_files slots_right cards_right extents_right groups_right files_right cards_kept extents_kept groups_kept
  books_kept =
      let cs = decode_book decode_card card_bytes n cards in
      let es = decode_book decode_extent extent_bytes m extents in
      let gs = decode_book decode_group group_bytes k groups in
      sorted (zero_behind card_bytes n cards) (zero_behind extent_bytes m extents) (zero_behind group_bytes k groups)
      (all card_spare_zero (pieces card_bytes n cards)) (all extent_fixed (pieces extent_bytes m extents)) (all group_fixed (pieces group_bytes k groups))
      (all absent_zero (pieces group_bytes k groups)) (ascending card_before cs) (ascending extent_before es) (ascending group_before gs)
      (all card_times_right cs) (all (λ e. ltb 0 e.count) es) (neighbours apart es) (all (λ e. leb (e.physical + e.count) blocks) es) (all (in_file cs) es)

-- cards that are right ascend
pub cards-ascend : (n : ℕ) (s : List ℕ) (a : Bool) → a ≡ cards_right n s → a ≡ true → ascending card_before (decode_book decode_card card_bytes n s) ≡ true
unfolding cards_right cards_kept
cards-ascend n s a e t =
    let cs = decode_book decode_card card_bytes n s in
    let f : Bool = all card_spare_zero (pieces card_bytes n s) in
    and_right f (ascending card_before cs) (and_left (f && ascending card_before cs) (all card_times_right cs) (and_right (zero_behind card_bytes n s) ((f && ascending card_before cs) && all card_times_right cs) (sym e ∙ t)))

-- and extents
pub extents-ascend : (blocks n : ℕ) (s : List ℕ) (a : Bool) → a ≡ extents_right blocks n s → a ≡ true → ascending extent_before (decode_book decode_extent extent_bytes n s) ≡ true
unfolding extents_right extents_kept
extents-ascend blocks n s a e t =
    let es : List Extent = decode_book decode_extent extent_bytes n s in
    let f : Bool = all extent_fixed (pieces extent_bytes n s) in
    let o : Bool = ascending extent_before es in
    let c : Bool = all (λ x. ltb 0 x.count) es in
    let p : Bool = neighbours apart es in
    let d : Bool = all (λ x. leb (x.physical + x.count) blocks) es in
    and_right f o (and_left (f && o) c (and_left ((f && o) && c) p (and_left (((f && o) && c) && p) d (and_right (zero_behind extent_bytes n s) ((((f && o) && c) && p) && d) (sym e ∙ t)))))
