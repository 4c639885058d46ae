-- What refusal 1 leaves for granted, what the tests of books and maps are of the rules, and the number of the first refusal.
-- Assumes nothing.
use mathlib.Core.Path.{◌≡◌, refl, sym, ap, ◌∙◌}
use mathlib.Core.Bool.{Bool, true, false, not, ◌&&◌}
use mathlib.Core.List.{List, [], ◌∷◌, flat_map}
use Prim.Native.Nat.{ℕ, ◌+◌, ◌*◌, ◌≤◌}
use native.Mathlib.Omega.{arith}
use borrow.Author.Tests.{eqb-true, not-false}
use lib.Dec.{leb, ltb}
use lib.ListN.{length}
use Rattle.rules.specs.Lists.{pick◌then◌else◌, all, range}
use Rattle.rules.specs.Head.{Head, head_bytes, decode_head}
use Rattle.rules.specs.Card.{card_bytes}
use Rattle.rules.specs.Extent.{extent_bytes, decode_extent}
use Rattle.rules.specs.Group.{group_bytes}
use Rattle.rules.specs.Book.{LentBooks, book_places, decode_book, decode_books, Books}
use Rattle.rules.specs.Store.{Store, Volume, lent, decode, decode_with}
use Rattle.rules.specs.Refusal.{Outcome, Result, number_of, first_case, result}
use Rattle.format.specs.declared.refusal.Refusal.{Refusal}
use Rattle.format.specs.declared.refusal.Refusal.TheVariants.{WrongLength, BrokenRule}
use Rattle.format.specs.Refusals.{number_in, refusal_of}
use Rattle.format.proofs.RefusalLaws.{refusal-positive}
use Rattle.std.specs.Prelude.{Ok, Err}
use Rattle.rules.specs.Refusal.Refusal.{wrong_length, broken_rule}
use Rattle.rules.specs.Refusal.Outcome.{refuse}
use Rattle.rules.specs.Answers.{outcome_number}
use Rattle.rules.specs.Lengths.{buffers_fit, head_length, head_fits, counts_fit, length_wrong}
use Rattle.rules.specs.Integrity.{ordered, times_right, none_empty, no_overlap, on_device, in_files, bytes_keep_rules, records_keep_rules, books_keep_rules, books_broken, mapped_blocks, mapped_used, mapped_live, mapped_unreserved, mapped_right, reserved_right, retired_right, none_past, maps_keep_rules, maps_broken, rule_broken, store_cases}
use Rattle.rules.proofs.ListLaws.{test-cases, if-true, if-false, and_right, all_append}
use Rattle.rules.proofs.PassLaws.{each-passed, BuffersSized, HeadRoom, buffers-sized, head-room, all-and, mappable, mapped-all, all-mapped, Passes}
use Rattle.bitmap_pairs.specs.Pair.{only, inside}
use Rattle.bitmap_pairs.proofs.PairLaws.{same_tests}
use Rattle.intake.specs.Join.{store_number, LengthsRight}
use Rattle.intake_maps.specs.MapTests as tests
use Rattle.intake_maps.specs.MapTests.{blocks_mappable, extent_mappable, maps_alone, maps_right, placed, MapsSized}

-- ---- what refusal 1 leaves

-- the lengths are right for what the head says
pub lengths-right : (s : Store) → length_wrong s ≡ false → LengthsRight s.head s.cards s.extents s.groups s.used s.retired
unfolding length_wrong head_length book_places
lengths-right s e =
    let h : Head = decode_head s.head in
    let t = each-passed (buffers_fit s) (head_length s ∷ head_fits s h ∷ counts_fit s h ∷ []) (not-false (buffers_fit s && head_length s && head_fits s h && counts_fit s h) e) in
    let z : BuffersSized s = buffers-sized s t.0 in
    let r : HeadRoom s h = head-room s h t.1.1.0 t.1.1.1.0 in
    record {
      head_fits = eqb-true (length s.head) head_bytes t.1.0;
      cards_fit = omega (arith, r.cards);
      extents_fit = omega (arith, r.extents);
      groups_fit = omega (arith, r.groups);
      maps_fit = record {
        used_fits = rw r.blocks z.used;
        retired_fits = rw r.blocks z.retired;
        most = rw r.blocks z.most;
        within = r.reserved;
      };
    }

-- ---- what the books' rules leave for the maps

-- each extent has blocks, and they lie on the device
pub books-placed : (b : ℕ) (l : LentBooks) → books_keep_rules b l ≡ true → all (placed b) (decode_book decode_extent extent_bytes l.extent_count l.extents) ≡ true
unfolding books_keep_rules records_keep_rules placed
books-placed b l h =
    let k : Books = decode_books l in
    let t = each-passed (ordered k) (times_right k ∷ none_empty k ∷ no_overlap k ∷ on_device b k ∷ in_files k ∷ []) (and_right (bytes_keep_rules l) (records_keep_rules b k) h) in
    unfold decode_books none_empty on_device in
    all-and (λ e. ltb 0 e.count) (λ e. leb (e.physical + e.count) b) (decode_book decode_extent extent_bytes l.extent_count l.extents) t.1.1.0 t.1.1.1.1.0

-- ---- the maps' tests are the rules'

-- a test of all that a function makes of each element
all-flat_map : {A B : Type 0} (f : B → Bool) (g : A → List B) (xs : List A) → all f (flat_map g xs) ≡ all (λ x. all f (g x)) xs
unfolding all flat_map
all-flat_map f g [] = refl
all-flat_map f g (x ∷ xs) = all_append f (g x) (flat_map g xs) ∙ ap (λ (b : Bool). all f (g x) && b) (all-flat_map f g xs)

-- mapped blocks, extent by extent
mapped-each : (v : Volume) → all (λ e. all (mappable v) (range e.physical e.count)) v.books.extents ≡ mapped_right v
mapped-each v =
    let f : all (mappable v) (mapped_blocks v.books.extents) ≡ all (λ e. all (mappable v) (range e.physical e.count)) v.books.extents =
    unfold mapped_blocks in all-flat_map (mappable v) (λ e. range e.physical e.count) v.books.extents in
    sym f ∙ same_tests (all (mappable v) (mapped_blocks v.books.extents)) (mapped_right v) (all-mapped v) (mapped-all v)

-- four tests, the last three as one
last-three : (a b c d : Bool) → (a && (b && c && d)) ≡ (a && b && c && d)
last-three true b c d = refl
last-three false b c d = refl

-- the maps' rules
maps-are : (s : Store) → maps_right (decode_head s.head).blocks (decode_head s.head).reserved s.used s.retired (decode_book decode_extent extent_bytes (decode_head s.head).extents s.extents) ≡ maps_keep_rules (decode s) s
unfolding maps_right maps_alone maps_keep_rules
maps-are s =
    let m : all (extent_mappable (decode_head s.head).reserved s.used s.retired) (decode_book decode_extent extent_bytes (decode_head s.head).extents s.extents) ≡ mapped_right (decode s) =
    unfold extent_mappable blocks_mappable tests.mappable only decode decode_with decode_books in mapped-each (decode s) in
    let r : all (only s.used s.retired) (range 0 (decode_head s.head).reserved) ≡ reserved_right (decode s) = unfold reserved_right only decode decode_with in refl in
    let t : all (inside s.used s.retired) (range 0 (decode_head s.head).blocks) ≡ retired_right (decode s) = unfold retired_right inside decode decode_with in refl in
    let b : (decode_head s.head).blocks ≡ (decode s).blocks = unfold decode decode_with in refl in
    rw (m, r, t, b) (last-three (mapped_right (decode s)) (reserved_right (decode s)) (retired_right (decode s)) (none_past (decode s).blocks s.used && none_past (decode s).blocks s.retired))

-- ---- refusal 2

module _ (i hd c e g u x : List ℕ) (h : Head) (q : h ≡ decode_head hd) where
  -- the lent books, by the numbers in hand
  abbrev books : LentBooks
  books = record { cards = c; card_count = h.cards; extents = e; extent_count = h.extents; groups = g; group_count = h.groups }

  -- the test of the books is the rules'
  books-are : (r : Bool) → r ≡ not (books_keep_rules h.blocks books) → r ≡ books_broken (lent i hd c e g u x)
  unfolding books_broken
  books-are r p = rw q at p

  -- the books break a rule
  pub broken-books : (r : Bool) → r ≡ not (books_keep_rules h.blocks books) → r ≡ true → true ≡ rule_broken (lent i hd c e g u x)
  unfolding rule_broken
  broken-books r p t = rw (← books-are r p, t) refl

  -- they do not: each extent has blocks, and they lie on the device
  pub whole-books : (r : Bool) → r ≡ not (books_keep_rules h.blocks books) → r ≡ false → all (placed h.blocks) (decode_book decode_extent extent_bytes h.extents e) ≡ true
  whole-books r p t = books-placed h.blocks books (not-false (books_keep_rules h.blocks books) (sym p ∙ t))

  -- it is left to the maps
  pub broken-maps : (r m : Bool) → r ≡ not (books_keep_rules h.blocks books) → r ≡ false → m ≡ not (maps_right h.blocks h.reserved u x (decode_book decode_extent extent_bytes h.extents e)) → m ≡ rule_broken (lent i hd c e g u x)
  unfolding rule_broken maps_broken
  broken-maps r m p t k = rw (← books-are r p, t) ((rw q at k) ∙ ap not (maps-are (lent i hd c e g u x)))

  -- the maps are sized by the numbers in hand
  pub sized-here : LengthsRight hd c e g u x → MapsSized h.blocks h.reserved u x
  sized-here w = rw q w.maps_fit

  -- the cards are there
  pub cards-here : LengthsRight hd c e g u x → card_bytes * h.cards ≤ length c
  cards-here w = rw q w.cards_fit

  -- the extents
  pub extents-here : LengthsRight hd c e g u x → extent_bytes * h.extents ≤ length e
  extents-here w = rw q w.extents_fit

  -- and the groups
  pub groups-here : LengthsRight hd c e g u x → group_bytes * h.groups ≤ length g
  groups-here w = rw q w.groups_fit

-- the image is not looked at
pub rule-image : (i j hd c e g u x : List ℕ) → rule_broken (lent i hd c e g u x) ≡ rule_broken (lent j hd c e g u x)
unfolding rule_broken books_broken maps_broken maps_keep_rules decode decode_with mapped_right mapped_used mapped_live mapped_unreserved reserved_right retired_right
rule-image i j hd c e g u x = refl

-- ---- the number

module _ (s : Store) where
  -- refusal 1 comes
  pub number-one : (r : Bool) → r ≡ length_wrong s → r ≡ true → number_in {A = Unit {0}} (Err WrongLength) ≡ store_number s
  unfolding store_number store_cases first_case pick◌then◌else◌ outcome_number number_of number_in refusal_of
  number-one r p t = rw (← p, t) refl

  -- refusal 2 does
  pub number-two : (r q : Bool) → r ≡ length_wrong s → r ≡ false → q ≡ rule_broken s → q ≡ true → number_in {A = Unit {0}} (Err BrokenRule) ≡ store_number s
  unfolding store_number store_cases first_case pick◌then◌else◌ outcome_number number_of number_in refusal_of
  number-two r q p t f z = rw (← p, t, ← f, z) refl

  -- none does
  pub number-none : (r q : Bool) (x : Unit {0}) → r ≡ length_wrong s → r ≡ false → q ≡ rule_broken s → q ≡ false → number_in (Ok x) ≡ store_number s
  unfolding store_number store_cases first_case pick◌then◌else◌ outcome_number number_of number_in
  number-none r q x p t f z = rw (← p, t, ← f, z) refl

-- ---- a call stopped by them

module _ (s : Store) where
  -- a call that refusal 1 or 2 stops gives its number, whatever it would go on with, and leaves the store and the output buffer
  pub stopped : (out : List ℕ) (next : Outcome) (r : Refusal) → number_in {A = Unit {0}} (Err r) ≡ store_number s
      → ◌≡◌ {A = Result} (record { number = number_of (refusal_of r); count = 0; store = s; out = out }) (result s out (first_case (store_cases s) next))
  unfolding store_number store_cases first_case outcome_number result number_in
  stopped out next r e =
      test-cases _ (length_wrong s)
      (λ t. let m : number_of (refusal_of r) ≡ number_of wrong_length = e ∙ ap outcome_number (if-true (length_wrong s) (refuse wrong_length) _ t) in
      rw (m, if-true (length_wrong s) (refuse wrong_length) (pick rule_broken s then refuse broken_rule else next) t) refl)
      (λ t. test-cases _ (rule_broken s)
      (λ u. let m : number_of (refusal_of r) ≡ number_of broken_rule = e ∙ ap outcome_number (if-false (length_wrong s) (refuse wrong_length) _ t ∙ if-true (rule_broken s) (refuse broken_rule) _ u) in
      rw (m, if-false (length_wrong s) (refuse wrong_length) (pick rule_broken s then refuse broken_rule else next) t, if-true (rule_broken s) (refuse broken_rule) next u) refl)
      (λ u. let m : number_of (refusal_of r) ≡ 0 = e ∙ ap outcome_number (if-false (length_wrong s) (refuse wrong_length) _ t ∙ if-false (rule_broken s) (refuse broken_rule) _ u) in
      absurd (omega (arith, m, refusal-positive r))))

  -- where neither comes the store passes
  pub not_stopped : (x : Unit {0}) → number_in (Ok x) ≡ store_number s → Passes s
  unfolding store_number store_cases first_case outcome_number number_in number_of
  not_stopped x e =
      test-cases (Passes s) (length_wrong s) (λ t. absurd (omega (arith, e ∙ ap outcome_number (if-true (length_wrong s) (refuse wrong_length) _ t))))
      (λ t. test-cases (Passes s) (rule_broken s)
      (λ u. absurd (omega (arith, e ∙ ap outcome_number (if-false (length_wrong s) (refuse wrong_length) _ t ∙ if-true (rule_broken s) (refuse broken_rule) _ u))))
      (λ u. record { lengths = t; rules = u }))
