-- The store that an accepted enter leaves: it passes refusals 1 and 2, and says the volume with the new card; no other card is another.
-- Assumes nothing.
use mathlib.Core.Path.{◌≡◌, refl, sym, ap, ◌∙◌}
use mathlib.Core.List.{List, [], ◌∷◌, head?}
use mathlib.Core.Bool.{Bool, true, false, ◌&&◌, ◌||◌, or_assoc, or_comm}
use mathlib.Core.Option.{some}
use Prim.Native.Nat.{ℕ, suc, ◌^◌, ◌≤◌, ◌<◌}
use native.Mathlib.Omega.{arith}
use lib.Dec.{eqb, leb, ltb}
use lib.ListN.{length, get_or}
use borrow.Author.Tests.{eqb-false, ne_eqb, leb-false, ltb-false, lt-ltb, eq-eqb}
use Rattle.rules.specs.Time.{Time}
use Rattle.rules.specs.Book.{book_places}
use Rattle.rules.specs.Lists.{all, any, filter, find, insert, ascending, begun}
use Rattle.rules.specs.Sizes.{block_bytes, most_seconds, nanoseconds_bound}
use Rattle.rules.specs.Bytes.{Bytes}
use Rattle.rules.specs.Card.{Card, card_bytes, card_before}
use Rattle.rules.specs.Extent.{Extent, extent_before, extent_end}
use Rattle.rules.specs.Group.{group_before}
use Rattle.rules.specs.Store.{Store, StoreBytes, Volume, decode, decode_with, head_of, encode_into, card_of}
use Rattle.rules.specs.Refusal.{result}
use Rattle.rules.specs.Integrity.{ordered, times_right, none_empty, no_overlap, on_device, in_file, in_files, mapped_right, reserved_right, retired_right, card_times_right, store_cases, mapped_used, mapped_live, mapped_unreserved}
use Rattle.rules.specs.Arguments.{time_wrong, has_card, cards_full}
use Rattle.rules.specs.Enter.{new_card, entered, enter_cases, enter_outcome}
use Rattle.rules.specs.Call.{InRange, call}
use Rattle.rules.specs.Call.Call.{enter}
use Rattle.rules.proofs.ListLaws.{order-cases, if-cases, and_intro, or_left, or_right, or-none-left, or-none-right, all_of, all-weaken, none-at, filter-yes, filter-no, filter_none, find-given, each-insert, length-insert, all_insert, ascending-insert}
use Rattle.rules.proofs.CardLaws.{TimeFits, CardFits}
use Rattle.rules.proofs.StoreLaws.{VolumeFits}
use Rattle.rules.proofs.PassLaws.{each-passed, all-passed, Passes, Lawful, Room, BuffersSized, passes-sized, lawful-decode, room-decode, decode-fits, Says, says-encode_into}
use Rattle.rules.proofs.OutcomeLaws.{through, store-passes}

-- ---- an element put in

module _ {A : Type 0} (before : A → A → Bool) (f : A → Bool) where
  -- a test passes at it or at another
  pub any-insert : (x : A) (ys : List A) → any f (insert before x ys) ≡ (f x || any f ys)
  unfolding insert any
  any-insert x [] = refl
  any-insert x (y ∷ ys) =
      if-cases (λ (zs : List A). any f zs ≡ (f x || (f y || any f ys))) (before y x) (y ∷ insert before x ys) (x ∷ y ∷ ys)
      (λ e. ap (λ (b : Bool). f y || b) (any-insert x ys)
      ∙ sym (or_assoc (f y) (f x) (any f ys)) ∙ ap (λ (b : Bool). b || any f ys) (or_comm (f y) (f x)) ∙ or_assoc (f x) (f y) (any f ys))
      (λ e. refl)

  -- where it does not pass, those that pass are as before
  pub filter-insert-no : (x : A) (ys : List A) → f x ≡ false → filter f (insert before x ys) ≡ filter f ys
  unfolding insert filter
  filter-insert-no x [] h = filter-no f x [] h
  filter-insert-no x (y ∷ ys) h =
      if-cases (λ (zs : List A). filter f zs ≡ filter f (y ∷ ys)) (before y x) (y ∷ insert before x ys) (x ∷ y ∷ ys)
      (λ e. rw (filter-insert-no x ys h) refl) (λ e. filter-no f x (y ∷ ys) h)

  -- where it alone passes
  pub filter-insert-yes : (x : A) (ys : List A) → f x ≡ true → any f ys ≡ false → filter f (insert before x ys) ≡ x ∷ []
  unfolding insert any
  filter-insert-yes x [] h n = filter-yes f x [] h ∙ ap (λ (zs : List A). x ∷ zs) (filter_none f [] n)
  filter-insert-yes x (y ∷ ys) h n =
      if-cases (λ (zs : List A). filter f zs ≡ x ∷ []) (before y x) (y ∷ insert before x ys) (x ∷ y ∷ ys)
      (λ e. filter-no f y (insert before x ys) (or-none-left (f y) (any f ys) n) ∙ filter-insert-yes x ys h (or-none-right (f y) (any f ys) n))
      (λ e. filter-yes f x (y ∷ ys) h ∙ ap (λ (zs : List A). x ∷ zs) (filter_none f (y ∷ ys) n))

-- ---- a card put in

-- no card has this object
abbrev pub NoCard : Volume → ℕ → Type 0
NoCard v object = any (λ d. eqb d.object object) v.books.cards ≡ false

-- the test of refusal 4 says so
pub no_card : (v : Volume) (object : ℕ) → has_card v object ≡ false → NoCard v object
unfolding has_card card_of
no_card v object h = sym (find-given (λ d. eqb d.object object) v.books.cards) ∙ h

module _ (c : Card) (v : Volume) where
  -- the new card is found
  pub card-entered : NoCard v c.object → card_of (entered c v) c.object ≡ some c
  unfolding card_of entered find
  card-entered n = ap head? (filter-insert-yes card_before (λ d. eqb d.object c.object) c v.books.cards (eq-eqb c.object c.object refl) n)

  -- and the others are as before
  pub card-other : (object : ℕ) → (c.object ≡ object → ⊥) → card_of (entered c v) object ≡ card_of v object
  unfolding card_of entered find
  card-other object d = ap head? (filter-insert-no card_before (λ d. eqb d.object object) c v.books.cards (ne_eqb c.object object d))

  -- each other card stands before it or behind it
  apart-cards : NoCard v c.object → all (λ d. card_before d c || card_before c d) v.books.cards ≡ true
  unfolding card_before
  apart-cards n =
      let cs : List Card = v.books.cards in
      all_of (λ d. card_before d c || card_before c d) cs c
      (λ i l. let d : Card = get_or cs i c in
      let u : d.object ≡ c.object → ⊥ = eqb-false d.object c.object (none-at (λ d. eqb d.object c.object) cs n i c l) in
      order-cases ((ltb d.object c.object || ltb c.object d.object) ≡ true) d.object c.object
      (λ p. or_left (ltb d.object c.object) (ltb c.object d.object) (lt-ltb d.object c.object p))
      (λ p. absurd (u p))
      (λ p. or_right (ltb d.object c.object) (ltb c.object d.object) (lt-ltb c.object d.object p)))

  -- an extent stays in its file
  in-more : (e : Extent) → in_file v.books.cards e ≡ true → in_file (insert card_before c v.books.cards) e ≡ true
  unfolding in_file
  in-more e h =
      let f : Card → Bool = λ d. eqb d.object e.object && leb (extent_end e) (begun d.size block_bytes) in
      any-insert card_before f c v.books.cards ∙ or_right (f c) (any f v.books.cards) h

  -- the volume stays lawful
  pub entered-lawful : NoCard v c.object → card_times_right c ≡ true → Lawful v → Lawful (entered c v)
  unfolding entered ordered times_right none_empty no_overlap on_device in_files mapped_right mapped_used mapped_live mapped_unreserved reserved_right retired_right
  entered-lawful n t l =
      let b = v.books in
      let o = each-passed (ascending card_before b.cards) (ascending extent_before b.extents ∷ ascending group_before b.groups ∷ []) l.order in
      record {
        order = all-passed (ascending card_before (insert card_before c b.cards)) (ascending extent_before b.extents ∷ ascending group_before b.groups ∷ [])
            (ascending-insert card_before c b.cards o.0 (apart-cards n), o.1);
        times = all_insert card_before card_times_right c b.cards t l.times;
        filled = l.filled;
        apart = l.apart;
        device = l.device;
        files = all-weaken (in_file (insert card_before c b.cards)) (in_file b.cards) b.extents in-more l.files;
        mapped = l.mapped;
        reserved = l.reserved;
        retired = l.retired;
        used_past = l.used_past;
        retired_past = l.retired_past;
      }

  -- its numbers stay in range
  pub entered-fits : CardFits c → suc (length v.books.cards) < 2 ^ 20 → VolumeFits v → VolumeFits (entered c v)
  unfolding entered head_of
  entered-fits g l f =
      let h = f.head in
      record {
        head = record {
          uuid_length = h.uuid_length;
          uuid = h.uuid;
          blocks = h.blocks;
          reserved = h.reserved;
          hint = h.hint;
          cards = rw (length-insert card_before c v.books.cards) l;
          extents = h.extents;
          groups = h.groups;
        };
        cards = each-insert card_before c v.books.cards g f.cards;
        extents = f.extents;
        groups = f.groups;
        used = f.used;
        retired = f.retired;
      }

  -- there is room for it
  pub entered-room : (s : Store) → length v.books.cards < book_places card_bytes s.cards → Room s v → Room s (entered c v)
  unfolding entered
  entered-room s l r = record {
    buffers = r.buffers;
    blocks = r.blocks;
    image = r.image;
    reserved = r.reserved;
    cards = rw (length-insert card_before c v.books.cards) l;
    extents = r.extents;
    groups = r.groups;
  }

-- ---- the call

-- a time that refusal 7 lets pass
pub record TimeRight (time : Time) : Type 0 where
  pub early : time.seconds ≤ most_seconds
  pub part : time.nanoseconds < nanoseconds_bound

-- its test says so
pub time-right : (time : Time) → time_wrong time ≡ false → TimeRight time
unfolding time_wrong
time-right time h =
    let w : Bool = ltb most_seconds time.seconds in
    let x : Bool = leb nanoseconds_bound time.nanoseconds in
    record {
      early = ltb-false most_seconds time.seconds (or-none-left w x h);
      part = leb-false nanoseconds_bound time.nanoseconds (or-none-right w x h);
    }

-- a new card has it twice, and passes refusal 2's test of nanoseconds
new-times : (object : ℕ) (time : Time) → TimeRight time → card_times_right (new_card object time) ≡ true
unfolding new_card card_times_right
new-times object time t =
    let b : Bool = ltb time.nanoseconds nanoseconds_bound in
    let u : b ≡ true = lt-ltb time.nanoseconds nanoseconds_bound t.part in
    and_intro b b u u

-- its numbers are in range
pub new-fits : (object : ℕ) (time : Time) → object < 2 ^ 64 → TimeFits time → CardFits (new_card object time)
unfolding new_card
new-fits object time o f = record { object = o; size = omega arith; allocated = omega arith; changed = f; created = f }

-- enter's tests pass, and it leaves the buffers that say the volume with the new card
pub record EnterAccepted (object : ℕ) (time : Time) (s : Store) : Type 0 where
  pub passes : Passes s
  pub new : NoCard (decode s) object
  pub timely : TimeRight time
  pub room : length (decode s).books.cards < book_places card_bytes s.cards
  pub store : (call (enter object time) s).store ≡ encode_into s (entered (new_card object time) (decode s))

-- so it is with an accepted one
pub enter-accepted : (object : ℕ) (time : Time) (s : Store) → (call (enter object time) s).number ≡ 0 → EnterAccepted object time s
unfolding call enter_outcome enter_cases cards_full result
enter-accepted object time s e =
    let f = through s [] (store_cases s) _ e in
    let t = through s [] (enter_cases object time s) _ (sym (ap (λ o. (result s [] o).number) f.goes_on) ∙ e) in
    let n = t.none in
    record {
      passes = store-passes s f.none;
      new = no_card (decode s) object n.0;
      timely = time-right time n.1.0;
      room = leb-false (book_places card_bytes s.cards) (length (decode s).books.cards) n.1.1.0;
      store = ap (λ o. (result s [] o).store) (f.goes_on ∙ t.goes_on);
    }

module _ (s : Store) (b : StoreBytes s) (object : ℕ) (time : Time) (i : InRange (enter object time)) (e : (call (enter object time) s).number ≡ 0) where
  -- the store that an accepted enter leaves is one of bytes, passes refusals 1 and 2, and says the volume with the new card
  pub enter-says : Says (call (enter object time) s).store (entered (new_card object time) (decode s))
  enter-says =
      let a : EnterAccepted object time s = enter-accepted object time s e in
      let c : Card = new_card object time in
      let v : Volume = decode s in
      let p : Passes s = a.passes in
      let z : BuffersSized s = passes-sized s p in
      let n : suc (length v.books.cards) < 2 ^ 20 = omega (arith, a.room, z.cards.most) in
      let g : CardFits c = new-fits object time i.0 (record { seconds = omega (arith, a.timely.early); nanoseconds = omega (arith, a.timely.part) }) in
      let l : Lawful (entered c v) = unfold new_card in entered-lawful c v a.new (new-times object time a.timely) (lawful-decode s p) in
      let m : Bytes (entered c v).image = unfold entered decode decode_with in b.image in
      rw a.store (says-encode_into s (entered c v) (entered-room c v s a.room (room-decode s p)) (entered-fits c v g n (decode-fits s p b)) l m)

  -- the entered object has the new card
  pub enter-card : card_of (decode (call (enter object time) s).store) object ≡ some (new_card object time)
  unfolding new_card
  enter-card = rw enter-says.volume (card-entered (new_card object time) (decode s) (enter-accepted object time s e).new)

  -- every other object has the card that it had, or none
  pub enter-other : (other : ℕ) → (object ≡ other → ⊥) → card_of (decode (call (enter object time) s).store) other ≡ card_of (decode s) other
  unfolding new_card
  enter-other other d = rw enter-says.volume (card-other (new_card object time) (decode s) other d)
