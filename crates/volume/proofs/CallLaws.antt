-- From the tests and the inner calls to the calls of the rules: a call that refusal 1 or 2 stops, and what each call gives where they let it go on.
-- Assumes nothing.
use mathlib.Core.Path.{◌≡◌, refl, sym, ap, ap₂, ◌∙◌}
use mathlib.Core.Bool.{Bool, true, false, not, ◌&&◌}
use mathlib.Core.List.{List, [], ◌∷◌}
use Prim.Native.Nat.{ℕ, suc, ◌-◌, ◌*◌, ◌/◌, ◌≤◌, ◌<◌}
use native.Mathlib.Omega.{arith}
use lib.Dec.{ltb, eqb, leb}
use borrow.Author.Tests.{eqb-true, leb-true, leb-false, not-false}
use lib.ListN.{length, replicate}
use Rattle.std.specs.Prelude.{Err}
use Rattle.rules.specs.Lists.{pick◌then◌else◌, given, range, count, find, insert, ascending}
use Rattle.rules.specs.Sizes.{block_bytes, most_blocks}
use Rattle.rules.specs.Bytes.{bit_set}
use Rattle.rules.specs.Time.{Time}
use Rattle.rules.specs.Head.{Head, head_bytes, uuid_bytes, decode_head, encode_head}
use Rattle.rules.specs.Card.{card_bytes, decode_card, encode_card, card_before}
use Rattle.rules.specs.Extent.{extent_bytes, decode_extent, extent_before}
use Rattle.rules.specs.Group.{group_bytes, decode_group, group_before}
use Rattle.rules.specs.Map.{map_bytes, encode_map}
use Rattle.rules.specs.Book.{decode_book, decode_books, encode_book, book_places}
use Rattle.rules.specs.Store.{Store, Volume, lent, StoreBytes, decode, decode_with, head_of, encode_into, image_blocks, card_of}
use Rattle.rules.specs.Refusal.{Outcome, number_of, first_case, result}
use Rattle.rules.specs.Refusal.Outcome.{refuse, accept}
use Rattle.rules.specs.Refusal.Refusal.{wrong_length, card_exists, bad_time, no_card_place}
use Rattle.rules.specs.Lengths.{fresh_length_wrong, buffers_fit, head_length}
use Rattle.rules.specs.Integrity.{ordered}
use Rattle.rules.specs.Arguments.{has_card, time_wrong, cards_full}
use Rattle.rules.specs.Fresh.{fresh_volume, fresh_outcome}
use Rattle.rules.specs.Enter.{new_card, entered, enter_cases, enter_outcome}
use Rattle.rules.specs.Settle.{settled, retired_blocks, usable_blocks, used_usable, per_mille, settle_outcome, fill_outcome}
use Rattle.rules.specs.Call.{call}
use Rattle.rules.specs.Call.Look.{fill}
use Rattle.rules.specs.Call.Call.{fresh, enter, settle, look}
use Rattle.rules.proofs.ListLaws.{test-cases, if-true, if-false, length-insert}
use Rattle.rules.proofs.PassLaws.{buffers-sized, Passed, each-passed, Passes, BuffersSized, passes-sized, passes-head, passes-room, passes-whole, lawful-decode, room-decode}
use Rattle.rules.proofs.OutcomeLaws.{goes_on}
use Rattle.rules.proofs.FillLaws.{used-behind}
use Rattle.rules.proofs.BookLaws.{length-decode_book}
use Rattle.rules.proofs.EnterLaws.{TimeRight, time-right}
use Rattle.rules.proofs.StoreAfter.{fresh-left, enter-left, settle-left}
use Rattle.format.specs.declared.refusal.Refusal.{Refusal}
use Rattle.format.specs.Refusals.{number_in, refusal_of}
use Rattle.intake.specs.Join.{store_number}
use Rattle.intake.proofs.JoinLaws.{stopped}
use Rattle.store.specs.Buffers.{fresh_head, one_card_more, enter_number, CardsRight, EnterReady}
use Rattle.volume.specs.Call.{gave}

-- ---- refusals 1 and 2

module _ (s : Store) (r : Refusal) (e : number_in {A = Unit {0}} (Err r) ≡ store_number s) where
  -- fill
  pub fill-stopped : gave (number_of (refusal_of r)) 0 s ≡ call (look fill) s
  unfolding call fill_outcome
  fill-stopped = stopped s [] _ r e

  -- and settle
  pub settle-stopped : gave (number_of (refusal_of r)) 0 s ≡ call settle s
  unfolding call settle_outcome
  settle-stopped = stopped s [] _ r e

-- ---- fill and settle

module _ (s : Store) (p : Passes s) where
  -- the blocks that the store says are the image's
  pub blocks-are : (decode s).blocks ≡ length s.image / block_bytes
  unfolding image_blocks
  blocks-are = (room-decode s p).blocks

  -- the maps are as long as they ask for
  pub used-sized : length s.used ≡ map_bytes (length s.image / block_bytes)
  unfolding image_blocks
  used-sized = (passes-sized s p).used

  -- both
  pub retired-sized : length s.retired ≡ map_bytes (length s.image / block_bytes)
  unfolding image_blocks
  retired-sized = (passes-sized s p).retired

  -- and not too many
  pub few-blocks : length s.image / block_bytes ≤ most_blocks
  unfolding image_blocks
  few-blocks = (passes-sized s p).most

  -- the reserved ones are among them
  pub reserved-inside : (decode_head s.head).reserved ≤ length s.image / block_bytes
  unfolding decode decode_with
  reserved-inside = omega (arith, (room-decode s p).reserved, blocks-are)

  -- what fill gives, for the reserved blocks that the head says
  pub fill_done : (m : ℕ) → m ≡ (decode_head s.head).reserved → (r : ℕ)
      → r ≡ per_mille (count (bit_set s.used) (range m (length s.image / block_bytes - m))) (length s.image / block_bytes - m) → gave 0 r s ≡ call (look fill) s
  unfolding call fill_outcome usable_blocks result
  fill_done m q r e =
      let v : Volume = decode s in
      let u : v.used ≡ bit_set s.used = unfold decode decode_with in refl in
      let k : v.reserved ≡ m = unfold decode decode_with in sym q in
      let w : per_mille (used_usable v) (v.blocks - v.reserved) ≡ r = rw (used-behind v (room-decode s p).reserved, blocks-are, k, u) (sym e) in
      sym (ap (result s []) (goes_on s (accept (per_mille (used_usable v) (v.blocks - v.reserved)) s []) p) ∙ ap (λ (n : ℕ). gave 0 n s) w)

  -- what settle gives
  pub settle-done : StoreBytes s → (r : ℕ) (used retired : List ℕ) → r ≡ count (bit_set s.retired) (range 0 (length s.image / block_bytes))
      → used ≡ encode_map (length s.image / block_bytes) (λ n. bit_set s.used n && not (bit_set s.retired n)) → retired ≡ encode_map (length s.image / block_bytes) (λ n. false)
      → gave 0 r (lent s.image s.head s.cards s.extents s.groups used retired) ≡ call settle s
  unfolding call settle_outcome retired_blocks result
  settle-done b r used retired e f g =
      let v : (decode s).used ≡ bit_set s.used = unfold decode decode_with in refl in
      let w : (decode s).retired ≡ bit_set s.retired = unfold decode decode_with in refl in
      let k : count (decode s).retired (range 0 (decode s).blocks) ≡ r = rw (blocks-are, w) (sym e) in
      let m : encode_into s (settled (decode s)) ≡ lent s.image s.head s.cards s.extents s.groups used retired = rw (settle-left s p b, blocks-are, v, w, f, g) refl in
      sym (ap (result s []) (goes_on s (accept (count (decode s).retired (range 0 (decode s).blocks)) (encode_into s (settled (decode s))) []) p) ∙ ap₂ (gave 0) k m)

-- ---- fresh

-- the lengths that fresh's inner calls ask for
pub record FreshReady (uuid : List ℕ) (reserved : ℕ) (s : Store) : Type 0 where
  pub width : length uuid ≡ uuid_bytes
  pub head : length s.head ≡ head_bytes
  pub room : reserved ≤ length s.image / block_bytes
  pub few : length s.image / block_bytes ≤ most_blocks
  pub used : length s.used ≡ map_bytes (length s.image / block_bytes)
  pub retired : length s.retired ≡ map_bytes (length s.image / block_bytes)

module _ (uuid : List ℕ) (reserved : ℕ) (s : Store) where
  -- refusal 1
  pub fresh-stopped : fresh_length_wrong uuid reserved s ≡ true → gave 1 0 s ≡ call (fresh uuid reserved) s
  unfolding call fresh_outcome first_case result number_of
  fresh-stopped w = ap (result s []) (sym (if-true (fresh_length_wrong uuid reserved s) (refuse wrong_length) _ w))

  module _ (w : fresh_length_wrong uuid reserved s ≡ false) where
    -- its tests, each
    fresh-tests : Passed (buffers_fit s ∷ eqb (length uuid) uuid_bytes ∷ head_length s ∷ leb reserved (image_blocks s) ∷ [])
    unfolding fresh_length_wrong
    fresh-tests =
        each-passed (buffers_fit s) (eqb (length uuid) uuid_bytes ∷ head_length s ∷ leb reserved (image_blocks s) ∷ [])
        (not-false (buffers_fit s && eqb (length uuid) uuid_bytes && head_length s && leb reserved (image_blocks s)) w)

    -- what its inner calls ask for
    pub fresh-ready : FreshReady uuid reserved s
    unfolding image_blocks head_length
    fresh-ready =
        let z : BuffersSized s = buffers-sized s fresh-tests.0 in
        record {
          width = eqb-true (length uuid) uuid_bytes fresh-tests.1.0;
          head = eqb-true (length s.head) head_bytes fresh-tests.1.1.0;
          room = leb-true reserved (length s.image / block_bytes) fresh-tests.1.1.1.0;
          few = z.most;
          used = z.used;
          retired = z.retired;
        }

    -- what fresh gives
    pub fresh-done : (head cards extents groups used retired : List ℕ) → head ≡ encode_head (fresh_head uuid (length s.image / block_bytes) reserved)
        → cards ≡ replicate (length s.cards) 0 → extents ≡ replicate (length s.extents) 0 → groups ≡ replicate (length s.groups) 0
        → used ≡ encode_map (length s.image / block_bytes) (λ n. ltb n reserved) → retired ≡ encode_map (length s.image / block_bytes) (λ n. false)
        → gave 0 0 (lent s.image head cards extents groups used retired) ≡ call (fresh uuid reserved) s
    unfolding call fresh_outcome first_case result
    fresh-done head cards extents groups used retired h c e g u r =
        sym (ap (result s []) (if-false (fresh_length_wrong uuid reserved s) (refuse wrong_length) _ w) ∙ ap (gave 0 0) left)
      where
        left : encode_into s (fresh_volume uuid reserved s) ≡ lent s.image head cards extents groups used retired
        left = fresh-left uuid reserved s ∙ (unfold fresh_volume head_of fresh_head image_blocks in rw (h, c, e, g, u, r) refl)

-- ---- enter

module _ (object : ℕ) (time : Time) (s : Store) where
  -- refusals 1 and 2
  pub enter-stopped : (r : Refusal) → number_in {A = Unit {0}} (Err r) ≡ store_number s → gave (number_of (refusal_of r)) 0 s ≡ call (enter object time) s
  unfolding call enter_outcome
  enter-stopped r e = stopped s [] _ r e

  module _ (p : Passes s) where
    -- its cards are those that the head counts
    pub cards-are : (decode s).books.cards ≡ decode_book decode_card card_bytes (decode_head s.head).cards s.cards
    unfolding decode decode_with decode_books
    cards-are = refl

    -- they have their places
    pub cards-there : card_bytes * (decode_head s.head).cards ≤ length s.cards
    unfolding book_places
    cards-there = omega (arith, (passes-room s p).cards)

    -- the tests, as one choice
    enter-goes : result s [] (enter_outcome object time s) ≡ result s [] (first_case (enter_cases object time s) (accept 0 (encode_into s (entered (new_card object time) (decode s))) []))
    unfolding enter_outcome
    enter-goes = ap (result s []) (goes_on s (first_case (enter_cases object time s) (accept 0 (encode_into s (entered (new_card object time) (decode s))) [])) p)

    -- the cases of refusals 4, 7 and 8, by the number that the tests found
    by_number : (next : Outcome) (P : Outcome → ℕ → Type 0)
        → P (refuse card_exists) 4 → P (refuse bad_time) 7 → P (refuse no_card_place) 8
        → (has_card (decode s) object ≡ false → time_wrong time ≡ false → cards_full (decode s) s ≡ false → P next 0)
        → P (first_case (enter_cases object time s) next) (enter_number (decode s).books.cards (book_places card_bytes s.cards) object time)
    unfolding enter_cases first_case enter_number has_card cards_full card_of pick◌then◌else◌ given find decode decode_with decode_books decode_book decode_head number_of time_wrong
    by_number next P a b c d =
        let h : Bool = given (find (λ c. eqb c.object object) (decode s).books.cards) in
        let w : Bool = time_wrong time in
        let l : Bool = leb (book_places card_bytes s.cards) (length (decode s).books.cards) in
        test-cases _ h
        (λ t. rw (if-true h (refuse card_exists) (pick w then refuse bad_time else pick l then refuse no_card_place else next) t, if-true {A = ℕ} h 4 (pick w then 7 else pick l then 8 else 0) t) a)
        (λ t. rw (if-false h (refuse card_exists) (pick w then refuse bad_time else pick l then refuse no_card_place else next) t, if-false {A = ℕ} h 4 (pick w then 7 else pick l then 8 else 0) t)
        (test-cases _ w
        (λ u. rw (if-true w (refuse bad_time) (pick l then refuse no_card_place else next) u, if-true {A = ℕ} w 7 (pick l then 8 else 0) u) b)
        (λ u. rw (if-false w (refuse bad_time) (pick l then refuse no_card_place else next) u, if-false {A = ℕ} w 7 (pick l then 8 else 0) u)
        (test-cases _ l
        (λ x. rw (if-true l (refuse no_card_place) next x, if-true {A = ℕ} l 8 0 x) c)
        (λ x. rw (if-false l (refuse no_card_place) next x, if-false {A = ℕ} l 8 0 x) (d t u x))))))

    -- refusals 4, 7 and 8
    pub enter-refused : (n : ℕ) → n ≡ enter_number (decode_book decode_card card_bytes (decode_head s.head).cards s.cards) (book_places card_bytes s.cards) object time → (n ≡ 0 → ⊥)
        → gave n 0 s ≡ call (enter object time) s
    unfolding call result number_of decode decode_with decode_books
    enter-refused n e z =
        by_number (accept 0 (encode_into s (entered (new_card object time) (decode s))) []) (λ o k. n ≡ k → gave n 0 s ≡ result s [] o)
        (λ q. rw q refl) (λ q. rw q refl) (λ q. rw q refl) (λ a b c q. absurd (z q)) e
        ∙ sym enter-goes

    module _ (e : enter_number (decode_book decode_card card_bytes (decode_head s.head).cards s.cards) (book_places card_bytes s.cards) object time ≡ 0) where
      -- what the tests of an accepted enter found
      enter-passed : (time_wrong time ≡ false) × (cards_full (decode s) s ≡ false)
      unfolding decode decode_with decode_books
      enter-passed =
          by_number (accept 0 s []) (λ o k. k ≡ 0 → (time_wrong time ≡ false) × (cards_full (decode s) s ≡ false))
          (λ q. absurd (omega (arith, q))) (λ q. absurd (omega (arith, q))) (λ q. absurd (omega (arith, q))) (λ a b c q. (b, c)) e

      module _ (b : StoreBytes s) where
        -- the book of cards keeps its rules
        cards-right : CardsRight (decode_head s.head).cards s.cards
        unfolding ordered decode decode_with decode_books
        cards-right =
            let o = each-passed (ascending card_before (decode s).books.cards) (ascending extent_before (decode s).books.extents ∷ ascending group_before (decode s).books.groups ∷ []) (lawful-decode s p).order in
            let w = (passes-whole s p b).cards in
            record { places = cards-there; order = o.0; zeros = w.zeros; spare = w.records }

        -- what its inner call asks for
        pub enter-ready : EnterReady s.head s.cards (decode_head s.head).cards time
        unfolding cards_full decode decode_with decode_books book_places
        enter-ready =
            let z : BuffersSized s = passes-sized s p in
            let t : TimeRight time = time-right time enter-passed.0 in
            let n : ℕ = (decode_head s.head).cards in
            let f : n < length s.cards / card_bytes =
            rw (length-decode_book decode_card card_bytes n s.cards) at (leb-false (length s.cards / card_bytes) (length (decode_book decode_card card_bytes n s.cards)) enter-passed.1) in
            record {
              width = passes-head s p;
              few = omega (arith, f, z.cards.most);
              right = cards-right;
              room = omega (arith, f);
              early = omega (arith, t.early);
              part = omega (arith, t.part);
            }

        -- its head counts one card more
        head_more : head_of (entered (new_card object time) (decode s)) ≡ one_card_more (decode_head s.head)
        unfolding head_of entered decode decode_with decode_books one_card_more
        head_more =
            let h : Head = decode_head s.head in
            let c : length (insert card_before (new_card object time) (decode_book decode_card card_bytes h.cards s.cards)) ≡ suc h.cards =
            length-insert card_before (new_card object time) (decode_book decode_card card_bytes h.cards s.cards) ∙ ap suc (length-decode_book decode_card card_bytes h.cards s.cards) in
            let e : length (decode_book decode_extent extent_bytes h.extents s.extents) ≡ h.extents = length-decode_book decode_extent extent_bytes h.extents s.extents in
            let g : length (decode_book decode_group group_bytes h.groups s.groups) ≡ h.groups = length-decode_book decode_group group_bytes h.groups s.groups in
            λ i. record { uuid = h.uuid; blocks = h.blocks; reserved = h.reserved; hint = h.hint; cards = c i; extents = e i; groups = g i }

        -- the store that is left
        enter-store : (head cards : List ℕ) → head ≡ encode_head (one_card_more (decode_head s.head))
            → cards ≡ encode_book encode_card (length s.cards) (insert card_before (new_card object time) (decode_book decode_card card_bytes (decode_head s.head).cards s.cards))
            → encode_into s (entered (new_card object time) (decode s)) ≡ lent s.image head cards s.extents s.groups s.used s.retired
        enter-store head cards h c = enter-left s p b (new_card object time) ∙ rw (head_more, cards-are, h, c) refl

        -- what enter gives
        pub enter-done : (head cards : List ℕ) → head ≡ encode_head (one_card_more (decode_head s.head))
            → cards ≡ encode_book encode_card (length s.cards) (insert card_before (new_card object time) (decode_book decode_card card_bytes (decode_head s.head).cards s.cards))
            → gave 0 0 (lent s.image head cards s.extents s.groups s.used s.retired) ≡ call (enter object time) s
        unfolding call result decode decode_with decode_books
        enter-done head cards h c =
            by_number (accept 0 (encode_into s (entered (new_card object time) (decode s))) [])
            (λ o k. k ≡ 0 → gave 0 0 (lent s.image head cards s.extents s.groups s.used s.retired) ≡ result s [] o)
            (λ q. absurd (omega (arith, q))) (λ q. absurd (omega (arith, q))) (λ q. absurd (omega (arith, q))) (λ x y z q. ap (gave 0 0) (sym (enter-store head cards h c))) e
            ∙ sym enter-goes

-- the head is 28 bytes
pub head-width : (s : Store) → Passes s → length s.head ≡ head_bytes
head-width s p = passes-head s p

-- the cards that were counted have their places
pub cards-counted : (s : Store) → Passes s → (m : ℕ) → m ≡ (decode_head s.head).cards → card_bytes * m ≤ length s.cards
cards-counted s p m q = rw q (cards-there 0 (record { seconds = 0; nanoseconds = 0 }) s p)

module _ (object : ℕ) (time : Time) (s : Store) (p : Passes s) (m : ℕ) (q : m ≡ (decode_head s.head).cards) (n : ℕ)
    (e : n ≡ enter_number (decode_book decode_card card_bytes m s.cards) (book_places card_bytes s.cards) object time) where
  -- the number that the tests found, with the number of cards that the head counts
  found : n ≡ enter_number (decode_book decode_card card_bytes (decode_head s.head).cards s.cards) (book_places card_bytes s.cards) object time
  found = rw q at e

  -- refusals 4, 7 and 8 for the cards that were counted
  pub enter-refused' : (n ≡ 0 → ⊥) → gave n 0 s ≡ call (enter object time) s
  enter-refused' z = enter-refused object time s p n found z

  module _ (z : n ≡ 0) (b : StoreBytes s) where
    -- what the inner call asks for
    pub enter-ready' : EnterReady s.head s.cards m time
    enter-ready' = rw q (enter-ready object time s p (sym found ∙ z) b)

    -- what enter gives
    pub enter-done' : (head cards : List ℕ) → head ≡ encode_head (one_card_more (decode_head s.head))
        → cards ≡ encode_book encode_card (length s.cards) (insert card_before (new_card object time) (decode_book decode_card card_bytes m s.cards))
        → gave 0 0 (lent s.image head cards s.extents s.groups s.used s.retired) ≡ call (enter object time) s
    enter-done' head cards h c = enter-done object time s p (sym found ∙ z) b head cards h (rw q at c)
