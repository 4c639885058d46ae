-- A store that passes refusals 1 and 2, told by its two views: its buffers are whole and what they say is lawful; and the other way round,
-- the buffers that say a lawful volume pass.
-- Assumes nothing.
use mathlib.Core.Path.{◌≡◌, refl, sym, ap, ◌∙◌}
use mathlib.Core.List.{List, [], ◌∷◌, map}
use mathlib.Core.Bool.{Bool, true, false, not, ◌&&◌, ◌||◌}
use Prim.Native.Nat.{ℕ, ◌+◌, ◌-◌, ◌*◌, ◌%◌, ◌≤◌, ◌<◌}
use native.Mathlib.Decide.{dec_lt}
use native.Mathlib.Omega.{arith}
use lib.Dec.{eqb, leb}
use lib.ListN.{length}
use borrow.Author.Tests.{eqb-true, eq-eqb, leb-true, le-leb, not-true, not-false}
use Rattle.rules.specs.Lists.{all}
use Rattle.rules.specs.Sizes.{block_bytes, most_blocks, most_places}
use Rattle.rules.specs.Bytes.{Bytes, pieces, padded, bit_set}
use Rattle.rules.specs.Head.{Head, head_bytes, decode_head, encode_head}
use Rattle.rules.specs.Card.{card_bytes, decode_card, encode_card, card_spare_zero}
use Rattle.rules.specs.Extent.{extent_bytes, decode_extent, encode_extent, extent_fixed}
use Rattle.rules.specs.Group.{group_bytes, decode_group, encode_group, group_fixed, absent_zero}
use Rattle.rules.specs.Map.{map_bytes, encode_map}
use Rattle.rules.specs.Book.{Books, encode_book, zero_behind, book_places, LentBooks, decode_books}
use Rattle.rules.specs.Store.{Store, StoreBytes, Volume, decode_with, decode, head_of, encode_into, image_blocks, lent_books}
use Rattle.rules.specs.Lengths.{image_fits, map_fits, book_fits, buffers_fit, head_length, head_fits, length_wrong, counts_fit}
use Rattle.rules.specs.Integrity.{ordered, packed, fixed_right, times_right, none_empty, no_overlap, on_device, in_files, slots_right, books_keep_rules, books_broken, mapped_right, reserved_right, retired_right, none_past, maps_keep_rules, maps_broken, rule_broken, bytes_keep_rules, records_keep_rules, mapped_blocks, mapped_used, mapped_live, mapped_unreserved}
use Rattle.rules.proofs.ListLaws.{and_left, and_right, and_intro, or-none-left, or-none-right, all_map, all-range-at, all-range-of, all-weaken, Each, each_none, each_more, each-any, each_weaken}
use Rattle.rules.proofs.BitLaws.{length-bit_bytes, bytes-bit_bytes, bit_set-past}
use Rattle.rules.proofs.BookLaws.{pieces-flat_map, length-encode_book, zero-encode_book, bytes-encode_book, length-decode_book}
use Rattle.rules.proofs.HeadLaws.{decode-encode_head, length-encode_head, bytes-encode_head}
use Rattle.rules.proofs.CardLaws.{length-encode_card, bytes-encode_card, spare-encode_card}
use Rattle.rules.proofs.ExtentLaws.{length-encode_extent, bytes-encode_extent, fixed-encode_extent}
use Rattle.rules.proofs.GroupLaws.{length-encode_group, bytes-encode_group, fixed-encode_group, absent-encode_group}
use Rattle.rules.proofs.StoreLaws.{VolumeFits, StoreWhole, decode-encode_into, encode_into-decode, fits-decode}

-- ---- tests in turn

-- a test and others, joined by `&&` from the left
abbrev pub in_turn : Bool → List Bool → Bool
in_turn a [] = a
in_turn a (b ∷ bs) = in_turn (a && b) bs

-- each of them passes
abbrev pub Passed : List Bool → Type 0
Passed [] = Unit {0}
Passed (b ∷ bs) = (b ≡ true) × Passed bs

-- where all pass together each does
pub each-passed : (a : Bool) (bs : List Bool) → in_turn a bs ≡ true → Passed (a ∷ bs)
each-passed a [] h = (h, tt)
each-passed a (b ∷ bs) h =
    let r : Passed ((a && b) ∷ bs) = each-passed (a && b) bs h in
    (and_left a b r.0, (and_right a b r.0, r.1))

-- where each passes all do together
pub all-passed : (a : Bool) (bs : List Bool) → Passed (a ∷ bs) → in_turn a bs ≡ true
all-passed a [] h = h.0
all-passed a (b ∷ bs) h = all-passed (a && b) bs (and_intro a b h.0 h.1.0, h.1.1)

-- a test passes at each element that is known to pass it
pub all-each : {A : Type 0} (f : A → Bool) {xs : List A} → Each (λ x. f x ≡ true) xs → all f xs ≡ true
unfolding all
all-each f each_none = refl
all-each f (each_more {x = x} {xs = xs} p h) = and_intro (f x) (all f xs) p (all-each f h)

-- two tests at once
pub all-and : {A : Type 0} (f g : A → Bool) (xs : List A) → all f xs ≡ true → all g xs ≡ true → all (λ x. f x && g x) xs ≡ true
unfolding all
all-and f g [] p q = refl
all-and f g (x ∷ xs) p q =
    and_intro (f x && g x) (all (λ y. f y && g y) xs) (and_intro (f x) (g x) (and_left (f x) (all f xs) p) (and_left (g x) (all g xs) q))
    (all-and f g xs (and_right (f x) (all f xs) p) (and_right (g x) (all g xs) q))

-- ---- what is told

-- the store passes refusals 1 and 2
pub record Passes (s : Store) : Type 0 where
  pub lengths : length_wrong s ≡ false
  pub rules : rule_broken s ≡ false

-- the rules of refusal 2 that speak of the records and of the sets of blocks
pub record Lawful (v : Volume) : Type 0 where
  pub order : ordered v.books ≡ true
  pub times : times_right v.books ≡ true
  pub filled : none_empty v.books ≡ true
  pub apart : no_overlap v.books ≡ true
  pub device : on_device v.blocks v.books ≡ true
  pub files : in_files v.books ≡ true
  pub mapped : mapped_right v ≡ true
  pub reserved : reserved_right v ≡ true
  pub retired : retired_right v ≡ true
  pub used_past : (n : ℕ) → v.blocks ≤ n → v.used n ≡ false
  pub retired_past : (n : ℕ) → v.blocks ≤ n → v.retired n ≡ false

-- the buffers of the store have room for the volume
pub record Room (s : Store) (v : Volume) : Type 0 where
  pub buffers : buffers_fit s ≡ true
  pub blocks : v.blocks ≡ image_blocks s
  pub image : length v.image ≡ length s.image
  pub reserved : v.reserved ≤ v.blocks
  pub cards : length v.books.cards ≤ book_places card_bytes s.cards
  pub extents : length v.books.extents ≤ book_places extent_bytes s.extents
  pub groups : length v.books.groups ≤ book_places group_bytes s.groups

-- ---- the tests of refusal 1

-- a book of whole records, and no more places than there may be
pub record Sized (w : ℕ) (b : List ℕ) : Type 0 where
  pub whole : length b % w ≡ 0
  pub most : book_places w b ≤ most_places

-- the buffers but for the head have right lengths
pub record BuffersSized (s : Store) : Type 0 where
  pub whole : length s.image % block_bytes ≡ 0
  pub least : 1 ≤ image_blocks s
  pub most : image_blocks s ≤ most_blocks
  pub used : length s.used ≡ map_bytes (image_blocks s)
  pub retired : length s.retired ≡ map_bytes (image_blocks s)
  pub cards : Sized card_bytes s.cards
  pub extents : Sized extent_bytes s.extents
  pub groups : Sized group_bytes s.groups

-- the test of a book says so
sized : (w : ℕ) (b : List ℕ) → book_fits w b ≡ true → Sized w b
unfolding book_fits
sized w b h =
    let t : Passed (eqb (length b % w) 0 ∷ leb (book_places w b) most_places ∷ []) = each-passed (eqb (length b % w) 0) (leb (book_places w b) most_places ∷ []) h in
    record { whole = eqb-true (length b % w) 0 t.0; most = leb-true (book_places w b) most_places t.1.0 }

-- the tests of the buffers say so
pub buffers-sized : (s : Store) → buffers_fit s ≡ true → BuffersSized s
unfolding buffers_fit image_fits map_fits
buffers-sized s h =
    let t = each-passed (image_fits s)
    ((map_fits s s.used && map_fits s s.retired)
    ∷ (book_fits card_bytes s.cards && book_fits extent_bytes s.extents && book_fits group_bytes s.groups)
    ∷ []) h in
    let i = each-passed (eqb (length s.image % block_bytes) 0) (leb 1 (image_blocks s) ∷ leb (image_blocks s) most_blocks ∷ []) t.0 in
    let m = each-passed (map_fits s s.used) (map_fits s s.retired ∷ []) t.1.0 in
    let b = each-passed (book_fits card_bytes s.cards) (book_fits extent_bytes s.extents ∷ book_fits group_bytes s.groups ∷ []) t.1.1.0 in
    record {
      whole = eqb-true (length s.image % block_bytes) 0 i.0;
      least = leb-true 1 (image_blocks s) i.1.0;
      most = leb-true (image_blocks s) most_blocks i.1.1.0;
      used = eqb-true (length s.used) (map_bytes (image_blocks s)) m.0;
      retired = eqb-true (length s.retired) (map_bytes (image_blocks s)) m.1.0;
      cards = sized card_bytes s.cards b.0;
      extents = sized extent_bytes s.extents b.1.0;
      groups = sized group_bytes s.groups b.1.1.0;
    }

-- two stores whose buffers but for the head are of the same lengths
pub record SameLengths (t s : Store) : Type 0 where
  pub image : length t.image ≡ length s.image
  pub cards : length t.cards ≡ length s.cards
  pub extents : length t.extents ≡ length s.extents
  pub groups : length t.groups ≡ length s.groups
  pub used : length t.used ≡ length s.used
  pub retired : length t.retired ≡ length s.retired

-- only the lengths count
pub buffers_fit-same : (t s : Store) → SameLengths t s → buffers_fit t ≡ buffers_fit s
unfolding buffers_fit image_fits map_fits book_fits image_blocks book_places
buffers_fit-same t s e = rw (e.image, e.cards, e.extents, e.groups, e.used, e.retired) refl

-- what a head asks for is there
pub record HeadRoom (s : Store) (h : Head) : Type 0 where
  pub blocks : h.blocks ≡ image_blocks s
  pub cards : h.cards ≤ book_places card_bytes s.cards
  pub extents : h.extents ≤ book_places extent_bytes s.extents
  pub groups : h.groups ≤ book_places group_bytes s.groups
  pub reserved : h.reserved ≤ h.blocks

-- the tests of its numbers of records after the first
abbrev count_tests : Store → Head → List Bool
count_tests s h = leb h.extents (book_places extent_bytes s.extents) ∷ leb h.groups (book_places group_bytes s.groups) ∷ []

-- the tests of a head say so
pub head-room : (s : Store) (h : Head) → head_fits s h ≡ true → counts_fit s h ≡ true → HeadRoom s h
unfolding head_fits counts_fit
head-room s h e c =
    let t = each-passed (eqb h.blocks (image_blocks s)) (leb h.reserved h.blocks ∷ []) e in
    let r = each-passed (leb h.cards (book_places card_bytes s.cards)) (count_tests s h) c in
    record {
      blocks = eqb-true h.blocks (image_blocks s) t.0;
      cards = leb-true h.cards (book_places card_bytes s.cards) r.0;
      extents = leb-true h.extents (book_places extent_bytes s.extents) r.1.0;
      groups = leb-true h.groups (book_places group_bytes s.groups) r.1.1.0;
      reserved = leb-true h.reserved h.blocks t.1.0;
    }

-- and pass where it is so
pub head-fits : (s : Store) (h : Head) → HeadRoom s h → head_fits s h ≡ true
unfolding head_fits
head-fits s h r =
    all-passed (eqb h.blocks (image_blocks s)) (leb h.reserved h.blocks ∷ [])
    (eq-eqb h.blocks (image_blocks s) r.blocks, (le-leb h.reserved h.blocks r.reserved, tt))

-- those of the numbers of records too
pub counts-fit : (s : Store) (h : Head) → HeadRoom s h → counts_fit s h ≡ true
unfolding counts_fit
counts-fit s h r =
    all-passed (leb h.cards (book_places card_bytes s.cards)) (count_tests s h) (
      le-leb h.cards (book_places card_bytes s.cards) r.cards,
      (le-leb h.extents (book_places extent_bytes s.extents) r.extents, (le-leb h.groups (book_places group_bytes s.groups) r.groups, tt)),
    )

-- ---- the tests of refusal 2

-- the tests of the books' records after the first
abbrev record_tests : ℕ → Books → List Bool
record_tests blocks b = times_right b ∷ none_empty b ∷ no_overlap b ∷ on_device blocks b ∷ in_files b ∷ []

-- zeros behind the records of the other books
abbrev zero_tests : LentBooks → List Bool
zero_tests l = zero_behind extent_bytes l.extent_count l.extents ∷ zero_behind group_bytes l.group_count l.groups ∷ []

-- the fixed bytes of the other books
abbrev fixed_tests : LentBooks → List Bool
fixed_tests l = all extent_fixed (pieces extent_bytes l.extent_count l.extents) ∷ all group_fixed (pieces group_bytes l.group_count l.groups) ∷ []

-- the tests of the maps after the first, with those of bits past the last block as one
abbrev map_tests : Volume → Store → List Bool
map_tests v s = reserved_right v ∷ retired_right v ∷ (none_past v.blocks s.used && none_past v.blocks s.retired) ∷ []

-- a block that may be mapped
abbrev pub mappable : Volume → ℕ → Bool
mappable v n = v.used n && not (v.retired n) && leb v.reserved n

-- the three tests of mapped blocks say that each is one
pub mapped-all : (v : Volume) → mapped_right v ≡ true → all (mappable v) (mapped_blocks v.books.extents) ≡ true
unfolding mapped_right mapped_used mapped_live mapped_unreserved
mapped-all v h =
    let bs : List ℕ = mapped_blocks v.books.extents in
    let t = each-passed (all v.used bs) (all (λ n. not (v.retired n)) bs ∷ all (leb v.reserved) bs ∷ []) h in
    all-and (λ n. v.used n && not (v.retired n)) (leb v.reserved) bs (all-and v.used (λ n. not (v.retired n)) bs t.0 t.1.0) t.1.1.0

-- and pass where each is
pub all-mapped : (v : Volume) → all (mappable v) (mapped_blocks v.books.extents) ≡ true → mapped_right v ≡ true
unfolding mapped_right mapped_used mapped_live mapped_unreserved
all-mapped v h =
    let bs : List ℕ = mapped_blocks v.books.extents in
    let both : all (λ n. v.used n && not (v.retired n)) bs ≡ true =
    all-weaken (λ n. v.used n && not (v.retired n)) (mappable v) bs (λ n e. and_left (v.used n && not (v.retired n)) (leb v.reserved n) e) h in
    all-passed (all v.used bs) (all (λ n. not (v.retired n)) bs ∷ all (leb v.reserved) bs ∷ []) (
      all-weaken v.used (λ n. v.used n && not (v.retired n)) bs (λ n e. and_left (v.used n) (not (v.retired n)) e) both,
      (
        all-weaken (λ n. not (v.retired n)) (λ n. v.used n && not (v.retired n)) bs (λ n e. and_right (v.used n) (not (v.retired n)) e) both,
        (all-weaken (leb v.reserved) (mappable v) bs (λ n e. and_right (v.used n && not (v.retired n)) (leb v.reserved n) e) h, tt),
      ),
    )

-- the test of bits past the last block says that none is set
pub none-past : (blocks : ℕ) (map : List ℕ) → none_past blocks map ≡ true → (n : ℕ) → blocks ≤ n → bit_set map n ≡ false
unfolding none_past
none-past blocks map h n l = go (dec_lt n (8 * length map))
  where
    go : Dec (n < 8 * length map) → bit_set map n ≡ false
    go (yes m) =
        let e : blocks + (n - blocks) ≡ n = omega arith in
        not-true (bit_set map n) (rw e at (all-range-at (λ k. not (bit_set map k)) blocks (8 * length map - blocks) h (n - blocks) (omega arith)))
    go (no m) = bit_set-past map n (omega arith)

-- and passes where none is
pub past-none : (blocks : ℕ) (map : List ℕ) → ((n : ℕ) → blocks ≤ n → bit_set map n ≡ false) → none_past blocks map ≡ true
unfolding none_past
past-none blocks map h =
    all-range-of (λ k. not (bit_set map k)) blocks (8 * length map - blocks) (λ i l. ap not (h (blocks + i) (omega arith)))

-- ---- a store that passes

module _ (s : Store) (p : Passes s) where
  -- its lengths
  passed-lengths : Passed (buffers_fit s ∷ head_length s ∷ head_fits s (decode_head s.head) ∷ counts_fit s (decode_head s.head) ∷ [])
  unfolding length_wrong
  passed-lengths =
      let h : Head = decode_head s.head in
      each-passed (buffers_fit s) (head_length s ∷ head_fits s h ∷ counts_fit s h ∷ [])
      (not-false (buffers_fit s && head_length s && head_fits s h && counts_fit s h) p.lengths)

  -- its lengths are right
  pub passes-sized : BuffersSized s
  passes-sized = buffers-sized s passed-lengths.0

  -- its head is 28 bytes
  pub passes-head : length s.head ≡ head_bytes
  unfolding head_length
  passes-head = eqb-true (length s.head) head_bytes passed-lengths.1.0

  -- what its head asks for is there
  pub passes-room : HeadRoom s (decode_head s.head)
  passes-room = head-room s (decode_head s.head) passed-lengths.1.1.0 passed-lengths.1.1.1.0

  -- the rules of its books: on bytes, and on records
  passed-books : (bytes_keep_rules (lent_books (decode_head s.head) s) ≡ true) × (records_keep_rules (decode s).blocks (decode s).books ≡ true)
  unfolding rule_broken books_broken books_keep_rules decode decode_with
  passed-books =
      let h : Head = decode_head s.head in
      let k = not-false (books_keep_rules h.blocks (lent_books h s)) (or-none-left (books_broken s) (maps_broken s) p.rules) in
      let b : Bool = bytes_keep_rules (lent_books h s) in
      let r : Bool = records_keep_rules h.blocks (decode_books (lent_books h s)) in
      (and_left b r k, and_right b r k)

  -- those on bytes, each
  passed-bytes : Passed (packed (lent_books (decode_head s.head) s) ∷ fixed_right (lent_books (decode_head s.head) s) ∷ slots_right (lent_books (decode_head s.head) s) ∷ [])
  unfolding bytes_keep_rules
  passed-bytes =
      let l : LentBooks = lent_books (decode_head s.head) s in
      each-passed (packed l) (fixed_right l ∷ slots_right l ∷ []) passed-books.0

  -- those on records, each
  passed-records : Passed (ordered (decode s).books ∷ record_tests (decode s).blocks (decode s).books)
  unfolding records_keep_rules
  passed-records = each-passed (ordered (decode s).books) (record_tests (decode s).blocks (decode s).books) passed-books.1

  -- the rules of its maps, each
  passed-maps : Passed (mapped_right (decode s) ∷ map_tests (decode s) s)
  unfolding rule_broken maps_broken maps_keep_rules
  passed-maps =
      each-passed (mapped_right (decode s)) (map_tests (decode s) s)
      (not-false (maps_keep_rules (decode s) s) (or-none-right (books_broken s) (maps_broken s) p.rules))

  -- what it says is lawful
  pub lawful-decode : Lawful (decode s)
  lawful-decode =
      let b = passed-records in
      let m = passed-maps in
      let n = each-passed (none_past (decode s).blocks s.used) (none_past (decode s).blocks s.retired ∷ []) m.1.1.1.0 in
      record {
        order = b.0;
        times = b.1.0;
        filled = b.1.1.0;
        apart = b.1.1.1.0;
        device = b.1.1.1.1.0;
        files = b.1.1.1.1.1.0;
        mapped = m.0;
        reserved = m.1.0;
        retired = m.1.1.0;
        used_past = unfold decode decode_with in none-past (decode s).blocks s.used n.0;
        retired_past = unfold decode decode_with in none-past (decode s).blocks s.retired n.1.0;
      }

  -- its buffers are whole
  pub passes-whole : StoreBytes s → StoreWhole s
  unfolding packed fixed_right slots_right book_places
  passes-whole b =
      let h : Head = decode_head s.head in
      let r : HeadRoom s h = passes-room in
      let z : BuffersSized s = passes-sized in
      let l : LentBooks = lent_books h s in
      let t = passed-bytes in
      let o = each-passed (zero_behind card_bytes h.cards s.cards) (zero_tests l) t.0 in
      let f = each-passed (all card_spare_zero (pieces card_bytes h.cards s.cards)) (fixed_tests l) t.1.0 in
      record {
        bytes = b;
        head = passes-head;
        cards = record { places = omega (arith, r.cards); zeros = o.0; records = f.0 };
        extents = record { places = omega (arith, r.extents); zeros = o.1.0; records = f.1.0 };
        groups = record {
          places = omega (arith, r.groups);
          zeros = o.1.1.0;
          records = all-and group_fixed absent_zero (pieces group_bytes h.groups s.groups) f.1.1.0 t.1.1.0;
        };
        used = rw r.blocks z.used;
        retired = rw r.blocks z.retired;
      }

  -- its buffers have room for what it says
  pub room-decode : Room s (decode s)
  unfolding decode decode_with decode_books
  room-decode =
      let h : Head = decode_head s.head in
      let r : HeadRoom s h = passes-room in
      record {
        buffers = passed-lengths.0;
        blocks = r.blocks;
        image = refl;
        reserved = r.reserved;
        cards = rw (length-decode_book decode_card card_bytes h.cards s.cards) r.cards;
        extents = rw (length-decode_book decode_extent extent_bytes h.extents s.extents) r.extents;
        groups = rw (length-decode_book decode_group group_bytes h.groups s.groups) r.groups;
      }

  -- the buffers are those that say what they say
  pub encode-after-decode : StoreBytes s → encode_into s (decode s) ≡ s
  encode-after-decode b = encode_into-decode s (passes-whole b)

  -- what they say is in range
  pub decode-fits : StoreBytes s → VolumeFits (decode s)
  decode-fits b = fits-decode s (passes-whole b)

-- ---- the buffers that say a lawful volume

-- they are bytes, whatever the volume is, where its uuid and its image are
pub bytes-encode_into : (s : Store) (v : Volume) → Bytes v.uuid → Bytes v.image → StoreBytes (encode_into s v)
unfolding encode_into encode_map head_of
bytes-encode_into s v u b = record {
  image = b;
  head = bytes-encode_head (head_of v) u;
  cards = bytes-encode_book encode_card (length s.cards) v.books.cards (each-any bytes-encode_card v.books.cards);
  extents = bytes-encode_book encode_extent (length s.extents) v.books.extents (each-any bytes-encode_extent v.books.extents);
  groups = bytes-encode_book encode_group (length s.groups) v.books.groups (each-any bytes-encode_group v.books.groups);
  used = bytes-bit_bytes (map_bytes v.blocks) v.used 0;
  retired = bytes-bit_bytes (map_bytes v.blocks) v.retired 0;
}

-- a test of records' bytes passes at those of a written book where it passes at each record's
all-pieces : {A : Type 0} (encode : A → List ℕ) (w size : ℕ) (f : List ℕ → Bool) {rs : List A} → Each (λ r. length (encode r) ≡ w) rs
    → Each (λ r. f (encode r) ≡ true) rs → all f (pieces w (length rs) (encode_book encode size rs)) ≡ true
unfolding encode_book padded
all-pieces encode w size f {rs} e h = ap (all f) (pieces-flat_map encode w _ e) ∙ all_map f encode rs ∙ all-each (λ r. f (encode r)) h

module _ (s : Store) (v : Volume) (r : Room s v) (f : VolumeFits v) where
  -- the bytes of each card have its width
  wide-cards : Each (λ c. length (encode_card c) ≡ card_bytes) v.books.cards
  wide-cards = each-any length-encode_card v.books.cards

  -- of each extent
  wide-extents : Each (λ e. length (encode_extent e) ≡ extent_bytes) v.books.extents
  wide-extents = each-any length-encode_extent v.books.extents

  -- and of each group
  wide-groups : Each (λ g. length (encode_group g) ≡ group_bytes) v.books.groups
  wide-groups = each_weaken (λ g h. length-encode_group g h.slots) f.groups

  -- the lengths stay
  pub same-lengths : SameLengths (encode_into s v) s
  unfolding encode_into encode_map book_places
  same-lengths =
      let z : BuffersSized s = buffers-sized s r.buffers in
      record {
        image = r.image;
        cards = length-encode_book encode_card card_bytes (length s.cards) v.books.cards wide-cards (omega (arith, r.cards));
        extents = length-encode_book encode_extent extent_bytes (length s.extents) v.books.extents wide-extents (omega (arith, r.extents));
        groups = length-encode_book encode_group group_bytes (length s.groups) v.books.groups wide-groups (omega (arith, r.groups));
        used = length-bit_bytes (map_bytes v.blocks) v.used 0 ∙ ap map_bytes r.blocks ∙ sym z.used;
        retired = length-bit_bytes (map_bytes v.blocks) v.retired 0 ∙ ap map_bytes r.blocks ∙ sym z.retired;
      }

  -- the head that was written is read
  head-is : decode_head (encode_into s v).head ≡ head_of v
  unfolding encode_into
  head-is = decode-encode_head (head_of v) f.head

  -- what it asks for is there
  head-there : HeadRoom (encode_into s v) (head_of v)
  unfolding head_of book_places image_blocks
  head-there =
      let e : SameLengths (encode_into s v) s = same-lengths in
      record {
        blocks = rw e.image r.blocks;
        cards = rw e.cards r.cards;
        extents = rw e.extents r.extents;
        groups = rw e.groups r.groups;
        reserved = r.reserved;
      }

  -- refusal 1 does not come
  pub lengths-encode_into : length_wrong (encode_into s v) ≡ false
  unfolding length_wrong
  lengths-encode_into =
      let t : Store = encode_into s v in
      let b : buffers_fit t ≡ true = buffers_fit-same t s same-lengths ∙ r.buffers in
      let l : head_length t ≡ true = unfold head_length encode_into in eq-eqb (length (encode_head (head_of v))) head_bytes (length-encode_head (head_of v) f.head.uuid_length) in
      let h : head_fits t (decode_head t.head) ≡ true = rw head-is (head-fits t (head_of v) head-there) in
      let c : counts_fit t (decode_head t.head) ≡ true = rw head-is (counts-fit t (head_of v) head-there) in
      ap not (all-passed (buffers_fit t) (head_length t ∷ head_fits t (decode_head t.head) ∷ counts_fit t (decode_head t.head) ∷ []) (b, (l, (h, (c, tt)))))

  -- zeros behind the last record of each book
  packed-encode_into : packed (lent_books (head_of v) (encode_into s v)) ≡ true
  unfolding packed head_of encode_into
  packed-encode_into =
      let l : LentBooks = lent_books (head_of v) (encode_into s v) in
      all-passed (zero_behind card_bytes l.card_count l.cards) (zero_tests l) (
        zero-encode_book encode_card card_bytes (length s.cards) v.books.cards wide-cards,
        (
          zero-encode_book encode_extent extent_bytes (length s.extents) v.books.extents wide-extents,
          (zero-encode_book encode_group group_bytes (length s.groups) v.books.groups wide-groups, tt),
        ),
      )

  -- fixed bytes and spare bits
  fixed-encode_into : fixed_right (lent_books (head_of v) (encode_into s v)) ≡ true
  unfolding fixed_right head_of encode_into
  fixed-encode_into =
      let l : LentBooks = lent_books (head_of v) (encode_into s v) in
      all-passed (all card_spare_zero (pieces card_bytes l.card_count l.cards)) (fixed_tests l) (
        all-pieces encode_card card_bytes (length s.cards) card_spare_zero wide-cards (each_weaken spare-encode_card f.cards),
        (
          all-pieces encode_extent extent_bytes (length s.extents) extent_fixed wide-extents (each-any fixed-encode_extent v.books.extents),
          (all-pieces encode_group group_bytes (length s.groups) group_fixed wide-groups (each-any fixed-encode_group v.books.groups), tt),
        ),
      )

  -- no slot that is not present has a value
  slots-encode_into : slots_right (lent_books (head_of v) (encode_into s v)) ≡ true
  unfolding slots_right head_of encode_into
  slots-encode_into =
      all-pieces encode_group group_bytes (length s.groups) absent_zero wide-groups (each_weaken absent-encode_group f.groups)

  -- the bytes keep the rules on them
  bytes-keep : bytes_keep_rules (lent_books (head_of v) (encode_into s v)) ≡ true
  unfolding bytes_keep_rules
  bytes-keep =
      let l : LentBooks = lent_books (head_of v) (encode_into s v) in
      all-passed (packed l) (fixed_right l ∷ slots_right l ∷ []) (packed-encode_into, (fixed-encode_into, (slots-encode_into, tt)))

  -- the records of a lawful volume keep the rules on them
  records-keep : Lawful v → records_keep_rules (head_of v).blocks v.books ≡ true
  unfolding records_keep_rules head_of
  records-keep l =
      all-passed (ordered v.books) (record_tests v.blocks v.books) (l.order, (l.times, (l.filled, (l.apart, (l.device, (l.files, tt))))))

  -- so the books keep the rules
  books-encode_into : Lawful v → books_broken (encode_into s v) ≡ false
  unfolding books_broken books_keep_rules
  books-encode_into l =
      let t : Store = encode_into s v in
      let b : decode_books (lent_books (decode_head t.head) t) ≡ v.books = unfold decode decode_with in ap (λ (w : Volume). w.books) (decode-encode_into s v f) in
      let k : books_keep_rules (decode_head t.head).blocks (lent_books (decode_head t.head) t) ≡ true =
      rw (b, head-is) (and_intro (bytes_keep_rules (lent_books (head_of v) t)) (records_keep_rules (head_of v).blocks v.books) bytes-keep (records-keep l)) in
      ap not k

  -- no bit of its maps is set past the last block
  past-encode_into : Lawful v → (none_past v.blocks (encode_into s v).used && none_past v.blocks (encode_into s v).retired) ≡ true
  unfolding decode decode_with
  past-encode_into l =
      let t : Store = encode_into s v in
      let e : decode t ≡ v = decode-encode_into s v f in
      and_intro (none_past v.blocks t.used) (none_past v.blocks t.retired)
      (past-none v.blocks t.used (λ n m. ap (λ (w : Volume). w.used n) e ∙ l.used_past n m))
      (past-none v.blocks t.retired (λ n m. ap (λ (w : Volume). w.retired n) e ∙ l.retired_past n m))

  -- its sets keep the rules of the maps
  maps-encode_into : Lawful v → maps_broken (encode_into s v) ≡ false
  unfolding maps_broken maps_keep_rules
  maps-encode_into l =
      let t : Store = encode_into s v in
      let k : maps_keep_rules v t ≡ true =
      all-passed (mapped_right v) (map_tests v t) (l.mapped, (l.reserved, (l.retired, (past-encode_into l, tt)))) in
      let m : maps_keep_rules (decode t) t ≡ true = rw (decode-encode_into s v f) k in
      ap not m

  -- so refusals 1 and 2 do not come
  pub passes-encode_into : Lawful v → Passes (encode_into s v)
  unfolding rule_broken
  passes-encode_into l = record {
    lengths = lengths-encode_into;
    rules = ap (λ (b : Bool). b || maps_broken (encode_into s v)) (books-encode_into l) ∙ maps-encode_into l;
  }

-- a store of bytes that passes refusals 1 and 2 and says this volume
pub record Says (s : Store) (v : Volume) : Type 0 where
  pub bytes : StoreBytes s
  pub passes : Passes s
  pub volume : decode s ≡ v

-- such is the store that a call leaves
pub says-encode_into : (s : Store) (v : Volume) → Room s v → VolumeFits v → Lawful v → Bytes v.image → Says (encode_into s v) v
says-encode_into s v r f l b = record {
  bytes = bytes-encode_into s v (unfold head_of in f.head.uuid) b;
  passes = passes-encode_into s v r f l;
  volume = decode-encode_into s v f;
}
