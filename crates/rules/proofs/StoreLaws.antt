-- The two views of a store: what its buffers say is what was written, and the other way round.
-- Assumes nothing.
use mathlib.Core.Path.{◌≡◌, refl, sym, ap, ◌∙◌, fun_ext}
use mathlib.Core.List.{List}
use mathlib.Core.Bool.{Bool, true, false, ◌&&◌}
use Prim.Native.Nat.{ℕ, ◌*◌, ◌≤◌, ◌<◌}
use native.Mathlib.Nat.{zero-add}
use native.Mathlib.Decide.{dec_lt}
use native.Mathlib.Omega.{arith}
use lib.ListN.{length}
use Rattle.rules.specs.Bytes.{Bytes, bit_set, bit_bytes}
use Rattle.rules.specs.Head.{Head, head_bytes, decode_head, encode_head}
use Rattle.rules.specs.Card.{card_bytes, decode_card, encode_card, card_spare_zero}
use Rattle.rules.specs.Extent.{extent_bytes, decode_extent, encode_extent, extent_fixed}
use Rattle.rules.specs.Group.{group_bytes, decode_group, encode_group, group_fixed, absent_zero}
use Rattle.rules.specs.Map.{map_bytes, encode_map}
use Rattle.rules.specs.Book.{decode_book, encode_book, decode_books}
use Rattle.rules.specs.Store.{Store, StoreBytes, Volume, decode_with, decode, head_of, encode_into, lent_books}
use Rattle.rules.proofs.ListLaws.{Each, each_weaken, and_left, and_right}
use Rattle.rules.proofs.BitLaws.{length-bit_bytes, bit_set-bit_bytes, bit_set-past, bit_bytes-bit_set}
use Rattle.rules.proofs.BookLaws.{Whole, encode-whole, decode-encode_book, length-decode_book, each-decode_book}
use Rattle.rules.proofs.HeadLaws.{HeadFits, decode-encode_head, encode-decode_head, fits-decode_head}
use Rattle.rules.proofs.CardLaws.{CardFits, codes-card, encode-decode_card, fits-decode_card}
use Rattle.rules.proofs.ExtentLaws.{ExtentFits, codes-extent, encode-decode_extent, fits-decode_extent}
use Rattle.rules.proofs.GroupLaws.{GroupFits, codes-group, encode-decode_group, fits-decode_group}

-- ---- maps

-- the blocks that were written into a map are read, where none stands past the map's end
pub bit_set-encode_map : (blocks : ℕ) (f : ℕ → Bool) → ((n : ℕ) → 8 * map_bytes blocks ≤ n → f n ≡ false) → bit_set (encode_map blocks f) ≡ f
unfolding encode_map
bit_set-encode_map blocks f h = fun_ext (λ n. go n (dec_lt n (8 * map_bytes blocks)))
  where
    go : (n : ℕ) → Dec (n < 8 * map_bytes blocks) → bit_set (bit_bytes (map_bytes blocks) f 0) n ≡ f n
    go n (yes l) = bit_set-bit_bytes (map_bytes blocks) f 0 n l ∙ ap f (zero-add n)
    go n (no l) =
        let e : length (bit_bytes (map_bytes blocks) f 0) ≡ map_bytes blocks = length-bit_bytes (map_bytes blocks) f 0 in
        bit_set-past (bit_bytes (map_bytes blocks) f 0) n (rw e (omega arith)) ∙ sym (h n (omega arith))

-- the bytes of a map that were read are written
pub encode_map-bit_set : (blocks : ℕ) (s : List ℕ) → length s ≡ map_bytes blocks → Bytes s → encode_map blocks (bit_set s) ≡ s
unfolding encode_map
encode_map-bit_set blocks s e b = rw (← e) (bit_bytes-bit_set s b)

-- ---- the store

-- every number of the volume is in its range, and no block past the maps is used or retired
pub record VolumeFits (v : Volume) : Type 0 where
  pub head : HeadFits (head_of v)
  pub cards : Each CardFits v.books.cards
  pub extents : Each ExtentFits v.books.extents
  pub groups : Each GroupFits v.books.groups
  pub used : (n : ℕ) → 8 * map_bytes v.blocks ≤ n → v.used n ≡ false
  pub retired : (n : ℕ) → 8 * map_bytes v.blocks ≤ n → v.retired n ≡ false

-- its books that were written are read
books-encode_into : (s : Store) (v : Volume) → VolumeFits v → decode_books (lent_books (head_of v) (encode_into s v)) ≡ v.books
unfolding decode_books head_of encode_into
books-encode_into s v f =
    let c : decode_book decode_card card_bytes (length v.books.cards) (encode_book encode_card (length s.cards) v.books.cards) ≡ v.books.cards =
    decode-encode_book encode_card decode_card card_bytes (length s.cards) v.books.cards (each_weaken codes-card f.cards) in
    let e : decode_book decode_extent extent_bytes (length v.books.extents) (encode_book encode_extent (length s.extents) v.books.extents) ≡ v.books.extents =
    decode-encode_book encode_extent decode_extent extent_bytes (length s.extents) v.books.extents (each_weaken codes-extent f.extents) in
    let g : decode_book decode_group group_bytes (length v.books.groups) (encode_book encode_group (length s.groups) v.books.groups) ≡ v.books.groups =
    decode-encode_book encode_group decode_group group_bytes (length s.groups) v.books.groups (each_weaken codes-group f.groups) in
    λ i. record { cards = c i; extents = e i; groups = g i }

-- with its own head it is read
with-head : (s : Store) (v : Volume) → VolumeFits v → decode_with (head_of v) (encode_into s v) ≡ v
unfolding decode_with head_of
with-head s v f =
    let b : decode_books (lent_books (head_of v) (encode_into s v)) ≡ v.books = books-encode_into s v f in
    let u : bit_set (encode_into s v).used ≡ v.used = unfold encode_into in bit_set-encode_map v.blocks v.used f.used in
    let r : bit_set (encode_into s v).retired ≡ v.retired = unfold encode_into in bit_set-encode_map v.blocks v.retired f.retired in
    let m : (encode_into s v).image ≡ v.image = unfold encode_into in refl in
    λ i. record { uuid = v.uuid; blocks = v.blocks; reserved = v.reserved; hint = v.hint; books = b i; used = u i; retired = r i; image = m i }

-- the volume that was written is read, whatever the sizes of the books
pub decode-encode_into : (s : Store) (v : Volume) → VolumeFits v → decode (encode_into s v) ≡ v
unfolding decode
decode-encode_into s v f =
    let h : decode_head (encode_into s v).head ≡ head_of v = unfold encode_into in decode-encode_head (head_of v) f.head in
    ap (λ (x : Head). decode_with x (encode_into s v)) h ∙ with-head s v f

-- the buffers are whole: their lengths are those that the head asks for, and fixed bytes, spare bits and what is past the last record are right
pub record StoreWhole (s : Store) : Type 0 where
  pub bytes : StoreBytes s
  pub head : length s.head ≡ head_bytes
  pub cards : Whole card_bytes (decode_head s.head).cards card_spare_zero s.cards
  pub extents : Whole extent_bytes (decode_head s.head).extents extent_fixed s.extents
  pub groups : Whole group_bytes (decode_head s.head).groups (λ p. group_fixed p && absent_zero p) s.groups
  pub used : length s.used ≡ map_bytes (decode_head s.head).blocks
  pub retired : length s.retired ≡ map_bytes (decode_head s.head).blocks

-- the head of what the buffers say is what the head says
head_of-decode : (s : Store) → head_of (decode s) ≡ decode_head s.head
unfolding head_of decode decode_with decode_books
head_of-decode s =
    let h : Head = decode_head s.head in
    let c : length (decode_book decode_card card_bytes h.cards s.cards) ≡ h.cards = length-decode_book decode_card card_bytes h.cards s.cards in
    let e : length (decode_book decode_extent extent_bytes h.extents s.extents) ≡ h.extents = length-decode_book decode_extent extent_bytes h.extents s.extents in
    let g : length (decode_book decode_group group_bytes h.groups s.groups) ≡ h.groups = length-decode_book decode_group group_bytes h.groups s.groups in
    λ i. record { uuid = h.uuid; blocks = h.blocks; reserved = h.reserved; hint = h.hint; cards = c i; extents = e i; groups = g i }

-- a group's bytes that pass both tests
both-tests : (p : List ℕ) → length p ≡ group_bytes → Bytes p → (group_fixed p && absent_zero p) ≡ true → encode_group (decode_group p) ≡ p
both-tests p l b e = encode-decode_group p l b (and_left (group_fixed p) (absent_zero p) e) (and_right (group_fixed p) (absent_zero p) e)

-- the buffers that were read are written
pub encode_into-decode : (s : Store) → StoreWhole s → encode_into s (decode s) ≡ s
unfolding encode_into
encode_into-decode s f =
    let h : Head = decode_head s.head in
    let b : StoreBytes s = f.bytes in
    let d : encode_head (head_of (decode s)) ≡ s.head = ap encode_head (head_of-decode s) ∙ encode-decode_head s.head f.head b.head in
    let c : encode_book encode_card (length s.cards) (decode s).books.cards ≡ s.cards =
    unfold decode decode_with decode_books in encode-whole encode_card decode_card card_bytes h.cards card_spare_zero s.cards encode-decode_card f.cards b.cards in
    let e : encode_book encode_extent (length s.extents) (decode s).books.extents ≡ s.extents =
    unfold decode decode_with decode_books in encode-whole encode_extent decode_extent extent_bytes h.extents extent_fixed s.extents encode-decode_extent f.extents b.extents in
    let g : encode_book encode_group (length s.groups) (decode s).books.groups ≡ s.groups =
    unfold decode decode_with decode_books in encode-whole encode_group decode_group group_bytes h.groups (λ p. group_fixed p && absent_zero p) s.groups both-tests f.groups b.groups in
    let u : encode_map (decode s).blocks (decode s).used ≡ s.used = unfold decode decode_with in encode_map-bit_set h.blocks s.used f.used b.used in
    let r : encode_map (decode s).blocks (decode s).retired ≡ s.retired = unfold decode decode_with in encode_map-bit_set h.blocks s.retired f.retired b.retired in
    let m : (decode s).image ≡ s.image = unfold decode decode_with in refl in
    λ i. record { image = m i; head = d i; cards = c i; extents = e i; groups = g i; used = u i; retired = r i }

-- what whole buffers say is in range
pub fits-decode : (s : Store) → StoreWhole s → VolumeFits (decode s)
unfolding decode decode_with decode_books
fits-decode s f =
    let h : Head = decode_head s.head in
    let b : StoreBytes s = f.bytes in
    record {
      head = rw (sym (head_of-decode s)) at (fits-decode_head s.head f.head b.head);
      cards = each-decode_book decode_card card_bytes (λ p e c. fits-decode_card p) h.cards s.cards f.cards.places b.cards;
      extents = each-decode_book decode_extent extent_bytes fits-decode_extent h.extents s.extents f.extents.places b.extents;
      groups = each-decode_book decode_group group_bytes fits-decode_group h.groups s.groups f.groups.places b.groups;
      used = λ n l. bit_set-past s.used n (rw f.used l);
      retired = λ n l. bit_set-past s.retired n (rw f.retired l);
    }
