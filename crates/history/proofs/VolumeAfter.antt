-- The volume that a change leaves is lawful and in range, and has room in the buffers: so the store that is left says it.
-- Assumes nothing.
use mathlib.Core.Path.{◌≡◌, sym, ap, ◌∙◌}
use mathlib.Core.List.{List, [], ◌∷◌, map, flat_map}
use mathlib.Core.Bool.{true, ◌&&◌}
use mathlib.Core.Option.{some}
use Prim.Native.Nat.{ℕ, ◌+◌, ◌*◌, ◌^◌, ◌≤◌, ◌<◌}
use native.Mathlib.Nat.{pow-suc}
use native.Mathlib.Omega.{arith}
use lib.Dec.{eqb, leb}
use lib.ListN.{length, get_or}
use borrow.Author.Tests.{eqb-true, leb-true, le-leb}
use Rattle.rules.specs.Time.{Time}
use Rattle.rules.specs.Book.{book_places}
use Rattle.rules.specs.Lists.{given, all, count, ascending, begun}
use Rattle.rules.specs.Sizes.{block_bytes, unit_blocks, most_blocks, most_size, most_allocated}
use Rattle.rules.specs.Bytes.{Bytes}
use Rattle.rules.specs.Card.{Card, decode_card, card_before}
use Rattle.rules.specs.Extent.{Extent, extent_bytes, extent_before, extent_end}
use Rattle.rules.specs.Group.{group_bytes, group_before}
use Rattle.rules.specs.Map.{map_bytes}
use Rattle.rules.specs.Checksum.{unit_checksum}
use Rattle.rules.specs.Crc32c.{from_bits, complement, message, dividend, divide, crc32c}
use Rattle.rules.specs.Store.{Store, Volume, head_of, encode_into, card_of}
use Rattle.rules.specs.Integrity.{ordered, times_right, none_empty, no_overlap, on_device, in_file, in_files}
use Rattle.rules.specs.Units.{Change, valid_length}
use Rattle.rules.specs.Rewrite.{Progress, Rewritten}
use Rattle.rules.specs.Finish.{finished_cards, finished_extents, finished_groups, finished}
use Rattle.rules.proofs.ListLaws.{and_left, and_right, and_intro, all-weaken, any-index, find-given, find-passes, find-mem, Each, each_at, each_all, each_both, each_map, each-any, each_weaken}
use Rattle.rules.proofs.DivisionLaws.{crc-divides}
use Rattle.rules.proofs.CardLaws.{CardFits}
use Rattle.rules.proofs.ExtentLaws.{ExtentFits}
use Rattle.rules.proofs.StoreLaws.{VolumeFits}
use Rattle.rules.proofs.PassLaws.{each-passed, all-passed, Lawful, Room, buffers-sized, Says, says-encode_into}
use Rattle.rules.proofs.EnterLaws.{TimeRight}
use Rattle.rules.specs.Demand.{places_of}
use Rattle.history.proofs.ExtentsAfter.{device-after, files-after}
use Rattle.history.proofs.RunLaws.{single}
use Rattle.history.proofs.ImageAfter.{length-finished_image}
use Rattle.history.proofs.GroupsAfter.{ascending-finished, fits-finished}
use Rattle.history.proofs.CardsAfter.{card-only, card_after, cards-are, size-mine, object-after, found_after, cards-order, cards-length, cards-times, cards-fit, file-stays}
use Rattle.history.proofs.PlannedLaws.{Made, made-blocks}
use Rattle.history.proofs.AfterUnits.{Carrying, laid-all, apart-old, apart-new}
use Rattle.history.proofs.BlocksAfter.{each-new_places, new-sited, mapped-after-right, reserved-after, retired-after, used-past, retired-past}
use Rattle.history.proofs.MoreLists.{any-each, each-mem}

-- ---- checksums

-- 32 coefficients are a number of 32 bits
bits_below : (ps : List ℕ) → from_bits (map complement ps) < 2 ^ length ps
unfolding from_bits complement
bits_below [] = omega arith
bits_below (p ∷ ps) = omega (arith, bits_below ps, pow-suc 2 (length ps))

-- a checksum is a number of 32 bits
checksum-below : (uuid : List ℕ) (object unit : ℕ) (bytes : List ℕ) → unit_checksum uuid object unit bytes < 2 ^ 32
unfolding unit_checksum crc32c
checksum-below uuid object unit bytes = go _
  where
    go : (m : List ℕ) → from_bits (map complement (divide (length (message m)) (dividend (message m)))) < 2 ^ 32
    go m = rw (crc-divides m).short at (bits_below (divide (length (message m)) (dividend (message m))))

-- ---- the volume

-- an extent that lies in a file with a card in range, and on a device of at most 65,536 blocks, is in range
extent-fits : {cards : List Card} → Each CardFits cards → (n : ℕ) → n ≤ most_blocks → (e : Extent) → in_file cards e ≡ true → e.physical + e.count ≤ n → ExtentFits e
unfolding in_file extent_end
extent-fits {cards} f n m e t l =
    let d : Card = decode_card [] in
    let i = any-index (λ c. eqb c.object e.object && leb (e.logical + e.count) (begun c.size block_bytes)) cards d t in
    let c : Card = get_or cards i.0 d in
    let k : CardFits c = each_at f i.0 d i.1 in
    let q : c.object ≡ e.object = eqb-true c.object e.object (and_left (eqb c.object e.object) (leb (e.logical + e.count) (begun c.size block_bytes)) i.2) in
    let b : e.logical + e.count ≤ begun c.size block_bytes = leb-true (e.logical + e.count) (begun c.size block_bytes) (and_right (eqb c.object e.object) (leb (e.logical + e.count) (begun c.size block_bytes)) i.2) in
    record { object = omega (arith, k.object, q); logical = omega (arith, k.size, b); physical = omega (arith, l, m); count = omega (arith, l, m) }

-- what is known of the call besides: the file's card, the time, and what the units leave
pub record CallRight (v : Volume) (c : Change) (card : Card) (q : Progress) (time : Time) : Type 0 where
  pub known : card_of v c.object ≡ some card
  pub size : card.size ≡ c.old_size
  pub longer : c.old_size ≤ c.new_size
  pub end : c.new_size ≤ most_size
  pub timely : TimeRight time
  pub fits : VolumeFits v
  pub few : v.blocks ≤ most_blocks
  pub most : q.allocated ≤ most_allocated
  pub hint : q.hint < 4

module _ {v : Volume} {c : Change} {card : Card} {rs : List Rewritten} {q : Progress} {time : Time} (d : Carrying v c rs) (k : CallRight v c card q time) where
  -- the volume that is left
  abbrev after-all : Volume
  after-all = finished c time rs q v

  -- the cards that are left
  abbrev after-cards : List Card
  after-cards = finished_cards c q.allocated time v.books.cards

  -- a card after the change
  abbrev moved : Card → Card
  moved = card_after c q.allocated time

  -- the extents that are left
  abbrev after-extents : List Extent
  after-extents = finished_extents c.object rs v.books.extents

  -- the books were in order
  in-order-before : (ascending card_before v.books.cards ≡ true) × (ascending group_before v.books.groups ≡ true)
  unfolding ordered
  in-order-before =
      let o = each-passed (ascending card_before v.books.cards) (ascending extent_before v.books.extents ∷ ascending group_before v.books.groups ∷ []) d.lawful.order in
      (o.0, o.1.1.0)

  -- the file's card is its only one
  pub only-card : Each (λ x. x.object ≡ c.object → x ≡ card) v.books.cards
  only-card = card-only c.object card v.books.cards in-order-before.0 (unfold card_of in k.known)

  -- no file gets shorter
  longer : Each (λ x. x.object ≡ c.object → x.size ≤ c.new_size) v.books.cards
  longer = each_weaken (λ x h e. let z : x.size ≡ card.size = ap (λ (y : Card). y.size) (h e) in omega (arith, z, k.size, k.longer)) only-card

  -- a new place lies in the file
  place_in : (r : Rewritten) → Made v c r → (i : ℕ) → i < length r.blocks
      → in_file after-cards (single (record { object = c.object; logical = r.unit * unit_blocks + i; block = get_or r.blocks i 0 })) ≡ true
  unfolding in_file extent_end
  place_in r m i l =
      any-each (λ x. eqb x.object c.object && leb (r.unit * unit_blocks + i + 1) (begun x.size block_bytes)) (λ x. eqb x.object c.object)
      (rw (cards-are c q.allocated time v.books.cards) (each_map (moved) (each-any one v.books.cards)))
      (sym (find-given (λ x. eqb x.object c.object) after-cards)
      ∙ (unfold given in ap given (found_after c q.allocated time c.object v.books.cards card (unfold card_of in k.known))))
    where
      ends : r.unit * unit_blocks + i + 1 ≤ begun c.new_size block_bytes
      ends = unfold valid_length in omega (arith, l, made-blocks m)

      one : (x : Card) → eqb (moved x).object c.object ≡ true
          → (eqb (moved x).object c.object && leb (r.unit * unit_blocks + i + 1) (begun (moved x).size block_bytes)) ≡ true
      one x t =
          let e : x.object ≡ c.object = sym (object-after c q.allocated time x) ∙ eqb-true (moved x).object c.object t in
          let z : (moved x).size ≡ c.new_size = size-mine c q.allocated time x e in
          and_intro (eqb (moved x).object c.object) (leb (r.unit * unit_blocks + i + 1) (begun (moved x).size block_bytes)) t
          (rw z (le-leb (r.unit * unit_blocks + i + 1) (begun c.new_size block_bytes) ends))

  -- its extents lie in their files
  files-in : all (in_file after-cards) after-extents ≡ true
  files-in =
      files-after after-cards c.object rs v.books.extents (apart-old d)
      (all-weaken (in_file after-cards) (in_file v.books.cards) v.books.extents (file-stays c q.allocated time longer) (unfold in_files in d.lawful.files))
      (each-new_places c.object (each_weaken (λ r m i l. place_in r m i l) d.made))

  -- and on the device
  device-in : all (λ e. leb (e.physical + e.count) v.blocks) after-extents ≡ true
  device-in = device-after v.blocks c.object rs v.books.extents (apart-old d) (unfold on_device in d.lawful.device) (each_weaken (λ x s. s.below) (new-sited d))

  -- the volume that is left is lawful, where each block was at one place at most
  lawful-after : ((b : ℕ) → b < v.blocks → count (λ x. eqb x.block b) (flat_map places_of v.books.extents) ≤ 1) → Lawful after-all
  unfolding finished ordered times_right none_empty no_overlap on_device in_files
  lawful-after one = record {
    order = all-passed (ascending card_before after-cards) (ascending extent_before after-extents ∷ ascending group_before (finished_groups c.object rs v.books.groups) ∷ [])
        (cards-order c q.allocated time v.books.cards in-order-before.0, ((apart-new d).order, (ascending-finished c.object rs v.books.groups in-order-before.1, tt)));
    times = cards-times c q.allocated time k.timely.part v.books.cards d.lawful.times;
    filled = (apart-new d).filled;
    apart = (apart-new d).apart;
    device = device-in;
    files = files-in;
    mapped = mapped-after-right d time q one;
    reserved = reserved-after d time q;
    retired = retired-after d time q;
    used_past = used-past d;
    retired_past = retired-past d;
  }

  -- its cards are in range
  cards-in : Each CardFits after-cards
  cards-in =
      cards-fit c q.allocated time (omega (arith, k.end)) (omega (arith, k.most)) (omega (arith, k.timely.early)) (omega (arith, k.timely.part))
      v.books.cards k.fits.cards

  -- the file's object is in range
  object-in : c.object < 2 ^ 64
  object-in =
      let m = find-mem (λ x. eqb x.object c.object) v.books.cards card (unfold card_of in k.known) in
      let e = find-passes (λ x. eqb x.object c.object) v.books.cards card (unfold card_of in k.known) in
      omega (arith, (each-mem k.fits.cards m).object, eqb-true card.object c.object e)

  -- all is in range, where the books are short enough
  fits_after : length after-extents < 2 ^ 20 → length (finished_groups c.object rs v.books.groups) < 2 ^ 20 → VolumeFits after-all
  unfolding finished head_of
  fits_after le lg =
      let h = k.fits.head in
      record {
        head = record {
          uuid_length = h.uuid_length;
          uuid = h.uuid;
          blocks = h.blocks;
          reserved = h.reserved;
          hint = k.hint;
          cards = rw (cards-length c q.allocated time v.books.cards) h.cards;
          extents = le;
          groups = lg;
        };
        cards = cards-in;
        extents = each_both (λ e t l. extent-fits cards-in v.blocks k.few e t l) (each_all (in_file after-cards) (λ e t. t) after-extents files-in)
            (each_all (λ e. leb (e.physical + e.count) v.blocks) (λ e t. leb-true (e.physical + e.count) v.blocks t) after-extents device-in);
        groups = fits-finished c.object object-in (each_weaken unit-in d.made) v.books.groups k.fits.groups;
        used = λ n l. used-past d n (unfold map_bytes in omega (arith, l));
        retired = λ n l. retired-past d n (unfold map_bytes in omega (arith, l));
      }
    where
      unit-in : (r : Rewritten) → Made v c r → (r.unit < 2 ^ 64) × (r.checksum < 2 ^ 32)
      unit-in r m = (omega (arith, m.inside, k.end), rw m.placed.checksum (checksum-below v.uuid c.object r.unit r.bytes))

  -- there is room for it
  room_after : (s : Store) → Room s v → length after-extents ≤ book_places extent_bytes s.extents → length (finished_groups c.object rs v.books.groups) ≤ book_places group_bytes s.groups → Room s after-all
  unfolding finished
  room_after s r le lg = record {
    buffers = r.buffers;
    blocks = r.blocks;
    image = length-finished_image v.blocks (laid-all d) v.image d.image ∙ r.image;
    reserved = r.reserved;
    cards = rw (cards-length c q.allocated time v.books.cards) r.cards;
    extents = le;
    groups = lg;
  }

  -- so the store that is left says it
  pub says-after : (s : Store) → Room s v → Bytes after-all.image → ((b : ℕ) → b < v.blocks → count (λ x. eqb x.block b) (flat_map places_of v.books.extents) ≤ 1)
      → length after-extents ≤ book_places extent_bytes s.extents → length (finished_groups c.object rs v.books.groups) ≤ book_places group_bytes s.groups → Says (encode_into s after-all) after-all
  says-after s r b one le lg =
      let z = buffers-sized s r.buffers in
      says-encode_into s after-all (room_after s r le lg) (fits_after (omega (arith, le, z.extents.most)) (omega (arith, lg, z.groups.most))) (lawful-after one) b
