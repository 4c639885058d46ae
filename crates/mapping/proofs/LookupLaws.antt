-- The lookups are those of the rules, and a store that refusals 1 and 2 pass has what they ask for.
-- Assumes nothing.
use mathlib.Core.Path.{◌≡◌, refl}
use mathlib.Core.List.{List, map}
use Prim.Native.Nat.{ℕ, ◌+◌, ◌*◌, ◌≤◌}
use native.Mathlib.Omega.{arith}
use borrow.Author.Tests.{leb-true, le-leb}
use lib.Dec.{leb}
use lib.ListN.{length}
use Rattle.rules.specs.Lists.{range}
use Rattle.rules.specs.Sizes.{block_bytes, unit_blocks, most_blocks}
use Rattle.rules.specs.Head.{decode_head}
use Rattle.rules.specs.Extent.{mapping}
use Rattle.rules.specs.Group.{group_bytes, decode_group}
use Rattle.rules.specs.Book.{decode_book, decode_books, book_places}
use Rattle.rules.specs.Store.{Store, Volume, decode_with, decode, image_blocks}
use Rattle.rules.specs.Integrity.{on_device}
use Rattle.rules.specs.Inspect.{checksum_of, unit_mapping}
use Rattle.rules.specs.Finish.{is_group}
use Rattle.rules.proofs.ListLaws.{all-weaken}
use Rattle.rules.proofs.PassLaws.{Passes, BuffersSized, HeadRoom, passes-sized, passes-room, lawful-decode}
use Rattle.history.proofs.Rewritten.{Apart, apart-lawful}
use Rattle.mapping.specs.Entries.{extents_in, ExtentsRight, slot_of}

-- ---- the lookups of the rules

module _ (v : Volume) (object unit : ℕ) where
  -- the checksum of a unit
  pub checksum-slot : checksum_of v object unit ≡ slot_of v.books.groups object unit
  unfolding checksum_of slot_of is_group
  checksum-slot = refl

  -- where its first n blocks are
  pub unit-mapping : (n : ℕ) → unit_mapping v object unit n ≡ map (mapping v.books.extents object) (range (unit * unit_blocks) n)
  unfolding unit_mapping
  unit-mapping n = refl

-- ---- the books of a store

module _ (s : Store) where
  -- the extents that it says
  pub decode-extents : (decode s).books.extents ≡ extents_in (decode_head s.head).extents s.extents
  unfolding decode decode_with decode_books
  decode-extents = refl

  -- its groups
  pub decode-groups : (decode s).books.groups ≡ decode_book decode_group group_bytes (decode_head s.head).groups s.groups
  unfolding decode decode_with decode_books
  decode-groups = refl

-- a book on a device is one on a larger device too
pub extents-wider : {d n : ℕ} {book : List ℕ} → ExtentsRight d n book → ExtentsRight most_blocks n book
extents-wider {d} {n} {book} r = record {
  places = r.places;
  few = r.few;
  order = r.order;
  filled = r.filled;
  apart = r.apart;
  device = all-weaken (λ e. leb (e.physical + e.count) most_blocks) (λ e. leb (e.physical + e.count) d) (extents_in n book)
      (λ e t. let l : e.physical + e.count ≤ d = leb-true _ _ t in le-leb (e.physical + e.count) most_blocks (omega (arith, r.most))) r.device;
  most = omega arith;
}

module _ (s : Store) (p : Passes s) where
  -- its device is the image
  pub passes-image : (decode s).blocks * block_bytes ≤ length s.image
  unfolding decode decode_with image_blocks
  passes-image = omega (arith, (passes-room s p).blocks)

  -- its extents keep their rules on it
  pub passes-extents : ExtentsRight (decode s).blocks (decode_head s.head).extents s.extents
  unfolding decode decode_with decode_books on_device book_places
  passes-extents =
      let a : Apart (decode s).books.extents = apart-lawful (decode s) (lawful-decode s p) in
      let r : HeadRoom s (decode_head s.head) = passes-room s p in
      let z : BuffersSized s = passes-sized s p in
      record {
        places = omega (arith, r.extents);
        few = omega (arith, r.extents, z.extents.most);
        order = a.order;
        filled = a.filled;
        apart = a.apart;
        device = (lawful-decode s p).device;
        most = omega (arith, r.blocks, z.most);
      }

  -- and so on a device of the most blocks
  pub passes-extents-most : ExtentsRight most_blocks (decode_head s.head).extents s.extents
  passes-extents-most = extents-wider passes-extents

  -- its groups have their places
  pub passes-groups : group_bytes * (decode_head s.head).groups ≤ length s.groups
  unfolding book_places
  passes-groups = omega (arith, (passes-room s p).groups)
