-- Laws of the reads into the pieces of a buffer: the blocks in hand, one piece, and the pieces so far.
-- Assumes nothing.
use mathlib.Core.Path.{◌≡◌, refl, sym, ap, ◌∙◌}
use mathlib.Core.Bool.{Bool, true, ◌&&◌}
use mathlib.Core.List.{List, ◌++◌, map, append_assoc}
use Prim.Native.Nat.{ℕ, ◌+◌, ◌-◌, ◌*◌, ◌/◌, ◌%◌, ◌≤◌, ◌<◌}
use native.Mathlib.Omega.{arith}
use borrow.Author.Tests.{eqb-true, leb-true}
use borrow.Rule.Slice.PartMut.{put_mid, same_len_mid}
use lib.Dec.{eqb, leb}
use lib.ListN.{length, take, drop, get_or, length-drop, take-append-drop}
use lib.Seq.{length-take-le, take-take, take_at, drop_at, take-append-add, drop-drop, get_or-drop}
use Rattle.rules.specs.Lists.{range, begun}
use Rattle.rules.specs.Sizes.{block_bytes, unit_blocks, unit_bytes}
use Rattle.rules.specs.Bytes.{part}
use Rattle.rules.specs.Extent.{mapping}
use Rattle.rules.specs.Triples.{Triple, triple_bytes, decode_triples, lengths_of}
use Rattle.rules.specs.Read.{read_length}
use Rattle.rules.proofs.ListLaws.{and_left, and_right}
use Rattle.rules.proofs.ByteLaws.{part_none}
use Rattle.mapping.specs.Entries.{entries, Inside, extents_in, ExtentsRight}
use Rattle.mapping.proofs.EntryLaws.{entries-part, mapped-inside}
use Rattle.image.specs.Blocks.{blocks_bytes}
use Rattle.triples.specs.declared.Triple as struct
use Rattle.triples.specs.Triple.{triple_of, triple_at, triples_from}
use Rattle.triples.proofs.TripleLaws.{from_start, from_end, read_here, read-lengths}
use Rattle.pieces.specs.InHand.{most_units, InHand, starts_with}
use Rattle.pieces.specs.Pieces.{unit_bytes_of, piece_of, pieces_of}

-- ---- the blocks in hand

-- there is room for the blocks of a read's units
pub blocks-room : (k : ℕ) (blocks : List ℕ) → k ≤ most_units → length blocks ≡ most_units * unit_blocks → k * unit_blocks ≡ length (take (k * unit_blocks) blocks)
blocks-room k blocks l w = sym (length-take-le (k * unit_blocks) blocks (omega (arith, l, w)))

-- none to begin with
pub hand-none : (extents : List ℕ) (e : ℕ) (blocks : List ℕ) → InHand extents e 0 0 0 blocks
unfolding entries range
hand-none extents e blocks = record { few = omega arith; mapped = refl }

module _ (extents : List ℕ) (e object first k : ℕ) (blocks : List ℕ) where
  -- a stretch in hand has its front in hand
  pub hand-front : (held start have : ℕ) (b : Bool) → b ≡ starts_with held start have object first k → b ≡ true → InHand extents e held start have blocks
      → InHand extents e object first k blocks
  unfolding starts_with
  hand-front held start have b q y h =
      let t : (eqb held object && (eqb start first && leb k have)) ≡ true = sym q ∙ y in
      let r : (eqb start first && leb k have) ≡ true = and_right (eqb held object) (eqb start first && leb k have) t in
      let o : held ≡ object = eqb-true held object (and_left (eqb held object) (eqb start first && leb k have) t) in
      let s : start ≡ first = eqb-true start first (and_left (eqb start first) (leb k have) r) in
      let l : k ≤ have = leb-true k have (and_right (eqb start first) (leb k have) r) in
      let z : first * unit_blocks + 0 ≡ first * unit_blocks = omega arith in
      let m : entries (take (have * unit_blocks) blocks) ≡ map (mapping (extents_in e extents) object) (range (first * unit_blocks) (have * unit_blocks)) = rw (o, s) at h.mapped in
      let p : entries (take (k * unit_blocks) (take (have * unit_blocks) blocks)) ≡ map (mapping (extents_in e extents) object) (range (first * unit_blocks + 0) (k * unit_blocks)) =
      entries-part (mapping (extents_in e extents) object) (first * unit_blocks) (have * unit_blocks) (take (have * unit_blocks) blocks) m 0 (k * unit_blocks) (omega (arith, l)) in
      record {
        few = omega (arith, l, h.few);
        mapped = ap entries (sym (take-take (k * unit_blocks) (have * unit_blocks) blocks (omega (arith, l)))) ∙ p ∙ ap (λ (x : ℕ). map (mapping (extents_in e extents) object) (range x (k * unit_blocks))) z;
      }

  -- blocks that were looked up are in hand
  pub hand-new : (new : List ℕ) → k ≤ most_units → length blocks ≡ most_units * unit_blocks → length new ≡ length (take (k * unit_blocks) blocks)
      → entries new ≡ map (mapping (extents_in e extents) object) (range (first * unit_blocks) (length (take (k * unit_blocks) blocks)))
      → InHand extents e object first k (new ++ drop (k * unit_blocks) blocks)
  hand-new new l w n h =
      let m : length (take (k * unit_blocks) blocks) ≡ k * unit_blocks = sym (blocks-room k blocks l w) in
      record {
        few = l;
        mapped = ap entries (take_at new (drop (k * unit_blocks) blocks) (k * unit_blocks) (n ∙ m)) ∙ h ∙ ap (λ (x : ℕ). map (mapping (extents_in e extents) object) (range (first * unit_blocks) x)) m;
      }

  -- blocks in hand lie in the image
  pub hand-inside : (image : List ℕ) → ExtentsRight (length image / block_bytes) e extents → InHand extents e object first k blocks → Inside image (take (k * unit_blocks) blocks)
  hand-inside image r h =
      mapped-inside (length image / block_bytes) e object (first * unit_blocks) (k * unit_blocks) extents (take (k * unit_blocks) blocks) image r h.mapped (omega arith)

-- ---- one piece

module _ (image extents : List ℕ) (e object offset size : ℕ) (piece : List ℕ) (n : ℕ) (q : n ≡ read_length size offset (length piece)) where
  -- a read that gets no byte
  pub piece-none : n ≡ 0 → piece ≡ piece_of image extents e object offset size piece
  unfolding piece_of
  piece-none z =
      let y : read_length size offset (length piece) ≡ 0 = sym q ∙ z in
      sym (rw (y, part_none (unit_bytes_of image extents e object offset 0) (offset % unit_bytes)) refl)

  -- one that gets some, of the blocks in hand
  pub piece-some : (k : ℕ) (blocks filled : List ℕ) → k ≡ begun (offset + n) unit_bytes - offset / unit_bytes → InHand extents e object (offset / unit_bytes) k blocks
      → filled ≡ part (offset % unit_bytes) n (blocks_bytes image (entries (take (k * unit_blocks) blocks))) ++ drop n piece
      → filled ≡ piece_of image extents e object offset size piece
  unfolding piece_of unit_bytes_of
  piece-some k blocks filled u h f =
      f ∙ ap (λ (b : List _). part (offset % unit_bytes) n (blocks_bytes image b) ++ drop n piece) h.mapped
      ∙ ap (λ (m : ℕ). part (offset % unit_bytes) n (blocks_bytes image (map (mapping (extents_in e extents) object) (range (offset / unit_bytes * unit_blocks) (m * unit_blocks)))) ++ drop n piece) u
      ∙ ap (λ (m : ℕ). part (offset % unit_bytes) m (unit_bytes_of image extents e object offset m) ++ drop m piece) q

-- ---- the pieces so far

module _ (image extents : List ℕ) (e : ℕ) (list sizes start : List ℕ) where
  -- the pieces before the place of the buffer have their bytes; those from triple i on are to come, and have room
  pub record Handed (i place : ℕ) (out : List ℕ) : Type 0 where
    pub pieces : pieces_of image extents e (decode_triples list) sizes start ≡ take place out ++ pieces_of image extents e (triples_from list i) (drop i sizes) (drop place out)
    pub room : place + lengths_of (triples_from list i) ≤ length out
    pub long : length out ≡ length start

  -- none yet
  pub handed-none : lengths_of (decode_triples list) ≤ length start → Handed 0 0 start
  handed-none l = record {
    pieces = ap (λ (ts : List Triple). pieces_of image extents e ts sizes start) (sym (from_start list));
    room = rw (from_start list) (omega (arith, l));
    long = refl;
  }

  module _ (i n place : ℕ) (out : List ℕ) (q : n ≡ length list / triple_bytes) (h : Handed i place out) where
    module _ (t : struct.Triple) (l : i < n) (d : triple_of t ≡ triple_at list i) where
      -- the next piece has room
      pub handed-room : place + t.len ≤ length out
      handed-room = omega (arith, h.room, read-lengths list i n q t l d)

      -- it is as long as the triple says
      piece-length : length (take (place + t.len - place) (drop place out)) ≡ t.len
      piece-length =
          let w : place + t.len - place ≡ t.len = omega arith in
          rw w (length-take-le t.len (drop place out) (omega (arith, length-drop place out, handed-room)))

      -- one piece more
      pub handed-more : (piece : List ℕ) → length piece ≡ length (take (place + t.len - place) (drop place out))
          → piece ≡ piece_of image extents e t.object t.offset (get_or sizes i 0) (take (place + t.len - place) (drop place out))
          → Handed (i + 1) (place + t.len) (put_mid place (place + t.len - place) out piece)
      unfolding pieces_of triple_of
      handed-more piece k p =
          let z : place + t.len - place ≡ t.len = omega arith in
          let s : piece ≡ piece_of image extents e t.object t.offset (get_or sizes i 0) (take t.len (drop place out)) = rw z at p in
          let rest : List ℕ = drop (place + t.len - place) (drop place out) in
          let v : length (take place out) ≡ place = length-take-le place out (omega (arith, handed-room)) in
          let w : length piece ≡ t.len = k ∙ piece-length in
          let a : take (place + t.len) (take place out ++ (piece ++ rest)) ≡ take place out ++ piece =
          ap (λ (x : ℕ). take (x + t.len) (take place out ++ (piece ++ rest))) (sym v) ∙ take-append-add (take place out) (piece ++ rest) t.len ∙ ap (λ (xs : List ℕ). take place out ++ xs) (take_at piece rest t.len w) in
          let b : drop (place + t.len) (take place out ++ (piece ++ rest)) ≡ rest =
          sym (drop-drop t.len place (take place out ++ (piece ++ rest))) ∙ ap (drop t.len) (drop_at (take place out) (piece ++ rest) place v) ∙ drop_at piece rest t.len w in
          let g : get_or (drop i sizes) 0 0 ≡ get_or sizes i 0 = get_or-drop i sizes 0 0 ∙ ap (λ (x : ℕ). get_or sizes x 0) (let y : i + 0 ≡ i = omega arith in y) in
          let f : pieces_of image extents e (triples_from list i) (drop i sizes) (drop place out) ≡ piece ++ pieces_of image extents e (triples_from list (i + 1)) (drop (i + 1) sizes) rest =
          ap (λ (ts : List Triple). pieces_of image extents e ts (drop i sizes) (drop place out)) (read_here list i n q t l d)
          ∙ rw (g, ← s, drop-drop 1 i sizes, z) refl in
          record {
            pieces =
                h.pieces ∙ ap (λ (xs : List ℕ). take place out ++ xs) f
                ∙ sym (append_assoc (take place out) piece (pieces_of image extents e (triples_from list (i + 1)) (drop (i + 1) sizes) rest))
                ∙ rw (a, b) refl;
            room = omega (arith, h.room, read-lengths list i n q t l d, same_len_mid place (place + t.len - place) out piece k);
            long = same_len_mid place (place + t.len - place) out piece k ∙ h.long;
          }

    -- all of them
    pub handed-all : n ≤ i → out ≡ pieces_of image extents e (decode_triples list) sizes start
    unfolding pieces_of
    handed-all l =
        sym (h.pieces ∙ ap (λ (ts : List Triple). take place out ++ pieces_of image extents e ts (drop i sizes) (drop place out)) (from_end list i (omega (arith, l, q))) ∙ take-append-drop place out)
