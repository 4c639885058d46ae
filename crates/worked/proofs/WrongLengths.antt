-- Refusal 1, word by word, computed by the checker: a small store with one length wrong, and beside it what passes. The lengths that no list
-- here could have, of an image and a book too long, are stated for every one of that length.
-- Assumes nothing.
use mathlib.Core.Path.{◌≡◌, refl}
use mathlib.Core.List.{List, [], ◌∷◌, ◌++◌}
use mathlib.Core.Bool.{true, false}
use Prim.Native.Nat.{ℕ, ◌+◌, ◌*◌}
use lib.ListN.{length, take, drop, replicate}
use Rattle.rules.specs.Store.{Store, lent}
use Rattle.rules.specs.Lengths.{image_fits, book_fits}
use Rattle.rules.specs.Call.Call.{fresh, look}
use Rattle.rules.specs.Call.Look.{fill}
use Rattle.worked.proofs.Stores.{uuid, small, answer, with_head, headed, mapped, booked, computed}

-- the store with another image
pub imaged : List ℕ → Store → Store
imaged image s = lent image s.head s.cards s.extents s.groups s.used s.retired

-- with other maps
pub with_maps : List ℕ → List ℕ → Store → Store
with_maps used retired s = lent s.image s.head s.cards s.extents s.groups used retired

-- with bytes behind its books
pub longer : List ℕ → List ℕ → List ℕ → Store → Store
longer cs es gs s = lent s.image s.head (s.cards ++ cs) (s.extents ++ es) (s.groups ++ gs) s.used s.retired

-- a store of no blocks
pub blockless : Store
blockless = headed 0 0 0 0 0 (lent [] [] [] [] [] [] [])

pub record Wrong : Type 0 where
  -- "the image is not 1 to 65,536 whole blocks"
  pub not-whole : answer (look fill) (imaged (replicate (4 * 4096 + 1) 0) (small 1 2)) ≡ (1, 0)
  pub no_block : answer (look fill) blockless ≡ (1, 0)
  pub most-blocks : (s : Store) → length s.image ≡ 65536 * 4096 → image_fits s ≡ true
  pub too_many : (s : Store) → length s.image ≡ 65537 * 4096 → image_fits s ≡ false
  -- "a map does not fit it": each alone, shorter and longer
  pub used-short : answer (look fill) (with_maps (9 ∷ replicate 6 0) (replicate 8 0) (small 1 2)) ≡ (1, 0)
  pub used-long : answer (look fill) (with_maps (9 ∷ replicate 8 0) (replicate 8 0) (small 1 2)) ≡ (1, 0)
  pub used-longer : answer (look fill) (with_maps (9 ∷ replicate 15 0) (replicate 8 0) (small 1 2)) ≡ (1, 0)
  pub retired-short : answer (look fill) (with_maps (9 ∷ replicate 7 0) (replicate 7 0) (small 1 2)) ≡ (1, 0)
  pub retired-long : answer (look fill) (with_maps (9 ∷ replicate 7 0) (replicate 16 0) (small 1 2)) ≡ (1, 0)
  -- "a book is not whole records": each by one byte; a place more passes
  pub cards-long : answer (look fill) (longer (0 ∷ []) [] [] (small 1 2)) ≡ (1, 0)
  pub extents-long : answer (look fill) (longer [] (0 ∷ []) [] (small 1 2)) ≡ (1, 0)
  pub groups-long : answer (look fill) (longer [] [] (0 ∷ []) (small 1 2)) ≡ (1, 0)
  pub places-more : answer (look fill) (longer (replicate 48 0) (replicate 33 0) (replicate 1073 0) (small 1 2)) ≡ (0, 333)
  -- a place of 32 bytes is none (W-205: "Refusal 1 measures card books in 48 bytes")
  pub cards-shorter : answer (look fill) (longer (replicate 32 0) [] [] (small 1 2)) ≡ (1, 0)
  -- "or has over 1,048,575 places"
  pub most-places : (book : List ℕ) → length book ≡ 1048575 * 33 → book_fits 33 book ≡ true
  pub places-over : (book : List ℕ) → length book ≡ 1048576 * 33 → book_fits 33 book ≡ false
  -- "a head is not 28 bytes": one zero less and one more where its number of blocks begins, so that its fields stay
  pub head-short : answer (look fill) (with_head (take 16 (small 1 2).head ++ drop 17 (small 1 2).head) (small 1 2)) ≡ (1, 0)
  pub head-long : answer (look fill) (with_head (take 16 (small 1 2).head ++ (0 ∷ drop 16 (small 1 2).head)) (small 1 2)) ≡ (1, 0)
  -- "or [..] has blocks other than the image's": the maps would fit 3 and 5 blocks too
  pub head-right : answer (look fill) (headed 4 1 1 1 1 (small 1 2)) ≡ (0, 333)
  pub blocks-fewer : answer (look fill) (headed 3 1 1 1 1 (small 1 2)) ≡ (1, 0)
  pub blocks_more : answer (look fill) (headed 5 1 1 1 1 (small 1 2)) ≡ (1, 0)
  -- "or record numbers above the places": two cards, one extent and two groups have one
  pub cards-above : answer (look fill) (headed 4 1 3 1 1 (small 1 2)) ≡ (1, 0)
  pub extents-above : answer (look fill) (headed 4 1 1 2 1 (small 1 2)) ≡ (1, 0)
  pub groups-above : answer (look fill) (headed 4 1 1 1 3 (small 1 2)) ≡ (1, 0)
  -- "or reserved exceeds blocks": all of them may be
  pub all-reserved : answer (look fill) (headed 4 4 0 0 0 (mapped 15 0 (booked [] [] [] (small 1 2)))) ≡ (0, 0)
  pub reserved-above : answer (look fill) (headed 4 5 0 0 0 (mapped 15 0 (booked [] [] [] (small 1 2)))) ≡ (1, 0)
  -- "fresh's uuid is not 16 bytes"
  pub uuid-short : answer (fresh (replicate 15 1) 1) (small 1 2) ≡ (1, 0)
  pub uuid-long : answer (fresh (replicate 17 1) 1) (small 1 2) ≡ (1, 0)
  -- "fresh does not read" the head, but for its length; reserved is the lent number
  pub fresh-unread : answer (fresh uuid 4) (with_head (replicate 28 255) (small 1 2)) ≡ (0, 0)
  pub fresh-head : answer (fresh uuid 1) (with_head (replicate 27 0) (small 1 2)) ≡ (1, 0)
  pub fresh-reserved : answer (fresh uuid 5) (small 1 2) ≡ (1, 0)
  pub fresh-image : answer (fresh uuid 1) (imaged (replicate (4 * 4096 + 1) 0) (small 1 2)) ≡ (1, 0)
  pub fresh-map : answer (fresh uuid 1) (with_maps (9 ∷ replicate 7 0) (replicate 7 0) (small 1 2)) ≡ (1, 0)
  pub fresh-book : answer (fresh uuid 1) (longer [] [] (0 ∷ []) (small 1 2)) ≡ (1, 0)

pub wrong : Wrong
unfolding computed imaged with_maps longer blockless
wrong = record {
  not-whole = refl;
  no_block = refl;
  most-blocks = λ s h. rw h refl;
  too_many = λ s h. rw h refl;
  used-short = refl;
  used-long = refl;
  used-longer = refl;
  retired-short = refl;
  retired-long = refl;
  cards-long = refl;
  extents-long = refl;
  groups-long = refl;
  places-more = refl;
  cards-shorter = refl;
  most-places = λ book h. rw h refl;
  places-over = λ book h. rw h refl;
  head-short = refl;
  head-long = refl;
  head-right = refl;
  blocks-fewer = refl;
  blocks_more = refl;
  cards-above = refl;
  extents-above = refl;
  groups-above = refl;
  all-reserved = refl;
  reserved-above = refl;
  uuid-short = refl;
  uuid-long = refl;
  fresh-unread = refl;
  fresh-head = refl;
  fresh-reserved = refl;
  fresh-image = refl;
  fresh-map = refl;
  fresh-book = refl;
}
