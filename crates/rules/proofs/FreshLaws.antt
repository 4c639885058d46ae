-- The store that an accepted fresh leaves: it passes refusals 1 and 2, and says the fresh volume.
-- Assumes nothing.
use mathlib.Core.Path.{◌≡◌, refl, ap}
use mathlib.Core.List.{List, [], ◌∷◌, flat_map}
use mathlib.Core.Bool.{true, false, ◌&&◌}
use Prim.Native.Nat.{ℕ, ◌+◌, ◌≤◌}
use native.Mathlib.Omega.{arith}
use lib.Dec.{eqb, leb, ltb}
use lib.ListN.{length}
use borrow.Author.Tests.{eqb-true, leb-true, not-false, lt-ltb, le-ltb}
use Rattle.rules.specs.Lists.{all, neighbours}
use Rattle.rules.specs.Bytes.{Bytes}
use Rattle.rules.specs.Head.{uuid_bytes}
use Rattle.rules.specs.Map.{map_bytes}
use Rattle.rules.specs.Store.{Store, StoreBytes, head_of, encode_into, image_blocks}
use Rattle.rules.specs.Refusal.{result}
use Rattle.rules.specs.Lengths.{buffers_fit, head_length, fresh_length_wrong}
use Rattle.rules.specs.Integrity.{ordered, times_right, none_empty, no_overlap, on_device, in_files, mapped_blocks, mapped_right, reserved_right, retired_right, mapped_used, mapped_live, mapped_unreserved}
use Rattle.rules.specs.Fresh.{fresh_volume, fresh_outcome}
use Rattle.rules.specs.Call.{InRange, call}
use Rattle.rules.specs.Call.Call.{fresh}
use Rattle.rules.proofs.ListLaws.{and_intro, all-range-of, each_none}
use Rattle.rules.proofs.StoreLaws.{VolumeFits}
use Rattle.rules.proofs.PassLaws.{each-passed, Lawful, Room, BuffersSized, buffers-sized, Says, says-encode_into}
use Rattle.rules.proofs.OutcomeLaws.{through}

-- what fresh tests
pub record FreshRight (uuid : List ℕ) (reserved : ℕ) (s : Store) : Type 0 where
  pub buffers : buffers_fit s ≡ true
  pub width : length uuid ≡ uuid_bytes
  pub room : reserved ≤ image_blocks s

-- fresh's tests pass, and it leaves the buffers that say the fresh volume
pub record FreshAccepted (uuid : List ℕ) (reserved : ℕ) (s : Store) : Type 0 where
  pub right : FreshRight uuid reserved s
  pub store : (call (fresh uuid reserved) s).store ≡ encode_into s (fresh_volume uuid reserved s)

-- its tests, read
fresh-right : (uuid : List ℕ) (reserved : ℕ) (s : Store) → fresh_length_wrong uuid reserved s ≡ false → FreshRight uuid reserved s
unfolding fresh_length_wrong
fresh-right uuid reserved s e =
    let t = each-passed (buffers_fit s) (eqb (length uuid) uuid_bytes ∷ head_length s ∷ leb reserved (image_blocks s) ∷ [])
    (not-false (buffers_fit s && eqb (length uuid) uuid_bytes && head_length s && leb reserved (image_blocks s)) e) in
    record { buffers = t.0; width = eqb-true (length uuid) uuid_bytes t.1.0; room = leb-true reserved (image_blocks s) t.1.1.1.0 }

-- so it is with an accepted one
pub fresh-accepted : (uuid : List ℕ) (reserved : ℕ) (s : Store) → (call (fresh uuid reserved) s).number ≡ 0 → FreshAccepted uuid reserved s
unfolding call fresh_outcome
fresh-accepted uuid reserved s e =
    let t = through s [] _ _ e in
    record {
      right = fresh-right uuid reserved s t.none.0;
      store = unfold result in ap (λ o. (result s [] o).store) t.goes_on;
    }

module _ (uuid : List ℕ) (reserved : ℕ) (s : Store) (f : FreshRight uuid reserved s) where
  -- the buffers have room for the fresh volume
  fresh-room : Room s (fresh_volume uuid reserved s)
  unfolding fresh_volume
  fresh-room = record {
    buffers = f.buffers;
    blocks = refl;
    image = refl;
    reserved = f.room;
    cards = omega arith;
    extents = omega arith;
    groups = omega arith;
  }

  -- its numbers are in range
  pub fresh-fits : Bytes uuid → VolumeFits (fresh_volume uuid reserved s)
  unfolding fresh_volume head_of map_bytes
  fresh-fits b =
      let z : BuffersSized s = buffers-sized s f.buffers in
      record {
        head = record {
          uuid_length = f.width;
          uuid = b;
          blocks = omega (arith, z.most);
          reserved = omega (arith, z.most, f.room);
          hint = omega arith;
          cards = omega arith;
          extents = omega arith;
          groups = omega arith;
        };
        cards = each_none;
        extents = each_none;
        groups = each_none;
        used = λ n l. le-ltb n reserved (omega (arith, f.room));
        retired = λ n l. refl;
      }

  -- it is lawful
  pub fresh-lawful : Lawful (fresh_volume uuid reserved s)
  unfolding fresh_volume ordered times_right none_empty no_overlap on_device in_files mapped_right mapped_used mapped_live mapped_unreserved mapped_blocks reserved_right retired_right all neighbours flat_map
  fresh-lawful = record {
    order = refl;
    times = refl;
    filled = refl;
    apart = refl;
    device = refl;
    files = refl;
    mapped = refl;
    reserved = all-range-of (λ n. ltb n reserved && true) 0 reserved (λ i l. and_intro (ltb (0 + i) reserved) true (lt-ltb (0 + i) reserved (omega arith)) refl);
    retired = all-range-of (λ n. true) 0 (image_blocks s) (λ i l. refl);
    used_past = λ n l. le-ltb n reserved (omega (arith, f.room));
    retired_past = λ n l. refl;
  }

module _ (s : Store) (b : StoreBytes s) (uuid : List ℕ) (reserved : ℕ) (i : InRange (fresh uuid reserved)) (e : (call (fresh uuid reserved) s).number ≡ 0) where
  -- the store that an accepted fresh leaves is one of bytes, passes refusals 1 and 2, and says the fresh volume
  pub fresh-says : Says (call (fresh uuid reserved) s).store (fresh_volume uuid reserved s)
  fresh-says =
      let a : FreshAccepted uuid reserved s = fresh-accepted uuid reserved s e in
      let m : Bytes (fresh_volume uuid reserved s).image = unfold fresh_volume in b.image in
      rw a.store (says-encode_into s (fresh_volume uuid reserved s) (fresh-room uuid reserved s a.right) (fresh-fits uuid reserved s a.right i.0) (fresh-lawful uuid reserved s a.right) m)
