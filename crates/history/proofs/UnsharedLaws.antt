-- Any store that passes refusals 1 and 2 and maps no block of the device twice, damaged in other ways or not: an accepted write leaves it such a store.
-- `Changes` rests on this too: what such a change leaves passes refusals 1 and 2.
-- Assumes nothing.
use mathlib.Core.Path.{◌≡◌, refl, ap, subst, ◌∙◌}
use mathlib.Core.Logic.{◌⊎◌, inl, inr}
use mathlib.Core.List.{List, [], flat_map}
use mathlib.Core.Option.{some}
use Prim.Native.Nat.{ℕ, ◌*◌, ◌/◌, ◌≤◌, ◌<◌}
use native.Mathlib.Omega.{arith}
use lib.Dec.{eqb}
use lib.ListN.{length, length-take}
use Rattle.rules.specs.Time.{Time}
use Rattle.rules.specs.Lists.{count}
use Rattle.rules.specs.Sizes.{block_bytes, most_blocks, most_size, most_transfer}
use Rattle.rules.specs.Bytes.{Bytes}
use Rattle.rules.specs.Card.{Card}
use Rattle.rules.specs.Store.{Store, StoreBytes, Volume, decode, head_of, encode_into, image_blocks, card_of}
use Rattle.rules.specs.Integrity.{mapped_blocks}
use Rattle.rules.specs.Refusal.{Outcome, result}
use Rattle.rules.specs.Refusal.Outcome.{accept}
use Rattle.rules.specs.Units.{Change, clipped, write_change, grow_change, write_units, grow_units}
use Rattle.rules.specs.Rewrite.{Progress, rewrite_units}
use Rattle.rules.specs.Finish.{finished}
use Rattle.rules.specs.Write.{plan_of, write_outcome}
use Rattle.rules.specs.Call.{InRange}
use Rattle.rules.specs.Call.Call.{write}
use Rattle.rules.specs.Demand.{places_of}
use Rattle.rules.proofs.ListLaws.{find-mem}
use Rattle.rules.proofs.CountLaws.{Once}
use Rattle.rules.proofs.CardLaws.{CardFits}
use Rattle.rules.proofs.PassLaws.{Passes, passes-sized, lawful-decode, room-decode, decode-fits, Says}
use Rattle.rules.proofs.EnterLaws.{TimeRight}
use Rattle.rules.proofs.BytesKept.{write_bytes}
use Rattle.history.proofs.FileCallLaws.{FileCall, Carried, Written, write-accepted}
use Rattle.history.proofs.ExtentsFromPlaces.{mapped-count}
use Rattle.history.proofs.CardsAfter.{card-of-object}
use Rattle.history.proofs.ChangeLaws.{UnitsOf, units-write, units-grow}
use Rattle.history.proofs.PlanLaws.{Untold, Planned, PlanIs, plan-any}
use Rattle.history.proofs.PlannedLaws.{planned-most, planned-hint}
use Rattle.history.proofs.AfterUnits.{Carrying, carrying}
use Rattle.history.proofs.BlocksAfter.{unshared-after}
use Rattle.history.proofs.VolumeAfter.{CallRight, says-after}
use Rattle.history.proofs.MoreLists.{each-mem}

-- no block of the device is mapped twice
abbrev pub Unshared : Volume → Type 0
Unshared v = Once (mapped_blocks v.books.extents)

-- a store that passes refusals 1 and 2 and in which no block is mapped twice
pub record Safe (s : Store) : Type 0 where
  pub passes : Passes s
  pub unshared : Unshared (decode s)

-- ---- the store

module _ (s : Store) (h : Passes s) where
  -- its image is as long as its blocks
  pub whole-image : length (decode s).image ≡ (decode s).blocks * block_bytes
  whole-image =
      let r = room-decode s h in
      let z = passes-sized s h in
      omega (arith, r.image, r.blocks, z.whole, blocks)
    where
      blocks : image_blocks s ≡ length s.image / block_bytes
      blocks = unfold image_blocks in refl

  -- it has at most 65,536
  pub few-blocks : (decode s).blocks ≤ most_blocks
  few-blocks = omega (arith, (room-decode s h).blocks, (passes-sized s h).most)

  -- a card that is found is in range
  pub card-in : StoreBytes s → (object : ℕ) (card : Card) → card_of (decode s) object ≡ some card → CardFits card
  card-in b object card known = each-mem (decode-fits s h b).cards (find-mem (λ x. eqb x.object object) (decode s).books.cards card (unfold card_of in known))

-- a card that is found is found by its own object
pub known-own : (s : Store) (object : ℕ) (card : Card) → card_of (decode s) object ≡ some card → card_of (decode s) card.object ≡ some card
known-own s object card known = ap (card_of (decode s)) (card-of-object (decode s) object card known) ∙ known

-- ---- a change

-- a change to an object's file, told by its card and its units
pub record FileChange (s : Store) (card : Card) (c : Change) (us : List ℕ) : Type 0 where
  pub known : card_of (decode s) c.object ≡ some card
  pub size : card.size ≡ c.old_size
  pub longer : c.old_size ≤ c.new_size
  pub units : UnitsOf c us

-- that of a write
pub change-of-write : (s : Store) (object : ℕ) (card : Card) → card_of (decode s) object ≡ some card → (offset : ℕ) (bytes : List ℕ) → (length bytes ≡ 0 → ⊥)
    → FileChange s card (write_change card.object card.size offset bytes) (write_units (write_change card.object card.size offset bytes))
unfolding write_change
change-of-write s object card known offset bytes n = record {
  known = known-own s object card known;
  size = refl;
  longer = omega arith;
  units = units-write card.object card.size offset bytes some;
}
  where
    some : 0 < length (clipped bytes)
    some = unfold clipped in omega (arith, length-take most_transfer bytes, n)

-- that of a grow
pub change-of-grow : (s : Store) (object : ℕ) (card : Card) → card_of (decode s) object ≡ some card → (size : ℕ) → card.size < size
    → FileChange s card (grow_change card.object card.size size) (grow_units (grow_change card.object card.size size))
unfolding grow_change
change-of-grow s object card known size l =
    record { known = known-own s object card known; size = refl; longer = omega (arith, l); units = units-grow card.object card.size size l }

-- what the first unit of a change finds
abbrev pub found_first : Store → Card → Progress
found_first s card = record { taken = []; hint = (decode s).hint; allocated = card.allocated }

module _ {s : Store} (b : StoreBytes s) (h : Passes s) {card : Card} {c : Change} {us : List ℕ} (g : FileChange s card c us)
    (limit : ℕ) {answer : ℕ} {time : Time} {o : Outcome} (r : Carried answer c time s (rewrite_units limit (decode s) c us (found_first s card)) o) where
  -- the volume that is left
  abbrev left : Volume
  left = finished c time r.units r.progress (decode s)

  -- the units of its plan are placed
  plan : Planned (decode s) c Untold Untold us (found_first s card) r.units r.progress
  plan = subst (PlanIs (decode s) c Untold Untold Untold us (found_first s card)) r.plan (plan-any limit (decode s) c us (found_first s card))

  -- so they are carried out on a lawful volume
  pub change-carrying : Carrying (decode s) c r.units
  change-carrying = carrying (lawful-decode s h) (omega (arith, whole-image s h)) g.units plan

  -- and this is known of the call
  pub change-right : TimeRight time → c.new_size ≤ most_size → CallRight (decode s) c card r.progress time
  change-right timely end = record {
    known = g.known;
    size = g.size;
    longer = g.longer;
    end = end;
    timely = timely;
    fits = decode-fits s h b;
    few = few-blocks s h;
    most = planned-most plan (omega (arith, (card-in s h b c.object card g.known).allocated));
    hint = planned-hint (few-blocks s h) plan (unfold head_of in (decode-fits s h b).head.hint);
  }

  -- the store that is left says the finished volume, where each block was at one place at most
  pub change-says : TimeRight time → c.new_size ≤ most_size → StoreBytes (result s [] o).store
      → ((n : ℕ) → n < (decode s).blocks → count (λ x. eqb x.block n) (flat_map places_of (decode s).books.extents) ≤ 1) → Says (encode_into s left) left
  change-says timely end w one =
      says-after change-carrying (change-right timely end) s (room-decode s h) image one (unfold finished in r.extents) (unfold finished in r.groups)
    where
      image : Bytes left.image
      image = unfold result encode_into in (rw r.done at w).image

  -- so it passes refusals 1 and 2, and maps no block twice, where that was so
  pub change-safe : TimeRight time → c.new_size ≤ most_size → StoreBytes (result s [] o).store → Unshared (decode s) → Safe (result s [] o).store
  change-safe timely end w u = rw r.done (unfold result in record { passes = says.passes; unshared = rw says.volume once })
    where
      one : (n : ℕ) → count (λ x. eqb x.block n) (flat_map places_of (decode s).books.extents) ≤ 1
      one n = omega (arith, u n, mapped-count n (decode s).books.extents)

      says : Says (encode_into s left) left
      says = change-says timely end w (λ n l. one n)

      once : Unshared left
      once n = unfold finished in omega (arith, unshared-after change-carrying n (one n), mapped-count n left.books.extents)

-- ---- write

-- an accepted write leaves such a store one, with any limit of runs: what a write can break is a block that another place still maps
pub write-safe : (limit object offset : ℕ) (bytes : List ℕ) (time : Time) (s : Store) → InRange (write object offset bytes time) → StoreBytes s → Safe s
    → (result s [] (write_outcome limit object offset bytes time s)).number ≡ 0 → Safe (result s [] (write_outcome limit object offset bytes time s)).store
write-safe limit object offset bytes time s i b h e = go r.done
  where
    o : Outcome
    o = write_outcome limit object offset bytes time s

    r : FileCall s object (λ c o. ((length bytes ≡ 0) × (o ≡ accept 0 s [])) ⊎ Written limit offset bytes time s c o) o
    r = write-accepted limit object offset bytes time s e

    c : Change
    c = write_change r.card.object r.card.size offset bytes

    carried : Written limit offset bytes time s r.card o → Carried (length (clipped bytes)) c time s (rewrite_units limit (decode s) c (write_units c) (found_first s r.card)) o
    carried w = unfold plan_of in w.carried

    end : Written limit offset bytes time s r.card o → c.new_size ≤ most_size
    end w = unfold write_change in omega (arith, w.end, (card-in s h.passes b object r.card r.known).size)

    go : ((length bytes ≡ 0) × (o ≡ accept 0 s [])) ⊎ Written limit offset bytes time s r.card o → Safe (result s [] o).store
    go (inl z) = rw z.1 (unfold result in h)
    go (inr w) =
        change-safe b h.passes (change-of-write s object r.card r.known offset bytes w.some) limit (carried w) w.timely (end w)
        (write_bytes s b limit object offset bytes time i.2) h.unshared
