-- A planned change decided and carried out: what its parts ask for, from what is known of its store and its arrays, and what becomes of it.
-- Assumes nothing.
use mathlib.Core.Path.{◌≡◌, refl, sym, ap, ◌∙◌}
use mathlib.Core.Bool.{true}
use mathlib.Core.List.{List, [], ◌∷◌, map}
use Prim.Native.Nat.{ℕ, suc, ◌+◌, ◌-◌, ◌*◌, ◌/◌, ◌%◌, ◌^◌, ◌≤◌, ◌<◌}
use native.Mathlib.Decide.{dec_lt}
use native.Mathlib.Omega.{arith}
use lib.ListN.{length, take, get_or}
use lib.Seq.{length-take-le, get_or-take}
use Rattle.rules.specs.Lists.{any}
use Rattle.rules.specs.Sizes.{unit_blocks, unit_bytes, most_blocks, most_size}
use Rattle.rules.specs.Bytes.{pieces}
use Rattle.rules.specs.Map.{map_bytes}
use Rattle.rules.specs.Time.{Time}
use Rattle.rules.specs.Head.{head_bytes}
use Rattle.rules.specs.Card.{card_bytes, decode_card}
use Rattle.rules.specs.Extent.{Extent, extent_bytes}
use Rattle.rules.specs.Group.{group_bytes, decode_group}
use Rattle.rules.specs.Book.{decode_book}
use Rattle.rules.specs.Store.{Store, decode, decode_with, encode_into}
use Rattle.rules.specs.Refusal.{result}
use Rattle.rules.specs.Units.{Change, valid_length}
use Rattle.rules.specs.Rewrite.{Rewritten, Progress, Plan}
use Rattle.rules.specs.Kept.{blocks_after}
use Rattle.rules.specs.Finish.{finished, call_runs, cut_units, take_in_all, finished_extents, finished_groups}
use Rattle.rules.specs.Write.{carried_out}
use Rattle.rules.proofs.ListLaws.{Each, each_at}
use Rattle.rules.proofs.BookLaws.{length-decode_book}
use Rattle.rules.proofs.PassLaws.{Passes, passes-sized, passes-head, passes-room}
use Rattle.book.specs.Places.{card_is}
use Rattle.mapping.specs.Entries.{extents_in, ExtentsRight}
use Rattle.mapping.proofs.LookupLaws.{passes-image, passes-extents-most, passes-groups}
use Rattle.kept.specs.Change.{ChangeFits}
use Rattle.rewrite.specs.Plan.{laid_units}
use Rattle.finish_units.specs.Carry.{UnitsFit}
use Rattle.finish_books.specs.Buffers.{NewInside, OldInside, CardsRight}
use Rattle.finish_books.specs.Groups.{groups_in, GroupsRight, UnitsRight}
use Rattle.finish_extents.specs.Stretch.{Describes, Finished, Planned, Written, WholeBook}
use Rattle.file.specs.Change.{numbered}
use Rattle.finish_fit.specs.Fits.{Fits}
use Rattle.file.specs.Flat.{flat_blocks, AllWhole}
use Rattle.file.specs.Room.{RoomFor}
use Rattle.file.specs.Out.{PlanTold, StoreLeft}
use Rattle.file.proofs.FlatLaws.{all_whole}
use Rattle.file.proofs.PartLaws.{describes, kept_in, old-in}
use Rattle.file.proofs.CarryLaws.{Told, flat-told, cards-ready, extents-ready, card-ready}
use Rattle.file.proofs.FitLaws.{fit_refused, fit-carried}
use Rattle.finish_fit.proofs.FitLaws.{extents-fit, books-fit}
use Rattle.file.proofs.OutLaws.{plan-told}
use Rattle.file.proofs.ReadyLaws.{groups-ready, room-ready, left-ready, extents-left-ready, made-ready, flat-most}
use Rattle.carry.specs.Carry.{change_of, CarryReady, CarryFor}

-- ---- the blocks of units side by side

-- no units have none
pub flat-none : (us : List ℕ) → length us ≡ 0 → (c : Change) → 0 ≡ flat_blocks c us
unfolding flat_blocks
flat-none [] e c = refl
flat-none (u ∷ us) e c = absurd (omega (arith, e))

-- the last unit begins in a file as long as one may be
pub last-inside : (size : ℕ) (us : List ℕ) → size ≤ most_size → (length us ≡ 0 → ⊥) → ((i : ℕ) → i < length us → get_or us i 0 * unit_bytes < size)
    → get_or us (length us - 1) 0 * unit_bytes ≤ most_size
last-inside size us m z h = omega (arith, m, h (length us - 1) (omega (arith, z)))

-- every unit but the last counts sixteen
flat-last : (c : Change) (u : ℕ) (us : List ℕ) → unit_blocks * length us + blocks_after c (get_or (u ∷ us) (length us) 0) ≡ flat_blocks c (u ∷ us)
unfolding flat_blocks
flat-last c u [] = omega arith
flat-last c u (w ∷ us) = omega (arith, flat-last c w us)

-- as they are counted, from the valid length of the last
pub flat-counted : (size : ℕ) (us : List ℕ) (valid : ℕ) → (length us ≡ 0 → ⊥) → valid ≡ valid_length size (get_or us (length us - 1) 0)
    → (c : Change) → c.new_size ≡ size → 16 * (length us - 1) + (valid + 4095) / 4096 ≡ flat_blocks c us
unfolding blocks_after
flat-counted size [] valid h e c k = absurd (h refl)
flat-counted size (u ∷ us) valid h e c k =
    let i : length (u ∷ us) - 1 ≡ length us = omega arith in
    let p : (valid + 4095) / 4096 ≡ blocks_after c (get_or (u ∷ us) (length us) 0) = rw (e, i, k) refl in
    omega (arith, p, flat-last c u us)

-- the unit's place and the block's place in the unit of a block among them
flat-place : (c : Change) (us : List ℕ) → AllWhole c us → (f : ℕ) → f < flat_blocks c us
    → (f / unit_blocks < length us) × (f % unit_blocks < blocks_after c (get_or us (f / unit_blocks) 0))
unfolding flat_blocks
flat-place c [] w f l = absurd (omega (arith, l))
flat-place c (u ∷ []) w f l =
    let m : f < unit_blocks = omega (arith, l, flat-most c (u ∷ [])) in
    let z : f / unit_blocks ≡ 0 = omega (arith, m) in
    (omega (arith, z), rw z (omega (arith, l, m)))
flat-place c (u ∷ t ∷ us) w f l = go (λ h. flat-place c (t ∷ us) w.1 (f - unit_blocks) h) (dec_lt f unit_blocks)
  where
    go : (f - unit_blocks < flat_blocks c (t ∷ us) → ((f - unit_blocks) / unit_blocks < length (t ∷ us)) × ((f - unit_blocks) % unit_blocks < blocks_after c (get_or (t ∷ us) ((f - unit_blocks) / unit_blocks) 0)))
        → Dec (f < unit_blocks) → (f / unit_blocks < length (u ∷ t ∷ us)) × (f % unit_blocks < blocks_after c (get_or (u ∷ t ∷ us) (f / unit_blocks) 0))
    go h (yes m) =
        let z : f / unit_blocks ≡ 0 = omega (arith, m) in
        (omega (arith, z), rw z (omega (arith, m, w.0)))
    go h (no m) =
        let r = h (omega (arith, l, m)) in
        let z : f / unit_blocks ≡ suc ((f - unit_blocks) / unit_blocks) = omega (arith, m) in
        let y : f % unit_blocks ≡ (f - unit_blocks) % unit_blocks = omega (arith, m) in
        (omega (arith, z, r.0), rw (z, y) r.1)

-- ---- no units

-- no units are rewritten where there are none
none-rewritten : (us : List ℕ) (rs : List Rewritten) → length us ≡ 0 → map (λ r. r.unit) rs ≡ us → rs ≡ []
none-rewritten us [] z e = refl
none-rewritten us (r ∷ rs) z e = let n = ap (λ (ws : List ℕ). length ws) e in absurd (omega (arith, n, z))

-- the groups are left as they are
groups-same : (object g : ℕ) (groups us : List ℕ) → length us ≡ 0 → (rs : List Rewritten) → map (λ r. r.unit) rs ≡ us
    → length (finished_groups object rs (groups_in g groups)) ≡ g + 0
unfolding finished_groups
groups-same object g groups us z rs e =
    let n : length (groups_in g groups) ≡ g = length-decode_book decode_group group_bytes g groups in
    rw (none-rewritten us rs z e) (omega (arith, n))

-- so are the extents
extents-same : (object : ℕ) (us bs : List ℕ) (es : List Extent) (made : List ℕ) → length us ≡ 0 → Finished object us bs es 0 0 0 made
unfolding finished_extents call_runs cut_units take_in_all decode_book pieces
extents-same object us bs es made z = record {
  written = refl;
  finished = λ rs d. rw (none-rewritten us rs z d.units) refl;
}

-- the books fit where nothing is rewritten
pub fit_none : (object : ℕ) (us bs : List ℕ) (g : ℕ) (groups : List ℕ) (m : ℕ) (extents made : List ℕ) → length us ≡ 0 → ExtentsRight most_blocks m extents
    → group_bytes * g ≤ length groups → Fits object us bs g groups m extents 0 g 0 0 0 made
fit_none object us bs g groups m extents made z x l =
    books-fit object us bs g groups m extents 0 (groups-same object g groups us z) 0 g 0 0 0 made l (omega arith) (omega arith)
    (extents-fit object us bs m extents 0 0 0 made (omega arith) (omega arith) (extents-same object us bs (extents_in m extents) made z) (omega (arith, x.places)))

-- ---- what the parts ask for

module _ {s : Store} {n m g object before after start : ℕ} {bytes : List ℕ} {allocated seconds nanoseconds hint : ℕ} {us slots old kept blocks : List ℕ}
    (r : CarryReady s n m g object before after start bytes allocated seconds nanoseconds hint us slots old kept blocks) where
  -- each unit begins in the file as it will be
  pub each-begins : (i : ℕ) → i < length us → get_or us i 0 * unit_bytes < after
  each-begins i l = each_at r.within i 0 l

  -- such are the units of any change with this new size
  within_of : (c : Change) → c.new_size ≡ after → Each (λ u. u * unit_bytes < c.new_size) us
  within_of c e = rw e r.within

  -- every unit but the last has all of its blocks
  whole_of : (c : Change) → c.new_size ≡ after → AllWhole c us
  whole_of c e = all_whole c us r.order (within_of c e)

  -- what the decision asks of the groups
  pub groups-asked : (group_bytes * g ≤ length s.groups) × UnitsRight object (groups_in g s.groups) us
  groups-asked = (rw r.groups (passes-groups s r.passes), r.right)

  -- the arrays fit
  units-asked : UnitsFit s.image after us slots old kept blocks
  units-asked = record {
    few = r.few;
    slot_each = r.slot_each;
    old_each = r.old_each;
    kept_each = r.kept_each;
    blocks_each = r.blocks_each;
    begins = each-begins;
    old_inside = record { each = λ i. omega (arith, r.old_most.each i, passes-image s r.passes) };
    blocks_inside = λ j i a b. omega (arith, r.below j i a b, passes-image s r.passes);
  }

  -- the old blocks have their bits
  old-asked : OldInside (8 * length s.retired) old
  unfolding decode decode_with map_bytes
  old-asked = record { each = λ i. omega (arith, r.old_most.each i, (passes-sized s r.passes).retired, (passes-room s r.passes).blocks) }

  module _ (flat : ℕ) (f : (c : Change) → c.new_size ≡ after → flat ≡ flat_blocks c us) where
    -- the blocks side by side are within the array
    flat-room : flat ≤ length blocks
    flat-room = omega (arith, f (change_of object before after start bytes) refl, flat-most (change_of object before after start bytes) us, r.blocks_each)

    -- so many are taken of it
    pub flat-taken : flat ≡ length (take flat blocks)
    flat-taken = sym (length-take-le flat blocks flat-room)

    -- what it asks of the extents
    pub extents-asked : ExtentsRight most_blocks m s.extents × (0 < length us → Planned object us (take flat blocks) (extents_in m s.extents))
    extents-asked = (
      rw r.extents (passes-extents-most s r.passes),
      λ l. r.clear (take flat blocks) l (omega (arith, flat-taken, f (change_of object before after start bytes) refl, flat-most (change_of object before after start bytes) us)),
    )

    -- the arrays describe the units
    described-of : (limit : ℕ) (c : Change) → c.new_size ≡ after → Describes us (take flat blocks) (laid_units limit (decode s) c us blocks)
    described-of limit c e = rw (f c e) (describes limit (decode s) c us blocks (whole_of c e) (within_of c e) (omega (arith, r.blocks_each)))

    -- the blocks side by side lie on the device
    flat-below : (i : ℕ) → i < flat → get_or blocks i 0 < (decode s).blocks
    unfolding blocks_after
    flat-below i l =
        let p = flat-place (change_of object before after start bytes) us (whole_of (change_of object before after start bytes) refl) i (rw (f (change_of object before after start bytes) refl) at l) in
        let e : unit_blocks * (i / unit_blocks) + i % unit_blocks ≡ i = omega arith in
        rw e at (r.below (i / unit_blocks) (i % unit_blocks) p.0 p.1)

    -- and within that of kept blocks
    kept-room : flat ≤ length kept
    kept-room = omega (arith, flat-room, r.kept_each, r.blocks_each)

    -- the new blocks have their bits
    new-asked : NewInside (8 * length s.used) (take flat kept) (take flat blocks)
    unfolding decode decode_with map_bytes
    new-asked = record {
      each = λ i l z.
          let k : i < flat = omega (arith, l, length-take-le flat kept kept-room) in
          let b : get_or (take flat blocks) i 0 ≡ get_or blocks i 0 = get_or-take flat blocks i 0 k in
          omega (arith, b, flat-below i k, (passes-sized s r.passes).used, (passes-room s r.passes).blocks);
    }

    module _ {number left place cut count : ℕ} {made : List ℕ}
        (x : Fits object us (take flat blocks) g s.groups m s.extents number left place cut count made) where
      -- all that is asked for before the change is carried out
      pub out-asked : number ≡ 0 → extent_bytes * 290 ≤ length made
          → ChangeFits before after start (length bytes)
          × ((UnitsFit s.image after us slots old kept blocks × (flat ≤ length kept))
          × ((GroupsRight g s.groups × UnitsRight object (groups_in g s.groups) us)
          × (RoomFor object us g s.groups
          × ((NewInside (8 * length s.used) (take flat kept) (take flat blocks) × OldInside (8 * length s.retired) old)
          × ((WholeBook m s.extents × (place + cut ≤ m))
          × (((extent_bytes * count ≤ length made) × Written count made)
          × (((extent_bytes * (m - cut + count) ≤ length s.extents) × (m - cut + count < 2 ^ 20))
          × ((CardsRight n s.cards × (any (card_is object) (decode_book decode_card card_bytes n s.cards) ≡ true))
          × (((after < 2 ^ 63) × (allocated < 2 ^ 35) × (seconds < 2 ^ 63) × (nanoseconds < 2 ^ 30))
          × ((length s.head ≡ head_bytes) × (hint < 2 ^ 2) × (left < 2 ^ 20)))))))))))
      out-asked z l =
          let q : Passes s = r.passes in
          let c : Change = change_of object before after start bytes in
          let rs : List Rewritten = laid_units 0 (decode s) c us blocks in
          let e : Describes us (take flat blocks) rs = described-of 0 c refl in (
            r.fits,
            (
              (units-asked, kept-room),
              (
                (rw r.groups (groups-ready s q r.lent_bytes), r.right),
                (
                  room-ready s q x rs e z,
                  (
                    (new-asked, old-asked),
                    (
                      (rw r.extents (extents-ready s q r.lent_bytes), (x.exchanges z).inside),
                      (
                        made-ready s q x rs e z l,
                        (
                          extents-left-ready s q x rs e z,
                          (
                            (rw r.cards (cards-ready s q r.lent_bytes), rw r.cards (card-ready s q object r.card r.known)),
                            ((omega (arith, r.fits.size), r.count, r.early, r.part), (passes-head s q, r.group, left-ready s q x rs e z)),
                          ),
                        ),
                      ),
                    ),
                  ),
                ),
              ),
            ),
          )

      module _ {limit : ℕ} {c : Change} {p : Progress} {k : Plan} {uuid : List ℕ} (y : CarryFor limit s c p k uuid object before after start bytes allocated hint us slots old kept blocks) where
        -- refused, the store is left
        pub change-refused : (number ≡ 0 → ⊥)
            → numbered number s ≡ result s [] (carried_out 0 c (record { seconds = seconds; nanoseconds = nanoseconds }) s k)
        change-refused z =
            fit_refused 0 c (record { seconds = seconds; nanoseconds = nanoseconds }) s (laid_units limit (decode s) c us blocks) p k y.plan
            (sym y.carries.object_is) r.groups r.extents x (described-of limit c y.carries.change.new) z

        -- the arrays tell the units
        told_of : Told (laid_units limit (decode s) c us blocks) us old (take flat kept) (take flat blocks)
        told_of =
            let e : c.new_size ≡ after = y.carries.change.new in
            rw (f c e)
            (flat-told limit (decode s) c old kept blocks (whole_of c e) (within_of c e) (old-in (decode s) c.object us old y.carries.mapped)
            (kept_in limit (decode s) c us kept y.carries.keeps) (sym r.old_each) (omega (arith, r.kept_each)) (omega (arith, r.blocks_each)))

        -- carried out, it is the finished one
        pub change-carried : {t : Store} → number ≡ 0
            → StoreLeft s t n m g object before after start allocated seconds nanoseconds hint left place cut count flat uuid bytes us slots old kept blocks made
            → numbered 0 t ≡ result s [] (carried_out 0 c (record { seconds = seconds; nanoseconds = nanoseconds }) s k)
        unfolding result
        change-carried {t = t} z h =
            let time : Time = record { seconds = seconds; nanoseconds = nanoseconds } in
            let rs : List Rewritten = laid_units limit (decode s) c us blocks in
            let a : PlanTold c time rs p s n m g object after allocated seconds nanoseconds hint left place cut count us old (take flat kept) (take flat blocks) made =
            plan-told c time rs p s r.passes
            (record {
              cards = r.cards;
              extents = r.extents;
              groups = r.groups;
              file = sym y.carries.object_is;
              new_size = sym y.carries.change.new;
              count = y.count_is;
              second = refl;
              nanosecond = refl;
              next = y.hint_is;
            })
            told_of x z in
            let b : encode_into s (finished c time rs p (decode s)) ≡ t = h.store limit c time p y.carries a in
            ap (λ (w : Store). numbered 0 w) (sym b)
            ∙ sym (ap (result s []) (fit-carried 0 c time s rs p k y.plan (sym y.carries.object_is) r.groups r.extents x (described-of limit c y.carries.change.new) z))
