-- A change of a file, from its plan over the lent buffers to what becomes of it.
-- Assumes nothing.
use mathlib.Core.Path.{◌≡◌, refl, sym, ap, ◌∙◌}
use mathlib.Core.List.{List, []}
use mathlib.Core.Option.{some}
use Prim.Native.Nat.{ℕ, ◌+◌, ◌-◌, ◌*◌, ◌/◌, ◌≤◌, ◌<◌}
use native.Mathlib.Decide.{dec_lt}
use native.Mathlib.Omega.{arith}
use lib.ListN.{length, take, drop, get_or, replicate, length-drop, length-replicate, get_or-eq_default}
use lib.Seq.{get_or-drop, drop-drop, length-take-le}
use borrow.Author.Rules.{part_to_end}
use Rattle.rules.specs.Lists.{begun}
use Rattle.rules.specs.Sizes.{block_bytes, unit_blocks, unit_bytes, most_blocks, most_allocated}
use Rattle.rules.specs.Bytes.{part}
use Rattle.rules.specs.Head.{decode_head}
use Rattle.rules.specs.Extent.{extent_bytes}
use Rattle.rules.specs.Store.{Store, decode, decode_with, head_of, image_blocks}
use Rattle.rules.specs.Refusal.{result}
use Rattle.rules.specs.Units.{Change, valid_length}
use Rattle.rules.specs.Kept.{blocks_after}
use Rattle.rules.specs.Rewrite.{Progress, Plan, rewrite_units}
use Rattle.rules.specs.Rewrite.Plan.{planned}
use Rattle.rules.specs.Write.{carried_out}
use Rattle.rules.proofs.ListLaws.{each_at, each_weaken}
use Rattle.rules.proofs.ByteLaws.{get_d_part}
use Rattle.rules.proofs.PassLaws.{Passes, BuffersSized, passes-sized, room-decode, lawful-decode, decode-fits}
use Rattle.format.specs.Records as Records
use Rattle.format.specs.declared.head.Head as heads
use Rattle.mapping.proofs.LookupLaws.{decode-extents, decode-groups, passes-extents, passes-groups}
use Rattle.rewrite.specs.Plan.{laid_units}
use Rattle.rewrite.specs.Arguments.{BlocksOf}
use Rattle.rewrite.specs.Answers.{from_card}
use Rattle.kept.specs.declared.Change as numbers
use Rattle.rewrite.specs.declared.Plan as answer
use Rattle.finish_units.proofs.PlanFreeLaws.{planned-passed, planned-free, kept-first}
use Rattle.finish_books.specs.Groups.{groups_in, UnitsRight}
use Rattle.file.specs.Change.{numbered}
use Rattle.file.specs.Planned.{PlanReady, PlanRoom, ChangeFor, AllSettled, ChangePlanned}
use Rattle.file.proofs.OutcomeLaws.{plan-refused}
use Rattle.carry.specs.Carry.{change_of, CarryReady, CarryFor}
use Rattle.change.specs.Change.{ChangeReady, HeadSays, ArraysEach, changed}
use Rattle.change.proofs.StepLaws.{planned-hint, tail-group}
use Rattle.change.proofs.BehindLaws.{Rest, rest_of, order-behind, each-behind, few-behind, clear_behind, right-behind}

-- ---- arrays without their first entries

-- a part of what is left
part-drop : (k a n : ℕ) (s : List ℕ) → part a n (drop k s) ≡ part (k + a) n s
unfolding part
part-drop k a n s = ap (take n) (drop-drop a k s)

-- a slice from a place on, where it is as long as it is said to be
to_end : (xs : List ℕ) (n a : ℕ) → length xs ≡ n → take (n - a) (drop a xs) ≡ drop a xs
to_end xs n a e = rw (← e) (part_to_end xs a)

-- the entries of a unit of the rest
part-behind : (skip j n : ℕ) (s : List ℕ) → part (unit_blocks * j) n (drop (unit_blocks * skip) s) ≡ part (unit_blocks * (skip + j)) n s
part-behind skip j n s =
    let e : unit_blocks * skip + unit_blocks * j ≡ unit_blocks * (skip + j) = omega arith in
    part-drop (unit_blocks * skip) (unit_blocks * j) n s ∙ ap (λ (k : ℕ). part k n s) e

-- the arrays of the rest are as long as they ask for
module _ (us slots old kept blocks : List ℕ) (skip : ℕ) (a : ArraysEach us slots old kept blocks) where
  -- they are
  pub arrays-behind : ArraysEach (drop skip us) (drop skip slots) (drop (unit_blocks * skip) old) (drop (unit_blocks * skip) kept) (drop (unit_blocks * skip) blocks)
  arrays-behind =
      let u : length (drop skip us) ≡ length us - skip = length-drop skip us in
      record {
        slot_each = omega (arith, length-drop skip slots, u, a.slot_each);
        old_each = omega (arith, length-drop (unit_blocks * skip) old, u, a.old_each);
        kept_each = omega (arith, length-drop (unit_blocks * skip) kept, u, a.kept_each);
        blocks_each = omega (arith, length-drop (unit_blocks * skip) blocks, u, a.blocks_each);
      }

-- arrays that are as long as these fit too
pub arrays-after : {us slots old kept blocks s o k b : List ℕ} → ArraysEach us slots old kept blocks → length s ≡ length slots → length o ≡ length old → length k ≡ length kept
    → length b ≡ length blocks → ArraysEach us s o k b
arrays-after a x y z w = record { slot_each = x ∙ a.slot_each; old_each = y ∙ a.old_each; kept_each = z ∙ a.kept_each; blocks_each = w ∙ a.blocks_each }

-- ---- the store

module _ (s : Store) (p : Passes s) where
  -- the blocks that it says are the image's
  blocks-are : (decode s).blocks ≡ length s.image / block_bytes
  unfolding image_blocks
  blocks-are = (room-decode s p).blocks

  -- they are no more than a store has
  blocks-most : (decode s).blocks ≤ most_blocks
  unfolding image_blocks
  blocks-most = omega (arith, blocks-are, (passes-sized s p).most)

  -- in its buffers units can be looked up and planned
  pub plan-ready : (m g : ℕ) → m ≡ (decode_head s.head).extents → g ≡ (decode_head s.head).groups → PlanReady s.image s.extents s.groups s.used m g
  unfolding image_blocks
  plan-ready m g e f =
      let z : BuffersSized s = passes-sized s p in
      record {
        some = z.least;
        right = rw e (rw blocks-are at (passes-extents s p));
        places = rw f (passes-groups s p);
        map = z.used;
      }

module _ (s : Store) (object : ℕ) (d : numbers.Change) (bytes : List ℕ) (allocated seconds nanoseconds : ℕ) (us : List ℕ)
    (r : ChangeReady s object d bytes allocated seconds nanoseconds us) where
  -- the change
  abbrev c : Change
  c = change_of object d.old_size d.new_size d.offset bytes

  -- there is room for its plan
  pub plan-room : (slots old kept blocks : List ℕ) → ArraysEach us slots old kept blocks → PlanRoom d.new_size us slots old kept blocks
  plan-room slots old kept blocks a = record {
    slot_each = a.slot_each;
    old_each = a.old_each;
    kept_each = a.kept_each;
    blocks_each = a.blocks_each;
    begins = λ i. go i (dec_lt i (length us));
  }
    where
      go : (i : ℕ) → Dec (i < length us) → get_or us i 0 * unit_bytes ≤ d.new_size
      go i (yes l) = omega (arith, each_at r.units.within i 0 l)
      go i (no l) = rw (get_or-eq_default us 0 {n = i} (omega (arith, l))) (omega arith)

  module _ (n m g hint : ℕ) (uuid : List ℕ) (h : HeadSays s n m g hint uuid) where
    -- the buffers say the volume, and the numbers the change
    pub change-for : ChangeFor s.image uuid s.extents s.groups s.used m g object d us (decode s) c
    change-for = record {
      described = record {
        lawful = lawful-decode s r.passes;
        image_is = unfold decode decode_with in refl;
        uuid_is = h.uuid_is;
        blocks_is = blocks-are s r.passes;
        object_is = refl;
        change = record { old = refl; new = refl; from = refl; written = sym r.long };
      };
      extents_is = rw h.extents (decode-extents s);
      groups_is = rw h.groups (decode-groups s);
      used_is = unfold decode decode_with in refl;
      touched = r.units.touched;
    }

    -- the plan, from what the code carries
    abbrev plan : ℕ → Plan
    plan limit = rewrite_units limit (decode s) c us (from_card hint allocated)

    -- it is the change's
    plan-is : (limit : ℕ) → result s [] (carried_out 0 c (record { seconds = seconds; nanoseconds = nanoseconds }) s (plan limit)) ≡ changed limit s object d bytes allocated seconds nanoseconds us
    plan-is limit =
        ap (λ (x : ℕ). result s [] (carried_out 0 c (record { seconds = seconds; nanoseconds = nanoseconds }) s (rewrite_units limit (decode s) c us (from_card x allocated)))) h.hint_is

    module _ (limit : ℕ) (slots old kept blocks : List ℕ) (q : answer.Plan) (f : ChangePlanned limit (decode s) c us hint allocated slots old kept blocks q) where
      -- a refusal of one of its units
      pub units-refused : (q.number ≡ 0 → ⊥) → numbered q.number s ≡ changed limit s object d bytes allocated seconds nanoseconds us
      units-refused z =
          plan-refused 0 c (record { seconds = seconds; nanoseconds = nanoseconds }) s (plan limit) q.number (sym f.number) z ∙ plan-is limit

      module _ (a : ArraysEach us slots old kept blocks) (b : BlocksOf (length s.image / block_bytes) old) (most : q.allocated ≤ most_allocated) (z : q.number ≡ 0) where
        -- its units are settled
        abbrev settled : AllSettled limit (decode s) c us (from_card hint allocated) kept blocks q
        settled = f.done z

        -- the units that are rewritten
        abbrev vs : List ℕ
        vs = drop q.skip us

        -- the number of each in the arrays
        unit-at : (j : ℕ) → get_or vs j 0 ≡ get_or us (q.skip + j) 0
        unit-at j = get_or-drop q.skip us j 0

        -- it is one of all
        place_of : (j : ℕ) → j < length vs → q.skip + j < length us
        place_of j l = omega (arith, l, length-drop q.skip us)

        -- its blocks lie on the device
        below-behind : (j i : ℕ) → j < length vs → i < begun (valid_length d.new_size (get_or vs j 0)) block_bytes
            → get_or (drop (unit_blocks * q.skip) blocks) (unit_blocks * j + i) 0 < (decode s).blocks
        unfolding blocks_after valid_length
        below-behind j i l k =
            let w : get_or vs j 0 ≡ get_or us (q.skip + j) 0 = unit-at j in
            let k' : i < begun (valid_length d.new_size (get_or us (q.skip + j) 0)) block_bytes = rw w at k in
            let x : get_or (part (unit_blocks * (q.skip + j)) unit_blocks blocks) i 0 < (decode s).blocks = (settled.placed (q.skip + j) (omega arith) (place_of j l)).below i k' in
            let t : i < unit_blocks = omega (arith, k') in
            let e : unit_blocks * q.skip + (unit_blocks * j + i) ≡ unit_blocks * (q.skip + j) + i = omega arith in
            rw (get_or-drop (unit_blocks * q.skip) blocks (unit_blocks * j + i) 0, e, ← get_d_part blocks (unit_blocks * (q.skip + j)) unit_blocks i t) x

        -- how they lie
        rests : Rest c us q.skip
        rests = rest_of c us q.skip settled.first r.units.lie

        -- the rewritten tail, where it stands before the others, has its group
        right : UnitsRight object (groups_in g s.groups) vs
        right =
            rw (h.groups, ← decode-groups s)
            (right-behind (decode s) c r.card us q.skip (lawful-decode s r.passes) r.known r.size r.fits.size r.units
            (λ ws o e x y. tail-group limit (decode s) c (d.old_size / unit_bytes) ws us (drop (unit_blocks * q.skip) blocks) (from_card hint allocated) settled.left e x y
            (settled.plan ∙ ap (λ (k : ℕ). planned (laid_units limit (decode s) c (drop k us) (drop (unit_blocks * q.skip) blocks)) settled.left) o)) rests)

        -- what must be known before it is decided whether the books fit
        pub carry-ready : CarryReady s n m g object d.old_size d.new_size d.offset bytes q.allocated seconds nanoseconds q.hint vs (drop q.skip slots) (drop (unit_blocks * q.skip) old)
            (drop (unit_blocks * q.skip) kept) (drop (unit_blocks * q.skip) blocks)
        carry-ready =
            let y : ArraysEach vs (drop q.skip slots) (drop (unit_blocks * q.skip) old) (drop (unit_blocks * q.skip) kept) (drop (unit_blocks * q.skip) blocks) =
            arrays-behind us slots old kept blocks q.skip a in
            let hints : settled.left.hint < 4 =
            planned-hint limit (decode s) c (lawful-decode s r.passes) (blocks-most s r.passes) us (from_card hint allocated) settled.left _ settled.plan
            (rw h.hint_is (unfold head_of in (decode-fits s r.passes r.lent_bytes).head.hint)) in
            record {
              passes = r.passes;
              lent_bytes = r.lent_bytes;
              cards = h.cards;
              extents = h.extents;
              groups = h.groups;
              card = r.card;
              known = r.known;
              fits = rw (← r.long) r.fits;
              count = omega (arith, most);
              early = r.early;
              part = r.part;
              group = omega (arith, hints, settled.hint);
              few = few-behind (decode s) c r.card us q.skip (lawful-decode s r.passes) r.known r.size r.fits.size r.units;
              order = order-behind q.skip us r.units.order;
              within = each-behind q.skip r.units.within;
              right = right;
              clear = λ bs l k. rw (h.extents, ← decode-extents s)
                  (clear_behind (decode s) c r.card us q.skip (lawful-decode s r.passes) r.known r.size r.fits.size r.units rests bs l k);
              slot_each = y.slot_each;
              old_each = y.old_each;
              kept_each = y.kept_each;
              blocks_each = y.blocks_each;
              old_most = record { each = λ i. rw (get_or-drop (unit_blocks * q.skip) old i 0, blocks-are s r.passes) (b.each (unit_blocks * q.skip + i)) };
              below = below-behind;
            }

        -- the arrays tell of the change, and its plan is that of the rest
        pub carry-for : CarryFor limit s c settled.left (plan limit) uuid object d.old_size d.new_size d.offset bytes q.allocated q.hint vs (drop q.skip slots) (drop (unit_blocks * q.skip) old)
            (drop (unit_blocks * q.skip) kept) (drop (unit_blocks * q.skip) blocks)
        carry-for = record {
          carries = record {
            lawful = lawful-decode s r.passes;
            image_is = unfold decode decode_with in refl;
            uuid_is = h.uuid_is;
            object_is = refl;
            bytes_is = refl;
            change = record { old = refl; new = refl; from = refl; written = refl };
            mapped = λ j l. rw (part-behind q.skip j unit_blocks old, unit-at j) (f.each (q.skip + j) (place_of j l)).mapped;
            slot = λ j l. rw (get_or-drop q.skip slots j 0, unit-at j) (f.each (q.skip + j) (place_of j l)).checksum;
            keeps = λ j l. rw (unit-at j, part-behind q.skip j (blocks_after c (get_or us (q.skip + j) 0)) kept)
                (kept-first limit (decode s) c (get_or us (q.skip + j) 0) (unit_blocks * (q.skip + j)) kept (settled.placed (q.skip + j) (omega arith) (place_of j l)).keeps);
            passed = λ j l. rw (unit-at j) (each_at (planned-passed limit (decode s) c us (from_card hint allocated) settled.left _ settled.plan) (q.skip + j) 0 (place_of j l));
            free = each_weaken (λ x k. k.1) (planned-free limit (decode s) c (lawful-decode s r.passes) us (from_card hint allocated) settled.left _ settled.plan);
          };
          plan = settled.plan;
          count_is = sym settled.allocated;
          hint_is = sym settled.hint;
        }

        -- what becomes of the rest becomes of the change
        pub change-carried : (number : ℕ) (t : Store)
            → ((l : ℕ) (e : Change) (p : Progress) (k : Plan) → CarryFor l s e p k uuid object d.old_size d.new_size d.offset bytes q.allocated q.hint vs (drop q.skip slots) (drop (unit_blocks * q.skip) old)
            (drop (unit_blocks * q.skip) kept) (drop (unit_blocks * q.skip) blocks)
            → numbered number t ≡ result s [] (carried_out 0 e (record { seconds = seconds; nanoseconds = nanoseconds }) s k))
            → numbered number t ≡ changed limit s object d bytes allocated seconds nanoseconds us
        change-carried number t x = x limit c settled.left (plan limit) carry-for ∙ plan-is limit

        module _ (nu ns no nk nb : ℕ) (x : length us ≡ nu) (y : length slots ≡ ns) (o : length old ≡ no) (k : length kept ≡ nk) (w : length blocks ≡ nb) where
          -- the same for slices up to the ends
          pub carry-ready' : CarryReady s n m g object d.old_size d.new_size d.offset bytes q.allocated seconds nanoseconds q.hint (take (nu - q.skip) (drop q.skip us)) (take (ns - q.skip) (drop q.skip slots))
              (take (no - unit_blocks * q.skip) (drop (unit_blocks * q.skip) old)) (take (nk - unit_blocks * q.skip) (drop (unit_blocks * q.skip) kept))
              (take (nb - unit_blocks * q.skip) (drop (unit_blocks * q.skip) blocks))
          carry-ready' =
              rw (to_end us nu q.skip x, to_end slots ns q.skip y, to_end old no (unit_blocks * q.skip) o, to_end kept nk (unit_blocks * q.skip) k, to_end blocks nb (unit_blocks * q.skip) w)
              carry-ready

          -- and of what becomes of the change
          pub change-carried' : (number : ℕ) (t : Store)
              → ((l : ℕ) (e : Change) (p : Progress) (z : Plan) → CarryFor l s e p z uuid object d.old_size d.new_size d.offset bytes q.allocated q.hint (take (nu - q.skip) (drop q.skip us))
              (take (ns - q.skip) (drop q.skip slots)) (take (no - unit_blocks * q.skip) (drop (unit_blocks * q.skip) old))
              (take (nk - unit_blocks * q.skip) (drop (unit_blocks * q.skip) kept)) (take (nb - unit_blocks * q.skip) (drop (unit_blocks * q.skip) blocks))
              → numbered number t ≡ result s [] (carried_out 0 e (record { seconds = seconds; nanoseconds = nanoseconds }) s z))
              → numbered number t ≡ changed limit s object d bytes allocated seconds nanoseconds us
          change-carried' number t h =
              change-carried number t (λ l e p z f. h l e p z
              (rw (to_end us nu q.skip x, to_end slots ns q.skip y, to_end old no (unit_blocks * q.skip) o, to_end kept nk (unit_blocks * q.skip) k, to_end blocks nb (unit_blocks * q.skip) w) f))

-- ---- the arrays of a change

-- slots for the units
pub slots-room : (k : ℕ) → k ≤ 18 → k ≡ length {A = ℕ} (take k (replicate 18 0))
slots-room k l = sym (length-take-le {A = ℕ} k (replicate 18 0) (omega (arith, l)))

-- blocks of them
pub blocks-room : (k : ℕ) → k ≤ 18 → 16 * k ≡ length {A = ℕ} (take (16 * k) (replicate 288 0))
blocks-room k l = sym (length-take-le {A = ℕ} (16 * k) (replicate 288 0) (omega (arith, l)))

-- the extents that are put in
pub made-room : extent_bytes * 290 ≤ length {A = ℕ} (replicate 9570 0)
made-room = rw (length-replicate {A = ℕ} 9570 0) (omega arith)

-- the arrays have as many entries as the units ask for
pub arrays-room : (us : List ℕ) → length us ≤ 18
    → ArraysEach us (take (length us) (replicate 18 0)) (take (16 * length us) (replicate 288 0)) (take (16 * length us) (replicate 288 0)) (take (16 * length us) (replicate 288 0))
arrays-room us l = record { slot_each = sym (slots-room (length us) l); old_each = sym (blocks-room (length us) l); kept_each = sym (blocks-room (length us) l); blocks_each = sym (blocks-room (length us) l) }

-- what a decoded head says
pub head-says : (s : Store) (h : heads.Head) → Records.head_of h ≡ decode_head s.head → HeadSays s h.cards h.extents h.groups h.hint h.uuid
unfolding Records.head_of decode decode_with
head-says s h e = record {
  cards = ap (λ x. x.cards) e;
  extents = ap (λ x. x.extents) e;
  groups = ap (λ x. x.groups) e;
  hint_is = ap (λ x. x.hint) e;
  uuid_is = sym (ap (λ x. x.uuid) e);
}
