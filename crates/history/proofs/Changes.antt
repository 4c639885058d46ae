-- Write and grow keep what every call keeps, and are not refused with "2, 9 to 12 and 14": what `Invariant` left to show.
-- Assumes nothing.
use mathlib.Core.Path.{◌≡◌, refl, sym, ap, subst, ◌∙◌}
use mathlib.Core.Logic.{◌⊎◌, inl, inr}
use mathlib.Core.List.{List, [], flat_map}
use mathlib.Core.Bool.{Bool, true, false, ◌&&◌}
use mathlib.Core.Option.{some}
use Prim.Native.Nat.{ℕ, ◌/◌, ◌≤◌, ◌<◌}
use native.Mathlib.Decide.{ℕ_discrete}
use native.Mathlib.Omega.{arith}
use lib.Dec.{eqb}
use lib.ListN.{length, take}
use borrow.Author.Tests.{eq-eqb, ne_eqb}
use Rattle.rules.specs.Write.{plan_of, write_outcome, grow_outcome}
use Rattle.rules.specs.Time.{Time}
use Rattle.rules.specs.Lists.{pick◌then◌else◌, given, count, any, member}
use Rattle.rules.specs.Sizes.{unit_blocks, most_runs, most_size, most_transfer}
use Rattle.rules.specs.Bytes.{padded}
use Rattle.rules.specs.Card.{Card}
use Rattle.rules.specs.Store.{Store, StoreBytes, Volume, decode, encode_into, card_of}
use Rattle.rules.specs.Integrity.{on_device}
use Rattle.rules.specs.Refusal.{Refusal, Outcome, number_of, result}
use Rattle.rules.specs.Refusal.Refusal.{no_space}
use Rattle.rules.specs.Refusal.Outcome.{accept}
use Rattle.rules.specs.Units.{Change, clipped, write_change, grow_change, write_units, grow_units}
use Rattle.rules.specs.Inspect.{unit_mapping}
use Rattle.rules.specs.Rewrite.{Progress, rewrite_units}
use Rattle.rules.specs.Rewrite.Plan.{refused}
use Rattle.rules.specs.Finish.{finished}
use Rattle.rules.specs.Call.{InRange, call}
use Rattle.rules.specs.Call.Call.{write, grow}
use Rattle.rules.specs.Plain.{File, change, overwrite, write_step, accepted, file_bytes, file_created}
use Rattle.rules.specs.Demand.{Place, places_of, places, file_places, never_numbers}
use Rattle.rules.proofs.ListLaws.{if-true, if-false, and_left, find-mem, each_weaken}
use Rattle.rules.proofs.CountLaws.{count-weaken}
use Rattle.rules.proofs.PassLaws.{Lawful, lawful-decode, decode-fits, Says}
use Rattle.rules.proofs.EnterLaws.{TimeRight}
use Rattle.rules.proofs.BytesKept.{write_bytes, bytes-kept}
use Rattle.history.proofs.HolderLaws.{place-once, file_places-most}
use Rattle.history.proofs.FileCallLaws.{FileCall, Carried, Written, Grown, write-accepted, grow-accepted, never-write, never-grow}
use Rattle.history.proofs.Invariant.{Inv, inv-says, known-object, ChangesRight}
use Rattle.history.proofs.Rewritten.{apart-lawful}
use Rattle.history.proofs.ApartLaws.{laid_of}
use Rattle.rules.proofs.KeptLaws.{there}
use Rattle.history.proofs.PlaceCounts.{total, total-each, count-units}
use Rattle.history.proofs.UnitLaws.{mapping-below, length-block_at}
use Rattle.history.proofs.ChangeLaws.{Becomes, write-becomes, grow-becomes}
use Rattle.history.proofs.PlanLaws.{UnitRight, StaysHole, PlanIs, Enough, WantsBlocks, Known, plan-is, unit_old}
use Rattle.history.proofs.AfterUnits.{Carrying, Filling}
use Rattle.history.proofs.CardsAfter.{card-of-object}
use Rattle.history.proofs.VolumeAfter.{CallRight}
use Rattle.history.proofs.UnsharedLaws.{whole-image, few-blocks, card-in, FileChange, change-of-write, change-of-grow, found_first, change-carrying, change-right, change-says}
use Rattle.history.proofs.AgreesAfter.{made-same, bytes-mine, bytes-theirs, files-after, blocks-after}
use Rattle.history.proofs.MoreLists.{count-all, once-ascending}
use Rattle.history.proofs.MoreBytes.{padded-whole}

-- ---- one change

-- a change to an object's file, told by its plain array too and what that becomes
record ChangeOf (files : List File) (s : Store) (card : Card) (c : Change) (xs ys us : List ℕ) : Type 0 where
  file : FileChange s card c us
  array : file_bytes files c.object ≡ some xs
  becomes : Becomes c xs ys

module _ {files : List File} {reserved : ℕ} {s : Store} (b : StoreBytes s) (h : Inv files reserved s) {card : Card} {c : Change} {xs ys us : List ℕ} (g : ChangeOf files s card c xs ys us) where
  -- the volume that the store says
  abbrev vol : Volume
  vol = decode s

  -- what the first unit finds
  abbrev first : Progress
  first = found_first s card

  -- the volume is lawful
  lawful : Lawful vol
  lawful = lawful-decode s h.passes

  -- the card is of the file
  object_is : card.object ≡ c.object
  object_is = card-of-object vol c.object card g.file.known

  -- what is known of the file
  known-file : Known vol c xs ys
  known-file = record {
    becomes = g.becomes;
    file = rw object_is at (h.files_agree.bytes c.object xs g.array card g.file.known).1;
    whole = λ b q m. length-block_at vol.image vol.blocks q (whole-image s h.passes) (mapping-below vol.blocks vol.books.extents (unfold on_device in lawful.device) c.object b q m);
  }

  -- the card's count is that of the file's places
  count_is : card.allocated ≡ file_places vol c.object
  count_is = h.files_agree.counts card (find-mem (λ x. eqb x.object c.object) vol.books.cards card (unfold card_of in g.file.known)) ∙ ap (file_places vol) object_is

  -- enough for all units
  enough : Enough vol c us first
  unfolding unit_mapping
  enough = record {
    least = omega (arith, units-count, count_is, places-most);
    most = omega (arith, count_is, file_places-most reserved vol lawful h.blocks_agree.one_place c.object, few-blocks s h.passes, g.file.units.few);
  }
    where
      in-units : Place → Bool
      in-units x = (eqb x.object c.object && true) && member (x.logical / unit_blocks) us

      units-count : count in-units (flat_map places_of vol.books.extents) ≡ total (λ u. length (there (unit_old vol c u))) us
      units-count =
          count-units (λ b. true) c.object (laid_of vol.books.extents (apart-lawful vol lawful)).ahead us (once-ascending us g.file.units.ordered)
          ∙ total-each (λ u. count (λ b. true) (there (unit_old vol c u))) (λ u. length (there (unit_old vol c u))) (λ u. count-all (there (unit_old vol c u))) us

      places-most : count in-units (flat_map places_of vol.books.extents) ≤ file_places vol c.object
      places-most = unfold file_places places in count-weaken in-units (λ x. eqb x.object c.object) (λ x t. and_left (eqb x.object c.object) true (and_left (eqb x.object c.object && true) (member (x.logical / unit_blocks) us) t)) (flat_map places_of vol.books.extents)

  -- no unit is refused with "9 to 12 and 14"
  never-plan : (limit : ℕ) (r : Refusal) → rewrite_units limit vol c us first ≡ refused r → member (number_of r) never_numbers ≡ false
  unfolding number_of member any
  never-plan limit r e = let z : r ≡ no_space = subst (PlanIs vol c WantsBlocks (StaysHole vol c ys) (UnitRight vol ys) us first) e (plan-is limit vol c xs ys known-file us first enough) in
      rw z refl

  -- the change is kept
  inv-change : (limit answer : ℕ) (time : Time) → TimeRight time → c.new_size ≤ most_size → (f : List ℕ → List ℕ) → f xs ≡ ys
      → (o : Outcome) → StoreBytes (result s [] o).store → Carried answer c time s (rewrite_units limit vol c us first) o → Inv (change c.object f files) reserved (result s [] o).store
  inv-change limit answer time timely end f y o w r =
      rw r.done (unfold result in inv-says (change c.object f files) reserved (encode_into s left) left says (files-after d k told refl files f y g.array h.files_agree) (blocks-after d k told refl h.blocks_agree))
    where
      left : Volume
      left = finished c time r.units r.progress vol

      d : Carrying vol c r.units
      d = change-carrying b h.passes g.file limit r

      k : CallRight vol c card r.progress time
      k = change-right b h.passes g.file limit r timely end

      told : Filling vol c xs ys us first r.units r.progress
      told = record {
        becomes = g.becomes;
        units = g.file.units;
        planned = subst (PlanIs vol c WantsBlocks (StaysHole vol c ys) (UnitRight vol ys) us first) r.plan (plan-is limit vol c xs ys known-file us first enough);
        slots = each_weaken (λ g f. f.slots) (decode-fits s h.passes b).groups;
      }

      says : Says (encode_into s left) left
      says = change-says b h.passes g.file limit r timely end w (λ n l. place-once reserved vol n (h.blocks_agree.one_place n l))

-- ---- write and grow

module _ (files : List File) (reserved : ℕ) (s : Store) (b : StoreBytes s) (h : Inv files reserved s) (object : ℕ) (card : Card) (known : card_of (decode s) object ≡ some card) where
  -- the card is of the object
  mine : card.object ≡ object
  mine = card-of-object (decode s) object card known

  -- the plain array of the object
  abbrev plain_of : List ℕ
  plain_of = (known-object files reserved s h object card known).0

  -- it is found by the card's object
  array-own : file_bytes files card.object ≡ some plain_of
  array-own = ap (file_bytes files) mine ∙ (known-object files reserved s h object card known).1

  -- as long as the card says
  size-own : card.size ≡ length plain_of
  size-own = (h.files_agree.bytes object plain_of (known-object files reserved s h object card known).1 card known).0

  -- the change of a write
  write-change : (offset : ℕ) (bytes : List ℕ) → (length bytes ≡ 0 → ⊥)
      → ChangeOf files s card (write_change card.object card.size offset bytes) plain_of (overwrite offset (take most_transfer bytes) plain_of) (write_units (write_change card.object card.size offset bytes))
  write-change offset bytes n = record {
    file = change-of-write s object card known offset bytes n;
    array = unfold write_change in array-own;
    becomes = subst (λ (n : ℕ). Becomes (write_change card.object n offset bytes) plain_of (overwrite offset (take most_transfer bytes) plain_of)) (sym size-own) (write-becomes card.object offset bytes plain_of);
  }

  -- the change of a grow
  grow-change : (size : ℕ) → card.size < size
      → ChangeOf files s card (grow_change card.object card.size size) plain_of (padded size plain_of) (grow_units (grow_change card.object card.size size))
  unfolding grow_change
  grow-change size l = record {
    file = change-of-grow s object card known size l;
    array = array-own;
    becomes = subst (λ (n : ℕ). Becomes (grow_change card.object n size) plain_of (padded size plain_of)) (sym size-own) (grow-becomes card.object size plain_of (omega (arith, l, size-own)));
  }

  -- a write that was carried out keeps it
  write_done : (limit offset : ℕ) (bytes : List ℕ) (time : Time) (o : Outcome) → StoreBytes (result s [] o).store → Written limit offset bytes time s card o
      → Inv (change object (overwrite offset (take most_transfer bytes)) files) reserved (result s [] o).store
  write_done limit offset bytes time o k w =
      subst (λ (n : ℕ). Inv (change n (overwrite offset (take most_transfer bytes)) files) reserved (result s [] o).store) mine
      (unfold write_change in inv-change b h (write-change offset bytes w.some) limit (length (clipped bytes)) time w.timely (omega (arith, w.end, (card-in s h.passes b object card known).size))
      (overwrite offset (take most_transfer bytes)) refl o k (unfold plan_of in w.carried))

  -- and so does a grow
  grow-done : (size : ℕ) (time : Time) (o : Outcome) → StoreBytes (result s [] o).store → Grown size time s card o → Inv (change object (padded size) files) reserved (result s [] o).store
  grow-done size time o k w =
      subst (λ (n : ℕ). Inv (change n (padded size) files) reserved (result s [] o).store) mine
      (unfold grow_change in inv-change b h (grow-change size w.more) most_runs 0 time w.timely w.end (padded size) refl o k (unfold plan_of in w.carried))

  -- a grow to the size that there is leaves the array as it is
  grow-none : (size : ℕ) → size ≡ card.size → (n : ℕ) → Dec (n ≡ object) → file_bytes (change object (padded size) files) n ≡ file_bytes files n
  grow-none size e n (yes q) =
      let a = known-object files reserved s h object card known in
      ap (file_bytes (change object (padded size) files)) q ∙ bytes-mine object (padded size) files a.0 a.1 ∙ ap some (padded-whole size a.0 (sym (e ∙ size-own)))
      ∙ sym a.1 ∙ ap (file_bytes files) (sym q)
  grow-none size e n (no q) = bytes-theirs object (padded size) files n q

-- only what the plain arrays say counts
inv-same : (files news : List File) (reserved : ℕ) (s : Store) → ((o : ℕ) → file_bytes news o ≡ file_bytes files o) → ((o : ℕ) → file_created news o ≡ file_created files o) → Inv files reserved s → Inv news reserved s
inv-same files news reserved s e m h = record {
  passes = h.passes;
  files_agree = record {
    objects = λ o. ap given (e o) ∙ h.files_agree.objects o;
    bytes = λ o xs k. h.files_agree.bytes o xs (sym (e o) ∙ k);
    slots = h.files_agree.slots;
    counts = h.files_agree.counts;
    created = λ o. h.files_agree.created o ∙ sym (m o);
  };
  blocks_agree = h.blocks_agree;
}

-- an accepted write keeps it, with any limit of runs
write_keeps : (limit object offset : ℕ) (bytes : List ℕ) (time : Time) (files : List File) (reserved : ℕ) (s : Store)
    → InRange (write object offset bytes time) → StoreBytes s → (result s [] (write_outcome limit object offset bytes time s)).number ≡ 0 → Inv files reserved s
    → Inv (write_step object offset bytes files) reserved (result s [] (write_outcome limit object offset bytes time s)).store
unfolding write_step
write_keeps limit object offset bytes time files reserved s i b e h = go r.done
  where
    o : Outcome
    o = write_outcome limit object offset bytes time s

    r : FileCall s object (λ c o. ((length bytes ≡ 0) × (o ≡ accept 0 s [])) ⊎ Written limit offset bytes time s c o) o
    r = write-accepted limit object offset bytes time s e

    news : List File
    news = change object (overwrite offset (take most_transfer bytes)) files

    go : ((length bytes ≡ 0) × (o ≡ accept 0 s [])) ⊎ Written limit offset bytes time s r.card o → Inv (pick eqb (length bytes) 0 then files else news) reserved (result s [] o).store
    go (inl z) = rw (if-true (eqb (length bytes) 0) files news (eq-eqb (length bytes) 0 z.0), z.1) (unfold result in h)
    go (inr w) = rw (if-false (eqb (length bytes) 0) files news (ne_eqb (length bytes) 0 w.some)) (write_done files reserved s b h object r.card r.known limit offset bytes time o (write_bytes s b limit object offset bytes time i.2) w)

-- and so does a grow
grow-keeps : (object size : ℕ) (time : Time) (files : List File) (reserved : ℕ) (s : Store)
    → InRange (grow object size time) → StoreBytes s → (call (grow object size time) s).number ≡ 0 → Inv files reserved s
    → Inv (accepted (grow object size time) files) reserved (call (grow object size time) s).store
unfolding call accepted
grow-keeps object size time files reserved s i b e h = go r.done
  where
    o : Outcome
    o = grow_outcome object size time s

    r : FileCall s object (λ c o. ((size ≡ c.size) × (o ≡ accept 0 s [])) ⊎ Grown size time s c o) o
    r = grow-accepted object size time s e

    go : ((size ≡ r.card.size) × (o ≡ accept 0 s [])) ⊎ Grown size time s r.card o → Inv (change object (padded size) files) reserved (result s [] o).store
    go (inl z) = rw z.1 (unfold result in inv-same files (change object (padded size) files) reserved s (λ n. grow-none files reserved s b h object r.card r.known size z.0 n (ℕ_discrete n object)) (λ n. made-same object (padded size) n files) h)
    go (inr w) = grow-done files reserved s b h object r.card r.known size time o (unfold call in bytes-kept (grow object size time) s i b) w

-- both, as `Invariant` asks for them
pub changes : ChangesRight
changes = record {
  write_keeps = write_keeps;
  grow_keeps = grow-keeps;
  write_never = λ limit object offset bytes time files reserved s i b h. never-write s h.passes limit object offset bytes time
      (λ card e n l t. unfold plan_of in never-plan b h (write-change files reserved s b h object card e offset bytes n) limit);
  grow_never = λ object size time files reserved s i b h. never-grow s h.passes object size time
      (λ card e m l t. unfold plan_of in never-plan b h (grow-change files reserved s b h object card e size m) most_runs);
}
