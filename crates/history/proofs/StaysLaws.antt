-- What the calls keep of a unit, seen from outside: after each accepted one, each unit is where it was, or what stayed of it forms no more runs than the
-- call's limit. What stayed is what was kept, since a new block was free and so is none of the old ones; the rest is `KeptLaws`' fact about kept blocks,
-- cited for the limits of both writers.
-- Assumes nothing.
use mathlib.Core.Path.{◌≡◌, refl, sym, ap, subst, ◌∙◌}
use mathlib.Core.Logic.{◌⊎◌, inl, inr}
use mathlib.Core.List.{List, [], ◌∷◌, map, flat_map, Memᴰ}
use mathlib.Core.Bool.{false}
use mathlib.Core.Option.{Option, none, some, none-ne-some, some-injective}
use Prim.Native.Nat.{ℕ, zero, suc, ◌+◌, ◌*◌, ◌≤◌, ◌<◌}
use native.Mathlib.Decide.{ℕ_discrete, dec_lt}
use native.Mathlib.Omega.{arith}
use lib.Dec.{eqb}
use lib.ListN.{length, get_or, get_elem?, length-map, get_or-eq_default}
use borrow.Author.Tests.{eq-eqb, ne_eqb}
use Rattle.rules.specs.Time.{Time}
use Rattle.rules.specs.Lists.{pick◌then◌else◌, maybe, range, count}
use Rattle.rules.specs.Sizes.{unit_blocks, most_size, most_runs, archive_runs}
use Rattle.rules.specs.Card.{Card}
use Rattle.rules.specs.Extent.{mapping}
use Rattle.rules.specs.Store.{Store, StoreBytes, Volume, decode, encode_into}
use Rattle.rules.specs.Refusal.{Outcome, result}
use Rattle.rules.specs.Refusal.Outcome.{accept}
use Rattle.rules.specs.Units.{Change, clipped, write_change, grow_change, write_units, grow_units}
use Rattle.rules.specs.Inspect.{unit_mapping}
use Rattle.rules.specs.Kept.{runs, wanted, assigned}
use Rattle.rules.specs.Rewrite.{Progress, Rewritten, rewrite_units}
use Rattle.rules.specs.Finish.{finished_extents, finished}
use Rattle.rules.specs.Fresh.{fresh_volume}
use Rattle.rules.specs.Enter.{entered}
use Rattle.rules.specs.Settle.{settled}
use Rattle.rules.specs.Write.{plan_of, write_outcome, grow_outcome}
use Rattle.rules.specs.Call.{Call, InRange, call}
use Rattle.rules.specs.Call.Call.{fresh, enter, write, write_archive, grow, settle, look}
use Rattle.rules.specs.Stays.{stayed, unit_places, StaysWithin, kept_runs}
use Rattle.rules.specs.Demand.{places_of}
use Rattle.rules.proofs.ListLaws.{clash, if-true, if-false, length-range, get_or-map-range, Each, each_none, each_more, each_weaken}
use Rattle.rules.proofs.KeptLaws.{Keeps, wanted-some, wanted-none}
use Rattle.rules.proofs.PassLaws.{Passes, Says}
use Rattle.rules.proofs.FreshLaws.{fresh-says}
use Rattle.rules.proofs.EnterLaws.{TimeRight, enter-says}
use Rattle.rules.proofs.SettleLaws.{settle-says, look-stays}
use Rattle.rules.proofs.BytesKept.{write_bytes, bytes-kept}
use Rattle.history.proofs.FileCallLaws.{FileCall, Carried, Written, Grown, write-accepted, grow-accepted}
use Rattle.history.proofs.MappingLaws.{mapping-nil}
use Rattle.history.proofs.UnitLaws.{get_or-mapped, valid-blocks}
use Rattle.history.proofs.PlanLaws.{Untold, PlanIs, KeepsRight, plan-kept, length-old, unit_old}
use Rattle.history.proofs.PlannedLaws.{Made, planned-right}
use Rattle.history.proofs.AfterUnits.{Carrying, mapped-used, places-stay, mapping-moves}
use Rattle.history.proofs.UnsharedLaws.{FileChange, change-of-write, change-of-grow, found_first, card-in, change-carrying, change-says}
use Rattle.history.proofs.MoreLists.{each-mem}

-- ---- what stayed of a list of places

-- a block that was in its place stayed
stayed-same : (p : ℕ) (o : Option ℕ) → o ≡ some p → (pick maybe false (eqb p) o then some p else none) ≡ some p
unfolding maybe
stayed-same p none e = absurd (none-ne-some p e)
stayed-same p (some q) e = if-true (eqb p q) (some p) none (eq-eqb p q (sym (some-injective q p e)))

-- another did not
stayed-other : (p : ℕ) (o : Option ℕ) → (o ≡ some p → ⊥) → (pick maybe false (eqb p) o then some p else none) ≡ none
unfolding maybe pick◌then◌else◌
stayed-other p none n = refl
stayed-other p (some q) n = if-false (eqb p q) (some p) none (ne_eqb p q (λ e. n (ap some (sym e))))

-- what stayed is what was kept, where no new block is one of the old ones
stayed-kept : (old after kept : List (Option ℕ)) {new : List ℕ} → length after ≡ length old → length kept ≤ length old → Keeps kept old → length new ≡ wanted kept
    → Each (λ b. (i : ℕ) → get_or old i none ≡ some b → ⊥) new
    → ((i : ℕ) → i < length old → get_or after i none ≡ get_elem? (assigned kept new) i) → stayed old after ≡ kept
unfolding stayed assigned
stayed-kept [] after [] n l k w f h = refl
stayed-kept [] after (x ∷ kept) n l k w f h = absurd (omega arith)
stayed-kept (o ∷ old) [] kept n l k w f h = absurd (omega arith)
stayed-kept (o ∷ old) (none ∷ after) [] n l k w f h =
    stayed-kept old after [] (omega arith) (omega arith) (λ i p e. absurd (none-ne-some p e)) w (each_weaken (λ b g i e. g (suc i) e) f) (λ i m. h (suc i) (omega arith))
stayed-kept (o ∷ old) (some q ∷ after) [] n l k w f h = absurd (none-ne-some q (sym (h 0 (omega arith))))
stayed-kept (o ∷ old) (none ∷ after) (some p ∷ kept) n l k w f h = absurd (none-ne-some p (h 0 (omega arith)))
stayed-kept (o ∷ old) (some q ∷ after) (some p ∷ kept) n l k w f h =
    let e : q ≡ p = some-injective q p (h 0 (omega arith)) in
    let r : stayed old after ≡ kept =
    stayed-kept old after kept (omega arith) (omega arith) (λ i x y. k (suc i) x y) (w ∙ wanted-some p kept) (each_weaken (λ b g i y. g (suc i) y) f) (λ i m. h (suc i) (omega arith)) in
    rw (e, stayed-same p o (k 0 p refl), r) refl
stayed-kept (o ∷ old) (none ∷ after) (none ∷ kept) n l k w each_none h = absurd (omega (arith, w, wanted-none kept))
stayed-kept (o ∷ old) (some q ∷ after) (none ∷ kept) n l k w each_none h = absurd (omega (arith, w, wanted-none kept))
stayed-kept (o ∷ old) (none ∷ after) (none ∷ kept) n l k w (each_more {x = b} g f) h = absurd (none-ne-some b (h 0 (omega arith)))
stayed-kept (o ∷ old) (some q ∷ after) (none ∷ kept) n l k w (each_more {x = b} g f) h =
    let e : q ≡ b = some-injective q b (h 0 (omega arith)) in
    let r : stayed old after ≡ kept =
    stayed-kept old after kept (omega arith) (omega arith) (λ i x y. k (suc i) x y) (omega (arith, w, wanted-none kept)) (each_weaken (λ b g i y. g (suc i) y) f) (λ i m. h (suc i) (omega arith)) in
    rw (e, stayed-other b o (g 0), r) refl

-- nothing stayed where no block is left
stayed-none : (f : ℕ → Option ℕ) → ((b : ℕ) → f b ≡ none) → (before : List (Option ℕ)) (a n : ℕ) → stayed before (map f (range a n)) ≡ []
unfolding stayed range
stayed-none f h [] a n = refl
stayed-none f h (o ∷ before) a zero = refl
stayed-none f h (o ∷ before) a (suc n) = rw (h a) (stayed-none f h before (suc a) n)

-- ---- a change

-- a unit is one of the rewritten ones or none of them
rewritten-or-not : (u : ℕ) (rs : List Rewritten) → ((r : Rewritten) × Memᴰ r rs × (r.unit ≡ u)) ⊎ Each (λ r. u ≡ r.unit → ⊥) rs
rewritten-or-not u [] = inr each_none
rewritten-or-not u (r ∷ rs) = go (ℕ_discrete r.unit u) (rewritten-or-not u rs)
  where
    go : Dec (r.unit ≡ u) → ((t : Rewritten) × Memᴰ t rs × (t.unit ≡ u)) ⊎ Each (λ t. u ≡ t.unit → ⊥) rs
        → ((t : Rewritten) × Memᴰ t (r ∷ rs) × (t.unit ≡ u)) ⊎ Each (λ t. u ≡ t.unit → ⊥) (r ∷ rs)
    go (yes e) x = inl (r, Memᴰ.head refl, e)
    go (no n) (inl x) = inl (x.0, Memᴰ.tail x.1, x.2)
    go (no n) (inr f) = inr (each_more (λ e. n (sym e)) f)

module _ {v : Volume} {c : Change} {rs : List Rewritten} (d : Carrying v c rs) where
  -- where the blocks of a unit of the file are after it
  abbrev places_after : ℕ → List (Option ℕ)
  places_after u = map (mapping (finished_extents c.object rs v.books.extents) c.object) (range (u * unit_blocks) unit_blocks)

  -- a block that was not used is none of the unit's old ones
  not-old : (u b : ℕ) → v.used b ≡ false → (i : ℕ) → get_or (unit_old v c u) i none ≡ some b → ⊥
  not-old u b free i e = go (dec_lt i unit_blocks)
    where
      go : Dec (i < unit_blocks) → ⊥
      go (yes l) = clash free (mapped-used d c.object (u * unit_blocks + i) b (sym (get_or-mapped v c.object u unit_blocks i l) ∙ e))
      go (no l) = none-ne-some b (sym (get_or-eq_default (unit_old v c u) none {n = i} (omega (arith, length-old v c u))) ∙ e)

  -- what stayed of a rewritten unit is what it kept
  unit-stayed : (r : Rewritten) → Memᴰ r rs → stayed (unit_old v c r.unit) (places_after r.unit) ≡ r.kept
  unit-stayed r m =
      stayed-kept (unit_old v c r.unit) (places_after r.unit) r.kept
      (length-map (range (r.unit * unit_blocks) unit_blocks) _ ∙ length-range (r.unit * unit_blocks) unit_blocks ∙ sym (length-old v c r.unit))
      (omega (arith, k.placed.wide, valid-blocks c.new_size r.unit, length-old v c r.unit)) k.placed.keeps k.placed.laid.many
      (each_weaken (λ b f i. not-old r.unit b f.1 i) k.placed.free) after
    where
      k : Made v c r
      k = each-mem d.made m

      after : (i : ℕ) → i < length (unit_old v c r.unit) → get_or (places_after r.unit) i none ≡ get_elem? (assigned r.kept r.new) i
      after i l =
          let n : i < unit_blocks = omega (arith, l, length-old v c r.unit) in
          get_or-map-range (mapping (finished_extents c.object rs v.books.extents) c.object) (r.unit * unit_blocks) unit_blocks i none n
          ∙ mapping-moves d r m i n ∙ ap (λ (bs : List ℕ). get_elem? bs i) k.placed.laid.blocks

  -- so each unit is where it was, or what stayed of it is within the limit
  units-within : (limit : ℕ) → Each (KeepsRight limit v c) rs → (time : Time) (q : Progress) → StaysWithin limit v (finished c time rs q v)
  unfolding finished unit_mapping
  units-within limit keeps time q object unit = go (ℕ_discrete object c.object) (rewritten-or-not unit rs)
    where
      left : Volume
      left = finished c time rs q v

      go : Dec (object ≡ c.object) → ((r : Rewritten) × Memᴰ r rs × (r.unit ≡ unit)) ⊎ Each (λ r. unit ≡ r.unit → ⊥) rs
          → (unit_places left object unit ≡ unit_places v object unit) ⊎ (runs (stayed (unit_places v object unit) (unit_places left object unit)) ≤ limit)
      go (no n) x = inl (places-stay d object unit (λ e. absurd (n e)))
      go (yes e) (inr far) = inl (places-stay d object unit (λ z. far))
      go (yes e) (inl x) = inr (rw (e, ← x.2, unit-stayed x.0 x.1) (each-mem keeps x.1).right.few)

-- ---- the calls

-- each block of the device is at one place at most
abbrev pub OncePlaced : Store → Type 0
OncePlaced s = (n : ℕ) → n < (decode s).blocks → count (λ x. eqb x.block n) (flat_map places_of (decode s).books.extents) ≤ 1

module _ {s : Store} (b : StoreBytes s) (one : OncePlaced s) where
  -- a change that was carried out
  change-stays : (h : Passes s) {card : Card} {c : Change} {us : List ℕ} (g : FileChange s card c us) (limit : ℕ) → 1 ≤ limit → {answer : ℕ} {time : Time} (o : Outcome)
      → Carried answer c time s (rewrite_units limit (decode s) c us (found_first s card)) o → TimeRight time → c.new_size ≤ most_size → StoreBytes (result s [] o).store
      → StaysWithin limit (decode s) (decode (result s [] o).store)
  change-stays h {card} {c} {us} g limit l {answer} {time} o r timely end w =
      rw r.done (unfold result in (rw says.volume (units-within (change-carrying b h g limit r) limit keeps time r.progress)))
    where
      keeps : Each (KeepsRight limit (decode s) c) r.units
      keeps = planned-right (subst (PlanIs (decode s) c Untold Untold (KeepsRight limit (decode s) c) us (found_first s card)) r.plan (plan-kept limit l (decode s) c us (found_first s card)))

      says : Says (encode_into s (finished c time r.units r.progress (decode s))) (finished c time r.units r.progress (decode s))
      says = change-says b h g limit r timely end w one

  -- a write, with a limit from 1 on
  write-stays : (limit : ℕ) → 1 ≤ limit → (object offset : ℕ) (bytes : List ℕ) (time : Time) → InRange (write object offset bytes time)
      → (result s [] (write_outcome limit object offset bytes time s)).number ≡ 0 → StaysWithin limit (decode s) (decode (result s [] (write_outcome limit object offset bytes time s)).store)
  write-stays limit l object offset bytes time i e = go r.done
    where
      o : Outcome
      o = write_outcome limit object offset bytes time s

      r : FileCall s object (λ c o. ((length bytes ≡ 0) × (o ≡ accept 0 s [])) ⊎ Written limit offset bytes time s c o) o
      r = write-accepted limit object offset bytes time s e

      c : Change
      c = write_change r.card.object r.card.size offset bytes

      carried : Written limit offset bytes time s r.card o → Carried (length (clipped bytes)) c time s (rewrite_units limit (decode s) c (write_units c) (found_first s r.card)) o
      carried w = unfold plan_of in w.carried

      end : Written limit offset bytes time s r.card o → c.new_size ≤ most_size
      end w = unfold write_change in omega (arith, w.end, (card-in s r.passes b object r.card r.known).size)

      go : ((length bytes ≡ 0) × (o ≡ accept 0 s [])) ⊎ Written limit offset bytes time s r.card o → StaysWithin limit (decode s) (decode (result s [] o).store)
      go (inl z) = rw z.1 (unfold result in (λ object unit. inl refl))
      go (inr w) =
          change-stays r.passes (change-of-write s object r.card r.known offset bytes w.some) limit l o (carried w) w.timely (end w)
          (write_bytes s b limit object offset bytes time i.2)

  -- a grow
  grow-stays : (object size : ℕ) (time : Time) → InRange (grow object size time) → (call (grow object size time) s).number ≡ 0
      → StaysWithin most_runs (decode s) (decode (call (grow object size time) s).store)
  unfolding call
  grow-stays object size time i e = go r.done
    where
      o : Outcome
      o = grow_outcome object size time s

      r : FileCall s object (λ c o. ((size ≡ c.size) × (o ≡ accept 0 s [])) ⊎ Grown size time s c o) o
      r = grow-accepted object size time s e

      c : Change
      c = grow_change r.card.object r.card.size size

      carried : Grown size time s r.card o → Carried 0 c time s (rewrite_units most_runs (decode s) c (grow_units c) (found_first s r.card)) o
      carried w = unfold plan_of in w.carried

      go : ((size ≡ r.card.size) × (o ≡ accept 0 s [])) ⊎ Grown size time s r.card o → StaysWithin most_runs (decode s) (decode (result s [] o).store)
      go (inl z) = rw z.1 (unfold result in (λ object unit. inl refl))
      go (inr w) =
          change-stays r.passes (change-of-grow s object r.card r.known size w.more) most_runs (omega arith) o (carried w) w.timely (unfold grow_change in w.end)
          (unfold call in bytes-kept (grow object size time) s i b)

  -- every call
  pub call_stays : (c : Call) → InRange c → (call c s).number ≡ 0 → StaysWithin (kept_runs c) (decode s) (decode (call c s).store)
  unfolding kept_runs
  call_stays (fresh uuid reserved) i e =
      rw (fresh-says s b uuid reserved i e).volume
      (unfold fresh_volume unit_mapping runs in (λ object unit. inr (rw (stayed-none (mapping [] object) (mapping-nil object) (map (mapping (decode s).books.extents object) (range (unit * unit_blocks) unit_blocks)) (unit * unit_blocks) unit_blocks) (omega arith))))
  call_stays (enter object time) i e = rw (enter-says s b object time i e).volume (unfold entered unit_mapping in (λ o unit. inl refl))
  call_stays (write object offset bytes time) i e = unfold call in write-stays most_runs (omega arith) object offset bytes time i (unfold call in e)
  call_stays (write_archive object offset bytes time) i e = unfold call in write-stays archive_runs (omega arith) object offset bytes time i (unfold call in e)
  call_stays (grow object size time) i e = grow-stays object size time i e
  call_stays settle i e = rw (settle-says s b e).volume (unfold settled unit_mapping in (λ object unit. inl refl))
  call_stays (look l) i e = rw (look-stays l s) (λ object unit. inl refl)
