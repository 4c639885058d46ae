-- The device's blocks after a change: none gets a second place, each is in one place where it was, and the maps keep their rules.
-- Assumes nothing.
use mathlib.Core.Path.{◌≡◌, refl, sym, ap, subst, ◌∙◌}
use mathlib.Core.List.{List, [], ◌∷◌, flat_map, Memᴰ}
use mathlib.Core.Bool.{Bool, true, false, not, ◌&&◌, ◌||◌}
use mathlib.Core.Option.{Option, none, some}
use Prim.Native.Nat.{ℕ, suc, ◌+◌, ◌*◌, ◌≤◌, ◌<◌}
use native.Mathlib.Nat.{zero-add}
use native.Mathlib.Decide.{dec_lt}
use native.Mathlib.Omega.{arith}
use lib.Dec.{eqb, leb}
use lib.ListN.{length, get_or}
use borrow.Author.Tests.{eq-eqb, ltb-true, ltb-false, lt-ltb, leb-true, le-leb, not-true}
use Rattle.rules.specs.Time.{Time}
use Rattle.rules.specs.Lists.{pick◌then◌else◌, count, member}
use Rattle.rules.specs.Sizes.{unit_blocks}
use Rattle.rules.specs.Extent.{mapping}
use Rattle.rules.specs.Store.{Volume}
use Rattle.rules.specs.Integrity.{mapped_right, reserved_right, retired_right}
use Rattle.rules.specs.Units.{Change}
use Rattle.rules.specs.Rewrite.{Progress, Rewritten}
use Rattle.rules.specs.Finish.{new_blocks, superseded_blocks, finished_extents, finished}
use Rattle.rules.specs.Demand.{Place, places_of, places, holders}
use Rattle.rules.proofs.ListLaws.{clash, test-cases, and_left, and_right, and_intro, or_cases, or_left, or_right, all-range-at, all-range-of, Each, each_none, each_more, each_all, each_append, each_weaken}
use Rattle.rules.proofs.CountLaws.{member-count, member-each}
use Rattle.rules.proofs.PassLaws.{all-each, mappable, mapped-all, all-mapped}
use Rattle.history.proofs.HolderLaws.{retired-used}
use Rattle.history.proofs.Rewritten.{outside, block_places, new_places}
use Rattle.history.proofs.ApartLaws.{each-filter}
use Rattle.history.proofs.ExtentsAfter.{each-place-after}
use Rattle.history.proofs.ExtentsFromPlaces.{mapped-places}
use Rattle.history.proofs.ImageAfter.{LaidOut, assigned-new}
use Rattle.rules.proofs.KeptLaws.{length-assigned, assigned-kept}
use Rattle.history.proofs.UnitLaws.{get_or-mapped, valid-blocks}
use Rattle.history.proofs.PlannedLaws.{Made, made-blocks}
use Rattle.history.proofs.BalanceLaws.{balance, superseded-places}
use Rattle.history.proofs.AfterUnits.{Carrying, apart-old, mapping-all}
use Rattle.history.proofs.MoreLists.{all-counted, count_turn, counted-once, each-mem, each-of-mem, mem-counted}

-- ---- places

-- what holds of each block of a unit at its place holds of its places
each-block_places : {Q : Place → Type 0} (object l : ℕ) (bs : List ℕ) → ((i : ℕ) → i < length bs → Q (record { object = object; logical = l + i; block = get_or bs i 0 }))
    → Each Q (block_places object l bs)
unfolding block_places
each-block_places object l [] h = each_none
each-block_places {Q} object l (b ∷ bs) h =
    let z : l + 0 ≡ l = omega arith in
    each_more (subst (λ (n : ℕ). Q (record { object = object; logical = n; block = b })) z (h 0 (omega arith)))
    (each-block_places object (suc l) bs (λ i m. let e : l + suc i ≡ suc l + i = omega arith in
    subst (λ (n : ℕ). Q (record { object = object; logical = n; block = get_or bs i 0 })) e (h (suc i) (omega arith))))

-- and so for all units
pub each-new_places : {Q : Place → Type 0} (object : ℕ) {rs : List Rewritten}
    → Each (λ r. (i : ℕ) → i < length r.blocks → Q (record { object = object; logical = r.unit * unit_blocks + i; block = get_or r.blocks i 0 })) rs → Each Q (new_places object rs)
unfolding new_places
each-new_places object each_none = each_none
each-new_places object (each_more {x = r} h k) = each_append (each-block_places object (r.unit * unit_blocks) r.blocks h) (each-new_places object k)

-- a block of the device that is not reserved
pub record Sited (v : Volume) (b : ℕ) : Type 0 where
  pub below : b < v.blocks
  pub past : v.reserved ≤ b

-- ---- tallies

-- a block becomes used that was not
tally-used : (u m : Bool) → (m ≡ true → u ≡ false) → (pick u || m then 0 else 1) + (pick m then 1 else 0) ≡ (pick u then 0 else 1)
unfolding pick◌then◌else◌
tally-used true true h = absurd (clash (h refl) refl)
tally-used true false h = refl
tally-used false true h = refl
tally-used false false h = refl

-- a block becomes retired that was not
tally-retired : (t m : Bool) → (m ≡ true → t ≡ false) → (pick t || m then 1 else 0) ≡ (pick t then 1 else 0) + (pick m then 1 else 0)
unfolding pick◌then◌else◌
tally-retired true true h = absurd (clash (h refl) refl)
tally-retired true false h = refl
tally-retired false true h = refl
tally-retired false false h = refl

module _ {v : Volume} {c : Change} {rs : List Rewritten} (d : Carrying v c rs) where
  -- each place's block is such
  places-mappable : Each (λ x. mappable v x.block ≡ true) (flat_map places_of v.books.extents)
  places-mappable = each_all (λ x. mappable v x.block) (λ x t. t) (flat_map places_of v.books.extents) (sym (mapped-places (mappable v) v.books.extents) ∙ mapped-all v d.lawful.mapped)

  -- such a block is used
  mappable-used : (b : ℕ) → mappable v b ≡ true → v.used b ≡ true
  mappable-used b t = and_left (v.used b) (not (v.retired b)) (and_left (v.used b && not (v.retired b)) (leb v.reserved b) t)

  -- such a block is not retired
  mappable-kept : (b : ℕ) → mappable v b ≡ true → v.retired b ≡ false
  mappable-kept b t = not-true (v.retired b) (and_right (v.used b) (not (v.retired b)) (and_left (v.used b && not (v.retired b)) (leb v.reserved b) t))

  -- such a block is not reserved
  mappable-past : (b : ℕ) → mappable v b ≡ true → v.reserved ≤ b
  mappable-past b t = leb-true v.reserved b (and_right (v.used b && not (v.retired b)) (leb v.reserved b) t)

  -- a used block is one of the device's
  used-below : (b : ℕ) → v.used b ≡ true → b < v.blocks
  used-below b t = go (dec_lt b v.blocks)
    where
      go : Dec (b < v.blocks) → b < v.blocks
      go (yes l) = l
      go (no l) = absurd (clash (d.lawful.used_past b (omega arith)) t)

  -- a reserved block is used
  reserved-used : (b : ℕ) → b < v.reserved → (v.used b && not (v.retired b)) ≡ true
  reserved-used b l = rw (zero-add b) at (all-range-at (λ n. v.used n && not (v.retired n)) 0 v.reserved (unfold reserved_right in d.lawful.reserved) b l)

  -- how many places have a block
  abbrev placed-before : ℕ → ℕ
  placed-before b = count (λ x. eqb x.block b) (flat_map places_of v.books.extents)

  -- and how many after the change
  abbrev placed-after : ℕ → ℕ
  placed-after b = count (λ x. eqb x.block b) (flat_map places_of (finished_extents c.object rs v.books.extents))

  -- a block that has a place is such
  placed-mappable : (b : ℕ) → 0 < placed-before b → mappable v b ≡ true
  placed-mappable b = all-counted (λ x. x.block) (mappable v) b places-mappable

  -- superseded blocks are counted among the places
  superseded-counted : (b : ℕ) → count (eqb b) (superseded_blocks rs) ≤ placed-before b
  superseded-counted b = omega (arith, superseded-places v c (λ x. eqb x b) (λ o. true) rs (apart-old d) refl d.made d.order, count_turn b (superseded_blocks rs))

  -- a superseded block is counted
  superseded-some : (b : ℕ) → member b (superseded_blocks rs) ≡ true → 0 < count (eqb b) (superseded_blocks rs)
  superseded-some b m = ltb-true 0 (count (eqb b) (superseded_blocks rs)) (sym (member-count b (superseded_blocks rs)) ∙ m)

  -- and was mapped
  superseded-mapped : (b : ℕ) → member b (superseded_blocks rs) ≡ true → mappable v b ≡ true
  superseded-mapped b m = placed-mappable b (omega (arith, superseded-counted b, superseded-some b m))

  -- a used block is not new
  new_none : (b : ℕ) → v.used b ≡ true → count (eqb b) (new_blocks rs) ≡ 0
  new_none b u =
      test-cases (count (eqb b) (new_blocks rs) ≡ 0) (member b (new_blocks rs)) (λ m. absurd (clash (d.free b m).1 u))
      (λ m. omega (arith, ltb-false 0 (count (eqb b) (new_blocks rs)) (sym (member-count b (new_blocks rs)) ∙ m)))

  -- a block's places lose it where it is superseded and gain it where it is new
  balance-at : (b : ℕ) → placed-after b + count (eqb b) (superseded_blocks rs) ≡ placed-before b + count (eqb b) (new_blocks rs)
  balance-at b = omega (arith, balance v c (λ x. eqb x b) (λ o. true) rs (apart-old d) refl d.made d.order, count_turn b (new_blocks rs), count_turn b (superseded_blocks rs))

  -- a block that is not used has no place
  placed-none : (b : ℕ) → v.used b ≡ false → placed-before b ≡ 0
  placed-none b u = go (dec_lt 0 (placed-before b))
    where
      go : Dec (0 < placed-before b) → placed-before b ≡ 0
      go (yes l) = absurd (clash u (mappable-used b (placed-mappable b l)))
      go (no l) = omega arith

  -- a block that has one place at most has no more after the change
  pub unshared-after : (b : ℕ) → placed-before b ≤ 1 → placed-after b ≤ 1
  unshared-after b l =
      test-cases (placed-after b ≤ 1) (v.used b) (λ u. omega (arith, balance-at b, new_none b u)) (λ u. omega (arith, balance-at b, placed-none b u, d.once b))

  -- each block of a rewritten unit is
  made-sited : (r : Rewritten) → Made v c r → (i : ℕ) → i < length r.blocks → Sited v (get_or r.blocks i 0)
  made-sited r m i l = go (get_or r.kept i none) refl
    where
      k : LaidOut v.blocks r
      k = m.placed.laid

      long : length r.blocks ≡ length r.kept
      long = ap length k.blocks ∙ length-assigned r.kept r.new k.many

      free : (b : ℕ) → member b r.new ≡ true → Sited v b
      free b t =
          let f = member-each (λ b. (b < v.blocks) × (v.used b ≡ false) × (member b m.found.taken ≡ false)) m.placed.free b t in
          record { below = f.0; past = late b f.1 (dec_lt b v.reserved) }
        where
          late : (b : ℕ) → v.used b ≡ false → Dec (b < v.reserved) → v.reserved ≤ b
          late b u (yes z) = absurd (clash u (and_left (v.used b) (not (v.retired b)) (reserved-used b z)))
          late b u (no z) = omega arith

      go : (o : Option ℕ) → get_or r.kept i none ≡ o → Sited v (get_or r.blocks i 0)
      go none e = free (get_or r.blocks i 0) (rw k.blocks (assigned-new r.kept r.new k.many i (omega (arith, long)) e))
      go (some b) e =
          let n : get_or r.blocks i 0 ≡ b = ap (λ (bs : List ℕ). get_or bs i 0) k.blocks ∙ assigned-kept r.kept r.new k.many i b e in
          let o : mapping v.books.extents c.object (r.unit * unit_blocks + i) ≡ some b =
          sym (get_or-mapped v c.object r.unit unit_blocks i (omega (arith, made-blocks m, valid-blocks c.new_size r.unit))) ∙ m.placed.keeps i b e in
          let t : mappable v b ≡ true = mapping-all (mappable v) v.books.extents (mapped-all v d.lawful.mapped) c.object (r.unit * unit_blocks + i) b o in
          rw n (record { below = used-below b (mappable-used b t); past = mappable-past b t })

  -- each new place's block is
  pub new-sited : Each (λ x. Sited v x.block) (new_places c.object rs)
  new-sited = each-new_places c.object (each_weaken (λ r m i l. made-sited r m i l) d.made)

  -- the places after the change
  abbrev after-places : List Place
  after-places = flat_map places_of (finished_extents c.object rs v.books.extents)

  -- the used blocks after it
  abbrev used' : ℕ → Bool
  used' n = v.used n || member n (new_blocks rs)

  -- the retired blocks after it
  abbrev retired' : ℕ → Bool
  retired' n = v.retired n || member n (superseded_blocks rs)

  -- a block that has a place after it is used
  placed-used : (b : ℕ) → 0 < placed-after b → used' b ≡ true
  placed-used b l =
      test-cases (used' b ≡ true) (v.used b) (λ u. or_left (v.used b) (member b (new_blocks rs)) u)
      (λ u. or_right (v.used b) (member b (new_blocks rs)) (member-count b (new_blocks rs) ∙ lt-ltb 0 (count (eqb b) (new_blocks rs)) (omega (arith, balance-at b, placed-none b u, l))))

  -- and is not retired, where it had one place at most: a superseded block has lost that
  placed-kept : (b : ℕ) → placed-before b ≤ 1 → 0 < placed-after b → retired' b ≡ false
  placed-kept b one l = test-cases (retired' b ≡ false) (retired' b) (λ t. absurd (or_cases ⊥ (v.retired b) (member b (superseded_blocks rs)) t was now)) (λ t. t)
    where
      was : v.retired b ≡ true → ⊥
      was e =
          let n : count (eqb b) (new_blocks rs) ≡ 0 = new_none b (retired-used v d.lawful b e) in
          clash (mappable-kept b (placed-mappable b (omega (arith, balance-at b, n, l)))) e

      now : member b (superseded_blocks rs) ≡ true → ⊥
      now m = omega (arith, balance-at b, superseded-some b m, new_none b (mappable-used b (superseded-mapped b m)), one, l)

  module _ (time : Time) (q : Progress) where
    -- every block is in one place, where it was
    pub holders-after : (reserved b : ℕ) → holders reserved v b ≡ 1 → holders reserved (finished c time rs q v) b ≡ 1
    unfolding holders finished places
    holders-after reserved b h =
        let n : count (eqb b) (new_blocks rs) ≡ (pick member b (new_blocks rs) then 1 else 0) = counted-once b (new_blocks rs) (d.once b) in
        let s : count (eqb b) (superseded_blocks rs) ≡ (pick member b (superseded_blocks rs) then 1 else 0) = counted-once b (superseded_blocks rs) (omega (arith, superseded-counted b)) in
        let t = tally-used (v.used b) (member b (new_blocks rs)) (λ m. (d.free b m).1) in
        let r = tally-retired (v.retired b) (member b (superseded_blocks rs)) (λ m. mappable-kept b (superseded-mapped b m)) in
        omega (arith, h, balance-at b, n, s, t, r)

    -- what a block of a place is after
    abbrev fit' : ℕ → Bool
    fit' n = used' n && not (retired' n) && leb v.reserved n

    -- so is each place's after the change
    sited-after : Each (λ x. Sited v x.block) after-places
    sited-after =
        each-place-after c.object rs v.books.extents
        (each-filter (λ x. not (eqb x.object c.object) || outside rs x.logical) (each_weaken (λ x t. record { below = used-below x.block (mappable-used x.block t); past = mappable-past x.block t }) places-mappable))
        new-sited

    -- mapped blocks keep the rule, where each was at one place at most
    pub mapped-after-right : ((b : ℕ) → b < v.blocks → placed-before b ≤ 1) → mapped_right (finished c time rs q v) ≡ true
    unfolding finished
    mapped-after-right one = all-mapped (finished c time rs q v) (
        mapped-places fit' (finished_extents c.object rs v.books.extents)
        ∙ all-each (λ x. fit' x.block) (each-of-mem after-places (λ x m. fits x m (each-mem sited-after m))))
      where
        fits : (x : Place) → Memᴰ x after-places → Sited v x.block → fit' x.block ≡ true
        fits x m s =
            let b : ℕ = x.block in
            let n : 0 < placed-after b = mem-counted (λ x. eqb x.block b) after-places m (eq-eqb b b refl) in
            and_intro (used' b && not (retired' b)) (leb v.reserved b) (and_intro (used' b) (not (retired' b)) (placed-used b n) (ap not (placed-kept b (one b s.below) n))) (le-leb v.reserved b s.past)

    -- reserved blocks keep the rule
    pub reserved-after : reserved_right (finished c time rs q v) ≡ true
    unfolding reserved_right finished
    reserved-after =
        all-range-of (λ n. used' n && not (retired' n)) 0 v.reserved (λ i l. rw (zero-add i) (keeps i l))
      where
        stays : (b : ℕ) → b < v.reserved → retired' b ≡ false
        stays b l =
            test-cases (retired' b ≡ false) (retired' b)
            (λ t. absurd (or_cases ⊥ (v.retired b) (member b (superseded_blocks rs)) t
            (λ e. clash (not-true (v.retired b) (and_right (v.used b) (not (v.retired b)) (reserved-used b l))) e)
            (λ e. omega (arith, l, mappable-past b (superseded-mapped b e))))) (λ t. t)

        keeps : (b : ℕ) → b < v.reserved → (used' b && not (retired' b)) ≡ true
        keeps b l = and_intro (used' b) (not (retired' b)) (or_left (v.used b) (member b (new_blocks rs)) (and_left (v.used b) (not (v.retired b)) (reserved-used b l))) (ap not (stays b l))

    -- retired blocks keep the rule
    pub retired-after : retired_right (finished c time rs q v) ≡ true
    unfolding retired_right finished
    retired-after = all-range-of (λ n. not (retired' n) || used' n) 0 v.blocks (λ i l. keeps (0 + i))
      where
        used : (b : ℕ) → retired' b ≡ true → used' b ≡ true
        used b t =
            or_left (v.used b) (member b (new_blocks rs))
            (or_cases (v.used b ≡ true) (v.retired b) (member b (superseded_blocks rs)) t (λ e. retired-used v d.lawful b e) (λ e. mappable-used b (superseded-mapped b e)))

        keeps : (b : ℕ) → (not (retired' b) || used' b) ≡ true
        keeps b = test-cases ((not (retired' b) || used' b) ≡ true) (retired' b) (λ t. or_right (not (retired' b)) (used' b) (used b t)) (λ t. or_left (not (retired' b)) (used' b) (ap not t))

  -- no block past the device is used
  pub used-past : (n : ℕ) → v.blocks ≤ n → used' n ≡ false
  used-past n l =
      test-cases (used' n ≡ false) (used' n)
      (λ t. absurd (or_cases ⊥ (v.used n) (member n (new_blocks rs)) t (λ e. clash (d.lawful.used_past n l) e) (λ e. omega (arith, (d.free n e).0)))) (λ t. t)

  -- no block past the device is retired
  pub retired-past : (n : ℕ) → v.blocks ≤ n → retired' n ≡ false
  retired-past n l =
      test-cases (retired' n ≡ false) (retired' n)
      (λ t. absurd (or_cases ⊥ (v.retired n) (member n (superseded_blocks rs)) t (λ e. clash (d.lawful.retired_past n l) e)
      (λ e. clash (d.lawful.used_past n l) (mappable-used n (superseded-mapped n e))))) (λ t. t)
