-- The finished extents: they are such as refusal 2 passes, their places are the old ones outside the rewritten units and the new ones, a block of the file is
-- where its unit has it, and what holds of old extents and of new places holds of them.
-- Assumes nothing.
use mathlib.Core.Path.{◌≡◌, refl, sym, ap, ◌∙◌}
use mathlib.Core.List.{List, flat_map}
use mathlib.Core.Bool.{Bool, true, false, not, ◌&&◌, ◌||◌}
use mathlib.Core.Option.{none}
use Prim.Native.Nat.{ℕ, ◌+◌, ◌^◌, ◌≤◌, ◌<◌}
use native.Mathlib.Omega.{arith}
use lib.Dec.{eqb, leb}
use borrow.Author.Tests.{eqb-true, eqb-false, leb-true, le-leb}
use Rattle.rules.specs.Lists.{pick◌then◌else◌, all, filter, count, begun}
use Rattle.rules.specs.Sizes.{block_bytes}
use Rattle.rules.specs.Card.{Card}
use Rattle.rules.specs.Extent.{Extent, extent_end, joined, mapping}
use Rattle.rules.specs.Integrity.{in_file}
use Rattle.rules.specs.Rewrite.{Rewritten}
use Rattle.rules.specs.Finish.{cut_units, call_runs, finished_extents}
use Rattle.rules.specs.Demand.{Place, places_of}
use Rattle.rules.proofs.ListLaws.{test-cases, clash, if-true, if-false, and_left, and_right, and_intro, Each, each_all, each_append, each_weaken}
use Rattle.rules.proofs.PassLaws.{all-each}
use Rattle.rules.proofs.ExtentLaws.{ExtentFits}
use Rattle.history.proofs.HolderLaws.{any-weaken}
use Rattle.history.proofs.Rewritten.{new_mapping, outside, new_places, Units, Apart, new_mapping-outside, new_mapping-inside}
use Rattle.history.proofs.ApartLaws.{Laid, laid_of, apart_of, each-flat_map, each-split}
use Rattle.history.proofs.MeetLaws.{Closed, each-take_in_all, laid-take_in_all}
use Rattle.history.proofs.MappingLaws.{or_else, or_else-none, mapping-none, mapping-take_in_all}
use Rattle.history.proofs.CutLaws.{Kept, each-cut_units, laid-cut_units, off-cut_units, mapping-cut_units}
use Rattle.history.proofs.RunLaws.{single, each-call_runs, laid-call_runs, between-after, mapping-call_runs, mapping-call_runs-other}
use Rattle.history.proofs.PlaceLaws.{places-joined, places-call_runs, many-take_in_all, places-cut_units}

-- ---- refusal 2

-- the finished extents are one behind the other
pub laid-after : (object : ℕ) (rs : List Rewritten) (es : List Extent) → Units rs → Laid es → Laid (finished_extents object rs es)
unfolding finished_extents
laid-after object rs es u l = laid-take_in_all (call_runs object rs) (laid-call_runs object rs u) (laid-cut_units object rs l) (between-after object rs es u l)

-- so refusal 2 passes them
pub apart-after : (object : ℕ) (rs : List Rewritten) (es : List Extent) → Units rs → Apart es → Apart (finished_extents object rs es)
apart-after object rs es u a = apart_of (finished_extents object rs es) (laid-after object rs es u (laid_of es a))

-- ---- places

-- as many places pass a test as did outside the rewritten units, and as new ones do
pub places-after : (object : ℕ) (rs : List Rewritten) (es : List Extent) (f : Place → Bool) → count f (flat_map places_of (finished_extents object rs es))
    ≡ count f (filter (λ p. not (eqb p.object object) || outside rs p.logical) (flat_map places_of es)) + count f (new_places object rs)
unfolding finished_extents
places-after object rs es f =
    let m = many-take_in_all f (call_runs object rs) (cut_units object rs es) in
    let c = ap (count f) (places-cut_units object rs es) in
    let r = ap (count f) (places-call_runs object rs) in
    omega (arith, m, c, r)

-- ---- where a block is

-- every block of every file, after the call
pub mapping-after : (object : ℕ) (rs : List Rewritten) (es : List Extent) → Units rs → Apart es → (o b : ℕ)
    → mapping (finished_extents object rs es) o b ≡ (pick eqb o object then new_mapping rs b (mapping es o b) else mapping es o b)
mapping-after object rs es u a o b =
    parts ∙ test-cases (or_else (mapping runs o b) (mapping cut o b) ≡ (pick eqb o object then new_mapping rs b (mapping es o b) else mapping es o b)) (eqb o object)
    (λ t. let q : o ≡ object = eqb-true o object t in
    test-cases (or_else (mapping runs o b) (mapping cut o b) ≡ new_mapping rs b (mapping es o b)) (outside rs b) (kept q) (new q)
    ∙ sym (if-true (eqb o object) (new_mapping rs b (mapping es o b)) (mapping es o b) t))
    (λ t. let d : o ≡ object → ⊥ = eqb-false o object t in
    rw (mapping-call_runs-other object rs o b d, mapping-cut_units object rs l o b (λ q. absurd (d q))) (unfold or_else in refl)
    ∙ sym (if-false (eqb o object) (new_mapping rs b (mapping es o b)) (mapping es o b) t))
  where
    l : Laid es
    l = laid_of es a

    runs : List Extent
    runs = call_runs object rs

    cut : List Extent
    cut = cut_units object rs es

    parts : mapping (finished_extents object rs es) o b ≡ or_else (mapping runs o b) (mapping cut o b)
    parts = unfold finished_extents in mapping-take_in_all o b runs cut (laid-call_runs object rs u) (laid-cut_units object rs l) (between-after object rs es u l)

    mine : o ≡ object → mapping runs o b ≡ new_mapping rs b none
    mine q = rw q (mapping-call_runs object rs u b)

    kept : o ≡ object → outside rs b ≡ true → or_else (mapping runs o b) (mapping cut o b) ≡ new_mapping rs b (mapping es o b)
    kept q t =
        rw (mine q, new_mapping-outside rs b none t, new_mapping-outside rs b (mapping es o b) t, mapping-cut_units object rs l o b (λ p. t)) (unfold or_else in refl)

    new : o ≡ object → outside rs b ≡ false → or_else (mapping runs o b) (mapping cut o b) ≡ new_mapping rs b (mapping es o b)
    new q t =
        let n : mapping cut o b ≡ none = rw q (mapping-none object b (each_weaken (λ x h c. clash t (h b c)) (off-cut_units object rs l))) in
        rw (n, mine q, or_else-none (new_mapping rs b none)) (new_mapping-inside rs b none (mapping es o b) t)

-- ---- what holds of each

-- what holds of every old extent and of every new place as an extent holds of every finished extent, if it holds of an extent's parts and of two that join
pub each_after : {P : Extent → Type 0} → Closed P → Kept P → (object : ℕ) (rs : List Rewritten) {es : List Extent} → Apart es
    → Each P es → Each (λ p. P (single p)) (new_places object rs) → Each P (finished_extents object rs es)
unfolding finished_extents
each_after c k object rs {es} a h g =
    each-take_in_all c (call_runs object rs) (cut_units object rs es) (each-call_runs c object rs g) (each-cut_units k object rs (laid_of es a).filled h)

-- what holds at the old places outside the rewritten units and at the new ones holds at all
pub each-place-after : {Q : Place → Type 0} (object : ℕ) (rs : List Rewritten) (es : List Extent)
    → Each Q (filter (λ p. not (eqb p.object object) || outside rs p.logical) (flat_map places_of es)) → Each Q (new_places object rs) → Each Q (flat_map places_of (finished_extents object rs es))
unfolding finished_extents
each-place-after {Q} object rs es h g =
    each-flat_map places_of (each-take_in_all {P = λ e. Each Q (places_of e)} (λ e f j p q. rw (places-joined e f j) (each_append p q)) (call_runs object rs) (cut_units object rs es)
    (each-split places_of (call_runs object rs) (rw (places-call_runs object rs) g)) (each-split places_of (cut_units object rs es) (rw (places-cut_units object rs es) h)))

-- ---- the device and the files

-- no finished extent ends past a block of the device that no old one ends past and before which every new place's lies
pub device-after : (n object : ℕ) (rs : List Rewritten) (es : List Extent) → Apart es → all (λ e. leb (e.physical + e.count) n) es ≡ true
    → Each (λ p. p.block < n) (new_places object rs) → all (λ e. leb (e.physical + e.count) n) (finished_extents object rs es) ≡ true
device-after n object rs es a h g =
    all-each (λ e. leb (e.physical + e.count) n) (each_weaken (λ e l. le-leb (e.physical + e.count) n l)
    (each_after {P = λ e. e.physical + e.count ≤ n} (unfold joined in (λ e f j p q. omega (arith, j.physical, q)))
    (λ x e w p. omega (arith, w.place, w.high, p)) object rs a
    (each_all (λ e. leb (e.physical + e.count) n) (λ e t. leb-true (e.physical + e.count) n t) es h) (each_weaken (λ p l. omega arith) g)))

-- the finished extents lie in the files of cards in which the old ones lie, and the new places
pub files-after : (cards : List Card) (object : ℕ) (rs : List Rewritten) (es : List Extent) → Apart es → all (in_file cards) es ≡ true
    → Each (λ p. in_file cards (single p) ≡ true) (new_places object rs) → all (in_file cards) (finished_extents object rs es) ≡ true
files-after cards object rs es a h g =
    all-each (in_file cards) (each_after {P = λ e. in_file cards e ≡ true} closed kept object rs a (each_all (in_file cards) (λ e t. t) es h) g)
  where
    same_end : (e x : Extent) → x.object ≡ e.object → extent_end x ≤ extent_end e → in_file cards e ≡ true → in_file cards x ≡ true
    same_end e x q l t = unfold in_file in
        any-weaken (λ c. eqb c.object x.object && leb (extent_end x) (begun c.size block_bytes)) (λ c. eqb c.object e.object && leb (extent_end e) (begun c.size block_bytes)) cards
        (λ c k. and_intro (eqb c.object x.object) (leb (extent_end x) (begun c.size block_bytes))
        (rw q (and_left (eqb c.object e.object) (leb (extent_end e) (begun c.size block_bytes)) k))
        (le-leb (extent_end x) (begun c.size block_bytes) (omega (arith, l, leb-true (extent_end e) (begun c.size block_bytes) (and_right (eqb c.object e.object) (leb (extent_end e) (begun c.size block_bytes)) k))))) t

    closed : Closed (λ e. in_file cards e ≡ true)
    closed e f j p q = same_end f (joined e f) (unfold joined in j.object) (unfold joined extent_end in omega (arith, j.logical)) q

    kept : Kept (λ e. in_file cards e ≡ true)
    kept x e w p = same_end e x w.object (unfold extent_end in w.high) p

-- ---- the range of the fields

-- every field of the extent is in its range, and so are its ends
pub record Ends (e : Extent) : Type 0 where
  pub object : e.object < 2 ^ 64
  pub logical : e.logical + e.count ≤ 2 ^ 64
  pub physical : e.physical + e.count ≤ 2 ^ 64
  pub count : e.count < 2 ^ 32
  pub filled : 0 < e.count

-- such an extent can be written
pub ends-fits : (e : Extent) → Ends e → ExtentFits e
ends-fits e h = record { object = h.object; logical = omega (arith, h.logical, h.filled); physical = omega (arith, h.physical, h.filled); count = h.count }

-- the finished extents can be, if the old ones and the new places are in range
pub ends-after : (object : ℕ) (rs : List Rewritten) (es : List Extent) → Apart es → Each Ends es
    → Each (λ p. (p.object < 2 ^ 64) × (p.logical < 2 ^ 64) × (p.block < 2 ^ 64)) (new_places object rs) → Each Ends (finished_extents object rs es)
ends-after object rs es a h g = each_after closed kept object rs a h (each_weaken (λ p t. record { object = t.0; logical = omega (arith, t.1); physical = omega (arith, t.2); count = omega arith; filled = omega arith }) g)
  where
    closed : Closed Ends
    closed e f j p q = unfold joined in record {
      object = p.object;
      logical = omega (arith, j.logical, q.logical);
      physical = omega (arith, j.physical, q.physical);
      count = omega (arith, j.most);
      filled = omega (arith, p.filled);
    }

    kept : Kept Ends
    kept x e w p = record {
      object = rw w.object p.object;
      logical = omega (arith, w.high, p.logical);
      physical = omega (arith, w.place, w.high, p.physical);
      count = omega (arith, w.low, w.high, p.count);
      filled = w.filled;
    }
