-- The places of a book's extents: joining moves none, runs taken in add theirs, a unit cut out takes its own away. No order of the extents is asked for.
-- Assumes nothing.
use mathlib.Core.Path.{◌≡◌, refl, sym, ap, ◌∙◌}
use mathlib.Core.List.{List, [], ◌∷◌, ◌++◌, map, flat_map, append-nil, append_assoc}
use mathlib.Core.Bool.{Bool, true, false, not, ◌&&◌, ◌||◌}
use Prim.Native.Nat.{ℕ, zero, suc, ◌+◌, ◌-◌, ◌*◌, ◌/◌, ◌≤◌, ◌<◌, min, max}
use native.Mathlib.Nat.{add-zero, add-suc}
use native.Mathlib.Omega.{arith}
use lib.Dec.{eqb, ltb}
use lib.ListN.{length}
use borrow.Author.Tests.{eq-eqb, ne_eqb, ltb-true, ltb-false}
use Rattle.rules.specs.Lists.{range, all, filter, count}
use Rattle.rules.specs.Sizes.{unit_blocks}
use Rattle.rules.specs.Extent.{Extent, extent_before, extent_end, joins, joined}
use Rattle.rules.specs.Rewrite.{Rewritten}
use Rattle.rules.specs.Finish.{up_to, from, part_before, part_from, cut_unit, cut_units, meet, attach, take_in, take_in_all, start_runs, call_runs}
use Rattle.rules.specs.Demand.{Place, places_of}
use Rattle.rules.proofs.ListLaws.{test-cases, if-true, if-false, if-cases, or_right, length-range, range-add, filter-yes, filter-no, filter-append, filter-every, count-append, each-any}
use Rattle.rules.proofs.CountLaws.{filter-each, filter-nothing, filter-filter, flat_map-append, range_none}
use Rattle.rules.proofs.PassLaws.{all-each}
use Rattle.history.proofs.Rewritten.{outside, block_places, new_places}
use Rattle.history.proofs.MeetLaws.{Joining, joins_true}
use Rattle.history.proofs.CutLaws.{cut_one, cut-each}
use Rattle.history.proofs.RunLaws.{each-stretch}

-- ---- one extent

-- the places of blocks that stand side by side on the device
abbrev stretch : ℕ → ℕ → ℕ → ℕ → List Place
stretch object logical physical n = block_places object logical (range physical n)

-- the places of a list in two parts
block_places-append : (object logical : ℕ) (bs cs : List ℕ) → block_places object logical (bs ++ cs) ≡ block_places object logical bs ++ block_places object (logical + length bs) cs
unfolding block_places
block_places-append object logical [] cs = rw (add-zero logical) refl
block_places-append object logical (b ∷ bs) cs =
    let e : logical + suc (length bs) ≡ suc logical + length bs = omega arith in
    rw e (ap (λ (ps : List Place). record { object = object; logical = logical; block = b } ∷ ps) (block_places-append object (suc logical) bs cs))

-- a stretch in two parts
stretch-add : (object logical physical n m : ℕ) → stretch object logical physical (n + m) ≡ stretch object logical physical n ++ stretch object (logical + n) (physical + n) m
stretch-add object logical physical n m =
    ap (block_places object logical) (range-add physical n m) ∙ block_places-append object logical (range physical n) (range (physical + n) m) ∙ rw (length-range physical n) refl

-- an extent's places are a stretch
places-from : (object logical physical first n : ℕ)
    → map {B = Place} (λ i. record { object = object; logical = logical + i; block = physical + i }) (range first n) ≡ stretch object (logical + first) (physical + first) n
unfolding range block_places
places-from object logical physical first zero = refl
places-from object logical physical first (suc n) =
    ap (λ (ps : List Place). record { object = object; logical = logical + first; block = physical + first } ∷ ps)
    (places-from object logical physical (suc first) n ∙ rw (add-suc logical first, add-suc physical first) refl)

-- from its first block on
pub places-stretch : (e : Extent) → places_of e ≡ block_places e.object e.logical (range e.physical e.count)
unfolding places_of
places-stretch e = places-from e.object e.logical e.physical 0 e.count ∙ rw (add-zero e.logical, add-zero e.physical) refl

-- two that join have the places of both
pub places-joined : (e f : Extent) → Joining e f → places_of (joined e f) ≡ places_of e ++ places_of f
unfolding joined
places-joined e f j =
    places-stretch (joined e f) ∙ stretch-add e.object e.logical e.physical e.count f.count
    ∙ rw (places-stretch e, places-stretch f, j.object, j.logical, j.physical) refl

-- ---- joining

-- an extent before others
places-meet : (e : Extent) (fs : List Extent) → flat_map places_of (meet e fs) ≡ places_of e ++ flat_map places_of fs
unfolding meet flat_map
places-meet e [] = refl
places-meet e (f ∷ fs) =
    if-cases (λ (xs : List Extent). flat_map places_of xs ≡ places_of e ++ (places_of f ++ flat_map places_of fs)) (joins e f) (joined e f ∷ fs) (e ∷ f ∷ fs)
    (λ j. ap (λ (ps : List Place). ps ++ flat_map places_of fs) (places-joined e f (joins_true e f j)) ∙ append_assoc (places_of e) (places_of f) (flat_map places_of fs))
    (λ j. refl)

-- extents before others
places-attach : (es fs : List Extent) → flat_map places_of (attach es fs) ≡ flat_map places_of es ++ flat_map places_of fs
unfolding attach flat_map
places-attach [] fs = refl
places-attach (e ∷ []) fs = places-meet e fs ∙ ap (λ (ps : List Place). ps ++ flat_map places_of fs) (sym (append-nil (places_of e)))
places-attach (e ∷ d ∷ es) fs =
    ap (λ (ps : List Place). places_of e ++ ps) (places-attach (d ∷ es) fs) ∙ sym (append_assoc (places_of e) (places_of d ++ flat_map places_of es) (flat_map places_of fs))

-- those of a stretch before other runs
places-start : (object logical : ℕ) (bs : List ℕ) (fs : List Extent) → flat_map places_of (start_runs object logical bs fs) ≡ block_places object logical bs ++ flat_map places_of fs
unfolding start_runs block_places
places-start object logical [] fs = refl
places-start object logical (b ∷ bs) fs =
    let x : Extent = record { object = object; logical = logical; physical = b; count = 1 } in
    places-meet x (start_runs object (suc logical) bs fs)
    ∙ rw (places-stretch x, places-start object (suc logical) bs fs) (unfold range in refl)

-- the runs have the new places
pub places-call_runs : (object : ℕ) (rs : List Rewritten) → flat_map places_of (call_runs object rs) ≡ new_places object rs
unfolding call_runs new_places
places-call_runs object [] = unfold flat_map in refl
places-call_runs object (r ∷ rs) =
    places-start object (r.unit * unit_blocks) r.blocks (call_runs object rs)
    ∙ ap (λ (ps : List Place). block_places object (r.unit * unit_blocks) r.blocks ++ ps) (places-call_runs object rs)

-- ---- runs taken in

module _ (f : Place → Bool) where
  -- how many places of a book's extents pass a test
  abbrev many : List Extent → ℕ
  many es = count f (flat_map places_of es)

  -- the same over extents that pass another test, and those that do not
  many-parts : (g : Extent → Bool) (es : List Extent) → many (filter g es) + many (filter (λ e. not (g e)) es) ≡ many es
  many-parts g [] = unfold filter flat_map count in refl
  many-parts g (e ∷ es) =
      let h : many (filter g es) + many (filter (λ d. not (g d)) es) ≡ many es = many-parts g es in
      let m : (ds : List Extent) → many (e ∷ ds) ≡ count f (places_of e) + many ds = λ ds. unfold flat_map in count-append f (places_of e) (flat_map places_of ds) in
      test-cases (many (filter g (e ∷ es)) + many (filter (λ d. not (g d)) (e ∷ es)) ≡ many (e ∷ es)) (g e)
      (λ t. rw (filter-yes g e es t, filter-no (λ d. not (g d)) e es (ap not t)) (omega (arith, m (filter g es), m es)))
      (λ t. rw (filter-no g e es t, filter-yes (λ d. not (g d)) e es (ap not t)) (omega (arith, m (filter (λ d. not (g d)) es), m es)))

  -- a run taken in
  many-take_in : (run : Extent) (es : List Extent) → many (take_in run es) ≡ count f (places_of run) + many es
  unfolding take_in
  many-take_in run es =
      let g : Extent → Bool = λ e. extent_before e run in
      let ds : List Extent = filter g es in
      let bs : List Extent = filter (λ e. not (g e)) es in
      let p : many (attach ds (meet run bs)) ≡ many ds + (count f (places_of run) + many bs) =
      ap (count f) (places-attach ds (meet run bs) ∙ ap (λ (ps : List Place). flat_map places_of ds ++ ps) (places-meet run bs))
      ∙ count-append f (flat_map places_of ds) (places_of run ++ flat_map places_of bs) ∙ ap (λ n. many ds + n) (count-append f (places_of run) (flat_map places_of bs)) in
      omega (arith, p, many-parts g es)

  -- runs taken in
  pub many-take_in_all : (runs es : List Extent) → count f (flat_map places_of (take_in_all runs es)) ≡ count f (flat_map places_of runs) + count f (flat_map places_of es)
  unfolding take_in_all
  many-take_in_all [] es = unfold flat_map count filter in omega arith
  many-take_in_all (run ∷ runs) es =
      let m : many (run ∷ runs) ≡ count f (places_of run) + many runs = unfold flat_map in count-append f (places_of run) (flat_map places_of runs) in
      omega (arith, m, many-take_in_all runs (take_in run es), many-take_in run es)

-- ---- a unit cut out

-- the part before a block is a stretch
places-before : (e : Extent) (block : ℕ)
    → flat_map places_of (part_before e block) ≡ stretch e.object e.logical e.physical (min (e.logical + e.count) block - e.logical)
unfolding part_before flat_map up_to extent_end block_places
places-before e block =
    if-cases (λ (xs : List Extent). flat_map places_of xs ≡ stretch e.object e.logical e.physical (min (e.logical + e.count) block - e.logical))
    (ltb e.logical block) (up_to e (min (e.logical + e.count) block) ∷ []) []
    (λ t. append-nil (places_of (up_to e (min (e.logical + e.count) block))) ∙ places-stretch (up_to e (min (e.logical + e.count) block)))
    (λ t. let l : block ≤ e.logical = ltb-false e.logical block t in
    ap (block_places e.object e.logical) (sym (range_none e.physical (min (e.logical + e.count) block - e.logical) (omega arith))))

-- the part from a block on too, where it is there
places-from-on : (e : Extent) (block : ℕ) → ltb block (extent_end e) ≡ true
    → flat_map places_of (part_from e block) ≡ stretch e.object (max e.logical block) (e.physical + (max e.logical block - e.logical)) (e.logical + e.count - max e.logical block)
unfolding part_from flat_map from extent_end
places-from-on e block t =
    rw (if-true (ltb block (e.logical + e.count)) (from e (max e.logical block) ∷ []) [] t)
    (append-nil (places_of (from e (max e.logical block))) ∙ places-stretch (from e (max e.logical block)))

-- where it is not there it has no place
places-from-none : (e : Extent) (block : ℕ) → ltb block (extent_end e) ≡ false → flat_map places_of (part_from e block) ≡ []
unfolding part_from flat_map
places-from-none e block t = rw (if-false (ltb block (extent_end e)) (from e (max e.logical block) ∷ []) [] t) refl

-- the place does not lie in this unit of this file
abbrev pub spared : ℕ → ℕ → Place → Bool
spared object unit p = not (eqb p.object object) || not (eqb (p.logical / unit_blocks) unit)

module _ (object unit : ℕ) where
  -- a stretch none of whose blocks lies in the unit
  spared-all : (o logical physical n : ℕ) → ((x : ℕ) → logical ≤ x → x < logical + n → x / unit_blocks ≡ unit → ⊥)
      → filter (spared object unit) (stretch o logical physical n) ≡ stretch o logical physical n
  spared-all o logical physical n h =
      let e : length (range physical n) ≡ n = length-range physical n in
      filter-every (spared object unit) (stretch o logical physical n)
      (all-each (spared object unit) (each-stretch o logical (range physical n)
      (λ x b l m. or_right (not (eqb o object)) (not (eqb (x / unit_blocks) unit)) (ap not (ne_eqb (x / unit_blocks) unit (h x l (omega arith)))))))

  -- a stretch all of whose blocks do
  spared-none : (o logical physical n : ℕ) → eqb o object ≡ true → ((x : ℕ) → logical ≤ x → x < logical + n → eqb (x / unit_blocks) unit ≡ true)
      → filter (spared object unit) (stretch o logical physical n) ≡ []
  spared-none o logical physical n t h =
      let e : length (range physical n) ≡ n = length-range physical n in
      filter-nothing (spared object unit) (each-stretch o logical (range physical n)
      (λ x b l m. ap (λ z. not z || not (eqb (x / unit_blocks) unit)) t ∙ ap not (h x l (omega arith))))

  -- a stretch of another file
  spared_other : (o logical : ℕ) (bs : List ℕ) → eqb o object ≡ false → filter (spared object unit) (block_places o logical bs) ≡ block_places o logical bs
  spared_other o logical bs t =
      filter-every (spared object unit) (block_places o logical bs)
      (all-each (spared object unit) (each-stretch o logical bs (λ x b l m. ap (λ z. not z || not (eqb (x / unit_blocks) unit)) t)))

  -- what is left of a stretch of the file: what lies before the unit, and what lies behind it
  spared-parts : (o logical physical a b c : ℕ) → eqb o object ≡ true
      → ((x : ℕ) → logical ≤ x → x < logical + a → x / unit_blocks ≡ unit → ⊥)
      → ((x : ℕ) → logical + a ≤ x → x < logical + a + b → eqb (x / unit_blocks) unit ≡ true)
      → ((x : ℕ) → logical + a + b ≤ x → x < logical + a + b + c → x / unit_blocks ≡ unit → ⊥)
      → filter (spared object unit) (stretch o logical physical (a + (b + c))) ≡ stretch o logical physical a ++ stretch o (logical + a + b) (physical + a + b) c
  spared-parts o logical physical a b c t f g h =
      let keep : List Place → List Place = filter (spared object unit) in
      let x : List Place = stretch o logical physical a in
      let y : List Place = stretch o (logical + a) (physical + a) b in
      let z : List Place = stretch o (logical + a + b) (physical + a + b) c in
      ap keep (stretch-add o logical physical a (b + c) ∙ ap (λ (ps : List Place). x ++ ps) (stretch-add o (logical + a) (physical + a) b c))
      ∙ filter-append (spared object unit) x (y ++ z)
      ∙ rw (spared-all o logical physical a f, filter-append (spared object unit) y z, spared-none o (logical + a) (physical + a) b t g, spared-all o (logical + a + b) (physical + a + b) c h) refl

  -- how many blocks of an extent lie before the unit
  abbrev early : Extent → ℕ
  early e = min (e.logical + e.count) (unit * unit_blocks) - e.logical

  -- the places of an extent's two parts
  abbrev left : Extent → List Place
  left e = flat_map places_of (part_before e (unit * unit_blocks)) ++ flat_map places_of (part_from e (suc unit * unit_blocks))

  -- an extent that goes on behind the unit
  left-past : (e : Extent) → eqb e.object object ≡ true → ltb (suc unit * unit_blocks) (extent_end e) ≡ true → left e ≡ filter (spared object unit) (places_of e)
  left-past e t m =
      let end : ℕ = suc unit * unit_blocks in
      let l : suc unit * unit_blocks < e.logical + e.count = ltb-true (suc unit * unit_blocks) (e.logical + e.count) (unfold extent_end in m) in
      let b : ℕ = max e.logical end - (e.logical + early e) in
      let c : ℕ = e.logical + e.count - max e.logical end in
      let n : e.count ≡ early e + (b + c) = omega arith in
      let j : e.logical + early e + b ≡ max e.logical end = omega arith in
      let k : e.physical + early e + b ≡ e.physical + (max e.logical end - e.logical) = omega arith in
      rw (places-before e (unit * unit_blocks), places-from-on e end m)
      (sym (ap (filter (spared object unit)) (places-stretch e ∙ ap (stretch e.object e.logical e.physical) n)
      ∙ spared-parts e.object e.logical e.physical (early e) b c t (λ x u v q. omega arith) (λ x u v. eq-eqb (x / unit_blocks) unit (omega arith)) (λ x u v q. omega arith)
      ∙ (λ i. stretch e.object e.logical e.physical (early e) ++ stretch e.object (j i) (k i) c)))

  -- one that does not
  left-short : (e : Extent) → eqb e.object object ≡ true → ltb (suc unit * unit_blocks) (extent_end e) ≡ false → left e ≡ filter (spared object unit) (places_of e)
  left-short e t m =
      let l : e.logical + e.count ≤ suc unit * unit_blocks = ltb-false (suc unit * unit_blocks) (e.logical + e.count) (unfold extent_end in m) in
      let b : ℕ = e.count - early e in
      let i : e.count ≡ early e + (b + 0) = omega arith in
      rw (places-before e (unit * unit_blocks), places-from-none e (suc unit * unit_blocks) m)
      (sym (ap (filter (spared object unit)) (places-stretch e ∙ ap (stretch e.object e.logical e.physical) i)
      ∙ spared-parts e.object e.logical e.physical (early e) b 0 t (λ x u v q. omega arith) (λ x u v. eq-eqb (x / unit_blocks) unit (omega arith)) (λ x u v q. omega arith)
      ∙ (unfold range block_places in refl)))

  -- an extent keeps the places that are spared
  places-cut_one : (e : Extent) → flat_map places_of (cut_one object unit e) ≡ filter (spared object unit) (places_of e)
  unfolding flat_map
  places-cut_one e =
      if-cases (λ (xs : List Extent). flat_map places_of xs ≡ filter (spared object unit) (places_of e)) (eqb e.object object)
      (part_before e (unit * unit_blocks) ++ part_from e (suc unit * unit_blocks)) (e ∷ [])
      (λ t. flat_map-append places_of (part_before e (unit * unit_blocks)) (part_from e (suc unit * unit_blocks))
      ∙ test-cases (left e ≡ filter (spared object unit) (places_of e)) (ltb (suc unit * unit_blocks) (extent_end e)) (left-past e t) (left-short e t))
      (λ t. append-nil (places_of e) ∙ places-stretch e ∙ sym (spared_other e.object e.logical (range e.physical e.count) t) ∙ ap (filter (spared object unit)) (sym (places-stretch e)))

  -- a book keeps those that are spared
  places-cut_unit : (es : List Extent) → flat_map places_of (flat_map (cut_one object unit) es) ≡ filter (spared object unit) (flat_map places_of es)
  unfolding flat_map
  places-cut_unit [] = unfold filter in refl
  places-cut_unit (e ∷ es) =
      flat_map-append places_of (cut_one object unit e) (flat_map (cut_one object unit) es)
      ∙ rw (places-cut_one e, places-cut_unit es) (sym (filter-append (spared object unit) (places_of e) (flat_map places_of es)))

-- ---- many units

-- a test with two others, each or both
or-and : (a b c : Bool) → ((a || b) && (a || c)) ≡ (a || (b && c))
or-and true b c = refl
or-and false b c = refl

-- what is left of a book is what lies outside the units, in its order
pub places-cut_units : (object : ℕ) (rs : List Rewritten) (es : List Extent)
    → flat_map places_of (cut_units object rs es) ≡ filter (λ p. not (eqb p.object object) || outside rs p.logical) (flat_map places_of es)
unfolding cut_units outside all
places-cut_units object [] es =
    sym (filter-every (λ p. not (eqb p.object object) || true) (flat_map places_of es)
    (all-each (λ p. not (eqb p.object object) || true) (each-any (λ p. or_right (not (eqb p.object object)) true refl) (flat_map places_of es))))
places-cut_units object (r ∷ rs) es =
    let keep : Place → Bool = λ p. not (eqb p.object object) || outside rs p.logical in
    places-cut_units object rs (cut_unit object r.unit es)
    ∙ ap (filter keep) (ap (flat_map places_of) (cut-each object r.unit es) ∙ places-cut_unit object r.unit es)
    ∙ filter-filter keep (spared object r.unit) (flat_map places_of es)
    ∙ filter-each (λ p. spared object r.unit p && keep p) (λ p. not (eqb p.object object) || (not (eqb (p.logical / unit_blocks) r.unit) && outside rs p.logical))
    (each-any (λ p. or-and (not (eqb p.object object)) (not (eqb (p.logical / unit_blocks) r.unit)) (outside rs p.logical)) (flat_map places_of es))
