-- Units cut out of a book: where nothing is mapped between them all is cut from the first to the last, and what is left are the extents before, whose last
-- is cut at its end, and those behind, whose first is cut at its start.
-- Assumes nothing.
use mathlib.Core.Path.{◌≡◌, refl, sym, ap, ◌∙◌}
use mathlib.Core.List.{List, [], ◌∷◌, ◌++◌, map, flat_map, append_assoc, append-nil}
use mathlib.Core.Bool.{Bool, true, false}
use Prim.Native.Nat.{ℕ, zero, suc, ◌+◌, ◌-◌, ◌*◌, ◌/◌, ◌≤◌, ◌<◌, min, max}
use native.Mathlib.Decide.{dec_lt, dec_le}
use native.Mathlib.Omega.{arith}
use lib.Dec.{eqb, ltb}
use lib.ListN.{length, take, drop}
use borrow.Author.Tests.{eqb-true, eqb-false, eq-eqb, ne_eqb, ltb-true, lt-ltb}
use Rattle.rules.specs.Lists.{pick◌then◌else◌, any, member}
use Rattle.rules.specs.Sizes.{unit_blocks}
use Rattle.rules.specs.Extent.{Extent, extent_end, joined}
use Rattle.rules.specs.Rewrite.{Rewritten}
use Rattle.rules.specs.Finish.{up_to, from, part_before, part_from, attach, call_runs, cut_unit, cut_units, finished_extents}
use Rattle.rules.proofs.ListLaws.{test-cases, clash, if-true, if-false, order-cases, or_cases, pair_before-cases, pair_before-first, pair_before-second, Each, each_none, each_more, each-any, each_weaken, each_both}
use Rattle.rules.proofs.CountLaws.{flat_map-append, flat_map-each}
use Rattle.history.proofs.Rewritten.{each_first, Units, units-tail, units-behind}
use Rattle.history.proofs.ApartLaws.{Pairs, pairs-none, pairs-more, each-front, each-flat_map, Ahead, other, same, Laid}
use Rattle.history.proofs.MeetLaws.{Closed}
use Rattle.history.proofs.MappingLaws.{Covers}
use Rattle.history.proofs.CutLaws.{each-cut_units, laid-cut_units}
use Rattle.history.proofs.RunLaws.{each-new_places, each-stretch, each-call_runs, laid-call_runs}
use Rattle.book.specs.Places.{leading, extent_under}
use Rattle.finish_extents.specs.Stretch.{before, rest, left_of, rest_of}
use Rattle.finish_extents.proofs.JoinLaws.{parted-call_runs, take_in_all-among, runs-some}

-- ---- the parts of an extent

-- an extent that starts before a block has a part before it
before-some : (e : Extent) (block : ℕ) → e.logical < block → part_before e block ≡ up_to e (min (extent_end e) block) ∷ []
unfolding part_before
before-some e block l = if-true (ltb e.logical block) (up_to e (min (extent_end e) block) ∷ []) [] (lt-ltb e.logical block l)

-- one that does not has none
before-none : (e : Extent) (block : ℕ) → block ≤ e.logical → part_before e block ≡ []
unfolding part_before
before-none e block l =
    test-cases (part_before e block ≡ []) (ltb e.logical block)
    (λ t. let k : e.logical < block = ltb-true e.logical block t in absurd (omega arith))
    (λ t. if-false (ltb e.logical block) (up_to e (min (extent_end e) block) ∷ []) [] t)

-- an extent that ends behind a block has a part from it on
from_some : (e : Extent) (block : ℕ) → block < e.logical + e.count → part_from e block ≡ from e (max e.logical block) ∷ []
unfolding part_from extent_end
from_some e block l = if-true (ltb block (e.logical + e.count)) (from e (max e.logical block) ∷ []) [] (lt-ltb block (e.logical + e.count) l)

-- one that does not has none
from-none : (e : Extent) (block : ℕ) → e.logical + e.count ≤ block → part_from e block ≡ []
unfolding part_from extent_end
from-none e block l =
    test-cases (part_from e block ≡ []) (ltb block (e.logical + e.count))
    (λ t. let k : block < e.logical + e.count = ltb-true block (e.logical + e.count) t in absurd (omega arith))
    (λ t. if-false (ltb block (e.logical + e.count)) (from e (max e.logical block) ∷ []) [] t)

-- an extent that is before a block is its part before it
up-whole : (e : Extent) (block : ℕ) → e.logical + e.count ≤ block → up_to e (min (extent_end e) block) ≡ e
unfolding up_to extent_end
up-whole e block l =
    let q : min (e.logical + e.count) block - e.logical ≡ e.count = omega arith in
    ap (λ (n : ℕ). record { object = e.object; logical = e.logical; physical = e.physical; count = n }) q

-- one that starts at a block or behind it is its part from it on
from-whole : (e : Extent) (block : ℕ) → block ≤ e.logical → from e (max e.logical block) ≡ e
unfolding from extent_end
from-whole e block l =
    let m : max e.logical block ≡ e.logical = omega arith in
    let p : e.physical + (e.logical - e.logical) ≡ e.physical = omega arith in
    let q : e.logical + e.count - e.logical ≡ e.count = omega arith in
    rw (m, p, q) refl

-- two steps are one
steps : (p l x y : ℕ) → l ≤ x → x ≤ y → p + (x - l) + (y - x) ≡ p + (y - l)
steps p l x y h k = omega arith

-- what is left from a place on, told from its start
left-from : (t x y : ℕ) → x ≤ t → x + (t - x) - y ≡ t - y
left-from t x y h = omega arith

-- the part from a block on of a part from one before it
from-from : (e : Extent) (b d : ℕ) → b ≤ d → d < e.logical + e.count → from (from e (max e.logical b)) (max (from e (max e.logical b)).logical d) ≡ from e (max e.logical d)
unfolding from extent_end
from-from e b d l k =
    let u : max (max e.logical b) d ≡ max e.logical d = omega arith in
    let v : e.physical + (max e.logical b - e.logical) + (max e.logical d - max e.logical b) ≡ e.physical + (max e.logical d - e.logical) =
    steps e.physical e.logical (max e.logical b) (max e.logical d) (omega arith) (omega arith) in
    let w : max e.logical b + (e.logical + e.count - max e.logical b) - max e.logical d ≡ e.logical + e.count - max e.logical d =
    left-from (e.logical + e.count) (max e.logical b) (max e.logical d) (omega arith) in
    rw (u, v, w) refl

-- ---- a stretch cut out

-- what is left of an extent without the blocks of object's file from a to b
unfoldable pub cut_from : ℕ → ℕ → ℕ → Extent → List Extent
cut_from object a b e = pick eqb e.object object then part_before e a ++ part_from e b else e ∷ []

-- what is left of a book
unfoldable pub cut_stretch : ℕ → ℕ → ℕ → List Extent → List Extent
cut_stretch object a b es = flat_map (cut_from object a b) es

-- an extent of the file
cut_in : (object a b : ℕ) (e : Extent) → e.object ≡ object → cut_from object a b e ≡ part_before e a ++ part_from e b
unfolding cut_from
cut_in object a b e q = if-true (eqb e.object object) (part_before e a ++ part_from e b) (e ∷ []) (eq-eqb e.object object q)

-- one of another
cut_out : (object a b : ℕ) (e : Extent) → (e.object ≡ object → ⊥) → cut_from object a b e ≡ e ∷ []
unfolding cut_from
cut_out object a b e q = if-false (eqb e.object object) (part_before e a ++ part_from e b) (e ∷ []) (ne_eqb e.object object q)

-- a unit is a stretch
cut-unit : (object unit : ℕ) (es : List Extent) → cut_unit object unit es ≡ cut_stretch object (unit * unit_blocks) (suc unit * unit_blocks) es
unfolding cut_unit cut_stretch cut_from
cut-unit object unit es = refl

-- what holds of each of one
flat_map-one : {A B : Type 0} (f : A → List B) (x : A) → flat_map f (x ∷ []) ≡ f x
unfolding flat_map
flat_map-one f x = append-nil (f x)

-- of none
flat_map-none : {A B : Type 0} (f : A → List B) → flat_map f [] ≡ []
unfolding flat_map
flat_map-none f = refl

-- of nothing for each
flat_map-empty : {A B : Type 0} (xs : List A) → flat_map {B = B} (λ x. []) xs ≡ []
unfolding flat_map
flat_map-empty [] = refl
flat_map-empty (x ∷ xs) = flat_map-empty xs

-- lists of lists of lists
flat_map-flat_map : {A B C : Type 0} (f : B → List C) (g : A → List B) (xs : List A) → flat_map f (flat_map g xs) ≡ flat_map (λ x. flat_map f (g x)) xs
unfolding flat_map
flat_map-flat_map f g [] = refl
flat_map-flat_map {C = C} f g (x ∷ xs) = flat_map-append f (g x) (flat_map g xs) ∙ ap (λ (ys : List C). flat_map f (g x) ++ ys) (flat_map-flat_map f g xs)

module _ (object a b c d : ℕ) (ab : a ≤ b) (bc : b ≤ c) (cd : c ≤ d) (e : Extent) (n : 0 < e.count) where
  -- the part before a first stretch stays where a second is cut out behind it
  before-stays : e.object ≡ object → flat_map (cut_from object c d) (part_before e a) ≡ part_before e a
  before-stays q = go (dec_lt e.logical a)
    where
      x : Extent
      x = up_to e (min (extent_end e) a)

      go : Dec (e.logical < a) → flat_map (cut_from object c d) (part_before e a) ≡ part_before e a
      go (no l) = rw (before-none e a (omega arith)) (flat_map-none (cut_from object c d))
      go (yes l) =
          let o : x.object ≡ object = unfold up_to in q in
          let f : x.logical ≡ e.logical = unfold up_to in refl in
          let h : x.logical + x.count ≤ a = unfold up_to extent_end in omega arith in
          rw (before-some e a l) (flat_map-one (cut_from object c d) x ∙ cut_in object c d x o
          ∙ rw (before-some x c (omega arith), from-none x d (omega arith), up-whole x c (omega arith)) refl)

  -- of what is behind the first that is left which is behind the second, if nothing is between
  from-later : e.object ≡ object → ((y : ℕ) → b ≤ y → y < c → Covers object y e → ⊥) → flat_map (cut_from object c d) (part_from e b) ≡ part_from e d
  from-later q h = go (dec_lt b (e.logical + e.count)) (dec_lt d (e.logical + e.count))
    where
      x : Extent
      x = from e (max e.logical b)

      go : Dec (b < e.logical + e.count) → Dec (d < e.logical + e.count) → flat_map (cut_from object c d) (part_from e b) ≡ part_from e d
      go (no l) (yes k) = absurd (omega arith)
      go (no l) (no k) = rw (from-none e b (omega arith), from-none e d (omega arith)) (flat_map-none (cut_from object c d))
      go (yes l) k =
          let o : x.object ≡ object = unfold from in q in
          let f : x.logical ≡ max e.logical b = unfold from in refl in
          let g : x.logical + x.count ≡ e.logical + e.count = unfold from extent_end in omega arith in
          let z : c ≤ x.logical = behind f (dec_le c x.logical) in
          rw (from_some e b l) (flat_map-one (cut_from object c d) x ∙ cut_in object c d x o ∙ rw (before-none x c z) (last f g k))
        where
          behind : x.logical ≡ max e.logical b → Dec (c ≤ x.logical) → c ≤ x.logical
          behind f (yes m) = m
          behind f (no m) = absurd (h x.logical (omega arith) (omega arith) (record { file = q; low = omega arith; high = omega arith }))

          last : x.logical ≡ max e.logical b → x.logical + x.count ≡ e.logical + e.count → Dec (d < e.logical + e.count) → part_from x d ≡ part_from e d
          last f g (no k) = rw (from-none x d (omega arith), from-none e d (omega arith)) refl
          last f g (yes k) = rw (from_some x d (omega arith), from_some e d k) (ap (λ (y : Extent). y ∷ []) (from-from e b d (omega arith) k))

  -- two stretches of the file with nothing mapped between them are one
  cut-more : ((y : ℕ) → b ≤ y → y < c → Covers object y e → ⊥) → flat_map (cut_from object c d) (cut_from object a b e) ≡ cut_from object a d e
  cut-more h = test-cases (flat_map (cut_from object c d) (cut_from object a b e) ≡ cut_from object a d e) (eqb e.object object)
      (λ t. let q : e.object ≡ object = eqb-true e.object object t in
      rw (cut_in object a b e q, cut_in object a d e q) (flat_map-append (cut_from object c d) (part_before e a) (part_from e b) ∙ rw (before-stays q, from-later q h) refl))
      (λ t. let q : e.object ≡ object → ⊥ = eqb-false e.object object t in
      rw (cut_out object a b e q, cut_out object a d e q) (flat_map-one (cut_from object c d) e ∙ cut_out object c d e q))

-- the same of a book
joined-stretch : (object a b c d : ℕ) {es : List Extent} → a ≤ b → b ≤ c → c ≤ d → Each (λ e. 0 < e.count) es → Each (λ e. (y : ℕ) → b ≤ y → y < c → Covers object y e → ⊥) es
    → cut_stretch object c d (cut_stretch object a b es) ≡ cut_stretch object a d es
unfolding cut_stretch
joined-stretch object a b c d {es} p q r n h =
    flat_map-flat_map (cut_from object c d) (cut_from object a b) es
    ∙ flat_map-each (λ e. flat_map (cut_from object c d) (cut_from object a b e)) (cut_from object a d) (each_both (λ e m g. cut-more object a b c d p q r e m g) n h)

-- ---- units with nothing mapped between them

-- the end of the last of units, or a block where there are none
unfoldable pub units_end : ℕ → List ℕ → ℕ
units_end c [] = c
units_end c (u ∷ us) = units_end (suc u * unit_blocks) us

-- a number less than each is none of them
not-member : (n : ℕ) {rs : List Rewritten} → Each (λ r. n < r.unit) rs → member n (map (λ r. r.unit) rs) ≡ true → ⊥
unfolding member any
not-member n each_none t = clash refl t
not-member n (each_more {x = r} {xs = rs} l h) t =
    or_cases ⊥ (eqb n r.unit) (member n (map (λ x. x.unit) rs)) t (λ q. omega (arith, eqb-true n r.unit q)) (λ q. not-member n h q)

-- one that is not the first is one of the others
member-behind : (n u : ℕ) (us : List ℕ) → u < n → member n (u ∷ us) ≡ true → member n us ≡ true
unfolding member any
member-behind n u us l t = or_cases (member n us ≡ true) (eqb n u) (member n us) t (λ q. absurd (omega (arith, eqb-true n u q))) (λ q. q)

-- the last unit's end is behind all
end-above : (c : ℕ) (rs : List Rewritten) → Units rs → Each (λ r. c ≤ r.unit * unit_blocks) rs → c ≤ units_end c (map (λ r. r.unit) rs)
unfolding units_end
end-above c [] u h = omega arith
end-above c (r ∷ rs) u (each_more k h) =
    let m : suc r.unit * unit_blocks ≤ units_end (suc r.unit * unit_blocks) (map (λ t. t.unit) rs) =
    end-above (suc r.unit * unit_blocks) rs (units-tail u) (each_weaken (λ t l. omega arith) (units-behind u)) in
    omega arith

-- what the extent has from the block c to the block b of the file lies in these units
abbrev pub InUnits : ℕ → ℕ → ℕ → List Rewritten → Extent → Type 0
InUnits object c b rs e = (y : ℕ) → c ≤ y → y < b → Covers object y e → member (y / unit_blocks) (map (λ r. r.unit) rs) ≡ true

-- a stretch, and units behind it between which nothing is mapped
cut-behind : (object a c : ℕ) (rs : List Rewritten) {es : List Extent} → a ≤ c → Each (λ e. 0 < e.count) es → Units rs → Each (λ r. c ≤ r.unit * unit_blocks) rs
    → Each (InUnits object c (units_end c (map (λ r. r.unit) rs)) rs) es → cut_units object rs (cut_stretch object a c es) ≡ cut_stretch object a (units_end c (map (λ r. r.unit) rs)) es
unfolding cut_units units_end
cut-behind object a c [] l n u k h = refl
cut-behind object a c (r ∷ rs) {es} l n u (each_more k m) h =
    let b : ℕ = r.unit * unit_blocks in
    let d : ℕ = suc r.unit * unit_blocks in
    let f : List ℕ = map (λ t. t.unit) rs in
    let behind : Each (λ t. d ≤ t.unit * unit_blocks) rs = each_weaken (λ t q. omega arith) (units-behind u) in
    let above : d ≤ units_end d f = end-above d rs (units-tail u) behind in
    let gap : Each (λ e. (y : ℕ) → c ≤ y → y < b → Covers object y e → ⊥) es =
    each_weaken (λ e g y p q v. not-member (y / unit_blocks) {rs = r ∷ rs} (each_more (omega arith) (each_weaken (λ t w. omega (arith, w)) (units-behind u))) (g y p (omega arith) v)) h in
    let tail : Each (InUnits object d (units_end d f) rs) es =
    each_weaken (λ e g y p q v. member-behind (y / unit_blocks) r.unit f (omega arith) (g y (omega arith) q v)) h in
    let one : cut_unit object r.unit (cut_stretch object a c es) ≡ cut_stretch object a d es = cut-unit object r.unit (cut_stretch object a c es) ∙ joined-stretch object a c b d l k (omega arith) n gap in
    rw one (cut-behind object a d rs (omega arith) n (units-tail u) behind tail)

-- ---- before and behind

-- what is before a block of the file of object
unfoldable pub lower : ℕ → ℕ → Extent → List Extent
lower object block e = pick eqb e.object object then part_before e block else pick ltb e.object object then e ∷ [] else []

-- what is not
unfoldable pub upper : ℕ → ℕ → Extent → List Extent
upper object block e = pick eqb e.object object then part_from e block else pick ltb object e.object then e ∷ [] else []

module _ (object block : ℕ) (e : Extent) where
  -- an extent of the file
  lower_in : e.object ≡ object → lower object block e ≡ part_before e block
  unfolding lower
  lower_in q = if-true (eqb e.object object) (part_before e block) (pick ltb e.object object then e ∷ [] else []) (eq-eqb e.object object q)

  upper_in : e.object ≡ object → upper object block e ≡ part_from e block
  unfolding upper
  upper_in q = if-true (eqb e.object object) (part_from e block) (pick ltb object e.object then e ∷ [] else []) (eq-eqb e.object object q)

  -- of a file before it
  lower-first : e.object < object → lower object block e ≡ e ∷ []
  unfolding lower
  lower-first l = if-false (eqb e.object object) (part_before e block) (pick ltb e.object object then e ∷ [] else []) (ne_eqb e.object object (λ q. omega arith))
      ∙ if-true (ltb e.object object) (e ∷ []) [] (lt-ltb e.object object l)

  upper_first : e.object < object → upper object block e ≡ []
  unfolding upper
  upper_first l = if-false (eqb e.object object) (part_from e block) (pick ltb object e.object then e ∷ [] else []) (ne_eqb e.object object (λ q. omega arith))
      ∙ test-cases _ (ltb object e.object) (λ t. absurd (omega (arith, ltb-true object e.object t))) (λ t. if-false (ltb object e.object) (e ∷ []) [] t)

  -- of a file behind it
  lower_last : object < e.object → lower object block e ≡ []
  unfolding lower
  lower_last l = if-false (eqb e.object object) (part_before e block) (pick ltb e.object object then e ∷ [] else []) (ne_eqb e.object object (λ q. omega arith))
      ∙ test-cases _ (ltb e.object object) (λ t. absurd (omega (arith, ltb-true e.object object t))) (λ t. if-false (ltb e.object object) (e ∷ []) [] t)

  upper-last : object < e.object → upper object block e ≡ e ∷ []
  unfolding upper
  upper-last l = if-false (eqb e.object object) (part_from e block) (pick ltb object e.object then e ∷ [] else []) (ne_eqb e.object object (λ q. omega arith))
      ∙ if-true (ltb object e.object) (e ∷ []) [] (lt-ltb object e.object l)

-- what a stretch cut out leaves of an extent is what is before it and what is behind
cut_parts : (object a b : ℕ) (e : Extent) → cut_from object a b e ≡ lower object a e ++ upper object b e
cut_parts object a b e =
    order-cases (cut_from object a b e ≡ lower object a e ++ upper object b e) e.object object
    (λ l. rw (cut_out object a b e (λ q. omega arith), lower-first object a e l, upper_first object b e l) refl)
    (λ q. rw (cut_in object a b e q, lower_in object a e q, upper_in object b e q) refl)
    (λ l. rw (cut_out object a b e (λ q. omega arith), lower_last object a e l, upper-last object b e l) refl)

-- an extent that has something behind a block, before others that lie behind it: they have nothing before an earlier block
upper-lower : (object a b : ℕ) (e : Extent) {es : List Extent} → a ≤ b → 0 < e.count → Each (Ahead e) es
    → flat_map (lower object a) es ++ upper object b e ≡ upper object b e ++ flat_map (lower object a) es
upper-lower object a b e {es} l n h =
    let P : Type 0 = flat_map (lower object a) es ++ upper object b e ≡ upper object b e ++ flat_map (lower object a) es in
    let nothing : upper object b e ≡ [] → P = λ q. rw q (append-nil (flat_map (lower object a) es)) in
    let alone : Each (λ f. lower object a f ≡ []) es → P = λ q. rw (flat_map-each (lower object a) (λ f. []) q, flat_map-empty {B = Extent} es) (sym (append-nil (upper object b e))) in
    order-cases P e.object object
    (λ k. nothing (upper_first object b e k))
    (λ q. go P q nothing alone (dec_lt b (e.logical + e.count)))
    (λ k. alone (each_weaken (λ f w. lower_last object a f (far k w)) h))
  where
    far : {f : Extent} → object < e.object → Ahead e f → object < f.object
    far k (other p) = omega arith
    far k (same p m) = omega arith

    near : (f : Extent) → e.object ≡ object → b < e.logical + e.count → Ahead e f → lower object a f ≡ []
    near f q k (other p) = lower_last object a f (omega arith)
    near f q k (same p m) = lower_in object a f (sym p ∙ q) ∙ before-none f a (omega arith)

    go : (P : Type 0) → e.object ≡ object → (upper object b e ≡ [] → P) → (Each (λ f. lower object a f ≡ []) es → P) → Dec (b < e.logical + e.count) → P
    go P q nothing alone (yes k) = alone (each_weaken (λ f w. near f q k w) h)
    go P q nothing alone (no k) = nothing (upper_in object b e q ∙ from-none e b (omega arith))

-- of a book
cut-book : (object a b : ℕ) {es : List Extent} → a ≤ b → Each (λ e. 0 < e.count) es → Pairs Ahead es → cut_stretch object a b es ≡ flat_map (lower object a) es ++ flat_map (upper object b) es
unfolding cut_stretch flat_map
cut-book object a b l each_none pairs-none = refl
cut-book object a b l (each_more {x = e} {xs = es} n m) (pairs-more p h) =
    let u : List Extent = lower object a e in
    let v : List Extent = upper object b e in
    let x : List Extent = flat_map (lower object a) es in
    let y : List Extent = flat_map (upper object b) es in
    rw (cut_parts object a b e, cut-book object a b l m h)
    (append_assoc u v (x ++ y) ∙ ap (λ (z : List Extent). u ++ z) (sym (append_assoc v x y) ∙ ap (λ (z : List Extent). z ++ y) (sym (upper-lower object a b e l n p)) ∙ append_assoc x v y)
    ∙ sym (append_assoc u x (v ++ y)))

-- ---- told by places

-- the extent stands before a block of the file of object
data Under (object block : ℕ) (e : Extent) : Type 0 where
  earlier-file : e.object < object → Under object block e
  same-file : e.object ≡ object → e.logical < block → Under object block e

-- it does not
data Over (object block : ℕ) (e : Extent) : Type 0 where
  later-file : object < e.object → Over object block e
  this-file : e.object ≡ object → block ≤ e.logical → Over object block e

module _ (object block : ℕ) where
  -- what the search's test says
  abbrev pub under : Extent → Bool
  under e = extent_under object block e

  under-true : (e : Extent) → under e ≡ true → Under object block e
  under-true e t = pair_before-cases (Under object block e) e.object e.logical object block t earlier-file same-file

  under_of : (e : Extent) → Under object block e → under e ≡ true
  under_of e (earlier-file l) = pair_before-first e.object e.logical object block l
  under_of e (same-file q l) = pair_before-second e.object e.logical object block q l

  under-false : (e : Extent) → under e ≡ false → Over object block e
  under-false e t =
      order-cases (Over object block e) e.object object (λ l. absurd (clash t (under_of e (earlier-file l)))) (λ q. go q (dec_lt e.logical block)) later-file
    where
      go : e.object ≡ object → Dec (e.logical < block) → Over object block e
      go q (yes l) = absurd (clash t (under_of e (same-file q l)))
      go q (no l) = this-file q (omega arith)

  -- before an extent that does, another does
  under_back : (e f : Extent) → Ahead e f → Under object block f → Under object block e
  under_back e f (other p) (earlier-file l) = earlier-file (omega arith)
  under_back e f (other p) (same-file q l) = earlier-file (omega arith)
  under_back e f (same p k) (earlier-file l) = earlier-file (omega arith)
  under_back e f (same p k) (same-file q l) = same-file (p ∙ q) (omega arith)

  -- behind an extent that does not, none does
  leading-over : (e : Extent) {es : List Extent} → under e ≡ false → Each (Ahead e) es → leading under es ≡ 0
  unfolding leading
  leading-over e t each_none = refl
  leading-over e t (each_more {x = f} {xs = es} a h) =
      test-cases (leading under (f ∷ es) ≡ 0) (under f)
      (λ u. absurd (clash t (under_of e (under_back e f a (under-true f u))))) (λ u. if-false (under f) (suc (leading under es)) 0 u)

  -- where another does, the first does
  first_under : (P : Type 0) (e : Extent) {es : List Extent} → Each (Ahead e) es → 0 < leading under es → ((f : Extent) → Ahead e f → Under object block f → P) → P
  unfolding leading
  first_under P e each_none l k = absurd (omega arith)
  first_under P e (each_more {x = f} {xs = es} a h) l k =
      test-cases P (under f) (λ t. k f a (under-true f t)) (λ t. absurd (omega (arith, rw (if-false (under f) (suc (leading under es)) 0 t) at l)))

  -- one that passes comes to those behind it that do
  leading-yes : (e : Extent) (es : List Extent) → under e ≡ true → leading under (e ∷ es) ≡ suc (leading under es)
  unfolding leading
  leading-yes e es t = if-true (under e) (suc (leading under es)) 0 t

  -- one that does not ends them
  leading-no : (e : Extent) (es : List Extent) → under e ≡ false → leading under (e ∷ es) ≡ 0
  unfolding leading
  leading-no e es t = if-false (under e) (suc (leading under es)) 0 t

  -- ---- before the block

  -- an extent that stands before it has a part before it
  lower-under : (e : Extent) → Under object block e → lower object block e ≡ before object block e ∷ []
  unfolding before
  lower-under e (earlier-file l) = lower-first object block e l ∙ ap (λ (x : Extent). x ∷ []) (sym (if-false (eqb e.object object) (up_to e (min (extent_end e) block)) e (ne_eqb e.object object (λ q. omega arith))))
  lower-under e (same-file q l) =
      lower_in object block e q ∙ before-some e block l ∙ ap (λ (x : Extent). x ∷ []) (sym (if-true (eqb e.object object) (up_to e (min (extent_end e) block)) e (eq-eqb e.object object q)))

  -- one that does not has none
  lower-over : (e : Extent) → Over object block e → lower object block e ≡ []
  lower-over e (later-file l) = lower_last object block e l
  lower-over e (this-file q l) = lower_in object block e q ∙ before-none e block l

  -- one with another behind it that stands before the block is whole before it
  lower-whole : (e f : Extent) → Ahead e f → Under object block f → lower object block e ≡ e ∷ []
  lower-whole e f (other p) (earlier-file l) = lower-first object block e (omega arith)
  lower-whole e f (other p) (same-file q l) = lower-first object block e (omega arith)
  lower-whole e f (same p k) (earlier-file l) = lower-first object block e (omega arith)
  lower-whole e f (same p k) (same-file q l) = lower_in object block e (p ∙ q) ∙ whole (dec_lt e.logical block)
    where
      whole : Dec (e.logical < block) → part_before e block ≡ e ∷ []
      whole (yes m) = before-some e block m ∙ ap (λ (x : Extent). x ∷ []) (up-whole e block (omega arith))
      whole (no m) = absurd (omega arith)

  -- what is before the block: the extents in front of the last that stands before it, and that one's part
  pub lower-places : {es : List Extent} → Pairs Ahead es → flat_map (lower object block) es ≡ take (leading under es - 1) es ++ left_of object block es (leading under es)
  unfolding flat_map left_of
  lower-places pairs-none = unfold leading in refl
  lower-places (pairs-more {x = e} {xs = es} p h) =
      let ih : flat_map (lower object block) es ≡ take (leading under es - 1) es ++ left_of object block es (leading under es) = lower-places h in
      let P : ℕ → Type 0 = λ i. lower object block e ++ flat_map (lower object block) es ≡ take (i - 1) (e ∷ es) ++ left_of object block (e ∷ es) i in
      test-cases (P (leading under (e ∷ es))) (under e)
      (λ t. rw (leading-yes e es t) (more t (leading under es) refl ih))
      (λ t. rw (leading-no e es t, lower-over e (under-false e t), ih, leading-over e t p) refl)
    where
      more : under e ≡ true → (i : ℕ) → leading under es ≡ i → flat_map (lower object block) es ≡ take (leading under es - 1) es ++ left_of object block es (leading under es)
          → lower object block e ++ flat_map (lower object block) es ≡ take (suc i - 1) (e ∷ es) ++ left_of object block (e ∷ es) (suc i)
      more t zero q ih = rw (lower-under e (under-true e t), ih, q) refl
      more t (suc i) q ih =
          let x : suc i - 1 ≡ i = omega arith in
          let y : suc (suc i) - 1 ≡ suc i = omega arith in
          rw (first_under (lower object block e ≡ e ∷ []) e p (omega arith) (λ f a u. lower-whole e f a u), ih, q, x, y) refl

  -- ---- from the block on

  -- an extent that stands before it has there what reaches past it
  upper-under : (e : Extent) → Under object block e → upper object block e ≡ rest object block e
  unfolding rest
  upper-under e (earlier-file l) = upper_first object block e l ∙ sym (if-false (eqb e.object object) (part_from e block) [] (ne_eqb e.object object (λ q. omega arith)))
  upper-under e (same-file q l) = upper_in object block e q ∙ sym (if-true (eqb e.object object) (part_from e block) [] (eq-eqb e.object object q))

  -- one that does not is whole there
  upper-over : (e : Extent) → 0 < e.count → Over object block e → upper object block e ≡ e ∷ []
  upper-over e n (later-file l) = upper-last object block e l
  upper-over e n (this-file q l) = upper_in object block e q ∙ from_some e block (omega arith) ∙ ap (λ (x : Extent). x ∷ []) (from-whole e block l)

  -- one with another behind it that stands before the block has nothing there
  upper-none : (e f : Extent) → Ahead e f → Under object block f → upper object block e ≡ []
  upper-none e f (other p) (earlier-file l) = upper_first object block e (omega arith)
  upper-none e f (other p) (same-file q l) = upper_first object block e (omega arith)
  upper-none e f (same p k) (earlier-file l) = upper_first object block e (omega arith)
  upper-none e f (same p k) (same-file q l) = upper_in object block e (p ∙ q) ∙ from-none e block (omega arith)

  -- what is from the block on: what the last that stands before it has there, and the extents behind that one
  pub upper-places : {es : List Extent} → Each (λ e. 0 < e.count) es → Pairs Ahead es
      → flat_map (upper object block) es ≡ rest_of object block es (leading under es) ++ drop (leading under es) es
  unfolding flat_map rest_of
  upper-places each_none pairs-none = unfold leading in refl
  upper-places (each_more {x = e} {xs = es} n m) (pairs-more p h) =
      let ih : flat_map (upper object block) es ≡ rest_of object block es (leading under es) ++ drop (leading under es) es = upper-places m h in
      let P : ℕ → Type 0 = λ i. upper object block e ++ flat_map (upper object block) es ≡ rest_of object block (e ∷ es) i ++ drop i (e ∷ es) in
      test-cases (P (leading under (e ∷ es))) (under e)
      (λ t. rw (leading-yes e es t) (more t (leading under es) refl ih))
      (λ t. rw (leading-no e es t, upper-over e n (under-false e t), ih, leading-over e t p) refl)
    where
      more : under e ≡ true → (i : ℕ) → leading under es ≡ i → flat_map (upper object block) es ≡ rest_of object block es (leading under es) ++ drop (leading under es) es
          → upper object block e ++ flat_map (upper object block) es ≡ rest_of object block (e ∷ es) (suc i) ++ drop (suc i) (e ∷ es)
      more t zero q ih = rw (upper-under e (under-true e t), ih, q) refl
      more t (suc i) q ih = rw (first_under (upper object block e ≡ []) e p (omega arith) (λ f a u. upper-none e f a u), ih, q) refl

-- ---- before and behind a run

-- what is before a block lies before every extent of the file from it on
lower-ahead : (object block : ℕ) (es : List Extent) → Each (λ x. (g : Extent) → g.object ≡ object → block ≤ g.logical → Ahead x g) (flat_map (lower object block) es)
lower-ahead object block es = each-flat_map (lower object block) (each-any one es)
  where
    P : Extent → Type 0
    P x = (g : Extent) → g.object ≡ object → block ≤ g.logical → Ahead x g

    cut : (e : Extent) → e.object ≡ object → Dec (e.logical < block) → Each P (part_before e block)
    cut e q (yes l) = rw (before-some e block l) (each_more {x = up_to e (min (extent_end e) block)} (λ g p k. unfold up_to extent_end in same (q ∙ sym p) (omega arith)) each_none)
    cut e q (no l) = rw (before-none e block (omega arith)) each_none

    one : (e : Extent) → Each P (lower object block e)
    one e =
        order-cases (Each P (lower object block e)) e.object object
        (λ l. rw (lower-first object block e l) (each_more {x = e} (λ g p k. other (omega arith)) each_none))
        (λ q. rw (lower_in object block e q) (cut e q (dec_lt e.logical block)))
        (λ l. rw (lower_last object block e l) each_none)

-- what is from a block on lies behind every extent of the file before it
upper-behind : (object block : ℕ) (es : List Extent) → Each (λ x. (g : Extent) → g.object ≡ object → g.logical + g.count ≤ block → Ahead g x) (flat_map (upper object block) es)
upper-behind object block es = each-flat_map (upper object block) (each-any one es)
  where
    P : Extent → Type 0
    P x = (g : Extent) → g.object ≡ object → g.logical + g.count ≤ block → Ahead g x

    cut : (e : Extent) → e.object ≡ object → Dec (block < e.logical + e.count) → Each P (part_from e block)
    cut e q (yes l) = rw (from_some e block l) (each_more {x = from e (max e.logical block)} (λ g p k. unfold from in same (p ∙ sym q) (omega arith)) each_none)
    cut e q (no l) = rw (from-none e block (omega arith)) each_none

    one : (e : Extent) → Each P (upper object block e)
    one e =
        order-cases (Each P (upper object block e)) e.object object
        (λ l. rw (upper_first object block e l) each_none)
        (λ q. rw (upper_in object block e q) (cut e q (dec_lt block (e.logical + e.count))))
        (λ l. rw (upper-last object block e l) (each_more {x = e} (λ g p k. other (omega arith)) each_none))

-- ---- the finished extents

-- each unit lies before the end of the last
units-within : (c : ℕ) (rs : List Rewritten) → Units rs → Each (λ t. suc t.unit * unit_blocks ≤ units_end c (map (λ r. r.unit) rs)) rs
unfolding units_end
units-within c [] u = each_none
units-within c (r ∷ rs) u =
    each_more (end-above (suc r.unit * unit_blocks) rs (units-tail u) (each_weaken (λ t q. omega arith) (units-behind u))) (units-within (suc r.unit * unit_blocks) rs (units-tail u))

-- an extent of the file between two of its blocks
record Inside (object a b : ℕ) (x : Extent) : Type 0 where
  file : x.object ≡ object
  low : a ≤ x.logical
  high : x.logical + x.count ≤ b

-- two that join are so where both are
inside-joined : (object a b : ℕ) → Closed (Inside object a b)
unfolding joined
inside-joined object a b e f j p q = record { file = p.file; low = p.low; high = omega (arith, j.logical, q.high) }

-- the runs lie between the start of the first unit and the end of the last
runs-inside : (object c : ℕ) (r : Rewritten) (rs : List Rewritten) → Units (r ∷ rs)
    → Each (Inside object (r.unit * unit_blocks) (units_end c (map (λ t. t.unit) (r ∷ rs)))) (call_runs object (r ∷ rs))
runs-inside object c r rs u =
    let a : ℕ = r.unit * unit_blocks in
    let b : ℕ = units_end c (map (λ t. t.unit) (r ∷ rs)) in
    let low : Each (λ t. a ≤ t.unit * unit_blocks) (r ∷ rs) = each_more {x = r} (omega arith) (each_weaken (λ t l. omega arith) (units-behind u)) in
    let both : Each (λ t. (a ≤ t.unit * unit_blocks) × (t.unit * unit_blocks + length t.blocks ≤ b)) (r ∷ rs) =
    each_both {P = λ t. (a ≤ t.unit * unit_blocks) × (suc t.unit * unit_blocks ≤ b)} (λ t p q. (p.0, omega (arith, p.1))) (each_both (λ t p q. (p, q)) low (units-within c (r ∷ rs) u)) u.most in
    each-call_runs (inside-joined object a b) object (r ∷ rs)
    (each-new_places object (each_weaken (λ t p. each-stretch object (t.unit * unit_blocks) t.blocks (λ l n m k. record { file = refl; low = omega (arith, p.0); high = omega (arith, p.1) })) both))

-- units are cut out one by one
cut-first : (object : ℕ) (r : Rewritten) (rs : List Rewritten) (es : List Extent) → cut_units object (r ∷ rs) es ≡ cut_units object rs (cut_unit object r.unit es)
unfolding cut_units
cut-first object r rs es = refl

module _ (object : ℕ) (r : Rewritten) (rs : List Rewritten) (es : List Extent) (l : Laid es) (u : Units (r ∷ rs)) where
  -- the start of the first unit
  abbrev pub start : ℕ
  start = r.unit * unit_blocks

  -- the end of the last
  abbrev pub end : ℕ
  end = units_end 0 (map (λ t. t.unit) (r ∷ rs))

  module _ (h : Each (InUnits object start end (r ∷ rs)) es) where
    -- the units cut out leave what is before the first and what is behind the last
    cut_all : cut_units object (r ∷ rs) es ≡ flat_map (lower object start) es ++ flat_map (upper object end) es
    cut_all =
        let d : ℕ = suc r.unit * unit_blocks in
        let e : end ≡ units_end d (map (λ t. t.unit) rs) = unfold units_end in refl in
        let k : Each (λ t. d ≤ t.unit * unit_blocks) rs = each_weaken (λ t q. omega arith) (units-behind u) in
        let m : d ≤ end = rw e (end-above d rs (units-tail u) k) in
        let tail : Each (InUnits object d (units_end d (map (λ t. t.unit) rs)) rs) es =
        each_weaken (λ x g y p q v. member-behind (y / unit_blocks) r.unit (map (λ t. t.unit) rs) (omega arith) (g y (omega arith) (omega arith) v)) h in
        cut-first object r rs es ∙ ap (cut_units object rs) (cut-unit object r.unit es) ∙ cut-behind object start d rs (omega arith) l.filled (units-tail u) k tail
        ∙ ap (λ (z : ℕ). cut_stretch object start z es) (sym e) ∙ cut-book object start end (omega arith) l.filled l.ahead

    -- the runs stand between the two, and only the first and the last of them can join what stands there
    pub finished-parts : finished_extents object (r ∷ rs) es ≡ attach (flat_map (lower object start) es) (attach (call_runs object (r ∷ rs)) (flat_map (upper object end) es))
    unfolding finished_extents
    finished-parts =
        let low : List Extent = flat_map (lower object start) es in
        let high : List Extent = flat_map (upper object end) es in
        let i : Each (Inside object start end) (call_runs object (r ∷ rs)) = runs-inside object 0 r rs u in
        let filled : Each (λ x. 0 < x.count) (low ++ high) = rw cut_all at (laid-cut_units object (r ∷ rs) l).filled in
        rw cut_all (take_in_all-among (call_runs object (r ∷ rs)) low high (runs-some object r rs (each_first u.filled)) (laid-call_runs object (r ∷ rs) u) (parted-call_runs object (r ∷ rs))
        (each-front {P = λ x. 0 < x.count} low high filled)
        (each_weaken (λ x p. each_weaken (λ g q. p g q.file q.low) i) (lower-ahead object start es))
        (each_weaken (λ g q. each_weaken (λ x p. p g q.file q.high) (upper-behind object end es)) i))

    -- no part has more blocks than its extent had
    pub few-parts : (n : ℕ) → Each (λ e. e.count ≤ n) es → Each (λ e. e.count ≤ n) (flat_map (lower object start) es ++ flat_map (upper object end) es)
    few-parts n k = rw cut_all at (each-cut_units {P = λ e. e.count ≤ n} (λ x e w p. omega (arith, w.low, w.high)) object (r ∷ rs) l.filled k)
