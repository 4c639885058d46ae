-- Laws of the stretches of units that follow one another: `stretches` gives what document 02 says in words, and it alone does; and the first stretch of a
-- range, for a walk that finds one after another.
-- Assumes nothing.
use mathlib.Core.Path.{◌≡◌, refl, sym, ap, ◌∙◌}
use mathlib.Core.List.{List, [], ◌∷◌, ◌++◌, map, flat_map}
use mathlib.Core.Bool.{Bool, true, false, ◌&&◌}
use Prim.Native.Nat.{ℕ, zero, suc, ◌+◌, ◌-◌, ◌≤◌, ◌<◌}
use native.Mathlib.Nat.{zero-add}
use native.Mathlib.Omega.{arith}
use lib.Dec.{eqb, ltb, leb}
use lib.ListN.{length, length-append}
use borrow.Author.Tests.{eqb-true, eqb-false, eq-eqb, ne_eqb, ltb-true, ltb-false, lt-ltb, leb-true, leb-false, le-leb}
use Rattle.rules.specs.Lists.{pick◌then◌else◌, range, all, any, filter, count, member, neighbours, ascending}
use Rattle.rules.specs.Bytes.{le_digits}
use Rattle.rules.specs.Card.{Card}
use Rattle.rules.specs.Book.{decode_book}
use Rattle.rules.specs.Store.{Volume}
use Rattle.rules.specs.Stretches.{Stretch, holds_data, extend, stretches, stretches_of, stretch_bytes, encode_stretch, decode_stretch, most_number, lies_in, ends_before, StretchesRight}
use Rattle.rules.proofs.ListLaws.{test-cases, clash, and_left, and_right, and_intro, if-true, if-false, if-cases, filter-append, filter-every, member-append, all-range-of, Each, each_none, each_more, each_append, each-any, each_weaken, ascending-first, ascending-tail}
use Rattle.rules.proofs.CountLaws.{same_test, filter-nothing, count-filter, count-each, count_none, count-cons, count-nil, member_filter, each_member, member-range-in, each-range, range_split, count-range-one, ascending-filter, ascending-cons, ascending-same, any-count, member-nil, member-range-of}
use Rattle.rules.proofs.ByteLaws.{length-le_digits, le-le_digits-fits, part-first, part-last}
use Rattle.rules.proofs.BookLaws.{pieces-flat_map}

-- the stretch of so many units from one on
abbrev pub stretch : ℕ → ℕ → Stretch
stretch first units = record { first = first; units = units }

-- ---- a unit in front

-- stretches of which the first starts at a unit
record Starts (unit : ℕ) (rs : List Stretch) : Type 0 where
  head : Stretch
  tail : List Stretch
  is : rs ≡ head ∷ tail
  first : head.first ≡ unit

extend-starts : (unit : ℕ) (rs : List Stretch) → Starts unit (extend unit rs)
unfolding extend
extend-starts unit [] = record { head = stretch unit 1; tail = []; is = refl; first = refl }
extend-starts unit (r ∷ rs) =
    if-cases (Starts unit) (eqb (suc unit) r.first) _ _
    (λ e. record { head = stretch unit (suc r.units); tail = rs; is = refl; first = refl })
    (λ e. record { head = stretch unit 1; tail = r ∷ rs; is = refl; first = refl })

-- where the first stretch starts further behind, the unit is one by itself
extend-far : (unit next : ℕ) (rs : List Stretch) → Starts next rs → suc unit < next → extend unit rs ≡ stretch unit 1 ∷ rs
extend-far unit next rs t l =
    rw t.is (unfold extend in if-false (eqb (suc unit) t.head.first) _ _ (ne_eqb (suc unit) t.head.first (λ e. omega (arith, e, t.first, l))))

stretches-far : (unit : ℕ) (us : List ℕ) → Each (λ b. suc unit < b) us → extend unit (stretches us) ≡ stretch unit 1 ∷ stretches us
stretches-far unit [] h = unfold extend stretches in refl
stretches-far unit (w ∷ ws) (each_more l h) = extend-far unit w (stretches (w ∷ ws)) (unfold stretches in extend-starts w (stretches ws)) l

-- units that follow one another, and none behind them that adjoins, are one stretch
stretches-run : (first k : ℕ) (us : List ℕ) → Each (λ b. first + suc k < b) us → stretches (range first (suc k) ++ us) ≡ stretch first (suc k) ∷ stretches us
unfolding range stretches
stretches-run first zero us h = stretches-far first us (each_weaken (λ b l. omega (arith, l)) h)
stretches-run first (suc k) us h =
    rw (stretches-run (suc first) k us (each_weaken (λ b l. omega (arith, l)) h))
    (unfold extend in if-true (eqb (suc first) (suc first)) _ _ (eq-eqb (suc first) (suc first) refl))

-- ---- the stretches of a range, one after another

module _ (f : ℕ → Bool) where
  -- those of the units from one on up to another, the latter not included
  abbrev pub stretches_from : ℕ → ℕ → List Stretch
  stretches_from a e = stretches (filter f (range a (e - a)))

  -- what is kept of a range that no unit passes
  none_kept : (a n : ℕ) → ((u : ℕ) → a ≤ u → u < a + n → f u ≡ false) → filter f (range a n) ≡ []
  none_kept a n h = filter-nothing f (each_weaken (λ u l. h u l.0 l.1) (each-range a n))

  -- and of one that every unit does
  all-kept : (a n : ℕ) → ((u : ℕ) → a ≤ u → u < a + n → f u ≡ true) → filter f (range a n) ≡ range a n
  all-kept a n h = filter-every f (range a n) (all-range-of f a n (λ i l. h (a + i) (omega arith) (omega (arith, l))))

  -- there is none
  pub no-stretch : (a e : ℕ) → ((u : ℕ) → a ≤ u → u < e → f u ≡ false) → stretches_from a e ≡ []
  no-stretch a e h = rw (none_kept a (e - a) (λ u l m. h u l (omega (arith, l, m)))) (unfold stretches in refl)

  -- the units that are kept from a place on lie behind it, where that one is not kept
  kept-behind : (h e : ℕ) → (h < e → f h ≡ false) → Each (λ b. h < b) (filter f (range h (e - h)))
  kept-behind h e n = each_member (λ b. h < b) (filter f (range h (e - h))) (λ b m.
      let both = member_filter b f (range h (e - h)) in
      let at = member-range-in b h (e - h) (and_right (f b) _ (sym both ∙ m)) in
      test-cases (h < b) (eqb h b)
      (λ q. let s = eqb-true h b q in
      absurd (clash (n (omega (arith, s, at.0, at.1))) (ap f s ∙ and_left (f b) _ (sym both ∙ m))))
      (λ q. let s = eqb-false h b q in omega (arith, s, at.0)))

  -- the first one: nothing before it, every unit in it, and it ends where the range does or a unit is missing
  pub next-stretch : (a d h e : ℕ) → a ≤ d → d < h → h ≤ e
      → ((u : ℕ) → a ≤ u → u < d → f u ≡ false) → ((u : ℕ) → d ≤ u → u < h → f u ≡ true) → (h < e → f h ≡ false)
      → stretches_from a e ≡ stretch d (h - d) ∷ stretches_from h e
  next-stretch a d h e p q r before within behind = ap stretches kept ∙ one
    where
      rest : List ℕ
      rest = filter f (range h (e - h))

      kept : filter f (range a (e - a)) ≡ range d (h - d) ++ rest
      kept = ap (filter f) (range_split a d e p (omega (arith, p, q, r)) ∙ ap (λ (us : List ℕ). range a (d - a) ++ us) (range_split d h e (omega (arith, q)) (omega (arith, q, r))))
          ∙ filter-append f (range a (d - a)) (range d (h - d) ++ range h (e - h))
          ∙ rw (none_kept a (d - a) (λ u l m. before u l (omega (arith, l, m, p)))) (filter-append f (range d (h - d)) (range h (e - h)) ∙ rw (all-kept d (h - d) (λ u l m. within u l (omega (arith, l, m, q)))) refl)

      length-is : suc (h - suc d) ≡ h - d
      length-is = omega (arith, q)

      one : stretches (range d (h - d) ++ rest) ≡ stretch d (h - d) ∷ stretches rest
      one = rw (sym length-is) (stretches-run d (h - suc d) rest (each_weaken (λ b l. omega (arith, l, q)) (kept-behind h e behind)))

-- ---- what document 02 says

-- a number for a test
abbrev one-if : Bool → ℕ
one-if b = pick b then 1 else 0

module _ (u : ℕ) (r : Stretch) where
  lies-of : r.first ≤ u → u < r.first + r.units → lies_in u r ≡ true
  unfolding lies_in
  lies-of p q = and_intro (leb r.first u) (ltb u (r.first + r.units)) (le-leb r.first u p) (lt-ltb u (r.first + r.units) q)

  lies-least : lies_in u r ≡ true → r.first ≤ u
  unfolding lies_in
  lies-least t = leb-true r.first u (and_left (leb r.first u) (ltb u (r.first + r.units)) t)

  lies-most : lies_in u r ≡ true → u < r.first + r.units
  unfolding lies_in
  lies-most t = ltb-true u (r.first + r.units) (and_right (leb r.first u) (ltb u (r.first + r.units)) t)

  lies-not : (r.first ≤ u → u < r.first + r.units → ⊥) → lies_in u r ≡ false
  lies-not n = test-cases (lies_in u r ≡ false) (lies_in u r) (λ t. absurd (n (lies-least t) (lies-most t))) (λ t. t)

-- a stretch that starts one unit earlier has that unit more
lies_more : (u a k : ℕ) → one-if (lies_in u (stretch a (suc k))) ≡ one-if (eqb u a) + one-if (lies_in u (stretch (suc a) k))
unfolding pick◌then◌else◌
lies_more u a k = test-cases P (eqb u a) here there
  where
    P : Type 0
    P = one-if (lies_in u (stretch a (suc k))) ≡ one-if (eqb u a) + one-if (lies_in u (stretch (suc a) k))

    here : eqb u a ≡ true → P
    here e =
        let s = eqb-true u a e in
        rw (e, lies-of u (stretch a (suc k)) (omega (arith, s)) (omega (arith, s)), lies-not u (stretch (suc a) k) (λ l m. omega (arith, s, l))) refl

    there : eqb u a ≡ false → P
    there e =
        let s = eqb-false u a e in
        let same : lies_in u (stretch a (suc k)) ≡ lies_in u (stretch (suc a) k) = same_test (lies_in u (stretch a (suc k))) (lies_in u (stretch (suc a) k))
        (λ t. let l = lies-least u (stretch a (suc k)) t in let m = lies-most u (stretch a (suc k)) t in
        lies-of u (stretch (suc a) k) (omega (arith, s, l)) (omega (arith, m)))
        (λ t. let l = lies-least u (stretch (suc a) k) t in let m = lies-most u (stretch (suc a) k) t in
        lies-of u (stretch a (suc k)) (omega (arith, l)) (omega (arith, m))) in
        rw (e, same) (sym (zero-add (one-if (lies_in u (stretch (suc a) k)))))

-- a stretch of one unit has that one
lies-one : (u a : ℕ) → lies_in u (stretch a 1) ≡ eqb u a
lies-one u a = same_test (lies_in u (stretch a 1)) (eqb u a)
    (λ t. let l = lies-least u (stretch a 1) t in let m = lies-most u (stretch a 1) t in eq-eqb u a (omega (arith, l, m)))
    (λ t. let s = eqb-true u a t in lies-of u (stretch a 1) (omega (arith, s)) (omega (arith, s)))

-- a unit in front is in one stretch more, and every other unit in as many as before
count-extend : (u a : ℕ) (rs : List Stretch) → count (lies_in u) (extend a rs) ≡ one-if (eqb u a) + count (lies_in u) rs
unfolding extend
count-extend u a [] = count-cons (lies_in u) (stretch a 1) [] ∙ rw (lies-one u a) refl
count-extend u a (r ∷ rs) =
    if-cases (λ qs. count (lies_in u) qs ≡ one-if (eqb u a) + count (lies_in u) (r ∷ rs)) (eqb (suc a) r.first) _ _
    (λ e. count-cons (lies_in u) (stretch a (suc r.units)) rs
    ∙ rw (lies_more u a r.units, eqb-true (suc a) r.first e) (omega (arith, count-cons (lies_in u) r rs)))
    (λ e. count-cons (lies_in u) (stretch a 1) (r ∷ rs) ∙ rw (lies-one u a) refl)

-- a unit lies in as many stretches as it stands in the list, whatever the list
count-stretches : (u : ℕ) (us : List ℕ) → count (lies_in u) (stretches us) ≡ count (eqb u) us
unfolding stretches
count-stretches u [] = count-nil (lies_in u) ∙ sym (count-nil (eqb u))
count-stretches u (a ∷ us) = count-extend u a (stretches us) ∙ rw (count-stretches u us) (sym (count-cons (eqb u) a us))

-- how often a unit stands among those of a range that pass a test
module _ (f : ℕ → Bool) (first n u : ℕ) where
  abbrev passes-here : ℕ → Bool
  passes-here x = f x && eqb u x

  once-kept : first ≤ u → u < first + n → f u ≡ true → count (eqb u) (filter f (range first n)) ≡ 1
  once-kept l m e =
      count-filter (eqb u) f (range first n)
      ∙ count-each passes-here (eqb u) (each-any (λ x. same_test (passes-here x) (eqb u x) (and_right (f x) (eqb u x)) (λ t. and_intro (f x) (eqb u x) (ap f (sym (eqb-true u x t)) ∙ e) t)) (range first n))
      ∙ count-range-one u first n l m

  never-kept : (first ≤ u → u < first + n → f u ≡ true → ⊥) → count (eqb u) (filter f (range first n)) ≡ 0
  never-kept h =
      count-filter (eqb u) f (range first n)
      ∙ count_none passes-here (each_weaken (λ x l. test-cases (passes-here x ≡ false) (passes-here x)
      (λ t. let s = eqb-true u x (and_right (f x) (eqb u x) t) in
      absurd (h (omega (arith, s, l.0)) (omega (arith, s, l.1)) (ap f s ∙ and_left (f x) (eqb u x) t)))
      (λ t. t)) (each-range first n))

-- a stretch that starts one unit earlier ends in front of the same ones
earlier-apart : (a : ℕ) (r : Stretch) (rs : List Stretch) → suc a ≡ r.first → neighbours ends_before (r ∷ rs) ≡ true → neighbours ends_before (stretch a (suc r.units) ∷ rs) ≡ true
unfolding neighbours ends_before
earlier-apart a r [] e h = refl
earlier-apart a r (q ∷ qs) e h =
    let l = ltb-true (r.first + r.units) q.first (and_left (ltb (r.first + r.units) q.first) (neighbours ends_before (q ∷ qs)) h) in
    and_intro (ltb (a + suc r.units) q.first) (neighbours ends_before (q ∷ qs)) (lt-ltb (a + suc r.units) q.first (omega (arith, e, l)))
    (and_right (ltb (r.first + r.units) q.first) (neighbours ends_before (q ∷ qs)) h)

extend-apart : (a : ℕ) (r : Stretch) (rs : List Stretch) → a < r.first → neighbours ends_before (r ∷ rs) ≡ true → neighbours ends_before (extend a (r ∷ rs)) ≡ true
unfolding extend neighbours ends_before
extend-apart a r rs l h =
    if-cases (λ qs. neighbours ends_before qs ≡ true) (eqb (suc a) r.first) _ _
    (λ e. earlier-apart a r rs (eqb-true (suc a) r.first e) h)
    (λ e. let s = eqb-false (suc a) r.first e in new s)
  where
    new : (suc a ≡ r.first → ⊥) → neighbours ends_before (stretch a 1 ∷ r ∷ rs) ≡ true
    new s = and_intro (ltb (a + 1) r.first) (neighbours ends_before (r ∷ rs)) (lt-ltb (a + 1) r.first (omega (arith, l, s))) h

-- the stretches of units that ascend do not adjoin
stretches-apart : (us : List ℕ) → ascending ltb us ≡ true → neighbours ends_before (stretches us) ≡ true
unfolding stretches extend neighbours
stretches-apart [] h = refl
stretches-apart (u ∷ []) h = refl
stretches-apart (u ∷ w ∷ ws) h = from (extend-starts w (stretches ws)) (stretches-apart (w ∷ ws) (ascending-tail ltb u (w ∷ ws) h))
  where
    from : Starts w (extend w (stretches ws)) → neighbours ends_before (extend w (stretches ws)) ≡ true → neighbours ends_before (extend u (extend w (stretches ws))) ≡ true
    from t k = rw t.is (extend-apart u t.head t.tail (omega (arith, t.first, ltb-true u w (ascending-first ltb u w ws h))) (ap (neighbours ends_before) (sym t.is) ∙ k))

-- a stretch has a unit
abbrev filled : Stretch → Bool
filled r = ltb 0 r.units

extend-filled : (a : ℕ) (rs : List Stretch) → all filled rs ≡ true → all filled (extend a rs) ≡ true
unfolding extend all
extend-filled a [] h = refl
extend-filled a (r ∷ rs) h =
    if-cases (λ qs. all filled qs ≡ true) (eqb (suc a) r.first) _ _
    (λ e. and_intro (ltb 0 (suc r.units)) (all filled rs) (lt-ltb 0 (suc r.units) (omega arith)) (and_right (filled r) (all filled rs) h))
    (λ e. h)

stretches-filled : (us : List ℕ) → all filled (stretches us) ≡ true
unfolding stretches all
stretches-filled [] = refl
stretches-filled (u ∷ us) = extend-filled u (stretches us) (stretches-filled us)

-- W-206 in words, of the units of a range that pass a test
pub range-right : (f : ℕ → Bool) (first units : ℕ) → StretchesRight f first units (stretches (filter f (range first units)))
range-right f first units = record {
  each = λ u l m e. count-stretches u (filter f (range first units)) ∙ once-kept f first units u l m e;
  other = λ u h. count-stretches u (filter f (range first units)) ∙ never-kept f first units u h;
  apart = stretches-apart (filter f (range first units)) (ascending-filter f first units);
  filled = stretches-filled (filter f (range first units));
}

-- and of the stretches that the call lists
pub stretches-right : (v : Volume) (c : Card) (first units : ℕ) → StretchesRight (holds_data v c) first units (stretches_of v c first units)
unfolding stretches_of
stretches-right v c first units = range-right (holds_data v c) first units

-- ---- no other list is right

-- the units that lie in stretches
abbrev units_in : List Stretch → List ℕ
units_in rs = flat_map (λ r. range r.first r.units) rs

units-behind : (r : Stretch) (rs : List Stretch) → neighbours ends_before (r ∷ rs) ≡ true → Each (λ b. r.first + r.units < b) (units_in rs)
unfolding neighbours ends_before flat_map
units-behind r [] h = each_none
units-behind r (q ∷ qs) h =
    let l = ltb-true (r.first + r.units) q.first (and_left (ltb (r.first + r.units) q.first) (neighbours ends_before (q ∷ qs)) h) in
    let k = units-behind q qs (and_right (ltb (r.first + r.units) q.first) (neighbours ends_before (q ∷ qs)) h) in
    each_append (each_weaken (λ b m. omega (arith, l, m.0)) (each-range q.first q.units)) (each_weaken (λ b m. omega (arith, l, m)) k)

ascending-front : (x : ℕ) (ys : List ℕ) → Each (λ b. x < b) ys → ascending ltb ys ≡ true → ascending ltb (x ∷ ys) ≡ true
ascending-front x [] h a = unfold neighbours in refl
ascending-front x (y ∷ ys) (each_more l h) a = ascending-cons x y ys l a

ascending-run : (first n : ℕ) (us : List ℕ) → Each (λ b. first + n ≤ b) us → ascending ltb us ≡ true → ascending ltb (range first n ++ us) ≡ true
unfolding range
ascending-run first zero us h a = a
ascending-run first (suc n) us h a =
    ascending-front first (range (suc first) n ++ us)
    (each_append (each_weaken (λ b m. omega (arith, m.0)) (each-range (suc first) n)) (each_weaken (λ b m. omega (arith, m)) h))
    (ascending-run (suc first) n us (each_weaken (λ b m. omega (arith, m)) h) a)

-- they ascend
units-ascend : (rs : List Stretch) → neighbours ends_before rs ≡ true → ascending ltb (units_in rs) ≡ true
unfolding flat_map neighbours
units-ascend [] h = refl
units-ascend (r ∷ rs) h = ascending-run r.first r.units (units_in rs) (each_weaken (λ b l. omega (arith, l)) (units-behind r rs h)) (units-ascend rs (ascending-tail ends_before r rs h))

-- and make up the stretches again
stretches-units : (rs : List Stretch) → neighbours ends_before rs ≡ true → all filled rs ≡ true → stretches (units_in rs) ≡ rs
unfolding flat_map all stretches
stretches-units [] h k = refl
stretches-units (r ∷ rs) h k = again r.units refl (stretches-units rs (ascending-tail ends_before r rs h) (and_right (filled r) (all filled rs) k))
  where
    again : (n : ℕ) → r.units ≡ n → stretches (units_in rs) ≡ rs → stretches (range r.first r.units ++ units_in rs) ≡ r ∷ rs
    again zero e i = let l = ltb-true 0 r.units (and_left (filled r) (all filled rs) k) in absurd (omega (arith, e, l))
    again (suc n) e i =
        rw e (stretches-run r.first n (units_in rs) (each_weaken (λ b l. omega (arith, l, e)) (units-behind r rs h)) ∙ rw i refl)

-- a unit is among them where it lies in one
member-units : (u : ℕ) (rs : List Stretch) → member u (units_in rs) ≡ any (lies_in u) rs
unfolding flat_map any
member-units u [] = member-nil u
member-units u (r ∷ rs) =
    member-append u (range r.first r.units) (units_in rs)
    ∙ rw (
      member-units u rs,
      same_test (member u (range r.first r.units)) (lies_in u r)
          (λ t. let l = member-range-in u r.first r.units t in lies-of u r l.0 l.1)
          (λ t. member-range-of u r.first r.units (lies-least u r t) (lies-most u r t)),
    ) refl

-- two lists of which document 02 says the same are one list: its words leave no choice
pub stretches-only : (f : ℕ → Bool) (first units : ℕ) (rs qs : List Stretch) → StretchesRight f first units rs → StretchesRight f first units qs → rs ≡ qs
stretches-only f first units rs qs r q =
    sym (stretches-units rs r.apart r.filled)
    ∙ ap stretches (ascending-same (units_in rs) (units_in qs) (units-ascend rs r.apart) (units-ascend qs q.apart)
    (λ u. seen rs u ∙ ap (ltb 0) (as-often u) ∙ sym (seen qs u)))
    ∙ stretches-units qs q.apart q.filled
  where
    seen : (ps : List Stretch) (u : ℕ) → member u (units_in ps) ≡ ltb 0 (count (lies_in u) ps)
    seen ps u = member-units u ps ∙ any-count (lies_in u) ps

    as-often : (u : ℕ) → count (lies_in u) rs ≡ count (lies_in u) qs
    as-often u =
        let P : Type 0 = count (lies_in u) rs ≡ count (lies_in u) qs in
        let not : ((first ≤ u) → (u < first + units) → f u ≡ true → ⊥) → P = λ n. r.other u n ∙ sym (q.other u n) in
        test-cases P (leb first u) (λ l. test-cases P (ltb u (first + units)) (λ m. test-cases P (f u)
        (λ e. r.each u (leb-true first u l) (ltb-true u (first + units) m) e ∙ sym (q.each u (leb-true first u l) (ltb-true u (first + units) m) e))
        (λ e. not (λ a b c. clash e c)))
        (λ m. not (λ a b c. omega (arith, ltb-false u (first + units) m, b))))
        (λ l. not (λ a b c. omega (arith, leb-false first u l, a)))

-- ---- the pairs in the output

-- the stretches of units below a number end there or before
stretches-end : (e : ℕ) {us : List ℕ} → Each (λ b. b < e) us → Each (λ r. r.first + r.units ≤ e) (stretches us)
unfolding stretches
stretches-end e each_none = each_none
stretches-end e (each_more {x = u} {xs = us} l h) = more (stretches us) (stretches-end e h)
  where
    more : (rs : List Stretch) → Each (λ r. r.first + r.units ≤ e) rs → Each (λ r. r.first + r.units ≤ e) (extend u rs)
    more [] k = unfold extend in each_more {x = stretch u 1} (omega (arith, l)) each_none
    more (r ∷ rs) (each_more m k) = unfold extend in if-cases (Each (λ q. q.first + q.units ≤ e)) (eqb (suc u) r.first) (stretch u (suc r.units) ∷ rs) (stretch u 1 ∷ r ∷ rs)
        (λ s. let t = eqb-true (suc u) r.first s in each_more {x = stretch u (suc r.units)} (omega (arith, t, m)) k)
        (λ s. each_more {x = stretch u 1} (omega (arith, l)) (each_more m k))

-- so none of a range ends past it
pub stretches-within : (v : Volume) (c : Card) (first units : ℕ) → Each (λ r. r.first + r.units ≤ first + units) (stretches_of v c first units)
unfolding stretches_of
stretches-within v c first units = stretches-end (first + units) (each_member (λ b. b < first + units) (filter (holds_data v c) (range first units)) (λ b m.
    (member-range-in b first units (and_right (holds_data v c b) (member b (range first units)) (sym (member_filter b (holds_data v c) (range first units)) ∙ m))).1))

-- a pair's bytes are 16
pub length-encode_stretch : (r : Stretch) → length (encode_stretch r) ≡ stretch_bytes
unfolding encode_stretch
length-encode_stretch r = rw (length-append (le_digits 8 r.first) (le_digits 8 r.units), length-le_digits 8 r.first, length-le_digits 8 r.units) refl

-- and say it, where its numbers are of 64 bits
stretch-back : (r : Stretch) → r.first + r.units ≤ most_number → decode_stretch (encode_stretch r) ≡ r
unfolding decode_stretch encode_stretch
stretch-back r h =
    rw (
      part-first (le_digits 8 r.first) (le_digits 8 r.units) 8 (length-le_digits 8 r.first),
      part-last (le_digits 8 r.first) (le_digits 8 r.units) 8 8 (length-le_digits 8 r.first) (length-le_digits 8 r.units),
      le-le_digits-fits 8 r.first (omega (arith, h)),
      le-le_digits-fits 8 r.units (omega (arith, h)),
    ) refl

-- the pairs at the head of an output buffer are read from it again
pub decode-stretches : (behind : List ℕ) {rs : List Stretch} → Each (λ r. r.first + r.units ≤ most_number) rs
    → decode_book decode_stretch stretch_bytes (length rs) (flat_map encode_stretch rs ++ behind) ≡ rs
unfolding decode_book
decode-stretches behind {rs} h = ap (map decode_stretch) (pieces-flat_map encode_stretch stretch_bytes behind (each-any length-encode_stretch rs)) ∙ back h
  where
    back : {qs : List Stretch} → Each (λ r. r.first + r.units ≤ most_number) qs → map decode_stretch (map encode_stretch qs) ≡ qs
    back each_none = refl
    back (each_more {x = q} m k) = rw (stretch-back q m, back k) refl
