-- Laws of how often a test passes in a list: lists of numbers in another order, ranges, and lists in which no number stands twice.
-- Assumes nothing.
use mathlib.Core.Path.{◌≡◌, refl, sym, ap, ◌∙◌}
use mathlib.Core.List.{List, [], ◌∷◌, ◌++◌, map, flat_map, get_last?, append_assoc}
use mathlib.Core.Bool.{Bool, true, false, ◌&&◌, ◌||◌, false≢true, and-false}
use mathlib.Core.Option.{none, some, none-ne-some, some-injective}
use Prim.Native.Nat.{ℕ, zero, suc, ◌+◌, ◌-◌, ◌≤◌, ◌<◌}
use native.Mathlib.Nat.{add-zero, add-suc, suc-add, add_comm, zero-add}
use native.Mathlib.Omega.{arith}
use lib.Dec.{eqb, ltb}
use lib.ListN.{length, take, drop, take-append-drop}
use borrow.Author.Tests.{eqb-true, eqb-false, eq-eqb, ne_eqb, ltb-true, lt-ltb, le-ltb}
use Rattle.rules.specs.Lists.{range, any, filter, count, member, ascending, neighbours, pick◌then◌else◌}
use Rattle.rules.proofs.ListLaws.{test-cases, clash, and_left, and_right, and_intro, or_cases, or_left, or_right, filter-yes, filter-no, count-append, count_yes, count_no, range-add, member-append, Each, each_none, each_more, each_weaken, each-any, ascending-first, ascending-tail, if-true, if-false}

-- ---- tests

-- two tests that follow from each other are one
pub same_test : (a b : Bool) → (a ≡ true → b ≡ true) → (b ≡ true → a ≡ true) → a ≡ b
same_test true b p q = sym (p refl)
same_test false true p q = q refl
same_test false false p q = refl

-- ---- filters and counts

module _ {A : Type 0} where
  -- tests that agree on each element keep the same ones
  pub filter-each : (f g : A → Bool) {xs : List A} → Each (λ x. f x ≡ g x) xs → filter f xs ≡ filter g xs
  unfolding filter
  filter-each f g each_none = refl
  filter-each f g (each_more {x = x} {xs = xs} e h) = rw (e, filter-each f g h) refl

  -- nothing is kept where the test fails at each
  pub filter-nothing : (f : A → Bool) {xs : List A} → Each (λ x. f x ≡ false) xs → filter f xs ≡ []
  filter-nothing f each_none = unfold filter in refl
  filter-nothing f (each_more {x = x} {xs = xs} p h) = filter-no f x xs p ∙ filter-nothing f h

  -- one test after another is both
  pub filter-filter : (f g : A → Bool) (xs : List A) → filter f (filter g xs) ≡ filter (λ x. g x && f x) xs
  filter-filter f g [] = unfold filter in refl
  filter-filter f g (x ∷ xs) =
      let P : Type 0 = filter f (filter g (x ∷ xs)) ≡ filter (λ y. g y && f y) (x ∷ xs) in
      let both : A → Bool = λ y. g y && f y in
      test-cases P (g x)
      (λ p. test-cases P (f x)
      (λ q. rw (filter-yes g x xs p, filter-yes f x (filter g xs) q, filter-yes both x xs (and_intro (g x) (f x) p q), filter-filter f g xs) refl)
      (λ q. rw (filter-yes g x xs p, filter-no f x (filter g xs) q, filter-no both x xs (rw p q), filter-filter f g xs) refl))
      (λ p. rw (filter-no g x xs p, filter-no both x xs (rw p refl), filter-filter f g xs) refl)

  -- how many of those that pass one test pass another
  pub count-filter : (f g : A → Bool) (xs : List A) → count f (filter g xs) ≡ count (λ x. g x && f x) xs
  unfolding count
  count-filter f g xs = ap length (filter-filter f g xs)

  -- tests that agree on each element pass as often
  pub count-each : (f g : A → Bool) {xs : List A} → Each (λ x. f x ≡ g x) xs → count f xs ≡ count g xs
  unfolding count
  count-each f g h = ap length (filter-each f g h)

  -- a test passes at least as often as one that implies it
  pub count-weaken : (f g : A → Bool) → ((x : A) → f x ≡ true → g x ≡ true) → (xs : List A) → count f xs ≤ count g xs
  count-weaken f g h [] = unfold count filter in omega arith
  count-weaken f g h (x ∷ xs) =
      let P : Type 0 = count f (x ∷ xs) ≤ count g (x ∷ xs) in
      let r : count f xs ≤ count g xs = count-weaken f g h xs in
      test-cases P (f x)
      (λ p. rw (count_yes f x xs p, count_yes g x xs (h x p)) (omega arith))
      (λ p. test-cases P (g x) (λ q. rw (count_no f x xs p, count_yes g x xs q) (omega arith)) (λ q. rw (count_no f x xs p, count_no g x xs q) r))

  -- a test passes at the first element or behind it
  pub any-cons : (f : A → Bool) (x : A) (xs : List A) → any f (x ∷ xs) ≡ (f x || any f xs)
  unfolding any
  any-cons f x xs = refl

  -- a test that fails at each element passes never
  pub count_none : (f : A → Bool) {xs : List A} → Each (λ x. f x ≡ false) xs → count f xs ≡ 0
  count_none f each_none = unfold count filter in refl
  count_none f (each_more {x = x} {xs = xs} p h) = count_no f x xs p ∙ count_none f h

  -- a test passes at some element where it passes once or more
  pub any-count : (f : A → Bool) (xs : List A) → any f xs ≡ ltb 0 (count f xs)
  any-count f [] = unfold any count filter in refl
  any-count f (x ∷ xs) =
      test-cases (any f (x ∷ xs) ≡ ltb 0 (count f (x ∷ xs))) (f x)
      (λ p. rw (any-cons f x xs, p) (sym (lt-ltb 0 (count f (x ∷ xs)) (rw (count_yes f x xs p) (omega arith)))))
      (λ p. rw (count_no f x xs p, any-cons f x xs, p) (any-count f xs))

  -- a test fails at every element where it passes never
  pub any_none : (f : A → Bool) (xs : List A) → count f xs ≡ 0 → any f xs ≡ false
  any_none f xs e = any-count f xs ∙ rw e refl

  -- in the front of a list and behind it
  pub count-take-drop : (f : A → Bool) (n : ℕ) (xs : List A) → count f xs ≡ count f (take n xs) + count f (drop n xs)
  count-take-drop f n xs = ap (count f) (sym (take-append-drop n xs)) ∙ count-append f (take n xs) (drop n xs)

module _ {A B : Type 0} where
  -- two lists joined
  pub flat_map-append : (s : A → List B) (xs ys : List A) → flat_map s (xs ++ ys) ≡ flat_map s xs ++ flat_map s ys
  unfolding flat_map
  flat_map-append s [] ys = refl
  flat_map-append s (x ∷ xs) ys = rw (flat_map-append s xs ys) (sym (append_assoc (s x) (flat_map s xs) (flat_map s ys)))

  -- functions that agree on each element
  pub flat_map-each : (s t : A → List B) {xs : List A} → Each (λ x. s x ≡ t x) xs → flat_map s xs ≡ flat_map t xs
  unfolding flat_map
  flat_map-each s t each_none = refl
  flat_map-each s t (each_more {x = x} {xs = xs} e h) = rw (e, flat_map-each s t h) refl

  -- the lists of each element, each in another order
  pub count-flat_map : (f : B → Bool) (s t : A → List B) {xs : List A} → Each (λ x. count f (s x) ≡ count f (t x)) xs → count f (flat_map s xs) ≡ count f (flat_map t xs)
  unfolding flat_map
  count-flat_map f s t each_none = refl
  count-flat_map f s t (each_more {x = x} {xs = xs} e h) =
      count-append f (s x) (flat_map s xs) ∙ rw (e, count-flat_map f s t h) (sym (count-append f (t x) (flat_map t xs)))

-- two lists joined the other way round
pub count-swap : {A : Type 0} (f : A → Bool) (xs ys : List A) → count f (xs ++ ys) ≡ count f (ys ++ xs)
count-swap f xs ys = count-append f xs ys ∙ add_comm (count f xs) (count f ys) ∙ sym (count-append f ys xs)

-- ---- members

-- a number stands in a list where it stands there once or more
pub member-count : (b : ℕ) (xs : List ℕ) → member b xs ≡ ltb 0 (count (eqb b) xs)
unfolding member
member-count b xs = any-count (eqb b) xs

-- a number is the first of a list or stands behind it
pub member-cons : (b x : ℕ) (xs : List ℕ) → member b (x ∷ xs) ≡ (eqb b x || member b xs)
unfolding member any
member-cons b x xs = refl

-- no number stands in a list without any
pub member-nil : (b : ℕ) → member b [] ≡ false
unfolding member any
member-nil b = refl

-- a number that is kept passes the test and stood in the list
pub member_filter : (b : ℕ) (f : ℕ → Bool) (xs : List ℕ) → member b (filter f xs) ≡ (f b && member b xs)
member_filter b f [] = rw (member-nil b, and-false (f b)) (unfold filter in member-nil b)
member_filter b f (x ∷ xs) =
    let P : Type 0 = member b (filter f (x ∷ xs)) ≡ (f b && member b (x ∷ xs)) in
    let r : member b (filter f xs) ≡ (f b && member b xs) = member_filter b f xs in
    test-cases P (eqb b x)
    (λ e. let q : b ≡ x = eqb-true b x e in
    let z : f b ≡ f x = ap f q in
    test-cases P (f x)
    (λ p. rw (filter-yes f x xs p, member-cons b x (filter f xs), member-cons b x xs, e, z, p) refl)
    (λ p. rw (filter-no f x xs p, r, z, p) refl))
    (λ e. test-cases P (f x)
    (λ p. rw (filter-yes f x xs p, member-cons b x (filter f xs), member-cons b x xs, e) r)
    (λ p. rw (filter-no f x xs p, member-cons b x xs, e) r))

-- a number in the front of a list stands in the list
pub member-take : (b n : ℕ) (xs : List ℕ) → member b (take n xs) ≡ true → member b xs ≡ true
member-take b n xs h =
    ap (member b) (sym (take-append-drop n xs)) ∙ member-append b (take n xs) (drop n xs) ∙ or_left (member b (take n xs)) (member b (drop n xs)) h

-- the last number of a list stands in it
pub member-last : (b : ℕ) (xs : List ℕ) → get_last? xs ≡ some b → member b xs ≡ true
unfolding member any
member-last b [] h = absurd (none-ne-some b h)
member-last b (x ∷ []) h = or_left (eqb b x) false (eq-eqb b x (some-injective b x (sym h)))
member-last b (x ∷ y ∷ ys) h = or_right (eqb b x) (any (eqb b) (y ∷ ys)) (member-last b (y ∷ ys) h)

-- a property of each number of a list is one of its members
pub each_member : (P : ℕ → Type 0) (xs : List ℕ) → ((b : ℕ) → member b xs ≡ true → P b) → Each P xs
unfolding member any
each_member P [] h = each_none
each_member P (x ∷ xs) h =
    each_more (h x (or_left (eqb x x) (any (eqb x) xs) (eq-eqb x x refl))) (each_member P xs (λ b m. h b (or_right (eqb b x) (any (eqb b) xs) m)))

-- and the other way round
pub member-each : (P : ℕ → Type 0) {xs : List ℕ} → Each P xs → (b : ℕ) → member b xs ≡ true → P b
unfolding member any
member-each P each_none b m = absurd (false≢true m)
member-each P (each_more {x = x} {xs = xs} p h) b m =
    or_cases (P b) (eqb b x) (any (eqb b) xs) m (λ e. rw (eqb-true b x e) p) (λ e. member-each P h b e)

-- ---- ranges

-- a number that is no less than the first and below the end stands in the range
pub member-range-of : (b first n : ℕ) → first ≤ b → b < first + n → member b (range first n) ≡ true
unfolding range
member-range-of b first zero p q = absurd (omega arith)
member-range-of b first (suc n) p q =
    rw (member-cons b first (range (suc first) n))
    (test-cases ((eqb b first || member b (range (suc first) n)) ≡ true) (eqb b first)
    (λ e. or_left (eqb b first) (member b (range (suc first) n)) e)
    (λ e. let d : b ≡ first → ⊥ = eqb-false b first e in
    or_right (eqb b first) (member b (range (suc first) n)) (member-range-of b (suc first) n (omega arith) (omega arith))))

-- each number of a range lies in it
pub each-range : (first n : ℕ) → Each (λ b. (first ≤ b) × (b < first + n)) (range first n)
unfolding range
each-range first zero = each_none
each-range first (suc n) = each_more {x = first} (omega arith) (each_weaken (λ b h. omega arith) (each-range (suc first) n))

-- a member of a range lies in it
pub member-range-in : (b first n : ℕ) → member b (range first n) ≡ true → (first ≤ b) × (b < first + n)
member-range-in b first n m = member-each (λ x. (first ≤ x) × (x < first + n)) (each-range first n) b m

-- which numbers stand in a range from 0 on
pub member-range : (b n : ℕ) → member b (range 0 n) ≡ ltb b n
member-range b n =
    same_test (member b (range 0 n)) (ltb b n)
    (λ m. let r : (0 ≤ b) × (b < 0 + n) = member-range-in b 0 n m in lt-ltb b n (omega arith))
    (λ e. let l : b < n = ltb-true b n e in member-range-of b 0 n (omega arith) (omega arith))

-- a range in two runs that meet at c
pub range_split : (s c e : ℕ) → s ≤ c → c - s ≤ e - s → range s (e - s) ≡ range s (c - s) ++ range c (e - c)
range_split s c e p q =
    ap (range s) (omega arith) ∙ range-add s (c - s) (e - c) ∙ ap (λ (a : ℕ). range s (c - s) ++ range a (e - c)) (omega arith)

-- the numbers below e, in two runs that meet at c
pub range_front : (c e : ℕ) → c ≤ e → range 0 e ≡ range 0 c ++ range c (e - c)
range_front c e p = ap (range 0) (omega arith) ∙ range-add 0 c (e - c) ∙ ap (λ (a : ℕ). range 0 c ++ range a (e - c)) (zero-add c)

-- a range and its first number
pub range-first : (first end : ℕ) → first < end → range first (end - first) ≡ first ∷ range (suc first) (end - suc first)
range-first first end l = ap (range first) (omega arith) ∙ step
  where
    step : range first (suc (end - suc first)) ≡ first ∷ range (suc first) (end - suc first)
    step = unfold range in refl

-- a range of no numbers
pub range_none : (first n : ℕ) → n ≡ 0 → range first n ≡ []
unfolding range
range_none first n e = rw e refl

-- a function that moves each number of a range as far moves the range
pub map_range : (f : ℕ → ℕ) (a b n : ℕ) → ((i : ℕ) → i < n → f (a + i) ≡ b + i) → map f (range a n) ≡ range b n
unfolding range
map_range f a b zero h = refl
map_range f a b (suc n) h =
    let e : f a ≡ b = ap f (sym (add-zero a)) ∙ h 0 (omega arith) ∙ add-zero b in
    rw (e, map_range f (suc a) (suc b) n (λ i l. ap f (suc-add a i ∙ sym (add-suc a i)) ∙ h (suc i) (omega arith) ∙ add-suc b i ∙ sym (suc-add b i))) refl

-- a number below the first stands never in a range
pub count-range-below : (b first n : ℕ) → b < first → count (eqb b) (range first n) ≡ 0
unfolding range
count-range-below b first zero l = unfold count filter in refl
count-range-below b first (suc n) l =
    count_no (eqb b) first (range (suc first) n) (ne_eqb b first (λ e. omega arith)) ∙ count-range-below b (suc first) n (omega arith)

-- a number that lies in a range stands there once
pub count-range-one : (b first n : ℕ) → first ≤ b → b < first + n → count (eqb b) (range first n) ≡ 1
unfolding range
count-range-one b first zero p q = absurd (omega arith)
count-range-one b first (suc n) p q =
    test-cases (count (eqb b) (first ∷ range (suc first) n) ≡ 1) (eqb b first)
    (λ e. let d : b ≡ first = eqb-true b first e in
    count_yes (eqb b) first (range (suc first) n) e ∙ ap suc (count-range-below b (suc first) n (omega arith)))
    (λ e. let d : b ≡ first → ⊥ = eqb-false b first e in
    count_no (eqb b) first (range (suc first) n) e ∙ count-range-one b (suc first) n (omega arith) (omega arith))

-- no number stands twice in the list
abbrev pub Once : List ℕ → Type 0
Once xs = (b : ℕ) → count (eqb b) xs ≤ 1

-- nor in a range
pub once-range : (first n : ℕ) → Once (range first n)
unfolding range
once-range first zero b = unfold count filter in omega arith
once-range first (suc n) b =
    test-cases (count (eqb b) (first ∷ range (suc first) n) ≤ 1) (eqb b first)
    (λ e. let q : b ≡ first = eqb-true b first e in
    rw (count_yes (eqb b) first (range (suc first) n) e, count-range-below b (suc first) n (omega arith)) (omega arith))
    (λ e. rw (count_no (eqb b) first (range (suc first) n) e) (once-range (suc first) n b))

-- what is kept of such a list
pub once-filter : (f : ℕ → Bool) (xs : List ℕ) → Once xs → Once (filter f xs)
once-filter f xs h b =
    let q : count (eqb b) xs ≤ 1 = h b in
    let w : count (λ x. f x && eqb b x) xs ≤ count (eqb b) xs = count-weaken (λ x. f x && eqb b x) (eqb b) (λ x e. and_right (f x) (eqb b x) e) xs in
    rw (count-filter (eqb b) f xs) (omega arith)

-- the front of such a list
pub once-take : (n : ℕ) (xs : List ℕ) → Once xs → Once (take n xs)
once-take n xs h b =
    let q : count (eqb b) xs ≤ 1 = h b in
    let e : count (eqb b) xs ≡ count (eqb b) (take n xs) + count (eqb b) (drop n xs) = count-take-drop (eqb b) n xs in
    omega arith

-- what stands behind the first
pub once-tail : (x : ℕ) (xs : List ℕ) → Once (x ∷ xs) → Once xs
once-tail x xs h b =
    let q : count (eqb b) (x ∷ xs) ≤ 1 = h b in
    test-cases (count (eqb b) xs ≤ 1) (eqb b x)
    (λ e. let r : count (eqb b) (x ∷ xs) ≡ suc (count (eqb b) xs) = count_yes (eqb b) x xs e in omega arith)
    (λ e. let r : count (eqb b) (x ∷ xs) ≡ count (eqb b) xs = count_no (eqb b) x xs e in omega arith)

-- the first does not stand behind itself
pub once-head : (x : ℕ) (xs : List ℕ) → Once (x ∷ xs) → member x xs ≡ false
once-head x xs h =
    let q : count (eqb x) (x ∷ xs) ≤ 1 = h x in
    let r : count (eqb x) (x ∷ xs) ≡ suc (count (eqb x) xs) = count_yes (eqb x) x xs (eq-eqb x x refl) in
    member-count x xs ∙ le-ltb 0 (count (eqb x) xs) (omega arith)

-- a number that a test leaves out, and those that pass it
pub count-or : (x : ℕ) (g : ℕ → Bool) → g x ≡ false → (ys : List ℕ) → count (λ b. eqb b x || g b) ys ≡ count (eqb x) ys + count g ys
count-or x g n [] = unfold count filter in refl
count-or x g n (y ∷ ys) =
    let f : ℕ → Bool = λ b. eqb b x || g b in
    let P : Type 0 = count f (y ∷ ys) ≡ count (eqb x) (y ∷ ys) + count g (y ∷ ys) in
    let r : count f ys ≡ count (eqb x) ys + count g ys = count-or x g n ys in
    test-cases P (eqb y x)
    (λ e. let q : y ≡ x = eqb-true y x e in
    rw (count_yes f y ys (or_left (eqb y x) (g y) e), count_yes (eqb x) y ys (eq-eqb x y (sym q)), count_no g y ys (ap g q ∙ n)) (omega arith))
    (λ e. let d : y ≡ x → ⊥ = eqb-false y x e in
    let a : count (eqb x) (y ∷ ys) ≡ count (eqb x) ys = count_no (eqb x) y ys (ne_eqb x y (λ q. d (sym q))) in
    test-cases P (g y)
    (λ p. let b : count f (y ∷ ys) ≡ suc (count f ys) = count_yes f y ys (or_right (eqb y x) (g y) p) in
    let c : count g (y ∷ ys) ≡ suc (count g ys) = count_yes g y ys p in omega arith)
    (λ p. let b : count f (y ∷ ys) ≡ count f ys = count_no f y ys (rw e p) in
    let c : count g (y ∷ ys) ≡ count g ys = count_no g y ys p in omega arith))

-- the numbers of a list in which none stands twice are as many among those below a bound as the list is long
pub count-member : (n : ℕ) (xs : List ℕ) → Once xs → Each (λ b. b < n) xs → count (λ b. member b xs) (range 0 n) ≡ length xs
count-member n [] h l = count_none (λ b. member b []) (each-any (λ b. member-nil b) (range 0 n))
count-member n (x ∷ xs) h (each_more l r) =
    count-each (λ b. member b (x ∷ xs)) (λ b. eqb b x || member b xs) (each-any (λ b. member-cons b x xs) (range 0 n))
    ∙ count-or x (λ b. member b xs) (once-head x xs h) (range 0 n)
    ∙ rw (count-range-one x 0 n (omega arith) (omega arith), count-member n xs (once-tail x xs h) r) (suc-add 0 (length xs) ∙ ap suc (zero-add (length xs)))

-- ---- ascending numbers

-- a number below the first of an ascending list goes in front
pub ascending-cons : (x y : ℕ) (ys : List ℕ) → x < y → ascending ltb (y ∷ ys) ≡ true → ascending ltb (x ∷ y ∷ ys) ≡ true
unfolding neighbours
ascending-cons x y ys l h = and_intro (ltb x y) (ascending ltb (y ∷ ys)) (lt-ltb x y l) h

-- what is kept of the numbers behind one ascends with it
ascending-behind : (f : ℕ → Bool) (first n x : ℕ) → x < first → ascending ltb (x ∷ filter f (range first n)) ≡ true
unfolding range
ascending-behind f first zero x l = unfold filter neighbours in refl
ascending-behind f first (suc n) x l =
    test-cases (ascending ltb (x ∷ filter f (first ∷ range (suc first) n)) ≡ true) (f first)
    (λ p. rw (filter-yes f first (range (suc first) n) p)
    (ascending-cons x first (filter f (range (suc first) n)) l (ascending-behind f (suc first) n first (omega arith))))
    (λ p. rw (filter-no f first (range (suc first) n) p) (ascending-behind f (suc first) n x (omega arith)))

-- a range ascends
pub ascending-range : (first n : ℕ) → ascending ltb (range first n) ≡ true
unfolding range neighbours
ascending-range first zero = refl
ascending-range first (suc zero) = refl
ascending-range first (suc (suc n)) = and_intro (ltb first (suc first)) (ascending ltb (range (suc first) (suc n))) (lt-ltb first (suc first) (omega arith)) (ascending-range (suc first) (suc n))

-- what is kept of a range ascends
pub ascending-filter : (f : ℕ → Bool) (first n : ℕ) → ascending ltb (filter f (range first n)) ≡ true
unfolding range
ascending-filter f first zero = unfold filter neighbours in refl
ascending-filter f first (suc n) =
    test-cases (ascending ltb (filter f (first ∷ range (suc first) n)) ≡ true) (f first)
    (λ p. rw (filter-yes f first (range (suc first) n) p) (ascending-behind f (suc first) n first (omega arith)))
    (λ p. rw (filter-no f first (range (suc first) n) p) (ascending-filter f (suc first) n))

-- a number below all others is not among them
pub ascending-below : (x : ℕ) (xs : List ℕ) → ascending ltb (x ∷ xs) ≡ true → Each (λ b. x < b) xs
ascending-below x [] h = each_none
ascending-below x (y ∷ ys) h =
    let l : x < y = ltb-true x y (ascending-first ltb x y ys h) in
    each_more l (each_weaken (λ b m. omega arith) (ascending-below y ys (ascending-tail ltb x (y ∷ ys) h)))

-- a number stands in the list that it is put in front of
pub member-first : (x : ℕ) (xs : List ℕ) → member x (x ∷ xs) ≡ true
member-first x xs = rw (member-cons x x xs) (or_left (eqb x x) (member x xs) (eq-eqb x x refl))

-- a number above all others is not the least
not-below : (x y : ℕ) (ys : List ℕ) → ascending ltb (y ∷ ys) ≡ true → member x (y ∷ ys) ≡ true → y ≤ x
not-below x y ys q m =
    or_cases (y ≤ x) (eqb x y) (member x ys) (rw (member-cons x y ys) at m)
    (λ e. let d : x ≡ y = eqb-true x y e in omega arith)
    (λ e. let l : y < x = member-each (λ b. y < b) (ascending-below y ys q) x e in omega arith)

-- the first numbers of ascending lists with the same members are one
least : (x y : ℕ) (xs ys : List ℕ) → ascending ltb (x ∷ xs) ≡ true → ascending ltb (y ∷ ys) ≡ true → member x (x ∷ xs) ≡ member x (y ∷ ys) → member y (x ∷ xs) ≡ member y (y ∷ ys) → x ≡ y
least x y xs ys p q g h =
    let a : y ≤ x = not-below x y ys q (sym g ∙ member-first x xs) in
    let b : x ≤ y = not-below y x xs p (h ∙ member-first y ys) in
    omega arith

-- a number that is not the first stands behind it or not at all
member-behind : (b x : ℕ) (xs : List ℕ) → ascending ltb (x ∷ xs) ≡ true → member b xs ≡ (ltb x b && member b (x ∷ xs))
member-behind b x xs p =
    same_test (member b xs) (ltb x b && member b (x ∷ xs))
    (λ m. and_intro (ltb x b) (member b (x ∷ xs)) (lt-ltb x b (member-each (λ y. x < y) (ascending-below x xs p) b m)) (rw (member-cons b x xs) (or_right (eqb b x) (member b xs) m)))
    (λ m. let l : x < b = ltb-true x b (and_left (ltb x b) (member b (x ∷ xs)) m) in
    or_cases (member b xs ≡ true) (eqb b x) (member b xs) (rw (member-cons b x xs) at (and_right (ltb x b) (member b (x ∷ xs)) m))
    (λ e. let d : b ≡ x = eqb-true b x e in absurd (omega arith)) (λ e. e))

-- lists that ascend with the same members are one
pub ascending-same : (xs ys : List ℕ) → ascending ltb xs ≡ true → ascending ltb ys ≡ true → ((b : ℕ) → member b xs ≡ member b ys) → xs ≡ ys
ascending-same [] [] p q h = refl
ascending-same [] (y ∷ ys) p q h = absurd (clash (sym (h y) ∙ member-nil y) (member-first y ys))
ascending-same (x ∷ xs) [] p q h = absurd (clash (h x ∙ member-nil x) (member-first x xs))
ascending-same (x ∷ xs) (y ∷ ys) p q h =
    let e : x ≡ y = least x y xs ys p q (h x) (h y) in
    ap (λ (b : ℕ). b ∷ xs) e ∙ ap (λ (t : List ℕ). y ∷ t) (ascending-same xs ys (ascending-tail ltb x xs p) (ascending-tail ltb y ys q) (λ b. rest b))
  where
    rest : (b : ℕ) → member b xs ≡ member b ys
    rest b = member-behind b x xs p ∙ rw (h b, least x y xs ys p q (h x) (h y)) (sym (member-behind b y ys q))

-- the last number of an ascending list is its greatest
pub last-most : (xs : List ℕ) (h b : ℕ) → ascending ltb xs ≡ true → get_last? xs ≡ some h → member b xs ≡ true → b ≤ h
last-most [] h b a e m = absurd (none-ne-some h e)
last-most (x ∷ []) h b a e m =
    let q : x ≡ h = some-injective x h e in
    or_cases (b ≤ h) (eqb b x) (member b []) (rw (member-cons b x []) at m)
    (λ t. let d : b ≡ x = eqb-true b x t in omega arith) (λ t. absurd (clash (member-nil b) t))
last-most (x ∷ y ∷ ys) h b a e m =
    let t : ascending ltb (y ∷ ys) ≡ true = ascending-tail ltb x (y ∷ ys) a in
    let l : x < y = ltb-true x y (ascending-first ltb x y ys a) in
    let q : y ≤ h = last-most (y ∷ ys) h y t e (member-first y ys) in
    or_cases (b ≤ h) (eqb b x) (member b (y ∷ ys)) (rw (member-cons b x (y ∷ ys)) at m)
    (λ p. let d : b ≡ x = eqb-true b x p in omega arith) (λ p. last-most (y ∷ ys) h b t e p)

-- a list that has no last number has none
pub last_none : (xs : List ℕ) → get_last? xs ≡ none → xs ≡ []
last_none [] e = refl
last_none (x ∷ []) e = absurd (none-ne-some x (sym e))
last_none (x ∷ y ∷ ys) e = absurd (none-ne-some _ (sym e))

-- ---- one more element

module _ {A : Type 0} (f : A → Bool) where
  -- nothing counts 0
  pub count-nil : count f [] ≡ 0
  unfolding count filter
  count-nil = refl

  -- the first element and the others, counted
  pub count-cons : (x : A) (xs : List A) → count f (x ∷ xs) ≡ (pick f x then 1 else 0) + count f xs
  count-cons x xs =
      test-cases (count f (x ∷ xs) ≡ (pick f x then 1 else 0) + count f xs) (f x)
      (λ e. rw (count_yes f x xs e, if-true {A = ℕ} (f x) 1 0 e) (omega arith)) (λ e. rw (count_no f x xs e, if-false {A = ℕ} (f x) 1 0 e) (omega arith))
