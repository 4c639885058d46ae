-- Laws of the words of specs/Lists: choices and tests, and what passes a test in a list.
-- Assumes nothing.
use mathlib.Core.Path.{◌≡◌, refl, sym, ap, ◌∙◌}
use mathlib.Core.List.{List, [], ◌∷◌, ◌++◌, map, zip_with, Memᴰ}
use mathlib.Core.Bool.{Bool, true, false, ◌&&◌, ◌||◌, false≢true, and_assoc, or_assoc}
use mathlib.Core.Option.{Option, none, some, none-ne-some, some-injective}
use Prim.Native.Nat.{ℕ, zero, suc, ◌+◌, ◌≤◌, ◌<◌}
use native.Mathlib.Nat.{zero-add, suc-add, add-suc, add-zero, not-suc-le-zero, le_of_suc-le-suc}
use native.Mathlib.Omega.{arith}
use lib.Dec.{eqb, ltb}
use lib.ListN.{length, take, drop, get_or, length-append, replicate}
use lib.Arith.{lt_of_le-ne}
use borrow.Author.Tests.{eqb-true, eqb-false, eq-eqb, ltb-true, ltb-false, lt-ltb}
use Rattle.rules.specs.Lists.{pick◌then◌else◌, maybe, given, range, all, any, filter, count, find, member, ascending, insert, pair_before, neighbours}

-- ---- choices

-- a test is one or the other, and each case keeps its equation
pub test-cases : (P : Type 0) (b : Bool) → (b ≡ true → P) → (b ≡ false → P) → P
test-cases P true f g = f refl
test-cases P false f g = g refl

-- no test both fails and passes
pub clash : {b : Bool} → b ≡ false → b ≡ true → ⊥
clash p q = false≢true (sym p ∙ q)

-- of two numbers one is less, or they are one
pub order-cases : (P : Type 0) (a b : ℕ) → (a < b → P) → (a ≡ b → P) → (b < a → P) → P
order-cases P a b f g h =
    test-cases P (ltb a b) (λ e. f (ltb-true a b e))
    (λ e. test-cases P (eqb a b) (λ q. g (eqb-true a b q)) (λ q. h (lt_of_le-ne (ltb-false a b e) (λ r. eqb-false a b q (sym r)))))

module _ {A : Type 0} where
  -- the choice where the test passes
  pub if-true : (b : Bool) (x y : A) → b ≡ true → (pick b then x else y) ≡ x
  unfolding pick◌then◌else◌
  if-true b x y e = rw e refl

  -- the choice where it fails
  pub if-false : (b : Bool) (x y : A) → b ≡ false → (pick b then x else y) ≡ y
  unfolding pick◌then◌else◌
  if-false b x y e = rw e refl

  -- what holds of both choices, each under its test, holds of the choice
  pub if-cases : (P : A → Type 0) (b : Bool) (x y : A) → (b ≡ true → P x) → (b ≡ false → P y) → P (pick b then x else y)
  unfolding pick◌then◌else◌
  if-cases P true x y f g = f refl
  if-cases P false x y f g = g refl

  -- something that stands there is not nothing
  pub given-some : (o : Option A) → given o ≡ true → (x : A) × (o ≡ some x)
  unfolding given
  given-some none e = absurd (false≢true e)
  given-some (some x) e = (x, refl)

-- a function goes into both choices
pub if-ap : {A B : Type 0} (f : A → B) (b : Bool) (x y : A) → f (pick b then x else y) ≡ (pick b then f x else f y)
unfolding pick◌then◌else◌
if-ap f true x y = refl
if-ap f false x y = refl

module _ {A B : Type 0} where
  -- what stands there, put through f
  pub maybe-some : (d : B) (f : A → B) (o : Option A) (x : A) → o ≡ some x → maybe d f o ≡ f x
  unfolding maybe
  maybe-some d f o x e = rw e refl

  -- nothing stands there
  pub maybe-none : (d : B) (f : A → B) (o : Option A) → o ≡ none → maybe d f o ≡ d
  unfolding maybe
  maybe-none d f o e = rw e refl

  -- what holds in both cases, each with its equation, holds of the result
  pub maybe-cases : (P : B → Type 0) (d : B) (f : A → B) (o : Option A) → (o ≡ none → P d) → ((x : A) → o ≡ some x → P (f x)) → P (maybe d f o)
  unfolding maybe
  maybe-cases P d f none g h = g refl
  maybe-cases P d f (some x) g h = h x refl

-- ---- tests

-- both pass: the first does
pub and_left : (a b : Bool) → (a && b) ≡ true → a ≡ true
and_left true b e = refl
and_left false b e = e

-- both pass: the second does
pub and_right : (a b : Bool) → (a && b) ≡ true → b ≡ true
and_right true b e = e
and_right false b e = absurd (false≢true e)

-- each passes: both do
pub and_intro : (a b : Bool) → a ≡ true → b ≡ true → (a && b) ≡ true
and_intro a b p q = rw (p, q) refl

-- one of the two passes
pub or_cases : (P : Type 0) (a b : Bool) → (a || b) ≡ true → (a ≡ true → P) → (b ≡ true → P) → P
or_cases P true b e f g = f refl
or_cases P false b e f g = g e

-- the first passes: one of the two does
pub or_left : (a b : Bool) → a ≡ true → (a || b) ≡ true
or_left a b e = rw e refl

-- the second passes: one of the two does
pub or_right : (a b : Bool) → b ≡ true → (a || b) ≡ true
or_right true b e = refl
or_right false b e = e

-- neither passes: the first does not
pub or-none-left : (a b : Bool) → (a || b) ≡ false → a ≡ false
or-none-left true b e = e
or-none-left false b e = refl

-- neither passes: the second does not
pub or-none-right : (a b : Bool) → (a || b) ≡ false → b ≡ false
or-none-right true b e = absurd (false≢true (sym e))
or-none-right false b e = e

-- ---- lists

module _ {A : Type 0} (f : A → Bool) where
  -- each element of a list that passes the test passes it
  pub all-at : (xs : List A) → all f xs ≡ true → (i : ℕ) (d : A) → i < length xs → f (get_or xs i d) ≡ true
  unfolding all
  all-at [] h i d l = absurd (not-suc-le-zero l)
  all-at (x ∷ xs) h zero d l = and_left (f x) (all f xs) h
  all-at (x ∷ xs) h (suc i) d l = all-at xs (and_right (f x) (all f xs) h) i d (le_of_suc-le-suc l)

  -- a list whose elements all pass it passes it
  pub all_of : (xs : List A) (d : A) → ((i : ℕ) → i < length xs → f (get_or xs i d) ≡ true) → all f xs ≡ true
  unfolding all
  all_of [] d h = refl
  all_of (x ∷ xs) d h = and_intro (f x) (all f xs) (h 0 (omega arith)) (all_of xs d (λ i l. h (suc i) (omega arith)))

  -- the same by membership
  pub all-mem : {x : A} {xs : List A} → all f xs ≡ true → Memᴰ x xs → f x ≡ true
  unfolding all
  all-mem {x} h (Memᴰ.head {x = y} {xs = ys} e) = rw e (and_left (f y) (all f ys) h)
  all-mem h (Memᴰ.tail {x = y} {xs = ys} m) = all-mem (and_right (f y) (all f ys) h) m

  -- of two lists joined
  pub all_append : (xs ys : List A) → all f (xs ++ ys) ≡ (all f xs && all f ys)
  unfolding all
  all_append [] ys = refl
  all_append (x ∷ xs) ys = rw (all_append xs ys) (sym (and_assoc (f x) (all f xs) (all f ys)))

  -- of a list put through a function
  pub all_map : {B : Type 0} (g : B → A) (xs : List B) → all f (map g xs) ≡ all (λ x. f (g x)) xs
  unfolding all
  all_map g [] = refl
  all_map g (x ∷ xs) = ap (λ (b : Bool). f (g x) && b) (all_map g xs)

  -- one test passes wherever another does
  pub all-weaken : (g : A → Bool) (xs : List A) → ((x : A) → g x ≡ true → f x ≡ true) → all g xs ≡ true → all f xs ≡ true
  unfolding all
  all-weaken g [] h e = refl
  all-weaken g (x ∷ xs) h e =
      and_intro (f x) (all f xs) (h x (and_left (g x) (all g xs) e)) (all-weaken g xs h (and_right (g x) (all g xs) e))

  -- some element of two lists joined
  pub any_append : (xs ys : List A) → any f (xs ++ ys) ≡ (any f xs || any f ys)
  unfolding any
  any_append [] ys = refl
  any_append (x ∷ xs) ys = rw (any_append xs ys) (sym (or_assoc (f x) (any f xs) (any f ys)))

  -- of a list put through a function
  pub any-map : {B : Type 0} (g : B → A) (xs : List B) → any f (map g xs) ≡ any (λ x. f (g x)) xs
  unfolding any
  any-map g [] = refl
  any-map g (x ∷ xs) = ap (λ (b : Bool). f (g x) || b) (any-map g xs)

  -- an element that passes
  pub any_at : (xs : List A) (i : ℕ) (d : A) → i < length xs → f (get_or xs i d) ≡ true → any f xs ≡ true
  unfolding any
  any_at [] i d l e = absurd (not-suc-le-zero l)
  any_at (x ∷ xs) zero d l e = or_left (f x) (any f xs) e
  any_at (x ∷ xs) (suc i) d l e = or_right (f x) (any f xs) (any_at xs i d (le_of_suc-le-suc l) e)

  -- some element passes: at an index
  pub any-index : (xs : List A) (d : A) → any f xs ≡ true → (i : ℕ) × (i < length xs) × (f (get_or xs i d) ≡ true)
  unfolding any
  any-index [] d h = absurd (false≢true h)
  any-index (x ∷ xs) d h =
      or_cases ((i : ℕ) × (i < suc (length xs)) × (f (get_or (x ∷ xs) i d) ≡ true)) (f x) (any f xs) h
      (λ e. (0, omega arith, e)) (λ e. let r = any-index xs d e in (suc r.0, omega arith, r.2))

  -- no element passes: each fails
  pub none-at : (xs : List A) → any f xs ≡ false → (i : ℕ) (d : A) → i < length xs → f (get_or xs i d) ≡ false
  none-at xs h i d l =
      test-cases (f (get_or xs i d) ≡ false) (f (get_or xs i d)) (λ e. absurd (clash h (any_at xs i d l e))) (λ e. e)

  -- the element that passes is kept
  pub filter-yes : (x : A) (xs : List A) → f x ≡ true → filter f (x ∷ xs) ≡ x ∷ filter f xs
  unfolding filter
  filter-yes x xs e = if-true (f x) (x ∷ filter f xs) (filter f xs) e

  -- the element that fails is left out
  pub filter-no : (x : A) (xs : List A) → f x ≡ false → filter f (x ∷ xs) ≡ filter f xs
  unfolding filter
  filter-no x xs e = if-false (f x) (x ∷ filter f xs) (filter f xs) e

  -- of two lists joined
  pub filter-append : (xs ys : List A) → filter f (xs ++ ys) ≡ filter f xs ++ filter f ys
  unfolding filter
  filter-append [] ys = refl
  filter-append (x ∷ xs) ys =
      rw (filter-append xs ys) (sym (if-ap (λ (zs : List A). zs ++ filter f ys) (f x) (x ∷ filter f xs) (filter f xs)))

  -- what is kept passes
  pub all_filter : (xs : List A) → all f (filter f xs) ≡ true
  unfolding filter all
  all_filter [] = refl
  all_filter (x ∷ xs) =
      if-cases (λ (ys : List A). all f ys ≡ true) (f x) (x ∷ filter f xs) (filter f xs)
      (λ e. and_intro (f x) (all f (filter f xs)) e (all_filter xs)) (λ e. all_filter xs)

  -- nothing is kept where no element passes
  pub filter_none : (xs : List A) → any f xs ≡ false → filter f xs ≡ []
  unfolding filter any
  filter_none [] h = refl
  filter_none (x ∷ xs) h =
      let p : f x ≡ false = or-none-left (f x) (any f xs) h in
      let q : any f xs ≡ false = or-none-right (f x) (any f xs) h in
      if-false (f x) (x ∷ filter f xs) (filter f xs) p ∙ filter_none xs q

  -- everything is kept where each passes
  pub filter-every : (xs : List A) → all f xs ≡ true → filter f xs ≡ xs
  unfolding filter all
  filter-every [] h = refl
  filter-every (x ∷ xs) h =
      if-true (f x) (x ∷ filter f xs) (filter f xs) (and_left (f x) (all f xs) h)
      ∙ ap (λ (ys : List A). x ∷ ys) (filter-every xs (and_right (f x) (all f xs) h))

  -- the numbers that pass add up
  pub count-append : (xs ys : List A) → count f (xs ++ ys) ≡ count f xs + count f ys
  unfolding count
  count-append xs ys = rw (filter-append xs ys) (length-append (filter f xs) (filter f ys))

  -- one more where the first passes
  pub count_yes : (x : A) (xs : List A) → f x ≡ true → count f (x ∷ xs) ≡ suc (count f xs)
  unfolding count
  count_yes x xs e = rw (filter-yes x xs e) refl

  -- none more where it fails
  pub count_no : (x : A) (xs : List A) → f x ≡ false → count f (x ∷ xs) ≡ count f xs
  unfolding count
  count_no x xs e = rw (filter-no x xs e) refl

  -- at most every element passes
  pub count-le : (xs : List A) → count f xs ≤ length xs
  unfolding count filter
  count-le [] = omega arith
  count-le (x ∷ xs) =
      let h : length (filter f xs) ≤ length xs = unfold count in count-le xs in
      if-cases (λ (ys : List A). length ys ≤ suc (length xs)) (f x) (x ∷ filter f xs) (filter f xs) (λ e. omega arith) (λ e. omega arith)

  -- the first element is found where it passes
  pub find-yes : (x : A) (xs : List A) → f x ≡ true → find f (x ∷ xs) ≡ some x
  unfolding find
  find-yes x xs e = rw (filter-yes x xs e) refl

  -- and looked for behind where it fails
  pub find-no : (x : A) (xs : List A) → f x ≡ false → find f (x ∷ xs) ≡ find f xs
  unfolding find
  find-no x xs e = rw (filter-no x xs e) refl

  -- nothing is found where no element passes
  pub find_none : (xs : List A) → any f xs ≡ false → find f xs ≡ none
  unfolding find
  find_none xs h = rw (filter_none xs h) refl

  -- what is found passes
  pub find-passes : (xs : List A) (x : A) → find f xs ≡ some x → f x ≡ true
  find-passes [] x e = absurd (none-ne-some x (unfold find filter in e))
  find-passes (y ∷ ys) x e =
      test-cases (f x ≡ true) (f y)
      (λ p. rw (some-injective x y (sym e ∙ find-yes y ys p)) p) (λ p. find-passes ys x (sym (find-no y ys p) ∙ e))

  -- what is found stands in the list
  pub find-mem : (xs : List A) (x : A) → find f xs ≡ some x → Memᴰ x xs
  find-mem [] x e = absurd (none-ne-some x (unfold find filter in e))
  find-mem (y ∷ ys) x e =
      test-cases (Memᴰ x (y ∷ ys)) (f y)
      (λ p. Memᴰ.head (some-injective x y (sym e ∙ find-yes y ys p)))
      (λ p. Memᴰ.tail (find-mem ys x (sym (find-no y ys p) ∙ e)))

  -- the first element that passes is found
  pub find_at : (xs : List A) (i : ℕ) (d : A) → i < length xs → f (get_or xs i d) ≡ true → ((j : ℕ) → j < i → f (get_or xs j d) ≡ false) → find f xs ≡ some (get_or xs i d)
  find_at [] i d l e h = absurd (not-suc-le-zero l)
  find_at (x ∷ xs) zero d l e h = find-yes x xs e
  find_at (x ∷ xs) (suc i) d l e h = find-no x xs (h 0 (omega arith)) ∙ find_at xs i d (le_of_suc-le-suc l) e (λ j m. h (suc j) (omega arith))

  -- what passes is found, whatever it is
  pub find-given : (xs : List A) → given (find f xs) ≡ any f xs
  unfolding given any
  find-given [] = unfold find filter in refl
  find-given (x ∷ xs) =
      test-cases (given (find f (x ∷ xs)) ≡ (f x || any f xs)) (f x)
      (λ p. rw (find-yes x xs p, p) refl) (λ p. rw (find-no x xs p, p) (find-given xs))

-- the number stands in one of two lists joined
pub member-append : (n : ℕ) (xs ys : List ℕ) → member n (xs ++ ys) ≡ (member n xs || member n ys)
unfolding member
member-append n xs ys = any_append (eqb n) xs ys

-- the numbers from first on are so many
pub length-range : (first n : ℕ) → length (range first n) ≡ n
unfolding range
length-range first zero = refl
length-range first (suc n) = ap suc (length-range (suc first) n)

-- the number at a place of them
pub get_or-range : (first n i d : ℕ) → i < n → get_or (range first n) i d ≡ first + i
unfolding range
get_or-range first zero i d l = absurd (not-suc-le-zero l)
get_or-range first (suc n) zero d l = sym (add-zero first)
get_or-range first (suc n) (suc i) d l = get_or-range (suc first) n i d (le_of_suc-le-suc l) ∙ suc-add first i ∙ sym (add-suc first i)

-- a test that passes at every number from first on
pub all-range-at : (f : ℕ → Bool) (first n : ℕ) → all f (range first n) ≡ true → (i : ℕ) → i < n → f (first + i) ≡ true
all-range-at f first n h i l =
    let e : length (range first n) ≡ n = length-range first n in
    ap f (sym (get_or-range first n i 0 l)) ∙ all-at f (range first n) h i 0 (omega arith)

-- and one that does so
pub all-range-of : (f : ℕ → Bool) (first n : ℕ) → ((i : ℕ) → i < n → f (first + i) ≡ true) → all f (range first n) ≡ true
all-range-of f first n h =
    let e : length (range first n) ≡ n = length-range first n in
    all_of f (range first n) 0 (λ i l. ap f (get_or-range first n i 0 (omega arith)) ∙ h i (omega arith))

-- the numbers from first on, in two runs
pub range-add : (first n m : ℕ) → range first (n + m) ≡ range first n ++ range (first + n) m
unfolding range
range-add first zero m = rw (zero-add m, add-zero first) refl
range-add first (suc n) m = rw (suc-add n m, range-add (suc first) n m, suc-add first n, add-suc first n) refl

-- a list put through a function, at a place
pub get_d_map : {A B : Type 0} (f : A → B) (xs : List A) (i : ℕ) (d : B) (c : A) → i < length xs → get_or (map f xs) i d ≡ f (get_or xs i c)
get_d_map f [] i d c l = absurd (not-suc-le-zero l)
get_d_map f (x ∷ xs) zero d c l = refl
get_d_map f (x ∷ xs) (suc i) d c l = get_d_map f xs i d c (le_of_suc-le-suc l)

-- two lists side by side, at a place
pub get_or-zip_with : {A B C : Type 0} (f : A → B → C) (xs : List A) (ys : List B) (i : ℕ) (a : A) (b : B) (c : C) → i < length xs → i < length ys → get_or (zip_with f xs ys) i c ≡ f (get_or xs i a) (get_or ys i b)
unfolding zip_with
get_or-zip_with f [] ys i a b c l m = absurd (not-suc-le-zero l)
get_or-zip_with f (x ∷ xs) [] i a b c l m = absurd (not-suc-le-zero m)
get_or-zip_with f (x ∷ xs) (y ∷ ys) zero a b c l m = refl
get_or-zip_with f (x ∷ xs) (y ∷ ys) (suc i) a b c l m = get_or-zip_with f xs ys i a b c (le_of_suc-le-suc l) (le_of_suc-le-suc m)

-- as many as each has
pub length-zip_with : {A B C : Type 0} (f : A → B → C) (n : ℕ) (xs : List A) (ys : List B) → length xs ≡ n → length ys ≡ n → length (zip_with f xs ys) ≡ n
unfolding zip_with
length-zip_with f n [] ys e d = e
length-zip_with f n (x ∷ xs) [] e d = d
length-zip_with f zero (x ∷ xs) (y ∷ ys) e d = absurd (omega arith)
length-zip_with f (suc n) (x ∷ xs) (y ∷ ys) e d = ap suc (length-zip_with f n xs ys (omega arith) (omega arith))

-- a function of the numbers from first on, at a place
pub get_or-map-range : {A : Type 0} (f : ℕ → A) (first n i : ℕ) (d : A) → i < n → get_or (map f (range first n)) i d ≡ f (first + i)
unfolding range
get_or-map-range f first zero i d l = absurd (not-suc-le-zero l)
get_or-map-range f first (suc n) zero d l = ap f (sym (add-zero first))
get_or-map-range f first (suc n) (suc i) d l =
    get_or-map-range f (suc first) n i d (le_of_suc-le-suc l) ∙ ap f (suc-add first i ∙ sym (add-suc first i))

-- ---- properties of each element

-- each element has the property
pub data Each {A : Type 0} (P : A → Type 0) : List A → Type 0 where
  each_none : Each P []
  each_more : {x : A} {xs : List A} → P x → Each P xs → Each P (x ∷ xs)

module _ {A : Type 0} {P : A → Type 0} where
  -- the element at a place has it
  pub each_at : {xs : List A} → Each P xs → (i : ℕ) (d : A) → i < length xs → P (get_or xs i d)
  each_at each_none i d l = absurd (not-suc-le-zero l)
  each_at (each_more p h) zero d l = p
  each_at (each_more p h) (suc i) d l = each_at h i d (le_of_suc-le-suc l)

  -- a list whose elements have it place by place
  pub each_of : (xs : List A) (d : A) → ((i : ℕ) → i < length xs → P (get_or xs i d)) → Each P xs
  each_of [] d h = each_none
  each_of (x ∷ xs) d h = each_more (h 0 (omega arith)) (each_of xs d (λ i l. h (suc i) (omega arith)))

  -- a property that everything has
  pub each-any : ((x : A) → P x) → (xs : List A) → Each P xs
  each-any h [] = each_none
  each-any h (x ∷ xs) = each_more (h x) (each-any h xs)

  -- a test that says it passes at each
  pub each_all : (f : A → Bool) → ((x : A) → f x ≡ true → P x) → (xs : List A) → all f xs ≡ true → Each P xs
  unfolding all
  each_all f h [] e = each_none
  each_all f h (x ∷ xs) e = each_more (h x (and_left (f x) (all f xs) e)) (each_all f h xs (and_right (f x) (all f xs) e))

  -- two lists joined
  pub each_append : {xs ys : List A} → Each P xs → Each P ys → Each P (xs ++ ys)
  each_append each_none h = h
  each_append (each_more p g) h = each_more p (each_append g h)

  -- a property that follows
  pub each_weaken : {Q : A → Type 0} → ((x : A) → P x → Q x) → {xs : List A} → Each P xs → Each Q xs
  each_weaken f each_none = each_none
  each_weaken f (each_more {x = x} p h) = each_more (f x p) (each_weaken f h)

  -- two properties together
  pub each_both : {Q R : A → Type 0} → ((x : A) → P x → Q x → R x) → {xs : List A} → Each P xs → Each Q xs → Each R xs
  each_both f each_none each_none = each_none
  each_both f (each_more {x = x} p g) (each_more q h) = each_more (f x p q) (each_both f g h)

  -- a list put through a function
  pub each_map : {B : Type 0} (f : B → A) {xs : List B} → Each (λ x. P (f x)) xs → Each P (map f xs)
  each_map f each_none = each_none
  each_map f (each_more p h) = each_more p (each_map f h)

  -- an element put in
  pub each-insert : (before : A → A → Bool) (x : A) (ys : List A) → P x → Each P ys → Each P (insert before x ys)
  unfolding insert
  each-insert before x [] p h = each_more p h
  each-insert before x (y ∷ ys) p (each_more q h) =
      if-cases (Each P) (before y x) (y ∷ insert before x ys) (x ∷ y ∷ ys)
      (λ e. each_more q (each-insert before x ys p h)) (λ e. each_more p (each_more q h))

-- functions that agree on each element
pub map_each : {A B : Type 0} (f g : A → B) {xs : List A} → Each (λ x. f x ≡ g x) xs → map f xs ≡ map g xs
map_each f g each_none = refl
map_each f g (each_more {x = x} {xs = xs} e h) = rw (e, map_each f g h) refl

-- ---- order

module _ {A : Type 0} (before : A → A → Bool) where
  -- the first two of an ascending list
  pub ascending-first : (x y : A) (ys : List A) → ascending before (x ∷ y ∷ ys) ≡ true → before x y ≡ true
  unfolding neighbours
  ascending-first x y ys h = and_left (before x y) (ascending before (y ∷ ys)) h

  -- what stands behind the first ascends
  pub ascending-tail : (x : A) (xs : List A) → ascending before (x ∷ xs) ≡ true → ascending before xs ≡ true
  unfolding neighbours
  ascending-tail x [] h = refl
  ascending-tail x (y ∷ ys) h = and_right (before x y) (ascending before (y ∷ ys)) h

  -- each element stands before the next
  pub ascending-at : (xs : List A) → ascending before xs ≡ true → (i : ℕ) (d : A) → suc i < length xs → before (get_or xs i d) (get_or xs (suc i) d) ≡ true
  ascending-at [] h i d l = absurd (not-suc-le-zero l)
  ascending-at (x ∷ []) h i d l = absurd (not-suc-le-zero (le_of_suc-le-suc l))
  ascending-at (x ∷ y ∷ ys) h zero d l = ascending-first x y ys h
  ascending-at (x ∷ y ∷ ys) h (suc i) d l = ascending-at (y ∷ ys) (ascending-tail x (y ∷ ys) h) i d (le_of_suc-le-suc l)

  -- where each element stands before the next, the list ascends
  pub ascending-of : (xs : List A) (d : A) → ((i : ℕ) → suc i < length xs → before (get_or xs i d) (get_or xs (suc i) d) ≡ true) → ascending before xs ≡ true
  unfolding neighbours
  ascending-of [] d h = refl
  ascending-of (x ∷ []) d h = refl
  ascending-of (x ∷ y ∷ ys) d h =
      and_intro (before x y) (ascending before (y ∷ ys)) (h 0 (omega arith)) (ascending-of (y ∷ ys) d (λ i l. h (suc i) (omega arith)))

  -- for a transitive order the first stands before all behind it
  pub ascending-all : ((x y z : A) → before x y ≡ true → before y z ≡ true → before x z ≡ true) → (x : A) (xs : List A) → ascending before (x ∷ xs) ≡ true → all (before x) xs ≡ true
  unfolding all
  ascending-all trans x [] h = refl
  ascending-all trans x (y ∷ ys) h =
      let p : before x y ≡ true = ascending-first x y ys h in
      and_intro (before x y) (all (before x) ys) p
      (all-weaken (before x) (before y) ys (λ z q. trans x y z p q) (ascending-all trans y ys (ascending-tail x (y ∷ ys) h)))

  -- one more
  pub length-insert : (x : A) (ys : List A) → length (insert before x ys) ≡ suc (length ys)
  unfolding insert
  length-insert x [] = refl
  length-insert x (y ∷ ys) =
      if-cases (λ (zs : List A). length zs ≡ suc (suc (length ys))) (before y x) (y ∷ insert before x ys) (x ∷ y ∷ ys)
      (λ e. ap suc (length-insert x ys)) (λ e. refl)

  -- x is put in after the elements that stand before it, at the place that a search finds
  pub insert-at : (x : A) (ys : List A) (i : ℕ) (d : A) → i ≤ length ys → ((j : ℕ) → j < i → before (get_or ys j d) x ≡ true) → (i < length ys → before (get_or ys i d) x ≡ false)
      → insert before x ys ≡ take i ys ++ (x ∷ drop i ys)
  unfolding insert
  insert-at x [] zero d l h e = refl
  insert-at x [] (suc i) d l h e = refl
  insert-at x (y ∷ ys) zero d l h e = if-false (before y x) (y ∷ insert before x ys) (x ∷ y ∷ ys) (e (omega arith))
  insert-at x (y ∷ ys) (suc i) d l h e =
      if-true (before y x) (y ∷ insert before x ys) (x ∷ y ∷ ys) (h 0 (omega arith))
      ∙ ap (λ (zs : List A). y ∷ zs) (insert-at x ys i d (le_of_suc-le-suc l) (λ j m. h (suc j) (omega arith)) (λ m. e (omega arith)))

  -- a test passes at all with x put in where it passes at x and at all others
  pub all_insert : (f : A → Bool) (x : A) (ys : List A) → f x ≡ true → all f ys ≡ true → all f (insert before x ys) ≡ true
  unfolding insert all
  all_insert f x [] p h = and_intro (f x) true p refl
  all_insert f x (y ∷ ys) p h =
      if-cases (λ (zs : List A). all f zs ≡ true) (before y x) (y ∷ insert before x ys) (x ∷ y ∷ ys)
      (λ e. and_intro (f y) (all f (insert before x ys)) (and_left (f y) (all f ys) h) (all_insert f x ys p (and_right (f y) (all f ys) h)))
      (λ e. and_intro (f x) (f y && all f ys) p h)

  -- an element that x does not stand behind has x before it
  behind : (x y : A) (ys : List A) → before y x ≡ false → all (λ w. before w x || before x w) (y ∷ ys) ≡ true → before x y ≡ true
  unfolding all
  behind x y ys e t =
      or_cases (before x y ≡ true) (before y x) (before x y) (and_left (before y x || before x y) (all (λ w. before w x || before x w) ys) t)
      (λ p. absurd (clash e p)) (λ p. p)

  -- x put in among elements that each stand before it or behind it: the list still ascends
  pub ascending-insert : (x : A) (ys : List A) → ascending before ys ≡ true → all (λ y. before y x || before x y) ys ≡ true → ascending before (insert before x ys) ≡ true
  unfolding insert neighbours all
  ascending-insert x [] h t = refl
  ascending-insert x (y ∷ []) h t =
      if-cases (λ (zs : List A). ascending before zs ≡ true) (before y x) (y ∷ x ∷ []) (x ∷ y ∷ [])
      (λ e. and_intro (before y x) true e refl) (λ e. and_intro (before x y) true (behind x y [] e t) refl)
  ascending-insert x (y ∷ z ∷ zs) h t =
      let q : all (λ w. before w x || before x w) (z ∷ zs) ≡ true = and_right (before y x || before x y) (all (λ w. before w x || before x w) (z ∷ zs)) t in
      if-cases (λ (ws : List A). ascending before ws ≡ true) (before y x) (y ∷ insert before x (z ∷ zs)) (x ∷ y ∷ z ∷ zs)
      (λ e. if-cases (λ (ws : List A). ascending before ws ≡ true → ascending before (y ∷ ws) ≡ true) (before z x) (z ∷ insert before x zs) (x ∷ z ∷ zs)
      (λ p g. and_intro (before y z) (ascending before (z ∷ insert before x zs)) (ascending-first y z zs h) g)
      (λ p g. and_intro (before y x) (ascending before (x ∷ z ∷ zs)) e g)
      (ascending-insert x (z ∷ zs) (ascending-tail y (z ∷ zs) h) q))
      (λ e. and_intro (before x y) (ascending before (y ∷ z ∷ zs)) (behind x y (z ∷ zs) e t) h)

-- ---- pairs of numbers in order

-- a pair stands before another by its first number, or by its second where the first ones are equal
pub pair_before-cases : (P : Type 0) (a b c d : ℕ) → pair_before a b c d ≡ true → (a < c → P) → (a ≡ c → b < d → P) → P
unfolding pair_before
pair_before-cases P a b c d h f g =
    or_cases P (ltb a c) (eqb a c && ltb b d) h
    (λ e. f (ltb-true a c e)) (λ e. g (eqb-true a c (and_left (eqb a c) (ltb b d) e)) (ltb-true b d (and_right (eqb a c) (ltb b d) e)))

-- by its first number
pub pair_before-first : (a b c d : ℕ) → a < c → pair_before a b c d ≡ true
unfolding pair_before
pair_before-first a b c d h = or_left (ltb a c) (eqb a c && ltb b d) (lt-ltb a c h)

-- by its second
pub pair_before-second : (a b c d : ℕ) → a ≡ c → b < d → pair_before a b c d ≡ true
unfolding pair_before
pair_before-second a b c d e h = or_right (ltb a c) (eqb a c && ltb b d) (and_intro (eqb a c) (ltb b d) (eq-eqb a c e) (lt-ltb b d h))

-- the order is transitive
pub pair_before-trans : (a b c d e f : ℕ) → pair_before a b c d ≡ true → pair_before c d e f ≡ true → pair_before a b e f ≡ true
pair_before-trans a b c d e f p q =
    let R : Type 0 = pair_before a b e f ≡ true in
    pair_before-cases R a b c d p
    (λ u. pair_before-cases R c d e f q (λ v. pair_before-first a b e f (omega arith)) (λ v w. pair_before-first a b e f (omega arith)))
    (λ u r. pair_before-cases R c d e f q (λ v. pair_before-first a b e f (omega arith)) (λ v w. pair_before-second a b e f (u ∙ v) (omega arith)))

-- no pair stands before itself
pub pair_before-not : (a b : ℕ) → pair_before a b a b ≡ false
pair_before-not a b =
    test-cases (pair_before a b a b ≡ false) (pair_before a b a b)
    (λ e. absurd (pair_before-cases ⊥ a b a b e (λ l. omega arith) (λ q l. omega arith))) (λ e. e)

-- of two pairs one stands before the other, or they are one
pub pair_before-total : (a b c d : ℕ) → pair_before a b c d ≡ false → (a ≡ c → b ≡ d → ⊥) → pair_before c d a b ≡ true
pair_before-total a b c d n h =
    let R : Type 0 = pair_before c d a b ≡ true in
    let same : c ≡ a → R = λ e.
    order-cases R d b (λ l. pair_before-second c d a b e l) (λ q. absurd (h (sym e) (sym q))) (λ l. absurd (clash n (pair_before-second a b c d (sym e) l))) in
    order-cases R c a (λ l. pair_before-first c d a b l) same (λ l. absurd (clash n (pair_before-first a b c d l)))

-- one of many copies, or the default that is the same
pub get_or-same : {A : Type 0} (n : ℕ) (a : A) (i : ℕ) → get_or (replicate n a) i a ≡ a
get_or-same zero a i = refl
get_or-same (suc n) a zero = refl
get_or-same (suc n) a (suc i) = get_or-same n a i
