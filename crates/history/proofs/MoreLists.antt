-- Laws of lists that the laws of write and grow rest on: what stands in a list, how often, and what a function put over it leaves.
-- Assumes nothing.
use mathlib.Core.Path.{◌≡◌, refl, sym, ap, ◌∙◌}
use mathlib.Core.List.Memᴰ
use mathlib.Core.List.{List, [], ◌∷◌, ◌++◌, map, Memᴰ}
use mathlib.Core.Bool.{Bool, true, false, not, ◌&&◌, ◌||◌}
use mathlib.Core.Option.{Option, none, some}
use Prim.Native.Nat.{ℕ, zero, suc, ◌+◌, ◌≤◌, ◌<◌}
use native.Mathlib.Omega.{arith}
use lib.Dec.{eqb, ltb}
use lib.ListN.{length, get_or, get_elem?}
use borrow.Author.Tests.{eqb-true, eq-eqb, ne_eqb, ltb-true, ltb-false}
use Rattle.rules.specs.Lists.{pick◌then◌else◌, maybe, any, filter, count, find, member, ascending, neighbours}
use Rattle.rules.proofs.ListLaws.{test-cases, and_left, and_intro, or_cases, or_left, or_right, count-append, count_yes, count_no, find-yes, find-no, ascending-first, ascending-tail, Each, each_none, each_more, each-any, each_weaken}
use Rattle.rules.proofs.CountLaws.{count-nil, count-cons, same_test, count-each, count_none, count-filter, member-count, Once, ascending-below}
use Rattle.rules.proofs.PassLaws.{all-each}
use Rattle.history.proofs.HolderLaws.{count-every}

-- ---- elements

-- one of the elements that are there
pub get_elem-some : (bs : List ℕ) (i : ℕ) → i < length bs → get_elem? bs i ≡ some (get_or bs i 0)
get_elem-some [] i l = absurd (omega arith)
get_elem-some (b ∷ bs) zero l = refl
get_elem-some (b ∷ bs) (suc i) l = get_elem-some bs i (omega arith)

-- what holds of each element holds of one of them
pub each-mem : {A : Type 0} {P : A → Type 0} {x : A} {xs : List A} → Each P xs → Memᴰ x xs → P x
each-mem each_none m = elim m [ ]
each-mem (each_more p h) (Memᴰ.head e) = rw e p
each-mem (each_more p h) (Memᴰ.tail m) = each-mem h m

-- and what holds of every one of them holds of each
pub each-of-mem : {A : Type 0} {P : A → Type 0} (xs : List A) → ((x : A) → Memᴰ x xs → P x) → Each P xs
each-of-mem [] h = each_none
each-of-mem (x ∷ xs) h = each_more (h x (Memᴰ.head refl)) (each-of-mem xs (λ y m. h y (Memᴰ.tail m)))

-- a test that follows at each element passes at some too
pub any-each : {A : Type 0} (f g : A → Bool) {xs : List A} → Each (λ x. g x ≡ true → f x ≡ true) xs → any g xs ≡ true → any f xs ≡ true
unfolding any
any-each f g each_none e = e
any-each f g (each_more {x = x} {xs = xs} h k) e =
    or_cases (any f (x ∷ xs) ≡ true) (g x) (any g xs) e (λ p. or_left (f x) (any f xs) (h p)) (λ p. or_right (f x) (any f xs) (any-each f g k p))

-- ---- a function put over a list

-- an element comes from one
pub mem-through : {A B : Type 0} (f : A → B) {y : B} (xs : List A) → Memᴰ y (map f xs) → (x : A) × Memᴰ x xs × (y ≡ f x)
mem-through f [] m = absurd (Memᴰ.not-nil m)
mem-through f (x ∷ xs) (Memᴰ.head e) = (x, Memᴰ.head refl, e)
mem-through f (x ∷ xs) (Memᴰ.tail m) = let r = mem-through f xs m in (r.0, Memᴰ.tail r.1, r.2)

-- the first that passes a test that does not see the function is the one that did
pub find-through : {A : Type 0} (f : A → Bool) (φ : A → A) → ((x : A) → f (φ x) ≡ f x) → (xs : List A) → find f (map φ xs) ≡ maybe none (λ x. some (φ x)) (find f xs)
find-through f φ e [] = unfold find filter maybe in refl
find-through f φ e (x ∷ xs) =
    test-cases (find f (φ x ∷ map φ xs) ≡ maybe none (λ x. some (φ x)) (find f (x ∷ xs))) (f x)
    (λ y. rw (find-yes f (φ x) (map φ xs) (e x ∙ y), find-yes f x xs y) (unfold maybe in refl))
    (λ n. rw (find-no f (φ x) (map φ xs) (e x ∙ n), find-no f x xs n) (find-through f φ e xs))

-- what is looked at in the one that is found does not see the function
pub seen-through : {A B : Type 0} (φ : A → A) (g : A → B) → ((x : A) → g (φ x) ≡ g x) → (found : Option A)
    → maybe none (λ x. some (g x)) (maybe none (λ x. some (φ x)) found) ≡ maybe none (λ x. some (g x)) found
unfolding maybe
seen-through φ g e none = refl
seen-through φ g e (some x) = ap some (e x)

-- an order that does not see the function stays
pub ascending-through : {A : Type 0} (before : A → A → Bool) (φ : A → A) → ((x y : A) → before (φ x) (φ y) ≡ before x y) → (xs : List A) → ascending before xs ≡ true
    → ascending before (map φ xs) ≡ true
unfolding neighbours
ascending-through before φ e [] a = refl
ascending-through before φ e (x ∷ []) a = refl
ascending-through before φ e (x ∷ y ∷ xs) a =
    and_intro (before (φ x) (φ y)) (ascending before (map φ (y ∷ xs))) (e x y ∙ ascending-first before x y xs a)
    (ascending-through before φ e (y ∷ xs) (ascending-tail before x (y ∷ xs) a))

-- ---- counting

module _ {A : Type 0} (f : A → Bool) where
  -- one that passes is counted
  pub mem-counted : {x : A} (xs : List A) → Memᴰ x xs → f x ≡ true → 0 < count f xs
  mem-counted [] m t = elim m [ ]
  mem-counted (y ∷ ys) (Memᴰ.head e) t = omega (arith, count_yes f y ys (rw e at t))
  mem-counted (y ∷ ys) (Memᴰ.tail m) t = omega (arith, mem-counted ys m t, count-cons f y ys)

-- what passes through a function, counted
pub count_map : {A B : Type 0} (f : B → Bool) (h : A → B) (xs : List A) → count f (map h xs) ≡ count (λ x. f (h x)) xs
count_map f h [] = unfold count filter in refl
count_map f h (x ∷ xs) = rw (count-cons f (h x) (map h xs), count-cons (λ y. f (h y)) x xs, count_map f h xs) refl

-- all of a list, counted
pub count-all : {A : Type 0} (xs : List A) → count (λ x. true) xs ≡ length xs
count-all xs = count-every (λ x. true) xs (all-each (λ x. true) (each-any (λ x. refl) xs))

-- those that pass a test or another, which never pass together
pub count-either : {A : Type 0} (f g : A → Bool) → ((x : A) → f x ≡ true → g x ≡ false) → (xs : List A) → count (λ x. f x || g x) xs ≡ count f xs + count g xs
unfolding pick◌then◌else◌
count-either f g d [] = omega (arith, count-nil f, count-nil g, count-nil (λ x. f x || g x))
count-either f g d (x ∷ xs) =
    let h : count (λ y. f y || g y) xs ≡ count f xs + count g xs = count-either f g d xs in
    test-cases (count (λ y. f y || g y) (x ∷ xs) ≡ count f (x ∷ xs) + count g (x ∷ xs)) (f x)
    (λ e. rw (count-cons (λ y. f y || g y) x xs, count-cons f x xs, count-cons g x xs, e, d x e) (omega arith))
    (λ e. rw (count-cons (λ y. f y || g y) x xs, count-cons f x xs, count-cons g x xs, e) (omega arith))

-- those that pass a test, with another and without it
pub count-parts : {A : Type 0} (f q : A → Bool) (xs : List A) → count f xs ≡ count f (filter q xs) + count (λ x. not (q x) && f x) xs
count-parts f q xs =
    count-each f (λ x. (q x && f x) || (not (q x) && f x)) (each-any (λ x. same (q x) (f x)) xs)
    ∙ count-either (λ x. q x && f x) (λ x. not (q x) && f x) (λ x e. ap (λ (b : Bool). not b && f x) (and_left (q x) (f x) e)) xs
    ∙ ap (λ (n : ℕ). n + count (λ x. not (q x) && f x) xs) (sym (count-filter f q xs))
  where
    same : (a b : Bool) → b ≡ (a && b || not a && b)
    same true true = refl
    same true false = refl
    same false b = refl

-- what passes at all passes at a number that one of them has
pub all-counted : {A : Type 0} (k : A → ℕ) (f : ℕ → Bool) {xs : List A} (b : ℕ) → Each (λ x. f (k x) ≡ true) xs → 0 < count (λ x. eqb (k x) b) xs → f b ≡ true
all-counted k f b each_none l = absurd (omega (arith, l, count-nil (λ x. eqb (k x) b)))
all-counted k f b (each_more {x = x} {xs = xs} p h) l =
    test-cases (f b ≡ true) (eqb (k x) b) (λ e. rw (eqb-true (k x) b e) at p)
    (λ e. all-counted k f b h (omega (arith, l, count_no (λ x. eqb (k x) b) x xs e)))

-- ---- numbers that stand once

-- a number is counted whichever way it is compared
pub count_turn : (b : ℕ) (xs : List ℕ) → count (λ x. eqb x b) xs ≡ count (eqb b) xs
count_turn b xs =
    count-each (λ x. eqb x b) (eqb b) (each-any (λ x. same_test (eqb x b) (eqb b x) (λ e. eq-eqb b x (sym (eqb-true x b e))) (λ e. eq-eqb x b (sym (eqb-true b x e)))) xs)

-- one that stands at most once is counted by whether it does
pub counted-once : (b : ℕ) (xs : List ℕ) → count (eqb b) xs ≤ 1 → count (eqb b) xs ≡ (pick member b xs then 1 else 0)
unfolding pick◌then◌else◌
counted-once b xs l =
    test-cases (count (eqb b) xs ≡ (pick member b xs then 1 else 0)) (member b xs)
    (λ t. let p : 0 < count (eqb b) xs = ltb-true 0 (count (eqb b) xs) (sym (member-count b xs) ∙ t) in rw t (omega arith))
    (λ t. let p : count (eqb b) xs ≤ 0 = ltb-false 0 (count (eqb b) xs) (sym (member-count b xs) ∙ t) in rw t (omega arith))

module _ (xs ys : List ℕ) (o : Once (xs ++ ys)) where
  -- numbers that stand once in two lists together stand once in the first
  pub once-left : Once xs
  once-left b = omega (arith, o b, count-append (eqb b) xs ys)

  -- and in the second
  pub once-right : Once ys
  once-right b = omega (arith, o b, count-append (eqb b) xs ys)

  -- and one of the first does not stand in the second
  pub once-apart : (b : ℕ) → member b xs ≡ true → member b ys ≡ false
  once-apart b m =
      let p : 0 < count (eqb b) xs = ltb-true 0 (count (eqb b) xs) (sym (member-count b xs) ∙ m) in
      let z : count (eqb b) ys ≡ 0 = omega (arith, o b, count-append (eqb b) xs ys) in
      member-count b ys ∙ rw z refl

-- numbers that ascend stand once
pub once-ascending : (xs : List ℕ) → ascending ltb xs ≡ true → Once xs
once-ascending [] a b = omega (arith, count-nil (eqb b))
once-ascending (x ∷ xs) a b =
    let h : count (eqb b) xs ≤ 1 = once-ascending xs (ascending-tail ltb x xs a) b in
    test-cases (count (eqb b) (x ∷ xs) ≤ 1) (eqb b x)
    (λ e. let q : b ≡ x = eqb-true b x e in
    let z : count (eqb b) xs ≡ 0 = count_none (eqb b) (each_weaken (λ y l. ne_eqb b y (λ w. omega arith)) (ascending-below x xs a)) in
    omega (arith, count_yes (eqb b) x xs e))
    (λ e. omega (arith, count_no (eqb b) x xs e))
