-- Choices, tests and lists: the words in which the rules are written. Nothing here is document 01's.
-- Assumes nothing.
use mathlib.Core.List.{List, [], ◌∷◌, head?}
use Rattle.std.specs.Prelude.{Bool, true, false, ◌&&◌, ◌||◌, ℕ, zero, suc, ◌+◌, ◌/◌, ◌-◌, eqb, ltb, length}
use Rattle.std.proofs.Math.Option.{Option, none, some}

infixr 10 pick◌then◌else◌
-- the one or the other, by a test
unfoldable pub pick◌then◌else◌ : {A : Type 0} → Bool → A → A → A
pick true then x else y = x
pick false then x else y = y

-- what stands there, put through f, or d where nothing does
unfoldable pub maybe : {A B : Type 0} → B → (A → B) → Option A → B
maybe d f none = d
maybe d f (some x) = f x

-- something stands there
unfoldable pub given : {A : Type 0} → Option A → Bool
given none = false
given (some x) = true

-- the n numbers from first on
unfoldable pub range : ℕ → ℕ → List ℕ
range first zero = []
range first (suc n) = first ∷ range (suc first) n

-- the test passes at every element
unfoldable pub all : {A : Type 0} → (A → Bool) → List A → Bool
all f [] = true
all f (x ∷ xs) = f x && all f xs

-- the test passes at some element
unfoldable pub any : {A : Type 0} → (A → Bool) → List A → Bool
any f [] = false
any f (x ∷ xs) = f x || any f xs

-- the elements that pass the test, in their order
unfoldable pub filter : {A : Type 0} → (A → Bool) → List A → List A
filter f [] = []
filter f (x ∷ xs) = pick f x then x ∷ filter f xs else filter f xs

-- how many elements pass the test
unfoldable pub count : {A : Type 0} → (A → Bool) → List A → ℕ
count f xs = length (filter f xs)

-- the first element that passes the test
unfoldable pub find : {A : Type 0} → (A → Bool) → List A → Option A
find f xs = head? (filter f xs)

-- the first of those that are there
unfoldable pub first_given : {A : Type 0} → List (Option A) → Option A
first_given [] = none
first_given (none ∷ xs) = first_given xs
first_given (some x ∷ xs) = some x

-- the number stands in the list
unfoldable pub member : ℕ → List ℕ → Bool
member n xs = any (eqb n) xs

-- the test passes at each element and the next
unfoldable pub neighbours : {A : Type 0} → (A → A → Bool) → List A → Bool
neighbours f [] = true
neighbours f (x ∷ []) = true
neighbours f (x ∷ y ∷ ys) = f x y && neighbours f (y ∷ ys)

-- each element stands before the next
abbrev pub ascending : {A : Type 0} → (A → A → Bool) → List A → Bool
ascending before xs = neighbours before xs

-- x put in at its place: after the elements that stand before it
unfoldable pub insert : {A : Type 0} → (A → A → Bool) → A → List A → List A
insert before x [] = x ∷ []
insert before x (y ∷ ys) = pick before y x then y ∷ insert before x ys else x ∷ y ∷ ys

-- the number of parts of a size that n things begin: n over the size, rounded up
abbrev pub begun : ℕ → ℕ → ℕ
begun n size = (n + (size - 1)) / size

-- a pair of numbers stands before another: by the first number, and where those are equal by the second
unfoldable pub pair_before : ℕ → ℕ → ℕ → ℕ → Bool
pair_before a b c d = ltb a c || (eqb a c && ltb b d)
