-- Places in a book: the record at one, where a search ends, and what an exchange of records leaves. Over any width, and any way to read a record.
-- Assumes nothing.
use Rattle.std.specs.Prelude.{◌≡◌, Bool, true, ◌&&◌, not, List, [], ◌∷◌, ◌++◌, ℕ, suc, ◌+◌, ◌-◌, ◌*◌, ◌≤◌, ◌<◌, eqb, leb, ltb, length, take, drop, Option, Some, None, option_map, unwrap_or}
use Rattle.std.proofs.Math.Option.{none, some}
use Rattle.std.proofs.Math.Option as option
use Rattle.rules.specs.Lists.{pick◌then◌else◌, find, pair_before}
use Rattle.rules.specs.Bytes.{part, pieces}
use Rattle.rules.specs.Card.{Card}
use Rattle.rules.specs.Extent.{Extent, extent_bytes, decode_extent, extent_before}
use Rattle.rules.specs.Group.{Group}
use Rattle.rules.specs.Book.{decode_book, zero_behind}
use Rattle.rules.specs.Inspect.{floor_extent}
use Rattle.rules.specs.Integrity.{apart}
use Rattle.halving.specs.Halving.{looked, ends_at}
use Rattle.halving.specs.Keys.{reaches}

-- ---- a search

-- the record at a place
unfoldable pub record_at : {A : Type 0} → (List ℕ → A) → ℕ → List ℕ → ℕ → A
record_at decode w s i = decode (part (w * i) w s)

-- the record that was found
unfoldable pub found_in : {A : Type 0} → (List ℕ → A) → ℕ → List ℕ → Option ℕ → option.Option A
found_in decode w s (Some i) = some (record_at decode w s i)
found_in decode w s None = none

-- the place of the first element that passes the test
unfoldable pub first_place : {A : Type 0} → (A → Bool) → List A → Option ℕ
first_place f [] = None
first_place f (x ∷ xs) = pick f x then Some 0 else option_map (λ i. suc i) (first_place f xs)

-- the place of the last
unfoldable pub last_place : {A : Type 0} → (A → Bool) → List A → Option ℕ
last_place f [] = None
last_place f (x ∷ xs) = unwrap_or (option_map (λ i. Some (suc i)) (last_place f xs)) (pick f x then Some 0 else None)

-- how many elements pass the test in front of the first that does not
unfoldable pub leading : {A : Type 0} → (A → Bool) → List A → ℕ
leading f [] = 0
leading f (x ∷ xs) = pick f x then suc (leading f xs) else 0

-- the first record that passes the test was found
pub record FoundFirst {A : Type 0} (f : A → Bool) (decode : List ℕ → A) (w n : ℕ) (s : List ℕ) (r : Option ℕ) : Type 0 where
  pub place : r ≡ first_place f (decode_book decode w n s)
  pub found : found_in decode w s r ≡ find f (decode_book decode w n s)
  pub within : (i : ℕ) → r ≡ Some i → i < n

-- ---- the tests that are searched by

-- the card of an object
abbrev pub card_is : ℕ → Card → Bool
card_is object c = eqb c.object object

-- a card before that of an object
abbrev pub card_under : ℕ → Card → Bool
card_under object c = ltb c.object object

-- an extent before a key
abbrev pub extent_under : ℕ → ℕ → Extent → Bool
extent_under object logical e = pair_before e.object e.logical object logical

-- an extent of an object that starts at a block or before
abbrev pub extent_up_to : ℕ → ℕ → Extent → Bool
extent_up_to object block e = eqb e.object object && leb e.logical block

-- the last extent of an object that starts at a block or before was found, as the rules have it, and at its place
pub record FloorExtent (object block n : ℕ) (s : List ℕ) (r : Option ℕ) : Type 0 where
  pub place : r ≡ last_place (extent_up_to object block) (decode_book decode_extent extent_bytes n s)
  pub found : found_in decode_extent extent_bytes s r ≡ floor_extent (decode_book decode_extent extent_bytes n s) object block
  pub within : (i : ℕ) → r ≡ Some i → i < n

-- an extent that stands before the key of an object and a block, or at it
abbrev pub extent_reached : ℕ → ℕ → Extent → Bool
extent_reached object block e = reaches true object block e.object e.logical

-- the same of the extent at a place
abbrev pub reached_at : ℕ → ℕ → List ℕ → ℕ → Bool
reached_at object block s i = extent_reached object block (record_at decode_extent extent_bytes s i)

-- an extent stands in front of a place, and is one of the object
unfoldable pub own_before : ℕ → List ℕ → ℕ → Bool
own_before object s place = not (eqb place 0) && eqb (record_at decode_extent extent_bytes s (place - 1)).object object

-- what a search by halves among n extents did, whatever the book: it took 20 rounds at most and looked at one extent in each; these say how many stand
-- before the key or at it, and the last of those is the answer if it is one of the object
pub record SearchedBook (object block n : ℕ) (s : List ℕ) (found : Option ℕ) (place rounds : ℕ) : Type 0 where
  pub most : rounds ≤ 20
  pub looks : rounds ≡ length (looked (reached_at object block s) n)
  pub ends : place ≡ ends_at (reached_at object block s) 0 (looked (reached_at object block s) n)
  pub answer : found ≡ (pick own_before object s place then Some (place - 1) else None)

-- the group with a key
abbrev pub group_is : ℕ → ℕ → Group → Bool
group_is object number g = eqb g.object object && eqb g.number number

-- a group before a key
abbrev pub group_under : ℕ → ℕ → Group → Bool
group_under object number g = pair_before g.object g.number object number

-- an extent stands before the next, and keeps apart from it
unfoldable pub follows : Extent → Extent → Bool
follows e f = extent_before e f && apart e f

-- ---- an exchange

-- of n records of w bytes in s, the k from place i on are the m of x in t; zeros that stood behind the last record stand there still
pub record Spliced (w n i k m : ℕ) (s x t : List ℕ) : Type 0 where
  pub records : pieces w (n - k + m) t ≡ take i (pieces w n s) ++ pieces w m x ++ drop (i + k) (pieces w n s)
  pub zeros : zero_behind w n s ≡ true → zero_behind w (n - k + m) t ≡ true
  pub size : length t ≡ length s
