-- A search by halves (binary search): which places it looks at, and where it ends. It knows the records only by a test of single places, so that all of
-- this is said of any book, ordered or not.
-- Assumes nothing.
use Rattle.std.specs.Prelude.{◌≡◌, Bool, true, false, List, [], ◌∷◌, ℕ, zero, suc, ◌+◌, ◌-◌, ◌/◌, ◌≤◌, ◌<◌, eqb}
use Rattle.rules.specs.Lists.{pick◌then◌else◌}

-- the places looked at among `size` from `low` on, one in a round: the middle one, which then leaves the range, and those of the half in which the
-- search goes on, for so many rounds at most
unfoldable pub looked_in : (ℕ → Bool) → ℕ → ℕ → ℕ → List ℕ
looked_in f zero low size = []
looked_in f (suc rounds) low size =
    pick eqb size 0 then []
    else (low + size / 2) ∷ (pick f (low + size / 2) then looked_in f rounds (low + size / 2 + 1) (size - size / 2 - 1) else looked_in f rounds low (size / 2))

-- those among n records; each round takes one place at least out of the range, so that n rounds are enough
unfoldable pub looked : (ℕ → Bool) → ℕ → List ℕ
looked f n = looked_in f n 0 n

-- where a search that has looked at these places ends: behind the last of them that passes the test, and else where it began
unfoldable pub ends_at : (ℕ → Bool) → ℕ → List ℕ → ℕ
ends_at f low [] = low
ends_at f low (i ∷ is) = ends_at f (pick f i then i + 1 else low) is

-- the test passes in front of a place, and from there to n it does not
pub record Parted (f : ℕ → Bool) (n place : ℕ) : Type 0 where
  pub most : place ≤ n
  pub front : (j : ℕ) → j < place → f j ≡ true
  pub behind : (j : ℕ) → place ≤ j → j < n → f j ≡ false
