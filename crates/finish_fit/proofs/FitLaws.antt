-- Whether the books that a change leaves fit: what the tests of the code decide, and what their number says.
-- Assumes nothing.
use mathlib.Core.Path.{◌≡◌, sym, ◌∙◌}
use mathlib.Core.List.{List, map}
use Prim.Native.Nat.{ℕ, ◌+◌, ◌-◌, ◌*◌, ◌/◌, ◌≤◌, ◌<◌}
use native.Mathlib.Omega.{arith}
use lib.Dec.{ltb}
use lib.ListN.{length}
use borrow.Author.Tests.{lt-ltb, le-ltb, ltb-true, ltb-false}
use Rattle.rules.specs.Extent.{extent_bytes}
use Rattle.rules.specs.Group.{group_bytes}
use Rattle.rules.specs.Book.{book_places}
use Rattle.rules.specs.Rewrite.{Rewritten}
use Rattle.rules.specs.Finish.{finished_extents, finished_groups}
use Rattle.rules.proofs.ListLaws.{test-cases, if-true, if-false}
use Rattle.mapping.specs.Entries.{extents_in}
use Rattle.finish_books.specs.Groups.{groups_in}
use Rattle.finish_extents.specs.Stretch.{Describes, Finished}
use Rattle.finish_extents.proofs.ExchangeLaws.{finished-number}
use Rattle.finish_fit.specs.Fits.{extents_number, groups_number, Exchanges, ExtentsDecided, Fits}

-- ---- the numbers

-- more extents are wanted than there are places
extents-above : (places wanted : ℕ) → places < wanted → extents_number places wanted ≡ 16
unfolding extents_number
extents-above places wanted h = if-true (ltb places wanted) 16 0 (lt-ltb places wanted h)

-- no more
extents-below : (places wanted : ℕ) → wanted ≤ places → extents_number places wanted ≡ 0
unfolding extents_number
extents-below places wanted h = if-false (ltb places wanted) 16 0 (le-ltb places wanted h)

-- more groups
groups-above : (places wanted next : ℕ) → places < wanted → groups_number places wanted next ≡ 15
unfolding groups_number
groups-above places wanted next h = if-true (ltb places wanted) 15 next (lt-ltb places wanted h)

-- no more
groups-below : (places wanted next : ℕ) → wanted ≤ places → groups_number places wanted next ≡ next
unfolding groups_number
groups-below places wanted next h = if-false (ltb places wanted) 15 next (le-ltb places wanted h)

-- ---- the extents

-- an exchange that was made, with the number of extents that it leaves
pub exchanges-of : (object : ℕ) (us bs : List ℕ) (m : ℕ) (book : List ℕ) (place cut count : ℕ) (made : List ℕ) → place + cut ≤ m → count ≤ 290
    → Finished object us bs (extents_in m book) place (place + cut) count made → Exchanges object us bs m book place cut count made
exchanges-of object us bs m book place cut count made l k f = record {
  inside = l;
  few = k;
  exchange = f;
  told = λ rs d. sym (finished-number object us bs rs m place cut count book made l f d);
}

-- there are too few places for them, whatever exchange is told beside the number
pub extents-full : (object : ℕ) (us bs : List ℕ) (m : ℕ) (book : List ℕ) (place cut count : ℕ) (made : List ℕ) → place + cut ≤ m → count ≤ 290
    → Finished object us bs (extents_in m book) place (place + cut) count made → length book / 33 < m - cut + count
    → {p c k : ℕ} → ExtentsDecided object us bs m book 16 p c k made
unfolding book_places
extents-full object us bs m book place cut count made l k f h =
    let x : Exchanges object us bs m book place cut count made = exchanges-of object us bs m book place cut count made l k f in
    record {
      decided = λ rs d. sym (extents-above (length book / 33) (length (finished_extents object rs (extents_in m book))) (rw (x.told rs d) at h));
      exchanges = λ z. absurd (omega (arith, z));
    }

-- there are enough
pub extents-fit : (object : ℕ) (us bs : List ℕ) (m : ℕ) (book : List ℕ) (place cut count : ℕ) (made : List ℕ) → place + cut ≤ m → count ≤ 290
    → Finished object us bs (extents_in m book) place (place + cut) count made → m - cut + count ≤ length book / 33 → ExtentsDecided object us bs m book 0 place cut count made
unfolding book_places
extents-fit object us bs m book place cut count made l k f h =
    let x : Exchanges object us bs m book place cut count made = exchanges-of object us bs m book place cut count made l k f in
    record {
      decided = λ rs d. sym (extents-below (length book / 33) (length (finished_extents object rs (extents_in m book))) (rw (x.told rs d) at h));
      exchanges = λ z. x;
    }

-- ---- both books

module _ (object : ℕ) (us bs : List ℕ) (g : ℕ) (groups : List ℕ) (m : ℕ) (extents : List ℕ) (missing : ℕ)
    (h : (rs : List Rewritten) → map (λ r. r.unit) rs ≡ us → length (finished_groups object rs (groups_in g groups)) ≡ g + missing) where
  -- there are too few places for the groups, whatever is told beside the number
  pub groups-full : (left place cut count : ℕ) (made : List ℕ) → 1073 * g ≤ length groups → length groups / 1073 - g < missing
      → Fits object us bs g groups m extents 15 left place cut count made
  unfolding book_places
  groups-full left place cut count made l q =
      let a : length groups / 1073 < g + missing = omega arith in
      record {
        decided = λ rs d. sym (groups-above (length groups / 1073) (length (finished_groups object rs (groups_in g groups))) _ (rw (← h rs d.units) at a));
        told = λ z. absurd (omega (arith, z));
        exchanges = λ z. absurd (omega (arith, z));
      }

  -- there are enough, and the extents decide
  pub books-fit : (number left place cut count : ℕ) (made : List ℕ) → 1073 * g ≤ length groups → missing ≤ length groups / 1073 - g → (number ≡ 0 → left ≡ g + missing)
      → ExtentsDecided object us bs m extents number place cut count made → Fits object us bs g groups m extents number left place cut count made
  unfolding book_places
  books-fit number left place cut count made l q e f =
      let a : g + missing ≤ length groups / 1073 = omega arith in
      record {
        decided = λ rs d. f.decided rs d ∙ sym (groups-below (length groups / 1073) (length (finished_groups object rs (groups_in g groups))) _ (rw (← h rs d.units) at a));
        told = λ z rs d. e z ∙ sym (h rs d.units);
        exchanges = λ z. f.exchanges z;
      }

-- ---- for those who call

-- which of the three it is
number-cases : (P : Type 0) (n a b c d : ℕ) → n ≡ groups_number a b (extents_number c d) → (n ≡ 15 → a < b → P) → (n ≡ 16 → b ≤ a → c < d → P) → (n ≡ 0 → b ≤ a → d ≤ c → P) → P
number-cases P n a b c d e x y z =
    test-cases P (ltb a b)
    (λ t. let k : a < b = ltb-true a b t in x (e ∙ groups-above a b (extents_number c d) k) k)
    (λ t. let k : b ≤ a = ltb-false a b t in
    let q : n ≡ extents_number c d = e ∙ groups-below a b (extents_number c d) k in
    test-cases P (ltb c d) (λ u. let l : c < d = ltb-true c d u in y (q ∙ extents-above c d l) k l) (λ u. let l : d ≤ c = ltb-false c d u in z (q ∙ extents-below c d l) k l))

module _ {object : ℕ} {us bs : List ℕ} {g : ℕ} {groups : List ℕ} {m : ℕ} {extents : List ℕ} {number left place cut count : ℕ} {made : List ℕ}
    (f : Fits object us bs g groups m extents number left place cut count made) (rs : List Rewritten) (d : Describes us bs rs) where
  -- 15, 16 or neither, each with what it says of the places
  pub fit-cases : (P : Type 0) → (number ≡ 15 → book_places group_bytes groups < length (finished_groups object rs (groups_in g groups)) → P)
      → (number ≡ 16 → length (finished_groups object rs (groups_in g groups)) ≤ book_places group_bytes groups
      → book_places extent_bytes extents < length (finished_extents object rs (extents_in m extents)) → P)
      → (number ≡ 0 → length (finished_groups object rs (groups_in g groups)) ≤ book_places group_bytes groups
      → length (finished_extents object rs (extents_in m extents)) ≤ book_places extent_bytes extents → P) → P
  fit-cases P x y z = number-cases P number _ _ _ _ (f.decided rs d) x y z

  -- with 0 the groups that are left have their places
  pub fit-groups : number ≡ 0 → left ≤ book_places group_bytes groups
  fit-groups e = fit-cases (left ≤ book_places group_bytes groups) (λ k l. absurd (omega (arith, e, k))) (λ k l r. absurd (omega (arith, e, k))) (λ k l r. rw (f.told e rs d) l)

  -- so have the extents
  pub fit-extents : number ≡ 0 → m - cut + count ≤ book_places extent_bytes extents
  fit-extents e =
      fit-cases (m - cut + count ≤ book_places extent_bytes extents) (λ k l. absurd (omega (arith, e, k))) (λ k l r. absurd (omega (arith, e, k)))
      (λ k l r. rw ((f.exchanges e).told rs d) r)
