-- The units of a change without the first, where that stays a hole: what was known of all is known of the rest.
-- Assumes nothing.
use mathlib.Core.Path.{◌≡◌, refl, ap, ◌∙◌}
use mathlib.Core.Bool.{true, false}
use mathlib.Core.List.{List, [], ◌∷◌}
use mathlib.Core.Option.{some}
use Prim.Native.Nat.{ℕ, zero, suc, ◌*◌, ◌/◌, ◌^◌, ◌≤◌, ◌<◌}
use native.Mathlib.Omega.{arith}
use lib.Dec.{ltb}
use lib.ListN.{length, drop, length-drop}
use Rattle.rules.specs.Lists.{any, range, ascending, neighbours}
use Rattle.rules.specs.Sizes.{unit_blocks, unit_bytes, group_units, most_size}
use Rattle.rules.specs.Card.{Card}
use Rattle.rules.specs.Store.{Volume, card_of}
use Rattle.rules.specs.Units.{Change, touches, reads_old}
use Rattle.rules.proofs.ListLaws.{Each, each_none, each_more, ascending-tail}
use Rattle.rules.proofs.PassLaws.{Lawful}
use Rattle.book.specs.Places.{group_is}
use Rattle.finish_extents.specs.Stretch.{Planned}
use Rattle.finish_books.specs.Groups.{UnitsRight}
use Rattle.file.proofs.PartLaws.{extents-planned-range, extents-planned-tailed, units-right-range, units-right-tailed, units_small}
use Rattle.change.specs.Change.{Lie, ChangeUnits}
use Rattle.change.specs.Change.Lie.{run, tailed}

-- the rest ascends
pub order-behind : (k : ℕ) (us : List ℕ) → ascending ltb us ≡ true → ascending ltb (drop k us) ≡ true
unfolding neighbours
order-behind zero us a = a
order-behind (suc k) [] a = refl
order-behind (suc k) (u ∷ us) a = order-behind k us (ascending-tail ltb u us a)

-- each of the rest has what each has
pub each-behind : {P : ℕ → Type 0} (k : ℕ) {us : List ℕ} → Each P us → Each P (drop k us)
each-behind zero h = h
each-behind (suc k) each_none = each_none
each-behind (suc k) (each_more p h) = each-behind k h

-- consecutive numbers without the first are consecutive
range-behind : (f k : ℕ) → drop 1 (range f (suc k)) ≡ range (suc f) k
unfolding range
range-behind f k = refl

-- none without the first is none
range_none : (f : ℕ) → drop 1 (range f 0) ≡ range f 0
unfolding range
range_none f = refl

-- how the rest lies: one behind the other, or all with the tail, of which nothing was left out
pub data Rest (c : Change) (us : List ℕ) (skip : ℕ) : Type 0 where
  behind : (f k : ℕ) → drop skip us ≡ range f k → Rest c us skip
  whole : (f k : ℕ) → skip ≡ 0 → us ≡ c.old_size / unit_bytes ∷ range f k → reads_old c (c.old_size / unit_bytes) ≡ true → touches c (c.old_size / unit_bytes) ≡ false → Rest c us skip

-- one of the two it is
pub rest_of : (c : Change) (us : List ℕ) (skip : ℕ) → skip ≤ 1 → Lie c us → Rest c us skip
rest_of c us zero l (run f k e) = behind f k e
rest_of c us zero l (tailed f k e r t) = whole f k refl e r t
rest_of c us (suc zero) l (run f zero e) = behind f 0 (ap (drop 1) e ∙ range_none f)
rest_of c us (suc zero) l (run f (suc k) e) = behind (suc f) k (ap (drop 1) e ∙ range-behind f k)
rest_of c us (suc zero) l (tailed f k e r t) = behind f k (ap (drop 1) e)
rest_of c us (suc (suc j)) l h = absurd (omega (arith, l))

module _ (v : Volume) (c : Change) (card : Card) (us : List ℕ) (skip : ℕ) (lawful : Lawful v) (known : card_of v c.object ≡ some card) (size : card.size ≡ c.old_size)
    (most : c.new_size ≤ most_size) (h : ChangeUnits c us) where
  -- the rest is few
  pub few-behind : length (drop skip us) ≤ 18
  few-behind = omega (arith, length-drop skip us, h.few)

  -- and its numbers are small
  small-behind : Each (λ u. u < 2 ^ 47) (drop skip us)
  small-behind = units_small c.new_size most (each-behind skip h.within)

  -- the file has nothing between the units of the rest
  pub clear_behind : Rest c us skip → (bs : List ℕ) → 0 < length (drop skip us) → length bs ≤ unit_blocks * length (drop skip us) → Planned c.object (drop skip us) bs v.books.extents
  clear_behind (behind f k e) bs p m =
      extents-planned-range c.object v.books.extents f k (drop skip us) bs e p few-behind m (order-behind skip us h.order) small-behind
  clear_behind (whole f k z e r t) bs p m =
      let d : drop skip us ≡ c.old_size / unit_bytes ∷ range f k = ap (λ (j : ℕ). drop j us) z ∙ e in
      extents-planned-tailed v c.object card lawful known (c.old_size / unit_bytes) (range f k) (drop skip us) bs d (omega (arith, size)) p few-behind m (order-behind skip us h.order) small-behind

  -- and their groups are there or side by side: that of the tail, where it stands before the others, is
  pub right-behind : ((ws : List ℕ) → skip ≡ 0 → us ≡ c.old_size / unit_bytes ∷ ws → reads_old c (c.old_size / unit_bytes) ≡ true → touches c (c.old_size / unit_bytes) ≡ false
      → any (group_is c.object (c.old_size / unit_bytes / group_units)) v.books.groups ≡ true) → Rest c us skip → UnitsRight c.object v.books.groups (drop skip us)
  right-behind g (behind f k e) = units-right-range c.object v.books.groups f k (drop skip us) e few-behind
  right-behind g (whole f k z e r t) =
      let d : drop skip us ≡ c.old_size / unit_bytes ∷ range f k = ap (λ (j : ℕ). drop j us) z ∙ e in
      units-right-tailed c.object v.books.groups (c.old_size / unit_bytes) f k (drop skip us) d few-behind (order-behind skip us h.order) (g (range f k) z e r t)
