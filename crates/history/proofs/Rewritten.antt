-- The words in which is told what rewritten units make of a file's extents: the blocks that they map anew, their places, and the books that they are put into.
-- Assumes nothing.
use mathlib.Core.Path.{◌≡◌, refl, sym, ap, ◌∙◌}
use mathlib.Core.List.{List, [], ◌∷◌, ◌++◌}
use mathlib.Core.Bool.{Bool, true, false, not, ◌&&◌}
use mathlib.Core.Option.{Option}
use Prim.Native.Nat.{ℕ, suc, ◌*◌, ◌/◌, ◌%◌, ◌≤◌, ◌<◌}
use native.Mathlib.Omega.{arith}
use lib.Dec.{eqb, ltb}
use lib.ListN.{length, get_elem?}
use borrow.Author.Tests.{not-true, ltb-true, lt-ltb}
use Rattle.rules.specs.Lists.{pick◌then◌else◌, all, ascending, neighbours}
use Rattle.rules.specs.Sizes.{unit_blocks}
use Rattle.rules.specs.Extent.{Extent, extent_before}
use Rattle.rules.specs.Store.{Volume}
use Rattle.rules.specs.Integrity.{ordered, none_empty, no_overlap, apart}
use Rattle.rules.specs.Rewrite.{Rewritten}
use Rattle.rules.specs.Demand.{Place}
use Rattle.rules.specs.Card.{card_before}
use Rattle.rules.specs.Group.{group_before}
use Rattle.rules.proofs.ListLaws.{test-cases, clash, if-true, if-false, and_left, and_right, ascending-tail, ascending-all, Each, each_more, each_all}
use Rattle.rules.proofs.PassLaws.{Lawful}

-- the first of elements that have a property has it
pub each_first : {A : Type 0} {P : A → Type 0} {x : A} {xs : List A} → Each P (x ∷ xs) → P x
each_first (each_more p h) = p

-- and so have the others
pub each-rest : {A : Type 0} {P : A → Type 0} {x : A} {xs : List A} → Each P (x ∷ xs) → Each P xs
each-rest (each_more p h) = h

-- where a block of the file is on the device: a rewritten unit's new place, the old one where its unit is not rewritten
unfoldable pub new_mapping : List Rewritten → ℕ → Option ℕ → Option ℕ
new_mapping [] block old = old
new_mapping (r ∷ rs) block old =
    pick eqb (block / unit_blocks) r.unit then get_elem? r.blocks (block % unit_blocks) else new_mapping rs block old

-- the block of the file lies in no rewritten unit
unfoldable pub outside : List Rewritten → ℕ → Bool
outside rs block = all (λ r. not (eqb (block / unit_blocks) r.unit)) rs

-- the places of blocks that stand one behind the other in a file
unfoldable pub block_places : ℕ → ℕ → List ℕ → List Place
block_places object logical [] = []
block_places object logical (b ∷ bs) =
    record { object = object; logical = logical; block = b } ∷ block_places object (suc logical) bs

-- the places that rewritten units make
unfoldable pub new_places : ℕ → List Rewritten → List Place
new_places object [] = []
new_places object (r ∷ rs) = block_places object (r.unit * unit_blocks) r.blocks ++ new_places object rs

-- the rewritten units are what a plan gives: ascending, each with 1 to 16 blocks
pub record Units (rs : List Rewritten) : Type 0 where
  pub order : ascending (λ r t. ltb r.unit t.unit) rs ≡ true
  pub filled : Each (λ r. 0 < length r.blocks) rs
  pub most : Each (λ r. length r.blocks ≤ unit_blocks) rs

-- those behind the first are such too
pub units-tail : {r : Rewritten} {rs : List Rewritten} → Units (r ∷ rs) → Units rs
units-tail {r} {rs} u = record {
  order = ascending-tail (λ s t. ltb s.unit t.unit) r rs u.order;
  filled = each-rest u.filled;
  most = each-rest u.most;
}

-- and have greater numbers
pub units-behind : {r : Rewritten} {rs : List Rewritten} → Units (r ∷ rs) → Each (λ t. r.unit < t.unit) rs
units-behind {r} {rs} u =
    each_all (λ t. ltb r.unit t.unit) (λ t q. ltb-true r.unit t.unit q) rs
    (ascending-all (λ s t. ltb s.unit t.unit) trans r rs u.order)
  where
    trans : (x y z : Rewritten) → ltb x.unit y.unit ≡ true → ltb y.unit z.unit ≡ true → ltb x.unit z.unit ≡ true
    trans x y z p q =
        let a : x.unit < y.unit = ltb-true x.unit y.unit p in
        let b : y.unit < z.unit = ltb-true y.unit z.unit q in
        lt-ltb x.unit z.unit (omega arith)

-- the extents of books that refusal 2 passes
pub record Apart (es : List Extent) : Type 0 where
  pub order : ascending extent_before es ≡ true
  pub filled : all (λ e. ltb 0 e.count) es ≡ true
  pub apart : neighbours apart es ≡ true

-- a lawful volume's are such
pub apart-lawful : (v : Volume) → Lawful v → Apart v.books.extents
unfolding ordered none_empty no_overlap
apart-lawful v l = record {
  order = and_right (ascending card_before v.books.cards) (ascending extent_before v.books.extents)
      (and_left (ascending card_before v.books.cards && ascending extent_before v.books.extents) (ascending group_before v.books.groups) l.order);
  filled = l.filled;
  apart = l.apart;
}

-- a block of the first rewritten unit
pub new_mapping-in : (r : Rewritten) (rs : List Rewritten) (block : ℕ) (old : Option ℕ) → eqb (block / unit_blocks) r.unit ≡ true
    → new_mapping (r ∷ rs) block old ≡ get_elem? r.blocks (block % unit_blocks)
unfolding new_mapping
new_mapping-in r rs block old e = if-true (eqb (block / unit_blocks) r.unit) (get_elem? r.blocks (block % unit_blocks)) (new_mapping rs block old) e

-- a block of another unit
pub new_mapping-behind : (r : Rewritten) (rs : List Rewritten) (block : ℕ) (old : Option ℕ) → eqb (block / unit_blocks) r.unit ≡ false
    → new_mapping (r ∷ rs) block old ≡ new_mapping rs block old
unfolding new_mapping
new_mapping-behind r rs block old e = if-false (eqb (block / unit_blocks) r.unit) (get_elem? r.blocks (block % unit_blocks)) (new_mapping rs block old) e

-- a block of no rewritten unit stays where it is
pub new_mapping-outside : (rs : List Rewritten) (block : ℕ) (old : Option ℕ) → outside rs block ≡ true → new_mapping rs block old ≡ old
new_mapping-outside [] block old h = unfold new_mapping in refl
new_mapping-outside (r ∷ rs) block old h =
    new_mapping-behind r rs block old (not-true (eqb (block / unit_blocks) r.unit) (and_left (not (eqb (block / unit_blocks) r.unit)) (outside rs block) (unfold outside all in h)))
    ∙ new_mapping-outside rs block old (and_right (not (eqb (block / unit_blocks) r.unit)) (outside rs block) (unfold outside all in h))

-- a block of one is where that has it, wherever it was
pub new_mapping-inside : (rs : List Rewritten) (block : ℕ) (old new : Option ℕ) → outside rs block ≡ false → new_mapping rs block old ≡ new_mapping rs block new
new_mapping-inside [] block old new h = absurd (clash h (unfold outside all in refl))
new_mapping-inside (r ∷ rs) block old new h =
    test-cases (new_mapping (r ∷ rs) block old ≡ new_mapping (r ∷ rs) block new) (eqb (block / unit_blocks) r.unit)
    (λ t. new_mapping-in r rs block old t ∙ sym (new_mapping-in r rs block new t))
    (λ t. new_mapping-behind r rs block old t
    ∙ new_mapping-inside rs block old new (sym (ap (λ z. not z && outside rs block) t) ∙ (unfold outside all in h)) ∙ sym (new_mapping-behind r rs block new t))
