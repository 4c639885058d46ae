-- The extents that a change leaves, told by places: those in front of the stretch that it exchanges, the extents made for that stretch, and those behind it.
-- Assumes nothing.
use mathlib.Core.Path.{◌≡◌, refl, sym, ap, ◌∙◌}
use mathlib.Core.List.{List, [], ◌∷◌, ◌++◌, map, flat_map}
use mathlib.Core.Option.{none, none-ne-some}
use Prim.Native.Nat.{ℕ, zero, suc, ◌-◌, ◌*◌, ◌≤◌, ◌<◌}
use native.Mathlib.Omega.{arith}
use lib.ListN.{length, take, drop}
use Rattle.rules.specs.Sizes.{unit_blocks, most_blocks}
use Rattle.rules.specs.Extent.{Extent, covers, mapping}
use Rattle.rules.specs.Rewrite.{Rewritten}
use Rattle.rules.specs.Finish.{attach, call_runs, finished_extents}
use Rattle.rules.proofs.ListLaws.{test-cases, Each, each_none, each_more, each_weaken}
use Rattle.history.proofs.Rewritten.{each_first, each-rest, Units}
use Rattle.history.proofs.ApartLaws.{each-front, each_back, Laid}
use Rattle.history.proofs.MappingLaws.{Covers, covers_of, mapping-yes, mapping-no}
use Rattle.book.specs.Places.{leading, extent_under}
use Rattle.finish_extents.specs.Stretch.{Describes, Planned, first_block, end_block, singles, push_all, left_of, rest_of, Tail}
use Rattle.finish_extents.proofs.JoinLaws.{total, meet_all, total-meet_all, push-meet, runs-some, stretch-some, Ended}
use Rattle.finish_extents.proofs.StretchLaws.{units_end, InUnits, lower, upper, lower-places, upper-places, finished-parts, few-parts}
use Rattle.finish_extents.proofs.SingleLaws.{units_of, described-runs, total-singles, end_of}

-- a block that an extent of a book has is mapped
covered-mapped : (object block : ℕ) (es : List Extent) → Each (λ e. Covers object block e → mapping es object block ≡ none → ⊥) es
covered-mapped object block [] = each_none
covered-mapped object block (e ∷ es) =
    each_more (λ c q. none-ne-some _ (sym q ∙ mapping-yes object block e es (covers_of c)))
    (each_weaken (λ f h c q. test-cases ⊥ (covers object block e) (λ t. none-ne-some _ (sym q ∙ mapping-yes object block e es t)) (λ t. h c (sym (mapping-no object block e es t) ∙ q))) (covered-mapped object block es))

-- what holds of each for every number
every : {A : Type 0} {P : ℕ → A → Type 0} (xs : List A) → ((y : ℕ) → Each (P y) xs) → Each (λ x. (y : ℕ) → P y x) xs
every [] h = each_none
every (x ∷ xs) h = each_more (λ y. each_first (h y)) (every xs (λ y. each-rest (h y)))

-- the numbers between the first unit's start and the last one's end that an extent covers are in the units
in-units : {object : ℕ} {us bs : List ℕ} {es : List Extent} (r : Rewritten) (rs : List Rewritten) → Planned object us bs es → map (λ t. t.unit) (r ∷ rs) ≡ us
    → Each (InUnits object (r.unit * unit_blocks) (units_end 0 (map (λ t. t.unit) (r ∷ rs))) (r ∷ rs)) es
in-units {object} {us} {bs} {es} r rs p q = turned es (λ y. covered-mapped object y es)
  where
    first : first_block us ≡ r.unit * unit_blocks
    first = ap (λ (vs : List ℕ). first_block vs) (sym q)

    last : units_end 0 (map (λ t. t.unit) (r ∷ rs)) ≡ end_block us
    last = ap (units_end 0) q ∙ end_of 0 us p.some

    one : (e : Extent) → ((y : ℕ) → Covers object y e → mapping es object y ≡ none → ⊥) → InUnits object (r.unit * unit_blocks) (units_end 0 (map (λ t. t.unit) (r ∷ rs))) (r ∷ rs) e
    one e h y l m c = rw q (p.clear y (omega (arith, first)) (omega (arith, last)) (h y c))

    turned : (fs : List Extent) → ((y : ℕ) → Each (λ e. Covers object y e → mapping es object y ≡ none → ⊥) fs)
        → Each (InUnits object (r.unit * unit_blocks) (units_end 0 (map (λ t. t.unit) (r ∷ rs))) (r ∷ rs)) fs
    turned fs h = each_weaken one (every fs h)

-- the blocks of one extent at most
total-one : (n : ℕ) (es : List Extent) → length es ≤ 1 → Each (λ e. e.count ≤ n) es → total es ≤ n
unfolding total
total-one n [] l each_none = omega arith
total-one n (e ∷ []) l (each_more k each_none) = omega arith
total-one n (e ∷ d ∷ es) l h = absurd (omega arith)

-- one extent at most stands on the left
left_one : (object block : ℕ) (es : List Extent) (i : ℕ) → length (left_of object block es i) ≤ 1
unfolding left_of
left_one object block es zero = omega arith
left_one object block es (suc i) = omega arith

-- and none only where none stands before it
left_ended : (object block : ℕ) (es : List Extent) (i : ℕ) → Ended (left_of object block es i) (take (i - 1) es)
unfolding left_of
left_ended object block es zero e = refl
left_ended object block es (suc i) e = absurd (omega arith)

-- the finished extents: those in front, the extent before the stretch with the blocks of the change put behind it one by one and the extent behind the stretch, and
-- the others
pub finished-stretch : (object : ℕ) (us bs : List ℕ) (rs : List Rewritten) (es : List Extent) (k : ℕ) (right : List Extent) → Laid es → Each (λ e. e.count ≤ most_blocks) es
    → Planned object us bs es → Describes us bs rs → Tail (rest_of object (end_block us) es (leading (extent_under object (end_block us)) es) ++ drop (leading (extent_under object (end_block us)) es) es) es k right
    → finished_extents object rs es
    ≡ take (leading (extent_under object (first_block us)) es - 1) es
    ++ attach (push_all (left_of object (first_block us) es (leading (extent_under object (first_block us)) es)) (singles object us bs (length bs))) right ++ drop k es
finished-stretch object us bs [] es k right l n p d t = absurd (omega (arith, p.some, ap length d.units))
finished-stretch object us bs (r ∷ rs) es k right l n p d t =
    let a : ℕ = first_block us in
    let b : ℕ = end_block us in
    let i : ℕ = leading (extent_under object a) es in
    let left : List Extent = left_of object a es i in
    let xs : List Extent = singles object us bs (length bs) in
    let u : Units (r ∷ rs) = units_of (r ∷ rs) d p.order in
    let h : Each (InUnits object (r.unit * unit_blocks) (units_end 0 (map (λ t. t.unit) (r ∷ rs))) (r ∷ rs)) es = in-units r rs p d.units in
    let ea : r.unit * unit_blocks ≡ a = ap (λ (vs : List ℕ). first_block vs) d.units in
    let eb : units_end 0 (map (λ t. t.unit) (r ∷ rs)) ≡ b = ap (units_end 0) d.units ∙ end_of 0 us p.some in
    let low : flat_map (lower object (r.unit * unit_blocks)) es ≡ take (i - 1) es ++ left = rw ea (lower-places object a l.ahead) in
    let high : flat_map (upper object (units_end 0 (map (λ t. t.unit) (r ∷ rs)))) es ≡ right ++ drop k es = rw eb (upper-places object b l.filled l.ahead ∙ t.parts) in
    let few : Each (λ e. e.count ≤ most_blocks) ((take (i - 1) es ++ left) ++ (right ++ drop k es)) = rw (low, high) at (few-parts object r rs es l u h most_blocks n) in
    let runs : call_runs object (r ∷ rs) ≡ meet_all xs = described-runs object (r ∷ rs) d in
    let tl : total left ≤ most_blocks = total-one most_blocks left (left_one object a es i) (each_back {P = λ e. e.count ≤ most_blocks} (take (i - 1) es) left (each-front {P = λ e. e.count ≤ most_blocks} (take (i - 1) es ++ left) (right ++ drop k es) few)) in
    let tr : total right ≤ most_blocks = total-one most_blocks right t.one (each-front {P = λ e. e.count ≤ most_blocks} right (drop k es) (each_back {P = λ e. e.count ≤ most_blocks} (take (i - 1) es ++ left) (right ++ drop k es) few)) in
    let tx : total xs ≤ 288 = omega (arith, total-singles object us bs (length bs), p.fit, p.few) in
    let some : 0 < length (meet_all xs) = rw runs at (runs-some object r rs (each_first u.filled)) in
    let parts : finished_extents object (r ∷ rs) es ≡ attach (take (i - 1) es ++ left) (attach (meet_all xs) (right ++ drop k es)) = rw (low, high, runs) at (finished-parts object r rs es l u h) in
    parts ∙ stretch-some (take (i - 1) es) left (meet_all xs) right (drop k es) some (left_ended object a es i) t.ended (omega (arith, total-meet_all xs))
    ∙ ap (λ (zs : List Extent). take (i - 1) es ++ attach zs right ++ drop k es) (sym (push-meet left xs (omega arith)))
