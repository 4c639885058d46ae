-- Laws of fill: the blocks that it counts are the used ones of one range, and it answers no more than 1,000.
-- Assumes nothing.
use mathlib.Core.Path.{◌≡◌, ap, ◌∙◌}
use mathlib.Core.List.{[]}
use mathlib.Core.Bool.{Bool, ◌&&◌, and-true, and-false}
use Prim.Native.Nat.{ℕ, ◌-◌, ◌*◌, ◌/◌, ◌≤◌}
use native.Mathlib.Nat.{zero-add, div-le_of_le-mul}
use native.Mathlib.Omega.{arith}
use lib.Dec.{eqb, leb}
use borrow.Author.Tests.{le-leb, lt-leb}
use Rattle.rules.specs.Lists.{count, range}
use Rattle.rules.specs.Store.{Store, Volume, decode}
use Rattle.rules.specs.Refusal.{result}
use Rattle.rules.specs.Integrity.{store_cases}
use Rattle.rules.specs.Settle.{usable_blocks, used_usable, per_mille, fill_outcome}
use Rattle.rules.specs.Call.{call}
use Rattle.rules.specs.Call.Look.{fill}
use Rattle.rules.specs.Call.Call.{look}
use Rattle.rules.proofs.ListLaws.{if-cases, count-append, count-le, length-range, each_weaken, each-any}
use Rattle.rules.proofs.CountLaws.{count_none, count-each, each-range, range_front}
use Rattle.rules.proofs.PassLaws.{room-decode}
use Rattle.rules.proofs.OutcomeLaws.{first_of-cases, store-passes}

-- the numbers below a bound that are not below another one and pass a test are those of the range between that pass it
pub count-above : (f : ℕ → Bool) (least bound : ℕ) → least ≤ bound → count (λ n. f n && leb least n) (range 0 bound) ≡ count f (range least (bound - least))
count-above f least bound l =
    let g : ℕ → Bool = λ n. f n && leb least n in
    let below : count g (range 0 least) ≡ 0 =
    count_none g (each_weaken (λ n h. ap (λ (t : Bool). f n && t) (lt-leb least n (omega arith)) ∙ and-false (f n)) (each-range 0 least)) in
    let above : count g (range least (bound - least)) ≡ count f (range least (bound - least)) =
    count-each g f (each_weaken (λ n h. ap (λ (t : Bool). f n && t) (le-leb least n h.0) ∙ and-true (f n)) (each-range least (bound - least))) in
    ap (count g) (range_front least bound l) ∙ count-append g (range 0 least) (range least (bound - least)) ∙ rw (below, above) (zero-add (count f (range least (bound - least))))

module _ (v : Volume) (l : v.reserved ≤ v.blocks) where
  -- the used blocks that are not reserved: those behind the reserved ones
  pub used-behind : used_usable v ≡ count v.used (range v.reserved (usable_blocks v))
  unfolding used_usable usable_blocks
  used-behind = count-above v.used v.reserved v.blocks l

  -- they are no more than the blocks that can be used
  pub used-most : used_usable v ≤ usable_blocks v
  used-most = let n = count-le v.used (range v.reserved (usable_blocks v)) in omega (arith, used-behind, n, length-range v.reserved (usable_blocks v))

-- a part is no more than 1,000 of a thousand
pub per-mille-most : (used usable : ℕ) → used ≤ usable → per_mille used usable ≤ 1000
unfolding per_mille
per-mille-most used usable l =
    if-cases (λ (n : ℕ). n ≤ 1000) (eqb usable 0) 0 (used * 1000 / usable) (λ e. omega arith) (λ e. div-le_of_le-mul usable (omega arith))

-- so fill answers 0 to 1,000, whatever it is lent
pub fill-most : (s : Store) → (call (look fill) s).count ≤ 1000
unfolding call fill_outcome result
fill-most s =
    first_of-cases (λ o. (result s [] o).count ≤ 1000) _ (each-any (λ c e. omega arith) (store_cases s))
    (λ n. per-mille-most (used_usable (decode s)) (usable_blocks (decode s)) (used-most (decode s) (room-decode s (store-passes s n)).reserved))
