-- Laws of single reads: the units that one touches, and the number that refuses a unit.
-- Assumes nothing.
use mathlib.Core.Path.{◌≡◌, refl, sym, ap, ◌∙◌}
use mathlib.Core.Bool.{Bool, true, false}
use mathlib.Core.List.{List, ◌++◌, map, flat_map, append-nil}
use Prim.Native.Nat.{ℕ, zero, suc, ◌+◌, ◌-◌, ◌/◌, ◌≤◌, ◌<◌}
use native.Mathlib.Omega.{arith}
use lib.Dec.{ltb}
use lib.ListN.{get_or}
use borrow.Author.Tests.{lt-ltb, ltb-true}
use Rattle.rules.specs.Lists.{any, member, range, begun}
use Rattle.rules.specs.Sizes.{unit_bytes}
use Rattle.rules.specs.Head.{Head, decode_head}
use Rattle.rules.specs.Units.{units_of}
use Rattle.rules.specs.Read.{read_length}
use Rattle.rules.specs.Answers.{checked_number}
use Rattle.rules.specs.Triples.{Triple}
use Rattle.rules.specs.ReadMany.{Pair, pairs_of, same_pair}
use Rattle.rules.proofs.ListLaws.{test-cases, any_append, or_left, or_right, range-add}
use Rattle.rules.proofs.CountLaws.{member-range-of, member-range-in, same_test, flat_map-append}
use Rattle.rules.proofs.UnitListLaws.{units_of-some, units_of-none}
use Rattle.format.specs.declared.head.Head as head_struct
use Rattle.format.specs.Records.{head_of}
use Rattle.triples.specs.declared.Triple as struct
use Rattle.triples.specs.Triple.{triple_of, triple_at}
use Rattle.read.specs.Range.{checked_range}
use Rattle.read_checks.specs.Reads.{looked, unit_number, pairs_read, pair_is, pairs_before}
use Rattle.read_checks.proofs.PairLaws.{pair-among, pair-other}

-- ---- the units of a read

module _ (t : struct.Triple) (list : List ℕ) (j : ℕ) (q : triple_of t ≡ triple_at list j) (size object unit : ℕ) where
  -- the pairs are those of the triple in hand
  pairs-hand : pairs_read (triple_at list j) size ≡ map (pair_is t.object) (units_of t.offset (t.offset + read_length size t.offset t.len))
  unfolding triple_of
  pairs-hand = ap (λ (x : Triple). pairs_read x size) (sym q) ∙ (unfold pairs_read pairs_of in refl)

  -- a read of another file
  pub read-other : (t.object ≡ object → ⊥) → false ≡ any (same_pair (pair_is object unit)) (pairs_read (triple_at list j) size)
  read-other d = sym (ap (any (same_pair (pair_is object unit))) pairs-hand ∙ pair-other object unit t.object d (units_of t.offset (t.offset + read_length size t.offset t.len)))

  module _ (n : ℕ) (e : n ≡ read_length size t.offset t.len) where
    -- a read that gets no byte
    pub read-empty : n ≡ 0 → false ≡ any (same_pair (pair_is object unit)) (pairs_read (triple_at list j) size)
    read-empty z =
        sym (ap (any (same_pair (pair_is object unit))) pairs-hand
        ∙ (unfold any in ap (λ (us : List ℕ). any (same_pair (pair_is object unit)) (map (pair_is t.object) us)) (units_of-none t.offset (t.offset + read_length size t.offset t.len) (omega (arith, e, z)))))

    -- one that gets some bytes of this file
    touched : t.object ≡ object → (n ≡ 0 → ⊥)
        → any (same_pair (pair_is object unit)) (pairs_read (triple_at list j) size) ≡ member unit (range (t.offset / unit_bytes) (begun (t.offset + n) unit_bytes - t.offset / unit_bytes))
    touched o z =
        ap (any (same_pair (pair_is object unit))) pairs-hand
        ∙ ap (λ (x : ℕ). any (same_pair (pair_is object unit)) (map (pair_is x) (units_of t.offset (t.offset + read_length size t.offset t.len)))) o
        ∙ pair-among object unit (units_of t.offset (t.offset + read_length size t.offset t.len))
        ∙ ap (λ (m : ℕ). member unit (units_of t.offset (t.offset + m))) (sym e)
        ∙ ap (member unit) (units_of-some t.offset (t.offset + n) (omega (arith, z)))

    -- it starts behind the unit
    pub read_behind : t.object ≡ object → (n ≡ 0 → ⊥) → unit < t.offset / unit_bytes → false ≡ any (same_pair (pair_is object unit)) (pairs_read (triple_at list j) size)
    read_behind o z l =
        let f : ℕ = t.offset / unit_bytes in
        let k : ℕ = begun (t.offset + n) unit_bytes - f in
        sym (touched o z ∙ test-cases _ (member unit (range f k)) (λ m. absurd (omega (arith, l, (member-range-in unit f k m).0))) (λ m. m))

    -- it does not
    pub read-touches : t.object ≡ object → (n ≡ 0 → ⊥) → (k : ℕ) → t.offset / unit_bytes ≤ unit → k ≡ begun (t.offset + n) unit_bytes - t.offset / unit_bytes
        → ltb (unit - t.offset / unit_bytes) k ≡ any (same_pair (pair_is object unit)) (pairs_read (triple_at list j) size)
    read-touches o z k l h =
        let f : ℕ = t.offset / unit_bytes in
        let g : ℕ = begun (t.offset + n) unit_bytes - f in
        same_test (ltb (unit - f) k) (member unit (range f g))
        (λ p. member-range-of unit f g l (omega (arith, l, h, ltb-true (unit - f) k p)))
        (λ p. lt-ltb (unit - f) k (omega (arith, l, h, (member-range-in unit f g p).1)))
        ∙ sym (touched o z)

-- ---- the reads before

module _ (list sizes : List ℕ) where
  -- one read more
  pub before_more : (j : ℕ) → pairs_before list sizes (j + 1) ≡ pairs_before list sizes j ++ pairs_read (triple_at list j) (get_or sizes j 0)
  unfolding pairs_before
  before_more j =
      let s : ℕ → List Pair = λ (i : ℕ). pairs_read (triple_at list i) (get_or sizes i 0) in
      let e : 0 + j ≡ j = omega arith in
      ap (flat_map s) (range-add 0 j 1) ∙ flat_map-append s (range 0 j) (range (0 + j) 1) ∙ ap (λ (i : ℕ). flat_map s (range 0 j) ++ flat_map s (range i 1)) e ∙ ap (λ (x : List Pair). flat_map s (range 0 j) ++ x) (one s j)
    where
      one : (s : ℕ → List Pair) (j : ℕ) → flat_map s (range j 1) ≡ s j
      one s j = unfold flat_map range in append-nil (s j)

  module _ (p : Pair) where
    -- none of no reads touches it
    pub seen_none : any (same_pair p) (pairs_before list sizes 0) ≡ false
    unfolding pairs_before any range flat_map
    seen_none = refl

    -- one read more does not
    pub seen_more : (j : ℕ) (m : Bool) → any (same_pair p) (pairs_before list sizes j) ≡ false → m ≡ any (same_pair p) (pairs_read (triple_at list j) (get_or sizes j 0)) → m ≡ false
        → any (same_pair p) (pairs_before list sizes (j + 1)) ≡ false
    seen_more j m h e z = ap (any (same_pair p)) (before_more j) ∙ any_append (same_pair p) (pairs_before list sizes j) (pairs_read (triple_at list j) (get_or sizes j 0)) ∙ rw (h, sym e, z) refl

    -- one of the first reads does, and so one of more
    seen-still : (k j : ℕ) → any (same_pair p) (pairs_before list sizes j) ≡ true → any (same_pair p) (pairs_before list sizes (j + k)) ≡ true
    seen-still zero j h = let e : j ≡ j + 0 = omega arith in ap (λ (i : ℕ). any (same_pair p) (pairs_before list sizes i)) (sym e) ∙ h
    seen-still (suc k) j h =
        let e : j + k + 1 ≡ j + suc k = omega arith in
        ap (λ (i : ℕ). any (same_pair p) (pairs_before list sizes i)) (sym e) ∙ ap (any (same_pair p)) (before_more (j + k))
        ∙ any_append (same_pair p) (pairs_before list sizes (j + k)) (pairs_read (triple_at list (j + k)) (get_or sizes (j + k) 0))
        ∙ or_left (any (same_pair p) (pairs_before list sizes (j + k))) (any (same_pair p) (pairs_read (triple_at list (j + k)) (get_or sizes (j + k) 0))) (seen-still k j h)

    -- one of them does
    pub seen_here : (j i : ℕ) (m : Bool) → j < i → m ≡ any (same_pair p) (pairs_read (triple_at list j) (get_or sizes j 0)) → m ≡ true
        → true ≡ any (same_pair p) (pairs_before list sizes i)
    seen_here j i m l e h =
        let n : (j + 1) + (i - (j + 1)) ≡ i = omega (arith, l) in
        let s : any (same_pair p) (pairs_before list sizes (j + 1)) ≡ true =
        ap (any (same_pair p)) (before_more j) ∙ any_append (same_pair p) (pairs_before list sizes j) (pairs_read (triple_at list j) (get_or sizes j 0))
        ∙ or_right (any (same_pair p) (pairs_before list sizes j)) (any (same_pair p) (pairs_read (triple_at list j) (get_or sizes j 0))) (sym e ∙ h) in
        sym (ap (λ (x : ℕ). any (same_pair p) (pairs_before list sizes x)) (sym n) ∙ seen-still (i - (j + 1)) (j + 1) s)

    -- none of all does
    pub seen_never : (j i : ℕ) → j ≤ i → i ≤ j → any (same_pair p) (pairs_before list sizes j) ≡ false → false ≡ any (same_pair p) (pairs_before list sizes i)
    seen_never j i l m h = let e : i ≡ j = omega (arith, l, m) in sym (ap (λ (x : ℕ). any (same_pair p) (pairs_before list sizes x)) e ∙ h)

-- ---- a unit

-- the number of a unit that was looked up by the decoded head
pub unit-number : (image head extents groups : List ℕ) (object size unit r : ℕ) (h : head_struct.Head) → head_of h ≡ decode_head head
    → r ≡ checked_number (checked_range image h.uuid extents groups h.extents h.groups object size unit 1)
    → r ≡ unit_number (looked image head extents groups) object size unit
unfolding unit_number head_of
unit-number image head extents groups object size unit r h d e =
    e ∙ ap (λ (k : Head). checked_number (checked_range image k.uuid extents groups k.extents k.groups object size unit 1)) d
