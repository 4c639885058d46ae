-- Laws of units that are checked one after another: the first number that refuses one, and the inspections that are made.
-- Assumes nothing.
use mathlib.Core.Path.{◌≡◌, refl, sym, ap, ◌∙◌}
use mathlib.Core.Bool.{Bool, true, false, not}
use mathlib.Core.List.{List, [], ◌∷◌, ◌++◌}
use Prim.Native.Nat.{ℕ, suc, ◌+◌, ◌-◌, ◌/◌, ◌≤◌, ◌<◌}
use native.Mathlib.Omega.{arith}
use lib.Dec.{eqb}
use borrow.Author.Tests.{eq-eqb, ne_eqb, eqb-true}
use Rattle.rules.specs.Lists.{pick◌then◌else◌, any, range, begun}
use Rattle.rules.specs.Sizes.{unit_bytes}
use Rattle.rules.specs.Units.{units_of}
use Rattle.rules.specs.Read.{read_length}
use Rattle.rules.specs.Triples.{Triple}
use Rattle.rules.specs.ReadMany.{Pair, same_pair}
use Rattle.rules.proofs.ListLaws.{Each, each_none, each_more, if-true, if-false, if-cases, test-cases, clash, range-add, count-append}
use Rattle.rules.proofs.UnitListLaws.{units_of-some, units_of-none}
use Rattle.triples.specs.declared.Triple as struct
use Rattle.triples.specs.Triple.{triple_of, triple_at}
use Rattle.read_checks.specs.Reads.{Looked, first_number, unit_number, units_read, pair_is, new_units}
use Rattle.read_checks.specs.Checked.{NewChecked, UnitsChecked}
use Rattle.read_checks.proofs.PairLaws.{new_none, new-cons}

-- ---- the first number

module _ {A : Type 0} (f : A → ℕ) where
  -- none of nothing
  pub first-none : first_number f [] ≡ 0
  unfolding first_number
  first-none = refl

  -- one that is 0 is passed over
  pub first-pass : (x : A) (xs : List A) → f x ≡ 0 → first_number f (x ∷ xs) ≡ first_number f xs
  unfolding first_number
  first-pass x xs z = if-true (eqb (f x) 0) (first_number f xs) (f x) (eq-eqb (f x) 0 z)

  -- any other is the first
  pub first-stop : (x : A) (xs : List A) → (f x ≡ 0 → ⊥) → first_number f (x ∷ xs) ≡ f x
  unfolding first_number
  first-stop x xs z = if-false (eqb (f x) 0) (first_number f xs) (f x) (ne_eqb (f x) 0 z)

  -- where it is 0 all are
  pub first-all : (xs : List A) → first_number f xs ≡ 0 → Each (λ x. f x ≡ 0) xs
  first-all [] e = each_none
  first-all (x ∷ xs) e =
      test-cases _ (eqb (f x) 0)
      (λ t. let z : f x ≡ 0 = eqb-true (f x) 0 t in each_more z (first-all xs (sym (first-pass x xs z) ∙ e)))
      (λ t. let n : f x ≡ 0 = sym (if-false (eqb (f x) 0) (first_number f xs) (f x) t) ∙ (unfold first_number in e) in absurd (clash t (eq-eqb (f x) 0 n)))

-- ---- a unit

module _ (b : Looked) (object size unit made : ℕ) (ps : List Pair) (m : Bool) (e : m ≡ any (same_pair (pair_is object unit)) ps) where
  -- an earlier read touches it
  pub new-seen : m ≡ true → (any (same_pair (pair_is object unit)) ps ≡ true → unit_number b object size unit ≡ 0) → NewChecked b object size unit ps made 0 made
  new-seen t h =
      let s : any (same_pair (pair_is object unit)) ps ≡ true = sym e ∙ t in
      let zero_more : made + 0 ≡ made = omega arith in
      record { number = sym (h s); count = sym (ap (λ (n : ℕ). made + n) (if-true (any (same_pair (pair_is object unit)) ps) 0 1 s) ∙ zero_more) }

  -- none does: it was inspected
  pub new-inspected : m ≡ false → (r c : ℕ) → (r ≡ unit_number b object size unit) × (c ≡ made + 1) → NewChecked b object size unit ps made r c
  new-inspected t r c h = record {
    number = h.0;
    count = h.1 ∙ sym (ap (λ (n : ℕ). made + n) (if-false (any (same_pair (pair_is object unit)) ps) 0 1 (sym e ∙ t)));
  }

-- ---- the units of a read

-- a range from a place of it on, and one number less
range-here : (first j k : ℕ) → j < k → range (first + j) (k - j) ≡ (first + j) ∷ range (first + (j + 1)) (k - (j + 1))
range-here first j k l =
    let e : k - j ≡ suc (k - (j + 1)) = omega (arith, l) in
    let g : suc (first + j) ≡ first + (j + 1) = omega arith in
    let c : range (first + j) (suc (k - (j + 1))) ≡ (first + j) ∷ range (suc (first + j)) (k - (j + 1)) = unfold range in refl in
    ap (range (first + j)) e ∙ c ∙ ap (λ (a : ℕ). (first + j) ∷ range a (k - (j + 1))) g

module _ (b : Looked) (object size first k made : ℕ) (ps : List Pair) where
  -- after j of the k units: none of them is refused, and `now` inspections have been made
  pub record Passed (j now : ℕ) : Type 0 where
    pub within : j ≤ k
    pub numbers : first_number (unit_number b object size) (range first k) ≡ first_number (unit_number b object size) (range (first + j) (k - j))
    pub counted : now ≡ made + new_units ps object (range first j)
    pub most : now ≤ made + j

  -- new units of two runs
  new-append : (us vs : List ℕ) → new_units ps object (us ++ vs) ≡ new_units ps object us + new_units ps object vs
  unfolding new_units
  new-append us vs = count-append (λ u. not (any (same_pair (pair_is object u)) ps)) us vs

  -- before the first
  pub passed_none : Passed 0 made
  passed_none =
      let e : first ≡ first + 0 = omega arith in
      let g : k ≡ k - 0 = omega arith in
      let none : new_units ps object (range first 0) ≡ 0 = unfold range in new_none ps object in
      record {
        within = omega arith;
        numbers = ap (λ (a : ℕ). first_number (unit_number b object size) (range a k)) e ∙ ap (λ (n : ℕ). first_number (unit_number b object size) (range (first + 0) n)) g;
        counted = omega (arith, none);
        most = omega arith;
      }

  module _ (j now : ℕ) (h : Passed j now) where
    -- the next is refused
    pub passed-stop : j < k → (r c : ℕ) → NewChecked b object size (first + j) ps now r c → 0 < r → UnitsChecked b object size (range first k) ps made k r c
    passed-stop l r c x z = record {
      number = sym (h.numbers ∙ ap (first_number (unit_number b object size)) (range-here first j k l) ∙ first-stop (unit_number b object size) (first + j) (range (first + (j + 1)) (k - (j + 1))) (λ y. absurd (omega (arith, y, x.number, z))) ∙ sym x.number);
      count = λ y. absurd (omega (arith, y, z));
      most = if-cases (λ (n : ℕ). c ≡ now + n → c ≤ made + k) (any (same_pair (pair_is object (first + j))) ps) 0 1 (λ t y. omega (arith, y, l, h.most)) (λ t y. omega (arith, y, l, h.most)) x.count;
    }

    -- the next passes
    pub passed-more : j < k → (c : ℕ) → NewChecked b object size (first + j) ps now 0 c → Passed (j + 1) c
    passed-more l c x =
        let one : new_units ps object (range (first + j) 1) ≡ (pick any (same_pair (pair_is object (first + j))) ps then 0 else 1) + 0 = unfold range in (new-cons ps object (first + j) [] ∙ ap (λ (n : ℕ). (pick any (same_pair (pair_is object (first + j))) ps then 0 else 1) + n) (new_none ps object)) in
        let both : new_units ps object (range first (j + 1)) ≡ new_units ps object (range first j) + new_units ps object (range (first + j) 1) = ap (new_units ps object) (range-add first j 1) ∙ new-append (range first j) (range (first + j) 1) in
        record {
          within = omega (arith, l);
          numbers = h.numbers ∙ ap (first_number (unit_number b object size)) (range-here first j k l) ∙ first-pass (unit_number b object size) (first + j) (range (first + (j + 1)) (k - (j + 1))) (sym x.number);
          counted = omega (arith, x.count, both, one, h.counted);
          most = if-cases (λ (n : ℕ). c ≡ now + n → c ≤ made + (j + 1)) (any (same_pair (pair_is object (first + j))) ps) 0 1 (λ t y. omega (arith, y, h.most)) (λ t y. omega (arith, y, h.most)) x.count;
        }

    -- all have passed
    pub passed-all : k ≤ j → UnitsChecked b object size (range first k) ps made k 0 now
    passed-all l =
        let e : k - j ≡ 0 = omega (arith, l) in
        let g : j ≡ k = omega (arith, l, h.within) in
        let nothing : first_number (unit_number b object size) (range (first + j) 0) ≡ 0 = unfold range in first-none (unit_number b object size) in
        record {
          number = sym (h.numbers ∙ ap (λ (n : ℕ). first_number (unit_number b object size) (range (first + j) n)) e ∙ nothing);
          count = λ y. h.counted ∙ ap (λ (n : ℕ). made + new_units ps object (range first n)) g;
          most = omega (arith, h.most, g);
        }

-- ---- a read of a file of a size

module _ (b : Looked) (t : struct.Triple) (list : List ℕ) (i : ℕ) (q : triple_of t ≡ triple_at list i) (size n made : ℕ) (ps : List Pair) (e : n ≡ read_length size t.offset t.len) where
  -- the units of the triple in hand
  units-hand : units_read (triple_at list i) size ≡ units_of t.offset (t.offset + n)
  unfolding triple_of
  units-hand =
      let h : units_read (triple_of t) size ≡ units_of t.offset (t.offset + read_length size t.offset t.len) = unfold units_read in refl in
      ap (λ (x : Triple). units_read x size) (sym q) ∙ h ∙ ap (λ (m : ℕ). units_of t.offset (t.offset + m)) (sym e)

  -- what is known of the units of its file, said of the triple in hand
  pub right-hand : ((u : ℕ) → any (same_pair (pair_is (triple_at list i).object u)) ps ≡ true → unit_number b (triple_at list i).object size u ≡ 0)
      → (u : ℕ) → any (same_pair (pair_is t.object u)) ps ≡ true → unit_number b t.object size u ≡ 0
  unfolding triple_of
  right-hand h u = let o : t.object ≡ (triple_at list i).object = ap (λ (y : Triple). y.object) q in rw o (h u)

  -- what is to be shown of its checks
  abbrev pub ReadSized : (r c : ℕ) → Type 0
  ReadSized r c = UnitsChecked b (triple_at list i).object size (units_read (triple_at list i) size) ps made 17 r c

  -- it gets no byte
  pub read-sized-none : n ≡ 0 → ReadSized 0 made
  read-sized-none z =
      let zero_more : made + 0 ≡ made = omega arith in
      let u : units_read (triple_at list i) size ≡ [] = units-hand ∙ units_of-none t.offset (t.offset + n) (omega (arith, z)) in
      record {
        number = sym (ap (first_number (unit_number b (triple_at list i).object size)) u ∙ first-none (unit_number b (triple_at list i).object size));
        count = λ y. sym (ap (λ (us : List ℕ). made + new_units ps (triple_at list i).object us) u ∙ ap (λ (m : ℕ). made + m) (new_none ps (triple_at list i).object) ∙ zero_more);
        most = omega arith;
      }

  -- it gets some
  pub read-sized-some : (n ≡ 0 → ⊥) → (k : ℕ) → (k ≡ begun (t.offset + n) unit_bytes - t.offset / unit_bytes) × (0 < k) × (k ≤ 17) → (r c : ℕ)
      → UnitsChecked b t.object size (range (t.offset / unit_bytes) k) ps made k r c → ReadSized r c
  read-sized-some z k w r c x =
      let o : t.object ≡ (triple_at list i).object = unfold triple_of in ap (λ (y : Triple). y.object) q in
      let u : range (t.offset / unit_bytes) k ≡ units_read (triple_at list i) size = ap (range (t.offset / unit_bytes)) w.0 ∙ sym (units-hand ∙ units_of-some t.offset (t.offset + n) (omega (arith, z))) in
      record {
        number = x.number ∙ ap (first_number (unit_number b t.object size)) u ∙ ap (λ (y : ℕ). first_number (unit_number b y size) (units_read (triple_at list i) size)) o;
        count = λ y. x.count y ∙ ap (λ (us : List ℕ). made + new_units ps t.object us) u ∙ ap (λ (y : ℕ). made + new_units ps y (units_read (triple_at list i) size)) o;
        most = omega (arith, x.most, w.2);
      }
