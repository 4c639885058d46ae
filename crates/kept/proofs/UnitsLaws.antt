-- Laws of the units of a change: the loop that writes them down, and the shape of a write's units, consecutive but for the old tail before them.
-- Assumes nothing.
use mathlib.Core.Path.{◌≡◌, refl, sym, ap, ◌∙◌}
use mathlib.Core.Bool.{Bool, true, false, not, ◌&&◌, and-false}
use mathlib.Core.List.{List, [], ◌∷◌, ◌++◌}
use Prim.Native.Nat.{ℕ, zero, suc, ◌+◌, ◌-◌, ◌*◌, ◌/◌, ◌%◌, ◌≤◌, ◌<◌, max}
use native.Mathlib.Nat.{sub_self}
use native.Mathlib.Numerals.{add-one}
use native.Mathlib.Omega.{arith}
use lib.Dec.{eqb, ltb}
use lib.ListN.{length, take, drop, get_or, set}
use lib.Seq.{take-suc-set, take-add, take_at, drop_at, length-take-le}
use Rattle.std.proofs.lemmas.List.{take-append-le}
use borrow.Author.Tests.{ltb-true, ltb-false, eqb-false, not-true, lt-ltb, le-ltb, eq-eqb, ne_eqb}
use Rattle.rules.specs.Lists.{pick◌then◌else◌, range, filter, member, ascending, neighbours, begun}
use Rattle.rules.specs.Units.{Change, change_end, touched_units, partial_tail, write_units, grow_units}
use Rattle.rules.proofs.ListLaws.{test-cases, and_left, and_right, if-true, if-false, filter-yes, filter-no, range-add, length-range, get_or-range, ascending-of, Each, each_more, each_weaken}
use Rattle.rules.proofs.CountLaws.{member-range-of, member-range-in, each-range, ascending-cons}
use Rattle.rules.proofs.UnitListLaws.{units_of-some}
use Rattle.kept.specs.Change.{IsChange, tail_units}

-- ---- the old tail

module _ (old new first : ℕ) where
  -- the rule's three parts
  abbrev tail_before : Bool
  tail_before = ltb old new && (not (eqb (old % 65536) 0) && ltb (old / 65536) first)

  -- what they say
  tail-parts : tail_before ≡ true → (old < new) × (old % 65536 ≡ 0 → ⊥) × (old / 65536 < first)
  tail-parts t =
      let more : Bool = not (eqb (old % 65536) 0) && ltb (old / 65536) first in
      let q : more ≡ true = and_right (ltb old new) more t in (
        ltb-true old new (and_left (ltb old new) more t),
        eqb-false (old % 65536) 0 (not-true (eqb (old % 65536) 0) (and_left (not (eqb (old % 65536) 0)) (ltb (old / 65536) first) q)),
        ltb-true (old / 65536) first (and_right (not (eqb (old % 65536) 0)) (ltb (old / 65536) first) q),
      )

  -- it is rewritten before the others
  tail-first : tail_before ≡ true → tail_units old new first ≡ old / 65536 ∷ []
  unfolding tail_units
  tail-first t = if-true tail_before (old / 65536 ∷ []) [] t

  -- it is not
  tail_none : tail_before ≡ false → [] ≡ tail_units old new first
  unfolding tail_units
  tail_none t = sym (if-false tail_before (old / 65536 ∷ []) [] t)

  module _ (units : List ℕ) where
    -- the file does not grow
    pub tail-same : new ≤ old → (0 ≤ 1) × (take 0 units ≡ tail_units old new first)
    tail-same l = (omega arith, tail_none (rw (le-ltb old new l) refl))

    -- its tail is whole
    pub tail-whole : old % 65536 ≡ 0 → (0 ≤ 1) × (take 0 units ≡ tail_units old new first)
    tail-whole e = (omega arith, tail_none (rw e (and-false (ltb old new))))

    -- its tail is touched, or behind what is
    pub tail-touched : first ≤ old / 65536 → (0 ≤ 1) × (take 0 units ≡ tail_units old new first)
    tail-touched l =
        (omega arith, tail_none (rw (le-ltb (old / 65536) first l, and-false (not (eqb (old % 65536) 0))) (and-false (ltb old new))))

    -- its tail is before that
    pub tail-put : 0 < length units → old < new → (old % 65536 ≡ 0 → ⊥) → old / 65536 < first → (1 ≤ 1) × (take 1 (set units 0 (old / 65536)) ≡ tail_units old new first)
    tail-put m l n k =
        (omega arith, take-suc-set units 0 (old / 65536) m ∙ sym (tail-first (rw (lt-ltb old new l, ne_eqb (old % 65536) 0 n, lt-ltb (old / 65536) first k) refl)))

-- ---- the loop

-- a range with the number behind it
range_last : (first n : ℕ) → range first (n + 1) ≡ range first n ++ ((first + n) ∷ [])
unfolding range
range_last first n = range-add first n 1

-- the units from first up to u are written down
pub record Putting (first : ℕ) (units : List ℕ) (u : ℕ) : Type 0 where
  pub list : take (u - first) units ≡ range first (u - first)

-- none yet
pub putting-none : (first : ℕ) (units : List ℕ) → Putting first units first
putting-none first units = record { list = rw (sub_self first) (unfold range in refl) }

-- one more
pub putting-more : (first : ℕ) (units : List ℕ) (u : ℕ) → Putting first units u → first ≤ u → u - first < length units → Putting first (set units (u - first) u) (u + 1)
putting-more first units u h l m =
    let e : u + 1 - first ≡ u - first + 1 = omega arith in
    let d : first + (u - first) ≡ u = omega arith in
    record { list = rw (e, range_last first (u - first), d, add-one (u - first), take-suc-set units (u - first) u m, h.list) refl }

-- all
pub putting-all : (first past : ℕ) (units : List ℕ) (u : ℕ) → Putting first units u → u ≡ past → take (past - first) units ≡ range first (past - first)
putting-all first past units u h e = rw (← e) h.list

-- a write behind the first n of a list, put back there
pub put-behind : (units front : List ℕ) (n m : ℕ) → n ≤ length units → m ≤ length front → (xs : List ℕ) → take m front ≡ xs
    → take (n + m) (take n units ++ (front ++ drop (length units - n) (drop n units))) ≡ take n units ++ xs
put-behind units front n m l k xs e =
    let ys : List ℕ = front ++ drop (length units - n) (drop n units) in
    let c : length (take n units) ≡ n = length-take-le n units l in
    take-add n m (take n units ++ ys) ∙ rw (take_at (take n units) ys n c, drop_at (take n units) ys n c)
    (ap (λ (zs : List ℕ). take n units ++ zs) (take-append-le m front _ k ∙ e))

-- ---- a write's units

-- the units that a write touches, by the first of them and how many they are
module _ (c : Change) (some' : 0 < length c.bytes) where
  -- the first
  abbrev first : ℕ
  first = c.offset / 65536

  -- how many
  abbrev many : ℕ
  many = begun (change_end c) 65536 - c.offset / 65536

  -- they are consecutive
  touched-range : touched_units c ≡ range first many
  unfolding touched_units change_end
  touched-range = units_of-some c.offset (c.offset + length c.bytes) (omega (arith, some'))

  -- a unit before the first is none of them
  not-touched : (t : ℕ) → t < first → member t (range first many) ≡ false
  not-touched t l =
      test-cases (member t (range first many) ≡ false) (member t (range first many))
      (λ m. let b = member-range-in t first many m in absurd (omega (arith, l, b.0))) (λ m. m)

  -- the tail of a file that grows is none behind them
  tail_within : c.old_size < c.new_size → c.new_size ≡ max c.old_size (change_end c) → c.old_size / 65536 < first + many
  tail_within l e = omega (arith, l, e)

  -- the old tail, as a test of the change
  abbrev tail_first : Bool
  tail_first = tail_before c.old_size c.new_size first

  -- the units are the old tail, or none, before those
  split : (front : List ℕ) → (pick ltb c.old_size c.new_size then filter (λ u. not (member u (touched_units c))) (partial_tail c.old_size) else []) ≡ front → write_units c ≡ front ++ range first many
  unfolding write_units
  split front e = rw (e, touched-range) refl

  -- the old tail before them
  pub units-tail : true ≡ tail_first → write_units c ≡ c.old_size / 65536 ∷ range first many
  unfolding partial_tail filter
  units-tail t =
      let tail : ℕ = c.old_size / 65536 in
      let w = tail-parts c.old_size c.new_size first (sym t) in
      let g : ltb c.old_size c.new_size ≡ true = lt-ltb c.old_size c.new_size w.0 in
      let z : eqb (c.old_size % 65536) 0 ≡ false = ne_eqb (c.old_size % 65536) 0 w.1 in
      let l : tail < first = w.2 in
      let p : not (member tail (touched_units c)) ≡ true = rw touched-range (ap not (not-touched tail l)) in
      let P : ℕ → Bool = λ u. not (member u (touched_units c)) in
      split (tail ∷ [])
      (if-true (ltb c.old_size c.new_size) (filter P (partial_tail c.old_size)) [] g ∙ ap (filter P) (if-false (eqb (c.old_size % 65536) 0) [] (tail ∷ []) z) ∙ filter-yes P tail [] p)

  -- no old tail before them
  pub units-bare : c.new_size ≡ max c.old_size (change_end c) → false ≡ tail_first → write_units c ≡ range first many
  unfolding partial_tail filter
  units-bare e f =
      let tail : ℕ = c.old_size / 65536 in
      let P : ℕ → Bool = λ u. not (member u (touched_units c)) in
      let front : List ℕ = pick ltb c.old_size c.new_size then filter P (partial_tail c.old_size) else [] in
      split []
      (test-cases (front ≡ []) (ltb c.old_size c.new_size)
      (λ g. if-true (ltb c.old_size c.new_size) (filter P (partial_tail c.old_size)) [] g
      ∙ test-cases (filter P (partial_tail c.old_size) ≡ []) (eqb (c.old_size % 65536) 0)
      (λ z. ap (filter P) (if-true (eqb (c.old_size % 65536) 0) [] (tail ∷ []) z))
      (λ z. let n : ltb tail first ≡ false = sym (f ∙ rw (g, z) refl) in
      let m : member tail (range first many) ≡ true = member-range-of tail first many (ltb-false tail first n) (tail_within (ltb-true c.old_size c.new_size g) e) in
      ap (filter P) (if-false (eqb (c.old_size % 65536) 0) [] (tail ∷ []) z) ∙ filter-no P tail [] (rw touched-range (ap not m))))
      (λ g. if-false (ltb c.old_size c.new_size) (filter P (partial_tail c.old_size)) [] g))

  -- there is one
  pub touched-some : 0 < many
  unfolding change_end
  touched-some = omega (arith, some')

  -- there are at most 17: 16 units have 1,048,576 bytes
  pub touched-few : length c.bytes ≤ 1048576 → many ≤ 17
  unfolding change_end
  touched-few l = omega (arith, l)

  -- each begins before the file's new end
  pub touched-within : change_end c ≤ c.new_size → (u : ℕ) → u < first + many → u * 65536 < c.new_size
  unfolding change_end
  touched-within l u m = omega (arith, l, m, some')

-- the units of a write: f and k are the first that it touches and how many they are
pub data Shape (c : Change) (f k : ℕ) : Type 0 where
  -- those alone
  bare : write_units c ≡ range f k → Shape c f k
  -- the old tail before them: the file ended inside it, and nothing of the file was between it and the first that is touched
  tailed : write_units c ≡ c.old_size / 65536 ∷ range f k → c.old_size / 65536 < f → c.old_size < f * 65536 → (c.old_size % 65536 ≡ 0 → ⊥) → c.old_size < c.new_size → Shape c f k

-- each write has one of the two shapes
pub write_shape : (c : Change) → 0 < length c.bytes → c.new_size ≡ max c.old_size (change_end c)
    → Shape c (c.offset / 65536) (begun (change_end c) 65536 - c.offset / 65536)
write_shape c s e =
    let first : ℕ = c.offset / 65536 in
    test-cases (Shape c first (begun (change_end c) 65536 - first)) (tail_before c.old_size c.new_size first)
    (λ t. let w = tail-parts c.old_size c.new_size first t in tailed (units-tail c s (sym t)) w.2 (omega (arith, w.2)) w.1 w.0)
    (λ t. bare (units-bare c s e (sym t)))

-- a range ascends
ascending-range : (f k : ℕ) → ascending ltb (range f k) ≡ true
ascending-range f k =
    let e : length (range f k) ≡ k = length-range f k in
    ascending-of ltb (range f k) 0
    (λ i l. lt-ltb (get_or (range f k) i 0) (get_or (range f k) (suc i) 0) (rw (get_or-range f k i 0 (omega arith), get_or-range f k (suc i) 0 (omega arith)) (omega arith)))

-- so does one with a number before it
ascending-before : (t f k : ℕ) → t < f → ascending ltb (t ∷ range f k) ≡ true
unfolding range neighbours
ascending-before t f zero l = refl
ascending-before t f (suc k) l = ascending-cons t f (range (suc f) k) l (ascending-range f (suc k))

module _ (c : Change) (some' : 0 < length c.bytes) (new : c.new_size ≡ max c.old_size (change_end c)) where
  -- a write's units ascend
  pub write-ascending : ascending ltb (write_units c) ≡ true
  write-ascending = go (write_shape c some' new)
    where
      go : {f k : ℕ} → Shape c f k → ascending ltb (write_units c) ≡ true
      go {f} {k} (bare e) = rw e (ascending-range f k)
      go {f} {k} (tailed e l m n o) = rw e (ascending-before (c.old_size / 65536) f k l)

  -- each begins before the file's new end
  pub write-within : Each (λ u. u * 65536 < c.new_size) (write_units c)
  write-within = go (write_shape c some' new)
    where
      touched : Each (λ u. u * 65536 < c.new_size) (range (c.offset / 65536) (begun (change_end c) 65536 - c.offset / 65536))
      touched = each_weaken (λ u h. touched-within c some' (omega (arith, new)) u h.1) (each-range (c.offset / 65536) (begun (change_end c) 65536 - c.offset / 65536))

      go : Shape c (c.offset / 65536) (begun (change_end c) 65536 - c.offset / 65536) → Each (λ u. u * 65536 < c.new_size) (write_units c)
      go (bare e) = rw e touched
      go (tailed e l m n o) = rw e (each_more {x = c.old_size / 65536} (omega (arith, o)) touched)

-- ---- what the code writes down

module _ (c : Change) (old new start len : ℕ) (h : IsChange c old new start len) where
  -- the old tail, where it comes first, then the units that are touched
  pub wrote : (front xs : List ℕ) → 0 < len → new ≡ max old (start + len) → front ≡ tail_units old new (start / 65536)
      → xs ≡ front ++ range (start / 65536) ((start + len + 65535) / 65536 - start / 65536) → xs ≡ write_units c
  unfolding change_end
  wrote front xs s m f e =
      let w : 0 < length c.bytes = rw h.written s in
      let m' : c.new_size ≡ max c.old_size (change_end c) = rw (h.old, h.new, h.from, h.written) m in
      let ys : List ℕ = range (start / 65536) ((start + len + 65535) / 65536 - start / 65536) in
      test-cases (xs ≡ write_units c) (tail_before old new (start / 65536))
      (λ t. let t' : true ≡ tail_before c.old_size c.new_size (c.offset / 65536) = rw (h.old, h.new, h.from) (sym t) in
      let u : write_units c ≡ old / 65536 ∷ ys = units-tail c w t' ∙ rw (h.old, h.from, h.written) refl in
      e ∙ ap (λ (zs : List ℕ). zs ++ ys) (f ∙ tail-first old new (start / 65536) t) ∙ sym u)
      (λ t. let t' : false ≡ tail_before c.old_size c.new_size (c.offset / 65536) = rw (h.old, h.new, h.from) (sym t) in
      let u : write_units c ≡ ys = units-bare c w m' t' ∙ rw (h.from, h.written) refl in
      e ∙ ap (λ (zs : List ℕ). zs ++ ys) (f ∙ sym (tail_none old new (start / 65536) t)) ∙ sym u)

  -- a grow of a file whose tail is whole
  pub grew_none : (units : List ℕ) → old % 65536 ≡ 0 → take 0 units ≡ grow_units c
  unfolding grow_units partial_tail
  grew_none units e = rw h.old (sym (if-true (eqb (old % 65536) 0) [] (old / 65536 ∷ []) (eq-eqb (old % 65536) 0 e)))

  -- of one whose tail is partial
  pub grew-tail : (units : List ℕ) → (old % 65536 ≡ 0 → ⊥) → 0 < length units → take 1 (set units 0 (old / 65536)) ≡ grow_units c
  unfolding grow_units partial_tail
  grew-tail units n l =
      rw h.old (take-suc-set units 0 (old / 65536) l ∙ sym (if-false (eqb (old % 65536) 0) [] (old / 65536 ∷ []) (ne_eqb (old % 65536) 0 n)))
