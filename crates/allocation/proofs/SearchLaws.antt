-- Laws of the search in a run of the map: whole words passed over, the next clear bit, and the clear bits taken one after another.
-- Assumes nothing.
use mathlib.Core.Path.{◌≡◌, refl, sym, ap, ◌∙◌}
use mathlib.Core.List.{List, [], ◌∷◌, ◌++◌, append_assoc, append-nil}
use mathlib.Core.Bool.{true, false, not}
use Prim.Native.Nat.{ℕ, zero, suc, ◌+◌, ◌-◌, ◌*◌, ◌/◌, ◌%◌, ◌≤◌, ◌<◌}
use native.Mathlib.Numerals.{add-one}
use native.Mathlib.Omega.{arith}
use lib.Dec.{ltb}
use lib.ListN.{length, take}
use lib.Seq.{length-take-le, take_at, take_all}
use borrow.Author.Tests.{ltb-true, ltb-false}
use Rattle.rules.specs.Lists.{range, filter}
use Rattle.rules.specs.Bytes.{Bytes, bit_set, le, part}
use Rattle.rules.proofs.ListLaws.{test-cases, filter-yes, filter-append, each_weaken}
use Rattle.rules.proofs.CountLaws.{filter-nothing, range_split, range-first, range_none, each-range}
use Rattle.std.specs.Prelude.{Option, Some, None, MatchOption}
use Rattle.std.specs.Option.{unwrap_or}
use Rattle.std.specs.Bool.{then_some}
use Rattle.bitmap.specs.Map.{bit_of, Next, NextBefore}
use Rattle.bitmap.proofs.MapLaws.{word-bit}
use Rattle.bitmap.proofs.BitLaws.{bit_not, bit-zero}
use Rattle.runs.specs.Runs.{clear}
use Rattle.allocation.specs.Search.{clear_bits, Skipped, held, Room, Collected}
use Rattle.allocation.specs.declared.taken.Taken.{Taken}

-- ---- clear bits

-- what was passed over holds no clear bit
clear-passed : (map : List ℕ) (a e r : ℕ) → Next map false a e r → clear_bits map a e ≡ clear_bits map r e
unfolding clear_bits
clear-passed map a e r h =
    let p : a ≤ r = h.least in
    let q : r ≤ e = h.most in
    let none : filter (clear map) (range a (r - a)) ≡ [] =
    filter-nothing (clear map) (each_weaken {P = λ k. (a ≤ k) × (k < a + (r - a))} (λ k l. unfold clear in rw (h.before k l.0 (omega arith)) refl) (each-range a (r - a))) in
    ap (filter (clear map)) (range_split a r e p (omega arith))
    ∙ filter-append (clear map) (range a (r - a)) (range r (e - r))
    ∙ ap (λ (t : List ℕ). t ++ filter (clear map) (range r (e - r))) none

-- the next clear bit is the first of a run's
pub next-found : (map : List ℕ) (a e r : ℕ) → Next map false a e r → r < e → clear_bits map a e ≡ r ∷ clear_bits map (r + 1) e
next-found map a e r h l =
    clear-passed map a e r h
    ∙ rw (add-one r)
    (unfold clear_bits in rw (range-first r e l) (filter-yes (clear map) r (range (suc r) (e - suc r)) (unfold clear in rw (h.found l) refl)))

-- a run without one has none
pub next-nothing : (map : List ℕ) (a e r : ℕ) → Next map false a e r → r ≡ e → clear_bits map a e ≡ []
next-nothing map a e r h l =
    clear-passed map a e r h ∙ (unfold clear_bits in rw (range_none r (e - r) (omega arith)) (unfold filter in refl))

-- what was passed over is passed over
pub next-skipped : (map : List ℕ) (a e n r : ℕ) → Skipped map a e n → Next map false n e r → Next map false a e r
next-skipped map a e n r s h =
    let p : a ≤ n = s.least in
    let q : n ≤ r = h.least in
    record {
      least = omega arith;
      most = h.most;
      before = λ k u v. test-cases (bit_set map k ≡ true) (ltb k n) (λ t. s.before k u (ltb-true k n t)) (λ t. h.before k (ltb-false k n t) v);
      found = h.found;
    }

-- nothing has been passed over
pub skipped-none : (map : List ℕ) (a e : ℕ) → a ≤ e → Skipped map a e a
skipped-none map a e l = record { least = omega arith; most = l; before = λ k p q. absurd (omega arith) }

-- a word of ones is
pub skipped-word : (map : List ℕ) (a e n w : ℕ) → Bytes map → Skipped map a e n → n % 8 ≡ 0 → n + 64 ≤ e → w ≡ le (part (n / 8) 8 map) → w ≡ 0xffffffffffffffff → Skipped map a e (n + 64)
skipped-word map a e n w b s z l d f =
    let p : a ≤ n = s.least in
    record {
      least = omega arith;
      most = l;
      before = λ k u v. test-cases (bit_set map k ≡ true) (ltb k n) (λ t. s.before k u (ltb-true k n t))
          (λ t. let q : n ≤ k = ltb-false k n t in
          let i : n + (k - n) ≡ k = omega arith in
          ap (bit_set map) (sym i) ∙ sym (word-bit map n w (k - n) d z b (omega arith)) ∙ ap (λ (x : ℕ). bit_of x (k - n)) f ∙ one (k - n) (omega arith));
    }
  where
    one : (j : ℕ) → j < 64 → bit_of 0xffffffffffffffff j ≡ true
    one j m = bit_not 64 0 j (omega arith) m ∙ ap not (bit-zero j)

-- and the next clear bit, or none
pub next_free : (map : List ℕ) (a e n p : ℕ) (r : Option ℕ) → Skipped map a e n → Next map false n e p → r ≡ then_some (ltb p e) p → NextBefore map false a e r
next_free map a e n p r s h q =
    let f : Next map false a e p = next-skipped map a e n p s h in
    let m : p ≤ e = f.most in
    test-cases (NextBefore map false a e r) (ltb p e)
    (λ t. rw (q, t) (ltb-true p e t, f))
    (λ t. let d : p ≡ e = let l : e ≤ p = ltb-false p e t in omega arith in rw (q, t) (rw d at f))

-- words of ones are
skipped_words : (map : List ℕ) (a e n : ℕ) → Bytes map → a % 8 ≡ 0 → a + 64 * n ≤ e → ((k : ℕ) → k < n → le (part ((a + 64 * k) / 8) 8 map) ≡ 0xffffffffffffffff) → Skipped map a e (a + 64 * n)
skipped_words map a e n b z l f = record { least = omega arith; most = l; before = λ k u v. bit ((k - a) / 64) ((k - a) % 64) k (omega arith) (omega arith) (omega arith) }
  where
    bit : (i j k : ℕ) → i < n → j < 64 → a + 64 * i + j ≡ k → bit_set map k ≡ true
    bit i j k u v e =
        ap (bit_set map) (sym e)
        ∙ sym (word-bit map (a + 64 * i) (le (part ((a + 64 * i) / 8) 8 map)) j refl (omega arith) b v)
        ∙ ap (λ (x : ℕ). bit_of x j) (f i u)
        ∙ bit_not 64 0 j (omega arith) v ∙ ap not (bit-zero j)

-- up to the first word that is none of ones, or all of so many
pub skipped_first : (map : List ℕ) (a e n x : ℕ) (r : Option ℕ) → Bytes map → a % 8 ≡ 0 → a + 64 * n ≤ e → x ≡ unwrap_or r n
    → MatchOption r ((k : ℕ) → 0 ≤ k → k < n → le (part ((a + 64 * k) / 8) 8 map) ≡ 0xffffffffffffffff)
    (λ i. (0 ≤ i) × (i < n) × Unit {0} × ((k : ℕ) → 0 ≤ k → k < i → le (part ((a + 64 * k) / 8) 8 map) ≡ 0xffffffffffffffff))
    → (x ≤ n) × Skipped map a e (a + 64 * x)
skipped_first map a e n x None b z l q h = (omega arith, rw q (skipped_words map a e n b z l (λ k o. h k (omega arith) o)))
skipped_first map a e n x (Some i) b z l q h = (omega (arith, h.1), rw q (skipped_words map a e i b z (omega (arith, h.1)) (λ k o. h.3 k (omega arith) o)))

-- ---- a run of the map

-- the front of a list that goes on with its own front
pub take_again : (n : ℕ) (xs ws : List ℕ) → take n (take n xs ++ ws) ≡ take n (xs ++ ws)
take_again zero xs ws = refl
take_again (suc n) [] ws = refl
take_again (suc n) (x ∷ xs) ws = ap (λ (t : List ℕ). x ∷ t) (take_again n xs ws)

-- as many are held as are counted
pub held-count : (t : Taken) → length (held t) ≡ t.count
held-count t =
    let f : t.count ≤ 16 = t.fits in
    let p : length t.blocks ≡ 16 = t.places in
    length-take-le t.count t.blocks (omega arith)

-- what is still to be collected of a run, with what is held, makes what was to be collected at first
pub record Running (map : List ℕ) (want : ℕ) (ys : List ℕ) (from end : ℕ) (t : Taken) (at' : ℕ) : Type 0 where
  pub inside : at' ≤ end
  pub room : Room want t
  pub rest : take want (held t ++ clear_bits map at' end) ≡ take want (ys ++ clear_bits map from end)

module _ (map : List ℕ) (want : ℕ) (from end : ℕ) where
  -- at first
  pub running_none : (t : Taken) → from ≤ end → Room want t → Running map want (held t) from end t from
  running_none t l o = record { inside = l; room = o; rest = refl }

  module _ (ys : List ℕ) (t : Taken) (at' : ℕ) (s : Running map want ys from end t at') where
    -- one more block
    pub running_more : (u : Taken) (p : ℕ) → t.count < want → p < end → Next map false at' end p → held u ≡ held t ++ (p ∷ []) → u.count ≡ t.count + 1 → Running map want ys from end u (p + 1)
    running_more u p m l h d o =
        record {
          inside = omega arith;
          room = record { fits = omega arith; places = u.places };
          rest = rw (d, append_assoc (held t) (p ∷ []) (clear_bits map (p + 1) end)) (ap (λ (v : List ℕ). take want (held t ++ v)) (sym (next-found map at' end p h l)) ∙ s.rest);
        }

    -- as many as wanted
    pub running-full : want ≤ t.count → Collected want ys (clear_bits map from end) t
    running-full l =
        let f : t.count ≤ want = s.room.fits in
        let e : length (held t) ≡ t.count = held-count t in
        record { list = sym (take_at (held t) (clear_bits map at' end) want (omega arith)) ∙ s.rest; room = s.room }

    -- the run's end
    pub running-end : Next map false at' end end → Collected want ys (clear_bits map from end) t
    running-end h =
        let f : t.count ≤ want = s.room.fits in
        let e : length (held t) ≡ t.count = held-count t in
        record {
          list = sym (ap (λ (v : List ℕ). take want (held t ++ v)) (next-nothing map at' end end h refl) ∙ ap (take want) (append-nil (held t)) ∙ take_all want (held t) (omega arith)) ∙ s.rest;
          room = s.room;
        }
