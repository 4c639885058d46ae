-- A list of stretches leaves out nothing but zeros: a unit that no pair lists has no slot, so that reading it finds a hole, and the plain array has zeros
-- there. Demand 3's claim of W-206.
-- Assumes nothing.
use mathlib.Core.Path.{◌≡◌, refl, sym, ap, ◌∙◌, subst}
use mathlib.Core.List.{List}
use mathlib.Core.Bool.{Bool, true, false}
use mathlib.Core.Option.{Option, none, some}
use Prim.Native.Nat.{ℕ, ◌+◌, ◌*◌, ◌≤◌, ◌<◌}
use native.Mathlib.Omega.{arith}
use lib.Dec.{ltb, leb}
use lib.ListN.{length, drop_of_length-le}
use borrow.Author.Tests.{ltb-true, ltb-false, lt-ltb, leb-true, leb-false}
use Rattle.rules.specs.Lists.{pick◌then◌else◌, given, all, any, member}
use Rattle.rules.specs.Sizes.{unit_bytes}
use Rattle.rules.specs.Bytes.{part, all_zero}
use Rattle.rules.specs.Card.{Card}
use Rattle.rules.specs.Store.{Store, Volume, decode, card_of}
use Rattle.rules.specs.Refusal.{Outcome, number_of, result}
use Rattle.rules.specs.Refusal.Refusal.{no_card, no_checksum}
use Rattle.rules.specs.Refusal.Outcome.{refuse}
use Rattle.rules.specs.Inspect.{Inspected, checksum_of, backed_under, inspect_slot, inspect_unit}
use Rattle.rules.specs.Inspect.Inspected.{damaged, hole}
use Rattle.rules.specs.Arguments.{with_card}
use Rattle.rules.specs.Stretches.{Stretch, holds_data, stretches_of, most_number, range_wrong, list_stretches, stretches_file, stretches_outcome, lies_in}
use Rattle.rules.specs.Call.{call}
use Rattle.rules.specs.Call.Look.{data_stretches}
use Rattle.rules.specs.Call.Call.{look}
use Rattle.rules.specs.Plain.{File, file_bytes}
use Rattle.rules.specs.Demand.{PlainStretches, pairs_given, never_numbers}
use Rattle.rules.proofs.ListLaws.{test-cases, clash, and_right, and_intro, or-none-left, maybe-cases, maybe-none, given-some, each_none, each_more, each_weaken}
use Rattle.rules.proofs.CountLaws.{any-count, any_none}
use Rattle.rules.proofs.ByteLaws.{all_zero-replicate}
use Rattle.rules.proofs.StretchLaws.{stretches-right, stretches-within, decode-stretches}
use Rattle.rules.proofs.PassLaws.{Passes}
use Rattle.rules.proofs.OutcomeLaws.{first_of-cases, accepted-cases, never-zero, goes_on}
use Rattle.history.proofs.HistoryLaws.{Never}
use Rattle.history.proofs.ReadLaws.{UnitIs, is-hole, FileIs, AllKnown}

-- ---- a unit with no slot

-- nothing stands there
given-none : {A : Type 0} (o : Option A) → given o ≡ false → o ≡ none
unfolding given
given-none none e = refl
given-none (some x) e = absurd (clash e refl)

-- bytes that reading a unit without a slot finds are zeros, for it is a hole or damaged
bare-zero : {xs : List ℕ} (b : Bool) → UnitIs xs (pick b then damaged no_checksum else hole) → all_zero xs ≡ true
unfolding pick◌then◌else◌
bare-zero true u = elim u [ ]
bare-zero {xs} false (is-hole e) = ap all_zero e ∙ all_zero-replicate (length xs)

-- so are those of a file's unit, where it starts before the end; past it there are none
module _ (v : Volume) (object : ℕ) (xs : List ℕ) (h : FileIs v object xs) (u : ℕ) where
  unit-zero : checksum_of v object u ≡ none → u * unit_bytes < length xs → all_zero (part (u * unit_bytes) unit_bytes xs) ≡ true
  unfolding inspect_unit
  unit-zero e l =
      let d : Inspected = pick backed_under v object u then damaged no_checksum else hole in
      bare-zero (backed_under v object u) (subst (UnitIs (part (u * unit_bytes) unit_bytes xs)) (maybe-none d (inspect_slot v object (length xs) u) (checksum_of v object u) e) (h u l))

  past-zero : length xs ≤ u * unit_bytes → all_zero (part (u * unit_bytes) unit_bytes xs) ≡ true
  unfolding part all_zero all
  past-zero l = rw (drop_of_length-le xs l) refl

-- ---- the call

module _ (files : List File) (s : Store) (known : AllKnown files (decode s)) (object first units : ℕ) (out : List ℕ) where
  -- what is claimed of an outcome
  abbrev Skips : Outcome → Type 0
  Skips o = (result s out o).number ≡ 0 → PlainStretches files object first units (result s out o)

  -- the pairs that are listed can be read from the buffer again
  given-pairs : (c : Card) → first + units ≤ most_number → pairs_given (result s out (list_stretches s out (stretches_of (decode s) c first units))) ≡ stretches_of (decode s) c first units
  unfolding pairs_given list_stretches result
  given-pairs c l = decode-stretches _ (each_weaken (λ r m. omega (arith, l, m)) (stretches-within (decode s) c first units))

  -- a unit that lies in none of them does not hold data
  holds_not : (c : Card) (u : ℕ) → first ≤ u → u < first + units → any (lies_in u) (stretches_of (decode s) c first units) ≡ false → holds_data (decode s) c u ≡ false
  holds_not c u l m n = test-cases (holds_data (decode s) c u ≡ false) (holds_data (decode s) c u)
      (λ t. absurd (clash n (any-count (lies_in u) _ ∙ ap (ltb 0) ((stretches-right (decode s) c first units).each u l m t)))) (λ t. t)

  -- and one that lies in one does, and is in the range
  holds-all : (c : Card) (u : ℕ) → any (lies_in u) (stretches_of (decode s) c first units) ≡ true → (first ≤ u) × (u < first + units) × (holds_data (decode s) c u ≡ true)
  holds-all c u t =
      let right = stretches-right (decode s) c first units in
      let none : (first ≤ u → u < first + units → holds_data (decode s) c u ≡ true → ⊥) → ⊥ = λ n. clash (any_none (lies_in u) _ (right.other u n)) t in
      test-cases _ (leb first u) (λ l. test-cases _ (ltb u (first + units)) (λ m. test-cases _ (holds_data (decode s) c u)
      (λ e. (leb-true first u l, ltb-true u (first + units) m, e))
      (λ e. absurd (none (λ a b k. clash e k))))
      (λ m. absurd (none (λ a b k. omega (arith, ltb-false u (first + units) m, b)))))
      (λ l. absurd (none (λ a b k. omega (arith, leb-false first u l, a))))

  -- the pairs of a file
  file-skips : (c : Card) → card_of (decode s) object ≡ some c → first + units ≤ most_number → PlainStretches files object first units (result s out (list_stretches s out (stretches_of (decode s) c first units)))
  unfolding given holds_data
  file-skips c q l = record {
    bytes = k.0;
    known = k.1;
    holes = λ u a b n. zeros u (holds_not c u a b (ap (any (lies_in u)) (sym (given-pairs c l)) ∙ n));
    within = λ u t. let h = holds-all c u (ap (any (lies_in u)) (sym (given-pairs c l)) ∙ t) in (h.0, h.1, before u h.2);
  }
    where
      k : (xs : List ℕ) × (file_bytes files object ≡ some xs)
      k = given-some (file_bytes files object) ((known object).0 ∙ ap given q)

      is : (c.size ≡ length k.0) × FileIs (decode s) c.object k.0
      is = (known object).1 k.0 k.1 c q

      before : (u : ℕ) → holds_data (decode s) c u ≡ true → u * unit_bytes < length k.0
      before u t = let m = ltb-true (u * unit_bytes) c.size (and_right (given (checksum_of (decode s) c.object u)) _ t) in omega (arith, m, is.0)

      slotless : (u : ℕ) → holds_data (decode s) c u ≡ false → u * unit_bytes < c.size → checksum_of (decode s) c.object u ≡ none
      slotless u n m = given-none (checksum_of (decode s) c.object u) (test-cases _ (given (checksum_of (decode s) c.object u)) (λ t. absurd (clash n (and_intro _ _ t (lt-ltb (u * unit_bytes) c.size m)))) (λ t. t))

      zeros : (u : ℕ) → holds_data (decode s) c u ≡ false → all_zero (part (u * unit_bytes) unit_bytes k.0) ≡ true
      zeros u n = test-cases _ (ltb (u * unit_bytes) c.size)
          (λ t. let m = ltb-true (u * unit_bytes) c.size t in unit-zero (decode s) c.object k.0 is.1 u (slotless u n m) (omega (arith, m, is.0)))
          (λ t. let m = ltb-false (u * unit_bytes) c.size t in past-zero (decode s) c.object k.0 is.1 u (omega (arith, m, is.0)))

  -- refusals 3 and 19, and the pairs
  skips : Skips (with_card (decode s) object (stretches_file first units s out))
  unfolding with_card stretches_file range_wrong
  skips = maybe-cases Skips (refuse no_card) (stretches_file first units s out) (card_of (decode s) object)
      (λ q e. absurd (never-zero s out no_card e))
      (λ c q. accepted-cases s out (λ o. PlainStretches files object first units (result s out o)) _ _ (λ n e. file-skips c q (in-range (stretches_of (decode s) c first units) n.0)))
    where
      in-range : (rs : List Stretch) → range_wrong first units rs out ≡ false → first + units ≤ most_number
      in-range rs n = ltb-false most_number (first + units) (or-none-left (ltb most_number (first + units)) _ n)

  module _ (p : Passes s) where
    -- what every accepted list of stretches leaves out is zeros
    pub stretches-plain : (call (look (data_stretches object first units out)) s).number ≡ 0 → PlainStretches files object first units (call (look (data_stretches object first units out)) s)
    unfolding call stretches_outcome
    stretches-plain = rw (goes_on s (with_card (decode s) object (stretches_file first units s out)) p) skips

-- and none is refused with "2, 9 to 12 and 14"
pub stretches-never : (s : Store) (p : Passes s) (object first units : ℕ) (out : List ℕ) → member (call (look (data_stretches object first units out)) s).number never_numbers ≡ false
unfolding call stretches_outcome with_card stretches_file list_stretches result number_of member any
stretches-never s p object first units out =
    rw (goes_on s (with_card (decode s) object (stretches_file first units s out)) p)
    (maybe-cases (Never s out) (refuse no_card) (stretches_file first units s out) (card_of (decode s) object) (λ q. refl)
    (λ c q. first_of-cases (Never s out) _ (each_more (λ h. refl) each_none) (λ n. refl)))
