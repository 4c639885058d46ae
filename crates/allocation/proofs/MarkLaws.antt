-- Laws of the map with the blocks of a unit set in it, and of a call's units one after another.
-- Assumes nothing.
use mathlib.Core.Path.{◌≡◌, refl, sym, ap, ◌∙◌}
use mathlib.Core.List.{List, [], ◌∷◌, ◌++◌}
use mathlib.Core.Bool.{Bool, true, ◌||◌, or_assoc, or-false, or-true}
use Prim.Native.Nat.{ℕ, zero, suc, ◌+◌, ◌*◌, ◌≤◌, ◌<◌}
use native.Mathlib.Numerals.{add-one}
use native.Mathlib.Omega.{arith}
use lib.Dec.{eqb}
use lib.ListN.{length, take, get_or}
use lib.Seq.{take-suc}
use borrow.Author.Tests.{ne_eqb, eq-eqb}
use Rattle.rules.specs.Lists.{member}
use Rattle.rules.specs.Bytes.{bit_set}
use Rattle.rules.proofs.ListLaws.{order-cases, member-append, maybe-none}
use Rattle.rules.proofs.CountLaws.{member-cons, member-nil}
use Rattle.bitmap.specs.Map.{with_bits}
use Rattle.bitmap.proofs.MapLaws.{length-with_bits, bit_set-inside, bit_set-before, bit_set-after}
use Rattle.rules.specs.Allocation.{allocate_data, highest}
use Rattle.rules.proofs.AllocationLaws.{highest-no}
use Rattle.allocation.specs.Search.{held}
use Rattle.allocation.specs.Carried.{past_highest, Carried, Allocates, Marked}
use Rattle.allocation.specs.declared.Allocated.{Allocated}

-- no block is set
pub marked-none : (map bs : List ℕ) → Marked map (take 0 bs) map
marked-none map bs = record { places = refl; bits = λ b l. sym (ap (λ (t : Bool). bit_set map b || t) (member-nil b) ∙ or-false (bit_set map b)) }

-- one more is set
pub marked_more : (map after next a : List ℕ) (i : ℕ) → i < length a → get_or a i 0 < 8 * length map → Marked map (take i a) after → next ≡ with_bits true after (get_or a i 0) (get_or a i 0 + 1) → Marked map (take (i + 1) a) next
marked_more map after next a i l w m e =
    record {
      places = ap length e ∙ length-with_bits true after (get_or a i 0) (get_or a i 0 + 1) ∙ m.places;
      bits = λ b k. bit b k;
    }
  where
    x : ℕ
    x = get_or a i 0

    new : (b : ℕ) → member b (take (i + 1) a) ≡ (member b (take i a) || eqb b x)
    new b =
        rw (add-one i, take-suc a i 0 l)
        (member-append b (take i a) (get_or a i 0 ∷ []) ∙ ap (λ (t : Bool). member b (take i a) || t) (member-cons b (get_or a i 0) [] ∙ rw (member-nil b) (or-false (eqb b (get_or a i 0)))))

    bit : (b : ℕ) → b < 8 * length map → bit_set next b ≡ (bit_set map b || member b (take (i + 1) a))
    bit b k =
        let p : length after ≡ length map = m.places in
        let u : bit_set after b ≡ (bit_set map b || member b (take i a)) = m.bits b k in
        rw (e, new b, ← or_assoc (bit_set map b) (member b (take i a)) (eqb b x), ← u)
        (order-cases (bit_set (with_bits true after x (x + 1)) b ≡ (bit_set after b || eqb b x)) b x
        (λ q. bit_set-before true after x (x + 1) b (omega arith) q ∙ sym (rw (ne_eqb b x (λ d. omega arith)) (or-false (bit_set after b))))
        (λ q. bit_set-inside true after x (x + 1) b (omega arith) (omega arith) (omega arith) ∙ sym (rw (eq-eqb b x q) (or-true (bit_set after b))))
        (λ q. bit_set-after true after x (x + 1) b (omega arith) (omega arith) ∙ sym (rw (ne_eqb b x (λ d. omega arith)) (or-false (bit_set after b)))))

-- ---- a call's units

-- no block was taken in any group
past-nothing : (blocks g : ℕ) → past_highest blocks [] g ≡ 0
unfolding past_highest
past-nothing blocks g = maybe-none 0 suc (highest blocks [] g) (highest-no blocks [] g (λ b p q. member-nil b))

-- a call that has taken no block: the used map itself, and no cursors
pub carried_none : (blocks : ℕ) (used : ℕ → Bool) (map : List ℕ) → ((b : ℕ) → b < blocks → bit_set map b ≡ used b) → Carried blocks used [] map (0 ∷ 0 ∷ 0 ∷ 0 ∷ [])
carried_none blocks used map h =
    record {
      bits = λ b l. h b l ∙ sym (ap (λ (t : Bool). used b || t) (member-nil b) ∙ or-false (used b));
      places = refl;
      highs = λ g l. four g ∙ sym (past-nothing blocks g);
    }
  where
    four : (g : ℕ) → get_or {A = ℕ} (0 ∷ 0 ∷ 0 ∷ 0 ∷ []) g 0 ≡ 0
    four zero = refl
    four (suc zero) = refl
    four (suc (suc zero)) = refl
    four (suc (suc (suc zero))) = refl
    four (suc (suc (suc (suc g)))) = refl

-- after a unit: the blocks it was given are taken too
pub carried-more : (blocks : ℕ) (used : ℕ → Bool) (hint : ℕ) (taken : List ℕ) (want : ℕ) (map past after : List ℕ) (r : Allocated) → blocks ≤ 8 * length map
    → Carried blocks used taken map past → Allocates blocks used hint taken want r → Marked map (held r.taken) after → Carried blocks used (taken ++ allocate_data blocks used hint taken want) after r.cursors.past
carried-more blocks used hint taken want map past after r n c a m =
    let new : List ℕ = allocate_data blocks used hint taken want in
    record {
      bits = λ b l. m.bits b (omega arith) ∙ rw (c.bits b l, a.given, member-append b taken new) (or_assoc (used b) (member b taken) (member b new));
      places = a.places;
      highs = a.highs;
    }
