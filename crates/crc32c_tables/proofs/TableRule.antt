-- The rule of the tables, by two tests that antt computes: the first 256 entries by the steps of the register, and each later one as eight
-- steps after the one 256 places before it. Those eight steps are looked up in the first 256 entries, which is far less to compute.
-- Assumes nothing.
use mathlib.Core.Path.{◌≡◌, refl, sym, ap, ◌∙◌}
use mathlib.Core.List.{List, [], ◌∷◌}
use mathlib.Core.Bool.{Bool, true, false, ◌&&◌}
use Prim.Native.Nat.{ℕ, zero, suc, ◌+◌, ◌-◌, ◌*◌, ◌/◌, ◌%◌, ◌<◌, ◌≤◌}
use native.Mathlib.Nat.{not-suc-le-zero, le_of_suc-le-suc, add-zero, add-suc, suc-add, zero-add}
use native.Mathlib.Decide.{dec_lt}
use native.Mathlib.Omega.{arith}
use lib.Bits.{bit_xor, xor_comm}
use lib.Dec.{T, eqb, eqb→eq}
use lib.ListN.{length, get_or, take, drop, length-take, length-drop}
use lib.Seq.{get_or-take, get_or-drop}
use Rattle.crc32c_tables.specs.Register.{turns, entry, Tables}
use Rattle.crc32c_tables.proofs.RegisterLaws.{turns-add, turns-entry}

and_left : (a b : Bool) → T (a && b) → T a
and_left true b t = tt
and_left false b t = t

and_right : (a b : Bool) → T (a && b) → T b
and_right true b t = t
and_right false b t = absurd t

-- each is its entry, counted from i
unfoldable pub entries : ℕ → List ℕ → Bool
entries i [] = true
entries i (x ∷ xs) = eqb x (entry i) && entries (suc i) xs

-- each of the second list is that of the first with its low byte looked up in t
unfoldable pub follows : List ℕ → List ℕ → List ℕ → Bool
follows t xs [] = true
follows t [] (y ∷ ys) = false
follows t (x ∷ xs) (y ∷ ys) = eqb y (bit_xor (x / 256) (get_or t (x % 256) 0)) && follows t xs ys

entries_at : (xs : List ℕ) (i : ℕ) → T (entries i xs) → (k : ℕ) → k < length xs → get_or xs k 0 ≡ entry (i + k)
unfolding entries
entries_at [] i t k h = absurd (not-suc-le-zero h)
entries_at (x ∷ xs) i t zero h = eqb→eq x (entry i) (and_left (eqb x (entry i)) (entries (suc i) xs) t) ∙ rw (add-zero i) refl
entries_at (x ∷ xs) i t (suc k) h =
    entries_at xs (suc i) (and_right (eqb x (entry i)) (entries (suc i) xs) t) k (le_of_suc-le-suc h) ∙ rw (suc-add i k, ← add-suc i k) refl

follows-at : (t xs ys : List ℕ) → T (follows t xs ys) → (k : ℕ) → k < length ys → get_or ys k 0 ≡ bit_xor (get_or xs k 0 / 256) (get_or t (get_or xs k 0 % 256) 0)
unfolding follows
follows-at t xs [] p k h = absurd (not-suc-le-zero h)
follows-at t [] (y ∷ ys) p k h = absurd p
follows-at t (x ∷ xs) (y ∷ ys) p zero h = eqb→eq y (bit_xor (x / 256) (get_or t (x % 256) 0)) (and_left (eqb y (bit_xor (x / 256) (get_or t (x % 256) 0))) (follows t xs ys) p)
follows-at t (x ∷ xs) (y ∷ ys) p (suc k) h = follows-at t xs ys (and_right (eqb y (bit_xor (x / 256) (get_or t (x % 256) 0))) (follows t xs ys) p) k (le_of_suc-le-suc h)

-- 256 places on is eight steps on
entry_next : (k : ℕ) → entry (256 + k) ≡ turns 8 (entry k)
unfolding entry
entry_next k =
    let d : (256 + k) / 256 ≡ k / 256 + 1 = omega arith in
    let m : (256 + k) % 256 ≡ k % 256 = omega arith in
    let e : 8 * (k / 256 + 1 + 1) ≡ 8 * (k / 256 + 1) + 8 = omega arith in
    rw (d, m, e) (turns-add (8 * (k / 256 + 1)) 8 (k % 256))

module _ (t : List ℕ) (n : length t ≡ 4096) (f : T (entries 0 (take 256 t))) (l : T (follows t t (drop 256 t))) where
  first : (k : ℕ) → k < 256 → get_or t k 0 ≡ entry k
  first k h =
      let m : k < length (take 256 t) = simp length-take (omega arith) in
      sym (get_or-take 256 t k 0 h) ∙ entries_at (take 256 t) 0 f k m ∙ rw (zero-add k) refl

  -- eight steps by the first table
  looked : (x : ℕ) → bit_xor (x / 256) (get_or t (x % 256) 0) ≡ turns 8 x
  looked x = rw (first (x % 256) (omega arith)) (xor_comm (x / 256) (entry (x % 256)) ∙ sym (turns-entry x))

  next : (j : ℕ) → 256 + j < 4096 → get_or t j 0 ≡ entry j → get_or t (256 + j) 0 ≡ entry (256 + j)
  next j h e =
      let m : j < length (drop 256 t) = simp length-drop (omega arith) in
      sym (get_or-drop 256 t j 0) ∙ follows-at t t (drop 256 t) l j m ∙ looked (get_or t j 0) ∙ ap (turns 8) e ∙ sym (entry_next j)

  -- the first m + 1 tables
  up_to : (m k : ℕ) → k < 256 * suc m → k < 4096 → get_or t k 0 ≡ entry k
  up_to zero k h q = first k (omega arith)
  up_to (suc m) k h q = go (dec_lt k 256) (λ p. up_to m (k - 256) (omega arith) (omega arith))
    where
      go : Dec (k < 256) → (256 ≤ k → get_or t (k - 256) 0 ≡ entry (k - 256)) → get_or t k 0 ≡ entry k
      go (yes p) ih = first k p
      go (no p) ih =
          let b : 256 ≤ k = omega arith in
          let e : 256 + (k - 256) ≡ k = omega arith in
          rw e at (next (k - 256) (omega arith) (ih b))

  -- the tests passed, so the entries are right
  pub is-tables : Tables t
  is-tables = record { holds = λ k h. up_to 15 k h h }
