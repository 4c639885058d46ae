-- Laws of the blocks that do not stay, in the shape in which code counts and assigns them: by one entry more.
-- Assumes nothing.
use mathlib.Core.Path.{◌≡◌, refl, sym, ap, ◌∙◌}
use mathlib.Core.Bool.{Bool, true, false, not, ◌&&◌, cond}
use mathlib.Core.List.{List, [], ◌∷◌, ◌++◌}
use mathlib.Core.Option.{Option, none, some}
use Prim.Native.Nat.{ℕ, zero, suc, ◌+◌, ◌-◌, ◌≤◌, ◌<◌}
use native.Mathlib.Nat.{add-zero}
use native.Mathlib.Numerals.{add-one}
use native.Mathlib.Omega.{arith}
use lib.Dec.{eqb}
use lib.ListN.{length, take, drop, get_or, set, get_or-map, length-append}
use lib.Seq.{length-take-le, take-suc-set, take_all, take-add, drop-cons, drop-nil, get_or-drop}
use mir.Val.{bool_byte}
use borrow.Author.Tests.{ne_eqb}
use Rattle.std.specs.List.{count_by}
use Rattle.std.proofs.lemmas.List.Recursion.{is_count_by}
use Rattle.rules.specs.Lists.{given}
use Rattle.rules.specs.Kept.{wanted, assigned, superseded}
use Rattle.rules.proofs.ListLaws.{count-append}
use Rattle.rules.proofs.KeptLaws.{wanted-some, wanted-none, wanted-most}
use Rattle.mapping.specs.Entries.{entry_of, entries}
use Rattle.kept.specs.Blocks.{superseded_at}
use Rattle.kept.proofs.EntryLaws.{length-entries, entries-append, entries-last, entry-none, entry-some}

-- a test's number
byte : (b : Bool) → bool_byte b ≤ 1
byte true = omega arith
byte false = omega arith

-- ---- how many are wanted

-- of two lists joined
wanted-append : (ks js : List (Option ℕ)) → wanted (ks ++ js) ≡ wanted ks + wanted js
unfolding wanted
wanted-append ks js = count-append (λ (b : Option ℕ). not (given b)) ks js

-- of no entry
wanted-nil : wanted [] ≡ 0
wanted-nil = omega (arith, wanted-most [])

-- one entry that is none
pub missing-one : (e : ℕ) → e ≡ 0 → (1 ≡ wanted (entry_of e ∷ [])) × (1 ≤ 1)
missing-one e q = (rw (entry-none e q, wanted-none [], wanted-nil) refl, omega arith)

-- one that is kept
pub missing-none : (e : ℕ) → (e ≡ 0 → ⊥) → (0 ≡ wanted (entry_of e ∷ [])) × (0 ≤ 1)
missing-none e n = (rw (entry-some e n, wanted-some (e - 1) [], wanted-nil) refl, omega arith)

-- either
pub missing-is : (e r : ℕ) → r ≡ bool_byte (eqb e 0) → (r ≡ wanted (entry_of e ∷ [])) × (r ≤ 1)
missing-is zero r q = rw q (missing-one 0 refl)
missing-is (suc e) r q = rw (q, ne_eqb (suc e) 0 (λ z. omega arith)) (missing-none (suc e) (λ z. omega arith))

-- one more than of the entries before
wanted-last : (xs : List ℕ) (i : ℕ) → i < length xs → wanted (entries (take (i + 1) xs)) ≡ wanted (entries (take i xs)) + wanted (entry_of (get_or xs i 0) ∷ [])
wanted-last xs i l = ap wanted (entries-last xs i l) ∙ wanted-append (entries (take i xs)) (entry_of (get_or xs i 0) ∷ [])

-- they are the zeros among the entries
pub wanted-zeros : (xs : List ℕ) → wanted (entries xs) ≡ count_by (λ e. eqb e 0) xs
unfolding entries
wanted-zeros = is_count_by (λ xs. wanted (entries xs)) (λ e. eqb e 0) wanted-nil step
  where
    step : (e : ℕ) (xs : List ℕ) → wanted (entries (e ∷ xs)) ≡ cond (eqb e 0) (1 + wanted (entries xs)) (wanted (entries xs))
    step zero xs = rw (entry-none 0 refl) (wanted-none (entries xs) ∙ omega arith)
    step (suc e) xs = rw (entry-some (suc e) (λ q. omega arith), ne_eqb (suc e) 0 (λ q. omega arith)) (wanted-some _ (entries xs))

-- ---- where those given go

-- of two lists of entries, each with as many blocks as it wants
assigned-append : (ks js : List (Option ℕ)) (xs ys : List ℕ) → length xs ≡ wanted ks → assigned (ks ++ js) (xs ++ ys) ≡ assigned ks xs ++ assigned js ys
unfolding assigned
assigned-append [] js [] ys w = refl
assigned-append [] js (x ∷ xs) ys w = absurd (omega (arith, w, wanted-nil))
assigned-append (some p ∷ ks) js xs ys w = ap (λ (zs : List ℕ). p ∷ zs) (assigned-append ks js xs ys (w ∙ wanted-some p ks))
assigned-append (none ∷ ks) js [] ys w = absurd (omega (arith, w, wanted-none ks))
assigned-append (none ∷ ks) js (x ∷ xs) ys w =
    let y : length xs ≡ wanted ks = omega (arith, w, wanted-none ks) in
    ap (λ (zs : List ℕ). x ∷ zs) (assigned-append ks js xs ys y)

-- fewer entries want no more
wanted-mono : (xs : List ℕ) (i n : ℕ) → i ≤ n → wanted (entries (take i xs)) ≤ wanted (entries (take n xs))
wanted-mono xs i n l =
    let d : i + (n - i) ≡ n = omega arith in
    let e : wanted (entries (take n xs)) ≡ wanted (entries (take i xs)) + wanted (entries (take (n - i) (drop i xs))) =
    ap (λ (k : ℕ). wanted (entries (take k xs))) (sym d) ∙ ap (λ (ys : List ℕ). wanted (entries ys)) (take-add i (n - i) xs)
    ∙ ap wanted (entries-append (take i xs) (take (n - i) (drop i xs))) ∙ wanted-append (entries (take i xs)) (entries (take (n - i) (drop i xs))) in
    omega (arith, e)

-- the block of one entry
one-assigned : (e b v j : ℕ) (new : List ℕ) → (e ≡ 0 → j < length new) → (e ≡ 0 → b ≡ get_or new j 0) × ((e ≡ 0 → ⊥) → b ≡ e - 1) → v ≡ wanted (entry_of e ∷ [])
    → assigned (entry_of e ∷ []) (take v (drop j new)) ≡ b ∷ []
unfolding assigned
one-assigned zero b v j new l f w =
    let u : v ≡ 1 = w ∙ sym (missing-one 0 refl).0 in
    let x : take v (drop j new) ≡ get_or new j 0 ∷ [] = rw (u, drop-cons new j 0 (l refl)) refl in
    rw (entry-none 0 refl, x) (ap (λ (y : ℕ). y ∷ []) (sym (f.0 refl)))
one-assigned (suc e) b v j new l f w =
    let n : suc e ≡ 0 → ⊥ = λ q. omega arith in
    rw (entry-some (suc e) n) (ap (λ (y : ℕ). y ∷ []) (sym (f.1 n)))

-- the first i blocks are assigned, and j of those given
pub record Assigning (kept new blocks : List ℕ) (i j : ℕ) : Type 0 where
  pub count : j ≡ wanted (entries (take i kept))
  pub few : j ≤ i
  pub list : take i blocks ≡ assigned (entries (take i kept)) (take j new)

-- none is
pub assigning-none : (kept new blocks : List ℕ) → Assigning kept new blocks 0 0
assigning-none kept new blocks =
    record { count = unfold entries in sym wanted-nil; few = omega arith; list = unfold entries assigned in refl }

module _ (kept new blocks : List ℕ) (i j : ℕ) (h : Assigning kept new blocks i j) (l : i < length kept) (o : wanted (entries kept) ≤ length new) where
  -- the entries so far want no more than all
  wanted-to : (k : ℕ) → k ≤ length kept → wanted (entries (take k kept)) ≤ wanted (entries kept)
  wanted-to k m = rw (take_all (length kept) kept (omega arith)) at (wanted-mono kept k (length kept) m)

  -- a place that is not kept wants one more
  pub assigning-room : get_or kept i 0 ≡ 0 → j < wanted (entries kept)
  assigning-room e =
      omega (arith, h.count, wanted-last kept i l, (missing-one (get_or kept i 0) e).0, wanted-to (i + 1) (omega arith))

  -- one more is assigned
  pub assigning-more : (b v : ℕ) → i < length blocks → (get_or kept i 0 ≡ 0 → b ≡ get_or new j 0) × ((get_or kept i 0 ≡ 0 → ⊥) → b ≡ get_or kept i 0 - 1)
      → (v ≡ wanted (entry_of (get_or kept i 0) ∷ [])) × (v ≤ 1) → Assigning kept new (set blocks i b) (i + 1) (j + v)
  assigning-more b v k e w =
      let a : length (take j new) ≡ wanted (entries (take i kept)) = length-take-le j new (omega (arith, h.count, o, wanted-to i (omega arith))) ∙ h.count in
      let one : assigned (entry_of (get_or kept i 0) ∷ []) (take v (drop j new)) ≡ b ∷ [] =
      one-assigned (get_or kept i 0) b v j new (λ z. omega (arith, o, assigning-room z)) e w.0 in
      record {
        count = rw (wanted-last kept i l, ← h.count, ← w.0) refl;
        few = omega (arith, h.few, w.1);
        list =
            rw (entries-last kept i l, take-add j v new, assigned-append (entries (take i kept)) (entry_of (get_or kept i 0) ∷ []) (take j new) (take v (drop j new)) a, one, ← h.list, add-one i)
            (take-suc-set blocks i b k);
      }

-- all are
pub assigning-all : (kept new blocks : List ℕ) (i j : ℕ) → Assigning kept new blocks i j → i ≡ length kept
    → take (length kept) blocks ≡ assigned (entries kept) (take (wanted (entries kept)) new)
assigning-all kept new blocks i j h e =
    let t : take i kept ≡ kept = take_all i kept (omega arith) in
    rw (← e) (h.list ∙ rw (h.count, t) refl)

-- ---- how many are superseded

-- one old entry more
superseded-last : (os : List (Option ℕ)) (o : Option ℕ) (ks : List (Option ℕ)) → superseded (os ++ (o ∷ [])) ks ≡ superseded os ks ++ superseded (o ∷ []) (drop (length os) ks)
unfolding superseded
superseded-last [] o ks = refl
superseded-last (none ∷ os) o [] = superseded-last os o [] ∙ ap (λ (js : List (Option ℕ)). superseded os [] ++ superseded (o ∷ []) js) (drop-nil (length os))
superseded-last (none ∷ os) o (k ∷ ks) = superseded-last os o ks
superseded-last (some p ∷ os) o [] = ap (λ (zs : List ℕ). p ∷ zs) (superseded-last os o [] ∙ ap (λ (js : List (Option ℕ)). superseded os [] ++ superseded (o ∷ []) js) (drop-nil (length os)))
superseded-last (some p ∷ os) o (none ∷ ks) = ap (λ (zs : List ℕ). p ∷ zs) (superseded-last os o ks)
superseded-last (some p ∷ os) o (some q ∷ ks) = superseded-last os o ks

-- of one old entry, at a place of those kept
superseded-one : (e : ℕ) (kept : List ℕ) (i : ℕ) → length (superseded (entry_of e ∷ []) (drop i (entries kept))) ≡ bool_byte (superseded_at e kept i)
unfolding superseded superseded_at entries entry_of
superseded-one e kept i = go e (drop i (entries kept)) (get_or kept i 0) here
  where
    here : get_or (drop i (entries kept)) 0 none ≡ entry_of (get_or kept i 0)
    here = rw (get_or-drop i (entries kept) 0 none, add-zero i) (get_or-map entry_of kept i 0)

    go : (e : ℕ) (ks : List (Option ℕ)) (k : ℕ) → get_or ks 0 none ≡ entry_of k → length (superseded (entry_of e ∷ []) ks) ≡ bool_byte (not (eqb e 0) && eqb k 0)
    go zero [] k q = refl
    go zero (x ∷ ks) k q = refl
    go (suc e) [] zero q = rw (ne_eqb (suc e) 0 (λ z. omega arith)) refl
    go (suc e) [] (suc k) q = absurd (cc)
    go (suc e) (none ∷ ks) zero q = rw (ne_eqb (suc e) 0 (λ z. omega arith)) refl
    go (suc e) (none ∷ ks) (suc k) q = absurd (cc)
    go (suc e) (some p ∷ ks) zero q = absurd (cc)
    go (suc e) (some p ∷ ks) (suc k) q = rw (ne_eqb (suc e) 0 (λ z. omega arith), ne_eqb (suc k) 0 (λ z. omega arith)) refl

-- the first i places are counted
pub record Counting (old kept : List ℕ) (n i : ℕ) : Type 0 where
  pub count : n ≡ length (superseded (entries (take i old)) (entries kept))
  pub few : n ≤ i

-- none is
pub counting-none : (old kept : List ℕ) → Counting old kept 0 0
counting-none old kept = record { count = unfold entries superseded in refl; few = omega arith }

module _ (old kept : List ℕ) (n i : ℕ) (h : Counting old kept n i) where
  -- one more is
  pub counting_more : i < length old → (b : Bool) → b ≡ superseded_at (get_or old i 0) kept i → (v : ℕ) → v ≡ bool_byte b → Counting old kept (n + v) (i + 1)
  counting_more l b q v e =
      let c : length (entries (take i old)) ≡ i = length-entries (take i old) ∙ length-take-le i old (omega arith) in
      let w : v ≡ length (superseded (entry_of (get_or old i 0) ∷ []) (drop i (entries kept))) = e ∙ rw q (sym (superseded-one (get_or old i 0) kept i)) in
      record {
        count =
            rw (entries-last old i l, superseded-last (entries (take i old)) (entry_of (get_or old i 0)) (entries kept), c, h.count, w)
            (sym (length-append (superseded (entries (take i old)) (entries kept)) (superseded (entry_of (get_or old i 0) ∷ []) (drop i (entries kept)))));
        few = omega (arith, h.few, e, byte b);
      }

  -- all are
  pub counting-all : i ≡ length old → (n ≡ length (superseded (entries old) (entries kept))) × (n ≤ length old)
  counting-all e =
      (h.count ∙ ap (λ (xs : List ℕ). length (superseded (entries xs) (entries kept))) (take_all i old (omega arith)), omega (arith, h.few))
