-- A record of a book written over: the bytes of the book are those that say its records with that one exchanged; and in a book in order the
-- record that passes a test of its key is the only one that does.
-- Assumes nothing.
use mathlib.Core.Path.{◌≡◌, refl, sym, ap, ◌∙◌}
use mathlib.Core.List.{List, [], ◌∷◌, ◌++◌, map}
use mathlib.Core.Bool.{Bool, true, false, ◌&&◌}
use Prim.Native.Nat.{ℕ, zero, suc, ◌+◌, ◌-◌, ◌*◌, ◌≤◌, ◌<◌}
use native.Mathlib.Nat.{mul-one, mul-suc, mul-le-mul_left}
use native.Mathlib.Omega.{arith}
use lib.ListN.{length, drop, get_or, set}
use lib.Seq.{take_all}
use Rattle.rules.specs.Lists.{pick◌then◌else◌, all, ascending}
use Rattle.rules.specs.Bytes.{Bytes, part, pieces, patch}
use Rattle.rules.specs.Book.{decode_book, encode_book}
use Rattle.rules.proofs.ListLaws.{clash, test-cases, if-true, if-false, and_left, and_right, and_intro, all_append, Each, each_none, each_more, each_all, each_at, ascending-tail, ascending-all}
use Rattle.rules.proofs.ByteLaws.{length_part, length-patch, patch-part}
use Rattle.rules.proofs.BookLaws.{Whole, encode-whole, pieces-patch}
use Rattle.rules.proofs.ShiftLaws.{decode_book-set, zero-set}

-- ---- the bytes

-- one piece
piece-one : (w : ℕ) (x : List ℕ) → length x ≡ w → pieces w 1 x ≡ x ∷ []
unfolding pieces
piece-one w x e = rw (take_all w x (omega (arith, e))) refl

-- a test of the pieces, one of them with new bytes
all-parts : (f : List ℕ → Bool) (w i m : ℕ) (s x : List ℕ) → length x ≡ w → w * i ≤ length s
    → all f (pieces w (i + (1 + m)) (patch s (w * i) x)) ≡ (all f (pieces w i s) && (f x && all f (pieces w m (drop (w * (i + 1)) s))))
unfolding all
all-parts f w i m s x e h =
    let rest : List (List ℕ) = pieces w m (drop (w * (i + 1)) s) in
    ap (all f) (pieces-patch w i 1 m s x (e ∙ sym (mul-one w)) h) ∙ all_append f (pieces w i s) (pieces w 1 x ++ rest)
    ∙ ap (λ (b : Bool). all f (pieces w i s) && b) (ap (λ (ps : List (List ℕ)). all f (ps ++ rest)) (piece-one w x e))

-- a test that passes at every piece and at new bytes passes at every piece with those in place of one
all-put : (f : List ℕ → Bool) (w i m : ℕ) (s x : List ℕ) → length x ≡ w → w * i + w ≤ length s → f x ≡ true → all f (pieces w (i + (1 + m)) s) ≡ true
    → all f (pieces w (i + (1 + m)) (patch s (w * i) x)) ≡ true
all-put f w i m s x e h t a =
    let front : Bool = all f (pieces w i s) in
    let old : Bool = f (part (w * i) w s) in
    let back : Bool = all f (pieces w m (drop (w * (i + 1)) s)) in
    let q : (front && (old && back)) ≡ true =
    sym (all-parts f w i m s (part (w * i) w s) (length_part s (w * i) w h) (omega arith)) ∙ ap (λ (u : List ℕ). all f (pieces w (i + (1 + m)) u)) (patch-part s (w * i) w h) ∙ a in
    all-parts f w i m s x e (omega arith)
    ∙ and_intro front (f x && back) (and_left front (old && back) q) (and_intro (f x) back t (and_right old back (and_right front (old && back) q)))

module _ {A : Type 0} (encode : A → List ℕ) (decode : List ℕ → A) (w : ℕ) (fixed : List ℕ → Bool)
    (both : (p : List ℕ) → length p ≡ w → Bytes p → fixed p ≡ true → encode (decode p) ≡ p) where
  -- a book with new bytes in place of one record's keeps its places, its zeros and its fixed bytes
  pub put_whole : (n i : ℕ) (s x : List ℕ) → Whole w n fixed s → i < n → length x ≡ w → fixed x ≡ true → Whole w n fixed (patch s (w * i) x)
  put_whole n i s x h l e t =
      let k : n ≡ i + (1 + (n - suc i)) = omega arith in
      let z : w * suc i ≤ w * n = mul-le-mul_left w l in
      let y : w * suc i ≡ w * i + w = mul-suc w i in
      let b : w * n ≤ length s = h.places in
      record {
        places = rw (length-patch s (w * i) x (omega arith)) b;
        zeros = zero-set w n i s b h.zeros x l e;
        records = rw k (all-put fixed w i (n - suc i) s x e (omega arith) t (rw k at h.records));
      }

  -- and says its records with that one exchanged
  pub put-book : (n i : ℕ) (s x t : List ℕ) → Whole w n fixed s → i < n → length x ≡ w → fixed x ≡ true → Bytes t → t ≡ patch s (w * i) x
      → t ≡ encode_book encode (length s) (set (decode_book decode w n s) i (decode x))
  put-book n i s x t h l e f b q =
      let z : w * suc i ≤ w * n = mul-le-mul_left w l in
      let y : w * suc i ≡ w * i + w = mul-suc w i in
      let a : w * n ≤ length s = h.places in
      let u : length t ≡ length s = ap length q ∙ length-patch s (w * i) x (omega arith) in
      let d : decode_book decode w n t ≡ set (decode_book decode w n s) i (decode x) = ap (decode_book decode w n) q ∙ decode_book-set decode w n i s x l e a in
      let v : Whole w n fixed t = rw q (put_whole n i s x h l e f) in
      sym (rw (u, d) at (encode-whole encode decode w n fixed t both v b))

-- ---- the records

module _ {A : Type 0} (before : A → A → Bool) (f : A → Bool) (φ : A → A)
    (trans : (x y z : A) → before x y ≡ true → before y z ≡ true → before x z ≡ true) (apart : (x y : A) → f x ≡ true → before x y ≡ true → f y ≡ false) where
  -- where the test passes at none, none is changed
  map-none : {xs : List A} → Each (λ x. f x ≡ false) xs → map (λ x. pick f x then φ x else x) xs ≡ xs
  map-none each_none = refl
  map-none (each_more {x = x} h r) = rw (if-false (f x) (φ x) x h, map-none r) refl

  -- in a list in order the element that passes the test is the only one that is changed
  pub map-one : (xs : List A) (i : ℕ) (d : A) → ascending before xs ≡ true → i < length xs → f (get_or xs i d) ≡ true → map (λ x. pick f x then φ x else x) xs ≡ set xs i (φ (get_or xs i d))
  map-one [] i d a l t = absurd (omega arith)
  map-one (x ∷ xs) zero d a l t =
      rw (if-true (f x) (φ x) x t, map-none (each_all (before x) (λ y h. apart x y t h) xs (ascending-all before trans x xs a))) refl
  map-one (x ∷ xs) (suc i) d a l t =
      test-cases (map (λ y. pick f y then φ y else y) (x ∷ xs) ≡ set (x ∷ xs) (suc i) (φ (get_or xs i d))) (f x)
      (λ h. absurd (clash (each_at (each_all (before x) (λ y g. apart x y h g) xs (ascending-all before trans x xs a)) i d (omega arith)) t))
      (λ h. rw (if-false (f x) (φ x) x h, map-one xs i d (ascending-tail before x xs a) (omega arith) t) refl)
