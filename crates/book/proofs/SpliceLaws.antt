-- Laws of an exchange of records: what happens to the bytes happens to the list of records, over any width.
-- Assumes nothing.
use mathlib.Core.Path.{◌≡◌, refl, sym, ap, ◌∙◌}
use mathlib.Core.Bool.{true}
use mathlib.Core.List.{List, [], ◌∷◌, ◌++◌, map, append_assoc, append-nil, map-append}
use Prim.Native.Nat.{ℕ, zero, suc, ◌+◌, ◌-◌, ◌*◌, ◌≤◌}
use native.Mathlib.Nat.{mul-add}
use native.Mathlib.Omega.{arith}
use lib.ListN.{length, take, drop, replicate, length-append, length-replicate}
use lib.Seq.{take_at, drop_at, drop-drop}
use Rattle.rules.specs.Bytes.{part, patch, pieces, all_zero}
use Rattle.rules.specs.Book.{decode_book, zero_behind}
use Rattle.rules.proofs.ByteLaws.{length_part, length-patch, take-patch, drop-patch, drop-patch-behind, patch-before, patch-part, patch-patch, all_zero-append, all_zero-drop, all_zero-replicate}
use Rattle.rules.proofs.BookLaws.{decode_book-same, decode_book-patch, take-decode_book, drop-decode_book}
use Rattle.words.proofs.NumberLaws.{part-is}
use Rattle.book.specs.Places.{Spliced}

-- ---- the tail

-- moved down, with zeros behind it
pub tail-down : (s x t : List ℕ) (b e to : ℕ) → to ≤ b → b ≤ e → e ≤ length s → x ≡ patch s (b - (b - to)) (part b (e - b) s) → t ≡ patch x (to + (e - b)) (replicate (e - (to + (e - b))) 0)
    → t ≡ patch s to (part b (e - b) s ++ replicate (b - to) 0)
tail-down s x t b e to l m h p q =
    let k : b - (b - to) ≡ to = omega arith in
    let z : e - (to + (e - b)) ≡ b - to = omega arith in
    let n : length (part b (e - b) s) ≡ e - b = length_part s b (e - b) (omega arith) in
    let r : length {A = ℕ} (replicate (b - to) 0) ≡ b - to = length-replicate {A = ℕ} (b - to) 0 in
    q ∙ rw (p, k, z) (patch-patch s to (to + (e - b)) (part b (e - b) s) (replicate (b - to) 0) (omega arith) (omega arith))

-- where the tail is not moved down there are no zeros behind it
no-zeros : (s y : List ℕ) (b to : ℕ) → b ≤ to → y ++ replicate (b - to) 0 ≡ y
no-zeros s y b to l = let k : b - to ≡ 0 = omega arith in rw k (append-nil y)

-- left where it is
pub tail-still : (s : List ℕ) (b e to : ℕ) → b ≤ to → to ≤ b → b ≤ e → e ≤ length s → s ≡ patch s to (part b (e - b) s ++ replicate (b - to) 0)
tail-still s b e to l m h k =
    let q : to ≡ b = omega arith in
    sym (rw (no-zeros s (part b (e - b) s) b to l, q) (patch-part s b (e - b) (omega arith)))

-- the tail, and the new bytes in front of it
pub spliced-bytes : (s x t y z : List ℕ) (a b e : ℕ) → a ≤ b → b ≤ e → e ≤ length s → a + length x + (e - b) ≤ length s → y ≡ patch s (a + length x) z → t ≡ patch y a x → t ≡ patch s a (x ++ z)
spliced-bytes s x t y z a b e l m h r p q = q ∙ rw p (patch-before s a (a + length x) x z refl (omega arith))

-- ---- the records

-- zeros behind the last record, as bytes
zero_is : (w n : ℕ) (s : List ℕ) → zero_behind w n s ≡ all_zero (drop (w * n) s)
unfolding zero_behind
zero_is w n s = refl

module _ {A : Type 0} (decode : List ℕ → A) (w n i k m : ℕ) (s x t : List ℕ) (l : i + k ≤ n) (lx : length x ≡ w * m) (h : w * n ≤ length s) (h' : w * (n - k + m) ≤ length s)
    (e : t ≡ patch s (w * i) (x ++ (part (w * (i + k)) (w * n - w * (i + k)) s ++ replicate (w * (i + k) - (w * i + length x)) 0))) where
  -- the records, decoded; zeros; and the length. r records stand behind those that go, and they go to the place that is called to
  spliced-decoded : (decode_book decode w (n - k + m) t ≡ take i (decode_book decode w n s) ++ decode_book decode w m x ++ drop (i + k) (decode_book decode w n s))
      × (zero_behind w n s ≡ true → zero_behind w (n - k + m) t ≡ true)
      × (length t ≡ length s)
  spliced-decoded =
      let r : ℕ = n - (i + k) in
      let to : ℕ = w * i + length x in
      let e1 : w * (i + k) ≡ w * i + w * k = mul-add w i k in
      let n1 : n ≡ i + k + r = omega arith in
      let n2 : n ≡ i + (k + r) = omega arith in
      let n3 : n - k + m ≡ i + m + r = omega arith in
      let n4 : n - k + m ≡ i + (m + r) = omega arith in
      let e2 : w * n ≡ w * i + w * k + w * r = ap (λ (a : ℕ). w * a) n1 ∙ mul-add w (i + k) r ∙ ap (λ (a : ℕ). a + w * r) e1 in
      let e3 : w * (n - k + m) ≡ w * i + w * m + w * r = ap (λ (a : ℕ). w * a) n3 ∙ mul-add w (i + m) r ∙ ap (λ (a : ℕ). a + w * r) (mul-add w i m) in
      let e4 : w * (i + m) ≡ to = mul-add w i m ∙ ap (λ (a : ℕ). w * i + a) (sym lx) in
      let e5 : w * n - w * (i + k) ≡ w * r = omega arith in
      let e6 : w * (n - k + m) ≡ to + w * r = omega arith in
      let tail : List ℕ = part (w * (i + k)) (w * r) s in
      let z : List ℕ = replicate (w * (i + k) - to) 0 in
      let rest : List ℕ = drop (to + length (tail ++ z)) s in
      let moved : List ℕ = patch s to (tail ++ z) in
      let lt : length tail ≡ w * r = length_part s (w * (i + k)) (w * r) (omega arith) in
      let lz : length z ≡ w * (i + k) - to = length-replicate {A = ℕ} (w * (i + k) - to) 0 in
      let ltz : length (tail ++ z) ≡ w * r + (w * (i + k) - to) = rw (length-append, lt, lz) refl in
      let lm : length moved ≡ length s = length-patch s to (tail ++ z) (omega arith) in
      let e' : t ≡ patch moved (w * i) x = e ∙ rw e5 (sym (patch-before s (w * i) to x (tail ++ z) refl (omega arith))) in
      let behind : drop to moved ≡ tail ++ (z ++ rest) = drop-patch s to (tail ++ z) (omega arith) ∙ append_assoc tail z rest in
      let front : decode_book decode w i moved ≡ take i (decode_book decode w n s) =
      decode_book-same decode w i moved s (take-patch s to (w * i) (tail ++ z) (omega arith) (omega arith))
      ∙ sym (ap (λ (a : ℕ). take i (decode_book decode w a s)) n2 ∙ take-decode_book decode w i (k + r) s) in
      let back : decode_book decode w r (drop (w * (i + m)) moved) ≡ drop (i + k) (decode_book decode w n s) =
      ap (λ (a : ℕ). decode_book decode w r (drop a moved)) e4 ∙ ap (decode_book decode w r) behind
      ∙ decode_book-same decode w r (tail ++ (z ++ rest)) (drop (w * (i + k)) s) (take_at tail (z ++ rest) (w * r) lt ∙ part-is (w * (i + k)) (w * r) s)
      ∙ sym (ap (λ (a : ℕ). drop (i + k) (decode_book decode w a s)) n1 ∙ drop-decode_book decode w (i + k) r s) in
      let zeros : zero_behind w n s ≡ true → zero_behind w (n - k + m) t ≡ true =
      λ zb. zero_is w (n - k + m) t
      ∙ ap (λ (a : ℕ). all_zero (drop a t)) e6
      ∙ ap (λ (b : List ℕ). all_zero (drop (to + w * r) b)) e'
      ∙ ap all_zero (drop-patch-behind moved (w * i) (to + w * r) x (omega arith) (omega arith) ∙ sym (drop-drop (w * r) to moved) ∙ ap (drop (w * r)) behind ∙ drop_at tail (z ++ rest) (w * r) lt)
      ∙ all_zero-append z rest (all_zero-replicate (w * (i + k) - to)) (zero_rest (to + length (tail ++ z)) (omega arith) (sym (zero_is w n s) ∙ zb)) in (
        ap (λ (a : ℕ). decode_book decode w a t) n4 ∙ ap (decode_book decode w (i + (m + r))) e' ∙ decode_book-patch decode w i m r moved x lx (omega arith)
            ∙ rw (front, back) (sym (append_assoc (take i (decode_book decode w n s)) (decode_book decode w m x) (drop (i + k) (decode_book decode w n s)))),
        zeros,
        ap length e' ∙ length-patch moved (w * i) x (omega arith) ∙ lm,
      )
    where
      zero_rest : (a : ℕ) → w * n ≤ a → all_zero (drop (w * n) s) ≡ true → all_zero (drop a s) ≡ true
      zero_rest a g zb =
          let q : w * n + (a - w * n) ≡ a = omega arith in
          ap (λ (b : ℕ). all_zero (drop b s)) (sym q) ∙ ap all_zero (sym (drop-drop (a - w * n) (w * n) s)) ∙ all_zero-drop (a - w * n) (drop (w * n) s) zb

-- records that are not decoded are the pieces
pieces_are : (w n : ℕ) (s : List ℕ) → decode_book (λ p. p) w n s ≡ pieces w n s
unfolding decode_book
pieces_are w n s = same (pieces w n s)
  where
    same : (ps : List (List ℕ)) → map (λ p. p) ps ≡ ps
    same [] = refl
    same (p ∷ ps) = ap (λ (qs : List (List ℕ)). p ∷ qs) (same ps)

-- an exchange in a book
pub spliced : (w n i k m : ℕ) (s x t : List ℕ) → i + k ≤ n → length x ≡ w * m → w * n ≤ length s → w * (n - k + m) ≤ length s
    → t ≡ patch s (w * i) (x ++ (part (w * (i + k)) (w * n - w * (i + k)) s ++ replicate (w * (i + k) - (w * i + length x)) 0)) → Spliced w n i k m s x t
spliced w n i k m s x t l lx h h' e =
    let r = spliced-decoded (λ p. p) w n i k m s x t l lx h h' e in
    record { records = rw (pieces_are w (n - k + m) t, pieces_are w n s, pieces_are w m x) at r.0; zeros = r.1; size = r.2 }

-- the first of what is put through a function
take-through : {A B : Type 0} (f : A → B) (i : ℕ) (xs : List A) → map f (take i xs) ≡ take i (map f xs)
take-through f zero xs = refl
take-through f (suc i) [] = refl
take-through f (suc i) (x ∷ xs) = ap (λ (ys : List _). f x ∷ ys) (take-through f i xs)

-- the others
drop-through : {A B : Type 0} (f : A → B) (i : ℕ) (xs : List A) → map f (drop i xs) ≡ drop i (map f xs)
drop-through f zero xs = refl
drop-through f (suc i) [] = refl
drop-through f (suc i) (x ∷ xs) = drop-through f i xs

-- so it is with the records that they say
pub spliced-records : {A : Type 0} (decode : List ℕ → A) (w n i k m : ℕ) (s x t : List ℕ) → Spliced w n i k m s x t
    → decode_book decode w (n - k + m) t ≡ take i (decode_book decode w n s) ++ decode_book decode w m x ++ drop (i + k) (decode_book decode w n s)
unfolding decode_book
spliced-records decode w n i k m s x t e =
    ap (map decode) e.records
    ∙ map-append decode (take i (pieces w n s) ++ pieces w m x) (drop (i + k) (pieces w n s))
    ∙ rw (map-append decode (take i (pieces w n s)) (pieces w m x), take-through decode i (pieces w n s), drop-through decode (i + k) (pieces w n s)) refl
