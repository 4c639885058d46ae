-- A record of a book overwritten, put in or taken out: what happens to the bytes is what happens to the list of records, and zeros stay behind.
-- Assumes nothing.
use mathlib.Core.Path.{◌≡◌, refl, sym, ap, ◌∙◌}
use mathlib.Core.List.{List, [], ◌∷◌, ◌++◌, append_assoc, append-nil}
use mathlib.Core.Bool.{true}
use Prim.Native.Nat.{ℕ, suc, ◌+◌, ◌-◌, ◌*◌, ◌≤◌, ◌<◌}
use native.Mathlib.Nat.{mul-suc, mul-add, mul-one, mul-le-mul_left}
use native.Mathlib.Omega.{arith}
use lib.ListN.{length, take, drop, set, replicate, length-append, length-replicate}
use lib.Seq.{set_at, take-take, drop-drop, drop_at}
use Rattle.rules.specs.Bytes.{part, patch}
use Rattle.rules.specs.Book.{decode_book, zero_behind}
use Rattle.rules.proofs.ByteLaws.{length_part, length-patch, take-patch, drop-patch, drop-patch-behind, patch-patch, all_zero-append, all_zero-drop, all_zero-replicate}
use Rattle.rules.proofs.BookLaws.{length-decode_book, decode_book-same, decode_book-add, decode_book-none, decode_book-suc, decode_book-one, decode_book-patch, take-decode_book, drop-decode_book}

-- places up to a place lie below the places up to a later one
below : (w : ℕ) {i n : ℕ} → i ≤ n → w * i ≤ w * n
below w h = mul-le-mul_left w h

module _ {A : Type 0} (decode : List ℕ → A) (w : ℕ) where
  -- a record put in place of the one behind the first i, in front of m more
  set_there : (i m : ℕ) (b x : List ℕ) → length x ≡ w → w * i ≤ length b → decode_book decode w (i + suc m) (patch b (w * i) x) ≡ set (decode_book decode w (i + suc m) b) i (decode x)
  set_there i m b x e h =
      let rest : List A = decode_book decode w m (drop (w * (i + 1)) b) in
      let k : i + suc m ≡ i + (1 + m) = omega arith in
      let j : w * (i + 1) ≡ w * i + w = mul-add w i 1 ∙ ap (λ (a : ℕ). w * i + a) (mul-one w) in
      let one : decode_book decode w 1 x ≡ decode x ∷ [] = ap (decode_book decode w 1) (sym (append-nil x)) ∙ decode_book-one decode w 0 x [] e ∙ ap (λ (t : List A). decode x ∷ t) (decode_book-none decode w []) in
      let new : decode_book decode w (i + suc m) (patch b (w * i) x) ≡ decode_book decode w i b ++ (decode x ∷ rest) =
      rw k (decode_book-patch decode w i 1 m b x (e ∙ sym (mul-one w)) h ∙ rw one refl) in
      let old : decode_book decode w (i + suc m) b ≡ decode_book decode w i b ++ (decode (take w (drop (w * i) b)) ∷ rest) =
      decode_book-add decode w i (suc m) b ∙ rw (decode_book-suc decode w m (drop (w * i) b), drop-drop w (w * i) b, j) refl in
      new ∙ sym (rw old (set_at (decode_book decode w i b) (decode (take w (drop (w * i) b))) rest (decode x) i (length-decode_book decode w i b)))

  -- a record put in behind the first i, in front of m more
  insert-there : (i m : ℕ) (b x : List ℕ) → length x ≡ w → w * i + w * m ≤ length b
      → decode_book decode w (i + suc m) (patch b (w * i) (x ++ part (w * i) (w * m) b)) ≡ decode_book decode w i b ++ (decode x ∷ decode_book decode w m (drop (w * i) b))
  insert-there i m b x e h =
      let moved : List ℕ = part (w * i) (w * m) b in
      let l : length moved ≡ w * m = length_part b (w * i) (w * m) h in
      let n : length (x ++ moved) ≡ w * suc m = rw (length-append, e, l, mul-suc w m) (omega arith) in
      let k : i + suc m ≡ i + (suc m + 0) = omega arith in
      let same : decode_book decode w m moved ≡ decode_book decode w m (drop (w * i) b) =
      decode_book-same decode w m moved (drop (w * i) b) (unfold part in take-take (w * m) (w * m) (drop (w * i) b) (omega arith)) in
      rw k (decode_book-patch decode w i (suc m) 0 b (x ++ moved) n (omega arith)
      ∙ rw (decode_book-none decode w (drop (w * (i + suc m)) b), append-nil (decode_book decode w (suc m) (x ++ moved)), decode_book-one decode w m x moved e, same) refl)

  -- the record behind the first i taken out, m more moved down
  remove-there : (i m : ℕ) (b z : List ℕ) → length z ≡ w → w * i + w + w * m ≤ length b
      → decode_book decode w (i + m) (patch b (w * i) (part (w * i + w) (w * m) b ++ z)) ≡ decode_book decode w i b ++ decode_book decode w m (drop (w * i + w) b)
  remove-there i m b z e h =
      let moved : List ℕ = part (w * i + w) (w * m) b in
      let l : length moved ≡ w * m = length_part b (w * i + w) (w * m) h in
      let k : i + m ≡ i + (m + 0) = omega arith in
      let j : w * (i + m) ≡ w * i + w * m = mul-add w i m in
      let same : decode_book decode w m moved ≡ decode_book decode w m (drop (w * i + w) b) =
      decode_book-same decode w m moved (drop (w * i + w) b) (unfold part in take-take (w * m) (w * m) (drop (w * i + w) b) (omega arith)) in
      let two : patch b (w * i) (moved ++ z) ≡ patch (patch b (w * i) moved) (w * (i + m)) z = sym (patch-patch b (w * i) (w * (i + m)) moved z (omega arith) (omega arith)) in
      ap (decode_book decode w (i + m)) two
      ∙ decode_book-same decode w (i + m) (patch (patch b (w * i) moved) (w * (i + m)) z) (patch b (w * i) moved)
      (take-patch (patch b (w * i) moved) (w * (i + m)) (w * (i + m)) z (omega arith) (rw (length-patch b (w * i) moved (omega arith)) (omega arith)))
      ∙ rw k (decode_book-patch decode w i m 0 b moved l (omega arith)
      ∙ rw (decode_book-none decode w (drop (w * (i + m)) b), append-nil (decode_book decode w m moved), same) refl)

  -- a record overwritten
  pub decode_book-set : (n i : ℕ) (b x : List ℕ) → i < n → length x ≡ w → w * n ≤ length b → decode_book decode w n (patch b (w * i) x) ≡ set (decode_book decode w n b) i (decode x)
  decode_book-set n i b x l e h =
      let k : n ≡ i + suc (n - suc i) = omega arith in
      let p : w * i ≤ w * n = below w (omega arith) in
      rw k (set_there i (n - suc i) b x e (omega arith))

  -- a record put in at a place, the others moved up
  pub decode_book-insert : (n i : ℕ) (b x : List ℕ) → i ≤ n → length x ≡ w → w * n ≤ length b
      → decode_book decode w (n + 1) (patch b (w * i) (x ++ part (w * i) (w * n - w * i) b)) ≡ take i (decode_book decode w n b) ++ (decode x ∷ drop i (decode_book decode w n b))
  decode_book-insert n i b x l e h = go (n - i) (omega arith)
    where
      go : (m : ℕ) → n ≡ i + m → decode_book decode w (n + 1) (patch b (w * i) (x ++ part (w * i) (w * n - w * i) b)) ≡ take i (decode_book decode w n b) ++ (decode x ∷ drop i (decode_book decode w n b))
      go m k =
          let p : w * n ≡ w * i + w * m = rw k (mul-add w i m) in
          let q : w * n - w * i ≡ w * m = omega arith in
          let r : n + 1 ≡ i + suc m = omega arith in
          rw (q, r, k, take-decode_book decode w i m b, drop-decode_book decode w i m b) (insert-there i m b x e (omega arith))

  -- a record taken out, the others moved down, and as many bytes behind them
  pub decode_book-remove : (n i : ℕ) (b z : List ℕ) → i < n → length z ≡ w → w * n ≤ length b
      → decode_book decode w (n - 1) (patch b (w * i) (part (w * i + w) (w * n - (w * i + w)) b ++ z)) ≡ take i (decode_book decode w n b) ++ drop (suc i) (decode_book decode w n b)
  decode_book-remove n i b z l e h = go (n - suc i) (omega arith)
    where
      go : (m : ℕ) → n ≡ suc i + m → decode_book decode w (n - 1) (patch b (w * i) (part (w * i + w) (w * n - (w * i + w)) b ++ z)) ≡ take i (decode_book decode w n b) ++ drop (suc i) (decode_book decode w n b)
      go m k =
          let p : w * n ≡ w * suc i + w * m = rw k (mul-add w (suc i) m) in
          let s : w * suc i ≡ w * i + w = mul-suc w i in
          let q : w * n - (w * i + w) ≡ w * m = omega arith in
          let r : n - 1 ≡ i + m = omega arith in
          let u : n ≡ i + suc m = omega arith in
          let t : take i (decode_book decode w n b) ≡ decode_book decode w i b = rw u (take-decode_book decode w i (suc m) b) in
          let d : drop (suc i) (decode_book decode w n b) ≡ decode_book decode w m (drop (w * i + w) b) = rw (k, ← s) (drop-decode_book decode w (suc i) m b) in
          rw (q, r, t, d) (remove-there i m b z e (omega arith))

module _ (w n i : ℕ) (b : List ℕ) (fits : w * n ≤ length b) (zeros : zero_behind w n b ≡ true) where
  -- zeros stay behind the last record where one is overwritten
  pub zero-set : (x : List ℕ) → i < n → length x ≡ w → zero_behind w n (patch b (w * i) x) ≡ true
  unfolding zero_behind
  zero-set x l e =
      let p : w * suc i ≤ w * n = below w l in
      let s : w * suc i ≡ w * i + w = mul-suc w i in
      rw (drop-patch-behind b (w * i) (w * n) x (omega arith) (omega arith)) zeros

  -- where one is put in
  pub zero-insert : (x : List ℕ) → i ≤ n → length x ≡ w → w * n + w ≤ length b → zero_behind w (n + 1) (patch b (w * i) (x ++ part (w * i) (w * n - w * i) b)) ≡ true
  unfolding zero_behind
  zero-insert x l e h =
      let p : w * i ≤ w * n = below w l in
      let moved : List ℕ = part (w * i) (w * n - w * i) b in
      let m : length moved ≡ w * n - w * i = length_part b (w * i) (w * n - w * i) (omega arith) in
      let a : length (x ++ moved) ≡ w + (w * n - w * i) = rw (length-append, e, m) refl in
      let s : w * (n + 1) ≡ w * n + w = mul-add w n 1 ∙ ap (λ (k : ℕ). w * n + k) (mul-one w) in
      rw (s, drop-patch-behind b (w * i) (w * n + w) (x ++ moved) (omega arith) (omega arith), ← drop-drop w (w * n) b) (all_zero-drop w (drop (w * n) b) zeros)

  -- where one is taken out
  pub zero-remove : i < n → zero_behind w (n - 1) (patch b (w * i) (part (w * i + w) (w * n - (w * i + w)) b ++ replicate w 0)) ≡ true
  unfolding zero_behind
  zero-remove l =
      let p : w * suc i ≤ w * n = below w l in
      let s : w * suc i ≡ w * i + w = mul-suc w i in
      let moved : List ℕ = part (w * i + w) (w * n - (w * i + w)) b in
      let none : List ℕ = replicate w 0 in
      let m : length moved ≡ w * n - (w * i + w) = length_part b (w * i + w) (w * n - (w * i + w)) (omega arith) in
      let a : w * i + length (moved ++ none) ≡ w * n = rw (length-append, m, length-replicate) (omega arith) in
      let q : w * n ≡ w * (n - 1) + w = rw (← mul-suc w (n - 1)) (ap (λ (k : ℕ). w * k) (omega arith)) in
      let r : w * (n - 1) ≡ w * i + length moved = omega arith in
      let d : drop (w * (n - 1)) (patch b (w * i) (moved ++ none)) ≡ none ++ drop (w * n) b =
      rw (r, ← drop-drop (length moved) (w * i) (patch b (w * i) (moved ++ none)), drop-patch b (w * i) (moved ++ none) (omega arith), a, append_assoc moved none (drop (w * n) b))
      (drop_at moved (none ++ drop (w * n) b) (length moved) refl) in
      rw d (all_zero-append none (drop (w * n) b) (all_zero-replicate w) zeros)
