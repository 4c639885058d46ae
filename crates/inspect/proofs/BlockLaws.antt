-- Laws of the blocks that hold a unit's bytes: their bytes one behind the other, byte by byte, and those of a run as one part of the image.
-- Assumes nothing.
use mathlib.Core.Path.{◌≡◌, refl, sym, ap, subst, ◌∙◌}
use mathlib.Core.Bool.{Bool, true, false, not}
use mathlib.Core.Option.{none}
use mathlib.Core.List.{List, [], ◌∷◌, ◌++◌, map, flat_map}
use Prim.Native.Nat.{ℕ, zero, suc, ◌+◌, ◌-◌, ◌*◌, ◌/◌, ◌%◌, min, ◌≤◌, ◌<◌}
use native.Mathlib.Decide.{dec_lt}
use native.Mathlib.Omega.{arith}
use lib.Dec.{eqb, ltb}
use lib.ListN.{length, take, drop, get_or, length-append, length-map, length-drop, get_or-append, get_or-map}
use lib.Seq.{get_or-append-add, get_or-take, length-take-le, take-add, take_all, ext_get_or}
use borrow.Author.Tests.{ne_eqb, eqb-true, ltb-true, lt-ltb}
use Rattle.std.specs.List.{list_any, list_all}
use Rattle.rules.specs.Lists.{maybe, given, all, any, begun}
use Rattle.rules.specs.Sizes.{block_bytes}
use Rattle.rules.specs.Bytes.{part}
use Rattle.rules.specs.Store.{block_at}
use Rattle.rules.proofs.ListLaws.{all-at}
use Rattle.rules.proofs.ByteLaws.{length_part, get_d_part}
use Rattle.crc32c.specs.Unit.{UnitFed}
use Rattle.crc32c.specs.declared.unit.Running.{Running}
use Rattle.mapping.specs.Entries.{entry_of, entries, Inside}
use Rattle.inspect.specs.Mapped.{bytes_at}
use Rattle.inspect.specs.Runs.{Backed, Run, backed_bytes, bytes_before}

-- the first of a list that was put through a function
pub take-map : {A B : Type 0} (f : A → B) (n : ℕ) (xs : List A) → take n (map f xs) ≡ map f (take n xs)
take-map f zero xs = refl
take-map f (suc n) [] = refl
take-map f (suc n) (x ∷ xs) = ap (λ ys. f x ∷ ys) (take-map f n xs)

-- and the rest of it
pub drop-map : {A B : Type 0} (f : A → B) (n : ℕ) (xs : List A) → drop n (map f xs) ≡ map f (drop n xs)
drop-map f zero xs = refl
drop-map f (suc n) [] = refl
drop-map f (suc n) (x ∷ xs) = drop-map f n xs

-- ---- the blocks of entries that all name one

module _ (image : List ℕ) where
  -- such entries
  abbrev Named : List ℕ → Type 0
  Named xs = (i : ℕ) → i < length xs → (0 < get_or xs i 0) × (get_or xs i 0 * block_bytes ≤ length image)

  -- a block's bytes
  pub length-block : (p : ℕ) → suc p * block_bytes ≤ length image → length (block_at image p) ≡ block_bytes
  unfolding block_at
  length-block p h = length_part image (p * block_bytes) block_bytes (omega arith)

  -- how many bytes there are
  length-bytes : (xs : List ℕ) → Named xs → length (bytes_at image (entries xs)) ≡ length xs * block_bytes
  unfolding bytes_at entries entry_of maybe flat_map
  length-bytes [] h = refl
  length-bytes (zero ∷ xs) h = absurd (omega (arith, (h 0 (omega arith)).0))
  length-bytes (suc p ∷ xs) h =
      let r : length (bytes_at image (entries xs)) ≡ length xs * block_bytes = length-bytes xs (λ i l. h (suc i) (omega arith)) in
      let b : length (block_at image p) ≡ block_bytes = length-block p (h 0 (omega arith)).1 in
      length-append (block_at image p) (bytes_at image (entries xs)) ∙ omega (arith, r, b)

  -- where the k-th of them stands
  get_or-bytes : (xs : List ℕ) → Named xs → (k : ℕ) → k < length xs * block_bytes
      → get_or (bytes_at image (entries xs)) k 0 ≡ get_or image ((get_or xs (k / block_bytes) 0 - 1) * block_bytes + k % block_bytes) 0
  unfolding bytes_at entries entry_of maybe block_at flat_map part
  get_or-bytes [] h k l = absurd (omega arith)
  get_or-bytes (zero ∷ xs) h k l = absurd (omega (arith, (h 0 (omega arith)).0))
  get_or-bytes (suc p ∷ xs) h k l = go (get_or-bytes xs (λ i m. h (suc i) (omega arith)) (k - block_bytes)) (dec_lt k block_bytes)
    where
      b : length (block_at image p) ≡ block_bytes
      b = length-block p (h 0 (omega arith)).1

      go : (k - block_bytes < length xs * block_bytes
          → get_or (bytes_at image (entries xs)) (k - block_bytes) 0 ≡ get_or image ((get_or xs ((k - block_bytes) / block_bytes) 0 - 1) * block_bytes + (k - block_bytes) % block_bytes) 0)
          → Dec (k < block_bytes) → get_or (block_at image p ++ bytes_at image (entries xs)) k 0 ≡ get_or image ((get_or (suc p ∷ xs) (k / block_bytes) 0 - 1) * block_bytes + k % block_bytes) 0
      go f (yes q) =
          let z : k / block_bytes ≡ 0 = omega arith in
          let m : k % block_bytes ≡ k = omega arith in
          get_or-append (block_at image p) (bytes_at image (entries xs)) 0 k (omega (arith, b))
          ∙ get_d_part image (p * block_bytes) block_bytes k q ∙ rw (z, m) (ap (λ (n : ℕ). get_or image (n * block_bytes + k) 0) (omega arith))
      go f (no q) =
          let e : length (block_at image p) + (k - block_bytes) ≡ k = omega (arith, b) in
          let z : k / block_bytes ≡ suc ((k - block_bytes) / block_bytes) = omega arith in
          let m : k % block_bytes ≡ (k - block_bytes) % block_bytes = omega arith in
          sym (ap (λ (n : ℕ). get_or (block_at image p ++ bytes_at image (entries xs)) n 0) e)
          ∙ get_or-append-add (block_at image p) (bytes_at image (entries xs)) (k - block_bytes) 0
          ∙ f (omega arith) ∙ rw (z, m) refl

-- ---- the first n entries of a unit

module _ (image blocks : List ℕ) (n : ℕ) (h : Backed image blocks n) where
  -- they all name a block in the image
  named : Named image (take n blocks)
  named i l =
      let m : length (take n blocks) ≡ n = length-take-le n blocks h.most in
      let q : i < n = omega arith in
      rw (get_or-take n blocks i 0 q) (h.given i q, h.inside i)

  -- so their bytes are so many
  pub length-backed : length (backed_bytes image blocks n) ≡ n * block_bytes
  unfolding backed_bytes entries
  length-backed =
      rw (take-map entry_of n blocks) (length-bytes image (take n blocks) named ∙ ap (λ (k : ℕ). k * block_bytes) (length-take-le n blocks h.most))

  -- and the k-th stands there
  pub get_or-backed : (k : ℕ) → k < n * block_bytes → get_or (backed_bytes image blocks n) k 0 ≡ get_or image ((get_or blocks (k / block_bytes) 0 - 1) * block_bytes + k % block_bytes) 0
  unfolding backed_bytes entries
  get_or-backed k l =
      let m : length (take n blocks) ≡ n = length-take-le n blocks h.most in
      rw (take-map entry_of n blocks) (get_or-bytes image (take n blocks) named k (rw m l)
      ∙ ap (λ (x : ℕ). get_or image ((x - 1) * block_bytes + k % block_bytes) 0) (get_or-take n blocks (k / block_bytes) 0 (omega arith)))

  -- bytes of a run stand side by side in the image
  pub run-part : (i e k l start : ℕ) → i < e → e ≤ n → Run blocks i e → i * block_bytes ≤ k → k + l ≤ e * block_bytes
      → start ≡ (get_or blocks i 0 - 1) * block_bytes + (k - i * block_bytes) → part k l (backed_bytes image blocks n) ≡ part start l image
  run-part i e k l start a b r p q s =
      let g : 0 < get_or blocks i 0 = h.given i (omega arith) in
      let f : get_or blocks (e - 1) 0 ≡ get_or blocks i 0 + (e - 1 - i) = r.next (e - 1) (omega arith) (omega arith) in
      let m : get_or blocks (e - 1) 0 * block_bytes ≤ length image = h.inside (e - 1) in
      let x : length (part k l (backed_bytes image blocks n)) ≡ l = length_part (backed_bytes image blocks n) k l (rw length-backed (omega arith)) in
      let y : length (part start l image) ≡ l = length_part image start l (omega arith) in
      ext_get_or 0 (part k l (backed_bytes image blocks n)) (part start l image) (x ∙ sym y) (λ j u. one j (omega arith))
    where
      one : (j : ℕ) → j < l → get_or (part k l (backed_bytes image blocks n)) j 0 ≡ get_or (part start l image) j 0
      one j u =
          let g : 0 < get_or blocks i 0 = h.given i (omega arith) in
          let o : get_or blocks ((k + j) / block_bytes) 0 ≡ get_or blocks i 0 + ((k + j) / block_bytes - i) = r.next ((k + j) / block_bytes) (omega arith) (omega arith) in
          let z : (get_or blocks ((k + j) / block_bytes) 0 - 1) * block_bytes + (k + j) % block_bytes ≡ start + j = omega arith in
          get_d_part (backed_bytes image blocks n) k l j u ∙ get_or-backed (k + j) (omega arith)
          ∙ ap (λ (t : ℕ). get_or image t 0) z ∙ sym (get_d_part image start l j u)

  -- a run ends in the image
  pub run_inside : (valid i e start count : ℕ) → n ≡ begun valid block_bytes → i < e → e ≤ n → Run blocks i e → start ≡ (get_or blocks i 0 - 1) * block_bytes
      → count ≡ min (e * block_bytes) valid - i * block_bytes → start + count ≤ length image
  run_inside valid i e start count m a b r p q =
      let g : 0 < get_or blocks i 0 = h.given i (omega arith) in
      let f : get_or blocks (e - 1) 0 ≡ get_or blocks i 0 + (e - 1 - i) = r.next (e - 1) (omega arith) (omega arith) in
      let l : get_or blocks (e - 1) 0 * block_bytes ≤ length image = h.inside (e - 1) in
      omega arith

  -- the bytes in front of place i with the valid ones of the run that begins there
  pub run-before : (valid i e start end : ℕ) → n ≡ begun valid block_bytes → i < e → e ≤ n → Run blocks i e → start ≡ (get_or blocks i 0 - 1) * block_bytes
      → end ≡ start + (min (e * block_bytes) valid - i * block_bytes)
      → bytes_before image blocks n valid i ++ take (end - start) (drop start image) ≡ bytes_before image blocks n valid e
  unfolding bytes_before part
  run-before valid i e start end m a b r p q =
      let l : ℕ = min (e * block_bytes) valid - i * block_bytes in
      let x : min (i * block_bytes) valid ≡ i * block_bytes = omega arith in
      let y : min (e * block_bytes) valid ≡ i * block_bytes + l = omega arith in
      let d : end - start ≡ l = omega arith in
      let w : take l (drop (i * block_bytes) (backed_bytes image blocks n)) ≡ take l (drop start image) =
      run-part i e (i * block_bytes) l start a b r (omega arith) (omega arith) (omega arith) in
      rw (x, y, d, ← w) (sym (take-add (i * block_bytes) l (backed_bytes image blocks n)))

  -- the last block ends in the image
  pub last-inside : (start : ℕ) → 0 < n → start ≡ (get_or blocks (n - 1) 0 - 1) * block_bytes → start + block_bytes ≤ length image
  last-inside start z p = omega (arith, h.given (n - 1) (omega arith), h.inside (n - 1))

  -- the bytes behind the valid ones, in it
  pub last-past : (valid start : ℕ) → n ≡ begun valid block_bytes → 0 < n → start ≡ (get_or blocks (n - 1) 0 - 1) * block_bytes
      → part (start + (valid - (n - 1) * block_bytes)) (start + block_bytes - (start + (valid - (n - 1) * block_bytes))) image ≡ drop valid (backed_bytes image blocks n)
  unfolding part
  last-past valid start m z p =
      let l : ℕ = n * block_bytes - valid in
      let d : start + block_bytes - (start + (valid - (n - 1) * block_bytes)) ≡ l = omega arith in
      let f : length (backed_bytes image blocks n) ≡ n * block_bytes = length-backed in
      let r : Run blocks (n - 1) n = record { next = λ j u v. let e : j ≡ n - 1 = omega arith in rw e (omega arith) } in
      rw d (sym (run-part (n - 1) n valid l (start + (valid - (n - 1) * block_bytes)) (omega arith) (omega arith) r (omega arith) (omega arith) (omega arith))
      ∙ take_all l (drop valid (backed_bytes image blocks n)) (simp length-drop (omega arith)))

-- the state after a run
pub run-fed : (state : Running) (w uuid image blocks : List ℕ) (object unit m n valid i e start end : ℕ) → Backed image blocks n → n ≡ begun valid block_bytes → i < e → e ≤ n
    → Run blocks i e → start ≡ (get_or blocks i 0 - 1) * block_bytes → end ≡ start + (min (e * block_bytes) valid - i * block_bytes)
    → UnitFed state w uuid object unit m (bytes_before image blocks n valid i ++ take (end - start) (drop start image))
    → UnitFed state w uuid object unit m (bytes_before image blocks n valid e)
run-fed state w uuid image blocks object unit m n valid i e start end h k a b r p q f = rw (run-before image blocks n h valid i e start end k a b r p q) at f

-- before the first
pub none_before : (image blocks : List ℕ) (n valid : ℕ) → bytes_before image blocks n valid 0 ≡ []
unfolding bytes_before
none_before image blocks n valid = let z : min (0 * block_bytes) valid ≡ 0 = omega arith in rw z refl

-- behind the last
pub all-before : (image blocks : List ℕ) (n valid i : ℕ) → n ≡ begun valid block_bytes → n ≤ i → bytes_before image blocks n valid i ≡ take valid (backed_bytes image blocks n)
unfolding bytes_before
all-before image blocks n valid i m l =
    let e : min (i * block_bytes) valid ≡ valid = omega arith in
    rw e refl

-- as many valid bytes as were said have been fed
pub valid-fed : (state : Running) (w uuid image blocks : List ℕ) (object unit n valid : ℕ) → Backed image blocks n → n ≡ begun valid block_bytes
    → UnitFed state w uuid object unit valid (take valid (backed_bytes image blocks n))
    → UnitFed state w uuid object unit (length (take valid (backed_bytes image blocks n))) (take valid (backed_bytes image blocks n))
valid-fed state w uuid image blocks object unit n valid h m f =
    let e : length (take valid (backed_bytes image blocks n)) ≡ valid =
    length-take-le valid (backed_bytes image blocks n) (rw (length-backed image blocks n h) (omega arith)) in
    subst (λ k. UnitFed state w uuid object unit k (take valid (backed_bytes image blocks n))) (sym e) f

-- ---- runs

-- a test whose opposite fails passes
pub not-false : (b : Bool) → not b ≡ false → b ≡ true
not-false true e = refl
not-false false e = sym e

-- one entry
pub run-one : (blocks : List ℕ) (i : ℕ) → Run blocks i (i + 1)
run-one blocks i = record { next = λ j p q. let e : j ≡ i = omega arith in rw e (omega arith) }

-- one more
pub run_more : (blocks : List ℕ) (i e : ℕ) (b : Bool) → Run blocks i e → i < e → b ≡ eqb (get_or blocks e 0) (get_or blocks (e - 1) 0 + 1) → not b ≡ false → Run blocks i (e + 1)
run_more blocks i e b r l s t = record { next = λ j a b. go j a b (dec_lt j e) }
  where
    q : get_or blocks e 0 ≡ get_or blocks (e - 1) 0 + 1
    q = eqb-true (get_or blocks e 0) (get_or blocks (e - 1) 0 + 1) (sym s ∙ not-false b t)

    go : (j : ℕ) → i ≤ j → j < e + 1 → Dec (j < e) → get_or blocks j 0 ≡ get_or blocks i 0 + (j - i)
    go j a b (yes u) = r.next j a u
    go j a b (no u) =
        let f : get_or blocks (e - 1) 0 ≡ get_or blocks i 0 + (e - 1 - i) = r.next (e - 1) (omega arith) (omega arith) in
        let d : j ≡ e = omega arith in
        rw d (omega (arith, q))

-- ---- entries that name a block, and such that do not

-- an entry names a block where it is not 0
given-entry : (x : ℕ) → given (entry_of x) ≡ ltb 0 x
unfolding given entry_of
given-entry zero = refl
given-entry (suc x) = sym (lt-ltb 0 (suc x) (omega arith))

-- the test of the code is that one
pub named-entry : (x : ℕ) → not (eqb x 0) ≡ given (entry_of x)
unfolding given entry_of
named-entry zero = refl
named-entry (suc x) = ap not (ne_eqb (suc x) 0 (λ e. absurd (omega (arith, e))))

-- so it is for some, and for all
pub any-entries : (xs : List ℕ) → list_any (λ x. not (eqb x 0)) xs ≡ any given (entries xs)
unfolding any entries
any-entries [] = refl
any-entries (x ∷ xs) = rw (named-entry x, any-entries xs) refl

pub all-entries : (xs : List ℕ) → list_all (λ x. not (eqb x 0)) xs ≡ all given (entries xs)
unfolding all entries
all-entries [] = refl
all-entries (x ∷ xs) = rw (named-entry x, all-entries xs) refl

-- and for all of the first
pub all-first : (n : ℕ) (xs : List ℕ) → list_all (λ x. not (eqb x 0)) (take n xs) ≡ all given (take n (entries xs))
unfolding entries
all-first n xs = all-entries (take n xs) ∙ ap (all given) (sym (take-map entry_of n xs))

-- the same of the entry at a place
given-at : (blocks : List ℕ) (i : ℕ) → given (get_or (entries blocks) i none) ≡ ltb 0 (get_or blocks i 0)
unfolding entries entry_of
given-at blocks i = ap given (get_or-map entry_of blocks i 0) ∙ given-entry (get_or blocks i 0)

module _ (blocks : List ℕ) where
  -- so they are there where the test passes
  pub mapped-backed : (image : List ℕ) (n : ℕ) (b : Bool) → Inside image blocks → n ≤ length blocks → b ≡ all given (take n (entries blocks)) → not b ≡ false → Backed image blocks n
  unfolding entries
  mapped-backed image n b s m p q =
      let t : all given (take n (map entry_of blocks)) ≡ true = sym p ∙ not-false b q in
      let k : length (take n (map entry_of blocks)) ≡ n = length-take-le n (map entry_of blocks) (simp length-map m) in
      record {
        given = λ i l. ltb-true 0 (get_or blocks i 0)
            (sym (given-at blocks i) ∙ ap given (sym (get_or-take n (map entry_of blocks) i none l)) ∙ all-at given (take n (map entry_of blocks)) t i none (omega arith));
        inside = s.each;
        most = m;
      }
