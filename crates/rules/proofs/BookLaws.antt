-- Laws of a book, over any width of its records and any way to write and read one.
-- Assumes nothing.
use mathlib.Core.Path.{◌≡◌, refl, sym, ap, ◌∙◌}
use mathlib.Core.List.{List, [], ◌∷◌, ◌++◌, map, flat_map, append_assoc, map-append}
use mathlib.Core.Bool.{Bool, true}
use Prim.Native.Nat.{ℕ, zero, suc, ◌+◌, ◌-◌, ◌*◌, ◌≤◌, ◌<◌}
use native.Mathlib.Nat.{add_comm, mul-suc, mul-zero, mul-add, zero-add, suc-add, not-suc-le-zero, le_of_suc-le-suc}
use native.Mathlib.Omega.{arith}
use lib.ListN.{length, take, drop, get_or, length-append, length-drop, length-map}
use lib.Seq.{take_at, drop_at, take-add, take-take, drop-drop, take-append-le, length-take-le}
use Rattle.rules.specs.Lists.{all}
use Rattle.rules.specs.Bytes.{pieces, Bytes, part, patch, padded}
use Rattle.rules.specs.Book.{decode_book, encode_book, zero_behind}
use Rattle.rules.proofs.ListLaws.{each_all, each_both, each_map, Each, each_none, each_more, each_weaken, get_d_map}
use Rattle.rules.proofs.ByteLaws.{bytes-append, bytes_take, bytes_drop, bytes-padded, part-drop, drop-take, take-patch, drop-patch, length-padded, drop-padded, padded-take, all_zero-replicate}

-- ---- pieces

-- n pieces
pub length-pieces : (w n : ℕ) (s : List ℕ) → length (pieces w n s) ≡ n
unfolding pieces
length-pieces w zero s = refl
length-pieces w (suc n) s = ap suc (length-pieces w n (drop w s))

-- the piece at a place
pub get_or-pieces : (w n : ℕ) (s : List ℕ) (i : ℕ) → i < n → get_or (pieces w n s) i [] ≡ part (w * i) w s
unfolding pieces
get_or-pieces w zero s i l = absurd (not-suc-le-zero l)
get_or-pieces w (suc n) s zero l = unfold part in rw (mul-zero w) refl
get_or-pieces w (suc n) s (suc i) l =
    get_or-pieces w n (drop w s) i (le_of_suc-le-suc l) ∙ part-drop s (w * i) w w ∙ ap (λ (a : ℕ). part a w s) (add_comm w (w * i) ∙ sym (mul-suc w i))

-- pieces that lie in the buffer have the width
pub wide-pieces : (w n : ℕ) (s : List ℕ) → w * n ≤ length s → Each (λ p. length p ≡ w) (pieces w n s)
unfolding pieces
wide-pieces w zero s h = each_none
wide-pieces w (suc n) s h =
    let e : w * suc n ≡ w * n + w = mul-suc w n in
    each_more (length-take-le w s (omega arith)) (wide-pieces w n (drop w s) (simp length-drop (omega arith)))

-- pieces of bytes are bytes
pub bytes-pieces : (w n : ℕ) (s : List ℕ) → Bytes s → Each Bytes (pieces w n s)
unfolding pieces
bytes-pieces w zero s b = each_none
bytes-pieces w (suc n) s b = each_more (bytes_take w s b) (bytes-pieces w n (drop w s) (bytes_drop w s b))

-- the first k pieces, and the others
pub pieces-add : (w k m : ℕ) (s : List ℕ) → pieces w (k + m) s ≡ pieces w k s ++ pieces w m (drop (w * k) s)
unfolding pieces
pieces-add w zero m s = rw (zero-add m, mul-zero w) refl
pieces-add w (suc k) m s = rw (suc-add k m, mul-suc w k, add_comm (w * k) w, ← drop-drop (w * k) w s, pieces-add w k m (drop w s)) refl

-- the pieces hang on the bytes that they take up
pub pieces-same : (w n : ℕ) (s t : List ℕ) → take (w * n) s ≡ take (w * n) t → pieces w n s ≡ pieces w n t
unfolding pieces
pieces-same w zero s t e = refl
pieces-same w (suc n) s t e =
    let m : w * suc n ≡ w + w * n = mul-suc w n ∙ add_comm (w * n) w in
    let q : take (w + w * n) s ≡ take (w + w * n) t = rw m at e in
    let a : take w s ≡ take w t = sym (take-take w (w + w * n) s (omega arith)) ∙ ap (take w) q ∙ take-take w (w + w * n) t (omega arith) in
    let b : take (w * n) (drop w s) ≡ take (w * n) (drop w t) = sym (drop-take w (w * n) s) ∙ ap (drop w) q ∙ drop-take w (w * n) t in
    rw (a, pieces-same w n (drop w s) (drop w t) b) refl

-- k pieces put in place of others, in front of m more
pub pieces-patch : (w i k m : ℕ) (s xs : List ℕ) → length xs ≡ w * k → w * i ≤ length s
    → pieces w (i + (k + m)) (patch s (w * i) xs) ≡ pieces w i s ++ (pieces w k xs ++ pieces w m (drop (w * (i + k)) s))
pieces-patch w i k m s xs e h =
    let t : List ℕ = drop (w * i + length xs) s in
    let a : pieces w i (patch s (w * i) xs) ≡ pieces w i s = pieces-same w i (patch s (w * i) xs) s (take-patch s (w * i) (w * i) xs (omega arith) h) in
    let b : pieces w k (xs ++ t) ≡ pieces w k xs = pieces-same w k (xs ++ t) xs (take-append-le (w * k) xs t (omega arith)) in
    let c : drop (w * (i + k)) s ≡ t = rw (mul-add w i k, e) refl in
    pieces-add w i (k + m) (patch s (w * i) xs)
    ∙ rw (a, drop-patch s (w * i) xs h, pieces-add w k m (xs ++ t), b, drop_at xs t (w * k) e, c) refl

-- records of bytes are bytes
pub bytes-flat_map : {A : Type 0} (encode : A → List ℕ) {rs : List A} → Each (λ r. Bytes (encode r)) rs → Bytes (flat_map encode rs)
unfolding flat_map
bytes-flat_map encode each_none i = omega arith
bytes-flat_map encode (each_more {x = r} {xs = rs} b h) i = bytes-append (encode r) (flat_map encode rs) b (bytes-flat_map encode h) i

module _ {A : Type 0} (encode : A → List ℕ) (w : ℕ) where
  -- records of one width take their number of it
  pub length-flat_map : {rs : List A} → Each (λ r. length (encode r) ≡ w) rs → length (flat_map encode rs) ≡ w * length rs
  unfolding flat_map
  length-flat_map each_none = sym (mul-zero w)
  length-flat_map (each_more {x = r} {xs = rs} e h) = rw (length-append, e, length-flat_map h, mul-suc w (length rs)) (add_comm w (w * length rs))

  -- the pieces of packed records are the records' bytes
  pub pieces-flat_map : (t : List ℕ) {rs : List A} → Each (λ r. length (encode r) ≡ w) rs → pieces w (length rs) (flat_map encode rs ++ t) ≡ map encode rs
  unfolding pieces flat_map
  pieces-flat_map t each_none = refl
  pieces-flat_map t (each_more {x = r} {xs = rs} e h) =
      rw (append_assoc (encode r) (flat_map encode rs) t, take_at (encode r) (flat_map encode rs ++ t) w e, drop_at (encode r) (flat_map encode rs ++ t) w e, pieces-flat_map t h) refl

  -- pieces read and written again are the bytes that they were
  pub flat_map-pieces : (decode : List ℕ → A) (n : ℕ) (s : List ℕ) → Each (λ p. encode (decode p) ≡ p) (pieces w n s) → flat_map encode (map decode (pieces w n s)) ≡ take (w * n) s
  unfolding pieces flat_map
  flat_map-pieces decode zero s h = rw (mul-zero w) refl
  flat_map-pieces decode (suc n) s (each_more e h) = rw (e, flat_map-pieces decode n (drop w s) h, mul-suc w n, add_comm (w * n) w) (sym (take-add w (w * n) s))

-- ---- books written

-- a book of bytes
pub bytes-encode_book : {A : Type 0} (encode : A → List ℕ) (size : ℕ) (rs : List A) → Each (λ r. Bytes (encode r)) rs → Bytes (encode_book encode size rs)
unfolding encode_book
bytes-encode_book encode size rs h = bytes-padded size (flat_map encode rs) (bytes-flat_map encode h)

module _ {A : Type 0} (encode : A → List ℕ) (w size : ℕ) (rs : List A) (h : Each (λ r. length (encode r) ≡ w) rs) where
  -- a book has its size
  pub length-encode_book : w * length rs ≤ size → length (encode_book encode size rs) ≡ size
  unfolding encode_book
  length-encode_book l = length-padded size (flat_map encode rs) (rw (length-flat_map encode w h) l)

  -- zeros stand behind the last record
  pub zero-encode_book : zero_behind w (length rs) (encode_book encode size rs) ≡ true
  unfolding encode_book zero_behind
  zero-encode_book = rw (drop-padded size (flat_map encode rs) (w * length rs) (length-flat_map encode w h)) (all_zero-replicate (size - w * length rs))

-- a record whose bytes have the width and say it
pub record Codes {A : Type 0} (encode : A → List ℕ) (decode : List ℕ → A) (w : ℕ) (r : A) : Type 0 where
  pub wide : length (encode r) ≡ w
  pub back : decode (encode r) ≡ r

module _ {A : Type 0} (encode : A → List ℕ) (decode : List ℕ → A) (w : ℕ) where
  -- read after written
  map_back : {rs : List A} → Each (Codes encode decode w) rs → map decode (map encode rs) ≡ rs
  map_back each_none = refl
  map_back (each_more c h) = rw (c.back, map_back h) refl

  -- the records that were written are read
  pub decode-encode_book : (size : ℕ) (rs : List A) → Each (Codes encode decode w) rs → decode_book decode w (length rs) (encode_book encode size rs) ≡ rs
  unfolding decode_book encode_book padded
  decode-encode_book size rs h =
      ap (map decode) (pieces-flat_map encode w _ (each_weaken (λ r c. c.wide) h)) ∙ map_back h

  -- the bytes that were read are written
  pub encode-decode_book : (n : ℕ) (b : List ℕ) → zero_behind w n b ≡ true → w * n ≤ length b → Each (λ p. encode (decode p) ≡ p) (pieces w n b)
      → encode_book encode (length b) (decode_book decode w n b) ≡ b
  unfolding decode_book encode_book zero_behind
  encode-decode_book n b z l h = rw (flat_map-pieces encode w decode n b h) (padded-take b (w * n) l z)

-- a book of n records: it has their places, zeros behind them, and each passes the test of its fixed bytes
pub record Whole (w n : ℕ) (fixed : List ℕ → Bool) (b : List ℕ) : Type 0 where
  pub places : w * n ≤ length b
  pub zeros : zero_behind w n b ≡ true
  pub records : all fixed (pieces w n b) ≡ true

-- the bytes of such a book that were read are written, where those of each of its records are
pub encode-whole : {A : Type 0} (encode : A → List ℕ) (decode : List ℕ → A) (w n : ℕ) (fixed : List ℕ → Bool) (b : List ℕ)
    → ((p : List ℕ) → length p ≡ w → Bytes p → fixed p ≡ true → encode (decode p) ≡ p) → Whole w n fixed b → Bytes b → encode_book encode (length b) (decode_book decode w n b) ≡ b
encode-whole encode decode w n fixed b f h c =
    let ok : Each (λ p. fixed p ≡ true) (pieces w n b) = each_all fixed (λ p e. e) (pieces w n b) h.records in
    let known : Each (λ p. fixed p ≡ true → encode (decode p) ≡ p) (pieces w n b) = each_both (λ p e d. f p e d) (wide-pieces w n b h.places) (bytes-pieces w n b c) in
    encode-decode_book encode decode w n b h.zeros h.places (each_both (λ p e g. g e) ok known)

-- ---- books read

module _ {A : Type 0} (decode : List ℕ → A) (w : ℕ) where
  -- n records are read
  pub length-decode_book : (n : ℕ) (b : List ℕ) → length (decode_book decode w n b) ≡ n
  unfolding decode_book
  length-decode_book n b = length-map (pieces w n b) decode ∙ length-pieces w n b

  -- the record at a place
  pub get_or-decode_book : (n : ℕ) (b : List ℕ) (i : ℕ) (d : A) → i < n → get_or (decode_book decode w n b) i d ≡ decode (part (w * i) w b)
  unfolding decode_book
  get_or-decode_book n b i d l = get_d_map decode (pieces w n b) i d [] (rw (length-pieces w n b) l) ∙ ap decode (get_or-pieces w n b i l)

  -- each record read has what bytes of the width say
  pub each-decode_book : {P : A → Type 0} → ((p : List ℕ) → length p ≡ w → Bytes p → P (decode p)) → (n : ℕ) (b : List ℕ) → w * n ≤ length b → Bytes b → Each P (decode_book decode w n b)
  unfolding decode_book
  each-decode_book f n b l c = each_map decode (each_both (λ p e d. f p e d) (wide-pieces w n b l) (bytes-pieces w n b c))

  -- the records hang on the bytes that they take up
  pub decode_book-same : (n : ℕ) (s t : List ℕ) → take (w * n) s ≡ take (w * n) t → decode_book decode w n s ≡ decode_book decode w n t
  unfolding decode_book
  decode_book-same n s t e = ap (map decode) (pieces-same w n s t e)

  -- the first k records, and the others
  pub decode_book-add : (k m : ℕ) (b : List ℕ) → decode_book decode w (k + m) b ≡ decode_book decode w k b ++ decode_book decode w m (drop (w * k) b)
  unfolding decode_book
  decode_book-add k m b = ap (map decode) (pieces-add w k m b) ∙ map-append decode (pieces w k b) (pieces w m (drop (w * k) b))

  -- the first i records
  pub take-decode_book : (i m : ℕ) (b : List ℕ) → take i (decode_book decode w (i + m) b) ≡ decode_book decode w i b
  take-decode_book i m b =
      rw (decode_book-add i m b) (take_at (decode_book decode w i b) (decode_book decode w m (drop (w * i) b)) i (length-decode_book i b))

  -- the records behind the first i
  pub drop-decode_book : (i m : ℕ) (b : List ℕ) → drop i (decode_book decode w (i + m) b) ≡ decode_book decode w m (drop (w * i) b)
  drop-decode_book i m b =
      rw (decode_book-add i m b) (drop_at (decode_book decode w i b) (decode_book decode w m (drop (w * i) b)) i (length-decode_book i b))

  -- no record
  pub decode_book-none : (b : List ℕ) → decode_book decode w 0 b ≡ []
  unfolding decode_book pieces
  decode_book-none b = refl

  -- the first record, and the others
  pub decode_book-suc : (m : ℕ) (b : List ℕ) → decode_book decode w (suc m) b ≡ decode (take w b) ∷ decode_book decode w m (drop w b)
  unfolding decode_book pieces
  decode_book-suc m b = refl

  -- the bytes of one record, and of others
  pub decode_book-one : (m : ℕ) (x t : List ℕ) → length x ≡ w → decode_book decode w (suc m) (x ++ t) ≡ decode x ∷ decode_book decode w m t
  decode_book-one m x t e = decode_book-suc m (x ++ t) ∙ rw (take_at x t w e, drop_at x t w e) refl

  -- k records put in place of others, in front of m more
  pub decode_book-patch : (i k m : ℕ) (b xs : List ℕ) → length xs ≡ w * k → w * i ≤ length b
      → decode_book decode w (i + (k + m)) (patch b (w * i) xs) ≡ decode_book decode w i b ++ (decode_book decode w k xs ++ decode_book decode w m (drop (w * (i + k)) b))
  unfolding decode_book
  decode_book-patch i k m b xs e h =
      ap (map decode) (pieces-patch w i k m b xs e h)
      ∙ map-append decode (pieces w i b) (pieces w k xs ++ pieces w m (drop (w * (i + k)) b))
      ∙ ap (λ (t : List A). map decode (pieces w i b) ++ t) (map-append decode (pieces w k xs) (pieces w m (drop (w * (i + k)) b)))
