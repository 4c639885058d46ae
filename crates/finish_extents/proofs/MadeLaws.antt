-- Extents in a lent buffer: one more put behind them, joined with the last or not, leaves the bytes of the extents with it.
-- Assumes nothing.
use mathlib.Core.Path.{◌≡◌, refl, sym, ap, ◌∙◌}
use mathlib.Core.List.{List, [], ◌∷◌, ◌++◌, map, map-append}
use mathlib.Core.Bool.{Bool, true, false}
use Prim.Native.Nat.{ℕ, zero, suc, ◌+◌, ◌-◌, ◌*◌, ◌^◌, ◌≤◌, ◌<◌}
use native.Mathlib.Omega.{arith}
use lib.ListN.{length, take, drop, length-map}
use lib.Seq.{take_at}
use Rattle.rules.specs.Bytes.{Bytes, part, patch, pieces}
use Rattle.rules.specs.Extent.{Extent, extent_bytes, encode_extent, decode_extent, joins, joined}
use Rattle.rules.specs.Book.{decode_book}
use Rattle.rules.proofs.ListLaws.{clash}
use Rattle.rules.proofs.ByteLaws.{length_part, bytes-part, part-all}
use Rattle.rules.proofs.BookLaws.{length-decode_book, length-pieces, pieces-add, pieces-patch}
use Rattle.rules.proofs.ExtentLaws.{ExtentFits, decode-encode_extent, length-encode_extent, fits-decode_extent}
use Rattle.history.proofs.MeetLaws.{Joining, joins_true}
use Rattle.format.specs.declared.extent.Extent.{Extent as ExtentStruct}
use Rattle.format.specs.Records.{extent_of}
use Rattle.book.specs.Places.{record_at}
use Rattle.finish_extents.specs.Stretch.{push, Made, joins_last, Pushed}
use Rattle.finish_extents.proofs.JoinLaws.{push-first, push-joins, push-apart}

-- ---- the last

-- there is none
pub last_none : (n : ℕ) (s : List ℕ) (e : Extent) → n ≡ 0 → false ≡ joins_last n s e
unfolding joins_last
last_none zero s e q = refl
last_none (suc n) s e q = absurd (omega arith)

-- it is the record in front of the end
pub last_some : (n : ℕ) (s : List ℕ) (l e : Extent) (r : Bool) → (n ≡ 0 → ⊥) → l ≡ decode_extent (part (33 * (n - 1)) extent_bytes s) → r ≡ joins l e → r ≡ joins_last n s e
unfolding joins_last record_at
last_some zero s l e r k q t = absurd (k refl)
last_some (suc n) s l e r k q t = let m : suc n - 1 ≡ n = omega arith in t ∙ ap (λ (x : Extent). joins x e) (q ∙ ap (λ (i : ℕ). decode_extent (part (33 * i) extent_bytes s)) m)

-- so where it joins there is one
pub last-there : (n : ℕ) (s : List ℕ) (e : Extent) (b : Bool) → b ≡ joins_last n s e → b ≡ true → 0 < n
unfolding joins_last
last-there zero s e b q t = absurd (clash refl (sym q ∙ t))
last-there (suc n) s e b q t = omega arith

-- and that joins
pub last-joins : (n : ℕ) (s : List ℕ) (e : Extent) (b : Bool) → b ≡ joins_last n s e → b ≡ true → joins (record_at decode_extent extent_bytes s (n - 1)) e ≡ true
unfolding joins_last
last-joins zero s e b q t = absurd (clash refl (sym q ∙ t))
last-joins (suc n) s e b q t = let m : suc n - 1 ≡ n = omega arith in rw m (sym q ∙ t)

-- what is read there is it
pub last-read : (n : ℕ) (s : List ℕ) (l e : Extent) → joins (record_at decode_extent extent_bytes s (n - 1)) e ≡ true → l ≡ decode_extent (part (33 * (n - 1)) extent_bytes s) → joins l e ≡ true
unfolding record_at
last-read n s l e t q = rw q t

-- and is written with the other
pub last_written : (n : ℕ) (s t : List ℕ) (l x e : Extent) → l ≡ decode_extent (part (33 * (n - 1)) extent_bytes s) → x ≡ joined l e → t ≡ patch s (33 * (n - 1)) (encode_extent x)
    → t ≡ patch s (extent_bytes * (n - 1)) (encode_extent (joined (record_at decode_extent extent_bytes s (n - 1)) e))
unfolding record_at
last_written n s t l x e p q r = r ∙ ap (λ (y : Extent). patch s (33 * (n - 1)) (encode_extent y)) (q ∙ ap (λ (y : Extent). joined y e) p)

-- ---- the buffer

-- a piece of the width is what it is
one_piece : (x : Extent) → pieces extent_bytes 1 (encode_extent x) ≡ encode_extent x ∷ []
unfolding pieces
one_piece x = ap (λ (p : List ℕ). p ∷ []) ((unfold part in part-all (encode_extent x) 33 (omega (arith, length-encode_extent x))))

-- none are made
pub made_none : (s : List ℕ) → Made 0 s []
made_none s = record { written = unfold pieces in refl; read = unfold decode_book pieces in refl }

-- one more
made_more : (m : ℕ) (s t : List ℕ) (ds : List Extent) (x : Extent) → Made m s ds → extent_bytes * m ≤ length s → t ≡ patch s (extent_bytes * m) (encode_extent x) → ExtentFits x
    → Made (m + 1) t (ds ++ (x ∷ []))
unfolding decode_book
made_more m s t ds x h l q f =
    let p : pieces extent_bytes (m + 1) t ≡ pieces extent_bytes m s ++ (encode_extent x ∷ []) =
    ap (pieces extent_bytes (m + 1)) q ∙ pieces-patch extent_bytes m 1 0 s (encode_extent x) (omega (arith, length-encode_extent x)) l ∙ rw (one_piece x) (unfold pieces in refl) in
    record {
      written = p ∙ rw h.written (sym (map-append encode_extent ds (x ∷ [])));
      read = ap (map decode_extent) p ∙ map-append decode_extent (pieces extent_bytes m s) (encode_extent x ∷ [])
          ∙ rw (decode-encode_extent x f) (ap (λ (es : List Extent). es ++ (x ∷ [])) h.read);
    }

-- all but the last of a book, and that
book-split : (m : ℕ) (s : List ℕ) → decode_book decode_extent extent_bytes (m + 1) s ≡ decode_book decode_extent extent_bytes m s ++ (record_at decode_extent extent_bytes s m ∷ [])
unfolding decode_book record_at part
book-split m s = ap (map decode_extent) (pieces-add extent_bytes m 1 s) ∙ map-append decode_extent (pieces extent_bytes m s) (pieces extent_bytes 1 (drop (extent_bytes * m) s)) ∙ (unfold pieces in refl)

-- those that were made are such
made-split : (m : ℕ) (s : List ℕ) (es : List Extent) → Made (m + 1) s es → es ≡ decode_book decode_extent extent_bytes m s ++ (record_at decode_extent extent_bytes s m ∷ [])
made-split m s es h = sym h.read ∙ book-split m s

-- and all but the last were made before it
made-front : (m : ℕ) (s : List ℕ) (es : List Extent) → Made (m + 1) s es → Made m s (decode_book decode_extent extent_bytes m s)
made-front m s es h =
    let ds : List Extent = decode_book decode_extent extent_bytes m s in
    let l : Extent = record_at decode_extent extent_bytes s m in
    let n : length ds ≡ m = length-decode_book decode_extent extent_bytes m s in
    let a : pieces extent_bytes m s ++ pieces extent_bytes 1 (drop (extent_bytes * m) s) ≡ map encode_extent ds ++ (encode_extent l ∷ []) =
    sym (pieces-add extent_bytes m 1 s) ∙ h.written ∙ ap (map encode_extent) (made-split m s es h) ∙ map-append encode_extent ds (l ∷ []) in
    record {
      written = sym (take_at (pieces extent_bytes m s) (pieces extent_bytes 1 (drop (extent_bytes * m) s)) m (length-pieces extent_bytes m s)) ∙ ap (take m) a
          ∙ take_at (map encode_extent ds) (encode_extent l ∷ []) m (length-map ds encode_extent ∙ n);
      read = refl;
    }

-- ---- one more extent

-- two as one keep within the widths
fits-joined : (l x : Extent) → ExtentFits l → joins l x ≡ true → ExtentFits (joined l x)
unfolding joined
fits-joined l x f t = let j : Joining l x = joins_true l x t in record { object = f.object; logical = f.logical; physical = f.physical; count = omega (arith, j.most) }

-- it joins the last
pub pushed-joined : (n : ℕ) (s t : List ℕ) (x : Extent) (c : Bool) → Bytes s → extent_bytes * (n + 1) ≤ length s → c ≡ joins_last n s x → c ≡ true
    → t ≡ patch s (extent_bytes * (n - 1)) (encode_extent (joined (record_at decode_extent extent_bytes s (n - 1)) x)) → Pushed n s x n t
pushed-joined zero s t x c b l k o q = absurd (omega (arith, last-there 0 s x c k o))
pushed-joined (suc m) s t x c b l k o q = go
  where
    e : Extent
    e = record_at decode_extent extent_bytes s m

    less : suc m - 1 ≡ m
    less = omega arith

    more : m + 1 ≡ suc m
    more = omega arith

    fits : ExtentFits e
    fits = unfold record_at in fits-decode_extent (part (extent_bytes * m) extent_bytes s) (length_part s (extent_bytes * m) extent_bytes (omega arith)) (bytes-part s (extent_bytes * m) extent_bytes b)

    j : joins e x ≡ true
    j = rw less at (last-joins (suc m) s x c k o)

    go : (es : List Extent) → Made (suc m) s es → Made (suc m) t (push es x)
    go es h =
        let g : Made (m + 1) s es = rw more h in
        let ds : List Extent = decode_book decode_extent extent_bytes m s in
        let w : push es x ≡ ds ++ (joined e x ∷ []) = ap (λ (zs : List Extent). push zs x) (made-split m s es g) ∙ push-joins ds e x j in
        rw (w, ← more) (made_more m s t ds (joined e x) (made-front m s es g) (omega arith) (rw less at q) (fits-joined e x fits j))

-- it does not
pub pushed-apart : (n : ℕ) (s t : List ℕ) (x : Extent) (c : Bool) → extent_bytes * (n + 1) ≤ length s → c ≡ joins_last n s x → c ≡ false → ExtentFits x → t ≡ patch s (extent_bytes * n) (encode_extent x)
    → Pushed n s x (n + 1) t
pushed-apart zero s t x c l k o f q es h =
    let z : es ≡ [] = sym h.read ∙ (unfold decode_book pieces in refl) in
    rw (z, push-first x) (made_more 0 s t [] x (made_none s) (omega arith) q f)
pushed-apart (suc m) s t x c l k o f q es h =
    let more : m + 1 ≡ suc m = omega arith in
    let g : Made (m + 1) s es = rw more h in
    let ds : List Extent = decode_book decode_extent extent_bytes m s in
    let e : Extent = record_at decode_extent extent_bytes s m in
    let w : push es x ≡ es ++ (x ∷ []) = ap (λ (zs : List Extent). push zs x) (made-split m s es g) ∙ push-apart ds e x (unfold joins_last in sym k ∙ o) ∙ ap (λ (zs : List Extent). zs ++ (x ∷ [])) (sym (made-split m s es g)) in
    rw w (made_more (suc m) s t es x h (omega arith) q f)

-- what a struct says keeps within the widths
pub fits-struct : (e : ExtentStruct) → e.object < 2 ^ 64 → e.logical < 2 ^ 64 → e.physical < 2 ^ 64 → e.count < 2 ^ 32 → ExtentFits (extent_of e)
unfolding extent_of
fits-struct e a b c d = record { object = a; logical = b; physical = c; count = d }
