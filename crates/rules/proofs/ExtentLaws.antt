-- An extent: what its bytes say is what was written, and the other way round.
-- Assumes nothing.
use mathlib.Core.Path.{◌≡◌, refl, ap, ◌∙◌}
use mathlib.Core.List.{List, [], ◌∷◌, ◌++◌, append_assoc}
use mathlib.Core.Bool.{true}
use Prim.Native.Nat.{ℕ, ◌^◌, ◌<◌}
use native.Mathlib.Omega.{arith}
use lib.Dec.{eqb}
use lib.ListN.{length, get_or, length-append}
use borrow.Author.Tests.{eqb-true, eq-eqb}
use Rattle.rules.specs.Bytes.{Bytes, be, le, le_digits, part, all_zero}
use Rattle.rules.specs.Extent.{Extent, extent_bytes, extent_key, encode_extent, decode_extent, extent_fixed}
use Rattle.rules.proofs.ListLaws.{and_left, and_right, and_intro}
use Rattle.rules.proofs.ByteLaws.{be-part-lt, le-part-lt, le_digits-part, length-le_digits, bytes-le_digits, bytes-append, bytes-replicate, le-le_digits-fits, length_part, part-add, part-all, part-last, part-middle, zeros_of, all_zero-replicate}
use Rattle.rules.proofs.KeyLaws.{key, length-key, bytes-key, key-first, key-second, key-tag, key_of}
use Rattle.rules.proofs.BookLaws.{Codes}

-- every field of the extent is in its range
pub record ExtentFits (e : Extent) : Type 0 where
  pub object : e.object < 2 ^ 64
  pub logical : e.logical < 2 ^ 64
  pub physical : e.physical < 2 ^ 64
  pub count : e.count < 2 ^ 32

-- the four runs of an extent's bytes: its key, where it is on the device, its count, and zeros
abbrev key_run : Extent → List ℕ
key_run e = key e.object 3 e.logical

abbrev physical_run : Extent → List ℕ
physical_run e = le_digits 8 e.physical

abbrev count_run : Extent → List ℕ
count_run e = le_digits 4 e.count

abbrev zero_run : List ℕ
zero_run = 0 ∷ 0 ∷ 0 ∷ 0 ∷ []

-- the four runs make up an extent's bytes
runs : (e : Extent) → encode_extent e ≡ key_run e ++ physical_run e ++ count_run e ++ zero_run
unfolding encode_extent extent_key key
runs e = refl

-- the key, and what stands behind it
behind-key : (e : Extent) → encode_extent e ≡ key_run e ++ (physical_run e ++ (count_run e ++ zero_run))
behind-key e = runs e ∙ simp append_assoc

-- the bytes in front of the count
length_front : (e : Extent) → length (key_run e ++ physical_run e) ≡ 25
length_front e = rw (length-append, length-key e.object 3 e.logical, length-le_digits 8 e.physical) refl

-- the bytes in front of the zeros
length-filled : (e : Extent) → length (key_run e ++ physical_run e ++ count_run e) ≡ 29
length-filled e = rw (length-append, length_front e, length-le_digits 4 e.count) refl

-- the extent that was written is read
pub decode-encode_extent : (e : Extent) → ExtentFits e → decode_extent (encode_extent e) ≡ e
unfolding decode_extent
decode-encode_extent e f =
    let r : List ℕ = physical_run e ++ (count_run e ++ zero_run) in
    let o : be (part 0 8 (encode_extent e)) ≡ e.object = rw (behind-key e) (key-first e.object 3 e.logical r f.object) in
    let l : be (part 9 8 (encode_extent e)) ≡ e.logical = rw (behind-key e) (key-second e.object 3 e.logical r f.logical) in
    let p : part 17 8 (encode_extent e) ≡ physical_run e = rw (behind-key e, ← append_assoc (key_run e) (physical_run e) (count_run e ++ zero_run))
    (part-middle (key_run e) (physical_run e) (count_run e ++ zero_run) 17 8 (length-key e.object 3 e.logical) (length-le_digits 8 e.physical)) in
    let c : part 25 4 (encode_extent e) ≡ count_run e = rw (runs e) (part-middle (key_run e ++ physical_run e) (count_run e) zero_run 25 4 (length_front e) (length-le_digits 4 e.count)) in
    let d : le (part 17 8 (encode_extent e)) ≡ e.physical = ap le p ∙ le-le_digits-fits 8 e.physical f.physical in
    let n : le (part 25 4 (encode_extent e)) ≡ e.count = ap le c ∙ le-le_digits-fits 4 e.count f.count in
    λ i. record { object = o i; logical = l i; physical = d i; count = n i }

-- the bytes that were read are written
pub encode-decode_extent : (s : List ℕ) → length s ≡ extent_bytes → Bytes s → extent_fixed s ≡ true → encode_extent (decode_extent s) ≡ s
unfolding decode_extent extent_fixed
encode-decode_extent s e b z =
    let t : get_or s 8 0 ≡ 3 = eqb-true (get_or s 8 0) 3 (and_left (eqb (get_or s 8 0) 3) (all_zero (part 29 4 s)) z) in
    let k : key (be (part 0 8 s)) 3 (be (part 9 8 s)) ≡ part 0 17 s = key_of s 3 (omega arith) b t in
    let p : le_digits 8 (le (part 17 8 s)) ≡ part 17 8 s = le_digits-part s 17 8 (omega arith) b in
    let c : le_digits 4 (le (part 25 4 s)) ≡ part 25 4 s = le_digits-part s 25 4 (omega arith) b in
    let o : part 29 4 s ≡ zero_run = zeros_of (part 29 4 s) (and_right (eqb (get_or s 8 0) 3) (all_zero (part 29 4 s)) z) ∙ rw (length_part s 29 4 (omega arith)) refl in
    runs (decode_extent s)
    ∙ rw (k, p, c, ← o, ← part-add s 0 17 8, ← part-add s 0 25 4, ← part-add s 0 29 4) (part-all s 33 (omega arith))

-- what 33 bytes say is in range
pub fits-decode_extent : (s : List ℕ) → length s ≡ extent_bytes → Bytes s → ExtentFits (decode_extent s)
unfolding decode_extent
fits-decode_extent s e b =
    record {
      object = be-part-lt s 0 8 (omega arith) b;
      logical = be-part-lt s 9 8 (omega arith) b;
      physical = le-part-lt s 17 8 (omega arith) b;
      count = le-part-lt s 25 4 (omega arith) b;
    }

-- an extent takes 33 bytes
pub length-encode_extent : (e : Extent) → length (encode_extent e) ≡ extent_bytes
length-encode_extent e = rw (runs e, length-append, length-filled e) refl

-- each of them a byte
pub bytes-encode_extent : (e : Extent) → Bytes (encode_extent e)
bytes-encode_extent e =
    let k : Bytes (key_run e) = bytes-key e.object 3 e.logical (omega arith) in
    let p : Bytes (key_run e ++ physical_run e) = bytes-append (key_run e) (physical_run e) k (bytes-le_digits 8 e.physical) in
    let c : Bytes (key_run e ++ physical_run e ++ count_run e) = bytes-append (key_run e ++ physical_run e) (count_run e) p (bytes-le_digits 4 e.count) in
    rw (runs e) (bytes-append (key_run e ++ physical_run e ++ count_run e) zero_run c (bytes-replicate 4 0 (omega arith)))

-- the fixed bytes are written
pub fixed-encode_extent : (e : Extent) → extent_fixed (encode_extent e) ≡ true
unfolding extent_fixed
fixed-encode_extent e =
    let t : get_or (encode_extent e) 8 0 ≡ 3 = rw (behind-key e) (key-tag e.object 3 e.logical (physical_run e ++ (count_run e ++ zero_run))) in
    let o : part 29 4 (encode_extent e) ≡ zero_run = rw (runs e) (part-last (key_run e ++ physical_run e ++ count_run e) zero_run 29 4 (length-filled e) refl) in
    and_intro (eqb (get_or (encode_extent e) 8 0) 3) (all_zero (part 29 4 (encode_extent e))) (eq-eqb (get_or (encode_extent e) 8 0) 3 t) (rw o (all_zero-replicate 4))

-- a book may hold it
pub codes-extent : (e : Extent) → ExtentFits e → Codes encode_extent decode_extent extent_bytes e
codes-extent e f = record { wide = length-encode_extent e; back = decode-encode_extent e f }
