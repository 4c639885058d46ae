-- The key of an extent and of a group: two numbers of 8 bytes big-endian with a fixed byte between them, in front of other bytes.
-- Assumes nothing.
use mathlib.Core.Path.{◌≡◌, refl, sym, ap, ◌∙◌}
use mathlib.Core.List.{List, [], ◌∷◌, ◌++◌, append_assoc}
use Prim.Native.Nat.{ℕ, ◌^◌, ◌≤◌, ◌<◌}
use native.Mathlib.Omega.{arith}
use lib.ListN.{length, get_or, length-append}
use lib.Seq.{get_or_at}
use Rattle.rules.specs.Bytes.{Bytes, be, be_digits, part}
use Rattle.rules.proofs.ByteLaws.{be_digits-part, length-be_digits, bytes-be_digits, bytes-append, bytes-cons, be-be_digits-fits, part-add, part-suc, part-first, part_left, part-last}

-- the 17 bytes of a key
unfoldable pub key : ℕ → ℕ → ℕ → List ℕ
key a tag b = be_digits 8 a ++ (tag ∷ be_digits 8 b)

module _ (a tag b : ℕ) where
  -- a key takes 17 bytes
  pub length-key : length (key a tag b) ≡ 17
  unfolding key
  length-key = rw (length-append, length-be_digits 8 a, length-be_digits 8 b) refl

  -- each of them a byte
  pub bytes-key : tag < 256 → Bytes (key a tag b)
  unfolding key
  bytes-key h = bytes-append (be_digits 8 a) (tag ∷ be_digits 8 b) (bytes-be_digits 8 a) (bytes-cons tag (be_digits 8 b) h (bytes-be_digits 8 b))

  module _ (t : List ℕ) where
    -- the first number is read
    pub key-first : a < 2 ^ 64 → be (part 0 8 (key a tag b ++ t)) ≡ a
    unfolding key
    key-first h =
        rw (append_assoc (be_digits 8 a) (tag ∷ be_digits 8 b) t, part-first (be_digits 8 a) (tag ∷ (be_digits 8 b ++ t)) 8 (length-be_digits 8 a)) (be-be_digits-fits 8 a h)

    -- the second number is read
    pub key-second : b < 2 ^ 64 → be (part 9 8 (key a tag b ++ t)) ≡ b
    key-second h =
        let k : key a tag b ≡ be_digits 8 a ++ (tag ∷ []) ++ be_digits 8 b = unfold key in sym (append_assoc (be_digits 8 a) (tag ∷ []) (be_digits 8 b)) in
        let n : length (be_digits 8 a ++ (tag ∷ [])) ≡ 9 = rw (length-append, length-be_digits 8 a) refl in
        rw (part_left (key a tag b) t 9 8 (rw length-key (omega arith)), k, part-last (be_digits 8 a ++ (tag ∷ [])) (be_digits 8 b) 9 8 n (length-be_digits 8 b)) (be-be_digits-fits 8 b h)

    -- the fixed byte is there
    pub key-tag : get_or (key a tag b ++ t) 8 0 ≡ tag
    unfolding key
    key-tag =
        rw (append_assoc (be_digits 8 a) (tag ∷ be_digits 8 b) t) (get_or_at (be_digits 8 a) tag (be_digits 8 b ++ t) 0 8 (length-be_digits 8 a))

-- bytes that have the fixed byte begin with the key of the numbers that they say
pub key_of : (s : List ℕ) (tag : ℕ) → 17 ≤ length s → Bytes s → get_or s 8 0 ≡ tag → key (be (part 0 8 s)) tag (be (part 9 8 s)) ≡ part 0 17 s
unfolding key
key_of s tag l b e =
    let p : be_digits 8 (be (part 0 8 s)) ≡ part 0 8 s = be_digits-part s 0 8 (omega arith) b in
    let q : be_digits 8 (be (part 9 8 s)) ≡ part 9 8 s = be_digits-part s 9 8 (omega arith) b in
    rw (p, q, ← e) (sym (part-add s 0 8 9 ∙ ap (λ (t : List ℕ). part 0 8 s ++ t) (part-suc s 8 8 (omega arith))))
