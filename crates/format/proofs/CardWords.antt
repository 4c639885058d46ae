-- Fields of a card read by themselves, each from the words that hold it.
-- Assumes nothing.
use mathlib.Core.Path.{◌≡◌, refl, ap, ap₂, ◌∙◌}
use mathlib.Core.List.{List, [], ◌∷◌}
use Prim.Native.Nat.{ℕ, ◌+◌, ◌*◌, ◌/◌, ◌%◌, ◌^◌, ◌≤◌}
use native.Mathlib.Omega.{arith}
use lib.Dec.{eqb}
use lib.ListN.{length, get_or}
use Rattle.rules.specs.Bytes.{Bytes, be, part}
use Rattle.rules.specs.Card.{card_bytes, card_fields, decode_card, card_spare_zero}
use Rattle.rules.proofs.ByteLaws.{be-part-lt}
use Rattle.fields.proofs.FieldLaws.{card-fields, card-read}

-- the word of 64 bits at a place
abbrev word : List ℕ → ℕ → ℕ
word s k = be (part k 8 s)

module _ (s : List ℕ) (at : ℕ) (b : Bytes s) (l : at + card_bytes ≤ length s) where
  -- the fields in the six words
  fields : (word s at
      ∷ word s (at + 8) / 2
      ∷ (word s (at + 8) % 2 * 2 ^ 34 + word s (at + 16) / 2 ^ 30)
      ∷ (word s (at + 16) % 2 ^ 30 * 2 ^ 33 + word s (at + 24) / 2 ^ 31)
      ∷ word s (at + 24) / 2 % 2 ^ 30
      ∷ (word s (at + 24) % 2 * 2 ^ 62 + word s (at + 32) / 2 ^ 2)
      ∷ (word s (at + 32) % 2 ^ 2 * 2 ^ 28 + word s (at + 40) / 2 ^ 36)
      ∷ word s (at + 40) % 2 ^ 36
      ∷ [])
      ≡ card_fields (part at card_bytes s)
  unfolding card_fields
  fields =
      card-read s _ at (word s at) (word s (at + 8)) (word s (at + 16)) (word s (at + 24)) (word s (at + 32)) (word s (at + 40)) l refl refl refl refl refl refl
      (card-fields (word s at) (word s (at + 8)) (word s (at + 16)) (word s (at + 24)) (word s (at + 32)) (word s (at + 40))
      (be-part-lt s at 8 (omega arith) b) (be-part-lt s (at + 8) 8 (omega arith) b) (be-part-lt s (at + 16) 8 (omega arith) b)
      (be-part-lt s (at + 24) 8 (omega arith) b) (be-part-lt s (at + 32) 8 (omega arith) b) (be-part-lt s (at + 40) 8 (omega arith) b))

  -- the object
  pub object-read : (x : ℕ) → x ≡ word s at → x ≡ (decode_card (part at card_bytes s)).object
  unfolding decode_card
  object-read x e = e ∙ ap (λ (vs : List ℕ). get_or vs 0 0) fields

  -- the size
  pub size-read : (x : ℕ) → x ≡ word s (at + 8) → x / 2 ≡ (decode_card (part at card_bytes s)).size
  unfolding decode_card
  size-read x e = ap (λ (y : ℕ). y / 2) e ∙ ap (λ (vs : List ℕ). get_or vs 1 0) fields

  -- the nanoseconds of the last change
  pub time-read : (x : ℕ) → x ≡ word s (at + 24) → x / 2 % 1073741824 ≡ (decode_card (part at card_bytes s)).changed.nanoseconds
  unfolding decode_card
  time-read x e = ap (λ (y : ℕ). y / 2 % 1073741824) e ∙ ap (λ (vs : List ℕ). get_or vs 4 0) fields

  -- those of the creation, from two words
  pub created-read : (x y : ℕ) → x ≡ word s (at + 32) → y ≡ word s (at + 40) → x % 4 * 268435456 + y / 68719476736 ≡ (decode_card (part at card_bytes s)).created.nanoseconds
  unfolding decode_card
  created-read x y e f = ap₂ (λ (v w : ℕ). v % 4 * 268435456 + w / 68719476736) e f ∙ ap (λ (vs : List ℕ). get_or vs 6 0) fields

  -- the spare bits
  pub spare-read : (x : ℕ) → x ≡ word s (at + 40) → eqb (x % 68719476736) 0 ≡ card_spare_zero (part at card_bytes s)
  unfolding card_spare_zero
  spare-read x e = ap (λ (y : ℕ). eqb (y % 68719476736) 0) e ∙ ap (λ (vs : List ℕ). eqb (get_or vs 7 0) 0) fields
