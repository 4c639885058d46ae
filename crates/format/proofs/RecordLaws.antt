-- Laws of records read at their place and written there: each is what one function of the code has in hand when it returns.
-- Assumes nothing.
use mathlib.Core.Path.{◌≡◌, refl, sym, ap, ◌∙◌}
use mathlib.Core.Bool.{false, ◌&&◌}
use mathlib.Core.List.{List, [], ◌∷◌, ◌++◌, append_assoc}
use Prim.Native.Nat.{ℕ, ◌+◌, ◌-◌, ◌*◌, ◌^◌, ◌≤◌, ◌<◌}
use native.Mathlib.Nat.{add-zero}
use native.Mathlib.Omega.{arith}
use borrow.Author.Tests.{eqb-true, eq-eqb, ne_eqb}
use lib.Dec.{eqb}
use lib.ListN.{length, take, drop, get_or, replicate, length-append, length-drop}
use lib.Seq.{take_all}
use Rattle.rules.specs.Bytes.{be, le, be_digits, le_digits, part, patch, unpack, all_zero}
use Rattle.rules.specs.Head.{head_bytes, uuid_bytes, head_widths, head_fields, decode_head}
use Rattle.rules.specs.Card as rules
use Rattle.rules.specs.Card.{card_bytes, card_widths, card_fields, decode_card}
use Rattle.rules.specs.Extent.{extent_bytes, extent_key, decode_extent, encode_extent, extent_fixed}
use Rattle.rules.specs.Lists.{all}
use Rattle.rules.proofs.ListLaws.{and_left, and_right, and_intro}
use Rattle.rules.proofs.ScanLaws.{same_test}
use Rattle.rules.proofs.ByteLaws.{length-be_digits, length-le_digits, get_d_part, part-part, patch-patch}
use Rattle.rules.proofs.CardLaws as laws
use Rattle.rules.proofs.FieldLaws.{Fit, fit_at, fit-unpack}
use Rattle.fields.specs.Fields.{head_values}
use Rattle.fields.specs.declared.Head.{Head as HeadValues}
use Rattle.words.proofs.NumberLaws.{patch-whole}
use Rattle.format.specs.declared.head.Head.{Head}
use Rattle.format.specs.declared.card.Card.{Card}
use Rattle.format.specs.declared.extent.Extent.{Extent}
use Rattle.format.specs.Records.{head_of, HeadFits, card_of, packed_card, CardFits, extent_of}

-- ---- keys

-- a key in three runs
pub key-put : (s x y z : List ℕ) (at a tag b : ℕ) → at + 17 ≤ length s → x ≡ patch s at (be_digits 8 a) → y ≡ patch x (at + 8) (tag ∷ []) → z ≡ patch y (at + 9) (be_digits 8 b)
    → z ≡ patch s at (be_digits 8 a ++ (tag ∷ be_digits 8 b))
key-put s x y z at a tag b l p q r =
    let m : length (be_digits 8 a) ≡ 8 = length-be_digits 8 a in
    let n : length (be_digits 8 b) ≡ 8 = length-be_digits 8 b in
    let k : length (be_digits 8 a ++ (tag ∷ [])) ≡ 9 = rw (length-append, m) refl in
    let u : y ≡ patch s at (be_digits 8 a ++ (tag ∷ [])) =
    q ∙ ap (λ (t : List ℕ). patch t (at + 8) (tag ∷ [])) p ∙ patch-patch s at (at + 8) (be_digits 8 a) (tag ∷ []) (omega arith) (omega arith) in
    r ∙ ap (λ (t : List ℕ). patch t (at + 9) (be_digits 8 b)) u
    ∙ patch-patch s at (at + 9) (be_digits 8 a ++ (tag ∷ [])) (be_digits 8 b) (omega arith) (omega arith)
    ∙ ap (patch s at) (append_assoc (be_digits 8 a) (tag ∷ []) (be_digits 8 b))

-- ---- zeros

-- a number is zero where all its bytes are
le-zero : (bs : List ℕ) → eqb (le bs) 0 ≡ all_zero bs
unfolding le all_zero all
le-zero [] = refl
le-zero (b ∷ bs) =
    same_test (eqb (b + 256 * le bs) 0) (eqb b 0 && all_zero bs)
    (λ h.
    let z : b + 256 * le bs ≡ 0 = eqb-true (b + 256 * le bs) 0 h in
    and_intro (eqb b 0) (all_zero bs) (eq-eqb b 0 (omega arith)) (sym (le-zero bs) ∙ eq-eqb (le bs) 0 (omega arith)))
    (λ h.
    let y : b ≡ 0 = eqb-true b 0 (and_left (eqb b 0) (all_zero bs) h) in
    let z : le bs ≡ 0 = eqb-true (le bs) 0 (le-zero bs ∙ and_right (eqb b 0) (all_zero bs) h) in
    eq-eqb (b + 256 * le bs) 0 (omega arith))

-- ---- extents

module _ (s : List ℕ) (at : ℕ) where
  -- a part of a record at its place
  pub part_at : (w a n : ℕ) → a + n ≤ w → part a n (part at w s) ≡ part (at + a) n s
  part_at w a n h = part-part s at w a n h

  -- an extent's fields, read
  pub extent-read : (e : Extent) → e.object ≡ be (part at 8 s) → e.logical ≡ be (part (at + 9) 8 s) → e.physical ≡ le (part (at + 17) 8 s) → e.count ≡ le (part (at + 25) 4 s)
      → extent_of e ≡ decode_extent (part at extent_bytes s)
  unfolding extent_of decode_extent
  extent-read e o l p c =
      let z : part 0 8 (part at 33 s) ≡ part at 8 s = part_at 33 0 8 (omega arith) ∙ rw add-zero refl in
      let o' : e.object ≡ be (part 0 8 (part at 33 s)) = o ∙ ap be (sym z) in
      let l' : e.logical ≡ be (part 9 8 (part at 33 s)) = l ∙ ap be (sym (part_at 33 9 8 (omega arith))) in
      let p' : e.physical ≡ le (part 17 8 (part at 33 s)) = p ∙ ap le (sym (part_at 33 17 8 (omega arith))) in
      let c' : e.count ≡ le (part 25 4 (part at 33 s)) = c ∙ ap le (sym (part_at 33 25 4 (omega arith))) in
      λ i. record { object = o' i; logical = l' i; physical = p' i; count = c' i }

  -- a wrong byte in the key
  pub fixed-tag : (get_or s (at + 8) 0 ≡ 3 → ⊥) → false ≡ extent_fixed (part at extent_bytes s)
  unfolding extent_fixed
  fixed-tag n = rw (get_d_part s at 33 8 (omega arith), ne_eqb (get_or s (at + 8) 0) 3 n) refl

  -- the right one leaves it to the zeros
  pub fixed-zeros : (x : ℕ) → get_or s (at + 8) 0 ≡ 3 → x ≡ le (part (at + 29) 4 s) → eqb x 0 ≡ extent_fixed (part at extent_bytes s)
  unfolding extent_fixed
  fixed-zeros x e p =
      rw (p, le-zero (part (at + 29) 4 s), get_d_part s at 33 8 (omega arith), eq-eqb (get_or s (at + 8) 0) 3 e, part_at 33 29 4 (omega arith)) refl

  -- the four runs of an extent, written side by side
  pub extent-put : (x y z t : List ℕ) (e : Extent) → at + extent_bytes ≤ length s → x ≡ patch s at (extent_key e.object e.logical) → y ≡ patch x (at + 17) (le_digits 8 e.physical) → z ≡ patch y (at + 25) (le_digits 4 e.count)
      → t ≡ patch z (at + 29) (replicate (at + 33 - (at + 29)) 0) → t ≡ patch s at (encode_extent (extent_of e))
  unfolding encode_extent extent_of extent_key
  extent-put x y z t e l p q r u =
      let k : List ℕ = be_digits 8 e.object ++ (3 ∷ be_digits 8 e.logical) in
      let v : List ℕ = le_digits 8 e.physical in
      let w : List ℕ = le_digits 4 e.count in
      let lk : length k ≡ 17 = rw (length-append, length-be_digits 8 e.object, length-be_digits 8 e.logical) refl in
      let lv : length v ≡ 8 = length-le_digits 8 e.physical in
      let lw : length w ≡ 4 = length-le_digits 4 e.count in
      let lkv : length (k ++ v) ≡ 25 = rw (length-append, lk, lv) refl in
      let lkvw : length (k ++ v ++ w) ≡ 29 = rw (length-append, lkv, lw) refl in
      let four : at + 33 - (at + 29) ≡ 4 = omega arith in
      let y' : y ≡ patch s at (k ++ v) = q ∙ ap (λ (b : List ℕ). patch b (at + 17) v) p ∙ patch-patch s at (at + 17) k v (omega arith) (omega arith) in
      let z' : z ≡ patch s at (k ++ v ++ w) = r ∙ ap (λ (b : List ℕ). patch b (at + 25) w) y' ∙ patch-patch s at (at + 25) (k ++ v) w (omega arith) (omega arith) in
      u ∙ ap (λ (n : ℕ). patch z (at + 29) (replicate n 0)) four ∙ ap (λ (b : List ℕ). patch b (at + 29) (replicate 4 0)) z'
      ∙ patch-patch s at (at + 29) (k ++ v ++ w) (replicate 4 0) (omega arith) (omega arith)

  -- ---- cards

  -- a card's fields, read
  pub card-read : (c : Card) (spare : ℕ) → packed_card c spare ≡ unpack card_widths (be (part at card_bytes s)) → card_of c ≡ decode_card (part at card_bytes s)
  unfolding card_of decode_card card_fields
  card-read c spare v = λ i. record {
    object = get_or (v i) 0 0;
    size = get_or (v i) 1 0;
    allocated = get_or (v i) 2 0;
    changed = record { seconds = get_or (v i) 3 0; nanoseconds = get_or (v i) 4 0 };
    created = record { seconds = get_or (v i) 5 0; nanoseconds = get_or (v i) 6 0 };
  }

  -- they are within their widths
  pub card-fits : (c : Card) (spare : ℕ) → packed_card c spare ≡ unpack card_widths (be (part at card_bytes s)) → CardFits c
  card-fits c spare v =
      let g : Fit card_widths (unpack card_widths (be (part at card_bytes s))) = fit-unpack card_widths (be (part at card_bytes s)) in
      let fit : Fit card_widths (packed_card c spare) = rw v g in
      record {
        size = fit_at fit 1 (omega arith);
        allocated = fit_at fit 2 (omega arith);
        seconds = fit_at fit 3 (omega arith);
        nanoseconds = fit_at fit 4 (omega arith);
        created_seconds = fit_at fit 5 (omega arith);
        created_nanoseconds = fit_at fit 6 (omega arith);
      }

-- the card that it says is in range
pub card-in-range : (c : Card) → c.object < 2 ^ 64 → CardFits c → laws.CardFits (card_of c)
unfolding card_of
card-in-range c o f = record {
  object = o;
  size = f.size;
  allocated = f.allocated;
  changed = record { seconds = f.seconds; nanoseconds = f.nanoseconds };
  created = record { seconds = f.created_seconds; nanoseconds = f.created_nanoseconds };
}

-- a struct that says a card in range has its fields within their widths
pub fits_said : (c : Card) (k : rules.Card) → card_of c ≡ k → laws.CardFits k → CardFits c
unfolding card_of
fits_said c k e f =
    let g : laws.CardFits (card_of c) = rw e f in
    record {
      size = g.size;
      allocated = g.allocated;
      seconds = g.changed.seconds;
      nanoseconds = g.changed.nanoseconds;
      created_seconds = g.created.seconds;
      created_nanoseconds = g.created.nanoseconds;
    }

-- ---- the head

-- a head's fields, read
pub head_read : (s : List ℕ) (f : HeadValues) (h : Head) → length s ≡ head_bytes → head_values f ≡ unpack head_widths (be (part 16 12 s))
    → h.uuid ≡ take uuid_bytes s → h.blocks ≡ f.blocks → h.reserved ≡ f.reserved → h.hint ≡ f.hint → h.cards ≡ f.cards → h.extents ≡ f.extents → h.groups ≡ f.groups
    → head_of h ≡ decode_head s
unfolding head_of decode_head head_fields
head_read s f h l v u b r n c x g =
    let d : part 16 12 s ≡ drop 16 s = unfold part in take_all 12 (drop 16 s) (simp length-drop (omega arith)) in
    let w : head_values f ≡ unpack head_widths (be (drop 16 s)) = v ∙ ap (λ (t : List ℕ). unpack head_widths (be t)) d in
    (λ i. record { uuid = u i; blocks = b i; reserved = r i; hint = n i; cards = c i; extents = x i; groups = g i })
    ∙ (λ i. record { uuid = take uuid_bytes s; blocks = get_or (w i) 0 0; reserved = get_or (w i) 1 0; hint = get_or (w i) 2 0; cards = get_or (w i) 3 0; extents = get_or (w i) 4 0; groups = get_or (w i) 5 0 })

-- they are within their widths
pub head-fits : (s : List ℕ) (f : HeadValues) (h : Head) → head_values f ≡ unpack head_widths (be (part 16 12 s))
    → h.blocks ≡ f.blocks → h.reserved ≡ f.reserved → h.hint ≡ f.hint → h.cards ≡ f.cards → h.extents ≡ f.extents → h.groups ≡ f.groups → HeadFits h
head-fits s f h v b r n c x g =
    let k : Fit head_widths (unpack head_widths (be (part 16 12 s))) = fit-unpack head_widths (be (part 16 12 s)) in
    let fit : Fit head_widths (head_values f) = rw v k in
    record {
      blocks = rw b (fit_at fit 0 (omega arith));
      reserved = rw r (fit_at fit 1 (omega arith));
      hint = rw n (fit_at fit 2 (omega arith));
      cards = rw c (fit_at fit 3 (omega arith));
      extents = rw x (fit_at fit 4 (omega arith));
      groups = rw g (fit_at fit 5 (omega arith));
    }

-- the uuid and the fields, written side by side
pub head-put : (s x t uuid : List ℕ) (n : ℕ) → length s ≡ head_bytes → length uuid ≡ uuid_bytes → x ≡ patch s 0 uuid → t ≡ patch x 16 (be_digits 12 n) → t ≡ uuid ++ be_digits 12 n
head-put s x t uuid n l u p q =
    let d : length (be_digits 12 n) ≡ 12 = length-be_digits 12 n in
    let w : length (uuid ++ be_digits 12 n) ≡ 28 = rw (length-append, u, d) refl in
    q ∙ ap (λ (b : List ℕ). patch b 16 (be_digits 12 n)) p ∙ patch-patch s 0 16 uuid (be_digits 12 n) (omega arith) (omega arith) ∙ patch-whole s (uuid ++ be_digits 12 n) (omega arith)
