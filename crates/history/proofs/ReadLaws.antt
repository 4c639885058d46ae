-- A read gives the plain array's bytes where each unit of the file, read, is what the array has there: demand 3's claim of reads from one of units.
-- One read is told apart from its call (`read_one`), for a call of many reads does the same with each.
-- Assumes nothing.
use mathlib.Core.Path.{◌≡◌, refl, sym, ap, ◌∙◌}
use mathlib.Core.List.{List, ◌++◌}
use mathlib.Core.Bool.{true, false}
use mathlib.Core.Option.{some}
use Prim.Native.Nat.{ℕ, zero, suc, ◌+◌, ◌-◌, ◌*◌, ◌/◌, ◌%◌, min, ◌≤◌, ◌<◌}
use native.Mathlib.Omega.{arith}
use lib.Dec.{eqb}
use lib.ListN.{length, take, drop, replicate, length-take, length-drop}
use lib.Seq.{take_all, take-take}
use borrow.Author.Tests.{eqb-true, eqb-false}
use Rattle.rules.specs.Lists.{given, range, begun, any, member}
use Rattle.rules.specs.Sizes.{unit_bytes, most_transfer}
use Rattle.rules.specs.Bytes.{part}
use Rattle.rules.specs.Card.{Card}
use Rattle.rules.specs.Store.{Store, Volume, decode, card_of}
use Rattle.rules.specs.Refusal.{Outcome, Result, number_of, result}
use Rattle.rules.specs.Refusal.Refusal.{no_card}
use Rattle.rules.specs.Refusal.Outcome.{refuse, accept}
use Rattle.rules.specs.Units.{valid_length, units_of}
use Rattle.rules.specs.Inspect.{Inspected, inspect_unit}
use Rattle.rules.specs.Inspect.Inspected.{hole, checked}
use Rattle.rules.specs.Arguments.{with_card}
use Rattle.rules.specs.Read.{read_length, follow, then_units, check_units, hand_out, read_units, read_file, read_outcome}
use Rattle.rules.specs.Read.Checked.{bytes}
use Rattle.rules.specs.Call.{call}
use Rattle.rules.specs.Call.Look.{read}
use Rattle.rules.specs.Call.Call.{look}
use Rattle.rules.specs.Plain.{File, file_bytes, plain_read, plain_piece}
use Rattle.rules.specs.Demand.{PlainAnswer, never_numbers}
use Rattle.rules.proofs.ListLaws.{if-cases, given-some, maybe-cases}
use Rattle.rules.proofs.UnitListLaws.{units_of-some}
use Rattle.rules.proofs.ByteLaws.{part_none, part-add, part-part}
use Rattle.rules.proofs.PassLaws.{Passes}
use Rattle.rules.proofs.OutcomeLaws.{never-zero, goes_on}
use Rattle.history.proofs.HistoryLaws.{Never}

-- what reading a unit finds is these bytes: a hole where they are zeros, or they themselves
pub data UnitIs (xs : List ℕ) : Inspected → Type 0 where
  is-hole : xs ≡ replicate (length xs) 0 → UnitIs xs hole
  is-checked : {ys : List ℕ} → xs ≡ ys → UnitIs xs (checked ys)

-- the units of a file, read, are its bytes
abbrev pub FileIs : Volume → ℕ → List ℕ → Type 0
FileIs v object xs = (u : ℕ) → u * unit_bytes < length xs → UnitIs (part (u * unit_bytes) unit_bytes xs) (inspect_unit v object (length xs) u)

-- such a unit's bytes come first
then_is : {xs : List ℕ} {i : Inspected} (valid : ℕ) (ys : List ℕ) → UnitIs xs i → valid ≡ length xs → then_units valid i (bytes ys) ≡ bytes (xs ++ ys)
unfolding then_units follow
then_is {xs} valid ys (is-hole e) l = ap (λ (zs : List ℕ). bytes (zs ++ ys)) (ap (λ (n : ℕ). replicate n 0) l ∙ sym e)
then_is {xs} valid ys (is-checked e) l = ap (λ (zs : List ℕ). bytes (zs ++ ys)) (sym e)

-- a unit's valid length is that of the bytes that stand there
valid-part : (xs : List ℕ) (u : ℕ) → valid_length (length xs) u ≡ length (part (u * unit_bytes) unit_bytes xs)
unfolding valid_length part
valid-part xs u = simp (length-take, length-drop) (omega arith)

-- m units from f on, checked
pub check-is : (v : Volume) (object : ℕ) (xs : List ℕ) → FileIs v object xs → (m f : ℕ) → ((u : ℕ) → f ≤ u → u < f + m → u * unit_bytes < length xs)
    → check_units v object (length xs) (range f m) ≡ bytes (part (f * unit_bytes) (m * unit_bytes) xs)
unfolding check_units range
check-is v object xs h zero f l = ap bytes (sym (part_none xs (f * unit_bytes)))
check-is v object xs h (suc m) f l =
    let a : f * unit_bytes + unit_bytes ≡ suc f * unit_bytes = omega arith in
    let b : suc m * unit_bytes ≡ unit_bytes + m * unit_bytes = omega arith in
    let r : check_units v object (length xs) (range (suc f) m) ≡ bytes (part (suc f * unit_bytes) (m * unit_bytes) xs) =
    check-is v object xs h m (suc f) (λ u p q. l u (omega arith) (omega arith)) in
    rw r (then_is (valid_length (length xs) f) (part (suc f * unit_bytes) (m * unit_bytes) xs) (h f (l f (omega arith) (omega arith))) (valid-part xs f)
    ∙ ap bytes (rw (← a, b) (sym (part-add xs (f * unit_bytes) unit_bytes (m * unit_bytes)))))

-- the first k of a list are as many as there are
take-cut : (n k : ℕ) (ys : List ℕ) → n ≡ min k (length ys) → take k ys ≡ take n ys
take-cut n k ys e = sym (take_all n (take k ys) (simp length-take (omega arith))) ∙ take-take n k ys (omega arith)

-- the plain array's bytes for a read are as many as a read gets
pub plain-part : (xs : List ℕ) (offset room : ℕ) → plain_read xs offset room ≡ part offset (read_length (length xs) offset room) xs
unfolding plain_read part read_length
plain-part xs offset room =
    take-cut (read_length (length xs) offset room) (min room most_transfer) (drop offset xs) (simp length-drop (omega arith))

-- and so many they are
pub plain-length : (xs : List ℕ) (offset room : ℕ) → length (plain_read xs offset room) ≡ read_length (length xs) offset room
unfolding plain_read read_length
plain-length xs offset room = simp (length-take, length-drop) (omega arith)

-- the units that a read of some bytes touches, checked, have its bytes
pub check-part : (v : Volume) (object : ℕ) (xs : List ℕ) → FileIs v object xs → (offset n : ℕ) → (n ≡ 0 → ⊥) → offset + n ≤ length xs
    → (found : List ℕ) × (check_units v object (length xs) (units_of offset (offset + n)) ≡ bytes found) × (part (offset % unit_bytes) n found ≡ part offset n xs)
check-part v object xs h offset n z l =
    let f : ℕ = offset / unit_bytes in
    let m : ℕ = begun (offset + n) unit_bytes - f in
    let a : f * unit_bytes + offset % unit_bytes ≡ offset = omega arith in (
      part (f * unit_bytes) (m * unit_bytes) xs,
      ap (check_units v object (length xs)) (units_of-some offset (offset + n) (omega (arith, z))) ∙ check-is v object xs h m f (λ u p q. omega arith),
      part-part xs (f * unit_bytes) (m * unit_bytes) (offset % unit_bytes) n (omega arith) ∙ ap (λ (k : ℕ). part k n xs) a,
    )

-- what a volume says of an object: its card's size is that of these bytes, and its units are they
abbrev pub ObjectIs : Volume → ℕ → List ℕ → Type 0
ObjectIs v object xs = (c : Card) → card_of v object ≡ some c → (c.size ≡ length xs) × FileIs v c.object xs

-- a read that gets some bytes lies in the file
read-within : (size offset room : ℕ) → (read_length size offset room ≡ 0 → ⊥) → offset + read_length size offset room ≤ size
unfolding read_length
read-within size offset room z = omega arith

module _ (s : Store) (object : ℕ) (xs : List ℕ) (known : ObjectIs (decode s) object xs) (offset : ℕ) (out : List ℕ) where
  -- the units that a read touches, checked, have the plain array's bytes
  read-units : (c : Card) → card_of (decode s) object ≡ some c → (read_length c.size offset (length out) ≡ 0 → ⊥)
      → (found : List ℕ)
      × (check_units (decode s) c.object c.size (units_of offset (offset + read_length c.size offset (length out))) ≡ bytes found)
      × (part (offset % unit_bytes) (read_length c.size offset (length out)) found ≡ plain_read xs offset (length out))
  read-units c q z =
      let w : read_length (length xs) offset (length out) ≡ 0 → ⊥ = rw (known c q).0 at z in
      rw ((known c q).0, plain-part xs offset (length out))
      (check-part (decode s) c.object xs (known c q).1 offset (read_length (length xs) offset (length out)) w (read-within (length xs) offset (length out) w))

  -- so a read of the file is accepted, with their number and with them in front of the buffer's rest
  read_done : (c : Card) → card_of (decode s) object ≡ some c
      → read_file offset s out c ≡ accept (length (plain_read xs offset (length out))) s (plain_piece xs offset out)
  unfolding read_file read_units hand_out plain_piece
  read_done c q = rw (plain-length xs offset (length out), ← (known c q).0) (if-cases (λ o. o ≡ gives n) (eqb n 0) (accept 0 s out) _ nothing something)
    where
      n : ℕ
      n = read_length c.size offset (length out)

      gives : ℕ → Outcome
      gives k = accept k s (plain_read xs offset (length out) ++ drop k out)

      nothing : eqb n 0 ≡ true → accept 0 s out ≡ gives n
      nothing z =
          let e : n ≡ 0 = eqb-true n 0 z in
          let k : read_length (length xs) offset (length out) ≡ 0 = rw (known c q).0 at e in
          rw (e, plain-part xs offset (length out), k, part_none xs offset) refl

      something : eqb n 0 ≡ false → hand_out (offset % unit_bytes) n s out (check_units (decode s) c.object c.size (units_of offset (offset + n))) ≡ gives n
      something z = let h = read-units c q (eqb-false n 0 z) in rw (h.1, h.2) refl

-- ---- what becomes of reads

-- refused for want of a card alone, or accepted: then the store stays, and what is given is as P says
pub data Reads (P : Result → Type 0) (s : Store) (out : List ℕ) : Outcome → Type 0 where
  no-file : Reads P s out (refuse no_card)
  answered : (n : ℕ) (filled : List ℕ) → P (result s out (accept n s filled)) → Reads P s out (accept n s filled)

-- so what is accepted gives what P says
pub reads-give : {P : Result → Type 0} {s : Store} {out : List ℕ} {o : Outcome} → Reads P s out o → (result s out o).number ≡ 0 → P (result s out o)
reads-give {s = s} {out = out} no-file e = absurd (never-zero s out no_card e)
reads-give (answered n filled a) e = a

-- and nothing is refused with "2, 9 to 12 and 14"
pub reads-never : {P : Result → Type 0} {s : Store} {out : List ℕ} {o : Outcome} → Reads P s out o → Never s out o
unfolding result number_of member any
reads-never no-file = refl
reads-never (answered n filled a) = refl

-- the volume and the plain arrays have the same objects, and each object says its array's bytes
abbrev pub AllKnown : List File → Volume → Type 0
AllKnown files v =
    (object : ℕ) → (given (file_bytes files object) ≡ given (card_of v object)) × ((xs : List ℕ) → file_bytes files object ≡ some xs → ObjectIs v object xs)

module _ (files : List File) (s : Store) (known : AllKnown files (decode s)) (object offset : ℕ) (out : List ℕ) where
  -- one read, whichever call does it: it is refused for want of a card alone, and else gives the plain array's bytes
  pub read_one : Reads (PlainAnswer files object offset out) s out (with_card (decode s) object (read_file offset s out))
  unfolding with_card result plain_piece given
  read_one =
      maybe-cases (Reads (PlainAnswer files object offset out) s out) (refuse no_card) (read_file offset s out) (card_of (decode s) object) (λ q. no-file)
      (λ c q. let k = given-some (file_bytes files object) ((known object).0 ∙ ap given q) in
      rw (read_done s object k.0 ((known object).1 k.0 k.1) offset out c q) (answered _ _ (record { bytes = k.0; known = k.1; count = refl; buffer = refl })))

  module _ (p : Passes s) where
    -- every accepted read gives the plain array's bytes
    pub read_plain : (call (look (read object offset out)) s).number ≡ 0 → PlainAnswer files object offset out (call (look (read object offset out)) s)
    unfolding call read_outcome
    read_plain = rw (goes_on s (with_card (decode s) object (read_file offset s out)) p) (reads-give read_one)

    -- and no read is refused with "2, 9 to 12 and 14"
    pub read-never : member (call (look (read object offset out)) s).number never_numbers ≡ false
    unfolding call read_outcome
    read-never = rw (goes_on s (with_card (decode s) object (read_file offset s out)) p) (reads-never read_one)
