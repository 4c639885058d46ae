-- What the code's tests come to: a unit's valid length, and the answers.
-- Assumes nothing.
use mathlib.Core.Path.{◌≡◌, refl, sym, ap, ◌∙◌}
use mathlib.Core.Bool.{Bool, true, false, not}
use mathlib.Core.Option.{Option}
use mathlib.Core.List.{List, ◌∷◌, map}
use Prim.Native.Nat.{ℕ, suc, ◌+◌, ◌-◌, ◌*◌, ◌≤◌, ◌<◌}
use native.Mathlib.Nat.{add-zero}
use native.Mathlib.Decide.{dec_lt}
use native.Mathlib.Omega.{arith}
use lib.ListN.{length, take, drop, get_or, replicate, length-map, length-take, length-drop, drop_of_length-le, get_or-map, get_or-eq_default}
use lib.Seq.{drop-cons, drop-drop, get_or-take, get_or-drop}
use borrow.Author.Tests.{eq-eqb, ne_eqb}
use Rattle.rules.specs.Lists.{pick◌then◌else◌, maybe, given, all, any, begun}
use Rattle.rules.specs.Sizes.{block_bytes, unit_blocks, unit_bytes}
use Rattle.rules.specs.Bytes.{all_zero}
use Rattle.rules.specs.Checksum.{unit_checksum}
use Rattle.rules.specs.Refusal.{number_of}
use Rattle.rules.specs.Units.{valid_length}
use Rattle.rules.specs.Inspect as rules
use Rattle.rules.specs.Inspect.Inspected.{damaged, hole, checked}
use Rattle.rules.specs.Read as read
use Rattle.rules.specs.Read.{follow, then_units}
use Rattle.rules.specs.Read.Checked.{failed, bytes}
use Rattle.mapping.specs.Entries.{entry_of, entries, Inside}
use Rattle.inspect.specs.declared.Inspected.{Inspected}
use Rattle.inspect.specs.declared.Inspected.TheVariants.{Hole, Checked}
use Rattle.std.proofs.Common.{Result, Ok, Err}
use Rattle.std.specs.Int.{div_ceil}
use Rattle.format.specs.Refusals.{refusal_of}
use Rattle.format.specs.declared.refusal.Refusal.{Refusal}
use Rattle.format.specs.declared.refusal.Refusal.TheVariants.{NoChecksum, NotBacked, NonzeroPastEnd, ChecksumDiffers}
use Rattle.inspect.specs.Mapped.{valid_blocks, valid_of, slot_mapped, inspect_mapped, check_mapped}
use Rattle.rules.specs.Answers.{checked_number}
use Rattle.inspect.specs.Answer.{Answers, unit_found, number_from}
use Rattle.inspect.specs.Runs.{backed_bytes}
use Rattle.inspect.proofs.BlockLaws.{take-map, drop-map}

-- the blocks that so many bytes begin, as the code rounds them up
pub rounded : {n : ℕ} (valid : ℕ) → n ≡ div_ceil valid block_bytes → n ≡ begun valid block_bytes
rounded valid e = e ∙ omega arith

-- a unit's valid length is at most its bytes, and not 0 where the unit begins before the file's end
pub valid-most : (size unit valid : ℕ) → valid ≡ valid_length size unit → unit * unit_bytes < size → (0 < valid) × (valid ≤ unit_bytes)
unfolding valid_length
valid-most size unit valid e l = (omega arith, omega arith)

-- ---- a unit with a slot, by the tests that the code has made

module _ (image uuid : List ℕ) (object size unit : ℕ) (blocks : List ℕ) (crc valid n : ℕ) where
  -- the answer where the length and the number of blocks are those
  abbrev Answer : Result Inspected Refusal → Type 0
  Answer r = valid ≡ valid_length size unit → n ≡ begun valid block_bytes → Answers r (slot_mapped image uuid object size unit (entries blocks) crc)

  -- refusal 10
  pub slot-unbacked : (b : Bool) → b ≡ all given (take n (entries blocks)) → not b ≡ true → Answer (Err NotBacked)
  unfolding slot_mapped valid_blocks pick◌then◌else◌ refusal_of
  slot-unbacked b p q e m = rw (← e, ← m, ← p, q) refl

  -- refusal 11
  pub slot-nonzero : (b z : Bool) → b ≡ all given (take n (entries blocks)) → not b ≡ false → z ≡ all_zero (drop valid (backed_bytes image blocks n)) → not z ≡ true → Answer (Err NonzeroPastEnd)
  unfolding slot_mapped valid_blocks backed_bytes pick◌then◌else◌ refusal_of
  slot-nonzero b z p q r s e m = rw (← e, ← m, ← p, q, ← r, s) refl

  -- refusal 12
  pub slot-differs : (b z : Bool) (x : ℕ) → b ≡ all given (take n (entries blocks)) → not b ≡ false → z ≡ all_zero (drop valid (backed_bytes image blocks n)) → not z ≡ false
      → x ≡ unit_checksum uuid object unit (take valid (backed_bytes image blocks n)) → (x ≡ crc → ⊥) → Answer (Err ChecksumDiffers)
  unfolding slot_mapped valid_of valid_blocks backed_bytes pick◌then◌else◌ refusal_of
  slot-differs b z x p q r s u d e m = rw (← e, ← m, ← p, q, ← r, s, ← u, ne_eqb crc x (λ k. d (sym k))) refl

  -- none of them
  pub slot-right : (b z : Bool) (x : ℕ) → b ≡ all given (take n (entries blocks)) → not b ≡ false → z ≡ all_zero (drop valid (backed_bytes image blocks n)) → not z ≡ false
      → x ≡ unit_checksum uuid object unit (take valid (backed_bytes image blocks n)) → x ≡ crc → Answer (Ok Checked)
  unfolding slot_mapped valid_of valid_blocks backed_bytes pick◌then◌else◌
  slot-right b z x p q r s u d e m = (take valid (backed_bytes image blocks n), rw (← e, ← m, ← p, q, ← r, s, ← u, eq-eqb crc x (sym d)) refl)

-- ---- a unit, by its slot

module _ (image uuid : List ℕ) (object size unit : ℕ) (blocks : List ℕ) (slot : ℕ) where
  -- the answer
  abbrev UnitAnswer : Result Inspected Refusal → Type 0
  UnitAnswer r = Answers r (inspect_mapped image uuid object size unit (entries blocks) (entry_of slot))

  -- refusal 9
  pub unit-unslotted : (b : Bool) → slot ≡ 0 → b ≡ any given (entries blocks) → b ≡ true → UnitAnswer (Err NoChecksum)
  unfolding inspect_mapped entry_of maybe pick◌then◌else◌ refusal_of
  unit-unslotted b z p q = rw (z, ← p, q) refl

  -- a hole
  pub unit-hole : (b : Bool) → slot ≡ 0 → b ≡ any given (entries blocks) → b ≡ false → UnitAnswer (Ok Hole)
  unfolding inspect_mapped entry_of maybe pick◌then◌else◌
  unit-hole b z p q = rw (z, ← p, q) refl

  -- a unit with a slot
  pub unit-slotted : (r : Result Inspected Refusal) (crc : ℕ) → crc ≡ slot - 1 → (slot ≡ 0 → ⊥) → Answers r (slot_mapped image uuid object size unit (entries blocks) crc) → UnitAnswer r
  unfolding inspect_mapped entry_of maybe
  unit-slotted r crc e d p =
      let s : slot ≡ suc crc = omega (arith, d) in
      rw s p

-- ---- units one after another

-- bytes in front change no number
follow-number : (xs : List ℕ) (rest : read.Checked) → checked_number (follow xs rest) ≡ checked_number rest
unfolding checked_number follow
follow-number xs (failed r) = refl
follow-number xs (bytes ys) = refl

-- a unit that is not refused, and one that is
then-none : (valid : ℕ) (x : rules.Inspected) (rest : read.Checked) (a : Inspected) → Answers (Ok a) x → checked_number (then_units valid x rest) ≡ checked_number rest
unfolding then_units
then-none valid x rest Hole e = rw e (follow-number (replicate valid 0) rest)
then-none valid x rest Checked e = rw e.1 (follow-number e.0 rest)

then_some : (valid : ℕ) (x : rules.Inspected) (rest : read.Checked) (r : Refusal) → Answers (Err r) x → number_of (refusal_of r) ≡ checked_number (then_units valid x rest)
unfolding then_units checked_number
then_some valid x rest r e = rw e refl

module _ (image uuid : List ℕ) (object size first : ℕ) (slots blocks : List ℕ) where
  -- the slots from the k-th on
  slots-from : (k : ℕ) → k < length slots → drop k (entries slots) ≡ entry_of (get_or slots k 0) ∷ drop (suc k) (entries slots)
  unfolding entries
  slots-from k l =
      drop-cons (map entry_of slots) k (entry_of 0) (simp length-map l)
      ∙ ap (λ (x : Option ℕ). x ∷ drop (suc k) (map entry_of slots)) (get_or-map entry_of slots k 0)

  -- the k-th unit and those behind it
  units-from : (k : ℕ) → k < length slots
      → number_from image uuid object size first slots blocks k
      ≡ checked_number (then_units (valid_length size (first + k)) (unit_found image uuid object size first slots blocks k)
      (check_mapped image uuid object size (first + suc k) (drop (suc k) (entries slots)) (drop (unit_blocks * suc k) (entries blocks))))
  unfolding number_from check_mapped
  units-from k l =
      let a : suc (first + k) ≡ first + suc k = omega arith in
      let b : unit_blocks * k + unit_blocks ≡ unit_blocks * suc k = omega arith in
      rw (slots-from k l, a, drop-drop unit_blocks (unit_blocks * k) (entries blocks), b) refl

  -- the loop: before the first
  pub number-begun : checked_number (check_mapped image uuid object size first (entries slots) (entries blocks)) ≡ number_from image uuid object size first slots blocks 0
  unfolding number_from
  number-begun = rw (add-zero first) refl

  -- the answer for the k-th, whose slot and sixteen entries the code has at hand
  abbrev UnitAnswerAt : ℕ → ℕ → Result Inspected Refusal → Type 0
  UnitAnswerAt k slot r = Answers r (inspect_mapped image uuid object size (first + k) (entries (take (unit_blocks * k + unit_blocks - unit_blocks * k) (drop (unit_blocks * k) blocks))) (entry_of slot))

  -- they are those of the rules
  answer_at : (k : ℕ) (r : Result Inspected Refusal) → UnitAnswerAt k (get_or slots k 0) r → Answers r (unit_found image uuid object size first slots blocks k)
  unfolding entries
  answer_at k r q =
      let a : unit_blocks * k + unit_blocks - unit_blocks * k ≡ unit_blocks = omega arith in
      rw (drop-map entry_of (unit_blocks * k) blocks, take-map entry_of unit_blocks (drop (unit_blocks * k) blocks)) (rw a at q)

  -- one more that is not refused
  pub number_more : (k total : ℕ) (a : Inspected) → k < length slots → total ≡ number_from image uuid object size first slots blocks k → UnitAnswerAt k (get_or slots k 0) (Ok a)
      → total ≡ number_from image uuid object size first slots blocks (k + 1)
  unfolding number_from
  number_more k total a l e q =
      let s : k + 1 ≡ suc k = omega arith in
      e ∙ units-from k l ∙ rw s (then-none (valid_length size (first + k)) _ _ a (answer_at k (Ok a) q))

  -- one that is
  pub number-refused : (k total : ℕ) (r : Refusal) → k < length slots → total ≡ number_from image uuid object size first slots blocks k → UnitAnswerAt k (get_or slots k 0) (Err r)
      → number_of (refusal_of r) ≡ total
  number-refused k total r l e q =
      then_some (valid_length size (first + k)) _ _ r (answer_at k (Err r) q) ∙ sym (e ∙ units-from k l)

  -- behind the last
  pub number-done : (k total : ℕ) → length slots ≤ k → total ≡ number_from image uuid object size first slots blocks k → 0 ≡ total
  unfolding number_from check_mapped checked_number entries
  number-done k total l e = sym (e ∙ rw (drop_of_length-le (map entry_of slots) {i = k} (simp length-map l)) refl)

-- they are sixteen
pub sixteen : (blocks : List ℕ) (slots k : ℕ) → length blocks ≡ unit_blocks * slots → k < slots → length (take (unit_blocks * k + unit_blocks - unit_blocks * k) (drop (unit_blocks * k) blocks)) ≡ unit_blocks
sixteen blocks slots k e l = simp (length-take, length-drop) (omega arith)

-- and lie in the image where they all do
pub inside-at : (image blocks : List ℕ) (k : ℕ) → Inside image blocks → Inside image (take (unit_blocks * k + unit_blocks - unit_blocks * k) (drop (unit_blocks * k) blocks))
inside-at image blocks k s = record { each = λ i. go i (dec_lt i n) }
  where
    n : ℕ
    n = unit_blocks * k + unit_blocks - unit_blocks * k

    go : (i : ℕ) → Dec (i < n) → get_or (take n (drop (unit_blocks * k) blocks)) i 0 * block_bytes ≤ length image
    go i (yes l) = rw (get_or-take n (drop (unit_blocks * k) blocks) i 0 l, get_or-drop (unit_blocks * k) blocks i 0) (s.each (unit_blocks * k + i))
    go i (no l) = rw (get_or-eq_default (take n (drop (unit_blocks * k) blocks)) 0 {n = i} (simp length-take (omega arith))) (omega arith)
