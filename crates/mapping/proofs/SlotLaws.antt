-- Laws of the lookup of checksums: a slot of the group that was found is that of the book, and the first search serves all units of a group.
-- Assumes nothing.
use mathlib.Core.Path.{◌≡◌, refl, ap, ◌∙◌}
use mathlib.Core.Bool.{Bool}
use mathlib.Core.List.{List, map}
use mathlib.Core.Option.{none}
use Prim.Native.Nat.{ℕ, suc, ◌+◌, ◌*◌, ◌/◌, ◌%◌, ◌^◌, ◌≤◌, ◌<◌}
use native.Mathlib.Omega.{arith}
use native.Mathlib.Decide.{ℕ_discrete, dec_lt}
use lib.ListN.{length, get_or, set, get_or-eq_default}
use lib.Seq.{get_or-set_same, get_or-set_other}
use Rattle.rules.specs.Lists.{maybe, range}
use Rattle.rules.specs.Sizes.{group_units}
use Rattle.rules.specs.Bytes.{part}
use Rattle.rules.specs.Group.{Group, group_bytes, decode_group, checksum_slot}
use Rattle.rules.specs.Book.{decode_book}
use Rattle.rules.specs.Finish.{is_group}
use Rattle.checksum_group.specs.Slots.{crc_of}
use Rattle.std.proofs.Common.{Option, Some, None}
use Rattle.book.specs.Places.{record_at, found_in, FoundFirst, group_is}
use Rattle.mapping.specs.Entries.{entry_of, entries, slot_of}
use Rattle.mapping.specs.Slots.{slot_in, GroupWithin}
use Rattle.mapping.proofs.EntryLaws.{Filled, filled_none, filled_more, filled-all}

-- ---- one slot

-- a checksum
pub slot-present : (crc r : ℕ) → r ≡ crc + 1 → crc < 2 ^ 32 → (entry_of r ≡ crc_of (Some crc)) × (r ≤ 2 ^ 32)
unfolding entry_of crc_of
slot-present crc r e l = let q : r ≡ suc crc = omega arith in (rw q refl, omega arith)

-- none
pub slot-absent : (entry_of 0 ≡ crc_of None) × (0 ≤ 2 ^ 32)
unfolding entry_of crc_of
slot-absent = (refl, omega arith)

-- a slot of the group at the place found
pub group_at : (s : List ℕ) (i k : ℕ) (slot : Option ℕ) (r : ℕ) → crc_of slot ≡ checksum_slot (decode_group (part (group_bytes * i) group_bytes s)) k
    → (entry_of r ≡ crc_of slot) × (r ≤ 2 ^ 32) → (entry_of r ≡ slot_in (found_in decode_group group_bytes s (Some i)) k) × (r ≤ 2 ^ 32)
unfolding slot_in found_in record_at maybe
group_at s i k slot r e h = (h.0 ∙ e, h.1)

-- no group was found
pub group-nothing : (s : List ℕ) (k : ℕ) → (entry_of 0 ≡ slot_in (found_in decode_group group_bytes s None) k) × (0 ≤ 2 ^ 32)
unfolding slot_in found_in maybe entry_of
group-nothing s k = (refl, omega arith)

-- the place found lies in the book
pub place-within : (s : List ℕ) (r : Option ℕ) (i : ℕ) → r ≡ Some i → GroupWithin s r → group_bytes * i + group_bytes ≤ length s
place-within s r i q w = w.each i q

-- ---- the search

-- a group that was found lies in the bytes of n groups
pub found_within : {f : Group → Bool} {n : ℕ} {s : List ℕ} {r : Option ℕ} → FoundFirst f decode_group group_bytes n s r → group_bytes * n ≤ length s → GroupWithin s r
found_within {n = n} f l = record { each = λ i q. let k : i < n = f.within i q in omega arith }

-- the group in hand is that of the same number
pub found-same : (object last number n : ℕ) (s : List ℕ) (r : Option ℕ) → number ≡ last → FoundFirst (group_is object last) decode_group group_bytes n s r → FoundFirst (group_is object number) decode_group group_bytes n s r
found-same object last number n s r q f = rw q f

-- ---- the entries

-- the first i entries are those of the units from first on, and at most 2^32
pub record Slotted (n object first : ℕ) (s xs : List ℕ) (i : ℕ) : Type 0 where
  pub filled : Filled (slot_of (decode_book decode_group group_bytes n s) object) first xs i
  pub small : (j : ℕ) → j < i → get_or xs j 0 ≤ 2 ^ 32

module _ (n object first : ℕ) (s xs : List ℕ) where
  -- none yet
  pub slotted-none : Slotted n object first s xs 0
  slotted-none = record { filled = filled_none (slot_of (decode_book decode_group group_bytes n s) object) first xs; small = λ j l. absurd (omega arith) }

  module _ (i : ℕ) (h : Slotted n object first s xs i) where
    -- one more
    pub slotted-more : (x : ℕ) (r : Option ℕ) → i < length xs → FoundFirst (group_is object ((first + i) / group_units)) decode_group group_bytes n s r
        → (entry_of x ≡ slot_in (found_in decode_group group_bytes s r) ((first + i) % group_units)) × (x ≤ 2 ^ 32) → Slotted n object first s (set xs i x) (i + 1)
    unfolding slot_in slot_of is_group
    slotted-more x r l f e = record {
      filled = filled_more (slot_of (decode_book decode_group group_bytes n s) object) first xs i x l h.filled
          (e.0 ∙ ap (maybe none (λ g. checksum_slot g ((first + i) % group_units))) f.found);
      small = λ j k. go j k (ℕ_discrete j i);
    }
      where
        go : (j : ℕ) → j < i + 1 → Dec (j ≡ i) → get_or (set xs i x) j 0 ≤ 2 ^ 32
        go j k (yes q) = rw (q, get_or-set_same xs i x 0 l) e.1
        go j k (no q) = rw (get_or-set_other xs i j x 0 q) (h.small j (omega arith))

    -- all of them
    pub slotted-all : (m : ℕ) → length xs ≡ m → length xs ≤ i
        → (entries xs ≡ map (slot_of (decode_book decode_group group_bytes n s) object) (range first m)) × ((j : ℕ) → get_or xs j 0 ≤ 2 ^ 32)
    slotted-all m q l =
        (rw (← q) (filled-all (slot_of (decode_book decode_group group_bytes n s) object) first xs (λ j k. h.filled j (omega arith))), λ j. go j (dec_lt j i))
      where
        go : (j : ℕ) → Dec (j < i) → get_or xs j 0 ≤ 2 ^ 32
        go j (yes k) = h.small j k
        go j (no k) = rw (get_or-eq_default xs 0 {n = j} (omega arith)) (omega arith)
