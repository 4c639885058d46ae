-- From the tests and the inner call of a read to the call of the rules.
-- Assumes nothing.
use mathlib.Core.Path.{◌≡◌, refl, sym, ap, ◌∙◌}
use mathlib.Core.List.{List, map}
use mathlib.Core.Option.{Option, none, some}
use Prim.Native.Nat.{ℕ, ◌+◌, ◌-◌, ◌*◌, ◌/◌, ◌%◌}
use native.Mathlib.Omega.{arith}
use lib.Dec.{eqb}
use lib.ListN.{length}
use borrow.Author.Tests.{eqb-true, eqb-false}
use Rattle.std.specs.Prelude.{Err}
use Rattle.rules.specs.Lists.{maybe, range, begun}
use Rattle.rules.specs.Sizes.{unit_blocks, unit_bytes}
use Rattle.rules.specs.Head.{decode_head}
use Rattle.rules.specs.Card.{Card}
use Rattle.rules.specs.Extent.{mapping}
use Rattle.rules.specs.Book.{decode_books}
use Rattle.rules.specs.Store.{Store, decode, decode_with, card_of}
use Rattle.rules.specs.Refusal.{Outcome, Result, number_of, result}
use Rattle.rules.specs.Refusal.Refusal.{no_card}
use Rattle.rules.specs.Refusal.Outcome.{refuse, accept}
use Rattle.rules.specs.Arguments.{with_card}
use Rattle.rules.specs.Units.{units_of}
use Rattle.rules.specs.Inspect.{checksum_of}
use Rattle.rules.specs.Finish.{is_group}
use Rattle.rules.specs.Read.{Checked, read_length, check_units, hand_out, read_units, read_file, read_outcome}
use Rattle.rules.specs.Read.Checked.{failed, bytes}
use Rattle.rules.specs.Call.{call}
use Rattle.rules.specs.Call.Look.{read}
use Rattle.rules.specs.Call.Call.{look}
use Rattle.rules.proofs.ListLaws.{test-cases, if-true, if-false, find-passes}
use Rattle.rules.proofs.PassLaws.{Passes, Lawful, passes-head, lawful-decode}
use Rattle.rules.proofs.OutcomeLaws.{goes_on}
use Rattle.rules.proofs.UnitListLaws.{units_of-some}
use Rattle.format.specs.declared.refusal.Refusal.{Refusal}
use Rattle.format.specs.Refusals.{number_in, refusal_of}
use Rattle.intake.specs.Join.{store_number}
use Rattle.intake.proofs.JoinLaws.{stopped}
use Rattle.mapping.specs.Entries.{slot_of}
use Rattle.mapping.proofs.LookupLaws.{passes-extents, passes-groups}
use Rattle.inspect.specs.Mapped.{check_mapped}
use Rattle.inspect.proofs.InspectLaws.{check-mapped}
use Rattle.read.specs.Range.{checked_range}
use Rattle.read.specs.Gives.{Gives, gives, gives_checked, checked_units, gives_sized, gives_read, ReadReady}
use Rattle.volume.specs.Call.{handed}
use Rattle.volume.proofs.CallLaws.{blocks-are, cards-counted}

-- ---- what the inner call asks for

-- the head and the books of a store that passes
pub read-ready : (s : Store) → Passes s → ReadReady s.image s.head s.cards s.extents s.groups
read-ready s p = record {
  width = passes-head s p;
  places = cards-counted s p (decode_head s.head).cards refl;
  books = record { right = rw (blocks-are s p) at (passes-extents s p); places = passes-groups s p };
}

-- ---- the call

module _ (object offset : ℕ) (out : List ℕ) (s : Store) where
  -- refusals 1 and 2
  pub read-stopped : (r : Refusal) → number_in {A = Unit {0}} (Err r) ≡ store_number s → handed (number_of (refusal_of r)) 0 s out ≡ call (look (read object offset out)) s
  unfolding call read_outcome
  read-stopped r e = stopped s out _ r e

  -- what a read gives, as the call's result
  unfoldable pub resulting : Gives → Result
  resulting g = handed g.number g.count s g.out

  -- the checked units of a read give what the rules hand out
  checked-gives : (a n : ℕ) (c : Checked) → resulting (gives_checked a n out c) ≡ result s out (hand_out a n s out c)
  unfolding resulting gives_checked hand_out result
  checked-gives a n (failed r) = refl
  checked-gives a n (bytes xs) = refl

  -- its units, looked up in the buffers, are those of the rules
  units-gives : Lawful (decode s) → (size n : ℕ) → (n ≡ 0 → ⊥)
      → checked_units s.image (decode s).uuid s.extents s.groups (decode_head s.head).extents (decode_head s.head).groups object size offset n
      ≡ check_units (decode s) object size (units_of offset (offset + n))
  unfolding checked_units
  units-gives l size n z =
      let f : ℕ = offset / unit_bytes in
      let k : ℕ = begun (offset + n) unit_bytes - f in
      sym (ap (check_units (decode s) object size) (units_of-some offset (offset + n) (omega (arith, z))) ∙ check-mapped (decode s) object size l k f ∙ same f k)
    where
      same : (f k : ℕ) → check_mapped (decode s).image (decode s).uuid object size f (map (checksum_of (decode s) object) (range f k)) (map (mapping (decode s).books.extents object) (range (f * unit_blocks) (k * unit_blocks)))
          ≡ checked_range s.image (decode s).uuid s.extents s.groups (decode_head s.head).extents (decode_head s.head).groups object size f k
      same f k = unfold checked_range checksum_of slot_of is_group decode decode_with decode_books in refl

  -- a read of a file of this card's size gives what the rules' does
  sized-gives : Lawful (decode s) → (card : Card) → card.object ≡ object
      → resulting (gives_sized s.image (decode s).uuid s.extents s.groups (decode_head s.head).extents (decode_head s.head).groups object offset out card.size)
      ≡ result s out (read_file offset s out card)
  unfolding read_file read_units gives_sized result resulting
  sized-gives l card q =
      let n : ℕ = read_length card.size offset (length out) in
      let c : Checked = checked_units s.image (decode s).uuid s.extents s.groups (decode_head s.head).extents (decode_head s.head).groups object card.size offset n in
      let r : Outcome = read_units offset n s out card in
      let g : Gives = gives_checked (offset % unit_bytes) n out c in
      test-cases _ (eqb n 0)
      (λ t. ap resulting (if-true (eqb n 0) (gives 0 0 out) g t) ∙ sym (ap (result s out) (if-true (eqb n 0) (accept 0 s out) r t)))
      (λ t. ap resulting (if-false (eqb n 0) (gives 0 0 out) g t)
      ∙ checked-gives (offset % unit_bytes) n c
      ∙ ap (λ (d : Checked). result s out (hand_out (offset % unit_bytes) n s out d))
      (units-gives l card.size n (eqb-false n 0 t) ∙ ap (λ (o : ℕ). check_units (decode s) o card.size (units_of offset (offset + n))) (sym q))
      ∙ sym (ap (result s out) (if-false (eqb n 0) (accept 0 s out) r t)))

  -- what a read gives, by the card that is found
  card-gives : Lawful (decode s) → (o : Option Card) → card_of (decode s) object ≡ o
      → resulting (maybe (gives (number_of no_card) 0 out)
      (λ c. gives_sized s.image (decode s).uuid s.extents s.groups (decode_head s.head).extents (decode_head s.head).groups object offset out c.size) o)
      ≡ result s out (maybe (refuse no_card) (read_file offset s out) o)
  unfolding maybe result resulting card_of
  card-gives l none e = refl
  card-gives l (some card) e = sized-gives l card (eqb-true card.object object (find-passes (λ c. eqb c.object object) (decode s).books.cards card e))

  -- what a read of a store that passes gives, refusals 1 and 2 past
  pub single-gives : Passes s → resulting (gives_read s.image s.head s.cards s.extents s.groups object offset out) ≡ result s out (with_card (decode s) object (read_file offset s out))
  unfolding with_card gives_read resulting
  single-gives p = same ∙ card-gives (lawful-decode s p) (card_of (decode s) object) refl
    where
      same : resulting (gives_read s.image s.head s.cards s.extents s.groups object offset out)
          ≡ resulting (maybe (gives (number_of no_card) 0 out)
          (λ c. gives_sized s.image (decode s).uuid s.extents s.groups (decode_head s.head).extents (decode_head s.head).groups object offset out c.size) (card_of (decode s) object))
      same = unfold card_of decode decode_with decode_books in refl

  -- so the call
  pub read-gives : Passes s → (number count : ℕ) (filled : List ℕ)
      → gives number count filled ≡ gives_read s.image s.head s.cards s.extents s.groups object offset out
      → handed number count s filled ≡ call (look (read object offset out)) s
  unfolding call read_outcome resulting
  read-gives p number count filled e = ap resulting e ∙ single-gives p ∙ sym (ap (result s out) (goes_on s (with_card (decode s) object (read_file offset s out)) p))
