-- From the tests and the inner call of a list of stretches to the call of the rules.
-- Assumes nothing.
use mathlib.Core.Path.{◌≡◌, refl, sym, ap, ◌∙◌}
use mathlib.Core.Bool.{Bool, true, false, ◌&&◌}
use mathlib.Core.List.{List, [], ◌∷◌, ◌++◌, flat_map}
use mathlib.Core.Option.{Option, none, some}
use Prim.Native.Nat.{ℕ, ◌*◌, ◌%◌}
use lib.Dec.{eqb, ltb}
use lib.ListN.{length, drop}
use borrow.Author.Tests.{eqb-true}
use Rattle.std.specs.Prelude.{Err}
use Rattle.rules.specs.Lists.{maybe, given, find, range, ascending}
use Rattle.rules.specs.Sizes.{unit_bytes, group_units}
use Rattle.rules.specs.Head.{decode_head}
use Rattle.rules.specs.Card.{Card, card_before}
use Rattle.rules.specs.Extent.{extent_before}
use Rattle.rules.specs.Group.{Group, group_before, checksum_slot}
use Rattle.rules.specs.Book.{Books, decode_books}
use Rattle.rules.specs.Store.{Store, decode, decode_with, card_of}
use Rattle.rules.specs.Refusal.{Result, ◌when◌, number_of, first_case, result}
use Rattle.rules.specs.Refusal.Refusal.{no_card, bad_range}
use Rattle.rules.specs.Refusal.Outcome.{refuse}
use Rattle.rules.specs.Integrity.{ordered}
use Rattle.rules.specs.Arguments.{with_card}
use Rattle.rules.specs.Inspect.{checksum_of}
use Rattle.rules.specs.Stretches.{Stretch, holds_data, stretches, stretches_of, stretch_bytes, encode_stretch, range_wrong, list_stretches, stretches_file, stretches_outcome}
use Rattle.rules.specs.Call.{call}
use Rattle.rules.specs.Call.Look.{data_stretches}
use Rattle.rules.specs.Call.Call.{look}
use Rattle.rules.proofs.ListLaws.{test-cases, and_right, if-true, if-false, find-passes, each-any}
use Rattle.rules.proofs.CountLaws.{filter-each}
use Rattle.rules.proofs.PassLaws.{Passes, passes-head, lawful-decode}
use Rattle.rules.proofs.OutcomeLaws.{goes_on}
use Rattle.format.specs.declared.refusal.Refusal.{Refusal}
use Rattle.format.specs.Refusals.{number_in, refusal_of}
use Rattle.intake.specs.Join.{store_number}
use Rattle.intake.proofs.JoinLaws.{stopped}
use Rattle.mapping.proofs.LookupLaws.{passes-groups}
use Rattle.read.specs.Gives.{Gives, gives}
use Rattle.presence.specs.Units.{groups_in, slotted}
use Rattle.stretches.specs.Lists.{holds, stretches_in, lists_pairs, lists_file, lists_object, ListReady}
use Rattle.volume.specs.Call.{handed}
use Rattle.volume.proofs.CallLaws.{cards-counted}

-- ---- what the inner call asks for

-- books in order have their groups in order
groups-order : (b : Books) → ordered b ≡ true → ascending group_before b.groups ≡ true
unfolding ordered
groups-order b h = and_right (ascending card_before b.cards && ascending extent_before b.extents) (ascending group_before b.groups) h

-- the head and the books of a store that passes
pub list-ready : (s : Store) → Passes s → ListReady s.head s.cards s.groups
unfolding decode decode_with decode_books
list-ready s p = record {
  width = passes-head s p;
  places = cards-counted s p (decode_head s.head).cards refl;
  right = record { places = passes-groups s p; order = groups-order (decode s).books (lawful-decode s p).order };
}

-- ---- the call

-- a slot that was found is a checksum that stands there
slot-given : (o : Option Group) (k : ℕ) → maybe false (λ g. given (checksum_slot g k)) o ≡ given (maybe none (λ g. checksum_slot g k) o)
unfolding maybe given
slot-given none k = refl
slot-given (some g) k = refl

module _ (object first units : ℕ) (out : List ℕ) (s : Store) where
  -- refusals 1 and 2
  pub stretches-stopped : (r : Refusal) → number_in {A = Unit {0}} (Err r) ≡ store_number s → handed (number_of (refusal_of r)) 0 s out ≡ call (look (data_stretches object first units out)) s
  unfolding call stretches_outcome
  stretches-stopped r e = stopped s out _ r e

  -- what the inner call gives, as the call's result
  abbrev answered : Gives → Result
  answered g = handed g.number g.count s g.out

  -- the groups that the head counts
  abbrev groups : List Group
  groups = groups_in (decode_head s.head).groups s.groups

  -- a unit that the groups hold is one that the rules say holds data
  holds_same : (card : Card) → card.object ≡ object → (u : ℕ) → holds groups object card.size u ≡ holds_data (decode s) card u
  unfolding holds holds_data slotted checksum_of decode decode_with decode_books
  holds_same card q u = rw q (ap (λ (b : Bool). b && ltb (u * unit_bytes) card.size) (slot-given (find _ groups) (u % group_units)))

  -- so the stretches are the same
  stretches-same : (card : Card) → card.object ≡ object → stretches_in groups object card.size first units ≡ stretches_of (decode s) card first units
  unfolding stretches_in stretches_of
  stretches-same card q = ap stretches (filter-each (holds groups object card.size) (holds_data (decode s) card) (each-any (holds_same card q) (range first units)))

  -- and what is made of them, 19 or the pairs
  pairs-give : (rs : List Stretch) → answered (lists_pairs first units out rs) ≡ result s out (first_case ((bad_range when range_wrong first units rs out) ∷ []) (list_stretches s out rs))
  unfolding lists_pairs first_case list_stretches
  pairs-give rs =
      let w : Bool = range_wrong first units rs out in
      let g : Gives = gives 0 (length rs) (flat_map encode_stretch rs ++ drop (stretch_bytes * length rs) out) in
      test-cases _ w
      (λ t. ap answered (if-true w (gives (number_of bad_range) 0 out) g t) ∙ refused ∙ sym (ap (result s out) (if-true w (refuse bad_range) (list_stretches s out rs) t)))
      (λ t. ap answered (if-false w (gives (number_of bad_range) 0 out) g t) ∙ accepted ∙ sym (ap (result s out) (if-false w (refuse bad_range) (list_stretches s out rs) t)))
    where
      refused : answered (gives (number_of bad_range) 0 out) ≡ result s out (refuse bad_range)
      refused = unfold result in refl

      accepted : answered (gives 0 (length rs) (flat_map encode_stretch rs ++ drop (stretch_bytes * length rs) out)) ≡ result s out (list_stretches s out rs)
      accepted = unfold result list_stretches in refl

  -- what the list gives, by the card that is found
  card-gives : (o : Option Card) → card_of (decode s) object ≡ o
      → answered (maybe (gives (number_of no_card) 0 out) (λ c. lists_file groups object first units out c.size) o) ≡ result s out (maybe (refuse no_card) (stretches_file first units s out) o)
  unfolding maybe result card_of stretches_file
  card-gives none e = refl
  card-gives (some card) e =
      let q : card.object ≡ object = eqb-true card.object object (find-passes (λ c. eqb c.object object) (decode s).books.cards card e) in
      ap (λ (rs : List Stretch). answered (lists_pairs first units out rs)) (stretches-same card q) ∙ pairs-give (stretches_of (decode s) card first units)

  -- so the call on a store that passes
  pub stretches-give : Passes s → (number count : ℕ) (filled : List ℕ) → gives number count filled ≡ lists_object s.head s.cards s.groups object first units out
      → handed number count s filled ≡ call (look (data_stretches object first units out)) s
  unfolding call stretches_outcome with_card
  stretches-give p number count filled e =
      ap answered e ∙ same ∙ card-gives (card_of (decode s) object) refl ∙ sym (ap (result s out) (goes_on s (with_card (decode s) object (stretches_file first units s out)) p))
    where
      same : answered (lists_object s.head s.cards s.groups object first units out)
          ≡ answered (maybe (gives (number_of no_card) 0 out) (λ c. lists_file groups object first units out c.size) (card_of (decode s) object))
      same = unfold lists_object card_of decode decode_with decode_books in refl
