-- Laws of a batch's tests: its list, and the extents that are looked at.
-- Assumes nothing.
use mathlib.Core.Path.{◌≡◌, sym, ap, subst}
use mathlib.Core.Logic.{inl, inr}
use mathlib.Core.Bool.{Bool, true, false, not, ◌||◌, false≢true}
use mathlib.Core.List.{List}
use Prim.Native.Nat.{ℕ, ◌+◌, ◌*◌, ◌/◌, ◌%◌, ◌≤◌}
use lib.Dec.{eqb, leb, ltb}
use lib.ListN.{length}
use borrow.Author.Tests.{le-leb, eqb-true, ltb-false, not-false}
use Rattle.rules.specs.Sizes.{most_blocks}
use Rattle.rules.specs.Lists.{all}
use Rattle.rules.specs.Head.{Head, decode_head}
use Rattle.rules.specs.Extent.{Extent, extent_bytes, decode_extent}
use Rattle.rules.specs.Book.{decode_book}
use Rattle.rules.specs.Triples.{triple_bytes, most_triples, decode_triples, list_wrong, lengths_of}
use Rattle.rules.specs.Batch.{length_over, batch_wrong}
use Rattle.rules.proofs.ListLaws.{or-none-left, or-none-right}
use Rattle.format.specs.declared.head.Head as head_struct
use Rattle.format.specs.Records.{head_of}
use Rattle.sharing.specs.Sharing.{TellsShared}
use Rattle.batch_tests.specs.Tests.{extents_counted, ExtentsPlaced, TellsAgain}

-- ---- the list

module _ (list bytes : List ℕ) where
  -- so the lengths add up to the bytes where the list is right
  pub lengths-add : batch_wrong list bytes ≡ false → lengths_of (decode_triples list) ≡ length bytes
  unfolding batch_wrong
  lengths-add e =
      eqb-true (lengths_of (decode_triples list)) (length bytes) (not-false (eqb (lengths_of (decode_triples list)) (length bytes))
      (or-none-right (list_wrong list || length_over (decode_triples list)) (not (eqb (lengths_of (decode_triples list)) (length bytes))) e))

  -- and there are not too many
  pub list-short : batch_wrong list bytes ≡ false → length list / triple_bytes ≤ most_triples
  unfolding batch_wrong list_wrong
  list-short e =
      ltb-false most_triples (length list / triple_bytes) (or-none-right (not (eqb (length list % triple_bytes) 0)) (ltb most_triples (length list / triple_bytes))
      (or-none-left (list_wrong list) (length_over (decode_triples list)) (or-none-left (list_wrong list || length_over (decode_triples list)) (not (eqb (lengths_of (decode_triples list)) (length bytes))) e)))

-- ---- blocks that are shared

-- the head that was read counts them
module _ (head extents : List ℕ) where
  -- what is asked for of them
  pub head-counts : ExtentsPlaced head extents → (h : head_struct.Head) → head_of h ≡ decode_head head
      → (extent_bytes * h.extents ≤ length extents) × (all (λ e. leb (e.physical + e.count) most_blocks) (decode_book decode_extent extent_bytes h.extents extents) ≡ true)
  unfolding head_of
  head-counts p h d =
      let e : (decode_head head).extents ≡ h.extents = ap (λ (x : Head). x.extents) (sym d) in (
        subst (λ (n : ℕ). extent_bytes * n ≤ length extents) e p.room,
        subst (λ (n : ℕ). all (λ x. leb (x.physical + x.count) most_blocks) (decode_book decode_extent extent_bytes n extents) ≡ true) e p.device,
      )

  -- what was told of them
  pub counted-tells : (list : List ℕ) (h : head_struct.Head) → head_of h ≡ decode_head head → (r : Bool) → TellsShared r (decode_book decode_extent extent_bytes h.extents extents) → TellsAgain r list (extents_counted head extents)
  unfolding head_of
  counted-tells list h d r o =
      let e : h.extents ≡ (decode_head head).extents = ap (λ (x : Head). x.extents) d in
      let k = subst (λ (n : ℕ). TellsShared r (decode_book decode_extent extent_bytes n extents)) e o in
      record { left_out = k.apart; made = λ t. inr (k.together t) }

-- a list with no second write
pub single-again : (list : List ℕ) (es : List Extent) → length list ≤ triple_bytes → TellsAgain (leb (length list) triple_bytes) list es
single-again list es l = rw (le-leb (length list) triple_bytes l) (record { left_out = λ e. absurd (false≢true (sym e)); made = λ e. inl l })
