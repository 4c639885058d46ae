-- The calls write and grow past refusals 1 and 2, by their own tests: which refusal comes, or the change that they go on with.
-- Assumes nothing.
use mathlib.Core.Path.{◌≡◌, refl, ◌∙◌}
use mathlib.Core.Bool.{true, false}
use mathlib.Core.List.{List, []}
use mathlib.Core.Option.{none, some}
use Prim.Native.Nat.{ℕ, ◌+◌}
use lib.Dec.{eqb}
use lib.ListN.{length}
use borrow.Author.Tests.{eq-eqb, ne_eqb}
use Rattle.rules.specs.Lists.{pick◌then◌else◌, maybe}
use Rattle.rules.specs.Sizes.{most_runs}
use Rattle.rules.specs.Time.{Time}
use Rattle.rules.specs.Card.{Card}
use Rattle.rules.specs.Store.{Store, decode, card_of}
use Rattle.rules.specs.Refusal.{Outcome, first_case}
use Rattle.rules.specs.Refusal.Outcome.{refuse, accept}
use Rattle.rules.specs.Refusal.Refusal.{no_card, past_limit, below_size, bad_time}
use Rattle.rules.specs.Arguments.{with_card, is_past_limit, is_below_size, time_wrong}
use Rattle.rules.specs.Units.{clipped, write_change, grow_change, write_units, grow_units}
use Rattle.rules.specs.Write.{plan_of, carried_out, write_file, write_outcome, grow_file, grow_outcome}
use Rattle.rules.proofs.ListLaws.{if-true, if-false}
use Rattle.rules.proofs.PassLaws.{Passes}
use Rattle.rules.proofs.OutcomeLaws.{goes_on}

module _ (s : Store) (p : Passes s) (object : ℕ) where
  -- 3
  no-file : (next : Card → Outcome) → card_of (decode s) object ≡ none → with_card (decode s) object next ≡ refuse no_card
  unfolding with_card maybe
  no-file next e = rw e refl

  -- a file goes on with its card
  the-file : (next : Card → Outcome) (card : Card) → card_of (decode s) object ≡ some card → with_card (decode s) object next ≡ next card
  unfolding with_card maybe
  the-file next card e = rw e refl

  module _ (limit offset : ℕ) (bytes : List ℕ) (time : Time) where
    -- a write to no file
    pub write-missing : card_of (decode s) object ≡ none → write_outcome limit object offset bytes time s ≡ refuse no_card
    unfolding write_outcome
    write-missing e = goes_on s _ p ∙ no-file _ e

    module _ (card : Card) (e : card_of (decode s) object ≡ some card) where
      -- a write to a file
      write_goes : write_outcome limit object offset bytes time s ≡ write_file limit offset bytes time s card
      unfolding write_outcome
      write_goes = goes_on s _ p ∙ the-file _ card e

      -- of no bytes
      pub write-empty : length bytes ≡ 0 → write_outcome limit object offset bytes time s ≡ accept 0 s []
      unfolding write_file
      write-empty z = write_goes ∙ if-true (eqb (length bytes) 0) (accept 0 s []) _ (eq-eqb (length bytes) 0 z)

      module _ (z : length bytes ≡ 0 → ⊥) where
        -- 5
        pub write-past : is_past_limit (offset + length (clipped bytes)) ≡ true → write_outcome limit object offset bytes time s ≡ refuse past_limit
        unfolding write_file first_case
        write-past h =
            write_goes ∙ if-false (eqb (length bytes) 0) (accept 0 s []) _ (ne_eqb (length bytes) 0 z)
            ∙ if-true (is_past_limit (offset + length (clipped bytes))) (refuse past_limit) _ h

        module _ (f : is_past_limit (offset + length (clipped bytes)) ≡ false) where
          -- 7
          pub write-late : time_wrong time ≡ true → write_outcome limit object offset bytes time s ≡ refuse bad_time
          unfolding write_file first_case
          write-late h =
              write_goes ∙ if-false (eqb (length bytes) 0) (accept 0 s []) _ (ne_eqb (length bytes) 0 z)
              ∙ if-false (is_past_limit (offset + length (clipped bytes))) (refuse past_limit) _ f ∙ if-true (time_wrong time) (refuse bad_time) _ h

          -- the change
          pub write-change : time_wrong time ≡ false → write_outcome limit object offset bytes time s
              ≡ carried_out (length (clipped bytes)) (write_change card.object card.size offset bytes) time s
              (plan_of limit write_units (write_change card.object card.size offset bytes) card s)
          unfolding write_file first_case
          write-change h =
              write_goes ∙ if-false (eqb (length bytes) 0) (accept 0 s []) _ (ne_eqb (length bytes) 0 z)
              ∙ if-false (is_past_limit (offset + length (clipped bytes))) (refuse past_limit) _ f ∙ if-false (time_wrong time) (refuse bad_time) _ h

  module _ (size : ℕ) (time : Time) where
    -- a grow of no file
    pub grow-missing : card_of (decode s) object ≡ none → grow_outcome object size time s ≡ refuse no_card
    unfolding grow_outcome
    grow-missing e = goes_on s _ p ∙ no-file _ e

    module _ (card : Card) (e : card_of (decode s) object ≡ some card) where
      -- a grow of a file
      grow-goes : grow_outcome object size time s ≡ grow_file size time s card
      unfolding grow_outcome
      grow-goes = goes_on s _ p ∙ the-file _ card e

      -- 5
      pub grow-past : is_past_limit size ≡ true → grow_outcome object size time s ≡ refuse past_limit
      unfolding grow_file first_case
      grow-past h = grow-goes ∙ if-true (is_past_limit size) (refuse past_limit) _ h

      module _ (f : is_past_limit size ≡ false) where
        -- 6
        pub grow-below : is_below_size size card ≡ true → grow_outcome object size time s ≡ refuse below_size
        unfolding grow_file first_case
        grow-below h = grow-goes ∙ if-false (is_past_limit size) (refuse past_limit) _ f ∙ if-true (is_below_size size card) (refuse below_size) _ h

        module _ (g : is_below_size size card ≡ false) where
          -- equal size
          pub grow-same : size ≡ card.size → grow_outcome object size time s ≡ accept 0 s []
          unfolding grow_file first_case
          grow-same h =
              grow-goes ∙ if-false (is_past_limit size) (refuse past_limit) _ f ∙ if-false (is_below_size size card) (refuse below_size) _ g
              ∙ if-true (eqb size card.size) (accept 0 s []) _ (eq-eqb size card.size h)

          module _ (d : size ≡ card.size → ⊥) where
            -- 7
            pub grow-late : time_wrong time ≡ true → grow_outcome object size time s ≡ refuse bad_time
            unfolding grow_file first_case
            grow-late h =
                grow-goes ∙ if-false (is_past_limit size) (refuse past_limit) _ f ∙ if-false (is_below_size size card) (refuse below_size) _ g
                ∙ if-false (eqb size card.size) (accept 0 s []) _ (ne_eqb size card.size d) ∙ if-true (time_wrong time) (refuse bad_time) _ h

            -- the change
            pub grow-change : time_wrong time ≡ false → grow_outcome object size time s
                ≡ carried_out 0 (grow_change card.object card.size size) time s (plan_of most_runs grow_units (grow_change card.object card.size size) card s)
            unfolding grow_file first_case
            grow-change h =
                grow-goes ∙ if-false (is_past_limit size) (refuse past_limit) _ f ∙ if-false (is_below_size size card) (refuse below_size) _ g
                ∙ if-false (eqb size card.size) (accept 0 s []) _ (ne_eqb size card.size d) ∙ if-false (time_wrong time) (refuse bad_time) _ h
