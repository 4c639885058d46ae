-- The numbers of write's and grow's own refusals in the shape of their tests.
-- Assumes nothing.
use mathlib.Core.Path.{◌≡◌, refl, sym, ◌∙◌}
use mathlib.Core.Bool.{Bool, true, false, ◌||◌}
use Prim.Native.Nat.{ℕ, ◌-◌, ◌≤◌, ◌<◌}
use lib.Dec.{eqb, ltb, leb}
use borrow.Author.Tests.{lt-ltb, le-ltb, eq-eqb, ne_eqb}
use Rattle.rules.specs.Lists.{pick◌then◌else◌}
use Rattle.rules.specs.Sizes.{most_size, most_seconds, nanoseconds_bound}
use Rattle.rules.specs.Time.{Time}
use Rattle.std.specs.Prelude.{Ok, Err}
use Rattle.rules.specs.Refusal.{number_of}
use Rattle.rules.specs.Refusal.Refusal.{past_limit, below_size, bad_time}
use Rattle.format.specs.declared.refusal.Refusal.TheVariants.{PastLimit, BelowSize, BadTime}
use Rattle.format.specs.Refusals.{number_in, refusal_of}
use Rattle.rules.specs.Arguments.{is_past_limit, time_wrong}
use Rattle.rules.proofs.ListLaws.{if-true, if-false}
use Rattle.file.specs.Tests.{write_number, grow_number}

module _ (end : ℕ) (time : Time) where
  -- 5
  pub number_past : most_size < end → number_in {A = Unit {0}} (Err PastLimit) ≡ write_number end time
  unfolding write_number is_past_limit number_in refusal_of
  number_past h = sym (if-true {A = ℕ} (ltb most_size end) (number_of past_limit) _ (lt-ltb most_size end h))

  module _ (h : end ≤ most_size) where
    -- 7
    pub number-late : (b : Bool) → b ≡ time_wrong time → b ≡ true → number_in {A = Unit {0}} (Err BadTime) ≡ write_number end time
    unfolding write_number is_past_limit number_in refusal_of
    number-late b e t = sym (if-false {A = ℕ} (ltb most_size end) (number_of past_limit) _ (le-ltb most_size end h) ∙ if-true {A = ℕ} (time_wrong time) (number_of bad_time) 0 (sym e ∙ t))

    -- none
    pub number-none : (b : Bool) → b ≡ time_wrong time → b ≡ false → number_in {A = Unit {0}} (Ok tt) ≡ write_number end time
    unfolding write_number is_past_limit number_in refusal_of
    number-none b e t = sym (if-false {A = ℕ} (ltb most_size end) (number_of past_limit) _ (le-ltb most_size end h) ∙ if-false {A = ℕ} (time_wrong time) (number_of bad_time) 0 (sym e ∙ t))

module _ (old new : ℕ) (time : Time) where
  -- 5
  pub grow-past : most_size < new → number_in {A = Unit {0}} (Err PastLimit) ≡ grow_number old new time
  unfolding grow_number is_past_limit number_in refusal_of
  grow-past h = sym (if-true {A = ℕ} (ltb most_size new) (number_of past_limit) _ (lt-ltb most_size new h))

  module _ (h : new ≤ most_size) where
    -- 6
    pub grow-below : new < old → number_in {A = Unit {0}} (Err BelowSize) ≡ grow_number old new time
    unfolding grow_number is_past_limit number_in refusal_of
    grow-below k = sym (if-false {A = ℕ} (ltb most_size new) (number_of past_limit) _ (le-ltb most_size new h) ∙ if-true {A = ℕ} (ltb new old) (number_of below_size) _ (lt-ltb new old k))

    module _ (k : old ≤ new) where
      -- equal sizes
      pub grow-same : new ≡ old → number_in {A = Unit {0}} (Ok tt) ≡ grow_number old new time
      unfolding grow_number is_past_limit number_in refusal_of
      grow-same e =
          sym (if-false {A = ℕ} (ltb most_size new) (number_of past_limit) _ (le-ltb most_size new h) ∙ if-false {A = ℕ} (ltb new old) (number_of below_size) _ (le-ltb new old k)
          ∙ if-true {A = ℕ} (eqb new old) 0 _ (eq-eqb new old e))

      module _ (d : new ≡ old → ⊥) (b : Bool) (e : b ≡ time_wrong time) where
        -- 7
        pub grow-late : b ≡ true → number_in {A = Unit {0}} (Err BadTime) ≡ grow_number old new time
        unfolding grow_number is_past_limit number_in refusal_of
        grow-late t =
            sym (if-false {A = ℕ} (ltb most_size new) (number_of past_limit) _ (le-ltb most_size new h) ∙ if-false {A = ℕ} (ltb new old) (number_of below_size) _ (le-ltb new old k)
            ∙ if-false {A = ℕ} (eqb new old) 0 _ (ne_eqb new old d) ∙ if-true {A = ℕ} (time_wrong time) (number_of bad_time) 0 (sym e ∙ t))

        -- none
        pub grow-none : b ≡ false → number_in {A = Unit {0}} (Ok tt) ≡ grow_number old new time
        unfolding grow_number is_past_limit number_in refusal_of
        grow-none t =
            sym (if-false {A = ℕ} (ltb most_size new) (number_of past_limit) _ (le-ltb most_size new h) ∙ if-false {A = ℕ} (ltb new old) (number_of below_size) _ (le-ltb new old k)
            ∙ if-false {A = ℕ} (eqb new old) 0 _ (ne_eqb new old d) ∙ if-false {A = ℕ} (time_wrong time) (number_of bad_time) 0 (sym e ∙ t))
