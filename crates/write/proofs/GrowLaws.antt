-- From the tests and the change of a grow to the grow of the rules.
-- Assumes nothing.
use mathlib.Core.Path.{◌≡◌, refl, sym, ap, ◌∙◌}
use mathlib.Core.Bool.{Bool, true, false}
use mathlib.Core.List.{List, []}
use mathlib.Core.Option.{some}
use Prim.Native.Nat.{ℕ, ◌≤◌, ◌<◌}
use native.Mathlib.Omega.{arith}
use lib.Dec.{eqb, ltb}
use borrow.Author.Tests.{eqb-true, eqb-false, ltb-false}
use Rattle.rules.specs.Sizes.{most_size, most_runs}
use Rattle.rules.specs.Time.{Time}
use Rattle.rules.specs.Card.{Card}
use Rattle.rules.specs.Store.{Store, decode, card_of}
use Rattle.rules.specs.Refusal.{Outcome, number_of, result}
use Rattle.rules.specs.Arguments.{is_past_limit, is_below_size, time_wrong}
use Rattle.rules.specs.Units.{Change, grow_change, grow_units}
use Rattle.rules.specs.Rewrite.{rewrite_units}
use Rattle.rules.specs.Write.{plan_of, carried_out, grow_outcome}
use Rattle.rules.proofs.ListLaws.{test-cases, if-true, if-false}
use Rattle.rules.proofs.EnterLaws.{TimeRight, time-right}
use Rattle.kept.specs.Change.{IsChange, ChangeFits}
use Rattle.rewrite.specs.Answers.{from_card}
use Rattle.kept.specs.declared.Change as numbers
use Rattle.file.specs.Change.{numbered}
use Rattle.file.specs.Tests.{grow_number}
use Rattle.file.proofs.CallLaws as calls
use Rattle.change.specs.Change.{ChangeReady, changed}
use Rattle.std.proofs.Common.{Some, None}
use Rattle.write.specs.declared.find.File.{File}
use Rattle.write.specs.Call.{CardThere, StoreReady, FileFound, FileReady, TimeFits, answered, grow_of, grown}
use Rattle.write.proofs.UnitsLaws.{units-grow}
use Rattle.write.proofs.FindLaws.{card-missing, card-known, card-object}

-- ---- a larger size

-- the change's numbers fit
pub grow-fits : (old size : ℕ) → old < size → size ≤ most_size → ChangeFits old size 0 0
grow-fits old size l m = record { size = m; grows = omega (arith, l); inside = omega arith; most = omega arith }

module _ (s : Store) (object old allocated size seconds nanoseconds : ℕ) (us : List ℕ)
    (fits : ChangeFits old size 0 0) (u : (c : Change) (after start len : ℕ) → IsChange c old after start len → us ≡ grow_units c) where
  -- the change as the code has it
  abbrev code : numbers.Change
  code = record { old_size = old; new_size = size; offset = 0; len = 0; fits = fits }

  -- the units that were written down are the change's
  units-are : us ≡ grow_units (grow_of object old size)
  units-are = u (grow_of object old size) size 0 0 (record { old = refl; new = refl; from = refl; written = refl })

  -- what the change asks for
  pub grow-ready : FileReady s object old allocated → old < size → size ≤ most_size → TimeFits seconds nanoseconds → ChangeReady s object code [] allocated seconds nanoseconds us
  grow-ready f l m h = record {
    passes = f.ready.passes;
    lent_bytes = f.ready.lent_bytes;
    card = f.there.card;
    known = card-known s object old allocated f.there;
    size = f.there.size_is;
    count = f.there.count_is;
    most = f.there.most;
    long = refl;
    fits = fits;
    early = h.early;
    part = h.part;
    units = rw units-are (units-grow object old size l);
  }

  -- what becomes of it, with the limit of runs that a grow has
  pub grow-done : (limit r : ℕ) (t : Store) → numbered r t ≡ changed limit s object code [] allocated seconds nanoseconds us → limit ≡ most_runs → numbered r t ≡ grown s object old allocated size seconds nanoseconds
  grow-done limit r t e l = e ∙ ap (λ n. changed n s object code [] allocated seconds nanoseconds us) l ∙ ap (changed most_runs s object code [] allocated seconds nanoseconds) units-are

-- ---- a file of known size

module _ (s : Store) (w : StoreReady s) (object size seconds nanoseconds : ℕ) where
  -- the time that is lent
  abbrev time : Time
  time = record { seconds = seconds; nanoseconds = nanoseconds }

  -- the grow of the rules
  abbrev outcome : Outcome
  outcome = grow_outcome object size time s

  -- 3
  pub grow-missing : FileFound s.head s.cards object None → answered 3 0 s ≡ result s [] outcome
  unfolding result number_of
  grow-missing f = sym (ap (result s []) (calls.grow-missing s w.passes object size time (card-missing s object f)))

  module _ (file : File) (f : FileFound s.head s.cards object (Some file)) (n : ℕ) (e : n ≡ grow_number file.size size time) where
    -- its size and its count of blocks
    abbrev old : ℕ
    old = file.size

    abbrev allocated : ℕ
    allocated = file.allocated

    -- its card among the store's
    abbrev there : CardThere s.head s.cards object old allocated
    unfolding FileFound
    there = f

    -- the file
    pub the-file : FileReady s object old allocated
    the-file = record { ready = w; there = there }

    -- its card
    abbrev card : Card
    card = there.card

    -- the store has it
    known_is : card_of (decode s) object ≡ some card
    known_is = card-known s object old allocated there

    -- the test of its size, in the rules' words
    below-is : (b : Bool) → ltb size old ≡ b → is_below_size size card ≡ b
    unfolding is_below_size
    below-is b p = rw there.size_is p

    -- what holds with 5, 6 and 7 and where none comes holds of the number
    by_number : (P : ℕ → Type 0) → (is_past_limit size ≡ true → P 5) → (is_past_limit size ≡ false → ltb size old ≡ true → P 6)
        → (is_past_limit size ≡ false → ltb size old ≡ false → eqb size old ≡ true → P 0)
        → (is_past_limit size ≡ false → ltb size old ≡ false → eqb size old ≡ false → time_wrong time ≡ true → P 7)
        → (is_past_limit size ≡ false → ltb size old ≡ false → eqb size old ≡ false → time_wrong time ≡ false → P 0) → P n
    unfolding grow_number number_of
    by_number P a b c d g =
        test-cases (P n) (is_past_limit size)
        (λ p. rw (e ∙ if-true {A = ℕ} (is_past_limit size) 5 _ p) (a p))
        (λ p. let e₁ = e ∙ if-false {A = ℕ} (is_past_limit size) 5 _ p in
        test-cases (P n) (ltb size old)
        (λ l. rw (e₁ ∙ if-true {A = ℕ} (ltb size old) 6 _ l) (b p l))
        (λ l. let e₂ = e₁ ∙ if-false {A = ℕ} (ltb size old) 6 _ l in
        test-cases (P n) (eqb size old)
        (λ q. rw (e₂ ∙ if-true {A = ℕ} (eqb size old) 0 _ q) (c p l q))
        (λ q. let e₃ = e₂ ∙ if-false {A = ℕ} (eqb size old) 0 _ q in
        test-cases (P n) (time_wrong time)
        (λ t. rw (e₃ ∙ if-true {A = ℕ} (time_wrong time) 7 0 t) (d p l q t))
        (λ t. rw (e₃ ∙ if-false {A = ℕ} (time_wrong time) 7 0 t) (g p l q t)))))

    -- the size of the card
    size-apart : eqb size old ≡ false → size ≡ card.size → ⊥
    size-apart q h = eqb-false size old q (h ∙ there.size_is)

    -- 5 to 7
    pub grow-refused : (n ≡ 0 → ⊥) → answered n 0 s ≡ result s [] outcome
    unfolding result number_of
    grow-refused x =
        by_number (λ m. (m ≡ 0 → ⊥) → answered m 0 s ≡ result s [] outcome)
        (λ p y. sym (ap (result s []) (calls.grow-past s w.passes object size time card known_is p)))
        (λ p l y. sym (ap (result s []) (calls.grow-below s w.passes object size time card known_is p (below-is true l))))
        (λ p l q y. absurd (y refl))
        (λ p l q t y. sym (ap (result s []) (calls.grow-late s w.passes object size time card known_is p (below-is false l) (size-apart q) t)))
        (λ p l q t y. absurd (y refl)) x

    module _ (x : n ≡ 0) where
      -- the first two tests passed, and the third unless the size stays
      passed : (is_past_limit size ≡ false) × (ltb size old ≡ false) × ((size ≡ old → ⊥) → time_wrong time ≡ false)
      passed =
          by_number (λ m. m ≡ 0 → (is_past_limit size ≡ false) × (ltb size old ≡ false) × ((size ≡ old → ⊥) → time_wrong time ≡ false))
          (λ p y. absurd (omega (arith, y))) (λ p l y. absurd (omega (arith, y))) (λ p l q y. (p, l, λ d. absurd (d (eqb-true size old q))))
          (λ p l q t y. absurd (omega (arith, y))) (λ p l q t y. (p, l, λ d. t)) x

      -- the size stays
      pub grow-same : size ≡ old → answered 0 0 s ≡ result s [] outcome
      unfolding result
      grow-same q = sym (ap (result s []) (calls.grow-same s w.passes object size time card known_is passed.0 (below-is false passed.1) (q ∙ sym there.size_is)))

      module _ (d : size ≡ old → ⊥) where
        -- what the change asks for
        pub larger-ready : (old < size) × (size ≤ most_size) × TimeFits seconds nanoseconds
        unfolding is_past_limit
        larger-ready =
            let t : TimeRight time = time-right time (passed.2 d) in
            let l : old ≤ size = ltb-false size old passed.1 in (
              omega (arith, l, d),
              ltb-false most_size size passed.0,
              record { early = omega (arith, t.early); part = omega (arith, t.part) },
            )

        -- the change that the rules go on with
        goes : outcome ≡ carried_out 0 (grow_of object old size) time s
            (rewrite_units most_runs (decode s) (grow_of object old size) (grow_units (grow_of object old size)) (from_card (decode s).hint allocated))
        goes =
            calls.grow-change s w.passes object size time card known_is passed.0 (below-is false passed.1) (λ h. d (h ∙ there.size_is)) (passed.2 d)
            ∙ same card (card-object s object old allocated there) there.size_is there.count_is
          where
            same : (card : Card) → card.object ≡ object → card.size ≡ old → card.allocated ≡ allocated
                → carried_out 0 (grow_change card.object card.size size) time s (plan_of most_runs grow_units (grow_change card.object card.size size) card s)
                ≡ carried_out 0 (grow_of object old size) time s
                (rewrite_units most_runs (decode s) (grow_of object old size) (grow_units (grow_of object old size)) (from_card (decode s).hint allocated))
            same card o g a = unfold plan_of grow_change in rw (o, g, a) refl

        -- its answer
        pub larger-done : (r : ℕ) (t : Store) → numbered r t ≡ grown s object old allocated size seconds nanoseconds → answered r 0 t ≡ result s [] outcome
        larger-done r t h = rw goes h
