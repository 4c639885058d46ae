-- From the tests and the change of a write to the write of the rules.
-- Assumes nothing.
use mathlib.Core.Path.{◌≡◌, refl, sym, ap, ◌∙◌}
use mathlib.Core.Bool.{Bool, true, false}
use mathlib.Core.List.{List, []}
use Prim.Native.Nat.{ℕ, ◌+◌, min, max, ◌≤◌}
use native.Mathlib.Decide.{dec_le}
use native.Mathlib.Omega.{arith}
use lib.ListN.{length, take, length-take}
use lib.Seq.{take_all}
use borrow.Author.Tests.{ltb-false}
use Rattle.rules.specs.Sizes.{most_size, most_transfer}
use Rattle.rules.specs.Time.{Time}
use Rattle.rules.specs.Card.{Card}
use Rattle.rules.specs.Store.{Store, decode}
use Rattle.rules.specs.Refusal.{Outcome, number_of, result}
use Rattle.rules.specs.Arguments.{is_past_limit, time_wrong}
use Rattle.rules.specs.Units.{Change, change_end, clipped, write_change, write_units}
use Rattle.rules.specs.Rewrite.{rewrite_units}
use Rattle.rules.specs.Write.{plan_of, carried_out, write_outcome}
use Rattle.rules.proofs.ListLaws.{test-cases, if-true, if-false}
use Rattle.rules.proofs.EnterLaws.{TimeRight, time-right}
use Rattle.kept.specs.Change.{IsChange, ChangeFits}
use Rattle.rewrite.specs.Answers.{from_card}
use Rattle.kept.specs.declared.Change as numbers
use Rattle.file.specs.Change.{numbered}
use Rattle.file.specs.Tests.{write_number}
use Rattle.file.proofs.CallLaws.{write-missing, write-empty, write-past, write-late, write-change}
use Rattle.carry.specs.Carry.{change_of}
use Rattle.change.specs.Change.{ChangeReady, changed}
use Rattle.std.proofs.Common.{Some, None}
use Rattle.write.specs.declared.find.File.{File}
use Rattle.write.specs.Call.{StoreReady, FileFound, FileReady, Taken, TimeFits, answered, write_of, written}
use Rattle.write.proofs.UnitsLaws.{units-write}
use Rattle.write.proofs.FindLaws.{card-missing, card-known, card-object}
use Rattle.write.proofs.AnswerLaws.{Answers, change-answers}

-- ---- bytes that are all taken

-- the change's numbers fit
pub taken-fits : (s : Store) (object size allocated offset : ℕ) (bytes : List ℕ) (new : ℕ) → new ≡ max size (offset + length bytes) → FileReady s object size allocated → Taken offset bytes
    → ChangeFits size new offset (length bytes)
taken-fits s object size allocated offset bytes new q f t =
    record { size = omega (arith, q, t.end, f.there.short); grows = omega (arith, q); inside = omega (arith, q); most = t.few }

module _ (s : Store) (object size allocated offset : ℕ) (bytes : List ℕ) (seconds nanoseconds new : ℕ) (us : List ℕ)
    (q : new ≡ max size (offset + length bytes)) (fits : ChangeFits size new offset (length bytes)) (u : (c : Change) → IsChange c size new offset (length bytes) → us ≡ write_units c) where
  -- the change as the code has it
  abbrev code : numbers.Change
  code = record { old_size = size; new_size = new; offset = offset; len = length bytes; fits = fits }

  -- the units that were written down are the change's
  units-are : us ≡ write_units (change_of object code.old_size code.new_size code.offset bytes)
  units-are = u (change_of object code.old_size code.new_size code.offset bytes) (record { old = refl; new = refl; from = refl; written = refl })

  -- what the change asks for
  pub write-ready : FileReady s object size allocated → Taken offset bytes → TimeFits seconds nanoseconds → ChangeReady s object code bytes allocated seconds nanoseconds us
  write-ready f t h = record {
    passes = f.ready.passes;
    lent_bytes = f.ready.lent_bytes;
    card = f.there.card;
    known = card-known s object size allocated f.there;
    size = f.there.size_is;
    count = f.there.count_is;
    most = f.there.most;
    long = refl;
    fits = fits;
    early = h.early;
    part = h.part;
    units = rw units-are (units-write (change_of object code.old_size code.new_size code.offset bytes) t.some' t.few (unfold change_end in q));
  }

  -- what becomes of it
  pub write_done : (limit r : ℕ) (t : Store) → numbered r t ≡ changed limit s object code bytes allocated seconds nanoseconds us
      → numbered r t ≡ written limit s object size allocated offset bytes seconds nanoseconds
  write_done limit r t e =
      e ∙ ap (changed limit s object code bytes allocated seconds nanoseconds) units-are
      ∙ rw q refl

-- ---- a file of known size

-- the bytes that are taken
clipped-is : (bytes : List ℕ) (len : ℕ) → len ≡ min most_transfer (length bytes) → clipped bytes ≡ take len bytes
unfolding clipped
clipped-is bytes len q = go (dec_le (length bytes) most_transfer)
  where
    go : Dec (length bytes ≤ most_transfer) → take most_transfer bytes ≡ take len bytes
    go (yes l) = take_all most_transfer bytes l ∙ sym (take_all len bytes (omega (arith, q, l)))
    go (no l) = let e : most_transfer ≡ len = omega (arith, q, l) in ap (λ (n : ℕ). take n bytes) e

module _ (s : Store) (object size allocated : ℕ) (f : FileReady s object size allocated) (limit offset : ℕ) (bytes : List ℕ) (seconds nanoseconds : ℕ) where
  -- the time that is lent
  abbrev time : Time
  time = record { seconds = seconds; nanoseconds = nanoseconds }

  -- the write of the rules
  abbrev outcome : Outcome
  outcome = write_outcome limit object offset bytes time s

  -- no bytes
  pub sized-empty : length bytes ≡ 0 → answered 0 0 s ≡ result s [] outcome
  unfolding result
  sized-empty z = sym (ap (result s []) (write-empty s f.ready.passes object limit offset bytes time f.there.card (card-known s object size allocated f.there) z))

  module _ (z : length bytes ≡ 0 → ⊥) (len : ℕ) (q : len ≡ min most_transfer (length bytes)) (n : ℕ) (e : n ≡ write_number (offset + len) time) where
    -- as many are taken
    length-clipped : length (clipped bytes) ≡ len
    unfolding clipped
    length-clipped = length-take most_transfer bytes ∙ sym q

    -- what holds with 5 and 7 and where neither comes holds of the number
    by_number : (P : ℕ → Type 0) → (is_past_limit (offset + len) ≡ true → P 5) → (is_past_limit (offset + len) ≡ false → time_wrong time ≡ true → P 7)
        → (is_past_limit (offset + len) ≡ false → time_wrong time ≡ false → P 0) → P n
    unfolding write_number number_of
    by_number P a b c =
        test-cases (P n) (is_past_limit (offset + len))
        (λ p. rw (e ∙ if-true {A = ℕ} (is_past_limit (offset + len)) 5 _ p) (a p))
        (λ p. test-cases (P n) (time_wrong time)
        (λ t. rw (e ∙ if-false {A = ℕ} (is_past_limit (offset + len)) 5 _ p ∙ if-true {A = ℕ} (time_wrong time) 7 0 t) (b p t))
        (λ t. rw (e ∙ if-false {A = ℕ} (is_past_limit (offset + len)) 5 _ p ∙ if-false {A = ℕ} (time_wrong time) 7 0 t) (c p t)))

    -- the test of where it ends, in the rules' words
    past_is : (b : Bool) → is_past_limit (offset + len) ≡ b → is_past_limit (offset + length (clipped bytes)) ≡ b
    past_is b p = rw length-clipped p

    -- 5 and 7
    pub sized-refused : (n ≡ 0 → ⊥) → answered n 0 s ≡ result s [] outcome
    unfolding result number_of
    sized-refused x =
        by_number (λ m. (m ≡ 0 → ⊥) → answered m 0 s ≡ result s [] outcome)
        (λ p y. sym (ap (result s []) (write-past s f.ready.passes object limit offset bytes time f.there.card (card-known s object size allocated f.there) z (past_is true p))))
        (λ p t y. sym (ap (result s []) (write-late s f.ready.passes object limit offset bytes time f.there.card (card-known s object size allocated f.there) z (past_is false p) t)))
        (λ p t y. absurd (y refl)) x

    module _ (x : n ≡ 0) where
      -- both tests passed
      passed : (is_past_limit (offset + len) ≡ false) × (time_wrong time ≡ false)
      passed =
          by_number (λ m. m ≡ 0 → (is_past_limit (offset + len) ≡ false) × (time_wrong time ≡ false))
          (λ p y. absurd (omega (arith, y))) (λ p t y. absurd (omega (arith, y))) (λ p t y. (p, t)) x

      -- what the change asks for
      pub sized-ready : Taken offset (take len bytes) × TimeFits seconds nanoseconds
      unfolding is_past_limit
      sized-ready =
          let l : length (take len bytes) ≡ min len (length bytes) = length-take len bytes in
          let t : TimeRight time = time-right time passed.1 in
          let m : offset + len ≤ most_size = ltb-false most_size (offset + len) passed.0 in (
            record { some' = omega (arith, l, q, z); few = omega (arith, l, q); end = omega (arith, l, q, m) },
            record { early = omega (arith, t.early); part = omega (arith, t.part) },
          )

      -- the change that the rules go on with
      goes : outcome ≡ carried_out len (write_of object size offset (take len bytes)) time s
          (rewrite_units limit (decode s) (write_of object size offset (take len bytes)) (write_units (write_of object size offset (take len bytes))) (from_card (decode s).hint allocated))
      goes =
          write-change s f.ready.passes object limit offset bytes time f.there.card (card-known s object size allocated f.there) z (past_is false passed.0) passed.1
          ∙ same f.there.card (card-object s object size allocated f.there) f.there.size_is f.there.count_is
        where
          same : (card : Card) → card.object ≡ object → card.size ≡ size → card.allocated ≡ allocated
              → carried_out (length (clipped bytes)) (write_change card.object card.size offset bytes) time s (plan_of limit write_units (write_change card.object card.size offset bytes) card s)
              ≡ carried_out len (write_of object size offset (take len bytes)) time s
              (rewrite_units limit (decode s) (write_of object size offset (take len bytes)) (write_units (write_of object size offset (take len bytes))) (from_card (decode s).hint allocated))
          same card o g a =
              ap (λ (k : ℕ). carried_out k (write_change card.object card.size offset bytes) time s (plan_of limit write_units (write_change card.object card.size offset bytes) card s)) length-clipped
              ∙ (unfold plan_of write_change in rw (o, g, a, clipped-is bytes len q) refl)

      module _ (r : ℕ) (t : Store) (h : numbered r t ≡ written limit s object size allocated offset (take len bytes) seconds nanoseconds) where
        -- its answer
        answer : Answers s len r t outcome
        answer = rw goes (change-answers s len r t (write_of object size offset (take len bytes)) time
            (rewrite_units limit (decode s) (write_of object size offset (take len bytes)) (write_units (write_of object size offset (take len bytes))) (from_card (decode s).hint allocated)) h)

        -- 9 to 16
        pub sized-stopped : (r ≡ 0 → ⊥) → answered r 0 t ≡ result s [] outcome
        sized-stopped y = answer.stopped y

        -- none
        pub sized-done : r ≡ 0 → answered 0 len t ≡ result s [] outcome
        sized-done y = answer.accepted y

-- ---- a file that is looked for

module _ (s : Store) (w : StoreReady s) (object : ℕ) where
  -- 3
  pub file-missing : FileFound s.head s.cards object None → (limit offset : ℕ) (bytes : List ℕ) (seconds nanoseconds : ℕ)
      → answered 3 0 s ≡ result s [] (write_outcome limit object offset bytes (record { seconds = seconds; nanoseconds = nanoseconds }) s)
  unfolding result number_of
  file-missing f limit offset bytes seconds nanoseconds =
      sym (ap (result s []) (write-missing s w.passes object limit offset bytes (record { seconds = seconds; nanoseconds = nanoseconds }) (card-missing s object f)))

  -- it is there
  pub file-ready : (x : File) → FileFound s.head s.cards object (Some x) → FileReady s object x.size x.allocated
  unfolding FileFound
  file-ready x f = record { ready = w; there = f }
