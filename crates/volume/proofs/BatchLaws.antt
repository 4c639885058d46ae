-- From the tests and the inner call of a batch of writes to the batch of the rules.
-- Assumes nothing.
use mathlib.Core.Path.{◌≡◌, refl, ap, ◌∙◌}
use mathlib.Core.Bool.{Bool, true, false}
use mathlib.Core.List.{List, [], ◌∷◌}
use Prim.Native.Nat.{ℕ}
use Rattle.std.specs.Prelude.{Err}
use Rattle.rules.specs.Lists.{pick◌then◌else◌}
use Rattle.rules.specs.Time.{Time}
use Rattle.rules.specs.Store.{Store}
use Rattle.rules.specs.Refusal.{Case, Outcome, Result, ◌when◌, number_of, first_case}
use Rattle.rules.specs.Refusal.Outcome.{refuse, accept}
use Rattle.rules.specs.Refusal.Refusal.{wrong_length, broken_rule, bad_batch}
use Rattle.rules.specs.Answers.{outcome_number}
use Rattle.rules.specs.Lengths.{length_wrong}
use Rattle.rules.specs.Integrity.{rule_broken, store_cases}
use Rattle.rules.specs.Triples.{decode_triples}
use Rattle.rules.specs.Batch.{batch_wrong, batch_cases, batch_from, unless, write_batch}
use Rattle.rules.specs.Act.{act}
use Rattle.rules.specs.Act.Act.{batch}
use Rattle.rules.proofs.PassLaws.{Passes}
use Rattle.format.specs.declared.refusal.Refusal.{Refusal}
use Rattle.format.specs.Refusals.{number_in, refusal_of}
use Rattle.intake.specs.Join.{store_number}
use Rattle.batch.specs.Batch.{batch_tried}
use native.Mathlib.Omega.{arith}
use Rattle.format.proofs.RefusalLaws.{refusal-positive}
use Rattle.volume.specs.Call.{gave}

-- the tests of refusals 1 and 2, before others
unless-stopped : (l b : Bool) (cases : List Case) (s : Store) (next : Result) (n : ℕ)
    → n ≡ outcome_number (first_case ((wrong_length when l) ∷ (broken_rule when b) ∷ []) (accept 0 s [])) → (n ≡ 0 → ⊥)
    → gave n 0 s ≡ unless ((wrong_length when l) ∷ (broken_rule when b) ∷ cases) s next
unfolding outcome_number first_case unless pick◌then◌else◌ number_of
unless-stopped true b cases s next n e z = ap (λ (k : ℕ). gave k 0 s) e
unless-stopped false true cases s next n e z = ap (λ (k : ℕ). gave k 0 s) e
unless-stopped false false cases s next n e z = absurd (z e)

module _ (list bytes : List ℕ) (time : Time) (s : Store) where
  -- refusals 1 and 2
  pub batch-stopped : (r : Refusal) → number_in {A = Unit {0}} (Err r) ≡ store_number s → gave (number_of (refusal_of r)) 0 s ≡ act (batch list bytes time) s
  unfolding act write_batch batch_cases store_cases store_number number_in
  batch-stopped r e = unless-stopped (length_wrong s) (rule_broken s) ((bad_batch when batch_wrong list bytes) ∷ []) s (batch_from (decode_triples list) bytes time 0 s) (number_of (refusal_of r)) e (λ z. absurd (omega (arith, refusal-positive r, z)))

  -- what it gives where they do not come
  pub batch-gives : Passes s → (g : Result) → g ≡ batch_tried list bytes time s → g ≡ act (batch list bytes time) s
  unfolding act write_batch batch_cases store_cases batch_tried
  batch-gives p g e = e ∙ goes (length_wrong s) (rule_broken s) p.lengths p.rules
    where
      goes : (l b : Bool) → l ≡ false → b ≡ false
          → unless ((bad_batch when batch_wrong list bytes) ∷ []) s (batch_from (decode_triples list) bytes time 0 s)
          ≡ unless ((wrong_length when l) ∷ (broken_rule when b) ∷ (bad_batch when batch_wrong list bytes) ∷ []) s (batch_from (decode_triples list) bytes time 0 s)
      goes l b x y = unfold unless pick◌then◌else◌ in rw (x, y) refl
