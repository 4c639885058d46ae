-- From the tests and the inner calls of a write and a grow to the calls of the rules.
-- Assumes nothing.
use mathlib.Core.Path.{◌≡◌, ap, ◌∙◌}
use mathlib.Core.List.{List, []}
use Prim.Native.Nat.{ℕ}
use Rattle.std.specs.Prelude.{Ok, Err}
use Rattle.rules.specs.Sizes.{most_runs, archive_runs}
use Rattle.rules.specs.Time.{Time}
use Rattle.rules.specs.Store.{Store, StoreBytes}
use Rattle.rules.specs.Refusal.{result, number_of}
use Rattle.rules.specs.Write.{write_outcome, grow_outcome}
use Rattle.rules.specs.Call.{call}
use Rattle.rules.specs.Call.Call.{write, write_archive, grow}
use Rattle.format.specs.declared.refusal.Refusal.{Refusal}
use Rattle.format.specs.Refusals.{number_in, refusal_of}
use Rattle.intake.specs.Join.{store_number}
use Rattle.intake.proofs.JoinLaws.{stopped, not_stopped}
use Rattle.write.specs.Call.{StoreReady, answered}
use Rattle.volume.specs.Call.{gave}

-- what the inner calls ask for
pub store-ready : (s : Store) (x : Unit {0}) → number_in (Ok x) ≡ store_number s → StoreBytes s → StoreReady s
store-ready s x e b = record { passes = not_stopped s x e; lent_bytes = b }

-- a write
module _ (object offset : ℕ) (bytes : List ℕ) (time : Time) (s : Store) where
  -- refusals 1 and 2, with any limit of runs
  pub write-stopped : (limit : ℕ) (r : Refusal) → number_in {A = Unit {0}} (Err r) ≡ store_number s → gave (number_of (refusal_of r)) 0 s ≡ result s [] (write_outcome limit object offset bytes time s)
  unfolding write_outcome
  write-stopped limit r e = stopped s [] _ r e

  -- what it gives with the limit of a simulator's write
  pub write-gives : (limit number count : ℕ) (t : Store) → gave number count t ≡ result s [] (write_outcome limit object offset bytes time s) → limit ≡ most_runs → gave number count t ≡ call (write object offset bytes time) s
  unfolding call
  write-gives limit number count t e l = e ∙ ap (λ n. result s [] (write_outcome n object offset bytes time s)) l

  -- and with the archive writer's
  pub archive-gives : (limit number count : ℕ) (t : Store) → gave number count t ≡ result s [] (write_outcome limit object offset bytes time s) → limit ≡ archive_runs → gave number count t ≡ call (write_archive object offset bytes time) s
  unfolding call
  archive-gives limit number count t e l = e ∙ ap (λ n. result s [] (write_outcome n object offset bytes time s)) l

-- a grow
module _ (object size : ℕ) (time : Time) (s : Store) where
  -- refusals 1 and 2
  pub grow-stopped : (r : Refusal) → number_in {A = Unit {0}} (Err r) ≡ store_number s → gave (number_of (refusal_of r)) 0 s ≡ call (grow object size time) s
  unfolding call grow_outcome
  grow-stopped r e = stopped s [] _ r e

  -- what it gives
  pub grow-gives : (number : ℕ) (t : Store) → answered number 0 t ≡ result s [] (grow_outcome object size time s) → gave number 0 t ≡ call (grow object size time) s
  unfolding call
  grow-gives number t e = e
