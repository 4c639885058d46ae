-- From the equations of single calls to the store that a list of them leaves.
-- Assumes nothing.
use mathlib.Core.Path.{◌≡◌, refl, ap, ◌∙◌}
use mathlib.Core.List.{List, [], ◌∷◌, ◌++◌}
use Prim.Native.Nat.{ℕ}
use lib.ListN.{replicate}
use Rattle.rules.specs.Store.{Store}
use Rattle.rules.specs.Call.{Call, call, run}
use Rattle.rules.specs.Call.Call.{fresh, enter, write, grow, settle}
use Rattle.volume.specs.Call.{gave}
use Rattle.layout.specs.Calls.{moment, beginning, writes, grows, layout_calls}

-- a call, and the calls after it
pub step : (c : Call) (cs : List Call) (n k : ℕ) (s t : Store) → gave n k t ≡ call c s → run cs t ≡ run (c ∷ cs) s
unfolding run
step c cs n k s t e = ap (λ r. run cs r.store) e

-- the last one
pub last_step : (c : Call) (n k : ℕ) (s t : Store) → gave n k t ≡ call c s → t ≡ run (c ∷ []) s
unfolding run
last_step c n k s t e = step c [] n k s t e

-- calls, and the calls after them
pub run-append : (cs ds : List Call) (s : Store) → run ds (run cs s) ≡ run (cs ++ ds) s
unfolding run
run-append [] ds s = refl
run-append (c ∷ cs) ds s = run-append cs ds (call c s).store

-- fresh and enter
pub began : (n k m l : ℕ) (s t u : Store) → gave n k t ≡ call (fresh (replicate 16 7) 1) s → gave m l u ≡ call (enter 7 moment) t → u ≡ run beginning s
unfolding beginning
began n k m l s t u e f = last_step _ m l t u f ∙ step _ _ n k s t e

-- both writes
pub wrote : (n k m l : ℕ) (s t u : Store) → gave n k t ≡ call (write 7 0 (replicate 9000 1) moment) s
    → gave m l u ≡ call (write 7 5000 (replicate 10 2) moment) t → u ≡ run writes s
unfolding writes
wrote n k m l s t u e f = last_step _ m l t u f ∙ step _ _ n k s t e

-- a grow, settle, and the grow again
pub grew : (n k m l i j : ℕ) (s t u v : Store) → gave n k t ≡ call (grow 7 20000 moment) s → gave m l u ≡ call settle t
    → gave i j v ≡ call (grow 7 20000 moment) u → v ≡ run grows s
unfolding grows
grew n k m l i j s t u v e f g = last_step _ i j u v g ∙ step _ _ m l t u f ∙ step _ _ n k s t e

-- the three parts
pub laid_out : (s t u v : Store) → t ≡ run beginning s → u ≡ run writes t → v ≡ run grows u → v ≡ run layout_calls s
unfolding layout_calls
laid_out s t u v e f g =
    g
    ∙ ap (run grows) (f ∙ ap (run writes) e ∙ run-append beginning writes s)
    ∙ run-append (beginning ++ writes) grows s
