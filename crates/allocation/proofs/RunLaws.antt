-- Laws of the first run as the code seeks it: in a group, in one group after another, and its blocks written down.
-- Assumes nothing.
use mathlib.Core.Path.{◌≡◌, refl, sym, ap, ◌∙◌}
use mathlib.Core.List.{List, [], ◌∷◌, ◌++◌}
use mathlib.Core.Option.{Option, none, some}
use Prim.Native.Nat.{ℕ, ◌+◌, ◌-◌, ◌*◌, ◌%◌, ◌≤◌, ◌<◌, min}
use native.Mathlib.Omega.{arith}
use Rattle.rules.specs.Lists.{range}
use Rattle.rules.specs.Allocation.{allocation_groups, group_start, group_end, run_in, first_run}
use Rattle.rules.proofs.ListLaws.{order-cases, range-add}
use Rattle.rules.proofs.RunLaws.{run_at, run-no}
use Rattle.rules.proofs.AllocationLaws.{group_at, first_run-turn, first_run-turns}
use Rattle.runs.specs.Runs.{clear, Lowest}
use Rattle.std.specs.Prelude.{Some, None, MatchOption}
use Rattle.std.specs.Option.{IsSomeAnd}
use Rattle.std.specs.Prelude as std
use Rattle.allocation.specs.Search.{held, Room, Says}
use Rattle.allocation.specs.declared.taken.Taken.{Taken}

-- ---- a group

-- a group does not end before it begins
width : (blocks g : ℕ) → g < allocation_groups blocks → group_start g ≤ group_end blocks g
unfolding allocation_groups group_start group_end
width blocks g l = omega arith

-- the lowest run between its ends is the group's
pub group-run : (map : List ℕ) (blocks n g end : ℕ) (r : std.Option ℕ) → g < allocation_groups blocks → end ≡ min (g * 16384 + 16384) blocks → 0 < n → Lowest map n (g * 16384) end r → Says r (run_in blocks (clear map) n g)
unfolding group_start group_end
group-run map blocks n g end None l d o h = run-no blocks (clear map) n g (width blocks g l) (λ c u v. h.before c u (omega arith) (omega arith))
group-run map blocks n g end (Some b) l d o h =
    let i : b + n ≤ end = h.inside in
    run_at blocks (clear map) n g (width blocks g l) b h.passed.least (omega arith) h.found (λ c u v. h.passed.before c u v (omega arith))

-- an answer put through what leaves its number is the same answer
pub says_map : (o : Option ℕ) (x r : std.Option ℕ) (P : ℕ → ℕ → Type 0) → Says x o → MatchOption x (r ≡ None) (λ b. IsSomeAnd r (P b)) → ((b y : ℕ) → P b y → y ≡ b) → Says r o
says_map o None r P h e f = rw e h
says_map o (Some b) (Some y) P h e f = rw (f b y e) h
says_map o (Some b) None P h e f = absurd e

-- ---- one group after another

-- the first i groups from the hint on have no run
pub record Turned (map : List ℕ) (blocks hint n i : ℕ) : Type 0 where
  pub inside : i ≤ allocation_groups blocks
  pub none_yet : (j : ℕ) → j < i → run_in blocks (clear map) n (group_at blocks hint j) ≡ none

module _ (map : List ℕ) (blocks hint n : ℕ) where
  -- at first
  pub turned_none : Turned map blocks hint n 0
  turned_none = record { inside = omega arith; none_yet = λ j l. absurd (omega arith) }

  module _ (i groups g : ℕ) (s : Turned map blocks hint n i) (e : groups ≡ allocation_groups blocks) (l : i < groups) (d : g ≡ (hint % groups + i) % groups) where
    -- the group is the one whose turn it is
    at_turn : g ≡ group_at blocks hint i
    at_turn = d ∙ ap (λ (k : ℕ). (hint % k + i) % k) e

    -- it has a run: the first
    pub turned-run : (b : ℕ) → run_in blocks (clear map) n g ≡ some b → first_run blocks (clear map) n hint ≡ some b
    turned-run b f = first_run-turn blocks (clear map) n hint i b (omega arith) (ap (run_in blocks (clear map) n) (sym at_turn) ∙ f) s.none_yet

    -- it has none
    pub turned_more : run_in blocks (clear map) n g ≡ none → Turned map blocks hint n (i + 1)
    turned_more z =
        record {
          inside = omega arith;
          none_yet = λ j u. order-cases (run_in blocks (clear map) n (group_at blocks hint j) ≡ none) j i (λ v. s.none_yet j v)
              (λ v. ap (λ (x : ℕ). run_in blocks (clear map) n (group_at blocks hint x)) v ∙ ap (run_in blocks (clear map) n) (sym at_turn) ∙ z) (λ v. absurd (omega arith));
        }

  -- none has
  pub turned-all : (i groups : ℕ) → Turned map blocks hint n i → groups ≡ allocation_groups blocks → groups ≤ i → first_run blocks (clear map) n hint ≡ none
  turned-all i groups s e l = first_run-turns blocks (clear map) n hint (λ j m. s.none_yet j (omega arith))

-- ---- its blocks

-- no block
pub range_nothing : (b : ℕ) (t : Taken) → Room 0 t → (held t ≡ range b (b - b)) × (t.count ≡ b - b)
range_nothing b t o =
    let f : t.count ≤ 0 = o.fits in
    let e : t.count ≡ b - b = omega arith in
    let z : b - b ≡ 0 = omega arith in
    (rw (e, z) (unfold range in refl), e)

-- one more block
pub range_more : (b x : ℕ) → b ≤ x → range b (x - b) ++ (x ∷ []) ≡ range b (x + 1 - b)
range_more b x l =
    let d : x + 1 - b ≡ x - b + 1 = omega arith in
    let e : b + (x - b) ≡ x = omega arith in
    rw (d, range-add b (x - b) 1, e) (unfold range in refl)
