-- The calls that change a file, write and grow: what an accepted one did, and what is left to show that "2, 9 to 12 and 14" do not come.
-- Assumes nothing.
use mathlib.Core.Path.{◌≡◌, refl}
use mathlib.Core.Logic.{◌⊎◌, inl, inr}
use mathlib.Core.List.{List, []}
use mathlib.Core.Bool.{false}
use mathlib.Core.Option.{some}
use Prim.Native.Nat.{ℕ, ◌+◌, ◌≤◌, ◌<◌}
use native.Mathlib.Omega.{arith}
use lib.Dec.{eqb}
use lib.ListN.{length}
use borrow.Author.Tests.{eqb-true, eqb-false, ltb-false}
use Rattle.rules.specs.Time.{Time}
use Rattle.rules.specs.Integrity.{store_cases}
use Rattle.rules.specs.Book.{book_places}
use Rattle.rules.specs.Lists.{any, member}
use Rattle.rules.specs.Sizes.{most_size, most_runs}
use Rattle.rules.specs.Card.{Card}
use Rattle.rules.specs.Extent.{extent_bytes}
use Rattle.rules.specs.Group.{group_bytes}
use Rattle.rules.specs.Store.{Store, Volume, decode, encode_into, card_of}
use Rattle.rules.specs.Refusal.{Refusal, Outcome, number_of, first_case, result}
use Rattle.rules.specs.Refusal.Refusal.{no_card}
use Rattle.rules.specs.Refusal.Outcome.{refuse, accept}
use Rattle.rules.specs.Units.{Change, clipped, write_change, grow_change, write_units, grow_units}
use Rattle.rules.specs.Rewrite.{Rewritten, Progress, Plan}
use Rattle.rules.specs.Rewrite.Plan.{refused, planned}
use Rattle.rules.specs.Finish.{finished}
use Rattle.rules.specs.Arguments.{is_past_limit, is_below_size, with_card}
use Rattle.rules.specs.Write.{groups_full, extents_full, fit_cases, plan_of, carried_out, write_file, write_outcome, grow_file, grow_outcome}
use Rattle.rules.specs.Call.{call}
use Rattle.rules.specs.Call.Call.{grow}
use Rattle.rules.specs.Demand.{never_numbers}
use Rattle.rules.proofs.ListLaws.{if-cases, maybe-cases, each_none, each_more}
use Rattle.rules.proofs.PassLaws.{Passes}
use Rattle.rules.proofs.OutcomeLaws.{first_of-cases, never-zero, accepted-cases, through, store-passes, goes_on}
use Rattle.rules.proofs.EnterLaws.{TimeRight, time-right}
use Rattle.history.proofs.HistoryLaws.{Never}

-- ---- accepted calls

-- the store passed refusals 1 and 2, the object has a card, and the call did with it what D says
pub record FileCall (s : Store) (object : ℕ) (D : Card → Outcome → Type 0) (o : Outcome) : Type 0 where
  pub passes : Passes s
  pub card : Card
  pub known : card_of (decode s) object ≡ some card
  pub done : D card o

-- so it is with an accepted call on a file, where what it goes on with does what D says if it is accepted
pub file-call : (s : Store) (out : List ℕ) (object : ℕ) (next : Card → Outcome) (D : Card → Outcome → Type 0)
    → ((c : Card) → (result s out (next c)).number ≡ 0 → D c (next c))
    → (result s out (first_case (store_cases s) (with_card (decode s) object next))).number ≡ 0 → FileCall s object D (first_case (store_cases s) (with_card (decode s) object next))
unfolding with_card
file-call s out object next D h =
    accepted-cases s out (FileCall s object D) (store_cases s) _
    (λ n. maybe-cases (λ o. (result s out o).number ≡ 0 → FileCall s object D o) (refuse no_card) next (card_of (decode s) object)
    (λ q e. absurd (never-zero s out no_card e)) (λ c q e. record { passes = store-passes s n; card = c; known = q; done = h c e }))

-- the planned units were carried out: the finished books fit, and the finished volume is what the buffers say
pub record Carried (answer : ℕ) (c : Change) (time : Time) (s : Store) (k : Plan) (o : Outcome) : Type 0 where
  pub units : List Rewritten
  pub progress : Progress
  pub plan : k ≡ planned units progress
  pub groups : length (finished c time units progress (decode s)).books.groups ≤ book_places group_bytes s.groups
  pub extents : length (finished c time units progress (decode s)).books.extents ≤ book_places extent_bytes s.extents
  pub done : o ≡ accept answer (encode_into s (finished c time units progress (decode s))) []

-- so it is with an accepted change
carried : (answer : ℕ) (c : Change) (time : Time) (s : Store) (k : Plan) → (result s [] (carried_out answer c time s k)).number ≡ 0
    → Carried answer c time s k (carried_out answer c time s k)
unfolding carried_out fit_cases groups_full extents_full
carried answer c time s (refused r) e = absurd (never-zero s [] r e)
carried answer c time s (planned rs p) e =
    let v : Volume = finished c time rs p (decode s) in
    let t = through s [] (fit_cases v s) (accept answer (encode_into s v) []) e in
    record {
      units = rs;
      progress = p;
      plan = refl;
      groups = ltb-false (book_places group_bytes s.groups) (length v.books.groups) t.none.0;
      extents = ltb-false (book_places extent_bytes s.extents) (length v.books.extents) t.none.1.0;
      done = t.goes_on;
    }

-- a write that is not empty was carried out
pub record Written (limit offset : ℕ) (xs : List ℕ) (time : Time) (s : Store) (c : Card) (o : Outcome) : Type 0 where
  pub some : length xs ≡ 0 → ⊥
  pub end : offset + length (clipped xs) ≤ most_size
  pub timely : TimeRight time
  pub carried : Carried (length (clipped xs)) (write_change c.object c.size offset xs) time s
      (plan_of limit write_units (write_change c.object c.size offset xs) c s) o

-- an accepted write of a file
pub write-file : (limit offset : ℕ) (xs : List ℕ) (time : Time) (s : Store) (c : Card)
    → (result s [] (write_file limit offset xs time s c)).number ≡ 0
    → ((length xs ≡ 0) × (write_file limit offset xs time s c ≡ accept 0 s []))
    ⊎ Written limit offset xs time s c (write_file limit offset xs time s c)
unfolding write_file is_past_limit
write-file limit offset xs time s c =
    let w : Change = write_change c.object c.size offset xs in
    let k : Plan = plan_of limit write_units w c s in
    let D : Outcome → Type 0 = λ o. ((length xs ≡ 0) × (o ≡ accept 0 s [])) ⊎ Written limit offset xs time s c o in
    if-cases (λ o. (result s [] o).number ≡ 0 → D o) (eqb (length xs) 0) (accept 0 s []) _
    (λ q e. inl (eqb-true (length xs) 0 q, refl))
    (λ q. accepted-cases s [] D _ (carried_out (length (clipped xs)) w time s k)
    (λ n e. inr (record {
      some = eqb-false (length xs) 0 q;
      end = ltb-false most_size (offset + length (clipped xs)) n.0;
      timely = time-right time n.1.0;
      carried = carried (length (clipped xs)) w time s k e;
    })))

-- a grow that changes the size was carried out
pub record Grown (size : ℕ) (time : Time) (s : Store) (c : Card) (o : Outcome) : Type 0 where
  pub more : c.size < size
  pub end : size ≤ most_size
  pub timely : TimeRight time
  pub carried : Carried 0 (grow_change c.object c.size size) time s (plan_of most_runs grow_units (grow_change c.object c.size size) c s) o

-- an accepted grow of a file
pub grow-file : (size : ℕ) (time : Time) (s : Store) (c : Card) → (result s [] (grow_file size time s c)).number ≡ 0
    → ((size ≡ c.size) × (grow_file size time s c ≡ accept 0 s [])) ⊎ Grown size time s c (grow_file size time s c)
unfolding grow_file is_past_limit is_below_size
grow-file size time s c =
    let w : Change = grow_change c.object c.size size in
    let k : Plan = plan_of most_runs grow_units w c s in
    let D : Outcome → Type 0 = λ o. ((size ≡ c.size) × (o ≡ accept 0 s [])) ⊎ Grown size time s c o in
    accepted-cases s [] D _ _
    (λ m. if-cases (λ o. (result s [] o).number ≡ 0 → D o) (eqb size c.size) (accept 0 s []) _
    (λ q e. inl (eqb-true size c.size q, refl))
    (λ q. accepted-cases s [] D _ (carried_out 0 w time s k)
    (λ n e.
    let d : size ≡ c.size → ⊥ = eqb-false size c.size q in
    let l : c.size ≤ size = ltb-false size c.size m.1.0 in
    inr (record {
      more = omega arith;
      end = ltb-false most_size size m.0;
      timely = time-right time n.0;
      carried = carried 0 w time s k e;
    }))))

-- an accepted write, with any limit of runs
pub write-accepted : (limit object offset : ℕ) (xs : List ℕ) (time : Time) (s : Store) → (result s [] (write_outcome limit object offset xs time s)).number ≡ 0
    → FileCall s object (λ c o. ((length xs ≡ 0) × (o ≡ accept 0 s [])) ⊎ Written limit offset xs time s c o) (write_outcome limit object offset xs time s)
unfolding write_outcome
write-accepted limit object offset xs time s = file-call s [] object (write_file limit offset xs time s) _ (write-file limit offset xs time s)

-- an accepted grow
pub grow-accepted : (object size : ℕ) (time : Time) (s : Store) → (call (grow object size time) s).number ≡ 0
    → FileCall s object (λ c o. ((size ≡ c.size) × (o ≡ accept 0 s [])) ⊎ Grown size time s c o) (grow_outcome object size time s)
unfolding call grow_outcome
grow-accepted object size time s = file-call s [] object (grow_file size time s) _ (grow-file size time s)

-- ---- refusals that never come

-- of a call on a file, where its object has a card
never-file : (s : Store) (out : List ℕ) (object : ℕ) (next : Card → Outcome) → Passes s → ((c : Card) → card_of (decode s) object ≡ some c → Never s out (next c))
    → Never s out (first_case (store_cases s) (with_card (decode s) object next))
unfolding with_card result number_of member any
never-file s out object next p h =
    rw (goes_on s (with_card (decode s) object next) p) (maybe-cases (Never s out) (refuse no_card) next (card_of (decode s) object) (λ q. refl) h)

-- of a plan: no unit is refused with them
never-carried : (answer : ℕ) (c : Change) (time : Time) (s : Store) (k : Plan) → ((r : Refusal) → k ≡ refused r → member (number_of r) never_numbers ≡ false)
    → Never s [] (carried_out answer c time s k)
unfolding carried_out fit_cases result number_of member any
never-carried answer c time s (refused r) h = h r refl
never-carried answer c time s (planned rs p) h = first_of-cases (Never s []) _ (each_more (λ e. refl) (each_more (λ e. refl) each_none)) (λ n. refl)

module _ (s : Store) (p : Passes s) where
  -- write, with any limit of runs: no unit of its plan is refused with them
  pub never-write : (limit object offset : ℕ) (xs : List ℕ) (time : Time)
      → ((c : Card) → card_of (decode s) object ≡ some c → (length xs ≡ 0 → ⊥) → offset + length (clipped xs) ≤ most_size → TimeRight time
      → (r : Refusal) → plan_of limit write_units (write_change c.object c.size offset xs) c s ≡ refused r → member (number_of r) never_numbers ≡ false)
      → Never s [] (write_outcome limit object offset xs time s)
  unfolding write_outcome write_file is_past_limit result number_of member any
  never-write limit object offset xs time h =
      never-file s [] object (write_file limit offset xs time s) p (λ c q.
      if-cases (Never s []) (eqb (length xs) 0) (accept 0 s []) _ (λ z. refl)
      (λ z. first_of-cases (Never s []) _ (each_more (λ e. refl) (each_more (λ e. refl) each_none))
      (λ n. never-carried (length (clipped xs)) (write_change c.object c.size offset xs) time s _
      (h c q (eqb-false (length xs) 0 z) (ltb-false most_size (offset + length (clipped xs)) n.0) (time-right time n.1.0)))))

  -- grow: so too
  pub never-grow : (object size : ℕ) (time : Time)
      → ((c : Card) → card_of (decode s) object ≡ some c → c.size < size → size ≤ most_size → TimeRight time
      → (r : Refusal) → plan_of most_runs grow_units (grow_change c.object c.size size) c s ≡ refused r → member (number_of r) never_numbers ≡ false)
      → member (call (grow object size time) s).number never_numbers ≡ false
  unfolding call grow_outcome grow_file is_past_limit is_below_size result number_of member any
  never-grow object size time h =
      never-file s [] object (grow_file size time s) p (λ c q.
      first_of-cases (Never s []) _ (each_more (λ e. refl) (each_more (λ e. refl) each_none))
      (λ m. if-cases (Never s []) (eqb size c.size) (accept 0 s []) _ (λ z. refl)
      (λ z. first_of-cases (Never s []) _ (each_more (λ e. refl) each_none)
      (λ n.
      let d : size ≡ c.size → ⊥ = eqb-false size c.size z in
      let l : c.size ≤ size = ltb-false size c.size m.1.0 in
      never-carried 0 (grow_change c.object c.size size) time s _
      (h c q (omega arith) (ltb-false most_size size m.0) (time-right time n.0))))))
