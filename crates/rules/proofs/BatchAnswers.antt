-- What a batch answers tells whether it was refused: it was exactly where its number is 1, 2 or 18 and its count is 0.
--
-- Its writes are tried after its own tests: so the first of them finds a store that passes refusals 1 and 2, and no write is refused with 18.
-- Assumes nothing.
use mathlib.Core.Path.{◌≡◌, refl, sym, ap}
use mathlib.Core.List.{List, [], ◌∷◌}
use mathlib.Core.Bool.{Bool, true, false, not, ◌&&◌}
use Prim.Native.Nat.{ℕ, suc, ◌+◌}
use native.Mathlib.Omega.{arith}
use lib.Dec.{eqb}
use lib.ListN.{length, take}
use borrow.Author.Tests.{ne_eqb}
use Rattle.rules.specs.Lists.{pick◌then◌else◌, any, member}
use Rattle.rules.specs.Sizes.{most_runs}
use Rattle.rules.specs.Time.{Time}
use Rattle.rules.specs.Store.{Store, Volume, decode, card_of}
use Rattle.rules.specs.Refusal.{Refusal, Outcome, Result, ◌when◌, number_of, result}
use Rattle.rules.specs.Refusal.Refusal.{wrong_length, broken_rule, bad_batch}
use Rattle.rules.specs.Integrity.{rule_broken, store_cases}
use Rattle.rules.specs.Lengths.{length_wrong}
use Rattle.rules.specs.Arguments.{with_card}
use Rattle.rules.specs.Units.{Change, touches, reads_old}
use Rattle.rules.specs.Inspect.{Inspected, checksum_of, backed_under, fully_backed, zero_past_end, checksum_right, valid_bytes, inspect_slot, inspect_unit}
use Rattle.rules.specs.Inspect.Inspected.{damaged, hole, checked}
use Rattle.rules.specs.Allocation.{too_few}
use Rattle.rules.specs.Rewrite.{Progress, Rewritten, Step, Plan, is_count_off, counted, allocate_unit, rewrite_from, after_read, rewrite_unit, after, prepend, and_then, rewrite_units}
use Rattle.rules.specs.Rewrite.Step.{stopped, untouched, rewritten}
use Rattle.rules.specs.Rewrite.Plan.{refused, planned}
use Rattle.rules.specs.Write.{fit_cases, plan_of, carried_out, write_file, write_outcome}
use Rattle.rules.specs.Triples.{Triple, decode_triples}
use Rattle.rules.specs.Batch.{batch_wrong, batch_cases, batch_from, unless, write_batch}
use Rattle.rules.specs.Call.{call}
use Rattle.rules.specs.Call.Call.{write}
use Rattle.rules.specs.Act.{act_refused}
use Rattle.rules.specs.Act.Act.{batch}
use Rattle.rules.proofs.ListLaws.{if-cases, maybe-cases, each_none, each_more}
use Rattle.rules.proofs.PassLaws.{Passes}
use Rattle.rules.proofs.OutcomeLaws.{first_of-cases, goes_on}
use Rattle.rules.proofs.BatchLaws.{Batched, all_done, stopped as Stopped-by, one-done, Done, batch-done}

-- the numbers that refuse a batch
abbrev pub batch_numbers : List ℕ
batch_numbers = 1 ∷ 2 ∷ 18 ∷ []

-- a refusal that is none of a batch
abbrev OfWrite : Refusal → Type 0
OfWrite r = member (number_of r) batch_numbers ≡ false

-- ---- a unit

-- what a read of a unit finds is none of them
abbrev FoundOfWrite : Inspected → Type 0
FoundOfWrite (damaged r) = OfWrite r
FoundOfWrite hole = Unit {0}
FoundOfWrite (checked xs) = Unit {0}

-- so it is with each unit
found_number : (v : Volume) (object size unit : ℕ) → FoundOfWrite (inspect_unit v object size unit)
unfolding inspect_unit inspect_slot number_of member any
found_number v object size unit =
    maybe-cases FoundOfWrite _ (inspect_slot v object size unit) (checksum_of v object unit)
    (λ e. if-cases FoundOfWrite (backed_under v object unit) _ hole (λ t. refl) (λ t. tt))
    (λ crc e. if-cases FoundOfWrite (not (fully_backed v object size unit)) _ _ (λ t. refl)
    (λ t. if-cases FoundOfWrite (not (zero_past_end v object size unit)) _ _ (λ t. refl)
    (λ t. if-cases FoundOfWrite (not (checksum_right v object size unit crc)) _ (checked (valid_bytes v object size unit)) (λ t. refl) (λ t. tt))))

-- what refuses a unit of a change is none of them
abbrev StepOfWrite : Step → Type 0
StepOfWrite (stopped r) = OfWrite r
StepOfWrite untouched = Unit {0}
StepOfWrite (rewritten r) = Unit {0}

-- what refuses its plan is none of them
abbrev PlanOfWrite : Plan → Type 0
PlanOfWrite (refused r) = OfWrite r
PlanOfWrite (planned rs p) = Unit {0}

module _ (limit : ℕ) (v : Volume) (c : Change) where
  module _ (unit : ℕ) (p : Progress) where
    -- from old bytes
    from-number : (verified : Bool) (old : List ℕ) → StepOfWrite (rewrite_from limit v c unit p verified old)
    unfolding rewrite_from allocate_unit counted number_of member any
    from-number verified old =
        if-cases StepOfWrite (too_few v.blocks v.used p.taken _) _ _ (λ t. refl)
        (λ t. if-cases StepOfWrite (is_count_off p.allocated _) _ _ (λ u. refl) (λ u. tt))

    -- where it was read
    read_number : (i : Inspected) → FoundOfWrite i → StepOfWrite (after_read limit v c unit p i)
    unfolding after_read
    read_number (damaged r) k = k
    read_number hole k = if-cases StepOfWrite (touches c unit) _ untouched (λ t. from-number false []) (λ t. tt)
    read_number (checked old) k = from-number true old

    -- one unit
    unit-number : StepOfWrite (rewrite_unit limit v c unit p)
    unfolding rewrite_unit
    unit-number =
        if-cases StepOfWrite (reads_old c unit) _ _
        (λ t. read_number (inspect_unit v c.object c.old_size unit) (found_number v c.object c.old_size unit)) (λ t. from-number false [])

  -- a unit before those after it
  prepend-number : (r : Rewritten) (k : Plan) → PlanOfWrite k → PlanOfWrite (prepend r k)
  unfolding prepend
  prepend-number r (refused e) g = g
  prepend-number r (planned rs p) g = tt

  -- a unit, and then those after it
  then-number : (p : Progress) (s : Step) → StepOfWrite s → (next : Progress → Plan) → ((q : Progress) → PlanOfWrite (next q)) → PlanOfWrite (and_then p s next)
  unfolding and_then
  then-number p (stopped r) h next g = h
  then-number p untouched h next g = g p
  then-number p (rewritten r) h next g = prepend-number r (next (after p r)) (g (after p r))

  -- all units of a change
  plan-number : (us : List ℕ) (p : Progress) → PlanOfWrite (rewrite_units limit v c us p)
  unfolding rewrite_units
  plan-number [] p = tt
  plan-number (u ∷ us) p = then-number p (rewrite_unit limit v c u p) (unit-number u p) _ (λ q. plan-number us q)

-- ---- a write

module _ (s : Store) where
  -- what becomes of it has none of the numbers
  abbrev Answers : Outcome → Type 0
  Answers o = member (result s [] o).number batch_numbers ≡ false

  -- a plan carried out
  carried-number : (answer : ℕ) (c : Change) (time : Time) (k : Plan) → PlanOfWrite k → Answers (carried_out answer c time s k)
  unfolding carried_out fit_cases result number_of member any
  carried-number answer c time (refused r) h = h
  carried-number answer c time (planned rs p) h = first_of-cases Answers _ (each_more (λ t. refl) (each_more (λ t. refl) each_none)) (λ n. refl)

  -- a write on a store that passes refusals 1 and 2 is refused with none of them
  write-number : Passes s → (object offset : ℕ) (bytes : List ℕ) (time : Time) → member (call (write object offset bytes time) s).number batch_numbers ≡ false
  unfolding call write_outcome with_card write_file plan_of result number_of member any
  write-number p object offset bytes time =
      rw (goes_on s (with_card (decode s) object (write_file most_runs offset bytes time s)) p)
      (maybe-cases Answers _ _ (card_of (decode s) object) (λ e. refl)
      (λ c e. if-cases Answers (eqb (length bytes) 0) _ _ (λ t. refl)
      (λ t. first_of-cases Answers _ (each_more (λ h. refl) (each_more (λ h. refl) each_none)) (λ n. carried-number _ _ time _ (plan-number most_runs (decode s) _ _ _)))))

-- ---- a batch

-- an answer of a refused batch: one of its numbers, with count 0
unfoldable pub answers_refused : Result → Bool
answers_refused r = member r.number batch_numbers && eqb r.count 0

-- the writes of a batch do not answer so, where the first of them finds a store that passes
writes-answer : {time : Time} {ts : List Triple} {bytes : List ℕ} {s left : Store} {done number : ℕ} → Passes s → Batched time ts bytes s done number left
    → (member number batch_numbers && eqb done 0) ≡ false
unfolding member any
writes-answer p all_done = refl
writes-answer {time} {bytes = bytes} {s = s} p (Stopped-by {t = t} n) = ap (λ (b : Bool). b && true) (write-number s p t.object t.offset (take t.len bytes) time)
writes-answer {number = number} p (one-done {done = done} e d) = and_none (member number batch_numbers) (ne_eqb (suc done) 0 (λ z. omega (arith, z)))
  where
    and_none : (a : Bool) {b : Bool} → b ≡ false → (a && b) ≡ false
    and_none true h = h
    and_none false h = refl

-- a batch was refused exactly where it answers so
pub batch-told : (list bytes : List ℕ) (time : Time) (s : Store) → act_refused (batch list bytes time) s ≡ answers_refused (write_batch list bytes time s)
unfolding act_refused answers_refused write_batch batch_cases store_cases number_of any member unless pick◌then◌else◌
batch-told list bytes time s = go (length_wrong s) (rule_broken s) (batch_wrong list bytes) (batch_from (decode_triples list) bytes time 0 s) goes
  where
    d : Done time (decode_triples list) bytes 0 s (batch_from (decode_triples list) bytes time 0 s)
    d = batch-done time (decode_triples list) bytes 0 s

    goes : length_wrong s ≡ false → rule_broken s ≡ false → answers_refused (batch_from (decode_triples list) bytes time 0 s) ≡ false
    goes l b =
        let z : 0 + d.done ≡ d.done = omega arith in
        unfold answers_refused in rw (d.gives, z) (writes-answer (record { lengths = l; rules = b }) d.writes)

    go : (l b w : Bool) (next : Result) → (l ≡ false → b ≡ false → answers_refused next ≡ false)
        → any (λ c. c.holds) ((wrong_length when l) ∷ (broken_rule when b) ∷ (bad_batch when w) ∷ [])
        ≡ answers_refused (unless ((wrong_length when l) ∷ (broken_rule when b) ∷ (bad_batch when w) ∷ []) s next)
    go true b w next h = refl
    go false true w next h = refl
    go false false true next h = refl
    go false false false next h = sym (h refl refl)
