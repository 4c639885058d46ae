-- A call leaves a store of bytes one of bytes, whatever the store says: a damaged one too.
-- Assumes nothing.
use mathlib.Core.List.{List, [], ◌∷◌, flat_map}
use mathlib.Core.Bool.{Bool, not}
use mathlib.Core.Option.{Option, none, some}
use Prim.Native.Nat.{ℕ, suc, ◌-◌, ◌*◌}
use lib.Dec.{eqb}
use lib.ListN.{length}
use Rattle.rules.specs.Lists.{maybe}
use Rattle.rules.specs.Sizes.{block_bytes, unit_bytes, most_runs, archive_runs, most_transfer}
use Rattle.rules.specs.Bytes.{Bytes, part, padded}
use Rattle.rules.specs.Time.{Time}
use Rattle.rules.specs.Card.{Card}
use Rattle.rules.specs.Head.{uuid_bytes, decode_head}
use Rattle.rules.specs.Store.{Store, StoreBytes, Volume, decode_with, decode, block_at, card_of}
use Rattle.rules.specs.Refusal.{Case, Outcome, first_case, result}
use Rattle.rules.specs.Arguments.{with_card}
use Rattle.rules.specs.Units.{Change, clipped, write_change, grow_change, valid_length, written_from, written_part, touches, reads_old, assembled}
use Rattle.rules.specs.Inspect.{Inspected, checksum_of, backed_under, valid_mapping, backed_bytes, valid_bytes, fully_backed, zero_past_end, checksum_right, inspect_slot, inspect_unit}
use Rattle.rules.specs.Inspect.Inspected.{damaged, hole, checked}
use Rattle.rules.specs.Allocation.{too_few}
use Rattle.rules.specs.Rewrite.{Progress, Rewritten, Step, Plan, lay_out, is_count_off, counted, allocate_unit, rewrite_from, after_read, rewrite_unit, after, prepend, and_then, rewrite_units}
use Rattle.rules.specs.Rewrite.Step.{stopped, untouched, rewritten}
use Rattle.rules.specs.Rewrite.Plan.{refused, planned}
use Rattle.rules.specs.Finish.{write_block, write_new, finished_image, finished}
use Rattle.rules.specs.Fresh.{fresh_volume, fresh_outcome}
use Rattle.rules.specs.Enter.{new_card, entered, enter_outcome}
use Rattle.rules.specs.Settle.{settled, settle_outcome}
use Rattle.rules.specs.Write.{plan_of, carried_out, write_file, write_outcome, grow_file, grow_outcome}
use Rattle.rules.specs.Call.{Call, InRange, call}
use Rattle.rules.specs.Call.Call.{fresh, enter, write, write_archive, grow, settle, look}
use Rattle.rules.proofs.ListLaws.{if-cases, maybe-cases, Each, each_none, each_more, each-any}
use Rattle.rules.proofs.ByteLaws.{bytes-nil, bytes-append, bytes_take, bytes-part, bytes-patch, bytes-padded}
use Rattle.rules.proofs.PassLaws.{bytes-encode_into}
use Rattle.rules.proofs.OutcomeLaws.{first_of-cases}
use Rattle.rules.proofs.SettleLaws.{look-stays}

-- ---- what is read

-- the blocks of an image of bytes are bytes
bytes-blocks : (image : List ℕ) → Bytes image → (os : List (Option ℕ)) → Bytes (flat_map (maybe [] (block_at image)) os)
unfolding flat_map maybe
bytes-blocks image b [] = bytes-nil
bytes-blocks image b (none ∷ os) = bytes-blocks image b os
bytes-blocks image b (some p ∷ os) =
    bytes-append (block_at image p) (flat_map (maybe [] (block_at image)) os) (unfold block_at in bytes-part image (p * block_bytes) block_bytes b) (bytes-blocks image b os)

-- so are a unit's valid bytes
bytes-valid : (v : Volume) (object size unit : ℕ) → Bytes v.image → Bytes (valid_bytes v object size unit)
unfolding valid_bytes backed_bytes
bytes-valid v object size unit b = bytes_take (valid_length size unit) _ (bytes-blocks v.image b (valid_mapping v object size unit))

-- what was found in a unit is of bytes
abbrev FoundBytes : Inspected → Type 0
FoundBytes (damaged r) = Unit {0}
FoundBytes hole = Unit {0}
FoundBytes (checked xs) = Bytes xs

-- so it is with an image of bytes
found-bytes : (v : Volume) (object size unit : ℕ) → Bytes v.image → FoundBytes (inspect_unit v object size unit)
unfolding inspect_unit inspect_slot
found-bytes v object size unit b =
    maybe-cases FoundBytes _ (inspect_slot v object size unit) (checksum_of v object unit)
    (λ e. if-cases FoundBytes (backed_under v object unit) _ hole (λ t. tt) (λ t. tt))
    (λ crc e. if-cases FoundBytes (not (fully_backed v object size unit)) _ _ (λ t. tt)
    (λ t. if-cases FoundBytes (not (zero_past_end v object size unit)) _ _ (λ t. tt)
    (λ t. if-cases FoundBytes (not (checksum_right v object size unit crc)) _ (checked (valid_bytes v object size unit)) (λ t. tt) (λ t. bytes-valid v object size unit b))))

-- ---- what is planned

-- a unit assembled from bytes is of bytes
bytes-assembled : (c : Change) (unit : ℕ) (old : List ℕ) → Bytes c.bytes → Bytes old → Bytes (assembled c unit old)
unfolding assembled written_part
bytes-assembled c unit old w b =
    let n : ℕ = valid_length c.new_size unit in
    if-cases Bytes (touches c unit) _ (padded n old)
    (λ t. bytes-patch (padded n old) (written_from c unit - unit * unit_bytes) _ (bytes-padded n old b) (bytes-part c.bytes _ _ w)) (λ t. bytes-padded n old b)

-- what a unit becomes is of bytes
abbrev StepBytes : Step → Type 0
StepBytes (stopped r) = Unit {0}
StepBytes untouched = Unit {0}
StepBytes (rewritten r) = Bytes r.bytes

-- what is planned is of bytes
abbrev PlanBytes : Plan → Type 0
PlanBytes (refused r) = Unit {0}
PlanBytes (planned rs p) = Each (λ r. Bytes r.bytes) rs

module _ (limit : ℕ) (v : Volume) (c : Change) (b : Bytes v.image) (w : Bytes c.bytes) where
  module _ (unit : ℕ) (p : Progress) where
    -- from old bytes
    from_bytes : (verified : Bool) (old : List ℕ) → Bytes old → StepBytes (rewrite_from limit v c unit p verified old)
    unfolding rewrite_from allocate_unit counted lay_out
    from_bytes verified old k =
        if-cases StepBytes (too_few v.blocks v.used p.taken _) _ _ (λ t. tt)
        (λ t. if-cases StepBytes (is_count_off p.allocated _) _ _ (λ u. tt) (λ u. bytes-assembled c unit old w k))

    -- where it was read
    read-bytes : (i : Inspected) → FoundBytes i → StepBytes (after_read limit v c unit p i)
    unfolding after_read
    read-bytes (damaged r) k = tt
    read-bytes hole k = if-cases StepBytes (touches c unit) _ untouched (λ t. from_bytes Bool.false [] bytes-nil) (λ t. tt)
    read-bytes (checked old) k = from_bytes Bool.true old k

    -- one unit
    unit-bytes : StepBytes (rewrite_unit limit v c unit p)
    unfolding rewrite_unit
    unit-bytes =
        if-cases StepBytes (reads_old c unit) _ _
        (λ t. read-bytes (inspect_unit v c.object c.old_size unit) (found-bytes v c.object c.old_size unit b)) (λ t. from_bytes Bool.false [] bytes-nil)

  -- a unit before those after it
  prepend-bytes : (r : Rewritten) → Bytes r.bytes → (k : Plan) → PlanBytes k → PlanBytes (prepend r k)
  unfolding prepend
  prepend-bytes r h (refused e) g = tt
  prepend-bytes r h (planned rs p) g = each_more h g

  -- a unit, and then those after it
  then-bytes : (p : Progress) (s : Step) → StepBytes s → (next : Progress → Plan) → ((q : Progress) → PlanBytes (next q)) → PlanBytes (and_then p s next)
  unfolding and_then
  then-bytes p (stopped r) h next g = tt
  then-bytes p untouched h next g = g p
  then-bytes p (rewritten r) h next g = prepend-bytes r h (next (after p r)) (g (after p r))

  -- all units of a change
  plan-bytes : (us : List ℕ) (p : Progress) → PlanBytes (rewrite_units limit v c us p)
  unfolding rewrite_units
  plan-bytes [] p = each_none
  plan-bytes (u ∷ us) p = then-bytes p (rewrite_unit limit v c u p) (unit-bytes u p) _ (λ q. plan-bytes us q)

-- ---- what is written

-- new blocks written
bytes-write_new : (bytes : List ℕ) (i : ℕ) (kept : List (Option ℕ)) (blocks image : List ℕ) → Bytes bytes → Bytes image → Bytes (write_new bytes i kept blocks image)
unfolding write_new write_block
bytes-write_new bytes i [] blocks image b m = m
bytes-write_new bytes i (k ∷ kept) [] image b m = m
bytes-write_new bytes i (some p ∷ kept) (c ∷ blocks) image b m = bytes-write_new bytes (suc i) kept blocks image b m
bytes-write_new bytes i (none ∷ kept) (c ∷ blocks) image b m =
    bytes-write_new bytes (suc i) kept blocks _ b
    (bytes-patch image (c * block_bytes) _ m (bytes-padded block_bytes (part (i * block_bytes) block_bytes bytes) (bytes-part bytes (i * block_bytes) block_bytes b)))

-- the image that units of bytes leave is of bytes
bytes-finished_image : {rs : List Rewritten} → Each (λ r. Bytes r.bytes) rs → (image : List ℕ) → Bytes image → Bytes (finished_image rs image)
unfolding finished_image
bytes-finished_image each_none image b = b
bytes-finished_image (each_more {x = r} h k) image b = bytes-finished_image k _ (bytes-write_new r.bytes 0 r.kept r.blocks image h b)

-- ---- what a call leaves

-- what becomes of the call leaves a store of bytes
abbrev pub LeavesBytes : Store → List ℕ → Outcome → Type 0
LeavesBytes s out o = StoreBytes (result s out o).store

module _ (s : Store) (b : StoreBytes s) where
  -- a test and what comes after it
  tested : (out : List ℕ) (cases : List Case) (next : Outcome) → LeavesBytes s out next → LeavesBytes s out (first_case cases next)
  unfolding result
  tested out cases next h = first_of-cases (LeavesBytes s out) next (each-any (λ c e. b) cases) (λ n. h)

  -- with a card or without
  carded : (object : ℕ) (next : Card → Outcome) → ((c : Card) → LeavesBytes s [] (next c)) → LeavesBytes s [] (with_card (decode s) object next)
  unfolding with_card result
  carded object next h = maybe-cases (LeavesBytes s []) _ next (card_of (decode s) object) (λ e. b) (λ c e. h c)

  -- the store's uuid is of bytes
  uuid-bytes : Bytes (decode s).uuid
  unfolding decode decode_with decode_head
  uuid-bytes = bytes_take uuid_bytes s.head b.head

  -- a change carried out
  carried-bytes : (answer : ℕ) (c : Change) (time : Time) (k : Plan) → PlanBytes k → LeavesBytes s [] (carried_out answer c time s k)
  unfolding carried_out result
  carried-bytes answer c time (refused r) h = b
  carried-bytes answer c time (planned rs p) h =
      tested [] _ _ (bytes-encode_into s (finished c time rs p (decode s)) (unfold finished in uuid-bytes)
      (unfold finished in bytes-finished_image h (decode s).image (unfold decode decode_with in b.image)))

  -- one that is planned
  change-bytes : (limit answer : ℕ) (units : Change → List ℕ) (c : Change) (card : Card) (time : Time) → Bytes c.bytes
      → LeavesBytes s [] (carried_out answer c time s (plan_of limit units c card s))
  unfolding plan_of
  change-bytes limit answer units c card time w =
      carried-bytes answer c time _ (plan-bytes limit (decode s) c (unfold decode decode_with in b.image) w (units c) _)

  -- a write, with any limit of runs
  pub write_bytes : (limit object offset : ℕ) (bytes : List ℕ) (time : Time) → Bytes bytes → LeavesBytes s [] (write_outcome limit object offset bytes time s)
  unfolding write_outcome write_file result
  write_bytes limit object offset bytes time w =
      tested [] _ _ (carded object _ (λ c. if-cases (LeavesBytes s []) (eqb (length bytes) 0) _ _ (λ e. b)
      (λ e. tested [] _ _ (change-bytes limit _ _ (write_change c.object c.size offset bytes) c time (unfold write_change clipped in bytes_take most_transfer bytes w)))))

-- every call
pub bytes-kept : (c : Call) (s : Store) → InRange c → StoreBytes s → StoreBytes (call c s).store
unfolding call fresh_outcome enter_outcome grow_outcome grow_file settle_outcome result
bytes-kept (fresh uuid reserved) s i b = tested s b [] _ _ (bytes-encode_into s (fresh_volume uuid reserved s) (unfold fresh_volume in i.0) (unfold fresh_volume in b.image))
bytes-kept (enter object time) s i b =
    tested s b [] _ _ (tested s b [] _ _ (bytes-encode_into s (entered (new_card object time) (decode s)) (unfold entered in uuid-bytes s b) (unfold entered decode decode_with in b.image)))
bytes-kept (write object offset bytes time) s i b = write_bytes s b most_runs object offset bytes time i.2
bytes-kept (write_archive object offset bytes time) s i b = write_bytes s b archive_runs object offset bytes time i.2
bytes-kept (grow object size time) s i b =
    tested s b [] _ _ (carded s b object _ (λ c. tested s b [] _ _ (if-cases (LeavesBytes s []) (eqb size c.size) _ _ (λ e. b)
    (λ e. tested s b [] _ _ (change-bytes s b most_runs _ _ (grow_change c.object c.size size) c time (unfold grow_change in bytes-nil))))))
bytes-kept settle s i b = tested s b [] _ _ (bytes-encode_into s (settled (decode s)) (unfold settled in uuid-bytes s b) (unfold settled decode decode_with in b.image))
bytes-kept (look l) s i b = rw (look-stays l s) b
