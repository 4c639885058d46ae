-- A batch of writes keeps what every accepted write keeps, with the plain arrays that its writes done produce; and what never refuses a write never
-- stops a batch. Both by induction over its writes, each of which is a call of its own on the store that the one before left.
-- Assumes nothing.
use mathlib.Core.Path.{◌≡◌, refl}
use mathlib.Core.List.{List}
use mathlib.Core.Bool.{Bool, false}
use Prim.Native.Nat.{ℕ, ◌+◌}
use native.Mathlib.Omega.{arith}
use lib.ListN.{take}
use Rattle.rules.specs.Lists.{any, member}
use Rattle.rules.specs.Bytes.{Bytes}
use Rattle.rules.specs.Time.{Time}
use Rattle.rules.specs.Store.{Store, StoreBytes}
use Rattle.rules.specs.Refusal.{Result, number_of}
use Rattle.rules.specs.Integrity.{store_cases}
use Rattle.rules.specs.Triples.{Triple, decode_triples}
use Rattle.rules.specs.Batch.{batch_cases, batch_from, write_batch}
use Rattle.rules.specs.Call.{InRange, WordTime, call}
use Rattle.rules.specs.Call.Call.{write}
use Rattle.rules.specs.Act.{ActInRange, act, act_refused, parts_done}
use Rattle.rules.specs.Act.Act.{batch}
use Rattle.rules.specs.Plain.{File, accepted, plain_writes, act_step}
use Rattle.rules.specs.Demand.{never_numbers}
use Rattle.rules.proofs.ListLaws.{clash, Each, each_none, each_more}
use Rattle.rules.proofs.ByteLaws.{bytes_take, bytes_drop}
use Rattle.rules.proofs.PassLaws.{Passes}
use Rattle.rules.proofs.BytesKept.{bytes-kept}
use Rattle.rules.proofs.BatchLaws.{Tried, refused, went_on, tried, unless-cases, next_write, Batched, all_done, stopped, one-done, Done, batch-done, TripleInRange, triples-in-range}

module _ (Inv : List File → ℕ → Store → Type 0)
    (write_keeps : (object offset : ℕ) (bytes : List ℕ) (time : Time) (files : List File) (reserved : ℕ) (s : Store)
    → InRange (write object offset bytes time) → StoreBytes s → (call (write object offset bytes time) s).number ≡ 0 → Inv files reserved s
    → Inv (accepted (write object offset bytes time) files) reserved (call (write object offset bytes time) s).store) where
  -- the writes of a batch keep it, with the plain arrays after those that were done
  writes-keep : {time : Time} {ts : List Triple} {bytes : List ℕ} {s left : Store} {done number : ℕ} → WordTime time → Each TripleInRange ts → Bytes bytes
      → Batched time ts bytes s done number left → (files : List File) (reserved : ℕ) → StoreBytes s → Inv files reserved s → Inv (plain_writes ts bytes time done files) reserved left
  unfolding plain_writes
  writes-keep w i b all_done files reserved k h = h
  writes-keep w i b (stopped n) files reserved k h = h
  writes-keep {time} {bytes = bytes} {s = s} w (each_more {x = t} q i) b (one-done e d) files reserved k h =
      let r : InRange (next_write t bytes time) = (q.0, q.1, bytes_take t.len bytes b, w) in
      writes-keep w i (bytes_drop t.len bytes b) d (accepted (next_write t bytes time) files) reserved (bytes-kept (next_write t bytes time) s r k)
      (write_keeps t.object t.offset (take t.len bytes) time files reserved s r k e h)

  -- so a batch that is not refused does, with the writes that it answers
  pub batch-keeps : (list bytes : List ℕ) (time : Time) (files : List File) (reserved : ℕ) (s : Store) → ActInRange (batch list bytes time) → StoreBytes s
      → act_refused (batch list bytes time) s ≡ false → Inv files reserved s
      → Inv (act_step (batch list bytes time) (parts_done (batch list bytes time) s) files) reserved (act (batch list bytes time) s).store
  unfolding act act_refused act_step parts_done write_batch
  batch-keeps list bytes time files reserved s i b f h = go (tried (batch_cases list bytes s) s (batch_from (decode_triples list) bytes time 0 s)) f
    where
      d : Done time (decode_triples list) bytes 0 s (batch_from (decode_triples list) bytes time 0 s)
      d = batch-done time (decode_triples list) bytes 0 s

      go : {x : Bool} {r : Result} → Tried (batch_cases list bytes s) s (batch_from (decode_triples list) bytes time 0 s) x r → x ≡ false
          → Inv (plain_writes (decode_triples list) bytes time r.count files) reserved r.store
      go (refused u) e = absurd (clash e refl)
      go (went_on n) e =
          let z : 0 + d.done ≡ d.done = omega arith in
          rw (d.gives, z) (writes-keep i.2 (triples-in-range list i.0) i.1 d.writes files reserved b h)

  module _ (write-never : (object offset : ℕ) (bytes : List ℕ) (time : Time) (files : List File) (reserved : ℕ) (s : Store)
      → InRange (write object offset bytes time) → StoreBytes s → Inv files reserved s → member (call (write object offset bytes time) s).number never_numbers ≡ false) where
    -- none of the writes is refused with "2, 9 to 12 and 14"
    writes-never : {time : Time} {ts : List Triple} {bytes : List ℕ} {s left : Store} {done number : ℕ} → WordTime time → Each TripleInRange ts → Bytes bytes
        → Batched time ts bytes s done number left → (files : List File) (reserved : ℕ) → StoreBytes s → Inv files reserved s → member number never_numbers ≡ false
    unfolding member any
    writes-never w i b all_done files reserved k h = refl
    writes-never {time} {bytes = bytes} {s = s} w (each_more {x = t} q i) b (stopped n) files reserved k h =
        write-never t.object t.offset (take t.len bytes) time files reserved s (q.0, q.1, bytes_take t.len bytes b, w) k h
    writes-never {time} {bytes = bytes} {s = s} w (each_more {x = t} q i) b (one-done e d) files reserved k h =
        let r : InRange (next_write t bytes time) = (q.0, q.1, bytes_take t.len bytes b, w) in
        writes-never w i (bytes_drop t.len bytes b) d (accepted (next_write t bytes time) files) reserved (bytes-kept (next_write t bytes time) s r k)
        (write_keeps t.object t.offset (take t.len bytes) time files reserved s r k e h)

    -- so no batch is stopped by one of them
    pub batch-never : (list bytes : List ℕ) (time : Time) (files : List File) (reserved : ℕ) (s : Store) → Passes s → ActInRange (batch list bytes time) → StoreBytes s → Inv files reserved s
        → member (act (batch list bytes time) s).number never_numbers ≡ false
    unfolding act write_batch batch_cases store_cases number_of member any
    batch-never list bytes time files reserved s p i b h =
        unless-cases (λ r. member r.number never_numbers ≡ false) s (batch_from (decode_triples list) bytes time 0 s)
        (each_more (λ t. refl) (each_more (λ t. absurd (clash p.rules t)) (each_more (λ t. refl) each_none)))
        (λ n. rw d.gives (writes-never i.2 (triples-in-range list i.0) i.1 d.writes files reserved b h))
      where
        d : Done time (decode_triples list) bytes 0 s (batch_from (decode_triples list) bytes time 0 s)
        d = batch-done time (decode_triples list) bytes 0 s
