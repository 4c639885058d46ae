-- A batch of writes: refused as every call is, or its writes one after another as single calls, up to the first that is refused.
-- Assumes nothing.
use mathlib.Core.Path.{◌≡◌, refl, ap, ◌∙◌}
use mathlib.Core.Logic.{◌⊎◌, inl, inr}
use mathlib.Core.List.{List, [], ◌∷◌}
use mathlib.Core.Bool.{Bool, true, false, not, ◌||◌}
use Prim.Native.Nat.{ℕ, suc, ◌+◌, ◌/◌, ◌^◌, ◌≤◌, ◌<◌}
use native.Mathlib.Omega.{arith}
use lib.Dec.{eqb}
use lib.ListN.{length, take, drop}
use borrow.Author.Tests.{eqb-true, eq-eqb, ne_eqb, not-false}
use Rattle.rules.specs.Lists.{pick◌then◌else◌, any}
use Rattle.rules.specs.Sizes.{most_runs}
use Rattle.rules.specs.Bytes.{Bytes, le, part}
use Rattle.rules.specs.Time.{Time}
use Rattle.rules.specs.Store.{Store, StoreBytes}
use Rattle.rules.specs.Refusal.{Case, Outcome, Result, number_of, result}
use Rattle.rules.specs.Refusal.Outcome.{refuse, accept}
use Rattle.rules.specs.Triples.{Triple, triple_bytes, decode_triple, decode_triples}
use Rattle.rules.specs.Write.{write_outcome}
use Rattle.rules.specs.Batch.{batch_cases, batch_gives, after_write, batch_from, unless, write_batch}
use Rattle.rules.specs.Call.{Call, Word, WordTime, call}
use Rattle.rules.specs.Call.Call.{write}
use Rattle.rules.specs.Act.{Act, ActInRange, act, was_refused, act_refused}
use Rattle.rules.specs.Act.Act.{whole, batch}
use Rattle.rules.proofs.ListLaws.{if-cases, Each, each_none, each_more}
use Rattle.rules.proofs.ByteLaws.{le-part-lt, bytes_take, bytes_drop}
use Rattle.rules.proofs.BookLaws.{each-decode_book}
use Rattle.rules.proofs.Refused.{Numbered, numbered, Unchanged, lent_out, call-cases}
use Rattle.rules.proofs.OutcomeLaws.{NoneHolds, never-zero}
use Rattle.rules.proofs.BytesKept.{bytes-kept}

-- ---- refused or not

-- what the tests of a call make of it: refused, and all is as it was, or it goes on
pub data Tried (cases : List Case) (s : Store) (next : Result) : Bool → Result → Type 0 where
  refused : {r : Result} → Unchanged s [] r → Tried cases s next true r
  went_on : NoneHolds cases → Tried cases s next false next

-- so it is
pub tried : (cases : List Case) (s : Store) (next : Result) → Tried cases s next (any (λ c. c.holds) cases) (unless cases s next)
unfolding any unless pick◌then◌else◌
tried [] s next = went_on tt
tried (c ∷ cs) s next = go c.holds refl (tried cs s next)
  where
    later : c.holds ≡ false → {b : Bool} {r : Result} → Tried cs s next b r → Tried (c ∷ cs) s next b r
    later e (refused u) = refused u
    later e (went_on n) = went_on (e, n)

    go : (h : Bool) → c.holds ≡ h → Tried cs s next (any (λ c. c.holds) cs) (unless cs s next)
        → Tried (c ∷ cs) s next (h || any (λ c. c.holds) cs) (pick h then batch_gives (number_of c.refusal) 0 s else unless cs s next)
    go true e k = refused (record { number = numbered c.refusal; count = refl; store = refl; buffer = refl })
    go false e k = later e k

-- what every case that holds gives has, and what the call goes on with has where none holds
pub unless-cases : (P : Result → Type 0) (s : Store) (next : Result) {cases : List Case}
    → Each (λ c. c.holds ≡ true → P (batch_gives (number_of c.refusal) 0 s)) cases → (NoneHolds cases → P next) → P (unless cases s next)
unfolding unless
unless-cases P s next each_none h = h tt
unless-cases P s next (each_more {x = c} {xs = cs} g gs) h =
    if-cases P c.holds (batch_gives (number_of c.refusal) 0 s) (unless cs s next) g (λ e. unless-cases P s next gs (λ k. h (e, k)))

-- ---- write by write

-- what becomes of a write that is accepted: the batch goes on
pub after-accepted : (done : ℕ) (s : Store) (o : Outcome) (next : ℕ → Store → Result) → (result s [] o).number ≡ 0 → after_write done s o next ≡ next (suc done) (result s [] o).store
unfolding after_write result
after-accepted done s (refuse r) next e = absurd (never-zero s [] r (unfold result in e))
after-accepted done s (accept n left out) next e = refl

-- and of one that is refused: it stops
pub after-refused : (done : ℕ) (s : Store) (o : Outcome) (next : ℕ → Store → Result) → ((result s [] o).number ≡ 0 → ⊥)
    → after_write done s o next ≡ batch_gives (result s [] o).number done (result s [] o).store
unfolding after_write result
after-refused done s (refuse r) next z = refl
after-refused done s (accept n left out) next z = absurd (z refl)

-- a write of the batch as a call: the bytes that are next, as many as it says
abbrev pub next_write : Triple → List ℕ → Time → Call
next_write t bytes time = write t.object t.offset (take t.len bytes) time

-- "single writes in list order", from this store on: so many done, the number of what stopped them or 0, and the store that they left
pub data Batched (time : Time) : List Triple → List ℕ → Store → (done number : ℕ) (left : Store) → Type 0 where
  all_done : {bytes : List ℕ} {s : Store} → Batched time [] bytes s 0 0 s
  stopped : {t : Triple} {ts : List Triple} {bytes : List ℕ} {s : Store} → Numbered (call (next_write t bytes time) s).number
      → Batched time (t ∷ ts) bytes s 0 (call (next_write t bytes time) s).number s
  one-done : {t : Triple} {ts : List Triple} {bytes : List ℕ} {s : Store} {done number : ℕ} {left : Store} → (call (next_write t bytes time) s).number ≡ 0
      → Batched time ts (drop t.len bytes) (call (next_write t bytes time) s).store done number left → Batched time (t ∷ ts) bytes s (suc done) number left

-- what a batch that was not refused gives, by its writes
pub record Done (time : Time) (ts : List Triple) (bytes : List ℕ) (before : ℕ) (s : Store) (r : Result) : Type 0 where
  pub done : ℕ
  pub number : ℕ
  pub left : Store
  pub gives : r ≡ batch_gives number (before + done) left
  pub writes : Batched time ts bytes s done number left

-- so it gives
pub batch-done : (time : Time) (ts : List Triple) (bytes : List ℕ) (before : ℕ) (s : Store) → Done time ts bytes before s (batch_from ts bytes time before s)
unfolding batch_from
batch-done time [] bytes before s = record { done = 0; number = 0; left = s; gives = ap (λ (n : ℕ). batch_gives 0 n s) (omega arith); writes = all_done }
batch-done time (t ∷ ts) bytes before s = go (call-cases c s) (batch-done time ts (drop t.len bytes) (suc before) (call c s).store)
  where
    c : Call
    c = next_write t bytes time

    o : Outcome
    o = write_outcome most_runs t.object t.offset (take t.len bytes) time s

    next : ℕ → Store → Result
    next = batch_from ts (drop t.len bytes) time

    is_call : result s [] o ≡ call c s
    is_call = unfold call in refl

    go : ((call c s).number ≡ 0) ⊎ Unchanged s (lent_out c) (call c s) → Done time ts (drop t.len bytes) (suc before) (call c s).store (next (suc before) (call c s).store)
        → Done time (t ∷ ts) bytes before s (after_write before s o next)
    go (inl e) d = record {
      done = suc d.done;
      number = d.number;
      left = d.left;
      gives =
          after-accepted before s o next (rw is_call e) ∙ ap (λ (r : Result). next (suc before) r.store) is_call
          ∙ d.gives ∙ ap (λ (m : ℕ). batch_gives d.number m d.left) (omega arith);
      writes = one-done e d.writes;
    }
    go (inr u) d = record {
      done = 0;
      number = (call c s).number;
      left = s;
      gives =
          let z : before ≡ before + 0 = omega arith in
          after-refused before s o next (λ e. omega (arith, u.number.least, e, ap (λ (r : Result). r.number) is_call))
          ∙ rw (is_call, u.store, ← z) refl;
      writes = stopped u.number;
    }

-- ---- the lent list

-- a triple's numbers are of 64 bits
abbrev pub TripleInRange : Triple → Type 0
TripleInRange t = Word t.object × Word t.offset

-- so are those of a list of bytes
pub triples-in-range : (list : List ℕ) → Bytes list → Each TripleInRange (decode_triples list)
unfolding decode_triples
triples-in-range list b = each-decode_book decode_triple triple_bytes {P = TripleInRange} (λ p l k. unfold decode_triple in (word p l k 0 (omega arith), word p l k 8 (omega arith))) (length list / triple_bytes) list (omega arith) b
  where
    word : (p : List ℕ) → length p ≡ triple_bytes → Bytes p → (a : ℕ) → a + 8 ≤ triple_bytes → le (part a 8 p) < 2 ^ 64
    word p l k a m = le-part-lt p a 8 (omega (arith, l, m)) k

-- ---- bytes

-- the writes of a batch leave a store of bytes one of bytes
writes_bytes : {time : Time} {ts : List Triple} {bytes : List ℕ} {s left : Store} {done number : ℕ} → WordTime time → Each TripleInRange ts → Bytes bytes → Batched time ts bytes s done number left
    → StoreBytes s → StoreBytes left
writes_bytes w i b all_done k = k
writes_bytes w i b (stopped n) k = k
writes_bytes {bytes = bytes} {s = s} w (each_more {x = t} q i) b (one-done e d) k =
    writes_bytes w i (bytes_drop t.len bytes b) d (bytes-kept (next_write t bytes _) s (q.0, q.1, bytes_take t.len bytes b, w) k)

-- every act leaves a store of bytes one of bytes
pub act-bytes : (a : Act) (s : Store) → ActInRange a → StoreBytes s → StoreBytes (act a s).store
unfolding act write_batch
act-bytes (whole c) s i b = bytes-kept c s i b
act-bytes (batch list bytes time) s i b = go (tried (batch_cases list bytes s) s (batch_from (decode_triples list) bytes time 0 s))
  where
    d : Done time (decode_triples list) bytes 0 s (batch_from (decode_triples list) bytes time 0 s)
    d = batch-done time (decode_triples list) bytes 0 s

    go : {h : Bool} {r : Result} → Tried (batch_cases list bytes s) s (batch_from (decode_triples list) bytes time 0 s) h r → StoreBytes r.store
    go (refused u) = rw u.store b
    go (went_on n) = rw d.gives (writes_bytes i.2 (triples-in-range list i.0) i.1 d.writes b)

-- ---- a refused act

-- the output buffer that an act lends besides the store; a batch has none
unfoldable pub act_out : Act → List ℕ
act_out (whole c) = lent_out c
act_out (batch list bytes time) = []

-- a call with number 0 was not refused
pub not-refused : (r : Result) → r.number ≡ 0 → was_refused r ≡ false
unfolding was_refused
not-refused r e = ap not (eq-eqb r.number 0 e)

-- one with a number of the documents' was
was-refused : (r : Result) → Numbered r.number → was_refused r ≡ true
unfolding was_refused
was-refused r n = ap not (ne_eqb r.number 0 (λ e. omega (arith, n.least, e)))

-- one that was not has number 0
pub accepted-number : (r : Result) → was_refused r ≡ false → r.number ≡ 0
unfolding was_refused
accepted-number r e = eqb-true r.number 0 (not-false (eqb r.number 0) e)

-- what becomes of an act: refused, and all is as it was, or not
pub data ActIs (s : Store) (out : List ℕ) (r : Result) : Bool → Type 0 where
  is-refused : Unchanged s out r → ActIs s out r true
  is-done : ActIs s out r false

-- so it is: a refused act, a batch among them, answers its number with count 0 and leaves what it was lent
pub act-cases : (a : Act) (s : Store) → ActIs s (act_out a) (act a s) (act_refused a s)
unfolding act act_refused act_out write_batch
act-cases (whole c) s = go (call-cases c s)
  where
    go : ((call c s).number ≡ 0) ⊎ Unchanged s (lent_out c) (call c s) → ActIs s (lent_out c) (call c s) (was_refused (call c s))
    go (inl e) = rw (not-refused (call c s) e) is-done
    go (inr u) = rw (was-refused (call c s) u.number) (is-refused u)
act-cases (batch list bytes time) s = go (tried (batch_cases list bytes s) s (batch_from (decode_triples list) bytes time 0 s))
  where
    go : {h : Bool} {r : Result} → Tried (batch_cases list bytes s) s (batch_from (decode_triples list) bytes time 0 s) h r → ActIs s [] r h
    go (refused u) = is-refused u
    go (went_on n) = is-done
