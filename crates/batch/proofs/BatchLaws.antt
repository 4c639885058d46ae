-- Laws of a batch of writes: one write of it, its writes one after another, and what its tests tell.
-- Assumes nothing.
use mathlib.Core.Path.{◌≡◌, refl, sym, ap, ap₂, subst, ◌∙◌}
use mathlib.Core.Bool.{Bool, true, false}
use mathlib.Core.List.{List, [], ◌∷◌}
use Prim.Native.Nat.{ℕ, suc, ◌+◌, ◌-◌, ◌/◌, ◌≤◌, ◌<◌}
use native.Mathlib.Omega.{arith}
use lib.Dec.{leb}
use lib.ListN.{length, take, drop}
use lib.Seq.{drop-drop}
use borrow.Author.Tests.{leb-true, le-leb}
use Rattle.std.specs.Prelude.{Err}
use Rattle.rules.specs.Sizes.{most_runs, most_blocks}
use Rattle.rules.specs.Lists.{pick◌then◌else◌}
use Rattle.rules.specs.Bytes.{Bytes}
use Rattle.rules.specs.Time.{Time}
use Rattle.rules.specs.Head.{decode_head}
use Rattle.rules.specs.Book.{book_places, decode_books}
use Rattle.rules.specs.Store.{Store, StoreBytes, decode, decode_with}
use Rattle.rules.specs.Refusal.{Result, number_of, result}
use Rattle.rules.specs.Refusal.Outcome.{accept}
use Rattle.rules.specs.Answers.{outcome_number}
use Rattle.rules.specs.Write.{write_outcome}
use Rattle.rules.specs.Triples.{Triple, triple_bytes, decode_triple, decode_triples, lengths_of}
use Rattle.rules.specs.Batch.{batch_wrong, batch_gives, batch_from, unless}
use Rattle.rules.specs.Integrity.{on_device, mapped_blocks}
use Rattle.rules.specs.Call.{Call, InRange, WordTime, call}
use Rattle.rules.specs.Call.Call.{write}
use Rattle.rules.proofs.ListLaws.{all-weaken, each_at}
use Rattle.rules.proofs.ByteLaws.{bytes_take, bytes_drop}
use Rattle.rules.proofs.PassLaws.{Passes, passes-head, passes-room, lawful-decode}
use Rattle.rules.proofs.CountLaws.{Once}
use Rattle.rules.proofs.OutcomeLaws.{goes_on}
use Rattle.rules.proofs.BytesKept.{bytes-kept}
use Rattle.rules.proofs.BatchLaws.{after-accepted, after-refused, next_write, TripleInRange, triples-in-range}
use Rattle.history.proofs.UnsharedLaws.{Unshared, Safe, few-blocks, write-safe}
use Rattle.book.proofs.SearchLaws.{record-at}
use Rattle.format.specs.declared.refusal.Refusal.{Refusal}
use Rattle.format.specs.Refusals.{number_in, refusal_of}
use Rattle.intake.specs.Join.{store_number}
use Rattle.intake.proofs.JoinLaws.{stopped}
use Rattle.triples.specs.declared.Triple as struct
use Rattle.triples.specs.Triple.{triple_of, triple_at, triples_from}
use Rattle.triples.proofs.TripleLaws.{length-triples, from_start, from_end, read_here, read-lengths}
use Rattle.write.specs.Call.{StoreReady, answered}
use Rattle.batch_tests.specs.Tests.{extents_counted, ExtentsPlaced}
use Rattle.batch.specs.Batch.{Wrote, batch_tried}

-- ---- one write

-- neither refusal 1 nor 2 comes on a store that passes
pub none-comes : (s : Store) → Passes s → 0 ≡ store_number s
unfolding store_number outcome_number
none-comes s p = sym (ap outcome_number (goes_on s (accept 0 s []) p))

module _ (object offset : ℕ) (bytes : List ℕ) (seconds nanoseconds : ℕ) (s : Store) where
  -- stopped by refusal 1 or 2
  pub write-stopped : (r : Refusal) → number_in {A = Unit {0}} (Err r) ≡ store_number s → Wrote object offset bytes seconds nanoseconds s (number_of (refusal_of r)) s
  write-stopped r e =
      let q : ◌≡◌ {A = Result} (answered (number_of (refusal_of r)) 0 s) (call (write object offset bytes (record { seconds = seconds; nanoseconds = nanoseconds })) s) = unfold call write_outcome in stopped s [] _ r e in
      record { number_is = ap (λ (r : Result). r.number) q; left_is = ap (λ (r : Result). r.store) q }

  -- done, as the inner call does it with the limit of runs that a write has
  pub write_done : (limit n k : ℕ) (t : Store) → answered n k t ≡ result s [] (write_outcome limit object offset bytes (record { seconds = seconds; nanoseconds = nanoseconds }) s)
      → limit ≡ most_runs → Wrote object offset bytes seconds nanoseconds s n t
  write_done limit n k t e l =
      let q : ◌≡◌ {A = Result} (answered n k t) (call (write object offset bytes (record { seconds = seconds; nanoseconds = nanoseconds })) s) =
      unfold call in e ∙ ap (λ m. result s [] (write_outcome m object offset bytes (record { seconds = seconds; nanoseconds = nanoseconds }) s)) l in
      record { number_is = ap (λ (r : Result). r.number) q; left_is = ap (λ (r : Result). r.store) q }

-- ---- the writes one after another

-- the triple at a place of a list of bytes has numbers of 64 bits
triple-in-range : (list : List ℕ) → Bytes list → (i : ℕ) → i < length list / triple_bytes → TripleInRange (triple_at list i)
unfolding decode_triples triple_at
triple-in-range list b i l =
    subst TripleInRange (record-at decode_triple triple_bytes list (length list / triple_bytes) i (decode_triple []) l)
    (each_at (triples-in-range list b) i (decode_triple []) (rw (length-triples list) l))

module _ (list bytes : List ℕ) (seconds nanoseconds : ℕ) (shared : Bool) (start : Store) where
  -- the time of all of them
  abbrev time : Time
  time = record { seconds = seconds; nanoseconds = nanoseconds }

  -- what holds before the write at place i, whose bytes begin at place: those from there on do to this store what all of them do to the first; it passes
  -- refusals 1 and 2 where they are not tried, and maps no block twice where none was shared
  pub record Between (again : Bool) (i place : ℕ) (s : Store) : Type 0 where
    pub room : place + lengths_of (triples_from list i) ≡ length bytes
    pub lent_bytes : StoreBytes s
    pub tested : again ≡ false → Passes s
    pub safe : shared ≡ false → Safe s
    pub same : batch_from (triples_from list i) (drop place bytes) time i s ≡ batch_from (decode_triples list) bytes time 0 start

  -- before the first
  pub between_first : StoreReady start → (shared ≡ false → Unshared (decode start)) → lengths_of (decode_triples list) ≡ length bytes → Between false 0 0 start
  between_first r u e = record {
    room = let z : lengths_of (triples_from list 0) ≡ lengths_of (decode_triples list) = ap lengths_of (from_start list) in omega (arith, z, e);
    lent_bytes = r.lent_bytes;
    tested = λ z. r.passes;
    safe = λ z. record { passes = r.passes; unshared = u z };
    same = ap (λ (ts : List Triple). batch_from ts bytes time 0 start) (from_start list);
  }

  module _ (again : Bool) (i n place : ℕ) (s : Store) (q : n ≡ length list / triple_bytes) (h : Between again i place s) where
    module _ (t : struct.Triple) (l : i < n) (d : triple_of t ≡ triple_at list i) where
      -- the bytes of the write are there
      pub bytes-there : place + t.len ≤ length bytes
      bytes-there = omega (arith, h.room, read-lengths list i n q t l d)

      -- the write as a call
      abbrev next : Call
      next = next_write (triple_of t) (drop place bytes) time

      module _ (number : ℕ) (left : Store) (w : Wrote t.object t.offset (take (place + t.len - place) (drop place bytes)) seconds nanoseconds s number left) where
        -- it was done as that call
        done-is : (number ≡ (call next s).number) × (left ≡ (call next s).store)
        unfolding triple_of
        done-is = let z : place + t.len - place ≡ t.len = omega arith in
            ((rw z at w).number_is, (rw z at w).left_is)

        -- refused: the batch stops
        pub between-stopped : (number ≡ 0 → ⊥) → answered number i left ≡ batch_from (decode_triples list) bytes time 0 start
        unfolding batch_from call
        between-stopped z =
            sym (sym h.same ∙ ap (λ (ts : List Triple). batch_from ts (drop place bytes) time i s) (read_here list i n q t l d)
            ∙ after-refused i s _ _ (λ e. z (done-is.0 ∙ e)) ∙ ap₂ (λ (k : ℕ) (x : Store). batch_gives k i x) (sym done-is.0) (sym done-is.1))

        -- done: what held before it holds before the next
        pub between_more : Bytes list → Bytes bytes → WordTime time → number ≡ 0 → Between shared (i + 1) (place + t.len) left
        between_more b k m z = record {
          room = omega (arith, h.room, read-lengths list i n q t l d);
          lent_bytes = rw done-is.1 (bytes-kept next s range h.lent_bytes);
          tested = λ e. (safe e).passes;
          safe = safe;
          same = goes;
        }
          where
            range : InRange next
            range =
                let w : TripleInRange (triple_of t) = rw d (triple-in-range list b i (omega (arith, l, q))) in
                (w.0, w.1, bytes_take (triple_of t).len (drop place bytes) (bytes_drop place bytes k), m)

            accepted : (call next s).number ≡ 0
            accepted = sym done-is.0 ∙ z

            safe : shared ≡ false → Safe left
            safe e = rw done-is.1 (unfold call in write-safe most_runs (triple_of t).object (triple_of t).offset (take (triple_of t).len (drop place bytes)) time s range h.lent_bytes (h.safe e) (unfold call in accepted))

            goes : batch_from (triples_from list (i + 1)) (drop (place + t.len) bytes) time (i + 1) left ≡ batch_from (decode_triples list) bytes time 0 start
            goes =
                let e : i + 1 ≡ suc i = omega arith in
                let c : batch_from (triples_from list i) (drop place bytes) time i s ≡ batch_from (triples_from list (i + 1)) (drop t.len (drop place bytes)) time (suc i) (call next s).store =
                ap (λ (ts : List Triple). batch_from ts (drop place bytes) time i s) (read_here list i n q t l d) ∙ first in
                rw (done-is.1, ← drop-drop t.len place bytes) (ap (λ (k : ℕ). batch_from (triples_from list (i + 1)) (drop t.len (drop place bytes)) time k (call next s).store) e ∙ sym c ∙ h.same)
              where
                first : batch_from (triple_of t ∷ triples_from list (i + 1)) (drop place bytes) time i s ≡ batch_from (triples_from list (i + 1)) (drop t.len (drop place bytes)) time (suc i) (call next s).store
                first = unfold batch_from call triple_of in after-accepted i s _ _ (unfold call in accepted)

    -- all were done
    pub between-last : i ≤ n → n ≤ i → answered 0 n s ≡ batch_from (decode_triples list) bytes time 0 start
    unfolding batch_from
    between-last k l =
        let e : n ≡ i = omega (arith, k, l) in
        rw e (ap (λ (ts : List Triple). batch_from ts (drop place bytes) time i s) (sym (from_end list i (omega (arith, l, q)))) ∙ h.same)

-- ---- blocks that are shared

module _ (s : Store) (r : StoreReady s) where
  -- the extents have their places, and lie on the device
  pub extents-placed : ExtentsPlaced s.head s.extents
  unfolding decode decode_with decode_books on_device book_places
  extents-placed = record {
    width = passes-head s r.passes;
    room = omega (arith, (passes-room s r.passes).extents);
    device = all-weaken (λ e. leb (e.physical + e.count) most_blocks) (λ e. leb (e.physical + e.count) (decode_head s.head).blocks) (extents_counted s.head s.extents)
        (λ e t. le-leb (e.physical + e.count) most_blocks (omega (arith, few-blocks s r.passes, leb-true (e.physical + e.count) (decode_head s.head).blocks t)))
        (lawful-decode s r.passes).device;
  }

  -- no block of theirs is mapped twice: so none of the store's is
  pub unshared-all : Once (mapped_blocks (extents_counted s.head s.extents)) → Unshared (decode s)
  unfolding decode decode_with decode_books
  unshared-all o = o

-- ---- the batch

module _ (list bytes : List ℕ) (time : Time) (s : Store) where
  -- refused by 18
  pub batch-refused : (m : Bool) → m ≡ batch_wrong list bytes → m ≡ true → answered 18 0 s ≡ batch_tried list bytes time s
  unfolding batch_tried unless number_of pick◌then◌else◌
  batch-refused m e t = rw (← e, t) refl

  -- not refused by it
  pub batch-tried : (m : Bool) → m ≡ batch_wrong list bytes → m ≡ false → (g : Result) → g ≡ batch_from (decode_triples list) bytes time 0 s → g ≡ batch_tried list bytes time s
  unfolding batch_tried unless pick◌then◌else◌
  batch-tried m e t g h = rw (← e, t) h
