-- The definitions run: a short history on a store of four blocks, computed by the checker and equal to answers, extents and cards that were
-- worked out by hand from document 01's sentences.
--
-- The store: four blocks, one of them reserved, so that blocks 1, 2 and 3 can be taken. File 7 has five bytes, then two of them are
-- overwritten, then it grows to eight; each change moves its one block on, and retires the one before.
-- Assumes nothing.
use mathlib.Core.Path.{◌≡◌, refl}
use mathlib.Core.List.{[], ◌∷◌}
use mathlib.Core.Option.{some}
use lib.ListN.{replicate}
use Rattle.rules.specs.Store.{decode}
use Rattle.rules.specs.Inspect.{checksum_of}
use Rattle.rules.specs.Call.{call, run}
use Rattle.rules.specs.Call.Call.{fresh, enter, write, grow, settle, look}
use Rattle.rules.specs.Call.Look.{read, fill}
use Rattle.worked.proofs.Stores.{zeros, time, uuid, written, overwritten, grown, done, answer, extents, cards, extent, card, computed}

pub record History : Type 0 where
  pub fresh-answer : answer (fresh uuid 1) (zeros 4 2 1 2) ≡ (0, 0)
  pub enter-answer : answer (enter 7 (time 5 6)) (run (fresh uuid 1 ∷ []) (zeros 4 2 1 2)) ≡ (0, 0)
  pub write-extents : extents written ≡ extent 0 1 1 ∷ []
  pub write-card : cards written ≡ card 5 1 8 9 ∷ []
  pub overwrite-answer : answer (write 7 2 (9 ∷ 9 ∷ []) (time 10 11)) written ≡ (0, 2)
  pub overwrite-extents : extents overwritten ≡ extent 0 2 1 ∷ []
  pub overwrite-card : cards overwritten ≡ card 5 1 10 11 ∷ []
  pub grow-answer : answer (grow 7 8 (time 12 13)) overwritten ≡ (0, 0)
  pub grow-extents : extents grown ≡ extent 0 3 1 ∷ []
  pub grow-card : cards grown ≡ card 8 1 12 13 ∷ []
  -- blocks 1 and 2 were superseded
  pub settle-answer : answer settle grown ≡ (0, 2)
  pub settle-extents : extents done ≡ extent 0 3 1 ∷ []
  pub settle-checksum : checksum_of (decode done) 7 0 ≡ some 3593734301
  -- of blocks 1, 2 and 3 the last is used
  pub fill-answer : answer (look fill) done ≡ (0, 333)
  -- four bytes from the second on, and the rest of the buffer as it was
  pub read_answer : answer (look (read 7 1 (replicate 4 77))) done ≡ (0, 4)
  pub read-bytes : (call (look (read 7 4 (replicate 6 77))) done).out ≡ 5 ∷ 0 ∷ 0 ∷ 0 ∷ 77 ∷ 77 ∷ []
  pub read-at-end : answer (look (read 7 8 (replicate 4 77))) done ≡ (0, 0)
  pub empty-write : answer (write 7 0 [] (time 8 9)) done ≡ (0, 0)
  -- not even the time
  pub equal-grow : cards (run (grow 7 8 (time 1 1) ∷ []) done) ≡ card 8 1 12 13 ∷ []

pub history : History
unfolding computed
history = record {
  fresh-answer = refl;
  enter-answer = refl;
  write-extents = refl;
  write-card = refl;
  overwrite-answer = refl;
  overwrite-extents = refl;
  overwrite-card = refl;
  grow-answer = refl;
  grow-extents = refl;
  grow-card = refl;
  settle-answer = refl;
  settle-extents = refl;
  settle-checksum = refl;
  fill-answer = refl;
  read_answer = refl;
  read-bytes = refl;
  read-at-end = refl;
  empty-write = refl;
  equal-grow = refl;
}
