-- Document 01, "Plain arrays": what the files hold, told from the calls alone. Nothing here sees a store.
-- Assumes nothing.
use Rattle.std.specs.Prelude.{List, [], ◌∷◌, ◌++◌, map, Bool, ℕ, zero, suc, min, eqb, length, take, drop}
use Rattle.std.proofs.Math.Option.{Option, none, some}
use Rattle.rules.specs.Lists.{pick◌then◌else◌, maybe, find}
use Rattle.rules.specs.Sizes.{most_transfer}
use Rattle.rules.specs.Bytes.{patch, padded}
use Rattle.rules.specs.Time.{Time}
use Rattle.rules.specs.Triples.{Triple, decode_triples}
use Rattle.rules.specs.ReadMany.{Pair, pairs_of}
use Rattle.rules.specs.Call.{Call}
use Rattle.rules.specs.Call.Call.{fresh, enter, write, write_archive, grow, settle, look}
use Rattle.rules.specs.Act.{Act}
use Rattle.rules.specs.Act.Act.{whole, batch}

-- "Fed: each call's arguments without the store's buffers, whether it was refused and, where a request's step speaks of the parts done, the number of
-- them that the call answers; nothing else."
pub record Fed : Type 0 where
  pub act : Act
  pub refused : Bool
  pub done : ℕ

-- "State: objects, each with its bytes; at the start none." (a plain array); and, for W-205, the time that its enter was lent
pub record File : Type 0 where
  pub object : ℕ
  pub created : Time
  pub bytes : List ℕ

-- the file of this object with its bytes put through f, the others as they are
unfoldable pub change : ℕ → (List ℕ → List ℕ) → List File → List File
change object f files = map (λ a. pick eqb a.object object then record { object = a.object; created = a.created; bytes = f a.bytes } else a) files

-- "stand from the offset on, over what was there, with zeros filled in before them if the offset is past the end"
unfoldable pub overwrite : ℕ → List ℕ → List ℕ → List ℕ
overwrite offset new old = patch (padded offset old) offset new

-- write's step: "empty, no change; else the first 1,048,576 bytes at most [..]"
unfoldable pub write_step : ℕ → ℕ → List ℕ → List File → List File
write_step object offset bytes files = pick eqb (length bytes) 0 then files else change object (overwrite offset (take most_transfer bytes)) files

-- the step of an accepted call.
-- "Fresh: none again. Enter: its object, no bytes. [..] Grow: zeros up to the new size. Read, settle, fill [..]: no change."; so many reads in one call,
-- and a list of stretches. W-207: "In the plain arrays it takes write's step."
unfoldable pub accepted : Call → List File → List File
accepted (fresh uuid reserved) files = []
accepted (enter object time) files = record { object = object; created = time; bytes = [] } ∷ files
accepted (write object offset bytes time) files = write_step object offset bytes files
accepted (write_archive object offset bytes time) files = write_step object offset bytes files
accepted (grow object size time) files = change object (padded size) files
accepted settle files = files
accepted (look l) files = files

-- W-204: "the plain array per file is then the one that the writes done, in order, produce": the first n writes of a batch, each by write's step
unfoldable pub plain_writes : List Triple → List ℕ → Time → ℕ → List File → List File
plain_writes ts bytes time zero files = files
plain_writes [] bytes time (suc n) files = files
plain_writes (t ∷ ts) bytes time (suc n) files =
    plain_writes ts (drop t.len bytes) time n (accepted (write t.object t.offset (take t.len bytes) time) files)

-- the step of an act that was not refused, with so many of its parts done
unfoldable pub act_step : Act → ℕ → List File → List File
act_step (whole c) done files = accepted c files
act_step (batch list bytes time) done files = plain_writes (decode_triples list) bytes time done files

-- "refused calls: no change"
unfoldable pub step : Fed → List File → List File
step f files = pick f.refused then files else act_step f.act f.done files

-- the plain arrays after what was fed
unfoldable pub plain : List Fed → List File → List File
plain [] files = files
plain (f ∷ fs) files = plain fs (step f files)

-- an object's bytes
unfoldable pub file_bytes : List File → ℕ → Option (List ℕ)
file_bytes files object = maybe none (λ a. some a.bytes) (find (λ a. eqb a.object object) files)

-- when it was made
unfoldable pub file_created : List File → ℕ → Option Time
file_created files object = maybe none (λ a. some a.created) (find (λ a. eqb a.object object) files)

-- "A read's bytes are those from its offset to the end, at most 1,048,576 and at most its buffer's length"
unfoldable pub plain_read : List ℕ → ℕ → ℕ → List ℕ
plain_read bytes offset room = take (min room most_transfer) (drop offset bytes)

-- W-201: "what a single read into a buffer of that length gives, and its unread rest is unchanged"
unfoldable pub plain_piece : List ℕ → ℕ → List ℕ → List ℕ
plain_piece bytes offset piece = plain_read bytes offset (length piece) ++ drop (length (plain_read bytes offset (length piece))) piece

-- the whole buffer of many reads, as the plain arrays have it; there is none where an object has no array
unfoldable pub plain_many : List File → List Triple → List ℕ → Option (List ℕ)
plain_many files [] out = some out
plain_many files (t ∷ ts) out =
    maybe none (λ bytes. maybe none (λ rest. some (plain_piece bytes t.offset (take t.len out) ++ rest)) (plain_many files ts (drop t.len out)))
    (file_bytes files t.object)

-- the pairs of object and unit in which the bytes lie that a read gets of its plain array; none where the object has no array
unfoldable pub plain_pairs : List File → Triple → List Pair
plain_pairs files t =
    maybe [] (λ bytes. pairs_of t.object t.offset (length (plain_read bytes t.offset t.len))) (file_bytes files t.object)
