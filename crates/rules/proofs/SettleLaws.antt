-- The store that an accepted settle leaves: it passes refusals 1 and 2, and says the volume with no block retired. And the calls that leave the
-- store itself: fill, reads, an empty write, and a grow to the size that there is.
-- Assumes nothing.
use mathlib.Core.Path.{◌≡◌, refl, ap, ◌∙◌}
use mathlib.Core.List.{List, [], ◌∷◌}
use mathlib.Core.Bool.{Bool, true, not, ◌&&◌, and-true}
use mathlib.Core.Option.{some}
use Prim.Native.Nat.{ℕ}
use lib.Dec.{eqb, leb}
use lib.ListN.{length, drop}
use borrow.Author.Tests.{eq-eqb}
use Rattle.rules.specs.Time.{Time}
use Rattle.rules.specs.Arguments.{with_card}
use Rattle.rules.specs.Lists.{range}
use Rattle.rules.specs.Bytes.{Bytes}
use Rattle.rules.specs.Card.{Card}
use Rattle.rules.specs.Store.{Store, StoreBytes, Volume, decode, decode_with, head_of, encode_into, card_of}
use Rattle.rules.specs.Refusal.{Case, Outcome, ◌when◌, first_case, result}
use Rattle.rules.specs.Refusal.Refusal.{bad_reads}
use Rattle.rules.specs.Refusal.Outcome.{refuse, accept}
use Rattle.rules.specs.Integrity.{mapped_blocks, reserved_right, retired_right, store_cases}
use Rattle.rules.specs.Write.{write_file, write_outcome, grow_file, grow_outcome}
use Rattle.rules.specs.Read.{Checked, read_length, hand_out, read_units, read_file, read_outcome}
use Rattle.rules.specs.Read.Checked.{failed, bytes}
use Rattle.rules.specs.Triples.{Triple, decode_triples}
use Rattle.rules.specs.ReadMany.{reads_wrong, with_piece, then_reads, read_all, read_many_outcome}
use Rattle.rules.specs.Stretches.{list_stretches, stretches_file, stretches_outcome}
use Rattle.rules.specs.Settle.{settled, settle_outcome, fill_outcome}
use Rattle.rules.specs.Call.{Look, call}
use Rattle.rules.specs.Call.Look.{read, read_many, data_stretches, fill}
use Rattle.rules.specs.Call.Call.{grow, settle, look}
use Rattle.rules.proofs.ListLaws.{if-cases, if-true, maybe-cases, all-weaken, all-range-of, each-any}
use Rattle.rules.proofs.StoreLaws.{VolumeFits}
use Rattle.rules.proofs.PassLaws.{Passes, Lawful, Room, lawful-decode, room-decode, decode-fits, Says, says-encode_into, mappable, mapped-all, all-mapped}
use Rattle.rules.proofs.OutcomeLaws.{through, first_of-cases, store-passes}

-- ---- the retired blocks let go

module _ (v : Volume) where
  -- the volume stays lawful
  pub settled-lawful : Lawful v → Lawful (settled v)
  unfolding settled reserved_right retired_right
  settled-lawful l = record {
    order = l.order;
    times = l.times;
    filled = l.filled;
    apart = l.apart;
    device = l.device;
    files = l.files;
    mapped = all-mapped (settled v) (all-weaken (mappable (settled v)) (mappable v)
        (mapped_blocks v.books.extents) (λ n h. ap (λ (b : Bool). b && leb v.reserved n) (and-true (v.used n && not (v.retired n))) ∙ h) (mapped-all v l.mapped));
    reserved = all-weaken (λ n. (v.used n && not (v.retired n)) && true) (λ n. v.used n && not (v.retired n))
        (range 0 v.reserved) (λ n h. and-true (v.used n && not (v.retired n)) ∙ h) l.reserved;
    retired = all-range-of (λ n. true) 0 v.blocks (λ i m. refl);
    used_past = λ n m. ap (λ (b : Bool). b && not (v.retired n)) (l.used_past n m);
    retired_past = λ n m. refl;
  }

  -- its numbers stay in range
  pub settled-fits : VolumeFits v → VolumeFits (settled v)
  unfolding settled head_of
  settled-fits f = record {
    head = f.head;
    cards = f.cards;
    extents = f.extents;
    groups = f.groups;
    used = λ n m. ap (λ (b : Bool). b && not (v.retired n)) (f.used n m);
    retired = λ n m. refl;
  }

  -- there is room for it
  pub settled-room : (s : Store) → Room s v → Room s (settled v)
  unfolding settled
  settled-room s r = record {
    buffers = r.buffers;
    blocks = r.blocks;
    image = r.image;
    reserved = r.reserved;
    cards = r.cards;
    extents = r.extents;
    groups = r.groups;
  }

-- ---- the call

-- settle's tests pass, and it leaves the buffers that say the settled volume
pub record SettleAccepted (s : Store) : Type 0 where
  pub passes : Passes s
  pub store : (call settle s).store ≡ encode_into s (settled (decode s))

-- so it is with an accepted one
pub settle-accepted : (s : Store) → (call settle s).number ≡ 0 → SettleAccepted s
unfolding call settle_outcome result
settle-accepted s e =
    let t = through s [] (store_cases s) _ e in
    record { passes = store-passes s t.none; store = ap (λ o. (result s [] o).store) t.goes_on }

-- the store that an accepted settle leaves is one of bytes, passes refusals 1 and 2, and says the settled volume
pub settle-says : (s : Store) → StoreBytes s → (call settle s).number ≡ 0 → Says (call settle s).store (settled (decode s))
settle-says s b e =
    let a : SettleAccepted s = settle-accepted s e in
    let v : Volume = decode s in
    let p : Passes s = a.passes in
    let m : Bytes (settled v).image = unfold settled decode decode_with in b.image in
    rw a.store (says-encode_into s (settled v) (settled-room v s (room-decode s p)) (settled-fits v (decode-fits s p b)) (settled-lawful v (lawful-decode s p)) m)

-- ---- calls that leave the store

-- what becomes of the call leaves the store itself
abbrev pub Stays : Store → List ℕ → Outcome → Type 0
Stays s out o = (result s out o).store ≡ s

-- whatever tests come first
first-stays : (s : Store) (out : List ℕ) (cases : List Case) (o : Outcome) → Stays s out o → Stays s out (first_case cases o)
unfolding result
first-stays s out cases o h = first_of-cases (Stays s out) o (each-any (λ c e. refl) cases) (λ n. h)

-- and whether there is a card
card-stays : (s : Store) (out : List ℕ) (object : ℕ) (next : Card → Outcome) → ((c : Card) → card_of (decode s) object ≡ some c → Stays s out (next c))
    → Stays s out (with_card (decode s) object next)
unfolding result with_card
card-stays s out object next h = maybe-cases (Stays s out) _ next (card_of (decode s) object) (λ e. refl) h

-- bytes handed out
hand-stays : (at n : ℕ) (s : Store) (out : List ℕ) (c : Checked) → Stays s out (hand_out at n s out c)
unfolding hand_out result
hand-stays at n s out (failed r) = refl
hand-stays at n s out (bytes xs) = refl

-- a piece in front
piece-stays : (s : Store) (lent out piece : List ℕ) (o : Outcome) → Stays s lent o → Stays s out (with_piece piece o)
unfolding with_piece result
piece-stays s lent out piece (refuse r) h = refl
piece-stays s lent out piece (accept n left rest) h = h

-- one read after another
then-stays : (s : Store) (lent out : List ℕ) (o next : Outcome) → Stays s lent next → Stays s out (then_reads o next)
unfolding then_reads result
then-stays s lent out (refuse r) next h = refl
then-stays s lent out (accept n left piece) next h = piece-stays s lent out piece next h

-- all of them
all_stay : (answer : ℕ) (s : Store) (ts : List Triple) (lent out : List ℕ) → Stays s lent (read_all answer s ts out)
unfolding read_all result
all_stay answer s [] lent out = refl
all_stay answer s (t ∷ ts) lent out = then-stays s lent lent _ _ (all_stay answer s ts lent (drop t.len out))

-- reads and fill
pub look-stays : (l : Look) (s : Store) → (call (look l) s).store ≡ s
unfolding call read_outcome read_file read_units read_many_outcome stretches_outcome stretches_file list_stretches fill_outcome result
look-stays (read object offset out) s =
    first-stays s out (store_cases s) _ (card-stays s out object _ (λ c e.
    if-cases (Stays s out) (eqb (read_length c.size offset (length out)) 0) _ _ (λ q. refl) (λ q. hand-stays _ _ s out _)))
look-stays (read_many list out) s =
    first-stays s out (store_cases s) _ (first-stays s out ((bad_reads when reads_wrong list out) ∷ []) _ (all_stay _ s (decode_triples list) out out))
look-stays (data_stretches object first units out) s =
    first-stays s out (store_cases s) _ (card-stays s out object _ (λ c e. first-stays s out _ _ refl))
look-stays fill s = first-stays s [] (store_cases s) _ refl

-- a write of no bytes, whatever the limit of runs
pub write-stays : (limit object offset : ℕ) (xs : List ℕ) (time : Time) (s : Store) → length xs ≡ 0 → Stays s [] (write_outcome limit object offset xs time s)
unfolding write_outcome write_file result
write-stays limit object offset xs time s h =
    first-stays s [] (store_cases s) _ (card-stays s [] object _ (λ c e. rw (if-true (eqb (length xs) 0) _ _ (eq-eqb (length xs) 0 h)) refl))

-- a grow to the size that there is
pub grow-stays : (object size : ℕ) (time : Time) (s : Store) → ((c : Card) → card_of (decode s) object ≡ some c → size ≡ c.size)
    → (call (grow object size time) s).store ≡ s
unfolding call grow_outcome grow_file result
grow-stays object size time s h =
    first-stays s [] (store_cases s) _ (card-stays s [] object _ (λ c e. first-stays s [] _ _ (rw (if-true (eqb size c.size) _ _ (eq-eqb size c.size (h c e))) refl)))
