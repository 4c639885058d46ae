-- Many reads in one call give the count and the buffer that the plain arrays say: demand 3's claim of them, triple by triple. The buffer is from the law
-- of one read, and the count from the pairs that each read touches: a file's size is its array's length.
-- The test of the list, refusal 17, plays no part: what is shown of the reads holds of every list of triples and of every buffer.
-- Assumes nothing.
use mathlib.Core.Path.{◌≡◌, refl, sym, ap, ◌∙◌}
use mathlib.Core.List.{List, [], ◌∷◌, ◌++◌, flat_map}
use mathlib.Core.Bool.{false, false≢true}
use mathlib.Core.Option.{Option, none, some}
use Prim.Native.Nat.{ℕ}
use lib.ListN.{take, drop}
use Rattle.rules.specs.Lists.{maybe, given, any, member}
use Rattle.rules.specs.Store.{Store, decode, card_of}
use Rattle.rules.specs.Refusal.{Outcome, Result, ◌when◌, number_of, first_case, result}
use Rattle.rules.specs.Refusal.Refusal.{bad_reads}
use Rattle.rules.specs.Triples.{Triple, decode_triples}
use Rattle.rules.specs.ReadMany.{reads_wrong, with_piece, then_reads, read_all, pairs_of, touched_by, different, units_touched, read_many_outcome}
use Rattle.rules.specs.Call.{call}
use Rattle.rules.specs.Call.Look.{read_many}
use Rattle.rules.specs.Call.Call.{look}
use Rattle.rules.specs.Plain.{File, file_bytes, plain_piece, plain_many, plain_pairs}
use Rattle.rules.specs.Demand.{PlainAnswer, PlainAnswers, never_numbers}
use Rattle.rules.proofs.ListLaws.{each_none, each_more, each-any}
use Rattle.rules.proofs.CountLaws.{flat_map-each}
use Rattle.rules.proofs.PassLaws.{Passes}
use Rattle.rules.proofs.OutcomeLaws.{first_of-cases, accepted-cases, goes_on}
use Rattle.history.proofs.HistoryLaws.{Never}
use Rattle.history.proofs.ReadLaws.{plain-length, Reads, no-file, answered, reads-give, reads-never, AllKnown, read_one}

-- the count is this answer, and the buffer what the plain arrays say of these triples
abbrev ManyAnswer : ℕ → List File → List Triple → List ℕ → Result → Type 0
ManyAnswer answer files ts out r = (r.count ≡ answer) × (plain_many files ts out ≡ some r.out)

-- one read's buffer is the piece that its plain array says
piece-plain : {files : List File} {object offset : ℕ} {piece : List ℕ} {r : Result} (a : PlainAnswer files object offset piece r) → r.out ≡ plain_piece a.bytes offset piece
unfolding plain_piece
piece-plain a = rw (a.buffer, a.count) refl

-- a read, and then the others: where both are accepted, its piece goes before theirs, and their answer stays
then-plain : (answer : ℕ) (files : List File) (s : Store) (t : Triple) (ts : List Triple) (out : List ℕ) {o next : Outcome}
    → Reads (PlainAnswer files t.object t.offset (take t.len out)) s (take t.len out) o → Reads (ManyAnswer answer files ts (drop t.len out)) s (drop t.len out) next
    → Reads (ManyAnswer answer files (t ∷ ts) out) s out (then_reads o next)
unfolding then_reads with_piece plain_many maybe result
then-plain answer files s t ts out no-file h = no-file
then-plain answer files s t ts out (answered n piece a) no-file = no-file
then-plain answer files s t ts out (answered n piece a) (answered m rest e) = answered m (piece ++ rest) (e.0, rw (a.known, e.1, ← piece-plain a) refl)

-- two that both stand there or both do not, each put through its function: the same where the functions give the same
maybe-same : {A B C : Type 0} (d : C) (f : A → C) (g : B → C) (o : Option A) (p : Option B)
    → given p ≡ given o → ((x : A) (y : B) → o ≡ some x → p ≡ some y → f x ≡ g y) → maybe d f o ≡ maybe d g p
unfolding maybe given
maybe-same d f g none none e h = refl
maybe-same d f g none (some y) e h = absurd (false≢true (sym e))
maybe-same d f g (some x) none e h = absurd (false≢true e)
maybe-same d f g (some x) (some y) e h = h x y refl refl

module _ (files : List File) (s : Store) (known : AllKnown files (decode s)) where
  -- all of them: each piece is what the plain array of its object says, and the rest behind the pieces stays; the count is the answer they were given
  all_plain : (answer : ℕ) (ts : List Triple) (out : List ℕ) → Reads (ManyAnswer answer files ts out) s out (read_all answer s ts out)
  unfolding read_all plain_many result
  all_plain answer [] out = answered answer out (refl, refl)
  all_plain answer (t ∷ ts) out =
      then-plain answer files s t ts out (read_one files s known t.object t.offset (take t.len out)) (all_plain answer ts (drop t.len out))

  -- a read touches the pairs in which its plain array's bytes lie: none without a card, for then there is no array
  touched-plain : (t : Triple) → touched_by (decode s) t ≡ plain_pairs files t
  unfolding touched_by plain_pairs
  touched-plain t = maybe-same [] _ _ (card_of (decode s) t.object) (file_bytes files t.object) (known t.object).0 (λ c xs q e.
      ap (pairs_of t.object t.offset) (rw ((known t.object).1 xs e c q).0 (sym (plain-length xs t.offset t.len))))

  -- so the number of units that the volume says is the plain arrays'
  count-plain : (ts : List Triple) → units_touched (decode s) ts ≡ different (flat_map (plain_pairs files) ts)
  unfolding units_touched
  count-plain ts = ap different (flat_map-each (touched_by (decode s)) (plain_pairs files) (each-any touched-plain ts))

  module _ (p : Passes s) (list out : List ℕ) where
    -- what becomes of the reads of the list
    abbrev list_read : Outcome
    list_read = read_all (units_touched (decode s) (decode_triples list)) s (decode_triples list) out

    -- they give the buffer that the plain arrays say, with the number of units that the volume does
    list-plain : Reads (ManyAnswer (units_touched (decode s) (decode_triples list)) files (decode_triples list) out) s out list_read
    list-plain = all_plain (units_touched (decode s) (decode_triples list)) (decode_triples list) out

    -- refusals 1 and 2 do not come: what is left is the test of the list, and the reads
    many-goes-on : call (look (read_many list out)) s ≡ result s out (first_case ((bad_reads when reads_wrong list out) ∷ []) list_read)
    unfolding call read_many_outcome
    many-goes-on = ap (result s out) (goes_on s (first_case ((bad_reads when reads_wrong list out) ∷ []) list_read) p)

    -- every accepted call gives the count and the buffer that the plain arrays say
    pub many-plain : (call (look (read_many list out)) s).number ≡ 0 → PlainAnswers files list out (call (look (read_many list out)) s)
    many-plain = rw many-goes-on (accepted-cases s out (λ o. PlainAnswers files list out (result s out o)) _ _ (λ n e.
        let h = reads-give list-plain e in
        record { count = h.0 ∙ count-plain (decode_triples list); buffer = h.1 }))

    -- and none is refused with "2, 9 to 12 and 14"
    pub many-never : member (call (look (read_many list out)) s).number never_numbers ≡ false
    unfolding result number_of member any
    many-never = rw many-goes-on (first_of-cases (Never s out) _ (each_more (λ h. refl) each_none) (λ n. reads-never list-plain))
