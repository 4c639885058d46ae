-- From the tests and the inner call of many reads to the call of the rules.
-- Assumes nothing.
use mathlib.Core.Path.{◌≡◌, refl, sym, ap, ◌∙◌}
use mathlib.Core.Bool.{Bool, false}
use mathlib.Core.List.{List, [], ◌∷◌, ◌++◌, flat_map}
use Prim.Native.Nat.{ℕ, ◌+◌, ◌-◌, ◌≤◌}
use native.Mathlib.Omega.{arith}
use lib.Dec.{eqb, ltb}
use lib.ListN.{length, take, drop, length-drop}
use lib.Seq.{length-take-le}
use borrow.Author.Tests.{eqb-true, eqb-false, ltb-false}
use Rattle.std.specs.Prelude.{Err}
use Rattle.rules.specs.Store.{Store, decode, decode_with, card_of}
use Rattle.rules.specs.Book.{decode_books}
use Rattle.rules.specs.Refusal.{Refusal, Outcome, Result, ◌when◌, number_of, first_case, result}
use Rattle.rules.specs.Refusal.Refusal.{bad_reads}
use Rattle.rules.specs.Refusal.Outcome.{refuse, accept}
use Rattle.rules.specs.Arguments.{with_card}
use Rattle.rules.specs.Read.{read_file}
use Rattle.rules.specs.Triples.{Triple, decode_triples, list_wrong, lengths_of}
use Rattle.rules.specs.ReadMany.{reads_wrong, with_piece, then_reads, read_all, touched_by, different, units_touched, read_many_outcome}
use Rattle.rules.specs.Call.{call}
use Rattle.rules.specs.Call.Look.{read_many}
use Rattle.rules.specs.Call.Call.{look}
use Rattle.rules.proofs.ListLaws.{test-cases, if-true, if-false, or-none-right, each-any}
use Rattle.rules.proofs.CountLaws.{flat_map-each}
use Rattle.rules.proofs.PassLaws.{Passes}
use Rattle.rules.proofs.OutcomeLaws.{goes_on}
use Rattle.rules.proofs.Refused.{numbered}
use Rattle.format.specs.declared.refusal.Refusal as code
use Rattle.format.specs.Refusals.{number_in, refusal_of}
use Rattle.intake.specs.Join.{store_number}
use Rattle.intake.proofs.JoinLaws.{stopped}
use Rattle.read.specs.Gives.{Gives, gives, gives_read}
use Rattle.read_checks.specs.Reads.{Looked, looked, first_number, read_number, card_in, pairs_read, pairs_touched}
use Rattle.read_checks.proofs.StretchLaws.{first-none, first-pass, first-stop}
use Rattle.read_many.specs.Many.{handed_all, gives_all, gives_many}
use Rattle.read_many.proofs.PieceLaws.{read_number_lem}
use Rattle.volume.specs.Call.{handed}
use Rattle.volume.proofs.ReadLaws.{resulting, single-gives}

-- an outcome with number 0 is accepted: what it leaves and gives
outcome-zero : (s : Store) (out : List ℕ) (o : Outcome) (n : ℕ) (filled : List ℕ) → handed 0 n s filled ≡ result s out o → o ≡ accept n s filled
unfolding result
outcome-zero s out (refuse r) n filled e = absurd (omega (arith, ap (λ (x : Result). x.number) e, (numbered r).least))
outcome-zero s out (accept m left rest) n filled e =
    let a : m ≡ n = sym (ap (λ (x : Result). x.count) e) in
    let l : left ≡ s = sym (ap (λ (x : Result). x.store) e) in
    let f : rest ≡ filled = sym (ap (λ (x : Result). x.out) e) in
    λ i. accept (a i) (l i) (f i)

-- one with another is a refusal by it
outcome-refused : (s : Store) (out : List ℕ) (o : Outcome) (k n : ℕ) (filled : List ℕ) → handed k n s filled ≡ result s out o → (k ≡ 0 → ⊥) → (r : Refusal) × (o ≡ refuse r) × (number_of r ≡ k)
unfolding result
outcome-refused s out (refuse r) k n filled e z = (r, refl, sym (ap (λ (x : Result). x.number) e))
outcome-refused s out (accept m left rest) k n filled e z = absurd (z (ap (λ (x : Result). x.number) e))

module _ (s : Store) (p : Passes s) where
  -- the buffers that the units are looked up in
  abbrev b : Looked
  b = looked s.image s.head s.extents s.groups

  -- one of the reads, of the rules
  abbrev one : Triple → List ℕ → Outcome
  one t piece = with_card (decode s) t.object (read_file t.offset s piece)

  -- what the reads of a list become: the first refusal, or their buffer
  abbrev Becomes : ℕ → List Triple → List ℕ → Outcome → Type 0
  Becomes answer ts out o =
      (first_number (read_number b s.cards) ts ≡ 0 → o ≡ accept answer s (handed_all b s.cards ts out))
      × ((first_number (read_number b s.cards) ts ≡ 0 → ⊥) → (r : Refusal) × (o ≡ refuse r) × (number_of r ≡ first_number (read_number b s.cards) ts))

  module _ (t : Triple) (piece : List ℕ) (w : length piece ≡ t.len) where
    -- a single read as the inner call has it
    abbrev single : Gives
    single = gives_read s.image s.head s.cards s.extents s.groups t.object t.offset piece

    -- it is accepted where no number refuses it
    one-accepted : read_number b s.cards t ≡ 0 → one t piece ≡ accept single.count s single.out
    one-accepted z =
        let n : single.number ≡ 0 = read_number_lem b t piece w s.cards ∙ z in
        outcome-zero s piece (one t piece) single.count single.out (ap (λ (k : ℕ). handed k single.count s single.out) (sym n) ∙ (unfold resulting in single-gives t.object t.offset piece s p))

    -- else it is refused by it
    one-refused : (read_number b s.cards t ≡ 0 → ⊥) → (r : Refusal) × (one t piece ≡ refuse r) × (number_of r ≡ read_number b s.cards t)
    one-refused z =
        let n : single.number ≡ read_number b s.cards t = read_number_lem b t piece w s.cards in
        let x = outcome-refused s piece (one t piece) single.number single.count single.out (unfold resulting in single-gives t.object t.offset piece s p) (λ e. z (sym n ∙ e)) in
        (x.0, x.1, x.2 ∙ n)

  -- a read, and those behind it
  step-becomes : (answer : ℕ) (t : Triple) (ts : List Triple) (out : List ℕ) → length (take t.len out) ≡ t.len → (next : Outcome) → Becomes answer ts (drop t.len out) next
      → Becomes answer (t ∷ ts) out (then_reads (one t (take t.len out)) next)
  step-becomes answer t ts out w next h =
      let f : Triple → ℕ = read_number b s.cards in
      let piece : List ℕ = take t.len out in
      test-cases _ (eqb (f t) 0)
      (λ q. let z : f t ≡ 0 = eqb-true (f t) 0 q in
      let n : first_number f (t ∷ ts) ≡ first_number f ts = first-pass f t ts z in
      let o : one t piece ≡ accept (single t piece w).count s (single t piece w).out = one-accepted t piece w z in (
        (λ e. ap (λ (x : Outcome). then_reads x next) o ∙ ap (then_reads (accept (single t piece w).count s (single t piece w).out)) (h.0 (sym n ∙ e)) ∙ joined (single t piece w).count (single t piece w).out answer (handed_all b s.cards ts (drop t.len out)) ∙ (unfold handed_all in refl)),
        (λ e. let x = h.1 (λ y. e (n ∙ y)) in
            (x.0, ap (λ (y : Outcome). then_reads y next) o ∙ ap (then_reads (accept (single t piece w).count s (single t piece w).out)) x.1 ∙ refused-later (single t piece w).count (single t piece w).out x.0, x.2 ∙ sym n)),
      ))
      (λ q. let z : f t ≡ 0 → ⊥ = eqb-false (f t) 0 q in
      let n : first_number f (t ∷ ts) ≡ f t = first-stop f t ts z in
      let x = one-refused t piece w z in
      ((λ e. absurd (z (sym n ∙ e))), (λ e. (x.0, ap (λ (y : Outcome). then_reads y next) x.1 ∙ refused-first x.0 next, x.2 ∙ sym n))))
    where
      joined : (n : ℕ) (piece : List ℕ) (answer : ℕ) (rest : List ℕ) → then_reads (accept n s piece) (accept answer s rest) ≡ accept answer s (piece ++ rest)
      joined n piece answer rest = unfold then_reads with_piece in refl

      refused-later : (n : ℕ) (piece : List ℕ) (r : Refusal) → then_reads (accept n s piece) (refuse r) ≡ refuse r
      refused-later n piece r = unfold then_reads with_piece in refl

      refused-first : (r : Refusal) (next : Outcome) → then_reads (refuse r) next ≡ refuse r
      refused-first r next = unfold then_reads in refl

  -- all reads of a list whose lengths fit the buffer
  all-become : (answer : ℕ) (ts : List Triple) (out : List ℕ) → lengths_of ts ≤ length out → Becomes answer ts out (read_all answer s ts out)
  unfolding read_all lengths_of
  all-become answer [] out l = ((λ e. ap (accept answer s) none), (λ z. absurd (z (first-none (read_number b s.cards)))))
    where
      none : out ≡ handed_all b s.cards [] out
      none = unfold handed_all in refl
  all-become answer (t ∷ ts) out l =
      let m : length (drop t.len out) ≡ length out - t.len = length-drop t.len out in
      step-becomes answer t ts out (length-take-le t.len out (omega (arith, l))) (read_all answer s ts (drop t.len out)) (all-become answer ts (drop t.len out) (omega (arith, l, m)))

  -- the units that a read touches are those of the rules
  touched-same : (t : Triple) → pairs_touched s.head s.cards t ≡ touched_by (decode s) t
  unfolding pairs_touched pairs_read touched_by card_in card_of decode decode_with decode_books
  touched-same t = refl

  -- the answer
  answer-same : (ts : List Triple) → different (flat_map (pairs_touched s.head s.cards) ts) ≡ units_touched (decode s) ts
  unfolding units_touched
  answer-same ts = ap different (flat_map-each (pairs_touched s.head s.cards) (touched_by (decode s)) (each-any touched-same ts))

  -- what the reads of a list give is what the rules' do
  all-gives : (ts : List Triple) (out : List ℕ) → lengths_of ts ≤ length out
      → handed (gives_all b s.cards ts out).number (gives_all b s.cards ts out).count s (gives_all b s.cards ts out).out ≡ result s out (read_all (units_touched (decode s) ts) s ts out)
  unfolding gives_all result
  all-gives ts out l =
      let n : ℕ = first_number (read_number b s.cards) ts in
      let a : ℕ = different (flat_map (pairs_touched s.head s.cards) ts) in
      let g : Gives = gives 0 a (handed_all b s.cards ts out) in
      let h : Becomes (units_touched (decode s) ts) ts out (read_all (units_touched (decode s) ts) s ts out) = all-become (units_touched (decode s) ts) ts out l in
      test-cases _ (eqb n 0)
      (λ q. ap (λ (x : Gives). handed x.number x.count s x.out) (if-true (eqb n 0) g (gives n 0 out) q)
      ∙ ap (λ (k : ℕ). handed 0 k s (handed_all b s.cards ts out)) (answer-same ts) ∙ sym (ap (result s out) (h.0 (eqb-true n 0 q))))
      (λ q. let x = h.1 (eqb-false n 0 q) in
      ap (λ (x : Gives). handed x.number x.count s x.out) (if-false (eqb n 0) g (gives n 0 out) q)
      ∙ ap (λ (k : ℕ). handed k 0 s out) (sym x.2) ∙ sym (ap (result s out) x.1))

module _ (list out : List ℕ) (s : Store) where
  -- refusals 1 and 2
  pub many-stopped : (r : code.Refusal) → number_in {A = Unit {0}} (Err r) ≡ store_number s → handed (number_of (refusal_of r)) 0 s out ≡ call (look (read_many list out)) s
  unfolding call read_many_outcome
  many-stopped r e = stopped s out _ r e

  module _ (p : Passes s) where
    -- what the inner call gives, as the call's result
    abbrev answered : Gives → Result
    answered x = handed x.number x.count s x.out

    -- the reads, 17 past
    abbrev reads : Outcome
    reads = read_all (units_touched (decode s) (decode_triples list)) s (decode_triples list) out

    -- 17, or the reads
    wrong-gives : answered (gives_many (looked s.image s.head s.extents s.groups) s.cards list out) ≡ result s out (first_case ((bad_reads when reads_wrong list out) ∷ []) reads)
    unfolding gives_many first_case
    wrong-gives =
        let w : Bool = reads_wrong list out in
        let g : Gives = gives_all (looked s.image s.head s.extents s.groups) s.cards (decode_triples list) out in
        test-cases _ w
        (λ t. ap answered (if-true w (gives (number_of bad_reads) 0 out) g t) ∙ refused ∙ sym (ap (result s out) (if-true w (refuse bad_reads) reads t)))
        (λ t. ap answered (if-false w (gives (number_of bad_reads) 0 out) g t) ∙ all-gives s p (decode_triples list) out (fits t) ∙ sym (ap (result s out) (if-false w (refuse bad_reads) reads t)))
      where
        refused : answered (gives (number_of bad_reads) 0 out) ≡ result s out (refuse bad_reads)
        refused = unfold result in refl

        fits : reads_wrong list out ≡ false → lengths_of (decode_triples list) ≤ length out
        fits t = ltb-false (length out) (lengths_of (decode_triples list)) (or-none-right (list_wrong list) (ltb (length out) (lengths_of (decode_triples list))) (unfold reads_wrong in t))

    -- the call on a store that passes
    pub many-gives : (number count : ℕ) (filled : List ℕ)
        → gives number count filled ≡ gives_many (looked s.image s.head s.extents s.groups) s.cards list out
        → handed number count s filled ≡ call (look (read_many list out)) s
    unfolding call read_many_outcome
    many-gives number count filled e = ap answered e ∙ wrong-gives ∙ sym (ap (result s out) (goes_on s (first_case ((bad_reads when reads_wrong list out) ∷ []) reads) p))
