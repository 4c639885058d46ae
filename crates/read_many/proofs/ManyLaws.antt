-- Laws of many reads: the test of the list, the pieces of all reads, and what the call gives.
-- Assumes nothing.
use mathlib.Core.Path.{◌≡◌, refl, sym, ap, ◌∙◌}
use mathlib.Core.Bool.{Bool, true, false, not}
use mathlib.Core.List.{List, [], ◌∷◌, flat_map}
use Prim.Native.Nat.{ℕ, zero, suc, ◌+◌, ◌-◌, ◌/◌, ◌%◌, ◌≤◌, ◌<◌}
use native.Mathlib.Omega.{arith}
use lib.Dec.{eqb, ltb}
use lib.ListN.{length, take, drop, get_or, length-drop}
use lib.Seq.{length-take-le, get_or-drop, drop-drop}
use borrow.Author.Tests.{eq-eqb, ne_eqb, ltb-false}
use Rattle.rules.specs.Head.{Head, decode_head}
use Rattle.rules.specs.Refusal.{number_of}
use Rattle.rules.specs.Refusal.Refusal.{bad_reads}
use Rattle.rules.specs.Triples.{Triple, triple_bytes, most_triples, decode_triple, decode_triples, list_wrong, lengths_of}
use Rattle.rules.specs.ReadMany.{reads_wrong, different}
use Rattle.rules.proofs.ListLaws.{Each, each_at, if-true, if-false, or-none-left, or-none-right}
use Rattle.format.specs.declared.head.Head as head_struct
use Rattle.format.specs.Records.{head_of}
use Rattle.book.proofs.SearchLaws.{record-at}
use Rattle.triples.specs.Triple.{triple_at, triples_from}
use Rattle.triples.proofs.TripleLaws.{length-triples, from_start, from-here, from_end, lengths-here}
use Rattle.read.specs.Range.{Readable}
use Rattle.read.specs.Gives.{Gives, gives, gives_read}
use Rattle.read_checks.specs.Reads.{Looked, first_number, read_number, pairs_touched, SizeIs}
use Rattle.read_checks.specs.Checked.{ListChecked}
use Rattle.read_checks.proofs.StretchLaws.{first-all}
use Rattle.pieces.specs.Pieces.{piece_of, pieces_of}
use Rattle.read_many.specs.Many.{handed_all, gives_all, gives_many}
use Rattle.read_many.proofs.PieceLaws.{read_out}

-- ---- the test of the list

module _ (list out : List ℕ) where
  module _ (r : Bool) (e : r ≡ reads_wrong list out) (t : r ≡ false) where
    -- a list that is right has few triples
    pub few-triples : length list / triple_bytes ≤ most_triples
    unfolding reads_wrong list_wrong
    few-triples =
        let right : list_wrong list ≡ false = or-none-left (list_wrong list) (ltb (length out) (lengths_of (decode_triples list))) (sym e ∙ t) in
        ltb-false most_triples (length list / triple_bytes) (or-none-right (not (eqb (length list % triple_bytes) 0)) (ltb most_triples (length list / triple_bytes)) right)

    -- and its lengths fit the buffer
    pub lengths-fit : lengths_of (decode_triples list) ≤ length out
    unfolding reads_wrong
    lengths-fit = ltb-false (length out) (lengths_of (decode_triples list)) (or-none-right (list_wrong list) (ltb (length out) (lengths_of (decode_triples list))) (sym e ∙ t))

-- ---- the pieces of all reads

module _ (b : Looked) (cards list sizes : List ℕ) (d : Readable b.image b.extents b.groups (decode_head b.head).extents (decode_head b.head).groups)
    (right : (j : ℕ) → j < length list / triple_bytes → read_number b cards (triple_at list j) ≡ 0)
    (noted : (j : ℕ) → j < length list / triple_bytes → SizeIs b.head cards (triple_at list j) (get_or sizes j 0)) where
  -- the piece of one read, and those of the others
  pieces_step : (t : Triple) (ts : List Triple) (left out : List ℕ) (size : ℕ) → get_or left 0 0 ≡ size
      → piece_of b.image b.extents (decode_head b.head).extents t.object t.offset size (take t.len out)
      ≡ (gives_read b.image b.head cards b.extents b.groups t.object t.offset (take t.len out)).out
      → pieces_of b.image b.extents (decode_head b.head).extents ts (drop 1 left) (drop t.len out) ≡ handed_all b cards ts (drop t.len out)
      → pieces_of b.image b.extents (decode_head b.head).extents (t ∷ ts) left out ≡ handed_all b cards (t ∷ ts) out
  unfolding pieces_of handed_all
  pieces_step t ts left out size z p h = rw (z, p, h) refl

  -- the pieces from a read on are those of single reads
  pieces-from : (n i : ℕ) → i + n ≡ length list / triple_bytes → (out : List ℕ) → lengths_of (triples_from list i) ≤ length out
      → pieces_of b.image b.extents (decode_head b.head).extents (triples_from list i) (drop i sizes) out ≡ handed_all b cards (triples_from list i) out
  pieces-from zero i e out l = rw (from_end list i (omega (arith, e))) nothing
    where
      nothing : pieces_of b.image b.extents (decode_head b.head).extents [] (drop i sizes) out ≡ handed_all b cards [] out
      nothing = unfold pieces_of handed_all in refl
  pieces-from (suc n) i e out l =
      let t : Triple = triple_at list i in
      let m : lengths_of (triples_from list i) ≡ t.len + lengths_of (triples_from list (i + 1)) = lengths-here list i (omega (arith, e)) in
      let w : length (take t.len out) ≡ t.len = length-take-le t.len out (omega (arith, l, m)) in
      let k : i + 0 ≡ i = omega arith in
      let z : get_or (drop i sizes) 0 0 ≡ get_or sizes i 0 = get_or-drop i sizes 0 0 ∙ ap (λ (j : ℕ). get_or sizes j 0) k in
      let y : length (drop t.len out) ≡ length out - t.len = length-drop t.len out in
      let h : pieces_of b.image b.extents (decode_head b.head).extents (triples_from list (i + 1)) (drop 1 (drop i sizes)) (drop t.len out) ≡ handed_all b cards (triples_from list (i + 1)) (drop t.len out) =
      ap (λ (x : List ℕ). pieces_of b.image b.extents (decode_head b.head).extents (triples_from list (i + 1)) x (drop t.len out)) (drop-drop 1 i sizes)
      ∙ pieces-from n (i + 1) (omega (arith, e)) (drop t.len out) (omega (arith, y, l, m)) in
      rw (from-here list i (omega (arith, e)))
      (pieces_step t (triples_from list (i + 1)) (drop i sizes) out (get_or sizes i 0) z
      (read_out b t (take t.len out) w cards (get_or sizes i 0) (noted i (omega (arith, e))) (right i (omega (arith, e))) d) h)

  -- all pieces are
  pub pieces-all : (out : List ℕ) → lengths_of (decode_triples list) ≤ length out
      → pieces_of b.image b.extents (decode_head b.head).extents (decode_triples list) sizes out ≡ handed_all b cards (decode_triples list) out
  pieces-all out l =
      let s : triples_from list 0 ≡ decode_triples list = from_start list in
      rw s at (pieces-from (length list / triple_bytes) 0 (omega arith) out (rw s l))

-- ---- what the call gives

-- each triple of the list is the one at its place
each-triple : (P : Triple → Type 0) (list : List ℕ) → Each P (decode_triples list) → (j : ℕ) → j < length list / triple_bytes → P (triple_at list j)
unfolding decode_triples triple_at
each-triple P list h j l =
    let w : j < length (decode_triples list) = rw (length-triples list) l in
    rw (record-at decode_triple triple_bytes list (length list / triple_bytes) j (decode_triple []) l) at (each_at h j (decode_triple []) w)

module _ (b : Looked) (cards list left out : List ℕ) (r c : ℕ) (x : ListChecked b cards list left r c) where
  -- a read is refused
  pub all-refused : (r ≡ 0 → ⊥) → gives r 0 out ≡ gives_all b cards (decode_triples list) out
  unfolding gives_all
  all-refused z =
      let n : ℕ = first_number (read_number b cards) (decode_triples list) in
      ap (λ (k : ℕ). gives k 0 out) x.number ∙ sym (if-false (eqb n 0) _ (gives n 0 out) (ne_eqb n 0 (λ e. z (x.number ∙ e))))

  -- none is, and the pieces were handed out
  pub all_done : r ≡ 0 → (h : head_struct.Head) → head_of h ≡ decode_head b.head
      → Readable b.image b.extents b.groups (decode_head b.head).extents (decode_head b.head).groups → lengths_of (decode_triples list) ≤ length out
      → (filled : List ℕ) → filled ≡ pieces_of b.image b.extents h.extents (decode_triples list) left out → gives r c filled ≡ gives_all b cards (decode_triples list) out
  unfolding gives_all head_of
  all_done z h d y l filled f =
      let n : ℕ = first_number (read_number b cards) (decode_triples list) in
      let q : n ≡ 0 = sym x.number ∙ z in
      let e : h.extents ≡ (decode_head b.head).extents = ap (λ (k : Head). k.extents) d in
      let p : filled ≡ handed_all b cards (decode_triples list) out =
      f ∙ ap (λ (k : ℕ). pieces_of b.image b.extents k (decode_triples list) left out) e
      ∙ pieces-all b cards list left y (each-triple (λ t. read_number b cards t ≡ 0) list (first-all (read_number b cards) (decode_triples list) q)) (x.noted z) out l in
      rw (z, x.count z, p) (sym (if-true (eqb n 0) (gives 0 (different (flat_map (pairs_touched b.head cards) (decode_triples list))) (handed_all b cards (decode_triples list) out)) (gives n 0 out) (eq-eqb n 0 q)))

module _ (b : Looked) (cards list out : List ℕ) (w : Bool) (e : w ≡ reads_wrong list out) where
  -- refusal 17
  pub many-wrong : w ≡ true → gives 17 0 out ≡ gives_many b cards list out
  unfolding gives_many number_of
  many-wrong t = sym (if-true (reads_wrong list out) (gives 17 0 out) (gives_all b cards (decode_triples list) out) (sym e ∙ t))

  -- past it
  pub many-right : w ≡ false → (g : Gives) → g ≡ gives_all b cards (decode_triples list) out → g ≡ gives_many b cards list out
  unfolding gives_many
  many-right t g h = h ∙ sym (if-false (reads_wrong list out) (gives (number_of bad_reads) 0 out) (gives_all b cards (decode_triples list) out) (sym e ∙ t))
