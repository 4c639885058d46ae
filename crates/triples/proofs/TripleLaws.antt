-- Laws of a list of triples: a triple read, its length tested, and the lengths taken off a room one after another.
-- Assumes nothing.
use mathlib.Core.Path.{◌≡◌, refl, sym, ap, ◌∙◌}
use mathlib.Core.Bool.{Bool, true, false, not, ◌||◌}
use mathlib.Core.List.{List, [], ◌∷◌}
use Prim.Native.Nat.{ℕ, suc, ◌+◌, ◌-◌, ◌*◌, ◌/◌, ◌≤◌, ◌<◌}
use native.Mathlib.Omega.{arith}
use lib.Dec.{eqb, ltb}
use lib.ListN.{length, drop, drop_of_length-le}
use lib.Seq.{drop-cons}
use borrow.Author.Tests.{eqb-true, eqb-false, eq-eqb, ne_eqb, lt-ltb, le-ltb}
use Rattle.std.specs.Prelude.{Option, None, Some, MatchOption, is_some}
use Rattle.std.specs.Option.{option_eq}
use Rattle.rules.specs.Lists.{any}
use Rattle.rules.specs.Sizes.{most_transfer}
use Rattle.rules.specs.Bytes.{le, part}
use Rattle.rules.specs.Triples.{Triple, triple_bytes, decode_triple, decode_triples, lengths_of}
use Rattle.rules.specs.Batch.{length_over}
use Rattle.rules.proofs.ByteLaws.{part-part}
use Rattle.rules.proofs.BookLaws.{length-decode_book}
use Rattle.rules.proofs.ListLaws.{test-cases}
use Rattle.book.specs.Places.{record_at}
use Rattle.book.proofs.SearchLaws.{record-at}
use Rattle.triples.specs.declared.Triple as struct
use Rattle.triples.specs.Triple.{triple_of, triple_at, triples_from}

-- a triple's fields, read
pub triple-read : (s : List ℕ) (i at : ℕ) (t : struct.Triple) → at ≡ triple_bytes * i → t.object ≡ le (part at 8 s) → t.offset ≡ le (part (at + 8) 8 s) → t.len ≡ le (part (at + 16) 8 s)
    → triple_of t ≡ triple_at s i
unfolding triple_of triple_at record_at decode_triple
triple-read s i at t e o f l =
    let q : ℕ = triple_bytes * i in
    let z : part 0 8 (part q 24 s) ≡ part at 8 s = part-part s q 24 0 8 (omega arith) ∙ ap (λ (k : ℕ). part k 8 s) (omega (arith, e)) in
    let y : part 8 8 (part q 24 s) ≡ part (at + 8) 8 s = part-part s q 24 8 8 (omega arith) ∙ ap (λ (k : ℕ). part k 8 s) (omega (arith, e)) in
    let x : part 16 8 (part q 24 s) ≡ part (at + 16) 8 s = part-part s q 24 16 8 (omega arith) ∙ ap (λ (k : ℕ). part k 8 s) (omega (arith, e)) in
    let o' : t.object ≡ le (part 0 8 (part q 24 s)) = o ∙ ap le (sym z) in
    let f' : t.offset ≡ le (part 8 8 (part q 24 s)) = f ∙ ap le (sym y) in
    let l' : t.len ≡ le (part 16 8 (part q 24 s)) = l ∙ ap le (sym x) in
    λ k. record { object = o' k; offset = f' k; len = l' k }

module _ (list : List ℕ) where
  -- the triples are as many as are whole
  pub length-triples : length (decode_triples list) ≡ length list / triple_bytes
  unfolding decode_triples
  length-triples = length-decode_book decode_triple triple_bytes (length list / triple_bytes) list

  -- all of them
  pub from_start : triples_from list 0 ≡ decode_triples list
  unfolding triples_from
  from_start = refl

  -- the one at a place, and those behind it
  pub from-here : (i : ℕ) → i < length list / triple_bytes → triples_from list i ≡ triple_at list i ∷ triples_from list (i + 1)
  unfolding triples_from triple_at decode_triples
  from-here i l =
      let e : suc i ≡ i + 1 = omega arith in
      drop-cons (decode_triples list) i (decode_triple []) (rw length-triples l)
      ∙ ap (λ (t : Triple). t ∷ drop (suc i) (decode_triples list)) (record-at decode_triple triple_bytes list (length list / triple_bytes) i (decode_triple []) l)
      ∙ ap (λ (k : ℕ). record_at decode_triple triple_bytes list i ∷ drop k (decode_triples list)) e

  -- none behind the last
  pub from_end : (i : ℕ) → length list / triple_bytes ≤ i → triples_from list i ≡ []
  unfolding triples_from
  from_end i l = drop_of_length-le (decode_triples list) {i = i} (rw length-triples l)

  -- the lengths from a place on
  pub lengths-here : (i : ℕ) → i < length list / triple_bytes → lengths_of (triples_from list i) ≡ (triple_at list i).len + lengths_of (triples_from list (i + 1))
  unfolding lengths_of
  lengths-here i l = ap lengths_of (from-here i l)

  module _ (i n : ℕ) (e : n ≡ length list / triple_bytes) (t : struct.Triple) (l : i < n) (d : triple_of t ≡ triple_at list i) where
    -- a triple that was read at the place, and those behind it
    pub read_here : triples_from list i ≡ triple_of t ∷ triples_from list (i + 1)
    read_here = from-here i (omega (arith, l, e)) ∙ ap (λ (u : Triple). u ∷ triples_from list (i + 1)) (sym d)

    -- their lengths
    pub read-lengths : lengths_of (triples_from list i) ≡ t.len + lengths_of (triples_from list (i + 1))
    unfolding lengths_of triple_of
    read-lengths = ap lengths_of read_here

  -- ---- a length

  -- no length before a place exceeds what one write takes: so one does exactly where one from there on does
  abbrev pub NoneOver : ℕ → Type 0
  NoneOver i = length_over (decode_triples list) ≡ length_over (triples_from list i)

  -- before the first there is none
  pub over-start : NoneOver 0
  over-start = ap length_over (sym from_start)

  module _ (i n : ℕ) (e : n ≡ length list / triple_bytes) (h : NoneOver i) where
    -- the length at the place, and those behind it
    over-here : (t : struct.Triple) → i < n → triple_of t ≡ triple_at list i → length_over (decode_triples list) ≡ (ltb most_transfer t.len || length_over (triples_from list (i + 1)))
    unfolding triple_of length_over any
    over-here t l q = h ∙ ap length_over (read_here i n e t l q)

    -- it exceeds
    pub over-found : (t : struct.Triple) → i < n → triple_of t ≡ triple_at list i → most_transfer < t.len → true ≡ length_over (decode_triples list)
    over-found t l q x = sym (over-here t l q ∙ ap (λ (b : Bool). b || length_over (triples_from list (i + 1))) (lt-ltb most_transfer t.len x))

    -- it does not
    pub over-more : (t : struct.Triple) → i < n → triple_of t ≡ triple_at list i → t.len ≤ most_transfer → NoneOver (i + 1)
    over-more t l q x = over-here t l q ∙ ap (λ (b : Bool). b || length_over (triples_from list (i + 1))) (le-ltb most_transfer t.len x)

    -- no length is behind
    pub over-end : n ≤ i → false ≡ length_over (decode_triples list)
    unfolding length_over any
    over-end l = sym (h ∙ ap length_over (from_end i (omega (arith, l, e))))

  -- ---- the lengths together

  -- the lengths before a place were taken off a room
  abbrev pub LeftOf : (room left i : ℕ) → Type 0
  LeftOf room left i = left + lengths_of (decode_triples list) ≡ room + lengths_of (triples_from list i)

  module _ (room : ℕ) where
    -- at the start
    pub left-start : LeftOf room room 0
    left-start = ap (λ (ts : List Triple). room + lengths_of ts) (sym from_start)

    module _ (left i n : ℕ) (e : n ≡ length list / triple_bytes) (h : LeftOf room left i) where
      -- the length at the place exceeds what is left
      pub past_room : (t : struct.Triple) → i < n → triple_of t ≡ triple_at list i → left < t.len → room < lengths_of (decode_triples list)
      past_room t l q x = omega (arith, h, read-lengths i n e t l q, x)

      -- it does not exceed it
      pub left-more : (t : struct.Triple) → i < n → triple_of t ≡ triple_at list i → t.len ≤ left → LeftOf room (left - t.len) (i + 1)
      left-more t l q x = omega (arith, h, read-lengths i n e t l q, x)

      -- no length is behind
      pub none-behind : n ≤ i → left + lengths_of (decode_triples list) ≡ room
      unfolding lengths_of
      none-behind l =
          let z : lengths_of (triples_from list i) ≡ 0 = ap lengths_of (from_end i (omega (arith, l, e))) in
          omega (arith, h, z)

      -- where it exceeds what is left, the lengths do not add up to the room
      pub left-differs : (t : struct.Triple) → i < n → triple_of t ≡ triple_at list i → left < t.len → true ≡ not (eqb (lengths_of (decode_triples list)) room)
      left-differs t l q x = sym (ap not (ne_eqb (lengths_of (decode_triples list)) room (λ z. omega (arith, z, past_room t l q x))))

      -- at the end they do where nothing is left
      pub left-none : n ≤ i → not (eqb left 0) ≡ not (eqb (lengths_of (decode_triples list)) room)
      left-none l =
          test-cases _ (eqb left 0)
          (λ p. ap not (p ∙ sym (eq-eqb (lengths_of (decode_triples list)) room (omega (arith, eqb-true left 0 p, none-behind l)))))
          (λ p. ap not (p ∙ sym (ne_eqb (lengths_of (decode_triples list)) room (λ z. eqb-false left 0 p (omega (arith, z, none-behind l))))))

    module _ (r : Option ℕ) (h : MatchOption r (room < lengths_of (decode_triples list)) (λ left. left + lengths_of (decode_triples list) ≡ room)) (b : Bool) where
      -- the lengths exceed the room where nothing is left
      pub exceeds : is_some r ≡ not b → b ≡ ltb room (lengths_of (decode_triples list))
      exceeds e = decide r h b e
        where
          decide : (r : Option ℕ) → MatchOption r (room < lengths_of (decode_triples list)) (λ left. left + lengths_of (decode_triples list) ≡ room) → (b : Bool) → is_some r ≡ not b
              → b ≡ ltb room (lengths_of (decode_triples list))
          decide None l true e = sym (lt-ltb room (lengths_of (decode_triples list)) l)
          decide None l false e = cc
          decide (Some x) l true e = cc
          decide (Some x) l false e = sym (le-ltb room (lengths_of (decode_triples list)) (omega (arith, l)))

      -- and add up to it where 0 is
      pub differs : b ≡ not (option_eq eqb r (Some 0)) → b ≡ not (eqb (lengths_of (decode_triples list)) room)
      differs e = e ∙ decide r h
        where
          decide : (r : Option ℕ) → MatchOption r (room < lengths_of (decode_triples list)) (λ left. left + lengths_of (decode_triples list) ≡ room)
              → not (option_eq eqb r (Some 0)) ≡ not (eqb (lengths_of (decode_triples list)) room)
          decide None l = sym (ap not (ne_eqb (lengths_of (decode_triples list)) room (λ z. omega (arith, z, l))))
          decide (Some x) l =
              test-cases _ (eqb x 0)
              (λ p. ap not (p ∙ sym (eq-eqb (lengths_of (decode_triples list)) room (omega (arith, eqb-true x 0 p, l)))))
              (λ p. ap not (p ∙ sym (ne_eqb (lengths_of (decode_triples list)) room (λ z. eqb-false x 0 p (omega (arith, z, l))))))
