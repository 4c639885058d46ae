-- Document 02, W-201 and W-204: a lent list of triples (object, offset, length).
-- Assumes nothing.
use Rattle.std.specs.Prelude.{List, [], ◌∷◌, Bool, not, ◌||◌, ℕ, ◌+◌, ◌/◌, ◌%◌, eqb, ltb, length}
use Rattle.rules.specs.Bytes.{le, part}
use Rattle.rules.specs.Book.{decode_book}

-- "triples (object, offset, length)"
pub record Triple : Type 0 where
  pub object : ℕ
  pub offset : ℕ
  pub len : ℕ

-- "64-bit numbers (here and later 8 bytes each, little-endian)": a triple's bytes
abbrev pub triple_bytes : ℕ
triple_bytes = 24

-- "at most 64 of them"
abbrev pub most_triples : ℕ
most_triples = 64

-- the triple in its bytes
unfoldable pub decode_triple : List ℕ → Triple
decode_triple bytes = record { object = le (part 0 8 bytes); offset = le (part 8 8 bytes); len = le (part 16 8 bytes) }

-- the whole triples of a list, in list order
unfoldable pub decode_triples : List ℕ → List Triple
decode_triples list = decode_book decode_triple triple_bytes (length list / triple_bytes) list

-- "the list is not whole triples, has more than 64"
unfoldable pub list_wrong : List ℕ → Bool
list_wrong list = not (eqb (length list % triple_bytes) 0) || ltb most_triples (length list / triple_bytes)

-- the lengths together, a number without a bound
unfoldable pub lengths_of : List Triple → ℕ
lengths_of [] = 0
lengths_of (t ∷ ts) = t.len + lengths_of ts
