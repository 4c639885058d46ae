-- The struct of a triple as the rules' triple, and the triples of a list by their places.
-- Assumes nothing.
use Rattle.std.specs.Prelude.{List, ℕ, drop}
use Rattle.rules.specs.Triples.{Triple, triple_bytes, decode_triple, decode_triples}
use Rattle.book.specs.Places.{record_at}
use Rattle.triples.specs.declared.Triple as struct

-- the triple that the struct says
unfoldable pub triple_of : struct.Triple → Triple
triple_of t = record { object = t.object; offset = t.offset; len = t.len }

-- the triple at a place of the list
unfoldable pub triple_at : List ℕ → ℕ → Triple
triple_at list i = record_at decode_triple triple_bytes list i

-- the triples from a place on
unfoldable pub triples_from : List ℕ → ℕ → List Triple
triples_from list i = drop i (decode_triples list)
