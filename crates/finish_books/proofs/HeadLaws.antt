-- Laws of the head after a change.
-- Assumes nothing.
use mathlib.Core.Path.{◌≡◌, ap, ◌∙◌}
use mathlib.Core.List.{List}
use Prim.Native.Nat.{ℕ}
use Rattle.rules.specs.Head.{Head, decode_head, encode_head}
use Rattle.format.specs.declared.head.Head as struct
use Rattle.format.specs.Records.{head_of}
use Rattle.finish_books.specs.Buffers.{finished_head}

module _ (h : struct.Head) (hint extents groups : ℕ) where
  -- the struct that the code writes
  abbrev written : struct.Head
  written = record { uuid = h.uuid; blocks = h.blocks; reserved = h.reserved; hint = hint; cards = h.cards; extents = extents; groups = groups }

  -- its bytes are those of the head with another hint and other numbers
  pub head-written : (s t : List ℕ) → head_of h ≡ decode_head s → t ≡ encode_head (head_of written) → t ≡ encode_head (finished_head hint extents groups (decode_head s))
  unfolding head_of finished_head
  head-written s t e q = q ∙ ap (λ (g : Head). encode_head (finished_head hint extents groups g)) e
