-- The call fresh.
-- Assumes nothing.
use Rattle.std.specs.Prelude.{List, [], ◌∷◌, false, ℕ, ltb}
use Rattle.rules.specs.Store.{Store, Volume, encode_into, image_blocks}
use Rattle.rules.specs.Refusal.{Outcome, ◌when◌, first_case}
use Rattle.rules.specs.Refusal.Refusal.{wrong_length}
use Rattle.rules.specs.Refusal.Outcome.{accept}
use Rattle.rules.specs.Lengths.{fresh_length_wrong}

-- "Fresh, given uuid and reserved, zeros books and maps, sets the used bits of the first blocks, as many as reserved, and writes a head with
-- hint 0 and no records; the image stays."
unfoldable pub fresh_volume : List ℕ → ℕ → Store → Volume
fresh_volume uuid reserved s = record {
  uuid = uuid;
  blocks = image_blocks s;
  reserved = reserved;
  hint = 0;
  books = record { cards = []; extents = []; groups = [] };
  used = λ n. ltb n reserved;
  retired = λ n. false;
  image = s.image;
}

-- refusal 1 alone; "Fresh, enter and grow answer 0."
unfoldable pub fresh_outcome : List ℕ → ℕ → Store → Outcome
fresh_outcome uuid reserved s =
    first_case ((wrong_length when fresh_length_wrong uuid reserved s) ∷ []) (accept 0 (encode_into s (fresh_volume uuid reserved s)) [])
