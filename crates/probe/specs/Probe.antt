-- What a probe gives, also where its arguments are not ones that the function behind it takes.
-- Assumes nothing.
use Rattle.std.specs.Prelude.{List, [], ◌++◌, Bool, not, ℕ, zero, suc, ◌*◌, eqb, leb, length}
use Rattle.rules.specs.Lists.{pick◌then◌else◌, all, count, range}
use Rattle.rules.specs.Bytes.{bit_set}

-- bytes so many times one behind the other
unfoldable pub repeated : ℕ → List ℕ → List ℕ
repeated zero bytes = []
repeated (suc n) bytes = repeated n bytes ++ bytes

-- one buffer over another of the same length, else the other as it is
unfoldable pub copied : List ℕ → List ℕ → List ℕ
copied to from = pick eqb (length to) (length from) then from else to

-- the bits of a map of at most 8,192 bytes, the largest store's; none of a longer one
unfoldable pub map_bits : List ℕ → ℕ
map_bits map = pick leb (length map) 8192 then 8 * length map else 0

-- how many of them are set
unfoldable pub count_set : List ℕ → ℕ
count_set map = count (bit_set map) (range 0 (map_bits map))

-- they are all clear
unfoldable pub all_clear : List ℕ → Bool
all_clear map = all (λ k. not (bit_set map k)) (range 0 (map_bits map))
