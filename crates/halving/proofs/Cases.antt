-- Searches by halves, computed.
-- Assumes nothing.
use mathlib.Core.Path.{◌≡◌, refl}
use mathlib.Core.List.{[], ◌∷◌}
use lib.Dec.{ltb}
use Rattle.rules.specs.Lists.{pick◌then◌else◌}
use Rattle.halving.specs.Halving.{looked_in, looked, ends_at}

-- of ten records with six in front of the key: the sixth, and then those about it
pub ten-records : looked (λ i. ltb i 6) 10 ≡ (5 ∷ 8 ∷ 7 ∷ 6 ∷ [])
unfolding looked_in looked pick◌then◌else◌
ten-records = refl

-- it ends behind the sixth
pub ten-ends : ends_at (λ i. ltb i 6) 0 (5 ∷ 8 ∷ 7 ∷ 6 ∷ []) ≡ 6
unfolding ends_at pick◌then◌else◌
ten-ends = refl

-- a book out of order ends too, and in the book
pub out_of_order : ends_at (λ i. ltb 6 i) 0 (looked (λ i. ltb 6 i) 10) ≡ 0
unfolding looked_in looked ends_at pick◌then◌else◌
out_of_order = refl
