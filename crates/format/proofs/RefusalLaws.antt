-- The numbers of the code's refusals: those of the rules, and none of them is 0.
use Rattle.std.specs.Prelude.{◌≡◌, ◌+◌, ◌<◌}
use Rattle.std.proofs.Common.{refl, arith}
use Rattle.rules.specs.Refusal.{number_of}
use Rattle.format.specs.Refusals.{refusal_of}
use Rattle.format.specs.declared.refusal.Refusal.{Refusal}
use Rattle.format.specs.declared.refusal.Refusal.TheVariants.{WrongLength, BrokenRule, NoCard, CardExists, PastLimit, BelowSize, BadTime, NoCardPlace, NoChecksum, NotBacked, NonzeroPastEnd, ChecksumDiffers, NoSpace, CountDisagrees, NoGroupPlace, NoExtentPlace, BadReads, BadBatch, BadRange}
use Rattle.format.specs.contracts.refusal.Refusal.{the_type}
use denote.Enum.Declared.{tag_of}

-- the enum's own number, counted from 0, is one less
pub tag-number : (r : Refusal) → tag_of the_type r + 1 ≡ number_of (refusal_of r)
unfolding number_of refusal_of
tag-number WrongLength = refl
tag-number BrokenRule = refl
tag-number NoCard = refl
tag-number CardExists = refl
tag-number PastLimit = refl
tag-number BelowSize = refl
tag-number BadTime = refl
tag-number NoCardPlace = refl
tag-number NoChecksum = refl
tag-number NotBacked = refl
tag-number NonzeroPastEnd = refl
tag-number ChecksumDiffers = refl
tag-number NoSpace = refl
tag-number CountDisagrees = refl
tag-number NoGroupPlace = refl
tag-number NoExtentPlace = refl
tag-number BadReads = refl
tag-number BadBatch = refl
tag-number BadRange = refl

pub refusal-positive : (r : Refusal) → 0 < number_of (refusal_of r)
unfolding number_of refusal_of
refusal-positive WrongLength = omega arith
refusal-positive BrokenRule = omega arith
refusal-positive NoCard = omega arith
refusal-positive CardExists = omega arith
refusal-positive PastLimit = omega arith
refusal-positive BelowSize = omega arith
refusal-positive BadTime = omega arith
refusal-positive NoCardPlace = omega arith
refusal-positive NoChecksum = omega arith
refusal-positive NotBacked = omega arith
refusal-positive NonzeroPastEnd = omega arith
refusal-positive ChecksumDiffers = omega arith
refusal-positive NoSpace = omega arith
refusal-positive CountDisagrees = omega arith
refusal-positive NoGroupPlace = omega arith
refusal-positive NoExtentPlace = omega arith
refusal-positive BadReads = omega arith
refusal-positive BadBatch = omega arith
refusal-positive BadRange = omega arith
