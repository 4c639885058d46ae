-- The refusals as code carries them: for each the case of rules that it stands for, and what an answer that may be one says as numbers.
-- Assumes nothing.
use Rattle.std.specs.Prelude.{ℕ, Result, Ok, Err}
use Rattle.rules.specs.Refusal as rules
use Rattle.rules.specs.Refusal.{number_of}
use Rattle.format.specs.declared.refusal.Refusal as code
use Rattle.format.specs.declared.refusal.Refusal.TheVariants.{WrongLength, BrokenRule, NoCard, CardExists, PastLimit, BelowSize, BadTime, NoCardPlace, NoChecksum, NotBacked, NonzeroPastEnd, ChecksumDiffers, NoSpace, CountDisagrees, NoGroupPlace, NoExtentPlace, BadReads, BadBatch, BadRange}

-- the case that the code's refusal stands for
unfoldable pub refusal_of : code.Refusal → rules.Refusal
refusal_of WrongLength = rules.Refusal.wrong_length
refusal_of BrokenRule = rules.Refusal.broken_rule
refusal_of NoCard = rules.Refusal.no_card
refusal_of CardExists = rules.Refusal.card_exists
refusal_of PastLimit = rules.Refusal.past_limit
refusal_of BelowSize = rules.Refusal.below_size
refusal_of BadTime = rules.Refusal.bad_time
refusal_of NoCardPlace = rules.Refusal.no_card_place
refusal_of NoChecksum = rules.Refusal.no_checksum
refusal_of NotBacked = rules.Refusal.not_backed
refusal_of NonzeroPastEnd = rules.Refusal.nonzero_past_end
refusal_of ChecksumDiffers = rules.Refusal.checksum_differs
refusal_of NoSpace = rules.Refusal.no_space
refusal_of CountDisagrees = rules.Refusal.count_disagrees
refusal_of NoGroupPlace = rules.Refusal.no_group_place
refusal_of NoExtentPlace = rules.Refusal.no_extent_place
refusal_of BadReads = rules.Refusal.bad_reads
refusal_of BadBatch = rules.Refusal.bad_batch
refusal_of BadRange = rules.Refusal.bad_range

-- the number of the refusal in an answer, 0 where there is none
unfoldable pub number_in : {A : Type 0} → Result A code.Refusal → ℕ
number_in (Ok x) = 0
number_in (Err r) = number_of (refusal_of r)

-- the count in an answer, 0 where it is refused
unfoldable pub count_in : Result ℕ code.Refusal → ℕ
count_in (Ok n) = n
count_in (Err r) = 0
