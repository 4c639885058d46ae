-- What an exported call gives, as the rules' result of a call.
-- Assumes nothing.
use Rattle.std.specs.Prelude as code
use Rattle.std.specs.Prelude.{◌≡◌, List, [], ℕ}
use Rattle.rules.specs.Store.{Store}
use Rattle.rules.specs.Refusal.{Result}
use Rattle.format.specs.declared.refusal.Refusal.{Refusal}
use Rattle.format.specs.Refusals.{number_in, count_in}
use Rattle.volume.specs.declared.Answer.{Answer}

-- the number and the count that it answered, the store that it left, and the output buffer as it left it
abbrev pub handed : (number count : ℕ) (left : Store) (out : List ℕ) → Result
handed number count left out = record { number = number; count = count; store = left; out = out }

-- a call that hands out no bytes has no output buffer
abbrev pub gave : (number count : ℕ) (left : Store) → Result
gave number count left = handed number count left []

-- an answer as C has it says what a Result does
abbrev pub Says : code.Result ℕ Refusal → Answer → Type 0
Says r a = (a.number ≡ number_in r) × (a.count ≡ count_in r)
