-- Document 01, "Refusals in checking order": its sixteen numbers and document 02's, what a call gives, and the rule of the first match.
-- Assumes nothing.
use Rattle.std.specs.Prelude.{List, [], ◌∷◌, Bool, ℕ}
use Rattle.rules.specs.Lists.{pick◌then◌else◌}
use Rattle.rules.specs.Store.{Store}

-- the cases in which a call is refused, in document 01's order; behind them those that document 02 adds
pub data Refusal : Type 0 where
  wrong_length : Refusal
  broken_rule : Refusal
  no_card : Refusal
  card_exists : Refusal
  past_limit : Refusal
  below_size : Refusal
  bad_time : Refusal
  no_card_place : Refusal
  no_checksum : Refusal
  not_backed : Refusal
  nonzero_past_end : Refusal
  checksum_differs : Refusal
  no_space : Refusal
  count_disagrees : Refusal
  no_group_place : Refusal
  no_extent_place : Refusal
  bad_reads : Refusal
  bad_batch : Refusal
  bad_range : Refusal

-- the number of each
unfoldable pub number_of : Refusal → ℕ
number_of wrong_length = 1
number_of broken_rule = 2
number_of no_card = 3
number_of card_exists = 4
number_of past_limit = 5
number_of below_size = 6
number_of bad_time = 7
number_of no_card_place = 8
number_of no_checksum = 9
number_of not_backed = 10
number_of nonzero_past_end = 11
number_of checksum_differs = 12
number_of no_space = 13
number_of count_disagrees = 14
number_of no_group_place = 15
number_of no_extent_place = 16
number_of bad_reads = 17
number_of bad_batch = 18
number_of bad_range = 19

-- a refusal and the test that tells whether its case holds
pub record Case : Type 0 where
  pub refusal : Refusal
  pub holds : Bool

infixr 20 ◌when◌
-- the refusal, when the test passes
abbrev pub ◌when◌ : Refusal → Bool → Case
r when b = record { refusal = r; holds = b }

-- what becomes of a call: refused, or its answer, the store left behind and, where it was lent one, the output buffer
pub data Outcome : Type 0 where
  refuse : Refusal → Outcome
  accept : (answer : ℕ) (left : Store) (out : List ℕ) → Outcome

-- the tests in checking order: the first case that holds refuses the call, else it goes on
unfoldable pub first_case : List Case → Outcome → Outcome
first_case [] next = next
first_case (c ∷ cs) next = pick c.holds then refuse c.refusal else first_case cs next

-- what a call gives: its number, its count, and every lent buffer at exit
pub record Result : Type 0 where
  pub number : ℕ
  pub count : ℕ
  pub store : Store
  pub out : List ℕ

-- "An accepted call returns number 0, with its answer as the count." A refused one returns its number with count 0 and changes no lent byte.
unfoldable pub result : Store → List ℕ → Outcome → Result
result s out (refuse r) = record { number = number_of r; count = 0; store = s; out = out }
result s out (accept n left filled) = record { number = 0; count = n; store = left; out = filled }
