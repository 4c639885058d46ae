-- Whether the books that a change leaves fit into their buffers: refusals 15 and 16, and what is known where both fit.
-- Assumes nothing.
use Rattle.std.specs.Prelude.{◌≡◌, List, ℕ, ◌+◌, ◌-◌, ◌≤◌, ltb, length, Result, Ok, Err}
use Rattle.rules.specs.Lists.{pick◌then◌else◌}
use Rattle.rules.specs.Extent.{extent_bytes}
use Rattle.rules.specs.Group.{group_bytes}
use Rattle.rules.specs.Book.{book_places}
use Rattle.rules.specs.Refusal.{number_of}
use Rattle.rules.specs.Rewrite.{Rewritten}
use Rattle.rules.specs.Finish.{finished_extents, finished_groups}
use Rattle.format.specs.Refusals.{refusal_of}
use Rattle.format.specs.declared.refusal.Refusal.{Refusal}
use Rattle.mapping.specs.Entries.{extents_in}
use Rattle.finish_books.specs.Groups.{groups_in}
use Rattle.finish_extents.specs.Stretch.{Describes, Finished}
use Rattle.finish_extents.specs.declared.Exchange.{Exchange}
use Rattle.finish_fit.specs.declared.Fit.{Fit}

-- the number of the refusal of a book of extents of so many places, of which so many are wanted, or 0
unfoldable pub extents_number : (places wanted : ℕ) → ℕ
extents_number places wanted = pick ltb places wanted then 16 else 0

-- that of a book of groups, or else the next one
unfoldable pub groups_number : (places wanted next : ℕ) → ℕ
groups_number places wanted next = pick ltb places wanted then 15 else next

-- an exchange in a book of m extents leaves the finished ones, and it is told how many they are
pub record Exchanges (object : ℕ) (us bs : List ℕ) (m : ℕ) (book : List ℕ) (place cut count : ℕ) (made : List ℕ) : Type 0 where
  pub inside : place + cut ≤ m
  pub few : count ≤ 290
  pub exchange : Finished object us bs (extents_in m book) place (place + cut) count made
  pub told : (rs : List Rewritten) → Describes us bs rs → m - cut + count ≡ length (finished_extents object rs (extents_in m book))

-- the number says whether the finished extents fit
pub record ExtentsDecided (object : ℕ) (us bs : List ℕ) (m : ℕ) (book : List ℕ) (number place cut count : ℕ) (made : List ℕ) : Type 0 where
  pub decided : (rs : List Rewritten) → Describes us bs rs → number ≡ extents_number (book_places extent_bytes book) (length (finished_extents object rs (extents_in m book)))
  pub exchanges : number ≡ 0 → Exchanges object us bs m book place cut count made

-- the answer of the code to it: a refusal, whose number it is, or the exchange, and the number is 0
abbrev pub ExtentsAnswer : (object : ℕ) (us bs : List ℕ) (m : ℕ) (book : List ℕ) → Result Exchange Refusal → (made : List ℕ) → Type 0
ExtentsAnswer object us bs m book (Ok x) made = ExtentsDecided object us bs m book 0 x.place x.cut x.count made
ExtentsAnswer object us bs m book (Err r) made = ExtentsDecided object us bs m book (number_of (refusal_of r)) 0 0 0 made

-- the number says whether the finished groups fit into a book of g, and the finished extents into one of m; with 0 left is how many groups there are then
pub record Fits (object : ℕ) (us bs : List ℕ) (g : ℕ) (groups : List ℕ) (m : ℕ) (extents : List ℕ) (number left place cut count : ℕ) (made : List ℕ) : Type 0 where
  pub decided : (rs : List Rewritten) → Describes us bs rs
      → number ≡ groups_number (book_places group_bytes groups) (length (finished_groups object rs (groups_in g groups)))
      (extents_number (book_places extent_bytes extents) (length (finished_extents object rs (extents_in m extents))))
  pub told : number ≡ 0 → (rs : List Rewritten) → Describes us bs rs → left ≡ length (finished_groups object rs (groups_in g groups))
  pub exchanges : number ≡ 0 → Exchanges object us bs m extents place cut count made

-- the answer of the code to it: a refusal, whose number it is, or with 0 how many groups there are then and the exchange
abbrev pub FitAnswer : (object : ℕ) (us bs : List ℕ) (g : ℕ) (groups : List ℕ) (m : ℕ) (extents : List ℕ) → Result Fit Refusal → (made : List ℕ) → Type 0
FitAnswer object us bs g groups m extents (Ok f) made = Fits object us bs g groups m extents 0 f.groups f.exchange.place f.exchange.cut f.exchange.count made
FitAnswer object us bs g groups m extents (Err r) made = Fits object us bs g groups m extents (number_of (refusal_of r)) 0 0 0 0 made
