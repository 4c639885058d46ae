use Rattle.intake_books.proofs.BookRules.{cards-ascend, extents-ascend}
use Rattle.intake_books.proofs.books_broken.Goals as goal
use Rattle.intake_books.proofs.books_broken.Goals.{then-cards_right, else-cards_right, then-extents_right, else-extents_right}

pub files_right-requires-clause-cards_value : goal.files_right-requires-clause-cards_value
files_right-requires-clause-cards_value c =
    elim c.if-extents_right.branch [
      | then-extents_right w ↦ elim c.if-cards_right.branch [ then-cards_right v ↦ cards-ascend _ _ _ c.cards_right.ensures v.if-cards_right.true | else-cards_right v ↦ cc ]
      | else-extents_right w ↦ cc
    ]

pub files_right-requires-clause-extents_value : goal.files_right-requires-clause-extents_value
files_right-requires-clause-extents_value c =
    elim c.if-extents_right.branch [
      | then-extents_right w ↦ elim c.if-cards_right.branch [ then-cards_right v ↦ extents-ascend _ _ _ _ v.extents_right.ensures (cc) | else-cards_right v ↦ cc ]
      | else-extents_right w ↦ cc
    ]
