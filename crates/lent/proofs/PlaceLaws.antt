-- What is the same in two steps is the same.
-- Assumes nothing.
use Rattle.std.proofs.Common.{◌∙◌}
use Rattle.lent.specs.declared.Store.{Store}
use Rattle.lent.specs.Lent.{SamePlaces}

pub same-places : {s t u : Store} → SamePlaces s t → SamePlaces t u → SamePlaces s u
same-places a b = record {
  image = a.image ∙ b.image;
  head = a.head ∙ b.head;
  cards = a.cards ∙ b.cards;
  extents = a.extents ∙ b.extents;
  groups = a.groups ∙ b.groups;
  used = a.used ∙ b.used;
  retired = a.retired ∙ b.retired;
}
