-- The seven lent buffers as one value: the store of rules that they are, and that each of them is still the same piece of memory.
-- Assumes nothing.
use Rattle.std.specs.Prelude.{◌≡◌}
use Rattle.rules.specs.Store as rules
use Rattle.rules.specs.Store.{lent}
use Rattle.lent.specs.declared.Store.{Store}
use Rattle.lent.specs.declared.View.{View}

-- the store that the buffers are
abbrev pub store_of : Store → rules.Store
store_of s = lent s.image.now s.head.now s.cards.now s.extents.now s.groups.now s.used.now s.retired.now

-- the store that is seen
abbrev pub seen : View → rules.Store
seen v = lent v.image.now v.head.now v.cards.now v.extents.now v.groups.now v.used.now v.retired.now

-- each buffer is where it was: only its bytes may be others
pub record SamePlaces (s t : Store) : Type 0 where
  pub image : s.image.ghost_name ≡ t.image.ghost_name
  pub head : s.head.ghost_name ≡ t.head.ghost_name
  pub cards : s.cards.ghost_name ≡ t.cards.ghost_name
  pub extents : s.extents.ghost_name ≡ t.extents.ghost_name
  pub groups : s.groups.ghost_name ≡ t.groups.ghost_name
  pub used : s.used.ghost_name ≡ t.used.ghost_name
  pub retired : s.retired.ghost_name ≡ t.retired.ghost_name
