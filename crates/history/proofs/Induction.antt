-- An induction over a list of acts on a store, whatever the acts are: what every act keeps holds after all of them.
--
-- That the store's buffers are of bytes is carried apart from the invariant: every act keeps it on every store, also on one of which nothing else is known.
-- A claim that only some acts keep is an invariant too: the state then holds whether the claim stands, and the invariant asks for the claim where it does.
-- Assumes nothing.
use mathlib.Core.List.{List, [], ◌∷◌}
use Rattle.rules.specs.Store.{Store, StoreBytes}
use Rattle.rules.proofs.ListLaws.{Each, each_none, each_more}

module _ {Act State : Type 0} (after : Act → Store → Store) (next : Act → Store → State → State) where
  -- the store after the acts
  unfoldable pub after_all : List Act → Store → Store
  after_all [] s = s
  after_all (a ∷ acts) s = after_all acts (after a s)

  -- what is told of them
  unfoldable pub state_after : List Act → Store → State → State
  state_after [] s st = st
  state_after (a ∷ acts) s st = state_after acts (after a s) (next a s st)

  module _ (InRange : Act → Type 0) (Inv : State → Store → Type 0)
      (bytes-kept : (a : Act) (s : Store) → InRange a → StoreBytes s → StoreBytes (after a s))
      (inv-kept : (a : Act) (st : State) (s : Store) → InRange a → StoreBytes s → Inv st s → Inv (next a s st) (after a s)) where
    -- the buffers are of bytes after the acts
    pub bytes_after : {acts : List Act} → Each InRange acts → (s : Store) → StoreBytes s → StoreBytes (after_all acts s)
    unfolding after_all
    bytes_after each_none s b = b
    bytes_after (each_more {x = a} i k) s b = bytes_after k (after a s) (bytes-kept a s i b)

    -- and the invariant holds of what is told and of the store
    pub history : {acts : List Act} → Each InRange acts → (st : State) (s : Store) → StoreBytes s → Inv st s → Inv (state_after acts s st) (after_all acts s)
    unfolding after_all state_after
    history each_none st s b h = h
    history (each_more {x = a} i k) st s b h = history k (next a s st) (after a s) (bytes-kept a s i b) (inv-kept a st s i b h)
