-- `sharing::look_at_extent` meets its contract.
-- Assumes nothing.
use Rattle.sharing.proofs.SharingLaws.{here_end, here-looked}
use borrow.Author.Rules.{rules}
use Rattle.sharing.proofs.look_at_extent.Goals as goal

pub overflow_add-e : goal.overflow_add-e
overflow_add-e c = let l = here_end _ _ _ c.decode_extent-x.ensures c.requires.i_bound in search rules

pub look_and_mark-requires : goal.look_and_mark-requires
look_and_mark-requires c = let l = here_end _ _ _ c.decode_extent-x.ensures c.requires.i_bound in search rules

pub returns : goal.returns
returns c = search (here-looked, rules)
