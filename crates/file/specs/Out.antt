-- The store that is left where a planned change is carried out.
-- Assumes nothing.
use Rattle.std.specs.Prelude.{◌≡◌, List, ℕ, ◌+◌, length, take}
use Rattle.rules.specs.Time.{Time}
use Rattle.rules.specs.Head.{decode_head}
use Rattle.rules.specs.Store.{Store, decode, encode_into}
use Rattle.rules.specs.Units.{Change}
use Rattle.rules.specs.Rewrite.{Rewritten, Progress}
use Rattle.rules.specs.Kept.{superseded}
use Rattle.rules.specs.Finish.{finished, finished_groups, new_blocks, superseded_blocks}
use Rattle.rules.proofs.PassLaws.{Passes}
use Rattle.mapping.specs.Entries.{entries, extents_in}
use Rattle.rewrite.specs.Plan.{laid_units}
use Rattle.finish_units.specs.Carry.{CarriesFor}
use Rattle.finish_books.specs.Buffers.{new_of}
use Rattle.finish_books.specs.Groups.{groups_in}
use Rattle.finish_extents.specs.Stretch.{Describes, Finished}

-- the arguments are of this store, this change at this time and this progress of its plan: the numbers of records, the file, its new size and count, the
-- time and the hint. The arrays, of which kept and blocks are the first parts, tell the rewritten units, and the exchange and the number of groups
-- that are left were found for them.
pub record PlanTold (c : Change) (time : Time) (rs : List Rewritten) (p : Progress) (s : Store) (n m g object size allocated seconds nanoseconds hint groups place cut count : ℕ)
    (us old kept blocks made : List ℕ) : Type 0 where
  pub passes : Passes s
  pub cards_is : n ≡ (decode_head s.head).cards
  pub extents_is : m ≡ (decode_head s.head).extents
  pub groups_is : g ≡ (decode_head s.head).groups
  pub object_is : object ≡ c.object
  pub size_is : size ≡ c.new_size
  pub allocated_is : allocated ≡ p.allocated
  pub seconds_is : seconds ≡ time.seconds
  pub nanoseconds_is : nanoseconds ≡ time.nanoseconds
  pub hint_is : hint ≡ p.hint
  pub described : Describes us blocks rs
  pub new : new_blocks rs ≡ new_of kept blocks
  pub gone : superseded_blocks rs ≡ superseded (entries old) (entries kept)
  pub exchange : Finished object us blocks (extents_in m s.extents) place (place + cut) count made
  pub groups_after : groups ≡ length (finished_groups object rs (groups_in g s.groups))

-- a store s has become t: for each change that the arguments tell of, t is the finished store. The arrays kept and blocks have sixteen entries for each
-- unit; the first flat of them are the units' blocks side by side.
pub record StoreLeft (s t : Store) (n m g object before after start allocated seconds nanoseconds hint groups place cut count flat : ℕ)
    (uuid written us slots old kept blocks made : List ℕ) : Type 0 where
  pub store : (limit : ℕ) (c : Change) (time : Time) (p : Progress) → CarriesFor limit (decode s) c s.image uuid object before after start written us slots old kept blocks
      → PlanTold c time (laid_units limit (decode s) c us blocks) p s n m g object after allocated seconds nanoseconds hint groups place cut count us old (take flat kept) (take flat blocks) made
      → encode_into s (finished c time (laid_units limit (decode s) c us blocks) p (decode s)) ≡ t
