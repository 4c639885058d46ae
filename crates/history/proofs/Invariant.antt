-- What every call keeps, from which demand 3's claim follows: the plain arrays and the files say the same. Shown here for fresh, enter, settle, fill
-- and reads; of write and grow it is left as a premise that they keep it and are not refused with "2, 9 to 12 and 14".
-- Assumes nothing.
use mathlib.Core.Path.{◌≡◌, refl, sym, ap, subst, ◌∙◌}
use mathlib.Core.List.Memᴰ
use mathlib.Core.List.{List, [], ◌∷◌, flat_map, Memᴰ}
use mathlib.Core.Bool.{false}
use mathlib.Core.Option.{none, some, some-injective, none-ne-some}
use Prim.Native.Nat.{ℕ, ◌*◌, ◌≤◌, ◌<◌}
use native.Mathlib.Decide.{ℕ_discrete}
use native.Mathlib.Omega.{arith}
use lib.Dec.{eqb}
use lib.ListN.{length}
use borrow.Author.Tests.{eq-eqb, ne_eqb}
use Rattle.rules.specs.Write.{write_outcome}
use Rattle.rules.specs.Refusal.{result}
use Rattle.rules.specs.Book.{Books}
use Rattle.rules.specs.Time.{Time}
use Rattle.rules.specs.Lists.{maybe, given, any, find, filter, count, member}
use Rattle.rules.specs.Sizes.{unit_bytes, most_runs, archive_runs}
use Rattle.rules.specs.Card.{Card}
use Rattle.rules.specs.Store.{Store, StoreBytes, Volume, decode, card_of, created_of}
use Rattle.rules.specs.Inspect.{checksum_of}
use Rattle.rules.specs.Fresh.{fresh_volume}
use Rattle.rules.specs.Enter.{new_card, entered}
use Rattle.rules.specs.Settle.{settled}
use Rattle.rules.specs.Call.{Look, Call, InRange, call}
use Rattle.rules.specs.Call.Look.{read, read_many, data_stretches, fill}
use Rattle.rules.specs.Call.Call.{fresh, enter, write, write_archive, grow, settle, look}
use Rattle.rules.specs.Act.{Act, ActInRange, act, act_refused, parts_done}
use Rattle.rules.specs.Act.Act.{whole, batch}
use Rattle.rules.specs.Plain.{File, write_step, accepted, act_step, file_bytes, file_created}
use Rattle.rules.specs.Demand.{given_reserved, act_reserved, places_of, places, holders, file_places, never_numbers, Sound, Demand3}
use Rattle.rules.proofs.ListLaws.{given-some, maybe-some, find-yes, find-no, find_none}
use Rattle.rules.proofs.PassLaws.{Passes, Lawful, Says, lawful-decode, room-decode}
use Rattle.rules.proofs.FreshLaws.{fresh-says}
use Rattle.rules.proofs.EnterLaws.{NoCard, card-entered, card-other, enter-accepted, enter-says}
use Rattle.rules.proofs.SettleLaws.{settle-says, look-stays}
use Rattle.rules.proofs.BatchLaws.{accepted-number}
use Rattle.history.proofs.HistoryLaws.{Never, demand3-from, never-fresh, never-enter, settle-number, fill-number, fresh-holders}
use Rattle.history.proofs.HolderLaws.{place-once, SameFiles, inspect-same, files-entered, holders-settled, holders-entered, counts-entered}
use Rattle.history.proofs.ReadLaws.{ObjectIs, AllKnown, read_plain, read-never}
use Rattle.history.proofs.ReadManyLaws.{many-plain, many-never}
use Rattle.history.proofs.HoleLaws.{stretches-plain, stretches-never}
use Rattle.history.proofs.StaysLaws.{call_stays}
use Rattle.history.proofs.BatchHistory.{batch-keeps, batch-never}

-- a unit at or past the end of its file, or of no file
abbrev pub Past : Volume → ℕ → ℕ → Type 0
Past v object unit = (c : Card) → card_of v object ≡ some c → c.size ≤ unit * unit_bytes

-- what the plain arrays say of the files is what the volume does. It is said of the volume's uuid, books and image alone: see `files-same`
pub record FilesAgree (files : List File) (v : Volume) : Type 0 where
  -- the objects are the same
  pub objects : (object : ℕ) → given (file_bytes files object) ≡ given (card_of v object)
  -- and their bytes
  pub bytes : (object : ℕ) (xs : List ℕ) → file_bytes files object ≡ some xs → ObjectIs v object xs
  -- no unit past the end of a file has a slot
  pub slots : (object unit : ℕ) → Past v object unit → checksum_of v object unit ≡ none
  -- each card counts the places of its file
  pub counts : (c : Card) → Memᴰ c v.books.cards → c.allocated ≡ file_places v c.object
  -- and says when its file was made
  pub created : (object : ℕ) → created_of v object ≡ file_created files object

-- the head's reserved is the number given to the last accepted fresh, and every block is in one place
pub record BlocksAgree (reserved : ℕ) (v : Volume) : Type 0 where
  pub given : v.reserved ≡ reserved
  pub one_place : (b : ℕ) → b < v.blocks → holders reserved v b ≡ 1

-- ---- one object

-- what is asked of a plain array
module _ {A : Type 0} (ask : File → A) (f : File) (files : List File) where
  -- where it is the first
  told-new : maybe none (λ a. some (ask a)) (find (λ a. eqb a.object f.object) (f ∷ files)) ≡ some (ask f)
  told-new = maybe-some none (λ a. some (ask a)) (find (λ a. eqb a.object f.object) (f ∷ files)) f (find-yes (λ a. eqb a.object f.object) f files (eq-eqb f.object f.object refl))

  -- and of another object
  told-other : (object : ℕ) → (f.object ≡ object → ⊥)
      → maybe none (λ a. some (ask a)) (find (λ a. eqb a.object object) (f ∷ files)) ≡ maybe none (λ a. some (ask a)) (find (λ a. eqb a.object object) files)
  told-other object d = ap (maybe none (λ a. some (ask a))) (find-no (λ a. eqb a.object object) f files (ne_eqb f.object object d))

-- its bytes
file-new : (f : File) (files : List File) → file_bytes (f ∷ files) f.object ≡ some f.bytes
unfolding file_bytes
file-new = told-new (λ a. a.bytes)

file-other : (f : File) (files : List File) (object : ℕ) → (f.object ≡ object → ⊥) → file_bytes (f ∷ files) object ≡ file_bytes files object
unfolding file_bytes
file-other = told-other (λ a. a.bytes)

-- when it was made
created-new : (f : File) (files : List File) → file_created (f ∷ files) f.object ≡ some f.created
unfolding file_created
created-new = told-new (λ a. a.created)

created-other : (f : File) (files : List File) (object : ℕ) → (f.object ≡ object → ⊥) → file_created (f ∷ files) object ≡ file_created files object
unfolding file_created
created-other = told-other (λ a. a.created)

-- where the card stays
created-same : (w v : Volume) (object : ℕ) → card_of w object ≡ card_of v object → created_of w object ≡ created_of v object
unfolding created_of
created-same w v object e = ap (maybe none (λ c. some c.created)) e

-- an object whose card and whose units stay says the same
object-same : (w v : Volume) → SameFiles w v → (object : ℕ) → card_of w object ≡ card_of v object → (xs : List ℕ) → ObjectIs v object xs → ObjectIs w object xs
object-same w v e object q xs h c k =
    let r = h c (sym q ∙ k) in
    (r.0, λ u l. rw (inspect-same w v e c.object (length xs) u) (r.1 u l))

-- and its slots are the same
slot_same : (w v : Volume) → SameFiles w v → (object unit : ℕ) → checksum_of w object unit ≡ checksum_of v object unit
unfolding checksum_of
slot_same w v e object unit = rw e.groups refl

-- ---- the same uuid, books and image

-- what is said of the files is said of these
pub files-same : (files : List File) (w v : Volume) → w.uuid ≡ v.uuid → w.books ≡ v.books → w.image ≡ v.image → FilesAgree files v → FilesAgree files w
files-same files w v u b m a = record {
  objects = λ object. a.objects object ∙ ap given (sym (card object));
  bytes = λ object xs e. object-same w v same object (card object) xs (a.bytes object xs e);
  slots = λ object unit p. slot_same w v same object unit ∙ a.slots object unit (λ c q. p c (card object ∙ q));
  counts = λ c i. a.counts c (subst (λ (k : Books). Memᴰ c k.cards) b i) ∙ sym (unfold file_places places in ap (λ (k : Books). count (λ p. eqb p.object c.object) (flat_map places_of k.extents)) b);
  created = λ object. created-same w v object (card object) ∙ a.created object;
}
  where
    same : SameFiles w v
    same = record { uuid = u; extents = ap (λ (k : Books). k.extents) b; groups = ap (λ (k : Books). k.groups) b; image = m }

    card : (object : ℕ) → card_of w object ≡ card_of v object
    card object = unfold card_of in ap (λ (k : Books). find (λ c. eqb c.object object) k.cards) b

-- ---- fresh

-- a fresh volume says what no plain array does
fresh-files : (uuid : List ℕ) (reserved : ℕ) (s : Store) → FilesAgree [] (fresh_volume uuid reserved s)
unfolding file_bytes file_created find filter maybe given card_of created_of checksum_of fresh_volume
fresh-files uuid reserved s = record {
  objects = λ object. refl;
  bytes = λ object xs e. absurd (none-ne-some xs e);
  slots = λ object unit p. refl;
  counts = λ c m. absurd (Memᴰ.not-nil m);
  created = λ object. refl;
}

-- and each of its blocks is in one place
fresh-blocks : (uuid : List ℕ) (reserved : ℕ) (s : Store) → BlocksAgree reserved (fresh_volume uuid reserved s)
fresh-blocks uuid reserved s = record { given = unfold fresh_volume in refl; one_place = λ b l. fresh-holders uuid reserved s b }

-- ---- settle

-- the files stay
settled-files : (files : List File) (v : Volume) → FilesAgree files v → FilesAgree files (settled v)
unfolding settled
settled-files files v a = files-same files (settled v) v refl refl refl a

-- and so do the blocks' holders
settled-blocks : (reserved : ℕ) (v : Volume) → Lawful v → BlocksAgree reserved v → BlocksAgree reserved (settled v)
settled-blocks reserved v l a = record {
  given = unfold settled in a.given;
  one_place = λ b m. holders-settled reserved v l b ∙ a.one_place b (unfold settled in m);
}

-- ---- enter

module _ (files : List File) (c : Card) (v : Volume) (n : NoCard v c.object) where
  -- the new object's plain array
  new_file : File
  new_file = record { object = c.object; created = c.created; bytes = [] }

  -- the object is the new one or another
  either-object : (P : Type 0) (object : ℕ) → (c.object ≡ object → P) → ((c.object ≡ object → ⊥) → P) → P
  either-object P object f g = go (ℕ_discrete c.object object)
    where
      go : Dec (c.object ≡ object) → P
      go (yes e) = f e
      go (no d) = g d

  -- the new object has no bytes
  object-new : (xs : List ℕ) → c.size ≡ 0 → xs ≡ [] → ObjectIs (entered c v) c.object xs
  object-new xs z e k q =
      let m : k ≡ c = some-injective k c (sym q ∙ card-entered c v n) in
      rw (e, m) (z, λ u l. absurd (omega (arith, l)))

  -- it had no card
  no-card-before : (k : Card) → card_of v c.object ≡ some k → ⊥
  unfolding card_of
  no-card-before k q = none-ne-some k (sym (find_none (λ d. eqb d.object c.object) v.books.cards n) ∙ q)

  -- what is said stays right, with the new plain array
  entered-files : c.size ≡ 0 → c.allocated ≡ 0 → Lawful v → FilesAgree files v → FilesAgree (new_file ∷ files) (entered c v)
  unfolding new_file given
  entered-files z y l a = record {
    objects = λ object. either-object (given (file_bytes (new_file ∷ files) object) ≡ given (card_of (entered c v) object)) object
        (λ e. rw (← e, file-new new_file files, card-entered c v n) refl)
        (λ d. rw (file-other new_file files object d, card-other c v object d) (a.objects object));
    bytes = λ object xs e. either-object (ObjectIs (entered c v) object xs) object
        (λ p. rw (← p) (object-new xs z (some-injective xs [] (sym e ∙ (rw (← p) (file-new new_file files))))))
        (λ d. object-same (entered c v) v (files-entered c v) object (card-other c v object d) xs (a.bytes object xs (sym (file-other new_file files object d) ∙ e)));
    slots = λ object unit p. slot_same (entered c v) v (files-entered c v) object unit ∙ a.slots object unit
        (λ k q. either-object (k.size ≤ unit * unit_bytes) object
        (λ e. absurd (no-card-before k (rw (← e) at q))) (λ d. p k (card-other c v object d ∙ q)));
    counts = counts-entered c v n y l a.counts;
    created = λ object. either-object (created_of (entered c v) object ≡ file_created (new_file ∷ files) object) object
        (λ e. unfold created_of maybe in (rw (← e, created-new new_file files, card-entered c v n) refl))
        (λ d. created-same (entered c v) v object (card-other c v object d) ∙ a.created object ∙ sym (created-other new_file files object d));
  }

-- the blocks stay
entered-blocks : (reserved : ℕ) (c : Card) (v : Volume) → BlocksAgree reserved v → BlocksAgree reserved (entered c v)
entered-blocks reserved c v a = record {
  given = unfold entered in a.given;
  one_place = λ b m. holders-entered reserved c v b ∙ a.one_place b (unfold entered in m);
}

-- ---- the store

-- the store passes refusals 1 and 2, and says of the files and of the blocks what the calls tell
pub record Inv (files : List File) (reserved : ℕ) (s : Store) : Type 0 where
  pub passes : Passes s
  pub files_agree : FilesAgree files (decode s)
  pub blocks_agree : BlocksAgree reserved (decode s)

-- so does one that says a volume that agrees
pub inv-says : (files : List File) (reserved : ℕ) (s : Store) (v : Volume) → Says s v → FilesAgree files v → BlocksAgree reserved v → Inv files reserved s
inv-says files reserved s v y a b = record { passes = y.passes; files_agree = rw y.volume a; blocks_agree = rw y.volume b }

-- fresh makes it
pub inv-fresh : (s : Store) → StoreBytes s → (uuid : List ℕ) (reserved : ℕ) → InRange (fresh uuid reserved) → (call (fresh uuid reserved) s).number ≡ 0
    → Inv [] reserved (call (fresh uuid reserved) s).store
inv-fresh s b uuid reserved i e =
    inv-says [] reserved _ (fresh_volume uuid reserved s) (fresh-says s b uuid reserved i e) (fresh-files uuid reserved s) (fresh-blocks uuid reserved s)

-- enter keeps it
pub inv-enter : (object : ℕ) (time : Time) (files : List File) (reserved : ℕ) (s : Store) → InRange (enter object time) → StoreBytes s
    → (call (enter object time) s).number ≡ 0 → Inv files reserved s → Inv (record { object = object; created = time; bytes = [] } ∷ files) reserved (call (enter object time) s).store
unfolding new_card new_file
inv-enter object time files reserved s i b e h =
    let c : Card = new_card object time in
    inv-says _ reserved _ (entered c (decode s)) (enter-says s b object time i e)
    (entered-files files c (decode s) (enter-accepted object time s e).new refl refl (lawful-decode s h.passes) h.files_agree) (entered-blocks reserved c (decode s) h.blocks_agree)

-- settle keeps it
pub inv-settle : (files : List File) (reserved : ℕ) (s : Store) → StoreBytes s → (call settle s).number ≡ 0 → Inv files reserved s → Inv files reserved (call settle s).store
inv-settle files reserved s b e h =
    inv-says files reserved _ (settled (decode s)) (settle-says s b e) (settled-files files (decode s) h.files_agree) (settled-blocks reserved (decode s) (lawful-decode s h.passes) h.blocks_agree)

-- ---- the claim

-- an object of the volume is one of the plain arrays
pub known-object : (files : List File) (reserved : ℕ) (s : Store) → Inv files reserved s → (object : ℕ) (c : Card) → card_of (decode s) object ≡ some c
    → (xs : List ℕ) × (file_bytes files object ≡ some xs)
unfolding given
known-object files reserved s h object c q = given-some (file_bytes files object) (h.files_agree.objects object ∙ ap given q)

-- no other object is, and each says its bytes
all_known : (files : List File) (reserved : ℕ) (s : Store) → Inv files reserved s → AllKnown files (decode s)
all_known files reserved s h object = (h.files_agree.objects object, h.files_agree.bytes object)

-- what is left to show of write, with any limit of runs, and of grow
pub record ChangesRight : Type 0 where
  pub write_keeps : (limit object offset : ℕ) (bytes : List ℕ) (time : Time) (files : List File) (reserved : ℕ) (s : Store)
      → InRange (write object offset bytes time) → StoreBytes s → (result s [] (write_outcome limit object offset bytes time s)).number ≡ 0 → Inv files reserved s
      → Inv (write_step object offset bytes files) reserved (result s [] (write_outcome limit object offset bytes time s)).store
  pub grow_keeps : (object size : ℕ) (time : Time) (files : List File) (reserved : ℕ) (s : Store)
      → InRange (grow object size time) → StoreBytes s → (call (grow object size time) s).number ≡ 0 → Inv files reserved s
      → Inv (accepted (grow object size time) files) reserved (call (grow object size time) s).store
  pub write_never : (limit object offset : ℕ) (bytes : List ℕ) (time : Time) (files : List File) (reserved : ℕ) (s : Store)
      → InRange (write object offset bytes time) → StoreBytes s → Inv files reserved s → Never s [] (write_outcome limit object offset bytes time s)
  pub grow_never : (object size : ℕ) (time : Time) (files : List File) (reserved : ℕ) (s : Store)
      → InRange (grow object size time) → StoreBytes s → Inv files reserved s → member (call (grow object size time) s).number never_numbers ≡ false

-- the calls that leave the store are not refused with "2, 9 to 12 and 14"
never-look : (files : List File) (reserved : ℕ) (s : Store) → Inv files reserved s → (l : Look) → member (call (look l) s).number never_numbers ≡ false
unfolding member any
never-look files reserved s h (read object offset out) = read-never files s (all_known files reserved s h) object offset out h.passes
never-look files reserved s h (read_many list out) = many-never files s (all_known files reserved s h) h.passes list out
never-look files reserved s h (data_stretches object first units out) = stretches-never s h.passes object first units out
never-look files reserved s h fill = ap (λ n. member n never_numbers) (fill-number s h.passes)

module _ (w : ChangesRight) where
  -- every accepted call keeps it
  keeps : (c : Call) (files : List File) (reserved : ℕ) (s : Store) → InRange c → StoreBytes s → (call c s).number ≡ 0 → Inv files reserved s
      → Inv (accepted c files) (given_reserved c reserved) (call c s).store
  unfolding call accepted given_reserved
  keeps (fresh uuid n) files reserved s i b e h = inv-fresh s b uuid n i e
  keeps (enter object time) files reserved s i b e h = inv-enter object time files reserved s i b e h
  keeps (write object offset bytes time) files reserved s i b e h = w.write_keeps most_runs object offset bytes time files reserved s i b e h
  keeps (write_archive object offset bytes time) files reserved s i b e h = w.write_keeps archive_runs object offset bytes time files reserved s i b e h
  keeps (grow object size time) files reserved s i b e h = w.grow_keeps object size time files reserved s i b e h
  keeps settle files reserved s i b e h = inv-settle files reserved s b e h
  keeps (look l) files reserved s i b e h = rw (look-stays l s) h

  -- and none is refused with "2, 9 to 12 and 14"
  never-refused : (files : List File) (reserved : ℕ) (s : Store) → StoreBytes s → Inv files reserved s → (c : Call) → InRange c → member (call c s).number never_numbers ≡ false
  unfolding call member any
  never-refused files reserved s b h (fresh uuid n) i = never-fresh uuid n s
  never-refused files reserved s b h (enter object time) i = never-enter s h.passes object time
  never-refused files reserved s b h (write object offset bytes time) i = w.write_never most_runs object offset bytes time files reserved s i b h
  never-refused files reserved s b h (write_archive object offset bytes time) i = w.write_never archive_runs object offset bytes time files reserved s i b h
  never-refused files reserved s b h (grow object size time) i = w.grow_never object size time files reserved s i b h
  never-refused files reserved s b h settle i = ap (λ n. member n never_numbers) (settle-number s h.passes)
  never-refused files reserved s b h (look l) i = never-look files reserved s h l

  -- of a batch's writes: as calls
  write_kept : (object offset : ℕ) (bytes : List ℕ) (time : Time) (files : List File) (reserved : ℕ) (s : Store)
      → InRange (write object offset bytes time) → StoreBytes s → (call (write object offset bytes time) s).number ≡ 0 → Inv files reserved s
      → Inv (accepted (write object offset bytes time) files) reserved (call (write object offset bytes time) s).store
  unfolding given_reserved
  write_kept object offset bytes time = keeps (write object offset bytes time)

  -- every act that is not refused keeps it
  acts-keep : (a : Act) (files : List File) (reserved : ℕ) (s : Store) → ActInRange a → StoreBytes s → act_refused a s ≡ false → Inv files reserved s
      → Inv (act_step a (parts_done a s) files) (act_reserved a reserved) (act a s).store
  unfolding act act_refused act_step act_reserved
  acts-keep (whole c) files reserved s i b f h = keeps c files reserved s i b (accepted-number (call c s) f) h
  acts-keep (batch list bytes time) files reserved s i b f h = batch-keeps Inv write_kept list bytes time files reserved s i b f h

  -- and none is refused or stopped with "2, 9 to 12 and 14"
  never-stopped : (files : List File) (reserved : ℕ) (s : Store) → StoreBytes s → Inv files reserved s → (a : Act) → ActInRange a → member (act a s).number never_numbers ≡ false
  unfolding act
  never-stopped files reserved s b h (whole c) i = never-refused files reserved s b h c i
  never-stopped files reserved s b h (batch list bytes time) i =
      batch-never Inv write_kept (λ object offset bytes time files reserved s i b h. never-refused files reserved s b h (write object offset bytes time) i)
      list bytes time files reserved s h.passes i b h

  -- the claim
  sound : (files : List File) (reserved : ℕ) (s : Store) → StoreBytes s → Inv files reserved s → Sound files reserved s
  sound files reserved s b h = record {
    reads = λ object offset out i e. read_plain files s (all_known files reserved s h) object offset out h.passes e;
    reads_many = λ list out i e. many-plain files s (all_known files reserved s h) h.passes list out e;
    stretches = λ object first units out i e. stretches-plain files s (all_known files reserved s h) object first units out h.passes e;
    one_place = λ b l. h.blocks_agree.one_place b (rw (room-decode s h.passes).blocks l);
    counts = h.files_agree.counts;
    created = h.files_agree.created;
    stays = call_stays b (λ n l. place-once reserved (decode s) n (h.blocks_agree.one_place n l));
    never = never-stopped files reserved s b h;
  }

  -- demand 3, from what is left of write and grow
  pub demand3-from-changes : Demand3
  demand3-from-changes = demand3-from Inv acts-keep inv-fresh sound
