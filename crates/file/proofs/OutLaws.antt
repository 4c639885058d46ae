-- The store that is left where a planned change is carried out, from what is left of its buffers.
-- Assumes nothing.
use mathlib.Core.Path.{◌≡◌, sym, ◌∙◌}
use mathlib.Core.List.{List}
use Prim.Native.Nat.{ℕ, ◌+◌, ◌-◌, ◌≤◌}
use native.Mathlib.Omega.{arith}
use lib.ListN.{length, take}
use lib.Seq.{length-take-le}
use Rattle.rules.specs.Time.{Time}
use Rattle.rules.specs.Group.{encode_group}
use Rattle.rules.specs.Book.{encode_book}
use Rattle.rules.specs.Store.{Store, Volume, decode}
use Rattle.rules.specs.Units.{Change}
use Rattle.rules.specs.Rewrite.{Rewritten, Progress}
use Rattle.rules.specs.Finish.{finished_groups, finished_image}
use Rattle.rules.proofs.PassLaws.{Passes}
use Rattle.rewrite.specs.Plan.{laid_units}
use Rattle.finish_units.specs.Carry.{UnitsFit, CarriesFor}
use Rattle.finish_books.specs.Groups.{groups_in}
use Rattle.file.specs.Books.{MapsLeft, ExtentsLeft, RecordsLeft}
use Rattle.finish_fit.specs.Fits.{Fits}
use Rattle.file.specs.Out.{PlanTold, StoreLeft}
use Rattle.file.proofs.CarryLaws.{Given, Told, carried-store}

-- each buffer is what the functions say, so the store is the finished one
pub store-left : (s t : Store) (n m g object before after start allocated seconds nanoseconds hint groups place cut count flat : ℕ) (uuid written us slots old kept blocks made : List ℕ)
    → ((limit : ℕ) (v : Volume) (c : Change) → CarriesFor limit v c s.image uuid object before after start written us slots old kept blocks
    → t.image ≡ finished_image (laid_units limit v c us blocks) s.image)
    → ((limit : ℕ) (v : Volume) (c : Change) → CarriesFor limit v c s.image uuid object before after start written us slots old kept blocks
    → t.groups ≡ encode_book encode_group (length s.groups) (finished_groups object (laid_units limit v c us blocks) (groups_in g s.groups)))
    → MapsLeft s.used s.retired old (take flat kept) (take flat blocks) t.used t.retired
    → ExtentsLeft m place cut count made s.extents t.extents
    → RecordsLeft n object after allocated seconds nanoseconds hint (m - cut + count) groups s.head s.cards t.head t.cards
    → place + cut ≤ m
    → StoreLeft s t n m g object before after start allocated seconds nanoseconds hint groups place cut count flat uuid written us slots old kept blocks made
store-left s t n m g object before after start allocated seconds nanoseconds hint groups place cut count flat uuid written us slots old kept blocks made x y a b d l = record {
  store = λ limit c time p k q.
      let rs : List Rewritten = laid_units limit (decode s) c us blocks in
      carried-store c time rs p s t {n = n} {m = m} {g = g} {object = object} {size = after} {allocated = allocated} {seconds = seconds} {nanoseconds = nanoseconds} {hint = hint}
      {groups = groups} {place = place} {cut = cut} {count = count} {us = us} {old = old} {kept = take flat kept} {blocks = take flat blocks} {made = made}
      q.passes
      (record {
        cards = q.cards_is;
        extents = q.extents_is;
        groups = q.groups_is;
        file = q.object_is;
        new_size = q.size_is;
        count = q.allocated_is;
        second = q.seconds_is;
        nanosecond = q.nanoseconds_is;
        next = q.hint_is;
      })
      (record {
        inside = l;
        exchange = q.exchange;
        groups_after = q.groups_after;
        image_left = x limit (decode s) c k;
        head_left = d.head_left;
        cards_left = d.cards_left;
        extents_left = b.extents_left;
        groups_left = y limit (decode s) c k;
        used_left = a.used_left;
        retired_left = a.retired_left;
      })
      (record { described = q.described; new = q.new; gone = q.gone });
}

-- what is within the array of kept blocks is within that of blocks
pub flat-inside : (image : List ℕ) (after : ℕ) (us slots old kept blocks : List ℕ) (flat : ℕ) → UnitsFit image after us slots old kept blocks → flat ≤ length kept → flat ≤ length blocks
flat-inside image after us slots old kept blocks flat f l = omega (arith, l, f.kept_each, f.blocks_each)

-- so as many are taken of both
pub flat-same : (image : List ℕ) (after : ℕ) (us slots old kept blocks : List ℕ) (flat : ℕ) → UnitsFit image after us slots old kept blocks → flat ≤ length kept
    → length (take flat kept) ≡ length (take flat blocks)
flat-same image after us slots old kept blocks flat f l =
    length-take-le flat kept l ∙ sym (length-take-le flat blocks (flat-inside image after us slots old kept blocks flat f l))

-- the arguments tell of the plan: they are the store's and the change's, the arrays tell the units, and the books fit
pub plan-told : (c : Change) (time : Time) (rs : List Rewritten) (p : Progress) (s : Store) {n m g object size allocated seconds nanoseconds hint groups place cut count number : ℕ}
    {us old kept blocks made : List ℕ} → Passes s → Given c time rs p s s n m g object size allocated seconds nanoseconds hint → Told rs us old kept blocks
    → Fits object us blocks g s.groups m s.extents number groups place cut count made → number ≡ 0
    → PlanTold c time rs p s n m g object size allocated seconds nanoseconds hint groups place cut count us old kept blocks made
plan-told c time rs p s q a b f z = record {
  passes = q;
  cards_is = a.cards;
  extents_is = a.extents;
  groups_is = a.groups;
  object_is = a.file;
  size_is = a.new_size;
  allocated_is = a.count;
  seconds_is = a.second;
  nanoseconds_is = a.nanosecond;
  hint_is = a.next;
  described = b.described;
  new = b.new;
  gone = b.gone;
  exchange = (f.exchanges z).exchange;
  groups_after = f.told z rs b.described;
}
