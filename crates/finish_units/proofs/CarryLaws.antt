-- Units carried out one after another: what the loop over them keeps, that one unit more keeps it, and what it says at the end.
-- Assumes nothing.
use mathlib.Core.Path.{◌≡◌, refl, sym, ap, ◌∙◌}
use mathlib.Core.Bool.{true, false}
use mathlib.Core.List.{List, [], ◌∷◌, ◌++◌, map, append_assoc, append-nil}
use mathlib.Core.Option.{Option, none, some, none-ne-some}
use Prim.Native.Nat.{ℕ, zero, suc, ◌+◌, ◌-◌, ◌*◌, ◌≤◌, ◌<◌}
use native.Mathlib.Omega.{arith}
use lib.ListN.{length, take, drop, get_or, set, drop_of_length-le, length-set}
use lib.Seq.{drop-cons, drop-drop, take-suc-set}
use Rattle.rules.specs.Lists.{begun}
use Rattle.rules.specs.Sizes.{block_bytes, unit_blocks}
use Rattle.rules.specs.Bytes.{part}
use Rattle.rules.specs.Store.{Volume, block_at}
use Rattle.rules.specs.Units.{Change, valid_length, assembled}
use Rattle.rules.specs.Inspect.{unit_mapping}
use Rattle.rules.specs.Kept.{blocks_after}
use Rattle.rules.specs.Rewrite.{Rewritten}
use Rattle.rules.specs.Finish.{new_blocks, write_new, finished_image}
use Rattle.rules.proofs.ListLaws.{clash, Each, each_more, each_at}
use Rattle.rules.proofs.ByteLaws.{length_part, get_d_part}
use Rattle.rules.proofs.KeptLaws.{length_retained}
use Rattle.history.proofs.ApartLaws.{each-split}
use Rattle.history.proofs.UnitLaws.{valid-blocks}
use Rattle.mapping.specs.Entries.{entries, Inside}
use Rattle.kept.specs.Change.{IsChange}
use Rattle.image.proofs.BlockLaws.{inside-same, inside_take, inside-drop}
use Rattle.image.proofs.PutLaws.{other-write_new}
use Rattle.rewrite.specs.Plan.{new_of, old_bytes, verified, kept_by, laid_unit, laid_units}
use Rattle.finish_units.specs.Units.{new_bytes, UnitWritten}
use Rattle.finish_units.specs.Carry.{UnitsFit, CarriesFor, WrittenAt, CarriedOut}
use Rattle.finish_units.proofs.OldLaws.{new-bytes}

-- ---- the arrays

-- the entries of a part of old blocks lie in the image
pub part-inside : (image xs : List ℕ) (a n : ℕ) → Inside image xs → Inside image (part a n xs)
unfolding part
part-inside image xs a n h = inside_take image (drop a xs) n (inside-drop image xs a h)

-- arrays that fit an image fit another of its length
pub fit_same : (s t : List ℕ) (after : ℕ) (units slots old kept blocks : List ℕ) → length t ≡ length s → UnitsFit s after units slots old kept blocks → UnitsFit t after units slots old kept blocks
fit_same s t after units slots old kept blocks e f = record {
  few = f.few;
  slot_each = f.slot_each;
  old_each = f.old_each;
  kept_each = f.kept_each;
  blocks_each = f.blocks_each;
  begins = f.begins;
  old_inside = inside-same s t old e f.old_inside;
  blocks_inside = λ j i l k. rw e (f.blocks_inside j i l k);
}

-- ---- the rewritten units of a plan

-- a block whose place is not kept is a new one
new-at : (P : ℕ → Type 0) (kept : List (Option ℕ)) (blocks : List ℕ) → Each P (new_of kept blocks) → length kept ≡ length blocks → (i : ℕ) → i < length blocks → get_or kept i none ≡ none → P (get_or blocks i 0)
unfolding new_of
new-at P [] [] h n i l e = absurd (omega arith)
new-at P [] (b ∷ blocks) h n i l e = absurd (omega arith)
new-at P (k ∷ kept) [] h n i l e = absurd (omega arith)
new-at P (some p ∷ kept) (b ∷ blocks) h n zero l e = absurd (none-ne-some p (sym e))
new-at P (some p ∷ kept) (b ∷ blocks) h n (suc i) l e = new-at P kept blocks h (omega arith) i (omega arith) e
new-at P (none ∷ kept) (b ∷ blocks) (each_more p h) n zero l e = p
new-at P (none ∷ kept) (b ∷ blocks) (each_more p h) n (suc i) l e = new-at P kept blocks h (omega arith) i (omega arith) e

module _ (limit : ℕ) (v : Volume) (c : Change) where
  -- there is one for each unit
  pub length-laid : (us bs : List ℕ) → length (laid_units limit v c us bs) ≡ length us
  unfolding laid_units
  length-laid [] bs = refl
  length-laid (u ∷ us) bs = ap suc (length-laid us (drop unit_blocks bs))

  -- each has sixteen blocks in turn
  pub get_or-laid : (us bs : List ℕ) (j : ℕ) (d : Rewritten) → j < length us → get_or (laid_units limit v c us bs) j d ≡ laid_unit limit v c (get_or us j 0) (drop (unit_blocks * j) bs)
  unfolding laid_units
  get_or-laid [] bs j d l = absurd (omega arith)
  get_or-laid (u ∷ us) bs zero d l = refl
  get_or-laid (u ∷ us) bs (suc j) d l =
      let e : unit_blocks + unit_blocks * j ≡ unit_blocks * suc j = omega arith in
      get_or-laid us (drop unit_blocks bs) j d (omega arith)
      ∙ ap (laid_unit limit v c (get_or us j 0)) (drop-drop (unit_blocks * j) unit_blocks bs ∙ ap (λ (k : ℕ). drop k bs) e)

-- ---- the loop

-- the first j units of rs are carried out: those after them make of the image what all make of the image at first, the checksums stand in their places,
-- and used blocks are as they were
pub record Carried (v : Volume) (rs : List Rewritten) (first image crcs : List ℕ) (j : ℕ) : Type 0 where
  pub rest : finished_image (drop j rs) image ≡ finished_image rs first
  pub sums : take j crcs ++ map (λ r. r.checksum) (drop j rs) ≡ map (λ r. r.checksum) rs
  pub same : (b : ℕ) → v.used b ≡ true → block_at image b ≡ block_at v.image b

module _ (limit : ℕ) (v : Volume) (c : Change) (first uuid : List ℕ) (object before after start : ℕ) (written units slots old kept blocks : List ℕ) (w : CarriesFor limit v c first uuid object before after start written units slots old kept blocks) where
  -- the rewritten units
  abbrev rs : List Rewritten
  rs = laid_units limit v c units blocks

  -- none yet
  pub carried_none : (crcs : List ℕ) → Carried v rs first first crcs 0
  carried_none crcs = record { rest = refl; sums = refl; same = λ b u. ap (λ (s : List ℕ). block_at s b) (sym w.image_is) }

  -- a unit more
  module _ (image : List ℕ) (fits : UnitsFit image after units slots old kept blocks) (long : length image ≡ length first) (j : ℕ) (l : j < length units) where
    -- the unit
    abbrev unit : ℕ
    unit = get_or units j 0

    -- its old blocks
    abbrev olds : List ℕ
    olds = part (unit_blocks * j) unit_blocks old

    -- what it becomes
    abbrev laid : Rewritten
    laid = laid_unit limit v c unit (drop (unit_blocks * j) blocks)

    -- the number of its blocks
    many : begun (valid_length after unit) block_bytes ≡ blocks_after c unit
    unfolding blocks_after
    many = rw w.change.new refl

    -- its new bytes
    bytes-are : (crcs : List ℕ) → Carried v rs first image crcs j → new_bytes c image unit (get_or slots j 0) olds ≡ assembled c unit (old_bytes v c unit)
    bytes-are crcs h =
        let k : unit_blocks * j + unit_blocks ≤ length old = omega (arith, fits.old_each, l) in
        let e : length v.image ≡ length image = ap length w.image_is ∙ sym long in
        new-bytes v c unit (get_or slots j 0) olds (w.mapped j l) image w.lawful h.same (inside-same image v.image olds e (part-inside image old (unit_blocks * j) unit_blocks fits.old_inside))
        (length_part old (unit_blocks * j) unit_blocks k) (w.slot j l) (w.passed j l)

    -- its blocks are no more than a unit has
    most : blocks_after c unit ≤ unit_blocks
    unfolding blocks_after
    most = valid-blocks c.new_size unit

    -- what it keeps has an entry for each of them
    wide : length (kept_by limit v c unit) ≡ blocks_after c unit
    unfolding kept_by
    wide = length_retained limit c unit (verified v c unit) (unit_mapping v c.object unit unit_blocks)

    -- its new blocks were free
    free-here : Each (λ x. v.used x ≡ false) (new_of (kept_by limit v c unit) (part (unit_blocks * j) (blocks_after c unit) blocks))
    unfolding new_blocks laid_unit part
    free-here =
        let h : Each (λ x. v.used x ≡ false) (get_or rs j laid).new = each_at (each-split (λ (r : Rewritten). r.new) rs w.free) j laid (omega (arith, length-laid limit v c units blocks, l)) in
        rw (get_or-laid limit v c units blocks j laid l) at h

    -- writing it leaves a used block
    block_same : (bytes : List ℕ) (b : ℕ) → v.used b ≡ true → block_at (write_new bytes 0 laid.kept laid.blocks image) b ≡ block_at image b
    unfolding laid_unit part
    block_same bytes b u =
        let ks : List (Option ℕ) = kept_by limit v c unit in
        let bs : List ℕ = part (unit_blocks * j) (blocks_after c unit) blocks in
        let lb : length bs ≡ blocks_after c unit = length_part blocks (unit_blocks * j) (blocks_after c unit) (omega (arith, fits.blocks_each, l, most)) in
        let each : Each (λ x. v.used x ≡ false) (new_of ks bs) = free-here in
        other-write_new bytes 0 ks bs image
        (λ i k. rw (get_d_part blocks (unit_blocks * j) (blocks_after c unit) i (omega (arith, k, lb))) (fits.blocks_inside j i l (omega (arith, k, lb, many))))
        b (λ i k e q. clash (new-at (λ x. v.used x ≡ false) ks bs each (wide ∙ sym lb) i k e) (rw q u))

    -- the units from it on
    from-here : drop j rs ≡ laid ∷ drop (suc j) rs
    from-here = drop-cons rs j laid (omega (arith, length-laid limit v c units blocks, l)) ∙ ap (λ (r : Rewritten). r ∷ drop (suc j) rs) (get_or-laid limit v c units blocks j laid l)

    -- the unit carried out
    pub carried-more : (crcs sums left : List ℕ) (r : ℕ) → Carried v rs first image crcs j → j < length crcs
        → WrittenAt c after uuid object units slots old kept blocks j image r left
        → sums ≡ set crcs j r → Carried v rs first left sums (j + 1)
    unfolding laid_unit finished_image part
    carried-more crcs sums left r h k q e =
        let nb : ℕ = begun (valid_length after unit) block_bytes in
        let x : new_bytes c image unit (get_or slots j 0) olds ≡ laid.bytes = bytes-are crcs h in
        let y : entries (part (unit_blocks * j) nb kept) ≡ laid.kept = ap (λ (n : ℕ). entries (part (unit_blocks * j) n kept)) many ∙ w.keeps j l in
        let z : part (unit_blocks * j) nb blocks ≡ laid.blocks = ap (λ (n : ℕ). part (unit_blocks * j) n blocks) many in
        let f : left ≡ write_new laid.bytes 0 laid.kept laid.blocks image = q.written ∙ rw (x, y, z) refl in
        let g : r ≡ laid.checksum = q.checksum ∙ rw (x, w.uuid_is, w.object_is) refl in
        let n : j + 1 ≡ suc j = omega arith in
        record {
          rest = rw (n, f) (sym (ap (λ (ts : List Rewritten). finished_image ts image) from-here) ∙ h.rest);
          sums =
              rw (n, e, take-suc-set crcs j r k, g)
              (append_assoc (take j crcs) (laid.checksum ∷ []) (map (λ r. r.checksum) (drop (suc j) rs))
              ∙ sym (ap (λ (ts : List Rewritten). take j crcs ++ map (λ r. r.checksum) ts) from-here) ∙ h.sums);
          same = λ b u. rw f (block_same laid.bytes b u ∙ h.same b u);
        }

  -- all of them
  pub carried-all : (image crcs : List ℕ) (j : ℕ) → Carried v rs first image crcs j → j ≤ length units → length units ≤ j
      → CarriedOut rs (length units) first image crcs
  unfolding finished_image
  carried-all image crcs j h l m =
      let n : j ≡ length units = omega arith in
      let d : drop j rs ≡ [] = drop_of_length-le rs {i = j} (omega (arith, length-laid limit v c units blocks, m)) in
      record {
        image_is = sym (ap (λ (ts : List Rewritten). finished_image ts image) d) ∙ h.rest;
        sums = rw (← n) (sym (append-nil (take j crcs)) ∙ sym (ap (λ (ts : List Rewritten). take j crcs ++ map (λ r. r.checksum) ts) d) ∙ h.sums);
      }

-- ---- the code's loop

-- what it keeps: the image and the checksums have their lengths, and for every change that the arrays tell of the first j units are carried out
pub record Writing (object before after start : ℕ) (uuid written units slots old kept blocks first sums image crcs : List ℕ) (j : ℕ) : Type 0 where
  pub most : j ≤ length units
  pub long : length image ≡ length first
  pub wide : length crcs ≡ length sums
  pub carried : (limit : ℕ) (v : Volume) (c : Change) → CarriesFor limit v c first uuid object before after start written units slots old kept blocks
      → Carried v (laid_units limit v c units blocks) first image crcs j

module _ (object before after start : ℕ) (uuid written units slots old kept blocks first : List ℕ) where
  -- none yet
  pub writing-none : (crcs : List ℕ) → Writing object before after start uuid written units slots old kept blocks first crcs first crcs 0
  writing-none crcs = record {
    most = omega arith;
    long = refl;
    wide = refl;
    carried = λ limit v c w. carried_none limit v c first uuid object before after start written units slots old kept blocks w crcs;
  }

  -- a unit more
  pub writing_more : (sums image crcs left : List ℕ) (j r : ℕ) → UnitsFit first after units slots old kept blocks → Writing object before after start uuid written units slots old kept blocks first sums image crcs j
      → j < length units → length units ≤ length sums → length left ≡ length image
      → ((c : Change) → IsChange c before after start (length written) → c.bytes ≡ written → WrittenAt c after uuid object units slots old kept blocks j image r left)
      → Writing object before after start uuid written units slots old kept blocks first sums left (set crcs j r) (j + 1)
  writing_more sums image crcs left j r f h l k n q = record {
    most = omega arith;
    long = n ∙ h.long;
    wide = length-set crcs j r ∙ h.wide;
    carried =
        λ limit v c w. carried-more limit v c first uuid object before after start written units slots old kept blocks w image (fit_same first image after units slots old kept blocks h.long f) h.long j l
        crcs (set crcs j r) left r (h.carried limit v c w) (omega (arith, l, k, h.wide)) (q c w.change w.bytes_is) refl;
  }

  -- all of them
  pub writing-all : (sums image crcs : List ℕ) (j : ℕ) → Writing object before after start uuid written units slots old kept blocks first sums image crcs j → length units ≤ j
      → (limit : ℕ) (v : Volume) (c : Change) → CarriesFor limit v c first uuid object before after start written units slots old kept blocks → CarriedOut (laid_units limit v c units blocks) (length units) first image crcs
  writing-all sums image crcs j h m limit v c w =
      carried-all limit v c first uuid object before after start written units slots old kept blocks w image crcs j (h.carried limit v c w) h.most m

-- ---- a unit's parts of the arrays

module _ (image : List ℕ) (after : ℕ) (units slots old kept blocks : List ℕ) (f : UnitsFit image after units slots old kept blocks) (j k : ℕ) (l : j < length units) (e : k ≡ begun (valid_length after (get_or units j 0)) block_bytes) where
  -- its sixteen entries of an array
  abbrev sixteen : List ℕ → List ℕ
  sixteen xs = take (unit_blocks * j + unit_blocks - unit_blocks * j) (drop (unit_blocks * j) xs)

  -- those of the blocks that it has
  abbrev these : List ℕ → List ℕ
  these xs = take (unit_blocks * j + k - unit_blocks * j) (drop (unit_blocks * j) xs)

  -- the sixteen are a part of the array
  sixteen-is : (xs : List ℕ) → sixteen xs ≡ part (unit_blocks * j) unit_blocks xs
  unfolding part
  sixteen-is xs =
      let n : unit_blocks * j + unit_blocks - unit_blocks * j ≡ unit_blocks = omega arith in
      ap (λ (n : ℕ). take n (drop (unit_blocks * j) xs)) n

  -- and so are those
  these-are : (xs : List ℕ) → these xs ≡ part (unit_blocks * j) k xs
  unfolding part
  these-are xs =
      let n : unit_blocks * j + k - unit_blocks * j ≡ k = omega arith in
      ap (λ (n : ℕ). take n (drop (unit_blocks * j) xs)) n

  -- they fit
  pub parts-fit : k ≤ unit_blocks
      → (length (sixteen old) ≡ unit_blocks)
      × (Inside image (sixteen old)
      × ((length (these kept) ≡ length (these blocks))
      × ((length (these blocks) ≤ unit_blocks)
      × ((i : ℕ) → i < length (these blocks) → (get_or (these blocks) i 0 + 1) * block_bytes ≤ length image))))
  parts-fit m =
      let a : length (part (unit_blocks * j) unit_blocks old) ≡ unit_blocks = length_part old (unit_blocks * j) unit_blocks (omega (arith, f.old_each, l)) in
      let b : length (part (unit_blocks * j) k kept) ≡ k = length_part kept (unit_blocks * j) k (omega (arith, f.kept_each, l, m)) in
      let g : length (part (unit_blocks * j) k blocks) ≡ k = length_part blocks (unit_blocks * j) k (omega (arith, f.blocks_each, l, m)) in
      rw (sixteen-is old, these-are kept, these-are blocks) (
        a,
        (
          part-inside image old (unit_blocks * j) unit_blocks f.old_inside,
          (
            b ∙ sym g,
            (
              omega (arith, g, m),
              λ i h. rw (get_d_part blocks (unit_blocks * j) k i (omega (arith, g, h))) (f.blocks_inside j i l (omega (arith, g, h, e))),
            ),
          ),
        ),
      )

  -- a unit that was written from them was written at its place
  pub written_at : (c : Change) (uuid : List ℕ) (object r : ℕ) (left : List ℕ)
      → UnitWritten c (get_or units j 0) (get_or slots j 0) uuid object (sixteen old) (these kept) (these blocks) image r left
      → WrittenAt c after uuid object units slots old kept blocks j image r left
  written_at c uuid object r left q =
      let h : UnitWritten c (get_or units j 0) (get_or slots j 0) uuid object (part (unit_blocks * j) unit_blocks old) (part (unit_blocks * j) k kept) (part (unit_blocks * j) k blocks) image r left = rw (sixteen-is old, these-are kept, these-are blocks) at q in
      rw (← e) h
