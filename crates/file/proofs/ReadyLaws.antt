-- What a change asks for before it is carried out, from a store that passes and books that fit.
-- Assumes nothing.
use mathlib.Core.Path.{◌≡◌, refl, sym, ap, ◌∙◌}
use mathlib.Core.Bool.{true}
use mathlib.Core.List.{List, [], ◌∷◌, map}
use Prim.Native.Nat.{ℕ, zero, suc, ◌+◌, ◌-◌, ◌*◌, ◌/◌, ◌^◌, ◌≤◌, ◌<◌}
use native.Mathlib.Decide.{ℕ_discrete}
use native.Mathlib.Omega.{arith}
use lib.ListN.{length, get_or, length-map}
use Rattle.rules.specs.Lists.{any, ascending}
use Rattle.rules.specs.Sizes.{unit_blocks, group_units}
use Rattle.rules.specs.Head.{decode_head}
use Rattle.rules.specs.Card.{card_before}
use Rattle.rules.specs.Extent.{extent_bytes, extent_before}
use Rattle.rules.specs.Group.{Group, group_bytes, group_before}
use Rattle.rules.specs.Book.{decode_books}
use Rattle.rules.specs.Store.{Store, StoreBytes, decode, decode_with}
use Rattle.rules.specs.Integrity.{ordered}
use Rattle.rules.specs.Units.{Change, valid_length}
use Rattle.rules.specs.Kept.{blocks_after}
use Rattle.rules.specs.Rewrite.{Rewritten}
use Rattle.rules.specs.Finish.{is_group, with_group, finished_groups}
use Rattle.rules.proofs.PassLaws.{each-passed, Passes, passes-whole, lawful-decode}
use Rattle.finish_books.specs.Groups.{groups_in, set_slots, GroupsRight}
use Rattle.finish_books.proofs.GroupListLaws.{with-keeps, with-has, slots_with, slots_length, finished-slots}
use Rattle.finish_extents.specs.Stretch.{Describes, Written}
use Rattle.finish_fit.specs.Fits.{Fits}
use Rattle.file.specs.Flat.{flat_blocks}
use Rattle.file.specs.Room.{RoomFor}
use Rattle.file.proofs.CarryLaws.{extents-room, groups-room}
use Rattle.finish_fit.proofs.FitLaws.{fit-groups, fit-extents}

-- ---- the groups

module _ (object : ℕ) (us : List ℕ) (gs : List Group) where
  -- the groups with those of the first k units put in where they are missing
  with_first : ℕ → List Group
  with_first zero = gs
  with_first (suc k) = with_group object (get_or us k 0 / group_units) (with_first k)

  -- those of these units are there
  first-there : (k j : ℕ) → j < k → any (is_group object (get_or us j 0 / group_units)) (with_first k) ≡ true
  unfolding with_first
  first-there zero j l = absurd (omega (arith, l))
  first-there (suc k) j l = go (λ m. first-there k j m) (ℕ_discrete j k)
    where
      go : (j < k → any (is_group object (get_or us j 0 / group_units)) (with_first k) ≡ true) → Dec (j ≡ k)
          → any (is_group object (get_or us j 0 / group_units)) (with_group object (get_or us k 0 / group_units) (with_first k)) ≡ true
      go h (yes e) = rw e (with-has object (get_or us k 0 / group_units) (with_first k))
      go h (no d) = with-keeps object (get_or us k 0 / group_units) (get_or us j 0 / group_units) (with_first k) (h (omega arith))

  -- it is the same to put them in before the slots are set
  first-same : (cs : List ℕ) → length us ≡ length cs → (k : ℕ) → k ≤ length us → set_slots object us cs (with_first k) ≡ set_slots object us cs gs
  unfolding with_first
  first-same cs e zero l = refl
  first-same cs e (suc k) l = slots_with object us cs k (with_first k) l e ∙ first-same cs e k (omega (arith, l))

  -- so the groups are as many whatever the checksums are
  slots-many : (cs : List ℕ) → length us ≡ length cs → length (set_slots object us cs gs) ≡ length (with_first (length us))
  slots-many cs e =
      sym (ap length (first-same cs e (length us) (omega arith))) ∙ slots_length object us cs (with_first (length us)) (λ k l. first-there (length us) k l)

-- there is room for the groups with any checksums where there is for the finished ones
pub room_of : (object : ℕ) (us : List ℕ) (g : ℕ) (groups : List ℕ) (rs : List Rewritten) → map (λ r. r.unit) rs ≡ us
    → group_bytes * length (finished_groups object rs (groups_in g groups)) ≤ length groups → RoomFor object us g groups
room_of object us g groups rs e l =
    let n : length us ≡ length (map (λ (r : Rewritten). r.checksum) rs) =
    ap length (sym e) ∙ length-map rs (λ r. r.unit) ∙ sym (length-map rs (λ r. r.checksum)) in
    let k : length (finished_groups object rs (groups_in g groups)) ≡ length (set_slots object us (map (λ (r : Rewritten). r.checksum) rs) (groups_in g groups)) =
    ap length (finished-slots object rs (groups_in g groups) ∙ ap (λ (ws : List ℕ). set_slots object ws (map (λ r. r.checksum) rs) (groups_in g groups)) e) in
    record {
      fits = λ sums q.
          rw (slots-many object us (groups_in g groups) sums q ∙ sym (k ∙ slots-many object us (groups_in g groups) (map (λ r. r.checksum) rs) n)) l;
    }

module _ (s : Store) (q : Passes s) where
  -- the book of groups keeps its rules
  pub groups-ready : StoreBytes s → GroupsRight (decode_head s.head).groups s.groups
  unfolding ordered decode decode_with decode_books
  groups-ready b =
      let o = each-passed (ascending card_before (decode s).books.cards) (ascending extent_before (decode s).books.extents ∷ ascending group_before (decode s).books.groups ∷ []) (lawful-decode s q).order in
      let w = (passes-whole s q b).groups in
      record { places = w.places; order = o.1.1.0; zeros = w.zeros; fixed = w.records }

  module _ {object g m : ℕ} {us bs : List ℕ} {number left place cut count : ℕ} {made : List ℕ}
      (f : Fits object us bs g s.groups m s.extents number left place cut count made) (rs : List Rewritten) (d : Describes us bs rs) (z : number ≡ 0) where
    -- there is room for the groups, whatever the checksums will be
    pub room-ready : RoomFor object us g s.groups
    room-ready =
        room_of object us g s.groups rs d.units (rw (f.told z rs d) at (groups-room s q left (fit-groups f rs d z)).0)

    -- the head can say their number
    pub left-ready : left < 2 ^ 20
    left-ready = (groups-room s q left (fit-groups f rs d z)).1

    -- the finished extents have their places, and the head can say their number
    pub extents-left-ready : (extent_bytes * (m - cut + count) ≤ length s.extents) × (m - cut + count < 2 ^ 20)
    extents-left-ready = extents-room s q (m - cut + count) (fit-extents f rs d z)

    -- the extents that are put in were made
    pub made-ready : extent_bytes * 290 ≤ length made → (extent_bytes * count ≤ length made) × Written count made
    made-ready l = (omega (arith, l, (f.exchanges z).few), (f.exchanges z).exchange.written)

-- ---- the arrays

-- the blocks of units side by side are within their sixteens
pub flat-most : (c : Change) (us : List ℕ) → flat_blocks c us ≤ unit_blocks * length us
unfolding flat_blocks blocks_after valid_length
flat-most c [] = omega arith
flat-most c (u ∷ []) = omega arith
flat-most c (u ∷ w ∷ us) = omega (arith, flat-most c (w ∷ us))
