-- Laws of the search through the groups: a group's two runs, and one group after another.
-- Assumes nothing.
use mathlib.Core.Path.{◌≡◌, refl, sym, ap, ◌∙◌}
use mathlib.Core.List.{List, [], ◌++◌, flat_map, append_assoc, append-nil}
use mathlib.Core.Bool.{◌&&◌, and-false}
use Prim.Native.Nat.{ℕ, ◌+◌, ◌-◌, ◌*◌, ◌%◌, ◌≤◌, ◌<◌, min}
use native.Mathlib.Numerals.{add-one}
use native.Mathlib.Omega.{arith}
use Rattle.std.specs.Int.{div_ceil}
use lib.Dec.{ltb}
use lib.ListN.{length, get_or, take}
use lib.Seq.{take_at, take_all}
use borrow.Author.Tests.{lt-ltb, le-ltb}
use Rattle.rules.specs.Allocation.{allocation_groups, group_start, group_end}
use Rattle.rules.proofs.ListLaws.{if-true, if-false, and_intro}
use Rattle.rules.proofs.CountLaws.{range-first, range_none}
use Rattle.allocation.specs.Search.{clear_bits, start_at, group_bits, bits_from, held, Room, Collected}
use Rattle.allocation.specs.declared.taken.Taken.{Taken}
use Rattle.allocation.proofs.SearchLaws.{take_again, held-count}

-- ---- where the search starts

-- what is past the highest block is no place between
pub start-low : (start end past : ℕ) → past ≤ start → start ≡ start_at start end past
unfolding start_at
start-low start end past l = sym (if-false (ltb start past && ltb past end) past start (rw (le-ltb start past l) refl))

pub start-high : (start end past : ℕ) → end ≤ past → start ≡ start_at start end past
unfolding start_at
start-high start end past l = sym (if-false (ltb start past && ltb past end) past start (rw (le-ltb past end l) (and-false (ltb start past))))

-- it is one
pub start-inside : (start end past : ℕ) → start < past → past < end → past ≡ start_at start end past
unfolding start_at
start-inside start end past l m = sym (if-true (ltb start past && ltb past end) past start (and_intro (ltb start past) (ltb past end) (lt-ltb start past l) (lt-ltb past end m)))

-- ---- groups

-- the number of groups
pub groups_is : (blocks : ℕ) → div_ceil blocks 16384 ≡ allocation_groups blocks
unfolding allocation_groups
groups_is blocks = omega arith

-- a group begins below the end of the store
pub group-start : (blocks g : ℕ) → g < allocation_groups blocks → g * 16384 < blocks
unfolding allocation_groups
group-start blocks g l = omega arith

-- the blocks of two runs, one after the other
pub collected-runs : (want : ℕ) (ys zs ws : List ℕ) (r s : Taken) → Collected want ys zs r → Collected want (held r) ws s → Collected want ys (zs ++ ws) s
collected-runs want ys zs ws r s p q =
    record {
      list = q.list ∙ rw p.list (take_again want (ys ++ zs) ws) ∙ ap (take want) (append_assoc ys zs ws);
      room = q.room;
    }

-- a group's two runs
pub collected-group : (map : List ℕ) (blocks g past want end from : ℕ) (ys : List ℕ) (r s : Taken) → end ≡ min (g * 16384 + 16384) blocks → from ≡ start_at (g * 16384) end past
    → Collected want ys (clear_bits map from end) r → Collected want (held r) (clear_bits map (g * 16384) from) s → Collected want ys (group_bits map blocks past g) s
unfolding group_bits group_start group_end
collected-group map blocks g past want end from ys r s e f p q =
    let h : from ≡ start_at (g * 16384) (min (g * 16384 + 16384) blocks) past = f ∙ ap (λ (x : ℕ). start_at (g * 16384) x past) e in
    rw (← h, ← e) (collected-runs want ys (clear_bits map from end) (clear_bits map (g * 16384) from) r s p q)

-- what the groups from the i-th on still add to what is held makes what they were to give at first
pub record Grouping (map : List ℕ) (blocks hint : ℕ) (past : List ℕ) (want : ℕ) (t : Taken) (i : ℕ) : Type 0 where
  pub inside : i ≤ allocation_groups blocks
  pub room : Room want t
  pub rest : take want (held t ++ bits_from map blocks hint past i) ≡ take want (bits_from map blocks hint past 0)

module _ (map : List ℕ) (blocks hint : ℕ) (past : List ℕ) (want : ℕ) where
  -- at first
  pub grouping-none : (t : Taken) → Room 0 t → Grouping map blocks hint past want t 0
  grouping-none t o =
      let z : t.count ≤ 0 = o.fits in
      let e : t.count ≡ 0 = omega arith in
      record {
        inside = omega arith;
        room = record { fits = omega arith; places = o.places };
        rest = ap (λ (k : ℕ). take want (take k t.blocks ++ bits_from map blocks hint past 0)) e;
      }

  -- the bits of the next group, and those of the groups behind it
  next-group : (i : ℕ) → i < allocation_groups blocks
      → bits_from map blocks hint past i ≡ group_bits map blocks (get_or past ((hint % allocation_groups blocks + i) % allocation_groups blocks) 0) ((hint % allocation_groups blocks + i) % allocation_groups blocks) ++ bits_from map blocks hint past (i + 1)
  unfolding bits_from flat_map
  next-group i l = rw (add-one i, range-first i (allocation_groups blocks) l) refl

  -- one more group
  pub grouping-more : (t r : Taken) (i groups g : ℕ) → Grouping map blocks hint past want t i → groups ≡ allocation_groups blocks → i < groups → g ≡ (hint % groups + i) % groups
      → Collected want (held t) (group_bits map blocks (get_or past g 0) g) r → Grouping map blocks hint past want r (i + 1)
  grouping-more t r i groups g s e l d c =
      let h : g ≡ (hint % allocation_groups blocks + i) % allocation_groups blocks = d ∙ ap (λ (n : ℕ). (hint % n + i) % n) e in
      let bits : List ℕ = group_bits map blocks (get_or past g 0) g in
      let later : List ℕ = bits_from map blocks hint past (i + 1) in
      let n : bits_from map blocks hint past i ≡ bits ++ later = rw h (next-group i (omega arith)) in
      record {
        inside = omega arith;
        room = c.room;
        rest = rw c.list (take_again want (held t ++ bits) later) ∙ ap (take want) (append_assoc (held t) bits later ∙ ap (λ (v : List ℕ). held t ++ v) (sym n)) ∙ s.rest;
      }

  -- as many as wanted
  pub grouping-full : (t : Taken) (i : ℕ) → Grouping map blocks hint past want t i → want ≤ t.count → Collected want [] (bits_from map blocks hint past 0) t
  grouping-full t i s l =
      let f : t.count ≤ want = s.room.fits in
      let e : length (held t) ≡ t.count = held-count t in
      record { list = sym (take_at (held t) (bits_from map blocks hint past i) want (omega arith)) ∙ s.rest; room = s.room }

  -- all groups
  pub grouping-all : (t : Taken) (i groups : ℕ) → Grouping map blocks hint past want t i → groups ≡ allocation_groups blocks → groups ≤ i → Collected want [] (bits_from map blocks hint past 0) t
  grouping-all t i groups s e l =
      let f : t.count ≤ want = s.room.fits in
      let q : length (held t) ≡ t.count = held-count t in
      record {
        list = sym (ap (λ (v : List ℕ). take want (held t ++ v)) nothing ∙ ap (take want) (append-nil (held t)) ∙ take_all want (held t) (omega arith)) ∙ s.rest;
        room = s.room;
      }
    where
      nothing : bits_from map blocks hint past i ≡ []
      nothing = unfold bits_from flat_map in rw (range_none i (allocation_groups blocks - i) (omega arith)) refl
