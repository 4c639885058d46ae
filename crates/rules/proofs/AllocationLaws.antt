-- Laws of `allocate_data` (specs/Allocation): the search visits every block once, and what it gives is distinct, free, untaken and as many as wanted.
-- Assumes nothing.
use mathlib.Core.Path.{◌≡◌, refl, sym, ap, ◌∙◌}
use mathlib.Core.List.{List, [], ◌∷◌, ◌++◌, map, flat_map, get_last?, append-nil, map-append, map-map}
use mathlib.Core.Bool.{Bool, true, false, not, ◌&&◌, ◌||◌}
use mathlib.Core.Option.{Option, none, some, none-ne-some}
use Prim.Native.Nat.{ℕ, zero, suc, ◌+◌, ◌-◌, ◌*◌, ◌/◌, ◌%◌, ◌≤◌, ◌<◌, min}
use native.Mathlib.Nat.{zero-add, mod-lt, mod-eq_of_lt, mod-eq-sub-mod}
use native.Mathlib.Omega.{arith}
use lib.Dec.{eqb, ltb}
use lib.ListN.{length, take, length-take}
use borrow.Author.Tests.{ltb-true, ltb-false, lt-ltb, le-ltb, not-true}
use Rattle.rules.specs.Lists.{pick◌then◌else◌, maybe, range, filter, count, first_given, member, ascending}
use Rattle.rules.specs.Sizes.{group_blocks, most_blocks}
use Rattle.rules.specs.Allocation.{allocation_groups, group_order, group_start, group_end, highest, cursor, searched, available, found, sorted, found_first, too_few, run_in, first_run, allocate_data, hint_after}
use Rattle.rules.proofs.ListLaws.{test-cases, clash, member-append, maybe-some, maybe-cases, if-cases, and_left, and_right, and_intro, order-cases, length-range, all-range-at, range-add, Each, each-any, each_weaken, each_map, map_each}
use Rattle.rules.proofs.CountLaws.{same_test, filter-each, count-filter, flat_map-append, flat_map-each, count-flat_map, count-swap, member-count, member_filter, member-take, member-last, each_member, member-each, member-range-of, each-range, member-range-in, member-range, Once, once-range, once-filter, once-take, count-member, count-weaken, ascending-filter, ascending-range, range_split, last-most, last_none, member-nil, range_front, range_none, map_range}
use Rattle.rules.proofs.RunLaws.{FirstAt, first-none, first-is, first-at, first-no, NoRun, LowestRun, run-right, run_only, run_none, run-no, run-same}

-- ---- groups

-- the order of the groups, in two runs: from the hint on, then around
pub group_order-runs : (groups hint : ℕ) → 0 < groups → group_order groups hint ≡ range (hint % groups) (groups - hint % groups) ++ range 0 (hint % groups)
unfolding group_order
group_order-runs groups hint l =
    let r : ℕ = hint % groups in
    let h : hint % groups < groups = mod-lt hint l in
    let e : range 0 groups ≡ range 0 (groups - r) ++ range (0 + (groups - r)) r = ap (range 0) (omega arith) ∙ range-add 0 (groups - r) r in
    let f : ℕ → ℕ = λ i. (r + i) % groups in
    ap (map f) e ∙ map-append f (range 0 (groups - r)) (range (0 + (groups - r)) r)
    ∙ rw (map_range f 0 r (groups - r) (λ i m. mod-eq_of_lt {n = r + (0 + i)} {m = groups} (omega arith) ∙ ap (λ (x : ℕ). r + x) (zero-add i)), around groups r h) refl
  where
    around : (n r : ℕ) → r < n → map (λ i. (r + i) % n) (range (0 + (n - r)) r) ≡ range 0 r
    around n r h =
        map_range (λ i. (r + i) % n) (0 + (n - r)) 0 r
        (λ i m. mod-eq-sub-mod {n = r + (0 + (n - r) + i)} {m = n} (omega arith) ∙ ap (λ (x : ℕ). x % n) (omega arith) ∙ mod-eq_of_lt {n = 0 + i} {m = n} (omega arith))

-- the search visits only groups of the store
pub each-group_order : (groups hint : ℕ) → Each (λ g. g < groups) (group_order groups hint)
unfolding group_order
each-group_order groups hint = each_map (λ i. (hint % groups + i) % groups) (each_weaken (λ i h. mod-lt (hint % groups + i) (omega arith)) (each-range 0 groups))

-- a group below the number of groups begins below the number of blocks
pub group-begins : (blocks g : ℕ) → g < allocation_groups blocks → group_start g < blocks
unfolding allocation_groups group_start
group-begins blocks g l = omega arith

-- each group of the store has its turn
turn-of : (blocks hint g : ℕ) → g < allocation_groups blocks → (i : ℕ) × (i < allocation_groups blocks) × ((hint % allocation_groups blocks + i) % allocation_groups blocks ≡ g)
turn-of blocks hint g l =
    let n : ℕ = allocation_groups blocks in
    let r : ℕ = hint % n in
    let h : r < n = mod-lt hint (omega arith) in
    order-cases ((i : ℕ) × (i < n) × ((r + i) % n ≡ g)) g r
    (λ m. (n - r + g, omega arith, mod-eq-sub-mod {n = r + (n - r + g)} {m = n} (omega arith) ∙ ap (λ (x : ℕ). x % n) (omega arith) ∙ mod-eq_of_lt {n = g} {m = n} l))
    (λ e. (0, omega arith, ap (λ (x : ℕ). x % n) (omega arith) ∙ mod-eq_of_lt {n = g} {m = n} l))
    (λ m. (g - r, omega arith, ap (λ (x : ℕ). x % n) (omega arith) ∙ mod-eq_of_lt {n = g} {m = n} l))

-- a block lies in a group of the store
pub group_of : (blocks b : ℕ) → b < blocks → b / group_blocks < allocation_groups blocks
unfolding allocation_groups
group_of blocks b l = omega arith

-- a store has at most four groups
pub groups-four : (blocks : ℕ) → blocks ≤ most_blocks → allocation_groups blocks ≤ 4
unfolding allocation_groups
groups-four blocks l = omega arith

-- the blocks of a group
abbrev group_range : ℕ → ℕ → List ℕ
group_range blocks g = range (group_start g) (group_end blocks g - group_start g)

-- the groups below one more
one : (k : ℕ) → range 0 (suc k) ≡ range 0 k ++ (k ∷ [])
one k = ap (range 0) (omega arith) ∙ range-add 0 k 1 ∙ ap (λ (t : List ℕ). range 0 k ++ t) (unfold range in ap (λ (x : ℕ). x ∷ []) (zero-add k))

-- the first groups hold the first blocks
groups-cover : (blocks k : ℕ) → flat_map (group_range blocks) (range 0 k) ≡ range 0 (min (k * group_blocks) blocks)
unfolding range flat_map group_start group_end
groups-cover blocks zero = sym (range_none 0 (min (0 * group_blocks) blocks) (omega arith))
groups-cover blocks (suc k) =
    let s : ℕ = k * group_blocks in
    let c : ℕ = min s blocks in
    let e : ℕ = min (suc k * group_blocks) blocks in
    let last : range s (min (s + group_blocks) blocks - s) ≡ range c (e - c) =
    test-cases (range s (min (s + group_blocks) blocks - s) ≡ range c (e - c)) (ltb blocks s)
    (λ t. let l : blocks < s = ltb-true blocks s t in
    range_none s (min (s + group_blocks) blocks - s) (omega arith) ∙ sym (range_none c (e - c) (omega arith)))
    (λ t. let l : s ≤ blocks = ltb-false blocks s t in
    let q : s ≡ c = omega arith in
    let m : min (s + group_blocks) blocks - s ≡ e - c = omega arith in
    ap (λ (x : ℕ). range x (min (s + group_blocks) blocks - s)) q ∙ ap (range c) m) in
    ap (flat_map (group_range blocks)) (one k) ∙ flat_map-append (group_range blocks) (range 0 k) (k ∷ [])
    ∙ rw (groups-cover blocks k, append-nil (group_range blocks k)) (ap (λ (t : List ℕ). range 0 c ++ t) last ∙ sym (range_front c e (omega arith)))

-- ---- the cursor

-- the highest block taken in a group lies in it, and was taken
pub highest-in : (blocks : ℕ) (taken : List ℕ) (g b : ℕ) → highest blocks taken g ≡ some b → (group_start g ≤ b) × (b < group_end blocks g) × (member b taken ≡ true)
unfolding highest
highest-in blocks taken g b h =
    let m : (member b taken && member b (group_range blocks g)) ≡ true = sym (member_filter b (λ x. member x taken) (group_range blocks g)) ∙ member-last b (filter (λ x. member x taken) (group_range blocks g)) h in
    let r : (group_start g ≤ b) × (b < group_start g + (group_end blocks g - group_start g)) = member-range-in b (group_start g) (group_end blocks g - group_start g) (and_right (member b taken) (member b (group_range blocks g)) m) in
    (omega arith, omega arith, and_left (member b taken) (member b (group_range blocks g)) m)

-- a taken block of a group is one of those among which the highest is
taken_in : (blocks : ℕ) (taken : List ℕ) (g b : ℕ) → group_start g ≤ b → b < group_end blocks g → member b taken ≡ true → member b (filter (λ x. member x taken) (group_range blocks g)) ≡ true
taken_in blocks taken g b p q m =
    member_filter b (λ x. member x taken) (group_range blocks g)
    ∙ and_intro (member b taken) (member b (group_range blocks g)) m (member-range-of b (group_start g) (group_end blocks g - group_start g) p (omega arith))

-- a taken block of a group is at most the highest
pub highest-le : (blocks : ℕ) (taken : List ℕ) (g h b : ℕ) → highest blocks taken g ≡ some h → group_start g ≤ b → b < group_end blocks g → member b taken ≡ true → b ≤ h
unfolding highest
highest-le blocks taken g h b e p q m =
    let taker : ℕ → Bool = λ x. member x taken in
    last-most (filter taker (group_range blocks g)) h b (ascending-filter taker (group_start g) (group_end blocks g - group_start g)) e (taken_in blocks taken g b p q m)

-- no block of a group was taken where none is the highest
pub highest-none : (blocks : ℕ) (taken : List ℕ) (g b : ℕ) → highest blocks taken g ≡ none → group_start g ≤ b → b < group_end blocks g → member b taken ≡ false
unfolding highest
highest-none blocks taken g b e p q =
    let xs : List ℕ = filter (λ x. member x taken) (group_range blocks g) in
    test-cases (member b taken ≡ false) (member b taken)
    (λ m. absurd (clash (ap (member b) (last_none xs e) ∙ member-nil b) (taken_in blocks taken g b p q m))) (λ m. m)

-- a taken block of a group that is at least every other is the highest
pub highest-of : (blocks : ℕ) (taken : List ℕ) (g h : ℕ) → group_start g ≤ h → h < group_end blocks g → member h taken ≡ true
    → ((b : ℕ) → group_start g ≤ b → b < group_end blocks g → member b taken ≡ true → b ≤ h) → highest blocks taken g ≡ some h
highest-of blocks taken g h p q m most = go (highest blocks taken g) refl
  where
    go : (o : Option ℕ) → highest blocks taken g ≡ o → highest blocks taken g ≡ some h
    go none e = absurd (clash (highest-none blocks taken g h e p q) m)
    go (some x) e =
        let i : (group_start g ≤ x) × (x < group_end blocks g) × (member x taken ≡ true) = highest-in blocks taken g x e in
        let l : h ≤ x = highest-le blocks taken g x h e p q m in
        let k : x ≤ h = most x i.0 i.1 i.2 in
        let d : x ≡ h = omega arith in
        e ∙ ap (λ (y : ℕ). some y) d

-- no block is the highest where none of the group was taken
pub highest-no : (blocks : ℕ) (taken : List ℕ) (g : ℕ) → ((b : ℕ) → group_start g ≤ b → b < group_end blocks g → member b taken ≡ false) → highest blocks taken g ≡ none
highest-no blocks taken g h = go (highest blocks taken g) refl
  where
    go : (o : Option ℕ) → highest blocks taken g ≡ o → highest blocks taken g ≡ none
    go none e = e
    go (some x) e =
        let i : (group_start g ≤ x) × (x < group_end blocks g) × (member x taken ≡ true) = highest-in blocks taken g x e in
        absurd (clash (h x i.0 i.1) i.2)

-- the search in a group starts in it
pub cursor-in : (blocks : ℕ) (taken : List ℕ) (g : ℕ) → (group_start g ≤ cursor blocks taken g) × (cursor blocks taken g - group_start g ≤ group_end blocks g - group_start g)
unfolding cursor
cursor-in blocks taken g =
    let P : ℕ → Type 0 = λ c. (group_start g ≤ c) × (c - group_start g ≤ group_end blocks g - group_start g) in
    maybe-cases P (group_start g) (λ b. pick eqb (suc b) (group_end blocks g) then group_start g else suc b) (highest blocks taken g)
    (λ e. omega arith)
    (λ b e. let h = highest-in blocks taken g b e in
    if-cases P (eqb (suc b) (group_end blocks g)) (group_start g) (suc b) (λ q. omega arith) (λ q. omega arith))

-- the search in a group visits each of its blocks once
pub searched-count : (f : ℕ → Bool) (blocks : ℕ) (taken : List ℕ) (g : ℕ) → count f (searched blocks taken g) ≡ count f (group_range blocks g)
unfolding searched
searched-count f blocks taken g =
    let s : ℕ = group_start g in
    let e : ℕ = group_end blocks g in
    let c : ℕ = cursor blocks taken g in
    let h : (group_start g ≤ cursor blocks taken g) × (cursor blocks taken g - group_start g ≤ group_end blocks g - group_start g) = cursor-in blocks taken g in
    let q : range s (e - s) ≡ range s (c - s) ++ range c (e - c) = range_split s c e h.0 h.1 in
    count-swap f (range c (e - c)) (range s (c - s)) ∙ ap (count f) (sym q)

-- ---- the search

-- the blocks in the order in which the search visits them
abbrev pub visited : ℕ → ℕ → List ℕ → List ℕ
visited blocks hint taken = flat_map (searched blocks taken) (group_order (allocation_groups blocks) hint)

-- all groups hold all blocks
groups-whole : (blocks : ℕ) → flat_map (group_range blocks) (range 0 (allocation_groups blocks)) ≡ range 0 blocks
groups-whole blocks = groups-cover blocks (allocation_groups blocks) ∙ ap (range 0) (unfold allocation_groups in omega arith)

-- the order of the groups visits each of them once
cyclic : (f : ℕ → Bool) (R : ℕ → List ℕ) (groups hint : ℕ) → count f (flat_map R (group_order groups hint)) ≡ count f (flat_map R (range 0 groups))
cyclic f R zero hint = unfold group_order range in refl
cyclic f R (suc n) hint =
    let groups : ℕ = suc n in
    let r : ℕ = hint % groups in
    let h : hint % groups < groups = mod-lt hint (omega arith) in
    ap (λ (t : List ℕ). count f (flat_map R t)) (group_order-runs groups hint (omega arith))
    ∙ ap (count f) (flat_map-append R (range r (groups - r)) (range 0 r))
    ∙ count-swap f (flat_map R (range r (groups - r))) (flat_map R (range 0 r))
    ∙ ap (count f) (sym (flat_map-append R (range 0 r) (range r (groups - r))))
    ∙ ap (λ (t : List ℕ). count f (flat_map R t)) (sym (range_front r groups (omega arith)))

-- the search visits each block of the store once: what passes a test is passed as often as among all blocks
pub visited-count : (f : ℕ → Bool) (blocks hint : ℕ) (taken : List ℕ) → count f (visited blocks hint taken) ≡ count f (range 0 blocks)
visited-count f blocks hint taken =
    count-flat_map f (searched blocks taken) (group_range blocks) (each-any (searched-count f blocks taken) (group_order (allocation_groups blocks) hint))
    ∙ cyclic f (group_range blocks) (allocation_groups blocks) hint
    ∙ ap (count f) (groups-whole blocks)

-- the search visits blocks of the store only
pub visited-below : (blocks hint : ℕ) (taken : List ℕ) → Each (λ b. b < blocks) (visited blocks hint taken)
visited-below blocks hint taken =
    each_member (λ b. b < blocks) (visited blocks hint taken)
    (λ b m. ltb-true b blocks (sym (member-range b blocks) ∙ member-count b (range 0 blocks) ∙ ap (ltb 0) (sym (visited-count (eqb b) blocks hint taken)) ∙ sym (member-count b (visited blocks hint taken)) ∙ m))

-- the available blocks are found each once: what passes a test is found as often as it is available
pub found-count : (f : ℕ → Bool) (blocks : ℕ) (used : ℕ → Bool) (hint : ℕ) (taken : List ℕ) → count f (found blocks used hint taken) ≡ count f (filter (available used taken) (range 0 blocks))
unfolding found
found-count f blocks used hint taken =
    let free : ℕ → Bool = available used taken in
    count-filter f free (visited blocks hint taken) ∙ visited-count (λ b. free b && f b) blocks hint taken ∙ sym (count-filter f free (range 0 blocks))

-- as many are found as are available
pub length_found : (blocks : ℕ) (used : ℕ → Bool) (hint : ℕ) (taken : List ℕ) → length (found blocks used hint taken) ≡ length (filter (available used taken) (range 0 blocks))
unfolding found
length_found blocks used hint taken = (unfold count in visited-count (available used taken) blocks hint taken)

-- the blocks that are found are those of the store that are available
pub member-found : (b blocks : ℕ) (used : ℕ → Bool) (hint : ℕ) (taken : List ℕ) → member b (found blocks used hint taken) ≡ (available used taken b && ltb b blocks)
member-found b blocks used hint taken =
    member-count b (found blocks used hint taken)
    ∙ ap (ltb 0) (found-count (eqb b) blocks used hint taken)
    ∙ sym (member-count b (filter (available used taken) (range 0 blocks)))
    ∙ member_filter b (available used taken) (range 0 blocks)
    ∙ ap (λ (t : Bool). available used taken b && t) (member-range b blocks)

-- no block is found twice
pub found-once : (blocks : ℕ) (used : ℕ → Bool) (hint : ℕ) (taken : List ℕ) → Once (found blocks used hint taken)
found-once blocks used hint taken b =
    rw (found-count (eqb b) blocks used hint taken) (once-filter (available used taken) (range 0 blocks) (once-range 0 blocks) b)

-- ---- available blocks

-- a block is available where it is neither used nor taken
pub available-not : (used : ℕ → Bool) (taken : List ℕ) (b : ℕ) → available used taken b ≡ not (used b || member b taken)
unfolding available
available-not used taken b = test-cases ((not (used b) && not (member b taken)) ≡ not (used b || member b taken)) (used b) (λ e. rw e refl) (λ e. rw e refl)

-- an available block is not used
pub available-free : (used : ℕ → Bool) (taken : List ℕ) (b : ℕ) → available used taken b ≡ true → used b ≡ false
unfolding available
available-free used taken b h = not-true (used b) (and_left (not (used b)) (not (member b taken)) h)

-- nor taken
pub available-untaken : (used : ℕ → Bool) (taken : List ℕ) (b : ℕ) → available used taken b ≡ true → member b taken ≡ false
unfolding available
available-untaken used taken b h = not-true (member b taken) (and_right (not (used b)) (not (member b taken)) h)

-- after more are taken those are available that are not among them
pub available-more : (used : ℕ → Bool) (taken new : List ℕ) (b : ℕ) → available used (taken ++ new) b ≡ (available used taken b && not (member b new))
unfolding available
available-more used taken new b =
    let u : Bool = used b in
    rw (member-append b taken new)
    (test-cases ((not (used b) && not (member b taken || member b new)) ≡ (not (used b) && not (member b taken) && not (member b new))) (used b) (λ e. rw e refl)
    (λ e. test-cases ((not (used b) && not (member b taken || member b new)) ≡ (not (used b) && not (member b taken) && not (member b new))) (member b taken)
    (λ m. rw (e, m) refl) (λ m. rw (e, m) refl)))

-- ---- the blocks given

-- blocks in ascending order are those of the store among them
pub member-sorted : (b blocks : ℕ) (bs : List ℕ) → member b (sorted blocks bs) ≡ (member b bs && ltb b blocks)
unfolding sorted
member-sorted b blocks bs = member_filter b (λ x. member x bs) (range 0 blocks) ∙ ap (λ (t : Bool). member b bs && t) (member-range b blocks)

-- they ascend
pub ascending-sorted : (blocks : ℕ) (bs : List ℕ) → ascending ltb (sorted blocks bs) ≡ true
unfolding sorted
ascending-sorted blocks bs = ascending-filter (λ b. member b bs) 0 blocks

-- and are as many, where none of them stands twice
pub length-sorted : (blocks : ℕ) (bs : List ℕ) → Once bs → Each (λ b. b < blocks) bs → length (sorted blocks bs) ≡ length bs
unfolding sorted
length-sorted blocks bs h l = unfold count in count-member blocks bs h l

-- each block that is found first is one of the store, and available
pub member-first-found : (b blocks : ℕ) (used : ℕ → Bool) (hint : ℕ) (taken : List ℕ) (n : ℕ) → member b (take n (found blocks used hint taken)) ≡ true → (b < blocks) × (available used taken b ≡ true)
member-first-found b blocks used hint taken n m =
    let h : (available used taken b && ltb b blocks) ≡ true = sym (member-found b blocks used hint taken) ∙ member-take b n (found blocks used hint taken) m in
    (ltb-true b blocks (and_right (available used taken b) (ltb b blocks) h), and_left (available used taken b) (ltb b blocks) h)

-- those that are found first are given where no run is long enough
member-found_first : (b blocks : ℕ) (used : ℕ → Bool) (hint : ℕ) (taken : List ℕ) (n : ℕ) → member b (found_first blocks used hint taken n) ≡ member b (take n (found blocks used hint taken))
unfolding found_first
member-found_first b blocks used hint taken n =
    let bs : List ℕ = take n (found blocks used hint taken) in
    member-sorted b blocks bs
    ∙ same_test (member b bs && ltb b blocks) (member b bs) (λ h. and_left (member b bs) (ltb b blocks) h)
    (λ m. and_intro (member b bs) (ltb b blocks) m (lt-ltb b blocks (member-first-found b blocks used hint taken n m).0))

-- each is a block of the store that was neither used nor taken
each-found_first : (blocks : ℕ) (used : ℕ → Bool) (hint : ℕ) (taken : List ℕ) (n : ℕ) → Each (λ b. (b < blocks) × (used b ≡ false) × (member b taken ≡ false)) (found_first blocks used hint taken n)
each-found_first blocks used hint taken n =
    each_member (λ b. (b < blocks) × (used b ≡ false) × (member b taken ≡ false)) (found_first blocks used hint taken n)
    (λ b m. let h : (b < blocks) × (available used taken b ≡ true) = member-first-found b blocks used hint taken n (sym (member-found_first b blocks used hint taken n) ∙ m) in
    (h.0, available-free used taken b h.1, available-untaken used taken b h.1))

-- they are as many as wanted, or all that are available where these are fewer
length-found_first : (blocks : ℕ) (used : ℕ → Bool) (hint : ℕ) (taken : List ℕ) (n : ℕ) → length (found_first blocks used hint taken n) ≡ min n (length (found blocks used hint taken))
unfolding found_first
length-found_first blocks used hint taken n =
    let bs : List ℕ = take n (found blocks used hint taken) in
    length-sorted blocks bs (once-take n (found blocks used hint taken) (found-once blocks used hint taken))
    (each_member (λ b. b < blocks) bs (λ b m. (member-first-found b blocks used hint taken n m).0))
    ∙ length-take n (found blocks used hint taken)

-- ---- the first run

-- the group that is searched in its turn
abbrev pub group_at : ℕ → ℕ → ℕ → ℕ
group_at blocks hint i = (hint % allocation_groups blocks + i) % allocation_groups blocks

-- there is one at each turn
group-turn : (blocks hint i : ℕ) → i < allocation_groups blocks → group_at blocks hint i < allocation_groups blocks
group-turn blocks hint i l = mod-lt (hint % allocation_groups blocks + i) (omega arith)

-- it does not end before it begins
group-width : (blocks g : ℕ) → g < allocation_groups blocks → group_start g ≤ group_end blocks g
group-width blocks g l = let b : group_start g < blocks = group-begins blocks g l in unfold group_end in omega arith

-- Document 02's words on it: at its turn, counted from the hint, the group of block b has a run of n free blocks or more, b is the first block of
-- the lowest of them, and no group whose turn was before has any.
pub record FirstRun (blocks : ℕ) (free : ℕ → Bool) (n hint b : ℕ) : Type 0 where
  pub turn : ℕ
  pub inside : turn < allocation_groups blocks
  pub earlier : (i : ℕ) → i < turn → NoRun blocks free n (group_at blocks hint i)
  pub here : LowestRun blocks free n (group_at blocks hint turn) b

module _ (blocks : ℕ) (free : ℕ → Bool) (n hint : ℕ) where
  -- the first run, by turns
  run-turns : first_run blocks free n hint ≡ first_given (map (λ i. run_in blocks free n (group_at blocks hint i)) (range 0 (allocation_groups blocks)))
  unfolding first_run group_order
  run-turns = ap first_given (map-map (run_in blocks free n) (group_at blocks hint) (range 0 (allocation_groups blocks)))

  -- it is as the words say
  pub first_run-right : (b : ℕ) → first_run blocks free n hint ≡ some b → FirstRun blocks free n hint b
  first_run-right b e =
      let turns : ℕ → Option ℕ = λ i. run_in blocks free n (group_at blocks hint i) in
      let s : FirstAt turns 0 (allocation_groups blocks) b = first-at turns 0 (allocation_groups blocks) b (sym run-turns ∙ e) in
      let l : s.turn < allocation_groups blocks = s.inside in
      let wide : (i : ℕ) → i < allocation_groups blocks → group_start (group_at blocks hint i) ≤ group_end blocks (group_at blocks hint i) = λ i m. group-width blocks (group_at blocks hint i) (group-turn blocks hint i m) in
      record {
        turn = s.turn;
        inside = l;
        earlier = λ i m. run_none blocks free n (group_at blocks hint i) (wide i (omega arith)) (ap turns (sym (zero-add i)) ∙ s.earlier i m);
        here = run-right blocks free n (group_at blocks hint s.turn) (wide s.turn l) b (ap turns (sym (zero-add s.turn)) ∙ s.here);
      }

  -- it is the run of the first group that has one
  pub first_run-turn : (i b : ℕ) → i < allocation_groups blocks → run_in blocks free n (group_at blocks hint i) ≡ some b → ((j : ℕ) → j < i → run_in blocks free n (group_at blocks hint j) ≡ none) → first_run blocks free n hint ≡ some b
  first_run-turn i b l e h =
      let turns : ℕ → Option ℕ = λ k. run_in blocks free n (group_at blocks hint k) in
      run-turns ∙ first-is turns 0 (allocation_groups blocks) i b l (ap turns (zero-add i) ∙ e) (λ j m. ap turns (zero-add j) ∙ h j m)

  -- and none where none has
  pub first_run-turns : ((i : ℕ) → i < allocation_groups blocks → run_in blocks free n (group_at blocks hint i) ≡ none) → first_run blocks free n hint ≡ none
  first_run-turns h =
      let turns : ℕ → Option ℕ = λ k. run_in blocks free n (group_at blocks hint k) in
      run-turns ∙ first-none turns 0 (allocation_groups blocks) (λ i l. ap turns (zero-add i) ∙ h i l)

  -- a group's width, at its turn
  turn-width : (i : ℕ) → i < allocation_groups blocks → group_start (group_at blocks hint i) ≤ group_end blocks (group_at blocks hint i)
  turn-width i l = group-width blocks (group_at blocks hint i) (group-turn blocks hint i l)

  -- no other run is as the words say
  pub first_run-only : (b : ℕ) → FirstRun blocks free n hint b → first_run blocks free n hint ≡ some b
  first_run-only b r =
      let l : r.turn < allocation_groups blocks = r.inside in
      first_run-turn r.turn b l (run_only blocks free n (group_at blocks hint r.turn) (turn-width r.turn l) b r.here)
      (λ j m. run-no blocks free n (group_at blocks hint j) (turn-width j (omega arith)) (r.earlier j m))

  -- where there is none no group has one
  pub first_run-none : first_run blocks free n hint ≡ none → (g : ℕ) → g < allocation_groups blocks → NoRun blocks free n g
  first_run-none e g l =
      let turns : ℕ → Option ℕ = λ i. run_in blocks free n (group_at blocks hint i) in
      let i : (i : ℕ) × (i < allocation_groups blocks) × (group_at blocks hint i ≡ g) = turn-of blocks hint g l in
      run_none blocks free n g (group-width blocks g l)
      (ap (run_in blocks free n) (sym i.2) ∙ ap turns (sym (zero-add i.0)) ∙ first-no turns 0 (allocation_groups blocks) (sym run-turns ∙ e) i.0 i.1)

  -- and where no group has one there is none
  pub first_run-no : ((g : ℕ) → g < allocation_groups blocks → NoRun blocks free n g) → first_run blocks free n hint ≡ none
  first_run-no h = first_run-turns (λ i l. run-no blocks free n (group_at blocks hint i) (turn-width i l) (h (group_at blocks hint i) (group-turn blocks hint i l)))

  -- it ends in the store
  pub first_run-within : (b : ℕ) → first_run blocks free n hint ≡ some b → b + n ≤ blocks
  first_run-within b e =
      let r : FirstRun blocks free n hint b = first_run-right b e in
      let h : b + n ≤ group_end blocks (group_at blocks hint r.turn) = r.here.high in
      let m : group_end blocks (group_at blocks hint r.turn) ≤ blocks = unfold group_end in omega arith in
      omega arith

  -- it is the same where the same blocks of the store are free
  pub first_run-same : (also : ℕ → Bool) → ((b : ℕ) → b < blocks → free b ≡ also b) → first_run blocks free n hint ≡ first_run blocks also n hint
  unfolding first_run
  first_run-same also h =
      ap first_given
      (map_each (run_in blocks free n) (run_in blocks also n)
      (each_weaken (λ g l. run-same blocks free n g (group-width blocks g l) also h) (each-group_order (allocation_groups blocks) hint)))

  -- its blocks are free blocks of the store
  run-free : (b : ℕ) → first_run blocks free n hint ≡ some b → Each (λ x. (x < blocks) × (free x ≡ true)) (range b n)
  run-free b e =
      let h : b + n ≤ blocks = first_run-within b e in
      each_weaken {P = λ x. (b ≤ x) × (x < b + n)}
      (λ x q. (omega arith, ap free (omega arith) ∙ all-range-at free b n (first_run-right b e).here.run (x - b) (omega arith))) (each-range b n)

-- ---- the blocks given

-- each is a block of the store that was neither used nor taken
pub each-allocate_data : (blocks : ℕ) (used : ℕ → Bool) (hint : ℕ) (taken : List ℕ) (n : ℕ) → Each (λ b. (b < blocks) × (used b ≡ false) × (member b taken ≡ false)) (allocate_data blocks used hint taken n)
unfolding allocate_data
each-allocate_data blocks used hint taken n =
    maybe-cases (Each (λ b. (b < blocks) × (used b ≡ false) × (member b taken ≡ false))) (found_first blocks used hint taken n) (λ b. range b n) (first_run blocks (available used taken) n hint)
    (λ e. each-found_first blocks used hint taken n)
    (λ b e. each_weaken (λ x h. (h.0, available-free used taken x h.1, available-untaken used taken x h.1)) (run-free blocks (available used taken) n hint b e))

-- they ascend
pub ascending-allocate_data : (blocks : ℕ) (used : ℕ → Bool) (hint : ℕ) (taken : List ℕ) (n : ℕ) → ascending ltb (allocate_data blocks used hint taken n) ≡ true
unfolding allocate_data
ascending-allocate_data blocks used hint taken n =
    maybe-cases (λ bs. ascending ltb bs ≡ true) (found_first blocks used hint taken n) (λ b. range b n) (first_run blocks (available used taken) n hint)
    (λ e. unfold found_first in ascending-sorted blocks (take n (found blocks used hint taken))) (λ b e. ascending-range b n)

-- a unit is refused where fewer blocks are found than it wants
pub too_few-found : (blocks : ℕ) (used : ℕ → Bool) (hint : ℕ) (taken : List ℕ) (n : ℕ) → too_few blocks used taken n ≡ ltb (length (found blocks used hint taken)) n
unfolding too_few
too_few-found blocks used hint taken n = ap (λ (k : ℕ). ltb k n) (sym (length_found blocks used hint taken))

-- a unit that is not refused is given exactly as many as it wants
pub length-allocate_data : (blocks : ℕ) (used : ℕ → Bool) (hint : ℕ) (taken : List ℕ) (n : ℕ) → too_few blocks used taken n ≡ false → length (allocate_data blocks used hint taken n) ≡ n
unfolding allocate_data
length-allocate_data blocks used hint taken n h =
    let l : n ≤ length (found blocks used hint taken) = ltb-false (length (found blocks used hint taken)) n (sym (too_few-found blocks used hint taken n) ∙ h) in
    maybe-cases (λ bs. length bs ≡ n) (found_first blocks used hint taken n) (λ b. range b n) (first_run blocks (available used taken) n hint)
    (λ e. length-found_first blocks used hint taken n ∙ omega arith) (λ b e. length-range b n)

-- a unit for which there is a run is not refused: its blocks are available
run-enough : (blocks : ℕ) (used : ℕ → Bool) (hint : ℕ) (taken : List ℕ) (n b : ℕ) → first_run blocks (available used taken) n hint ≡ some b → too_few blocks used taken n ≡ false
unfolding too_few count
run-enough blocks used hint taken n b e =
    let h : Each (λ x. (x < blocks) × (available used taken x ≡ true)) (range b n) = run-free blocks (available used taken) n hint b e in
    let c : count (λ x. member x (range b n)) (range 0 blocks) ≡ length (range b n) = count-member blocks (range b n) (once-range b n) (each_weaken (λ x q. q.0) h) in
    let d : length (range b n) ≡ n = length-range b n in
    let m : count (λ x. member x (range b n)) (range 0 blocks) ≤ count (available used taken) (range 0 blocks) =
    count-weaken (λ x. member x (range b n)) (available used taken) (λ x q. (member-each (λ x. (x < blocks) × (available used taken x ≡ true)) h x q).1) (range 0 blocks) in
    le-ltb (count (available used taken) (range 0 blocks)) n (omega arith)

-- a unit is refused exactly where it would be given fewer than it wants
pub too_few-allocate_data : (blocks : ℕ) (used : ℕ → Bool) (hint : ℕ) (taken : List ℕ) (n : ℕ) → too_few blocks used taken n ≡ ltb (length (allocate_data blocks used hint taken n)) n
unfolding allocate_data
too_few-allocate_data blocks used hint taken n =
    maybe-cases (λ bs. too_few blocks used taken n ≡ ltb (length bs) n) (found_first blocks used hint taken n) (λ b. range b n) (first_run blocks (available used taken) n hint)
    (λ e. too_few-found blocks used hint taken n ∙ fewer)
    (λ b e. let d : length (range b n) ≡ n = length-range b n in run-enough blocks used hint taken n b e ∙ sym (le-ltb (length (range b n)) n (omega arith)))
  where
    fewer : ltb (length (found blocks used hint taken)) n ≡ ltb (length (found_first blocks used hint taken n)) n
    fewer =
        let k : ℕ = length (found blocks used hint taken) in
        let j : ℕ = length (found_first blocks used hint taken n) in
        let e : length (found_first blocks used hint taken n) ≡ min n (length (found blocks used hint taken)) = length-found_first blocks used hint taken n in
        same_test (ltb k n) (ltb j n)
        (λ t. let l : length (found blocks used hint taken) < n = ltb-true k n t in lt-ltb j n (omega arith))
        (λ t. let l : length (found_first blocks used hint taken n) < n = ltb-true j n t in lt-ltb k n (omega arith))

-- ---- the hint

-- where blocks were given, the hint becomes the group of the last
pub hint_after-last : (hint : ℕ) (new : List ℕ) (b : ℕ) → get_last? new ≡ some b → hint_after hint new ≡ b / group_blocks
unfolding hint_after
hint_after-last hint new b e = maybe-some hint (λ x. x / group_blocks) (get_last? new) b e

-- where none was given it stays
pub hint_after-none : (hint : ℕ) → hint_after hint [] ≡ hint
unfolding hint_after maybe
hint_after-none hint = refl

-- it names a group of the store where blocks of the store were given
pub hint_after-lt : (blocks hint : ℕ) (new : List ℕ) → Each (λ b. b < blocks) new → 0 < length new → hint_after hint new < allocation_groups blocks
unfolding hint_after
hint_after-lt blocks hint new h l =
    maybe-cases (λ x. x < allocation_groups blocks) hint (λ x. x / group_blocks) (get_last? new)
    (λ e. absurd (some-last new l e))
    (λ b e. group_of blocks b (member-each (λ x. x < blocks) h b (member-last b new e)))
  where
    some-last : (xs : List ℕ) → 0 < length xs → get_last? xs ≡ none → ⊥
    some-last [] l e = omega arith
    some-last (x ∷ []) l e = none-ne-some x (sym e)
    some-last (x ∷ y ∷ ys) l e = none-ne-some _ (sym e)

-- ---- what the search has to know

-- the search in a group, by where it starts
pub searched-from : (blocks : ℕ) (taken : List ℕ) (g c : ℕ) → c ≡ cursor blocks taken g → searched blocks taken g ≡ range c (group_end blocks g - c) ++ range (group_start g) (c - group_start g)
unfolding searched
searched-from blocks taken g c e = rw e refl

-- the search in a group is the same where the highest block taken in it is
pub searched-same : (blocks : ℕ) (taken taken' : List ℕ) (g : ℕ) → highest blocks taken g ≡ highest blocks taken' g → searched blocks taken g ≡ searched blocks taken' g
unfolding searched cursor
searched-same blocks taken taken' g e = rw e refl

-- The search depends on the blocks taken only through which are available and where each group's search starts: a test that says which blocks
-- are used or taken, and the cursor of each group, find the same blocks in the same order.
pub same-found : (blocks : ℕ) (used : ℕ → Bool) (hint : ℕ) (taken : List ℕ) (used' : ℕ → Bool) (from : ℕ → ℕ)
    → ((b : ℕ) → b < blocks → used' b ≡ (used b || member b taken)) → ((g : ℕ) → g < allocation_groups blocks → from g ≡ cursor blocks taken g)
    → found blocks used hint taken ≡ filter (λ b. not (used' b)) (flat_map (λ g. range (from g) (group_end blocks g - from g) ++ range (group_start g) (from g - group_start g)) (group_order (allocation_groups blocks) hint))
unfolding found
same-found blocks used hint taken used' from h c =
    let ring : ℕ → List ℕ = λ g. range (from g) (group_end blocks g - from g) ++ range (group_start g) (from g - group_start g) in
    filter-each (available used taken) (λ b. not (used' b)) (each_weaken (λ b l. available-not used taken b ∙ ap not (sym (h b l))) (visited-below blocks hint taken))
    ∙ ap (filter (λ b. not (used' b))) (flat_map-each (searched blocks taken) ring (each_weaken (λ g l. searched-from blocks taken g (from g) (c g l)) (each-group_order (allocation_groups blocks) hint)))
