-- What the code chooses is what the rules allocate: the first run of clear bits is that of the blocks that are free and not taken, the bits in the order
-- of the search are the blocks found, and those collected are the first of them, ascending.
-- Assumes nothing.
use mathlib.Core.Path.{◌≡◌, refl, sym, ap, ◌∙◌}
use mathlib.Core.List.{List, [], ◌∷◌, ◌++◌, map, flat_map}
use mathlib.Core.Bool.{Bool, true, false, not, ◌&&◌, ◌||◌, or_assoc, or-false}
use mathlib.Core.Option.{Option, none, some}
use Prim.Native.Nat.{ℕ, suc, ◌+◌, ◌-◌, ◌%◌, ◌<◌}
use native.Mathlib.Omega.{arith}
use lib.Dec.{eqb, ltb}
use lib.ListN.{take, get_or}
use borrow.Author.Tests.{eqb-true, eqb-false, lt-ltb}
use Rattle.rules.specs.Lists.{pick◌then◌else◌, maybe, range, all, filter, member, ascending, insert, neighbours}
use Rattle.rules.specs.Bytes.{bit_set}
use Rattle.rules.specs.Allocation.{allocation_groups, group_order, group_start, group_end, highest, cursor, available, found, sorted, found_first, first_run, allocate_data}
use Rattle.rules.proofs.ListLaws.{test-cases, clash, order-cases, if-true, if-false, and_left, and_intro, or_cases, or_left, or_right, or-none-left, or-none-right, filter-append, ascending-insert, each-any, Each}
use Rattle.rules.proofs.CountLaws.{same_test, flat_map-each, member-first, member-cons, member-nil, Once, once-head, once-tail, once-take, ascending-same, each_member, member-each}
use Rattle.rules.proofs.AllocationLaws.{highest-in, same-found, found-once, available-not, member-first-found, member-sorted, ascending-sorted, first_run-same}
use Rattle.runs.specs.Runs.{clear}
use Rattle.allocation.specs.Search.{clear_bits, inserts, start_at, group_bits, bits_from, found_bits, chosen_bits}
use Rattle.allocation.specs.Carried.{past_highest, Carried}
use Rattle.allocation.proofs.GroupLaws.{start-low, start-high, start-inside}
use Rattle.allocation.proofs.SortLaws.{inserts-cons}

-- ---- lists

-- what is kept of lists one after another
filter-flat_map : {A : Type 0} (f : ℕ → Bool) (s : A → List ℕ) (xs : List A) → filter f (flat_map s xs) ≡ flat_map (λ x. filter f (s x)) xs
unfolding flat_map
filter-flat_map f s [] = unfold filter in refl
filter-flat_map f s (x ∷ xs) = filter-append f (s x) (flat_map s xs) ∙ ap (λ (t : List ℕ). filter f (s x) ++ t) (filter-flat_map f s xs)

-- the lists of a list put through a function
flat_map-map : {A : Type 0} (s : ℕ → List A) (f : ℕ → ℕ) (xs : List ℕ) → flat_map s (map f xs) ≡ flat_map (λ x. s (f x)) xs
unfolding flat_map
flat_map-map s f [] = refl
flat_map-map s f (x ∷ xs) = ap (λ t. s (f x) ++ t) (flat_map-map s f xs)

-- ---- the order of the search

-- where the code starts in a group is where the rules do
pub start-cursor : (blocks : ℕ) (taken : List ℕ) (g : ℕ) → start_at (group_start g) (group_end blocks g) (past_highest blocks taken g) ≡ cursor blocks taken g
start-cursor blocks taken g = go (highest blocks taken g) refl
  where
    go : (o : Option ℕ) → highest blocks taken g ≡ o → start_at (group_start g) (group_end blocks g) (past_highest blocks taken g) ≡ cursor blocks taken g
    go none e = unfold past_highest cursor maybe in rw e (sym (start-low (group_start g) (group_end blocks g) 0 (omega arith)))
    go (some b) e =
        let h = highest-in blocks taken g b e in
        unfold past_highest cursor maybe in
        rw e
        (test-cases (start_at (group_start g) (group_end blocks g) (suc b) ≡ (pick eqb (suc b) (group_end blocks g) then group_start g else suc b)) (eqb (suc b) (group_end blocks g))
        (λ t. let q : suc b ≡ group_end blocks g = eqb-true (suc b) (group_end blocks g) t in
        sym (start-high (group_start g) (group_end blocks g) (suc b) (omega arith)) ∙ sym (if-true (eqb (suc b) (group_end blocks g)) (group_start g) (suc b) t))
        (λ t. let q : suc b ≡ group_end blocks g → ⊥ = eqb-false (suc b) (group_end blocks g) t in
        sym (start-inside (group_start g) (group_end blocks g) (suc b) (omega arith) (omega arith)) ∙ sym (if-false (eqb (suc b) (group_end blocks g)) (group_start g) (suc b) t)))

-- the bits in the order of the search are the blocks that the rules find
pub bits-found : (blocks : ℕ) (used : ℕ → Bool) (hint : ℕ) (taken m past : List ℕ) → Carried blocks used taken m past → bits_from m blocks hint past 0 ≡ found blocks used hint taken
unfolding group_order group_bits clear_bits clear bits_from
bits-found blocks used hint taken m past c =
    let groups : ℕ = allocation_groups blocks in
    let from : ℕ → ℕ = λ g. start_at (group_start g) (group_end blocks g) (get_or past g 0) in
    let ring : ℕ → List ℕ = λ g. range (from g) (group_end blocks g - from g) ++ range (group_start g) (from g - group_start g) in
    let turn : ℕ → ℕ = λ k. (hint % groups + k) % groups in
    sym
    (same-found blocks used hint taken (bit_set m) from c.bits (λ g l. ap (start_at (group_start g) (group_end blocks g)) (c.highs g l) ∙ start-cursor blocks taken g)
    ∙ filter-flat_map (λ b. not (bit_set m b)) ring (group_order groups hint)
    ∙ flat_map-map (λ g. filter (λ b. not (bit_set m b)) (ring g)) turn (range 0 groups)
    ∙ flat_map-each (λ k. filter (λ b. not (bit_set m b)) (ring (turn k))) (λ k. group_bits m blocks (get_or past (turn k) 0) (turn k))
    (each-any (λ k. filter-append (λ b. not (bit_set m b)) (range (from (turn k)) (group_end blocks (turn k) - from (turn k))) (range (group_start (turn k)) (from (turn k) - group_start (turn k)))) (range 0 groups))
    ∙ ap (λ (n : ℕ). flat_map (λ k. group_bits m blocks (get_or past (turn k) 0) (turn k)) (range 0 n)) (omega arith))

-- ---- the first of them, ascending

-- one of three, in another order
swap : (a b c : Bool) → (a || (b || c)) ≡ (b || (a || c))
swap true true c = refl
swap true false c = refl
swap false true c = refl
swap false false c = refl

-- a block put in is one of the blocks
pub member-insert : (b x : ℕ) (ys : List ℕ) → member b (insert ltb x ys) ≡ (eqb b x || member b ys)
member-insert b x [] = unfold insert in member-cons b x []
member-insert b x (y ∷ ys) =
    let P : Type 0 = member b (insert ltb x (y ∷ ys)) ≡ (eqb b x || member b (y ∷ ys)) in
    test-cases P (ltb y x)
    (λ t. let e : insert ltb x (y ∷ ys) ≡ y ∷ insert ltb x ys = unfold insert in if-true (ltb y x) (y ∷ insert ltb x ys) (x ∷ y ∷ ys) t in
    rw (e, member-cons b y (insert ltb x ys), member-insert b x ys, member-cons b y ys) (swap (eqb b y) (eqb b x) (member b ys)))
    (λ t. let e : insert ltb x (y ∷ ys) ≡ x ∷ y ∷ ys = unfold insert in if-false (ltb y x) (y ∷ insert ltb x ys) (x ∷ y ∷ ys) t in
    ap (member b) e ∙ member-cons b x (y ∷ ys))

-- the blocks put in are those that were there and the others
inserts-members : (b : ℕ) (ys zs : List ℕ) → member b (inserts ys zs) ≡ (member b ys || member b zs)
inserts-members b ys [] = rw (member-nil b, or-false (member b ys)) (unfold inserts in refl)
inserts-members b ys (z ∷ zs) =
    rw (inserts-cons ys z zs, inserts-members b (insert ltb z ys) zs, member-insert b z ys, member-cons b z zs)
    (or_assoc (eqb b z) (member b ys) (member b zs) ∙ swap (eqb b z) (member b ys) (member b zs))

-- a block that comes next stands before or behind each that is held
apart : (z : ℕ) (zs ys : List ℕ) → ((b : ℕ) → member b ys ≡ true → member b (z ∷ zs) ≡ false) → all (λ y. ltb y z || ltb z y) ys ≡ true
unfolding all
apart z zs [] d = refl
apart z zs (y ∷ ys) d =
    let e : eqb y z ≡ false = or-none-left (eqb y z) (member y zs) (sym (member-cons y z zs) ∙ d y (member-first y ys)) in
    let n : y ≡ z → ⊥ = eqb-false y z e in
    and_intro (ltb y z || ltb z y) (all (λ w. ltb w z || ltb z w) ys)
    (order-cases ((ltb y z || ltb z y) ≡ true) y z (λ l. or_left (ltb y z) (ltb z y) (lt-ltb y z l)) (λ q. absurd (n q)) (λ l. or_right (ltb y z) (ltb z y) (lt-ltb z y l)))
    (apart z zs ys (λ b m. d b (rw (member-cons b y ys) (or_right (eqb b y) (member b ys) m))))

-- none that is held comes later
later : (b z : ℕ) (zs ys : List ℕ) → ((c : ℕ) → member c ys ≡ true → member c (z ∷ zs) ≡ false) → Once (z ∷ zs) → member b (insert ltb z ys) ≡ true → member b zs ≡ false
later b z zs ys d o m =
    or_cases (member b zs ≡ false) (eqb b z) (member b ys) (sym (member-insert b z ys) ∙ m)
    (λ e. rw (eqb-true b z e) (once-head z zs o))
    (λ e. or-none-right (eqb b z) (member b zs) (sym (member-cons b z zs) ∙ d b e))

-- they ascend, where none comes twice
inserts-ascending : (ys zs : List ℕ) → ascending ltb ys ≡ true → ((b : ℕ) → member b ys ≡ true → member b zs ≡ false) → Once zs → ascending ltb (inserts ys zs) ≡ true
inserts-ascending ys [] h d o = unfold inserts in h
inserts-ascending ys (z ∷ zs) h d o =
    rw (inserts-cons ys z zs) (inserts-ascending (insert ltb z ys) zs (ascending-insert ltb z ys h (apart z zs ys d)) (λ b m. later b z zs ys d o m) (once-tail z zs o))

-- distinct blocks of the store, put in one after another, are those blocks ascending
pub inserts-sorted : (blocks : ℕ) (zs : List ℕ) → Once zs → Each (λ b. b < blocks) zs → inserts [] zs ≡ sorted blocks zs
inserts-sorted blocks zs o l =
    ascending-same (inserts [] zs) (sorted blocks zs)
    (inserts-ascending [] zs (unfold neighbours in refl) (λ b m. absurd (clash (member-nil b) m)) o)
    (ascending-sorted blocks zs)
    (λ b. members b)
  where
    members : (b : ℕ) → member b (inserts [] zs) ≡ member b (sorted blocks zs)
    members b =
        let t : Bool = member b zs in
        inserts-members b [] zs
        ∙ rw (member-nil b) (same_test t (t && ltb b blocks) (λ m. and_intro t (ltb b blocks) m (lt-ltb b blocks (member-each (λ x. x < blocks) l b m))) (λ m. and_left t (ltb b blocks) m))
        ∙ sym (member-sorted b blocks zs)

-- so that what is taken of the search, put in order, is what the rules find first
found-allocates : (blocks : ℕ) (used : ℕ → Bool) (hint : ℕ) (taken m past : List ℕ) (want : ℕ) → Carried blocks used taken m past → found_bits m blocks hint past want ≡ found_first blocks used hint taken want
unfolding found_bits found_first
found-allocates blocks used hint taken m past want c =
    let bs : List ℕ = take want (found blocks used hint taken) in
    ap (λ (v : List ℕ). inserts [] (take want v)) (bits-found blocks used hint taken m past c)
    ∙ inserts-sorted blocks bs (once-take want (found blocks used hint taken) (found-once blocks used hint taken))
    (each_member (λ b. b < blocks) bs (λ b i. (member-first-found b blocks used hint taken want i).0))

-- the first run of clear bits is that of the blocks that are free and not taken
run-allocates : (blocks : ℕ) (used : ℕ → Bool) (hint : ℕ) (taken m past : List ℕ) (want : ℕ) → Carried blocks used taken m past
    → first_run blocks (clear m) want hint ≡ first_run blocks (available used taken) want hint
run-allocates blocks used hint taken m past want c =
    first_run-same blocks (clear m) want hint (available used taken) (λ b l. unfold clear in ap not (c.bits b l) ∙ sym (available-not used taken b))

-- and so are the blocks that are chosen
pub chosen-allocates : (blocks : ℕ) (used : ℕ → Bool) (hint : ℕ) (taken m past : List ℕ) (want : ℕ) → Carried blocks used taken m past
    → chosen_bits m blocks hint past want ≡ allocate_data blocks used hint taken want
unfolding chosen_bits allocate_data
chosen-allocates blocks used hint taken m past want c =
    rw (run-allocates blocks used hint taken m past want c, found-allocates blocks used hint taken m past want c) refl
