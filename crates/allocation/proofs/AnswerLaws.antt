-- Laws of the answer to a unit: the hint, what is past the highest block of each group, and the answer as a whole.
-- Assumes nothing.
use mathlib.Core.Path.{◌≡◌, refl, sym, ap, ◌∙◌}
use mathlib.Core.List.{List, [], ◌∷◌, ◌++◌, flat_map, get_last?, append_assoc, append-nil}
use mathlib.Core.Bool.{Bool, true, false, not, ◌&&◌, ◌||◌, or-false}
use mathlib.Core.Option.{Option, none, some}
use Prim.Native.Nat.{ℕ, suc, ◌+◌, ◌-◌, ◌/◌, ◌%◌, ◌≤◌, ◌<◌, max}
use native.Mathlib.Numerals.{add-one}
use native.Mathlib.Omega.{arith}
use lib.Dec.{eqb, ltb, leb}
use lib.ListN.{length, take, drop, get_or, set, length-set}
use lib.Seq.{get_or-take, drop-cons, drop-length, get_or-set_same, get_or-set_other}
use borrow.Author.Tests.{eqb-true, eqb-false, eq-eqb, ne_eqb, ltb-true, ltb-false, lt-ltb, le-ltb, le-leb, lt-leb}
use Rattle.rules.specs.Lists.{maybe, range, filter, insert, member}
use Rattle.rules.specs.Sizes.{group_blocks}
use Rattle.rules.specs.Allocation.{allocation_groups, group_start, group_end, highest, first_run, allocate_data, hint_after}
use Rattle.rules.proofs.ListLaws.{test-cases, clash, order-cases, if-true, if-false, if-cases, and_right, or_cases, or_left, or_right, member-append, maybe-some, maybe-none, maybe-cases, Each, each_none, each_more, each_weaken, each_append, each-insert, each_at}
use Rattle.rules.proofs.CountLaws.{filter-each, member-cons, member-nil, member_filter, member-take, each_member, member-each, each-range}
use Rattle.rules.proofs.AllocationLaws.{highest-in, highest-le, highest-none, highest-of, hint_after-last, hint_after-none, first_run-within, each-allocate_data, too_few-allocate_data}
use Rattle.std.specs.Prelude.{Some, None, MatchOption}
use Rattle.std.specs.Prelude as std
use Rattle.std.specs.Slice.{IsGetResult}
use denote.Ref.{Bor}
use Rattle.runs.specs.Runs.{clear}
use Rattle.allocation.specs.Search.{clear_bits, inserts, start_at, group_bits, bits_from, found_bits, chosen_bits, held, Room, Within, EachBelow, Collected, Sorted, Chosen}
use Rattle.allocation.specs.Carried.{past_highest, Carried, above, raised, raised_all, Answered, Allocates}
use Rattle.allocation.specs.declared.taken.Taken.{Taken}
use Rattle.allocation.specs.declared.Allocated.{Allocated}
use Rattle.allocation.proofs.SearchLaws.{held-count}
use Rattle.allocation.proofs.FoundLaws.{chosen-allocates}

-- ---- the hint

-- the last of a list
last-at : (xs : List ℕ) → 0 < length xs → get_last? xs ≡ some (get_or xs (length xs - 1) 0)
last-at [] l = absurd (omega arith)
last-at (x ∷ []) l = refl
last-at (x ∷ y ∷ ys) l =
    let e : length (x ∷ y ∷ ys) - 1 ≡ suc (length (y ∷ ys) - 1) = omega arith in
    last-at (y ∷ ys) (omega arith) ∙ rw e refl

-- the hint stays where there is no last block, and else is that block's group
pub hint_is : (blocks : List ℕ) (hint r : ℕ) (o : std.Option (Bor ℕ)) (P : Bor ℕ → Type 0) → IsGetResult blocks 0 (length blocks - 1) o → MatchOption o (r ≡ hint) P → ((b : Bor ℕ) → P b → r ≡ b.now / 16384) → r ≡ hint_after hint blocks
hint_is [] hint r None P i h f = h ∙ sym (hint_after-none hint)
hint_is (x ∷ xs) hint r None P i h f = absurd (let l : length (x ∷ xs) ≤ 0 = i.3 in omega arith)
hint_is blocks hint r (Some b) P i h f = f b h ∙ rw (i.3.1 0) (sym (hint_after-last hint blocks (get_or blocks (length blocks - 1) 0) (last-at blocks i.3.0)))

-- ---- what is past the highest

-- a block that lies below it
pub above_kept : (past b : ℕ) → b < past → past ≡ above past b
unfolding above
above_kept past b l = sym (if-true (ltb b past) past (suc b) (lt-ltb b past l))

-- a block that is the highest
pub above-up : (past b : ℕ) → past ≤ b → b + 1 ≡ above past b
unfolding above
above-up past b l = add-one b ∙ sym (if-false (ltb b past) past (suc b) (le-ltb b past l))

-- it is the greater
pub above-max : (past b : ℕ) → max past (b + 1) ≡ above past b
above-max past b =
    order-cases (max past (b + 1) ≡ above past b) b past (λ l. let e : max past (b + 1) ≡ past = omega arith in e ∙ above_kept past b l)
    (λ e. let d : max past (b + 1) ≡ b + 1 = omega arith in d ∙ above-up past b (omega arith)) (λ l. let d : max past (b + 1) ≡ b + 1 = omega arith in d ∙ above-up past b (omega arith))

-- no more than in the array
raised-places : (past : List ℕ) (b : ℕ) → length (raised past b) ≡ length past
unfolding raised
raised-places past b = length-set past (b / group_blocks) (above (get_or past (b / group_blocks) 0) b)

-- what is still to be done of the blocks makes what was to be done
pub record Raising (past bs p : List ℕ) (i : ℕ) : Type 0 where
  pub inside : i ≤ length bs
  pub rest : raised_all p (drop i bs) ≡ raised_all past bs

-- none, and one more
raised_all-cons : (past : List ℕ) (b : ℕ) (bs : List ℕ) → raised_all past (b ∷ bs) ≡ raised_all (raised past b) bs
unfolding raised_all
raised_all-cons past b bs = refl

raised_all-nil : (past : List ℕ) → raised_all past [] ≡ past
unfolding raised_all
raised_all-nil past = refl

module _ (past bs : List ℕ) where
  -- at first
  pub raising-none : Raising past bs past 0
  raising-none = record { inside = omega arith; rest = refl }

  -- one more
  pub raising-more : (p : List ℕ) (i v : ℕ) → Raising past bs p i → i < length bs → v ≡ above (get_or p (get_or bs i 0 / 16384) 0) (get_or bs i 0) → Raising past bs (set p (get_or bs i 0 / 16384) v) (i + 1)
  raising-more p i v s l e =
      let u : set p (get_or bs i 0 / 16384) v ≡ raised p (get_or bs i 0) = unfold raised in rw e refl in
      let d : drop i bs ≡ get_or bs i 0 ∷ drop (suc i) bs = drop-cons bs i 0 l in
      record {
        inside = omega arith;
        rest = rw (add-one i, u) (sym (ap (raised_all p) d ∙ raised_all-cons p (get_or bs i 0) (drop (suc i) bs)) ∙ s.rest);
      }

  -- all
  pub raising-all : (p : List ℕ) (i : ℕ) → Raising past bs p i → length bs ≤ i → p ≡ raised_all past bs
  raising-all p i s l =
      let k : i ≤ length bs = s.inside in
      let e : i ≡ length bs = omega arith in
      let z : drop i bs ≡ [] = rw e (drop-length bs) in
      sym (ap (raised_all p) z ∙ raised_all-nil p) ∙ s.rest

-- ---- the highest after one more block

-- a block of a store lies in its group
in_group : (blocks b : ℕ) → b < blocks → (group_start (b / group_blocks) ≤ b) × (b < group_end blocks (b / group_blocks))
unfolding group_start group_end
in_group blocks b l = omega arith

-- and in no other
not_in : (blocks b g : ℕ) → (g ≡ b / group_blocks → ⊥) → group_start g ≤ b → b < group_end blocks g → ⊥
unfolding group_start group_end
not_in blocks b g d p q = d (omega arith)

-- a block is among those taken and one more where it is one of them or that one
member-one : (x b : ℕ) (taken : List ℕ) → member x (taken ++ (b ∷ [])) ≡ (member x taken || eqb x b)
member-one x b taken =
    member-append x taken (b ∷ []) ∙ ap (λ (t : Bool). member x taken || t) (member-cons x b [] ∙ rw (member-nil x) (or-false (eqb x b)))

-- what is past the highest, where there is one
past-some : (blocks : ℕ) (taken : List ℕ) (g h : ℕ) → highest blocks taken g ≡ some h → past_highest blocks taken g ≡ suc h
unfolding past_highest
past-some blocks taken g h e = maybe-some 0 suc (highest blocks taken g) h e

-- and where there is none
past-none : (blocks : ℕ) (taken : List ℕ) (g : ℕ) → highest blocks taken g ≡ none → past_highest blocks taken g ≡ 0
unfolding past_highest
past-none blocks taken g e = maybe-none 0 suc (highest blocks taken g) e

module _ (blocks : ℕ) (taken : List ℕ) (b : ℕ) (l : b < blocks) where
  -- another group's highest stays
  past-other : (g : ℕ) → (g ≡ b / group_blocks → ⊥) → past_highest blocks (taken ++ (b ∷ [])) g ≡ past_highest blocks taken g
  unfolding past_highest highest
  past-other g d =
      ap (λ (xs : List ℕ). maybe 0 suc (get_last? xs))
      (filter-each (λ x. member x (taken ++ (b ∷ []))) (λ x. member x taken)
      (each_weaken {P = λ x. (group_start g ≤ x) × (x < group_start g + (group_end blocks g - group_start g))} (λ x h. same x h) (each-range (group_start g) (group_end blocks g - group_start g))))
    where
      same : (x : ℕ) → (group_start g ≤ x) × (x < group_start g + (group_end blocks g - group_start g)) → member x (taken ++ (b ∷ [])) ≡ member x taken
      same x h =
          let n : eqb x b ≡ false = ne_eqb x b (λ e. not_in blocks b g d (omega arith) (omega arith)) in
          member-one x b taken ∙ rw n (or-false (member x taken))

  -- that one is among them
  one-taken : member b (taken ++ (b ∷ [])) ≡ true
  one-taken = member-one b b taken ∙ or_right (member b taken) (eqb b b) (eq-eqb b b refl)

  -- it is the highest, where every other of its group is at most it
  past-it : ((x : ℕ) → group_start (b / group_blocks) ≤ x → x < group_end blocks (b / group_blocks) → member x taken ≡ true → x ≤ b) → past_highest blocks (taken ++ (b ∷ [])) (b / group_blocks) ≡ suc b
  past-it most =
      let i : (group_start (b / group_blocks) ≤ b) × (b < group_end blocks (b / group_blocks)) = in_group blocks b l in
      past-some blocks (taken ++ (b ∷ [])) (b / group_blocks) b
      (highest-of blocks (taken ++ (b ∷ [])) (b / group_blocks) b i.0 i.1 one-taken
      (λ x p q m. or_cases (x ≤ b) (member x taken) (eqb x b) (sym (member-one x b taken) ∙ m) (λ e. most x p q e) (λ e. let d : x ≡ b = eqb-true x b e in omega arith)))

  -- its own group's highest
  past-own : past_highest blocks (taken ++ (b ∷ [])) (b / group_blocks) ≡ above (past_highest blocks taken (b / group_blocks)) b
  past-own = go (highest blocks taken (b / group_blocks)) refl
    where
      go : (o : Option ℕ) → highest blocks taken (b / group_blocks) ≡ o
          → past_highest blocks (taken ++ (b ∷ [])) (b / group_blocks) ≡ above (past_highest blocks taken (b / group_blocks)) b
      go none e =
          let z : past_highest blocks taken (b / group_blocks) ≡ 0 = past-none blocks taken (b / group_blocks) e in
          past-it (λ x p q m. absurd (clash (highest-none blocks taken (b / group_blocks) x e p q) m)) ∙ rw z (sym (add-one b) ∙ above-up 0 b (omega arith))
      go (some h) e =
          let z : past_highest blocks taken (b / group_blocks) ≡ suc h = past-some blocks taken (b / group_blocks) h e in
          let i : (group_start (b / group_blocks) ≤ h) × (h < group_end blocks (b / group_blocks)) × (member h taken ≡ true) = highest-in blocks taken (b / group_blocks) h e in
          test-cases (past_highest blocks (taken ++ (b ∷ [])) (b / group_blocks) ≡ above (past_highest blocks taken (b / group_blocks)) b)
          (ltb b (suc h))
          (λ t. let m : b < suc h = ltb-true b (suc h) t in
          let n : highest blocks (taken ++ (b ∷ [])) (b / group_blocks) ≡ some h =
          highest-of blocks (taken ++ (b ∷ [])) (b / group_blocks) h i.0 i.1 (member-one h b taken ∙ or_left (member h taken) (eqb h b) i.2)
          (λ x p q u. or_cases (x ≤ h) (member x taken) (eqb x b) (sym (member-one x b taken) ∙ u) (λ v. highest-le blocks taken (b / group_blocks) h x e p q v) (λ v. let d : x ≡ b = eqb-true x b v in omega arith)) in
          let y : past_highest blocks (taken ++ (b ∷ [])) (b / group_blocks) ≡ suc h = past-some blocks (taken ++ (b ∷ [])) (b / group_blocks) h n in
          y ∙ rw z (above_kept (suc h) b m))
          (λ t. let m : suc h ≤ b = ltb-false b (suc h) t in
          past-it (λ x p q u. let v : x ≤ h = highest-le blocks taken (b / group_blocks) h x e p q u in omega arith) ∙ rw z (sym (add-one b) ∙ above-up (suc h) b m))

-- the cursors of the blocks taken
abbrev Highs : ℕ → List ℕ → List ℕ → Type 0
Highs blocks taken past = (g : ℕ) → g < allocation_groups blocks → get_or past g 0 ≡ past_highest blocks taken g

-- a group of the store has a place in an array of four
group-place : (blocks b : ℕ) → blocks ≤ 65536 → b < blocks → b / group_blocks < 4
group-place blocks b m l = omega arith

-- a block lies in a group of the store
own-group : (blocks b : ℕ) → b < blocks → b / group_blocks < allocation_groups blocks
unfolding allocation_groups
own-group blocks b l = omega arith

-- the cursors after one more block
raised-highs : (blocks : ℕ) (taken past : List ℕ) (b : ℕ) → blocks ≤ 65536 → length past ≡ 4 → b < blocks → Highs blocks taken past → Highs blocks (taken ++ (b ∷ [])) (raised past b)
unfolding raised
raised-highs blocks taken past b m w l h g k =
    let own : ℕ = b / group_blocks in
    let n : b / group_blocks < 4 = group-place blocks b m l in
    let v : ℕ = above (get_or past own 0) b in
    test-cases (get_or (set past own v) g 0 ≡ past_highest blocks (taken ++ (b ∷ [])) g) (eqb g own)
    (λ e. let q : g ≡ own = eqb-true g own e in
    rw (q, past-own blocks taken b l) (get_or-set_same past own v 0 (omega arith) ∙ ap (λ (x : ℕ). above x b) (h own (own-group blocks b l))))
    (λ e. let d : g ≡ own → ⊥ = eqb-false g own e in
    rw (past-other blocks taken b l g d) (get_or-set_other past own g v 0 d ∙ h g k))

-- and after several
raised_all-highs : (blocks : ℕ) (taken past : List ℕ) {bs : List ℕ} → blocks ≤ 65536 → length past ≡ 4 → Each (λ b. b < blocks) bs → Highs blocks taken past → Highs blocks (taken ++ bs) (raised_all past bs)
unfolding raised_all
raised_all-highs blocks taken past m w each_none h = rw (append-nil taken) h
raised_all-highs blocks taken past m w (each_more {x = b} {xs = bs} l r) h =
    let e : taken ++ (b ∷ bs) ≡ (taken ++ (b ∷ [])) ++ bs = sym (append_assoc taken (b ∷ []) bs) in
    rw e (raised_all-highs blocks (taken ++ (b ∷ [])) (raised past b) m (raised-places past b ∙ w) r (raised-highs blocks taken past b m w l h))

-- no more than in the array
raised_all-places : (past bs : List ℕ) → length (raised_all past bs) ≡ length past
unfolding raised_all
raised_all-places past [] = refl
raised_all-places past (b ∷ bs) = raised_all-places (raised past b) bs ∙ raised-places past b

-- ---- the answer

-- what is kept of numbers below a bound is below it
each-filter : (P : ℕ → Type 0) (f : ℕ → Bool) {xs : List ℕ} → Each P xs → Each P (filter f xs)
each-filter P f {xs} h = each_member P (filter f xs) (λ b m. member-each P h b (and_right (f b) (member b xs) (sym (member_filter b f xs) ∙ m)))

-- a property of each of several lists
each-flat_map : {A : Type 0} (P : ℕ → Type 0) (s : A → List ℕ) (xs : List A) → ((x : A) → Each P (s x)) → Each P (flat_map s xs)
unfolding flat_map
each-flat_map P s [] h = each_none
each-flat_map P s (x ∷ xs) h = each_append (h x) (each-flat_map P s xs h)

-- the search starts in its group
start-within : (start end past : ℕ) → start_at start end past - start ≤ end - start
unfolding start_at
start-within start end past =
    if-cases (λ x. x - start ≤ end - start) (ltb start past && ltb past end) past start
    (λ e. let l : past < end = ltb-true past end (and_right (ltb start past) (ltb past end) e) in omega arith) (λ e. omega arith)

-- the clear bits between two places that lie in the store do too
each-clear_bits : (map : List ℕ) (blocks from end : ℕ) → end - from ≤ blocks - from → Each (λ b. b < blocks) (clear_bits map from end)
unfolding clear_bits
each-clear_bits map blocks from end l =
    each-filter (λ b. b < blocks) (clear map) (each_weaken {P = λ b. (from ≤ b) × (b < from + (end - from))} (λ b h. omega arith) (each-range from (end - from)))

-- the clear bits of a group lie in the store
each-group_bits : (map : List ℕ) (blocks past g : ℕ) → Each (λ b. b < blocks) (group_bits map blocks past g)
unfolding group_bits
each-group_bits map blocks past g =
    let from : ℕ = start_at (group_start g) (group_end blocks g) past in
    let l : group_end blocks g ≤ blocks = unfold group_end in omega arith in
    let m : start_at (group_start g) (group_end blocks g) past - group_start g ≤ group_end blocks g - group_start g = start-within (group_start g) (group_end blocks g) past in
    each_append (each-clear_bits map blocks from (group_end blocks g) (omega arith)) (each-clear_bits map blocks (group_start g) from (omega arith))

-- the clear bits of the groups
each-bits_from : (map : List ℕ) (blocks hint : ℕ) (past : List ℕ) (i : ℕ) → Each (λ b. b < blocks) (bits_from map blocks hint past i)
unfolding bits_from
each-bits_from map blocks hint past i =
    let groups : ℕ = allocation_groups blocks in
    each-flat_map (λ b. b < blocks) (λ k. group_bits map blocks (get_or past ((hint % groups + k) % groups) 0) ((hint % groups + k) % groups)) (range i (groups - i))
    (λ k. each-group_bits map blocks (get_or past ((hint % groups + k) % groups) 0) ((hint % groups + k) % groups))

-- blocks put in one after another
each-inserts : (P : ℕ → Type 0) {ys zs : List ℕ} → Each P ys → Each P zs → Each P (inserts ys zs)
unfolding inserts
each-inserts P {ys} h each_none = h
each-inserts P {ys} h (each_more {x = z} p r) = each-inserts P {ys = insert ltb z ys} (each-insert ltb z ys p h) r

-- blocks of which each is below a bound
within-each : (bound : ℕ) (t : Taken) → Each (λ b. b < bound) (held t) → Within bound t
within-each bound t h =
    record {
      each = λ i l. let e : length (held t) ≡ t.count = held-count t in
          let m : get_or (held t) i 0 < bound = each_at h i 0 (omega arith) in
          let q : get_or (held t) i 0 ≡ get_or t.blocks i 0 = get_or-take t.count t.blocks i 0 l in
          omega arith;
    }

-- the blocks that the search finds first
pub found-chosen : (map : List ℕ) (blocks hint : ℕ) (past : List ℕ) (want : ℕ) (f t : Taken) → want ≤ 16 → Collected want [] (bits_from map blocks hint past 0) f → Sorted f t → Chosen want blocks (found_bits map blocks hint past want) t
unfolding found_bits
found-chosen map blocks hint past want f t w c o =
    let bits : List ℕ = bits_from map blocks hint past 0 in
    let P : ℕ → Type 0 = λ b. b < blocks in
    let l : f.count ≤ want = c.room.fits in
    let e : t.count ≡ f.count = o.count in
    let r : Room want t = record { fits = omega arith; places = o.places } in
    let d : held t ≡ inserts [] (take want bits) = o.list ∙ ap (inserts []) c.list in
    let h : Each P (held t) = rw d (each-inserts P each_none (each_member P (take want bits) (λ b m. member-each P (each-bits_from map blocks hint past 0) b (member-take b want bits m)))) in
    record { list = d; room = r; within = within-each blocks t h }

-- where there is a run its blocks are chosen
pub run-chosen : (map : List ℕ) (blocks hint : ℕ) (past : List ℕ) (want b : ℕ) (t : Taken) → want ≤ 16 → first_run blocks (clear map) want hint ≡ some b → held t ≡ range b want → Room want t
    → Chosen want blocks (chosen_bits map blocks hint past want) t
unfolding chosen_bits
run-chosen map blocks hint past want b t w s d o =
    let m : b + want ≤ blocks = first_run-within blocks (clear map) want hint b s in
    let h : Each (λ x. x < blocks) (held t) = rw d (each_weaken {P = λ x. (b ≤ x) × (x < b + want)} (λ x q. omega arith) (each-range b want)) in
    record {
      list = d ∙ sym (maybe-some (found_bits map blocks hint past want) (λ x. range x want) (first_run blocks (clear map) want hint) b s);
      room = o;
      within = within-each blocks t h;
    }

-- its blocks lie in the store
pub run-within : (map : List ℕ) (blocks hint want b : ℕ) → first_run blocks (clear map) want hint ≡ some b → b + want ≤ blocks
run-within map blocks hint want b s = first_run-within blocks (clear map) want hint b s

-- where there is none those that the search finds first are
pub found-instead : (map : List ℕ) (blocks hint : ℕ) (past : List ℕ) (want : ℕ) (t : Taken) → first_run blocks (clear map) want hint ≡ none → Chosen want blocks (found_bits map blocks hint past want) t
    → Chosen want blocks (chosen_bits map blocks hint past want) t
unfolding chosen_bits
found-instead map blocks hint past want t s c =
    record { list = c.list ∙ sym (maybe-none (found_bits map blocks hint past want) (λ x. range x want) (first_run blocks (clear map) want hint) s); room = c.room; within = c.within }

-- and where no block is wanted there is none
pub none-chosen : (map : List ℕ) (blocks hint : ℕ) (past : List ℕ) (want : ℕ) (t : Taken) → want ≡ 0 → Room 0 t → Chosen want blocks (chosen_bits map blocks hint past want) t
none-chosen map blocks hint past want t e o =
    let z : t.count ≤ 0 = o.fits in
    let d : t.count ≡ 0 = omega arith in
    record {
      list = ap (λ (k : ℕ). take k t.blocks) d ∙ sym (ap (chosen_bits map blocks hint past) e ∙ nothing);
      room = record { fits = omega arith; places = o.places };
      within = record { each = λ i l. absurd (omega arith) };
    }
  where
    nothing : chosen_bits map blocks hint past 0 ≡ []
    nothing =
        unfold chosen_bits found_bits inserts range in
        maybe-cases (λ (bs : List ℕ). bs ≡ []) (found_bits map blocks hint past 0) (λ b. range b 0) (first_run blocks (clear map) 0 hint) (λ f. refl) (λ b f. refl)

-- the blocks that are held are below it
pub within_held : (bound : ℕ) (t : Taken) → Within bound t → EachBelow bound (held t)
within_held bound t w i h =
    let e : length (held t) ≡ t.count = held-count t in
    rw (get_or-take t.count t.blocks i 0 (omega arith)) (w.each i (omega arith))

-- a bound that is no less serves too
pub within_more : (a b : ℕ) (t : Taken) → Within a t → a ≤ b → Within b t
within_more a b t w l = record { each = λ i m. let h : get_or t.blocks i 0 < a = w.each i m in omega arith }

-- no less than is not more
leb-not : (a b : ℕ) → leb a b ≡ not (ltb b a)
leb-not a b =
    order-cases (leb a b ≡ not (ltb b a)) a b
    (λ l. le-leb a b (omega arith) ∙ rw (le-ltb b a (omega arith)) refl)
    (λ e. le-leb a b (omega arith) ∙ rw (le-ltb b a (omega arith)) refl)
    (λ l. lt-leb a b l ∙ rw (lt-ltb b a l) refl)

-- the answer is the one of the rules
pub allocates : (map : List ℕ) (blocks hint : ℕ) (past : List ℕ) (want : ℕ) (t : Taken) (r : Allocated) → blocks ≤ 65536 → want ≤ 16
    → Chosen want blocks (chosen_bits map blocks hint past want) t → Answered t hint past r
    → (used : ℕ → Bool) (taken : List ℕ) → Carried blocks used taken map past → Allocates blocks used hint taken want r
allocates map blocks hint past want t r m w c a used taken k =
    let new : List ℕ = allocate_data blocks used hint taken want in
    let d : held t ≡ new = c.list ∙ chosen-allocates blocks used hint taken map past want k in
    let n : t.count ≡ length new = sym (held-count t) ∙ ap length d in
    let each : Each (λ b. b < blocks) new = each_weaken (λ b h. h.0) (each-allocate_data blocks used hint taken want) in
    record {
      enough = ap (λ (x : Taken). leb want x.count) a.given ∙ ap (leb want) n ∙ leb-not want (length new) ∙ ap not (sym (too_few-allocate_data blocks used hint taken want));
      count = ap (λ (x : Taken). x.count) a.given ∙ n;
      given = ap (λ (x : Taken). held x) a.given ∙ d;
      hinted = a.hinted ∙ ap (hint_after hint) d;
      places = ap length a.raised ∙ raised_all-places past (held t) ∙ k.places;
      highs = rw (a.raised, d) (raised_all-highs blocks taken past m k.places each k.highs);
    }
