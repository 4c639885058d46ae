-- What enter and settle keep of demand 3's claim, told of volumes: every block's holders, every file's places, and what a read finds in its units.
-- And where every block is in one place, no file has more places than there are blocks.
-- Assumes nothing.
use mathlib.Core.Path.{◌≡◌, refl, sym, ap, ◌∙◌}
use mathlib.Core.Logic.{◌⊎◌, inl, inr}
use mathlib.Core.List.Memᴰ
use mathlib.Core.List.{List, [], ◌∷◌, map, flat_map, Memᴰ}
use mathlib.Core.Bool.{Bool, true, false, not, ◌&&◌, ◌||◌}
use Prim.Native.Nat.{ℕ, zero, suc, ◌+◌, ◌≤◌, ◌<◌}
use native.Mathlib.Nat.{zero-add}
use native.Mathlib.Decide.{dec_lt}
use native.Mathlib.Omega.{arith}
use lib.Dec.{eqb, ltb, leb}
use lib.ListN.{length}
use borrow.Author.Tests.{eq-eqb, ne_eqb, lt-ltb, le-ltb, leb-true}
use Rattle.rules.specs.Lists.{pick◌then◌else◌, range, all, any, filter, count, insert, begun}
use Rattle.rules.specs.Sizes.{block_bytes}
use Rattle.rules.specs.Card.{Card, card_before}
use Rattle.rules.specs.Extent.{Extent, extent_end}
use Rattle.rules.specs.Store.{Volume}
use Rattle.rules.specs.Integrity.{on_device, in_file, in_files, retired_right}
use Rattle.rules.specs.Inspect.{checksum_of, backed_under, unit_mapping, valid_mapping, backed_bytes, valid_bytes, fully_backed, zero_past_end, checksum_right, inspect_slot, inspect_unit}
use Rattle.rules.specs.Enter.{entered}
use Rattle.rules.specs.Settle.{settled}
use Rattle.rules.specs.Demand.{Place, places_of, places, holders, file_places}
use Rattle.rules.proofs.ListLaws.{clash, if-cases, and_left, or_cases, or_left, or_right, all-range-at, filter_none, count-append, any-map, Each, each_none, each_more, each_all, order-cases, and_intro, all_append, all_map, all-range-of, filter-every, count_yes, count_no, count-le}
use Rattle.rules.proofs.PassLaws.{Lawful}
use Rattle.rules.proofs.EnterLaws.{NoCard}

-- ---- lists

-- a test that follows passes at some element too
pub any-weaken : {A : Type 0} (f g : A → Bool) (xs : List A) → ((x : A) → g x ≡ true → f x ≡ true) → any g xs ≡ true → any f xs ≡ true
unfolding any
any-weaken f g [] h e = e
any-weaken f g (x ∷ xs) h e =
    or_cases (any f (x ∷ xs) ≡ true) (g x) (any g xs) e (λ p. or_left (f x) (any f xs) (h x p)) (λ p. or_right (f x) (any f xs) (any-weaken f g xs h p))

-- a test that passes nowhere passes at no element
pub any_none : {A : Type 0} (f : A → Bool) (xs : List A) → ((x : A) → f x ≡ false) → any f xs ≡ false
unfolding any
any_none f [] h = refl
any_none f (x ∷ xs) h = ap (λ (b : Bool). b || any f xs) (h x) ∙ any_none f xs h

-- none that pass count 0
pub count_none : {A : Type 0} (f : A → Bool) (xs : List A) → any f xs ≡ false → count f xs ≡ 0
unfolding count
count_none f xs h = ap length (filter_none f xs h)

-- all that pass count all
pub count-every : {A : Type 0} (f : A → Bool) (xs : List A) → all f xs ≡ true → count f xs ≡ length xs
unfolding count
count-every f xs h = ap length (filter-every f xs h)

module _ {A : Type 0} (before : A → A → Bool) (x y : A) where
  -- y is x, or stands behind z
  behind-one : (z : A) {ys zs : List A} → (Memᴰ y ys → (y ≡ x) ⊎ Memᴰ y zs) → (y ≡ z) ⊎ Memᴰ y ys → (y ≡ x) ⊎ Memᴰ y (z ∷ zs)
  behind-one z {ys} {zs} h (inl e) = inr (Memᴰ.head e)
  behind-one z {ys} {zs} h (inr m) = later (h m)
    where
      later : (y ≡ x) ⊎ Memᴰ y zs → (y ≡ x) ⊎ Memᴰ y (z ∷ zs)
      later (inl e) = inl e
      later (inr k) = inr (Memᴰ.tail k)

  -- an element of a list with x put in is x or one of the others
  pub mem-insert : (ys : List A) → Memᴰ y (insert before x ys) → (y ≡ x) ⊎ Memᴰ y ys
  unfolding insert
  mem-insert [] m = Memᴰ.cases_cons m
  mem-insert (z ∷ zs) m =
      if-cases (λ (ws : List A). Memᴰ y ws → (y ≡ x) ⊎ Memᴰ y (z ∷ zs)) (before z x) (z ∷ insert before x zs) (x ∷ z ∷ zs)
      (λ e k. behind-one z (mem-insert zs) (Memᴰ.cases_cons k)) (λ e k. Memᴰ.cases_cons k) m

-- ---- holders

-- a retired block is used
pub retired-used : (v : Volume) → Lawful v → (b : ℕ) → v.retired b ≡ true → v.used b ≡ true
unfolding retired_right
retired-used v l b h = go (dec_lt b v.blocks)
  where
    go : Dec (b < v.blocks) → v.used b ≡ true
    go (yes m) =
        or_cases (v.used b ≡ true) (not (v.retired b)) (v.used b) (rw (zero-add b) at (all-range-at (λ n. not (v.retired n) || v.used n) 0 v.blocks l.retired b m))
        (λ e. absurd (clash (ap not h) e)) (λ e. e)
    go (no m) = absurd (clash (l.retired_past b (omega arith)) h)

-- a retired block becomes free, and every other stays what it is
free-or-retired : (used retired : Bool) → (retired ≡ true → used ≡ true)
    → (pick used && not retired then 0 else 1) + (pick false then 1 else 0) ≡ (pick used then 0 else 1) + (pick retired then 1 else 0)
unfolding pick◌then◌else◌
free-or-retired true true h = refl
free-or-retired true false h = refl
free-or-retired false true h = absurd (clash (sym (h refl)) refl)
free-or-retired false false h = refl

-- settle leaves every block as many holders as it had
pub holders-settled : (reserved : ℕ) (v : Volume) → Lawful v → (b : ℕ) → holders reserved (settled v) b ≡ holders reserved v b
unfolding holders settled places
holders-settled reserved v l b =
    let e = free-or-retired (v.used b) (v.retired b) (retired-used v l b) in
    omega (arith, e)

-- enter too
pub holders-entered : (reserved : ℕ) (c : Card) (v : Volume) (b : ℕ) → holders reserved (entered c v) b ≡ holders reserved v b
unfolding holders entered places
holders-entered reserved c v b = refl

-- enter leaves every file its places
pub file_places-entered : (c : Card) (v : Volume) (object : ℕ) → file_places (entered c v) object ≡ file_places v object
unfolding file_places entered places
file_places-entered c v object = refl

-- ---- a new card's file has no place

-- every extent is of a file that has a card
extent-card : (v : Volume) (object : ℕ) → NoCard v object → (e : Extent) → in_file v.books.cards e ≡ true → eqb e.object object ≡ false
unfolding in_file
extent-card v object n e h = ne_eqb e.object object (λ q. clash n (any-weaken
    (λ d. eqb d.object object) (λ d. eqb d.object e.object && leb (extent_end e) (begun d.size block_bytes)) v.books.cards
    (λ d k. rw (← q) (and_left (eqb d.object e.object) (leb (extent_end e) (begun d.size block_bytes)) k)) h))

-- extents of other files have no place of this one
places-none : (object : ℕ) {es : List Extent} → Each (λ e. eqb e.object object ≡ false) es → count (λ p. eqb p.object object) (flat_map places_of es) ≡ 0
unfolding flat_map places_of any
places-none object each_none = count_none (λ (p : Place). eqb p.object object) [] refl
places-none object (each_more {x = e} {xs = es} n h) =
    let f : Place → Bool = λ p. eqb p.object object in
    let g : ℕ → Place = λ i. record { object = e.object; logical = e.logical + i; block = e.physical + i } in
    let q : any f (map g (range 0 e.count)) ≡ false = any-map f g (range 0 e.count) ∙ any_none (λ i. f (g i)) (range 0 e.count) (λ i. n) in
    let r : count f (map g (range 0 e.count)) ≡ 0 = count_none f (map g (range 0 e.count)) q in
    rw (count-append f (map g (range 0 e.count)) (flat_map places_of es), r, places-none object h) refl

-- an object without a card has no place
pub file_places-none : (v : Volume) (object : ℕ) → Lawful v → NoCard v object → file_places v object ≡ 0
unfolding file_places places in_files
file_places-none v object l n =
    places-none object (each_all (in_file v.books.cards) (λ e h. extent-card v object n e h) v.books.extents l.files)

-- the counts of the cards stay right where an enter adds one with no blocks
pub counts-entered : (c : Card) (v : Volume) → NoCard v c.object → c.allocated ≡ 0 → Lawful v
    → ((d : Card) → Memᴰ d v.books.cards → d.allocated ≡ file_places v d.object)
    → (d : Card) → Memᴰ d (entered c v).books.cards → d.allocated ≡ file_places (entered c v) d.object
unfolding entered
counts-entered c v n z l h d m = rw (file_places-entered c v d.object) (go (mem-insert card_before c d v.books.cards m))
  where
    go : (d ≡ c) ⊎ Memᴰ d v.books.cards → d.allocated ≡ file_places v d.object
    go (inl e) = rw e (z ∙ sym (file_places-none v c.object l n))
    go (inr k) = h d k

-- ---- how many places there are

module _ {A : Type 0} (g : A → ℕ) where
  -- those below n + 1 are those below n and those at n
  count-below : (n : ℕ) (xs : List A) → count (λ x. ltb (g x) (suc n)) xs ≡ count (λ x. ltb (g x) n) xs + count (λ x. eqb (g x) n) xs
  count-below n [] = unfold count filter in refl
  count-below n (x ∷ xs) =
      let h = count-below n xs in
      order-cases (count (λ y. ltb (g y) (suc n)) (x ∷ xs) ≡ count (λ y. ltb (g y) n) (x ∷ xs) + count (λ y. eqb (g y) n) (x ∷ xs)) (g x) n
      (λ l. rw (count_yes (λ y. ltb (g y) (suc n)) x xs (lt-ltb (g x) (suc n) (omega arith)), count_yes (λ y. ltb (g y) n) x xs (lt-ltb (g x) n l), count_no (λ y. eqb (g y) n) x xs (ne_eqb (g x) n (λ e. omega arith))) (omega (arith, h)))
      (λ e. rw (count_yes (λ y. ltb (g y) (suc n)) x xs (lt-ltb (g x) (suc n) (omega arith)), count_no (λ y. ltb (g y) n) x xs (le-ltb (g x) n (omega arith)), count_yes (λ y. eqb (g y) n) x xs (eq-eqb (g x) n e)) (omega (arith, h)))
      (λ l. rw (count_no (λ y. ltb (g y) (suc n)) x xs (le-ltb (g x) (suc n) l), count_no (λ y. ltb (g y) n) x xs (le-ltb (g x) n (omega arith)), count_no (λ y. eqb (g y) n) x xs (ne_eqb (g x) n (λ e. omega arith))) h)

  -- where each number below n stands at most once, at most n stand below n
  count-once : (xs : List A) (n : ℕ) → ((b : ℕ) → b < n → count (λ x. eqb (g x) b) xs ≤ 1) → count (λ x. ltb (g x) n) xs ≤ n
  count-once xs zero h = rw (count_none (λ x. ltb (g x) 0) xs (any_none (λ x. ltb (g x) 0) xs (λ x. le-ltb (g x) 0 (omega arith)))) (omega arith)
  count-once xs (suc n) h =
      let a : count (λ x. ltb (g x) n) xs ≤ n = count-once xs n (λ b l. h b (omega arith)) in
      let b : count (λ x. eqb (g x) n) xs ≤ 1 = h n (omega arith) in
      rw (count-below n xs) (omega arith)

-- every place's block is on the device
places-below : (blocks : ℕ) {es : List Extent} → Each (λ e. e.physical + e.count ≤ blocks) es → all (λ p. ltb p.block blocks) (flat_map places_of es) ≡ true
unfolding flat_map places_of all
places-below blocks each_none = refl
places-below blocks (each_more {x = e} {xs = es} l h) =
    let f : Place → Bool = λ p. ltb p.block blocks in
    let g : ℕ → Place = λ i. record { object = e.object; logical = e.logical + i; block = e.physical + i } in
    all_append f (map g (range 0 e.count)) (flat_map places_of es)
    ∙ and_intro (all f (map g (range 0 e.count))) (all f (flat_map places_of es))
    (all_map f g (range 0 e.count) ∙ all-range-of (λ i. f (g i)) 0 e.count (λ i m. lt-ltb (e.physical + (0 + i)) blocks (omega arith))) (places-below blocks h)

-- a block with one holder is at one place at most
pub place-once : (reserved : ℕ) (v : Volume) (b : ℕ) → holders reserved v b ≡ 1 → count (λ p. eqb p.block b) (flat_map places_of v.books.extents) ≤ 1
unfolding holders places
place-once reserved v b h = omega (arith, h)

-- where each block is in one place, no file has more places than there are blocks
pub file_places-most : (reserved : ℕ) (v : Volume) → Lawful v → ((b : ℕ) → b < v.blocks → holders reserved v b ≡ 1) → (object : ℕ) → file_places v object ≤ v.blocks
unfolding file_places places on_device
file_places-most reserved v l h object =
    let ps : List Place = places v in
    let a : count (λ p. eqb p.object object) ps ≤ length ps = count-le (λ p. eqb p.object object) ps in
    let d : Each (λ e. e.physical + e.count ≤ v.blocks) v.books.extents =
    each_all (λ e. leb (e.physical + e.count) v.blocks) (λ e q. leb-true (e.physical + e.count) v.blocks q) v.books.extents l.device in
    let b : count (λ p. ltb p.block v.blocks) ps ≡ length ps = count-every (λ p. ltb p.block v.blocks) ps (places-below v.blocks d) in
    let o : count (λ p. ltb p.block v.blocks) ps ≤ v.blocks = count-once (λ p. p.block) ps v.blocks (λ n m. place-once reserved v n (h n m)) in
    omega arith

-- ---- what a read finds

-- two volumes with the same uuid, extents, groups and image
pub record SameFiles (v w : Volume) : Type 0 where
  pub uuid : v.uuid ≡ w.uuid
  pub extents : v.books.extents ≡ w.books.extents
  pub groups : v.books.groups ≡ w.books.groups
  pub image : v.image ≡ w.image

-- a unit is found the same
pub inspect-same : (v w : Volume) → SameFiles v w → (object size unit : ℕ) → inspect_unit v object size unit ≡ inspect_unit w object size unit
unfolding inspect_unit inspect_slot checksum_of backed_under fully_backed zero_past_end checksum_right valid_bytes backed_bytes valid_mapping unit_mapping
inspect-same v w e object size unit = rw (e.uuid, e.extents, e.groups, e.image) refl

-- enter changes nothing of that
pub files-entered : (c : Card) (v : Volume) → SameFiles (entered c v) v
unfolding entered
files-entered c v = record { uuid = refl; extents = refl; groups = refl; image = refl }
