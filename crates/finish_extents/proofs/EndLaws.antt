-- What is left of old extents at the two ends of a stretch, as the code makes it.
-- Assumes nothing.
use mathlib.Core.Path.{◌≡◌, refl, sym, ap, ◌∙◌}
use mathlib.Core.List.{List, [], ◌∷◌, ◌++◌}
use mathlib.Core.Bool.{Bool, true, false, ◌&&◌}
use Prim.Native.Nat.{ℕ, zero, suc, ◌+◌, ◌-◌, ◌*◌, ◌^◌, ◌≤◌, ◌<◌, min, max}
use native.Mathlib.Omega.{arith}
use lib.Dec.{eqb, ltb, leb}
use lib.ListN.{length, drop, get_or}
use borrow.Author.Tests.{eqb-true, eq-eqb, ne_eqb, ltb-true, lt-ltb, leb-true, leb-false}
use Rattle.rules.specs.Sizes.{most_blocks}
use Rattle.rules.specs.Bytes.{part}
use Rattle.rules.specs.Extent.{Extent, extent_bytes, decode_extent, extent_end}
use Rattle.rules.specs.Finish.{up_to, from, part_from}
use Rattle.rules.proofs.ListLaws.{test-cases, clash, all-at, if-true, if-false, and_left, and_right, pair_before-cases}
use Rattle.rules.proofs.BookLaws.{length-decode_book, get_or-decode_book}
use Rattle.format.specs.declared.extent.Extent.{Extent as ExtentStruct}
use Rattle.format.specs.Records.{extent_of}
use Rattle.book.specs.Places.{leading, extent_under}
use Rattle.book.proofs.SearchLaws.{leading-passes}
use Rattle.mapping.specs.Entries.{extents_in, ExtentsRight}
use Rattle.finish_extents.specs.Stretch.{push, before, rest, reaches_past, blank, left_of, rest_of, reaches_at, Made, Pushed, Closes}
use Rattle.finish_extents.proofs.JoinLaws.{attach-nothing, push-first}
use Rattle.finish_extents.proofs.MadeLaws.{made_none}

-- ---- before a block

-- an extent that ends by the block is its own part
pub up-all : (e : ExtentStruct) (block : ℕ) (b : Bool) → b ≡ leb (extent_end (extent_of e)) block → b ≡ true → extent_of e ≡ up_to (extent_of e) (min (extent_end (extent_of e)) block)
unfolding extent_of up_to extent_end
up-all e block b q t =
    let l : e.logical + e.count ≤ block = leb-true (e.logical + e.count) block (sym q ∙ t) in
    let m : min (e.logical + e.count) block - e.logical ≡ e.count = omega arith in
    sym (ap (λ (n : ℕ). record { object = e.object; logical = e.logical; physical = e.physical; count = n }) m)

-- where it ends behind it, the block lies in it
pub up-less : (e : ExtentStruct) (block : ℕ) (b : Bool) → b ≡ leb (extent_end (extent_of e)) block → b ≡ false → block < e.logical + e.count
unfolding extent_of extent_end
up-less e block b q t = leb-false (e.logical + e.count) block (sym q ∙ t)

-- and the part has the blocks up to it
pub up-cut : (e : ExtentStruct) (block : ℕ) (b : Bool) (n : ℕ) → e.logical < block → b ≡ leb (extent_end (extent_of e)) block → b ≡ false → n ≡ block - e.logical
    → extent_of (record { object = e.object; logical = e.logical; physical = e.physical; count = n }) ≡ up_to (extent_of e) (min (extent_end (extent_of e)) block)
unfolding extent_of up_to extent_end
up-cut e block b n l q t k =
    let g : block < e.logical + e.count = leb-false (e.logical + e.count) block (sym q ∙ t) in
    let m : n ≡ min (e.logical + e.count) block - e.logical = omega arith in
    ap (λ (x : ℕ). record { object = e.object; logical = e.logical; physical = e.physical; count = x }) m

-- an extent of the file that stands before the block starts before it
pub under-starts : (e : ExtentStruct) (object block : ℕ) → extent_under object block (extent_of e) ≡ true → e.object ≡ object → e.logical < block
unfolding extent_of
under-starts e object block t q = pair_before-cases (e.logical < block) e.object e.logical object block t (λ l. absurd (omega arith)) (λ p l. l)

-- one of another file stays whole
pub before-other : (e : ExtentStruct) (object block : ℕ) → (e.object ≡ object → ⊥) → extent_of e ≡ before object block (extent_of e)
unfolding extent_of before
before-other e object block n = sym (if-false (eqb e.object object) (up_to (extent_of e) (min (extent_end (extent_of e)) block)) (extent_of e) (ne_eqb e.object object n))

-- one of this file is cut
pub before_same : (e : ExtentStruct) (object block : ℕ) (x : Extent) → e.object ≡ object → x ≡ up_to (extent_of e) (min (extent_end (extent_of e)) block) → x ≡ before object block (extent_of e)
unfolding extent_of before
before_same e object block x q h = h ∙ sym (if-true (eqb e.object object) (up_to (extent_of e) (min (extent_end (extent_of e)) block)) (extent_of e) (eq-eqb e.object object q))

-- ---- from a block on

-- its part
pub from_cut : (e : ExtentStruct) (block gone p n : ℕ) → e.logical ≤ block → block < e.logical + e.count → gone ≡ block - e.logical → p ≡ e.physical + gone → n ≡ e.count - gone
    → extent_of (record { object = e.object; logical = block; physical = p; count = n }) ≡ from (extent_of e) (max (extent_of e).logical block)
unfolding extent_of from extent_end
from_cut e block gone p n l g k q r =
    let m : max e.logical block ≡ block = omega arith in
    let u : p ≡ e.physical + (block - e.logical) = omega arith in
    let v : n ≡ e.logical + e.count - block = omega arith in
    rw (m, u, v) refl

-- ---- lists

-- behind the end there is nothing
drop_all : {A : Type 0} (n : ℕ) (xs : List A) → length xs ≤ n → drop n xs ≡ []
drop_all zero [] l = refl
drop_all zero (x ∷ xs) l = absurd (omega arith)
drop_all (suc n) [] l = refl
drop_all (suc n) (x ∷ xs) l = drop_all n xs (omega arith)

-- the element at a place, and those behind it
drop-at-place : (es : List Extent) (j : ℕ) → j < length es → drop j es ≡ get_or es j blank ∷ drop (j + 1) es
drop-at-place [] j l = absurd (omega arith)
drop-at-place (e ∷ es) zero l = refl
drop-at-place (e ∷ es) (suc j) l = let m : suc j + 1 ≡ suc (j + 1) = omega arith in rw m (drop-at-place es j (omega arith))

-- ---- in a book

-- the extent at a place
at_place : (n i : ℕ) (s : List ℕ) → i < n → get_or (extents_in n s) i blank ≡ decode_extent (part (33 * i) extent_bytes s)
at_place n i s l = get_or-decode_book decode_extent extent_bytes n s i blank l

-- so many are in a book
book-length : (n : ℕ) (s : List ℕ) → length (extents_in n s) ≡ n
book-length n s = length-decode_book decode_extent extent_bytes n s

-- none stands in front of the first place
pub at_none : (object block j : ℕ) (es : List Extent) → j ≡ 0 → false ≡ reaches_at object block es j
unfolding reaches_at
at_none object block zero es q = refl
at_none object block (suc j) es q = absurd (omega arith)

-- what is read in front of another is that extent
pub at_some : (object block n j : ℕ) (s : List ℕ) (x : Extent) (r : Bool) → (j ≡ 0 → ⊥) → j ≤ n → x ≡ decode_extent (part (33 * (j - 1)) extent_bytes s) → r ≡ reaches_past object block x
    → r ≡ reaches_at object block (extents_in n s) j
unfolding reaches_at
at_some object block n zero s x r k l q t = absurd (k refl)
at_some object block n (suc j) s x r k l q t =
    let m : suc j - 1 ≡ j = omega arith in
    t ∙ ap (reaches_past object block) ((rw m at q) ∙ sym (at_place n j s l))

-- ---- what is left before

-- nothing, where none stands in front
pub left-none : (object block i : ℕ) (es : List Extent) (s : List ℕ) → i ≡ 0 → Made 0 s (left_of object block es i)
unfolding left_of
left-none object block zero es s q = made_none s
left-none object block (suc i) es s q = absurd (omega arith)

-- the extent in front of the place starts before the block
pub left-under : (object block n i : ℕ) (s : List ℕ) (x : Extent) → (i ≡ 0 → ⊥) → i ≤ n → i ≡ leading (extent_under object block) (extents_in n s) → x ≡ decode_extent (part (33 * (i - 1)) extent_bytes s)
    → extent_under object block x ≡ true
left-under object block n i s x k l h q =
    rw (q, ← at_place n (i - 1) s (omega arith)) (leading-passes (extent_under object block) blank (extents_in n s) (i - 1) (omega arith))

-- its part is put into the buffer
pub left-some : (object block n i : ℕ) (s : List ℕ) (x y : Extent) (r : ℕ) (m t : List ℕ) → (i ≡ 0 → ⊥) → i ≤ n → x ≡ decode_extent (part (33 * (i - 1)) extent_bytes s) → y ≡ before object block x
    → Pushed 0 m y r t → Made r t (left_of object block (extents_in n s) i)
unfolding left_of
left-some object block n zero s x y r m t k l q p h = absurd (k refl)
left-some object block n (suc i) s x y r m t k l q p h =
    let e : suc i - 1 ≡ i = omega arith in
    let z : y ≡ before object block (get_or (extents_in n s) i blank) = p ∙ ap (before object block) ((rw e at q) ∙ sym (at_place n i s l)) in
    rw (push-first y, z) at (h [] (made_none m))

-- ---- what is left behind

-- nothing, where no extent stands there
pub next-none : (n j count : ℕ) (b s : List ℕ) → j ≡ n → Closes (drop j (extents_in n b)) (extents_in n b) count s count s n
next-none n j count b s q ms h =
    let z : drop n (extents_in n b) ≡ [] = drop_all n (extents_in n b) (omega (arith, book-length n b)) in
    record { right = []; tail = record { parts = rw q refl; ended = λ e. z; one = omega arith }; held = rw (attach-nothing ms) h }

-- the first that stands there
pub next-some : (n j count : ℕ) (b s : List ℕ) (x : Extent) (m : ℕ) (t : List ℕ) → (j ≡ n → ⊥) → j ≤ n → x ≡ decode_extent (part (33 * j) extent_bytes b) → Pushed count s x m t
    → Closes (drop j (extents_in n b)) (extents_in n b) count s m t (j + 1)
unfolding push
next-some n j count b s x m t k l q p ms h =
    let z : drop j (extents_in n b) ≡ get_or (extents_in n b) j blank ∷ drop (j + 1) (extents_in n b) = drop-at-place (extents_in n b) j (omega (arith, book-length n b)) in
    let y : get_or (extents_in n b) j blank ≡ x = at_place n j b (omega arith) ∙ sym q in
    record { right = x ∷ []; tail = record { parts = z ∙ ap (λ (e : Extent). e ∷ drop (j + 1) (extents_in n b)) y; ended = λ e. absurd (omega arith); one = omega arith }; held = p ms h }

-- an extent that reaches past the block is of the file
past-file : (object block : ℕ) (x : Extent) → reaches_past object block x ≡ true → x.object ≡ object
unfolding reaches_past
past-file object block x t = eqb-true x.object object (and_left (eqb x.object object) (ltb block (extent_end x)) t)

-- and ends behind it
past_end : (object block : ℕ) (x : Extent) → reaches_past object block x ≡ true → block < x.logical + x.count
unfolding reaches_past extent_end
past_end object block x t = ltb-true block (x.logical + x.count) (and_right (eqb x.object object) (ltb block (x.logical + x.count)) t)

-- it has a part there
past-rest : (object block : ℕ) (x : Extent) → reaches_past object block x ≡ true → rest object block x ≡ from x (max x.logical block) ∷ []
unfolding rest part_from extent_end
past-rest object block x t =
    if-true (eqb x.object object) (part_from x block) [] (eq-eqb x.object object (past-file object block x t))
    ∙ if-true (ltb block (x.logical + x.count)) (from x (max x.logical block) ∷ []) [] (lt-ltb block (x.logical + x.count) (past_end object block x t))

-- one that does not has none
past-none : (object block : ℕ) (x : Extent) → reaches_past object block x ≡ false → rest object block x ≡ []
unfolding rest part_from reaches_past
past-none object block x t =
    test-cases (rest object block x ≡ []) (eqb x.object object)
    (λ q. if-true (eqb x.object object) (part_from x block) [] q ∙ if-false (ltb block (extent_end x)) (from x (max x.logical block) ∷ []) [] (sym (ap (λ b. b && ltb block (extent_end x)) q) ∙ t))
    (λ q. if-false (eqb x.object object) (part_from x block) [] q)

-- where one reaches past the block there is one
pub rest-there : (object block j : ℕ) (es : List Extent) → reaches_at object block es j ≡ true → 0 < j
unfolding reaches_at
rest-there object block zero es t = absurd (clash refl t)
rest-there object block (suc j) es t = omega arith

-- it is what is read there
rest_read : (object block n j : ℕ) (s : List ℕ) (x : Extent) → j ≤ n → reaches_at object block (extents_in n s) j ≡ true → x ≡ decode_extent (part (33 * (j - 1)) extent_bytes s) → reaches_past object block x ≡ true
unfolding reaches_at
rest_read object block n zero s x l t q = absurd (clash refl t)
rest_read object block n (suc j) s x l t q = let m : suc j - 1 ≡ j = omega arith in rw (q, m, ← at_place n j s l) t

-- and it can be cut
pub rest-cut : (object block n j : ℕ) (s : List ℕ) (e : ExtentStruct) → ExtentsRight most_blocks n s → j ≤ n → j ≡ leading (extent_under object block) (extents_in n s)
    → reaches_at object block (extents_in n s) j ≡ true → extent_of e ≡ decode_extent (part (33 * (j - 1)) extent_bytes s)
    → ((e.logical ≤ block) × (block < e.logical + e.count)) × (e.physical + e.count < 2 ^ 64)
unfolding extent_of
rest-cut object block n j s e w l h t q =
    let k : 0 < j = rest-there object block j (extents_in n s) t in
    let p : reaches_past object block (extent_of e) ≡ true = rest_read object block n j s (extent_of e) l t q in
    let u : e.logical < block = under-starts e object block (left-under object block n j s (extent_of e) (λ z. omega arith) l h q) (past-file object block (extent_of e) p) in
    let v : leb (e.physical + e.count) most_blocks ≡ true =
    rw (at_place n (j - 1) s (omega arith), ← q) at (all-at (λ x. leb (x.physical + x.count) most_blocks) (extents_in n s) w.device (j - 1) blank (omega (arith, book-length n s))) in
    ((omega arith, past_end object block (extent_of e) p), omega (arith, leb-true (e.physical + e.count) most_blocks v))

-- its part is all that is left of it
rest-one : (object block n j : ℕ) (b : List ℕ) (x y : Extent) → j ≤ n → reaches_at object block (extents_in n b) j ≡ true → x ≡ decode_extent (part (33 * (j - 1)) extent_bytes b)
    → y ≡ from x (max x.logical block) → rest_of object block (extents_in n b) j ≡ y ∷ []
unfolding rest_of
rest-one object block n zero b x y l k q p = absurd (omega (arith, rest-there object block 0 (extents_in n b) k))
rest-one object block n (suc i) b x y l k q p =
    let z : suc i - 1 ≡ i = omega arith in
    let a : get_or (extents_in n b) i blank ≡ x = at_place n i b l ∙ sym (rw z at q) in
    rw a (past-rest object block x (rest_read object block n (suc i) b x l k q) ∙ ap (λ (e : Extent). e ∷ []) (sym p))

-- its part is put behind
pub rest_some : (object block n j count : ℕ) (b s : List ℕ) (x y : Extent) (m : ℕ) (t : List ℕ) → j ≤ n → reaches_at object block (extents_in n b) j ≡ true
    → x ≡ decode_extent (part (33 * (j - 1)) extent_bytes b) → y ≡ from x (max x.logical block) → Pushed count s y m t
    → Closes (rest_of object block (extents_in n b) j ++ drop j (extents_in n b)) (extents_in n b) count s m t j
unfolding push
rest_some object block n j count b s x y m t l k q p h ms g =
    record { right = y ∷ []; tail = record { parts = ap (λ (es : List Extent). es ++ drop j (extents_in n b)) (rest-one object block n j b x y l k q p); ended = λ e. absurd (omega arith); one = omega arith }; held = h ms g }

-- where none reaches past the block, all that is behind is the next and the others
pub right-next : (object block j : ℕ) (es : List Extent) (r : Bool) (n : ℕ) (s : List ℕ) (m : ℕ) (t : List ℕ) (k : ℕ) → r ≡ reaches_at object block es j → r ≡ false
    → Closes (drop j es) es n s m t k → Closes (rest_of object block es j ++ drop j es) es n s m t k
right-next object block j es r n s m t k q o h = rw (none_left j es (sym q ∙ o)) h
  where
    none_left : (i : ℕ) (fs : List Extent) → reaches_at object block fs i ≡ false → rest_of object block fs i ≡ []
    none_left zero fs u = unfold rest_of in refl
    none_left (suc i) fs u = unfold rest_of reaches_at in past-none object block (get_or fs i blank) u

-- a test that was passed
pub passed : (a b : Bool) → a ≡ b → a ≡ true → b ≡ true
passed a b p q = sym p ∙ q
