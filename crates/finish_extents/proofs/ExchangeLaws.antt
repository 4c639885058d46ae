-- What the steps of the code come to: the finished extents as an exchange in the book, and the book's bytes after it.
-- Assumes nothing.
use mathlib.Core.Path.{◌≡◌, refl, sym, ap, ◌∙◌}
use mathlib.Core.List.{List, [], ◌∷◌, ◌++◌, map, flat_map}
use mathlib.Core.Bool.{true}
use Prim.Native.Nat.{ℕ, zero, suc, ◌+◌, ◌-◌, ◌*◌, ◌^◌, ◌≤◌, ◌<◌}
use native.Mathlib.Decide.{dec_lt}
use native.Mathlib.Omega.{arith}
use lib.Dec.{ltb, leb}
use lib.ListN.{length, take, drop, get_or, length-append, length-drop}
use lib.Seq.{take-take, length-take-le}
use borrow.Author.Tests.{leb-true, ltb-true}
use Rattle.rules.specs.Lists.{all, ascending}
use Rattle.rules.specs.Sizes.{most_blocks}
use Rattle.rules.specs.Bytes.{Bytes, pieces}
use Rattle.rules.specs.Extent.{Extent, extent_bytes, encode_extent, decode_extent, extent_fixed}
use Rattle.rules.specs.Book.{decode_book, encode_book}
use Rattle.rules.specs.Rewrite.{Rewritten}
use Rattle.rules.specs.Finish.{attach, finished_extents}
use Rattle.rules.proofs.ListLaws.{test-cases, and_intro, if-true, if-false, pair_before-cases, pair_before-first, pair_before-second, Each, each_all, each_both, ascending-first, ascending-tail}
use Rattle.rules.proofs.BookLaws.{wide-pieces, bytes-pieces, flat_map-pieces, length-decode_book, pieces-same, decode_book-same}
use Rattle.rules.proofs.ExtentLaws.{encode-decode_extent, fixed-encode_extent}
use Rattle.history.proofs.ApartLaws.{Laid, laid_of}
use Rattle.book.specs.Places.{leading, extent_under, Spliced}
use Rattle.book.proofs.InsertLaws.{spliced-book}
use Rattle.mapping.specs.Entries.{extents_in, ExtentsRight}
use Rattle.finish_extents.specs.Stretch.{Describes, Planned, Small, first_block, end_block, singles, push_all, Made, PushedAll, left_of, rest_of, Behind, Closes, Written, Finished, WholeBook}
use Rattle.finish_extents.proofs.FinishedLaws.{finished-stretch}

-- ---- the units

-- ascending numbers: none is more than the last
last-most : (us : List ℕ) → ascending ltb us ≡ true → (i : ℕ) → i < length us → get_or us i 0 ≤ get_or us (length us - 1) 0
last-most [] h i l = absurd (omega arith)
last-most (u ∷ []) h zero l = omega arith
last-most (u ∷ []) h (suc i) l = absurd (omega arith)
last-most (u ∷ v ∷ us) h zero l =
    let p : length (u ∷ v ∷ us) - 1 ≡ suc (length (v ∷ us) - 1) = omega arith in
    let q : u < v = ltb-true u v (ascending-first ltb u v us h) in
    let r : v ≤ get_or (v ∷ us) (length (v ∷ us) - 1) 0 = last-most (v ∷ us) (ascending-tail ltb u (v ∷ us) h) 0 (omega arith) in
    rw p (omega arith)
last-most (u ∷ v ∷ us) h (suc i) l =
    let p : length (u ∷ v ∷ us) - 1 ≡ suc (length (v ∷ us) - 1) = omega arith in
    rw p (last-most (v ∷ us) (ascending-tail ltb u (v ∷ us) h) i (omega arith))

-- past the end stands 0
get_d_past : (us : List ℕ) (i : ℕ) → length us ≤ i → get_or us i 0 ≡ 0
get_d_past [] i l = refl
get_d_past (u ∷ us) zero l = absurd (omega arith)
get_d_past (u ∷ us) (suc i) l = get_d_past us i (omega arith)

-- the units of a plan are small
pub planned-small : (object : ℕ) (us bs : List ℕ) (es : List Extent) → Planned object us bs es → Small us
planned-small object us bs es p i = go (dec_lt i (length us))
  where
    go : Dec (i < length us) → get_or us i 0 < 2 ^ 47
    go (yes l) = omega (arith, last-most us p.order i l, p.small)
    go (no l) = rw (get_d_past us i (omega arith)) (omega arith)

-- the first starts before the last ends
pub planned-order : (object : ℕ) (us bs : List ℕ) (es : List Extent) → Planned object us bs es → first_block us ≤ end_block us
planned-order object us bs es p = omega (arith, last-most us p.order 0 p.some)

-- what is under one block is under a later one, so no fewer are
pub leading-less : (object a b : ℕ) (es : List Extent) → a ≤ b → leading (extent_under object a) es ≤ leading (extent_under object b) es
unfolding leading
leading-less object a b [] l = omega arith
leading-less object a b (e ∷ es) l =
    let k : leading (extent_under object a) es ≤ leading (extent_under object b) es = leading-less object a b es l in
    test-cases _ (extent_under object a e)
    (λ t. rw (if-true (extent_under object a e) (suc (leading (extent_under object a) es)) 0 t, if-true (extent_under object b e) (suc (leading (extent_under object b) es)) 0 (later t)) (omega arith))
    (λ t. rw (if-false (extent_under object a e) (suc (leading (extent_under object a) es)) 0 t) (omega arith))
  where
    later : extent_under object a e ≡ true → extent_under object b e ≡ true
    later t = pair_before-cases (extent_under object b e ≡ true) e.object e.logical object a t
        (λ k. pair_before-first e.object e.logical object b k) (λ q k. pair_before-second e.object e.logical object b q (omega arith))

-- ---- the book

-- a book that keeps the rules is laid as they say
book-laid : (n : ℕ) (s : List ℕ) → ExtentsRight most_blocks n s → Laid (extents_in n s)
book-laid n s w = laid_of (extents_in n s) (record { order = w.order; filled = w.filled; apart = w.apart })

-- and no extent has more blocks than the device
book-counts : (n : ℕ) (s : List ℕ) → ExtentsRight most_blocks n s → Each (λ e. e.count ≤ most_blocks) (extents_in n s)
book-counts n s w =
    each_all (λ e. leb (e.physical + e.count) most_blocks) (λ e t. omega (arith, leb-true (e.physical + e.count) most_blocks t)) (extents_in n s) w.device

-- the steps of the code make the finished extents
pub made_all : (object n i j first end : ℕ) (us bs book : List ℕ) (a b c k : ℕ) (s t v : List ℕ) → ExtentsRight most_blocks n book → Planned object us bs (extents_in n book)
    → first ≡ first_block us → end ≡ end_block us → i ≡ leading (extent_under object first) (extents_in n book) → j ≡ leading (extent_under object end) (extents_in n book)
    → Made a s (left_of object first (extents_in n book) i) → PushedAll a s (singles object us bs (length bs)) b t
    → Closes (rest_of object end (extents_in n book) j ++ drop j (extents_in n book)) (extents_in n book) b t c v k
    → Finished object us bs (extents_in n book) (i - 1) k c v
made_all object n i j first end us bs book a b c k s t v w p ea eb ei ej left blocks right =
    let es : List Extent = extents_in n book in
    let ms : List Extent = push_all (left_of object first es i) (singles object us bs (length bs)) in
    let h : Behind (rest_of object end es j ++ drop j es) es ms c v k = right ms (blocks (left_of object first es i) left) in
    let m : Made c v (attach ms h.right) = h.held in
    record {
      written = rw m.read m.written;
      finished = λ rs d. rw m.read (rw (← ea, ← ei) at (finished-stretch object us bs rs es k h.right (book-laid n book w) (book-counts n book w) p d (rw (ej, eb) at h.tail)));
    }

-- ---- the exchange

-- it starts before it ends
pub starts-before : (object : ℕ) (us bs : List ℕ) (es : List Extent) (i j k : ℕ) → Planned object us bs es → i ≡ leading (extent_under object (first_block us)) es
    → j ≡ leading (extent_under object (end_block us)) es → j ≤ k → i ≤ k
starts-before object us bs es i j k p q r l = omega (arith, leading-less object (first_block us) (end_block us) es (planned-order object us bs es p))

-- told by its place and how many it takes
pub exchanged : (object : ℕ) (us bs : List ℕ) (es : List Extent) (i k m : ℕ) (made : List ℕ) (a b d : ℕ) → Finished object us bs es (i - 1) k m made → a ≡ i - 1 → a + b ≡ k → d ≡ m
    → Finished object us bs es a (a + b) d made
exchanged object us bs es i k m made a b d f p q r = rw (q, p, r) f

-- ---- the book's bytes

-- extents' own bytes have right fixed bytes
all-fixed : (es : List Extent) → all extent_fixed (map encode_extent es) ≡ true
unfolding all
all-fixed [] = refl
all-fixed (e ∷ es) = and_intro (extent_fixed (encode_extent e)) (all extent_fixed (map encode_extent es)) (fixed-encode_extent e) (all-fixed es)

-- what stands in the book after the exchange
pub book-after : (n place cut count : ℕ) (s made t : List ℕ) → Bytes t → WholeBook n s → Written count made → extent_bytes * (n - cut + count) ≤ length s
    → Spliced extent_bytes n place cut count s (take (33 * count - 0) (drop 0 made)) t
    → t ≡ encode_book encode_extent (length s) (take place (extents_in n s) ++ extents_in count made ++ drop (place + cut) (extents_in n s))
book-after n place cut count s made t b w h l q =
    let x : List ℕ = take (33 * count - 0) (drop 0 made) in
    let same : take (extent_bytes * count) x ≡ take (extent_bytes * count) made = take-take (33 * count) (33 * count - 0) made (omega arith) in
    let p : pieces extent_bytes count x ≡ pieces extent_bytes count made = pieces-same extent_bytes count x made same in
    let r : extents_in count x ≡ extents_in count made = decode_book-same decode_extent extent_bytes count x made same in
    let f : all extent_fixed (pieces extent_bytes count x) ≡ true = rw (p, h) (all-fixed (extents_in count made)) in
    rw r at (spliced-book encode_extent decode_extent extent_bytes extent_fixed encode-decode_extent n place cut count s x t (record { places = w.places; zeros = w.zeros; records = w.records }) f l b q)

-- ---- for those who call

-- so it is the book of the finished extents
pub finished-book : (object : ℕ) (us bs : List ℕ) (rs : List Rewritten) (n place cut count : ℕ) (s made t : List ℕ) → Finished object us bs (extents_in n s) place (place + cut) count made → Describes us bs rs
    → t ≡ encode_book encode_extent (length s) (take place (extents_in n s) ++ extents_in count made ++ drop (place + cut) (extents_in n s))
    → t ≡ encode_book encode_extent (length s) (finished_extents object rs (extents_in n s))
finished-book object us bs rs n place cut count s made t f d q = rw (f.finished rs d) q

-- as many are finished as stand in it
pub finished-number : (object : ℕ) (us bs : List ℕ) (rs : List Rewritten) (n place cut count : ℕ) (s made : List ℕ) → place + cut ≤ n → Finished object us bs (extents_in n s) place (place + cut) count made
    → Describes us bs rs → length (finished_extents object rs (extents_in n s)) ≡ n - cut + count
finished-number object us bs rs n place cut count s made l f d =
    let es : List Extent = extents_in n s in
    let m : length es ≡ n = length-decode_book decode_extent extent_bytes n s in
    let a : length (take place es) ≡ place = length-take-le place es (omega arith) in
    ap length (f.finished rs d) ∙ rw (length-append, length-append, a, length-drop (place + cut) es, m, length-decode_book decode_extent extent_bytes count made) (omega arith)

-- the buffer's bytes are those of the extents that were made
pub made_bytes : (count : ℕ) (made : List ℕ) → extent_bytes * count ≤ length made → Bytes made → Written count made → take (extent_bytes * count) made ≡ flat_map encode_extent (extents_in count made)
unfolding decode_book
made_bytes count made l b h =
    let fixed : Each (λ p. extent_fixed p ≡ true) (pieces extent_bytes count made) = each_all extent_fixed (λ p t. t) (pieces extent_bytes count made) (rw h (all-fixed (extents_in count made))) in
    sym (flat_map-pieces encode_extent extent_bytes decode_extent count made
    (each_both {P = λ p. (length p ≡ extent_bytes) × Bytes p} (λ p w t. encode-decode_extent p w.0 w.1 t) (each_both (λ p w c. (w, c)) (wide-pieces extent_bytes count made l) (bytes-pieces extent_bytes count made b)) fixed))
