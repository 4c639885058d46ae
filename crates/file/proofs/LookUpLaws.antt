-- Units looked up one after another.
-- Assumes nothing.
use mathlib.Core.Path.{◌≡◌, sym, ap, ◌∙◌}
use mathlib.Core.List.{List, ◌++◌, map}
use mathlib.Core.Option.{Option}
use Prim.Native.Nat.{ℕ, ◌+◌, ◌-◌, ◌*◌, ◌^◌, ◌≤◌, ◌<◌}
use native.Mathlib.Omega.{arith}
use lib.ListN.{length, take, drop, get_or, length-drop, get_or-append, get_or-map}
use lib.Seq.{take-take, take_at, drop_at, length-take-le, get_or-take, get_or-append-add}
use borrow.Rule.Slice.PartMut.{put_mid, post_of, take_put}
use Rattle.rules.specs.Lists.{range}
use Rattle.rules.specs.Sizes.{unit_blocks, most_blocks}
use Rattle.rules.specs.Bytes.{part}
use Rattle.rules.proofs.ByteLaws.{drop-take}
use Rattle.rules.proofs.ListLaws.{order-cases}
use Rattle.mapping.specs.Entries.{entry_of, entries}
use Rattle.file.specs.LookUp.{EachBlock, EachUnit}

-- before the first
pub no_block : (f : ℕ → Option ℕ) (units old : List ℕ) → EachBlock f 0 units old
no_block f units old = record { each = λ j h. absurd (omega (arith, h)); most = λ i h. absurd (omega (arith, h)) }

-- a part in front of what was put in is as before
front-part : (a n m : ℕ) (xs ys : List ℕ) → a + n ≤ m → take m xs ≡ take m ys → part a n xs ≡ part a n ys
unfolding part
front-part a n m xs ys h e =
    let t : (zs : List ℕ) → take n (drop a zs) ≡ drop a (take (a + n) (take m zs)) = λ zs. sym (drop-take a n zs) ∙ ap (drop a) (sym (take-take (a + n) m zs h)) in
    t xs ∙ ap (λ zs. drop a (take (a + n) zs)) e ∙ sym (t ys)

module _ (f : ℕ → Option ℕ) (units old new : List ℕ) (j k : ℕ) (l : unit_blocks * j + unit_blocks ≤ length old) (n : length new ≡ unit_blocks) where
  -- what stands in the place of the next unit
  next-part : part (unit_blocks * j) unit_blocks (put_mid (unit_blocks * j) k old new) ≡ new
  unfolding part
  next-part =
      let a : length (take (unit_blocks * j) old) ≡ unit_blocks * j = length-take-le (unit_blocks * j) old (omega (arith, l)) in
      ap (take unit_blocks) (drop_at (take (unit_blocks * j) old) (new ++ post_of (unit_blocks * j) k old) (unit_blocks * j) a) ∙ take_at new (post_of (unit_blocks * j) k old) unit_blocks n

  -- one unit more
  pub more-block : EachBlock f j units old → entries new ≡ map f (range (get_or units j 0 * 16) 16) → ((i : ℕ) → get_or new i 0 ≤ most_blocks)
      → EachBlock f (j + 1) units (put_mid (unit_blocks * j) k old new)
  more-block g e m =
      record { each = lt-or-eq; most = below-or-in }
    where
      lt-or-eq : (i : ℕ) → i < j + 1 → entries (part (unit_blocks * i) unit_blocks (put_mid (unit_blocks * j) k old new)) ≡ map f (range (get_or units i 0 * unit_blocks) unit_blocks)
      lt-or-eq i h =
          order-cases _ i j
          (λ b. ap entries (front-part (unit_blocks * i) unit_blocks (unit_blocks * j) (put_mid (unit_blocks * j) k old new) old (omega (arith, b)) (take_put (unit_blocks * j) k old new (omega (arith, l)))) ∙ g.each i b)
          (λ b. rw b (ap entries next-part ∙ e))
          (λ b. absurd (omega (arith, h, b)))

      below-or-in : (i : ℕ) → i < unit_blocks * (j + 1) → get_or (put_mid (unit_blocks * j) k old new) i 0 ≤ most_blocks
      below-or-in i h =
          let a : length (take (unit_blocks * j) old) ≡ unit_blocks * j = length-take-le (unit_blocks * j) old (omega (arith, l)) in
          order-cases _ i (unit_blocks * j)
          (λ b. rw (get_or-append (take (unit_blocks * j) old) (new ++ post_of (unit_blocks * j) k old) 0 i (omega (arith, a, b)) ∙ get_or-take (unit_blocks * j) old i 0 b) (g.most i b))
          (λ b. inside i (omega (arith, b)) h)
          (λ b. inside i (omega (arith, b)) h)
        where
          inside : (i : ℕ) → unit_blocks * j ≤ i → i < unit_blocks * (j + 1) → get_or (put_mid (unit_blocks * j) k old new) i 0 ≤ most_blocks
          inside i b h =
              let a : length (take (unit_blocks * j) old) ≡ unit_blocks * j = length-take-le (unit_blocks * j) old (omega (arith, l)) in
              let p : i ≡ length (take (unit_blocks * j) old) + (i - unit_blocks * j) = omega (arith, a, b) in
              let q : get_or (put_mid (unit_blocks * j) k old new) i 0 ≡ get_or new (i - unit_blocks * j) 0 =
              ap (λ x. get_or (put_mid (unit_blocks * j) k old new) x 0) p
              ∙ get_or-append-add (take (unit_blocks * j) old) (new ++ post_of (unit_blocks * j) k old) (i - unit_blocks * j) 0
              ∙ get_or-append new (post_of (unit_blocks * j) k old) 0 (i - unit_blocks * j) (omega (arith, n, b, h)) in
              rw q (m (i - unit_blocks * j))

-- a unit's place in the array
pub block-length : (old : List ℕ) (j l u : ℕ) → length old ≡ l → l ≡ unit_blocks * u → j < u
    → length (take (unit_blocks * j + unit_blocks - unit_blocks * j) (drop (unit_blocks * j) old)) ≡ unit_blocks
block-length old j l u e f h =
    let d : length (drop (unit_blocks * j) old) ≡ length old - unit_blocks * j = length-drop (unit_blocks * j) old in
    let m : unit_blocks * j + unit_blocks - unit_blocks * j ≡ unit_blocks = omega arith in
    rw m (length-take-le unit_blocks (drop (unit_blocks * j) old) (omega (arith, d, e, f, h)))

-- what was looked up of a stretch as long as a unit
pub looked-up : (f : ℕ → Option ℕ) (new : List ℕ) (first m : ℕ) → m ≡ unit_blocks → entries new ≡ map f (range first m) → entries new ≡ map f (range first unit_blocks)
looked-up f new first m h e = rw h at e

-- all of them
pub all_blocks : (f : ℕ → Option ℕ) (units old : List ℕ) (j n : ℕ) → n ≤ j → EachBlock f j units old → EachBlock f n units old
all_blocks f units old j n h g = record { each = λ i b. g.each i (omega (arith, b)); most = λ i b. g.most i (omega (arith, b)) }

-- ---- the checksums

-- the one entry of a unit
entry_first : (f : ℕ → Option ℕ) (new : List ℕ) (u : ℕ) → entries new ≡ map f (range u 1) → entry_of (get_or new 0 0) ≡ f u
unfolding entries range
entry_first f new u e = sym (get_or-map entry_of new 0 0) ∙ ap (λ ys. get_or ys 0 (entry_of 0)) e

-- before the first
pub no-unit : (f : ℕ → Option ℕ) (units slots : List ℕ) → EachUnit f 0 units slots
no-unit f units slots = record { each = λ j h. absurd (omega (arith, h)); most = λ j h. absurd (omega (arith, h)) }

-- a unit's place in the array
pub unit-length : (slots : List ℕ) (j l u : ℕ) → length slots ≡ l → l ≡ u → j < u → length (take (j + 1 - j) (drop j slots)) ≡ 1
unit-length slots j l u e f h =
    let d : length (drop j slots) ≡ length slots - j = length-drop j slots in
    let m : j + 1 - j ≡ 1 = omega arith in
    rw m (length-take-le 1 (drop j slots) (omega (arith, d, e, f, h)))

-- one unit more
pub more-unit : (f : ℕ → Option ℕ) (units slots new : List ℕ) (j m : ℕ) → j < length slots → m ≡ 1 → length new ≡ m → EachUnit f j units slots
    → entries new ≡ map f (range (get_or units j 0) m) → ((i : ℕ) → get_or new i 0 ≤ 2 ^ 32) → EachUnit f (j + 1) units (put_mid j (j + 1 - j) slots new)
more-unit f units slots new j m l o n g e h =
    record {
      each = λ i b. cases i b (λ x. entry_of x ≡ f (get_or units i 0)) (g.each i) (λ q. rw q first);
      most = λ i b. cases i b (λ x. x ≤ 2 ^ 32) (g.most i) (λ q. h 0);
    }
  where
    a : length (take j slots) ≡ j
    a = length-take-le j slots (omega (arith, l))

    first : entry_of (get_or new 0 0) ≡ f (get_or units j 0)
    first = entry_first f new (get_or units j 0) (rw o at e)

    cases : (i : ℕ) → i < j + 1 → (P : ℕ → Type 0) → (i < j → P (get_or slots i 0)) → (i ≡ j → P (get_or new 0 0)) → P (get_or (put_mid j (j + 1 - j) slots new) i 0)
    cases i b P p q =
        order-cases _ i j
        (λ c. rw (get_or-append (take j slots) (new ++ post_of j (j + 1 - j) slots) 0 i (omega (arith, a, c)) ∙ get_or-take j slots i 0 c) (p c))
        (λ c. rw (at_place i c) (q c))
        (λ c. absurd (omega (arith, b, c)))
      where
        at_place : (i : ℕ) → i ≡ j → get_or (put_mid j (j + 1 - j) slots new) i 0 ≡ get_or new 0 0
        at_place i c =
            let p : i ≡ length (take j slots) + 0 = omega (arith, a, c) in
            ap (λ x. get_or (put_mid j (j + 1 - j) slots new) x 0) p ∙ get_or-append-add (take j slots) (new ++ post_of j (j + 1 - j) slots) 0 0
            ∙ get_or-append new (post_of j (j + 1 - j) slots) 0 0 (omega (arith, n, o))

-- all of them
pub all-units : (f : ℕ → Option ℕ) (units slots : List ℕ) (j n : ℕ) → n ≤ j → EachUnit f j units slots → EachUnit f n units slots
all-units f units slots j n h g = record { each = λ i b. g.each i (omega (arith, b)); most = λ i b. g.most i (omega (arith, b)) }
