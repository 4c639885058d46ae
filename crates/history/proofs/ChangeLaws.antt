-- A change to a file and to its plain array: which bytes stay, what a rewritten unit's bytes are, and which units a change leaves out.
-- Assumes nothing.
use mathlib.Core.Path.{◌≡◌, refl, sym, ap, ◌∙◌}
use mathlib.Core.Logic.{◌⊎◌, inl, inr}
use mathlib.Core.List.{List, [], ◌∷◌, ◌++◌}
use mathlib.Core.Bool.{Bool, true, false, not, ◌&&◌, ◌||◌}
use Prim.Native.Nat.{ℕ, zero, suc, ◌+◌, ◌-◌, ◌*◌, ◌/◌, ◌%◌, min, max, ◌≤◌, ◌<◌}
use native.Mathlib.Decide.{dec_le, dec_lt}
use native.Mathlib.Omega.{arith}
use lib.Dec.{eqb, ltb, leb}
use lib.ListN.{length, take, get_or, replicate, length-append, length-take, length-replicate, get_or-eq_default}
use lib.Seq.{ext_get_or}
use borrow.Author.Tests.{eqb-true, eqb-false, eq-eqb, ltb-true, ltb-false, le-ltb, leb-true, not-true, not-false}
use Rattle.rules.specs.Lists.{range, filter, member, ascending, begun, neighbours}
use Rattle.rules.specs.Sizes.{block_bytes, unit_bytes, most_transfer}
use Rattle.rules.specs.Bytes.{part, patch, padded}
use Rattle.rules.specs.Units.{Change, change_end, clipped, write_change, grow_change, touched_units, partial_tail, write_units, grow_units, valid_length, written_in, covers_old, reads_old, written_from, written_to, written_part, touches, assembled}
use Rattle.rules.specs.Kept.{intact}
use Rattle.rules.specs.Plain.{overwrite}
use Rattle.rules.proofs.ListLaws.{clash, test-cases, if-cases, and_left, and_right, and_intro, or-none-right, or-none-left, filter-yes, filter-no, length-range, Each, each_none, each_more, each_weaken}
use Rattle.rules.proofs.ByteLaws.{length_part, get_d_part, length-patch, get_or-patch, get_or-patch-before, get_or-patch-behind, length-padded, part-part}
use Rattle.rules.proofs.UnitListLaws.{units_of-some}
use Rattle.rules.proofs.CountLaws.{member-cons, member-range-of, each-range, ascending-cons}
use Rattle.history.proofs.MoreBytes.{get_or-padded, get_or-patch-after, length-part-min, length-patch-past, zero-part}

-- ---- a change

-- the plain array xs becomes ys by the change
pub record Becomes (c : Change) (xs ys : List ℕ) : Type 0 where
  pub old : c.old_size ≡ length xs
  pub new : c.new_size ≡ length ys
  pub more : length xs ≤ length ys
  pub end : c.offset + length c.bytes ≤ length ys
  pub written : (i : ℕ) → i < length c.bytes → get_or ys (c.offset + i) 0 ≡ get_or c.bytes i 0
  pub before : (i : ℕ) → i < c.offset → get_or ys i 0 ≡ get_or xs i 0
  pub behind : (i : ℕ) → c.offset + length c.bytes ≤ i → get_or ys i 0 ≡ get_or xs i 0

-- what a write does to the plain array
pub write-becomes : (object offset : ℕ) (bytes xs : List ℕ) → Becomes (write_change object (length xs) offset bytes) xs (overwrite offset (take most_transfer bytes) xs)
unfolding write_change overwrite clipped
write-becomes object offset bytes xs =
    let new : List ℕ = take most_transfer bytes in
    let p : List ℕ = padded offset xs in
    let k : length p ≡ max offset (length xs) = unfold padded in (length-append xs (replicate (offset - length xs) 0) ∙ (rw (length-replicate {A = ℕ} (offset - length xs) 0) (omega arith))) in
    let n : length (patch p offset new) ≡ max (length p) (offset + length new) = length-patch-past p offset new (omega arith) in
    record {
      old = refl;
      new = omega arith;
      more = omega arith;
      end = omega arith;
      written = λ i l. get_or-patch p offset i new l (omega arith);
      before = λ i l. get_or-patch-before p offset i new l (omega arith) ∙ get_or-padded offset xs i;
      behind = λ i l. get_or-patch-after p offset i new (omega arith) l ∙ get_or-padded offset xs i;
    }

-- what a grow does to it
pub grow-becomes : (object size : ℕ) (xs : List ℕ) → length xs ≤ size → Becomes (grow_change object (length xs) size) xs (padded size xs)
unfolding grow_change
grow-becomes object size xs l =
    let n : length (padded size xs) ≡ size = length-padded size xs l in
    record {
      old = refl;
      new = sym n;
      more = omega arith;
      end = omega arith;
      written = λ i m. absurd (omega arith);
      before = λ i m. get_or-padded size xs i;
      behind = λ i m. get_or-padded size xs i;
    }

module _ (c : Change) (xs ys : List ℕ) (h : Becomes c xs ys) (u : ℕ) where
  -- the unit's valid length is that of its part of the array
  pub valid-new : valid_length c.new_size u ≡ length (part (u * unit_bytes) unit_bytes ys)
  unfolding valid_length
  valid-new = rw (length-part-min ys (u * unit_bytes) unit_bytes, h.new) (omega arith)

  -- before the change too
  pub valid-old : valid_length c.old_size u ≡ length (part (u * unit_bytes) unit_bytes xs)
  unfolding valid_length
  valid-old = rw (length-part-min xs (u * unit_bytes) unit_bytes, h.old) (omega arith)

  -- a byte of a stretch in which none is written stays
  unwritten : (a b : ℕ) → written_in c a b ≡ false → (i : ℕ) → a ≤ i → i < b → get_or ys i 0 ≡ get_or xs i 0
  unfolding written_in change_end
  unwritten a b t i l m = go (dec_lt i c.offset)
    where
      n : min (c.offset + length c.bytes) b ≤ max c.offset a
      n = ltb-false (max c.offset a) (min (c.offset + length c.bytes) b) t

      go : Dec (i < c.offset) → get_or ys i 0 ≡ get_or xs i 0
      go (yes q) = h.before i q
      go (no q) = h.behind i (omega (arith, n))

  -- a byte of an untouched unit stays
  untouched-byte : touches c u ≡ false → (j : ℕ) → j < unit_bytes → get_or ys (u * unit_bytes + j) 0 ≡ get_or xs (u * unit_bytes + j) 0
  unfolding touches
  untouched-byte t j l = unwritten (u * unit_bytes) (u * unit_bytes + unit_bytes) t (u * unit_bytes + j) (omega arith) (omega arith)

  -- an untouched unit of the same length stays
  pub untouched-part : touches c u ≡ false → valid_length c.old_size u ≡ valid_length c.new_size u → part (u * unit_bytes) unit_bytes ys ≡ part (u * unit_bytes) unit_bytes xs
  untouched-part t e =
      ext_get_or 0 (part (u * unit_bytes) unit_bytes ys) (part (u * unit_bytes) unit_bytes xs) (sym valid-new ∙ sym e ∙ valid-old)
      (λ i l. let q : i < unit_bytes = omega (arith, length-part-min ys (u * unit_bytes) unit_bytes) in
      get_d_part ys (u * unit_bytes) unit_bytes i q ∙ untouched-byte t i q ∙ sym (get_d_part xs (u * unit_bytes) unit_bytes i q))

  -- an untouched unit of zeros stays one
  pub untouched-zeros : touches c u ≡ false → ((j : ℕ) → j < unit_bytes → get_or xs (u * unit_bytes + j) 0 ≡ 0) → part (u * unit_bytes) unit_bytes ys ≡ replicate (length (part (u * unit_bytes) unit_bytes ys)) 0
  untouched-zeros t z = zero-part ys (u * unit_bytes) unit_bytes (λ j l. untouched-byte t j l ∙ z j l)

  -- a block that is kept has the same bytes
  pub settled-part : (i : ℕ) → intact c u i ≡ true → part (i * block_bytes) block_bytes (part (u * unit_bytes) unit_bytes xs) ≡ part (i * block_bytes) block_bytes (part (u * unit_bytes) unit_bytes ys)
  unfolding intact valid_length
  settled-part i s =
      let w : Bool = written_in c (u * unit_bytes + i * block_bytes) (u * unit_bytes + suc i * block_bytes) in
      let q : suc i * block_bytes ≤ min (min (c.old_size - u * unit_bytes) unit_bytes) (min (c.new_size - u * unit_bytes) unit_bytes) =
      leb-true (suc i * block_bytes) (min (min (c.old_size - u * unit_bytes) unit_bytes) (min (c.new_size - u * unit_bytes) unit_bytes)) (and_left _ (not w) s) in
      let t : w ≡ false = not-true w (and_right (leb (suc i * block_bytes) (min (min (c.old_size - u * unit_bytes) unit_bytes) (min (c.new_size - u * unit_bytes) unit_bytes))) (not w) s) in
      let a : ℕ = u * unit_bytes + i * block_bytes in
      let lx : length (part a block_bytes xs) ≡ block_bytes = length_part xs a block_bytes (omega (arith, h.old)) in
      let ly : length (part a block_bytes ys) ≡ block_bytes = length_part ys a block_bytes (omega (arith, h.new)) in
      part-part xs (u * unit_bytes) unit_bytes (i * block_bytes) block_bytes (omega arith)
      ∙ ext_get_or 0 (part a block_bytes xs) (part a block_bytes ys) (lx ∙ sym ly)
      (λ j l. let k : j < block_bytes = omega arith in
      get_d_part xs a block_bytes j k ∙ sym (unwritten (u * unit_bytes + i * block_bytes) (u * unit_bytes + suc i * block_bytes) t (a + j) (omega arith) (omega arith)) ∙ sym (get_d_part ys a block_bytes j k))
      ∙ sym (part-part ys (u * unit_bytes) unit_bytes (i * block_bytes) block_bytes (omega arith))

  -- a block that is kept is a whole one
  pub settled-whole : (i : ℕ) → intact c u i ≡ true → (suc i * block_bytes ≤ valid_length c.old_size u) × (suc i * block_bytes ≤ valid_length c.new_size u)
  unfolding intact
  settled-whole i s =
      let q : suc i * block_bytes ≤ min (valid_length c.old_size u) (valid_length c.new_size u) =
      leb-true (suc i * block_bytes) (min (valid_length c.old_size u) (valid_length c.new_size u)) (and_left _ (not (written_in c (u * unit_bytes + i * block_bytes) (u * unit_bytes + suc i * block_bytes))) s) in
      (omega arith, omega arith)

  -- ---- the assembled unit

  -- the old bytes that a unit is assembled from are those of the array where none is written
  pub record Stays (old : List ℕ) : Type 0 where
    pub short : length old ≤ valid_length c.new_size u
    pub same : (j : ℕ) → j < unit_bytes → (u * unit_bytes + j < c.offset) ⊎ (c.offset + length c.bytes ≤ u * unit_bytes + j) → get_or old j 0 ≡ get_or xs (u * unit_bytes + j) 0

  module _ (old : List ℕ) (o : Stays old) where
    -- a byte of it that is not written
    kept_byte : (i : ℕ) → i < unit_bytes → (u * unit_bytes + i < c.offset) ⊎ (c.offset + length c.bytes ≤ u * unit_bytes + i) → get_or old i 0 ≡ get_or ys (u * unit_bytes + i) 0
    kept_byte i l (inl q) = o.same i l (inl q) ∙ sym (h.before (u * unit_bytes + i) q)
    kept_byte i l (inr q) = o.same i l (inr q) ∙ sym (h.behind (u * unit_bytes + i) q)

    -- the valid bytes before the written ones are put over them
    base : List ℕ
    base = padded (valid_length c.new_size u) old

    -- as many as are valid
    length-base : length base ≡ valid_length c.new_size u
    unfolding base
    length-base = length-padded (valid_length c.new_size u) old o.short

    -- an untouched unit is assembled from its old bytes
    assembled-bare : touches c u ≡ false → base ≡ part (u * unit_bytes) unit_bytes ys
    unfolding base
    assembled-bare t =
        ext_get_or 0 base (part (u * unit_bytes) unit_bytes ys) (length-base ∙ valid-new)
        (λ i l. let q : i < unit_bytes = omega (arith, length-part-min ys (u * unit_bytes) unit_bytes, valid-new, length-base) in
        get_or-padded (valid_length c.new_size u) old i ∙ kept_byte i q (place i q) ∙ sym (get_d_part ys (u * unit_bytes) unit_bytes i q))
      where
        n : min (c.offset + length c.bytes) (u * unit_bytes + unit_bytes) ≤ max c.offset (u * unit_bytes)
        n = unfold touches written_in change_end in ltb-false (max c.offset (u * unit_bytes)) (min (c.offset + length c.bytes) (u * unit_bytes + unit_bytes)) t

        go : (i : ℕ) → i < unit_bytes → Dec (u * unit_bytes + i < c.offset) → (u * unit_bytes + i < c.offset) ⊎ (c.offset + length c.bytes ≤ u * unit_bytes + i)
        go i q (yes p) = inl p
        go i q (no p) = inr (omega (arith, n))

        place : (i : ℕ) → i < unit_bytes → (u * unit_bytes + i < c.offset) ⊎ (c.offset + length c.bytes ≤ u * unit_bytes + i)
        place i q = go i q (dec_lt (u * unit_bytes + i) c.offset)

    -- a touched one from them and the caller's part
    assembled-over : touches c u ≡ true → patch base (written_from c u - u * unit_bytes) (written_part c u) ≡ part (u * unit_bytes) unit_bytes ys
    unfolding touches written_in change_end written_from written_to written_part base
    assembled-over t =
        ext_get_or 0 (patch base a w) (part (u * unit_bytes) unit_bytes ys) (length-patch base a w fits ∙ length-base ∙ valid-new)
        (λ i l. let q : i < unit_bytes = omega (arith, length-part-min ys (u * unit_bytes) unit_bytes, valid-new, length-base, length-patch base a w fits) in
        byte i q (dec_lt i a) (dec_lt i (a + length w)) ∙ sym (get_d_part ys (u * unit_bytes) unit_bytes i q))
      where
        p : max c.offset (u * unit_bytes) < min (c.offset + length c.bytes) (u * unit_bytes + unit_bytes)
        p = ltb-true (max c.offset (u * unit_bytes)) (min (c.offset + length c.bytes) (u * unit_bytes + unit_bytes)) t

        a : ℕ
        a = max c.offset (u * unit_bytes) - u * unit_bytes

        d : ℕ
        d = max c.offset (u * unit_bytes) - c.offset

        k : ℕ
        k = min (c.offset + length c.bytes) (u * unit_bytes + unit_bytes) - max c.offset (u * unit_bytes)

        w : List ℕ
        w = part d k c.bytes

        wide : length w ≡ k
        wide = length_part c.bytes d k (omega (arith, p))

        fits : a + length w ≤ length base
        fits = omega (arith, p, wide, length-base, valid-new, length-part-min ys (u * unit_bytes) unit_bytes, h.end)

        byte : (i : ℕ) → i < unit_bytes → Dec (i < a) → Dec (i < a + length w) → get_or (patch base a w) i 0 ≡ get_or ys (u * unit_bytes + i) 0
        byte i q (yes l) m = get_or-patch-before base a i w l (omega (arith, fits)) ∙ get_or-padded (valid_length c.new_size u) old i ∙ kept_byte i q (inl (omega arith))
        byte i q (no l) (yes m) =
            let e : a + (i - a) ≡ i = omega arith in
            let f : c.offset + (d + (i - a)) ≡ u * unit_bytes + i = omega (arith, p) in
            sym (ap (λ (x : ℕ). get_or (patch base a w) x 0) e) ∙ get_or-patch base a (i - a) w (omega arith) (omega (arith, fits))
            ∙ get_d_part c.bytes d k (i - a) (omega (arith, wide)) ∙ sym (h.written (d + (i - a)) (omega (arith, wide, p))) ∙ ap (λ (x : ℕ). get_or ys x 0) f
        byte i q (no l) (no m) =
            get_or-patch-behind base a i w (omega arith) fits ∙ get_or-padded (valid_length c.new_size u) old i ∙ kept_byte i q (inr (omega (arith, p, wide)))

    -- the assembled unit is the unit's part of the array
    pub assembled-is : assembled c u old ≡ part (u * unit_bytes) unit_bytes ys
    unfolding assembled
    assembled-is =
        if-cases (λ (zs : List ℕ). zs ≡ part (u * unit_bytes) unit_bytes ys) (touches c u) _ _ (λ t. unfold base in assembled-over t) (λ t. unfold base in assembled-bare t)

  -- the unit's own part
  pub stays-checked : Stays (part (u * unit_bytes) unit_bytes xs)
  stays-checked = record {
    short = omega (arith, length-part-min xs (u * unit_bytes) unit_bytes, valid-new, length-part-min ys (u * unit_bytes) unit_bytes, h.more);
    same = λ j l q. get_d_part xs (u * unit_bytes) unit_bytes j l;
  }

  -- nothing, where it is zeros
  pub stays-zeros : ((j : ℕ) → j < unit_bytes → get_or xs (u * unit_bytes + j) 0 ≡ 0) → Stays []
  stays-zeros z = record { short = omega arith; same = λ j l q. sym (z j l) }

  -- nothing, where the old bytes are not read
  pub stays-unread : reads_old c u ≡ false → Stays []
  unfolding reads_old covers_old
  stays-unread r = record { short = omega arith; same = λ j l q. sym (get_or-eq_default xs 0 {n = u * unit_bytes + j} (far j l q)) }
    where
      valid : ℕ
      valid = valid_length c.old_size u

      far : (j : ℕ) → j < unit_bytes → (u * unit_bytes + j < c.offset) ⊎ (c.offset + length c.bytes ≤ u * unit_bytes + j) → length xs ≤ u * unit_bytes + j
      far j l q =
          test-cases (length xs ≤ u * unit_bytes + j) (ltb 0 valid)
          (λ t. covered q (not-false _ (right t)))
          (λ t. omega (arith, ltb-false 0 valid t, valid-old, length-part-min xs (u * unit_bytes) unit_bytes))
        where
          right : ltb 0 valid ≡ true → not (leb c.offset (u * unit_bytes) && leb (u * unit_bytes + valid) (change_end c)) ≡ false
          right t = test-cases (not (leb c.offset (u * unit_bytes) && leb (u * unit_bytes + valid) (change_end c)) ≡ false) (not (leb c.offset (u * unit_bytes) && leb (u * unit_bytes + valid) (change_end c)))
              (λ e. absurd (clash r (and_intro (ltb 0 valid) (not (leb c.offset (u * unit_bytes) && leb (u * unit_bytes + valid) (change_end c))) t e))) (λ e. e)

          covered : (u * unit_bytes + j < c.offset) ⊎ (c.offset + length c.bytes ≤ u * unit_bytes + j) → (leb c.offset (u * unit_bytes) && leb (u * unit_bytes + valid) (change_end c)) ≡ true → length xs ≤ u * unit_bytes + j
          covered (inl p) e = absurd (omega (arith, leb-true c.offset (u * unit_bytes) (and_left (leb c.offset (u * unit_bytes)) (leb (u * unit_bytes + valid) (change_end c)) e)))
          covered (inr p) e =
              let f : u * unit_bytes + valid ≤ c.offset + length c.bytes = unfold change_end in leb-true (u * unit_bytes + valid) (change_end c) (and_right (leb c.offset (u * unit_bytes)) (leb (u * unit_bytes + valid) (change_end c)) e) in
              omega (arith, f, valid-old, length-part-min xs (u * unit_bytes) unit_bytes)

-- ---- the units of a change

-- a list of units is a change's: ascending, inside the file, few, and what is left out is untouched and as long as it was, or was past the end
pub record UnitsOf (c : Change) (us : List ℕ) : Type 0 where
  pub ordered : ascending ltb us ≡ true
  pub within : Each (λ u. u * unit_bytes < c.new_size) us
  pub few : length us ≤ 100
  pub rest : (u : ℕ) → member u us ≡ false → (touches c u ≡ false) × ((valid_length c.old_size u ≡ valid_length c.new_size u) ⊎ (c.old_size ≤ u * unit_bytes))

-- a range ascends
ascending-range : (first n : ℕ) → ascending ltb (range first n) ≡ true
unfolding range neighbours
ascending-range first zero = refl
ascending-range first (suc zero) = refl
ascending-range first (suc (suc n)) = ascending-cons first (suc first) (range (suc (suc first)) n) (omega arith) (ascending-range (suc first) (suc n))

-- a unit that is not the tail of a file is as long as it was in a longer one, or lies past the end
valid_same : (old new u : ℕ) → old ≤ new → (old % unit_bytes ≡ 0) ⊎ (u ≡ old / unit_bytes → ⊥) → (valid_length old u ≡ valid_length new u) ⊎ (old ≤ u * unit_bytes)
valid_same old new u l t = go t (dec_le old (u * unit_bytes))
  where
    go : (old % unit_bytes ≡ 0) ⊎ (u ≡ old / unit_bytes → ⊥) → Dec (old ≤ u * unit_bytes) → (valid_length old u ≡ valid_length new u) ⊎ (old ≤ u * unit_bytes)
    go x (yes p) = inr p
    go (inl e) (no p) = inl (unfold valid_length in omega arith)
    go (inr d) (no p) =
        let q : u < old / unit_bytes = near (dec_lt u (old / unit_bytes)) in
        inl (unfold valid_length in omega arith)
      where
        near : Dec (u < old / unit_bytes) → u < old / unit_bytes
        near (yes q) = q
        near (no q) = absurd (d (omega arith))

-- the tail of a file stands in its list
tail-there : (size u : ℕ) → member u (partial_tail size) ≡ false → (size % unit_bytes ≡ 0) ⊎ (u ≡ size / unit_bytes → ⊥)
unfolding partial_tail
tail-there size u =
    if-cases (λ (us : List ℕ). member u us ≡ false → (size % unit_bytes ≡ 0) ⊎ (u ≡ size / unit_bytes → ⊥)) (eqb (size % unit_bytes) 0) [] (size / unit_bytes ∷ [])
    (λ e m. inl (eqb-true (size % unit_bytes) 0 e))
    (λ e m. inr (λ q. clash (or-none-left (eqb u (size / unit_bytes)) (member u []) (sym (member-cons u (size / unit_bytes) []) ∙ m)) (eq-eqb u (size / unit_bytes) q)))

-- a grow's units are such a list
pub units-grow : (object old new : ℕ) → old < new → UnitsOf (grow_change object old new) (grow_units (grow_change object old new))
unfolding grow_units grow_change
units-grow object old new l = record {
  ordered = unfold partial_tail in if-cases (λ (us : List ℕ). ascending ltb us ≡ true) (eqb (old % unit_bytes) 0) [] (old / unit_bytes ∷ []) (λ e. unfold neighbours in refl) (λ e. unfold neighbours in refl);
  within = unfold partial_tail in if-cases (λ (us : List ℕ). Each (λ u. u * unit_bytes < new) us) (eqb (old % unit_bytes) 0) [] (old / unit_bytes ∷ []) (λ e. each_none) (λ e. each_more (omega arith) each_none);
  few = unfold partial_tail in if-cases (λ (us : List ℕ). length us ≤ 100) (eqb (old % unit_bytes) 0) [] (old / unit_bytes ∷ []) (λ e. omega arith) (λ e. omega arith);
  rest = λ u m. (unfold touches written_in change_end in le-ltb (max 0 (u * unit_bytes)) (min (0 + 0) (u * unit_bytes + unit_bytes)) (omega arith), valid_same old new u (omega arith) (tail-there old u m));
}

module _ (object old offset : ℕ) (bytes : List ℕ) (s : 0 < length (clipped bytes)) where
  -- the change of a write
  abbrev wc : Change
  wc = write_change object old offset bytes

  -- where it ends
  abbrev we : ℕ
  we = offset + length (clipped bytes)

  -- the size that it leaves
  abbrev wn : ℕ
  wn = max old we

  -- the units that it touches
  abbrev wt : List ℕ
  wt = range (offset / unit_bytes) (begun we unit_bytes - offset / unit_bytes)

  -- at most so many bytes are taken
  clipped-most : length (clipped bytes) ≤ most_transfer
  unfolding clipped
  clipped-most = omega (arith, length-take most_transfer bytes)

  -- what is not among them is untouched
  untouched-there : (u : ℕ) → member u wt ≡ false → touches wc u ≡ false
  unfolding touches written_in change_end write_change
  untouched-there u m =
      test-cases (touches wc u ≡ false) (touches wc u)
      (λ t. let p : max offset (u * unit_bytes) < min we (u * unit_bytes + unit_bytes) = ltb-true (max offset (u * unit_bytes)) (min we (u * unit_bytes + unit_bytes)) t in
      absurd (clash m (member-range-of u (offset / unit_bytes) (begun we unit_bytes - offset / unit_bytes) (omega arith) (omega arith)))) (λ t. t)

  -- each of them lies in the file
  wt-within : Each (λ u. u * unit_bytes < wn) wt
  wt-within = each_weaken (λ u h. omega (arith, h.0, h.1)) (each-range (offset / unit_bytes) (begun we unit_bytes - offset / unit_bytes))

  -- the touched units alone
  bare : ((u : ℕ) → member u wt ≡ false → (valid_length old u ≡ valid_length wn u) ⊎ (old ≤ u * unit_bytes)) → UnitsOf wc wt
  unfolding write_change
  bare h = record {
    ordered = ascending-range (offset / unit_bytes) (begun we unit_bytes - offset / unit_bytes);
    within = wt-within;
    few = omega (arith, length-range (offset / unit_bytes) (begun we unit_bytes - offset / unit_bytes), clipped-most);
    rest = λ u m. (untouched-there u m, h u m);
  }

  -- with the old tail before them
  full : old < we → (old % unit_bytes ≡ 0 → ⊥) → member (old / unit_bytes) wt ≡ false → UnitsOf wc (old / unit_bytes ∷ wt)
  unfolding write_change
  full l z m = record {
    ordered = first (begun we unit_bytes - offset / unit_bytes) refl;
    within = each_more {x = old / unit_bytes} (omega arith) wt-within;
    few = omega (arith, length-range (offset / unit_bytes) (begun we unit_bytes - offset / unit_bytes), clipped-most);
    rest = λ u k. let t : (eqb u (old / unit_bytes) || member u wt) ≡ false = sym (member-cons u (old / unit_bytes) wt) ∙ k in (
      untouched-there u (or-none-right (eqb u (old / unit_bytes)) (member u wt) t),
      valid_same old wn u (omega arith) (inr (eqb-false u (old / unit_bytes) (or-none-left (eqb u (old / unit_bytes)) (member u wt) t))),
    );
  }
    where
      low : old / unit_bytes < offset / unit_bytes
      low = go (dec_lt (old / unit_bytes) (offset / unit_bytes))
        where
          go : Dec (old / unit_bytes < offset / unit_bytes) → old / unit_bytes < offset / unit_bytes
          go (yes p) = p
          go (no p) = absurd (clash m (member-range-of (old / unit_bytes) (offset / unit_bytes) (begun we unit_bytes - offset / unit_bytes) (omega arith) (omega arith)))

      first : (n : ℕ) → begun we unit_bytes - offset / unit_bytes ≡ n → ascending ltb (old / unit_bytes ∷ range (offset / unit_bytes) (begun we unit_bytes - offset / unit_bytes)) ≡ true
      first zero e = rw e (unfold range neighbours in refl)
      first (suc n) e = rw e (unfold range in ascending-cons (old / unit_bytes) (offset / unit_bytes) (range (suc (offset / unit_bytes)) n) low (unfold range in ascending-range (offset / unit_bytes) (suc n)))

  -- a write's units are such a list
  pub units-write : UnitsOf wc (write_units wc)
  units-write = unfold write_units touched_units change_end write_change partial_tail in rw (units_of-some offset we (omega (arith, s))) (
      if-cases (λ (front : List ℕ). UnitsOf wc (front ++ wt)) (ltb old wn) _ []
      (λ l. if-cases (λ (ts : List ℕ). UnitsOf wc (filter (λ u. not (member u wt)) ts ++ wt)) (eqb (old % unit_bytes) 0) [] (old / unit_bytes ∷ [])
      (λ e. unfold filter in bare (λ u m. valid_same old wn u (omega arith) (inl (eqb-true (old % unit_bytes) 0 e))))
      (λ e. test-cases (UnitsOf wc (filter (λ u. not (member u wt)) (old / unit_bytes ∷ []) ++ wt)) (member (old / unit_bytes) wt)
      (λ m. rw (filter-no (λ u. not (member u wt)) (old / unit_bytes) [] (ap not m)) (unfold filter in bare (λ u k. valid_same old wn u (omega arith) (inr (λ q. clash k (rw q m))))))
      (λ m. rw (filter-yes (λ u. not (member u wt)) (old / unit_bytes) [] (ap not m)) (unfold filter in full (omega (arith, ltb-true old wn l)) (eqb-false (old % unit_bytes) 0 e) m))))
      (λ l. bare (λ u m. inl (ap (λ (n : ℕ). valid_length n u) (omega (arith, ltb-false old wn l))))))
