-- Laws of the entries that stay: the loops that choose and clear them, and that they are what the rules keep.
-- Assumes nothing.
use mathlib.Core.Path.{◌≡◌, refl, sym, ap, ◌∙◌}
use mathlib.Core.Logic.{◌⊎◌, inl, inr}
use mathlib.Core.Bool.{Bool, true, false, ◌&&◌}
use mathlib.Core.List.{List, [], ◌∷◌, ◌++◌, map, map-append, append-nil}
use mathlib.Core.Option.{Option, none}
use Prim.Native.Nat.{ℕ, zero, suc, ◌+◌, ◌-◌, ◌*◌, ◌≤◌, ◌<◌, min}
use native.Mathlib.Nat.{zero-add}
use native.Mathlib.Numerals.{add-one}
use native.Mathlib.Decide.{dec_lt}
use native.Mathlib.Omega.{arith}
use lib.Dec.{leb}
use lib.ListN.{length, take, drop, get_or, set, replicate, length-map, length-drop, length-append, drop_of_length-le, length-replicate, get_or-append, get_or-map, replicate-append-replicate}
use lib.Seq.{length-take-le, take-suc-set, take_all, take_at, get_or-append-add}
use borrow.Author.Tests.{lt-leb, le-leb}
use Rattle.rules.specs.Lists.{pick◌then◌else◌, range}
use Rattle.rules.specs.Sizes.{block_bytes, unit_bytes}
use Rattle.rules.specs.Units.{Change, valid_length}
use Rattle.rules.specs.Kept.{intact, blocks_after, candidates, runs, within_limit, retained_blocks}
use Rattle.rules.proofs.ListLaws.{test-cases, if-cases, if-ap, if-true, if-false, length-range, range-add, get_or-map-range, get_or-same}
use Rattle.mapping.specs.Entries.{entry_of, entries, Inside}
use Rattle.kept.specs.Change.{IsChange, intact_at}
use Rattle.kept.specs.Retained.{candidate_entries, limited_entries, FromOld, Retained}
use Rattle.kept.proofs.ChangeLaws.{intact-is}
use Rattle.kept.proofs.EntryLaws.{length-entries, entries_none}

-- ---- the entries of intact blocks

module _ (settled start end from : ℕ) (old : List ℕ) where
  -- one entry
  abbrev entry_at : ℕ → ℕ
  entry_at i = pick intact_at settled start end from i then get_or old i 0 else 0

  -- one entry more
  candidate_entries-last : (i : ℕ) → candidate_entries settled start end from (i + 1) old ≡ candidate_entries settled start end from i old ++ (entry_at i ∷ [])
  unfolding candidate_entries range
  candidate_entries-last i =
      ap (map entry_at) (range-add 0 i 1) ∙ map-append entry_at (range 0 i) (range (0 + i) 1) ∙ ap (λ (k : ℕ). map entry_at (range 0 i) ++ (entry_at k ∷ [])) (zero-add i)

  -- the first i entries are chosen
  pub record Choosing (kept : List ℕ) (i : ℕ) : Type 0 where
    pub list : take i kept ≡ candidate_entries settled start end from i old

  -- none is chosen yet
  pub choosing-none : (kept : List ℕ) → Choosing kept 0
  choosing-none kept = record { list = unfold candidate_entries range in refl }

  module _ (kept : List ℕ) (i : ℕ) (h : Choosing kept i) where
    -- one more is
    pub choosing-more : i < length kept → (t : Bool) → t ≡ intact_at settled start end from i → (v : ℕ) → v ≡ (pick t then get_or old i 0 else 0) → Choosing (set kept i v) (i + 1)
    choosing-more m t q v e =
        let w : v ≡ entry_at i = rw q at e in
        record { list = rw (candidate_entries-last i, ← h.list, ← w, add-one i) (take-suc-set kept i v m) }

    -- all are
    pub choosing-all : i ≡ length kept → (n : ℕ) → length kept ≡ n → kept ≡ candidate_entries settled start end from n old
    choosing-all e n q = sym (take_all i kept (omega arith)) ∙ h.list ∙ rw (e, q) refl

  -- as many as there are blocks
  pub length-candidate_entries : (n : ℕ) → length (candidate_entries settled start end from n old) ≡ n
  unfolding candidate_entries
  length-candidate_entries n = length-map (range 0 n) entry_at ∙ length-range 0 n

  -- the entry at a place
  get_or-candidate_entries : (n i : ℕ) → i < n → get_or (candidate_entries settled start end from n old) i 0 ≡ entry_at i
  unfolding candidate_entries
  get_or-candidate_entries n i l = get_or-map-range entry_at 0 n i 0 l ∙ ap entry_at (zero-add i)

  -- put back before what lay behind them, they are the first ones
  pub choosing-front : (n : ℕ) (kept front : List ℕ) → n ≤ 16 → length kept ≡ 16 → front ≡ candidate_entries settled start end from (length (take n kept)) old
      → (length (front ++ drop n kept) ≡ 16) × (take n (front ++ drop n kept) ≡ candidate_entries settled start end from n old)
  choosing-front n kept front l k e =
      let t : length (take n kept) ≡ n = length-take-le n kept (omega arith) in
      let c : front ≡ candidate_entries settled start end from n old = rw t at e in
      let m : length front ≡ n = ap (λ (xs : List ℕ). length xs) c ∙ length-candidate_entries n in
      let d : length (drop n kept) ≡ length kept - n = length-drop n kept in
      (length-append front (drop n kept) ∙ omega arith, take_at front (drop n kept) n m ∙ c)

-- ---- the limit of runs

module _ (limit n r : ℕ) (kept : List ℕ) (few : length kept ≡ 16) (h : r ≡ runs (entries (take n kept))) where
  -- the blocks form more runs than the limit
  pub limited-over : limit < r → (after : List ℕ) → after ≡ replicate (length kept) 0 → after ≡ limited_entries limit n kept
  unfolding limited_entries
  limited-over l after e =
      let t : leb (runs (entries (take n kept))) limit ≡ false = rw (← h) (lt-leb r limit l) in
      e ∙ rw few (sym (if-false _ (take n kept ++ replicate (16 - n) 0) (replicate 16 0) t))

  -- they do not: zeros are put behind the first n
  pub limited-within : r ≤ limit → n ≤ 16 → (zs : List ℕ) → zs ≡ replicate (length (take (length kept - n) (drop n kept))) 0
      → take n kept ++ (zs ++ drop (length kept - n) (drop n kept)) ≡ limited_entries limit n kept
  unfolding limited_entries
  limited-within l m zs e =
      let t : leb (runs (entries (take n kept))) limit ≡ true = rw (← h) (le-leb r limit l) in
      let d : length (drop n kept) ≡ length kept - n = length-drop n kept in
      let c : length (take (length kept - n) (drop n kept)) ≡ 16 - n = length-take-le (length kept - n) (drop n kept) (omega arith) ∙ ap (λ (k : ℕ). k - n) few in
      let z : drop (length kept - n) (drop n kept) ≡ [] = drop_of_length-le (drop n kept) {i = length kept - n} (omega arith) in
      rw (z, append-nil zs, e, c) (sym (if-true _ (take n kept ++ replicate (16 - n) 0) (replicate 16 0) t))

-- ---- what is kept is what the rules keep

-- the first of many that are alike
take_same : (n m : ℕ) → n ≤ m → take n (replicate m 0) ≡ replicate {A = ℕ} n 0
take_same n m l =
    let e : n + (m - n) ≡ m = omega arith in
    ap (take n) (ap (λ (k : ℕ). replicate {A = ℕ} k 0) (sym e) ∙ sym (replicate-append-replicate n (m - n) 0))
    ∙ take_at (replicate n 0) (replicate (m - n) 0) n (length-replicate n 0)

-- the place of an entry among those kept and those behind
module _ (old after : List ℕ) where
  -- no entry is kept
  pub from-none : (m n : ℕ) → n ≤ 16 → after ≡ replicate m 0 → FromOld old after n
  from-none m n l e =
      let z : (i : ℕ) → get_or after i 0 ≡ 0 = λ i. rw e (get_or-same m 0 i) in
      record { few = l; each = λ i. inl (z i); rest = λ i m. z i }

  module _ (settled start end from limit n : ℕ) (kept : List ℕ) (l : n ≤ 16) (w : take n kept ≡ candidate_entries settled start end from n old) where
    -- the kept ones, and nothing behind
    from-kept : after ≡ take n kept ++ replicate (16 - n) 0 → FromOld old after n
    from-kept e =
        record { few = l; each = λ i. go i (dec_lt i n); rest = behind }
      where
        q : after ≡ candidate_entries settled start end from n old ++ replicate (16 - n) 0
        q = rw (← w) e

        c : length (candidate_entries settled start end from n old) ≡ n
        c = length-candidate_entries settled start end from old n

        inside : (i : ℕ) → i < n → (get_or after i 0 ≡ 0) ⊎ (get_or after i 0 ≡ get_or old i 0)
        inside i m =
            rw (q, get_or-append (candidate_entries settled start end from n old) (replicate (16 - n) 0) 0 i (omega (arith, c)), get_or-candidate_entries settled start end from old n i m)
            (if-cases (λ (v : ℕ). (v ≡ 0) ⊎ (v ≡ get_or old i 0)) (intact_at settled start end from i) (get_or old i 0) 0 (λ t. inr refl) (λ t. inl refl))

        behind : (i : ℕ) → n ≤ i → get_or after i 0 ≡ 0
        behind i m =
            let d : i ≡ length (candidate_entries settled start end from n old) + (i - n) = omega (arith, c) in
            ap (λ (xs : List ℕ). get_or xs i 0) q
            ∙ ap (λ (k : ℕ). get_or (candidate_entries settled start end from n old ++ replicate (16 - n) 0) k 0) d
            ∙ get_or-append-add (candidate_entries settled start end from n old) (replicate (16 - n) 0) (i - n) 0
            ∙ get_or-same (16 - n) 0 (i - n)

        go : (i : ℕ) → Dec (i < n) → (get_or after i 0 ≡ 0) ⊎ (get_or after i 0 ≡ get_or old i 0)
        go i (yes m) = inside i m
        go i (no m) = inl (behind i (omega arith))

    -- by the limit
    pub from-limited : after ≡ limited_entries limit n kept → FromOld old after n
    unfolding limited_entries
    from-limited =
        if-cases (λ (xs : List ℕ). after ≡ xs → FromOld old after n) (leb (runs (entries (take n kept))) limit) (take n kept ++ replicate (16 - n) 0) (replicate 16 0)
        (λ t e. from-kept e)
        (λ t e. from-none 16 n l e)

-- a function after another
map-twice : {A B C : Type 0} (f : A → B) (g : B → C) (k : A → C) → ((x : A) → g (f x) ≡ k x) → (xs : List A) → map g (map f xs) ≡ map k xs
map-twice f g k h [] = refl
map-twice f g k h (x ∷ xs) = rw (h x, map-twice f g k h xs) refl

-- nothing at every number
map-nothing : (f : ℕ → Option ℕ) → ((i : ℕ) → f i ≡ none) → (first n : ℕ) → map f (range first n) ≡ replicate n none
unfolding range
map-nothing f h first zero = refl
map-nothing f h first (suc n) = rw (h first, map-nothing f h (suc first) n) refl

-- nothing stays nothing under any limit
within_none : (limit n : ℕ) → within_limit limit (replicate n none) ≡ replicate n none
unfolding within_limit
within_none limit n =
    if-cases (λ (os : List (Option ℕ)). os ≡ replicate n none) (leb (runs (replicate n none)) limit) (replicate n none) (replicate (length (replicate {A = Option ℕ} n none)) none)
    (λ t. refl) (λ t. ap (λ (k : ℕ). replicate {A = Option ℕ} k none) (length-replicate {A = Option ℕ} n none))

-- the limit of entries is the rules' one
limited-is : (limit n : ℕ) (kept after : List ℕ) → n ≤ 16 → length kept ≡ 16 → after ≡ limited_entries limit n kept → entries (take n after) ≡ within_limit limit (entries (take n kept))
unfolding limited_entries within_limit
limited-is limit n kept after l v q =
    let m : length (take n kept) ≡ n = length-take-le n kept (omega arith) in
    let o : length (entries (take n kept)) ≡ n = length-entries (take n kept) ∙ m in
    let x : List ℕ = take n kept ++ replicate (16 - n) 0 in
    let os : List (Option ℕ) = entries (take n kept) in
    test-cases (entries (take n after) ≡ within_limit limit os) (leb (runs os) limit)
    (λ t. let a : after ≡ x = q ∙ if-true (leb (runs os) limit) x (replicate 16 0) t in
    rw a (ap entries (take_at (take n kept) (replicate (16 - n) 0) n m) ∙ sym (if-true (leb (runs os) limit) os (replicate (length os) none) t)))
    (λ t. let a : after ≡ replicate 16 0 = q ∙ if-false (leb (runs os) limit) x (replicate 16 0) t in
    rw a (ap entries (take_same n 16 l) ∙ entries_none n ∙ ap (λ (k : ℕ). replicate {A = Option ℕ} k none) (sym o) ∙ sym (if-false (leb (runs os) limit) os (replicate (length os) none) t)))

module _ (c : Change) (before behind start len : ℕ) (h : IsChange c before behind start len) (limit unit n : ℕ) (old after : List ℕ) where
  -- an entry is the rules' candidate
  candidate-is : (i : ℕ) → entry_of (entry_at (min (valid_length before unit) (valid_length behind unit)) start (start + len) (unit * unit_bytes) old i)
      ≡ (pick true && intact c unit i then get_or (entries old) i none else none)
  unfolding entries entry_of
  candidate-is i =
      rw (intact-is c before behind start len h unit i)
      (if-ap entry_of (intact_at (min (valid_length before unit) (valid_length behind unit)) start (start + len) (unit * unit_bytes) i) (get_or old i 0) 0
      ∙ ap (λ (o : Option ℕ). pick intact_at (min (valid_length before unit) (valid_length behind unit)) start (start + len) (unit * unit_bytes) i then o else none) (sym (get_or-map entry_of old i 0)))

  -- the candidates are those of the rules
  entries-candidates : n ≡ blocks_after c unit → entries (candidate_entries (min (valid_length before unit) (valid_length behind unit)) start (start + len) (unit * unit_bytes) n old) ≡ candidates c unit true (entries old)
  unfolding entries candidate_entries candidates
  entries-candidates e = rw (← e) (map-twice _ entry_of _ candidate-is (range 0 n))

  -- a unit that was not checked
  pub retained-none : (verified : Bool) → verified ≡ false → n ≤ 16 → n ≡ blocks_after c unit → (m : ℕ) → after ≡ replicate m 0 → m ≡ 16 → Retained limit c unit verified old after n
  unfolding retained_blocks
  retained-none verified f l e m q w =
      let t : take n after ≡ replicate n 0 = rw (q, w) (take_same n 16 l) in
      let z : candidates c unit false (entries old) ≡ replicate n none = unfold candidates pick◌then◌else◌ in rw (← e) (map-nothing _ (λ i. refl) 0 n) in
      record {
        count = e;
        list = rw (f, t, entries_none n) (sym (rw z (within_none limit n)));
      }

  -- one that was
  pub retained-some : (verified : Bool) → verified ≡ true → n ≤ 16 → (kept : List ℕ) → length kept ≡ 16 → (settled : ℕ) → settled ≡ min (valid_length before unit) (valid_length behind unit) → n ≡ blocks_after c unit
      → take n kept ≡ candidate_entries settled start (start + len) (unit * unit_bytes) n old → after ≡ limited_entries limit n kept → Retained limit c unit verified old after n
  unfolding retained_blocks
  retained-some verified t l kept v settled s e w q =
      let k : entries (take n kept) ≡ candidates c unit true (entries old) = ap entries w ∙ rw s (entries-candidates e) in
      record { count = e; list = rw (t, ← k) (limited-is limit n kept after l v q) }

-- ---- the image

-- entries that are none or old ones name blocks in the image where the old ones do
pub inside-kept : (image old kept : List ℕ) (n : ℕ) → Inside image old → FromOld old kept n → Inside image kept
inside-kept image old kept n h f = record { each = λ i. go i (f.each i) }
  where
    go : (i : ℕ) → (get_or kept i 0 ≡ 0) ⊎ (get_or kept i 0 ≡ get_or old i 0) → get_or kept i 0 * block_bytes ≤ length image
    go i (inl e) = rw e (omega arith)
    go i (inr e) = rw e (h.each i)
