-- Laws of reads that are checked one after another: what is known of the units of earlier ones, a read's card, and the whole list.
-- Assumes nothing.
use mathlib.Core.Path.{◌≡◌, refl, sym, ap, ◌∙◌}
use mathlib.Core.Bool.{true, false, ◌||◌}
use mathlib.Core.List.{List, ◌++◌, map, flat_map}
use mathlib.Core.Option as maybe
use mathlib.Core.Option.{none}
use Prim.Native.Nat.{ℕ, zero, suc, ◌+◌, ◌*◌, ◌/◌, ◌≤◌, ◌<◌}
use native.Mathlib.Decide.{ℕ_discrete}
use native.Mathlib.Omega.{arith}
use lib.Dec.{eqb}
use lib.ListN.{length, get_or, set, length-set}
use lib.Seq.{get_or-set_other, get_or-set_same}
use Rattle.rules.specs.Lists.{maybe, any, member, find, range}
use Rattle.rules.specs.Bytes.{part}
use Rattle.rules.specs.Head.{decode_head}
use Rattle.rules.specs.Card.{Card, card_bytes, decode_card}
use Rattle.rules.specs.Book.{decode_book}
use Rattle.rules.specs.Refusal.{number_of}
use Rattle.rules.specs.Triples.{Triple, triple_bytes, most_triples, decode_triples}
use Rattle.rules.specs.ReadMany.{Pair, pairs_of, same_pair, different}
use Rattle.rules.proofs.ListLaws.{Each, clash, or_cases, any_append, maybe-some, maybe-none, each_weaken}
use Rattle.rules.proofs.CountLaws.{member-each, flat_map-each, each-range}
use Rattle.triples.specs.declared.Triple as struct
use Rattle.triples.specs.Triple.{triple_of, triple_at, triples_from}
use Rattle.triples.proofs.TripleLaws.{from_start, from-here, from_end}
use Rattle.std.proofs.Common.{Option, Some, None}
use Rattle.book.specs.Places.{record_at, found_in, FoundFirst, card_is}
use Rattle.read_checks.specs.Reads.{Looked, first_number, unit_number, units_read, pairs_read, sized_number, card_in, read_number, pairs_touched, pair_is, pairs_before, new_units, SizeIs}
use Rattle.read_checks.specs.Checked.{Earlier, UnitsChecked, ReadChecked, ListChecked}
use Rattle.read_checks.proofs.PairLaws.{pair-among, pair-other, different-read}
use Rattle.read_checks.proofs.NumberLaws.{before_more}
use Rattle.read_checks.proofs.StretchLaws.{first-none, first-pass, first-stop, first-all}

-- ---- the units of earlier reads

module _ (list sizes : List ℕ) (p : Pair) where
  -- a pair that earlier reads touch is touched by one of them
  seen_at : (i : ℕ) → any (same_pair p) (pairs_before list sizes i) ≡ true → (j : ℕ) × (j < i) × (any (same_pair p) (pairs_read (triple_at list j) (get_or sizes j 0)) ≡ true)
  seen_at zero h = absurd (clash nothing h)
    where
      nothing : any (same_pair p) (pairs_before list sizes 0) ≡ false
      nothing = unfold pairs_before any range flat_map in refl
  seen_at (suc i) h =
      let e : suc i ≡ i + 1 = omega arith in
      let s : (any (same_pair p) (pairs_before list sizes i) || any (same_pair p) (pairs_read (triple_at list i) (get_or sizes i 0))) ≡ true =
      sym (any_append (same_pair p) (pairs_before list sizes i) (pairs_read (triple_at list i) (get_or sizes i 0))) ∙ sym (ap (any (same_pair p)) (before_more list sizes i)) ∙ ap (λ (k : ℕ). any (same_pair p) (pairs_before list sizes k)) (sym e) ∙ h in
      or_cases ((j : ℕ) × (j < suc i) × (any (same_pair p) (pairs_read (triple_at list j) (get_or sizes j 0)) ≡ true))
      (any (same_pair p) (pairs_before list sizes i)) (any (same_pair p) (pairs_read (triple_at list i) (get_or sizes i 0))) s
      (λ t. let r = seen_at i t in (r.0, omega (arith, r.1), r.2))
      (λ t. (i, omega arith, t))

-- a unit among those of a read: the read is of its file, and it is one of the read's units
pairs-member : (t : Triple) (size object unit : ℕ) → any (same_pair (pair_is object unit)) (pairs_read t size) ≡ true → (t.object ≡ object) × (member unit (units_read t size) ≡ true)
pairs-member t size object unit h = go (ℕ_discrete t.object object)
  where
    pairs : pairs_read t size ≡ map (pair_is t.object) (units_read t size)
    pairs = unfold pairs_read pairs_of units_read in refl

    go : Dec (t.object ≡ object) → (t.object ≡ object) × (member unit (units_read t size) ≡ true)
    go (yes e) = (e, sym (pair-among object unit (units_read t size)) ∙ ap (λ (o : ℕ). any (same_pair (pair_is object unit)) (map (pair_is o) (units_read t size))) (sym e) ∙ sym (ap (any (same_pair (pair_is object unit))) pairs) ∙ h)
    go (no d) = absurd (clash (ap (any (same_pair (pair_is object unit))) pairs ∙ pair-other object unit t.object d (units_read t size)) h)

-- a read of a file whose size is known: its number
pub number-sized : (b : Looked) (cards : List ℕ) (t : Triple) (size : ℕ) → SizeIs b.head cards t size → read_number b cards t ≡ sized_number b t size
unfolding read_number
number-sized b cards t size s = maybe-some _ _ _ s.card s.found ∙ ap (sized_number b t) (sym s.size)

-- the pairs that it touches
touched-sized : (head cards : List ℕ) (t : Triple) (size : ℕ) → SizeIs head cards t size → pairs_read t size ≡ pairs_touched head cards t
unfolding pairs_touched
touched-sized head cards t size s = ap (pairs_read t) s.size ∙ sym (maybe-some _ _ _ s.card s.found)

-- none of its units is refused where the read is not
pub sized-right : (b : Looked) (t : Triple) (size : ℕ) → sized_number b t size ≡ 0 → Each (λ u. unit_number b t.object size u ≡ 0) (units_read t size)
unfolding sized_number
sized-right b t size z = first-all (unit_number b t.object size) (units_read t size) z

-- two reads of one file find the same size
same_size : (head cards : List ℕ) (t u : Triple) (m n : ℕ) → t.object ≡ u.object → SizeIs head cards t m → SizeIs head cards u n → m ≡ n
same_size head cards t u m n e s r =
    let size_of : maybe.Option Card → ℕ = maybe 0 (λ c. c.size) in
    let a : size_of (card_in head cards t.object) ≡ s.card.size = maybe-some _ _ _ s.card s.found in
    let c : size_of (card_in head cards u.object) ≡ r.card.size = maybe-some _ _ _ r.card r.found in
    s.size ∙ sym a ∙ ap (λ (o : ℕ). size_of (card_in head cards o)) e ∙ c ∙ sym r.size

-- a unit of the i-th read's file that an earlier read touches is right
pub earlier-right : (b : Looked) (cards list sizes : List ℕ) (i size : ℕ) → Earlier b cards list sizes i → SizeIs b.head cards (triple_at list i) size
    → (u : ℕ) → any (same_pair (pair_is (triple_at list i).object u)) (pairs_before list sizes i) ≡ true → unit_number b (triple_at list i).object size u ≡ 0
earlier-right b cards list sizes i size e s u h =
    let o : ℕ = (triple_at list i).object in
    let f = seen_at list sizes (pair_is o u) i h in
    let j : ℕ = f.0 in
    let n : ℕ = get_or sizes j 0 in
    let m = pairs-member (triple_at list j) n o u f.2 in
    let z : sized_number b (triple_at list j) n ≡ 0 = sym (number-sized b cards (triple_at list j) n (e.noted j f.1)) ∙ e.right j f.1 in
    let a : Each (λ x. unit_number b (triple_at list j).object n x ≡ 0) (units_read (triple_at list j) n) = sized-right b (triple_at list j) n z in
    let r : unit_number b (triple_at list j).object n u ≡ 0 = member-each (λ x. unit_number b (triple_at list j).object n x ≡ 0) a u m.1 in
    let q : n ≡ size = same_size b.head cards (triple_at list j) (triple_at list i) n size m.0 (e.noted j f.1) s in
    sym (ap (λ (x : ℕ). unit_number b x n u) m.0 ∙ ap (λ (x : ℕ). unit_number b o x u) q) ∙ r

-- ---- a read's card

module _ (head cards list : List ℕ) (n i : ℕ) (d : n ≡ (decode_head head).cards) (x : struct.Triple) (q : triple_of x ≡ triple_at list i) (f : Option ℕ) (k : FoundFirst (card_is x.object) decode_card card_bytes n cards f) where
  -- the cards that were searched are those that the head counts
  searched : found_in decode_card card_bytes cards f ≡ card_in head cards (triple_at list i).object
  unfolding card_in triple_of
  searched =
      let o : x.object ≡ (triple_at list i).object = ap (λ (t : Triple). t.object) q in
      k.found ∙ ap (λ (m : ℕ). find (λ c. eqb c.object x.object) (decode_book decode_card card_bytes m cards)) d
      ∙ ap (λ (y : ℕ). find (λ c. eqb c.object y) (decode_book decode_card card_bytes (decode_head head).cards cards)) o

  -- the card that was found stands among them
  pub card-there : (c : ℕ) → f ≡ Some c → card_bytes * (decode_head head).cards ≤ length cards → card_bytes * c + card_bytes ≤ length cards
  card-there c e l =
      let w : c < n = k.within c e in
      omega (arith, w, l, d)

  -- its size is that of the read's file
  pub size-found : (c size : ℕ) → f ≡ Some c → size ≡ (decode_card (part (card_bytes * c) card_bytes cards)).size → SizeIs head cards (triple_at list i) size
  unfolding found_in record_at
  size-found c size e s = record { card = decode_card (part (card_bytes * c) card_bytes cards); found = sym searched ∙ ap (found_in decode_card card_bytes cards) e; size = s }

  -- none is found: refusal 3
  pub number-none : (b : Looked) → b.head ≡ head → f ≡ None → 3 ≡ read_number b cards (triple_at list i)
  unfolding read_number found_in number_of
  number-none b h e =
      let z : card_in b.head cards (triple_at list i).object ≡ none = ap (λ (y : List ℕ). card_in y cards (triple_at list i).object) h ∙ sym searched ∙ ap (found_in decode_card card_bytes cards) e in
      sym (maybe-none _ _ _ z)

-- ---- one read

module _ (b : Looked) (cards list sizes : List ℕ) (i made : ℕ) where
  -- a read whose card is missing
  pub checked-none : 3 ≡ read_number b cards (triple_at list i) → ReadChecked b cards list sizes i made sizes 3 made
  checked-none e = record {
    number = e;
    room = refl;
    kept = λ j l. refl;
    noted = λ z. absurd (omega (arith, z));
    count = λ z. absurd (omega (arith, z));
    most = omega arith;
  }

  -- one whose units were checked, and its size noted
  pub checked-some : (size r c : ℕ) → i < length sizes → SizeIs b.head cards (triple_at list i) size
      → UnitsChecked b (triple_at list i).object size (units_read (triple_at list i) size) (pairs_before list sizes i) made 17 r c
      → ReadChecked b cards list sizes i made (set sizes i size) r c
  checked-some size r c l s x =
      let g : get_or (set sizes i size) i 0 ≡ size = get_or-set_same sizes i size 0 l in
      let d : sized_number b (triple_at list i) size ≡ first_number (unit_number b (triple_at list i).object size) (units_read (triple_at list i) size) = unfold sized_number in refl in
      record {
        number = x.number ∙ sym (number-sized b cards (triple_at list i) size s ∙ d);
        room = length-set sizes i size;
        kept = λ j m. get_or-set_other sizes i j size 0 (λ e. absurd (omega (arith, m, e)));
        noted = λ z. rw g s;
        count = λ z. rw g (x.count z);
        most = x.most;
      }

-- ---- the list

module _ (b : Looked) (cards list : List ℕ) where
  -- the first i reads have passed: `sizes` are those of their files, and so many inspections have been made
  pub record ListPassed (sizes : List ℕ) (i made : ℕ) : Type 0 where
    pub room : length sizes ≡ most_triples
    pub earlier : Earlier b cards list sizes i
    pub numbers : first_number (read_number b cards) (decode_triples list) ≡ first_number (read_number b cards) (triples_from list i)
    pub counted : made ≡ different (pairs_before list sizes i)
    pub most : made ≤ 17 * i

  -- none yet
  pub list-none : (sizes : List ℕ) → length sizes ≡ most_triples → ListPassed sizes 0 0
  list-none sizes l = record {
    room = l;
    earlier = record { right = λ j m. absurd (omega (arith, m)); noted = λ j m. absurd (omega (arith, m)) };
    numbers = ap (first_number (read_number b cards)) (sym (from_start list));
    counted = nothing;
    most = omega arith;
  }
    where
      nothing : 0 ≡ different (pairs_before list sizes 0)
      nothing = unfold pairs_before range flat_map different in refl

  module _ (sizes : List ℕ) (i made : ℕ) (h : ListPassed sizes i made) (left : List ℕ) (r c : ℕ) (x : ReadChecked b cards list sizes i made left r c) (l : i < length list / triple_bytes) where
    -- the next is refused: the answer is the refusal, and of a count nothing is asked
    pub list-stop : (r ≡ 0 → ⊥) → (d : ℕ) → ListChecked b cards list left r d
    list-stop z d = record {
      number = sym (h.numbers ∙ ap (first_number (read_number b cards)) (from-here list i l) ∙ first-stop (read_number b cards) (triple_at list i) (triples_from list (i + 1)) (λ y. z (x.number ∙ y)) ∙ sym x.number);
      count = λ y. absurd (z y);
      noted = λ y. absurd (z y);
    }

    -- the pairs of the reads before, with the sizes as they are now
    before-kept : pairs_before list left i ≡ pairs_before list sizes i
    unfolding pairs_before
    before-kept = flat_map-each (λ j. pairs_read (triple_at list j) (get_or left j 0)) (λ j. pairs_read (triple_at list j) (get_or sizes j 0)) (each_weaken (λ j m. ap (pairs_read (triple_at list j)) (x.kept j (omega (arith, m.1)))) (each-range 0 i))

    -- the next passes
    pub list-more : r ≡ 0 → ListPassed left (i + 1) c
    list-more z = record {
      room = x.room ∙ h.room;
      earlier = record { right = right; noted = noted };
      numbers = h.numbers ∙ ap (first_number (read_number b cards)) (from-here list i l) ∙ first-pass (read_number b cards) (triple_at list i) (triples_from list (i + 1)) (sym x.number ∙ z);
      counted = counted;
      most = omega (arith, x.most, h.most);
    }
      where
        right : (j : ℕ) → j < i + 1 → read_number b cards (triple_at list j) ≡ 0
        right j m = go (ℕ_discrete j i)
          where
            go : Dec (j ≡ i) → read_number b cards (triple_at list j) ≡ 0
            go (yes e) = rw e (sym x.number ∙ z)
            go (no d) = h.earlier.right j (omega (arith, m, d))

        noted : (j : ℕ) → j < i + 1 → SizeIs b.head cards (triple_at list j) (get_or left j 0)
        noted j m = go (ℕ_discrete j i)
          where
            go : Dec (j ≡ i) → SizeIs b.head cards (triple_at list j) (get_or left j 0)
            go (yes e) = rw e (x.noted z)
            go (no d) = let k : j < i = omega (arith, m, d) in rw (x.kept j k) (h.earlier.noted j k)

        counted : c ≡ different (pairs_before list left (i + 1))
        counted =
            let n : ℕ = get_or left i 0 in
            let w : different (pairs_before list sizes i ++ pairs_read (triple_at list i) n) ≡ different (pairs_before list sizes i) + new_units (pairs_before list sizes i) (triple_at list i).object (units_read (triple_at list i) n) = different-read (pairs_before list sizes i) (triple_at list i) n in
            let y : pairs_before list left (i + 1) ≡ pairs_before list sizes i ++ pairs_read (triple_at list i) n = before_more list left i ∙ ap (λ (ps : List Pair). ps ++ pairs_read (triple_at list i) n) before-kept in
            omega (arith, x.count z, h.counted, w, ap different y)

  -- what the reads from a place on touch, by their places
  touched-from : (f : Triple → List Pair) (n i : ℕ) → i + n ≡ length list / triple_bytes → flat_map f (triples_from list i) ≡ flat_map (λ j. f (triple_at list j)) (range i n)
  unfolding flat_map range
  touched-from f zero i e = ap (flat_map f) (from_end list i (omega (arith, e)))
  touched-from f (suc n) i e =
      let s : i + 1 ≡ suc i = omega arith in
      ap (flat_map f) (from-here list i (omega (arith, e)))
      ∙ ap (λ (k : ℕ). f (triple_at list i) ++ flat_map f (triples_from list k)) s
      ∙ ap (λ (ps : List Pair). f (triple_at list i) ++ ps) (touched-from f n (suc i) (omega (arith, e)))

  -- what all touch
  touched-all : (sizes : List ℕ) (i : ℕ) → Earlier b cards list sizes i → i ≡ length list / triple_bytes → pairs_before list sizes i ≡ flat_map (pairs_touched b.head cards) (decode_triples list)
  unfolding pairs_before
  touched-all sizes i h e =
      flat_map-each (λ j. pairs_read (triple_at list j) (get_or sizes j 0)) (λ j. pairs_touched b.head cards (triple_at list j))
      (each_weaken (λ j k. touched-sized b.head cards (triple_at list j) (get_or sizes j 0) (h.noted j (omega (arith, k.1)))) (each-range 0 i))
      ∙ sym (touched-from (pairs_touched b.head cards) i 0 (omega (arith, e))) ∙ ap (flat_map (pairs_touched b.head cards)) (from_start list)

  -- all have passed
  pub list_all : (sizes : List ℕ) (i made : ℕ) → ListPassed sizes i made → i ≤ length list / triple_bytes → length list / triple_bytes ≤ i → ListChecked b cards list sizes 0 made
  list_all sizes i made h l m = record {
    number = sym (h.numbers ∙ ap (first_number (read_number b cards)) (from_end list i m) ∙ first-none (read_number b cards));
    count = λ z. h.counted ∙ ap different (touched-all sizes i h.earlier (omega (arith, l, m)));
    noted = λ z j k. h.earlier.noted j (omega (arith, k, m));
  }
