-- The card book that a change leaves: the file's card has its new size, count and time, every other is as before, and the book keeps its rules.
-- Assumes nothing.
use mathlib.Core.Path.{◌≡◌, refl, sym, ap, ◌∙◌}
use mathlib.Core.List.{List, [], ◌∷◌, map}
use mathlib.Core.Bool.{true, ◌&&◌}
use mathlib.Core.Option.{none, some, some-injective}
use Prim.Native.Nat.{ℕ, ◌^◌, ◌≤◌, ◌<◌}
use native.Mathlib.Omega.{arith}
use lib.Dec.{eqb, leb, ltb}
use lib.ListN.{length, length-map}
use borrow.Author.Tests.{eqb-true, eqb-false, eq-eqb, ne_eqb, ltb-true, lt-ltb, leb-true, le-leb}
use Rattle.rules.specs.Time.{Time}
use Rattle.rules.specs.Lists.{pick◌then◌else◌, maybe, all, find, ascending, begun}
use Rattle.rules.specs.Sizes.{block_bytes, nanoseconds_bound}
use Rattle.rules.specs.Card.{Card, card_before}
use Rattle.rules.specs.Extent.{Extent, extent_end}
use Rattle.rules.specs.Store.{Volume, card_of}
use Rattle.rules.specs.Integrity.{in_file, card_times_right}
use Rattle.rules.specs.Units.{Change}
use Rattle.rules.specs.Finish.{finished_cards, changed_card}
use Rattle.rules.proofs.ListLaws.{test-cases, if-true, if-false, if-cases, maybe-some, maybe-none, and_left, and_right, and_intro, all_map, all-weaken, any-map, find-yes, find-no, find-passes, ascending-tail, ascending-all, Each, each_none, each_more, each_map, each_all, each_weaken}
use Rattle.rules.proofs.CardLaws.{CardFits}
use Rattle.history.proofs.MoreLists.{any-each, ascending-through, find-through}

-- a card that is found is of its object
pub card-of-object : (v : Volume) (o : ℕ) (e : Card) → card_of v o ≡ some e → e.object ≡ o
unfolding card_of
card-of-object v o e h = eqb-true e.object o (find-passes (λ x. eqb x.object o) v.books.cards e h)

-- in a book in order the card that is found is the only one of its object
pub card-only : (object : ℕ) (k : Card) (cs : List Card) → ascending card_before cs ≡ true → find (λ d. eqb d.object object) cs ≡ some k → Each (λ d. d.object ≡ object → d ≡ k) cs
card-only object k [] a e = each_none
card-only object k (x ∷ cs) a e =
    test-cases (Each (λ d. d.object ≡ object → d ≡ k) (x ∷ cs)) (eqb x.object object)
    (λ t. let q : x ≡ k = some-injective x k (sym (find-yes (λ d. eqb d.object object) x cs t) ∙ e) in
    each_more (λ z. q) (each_weaken (λ d l z. absurd (omega (arith, eqb-true x.object object t))) later))
    (λ t. each_more (λ z. absurd (eqb-false x.object object t z)) (card-only object k cs (ascending-tail card_before x cs a) (sym (find-no (λ d. eqb d.object object) x cs t) ∙ e)))
  where
    later : Each (λ d. x.object < d.object) cs
    later = unfold card_before in each_all (card_before x) (λ d t. ltb-true x.object d.object t) cs
        (ascending-all card_before (λ x y z p q. lt-ltb x.object z.object (omega (arith, ltb-true x.object y.object p, ltb-true y.object z.object q))) x cs a)

module _ (c : Change) (allocated : ℕ) (time : Time) where
  -- a card after the change
  unfoldable pub card_after : Card → Card
  card_after d = pick eqb d.object c.object then changed_card c.new_size allocated time d else d

  -- the cards are these
  pub cards-are : (cs : List Card) → finished_cards c allocated time cs ≡ map card_after cs
  unfolding finished_cards card_after
  cards-are cs = refl

  -- the file's card after the change
  pub card-mine : (d : Card) → d.object ≡ c.object → card_after d ≡ changed_card c.new_size allocated time d
  unfolding card_after
  card-mine d e = if-true (eqb d.object c.object) _ d (eq-eqb d.object c.object e)

  -- with its new size
  pub size-mine : (d : Card) → d.object ≡ c.object → (card_after d).size ≡ c.new_size
  unfolding changed_card
  size-mine d e = ap (λ (x : Card). x.size) (card-mine d e)

  -- its object
  pub object-mine : (d : Card) → d.object ≡ c.object → (card_after d).object ≡ d.object
  unfolding changed_card
  object-mine d e = ap (λ (x : Card). x.object) (card-mine d e)

  -- and its new count
  pub allocated-mine : (d : Card) → d.object ≡ c.object → (card_after d).allocated ≡ allocated
  unfolding changed_card
  allocated-mine d e = ap (λ (x : Card). x.allocated) (card-mine d e)

  -- a card's creation time stays
  pub created-after : (d : Card) → (card_after d).created ≡ d.created
  unfolding card_after changed_card
  created-after d = if-cases (λ (x : Card). x.created ≡ d.created) (eqb d.object c.object) _ d (λ e. refl) (λ e. refl)

  -- a card of another file stays
  pub card-theirs : (d : Card) → (d.object ≡ c.object → ⊥) → card_after d ≡ d
  unfolding card_after
  card-theirs d n = if-false (eqb d.object c.object) _ d (ne_eqb d.object c.object n)

  -- a card's object stays
  pub object-after : (d : Card) → (card_after d).object ≡ d.object
  unfolding card_after changed_card
  object-after d = if-cases (λ (x : Card). x.object ≡ d.object) (eqb d.object c.object) _ d (λ e. refl) (λ e. refl)

  -- what is found is what was, put through
  pub find-after : (object : ℕ) (cs : List Card) → find (λ d. eqb d.object object) (finished_cards c allocated time cs) ≡ maybe none (λ d. some (card_after d)) (find (λ d. eqb d.object object) cs)
  find-after object cs = ap (find (λ d. eqb d.object object)) (cards-are cs) ∙ find-through (λ d. eqb d.object object) card_after (λ d. ap (λ (n : ℕ). eqb n object) (object-after d)) cs

  -- a card that was found is found so
  pub found_after : (object : ℕ) (cs : List Card) (d : Card) → find (λ d. eqb d.object object) cs ≡ some d
      → find (λ d. eqb d.object object) (finished_cards c allocated time cs) ≡ some (card_after d)
  found_after object cs d e = find-after object cs ∙ maybe-some none (λ d. some (card_after d)) (find (λ d. eqb d.object object) cs) d e

  -- none where there was none
  pub none_after : (object : ℕ) (cs : List Card) → find (λ d. eqb d.object object) cs ≡ none → find (λ d. eqb d.object object) (finished_cards c allocated time cs) ≡ none
  none_after object cs e = find-after object cs ∙ maybe-none none (λ d. some (card_after d)) (find (λ d. eqb d.object object) cs) e

  -- the book stays in order
  pub cards-order : (cs : List Card) → ascending card_before cs ≡ true → ascending card_before (finished_cards c allocated time cs) ≡ true
  cards-order cs a = rw (cards-are cs) (ascending-through card_before card_after (λ x y. unfold card_before in (rw (object-after x, object-after y) refl)) cs a)

  -- the book has as many cards as before
  pub cards-length : (cs : List Card) → length (finished_cards c allocated time cs) ≡ length cs
  cards-length cs = ap length (cards-are cs) ∙ length-map cs card_after

  -- and right times
  pub cards-times : time.nanoseconds < nanoseconds_bound → (cs : List Card) → all card_times_right cs ≡ true → all card_times_right (finished_cards c allocated time cs) ≡ true
  cards-times l cs h =
      rw (cards-are cs, all_map card_times_right card_after cs) (all-weaken (λ d. card_times_right (card_after d)) card_times_right cs one h)
    where
      one : (d : Card) → card_times_right d ≡ true → card_times_right (card_after d) ≡ true
      one d t = unfold card_after in if-cases (λ (x : Card). card_times_right x ≡ true) (eqb d.object c.object) _ d
          (λ e. unfold card_times_right changed_card in and_intro (ltb time.nanoseconds nanoseconds_bound) (ltb d.created.nanoseconds nanoseconds_bound)
          (lt-ltb time.nanoseconds nanoseconds_bound l)
          (and_right (ltb d.changed.nanoseconds nanoseconds_bound) (ltb d.created.nanoseconds nanoseconds_bound) (unfold card_times_right in t)))
          (λ e. t)

  -- its numbers in range
  pub cards-fit : c.new_size < 2 ^ 63 → allocated < 2 ^ 35 → time.seconds < 2 ^ 63 → time.nanoseconds < 2 ^ 30 → (cs : List Card) → Each CardFits cs
      → Each CardFits (finished_cards c allocated time cs)
  cards-fit z a s n cs h = rw (cards-are cs) (each_map card_after (each_weaken one h))
    where
      one : (d : Card) → CardFits d → CardFits (card_after d)
      one d f = unfold card_after in if-cases CardFits (eqb d.object c.object) _ d (λ e. unfold changed_card in record { object = f.object; size = z; allocated = a; changed = record { seconds = s; nanoseconds = n }; created = f.created }) (λ e. f)

  -- an extent stays in its file, which is not shorter
  pub file-stays : {cs : List Card} → Each (λ d. d.object ≡ c.object → d.size ≤ c.new_size) cs → (e : Extent) → in_file cs e ≡ true → in_file (finished_cards c allocated time cs) e ≡ true
  file-stays {cs} h e t = rw (cards-are cs) (unfold in_file in (any-map _ card_after cs
      ∙ any-each (λ d. eqb (card_after d).object e.object && leb (extent_end e) (begun (card_after d).size block_bytes)) (λ d. eqb d.object e.object && leb (extent_end e) (begun d.size block_bytes)) (each_weaken one h) (unfold in_file in t)))
    where
      one : (d : Card) → (d.object ≡ c.object → d.size ≤ c.new_size) → (eqb d.object e.object && leb (extent_end e) (begun d.size block_bytes)) ≡ true
          → (eqb (card_after d).object e.object && leb (extent_end e) (begun (card_after d).size block_bytes)) ≡ true
      one d l k = unfold card_after changed_card in
          if-cases (λ (x : Card). (eqb x.object e.object && leb (extent_end e) (begun x.size block_bytes)) ≡ true) (eqb d.object c.object) _ d
          (λ q. let m : d.size ≤ c.new_size = l (eqb-true d.object c.object q) in
          let n : extent_end e ≤ begun d.size block_bytes = leb-true (extent_end e) (begun d.size block_bytes) (and_right (eqb d.object e.object) (leb (extent_end e) (begun d.size block_bytes)) k) in
          and_intro (eqb d.object e.object) (leb (extent_end e) (begun c.new_size block_bytes)) (and_left (eqb d.object e.object) (leb (extent_end e) (begun d.size block_bytes)) k)
          (le-leb (extent_end e) (begun c.new_size block_bytes) (omega arith)))
          (λ q. k)
