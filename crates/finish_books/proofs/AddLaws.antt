-- The groups that are missing: which they are, and the book with them put in by one exchange.
-- Assumes nothing.
use mathlib.Core.Path.{◌≡◌, refl, sym, ap, ◌∙◌}
use mathlib.Core.Bool.{true, false, ◌&&◌, ◌||◌}
use mathlib.Core.List.{List, [], ◌∷◌, ◌++◌, flat_map, append-nil, append_assoc}
use mathlib.Core.Option.{Option, none}
use Prim.Native.Nat.{ℕ, suc, ◌+◌, ◌-◌, ◌*◌, ◌^◌, ◌≤◌, ◌<◌}
use native.Mathlib.Numerals.{add-one}
use native.Mathlib.Omega.{arith}
use lib.ListN.{length, take, drop, get_or, replicate, length-replicate, take-append-drop, get_or-replicate}
use Rattle.rules.specs.Lists.{pick◌then◌else◌, maybe, given, any, all, insert, ascending}
use Rattle.rules.specs.Sizes.{group_units}
use Rattle.rules.specs.Bytes.{pieces, patch, padded, bit_bytes, byte_of, le_digits}
use Rattle.rules.specs.Group.{Group, group_bytes, group_key, presence, slot_bytes, encode_group, decode_group, group_fixed, absent_zero, group_before, empty_group}
use Rattle.rules.specs.Book.{encode_book}
use Rattle.rules.specs.Finish.{is_group}
use Rattle.rules.proofs.ListLaws.{clash, test-cases, order-cases, and_left, and_right, and_intro, or_left, or_right, all_append, all_map, all_of, none-at, Each, each_none, each_more, each_of, each_weaken, ascending-insert, pair_before-cases, pair_before-first, pair_before-second, pair_before-total}
use Rattle.rules.proofs.BookLaws.{decode-encode_book, pieces-flat_map}
use Rattle.rules.proofs.GroupLaws.{GroupFits, codes-group, length-encode_group, fixed-encode_group, absent-encode_group}
use Rattle.rules.proofs.PassLaws.{all-each}
use Rattle.book.specs.Places.{group_is, group_under, leading, Spliced}
use Rattle.book.proofs.InsertLaws.{insert-leading}
use Rattle.book.proofs.SpliceLaws.{spliced-records}
use Rattle.finish_books.specs.Groups.{groups_in, group_right, GroupsRight, GroupsSay, added}
use Rattle.finish_books.proofs.SlotLaws.{patch-ahead, patch-behind, length-group_key}
use Rattle.finish_books.proofs.GroupListLaws.{before-trans, group-is, empty-before, empty-behind, insert-both, missing-still}

-- ---- the bytes of empty groups

-- no slot is present in an empty group: its presence bytes are zero
empty-presence : presence (replicate 256 none) ≡ replicate 32 0
unfolding presence bit_bytes byte_of given pick◌then◌else◌
empty-presence = refl

-- and so are its slots
empty-values : flat_map slot_bytes (replicate 256 none) ≡ replicate 1024 0
unfolding flat_map slot_bytes le_digits maybe
empty-values = refl

module _ (object number : ℕ) where
  -- its bytes are its key and zeros
  empty-encoded : encode_group (empty_group object number) ≡ group_key object number ++ replicate 1056 0
  unfolding encode_group empty_group
  empty-encoded =
      rw (empty-presence, empty-values) (append_assoc (group_key object number) (replicate 32 0) (replicate 1024 0))

  -- as many as a group has
  empty-bytes : length (encode_group (empty_group object number)) ≡ 1073
  unfolding empty_group
  empty-bytes = length-encode_group (empty_group object number) (length-replicate {A = Option ℕ} 256 none)

  -- as the key written in front of zeros
  empty-written : patch (replicate 1073 0) 0 (group_key object number) ≡ encode_group (empty_group object number)
  unfolding patch
  empty-written = rw (length-group_key object number, empty-encoded) refl

  -- it is in range where its object and number are
  fits-empty : object < 2 ^ 64 → number < 2 ^ 64 → GroupFits (empty_group object number)
  unfolding empty_group
  fits-empty a b = record {
    object = a;
    number = b;
    slots = length-replicate {A = Option ℕ} group_units none;
    values = each_of (replicate group_units none) none (λ i l. rw (get_or-replicate {A = Option ℕ} group_units i none none (rw (length-replicate {A = Option ℕ} group_units none) at l)) (unfold maybe in omega arith));
  }

-- the keys of two written in zeros
two-written : (object a b : ℕ) → patch (patch (replicate 2146 0) 0 (group_key object a)) 1073 (group_key object b) ≡ encode_group (empty_group object a) ++ encode_group (empty_group object b)
two-written object a b =
    let k : length (group_key object a) ≡ 17 = length-group_key object a in
    let z : List ℕ = replicate 1073 0 in
    let l : length z ≡ 1073 = length-replicate {A = ℕ} 1073 0 in
    ap (λ (t : List ℕ). patch t 1073 (group_key object b)) (patch-ahead z z (group_key object a) 0 (omega arith) ∙ ap (λ (t : List ℕ). t ++ z) (empty-written object a))
    ∙ patch-behind (encode_group (empty_group object a)) z (group_key object b) 1073 0 (empty-bytes object a) ∙ ap (λ (t : List ℕ). encode_group (empty_group object a) ++ t) (empty-written object b)

-- ---- groups written side by side

-- they are said by a book of their size
flat-book : (gs : List Group) → encode_book encode_group 0 gs ≡ flat_map encode_group gs
unfolding encode_book padded
flat-book gs = let z : 0 - length (flat_map encode_group gs) ≡ 0 = omega arith in rw z (append-nil (flat_map encode_group gs))

module _ {gs : List Group} (f : Each GroupFits gs) where
  -- they are read again
  flat-says : groups_in (length gs) (flat_map encode_group gs) ≡ gs
  flat-says = rw (← flat-book gs) (decode-encode_book encode_group decode_group group_bytes 0 gs (each_weaken codes-group f))

  -- with their fixed bytes, and zeros where no slot is present
  flat-right : all group_right (pieces group_bytes (length gs) (flat_map encode_group gs)) ≡ true
  flat-right =
      rw (← append-nil (flat_map encode_group gs), pieces-flat_map encode_group group_bytes [] (each_weaken (λ g h. length-encode_group g h.slots) f))
      (all_map group_right encode_group gs
      ∙ all-each (λ g. group_right (encode_group g)) (each_weaken (λ g h. and_intro (group_fixed (encode_group g)) (absent_zero (encode_group g)) (fixed-encode_group g) (absent-encode_group g h)) f))

-- ---- the book after an exchange

-- groups put in at a place
put_in : (n i m : ℕ) (s x t : List ℕ) (new hs : List Group) → GroupsRight n s → group_bytes * (n + m) ≤ length s → Spliced group_bytes n i 0 m s x t → groups_in m x ≡ new → all group_right (pieces group_bytes m x) ≡ true
    → take i (groups_in n s) ++ new ++ drop i (groups_in n s) ≡ hs → ascending group_before hs ≡ true → GroupsSay (n + m) (length s) hs t
put_in n i m s x t new hs r l e q f g a =
    let z : n - 0 + m ≡ n + m = omega arith in
    let k : i + 0 ≡ i = omega arith in
    let ps : List (List ℕ) = pieces group_bytes n s in
    let px : List (List ℕ) = pieces group_bytes m x in
    let says : groups_in (n + m) t ≡ hs = rw (z, k, q, g) at (spliced-records decode_group group_bytes n i 0 m s x t e) in
    let old : (all group_right (take i ps) && all group_right (drop i ps)) ≡ true = sym (all_append group_right (take i ps) (drop i ps)) ∙ ap (all group_right) (take-append-drop i ps) ∙ r.fixed in
    let parts : all group_right (take i ps ++ px ++ drop i ps) ≡ true =
    all_append group_right (take i ps ++ px) (drop i ps)
    ∙ and_intro (all group_right (take i ps ++ px)) (all group_right (drop i ps))
    (all_append group_right (take i ps) px ∙ and_intro (all group_right (take i ps)) (all group_right px) (and_left (all group_right (take i ps)) (all group_right (drop i ps)) old) f)
    (and_right (all group_right (take i ps)) (all group_right (drop i ps)) old) in
    record {
      bytes = e.size;
      right = record {
        places = rw e.size l;
        order = rw says a;
        zeros = rw z at (e.zeros r.zeros);
        fixed = rw (z, k) at (ap (all group_right) e.records) ∙ parts;
      };
      says = says;
    }

-- an empty group that was missing leaves the order
insert-order : (object a : ℕ) (gs : List Group) → any (is_group object a) gs ≡ false → ascending group_before gs ≡ true → ascending group_before (insert group_before (empty_group object a) gs) ≡ true
insert-order object a gs e o =
    ascending-insert group_before (empty_group object a) gs o
    (all_of (λ g. group_before g (empty_group object a) || group_before (empty_group object a) g) gs (empty_group object a)
    (λ i l. apart (get_or gs i (empty_group object a)) (none-at (is_group object a) gs e i (empty_group object a) l)))
  where
    apart : (g : Group) → is_group object a g ≡ false → (group_before g (empty_group object a) || group_before (empty_group object a) g) ≡ true
    apart g n =
        test-cases ((group_before g (empty_group object a) || group_before (empty_group object a) g) ≡ true) (group_before g (empty_group object a))
        (λ t. or_left (group_before g (empty_group object a)) (group_before (empty_group object a) g) t)
        (λ t. or_right (group_before g (empty_group object a)) (group_before (empty_group object a) g)
        (unfold group_before empty_group in pair_before-total g.object g.number object a (unfold group_before empty_group in t) (λ p q. clash n (group-is object a g p q))))

-- a group that does not stand before a missing one does not stand before the next
under_next : (object a : ℕ) (g : Group) → is_group object a g ≡ false → group_before g (empty_group object a) ≡ false → group_before g (empty_group object (suc a)) ≡ false
unfolding group_before empty_group
under_next object a g n t =
    test-cases (group_before g (empty_group object (suc a)) ≡ false) (group_before g (empty_group object (suc a)))
    (λ u. absurd (pair_before-cases ⊥ g.object g.number object (suc a) u
    (λ l. clash t (pair_before-first g.object g.number object a l))
    (λ p l. order-cases ⊥ g.number a (λ m. clash t (pair_before-second g.object g.number object a p m)) (λ q. clash n (group-is object a g p q)) (λ m. omega arith))))
    (λ u. u)

-- an empty group behind those that stand before it
in_one : (object a i : ℕ) (gs : List Group) → i ≡ leading (group_under object a) gs → take i gs ++ (empty_group object a ∷ []) ++ drop i gs ≡ insert group_before (empty_group object a) gs
unfolding group_before empty_group
in_one object a i gs e = rw e (sym (insert-leading group_before (empty_group object a) gs))

-- and the next one behind it
in_both : (object a i : ℕ) (gs : List Group) → any (is_group object a) gs ≡ false → i ≡ leading (group_under object a) gs
    → take i gs ++ (empty_group object a ∷ empty_group object (suc a) ∷ []) ++ drop i gs ≡ insert group_before (empty_group object (suc a)) (insert group_before (empty_group object a) gs)
unfolding group_before empty_group
in_both object a i gs n e =
    rw e (sym (insert-both group_before before-trans (empty_group object a) (empty_group object (suc a)) (empty-before object a (suc a) (omega arith)) (empty-behind object a (suc a) (omega arith)) gs
    (each_of gs (empty_group object a) (λ j l t. under_next object a (get_or gs j (empty_group object a)) (none-at (is_group object a) gs n j (empty_group object a) l) t))))

module _ (object number n i : ℕ) (s t : List ℕ) (r : GroupsRight n s) (o : object < 2 ^ 64)
    (p : (ascending group_before (groups_in n s) ≡ true → i ≡ leading (group_under object number) (groups_in n s)) × (i ≤ n)) where
  -- one empty group put in
  pub one-added : (x : List ℕ) → x ≡ patch (replicate 1073 0) 0 (group_key object number) → number < 2 ^ 64 → any (group_is object number) (groups_in n s) ≡ false → group_bytes * (n + 1) ≤ length s
      → Spliced group_bytes n i 0 1 s x t → GroupsSay (n + 1) (length s) (added object number 1 (groups_in n s)) t
  unfolding added flat_map is_group
  one-added x e b gone l h =
      let gs : List Group = groups_in n s in
      let g : Group = empty_group object number in
      let f : Each GroupFits (g ∷ []) = each_more (fits-empty object number o b) each_none in
      let q : x ≡ flat_map encode_group (g ∷ []) = e ∙ empty-written object number ∙ sym (append-nil (encode_group g)) in
      put_in n i 1 s x t (g ∷ []) (insert group_before g gs) r l h (rw q (flat-says f)) (rw q (flat-right f)) (in_one object number i gs (p.0 r.order)) (insert-order object number gs gone r.order)

  -- two, side by side
  pub two-added : (y x : List ℕ) → y ≡ patch (replicate 2146 0) 0 (group_key object number) → x ≡ patch y 1073 (group_key object (number + 1)) → number + 1 < 2 ^ 64
      → any (group_is object number) (groups_in n s) ≡ false → any (group_is object (number + 1)) (groups_in n s) ≡ false → group_bytes * (n + 2) ≤ length s
      → Spliced group_bytes n i 0 2 s x t → GroupsSay (n + 2) (length s) (added object number 2 (groups_in n s)) t
  unfolding added flat_map is_group
  two-added y x d e b gone away l h =
      let gs : List Group = groups_in n s in
      let g : Group = empty_group object number in
      let k : Group = empty_group object (suc number) in
      let z : number + 1 ≡ suc number = add-one number in
      let f : Each GroupFits (g ∷ k ∷ []) = each_more (fits-empty object number o (omega arith)) (each_more (fits-empty object (suc number) o (omega arith)) each_none) in
      let q : x ≡ flat_map encode_group (g ∷ k ∷ []) =
      e ∙ ap (λ (v : List ℕ). patch v 1073 (group_key object (number + 1))) d ∙ ap (λ (m : ℕ). patch (patch (replicate 2146 0) 0 (group_key object number)) 1073 (group_key object m)) z
      ∙ two-written object number (suc number) ∙ ap (λ (v : List ℕ). encode_group g ++ v) (sym (append-nil (encode_group k))) in
      let next : any (is_group object (suc number)) (insert group_before g gs) ≡ false = missing-still object number (suc number) gs (λ w. omega arith) (rw z at away) in
      put_in n i 2 s x t (g ∷ k ∷ []) (insert group_before k (insert group_before g gs)) r l h (rw q (flat-says f)) (rw q (flat-right f)) (in_both object number i gs gone (p.0 r.order))
      (insert-order object (suc number) (insert group_before g gs) next (insert-order object number gs gone r.order))
