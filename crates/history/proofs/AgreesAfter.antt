-- The volume that a change leaves says what the plain arrays do after it.
-- Assumes nothing.
use mathlib.Core.Path.{◌≡◌, refl, sym, ap, ◌∙◌}
use mathlib.Core.Logic.{◌⊎◌, inl, inr}
use mathlib.Core.List.{List, flat_map, Memᴰ}
use mathlib.Core.Bool.{true, false, ◌&&◌, and-true}
use mathlib.Core.Option.{Option, none, some, none-ne-some, some-injective}
use Prim.Native.Nat.{ℕ, ◌+◌, ◌*◌, ◌≤◌, ◌<◌}
use native.Mathlib.Decide.{ℕ_discrete}
use native.Mathlib.Omega.{arith}
use lib.Dec.{eqb, leb}
use lib.ListN.{length, get_or, get_or-eq_default}
use borrow.Author.Tests.{eqb-true, eq-eqb, ne_eqb, leb-true}
use Rattle.rules.specs.Time.{Time}
use Rattle.rules.specs.Lists.{pick◌then◌else◌, maybe, given, find, count, member, begun}
use Rattle.rules.specs.Sizes.{block_bytes, unit_bytes}
use Rattle.rules.specs.Card.{Card}
use Rattle.rules.specs.Extent.{Extent, extent_end, mapping}
use Rattle.rules.specs.Store.{Volume, card_of, created_of}
use Rattle.rules.specs.Integrity.{in_file, in_files}
use Rattle.rules.specs.Units.{Change, touches, valid_length}
use Rattle.rules.specs.Inspect.{checksum_of, inspect_unit}
use Rattle.rules.specs.Inspect.Inspected.{hole, checked}
use Rattle.rules.specs.Rewrite.{Progress, Rewritten}
use Rattle.rules.specs.Finish.{new_blocks, superseded_blocks, finished_cards, finished_extents, finished}
use Rattle.rules.specs.Plain.{File, change, file_bytes, file_created}
use Rattle.rules.specs.Demand.{Place, places_of, places, file_places}
use Rattle.rules.proofs.ListLaws.{test-cases, if-true, if-false, if-cases, maybe-some, maybe-none, and_left, and_right, any-index, find-passes, Each, each-any, each_at, each_all, each_weaken}
use Rattle.rules.proofs.CountLaws.{count-each}
use Rattle.history.proofs.ReadLaws.{UnitIs, is-hole, is-checked, FileIs, ObjectIs}
use Rattle.history.proofs.Invariant.{Past, FilesAgree, BlocksAgree}
use Rattle.history.proofs.MappingLaws.{mapping-none}
use Rattle.history.proofs.BackedLaws.{none-unbacked}
use Rattle.history.proofs.CardsAfter.{card-of-object, card_after, cards-are, size-mine, object-mine, allocated-mine, created-after, card-theirs, find-after, found_after, none_after}
use Rattle.history.proofs.UnitLaws.{hole-means, makes-hole, inspect-valid, inspect-unit-same}
use Rattle.history.proofs.ChangeLaws.{untouched-part, untouched-zeros}
use Rattle.history.proofs.PlanLaws.{StaysHole, unit_part}
use Rattle.history.proofs.PlannedLaws.{planned-at, planned-count, find-unit}
use Rattle.history.proofs.BalanceLaws.{balance, balance-other}
use Rattle.history.proofs.AfterUnits.{Carrying, Filling, apart-old, unit-stays, unit-new}
use Rattle.history.proofs.BlocksAfter.{holders-after}
use Rattle.history.proofs.VolumeAfter.{CallRight, only-card}
use Rattle.history.proofs.MoreLists.{count-all, each-mem, find-through, seen-through, mem-through}

-- ---- plain arrays

module _ (object : ℕ) (f : List ℕ → List ℕ) where
  -- an array after the change
  unfoldable file_after : File → File
  file_after a = pick eqb a.object object then record { object = a.object; created = a.created; bytes = f a.bytes } else a

  -- an array's object stays
  same_object : (a : File) → (file_after a).object ≡ a.object
  unfolding file_after
  same_object a = if-cases (λ (x : File). x.object ≡ a.object) (eqb a.object object) _ a (λ e. refl) (λ e. refl)

  -- when it was made stays
  same-created : (a : File) → (file_after a).created ≡ a.created
  unfolding file_after
  same-created a = if-cases (λ (x : File). x.created ≡ a.created) (eqb a.object object) _ a (λ e. refl) (λ e. refl)

  -- what is found is what was, put through
  find-changed : (o : ℕ) (files : List File) → find (λ a. eqb a.object o) (change object f files) ≡ maybe none (λ a. some (file_after a)) (find (λ a. eqb a.object o) files)
  unfolding change file_after
  find-changed o files = find-through (λ a. eqb a.object o) file_after (λ a. ap (λ (n : ℕ). eqb n o) (same_object a)) files

  -- no array is made at another time
  pub made-same : (o : ℕ) (files : List File) → file_created (change object f files) o ≡ file_created files o
  unfolding file_created
  made-same o files = ap (maybe none (λ a. some a.created)) (find-changed o files) ∙ seen-through file_after (λ a. a.created) same-created (find (λ a. eqb a.object o) files)

  -- the array of the object is put through
  pub bytes-mine : (files : List File) (xs : List ℕ) → file_bytes files object ≡ some xs → file_bytes (change object f files) object ≡ some (f xs)
  unfolding file_bytes
  bytes-mine files xs = go (find (λ a. eqb a.object object) files) refl
    where
      go : (x : Option File) → find (λ a. eqb a.object object) files ≡ x → maybe none (λ a. some a.bytes) (find (λ a. eqb a.object object) files) ≡ some xs
          → maybe none (λ a. some a.bytes) (find (λ a. eqb a.object object) (change object f files)) ≡ some (f xs)
      go none e h = absurd (none-ne-some xs (sym (maybe-none none (λ a. some a.bytes) (find (λ a. eqb a.object object) files) e) ∙ h))
      go (some a) e h =
          let b : a.bytes ≡ xs = some-injective a.bytes xs (sym (maybe-some none (λ a. some a.bytes) (find (λ a. eqb a.object object) files) a e) ∙ h) in
          let k : find (λ a. eqb a.object object) (change object f files) ≡ some (file_after a) = find-changed object files ∙ maybe-some none (λ a. some (file_after a)) (find (λ a. eqb a.object object) files) a e in
          let z : (file_after a).bytes ≡ f a.bytes = unfold file_after in ap (λ (x : File). x.bytes) (if-true (eqb a.object object) _ a (find-passes (λ a. eqb a.object object) files a e)) in
          maybe-some none (λ a. some a.bytes) (find (λ a. eqb a.object object) (change object f files)) (file_after a) k ∙ ap some (z ∙ ap f b)

  -- the arrays of other objects stay
  pub bytes-theirs : (files : List File) (o : ℕ) → (o ≡ object → ⊥) → file_bytes (change object f files) o ≡ file_bytes files o
  unfolding file_bytes file_after
  bytes-theirs files o n = go (find (λ a. eqb a.object o) files) refl
    where
      go : (x : Option File) → find (λ a. eqb a.object o) files ≡ x
          → maybe none (λ a. some a.bytes) (find (λ a. eqb a.object o) (change object f files)) ≡ maybe none (λ a. some a.bytes) (find (λ a. eqb a.object o) files)
      go none e = ap (maybe none (λ a. some a.bytes)) (find-changed o files ∙ maybe-none none (λ a. some (file_after a)) (find (λ a. eqb a.object o) files) e ∙ sym e)
      go (some a) e =
          let q : a.object ≡ o = eqb-true a.object o (find-passes (λ a. eqb a.object o) files a e) in
          let z : file_after a ≡ a = if-false (eqb a.object object) _ a (ne_eqb a.object object (λ w. n (sym q ∙ w))) in
          ap (maybe none (λ a. some a.bytes)) (find-changed o files ∙ maybe-some none (λ a. some (file_after a)) (find (λ a. eqb a.object o) files) a e ∙ ap some z ∙ sym e)

-- ---- the volume

-- a unit with the same valid length lies in a file where it lies in another
valid-inside : (a b u : ℕ) → valid_length a u ≡ valid_length b u → u * unit_bytes < a → u * unit_bytes < b
unfolding valid_length
valid-inside a b u e l = omega arith

module _ {v : Volume} {c : Change} {xs ys : List ℕ} {us : List ℕ} {p : Progress} {card : Card} {rs : List Rewritten} {q : Progress} {time : Time}
    (d : Carrying v c rs) (k : CallRight v c card q time) (told : Filling v c xs ys us p rs q) (start : p.allocated ≡ card.allocated) where
  -- the volume that is left
  abbrev w : Volume
  w = finished c time rs q v

  -- a card after the change
  abbrev moved : Card → Card
  moved = card_after c q.allocated time

  -- the file's card after it
  abbrev new_card' : Card
  new_card' = moved card

  -- the file's card is of its object
  card-object : card.object ≡ c.object
  card-object = card-of-object v c.object card k.known

  -- the file's card is found
  card-found : card_of w c.object ≡ some new_card'
  unfolding card_of finished
  card-found = found_after c q.allocated time c.object v.books.cards card k.known

  -- every other as before
  card-other' : (o : ℕ) → (o ≡ c.object → ⊥) → card_of w o ≡ card_of v o
  unfolding card_of finished
  card-other' o n = go (find (λ x. eqb x.object o) v.books.cards) refl
    where
      go : (x : Option Card) → find (λ x. eqb x.object o) v.books.cards ≡ x
          → find (λ x. eqb x.object o) (finished_cards c q.allocated time v.books.cards) ≡ find (λ x. eqb x.object o) v.books.cards
      go none e = none_after c q.allocated time o v.books.cards e ∙ sym e
      go (some x) e =
          let z : x.object ≡ o = eqb-true x.object o (find-passes (λ x. eqb x.object o) v.books.cards x e) in
          found_after c q.allocated time o v.books.cards x e ∙ ap some (card-theirs c q.allocated time x (λ y. n (sym z ∙ y))) ∙ sym e

  -- no block of the file is mapped past its old end
  mapping-past : (b : ℕ) → begun c.old_size block_bytes ≤ b → mapping v.books.extents c.object b ≡ none
  mapping-past b l =
      mapping-none c.object b (each_weaken (λ e t m. omega (arith, l, m.high, ends e t m.file)) (each_all (in_file v.books.cards) (λ e t. t) v.books.extents (unfold in_files in d.lawful.files)))
    where
      ends : (e : Extent) → in_file v.books.cards e ≡ true → e.object ≡ c.object → e.logical + e.count ≤ begun c.old_size block_bytes
      ends e t o = unfold in_file extent_end in (
          let i = any-index (λ x. eqb x.object e.object && leb (e.logical + e.count) (begun x.size block_bytes)) v.books.cards card (unfold in_file extent_end in t) in
          let x : Card = get_or v.books.cards i.0 card in
          let y : x.object ≡ e.object = eqb-true x.object e.object (and_left (eqb x.object e.object) (leb (e.logical + e.count) (begun x.size block_bytes)) i.2) in
          let z : x ≡ card = each_at (only-card d k) i.0 card i.1 (y ∙ o) in
          let s : x.size ≡ c.old_size = ap (λ (a : Card). a.size) z ∙ k.size in
          omega (arith, s, leb-true (e.logical + e.count) (begun x.size block_bytes) (and_right (eqb x.object e.object) (leb (e.logical + e.count) (begun x.size block_bytes)) i.2)))

  -- ---- the file

  module _ (file : FileIs v c.object xs) (past : (u : ℕ) → c.old_size ≤ u * unit_bytes → checksum_of v c.object u ≡ none) where
    -- a unit past the old end was a hole
    past-hole : (u size : ℕ) → c.old_size ≤ u * unit_bytes → inspect_unit v c.object size u ≡ hole
    past-hole u size l =
        makes-hole v c.object size u (past u l) (none-unbacked v c.object u (apart-old d) (λ b e. mapping-past b (omega arith)))

    -- a unit that is not rewritten is the array's
    old-unit : (u : ℕ) → u * unit_bytes < length ys → Each (λ r. u ≡ r.unit → ⊥) rs → UnitIs (unit_part u ys) (inspect_unit v c.object (length ys) u)
    old-unit u l n = test-cases (UnitIs (unit_part u ys) (inspect_unit v c.object (length ys) u)) (member u us) (λ m. among (planned-at told.planned u m)) (λ m. rest (told.units.rest u m).0 (told.units.rest u m).1)
      where
        among : ((r : Rewritten) × Memᴰ r rs × (r.unit ≡ u)) ⊎ StaysHole v c ys u → UnitIs (unit_part u ys) (inspect_unit v c.object (length ys) u)
        among (inl r) = absurd (each-mem n r.1 (sym r.2))
        among (inr h) =
            let m = hole-means v c.object c.old_size u h.found in
            rw (makes-hole v c.object (length ys) u m.0 m.1) (is-hole h.zeros)

        rest : touches c u ≡ false → (valid_length c.old_size u ≡ valid_length c.new_size u) ⊎ (c.old_size ≤ u * unit_bytes) → UnitIs (unit_part u ys) (inspect_unit v c.object (length ys) u)
        rest t (inr z) =
            rw (past-hole u (length ys) z) (is-hole (untouched-zeros c xs ys told.becomes u t (λ j m. get_or-eq_default xs 0 {n = u * unit_bytes + j} (omega (arith, told.becomes.old)))))
        rest t (inl e) =
            let z : unit_part u ys ≡ unit_part u xs = untouched-part c xs ys told.becomes u t e in
            let g : valid_length (length ys) u ≡ valid_length (length xs) u = ap (λ (n : ℕ). valid_length n u) (sym told.becomes.new) ∙ sym e ∙ ap (λ (n : ℕ). valid_length n u) told.becomes.old in
            let m : u * unit_bytes < length xs = valid-inside (length ys) (length xs) u g l in
            rw (z, inspect-valid v c.object (length ys) (length xs) u g) (file u m)

    -- the file is the new array
    file-after : FileIs w c.object ys
    file-after u l = go (find-unit rs u)
      where
        go : ((r : Rewritten) × Memᴰ r rs × (r.unit ≡ u)) ⊎ Each (λ r. u ≡ r.unit → ⊥) rs → UnitIs (unit_part u ys) (inspect_unit w c.object (length ys) u)
        go (inl r) =
            let e : inspect_unit w c.object (length ys) u ≡ checked (unit_part u ys) =
            ap (λ (n : ℕ). inspect_unit w c.object n u) (sym told.becomes.new) ∙ ap (inspect_unit w c.object c.new_size) (sym r.2) ∙ unit-new d time q told r.0 r.1 ∙ ap (λ (n : ℕ). checked (unit_part n ys)) r.2 in
            rw e (is-checked refl)
        go (inr n) = rw (inspect-unit-same w v c.object (length ys) u (unit-stays d time q c.object u (λ e. n))) (old-unit u l n)

    -- its card says its size
    object-after' : ObjectIs w c.object ys
    object-after' e h =
        let z : e ≡ new_card' = some-injective e new_card' (sym h ∙ card-found) in
        let s : e.size ≡ length ys = ap (λ (x : Card). x.size) z ∙ size-mine c q.allocated time card card-object ∙ told.becomes.new in
        let o : e.object ≡ c.object = ap (λ (x : Card). x.object) z ∙ object-mine c q.allocated time card card-object ∙ card-object in
        (s, rw o file-after)

  -- another file stays
  object-stays : (o : ℕ) → (o ≡ c.object → ⊥) → (zs : List ℕ) → ObjectIs v o zs → ObjectIs w o zs
  object-stays o n zs h e t =
      let b : card_of v o ≡ some e = sym (card-other' o n) ∙ t in
      let r = h e b in
      let z : e.object ≡ o = card-of-object v o e b in
      (r.0, λ u l. rw (inspect-unit-same w v e.object (length zs) u (unit-stays d time q e.object u (λ y. absurd (n (sym z ∙ y))))) (r.1 u l))

  -- ---- the places

  -- the file's places, counted
  file-count : file_places w c.object + length (superseded_blocks rs) ≡ file_places v c.object + length (new_blocks rs)
  unfolding file_places places finished
  file-count =
      let e = balance v c (λ x. true) (λ o. eqb o c.object) rs (apart-old d) (eq-eqb c.object c.object refl) d.made d.order in
      omega (arith, e, count-all (superseded_blocks rs), count-all (new_blocks rs), plain (flat_map places_of v.books.extents), plain (flat_map places_of (finished_extents c.object rs v.books.extents)))
    where
      plain : (ps : List Place) → count (λ x. eqb x.object c.object && true) ps ≡ count (λ x. eqb x.object c.object) ps
      plain ps = count-each (λ x. eqb x.object c.object && true) (λ x. eqb x.object c.object) (each-any (λ x. and-true (eqb x.object c.object)) ps)

  -- another file's places, counted
  other-count : (o : ℕ) → (o ≡ c.object → ⊥) → file_places w o ≡ file_places v o
  unfolding file_places places finished
  other-count o n =
      let e = balance-other v c (λ x. true) (λ a. eqb a o) rs (apart-old d) (ne_eqb c.object o (λ z. n (sym z))) in
      omega (arith, e, plain (flat_map places_of v.books.extents), plain (flat_map places_of (finished_extents c.object rs v.books.extents)))
    where
      plain : (ps : List Place) → count (λ x. eqb x.object o && true) ps ≡ count (λ x. eqb x.object o) ps
      plain ps = count-each (λ x. eqb x.object o && true) (λ x. eqb x.object o) (each-any (λ x. and-true (eqb x.object o)) ps)

  -- the cards' counts are those of their files' places
  counts-after : ((e : Card) → Memᴰ e v.books.cards → e.allocated ≡ file_places v e.object) → (e : Card) → Memᴰ e w.books.cards → e.allocated ≡ file_places w e.object
  unfolding finished
  counts-after h e m =
      let t = mem-through (moved) v.books.cards (rw (cards-are c q.allocated time v.books.cards) at m) in
      rw t.2 (one t.0 t.1 (ℕ_discrete t.0.object c.object))
    where
      one : (x : Card) → Memᴰ x v.books.cards → Dec (x.object ≡ c.object) → (moved x).allocated ≡ file_places w (moved x).object
      one x i (yes z) =
          let a : x.allocated ≡ card.allocated = ap (λ (y : Card). y.allocated) (each-mem (only-card d k) i z) in
          let b : x.allocated ≡ file_places v c.object = h x i ∙ ap (file_places v) z in
          rw (allocated-mine c q.allocated time x z, object-mine c q.allocated time x z, z) (omega (arith, a, b, start, file-count, planned-count told.planned))
      one x i (no n) = rw (card-theirs c q.allocated time x n) (h x i ∙ sym (other-count x.object n))

  -- ---- all

  -- what is said of the blocks stays right
  pub blocks-after : {reserved : ℕ} → BlocksAgree reserved v → BlocksAgree reserved w
  blocks-after {reserved} a = record { given = unfold finished in a.given; one_place = λ b l. holders-after d time q reserved b (a.one_place b (unfold finished in l)) }

  -- no card is made at another time
  card-created : (o : ℕ) → created_of w o ≡ created_of v o
  unfolding created_of card_of finished
  card-created o =
      ap (maybe none (λ x. some x.created)) (find-after c q.allocated time o v.books.cards)
      ∙ seen-through moved (λ x. x.created) (created-after c q.allocated time) (find (λ x. eqb x.object o) v.books.cards)

  -- and what is said of the files
  pub files-after : (files : List File) (f : List ℕ → List ℕ) → f xs ≡ ys → file_bytes files c.object ≡ some xs → FilesAgree files v → FilesAgree (change c.object f files) w
  files-after files f y known a = record {
    objects = λ o. objects o (ℕ_discrete o c.object);
    bytes = λ o zs h. bytes o zs h (ℕ_discrete o c.object);
    slots = λ o u h. slots o u h (ℕ_discrete o c.object);
    counts = counts-after a.counts;
    created = λ o. card-created o ∙ a.created o ∙ sym (made-same c.object f o files);
  }
    where
      new : file_bytes (change c.object f files) c.object ≡ some ys
      new = bytes-mine c.object f files xs known ∙ ap some y

      file : FileIs v c.object xs
      file = rw card-object at (a.bytes c.object xs known card k.known).1

      past : (u : ℕ) → c.old_size ≤ u * unit_bytes → checksum_of v c.object u ≡ none
      past u l = a.slots c.object u (λ e h. let z : e ≡ card = some-injective e card (sym h ∙ k.known) in omega (arith, l, k.size, ap (λ (x : Card). x.size) z))

      objects : (o : ℕ) → Dec (o ≡ c.object) → given (file_bytes (change c.object f files) o) ≡ given (card_of w o)
      objects o (yes e) = rw (e, new, card-found) (unfold given in refl)
      objects o (no n) = rw (bytes-theirs c.object f files o n, card-other' o n) (a.objects o)

      bytes : (o : ℕ) (zs : List ℕ) → file_bytes (change c.object f files) o ≡ some zs → Dec (o ≡ c.object) → ObjectIs w o zs
      bytes o zs h (yes e) =
          let z : zs ≡ ys = some-injective zs ys (sym h ∙ ap (file_bytes (change c.object f files)) e ∙ new) in
          rw (e, z) (object-after' file past)
      bytes o zs h (no n) = object-stays o n zs (a.bytes o zs (sym (bytes-theirs c.object f files o n) ∙ h))

      slots : (o u : ℕ) → Past w o u → Dec (o ≡ c.object) → checksum_of w o u ≡ none
      slots o u h (yes e) =
          let m : c.new_size ≤ u * unit_bytes = omega (arith, h new_card' (rw e card-found), size-mine c q.allocated time card card-object) in
          rw e ((unit-stays d time q c.object u (λ z. each_weaken (λ r i y. omega (arith, i.inside, m)) d.made)).slot ∙ past u (omega (arith, m, told.becomes.old, told.becomes.new, told.becomes.more)))
      slots o u h (no n) = (unit-stays d time q o u (λ z. absurd (n z))).slot ∙ a.slots o u (λ e t. h e (card-other' o n ∙ t))
