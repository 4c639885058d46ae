-- The store that a change leaves, from what the functions that change its buffers say of each.
-- Assumes nothing.
use mathlib.Core.Path.{◌≡◌, sym, ap, ap₂, ◌∙◌}
use mathlib.Core.Bool.{true, ◌||◌}
use mathlib.Core.List.{List, [], ◌∷◌}
use mathlib.Core.Option.{some, none-ne-some}
use Prim.Native.Nat.{ℕ, zero, suc, ◌+◌, ◌-◌, ◌*◌, ◌^◌, ◌≤◌, ◌<◌}
use native.Mathlib.Decide.{dec_lt}
use native.Mathlib.Omega.{arith}
use lib.Dec.{eqb, leb}
use lib.ListN.{length, take, drop, get_or, length-drop}
use lib.Seq.{get_or-take, get_or-drop}
use Rattle.rules.specs.Lists.{all, any, member, ascending}
use Rattle.rules.specs.Sizes.{unit_blocks, unit_bytes}
use Rattle.rules.specs.Bytes.{bit_set}
use Rattle.rules.specs.Time.{Time}
use Rattle.rules.specs.Head.{Head, decode_head, encode_head}
use Rattle.rules.specs.Card.{Card, card_bytes, decode_card, encode_card, card_before}
use Rattle.rules.specs.Extent.{extent_bytes, encode_extent, extent_before}
use Rattle.rules.specs.Group.{group_bytes, decode_group, encode_group, group_before}
use Rattle.rules.specs.Map.{map_bytes, encode_map}
use Rattle.rules.specs.Book.{decode_book, decode_books, book_places, encode_book}
use Rattle.rules.specs.Store.{Store, StoreBytes, Volume, decode, decode_with, encode_into, card_of}
use Rattle.rules.specs.Integrity.{ordered, on_device}
use Rattle.rules.specs.Inspect.{unit_mapping}
use Rattle.rules.specs.Units.{Change}
use Rattle.rules.specs.Rewrite.{Rewritten, Progress}
use Rattle.rules.specs.Kept.{superseded}
use Rattle.rules.specs.Finish.{finished, finished_cards, finished_extents, finished_groups, finished_image, new_blocks, superseded_blocks}
use Rattle.rules.proofs.ListLaws.{test-cases, or_right, find_none, Each}
use Rattle.rules.proofs.CountLaws.{member-cons, member-first}
use Rattle.rules.proofs.PassLaws.{each-passed, Passes, passes-sized, passes-room, passes-whole, lawful-decode}
use Rattle.book.specs.Places.{card_is}
use Rattle.mapping.specs.Entries.{entries, extents_in}
use Rattle.mapping.proofs.EntryLaws.{entries-most}
use Rattle.rewrite.specs.Plan.{laid_units}
use Rattle.finish_books.specs.Buffers.{new_of, finished_head, CardsRight, NewInside, OldInside}
use Rattle.finish_extents.specs.Stretch.{Describes, Finished, WholeBook}
use Rattle.finish_extents.proofs.ExchangeLaws.{finished-number}
use Rattle.file.specs.Flat.{flat_blocks, AllWhole, KeptIn, OldIn}
use Rattle.file.proofs.FlatLaws.{flat-new, flat-superseded}
use Rattle.file.proofs.PartLaws.{describes}
use Rattle.file.proofs.StoreLaws.{Left, left-store}

-- ---- the units of a change, told by arrays

-- arrays tell rewritten units: their numbers, where their blocks were, what they keep and where their blocks are
pub record Told (rs : List Rewritten) (us old kept blocks : List ℕ) : Type 0 where
  pub described : Describes us blocks rs
  pub new : new_blocks rs ≡ new_of kept blocks
  pub gone : superseded_blocks rs ≡ superseded (entries old) (entries kept)

module _ (limit : ℕ) (v : Volume) (c : Change) where
  -- so the arrays tell them
  pub flat-told : {us : List ℕ} (os ks bs : List ℕ) → AllWhole c us → Each (λ u. u * unit_bytes < c.new_size) us → OldIn v c.object us os → KeptIn limit v c us ks
      → unit_blocks * length us ≡ length os → unit_blocks * length us ≤ length ks → unit_blocks * length us ≤ length bs
      → Told (laid_units limit v c us bs) us os (take (flat_blocks c us) ks) (take (flat_blocks c us) bs)
  flat-told {us = us} os ks bs w h o k x y z = record {
    described = describes limit v c us bs w h z;
    new = flat-new limit v c us ks bs w k y z;
    gone = flat-superseded limit v c us os ks bs w o k x y;
  }

-- ---- the buffers

module _ (c : Change) (time : Time) (rs : List Rewritten) (p : Progress) (s t : Store) where
  -- what the functions that change the buffers were given of the store and its change
  pub record Given (n m g object size allocated seconds nanoseconds hint : ℕ) : Type 0 where
    pub cards : n ≡ (decode_head s.head).cards
    pub extents : m ≡ (decode_head s.head).extents
    pub groups : g ≡ (decode_head s.head).groups
    pub file : object ≡ c.object
    pub new_size : size ≡ c.new_size
    pub count : allocated ≡ p.allocated
    pub second : seconds ≡ time.seconds
    pub nanosecond : nanoseconds ≡ time.nanoseconds
    pub next : hint ≡ p.hint

  -- what they say of each buffer, in their words: kept and blocks are side by side, old is where the blocks were, and the exchange in the book of
  -- extents is by place, cut and count
  pub record Carried (n m g object size allocated seconds nanoseconds hint groups place cut count : ℕ) (us old kept blocks made : List ℕ) : Type 0 where
    pub inside : place + cut ≤ m
    pub exchange : Finished object us blocks (extents_in m s.extents) place (place + cut) count made
    pub groups_after : groups ≡ length (finished_groups object rs (decode_book decode_group group_bytes g s.groups))
    pub image_left : t.image ≡ finished_image rs s.image
    pub head_left : t.head ≡ encode_head (finished_head hint (m - cut + count) groups (decode_head s.head))
    pub cards_left : (d : Change) → d.object ≡ object → d.new_size ≡ size
        → t.cards ≡ encode_book encode_card (length s.cards) (finished_cards d allocated (record { seconds = seconds; nanoseconds = nanoseconds }) (decode_book decode_card card_bytes n s.cards))
    pub extents_left : (o : ℕ) (vs cs : List ℕ) (qs : List Rewritten) → Finished o vs cs (extents_in m s.extents) place (place + cut) count made → Describes vs cs qs
        → t.extents ≡ encode_book encode_extent (length s.extents) (finished_extents o qs (extents_in m s.extents))
    pub groups_left : t.groups ≡ encode_book encode_group (length s.groups) (finished_groups object rs (decode_book decode_group group_bytes g s.groups))
    pub used_left : (b : ℕ) → length s.used ≡ map_bytes b → t.used ≡ encode_map b (λ k. bit_set s.used k || member k (new_of kept blocks))
    pub retired_left : (b : ℕ) → length s.retired ≡ map_bytes b
        → t.retired ≡ encode_map b (λ k. bit_set s.retired k || member k (superseded (entries old) (entries kept)))

  -- a map of a store that passes has a bit for each of its blocks
  used-bits : Passes s → length s.used ≡ map_bytes (decode s).blocks
  unfolding decode decode_with
  used-bits q = (passes-sized s q).used ∙ ap map_bytes (sym (passes-room s q).blocks)

  -- so has the other
  retired-bits : Passes s → length s.retired ≡ map_bytes (decode s).blocks
  unfolding decode decode_with
  retired-bits q = (passes-sized s q).retired ∙ ap map_bytes (sym (passes-room s q).blocks)

  module _ {n m g object size allocated seconds nanoseconds hint groups place cut count : ℕ} {us old kept blocks made : List ℕ} (q : Passes s)
      (a : Given n m g object size allocated seconds nanoseconds hint)
      (l : Carried n m g object size allocated seconds nanoseconds hint groups place cut count us old kept blocks made) (b : Told rs us old kept blocks) where
    -- the finished extents are as many as the head says
    extents-number : m - cut + count ≡ length (finished_extents c.object rs (extents_in (decode_head s.head).extents s.extents))
    extents-number =
        sym (finished-number object us blocks rs m place cut count s.extents made l.inside l.exchange b.described)
        ∙ ap₂ (λ o k. length (finished_extents o rs (extents_in k s.extents))) a.file a.extents

    -- so are the finished groups
    groups-number : groups ≡ length (finished_groups c.object rs (decode_book decode_group group_bytes (decode_head s.head).groups s.groups))
    groups-number = l.groups_after ∙ ap₂ (λ o k. length (finished_groups o rs (decode_book decode_group group_bytes k s.groups))) a.file a.groups

    -- the cards are those of the change
    cards-same : finished_cards c allocated (record { seconds = seconds; nanoseconds = nanoseconds }) (decode_book decode_card card_bytes n s.cards)
        ≡ finished_cards c p.allocated time (decode_book decode_card card_bytes (decode_head s.head).cards s.cards)
    cards-same = λ i. finished_cards c (a.count i) (record { seconds = a.second i; nanoseconds = a.nanosecond i }) (decode_book decode_card card_bytes (a.cards i) s.cards)

    -- so each buffer is what the change leaves of it
    pub left-of : Left c time rs p s t
    unfolding decode decode_with decode_books finished_head
    left-of =
        let h : Head = decode_head s.head in
        record {
          image = l.image_left;
          head = λ e d x y.
              l.head_left ∙ ap (λ k. encode_head (finished_head k (m - cut + count) groups h)) a.next
              ∙ ap₂ (λ j k. encode_head (finished_head p.hint j k h)) (extents-number ∙ sym x) (groups-number ∙ sym y);
          cards = l.cards_left c (sym a.file) (sym a.new_size) ∙ ap (encode_book encode_card (length s.cards)) cards-same;
          extents = l.extents_left object us blocks rs l.exchange b.described
              ∙ ap₂ (λ o k. encode_book encode_extent (length s.extents) (finished_extents o rs (extents_in k s.extents))) a.file a.extents;
          groups = l.groups_left
              ∙ ap₂ (λ o k. encode_book encode_group (length s.groups) (finished_groups o rs (decode_book decode_group group_bytes k s.groups))) a.file a.groups;
          used = l.used_left h.blocks (used-bits q) ∙ ap (λ x. encode_map h.blocks (λ k. bit_set s.used k || member k x)) (sym b.new);
          retired = l.retired_left h.blocks (retired-bits q) ∙ ap (λ x. encode_map h.blocks (λ k. bit_set s.retired k || member k x)) (sym b.gone);
        }

    -- and the store is the finished one
    pub carried-store : encode_into s (finished c time rs p (decode s)) ≡ t
    carried-store = left-store c time rs p s t left-of

-- ---- what the functions ask for

-- entries that tell where units' blocks are stand for blocks of the device
old_most : (v : Volume) (object : ℕ) (us os : List ℕ) → all (λ e. leb (e.physical + e.count) v.blocks) v.books.extents ≡ true → OldIn v object us os
    → unit_blocks * length us ≡ length os → (i : ℕ) → get_or os i 0 ≤ v.blocks
unfolding unit_mapping
old_most v object [] [] h o l i = omega arith
old_most v object [] (x ∷ os) h o l i = absurd (omega (arith, l))
old_most v object (u ∷ us) os h o l i =
    go (λ j. old_most v object us (drop unit_blocks os) h o.1 (omega (arith, l, length-drop unit_blocks os)) j) (dec_lt i unit_blocks)
  where
    go : ((j : ℕ) → get_or (drop unit_blocks os) j 0 ≤ v.blocks) → Dec (i < unit_blocks) → get_or os i 0 ≤ v.blocks
    go r (yes k) =
        rw (get_or-take unit_blocks os i 0 k) at (entries-most v.blocks v.books.extents object (u * unit_blocks) (take unit_blocks os) h unit_blocks o.0 i)
    go r (no k) =
        let e : unit_blocks + (i - unit_blocks) ≡ i = omega (arith, k) in
        rw (get_or-drop unit_blocks os (i - unit_blocks) 0, e) at (r (i - unit_blocks))

-- a block at a place where nothing is kept is a new one
new-member : (ks bs : List ℕ) → length ks ≡ length bs → (f : ℕ) → f < length ks → get_or ks f 0 ≡ 0 → member (get_or bs f 0) (new_of ks bs) ≡ true
unfolding new_of
new-member [] bs e f l z = absurd (omega (arith, l))
new-member (k ∷ ks) [] e f l z = absurd (omega (arith, e))
new-member (zero ∷ ks) (b ∷ bs) e zero l z = member-first b (new_of ks bs)
new-member (zero ∷ ks) (b ∷ bs) e (suc f) l z =
    member-cons (get_or bs f 0) b (new_of ks bs) ∙ or_right (eqb (get_or bs f 0) b) _ (new-member ks bs (omega (arith, e)) f (omega (arith, l)) z)
new-member (suc k ∷ ks) (b ∷ bs) e zero l z = absurd (omega (arith, z))
new-member (suc k ∷ ks) (b ∷ bs) e (suc f) l z = new-member ks bs (omega (arith, e)) f (omega (arith, l)) z

module _ (s : Store) (q : Passes s) where
  -- the book of cards keeps its rules
  pub cards-ready : StoreBytes s → CardsRight (decode_head s.head).cards s.cards
  unfolding ordered decode decode_with decode_books
  cards-ready b =
      let o = each-passed (ascending card_before (decode s).books.cards) (ascending extent_before (decode s).books.extents ∷ ascending group_before (decode s).books.groups ∷ []) (lawful-decode s q).order in
      let w = (passes-whole s q b).cards in
      record { places = w.places; order = o.0; zeros = w.zeros; spare = w.records }

  -- so does that of extents
  pub extents-ready : StoreBytes s → WholeBook (decode_head s.head).extents s.extents
  extents-ready b = let w = (passes-whole s q b).extents in record { places = w.places; zeros = w.zeros; records = w.records }

  -- a file that was found has its card
  pub card-ready : (object : ℕ) (card : Card) → card_of (decode s) object ≡ some card
      → any (card_is object) (decode_book decode_card card_bytes (decode_head s.head).cards s.cards) ≡ true
  unfolding card_of decode decode_with decode_books
  card-ready object card e =
      let cs : List Card = decode_book decode_card card_bytes (decode_head s.head).cards s.cards in
      test-cases (any (card_is object) cs ≡ true) (any (card_is object) cs) (λ y. y) (λ n. absurd (none-ne-some card (sym (find_none (card_is object) cs n) ∙ e)))

  -- the old blocks have their bits
  pub old-ready : (object : ℕ) (us os : List ℕ) → OldIn (decode s) object us os → unit_blocks * length us ≡ length os → OldInside (8 * length s.retired) os
  unfolding decode decode_with on_device map_bytes
  old-ready object us os o l = record {
    each = λ i. omega (arith, old_most (decode s) object us os (lawful-decode s q).device o l i, (passes-sized s q).retired, (passes-room s q).blocks);
  }

  -- the new blocks have their bits
  pub new-ready : {rs : List Rewritten} {us old kept blocks : List ℕ} → Told rs us old kept blocks → length kept ≡ length blocks
      → ((b : ℕ) → member b (new_blocks rs) ≡ true → b < (decode s).blocks) → NewInside (8 * length s.used) kept blocks
  unfolding decode decode_with map_bytes
  new-ready {kept = kept} {blocks = blocks} d e h = record {
    each = λ f l z.
        omega (arith, h (get_or blocks f 0) (ap (member (get_or blocks f 0)) d.new ∙ new-member kept blocks e f l z), (passes-sized s q).used, (passes-room s q).blocks);
  }

  -- as many extents as there are places fit, and the head can say their number
  pub extents-room : (k : ℕ) → k ≤ book_places extent_bytes s.extents → (extent_bytes * k ≤ length s.extents) × (k < 2 ^ 20)
  unfolding book_places
  extents-room k l = (omega (arith, l), omega (arith, l, (passes-sized s q).extents.most))

  -- so do groups
  pub groups-room : (k : ℕ) → k ≤ book_places group_bytes s.groups → (group_bytes * k ≤ length s.groups) × (k < 2 ^ 20)
  unfolding book_places
  groups-room k l = (omega (arith, l), omega (arith, l, (passes-sized s q).groups.most))
