-- Extents that join: joined from the left or from the right they are the same, and runs none of which joins the next are taken in side by side.
-- Assumes nothing.
use mathlib.Core.Path.{◌≡◌, refl, sym, ap, ◌∙◌}
use mathlib.Core.List.{List, [], ◌∷◌, ◌++◌, append_assoc, append-nil}
use mathlib.Core.Bool.{Bool, true, false, not}
use Prim.Native.Nat.{ℕ, suc, ◌+◌, ◌*◌, ◌≤◌, ◌<◌}
use native.Mathlib.Omega.{arith}
use lib.Dec.{eqb, leb}
use lib.ListN.{length}
use borrow.Author.Tests.{eq-eqb, le-leb}
use Rattle.rules.specs.Lists.{filter}
use Rattle.rules.specs.Sizes.{unit_blocks, most_extent}
use Rattle.rules.specs.Extent.{Extent, extent_before, extent_end, joins, joined}
use Rattle.rules.specs.Rewrite.{Rewritten}
use Rattle.rules.specs.Finish.{meet, attach, take_in, take_in_all, start_runs, call_runs}
use Rattle.rules.proofs.ListLaws.{test-cases, clash, if-true, if-false, and_intro, filter-yes, filter-append, pair_before-cases, Each, each_none, each_more, each_weaken, each_both}
use Rattle.rules.proofs.CountLaws.{filter-nothing}
use Rattle.history.proofs.Rewritten.{each_first, each-rest}
use Rattle.history.proofs.ApartLaws.{Ahead, other, same, before_of, Laid, laid-first, laid-ahead, laid-tail}
use Rattle.history.proofs.MeetLaws.{Joining, joins_true, each-attach, joined-ahead, filled-joined}
use Rattle.finish_extents.specs.Stretch.{push, push_all}

-- ---- two extents

-- the test passes where two join
joins_of : (e f : Extent) → Joining e f → joins e f ≡ true
unfolding joins extent_end
joins_of e f j =
    and_intro _ (leb (e.count + f.count) most_extent)
    (and_intro _ (eqb (e.physical + e.count) f.physical)
    (and_intro (eqb e.object f.object) (eqb (e.logical + e.count) f.logical) (eq-eqb e.object f.object j.object) (eq-eqb (e.logical + e.count) f.logical j.logical))
    (eq-eqb (e.physical + e.count) f.physical j.physical))
    (le-leb (e.count + f.count) most_extent j.most)

-- what does not join the next does not with one before it
joined-quiet : (d e f : Extent) → joins d e ≡ true → joins e f ≡ false → joins (joined d e) f ≡ false
unfolding joined
joined-quiet d e f k q =
    test-cases (joins (joined d e) f ≡ false) (joins (joined d e) f)
    (λ t. let j : Joining d e = joins_true d e k in
    let i : Joining (joined d e) f = joins_true (joined d e) f t in
    absurd (clash q (joins_of e f (record {
      object = sym j.object ∙ i.object;
      logical = omega (arith, j.logical, i.logical);
      physical = omega (arith, j.physical, i.physical);
      most = omega (arith, i.most);
    }))))
    (λ t. t)

-- nor is it joined by the one before it with one behind it
quiet-joined : (d e f : Extent) → joins e f ≡ true → joins d e ≡ false → joins d (joined e f) ≡ false
unfolding joined
quiet-joined d e f k q =
    test-cases (joins d (joined e f) ≡ false) (joins d (joined e f))
    (λ t. let i : Joining d (joined e f) = joins_true d (joined e f) t in
    absurd (clash q (joins_of d e (record { object = i.object; logical = i.logical; physical = i.physical; most = omega (arith, i.most) }))))
    (λ t. t)

-- ---- an extent before others

module _ (e f : Extent) (fs : List Extent) where
  -- one with the first of them
  meet-yes : joins e f ≡ true → meet e (f ∷ fs) ≡ joined e f ∷ fs
  unfolding meet
  meet-yes t = if-true (joins e f) (joined e f ∷ fs) (e ∷ f ∷ fs) t

  -- or by itself
  meet-no : joins e f ≡ false → meet e (f ∷ fs) ≡ e ∷ f ∷ fs
  unfolding meet
  meet-no t = if-false (joins e f) (joined e f ∷ fs) (e ∷ f ∷ fs) t

-- it does not join the first of them
pub data Quiet (e : Extent) : List Extent → Type 0 where
  quiet_none : Quiet e []
  quiet-more : {f : Extent} {fs : List Extent} → joins e f ≡ false → Quiet e (f ∷ fs)

-- so it stays by itself
meet-quiet : (e : Extent) {fs : List Extent} → Quiet e fs → meet e fs ≡ e ∷ fs
meet-quiet e quiet_none = unfold meet in refl
meet-quiet e (quiet-more {f = f} {fs = fs} q) = meet-no e f fs q

-- with one before it too
quiet-behind : (d e : Extent) {fs : List Extent} → joins d e ≡ true → Quiet e fs → Quiet (joined d e) fs
quiet-behind d e k quiet_none = quiet_none
quiet-behind d e k (quiet-more {f = f} q) = quiet-more (joined-quiet d e f k q)

-- and where the first has joined one behind it
quiet-meet : (d e : Extent) (fs : List Extent) → joins d e ≡ false → Quiet d (meet e fs)
quiet-meet d e [] q = unfold meet in quiet-more q
quiet-meet d e (f ∷ fs) q =
    test-cases (Quiet d (meet e (f ∷ fs))) (joins e f)
    (λ t. rw (meet-yes e f fs t) (quiet-more (quiet-joined d e f t q)))
    (λ t. rw (meet-no e f fs t) (quiet-more q))

-- ---- extents before others

-- one of them
attach-one : (e : Extent) (fs : List Extent) → attach (e ∷ []) fs ≡ meet e fs
unfolding attach
attach-one e fs = refl

-- more than one: only the last can join
attach-more : (e d : Extent) (es fs : List Extent) → attach (e ∷ d ∷ es) fs ≡ e ∷ attach (d ∷ es) fs
unfolding attach
attach-more e d es fs = refl

-- none behind
pub attach-nothing : (es : List Extent) → attach es [] ≡ es
attach-nothing [] = unfold attach in refl
attach-nothing (e ∷ []) = unfold attach meet in refl
attach-nothing (e ∷ d ∷ es) = attach-more e d es [] ∙ ap (λ (ds : List Extent). e ∷ ds) (attach-nothing (d ∷ es))

-- an extent before those that are attached to others
attach-under : (e d : Extent) (es fs gs : List Extent) → attach (e ∷ attach (d ∷ es) fs) gs ≡ e ∷ attach (attach (d ∷ es) fs) gs
attach-under e d [] [] gs = unfold attach meet in refl
attach-under e d [] (f ∷ fs) gs =
    test-cases (attach (e ∷ attach (d ∷ []) (f ∷ fs)) gs ≡ e ∷ attach (attach (d ∷ []) (f ∷ fs)) gs) (joins d f)
    (λ t. rw (attach-one d (f ∷ fs), meet-yes d f fs t) (attach-more e (joined d f) fs gs))
    (λ t. rw (attach-one d (f ∷ fs), meet-no d f fs t) (attach-more e d (f ∷ fs) gs))
attach-under e d (c ∷ es) fs gs = rw (attach-more d c es fs) (attach-more e d (attach (c ∷ es) fs) gs)

-- only the first of those behind can join
attach-back : (es : List Extent) (f : Extent) (fs : List Extent) → attach es (f ∷ fs) ≡ attach es (f ∷ []) ++ fs
attach-back [] f fs = unfold attach in refl
attach-back (e ∷ []) f fs =
    test-cases (attach (e ∷ []) (f ∷ fs) ≡ attach (e ∷ []) (f ∷ []) ++ fs) (joins e f)
    (λ t. rw (attach-one e (f ∷ fs), attach-one e (f ∷ []), meet-yes e f fs t, meet-yes e f [] t) refl)
    (λ t. rw (attach-one e (f ∷ fs), attach-one e (f ∷ []), meet-no e f fs t, meet-no e f [] t) refl)
attach-back (e ∷ d ∷ es) f fs =
    rw (attach-more e d es (f ∷ fs), attach-more e d es (f ∷ [])) (ap (λ (ds : List Extent). e ∷ ds) (attach-back (d ∷ es) f fs))

-- only the last of those before can
attach-front : (es : List Extent) (d : Extent) (ds fs : List Extent) → attach (es ++ (d ∷ ds)) fs ≡ es ++ attach (d ∷ ds) fs
attach-front [] d ds fs = refl
attach-front (e ∷ []) d ds fs = attach-more e d ds fs
attach-front (e ∷ c ∷ es) d ds fs = attach-more e c (es ++ (d ∷ ds)) fs ∙ ap (λ (cs : List Extent). e ∷ cs) (attach-front (c ∷ es) d ds fs)

-- an extent that does not join the first of those behind it, attached first
attach-quiet : (es : List Extent) (b : Extent) (fs : List Extent) → Quiet b fs → attach (attach es (b ∷ [])) fs ≡ attach es (b ∷ fs)
attach-quiet [] b fs q = unfold attach in meet-quiet b q
attach-quiet (e ∷ []) b fs q =
    test-cases (attach (attach (e ∷ []) (b ∷ [])) fs ≡ attach (e ∷ []) (b ∷ fs)) (joins e b)
    (λ t. rw (attach-one e (b ∷ []), attach-one e (b ∷ fs), meet-yes e b [] t, meet-yes e b fs t, attach-one (joined e b) fs) (meet-quiet (joined e b) (quiet-behind e b t q)))
    (λ t. rw (attach-one e (b ∷ []), attach-one e (b ∷ fs), meet-no e b [] t, meet-no e b fs t, attach-more e b [] fs, attach-one b fs, meet-quiet b q) refl)
attach-quiet (e ∷ d ∷ es) b fs q =
    rw (attach-more e d es (b ∷ []), attach-more e d es (b ∷ fs)) (attach-under e d es (b ∷ []) fs ∙ ap (λ (ds : List Extent). e ∷ ds) (attach-quiet (d ∷ es) b fs q))

-- ---- runs

-- none joins the next
pub data Parted : List Extent → Type 0 where
  parted-none : Parted []
  parted-more : {e : Extent} {fs : List Extent} → Quiet e fs → Parted fs → Parted (e ∷ fs)

-- an extent before such runs
parted-meet : (e : Extent) {fs : List Extent} → Parted fs → Parted (meet e fs)
parted-meet e parted-none = unfold meet in parted-more quiet_none parted-none
parted-meet e (parted-more {e = f} {fs = fs} q p) =
    test-cases (Parted (meet e (f ∷ fs))) (joins e f)
    (λ t. rw (meet-yes e f fs t) (parted-more (quiet-behind e f t q) p))
    (λ t. rw (meet-no e f fs t) (parted-more (quiet-more t) (parted-more q p)))

-- a unit's blocks before them
parted-start_runs : (object logical : ℕ) (bs : List ℕ) {fs : List Extent} → Parted fs → Parted (start_runs object logical bs fs)
unfolding start_runs
parted-start_runs object logical [] p = p
parted-start_runs object logical (b ∷ bs) p = parted-meet _ (parted-start_runs object (suc logical) bs p)

-- the runs of a call are such
pub parted-call_runs : (object : ℕ) (rs : List Rewritten) → Parted (call_runs object rs)
unfolding call_runs
parted-call_runs object [] = parted-none
parted-call_runs object (r ∷ rs) = parted-start_runs object (r.unit * unit_blocks) r.blocks (parted-call_runs object rs)

-- ---- runs taken in

-- all that passes is kept
filter-whole : {A : Type 0} (f : A → Bool) {xs : List A} → Each (λ x. f x ≡ true) xs → filter f xs ≡ xs
filter-whole f each_none = unfold filter in refl
filter-whole f (each_more {x = x} {xs = xs} t h) = filter-yes f x xs t ∙ ap (λ (ys : List _). x ∷ ys) (filter-whole f h)

-- an extent with a block does not stand before one that lies before it
not-before : (run e : Extent) → 0 < run.count → Ahead run e → extent_before e run ≡ false
unfolding extent_before
not-before run e n a = test-cases (extent_before e run ≡ false) (extent_before e run)
    (λ t. absurd (pair_before-cases ⊥ e.object e.logical run.object run.logical t (λ l. first a l) (λ q l. second a q l))) (λ t. t)
  where
    first : Ahead run e → e.object < run.object → ⊥
    first (other p) l = omega arith
    first (same p k) l = omega arith

    second : Ahead run e → e.object ≡ run.object → e.logical < run.logical → ⊥
    second (other p) q l = omega arith
    second (same p k) q l = omega arith

-- a run between two parts of a book
take_in-between : (run : Extent) (es fs : List Extent) → 0 < run.count → Each (λ e. 0 < e.count) es → Each (λ e. Ahead e run) es → Each (Ahead run) fs
    → take_in run (es ++ fs) ≡ attach es (meet run fs)
unfolding take_in
take_in-between run es fs n m h g =
    let early : Extent → Bool = λ e. extent_before e run in
    let late : Extent → Bool = λ e. not (extent_before e run) in
    let before : Each (λ e. early e ≡ true) es = each_both (λ e k a. before_of e run k a) m h in
    let behind : Each (λ e. early e ≡ false) fs = each_weaken (λ e a. not-before run e n a) g in
    let a : filter early (es ++ fs) ≡ es = filter-append early es fs ∙ rw (filter-whole early before, filter-nothing early behind) (append-nil es) in
    let b : filter late (es ++ fs) ≡ fs = filter-append late es fs ∙ rw (filter-nothing late (each_weaken (λ e t. ap not t) before), filter-whole late (each_weaken (λ e t. ap not t) behind)) refl in
    rw (a, b) refl

-- a run with another between it and those behind
quiet-past : (run next : Extent) {fs : List Extent} → 0 < next.count → Ahead run next → Each (Ahead next) fs → Quiet run fs
quiet-past run next n a each_none = quiet_none
quiet-past run next n a (each_more {x = f} b h) =
    quiet-more (test-cases (joins run f ≡ false) (joins run f) (λ t. absurd (go a b (joins_true run f t))) (λ t. t))
  where
    go : Ahead run next → Ahead next f → Joining run f → ⊥
    go (other p) (other q) j = omega (arith, j.object)
    go (other p) (same q k) j = omega (arith, j.object)
    go (same p l) (other q) j = omega (arith, j.object)
    go (same p l) (same q k) j = omega (arith, j.logical)

-- a run is quiet before the rest of the runs with what they join
quiet-runs : (run : Extent) {runs : List Extent} (fs : List Extent) → 0 < length runs → Quiet run runs → Quiet run (attach runs fs)
quiet-runs run fs n quiet_none = absurd (omega arith)
quiet-runs run fs n (quiet-more {f = d} {fs = []} q) = rw (attach-one d fs) (quiet-meet run d fs q)
quiet-runs run fs n (quiet-more {f = d} {fs = c ∷ ds} q) = rw (attach-more d c ds fs) (quiet-more q)

-- runs between two parts of a book, none of which joins the next: only the first can join the part before, and the last that behind
take_in_all-between : (run : Extent) (runs es fs : List Extent) → Laid (run ∷ runs) → Parted (run ∷ runs) → Each (λ e. 0 < e.count) es
    → Each (λ e. Each (Ahead e) (run ∷ runs)) es → Each (λ r. Each (Ahead r) fs) (run ∷ runs) → take_in_all (run ∷ runs) (es ++ fs) ≡ attach es (attach (run ∷ runs) fs)
unfolding take_in_all
take_in_all-between run [] es fs l p n h (each_more b k) =
    take_in-between run es fs (laid-first l) n (each_weaken (λ e a. each_first a) h) b ∙ ap (attach es) (sym (attach-one run fs))
take_in_all-between run (next ∷ runs) es fs l (parted-more q p) n h (each_more b k) =
    let a : Each (Ahead run) (next ∷ runs) = laid-ahead l in
    let s : Quiet run fs = quiet-past run next (laid-first (laid-tail l)) (each_first a) (each_first k) in
    let t : take_in run (es ++ fs) ≡ attach es (run ∷ []) ++ fs =
    take_in-between run es fs (laid-first l) n (each_weaken (λ e a. each_first a) h) b ∙ ap (attach es) (meet-quiet run s) ∙ attach-back es run fs in
    rw t (take_in_all-between next runs (attach es (run ∷ [])) fs (laid-tail l) p
    (each-attach filled-joined es (run ∷ []) n (each_more (laid-first l) each_none))
    (each-attach {P = λ e. Each (Ahead e) (next ∷ runs)} (λ d e j u v. each_weaken (λ g w. joined-ahead d e g j w) v) es (run ∷ []) (each_weaken (λ e w. each-rest w) h) (each_more a each_none))
    k ∙ attach-quiet es run (attach (next ∷ runs) fs) (quiet-runs run fs (omega arith) q) ∙ ap (attach es) (sym (attach-more run next runs fs)))

-- the same of runs that are not none
pub take_in_all-among : (runs es fs : List Extent) → 0 < length runs → Laid runs → Parted runs → Each (λ e. 0 < e.count) es → Each (λ e. Each (Ahead e) runs) es → Each (λ r. Each (Ahead r) fs) runs
    → take_in_all runs (es ++ fs) ≡ attach es (attach runs fs)
take_in_all-among [] es fs k l p n h g = absurd (omega arith)
take_in_all-among (run ∷ runs) es fs k l p n h g = take_in_all-between run runs es fs l p n h g

-- ---- from the left as from the right

-- the blocks of extents
unfoldable pub total : List Extent → ℕ
total [] = 0
total (e ∷ es) = e.count + total es

-- extents joined from the right
unfoldable pub meet_all : List Extent → List Extent
meet_all [] = []
meet_all (x ∷ xs) = meet x (meet_all xs)

-- joining loses no block
total-meet : (e : Extent) (fs : List Extent) → total (meet e fs) ≡ e.count + total fs
total-meet e [] = unfold meet total in refl
total-meet e (f ∷ fs) =
    test-cases (total (meet e (f ∷ fs)) ≡ e.count + total (f ∷ fs)) (joins e f)
    (λ t. rw (meet-yes e f fs t) (unfold total joined in omega arith))
    (λ t. rw (meet-no e f fs t) (unfold total in refl))

-- nor does attaching
pub total-attach : (es fs : List Extent) → total (attach es fs) ≡ total es + total fs
unfolding total
total-attach [] fs = unfold attach in omega arith
total-attach (e ∷ []) fs = rw (attach-one e fs) (total-meet e fs ∙ omega arith)
total-attach (e ∷ d ∷ es) fs = rw (attach-more e d es fs) (omega (arith, total-attach (d ∷ es) fs))

-- nor joining many
pub total-meet_all : (xs : List Extent) → total (meet_all xs) ≡ total xs
unfolding meet_all total
total-meet_all [] = refl
total-meet_all (x ∷ xs) = total-meet x (meet_all xs) ∙ omega (arith, total-meet_all xs)

-- of three that are few enough the first two or the last two are joined first
meet-meet : (e b : Extent) (cs : List Extent) → e.count + b.count + total cs ≤ most_extent → attach (meet e (b ∷ [])) cs ≡ meet e (meet b cs)
meet-meet e b [] l = attach-nothing (meet e (b ∷ [])) ∙ (unfold meet in refl)
meet-meet e b (c ∷ cs) l =
    let P : Type 0 = attach (meet e (b ∷ [])) (c ∷ cs) ≡ meet e (meet b (c ∷ cs)) in
    let m : e.count + b.count + (c.count + total cs) ≤ most_extent = unfold total in l in
    let k : e.count + b.count + c.count ≤ most_extent = omega arith in
    test-cases P (joins b c)
    (λ u. test-cases P (joins e b)
    (λ t. rw (meet-yes e b [] t, meet-yes b c cs u, attach-one (joined e b) (c ∷ cs), meet-yes (joined e b) c cs (all_left t u k), meet-yes e (joined b c) cs (all_right t u k))
    (ap (λ (x : Extent). x ∷ cs) (unfold joined in ap (λ (n : ℕ). record { object = e.object; logical = e.logical; physical = e.physical; count = n }) (omega arith))))
    (λ t. rw (meet-no e b [] t, meet-yes b c cs u, attach-more e b [] (c ∷ cs), attach-one b (c ∷ cs), meet-yes b c cs u, meet-no e (joined b c) cs (quiet-joined e b c u t)) refl))
    (λ u. rw (meet-no b c cs u) (ap (λ (ds : List Extent). attach ds (c ∷ cs)) (sym (attach-one e (b ∷ []))) ∙ attach-quiet (e ∷ []) b (c ∷ cs) (quiet-more u) ∙ attach-one e (b ∷ c ∷ cs)))
  where
    all_left : joins e b ≡ true → joins b c ≡ true → e.count + b.count + c.count ≤ most_extent → joins (joined e b) c ≡ true
    all_left t u k =
        let i : Joining e b = joins_true e b t in
        let j : Joining b c = joins_true b c u in
        unfold joined in joins_of (joined e b) c (record {
          object = i.object ∙ j.object;
          logical = omega (arith, i.logical, j.logical);
          physical = omega (arith, i.physical, j.physical);
          most = k;
        })

    all_right : joins e b ≡ true → joins b c ≡ true → e.count + b.count + c.count ≤ most_extent → joins e (joined b c) ≡ true
    all_right t u k =
        let i : Joining e b = joins_true e b t in
        unfold joined in joins_of e (joined b c) (record { object = i.object; logical = i.logical; physical = i.physical; most = omega arith })

-- one more extent and those behind it
attach-single : (es : List Extent) (b : Extent) (cs : List Extent) → total es + b.count + total cs ≤ most_extent → attach (attach es (b ∷ [])) cs ≡ attach es (meet b cs)
unfolding total
attach-single [] b cs l = unfold attach in refl
attach-single (e ∷ []) b cs l = rw (attach-one e (b ∷ []), attach-one e (meet b cs)) (meet-meet e b cs (omega arith))
attach-single (e ∷ d ∷ es) b cs l =
    let k : total (d ∷ es) + b.count + total cs ≤ most_extent = omega arith in
    rw (attach-more e d es (b ∷ []), attach-more e d es (meet b cs)) (attach-under e d es (b ∷ []) cs ∙ ap (λ (ds : List Extent). e ∷ ds) (attach-single (d ∷ es) b cs k))

-- many between two
attach-assoc : (es : List Extent) (b : Extent) (bs cs : List Extent) → total es + total (b ∷ bs) + total cs ≤ most_extent
    → attach (attach es (b ∷ bs)) cs ≡ attach es (attach (b ∷ bs) cs)
unfolding total
attach-assoc es b [] cs l = rw (attach-one b cs) (attach-single es b cs (omega arith))
attach-assoc es b (d ∷ bs) cs l =
    rw (attach-back es b (d ∷ bs), attach-front (attach es (b ∷ [])) d bs cs, attach-more b d bs cs, attach-back es b (attach (d ∷ bs) cs)) refl

-- extents put behind others one by one, each joined with the last where it can be, are those that are joined from the right
pub push-meet : (es xs : List Extent) → total es + total xs ≤ most_extent → push_all es xs ≡ attach es (meet_all xs)
unfolding push_all push meet_all total
push-meet es [] l = sym (attach-nothing es)
push-meet es (x ∷ xs) l =
    let k : total (attach es (x ∷ [])) + total xs ≤ most_extent = omega (arith, total-attach es (x ∷ [])) in
    push-meet (attach es (x ∷ [])) xs k ∙ attach-single es x (meet_all xs) (omega (arith, total-meet_all xs))

-- one more of them
pub push-more : (es xs : List Extent) (x : Extent) → push_all es (xs ++ (x ∷ [])) ≡ push (push_all es xs) x
unfolding push_all
push-more es [] x = refl
push-more es (y ∷ xs) x = push-more (push es y) xs x

-- ---- the stretch

-- what stands behind those that may join
attach-split : (es fs ks : List Extent) → 0 < length fs → attach es (fs ++ ks) ≡ attach es fs ++ ks
attach-split es [] ks n = absurd (omega arith)
attach-split es (f ∷ fs) ks n = attach-back es f (fs ++ ks) ∙ sym (append_assoc (attach es (f ∷ [])) fs ks) ∙ ap (λ (gs : List Extent). gs ++ ks) (sym (attach-back es f fs))

-- an extent before others leaves one
meet-some : (e : Extent) (fs : List Extent) → 0 < length (meet e fs)
meet-some e [] = unfold meet in omega arith
meet-some e (f ∷ fs) = test-cases (0 < length (meet e (f ∷ fs))) (joins e f) (λ t. rw (meet-yes e f fs t) (omega arith)) (λ t. rw (meet-no e f fs t) (omega arith))

-- a unit with a block makes a run
pub runs-some : (object : ℕ) (r : Rewritten) (rs : List Rewritten) → 0 < length r.blocks → 0 < length (call_runs object (r ∷ rs))
unfolding call_runs
runs-some object r rs n = go r.blocks n
  where
    go : (bs : List ℕ) → 0 < length bs → 0 < length (start_runs object (r.unit * unit_blocks) bs (call_runs object rs))
    go [] m = absurd (omega arith)
    go (b ∷ bs) m = unfold start_runs in meet-some _ _

-- so do extents before others
attach-some : (e : Extent) (es fs : List Extent) → 0 < length (attach (e ∷ es) fs)
attach-some e [] fs = rw (attach-one e fs) (meet-some e fs)
attach-some e (d ∷ es) fs = rw (attach-more e d es fs) (omega arith)

-- an end that is empty where nothing stands past it
abbrev pub Ended : List Extent → List Extent → Type 0
Ended end past = length end ≡ 0 → past ≡ []

-- runs between two parts of a book, each part told as one extent and what stands past that: only the two can be joined
stretch : (before left : List Extent) (run : Extent) (runs right behind : List Extent) → Ended left before → Ended right behind → total left + total (run ∷ runs) + total right ≤ most_extent
    → attach (before ++ left) (attach (run ∷ runs) (right ++ behind)) ≡ before ++ attach (attach left (run ∷ runs)) right ++ behind
stretch before left run runs right behind hl hr l =
    ap (attach (before ++ left)) (back right hr)
    ∙ attach-split (before ++ left) (attach (run ∷ runs) right) behind (attach-some run runs right)
    ∙ ap (λ (gs : List Extent). gs ++ behind) (front left hl ∙ ap (λ (gs : List Extent). before ++ gs) (sym (attach-assoc left run runs right l)))
  where
    back : (fs : List Extent) → Ended fs behind → attach (run ∷ runs) (fs ++ behind) ≡ attach (run ∷ runs) fs ++ behind
    back [] h = rw (h refl) (sym (append-nil (attach (run ∷ runs) [])))
    back (f ∷ fs) h = attach-split (run ∷ runs) (f ∷ fs) behind (omega arith)

    front : (es : List Extent) → Ended es before → attach (before ++ es) (attach (run ∷ runs) right) ≡ before ++ attach es (attach (run ∷ runs) right)
    front [] h = rw (h refl) refl
    front (e ∷ es) h = attach-front before e es (attach (run ∷ runs) right)

-- the same of runs that are not none
pub stretch-some : (before left runs right behind : List Extent) → 0 < length runs → Ended left before → Ended right behind → total left + total runs + total right ≤ most_extent
    → attach (before ++ left) (attach runs (right ++ behind)) ≡ before ++ attach (attach left runs) right ++ behind
stretch-some before left [] right behind n hl hr l = absurd (omega arith)
stretch-some before left (run ∷ runs) right behind n hl hr l = stretch before left run runs right behind hl hr l

-- ---- one more extent

-- behind none
pub push-first : (x : Extent) → push [] x ≡ x ∷ []
unfolding push attach
push-first x = refl

-- behind one that joins it
pub push-joins : (es : List Extent) (l x : Extent) → joins l x ≡ true → push (es ++ (l ∷ [])) x ≡ es ++ (joined l x ∷ [])
unfolding push
push-joins es l x t = attach-front es l [] (x ∷ []) ∙ ap (λ (fs : List Extent). es ++ fs) (attach-one l (x ∷ []) ∙ meet-yes l x [] t)

-- behind one that does not
pub push-apart : (es : List Extent) (l x : Extent) → joins l x ≡ false → push (es ++ (l ∷ [])) x ≡ es ++ (l ∷ []) ++ (x ∷ [])
unfolding push
push-apart es l x t = attach-front es l [] (x ∷ []) ∙ ap (λ (fs : List Extent). es ++ fs) (attach-one l (x ∷ []) ∙ meet-no l x [] t) ∙ sym (append_assoc es (l ∷ []) (x ∷ []))
