-- Demand 3's induction over a list of calls and batches, with the claim left open; and what the calls never refuse with on any store that passes refusals 1 and 2.
-- Assumes nothing.
use mathlib.Core.Path.{◌≡◌, refl, ap}
use mathlib.Core.List.{List, [], ◌∷◌, flat_map}
use mathlib.Core.Bool.{Bool, true, false}
use Prim.Native.Nat.{ℕ, ◌+◌}
use lib.Dec.{ltb}
use Rattle.rules.specs.Time.{Time}
use Rattle.rules.specs.Lists.{pick◌then◌else◌, any, filter, count, member}
use Rattle.rules.specs.Store.{Store, StoreBytes}
use Rattle.rules.specs.Refusal.{Outcome, number_of, first_case, result}
use Rattle.rules.specs.Fresh.{fresh_volume, fresh_outcome}
use Rattle.rules.specs.Enter.{enter_cases, enter_outcome}
use Rattle.rules.specs.Settle.{settle_outcome, fill_outcome}
use Rattle.rules.specs.Call.{InRange, call}
use Rattle.rules.specs.Call.Look.{fill}
use Rattle.rules.specs.Call.Call.{fresh, enter, settle, look}
use Rattle.rules.specs.Act.{Act, ActInRange, act, act_refused, parts_done}
use Rattle.rules.specs.Plain.{File, act_step, step, plain}
use Rattle.rules.specs.Demand.{after_acts, fed, act_reserved, last_reserved, AllInRange, places, holders, never_numbers, Sound, Demand3}
use Rattle.rules.specs.Demand.AllInRange.{none as no-act, one as one-act}
use Rattle.rules.proofs.ListLaws.{Each, each_none, each_more}
use Rattle.rules.proofs.PassLaws.{Passes}
use Rattle.rules.proofs.OutcomeLaws.{first_of-cases, goes_on}
use Rattle.rules.proofs.BytesKept.{bytes-kept}
use Rattle.rules.proofs.BatchLaws.{act-bytes, act_out, ActIs, is-refused, is-done, act-cases}
use Rattle.history.proofs.Induction.{after_all, state_after, bytes_after, history}

-- ---- a list of calls

-- what is told of the acts: the plain arrays, and the number given to the last accepted fresh
pub record Told : Type 0 where
  pub files : List File
  pub reserved : ℕ

-- what an act adds to it
abbrev pub told : Act → Store → Told → Told
told a s st = record {
  files = step (record { act = a; refused = act_refused a s; done = parts_done a s }) st.files;
  reserved = pick act_refused a s then st.reserved else act_reserved a st.reserved;
}

-- the store after an act
abbrev pub left : Act → Store → Store
left a s = (act a s).store

-- after the acts it is what demand 3 says of them
told-all : (acts : List Act) (s : Store) (st : Told)
    → state_after left told acts s st ≡ record { files = plain (fed acts s) st.files; reserved = last_reserved (fed acts s) st.reserved }
unfolding state_after fed plain last_reserved
told-all [] s st = refl
told-all (a ∷ acts) s st = told-all acts (left a s) (told a s st)

-- and so is the store
left-all : (acts : List Act) (s : Store) → after_all left told acts s ≡ after_acts acts s
unfolding after_all after_acts
left-all [] s = refl
left-all (a ∷ acts) s = left-all acts (left a s)

-- each act of the list is in range
each-in-range : {acts : List Act} → AllInRange acts → Each ActInRange acts
each-in-range no-act = each_none
each-in-range (one-act i k) = each_more i (each-in-range k)

module _ (Inv : List File → ℕ → Store → Type 0)
    (step-inv : (a : Act) (files : List File) (reserved : ℕ) (s : Store) → ActInRange a → StoreBytes s → act_refused a s ≡ false → Inv files reserved s
    → Inv (act_step a (parts_done a s) files) (act_reserved a reserved) (act a s).store) where
  -- what every act that is not refused keeps every act keeps, for a refused one leaves the store and tells nothing
  one : (a : Act) (st : Told) (s : Store) → ActInRange a → StoreBytes s → Inv st.files st.reserved s → Inv (told a s st).files (told a s st).reserved (left a s)
  unfolding step pick◌then◌else◌
  one a st s i b h = go (act-cases a s) (λ e. step-inv a st.files st.reserved s i b e h)
    where
      go : {f : Bool} → ActIs s (act_out a) (act a s) f → (f ≡ false → Inv (act_step a (parts_done a s) st.files) (act_reserved a st.reserved) (act a s).store)
          → Inv (pick f then st.files else act_step a (parts_done a s) st.files) (pick f then st.reserved else act_reserved a st.reserved) (act a s).store
      go (is-refused u) k = rw u.store h
      go is-done k = k refl

  -- demand 3 from such a property: fresh makes it, every act that is not refused keeps it, and the claim follows
  pub demand3-from : ((s : Store) → StoreBytes s → (uuid : List ℕ) (reserved : ℕ) → InRange (fresh uuid reserved) → (call (fresh uuid reserved) s).number ≡ 0
      → Inv [] reserved (call (fresh uuid reserved) s).store)
      → ((files : List File) (reserved : ℕ) (s : Store) → StoreBytes s → Inv files reserved s → Sound files reserved s)
      → Demand3
  demand3-from start claim s b uuid reserved i e acts k =
      let t : Store = (call (fresh uuid reserved) s).store in
      let g : StoreBytes t = bytes-kept (fresh uuid reserved) s i b in
      let st : Told = record { files = []; reserved = reserved } in
      let I : Told → Store → Type 0 = λ st s. Inv st.files st.reserved s in
      let h = history left told ActInRange I act-bytes one (each-in-range k) st t g (start s b uuid reserved i e) in
      let r = bytes_after left told ActInRange I act-bytes one (each-in-range k) t g in
      claim _ _ _ (rw (left-all acts t) at r) (rw (told-all acts t st, left-all acts t) at h)

-- ---- refusals that never come

-- what becomes of the call is none of "2, 9 to 12 and 14"
abbrev pub Never : Store → List ℕ → Outcome → Type 0
Never s out o = member (result s out o).number never_numbers ≡ false

-- fresh, on any store
pub never-fresh : (uuid : List ℕ) (reserved : ℕ) (s : Store) → member (call (fresh uuid reserved) s).number never_numbers ≡ false
unfolding call fresh_outcome result number_of member any
never-fresh uuid reserved s = first_of-cases (Never s []) _ (each_more (λ h. refl) each_none) (λ n. refl)

module _ (s : Store) (p : Passes s) where
  -- enter
  pub never-enter : (object : ℕ) (time : Time) → member (call (enter object time) s).number never_numbers ≡ false
  unfolding call enter_outcome enter_cases result number_of member any
  never-enter object time =
      rw (goes_on s (first_case (enter_cases object time s) _) p)
      (first_of-cases (Never s []) _ (each_more (λ h. refl) (each_more (λ h. refl) (each_more (λ h. refl) each_none))) (λ n. refl))

  -- settle is accepted
  pub settle-number : (call settle s).number ≡ 0
  unfolding call settle_outcome result
  settle-number = ap (λ o. (result s [] o).number) (goes_on s _ p)

  -- and so is fill
  pub fill-number : (call (look fill) s).number ≡ 0
  unfolding call fill_outcome result
  fill-number = ap (λ o. (result s [] o).number) (goes_on s _ p)

-- ---- after fresh

-- reserved and used, or free
either : (b : Bool) → (pick b then 1 else 0) + (pick b then 0 else 1) + 0 + 0 ≡ 1
unfolding pick◌then◌else◌
either true = refl
either false = refl

-- each block of a fresh volume is in one place
pub fresh-holders : (uuid : List ℕ) (reserved : ℕ) (s : Store) (b : ℕ) → holders reserved (fresh_volume uuid reserved s) b ≡ 1
unfolding fresh_volume holders places flat_map count filter pick◌then◌else◌
fresh-holders uuid reserved s b = either (ltb b reserved)
