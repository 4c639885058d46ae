-- The running checksum of a unit in the shape of its functions' needs, for either place of the register.
-- Assumes nothing.
use mathlib.Core.Path.{◌≡◌, refl, sym, ap, ◌∙◌}
use mathlib.Core.List.{List, [], ◌++◌, append-nil, append_assoc}
use Prim.Native.Nat.{ℕ}
use lib.ListN.{length}
use Rattle.rules.specs.Bytes.{Bytes}
use Rattle.rules.specs.Checksum.{unit_checksum}
use Rattle.rules.proofs.ByteLaws.{bytes-nil, bytes-append}
use Rattle.crc32c_tables.specs.Register.{fed, begun, finished}
use Rattle.crc32c_window.specs.Window.{register_at}
use Rattle.crc32c.specs.Unit.{before, register_of, UnitFed}
use Rattle.crc32c.specs.declared.unit.Running.{Running}
use Rattle.crc32c.specs.declared.unit.Running.TheVariants.{Register, Window}
use Rattle.crc32c_tables.proofs.RegisterLaws.{fed-append}
use Rattle.crc32c.proofs.Running.{crc-unit}

-- ---- any state, by its register

begun-at : (state : Running) (w uuid : List ℕ) (object unit valid : ℕ) → register_of state w ≡ fed begun (before uuid object unit valid) → Bytes uuid
    → UnitFed state w uuid object unit valid []
begun-at state w uuid object unit valid e b =
    record { register = rw (append-nil (before uuid object unit valid)) e; uuid_bytes = b; all_bytes = bytes-nil }

fed-at : (a b : Running) (w v s : List ℕ) → register_of b v ≡ fed (register_of a w) s → Bytes s
    → (uuid : List ℕ) (object unit valid : ℕ) (bytes : List ℕ) → UnitFed a w uuid object unit valid bytes → UnitFed b v uuid object unit valid (bytes ++ s)
fed-at a b w v s e bs uuid object unit valid bytes f =
    record {
      register = e ∙ rw f.register
          (sym (fed-append begun (before uuid object unit valid ++ bytes) s) ∙ ap (fed begun) (append_assoc (before uuid object unit valid) bytes s));
      uuid_bytes = f.uuid_bytes;
      all_bytes = bytes-append bytes s f.all_bytes bs;
    }

finished-at : (state : Running) (w : List ℕ) (r : ℕ) → r ≡ finished (register_of state w)
    → (uuid : List ℕ) (object unit : ℕ) (bytes : List ℕ) → UnitFed state w uuid object unit (length bytes) bytes → r ≡ unit_checksum uuid object unit bytes
finished-at state w r e uuid object unit bytes f =
    crc-unit uuid bytes object unit (fed begun (before uuid object unit (length bytes))) (register_of state w) r refl
    (f.register ∙ fed-append begun (before uuid object unit (length bytes)) bytes) e f.uuid_bytes f.all_bytes

-- ---- the register in the state

pub register-begun : (w uuid : List ℕ) (object unit valid c : ℕ) → c ≡ fed begun (before uuid object unit valid) → Bytes uuid
    → UnitFed (Register c) w uuid object unit valid []
unfolding register_of
register-begun w uuid object unit valid c e b = begun-at (Register c) w uuid object unit valid e b

pub register-fed : (state : Running) (w s : List ℕ) (c d : ℕ) → state ≡ Register c → d ≡ fed c s → Bytes s
    → (uuid : List ℕ) (object unit valid : ℕ) (bytes : List ℕ) → UnitFed state w uuid object unit valid bytes → UnitFed (Register d) w uuid object unit valid (bytes ++ s)
unfolding register_of
register-fed state w s c d p e b = fed-at state (Register d) w w s (rw p e) b

pub register-finished : (state : Running) (w : List ℕ) (c r : ℕ) → state ≡ Register c → r ≡ finished c
    → (uuid : List ℕ) (object unit : ℕ) (bytes : List ℕ) → UnitFed state w uuid object unit (length bytes) bytes → r ≡ unit_checksum uuid object unit bytes
unfolding register_of
register-finished state w c r p e = finished-at state w r (rw p e)

-- ---- the register in the window

pub window-begun : (w uuid : List ℕ) (object unit valid c : ℕ) → c ≡ fed begun (before uuid object unit valid) → register_at w 528 ≡ c → Bytes uuid
    → UnitFed Window w uuid object unit valid []
unfolding register_of
window-begun w uuid object unit valid c e q b = begun-at Window w uuid object unit valid (q ∙ e) b

pub window-fed : (state : Running) (w v s : List ℕ) → state ≡ Window → register_at v 528 ≡ fed (register_at w 528) s → Bytes s
    → (uuid : List ℕ) (object unit valid : ℕ) (bytes : List ℕ) → UnitFed state w uuid object unit valid bytes → UnitFed Window v uuid object unit valid (bytes ++ s)
unfolding register_of
window-fed state w v s p e b = fed-at state Window w v s (rw p e) b

pub window-finished : (state : Running) (w : List ℕ) (c r : ℕ) → state ≡ Window → c ≡ register_at w 528 → r ≡ finished c
    → (uuid : List ℕ) (object unit : ℕ) (bytes : List ℕ) → UnitFed state w uuid object unit (length bytes) bytes → r ≡ unit_checksum uuid object unit bytes
unfolding register_of
window-finished state w c r p q e = finished-at state w r (rw p (e ∙ ap finished q))
