-- The checksum of a unit while it runs: what its state stands for.
-- Assumes nothing.
use Rattle.std.specs.Prelude.{◌≡◌, List, ◌++◌, ℕ}
use Rattle.rules.specs.Bytes.{be_digits, Bytes}
use Rattle.crc32c_tables.specs.Register.{fed, begun}
use Rattle.crc32c_window.specs.Window.{register_at}
use Rattle.crc32c.specs.declared.unit.Running as running
use Rattle.crc32c.specs.declared.unit.Running.TheVariants.{Register, Window}

-- what stands before a unit's valid bytes
abbrev pub before : List ℕ → ℕ → ℕ → ℕ → List ℕ
before uuid object unit valid = uuid ++ be_digits 8 object ++ be_digits 8 unit ++ be_digits 4 valid

-- the register of a state: it has it itself, or the window w stands for it
unfoldable pub register_of : running.Running → List ℕ → ℕ
register_of (Register c) w = c
register_of Window w = register_at w 528

-- a state and its window, begun for this unit of so many valid bytes, have been fed these bytes
pub record UnitFed (state : running.Running) (w : List ℕ) (uuid : List ℕ) (object unit valid : ℕ) (bytes : List ℕ) : Type 0 where
  pub register : register_of state w ≡ fed begun (before uuid object unit valid ++ bytes)
  pub uuid_bytes : Bytes uuid
  pub all_bytes : Bytes bytes
