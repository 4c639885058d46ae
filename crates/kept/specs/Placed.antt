-- The caller's part of a unit, as code has it.
-- Assumes nothing.
use Rattle.std.specs.Prelude.{◌≡◌, ℕ, ◌-◌, ◌*◌}
use Rattle.rules.specs.Sizes.{unit_bytes}
use Rattle.rules.specs.Units.{Change, written_from, written_to}
use Rattle.kept.specs.declared.tests.Part.{Part}

-- the part's places are those of the rules
pub record Placed (c : Change) (unit : ℕ) (p : Part) : Type 0 where
  pub from : p.from ≡ written_from c unit - c.offset
  pub count : p.count ≡ written_to c unit - written_from c unit
  pub at' : p.at ≡ written_from c unit - unit * unit_bytes
