-- `finish_units::write_units` meets its contract. Assumes nothing.
use mathlib.Core.Path.{refl}
use lib.ListN.{length-replicate}
use Prim.Native.Nat.{ℕ}
use Rattle.finish_units.proofs.write_units.Goals as goal

pub write_each-requires : goal.write_each-requires
write_each-requires c =
    let pre = c.requires in
    record { tables = pre.tables; written = refl; units_fit = pre.units_fit; units_in_bounds = pre.units_in_bounds; buffer_len = length-replicate {A = ℕ} 65536 0 }
