-- `kept::Change::write_units` meets its contract. Assumes nothing.
use mathlib.Core.Path.{◌≡◌}
use Prim.Native.Nat.{ℕ, ◌+◌, ◌/◌}
use native.Mathlib.Omega.{arith}
use lib.ListN.{length-drop, length-take}
use Rattle.kept.proofs.UnitsLaws.{put-behind, wrote}
use Rattle.kept.proofs.Change.write_units.Goals as goal

pub returns : goal.returns
returns c =
    let some = c.requires.len_nonzero.0 in
    let tail = c.put_tail-n.ensures in
    let put = c.put_units.ensures in
    let past : c.div_ceil-past.result ≡ (c.args.self.offset + c.args.self.len + 65535) / 65536 = omega (arith, c.end.ensures, c.div_ceil-past.ensures) in
    record {
      result_nonzero = (omega (arith, put.0, past, some), omega (arith, put.0, past, tail.0, c.args.self.fits.most));
      units_after = λ ch is. wrote ch _ _ _ _ is _ _ some c.requires.len_nonzero.1 tail.1 (put-behind _ _ _ _ (omega (arith, tail.0)) (omega (arith, put.0, past, length-take {A = ℕ}, length-drop {A = ℕ})) _ (rw past at put.1));
    }
