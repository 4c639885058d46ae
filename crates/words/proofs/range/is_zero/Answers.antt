use mathlib.Core.Path.{◌≡◌}
use Prim.Native.Nat.{◌-◌}
use lib.Bits.{bit_or}
use Rattle.std.specs.List.{fold}
use lib.ListN.{take, drop}
use Rattle.rules.specs.Bytes.{part}
use Rattle.words.proofs.RangeLaws.{or-all}
use borrow.Author.Rules.{rules}
use Rattle.words.proofs.range.is_zero.Goals as goal

pub returns : goal.returns
unfolding part
returns c =
    let q : c.fold.result ≡ fold bit_or 0 (take (c.args.e - c.args.a) (drop c.args.a c.args.s.now)) = search rules in
    rw q (or-all 0 _)
