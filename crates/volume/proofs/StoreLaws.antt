-- What a call gave with the store lent as one value it gave with its buffers, each told by what is in it.
-- Assumes nothing.
use mathlib.Core.Path.{◌≡◌}
use mathlib.Core.List.{List}
use Prim.Native.Nat.{ℕ}
use Rattle.rules.specs.Store.{lent}
use Rattle.rules.specs.Refusal.{Result}
use Rattle.lent.specs.declared.Store.{Store}
use Rattle.lent.specs.Lent.{store_of}
use Rattle.volume.specs.Call.{gave}

pub by_buffers : {n k : ℕ} {x : Result} (s : Store) {image head cards extents groups used retired : List ℕ} → gave n k (store_of s) ≡ x
    → image ≡ s.image.now → head ≡ s.head.now → cards ≡ s.cards.now → extents ≡ s.extents.now → groups ≡ s.groups.now → used ≡ s.used.now → retired ≡ s.retired.now
    → gave n k (lent image head cards extents groups used retired) ≡ x
by_buffers s p i h c e g u r = rw (i, h, c, e, g, u, r) p
