-- Laws of the bytes that a rewritten unit gets: what the head of the buffer is after its three copies, and which part of two slices is handed back.
-- Assumes nothing.
use mathlib.Core.Path.{◌≡◌, sym, ap, ◌∙◌}
use mathlib.Core.List.{List, ◌++◌, append_assoc}
use mathlib.Core.Bool.{Bool, true}
use Prim.Native.Nat.{ℕ, ◌+◌, ◌-◌, ◌*◌, ◌≤◌}
use native.Mathlib.Omega.{arith}
use lib.ListN.{length, take, drop, replicate, length-append, length-take, length-drop, length-replicate, take-append-drop}
use lib.Seq.{length-take-le, take_at, take-take, drop-append-le}
use Rattle.rules.specs.Lists.{pick◌then◌else◌}
use Rattle.rules.specs.Sizes.{block_bytes, unit_blocks, unit_bytes}
use Rattle.rules.specs.Bytes.{part, patch, padded}
use Rattle.rules.proofs.ListLaws.{if-true}
use Rattle.rules.proofs.ByteLaws.{length_part, length-patch}
use Rattle.mapping.specs.Entries.{entries, Inside}
use Rattle.image.specs.Blocks.{blocks_bytes}
use Rattle.image.proofs.BlockLaws.{length-blocks_bytes}

-- ---- the assembled unit

-- bytes put in place of others among the first n
pub take-patched : (s : List ℕ) (n a : ℕ) (xs : List ℕ) → a + length xs ≤ n → n ≤ length s → take n (patch s a xs) ≡ patch (take n s) a xs
unfolding patch
take-patched s n a xs l h =
    let w : length (take n s) ≡ n = length-take-le n s h in
    let t : take a s ≡ take a (take n s) = sym (take-take a n s (omega arith)) in
    let d : drop (a + length xs) s ≡ drop (a + length xs) (take n s) ++ drop n s =
    ap (drop (a + length xs)) (sym (take-append-drop n s)) ∙ drop-append-le (a + length xs) (take n s) (drop n s) (omega arith) in
    let y : List ℕ = take a (take n s) ++ xs ++ drop (a + length xs) (take n s) in
    let z : length y ≡ n = rw (length-append, length-append, length-take, length-drop) (omega arith) in
    rw (t, d, ← append_assoc (take a (take n s) ++ xs) (drop (a + length xs) (take n s)) (drop n s)) (take_at y (drop n s) n z)

-- old bytes at the head, and zeros behind them
pub assembled-old : (b s x y : List ℕ) (m n : ℕ) → m ≤ length b → m ≤ n → n ≤ length s → x ≡ part 0 m b ++ drop m s → y ≡ patch x m (replicate (n - m) 0)
    → take n y ≡ padded n (take m b)
unfolding part patch padded
assembled-old b s x y m n k l h e f =
    let w : length (take m b) ≡ m = length-take-le m b k in
    let t : take m (take m b ++ drop m s) ≡ take m b = take_at (take m b) (drop m s) m w in
    let z : length (take m b ++ replicate (n - m) 0) ≡ n = rw (length-append, length-replicate) (omega arith) in
    rw (f, e, t, w) (take_at (take m b ++ replicate (n - m) 0) (drop (m + length (replicate (n - m) 0)) (take m b ++ drop m s)) n z)

-- and over them the caller's part
pub assembled-unit : (image xs s x y t w : List ℕ) (m n a : ℕ) → length s ≡ unit_bytes → length xs ≡ unit_blocks → m ≤ n → n ≤ unit_bytes → a + length w ≤ n → Inside image xs
    → x ≡ part 0 m (blocks_bytes image (entries xs)) ++ drop m s → y ≡ patch x m (replicate (n - m) 0) → t ≡ patch y a w
    → take n t ≡ patch (padded n (take m (blocks_bytes image (entries xs)))) a w
assembled-unit image xs s x y t w m n a p q l h f inside e g r =
    let b : List ℕ = blocks_bytes image (entries xs) in
    let z : length b ≡ block_bytes * length xs = length-blocks_bytes image xs inside in
    let o : take n y ≡ padded n (take m b) = assembled-old b s x y m n (omega arith) l (omega arith) e g in
    let v : length x ≡ length s = rw e (length-append (part 0 m b) (drop m s) ∙ rw (length_part b 0 m (omega arith), length-drop m s) (omega arith)) in
    let c : length (replicate {A = ℕ} (n - m) 0) ≡ n - m = length-replicate {A = ℕ} (n - m) 0 in
    let k : length y ≡ length x = rw g (length-patch x m (replicate (n - m) 0) (omega arith)) in
    rw r (take-patched y n a w f (omega arith) ∙ ap (λ (u : List ℕ). patch u a w) o)

-- ---- the part that is handed back

-- the caller's, where the unit is covered
pub covered-part : (c : Bool) (x y : List ℕ) (from n : ℕ) → c ≡ true → take (from + n - from) (drop from x) ≡ (pick c then part from n x else take n y)
unfolding part
covered-part c x y from n e =
    let w : from + n - from ≡ n = omega arith in
    ap (λ (k : ℕ). take k (drop from x)) w ∙ sym (if-true c (take n (drop from x)) (take n y) e)
