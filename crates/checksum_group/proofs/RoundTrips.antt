-- A group written and read again at its place, and read and written again: the laws of rules on bytes, at a place of a slice.
-- Assumes nothing.
use mathlib.Core.Path.{◌≡◌}
use mathlib.Core.Bool.{true}
use mathlib.Core.List.{List}
use Prim.Native.Nat.{ℕ, ◌+◌, ◌≤◌}
use lib.ListN.{length}
use Rattle.rules.specs.Bytes.{Bytes, part, patch}
use Rattle.rules.specs.Group.{group_bytes, decode_group, encode_group, group_fixed, absent_zero}
use Rattle.rules.proofs.ByteLaws.{bytes-part, length_part}
use Rattle.rules.proofs.GroupLaws.{GroupFits, decode-encode_group, encode-decode_group, length-encode_group}
use Rattle.format.proofs.RoundTrips.{read-written, written_read}
use Rattle.checksum_group.specs.declared.ChecksumGroup.{ChecksumGroup}
use Rattle.checksum_group.specs.Slots.{group_of}

module _ (s : List ℕ) (at : ℕ) where
  -- a group that is written is read
  pub group-back : (object number : ℕ) (g : ChecksumGroup) → at + group_bytes ≤ length s → GroupFits (group_of object number g)
      → decode_group (part at group_bytes (patch s at (encode_group (group_of object number g)))) ≡ group_of object number g
  group-back object number g l f =
      read-written encode_group decode_group group_bytes s at l (group_of object number g) (length-encode_group (group_of object number g) f.slots)
      (decode-encode_group (group_of object number g) f)

  -- one that is read and written changes nothing
  pub group-kept : at + group_bytes ≤ length s → Bytes s → group_fixed (part at group_bytes s) ≡ true → absent_zero (part at group_bytes s) ≡ true
      → patch s at (encode_group (decode_group (part at group_bytes s))) ≡ s
  group-kept l b x z =
      written_read encode_group decode_group group_bytes s at l
      (encode-decode_group (part at group_bytes s) (length_part s at group_bytes l) (bytes-part s at group_bytes b) x z)
