-- `rewrite::rewrite_unit` meets its contract. The four cases are those of what is known of the old bytes.
-- Assumes nothing.
use mathlib.Core.Path.{refl, sym, ◌∙◌}
use mathlib.Core.Bool.{true, false}
use native.Mathlib.Omega.{arith}
use Rattle.rewrite.proofs.UnitLaws.{inside-device, carried-total, means-read, unit-refused, unit-hole, unit-laid, lays-read}
use Rattle.rewrite.proofs.rewrite_unit.Goals as goal

pub verify_old-requires : goal.verify_old-requires
verify_old-requires c = record { tables = c.requires.tables; w_len = c.requires.w_len; unit_bytes_bound = (c.requires.unit_bytes_bound.0, c.requires.unit_bytes_bound.1); len = (c.requires.len.0, inside-device _ _ _ _ c.requires.device_fits c.requires.blocks_of) }

pub returns-in-Refused : goal.returns-in-Refused
returns-in-Refused c = record { allocated_le_most_allocated = omega (arith, c.refused.ensures.2, c.requires.unit_bytes_bound.2); unit_planned = λ v k p d l h. unit-refused _ v k _ p _ _ _ _ _ (means-read _ _ _ _ _ _ _ _ v k d l _ p _ (sym c.in-Refused.is ∙ c.verify_old.ensures k d.change)) c.refused.ensures.0 }

pub returns-in-Untouched : goal.returns-in-Untouched
returns-in-Untouched c = record { allocated_le_most_allocated = c.requires.unit_bytes_bound.2; unit_planned = λ v k p d l h. unit-hole _ v k _ p _ _ _ _ (means-read _ _ _ _ _ _ _ _ v k d l _ p _ (sym c.in-Untouched.is ∙ c.verify_old.ensures k d.change)) refl refl h }

pub returns-in-Unread : goal.returns-in-Unread
returns-in-Unread c = record { allocated_le_most_allocated = c.lay_out.ensures.rewritten_value.1; unit_planned = λ v k p d l h. unit-laid _ v k _ p d.lawful (means-read _ _ _ _ _ _ _ _ v k d l c.args.limit p _ (sym c.in-Unread.is ∙ c.verify_old.ensures k d.change)).0 _ _ _ _ (lays-read _ _ _ _ _ _ _ _ v k d l _ p false (means-read _ _ _ _ _ _ _ _ v k d l c.args.limit p _ (sym c.in-Unread.is ∙ c.verify_old.ensures k d.change)).1 _ _ _ _ _ _ h (c.lay_out.ensures.lays k v.used p.taken d.change (carried-total _ _ _ _ _ v k p _ _ d h))) c.lay_out.ensures.rewritten_value.0 }

pub returns-in-Verified : goal.returns-in-Verified
returns-in-Verified c = record { allocated_le_most_allocated = c.lay_out-in-Verified.ensures.rewritten_value.1; unit_planned = λ v k p d l h. unit-laid _ v k _ p d.lawful (means-read _ _ _ _ _ _ _ _ v k d l c.args.limit p _ (sym c.in-Verified.is ∙ c.verify_old.ensures k d.change)).0 _ _ _ _ (lays-read _ _ _ _ _ _ _ _ v k d l _ p true (means-read _ _ _ _ _ _ _ _ v k d l c.args.limit p _ (sym c.in-Verified.is ∙ c.verify_old.ensures k d.change)).1 _ _ _ _ _ _ h (c.lay_out-in-Verified.ensures.lays k v.used p.taken d.change (carried-total _ _ _ _ _ v k p _ _ d h))) c.lay_out-in-Verified.ensures.rewritten_value.0 }
