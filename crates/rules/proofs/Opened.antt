-- Every definition of `rules`, opened by one name.
--
-- A definition is shut until a proof says `unfolding` it, and to open one is to open what its own `unfolding` line names. So a proof that computes
-- a call from its text says `unfolding opened`.
-- Assumes nothing.
use mathlib.Core.List.{flat_map, zip_with}
use Rattle.rules.specs.Lists
use Rattle.rules.specs.Bytes
use Rattle.rules.specs.Head
use Rattle.rules.specs.Card
use Rattle.rules.specs.Extent
use Rattle.rules.specs.Group
use Rattle.rules.specs.Map
use Rattle.rules.specs.Crc32c
use Rattle.rules.specs.Checksum
use Rattle.rules.specs.Book
use Rattle.rules.specs.Store
use Rattle.rules.specs.Refusal
use Rattle.rules.specs.Lengths
use Rattle.rules.specs.Integrity
use Rattle.rules.specs.Arguments
use Rattle.rules.specs.Units
use Rattle.rules.specs.Inspect
use Rattle.rules.specs.Kept
use Rattle.rules.specs.Allocation
use Rattle.rules.specs.Rewrite
use Rattle.rules.specs.Finish
use Rattle.rules.specs.Fresh
use Rattle.rules.specs.Enter
use Rattle.rules.specs.Write
use Rattle.rules.specs.Read
use Rattle.rules.specs.Triples
use Rattle.rules.specs.ReadMany
use Rattle.rules.specs.Stretches
use Rattle.rules.specs.Batch
use Rattle.rules.specs.Settle
use Rattle.rules.specs.Call
use Rattle.rules.specs.Act
use Rattle.rules.specs.Plain
use Rattle.rules.specs.Stays
use Rattle.rules.specs.Demand
use Rattle.rules.specs.Answers

unfoldable pub opened : Unit {0}
unfolding flat_map zip_with Lists.pick◌then◌else◌ Lists.maybe Lists.given Lists.range Lists.all Lists.any Lists.filter Lists.count Lists.find Lists.first_given Lists.member Lists.neighbours Lists.insert Lists.pair_before Bytes.be Bytes.le Bytes.be_digits Bytes.le_digits Bytes.part Bytes.patch Bytes.pieces Bytes.all_zero Bytes.padded Bytes.bits_of Bytes.unpack Bytes.pack Bytes.bit_set Bytes.byte_of Bytes.bit_bytes Head.head_fields Head.decode_head Head.encode_head Card.card_fields Card.decode_card Card.encode_card Card.card_spare_zero Card.card_before Extent.extent_key Extent.encode_extent Extent.decode_extent Extent.extent_fixed Extent.extent_before Extent.extent_end Extent.device_end Extent.joins Extent.joined Extent.covers Extent.block_of Extent.mapping Group.group_key Group.presence Group.slot_bytes Group.encode_group Group.slot_values Group.presence_bits Group.decode_group Group.group_fixed Group.absent_zero Group.group_before Group.empty_group Group.checksum_slot Group.set_checksum_slot Group.up_to_present Group.compact_group Map.map_bytes Map.encode_map Crc32c.bits Crc32c.from_bits Crc32c.generator Crc32c.message Crc32c.complement Crc32c.dividend Crc32c.less_times Crc32c.divide Crc32c.crc32c Checksum.unit_checksum Book.decode_book Book.decode_books Book.book_places Book.encode_book Book.zero_behind Store.decode_with Store.decode Store.head_of Store.encode_into Store.image_blocks Store.block_at Store.card_of Store.created_of Refusal.number_of Refusal.first_case Refusal.result Lengths.image_fits Lengths.map_fits Lengths.book_fits Lengths.buffers_fit Lengths.head_length Lengths.head_fits Lengths.counts_fit Lengths.length_wrong Lengths.fresh_length_wrong Integrity.ordered Integrity.packed Integrity.fixed_right Integrity.card_times_right Integrity.times_right Integrity.none_empty Integrity.apart Integrity.no_overlap Integrity.on_device Integrity.in_file Integrity.in_files Integrity.slots_right Integrity.bytes_keep_rules Integrity.records_keep_rules Integrity.books_keep_rules Integrity.books_broken Integrity.mapped_blocks Integrity.mapped_used Integrity.mapped_live Integrity.mapped_unreserved Integrity.mapped_right Integrity.reserved_right Integrity.retired_right Integrity.none_past Integrity.maps_keep_rules Integrity.maps_broken Integrity.rule_broken Integrity.store_cases Arguments.with_card Arguments.has_card Arguments.is_past_limit Arguments.is_below_size Arguments.time_wrong Arguments.cards_full Units.change_end Units.clipped Units.write_change Units.grow_change Units.units_of Units.touched_units Units.partial_tail Units.write_units Units.grow_units Units.valid_length Units.written_in Units.covers_old Units.reads_old Units.written_from Units.written_to Units.written_part Units.touches Units.assembled Inspect.floor_extent Inspect.checksum_of Inspect.backed_under Inspect.unit_mapping Inspect.valid_mapping Inspect.backed_bytes Inspect.valid_bytes Inspect.fully_backed Inspect.zero_past_end Inspect.checksum_right Inspect.inspect_slot Inspect.inspect_unit Kept.intact Kept.blocks_after Kept.candidates Kept.continues Kept.runs Kept.within_limit Kept.retained_blocks Kept.wanted Kept.assigned Kept.superseded Allocation.allocation_groups Allocation.group_order Allocation.group_start Allocation.group_end Allocation.highest Allocation.cursor Allocation.searched Allocation.available Allocation.found Allocation.sorted Allocation.too_few Allocation.found_first Allocation.run_in Allocation.first_run Allocation.allocate_data Allocation.hint_after Rewrite.allocated_after Rewrite.is_count_off Rewrite.counted Rewrite.lay_out Rewrite.allocate_unit Rewrite.rewrite_from Rewrite.after_read Rewrite.rewrite_unit Rewrite.after Rewrite.prepend Rewrite.and_then Rewrite.rewrite_units Finish.up_to Finish.from Finish.part_before Finish.part_from Finish.cut_unit Finish.meet Finish.start_runs Finish.call_runs Finish.attach Finish.take_in Finish.cut_units Finish.take_in_all Finish.finished_extents Finish.is_group Finish.with_group Finish.set_slot Finish.finished_groups Finish.changed_card Finish.finished_cards Finish.new_blocks Finish.superseded_blocks Finish.write_block Finish.write_new Finish.finished_image Finish.finished Fresh.fresh_volume Fresh.fresh_outcome Enter.new_card Enter.entered Enter.enter_cases Enter.enter_outcome Write.groups_full Write.extents_full Write.fit_cases Write.plan_of Write.carried_out Write.write_file Write.write_outcome Write.grow_file Write.grow_outcome Read.read_length Read.follow Read.then_units Read.check_units Read.hand_out Read.read_units Read.read_file Read.read_outcome Triples.decode_triple Triples.decode_triples Triples.list_wrong Triples.lengths_of ReadMany.reads_wrong ReadMany.with_piece ReadMany.then_reads ReadMany.read_all ReadMany.pairs_of ReadMany.touched_by ReadMany.same_pair ReadMany.different ReadMany.units_touched ReadMany.read_many_outcome Stretches.holds_data Stretches.extend Stretches.stretches Stretches.stretches_of Stretches.encode_stretch Stretches.decode_stretch Stretches.range_wrong Stretches.list_stretches Stretches.stretches_file Stretches.stretches_outcome Stretches.lies_in Stretches.ends_before Batch.length_over Batch.batch_wrong Batch.batch_cases Batch.after_write Batch.batch_from Batch.unless Batch.write_batch Settle.settled Settle.retired_blocks Settle.settle_outcome Settle.usable_blocks Settle.used_usable Settle.per_mille Settle.fill_outcome Call.call Call.run Act.act Act.was_refused Act.act_refused Act.parts_done Plain.change Plain.overwrite Plain.write_step Plain.accepted Plain.plain_writes Plain.act_step Plain.step Plain.plain Plain.file_bytes Plain.file_created Plain.plain_read Plain.plain_piece Plain.plain_many Plain.plain_pairs Stays.stayed Stays.kept_runs Demand.after_acts Demand.fed Demand.given_reserved Demand.act_reserved Demand.last_reserved Demand.places_of Demand.places Demand.pairs_given Demand.holders Demand.file_places Answers.found_number Answers.outcome_number Answers.inspected_number Answers.inspected_bytes Answers.step_number Answers.step_unit Answers.plan_number Answers.plan_units Answers.plan_hint Answers.plan_allocated Answers.checked_number Answers.checked_bytes
opened = tt
