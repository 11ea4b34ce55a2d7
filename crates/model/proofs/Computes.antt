-- Names every definition on one `unfolding` line: a fact that is computed says `unfolding computes`.
use mathlib.Core.List.{flat_map}
use Rattle.model.specs.Lists.{below, all, any, select}
use Rattle.model.specs.Bytes.{bytes, number, part, be4, replaced, block_at, store, padded, words, block, zero_disk, zero_memory}
use Rattle.model.specs.Shape.{between, in_range, checked, journal_block, nearest, clamped}
use Rattle.model.specs.Card.{same_name, taken, highest_of, with_name, record_size, fresh_card, empty_card, blank_card, down_card, shape_of, tail_of, core_of, holder_of, committed_count}
use Rattle.model.specs.Layout.{has_head, pair_words, pair_at, pairs_in, master_words, master_block, layout_in, shape_in, tail_in, is_tail, has_master_fields, is_master, descriptor_words, descriptor_block, block_count, tags_in, distinct, is_tag, is_descriptor, commit_words, commit_block, list_commit_block, stamp_in, name_count, number_named, highest_in, names_from, names_in, few_names, is_listable, is_commit, cores_named, flag_of, escaped, unescaped}
use Rattle.model.specs.Journal.{journal_at, record_at, records_from, journal, journals, tags_of, blocks_of, names_of, took, image_of}
use Rattle.model.specs.Shrink.{strike, shrink_in, shrink}
use Rattle.model.specs.Valid.{is_in, is_met, required, required_of, names_met, valid_set, blocks_held, later, newest}
use Rattle.model.specs.Command.{refusal, unless, wrong_length, no_core, no_block}
use Rattle.model.specs.Format.{format_conditions, formatted_disk, formatted, format}
use Rattle.model.specs.Write.{writer, writer_name, is_running_in, rule_for, writer_after, closed_blocks, journal_full, write_conditions, written_card, written_memory, written, write}
use Rattle.model.specs.Commit.{copy_block, copied, close_conditions, closed_card, closed, close, copy_tags, next_stored, next_position, core_stored, store_conditions, stored, store_next}
use Rattle.model.specs.Checkpoint.{committed_now, valid_now, committed_of, oldest, share, shares_lower, checkpoint_conditions, retire_conditions, stored_home, released, retired_card, stored_master, checkpointed, checkpoint, retired_oldest, retire, found_conditions, committed_conditions}
use Rattle.model.specs.Recovery.{cut_conditions, cut, shape_on, tail_on, layout_on, committed_by, valid_on_by, recover_conditions_by, blocks_left, place_of, image_found, newest_image, emptied_tail, brought_up, recover_step, recovered_by, recovered, recover, recover_by_lists, recovered_area, home_area}
use Rattle.model.specs.RecoveryClaims.{recovers_from}
use Rattle.model.specs.Reading.{read_conditions, read_number, read_block}
use Rattle.model.specs.Tape.{operand_lengths, operand_length, decoded, command_byte, operands_at, whole_or_early, read_at, offset_past, next_offset, obeyed, command_at, run_from, run, world_after, heard}
use Rattle.model.specs.Step.{conditions_of, done_by, next_store, step_by, step_at_by, conditions_on, done_on}
use Rattle.model.specs.Printing.{home_count, is_zero, home_lines, printed, blank_world}
use Rattle.model.specs.Cases.{outcome_of, cases}
use Rattle.model.specs.JournalEnds.{lacks_descriptor, has_bad_field, read_record, end_number, record_answer, end_from, journal_end}

unfoldable pub computes : Unit {0}
unfolding flat_map below all any select bytes number part be4 replaced block_at store padded words block zero_disk zero_memory between in_range checked journal_block nearest clamped same_name taken highest_of with_name record_size fresh_card empty_card blank_card down_card shape_of tail_of core_of holder_of committed_count has_head pair_words pair_at pairs_in master_words master_block layout_in shape_in tail_in is_tail has_master_fields is_master descriptor_words descriptor_block block_count tags_in distinct is_tag is_descriptor commit_words commit_block list_commit_block stamp_in name_count number_named highest_in names_from names_in few_names is_listable is_commit cores_named flag_of escaped unescaped journal_at record_at records_from journal journals tags_of blocks_of names_of took image_of strike shrink_in shrink is_in is_met required required_of names_met valid_set blocks_held later newest refusal unless wrong_length no_core no_block format_conditions formatted_disk formatted format writer writer_name is_running_in rule_for writer_after closed_blocks journal_full write_conditions written_card written_memory written write copy_block copied close_conditions closed_card closed close copy_tags next_stored next_position core_stored store_conditions stored store_next committed_now valid_now committed_of oldest share shares_lower checkpoint_conditions retire_conditions stored_home released retired_card stored_master checkpointed checkpoint retired_oldest retire cut_conditions cut shape_on tail_on layout_on committed_by valid_on_by recover_conditions_by blocks_left place_of image_found newest_image emptied_tail brought_up recover_step recovered_by recovered recover recover_by_lists recovered_area home_area recovers_from read_conditions read_number read_block operand_lengths operand_length decoded command_byte operands_at whole_or_early read_at offset_past next_offset obeyed command_at run_from run world_after heard conditions_of done_by next_store step_by step_at_by conditions_on done_on home_count is_zero home_lines printed blank_world outcome_of cases lacks_descriptor has_bad_field read_record end_number record_answer end_from journal_end committed_conditions found_conditions
computes = tt
