use Rattle.std.proofs.Common.{refl}
use Rattle.std.specs.FinMap.{get-empty}
use Rattle.ft_isa.specs.Words.{apply}
use Rattle.ft_typing.specs.TypedWord.{block_at, cell_of, same_basic, is_seen_as, common_type, run_type, has_type}
use Rattle.ft_typing.specs.Context.{integer_form_of, memory_form_of, integer_form_after, memory_form_after, replacement}
use Rattle.ft_typing.specs.Context.{registers_after}
use Rattle.ft_typing.specs.RowWords.{same_colour, need, for_typed, for_ref_over, for_code_over, for_zero, for_target}
use Rattle.ft_typing.specs.RowWords.{for_conditional, for_oldest, for_run, is_empty, pending_memory, is_like}
use Rattle.ft_typing.specs.RowWords.{is_queue_like, is_annotated, leads}
use Rattle.ft_typing.specs.Accepted.{is_entry_type, after_row, walk, first_refusal}
use Rattle.ft_types.proofs.Maps.{get-insert}
use Rattle.ft_typing.proofs.examples.examples_of_refusal.Goals as goal

pub returns : goal.returns
unfolding apply block_at cell_of same_basic is_seen_as common_type run_type has_type integer_form_of memory_form_of
    integer_form_after memory_form_after replacement registers_after same_colour need for_typed for_ref_over
    for_code_over for_zero for_target for_conditional for_oldest for_run is_empty pending_memory is_like is_queue_like
    is_annotated leads is_entry_type after_row walk first_refusal
returns c = record {
  entry_type = refl;
  cell_type = refl;
  untyped = simp (get-insert, get-empty);
  colour = simp get-insert;
  basic_type = refl;
  not_ref = simp get-insert;
  not_code = simp get-insert;
  state_of_d = simp get-insert;
  queue_full = simp get-insert;
  queue_empty = simp get-insert;
  addresses = simp get-insert;
  values = simp get-insert;
  conditions = simp get-insert;
  targets = simp get-insert;
  register_unlike = simp get-insert;
  register_missing = simp (get-insert, get-empty);
  queue_unlike = simp get-insert;
  memory_unlike = simp get-insert;
  annotation = simp get-insert;
  block_end = simp get-insert;
  untyped_in_run = simp (get-insert, get-empty);
  array = simp get-insert;
  array_of_8_refs = simp get-insert;
}
