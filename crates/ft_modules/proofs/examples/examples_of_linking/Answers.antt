use Rattle.ft_isa.specs.Words.{apply}
use Rattle.ft_typing.specs.TypedWord.{block_at, cell_of, same_basic, is_seen_as, has_type}
use Rattle.ft_typing.specs.Context.{integer_form_of, memory_form_of, integer_form_after, memory_form_after, replacement}
use Rattle.ft_typing.specs.Context.{registers_after}
use Rattle.ft_typing.specs.RowWords.{same_colour, need, for_typed, for_ref_over, for_code_over, for_zero, for_target}
use Rattle.ft_typing.specs.RowWords.{for_conditional, for_oldest, is_empty, pending_memory, is_like, is_queue_like}
use Rattle.ft_typing.specs.RowWords.{is_annotated, leads}
use Rattle.ft_typing.specs.Accepted.{is_entry_type, after_row, walk, first_refusal}
use Rattle.ft_types.proofs.Maps.{get-insert}
use Rattle.ft_modules.specs.Links.{links}
use Rattle.ft_modules.specs.Linked.{before_module, laid}
use Rattle.std.proofs.Common.{refl}
use Rattle.ft_modules.proofs.examples.examples_of_linking.Goals as goal

pub returns : goal.returns
unfolding apply block_at cell_of same_basic is_seen_as has_type integer_form_of memory_form_of integer_form_after
    memory_form_after replacement registers_after same_colour need for_typed for_ref_over for_code_over for_zero
    for_target for_conditional for_oldest is_empty pending_memory is_like is_queue_like is_annotated leads is_entry_type
    after_row walk first_refusal links before_module laid
returns c = record {
  instrs = refl;
  accepted = simp get-insert;
  entry = refl;
  without = refl;
  types = refl;
  blocks = refl;
  substs = refl;
  nodes = refl;
  cells = refl;
}
