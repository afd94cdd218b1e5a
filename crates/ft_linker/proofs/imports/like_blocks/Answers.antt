use Rattle.std.proofs.Common.{sym, ◌∙◌, subst}
use Rattle.std.proofs.lemmas.Option.{slice_get_within}
use Rattle.ft_isa.proofs.Lists.{all_there}
use Rattle.ft_types.specs.Spellable.{HasCodeType, IsSpellable}
use Rattle.ft_modules.specs.declared.before.Before.{Before}
use Rattle.ft_modules.specs.Linked.{before_module, nothing_before}
use Rattle.ft_linker.proofs.Mapped.{at_index}
use Rattle.ft_linker.specs.Numbers.{AreCompared}
use Rattle.ft_linker.proofs.JoinedBlocks.{like_exactly}
use Rattle.ft_linker.proofs.Joining.{start_within, start_is}
use Rattle.ft_linker.proofs.imports.like_blocks.Goals as goal

pub start_of-from-requires : goal.start_of-from-requires
start_of-from-requires c = start_within c.args.objects.now c.as_slice-starts.result.now c.requires.ready.can
    (c.as_slice-starts.ensures.value ∙ c.requires.ready.tables.starts) c.args.import.now.module c.args.import.now.block
    c.requires.from

pub start_of-to-requires : goal.start_of-to-requires
start_of-to-requires c = start_within c.args.objects.now c.as_slice-starts.result.now c.requires.ready.can
    (c.as_slice-starts.ensures.value ∙ c.requires.ready.tables.starts) c.args.export.now.module c.args.export.now.block
    c.requires.to

pub bounds-objects-m : goal.bounds-objects-m
bounds-objects-m c = slice_get_within c.args.objects.now c.args.import.now.module c.requires.from.object
    c.requires.from.there

pub bounds-objects-n : goal.bounds-objects-n
bounds-objects-n c = slice_get_within c.args.objects.now c.args.export.now.module c.requires.to.object
    c.requires.to.there

pub same_types-requires : goal.same_types-requires
same_types-requires c =
    let ms = c.args.objects.now in
    let i = c.args.import.now in
    let e = c.args.export.now in
    let o = c.index-objects-m.result in
    let x = c.index-objects-n.result in
    let are = c.as_slice-starts.ensures.value ∙ c.requires.ready.tables.starts in
    let o_there = at_index ms i.module o (slice_get_within ms i.module c.requires.from.object c.requires.from.there)
    c.index-objects-m.is in
    let x_there = at_index ms e.module x (slice_get_within ms e.module c.requires.to.object c.requires.to.there)
    c.index-objects-n.is in
    let o_spelled = all_there IsSpellable ms i.module o c.requires.ready.can.spelled o_there in
    let x_spelled = all_there IsSpellable ms e.module x c.requires.ready.can.spelled x_there in
    let k_is = start_is ms c.as_slice-starts.result.now c.requires.ready.can are i.module i.block c.start_of-from.result
    c.requires.from c.start_of-from.ensures in
    let l_is = start_is ms c.as_slice-starts.result.now c.requires.ready.can are e.module e.block c.start_of-to.result
    c.requires.to c.start_of-to.ensures in
    record {
      one = o_spelled;
      other = x_spelled;
      compared = subst (λ (k : Before). AreCompared c.args.numbers.now o k.nodes x c.start_of-to.result.nodes)
          (sym k_is) (subst (λ (l : Before). AreCompared c.args.numbers.now o
          (before_module nothing_before ms i.module).nodes x l.nodes) (sym l_is)
          (c.requires.ready.compared i.module e.module o x o_there x_there));
      there = all_there (HasCodeType _) o.blocks i.block c.block_of-one.result o_spelled.block_types
          (c.block_of-one.ensures o o_there);
      other_there = all_there (HasCodeType _) x.blocks e.block c.block_of-other.result x_spelled.block_types
          (c.block_of-other.ensures x x_there);
    }

pub returns : goal.returns
returns c =
    let ms = c.args.objects.now in
    let i = c.args.import.now in
    let e = c.args.export.now in
    let o = c.index-objects-m.result in
    let x = c.index-objects-n.result in
    let o_there = at_index ms i.module o (slice_get_within ms i.module c.requires.from.object c.requires.from.there)
    c.index-objects-m.is in
    let x_there = at_index ms e.module x (slice_get_within ms e.module c.requires.to.object c.requires.to.there)
    c.index-objects-n.is in
    like_exactly ms i.module e.module i.block e.block o x c.block_of-one.result c.block_of-other.result
    c.same_types.result o_there x_there (c.block_of-one.ensures o o_there) (c.block_of-other.ensures x x_there)
    c.same_types.ensures.0 c.same_types.ensures.1
