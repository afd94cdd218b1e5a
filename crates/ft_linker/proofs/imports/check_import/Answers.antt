use Rattle.std.proofs.Common.{List, sym, ap, ◌∙◌}
use Rattle.std.proofs.lemmas.Option.{slice_get_within}
use Rattle.ft_isa.proofs.Lists.{all_there}
use Rattle.ft_types.specs.Spellable.{IsSpellable}
use Rattle.ft_link_map.specs.declared.link_map.Ask.{Ask}
use Rattle.ft_modules.specs.Links.{export_of}
use Rattle.ft_linker.proofs.Mapped.{at_index}
use Rattle.ft_linker.proofs.JoinedBlocks.{below_there, export_has, import_unstubbed, import_missing, import_unlike}
use Rattle.ft_linker.proofs.JoinedBlocks.{import_passes}
use Rattle.ft_linker.proofs.imports.check_import.Goals as goal

pub bounds-objects-m : goal.bounds-objects-m
bounds-objects-m c = slice_get_within c.args.objects.now c.args.import.now.module c.requires.import.object
    c.requires.import.there

pub is_stub-requires : goal.is_stub-requires
is_stub-requires c =
    let ms = c.args.objects.now in
    let i = c.args.import.now in
    let o = c.index-objects-m.result in
    let there = at_index ms i.module o (slice_get_within ms i.module c.requires.import.object c.requires.import.there)
    c.index-objects-m.is in
    record {
      spelled = all_there IsSpellable ms i.module o c.requires.ready.can.spelled there;
      there = below_there ms i.module i.block o c.requires.import there;
    }

pub like_blocks-requires : goal.like_blocks-requires
like_blocks-requires c = record {
  ready = c.requires.ready;
  from = c.requires.import;
  to = export_has c.args.objects.now c.args.exports.now c.args.import.now.name c.in-Some.export.now c.requires.exports
      (ap (λ (z : List Ask). export_of z c.args.import.now.name) (sym c.as_slice.ensures) ∙ c.in-Some.ensures.found);
}

pub returns-then-not-is_stub-clause-refused : goal.returns-then-not-is_stub-clause-refused
returns-then-not-is_stub-clause-refused c =
    let ms = c.args.objects.now in
    let i = c.args.import.now in
    let o = c.index-objects-m.result in
    let there = at_index ms i.module o (slice_get_within ms i.module c.requires.import.object c.requires.import.there)
    c.index-objects-m.is in
    import_unstubbed ms c.args.exports.now i o there (sym c.if-not-is_stub.ensures)

pub returns-then-not-like_blocks-clause-refused : goal.returns-then-not-like_blocks-clause-refused
returns-then-not-like_blocks-clause-refused c =
    let ms = c.args.objects.now in
    let i = c.args.import.now in
    let o = c.index-objects-m.result in
    let there = at_index ms i.module o (slice_get_within ms i.module c.requires.import.object c.requires.import.there)
    c.index-objects-m.is in
    import_unlike ms c.args.exports.now i o there c.in-Some.export.now (sym c.if-not-is_stub.ensures)
    (ap (λ (z : List Ask). export_of z i.name) (sym c.as_slice.ensures)
    ∙ c.in-Some.ensures.found) (sym c.if-not-like_blocks.ensures)

pub returns-else-not-like_blocks-clause-unrefused : goal.returns-else-not-like_blocks-clause-unrefused
returns-else-not-like_blocks-clause-unrefused c =
    let ms = c.args.objects.now in
    let i = c.args.import.now in
    let o = c.index-objects-m.result in
    let there = at_index ms i.module o (slice_get_within ms i.module c.requires.import.object c.requires.import.there)
    c.index-objects-m.is in
    import_passes ms c.args.exports.now i o there c.in-Some.export.now (sym c.if-not-is_stub.ensures)
    (ap (λ (z : List Ask). export_of z i.name) (sym c.as_slice.ensures)
    ∙ c.in-Some.ensures.found) (sym c.if-not-like_blocks.ensures)

pub returns-in-None-clause-refused : goal.returns-in-None-clause-refused
returns-in-None-clause-refused c =
    let ms = c.args.objects.now in
    let i = c.args.import.now in
    let o = c.index-objects-m.result in
    let there = at_index ms i.module o (slice_get_within ms i.module c.requires.import.object c.requires.import.there)
    c.index-objects-m.is in
    import_missing ms c.args.exports.now i o there (sym c.if-not-is_stub.ensures)
    (ap (λ (z : List Ask). export_of z i.name) (sym c.as_slice.ensures) ∙ c.in-None.ensures.none)
