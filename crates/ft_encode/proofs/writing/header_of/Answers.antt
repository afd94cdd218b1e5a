use Rattle.std.proofs.Common.{◌≡◌, length, sym, ap, ◌∙◌, refl}
use Rattle.std.specs.List.{sum_by, flat_map}
use Rattle.std.proofs.lemmas.List.Concat.{length-flat_map}
use Rattle.ft_types.specs.Objects.{name_of, regs_of, queue_of}
use Rattle.ft_encode.proofs.writing.header_of.Goals as goal

pub returns : goal.returns
returns c =
    let o = c.args.object.now in
    let regs : c.count_regs.result ≡ length (flat_map regs_of o.types) = c.count_regs.ensures
    ∙ ap (sum_by (λ t. length (regs_of t))) c.as_slice.ensures ∙ sym (length-flat_map regs_of o.types) in
    let queue : c.count_queue.result ≡ length (flat_map queue_of o.types) = c.count_queue.ensures
    ∙ ap (sum_by (λ t. length (queue_of t))) c.as_slice-2.ensures ∙ sym (length-flat_map queue_of o.types) in
    let names : c.count_names.result ≡ length (flat_map name_of o.cells) = c.count_names.ensures
    ∙ ap (sum_by (λ x. length (name_of x))) c.as_slice-3.ensures ∙ sym (length-flat_map name_of o.cells) in
    rw (
      c.magic.ensures,
      c.len.ensures,
      c.len-2.ensures,
      c.len-3.ensures,
      regs,
      queue,
      c.len-4.ensures,
      c.len-5.ensures,
      c.len-6.ensures,
      names,
    ) refl
