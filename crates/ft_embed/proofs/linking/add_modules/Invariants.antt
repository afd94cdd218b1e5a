use Rattle.std.proofs.Common.{◌≡◌, drop, length}
use Rattle.ft_embed.specs.Links.{HasAdded}
use Rattle.ft_embed.proofs.linking.add_modules.Given as goal

abbrev pub invariant-loop-file : goal.invariant-loop-file
invariant-loop-file l = record {
  files : l.files ≡ l.fn.linkage.files;
  number : l.number ≡ length l.linker;
  added : HasAdded l.given l.fn.linkage l.linker (drop l.file-index l.files);
}
