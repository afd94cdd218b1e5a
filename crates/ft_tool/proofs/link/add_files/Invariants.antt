use Rattle.std.proofs.Common.{◌≡◌, drop}
use Rattle.ft_edge.specs.Loads.{Files}
use Rattle.ft_tool.specs.Known.{ForFiles}
use Rattle.ft_tool.specs.LinkTurns.{HasAdded}
use Rattle.ft_tool.proofs.link.add_files.Given as goal

abbrev pub invariant-loop-file : goal.invariant-loop-file
invariant-loop-file g l = record {
  files : l.files ≡ l.fn.linkage.files;
  told : (g.F.Shelf.log l.shelf).files ≡ (g.F.Shelf.log l.fn.shelf).files;
  failures : (g.F.Shelf.log l.shelf).failures ≡ (g.F.Shelf.log l.fn.shelf).failures;
  name : (g.F.Shelf.log l.shelf).failed_name ≡ (g.F.Shelf.log l.fn.shelf).failed_name;
  out : l.out ≡ l.fn.out;
  earlier : (files : Files) → g.F.Shelf.agrees l.shelf files → g.F.Shelf.agrees l.fn.shelf files;
  added : ForFiles (g.F.Shelf.log l.fn.shelf).files (g.F.Shelf.agrees l.shelf) (λ told. HasAdded told l.fn.linkage
      l.linker (drop l.file-index l.files) (g.F.Shelf.log l.fn.shelf).asked (g.F.Shelf.log l.shelf).asked);
}
