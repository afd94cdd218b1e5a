use Rattle.std.proofs.Common.{refl, None}
use Rattle.ft_edge.proofs.HeardFiles.{heard_loads}
use Rattle.ft_edge.proofs.folder_shelf.FolderShelfShelf.TheImpl.Goals as goal

pub load-tells : goal.load-tells
load-tells g c = record {
  files = refl;
  asked = refl;
  loads = c.ensures.loads;
  count = c.ensures.count;
  cause = c.ensures.cause;
  heard =
      λ files agree. heard_loads None c.result c.args.self.now.heard c.new.self.now.heard c.args.name.now c.args.limit
      c.new.into.now.items files c.ensures.heard agree;
}
