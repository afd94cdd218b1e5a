use Rattle.std.proofs.Common.{IsAscii, sym, subst}
use Rattle.std.proofs.lemmas.Str.{IsUtf8-from_ascii}
use Rattle.ft_tool.proofs.link.name_of.Goals as goal

pub unreachable-requires : goal.unreachable-requires
unreachable-requires c = c.in_default.ensures.cases.0
    (IsUtf8-from_ascii c.as_slice.result.now (subst IsAscii (sym c.as_slice.ensures) c.requires))
