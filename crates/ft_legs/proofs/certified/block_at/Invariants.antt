use Rattle.std.proofs.Common.{◌≡◌, ◌==◌, drop}
use Rattle.std.specs.Prelude.{find}
use Rattle.ft_isa.specs.Words.{code_address}
use Rattle.ft_types.specs.declared.object.Block.{Block}
use Rattle.ft_typing.specs.TypedWord.{block_at}
use Rattle.ft_legs.proofs.certified.block_at.Given as goal

abbrev pub invariant-loop-b : goal.invariant-loop-b
invariant-loop-b g l = let o = g.P.Program.object l.program in
    find (λ (x : Block). l.address == code_address x.start) (drop l.b o.blocks) ≡ block_at o l.address
