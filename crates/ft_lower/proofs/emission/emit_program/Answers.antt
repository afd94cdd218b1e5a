use Rattle.std.proofs.Common.{ap, arith}
use Rattle.ft_syntax.specs.Plain.{plain_list}
use Rattle.ft_scope.specs.Size.{same_slot}
use Rattle.ft_lower.specs.Lowered.{block_count}
use Rattle.ft_lower.proofs.Sizes.{count_weighs}
use Rattle.ft_lower.proofs.emission.emit_program.Goals as goal

pub count_blocks-requires : goal.count_blocks-requires
count_blocks-requires c =
    let e = ap (λ l. block_count (plain_list same_slot l)) c.deref.ensures.value in
    record {
      few = omega (
        arith,
        e,
        count_weighs (plain_list same_slot c.args.prog.now.body.items),
        c.args.prog.now.light,
      );
    }
