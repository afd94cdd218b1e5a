use Rattle.std.proofs.Common.{List, ℕ, refl}
use Rattle.std.specs.List.{flat_map}
use Rattle.ft_types.specs.declared.object.CodeType.{CodeType}
use Rattle.ft_types.specs.Objects.{queue_of}
use Rattle.ft_format.specs.Puts.{Puts}
use Rattle.ft_encode.specs.Written.{pair_bytes}
use Rattle.ft_encode.proofs.Puts.{put_goes}
use Rattle.ft_encode.proofs.writing.write_queue.Goals as goal

pub loop-code_type-preserved : goal.loop-code_type-preserved
loop-code_type-preserved c =
    let own : CodeType → List ℕ = λ t. flat_map pair_bytes (queue_of t) in
    let x = c.code_type-item.result in
    let put : Puts c.loop-code_type.out.items c.write_all.new.out.items (own x) =
    rw c.as_slice.ensures at c.in_ok-write_all.ensures in
    put_goes (flat_map own) (flat_map own) c.args.types.now c.loop-code_type.code_type-index x (own x)
    c.loop-code_type.out.items c.write_all.new.out.items _ c.loop-code_type-test.true c.code_type-item.is (λ rest.
    refl) put c.loop-code_type.invariant
