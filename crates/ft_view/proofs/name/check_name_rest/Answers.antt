use Rattle.std.proofs.Common.{◌≡◌, None, subst, arith, Some}
use Rattle.std.proofs.lemmas.Result.{err_from_is_err_and}
use Rattle.ft_format.specs.declared.object_error.ObjectError.TheVariants as errors
use Rattle.ft_format.specs.Rules.{must}
use Rattle.ft_view.proofs.Names.{byte_goes, byte_halts, bytes_end}
use Rattle.ft_view.proofs.name.check_name_rest.Goals as goal

pub returns-in_err-check : goal.returns-in_err-check
returns-in_err-check c =
    let p = err_from_is_err_and c.from_residual.result c.from_residual.ensures.1 in
    let why = c.in_err-check.field-0.0 in
    rw (p.1, p.2) (byte_halts c.args.version c.args.bytes.now c.loop-b.b-index c.loop-b.place _ why c.loop-b-test.true
    (subst (λ b. must b (errors.Name c.loop-b.place) ≡ Some why) c.may_follow.ensures c.in_err-check.ensures)
    c.loop-b.invariant.broken)

pub loop-b-preserved : goal.loop-b-preserved
loop-b-preserved c = record {
  place = omega arith;
  broken = byte_goes c.args.version c.args.bytes.now c.loop-b.b-index c.loop-b.place _ c.loop-b-test.true
      (subst (λ b. must b (errors.Name c.loop-b.place) ≡ None) c.may_follow.ensures c.in_ok-check.ensures)
      c.loop-b.invariant.broken;
}

pub returns : goal.returns
returns c = bytes_end c.args.version c.args.bytes.now c.loop-b.b-index c.loop-b.place _ c.loop-b-test.false
    c.loop-b.invariant.broken
