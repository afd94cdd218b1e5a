use Rattle.std.proofs.Common.{◌≡◌, refl, subst, sym, arith}
use Rattle.std.specs.Result.{OnOk, OnErr}
use Rattle.ft_edge.specs.Causes.{Rose}
use Rattle.std.specs.Prelude.{None}
use Rattle.ft_edge.specs.Takes.{after_read}
use Rattle.ft_edge.proofs.TakesTell.{takes_back}
use Rattle.ft_edge.proofs.sure_source.SureSourceSource.TheImpl.Goals as goal

pub take-tells : goal.take-tells
take-tells g c = record {
  takes = refl;
  bound = c.ensures.bound;
  bytes = c.ensures.bytes;
  kept = subst (λ r. OnErr r (c.new.buf.now ≡ c.args.buf.now)) (sym c.ensures.many) tt;
  told = refl;
  heard = subst (λ r. None ≡ after_read None r c.new.buf.now) (sym c.ensures.many) refl;
  may_be_left =
      λ rest h. takes_back c.result c.args.self.now c.new.self.now rest c.new.buf.now c.ensures.bytes h;
  count = omega arith;
  same_count = subst (λ r. OnOk r (0 ≡ 0)) (sym c.ensures.many) refl;
  cause = subst (λ r. OnErr r (Rose 0 0)) (sym c.ensures.many) tt;
}
