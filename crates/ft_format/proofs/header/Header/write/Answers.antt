use Rattle.ft_format.specs.Layout.{written}
use Rattle.ft_format.proofs.Written.{before, last}
use Rattle.ft_format.proofs.header.Header.write.Goals as goal

pub returns : goal.returns
unfolding written
returns c = before c.in_ok-put_u64.ensures (before c.in_ok-put_u32.ensures
    (before c.in_ok-put_u32-2.ensures (before c.in_ok-put_u32-3.ensures
    (before c.in_ok-put_u32-4.ensures (before c.in_ok-put_u32-5.ensures
    (before c.in_ok-put_u32-6.ensures (before c.in_ok-put_u32-7.ensures
    (before c.in_ok-put_u32-8.ensures (before c.in_ok-put_u32-9.ensures (last c.in_ok-put_u32-10.ensures))))))))))
