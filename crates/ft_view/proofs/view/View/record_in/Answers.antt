use Rattle.std.proofs.Common.{◌≡◌, ◌+◌, ◌/◌, ◌≤◌, length, take, drop, None, refl, sym, subst}
use Rattle.ft_format.specs.Format.{AreBytes}
use Rattle.ft_format.specs.Broken.{broken}
use Rattle.ft_view.proofs.Opened.{code_inside, code_there, instr_known}
use Rattle.ft_view.proofs.view.View.record_in.Goals as goal

pub stretch-requires : goal.stretch-requires
stretch-requires c =
    subst (λ n. n + 16 ≤ length c.args.code.now) (sym c.requires.whole)
    (code_inside c.self.inside.header c.self.inside.at c.self.inside.bytes.now c.args.self.now c.args.code.now
    (c.args.at / 16) c.self.invariant (sym c.self.view_is) c.requires.code c.requires.there)

pub returns-clause-there : goal.returns-clause-there
returns-clause-there c =
    let part = subst (λ n. c.stretch.result.now ≡ take 16 (drop n c.args.code.now)) c.requires.whole
    c.stretch.ensures.bytes in
    code_there c.self.inside.header c.self.inside.at c.self.inside.bytes.now c.args.self.now c.args.code.now
    c.stretch.result.now _ (c.args.at / 16) c.self.invariant (sym c.self.view_is) c.requires.code c.requires.there
    part refl

pub returns-clause-known : goal.returns-clause-known
returns-clause-known c =
    let seen = c.args.self.now in
    let part = subst (λ n. c.stretch.result.now ≡ take 16 (drop n c.args.code.now)) c.requires.whole
    c.stretch.ensures.bytes in
    instr_known seen c.stretch.result.now (c.args.at / 16)
    (subst AreBytes c.self.view_is c.self.invariant.are_bytes)
    (subst (λ b. broken b ≡ None) c.self.view_is c.self.invariant.unbroken)
    (code_there c.self.inside.header c.self.inside.at c.self.inside.bytes.now seen c.args.code.now c.stretch.result.now
    _ (c.args.at / 16) c.self.invariant (sym c.self.view_is) c.requires.code c.requires.there part refl)
