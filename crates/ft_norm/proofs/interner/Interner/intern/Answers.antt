use Rattle.std.proofs.Common.{arith}
use Rattle.ft_norm.proofs.Distinct.{put}
use Rattle.ft_norm.proofs.Ways.{paths_more}
use Rattle.ft_norm.proofs.interner.Interner.intern.Goals as goal

pub invariant_of-self-2 : goal.invariant_of-self-2
invariant_of-self-2 c =
    let s = c.in_ok-number.ensures.stored in
    let r = put c.self.inside.entries.keys c.insert_full.new.self.keys c.args.self.now c.args.entry s.0
    c.in_ok-number.number c.self.invariant.entries (omega (arith, c.len.ensures.len, c.if-len-ge-FORMS.false))
    c.self.view_is
    c.requires.canonical c.requires.reach c.in_ok-number.ensures.keys s.1 s.2 in
    record {
      entries = r.entries;
      paths = paths_more c.self.inside.entries.keys c.insert_full.new.self.keys c.self.inside.paths c.args.entry _
          c.in_ok-number.ensures.keys c.self.invariant.paths;
    }

pub returns-clause-kept : goal.returns-clause-kept
returns-clause-kept c =
    let s = c.in_ok-number.ensures.stored in
    let r = put c.self.inside.entries.keys c.insert_full.new.self.keys c.args.self.now c.args.entry s.0
    c.in_ok-number.number c.self.invariant.entries (omega (arith, c.len.ensures.len, c.if-len-ge-FORMS.false))
    c.self.view_is
    c.requires.canonical c.requires.reach c.in_ok-number.ensures.keys s.1 s.2 in
    r.kept

pub returns-clause-form : goal.returns-clause-form
returns-clause-form c =
    let s = c.in_ok-number.ensures.stored in
    let r = put c.self.inside.entries.keys c.insert_full.new.self.keys c.args.self.now c.args.entry s.0
    c.in_ok-number.number c.self.invariant.entries (omega (arith, c.len.ensures.len, c.if-len-ge-FORMS.false))
    c.self.view_is
    c.requires.canonical c.requires.reach c.in_ok-number.ensures.keys s.1 s.2 in
    r.form
