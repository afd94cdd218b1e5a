use Rattle.std.proofs.Common.{Some, map, sym, ap, ◌∙◌}
use Rattle.ft_static.specs.NormalForm.{form_under}
use Rattle.ft_static.specs.NodeTree.{trees}
use Rattle.ft_static.proofs.Denote.{node_form}
use Rattle.ft_norm.specs.Held.{polynomials, updates_held}
use Rattle.ft_norm.proofs.Memos.{count_told, integer_told, memory_told, told, told_answer}
use Rattle.ft_norm.proofs.substitution.Memo.form.Goals as goal

pub returns-in-Some-clause-form : goal.returns-in-Some-clause-form
returns-in-Some-clause-form g c =
    let s = c.args.forms.now in
    let ns = g.N.Nodes.nodes c.args.nodes.now in
    let ps = polynomials s c.args.ints.now in
    let u = updates_held s c.args.memory in
    c.in-Some.ensures s (map (form_under ps u) (trees ns)) c.requires.ints c.requires.memory
    ∙ ap Some (sym (node_form ps u ns c.args.n c.node.result c.requires.nodes c.node.ensures))

pub returns-in-Some-clause-integer : goal.returns-in-Some-clause-integer
returns-in-Some-clause-integer g c =
    let s = c.args.forms.now in
    let ns = g.N.Nodes.nodes c.args.nodes.now in
    (told ns c.requires.nodes s s c.args.ints.now c.args.memory c.args.n c.in-Some.form c.node.result c.node.ensures
    (returns-in-Some-clause-form g c)).of_integer

pub returns-in-Some-clause-memory : goal.returns-in-Some-clause-memory
returns-in-Some-clause-memory g c =
    let s = c.args.forms.now in
    let ns = g.N.Nodes.nodes c.args.nodes.now in
    (told ns c.requires.nodes s s c.args.ints.now c.args.memory c.args.n c.in-Some.form c.node.result c.node.ensures
    (returns-in-Some-clause-form g c)).of_memory

pub returns-in-Some-clause-count : goal.returns-in-Some-clause-count
returns-in-Some-clause-count g c =
    let s = c.args.forms.now in
    let ns = g.N.Nodes.nodes c.args.nodes.now in
    (told ns c.requires.nodes s s c.args.ints.now c.args.memory c.args.n c.in-Some.form c.node.result c.node.ensures
    (returns-in-Some-clause-form g c)).count

pub returns-in-Some-get-clause-integer : goal.returns-in-Some-get-clause-integer
returns-in-Some-get-clause-integer g c =
    let s = c.args.forms.now in
    let ns = g.N.Nodes.nodes c.args.nodes.now in
    (told ns c.requires.nodes s s c.args.ints.now c.args.memory c.args.n c.in-Some-get.form.now c.node.result
    c.node.ensures (c.requires.made.each c.args.n c.in-Some-get.form.now
    (sym c.in-Some-get.ensures.value))).of_integer

pub returns-in-Some-get-clause-memory : goal.returns-in-Some-get-clause-memory
returns-in-Some-get-clause-memory g c =
    let s = c.args.forms.now in
    let ns = g.N.Nodes.nodes c.args.nodes.now in
    (told ns c.requires.nodes s s c.args.ints.now c.args.memory c.args.n c.in-Some-get.form.now c.node.result
    c.node.ensures (c.requires.made.each c.args.n c.in-Some-get.form.now (sym c.in-Some-get.ensures.value))).of_memory

pub returns-in-Some-get-clause-count : goal.returns-in-Some-get-clause-count
returns-in-Some-get-clause-count g c =
    let s = c.args.forms.now in
    let ns = g.N.Nodes.nodes c.args.nodes.now in
    (told ns c.requires.nodes s s c.args.ints.now c.args.memory c.args.n c.in-Some-get.form.now c.node.result
    c.node.ensures (c.requires.made.each c.args.n c.in-Some-get.form.now (sym c.in-Some-get.ensures.value))).count

pub returns-clause-integer : goal.returns-clause-integer
returns-clause-integer g c =
    let s = c.args.forms.now in
    let t = c.make.new.forms in
    let ns = g.N.Nodes.nodes c.args.nodes.now in
    integer_told ns s t c.args.ints.now c.args.memory c.args.n c.make.result
    (told_answer ns c.requires.nodes s t c.args.ints.now c.args.memory c.args.n c.make.result c.node.result
    c.node.ensures c.make.ensures.form)

pub returns-clause-memory : goal.returns-clause-memory
returns-clause-memory g c =
    let s = c.args.forms.now in
    let t = c.make.new.forms in
    let ns = g.N.Nodes.nodes c.args.nodes.now in
    memory_told ns s t c.args.ints.now c.args.memory c.args.n c.make.result
    (told_answer ns c.requires.nodes s t c.args.ints.now c.args.memory c.args.n c.make.result c.node.result
    c.node.ensures c.make.ensures.form)

pub returns-clause-count : goal.returns-clause-count
returns-clause-count g c =
    let s = c.args.forms.now in
    let t = c.make.new.forms in
    let ns = g.N.Nodes.nodes c.args.nodes.now in
    count_told ns s t c.args.ints.now c.args.memory c.args.n c.make.result
    (told_answer ns c.requires.nodes s t c.args.ints.now c.args.memory c.args.n c.make.result c.node.result
    c.node.ensures c.make.ensures.form)
