use Rattle.std.proofs.Common.{◌≡◌, ◌+◌, ◌∙◌, nat_eq, ap, arith, refl, length, Some, length-append, [], ◌∷◌}
use Rattle.indexmap.specs.IndexMap.{get}
use Rattle.ft_static.specs.Form.{updates}
use Rattle.ft_static.specs.NormalForm.{form_under}
use Rattle.ft_static.specs.NodeTree.{tree_at}
use Rattle.ft_norm.specs.Held.{held, polynomials, updates_held}
use Rattle.ft_norm.specs.Parts.{form_of_parts, updates_of_parts}
use Rattle.ft_static.proofs.NodeTrees.{parts_below}
use Rattle.ft_norm.proofs.Made.{node_made, parts_count, parts_sorts, stands_kept, stands_more}
use Rattle.ft_norm.proofs.Memos.{remembered, remembers_kept, remembers_same, stands_from}
use Rattle.ft_norm.proofs.Paths.{count, count_bound, count_less, count_more, path_end, path_first, path_pop, path_push}
use Rattle.ft_norm.proofs.Paths.{steps_all, steps_more}
use Rattle.ft_norm.proofs.HeldForms.{integers_kept, keeps_both, keeps_itself, polynomials_kept}
use Rattle.ft_norm.proofs.substitution.Memo.make.Goals as goal

pub returns-in-Err-push-clause-steps : goal.returns-in-Err-push-clause-steps
returns-in-Err-push-clause-steps g c =
    let s = c.args.forms.now in
    let ns = g.N.Nodes.nodes c.args.nodes.now in
    let ps = polynomials s c.args.ints.now in
    let u = updates_held s c.args.memory in
    let look = get nat_eq c.loop-part.self.made in
    let k = c.loop-part.k in
    steps_all (g.M.Meter.counted c.loop-part.meter) (g.M.Meter.counted c.args.meter.now) (count look (c.args.n + 1))
    c.args.n (1 + updates u + c.args.n)
    c.loop-part.invariant.steps (count_bound look (c.args.n + 1))

pub loop-part-smaller-in-Err : goal.loop-part-smaller-in-Err
loop-part-smaller-in-Err g c =
    let s = c.args.forms.now in
    let ns = g.N.Nodes.nodes c.args.nodes.now in
    let ps = polynomials s c.args.ints.now in
    let u = updates_held s c.args.memory in
    let look = get nat_eq c.loop-part.self.made in
    let k = c.loop-part.k in
    let l = c.in-Err.ensures.missing.0 k (parts_below ns k c.node.result.scope c.node.result.shape
    (c.requires.nodes.each k c.node.result c.node.ensures).shape) in
    let z = ap length c.in-Ok-push.ensures.items in
    omega (arith, l, z, c.loop-part.invariant.path.near, length-append c.loop-part.open.items (k ∷ []))

pub loop-part-preserved-in-Err : goal.loop-part-preserved-in-Err
loop-part-preserved-in-Err g c =
    let s = c.args.forms.now in
    let ns = g.N.Nodes.nodes c.args.nodes.now in
    let ps = polynomials s c.args.ints.now in
    let u = updates_held s c.args.memory in
    let look = get nat_eq c.loop-part.self.made in
    let k = c.loop-part.k in
    let l = c.in-Err.ensures.missing.0 k (parts_below ns k c.node.result.scope c.node.result.shape
    (c.requires.nodes.each k c.node.result c.node.ensures).shape) in
    record {
      kept = c.loop-part.invariant.kept;
      made = c.loop-part.invariant.made;
      path = rw c.in-Ok-push.ensures.items (path_push look c.args.n k c.in-Err.part c.loop-part.open.items
          c.loop-part.invariant.path l c.in-Err.ensures.missing.1);
      steps = c.loop-part.invariant.steps;
    }

pub form_from-requires-clause-parts : goal.form_from-requires-clause-parts
form_from-requires-clause-parts g c =
    let s = c.args.forms.now in
    let ns = g.N.Nodes.nodes c.args.nodes.now in
    let ps = polynomials s c.args.ints.now in
    let u = updates_held s c.args.memory in
    let look = get nat_eq c.loop-part.self.made in
    let k = c.loop-part.k in
    parts_sorts ps u ns c.requires.nodes c.loop-part.self.made c.loop-part.forms
    (c.loop-part.invariant.made c.requires.nodes) k c.node.result.scope c.node.result.shape c.in-Ok.parts
    (c.requires.nodes.each k c.node.result c.node.ensures).shape c.in-Ok.ensures.made

pub form_from-requires-clause-ints : goal.form_from-requires-clause-ints
form_from-requires-clause-ints g c = integers_kept c.args.forms.now c.loop-part.forms c.args.ints.now
    c.loop-part.invariant.kept c.requires.ints

pub form_from-requires-clause-memory : goal.form_from-requires-clause-memory
form_from-requires-clause-memory g c = c.loop-part.invariant.kept.memories_stay c.args.memory c.requires.memory

pub returns-in_err-form-in-Ok-clause-steps : goal.returns-in_err-form-in-Ok-clause-steps
returns-in_err-form-in-Ok-clause-steps g c =
    let s = c.args.forms.now in
    let ns = g.N.Nodes.nodes c.args.nodes.now in
    let ps = polynomials s c.args.ints.now in
    let u = updates_held s c.args.memory in
    let look = get nat_eq c.loop-part.self.made in
    let k = c.loop-part.k in
    let r = parts_count ps u ns c.requires.nodes c.loop-part.self.made c.loop-part.forms
    (c.loop-part.invariant.made c.requires.nodes) k c.node.result.scope c.node.result.shape c.in-Ok.parts
    (c.requires.nodes.each k c.node.result c.node.ensures).shape c.in-Ok.ensures.made in
    let x = steps_more (g.M.Meter.counted c.loop-part.meter) (g.M.Meter.counted c.form_from.new.meter)
    (g.M.Meter.counted c.args.meter.now) (count look (c.args.n + 1)) (updates u)
    (updates_of_parts c.loop-part.forms c.in-Ok.parts) k c.args.n c.loop-part.invariant.steps
    (omega (arith, c.form_from.ensures.steps, c.take.ensures)) r (omega (arith, c.loop-part.invariant.path.near)) in
    let l = count_less look c.args.memory c.args.n k c.loop-part.open.items c.loop-part.invariant.path in
    steps_all (g.M.Meter.counted c.form_from.new.meter) (g.M.Meter.counted c.args.meter.now)
    (count look (c.args.n + 1) + 1) c.args.n (1 + updates u + c.args.n)
    x l

pub returns-in-Err-insert-clause-steps : goal.returns-in-Err-insert-clause-steps
returns-in-Err-insert-clause-steps g c =
    let s = c.args.forms.now in
    let ns = g.N.Nodes.nodes c.args.nodes.now in
    let ps = polynomials s c.args.ints.now in
    let u = updates_held s c.args.memory in
    let look = get nat_eq c.loop-part.self.made in
    let k = c.loop-part.k in
    let r = parts_count ps u ns c.requires.nodes c.loop-part.self.made c.loop-part.forms
    (c.loop-part.invariant.made c.requires.nodes) k c.node.result.scope c.node.result.shape c.in-Ok.parts
    (c.requires.nodes.each k c.node.result c.node.ensures).shape c.in-Ok.ensures.made in
    let x = steps_more (g.M.Meter.counted c.loop-part.meter) (g.M.Meter.counted c.form_from.new.meter)
    (g.M.Meter.counted c.args.meter.now) (count look (c.args.n + 1)) (updates u)
    (updates_of_parts c.loop-part.forms c.in-Ok.parts) k c.args.n c.loop-part.invariant.steps
    (omega (arith, c.form_from.ensures.steps, c.take.ensures)) r (omega (arith, c.loop-part.invariant.path.near)) in
    let l = count_less look c.args.memory c.args.n k c.loop-part.open.items c.loop-part.invariant.path in
    steps_all (g.M.Meter.counted c.form_from.new.meter) (g.M.Meter.counted c.args.meter.now)
    (count look (c.args.n + 1) + 1) c.args.n (1 + updates u + c.args.n)
    x l

pub loop-part-smaller : goal.loop-part-smaller
loop-part-smaller g c =
    let s = c.args.forms.now in
    let ns = g.N.Nodes.nodes c.args.nodes.now in
    let ps = polynomials s c.args.ints.now in
    let u = updates_held s c.args.memory in
    let look = get nat_eq c.loop-part.self.made in
    let k = c.loop-part.k in
    let l = count_less look c.args.memory c.args.n k c.loop-part.open.items c.loop-part.invariant.path in
    let m = count_more look (get nat_eq c.insert.new.self) c.in_ok-form-in-Ok.form k (c.args.n + 1)
    (omega (arith, c.loop-part.invariant.path.near)) c.loop-part.invariant.path.absent
    c.in-Ok-insert.ensures.updates.0 in
    let z = ap length c.in-Some.ensures.items in
    omega (arith, l, m, z, c.loop-part.invariant.path.near, length-append c.pop.new.self.items (c.in-Some.above ∷ []))

pub loop-part-preserved : goal.loop-part-preserved
loop-part-preserved g c =
    let s = c.args.forms.now in
    let ns = g.N.Nodes.nodes c.args.nodes.now in
    let ps = polynomials s c.args.ints.now in
    let u = updates_held s c.args.memory in
    let look = get nat_eq c.loop-part.self.made in
    let k = c.loop-part.k in
    let e : polynomials c.loop-part.forms c.args.ints.now
    ≡ ps = polynomials_kept s c.loop-part.forms c.args.ints.now c.loop-part.invariant.kept c.requires.ints in
    let v : updates_held c.loop-part.forms c.args.memory
    ≡ u = c.loop-part.invariant.kept.updates_stay c.args.memory c.requires.memory in
    let st = c.loop-part.invariant.made c.requires.nodes in
    let t : held c.form_from.new.forms c.in_ok-form-in-Ok.form
    ≡ Some (form_of_parts ps u c.loop-part.forms c.in-Ok.parts) = rw (e, v) at c.in_ok-form-in-Ok.ensures.form in
    let f : held c.form_from.new.forms c.in_ok-form-in-Ok.form ≡ Some (form_under ps u (tree_at ns k)) = t
    ∙ ap Some (node_made ps u ns c.requires.nodes c.loop-part.self.made c.loop-part.forms st k c.node.result
    c.in-Ok.parts c.node.ensures c.in-Ok.ensures.made) in
    let r = parts_count ps u ns c.requires.nodes c.loop-part.self.made c.loop-part.forms
    (c.loop-part.invariant.made c.requires.nodes) k c.node.result.scope c.node.result.shape c.in-Ok.parts
    (c.requires.nodes.each k c.node.result c.node.ensures).shape c.in-Ok.ensures.made in
    let x = steps_more (g.M.Meter.counted c.loop-part.meter) (g.M.Meter.counted c.form_from.new.meter)
    (g.M.Meter.counted c.args.meter.now) (count look (c.args.n + 1)) (updates u)
    (updates_of_parts c.loop-part.forms c.in-Ok.parts) k c.args.n c.loop-part.invariant.steps
    (omega (arith, c.form_from.ensures.steps, c.take.ensures)) r (omega (arith, c.loop-part.invariant.path.near)) in
    let l = count_less look c.args.memory c.args.n k c.loop-part.open.items c.loop-part.invariant.path in
    let m = count_more look (get nat_eq c.insert.new.self) c.in_ok-form-in-Ok.form k (c.args.n + 1)
    (omega (arith, c.loop-part.invariant.path.near)) c.loop-part.invariant.path.absent
    c.in-Ok-insert.ensures.updates.0 in
    record {
      kept = keeps_both s c.loop-part.forms c.form_from.new.forms c.loop-part.invariant.kept c.form_from.ensures.kept;
      made = λ h. stands_more ps u ns h c.form_from.new.forms look (get nat_eq c.insert.new.self) k
          c.in_ok-form-in-Ok.form (stands_kept ps u ns h c.loop-part.forms c.form_from.new.forms look
          c.form_from.ensures.kept (c.loop-part.invariant.made h)) f c.in-Ok-insert.ensures.updates.0;
      path = path_pop look (get nat_eq c.insert.new.self) c.in_ok-form-in-Ok.form c.args.n k c.in-Some.above
          c.loop-part.open.items c.pop.new.self.items c.loop-part.invariant.path c.in-Some.ensures.items
          c.in-Ok-insert.ensures.updates.0;
      steps = rw m x;
    }

pub returns-in-None-clause-form : goal.returns-in-None-clause-form
returns-in-None-clause-form g c =
    let s = c.args.forms.now in
    let ns = g.N.Nodes.nodes c.args.nodes.now in
    let ps = polynomials s c.args.ints.now in
    let u = updates_held s c.args.memory in
    let look = get nat_eq c.loop-part.self.made in
    let k = c.loop-part.k in
    let e : polynomials c.loop-part.forms c.args.ints.now
    ≡ ps = polynomials_kept s c.loop-part.forms c.args.ints.now c.loop-part.invariant.kept c.requires.ints in
    let v : updates_held c.loop-part.forms c.args.memory
    ≡ u = c.loop-part.invariant.kept.updates_stay c.args.memory c.requires.memory in
    let st = c.loop-part.invariant.made c.requires.nodes in
    let t : held c.form_from.new.forms c.in_ok-form-in-Ok.form
    ≡ Some (form_of_parts ps u c.loop-part.forms c.in-Ok.parts) = rw (e, v) at c.in_ok-form-in-Ok.ensures.form in
    let f : held c.form_from.new.forms c.in_ok-form-in-Ok.form ≡ Some (form_under ps u (tree_at ns k)) = t
    ∙ ap Some (node_made ps u ns c.requires.nodes c.loop-part.self.made c.loop-part.forms st k c.node.result
    c.in-Ok.parts c.node.ensures c.in-Ok.ensures.made) in
    let z : k ≡ c.args.n = path_end look c.args.n k c.loop-part.open.items c.loop-part.invariant.path
    (omega (arith, c.in-None.ensures.cases.0, c.loop-part.open.ok.0)) in
    rw z at f

pub returns-in-None-clause-steps : goal.returns-in-None-clause-steps
returns-in-None-clause-steps g c =
    let s = c.args.forms.now in
    let ns = g.N.Nodes.nodes c.args.nodes.now in
    let ps = polynomials s c.args.ints.now in
    let u = updates_held s c.args.memory in
    let look = get nat_eq c.loop-part.self.made in
    let k = c.loop-part.k in
    let r = parts_count ps u ns c.requires.nodes c.loop-part.self.made c.loop-part.forms
    (c.loop-part.invariant.made c.requires.nodes) k c.node.result.scope c.node.result.shape c.in-Ok.parts
    (c.requires.nodes.each k c.node.result c.node.ensures).shape c.in-Ok.ensures.made in
    let x = steps_more (g.M.Meter.counted c.loop-part.meter) (g.M.Meter.counted c.form_from.new.meter)
    (g.M.Meter.counted c.args.meter.now) (count look (c.args.n + 1)) (updates u)
    (updates_of_parts c.loop-part.forms c.in-Ok.parts) k c.args.n c.loop-part.invariant.steps
    (omega (arith, c.form_from.ensures.steps, c.take.ensures)) r (omega (arith, c.loop-part.invariant.path.near)) in
    let l = count_less look c.args.memory c.args.n k c.loop-part.open.items c.loop-part.invariant.path in
    steps_all (g.M.Meter.counted c.form_from.new.meter) (g.M.Meter.counted c.args.meter.now)
    (count look (c.args.n + 1) + 1) c.args.n (1 + updates u + c.args.n)
    x l

pub loop-part-init : goal.loop-part-init
loop-part-init g c =
    let s = c.args.forms.now in
    record {
      kept = keeps_itself s s refl;
      made = λ h. stands_from (g.N.Nodes.nodes c.args.nodes.now) s c.args.ints.now c.args.memory c.args.self.now h
          c.requires.made;
      path = path_first (get nat_eq c.args.self.now.made) c.args.n _ c.new-open.ensures.items c.requires.absent;
      steps = omega arith;
    }

pub returns-in-Err-push-clause-made : goal.returns-in-Err-push-clause-made
returns-in-Err-push-clause-made g c =
    let s = c.args.forms.now in
    let ns = g.N.Nodes.nodes c.args.nodes.now in
    remembered ns s c.loop-part.forms c.args.ints.now c.args.memory c.loop-part.self c.requires.nodes
    c.loop-part.invariant.kept c.requires.ints c.requires.memory (c.loop-part.invariant.made c.requires.nodes)

pub returns-in_err-form-in-Ok-clause-made : goal.returns-in_err-form-in-Ok-clause-made
returns-in_err-form-in-Ok-clause-made g c =
    let s = c.args.forms.now in
    let ns = g.N.Nodes.nodes c.args.nodes.now in
    let r = remembered ns s c.loop-part.forms c.args.ints.now c.args.memory c.loop-part.self c.requires.nodes
    c.loop-part.invariant.kept c.requires.ints c.requires.memory (c.loop-part.invariant.made c.requires.nodes) in
    remembers_kept ns c.loop-part.forms c.form_from.new.forms c.args.ints.now c.args.memory c.loop-part.self
    c.form_from.ensures.kept (integers_kept s c.loop-part.forms c.args.ints.now c.loop-part.invariant.kept
    c.requires.ints) (c.loop-part.invariant.kept.memories_stay c.args.memory c.requires.memory) r

pub returns-in-Err-insert-clause-made : goal.returns-in-Err-insert-clause-made
returns-in-Err-insert-clause-made g c =
    let s = c.args.forms.now in
    let ns = g.N.Nodes.nodes c.args.nodes.now in
    let r = remembered ns s c.loop-part.forms c.args.ints.now c.args.memory c.loop-part.self c.requires.nodes
    c.loop-part.invariant.kept c.requires.ints c.requires.memory (c.loop-part.invariant.made c.requires.nodes) in
    let q = remembers_kept ns c.loop-part.forms c.form_from.new.forms c.args.ints.now c.args.memory c.loop-part.self
    c.form_from.ensures.kept (integers_kept s c.loop-part.forms c.args.ints.now c.loop-part.invariant.kept
    c.requires.ints) (c.loop-part.invariant.kept.memories_stay c.args.memory c.requires.memory) r in
    remembers_same ns c.form_from.new.forms c.args.ints.now c.args.memory c.loop-part.self _ c.in-Err-insert.ensures.err
    q

pub returns-in-None-clause-made : goal.returns-in-None-clause-made
returns-in-None-clause-made g c =
    let s = c.args.forms.now in
    let ns = g.N.Nodes.nodes c.args.nodes.now in
    let ps = polynomials s c.args.ints.now in
    let u = updates_held s c.args.memory in
    let look = get nat_eq c.loop-part.self.made in
    let k = c.loop-part.k in
    let e : polynomials c.loop-part.forms c.args.ints.now
    ≡ ps = polynomials_kept s c.loop-part.forms c.args.ints.now c.loop-part.invariant.kept c.requires.ints in
    let v : updates_held c.loop-part.forms c.args.memory
    ≡ u = c.loop-part.invariant.kept.updates_stay c.args.memory c.requires.memory in
    let st = c.loop-part.invariant.made c.requires.nodes in
    let t : held c.form_from.new.forms c.in_ok-form-in-Ok.form
    ≡ Some (form_of_parts ps u c.loop-part.forms c.in-Ok.parts) = rw (e, v) at c.in_ok-form-in-Ok.ensures.form in
    let f : held c.form_from.new.forms c.in_ok-form-in-Ok.form ≡ Some (form_under ps u (tree_at ns k)) = t
    ∙ ap Some (node_made ps u ns c.requires.nodes c.loop-part.self.made c.loop-part.forms st k c.node.result
    c.in-Ok.parts c.node.ensures c.in-Ok.ensures.made) in
    let h = c.requires.nodes in
    let kept = keeps_both s c.loop-part.forms c.form_from.new.forms c.loop-part.invariant.kept c.form_from.ensures.kept
    in
    remembered ns s c.form_from.new.forms c.args.ints.now c.args.memory _ h kept c.requires.ints c.requires.memory
    (stands_more ps u ns h c.form_from.new.forms look (get nat_eq c.insert.new.self) k c.in_ok-form-in-Ok.form
    (stands_kept ps u ns h c.loop-part.forms c.form_from.new.forms look c.form_from.ensures.kept st) f
    c.in-Ok-insert.ensures.updates.0)

pub returns-in_err-take-in-Ok-clause-made : goal.returns-in_err-take-in-Ok-clause-made
returns-in_err-take-in-Ok-clause-made g c =
    let s = c.args.forms.now in
    let ns = g.N.Nodes.nodes c.args.nodes.now in
    remembered ns s c.loop-part.forms c.args.ints.now c.args.memory c.loop-part.self c.requires.nodes
    c.loop-part.invariant.kept c.requires.ints c.requires.memory (c.loop-part.invariant.made c.requires.nodes)

pub returns-in_err-take-in-Ok-clause-steps : goal.returns-in_err-take-in-Ok-clause-steps
returns-in_err-take-in-Ok-clause-steps g c =
    let s = c.args.forms.now in
    let u = updates_held s c.args.memory in
    let look = get nat_eq c.loop-part.self.made in
    let x = steps_more (g.M.Meter.counted c.loop-part.meter) (g.M.Meter.counted c.take.new.self)
    (g.M.Meter.counted c.args.meter.now) (count look (c.args.n + 1)) (updates u) 0 c.loop-part.k c.args.n
    c.loop-part.invariant.steps (omega (arith, c.take.ensures)) (omega arith)
    (omega (arith, c.loop-part.invariant.path.near)) in
    let l = count_less look c.args.memory c.args.n c.loop-part.k c.loop-part.open.items c.loop-part.invariant.path in
    steps_all (g.M.Meter.counted c.take.new.self) (g.M.Meter.counted c.args.meter.now) (count look (c.args.n + 1) + 1)
    c.args.n (1 + updates u + c.args.n) x l
