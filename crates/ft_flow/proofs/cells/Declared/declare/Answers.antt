use Rattle.std.proofs.Common.{◌≡◌, ◌+◌, ◌≤◌, true, length, map, sym, ap, ◌∙◌, subst, arith, rules}
use Rattle.std.specs.Prelude.{IfSome}
use Rattle.std.proofs.lemmas.List.{length-map}
use Rattle.ft_flow.specs.DeclaredAt.{declared_at}
use Rattle.ft_flow.specs.Fields.{index_of, is_plain_name}
use Rattle.ft_flow.specs.Heads.{many_fit}
use Rattle.ft_flow.specs.Lawful.{IsLawful}
use Rattle.ft_flow.specs.RowsAt.{declaration_at}
use Rattle.ft_flow.proofs.Lawfulness.{more_lawful}
use Rattle.ft_flow.proofs.cells.Declared.declare.Goals as goal

pub returns-in-Ok-add-clause-lawful : goal.returns-in-Ok-add-clause-lawful
returns-in-Ok-add-clause-lawful c = λ L.
    let d = declared_at c.args.self.now in
    let t = declaration_at c.in-Some.said in
    let plain : is_plain_name t.name ≡ true = search rules in
    let at : c.index_of.result ≡ index_of d.names t.name =
    c.index_of.ensures ∙ ap (λ l. index_of (map (λ n. n.now) l) t.name) c.deref.ensures.value in
    let count : length d.names ≡ length c.args.self.now.names.items = length-map c.args.self.now.names.items (λ r.
    r.now) in
    let past = c.if-index_of-len.false in
    let long : c.len.result ≡ length c.args.self.now.names.items = search rules in
    let new : length d.names ≤ index_of d.names t.name = omega (arith, at, count, past, long) in
    let few : length d.inits + length t.words ≤ 1024 =
    (let a = c.if-len-gt-MOST_CELLS.false in
    let b = c.if-len.false in
    let e : c.len-2.result ≡ length d.inits = search rules in
    let f : c.len-else-len-gt-MOST_CELLS.result ≡ length t.words = search rules in
    let g : c.len-else-len-gt-MOST_CELLS-2.result ≡ length d.inits = search rules in
    omega (arith, a, b, e, f, g)) in
    let many : many_fit t.array (length t.words) ≡ true =
    subst (λ o. IfSome o (λ s. many_fit s.array (length s.words.items) ≡ true)) c.in-Some.is c.in-Ok.ensures.many in
    subst IsLawful (sym c.in-Ok-add.ensures) (more_lawful d t L plain new many few)
