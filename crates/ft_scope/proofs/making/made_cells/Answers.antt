use Rattle.std.proofs.Common.{◌+◌, get_or, take, drop, map, sym, ap, ◌∙◌, subst, arith}
use Rattle.ft_syntax.specs.Syntax.{declared, declared_list}
use Rattle.ft_syntax.proofs.DeclaredLists.{declared_empty}
use Rattle.ft_scope.specs.Scope.{wrong_length, cell_texts, cell_places, cell_words}
use Rattle.ft_scope.specs.Made.{Made}
use Rattle.ft_scope.proofs.DeclaredNames.{declared_drop, declared_take, outside}
use Rattle.ft_scope.proofs.MadeCells.{wrong_parts}
use Rattle.ft_scope.proofs.making.made_cells.Goals as goal

pub loop-d-init : goal.loop-d-init
loop-d-init c = record {
  made = record {
    names = ap (map (λ r. r.now)) c.new.ensures.items ∙ ap cell_texts (sym declared_empty);
    places = c.new-2.ensures.items ∙ ap cell_places (sym declared_empty);
    inits = c.new-3.ensures.items ∙ ap cell_words (sym declared_empty);
  };
  fine = c.requires;
}

pub declare-requires : goal.declare-requires
declare-requires c =
    let all = c.args.decls.now in
    let i = c.loop-d.d-index in
    (wrong_parts (declared (get_or all i outside)) (declared_list (drop (i + 1) all))
    (sym (ap wrong_length (declared_drop all i outside (omega arith))) ∙ c.loop-d.invariant.fine)).0

pub loop-d-preserved : goal.loop-d-preserved
loop-d-preserved c =
    let all = c.args.decls.now in
    let i = c.loop-d.d-index in
    record {
      made = subst (Made c.declare.new.self) (sym (declared_take all i outside (omega arith)))
          (c.in_default.ensures.ok (declared_list (take i all)) c.loop-d.invariant.made);
      fine = (wrong_parts (declared (get_or all i outside)) (declared_list (drop (i + 1) all))
          (sym (ap wrong_length (declared_drop all i outside (omega arith))) ∙ c.loop-d.invariant.fine)).1;
    }
