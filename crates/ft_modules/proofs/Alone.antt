-- A module is refused only because of totals, and never if it is the only module.
use Rattle.std.proofs.Common.{◌≡◌, ℕ, ◌+◌, true, ◌&&◌, List, [], ◌∷◌, ◌++◌, None, refl, ap, ◌∙◌, subst, arith}
use Rattle.std.specs.List.{list_all}
use Rattle.std.specs.Option.{option_or, option_map}
use Rattle.std.specs.FinMap as finite
use Rattle.std.proofs.lemmas.Bool.{and_from}
use Rattle.ft_types.specs.declared.object.Object.{Object}
use Rattle.ft_types.specs.declared.object.Cell.{Cell}
use Rattle.ft_types.specs.Objects.{block_instrs}
use Rattle.ft_modules.specs.CodeWalk.{code_walk}
use Rattle.ft_modules.specs.Linkable.{IsModule, AreFew}
use Rattle.ft_modules.specs.LinkRefusals.{Cells, Rows, CodeOf, TooBig, same_cells, is_plain_cell, has_plain_rows}
use Rattle.ft_modules.specs.LinkRefusals.{first_walk_fault, are_few, unless, module_refusal, modules_refusal}
use Rattle.ft_modules.proofs.Deciding.{are_cells, are_plain_cells, are_plain_rows, or_none, walk_without_fault}
use Rattle.ft_modules.proofs.Deciding.{are_few_of}

-- a module is refused only because of totals
pub totals_alone : (cells : List Cell) (o : Object) → IsModule cells o → (earlier : List Object) (m : ℕ) →
    module_refusal earlier m cells o ≡ unless (are_few (earlier ++ o ∷ [])) (TooBig m)
totals_alone cells o h earlier m =
    let same : (same_cells o.cells cells && list_all is_plain_cell o.cells)
    ≡ true = and_from _ _ (are_cells o.cells cells h.same_cells) (are_plain_cells o.cells h.plain_cells) in
    let rows : list_all has_plain_rows o.types ≡ true = are_plain_rows o.types h.plain_rows in
    let walk : first_walk_fault o 0 o.blocks ≡ None = walk_without_fault o 0 o.blocks (λ n lt. let here : n
    ≡ 0 + n = omega arith in subst (λ k. code_walk o finite.empty 0 (block_instrs o k) ≡ None) here (h.walked n lt))
    in
    λ j.
    option_or (unless (same j) (Cells m)) (
    option_or (unless (rows j) (Rows m)) (
    option_or (option_map (λ f. CodeOf m f.0 f.1) (walk j)) (
    unless (are_few (earlier ++ o ∷ [])) (TooBig m))))

-- the totals of a single module are within the limits
few_alone : (cells : List Cell) (o : Object) → IsModule cells o → AreFew (o ∷ [])
few_alone cells o h =
    let s = h.spelled in
    record {
      nodes = (let f = s.nodes.few in omega arith);
      types = (let f = s.few_types in omega arith);
      reg_rows = (let f = s.few_reg_rows in omega arith);
      queue_rows = (let f = s.few_queue_rows in omega arith);
      blocks = (let f = s.few_blocks in omega arith);
      instrs = (let f = s.few_instrs in omega arith);
      substs = (let f = s.few_substs in omega arith);
    }

-- a single module is not refused
pub not_alone : (o : Object) → IsModule o.cells o → modules_refusal [] 0 o.cells (o ∷ []) ≡ None
unfolding modules_refusal
not_alone o h = or_none _ _ (totals_alone o.cells o h [] 0
    ∙ ap (λ b. unless b (TooBig 0)) (are_few_of (o ∷ []) (few_alone o.cells o h))) refl
