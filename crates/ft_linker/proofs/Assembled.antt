-- An object with the right parts is the linked object.
use Rattle.std.proofs.Common.{◌≡◌, List, ◌∷◌, map, ◌∙◌, ap}
use Rattle.std.specs.Prelude.{find}
use Rattle.ft_types.specs.declared.object.Object.{Object}
use Rattle.ft_link_map.specs.declared.link_map.LinkMap.{LinkMap}
use Rattle.ft_modules.specs.Linked.{blocks_part, change_of, changed_instr, entry_by, instrs_part, laid, linked}
use Rattle.ft_modules.specs.Linked.{nodes_part, nothing_before, substs_part, types_part}
use Rattle.ft_modules.specs.Links.{Link, links}
use Rattle.ft_linker.specs.Joins.{is_from}

pub put_is : (linkage : LinkMap) (ms : List Object) (first : Object) (others : List Object) (ls : List Link)
    (o : Object) → ms ≡ first ∷ others → ls ≡ links linkage
    → o.cells ≡ first.cells
    → o.nodes ≡ laid nodes_part nothing_before ms
    → o.types ≡ laid types_part nothing_before ms
    → o.blocks ≡ laid blocks_part nothing_before ms
    → o.instrs ≡ map (changed_instr (map (change_of ms) ls)) (laid instrs_part nothing_before ms)
    → o.substs ≡ laid substs_part nothing_before ms
    → o.entry ≡ entry_by ms first.entry (find (is_from first.entry) ls)
    → o ≡ linked linkage first others
put_is linkage ms first others ls o e l cells nodes types blocks instrs substs entry = λ i. record {
  cells = cells i;
  nodes = (nodes ∙ ap (laid nodes_part nothing_before) e) i;
  types = (types ∙ ap (laid types_part nothing_before) e) i;
  blocks = (blocks ∙ ap (laid blocks_part nothing_before) e) i;
  instrs = (instrs ∙ (λ j. map (changed_instr (map (change_of (e j)) (l j))) (laid instrs_part nothing_before (e j))))
      i;
  substs = (substs ∙ ap (laid substs_part nothing_before) e) i;
  entry = (entry ∙ (λ j. entry_by (e j) first.entry (find (is_from first.entry) (l j)))) i;
}
