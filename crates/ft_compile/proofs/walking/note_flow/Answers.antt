-- The next block is the first of those that are left.
use Rattle.std.proofs.Common.{◌<◌, [], refl, sym, ap, ◌∙◌, subst}
use Rattle.std.specs.List.{All}
use Rattle.std.proofs.lemmas.List.Elements.{All-head}
use Rattle.ft_lower.specs.Cutting.{blocks_of, blocks_onto}
use Rattle.ft_lower.specs.Size.{PairsBelow, blocks_size, pairs_of}
use Rattle.ft_compile.specs.Emitted.{at_first}
use Rattle.ft_compile.specs.Noted.{blocks_noted, row_noted}
use Rattle.ft_compile.specs.Viewed.{HasRoom, noted_of}
use Rattle.ft_compile.proofs.Turns.{room_at_first, block_turn}
use Rattle.ft_compile.proofs.walking.note_flow.Goals as goal

pub loop-left-init : goal.loop-left-init
loop-left-init c =
    let w = noted_of c.in_ok-notes.notes in
    let e = c.as_slice-left.ensures.value in
    record {
      block = 0;
      same = ap (λ v. blocks_noted c.args.flow.now.vars 0 v (blocks_onto [] c.as_slice-left.result.now))
          c.in_ok-notes.ensures
          ∙ ap (λ l. blocks_noted c.args.flow.now.vars 0 (at_first c.args.flow.now.vars) (blocks_onto [] l)) e;
      scoped = refl;
      pairs = subst (λ l. PairsBelow 32 (blocks_onto [] l)) (sym e) c.requires.pairs;
      room = subst (λ l. HasRoom w (blocks_size (blocks_onto [] l))) (sym e)
          (room_at_first w c.args.flow.now.vars (blocks_of c.args.flow.now) c.in_ok-notes.ensures c.requires.vars
          c.requires.short);
    }

pub note_row-requires-clause-pairs : goal.note_row-requires-clause-pairs
note_row-requires-clause-pairs c =
    All-head (All (λ i. All (λ p. p < 32) (pairs_of i))) _ _
    (subst (PairsBelow 32) c.next_block.ensures.blocks c.loop-left.invariant.pairs)

pub loop-left-preserved : goal.loop-left-preserved
loop-left-preserved c =
    block_turn c.args.flow.now.vars c.loop-left.scope (noted_of c.loop-left.notes) (noted_of c.note_row.new.notes) _
    (blocks_onto [] c.loop-left.left.now) _ _ c.requires.vars c.next_block.ensures.blocks
    (c.in_ok-note_row.ensures ∙ ap (λ w. row_noted c.args.flow.now.vars c.loop-left.scope w c.next_block.result.0.now)
    c.begin.ensures)
    c.loop-left.invariant
