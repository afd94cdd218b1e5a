-- Each object that carries well-formed blocks runs as they do, from the start on.
use Rattle.std.proofs.Common.{◌≡◌, ℕ, [], ◌∷◌, length, Some, None, inl, inr, refl, sym, ap, ◌∙◌, subst, arith}
use Rattle.std.proofs.Common.{slice_get}
use Rattle.std.specs.List.{All}
use Rattle.std.specs.Option.{option_map, unwrap_or}
use Rattle.std.proofs.lemmas.Bool.{ne_eqb}
use Rattle.std.proofs.lemmas.List.{length-map}
use Rattle.std.proofs.lemmas.Option.{slice_get-map, slice_get_cases, slice_get_within}
use Rattle.ft_simulation.proofs.Steps.{iterate}
use Rattle.ft_isa.specs.Words.{cell_address, code_address}
use Rattle.ft_types.specs.declared.object.Object.{Object}
use Rattle.ft_types.specs.Objects.{start_of as start_of_block, block_start, entry_address, cell_head_of, init_or_zero}
use Rattle.ft_types.specs.Objects.{init_of}
use Rattle.ft_semantics.specs.State.{tabulate, green_zero}
use Rattle.ft_semantics.proofs.Tabulated.{cells_tell, tabulated, untabulated}
use Rattle.ft_semantics.specs.Run.{run}
use Rattle.ft_lower.specs.Flow.{Blocks, block_of, steps, flow_start}
use Rattle.ft_lower.specs.Size.{pairs_of}
use Rattle.ft_lower.specs.Well.{no_pair, IsWell}
use Rattle.ft_dup.specs.Images.{starts}
use Rattle.ft_dup.specs.Doubles.{init_of_cell, words_of, Carries, cost, RunsAs}
use Rattle.ft_dup.proofs.WellFormedBlocks.{first_start, block_is}
use Rattle.ft_dup.proofs.Stretches.{machine_step, run_is, spot, stands, ran}
use Rattle.ft_dup.proofs.Pairs.{CellsHold}
use Rattle.ft_dup.proofs.FlowSteps.{Below}
use Rattle.ft_dup.proofs.Following.{no_known, Agrees, At, Beside, standing, agrees, follow, pace}

-- THE START

-- the cells hold the initial words
start_cells : (o : Object) → CellsHold (tabulate (length o.cells) cell_address (init_of o)) (words_of o)
start_cells o = λ c. elim (slice_get_cases o.cells c).1 [
  | inl x ↦ tabulated (length o.cells) cell_address cells_tell (init_of o) c (slice_get_within o.cells c x.0 x.2)
      ∙ ap (λ u. Some (init_or_zero (option_map cell_head_of u))) x.2
      ∙ sym (slice_get-map init_of_cell o.cells c ∙ ap (option_map init_of_cell) x.2)
  | inr e ↦
      let past = e.0 in
      untabulated (length o.cells) cell_address (init_of o) (cell_address c) (λ i lt. cells_tell c i
      ∙ ne_eqb c i (λ is. omega (arith, is, lt, past)))
      ∙ sym (slice_get-map init_of_cell o.cells c ∙ ap (option_map init_of_cell) e.1)
]

-- the run begins at the first instruction
start_counter : (o : Object) (cells : ℕ) (bs : Blocks) → Carries o cells bs → entry_address o ≡ 1
start_counter o cells bs C =
    let first_block : block_start o 0 ≡ 0 =
    ap (λ u. unwrap_or u 0) (sym (slice_get-map start_of_block o.blocks 0) ∙ ap (λ l. slice_get l 0) C.blocks)
    ∙ first_of bs in
    ap (λ b. code_address (block_start o b)) C.entry ∙ ap code_address first_block
  where
    first_of : (bs : Blocks) → unwrap_or (slice_get (starts bs) 0) 0 ≡ 0
    first_of [] = refl
    first_of (b ∷ bs) = refl

-- THE WHOLE

-- each object that carries well-formed blocks runs as they do
pub runs_as : (vars cells : ℕ) (bs : Blocks) → IsWell vars cells bs → RunsAs vars cells bs
unfolding run
runs_as vars cells bs W o C wild =
    let f = flow_start (words_of o) in
    let m = tabulate 64 (λ r. r) (λ _. green_zero) in
    let c = tabulate (length o.cells) cell_address (init_of o) in
    let at : run o None wild 0 ≡ spot 0 m 0 [] c wild [] =
    ap (λ x. ran (stands x m 0 [] c) wild []) (start_counter o cells bs C) in
    let A : At o vars cells bs W C wild f 0 m c [] (block_of bs 0) no_pair = record {
      within = W.some;
      is = refl;
      index = refl;
      ended = W.ended 0 W.some;
      well = W.rows 0 W.some;
      pairs = subst (All (λ s. Below (pairs_of s))) (sym (block_is bs 0 W.some)) (W.pairs 0 [] W.some);
      walked = refl;
      number = omega (arith, first_start bs);
      holds = λ q e. absurd (no_known e);
      memory = start_cells o;
      fine = record { many = length-map o.cells init_of_cell ∙ C.many; words = C.words; running = refl };
    } in
    let B : Beside o vars cells bs W C wild f (spot 0 m 0 [] c wild []) = standing 0 m c [] (block_of bs 0) no_pair A in
    record {
      after = λ k.
          let n = cost bs k f in
          let g = steps bs k f in
          let h = subst (Agrees vars bs g) (sym (run_is o wild n ∙ ap (iterate (machine_step o) n) at))
          (agrees o vars cells bs W C wild g _ (follow o vars cells bs W C wild k f _ B)) in
          record { out = h.out; cells = h.cells; status = h.status; holds = h.holds };
      pace = λ k. pace o vars cells bs W C wild k f _ B;
    }
