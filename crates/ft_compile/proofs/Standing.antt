-- An object that stands for a program still does so with other initial words in its cells.
use Rattle.std.proofs.Common.{◌≡◌, ◌≢◌, ℕ, List, length, sym, ap, ◌∙◌, subst, arith}
use Rattle.std.specs.Prelude.{All}
use Rattle.std.specs.List.{AllPairs}
use Rattle.std.proofs.lemmas.List.{length-map}
use Rattle.ft_isa.specs.Words.{IsWord}
use Rattle.ft_isa.proofs.Lists.{all_there}
use Rattle.ft_types.specs.declared.object.Object.{Object}
use Rattle.ft_types.specs.Objects.{block_instrs}
use Rattle.ft_types.specs.Spellable.{IsCell, IsInstr, IsSpellable}
use Rattle.ft_typing.specs.TypedWord.{HasType}
use Rattle.ft_typing.specs.Context.{Context}
use Rattle.ft_typing.specs.Accepted.{Applies, IsAccepted}
use Rattle.ft_typing.proofs.SameTables.{start_same, applies_same}
use Rattle.ft_scope.specs.Resolved.{Program}
use Rattle.ft_scope.specs.InitialWords.{program_with_words}
use Rattle.ft_dup.specs.Doubles.{init_of_cell, IsIntCell}
use Rattle.ft_types.specs.InitialWords.{object_with_words}
use Rattle.ft_compile.specs.StandsFor.{RunsAsMeant, StandsFor}
use Rattle.ft_compile.specs.Laws.{AllWordsStand}
use Rattle.ft_compile.proofs.OtherWords.{many_with, names_with, types_with, words_with, words_again, all_with}

-- an object that can be spelled still can be
spellable_with : (o : Object) (ws : List ℕ) → All IsWord ws → IsSpellable o → IsSpellable (object_with_words o ws)
spellable_with o ws fit h =
    let l = many_with o.cells ws in
    record {
      few_cells = (let g = h.few_cells in omega (arith, l, g));
      cells = all_with (IsCell (length o.types)) o.cells ws (λ c w word r. record {
        name = r.name;
        name_length = r.name_length;
        basic = r.basic;
        init = word;
      }) fit h.cells;
      names_differ = subst (AllPairs (λ x y. x ≢ y)) (sym (names_with o.cells ws)) h.names_differ;
      nodes = h.nodes;
      some_type = h.some_type;
      few_types = h.few_types;
      few_reg_rows = h.few_reg_rows;
      few_queue_rows = h.few_queue_rows;
      types = h.types;
      few_blocks = h.few_blocks;
      first_block = h.first_block;
      blocks = h.blocks;
      block_types = h.block_types;
      some_instr = h.some_instr;
      few_instrs = h.few_instrs;
      instrs = subst (λ n. All (IsInstr (length o.types) n) o.instrs) (sym l) h.instrs;
      few_substs = h.few_substs;
      covered = h.covered;
      substs = h.substs;
      entry = h.entry;
    }

-- an object with cells of type `int` is accepted with any initial words if it is accepted with its own
accepted_with : (o : Object) (ws : List ℕ) → All IsIntCell o.cells → All IsWord ws → IsAccepted o →
    IsAccepted (object_with_words o ws)
accepted_with o ws ints fit acc =
    let new = object_with_words o ws in
    let same = types_with o.cells ws in
    let int_cells : All IsIntCell new.cells = all_with IsIntCell o.cells ws (λ c w word is. is) fit ints in
    record {
      entry = record {
        ints = acc.entry.ints;
        regs = acc.entry.regs;
        queue = acc.entry.queue;
        memory = acc.entry.memory;
      };
      cells = λ j x f. subst (HasType new x.init) (sym (all_there IsIntCell new.cells j x int_cells f)) tt;
      blocks = λ b x f. subst (λ (d : Context). Applies new d (block_instrs o b))
          (sym (start_same o new.cells o.instrs same x.code_type))
          (applies_same o new.cells o.instrs same _ _ (acc.blocks b x f));
    }

-- an object that stands for a program has as many cells as the program
cells_of_program : (p : Program) (o : Object) → StandsFor p o → length p.inits ≡ length o.cells
cells_of_program p o h = ap length (sym h.inits) ∙ length-map o.cells init_of_cell

-- with other initial words it stands for the program with these words
pub stands_with : AllWordsStand
stands_with p o ws h A =
    let many : length ws ≡ length o.cells = A.as_many ∙ cells_of_program p o h in
    record {
      names = names_with o.cells ws ∙ h.names;
      inits = words_with o.cells ws many;
      ints = all_with IsIntCell o.cells ws (λ c w word is. is) A.are_words h.ints;
      spellable = spellable_with o ws A.are_words h.spellable;
      accepted = accepted_with o ws h.ints A.are_words h.accepted;
      short = h.short;
      run = λ xs B.
          let same : length xs ≡ length p.inits = B.as_many ∙ A.as_many in
          subst (λ cs. RunsAsMeant (program_with_words p xs) (record o { cells = cs }))
          (sym (words_again o.cells ws xs (same ∙ cells_of_program p o h)))
          (h.run xs (record { as_many = same; are_words = B.are_words }));
    }
