-- The object of a program's flow is emitted for the program, and stands for it.
use Rattle.std.proofs.Common.{◌≡◌, ℕ, ◌≤◌, List, length, sym, ap, ◌∙◌, subst, arith}
use Rattle.ft_types.specs.declared.object.Object.{Object}
use Rattle.ft_scope.specs.Resolved.{Program, program_need, program_weight}
use Rattle.ft_scope.specs.InitialWords.{program_with_words, AreInitialWords}
use Rattle.ft_lower.specs.Flow.{Blocks}
use Rattle.ft_lower.specs.Lowers.{Lowers}
use Rattle.ft_lower.specs.Size.{PairsBelow, blocks_size}
use Rattle.ft_lower.specs.Well.{IsWell}
use Rattle.ft_dup.specs.Doubles.{words_of, RunsAs, Carries}
use Rattle.ft_compile.specs.Cells.{AreCells}
use Rattle.ft_compile.specs.Emitted.{emitted, IsEmitted}
use Rattle.ft_types.specs.InitialWords.{object_with_words}
use Rattle.ft_compile.specs.StandsFor.{RunsAsMeant, StandsFor}
use Rattle.ft_compile.proofs.Meant.{runs_as_meant}
use Rattle.ft_compile.proofs.Objects.{emission}
use Rattle.ft_compile.proofs.OtherWords.{words_with, carries_with}

-- the object of blocks to which a program is lowered is emitted for the program
pub emits : (p : Program) (o : Object) (vars cells : ℕ) (bs : Blocks) → vars ≤ 32 → IsWell vars cells bs → vars
    ≡ p.vars → cells ≡ length p.inits → Lowers p bs → blocks_size bs ≤ program_weight p →
    PairsBelow (program_need p) bs → o ≡ emitted p.names p.inits vars bs → IsEmitted p o
emits p o vars cells bs F W named many L light below e = record {
  flow = bs;
  few = subst (λ v. v ≤ 32) named F;
  well = subst (λ n. IsWell p.vars n bs) many (subst (λ v. IsWell v cells bs) named W);
  runs = L;
  light = light;
  pairs = below;
  object = e ∙ ap (λ v. emitted p.names p.inits v bs) named;
}

-- if each object that carries blocks to which a program is lowered runs as they do, an object that carries them does
-- what the program means, whatever initial words its cells are given
runs_with : (p : Program) (o : Object) (vars : ℕ) (bs : Blocks) → Lowers p bs → RunsAs vars (length p.inits) bs →
    Carries o (length p.inits) bs
    → (ws : List ℕ) → AreInitialWords p ws → RunsAsMeant (program_with_words p ws) (object_with_words o ws)
runs_with p o vars bs L R C ws A =
    let u = object_with_words o ws in
    let there : words_of u ≡ ws = words_with o.cells ws (A.as_many ∙ sym C.many) in
    subst (λ xs. RunsAsMeant (program_with_words p xs) u) there
    (runs_as_meant p vars (length p.inits) bs u L R (carries_with o (length p.inits) bs ws A.as_many A.are_words C)
    (ap length there ∙ A.as_many))

-- it stands for the program if each object that carries the blocks runs as they do
pub stands : (p : Program) (o : Object) (vars cells : ℕ) (bs : Blocks) → AreCells p.names p.inits → vars ≤ 32 →
    IsWell vars cells bs → cells ≡ length p.inits → blocks_size bs ≤ program_weight p → Lowers p bs →
    RunsAs vars cells bs → o ≡ emitted p.names p.inits vars bs → StandsFor p o
stands p o vars cells bs C F W many light L R e =
    let E = emission p.names p.inits vars bs C F (subst (λ n. IsWell vars n bs) many W) in
    subst (StandsFor p) (sym e) (record {
      names = E.names_are;
      inits = E.words_are;
      ints = E.ints;
      spellable = E.spellable;
      accepted = E.accepted;
      short = omega (arith, E.instrs, light);
      run = runs_with p (emitted p.names p.inits vars bs) vars bs L (subst (λ n. RunsAs vars n bs) many R) E.carries;
    })
