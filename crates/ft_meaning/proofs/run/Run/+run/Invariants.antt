use Rattle.std.proofs.Common.{◌≡◌, ◌≤◌, ℕ, List, map, length, drop}
use Rattle.ft_isa.specs.declared.output.Output.{Output}
use Rattle.ft_syntax.specs.Plain.{plain_expression, plain_list}
use Rattle.ft_scope.specs.Size.{same_slot, ExpressionFits, StatementsFit}
use Rattle.ft_edge.specs.Logs.{SinkLog}
use Rattle.ft_meaning.specs.Meaning.{run, loops}
use Rattle.ft_meaning.specs.Runs.{told, state, Keeps, Ready}
use Rattle.ft_meaning.proofs.run.Run.+run.Given as goal

abbrev pub invariant-repeat-loop-self : goal.invariant-repeat-loop-self
invariant-repeat-loop-self g l = record {
  runs : (first : SinkLog) (o : List Output) (w : ℕ)
      → g.K.Sink.log l.initial.out ≡ told (map (λ n. n.items) l.names) first o →
      (p : List Output) × (v : ℕ) × (m : ℕ) × (l.self.left ≤ m)
      × (loops l.initial.self.left (plain_expression same_slot l.test) (run (plain_list same_slot l.body))
      (state l.initial.self o w) ≡ loops m (plain_expression same_slot l.test) (run (plain_list same_slot l.body))
      (state l.self p v)) × (g.K.Sink.log l.out ≡ told (map (λ n. n.items) l.names) first p);
  test : ExpressionFits (length l.self.cells.items) (length l.self.vars.items) (plain_expression same_slot l.test);
  body : StatementsFit (length l.self.cells.items) (length l.self.vars.items) (plain_list same_slot l.body);
  ready : Ready (map (λ n. n.items) l.names) l.self;
  keeps : Keeps l.initial.self l.self;
}

abbrev pub decreases-repeat-loop-self : goal.decreases-repeat-loop-self
decreases-repeat-loop-self g l = l.self.left

abbrev pub invariant-statements-loop-s : goal.invariant-statements-loop-s
invariant-statements-loop-s g l = record {
  runs : (first : SinkLog) (o : List Output) (w : ℕ)
      → g.K.Sink.log l.initial.out ≡ told (map (λ n. n.items) l.names) first o →
      (p : List Output) × (v : ℕ) × (run (plain_list same_slot l.all) (state l.initial.self o w) ≡ run
      (plain_list same_slot (drop l.s-index l.all)) (state l.self p v)) × (g.K.Sink.log l.out ≡ told
      (map (λ n. n.items) l.names) first p);
  fits : StatementsFit (length l.self.cells.items) (length l.self.vars.items)
      (plain_list same_slot (drop l.s-index l.all));
  ready : Ready (map (λ n. n.items) l.names) l.self;
  keeps : Keeps l.initial.self l.self;
}
