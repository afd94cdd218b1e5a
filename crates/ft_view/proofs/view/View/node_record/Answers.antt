use Rattle.std.specs.Prelude.{slice_get}
use Rattle.std.proofs.Common.{◌≡◌, None, Some, [], subst, sym, arith}
use Rattle.ft_format.specs.declared.header.Header.{Header}
use Rattle.ft_format.specs.Layout.{code_layout}
use Rattle.ft_format.specs.Versions.{version_of}
use Rattle.ft_format.specs.Broken.{nodes_at}
use Rattle.ft_format.specs.Fields.{node_numbers}
use Rattle.ft_format.specs.Broken.{header_at, broken}
use Rattle.ft_format.proofs.Layouts.{Fit}
use Rattle.ft_format.proofs.Nodes.{node_again}
use Rattle.ft_view.specs.Viewed.{node_records}
use Rattle.ft_view.proofs.Whole.{unbroken}
use Rattle.ft_view.proofs.NodePlain.{node_at, plain_variable}
use Rattle.ft_view.proofs.Opened.{sections, below, row_there}
use Rattle.ft_view.proofs.view.View.node_record.Goals as goal

pub stretch-requires : goal.stretch-requires
stretch-requires c =
    let u = sections c.self.inside.header c.self.inside.at c.self.inside.bytes.now c.self.invariant in
    omega (
      arith,
      u.whole.whole,
      c.self.invariant.places.nodes,
      below c.self.inside.header c.self.inside.at c.self.inside.bytes.now c.args.self.now (λ (k : Header).
          k.nodes) c.args.i c.self.invariant (sym c.self.view_is) c.requires,
    )

pub returns-clause-there : goal.returns-clause-there
returns-clause-there c = row_there code_layout (λ (k : Header). k.nodes) nodes_at c.self.inside.header c.self.inside.at
    c.self.inside.bytes.now c.args.self.now c.stretch.result.now _ c.args.i _ c.self.invariant (sym c.self.view_is)
    c.requires (omega (arith, c.self.invariant.places.nodes)) c.stretch.ensures.bytes c.read.ensures

pub returns-clause-written : goal.returns-clause-written
returns-clause-written c =
    let seen = c.args.self.now in
    let u = unbroken seen (subst (λ b. broken b ≡ None) c.self.view_is c.self.invariant.unbroken) in
    let there : slice_get (node_records seen) c.args.i ≡ Some (node_numbers c.read.result) =
    row_there code_layout (λ (k : Header). k.nodes) nodes_at c.self.inside.header c.self.inside.at
    c.self.inside.bytes.now c.args.self.now c.stretch.result.now _ c.args.i _ c.self.invariant (sym c.self.view_is)
    c.requires (omega (arith, c.self.invariant.places.nodes)) c.stretch.ensures.bytes c.read.ensures in
    let plain = node_at (version_of (header_at seen)) [] (nodes_at (header_at seen)) (node_records seen) c.args.i _
    u.nodes there in
    let fit : Fit code_layout (node_numbers c.read.result) =
    (omega arith, (omega arith, (omega arith, (omega arith, (omega arith, (omega arith, (omega arith, tt))))))) in
    (node_again plain.version plain.earlier plain.at _ fit plain.unbroken).written

pub returns-clause-variable : goal.returns-clause-variable
returns-clause-variable c =
    let seen = c.args.self.now in
    let u = unbroken seen (subst (λ b. broken b ≡ None) c.self.view_is c.self.invariant.unbroken) in
    let there : slice_get (node_records seen) c.args.i ≡ Some (node_numbers c.read.result) =
    row_there code_layout (λ (k : Header). k.nodes) nodes_at c.self.inside.header c.self.inside.at
    c.self.inside.bytes.now c.args.self.now c.stretch.result.now _ c.args.i _ c.self.invariant (sym c.self.view_is)
    c.requires (omega (arith, c.self.invariant.places.nodes)) c.stretch.ensures.bytes c.read.ensures in
    plain_variable _ _ _ _ _ _ _ (node_at (version_of (header_at seen)) [] (nodes_at (header_at seen))
    (node_records seen) c.args.i _ u.nodes there)
