use Rattle.std.proofs.Common.{inl}
use Rattle.std.specs.Prelude.{IsTrue}
use Rattle.ft_link_map.specs.declared.link_map.LinkMap.{LinkMap}
use Rattle.ft_tool.specs.Replies.{Answer}
use Rattle.ft_tool.specs.Endings.{ends_early}
use Rattle.ft_tool.specs.Files.{IsMapRefused}
use Rattle.ft_tool.specs.Links.{IsMap, EndsAtMap, LinksText}
use Rattle.ft_tool.specs.LinkTurns.{FailsInTurn}
use Rattle.ft_tool.proofs.Answered.{Ends-map, answered_or_early}
use Rattle.ft_tool.specs.Known.{revealing}
use Rattle.ft_tool.proofs.MapNames.{ascii_names}
use Rattle.ft_tool.proofs.Linking.{known_less, is_map, map_refused, makes_no_module}
use Rattle.std.proofs.Common.{[], inr}
use Rattle.ft_tool.specs.Links.{LinksFiles}
use Rattle.ft_tool.proofs.link.link_text.Goals as goal

pub link_files-requires-clause-names : goal.link_files-requires-clause-names
link_files-requires-clause-names g c =
    ascii_names c.args.text.now c.in-Ok.linkage (is_map c.args.text.now c.in-Ok.linkage c.requires
    c.in-Ok.ensures.said.0 c.in-Ok.ensures.said.1 c.in-Ok.ensures.said.2)

pub returns-in-Err-clause-ends : goal.returns-in-Err-clause-ends
returns-in-Err-clause-ends g c = λ told may.
    let text = c.args.text.now in
    let said = c.in-Err.ensures.said in
    let shelf = revealing told (g.F.Shelf.log c.args.shelf.now) in
    Ends-map c.refuse_map.result (IsMapRefused c.in-Err.error) (LinksText told text) _ _ ⊥
    ((linkage : LinkMap) × (IsMap text linkage × FailsInTurn linkage shelf shelf))
    (λ a is. inl (map_refused text c.requires said.0 said.1 c.in-Err.error said.2 a is)) (λ x. absurd x)
    c.refuse_map.ensures

pub returns-in-Err-clause-made : goal.returns-in-Err-clause-made
returns-in-Err-clause-made g c = λ told may.
    let text = c.args.text.now in
    let said = c.in-Err.ensures.said in
    makes_no_module told text (ends_early c.refuse_map.result)
    (g.F.Shelf.log c.args.shelf.now).asked
    (known_less ((a : Answer) × IsMapRefused c.in-Err.error a) ((a : Answer)
    × EndsAtMap text a) (IsTrue (ends_early c.refuse_map.result)) (λ x.
    (x.0, map_refused text c.requires said.0 said.1 c.in-Err.error said.2 x.0 x.1))
    (answered_or_early c.refuse_map.result (IsMapRefused c.in-Err.error)
    (g.K.Sink.log c.args.out.now) (g.K.Sink.log c.refuse_map.new.out) ⊥
    c.refuse_map.ensures))

pub returns-in-Ok-clause-ends : goal.returns-in-Ok-clause-ends
returns-in-Ok-clause-ends g c = λ told may.
    let text = c.args.text.now in
    let linkage = c.in-Ok.linkage in
    let said = c.in-Ok.ensures.said in
    let map = is_map text linkage c.requires said.0 said.1 said.2 in
    let shelf = revealing told (g.F.Shelf.log c.args.shelf.now) in
    let new = revealing told (g.F.Shelf.log c.link_files.new.shelf) in
    Ends-map c.link_files.result (LinksFiles told linkage [] linkage.files) (LinksText told text) _ _
    (FailsInTurn linkage shelf new) ((map : LinkMap) × (IsMap text map × FailsInTurn map shelf new))
    (λ a is. inr (linkage, (map, is))) (λ x. (linkage, (map, x))) (c.link_files.ensures.ends told may)

pub returns-in-Ok-clause-made : goal.returns-in-Ok-clause-made
returns-in-Ok-clause-made g c = λ told may.
    let said = c.in-Ok.ensures.said in
    inr (
      c.in-Ok.linkage,
      (
        is_map c.args.text.now c.in-Ok.linkage c.requires said.0 said.1 said.2,
        c.link_files.ensures.made told may,
      ),
    )
