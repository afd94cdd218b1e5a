use Rattle.std.proofs.lemmas.Result.{IfErr-weaker}
use Rattle.ft_link_map.specs.MapAnswers.{answer_of}
use Rattle.ft_embed.specs.Links.{ends_in_turn}
use Rattle.ft_embed.proofs.LinkTurns.{is_map, map_ends, all_unlinked}
use Rattle.ft_embed.proofs.linking.link_bytes.Goals as goal

pub returns-in-Err-clause-err : goal.returns-in-Err-clause-err
returns-in-Err-clause-err c = λ other.
    let said = c.in-Err.ensures.said in
    map_ends c.args.given.now c.args.text.now said.0 c.refuse_map.result c.if-text-gt-MAP_LIMIT.false said.1
    (c.refuse_map.ensures.told (answer_of said.0) said.2 other)

pub returns-in-Ok-add_modules-clause-err : goal.returns-in-Ok-add_modules-clause-err
returns-in-Ok-add_modules-clause-err c =
    let said = c.in-Ok.ensures.said in
    let is = is_map c.args.text.now c.in-Ok.linkage c.if-text-gt-MAP_LIMIT.false said.0 said.1 said.2 in
    IfErr-weaker c.link_added.result _ _
    (λ u h other. all_unlinked c.args.given.now c.args.text.now u c.in-Ok.linkage c.add_modules.new.linker is
    c.in-Ok-add_modules.ensures.ok (h other)) c.link_added.ensures.err

pub returns-clause-err : goal.returns-clause-err
returns-clause-err c = λ other.
    let said = c.in-Ok.ensures.said in
    ends_in_turn c.in-Ok.linkage (is_map c.args.text.now c.in-Ok.linkage c.if-text-gt-MAP_LIMIT.false said.0 said.1
    said.2) (c.in-Err-add_modules.ensures.err other)
