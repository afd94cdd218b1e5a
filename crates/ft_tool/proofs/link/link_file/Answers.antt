use Rattle.std.proofs.Common.{◌≡◌, ◌≤◌, length, Ok, Err, inl, refl, sym, subst}
use Rattle.ft_edge.specs.Logs.{LoadCause}
use Rattle.ft_link_map.specs.declared.link_map.LinkMap.{LinkMap}
use Rattle.ft_command.specs.Commands.{Links}
use Rattle.ft_tool.specs.Texts.{link_line}
use Rattle.ft_tool.specs.Replies.{one_piece}
use Rattle.ft_tool.specs.Answers.{FailsIn}
use Rattle.ft_tool.specs.Files.{Gives}
use Rattle.ft_tool.specs.Links.{IsMap, LinksText, LinksFile, long_map}
use Rattle.ft_tool.specs.LinkTurns.{FailsInTurn}
use Rattle.ft_tool.specs.Told.{OfFiles}
use Rattle.ft_tool.specs.Known.{revealing, revealed}
use Rattle.ft_tool.proofs.Held.{held_before, held_between}
use Rattle.ft_tool.proofs.Answered.{Ends-map, failed_in}
use Rattle.ft_tool.proofs.Linking.{failed_between, links_between}
use Rattle.ft_tool.specs.Endings.{ends_early}
use Rattle.ft_tool.proofs.Linking.{loads_of_text}
use Rattle.ft_tool.proofs.link.link_file.Goals as goal

pub link_text-requires : goal.link_text-requires
link_text-requires g c =
    let h = subst (λ l. Gives (g.F.Shelf.log c.args.shelf.now).files c.args.name.now 65536 c.load_bytes.new.bytes.items
    (Ok l)) c.in-Ok-Whole.field-0-is (c.in-Ok-Whole.ensures.gives (g.F.Shelf.log c.args.shelf.now).files
    (revealed refl)) in
    subst (λ text. length text ≤ 65536) (sym c.as_slice.ensures.value) h.0

pub returns-in-Ok-Whole-clause-ends : goal.returns-in-Ok-Whole-clause-ends
returns-in-Ok-Whole-clause-ends g c = λ told may.
    let shelf = revealing told (g.F.Shelf.log c.args.shelf.now) in
    let between = revealing told (g.F.Shelf.log c.load_bytes.new.shelf) in
    let new = revealing told (g.F.Shelf.log c.link_text.new.shelf) in
    let text = c.load_bytes.new.bytes.items in
    let lent = c.as_slice.result.now in
    let h = subst (λ l. Gives shelf.files c.args.name.now 65536 text (Ok l)) c.in-Ok-Whole.field-0-is
    (c.in-Ok-Whole.ensures.gives told
    (held_before c.link_text.ensures.earlier may)) in
    Ends-map c.link_text.result (LinksText between.files lent) (LinksFile shelf.files c.args.name.now) _ _
    ((linkage : LinkMap) × (IsMap lent linkage × FailsInTurn linkage between new))
    (OfFiles shelf.files (λ files. FailsIn (Links c.args.name.now) files shelf new))
    (λ a is. links_between shelf.files between.files c.args.name.now text lent refl
    c.as_slice.ensures.value h.1 a is)
    (λ x. failed_between c.args.name.now text lent shelf between new refl c.as_slice.ensures.value
    c.in-Ok-Whole.ensures.cause.0 h.1 x)
    (c.link_text.ensures.ends told (held_between c.load_bytes.ensures.files may))

pub returns-in-Ok-TooLong-clause-ends : goal.returns-in-Ok-TooLong-clause-ends
returns-in-Ok-TooLong-clause-ends g c = λ told may.
    let shelf = revealing told (g.F.Shelf.log c.args.shelf.now) in
    let h = subst (λ l. Gives shelf.files c.args.name.now 65536 c.load_bytes.new.bytes.items (Ok l))
    c.in-Ok-TooLong.field-0-is (c.in-Ok-TooLong.ensures.gives told may) in
    Ends-map c.put_link_line.result (λ a. a ≡ one_piece (link_line 11 65536) 13) (LinksFile shelf.files c.args.name.now)
    _ _ ⊥
    (OfFiles shelf.files (λ files. FailsIn (Links c.args.name.now) files shelf
    (revealing told (g.F.Shelf.log c.load_bytes.new.shelf))))
    (λ a is. (h.0, (h.1.0, inl (long_map h.1.1 is)))) (λ x. absurd x) c.put_link_line.ensures

pub returns-in-Err-Failed-clause-ends : goal.returns-in-Err-Failed-clause-ends
returns-in-Err-Failed-clause-ends g c = λ told may.
    let shelf = revealing told (g.F.Shelf.log c.args.shelf.now) in
    let new = revealing told (g.F.Shelf.log c.load_bytes.new.shelf) in
    let name = c.args.name.now in
    let cause = subst (λ f. LoadCause shelf new name (Err f))
    c.in-Err-Failed.field-0-is c.in-Err-Failed.ensures.cause in
    (refl, failed_in (Links name) shelf new name (λ files. inl refl) cause)

pub returns-in-Ok-Whole-clause-made : goal.returns-in-Ok-Whole-clause-made
returns-in-Ok-Whole-clause-made g c = λ told may.
    let h = subst (λ l. Gives told c.args.name.now 65536 c.load_bytes.new.bytes.items (Ok l)) c.in-Ok-Whole.field-0-is
    (c.in-Ok-Whole.ensures.gives told (held_before c.link_text.ensures.earlier may)) in
    loads_of_text told c.args.name.now c.load_bytes.new.bytes.items c.as_slice.result.now
    (ends_early c.link_text.result) (g.F.Shelf.log c.args.shelf.now).asked (g.F.Shelf.log c.load_bytes.new.shelf).asked
    (g.F.Shelf.log c.link_text.new.shelf).asked c.as_slice.ensures.value h.1 c.load_bytes.ensures.made
    (c.link_text.ensures.made told (held_between c.load_bytes.ensures.files may))

pub returns-in-Ok-TooLong-clause-made : goal.returns-in-Ok-TooLong-clause-made
returns-in-Ok-TooLong-clause-made g c = λ told may.
    let h = subst (λ l. Gives told c.args.name.now 65536 c.load_bytes.new.bytes.items (Ok l))
    c.in-Ok-TooLong.field-0-is (c.in-Ok-TooLong.ensures.gives told may) in
    inl (record {
      none = inl (h.0, (h.1.0, (one_piece (link_line 11 65536) 13, long_map h.1.1 refl)));
      made = c.load_bytes.ensures.made;
    })
