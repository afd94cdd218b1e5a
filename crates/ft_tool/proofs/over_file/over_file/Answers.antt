use Rattle.std.proofs.Common.{Ok, Err, refl, subst}
use Rattle.ft_edge.specs.Logs.{LoadCause}
use Rattle.ft_tool.specs.Files.{Gives}
use Rattle.ft_tool.specs.Known.{revealing}
use Rattle.ft_tool.proofs.OverFiles.{does_over, does_long, does_fail, does_nothing}
use Rattle.ft_tool.proofs.over_file.over_file.Goals as goal

pub returns-in-Ok-Whole : goal.returns-in-Ok-Whole
returns-in-Ok-Whole g c = λ told may left.
    let command = c.args.command.now in
    let shelf = revealing told (g.F.Shelf.log c.args.shelf.now) in
    let new = revealing told (g.F.Shelf.log c.load_bytes.new.shelf) in
    does_over (g.C.FileCommand.request command) (g.C.FileCommand.file command) (g.C.FileCommand.limit command)
    (g.C.FileCommand.answer command) (g.met.C.FileCommand.is_over_file command)
    c.file.result.now c.limit.result c.file.ensures c.limit.ensures left _ _ shelf new c.over_bytes.result
    c.load_bytes.new.bytes.items c.as_slice.result.now
    (subst (λ l. Gives shelf.files c.file.result.now c.limit.result c.load_bytes.new.bytes.items (Ok l))
    c.in-Ok-Whole.field-0-is (c.in-Ok-Whole.ensures.gives told may))
    c.as_slice.ensures.value c.in-Ok-Whole.ensures.cause c.load_bytes.ensures.made c.over_bytes.ensures

pub returns-in-Ok-TooLong : goal.returns-in-Ok-TooLong
returns-in-Ok-TooLong g c = λ told may left.
    let command = c.args.command.now in
    let shelf = revealing told (g.F.Shelf.log c.args.shelf.now) in
    let new = revealing told (g.F.Shelf.log c.load_bytes.new.shelf) in
    does_long (g.C.FileCommand.request command) (g.C.FileCommand.file command) (g.C.FileCommand.limit command)
    (g.C.FileCommand.answer command) (g.met.C.FileCommand.is_over_file command)
    c.file.result.now c.limit.result c.file.ensures c.limit.ensures left _ _ shelf new c.refuse_long.result
    c.load_bytes.new.bytes.items
    (subst (λ l. Gives shelf.files c.file.result.now c.limit.result c.load_bytes.new.bytes.items (Ok l))
    c.in-Ok-TooLong.field-0-is (c.in-Ok-TooLong.ensures.gives told may))
    c.in-Ok-TooLong.ensures.cause c.load_bytes.ensures.made c.refuse_long.ensures

pub returns-in-Err-Failed : goal.returns-in-Err-Failed
returns-in-Err-Failed g c = λ told may left.
    let command = c.args.command.now in
    let shelf = revealing told (g.F.Shelf.log c.args.shelf.now) in
    let new = revealing told (g.F.Shelf.log c.load_bytes.new.shelf) in
    does_fail (g.C.FileCommand.request command) (g.C.FileCommand.file command) (g.C.FileCommand.limit command)
    (g.C.FileCommand.answer command) (g.met.C.FileCommand.is_over_file command)
    c.file.result.now c.limit.result c.file.ensures c.limit.ensures left _ _ shelf new
    (subst (λ f. LoadCause shelf new c.file.result.now (Err f))
    c.in-Err-Failed.field-0-is c.in-Err-Failed.ensures.cause)
    c.load_bytes.ensures.made refl

pub returns : goal.returns
returns g c = λ told may left.
    let command = c.args.command.now in
    let shelf = revealing told (g.F.Shelf.log c.args.shelf.now) in
    let new = revealing told (g.F.Shelf.log c.load_bytes.new.shelf) in
    does_nothing (g.C.FileCommand.request command) (g.C.FileCommand.file command) (g.C.FileCommand.limit command)
    (g.C.FileCommand.answer command) (g.met.C.FileCommand.is_over_file command)
    c.file.result.now c.limit.result c.file.ensures c.limit.ensures left _ _ shelf new
    (subst (λ f. LoadCause shelf new c.file.result.now (Err f))
    c.in-Err-NoMemory.field-0-is c.in-Err-NoMemory.ensures.cause)
    c.load_bytes.ensures.made refl
