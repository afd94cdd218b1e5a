use Rattle.std.proofs.Common.{refl, ◌∙◌}
use Rattle.ft_asm.specs.Reads.{text_of}
use Rattle.ft_tool.specs.Answers.{DisassemblesObject}
use Rattle.ft_tool.proofs.Answered.{piece_concludes, piece_breaks_off}
use Rattle.ft_tool.proofs.disassemble.put_text.Goals as goal

pub returns-in-Ok-put_line : goal.returns-in-Ok-put_line
returns-in-Ok-put_line g c =
    let o = g.P.Program.object c.args.program.now in
    piece_concludes (DisassemblesObject o) (text_of o) c.as_slice.result.now 0 _ _ refl
    (c.as_slice.ensures.value ∙ c.in-Ok.ensures.text) c.in-Ok-put_line.ensures

pub returns : goal.returns
returns g c =
    let o = g.P.Program.object c.args.program.now in
    piece_breaks_off (DisassemblesObject o) (text_of o) c.as_slice.result.now 0 _ _ refl
    (c.as_slice.ensures.value ∙ c.in-Ok.ensures.text) c.in-Err.ensures
