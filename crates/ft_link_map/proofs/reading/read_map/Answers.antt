use Rattle.ft_text.specs.Lines.{lines_of}
use Rattle.ft_link_map.specs.MapLines.{MapLine}
use Rattle.ft_link_map.specs.MapAnswers.{answer_of, Gives}
use Rattle.ft_link_map.specs.declared.map_error.MapError.{MapError}
use Rattle.ft_link_map.specs.declared.link_map.LinkMap.{LinkMap}
use Rattle.ft_link_map.specs.Sound.{IsSound}
use Rattle.ft_link_map.proofs.FoundLines.{some_list}
use Rattle.ft_link_map.proofs.Soundness.{sound}
use Rattle.std.proofs.Common.{List, Result, Ok, Err}
use Rattle.std.specs.Prelude.{IfOk}
use Rattle.ft_link_map.proofs.reading.read_map.Goals as goal

-- an answer that is a map is sound
if_sound : (r : Result LinkMap MapError) (said : List MapLine) → Gives r (answer_of said) → IfOk r IsSound
if_sound (Ok m) said h = sound said m h
if_sound (Err e) said h = tt

pub returns-clause-said : goal.returns-clause-said
returns-clause-said c = let some = some_list (lines_of c.args.text.now) in
    (some.0, some.1, c.read_lines.ensures some.0 some.1)

pub returns-clause-sound : goal.returns-clause-sound
returns-clause-sound c = let some = some_list (lines_of c.args.text.now) in
    if_sound c.read_lines.result some.0 (c.read_lines.ensures some.0 some.1)
