-- How much of a script was read, and how its session ends.
use Rattle.std.proofs.Common.{◌≡◌, ℕ, ◌<◌, ◌≤◌, List, [], ◌++◌, length, take, append-nil, Option, Some, None, Ok, Err}
use Rattle.std.proofs.Common.{inl, inr, refl, sym, ap, ◌∙◌, subst, arith, length-append}
use Rattle.std.specs.Prelude.{◌⊎◌, IfSome}
use Rattle.std.specs.Io.KnownBytes.{Consumes, IsAtEnd}
use Rattle.ft_edge.specs.Causes.{Rose}
use Rattle.ft_edge.specs.Loads.{Files}
use Rattle.ft_edge.specs.Lines.{with_lines, BreaksOff as LinesBreakOff, AllPut, PutFailed}
use Rattle.ft_edge.specs.Logs.{SinkLog, ShelfLog, LoadFails, SourceLog}
use Rattle.ft_isa.specs.declared.plan.Wild.{Wild}
use Rattle.ft_types.specs.declared.object.Object.{Object}
use Rattle.ft_debug.specs.Ends.{PutsSession}
use Rattle.ft_debug.specs.Sessions.{session_lines}
use Rattle.ft_format.specs.Format.{AreBytes}
use Rattle.ft_format.specs.Broken.{object_of, version_at}
use Rattle.ft_command.specs.Commands.{Debugging, Debugs}
use Rattle.ft_tool.specs.declared.load.ObjectFault.{ObjectFault}
use Rattle.ft_tool.specs.declared.load.ObjectFault.TheVariants.{Refused, Failed, NoMemory}
use Rattle.ft_tool.specs.declared.script.ScriptFault.{ScriptFault}
use Rattle.ft_tool.specs.declared.script.ScriptFault.TheVariants as faults
use Rattle.ft_tool.specs.Replies.{Answer, IsScript}
use Rattle.ft_tool.specs.Scripts.{DebugsObject, debugged, too_long, TakesScript, TakeCause, IsScriptRefusedBy}
use Rattle.ft_tool.specs.Answers.{Concludes, BreaksOff, OverFile, FailsIn, FailsAtScript}
use Rattle.ft_tool.specs.Told.{OfFiles, OfScript}
use Rattle.ft_tool.specs.Files.{LoadsObject, IsRefusedBy}
use Rattle.ft_tool.proofs.Mapped.{longer_bytes, some_files, files_with, some_script}
use Rattle.ft_tool.proofs.Tried.{spells_file}

-- if the last take found the script at its end, the bytes read before are the whole script
pub whole_script : (old between new : Option (List ℕ)) (text : List ℕ) (n : ℕ) (buf : List ℕ) →
    Consumes old between text → n ≡ 0 → Consumes between new (take n buf) → IsAtEnd new →
    IfSome old (λ told. text ≡ told)
whole_script None between new text n buf taken none more end = tt
whole_script (Some old) None new text n buf taken none more end = absurd taken
whole_script (Some old) (Some between) None text n buf taken none more end = absurd more
whole_script (Some old) (Some between) (Some new) text n buf taken none more end =
    let rest : between ≡ [] = more ∙ ap (λ k. take k buf ++ new) none ∙ end in
    sym (taken ∙ ap (λ l. text ++ l) rest ∙ append-nil text)

-- bytes that agree with the revealed script are the script
is_script : (left : Option (List ℕ)) (text : List ℕ) → AreBytes text → IfSome left (λ told. text ≡ told) →
    IsScript left text
is_script None text bytes h = bytes
is_script (Some told) text bytes h = h

-- if more bytes than the limit were read, the script is longer than the limit
pub longer_script : (old new : Option (List ℕ)) (taken : List ℕ) → Consumes old new taken → 1048576 < length taken →
    (text : List ℕ) × (IsScript old text × (1048576 < length text))
longer_script None new taken h long = longer_bytes 1048576
longer_script (Some text) None taken h long = absurd h
longer_script (Some text) (Some rest) taken h long = let e : length text ≡ length (taken ++ rest) = ap length h in
    (text, (refl, omega (arith, e, length-append {A = ℕ}, long)))

-- if all lines of a session were written, so was the answer of `debug`
pub session_concludes : (d : Debugging) (o : Object) (w : List Wild) (text : List ℕ) (old new : SinkLog)
    → length text ≤ 1048576 → w ≡ d.wild
    → PutsSession AllPut o w text old new → Concludes (DebugsObject d text o) 0 old new
session_concludes d o w text old new short is h = record {
  answer = record { pieces = session_lines o d.wild h.commands; status = 0 };
  is = debugged short h.commands h.given refl;
  put = h.lines ∙ ap (λ ws. with_lines (session_lines o ws h.commands) old) is;
  status_is = refl;
}

-- if the put of one of a session's lines failed, the answer of `debug` was written up to that line
pub session_breaks_off : (d : Debugging) (o : Object) (w : List Wild) (text : List ℕ) (old new : SinkLog)
    → length text ≤ 1048576 → w ≡ d.wild
    → PutsSession PutFailed o w text old new → BreaksOff (DebugsObject d text o) old new
session_breaks_off d o w text old new short is h = record {
  answer = record { pieces = session_lines o d.wild h.commands; status = 0 };
  is = debugged short h.commands h.given refl;
  broken = subst (λ ws. LinesBreakOff (session_lines o ws h.commands) old new) is h.lines;
}

-- the answer for the bytes that were read is an answer for the script
pub over_script : {V : Type 0} (bytes_of : V → List ℕ) (d : Debugging) (left : Option (List ℕ)) (o : Object) (v : V)
    → TakesScript bytes_of left (Ok v) → AreBytes (bytes_of v) → (a : Answer) → DebugsObject d (bytes_of v) o a →
    OfScript left (λ text. DebugsObject d text o a)
over_script bytes_of d left o v h bytes a is = (bytes_of v, (is_script left (bytes_of v) bytes h.1, is))

-- the answer to a script that is too long is an answer for the script
pub over_long_script : {V : Type 0} (bytes_of : V → List ℕ) (d : Debugging) (left : Option (List ℕ)) (o : Object)
    (e : ScriptFault)
    → TakesScript bytes_of left (Err e) → (a : Answer) → IsScriptRefusedBy e a →
    OfScript left (λ text. DebugsObject d text o a)
over_long_script bytes_of d left o faults.TooLong h a is = (h.0, (h.1.0, too_long h.1.1 is))
over_long_script bytes_of d left o faults.Failed h a is = absurd is
over_long_script bytes_of d left o faults.NoMemory h a is = absurd is

-- the answer of a session for the object that a file's bytes spell is an answer for the file
pub over_debugged : (d : Debugging) (told : Option Files) (left : Option (List ℕ)) (bytes : List ℕ) →
    LoadsObject told d.object (Ok bytes) → (a : Answer) →
    OfScript left (λ text. DebugsObject d text (object_of bytes) a)
    → OfFiles told (λ files. OfScript left (λ text. OverFile (DebugsObject d text) d.object files a))
over_debugged d told left bytes h a is =
    let m = files_with told d.object bytes h.0 in
    (m.0, (m.1.0, (is.0, (is.1.0, (bytes, (m.1.1, inl (object_of bytes, ((version_at bytes, h.1), is.1.1))))))))

-- the answer to refused bytes is an answer for the file
pub over_undebugged : (d : Debugging) (told : Option Files) (left : Option (List ℕ)) (e : ObjectFault) →
    LoadsObject told d.object (Err e) → (a : Answer) → IsRefusedBy e a
    → OfFiles told (λ files. OfScript left (λ text. OverFile (DebugsObject d text) d.object files a))
over_undebugged d told left (Refused e) h a is =
    let m = files_with told d.object h.0 h.1.0 in
    let s = some_script left in
    (m.0, (m.1.0, (s.0, (s.1.0, (h.0, (m.1.1, inr (e, (h.1.1, is))))))))
over_undebugged d told left Failed h a is = absurd is
over_undebugged d told left NoMemory h a is = absurd is

-- if a take failed after the session's object was loaded, the session failed at its script
pub script_failed : (d : Debugging) (bytes : List ℕ) (shelf shelf' : ShelfLog) (script script' : SourceLog)
    → LoadsObject shelf.files d.object (Ok bytes) → Rose script.failures script'.failures
    → OfFiles shelf.files (λ files. FailsIn (Debugs d) files shelf shelf' ⊎ FailsAtScript d files script script')
script_failed d bytes shelf shelf' script script' h rose =
    let m = spells_file shelf.files d.object bytes h in
    (m.0, (m.1.0, inr (record { rose = rose; comes = m.1.1 })))

-- if the load of a session's object failed, a load of the request failed
pub session_failed : (d : Debugging) (shelf shelf' : ShelfLog) (script script' : SourceLog)
    → LoadFails d.object shelf shelf'
    → OfFiles shelf.files (λ files. FailsIn (Debugs d) files shelf shelf' ⊎ FailsAtScript d files script script')
session_failed d shelf shelf' script script' h =
    let m = some_files shelf.files in
    (m.0, (m.1.0, inl (record { file = d.object; comes = refl; fails = h })))

-- if the fault is `Failed`, the count of failed takes rose
pub take_failed : (V : Type 0) (before now : ℕ) (e : ScriptFault) → TakeCause {V = V} before now (Err e) → e
    ≡ faults.Failed → Rose before now
take_failed V before now e h is = subst (λ f. TakeCause {V = V} before now (Err f)) is h
