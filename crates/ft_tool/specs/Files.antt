-- The results of loading a command's file: private to the code.
use Rattle.std.specs.Prelude.{◌≡◌, ℕ, ◌<◌, ◌≤◌, List, length, Option, Some, Result, Ok, Err}
use Rattle.ft_edge.specs.declared.shelf.Load.{Load}
use Rattle.ft_edge.specs.declared.shelf.Load.TheVariants.{Whole, TooLong}
use Rattle.ft_edge.specs.declared.shelf.LoadFault.{LoadFault}
use Rattle.ft_edge.specs.Logs.{ShelfLog, LoadFails, NoLoadFails}
use Rattle.ft_edge.specs.Loads.{Files}
use Rattle.ft_format.specs.Format.{Spells}
use Rattle.ft_format.specs.Broken.{broken, object_of, version_at}
use Rattle.ft_object.specs.declared.decode_error.DecodeError.{DecodeError}
use Rattle.ft_object.specs.declared.decode_error.DecodeError.TheVariants as decodes
use Rattle.ft_command.specs.Options.{Word}
use Rattle.ft_typing.specs.Accepted as accepted
use Rattle.ft_checker.specs.declared.error.CheckError.{CheckError}
use Rattle.ft_checker.specs.declared.error.CheckError.TheVariants as checks
use Rattle.ft_tool.specs.Replies.{Answer, one_piece, IsToldFile}
use Rattle.ft_asm.specs.declared.asm_error.AsmError.{AsmError}
use Rattle.ft_asm.specs.declared.asm_error.AsmError.TheVariants as texts
use Rattle.ft_asm.specs.Reads.{Text, Order, Broken}
use Rattle.ft_asm.specs.Reads as saids
use Rattle.ft_tool.specs.Objects.{refused, judged}
use Rattle.ft_tool.specs.Answers.{AssemblesAs}
use Rattle.ft_link_map.specs.declared.map_error.MapError.{MapError}
use Rattle.ft_link_map.specs.declared.map_error.MapError.TheVariants as maps
use Rattle.ft_linker.specs.declared.link_error.LinkError.{LinkError}
use Rattle.ft_linker.specs.declared.link_error.LinkError.TheVariants as links
use Rattle.ft_modules.specs.LinkRefusals as link_refusals
use Rattle.ft_tool.specs.Links.{unlinked}
use Rattle.ft_tool.specs.Texts.{link_line}
use Rattle.ft_isa.specs.declared.plan.Strike.{Strike}
use Rattle.ft_campaign.specs.declared.fault_list.ListError.TheVariants as lists
use Rattle.ft_campaign.specs.FaultList.{IsFaultList, IsListError}
use Rattle.ft_tool.specs.Lists.{IsListAnswer}
use Rattle.ft_tool.specs.declared.load.ListFault.{ListFault}
use Rattle.ft_tool.specs.declared.load.ListFault.TheVariants as list_faults
use Rattle.ft_tool.specs.declared.load.ObjectFault.{ObjectFault}
use Rattle.ft_tool.specs.declared.load.ObjectFault.TheVariants.{Refused, Failed, NoMemory}

-- what the result of a load says: these are the file's bytes, or the file has more bytes than the limit
abbrev pub Gives : Option Files → Word → ℕ → List ℕ → Result Load LoadFault → Type 0
Gives files name limit into (Ok Whole) = (length into ≤ limit) × IsToldFile files name into
Gives files name limit into (Ok TooLong) = (bytes : List ℕ) × (IsToldFile files name bytes × (limit < length bytes))
Gives files name limit into (Err e) = Unit {0}

-- why there is no object if the loaded bytes could not be decoded
abbrev pub fault_of : DecodeError → ObjectFault
fault_of (decodes.Object e) = Refused e
fault_of decodes.NoMemory = NoMemory

-- the first rule of the format that the file's bytes break
abbrev pub RefusesFile : Option Files → Word → ObjectFault → Type 0
RefusesFile files name (Refused e) = (bytes : List ℕ) × (IsToldFile files name bytes × (broken bytes ≡ Some e))
RefusesFile files name Failed = Unit {0}
RefusesFile files name NoMemory = Unit {0}

-- the file's bytes, or the first rule of the format that they break
abbrev pub LoadsBytes : {V : Type 0} → Option Files → Word → List ℕ → Result V ObjectFault → Type 0
LoadsBytes files name into (Ok v) = IsToldFile files name into
LoadsBytes files name into (Err e) = RefusesFile files name e

-- the file's bytes, which spell an object, or the first rule of the format that they break
abbrev pub LoadsObject : Option Files → Word → Result (List ℕ) ObjectFault → Type 0
LoadsObject files name (Ok bytes) = IsToldFile files name bytes × Spells bytes (version_at bytes) (object_of bytes)
LoadsObject files name (Err e) = RefusesFile files name e

-- after a failed load, its name is recorded as the last that failed, and the count of failures has risen or is
-- 2^64 - 1; any other fault leaves both unchanged
abbrev pub FaultCause : Word → ObjectFault → ShelfLog → ShelfLog → Type 0
FaultCause name (Refused e) old new = NoLoadFails old new
FaultCause name Failed old new = LoadFails name old new
FaultCause name NoMemory old new = NoLoadFails old new

-- likewise for a result: if it is not a fault, it leaves both unchanged, too
abbrev pub LoadCause : {V : Type 0} → Word → Result V ObjectFault → ShelfLog → ShelfLog → Type 0
LoadCause name (Ok v) old new = NoLoadFails old new
LoadCause name (Err e) old new = FaultCause name e old new

-- the answer of a command whose object's bytes are refused
abbrev pub IsRefusedBy : ObjectFault → Answer → Type 0
IsRefusedBy (Refused e) a = a ≡ refused e
IsRefusedBy Failed a = ⊥
IsRefusedBy NoMemory a = ⊥

-- the answer of a command whose object is not accepted
abbrev pub IsNotAccepted : CheckError → Answer → Type 0
IsNotAccepted checks.EntryType a = a ≡ judged (Some accepted.EntryType)
IsNotAccepted (checks.CellType k) a = a ≡ judged (Some (accepted.CellType k))
IsNotAccepted (checks.Refused b i why) a = a ≡ judged (Some (accepted.Refused b i why))
IsNotAccepted checks.NoMemory a = ⊥

-- the text is a list of these faults, or is not a fault list
abbrev pub ReadsList : {V : Type 0} → (V → List Strike) → List ℕ → Result V ListFault → Type 0
ReadsList faults_of list (Ok v) = IsFaultList list (faults_of v)
ReadsList faults_of list (Err (list_faults.Line number)) = IsListError list (lists.Line number)
ReadsList faults_of list (Err list_faults.TooMany) = IsListError list lists.TooMany
ReadsList faults_of list (Err list_faults.Failed) = ⊥
ReadsList faults_of list (Err list_faults.NoMemory) = Unit {0}

-- a text with this property is a list of these faults, or is not a fault list
abbrev pub GetsList : {V : Type 0} → (V → List Strike) → (List ℕ → Type 0) → Result V ListFault → Type 0
GetsList faults_of Is (Ok v) = (list : List ℕ) × (Is list × IsFaultList list (faults_of v))
GetsList faults_of Is (Err (list_faults.Line number)) = (list : List ℕ) × (Is list × IsListError list (lists.Line number))
GetsList faults_of Is (Err list_faults.TooMany) = (list : List ℕ) × (Is list × IsListError list lists.TooMany)
GetsList faults_of Is (Err list_faults.Failed) = Unit {0}
GetsList faults_of Is (Err list_faults.NoMemory) = Unit {0}

-- after a failed load of a list, its name is recorded as the last that failed, and the count of failures has risen or
-- is 2^64 - 1; any other result leaves both unchanged
abbrev pub ListCause : {V : Type 0} → Word → Result V ListFault → ShelfLog → ShelfLog → Type 0
ListCause name (Ok v) old new = NoLoadFails old new
ListCause name (Err (list_faults.Line number)) old new = NoLoadFails old new
ListCause name (Err list_faults.TooMany) old new = NoLoadFails old new
ListCause name (Err list_faults.Failed) old new = LoadFails name old new
ListCause name (Err list_faults.NoMemory) old new = NoLoadFails old new

-- the answer of a command whose list is refused
abbrev pub IsListRefusedBy : ListFault → Answer → Type 0
IsListRefusedBy (list_faults.Line number) a = IsListAnswer (lists.Line number) a
IsListRefusedBy list_faults.TooMany a = IsListAnswer lists.TooMany a
IsListRefusedBy list_faults.Failed a = ⊥
IsListRefusedBy list_faults.NoMemory a = ⊥

-- the answer of a command whose assembly text is refused
abbrev pub IsTextRefused : AsmError → Answer → Type 0
IsTextRefused (texts.Text line) a = AssemblesAs (Text line) a
IsTextRefused (texts.Order line) a = AssemblesAs (Order line) a
IsTextRefused texts.TooLong a = AssemblesAs saids.TooLong a
IsTextRefused (texts.Object e) a = AssemblesAs (Broken e) a
IsTextRefused texts.NoMemory a = ⊥

-- the answer of a command whose link map is refused
abbrev pub IsMapRefused : MapError → Answer → Type 0
IsMapRefused (maps.Line line) a = a ≡ one_piece (link_line 1 line) 13
IsMapRefused (maps.Twice line) a = a ≡ one_piece (link_line 2 line) 13
IsMapRefused maps.NoMemory a = ⊥

-- the answer of a command whose modules cannot be linked
abbrev pub IsUnlinkedBy : LinkError → Answer → Type 0
IsUnlinkedBy (links.Cells m) a = a ≡ unlinked (link_refusals.Cells m)
IsUnlinkedBy (links.Rows m) a = a ≡ unlinked (link_refusals.Rows m)
IsUnlinkedBy (links.Code m b i) a = a ≡ unlinked (link_refusals.CodeOf m b i)
IsUnlinkedBy (links.TooBig m) a = a ≡ unlinked (link_refusals.TooBig m)
IsUnlinkedBy (links.Block line) a = a ≡ unlinked (link_refusals.NoBlock line)
IsUnlinkedBy (links.Stub line) a = a ≡ unlinked (link_refusals.Stub line)
IsUnlinkedBy (links.Missing line) a = a ≡ unlinked (link_refusals.Missing line)
IsUnlinkedBy (links.Types line) a = a ≡ unlinked (link_refusals.Types line)
IsUnlinkedBy links.NoMemory a = ⊥
