-- What may be told of the files and the script of a call, given what is told of a part of it.
use Rattle.std.proofs.Common.{◌≡◌, ◌∙◌, ℕ, ◌<◌, ◌≤◌, List, [], ◌∷◌, ◌++◌, length, take, Option, Some, None, Result, Ok}
use Rattle.std.proofs.Common.{Err, refl, sym, ap}
use Rattle.std.proofs.Common.{subst, arith, append-nil, length-append}
use Rattle.ft_edge.specs.declared.shelf.Load.{Load}
use Rattle.ft_edge.specs.declared.shelf.Load.TheVariants.{Whole, TooLong}
use Rattle.ft_edge.specs.declared.shelf.LoadFault.{LoadFault}
use Rattle.ft_edge.specs.Loads.{Files, Loads}
use Rattle.ft_edge.specs.Heard.{LoadsFrom}
use Rattle.ft_format.specs.Format.{AreBytes}
use Rattle.ft_isa.specs.declared.plan.Strike.{Strike}
use Rattle.ft_tool.specs.declared.load.ListFault.{ListFault}
use Rattle.ft_tool.specs.declared.load.ListFault.TheVariants as lists
use Rattle.ft_tool.specs.Files.{Gives, ReadsList, GetsList}
use Rattle.ft_tool.specs.Known.{MayHold, revealed, heard}
use Rattle.ft_tool.proofs.Mapped.{gives}

-- files that agree with a shelf after a call agree with it before the call
pub held_before : {known told : Option Files} {New Old : Files → Type 0} → ((files : Files) → New files → Old files)
    → MayHold known New told → MayHold known Old told
held_before f (revealed e) = revealed e
held_before f (heard files e h) = heard files e (f files h)

-- what may be told before a call may be told after it, if the revealed files are the same
pub held_between : {known between told : Option Files} {New : Files → Type 0} → between ≡ known
    → MayHold known New told → MayHold between New told
held_between same (revealed e) = revealed (e ∙ sym same)
held_between same (heard files e h) = heard files e h

loads_heard : (known : Option Files) (files : Files) (name : List ℕ) (limit : ℕ) (into : List ℕ)
    (r : Result Load LoadFault) → Loads known name limit into r → LoadsFrom files name limit into r
    → Loads (Some files) name limit into r
loads_heard known files name limit into (Ok Whole) l f = (l.0, f)
loads_heard known files name limit into (Ok TooLong) l f = (l.0, f)
loads_heard known files name limit into (Err e) l f = l

-- what a load gives, whatever may be told of the files
pub gives_held : {known told : Option Files} {New Old : Files → Type 0} (name : List ℕ) (limit : ℕ) (into : List ℕ)
    (r : Result Load LoadFault) → AreBytes into → Loads known name limit into r
    → ((files : Files) → New files → Old files × LoadsFrom files name limit into r) → MayHold known New told
    → Gives told name limit into r
gives_held {known} name limit into r is loads after (revealed e) =
    subst (λ t. Gives t name limit into r) (sym e) (gives known name limit into r is loads)
gives_held {known} name limit into r is loads after (heard files e h) =
    subst (λ t. Gives t name limit into r) (sym e)
    (gives (Some files) name limit into r is (loads_heard known files name limit into r loads (after files h).1))

-- what was read of a list with a property is what a list with this property gives
pub reads_gets : {V : Type 0} (faults_of : V → List Strike) (Is : List ℕ → Type 0) (list : List ℕ)
    (r : Result V ListFault) → Is list → ReadsList faults_of list r → GetsList faults_of Is r
reads_gets faults_of Is list (Ok v) is h = (list, (is, h))
reads_gets faults_of Is list (Err (lists.Line number)) is h = (list, (is, h))
reads_gets faults_of Is list (Err lists.TooMany) is h = (list, (is, h))
reads_gets faults_of Is list (Err lists.Failed) is h = tt
reads_gets faults_of Is list (Err lists.NoMemory) is h = tt

-- a property of a list may be replaced by what follows from it
pub gets_map : {V : Type 0} (faults_of : V → List Strike) (P Q : List ℕ → Type 0) (r : Result V ListFault)
    → ((list : List ℕ) → P list → Q list) → GetsList faults_of P r → GetsList faults_of Q r
gets_map faults_of P Q (Ok v) f h = (h.0, (f h.0 h.1.0, h.1.1))
gets_map faults_of P Q (Err (lists.Line number)) f h = (h.0, (f h.0 h.1.0, h.1.1))
gets_map faults_of P Q (Err lists.TooMany) f h = (h.0, (f h.0 h.1.0, h.1.1))
gets_map faults_of P Q (Err lists.Failed) f h = tt
gets_map faults_of P Q (Err lists.NoMemory) f h = tt
