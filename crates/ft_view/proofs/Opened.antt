-- What a view's bytes contain at a place.
use Rattle.std.proofs.Common.{◌≡◌, ℕ, ◌+◌, ◌-◌, ◌*◌, ◌<◌, ◌≤◌, List, [], ◌∷◌, length, take, drop, None, Some, refl, sym}
use Rattle.std.proofs.Common.{ap, ◌∙◌, subst, arith}
use Rattle.std.specs.Prelude.{slice_get}
use Rattle.std.specs.Option.{option_map}
use Rattle.std.specs.Int.{Width}
use Rattle.std.proofs.lemmas.List.{length-map, length-drop, length-take-le, drop-take, take-take, drop-drop}
use Rattle.std.proofs.lemmas.Option.{slice_get-map}
use Rattle.ft_isa.proofs.Branches.{of_map}
use Rattle.ft_format.specs.declared.header.Header.{Header}
use Rattle.ft_format.specs.declared.places.Places.{Places}
use Rattle.ft_format.specs.Layout.{size, numbers, rows, code_layout}
use Rattle.ft_format.specs.Format.{AreBytes}
use Rattle.ft_format.specs.InstrRecords.{instr_row, instr_of}
use Rattle.ft_format.specs.Broken.{header_at, instrs_at, instrs_part, instr_rows_of, instrs_read, object_of}
use Rattle.ft_format.specs.Broken.{tables_read, broken}
use Rattle.ft_format.proofs.Layouts.{length_rows}
use Rattle.ft_format.proofs.InstrsFine.{IsPlain, row_plain}
use Rattle.ft_format.proofs.ReadWhole.{tables_of}
use Rattle.ft_view.specs.Viewed.{IsView}
use Rattle.ft_view.specs.Sections.{section_of}
use Rattle.ft_view.specs.declared.section.Section.TheVariants.{Instrs}
use Rattle.ft_view.proofs.Whole.{AreUnbroken, unbroken}
use Rattle.ft_view.proofs.Records.{record_at, row_at}
use Rattle.ft_view.specs.InPlace.{kind_in, a_in, b_in, c_in, x_in, high_in, low_in}
use Rattle.ft_view.specs.Known.{IsKnown}

-- the sections break no rule under the header that the view keeps
pub sections : (h : Header) (p : Places) (bytes : List ℕ) → IsView h p bytes → AreUnbroken h bytes
sections h p bytes v = subst (λ k. AreUnbroken k bytes) (sym v.header) (unbroken bytes v.unbroken)

-- an index below a count of the bytes' header is below that of the view's header
pub below : (h : Header) (p : Places) (bytes seen : List ℕ) (count : Header → ℕ) (i : ℕ) → IsView h p bytes → seen
    ≡ bytes → i < count (header_at seen) → i < count h
below h p bytes seen count i v e lt = subst (λ k. i < count k) (ap header_at e ∙ sym v.header) lt

-- the object has as many instructions as the header says, and each is the one that its record encodes
pub instr_count : (bytes : List ℕ) → length (object_of bytes).instrs ≡ (header_at bytes).instrs
unfolding tables_read
instr_count bytes =
    let h = header_at bytes in
    length-map (instr_rows_of h bytes) instr_of ∙ length_rows code_layout h.instrs (instrs_part h bytes)

pub instr_is : (bytes row : List ℕ) (i : ℕ) (x : _) → slice_get (instr_rows_of (header_at bytes) bytes) i ≡ Some row → x
    ≡ instr_of row → slice_get (object_of bytes).instrs i ≡ Some x
unfolding tables_read
instr_is bytes row i x there is =
    let h = header_at bytes in
    slice_get-map instr_of (instr_rows_of h bytes) i ∙ ap (option_map instr_of) there ∙ ap Some (sym is)

-- the record read at the place of record i of a section is record i
pub row_there : (ws : List Width) (count start : Header → ℕ) (h : Header) (p : Places) (bytes seen part row : List ℕ)
    (i at : ℕ) → IsView h p bytes → seen ≡ bytes → i < count (header_at seen) → at ≡ start h + size ws * i
    → part ≡ take (size ws) (drop at bytes) → row ≡ numbers ws part →
    slice_get (rows ws (count (header_at seen)) (drop (start (header_at seen)) seen)) i ≡ Some row
row_there ws count start h p bytes seen part row i at v e lt place is numbers_are =
    let lower = below h p bytes seen count i v e lt in
    let there : slice_get (rows ws (count h) (drop (start h) bytes)) i
    ≡ Some row = record_at ws (count h) i (start h) at bytes part row lower place is numbers_are in
    rw (e, ← v.header) there

-- the same record, read from the section of the instructions instead of from all bytes
pub code_inside : (h : Header) (p : Places) (bytes seen code : List ℕ) (i : ℕ) → IsView h p bytes → seen ≡ bytes → code
    ≡ section_of Instrs seen → i < (header_at seen).instrs → 16 * i + 16 ≤ length code
code_inside h p bytes seen code i v e is lt =
    let u = sections h p bytes v in
    let k = header_at seen in
    let whole : instrs_at k + 16 * k.instrs ≤ length seen = rw (e, ← v.header) (omega (arith, u.whole.whole)) in
    let room : 16 * k.instrs ≤ length (drop (instrs_at k) seen) =
    omega (arith, whole, length-drop (instrs_at k) seen) in
    let size_is : length code ≡ 16 * k.instrs = ap length is
    ∙ length-take-le (16 * k.instrs) (drop (instrs_at k) seen) room in
    omega (arith, size_is, lt)

pub code_there : (h : Header) (p : Places) (bytes seen code part row : List ℕ) (i : ℕ) → IsView h p bytes → seen
    ≡ bytes → code ≡ section_of Instrs seen → i < (header_at seen).instrs → part ≡ take 16 (drop (16 * i) code) → row
    ≡ numbers code_layout part
    → slice_get (instr_rows_of (header_at seen) seen) i ≡ Some row
code_there h p bytes seen code part row i v e code_is lt is numbers_are =
    let k = header_at seen in
    let bs = drop (instrs_at k) seen in
    let rest : ℕ = 16 * k.instrs - 16 * i in
    let all : 16 * i + rest ≡ 16 * k.instrs = omega (arith, lt) in
    let same : take 16 (drop (16 * i) (take (16 * k.instrs) bs)) ≡ take 16 (drop (16 * i) bs) =
    ap (λ n. take 16 (drop (16 * i) (take n bs))) (sym all) ∙ ap (take 16) (drop-take (16 * i) rest bs)
    ∙ take-take 16 rest (drop (16 * i) bs) (omega (arith, lt)) in
    let there = row_at code_layout k.instrs i bs lt in
    rw (numbers_are, is, code_is, same) there

-- a record's numbers, each read at its place
pub numbers_in : (bs : List ℕ) → numbers code_layout bs
    ≡ kind_in bs ∷ a_in bs ∷ b_in bs ∷ c_in bs ∷ x_in bs ∷ high_in bs ∷ low_in bs ∷ []
unfolding numbers
numbers_in bs =
    let two = drop-drop 1 1 bs in
    rw (two, drop-drop 1 2 bs, drop-drop 1 3 bs, drop-drop 4 4 bs, drop-drop 4 8 bs) refl

-- an instruction record of bytes that break no rule has a known kind, operation and registers
pub instr_known : (bytes part : List ℕ) (i : ℕ) → AreBytes bytes → broken bytes ≡ None
    → slice_get (instr_rows_of (header_at bytes) bytes) i ≡ Some (numbers code_layout part) → IsKnown part
instr_known bytes part i b n there =
    let instrs = instrs_read (header_at bytes) bytes in
    let rows_are = (tables_of bytes b n).1.instrs in
    let row_is : option_map instr_row (slice_get instrs i) ≡ Some (numbers code_layout part) =
    sym (slice_get-map instr_row instrs i) ∙ ap (λ (rs : List (List ℕ)). slice_get rs i) rows_are ∙ there in
    let of = of_map instr_row (slice_get instrs i) (numbers code_layout part) row_is in
    let plain = subst IsPlain (of.1.1 ∙ numbers_in part) (row_plain of.0) in
    record { kind = plain.0; op = plain.1; a = plain.2; b = plain.3; c = plain.4 }
