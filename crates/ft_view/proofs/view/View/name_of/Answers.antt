use Rattle.std.proofs.Common.{◌≡◌, ℕ, ◌+◌, ◌-◌, take, drop, sym, ap, ◌∙◌, arith}
use Rattle.std.proofs.lemmas.List.{drop-drop}
use Rattle.ft_format.specs.Fields.{cell_numbers}
use Rattle.ft_format.specs.Values.{past_of}
use Rattle.ft_format.specs.Broken.{header_at, names_at, names_part}
use Rattle.ft_view.specs.Viewed.{cell_records}
use Rattle.ft_view.proofs.At.{ends_at}
use Rattle.ft_view.proofs.Opened.{sections}
use Rattle.ft_view.proofs.CountedParts.{cell_count, cell_ends, name_is}
use Rattle.ft_view.proofs.view.View.name_of.Goals as goal

pub name_before-start-requires : goal.name_before-start-requires
name_before-start-requires c = omega (arith, c.requires, cell_count c.args.self.now)

pub cell_record-past-requires : goal.cell_record-past-requires
cell_record-past-requires c = omega (arith, c.requires, cell_count c.args.self.now)

pub overflow_sub-past : goal.overflow_sub-past
overflow_sub-past c =
    let seen = c.args.self.now in
    let ends = cell_ends c.self.inside.header c.self.inside.at c.self.inside.bytes.now seen c.self.invariant
    c.self.view_is in
    let a = ends_at past_of (header_at seen).names 0 (cell_records seen) c.args.k
    (cell_numbers c.cell_record-past.result) ends c.cell_record-past.ensures in
    omega (arith, a.0, c.name_before-start.ensures)

pub stretch-requires : goal.stretch-requires
stretch-requires c =
    let seen = c.args.self.now in
    let ends = cell_ends c.self.inside.header c.self.inside.at c.self.inside.bytes.now seen c.self.invariant
    c.self.view_is in
    let a = ends_at past_of (header_at seen).names 0 (cell_records seen) c.args.k
    (cell_numbers c.cell_record-past.result) ends c.cell_record-past.ensures in
    let u = sections c.self.inside.header c.self.inside.at c.self.inside.bytes.now c.self.invariant in
    let same : (header_at seen).names ≡ c.self.inside.header.names = ap (λ b. (header_at b).names) (sym c.self.view_is)
    ∙ ap (λ h. h.names) (sym c.self.invariant.header) in
    omega (arith, a.0, a.1, c.name_before-start.ensures, u.whole.whole, c.self.invariant.places.names, same)

pub returns : goal.returns
returns c =
    let seen = c.args.self.now in
    let h = c.self.inside.header in
    let bytes = c.self.inside.bytes.now in
    let start = c.name_before-start.result in
    let count : ℕ = c.cell_record-past.result.past - start in
    let name : c.stretch.result.now ≡ take count (drop start (names_part (header_at seen) seen)) =
    c.stretch.ensures.bytes ∙ ap (λ a. take count (drop (a + start) bytes)) c.self.invariant.places.names
    ∙ ap (take count) (sym (drop-drop start (names_at h) bytes))
    ∙ ap (λ k. take count (drop start (names_part k bytes))) c.self.invariant.header
    ∙ ap (λ b. take count (drop start (names_part (header_at b) b))) c.self.view_is in
    name_is seen c.stretch.result.now c.args.k start _ _ _ _ _ c.cell_record-past.ensures c.name_before-start.ensures
    name
