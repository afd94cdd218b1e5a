use Rattle.std.proofs.Common.{◌∙◌, List, length, ap, sym, refl, slice_get, ℕ}
use Rattle.std.proofs.lemmas.Option.{slice_get_read, slice_get_past}
use Rattle.std.proofs.lemmas.Bool.{ltb-true, ltb-false}
use Rattle.ft_campaign.proofs.Begun.{struck_by_byte, struck_by_none}
use Rattle.ft_campaign.proofs.clean.KeptRun.is_struck.Goals as goal

pub returns-in-None : goal.returns-in-None
returns-in-None c = λ o w n clean.
    let k = c.args.fault.step in
    struck_by_none o c.args.fault w n c.args.self.now clean
    (ap (λ (xs : List ℕ). slice_get xs k) (sym c.deref.ensures.value)
    ∙ slice_get_past c.deref.result.now k (ltb-false k (length c.deref.result.now) (sym c.in-None.ensures.lookup.0)))

pub returns-in-Some : goal.returns-in-Some
returns-in-Some c = λ o w n clean.
    let k = c.args.fault.step in
    c.is_site.ensures
    ∙ struck_by_byte o c.args.fault w n c.args.self.now c.in-Some.entries.now clean
    (ap (λ (xs : List ℕ). slice_get xs k) (sym c.deref.ensures.value)
    ∙ slice_get_read c.deref.result.now (length c.deref.result.now) k c.in-Some.entries.now refl
    (ltb-true k (length c.deref.result.now) (sym c.in-Some.ensures.lookup.0)) c.in-Some.ensures.lookup.1)
