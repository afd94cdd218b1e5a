use Rattle.std.proofs.Common.{◌≡◌, ◌≤◌, ℕ, List, length, take, Option, Some, None, IfSome, sym, ap, ◌∙◌}
use Rattle.std.proofs.lemmas.List.{take_all}
use Rattle.ft_isa.specs.PlanText.{IsSiteText}
use Rattle.ft_isa.specs.Reading.{state_after, next_site, whole_site}
use Rattle.ft_isa.specs.declared.plan.Site.{Site}
use Rattle.ft_isa.specs.declared.site_text.SiteRead.{SiteRead}
use Rattle.ft_isa.specs.declared.site_text.SiteRead.TheVariants.{Empty}
use Rattle.ft_isa.proofs.Readers.{state_after-more, reads_ok, reads_only, refused_at}
use Rattle.ft_isa.proofs.SiteRead.{site_told, IsSiteRead, site_reader}
use Rattle.ft_isa.proofs.site_text.read_site.Goals as goal

-- at the end of the text, a site is returned only if the text is its text
ends_as : (text : List ℕ) (read : SiteRead) (o : Option Site) → state_after next_site Empty text ≡ Some read →
    whole_site read ≡ o → IfSome o (IsSiteText text)
ends_as text read None e f = tt
ends_as text read (Some site) e f = reads_ok next_site whole_site Empty site_told IsSiteRead IsSiteText site_reader read
    site text e f

-- once all bytes of a text are read, the state is the one after the whole text
whole_text : (text : List ℕ) (i : ℕ) (read : SiteRead) → length text ≤ i → state_after next_site Empty (take i text)
    ≡ Some read → state_after next_site Empty text ≡ Some read
whole_text text i read past e = ap (state_after next_site Empty) (sym (take_all i text past)) ∙ e

pub returns-in_default-clause-exact : goal.returns-in_default-clause-exact
returns-in_default-clause-exact c =
    let refused = refused_at next_site whole_site Empty site_told IsSiteRead IsSiteText site_reader c.loop-byte.read
    c.args.text.now c.loop-byte.byte-index c.loop-byte-test.true c.loop-byte.invariant (sym c.next.ensures
    ∙ c.in_default.is) in
    λ site h. absurd (refused.none site h)

pub loop-byte-preserved : goal.loop-byte-preserved
loop-byte-preserved c =
    state_after-more next_site Empty c.loop-byte.read c.in-Some.next c.args.text.now c.loop-byte.byte-index
    c.loop-byte-test.true c.loop-byte.invariant (sym c.next.ensures ∙ c.in-Some.is)

pub returns-clause-some : goal.returns-clause-some
returns-clause-some c =
    ends_as c.args.text.now c.loop-byte.read c.whole.result
    (whole_text c.args.text.now c.loop-byte.byte-index c.loop-byte.read c.loop-byte-test.false c.loop-byte.invariant)
    (sym c.whole.ensures)

pub returns-clause-exact : goal.returns-clause-exact
returns-clause-exact c = λ site h.
    c.whole.ensures
    ∙ reads_only next_site whole_site Empty site_told IsSiteRead IsSiteText site_reader c.loop-byte.read site
    c.args.text.now
    (whole_text c.args.text.now c.loop-byte.byte-index c.loop-byte.read c.loop-byte-test.false c.loop-byte.invariant) h
