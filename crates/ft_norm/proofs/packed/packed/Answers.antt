use Rattle.std.proofs.Common.{◌∙◌, ◌++◌, [], ◌∷◌, ap, map, subst, sym, take}
use Rattle.std.proofs.lemmas.List.{map-append, take_all, take_more}
use Rattle.ft_norm.specs.Packing.{ArePacked, unpacked}
use Rattle.ft_norm.proofs.Packing.{blank, packed_push, small_read}
use Rattle.ft_norm.proofs.packed.packed.Goals as goal

pub loop-term-init : goal.loop-term-init
loop-term-init c = record {
  same = ap (map unpacked) c.in_ok-list.ensures.items;
  packed = subst ArePacked (sym c.in_ok-list.ensures.items) tt;
}

pub of-requires : goal.of-requires
of-requires c = small_read c.args.terms.now c.loop-term.term-index blank c.requires c.loop-term-test.true

pub loop-term-preserved : goal.loop-term-preserved
loop-term-preserved c =
    let ps = c.loop-term.list.items in
    let p = c.of.result in
    let i = c.loop-term.term-index in
    record {
      same = ap (map unpacked) c.in_ok-push.ensures.items
          ∙ (map-append unpacked ps (p ∷ []) ∙ (ap (λ ts. ts ++ unpacked p ∷ []) c.loop-term.invariant.same
          ∙ (ap (λ t. take i c.args.terms.now ++ t ∷ []) c.of.ensures.same
          ∙ sym (take_more c.args.terms.now i blank c.loop-term-test.true))));
      packed = subst ArePacked (sym c.in_ok-push.ensures.items)
          (packed_push ps p c.loop-term.invariant.packed c.of.ensures.packed);
    }

pub returns-clause-same : goal.returns-clause-same
returns-clause-same c = c.loop-term.invariant.same
    ∙ take_all c.loop-term.term-index c.args.terms.now c.loop-term-test.false

pub returns-clause-packed : goal.returns-clause-packed
returns-clause-packed c = c.loop-term.invariant.packed
