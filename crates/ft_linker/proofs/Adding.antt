-- The totals and the invariant of the linker after one more module.
use Rattle.std.proofs.Common.{◌≡◌, ℕ, suc, ◌+◌, ◌≤◌, ◌<◌, ◌^◌, true, List, [], ◌∷◌, ◌++◌, length}
use Rattle.std.proofs.Common.{Option, Some, None, refl, sym, ap, ◌∙◌, subst, arith}
use Rattle.std.specs.Prelude.{All, ◌&&◌, sum_by}
use Rattle.std.specs.List.{list_all}
use Rattle.std.specs.Option.{option_or, option_map}
use Rattle.std.proofs.lemmas.List.Elements.{All-append}
use Rattle.std.proofs.lemmas.List.Sums.{sum_by-append, sum_by-cons}
use Rattle.ft_isa.proofs.Lists.{all_there, all_of_one}
use Rattle.ft_types.specs.declared.object.Object.{Object}
use Rattle.ft_types.specs.Spellable.{IsSpellable, reg_row_count, queue_row_count}
use Rattle.ft_typing.specs.Accepted.{IsAccepted}
use Rattle.ft_modules.specs.Linkable.{AreFew}
use Rattle.ft_modules.specs.LinkRefusals.{LinkRefusal, Cells, CodeOf, Rows, TooBig, are_few, first_walk_fault}
use Rattle.ft_modules.specs.LinkRefusals.{has_plain_rows, is_plain_cell, modules_refusal, same_cells, unless}
use Rattle.ft_modules.proofs.Deciding.{few_are, or_none}
use Rattle.ft_modules.proofs.Elements.{all_of}
use Rattle.ft_modules.proofs.InTurn.{in_turn}
use Rattle.ft_linker.specs.Linking.{AreAdded, added_refusal, cells_of, turns_refusal}
use Rattle.ft_linker.specs.Totals.{HasFew, has_few, totals_of}
use Rattle.ft_linker.specs.declared.totals.Totals.{Totals}
use Rattle.ft_modules.proofs.Exact.{unless_true}

-- TOTALS

-- a sum over the modules and one more is the sum so far plus the new module's part
pub sum_more : (f : Object → ℕ) (ms : List Object) (o : Object) → sum_by f ms + f o ≡ sum_by f (ms ++ o ∷ [])
sum_more f ms o = let a = sum_by-append f ms (o ∷ []) in let c = sum_by-cons f o [] in omega (arith, a, c)

pub totals_more : (t : Totals) (ms : List Object) (o : Object) → t ≡ totals_of ms →
    ◌≡◌ {A = Totals} (record {
      nodes = t.nodes + length o.nodes;
      types = t.types + length o.types;
      reg_rows = t.reg_rows + reg_row_count o.types;
      queue_rows = t.queue_rows + queue_row_count o.types;
      blocks = t.blocks + length o.blocks;
      instrs = t.instrs + length o.instrs;
      substs = t.substs + length o.substs;
    })
    (totals_of (ms ++ o ∷ []))
totals_more t ms o e = ap (λ (u : Totals). let r : Totals = record {
  nodes = u.nodes + length o.nodes;
  types = u.types + length o.types;
  reg_rows = u.reg_rows + reg_row_count o.types;
  queue_rows = u.queue_rows + queue_row_count o.types;
  blocks = u.blocks + length o.blocks;
  instrs = u.instrs + length o.instrs;
  substs = u.substs + length o.substs;
} in r) e
    ∙ (λ i. record {
      nodes = sum_more (λ (x : Object). length x.nodes) ms o i;
      types = sum_more (λ (x : Object). length x.types) ms o i;
      reg_rows = sum_more (λ (x : Object). reg_row_count x.types) ms o i;
      queue_rows = sum_more (λ (x : Object). queue_row_count x.types) ms o i;
      blocks = sum_more (λ (x : Object). length x.blocks) ms o i;
      instrs = sum_more (λ (x : Object). length x.instrs) ms o i;
      substs = sum_more (λ (x : Object). length x.substs) ms o i;
    })

pub has_few_of : (t : Totals) (ms : List Object) → t ≡ totals_of ms → AreFew ms → HasFew t
has_few_of t ms e h = subst HasFew (sym e) (record {
  nodes = h.nodes;
  types = h.types;
  reg_rows = h.reg_rows;
  queue_rows = h.queue_rows;
  blocks = h.blocks;
  instrs = h.instrs;
  substs = h.substs;
})

pub few_by_totals : (t : Totals) (ms : List Object) → t ≡ totals_of ms → has_few t ≡ are_few ms
unfolding are_few
few_by_totals t ms e = ap has_few e

-- there are at most as many modules as code types, since each module has at least one
count_types : (ms : List Object) → All IsSpellable ms → length ms ≤ sum_by (λ (o : Object). length o.types) ms
count_types [] h = omega arith
count_types (o ∷ os) h =
    let s = sum_by-cons (λ (x : Object). length x.types) o os in
    let some = (all_there IsSpellable (o ∷ os) 0 o h refl).some_type in
    let rest = count_types os (all_of IsSpellable os (λ k x e. all_there IsSpellable (o ∷ os) (suc k) x h e)) in
    omega (arith, s, some, rest)

pub counted : (ms : List Object) → AreAdded ms → length ms < 2 ^ 32
counted ms h = let c = count_types ms h.spelled in let f = h.few.types in omega (arith, c, f)

-- ADDED MODULES

-- if none of four refusals applies, the last one does not
last_part : (a b c d : Option LinkRefusal) → option_or a (option_or b (option_or c d)) ≡ None → d ≡ None
last_part None None None d e = e
last_part None None (Some z) d e = cc
last_part None (Some y) c d e = cc
last_part (Some x) b c d e = cc

-- a module that is not refused keeps the totals within their limits
passes_few : (ms : List Object) (o : Object) → added_refusal ms o ≡ None → are_few (ms ++ o ∷ []) ≡ true
passes_few ms o e =
    unless_true (are_few (ms ++ o ∷ [])) (TooBig (length ms))
    (last_part (unless (same_cells o.cells (cells_of ms o) && list_all is_plain_cell o.cells) (Cells (length ms)))
    (unless (list_all has_plain_rows o.types) (Rows (length ms)))
    (option_map (λ f. CodeOf (length ms) f.0 f.1) (first_walk_fault o 0 o.blocks))
    (unless (are_few (ms ++ o ∷ [])) (TooBig (length ms))) e)

turns_more : (ms : List Object) (o : Object) → turns_refusal ms ≡ None → added_refusal ms o ≡ None →
    turns_refusal (ms ++ o ∷ []) ≡ None
unfolding modules_refusal
turns_more [] o h e = in_turn o.cells [] o ∙ e
turns_more (f ∷ fs) o h e = in_turn f.cells (f ∷ fs) o ∙ or_none _ _ h e

pub added_more : (ms : List Object) (o : Object) → AreAdded ms → IsSpellable o → IsAccepted o → added_refusal ms o
    ≡ None → AreAdded (ms ++ o ∷ [])
added_more ms o h s a e = record {
  spelled = All-append IsSpellable ms (o ∷ []) h.spelled (all_of_one IsSpellable o s);
  accepted = All-append IsAccepted ms (o ∷ []) h.accepted (all_of_one IsAccepted o a);
  unrefused = turns_more ms o h.unrefused e;
  few = few_are (ms ++ o ∷ []) (passes_few ms o e);
}

pub none_added : AreAdded []
none_added = record {
  spelled = all_of IsSpellable [] (λ k x e. cc);
  accepted = all_of IsAccepted [] (λ k x e. cc);
  unrefused = refl;
  few = record {
    nodes = omega arith;
    types = omega arith;
    reg_rows = omega arith;
    queue_rows = omega arith;
    blocks = omega arith;
    instrs = omega arith;
    substs = omega arith;
  };
}
