-- The typing row of a store, in terms of its pair.
use Rattle.std.proofs.Common.{◌≡◌, ℕ, zero, suc, Bool, true, false, ◌&&◌, ◌==◌, nat_lt, List, [], ◌∷◌, ◌++◌, length}
use Rattle.std.proofs.Common.{Option, Some, None, refl, sym, ap, ◌∙◌, eq-eqb, if◌then◌else◌}
use Rattle.std.proofs.lemmas.Bool.{or_left, or_right}
use Rattle.ft_isa.specs.declared.reg.Reg.{Reg}
use Rattle.ft_isa.specs.declared.colour.Colour.{Colour}
use Rattle.ft_isa.specs.declared.colour.Colour.TheVariants.{Green, Blue}
use Rattle.ft_isa.specs.declared.basic.Base.{Base}
use Rattle.ft_isa.specs.declared.instr.Instr.TheVariants.{St}
use Rattle.ft_static.specs.Form.{Polynomial, same_polynomial}
use Rattle.ft_static.specs.NormalForm.{norm_upd}
use Rattle.ft_static.proofs.Equal.{equal_polynomials}
use Rattle.ft_types.specs.declared.object.Object.{Object}
use Rattle.ft_typing.specs.TypedWord.{is_seen_as}
use Rattle.ft_typing.specs.declared.why.Why.TheVariants as premise
use Rattle.ft_typing.specs.Premise.{Premise}
use Rattle.ft_typing.specs.Context.{Typed, FormPair, Context, typed}
use Rattle.ft_typing.specs.TypingRow.{row}
use Rattle.ft_typing.specs.RowWords.{Outcome, Goes, Fails, same_colour, need, for_typed, for_ref_over, for_oldest}
use Rattle.ft_isa.specs.Instructions.{reads}

-- the pair of a store, if the premises on its registers hold
of_value : ℕ → Base → Polynomial → Typed → Option FormPair
of_value zero base f v = None
of_value (suc n) base f v = if is_seen_as v.basic (record { refs = n; base = base }) then Some (f, v.form) else None

pub of_store : Colour → Option Typed → Option Typed → Option FormPair
of_store k (Some a) (Some v) = if same_colour a.colour k && same_colour v.colour k
    then of_value a.basic.refs a.basic.base a.form v else None
of_store k None v = None
of_store k (Some a) None = None

-- the row of a store, in terms of its pair: what follows, or a failing premise
store_row : Option FormPair → (FormPair → Outcome) → Premise → Outcome
store_row (Some p) next f = next p
store_row None next f = Fails f

record Stored (u : Option FormPair) (next : FormPair → Outcome) (x : Outcome) : Type 0 where
  failing : Premise
  row_is : x ≡ store_row u next failing

stored_value : (n : ℕ) (base : Base) (f : Polynomial) (v : Typed) (next : FormPair → Outcome) →
    Stored (of_value n base f v) next (for_ref_over n base (λ b.
    need premise.BasicType (is_seen_as v.basic b) (next (f, v.form))))
unfolding of_value store_row for_ref_over need
stored_value zero base f v next = record { failing = premise.NotRef; row_is = refl }
stored_value (suc n) base f v next = by_test (is_seen_as v.basic (record { refs = n; base = base }))
  where
    by_test : (b : Bool) → Stored (if b then Some (f, v.form) else None) next (if b then next (f, v.form)
        else Fails premise.BasicType)
    by_test true = record { failing = premise.BasicType; row_is = refl }
    by_test false = record { failing = premise.BasicType; row_is = refl }

stored : (k : Colour) (u w : Option Typed) (next : FormPair → Outcome) →
    Stored (of_store k u w) next (for_typed u (λ a.
    for_typed w (λ v. need premise.Colour (same_colour a.colour k
    && same_colour v.colour k) (for_ref_over a.basic.refs a.basic.base (λ b.
    need premise.BasicType (is_seen_as v.basic b) (next (a.form, v.form)))))))
unfolding of_store store_row for_typed need
stored k None w next = record { failing = premise.Untyped; row_is = refl }
stored k (Some a) None next = record { failing = premise.Untyped; row_is = refl }
stored k (Some a) (Some v) next = by_test (same_colour a.colour k && same_colour v.colour k)
  where
    by_test : (b : Bool) → Stored (if b then of_value a.basic.refs a.basic.base a.form v else None) next (if b
        then for_ref_over a.basic.refs a.basic.base (λ b.
        need premise.BasicType (is_seen_as v.basic b) (next (a.form, v.form))) else Fails premise.Colour)
    by_test true = stored_value a.basic.refs a.basic.base a.form v next
    by_test false = record { failing = premise.Colour; row_is = refl }

-- the rest of the row of a green store and of a blue one, given its pair
queues : Context → FormPair → Outcome
queues c p = need premise.QueueFull (nat_lt (length c.queue) 8) (Goes (record c { queue = c.queue ++ p ∷ [] }))

commits_on : Context → FormPair → Outcome
commits_on c p = for_oldest c.queue (λ e q. need premise.Addresses (same_polynomial p.0 e.0)
    (need premise.Values (same_polynomial p.1 e.1) (Goes (record c { queue = q; memory = norm_upd c.memory p.0 p.1 }))))

-- the row of a green store continued: there was room, and its pair was added
pub record Queued (c d : Context) (u : Option FormPair) : Type 0 where
  pub pair : FormPair
  pub given : u ≡ Some pair
  pub room : nat_lt (length c.queue) 8 ≡ true
  pub after : d ≡ record c { queue = c.queue ++ pair ∷ [] }

queued_by : (c d : Context) (u : Option FormPair) (f : Premise) → store_row u (queues c) f ≡ Goes d → Queued c d u
unfolding store_row queues need
queued_by c d None f e = cc
queued_by c d (Some p) f e = by_test (nat_lt (length c.queue) 8) refl e
  where
    by_test : (b : Bool) → nat_lt (length c.queue) 8 ≡ b →
        (if b then Goes (record c { queue = c.queue ++ p ∷ [] }) else Fails premise.QueueFull) ≡ Goes d →
        Queued c d (Some p)
    by_test true r h = (let same : record c { queue = c.queue ++ p ∷ [] } ≡ d = cc in
        record { pair = p; given = refl; room = r; after = sym same })
    by_test false r h = cc

pub queued : (o : Object) (c d : Context) (rd rs : Reg) → row o c (St Green rd rs) ≡ Goes d →
    Queued c d (of_store Green (typed c rd.number) (typed c rs.number))
unfolding queues
queued o c d rd rs e = (let h = stored Green (typed c rd.number) (typed c rs.number) (queues c) in
    queued_by c d _ h.failing (sym h.row_is ∙ e))

pub queues_on : (o : Object) (c : Context) (rd rs : Reg) (p : FormPair) →
    of_store Green (typed c rd.number) (typed c rs.number) ≡ Some p → nat_lt (length c.queue) 8 ≡ true →
    row o c (St Green rd rs) ≡ Goes (record c { queue = c.queue ++ p ∷ [] })
unfolding queues store_row need
queues_on o c rd rs p e r = (let h = stored Green (typed c rd.number) (typed c rs.number) (queues c) in
    h.row_is ∙ ap (λ u. store_row u (queues c) h.failing) e
    ∙ ap (λ b. if b then Goes (record c { queue = c.queue ++ p ∷ [] }) else Fails premise.QueueFull) r)

-- the row of a blue store continued: its pair was the oldest
pub record Committed (c d : Context) (u : Option FormPair) : Type 0 where
  pub pair : FormPair
  pub given : u ≡ Some pair
  pub others : List FormPair
  pub queue : c.queue ≡ pair ∷ others
  pub after : d ≡ record c { queue = others; memory = norm_upd c.memory pair.0 pair.1 }

committed_by : (c d : Context) (p : FormPair) (q : List FormPair) → c.queue ≡ q →
    for_oldest q (λ e q. need premise.Addresses (same_polynomial p.0 e.0)
    (need premise.Values (same_polynomial p.1 e.1) (Goes (record c { queue = q; memory = norm_upd c.memory p.0 p.1 }))))
    ≡ Goes d → Committed c d (Some p)
unfolding for_oldest need
committed_by c d p [] is e = cc
committed_by c d p (x ∷ q) is e = by_tests (same_polynomial p.0 x.0) (same_polynomial p.1 x.1) refl refl e
  where
    by_tests : (s t : Bool) → same_polynomial p.0 x.0 ≡ s → same_polynomial p.1 x.1 ≡ t →
        (if s then (if t then Goes (record c { queue = q; memory = norm_upd c.memory p.0 p.1 })
        else Fails premise.Values)
        else Fails premise.Addresses) ≡ Goes d → Committed c d (Some p)
    by_tests true true es et h =
        (let a = (equal_polynomials p.0 x.0).0 es in
        let b = (equal_polynomials p.1 x.1).0 et in
        let same : record c { queue = q; memory = norm_upd c.memory p.0 p.1 } ≡ d = cc in
        record { pair = p; given = refl; others = q; queue = is ∙ (λ j. (sym a j, sym b j) ∷ q); after = sym same })
    by_tests true false es et h = cc
    by_tests false t es et h = cc

committed_of : (c d : Context) (u : Option FormPair) (f : Premise) → store_row u (commits_on c) f ≡ Goes d →
    Committed c d u
unfolding store_row commits_on
committed_of c d None f e = cc
committed_of c d (Some p) f e = committed_by c d p c.queue refl e

pub committed : (o : Object) (c d : Context) (rd rs : Reg) → row o c (St Blue rd rs) ≡ Goes d →
    Committed c d (of_store Blue (typed c rd.number) (typed c rs.number))
unfolding commits_on
committed o c d rd rs e = (let h = stored Blue (typed c rd.number) (typed c rs.number) (commits_on c) in
    committed_of c d _ h.failing (sym h.row_is ∙ e))

committed_on_by : (c : Context) (p : FormPair) (q : List FormPair) → commits_on (record c { queue = p ∷ q }) p
    ≡ Goes (record c { queue = q; memory = norm_upd c.memory p.0 p.1 })
unfolding commits_on for_oldest need
committed_on_by c p q = λ j. if sames p.0 j then (if sames p.1 j
    then Goes (record c { queue = q; memory = norm_upd c.memory p.0 p.1 }) else Fails premise.Values)
    else Fails premise.Addresses
  where
    sames : (x : Polynomial) → same_polynomial x x ≡ true
    sames x = (equal_polynomials x x).1 refl

pub commits_now : (o : Object) (c : Context) (rd rs : Reg) (p : FormPair) (q : List FormPair) →
    of_store Blue (typed c rd.number) (typed c rs.number) ≡ Some p → c.queue ≡ p ∷ q → row o c (St Blue rd rs)
    ≡ Goes (record c { queue = q; memory = norm_upd c.memory p.0 p.1 })
unfolding commits_on store_row
commits_now o c rd rs p q e is =
    let h = stored Blue (typed c rd.number) (typed c rs.number) (commits_on c) in
    h.row_is ∙ ap (λ u. store_row u (commits_on c) h.failing) e ∙ (λ j. commits_on (record c { queue = is j }) p)
    ∙ committed_on_by c p q

pub store_same : (k : Colour) (c d : Context) (rd rs : Reg) →
    ((r : ℕ) → reads (St k rd rs) r ≡ true → typed d r ≡ typed c r) → of_store k (typed d rd.number) (typed d rs.number)
    ≡ of_store k (typed c rd.number) (typed c rs.number)
store_same k c d rd rs h = λ j. of_store k (h rd.number
    (or_left (rd.number == rd.number) (rs.number == rd.number) (eq-eqb rd.number rd.number refl)) j)
    (h rs.number (or_right (rd.number == rs.number) (rs.number == rs.number) (eq-eqb rs.number rs.number refl)) j)
