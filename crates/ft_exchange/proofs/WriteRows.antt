-- The typing row of an instruction that writes a register, in terms of the type that it gives the register.
use Rattle.std.proofs.Common.{◌≡◌, ℕ, zero, suc, Bool, true, false, ◌==◌, Option, Some, None, refl, sym, ap, ◌∙◌, subst}
use Rattle.std.proofs.Common.{eq-eqb, if◌then◌else◌}
use Rattle.std.proofs.lemmas.Bool.{or_left, or_right}
use Rattle.ft_isa.specs.declared.op.Op.{Op}
use Rattle.ft_isa.specs.declared.reg.Reg.{Reg}
use Rattle.ft_isa.specs.declared.colour.Colour.{Colour}
use Rattle.ft_isa.specs.declared.colour.Coloured.{Coloured}
use Rattle.ft_isa.specs.declared.basic.Base.{Base}
use Rattle.ft_isa.specs.declared.basic.Basic.{Basic}
use Rattle.ft_isa.specs.declared.instr.Instr.{Instr}
use Rattle.ft_isa.specs.declared.instr.Instr.TheVariants.{OpReg, OpWord, Mov, Ld, Idx}
use Rattle.ft_static.specs.Form.{Polynomial, Updates}
use Rattle.ft_static.specs.NormalForm.{constant, norm_op, norm_sel}
use Rattle.ft_types.specs.declared.object.Object.{Object}
use Rattle.ft_isa.specs.BasicTypes.{int, ref}
use Rattle.ft_typing.specs.TypedWord.{has_type, run_type}
use Rattle.ft_typing.specs.declared.why.Why.TheVariants as premise
use Rattle.ft_typing.specs.Premise.{Premise}
use Rattle.ft_typing.specs.Context.{Typed, Context, typed, with_type}
use Rattle.ft_typing.specs.RowWords.{Outcome, Goes, Fails, same_colour, need, for_typed, for_ref_over, for_run}
use Rattle.ft_typing.specs.RowWords.{run_form, seen_memory}
use Rattle.ft_typing.specs.TypingRow.{row}
use Rattle.ft_isa.specs.Instructions.{written, reads}

-- the type that each kind of instruction gives the register that it writes, from the types of those that it reads
of_op_reg : Op → Option Typed → Option Typed → Option Typed
of_op_reg op (Some s) (Some t) = if same_colour t.colour s.colour
    then Some (record { colour = s.colour; basic = int; form = norm_op op s.form t.form }) else None
of_op_reg op None t = None
of_op_reg op (Some s) None = None

of_op_word : Op → Coloured → Option Typed → Option Typed
of_op_word op value (Some s) = if same_colour value.colour s.colour
    then Some (record { colour = s.colour; basic = int; form = norm_op op s.form (constant value.word) }) else None
of_op_word op value None = None

of_mov : Bool → Coloured → Basic → Option Typed
of_mov has value basic = if has then Some (record { colour = value.colour; basic = basic; form = constant value.word })
    else None

of_ref : Colour → Updates → Polynomial → ℕ → Base → Option Typed
of_ref k m f zero base = None
of_ref k m f (suc n) base = Some (record { colour = k; basic = record { refs = n; base = base }; form = norm_sel m f })

of_ld : Colour → Updates → Option Typed → Option Typed
of_ld k m (Some s) = if same_colour s.colour k then of_ref k m s.form s.basic.refs s.basic.base else None
of_ld k m None = None

of_idx : ℕ → ℕ → Option Basic → Option Typed → Option Typed
of_idx first m b None = None
of_idx first m None (Some s) = None
of_idx first m (Some b) (Some s) = Some (record { colour = s.colour; basic = ref b; form = run_form first m s.form })

-- the type that an instruction gives the register that it writes, if its row continues
pub gives : Object → Context → Instr → Option Typed
gives o c (OpReg op rd rs rt) = of_op_reg op (typed c rs.number) (typed c rt.number)
gives o c (OpWord op rd rs value) = of_op_word op value (typed c rs.number)
gives o c (Mov rd basic value) = of_mov (has_type o value.word basic) value basic
gives o c (Ld k rd rs) = of_ld k (seen_memory k c) (typed c rs.number)
gives o c (Idx rd rs first m) = of_idx first m (run_type o first m) (typed c rs.number)
gives o c i = None

-- the row of a write, in terms of the type that it gives the register
unfoldable pub write_row : ℕ → Context → Option Typed → Premise → Outcome
write_row r c (Some t) p = Goes (with_type r t c)
write_row r c None p = Fails p

-- an outcome is the row of a write that gives register r this type, if any
pub record Gave (r : ℕ) (c : Context) (u : Option Typed) (x : Outcome) : Type 0 where
  pub failing : Premise
  pub row_is : x ≡ write_row r c u failing

-- a row that gives register r a type if a test passes, and fails otherwise, is such a row
gave_if : (r : ℕ) (c : Context) (p : Premise) (t : Typed) (b : Bool) →
    Gave r c (if b then Some t else None) (if b then Goes (with_type r t c) else Fails p)
unfolding write_row
gave_if r c p t true = record { failing = p; row_is = refl }
gave_if r c p t false = record { failing = p; row_is = refl }

gave_op_reg : (op : Op) (r : ℕ) (c : Context) (u v : Option Typed) →
    Gave r c (of_op_reg op u v) (for_typed u (λ s.
    for_typed v (λ t. need premise.Colour (same_colour t.colour s.colour)
    (Goes (with_type r (record { colour = s.colour; basic = int; form = norm_op op s.form t.form }) c)))))
unfolding of_op_reg write_row for_typed need
gave_op_reg op r c None v = record { failing = premise.Untyped; row_is = refl }
gave_op_reg op r c (Some s) None = record { failing = premise.Untyped; row_is = refl }
gave_op_reg op r c (Some s) (Some t) = gave_if r c premise.Colour _ (same_colour t.colour s.colour)

gave_op_word : (op : Op) (value : Coloured) (r : ℕ) (c : Context) (u : Option Typed) →
    Gave r c (of_op_word op value u) (for_typed u (λ s.
    need premise.Colour (same_colour value.colour s.colour)
    (Goes (with_type r (record { colour = s.colour; basic = int; form = norm_op op s.form (constant value.word) }) c))))
unfolding of_op_word write_row for_typed need
gave_op_word op value r c None = record { failing = premise.Untyped; row_is = refl }
gave_op_word op value r c (Some s) = gave_if r c premise.Colour _ (same_colour value.colour s.colour)

gave_mov : (value : Coloured) (basic : Basic) (r : ℕ) (c : Context) (b : Bool) →
    Gave r c (of_mov b value basic) (need premise.BasicType b
    (Goes (with_type r (record { colour = value.colour; basic = basic; form = constant value.word }) c)))
unfolding of_mov need
gave_mov value basic r c b = gave_if r c premise.BasicType _ b

gave_ref : (k : Colour) (m : Updates) (f : Polynomial) (r : ℕ) (c : Context) (n : ℕ) (base : Base) →
    Gave r c (of_ref k m f n base) (for_ref_over n base (λ b.
    Goes (with_type r (record { colour = k; basic = b; form = norm_sel m f }) c)))
unfolding of_ref write_row for_ref_over
gave_ref k m f r c zero base = record { failing = premise.NotRef; row_is = refl }
gave_ref k m f r c (suc n) base = record { failing = premise.NotRef; row_is = refl }

gave_ld : (k : Colour) (m : Updates) (r : ℕ) (c : Context) (u : Option Typed) →
    Gave r c (of_ld k m u) (for_typed u (λ s. need premise.Colour (same_colour s.colour k)
    (for_ref_over s.basic.refs s.basic.base (λ b. Goes
    (with_type r (record { colour = k; basic = b; form = norm_sel m s.form }) c)))))
unfolding of_ld write_row for_typed need
gave_ld k m r c None = record { failing = premise.Untyped; row_is = refl }
gave_ld k m r c (Some s) = by_test (same_colour s.colour k)
  where
    by_test : (b : Bool) → Gave r c (if b then of_ref k m s.form s.basic.refs s.basic.base else None) (if b
        then for_ref_over s.basic.refs s.basic.base (λ b.
        Goes (with_type r (record { colour = k; basic = b; form = norm_sel m s.form }) c)) else Fails premise.Colour)
    by_test true = gave_ref k m s.form r c s.basic.refs s.basic.base
    by_test false = record { failing = premise.Colour; row_is = refl }

gave_idx : (first m r : ℕ) (c : Context) (b : Option Basic) (u : Option Typed) →
    Gave r c (of_idx first m b u) (for_typed u (λ s.
    for_run b (λ t. Goes (with_type r (record { colour = s.colour; basic = ref t; form = run_form first m s.form })
    c))))
unfolding of_idx write_row for_typed for_run
gave_idx first m r c b None = record { failing = premise.Untyped; row_is = refl }
gave_idx first m r c None (Some s) = record { failing = premise.Array; row_is = refl }
gave_idx first m r c (Some b) (Some s) = record { failing = premise.Array; row_is = refl }

-- so is a write to register q, if q is r
gave_there : (q r : ℕ) (c : Context) (u : Option Typed) (x : Outcome) → Some q ≡ Some r → Gave q c u x → Gave r c u x
gave_there q r c u x e g = (let same : q ≡ r = cc in subst (λ n. Gave n c u x) same g)

pub gave : (o : Object) (c : Context) (i : Instr) (r : ℕ) → written i ≡ Some r → Gave r c (gives o c i) (row o c i)
unfolding gives
gave o c (OpReg op rd rs rt) r e = gave_there _ _ _ _ _ e
    (gave_op_reg op rd.number c (typed c rs.number) (typed c rt.number))
gave o c (OpWord op rd rs value) r e = gave_there _ _ _ _ _ e (gave_op_word op value rd.number c (typed c rs.number))
gave o c (Mov rd basic value) r e = gave_there _ _ _ _ _ e
    (gave_mov value basic rd.number c (has_type o value.word basic))
gave o c (Ld k rd rs) r e = gave_there _ _ _ _ _ e (gave_ld k (seen_memory k c) rd.number c (typed c rs.number))
gave o c (Idx rd rs first m) r e = gave_there _ _ _ _ _ e
    (gave_idx first m rd.number c (run_type o first m) (typed c rs.number))
gave o c i r e = cc

-- the row of a write continued, with the type that it gave the register
pub record Wrote (r : ℕ) (c d : Context) (u : Option Typed) : Type 0 where
  pub what : Typed
  pub given : u ≡ Some what
  pub after : d ≡ with_type r what c

wrote_by : (r : ℕ) (c d : Context) (u : Option Typed) (p : Premise) → write_row r c u p ≡ Goes d → Wrote r c d u
unfolding write_row
wrote_by r c d (Some t) p e = (let same : with_type r t c ≡ d = cc in
    record { what = t; given = refl; after = sym same })
wrote_by r c d None p e = cc

pub wrote : (o : Object) (c d : Context) (i : Instr) (r : ℕ) → written i ≡ Some r → row o c i ≡ Goes d →
    Wrote r c d (gives o c i)
wrote o c d i r e g = (let h = gave o c i r e in wrote_by r c d (gives o c i) h.failing (sym h.row_is ∙ g))

pub writes_on : (o : Object) (c : Context) (i : Instr) (r : ℕ) (t : Typed) → written i ≡ Some r → gives o c i ≡ Some t →
    row o c i ≡ Goes (with_type r t c)
unfolding write_row
writes_on o c i r t e g = (let h = gave o c i r e in h.row_is ∙ ap (λ u. write_row r c u h.failing) g)

-- the type given depends only on the registers read and, for a load, on the memory that it sees
pub gives_same : (o : Object) (c d : Context) (i : Instr) → ((r : ℕ) → reads i r ≡ true → typed d r ≡ typed c r) →
    ((k : Colour) (rd rs : Reg) → i ≡ Ld k rd rs → seen_memory k d ≡ seen_memory k c) → gives o d i ≡ gives o c i
unfolding gives
gives_same o c d (OpReg op rd rs rt) h m = λ j. of_op_reg op
    (h rs.number (or_left (rs.number == rs.number) (rt.number == rs.number) (eq-eqb rs.number rs.number refl)) j)
    (h rt.number (or_right (rs.number == rt.number) (rt.number == rt.number) (eq-eqb rt.number rt.number refl)) j)
gives_same o c d (OpWord op rd rs value) h m = ap (of_op_word op value) (h rs.number (eq-eqb rs.number rs.number refl))
gives_same o c d (Ld k rd rs) h m = λ j. of_ld k (m k rd rs refl j) (h rs.number (eq-eqb rs.number rs.number refl) j)
gives_same o c d (Idx rd rs first n) h m = ap (of_idx first n (run_type o first n))
    (h rs.number (eq-eqb rs.number rs.number refl))
gives_same o c d i h m = refl

-- it depends on the object only through the types of runs and of the words that are moved
pub gives_there : (o x : Object) (c : Context) (i : Instr) →
    ((first m : ℕ) → run_type x first m ≡ run_type o first m) →
    ((rd : Reg) (v : Coloured) (y : Basic) → i ≡ Mov rd y v → has_type x v.word y ≡ has_type o v.word y) → gives x c i
    ≡ gives o c i
unfolding gives
gives_there o x c (Mov rd basic value) runs words = ap (λ h. of_mov h value basic) (words rd value basic refl)
gives_there o x c (Idx rd rs first m) runs words = ap (λ b. of_idx first m b (typed c rs.number)) (runs first m)
gives_there o x c i runs words = refl
