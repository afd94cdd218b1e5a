-- The first misused name of statements in sequence, and what names refer to if none is misused.
use Rattle.std.proofs.Common.{◌≡◌, Vec, Global, subst, ℕ, List, [], ◌∷◌, ◌++◌, Option, Some, None, Ok, refl, sym, ap}
use Rattle.std.proofs.Common.{◌∙◌}
use Rattle.ft_syntax.specs.Plain.{Expression, plain_expression, plain_statement, plain_list, StatementList, none}
use Rattle.ft_syntax.specs.Plain.{assign, assign_at, loop, choose, follow}
use Rattle.ft_syntax.specs.Syntax.{Named, named}
use Rattle.ft_syntax.specs.declared.spot.Spot.{Spot}
use Rattle.ft_syntax.specs.declared.expr.Expr.{Expr}
use Rattle.ft_syntax.specs.declared.stmt.Stmt.{Stmt, Assign, AssignAt, While, If}
use Rattle.ft_syntax.proofs.PlainForms.{assign_form, assign_at_form, while_form, if_form, list_empty, list_push}
use Rattle.ft_scope.specs.declared.slot.Slot.{Slot}
use Rattle.ft_scope.specs.declared.slot.Slot.TheVariants.{Cell, Var, Run}
use Rattle.ft_scope.specs.Scope.{found, first_of, bare_misuse, index_misuse, misused_expression, misused}
use Rattle.ft_scope.specs.Size.{same_slot, SlotFits, RunFits, ExpressionFits, StatementsFit}
use Rattle.ft_scope.specs.Renames.{AnyFits}

-- `first_of` is associative
pub first_three : (a b c : Option ℕ) → first_of (first_of a b) c ≡ first_of a (first_of b c)
first_three (Some at) b c = refl
first_three None b c = refl

-- `first_of` with `None` as its second argument is its first argument
pub first_end : (a : Option ℕ) → first_of a None ≡ a
first_end (Some at) = refl
first_end None = refl

-- if `first_of` is `None`, both of its arguments are `None`
pub first_left : (a b : Option ℕ) → first_of a b ≡ None → a ≡ None
first_left (Some at) b h = h
first_left None b h = refl

pub first_right : (a b : Option ℕ) → first_of a b ≡ None → b ≡ None
first_right (Some at) b h = cc
first_right None b h = h

-- the first misused name of statements in sequence is that of the first part, or otherwise that of the second
pub misused_follow : (look : List ℕ → Option Slot) (a b : StatementList Named) → misused look (follow a b)
    ≡ first_of (misused look a) (misused look b)
misused_follow look none b = refl
misused_follow look (assign to e rest) b =
    let x = first_of (bare_misuse to.at (look to.text)) (misused_expression look e) in
    ap (first_of x) (misused_follow look rest b) ∙ sym (first_three x (misused look rest) (misused look b))
misused_follow look (assign_at to i e rest) b =
    let x = first_of (index_misuse to.at (look to.text))
    (first_of (misused_expression look i) (misused_expression look e)) in
    ap (first_of x) (misused_follow look rest b) ∙ sym (first_three x (misused look rest) (misused look b))
misused_follow look (loop e body rest) b =
    let x = first_of (misused_expression look e) (misused look body) in
    ap (first_of x) (misused_follow look rest b) ∙ sym (first_three x (misused look rest) (misused look b))
misused_follow look (choose e if_so if_not rest) b =
    let x = first_of (misused_expression look e) (first_of (misused look if_so) (misused look if_not)) in
    ap (first_of x) (misused_follow look rest b) ∙ sym (first_three x (misused look rest) (misused look b))

-- noting two parts in turn notes the first misuse in either
pub two_notes : (first now new x y : Option ℕ) → now ≡ first_of first x → new ≡ first_of now y → new
    ≡ first_of first (first_of x y)
two_notes first now new x y before more = more ∙ ap (λ v. first_of v y) before ∙ first_three first x y

-- an empty list of statements leaves the note unchanged
pub misuse_none : (look : List ℕ → Option Slot) (first : Option ℕ) → first
    ≡ first_of first (misused look (plain_list named []))
misuse_none look first = sym (ap (λ v. first_of first (misused look v)) (list_empty named) ∙ first_end first)

-- after one more statement, the first misused name of all statements is noted
pub misuse_more : (look : List ℕ → Option Slot) (first now new : Option ℕ) (xs : List (Stmt Spot)) (s : Stmt Spot) → now
    ≡ first_of first (misused look (plain_list named xs)) → new
    ≡ first_of now (misused look (plain_statement named s none)) → new
    ≡ first_of first (misused look (plain_list named (xs ++ s ∷ [])))
misuse_more look first now new xs s before more =
    let x = misused look (plain_list named xs) in
    let y = misused look (plain_statement named s none) in
    two_notes first now new x y before more
    ∙ ap (first_of first) (sym (ap (misused look) (list_push named xs s)
    ∙ misused_follow look (plain_list named xs) (plain_statement named s none)))

-- a slot that exists and is not misused without an index is not a run
pub bare_fits : (c v at : ℕ) (o : Option Slot) (s : Slot) → found at o ≡ Ok s → AnyFits c v s → bare_misuse at o
    ≡ None → SlotFits c v s
bare_fits c v at None s e h g = cc
bare_fits c v at (Some (Cell k)) (Cell j) e h g = h
bare_fits c v at (Some (Var x)) (Var y) e h g = h
bare_fits c v at (Some (Run f l)) s e h g = cc
bare_fits c v at (Some x) _ e h g = cc

-- a slot that exists and is not misused with an index is a run
pub index_fits : (c v at : ℕ) (o : Option Slot) (s : Slot) → found at o ≡ Ok s → AnyFits c v s → index_misuse at o
    ≡ None → RunFits c s
index_fits c v at None s e h g = cc
index_fits c v at (Some (Run f l)) (Run k m) e h g = h
index_fits c v at (Some (Cell k)) s e h g = cc
index_fits c v at (Some (Var x)) s e h g = cc
index_fits c v at (Some x) _ e h g = cc

-- both operands fit if neither has a misused name
pub both_fit : (c v : ℕ) (a b : Option ℕ) (x y : Expression Slot) → first_of a b ≡ None →
    (a ≡ None → ExpressionFits c v x) → (b ≡ None → ExpressionFits c v y) → ExpressionFits c v x × ExpressionFits c v y
both_fit c v a b x y h f g = (f (first_left a b h), g (first_right a b h))

module _ (table : List ℕ → Option Slot) (c v : ℕ) (s : Stmt Spot) (h : misused table (plain_statement named s none)
    ≡ None) where
  -- an assignment to a name without an index fits if it has no misused name
  pub assign_fits : (to : Spot) (e : Expr Spot) (x : Slot) (y : Expr Slot) → s ≡ Assign to e →
      found to.at (table to.text.now) ≡ Ok x → AnyFits c v x →
      (misused_expression table (plain_expression named e) ≡ None → ExpressionFits c v (plain_expression same_slot y)) →
      StatementsFit c v (plain_statement same_slot (Assign x y) none)
  assign_fits to e x y is there fit value =
      let p = bare_misuse to.at (table to.text.now) in
      let q = misused_expression table (plain_expression named e) in
      let all : first_of (first_of p q) None ≡ None = sym (ap (λ w. misused table (plain_statement named w none)) is
      ∙ ap (misused table) (assign_form named to e none)) ∙ h in
      let parts = first_left (first_of p q) None all in
      subst (StatementsFit c v) (sym (assign_form same_slot x y none))
      (bare_fits c v to.at (table to.text.now) x there fit (first_left p q parts), value (first_right p q parts), tt)

  -- an assignment to a name with an index fits if it has no misused name
  pub assign_at_fits : (to : Spot) (i e : Expr Spot) (x : Slot) (j y : Expr Slot) → s ≡ AssignAt to i e →
      found to.at (table to.text.now) ≡ Ok x → AnyFits c v x →
      (misused_expression table (plain_expression named i) ≡ None → ExpressionFits c v (plain_expression same_slot j)) →
      (misused_expression table (plain_expression named e) ≡ None → ExpressionFits c v (plain_expression same_slot y))
      →
      StatementsFit c v (plain_statement same_slot (AssignAt x j y) none)
  assign_at_fits to i e x j y is there fit index value =
      let p = index_misuse to.at (table to.text.now) in
      let q = misused_expression table (plain_expression named i) in
      let r = misused_expression table (plain_expression named e) in
      let all : first_of (first_of p (first_of q r)) None
      ≡ None = sym (ap (λ w. misused table (plain_statement named w none)) is
      ∙ ap (misused table) (assign_at_form named to i e none)) ∙ h in
      let parts = first_left (first_of p (first_of q r)) None all in
      let inside = first_right p (first_of q r) parts in
      subst (StatementsFit c v) (sym (assign_at_form same_slot x j y none)) (
        index_fits c v to.at (table to.text.now) x there fit (first_left p (first_of q r) parts),
        index (first_left q r inside),
        value (first_right q r inside),
        tt,
      )

  -- a choice fits if it has no misused name
  pub choose_fits : (e : Expr Spot) (one other : Vec (Stmt Spot) Global) (y : Expr Slot)
      (if_so if_not : Vec (Stmt Slot) Global) → s ≡ If e one other →
      (misused_expression table (plain_expression named e) ≡ None → ExpressionFits c v (plain_expression same_slot y)) →
      (misused table (plain_list named one.items) ≡ None → StatementsFit c v (plain_list same_slot if_so.items)) →
      (misused table (plain_list named other.items) ≡ None → StatementsFit c v (plain_list same_slot if_not.items)) →
      StatementsFit c v (plain_statement same_slot (If y if_so if_not) none)
  choose_fits e one other y if_so if_not is test first second =
      let p = misused_expression table (plain_expression named e) in
      let q = misused table (plain_list named one.items) in
      let r = misused table (plain_list named other.items) in
      let all : first_of (first_of p (first_of q r)) None
      ≡ None = sym (ap (λ w. misused table (plain_statement named w none)) is
      ∙ ap (misused table) (if_form named e one other none)) ∙ h in
      let parts = first_left (first_of p (first_of q r)) None all in
      let inside = first_right p (first_of q r) parts in
      subst (StatementsFit c v) (sym (if_form same_slot y if_so if_not none)) (
        test (first_left p (first_of q r) parts),
        first (first_left q r inside),
        second (first_right q r inside),
        tt,
      )

module _ (table : List ℕ → Option Slot) (s : Stmt Spot) (old : Option ℕ) where
  -- the first misused name of a statement is noted if that of its plain form is
  noted : (m : StatementList Named) (new x : Option ℕ) → plain_statement named s none ≡ m → new ≡ first_of old x →
      misused table m ≡ first_of x None → new ≡ first_of old (misused table (plain_statement named s none))
  noted m new x is by same = by ∙ ap (first_of old) (sym (ap (misused table) is ∙ same ∙ first_end x))

  -- the first misused name of an assignment to a name without an index is noted
  pub assign_noted : (to : Spot) (e : Expr Spot) (one new : Option ℕ) → s ≡ Assign to e → one
      ≡ first_of old (bare_misuse to.at (table to.text.now)) → new
      ≡ first_of one (misused_expression table (plain_expression named e)) → new
      ≡ first_of old (misused table (plain_statement named s none))
  assign_noted to e one new is a b =
      let p = bare_misuse to.at (table to.text.now) in
      let q = misused_expression table (plain_expression named e) in
      noted (assign (named to) (plain_expression named e) none) new (first_of p q)
      (ap (λ w. plain_statement named w none) is ∙ assign_form named to e none) (two_notes old one new p q a b) refl

  -- the first misused name of an assignment to a name with an index is noted
  pub assign_at_noted : (to : Spot) (i e : Expr Spot) (one two new : Option ℕ) → s ≡ AssignAt to i e → one
      ≡ first_of old (index_misuse to.at (table to.text.now)) → two
      ≡ first_of one (misused_expression table (plain_expression named i)) → new
      ≡ first_of two (misused_expression table (plain_expression named e)) → new
      ≡ first_of old (misused table (plain_statement named s none))
  assign_at_noted to i e one two new is a b c =
      let p = index_misuse to.at (table to.text.now) in
      let q = misused_expression table (plain_expression named i) in
      let r = misused_expression table (plain_expression named e) in
      noted (assign_at (named to) (plain_expression named i) (plain_expression named e) none) new
      (first_of p (first_of q r)) (ap (λ w. plain_statement named w none) is ∙ assign_at_form named to i e none)
      (two_notes old one new p (first_of q r) a (two_notes one two new q r b c)) refl

  -- the first misused name of a loop is noted
  pub loop_noted : (e : Expr Spot) (body : Vec (Stmt Spot) Global) (one new : Option ℕ) → s ≡ While e body → one
      ≡ first_of old (misused_expression table (plain_expression named e)) → new
      ≡ first_of one (misused table (plain_list named body.items)) → new
      ≡ first_of old (misused table (plain_statement named s none))
  loop_noted e body one new is a b =
      let p = misused_expression table (plain_expression named e) in
      let q = misused table (plain_list named body.items) in
      noted (loop (plain_expression named e) (plain_list named body.items) none) new (first_of p q)
      (ap (λ w. plain_statement named w none) is ∙ while_form named e body none) (two_notes old one new p q a b) refl

  -- the first misused name of a choice is noted
  pub choose_noted : (e : Expr Spot) (if_so if_not : Vec (Stmt Spot) Global) (one two new : Option ℕ) → s
      ≡ If e if_so if_not → one ≡ first_of old (misused_expression table (plain_expression named e)) → two
      ≡ first_of one (misused table (plain_list named if_so.items)) → new
      ≡ first_of two (misused table (plain_list named if_not.items)) → new
      ≡ first_of old (misused table (plain_statement named s none))
  choose_noted e if_so if_not one two new is a b c =
      let p = misused_expression table (plain_expression named e) in
      let q = misused table (plain_list named if_so.items) in
      let r = misused table (plain_list named if_not.items) in
      noted (choose (plain_expression named e) (plain_list named if_so.items) (plain_list named if_not.items) none) new
      (first_of p (first_of q r)) (ap (λ w. plain_statement named w none) is ∙ if_form named e if_so if_not none)
      (two_notes old one new p (first_of q r) a (two_notes one two new q r b c)) refl

pub ruleset uses = (bare_fits, index_fits, first_left, first_right)
