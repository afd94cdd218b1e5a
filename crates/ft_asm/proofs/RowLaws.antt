-- A row of a table reads exactly the words that have its form.
use Rattle.std.proofs.Common.{◌≡◌, ℕ, ◌^◌, List, [], ◌∷◌, ◌++◌, map, Option, Some, refl, ap, sym, ◌∙◌, subst, arith}
use Rattle.std.specs.Prelude.{if◌then◌else◌}
use Rattle.std.specs.Str.{bytes_eq}
use Rattle.std.specs.Option.{option_map, option_and_then}
use Rattle.std.specs.List.{AllByRecursion}
use Rattle.std.proofs.lemmas.Option.{option_and_then_some}
use Rattle.ft_isa.proofs.Branches.{of_map, chosen}
use Rattle.ft_asm.specs.Operands.{Operand, AReg, AColour, AByte, AnIndex, AWord, ABasic, AName, operand_word, Form}
use Rattle.ft_asm.specs.Operands.{form, form_words}
use Rattle.ft_asm.specs.Words.{IsAnyWord}
use Rattle.ft_asm.specs.Forms.{Kind, OneReg, OneColour, OneByte, OneIndex, OneWord, OneBasic, OneName, Value, value_in}
use Rattle.ft_text.specs.LineWords.{taken}
use Rattle.ft_asm.specs.Forms.{FitsOperand, FitsOperands, Taking, made_in, Row, row_in, among}
use Rattle.ft_asm.proofs.FieldLaws.{number_field, colour_field, reg_field, basic_field}
use Rattle.ft_asm.proofs.Texts.{AreWords}

-- OPERANDS

-- the operand of a value, by its kind, and the kind and value of an operand
abbrev pub operand_of : (k : Kind) → Value k → Operand
operand_of OneReg r = AReg r
operand_of OneColour c = AColour c
operand_of OneByte n = AByte n
operand_of OneIndex n = AnIndex n
operand_of OneWord n = AWord n
operand_of OneBasic basic = ABasic basic
operand_of OneName name = AName name

abbrev pub kind_of : Operand → Kind
kind_of (AReg r) = OneReg
kind_of (AColour c) = OneColour
kind_of (AByte n) = OneByte
kind_of (AnIndex n) = OneIndex
kind_of (AWord n) = OneWord
kind_of (ABasic basic) = OneBasic
kind_of (AName name) = OneName

abbrev pub value_of : (o : Operand) → Value (kind_of o)
value_of (AReg r) = r
value_of (AColour c) = c
value_of (AByte n) = n
value_of (AnIndex n) = n
value_of (AWord n) = n
value_of (ABasic basic) = basic
value_of (AName name) = name

value_sound : (k : Kind) (w : List ℕ) (v : Value k) → IsAnyWord w → value_in k w ≡ Some v →
    FitsOperand (operand_of k v) × (w ≡ operand_word (operand_of k v))
value_sound OneReg w r h e = reg_field.sound w r e
value_sound OneColour w c h e = colour_field.sound w c e
value_sound OneByte w n h e = (number_field (2 ^ 8) (omega arith)).sound w n e
value_sound OneIndex w n h e = (number_field (2 ^ 32) (omega arith)).sound w n e
value_sound OneWord w n h e = (number_field (2 ^ 64) (omega arith)).sound w n e
value_sound OneBasic w basic h e = basic_field.sound w basic e
value_sound OneName w name h e = let same : w ≡ name = cc in (subst IsAnyWord same h, same)

value_again : (o : Operand) → FitsOperand o → value_in (kind_of o) (operand_word o) ≡ Some (value_of o)
value_again (AReg r) h = reg_field.complete r h
value_again (AColour c) h = colour_field.complete c h
value_again (AByte n) h = (number_field (2 ^ 8) (omega arith)).complete n h
value_again (AnIndex n) h = (number_field (2 ^ 32) (omega arith)).complete n h
value_again (AWord n) h = (number_field (2 ^ 64) (omega arith)).complete n h
value_again (ABasic basic) h = basic_field.complete basic h
value_again (AName name) h = refl

-- a value of each kind, the function applied to these values, and their operands
abbrev pub Values : List Kind → Type 0
Values [] = Unit {0}
Values (k ∷ ks) = Value k × Values ks

abbrev pub with_values : {A : Type 0} (ks : List Kind) → Taking ks A → Values ks → A
with_values [] made vs = made
with_values (k ∷ ks) made vs = with_values ks (made vs.0) vs.1

abbrev pub operands_of : (ks : List Kind) → Values ks → List Operand
operands_of [] vs = []
operands_of (k ∷ ks) vs = operand_of k vs.0 ∷ operands_of ks vs.1

-- the words begin with operands of these kinds, and `a` is the function applied to the values of these operands
pub record AreMade {A : Type 0} (ks : List Kind) (made : Taking ks A) (ws : List (List ℕ)) (a : A)
    (rest : List (List ℕ)) : Type 0 where
  pub values : Values ks
  pub is : with_values ks made values ≡ a
  pub fit : AllByRecursion FitsOperand (operands_of ks values)
  pub words : ws ≡ map operand_word (operands_of ks values) ++ rest

pub made_sound : {A : Type 0} (ks : List Kind) (made : Taking ks A) (ws : List (List ℕ)) (a : A) (rest : List (List ℕ))
    → AreWords ws → made_in ks made ws ≡ Some (a, rest) → AreMade ks made ws a rest
made_sound {A} [] made ws a rest h e =
    let both : (made, ws) ≡ (a, rest) = cc in
    record {
      values = tt;
      is = ap (λ (p : A × List (List ℕ)). p.0) both;
      fit = tt;
      words = ap (λ (p : A × List (List ℕ)). p.1) both;
    }
made_sound (k ∷ ks) made [] a rest h e = absurd cc
made_sound {A} (k ∷ ks) made (w ∷ ws) a rest h e =
    option_and_then_some (λ p. made_in ks (made p.0) p.1) (taken (value_in k) (w ∷ ws)) (a, rest) e
    (λ p t g.
    let read = of_map (λ v. (v, ws)) (value_in k w) p t in
    let own = value_sound k w read.0 h.0 read.1.0 in
    let after = subst (λ (q : Value k × List (List ℕ)). made_in ks (made q.0) q.1 ≡ Some (a, rest)) (sym read.1.1) g in
    let others = made_sound ks (made read.0) ws a rest h.1 after in
    record {
      values = (read.0, others.values);
      is = others.is;
      fit = (own.0, others.fit);
      words = ap (λ x. x ∷ ws) own.1 ∙ ap (λ xs. operand_word (operand_of k read.0) ∷ xs) others.words;
    })

-- the word of an operand that fits is read as its value
pub taken_again : {A : Type 0} (o : Operand) → FitsOperand o → (next : Value (kind_of o) × List (List ℕ) → Option A)
    (ws : List (List ℕ)) → option_and_then next (taken (value_in (kind_of o)) (operand_word o ∷ ws))
    ≡ next (value_of o, ws)
taken_again o h next ws = ap (λ (v : Option (Value (kind_of o))). option_and_then next (option_map (λ u. (u, ws)) v))
    (value_again o h)

-- a function applied to the values of operands
abbrev pub applied : {A : Type 0} (os : List Operand) → Taking (map kind_of os) A → A
applied [] made = made
applied (o ∷ os) made = applied os (made (value_of o))

pub made_again : {A : Type 0} (os : List Operand) (made : Taking (map kind_of os) A) (rest : List (List ℕ)) →
    AllByRecursion FitsOperand os → made_in (map kind_of os) made (map operand_word os ++ rest)
    ≡ Some (applied os made, rest)
made_again [] made rest h = refl
made_again (o ∷ os) made rest h = taken_again o h.0 _ (map operand_word os ++ rest)
    ∙ made_again os (made (value_of o)) rest h.1

-- ROWS

-- the row of a table with this first word, or `other` if there is none
abbrev pub row_at : {A : Type 0} → List (Row A) → List ℕ → Row A → Row A
row_at [] w other = other
row_at (r ∷ rs) w other = if bytes_eq w r.first then r else row_at rs w other

module _ {A : Type 0} (form_of : A → Form) (Also : A → Type 0) where
  -- the value that a row makes has the form of its first word and its operands, and satisfies `Also`
  abbrev pub IsRight : Row A → Type 0
  IsRight r = (vs : Values r.kinds) → (form_of (with_values r.kinds r.made vs) ≡ form r.first (operands_of r.kinds vs))
      × Also (with_values r.kinds r.made vs)

  -- these words begin with the form of `a`
  pub record Begins (w : List ℕ) (ws : List (List ℕ)) (a : A) (rest : List (List ℕ)) : Type 0 where
    pub fit : FitsOperands (form_of a)
    pub words : w ∷ ws ≡ form_words (form_of a) ++ rest
    pub also : Also a

  pub row_sound : (ws : List (List ℕ)) → AreWords ws → (r : Row A) → IsRight r → (p : A × List (List ℕ)) → row_in r ws
      ≡ Some p → Begins r.first ws p.0 p.1
  row_sound ws h r right p e =
      let made = made_sound r.kinds r.made ws p.0 p.1 h e in
      let own = right made.values in
      let same : form r.first (operands_of r.kinds made.values) ≡ form_of p.0 = sym own.0 ∙ ap form_of made.is in
      record {
        fit = subst FitsOperands same made.fit;
        words = ap (λ xs. r.first ∷ xs) made.words ∙ ap (λ (f : Form). form_words f ++ p.1) same;
        also = subst Also made.is own.1;
      }

  -- if P holds of whatever a row reads, and of `other`, it holds of whatever the table reads
  pub among_sound : {B : Type 0} (P : List ℕ → B → Type 0) (read : Row A → Option B) →
      ((r : Row A) → IsRight r → (b : B) → read r ≡ Some b → P r.first b) → (rs : List (Row A)) →
      AllByRecursion IsRight rs → (w : List ℕ) (other : Option B) → ((b : B) → other ≡ Some b → P w b) →
      (b : B) → among rs read w other ≡ Some b → P w b
  among_sound P read one [] right w other left = left
  among_sound P read one (r ∷ rs) right w other left =
      chosen P r.first w (read r) (among rs read w other) (one r right.0)
      (among_sound P read one rs right.1 w other left)
