-- The parts of a module can be raised if it obeys the rules of the format and fits after the modules before it.
use Rattle.std.proofs.Common.{◌≡◌, ℕ, zero, suc, ◌+◌, ◌<◌, ◌≤◌, ◌^◌, ◌==◌, List, [], ◌∷◌, length, slice_get, Option}
use Rattle.std.proofs.Common.{Some, None, refl, ap, ◌∙◌, subst, arith, eqb-true}
use Rattle.std.specs.Option.{option_map}
use Rattle.std.proofs.lemmas.Option.{slice_get_within}
use Rattle.ft_isa.specs.Words.{code_address}
use Rattle.ft_isa.specs.declared.basic.Base.{Base}
use Rattle.ft_isa.specs.declared.basic.Base.TheVariants.{Int, Code}
use Rattle.ft_isa.specs.declared.basic.Basic.{Basic}
use Rattle.ft_isa.specs.declared.colour.Coloured.{Coloured}
use Rattle.ft_isa.specs.declared.reg.Reg.{Reg}
use Rattle.ft_isa.specs.declared.instr.Subst.{Subst}
use Rattle.ft_isa.specs.declared.instr.Instr.{Instr}
use Rattle.ft_isa.specs.declared.instr.Instr.TheVariants.{Mov, JmpB, BzB}
use Rattle.ft_isa.proofs.Lists.{all_there}
use Rattle.ft_static.specs.NodeRules.{MayName, IsShape}
use Rattle.ft_static.specs.declared.node.Node.{Node}
use Rattle.ft_static.specs.declared.node.Shape.{Shape}
use Rattle.ft_static.proofs.NodeTrees.{each_part, parts_named}
use Rattle.ft_types.specs.declared.object.Object.{Object}
use Rattle.ft_types.specs.declared.object.Block.{Block}
use Rattle.ft_types.specs.Objects.{code_type_of}
use Rattle.ft_types.specs.Spellable.{IsBase, IsNodeIn, IsRegRow, IsQueueRow, IsCodeType, HasCodeType, IsInstr, subst_of}
use Rattle.ft_types.specs.Spellable.{IsSubst, before, substs_of, Cover, IsSpellable}
use Rattle.ft_types.proofs.BlockStarts.{below_end}
use Rattle.ft_typing.specs.TypedWord.{block_at, code_type_at, HasType, HasTypeOver}
use Rattle.ft_tolerance.proofs.Lists.{found_there}
use Rattle.ft_modules.specs.declared.before.Before.{Before}
use Rattle.ft_linker.specs.Raises.{Each, CanRaiseShape, CanRaiseNode, CanRaiseType, CanRaiseBlock, CanRaiseSubst}
use Rattle.ft_linker.specs.Raises.{CanRaiseOver, CanRaise}
use Rattle.ft_linker.specs.Tables.{Fits, HasTypedMoves}

-- NODES

named_low : (nodes : List Node) (n scope : ℕ) (b : _) (k m : ℕ) → MayName nodes n scope b m → n ≤ length nodes →
    k + length nodes ≤ 1048576 → k + m < 2 ^ 32
named_low nodes n scope b k m h le fit = let l = h.lower in omega (arith, l, le, fit)

shape_raises : (nodes : List Node) (n scope k : ℕ) (y : Shape) → IsShape nodes n scope y → n ≤ length nodes →
    k + length nodes ≤ 1048576 → CanRaiseShape k y
shape_raises nodes n scope k y h le fit = each_part _ _ (λ b m p. named_low nodes n scope b k m p le fit) y
    (parts_named nodes n scope y h)

pub nodes_raise : (o : Object) (k : Before) → IsSpellable o → Fits k o → Each (CanRaiseNode k.nodes) o.nodes
nodes_raise o k s f = λ n y e. shape_raises o.nodes n y.scope k.nodes y.shape (s.nodes.each n y e).shape (let l =
    slice_get_within o.nodes n y e in omega (arith, l)) f.nodes

-- TYPES

node_low : (nodes : List Node) (scope : ℕ) (b : _) (k m : ℕ) → IsNodeIn nodes scope b m → k + length nodes ≤ 1048576 →
    k + m < 2 ^ 32
node_low nodes scope b k m h fit = named_low nodes (length nodes) scope b k m h (omega arith) fit

pub types_raise : (o : Object) (k : Before) → IsSpellable o → Fits k o → Each (CanRaiseType k.nodes) o.types
types_raise o k s f = λ n t e.
    let is : IsCodeType (length o.types) o.nodes t = all_there (IsCodeType (length o.types) o.nodes) o.types n t s.types
    e in
    record {
      regs = λ j r g. node_low o.nodes t.ints _ k.nodes r.expr
          (all_there (IsRegRow (length o.types) o.nodes t.ints) t.regs j r is.regs g).expr f.nodes;
      queue = λ j q g.
          let is_row = all_there (IsQueueRow o.nodes t.ints) t.queue j q is.queue g in (
            node_low o.nodes t.ints _ k.nodes q.0 is_row.address f.nodes,
            node_low o.nodes t.ints _ k.nodes q.1 is_row.value f.nodes,
          );
      memory = node_low o.nodes t.ints _ k.nodes t.memory is.memory f.nodes;
    }

-- BLOCKS

pub blocks_raise : (o : Object) (k : Before) → IsSpellable o → Fits k o → Each (CanRaiseBlock k) o.blocks
blocks_raise o k s f = λ n y e.
    let low = below_end (length o.instrs) 0 o.blocks n y s.blocks e in
    let typed : y.code_type < length o.types = all_there (HasCodeType (length o.types)) o.blocks n y s.block_types e in
    let fi = f.instrs in
    let ft = f.types in
    record { start = omega (arith, low, fi); code_type = omega (arith, typed, ft) }

-- INSTRUCTIONS

-- if substitutions cover the rows in order, each obeys the rules, and those after the first cover the later rows
cover_by : (nodes : List Node) (rows first : ℕ) (us : List Subst) (x : Option Subst) →
    Cover nodes rows first (before x us) → (f : ℕ) × Cover nodes rows f us
cover_by nodes rows first us None h = (first, h)
cover_by nodes rows first us (Some s) h = (s.past, h.1)

cover_here : (nodes : List Node) (rows first : ℕ) (us : List Subst) (x : Option Subst) (u : Subst) →
    Cover nodes rows first (before x us) → x ≡ Some u → IsSubst nodes rows first u
cover_here nodes rows first us None u h e = cc
cover_here nodes rows first us (Some s) u h e = let same : s ≡ u = cc in subst (IsSubst nodes rows first) same h.0

cover_one : (nodes : List Node) (rows first : ℕ) (is : List Instr) (n : ℕ) (i : Instr) (u : Subst) →
    Cover nodes rows first (substs_of is) → slice_get is n ≡ Some i → subst_of i ≡ Some u → (f : ℕ)
    × IsSubst nodes rows f u
cover_one nodes rows first [] n i u h e g = cc
cover_one nodes rows first (j ∷ js) zero i u h e g = let same : j ≡ i = cc in
    (first, cover_here nodes rows first (substs_of js) (subst_of j) u h (ap subst_of same ∙ g))
cover_one nodes rows first (j ∷ js) (suc n) i u h e g = let r =
    cover_by nodes rows first (substs_of js) (subst_of j) h in cover_one nodes rows r.0 js n i u r.1 e g

-- the address of a block is at most the number of instructions
address_by : (o : Object) (w t : ℕ) (y : Option Block) → IsSpellable o → block_at o w ≡ y → option_map code_type_of y
    ≡ Some t → w ≤ length o.instrs
unfolding block_at
address_by o w t None s e g = cc
address_by o w t (Some y) s e g =
    let f = found_there (λ (b : Block). w == code_address b.start) o.blocks y e in
    let is = eqb-true w (code_address y.start) f.passes in
    let low = below_end (length o.instrs) 0 o.blocks f.place y s.blocks f.there in
    omega (arith, is, low)

address_low : (o : Object) (w t : ℕ) → IsSpellable o → code_type_at o w ≡ Some t → w ≤ length o.instrs
address_low o w t s e = address_by o w t (block_at o w) s refl e

mov_raises : (o : Object) (k : Before) (w n : ℕ) (base : Base) → IsSpellable o → Fits k o →
    IsBase (length o.types) base → HasTypeOver o w n base → CanRaiseOver k w n base
mov_raises o k w zero Int s f b h = tt
mov_raises o k w zero (Code t) s f b h =
    let low = address_low o w t s h in
    let fi = f.instrs in
    let ft = f.types in
    (omega (arith, low, fi), omega (arith, b, ft))
mov_raises o k w (suc n) base s f b h = tt

subst_raises : (o : Object) (k : Before) (u : Subst) → Fits k o → (f : ℕ) × IsSubst o.nodes (length o.substs) f u →
    CanRaiseSubst k u
subst_raises o k u f h =
    let is = h.1 in
    let rising = is.rising in
    let there = is.there in
    let fs = f.substs in
    record {
      first = omega (arith, rising, there, fs);
      past = omega (arith, there, fs);
      memory = node_low o.nodes 128 _ k.nodes u.memory is.memory f.nodes;
    }

instr_raises : (o : Object) (k : Before) (i : Instr) → IsSpellable o → Fits k o →
    IsInstr (length o.types) (length o.cells) i → ((rd : Reg) (v : Coloured) (b : Basic) → i ≡ Mov rd b v →
    HasType o v.word b) → ((u : Subst) → subst_of i ≡ Some u → (f : ℕ) × IsSubst o.nodes (length o.substs) f u) →
    CanRaise k i
instr_raises o k (Mov rd b v) s f h m u = mov_raises o k v.word b.refs b.base s f h.1.base (m rd v b refl)
instr_raises o k (JmpB rd x) s f h m u = subst_raises o k x f (u x refl)
instr_raises o k (BzB rz rd x) s f h m u = subst_raises o k x f (u x refl)
instr_raises o k i s f h m u = tt

pub instrs_raise : (o : Object) (k : Before) → IsSpellable o → HasTypedMoves o → Fits k o → Each (CanRaise k) o.instrs
instrs_raise o k s m f = λ n i e.
    instr_raises o k i s f (all_there (IsInstr (length o.types) (length o.cells)) o.instrs n i s.instrs e)
    (λ rd v b same. m n rd v b (e ∙ ap Some same))
    (λ u g. cover_one o.nodes (length o.substs) 0 o.instrs n i u s.covered e g)

pub substs_raise : (o : Object) (k : Before) → IsSpellable o → Fits k o → Each (λ n. k.nodes + n < 2 ^ 32) o.substs
substs_raise o k s f = λ n m e. node_low o.nodes 128 _ k.nodes m
    (all_there (IsNodeIn o.nodes 128 _) o.substs n m s.substs e) f.nodes
