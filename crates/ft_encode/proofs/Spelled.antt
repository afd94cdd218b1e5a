-- What holds of the spelling of an object that obeys the rules.
use Rattle.std.proofs.Common.{◌≡◌, ℕ, List, [], ◌++◌, Result, Ok, Err, None, Vec, Global, length, sym, ◌∙◌, arith}
use Rattle.std.specs.Prelude.{IfOk}
use Rattle.std.proofs.lemmas.List.Sums.{sum_by-le}
use Rattle.ft_isa.specs.declared.memory.NoMemory.{NoMemory}
use Rattle.ft_types.specs.declared.object.Object.{Object}
use Rattle.ft_types.specs.declared.object.Cell.{Cell}
use Rattle.ft_types.specs.Objects.{name_of}
use Rattle.ft_types.specs.Spellable.{IsSpellable}
use Rattle.ft_format.specs.Fits.{HasCounts}
use Rattle.ft_format.specs.declared.version.Version.{Version}
use Rattle.ft_format.specs.declared.version.Version.TheVariants.{Second}
use Rattle.ft_format.specs.Broken.{broken, object_of}
use Rattle.ft_format.specs.Format.{Spells}
use Rattle.ft_format.specs.Rows.{spelling}
use Rattle.ft_format.proofs.Versions.{has_all}
use Rattle.ft_format.proofs.Write.{spells_unbroken, spells_read, spells_apart}

-- the tables of an object that obeys the rules have fewer than 2^32 rows
pub counted : (o : Object) → IsSpellable o → HasCounts o
counted o s =
    let names = sum_by-le (λ (x : Cell). length (name_of x)) 40 o.cells (λ k d lt. (s.cells k d lt).name_length) in
    record {
      cells = omega (arith, s.few_cells);
      nodes = omega (arith, s.nodes.few);
      types = omega (arith, s.few_types);
      regs = omega (arith, s.few_reg_rows);
      queue = omega (arith, s.few_queue_rows);
      blocks = omega (arith, s.few_blocks);
      instrs = omega (arith, s.few_instrs);
      substs = omega (arith, s.few_substs);
      names = omega (arith, s.few_cells);
    }

module _ (o : Object) where
  abbrev IsSpelling : Result (Vec ℕ Global) NoMemory → Type 0
  IsSpelling r = IfOk r (λ bytes. bytes.items ≡ spelling Second o)

  spells : (bytes : List ℕ) → IsSpellable o → bytes ≡ spelling Second o → Spells bytes Second o
  spells bytes h e = record { spellable = h; has = has_all o h; spelled = e }

  pub unbroken : (r : Result (Vec ℕ Global) NoMemory) → IsSpellable o → IsSpelling r →
      IfOk r (λ bytes. broken bytes.items ≡ None)
  unbroken (Ok v) h e = spells_unbroken v.items Second o (spells v.items h e)
  unbroken (Err x) h e = tt

  pub back : (r : Result (Vec ℕ Global) NoMemory) → IsSpellable o → IsSpelling r →
      IfOk r (λ bytes. Spells bytes.items Second o × (object_of bytes.items ≡ o))
  back (Ok v) h e = let s = spells v.items h e in (s, spells_read v.items Second o s)
  back (Err x) h e = tt

  pub one : (r : Result (Vec ℕ Global) NoMemory) → IsSpellable o → IsSpelling r →
      IfOk r (λ bytes. (other : List ℕ) → Spells other Second o → other ≡ bytes.items)
  one (Ok v) h e = λ other p. p.spelled ∙ sym e
  one (Err x) h e = tt

  pub apart : (r : Result (Vec ℕ Global) NoMemory) → IsSpellable o → IsSpelling r →
      IfOk r (λ bytes. (rest : List ℕ) (v : Version) (other : Object) → Spells (bytes.items ++ rest) v other → rest
      ≡ [])
  apart (Ok v) h e = λ rest w other q. spells_apart v.items rest Second w o other (spells v.items h e) q
  apart (Err x) h e = tt
